use Rattle.std.proofs.Common.{◌≡◌, ◌+◌, [], ◌∷◌, ◌++◌, length, sym, ap, ◌∙◌, arith}
use Rattle.edges.specs.Made.{edges_below, bound_at, edges_at, sources_at}
use Rattle.edges.proofs.Runs.{edges_below-none, starts_below-none, edges_below-more, starts_below-more, runs-are}
use Rattle.edges.proofs.Sound.{all-edges}
use Rattle.edges.proofs.edges.Edges.derive.Goals as goal

pub loop-i-init : goal.loop-i-init
loop-i-init c = record {
  table = c.new-table.ensures.empty ∙ sym (edges_below-none c.args.env.now c.args.compressed.now c.args.patterns.now);
  starts = c.in_ok-push.ensures.items ∙ ap (λ l. l ++ 0 ∷ []) c.new-starts.ensures.items ∙ sym (starts_below-none c.args.env.now c.args.compressed.now c.args.patterns.now);
  small = (let e = ap length c.new-table.ensures.empty in omega (arith, e));
}

pub loop-i-preserved : goal.loop-i-preserved
loop-i-preserved c =
    let table : c.add_state.new.table ≡ edges_below c.args.env.now c.args.compressed.now c.args.patterns.now (c.loop-i.i + 1) =
    c.in_ok-add_state.ensures.added ∙ ap (λ l. l ++ (bound_at c.args.env.now c.args.patterns.now c.loop-i.i ++ edges_at c.args.env.now c.args.compressed.now c.args.patterns.now c.loop-i.i (sources_at c.args.compressed.now c.args.patterns.now c.loop-i.i))) c.loop-i.invariant.table
    ∙ sym (edges_below-more c.args.env.now c.args.compressed.now c.args.patterns.now c.loop-i.i) in
    record {
      table = table;
      starts = c.in_ok-push-2.ensures.items ∙ ap (λ n. c.loop-i.starts.items ++ n ∷ []) (c.in_ok-end_of.ensures.value ∙ ap length table)
          ∙ ap (λ l. l ++ length (edges_below c.args.env.now c.args.compressed.now c.args.patterns.now (c.loop-i.i + 1)) ∷ []) c.loop-i.invariant.starts
          ∙ sym (starts_below-more c.args.env.now c.args.compressed.now c.args.patterns.now c.loop-i.i);
      small = c.in_ok-end_of.ensures.small;
    }

pub invariant_of-result : goal.invariant_of-result
invariant_of-result c =
    let states = ap length c.states-count.ensures.value in
    let past = c.loop-i-test.false in
    let within = c.loop-i.auto.i-end in
    (c.loop-i.invariant.small, runs-are c.args.env.now c.args.compressed.now c.args.patterns.now c.requires.compressed c.requires.patterns.1 c.loop-i.table c.loop-i.starts.items c.loop-i.i c.loop-i.invariant.table c.loop-i.invariant.starts (omega (arith, states, past, within)))

pub returns-clause-edges : goal.returns-clause-edges
returns-clause-edges c =
    let states = ap length c.states-count.ensures.value in
    let past = c.loop-i-test.false in
    let within = c.loop-i.auto.i-end in
    let all : c.loop-i.i ≡ length c.args.patterns.now.states = omega (arith, states, past, within) in
    all-edges c.args.env.now c.args.compressed.now c.args.patterns.now c.requires.compressed c.requires.patterns.1 c.loop-i.table (c.loop-i.invariant.table ∙ ap (λ n. edges_below c.args.env.now c.args.compressed.now c.args.patterns.now n) all)

pub returns-clause-small : goal.returns-clause-small
returns-clause-small c = c.loop-i.invariant.small

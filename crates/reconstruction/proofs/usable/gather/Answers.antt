use Rattle.std.proofs.Common.{◌≡◌, ◌++◌, ◌∷◌, [], leb, cond, get_or, ◌∙◌, sym, ap, arith}
use Rattle.reconstruction.specs.Usable.{usable_below}
use Rattle.reconstruction.proofs.Used.{run-start, run-more, run-end}
use Rattle.reconstruction.proofs.usable.gather.Goals as goal

pub loop-edge-init : goal.loop-edge-init
loop-edge-init c = c.clear.ensures.items ∙ sym (run-start c.args.limit c.args.floors.now c.args.state c.args.edges.now _ _ c.of_state-run.ensures.run)

pub loop-edge-preserved : goal.loop-edge-preserved
loop-edge-preserved c =
    let m = c.loop-edge.edge in
    c.in_ok-add_within.ensures.added ∙ ap (λ l. l ++ cond (leb (get_or c.args.floors.now m 0) c.args.limit) (m ∷ []) []) c.loop-edge.invariant
    ∙ sym (run-more c.args.limit c.args.floors.now c.args.state c.args.edges.now _ _ c.of_state-run.ensures.run m c.loop-edge.auto.edge c.loop-edge-test.true)

pub returns : goal.returns
returns c =
    let run = c.of_state-run.ensures.run in
    let order = run.order in
    let same : c.loop-edge.edge ≡ c.of_state-run.result.end = omega (arith, order, c.loop-edge.auto.edge-end, c.loop-edge-test.false) in
    record { gathered = c.loop-edge.invariant ∙ ap (usable_below c.args.limit c.args.floors.now c.args.edges.now c.args.state) same ∙ run-end c.args.limit c.args.floors.now c.args.state c.args.edges.now _ _ run }

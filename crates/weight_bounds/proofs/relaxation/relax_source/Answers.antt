use Rattle.std.proofs.Common.{◌≡◌, ◌+◌, ◌-◌, length, slice_get, sym, ap, subst, ◌∙◌, arith}
use Rattle.terms.proofs.Valid.{valid-decl, valid-pair, valid-depth}
use Rattle.weight_bounds.proofs.Lists.{some_eq, pair-get}
use Rattle.weight_bounds.proofs.Sourced.{source-decl, source-place, source-within}
use Rattle.weight_bounds.specs.Numbers.{IsSettled}
use Rattle.weight_bounds.specs.Rules.{Source, sources, of_decl, of_pair, source_rule, of_source}
use Rattle.weight_bounds.proofs.relaxation.relax_source.Goals as goal

pub relax_decl-requires : goal.relax_decl-requires
relax_decl-requires c =
    let g = c.args.setting.now.parts.now in
    let depth = valid-depth g c.args.setting.now.valid in
    let deep = c.requires.deep in
    let places = c.requires.places in
    let at = c.decl_at-decl.ensures.stands in
    let low = (valid-decl g c.args.setting.now.valid c.args.source c.decl_at-decl.result.now at).result in
    record {
      in_range = omega (arith, low, depth, deep, places);
      rule = of_source c.args.left c.args.source (of_decl c.decl_at-decl.result.now) deep (source-decl g c.args.source c.decl_at-decl.result.now at);
    }

pub relax_pair-requires : goal.relax_pair-requires
relax_pair-requires c =
    let g = c.args.setting.now.parts.now in
    let p = c.pair_at-pair.result in
    let number = c.args.source - c.len-first.result in
    let depth = valid-depth g c.args.setting.now.valid in
    let deep = c.requires.deep in
    let places = c.requires.places in
    let at = c.pair_at-pair.ensures.stands in
    let low = (valid-pair g c.args.setting.now.valid p.0 p.1 (pair-get g.pairs number p at)).1 in
    let whole : c.args.source ≡ length g.decls + number = omega (arith, c.if-place-first.false, c.len-first.ensures) in
    record {
      in_range = omega (arith, low, depth, deep, places);
      rule = of_source c.args.left c.args.source (of_pair g p) deep (ap (slice_get (sources g)) whole ∙ source-place g number p at);
    }

pub returns-then-place-first-clause-step : goal.returns-then-place-first-clause-step
returns-then-place-first-clause-step c = c.in_ok-relax_decl.ensures.relaxed.step

pub returns-then-place-first-clause-settled : goal.returns-then-place-first-clause-settled
returns-then-place-first-clause-settled c s is =
    let g = c.args.setting.now.parts.now in
    let at = source-decl g c.args.source c.decl_at-decl.result.now c.decl_at-decl.ensures.stands in
    let same : of_decl c.decl_at-decl.result.now ≡ s = some_eq (of_decl c.decl_at-decl.result.now) s (sym at ∙ is) in
    subst (λ (x : Source). IsSettled g c.args.setting.now.limit.value c.relax_decl.new.numbers c.relax_decl.new.queue.items (source_rule c.args.left x)) same c.in_ok-relax_decl.ensures.relaxed.settled

pub returns-then-place-first-2-clause-settled : goal.returns-then-place-first-2-clause-settled
returns-then-place-first-2-clause-settled c s is =
    let g = c.args.setting.now.parts.now in
    let p = c.pair_at-pair.result in
    let number = c.args.source - c.len-first.result in
    let whole : c.args.source ≡ length g.decls + number = omega (arith, c.if-place-first.false, c.len-first.ensures) in
    let at = ap (slice_get (sources g)) whole ∙ source-place g number p c.pair_at-pair.ensures.stands in
    let same : of_pair g p ≡ s = some_eq (of_pair g p) s (sym at ∙ is) in
    subst (λ (x : Source). IsSettled g c.args.setting.now.limit.value c.relax_pair.new.numbers c.relax_pair.new.queue.items (source_rule c.args.left x)) same c.in_ok-relax_pair.ensures.relaxed.settled

pub returns-clause-settled : goal.returns-clause-settled
returns-clause-settled c s is =
    let low = source-within c.args.setting.now.parts.now c.args.source s is in
    absurd (omega (arith, low, c.if-place-first.false, c.if-place-first-2.false, c.len-first.ensures, c.len.ensures))

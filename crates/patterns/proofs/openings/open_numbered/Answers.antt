use Rattle.std.proofs.Common.{◌≡◌, ◌∙◌, List, ℕ, length, ap, subst}
use Rattle.std.proofs.lemmas.Bool.{false≢true, lt-ltb}
use Rattle.std.proofs.lemmas.Option.{slice_get_within, get_or_from_slice_get}
use Rattle.succinct.specs.declared.kind.Succinct.{Succinct}
use Rattle.patterns.specs.States.{IsOpenKind}
use Rattle.patterns.proofs.openings.open_numbered.Goals as goal

pub returns-in_ok-open_kind-in-Some-clause-open : goal.returns-in_ok-open_kind-in-Some-clause-open
returns-in_ok-open_kind-in-Some-clause-open c found at =
    let K : List ℕ → Type 0 = λ l. IsOpenKind c.args.sets.now c.open_kind.new.states.keys c.args.from l in
    let same : c.in-Some.found.now ≡ found = c.in-Some.ensures.lookup.1 ∙ get_or_from_slice_get c.args.kinds.now c.args.kind found c.in-Some.found.now at in
    subst K (c.as_slice.ensures ∙ ap (λ (x : Succinct). x.needs) same) c.in_ok-open_kind-in-Some.ensures.open

pub returns-in-None-clause-open : goal.returns-in-None-clause-open
returns-in-None-clause-open c found at = absurd (false≢true (c.in-None.ensures.lookup.0 ∙ lt-ltb c.args.kind (length c.args.kinds.now) (slice_get_within c.args.kinds.now c.args.kind found at)))

use Rattle.std.proofs.Common.{◌++◌, ◌∙◌, List, ℕ, ap}
use Rattle.succinct.specs.Sets.{set_of}
use Rattle.patterns.proofs.Bindings.{joined-set}
use Rattle.patterns.proofs.steps.joined.Goals as goal

pub returns : goal.returns
returns c =
    let first = c.in_ok-extend_from_slice.ensures.items ∙ ap (λ (xs : List ℕ). xs ++ c.args.types.now) c.new-all.ensures.items in
    record { value = c.set_of.ensures.value ∙ ap set_of (c.in_ok-extend_from_slice-2.ensures.items ∙ ap (λ (xs : List ℕ). xs ++ c.args.more.now) first) ∙ joined-set c.args.types.now c.args.more.now c.requires.rising }

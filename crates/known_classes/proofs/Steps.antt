-- The answer of a step to an outer class.
use Rattle.std.proofs.Common.{◌≡◌, ◌∙◌, ap, sym, ℕ, List, Option, Some, None}
use Rattle.std.specs.Option.{option_map}
use Rattle.known_classes.specs.declared.canonical_text.Step.{Step}

pub step_none : (r : Option Step) (w : Option (List ℕ × List ℕ)) → r ≡ None → option_map (λ x. (x.outer.now, x.simple.now)) r ≡ w → w ≡ None
step_none r w e h = sym h ∙ ap (option_map (λ (x : Step). (x.outer.now, x.simple.now))) e

pub step_some : (r : Option Step) (x : Step) (w : Option (List ℕ × List ℕ)) → r ≡ Some x → option_map (λ x. (x.outer.now, x.simple.now)) r ≡ w → w ≡ Some (x.outer.now, x.simple.now)
step_some r x w e h = sym h ∙ ap (option_map (λ (x : Step). (x.outer.now, x.simple.now))) e

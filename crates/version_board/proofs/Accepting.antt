-- A change that was accepted stands in what its client has seen.
use Rattle.std.proofs.Common.{◌≡◌, ℕ, List, [], ◌∷◌, ◌++◌, length, ◌∙◌, subst, ap, length-append}
use mathlib.Core.List.{IsPrefix}
use Rattle.decl_index.specs.declared.change.Change.{Change}
use Rattle.version_board.specs.Publications.{MayFollow}
use Rattle.version_board.specs.Accepted.{IsAccepted}

pub accepts : (before journal told known : List Change) (change : Change) (number : ℕ) → journal ≡ before ++ change ∷ [] → told ≡ journal → number ≡ length journal → MayFollow before change → IsPrefix told known → IsAccepted known change number
accepts before journal told known change number added same count lawful begins = record {
  before = before;
  counted = count ∙ (ap length added ∙ length-append before (change ∷ []));
  stands = subst (λ (x : List Change). IsPrefix x known) (same ∙ added) begins;
  lawful = lawful;
}

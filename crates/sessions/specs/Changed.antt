-- How a change that is asked for is answered.
use Rattle.std.specs.Prelude.{◌≡◌, ◌⊎◌, ◌++◌, ℕ, List, codes, decimal, Some}
use Rattle.decl_index.specs.declared.change.Change.{Change}
use Rattle.decl_index.specs.declared.change.ChangeFault.{ChangeFault}
use Rattle.decl_index.specs.Refusals.{Refuses}
use Rattle.json_rpc.specs.declared.message.Id.{Id}
use Rattle.answers.specs.Failures.{change_refused}
use Rattle.answers.specs.Replies.{reply_text, failure}
use Rattle.sessions.specs.Worlds.{WorldState, IsWholeOf}
use Rattle.sessions.specs.Publications.{Accepts, Learns}
use Rattle.sessions.specs.Texts.{version_text}

-- It was made, and is answered by its version.
pub record IsChangeMade (change : Change) (id : Id) (reply : List ℕ) (old new : WorldState) : Type 0 where
  pub number : ℕ
  pub accepts : Accepts change number old new
  pub told : reply ≡ version_text id number

-- It was refused after all that is then known, and the cause is answered.
pub record IsChangeRefused (change : Change) (id : Id) (reply : List ℕ) (old new : WorldState) : Type 0 where
  pub fault : ChangeFault
  pub refuses : Refuses new.known change fault
  pub newest : IsWholeOf new.whole new.known
  pub learns : Learns old new
  pub told : reply ≡ reply_text (Some id) (failure (change_refused fault))

abbrev pub IsChanged : Change → Id → List ℕ → WorldState → WorldState → Type 0
IsChanged change id reply old new = IsChangeMade change id reply old new ⊎ IsChangeRefused change id reply old new

-- What completes it to the reply that tells a version.
abbrev pub OpensVersion : Id → List ℕ → Type 0
OpensVersion id opening = (number : ℕ) → version_text id number ≡ opening ++ (decimal number ++ codes "}}")

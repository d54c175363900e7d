-- What a shelf holds, and what a load answers.
use Rattle.std.specs.Prelude.{◌≡◌, ℕ, ◌<◌, ◌≤◌, nat_le, List, [], ◌∷◌, length, bytes_eq, Option, Some, None, if◌then◌else◌}
use Rattle.outside.specs.declared.shelf.HeldFile.{HeldFile}
use Rattle.outside.specs.declared.shelf.Loaded.{Loaded}
use Rattle.outside.specs.declared.shelf.Loaded.TheVariants.{Bytes, Missing, TooLong}

-- the most bytes that a load gives
abbrev pub longest_load : ℕ
longest_load = 16777216

-- the bytes held under a name: those of the first file of that name
unfoldable pub held_under : List HeldFile → List ℕ → Option (List ℕ)
held_under [] name = None
held_under (file ∷ files) name = if bytes_eq file.name name then Some file.bytes else held_under files name

-- what a load answers for the bytes held under its name
unfoldable pub answer_for : Option (List ℕ) → Loaded
answer_for None = Missing
answer_for (Some bytes) = if nat_le (length bytes) longest_load then Bytes else TooLong (length bytes)

-- out is what an answer leaves there: at most the longest load after Bytes, nothing after any other answer
abbrev pub Leaves : Loaded → List ℕ → Type 0
Leaves Bytes out = length out ≤ longest_load
Leaves Missing out = out ≡ []
Leaves (TooLong n) out = (out ≡ []) × (longest_load < n)

-- by the bytes held under the name, if the shelf tells them: the answer is the one for them, and Bytes leaves just them
abbrev pub Gives : Option (List ℕ) → Loaded → List ℕ → Type 0
Gives held loaded out = (loaded ≡ answer_for held) × (loaded ≡ Bytes → held ≡ Some out)

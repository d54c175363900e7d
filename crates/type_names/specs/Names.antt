-- Internal names of classes (JVMS 4.2.1).
use Rattle.std.specs.Prelude.{ℕ, ◌==◌, ◌||◌, not, Bool, true, false, if◌then◌else◌, List, [], ◌∷◌, Option, Some, None}
use lib.Chars.{codes}

-- The name of the class above all others (JLS 4.3.2).
abbrev pub object_name : List ℕ
object_name = codes "java/lang/Object"

-- After a byte of a name: whether a part begins, or None where the byte can't stand there. A `/` ends a
-- part that isn't empty; `.`, `;` and `[` stand nowhere.
abbrev pub part_step : Bool → ℕ → Option Bool
part_step start c =
    if c == 47 then (if start then None else Some true)
    else if c == 46 || c == 59 || c == 91 then None
    else Some false

abbrev pub goes_on : Option Bool → (Bool → Bool) → Bool
goes_on None rest = false
goes_on (Some start) rest = rest start

-- One or more non-empty parts joined by `/`, none with `.`, `;` or `[`. `start`: a part begins here.
unfoldable pub is_internal : Bool → List ℕ → Bool
is_internal start [] = not start
is_internal start (c ∷ cs) = goes_on (part_step start c) (λ next. is_internal next cs)

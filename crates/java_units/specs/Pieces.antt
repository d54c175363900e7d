-- The pieces of a body, and the table of forms that says what a piece is.
use Rattle.std.specs.Prelude.{◌≡◌, ℕ, suc, ◌+◌, min, Bool, false, ◌&&◌, ◌||◌, not, ◌==◌, List, [], ◌∷◌, length, take, drop, if◌then◌else◌, codes}
use Rattle.std.specs.List.{flat_map}
use Rattle.java_units.specs.Signs.{Sign, is}
use Rattle.java_units.specs.Forms.{begins, begins_any, begins_name, starts, span, more, name_len, rounds, type_len, lead_len, next_len, stops, deeper, entries_len, vars_len, params_len, clause_len}
use Rattle.java_units.specs.declared.entries.Entry.TheVariants as entry
use Rattle.java_units.specs.declared.starts.Run.{Run}
use Rattle.java_units.specs.declared.starts.Run.TheVariants.{Pieces, Clauses, Leads, Nexts}
use Rattle.java_units.specs.declared.pieces.Form.{Form}
use Rattle.java_units.specs.declared.pieces.Form.TheVariants.{Package, Import, Class, Constructor, Method, Field, Nothing}

-- Whether the sign ends the head of a piece: a `;` outside brackets, or there a `{` where no `=` came before.
unfoldable pub ends : ℕ → Bool → Sign → Bool
ends d set s = stops (codes ";") d s || (stops (codes "{") d s && not set)

-- Whether a `=` has stood outside brackets, the sign counted.
unfoldable pub sets : ℕ → Bool → Sign → Bool
sets d set s = set || stops (codes "=") d s

-- How many signs the head of a piece has, up to its end.
unfoldable pub head_len : ℕ → Bool → List Sign → ℕ
head_len d set [] = 0
head_len d set (s ∷ ss) = if ends d set s then 0 else suc (head_len (deeper d s) (sets d set s) ss)

unfoldable pub head : List Sign → List Sign
head ss = take (head_len 0 false ss) ss

-- All that follows the head: its `;` or block and the pieces after it, or nothing.
unfoldable pub end : List Sign → List Sign
end ss = drop (head_len 0 false ss) ss

-- How many signs the end of a piece takes: a `;`, or a block with its braces.
unfoldable pub end_len : List Sign → ℕ
end_len [] = 0
end_len (s ∷ ss) = if is (codes "{") s then 1 + min (s.holds + 1) (length ss) else 1

-- How many signs a piece takes.
unfoldable pub piece_len : List Sign → ℕ
piece_len ss = head_len 0 false ss + end_len (end ss)

-- The pieces of a body, each with what follows it.
abbrev pub pieces : List Sign → List (List Sign)
pieces ss = starts piece_len 0 ss

-- The piece at the front alone.
unfoldable pub piece : List Sign → List Sign
piece ss = take (piece_len ss) ss

-- The pieces of a body, end to end, are the body.
abbrev pub PiecesTile : Type 0
PiecesTile = (body : List Sign) → flat_map piece (pieces body) ≡ body

-- What the block that ends a piece holds.
unfoldable pub held : List Sign → List Sign
held [] = []
held (s ∷ ss) = take s.holds ss

-- The head without its annotations and modifiers.
unfoldable pub bare : List Sign → List Sign
bare ss = drop (span lead_len (head ss)) (head ss)

-- Whether a form takes all of these signs, and one at least.
unfoldable pub fills : ℕ → List Sign → Bool
fills n h = not (n == 0) && n == length h

-- `package NAME`
unfoldable pub package_len : List Sign → ℕ
package_len h = if begins (codes "package") h then more (name_len (drop 1 h)) else 0

-- `. *`
unfoldable pub star_len : List Sign → ℕ
star_len h = if begins (codes ".") h && begins (codes "*") (drop 1 h) then 2 else 0

-- A name, and `. *` or not.
unfoldable pub target_len : List Sign → ℕ
target_len h = let n = name_len h in if n == 0 then 0 else n + star_len (drop n h)

-- `import` and what it names.
unfoldable pub import_len : List Sign → ℕ
import_len h = if begins (codes "import") h then more (target_len (drop 1 h)) else 0

abbrev pub kind_words : List (List ℕ)
kind_words = codes "class" ∷ codes "interface" ∷ codes "enum" ∷ codes "record" ∷ []

-- The words that begin a class.
unfoldable pub kind_len : List Sign → ℕ
kind_len h =
    if begins_any kind_words h then 1
    else if begins (codes "@") h && begins (codes "interface") (drop 1 h) then 2
    else 0

-- These, and the name of the class.
unfoldable pub named_len : List Sign → ℕ
named_len h = let n = kind_len h in if n == 0 then 0 else if begins_name (drop n h) then n + 1 else 0

-- These, and the type variables or none.
unfoldable pub vars_end : List Sign → ℕ
vars_end h = let n = named_len h in if n == 0 then 0 else n + vars_len (drop n h)

-- These, and the bracketed header of a record.
unfoldable pub header_len : List Sign → ℕ
header_len h =
    let n = vars_end h in
    if begins (codes "record") h then (let c = rounds (drop n h) in if c == 0 then 0 else if n == 0 then 0 else n + c) else n

-- All that comes before the block of a class.
unfoldable pub class_len : List Sign → ℕ
class_len h = let n = header_len h in if n == 0 then 0 else n + span clause_len (drop n h)

-- `void` or a type.
unfoldable pub result_len : List Sign → ℕ
result_len h = if begins (codes "void") h then 1 else type_len h

-- What follows the type variables.
unfoldable pub past_vars : List Sign → List Sign
past_vars h = drop (vars_len h) h

-- A name, and parameters in brackets.
unfoldable pub is_call : List Sign → Bool
is_call h = begins_name h && not (params_len (drop 1 h) == 0)

unfoldable pub is_constructor : List ℕ → List Sign → Bool
is_constructor name h = begins name (past_vars h) && is_call (past_vars h)

unfoldable pub is_method : List Sign → Bool
is_method h = let n = result_len (past_vars h) in not (n == 0) && is_call (drop n (past_vars h))

-- A type, and a field's name, or several with commas between.
unfoldable pub fields_len : List Sign → ℕ
fields_len h = let n = type_len h in if n == 0 then 0 else (let m = entries_len entry.Field (drop n h) in if m == 0 then 0 else n + m)

-- The form of a piece in a class of this name, by what is left of its head and by its end: the first
-- that fits.
unfoldable pub form : List ℕ → List Sign → List Sign → Form
form name h e =
    if fills (package_len h) h && begins (codes ";") e then Package
    else if fills (import_len h) h && begins (codes ";") e then Import
    else if fills (class_len h) h && begins (codes "{") e then Class
    else if is_constructor name h then Constructor
    else if is_method h then Method
    else if fills (fields_len h) h && begins (codes ";") e then Field
    else Nothing

abbrev pub form_of : List ℕ → List Sign → Form
form_of name ss = form name (bare ss) (end ss)

-- How many signs a form takes that is read one after the other.
abbrev pub run_len : Run → List Sign → ℕ
run_len Pieces ss = piece_len ss
run_len Clauses ss = clause_len ss
run_len Leads ss = lead_len ss
run_len (Nexts e) ss = next_len e ss

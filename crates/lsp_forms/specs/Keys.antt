-- The key of a member of a class: the class's internal name, `.`, the member's name, `:` and its descriptor (JVMS 4.2 and 4.3).
use Rattle.std.specs.Prelude.{ℕ, ◌==◌, Bool, true, false, ◌&&◌, ◌||◌, not, List, [], ◌∷◌, Option, Some, None, is_some, if◌then◌else◌}
use Rattle.type_names.specs.Names.{is_internal}
use Rattle.type_names.specs.Reading.{field_in, method_in}

abbrev pub behind : ℕ → Option (List ℕ × List ℕ) → Option (List ℕ × List ℕ)
behind d None = None
behind d (Some r) = Some (d ∷ r.0, r.1)

-- The text before the first c, and the text after it.
unfoldable pub cut : ℕ → List ℕ → Option (List ℕ × List ℕ)
cut c [] = None
cut c (d ∷ ds) = if d == c then Some ([], ds) else behind d (cut c ds)

abbrev pub is_empty : List ℕ → Bool
is_empty [] = true
is_empty (c ∷ cs) = false

-- An internal name and a name without `.`: an internal name has no `.`, so the last one is the only one.
abbrev pub are_names : Option (List ℕ × List ℕ) → Bool
are_names None = false
are_names (Some r) = is_internal true r.0 && (not (is_empty r.1) && not (is_some (cut 46 r.1)))

-- The descriptor of a field or of a method.
abbrev pub is_descriptor : List ℕ → Bool
is_descriptor text = is_some (field_in text) || is_some (method_in text)

abbrev pub is_member : Option (List ℕ × List ℕ) → Bool
is_member None = false
is_member (Some r) = are_names (cut 46 r.0) && is_descriptor r.1

-- Whether a text is a key, parted at its first `:`.
unfoldable pub is_key : List ℕ → Bool
is_key key = is_member (cut 58 key)

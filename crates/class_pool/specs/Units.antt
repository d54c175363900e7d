-- Modified UTF-8: which units of UTF-16 bytes spell (JVMS 4.4.7).
use Rattle.std.specs.Prelude.{◌≡◌, ℕ, ◌+◌, ◌-◌, ◌*◌, ◌<◌, ◌≤◌, ◌&&◌, Bool, false, nat_lt, nat_le, if◌then◌else◌, List, [], ◌∷◌, ◌++◌, Option, Some, None}
use Rattle.std.specs.Char.Utf16.{has_unpaired_surrogate, utf16_lossy_chars}
use Rattle.std.specs.Str.{encode_utf8_all}

-- The spellings of one unit: one byte that isn't 0, two or three bytes. Longer spellings than needed count too.
abbrev pub IsUnit : List ℕ → ℕ → Type 0
IsUnit [] u = ⊥
IsUnit (a ∷ []) u = (0 < a) × (a < 128) × (u ≡ a)
IsUnit (a ∷ b ∷ []) u = (192 ≤ a) × (a < 224) × (128 ≤ b) × (b < 192) × (u ≡ (a - 192) * 64 + (b - 128))
IsUnit (a ∷ b ∷ c ∷ []) u = (224 ≤ a) × (a < 240) × (128 ≤ b) × (b < 192) × (128 ≤ c) × (c < 192) × (u ≡ (a - 224) * 4096 + ((b - 128) * 64 + (c - 128)))
IsUnit (a ∷ b ∷ c ∷ d ∷ more) u = ⊥

-- The bytes are spellings of the units, end to end.
abbrev pub AreUnits : List ℕ → List ℕ → Type 0
AreUnits bytes [] = bytes ≡ []
AreUnits bytes (u ∷ us) = (prefix : List ℕ) × (rest : List ℕ) × (bytes ≡ prefix ++ rest) × IsUnit prefix u × AreUnits rest us

-- A byte after the first.
abbrev pub is_tail : ℕ → Bool
is_tail b = nat_le 128 b && nat_lt b 192

abbrev pub within : ℕ → ℕ → ℕ → Bool
within low high a = nat_le low a && nat_lt a high

abbrev pub two_at : ℕ → List ℕ → Option (ℕ × List ℕ)
two_at a [] = None
two_at a (b ∷ rest) = if is_tail b then Some ((a - 192) * 64 + (b - 128), rest) else None

abbrev pub three_at : ℕ → List ℕ → Option (ℕ × List ℕ)
three_at a [] = None
three_at a (b ∷ []) = None
three_at a (b ∷ c ∷ rest) = if is_tail b && is_tail c then Some ((a - 224) * 4096 + ((b - 128) * 64 + (c - 128)), rest) else None

-- The unit at the front, and the bytes after it.
unfoldable pub unit_at : List ℕ → Option (ℕ × List ℕ)
unit_at [] = None
unit_at (a ∷ rest) = if within 1 128 a then Some (a, rest) else if within 192 224 a then two_at a rest else if within 224 240 a then three_at a rest else None

-- The bytes spell the text: their units are UTF-16 without a lone surrogate.
pub record IsText (bytes text : List ℕ) : Type 0 where
  pub units : List ℕ
  pub are : AreUnits bytes units
  pub paired : has_unpaired_surrogate units ≡ false
  pub spelled : text ≡ encode_utf8_all (utf16_lossy_chars units)

abbrev pub with_unit : ℕ → Option (List ℕ) → Option (List ℕ)
with_unit u None = None
with_unit u (Some us) = Some (u ∷ us)

-- The units that bytes spell; None where they spell none.
unfoldable pub units_in : List ℕ → Option (List ℕ)
units_in [] = Some []
units_in (a ∷ []) = if within 1 128 a then Some (a ∷ []) else None
units_in (a ∷ b ∷ []) = if within 1 128 a then with_unit a (units_in (b ∷ [])) else if within 192 224 a && is_tail b then Some (((a - 192) * 64 + (b - 128)) ∷ []) else None
units_in (a ∷ b ∷ c ∷ rest) =
    if within 1 128 a then with_unit a (units_in (b ∷ c ∷ rest))
    else if within 192 224 a && is_tail b then with_unit ((a - 192) * 64 + (b - 128)) (units_in (c ∷ rest))
    else if within 224 240 a && (is_tail b && is_tail c) then with_unit ((a - 224) * 4096 + ((b - 128) * 64 + (c - 128))) (units_in rest)
    else None

abbrev pub text_in_units : Option (List ℕ) → Option (List ℕ)
text_in_units None = None
text_in_units (Some us) = if has_unpaired_surrogate us then None else Some (encode_utf8_all (utf16_lossy_chars us))

-- The text that bytes spell; None where they spell none, or one with a lone surrogate.
abbrev pub text_of : List ℕ → Option (List ℕ)
text_of bytes = text_in_units (units_in bytes)

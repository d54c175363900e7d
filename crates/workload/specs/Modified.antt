-- The shortest spelling of a text in modified UTF-8: that of each of its units of UTF-16 (JVMS 4.4.7).
use Rattle.std.specs.Prelude.{ℕ, ◌+◌, ◌/◌, ◌%◌, nat_lt, ◌&&◌, if◌then◌else◌, List, [], ◌∷◌}
use Rattle.std.specs.List.{flat_map}
use Rattle.std.specs.Str.{chars}
use Rattle.std.specs.Char.Escape.{encode_utf16}

-- One byte for 1 to 127, two below 2048 and for 0, else three.
unfoldable pub unit_bytes : ℕ → List ℕ
unit_bytes u =
    if nat_lt 0 u && nat_lt u 128 then u ∷ []
    else if nat_lt u 2048 then (192 + u / 64) ∷ (128 + u % 64) ∷ []
    else (224 + u / 4096) ∷ (128 + u / 64 % 64) ∷ (128 + u % 64) ∷ []

-- The units of UTF-16 of a text in UTF-8.
abbrev pub units_of : List ℕ → List ℕ
units_of text = flat_map encode_utf16 (chars text)

unfoldable pub modified : List ℕ → List ℕ
modified text = flat_map unit_bytes (units_of text)

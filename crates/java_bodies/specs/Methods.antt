-- The method in whose body a hole stands.
use Rattle.std.specs.Prelude.{ℕ, suc, Bool, false, ◌&&◌, ◌||◌, ◌==◌, nat_lt, List, [], ◌∷◌, drop, length, count_by, Option, Some, None}
use Rattle.std.specs.List.{position_from}
use Rattle.java_units.specs.Signs.{Sign}
use Rattle.java_units.specs.Members.{held_len}
use Rattle.java_units.specs.declared.types.SourceMethod.{SourceMethod}
use Rattle.java_units.specs.declared.types.SourceClass.{SourceClass}
use Rattle.java_bodies.specs.declared.methods.MethodPlace.{MethodPlace}

-- How many of these signs stand before the token of this number.
unfoldable pub signs_before : ℕ → List Sign → ℕ
signs_before n ss = count_by (λ s. nat_lt s.number n) ss

-- What stands from the token of this number on.
unfoldable pub signs_from : ℕ → List Sign → List Sign
signs_from n ss = drop (signs_before n ss) ss

-- Whether all signs behind the `{` of this number stand in its block.
unfoldable pub is_unclosed : ℕ → List Sign → Bool
is_unclosed n ss = held_len (signs_from n ss) == length (drop 1 (signs_from n ss))

-- Whether a hole behind so many of `count` tokens stands in the block that these tokens spell: behind its `{`,
-- and not behind its `}`. A block that goes to the end of the text may have none.
abbrev pub holds : ℕ → ℕ → List Sign → Option (ℕ × ℕ) → Bool
holds passed count ss None = false
holds passed count ss (Some r) = nat_lt r.0 passed && (nat_lt passed r.1 || (r.1 == count && is_unclosed r.0 ss))

unfoldable pub holds_hole : ℕ → ℕ → List Sign → SourceMethod → Bool
holds_hole passed count ss m = holds passed count ss m.body

abbrev pub placed : ℕ → Option ℕ → Option MethodPlace → Option MethodPlace
placed n None later = later
placed n (Some k) later = Some (record { class = n; method = k })

-- The first method that passes, in the order of the classes, the first of which has the number n.
unfoldable pub first_method : (SourceMethod → Bool) → ℕ → List SourceClass → Option MethodPlace
first_method p n [] = None
first_method p n (c ∷ cs) = placed n (position_from p 0 c.methods) (first_method p (suc n) cs)

-- The method in whose body the hole stands.
unfoldable pub method_at : ℕ → ℕ → List Sign → List SourceClass → Option MethodPlace
method_at passed count ss cs = first_method (holds_hole passed count ss) 0 cs

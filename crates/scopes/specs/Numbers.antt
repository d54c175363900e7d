-- The numbers of an environment's types.
use Rattle.std.specs.Prelude.{◌≡◌, ℕ, zero, suc, ◌+◌, ◌<◌, ◌≤◌, ◌^◌, Bool, true, false, nat_lt, if◌then◌else◌, List, [], ◌∷◌, length, None}
use Rattle.type_names.specs.declared.kinds.Base.{Base}
use Rattle.type_names.specs.declared.kinds.Base.TheVariants.{Boolean}
use Rattle.type_names.specs.declared.kinds.Erased.{Erased}
use Rattle.type_names.specs.Descriptors.{field}
use Rattle.offers.specs.Sorting.{Rises}
use Rattle.scopes.specs.Kinds.{Kinds, number_in}

-- The descriptor stands before `V`: it is no array's and not `Z`.
abbrev pub is_early_base : Base → Bool
is_early_base Boolean = false
is_early_base _ = true

abbrev pub is_early_in : ℕ → Base → Bool
is_early_in zero p = is_early_base p
is_early_in (suc n) p = false

abbrev pub is_early : Erased → Bool
is_early t = is_early_in t.dims t.base

-- How many types stand before the first whose descriptor comes after `V`.
unfoldable pub early_ones : List Erased → ℕ
early_ones [] = 0
early_ones (t ∷ ts) = if is_early t then suc (early_ones ts) else 0

-- The number of a type, where one more stands at a place.
abbrev pub moved : ℕ → ℕ → ℕ
moved place n = if nat_lt n place then n else suc n

-- The types of values rise by their descriptors, each has a number of 32 bits, and `at` is the number of the one
-- without a value, or how many there are where each has one.
pub record AreKinds (ks : Kinds) (at : ℕ) : Type 0 where
  pub rises : Rises field ks.types
  pub few : length ks.types + 1 < 2 ^ 32
  pub place : at ≡ number_in ks None
  pub within : at ≤ length ks.types

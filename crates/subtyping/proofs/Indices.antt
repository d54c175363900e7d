-- The classes that are listed, one class further.
use Rattle.std.proofs.Common.{◌≡◌, subst, ℕ, ◌+◌, ◌<◌, ◌≤◌, inl, inr, slice_get, List, length, arith, Some}
use Rattle.std.proofs.lemmas.Option.{slice_get_within}
use Rattle.graphs.proofs.Ranks.{last_or}
use Rattle.known_classes.specs.Known.{KnownClasses}
use Rattle.name_places.specs.Places.{IsGrown}
use Rattle.name_places.proofs.Places.{placed-grown}
use Rattle.subtyping.specs.Places.{IsListed, AreListed}
use Rattle.known_classes.specs.declared.summary.ClassSummary.{ClassSummary}

pub listed-grown : (xs ys : List (List ℕ)) (c : ClassSummary) → IsGrown xs ys → IsListed xs c → IsListed ys c
listed-grown xs ys c g l = record {
  own = placed-grown xs ys c.name g l.own;
  supers = λ b h. placed-grown xs ys b g (l.supers b h);
}

-- the classes so far
pub listed-next : (known : KnownClasses) (old new : List (List ℕ)) (n : ℕ) (class : ClassSummary) → slice_get known n ≡ Some class → IsListed new class → IsGrown old new → ((i : ℕ) (c : ClassSummary) → i < n → slice_get known i ≡ Some c → IsListed old c) → (i : ℕ) (c : ClassSummary) → i < n + 1 → slice_get known i ≡ Some c → IsListed new c
listed-next known old new n class at here grown before i c l e = elim (last_or i n l) [
  | inl s ↦ let one : class ≡ c = same-class known n i class c s at e in subst (IsListed new) one here
  | inr m ↦ listed-grown old new c grown (before i c m e)
]
  where
    same-class : (cs : KnownClasses) (n i : ℕ) (class c : ClassSummary) → i ≡ n → slice_get cs n ≡ Some class → slice_get cs i ≡ Some c → class ≡ c
    same-class cs n i class c s f g = let h : slice_get cs n ≡ Some c = subst (λ k. slice_get cs k ≡ Some c) s g in cc

pub listed-all : (known : KnownClasses) (names : List (List ℕ)) (n : ℕ) → length known ≤ n → ((i : ℕ) (c : ClassSummary) → i < n → slice_get known i ≡ Some c → IsListed names c) → AreListed known names
listed-all known names n l before i c e = before i c (omega (arith, l, slice_get_within known i c e)) e

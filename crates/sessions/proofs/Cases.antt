-- Cases on a test, and on what a search of a list finds.
use Rattle.std.proofs.Common.{◌≡◌, ℕ, ◌≤◌, Bool, true, false, cond, Some, None, List, length, refl, ap, ◌∙◌}
use Rattle.std.specs.Prelude.{position, slice_get, find, nat_lt}
use Rattle.std.specs.List.{position_or_len}
use Rattle.std.proofs.lemmas.Bool.{ltb-false}
use Rattle.std.proofs.lemmas.Option.{slice_get_past}
use Rattle.std.proofs.lemmas.List.Folds.{find_at}

pub by_test : {P : Type 0} (b : Bool) → (b ≡ true → P) → (b ≡ false → P) → P
by_test true on off = on refl
by_test false on off = off refl

cond_some : (b : Bool) (n i : ℕ) → cond b (Some n) None ≡ Some i → n ≡ i
cond_some true n i e = cc
cond_some false n i e = absurd cc

cond_none : (b : Bool) (n : ℕ) → cond b (Some n) None ≡ None → b ≡ false
cond_none true n e = absurd cc
cond_none false n e = refl

-- What is found stands at the place.
pub find_there : {X : Type 0} (p : X → Bool) (xs : List X) (i : ℕ) → position p xs ≡ Some i → find p xs ≡ slice_get xs i
find_there p xs i e = find_at p xs ∙ ap (slice_get xs) (cond_some (nat_lt (position_or_len p xs) (length xs)) (position_or_len p xs) i e)

-- Where there is no place, nothing is found.
pub find_nowhere : {X : Type 0} (p : X → Bool) (xs : List X) → position p xs ≡ None → find p xs ≡ None
find_nowhere p xs e =
    let past : length xs ≤ position_or_len p xs = ltb-false (position_or_len p xs) (length xs) (cond_none (nat_lt (position_or_len p xs) (length xs)) (position_or_len p xs) e) in
    find_at p xs ∙ slice_get_past xs (position_or_len p xs) past

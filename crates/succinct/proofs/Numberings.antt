-- What an insertion into a table of numbered values keeps and adds.
use Rattle.std.proofs.Common.{◌≡◌, ℕ, zero, suc, ◌<◌, ◌≤◌, Bool, true, false, List, [], ◌∷◌, ◌++◌, length, slice_get, if◌then◌else◌, Some, Result, Ok, Err, IfOk, OnErr, refl, sym, subst, ◌∙◌, arith, length-append}
use Rattle.std.specs.List.{list_any, position_or_len}
use Rattle.std.proofs.Common.{get_or}
use Rattle.std.proofs.lemmas.Bool.{false≢true}
use Rattle.std.proofs.lemmas.List.Sums.{position_or_len_is}
use Rattle.std.proofs.lemmas.List.Folds.{list_any_at}
use Rattle.succinct.specs.Numbering.{IsGrown}

pub get_append : {X : Type 0} (xs ys : List X) (i : ℕ) (x : X) → slice_get xs i ≡ Some x → slice_get (xs ++ ys) i ≡ Some x
get_append [] ys i x h = cc
get_append (y ∷ xs) ys zero x h = h
get_append (y ∷ xs) ys (suc i) x h = get_append xs ys i x h

pub grown-refl : {X : Type 0} (xs : List X) → IsGrown xs xs
grown-refl xs i x h = h

pub grown-insert : {X : Type 0} (xs : List X) (x : X) (b : Bool) → IsGrown xs (if b then xs else xs ++ x ∷ [])
grown-insert xs x true i y h = h
grown-insert xs x false i y h = get_append xs (x ∷ []) i y h

place-none : {X : Type 0} (p : X → Bool) (xs : List X) (d : X) → list_any p xs ≡ false → position_or_len p xs ≡ length xs
place-none p xs d h = position_or_len_is p xs (length xs) d (omega arith) (λ k low. none (p (get_or xs k d)) k low refl) (λ l. absurd (omega (arith, l)))
  where
    none : (b : Bool) (k : ℕ) → k < length xs → p (get_or xs k d) ≡ b → b ≡ false
    none false k low at = refl
    none true k low at = absurd (false≢true (sym h ∙ list_any_at p xs k d low at))

-- after a call that inserts, or finds no memory
pub grown-call : {X A E : Type 0} (r : Result A E) (old new : List X) (x : X) (b : Bool) → IfOk r (λ a. new ≡ (if b then old else old ++ x ∷ [])) → OnErr r (new ≡ old) → IsGrown old new
grown-call (Ok a) old new x b ok err = subst (λ l. IsGrown old l) (sym ok) (grown-insert old x b)
grown-call (Err e) old new x b ok err = subst (λ l. IsGrown old l) (sym err) (grown-refl old)

pub one_more : {X : Type 0} (p : X → Bool) (xs : List X) (x : X) (i j : ℕ) → i ≡ position_or_len p xs → length xs ≤ j → j < length (if list_any p xs then xs else xs ++ x ∷ []) → j ≡ i
one_more p xs x i j is low high = go (list_any p xs) refl high
  where
    go : (b : Bool) → list_any p xs ≡ b → j < length (if b then xs else xs ++ x ∷ []) → j ≡ i
    go true h high' = absurd (omega (arith, low, high'))
    go false h high' = omega (arith, is, low, high', place-none p xs x h, length-append xs (x ∷ []))

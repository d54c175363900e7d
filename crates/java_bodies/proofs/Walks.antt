-- Walks over the signs of a body, and the loops that gather.
use Rattle.std.proofs.Common.{◌≡◌, ◌∙◌, ◌==◌, ap, sym, ℕ, zero, suc, ◌+◌, ◌<◌, ◌≤◌, slice_index_or, drop, arith, List, [], ◌∷◌, ◌++◌, refl, Bool, true, length, add-one, reverse, slice_get, Option, Some, ◌⊎◌, inl, inr, unwrap_or}
use Rattle.std.proofs.lemmas.List.{drop_all, length-append, reverse-append}
use Rattle.java_units.specs.declared.lexemes.Lexeme.{Lexeme}
use Rattle.java_units.specs.Signs.{Sign, sign, seen}
use Rattle.java_units.proofs.Walks.{seen-at, seen-length}
use Rattle.java_bodies.specs.Marks.{mark_of}
use Rattle.java_bodies.specs.Kept.{closed_before, unopened, keeps, kept_marks}
use Rattle.java_bodies.specs.Openers.{open_after, open_after_maybe, open_at, opener, gathered, opener_alone, openers}
use Rattle.java_bodies.specs.declared.mark.Mark.{Mark}
use Rattle.java_bodies.specs.declared.mark.Mark.TheVariants as mark
use Rattle.java_bodies.specs.declared.mark.Brackets.{Brackets}
use Rattle.java_bodies.specs.declared.mark.Brackets.TheVariants.{Blocks, Rounds}

closed_small : (b : Brackets) (m : Mark) (n k : ℕ) → n ≤ k → closed_before b m n ≤ suc k
closed_small Blocks mark.OpensBlock n k l = omega arith
closed_small Blocks mark.ClosesBlock n k l = omega arith
closed_small Blocks mark.OpensRound n k l = omega arith
closed_small Blocks mark.ClosesRound n k l = omega arith
closed_small Blocks mark.Plain n k l = omega arith
closed_small Rounds mark.OpensBlock n k l = omega arith
closed_small Rounds mark.ClosesBlock n k l = omega arith
closed_small Rounds mark.OpensRound n k l = omega arith
closed_small Rounds mark.ClosesRound n k l = omega arith
closed_small Rounds mark.Plain n k l = omega arith

pub unopened_few : (b : Brackets) (ss : List Sign) → unopened b ss ≤ length ss
unfolding unopened
unopened_few b [] = omega arith
unopened_few b (s ∷ ss) = closed_small b (mark_of s) (unopened b ss) (length ss) (unopened_few b ss)

-- a walk from the end has come to a place
pub record IsMarked (b : Brackets) (ss : List Sign) (marks : List Bool) (i n : ℕ) : Type 0 where
  pub within : i ≤ length ss
  pub closed : n ≡ unopened b (drop i ss)
  pub made : reverse marks ≡ kept_marks b (drop i ss)

pub marked_first : (b : Brackets) (ss : List Sign) (i : ℕ) → i ≡ length ss → IsMarked b ss [] i 0
unfolding unopened kept_marks
marked_first b ss i l = let e = drop_all i ss (omega (arith, l)) in record { within = omega (arith, l); closed = rw e refl; made = rw e refl }

pub marked_on : (b : Brackets) (ls : List Lexeme) (marks more : List Bool) (i n m : ℕ) (d : Lexeme) → i < length ls → m ≡ closed_before b (mark_of (sign (slice_index_or ls i d))) n → more ≡ marks ++ (m == 0) ∷ [] → IsMarked b (seen ls) marks (i + 1) n → IsMarked b (seen ls) more i m
unfolding unopened kept_marks keeps
marked_on b ls marks more i n m d l em ek h =
    let e = seen-at ls i d l in
    let c : m ≡ unopened b (drop i (seen ls)) = em ∙ ap (closed_before b (mark_of (sign (slice_index_or ls i d)))) h.closed ∙ sym (ap (unopened b) e) in
    record {
      within = omega (arith, seen-length ls);
      closed = c;
      made = ap reverse ek ∙ reverse-append marks _ ∙ ap (λ xs. (m == 0) ∷ xs) h.made
          ∙ ap (λ k. (k == 0) ∷ kept_marks b (drop (i + 1) (seen ls))) (c ∙ ap (unopened b) e) ∙ sym (ap (kept_marks b) e);
    }

-- the mark at a place, where there is one
pub mark_at : (b : Brackets) (ss : List Sign) (k : ℕ) → unwrap_or (slice_get (kept_marks b ss) k) true ≡ keeps b (drop k ss)
unfolding kept_marks keeps unopened
mark_at b [] zero = refl
mark_at b [] (suc k) = refl
mark_at b (s ∷ ss) zero = refl
mark_at b (s ∷ ss) (suc k) = mark_at b ss k

-- what a loop gathers
pub gathered_none : {A : Type 0} (f : ℕ → List A) → gathered f 0 ≡ []
unfolding gathered
gathered_none f = refl

pub gathered_on : {A : Type 0} (f : ℕ → List A) (n : ℕ) → gathered f (n + 1) ≡ gathered f n ++ f n
unfolding gathered
gathered_on f n = rw (add-one n) refl

-- brackets
pub popped : (xs ys : List (Option ℕ)) (x : Option ℕ) → xs ≡ ys ++ x ∷ [] → reverse xs ≡ x ∷ reverse ys
popped xs ys x e = ap reverse e ∙ reverse-append ys (x ∷ [])

pub opener_on : (ss : List Sign) (all more : List (Option ℕ)) (i : ℕ) (t : Option ℕ) → t ≡ opener ss i → more ≡ all ++ t ∷ [] → all ≡ gathered (opener_alone ss) i → more ≡ gathered (opener_alone ss) (i + 1)
opener_on ss all more i t e m h = m ∙ ap (λ x. all ++ x ∷ []) e ∙ ap (λ xs. xs ++ opener_alone ss i) h ∙ sym (gathered_on (opener_alone ss) i)

get_drop : (ss : List Sign) (i : ℕ) (s : Sign) (rest : List Sign) → drop i ss ≡ s ∷ rest → slice_get ss i ≡ Some s
get_drop [] zero s rest e = absurd cc
get_drop [] (suc i) s rest e = absurd cc
get_drop (x ∷ xs) zero s rest e = let h : x ≡ s = cc in ap Some h
get_drop (x ∷ xs) (suc i) s rest e = get_drop xs i s rest e

-- the open brackets one sign later
pub open_on : (ls : List Lexeme) (i : ℕ) (d : Lexeme) → i < length ls → open_at (seen ls) (i + 1) ≡ open_after (mark_of (sign (slice_index_or ls i d))) i (open_at (seen ls) i)
unfolding open_at
open_on ls i d l =
    ap (open_at (seen ls)) (add-one i) ∙ ap (λ o. open_after_maybe o i (open_at (seen ls) i)) (get_drop (seen ls) i (sign (slice_index_or ls i d)) (drop (i + 1) (seen ls)) (seen-at ls i d l))

singles_long : {A : Type 0} (g : ℕ → A) (n : ℕ) → length (gathered (λ k. g k ∷ []) n) ≡ n
unfolding gathered
singles_long g zero = refl
singles_long g (suc n) = omega (arith, length-append (gathered (λ k. g k ∷ []) n) (g n ∷ []), singles_long g n)

pub openers_long : (ss : List Sign) → length (openers ss) ≡ length ss
unfolding openers
openers_long ss = singles_long (opener ss) (length ss)

get_left : {A : Type 0} (xs ys : List A) (k : ℕ) → k < length xs → slice_get (xs ++ ys) k ≡ slice_get xs k
get_left [] ys k l = absurd (omega arith)
get_left (x ∷ xs) ys zero l = refl
get_left (x ∷ xs) ys (suc k) l = get_left xs ys k (omega arith)

get_end : {A : Type 0} (xs : List A) (y : A) (k : ℕ) → k ≡ length xs → slice_get (xs ++ y ∷ []) k ≡ Some y
get_end [] y zero e = refl
get_end [] y (suc k) e = absurd (omega (arith, e))
get_end (x ∷ xs) y zero e = absurd (omega (arith, e))
get_end (x ∷ xs) y (suc k) e = get_end xs y k (omega (arith, e))

last_or : (k n : ℕ) → k < suc n → (k < n) ⊎ (k ≡ n)
last_or zero zero l = inr refl
last_or zero (suc n) l = inl (omega arith)
last_or (suc k) zero l = absurd (omega arith)
last_or (suc k) (suc n) l = elim (last_or k n (omega arith)) [ inl a ↦ inl (omega (arith, a)) | inr b ↦ inr (ap suc b) ]

single_at : {A : Type 0} (g : ℕ → A) (n k : ℕ) → k < n → slice_get (gathered (λ j. g j ∷ []) n) k ≡ Some (g k)
unfolding gathered
single_at g zero k l = absurd (omega arith)
single_at g (suc n) k l = elim (last_or k n l) [ inl a ↦ get_left (gathered (λ j. g j ∷ []) n) (g n ∷ []) k (omega (arith, singles_long g n, a)) ∙ single_at g n k a | inr b ↦ get_end (gathered (λ j. g j ∷ []) n) (g n) k (omega (arith, singles_long g n, b)) ∙ ap (λ j. Some (g j)) (sym b) ]

pub opener_get : (ss : List Sign) (k : ℕ) → k < length ss → slice_get (openers ss) k ≡ Some (opener ss k)
unfolding openers
opener_get ss k l = single_at (opener ss) (length ss) k l

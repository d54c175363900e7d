-- What a search lists, it lists once.
use Rattle.graphs.proofs.Elements.{in-one, first_in, rest_in, none_in}
use Rattle.std.proofs.lemmas.List.Elements.{Contains-append_left, Contains-append_right, Contains-append_cases, Contains-get_or}
use Rattle.std.proofs.Common.{◌≡◌, ◌≢◌, ℕ, ◌<◌, Bool, true, false, cond, List, [], ◌∷◌, ◌++◌, length, get_or, refl, sym, subst, ◌∙◌, arith, inl, inr, ◌⊎◌, Contains}
use lib.ListN.{set}
use Rattle.std.specs.List.{AllPairs}
use Rattle.std.proofs.lemmas.List.{length_push, get_or_append_left, get_or_push, get_or_default}
use Rattle.std.proofs.lemmas.List.Quantifiers.{all_pairs_push}
use Rattle.graphs.specs.Graph.{is_marked}
use Rattle.graphs.specs.Marking.{Work, mark, mark_row}
use Rattle.graphs.proofs.Marks.{IsMarked, marked, both}

abbrev pub AreOnce : List ℕ → Type 0
AreOnce xs = AllPairs (λ a b. a ≢ b) xs

pub once-none : AreOnce []
once-none i j d l m e = absurd (omega (arith, m))

once-push : (xs : List ℕ) (y : ℕ) → AreOnce xs → (Contains xs y → ⊥) → AreOnce (xs ++ y ∷ [])
once-push xs y p h = all_pairs_push (λ a b. a ≢ b) xs y p (λ k d l e. h (subst (λ n. Contains xs n) (get_or_default xs k 0 d l ∙ e) (Contains-get_or xs k 0 l)))

once-first : (xs : List ℕ) (y : ℕ) → AreOnce (xs ++ y ∷ []) → AreOnce xs
once-first xs y p i j d l m e = p i j d l (omega (arith, m, length_push xs y)) (get_or_append_left xs (y ∷ []) d i (omega (arith, l, m)) ∙ e ∙ sym (get_or_append_left xs (y ∷ []) d j m))

pub record IsAt (y : ℕ) (xs : List ℕ) : Type 0 where
  pub place : ℕ
  pub inside : place < length xs
  pub is : get_or xs place 0 ≡ y

pub place-in : (y : ℕ) (xs : List ℕ) → Contains xs y → IsAt y xs
place-in y xs (k, l, e) = record { place = k; inside = l; is = get_or_default xs k 0 y l ∙ e }

once-last : (xs : List ℕ) (y : ℕ) → AreOnce (xs ++ y ∷ []) → Contains xs y → ⊥
once-last xs y p h =
    let a = place-in y xs h in
    p a.place (length xs) 0 a.inside (omega (arith, length_push xs y)) (get_or_append_left xs (y ∷ []) 0 a.place a.inside ∙ a.is ∙ sym (get_or_push xs y 0 (length xs) refl))

-- What waits after a row was marked waited before or wasn't marked, and waits once.
pub record IsFresh (w v : Work) : Type 0 where
  pub fresh : (k : ℕ) → Contains v.1 k → Contains w.1 k ⊎ (is_marked w.0 k ≡ false)
  pub once : ((k : ℕ) → Contains w.1 k → is_marked w.0 k ≡ true) → AreOnce w.1 → AreOnce v.1

fresh-none : (w : Work) → IsFresh w w
fresh-none w = record { fresh = λ k h. inl h; once = λ m o. o }

fresh-one : (t : Bool) (w : Work) (b : ℕ) → is_marked w.0 b ≡ t → IsFresh w (cond t w (set w.0 b true, w.1 ++ b ∷ []))
fresh-one true w b e = fresh-none w
fresh-one false w b e = record {
  fresh = λ k h. elim (Contains-append_cases w.1 (b ∷ []) k h) [
    | inl a ↦ inl a
    | inr a ↦ inr (subst (λ n. is_marked w.0 n ≡ false) (in-one k b a) e)
  ];
  once = λ m o. once-push w.1 b o (λ h. both (is_marked w.0 b) (m b h) e);
}

not-before : (t : Bool) (ms ns : List Bool) (k : ℕ) → is_marked ms k ≡ t → (is_marked ms k ≡ true → is_marked ns k ≡ true) → is_marked ns k ≡ false → is_marked ms k ≡ false
not-before true ms ns k e h f = both (is_marked ns k) (h e) f
not-before false ms ns k e h f = e

fresh-then : (u v w : Work) (bs : List ℕ) → IsMarked u bs v → IsFresh u v → IsFresh v w → IsFresh u w
fresh-then u v w bs p f g = record {
  fresh = λ k h. elim (g.fresh k h) [
    | inl a ↦ f.fresh k a
    | inr e ↦ inr (not-before (is_marked u.0 k) u.0 v.0 k refl (p.kept k) e)
  ];
  once = λ m o. g.once (λ k h. elim (p.waits k h) [
    | inl a ↦ p.kept k (m k a)
    | inr a ↦ p.here k a
  ]) (f.once m o);
}

fresh-mark : (w : Work) (b : ℕ) → IsFresh w (mark w b)
unfolding mark
fresh-mark w b = fresh-one (is_marked w.0 b) w b refl

row-fresh : (bs : List ℕ) (w : Work) → ((b : ℕ) → Contains bs b → b < length w.0) → IsFresh w (mark_row w bs)
unfolding mark_row
row-fresh [] w l = fresh-none w
row-fresh (b ∷ bs) w l =
    let p = marked w b (l b (first_in b bs)) in
    fresh-then w (mark w b) (mark_row (mark w b) bs) (b ∷ []) p (fresh-mark w b) (row-fresh bs (mark w b) (λ c h. rw p.long (l c (rest_in c b bs h))))

pub fresh-is : (bs : List ℕ) (w v : Work) → ((b : ℕ) → Contains bs b → b < length w.0) → v ≡ mark_row w bs → IsFresh w v
fresh-is bs w v l e = subst (IsFresh w) (sym e) (row-fresh bs w l)

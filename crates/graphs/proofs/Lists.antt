-- Marks that are taken away again.
use Rattle.graphs.proofs.Elements.{none_in, in-cases}
use Rattle.std.proofs.Common.{◌≡◌, ℕ, zero, suc, ◌+◌, ◌<◌, ◌≤◌, Bool, true, false, List, [], ◌∷◌, length, get_or, drop, refl, sym, ap, subst, ◌∙◌, arith, inl, inr, Contains}
use lib.ListN.{set}
use Rattle.std.proofs.lemmas.List.{drop_more, drop_all, get_or-set_other}
use Rattle.std.proofs.lemmas.Bool.{cases_eq}
use Rattle.graphs.specs.Graph.{is_marked, AreFree}
use Rattle.graphs.specs.Marking.{unmark, AreListed}

unmark_first : (ms : List Bool) (b : ℕ) (bs : List ℕ) → unmark ms (b ∷ bs) ≡ unmark (set ms b false) bs
unfolding unmark
unmark_first ms b bs = refl

pub unmark_step : (bs : List ℕ) (i : ℕ) (ms ns : List Bool) (all : List Bool) → i < length bs → unmark ms (drop i bs) ≡ all → ns ≡ set ms (get_or bs i 0) false → unmark ns (drop (i + 1) bs) ≡ all
unmark_step bs i ms ns all l h e = rw e (sym (unmark_first ms (get_or bs i 0) (drop (i + 1) bs)) ∙ (sym (ap (unmark ms) (drop_more bs i 0 l)) ∙ h))

pub unmark_end : (bs : List ℕ) (i : ℕ) (ms : List Bool) → length bs ≤ i → unmark ms (drop i bs) ≡ ms
unfolding unmark
unmark_end bs i ms l = rw (drop_all i bs l) refl

set_beyond : (ms : List Bool) (b : ℕ) → length ms ≤ b → set ms b false ≡ ms
set_beyond [] b l = refl
set_beyond (m ∷ ms) zero l = absurd (omega (arith, l))
set_beyond (m ∷ ms) (suc b) l = ap (λ xs. m ∷ xs) (set_beyond ms b (omega (arith, l)))

pub unmark_beyond : (bs : List ℕ) (i : ℕ) (ms : List Bool) (all : List Bool) → i < length bs → unmark ms (drop i bs) ≡ all → length ms ≤ get_or bs i 0 → unmark ms (drop (i + 1) bs) ≡ all
unmark_beyond bs i ms all l h e = unmark_step bs i ms ms all l h (sym (set_beyond ms (get_or bs i 0) e))

set_here : (ms : List Bool) (b : ℕ) → is_marked (set ms b false) b ≡ false
set_here [] zero = refl
set_here [] (suc b) = refl
set_here (m ∷ ms) zero = refl
set_here (m ∷ ms) (suc b) = set_here ms b

set_free : (ms : List Bool) (b k : ℕ) → is_marked ms k ≡ false → is_marked (set ms b false) k ≡ false
set_free ms b k e = elim (cases_eq k b) [
  | inl h ↦ rw h (set_here ms b)
  | inr h ↦ get_or-set_other ms b k false false h ∙ e
]

stays_free : (bs : List ℕ) (ms : List Bool) (k : ℕ) → is_marked ms k ≡ false → is_marked (unmark ms bs) k ≡ false
unfolding unmark
stays_free [] ms k e = e
stays_free (b ∷ bs) ms k e = stays_free bs (set ms b false) k (set_free ms b k e)

unmarked : (bs : List ℕ) (ms : List Bool) (k : ℕ) → Contains bs k → is_marked (unmark ms bs) k ≡ false
unfolding unmark
unmarked [] ms k h = none_in k h
unmarked (b ∷ bs) ms k h = elim (in-cases k b bs h) [
  | inl e ↦ stays_free bs (set ms b false) k (subst (λ n. is_marked (set ms b false) n ≡ false) e (set_here ms b))
  | inr r ↦ unmarked bs (set ms b false) k r
]

by_mark : (t : Bool) (ms : List Bool) (bs : List ℕ) (k : ℕ) → is_marked ms k ≡ t → (is_marked ms k ≡ true → Contains bs k) → is_marked (unmark ms bs) k ≡ false
by_mark true ms bs k e h = unmarked bs ms k (h e)
by_mark false ms bs k e h = stays_free bs ms k e

pub free_again : (n : ℕ) (ms ns : List Bool) (found : List ℕ) → AreListed ms found → length ns ≡ n → ns ≡ unmark ms found → AreFree n ns
free_again n ms ns found listed long e = (
  long,
  λ k. rw e (by_mark (is_marked ms k) ms found k refl (listed k)),
)

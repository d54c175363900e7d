-- What a step leaves of the cursor of a number.
use Rattle.std.proofs.Common.{◌≡◌, ◌≢◌, ◌⊎◌, ℕ, suc, zero, ◌+◌, List, [], ◌∷◌, take, refl, sym, ap, ◌∙◌, true, false, Bool, Option, None, Some, inl, inr, subst, ⊎_elim}
use Rattle.std.specs.Prelude.{◌==◌, if◌then◌else◌}
use Rattle.std.proofs.lemmas.Bool.{ne_eqb, false≢true}
use Rattle.std.proofs.lemmas.Bool.Decides.{eqb_tells}
use Rattle.answers.specs.declared.types.Cursor.{Cursor}
use Rattle.answers.specs.Cursors.{look, moved, without}

abbrev pub on : Cursor → ℕ → Cursor
on c n = record c { answered = c.answered + n }

pub look_hit : (k : ℕ) (c : Cursor) (cs : List Cursor) → (c.number == k) ≡ true → look k (c ∷ cs) ≡ Some c
unfolding look
look_hit k c cs e = rw e refl

pub look_miss : (k : ℕ) (c : Cursor) (cs : List Cursor) → (c.number == k) ≡ false → look k (c ∷ cs) ≡ look k cs
unfolding look
look_miss k c cs e = rw e refl

moved_hit : (k n : ℕ) (c : Cursor) (cs : List Cursor) → (c.number == k) ≡ true → moved k n (c ∷ cs) ≡ on c n ∷ cs
unfolding moved
moved_hit k n c cs e = rw e refl

moved_miss : (k n : ℕ) (c : Cursor) (cs : List Cursor) → (c.number == k) ≡ false → moved k n (c ∷ cs) ≡ c ∷ moved k n cs
unfolding moved
moved_miss k n c cs e = rw e refl

same : (k : ℕ) (c : Cursor) (xs ys : List Cursor) → look k xs ≡ look k ys → look k (c ∷ xs) ≡ look k (c ∷ ys)
unfolding look
same k c xs ys e = rw e refl

-- The other cursor's place.
pub look_other : (k j n : ℕ) (cs : List Cursor) → j ≢ k → look k (moved j n cs) ≡ look k cs
unfolding moved
look_other k j n [] h = refl
look_other k j n (c ∷ cs) h =
    ⊎_elim
    (λ (t : ((c.number == j) ≡ true) × (c.number ≡ j)).
    let miss : (c.number == k) ≡ false = ne_eqb c.number k (λ e. h (sym t.1 ∙ e)) in
    ap (look k) (moved_hit j n c cs t.0) ∙ look_miss k (on c n) cs miss ∙ sym (look_miss k c cs miss))
    (λ (t : ((c.number == j) ≡ false) × (c.number ≢ j)).
    ap (look k) (moved_miss j n c cs t.0) ∙ same k c (moved j n cs) cs (look_other k j n cs h))
    (eqb_tells c.number j)

advanced : ℕ → Option Cursor → Option Cursor
advanced n None = None
advanced n (Some c) = Some (on c n)

is_there : Option Cursor → Bool
is_there None = false
is_there (Some c) = true

pub not_none : (o : Option Cursor) (c : Cursor) → o ≡ None → o ≡ Some c → ⊥
unfolding is_there
not_none o c n e = false≢true (ap is_there (sym n ∙ e))

no_look : (k : ℕ) (c : Cursor) → look k [] ≡ Some c → ⊥
unfolding look is_there
no_look k c e = false≢true (ap is_there e)

pub look_same : (k n : ℕ) (cs : List Cursor) (c : Cursor) → look k cs ≡ Some c → look k (moved k n cs) ≡ Some (on c n)
unfolding advanced
look_same k n [] c e = absurd (no_look k c e)
look_same k n (d ∷ cs) c e =
    ⊎_elim
    (λ (t : ((d.number == k) ≡ true) × (d.number ≡ k)).
    ap (look k) (moved_hit k n d cs t.0) ∙ look_hit k (on d n) cs t.0 ∙ ap (advanced n) (sym (look_hit k d cs t.0) ∙ e))
    (λ (t : ((d.number == k) ≡ false) × (d.number ≢ k)).
    ap (look k) (moved_miss k n d cs t.0) ∙ look_miss k d (moved k n cs) t.0 ∙ look_same k n cs c (sym (look_miss k d cs t.0) ∙ e))
    (eqb_tells d.number k)

pub look_take : (k n : ℕ) (cs : List Cursor) → (look k (take n cs) ≡ look k cs) ⊎ (look k (take n cs) ≡ None)
unfolding look
look_take k zero cs = inr refl
look_take k (suc n) [] = inl refl
look_take k (suc n) (c ∷ cs) = elim (c.number == k) as (λ b. ((if b then Some c else look k (take n cs)) ≡ (if b then Some c else look k cs)) ⊎ ((if b then Some c else look k (take n cs)) ≡ None)) [ true ↦ inl refl | false ↦ look_take k n cs ]

without_hit : (j : ℕ) (c : Cursor) (cs : List Cursor) → (c.number == j) ≡ true → without j (c ∷ cs) ≡ without j cs
unfolding without
without_hit j c cs e = rw e refl

without_miss : (j : ℕ) (c : Cursor) (cs : List Cursor) → (c.number == j) ≡ false → without j (c ∷ cs) ≡ c ∷ without j cs
unfolding without
without_miss j c cs e = rw e refl

-- All of the number are gone.
pub look_gone : (k : ℕ) (cs : List Cursor) → look k (without k cs) ≡ None
unfolding look without
look_gone k [] = refl
look_gone k (c ∷ cs) =
    ⊎_elim
    (λ (t : ((c.number == k) ≡ true) × (c.number ≡ k)). ap (look k) (without_hit k c cs t.0) ∙ look_gone k cs)
    (λ (t : ((c.number == k) ≡ false) × (c.number ≢ k)). ap (look k) (without_miss k c cs t.0) ∙ look_miss k c (without k cs) t.0 ∙ look_gone k cs)
    (eqb_tells c.number k)

pub look_left : (k j : ℕ) (cs : List Cursor) → j ≢ k → look k (without j cs) ≡ look k cs
unfolding without
look_left k j [] h = refl
look_left k j (c ∷ cs) h =
    ⊎_elim
    (λ (t : ((c.number == j) ≡ true) × (c.number ≡ j)).
    let miss : (c.number == k) ≡ false = ne_eqb c.number k (λ e. h (sym t.1 ∙ e)) in
    ap (look k) (without_hit j c cs t.0) ∙ look_left k j cs h ∙ sym (look_miss k c cs miss))
    (λ (t : ((c.number == j) ≡ false) × (c.number ≢ j)).
    ap (look k) (without_miss j c cs t.0) ∙ same k c (without j cs) cs (look_left k j cs h))
    (eqb_tells c.number j)

pub look_without : (k j : ℕ) (cs : List Cursor) → (look k (without j cs) ≡ look k cs) ⊎ (look k (without j cs) ≡ None)
look_without k j cs =
    ⊎_elim
    (λ (t : ((j == k) ≡ true) × (j ≡ k)). inr (subst (λ i. look k (without i cs) ≡ None) (sym t.1) (look_gone k cs)))
    (λ (t : ((j == k) ≡ false) × (j ≢ k)). inl (look_left k j cs t.1))
    (eqb_tells j k)

pub look_empty : (k : ℕ) → look k [] ≡ None
unfolding look
look_empty k = refl

some_same : (c d : Cursor) → Some c ≡ Some d → c ≡ d
some_same c d e = cc

-- The cursor that is found has the number.
pub look_number : (k : ℕ) (cs : List Cursor) (c : Cursor) → look k cs ≡ Some c → c.number ≡ k
look_number k [] c e = absurd (no_look k c e)
look_number k (d ∷ cs) c e =
    ⊎_elim
    (λ (t : ((d.number == k) ≡ true) × (d.number ≡ k)). ap (λ (x : Cursor). x.number) (sym (some_same d c (sym (look_hit k d cs t.0) ∙ e))) ∙ t.1)
    (λ (t : ((d.number == k) ≡ false) × (d.number ≢ k)). look_number k cs c (sym (look_miss k d cs t.0) ∙ e))
    (eqb_tells d.number k)

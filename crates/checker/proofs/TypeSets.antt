-- Sets of types, and the contexts that they cover.
use Rattle.std.proofs.Common.{◌≡◌, ◌≢◌, ◌⊎◌, ℕ, zero, suc, ◌==◌, ◌&&◌, Bool, true, false, List, [], ◌∷◌, ◌++◌, slice_get, Some, refl, sym, ap, ◌∙◌, subst, inl, inr, ⊎_elim, append_assoc, append-nil}
use Rattle.std.specs.Prelude.{if◌then◌else◌, leb, bytes_eq}
use Rattle.std.proofs.lemmas.Bool.{false≢true, eq-eqb, eqb-true, and_parts}
use Rattle.std.proofs.lemmas.Bool.Decides.{eqb_tells, leb_tells}
use Rattle.std.proofs.lemmas.Slice.Eq.{bytes_eq-Decides}
use Rattle.terms.specs.Typing.{joined}
use Rattle.checker.specs.declared.floor.Floor.{Floor}
use Rattle.terms.specs.Table.{has}
use Rattle.checker.specs.Floors.{with_type, with_types, is_at, floor_of}

pub has_hit : (a b : ℕ) (set : List ℕ) → (b == a) ≡ true → has a (b ∷ set) ≡ true
unfolding has
has_hit a b set e = rw e refl

has_miss : (a b : ℕ) (set : List ℕ) → (b == a) ≡ false → has a (b ∷ set) ≡ has a set
unfolding has
has_miss a b set e = rw e refl

pub has_more : (a b : ℕ) (set : List ℕ) → has a set ≡ true → has a (b ∷ set) ≡ true
has_more a b set h =
    ⊎_elim
    (λ (t : ((b == a) ≡ true) × (b ≡ a)). has_hit a b set t.0)
    (λ (t : ((b == a) ≡ false) × (b ≢ a)). has_miss a b set t.0 ∙ h)
    (eqb_tells b a)

pub has_tail : (a b : ℕ) (set : List ℕ) → has a (b ∷ set) ≡ true → ((b == a) ≡ true) ⊎ (has a set ≡ true)
has_tail a b set h =
    ⊎_elim
    (λ (t : ((b == a) ≡ true) × (b ≡ a)). inl t.0)
    (λ (t : ((b == a) ≡ false) × (b ≢ a)). inr (sym (has_miss a b set t.0) ∙ h))
    (eqb_tells b a)

pub with_same : (a b : ℕ) (set : List ℕ) → (a == b) ≡ true → with_type a (b ∷ set) ≡ b ∷ set
unfolding with_type
with_same a b set e = rw e refl

pub with_less : (a b : ℕ) (set : List ℕ) → (a == b) ≡ false → leb a b ≡ true → with_type a (b ∷ set) ≡ a ∷ b ∷ set
unfolding with_type
with_less a b set e l = rw (e, l) refl

pub with_more : (a b : ℕ) (set : List ℕ) → (a == b) ≡ false → leb a b ≡ false → with_type a (b ∷ set) ≡ b ∷ with_type a set
unfolding with_type
with_more a b set e l = rw (e, l) refl

has_self : (a : ℕ) (set : List ℕ) → has a (with_type a set) ≡ true
unfolding with_type
has_self a [] = has_hit a a [] (eq-eqb a a refl)
has_self a (b ∷ set) =
    ⊎_elim
    (λ (t : ((a == b) ≡ true) × (a ≡ b)). ap (has a) (with_same a b set t.0) ∙ has_hit a b set (eq-eqb b a (sym t.1)))
    (λ (t : ((a == b) ≡ false) × (a ≢ b)).
    ⊎_elim
    (λ l. ap (has a) (with_less a b set t.0 l.0) ∙ has_hit a a (b ∷ set) (eq-eqb a a refl))
    (λ l. ap (has a) (with_more a b set t.0 l.0) ∙ has_more a b (with_type a set) (has_self a set))
    (leb_tells a b))
    (eqb_tells a b)

pub no_has : (a : ℕ) → has a [] ≡ true → ⊥
unfolding has
no_has a h = false≢true h

has_kept : (a b : ℕ) (set : List ℕ) → has a set ≡ true → has a (with_type b set) ≡ true
has_kept a b [] h = absurd (no_has a h)
has_kept a b (c ∷ set) h =
    ⊎_elim
    (λ (t : ((b == c) ≡ true) × (b ≡ c)). ap (has a) (with_same b c set t.0) ∙ h)
    (λ (t : ((b == c) ≡ false) × (b ≢ c)).
    ⊎_elim
    (λ l. ap (has a) (with_less b c set t.0 l.0) ∙ has_more a b (c ∷ set) h)
    (λ l. ap (has a) (with_more b c set t.0 l.0) ∙ ⊎_elim (λ e. has_hit a c (with_type b set) e) (λ e. has_more a c (with_type b set) (has_kept a b set e)) (has_tail a c set h))
    (leb_tells b c))
    (eqb_tells b c)

pub has_types : (a : ℕ) (ps set : List ℕ) → has a set ≡ true → has a (with_types ps set) ≡ true
unfolding with_types
has_types a [] set h = h
has_types a (p ∷ ps) set h = has_types a ps (with_type p set) (has_kept a p set h)

some_same : (a b : ℕ) → Some a ≡ Some b → a ≡ b
some_same a b e = cc

pub has_new : (a n : ℕ) (ps set : List ℕ) → slice_get ps n ≡ Some a → has a (with_types ps set) ≡ true
unfolding with_types
has_new a n [] set e = absurd cc
has_new a zero (p ∷ ps) set e = has_types a ps (with_type p set) (subst (λ x. has x (with_type p set) ≡ true) (some_same p a e) (has_self p set))
has_new a (suc n) (p ∷ ps) set e = has_new a n ps (with_type p set) e

-- each type of the context stands in the set
abbrev pub Covers : List ℕ → List (List ℕ) → Type 0
Covers set ctx = (n a : ℕ) → slice_get (joined ctx) n ≡ Some a → has a set ≡ true

pub joined_more : (ctx : List (List ℕ)) (ps : List ℕ) → joined (ctx ++ ps ∷ []) ≡ joined ctx ++ ps
unfolding joined
joined_more [] ps = append-nil ps
joined_more (row ∷ ctx) ps = ap (λ xs. row ++ xs) (joined_more ctx ps) ∙ sym (append_assoc row (joined ctx) ps)

one_of : (xs ys : List ℕ) (n a : ℕ) → slice_get (xs ++ ys) n ≡ Some a → (slice_get xs n ≡ Some a) ⊎ ((m : ℕ) × (slice_get ys m ≡ Some a))
one_of [] ys n a e = inr (n, e)
one_of (x ∷ xs) ys zero a e = inl e
one_of (x ∷ xs) ys (suc n) a e = one_of xs ys n a e

pub covers_more : (set : List ℕ) (ctx : List (List ℕ)) (ps : List ℕ) → Covers set ctx → Covers (with_types ps set) (ctx ++ ps ∷ [])
covers_more set ctx ps covers n a e =
    ⊎_elim
    (λ h. has_types a ps set (covers n a h))
    (λ (h : (m : ℕ) × (slice_get ps m ≡ Some a)). has_new a h.0 ps set h.1)
    (one_of (joined ctx) ps n a (subst (λ xs. slice_get xs n ≡ Some a) (joined_more ctx ps) e))

pub covers_none : Covers [] []
unfolding joined
covers_none n a e = absurd cc

-- the floor of a state is 0, or it is listed
listed : (P : Floor → Type 0) (set : List ℕ) (left b : ℕ) (f : Floor) → is_at set left b f ≡ true → P f → P (record { set = set; left = left; goal = b; floor = f.floor })
listed P set left b f e p =
    let parts = and_parts (bytes_eq f.set set) ((f.left == left) && (f.goal == b)) e in
    let more = and_parts (f.left == left) (f.goal == b) parts.1 in
    let s : f.set ≡ set = (bytes_eq-Decides f.set set).0 parts.0 in
    let l : f.left ≡ left = eqb-true f.left left more.0 in
    let g : f.goal ≡ b = eqb-true f.goal b more.1 in
    subst (λ x. P (record { set = x; left = left; goal = b; floor = f.floor })) s (subst (λ x. P (record { set = f.set; left = x; goal = b; floor = f.floor })) l (subst (λ x. P (record { set = f.set; left = f.left; goal = x; floor = f.floor })) g p))

one_more : (P : Floor → Type 0) (f : Floor) (fs : List Floor) (set : List ℕ) (left b : ℕ) (x : Bool) → is_at set left b f ≡ x → P f → ((floor_of fs set left b ≡ 0) ⊎ P (record { set = set; left = left; goal = b; floor = floor_of fs set left b }))
    → ((if x then f.floor else floor_of fs set left b) ≡ 0) ⊎ P (record { set = set; left = left; goal = b; floor = if x then f.floor else floor_of fs set left b })
one_more P f fs set left b true e p rest = inr (listed P set left b f e p)
one_more P f fs set left b false e p rest = rest

pub floor_at : (P : Floor → Type 0) (fs : List Floor) → ((i : ℕ) (f : Floor) → slice_get fs i ≡ Some f → P f) → (set : List ℕ) (left b : ℕ) → (floor_of fs set left b ≡ 0) ⊎ P (record { set = set; left = left; goal = b; floor = floor_of fs set left b })
unfolding floor_of
floor_at P [] all set left b = inl refl
floor_at P (f ∷ fs) all set left b = one_more P f fs set left b (is_at set left b f) refl (all 0 f refl) (floor_at P fs (λ i h s. all (suc i) h s) set left b)

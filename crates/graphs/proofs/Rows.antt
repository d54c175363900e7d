-- Of rows of nodes: bounds, and what is kept of them.
use Rattle.graphs.proofs.Elements.{in-one, single, none_in}
use Rattle.std.proofs.lemmas.List.Elements.{Contains-append_left, Contains-append_right, Contains-append_cases, Contains-get_or}
use Rattle.std.proofs.Common.{◌≡◌, ℕ, ◌+◌, ◌<◌, ◌≤◌, Bool, true, false, List, [], ◌∷◌, ◌++◌, length, get_or, take, refl, sym, subst, ◌∙◌, arith, inl, inr, ◌⊎◌, Contains}
use Rattle.std.proofs.lemmas.List.{take_more, take_all, length_push, get_or_append_left, get_or_push, get_or_past}
use Rattle.graphs.specs.Graph.{edges, Reaches, IsForwardRow, IsForward}
use Rattle.graphs.specs.Numbers.{number_of, NeverRises}
use Rattle.graphs.proofs.Marks.{both}
use Rattle.graphs.proofs.Ranks.{last_or, low, from_node, within}

-- a node among the first i + 1 is among the first i or is the next
pub first-more : (bs : List ℕ) (i : ℕ) (b : ℕ) → i < length bs → Contains (take (i + 1) bs) b → Contains (take i bs) b ⊎ (get_or bs i 0 ≡ b)
first-more bs i b l h = elim (Contains-append_cases (take i bs) (get_or bs i 0 ∷ []) b (subst (λ l. Contains l b) (take_more bs i 0 l) h)) [
  | inl a ↦ inl a
  | inr a ↦ inr (in-one b (get_or bs i 0) a)
]

pub first-before : (bs : List ℕ) (i : ℕ) (b : ℕ) → i < length bs → Contains (take i bs) b → Contains (take (i + 1) bs) b
first-before bs i b l h = subst (λ l. Contains l b) (sym (take_more bs i 0 l)) (Contains-append_left (take i bs) (get_or bs i 0 ∷ []) b h)

pub first-last : (bs : List ℕ) (i : ℕ) → i < length bs → Contains (take (i + 1) bs) (get_or bs i 0)
first-last bs i l = subst (λ l. Contains l (get_or bs i 0)) (sym (take_more bs i 0 l)) (Contains-append_right (take i bs) (get_or bs i 0 ∷ []) (get_or bs i 0) (single (get_or bs i 0) (get_or bs i 0) refl))

-- bounds
pub bound-more : (bs : List ℕ) (i m : ℕ) → i < length bs → ((b : ℕ) → Contains (take i bs) b → b < m) → get_or bs i 0 < m → (b : ℕ) → Contains (take (i + 1) bs) b → b < m
bound-more bs i m l before here b h = elim (first-more bs i b l h) [
  | inl a ↦ before b a
  | inr e ↦ subst (λ n. n < m) e here
]

pub bound-all : (bs : List ℕ) (i m : ℕ) → length bs ≤ i → ((b : ℕ) → Contains (take i bs) b → b < m) → (b : ℕ) → Contains bs b → b < m
bound-all bs i m l before b h = before b (subst (λ l. Contains l b) (sym (take_all i bs l)) h)

pub rows-more : (g : List (List ℕ)) (n m : ℕ) → ((a b : ℕ) → a < n → Contains (edges g a) b → b < m) → ((b : ℕ) → Contains (edges g n) b → b < m) → (a b : ℕ) → a < n + 1 → Contains (edges g a) b → b < m
rows-more g n m before here a b l h = elim (last_or a n l) [
  | inl e ↦ here b (subst (λ k. Contains (edges g k) b) e h)
  | inr s ↦ before a b s h
]

pub rows-all : (g : List (List ℕ)) (n m : ℕ) → length g ≤ n → ((a b : ℕ) → a < n → Contains (edges g a) b → b < m) → (a b : ℕ) → Contains (edges g a) b → b < m
rows-all g n m l before a b h = before a b (omega (arith, l, from_node g a b h (within a (length g)))) h

-- kept: those of the nodes to which P doesn't come
pub record AreKept (P : ℕ → Type 0) (bs kept : List ℕ) : Type 0 where
  pub sound : (b : ℕ) → Contains kept b → Contains bs b × (P b → ⊥)
  pub complete : (b : ℕ) → Contains bs b → (P b → ⊥) → Contains kept b

pub kept-more : (P : ℕ → Type 0) (bs kept : List ℕ) (i : ℕ) → i < length bs → AreKept P (take i bs) kept → (P (get_or bs i 0) → ⊥) → AreKept P (take (i + 1) bs) (kept ++ get_or bs i 0 ∷ [])
kept-more P bs kept i l k free = record {
  sound = λ b h. elim (Contains-append_cases kept (get_or bs i 0 ∷ []) b h) [
    | inl a ↦ (first-before bs i b l (k.sound b a).0, (k.sound b a).1)
    | inr a ↦ let e = in-one b (get_or bs i 0) a in (subst (λ n. Contains (take (i + 1) bs) n) e (first-last bs i l), λ p. free (subst P (sym e) p))
  ];
  complete = λ b h n. elim (first-more bs i b l h) [
    | inl a ↦ Contains-append_left kept (get_or bs i 0 ∷ []) b (k.complete b a n)
    | inr e ↦ Contains-append_right kept (get_or bs i 0 ∷ []) b (single b (get_or bs i 0) e)
  ];
}

pub kept-skip : (P : ℕ → Type 0) (bs kept : List ℕ) (i : ℕ) → i < length bs → AreKept P (take i bs) kept → P (get_or bs i 0) → AreKept P (take (i + 1) bs) kept
kept-skip P bs kept i l k at = record {
  sound = λ b h. (first-before bs i b l (k.sound b h).0, (k.sound b h).1);
  complete = λ b h n. elim (first-more bs i b l h) [
    | inl a ↦ k.complete b a n
    | inr e ↦ absurd (n (subst P e at))
  ];
}

pub kept-all : (P : ℕ → Type 0) (bs kept : List ℕ) (i : ℕ) → length bs ≤ i → AreKept P (take i bs) kept → (b : ℕ) → (Contains kept b → Contains bs b × (P b → ⊥)) × (Contains bs b → (P b → ⊥) → Contains kept b)
kept-all P bs kept i l k b = (
  (λ h. (subst (λ l. Contains l b) (take_all i bs l) (k.sound b h).0, (k.sound b h).1)),
  (λ h n. k.complete b (subst (λ l. Contains l b) (sym (take_all i bs l)) h) n),
)

pub forward-row : (g : List (List ℕ)) (a : ℕ) (bs kept : List ℕ) (i : ℕ) → bs ≡ edges g a → length bs ≤ i → AreKept (λ b. Reaches g b a) (take i bs) kept → IsForwardRow g a kept
forward-row g a bs kept i e l k b =
    let all = kept-all (λ b. Reaches g b a) bs kept i l k b in
    ((λ h. (subst (λ row. Contains row b) e (all.0 h).0, (all.0 h).1)), (λ h n. all.1 (subst (λ row. Contains row b) (sym e) h) n))

-- the rows so far
pub record AreForwardRows (g rows : List (List ℕ)) (n : ℕ) : Type 0 where
  pub long : length rows ≡ n
  pub each : (a : ℕ) → a < n → IsForwardRow g a (edges rows a)

pub forward-none : (g : List (List ℕ)) → AreForwardRows g [] 0
forward-none g = record { long = refl; each = λ a l. absurd (omega (arith, l)) }

pub forward-more : (g rows : List (List ℕ)) (row : List ℕ) (n : ℕ) → AreForwardRows g rows n → IsForwardRow g n row → AreForwardRows g (rows ++ row ∷ []) (n + 1)
forward-more g rows row n f here = record {
  long = omega (arith, length_push rows row, f.long);
  each = λ a l. elim (last_or a n l) [
    | inl e ↦ subst (λ k. IsForwardRow g k (edges (rows ++ row ∷ []) k)) (sym e) (subst (IsForwardRow g n) (sym (get_or_push rows row [] n f.long)) here)
    | inr s ↦ subst (IsForwardRow g a) (sym (get_or_append_left rows (row ∷ []) [] a (omega (arith, s, f.long)))) (f.each a s)
  ];
}

no-rows : (g rows : List (List ℕ)) (a : ℕ) → length g ≤ a → length rows ≡ length g → IsForwardRow g a (edges rows a)
no-rows g rows a l e b = (
  (λ h. none_in b (subst (λ l. Contains l b) (get_or_past rows a [] (omega (arith, l, e))) h)),
  (λ h n. none_in b (subst (λ l. Contains l b) (get_or_past g a [] l) h)),
)

pub forward-all : (g rows : List (List ℕ)) (n : ℕ) → n ≡ length g → AreForwardRows g rows n → IsForward g rows
forward-all g rows n e f = record {
  long = f.long ∙ e;
  each = λ a. elim (within a (length g)) [
    | inl l ↦ f.each a (omega (arith, l, e))
    | inr l ↦ no-rows g rows a l (f.long ∙ e)
  ];
}

-- an edge that falls doesn't come back
pub falls_away : (g : List (List ℕ)) (numbers : List ℕ) (a b : ℕ) → NeverRises g numbers → number_of numbers b < number_of numbers a → Reaches g b a → ⊥
falls_away g numbers a b never l r = omega (arith, l, low g numbers never b r.0 a r.1)

pub not-below : {P : Type 0} (bs : List ℕ) (i m : ℕ) → i < length bs → m ≤ get_or bs i 0 → ((b : ℕ) → Contains bs b → b < m) → P
not-below bs i m l e below = absurd (omega (arith, e, below (get_or bs i 0) (Contains-get_or bs i 0 l)))

pub none-kept : (P : ℕ → Type 0) (kept : List ℕ) → kept ≡ [] → AreKept P [] kept
none-kept P kept e = rw e (record {
  sound = λ b h. none_in b h;
  complete = λ b h n. h;
})

by-answer : (P : ℕ → Type 0) (t : Bool) (n : ℕ) → (P n → t ≡ true) → t ≡ false → P n → ⊥
by-answer P t n h e p = both t (h p) e

pub kept-next : (P : ℕ → Type 0) (bs kept new : List ℕ) (i : ℕ) (t : Bool) → i < length bs → AreKept P (take i bs) kept → (P (get_or bs i 0) → t ≡ true) → t ≡ false → new ≡ kept ++ get_or bs i 0 ∷ [] → AreKept P (take (i + 1) bs) new
kept-next P bs kept new i t l k h e is = rw is (kept-more P bs kept i l k (by-answer P t (get_or bs i 0) h e))

pub kept-over : (P : ℕ → Type 0) (bs kept : List ℕ) (i : ℕ) (t : Bool) → i < length bs → AreKept P (take i bs) kept → (t ≡ true → P (get_or bs i 0)) → t ≡ true → AreKept P (take (i + 1) bs) kept
kept-over P bs kept i t l k h e = kept-skip P bs kept i l k (h e)

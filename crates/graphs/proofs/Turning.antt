-- Nodes with one root, and edges turned round.
use Rattle.graphs.proofs.Paths.{leads-join, leads-by, leads-turned}
use Rattle.graphs.proofs.Elements.{in-one, none_in}
use Rattle.std.proofs.lemmas.List.Elements.{Contains-append_cases}
use Rattle.std.proofs.Common.{◌≡◌, ℕ, ◌+◌, ◌<◌, ◌≤◌, Bool, true, false, List, [], ◌∷◌, ◌++◌, length, get_or, take, refl, sym, ap, subst, ◌∙◌, arith, inl, inr, ◌⊎◌, Contains}
use lib.ListN.{set}
use Rattle.std.proofs.lemmas.List.{take_all, length_push, get_or_append_left, get_or_push, get_or_past, get_or-set_same, get_or-set_other}
use Rattle.std.proofs.lemmas.Bool.{cases_eq}
use Rattle.graphs.specs.Graph.{edges, Reaches, is_marked, IsEdge}
use Rattle.graphs.specs.Joined.{root_of, IsPart, IsTurned, AreRooted, AreLed, AreMarks}
use Rattle.graphs.proofs.Marks.{both}
use Rattle.graphs.proofs.Ranks.{last_or, from_node, within}
use Rattle.graphs.proofs.Rows.{first-before, first-last}

-- Rows that were kept.
pub some-more : (bs kept new : List ℕ) (i : ℕ) → i < length bs → ((b : ℕ) → Contains kept b → Contains (take i bs) b) → new ≡ kept ++ get_or bs i 0 ∷ [] → (b : ℕ) → Contains new b → Contains (take (i + 1) bs) b
some-more bs kept new i l k e b h = elim (Contains-append_cases kept (get_or bs i 0 ∷ []) b (subst (λ l. Contains l b) e h)) [
  | inl a ↦ first-before bs i b l (k b a)
  | inr a ↦ subst (λ n. Contains (take (i + 1) bs) n) (in-one b (get_or bs i 0) a) (first-last bs i l)
]

pub some-over : (bs kept : List ℕ) (i : ℕ) → i < length bs → ((b : ℕ) → Contains kept b → Contains (take i bs) b) → (b : ℕ) → Contains kept b → Contains (take (i + 1) bs) b
some-over bs kept i l k b h = first-before bs i b l (k b h)

pub some-all : (bs kept : List ℕ) (i : ℕ) → length bs ≤ i → ((b : ℕ) → Contains kept b → Contains (take i bs) b) → (b : ℕ) → Contains kept b → Contains bs b
some-all bs kept i l k b h = subst (λ l. Contains l b) (take_all i bs l) (k b h)

-- The rows so far have some of the graph's edges.
pub record ArePartRows (g rows : List (List ℕ)) (n : ℕ) : Type 0 where
  pub long : length rows ≡ n
  pub part : (a b : ℕ) → Contains (edges rows a) b → Contains (edges g a) b

pub part-none : (g rows : List (List ℕ)) → rows ≡ [] → ArePartRows g rows 0
part-none g rows e = record { long = ap length e; part = λ a b h. none_in b (subst (λ (r : List (List ℕ)). Contains (edges r a) b) e h) }

pub part-all : (g rows : List (List ℕ)) (n : ℕ) → n ≡ length g → ArePartRows g rows n → IsPart g rows
part-all g rows n e p = record { long = p.long ∙ e; part = p.part }

beyond-one : (rows : List (List ℕ)) (row : List ℕ) (a b : ℕ) → (a < length rows + 1) ⊎ (length rows + 1 ≤ a) → Contains (edges (rows ++ row ∷ []) a) b → a < length rows + 1
beyond-one rows row a b (inl l) h = l
beyond-one rows row a b (inr l) h = none_in b (subst (λ l. Contains l b) (get_or_past (rows ++ row ∷ []) a [] (omega (arith, l, length_push rows row))) h)

pub part-more : (g rows new : List (List ℕ)) (row : List ℕ) (n : ℕ) → ArePartRows g rows n → ((b : ℕ) → Contains row b → Contains (edges g n) b) → new ≡ rows ++ row ∷ [] → ArePartRows g new (n + 1)
part-more g rows new row n p here e = rw e (record {
  long = omega (arith, length_push rows row, p.long);
  part = λ a b h. elim (last_or a n (omega (arith, p.long, beyond-one rows row a b (within a (length rows + 1)) h))) [
    | inl s ↦ subst (λ k. Contains (edges g k) b) (sym s) (here b (subst (λ l. Contains l b) (get_or_push rows row [] a (p.long ∙ sym s)) h))
    | inr s ↦ p.part a b (subst (λ l. Contains l b) (get_or_append_left rows (row ∷ []) [] a (omega (arith, s, p.long))) h)
  ];
})

-- Rows without an edge.
pub record AreEmptyRows (rows : List (List ℕ)) (n : ℕ) : Type 0 where
  pub long : length rows ≡ n
  pub none : (a b : ℕ) → Contains (edges rows a) b → ⊥

pub empty-none : (rows : List (List ℕ)) → rows ≡ [] → AreEmptyRows rows 0
empty-none rows e = record { long = ap length e; none = λ a b h. none_in b (subst (λ (r : List (List ℕ)). Contains (edges r a) b) e h) }

pub empty-more : (rows new : List (List ℕ)) (row : List ℕ) (n : ℕ) → AreEmptyRows rows n → row ≡ [] → new ≡ rows ++ row ∷ [] → AreEmptyRows new (n + 1)
empty-more rows new row n p none e = rw e (record {
  long = omega (arith, length_push rows row, p.long);
  none = λ a b h. elim (last_or a n (omega (arith, p.long, beyond-one rows row a b (within a (length rows + 1)) h))) [
    | inl s ↦ none_in b (subst (λ l. Contains l b) (get_or_push rows row [] a (p.long ∙ sym s) ∙ none) h)
    | inr s ↦ p.none a b (subst (λ l. Contains l b) (get_or_append_left rows (row ∷ []) [] a (omega (arith, s, p.long))) h)
  ];
})

-- One edge more.
pub set-edge : (rows : List (List ℕ)) (from to : ℕ) (row : List ℕ) → from < length rows → row ≡ edges rows from ++ to ∷ [] → (a b : ℕ) → Contains (edges (set rows from row) a) b → Contains (edges rows a) b ⊎ ((from ≡ a) × (to ≡ b))
set-edge rows from to row l e a b h = elim (cases_eq a from) [
  | inl s ↦ let here : Contains (edges rows from ++ to ∷ []) b = subst (λ l. Contains l b) e (subst (λ l. Contains l b) (get_or-set_same rows from row [] l) (subst (λ k. Contains (edges (set rows from row) k) b) s h)) in
      elim (Contains-append_cases (edges rows from) (to ∷ []) b here) [
        | inl k ↦ inl (subst (λ n. Contains (edges rows n) b) (sym s) k)
        | inr k ↦ inr (sym s, in-one b to k)
      ]
  | inr s ↦ inl (subst (λ l. Contains l b) (get_or-set_other rows from a row [] s) h)
]

pub record AreAdded (old new : List (List ℕ)) (nodes : List ℕ) (to : ℕ) : Type 0 where
  pub long : length new ≡ length old
  pub added : (a b : ℕ) → Contains (edges new a) b → Contains (edges old a) b ⊎ (Contains nodes a × (to ≡ b))

pub added-none : (old : List (List ℕ)) (to : ℕ) → AreAdded old old [] to
added-none old to = record { long = refl; added = λ a b h. inl h }

pub added-more : (old mid new : List (List ℕ)) (nodes : List ℕ) (to i : ℕ) → i < length nodes → AreAdded old mid (take i nodes) to → length new ≡ length mid → ((a b : ℕ) → Contains (edges new a) b → Contains (edges mid a) b ⊎ ((get_or nodes i 0 ≡ a) × (to ≡ b))) → AreAdded old new (take (i + 1) nodes) to
added-more old mid new nodes to i l p e more = record {
  long = e ∙ p.long;
  added = λ a b h. elim (more a b h) [
    | inl k ↦ elim (p.added a b k) [
      | inl m ↦ inl m
      | inr m ↦ inr (first-before nodes i a l m.0, m.1)
    ]
    | inr k ↦ inr (subst (λ n. Contains (take (i + 1) nodes) n) k.0 (first-last nodes i l), k.1)
  ];
}

pub added-all : (old new : List (List ℕ)) (nodes : List ℕ) (to i : ℕ) → length nodes ≤ i → AreAdded old new (take i nodes) to → (a b : ℕ) → Contains (edges new a) b → Contains (edges old a) b ⊎ (Contains nodes a × (to ≡ b))
added-all old new nodes to i l p a b h = elim (p.added a b h) [
  | inl k ↦ inl k
  | inr k ↦ inr (subst (λ l. Contains l a) (take_all i nodes l) k.0, k.1)
]

-- The rows so far have edges of the graph turned round.
pub record AreTurnedRows (g rows : List (List ℕ)) : Type 0 where
  pub long : length rows ≡ length g
  pub part : (a b : ℕ) → Contains (edges rows a) b → Contains (edges g b) a

pub turned-none : (g rows : List (List ℕ)) → length rows ≡ length g → ((a b : ℕ) → Contains (edges rows a) b → ⊥) → AreTurnedRows g rows
turned-none g rows e none = record { long = e; part = λ a b h. absurd (none a b h) }

pub turned-more : (g old new : List (List ℕ)) (row : List ℕ) (n : ℕ) → AreTurnedRows g old → row ≡ edges g n → length new ≡ length old → ((a b : ℕ) → Contains (edges new a) b → Contains (edges old a) b ⊎ (Contains row a × (n ≡ b))) → AreTurnedRows g new
turned-more g old new row n t s e more = record {
  long = e ∙ t.long;
  part = λ a b h. elim (more a b h) [
    | inl k ↦ t.part a b k
    | inr k ↦ subst (λ m. Contains (edges g m) a) k.1 (subst (λ l. Contains l a) s k.0)
  ];
}

pub turned-all : (g rows : List (List ℕ)) → AreTurnedRows g rows → IsTurned g rows
turned-all g rows t = record { long = t.long; part = t.part }

-- Marks.
set-only : (ms : List Bool) (b k : ℕ) → is_marked (set ms b true) k ≡ true → (is_marked ms k ≡ true) ⊎ (b ≡ k)
set-only ms b k e = elim (cases_eq k b) [
  | inl h ↦ inr (sym h)
  | inr h ↦ inl (sym (get_or-set_other ms b k true false h) ∙ e)
]

pub rooted-set : (g : List (List ℕ)) (roots : List ℕ) (ms : List Bool) (b root : ℕ) → root_of roots b ≡ root → Reaches g root b → AreRooted g roots ms → AreRooted g roots (set ms b true)
rooted-set g roots ms b root e r m a h = elim (set-only ms b a h) [
  | inl k ↦ m a k
  | inr k ↦ subst (λ n. Reaches g (root_of roots n) n) k (subst (λ n. Reaches g n b) (sym e) r)
]

pub rooted-free : (g : List (List ℕ)) (roots : List ℕ) (ms : List Bool) → ((b : ℕ) → is_marked ms b ≡ false) → AreRooted g roots ms
rooted-free g roots ms f a h = both (is_marked ms a) h (f a)

pub led-from : (g h : List (List ℕ)) (roots : List ℕ) (ms : List Bool) → ((a b : ℕ) → Contains (edges h a) b → Contains (edges g b) a) → AreRooted h roots ms → AreLed g roots ms
led-from g h roots ms e r a m = leads-turned (IsEdge h) (IsEdge g) e (root_of roots a) a (r a m)

pub rooted-from : (g h : List (List ℕ)) (roots : List ℕ) (ms : List Bool) → ((a b : ℕ) → Contains (edges h a) b → Contains (edges g a) b) → AreRooted h roots ms → AreRooted g roots ms
rooted-from g h roots ms e r a m = leads-by (IsEdge h) (IsEdge g) e (root_of roots a) a (r a m)

pub way-by : (g : List (List ℕ)) (roots : List ℕ) (above below : List Bool) (a b : ℕ) → AreLed g roots above → AreRooted g roots below → root_of roots a ≡ root_of roots b → is_marked above a ≡ true → is_marked below b ≡ true → Reaches g a b
way-by g roots above below a b l r e m k = leads-join (IsEdge g) a (root_of roots a) b (l a m) (subst (λ n. Reaches g n b) (sym e) (r b k))

-- An edge that is turned round leads to a node of the graph.
pub turned-range : (g rows : List (List ℕ)) → length rows ≡ length g → ((a b : ℕ) → Contains (edges rows a) b → Contains (edges g b) a) → (a b : ℕ) → Contains (edges rows a) b → b < length rows
turned-range g rows e t a b h = omega (arith, e, from_node g b a (t a b h) (within b (length g)))

pub part-range : (g rows : List (List ℕ)) → length rows ≡ length g → ((a b : ℕ) → Contains (edges g a) b → b < length g) → ((a b : ℕ) → Contains (edges rows a) b → Contains (edges g a) b) → (a b : ℕ) → Contains (edges rows a) b → b < length rows
part-range g rows e r p a b h = omega (arith, e, r a b (p a b h))

pub joined-all : (g inner back : List (List ℕ)) (roots : List ℕ) (below above : List Bool) → ((a b : ℕ) → Contains (edges inner a) b → Contains (edges g a) b) → IsTurned inner back → AreRooted inner roots below → AreRooted back roots above → AreMarks g roots below above
joined-all g inner back roots below above p t b a = record {
  below = rooted-from g inner roots below p b;
  above = λ k m. leads-by (IsEdge inner) (IsEdge g) p k (root_of roots k) (led-from inner back roots above t.part a k m);
}

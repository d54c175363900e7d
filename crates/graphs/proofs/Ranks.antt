-- Numbers that never rise along an edge rule out cycles.
use Rattle.graphs.proofs.Paths.{first-step, along}
use Rattle.graphs.proofs.Elements.{none_in, in-cases}
use Rattle.graphs.specs.Paths.{IsPathBy}
use Rattle.std.proofs.Common.{◌≡◌, ℕ, zero, suc, ◌+◌, ◌<◌, ◌≤◌, Bool, true, false, cond, nat_lt, List, [], ◌∷◌, length, get_or, drop, refl, sym, subst, ◌∙◌, arith, inl, inr, ◌⊎◌, Contains}
use Rattle.std.proofs.lemmas.List.{drop_more, drop_all}
use Rattle.std.proofs.lemmas.Bool.{ltb-true, cases_eq}
use Rattle.graphs.specs.Graph.{edges, Reaches, IsAcyclicBelow, IsAcyclic, IsEdge}
use Rattle.graphs.specs.Numbers.{number_of, all_below, NeverRises}

below_first : (r : List ℕ) (m b : ℕ) (bs : List ℕ) → all_below r m (b ∷ bs) ≡ cond (nat_lt (number_of r b) m) (all_below r m bs) false
unfolding all_below
below_first r m b bs = refl

pub below-more : (r : List ℕ) (m : ℕ) (bs : List ℕ) (i : ℕ) → i < length bs → all_below r m (drop i bs) ≡ cond (nat_lt (number_of r (get_or bs i 0)) m) (all_below r m (drop (i + 1) bs)) false
below-more r m bs i l = rw (drop_more bs i 0 l) (below_first r m (get_or bs i 0) (drop (i + 1) bs))

pub below-end : (r : List ℕ) (m : ℕ) (bs : List ℕ) (i : ℕ) → length bs ≤ i → all_below r m (drop i bs) ≡ true
unfolding all_below
below-end r m bs i l = rw (drop_all i bs l) refl

pub ruleset below_walks = (below-more, below-end)

passes : (t : Bool) (u : Bool) → cond t u false ≡ true → (t ≡ true) × (u ≡ true)
passes true u e = (refl, e)
passes false u e = absurd cc

pub are_below : (r : List ℕ) (m : ℕ) (bs : List ℕ) → all_below r m bs ≡ true → (b : ℕ) → Contains bs b → number_of r b < m
unfolding all_below
are_below r m [] e b h = none_in b h
are_below r m (c ∷ bs) e b h = elim (in-cases b c bs h) [
  | inl s ↦ subst (λ n. number_of r n < m) s (ltb-true (number_of r c) m (passes _ _ e).0)
  | inr k ↦ are_below r m bs (passes _ _ e).1 b k
]

no_edges : (g : List (List ℕ)) (a : ℕ) → length g ≤ a → edges g a ≡ []
no_edges [] zero l = refl
no_edges [] (suc a) l = refl
no_edges (xs ∷ g) zero l = absurd (omega (arith, l))
no_edges (xs ∷ g) (suc a) l = no_edges g a (omega (arith, l))

-- an edge leaves a node of the graph
pub from_node : (g : List (List ℕ)) (a b : ℕ) → Contains (edges g a) b → ((a < length g) ⊎ (length g ≤ a)) → a < length g
from_node g a b h (inl l) = l
from_node g a b h (inr l) = none_in b (subst (λ l. Contains l b) (no_edges g a l) h)

pub low : (g : List (List ℕ)) (r : List ℕ) → NeverRises g r → (a : ℕ) (cs : List ℕ) (b : ℕ) → IsPathBy (IsEdge g) a cs b → number_of r b ≤ number_of r a
unfolding IsPathBy
low g r never a [] b h = never a b h
low g r never a (c ∷ cs) b h = omega (arith, never a c h.0, low g r never c cs b h.1)

pub no_cycle : (g : List (List ℕ)) (r : List ℕ) → NeverRises g r → (a : ℕ) → ((b : ℕ) → Contains (edges g a) b → number_of r b < number_of r a) → (cs : List ℕ) → IsPathBy (IsEdge g) a cs a → ⊥
unfolding IsPathBy
no_cycle g r never a falls [] h = omega (arith, falls a h)
no_cycle g r never a falls (c ∷ cs) h = omega (arith, falls c h.0, low g r never c cs a h.1)

-- a number below n + 1 is n or below n
pub last_or : (a n : ℕ) → a < n + 1 → (a ≡ n) ⊎ (a < n)
last_or a n l = elim (cases_eq a n) [
  | inl e ↦ inl e
  | inr h ↦ inr (omega (arith, l, h))
]

pub rises_more : (g : List (List ℕ)) (r : List ℕ) (n : ℕ) → ((a b : ℕ) → a < n → Contains (edges g a) b → number_of r b ≤ number_of r a) → all_below r (number_of r n + 1) (edges g n) ≡ true → (a b : ℕ) → a < n + 1 → Contains (edges g a) b → number_of r b ≤ number_of r a
rises_more g r n before e a b l h = elim (last_or a n l) [
  | inl s ↦ let below : number_of r b < number_of r n + 1 = are_below r (number_of r n + 1) (edges g n) e b (subst (λ k. Contains (edges g k) b) s h) in subst (λ k. number_of r b ≤ number_of r k) (sym s) (omega (arith, below))
  | inr m ↦ before a b m h
]

pub within : (a n : ℕ) → (a < n) ⊎ (n ≤ a)
within zero zero = inr (omega arith)
within zero (suc n) = inl (omega arith)
within (suc a) zero = inr (omega arith)
within (suc a) (suc n) = elim (within a n) [
  | inl l ↦ inl (omega (arith, l))
  | inr l ↦ inr (omega (arith, l))
]

pub rises_end : (g : List (List ℕ)) (r : List ℕ) (n : ℕ) → ((a b : ℕ) → a < n → Contains (edges g a) b → number_of r b ≤ number_of r a) → length g ≤ n → NeverRises g r
rises_end g r n before l a b h = before a b (omega (arith, l, from_node g a b h (within a (length g)))) h

pub skipped : (g : List (List ℕ)) (skip n : ℕ) → IsAcyclicBelow g skip n → n ≡ skip → IsAcyclicBelow g skip (n + 1)
skipped g skip n before e a l other h = elim (last_or a n l) [
  | inl s ↦ other (s ∙ e)
  | inr m ↦ before a m other h
]

pub cleared : (g : List (List ℕ)) (skip n : ℕ) → IsAcyclicBelow g skip n → (Reaches g n n → ⊥) → IsAcyclicBelow g skip (n + 1)
cleared g skip n before none a l other h = elim (last_or a n l) [
  | inl s ↦ none (subst (λ k. Reaches g k k) s h)
  | inr m ↦ before a m other h
]

pub acyclic_all : (g : List (List ℕ)) (skip n : ℕ) → IsAcyclicBelow g skip n → length g ≤ n → IsAcyclic g skip
acyclic_all g skip n before l a other h =
    let e = first-step (IsEdge g) a h.0 a h.1 in
    before a (omega (arith, l, from_node g a e.0 e.1 (within a (length g)))) other h

pub falls_free : (g : List (List ℕ)) (r : List ℕ) (a : ℕ) → NeverRises g r → all_below r (number_of r a) (edges g a) ≡ true → Reaches g a a → ⊥
falls_free g r a never e h = no_cycle g r never a (are_below r (number_of r a) (edges g a) e) h.0 h.1

pub neither : {P : Type 0} → false ≡ true → P
neither e = absurd cc

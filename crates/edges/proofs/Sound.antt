-- The edges as they are made are all edges, each once, and they rise.
use Rattle.std.proofs.Common.{◌≡◌, ◌⊎◌, inl, inr, ℕ, zero, suc, ◌+◌, ◌<◌, ◌≤◌, Bool, true, false, ◌==◌, nat_le, cond, List, [], ◌∷◌, ◌++◌, length, get_or, slice_get, Option, Some, None, refl, sym, ap, subst, ◌∙◌, arith}
use Rattle.std.proofs.lemmas.Bool.{false≢true, or_cases, or_left, or_right, eqb-true, eq-eqb, cases_lt, cases_eq, leb-true, le-leb}
use Rattle.std.proofs.lemmas.List.{get_or_past}
use Rattle.std.proofs.lemmas.Option.{slice_get_within}
use Rattle.succinct.specs.Compression.{Compression, IsCompression}
use Rattle.succinct.specs.Sets.{has, IsRising}
use Rattle.succinct.proofs.Rising.{above_all, rising-joined_with}
use Rattle.patterns.specs.Patterned.{Patterned, ArePatterns}
use Rattle.patterns.specs.States.{types_at}
use Rattle.patterns.specs.declared.state.State.{State}
use Rattle.terms.specs.declared.parts.Parts.{Parts}
use Rattle.edges.specs.Edges.{Edge, IsEdge, IsOffered, HasEdge, ComesBefore, AreEdges, source_costs, rank}
use Rattle.edges.specs.Made.{edge_within, edge_at, edges_at, sources_in, sources_at, bound_edge, bound_in, bound_at, edges_below, tails_at}
use Rattle.edges.proofs.Offered.{named-by, offered-by, by-offered, offered-found}
use Rattle.edges.proofs.Options.{there}
use Rattle.edges.proofs.Orders.{Each, Rises, each-none, each-one, each-both, rises-none, rises-one, rises-both, has-one, has-first, has-second}
use Rattle.edges.proofs.Wanted.{tails-are}

-- there are at most one edge of a source
one-rises : (limit : ℕ) (d : Patterned) (i n : ℕ) (needs : List ℕ) (o : Option ℕ) → Rises (edge_within limit d i n needs o)
one-rises limit d i n needs None = rises-none
one-rises limit d i n needs (Some w) = go (nat_le w limit)
  where
    go : (b : Bool) → Rises (cond b (record { state = i; source = Some n; weight = w; tails = tails_at d i needs } ∷ []) [])
    go true = rises-one (record { state = i; source = Some n; weight = w; tails = tails_at d i needs })
    go false = rises-none

-- the edge of a source within the limit stands there
one-has : (limit : ℕ) (d : Patterned) (i n w : ℕ) (needs : List ℕ) (o : Option ℕ) → o ≡ Some w → w ≤ limit → HasEdge i (Some n) (edge_within limit d i n needs o)
one-has limit d i n w needs o is low = subst (λ x. HasEdge i (Some n) (edge_within limit d i n needs x)) (sym is) (go (nat_le w limit) (le-leb w limit low))
  where
    go : (b : Bool) → b ≡ true → HasEdge i (Some n) (cond b (record { state = i; source = Some n; weight = w; tails = tails_at d i needs } ∷ []) [])
    go true e = has-one i (Some n) (record { state = i; source = Some n; weight = w; tails = tails_at d i needs }) refl refl
    go false e = absurd (false≢true e)

-- an edge at state i of source n
record IsAt (g : Parts) (c : Compression) (d : Patterned) (i n : ℕ) (e : Edge) : Type 0 where
  state : e.state ≡ i
  source : e.source ≡ Some n
  edge : IsEdge g c d e

record IsAmong (g : Parts) (c : Compression) (d : Patterned) (i : ℕ) (ns : List ℕ) (e : Edge) : Type 0 where
  number : ℕ
  member : has number ns ≡ true
  at : IsAt g c d i number e

module _ (g : Parts) (c : Compression) (d : Patterned) where
  among-each : (i : ℕ) (ns : List ℕ) → ((n : ℕ) → has n ns ≡ true → Each (IsAt g c d i n) (edge_at g c d i n)) → Each (IsAmong g c d i ns) (edges_at g c d i ns)
  unfolding edges_at
  among-each i [] each = each-none (IsAmong g c d i [])
  among-each i (n ∷ ns) each = each-both (IsAmong g c d i (n ∷ ns)) (edge_at g c d i n) (edges_at g c d i ns)
      (λ m e h. record { number = n; member = or_left (n == n) (has n ns) (eq-eqb n n refl); at = each n (or_left (n == n) (has n ns) (eq-eqb n n refl)) m e h })
      (λ m e h. (let r = among-each i ns (λ k has_k. each k (or_right (k == n) (has k ns) has_k)) m e h in record { number = r.number; member = or_right (r.number == n) (has r.number ns) r.member; at = r.at }))

  among-rises : (i : ℕ) (ns : List ℕ) → IsRising ns → ((n : ℕ) → has n ns ≡ true → Each (IsAt g c d i n) (edge_at g c d i n)) → Rises (edges_at g c d i ns)
  unfolding edges_at
  among-rises i [] rising each = rises-none
  among-rises i (n ∷ ns) rising each = rises-both (edge_at g c d i n) (edges_at g c d i ns) (one-rises g.limit d i n (get_or c.wanted n []) (slice_get (source_costs g) n)) (among-rises i ns rising.1 later)
      (λ m e h m' e' h'. before e e' (each n (or_left (n == n) (has n ns) (eq-eqb n n refl)) m e h) (among-each i ns later m' e' h'))
    where
      later : (k : ℕ) → has k ns ≡ true → Each (IsAt g c d i k) (edge_at g c d i k)
      later k has_k = each k (or_right (k == n) (has k ns) has_k)

      before : (e e' : Edge) → IsAt g c d i n e → IsAmong g c d i ns e' → ComesBefore e e'
      before e e' a b =
          let low = above_all n ns rising.0 b.number b.member in
          let one : rank e.source ≡ n + 1 = ap rank a.source in
          let other : rank e'.source ≡ b.number + 1 = ap rank b.at.source in
          inr (a.state ∙ sym b.at.state, omega (arith, low, one, other))

  among-has : (i n w : ℕ) (ns : List ℕ) → has n ns ≡ true → slice_get (source_costs g) n ≡ Some w → w ≤ g.limit → HasEdge i (Some n) (edges_at g c d i ns)
  unfolding edges_at
  among-has i n w [] h weight low = absurd (false≢true h)
  among-has i n w (m ∷ ns) h weight low = go (λ later. among-has i n w ns later weight low) (cases_eq n m)
    where
      go : (has n ns ≡ true → HasEdge i (Some n) (edges_at g c d i ns)) → (n ≡ m) ⊎ (n ≡ m → ⊥) → HasEdge i (Some n) (edge_at g c d i m ++ edges_at g c d i ns)
      go again (inl here) = has-first i (Some n) (edge_at g c d i m) (edges_at g c d i ns) (subst (λ k. HasEdge i (Some n) (edge_at g c d i k)) here (one-has g.limit d i n w (get_or c.wanted n []) (slice_get (source_costs g) n) weight low))
      go again (inr apart) = has-second i (Some n) (edge_at g c d i m) (edges_at g c d i ns) (again (elim (or_cases (n == m) (has n ns) h) [ inl same ↦ absurd (apart (eqb-true n m same)) | inr later ↦ later ]))

-- the edge of the variables
pub bound-none : (g : Parts) (d : Patterned) (i : ℕ) (s : State) → slice_get d.states i ≡ Some s → has s.goal (types_at d.space s.set) ≡ false → bound_at g d i ≡ []
bound-none g d i s is free = ap (bound_in g d i) is ∙ ap (λ b. cond b (bound_edge g i ∷ []) []) free

pub bound-one : (g : Parts) (d : Patterned) (i : ℕ) (s : State) → slice_get d.states i ≡ Some s → has s.goal (types_at d.space s.set) ≡ true → bound_at g d i ≡ bound_edge g i ∷ []
bound-one g d i s is bound = ap (bound_in g d i) is ∙ ap (λ b. cond b (bound_edge g i ∷ []) []) bound

module _ (g : Parts) (c : Compression) (d : Patterned) where
  abbrev IsVariable : ℕ → Edge → Type 0
  IsVariable i e = (e.state ≡ i) × (e.source ≡ None) × IsEdge g c d e

  bound-each : (i : ℕ) (o : Option State) → slice_get d.states i ≡ o → Each (IsVariable i) (bound_in g d i o)
  bound-each i None is = each-none (IsVariable i)
  bound-each i (Some s) is = go (has s.goal (types_at d.space s.set)) refl
    where
      go : (b : Bool) → has s.goal (types_at d.space s.set) ≡ b → Each (IsVariable i) (cond b (bound_edge g i ∷ []) [])
      go true e = each-one (IsVariable i) (bound_edge g i) (refl, refl, inl (record { of_variables = refl; state = s; is = is; bound = e; weight = refl; tails = refl }))
      go false e = each-none (IsVariable i)

  bound-rises : (i : ℕ) (o : Option State) → Rises (bound_in g d i o)
  bound-rises i None = rises-none
  bound-rises i (Some s) = go (has s.goal (types_at d.space s.set))
    where
      go : (b : Bool) → Rises (cond b (bound_edge g i ∷ []) [])
      go true = rises-one (bound_edge g i)
      go false = rises-none

  bound-has : (i : ℕ) (s : State) → slice_get d.states i ≡ Some s → has s.goal (types_at d.space s.set) ≡ true → HasEdge i None (bound_at g d i)
  bound-has i s is h = subst (λ o. HasEdge i None (bound_in g d i o)) (sym is) (go (has s.goal (types_at d.space s.set)) h)
    where
      go : (b : Bool) → b ≡ true → HasEdge i None (cond b (bound_edge g i ∷ []) [])
      go true e = has-one i None (bound_edge g i) refl refl
      go false e = absurd (false≢true e)

module _ (g : Parts) (c : Compression) (d : Patterned) (comp : IsCompression g c) {goal depth : ℕ} (made : ArePatterns c goal depth d) where
  source-each : (i n : ℕ) (s : State) → slice_get d.states i ≡ Some s → IsOffered c d i n → (o : Option ℕ) → slice_get (source_costs g) n ≡ o → Each (IsAt g c d i n) (edge_within g.limit d i n (get_or c.wanted n []) o)
  source-each i n s is offered None weight = each-none (IsAt g c d i n)
  source-each i n s is offered (Some w) weight = go (nat_le w g.limit) refl
    where
      go : (b : Bool) → nat_le w g.limit ≡ b → Each (IsAt g c d i n) (cond b (record { state = i; source = Some n; weight = w; tails = tails_at d i (get_or c.wanted n []) } ∷ []) [])
      go true e =
          let r = named-by g c comp n offered.kind offered.is in
          each-one (IsAt g c d i n) (record { state = i; source = Some n; weight = w; tails = tails_at d i (get_or c.wanted n []) }) (record {
            state = refl;
            source = refl;
            edge = inr (record {
              number = n;
              numbered = refl;
              offered = offered;
              source = r.source;
              is = r.is;
              weight = weight;
              within = leb-true w g.limit e;
              tails = tails-are c d i r.source.args (get_or c.wanted n []) r.named (offered-found g c comp d made i n s is offered);
            });
          })
      go false e = each-none (IsAt g c d i n)

  sources-each : (i : ℕ) (s : State) → slice_get d.states i ≡ Some s → (n : ℕ) → has n (sources_at c d i) ≡ true → Each (IsAt g c d i n) (edge_at g c d i n)
  sources-each i s is n h = source-each i n s is (offered-by g c comp d i n h) (slice_get (source_costs g) n) refl

  abbrev pub at_state : ℕ → List Edge
  at_state i = bound_at g d i ++ edges_at g c d i (sources_at c d i)

  abbrev pub IsOfState : ℕ → Edge → Type 0
  IsOfState i e = (e.state ≡ i) × IsEdge g c d e

  pub state-each : (i : ℕ) (s : State) → slice_get d.states i ≡ Some s → Each (IsOfState i) (at_state i)
  state-each i s is = each-both (IsOfState i) (bound_at g d i) (edges_at g c d i (sources_at c d i))
      (λ m e h. (let r = bound-each g c d i (slice_get d.states i) refl m e h in (r.0, r.2)))
      (λ m e h. (let r = among-each g c d i (sources_at c d i) (sources-each i s is) m e h in (r.at.state, r.at.edge)))

  state-rises : (i : ℕ) (s : State) → slice_get d.states i ≡ Some s → Rises (at_state i)
  state-rises i s is = rises-both (bound_at g d i) (edges_at g c d i (sources_at c d i)) (bound-rises g c d i (slice_get d.states i)) (among-rises g c d i (sources_at c d i) (rising-joined_with [] (sources_in c.selected (get_or d.lists i [])) tt) (sources-each i s is))
      (λ m e h m' e' h'. before e e' (bound-each g c d i (slice_get d.states i) refl m e h) (among-each g c d i (sources_at c d i) (sources-each i s is) m' e' h'))
    where
      before : (e e' : Edge) → IsVariable g c d i e → IsAmong g c d i (sources_at c d i) e' → ComesBefore e e'
      before e e' a b =
          let one : rank e.source ≡ 0 = ap rank a.1 in
          let other : rank e'.source ≡ b.number + 1 = ap rank b.at.source in
          inr (a.0 ∙ sym b.at.state, omega (arith, one, other))

  abbrev pub IsBelow : ℕ → Edge → Type 0
  IsBelow i e = (e.state < i) × IsEdge g c d e

  pub below-each : (i : ℕ) → i ≤ length d.states → Each (IsBelow i) (edges_below g c d i)
  unfolding edges_below
  below-each zero low = each-none (IsBelow zero)
  below-each (suc i) low =
      let s = there d.states i (omega (arith, low)) in
      each-both (IsBelow (suc i)) (edges_below g c d i) (at_state i)
      (λ m e h. (let r = below-each i (omega (arith, low)) m e h in let l = r.0 in (omega (arith, l), r.1)))
      (λ m e h. (let r = state-each i s.0 s.1 m e h in let l = r.0 in (omega (arith, l), r.1)))

  below-rises : (i : ℕ) → i ≤ length d.states → Rises (edges_below g c d i)
  unfolding edges_below
  below-rises zero low = rises-none
  below-rises (suc i) low =
      let s = there d.states i (omega (arith, low)) in
      rises-both (edges_below g c d i) (at_state i) (below-rises i (omega (arith, low))) (state-rises i s.0 s.1)
      (λ m e h m' e' h'. (let a = (below-each i (omega (arith, low)) m e h).0 in let b = (state-each i s.0 s.1 m' e' h').0 in inl (omega (arith, a, b))))

  below-has : (i k : ℕ) (source : Option ℕ) → i < k → HasEdge i source (at_state i) → HasEdge i source (edges_below g c d k)
  unfolding edges_below
  below-has i zero source low h = absurd (omega (arith, low))
  below-has i (suc k) source low h = go (λ less. below-has i k source less h) (cases_eq i k)
    where
      go : (i < k → HasEdge i source (edges_below g c d k)) → (i ≡ k) ⊎ (i ≡ k → ⊥) → HasEdge i source (edges_below g c d k ++ at_state k)
      go again (inl here) = has-second i source (edges_below g c d k) (at_state k) (subst (λ j. HasEdge i source (at_state j)) here h)
      go again (inr apart) = has-first i source (edges_below g c d k) (at_state k) (again (less i k low apart))
        where
          less : (a b : ℕ) → a < suc b → (a ≡ b → ⊥) → a < b
          less a b l ne = elim (cases_lt a b) [ inl small ↦ small | inr large ↦ absurd (ne (omega (arith, l, large))) ]

  pub all-edges : (edges : List Edge) → edges ≡ edges_below g c d (length d.states) → AreEdges g c d edges
  all-edges edges is = subst (λ es. AreEdges g c d es) (sym is) (record {
    sound = λ m e h. (below-each (length d.states) (omega arith) m e h).1;
    in_range = λ m e h. (below-each (length d.states) (omega arith) m e h).0;
    bound = λ i s at h. below-has i (length d.states) None (slice_get_within d.states i s at) (has-first i None (bound_at g d i) (edges_at g c d i (sources_at c d i)) (bound-has g c d i s at h));
    complete = λ i n w o weight low. below-has i (length d.states) (Some n) (state-low i o) (has-second i (Some n) (bound_at g d i) (edges_at g c d i (sources_at c d i)) (among-has g c d i n w (sources_at c d i) (by-offered g c comp d i n o) weight low));
    rising = below-rises (length d.states) (omega arith);
  })
    where
      state-low : (i : ℕ) {n : ℕ} → IsOffered c d i n → i < length d.states
      state-low i o = elim (cases_lt i (length d.states)) [
        | inl low ↦ low
        | inr past ↦ (let long = made.found.as_many in absurd (false≢true (ap (has o.kind) (sym (get_or_past d.lists i [] (omega (arith, past, long)))) ∙ o.listed)))
      ]

-- Tables with all edges of their states are complete.
use Rattle.std.proofs.Common.{◌≡◌, ◌⊎◌, inl, inr, ℕ, ◌+◌, ◌-◌, ◌*◌, ◌<◌, ◌≤◌, nat_le, Bool, true, false, ◌&&◌, ◌||◌, ◌==◌, [], ◌∷◌, ◌++◌, length, slice_get, get_or, map, Option, Some, None, refl, sym, ap, subst, ◌∙◌, arith}
use Rattle.std.proofs.lemmas.Bool.{eq-eqb, eqb-true, ne_eqb, le-leb, and_parts, or_cases, cases_eq, cases_lt, false≢true}
use Rattle.std.proofs.lemmas.Option.{slice_get_within, slice_get-get_or}
use Rattle.terms.specs.Count.{once_if, total}
use Rattle.terms.specs.Faults.{IsValid, HasLengths}
use Rattle.terms.specs.Reading.{Reading, Symbol, variable, declared, symbol, has_room, places, binders, some_when, variable_at, declared_at, turn_by, turn}
use Rattle.terms.specs.Typing.{joined, is_below, is_pair}
use Rattle.terms.specs.Weights.{binders_weight, coercion_weight, step_in}
use Rattle.terms.specs.declared.parts.Decl.{Decl}
use Rattle.terms.specs.declared.parts.Parts.{Parts}
use Rattle.terms.proofs.Halves.{number, number-symbol}
use Rattle.terms.proofs.Standing.{count-append}
use Rattle.terms.proofs.Valid.{valid-pair}
use Rattle.succinct.specs.Compression.{Compression, IsCompression, Source, sources, of_decl, of_pair}
use Rattle.succinct.specs.Sets.{types_bound}
use Rattle.patterns.specs.Derivable.{IsDerivable, AreDerivable, none, value, by_decl}
use Rattle.patterns.specs.Patterned.{ArePatterns}
use Rattle.patterns.specs.States.{types_at, left_at}
use Rattle.patterns.specs.declared.state.State.{State}
use Rattle.patterns.proofs.Meaning.{agrees}
use Rattle.edges.specs.Edges.{Edge, IsOffered, HasEdge, ComesBefore, AreEdges, rank, decl_cost, pair_cost}
use Rattle.edges.proofs.Costs.{cost-pair}
use Rattle.edges.proofs.Options.{some_eq, none_some}
use Rattle.least_weights.specs.LeastWeight.{AreLeastWeights, place_at}
use Rattle.patterns.proofs.Meaning.{get-pair, pair-get}
use Rattle.least_weights.proofs.Joins.{at-first}
use Rattle.least_weights.proofs.Lows.{below-pair, step-apart}
use Rattle.reconstruction.specs.Levelled.{AreComplete}
use Rattle.reconstruction.specs.NumberedPlaces.{rows_at, at_state, IsNumbered}
use Rattle.reconstruction.specs.Tabled as tabled
use Rattle.reconstruction.specs.Tabled.{least_of}
use Rattle.reconstruction.specs.Totals.{declared_in, lower_in, AreTotals}
use Rattle.reconstruction.specs.Usable.{AreFloors, AreUsable}
use Rattle.reconstruction.specs.Variables.{variables, bound_at, numbers_at}
use Rattle.reconstruction.specs.Ways.{numbers_of_head, head_numbers, heads_at, way_numbers_by, way_numbers, ways_at, often}
use Rattle.reconstruction.specs.declared.numbered_place.NumberedPlace.{NumberedPlace}
use Rattle.reconstruction.specs.declared.tables.Tables.{Tables}
use Rattle.reconstruction.proofs.Bound.{place-rows}
use Rattle.reconstruction.proofs.Edged.{EdgeCase, edge-case, after-second}
use Rattle.reconstruction.proofs.Evens.{variables-odd, variables-past, variables-within, valid-pairs_apart, is_pair_of, is_lower, lower-is}
use Rattle.reconstruction.proofs.Ready.{are_least, first-set, root_kept, no_types, wants_derive}
use Rattle.reconstruction.proofs.Turned.{value-state, numbered-place, way-of}
use Rattle.reconstruction.proofs.Ways.{where-most, where-some, where-zero, few-pass}
use Rattle.reconstruction.proofs.Weights.{none_of, some_of}

-- the pair of a lower type passes the test for it
lower-passes : (g : Parts) (goal n place lower : ℕ) → n ≡ length g.decls + place → slice_get g.pairs place ≡ Some (lower, goal) → (a : ℕ) → once_if (lower == a) ≤ once_if (is_lower g goal a n)
lower-passes g goal n place lower numbered is a =
    let low : nat_le (length g.decls) n ≡ true = le-leb (length g.decls) n (omega (arith, numbered)) in
    let back : n - length g.decls ≡ place = omega (arith, numbered) in
    let there : is_pair_of a goal (slice_get g.pairs (n - length g.decls)) ≡ (lower == a) && (goal == goal) = ap (λ j. is_pair_of a goal (slice_get g.pairs j)) back ∙ ap (is_pair_of a goal) is in
    let all : is_lower g goal a n ≡ (lower == a) && (goal == goal) = ap (λ b. b && is_pair_of a goal (slice_get g.pairs (n - length g.decls))) low ∙ there in
    let own : goal == goal ≡ true = eq-eqb goal goal refl in
    let e : once_if (is_lower g goal a n) ≡ once_if ((lower == a) && (goal == goal)) = ap once_if all in
    let f : once_if ((lower == a) && (goal == goal)) ≡ once_if ((lower == a) && true) = ap (λ b. once_if ((lower == a) && b)) own in
    let k : once_if ((lower == a) && true) ≡ once_if (lower == a) = ap once_if (and_true (lower == a)) in
    omega (arith, e, f, k)
  where
    and_true : (b : Bool) → b && true ≡ b
    and_true true = refl
    and_true false = refl

odd-same : (n k : ℕ) → 2 * n + 1 ≡ 2 * k + 1 → n ≡ k
odd-same n k e = omega (arith, e)

-- whether an edge is of this source
abbrev is_source : ℕ → Option ℕ → Bool
is_source k None = false
is_source k (Some n) = n == k

source-is : (k : ℕ) (o : Option ℕ) → is_source k o ≡ true → o ≡ Some k
source-is k None h = absurd (false≢true h)
source-is k (Some n) h = ap (λ x. Some x) (eqb-true n k h)

-- whether an edge can add declaration k, which gives type a: it is its own, or a coercion from a
abbrev adds_by : Parts → ℕ → ℕ → ℕ → Option ℕ → Bool
adds_by g goal k a None = false
adds_by g goal k a (Some n) = (n == k) || is_lower g goal a n

or-left_once : (a b : Bool) → once_if a ≤ once_if (a || b)
or-left_once true b = omega arith
or-left_once false true = omega arith
or-left_once false false = omega arith

or-right_once : (a b : Bool) → once_if b ≤ once_if (a || b)
or-right_once true true = omega arith
or-right_once true false = omega arith
or-right_once false b = omega arith

-- the number of a head, as often as it is the one of this declaration
head-often : (n k : ℕ) → often (2 * k + 1) ((2 * n + 1) ∷ []) ≤ once_if (n == k)
head-often n k = elim (cases_eq n k) [
  | inl same ↦ (let one : once_if (n == k) ≡ 1 = ap once_if (eq-eqb n k same) in let o : once_if ((2 * n + 1) == (2 * k + 1)) ≡ 1 = ap once_if (eq-eqb (2 * n + 1) (2 * k + 1) (omega (arith, same))) in omega (arith, one, o))
  | inr apart ↦ (let z : once_if ((2 * n + 1) == (2 * k + 1)) ≡ 0 = ap once_if (ne_eqb (2 * n + 1) (2 * k + 1) (λ e. apart (odd-same n k e))) in omega (arith, z))
]

head-one : (k : ℕ) → often (2 * k + 1) ((2 * k + 1) ∷ []) ≡ 1
head-one k = (let o : once_if ((2 * k + 1) == (2 * k + 1)) ≡ 1 = ap once_if (eq-eqb (2 * k + 1) (2 * k + 1) refl) in omega (arith, o))

head-even : (n m : ℕ) → often (2 * m) ((2 * n + 1) ∷ []) ≡ 0
head-even n m = (let z : once_if ((2 * n + 1) == (2 * m)) ≡ 0 = ap once_if (ne_eqb (2 * n + 1) (2 * m) (λ e. absurd (omega (arith, e)))) in omega (arith, z))

module _ (t : Tables) (c : Compression) (valid : IsValid t.env) (lengths : HasLengths t.env) (comp : IsCompression t.env c) (made : ArePatterns c t.env.goal t.env.depth t.patterns) (right : AreLeastWeights t.env t.patterns t.least) (are : AreEdges t.env c t.patterns t.edges) (totals : AreTotals t.env.limit t.least t.edges t.totals) (floors : AreFloors t.env t.edges t.totals t.floors) (usable : AreUsable t.env.limit t.floors t.edges t.usable) where
  abbrev Case : ℕ → State → Edge → Type 0
  Case i s e = EdgeCase t.env c t.patterns i s e

  cases : (i m : ℕ) (s : State) (e : Edge) → slice_get t.patterns.states i ≡ Some s → slice_get t.edges m ≡ Some e → e.state ≡ i → Case i s e
  cases i m s e is at here = edge-case t.env c t.patterns comp made t.edges are i m s e is at here

  -- each source has one edge at a state
  same-place : (m n : ℕ) (e f : Edge) → slice_get t.edges m ≡ Some e → slice_get t.edges n ≡ Some f → e.state ≡ f.state → e.source ≡ f.source → m ≡ n
  same-place m n e f at_e at_f states sources_same = elim (cases_lt m n) [
    | inl less ↦ absurd (apart e f (are.rising m n e f less at_e at_f) states (ap rank sources_same))
    | inr most ↦ (elim (cases_lt n m) [
      | inl less ↦ absurd (apart f e (are.rising n m f e less at_f at_e) (sym states) (sym (ap rank sources_same)))
      | inr more ↦ omega (arith, most, more)
    ])
  ]
    where
      apart : (e f : Edge) → ComesBefore e f → e.state ≡ f.state → rank e.source ≡ rank f.source → ⊥
      apart e f (inl low) s r = absurd (omega (arith, low, s))
      apart e f (inr both) s r = (let low = both.1 in absurd (omega (arith, low, r)))

  head-numbers : (e : Edge) (o : Option ℕ) → declared_in t.env e.source ≡ o → head_numbers t.env e ≡ numbers_of_head o
  head-numbers e o is = ap numbers_of_head is

  way-numbers : (e : Edge) (o : Option ℕ) → lower_in t.env e.source e.tails ≡ o → way_numbers t.env t.edges e ≡ way_numbers_by t.env t.edges e o
  way-numbers e o is = ap (way_numbers_by t.env t.edges e) is

  -- a head at a state once
  heads-once : (i : ℕ) (s : State) → slice_get t.patterns.states i ≡ Some s → (k : ℕ) → often (2 * k + 1) (heads_at t.env t.edges i) ≤ 1
  heads-once i s is k =
      let most = where-most (head_numbers t.env) i (2 * k + 1) (λ e. is_source k e.source) t.edges (λ m e at here. each e (cases i m s e is at here)) in
      let one = few-pass (λ (e : Edge). (e.state == i) && is_source k e.source) t.edges (λ m n e f at_e at_f pe pf. (
      let p = and_parts (e.state == i) (is_source k e.source) pe in
      let q = and_parts (f.state == i) (is_source k f.source) pf in
      same-place m n e f at_e at_f (eqb-true e.state i p.0 ∙ sym (eqb-true f.state i q.0)) (source-is k e.source p.1 ∙ sym (source-is k f.source q.1)))) in
      omega (arith, most, one)
    where
      each : (e : Edge) → Case i s e → often (2 * k + 1) (head_numbers t.env e) ≤ once_if (is_source k e.source)
      each e (inl v) = (let z : often (2 * k + 1) (head_numbers t.env e) ≡ 0 = ap (often (2 * k + 1)) (head-numbers e None v.declared) in omega (arith, z))
      each e (inr (inl q)) =
          let a : often (2 * k + 1) (head_numbers t.env e) ≡ often (2 * k + 1) ((2 * q.number + 1) ∷ []) = ap (often (2 * k + 1)) (head-numbers e (Some q.number) q.declared) in
          let b : once_if (is_source k e.source) ≡ once_if (q.number == k) = ap (λ o. once_if (is_source k o)) q.source in
          let l = head-often q.number k in
          omega (arith, a, b, l)
      each e (inr (inr q)) = (let z : often (2 * k + 1) (head_numbers t.env e) ≡ 0 = ap (often (2 * k + 1)) (head-numbers e None q.declared) in omega (arith, z))

  -- the heads of a type are of declarations that give it
  below-most : (k : ℕ) (decl : Decl) → slice_get t.env.decls k ≡ Some decl → (i : ℕ) (s : State) → slice_get t.patterns.states i ≡ Some s → often (2 * k + 1) (heads_at t.env t.edges i) ≤ once_if (s.goal == decl.result)
  below-most k decl found i s is = elim (cases_eq s.goal decl.result) [
    | inl same ↦ (
        let one : once_if (s.goal == decl.result) ≡ 1 = ap once_if (eq-eqb s.goal decl.result same) in
        let most = heads-once i s is k in
        omega (arith, one, most))
    | inr apart ↦ (
        let z = where-zero (head_numbers t.env) i (2 * k + 1) t.edges (λ m e at here. each apart e (cases i m s e is at here)) in
        omega (arith, z))
  ]
    where
      each : (s.goal ≡ decl.result → ⊥) → (e : Edge) → Case i s e → often (2 * k + 1) (head_numbers t.env e) ≡ 0
      each apart e (inl v) = ap (often (2 * k + 1)) (head-numbers e None v.declared)
      each apart e (inr (inl q)) =
          let a : often (2 * k + 1) (head_numbers t.env e) ≡ often (2 * k + 1) ((2 * q.number + 1) ∷ []) = ap (often (2 * k + 1)) (head-numbers e (Some q.number) q.declared) in
          let z : once_if ((2 * q.number + 1) == (2 * k + 1)) ≡ 0 = ap once_if (ne_eqb (2 * q.number + 1) (2 * k + 1) (λ x. apart (
          let same : q.decl ≡ decl = some_eq q.decl decl (sym q.is ∙ ap (slice_get t.env.decls) (odd-same q.number k x) ∙ found) in
          sym q.gives ∙ ap (λ (y : Decl). y.result) same))) in
          omega (arith, a, z)
      each apart e (inr (inr q)) = ap (often (2 * k + 1)) (head-numbers e None q.declared)

  -- what an edge adds of declaration k it adds once, and only where it can
  way-most : (k : ℕ) (decl : Decl) → slice_get t.env.decls k ≡ Some decl → (i : ℕ) (s : State) → slice_get t.patterns.states i ≡ Some s → (e : Edge) → Case i s e → often (2 * k + 1) (way_numbers t.env t.edges e) ≤ once_if (adds_by t.env s.goal k decl.result e.source)
  way-most k decl found i s is e (inl v) = (let z : often (2 * k + 1) (way_numbers t.env t.edges e) ≡ 0 = ap (often (2 * k + 1)) (way-numbers e None v.lower ∙ head-numbers e None v.declared) in omega (arith, z))
  way-most k decl found i s is e (inr (inl q)) =
      let a : often (2 * k + 1) (way_numbers t.env t.edges e) ≡ often (2 * k + 1) ((2 * q.number + 1) ∷ []) = ap (often (2 * k + 1)) (way-numbers e None q.lower ∙ head-numbers e (Some q.number) q.declared) in
      let b : once_if (adds_by t.env s.goal k decl.result e.source) ≡ once_if ((q.number == k) || is_lower t.env s.goal decl.result q.number) = ap (λ o. once_if (adds_by t.env s.goal k decl.result o)) q.source in
      let l = head-often q.number k in
      let o = or-left_once (q.number == k) (is_lower t.env s.goal decl.result q.number) in
      omega (arith, a, b, l, o)
  way-most k decl found i s is e (inr (inr q)) =
      let n = length t.env.decls + q.place in
      let there = value-state t.env c t.patterns made i s q.low q.below is q.tail in
      let a : often (2 * k + 1) (way_numbers t.env t.edges e) ≡ often (2 * k + 1) (heads_at t.env t.edges q.below) = ap (often (2 * k + 1)) (way-numbers e (Some q.below) q.lower) in
      let m : often (2 * k + 1) (heads_at t.env t.edges q.below) ≤ once_if (q.low == decl.result) = below-most k decl found q.below (record { set = s.set; goal = q.low }) there in
      let l = lower-passes t.env s.goal n q.place q.low refl q.is decl.result in
      let b : once_if (adds_by t.env s.goal k decl.result e.source) ≡ once_if ((n == k) || is_lower t.env s.goal decl.result n) = ap (λ o. once_if (adds_by t.env s.goal k decl.result o)) q.source in
      let o = or-right_once (n == k) (is_lower t.env s.goal decl.result n) in
      omega (arith, a, m, l, b, o)

  -- how an edge can add a declaration
  record Adding (s : State) (k : ℕ) (decl : Decl) (e : Edge) : Type 0 where
    how : ((e.source ≡ Some k) × (decl.result ≡ s.goal)) ⊎ ((j : ℕ) × (e.source ≡ Some (length t.env.decls + j)) × (slice_get t.env.pairs j ≡ Some (decl.result, s.goal)))

  adding : (i : ℕ) (s : State) (k : ℕ) (decl : Decl) → slice_get t.env.decls k ≡ Some decl → (e : Edge) → Case i s e → adds_by t.env s.goal k decl.result e.source ≡ true → Adding s k decl e
  adding i s k decl found e (inl v) h = absurd (false≢true (sym (ap (adds_by t.env s.goal k decl.result) v.source) ∙ h))
  adding i s k decl found e (inr (inl q)) h = elim (or_cases (q.number == k) (is_lower t.env s.goal decl.result q.number) (sym (ap (adds_by t.env s.goal k decl.result) q.source) ∙ h)) [
    | inl same ↦ (
        let n : q.number ≡ k = eqb-true q.number k same in
        let d : q.decl ≡ decl = some_eq q.decl decl (sym q.is ∙ ap (slice_get t.env.decls) n ∙ found) in
        record { how = inl (q.source ∙ ap (λ x. Some x) n, ap (λ (y : Decl). y.result) (sym d) ∙ q.gives) })
    | inr lower ↦ (
        let r = lower-is t.env s.goal decl.result q.number lower in
        let low = slice_get_within t.env.decls q.number q.decl q.is in
        let there = r.numbered in
        absurd (omega (arith, low, there)))
  ]
  adding i s k decl found e (inr (inr q)) h =
      let n = length t.env.decls + q.place in
      elim (or_cases (n == k) (is_lower t.env s.goal decl.result n) (sym (ap (adds_by t.env s.goal k decl.result) q.source) ∙ h)) [
        | inl same ↦ (
            let low = slice_get_within t.env.decls k decl found in
            let at = eqb-true n k same in
            absurd (omega (arith, low, at)))
        | inr lower ↦ (
            let r = lower-is t.env s.goal decl.result n lower in
            record { how = inr (r.place, q.source ∙ ap (λ x. Some x) r.numbered, r.is) })
      ]

  adding-same : (s : State) (k : ℕ) (decl : Decl) (e f : Edge) → Adding s k decl e → Adding s k decl f → e.source ≡ f.source
  adding-same s k decl e f a b = go a.how b.how
    where
      Way : Edge → Type 0
      Way x = ((x.source ≡ Some k) × (decl.result ≡ s.goal)) ⊎ ((j : ℕ) × (x.source ≡ Some (length t.env.decls + j)) × (slice_get t.env.pairs j ≡ Some (decl.result, s.goal)))

      both : decl.result ≡ s.goal → (j : ℕ) → slice_get t.env.pairs j ≡ Some (decl.result, s.goal) → ⊥
      both same j at = (valid-pair t.env valid decl.result s.goal (pair-get t.env.pairs j (decl.result, s.goal) at)).2 same

      go : ((e.source ≡ Some k) × (decl.result ≡ s.goal)) ⊎ ((j : ℕ) × (e.source ≡ Some (length t.env.decls + j)) × (slice_get t.env.pairs j ≡ Some (decl.result, s.goal))) → ((f.source ≡ Some k) × (decl.result ≡ s.goal)) ⊎ ((j : ℕ) × (f.source ≡ Some (length t.env.decls + j)) × (slice_get t.env.pairs j ≡ Some (decl.result, s.goal))) → e.source ≡ f.source
      go (inl p) (inl q) = p.0 ∙ sym q.0
      go (inl p) (inr q) = absurd (both p.1 q.0 q.2)
      go (inr p) (inl q) = absurd (both q.1 p.0 p.2)
      go (inr p) (inr q) = p.1 ∙ ap (λ j. Some (length t.env.decls + j)) (valid-pairs_apart t.env valid p.0 q.0 (decl.result, s.goal) p.2 q.2) ∙ sym q.1

  -- a declaration once
  ways-once : (i : ℕ) (s : State) → slice_get t.patterns.states i ≡ Some s → (k : ℕ) (decl : Decl) → slice_get t.env.decls k ≡ Some decl → often (2 * k + 1) (ways_at t.env t.edges i) ≤ 1
  ways-once i s is k decl found =
      let most = where-most (way_numbers t.env t.edges) i (2 * k + 1) (λ e. adds_by t.env s.goal k decl.result e.source) t.edges (λ m e at here. way-most k decl found i s is e (cases i m s e is at here)) in
      let one = few-pass (λ (e : Edge). (e.state == i) && adds_by t.env s.goal k decl.result e.source) t.edges (λ m n e f at_e at_f pe pf. (
      let p = and_parts (e.state == i) (adds_by t.env s.goal k decl.result e.source) pe in
      let q = and_parts (f.state == i) (adds_by t.env s.goal k decl.result f.source) pf in
      let here = eqb-true e.state i p.0 in
      let there = eqb-true f.state i q.0 in
      same-place m n e f at_e at_f (here ∙ sym there) (adding-same s k decl e f (adding i s k decl found e (cases i m s e is at_e here) p.1) (adding i s k decl found f (cases i n s f is at_f there) q.1)))) in
      omega (arith, most, one)

  -- a number that no head has
  heads-none : (x : ℕ) → ((n : ℕ) (decl : Decl) → slice_get t.env.decls n ≡ Some decl → often x ((2 * n + 1) ∷ []) ≡ 0) → (i : ℕ) (s : State) → slice_get t.patterns.states i ≡ Some s → often x (heads_at t.env t.edges i) ≡ 0
  heads-none x free i s is = where-zero (head_numbers t.env) i x t.edges (λ m e at here. each e (cases i m s e is at here))
    where
      each : (e : Edge) → Case i s e → often x (head_numbers t.env e) ≡ 0
      each e (inl v) = ap (often x) (head-numbers e None v.declared)
      each e (inr (inl q)) = ap (often x) (head-numbers e (Some q.number) q.declared) ∙ free q.number q.decl q.is
      each e (inr (inr q)) = ap (often x) (head-numbers e None q.declared)

  ways-none : (x : ℕ) → ((n : ℕ) (decl : Decl) → slice_get t.env.decls n ≡ Some decl → often x ((2 * n + 1) ∷ []) ≡ 0) → (i : ℕ) (s : State) → slice_get t.patterns.states i ≡ Some s → often x (ways_at t.env t.edges i) ≡ 0
  ways-none x free i s is = where-zero (way_numbers t.env t.edges) i x t.edges (λ m e at here. each e (cases i m s e is at here))
    where
      each : (e : Edge) → Case i s e → often x (way_numbers t.env t.edges e) ≡ 0
      each e (inl v) = ap (often x) (way-numbers e None v.lower ∙ head-numbers e None v.declared)
      each e (inr (inl q)) = ap (often x) (way-numbers e None q.lower ∙ head-numbers e (Some q.number) q.declared) ∙ free q.number q.decl q.is
      each e (inr (inr q)) = ap (often x) (way-numbers e (Some q.below) q.lower) ∙ heads-none x free q.below (record { set = s.set; goal = q.low }) (value-state t.env c t.patterns made i s q.low q.below is q.tail)

  odd-once : (i : ℕ) (s : State) → slice_get t.patterns.states i ≡ Some s → (k : ℕ) → often (2 * k + 1) (ways_at t.env t.edges i) ≤ 1
  odd-once i s is k = go (slice_get t.env.decls k) refl
    where
      go : (o : Option Decl) → slice_get t.env.decls k ≡ o → often (2 * k + 1) (ways_at t.env t.edges i) ≤ 1
      go None absent = (let z = ways-none (2 * k + 1) (λ n decl at. (
          let o : once_if ((2 * n + 1) == (2 * k + 1)) ≡ 0 = ap once_if (ne_eqb (2 * n + 1) (2 * k + 1) (λ e. none_some decl (sym absent ∙ ap (slice_get t.env.decls) (sym (odd-same n k e)) ∙ at))) in
          omega (arith, o))) i s is in omega (arith, z))
      go (Some decl) found = ways-once i s is k decl found

  numbers-once : (p : NumberedPlace) → IsNumbered t.env t.patterns p → (n : ℕ) → often n (numbers_at t p) ≤ 1
  numbers-once p sp n = go (symbol n) refl
    where
      split : (x : ℕ) → often x (variables (bound_at t p) ++ ways_at t.env t.edges p.state) ≡ often x (variables (bound_at t p)) + often x (ways_at t.env t.edges p.state)
      split x = count-append (λ y. y == x) (variables (bound_at t p)) (ways_at t.env t.edges p.state)

      even : (m : ℕ) → often (2 * m) (numbers_at t p) ≤ 1
      even m =
          let e = split (2 * m) in
          let z = ways-none (2 * m) (λ n decl at. head-even n m) p.state sp.state sp.is in
          elim (cases_lt m (bound_at t p)) [
            | inl low ↦ (let o = variables-within (bound_at t p) m low in omega (arith, e, z, o))
            | inr high ↦ (let o = variables-past (bound_at t p) m high in omega (arith, e, z, o))
          ]

      odd : (k : ℕ) → often (2 * k + 1) (numbers_at t p) ≤ 1
      odd k =
          let e = split (2 * k + 1) in
          let z = variables-odd (bound_at t p) k in
          let o = odd-once p.state sp.state sp.is k in
          omega (arith, e, z, o)

      go : (y : Symbol) → symbol n ≡ y → often n (numbers_at t p) ≤ 1
      go (variable m) e = subst (λ x. often x (numbers_at t p) ≤ 1) (sym (ap number e) ∙ number-symbol n) (even m)
      go (declared k) e = subst (λ x. often x (numbers_at t p) ≤ 1) (sym (ap number e) ∙ number-symbol n) (odd k)

  -- a source that gives a state's type and whose wants are derivable is offered there
  offered : (i : ℕ) (s : State) → slice_get t.patterns.states i ≡ Some s → (n : ℕ) (source : Source) → slice_get (sources t.env) n ≡ Some source → source.result ≡ s.goal → AreDerivable t.env (types_at t.patterns.space s.set) (left_at t.patterns.space s.set) source.args → IsOffered c t.patterns i n
  offered i s is n source at gives wants =
      let d = t.patterns in
      let low = slice_get_within (sources t.env) n source at in
      let long = comp.of_sources.numbered in
      let k = get_or c.kind_numbers n 0 in
      let number_is : slice_get c.kind_numbers n ≡ Some k = slice_get-get_or c.kind_numbers n 0 (omega (arith, low, long)) in
      let states = slice_get_within d.states i s is in
      let lists = made.found.as_many in
      let list : slice_get d.lists i ≡ Some (get_or d.lists i []) = slice_get-get_or d.lists i [] (omega (arith, states, lists)) in
      record { kind = k; is = number_is; listed = (agrees t.env c t.env.goal t.env.depth d valid comp made i s (get_or d.lists i []) is list).listed k n source at number_is gives wants }

  -- a declaration that gives a state's type and that fits within the limit has its edge there
  decl-edge : (i : ℕ) (s : State) → slice_get t.patterns.states i ≡ Some s → (k : ℕ) (decl : Decl) → slice_get t.env.decls k ≡ Some decl → decl.result ≡ s.goal → AreDerivable t.env (types_at t.patterns.space s.set) (left_at t.patterns.space s.set) decl.args → decl_cost t.env decl ≤ t.env.limit → HasEdge i (Some k) t.edges
  decl-edge i s is k decl found gives wants within = are.complete i k (decl_cost t.env decl) (offered i s is k (of_decl decl) (at-first of_decl t.env.decls (map of_pair t.env.pairs) k decl found) gives wants) (at-first (decl_cost t.env) t.env.decls (map (pair_cost t.env) t.env.pairs) k decl found) within

  edge-adds : (i : ℕ) (s : State) → slice_get t.patterns.states i ≡ Some s → (k : ℕ) (h : HasEdge i (Some k) t.edges) (decl : Decl) → slice_get t.env.decls k ≡ Some decl → (declared_in t.env h.edge.source ≡ Some k) × (way_numbers t.env t.edges h.edge ≡ (2 * k + 1) ∷ [])
  edge-adds i s is k h decl found = go (cases i h.number s h.edge is h.is h.at_state)
    where
      go : Case i s h.edge → (declared_in t.env h.edge.source ≡ Some k) × (way_numbers t.env t.edges h.edge ≡ (2 * k + 1) ∷ [])
      go (inl v) = absurd (none_some k (sym v.source ∙ h.of_source))
      go (inr (inl q)) =
          let same : q.number ≡ k = some_eq q.number k (sym q.source ∙ h.of_source) in
          (q.declared ∙ ap (λ x. Some x) same, way-numbers h.edge None q.lower ∙ head-numbers h.edge (Some q.number) q.declared ∙ ap (λ x. (2 * x + 1) ∷ []) same)
      go (inr (inr q)) =
          let same : length t.env.decls + q.place ≡ k = some_eq (length t.env.decls + q.place) k (sym q.source ∙ h.of_source) in
          let low = slice_get_within t.env.decls k decl found in
          absurd (omega (arith, same, low))

  -- so it is among the heads, and among the ways
  head-there : (i : ℕ) (s : State) → slice_get t.patterns.states i ≡ Some s → (k : ℕ) (decl : Decl) → slice_get t.env.decls k ≡ Some decl → HasEdge i (Some k) t.edges → 1 ≤ often (2 * k + 1) (heads_at t.env t.edges i)
  head-there i s is k decl found h =
      let some = where-some (head_numbers t.env) i (2 * k + 1) h.number h.edge t.edges h.is h.at_state in
      let one : often (2 * k + 1) (head_numbers t.env h.edge) ≡ 1 = ap (often (2 * k + 1)) (head-numbers h.edge (Some k) (edge-adds i s is k h decl found).0) ∙ head-one k in
      omega (arith, some, one)

  way-there : (i : ℕ) (s : State) → slice_get t.patterns.states i ≡ Some s → (k : ℕ) (decl : Decl) → slice_get t.env.decls k ≡ Some decl → HasEdge i (Some k) t.edges → 1 ≤ often (2 * k + 1) (ways_at t.env t.edges i)
  way-there i s is k decl found h =
      let some = where-some (way_numbers t.env t.edges) i (2 * k + 1) h.number h.edge t.edges h.is h.at_state in
      let one : often (2 * k + 1) (way_numbers t.env t.edges h.edge) ≡ 1 = ap (often (2 * k + 1)) (edge-adds i s is k h decl found).1 ∙ head-one k in
      omega (arith, some, one)

  -- a type below a state's has its edge, and its state over the same set
  record Under (i : ℕ) (s : State) (a : ℕ) : Type 0 where
    below : ℕ
    is : slice_get t.patterns.states below ≡ Some (record { set = s.set; goal = a })
    holds : (x : ℕ) → often x (heads_at t.env t.edges below) ≤ often x (ways_at t.env t.edges i)

  under : (i : ℕ) (s : State) → slice_get t.patterns.states i ≡ Some s → (a : ℕ) → is_pair t.env.pairs a s.goal ≡ true → IsDerivable t.env (types_at t.patterns.space s.set) (left_at t.patterns.space s.set) a → coercion_weight t.env ≤ t.env.limit → Under i s a
  under i s is a pair derives coerces =
      let j = get-pair t.env.pairs a s.goal pair in
      let n = length t.env.decls + j.0 in
      let low = slice_get_within t.env.pairs j.0 (a, s.goal) j.1 in
      let at : slice_get (sources t.env) n ≡ Some (of_pair (a, s.goal)) = after-second of_decl of_pair t.env.decls t.env.pairs j.0 (a, s.goal) j.1 in
      let o = offered i s is n (of_pair (a, s.goal)) at refl (value (types_at t.patterns.space s.set) (left_at t.patterns.space s.set) a [] derives (none (types_at t.patterns.space s.set) (left_at t.patterns.space s.set))) in
      let h : HasEdge i (Some n) t.edges = are.complete i n (coercion_weight t.env) o (cost-pair t.env n (omega arith) (omega (arith, low))) coerces in
      go j.0 j.1 h (cases i h.number s h.edge is h.is h.at_state)
    where
      go : (j : ℕ) → slice_get t.env.pairs j ≡ Some (a, s.goal) → (h : HasEdge i (Some (length t.env.decls + j)) t.edges) → Case i s h.edge → Under i s a
      go j at h (inl v) = absurd (none_some (length t.env.decls + j) (sym v.source ∙ h.of_source))
      go j at h (inr (inl q)) =
          let same : q.number ≡ length t.env.decls + j = some_eq q.number (length t.env.decls + j) (sym q.source ∙ h.of_source) in
          let low = slice_get_within t.env.decls q.number q.decl q.is in
          absurd (omega (arith, same, low))
      go j at h (inr (inr q)) =
          let same : length t.env.decls + q.place ≡ length t.env.decls + j = some_eq (length t.env.decls + q.place) (length t.env.decls + j) (sym q.source ∙ h.of_source) in
          let place : q.place ≡ j = omega (arith, same) in
          let both : (q.low, s.goal) ≡ (a, s.goal) = some_eq (q.low, s.goal) (a, s.goal) (sym q.is ∙ ap (slice_get t.env.pairs) place ∙ at) in
          let low : q.low ≡ a = ap (λ (p : ℕ × ℕ). p.0) both in
          record {
            below = q.below;
            is = value-state t.env c t.patterns made i s q.low q.below is q.tail ∙ ap (λ y. Some (record { set = s.set; goal = y })) low;
            holds = λ x. (
                let some = where-some (way_numbers t.env t.edges) i x h.number h.edge t.edges h.is h.at_state in
                let e : often x (way_numbers t.env t.edges h.edge) ≡ often x (heads_at t.env t.edges q.below) = ap (often x) (way-numbers h.edge (Some q.below) q.lower) in
                omega (arith, some, e));
          }

  -- a declaration that may come to a term within the limit is among the numbers of the ways
  declared-there : (p : NumberedPlace) (sp : IsNumbered t.env t.patterns p) (k : ℕ) (decl : Decl) → slice_get t.env.decls k ≡ Some decl → is_below t.env decl.result sp.state.goal ≡ true → has_room (left_at t.patterns.space sp.state.set) decl.args ≡ true → decl.weight + binders_weight t.env (binders decl.args) + step_in t.env (Some decl.result) sp.state.goal + total (least_of t) (places (rows_at t.env p.lambdas) (left_at t.patterns.space sp.state.set) decl.args) ≤ t.env.limit → 1 ≤ often (2 * k + 1) (ways_at t.env t.edges p.state)
  declared-there p sp k decl found below room fits =
      let d = t.patterns in
      let s = sp.state in
      let ctx = rows_at t.env p.lambdas in
      let left = left_at d.space s.set in
      let bound : AreDerivable t.env (types_bound ctx) left decl.args = wants_derive t.env d t.least right ctx left decl.args room (omega (arith, fits)) in
      let wants : AreDerivable t.env (types_at d.space s.set) left decl.args = subst (λ l. AreDerivable t.env l left decl.args) sp.types bound in
      elim (below-pair t.env decl.result s.goal below) [
        | inl same ↦ way-there p.state s sp.is k decl found (decl-edge p.state s sp.is k decl found same wants (omega (arith, fits)))
        | inr pair ↦ (
            let derives : IsDerivable t.env (types_at d.space s.set) left decl.result = by_decl (types_at d.space s.set) left k decl found wants in
            let apart = (valid-pair t.env valid decl.result s.goal pair).2 in
            let coercion : step_in t.env (Some decl.result) s.goal ≡ coercion_weight t.env = step-apart t.env decl.result s.goal apart in
            let u = under p.state s sp.is decl.result pair derives (omega (arith, fits, coercion)) in
            let low : State = record { set = s.set; goal = decl.result } in
            let h = head-there u.below low u.is k decl found (decl-edge u.below low u.is k decl found refl wants (omega (arith, fits))) in
            let e = u.holds (2 * k + 1) in
            omega (arith, e, h))
      ]

  all-there : (p : NumberedPlace) (n x : ℕ) → n ≡ x → often x (numbers_at t p) ≡ often x (variables (bound_at t p)) + often x (ways_at t.env t.edges p.state) → 1 ≤ often x (variables (bound_at t p)) + often x (ways_at t.env t.edges p.state) → 1 ≤ often n (numbers_at t p)
  all-there p n x same split h = subst (λ y. 1 ≤ often y (numbers_at t p)) (sym same) (omega (arith, split, h))

  -- each number that may come to a term within the limit is there
  numbers-there : (p : NumberedPlace) → IsNumbered t.env t.patterns p → (n : ℕ) (r : Reading) → turn t.env (tabled.place_by_numbers t p) n ≡ Some r → r.weight + total (least_of t) r.open_places ≤ t.env.limit → 1 ≤ often n (numbers_at t p)
  unfolding turn
  numbers-there p sp n r h fits = go (symbol n) refl h
    where
      split : (x : ℕ) → often x (numbers_at t p) ≡ often x (variables (bound_at t p)) + often x (ways_at t.env t.edges p.state)
      split x = count-append (λ y. y == x) (variables (bound_at t p)) (ways_at t.env t.edges p.state)

      bound : (m : ℕ) (o : Option ℕ) → slice_get (joined (tabled.place_by_numbers t p).ctx) m ≡ o → variable_at t.env (tabled.place_by_numbers t p) o ≡ Some r → m < bound_at t p
      bound m None is v = absurd (none_of r v)
      bound m (Some a) is v =
          let low = slice_get_within (joined (tabled.place_by_numbers t p).ctx) m a is in
          let same : length (joined (tabled.place_by_numbers t p).ctx) ≡ bound_at t p = ap (λ x. length (joined x)) (place-rows t p) in
          omega (arith, low, same)

      heavy : (k : ℕ) (decl : Decl) → slice_get t.env.decls k ≡ Some decl → (a b : Bool) → is_below t.env decl.result sp.state.goal ≡ a → has_room (left_at t.patterns.space sp.state.set) decl.args ≡ b → some_when (a && b) (record { weight = decl.weight + binders_weight t.env (binders decl.args) + step_in t.env (Some decl.result) sp.state.goal; open_places = places (rows_at t.env p.lambdas) (left_at t.patterns.space sp.state.set) decl.args }) ≡ Some r → 1 ≤ often (2 * k + 1) (ways_at t.env t.edges p.state)
      heavy k decl found false b below room v = absurd (none_of r v)
      heavy k decl found true false below room v = absurd (none_of r v)
      heavy k decl found true true below room v =
          let q : Reading = record { weight = decl.weight + binders_weight t.env (binders decl.args) + step_in t.env (Some decl.result) sp.state.goal; open_places = places (rows_at t.env p.lambdas) (left_at t.patterns.space sp.state.set) decl.args } in
          let same : q ≡ r = some_of q r v in
          let l : q.weight + total (least_of t) q.open_places ≡ r.weight + total (least_of t) r.open_places = ap (λ (x : Reading). x.weight + total (least_of t) x.open_places) same in
          declared-there p sp k decl found below room (omega (arith, l, fits))

      head : (k : ℕ) (o : Option Decl) → slice_get t.env.decls k ≡ o → declared_at t.env (place_at t.patterns sp.state (rows_at t.env p.lambdas)) o ≡ Some r → 1 ≤ often (2 * k + 1) (ways_at t.env t.edges p.state)
      head k None is v = absurd (none_of r v)
      head k (Some decl) is v = heavy k decl is (is_below t.env decl.result sp.state.goal) (has_room (left_at t.patterns.space sp.state.set) decl.args) refl refl v

      go : (y : Symbol) → symbol n ≡ y → turn_by t.env (tabled.place_by_numbers t p) y ≡ Some r → 1 ≤ often n (numbers_at t p)
      go (variable m) e v =
          let low = bound m (slice_get (joined (tabled.place_by_numbers t p).ctx) m) refl v in
          let one = variables-within (bound_at t p) m low in
          all-there p n (2 * m) (sym (number-symbol n) ∙ ap number e) (split (2 * m)) (omega (arith, one))
      go (declared k) e v =
          let there = head k (slice_get t.env.decls k) refl (sym (ap (λ q. declared_at t.env q (slice_get t.env.decls k)) (numbered-place t c valid lengths made right p sp)) ∙ v) in
          all-there p n (2 * k + 1) (sym (number-symbol n) ∙ ap number e) (split (2 * k + 1)) (omega (arith, there))

  pub are-complete : AreComplete t
  are-complete =
      let d = t.patterns in
      let first = first-set c t.env.goal t.env.depth d made in
      let left = first.1 in
      record {
        valid = valid;
        weights = right;
        least = are_least t.env c d t.least valid comp made right;
        root = root_kept t.env c d made;
        start = record { state = record { set = 0; goal = t.env.goal }; is = made.found.first; types = no_types ∙ sym first.0; depth = omega (arith, left) };
        start_is = ap (λ o. at_state d o []) made.found.first ∙ ap (λ n. record { ctx = []; left = n; wanted = t.env.goal }) left;
        ways = λ p sp m e at here. way-of t c valid lengths made right cases totals p sp m e at here;
        totals = totals;
        floors = floors;
        usable = usable;
        once = numbers-once;
        complete = numbers-there;
      }

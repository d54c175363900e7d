-- From paths of places to ways of names, and back.
use Rattle.graphs.proofs.Paths.{first-step}
use Rattle.graphs.proofs.Elements.{none_in}
use Rattle.graphs.specs.Paths.{IsPathBy}
use Rattle.std.proofs.Common.{◌≡◌, ℕ, zero, suc, ◌<◌, ◌≤◌, Bool, true, false, cond, List, [], ◌∷◌, length, get_or, drop, Option, Some, None, Less, refl, sym, ap, subst, ◌∙◌, arith, ◌⊎◌, inl, inr, Contains}
use Rattle.std.specs.Prelude.{unwrap_or}
use Rattle.std.specs.List.{slice_get}
use Rattle.std.proofs.lemmas.Option.{slice_get_within}
use Rattle.known_classes.specs.declared.summary.ClassSummary.{ClassSummary}
use Rattle.known_classes.specs.Known.{class_named, IsPlaceOf, HasEachOnce}
use Rattle.graphs.specs.Graph.{edges, Reaches, InRange, IsLeastCycle, IsAcyclic, IsEdge}
use Rattle.graphs.proofs.Ranks.{from_node}
use Rattle.decl_index.specs.History.{Name, order, Rises}
use Rattle.decl_index.specs.Refusals.{Steps, ReachesItself, IsLeastNamedCycle, HasNoCycle}
use Rattle.decl_index.specs.Rows.{IsGraph}
use Rattle.decl_index.specs.Places.{heads}
use Rattle.decl_index.proofs.Names.{same, same-true, same-of, less_differs, less_back, apart}
use Rattle.decl_index.proofs.Sorted.{Above}

-- Where classes stand.
above_slice : (n : Name) (cs : List ClassSummary) (i : ℕ) (c : ClassSummary) → Above n cs → slice_get cs i ≡ Some c → order n c.name ≡ Less
above_slice n [] i c a e = absurd cc
above_slice n (d ∷ ds) zero c a e = let s : d ≡ c = cc in subst (λ x. order n x.name ≡ Less) s a.0
above_slice n (d ∷ ds) (suc i) c a e = above_slice n ds i c a.1 e

pub named_at : (cs : List ClassSummary) (i : ℕ) (c : ClassSummary) → Rises cs → slice_get cs i ≡ Some c → class_named cs c.name ≡ Some c
unfolding class_named Rises
named_at [] i c r e = absurd cc
named_at (d ∷ ds) zero c r e = let s : d ≡ c = cc in ap (λ b. cond b (Some d) (class_named ds c.name)) (same-of d.name c.name (ap (λ x. x.name) s)) ∙ ap Some s
named_at (d ∷ ds) (suc i) c r e = ap (λ b. cond b (Some d) (class_named ds c.name)) (apart d.name c.name (above_slice d.name ds i c r.0 e)) ∙ named_at ds i c r.1 e

place_by : (b : Bool) (d : ClassSummary) (ds : List ClassSummary) (n : Name) (c : ClassSummary) → same d.name n ≡ b → cond b (Some d) (class_named ds n) ≡ Some c → (class_named ds n ≡ Some c → (i : ℕ) × ((slice_get ds i ≡ Some c) × (c.name ≡ n))) → (i : ℕ) × ((slice_get (d ∷ ds) i ≡ Some c) × (c.name ≡ n))
place_by true d ds n c s e f = let k : d ≡ c = cc in (0, (e, ap (λ x. x.name) (sym k) ∙ same-true d.name n s))
place_by false d ds n c s e f = let p = f e in (suc p.0, (p.1.0, p.1.1))

pub place_named : (cs : List ClassSummary) (n : Name) (c : ClassSummary) → class_named cs n ≡ Some c → (i : ℕ) × ((slice_get cs i ≡ Some c) × (c.name ≡ n))
unfolding class_named
place_named [] n c e = absurd cc
place_named (d ∷ ds) n c e = place_by (same d.name n) d ds n c refl e (place_named ds n c)

pub rises_at : (cs : List ClassSummary) (i j : ℕ) (c d : ClassSummary) → Rises cs → slice_get cs i ≡ Some c → slice_get cs j ≡ Some d → i < j → order c.name d.name ≡ Less
unfolding Rises
rises_at [] i j c d r e f l = absurd cc
rises_at (b ∷ bs) zero zero c d r e f l = absurd (omega (arith, l))
rises_at (b ∷ bs) zero (suc j) c d r e f l = let s : b ≡ c = cc in subst (λ x. order x.name d.name ≡ Less) s (above_slice b.name bs j d r.0 f)
rises_at (b ∷ bs) (suc i) zero c d r e f l = absurd (omega (arith, l))
rises_at (b ∷ bs) (suc i) (suc j) c d r e f l = rises_at bs i j c d r.1 e f (omega arith)

three : (i j : ℕ) → (i < j) ⊎ ((i ≡ j) ⊎ (j < i))
three zero zero = inr (inl refl)
three zero (suc j) = inl (omega arith)
three (suc i) zero = inr (inr (omega arith))
three (suc i) (suc j) = elim (three i j) [
  | inl l ↦ inl (omega (arith, l))
  | inr h ↦ elim h [
    | inl e ↦ inr (inl (ap suc e))
    | inr l ↦ inr (inr (omega (arith, l)))
  ]
]

pub once_at : (cs : List ClassSummary) (i j : ℕ) (c d : ClassSummary) → Rises cs → slice_get cs i ≡ Some c → slice_get cs j ≡ Some d → c.name ≡ d.name → i ≡ j
once_at cs i j c d r e f n = elim (three i j) [
  | inl l ↦ absurd (less_differs c.name d.name (rises_at cs i j c d r e f l) n)
  | inr h ↦ elim h [
    | inl s ↦ s
    | inr l ↦ absurd (less_differs d.name c.name (rises_at cs j i d c r f e l) (sym n))
  ]
]

pub each_once : (cs : List ClassSummary) → Rises cs → HasEachOnce cs
each_once cs r = record { once = λ i j c d e f n. once_at cs i j c d r e f n }

pub less_at : (cs : List ClassSummary) (i j : ℕ) (c d : ClassSummary) → Rises cs → slice_get cs i ≡ Some c → slice_get cs j ≡ Some d → order c.name d.name ≡ Less → i < j
less_at cs i j c d r e f o = elim (three i j) [
  | inl l ↦ l
  | inr h ↦ elim h [
    | inl s ↦ let k : slice_get cs i ≡ Some d = ap (slice_get cs) s ∙ f in let same_class : c ≡ d = cc in absurd (less_differs c.name d.name o (ap (λ x. x.name) same_class))
    | inr l ↦ absurd (less_back c.name d.name o (rises_at cs j i d c r f e l))
  ]
]

pub got_within : {A : Type 0} (xs : List A) (i : ℕ) → i < length xs → (x : A) × (slice_get xs i ≡ Some x)
got_within [] i l = absurd (omega (arith, l))
got_within (x ∷ xs) zero l = (x, refl)
got_within (x ∷ xs) (suc i) l = got_within xs i (omega arith)

-- Paths and ways.
pub first_known : (to : ClassSummary → List Name) (cs : List ClassSummary) (n : Name) (ms : List Name) (m : Name) → IsPathBy (Steps to cs) n ms m → (c : ClassSummary) × (class_named cs n ≡ Some c)
unfolding IsPathBy
first_known to cs n [] m w = (w.class, w.known)
first_known to cs n (x ∷ ms) m w = (w.0.class, w.0.known)

abbrev EndsAt : (ClassSummary → List Name) → List ClassSummary → Name → ℕ → Type 0
EndsAt to cs n b = (d : ClassSummary) × ((slice_get cs b ≡ Some d) × ((ms : List Name) × IsPathBy (Steps to cs) n ms d.name))

path_way : (to : ClassSummary → List Name) (cs : List ClassSummary) (rows : List (List ℕ)) → Rises cs → IsGraph to cs rows → (a : ℕ) (c : ClassSummary) → slice_get cs a ≡ Some c → (bs : List ℕ) (b : ℕ) → IsPathBy (IsEdge rows) a bs b → EndsAt to cs c.name b
unfolding IsPathBy
path_way to cs rows r g a c e [] b p =
    let s = (g.row a c e).sound b p in
    (s.0, (s.1.0, ([], record { class = c; known = named_at cs a c r e; leads = s.1.1 })))
path_way to cs rows r g a c e (x ∷ bs) b p =
    let s = (g.row a c e).sound x p.0 in
    let t = path_way to cs rows r g x s.0 s.1.0 bs b p.1 in
    (t.0, (t.1.0, (s.0.name ∷ t.1.1.0, (record { class = c; known = named_at cs a c r e; leads = s.1.1 }, t.1.1.1))))

step_edge : (to : ClassSummary → List Name) (cs : List ClassSummary) (rows : List (List ℕ)) → Rises cs → IsGraph to cs rows → (a b : ℕ) (c d : ClassSummary) (n m : Name) → slice_get cs a ≡ Some c → c.name ≡ n → slice_get cs b ≡ Some d → d.name ≡ m → Steps to cs n m → Contains (edges rows a) b
step_edge to cs rows r g a b c d n m e s f t w =
    let here : class_named cs n ≡ Some c = ap (class_named cs) (sym s) ∙ named_at cs a c r e in
    let known = w.known in
    let one : w.class ≡ c = cc in
    (g.row a c e).complete b d f (subst (λ k. Contains (to c) k) (sym t) (subst (λ k. Contains (to k) m) one w.leads))

way_path : (to : ClassSummary → List Name) (cs : List ClassSummary) (rows : List (List ℕ)) → Rises cs → IsGraph to cs rows → (a b : ℕ) (c d : ClassSummary) (n : Name) (ms : List Name) (m : Name) → slice_get cs a ≡ Some c → c.name ≡ n → slice_get cs b ≡ Some d → d.name ≡ m → IsPathBy (Steps to cs) n ms m → Reaches rows a b
unfolding IsPathBy
way_path to cs rows r g a b c d n [] m e s f t w = ([], step_edge to cs rows r g a b c d n m e s f t w)
way_path to cs rows r g a b c d n (x ∷ ms) m e s f t w =
    let k = first_known to cs x ms m w.1 in
    let p = place_named cs x k.0 k.1 in
    let q = way_path to cs rows r g p.0 b k.0 d x ms m p.1.0 p.1.1 f t w.1 in
    (p.0 ∷ q.0, (step_edge to cs rows r g a p.0 c k.0 n x e s p.1.0 p.1.1 w.0, q.1))

cycle_at : (to : ClassSummary → List Name) (cs : List ClassSummary) (rows : List (List ℕ)) → Rises cs → IsGraph to cs rows → (a : ℕ) (c : ClassSummary) → slice_get cs a ≡ Some c → Reaches rows a a → ReachesItself to cs c.name
cycle_at to cs rows r g a c e p =
    let t = path_way to cs rows r g a c e p.0 a p.1 in
    let f : slice_get cs a ≡ Some t.0 = t.1.0 in
    let s : t.0 ≡ c = cc in
    (t.1.1.0, subst (λ d. IsPathBy (Steps to cs) c.name t.1.1.0 d.name) s t.1.1.1)

cycle_back : (to : ClassSummary → List Name) (cs : List ClassSummary) (rows : List (List ℕ)) → Rises cs → IsGraph to cs rows → (a : ℕ) (c : ClassSummary) (n : Name) → slice_get cs a ≡ Some c → c.name ≡ n → ReachesItself to cs n → Reaches rows a a
cycle_back to cs rows r g a c n e s w = way_path to cs rows r g a a c c n w.0 n e s e s w.1

-- The place that is left out is that of the name that is left out.
pub record IsSkip (but : Option Name) (cs : List ClassSummary) (skip : ℕ) : Type 0 where
  pub named : (a : ℕ) (c : ClassSummary) → slice_get cs a ≡ Some c → a ≡ skip → Some c.name ≡ but
  pub placed : (a : ℕ) (c : ClassSummary) → slice_get cs a ≡ Some c → Some c.name ≡ but → a ≡ skip

past_end : {P : Type 0} (cs : List ClassSummary) (a : ℕ) (c : ClassSummary) → slice_get cs a ≡ Some c → a ≡ length cs → P
past_end cs a c e s = absurd (omega (arith, s, slice_get_within cs a c e))

pub skip-none : (cs : List ClassSummary) → IsSkip None cs (length cs)
skip-none cs = record { named = λ a c e s. past_end cs a c e s; placed = λ a c e s. absurd cc }

named_found : (cs : List ClassSummary) (p : ℕ) (n : Name) (c : ClassSummary) → class_named cs n ≡ slice_get cs p → slice_get cs p ≡ Some c → c.name ≡ n
named_found cs p n c e f = (place_named cs n c (e ∙ f)).1.1

pub skip-found : (cs : List ClassSummary) (n : Name) (found : Option ℕ) → Rises cs → IsPlaceOf cs (class_named cs n) found → IsSkip (Some n) cs (unwrap_or found (length cs))
skip-found cs n None r is = record {
  named = λ a c e s. past_end cs a c e s;
  placed = λ a c e s. let m : c.name ≡ n = cc in let k : class_named cs n ≡ Some c = ap (class_named cs) (sym m) ∙ named_at cs a c r e in absurd cc;
}
skip-found cs n (Some p) r is = record {
  named = λ a c e s. let f : slice_get cs p ≡ Some c = ap (slice_get cs) (sym s) ∙ e in ap Some (named_found cs p n c is.1 f);
  placed = λ a c e s. let m : c.name ≡ n = cc in let k : slice_get cs p ≡ Some c = sym is.1 ∙ ap (class_named cs) (sym m) ∙ named_at cs a c r e in once_at cs a p c c r e k refl;
}

-- What the graph's cycles say of names.
beyond : {A : Type 0} (xs : List A) (i : ℕ) (d : A) → length xs ≤ i → get_or xs i d ≡ d
beyond [] i d l = refl
beyond (x ∷ xs) zero d l = absurd (omega (arith, l))
beyond (x ∷ xs) (suc i) d l = beyond xs i d (omega arith)

range_by : (to : ClassSummary → List Name) (cs : List ClassSummary) (rows : List (List ℕ)) → IsGraph to cs rows → (a b : ℕ) → Contains (edges rows a) b → (a < length rows) ⊎ (length rows ≤ a) → b < length rows
range_by to cs rows g a b i (inl l) =
    let c = got_within cs a (omega (arith, l, g.size)) in
    let s = (g.row a c.0 c.1).sound b i in
    omega (arith, g.size, slice_get_within cs b s.0 s.1.0)
range_by to cs rows g a b i (inr l) = none_in b (subst (λ xs. Contains xs b) (beyond rows a [] l) i)

either : (i j : ℕ) → (i < j) ⊎ (j ≤ i)
either i j = elim (three i j) [
  | inl l ↦ inl l
  | inr h ↦ elim h [
    | inl e ↦ inr (omega (arith, e))
    | inr l ↦ inr (omega (arith, l))
  ]
]

pub graph_range : (to : ClassSummary → List Name) (cs : List ClassSummary) (rows : List (List ℕ)) → IsGraph to cs rows → InRange rows
graph_range to cs rows g a b i = range_by to cs rows g a b i (either a (length rows))

pub cycle_within : (to : ClassSummary → List Name) (cs : List ClassSummary) (rows : List (List ℕ)) → IsGraph to cs rows → (a : ℕ) → Reaches rows a a → a < length cs
cycle_within to cs rows g a p =
    let f = first-step (IsEdge rows) a p.0 a p.1 in
    omega (arith, g.size, from_node rows a f.0 f.1 (either a (length rows)))

pub no_cycle : (to : ClassSummary → List Name) (but : Option Name) (cs : List ClassSummary) (rows : List (List ℕ)) (skip : ℕ) → Rises cs → IsGraph to cs rows → IsSkip but cs skip → IsAcyclic rows skip → HasNoCycle to but cs
no_cycle to but cs rows skip r g k free = record {
  none = λ n h w.
      let c = first_known to cs n w.0 n w.1 in
      let p = place_named cs n c.0 c.1 in
      free p.0 (λ s. h (ap Some (sym p.1.1) ∙ k.named p.0 c.0 p.1.0 s)) (cycle_back to cs rows r g p.0 c.0 n p.1.0 p.1.1 w);
}

pub least_named_cycle : (to : ClassSummary → List Name) (but : Option Name) (cs : List ClassSummary) (rows : List (List ℕ)) (skip a : ℕ) (c : ClassSummary) → Rises cs → IsGraph to cs rows → IsSkip but cs skip → slice_get cs a ≡ Some c → IsLeastCycle rows skip a → IsLeastNamedCycle to but cs c.name
least_named_cycle to but cs rows skip a c r g k e least = record {
  counts = λ s. least.0 (k.placed a c e s);
  cycle = cycle_at to cs rows r g a c e least.1;
  least = λ m l h w.
      let d = first_known to cs m w.0 m w.1 in
      let p = place_named cs m d.0 d.1 in
      let o : order d.0.name c.name ≡ Less = subst (λ x. order x c.name ≡ Less) (sym p.1.1) l in
      least.2 p.0 (less_at cs p.0 a d.0 c r p.1.0 e o) (λ s. h (ap Some (sym p.1.1) ∙ k.named p.0 d.0 p.1.0 s)) (cycle_back to cs rows r g p.0 d.0 m p.1.0 p.1.1 w);
}

-- Where a class stands whose name was looked at.
heads_get : (cs : List ClassSummary) (n : Name) (p : ℕ) → heads n (drop p cs) ≡ true → (d : ClassSummary) × ((slice_get cs p ≡ Some d) × (d.name ≡ n))
heads_get [] n zero e = absurd cc
heads_get [] n (suc p) e = absurd cc
heads_get (c ∷ cs) n zero e = (c, (refl, same-true c.name n e))
heads_get (c ∷ cs) n (suc p) e = heads_get cs n p e

pub heads_found : (cs : List ClassSummary) (n : Name) (p : ℕ) → Rises cs → heads n (drop p cs) ≡ true → IsPlaceOf cs (class_named cs n) (Some p)
heads_found cs n p r e =
    let g = heads_get cs n p e in
    (slice_get_within cs p g.0 g.1.0, subst (λ m. class_named cs m ≡ slice_get cs p) g.1.1 (named_at cs p g.0 r g.1.0 ∙ sym g.1.0))

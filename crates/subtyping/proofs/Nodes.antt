-- Names as the nodes of a graph: paths of names and paths of places.
use Rattle.graphs.proofs.Paths.{one-step, step-then, first-step}
use Rattle.graphs.proofs.Elements.{first_in, rest_in, none_in, in-cases}
use Rattle.graphs.specs.Paths.{IsPathBy, Leads}
use Rattle.std.proofs.Common.{rules, ◌≡◌, ◌≢◌, ℕ, zero, suc, ◌<◌, ◌≤◌, List, [], ◌∷◌, length, map, get_or, slice_get, refl, sym, ap, subst, ◌∙◌, arith, inl, inr, ◌⊎◌, Bool, true, false, if◌then◌else◌, Option, Some, None, bytes_eq, Contains}
use Rattle.std.specs.List.{filter_map, cons_option}
use lib.ListN.{set}
use Rattle.std.proofs.lemmas.List.{get_or_past, length-map, length-set, get_or-set_same, get_or-set_other}
use Rattle.std.proofs.lemmas.Bool.{cases_eq}
use Rattle.graphs.specs.Graph.{edges, Reaches, InRange, IsForward, IsEdge}
use Rattle.known_classes.specs.declared.summary.ClassSummary.{ClassSummary}
use Rattle.known_classes.specs.Known.{KnownClasses, class_named}
use Rattle.type_names.specs.Names.{object_name}
use Rattle.subtyping.specs.Steps.{supers_in, supers_of, IsSuper, IsSuperStep}
use Rattle.name_places.specs.Places.{place_of, IsPlaced}
use Rattle.subtyping.specs.Places.{Ancestry, Stands, Rises, AllRise, IsAncestry, AreListed, row_of, graph_of, IsWithout, AreRows}
use Rattle.name_places.proofs.Places.{place-get}
use Rattle.subtyping.proofs.Searching.{edges-get}

-- the name stands at the place
abbrev At : List (List ℕ) → ℕ → List ℕ → Type 0
At names i a = place_of names a ≡ Some i

one-place : (names : List (List ℕ)) (i j : ℕ) (a : List ℕ) → At names i a → At names j a → i ≡ j
one-place names i j a e f = same (sym e ∙ f)
  where
    same : Some i ≡ Some j → i ≡ j
    same h = cc

one-name : (names : List (List ℕ)) (i : ℕ) (a b : List ℕ) → At names i a → At names i b → a ≡ b
one-name names i a b e f = sym (place-get names a i e).1 ∙ (place-get names b i f).1

-- what a filter keeps
cons-in : (o : Option ℕ) (j : ℕ) (ys : List ℕ) → Contains (cons_option o ys) j → (o ≡ Some j) ⊎ Contains ys j
cons-in None j ys h = inr h
cons-in (Some y) j ys h = elim (in-cases j y ys h) [
  | inl e ↦ inl (ap Some e)
  | inr k ↦ inr k
]

in-cons : (o : Option ℕ) (j : ℕ) (ys : List ℕ) → (o ≡ Some j) ⊎ Contains ys j → Contains (cons_option o ys) j
in-cons None j ys (inl e) = absurd cc
in-cons None j ys (inr h) = h
in-cons (Some y) j ys (inl e) = let same : j ≡ y = cc in rw same (first_in y ys)
in-cons (Some y) j ys (inr h) = rest_in j y ys h

kept-from : (f : List ℕ → Option ℕ) (xs : List (List ℕ)) (j : ℕ) → Contains (filter_map f xs) j → (b : List ℕ) × Contains xs b × (f b ≡ Some j)
kept-from f [] j h = none_in j h
kept-from f (x ∷ xs) j h = elim (cons-in (f x) j (filter_map f xs) h) [
  | inl e ↦ (x, first_in x xs, e)
  | inr r ↦ let k = kept-from f xs j r in (k.0, rest_in k.0 x xs k.1, k.2)
]

kept-to : (f : List ℕ → Option ℕ) (xs : List (List ℕ)) (b : List ℕ) (j : ℕ) → Contains xs b → f b ≡ Some j → Contains (filter_map f xs) j
kept-to f [] b j h e = none_in b h
kept-to f (x ∷ xs) b j h e = elim (in-cases b x xs h) [
  | inl s ↦ in-cons (f x) j (filter_map f xs) (inl (ap f s ∙ e))
  | inr k ↦ in-cons (f x) j (filter_map f xs) (inr (kept-to f xs b j k e))
]

-- the rows of the graph
map-at : (f : List ℕ → List ℕ) (xs : List (List ℕ)) (i : ℕ) → i < length xs → get_or (map f xs) i [] ≡ f (get_or xs i [])
map-at f [] i l = absurd (omega (arith, l))
map-at f (x ∷ xs) zero l = refl
map-at f (x ∷ xs) (suc i) l = map-at f xs i (omega (arith, l))

edges-at : (known : KnownClasses) (names : List (List ℕ)) (i : ℕ) (a : List ℕ) → At names i a → edges (graph_of known names) i ≡ row_of known names a
edges-at known names i a e = let p = place-get names a i e in map-at (row_of known names) names i p.0 ∙ ap (row_of known names) p.1

none-in : {P : Type 0} (j : ℕ) (row : List ℕ) → row ≡ [] → Contains row j → P
none-in j row e h = none_in j (subst (λ l. Contains l j) e h)

within : (i n : ℕ) → (i < n) ⊎ (n ≤ i)
within zero zero = inr (omega arith)
within zero (suc n) = inl (omega arith)
within (suc i) zero = inr (omega arith)
within (suc i) (suc n) = elim (within i n) [
  | inl l ↦ inl (omega (arith, l))
  | inr l ↦ inr (omega (arith, l))
]

pub graph-range : (known : KnownClasses) (names : List (List ℕ)) → InRange (graph_of known names)
graph-range known names a b h = elim (within a (length names)) [
  | inl l ↦
      let k = kept-from (place_of names) (supers_of known (get_or names a [])) b (subst (λ l. Contains l b) (map-at (row_of known names) names a l) h) in
      omega (arith, (place-get names k.0 b k.2).0, length-map names (row_of known names))
  | inr l ↦ none-in b (edges (graph_of known names) a) (get_or_past (graph_of known names) a [] (omega (arith, l, length-map names (row_of known names)))) h
]

-- the class of a name is listed
same-name : (x y : List ℕ) → bytes_eq x y ≡ true → x ≡ y
same-name x y h = search rules

same-class : (c d : ClassSummary) → Some d ≡ Some c → d ≡ c
same-class c d e = cc

class-by : (d : ClassSummary) (ds : List ClassSummary) (a : List ℕ) (c : ClassSummary) (b : Bool) → bytes_eq a d.name ≡ b → (if b then Some d else class_named ds a) ≡ Some c → (class_named ds a ≡ Some c → (i : ℕ) × (slice_get ds i ≡ Some c) × (c.name ≡ a)) → (i : ℕ) × (slice_get (d ∷ ds) i ≡ Some c) × (c.name ≡ a)
class-by d ds a c true t f rest = (0, f, sym (subst (λ k. a ≡ k.name) (same-class c d f) (same-name a d.name t)))
class-by d ds a c false t f rest = let r = rest f in (suc r.0, r.1, r.2)

class-at : (known : KnownClasses) (a : List ℕ) (c : ClassSummary) → class_named known a ≡ Some c → (i : ℕ) × (slice_get known i ≡ Some c) × (c.name ≡ a)
unfolding class_named
class-at [] a c e = absurd cc
class-at (d ∷ ds) a c e = class-by d ds a c (bytes_eq a d.name) refl e (λ f. class-at ds a c f)

by-class : (known : KnownClasses) (names : List (List ℕ)) (a b : List ℕ) (o : Option ClassSummary) → AreListed known names → class_named known a ≡ o → Contains (supers_in o) b → IsPlaced names a × IsPlaced names b
by-class known names a b None all e h = none_in b h
by-class known names a b (Some c) all e h =
    let k = class-at known a c e in
    let l = all k.0 c k.1 in
    (subst (IsPlaced names) k.2 l.own, l.supers b h)

super-placed : (known : KnownClasses) (names : List (List ℕ)) (a b : List ℕ) → AreListed known names → IsSuper known a b → IsPlaced names a × IsPlaced names b
super-placed known names a b all h = by-class known names a b (class_named known a) all refl h

-- a step of places is one of names, and the other way round
abbrev ToNames : List (List ℕ) → List (List ℕ) → (List ℕ → List ℕ → Type 0) → Type 0
ToNames names g step = (i j : ℕ) (a : List ℕ) → At names i a → Contains (edges g i) j → (b : List ℕ) × At names j b × step a b

abbrev ToPlaces : List (List ℕ) → List (List ℕ) → (List ℕ → List ℕ → Type 0) → Type 0
ToPlaces names g step = (a b : List ℕ) (i : ℕ) → At names i a → step a b → (j : ℕ) × At names j b × Contains (edges g i) j

path-names : (names g : List (List ℕ)) (step : List ℕ → List ℕ → Type 0) → ToNames names g step → (i : ℕ) (cs : List ℕ) (j : ℕ) (a : List ℕ) → At names i a → IsPathBy (IsEdge g) i cs j → (b : List ℕ) × At names j b × Leads step a b
unfolding IsPathBy
path-names names g step to i [] j a at h = let s = to i j a at h in (s.0, s.1, one-step step a s.0 s.2)
path-names names g step to i (c ∷ cs) j a at h =
    let s = to i c a at h.0 in
    let r = path-names names g step to c cs j s.0 s.1 h.1 in
    (r.0, r.1, step-then step a s.0 r.0 s.2 r.2)

path-places : (names g : List (List ℕ)) (step : List ℕ → List ℕ → Type 0) → ToPlaces names g step → (a : List ℕ) (via : List (List ℕ)) (b : List ℕ) (i : ℕ) → At names i a → IsPathBy step a via b → (j : ℕ) × At names j b × Reaches g i j
unfolding IsPathBy
path-places names g step to a [] b i at h = let s = to a b i at h in (s.0, s.1, one-step (IsEdge g) i s.0 s.2)
path-places names g step to a (c ∷ via) b i at h =
    let s = to a c i at h.0 in
    let r = path-places names g step to c via b s.0 s.1 h.1 in
    (r.0, r.1, step-then (IsEdge g) i s.0 r.0 s.2 r.2)

supers-names : (known : KnownClasses) (names : List (List ℕ)) → ToNames names (graph_of known names) (IsSuper known)
supers-names known names i j a at h =
    let k = kept-from (place_of names) (supers_of known a) j (subst (λ l. Contains l j) (edges-at known names i a at) h) in
    (k.0, k.2, k.1)

supers-places : (known : KnownClasses) (names : List (List ℕ)) → AreListed known names → ToPlaces names (graph_of known names) (IsSuper known)
supers-places known names all a b i at h =
    let p = (super-placed known names a b all h).1 in
    (p.0, p.1, subst (λ l. Contains l p.0) (sym (edges-at known names i a at)) (kept-to (place_of names) (supers_of known a) b p.0 h p.1))

-- without cycles, and without Object's edges
module _ (known : KnownClasses) (names rows : List (List ℕ)) (all : AreListed known names) (w : IsWithout names (graph_of known names) rows) where
  others : (i : ℕ) (a : List ℕ) → At names i a → a ≢ object_name → edges rows i ≡ edges w.kept i
  others i a at apart = w.others i (λ o. apart (one-name names i a object_name at o))

  steps-names : ToNames names rows (IsSuperStep known)
  steps-names i j a at h =
      let apart : a ≢ object_name = λ e. none-in j (edges rows i) (w.none i (subst (At names i) e at)) h in
      let f = (w.forward.each i j).0 (subst (λ l. Contains l j) (others i a at apart) h) in
      let s = supers-names known names i j a at f.0 in (
        s.0,
        s.1,
        (
          apart,
          s.2,
          λ l.
              let r = path-places names (graph_of known names) (IsSuper known) (supers-places known names all) s.0 l.0 a j s.1 l.1 in
              f.1 (subst (Reaches (graph_of known names) j) (one-place names r.0 i a r.1 at) r.2),
        ),
      )

  steps-places : ToPlaces names rows (IsSuperStep known)
  steps-places a b i at h =
      let s = supers-places known names all a b i at h.1 in
      let k = (w.forward.each i s.0).1 s.2 (λ r.
      let l = path-names names (graph_of known names) (IsSuper known) (supers-names known names) s.0 r.0 i b s.1 r.1 in
      h.2 (subst (Leads (IsSuper known) b) (one-name names i l.0 a l.1 at) l.2)) in
      (s.0, s.1, subst (λ l. Contains l s.0) (sym (others i a at h.0)) k)

  pub ancestry-of : (above : List (List ℕ)) → AreRows rows above → IsAncestry known (record { names = names; rows = above })
  ancestry-of above r = record {
    rises = r.rises;
    sound = λ a b s.
        let p = (r.each s.low s.high).0 s.among in
        let l = path-names names rows (IsSuperStep known) steps-names s.low p.0 s.high a s.from p.1 in
        subst (Leads (IsSuperStep known) a) (one-name names s.high l.0 b l.1 s.to) l.2;
    complete = λ a b l.
        let first = first-step (IsSuperStep known) a l.0 b l.1 in
        let at = (super-placed known names a first.0 all first.1.1).0 in
        let p = path-places names rows (IsSuperStep known) steps-places a l.0 b at.0 at.1 l.1 in
        record { low = at.0; high = p.0; from = at.1; to = p.1; among = (r.each at.0 p.0).1 p.2 };
  }

kept-range : (known : KnownClasses) (names kept : List (List ℕ)) → IsForward (graph_of known names) kept → InRange kept
kept-range known names kept f a b h = omega (arith, graph-range known names a b ((f.each a b).0 h).0, f.long)

steps-row : (names graph rows : List (List ℕ)) (w : IsWithout names graph rows) (i : ℕ) (o : Option ℕ) → place_of names object_name ≡ o → (edges rows i ≡ []) ⊎ (edges rows i ≡ edges w.kept i)
steps-row names graph rows w i None e = inr (w.others i (λ h. never (sym e ∙ h)))
  where
    never : None ≡ Some i → ⊥
    never h = cc
steps-row names graph rows w i (Some k) e = elim (cases_eq k i) [
  | inl s ↦ inl (w.none i (e ∙ ap Some s))
  | inr d ↦ inr (w.others i (λ h. d (same (sym e ∙ h))))
]
  where
    same : Some k ≡ Some i → k ≡ i
    same h = cc

pub steps-range : (known : KnownClasses) (names rows : List (List ℕ)) → IsWithout names (graph_of known names) rows → InRange rows
steps-range known names rows w a b h = elim (steps-row names (graph_of known names) rows w a (place_of names object_name) refl) [
  | inl e ↦ none-in b (edges rows a) e h
  | inr e ↦ omega (arith, kept-range known names w.kept w.forward a b (subst (λ l. Contains l b) e h), w.long, w.forward.long)
]

pub without-none : (names graph kept : List (List ℕ)) → place_of names object_name ≡ None → IsForward graph kept → IsWithout names graph kept
without-none names graph kept e f = record {
  kept = kept;
  forward = f;
  long = f.long;
  others = λ i h. refl;
  none = λ i h. absurd (never i (sym e ∙ h));
}
  where
    never : (i : ℕ) → None ≡ Some i → ⊥
    never i h = cc

pub without-set : (names graph kept rows : List (List ℕ)) (p : ℕ) → place_of names object_name ≡ Some p → length graph ≡ length names → IsForward graph kept → rows ≡ set kept p [] → IsWithout names graph rows
without-set names graph kept rows p at long f e = record {
  kept = kept;
  forward = f;
  long = ap length e ∙ length-set kept p [] ∙ f.long;
  others = λ i h. ap (λ r. edges r i) e ∙ get_or-set_other kept p i [] [] (λ s. h (at ∙ ap Some (sym s)));
  none = λ i h. ap (λ r. edges r i) e ∙ ap (λ k. edges (set kept p []) k) (one-place names i p object_name h at) ∙ get_or-set_same kept p [] [] (omega (arith, (place-get names object_name p at).0, long, f.long));
}

pub set-below : (names graph kept : List (List ℕ)) (p : ℕ) → place_of names object_name ≡ Some p → length graph ≡ length names → IsForward graph kept → p < length kept
set-below names graph kept p at long f = omega (arith, (place-get names object_name p at).0, long, f.long)

pub graph-long : (known : KnownClasses) (names : List (List ℕ)) → length (graph_of known names) ≡ length names
graph-long known names = length-map names (row_of known names)

-- what is asked of the rows, and answered
get-none : (rows : List (List ℕ)) (i : ℕ) → slice_get rows i ≡ None → edges rows i ≡ []
get-none [] i e = get_or_past [] i [] (omega arith)
get-none (r ∷ rs) zero e = absurd cc
get-none (r ∷ rs) (suc i) e = get-none rs i e

pub row-rises : (rows : List (List ℕ)) (i : ℕ) (row : List ℕ) → AllRise rows → slice_get rows i ≡ Some row → Rises row
row-rises rows i row rises at = subst Rises (edges-get rows i row at) (rises i)

pub stands-sound : (v : Ancestry) (a b : List ℕ) (low high : ℕ) (row : List ℕ) → place_of v.names a ≡ Some low → place_of v.names b ≡ Some high → slice_get v.rows low ≡ Some row → Contains row high → Stands v a b
stands-sound v a b low high row from to at h = record { low = low; high = high; from = from; to = to; among = subst (λ l. Contains l high) (sym (edges-get v.rows low row at)) h }

at-places : (v : Ancestry) (a b : List ℕ) (low high : ℕ) → place_of v.names a ≡ Some low → place_of v.names b ≡ Some high → Stands v a b → Contains (edges v.rows low) high
at-places v a b low high from to s = subst (λ i. Contains (edges v.rows i) high) (one-place v.names s.low low a s.from from) (subst (λ j. Contains (edges v.rows s.low) j) (one-place v.names s.high high b s.to to) s.among)

pub stands-found : (v : Ancestry) (a b : List ℕ) (low high : ℕ) (row : List ℕ) → place_of v.names a ≡ Some low → place_of v.names b ≡ Some high → slice_get v.rows low ≡ Some row → Stands v a b → Contains row high
stands-found v a b low high row from to at s = subst (λ l. Contains l high) (edges-get v.rows low row at) (at-places v a b low high from to s)

pub stands-never : {P : Type 0} (v : Ancestry) (a b : List ℕ) (low high : ℕ) → place_of v.names a ≡ Some low → place_of v.names b ≡ Some high → slice_get v.rows low ≡ None → Stands v a b → P
stands-never v a b low high from to at s = none-in high (edges v.rows low) (get-none v.rows low at) (at-places v a b low high from to s)

no-place : {P : Type 0} {o : Option ℕ} {i : ℕ} → o ≡ None → o ≡ Some i → P
no-place e f = absurd cc

pub stands-from : {P : Type 0} (v : Ancestry) (a b : List ℕ) → place_of v.names a ≡ None → Stands v a b → P
stands-from v a b none s = no-place none s.from

pub stands-to : {P : Type 0} (v : Ancestry) (a b : List ℕ) → place_of v.names b ≡ None → Stands v a b → P
stands-to v a b none s = no-place none s.to

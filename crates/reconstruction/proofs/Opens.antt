-- A head at a place that is kept opens kept places alone.
use Rattle.std.proofs.Common.{◌≡◌, inl, inr, ℕ, zero, suc, ◌+◌, Bool, true, false, ◌&&◌, ◌==◌, List, [], ◌∷◌, ◌++◌, length, map, slice_get, get_or, Option, Some, None, refl, sym, ap, subst, ◌∙◌, arith, length-append}
use Rattle.std.proofs.lemmas.Bool.{false≢true, eq-eqb, eqb-true, or_cases, or_left, or_right}
use Rattle.std.proofs.lemmas.Option.{slice_get_within, slice_get-get_or}
use Rattle.terms.specs.Faults.{IsValid}
use Rattle.terms.specs.Place.{Place}
use Rattle.terms.specs.Reading.{Reading, Symbol, variable, declared, symbol, has_room, places, binders, some_when, variable_at, declared_at, turn_by, turn}
use Rattle.terms.specs.Weights.{variable_weight, binders_weight, step_in}
use Rattle.terms.specs.Typing.{joined, is_pair, is_below}
use Rattle.terms.specs.declared.parts.Arg.{Arg}
use Rattle.terms.specs.declared.parts.Arg.TheVariants.{Plain, Fun}
use Rattle.terms.specs.declared.parts.Decl.{Decl}
use Rattle.terms.specs.declared.parts.Parts.{Parts}
use Rattle.succinct.specs.Compression.{Compression, IsCompression, IsKindOf, Source, sources, of_decl, of_pair, need_of}
use Rattle.succinct.specs.Sets.{has, set_of, joined_with, types_bound}
use Rattle.succinct.specs.declared.kind.Succinct.{Succinct}
use Rattle.succinct.specs.declared.need.Need.{Need}
use Rattle.succinct.proofs.Rising.{has-joined_with, joined_with-set_of, rising-joined_with}
use Rattle.patterns.specs.Patterned.{Patterned, ArePatterns}
use Rattle.patterns.specs.States.{types_at, left_at, kinds_of, IsListed, IsOpenNeed, IsWantedAs}
use Rattle.patterns.specs.declared.state.State.{State}
use Rattle.patterns.specs.declared.wanted.Wanted.{Wanted}
use Rattle.patterns.proofs.Contexts.{set_of-more}
use Rattle.patterns.proofs.Meaning.{get-pair, lambda-there, plain-sought}
use Rattle.patterns.proofs.Mets.{in_ends}
use Rattle.patterns.proofs.Tables.{remap}
use Rattle.partial_terms.specs.Leasts.{AllPlaces}
use Rattle.reconstruction.specs.NumberedPlaces.{IsKept}
use Rattle.reconstruction.proofs.Weights.{some_of, none_of}

-- the number of a want's need stands among the numbers
pub named-at : (needs : List Need) (numbers : List ℕ) (args : List Arg) → map (λ i. slice_get needs i) numbers ≡ map (λ a. Some (need_of a)) args → (k : ℕ) (a : Arg) → slice_get args k ≡ Some a → (m : ℕ) × (has m numbers ≡ true) × (slice_get needs m ≡ Some (need_of a))
named-at needs numbers [] named k a h = cc
named-at needs [] (b ∷ args) named k a h = cc
named-at needs (n ∷ ns) (b ∷ args) named zero a h =
    let first : slice_get needs n ≡ Some (need_of b) = cc in
    (n, or_left (n == n) (has n ns) (eq-eqb n n refl), first ∙ ap (λ x. Some (need_of x)) (some_of b a h))
named-at needs (n ∷ ns) (b ∷ args) named (suc k) a h =
    let later : map (λ i. slice_get needs i) ns ≡ map (λ x. Some (need_of x)) args = cc in
    let r = named-at needs ns args later k a h in
    (r.0, or_right (r.0 == n) (has r.0 ns) r.1, r.2)

pub map-get : {X Y : Type 0} (f : X → Y) (xs : List X) (ys : List Y) (n : ℕ) (x : X) → slice_get xs n ≡ Some x → slice_get (map f xs ++ ys) n ≡ Some (f x)
map-get f [] ys n x h = cc
map-get f (y ∷ xs) ys zero x h = ap (λ z. Some (f z)) (some_of y x h)
map-get f (y ∷ xs) ys (suc n) x h = map-get f xs ys n x h

pub map-after : {X Y Z : Type 0} (f : X → Z) (h : Y → Z) (xs : List X) (ys : List Y) (j : ℕ) (y : Y) → slice_get ys j ≡ Some y → slice_get (map f xs ++ map h ys) (length xs + j) ≡ Some (h y)
map-after f h [] ys j y is = (let e : 0 + j ≡ j = omega arith in ap (slice_get (map h ys)) e ∙ remap h ys j y is)
map-after f h (x ∷ xs) ys j y is = (let e : suc (length xs) + j ≡ suc (length xs + j) = omega arith in ap (slice_get (f x ∷ (map f xs ++ map h ys))) e ∙ map-after f h xs ys j y is)

-- a state that describes places under these rows
pub record IsUnder (g : Parts) (d : Patterned) (s : State) (ctx : List (List ℕ)) : Type 0 where
  pub listed : IsListed d.states s
  pub types : types_bound ctx ≡ types_at d.space s.set
  pub depth : length ctx + left_at d.space s.set ≡ g.depth

-- the need of a want of a source, and where it is sought from a state
pub record NeedAt (g : Parts) (c : Compression) (d : Patterned) (s : State) (a : Arg) : Type 0 where
  pub need : ℕ
  pub wanted : Wanted
  pub is : slice_get c.needs need ≡ Some (need_of a)
  pub at : slice_get d.space.wanted need ≡ Some wanted
  pub as_wanted : IsWantedAs need (need_of a) wanted
  pub opens : IsOpenNeed d.space d.states s need

abbrev pub AreNeeds : Parts → Compression → Patterned → State → List Arg → Type 0
AreNeeds g c d s args = (k : ℕ) (a : Arg) → slice_get args k ≡ Some a → NeedAt g c d s a

-- the place of an argument
abbrev pub arg_place : List (List ℕ) → ℕ → Arg → Place
arg_place ctx left (Plain b) = record { ctx = ctx; left = left; wanted = b }
arg_place ctx zero (Fun ps r) = record { ctx = ctx ++ ps ∷ []; left = 0; wanted = r }
arg_place ctx (suc left) (Fun ps r) = record { ctx = ctx ++ ps ∷ []; left = left; wanted = r }

kept-of : (g : Parts) (d : Patterned) (s : State) (ctx : List (List ℕ)) (left : ℕ) → IsUnder g d s ctx → left ≡ left_at d.space s.set → IsKept g d (record { ctx = ctx; left = left; wanted = s.goal })
kept-of g d s ctx left u l = record {
  number = u.listed.0;
  at = record { state = s; is = u.listed.1; types = u.types; depth = u.depth };
  is = ap (λ n. record { ctx = ctx; left = n; wanted = s.goal }) l;
}

module _ (g : Parts) (c : Compression) (d : Patterned) (valid : IsValid g) (comp : IsCompression g c) (made : ArePatterns c g.goal g.depth d) where
  -- each want of a source that ends in a state's goal has its need
  pub need-at : (s : State) → IsListed d.states s → (n : ℕ) (source : Source) → slice_get (sources g) n ≡ Some source → source.result ≡ s.goal → AreNeeds g c d s source.args
  need-at s listed n source at gives k a h =
      let low = slice_get_within (sources g) n source at in
      let long = comp.of_sources.numbered in
      let i = get_or c.kind_numbers n 0 in
      let number : slice_get c.kind_numbers n ≡ Some i = slice_get-get_or c.kind_numbers n 0 (omega (arith, low, long)) in
      let r = comp.of_sources.kind_of_each n i source at number in
      let kind : Succinct = r.0 in
      let of_kind : IsKindOf c.needs source kind = r.2 in
      let m = named-at c.needs of_kind.numbers source.args of_kind.named k a h in
      let in_needs : has m.0 kind.needs ≡ true = ap (has m.0) of_kind.wants ∙ has-joined_with m.0 [] of_kind.numbers ∙ m.1 in
      let zero_add : 0 + i ≡ i = omega arith in
      let ends : has i (kinds_of c.kinds s.goal) ≡ true = ap (λ x. has x (kinds_of c.kinds s.goal)) (sym zero_add) ∙ in_ends c.kinds s.goal i 0 kind r.1 (of_kind.gives ∙ gives) in
      let w = made.wanted m.0 (need_of a) m.2 in
      record { need = m.0; wanted = w.0; is = m.2; at = w.1; as_wanted = w.2; opens = made.found.closed s listed i kind ends r.1 m.0 in_needs }

  plain-open : (s : State) (b : ℕ) → NeedAt g c d s (Plain b) → IsListed d.states (record { set = s.set; goal = b })
  plain-open s b n =
      let there : IsListed d.states (record { set = s.set; goal = n.wanted.goal }) = n.opens n.wanted s.set n.at (plain-sought d.space s.set n.wanted n.as_wanted.lambda) in
      subst (λ x. IsListed d.states (record { set = s.set; goal = x })) n.as_wanted.goal there

  -- so is the state of each type below the goal
  pub exact-listed : (s : State) → IsListed d.states s → (a : ℕ) → is_below g a s.goal ≡ true → IsListed d.states (record { set = s.set; goal = a })
  unfolding is_below
  exact-listed s listed a below = elim (or_cases (a == s.goal) (is_pair g.pairs a s.goal) below) [
    | inl same ↦ subst (λ x. IsListed d.states (record { set = s.set; goal = x })) (sym (eqb-true a s.goal same)) listed
    | inr pair ↦
        (let j = get-pair g.pairs a s.goal pair in
        let source : slice_get (sources g) (length g.decls + j.0) ≡ Some (of_pair (a, s.goal)) = map-after of_decl of_pair g.decls g.pairs j.0 (a, s.goal) j.1 in
        plain-open s a (need-at s listed (length g.decls + j.0) (of_pair (a, s.goal)) source refl 0 (Plain a) refl))
  ]

  -- the place of a want is kept
  pub arg-kept : (s : State) (ctx : List (List ℕ)) (left : ℕ) → IsUnder g d s ctx → left ≡ left_at d.space s.set → (a : Arg) → has_room left (a ∷ []) ≡ true → NeedAt g c d s a → IsKept g d (arg_place ctx left a)
  unfolding has_room
  arg-kept s ctx left u l (Plain b) room n = kept-of g d (record { set = s.set; goal = b }) ctx left (record { listed = plain-open s b n; types = u.types; depth = u.depth }) l
  arg-kept s ctx zero u l (Fun ps r) room n = absurd (false≢true room)
  arg-kept s ctx (suc left) u l (Fun ps r) room n =
      let rows = u.depth in
      let w = n.wanted in
      let st = lambda-there d.space c.needs made.steps s.set n.need left (need_of (Fun ps r)) w n.as_wanted n.is refl (sym l) in
      let listed : IsListed d.states (record { set = st.0; goal = w.goal }) = n.opens w st.0 n.at st.1 in
      let listed_r : IsListed d.states (record { set = st.0; goal = r }) = subst (λ x. IsListed d.states (record { set = st.0; goal = x })) n.as_wanted.goal listed in
      let inner = st.2.left in
      kept-of g d (record { set = st.0; goal = r }) (ctx ++ ps ∷ []) left
      (record {
        listed = listed_r;
        types = set_of-more ctx ps ∙ sym (joined_with-set_of (types_bound ctx) ps (rising-joined_with [] (joined ctx) tt)) ∙ ap (λ x. joined_with x (set_of ps)) u.types ∙ sym st.2.types;
        depth = omega (arith, length-append ctx (ps ∷ []), rows, inner);
      })
      (omega (arith, l, inner))

  args-kept : (s : State) (ctx : List (List ℕ)) (left : ℕ) → IsUnder g d s ctx → left ≡ left_at d.space s.set → (args : List Arg) → has_room left args ≡ true → AreNeeds g c d s args → AllPlaces (IsKept g d) (places ctx left args)
  unfolding has_room places
  args-kept s ctx left u l [] room needs = tt
  args-kept s ctx left u l (Plain b ∷ more) room needs = (arg-kept s ctx left u l (Plain b) refl (needs 0 (Plain b) refl), args-kept s ctx left u l more room (λ k a h. needs (suc k) a h))
  args-kept s ctx zero u l (Fun ps r ∷ more) room needs = absurd (false≢true room)
  args-kept s ctx (suc left) u l (Fun ps r ∷ more) room needs = (arg-kept s ctx (suc left) u l (Fun ps r) refl (needs 0 (Fun ps r) refl), args-kept s ctx (suc left) u l more room (λ k a h. needs (suc k) a h))

  declared-opens : (p : Place) → IsKept g d p → (k : ℕ) (decl : Decl) (t : Reading) → slice_get g.decls k ≡ Some decl → declared_at g p (Some decl) ≡ Some t → AllPlaces (IsKept g d) t.open_places
  declared-opens p kept k decl t found h = go (is_below g decl.result p.wanted) (has_room p.left decl.args) refl refl h
    where
      go : (a b : Bool) → is_below g decl.result p.wanted ≡ a → has_room p.left decl.args ≡ b → some_when (a && b) (record { weight = decl.weight + binders_weight g (binders decl.args) + step_in g (Some decl.result) p.wanted; open_places = places p.ctx p.left decl.args }) ≡ Some t → AllPlaces (IsKept g d) t.open_places
      go false b below room h' = absurd (none_of t h')
      go true false below room h' = absurd (none_of t h')
      go true true below room h' =
          let s = kept.at.state in
          let goal : p.wanted ≡ s.goal = ap (λ (q : Place). q.wanted) kept.is in
          let left : p.left ≡ left_at d.space s.set = ap (λ (q : Place). q.left) kept.is in
          let listed : IsListed d.states s = (kept.number, kept.at.is) in
          let e : State = record { set = s.set; goal = decl.result } in
          let exact : IsListed d.states e = exact-listed s listed decl.result (ap (is_below g decl.result) (sym goal) ∙ below) in
          let needs : AreNeeds g c d e decl.args = need-at e exact k (of_decl decl) (map-get of_decl g.decls (map of_pair g.pairs) k decl found) refl in
          let all : AllPlaces (IsKept g d) (places p.ctx p.left decl.args) = args-kept e p.ctx p.left (record { listed = exact; types = kept.at.types; depth = kept.at.depth }) left decl.args room needs in
          subst (λ (q : Reading). AllPlaces (IsKept g d) q.open_places) (some_of _ t h') all

  variable-opens : (p : Place) (o : Option ℕ) (t : Reading) → variable_at g p o ≡ Some t → AllPlaces (IsKept g d) t.open_places
  variable-opens p None t h = absurd (none_of t h)
  variable-opens p (Some a) t h = go (is_below g a p.wanted) h
    where
      go : (b : Bool) → some_when b (record { weight = variable_weight g + step_in g (Some a) p.wanted; open_places = [] }) ≡ Some t → AllPlaces (IsKept g d) t.open_places
      go false h' = absurd (none_of t h')
      go true h' = subst (λ (q : Reading). AllPlaces (IsKept g d) q.open_places) (some_of _ t h') tt

  pub opens-kept : (p : Place) → IsKept g d p → (n : ℕ) (t : Reading) → turn g p n ≡ Some t → AllPlaces (IsKept g d) t.open_places
  unfolding turn
  opens-kept p kept n t h = go (symbol n) h
    where
      decl : (k : ℕ) (o : Option Decl) → slice_get g.decls k ≡ o → declared_at g p o ≡ Some t → AllPlaces (IsKept g d) t.open_places
      decl k None is h' = absurd (none_of t h')
      decl k (Some x) is h' = declared-opens p kept k x t is h'

      go : (s : Symbol) → turn_by g p s ≡ Some t → AllPlaces (IsKept g d) t.open_places
      go (variable m) h' = variable-opens p (slice_get (joined p.ctx) m) t h'
      go (declared m) h' = decl m (slice_get g.decls m) refl h'

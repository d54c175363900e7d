-- What an edge of a state is: one of its variables, of a declaration that gives its type, or of a pair that leads to it.
use Rattle.std.proofs.Common.{◌≡◌, ◌⊎◌, inl, inr, ℕ, zero, suc, ◌+◌, ◌≤◌, cond, List, [], ◌∷◌, ◌++◌, length, get_or, map, slice_get, Some, None, refl, sym, ap, subst, ◌∙◌, arith}
use Rattle.std.proofs.lemmas.Bool.{lt-ltb, le-ltb}
use Rattle.std.proofs.lemmas.Option.{slice_get_within, slice_get-get_or}
use Rattle.terms.specs.Reading.{binders}
use Rattle.terms.specs.Weights.{binders_weight}
use Rattle.terms.specs.declared.parts.Arg.TheVariants.{Plain}
use Rattle.terms.specs.declared.parts.Decl.{Decl}
use Rattle.terms.specs.declared.parts.Parts.{Parts}
use Rattle.succinct.specs.Compression.{Compression, IsCompression, Source, sources, of_decl, of_pair}
use Rattle.succinct.specs.declared.kind.Succinct.{Succinct}
use Rattle.patterns.specs.Patterned.{Patterned, ArePatterns}
use Rattle.patterns.specs.declared.state.State.{State}
use Rattle.edges.specs.Edges.{Edge, IsTail, AreTails, IsOffered, IsSourceEdge, AreEdges, decl_cost, pair_cost, source_costs}
use Rattle.least_weights.proofs.Joins.{at-first}
use Rattle.edges.proofs.Options.{some_eq}
use Rattle.reconstruction.specs.Totals.{declared_in, lower_in, first_of}

-- an edge of the variables
pub record AtVariables (g : Parts) (e : Edge) : Type 0 where
  pub source : e.source ≡ None
  pub declared : declared_in g e.source ≡ None
  pub lower : lower_in g e.source e.tails ≡ None

-- an edge of a declaration that gives the type of state i
pub record AtDecl (g : Parts) (c : Compression) (d : Patterned) (i : ℕ) (s : State) (e : Edge) : Type 0 where
  pub number : ℕ
  pub decl : Decl
  pub source : e.source ≡ Some number
  pub is : slice_get g.decls number ≡ Some decl
  pub gives : decl.result ≡ s.goal
  pub weighs : e.weight ≡ decl.weight + binders_weight g (binders decl.args)
  pub tails : AreTails c d i decl.args e.tails
  pub declared : declared_in g e.source ≡ Some number
  pub lower : lower_in g e.source e.tails ≡ None

-- an edge of a pair that leads to it
pub record AtPair (g : Parts) (c : Compression) (d : Patterned) (i : ℕ) (s : State) (e : Edge) : Type 0 where
  pub place : ℕ
  pub low : ℕ
  pub below : ℕ
  pub source : e.source ≡ Some (length g.decls + place)
  pub is : slice_get g.pairs place ≡ Some (low, s.goal)
  pub tail : IsTail c d i (Plain low) below
  pub declared : declared_in g e.source ≡ None
  pub lower : lower_in g e.source e.tails ≡ Some below

abbrev pub EdgeCase : Parts → Compression → Patterned → ℕ → State → Edge → Type 0
EdgeCase g c d i s e = AtVariables g e ⊎ (AtDecl g c d i s e ⊎ AtPair g c d i s e)

record First {X A : Type 0} (f : X → A) (xs : List X) (n : ℕ) (z : A) : Type 0 where
  member : X
  is : slice_get xs n ≡ Some member
  to : f member ≡ z

record Second {X Y A : Type 0} (h : Y → A) (xs : List X) (ys : List Y) (n : ℕ) (z : A) : Type 0 where
  place : ℕ
  member : Y
  numbered : n ≡ length xs + place
  is : slice_get ys place ≡ Some member
  to : h member ≡ z

map-back : {Y A : Type 0} (h : Y → A) (ys : List Y) (n : ℕ) (z : A) → slice_get (map h ys) n ≡ Some z → First h ys n z
map-back h [] n z is = cc
map-back h (y ∷ ys) zero z is = record { member = y; is = refl; to = some_eq (h y) z is }
map-back h (y ∷ ys) (suc n) z is = (let r = map-back h ys n z is in record { member = r.member; is = r.is; to = r.to })

-- a member of two mapped lists is one of the first or of the second
split-get : {X Y A : Type 0} (f : X → A) (h : Y → A) (xs : List X) (ys : List Y) (n : ℕ) (z : A) → slice_get (map f xs ++ map h ys) n ≡ Some z → First f xs n z ⊎ Second {X = X} h xs ys n z
split-get f h [] ys n z is = (let r = map-back h ys n z is in inr (record { place = n; member = r.member; numbered = omega arith; is = r.is; to = r.to }))
split-get f h (x ∷ xs) ys zero z is = inl (record { member = x; is = refl; to = some_eq (f x) z is })
split-get f h (x ∷ xs) ys (suc n) z is = go (split-get f h xs ys n z is)
  where
    go : First f xs n z ⊎ Second {X = _} h xs ys n z → First f (x ∷ xs) (suc n) z ⊎ Second {X = _} h (x ∷ xs) ys (suc n) z
    go (inl r) = inl (record { member = r.member; is = r.is; to = r.to })
    go (inr r) = inr (record { place = r.place; member = r.member; numbered = (let q = r.numbered in omega (arith, q)); is = r.is; to = r.to })

pub after-second : {X Y A : Type 0} (f : X → A) (h : Y → A) (xs : List X) (ys : List Y) (j : ℕ) (y : Y) → slice_get ys j ≡ Some y → slice_get (map f xs ++ map h ys) (length xs + j) ≡ Some (h y)
after-second f h [] ys j y is = (let e : 0 + j ≡ j = omega arith in ap (slice_get (map h ys)) e ∙ mapped h ys j y is)
  where
    mapped : {Y A : Type 0} (h : Y → A) (ys : List Y) (j : ℕ) (y : Y) → slice_get ys j ≡ Some y → slice_get (map h ys) j ≡ Some (h y)
    mapped h [] j y is = cc
    mapped h (z ∷ zs) zero y is = ap (λ v. Some (h v)) (some_eq z y is)
    mapped h (z ∷ zs) (suc j) y is = mapped h zs j y is
after-second f h (x ∷ xs) ys j y is = (let e : suc (length xs) + j ≡ suc (length xs + j) = omega arith in ap (slice_get (f x ∷ (map f xs ++ map h ys))) e ∙ after-second f h xs ys j y is)

module _ (g : Parts) (c : Compression) (d : Patterned) (comp : IsCompression g c) (made : ArePatterns c g.goal g.depth d) (edges : List Edge) (are : AreEdges g c d edges) where
  -- a source whose kind is listed at a state gives its type
  offered-gives : (i n : ℕ) (s : State) (source : Source) → slice_get d.states i ≡ Some s → IsOffered c d i n → slice_get (sources g) n ≡ Some source → source.result ≡ s.goal
  offered-gives i n s source is o at =
      let low = slice_get_within d.states i s is in
      let long = made.found.as_many in
      let list : slice_get d.lists i ≡ Some (get_or d.lists i []) = slice_get-get_or d.lists i [] (omega (arith, low, long)) in
      let r = (made.found.each i s (get_or d.lists i []) is list).only o.kind o.listed in
      let k = comp.of_sources.kind_of_each n o.kind source at o.is in
      let same : r.0 ≡ k.0 = some_eq r.0 k.0 (sym r.1 ∙ k.1) in
      sym k.2.gives ∙ ap (λ (x : Succinct). x.result) (sym same) ∙ r.2

  -- what an edge of a state is
  pub edge-case : (i m : ℕ) (s : State) (e : Edge) → slice_get d.states i ≡ Some s → slice_get edges m ≡ Some e → e.state ≡ i → EdgeCase g c d i s e
  edge-case i m s e is at here = elim (are.sound m e at) [
    | inl b ↦ inl (record { source = b.of_variables; declared = ap (declared_in g) b.of_variables; lower = ap (λ o. lower_in g o e.tails) b.of_variables })
    | inr q ↦ inr (go q (subst (λ j. IsOffered c d j q.number) here q.offered) (subst (λ j. AreTails c d j q.source.args e.tails) here q.tails) (split-get of_decl of_pair g.decls g.pairs q.number q.source q.is))
  ]
    where
      go : (q : IsSourceEdge g c d e) → IsOffered c d i q.number → AreTails c d i q.source.args e.tails → First of_decl g.decls q.number q.source ⊎ Second {X = Decl} of_pair g.decls g.pairs q.number q.source → AtDecl g c d i s e ⊎ AtPair g c d i s e
      go q o tails (inl r) =
          let low = slice_get_within g.decls q.number r.member r.is in
          let gives = offered-gives i q.number s q.source is o q.is in
          let cost : slice_get (source_costs g) q.number ≡ Some (decl_cost g r.member) = at-first (decl_cost g) g.decls (map (pair_cost g) g.pairs) q.number r.member r.is in
          let test = lt-ltb q.number (length g.decls) low in
          inl (record {
            number = q.number;
            decl = r.member;
            source = q.numbered;
            is = r.is;
            gives = ap (λ (x : Source). x.result) r.to ∙ gives;
            weighs = some_eq e.weight (decl_cost g r.member) (sym q.weight ∙ cost);
            tails = subst (λ (x : Source). AreTails c d i x.args e.tails) (sym r.to) tails;
            declared = ap (declared_in g) q.numbered ∙ ap (λ b. cond b (Some q.number) None) test;
            lower = ap (λ x. lower_in g x e.tails) q.numbered ∙ ap (λ b. cond b None (first_of e.tails)) test;
          })
      go q o tails (inr r) =
          let gives = offered-gives i q.number s q.source is o q.is in
          let high : length g.decls ≤ q.number = (let n = r.numbered in omega (arith, n)) in
          let test = le-ltb q.number (length g.decls) high in
          let pair : AreTails c d i (Plain r.member.0 ∷ []) e.tails = subst (λ (x : Source). AreTails c d i x.args e.tails) (sym r.to) tails in
          let one = single e.tails pair.as_many in
          let to : r.member.1 ≡ s.goal = ap (λ (x : Source). x.result) r.to ∙ gives in
          inr (record {
            place = r.place;
            low = r.member.0;
            below = one.0;
            source = q.numbered ∙ ap (λ n. Some n) r.numbered;
            is = r.is ∙ ap (λ b. Some (r.member.0, b)) to;
            tail = pair.each 0 (Plain r.member.0) one.0 refl (ap (λ l. slice_get l 0) one.1);
            declared = ap (declared_in g) q.numbered ∙ ap (λ b. cond b (Some q.number) None) test;
            lower = ap (λ x. lower_in g x e.tails) q.numbered ∙ ap (λ b. cond b None (first_of e.tails)) test ∙ ap first_of one.1;
          })
        where
          single : (ts : List ℕ) → length ts ≡ 1 → (b : ℕ) × (ts ≡ b ∷ [])
          single [] h = absurd (omega (arith, h))
          single (b ∷ []) h = (b, refl)
          single (b ∷ x ∷ ts) h = absurd (omega (arith, h))

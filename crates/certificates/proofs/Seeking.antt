-- Where the needs of a head are sought from a state, below whose goal its type is.
use Rattle.std.proofs.Common.{◌≡◌, ◌⊎◌, inl, inr, ℕ, true, ◌==◌, List, [], ◌∷◌, map, get_or, slice_get, Option, Some, None, refl, sym, ap, subst, ◌∙◌, arith}
use Rattle.std.proofs.lemmas.Bool.{false≢true, or_left, eq-eqb}
use Rattle.std.proofs.lemmas.Option.{slice_get_within, slice_get-get_or}
use Rattle.terms.specs.Typing.{is_below, is_pair}
use Rattle.terms.specs.declared.parts.Arg.TheVariants.{Plain}
use Rattle.terms.specs.declared.parts.Decl.{Decl}
use Rattle.terms.specs.declared.parts.Parts.{Parts}
use Rattle.succinct.specs.Compression.{Compression, IsCompression, Source, sources, of_decl, of_pair, need_of, AreNeedsOf}
use Rattle.succinct.specs.Sets.{has}
use Rattle.succinct.specs.declared.need.Need.{Need}
use Rattle.patterns.specs.declared.state.State.{State}
use Rattle.patterns.specs.declared.wanted.Wanted.{Wanted}
use Rattle.patterns.specs.Patterned.{Patterned, ArePatterns, AreSought, state_sought, sought_from}
use Rattle.patterns.specs.States.{Space, left_at, set_sought, place_in, place_sought, state_place}
use Rattle.patterns.proofs.Meaning.{get-pair, plain-sought}
use Rattle.patterns.proofs.Mets.{state_place-get}
use Rattle.edges.proofs.Offered.{IsNamed, named-by}
use Rattle.edges.proofs.Options.{some_eq}
use Rattle.least_weights.proofs.Joins.{at-first, at-second}
use Rattle.least_weights.proofs.Lows.{below-pair}
use Rattle.certificates.proofs.Filling.{AreWantedAt}

-- what is sought from a state goes by its set alone
by-set : (p : Space) (states : List State) (s t : State) → s.set ≡ t.set → (o : Option Wanted) → place_sought p states s o ≡ place_sought p states t o
by-set p states s t e None = refl
by-set p states s t e (Some w) = ap (λ x. place_in states w.goal (set_sought p x w)) e

-- the one need of a pair
one-need : (needs : List Need) (a : ℕ) (ns : List ℕ) → AreNeedsOf needs (Plain a ∷ []) ns → (m : ℕ) × (slice_get needs m ≡ Some (need_of (Plain a))) × (has m ns ≡ true)
one-need needs a [] named = cc
one-need needs a (m ∷ ns) named = (let first : slice_get needs m ≡ Some (need_of (Plain a)) = cc in (m, first, or_left (m == m) (has m ns) (eq-eqb m m refl)))

-- a state over the same set
record Beside (d : Patterned) (set a : ℕ) : Type 0 where
  number : ℕ
  is : slice_get d.states number ≡ Some (record { set = set; goal = a })

module _ (g : Parts) (c : Compression) (comp : IsCompression g c) (d : Patterned) {goal depth : ℕ} (made : ArePatterns c goal depth d) (sought : AreSought c d) where
  named-at : (n : ℕ) (source : Source) → slice_get (sources g) n ≡ Some source → IsNamed g c n (get_or c.kind_numbers n 0)
  named-at n source at =
      let low = slice_get_within (sources g) n source at in
      let long = comp.of_sources.numbered in
      named-by g c comp n (get_or c.kind_numbers n 0) (slice_get-get_or c.kind_numbers n 0 (omega (arith, low, long)))

  needs-at : (n : ℕ) (source : Source) → slice_get (sources g) n ≡ Some source → AreNeedsOf c.needs source.args (get_or c.wanted n [])
  needs-at n source at =
      let q : IsNamed g c n (get_or c.kind_numbers n 0) = named-at n source at in
      let same : q.source ≡ source = some_eq q.source source (sym q.is ∙ at) in
      q.named ∙ ap (λ (s : Source). map (λ a. Some (need_of a)) s.args) same

  -- from a state whose goal is just what the source gives
  direct : (i : ℕ) (s : State) → slice_get d.states i ≡ Some s → (n : ℕ) (source : Source) → slice_get (sources g) n ≡ Some source → source.result ≡ s.goal → AreWantedAt c d i (left_at d.space s.set) (get_or c.wanted n [])
  direct i s is n source at gives m need h need_is room =
      let q : IsNamed g c n (get_or c.kind_numbers n 0) = named-at n source at in
      let same : q.source ≡ source = some_eq q.source source (sym q.is ∙ at) in
      let r = (sought i m s need is need_is).there (get_or c.kind_numbers n 0) q.kind q.kind_is (q.gives ∙ ap (λ (x : Source). x.result) same ∙ gives) (q.members m h) room in
      (r.0, r.1)

  -- the state of a pair's lower type
  beside : (i : ℕ) (s : State) → slice_get d.states i ≡ Some s → (a : ℕ) → is_pair g.pairs a s.goal ≡ true → Beside d s.set a
  beside i s is a pair =
      let j = get-pair g.pairs a s.goal pair in
      let at = at-second of_decl of_decl of_pair of_pair g.decls g.pairs j.0 (a, s.goal) j.1 in
      let m = one-need c.needs a (get_or c.wanted at.0 []) (needs-at at.0 (of_pair (a, s.goal)) at.1) in
      let found = direct i s is at.0 (of_pair (a, s.goal)) at.1 refl m.0 (need_of (Plain a)) m.2 m.1 (λ l. absurd (false≢true l)) in
      let w = made.wanted m.0 (need_of (Plain a)) m.1 in
      let sought_is : state_sought d i m.0 ≡ state_place d.states (record { set = s.set; goal = w.0.goal }) =
      ap (λ o. sought_from d o m.0) is ∙ ap (place_sought d.space d.states s) w.1 ∙ ap (place_in d.states w.0.goal) (plain-sought d.space s.set w.0 w.2.lambda) in
      record {
        number = found.0;
        is = subst (λ x. slice_get d.states found.0 ≡ Some (record { set = s.set; goal = x })) w.2.goal (state_place-get d.states (record { set = s.set; goal = w.0.goal }) found.0 (sym sought_is ∙ found.1));
      }

  -- the needs of a declaration, and where they are sought
  pub head-needs : (n : ℕ) (decl : Decl) → slice_get g.decls n ≡ Some decl → AreNeedsOf c.needs decl.args (get_or c.wanted n [])
  head-needs n decl at = needs-at n (of_decl decl) (at-first of_decl g.decls (map of_pair g.pairs) n decl at)

  pub head-wanted : (i : ℕ) (s : State) → slice_get d.states i ≡ Some s → (n : ℕ) (decl : Decl) → slice_get g.decls n ≡ Some decl → is_below g decl.result s.goal ≡ true → AreWantedAt c d i (left_at d.space s.set) (get_or c.wanted n [])
  head-wanted i s is n decl at below = go (below-pair g decl.result s.goal below)
    where
      in_sources : slice_get (sources g) n ≡ Some (of_decl decl)
      in_sources = at-first of_decl g.decls (map of_pair g.pairs) n decl at

      go : (decl.result ≡ s.goal) ⊎ (is_pair g.pairs decl.result s.goal ≡ true) → AreWantedAt c d i (left_at d.space s.set) (get_or c.wanted n [])
      go (inl same) = direct i s is n (of_decl decl) in_sources same
      go (inr pair) = λ m need h need_is room. (
          let b : Beside d s.set decl.result = beside i s is decl.result pair in
          let r = direct b.number (record { set = s.set; goal = decl.result }) b.is n (of_decl decl) in_sources refl m need h need_is room in
          (r.0, ap (λ o. sought_from d o m) is ∙ by-set d.space d.states s (record { set = s.set; goal = decl.result }) refl (slice_get d.space.wanted m) ∙ sym (ap (λ o. sought_from d o m) b.is) ∙ r.1))

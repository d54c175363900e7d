-- The sources that are offered at a state: those whose kinds are listed there, each of whose needs is sought in a
-- listed state.
use Rattle.std.proofs.Common.{◌≡◌, ◌⊎◌, inl, inr, ℕ, ◌+◌, ◌<◌, ◌≤◌, true, [], length, get_or, slice_get, Some, sym, ap, subst, ◌∙◌, arith}
use Rattle.std.proofs.lemmas.Bool.{false≢true}
use Rattle.std.proofs.lemmas.Option.{slice_get_within, slice_get-get_or, get_or_from_slice_get}
use Rattle.std.proofs.lemmas.List.{get_or_past}
use Rattle.std.proofs.lemmas.Bool.{cases_lt}
use Rattle.terms.specs.declared.parts.Parts.{Parts}
use Rattle.number_places.specs.Places.{places_of}
use Rattle.succinct.specs.Compression.{Compression, IsCompression, Source, sources, AreNeedsOf}
use Rattle.succinct.specs.Sets.{has, IsRising}
use Rattle.succinct.specs.declared.kind.Succinct.{Succinct}
use Rattle.succinct.proofs.Rising.{has-joined_with}
use Rattle.patterns.specs.Patterned.{Patterned, state_sought, sought_from, ArePatterns}
use Rattle.patterns.specs.Met.{AreMet}
use Rattle.patterns.specs.States.{types_at, set_sought, place_in, place_sought, state_place, AreWanted, kinds_of}
use Rattle.patterns.specs.declared.state.State.{State}
use Rattle.patterns.specs.declared.wanted.Wanted.{Wanted}
use Rattle.patterns.proofs.Meaning.{IsSought, needs-sought, types-rising}
use Rattle.patterns.proofs.Mets.{state_place-is, in_ends}
use Rattle.edges.specs.Edges.{IsOffered}
use Rattle.edges.specs.Made.{AreFound, sources_in, sources_at}
use Rattle.edges.proofs.Lists.{in-kind, of-kind}
use Rattle.edges.proofs.Options.{some_eq, there}
use Rattle.edges.proofs.Places.{in-places, from-places}
use Rattle.edges.proofs.Wanted.{same-numbers}

sought-some : (d : Patterned) (i n t : ℕ) (s : State) (w : Wanted) (set : ℕ) → slice_get d.states i ≡ Some s → slice_get d.space.wanted n ≡ Some w → set_sought d.space s.set w ≡ Some set → state_place d.states (record { set = set; goal = w.goal }) ≡ Some t → state_sought d i n ≡ Some t
sought-some d i n t s w set is wanted sought place =
    ap (λ o. sought_from d o n) is
    ∙ ap (λ o. place_sought d.space d.states s o) wanted
    ∙ ap (λ o. place_in d.states w.goal o) sought
    ∙ place

-- a source with its kind and its needs
pub record IsNamed (g : Parts) (c : Compression) (n k : ℕ) : Type 0 where
  pub source : Source
  pub is : slice_get (sources g) n ≡ Some source
  pub kind : Succinct
  pub kind_is : slice_get c.kinds k ≡ Some kind
  pub named : AreNeedsOf c.needs source.args (get_or c.wanted n [])
  pub gives : kind.result ≡ source.result
  pub members : (m : ℕ) → has m (get_or c.wanted n []) ≡ true → has m kind.needs ≡ true

module _ (g : Parts) (c : Compression) (comp : IsCompression g c) where
  pub named-by : (n k : ℕ) → slice_get c.kind_numbers n ≡ Some k → IsNamed g c n k
  named-by n k number =
      let low = slice_get_within c.kind_numbers n k number in
      let long = comp.of_sources.numbered in
      let many = comp.wanted_of_each.as_many in
      let s = there (sources g) n (omega (arith, low, long)) in
      let wanted : slice_get c.wanted n ≡ Some (get_or c.wanted n []) = slice_get-get_or c.wanted n [] (omega (arith, low, long, many)) in
      let r = comp.of_sources.kind_of_each n k s.0 s.1 number in
      let named : AreNeedsOf c.needs s.0.args (get_or c.wanted n []) = comp.wanted_of_each.each n s.0 (get_or c.wanted n []) s.1 wanted in
      let same : get_or c.wanted n [] ≡ r.2.numbers = same-numbers c.needs s.0.args (get_or c.wanted n []) r.2.numbers comp.distinct_needs named r.2.named in
      record {
        source = s.0;
        is = s.1;
        kind = r.0;
        kind_is = r.1;
        named = named;
        gives = r.2.gives;
        members = λ m h. ap (has m) r.2.wants ∙ has-joined_with m [] r.2.numbers ∙ ap (has m) (sym same) ∙ h;
      }

  -- a source of a kind has its number
  pub kind-of : (k n : ℕ) → has n (get_or c.selected k []) ≡ true → slice_get c.kind_numbers n ≡ Some k
  kind-of k n h = go (cases_lt k (length c.selected))
    where
      go : (k < length c.selected) ⊎ (length c.selected ≤ k) → slice_get c.kind_numbers n ≡ Some k
      go (inl low) =
          let long = comp.listed in
          let list : get_or c.selected k [] ≡ places_of k c.kind_numbers = get_or_from_slice_get c.selected k (places_of k c.kind_numbers) [] (comp.list_of_each k (omega (arith, low, long))) in
          let r = from-places k c.kind_numbers 0 n (ap (has n) (sym list) ∙ h) in
          let e = r.1 in
          let same : n ≡ r.0 = omega (arith, e) in
          ap (slice_get c.kind_numbers) same ∙ r.2
      go (inr past) = absurd (false≢true (ap (has n) (sym (get_or_past c.selected k [] past)) ∙ h))

  of-its-kind : (k n : ℕ) → slice_get c.kind_numbers n ≡ Some k → has n (get_or c.selected k []) ≡ true
  of-its-kind k n number =
      let r = named-by n k number in
      let in_range = slice_get_within c.kinds k r.kind r.kind_is in
      let list : get_or c.selected k [] ≡ places_of k c.kind_numbers = get_or_from_slice_get c.selected k (places_of k c.kind_numbers) [] (comp.list_of_each k in_range) in
      let zero_add : 0 + n ≡ n = omega arith in
      ap (has n) list ∙ ap (λ x. has x (places_of k c.kind_numbers)) (sym zero_add) ∙ in-places k c.kind_numbers 0 n number

  -- the sources at a state are those that are offered there
  pub offered-by : (d : Patterned) (i n : ℕ) → has n (sources_at c d i) ≡ true → IsOffered c d i n
  offered-by d i n h =
      let r = in-kind c.selected (get_or d.lists i []) n (sym (has-joined_with n [] (sources_in c.selected (get_or d.lists i []))) ∙ h) in
      record { kind = r.0; is = kind-of r.0 n r.2; listed = r.1 }

  pub by-offered : (d : Patterned) (i n : ℕ) → IsOffered c d i n → has n (sources_at c d i) ≡ true
  by-offered d i n o = has-joined_with n [] (sources_in c.selected (get_or d.lists i [])) ∙ of-kind c.selected (get_or d.lists i []) n o.kind o.listed (of-its-kind o.kind n o.is)

  module _ (d : Patterned) {goal depth : ℕ} (made : ArePatterns c goal depth d) where
    list-at : (i : ℕ) (s : State) → slice_get d.states i ≡ Some s → slice_get d.lists i ≡ Some (get_or d.lists i [])
    list-at i s is =
        let low = slice_get_within d.states i s is in
        let long = made.found.as_many in
        slice_get-get_or d.lists i [] (omega (arith, low, long))

    table : AreWanted c.needs d.space.wanted
    table = made.wanted

    rising : (set : ℕ) → IsRising (types_at d.space set)
    rising = types-rising depth c.needs d.space made.only_sets

    -- a listed kind ends in the goal of its state
    pub listed-gives : (i k : ℕ) (s : State) (kind : Succinct) → slice_get d.states i ≡ Some s → slice_get c.kinds k ≡ Some kind → has k (get_or d.lists i []) ≡ true → kind.result ≡ s.goal
    listed-gives i k s kind is found listed =
        let r = (made.found.each i s (get_or d.lists i []) is (list-at i s is)).only k listed in
        let same : r.0 ≡ kind = some_eq r.0 kind (sym r.1 ∙ found) in
        ap (λ (x : Succinct). x.result) (sym same) ∙ r.2

    pub listed-in_range : (i k : ℕ) (s : State) → slice_get d.states i ≡ Some s → has k (get_or d.lists i []) ≡ true → k < length c.kinds
    listed-in_range i k s is listed = (let r = (made.found.each i s (get_or d.lists i []) is (list-at i s is)).only k listed in slice_get_within c.kinds k r.0 r.1)

    -- each need of a listed kind is sought in a listed state
    need-listed : (i k : ℕ) (s : State) (kind : Succinct) → slice_get d.states i ≡ Some s → slice_get c.kinds k ≡ Some kind → has k (get_or d.lists i []) ≡ true → (m : ℕ) → has m kind.needs ≡ true → (t : ℕ) × (state_sought d i m ≡ Some t)
    need-listed i k s kind is found listed m has_m =
        let r = (made.found.each i s (get_or d.lists i []) is (list-at i s is)).only k listed in
        let same : r.0 ≡ kind = some_eq r.0 kind (sym r.1 ∙ found) in
        let met : AreMet d.space c.kinds s kind.needs = subst (λ (x : Succinct). AreMet d.space c.kinds s x.needs) same r.3 in
        let gives : kind.result ≡ s.goal = ap (λ (x : Succinct). x.result) (sym same) ∙ r.2 in
        let q : IsSought g d.space s m = needs-sought g c d.space comp table made.steps rising s kind.needs met m has_m in
        let zero_add : 0 + k ≡ k = omega arith in
        let ends : has k (kinds_of c.kinds s.goal) ≡ true = ap (λ x. has x (kinds_of c.kinds s.goal)) (sym zero_add) ∙ in_ends c.kinds s.goal k 0 kind found gives in
        let there = made.found.closed s (i, is) k kind ends found m has_m q.wanted q.to q.is q.sought in
        (there.0, sought-some d i m there.0 s q.wanted q.to is q.is q.sought (state_place-is d.states (record { set = q.to; goal = q.wanted.goal }) there.0 made.found.distinct_states there.1))

    -- so each need of an offered source
    pub offered-found : (i n : ℕ) (s : State) → slice_get d.states i ≡ Some s → IsOffered c d i n → AreFound d i (get_or c.wanted n [])
    offered-found i n s is o m h =
        let r = named-by n o.kind o.is in
        need-listed i o.kind s r.kind is r.kind_is o.listed m (r.members m h)

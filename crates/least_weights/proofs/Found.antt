-- The edges that the sources have whose wants are derivable at a state.
use Rattle.std.proofs.Common.{◌≡◌, ℕ, ◌≤◌, true, List, [], ◌∷◌, map, get_or, slice_get, Some, refl, arith}
use Rattle.std.proofs.lemmas.Option.{slice_get_within, slice_get-get_or}
use Rattle.terms.specs.Faults.{IsValid}
use Rattle.terms.specs.Typing.{is_pair}
use Rattle.terms.specs.Weights.{coercion_weight}
use Rattle.terms.specs.declared.parts.Arg.TheVariants.{Plain}
use Rattle.terms.specs.declared.parts.Decl.{Decl}
use Rattle.terms.specs.declared.parts.Parts.{Parts}
use Rattle.succinct.specs.Compression.{Compression, IsCompression, Source, sources, of_decl, of_pair}
use Rattle.succinct.specs.Sets.{has}
use Rattle.patterns.specs.Derivable.{IsDerivable, AreDerivable, none, value}
use Rattle.patterns.specs.Patterned.{Patterned, ArePatterns}
use Rattle.patterns.specs.States.{types_at, left_at}
use Rattle.patterns.specs.declared.state.State.{State}
use Rattle.patterns.proofs.Meaning.{agrees}
use Rattle.edges.specs.Edges.{Edge, AreEdges, decl_cost, pair_cost, source_costs}
use Rattle.edges.proofs.Standing.{Standing, standing}
use Rattle.patterns.proofs.Meaning.{get-pair}
use Rattle.least_weights.proofs.Joins.{at-first, at-second}

module _ (g : Parts) (c : Compression) (d : Patterned) (edges : List Edge) (valid : IsValid g) (comp : IsCompression g c) {goal : ℕ} (made : ArePatterns c goal g.depth d) (all : AreEdges g c d edges) where
  list-at : (i : ℕ) (s : State) → slice_get d.states i ≡ Some s → slice_get d.lists i ≡ Some (get_or d.lists i [])
  list-at i s is =
      let low = slice_get_within d.states i s is in
      let long = made.found.as_many in
      slice_get-get_or d.lists i [] (omega (arith, low, long))

  pub has-source : (i n weight : ℕ) (s : State) (source : Source) → slice_get d.states i ≡ Some s → slice_get (sources g) n ≡ Some source → slice_get (source_costs g) n ≡ Some weight → source.result ≡ s.goal → AreDerivable g (types_at d.space s.set) (left_at d.space s.set) source.args → weight ≤ g.limit → Standing c d i weight source.args edges
  has-source i n weight s source is at weighs gives wants light =
      let low = slice_get_within (sources g) n source at in
      let long = comp.of_sources.numbered in
      let k = get_or c.kind_numbers n 0 in
      let number : slice_get c.kind_numbers n ≡ Some k = slice_get-get_or c.kind_numbers n 0 (omega (arith, low, long)) in
      let listed : has k (get_or d.lists i []) ≡ true = (agrees g c goal g.depth d valid comp made i s (get_or d.lists i []) is (list-at i s is)).listed k n source at number gives wants in
      standing g c d edges all i n weight source (all.complete i n weight (record { kind = k; is = number; listed = listed }) weighs light) at weighs

  pub has-decl : (i n : ℕ) (s : State) (decl : Decl) → slice_get d.states i ≡ Some s → slice_get g.decls n ≡ Some decl → decl.result ≡ s.goal → AreDerivable g (types_at d.space s.set) (left_at d.space s.set) decl.args → decl_cost g decl ≤ g.limit → Standing c d i (decl_cost g decl) decl.args edges
  has-decl i n s decl is at gives wants light = has-source i n (decl_cost g decl) s (of_decl decl) is (at-first of_decl g.decls (map of_pair g.pairs) n decl at) (at-first (decl_cost g) g.decls (map (pair_cost g) g.pairs) n decl at) gives wants light

  pub has-pair : (i a : ℕ) (s : State) → slice_get d.states i ≡ Some s → is_pair g.pairs a s.goal ≡ true → IsDerivable g (types_at d.space s.set) (left_at d.space s.set) a → coercion_weight g ≤ g.limit → Standing c d i (coercion_weight g) (Plain a ∷ []) edges
  has-pair i a s is pair derives light =
      let j = get-pair g.pairs a s.goal pair in
      let n = at-second of_decl (decl_cost g) of_pair (pair_cost g) g.decls g.pairs j.0 (a, s.goal) j.1 in
      has-source i n.0 (coercion_weight g) s (of_pair (a, s.goal)) is n.1 n.2 refl (value (types_at d.space s.set) (left_at d.space s.set) a [] derives (none (types_at d.space s.set) (left_at d.space s.set))) light

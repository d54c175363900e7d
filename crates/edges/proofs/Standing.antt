-- What stands at an edge of a source, and at one of the variables of a state.
use Rattle.std.proofs.Common.{◌≡◌, inl, inr, ℕ, List, [], slice_get, Some, None, sym, ap, subst, ◌∙◌}
use Rattle.succinct.specs.Compression.{Compression, Source, sources}
use Rattle.patterns.specs.Patterned.{Patterned}
use Rattle.terms.specs.declared.parts.Arg.{Arg}
use Rattle.terms.specs.Weights.{variable_weight}
use Rattle.terms.specs.declared.parts.Parts.{Parts}
use Rattle.edges.specs.Edges.{Edge, AreTails, HasEdge, AreEdges, source_costs}
use Rattle.edges.proofs.Options.{some_eq, none_some}

-- an edge of these wants at state i, of this weight
pub record Standing (c : Compression) (d : Patterned) (i w : ℕ) (args : List Arg) (edges : List Edge) : Type 0 where
  pub number : ℕ
  pub edge : Edge
  pub is : slice_get edges number ≡ Some edge
  pub at_state : edge.state ≡ i
  pub weight : edge.weight ≡ w
  pub tails : AreTails c d i args edge.tails

-- an edge of the variables at state i
pub record StandingBound (g : Parts) (i : ℕ) (edges : List Edge) : Type 0 where
  pub number : ℕ
  pub edge : Edge
  pub is : slice_get edges number ≡ Some edge
  pub at_state : edge.state ≡ i
  pub weight : edge.weight ≡ variable_weight g
  pub tails : edge.tails ≡ []

module _ (g : Parts) (c : Compression) (d : Patterned) (edges : List Edge) (all : AreEdges g c d edges) where
  pub standing : (i n w : ℕ) (source : Source) → HasEdge i (Some n) edges → slice_get (sources g) n ≡ Some source → slice_get (source_costs g) n ≡ Some w → Standing c d i w source.args edges
  standing i n w source h is weighs = elim (all.sound h.number h.edge h.is) [
    | inl v ↦ absurd (none_some n (sym v.of_variables ∙ h.of_source))
    | inr s ↦ (
        let number : s.number ≡ n = some_eq s.number n (sym s.numbered ∙ h.of_source) in
        let same : s.source ≡ source = some_eq s.source source (sym s.is ∙ ap (slice_get (sources g)) number ∙ is) in
        record {
          number = h.number;
          edge = h.edge;
          is = h.is;
          at_state = h.at_state;
          weight = some_eq h.edge.weight w (sym s.weight ∙ ap (slice_get (source_costs g)) number ∙ weighs);
          tails = subst (λ (x : Source). AreTails c d i x.args h.edge.tails) same (subst (λ x. AreTails c d x s.source.args h.edge.tails) h.at_state s.tails);
        })
  ]

  pub standing-bound : (i : ℕ) → HasEdge i None edges → StandingBound g i edges
  standing-bound i h = elim (all.sound h.number h.edge h.is) [
    | inl v ↦ record { number = h.number; edge = h.edge; is = h.is; at_state = h.at_state; weight = v.weight; tails = v.tails }
    | inr s ↦ absurd (none_some s.number (sym h.of_source ∙ s.numbered))
  ]

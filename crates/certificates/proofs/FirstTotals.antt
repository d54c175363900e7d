-- The number of the goal's state is the total of the list's first term.
use Rattle.std.proofs.Common.{◌≡◌, ◌⊎◌, inl, inr, ℕ, ◌≤◌, ◌<◌, true, List, [], ◌∷◌, Option, refl, sym, ap, arith}
use Rattle.std.specs.Prelude.{nat_le}
use Rattle.std.proofs.lemmas.Bool.{and_parts, and_from, cases_lt, le-leb, leb-true}
use Rattle.terms.specs.Expr.{Expr}
use Rattle.terms.specs.Listing.{IsWhole}
use Rattle.terms.specs.Order.{ComesBefore}
use Rattle.terms.specs.Place.{fits_place, goal_place, total_of, IsInhabitant}
use Rattle.terms.specs.Typing.{joined}
use Rattle.terms.specs.declared.parts.Parts.{Parts}
use Rattle.terms.proofs.Fronts.{not_heavier}
use Rattle.terms.proofs.Standing.{stands-cons, stands-head, from_all}
use Rattle.succinct.specs.Compression.{Compression}
use Rattle.patterns.specs.Patterned.{Patterned, ArePatterns}
use Rattle.patterns.specs.declared.bound_set.BoundSet.{BoundSet}
use Rattle.patterns.specs.States.{no_set}
use Rattle.std.proofs.lemmas.Option.{get_or_from_slice_get}
use Rattle.least_weights.specs.LeastWeight.{AreLeastWeights}
use Rattle.least_weights.proofs.Lows.{fits-parts, fits-from, weigh-is}
use Rattle.least_weights.proofs.Reached.{Reached}
use Rattle.least_weights.proofs.Sought.{IsAt}
use Rattle.checker.specs.Floors.{top}
use Rattle.certificates.specs.Told.{number_of}
use Rattle.certificates.specs.Floors.{first_total}
use Rattle.certificates.proofs.Numbers.{number-low, number-most, number-reached}

-- a term of the goal that weighs no more
record Light (g : Parts) (w : ℕ) : Type 0 where
  term : Expr
  is : IsInhabitant g term
  light : total_of g term ≤ w

fit : (g : Parts) (e : Expr) → IsInhabitant g e → (fits_place g (goal_place g) e ≡ true) × (total_of g e ≤ g.limit)
fit g e is = (let parts = and_parts (fits_place g (goal_place g) e) (nat_le (total_of g e) g.limit) is in (parts.0, leb-true (total_of g e) g.limit parts.1))

-- no inhabitant weighs less than w, and where w is within the limit one weighs as much
first-by : (g : Parts) (w : ℕ) → ((e : Expr) → IsInhabitant g e → w ≤ total_of g e) → w ≤ top g → (w ≤ g.limit → Light g w) → (es : List Expr) → IsWhole g es → w ≡ first_total g es
first-by g w low most reached [] whole = elim (cases_lt g.limit w) [
  | inl above ↦ omega (arith, above, most)
  | inr inside ↦ (let t : Light g w = reached inside in let stands = whole.all t.term t.is in absurd (omega (arith, stands)))
]
first-by g w low most reached (e ∷ es) whole = go (cases_lt g.limit w)
  where
    here : IsInhabitant g e
    here = from_all (IsInhabitant g) (e ∷ es) whole.front.members e (stands-head e es)

    go : (g.limit < w) ⊎ (w ≤ g.limit) → w ≡ total_of g e
    go (inl above) = (let l = low e here in let u = (fit g e here).1 in absurd (omega (arith, l, u, above)))
    go (inr inside) = equal (reached inside)
      where
        equal : Light g w → w ≡ total_of g e
        equal t = elim (stands-cons t.term e es (whole.all t.term t.is)) [
          | inl same ↦ (let l = low e here in let light = t.light in let one = ap (total_of g) same in omega (arith, l, light, one))
          | inr later ↦ (
              let l = low e here in
              let light = t.light in
              let order = not_heavier g e t.term (from_all (ComesBefore g e) es whole.front.rising.0 t.term later) in
              omega (arith, l, light, order))
        ]

module _ (g : Parts) (c : Compression) (d : Patterned) (made : ArePatterns c g.goal g.depth d) (weights : List (Option ℕ)) (least : AreLeastWeights g d weights) where
  goal-at : IsAt d g.depth 0 [] g.depth g.goal
  unfolding joined
  goal-at =
      let set = get_or_from_slice_get d.space.bound 0 (record { types = []; left = g.depth }) no_set made.first_set in
      record {
        state = record { set = 0; goal = g.goal };
        is = made.found.first;
        types = sym (ap (λ (b : BoundSet). b.types) set);
        left_is = sym (ap (λ (b : BoundSet). b.left) set);
        goal = refl;
        rows = omega arith;
      }

  pub first-number : (es : List Expr) → IsWhole g es → number_of g weights 0 ≡ first_total g es
  first-number es whole = first-by g (number_of g weights 0) low (number-most g d weights least 0 [] g.depth g.goal goal-at) reached es whole
    where
      low : (e : Expr) → IsInhabitant g e → number_of g weights 0 ≤ total_of g e
      low e is =
          let l = number-low g d weights least 0 [] g.depth g.goal goal-at e (fits-parts g [] g.depth g.goal e (fit g e is).0) in
          let w = weigh-is g [] g.depth g.goal e in
          omega (arith, l, w)

      reached : number_of g weights 0 ≤ g.limit → Light g (number_of g weights 0)
      reached inside =
          let r : Reached g [] g.depth g.goal (number_of g weights 0) = number-reached g d weights least 0 [] g.depth g.goal goal-at inside in
          let light = r.light in
          let w = weigh-is g [] g.depth g.goal r.term in
          let total : total_of g r.term ≤ number_of g weights 0 = omega (arith, light, w) in
          record {
            term = r.term;
            is = and_from (fits_place g (goal_place g) r.term) (nat_le (total_of g r.term) g.limit) (fits-from g [] g.depth g.goal r.term r.fit) (le-leb (total_of g r.term) g.limit (omega (arith, total, inside)));
            light = total;
          }

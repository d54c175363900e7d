-- What the patterns and the least weights of an environment give the search.
use Rattle.std.proofs.Common.{◌≡◌, ℕ, zero, suc, ◌≤◌, true, List, [], ◌∷◌, ◌++◌, get_or, Option, refl, sym, ap, subst, ◌∙◌, arith}
use Rattle.std.proofs.lemmas.Bool.{false≢true}
use Rattle.std.proofs.lemmas.Option.{get_or_from_slice_get}
use Rattle.terms.specs.Count.{total}
use Rattle.terms.specs.Faults.{IsValid}
use Rattle.terms.specs.Place.{Place, HasRoom, goal_place}
use Rattle.terms.specs.Reading.{has_room, places}
use Rattle.terms.specs.declared.parts.Arg.{Arg}
use Rattle.terms.specs.declared.parts.Arg.TheVariants.{Plain, Fun}
use Rattle.terms.specs.declared.parts.Parts.{Parts}
use Rattle.terms.specs.Typing.{joined}
use Rattle.succinct.specs.Compression.{Compression, IsCompression}
use Rattle.succinct.specs.Sets.{types_bound}
use Rattle.patterns.specs.Derivable.{IsDerivable, AreDerivable, none, value, lambda}
use Rattle.patterns.specs.Patterned.{Patterned, ArePatterns}
use Rattle.patterns.specs.States.{types_at, left_at, no_set}
use Rattle.patterns.specs.declared.bound_set.BoundSet.{BoundSet}
use Rattle.patterns.proofs.Contexts.{set_of-more}
use Rattle.patterns.proofs.Derives.{term-derives}
use Rattle.least_weights.specs.LeastWeight.{AreLeastWeights}
use Rattle.partial_terms.specs.Leasts.{AreLeast}
use Rattle.reconstruction.specs.NumberedPlaces.{IsKept, least_at}
use Rattle.reconstruction.proofs.Weights.{least-low, least-met}
use Rattle.reconstruction.proofs.Contexts.{valid-rows}
use Rattle.reconstruction.proofs.Opens.{opens-kept}

kept-room : (g : Parts) (d : Patterned) → IsValid g → (p : Place) → IsKept g d p → HasRoom p
kept-room g d valid p k =
    let deep = valid-rows g valid in
    let rows = k.at.depth in
    let left : p.left ≡ left_at d.space k.at.state.set = ap (λ (q : Place). q.left) k.is in
    omega (arith, deep, rows, left)

-- the numbers of the states are least weights for the search
pub are_least : (g : Parts) (c : Compression) (d : Patterned) (weights : List (Option ℕ)) → IsValid g → IsCompression g c → ArePatterns c g.goal g.depth d → AreLeastWeights g d weights → AreLeast g g.limit (IsKept g d) (least_at g d weights)
are_least g c d weights valid comp made right = record {
  room = kept-room g d valid;
  opens = opens-kept g c d valid comp made;
  low = least-low g d weights right;
  met = least-met g d weights right;
}

pub no_types : types_bound [] ≡ []
unfolding joined
no_types = refl

-- set 0 has no types and all lambdas left
pub first-set : (c : Compression) (goal depth : ℕ) (d : Patterned) → ArePatterns c goal depth d → (types_at d.space 0 ≡ []) × (left_at d.space 0 ≡ depth)
first-set c goal depth d made =
    let e : get_or d.space.bound 0 no_set ≡ record { types = []; left = depth } = get_or_from_slice_get d.space.bound 0 (record { types = []; left = depth }) no_set made.first_set in
    (ap (λ (s : BoundSet). s.types) e, ap (λ (s : BoundSet). s.left) e)

-- the place of the goal is that of state 0
pub root_kept : (g : Parts) (c : Compression) (d : Patterned) → ArePatterns c g.goal g.depth d → IsKept g d (goal_place g)
root_kept g c d made =
    let first = first-set c g.goal g.depth d made in
    let left = first.1 in
    record {
      number = 0;
      at = record { state = record { set = 0; goal = g.goal }; is = made.found.first; types = no_types ∙ sym first.0; depth = omega (arith, left) };
      is = ap (λ n. record { ctx = []; left = n; wanted = g.goal }) (sym left);
    }

-- where the least weights of wants are within the limit together, the wants are derivable
pub wants_derive : (g : Parts) (d : Patterned) (weights : List (Option ℕ)) → AreLeastWeights g d weights → (ctx : List (List ℕ)) (left : ℕ) (args : List Arg) → has_room left args ≡ true → total (least_at g d weights) (places ctx left args) ≤ g.limit → AreDerivable g (types_bound ctx) left args
unfolding has_room places
wants_derive g d weights right ctx left [] room l = none (types_bound ctx) left
wants_derive g d weights right ctx left (Plain b ∷ more) room l =
    let p : Place = record { ctx = ctx; left = left; wanted = b } in
    let m = least-met g d weights right p (omega (arith, l)) in
    value (types_bound ctx) left b more (term-derives g ctx left b m.0 m.1) (wants_derive g d weights right ctx left more room (omega (arith, l)))
wants_derive g d weights right ctx zero (Fun ps r ∷ more) room l = absurd (false≢true room)
wants_derive g d weights right ctx (suc left) (Fun ps r ∷ more) room l =
    let inner = ctx ++ ps ∷ [] in
    let p : Place = record { ctx = inner; left = left; wanted = r } in
    let m = least-met g d weights right p (omega (arith, l)) in
    let P : List ℕ → Type 0 = λ set. IsDerivable g set left r in
    lambda (types_bound ctx) left ps r more (subst P (set_of-more ctx ps) (term-derives g inner left r m.0 m.1)) (wants_derive g d weights right ctx (suc left) more room (omega (arith, l)))

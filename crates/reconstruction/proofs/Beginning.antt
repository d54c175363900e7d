-- The first items of a search.
use Rattle.std.proofs.Common.{reverse, ◌≡◌, ℕ, ◌<◌, ◌≤◌, List, [], ◌∷◌, length, get_or, Some, refl, sym, ap, subst, ◌∙◌, arith}
use Rattle.std.proofs.lemmas.List.Elements.{All-nil, All-cons}
use Rattle.std.specs.List.Sorted.{IsPermutation}
use Rattle.terms.specs.Count.{total}
use Rattle.terms.specs.Place.{Place, goal_place}
use Rattle.terms.specs.Reading.{read}
use Rattle.terms.specs.declared.parts.Parts.{Parts}
use Rattle.partial_terms.specs.Fronts.{reading}
use Rattle.partial_terms.specs.Search.{IsSearch}
use Rattle.reconstruction.specs.NumberedPlaces.{no_lambdas, IsNumbered}
use Rattle.reconstruction.specs.Tabled.{place_by_numbers, places_of, least_of, AreNumbered, front_of, stack_of, IsHeld, seen}
use Rattle.reconstruction.specs.Levelled.{AreComplete, IsAt}
use Rattle.reconstruction.specs.declared.item.Item.{Item}
use Rattle.reconstruction.specs.declared.item.Arena.{Arena}
use Rattle.reconstruction.specs.declared.numbered_place.NumberedPlace.{NumberedPlace}
use Rattle.reconstruction.specs.declared.tables.Tables.{Tables}
use Rattle.reconstruction.proofs.Making.{moved_at}
use Rattle.partial_terms.proofs.Starts.{first_search}

abbrev pub first_place_of : NumberedPlace
first_place_of = record { lambdas = no_lambdas; state = 0 }

reading-none : (g : Parts) (root : Place) → reading g root [] ≡ Some (record { weight = 0; open_places = root ∷ [] })
unfolding reading read
reading-none g root = refl

-- the empty front
pub begun_one : (t : Tables) (a : Arena) (key : ℕ) (i : Item) (old new : List (ℕ × Item)) → AreComplete t → key ≡ least_of t (place_by_numbers t first_place_of) → key ≤ t.env.limit → a.fronts ≡ [] ∷ [] → i.front ≡ 0 → i.stack < length a.stacks → get_or a.stacks i.stack [] ≡ first_place_of ∷ []
    → old ≡ [] → IsPermutation ((key, i) ∷ old) new → IsAt t a 0 new []
begun_one t a key i old new ready is within fronts zero stack_in stack empty perm =
    let root = goal_place t.env in
    let same : key ≡ least_of t root = is ∙ ap (least_of t) ready.start_is in
    let none : front_of a i.front ≡ [] = ap (λ n. front_of a n) zero ∙ ap (λ (l : List (List ℕ)). reverse (get_or l 0 [])) fronts in
    let places : places_of t (stack_of a i.stack) ≡ root ∷ [] = ap (places_of t) stack ∙ ap (λ p. p ∷ []) ready.start_is in
    let long : length a.fronts ≡ 1 = ap (λ (l : List (List ℕ)). length l) fronts in
    let held : IsHeld t a key i = record {
      front_in = omega (arith, zero, long);
      stack_in = stack_in;
      numbered = subst (AreNumbered t) (sym stack) (All-cons (IsNumbered t.env t.patterns) first_place_of [] ready.start (All-nil (IsNumbered t.env t.patterns)));
      weight = 0;
      is = ap (reading t.env root) none ∙ reading-none t.env root ∙ ap (λ o. Some (record { weight = 0; open_places = o })) (sym places);
      keyed = omega (arith, same, ap (total (least_of t)) places);
      within = within;
    } in
    let first : IsSearch t.env t.env.limit (least_of t) root 0 ((least_of t root, []) ∷ []) [] = first_search t.env t.env.limit (least_of t) root (omega (arith, same, within)) in
    let shown : (least_of t root, []) ∷ [] ≡ seen a ((key, i) ∷ []) = ap (λ k. (k, []) ∷ []) (sym same) ∙ ap (λ f. (key, f) ∷ []) (sym none) in
    let one : IsAt t a 0 ((key, i) ∷ []) [] = record {
      all = All-cons (λ (q : ℕ × Item). IsHeld t a q.0 q.1) (key, i) [] held (All-nil (λ (q : ℕ × Item). IsHeld t a q.0 q.1));
      inside = All-nil (λ x. x < length a.fronts);
      search = subst (λ q. IsSearch t.env t.env.limit (least_of t) root 0 q []) shown first;
    } in
    moved_at t a 0 ((key, i) ∷ []) new [] one (subst (λ (l : List (ℕ × Item)). IsPermutation ((key, i) ∷ l) new) empty perm)

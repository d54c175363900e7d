-- Facts for one step of the search.
use Rattle.std.proofs.Common.{◌≡◌, ℕ, List, [], ◌∷◌, ◌++◌, get_or, Option, None, sym, ap, subst, ◌∙◌, append_assoc}
use Rattle.std.specs.List.Sorted.{IsPermutation}
use Rattle.std.proofs.lemmas.List.Sorted.{IsPermutation-trans, IsPermutation-append_right}
use Rattle.least_weights.specs.LeastWeight.{place_at}
use Rattle.reconstruction.specs.NumberedPlaces.{IsNumbered, rows_at, at_state, number}
use Rattle.std.proofs.lemmas.List.Elements.{All-head}
use Rattle.reconstruction.specs.Tabled.{place_by_numbers, least_of, AreNumbered, stack_of, IsHeld, AreHeld}
use Rattle.reconstruction.specs.Levelled.{AreComplete}
use Rattle.reconstruction.specs.declared.item.Arena.{Arena}
use Rattle.reconstruction.specs.declared.item.Item.{Item}
use Rattle.reconstruction.specs.declared.numbered_place.NumberedPlace.{NumberedPlace}
use Rattle.reconstruction.specs.declared.tables.Tables.{Tables}
use Rattle.reconstruction.proofs.Weights.{least-is}

-- the weight of a numbered place's state is the least weight at its place
pub place-least : (t : Tables) → AreComplete t → (p : NumberedPlace) → IsNumbered t.env t.patterns p → (o : Option ℕ) → o ≡ get_or t.least p.state None → number t.env.limit o ≡ least_of t (place_by_numbers t p)
place-least t ready p place o is =
    let rows = rows_at t.env p.lambdas in
    let at : place_by_numbers t p ≡ place_at t.patterns place.state rows = ap (λ s. at_state t.patterns s rows) place.is in
    ap (number t.env.limit) is
    ∙ sym (least-is t.env t.patterns t.least ready.weights p.state place.state rows place.is place.types place.depth)
    ∙ ap (least_of t) (sym at)

-- one more item of those aside is in the queue
pub one_moved : {X : Type 0} (start old ys q more : List X) (x : X) → IsPermutation start (old ++ q) → old ≡ ys ++ x ∷ [] → IsPermutation (x ∷ q) more → IsPermutation start (ys ++ more)
one_moved {X} start old ys q more x h is p =
    let P : List X → Type 0 = λ l. IsPermutation start l in
    IsPermutation-trans start (ys ++ (x ∷ q)) (ys ++ more) (subst P (ap (λ l. l ++ q) is ∙ append_assoc ys (x ∷ []) q) h) (IsPermutation-append_right ys (x ∷ q) more p)

pub head_held : (t : Tables) (a : Arena) (k : ℕ) (i : Item) (items : List (ℕ × Item)) → AreHeld t a ((k, i) ∷ items) → IsHeld t a k i
head_held t a k i items all = All-head (λ (x : ℕ × Item). IsHeld t a x.0 x.1) (k, i) items all

-- the first open place of an item is a numbered place
pub first_place : (t : Tables) (a : Arena) (k : ℕ) (p : NumberedPlace) (r : ℕ) (i : Item) → IsHeld t a k i → stack_of a i.stack ≡ p ∷ stack_of a r → IsNumbered t.env t.patterns p
first_place t a k p r i h first = All-head (IsNumbered t.env t.patterns) p (stack_of a r) (subst (AreNumbered t) first h.numbered)

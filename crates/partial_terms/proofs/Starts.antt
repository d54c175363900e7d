-- The search at its start, and over weights that have no terms.
use Rattle.std.proofs.Common.{◌≡◌, inl, inr, ℕ, ◌<◌, ◌≤◌, true, List, [], ◌∷◌, All, refl, ap, arith}
use Rattle.std.proofs.lemmas.Bool.{cases_lt, le-leb, lt-leb}
use Rattle.std.proofs.lemmas.List.Elements.{All-nil, All-cons, All-weaker}
use Rattle.terms.specs.Expr.{Expr}
use Rattle.terms.specs.declared.parts.Parts.{Parts}
use Rattle.terms.specs.Count.{once_if}
use Rattle.terms.specs.Place.{Place, fits_place, weigh}
use Rattle.terms.specs.Reading.{read}
use Rattle.partial_terms.specs.Leasts.{AreLeast}
use Rattle.partial_terms.specs.Fronts.{reading, IsItem}
use Rattle.partial_terms.specs.Search.{Queue, times_completed, fronts, IsSearch}
use Rattle.terms.proofs.Forests.{whole}
use Rattle.partial_terms.proofs.Levels.{none_held}

-- the whole search: the empty front alone
pub first_search : (g : Parts) (limit : ℕ) (least : Place → ℕ) (root : Place) → least root ≤ limit → IsSearch g limit least root 0 ((least root, []) ∷ []) []
unfolding reading read
first_search g limit least root l = record {
  items = All-cons (λ (q : ℕ × List ℕ). IsItem g limit least root q.0 q.1) (least root, []) [] (record { at = record { weight = 0; open_places = root ∷ [] }; is = refl; keyed = omega arith; within = l }) (All-nil (λ (q : ℕ × List ℕ). IsItem g limit least root q.0 q.1));
  ended = All-nil (λ (f : List ℕ). reading g root f ≡ whole 0);
  divided = λ e fit m. omega (arith, ap once_if (le-leb 0 (weigh g root e) (omega arith)));
}

-- below the least key there is no term
pub skipped : (g : Parts) (limit : ℕ) (Kept : Place → Type 0) (least : Place → ℕ) (root : Place) → AreLeast g limit Kept least → Kept root → (from k : ℕ) (queue : Queue) → IsSearch g limit least root from queue [] → All (λ q. k ≤ q.0) queue
    → (e : Expr) → fits_place g root e ≡ true → weigh g root e ≤ limit → from ≤ weigh g root e → weigh g root e < k → ⊥
skipped g limit Kept least root s kept from k queue search above e fit l low high =
    let none : times_completed e (fronts queue) ≡ 0 = none_held g limit Kept least root s kept queue (weigh g root e) search.items (All-weaker (λ (q : ℕ × List ℕ). k ≤ q.0) (λ (q : ℕ × List ℕ). weigh g root e < q.0) (λ q m. omega arith) queue above) e fit l (omega arith) in
    absurd (omega (arith, none, search.divided e fit l, ap once_if (le-leb from (weigh g root e) low)))

-- so the search may go on from there
pub skip_search : (g : Parts) (limit : ℕ) (Kept : Place → Type 0) (least : Place → ℕ) (root : Place) → AreLeast g limit Kept least → Kept root → (from k : ℕ) (queue : Queue) → from ≤ k → IsSearch g limit least root from queue [] → All (λ q. k ≤ q.0) queue → IsSearch g limit least root k queue []
skip_search g limit Kept least root s kept from k queue up search above = record {
  items = search.items;
  ended = All-nil (λ (f : List ℕ). reading g root f ≡ whole k);
  divided = λ e fit l. elim (cases_lt (weigh g root e) k) [
    | inl low ↦
        let none : times_completed e (fronts queue) ≡ 0 = none_held g limit Kept least root s kept queue (weigh g root e) search.items (All-weaker (λ (q : ℕ × List ℕ). k ≤ q.0) (λ (q : ℕ × List ℕ). weigh g root e < q.0) (λ q m. omega arith) queue above) e fit l (omega arith) in
        omega (arith, none, ap once_if (lt-leb k (weigh g root e) low))
    | inr high ↦ omega (arith, search.divided e fit l, ap once_if (le-leb from (weigh g root e) (omega arith)), ap once_if (le-leb k (weigh g root e) high))
  ];
}

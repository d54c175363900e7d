-- A step that only adds to the journal keeps the board's rule.
use Rattle.std.proofs.Common.{◌≡◌, ◌∙◌, ℕ, ◌≢◌, List, [], ◌∷◌, ◌++◌, length, fold, set, refl, ap, sym, subst, ⊎_elim}
use mathlib.Core.Option.{some, some-ne-none}
use mathlib.Core.List.{IsPrefix}
use Rattle.decl_index.specs.declared.change.Change.{Change}
use lib.ListN.{get_elem?}
use Rattle.crossbeam_utils.specs.Register.{Admits, TurnsAt, Turns}
use Rattle.atomic_table.proofs.Lists.{at_set, at_snoc}
use Rattle.version_board.specs.declared.view.View.{View}
use Rattle.version_board.specs.Views.{AllBegin, HasRead, HasLooked, HasPublished, newcomer}
use Rattle.version_board.proofs.Prefixes.{prefix_self, prefix_trans}

module _ (first : List Change) where
  set_begin : (y : List Change) (views : List View) (seat : ℕ) (w : View) → AllBegin first y views → IsPrefix w.seen y → AllBegin first y (set views seat w)
  set_begin y views seat w h low = (
    h.0,
    λ j u e. ⊎_elim
        (λ (t : (j ≡ seat) × (w ≡ u)). subst (λ (z : View). IsPrefix z.seen y) t.1 low)
        (λ (t : (j ≢ seat) × (get_elem? views j ≡ some u)). h.1 j u t.1)
        (at_set views seat j w u e),
  )

  raised : (x y : List Change) (views : List View) → IsPrefix x y → AllBegin first x views → AllBegin first y views
  raised x y views up h = (prefix_trans first x y h.0 up, λ j u e. prefix_trans u.seen x y (h.1 j u e) up)

  pub read_keeps : (seat : ℕ) (v : View) → Turns (AllBegin first) seat v (λ x. x) HasRead
  read_keeps seat v x views h at =
      let w : View = record { seen = x; reads = v.reads ++ length x ∷ [] } in
      (w, set_begin x views seat w h (prefix_self x), (h.1 seat v at, refl, refl))

  pub look_keeps : (seat : ℕ) (v : View) → Turns (AllBegin first) seat v (λ x. x) HasLooked
  look_keeps seat v x views h at =
      let w : View = record { seen = x; reads = v.reads } in
      (w, set_begin x views seat w h (prefix_self x), (h.1 seat v at, refl, refl))

  pub publish_keeps : (seat : ℕ) (v : View) (x y : List Change) → IsPrefix x y → TurnsAt (AllBegin first) seat v x y HasPublished
  publish_keeps seat v x y up views h at =
      let w : View = record { seen = y; reads = v.reads } in
      (w, set_begin y views seat w (raised x y views up h) (prefix_self y), (refl, refl))

  pub admits : Admits (AllBegin first) (newcomer first)
  admits x views h = (
    h.0,
    λ seat v at. ⊎_elim (h.1 seat v) (λ (e : newcomer first ≡ v). subst (λ (z : View). IsPrefix z.seen x) e h.0) (at_snoc views (newcomer first) v seat at),
  )

  pub starts : (x : List Change) → x ≡ first → AllBegin first x (newcomer first ∷ [])
  starts x is =
      let here : IsPrefix first x = subst (λ (z : List Change). IsPrefix first z) (sym is) (prefix_self first) in
      let none : AllBegin first x [] = (here, λ seat v at. absurd (some-ne-none v (sym at))) in
      admits x [] none

-- What is shown once more begins with itself.
pub shows_again : (shown before again : List Change) (now none : List (List Change)) → shown ≡ before → again ≡ before → none ≡ [] → now ≡ none ++ again ∷ []
    → IsPrefix shown (fold (λ (_ : List Change) (next : List Change). next) shown now)
shows_again shown before again now none kept same empty pending =
    let one : now ≡ again ∷ [] = pending ∙ ap (λ ps. ps ++ again ∷ []) empty in
    let last : IsPrefix shown again = subst (λ (x : List Change). IsPrefix shown x) (kept ∙ sym same) (prefix_self shown) in
    subst (λ (ps : List (List Change)). IsPrefix shown (fold (λ (_ : List Change) (next : List Change). next) shown ps)) (sym one) last

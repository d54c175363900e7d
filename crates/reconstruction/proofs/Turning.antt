-- The start of a level, by the item that is held.
use Rattle.std.proofs.Common.{◌≡◌, ℕ, ◌+◌, ◌≤◌, true, List, [], ◌∷◌, Some, All, sym, subst, arith}
use Rattle.std.proofs.lemmas.List.Elements.{All-nil, All-cons}
use Rattle.std.specs.List.Sorted.{IsPermutation}
use Rattle.terms.specs.Expr.{Expr}
use Rattle.terms.specs.Listing.{level_of, Skipped}
use Rattle.reconstruction.specs.Tabled.{IsHeld}
use Rattle.reconstruction.specs.Levelled.{AreComplete, IsAt, IsLeastHeld}
use Rattle.reconstruction.specs.declared.item.Item.{Item}
use Rattle.reconstruction.specs.declared.item.Arena.{Arena}
use Rattle.reconstruction.specs.declared.tables.Tables.{Tables}
use Rattle.reconstruction.proofs.Making.{moved_at, key_from}
use Rattle.reconstruction.proofs.Next.{at_skipped, none_skipped, key_met}
use Rattle.reconstruction.proofs.Seeking.{head_held}

-- the next level is that of the held key: nothing lies below it, and it has a member
pub record Started (t : Tables) (a : Arena) (from k : ℕ) (items : List (ℕ × Item)) : Type 0 where
  pub at : IsAt t a k items []
  pub up : from ≤ k
  pub within : k ≤ t.env.limit
  pub skipped : Skipped t.env from k
  pub met : (e : Expr) × (level_of t.env k e ≡ true)

pub started : (t : Tables) (a : Arena) (from k : ℕ) (i : Item) (before items : List (ℕ × Item)) → AreComplete t → IsAt t a from before [] → IsPermutation before ((k, i) ∷ items) → IsLeastHeld (Some (k, i)) items → Started t a from k ((k, i) ∷ items)
started t a from k i before items ready h p least =
    let here : IsAt t a from ((k, i) ∷ items) [] = moved_at t a from before ((k, i) ∷ items) [] h p in
    let held : IsHeld t a k i = head_held t a k i items here.all in
    let up : from ≤ k = key_from t a from k i items [] ready here in
    let above : All (λ q. k ≤ q.0) ((k, i) ∷ items) = All-cons (λ (q : ℕ × Item). k ≤ q.0) (k, i) items (omega arith) least in
    let inside = held.within in
    record {
      at = at_skipped t a from k ((k, i) ∷ items) ready here up above;
      up = up;
      within = inside;
      skipped = none_skipped t a from k ((k, i) ∷ items) ready here above (omega (arith, inside));
      met = key_met t a from k i items [] ready here;
    }

-- where nothing is left there is no level more
pub ended : (t : Tables) (a : Arena) (from : ℕ) (before items : List (ℕ × Item)) → AreComplete t → IsAt t a from before [] → IsPermutation before items → items ≡ [] → Skipped t.env from (t.env.limit + 1)
ended t a from before items ready h p empty =
    let here : IsAt t a from items [] = moved_at t a from before items [] h p in
    let above : All (λ q. t.env.limit + 1 ≤ q.0) items = subst (λ (l : List (ℕ × Item)). All (λ q. t.env.limit + 1 ≤ q.0) l) (sym empty) (All-nil (λ (q : ℕ × Item). t.env.limit + 1 ≤ q.0)) in
    none_skipped t a from (t.env.limit + 1) items ready here above (omega arith)

-- The item that is held, and what is left when a level is whole.
use Rattle.std.proofs.Common.{◌≡◌, ℕ, ◌<◌, ◌≤◌, List, ◌∷◌, Option, Some, None, IfSome, IfNone, All, sym, subst, arith}
use Rattle.std.proofs.lemmas.List.Elements.{All-cons, All-weaker}
use Rattle.std.specs.List.Sorted.{IsPermutation}
use Rattle.std.proofs.lemmas.List.Sorted.{IsPermutation-refl}
use Rattle.reconstruction.specs.Levelled.{IsLeastHeld, with_held}
use Rattle.reconstruction.specs.declared.item.Item.{Item}

-- what is popped is held
pub popped_moved : (h r : Option (ℕ × Item)) (old new : List (ℕ × Item)) → h ≡ None → IfSome r (λ p. IsPermutation old (p ∷ new)) → IfNone r (new ≡ old) → IsPermutation (with_held h old) (with_held r new)
popped_moved h r old new none some same = subst (λ (x : Option (ℕ × Item)). IsPermutation (with_held x old) (with_held r new)) (sym none) (go r some same)
  where
    go : (r : Option (ℕ × Item)) → IfSome r (λ p. IsPermutation old (p ∷ new)) → IfNone r (new ≡ old) → IsPermutation old (with_held r new)
    go None s e = subst (λ (l : List (ℕ × Item)). IsPermutation old l) (sym e) (IsPermutation-refl old)
    go (Some p) s e = s

-- where the held key is above the level all that is left is
pub whole_some : (h : Option (ℕ × Item)) (items : List (ℕ × Item)) (from : ℕ) (p : ℕ × Item) → h ≡ Some p → from < p.0 → IsLeastHeld h items → All (λ q. from < q.0) (with_held h items)
whole_some h items from p is low least =
    let below : All (λ x. p.0 ≤ x.0) items = subst (λ (x : Option (ℕ × Item)). IsLeastHeld x items) is least in
    subst (λ (x : Option (ℕ × Item)). All (λ q. from < q.0) (with_held x items)) (sym is)
    (All-cons (λ (q : ℕ × Item). from < q.0) p items low (All-weaker (λ (q : ℕ × Item). p.0 ≤ q.0) (λ (q : ℕ × Item). from < q.0) (λ q m. omega (arith, m, low)) items below))

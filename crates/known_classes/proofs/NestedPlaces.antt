-- The known class that stands in another under a simple name.
use Rattle.std.proofs.Common.{◌≡◌, ◌∙◌, ap, sym, refl, arith, subst, ℕ, ◌+◌, ◌<◌, ◌≤◌, true, false, List, [], ◌∷◌, length, drop, slice_get, Option, Some, None, IfSome}
use Rattle.std.proofs.lemmas.List.{drop_all, drop_more}
use Rattle.std.proofs.lemmas.Option.{slice_get_within, get_or_from_slice_get}
use Rattle.known_classes.specs.declared.summary.ClassSummary.{ClassSummary}
use Rattle.known_classes.specs.Known.{lesser, IsPlaceOf}
use Rattle.known_classes.specs.Nested.{is_nested, nested_class, class_at, IsLesser}

nested-hit : (outer name : List ℕ) (c : ClassSummary) (cs : List ClassSummary) → is_nested outer name c.nesting ≡ true → nested_class outer name (c ∷ cs) ≡ Some (lesser c (nested_class outer name cs))
unfolding nested_class
nested-hit outer name c cs e = rw e refl

nested-on : (outer name : List ℕ) (c : ClassSummary) (cs : List ClassSummary) → is_nested outer name c.nesting ≡ false → nested_class outer name (c ∷ cs) ≡ nested_class outer name cs
unfolding nested_class
nested-on outer name c cs e = rw e refl

nested-none : (outer name : List ℕ) → nested_class outer name [] ≡ None
unfolding nested_class
nested-none outer name = refl

-- the answer for the classes from this place on
pub record IsBest (known : List ClassSummary) (outer name : List ℕ) (left : ℕ) (best : Option ℕ) : Type 0 where
  pub within : left ≤ length known
  pub place : IsPlaceOf known (nested_class outer name (drop left known)) best

pub best_first : (known : List ClassSummary) (outer name : List ℕ) (n : ℕ) → n ≡ length known → IsBest known outer name n None
best_first known outer name n e = record {
  within = omega arith;
  place = ap (nested_class outer name) (drop_all n known (omega arith)) ∙ nested-none outer name;
}

pub prefix : (known : List ClassSummary) (left k : ℕ) (c : ClassSummary) → k + 1 ≡ left → slice_get known k ≡ Some c → drop k known ≡ c ∷ drop left known
prefix known left k c e g =
    drop_more known k c (slice_get_within known k c g) ∙ (ap (λ (x : ClassSummary). x ∷ drop (k + 1) known) (get_or_from_slice_get known k c c g) ∙ ap (λ (n : ℕ). c ∷ drop n known) e)

class_of : (known : List ClassSummary) (x : Option ClassSummary) (best : Option ℕ) → IsPlaceOf known x best → x ≡ class_at known best
class_of known x None h = h
class_of known x (Some i) h = h.1

pub best_in : (known : List ClassSummary) (x : Option ClassSummary) (best : Option ℕ) → IsPlaceOf known x best → IfSome best (λ b. b < length known)
best_in known x None h = tt
best_in known x (Some i) h = h.0

pub best_past : (known : List ClassSummary) (outer name : List ℕ) (left k : ℕ) (c : ClassSummary) (best : Option ℕ) → k + 1 ≡ left → slice_get known k ≡ Some c → is_nested outer name c.nesting ≡ false → IsBest known outer name left best → IsBest known outer name k best
best_past known outer name left k c best e g n h =
    let same : nested_class outer name (drop left known) ≡ nested_class outer name (drop k known) = sym (ap (nested_class outer name) (prefix known left k c e g) ∙ nested-on outer name c (drop left known) n) in
    let P : Option ClassSummary → Type 0 = λ x. IsPlaceOf known x best in
    record { within = omega (arith, h.within); place = subst P same h.place }

pub best_hit : (known : List ClassSummary) (outer name : List ℕ) (left k : ℕ) (c : ClassSummary) (best : Option ℕ) (r : ℕ) → k + 1 ≡ left → slice_get known k ≡ Some c → is_nested outer name c.nesting ≡ true → r < length known → IsLesser known k best r → IsBest known outer name left best → IsBest known outer name k (Some r)
best_hit known outer name left k c best r e g n l s h =
    let same : nested_class outer name (drop k known) ≡ Some (lesser c (class_at known best)) = ap (nested_class outer name) (prefix known left k c e g) ∙ (nested-hit outer name c (drop left known) n ∙ ap (λ (x : Option ClassSummary). Some (lesser c x)) (class_of known (nested_class outer name (drop left known)) best h.place)) in
    record { within = omega (arith, h.within); place = (l, same ∙ sym (s c g)) }

pub best_end : (known : List ClassSummary) (outer name : List ℕ) (left : ℕ) (best : Option ℕ) → left ≤ 0 → IsBest known outer name left best → IsPlaceOf known (nested_class outer name known) best
best_end known outer name left best l h =
    let z : left ≡ 0 = omega arith in
    let P : ℕ → Type 0 = λ n. IsPlaceOf known (nested_class outer name (drop n known)) best in
    subst P z h.place

-- The class with a canonical name, of several the one of the least name.
use Rattle.std.proofs.Common.{◌≡◌, ◌∙◌, ap, sym, refl, arith, subst, ℕ, ◌+◌, ◌<◌, ◌≤◌, true, false, cond, List, [], ◌∷◌, length, drop, slice_get, bytes_eq, Option, Some, None}
use Rattle.std.proofs.lemmas.List.{drop_all, drop_more}
use Rattle.std.proofs.lemmas.Option.{slice_get_within, get_or_from_slice_get}
use Rattle.known_classes.specs.declared.summary.ClassSummary.{ClassSummary}
use Rattle.known_classes.specs.Known.{class_by_canonical, canonical, lesser, IsPlaceOf}
use Rattle.known_classes.specs.Nested.{class_at, IsLesser}

called-cons : (all : List ClassSummary) (c : ClassSummary) (cs : List ClassSummary) (name : List ℕ) → class_by_canonical all (c ∷ cs) name ≡ cond (bytes_eq name (canonical all c.name)) (Some (lesser c (class_by_canonical all cs name))) (class_by_canonical all cs name)
unfolding class_by_canonical
called-cons all c cs name = refl

called-none : (all : List ClassSummary) (name : List ℕ) → class_by_canonical all [] name ≡ None
unfolding class_by_canonical
called-none all name = refl

-- the answer for the classes from this place on
pub record IsBestCalled (known : List ClassSummary) (name : List ℕ) (left : ℕ) (best : Option ℕ) : Type 0 where
  pub within : left ≤ length known
  pub place : IsPlaceOf known (class_by_canonical known (drop left known) name) best

pub called_start : (known : List ClassSummary) (name : List ℕ) (n : ℕ) → n ≡ length known → IsBestCalled known name n None
called_start known name n e = record {
  within = omega arith;
  place = ap (λ (r : List ClassSummary). class_by_canonical known r name) (drop_all n known (omega arith)) ∙ called-none known name;
}

prefix : (known : List ClassSummary) (left k : ℕ) (c : ClassSummary) → k + 1 ≡ left → slice_get known k ≡ Some c → drop k known ≡ c ∷ drop left known
prefix known left k c e g =
    drop_more known k c (slice_get_within known k c g) ∙ (ap (λ (x : ClassSummary). x ∷ drop (k + 1) known) (get_or_from_slice_get known k c c g) ∙ ap (λ (n : ℕ). c ∷ drop n known) e)

class_of : (known : List ClassSummary) (x : Option ClassSummary) (best : Option ℕ) → IsPlaceOf known x best → x ≡ class_at known best
class_of known x None h = h
class_of known x (Some i) h = h.1

next : (known : List ClassSummary) (name : List ℕ) (left k : ℕ) (c : ClassSummary) → k + 1 ≡ left → slice_get known k ≡ Some c → class_by_canonical known (drop k known) name ≡ cond (bytes_eq name (canonical known c.name)) (Some (lesser c (class_by_canonical known (drop left known) name))) (class_by_canonical known (drop left known) name)
next known name left k c e g = ap (λ (r : List ClassSummary). class_by_canonical known r name) (prefix known left k c e g) ∙ called-cons known c (drop left known) name

pub called_past : (known : List ClassSummary) (name : List ℕ) (left k : ℕ) (c : ClassSummary) (best : Option ℕ) → k + 1 ≡ left → slice_get known k ≡ Some c → bytes_eq name (canonical known c.name) ≡ false → IsBestCalled known name left best → IsBestCalled known name k best
called_past known name left k c best e g n h =
    let same : class_by_canonical known (drop left known) name ≡ class_by_canonical known (drop k known) name = sym (next known name left k c e g ∙ ap (λ b. cond b (Some (lesser c (class_by_canonical known (drop left known) name))) (class_by_canonical known (drop left known) name)) n) in
    let P : Option ClassSummary → Type 0 = λ x. IsPlaceOf known x best in
    record { within = omega (arith, h.within); place = subst P same h.place }

pub called_best : (known : List ClassSummary) (name : List ℕ) (left k : ℕ) (c : ClassSummary) (best : Option ℕ) (r : ℕ) → k + 1 ≡ left → slice_get known k ≡ Some c → bytes_eq name (canonical known c.name) ≡ true → r < length known → IsLesser known k best r → IsBestCalled known name left best → IsBestCalled known name k (Some r)
called_best known name left k c best r e g n l s h =
    let same : class_by_canonical known (drop k known) name ≡ Some (lesser c (class_at known best)) = next known name left k c e g ∙ (ap (λ b. cond b (Some (lesser c (class_by_canonical known (drop left known) name))) (class_by_canonical known (drop left known) name)) n ∙ ap (λ (x : Option ClassSummary). Some (lesser c x)) (class_of known (class_by_canonical known (drop left known) name) best h.place)) in
    record { within = omega (arith, h.within); place = (l, same ∙ sym (s c g)) }

pub called_done : (known : List ClassSummary) (name : List ℕ) (left : ℕ) (best : Option ℕ) → left ≤ 0 → IsBestCalled known name left best → IsPlaceOf known (class_by_canonical known known name) best
called_done known name left best l h =
    let z : left ≡ 0 = omega arith in
    let P : ℕ → Type 0 = λ n. IsPlaceOf known (class_by_canonical known (drop n known) name) best in
    subst P z h.place

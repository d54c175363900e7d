-- One type or one class more of those that are drawn.
use Rattle.std.proofs.Common.{◌≡◌, ◌≤◌, ◌<◌, ◌^◌, ◌∙◌, ◌++◌, ℕ, zero, suc, [], ◌∷◌, refl, sym, ap, List, length, append_assoc, append-nil, arith}
use Rattle.std.specs.Prelude.{codes, decimal}
use Rattle.std.proofs.lemmas.List.{length-append}
use Rattle.std.proofs.lemmas.Fmt.{length-decimal-le}
use Rattle.class_shape.specs.declared.shapes.ClassShape.{ClassShape}
use Rattle.workload.specs.Samples.{drawn, picked, class_type, before_types, types_drawn, class_of, parent, before_classes, classes_drawn, text_before}

pub no_types : (left x : ℕ) → left ≡ zero → types_drawn left x ≡ ([], x)
unfolding types_drawn
no_types left x e = rw e refl

pub one_type : (left m x : ℕ) → left ≡ suc m → types_drawn left x ≡ before_types (class_type (picked (drawn x) 200)) (types_drawn m (drawn x))
unfolding types_drawn
one_type left m x e = rw e refl

pub no_classes : (left number x : ℕ) → left ≡ zero → classes_drawn left number x ≡ ([], x)
unfolding classes_drawn
no_classes left number x e = rw e refl

pub one_class : (left m number x : ℕ) → left ≡ suc m → classes_drawn left number x ≡ before_classes (class_of number (parent number x)) (classes_drawn m (suc number))
unfolding classes_drawn
one_class left m number x e = rw e refl

-- the text after one type more and the types that are left
pub type_added : (text after whole : List ℕ) (left m x y number : ℕ) → left ≡ suc m → y ≡ drawn x → number ≡ picked y 200 → after ≡ text ++ class_type number → text ++ (types_drawn left x).0 ≡ whole → after ++ (types_drawn m y).0 ≡ whole
type_added text after whole left m x y number e at n a h = rw (a, n, at) (append_assoc text (class_type (picked (drawn x) 200)) (types_drawn m (drawn x)).0 ∙ ap (λ p. text ++ p.0) (sym (one_type left m x e)) ∙ h)

pub type_passed : (left m x y end : ℕ) → left ≡ suc m → y ≡ drawn x → (types_drawn left x).1 ≡ end → (types_drawn m y).1 ≡ end
type_passed left m x y end e at h = rw at (ap (λ p. p.1) (sym (one_type left m x e)) ∙ h)

pub all_types : (text whole : List ℕ) (left x : ℕ) → left ≡ zero → text ++ (types_drawn left x).0 ≡ whole → text ≡ whole
all_types text whole left x e h = sym (append-nil text) ∙ ap (λ p. text ++ p.0) (sym (no_types left x e)) ∙ h

pub last_type : (left x end : ℕ) → left ≡ zero → (types_drawn left x).1 ≡ end → x ≡ end
last_type left x end e h = ap (λ p. p.1) (sym (no_types left x e)) ∙ h

pub class_added : (all after whole : List ClassShape) (left m number next x y : ℕ) (c : ClassShape) → left ≡ suc m → next ≡ suc number → y ≡ (class_of number (parent number x)).1 → c ≡ (class_of number (parent number x)).0 → after ≡ all ++ c ∷ [] → all ++ (classes_drawn left number x).0 ≡ whole → after ++ (classes_drawn m next y).0 ≡ whole
class_added all after whole left m number next x y c e n at k a h = rw (a, k, at, n) (append_assoc all ((class_of number (parent number x)).0 ∷ []) (classes_drawn m (suc number) (class_of number (parent number x)).1).0 ∙ ap (λ p. all ++ p.0) (sym (one_class left m number x e)) ∙ h)

pub class_passed : (left m number next x y end : ℕ) → left ≡ suc m → next ≡ suc number → y ≡ (class_of number (parent number x)).1 → (classes_drawn left number x).1 ≡ end → (classes_drawn m next y).1 ≡ end
class_passed left m number next x y end e n at h = rw (at, n) (ap (λ p. p.1) (sym (one_class left m number x e)) ∙ h)

pub every_class : (all whole : List ClassShape) (left number x : ℕ) → left ≡ zero → all ++ (classes_drawn left number x).0 ≡ whole → all ≡ whole
every_class all whole left number x e h = sym (append-nil all) ∙ ap (λ p. all ++ p.0) (sym (no_classes left number x e)) ∙ h

pub last_class : (left number x end : ℕ) → left ≡ zero → (classes_drawn left number x).1 ≡ end → x ≡ end
last_class left number x end e h = ap (λ p. p.1) (sym (no_classes left number x e)) ∙ h

abbrev opening : List ℕ
opening = codes "package app; import sample.*; class Use { static void go(C0 a, C1 b) { C"

pub text_short : (goal : ℕ) → goal < 2 ^ 64 → length (text_before goal) ≤ 97
text_short goal lt =
    let head : length opening ≡ 72 = refl in
    let tail : length (codes " r = ") ≡ 5 = refl in
    omega (arith, head, tail, length-append opening (decimal goal ++ codes " r = "), length-append (decimal goal) (codes " r = "), length-decimal-le 20 goal (omega arith) (omega (arith, lt)) lt)

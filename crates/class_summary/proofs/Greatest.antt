-- The greatest of some numbers, and methods by their numbers.
use Rattle.std.proofs.Common.{◌≡◌, ◌∙◌, ap, sym, refl, arith, ℕ, zero, suc, ◌+◌, ◌<◌, ◌≤◌, List, [], ◌∷◌, ◌++◌, length, drop, get_or, slice_get, Some, Bool, true, false, if◌then◌else◌, append-nil, append_assoc, add-one}
use Rattle.std.proofs.lemmas.List.{drop_all, drop_more}
use Rattle.std.proofs.lemmas.Option.{get_or_from_slice_get}
use Rattle.java_units.specs.declared.types.SourceMethod.{SourceMethod}
use Rattle.java_units.specs.declared.types.Unit as unit
use Rattle.java_units.specs.Dimensions.{greatest}
use Rattle.known_classes.specs.declared.summary.ClassSummary.{ClassSummary}
use Rattle.known_classes.specs.declared.summary.MethodSummary.{MethodSummary}
use Rattle.java_units.specs.declared.types.SourceClass.{SourceClass}
use Rattle.class_summary.specs.SourceSummaries.{method_of, methods_from, summary_at, summaries_from}

pub greatest_at : {A : Type 0} (f : A → ℕ) (xs : List A) (i : ℕ) (d : A) → i < length xs → f (get_or xs i d) ≤ greatest f xs
greatest_at f [] i d l = absurd (omega arith)
greatest_at f (x ∷ xs) zero d l = omega arith
greatest_at f (x ∷ xs) (suc i) d l = omega (arith, greatest_at f xs i d (omega arith))

-- the item at a place needs no more than the greatest
pub item_fits : {A : Type 0} (f : A → ℕ) (xs : List A) (i : ℕ) (x : A) (own limit : ℕ) → i < length xs → x ≡ get_or xs i x → greatest f xs + own < limit → f x + own < limit
item_fits f xs i x own limit l e h = let s : f x ≡ f (get_or xs i x) = ap f e in omega (arith, s, greatest_at f xs i x l)

methods-cons : (u : unit.Unit) (i : ℕ) (known : List ClassSummary) (m : ℕ) (s : SourceMethod) (ss : List SourceMethod) → methods_from u i known m (s ∷ ss) ≡ method_of u i known m s ∷ methods_from u i known (suc m) ss
unfolding methods_from
methods-cons u i known m s ss = refl

methods-none : (u : unit.Unit) (i : ℕ) (known : List ClassSummary) (m : ℕ) → methods_from u i known m [] ≡ []
unfolding methods_from
methods-none u i known m = refl

pub methods_on : (u : unit.Unit) (i : ℕ) (known : List ClassSummary) (ss : List SourceMethod) (m : ℕ) (s : SourceMethod) (whole old new : List MethodSummary) (v : MethodSummary) → m < length ss → s ≡ get_or ss m s → v ≡ method_of u i known m s → new ≡ old ++ v ∷ [] → whole ≡ old ++ methods_from u i known m (drop m ss) → whole ≡ new ++ methods_from u i known (m + 1) (drop (m + 1) ss)
methods_on u i known ss m s whole old new v l e x n h =
    let d : drop m ss ≡ s ∷ drop (m + 1) ss = drop_more ss m s l ∙ ap (λ (y : SourceMethod). y ∷ drop (m + 1) ss) (sym e) in
    let t : methods_from u i known m (drop m ss) ≡ v ∷ methods_from u i known (m + 1) (drop (m + 1) ss) = ap (methods_from u i known m) d ∙ (methods-cons u i known m s (drop (m + 1) ss) ∙ (ap (λ (y : MethodSummary). y ∷ methods_from u i known (suc m) (drop (m + 1) ss)) (sym x) ∙ ap (λ (k : ℕ). v ∷ methods_from u i known k (drop (m + 1) ss)) (sym (add-one m)))) in
    h ∙ (ap (λ (r : List MethodSummary). old ++ r) t ∙ (sym (append_assoc old (v ∷ []) (methods_from u i known (m + 1) (drop (m + 1) ss))) ∙ ap (λ (r : List MethodSummary). r ++ methods_from u i known (m + 1) (drop (m + 1) ss)) (sym n)))

pub methods_end : (u : unit.Unit) (i : ℕ) (known : List ClassSummary) (ss : List SourceMethod) (m : ℕ) (whole old : List MethodSummary) → length ss ≤ m → whole ≡ old ++ methods_from u i known m (drop m ss) → old ≡ whole
methods_end u i known ss m whole old l h =
    sym (h ∙ (ap (λ (r : List MethodSummary). old ++ r) (ap (methods_from u i known m) (drop_all m ss l) ∙ methods-none u i known m) ∙ append-nil old))

-- the first item needs no more than the greatest
pub first_fits : {A : Type 0} (f : A → ℕ) (xs : List A) (x : A) (own limit : ℕ) → slice_get xs 0 ≡ Some x → greatest f xs + own < limit → f x + own < limit
first_fits f [] x own limit e h = absurd (cc)
first_fits f (y ∷ ys) x own limit e h = let q : y ≡ x = cc in let s : f y ≡ f x = ap f q in omega arith

rest_less : {A : Type 0} (f : A → ℕ) (b : Bool) (xs : List A) → greatest f (if b then drop 1 xs else xs) ≤ greatest f xs
rest_less f true [] = omega arith
rest_less f true (x ∷ xs) = omega arith
rest_less f false xs = omega arith

-- the rest needs no more
pub rest_fits : {A : Type 0} (f : A → ℕ) (b : Bool) (xs ys : List A) (own limit : ℕ) → ys ≡ (if b then drop 1 xs else xs) → greatest f xs + own < limit → greatest f ys + own < limit
rest_fits f b xs ys own limit e h = let s : greatest f ys ≡ greatest f (if b then drop 1 xs else xs) = ap (greatest f) e in omega (arith, s, rest_less f b xs)

-- the same items need the same
pub same_fits : {A : Type 0} (f : A → ℕ) (xs ys : List A) (all own limit : ℕ) → ys ≡ xs → greatest f xs ≤ all → all + own < limit → greatest f ys + own < limit
same_fits f xs ys all own limit e l h = let s : greatest f ys ≡ greatest f xs = ap (greatest f) e in omega (arith, s)

-- the first, the rest and the last in one list
pub in_order : {A : Type 0} (none one two all rest last : List A) (first : A) → none ≡ [] → one ≡ none ++ first ∷ [] → two ≡ one ++ rest → all ≡ two ++ last → all ≡ first ∷ (rest ++ last)
in_order {A} none one two all rest last first n o t a =
    a ∙ (ap (λ (r : List A). r ++ last) (t ∙ ap (λ (r : List A). r ++ rest) (o ∙ ap (λ (r : List A). r ++ first ∷ []) n)) ∙ refl)

pub class_fits : {A : Type 0} (f : A → ℕ) (xs ys : List A) (i : ℕ) (x : A) (own limit : ℕ) → ys ≡ xs → i < length xs → x ≡ get_or ys i x → greatest f xs + own < limit → f x + own < limit
class_fits {A} f xs ys i x own limit e l at h = item_fits f xs i x own limit l (at ∙ ap (λ (r : List A). get_or r i x) e) h

pub class_is : {A : Type 0} (xs ys : List A) (i : ℕ) (x d : A) → ys ≡ xs → x ≡ get_or ys i x → slice_get xs i ≡ Some d → x ≡ d
class_is {A} xs ys i x d e at g = at ∙ (ap (λ (r : List A). get_or r i x) e ∙ get_or_from_slice_get xs i d x g)

summaries-cons : (u : unit.Unit) (known : List ClassSummary) (i : ℕ) (c : SourceClass) (cs : List SourceClass) → summaries_from u known i (c ∷ cs) ≡ summary_at u i known c ∷ summaries_from u known (suc i) cs
unfolding summaries_from
summaries-cons u known i c cs = refl

summaries-none : (u : unit.Unit) (known : List ClassSummary) (i : ℕ) → summaries_from u known i [] ≡ []
unfolding summaries_from
summaries-none u known i = refl

pub summaries_on : (u : unit.Unit) (known : List ClassSummary) (cs : List SourceClass) (i : ℕ) (c : SourceClass) (whole old new : List ClassSummary) (v : ClassSummary) → i < length cs → c ≡ get_or cs i c → v ≡ summary_at u i known c → new ≡ old ++ v ∷ [] → whole ≡ old ++ summaries_from u known i (drop i cs) → whole ≡ new ++ summaries_from u known (i + 1) (drop (i + 1) cs)
summaries_on u known cs i c whole old new v l e x n h =
    let d : drop i cs ≡ c ∷ drop (i + 1) cs = drop_more cs i c l ∙ ap (λ (y : SourceClass). y ∷ drop (i + 1) cs) (sym e) in
    let t : summaries_from u known i (drop i cs) ≡ v ∷ summaries_from u known (i + 1) (drop (i + 1) cs) = ap (summaries_from u known i) d ∙ (summaries-cons u known i c (drop (i + 1) cs) ∙ (ap (λ (y : ClassSummary). y ∷ summaries_from u known (suc i) (drop (i + 1) cs)) (sym x) ∙ ap (λ (k : ℕ). v ∷ summaries_from u known k (drop (i + 1) cs)) (sym (add-one i)))) in
    h ∙ (ap (λ (r : List ClassSummary). old ++ r) t ∙ (sym (append_assoc old (v ∷ []) (summaries_from u known (i + 1) (drop (i + 1) cs))) ∙ ap (λ (r : List ClassSummary). r ++ summaries_from u known (i + 1) (drop (i + 1) cs)) (sym n)))

pub summaries_end : (u : unit.Unit) (known : List ClassSummary) (cs : List SourceClass) (i : ℕ) (whole old : List ClassSummary) → length cs ≤ i → whole ≡ old ++ summaries_from u known i (drop i cs) → old ≡ whole
summaries_end u known cs i whole old l h =
    sym (h ∙ (ap (λ (r : List ClassSummary). old ++ r) (ap (summaries_from u known i) (drop_all i cs l) ∙ summaries-none u known i) ∙ append-nil old))

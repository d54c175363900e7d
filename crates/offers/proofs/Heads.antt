-- What is below a class that has no arrays below it, by places alone.
use Rattle.std.proofs.Common.{◌≡◌, ◌∙◌, ap, sym, subst, refl, arith, tests, ℕ, zero, suc, ◌<◌, Bool, true, false, ◌||◌, ◌&&◌, not, ◌==◌, List, [], ◌∷◌, cond, bytes_eq, Result, is_ok, Option, Some, None, Contains}
use Rattle.std.specs.List.{list_any}
use Rattle.std.proofs.lemmas.Slice.Eq.{bytes_eq-Decides}
use Rattle.std.proofs.lemmas.Bool.{cases_eq}
use Rattle.graphs.specs.Graph.{edges}
use Rattle.type_names.specs.declared.kinds.Base.{Base}
use Rattle.type_names.specs.declared.kinds.Base.TheVariants.{Byte, Char, Double, Float, Int, Long, Short, Boolean, Class}
use Rattle.type_names.specs.declared.kinds.Erased.{Erased}
use Rattle.type_names.specs.Descriptors.{base, field}
use Rattle.type_names.specs.Names.{object_name}
use Rattle.name_places.specs.Places.{place_of}
use Rattle.name_places.proofs.Places.{place-get}
use Rattle.subtyping.specs.Places.{Ancestry}
use Rattle.subtyping.specs.Asked.{class_place}
use Rattle.subtyping.specs.Steps.{cloneable, serializable}
use Rattle.offers.specs.Order.{is_ancestor_at, is_ancestor, is_one_of, is_base_below, is_above_arrays, is_array_below, is_below_at, is_below}
use Rattle.offers.specs.Placing.{head_in}
use Rattle.offers.specs.Scenes.{same_type, at_or_below}
use Rattle.offers.specs.Views.{Outlook, scene}
use Rattle.offers.proofs.Descriptors.{field-one}
use Rattle.offers.proofs.SubtypeTest.{in-any, any-in, same-truth, same, equal, or-left}

-- a row has the number that a search finds
pub found-by : (row : List ℕ) (x : ℕ) (r : Result ℕ ℕ) → (is_ok r ≡ true → Contains row x) × (Contains row x → is_ok r ≡ true) → is_ok r ≡ list_any (λ n. n == x) row
found-by row x r h = same-truth (is_ok r) (list_any (λ n. n == x) row) (λ e. in-any x row (h.0 e)) (λ e. h.1 (any-in x row e))

-- what a head is
record IsHead (s : Ancestry) (t : Erased) (head : ℕ) : Type 0 where
  dims : t.dims ≡ 0
  alone : is_array_below s t.base ≡ false
  place : class_place s.names t.base ≡ Some head

no-dims : (n : ℕ) → 0 < n → (n == 0) ≡ false
no-dims n l = grind (arith, tests, l)

more-dims : (n : ℕ) → (suc n == 0) ≡ false
more-dims n = no-dims (suc n) (omega arith)

never : {P : Type 0} {A : Type 0} (x : A) (o : Option A) → o ≡ Some x → o ≡ None → P
never x o e f = absurd (let h = sym e ∙ f in cc)

head-by : (n : ℕ) (up : Bool) (place : Option ℕ) (head : ℕ) → cond (n == 0 && not up) place None ≡ Some head → (n ≡ 0) × (up ≡ false) × (place ≡ Some head)
head-by zero false place head e = (refl, refl, e)
head-by zero true place head e = absurd (let h = e in cc)
head-by (suc n) up place head e = never head (cond (suc n == 0 && not up) place None) e (ap (λ t. cond (t && not up) place None) (more-dims n))

head-is : (o : Outlook) (t : Erased) (head : ℕ) → head_in o t ≡ Some head → IsHead o.ancestry t head
unfolding head_in
head-is o t head e =
    let h = head-by t.dims (is_array_below o.ancestry t.base) (class_place o.ancestry.names t.base) head e in
    record { dims = h.0; alone = h.1; place = h.2 }

or-none : (a b : Bool) → (a || b) ≡ false → a ≡ false
or-none false b e = refl
or-none true b e = e

clear : {P : Type 0} (b : Bool) → b ≡ true → b ≡ false → P
clear b e f = absurd (let h = sym e ∙ f in cc)

no-object : (s : Ancestry) (b : List ℕ) → is_array_below s (Class b) ≡ false → bytes_eq b object_name ≡ false
unfolding is_one_of
no-object s b e = by (bytes_eq b object_name) refl
  where
    by : (t : Bool) → bytes_eq b object_name ≡ t → t ≡ false
    by false f = refl
    by true f = clear (bytes_eq (base (Class object_name)) (base (Class b))) (equal (base (Class object_name)) (base (Class b)) (ap (λ (n : List ℕ). base (Class n)) (sym (same b object_name f)))) (or-none _ _ (or-none (is_one_of (Class object_name ∷ Class cloneable ∷ Class serializable ∷ []) (Class b)) (is_above_arrays s (Class b)) e))

plain : (a b c : Bool) → c ≡ false → (a || (b && c)) ≡ a
plain true b c e = refl
plain false true c e = e
plain false false c e = refl

-- between types without dimensions
base-by : (s : Ancestry) (p q : Base) (head : ℕ) → is_array_below s q ≡ false → class_place s.names q ≡ Some head → is_base_below s p q ≡ is_ancestor_at s.rows (class_place s.names p) (Some head)
unfolding is_one_of is_ancestor
base-by s (Class a) (Class b) head e f = plain (is_ancestor s a b) (not (bytes_eq a object_name)) (bytes_eq b object_name) (no-object s b e) ∙ ap (is_ancestor_at s.rows (place_of s.names a)) f
base-by s Byte (Class b) head e f = refl
base-by s Char (Class b) head e f = refl
base-by s Double (Class b) head e f = refl
base-by s Float (Class b) head e f = refl
base-by s Int (Class b) head e f = refl
base-by s Long (Class b) head e f = refl
base-by s Short (Class b) head e f = refl
base-by s Boolean (Class b) head e f = refl
base-by s p q head e f = absurd (let h = f in cc)

by-dims : (s : Ancestry) (n : ℕ) (p : Base) (q : Base) (head : ℕ) → is_array_below s q ≡ false → class_place s.names q ≡ Some head → is_below_at s n p 0 q ≡ cond (n == 0) (is_ancestor_at s.rows (class_place s.names p) (Some head)) false
unfolding is_below_at
by-dims s zero p q head e f = base-by s p q head e f
by-dims s (suc n) p q head e f = e ∙ sym (ap (λ t. cond t (is_ancestor_at s.rows (class_place s.names p) (Some head)) false) (more-dims n))

below-by : (o : Outlook) (a b : Erased) (head : ℕ) → head_in o b ≡ Some head → is_below o.ancestry a b ≡ cond (a.dims == 0) (is_ancestor_at o.ancestry.rows (class_place o.ancestry.names a.base) (Some head)) false
below-by o a b head e =
    let h = head-is o b head e in
    ap (λ (m : ℕ). is_below_at o.ancestry a.dims a.base m b.base) h.dims ∙ by-dims o.ancestry a.dims a.base b.base head h.alone h.place

-- a type with dimensions isn't below it
pub below-dims : (o : Outlook) (a b : Erased) (head : ℕ) → head_in o b ≡ Some head → 0 < a.dims → false ≡ is_below o.ancestry a b
below-dims o a b head e l = sym (below-by o a b head e ∙ ap (λ t. cond t (is_ancestor_at o.ancestry.rows (class_place o.ancestry.names a.base) (Some head)) false) (no-dims a.dims l))

-- another is by its place
pub below-place : (o : Outlook) (a b : Erased) (head : ℕ) (low : Option ℕ) → head_in o b ≡ Some head → a.dims ≡ 0 → low ≡ class_place o.ancestry.names a.base → is_ancestor_at o.ancestry.rows low (Some head) ≡ is_below o.ancestry a b
below-place o a b head low e d p =
    ap (λ (x : Option ℕ). is_ancestor_at o.ancestry.rows x (Some head)) p
    ∙ sym (below-by o a b head e ∙ ap (λ (n : ℕ). cond (n == 0) (is_ancestor_at o.ancestry.rows (class_place o.ancestry.names a.base) (Some head)) false) d)

same-is : (a b : Erased) → same_type a b ≡ true → a ≡ b
same-is a b e = field-one a b ((bytes_eq-Decides (field a) (field b)).0 e)

is-same : (a b : Erased) → a ≡ b → same_type a b ≡ true
is-same a b e = (bytes_eq-Decides (field a) (field b)).1 (ap field e)

apart : (t : Bool) → (t ≡ true → ⊥) → t ≡ false
apart true h = absurd (h refl)
apart false h = refl

neither : (a b : Bool) → a ≡ false → false ≡ b → false ≡ (a || b)
neither a b e f = rw e f

-- at or below
pub near-dims : (o : Outlook) (a b : Erased) (head : ℕ) → head_in o b ≡ Some head → 0 < a.dims → false ≡ at_or_below (scene o) a b
near-dims o a b head e l =
    let h = head-is o b head e in
    neither (same_type a b) _ (apart (same_type a b) (λ t. omega (arith, l, h.dims, ap (λ (x : Erased). x.dims) (same-is a b t)))) (below-dims o a b head e l)

none-some : {A : Type 0} (x : A) (o : Option A) → None ≡ o → o ≡ Some x → ⊥
none-some x o e f = absurd (let h = e ∙ f in cc)

pub near-none : (o : Outlook) (a b : Erased) (head : ℕ) → head_in o b ≡ Some head → a.dims ≡ 0 → None ≡ class_place o.ancestry.names a.base → false ≡ at_or_below (scene o) a b
near-none o a b head e d p =
    let h = head-is o b head e in
    neither (same_type a b) _ (apart (same_type a b) (λ t. none-some head (class_place o.ancestry.names a.base) p (ap (λ (x : Erased). class_place o.ancestry.names x.base) (same-is a b t) ∙ h.place))) (below-place o a b head None e d p)

some-one : (i j : ℕ) → Some i ≡ Some j → i ≡ j
some-one i j e = cc

equals : (i j : ℕ) → i ≡ j → (i == j) ≡ true
equals i j e = grind (arith, tests, e)

equal-is : (i j : ℕ) → (i == j) ≡ true → i ≡ j
equal-is i j e = grind (arith, tests, e)

-- the bases of one place
one-base : (names : List (List ℕ)) (p q : Base) (i : ℕ) → class_place names p ≡ Some i → class_place names q ≡ Some i → p ≡ q
one-base names (Class a) (Class b) i e f = ap Class (sym (place-get names a i e).1 ∙ (place-get names b i f).1)
one-base names (Class a) q i e f = absurd (let h = f in cc)
one-base names p q i e f = absurd (let h = e in cc)

abbrev typed : ℕ → Base → Erased
typed n p = record { dims = n; base = p }

made : (n m : ℕ) (p q : Base) → n ≡ m → p ≡ q → typed n p ≡ typed m q
made n m p q e f = cc

one-type : (a b : Erased) → a.dims ≡ b.dims → a.base ≡ b.base → a ≡ b
one-type a b e f = made a.dims b.dims a.base b.base e f

same-places : (o : Outlook) (a b : Erased) (low head : ℕ) → head_in o b ≡ Some head → a.dims ≡ 0 → Some low ≡ class_place o.ancestry.names a.base → (low == head) ≡ same_type a b
same-places o a b low head e d p =
    let h = head-is o b head e in
    same-truth (low == head) (same_type a b)
    (λ t. is-same a b (one-type a b (d ∙ sym h.dims) (one-base o.ancestry.names a.base b.base head (sym p ∙ ap Some (equal-is low head t)) h.place)))
    (λ t. equals low head (some-one low head (p ∙ ap (λ (x : Erased). class_place o.ancestry.names x.base) (same-is a b t) ∙ h.place)))

pub near-place : (o : Outlook) (a b : Erased) (low head : ℕ) (up : Bool) → head_in o b ≡ Some head → a.dims ≡ 0 → Some low ≡ class_place o.ancestry.names a.base → up ≡ is_ancestor_at o.ancestry.rows (Some low) (Some head) → (low == head || up) ≡ at_or_below (scene o) a b
near-place o a b low head up e d p u =
    ap (λ t. (low == head) || t) (u ∙ below-place o a b head (Some low) e d p)
    ∙ ap (λ t. t || is_below o.ancestry a b) (same-places o a b low head e d p)

pub near-here : (o : Outlook) (a b : Erased) (low head : ℕ) → head_in o b ≡ Some head → a.dims ≡ 0 → Some low ≡ class_place o.ancestry.names a.base → low ≡ head → (low == head) ≡ at_or_below (scene o) a b
near-here o a b low head e d p s =
    let up = is_ancestor_at o.ancestry.rows (Some low) (Some head) in
    let t = equals low head s in
    t ∙ sym (ap (λ z. z || up) t) ∙ near-place o a b low head up e d p refl

pub near-above : (o : Outlook) (a b : Erased) (low head : ℕ) (up : Bool) → head_in o b ≡ Some head → a.dims ≡ 0 → Some low ≡ class_place o.ancestry.names a.base → (low ≡ head → ⊥) → up ≡ is_ancestor_at o.ancestry.rows (Some low) (Some head) → up ≡ at_or_below (scene o) a b
near-above o a b low head up e d p n u =
    let f = apart (low == head) (λ t. n (equal-is low head t)) in
    sym (ap (λ z. z || up) f) ∙ near-place o a b low head up e d p u

-- what is a head
pub head-dims : (o : Outlook) (t : Erased) → 0 < t.dims → None ≡ head_in o t
unfolding head_in
head-dims o t l = sym (ap (λ z. cond (z && not (is_array_below o.ancestry t.base)) (class_place o.ancestry.names t.base) None) (no-dims t.dims l))

arrays-by : (s : Ancestry) (t : Erased) → t.dims ≡ 0 → is_below s (typed 1 Int) t ≡ is_array_below s t.base
unfolding is_below_at
arrays-by s t e = ap (λ (m : ℕ). is_below_at s 1 Int m t.base) e

pub head-under : (o : Outlook) (t : Erased) (r : Bool) → t.dims ≡ 0 → r ≡ is_below o.ancestry (typed 1 Int) t → r ≡ true → None ≡ head_in o t
unfolding head_in
head-under o t r d e f = sym (ap (λ z. cond (t.dims == 0 && not z) (class_place o.ancestry.names t.base) None) (sym (arrays-by o.ancestry t d) ∙ sym e ∙ f) ∙ ap (λ z. cond z (class_place o.ancestry.names t.base) None) (none-both (t.dims == 0)))
  where
    none-both : (b : Bool) → (b && false) ≡ false
    none-both true = refl
    none-both false = refl

pub head-alone : (o : Outlook) (t : Erased) (r : Bool) (place : Option ℕ) → t.dims ≡ 0 → r ≡ is_below o.ancestry (typed 1 Int) t → r ≡ false → place ≡ class_place o.ancestry.names t.base → place ≡ head_in o t
unfolding head_in
head-alone o t r place d e f p =
    p ∙ sym (ap (λ z. cond (t.dims == 0 && not z) (class_place o.ancestry.names t.base) None) (sym (arrays-by o.ancestry t d) ∙ sym e ∙ f) ∙ ap (λ (n : ℕ). cond (n == 0 && true) (class_place o.ancestry.names t.base) None) d)

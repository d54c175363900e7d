-- The order of descriptors, by their parts.
use Rattle.std.proofs.Common.{◌≡◌, ◌≢◌, ℕ, zero, suc, ◌<◌, ◌≤◌, min, List, [], ◌∷◌, ◌++◌, length, take, drop, get_or, replicate, Option, Some, None, refl, sym, ap, ◌∙◌, arith}
use Rattle.std.specs.Ordering.{nat_cmp, ordering_then, MatchOrdering}
use Rattle.std.specs.Cmp.{ranked, nat_cmp_is}
use Rattle.std.specs.Cmp.Lexicographic.{slice_cmp}
use Rattle.std.specs.declared.cmp.Ordering.{Ordering}
use Rattle.std.specs.declared.cmp.Ordering.TheVariants.{Less, Equal, Greater}
use Rattle.std.proofs.lemmas.List.{append_cancel_right}
use Rattle.type_names.specs.declared.kinds.Base.{Base}
use Rattle.type_names.specs.declared.kinds.Base.TheVariants.{Byte, Char, Double, Float, Int, Long, Short, Boolean, Class}
use Rattle.type_names.specs.declared.kinds.Erased.{Erased}
use Rattle.type_names.specs.Descriptors.{base, field, name_of}
use Rattle.type_names.specs.Reading.{letter}
use Rattle.type_names.proofs.FieldLaws.{some_is}

abbrev pub by_bytes : List ℕ → List ℕ → Ordering
by_bytes xs ys = slice_cmp nat_cmp xs ys

-- ---- one after the other
then_again : (a b c : Ordering) → ordering_then (ordering_then a b) c ≡ ordering_then a (ordering_then b c)
then_again Less b c = refl
then_again Equal b c = refl
then_again Greater b c = refl

then_equal : (o : Ordering) → ordering_then o Equal ≡ o
then_equal Less = refl
then_equal Equal = refl
then_equal Greater = refl

then_decided : (o p : Ordering) → o ≢ Equal → ordering_then o p ≡ o
then_decided Less p other = refl
then_decided Equal p other = absurd (other refl)
then_decided Greater p other = refl

shorter : (xs : List ℕ) → by_bytes [] (xs ++ 59 ∷ []) ≡ Less
shorter [] = refl
shorter (x ∷ xs) = refl

longer : (xs : List ℕ) → by_bytes (xs ++ 59 ∷ []) [] ≡ Greater
longer [] = refl
longer (x ∷ xs) = refl

pub ends_less : (c : ℕ) (xs : List ℕ) → ordering_then (nat_cmp 59 c) Less ≡ by_bytes (59 ∷ []) ((c ∷ xs) ++ 59 ∷ [])
ends_less c xs = ap (λ (o : Ordering). ordering_then (nat_cmp 59 c) o) (sym (shorter xs))

pub ends_greater : (c : ℕ) (xs : List ℕ) → ordering_then (nat_cmp c 59) Greater ≡ by_bytes ((c ∷ xs) ++ 59 ∷ []) (59 ∷ [])
ends_greater c xs = ap (λ (o : Ordering). ordering_then (nat_cmp c 59) o) (sym (longer xs))

pub when_longer : (xs ys : List ℕ) (first whole : Ordering) → min (length xs) (length ys) ≡ 0 → 1 ≤ length xs → whole ≡ ordering_then first Greater → first ≡ nat_cmp (get_or xs 0 0) 59 → whole ≡ by_bytes (xs ++ 59 ∷ []) (ys ++ 59 ∷ [])
when_longer [] ys first whole one some e is = absurd (omega (arith, some))
when_longer (x ∷ xs) [] first whole one some e is = e ∙ ap (λ (o : Ordering). ordering_then o Greater) is ∙ ends_greater x xs
when_longer (x ∷ xs) (y ∷ ys) first whole one some e is = absurd (omega (arith, one))

-- the prefixes of one length decide, and else what follows them
pub parted : (n : ℕ) (xs ys end : List ℕ) → n ≤ length xs → n ≤ length ys → ordering_then (by_bytes (take n xs) (take n ys)) (by_bytes (drop n xs ++ end) (drop n ys ++ end)) ≡ by_bytes (xs ++ end) (ys ++ end)
parted zero xs ys end le more = refl
parted (suc n) [] ys end le more = absurd (omega (arith, le))
parted (suc n) (x ∷ xs) [] end le more = absurd (omega (arith, more))
parted (suc n) (x ∷ xs) (y ∷ ys) end le more =
    then_again (nat_cmp x y) (by_bytes (take n xs) (take n ys)) (by_bytes (drop n xs ++ end) (drop n ys ++ end)) ∙ ap (λ (o : Ordering). ordering_then (nat_cmp x y) o) (parted n xs ys end (omega (arith, le)) (omega (arith, more)))

-- ---- bases
pub named : (b : Base) (name : List ℕ) → name_of b ≡ Some name → b ≡ Class name
named (Class n) name e = ap (λ (x : List ℕ). Class x) (some_is n name e)
named Byte name e = absurd cc
named Char name e = absurd cc
named Double name e = absurd cc
named Float name e = absurd cc
named Int name e = absurd cc
named Long name e = absurd cc
named Short name e = absurd cc
named Boolean name e = absurd cc

abbrev pub first : Base → ℕ
first b = get_or (base b) 0 0

pub class_cmp : (a b : Base) (name other : List ℕ) → name_of a ≡ Some name → name_of b ≡ Some other → by_bytes (base a) (base b) ≡ by_bytes (name ++ 59 ∷ []) (other ++ 59 ∷ [])
class_cmp a b name other e d = rw (named a name e, named b other d) refl

-- a letter before any base
letter_cmp : (c : ℕ) (b : Base) → nat_cmp c 76 ≢ Equal → by_bytes (c ∷ []) (base b) ≡ nat_cmp c (first b)
letter_cmp c (Class name) other = then_decided (nat_cmp c 76) _ other
letter_cmp c Byte other = then_equal (nat_cmp c 66)
letter_cmp c Char other = then_equal (nat_cmp c 67)
letter_cmp c Double other = then_equal (nat_cmp c 68)
letter_cmp c Float other = then_equal (nat_cmp c 70)
letter_cmp c Int other = then_equal (nat_cmp c 73)
letter_cmp c Long other = then_equal (nat_cmp c 74)
letter_cmp c Short other = then_equal (nat_cmp c 83)
letter_cmp c Boolean other = then_equal (nat_cmp c 90)

pub primitive_cmp : (a b : Base) → name_of a ≡ None → by_bytes (base a) (base b) ≡ nat_cmp (first a) (first b)
primitive_cmp (Class name) b e = absurd cc
primitive_cmp Byte b e = letter_cmp 66 b (λ h. cc)
primitive_cmp Char b e = letter_cmp 67 b (λ h. cc)
primitive_cmp Double b e = letter_cmp 68 b (λ h. cc)
primitive_cmp Float b e = letter_cmp 70 b (λ h. cc)
primitive_cmp Int b e = letter_cmp 73 b (λ h. cc)
primitive_cmp Long b e = letter_cmp 74 b (λ h. cc)
primitive_cmp Short b e = letter_cmp 83 b (λ h. cc)
primitive_cmp Boolean b e = letter_cmp 90 b (λ h. cc)

before_letter : (name : List ℕ) (b : Base) → name_of b ≡ None → by_bytes (76 ∷ (name ++ 59 ∷ [])) (base b) ≡ nat_cmp 76 (first b)
before_letter name (Class other) e = absurd cc
before_letter name Byte e = refl
before_letter name Char e = refl
before_letter name Double e = refl
before_letter name Float e = refl
before_letter name Int e = refl
before_letter name Long e = refl
before_letter name Short e = refl
before_letter name Boolean e = refl

pub before_cmp : (a b : Base) (name : List ℕ) → name_of a ≡ Some name → name_of b ≡ None → by_bytes (base a) (base b) ≡ nat_cmp 76 (first b)
before_cmp a b name e d = rw (named a name e) (before_letter name b d)

-- ---- one base
lettered : (b : Base) → name_of b ≡ None → letter (first b) ≡ Some b
lettered (Class name) e = absurd cc
lettered Byte e = refl
lettered Char e = refl
lettered Double e = refl
lettered Float e = refl
lettered Int e = refl
lettered Long e = refl
lettered Short e = refl
lettered Boolean e = refl

base_some : (a b : Base) (o : Option Base) → o ≡ Some a → o ≡ Some b → a ≡ b
base_some a b o p q = cc

no_base : (a : Base) (o : Option Base) → o ≡ None → o ≡ Some a → ⊥
no_base a o p q = cc

pub same_first : (a b : Base) → name_of a ≡ None → first a ≡ first b → a ≡ b
same_first a b e same = go (name_of b) refl
  where
    here : letter (first b) ≡ Some a
    here = ap letter (sym same) ∙ lettered a e

    go : (o : Option (List ℕ)) → name_of b ≡ o → a ≡ b
    go None d = base_some a b (letter (first b)) here (lettered b d)
    go (Some name) d =
        let c : first b ≡ 76 = ap first (named b name d) in
        absurd (no_base a (letter 76) refl (sym (ap letter c) ∙ here))

pub other_base : (a b : Base) (name : List ℕ) → name_of a ≡ Some name → name_of b ≡ None → a ≢ b
other_base a b name e d same = none (sym d ∙ ap name_of (sym same) ∙ e)
  where
    none : None ≡ Some name → ⊥
    none e = cc

pub one_base : (a b : Base) → base a ≡ base b → a ≡ b
one_base a b e = go (name_of a) (name_of b) refl refl
  where
    go : (o p : Option (List ℕ)) → name_of a ≡ o → name_of b ≡ p → a ≡ b
    go None p is d = same_first a b is (ap (λ (t : List ℕ). get_or t 0 0) e)
    go (Some name) None is d = sym (same_first b a d (sym (ap (λ (t : List ℕ). get_or t 0 0) e)))
    go (Some name) (Some other) is d =
        let texts : 76 ∷ (name ++ 59 ∷ []) ≡ 76 ∷ (other ++ 59 ∷ []) = sym (ap base (named a name is)) ∙ e ∙ ap base (named b other d) in
        let names : name ≡ other = append_cancel_right name other (59 ∷ []) (ap (drop 1) texts) in
        named a name is ∙ ap (λ (x : List ℕ). Class x) names ∙ sym (named b other d)

-- ---- dimensions
suc_cmp : (n m : ℕ) → nat_cmp (suc n) (suc m) ≡ nat_cmp n m
suc_cmp n m = sym (nat_cmp_is (suc n) (suc m) (nat_cmp n m) (up (nat_cmp n m) (ranked n m (nat_cmp n m) refl)))
  where
    up : (o : Ordering) → MatchOrdering o (n < m) (n ≡ m) (m < n) → MatchOrdering o (suc n < suc m) (suc n ≡ suc m) (suc m < suc n)
    up Less h = omega (arith, h)
    up Equal h = ap suc h
    up Greater h = omega (arith, h)

zero_cmp : (m : ℕ) → nat_cmp 0 (suc m) ≡ Less
zero_cmp m = sym (nat_cmp_is 0 (suc m) Less (omega arith))

cmp_zero : (n : ℕ) → nat_cmp (suc n) 0 ≡ Greater
cmp_zero n = sym (nat_cmp_is (suc n) 0 Greater (omega arith))

below_bracket : (b : Base) (rest : List ℕ) → by_bytes (base b) (91 ∷ rest) ≡ Less
below_bracket (Class name) rest = refl
below_bracket Byte rest = refl
below_bracket Char rest = refl
below_bracket Double rest = refl
below_bracket Float rest = refl
below_bracket Int rest = refl
below_bracket Long rest = refl
below_bracket Short rest = refl
below_bracket Boolean rest = refl

above_base : (b : Base) (rest : List ℕ) → by_bytes (91 ∷ rest) (base b) ≡ Greater
above_base (Class name) rest = refl
above_base Byte rest = refl
above_base Char rest = refl
above_base Double rest = refl
above_base Float rest = refl
above_base Int rest = refl
above_base Long rest = refl
above_base Short rest = refl
above_base Boolean rest = refl

abbrev pub spelled : ℕ → Base → List ℕ
spelled n b = replicate n 91 ++ base b

pub field_cmp : (n m : ℕ) (a b : Base) → ordering_then (nat_cmp n m) (by_bytes (base a) (base b)) ≡ by_bytes (spelled n a) (spelled m b)
field_cmp zero zero a b = refl
field_cmp zero (suc m) a b = rw (zero_cmp m) (sym (below_bracket a (spelled m b)))
field_cmp (suc n) zero a b = rw (cmp_zero n) (sym (above_base b (spelled n a)))
field_cmp (suc n) (suc m) a b = rw (suc_cmp n m) (field_cmp n m a b)

no_bracket : (b : Base) (rest : List ℕ) → base b ≡ 91 ∷ rest → ⊥
no_bracket b rest e = less (sym (below_bracket b rest) ∙ ap (λ (t : List ℕ). by_bytes t (91 ∷ rest)) e ∙ same (91 ∷ rest))
  where
    less : Less ≡ Equal → ⊥
    less e = cc

    one : (n : ℕ) → nat_cmp n n ≡ Equal
    one n = sym (nat_cmp_is n n Equal refl)

    same : (t : List ℕ) → by_bytes t t ≡ Equal
    same [] = refl
    same (x ∷ xs) = rw (one x) (same xs)

pub one_field : (n m : ℕ) (a b : Base) → spelled n a ≡ spelled m b → (n ≡ m) × (a ≡ b)
one_field zero zero a b e = (refl, one_base a b e)
one_field zero (suc m) a b e = absurd (no_bracket a (spelled m b) e)
one_field (suc n) zero a b e = absurd (no_bracket b (spelled n a) (sym e))
one_field (suc n) (suc m) a b e = let p = one_field n m a b (ap (drop 1) e) in (ap suc p.0, p.1)

level : (xs ys : List ℕ) → by_bytes xs ys ≡ Equal → xs ≡ ys
level [] [] e = refl
level [] (y ∷ ys) e = absurd cc
level (x ∷ xs) [] e = absurd cc
level (x ∷ xs) (y ∷ ys) e =
    let both = split (nat_cmp x y) (by_bytes xs ys) e in
    let heads : x ≡ y = at_equal (nat_cmp x y) both.0 (ranked x y (nat_cmp x y) refl) in
    ap (λ (k : ℕ). k ∷ xs) heads ∙ ap (λ (t : List ℕ). y ∷ t) (level xs ys both.1)
  where
    split : (o p : Ordering) → ordering_then o p ≡ Equal → (o ≡ Equal) × (p ≡ Equal)
    split Less p e = absurd cc
    split Equal p e = (refl, e)
    split Greater p e = absurd cc

    at_equal : (o : Ordering) → o ≡ Equal → MatchOrdering o (x < y) (x ≡ y) (y < x) → x ≡ y
    at_equal Less e h = absurd cc
    at_equal Equal e h = h
    at_equal Greater e h = absurd cc

pub tied : (a b : Erased) → by_bytes (field a) (field b) ≡ Equal → a ≡ b
tied a b e =
    let p = one_field a.dims b.dims a.base b.base (level (field a) (field b) e) in
    ap (λ (n : ℕ). as_erased n a.base) p.0 ∙ ap (λ (k : Base). as_erased b.dims k) p.1
  where
    as_erased : ℕ → Base → Erased
    as_erased n k = record { dims = n; base = k }

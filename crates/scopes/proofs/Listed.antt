-- The types of an environment by number, and the place of the one without a value among them.
use Rattle.std.proofs.Common.{◌≡◌, ◌∙◌, ap, sym, subst, refl, arith, rules, tests, ℕ, zero, suc, ◌+◌, ◌<◌, ◌≤◌, nat_lt, Bool, true, false, ◌||◌, cond, List, [], ◌∷◌, ◌++◌, length, map, take, drop, get_or, append-nil, ◌⊎◌, inl, inr, Option, Some, None, Less, Greater}
use Rattle.std.specs.List.{list_any}
use Rattle.std.specs.Ordering.{nat_cmp}
use Rattle.std.specs.Cmp.Lexicographic.{slice_cmp}
use Rattle.std.proofs.lemmas.Bool.{or_left, or_right}
use Rattle.std.proofs.lemmas.List.{length-take-le, take_all, drop_all}
use Rattle.type_names.specs.declared.kinds.Base.{Base}
use Rattle.type_names.specs.declared.kinds.Base.TheVariants.{Byte, Char, Double, Float, Int, Long, Short, Boolean, Class}
use Rattle.type_names.specs.declared.kinds.Erased.{Erased}
use Rattle.type_names.specs.Descriptors.{base, field, outcome}
use Rattle.offers.specs.Scenes.{same_type, put, put_by}
use Rattle.offers.specs.Types.{place_in}
use Rattle.scopes.proofs.Halving.{at-cons}
use Rattle.scopes.specs.Kinds.{Kinds, listed, count, place_among, number_in}
use Rattle.scopes.specs.Numbers.{is_early_base, is_early_in, is_early, early_ones, moved}

-- `V` stands behind the early descriptors, and before the others
early-base : (p : Base) → slice_cmp nat_cmp (86 ∷ []) (base p) ≡ cond (is_early_base p) Greater Less
early-base Byte = refl
early-base Char = refl
early-base Double = refl
early-base Float = refl
early-base Int = refl
early-base Long = refl
early-base Short = refl
early-base Boolean = refl
early-base (Class name) = refl

early-in : (n : ℕ) (p : Base) → slice_cmp nat_cmp (86 ∷ []) (field (record { dims = n; base = p })) ≡ cond (is_early_in n p) Greater Less
early-in zero p = early-base p
early-in (suc n) p = refl

early-at : (t : Erased) → slice_cmp nat_cmp (outcome None) (outcome (Some t)) ≡ cond (is_early t) Greater Less
early-at t = early-in t.dims t.base

-- the types with the one without a value behind the first n
abbrev pub with_void : ℕ → List Erased → List (Option Erased)
with_void n ts = map Some (take n ts) ++ None ∷ map Some (drop n ts)

put-step : (b : Bool) (t : Erased) (ts : List Erased) (n : ℕ) (more : List (Option Erased)) → more ≡ with_void n ts → put_by (cond b Greater Less) None (Some t) (map Some ts) more ≡ with_void (cond b (suc n) 0) (t ∷ ts)
put-step true t ts n more e = ap (λ (z : List (Option Erased)). Some t ∷ z) e
put-step false t ts n more e = refl

pub put-void : (ts : List Erased) → put outcome None (map Some ts) ≡ with_void (early_ones ts) ts
unfolding put early_ones
put-void [] = refl
put-void (t ∷ ts) =
    ap (λ o. put_by o None (Some t) (map Some ts) (put outcome None (map Some ts))) (early-at t)
    ∙ put-step (is_early t) t ts (early_ones ts) (put outcome None (map Some ts)) (put-void ts)

pub early-within : (ts : List Erased) → early_ones ts ≤ length ts
unfolding early_ones
early-within [] = omega arith
early-within (t ∷ ts) = by (is_early t) (early_ones ts) (length ts) (early-within ts)
  where
    by : (b : Bool) (n m : ℕ) → n ≤ m → cond b (suc n) 0 ≤ suc m
    by true n m l = omega (arith, l)
    by false n m l = omega arith

-- its number
place-none : (us : List Erased) (rest : List (Option Erased)) → place_among (map Some us ++ None ∷ rest) None ≡ length us
unfolding place_among
place-none [] rest = refl
place-none (u ∷ us) rest = ap suc (place-none us rest)

place-nowhere : (us : List Erased) → place_among (map Some us) None ≡ length us
unfolding place_among
place-nowhere [] = refl
place-nowhere (u ∷ us) = ap suc (place-nowhere us)

pub number-void : (ts : List Erased) → early_ones ts ≡ number_in (record { types = ts; void = true }) None
unfolding number_in listed
number-void ts =
    sym (ap (λ us. place_among us None) (put-void ts) ∙ place-none (take (early_ones ts) ts) (map Some (drop (early_ones ts) ts)) ∙ length-take-le (early_ones ts) ts (early-within ts))

pub number-plain : (ts : List Erased) → length ts ≡ number_in (record { types = ts; void = false }) None
unfolding number_in listed
number-plain ts = sym (place-nowhere ts)

pub listed-void : (ts : List Erased) → listed (record { types = ts; void = true }) ≡ with_void (number_in (record { types = ts; void = true }) None) ts
unfolding listed
listed-void ts = put-void ts ∙ ap (λ n. with_void n ts) (number-void ts)

pub listed-plain : (ts : List Erased) → listed (record { types = ts; void = false }) ≡ map Some ts
unfolding listed
listed-plain ts = refl

number-by : (ts : List Erased) (b : Bool) → b ≡ true → early_ones ts ≡ number_in (record { types = ts; void = b }) None
number-by ts true e = number-void ts
number-by ts false e = absurd (let h = e in cc)

pub void-at : (ts : List Erased) (b : Bool) (n : ℕ) → b ≡ true → n ≡ early_ones ts → n ≡ number_in (record { types = ts; void = b }) None
void-at ts b n e f = f ∙ number-by ts b e

pub plain-at : (ts : List Erased) (b : Bool) → b ≡ false → length ts ≡ number_in (record { types = ts; void = b }) None
plain-at ts true e = absurd (let h = e in cc)
plain-at ts false e = number-plain ts

-- counted from the front
early-cons : (t : Erased) (ts : List Erased) → early_ones (t ∷ ts) ≡ cond (is_early t) (suc (early_ones ts)) 0
unfolding early_ones
early-cons t ts = refl

early-nil : early_ones [] ≡ 0
unfolding early_ones
early-nil = refl

pub early-on : (ts : List Erased) (i : ℕ) (t : Erased) → i < length ts → t ≡ get_or ts i t → early_ones ts ≡ i + early_ones (drop i ts) → is_early t ≡ true → early_ones ts ≡ i + 1 + early_ones (drop (i + 1) ts)
early-on ts i t l e h f =
    let c : early_ones (drop i ts) ≡ suc (early_ones (drop (suc i) ts)) = ap early_ones (at-cons ts i t l e) ∙ early-cons t (drop (suc i) ts) ∙ rw f refl in
    let s : suc i ≡ i + 1 = omega arith in
    let d : early_ones (drop (suc i) ts) ≡ early_ones (drop (i + 1) ts) = ap (λ n. early_ones (drop n ts)) s in
    omega (arith, h, c, d)

pub early-stop : (ts : List Erased) (i : ℕ) (t : Erased) → i < length ts → t ≡ get_or ts i t → early_ones ts ≡ i + early_ones (drop i ts) → is_early t ≡ false → i ≡ early_ones ts
early-stop ts i t l e h f =
    let c : early_ones (drop i ts) ≡ 0 = ap early_ones (at-cons ts i t l e) ∙ early-cons t (drop (suc i) ts) ∙ rw f refl in
    omega (arith, h, c)

pub early-end : (ts : List Erased) (i : ℕ) → length ts ≤ i → i ≤ length ts → early_ones ts ≡ i + early_ones (drop i ts) → length ts ≡ early_ones ts
early-end ts i l m h =
    let c : early_ones (drop i ts) ≡ 0 = ap early_ones (drop_all i ts l) ∙ early-nil in
    omega (arith, l, m, h, c)

-- all of them, split at its place
abbrev pub voids : Bool → List (Option Erased)
voids b = cond b (None ∷ []) []

pub listed-split : (ts : List Erased) (b : Bool) (p : ℕ) → p ≡ number_in (record { types = ts; void = b }) None → map Some (take p ts) ++ voids b ++ map Some (drop p ts) ≡ listed (record { types = ts; void = b })
listed-split ts true p e = joined (map Some (take p ts)) (map Some (drop p ts)) ∙ ap (λ n. with_void n ts) e ∙ sym (listed-void ts)
  where
    joined : (xs ys : List (Option Erased)) → (xs ++ None ∷ []) ++ ys ≡ xs ++ None ∷ ys
    joined [] ys = refl
    joined (x ∷ xs) ys = ap (λ (z : List (Option Erased)). x ∷ z) (joined xs ys)
listed-split ts false p e =
    let n : p ≡ length ts = e ∙ sym (number-plain ts) in
    ap (λ (z : List (Option Erased)). z ++ map Some (drop p ts)) (append-nil (map Some (take p ts)))
    ∙ ap (λ (z : List Erased). map Some (take p ts) ++ map Some z) (drop_all p ts (omega (arith, n)))
    ∙ append-nil (map Some (take p ts))
    ∙ ap (λ (z : List Erased). map Some z) (take_all p ts (omega (arith, n)))
    ∙ sym (listed-plain ts)

pub count-void : (ts : List Erased) → count (record { types = ts; void = true }) ≡ suc (length ts)
count-void ts = ap length (listed-void ts) ∙ long (number_in (record { types = ts; void = true }) None) ts
  where
    mapped : (us : List Erased) → length (map Some us) ≡ length us
    mapped [] = refl
    mapped (u ∷ us) = ap suc (mapped us)

    long : (n : ℕ) (us : List Erased) → length (with_void n us) ≡ suc (length us)
    long zero [] = refl
    long zero (u ∷ us) = ap suc (mapped (u ∷ us))
    long (suc n) [] = refl
    long (suc n) (u ∷ us) = ap suc (long n us)

-- numbers behind the place move on
pub moved-low : (n k : ℕ) → k < n → moved n k ≡ k
moved-low n k l = let e : nat_lt k n ≡ true = search (rules, tests, arith) in rw e refl

pub moved-high : (n k : ℕ) → n ≤ k → moved n k ≡ suc k
moved-high n k l = let e : nat_lt k n ≡ false = search (rules, tests, arith) in rw e refl

pub lt-or : (k n : ℕ) → (k < n) ⊎ (n ≤ k)
lt-or k zero = inr (omega arith)
lt-or zero (suc n) = inl (omega arith)
lt-or (suc k) (suc n) = elim (lt-or k n) [ inl a ↦ inl (omega (arith, a)) | inr a ↦ inr (omega (arith, a)) ]

pub moved-suc : (n k : ℕ) → moved (suc n) (suc k) ≡ suc (moved n k)
moved-suc n k = elim (lt-or k n) [
  | inl l ↦ moved-low (suc n) (suc k) (omega (arith, l)) ∙ sym (ap suc (moved-low n k l))
  | inr l ↦ moved-high (suc n) (suc k) (omega (arith, l)) ∙ sym (ap suc (moved-high n k l))
]

place-some : (ts : List Erased) (t : Erased) → place_among (map Some ts) (Some t) ≡ place_in ts t
unfolding place_among place_in
place-some [] t = refl
place-some (u ∷ us) t = ap (λ n. cond (same_type t u) 0 (suc n)) (place-some us t)

place-behind : (us : List Erased) (t : Erased) → place_among (None ∷ map Some us) (Some t) ≡ suc (place_in us t)
unfolding place_among
place-behind us t = ap suc (place-some us t)

place-step : (b : Bool) (n m k : ℕ) → m ≡ moved n k → cond b 0 (suc m) ≡ moved (suc n) (cond b 0 (suc k))
place-step true n m k e = sym (moved-low (suc n) 0 (omega arith))
place-step false n m k e = ap suc e ∙ sym (moved-suc n k)

place-moved : (n : ℕ) (ts : List Erased) (t : Erased) → n ≤ length ts → place_among (with_void n ts) (Some t) ≡ moved n (place_in ts t)
unfolding place_among place_in
place-moved zero [] t l = place-behind [] t ∙ sym (moved-high 0 (place_in [] t) (omega arith))
place-moved zero (u ∷ us) t l = place-behind (u ∷ us) t ∙ sym (moved-high 0 (place_in (u ∷ us) t) (omega arith))
place-moved (suc n) [] t l = absurd (omega (arith, l))
place-moved (suc n) (u ∷ us) t l = place-step (same_type t u) n (place_among (with_void n us) (Some t)) (place_in us t) (place-moved n us t (omega (arith, l)))

pub void-within : (ts : List Erased) → number_in (record { types = ts; void = true }) None ≤ length ts
void-within ts = let e = number-void ts in let l = early-within ts in omega (arith, e, l)

pub number-moved : (ts : List Erased) (t : Erased) → moved (number_in (record { types = ts; void = true }) None) (place_in ts t) ≡ number_in (record { types = ts; void = true }) (Some t)
unfolding number_in
number-moved ts t = sym (ap (λ us. place_among us (Some t)) (listed-void ts) ∙ place-moved (number_in (record { types = ts; void = true }) None) ts t (void-within ts))

pub number-same : (ts : List Erased) (t : Erased) → place_in ts t ≡ number_in (record { types = ts; void = false }) (Some t)
unfolding number_in
number-same ts t = sym (ap (λ us. place_among us (Some t)) (listed-plain ts) ∙ place-some ts t)

pub some-moved : (ts : List Erased) (b : Bool) (t : Erased) (place at : ℕ) → b ≡ true → place ≡ number_in (record { types = ts; void = b }) None → at ≡ place_in ts t → moved place at ≡ number_in (record { types = ts; void = b }) (Some t)
some-moved ts true t place at e f g = rw (f, g) (number-moved ts t)
some-moved ts false t place at e f g = absurd (let h = e in cc)

pub some-same : (ts : List Erased) (b : Bool) (t : Erased) (at : ℕ) → b ≡ false → at ≡ place_in ts t → at ≡ number_in (record { types = ts; void = b }) (Some t)
some-same ts true t at e g = absurd (let h = e in cc)
some-same ts false t at e g = g ∙ number-same ts t

-- what stands at a number
get-some : (ts : List Erased) (i : ℕ) (d : Erased) → i < length ts → get_or (map Some ts) i None ≡ Some (get_or ts i d)
get-some [] i d l = absurd (omega (arith, l))
get-some (t ∷ ts) zero d l = refl
get-some (t ∷ ts) (suc i) d l = get-some ts i d (omega (arith, l))

pub get-moved : (n : ℕ) (ts : List Erased) (i : ℕ) (d : Erased) → i < length ts → get_or (with_void n ts) (moved n i) None ≡ Some (get_or ts i d)
get-moved n [] i d l = absurd (omega (arith, l))
get-moved zero (t ∷ ts) i d l = ap (λ k. get_or (None ∷ map Some (t ∷ ts)) k None) (moved-high 0 i (omega arith)) ∙ get-some (t ∷ ts) i d l
get-moved (suc n) (t ∷ ts) zero d l = ap (λ k. get_or (with_void (suc n) (t ∷ ts)) k None) (moved-low (suc n) 0 (omega arith))
get-moved (suc n) (t ∷ ts) (suc i) d l = ap (λ k. get_or (with_void (suc n) (t ∷ ts)) k None) (moved-suc n i) ∙ get-moved n ts i d (omega (arith, l))

pub get-void : (n : ℕ) (ts : List Erased) → n ≤ length ts → get_or (with_void n ts) n None ≡ None
get-void zero [] l = refl
get-void zero (t ∷ ts) l = refl
get-void (suc n) [] l = absurd (omega (arith, l))
get-void (suc n) (t ∷ ts) l = get-void n ts (omega (arith, l))

-- what stands among all types and has a value stands among those of values
any_of : (Erased → Bool) → Option Erased → Bool
any_of test None = false
any_of test (Some t) = test t

some-any : (test : Erased → Bool) (ts : List Erased) → list_any (any_of test) (map Some ts) ≡ list_any test ts
unfolding any_of
some-any test [] = refl
some-any test (t ∷ ts) = ap (λ b. test t || b) (some-any test ts)

any-at : (test : Erased → Bool) (us : List (Option Erased)) (i : ℕ) (t : Erased) → get_or us i None ≡ Some t → test t ≡ true → list_any (any_of test) us ≡ true
unfolding any_of
any-at test [] i t e f = absurd (let h = e in cc)
any-at test (u ∷ us) zero t e f = let h : u ≡ Some t = e in or_left (any_of test u) (list_any (any_of test) us) (subst (λ k. any_of test k ≡ true) (sym h) f)
any-at test (u ∷ us) (suc i) t e f = or_right (any_of test u) (list_any (any_of test) us) (any-at test us i t e f)

or-back : (test : Erased → Bool) (n : ℕ) (ts : List Erased) → list_any (any_of test) (with_void n ts) ≡ list_any test ts
unfolding any_of
or-back test zero [] = refl
or-back test zero (t ∷ ts) = some-any test (t ∷ ts)
or-back test (suc n) [] = refl
or-back test (suc n) (t ∷ ts) = ap (λ b. test t || b) (or-back test n ts)

any-listed : (test : Erased → Bool) (ts : List Erased) (b : Bool) → list_any (any_of test) (listed (record { types = ts; void = b })) ≡ list_any test ts
any-listed test ts true = ap (λ (us : List (Option Erased)). list_any (any_of test) us) (listed-void ts) ∙ or-back test (number_in (record { types = ts; void = true }) None) ts
any-listed test ts false = ap (λ (us : List (Option Erased)). list_any (any_of test) us) (listed-plain ts) ∙ some-any test ts

pub some-listed : (ks : Kinds) (test : Erased → Bool) (i : ℕ) (t : Erased) → get_or (listed ks) i None ≡ Some t → test t ≡ true → list_any test ks.types ≡ true
some-listed ks test i t e f = sym (any-listed test ks.types ks.void) ∙ any-at test (listed ks) i t e f

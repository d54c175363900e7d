-- The dimensions of types, by the signs that spell them.
use Rattle.std.proofs.Common.{◌≡◌, ◌≢◌, ◌<◌, ◌≤◌, ◌==◌, ℕ, zero, suc, ◌+◌, ◌-◌, ◌*◌, ◌/◌, Bool, true, false, ◌&&◌, ◌||◌, not, if◌then◌else◌, List, [], ◌∷◌, length, drop, map, codes, refl, sym, subst, arith, rules, tests, Some, None}
use Rattle.std.proofs.lemmas.List.{length-drop}
use Rattle.java_units.specs.declared.entries.Entry.TheVariants as entry
use Rattle.java_units.specs.declared.types.TypeText.{TypeText}
use Rattle.java_units.specs.declared.types.TypeVar.{TypeVar}
use Rattle.java_units.specs.Signs.{Sign, is}
use Rattle.java_units.specs.Forms.{begins, begins_any, begins_name, starts, span, base_len, dim_len, dims_len, dots_len, type_len, wide_len, bound_len, bounds_len, ahead_len, vars_len, var_len, next_len, entry_len, entries_len, entries, more}
use Rattle.java_units.specs.Forms as forms
use Rattle.java_units.specs.Values.{type_text, bound_of, var_of, vars_of}
use Rattle.java_units.specs.Dimensions.{over_vars, bound_dims}
use Rattle.java_units.proofs.Walks.{span-none, span-more}

if_least : (b : Bool) (m n : ℕ) → m ≤ n → (if b then m else 0) ≤ n
if_least true m n l = l
if_least false m n l = omega arith

both_least : (b : Bool) (m n : ℕ) → (if b && false then m else 0) ≤ n
both_least true m n = omega arith
both_least false m n = omega arith

dim_within : (ss : List Sign) → dim_len ss ≤ length ss
unfolding dim_len begins
dim_within [] = omega arith
dim_within (s ∷ []) = both_least (is (codes "[") s) 2 1
dim_within (s ∷ t ∷ ss) = let l : 2 ≤ suc (suc (length ss)) = omega arith in if_least (is (codes "[") s && is (codes "]") t) 2 (suc (suc (length ss))) l

either_least : (a b : Bool) (m n : ℕ) → (if a || true then 0 else if b then m else 0) ≤ n
either_least true b m n = omega arith
either_least false b m n = omega arith

none_least : (a : Bool) (n : ℕ) → (if a then 0 else 0) ≤ n
none_least true n = omega arith
none_least false n = omega arith

three_least : (a b : Bool) (n : ℕ) → 3 ≤ n → (if a then 0 else if b then 3 else 0) ≤ n
three_least true b n l = omega arith
three_least false true n l = l
three_least false false n l = omega arith

pub dots_within : (ss : List Sign) → dots_len ss ≤ length ss
unfolding dots_len begins
dots_within [] = omega arith
dots_within (s ∷ []) = either_least (not (is (codes ".") s)) false 3 1
dots_within (s ∷ t ∷ []) = none_least (not (is (codes ".") s) || not (is (codes ".") t)) 2
dots_within (s ∷ t ∷ u ∷ ss) = let l : 3 ≤ suc (suc (suc (length ss))) = omega arith in three_least (not (is (codes ".") s) || not (is (codes ".") t)) (is (codes ".") u) (suc (suc (suc (length ss)))) l

-- forms one after the other, each of them no longer than what it is read from
pub span_within : (n : ℕ) (f : List Sign → ℕ) → ((x : List Sign) → f x ≤ length x) → (xs : List Sign) (m : ℕ) → m ≡ f xs → length xs ≤ n → span f xs ≤ length xs
span_within n f h xs zero e l = omega (arith, span-none f xs (sym e))
span_within zero f h xs (suc m) e l = absurd (omega (arith, h xs, e, l))
span_within (suc n) f h xs (suc m) e l =
    let z : suc m ≢ 0 = omega arith in
    let p : 0 < length xs = omega (arith, h xs, e) in
    let a = span-more f xs (suc m) e z p in
    let d = length-drop (suc m) xs in
    let k : length (drop (suc m) xs) ≤ n = omega (arith, d, l) in
    let r = span_within n f h (drop (suc m) xs) (f (drop (suc m) xs)) refl k in
    omega (arith, a, d, r, h xs, e)

pub dims_within : (xs : List Sign) → dims_len xs ≤ length xs
dims_within xs = let l : length xs ≤ length xs = omega arith in span_within (length xs) dim_len dim_within xs (dim_len xs) refl l

-- a number that is at most four thirds of another one
abbrev pub Few : ℕ → ℕ → Type 0
Few n k = 3 * k ≤ 4 * n

type_few : (n extra : ℕ) (x : List Sign) → length x ≤ n → 6 * extra ≤ 5 * n → Few n (type_text extra x).dims
unfolding type_text
type_few n extra x l e = omega (arith, dims_within (drop (base_len x) x), length-drop (base_len x) x, l, e)

pub plain_few : (n : ℕ) (x : List Sign) → length x ≤ n → Few n (type_text 0 x).dims
plain_few n x l = let e : 6 * 0 ≤ 5 * n = omega arith in type_few n 0 x l e

pub field_few : (n : ℕ) (x y : List Sign) → length x ≤ n → length y ≤ n → Few n (type_text (dims_len (drop 1 y) / 2) x).dims
field_few n x y l k =
    let e : 6 * (dims_len (drop 1 y) / 2) ≤ 5 * n = omega (arith, dims_within (drop 1 y), length-drop 1 y, k) in
    type_few n (dims_len (drop 1 y) / 2) x l e

pub param_few : (n : ℕ) (x : List Sign) → length x ≤ n → Few n (type_text (dots_len (drop (type_len x) x) / 3 + dims_len (drop 1 (drop (wide_len x) x)) / 2) x).dims
param_few n x l =
    let y = drop (type_len x) x in
    let z = drop (wide_len x) x in
    let a : 3 * (dots_len y / 3) ≤ n = omega (arith, dots_within y, length-drop (type_len x) x, l) in
    let b : 2 * (dims_len (drop 1 z) / 2) ≤ n = omega (arith, dims_within (drop 1 z), length-drop 1 z, length-drop (wide_len x) x, l) in
    let e : 6 * (dots_len y / 3 + dims_len (drop 1 z) / 2) ≤ 5 * n = omega (arith, a, b) in
    type_few n (dots_len y / 3 + dims_len (drop 1 z) / 2) x l e

-- what a type variable spells pays for its bound

pay_if : (b : Bool) (k m : ℕ) → (m ≢ 0 → k ≤ m) → (if b then m else 0) ≢ 0 → k ≤ (if b then m else 0)
pay_if true k m h z = h z
pay_if false k m h z = absurd (z refl)

pay_unless : (n k m : ℕ) → (n ≢ 0 → k ≤ m) → (if n == 0 then 0 else m) ≢ 0 → k ≤ (if n == 0 then 0 else m)
pay_unless zero k m h z = absurd (z refl)
pay_unless (suc n) k m h z = let s : suc n ≢ 0 = omega arith in let e : (suc n == 0) ≡ false = search (rules, tests) in rw (e) (h s)

type_pays : (y : List Sign) → type_len y ≢ 0 → 2 * (type_text 0 y).dims ≤ type_len y
unfolding type_len type_text
type_pays y z = pay_unless (base_len y) _ (base_len y + dims_len (drop (base_len y) y)) (λ s. omega arith) z

extends_pays : (x : List Sign) → bounds_len x ≢ 0 → 2 * (type_text 0 (drop 1 x)).dims ≤ bounds_len x
unfolding bounds_len
extends_pays x z =
    let n = type_len (drop 1 x) in
    let m = (1 + n) + span bound_len (drop (1 + n) x) in
    let k = 2 * (type_text 0 (drop 1 x)).dims in
    pay_if (begins (codes "extends") x) k (if n == 0 then 0 else m) (pay_unless n k m (λ s. omega (arith, type_pays (drop 1 x) s))) z

bound_if : (m : ℕ) (t : TypeText) → (m ≢ 0 → 2 * t.dims ≤ m) → 2 * bound_dims (if m == 0 then None else Some t) ≤ m
bound_if zero t h = omega arith
bound_if (suc m) t h = let s : suc m ≢ 0 = omega arith in let e : (suc m == 0) ≡ false = search (rules, tests) in rw (e) (h s)

bound_pays : (x : List Sign) → 2 * bound_dims (bound_of x) ≤ bounds_len x
unfolding bound_of
bound_pays x = bound_if (bounds_len x) (type_text 0 (drop 1 x)) (extends_pays x)

var_pays : (x : List Sign) → var_len x ≢ 0 → 2 * bound_dims (var_of x).bound ≤ var_len x
unfolding var_len var_of
var_pays x z = pay_if (begins_name x) _ (1 + bounds_len (drop 1 x)) (λ s. omega (arith, bound_pays (drop 1 x))) z

more_pays : (k m : ℕ) → (m ≢ 0 → k ≤ m) → more m ≢ 0 → k ≤ more m
more_pays k zero h z = absurd (z refl)
more_pays k (suc m) h z = let s : suc m ≢ 0 = omega arith in let e : (suc m == 0) ≡ false = search (rules, tests) in rw (e) (omega (arith, h s))

next_pays : (x : List Sign) → next_len entry.Var x ≢ 0 → 2 * bound_dims (var_of (drop 1 x)).bound ≤ next_len entry.Var x
unfolding next_len
next_pays x z = pay_if (begins (codes ",") x) _ (more (var_len (drop 1 x))) (more_pays _ (var_len (drop 1 x)) (var_pays (drop 1 x))) z

-- each of these lists has the property
abbrev pub Each : (List Sign → Type 0) → List (List Sign) → Type 0
Each P [] = Unit {0}
Each P (x ∷ xs) = P x × Each P xs

each_if : (m : ℕ) (P : List Sign → Type 0) (xs : List (List Sign)) → (m ≢ 0 → Each P xs) → Each P (if m == 0 then [] else xs)
each_if zero P xs h = tt
each_if (suc m) P xs h = let s : suc m ≢ 0 = omega arith in let e : (suc m == 0) ≡ false = search (rules, tests) in subst (λ b. Each P (if b then [] else xs)) (sym e) (h s)

starts_each : (ss : List Sign) (f : List Sign → ℕ) (P : List Sign → Type 0) (k : ℕ) → ((x : List Sign) → f x ≢ 0 → P x) → Each P (starts f k ss)
unfolding starts
starts_each [] f P zero h = tt
starts_each [] f P (suc k) h = tt
starts_each (s ∷ ss) f P (suc k) h = starts_each ss f P k h
starts_each (s ∷ ss) f P zero h = each_if (f (s ∷ ss)) P ((s ∷ ss) ∷ starts f (f (s ∷ ss) - 1) ss) (λ z. (h (s ∷ ss) z, starts_each ss f P (f (s ∷ ss) - 1) h))

abbrev Pays : List Sign → Type 0
Pays x = 2 * bound_dims (var_of (drop 1 x)).bound ≤ next_len entry.Var x

abbrev sums : List (List Sign) → ℕ
sums xs = over_vars bound_dims (map var_of xs)

tails_pay : (xs : List (List Sign)) → Each Pays xs → 2 * sums (map (drop 1) xs) ≤ forms.total (next_len entry.Var) xs
unfolding forms.total
tails_pay [] h = omega arith
tails_pay (x ∷ xs) h = omega (arith, h.0, tails_pay xs h.1)

sums_if : (m k : ℕ) (xs : List (List Sign)) → (m ≢ 0 → 2 * sums xs ≤ k) → 2 * sums (if m == 0 then [] else xs) ≤ (if m == 0 then 0 else k)
sums_if zero k xs h = omega arith
sums_if (suc m) k xs h = let s : suc m ≢ 0 = omega arith in let e : (suc m == 0) ≡ false = search (rules, tests) in rw (e) (h s)

entries_pay : (ss : List Sign) → 2 * sums (entries entry.Var ss) ≤ entries_len entry.Var ss
unfolding entries entries_len span
entries_pay ss =
    let n = var_len ss in
    let r = starts (next_len entry.Var) 0 (drop n ss) in
    let t = tails_pay r (starts_each (drop n ss) (next_len entry.Var) Pays 0 next_pays) in
    sums_if n (n + forms.total (next_len entry.Var) r) (ss ∷ map (drop 1) r) (λ z. omega (arith, var_pays ss z, t))

begins_some : (w : List ℕ) (ss : List Sign) → begins w ss ≡ true → 0 < length ss
unfolding begins
begins_some w [] e = absurd (cc)
begins_some w (s ∷ ss) e = omega arith

vars_if : (a c : Bool) (n k l : ℕ) → (c ≡ true → n < l) → (if a then (if n == 0 then 0 else if c then k else 0) else 0) ≢ 0 → n < l
vars_if true true n k l h z = h refl
vars_if true false zero k l h z = absurd (z refl)
vars_if true false (suc n) k l h z = let e : (suc n == 0) ≡ false = search (rules, tests) in absurd (z (rw (e) refl))
vars_if false c n k l h z = absurd (z refl)

vars_within : (ss : List Sign) → vars_len ss ≢ 0 → entries_len entry.Var (drop 1 ss) < length ss
unfolding vars_len
vars_within ss z =
    let n = entries_len entry.Var (drop 1 ss) in
    vars_if (begins (codes "<") ss) (begins (codes ">") (drop (1 + n) ss)) n ((1 + n) + 1) (length ss) (λ e. omega (arith, begins_some (codes ">") (drop (1 + n) ss) e, length-drop (1 + n) ss)) z

list_if : (m k : ℕ) (vs : List TypeVar) → (m ≢ 0 → 2 * over_vars bound_dims vs ≤ k) → 2 * over_vars bound_dims (if m == 0 then [] else vs) ≤ k
list_if zero k vs h = omega arith
list_if (suc m) k vs h = let s : suc m ≢ 0 = omega arith in let e : (suc m == 0) ≡ false = search (rules, tests) in rw (e) (h s)

pub vars_pay : (ss : List Sign) → 2 * over_vars bound_dims (vars_of ss) ≤ length ss
unfolding vars_of
vars_pay ss = list_if (vars_len ss) (length ss) (map var_of (entries entry.Var (drop 1 ss))) (λ z. omega (arith, vars_within ss z, entries_pay (drop 1 ss)))

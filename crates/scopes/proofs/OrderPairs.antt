-- Pairs of an order.
use Rattle.std.proofs.Common.{◌≡◌, ◌≢◌, ◌∙◌, ap, sym, arith, ℕ, zero, suc, ◌+◌, ◌<◌, ◌≤◌, ◌==◌, ◌&&◌, ◌||◌, not, nat_lt, refl, Bool, true, false, rules, tests, subst, ◌⊎◌, inl, inr, Option, Some, None, List, [], ◌∷◌, ◌++◌, if◌then◌else◌, append_assoc}
use Rattle.std.proofs.lemmas.List.Folds.{list_any-append}
use Rattle.std.proofs.lemmas.List.{append-nil}
use Rattle.terms.specs.Typing.{is_pair}
use Rattle.terms.specs.Faults.{or_then, unless, first_below, pair_fault, pairs_fault, is_gap, order_fault}
use Rattle.terms.specs.declared.fault.EnvFault.{EnvFault}
use Rattle.terms.specs.declared.fault.EnvFault.TheVariants.{NotTransitive}
use Rattle.offers.specs.Pairs.{row_of, rows_of, pairs_of}

no_true : false ≡ true → ⊥
no_true e = search rules

true_or : (a : Bool) → (a ≡ true) ⊎ (a ≡ false)
true_or true = inl refl
true_or false = inr refl

or_true : (a b : Bool) → (a || b) ≡ true → (a ≡ true) ⊎ (b ≡ true)
or_true true b e = inl refl
or_true false b e = inr e

or_left : (a b : Bool) → a ≡ true → (a || b) ≡ true
or_left a b e = rw e refl

or_right : (a b : Bool) → b ≡ true → (a || b) ≡ true
or_right true b e = refl
or_right false b e = e

pair_joined : (xs ys : List (ℕ × ℕ)) (a b : ℕ) → is_pair (xs ++ ys) a b ≡ (is_pair xs a b || is_pair ys a b)
unfolding is_pair
pair_joined xs ys a b = list_any-append (λ p. (p.0 == a) && (p.1 == b)) xs ys

one_pair : (x y a b : ℕ) → is_pair ((x, y) ∷ []) a b ≡ true → (x ≡ a) × (y ≡ b)
unfolding is_pair
one_pair x y a b e = (search (rules, tests), search (rules, tests))

this_pair : (x y : ℕ) → is_pair ((x, y) ∷ []) x y ≡ true
unfolding is_pair
this_pair x y = search (rules, tests)

no_pair : (a b : ℕ) → is_pair [] a b ≡ false
unfolding is_pair
no_pair a b = refl

-- what stands in a row
if_pair : (t : Bool) (x y a b : ℕ) → is_pair (if t then (x, y) ∷ [] else []) a b ≡ true → (t ≡ true) × (x ≡ a) × (y ≡ b)
if_pair true x y a b e = let h = one_pair x y a b e in (refl, h.0, h.1)
if_pair false x y a b e = absurd (no_true (sym (no_pair a b) ∙ e))

row_known : (below : ℕ → ℕ → Bool) (x n a b : ℕ) → is_pair (row_of below x n) a b ≡ true → (a ≡ x) × (b < n) × (below a b ≡ true)
unfolding row_of
row_known below x zero a b e = absurd (no_true (sym (no_pair a b) ∙ e))
row_known below x (suc n) a b e = elim (or_true (is_pair (row_of below x n) a b) (is_pair (if below x n then (x, n) ∷ [] else []) a b) (sym (pair_joined (row_of below x n) (if below x n then (x, n) ∷ [] else []) a b) ∙ e)) [
  | inl h ↦ let k = row_known below x n a b h in (k.0, omega (arith, k.1), k.2)
  | inr h ↦ let k = if_pair (below x n) x n a b h in (sym k.1, omega (arith, k.2), subst (λ z. below z b ≡ true) k.1 (subst (λ z. below x z ≡ true) k.2 k.0))
]

last_or : (k n : ℕ) → k < suc n → (k ≡ n) ⊎ (k < n)
last_or zero zero l = inl refl
last_or zero (suc n) l = inr (omega arith)
last_or (suc k) zero l = absurd (omega arith)
last_or (suc k) (suc n) l = elim (last_or k n (omega arith)) [ inl a ↦ inl (ap suc a) | inr b ↦ inr (omega (arith, b)) ]

row_there : (below : ℕ → ℕ → Bool) (x n b : ℕ) → b < n → below x b ≡ true → is_pair (row_of below x n) x b ≡ true
unfolding row_of
row_there below x zero b l e = absurd (omega arith)
row_there below x (suc n) b l e = pair_joined (row_of below x n) (if below x n then (x, n) ∷ [] else []) x b ∙ elim (last_or b n l) [
  | inl h ↦ let t : below x n ≡ true = subst (λ z. below x z ≡ true) h e in or_right (is_pair (row_of below x n) x b) _ (subst (λ z. is_pair (if z then (x, n) ∷ [] else []) x b ≡ true) (sym t) (subst (λ z. is_pair ((x, n) ∷ []) x z ≡ true) (sym h) (this_pair x n)))
  | inr h ↦ or_left (is_pair (row_of below x n) x b) _ (row_there below x n b h e)
]

pub rows_known : (n : ℕ) (below : ℕ → ℕ → Bool) (m a b : ℕ) → is_pair (rows_of n below m) a b ≡ true → (a < m) × (b < n) × (below a b ≡ true)
unfolding rows_of
rows_known n below zero a b e = absurd (no_true (sym (no_pair a b) ∙ e))
rows_known n below (suc m) a b e = elim (or_true (is_pair (rows_of n below m) a b) (is_pair (row_of below m n) a b) (sym (pair_joined (rows_of n below m) (row_of below m n) a b) ∙ e)) [
  | inl h ↦ let k = rows_known n below m a b h in (omega (arith, k.0), k.1, k.2)
  | inr h ↦ let k = row_known below m n a b h in (omega (arith, k.0), k.1, k.2)
]

pub rows_there : (n : ℕ) (below : ℕ → ℕ → Bool) (m a b : ℕ) → a < m → b < n → below a b ≡ true → is_pair (rows_of n below m) a b ≡ true
unfolding rows_of
rows_there n below zero a b l k e = absurd (omega arith)
rows_there n below (suc m) a b l k e = pair_joined (rows_of n below m) (row_of below m n) a b ∙ elim (last_or a m l) [
  | inl h ↦ or_right (is_pair (rows_of n below m) a b) _ (subst (λ z. is_pair (row_of below z n) a b ≡ true) h (row_there below a n b k e))
  | inr h ↦ or_left (is_pair (rows_of n below m) a b) _ (rows_there n below m a b h k e)
]

-- transitivity
none_first : (f : ℕ → Option EnvFault) (n : ℕ) → ((k : ℕ) → f k ≡ None) → first_below f n ≡ None
unfolding first_below
none_first f zero h = refl
none_first f (suc n) h = rw (none_first f n h) (h n)

gap_free : (p q r : Bool) → (p ≡ true → q ≡ true → r ≡ true) → (not ((p && q) && not r)) ≡ true
gap_free true true r h = rw (h refl refl) refl
gap_free true false r h = refl
gap_free false q r h = refl

unless_true : (t : Bool) (f : EnvFault) → t ≡ true → unless t f ≡ None
unless_true t f e = rw e refl

pub order_right : (n : ℕ) (below : ℕ → ℕ → Bool) → ((a b c : ℕ) → below a b ≡ true → below b c ≡ true → below a c ≡ true) → order_fault n (pairs_of n below) ≡ None
unfolding order_fault
order_right n below through =
    let ps = pairs_of n below in
    none_first (λ a. first_below (λ b. first_below (λ c. unless (not (is_gap ps a b c)) (NotTransitive a b c)) n) n) n (λ a.
    none_first (λ b. first_below (λ c. unless (not (is_gap ps a b c)) (NotTransitive a b c)) n) n (λ b.
    none_first (λ c. unless (not (is_gap ps a b c)) (NotTransitive a b c)) n (λ c.
    unless_true (not (is_gap ps a b c)) (NotTransitive a b c) (gap_free (is_pair ps a b) (is_pair ps b c) (is_pair ps a c) (λ h k.
    let x = rows_known n below n a b h in let y = rows_known n below n b c k in
    rows_there n below n a c x.0 y.1 (through a b c x.2 y.2))))))

-- single pairs
then_none : (a b : Option EnvFault) → a ≡ None → b ≡ None → or_then a b ≡ None
then_none a b e f = rw (e, f) refl

first_part : (a b : Option EnvFault) → or_then a b ≡ None → a ≡ None
first_part None b e = refl
first_part (Some f) b e = e

second_part : (a b : Option EnvFault) → or_then a b ≡ None → b ≡ None
second_part None b e = e
second_part (Some f) b e = absurd (search (rules, e))

fault_joined : (types k : ℕ) (earlier xs ys : List (ℕ × ℕ)) → pairs_fault types k earlier xs ≡ None → ((j : ℕ) → pairs_fault types j (earlier ++ xs) ys ≡ None) → pairs_fault types k earlier (xs ++ ys) ≡ None
unfolding pairs_fault
fault_joined types k earlier [] ys e f = subst (λ z. pairs_fault types k z ys ≡ None) (append-nil earlier) (f k)
fault_joined types k earlier (x ∷ xs) ys e f = then_none (pair_fault types k earlier x) _ (first_part (pair_fault types k earlier x) _ e) (fault_joined types (k + 1) (earlier ++ x ∷ []) xs ys (second_part (pair_fault types k earlier x) _ e) (λ j. subst (λ z. pairs_fault types j z ys ≡ None) (sym (append_assoc earlier (x ∷ []) xs)) (f j)))

pair_right : (types k m n : ℕ) (earlier : List (ℕ × ℕ)) → m < types → n < types → m ≢ n → is_pair earlier m n ≡ false → pairs_fault types k earlier ((m, n) ∷ []) ≡ None
unfolding pairs_fault pair_fault
pair_right types k m n earlier l h d e =
    let a : nat_lt m types ≡ true = search (rules, tests, arith) in
    let b : nat_lt n types ≡ true = search (rules, tests, arith) in
    let c : (m == n) ≡ false = search (rules, tests) in
    rw (a, b, c, e) refl

if_right : (t : Bool) (types k m n : ℕ) (earlier : List (ℕ × ℕ)) → m < types → n < types → (t ≡ true → m ≢ n) → is_pair earlier m n ≡ false → pairs_fault types k earlier (if t then (m, n) ∷ [] else []) ≡ None
unfolding pairs_fault
if_right true types k m n earlier l h d e = pair_right types k m n earlier l h (d refl) e
if_right false types k m n earlier l h d e = refl

not_pair : (ps : List (ℕ × ℕ)) (a b : ℕ) → (is_pair ps a b ≡ true → ⊥) → is_pair ps a b ≡ false
not_pair ps a b h = elim (true_or (is_pair ps a b)) [ inl e ↦ absurd (h e) | inr e ↦ e ]

apart : (below : ℕ → ℕ → Bool) → ((a : ℕ) → below a a ≡ false) → (m n : ℕ) → below m n ≡ true → m ≢ n
apart below self m n e = λ q. no_true (sym (self n) ∙ subst (λ z. below z n ≡ true) q e)

row_right : (types : ℕ) (below : ℕ → ℕ → Bool) → ((a : ℕ) → below a a ≡ false) → (m n k : ℕ) → m < types → n ≤ types → pairs_fault types k (rows_of types below m) (row_of below m n) ≡ None
unfolding row_of pairs_fault
row_right types below self m zero k l h = refl
row_right types below self m (suc n) k l h = fault_joined types k (rows_of types below m) (row_of below m n) (if below m n then (m, n) ∷ [] else []) (row_right types below self m n k l (omega arith))
    (λ j. if_right (below m n) types j m n (rows_of types below m ++ row_of below m n) l (omega arith) (apart below self m n)
    (not_pair (rows_of types below m ++ row_of below m n) m n (λ e. elim (or_true (is_pair (rows_of types below m) m n) (is_pair (row_of below m n) m n) (sym (pair_joined (rows_of types below m) (row_of below m n) m n) ∙ e)) [
      | inl a ↦ let z = (rows_known types below m m n a).0 in omega (arith, z)
      | inr a ↦ let z = (row_known below m n m n a).1 in omega (arith, z)
    ])))

rows_right : (types : ℕ) (below : ℕ → ℕ → Bool) → ((a : ℕ) → below a a ≡ false) → (m k : ℕ) → m ≤ types → pairs_fault types k [] (rows_of types below m) ≡ None
unfolding rows_of pairs_fault
rows_right types below self zero k l = refl
rows_right types below self (suc m) k l = fault_joined types k [] (rows_of types below m) (row_of below m types) (rows_right types below self m k (omega arith)) (λ j. row_right types below self m types j (omega arith) (omega arith))

pub pairs_right : (n : ℕ) (below : ℕ → ℕ → Bool) → ((a : ℕ) → below a a ≡ false) → pairs_fault n 0 [] (pairs_of n below) ≡ None
pairs_right n below self = rows_right n below self n 0 (omega arith)

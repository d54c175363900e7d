-- The pairs in order: what each fault means, and what follows where there is none.
use Rattle.std.proofs.Common.{◌≡◌, ◌≢◌, inl, inr, ℕ, ◌+◌, ◌<◌, ◌≤◌, Bool, true, false, not, ◌&&◌, ◌==◌, nat_lt, List, [], ◌∷◌, ◌++◌, length, get_or, take, drop, Option, Some, None, refl, sym, subst, ◌∙◌, arith}
use Rattle.std.proofs.lemmas.Bool.{eq-eqb, ne_eqb, eqb-true, lt-ltb, le-ltb, ltb-true, and_parts, or_cases, both_ways, not-true}
use Rattle.std.proofs.lemmas.List.{drop_more, drop_all, take_more}
use Rattle.terms.specs.Typing.{is_pair}
use Rattle.terms.specs.Table.{IsTable}
use Rattle.terms.specs.Faults.{or_then, unless, pair_fault, pairs_fault}
use Rattle.terms.specs.declared.fault.EnvFault.{EnvFault}
use Rattle.terms.specs.declared.fault.EnvFault.TheVariants.{PairRange, PairTwice}

-- where neither is a fault
pub or_then-none : {X : Type 0} (a b : Option X) → or_then a b ≡ None → (a ≡ None) × (b ≡ None)
or_then-none None b h = (refl, h)
or_then-none (Some x) b h = cc

-- where a test isn't at fault, it holds
pub unless-none : (t : Bool) (f : EnvFault) → unless t f ≡ None → t ≡ true
unless-none true f h = refl
unless-none false f h = cc

and_false : (a : Bool) → a && false ≡ false
and_false true = refl
and_false false = refl

-- a side that is no type's number, or both sides alike
pub pair-low : (types n : ℕ) (earlier : List (ℕ × ℕ)) (lower upper : ℕ) → types ≤ lower → pair_fault types n earlier (lower, upper) ≡ Some (PairRange n)
unfolding pair_fault
pair-low types n earlier lower upper h = rw (le-ltb lower types h) refl

pub pair-high : (types n : ℕ) (earlier : List (ℕ × ℕ)) (lower upper : ℕ) → types ≤ upper → pair_fault types n earlier (lower, upper) ≡ Some (PairRange n)
unfolding pair_fault
pair-high types n earlier lower upper h = rw (le-ltb upper types h, and_false (nat_lt lower types)) refl

pub pair-alike : (types n : ℕ) (earlier : List (ℕ × ℕ)) (lower upper : ℕ) → lower ≡ upper → pair_fault types n earlier (lower, upper) ≡ Some (PairRange n)
unfolding pair_fault
pair-alike types n earlier lower upper h = rw (eq-eqb lower upper h, and_false (nat_lt lower types && nat_lt upper types)) refl

-- a pair in range, by whether it stood before
pub pair-at : (types n : ℕ) (earlier : List (ℕ × ℕ)) (lower upper : ℕ) (stood : Bool) → lower < types → upper < types → lower ≢ upper → is_pair earlier lower upper ≡ stood
    → pair_fault types n earlier (lower, upper) ≡ unless (not stood) (PairTwice n)
unfolding pair_fault
pair-at types n earlier lower upper stood low high apart is = rw (lt-ltb lower types low, lt-ltb upper types high, ne_eqb lower upper apart, is) refl

-- the pairs from the i-th on
pairs-at : (types : ℕ) (pairs : List (ℕ × ℕ)) (i : ℕ) (p d : ℕ × ℕ) → i < length pairs → p ≡ get_or pairs i d
    → pairs_fault types i (take i pairs) (drop i pairs) ≡ or_then (pair_fault types i (take i pairs) p) (pairs_fault types (i + 1) (take (i + 1) pairs) (drop (i + 1) pairs))
unfolding pairs_fault
pairs-at types pairs i p d here is =
    rw (drop_more pairs i d here, sym is, take_more pairs i d here, sym is) refl

pub pairs-go : (types n : ℕ) (pairs : List (ℕ × ℕ)) (i : ℕ) (p d : ℕ × ℕ) → n ≡ types → i < length pairs → p ≡ get_or pairs i d → pair_fault n i (take i pairs) p ≡ None
    → pairs_fault types i (take i pairs) (drop i pairs) ≡ pairs_fault types (i + 1) (take (i + 1) pairs) (drop (i + 1) pairs)
pairs-go types n pairs i p d len here is good = pairs-at types pairs i p d here is ∙ rw (sym len, good) refl

pub pairs-stop : (types n : ℕ) (pairs : List (ℕ × ℕ)) (i : ℕ) (p d : ℕ × ℕ) (f : EnvFault) → n ≡ types → i < length pairs → p ≡ get_or pairs i d → pair_fault n i (take i pairs) p ≡ Some f
    → pairs_fault types i (take i pairs) (drop i pairs) ≡ Some f
pairs-stop types n pairs i p d f len here is bad = pairs-at types pairs i p d here is ∙ rw (sym len, bad) refl

-- the table of the pairs so far, and one more
pub table-next : (pairs : List (ℕ × ℕ)) (i : ℕ) (p d : ℕ × ℕ) (rows : List (List ℕ)) → i < length pairs → p ≡ get_or pairs i d → IsTable (take i pairs ++ p ∷ []) rows → IsTable (take (i + 1) pairs) rows
table-next pairs i p d rows here is table = subst (λ ps. IsTable ps rows) (rw (take_more pairs i d here, sym is) refl) table

pub pairs-end : (types : ℕ) (pairs : List (ℕ × ℕ)) (i : ℕ) → length pairs ≤ i → pairs_fault types i (take i pairs) (drop i pairs) ≡ None
unfolding pairs_fault
pairs-end types pairs i past = rw (drop_all i pairs past) refl

-- both sides of a pair are types, and differ
pub pairs-known : (types n : ℕ) (earlier pairs : List (ℕ × ℕ)) → pairs_fault types n earlier pairs ≡ None → (a b : ℕ) → is_pair pairs a b ≡ true → (a < types) × (b < types) × (a ≢ b)
unfolding pairs_fault is_pair pair_fault
pairs-known types n earlier [] none a b h = absurd (both_ways false refl h)
pairs-known types n earlier (p ∷ more) none a b h =
    let parts = or_then-none (pair_fault types n earlier p) (pairs_fault types (n + 1) (earlier ++ p ∷ []) more) none in
    elim (or_cases ((p.0 == a) && (p.1 == b)) (is_pair more a b) h) [
      | inl first ↦ known p first (or_then-none (unless ((nat_lt p.0 types && nat_lt p.1 types) && not (p.0 == p.1)) (PairRange n)) (unless (not (is_pair earlier p.0 p.1)) (PairTwice n)) parts.0).0
      | inr later ↦ pairs-known types (n + 1) (earlier ++ p ∷ []) more parts.1 a b later
    ]
  where
    apart_from : (x y : ℕ) → not (x == y) ≡ true → x ≢ y
    apart_from x y t e = both_ways (x == y) (not-true (x == y) t) (eq-eqb x y e)

    known : (p : ℕ × ℕ) → (p.0 == a) && (p.1 == b) ≡ true → unless ((nat_lt p.0 types && nat_lt p.1 types) && not (p.0 == p.1)) (PairRange n) ≡ None → (a < types) × (b < types) × (a ≢ b)
    known p same good =
        let is = and_parts (p.0 == a) (p.1 == b) same in
        let e0 = eqb-true p.0 a is.0 in
        let e1 = eqb-true p.1 b is.1 in
        let tests = and_parts (nat_lt p.0 types && nat_lt p.1 types) (not (p.0 == p.1)) (unless-none ((nat_lt p.0 types && nat_lt p.1 types) && not (p.0 == p.1)) (PairRange n) good) in
        let bounds = and_parts (nat_lt p.0 types) (nat_lt p.1 types) tests.0 in
        (omega (arith, ltb-true p.0 types bounds.0, e0), omega (arith, ltb-true p.1 types bounds.1, e1), λ e. apart_from p.0 p.1 tests.1 (e0 ∙ e ∙ sym e1))

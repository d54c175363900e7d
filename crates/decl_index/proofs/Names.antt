-- The order of names, and the test whether two are the same.
use Rattle.std.proofs.Common.{◌≡◌, ◌≢◌, Bool, true, false, Less, Equal, Greater, refl, sym, ap, subst, ◌∙◌, bytes_eq}
use Rattle.std.specs.Ordering.{ordering_reverse}
use Rattle.std.proofs.lemmas.Bool.{false_from_ne_true}
use Rattle.std.proofs.lemmas.Cmp.{nat_list_cmp_total, tied_itself}
use Rattle.std.proofs.lemmas.Map.Lookups.{exact_bytes}
use Rattle.std.proofs.lemmas.Slice.Eq.{bytes_eq-Decides}
use Rattle.decl_index.specs.History.{Name, order}

-- Whether n is the name a.
abbrev pub same : Name → Name → Bool
same a n = bytes_eq n a

pub before_after : (a b c : Name) → order a b ≡ Less → order b c ≡ Less → order a c ≡ Less
unfolding order
before_after a b c = nat_list_cmp_total.trans a b c

pub turned : (a b : Name) → order a b ≡ ordering_reverse (order b a)
unfolding order
turned a b = nat_list_cmp_total.antisymm a b

pub tied : (a : Name) → order a a ≡ Equal
unfolding order
tied a = tied_itself nat_list_cmp_total a

pub exact : (a b : Name) → order a b ≡ Equal → a ≡ b
unfolding order
exact a b e = exact_bytes a b e

pub greater : (a b : Name) → order a b ≡ Greater → order b a ≡ Less
greater a b e = turned b a ∙ ap ordering_reverse e

pub less_differs : (a b : Name) → order a b ≡ Less → a ≡ b → ⊥
less_differs a b l e = let k : order a a ≡ Less = subst (λ x. order a x ≡ Less) (sym e) l in let t : order a a ≡ Equal = tied a in absurd cc

pub less_back : (a b : Name) → order a b ≡ Less → order b a ≡ Less → ⊥
less_back a b l k = less_differs a a (before_after a b a l k) refl

pub same-itself : (a : Name) → same a a ≡ true
same-itself a = (bytes_eq-Decides a a).1 refl

pub same-true : (a n : Name) → same a n ≡ true → a ≡ n
same-true a n e = sym ((bytes_eq-Decides n a).0 e)

pub same-of : (a n : Name) → a ≡ n → same a n ≡ true
same-of a n e = (bytes_eq-Decides n a).1 (sym e)

pub same-false : (a n : Name) → (a ≡ n → ⊥) → same a n ≡ false
same-false a n h = false_from_ne_true (same a n) (λ e. h (same-true a n e))

-- What is below is not the same, whichever way.
pub apart : (a b : Name) → order a b ≡ Less → same a b ≡ false
apart a b l = same-false a b (less_differs a b l)

pub apart_back : (a b : Name) → order a b ≡ Less → same b a ≡ false
apart_back a b l = same-false b a (λ e. less_differs a b l (sym e))

pub equal_from : (a n : Name) → same a n ≡ true → order a n ≡ Equal
equal_from a n e = subst (λ x. order a x ≡ Equal) (same-true a n e) (tied a)

pub unequal_from : (a n : Name) → same a n ≡ false → order a n ≢ Equal
unequal_from a n e h = let k : same a n ≡ true = same-of a n (exact a n h) in absurd cc

-- The order of names by their bytes.
use Rattle.std.proofs.Common.{◌≡◌, ℕ, List, Less, Equal, Greater, Ordering, ap, ◌∙◌}
use Rattle.std.specs.Ordering.{nat_cmp, ordering_reverse}
use Rattle.std.specs.Cmp.Lexicographic.{slice_cmp}
use Rattle.std.proofs.lemmas.Cmp.{nat_list_cmp_total, tied_itself}
use Rattle.std.proofs.lemmas.Map.Lookups.{exact_bytes}

unfoldable pub order : List ℕ → List ℕ → Ordering
order a b = slice_cmp nat_cmp a b

pub before_after : (a b c : List ℕ) → order a b ≡ Less → order b c ≡ Less → order a c ≡ Less
unfolding order
before_after a b c = nat_list_cmp_total.trans a b c

pub turned : (a b : List ℕ) → order a b ≡ ordering_reverse (order b a)
unfolding order
turned a b = nat_list_cmp_total.antisymm a b

pub tied : (a : List ℕ) → order a a ≡ Equal
unfolding order
tied a = tied_itself nat_list_cmp_total a

pub exact : (a b : List ℕ) → order a b ≡ Equal → a ≡ b
unfolding order
exact a b e = exact_bytes a b e

pub greater : (a b : List ℕ) → order a b ≡ Greater → order b a ≡ Less
greater a b e = turned b a ∙ ap ordering_reverse e

pub less_back : (a b : List ℕ) → order a b ≡ Less → order b a ≡ Less → ⊥
less_back a b l k = let e : order a a ≡ Less = before_after a b a l k in let t : order a a ≡ Equal = tied a in absurd cc

-- What `split_once` gives, in the words of the definitions.
use Rattle.std.proofs.Common.{◌≡◌, ◌≢◌, ℕ, suc, ◌<◌, Bool, true, false, eqb, List, [], ◌∷◌, ◌++◌, length, get_or, Option, Some, None, refl, sym, ap, ◌∙◌, arith, rules}
use Rattle.std.specs.Borrow.{Bor}
use Rattle.std.specs.Option.{option_map, MatchOption}
use Rattle.std.proofs.lemmas.Bool.{eqb-true}
use Rattle.lsp_forms.specs.Keys.{cut}

decided : (b : Bool) → (b ≡ true → ⊥) → b ≡ false
decided true h = absurd (h refl)
decided false h = refl

same : (c : ℕ) → eqb c c ≡ true
same c = search rules

no_first : (c : ℕ) (bs : List ℕ) → ((i : ℕ) → i < length bs → get_or bs i 0 ≢ c) → (d : ℕ) (cs : List ℕ) → bs ≡ d ∷ cs → (eqb d c ≡ false) × ((i : ℕ) → i < length cs → get_or cs i 0 ≢ c)
no_first c bs h d cs e = (decided (eqb d c) (λ t. h 0 (rw e (omega arith)) (rw e (eqb-true _ _ t))), λ i lt. rw e at h (suc i) (omega (arith, lt)))

cut_none : (c : ℕ) (bs : List ℕ) → ((i : ℕ) → i < length bs → get_or bs i 0 ≢ c) → cut c bs ≡ None
unfolding cut
cut_none c [] h = refl
cut_none c (d ∷ ds) h = let n = no_first c (d ∷ ds) h d ds refl in rw (n.0, cut_none c ds n.1) refl

cut_some : (c : ℕ) (xs ys : List ℕ) → ((i : ℕ) → i < length xs → get_or xs i 0 ≢ c) → cut c (xs ++ (c ∷ ys)) ≡ Some (xs, ys)
unfolding cut
cut_some c [] ys h = rw (same c) refl
cut_some c (d ∷ ds) ys h = let n = no_first c (d ∷ ds) h d ds refl in rw (n.0, cut_some c ds ys n.1) refl

pub cut_is : (c : ℕ) (bs : List ℕ) (r : Option (Bor (List ℕ) × Bor (List ℕ))) → MatchOption r ((i : ℕ) → i < length bs → get_or bs i 0 ≢ c) (λ x. (bs ≡ x.0.now ++ (c ∷ x.1.now)) × ((i : ℕ) → i < length x.0.now → get_or x.0.now i 0 ≢ c)) → option_map (λ x. (x.0.now, x.1.now)) r ≡ cut c bs
cut_is c bs None h = sym (cut_none c bs h)
cut_is c bs (Some x) h = sym (ap (cut c) h.0 ∙ cut_some c x.0.now x.1.now h.1)

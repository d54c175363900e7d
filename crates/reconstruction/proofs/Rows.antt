-- What an edge's head, the lambdas below it and the state of its lower type are.
use Rattle.std.proofs.Common.{◌≡◌, ◌≢◌, ℕ, List, [], ◌∷◌, length, get_or, Option, Some, refl, sym, ap, subst, ◌∙◌, arith}
use Rattle.terms.specs.declared.parts.Arg.{Arg}
use Rattle.terms.specs.declared.parts.Arg.TheVariants.{Plain, Fun}
use Rattle.reconstruction.specs.NumberedPlaces.{with_lambda}
use Rattle.reconstruction.specs.Tabled.{numbered_under}
use Rattle.reconstruction.specs.Totals.{lambdas_by, lambdas_under}
use Rattle.reconstruction.specs.Ways.{Turns, IsHeadBy}
use Rattle.reconstruction.specs.declared.numbered_place.Lambdas.{Lambdas}
use Rattle.reconstruction.specs.declared.numbered_place.NumberedPlace.{NumberedPlace}
use Rattle.reconstruction.specs.declared.tables.Tables.{Tables}

pub row-other : (args : List Arg) (l : Lambdas) (k : ℕ) → length args ≢ 1 → l ≡ lambdas_by args l k
row-other [] l k h = refl
row-other (Plain b ∷ []) l k h = refl
row-other (Fun ps r ∷ []) l k h = absurd (h refl)
row-other (Plain b ∷ a ∷ more) l k h = refl
row-other (Fun ps r ∷ a ∷ more) l k h = refl

pub row-fun : (args : List Arg) (x : Arg) (ps : List ℕ) (r : ℕ) (l : Lambdas) (k : ℕ) → length args ≡ 1 → x ≡ get_or args 0 x → x ≡ Fun ps r → with_lambda l k ≡ lambdas_by args l k
row-fun [] x ps r l k n at is = absurd (omega (arith, n))
row-fun (a ∷ b ∷ more) x ps r l k n at is = absurd (omega (arith, n))
row-fun (a ∷ []) x ps r l k n at is = sym (ap (λ y. lambdas_by (y ∷ []) l k) (sym at ∙ is))

pub row-plain : (args : List Arg) (x : Arg) (b : ℕ) (l : Lambdas) (k : ℕ) → length args ≡ 1 → x ≡ get_or args 0 x → x ≡ Plain b → l ≡ lambdas_by args l k
row-plain [] x b l k n at is = absurd (omega (arith, n))
row-plain (a ∷ c ∷ more) x b l k n at is = absurd (omega (arith, n))
row-plain (a ∷ []) x b l k n at is = sym (ap (λ y. lambdas_by (y ∷ []) l k) (sym at ∙ is))

-- the turn of a declaration's edge
pub head-turn : (t : Tables) (p : NumberedPlace) (step k w : ℕ) (o : Option ℕ) (tails : List ℕ) → IsHeadBy t p step o w tails → o ≡ Some k → Turns t p step k w (numbered_under (lambdas_under t.env p.lambdas k) tails)
head-turn t p step k w o tails h is = subst (λ x. IsHeadBy t p step x w tails) is h

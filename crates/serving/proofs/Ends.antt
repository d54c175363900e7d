-- One end, taken out and put back.
use Rattle.std.proofs.Common.{◌≡◌, ◌≢◌, List, [], ◌∷◌, ◌++◌, length, Option, Some, refl, ap, subst, ◌∙◌, arith, length-append}
use Rattle.std.specs.Prelude.{option_to_list, All}
use Rattle.std.proofs.lemmas.List.Elements.{All-head}

-- the last of one leaves nothing
pub nothing-left : {X : Type 0} (xs rest : List X) (o : Option X) (x : X) → length xs ≡ 1 → xs ≡ rest ++ option_to_list o → o ≡ Some x → rest ≡ []
nothing-left xs [] o x one e is = refl
nothing-left xs (y ∷ ys) o x one e is =
    let all : xs ≡ (y ∷ ys) ++ x ∷ [] = e ∙ ap (λ p. (y ∷ ys) ++ option_to_list p) is in
    absurd (omega (arith, one, ap length all, length-append (y ∷ ys) (x ∷ [])))

pub was-one : {X : Type 0} (xs rest : List X) (o : Option X) (x : X) → rest ≡ [] → xs ≡ rest ++ option_to_list o → o ≡ Some x → xs ≡ x ∷ []
was-one xs rest o x none e is = e ∙ ap (λ p. rest ++ option_to_list p) is ∙ ap (λ ys. ys ++ x ∷ []) none

-- what holds of all holds of the one
pub of-one : {X : Type 0} (P : X → Type 0) → (xs rest : List X) (o : Option X) (x : X) → length xs ≡ 1 → xs ≡ rest ++ option_to_list o → o ≡ Some x → All P xs → P x
of-one P xs rest o x one e is all = All-head P x [] (subst (All P) (was-one xs rest o x (nothing-left xs rest o x one e is) e is) all)

-- and one put into nothing is the one
pub put-back : {X : Type 0} (rest all : List X) (x : X) → rest ≡ [] → all ≡ rest ++ x ∷ [] → all ≡ x ∷ []
put-back rest all x none e = e ∙ ap (λ ys. ys ++ x ∷ []) none

pub head-is : {X : Type 0} (x f : X) → x ∷ [] ≡ f ∷ [] → x ≡ f
head-is x f e = cc

pub no-one : {X : Type 0} (xs : List X) (x : X) → xs ≡ x ∷ [] → length xs ≢ 1 → ⊥
no-one xs x e other = other (ap length e)

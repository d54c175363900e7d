-- Which types are derivable from a set of types, with so many lambdas left (the succinct calculus of PLDI
-- 2013, section 3, with a count of lambdas). Wants are read off the declarations' arguments: a set of wants
-- is met where each of its members is.
use Rattle.std.specs.Prelude.{◌≡◌, ℕ, suc, true, List, [], ◌∷◌, slice_get, Some}
use Rattle.succinct.specs.Sets.{has, joined_with}
use Rattle.terms.specs.Typing.{is_below}
use Rattle.terms.specs.declared.parts.Arg.{Arg}
use Rattle.terms.specs.declared.parts.Arg.TheVariants.{Plain, Fun}
use Rattle.terms.specs.declared.parts.Decl.{Decl}
use Rattle.terms.specs.declared.parts.Parts.{Parts}

mutual
  -- a type of the set, what a pair leads to, or what a declaration gives whose wants are derivable
  pub data IsDerivable (g : Parts) : List ℕ → ℕ → ℕ → Type 0 where
    in_set : (set : List ℕ) (left b : ℕ) → has b set ≡ true → IsDerivable g set left b
    by_pair : (set : List ℕ) (left a b : ℕ) → is_below g a b ≡ true → IsDerivable g set left a → IsDerivable g set left b
    by_decl : (set : List ℕ) (left n : ℕ) (d : Decl) → slice_get g.decls n ≡ Some d → AreDerivable g set left d.args → IsDerivable g set left d.result

  -- each want: a value, or under a lambda its body over the larger set with one lambda fewer left
  pub data AreDerivable (g : Parts) : List ℕ → ℕ → List Arg → Type 0 where
    none : (set : List ℕ) (left : ℕ) → AreDerivable g set left []
    value : (set : List ℕ) (left b : ℕ) (more : List Arg) → IsDerivable g set left b → AreDerivable g set left more → AreDerivable g set left (Plain b ∷ more)
    lambda : (set : List ℕ) (left : ℕ) (ps : List ℕ) (r : ℕ) (more : List Arg) → IsDerivable g (joined_with set ps) left r → AreDerivable g set (suc left) more → AreDerivable g set (suc left) (Fun ps r ∷ more)

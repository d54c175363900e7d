-- The contexts in which terms are made: rows of parameters of lambdas, outermost first, from the empty context on.
use Rattle.std.specs.Prelude.{◌≡◌, ◌⊎◌, ℕ, ◌<◌, ◌≤◌, List, [], ◌∷◌, ◌++◌, length, slice_get, Some}
use Rattle.terms.specs.Weights.{binders_weight}
use Rattle.terms.specs.declared.parts.Arg.{Arg}
use Rattle.terms.specs.declared.parts.Arg.TheVariants.{Plain, Fun}
use Rattle.terms.specs.declared.parts.Decl.{Decl}
use Rattle.terms.specs.declared.parts.Parts.{Parts}

-- a context is among them
abbrev pub IsAmong : List (List (List ℕ)) → List (List ℕ) → Type 0
IsAmong contexts ctx = (n : ℕ) × (slice_get contexts n ≡ Some ctx)

-- what stood in the one list stands at the same place in the other
abbrev pub Keeps : List (List (List ℕ)) → List (List (List ℕ)) → Type 0
Keeps old new = (n : ℕ) (ctx : List (List ℕ)) → slice_get old n ≡ Some ctx → slice_get new n ≡ Some ctx

-- the context of a lambda's body is among them, unless its binders alone pass the limit
abbrev pub IsMet : Parts → List (List (List ℕ)) → List (List ℕ) → Arg → Type 0
IsMet g contexts ctx (Plain b) = Unit {0}
IsMet g contexts ctx (Fun ps r) = IsAmong contexts (ctx ++ ps ∷ []) ⊎ (g.limit < binders_weight g (length ps))

-- so at the first so many arguments
abbrev pub AreMet : Parts → List (List (List ℕ)) → List (List ℕ) → List Arg → ℕ → Type 0
AreMet g contexts ctx args count = (i : ℕ) (a : Arg) → i < count → slice_get args i ≡ Some a → IsMet g contexts ctx a

-- so at those of the first so many declarations
abbrev pub AreAllMet : Parts → List (List (List ℕ)) → List (List ℕ) → List Decl → ℕ → Type 0
AreAllMet g contexts ctx decls count = (n : ℕ) (d : Decl) → n < count → slice_get decls n ≡ Some d → AreMet g contexts ctx d.args (length d.args)

-- rows are at most so many
abbrev pub AreShallow : ℕ → List (List (List ℕ)) → Type 0
AreShallow depth contexts = (n : ℕ) (ctx : List (List ℕ)) → slice_get contexts n ≡ Some ctx → length ctx ≤ depth

-- of the first so many contexts, those in which lambdas may stand have the contexts of the bodies among them
abbrev pub AreClosed : Parts → ℕ → List (List (List ℕ)) → ℕ → Type 0
AreClosed g depth contexts count = (n : ℕ) (ctx : List (List ℕ)) → n < count → slice_get contexts n ≡ Some ctx → length ctx < depth → AreAllMet g contexts ctx g.decls (length g.decls)

-- the contexts of an environment, where lambdas nest to this depth: the empty one, and with each those of the lambdas
-- that may stand in it
pub record AreContexts (g : Parts) (depth : ℕ) (contexts : List (List (List ℕ))) : Type 0 where
  pub first : slice_get contexts 0 ≡ Some []
  pub shallow : AreShallow depth contexts
  pub closed : AreClosed g depth contexts (length contexts)

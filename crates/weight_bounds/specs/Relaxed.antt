-- Relaxed terms: terms in long normal form for which, wherever a lambda is around, there is a variable of each type
-- that any lambda of the environment binds (PLDI 2013, section 3, with the bound types forgotten).
use Rattle.std.specs.Prelude.{◌≡◌, ℕ, suc, ◌+◌, ◌<◌, true, List, [], ◌∷◌, length, slice_get, Some}
use Rattle.std.specs.List.{flat_map}
use Rattle.terms.specs.Table.{has}
use Rattle.terms.specs.Typing.{is_pair}
use Rattle.terms.specs.Weights.{variable_weight, binders_weight, coercion_weight}
use Rattle.terms.specs.declared.parts.Arg.{Arg}
use Rattle.terms.specs.declared.parts.Arg.TheVariants.{Plain, Fun}
use Rattle.terms.specs.declared.parts.Decl.{Decl}
use Rattle.terms.specs.declared.parts.Parts.{Parts}

-- the types of the parameters of a lambda that is wanted
abbrev pub parameters_of : Arg → List ℕ
parameters_of (Plain b) = []
parameters_of (Fun ps r) = ps

-- those of the lambdas that a declaration wants
abbrev pub parameters_in : List Arg → List ℕ
parameters_in args = flat_map parameters_of args

-- the types that lambdas of the environment bind
abbrev pub parameters : Parts → List ℕ
parameters g = flat_map (λ (d : Decl). parameters_in d.args) g.decls

mutual
  -- the weight of a relaxed term of a type, where so many lambdas more may nest: a variable, where a lambda is around;
  -- a declaration over its arguments; or a coercion
  pub data Weighs (g : Parts) : ℕ → ℕ → ℕ → Type 0 where
    variable : (left t : ℕ) → left < g.depth → has t (parameters g) ≡ true → Weighs g left t (variable_weight g)
    declared : (left i w : ℕ) (d : Decl) → slice_get g.decls i ≡ Some d → ArgsWeigh g left d.args w → Weighs g left d.result (d.weight + w)
    coerced : (left a b w : ℕ) → is_pair g.pairs a b ≡ true → Weighs g left a w → Weighs g left b (w + coercion_weight g)

  -- the weight of relaxed arguments: each a value, or under a lambda its body with one lambda fewer left
  pub data ArgsWeigh (g : Parts) : ℕ → List Arg → ℕ → Type 0 where
    none : (left : ℕ) → ArgsWeigh g left [] 0
    value : (left b v w : ℕ) (more : List Arg) → Weighs g left b v → ArgsWeigh g left more w → ArgsWeigh g left (Plain b ∷ more) (v + w)
    lambda : (left r v w : ℕ) (ps : List ℕ) (more : List Arg) → Weighs g left r v → ArgsWeigh g (suc left) more w → ArgsWeigh g (suc left) (Fun ps r ∷ more) (binders_weight g (length ps) + v + w)

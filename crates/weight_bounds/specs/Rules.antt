-- What gives relaxed terms: variables, declarations, and pairs, each as a rule at a place of a table of numbers.
use Rattle.std.specs.Prelude.{◌≡◌, ℕ, zero, suc, ◌<◌, ◌≤◌, Bool, true, false, ◌==◌, List, [], ◌∷◌, ◌++◌, map, slice_get, Some}
use Rattle.std.specs.List.{list_any}
use Rattle.terms.specs.Table.{has}
use Rattle.terms.specs.Weights.{variable_weight, coercion_weight}
use Rattle.terms.specs.declared.parts.Arg.{Arg}
use Rattle.terms.specs.declared.parts.Arg.TheVariants.{Plain, Fun}
use Rattle.terms.specs.declared.parts.Decl.{Decl}
use Rattle.terms.specs.declared.parts.Parts.{Parts}
use Rattle.weight_bounds.specs.Bounds.{place}
use Rattle.weight_bounds.specs.Relaxed.{parameters}

-- what a declaration or a pair wants, gives and weighs
pub record Source : Type 0 where
  pub args : List Arg
  pub result : ℕ
  pub weight : ℕ

abbrev pub of_decl : Decl → Source
of_decl d = record { args = d.args; result = d.result; weight = d.weight }

-- a pair wants its lower type and gives its upper one
abbrev pub of_pair : Parts → ℕ × ℕ → Source
of_pair g p = record { args = Plain p.0 ∷ []; result = p.1; weight = coercion_weight g }

-- the declarations, and after them the pairs
abbrev pub sources : Parts → List Source
sources g = map of_decl g.decls ++ map (of_pair g) g.pairs

-- what gives a term at a place, where so many lambdas more may nest
pub record Rule : Type 0 where
  pub at : ℕ
  pub left : ℕ
  pub args : List Arg
  pub weight : ℕ

-- a source with so many lambdas left
abbrev pub source_rule : ℕ → Source → Rule
source_rule left s = record { at = place s.result left; left = left; args = s.args; weight = s.weight }

-- a variable of a type with so many lambdas left
abbrev pub variable_rule : Parts → ℕ → ℕ → Rule
variable_rule g left t = record { at = place t left; left = left; args = []; weight = variable_weight g }

-- the rules of an environment
pub data IsRule (g : Parts) : Rule → Type 0 where
  of_variable : (left t : ℕ) → left < g.depth → has t (parameters g) ≡ true → IsRule g (variable_rule g left t)
  of_source : (left k : ℕ) (s : Source) → left ≤ g.depth → slice_get (sources g) k ≡ Some s → IsRule g (source_rule left s)

-- whether an argument is looked for at the place
abbrev pub stands_at : ℕ → ℕ → Arg → Bool
stands_at i left (Plain b) = place b left == i
stands_at i zero (Fun ps r) = false
stands_at i (suc left) (Fun ps r) = place r left == i

-- whether one of a rule's arguments is
abbrev pub wants_at : ℕ → Rule → Bool
wants_at i r = list_any (stands_at i r.left) r.args

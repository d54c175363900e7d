-- The code's expressions, constructor by constructor, and how large they are: calls go down by it.
use Rattle.std.proofs.Common.{rules, ◌≡◌, ◌∙◌, ap, sym, subst, arith, ℕ, zero, suc, ◌+◌, ◌<◌, ◌≤◌, List, [], ◌∷◌, length, get_or, Option}
use Rattle.java_shapes.specs.Shape.{Shape as Tree, Before as Start, named, called, lambda, nothing, fresh, behind, in_brackets, Shapes, no_shapes, shapes}
use Rattle.java_resolve.specs.declared.shape.Shape.{Shape}
use Rattle.java_resolve.specs.declared.shape.Shape as code
use Rattle.java_resolve.specs.declared.shape.Before.{Before, the_lemmas}
use Rattle.java_resolve.specs.declared.shape.Before as code_before
use Rattle.java_resolve.specs.declared.shape.Argument.{Argument}
use Rattle.java_resolve.specs.declared.shape.Before.TheFolds.{fold_out-Argument}
use Rattle.java_resolve.specs.View.{shape_view, before_view, argument_view, args_view, before_step, shape_step, argument_step}

abbrev mutual
  -- the words, calls and lambdas of an expression
  pub size : Tree → ℕ
  size (named b t) = 1 + size_before b
  size (called b t xs) = 1 + (size_before b + sizes xs)
  size (lambda s bs c e) = 1 + size e

  -- of what stands before a name
  pub size_before : Start → ℕ
  size_before nothing = 0
  size_before fresh = 0
  size_before (behind b t xs) = 1 + (size_before b + sizes xs)
  size_before (in_brackets c e) = 1 + size e

  -- and of arguments
  pub sizes : Shapes → ℕ
  sizes no_shapes = 0
  sizes (shapes c e rest) = (1 + size e) + sizes rest

pub view_named : (b : Before) (t : List ℕ) → shape_view (code.Named b t) ≡ named (before_view b) t
view_named b t = search (rules, the_lemmas)

pub view_called : (b : Before) (t : List ℕ) (xs : List Argument) (n : ℕ) → shape_view (code.Called b t xs n) ≡ called (before_view b) t (args_view xs)
view_called b t xs n = search (rules, the_lemmas)

pub view_lambda : (s : List ℕ) (bs : List (List ℕ)) (c : Option (List ℕ)) (e : Shape) (n : ℕ) → shape_view (code.Lambda s bs c e n) ≡ lambda s bs c (shape_view e)
view_lambda s bs c e n = search (rules, the_lemmas)

pub view_nothing : before_view code_before.Nothing ≡ nothing
view_nothing = search (rules, the_lemmas)

pub view_fresh : before_view code_before.Fresh ≡ fresh
view_fresh = search (rules, the_lemmas)

pub view_behind : (b : Before) (t : List ℕ) (xs : List Argument) (n : ℕ) → before_view (code_before.Behind b t xs n) ≡ behind (before_view b) t (args_view xs)
view_behind b t xs n = search (rules, the_lemmas)

pub view_brackets : (c : Option (List ℕ)) (e : Shape) (n : ℕ) → before_view (code_before.InBrackets c e n) ≡ in_brackets c (shape_view e)
view_brackets c e n = search (rules, the_lemmas)

-- an argument before others
pub argument_shapes : (y : Argument) → (c : Option (List ℕ)) × (e : Tree) × (argument_view y ≡ shapes c e)
argument_shapes y = let e = fold_out-Argument Start Tree (Shapes → Shapes) before_step shape_step argument_step y in (_, _, e)

sizes_first : (y : Argument) (rest : Shapes) → sizes (argument_view y rest) ≡ sizes (argument_view y no_shapes) + sizes rest
sizes_first y rest =
    let s = argument_shapes y in
    ap (λ f. sizes (f rest)) s.2 ∙ omega arith ∙ sym (ap (λ f. sizes (f no_shapes) + sizes rest) s.2)

sizes_at : (xs : List Argument) (i : ℕ) (d : Argument) → i < length xs → sizes (args_view (get_or xs i d ∷ [])) ≤ sizes (args_view xs)
sizes_at [] i d l = absurd (omega arith)
sizes_at (x ∷ xs) zero d l = omega (arith, sizes_first x (args_view xs))
sizes_at (x ∷ xs) (suc i) d l = omega (arith, sizes_first x (args_view xs), sizes_at xs i d (omega arith))

pub sizes_of : (xs : List Argument) (i : ℕ) (x : Argument) → i < length xs → x ≡ get_or xs i x → sizes (args_view (x ∷ [])) ≤ sizes (args_view xs)
sizes_of xs i x l e = subst (λ y. sizes (args_view (y ∷ [])) ≤ sizes (args_view xs)) (sym e) (sizes_at xs i x l)

-- what a size is, where an expression is this one
pub size_of_named : (x : Shape) (b : Before) (t : List ℕ) → x ≡ code.Named b t → size (shape_view x) ≡ 1 + size_before (before_view b)
size_of_named x b t e = ap (λ y. size (shape_view y)) e ∙ ap size (view_named b t)

pub size_of_called : (x : Shape) (b : Before) (t : List ℕ) (xs : List Argument) (n : ℕ) → x ≡ code.Called b t xs n → size (shape_view x) ≡ 1 + (size_before (before_view b) + sizes (args_view xs))
size_of_called x b t xs n e = ap (λ y. size (shape_view y)) e ∙ ap size (view_called b t xs n)

pub size_of_lambda : (x : Shape) (s : List ℕ) (bs : List (List ℕ)) (c : Option (List ℕ)) (y : Shape) (n : ℕ) → x ≡ code.Lambda s bs c y n → size (shape_view x) ≡ 1 + size (shape_view y)
size_of_lambda x s bs c y n e = ap (λ z. size (shape_view z)) e ∙ ap size (view_lambda s bs c y n)

pub size_of_behind : (x b : Before) (t : List ℕ) (xs : List Argument) (n : ℕ) → x ≡ code_before.Behind b t xs n → size_before (before_view x) ≡ 1 + (size_before (before_view b) + sizes (args_view xs))
size_of_behind x b t xs n e = ap (λ y. size_before (before_view y)) e ∙ ap size_before (view_behind b t xs n)

pub size_of_brackets : (x : Before) (c : Option (List ℕ)) (y : Shape) (n : ℕ) → x ≡ code_before.InBrackets c y n → size_before (before_view x) ≡ 1 + size (shape_view y)
size_of_brackets x c y n e = ap (λ z. size_before (before_view z)) e ∙ ap size_before (view_brackets c y n)

-- Shapes: texts of expressions with their words told apart, and no declaration in them.
use Rattle.std.specs.Prelude.{ℕ, List, [], ◌∷◌, ◌++◌, Option, codes}
use Rattle.terms.specs.Text.{listed, bracketed, with_cast}

mutual
  -- an expression; texts are lists of characters
  pub data Shape : Type 0 where
    -- a name with its dots, behind what stands before it: `a.b`, `this.k`, `""`, `f(x).k`
    named : Before → List ℕ → Shape
    -- a call: `a.m(x)`, `new a.B(x)`
    called : Before → List ℕ → Shapes → Shape
    -- `(a.S) (p0, p1) -> BODY`: the interface, the binders, the body with its cast
    lambda : List ℕ → List (List ℕ) → Option (List ℕ) → Shape → Shape

  -- what stands before a name
  pub data Before : Type 0 where
    nothing : Before
    -- `new `
    fresh : Before
    -- a call and a dot
    behind : Before → List ℕ → Shapes → Before
    -- an expression in brackets, with its cast, and a dot
    in_brackets : Option (List ℕ) → Shape → Before

  -- arguments, each with its cast
  pub data Shapes : Type 0 where
    no_shapes : Shapes
    shapes : Option (List ℕ) → Shape → Shapes → Shapes

unfoldable mutual
  -- the text of a shape
  pub shown : Shape → List ℕ
  shown (named b t) = shown_before b ++ t
  shown (called b t args) = shown_before b ++ (t ++ bracketed (listed (argument_texts args)))
  shown (lambda s binders c e) = bracketed s ++ (codes " " ++ bracketed (listed binders)) ++ (codes " -> " ++ with_cast c (shown e))

  -- what stands before a name, with its dot
  pub shown_before : Before → List ℕ
  shown_before nothing = []
  shown_before fresh = codes "new "
  shown_before (behind b t args) = (shown_before b ++ (t ++ bracketed (listed (argument_texts args)))) ++ codes "."
  shown_before (in_brackets c e) = bracketed (with_cast c (shown e)) ++ codes "."

  -- the texts of arguments
  pub argument_texts : Shapes → List (List ℕ)
  argument_texts no_shapes = []
  argument_texts (shapes c e rest) = with_cast c (shown e) ∷ argument_texts rest

-- What a text resolves to, and what each fault says of it.
use Rattle.std.specs.Prelude.{◌≡◌, List, ℕ, [], chars}
use Rattle.terms.specs.Expr.{Expr}
use Rattle.terms.specs.declared.parts.Parts.{Parts}
use Rattle.java_shapes.specs.Shape.{Shape, shown}
use Rattle.java_shapes.specs.Grammar.{IsShape}
use Rattle.java_resolve.specs.Places.{IsSyntaxPlace}
use Rattle.java_resolve.specs.Pieces.{shape_pieces}
use Rattle.java_resolve.specs.Known.{AreKnown, is_declared}
use Rattle.java_resolve.specs.Faults.{HasUnknown}
use Rattle.java_resolve.specs.Found.{HasTwo}
use Rattle.java_resolve.specs.Reading.{IsReading}
use Rattle.java_resolve.specs.declared.fault.TextFault.{TextFault}
use Rattle.java_resolve.specs.declared.fault.TextFault.TheVariants as fault

-- the text is of an expression whose identifiers are all known
pub record IsKnownText (g : Parts) (text : List ℕ) : Type 0 where
  pub shape : Shape
  pub well_formed : IsShape (chars g.binder) shape
  pub is : shown shape ≡ chars text
  pub known : AreKnown (is_declared g) (shape_pieces [] shape)

-- the text resolves to this term: it is well typed at the goal, it has the text, and no other one is and has
pub record ResolvesTo (g : Parts) (text : List ℕ) (e : Expr) : Type 0 where
  pub known : IsKnownText g text
  pub reading : IsReading g text e
  pub only : (f : Expr) → IsReading g text f → f ≡ e

-- what each fault says: the text isn't of the grammar from this place on; its first identifier that isn't known stands
-- there; it is known, and no term that is well typed at the goal has it; or two have it
abbrev pub IsFaultOf : Parts → List ℕ → TextFault → Type 0
IsFaultOf g text fault.OutOfMemory = Unit {0}
IsFaultOf g text (fault.Syntax at) = IsSyntaxPlace (chars g.binder) (chars text) at
IsFaultOf g text (fault.Unknown at) = HasUnknown g (chars g.binder) (chars text) at
IsFaultOf g text fault.WrongType = IsKnownText g text × ((e : Expr) → IsReading g text e → ⊥)
IsFaultOf g text fault.TwoWays = IsKnownText g text × HasTwo (IsReading g text)

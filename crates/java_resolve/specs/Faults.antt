-- What faults say of texts.
use Rattle.std.specs.Prelude.{◌≡◌, ℕ, List, []}
use Rattle.terms.specs.declared.parts.Parts.{Parts}
use Rattle.java_shapes.specs.Shape.{Shape, shown}
use Rattle.java_shapes.specs.Grammar.{IsShape}
use Rattle.java_resolve.specs.Places.{IsSyntaxPlace}
use Rattle.java_resolve.specs.Pieces.{shape_pieces}
use Rattle.java_resolve.specs.Known.{IsUnknownPlace, is_declared}
use Rattle.java_resolve.specs.declared.fault.ReadFault.{ReadFault}
use Rattle.java_resolve.specs.declared.fault.ReadFault.TheVariants as read
use Rattle.java_resolve.specs.declared.fault.TextFault.{TextFault}
use Rattle.java_resolve.specs.declared.fault.TextFault.TheVariants as fault

-- the text is of an expression with an identifier that is not known, at this place
pub record HasUnknown (g : Parts) (binder text : List ℕ) (at : ℕ) : Type 0 where
  pub shape : Shape
  pub well_formed : IsShape binder shape
  pub is : shown shape ≡ text
  pub place : IsUnknownPlace (is_declared g) (shape_pieces [] shape) at

-- the fault is that of an expression: want of memory, or its first identifier that is not known
abbrev pub UnknownAt : Parts → Shape → TextFault → Type 0
UnknownAt g shape fault.OutOfMemory = Unit {0}
UnknownAt g shape (fault.Syntax at) = ⊥
UnknownAt g shape (fault.Unknown at) = IsUnknownPlace (is_declared g) (shape_pieces [] shape) at
UnknownAt g shape fault.WrongType = ⊥
UnknownAt g shape fault.TwoWays = ⊥

-- what each fault says
abbrev pub FaultAt : Parts → List ℕ → List ℕ → TextFault → Type 0
FaultAt g binder text fault.OutOfMemory = Unit {0}
FaultAt g binder text (fault.Syntax at) = IsSyntaxPlace binder text at
FaultAt g binder text (fault.Unknown at) = HasUnknown g binder text at
FaultAt g binder text fault.WrongType = ⊥
FaultAt g binder text fault.TwoWays = ⊥

-- the fault of a text that is not read
abbrev pub text_fault : ReadFault → TextFault
text_fault read.OutOfMemory = fault.OutOfMemory
text_fault (read.Syntax at) = fault.Syntax at

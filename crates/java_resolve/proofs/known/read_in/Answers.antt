use Rattle.std.proofs.Common.{◌≡◌, ◌∙◌, ap, subst, []}
use Rattle.std.specs.Str.{chars}
use Rattle.java_shapes.specs.Words.{spells_identifier}
use Rattle.java_shapes.specs.Shape.{shown}
use Rattle.java_shapes.specs.Grammar.{IsShape}
use Rattle.java_resolve.specs.View.{shape_view}
use Rattle.java_resolve.specs.Pieces.{shape_pieces}
use Rattle.java_resolve.specs.Places.{SyntaxAt}
use Rattle.java_resolve.specs.Known.{is_declared, AreKnown}
use Rattle.java_resolve.proofs.Faults.{fault_as, faults_of, if_same, if_known}
use Rattle.java_resolve.proofs.known.read_in.Goals as goal

pub read_shape-requires : goal.read_shape-requires
read_shape-requires c = ap (λ x. spells_identifier (chars x)) c.as_str.ensures ∙ c.requires

pub returns-in-Ok-clause-shape : goal.returns-in-Ok-clause-shape
returns-in-Ok-clause-shape c = if_same (λ s. IsShape (chars c.args.parts.now.binder) (shape_view s) × (shown (shape_view s) ≡ chars c.args.text.now)) c.known_in.result c.in-Ok.shape c.known_in.ensures.same
    (subst (λ x. IsShape (chars x) (shape_view c.in-Ok.shape)) c.as_str.ensures c.in-Ok.ensures.shape.0, c.in-Ok.ensures.shape.1)

pub returns-in-Ok-clause-known : goal.returns-in-Ok-clause-known
returns-in-Ok-clause-known c = if_known (λ s. AreKnown (is_declared c.args.parts.now) (shape_pieces [] (shape_view s))) c.known_in.result c.in-Ok.shape c.known_in.ensures.same c.known_in.ensures.known

pub returns-in-Ok-clause-fault : goal.returns-in-Ok-clause-fault
returns-in-Ok-clause-fault c = faults_of c.args.parts.now (chars c.args.parts.now.binder) (chars c.args.text.now) (shape_view c.in-Ok.shape) c.known_in.result (subst (λ x. IsShape (chars x) (shape_view c.in-Ok.shape)) c.as_str.ensures c.in-Ok.ensures.shape.0) c.in-Ok.ensures.shape.1 c.known_in.ensures.fault

pub returns-in-Err-clause-fault : goal.returns-in-Err-clause-fault
returns-in-Err-clause-fault c = fault_as c.args.parts.now (chars c.args.parts.now.binder) (chars c.args.text.now) c.in-Err.fault c.text_fault.result c.text_fault.ensures (subst (λ x. SyntaxAt (chars x) (chars c.args.text.now) c.in-Err.fault) c.as_str.ensures c.in-Err.ensures.syntax)

use Rattle.std.proofs.Common.{◌≡◌, ◌∙◌, ap, subst, [], Bool, IfOk, IfErr}
use Rattle.std.specs.Str.{chars}
use Rattle.terms.specs.declared.parts.Parts.{Parts}
use Rattle.java_shapes.specs.Words.{spells_identifier}
use Rattle.java_shapes.specs.Shape.{shown}
use Rattle.java_shapes.specs.Grammar.{IsShape}
use Rattle.java_resolve.specs.View.{shape_view}
use Rattle.java_resolve.specs.Pieces.{shape_pieces}
use Rattle.java_resolve.specs.Known.{is_declared, AreKnown}
use Rattle.java_resolve.specs.Faults.{FaultAt}
use Rattle.java_resolve.proofs.known.read_known.Goals as goal

pub read_in-requires : goal.read_in-requires
read_in-requires c =
    let test : Parts → Bool = λ g. spells_identifier (chars g.binder) in
    ap test c.parts.ensures.value ∙ c.requires

pub returns-clause-shape : goal.returns-clause-shape
returns-clause-shape c =
    let says : Parts → Type 0 = λ g. IfOk c.read_in.result (λ s. IsShape (chars g.binder) (shape_view s) × (shown (shape_view s) ≡ chars c.args.text.now)) in
    subst says c.parts.ensures.value c.read_in.ensures.shape

pub returns-clause-known : goal.returns-clause-known
returns-clause-known c =
    let says : Parts → Type 0 = λ g. IfOk c.read_in.result (λ s. AreKnown (is_declared g) (shape_pieces [] (shape_view s))) in
    subst says c.parts.ensures.value c.read_in.ensures.known

pub returns-clause-fault : goal.returns-clause-fault
returns-clause-fault c =
    let says : Parts → Type 0 = λ g. IfErr c.read_in.result (FaultAt g (chars g.binder) (chars c.args.text.now)) in
    subst says c.parts.ensures.value c.read_in.ensures.fault

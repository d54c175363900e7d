use Rattle.std.proofs.Common.{◌∙◌, sym}
use Rattle.java_resolve.specs.View.{around, shape_view}
use Rattle.java_resolve.specs.declared.place.Frame.TheVariants.{Call, Body, Group}
use Rattle.java_resolve.proofs.Closings.{open_none, open_frame, open_body, open_call, open_group}
use Rattle.java_resolve.proofs.closing.unwrapped.Goals as goal

pub returns-in-None : goal.returns-in-None
returns-in-None c = open_none c.frames.frames c.frames.cast (shape_view c.frames.expression) c.in-None.ensures.0 ∙ sym c.frames.invariant

pub frames-preserved : goal.frames-preserved
frames-preserved c =
    c.frames.invariant
    ∙ open_frame c.frames.frames c.pop.new.self c.in-Some.frame (Body c.in-Body.outer c.in-Body.interface c.in-Body.binders) c.frames.cast (shape_view c.frames.expression) c.in-Some.ensures c.in-Body.is
    ∙ open_body (around c.pop.new.self) c.in-Body.outer c.in-Body.interface c.in-Body.binders c.frames.cast (shape_view c.frames.expression) (shape_view c.in_ok-expression-in-Body.expression) c.in_ok-expression-in-Body.ensures

pub returns-in-Call : goal.returns-in-Call
returns-in-Call c =
    open_call (around c.pop.new.self) c.in-Call.field-0 c.in-Call.field-1 c.frames.cast (shape_view c.frames.expression)
    ∙ sym (open_frame c.frames.frames c.pop.new.self c.in-Some.frame (Call c.in-Call.field-0 c.in-Call.field-1) c.frames.cast (shape_view c.frames.expression) c.in-Some.ensures c.in-Call.is)
    ∙ sym c.frames.invariant

pub returns-in-Group : goal.returns-in-Group
returns-in-Group c =
    open_group (around c.pop.new.self) c.in-Group.field-0 c.frames.cast (shape_view c.frames.expression)
    ∙ sym (open_frame c.frames.frames c.pop.new.self c.in-Some.frame (Group c.in-Group.field-0) c.frames.cast (shape_view c.frames.expression) c.in-Some.ensures c.in-Group.is)
    ∙ sym c.frames.invariant

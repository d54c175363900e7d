use Rattle.std.proofs.Common.{◌∙◌, sym}
use Rattle.java_resolve.specs.View.{around, shape_view}
use Rattle.java_resolve.specs.declared.place.Frame.TheVariants.{Call, Body, Group}
use Rattle.java_resolve.proofs.Closings.{close_none, close_frame, close_body, along}
use Rattle.java_resolve.proofs.closing.close.Goals as goal

pub returns-in-None : goal.returns-in-None
returns-in-None c = close_none c.frames.frames c.frames.cast (shape_view c.frames.expression) c.args.k c.in-None.ensures.0 ∙ sym c.frames.invariant

pub frames-preserved : goal.frames-preserved
frames-preserved c =
    c.frames.invariant
    ∙ close_frame c.frames.frames c.pop.new.self c.in-Some.frame (Body c.in-Body.outer c.in-Body.interface c.in-Body.binders) c.frames.cast (shape_view c.frames.expression) c.args.k c.in-Some.ensures c.in-Body.is
    ∙ close_body (around c.pop.new.self) c.in-Body.outer c.in-Body.interface c.in-Body.binders c.frames.cast (shape_view c.frames.expression) (shape_view c.in_ok-expression-in-Body.expression) c.args.k c.in_ok-expression-in-Body.ensures

pub returns-in-Call : goal.returns-in-Call
returns-in-Call c =
    along c.close_argument.result (around c.close_argument.new.frames) _ _
    (c.in_ok-call-in-Call.ensures (around c.pop.new.self) c.in-Call.outer c.args.k
    ∙ sym (close_frame c.frames.frames c.pop.new.self c.in-Some.frame (Call c.in-Call.outer c.in-Call.call) c.frames.cast (shape_view c.frames.expression) c.args.k c.in-Some.ensures c.in-Call.is)
    ∙ sym c.frames.invariant)
    c.close_argument.ensures

pub returns-in-Group : goal.returns-in-Group
returns-in-Group c =
    along c.close_group.result (around c.pop.new.self) _ _
    (sym (close_frame c.frames.frames c.pop.new.self c.in-Some.frame (Group c.in-Group.outer) c.frames.cast (shape_view c.frames.expression) c.args.k c.in-Some.ensures c.in-Group.is)
    ∙ sym c.frames.invariant)
    (c.close_group.ensures (around c.pop.new.self))

use Rattle.std.proofs.Common.{◌∙◌, ap}
use Rattle.java_shapes.specs.Reader.{unwrapped}
use Rattle.java_resolve.specs.View.{around}
use Rattle.java_resolve.proofs.Closings.{along_shape, name_then, name_else}
use Rattle.java_resolve.proofs.steps.first_ended.Goals as goal

pub returns-then-begins_name : goal.returns-then-begins_name
returns-then-begins_name c = along_shape c.unwrapped.result _ _ (ap (unwrapped (around c.args.frames.now) c.args.cast) c.plain.ensures ∙ name_then (around c.args.frames.now) c.args.cast c.args.word c.begins_name.result c.begins_name.ensures c.if-begins_name.true) c.unwrapped.ensures

pub returns-else-begins_name : goal.returns-else-begins_name
returns-else-begins_name c = name_else (around c.args.frames.now) c.args.cast c.args.word c.begins_name.result c.begins_name.ensures c.if-begins_name.false

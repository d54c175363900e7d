use Rattle.std.proofs.Common.{◌∙◌, ap, sym, refl, [], length, arith}
use Rattle.std.specs.Str.{chars}
use Rattle.java_resolve.specs.View.{around, spot_part, shape_view, shape_option}
use Rattle.java_resolve.proofs.Reading.{end_read, end_stuck}
use Rattle.java_resolve.proofs.reader.read_shape.Goals as goal

pub returns-in-Some-clause-shape : goal.returns-in-Some-clause-shape
returns-in-Some-clause-shape c = end_read (chars c.args.binder.now) c.args.text.now [] (spot_part (around c.read_text.new.frames) c.in_ok-spot.spot) (shape_view c.in-Some.shape) refl (sym (ap shape_option c.in-Some.is) ∙ c.in_ok-shape.ensures) c.in_ok-spot.ensures.read

pub returns-clause-syntax : goal.returns-clause-syntax
returns-clause-syntax c = end_stuck (chars c.args.binder.now) c.args.text.now [] (spot_part (around c.read_text.new.frames) c.in_ok-spot.spot) (length c.args.text.now) c.requires refl (sym (ap shape_option c.in-None.is) ∙ c.in_ok-shape.ensures) (omega arith) c.in_ok-spot.ensures.read

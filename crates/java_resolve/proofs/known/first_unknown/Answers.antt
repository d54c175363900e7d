use Rattle.std.proofs.Common.{[]}
use Rattle.java_resolve.specs.View.{shape_view}
use Rattle.java_resolve.specs.Pieces.{shape_pieces}
use Rattle.java_resolve.specs.Known.{is_declared}
use Rattle.java_resolve.proofs.Pieces.{all_known, one_unknown}
use Rattle.java_resolve.proofs.known.first_unknown.Goals as goal

pub returns-then-are_known-clause-known : goal.returns-then-are_known-clause-known
returns-then-are_known-clause-known c = all_known (is_declared c.args.parts.now) (shape_pieces [] (shape_view c.args.shape.now)) c.pass_shape.new.passing.at c.in_ok-are_known.are_known c.if-are_known.true (c.in_ok-are_known.ensures (is_declared c.args.parts.now) [] c.in_ok-set.ensures).0

pub returns-clause-unknown : goal.returns-clause-unknown
returns-clause-unknown c = one_unknown (is_declared c.args.parts.now) (shape_pieces [] (shape_view c.args.shape.now)) c.pass_shape.new.passing.at c.in_ok-are_known.are_known c.if-are_known.false (c.in_ok-are_known.ensures (is_declared c.args.parts.now) [] c.in_ok-set.ensures).0

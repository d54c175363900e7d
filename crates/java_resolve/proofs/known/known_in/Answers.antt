use Rattle.std.proofs.Common.{[]}
use Rattle.java_resolve.specs.View.{shape_view}
use Rattle.java_resolve.specs.Pieces.{shape_pieces}
use Rattle.java_resolve.specs.Known.{is_declared, AreKnown, IsUnknownPlace}
use Rattle.java_resolve.proofs.Pieces.{if_some, if_none}
use Rattle.java_resolve.proofs.known.known_in.Goals as goal

pub returns-in-None-clause-known : goal.returns-in-None-clause-known
returns-in-None-clause-known c = if_none (AreKnown (is_declared c.args.parts.now) (shape_pieces [] (shape_view c.args.shape))) c.in_ok-found.found c.in-None.is c.in_ok-found.ensures.known

pub returns-in-Some-clause-fault : goal.returns-in-Some-clause-fault
returns-in-Some-clause-fault c = if_some (IsUnknownPlace (is_declared c.args.parts.now) (shape_pieces [] (shape_view c.args.shape))) c.in_ok-found.found c.in-Some.at c.in-Some.is c.in_ok-found.ensures.unknown

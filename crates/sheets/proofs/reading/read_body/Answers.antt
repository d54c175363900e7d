use Rattle.std.proofs.Common.{arith, map, Ok, Err}
use Rattle.sheets.specs.Words.{texts}
use Rattle.sheets.specs.SheetLines.{line_of}
use Rattle.sheets.proofs.Walks.{texts-length}
use Rattle.sheets.proofs.Bodies.{with-goal, map-length}
use Rattle.sheets.proofs.reading.read_body.Goals as goal

pub returns-in-Ok : goal.returns-in-Ok
returns-in-Ok c =
    let xs = texts c.args.body.now in
    let both = with-goal c.in_ok-lines.lines (map (line_of c.args.version) xs) _ (Ok c.in-Ok.sheet) c.in_ok-lines.ensures.0 c.in_ok-lines.ensures.1 c.in-Ok.ensures in
    (both.0, both.1, omega (arith, map-length c.args.version xs, texts-length c.args.body.now), omega (arith, map-length c.args.version xs, texts-length c.args.body.now, c.requires))

pub returns-in-Err : goal.returns-in-Err
returns-in-Err c = with-goal c.in_ok-lines.lines (map (line_of c.args.version) (texts c.args.body.now)) _ (Err c.in-Err.fault) c.in_ok-lines.ensures.0 c.in_ok-lines.ensures.1 c.in-Err.ensures

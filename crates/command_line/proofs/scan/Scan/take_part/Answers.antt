use Rattle.std.proofs.Common.{rules, ◌≡◌, ◌++◌}
use Rattle.std.specs.Prelude.{codes}
use Rattle.command_line.proofs.Commands.{agree}
use Rattle.command_line.proofs.scan.Scan.take_part.Goals as goal

pub returns-then-eq : goal.returns-then-eq
returns-then-eq c =
    let same : c.args.word.now ≡ codes "--start" = search (rules, agree) in
    rw same c.take_start.ensures

pub returns-then-eq-2 : goal.returns-then-eq-2
returns-then-eq-2 c =
    let same : c.args.word.now ≡ codes "--ahead" = search (rules, agree) in
    rw same c.take_ahead.ensures

pub returns-in-Some : goal.returns-in-Some
returns-in-Some c =
    let same : c.args.word.now ≡ codes "--start=" ++ c.in-Some.file.now = search rules in
    rw same c.take_joined.ensures

use Rattle.std.proofs.Common.{rules, ◌≡◌, length}
use Rattle.command_line.proofs.Commands.{none-mapped, words-missing, few-answered}
use Rattle.command_line.proofs.words.read_command.Goals as goal

pub returns-in_default : goal.returns-in_default
returns-in_default c =
    let none : length c.args.words.now ≡ 0 = search rules in
    record { command = rw (none-mapped c.args.words.now none) words-missing; workers = tt }

pub returns-then-eq-clause-workers : goal.returns-then-eq-clause-workers
returns-then-eq-clause-workers c = few-answered c.read_serve.result _ c.read_serve.ensures

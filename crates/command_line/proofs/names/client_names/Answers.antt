use Rattle.std.proofs.Common.{rules, ◌≡◌, length}
use Rattle.command_line.proofs.Commands.{none-mapped, words-missing}
use Rattle.command_line.proofs.names.client_names.Goals as goal

pub returns-in_default-clause-fault : goal.returns-in_default-clause-fault
returns-in_default-clause-fault c =
    let none : length c.args.words.now ≡ 0 = search rules in
    rw (none-mapped c.args.words.now none) words-missing

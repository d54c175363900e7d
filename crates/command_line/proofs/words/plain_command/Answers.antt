use Rattle.std.proofs.Common.{map}
use Rattle.std.specs.Prelude.{string_bytes}
use Rattle.command_line.proofs.Asked.{plain-not-wrong}
use Rattle.command_line.proofs.words.plain_command.Goals as goal

pub returns-in-Err : goal.returns-in-Err
returns-in-Err c = absurd (plain-not-wrong (map string_bytes c.args.words.now) _ c.requires.plain c.in-Err.ensures.command)

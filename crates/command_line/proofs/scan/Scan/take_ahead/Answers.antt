use Rattle.std.proofs.Common.{rules}
use Rattle.command_line.proofs.Commands.{stuck-ahead, took-ahead}
use Rattle.command_line.proofs.scan.Scan.take_ahead.Goals as goal

pub returns-then-is_some : goal.returns-then-is_some
returns-then-is_some c = λ words pairs s. stuck-ahead words c.args.self.now pairs c.requires.plain (search rules) s

pub returns : goal.returns
returns c = λ words pairs s. took-ahead words c.args.self.now pairs c.requires.plain (search rules) s

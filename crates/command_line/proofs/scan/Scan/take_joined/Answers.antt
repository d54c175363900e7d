use Rattle.std.proofs.Common.{rules, tests}
use Rattle.command_line.specs.Words.{IsFileName}
use Rattle.command_line.proofs.Commands.{stuck-again, stuck-joined, took-joined}
use Rattle.command_line.proofs.scan.Scan.take_joined.Goals as goal

pub returns-then-is_some : goal.returns-then-is_some
returns-then-is_some c = λ words pairs s. stuck-again words c.args.self.now pairs c.args.file.now c.requires.plain (search rules) s

pub returns-then-not-is_file_name : goal.returns-then-not-is_file_name
returns-then-not-is_file_name c = λ words pairs s.
    let other : IsFileName c.args.file.now → ⊥ = search (rules, tests) in
    stuck-joined words c.args.self.now pairs c.args.file.now c.requires.plain other s

pub returns : goal.returns
returns c = λ words pairs s.
    let named : IsFileName c.args.file.now = search (rules, tests) in
    took-joined words c.args.self.now pairs c.args.file c.requires.plain (search rules) named s

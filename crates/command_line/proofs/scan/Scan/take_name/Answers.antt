use Rattle.std.proofs.Common.{rules, tests}
use Rattle.command_line.specs.Words.{IsFileName}
use Rattle.command_line.proofs.Commands.{stuck-name, took-name}
use Rattle.command_line.proofs.scan.Scan.take_name.Goals as goal

pub returns-then-not-is_file_name : goal.returns-then-not-is_file_name
returns-then-not-is_file_name c = λ words pairs s.
    let other : IsFileName c.args.file.now → ⊥ = search (rules, tests) in
    stuck-name words c.args.self.now pairs c.args.file.now c.requires.naming other s

pub returns : goal.returns
returns c = λ words pairs s.
    let named : IsFileName c.args.file.now = search (rules, tests) in
    took-name words c.args.self.now pairs c.args.file c.requires.naming named s

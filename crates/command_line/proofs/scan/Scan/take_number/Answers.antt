use Rattle.std.proofs.Common.{rules, ◌≡◌, ◌≢◌, ℕ}
use Rattle.command_line.specs.Words.{IsWorkerCount, digit_word}
use Rattle.command_line.proofs.Commands.{stuck-number, took-number}
use Rattle.command_line.proofs.scan.Scan.take_number.Goals as goal

pub returns-in_default : goal.returns-in_default
returns-in_default c = λ words pairs s.
    let other : (n : ℕ) → IsWorkerCount n → c.args.word.now ≢ digit_word n = search rules in
    stuck-number words c.args.self.now pairs c.args.word.now c.requires.counting other s

pub returns : goal.returns
returns c = λ words pairs s.
    let is : IsWorkerCount c.in-Some.count × (c.args.word.now ≡ digit_word c.in-Some.count) = search rules in
    took-number words c.args.self.now pairs c.args.word.now c.in-Some.count c.requires.counting is.0 is.1 s

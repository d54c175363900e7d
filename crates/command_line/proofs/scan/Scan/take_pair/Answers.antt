use Rattle.std.proofs.Common.{rules, tests, ◌≡◌, ◌∷◌, ◌++◌, ◌<◌, ◌≤◌}
use Rattle.command_line.specs.Words.{IsPair, most_pairs}
use Rattle.command_line.proofs.Commands.{stuck-full, stuck-pair, took-pair}
use Rattle.command_line.proofs.scan.Scan.take_pair.Goals as goal

pub returns-then-self-ge-MOST_PAIRS : goal.returns-then-self-ge-MOST_PAIRS
returns-then-self-ge-MOST_PAIRS c = λ words pairs s.
    let full : most_pairs ≤ c.args.self.now.pairs = search (rules, tests) in
    stuck-full words c.args.self.now pairs c.args.word.now c.requires.plain c.requires.other full s

pub returns-in_default : goal.returns-in_default
returns-in_default c = λ words pairs s. stuck-pair words c.args.self.now pairs c.args.word.now c.requires.plain c.requires.other (search rules) s

pub returns : goal.returns
returns c = λ words pairs s.
    let few : c.args.self.now.pairs < most_pairs = search (rules, tests) in
    let is : IsPair (c.in-Some.input.now, c.in-Some.output.now) = search rules in
    let word : c.args.word.now ≡ c.in-Some.input.now ++ 61 ∷ c.in-Some.output.now = search rules in
    took-pair words c.args.self.now pairs c.args.word.now c.in-Some.input.now c.in-Some.output.now c.requires.plain few is word s

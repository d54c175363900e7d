use Rattle.std.proofs.Common.{rules, tests, ◌≡◌, ◌≢◌, [], length}
use Rattle.command_line.specs.Words.{IsFileName}
use Rattle.command_line.proofs.Commands.{nothing-in, pair-none, pair-split, pair-found}
use Rattle.command_line.proofs.scan.pair_of.Goals as goal

pub returns-in_default : goal.returns-in_default
returns-in_default c = pair-none c.args.word.now c.split_once.result c.split_once.ensures.cases (search rules)

pub returns-then-not-is_file_name : goal.returns-then-not-is_file_name
returns-then-not-is_file_name c = λ names p e.
    let other : IsFileName c.in-Some.input.now → ⊥ = search (rules, tests) in
    other (pair-split c.args.word.now c.split_once.result (c.in-Some.input, c.in-Some.output) c.split_once.ensures.cases (search rules) names p e).0

pub returns-then-is_empty : goal.returns-then-is_empty
returns-then-is_empty c = λ names p e.
    let short : length c.in-Some.output.now ≡ 0 = search (rules, tests) in
    let none : c.in-Some.output.now ≡ [] = nothing-in c.in-Some.output.now short in
    (pair-split c.args.word.now c.split_once.result (c.in-Some.input, c.in-Some.output) c.split_once.ensures.cases (search rules) names p e).1 none

pub returns : goal.returns
returns c =
    let named : IsFileName c.in-Some.input.now = search (rules, tests) in
    let some : c.in-Some.output.now ≢ [] = search (rules, tests) in
    pair-found c.args.word.now c.split_once.result (c.in-Some.input, c.in-Some.output) c.split_once.ensures.cases (search rules) named some

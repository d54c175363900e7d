use Rattle.std.proofs.Common.{rules, tests, ◌∷◌, ◌++◌, ◌<◌, ℕ, List, length}
use Rattle.std.specs.Prelude.{codes}
use Rattle.command_line.specs.Words.{IsFirstWrong, IsFileName}
use Rattle.command_line.proofs.Commands.{with-first}
use Rattle.command_line.proofs.Counts.{joined-wrong, joined-more}
use Rattle.command_line.proofs.words.read_joined.Goals as goal

pub returns-then-not-is_file_name : goal.returns-then-not-is_file_name
returns-then-not-is_file_name c =
    let other : IsFileName c.args.file.now → ⊥ = search (rules, tests) in
    joined-wrong _ _ other

pub returns-then-not-is_empty : goal.returns-then-not-is_empty
returns-then-not-is_empty c =
    let named : IsFileName c.args.file.now = search (rules, tests) in
    let some : 0 < length c.args.after.now = search (rules, tests) in
    let P : List (List ℕ) → Type 0 = λ ws. IsFirstWrong (codes "count" ∷ (codes "--start=" ++ c.args.file.now) ∷ ws) 2 in
    with-first c.args.after.now P some (λ w ws. joined-more _ w ws named)

use Rattle.std.proofs.Common.{rules, tests, ◌≡◌, ◌∷◌, ◌<◌, ℕ, List, length}
use Rattle.std.specs.Prelude.{codes, string_bytes}
use Rattle.command_line.specs.Words.{IsFirstWrong, IsFileName}
use Rattle.command_line.proofs.Commands.{with-first, none-mapped}
use Rattle.command_line.proofs.Counts.{name-missing, name-wrong, name-more}
use Rattle.command_line.proofs.words.read_name.Goals as goal

pub returns-in_default : goal.returns-in_default
returns-in_default c =
    let none : length c.args.rest.now ≡ 0 = search rules in
    rw (none-mapped c.args.rest.now none) name-missing

pub returns-then-not-is_file_name : goal.returns-then-not-is_file_name
returns-then-not-is_file_name c =
    let split : c.args.rest.now ≡ c.in-Some.file.now ∷ c.in-Some.after.now = search rules in
    let other : IsFileName (string_bytes c.in-Some.file.now) → ⊥ = search (rules, tests) in
    rw split (name-wrong _ _ other)

pub returns-then-not-is_empty : goal.returns-then-not-is_empty
returns-then-not-is_empty c =
    let split : c.args.rest.now ≡ c.in-Some.file.now ∷ c.in-Some.after.now = search rules in
    let named : IsFileName (string_bytes c.in-Some.file.now) = search (rules, tests) in
    let some : 0 < length c.in-Some.after.now = search (rules, tests) in
    let P : List (List ℕ) → Type 0 = λ ws. IsFirstWrong (codes "count" ∷ codes "--start" ∷ string_bytes c.in-Some.file.now ∷ ws) 3 in
    rw split (with-first c.in-Some.after.now P some (λ w ws. name-more _ w ws named))

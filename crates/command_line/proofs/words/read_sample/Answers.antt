use Rattle.std.proofs.Common.{rules, tests, ◌≡◌, ◌∷◌, ◌<◌, ℕ, List, length}
use Rattle.std.specs.Prelude.{codes, string_bytes}
use Rattle.command_line.specs.Words.{IsFirstWrong, IsSampleNumber}
use Rattle.command_line.proofs.Commands.{with-first, none-mapped}
use Rattle.command_line.proofs.Samples.{number-missing, number-wrong, number-more}
use Rattle.command_line.proofs.words.read_sample.Goals as goal

pub returns-in_default : goal.returns-in_default
returns-in_default c =
    let none : length c.args.rest.now ≡ 0 = search rules in
    rw (none-mapped c.args.rest.now none) number-missing

pub returns-in_default-sample_number : goal.returns-in_default-sample_number
returns-in_default-sample_number c =
    let split : c.args.rest.now ≡ c.in-Some.word.now ∷ c.in-Some.after.now = search rules in
    let other : (n : ℕ) → IsSampleNumber (string_bytes c.in-Some.word.now) n → ⊥ = search rules in
    rw split (number-wrong _ _ other)

pub returns-then-not-is_empty : goal.returns-then-not-is_empty
returns-then-not-is_empty c =
    let split : c.args.rest.now ≡ c.in-Some.word.now ∷ c.in-Some.after.now = search rules in
    let is : IsSampleNumber (string_bytes c.in-Some.word.now) c.in-Some-sample_number.number = search rules in
    let some : 0 < length c.in-Some.after.now = search (rules, tests) in
    let P : List (List ℕ) → Type 0 = λ ws. IsFirstWrong (codes "sample" ∷ string_bytes c.in-Some.word.now ∷ ws) 2 in
    rw split (with-first c.in-Some.after.now P some (λ v ws. number-more _ _ v ws is))

use Rattle.std.proofs.Common.{rules, ◌≡◌, ◌≢◌, ◌∷◌, ◌++◌, ℕ, List, length}
use Rattle.std.specs.Prelude.{codes, string_bytes}
use Rattle.command_line.proofs.Commands.{differ, none-mapped}
use Rattle.command_line.proofs.Counts.{option-missing, option-wrong}
use Rattle.command_line.proofs.words.read_count.Goals as goal

pub returns-in_default : goal.returns-in_default
returns-in_default c =
    let none : length c.args.rest.now ≡ 0 = search rules in
    rw (none-mapped c.args.rest.now none) option-missing

pub returns-in-None : goal.returns-in-None
returns-in-None c =
    let split : c.args.rest.now ≡ c.in-Some.option.now ∷ c.in-Some.after.now = search rules in
    let bytes = string_bytes c.in-Some.option.now in
    let apart : bytes ≢ codes "--start" = search (rules, differ) in
    let joined : (file : List ℕ) → bytes ≢ codes "--start=" ++ file = search rules in
    rw split (option-wrong _ _ apart joined)

use Rattle.std.proofs.Common.{rules, tests, ◌≡◌, ◌∷◌, ◌<◌, ℕ, List, length, refl}
use Rattle.std.specs.Prelude.{codes}
use Rattle.command_line.specs.Words.{IsFirstWrong}
use Rattle.command_line.proofs.Commands.{with-first, upgrade-more, none-mapped}
use Rattle.command_line.proofs.words.read_upgrade.Goals as goal

pub returns-then-not-is_empty : goal.returns-then-not-is_empty
returns-then-not-is_empty c =
    let some : 0 < length c.args.rest.now = search (rules, tests) in
    let P : List (List ℕ) → Type 0 = λ ws. IsFirstWrong (codes "upgrade" ∷ ws) 1 in
    with-first c.args.rest.now P some upgrade-more

pub returns : goal.returns
returns c =
    let none : length c.args.rest.now ≡ 0 = search (rules, tests) in
    rw (none-mapped c.args.rest.now none) refl

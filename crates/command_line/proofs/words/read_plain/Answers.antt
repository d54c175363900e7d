use Rattle.std.proofs.Common.{rules, ◌≡◌, ◌≢◌}
use Rattle.std.specs.Prelude.{codes}
use Rattle.command_line.proofs.Commands.{agree, differ, command-wrong, plain-none}
use Rattle.command_line.proofs.words.read_plain.Goals as goal

pub returns-clause-command : goal.returns-clause-command
returns-clause-command c =
    let no_list : c.args.first.now ≢ codes "list" = search (rules, differ) in
    let no_upgrade : c.args.first.now ≢ codes "upgrade" = search (rules, differ) in
    let no_count : c.args.first.now ≢ codes "count" = search (rules, differ) in
    let no_sample : c.args.first.now ≢ codes "sample" = search (rules, differ) in
    command-wrong c.args.first.now _ no_list no_upgrade c.requires no_count no_sample

pub returns-then-eq-3-clause-no_pairs : goal.returns-then-eq-3-clause-no_pairs
returns-then-eq-3-clause-no_pairs c =
    let same : c.args.first.now ≡ codes "count" = search (rules, agree) in
    plain-none c.read_count.result c.args.first.now _ c.requires (rw same c.read_count.ensures)

pub returns-then-eq-4-clause-no_pairs : goal.returns-then-eq-4-clause-no_pairs
returns-then-eq-4-clause-no_pairs c =
    let same : c.args.first.now ≡ codes "sample" = search (rules, agree) in
    plain-none c.read_sample.result c.args.first.now _ c.requires (rw same c.read_sample.ensures)

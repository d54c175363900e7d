use Rattle.std.proofs.Common.{◌≡◌, true, length, refl, sym, ◌∙◌, rules}
use Rattle.java_units.specs.Words.{groups_of, are_by_length}
use Rattle.java_units.proofs.WordTables.{in_group, past_groups}
use Rattle.java_units.proofs.words.has_by_length.Goals as goal

pub returns-then-len-groups : goal.returns-then-len-groups
returns-then-len-groups c =
    let are : are_by_length 0 (groups_of c.args.groups.now) ≡ true = search rules in
    sym (past_groups c.args.groups.now c.args.word.now are c.if-len-groups.true)

pub returns : goal.returns
returns c =
    let are : are_by_length 0 (groups_of c.args.groups.now) ≡ true = search rules in
    c.has.ensures ∙ in_group c.args.groups.now (length c.args.word.now) _ c.args.word.now c.if-len-groups.false are refl

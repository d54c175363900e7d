use Rattle.std.proofs.Common.{◌≡◌, [], ◌∷◌, rules}
use Rattle.class_summary.proofs.Sources.{nested_one}
use Rattle.conformance.proofs.unit_name_tests.unit_of.Goals as goal

pub returns-clause-nested : goal.returns-clause-nested
returns-clause-nested c =
    let e : c.push.new.self ≡ c.args.class ∷ [] = search rules in
    nested_one c.push.new.self c.args.class e c.requires.outer

use Rattle.std.proofs.Common.{rules, ◌≡◌}
use Rattle.std.specs.Prelude.{string_bytes}
use Rattle.java_resolve.proofs.Adding.{adds_one}
use Rattle.java_resolve.proofs.declared.add_word.Goals as goal

pub returns-clause-added : goal.returns-clause-added
returns-clause-added c =
    let text : string_bytes c.in_ok-text.text ≡ c.as_str.result.now = search rules in
    adds_one c.args.set.now c.insert.new.self (string_bytes c.in_ok-text.text) c.as_str.result.now c.args.word.now c.in-Ok.ensures.updates text c.as_str.utf8 c.as_str.ensures

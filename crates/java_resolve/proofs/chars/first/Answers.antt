use Rattle.std.proofs.Common.{rules, ◌≡◌, ◌++◌}
use Rattle.std.proofs.lemmas.Str.{chars_past_char}
use lib.Utf8.{encode}
use Rattle.java_resolve.proofs.WordTests.{no_bytes}
use Rattle.java_resolve.proofs.chars.first.Goals as goal

pub returns-in-Some : goal.returns-in-Some
returns-in-Some c =
    let e : c.args.text.now ≡ encode c.in-Some.c ++ c.as_str.result.now = search rules in
    (chars_past_char c.args.text.now c.as_str.result.now c.in-Some.c c.utf8.text e, e)

pub returns-in-None : goal.returns-in-None
returns-in-None c = no_bytes c.args.text.now (search rules)

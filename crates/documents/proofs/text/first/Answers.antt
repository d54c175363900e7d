use Rattle.std.proofs.Common.{rules, ◌≡◌, ◌++◌, length, ap, ◌∙◌, arith, []}
use Rattle.std.proofs.lemmas.List.{length-append}
use Rattle.std.proofs.lemmas.Str.{chars_past_char, chars-nil, length-encode, len_utf8_bounds}
use Rattle.std.specs.Str.{chars}
use Rattle.documents.proofs.Rests.{empty}
use lib.Utf8.{encode}
use Rattle.documents.proofs.text.first.Goals as goal

pub returns-in-Some : goal.returns-in-Some
returns-in-Some c =
    let e : c.args.text.now ≡ encode c.in-Some.c ++ c.as_str.result.now = search rules in
    (chars_past_char c.args.text.now c.as_str.result.now c.in-Some.c c.utf8.text e, e, omega (arith, ap length e, length-append (encode c.in-Some.c) c.as_str.result.now, length-encode c.in-Some.c), omega (arith, (len_utf8_bounds c.in-Some.c).0))

pub returns-in-None : goal.returns-in-None
returns-in-None c =
    let e : c.args.text.now ≡ [] = empty c.args.text.now (search rules) in
    (e, ap chars e ∙ chars-nil)

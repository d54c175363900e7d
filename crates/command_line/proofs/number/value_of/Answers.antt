use Rattle.std.proofs.Common.{rules, ◌≡◌, Ok}
use Rattle.std.specs.Str.Parse.{digits_value}
use Rattle.command_line.proofs.Numerals.{numeral-value}
use Rattle.command_line.proofs.number.value_of.Goals as goal

pub returns : goal.returns
returns c =
    let is : c.parse.result ≡ Ok (digits_value 10 c.args.digits.now) = numeral-value c.args.digits.now c.parse.result c.parse.ensures.value.0 c.requires.written in
    search rules

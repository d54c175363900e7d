use Rattle.std.proofs.Common.{◌≡◌, ◌∙◌, ap, ◌<◌, ◌^◌, ◌++◌}
use Rattle.std.specs.Fmt.{decimal}
use Rattle.std.specs.Str.{chars}
use Rattle.java_resolve.proofs.VariableRows.{number_none, some_map, none_map}
use Rattle.java_resolve.proofs.variables.number_of.Goals as goal

pub returns-in-Some-clause-some : goal.returns-in-Some-clause-some
returns-in-Some-clause-some c =
    some_map (λ n. (n < 2 ^ 32) × (chars c.in-Some.digits.now ≡ decimal n)) (λ n. (n < 2 ^ 32) × (chars c.args.word.now ≡ chars c.args.binder.now ++ decimal n)) c.decimal_value.result
    (λ n h. (h.0, c.in-Some.ensures ∙ ap (λ x. chars c.args.binder.now ++ x) h.1)) c.decimal_value.ensures.some

pub returns-in-Some-clause-none : goal.returns-in-Some-clause-none
returns-in-Some-clause-none c = none_map c.decimal_value.result (number_none (chars c.args.binder.now) (chars c.args.word.now) (chars c.in-Some.digits.now) c.in-Some.ensures) c.decimal_value.ensures.none

pub returns-in-None-clause-none : goal.returns-in-None-clause-none
returns-in-None-clause-none c = λ n l. c.in-None.ensures (decimal n)

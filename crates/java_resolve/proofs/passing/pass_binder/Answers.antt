use Rattle.std.proofs.Common.{[], ◌∷◌, ap, ◌∙◌}
use Rattle.std.specs.List.{list_all}
use Rattle.std.specs.Char.{is_ascii}
use Rattle.java_resolve.specs.Pieces.{cut, sign, separator}
use Rattle.java_resolve.proofs.Pieces.{separator_ascii, sign_by, then_call}
use Rattle.java_resolve.proofs.passing.pass_binder.Goals as goal

pub pass_sign-requires : goal.pass_sign-requires
pass_sign-requires c = ap (list_all is_ascii) c.separator.ensures ∙ separator_ascii c.args.is_first

pub returns : goal.returns
returns c = λ d bound k.
    then_call d (sign (separator c.args.is_first) ∷ []) (cut bound [] c.args.binder.now) c.args.at.now c.pass_sign.new.at c.pass_name.new.at c.pass_name.result
    (sign_by d c.separator.result.now (separator c.args.is_first) c.args.at.now c.pass_sign.new.at c.separator.ensures (c.in_ok-pass_sign.ensures d))
    (c.pass_name.ensures d bound k)

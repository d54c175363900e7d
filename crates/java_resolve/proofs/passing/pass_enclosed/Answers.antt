use Rattle.std.proofs.Common.{[], ◌∷◌}
use Rattle.java_resolve.specs.Pieces.{cut, sign}
use Rattle.java_resolve.proofs.Pieces.{enclosed, opened, as_true, as_false}
use Rattle.java_resolve.proofs.passing.pass_enclosed.Goals as goal

pub returns-then-not-is_known : goal.returns-then-not-is_known
returns-then-not-is_known c = λ d bound k.
    let known = c.in_ok-is_known.ensures d bound k in
    opened d (40 ∷ []) (cut bound [] c.args.name.now) (sign c.args.close.now ∷ []) c.args.at.now c.pass_sign.new.at c.pass_name.new.at (c.in_ok-pass_sign.ensures d)
    (as_false d (cut bound [] c.args.name.now) c.pass_sign.new.at c.pass_name.new.at c.in_ok-is_known.is_known c.if-not-is_known.true known)

pub returns : goal.returns
returns c = λ d bound k.
    let known = c.in_ok-is_known.ensures d bound k in
    enclosed d (40 ∷ []) c.args.close.now (cut bound [] c.args.name.now) c.args.at.now c.pass_sign.new.at c.pass_name.new.at c.pass_sign-2.new.at (c.in_ok-pass_sign.ensures d)
    (as_true d (cut bound [] c.args.name.now) c.pass_sign.new.at c.pass_name.new.at c.in_ok-is_known.is_known c.if-not-is_known.false known)
    (c.in_ok-pass_sign-2.ensures d)

use Rattle.std.proofs.Common.{[], ◌∷◌, ◌++◌, false, true, codes}
use Rattle.java_resolve.specs.Pieces.{cut, sign, binder_pieces}
use Rattle.java_resolve.proofs.Pieces.{over_both, over_first, as_true, as_false}
use Rattle.java_resolve.proofs.passing.pass_header.Goals as goal

pub returns-then-not-is_known : goal.returns-then-not-is_known
returns-then-not-is_known c = λ d bound k.
    let first = sign (codes "(") ∷ (cut bound [] c.args.interface.now ++ sign (codes ") (") ∷ []) in
    over_first d first (binder_pieces bound true c.args.binders.now ++ sign (codes ") -> ") ∷ []) c.args.at.now c.pass_enclosed.new.at
    (as_false d first c.args.at.now c.pass_enclosed.new.at c.in_ok-is_known.is_known c.if-not-is_known.true (c.in_ok-is_known.ensures d bound k))

pub returns-then-not-are_known : goal.returns-then-not-are_known
returns-then-not-are_known c = λ d bound k.
    let first = sign (codes "(") ∷ (cut bound [] c.args.interface.now ++ sign (codes ") (") ∷ []) in
    let names = binder_pieces bound true c.args.binders.now in
    let one = c.pass_enclosed.new.at in
    let two = c.pass_binders.new.at in
    over_both d first (names ++ sign (codes ") -> ") ∷ []) c.args.at.now one two false
    (as_true d first c.args.at.now one c.in_ok-is_known.is_known c.if-not-is_known.false (c.in_ok-is_known.ensures d bound k))
    (over_first d names (sign (codes ") -> ") ∷ []) one two
    (as_false d names one two c.in_ok-are_known.are_known c.if-not-are_known.true (c.in_ok-are_known.ensures d bound k)))

pub returns : goal.returns
returns c = λ d bound k.
    let first = sign (codes "(") ∷ (cut bound [] c.args.interface.now ++ sign (codes ") (") ∷ []) in
    let names = binder_pieces bound true c.args.binders.now in
    let one = c.pass_enclosed.new.at in
    let two = c.pass_binders.new.at in
    let end = c.pass_sign.new.at in
    over_both d first (names ++ sign (codes ") -> ") ∷ []) c.args.at.now one end true
    (as_true d first c.args.at.now one c.in_ok-is_known.is_known c.if-not-is_known.false (c.in_ok-is_known.ensures d bound k))
    (over_both d names (sign (codes ") -> ") ∷ []) one two end true
    (as_true d names one two c.in_ok-are_known.are_known c.if-not-are_known.false (c.in_ok-are_known.ensures d bound k))
    (c.in_ok-pass_sign.ensures d))

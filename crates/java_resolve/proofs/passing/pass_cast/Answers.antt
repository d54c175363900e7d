use Rattle.std.proofs.Common.{[], ◌∷◌, ◌++◌, ap, sym, true, codes}
use Rattle.java_resolve.specs.Pieces.{cut, sign, cast_pieces}
use Rattle.java_resolve.proofs.Pieces.{over_pieces, over_none, call_pieces_by}
use Rattle.java_resolve.proofs.passing.pass_cast.Goals as goal

pub returns-in-None : goal.returns-in-None
returns-in-None c = λ d bound k. over_pieces d [] (cast_pieces bound c.args.cast.now) c.args.at.now c.args.at.now true (sym (ap (cast_pieces bound) c.in-None.is)) (over_none d c.args.at.now)

pub returns-in-Some : goal.returns-in-Some
returns-in-Some c = λ d bound k. call_pieces_by d (sign (codes "(") ∷ (cut bound [] c.in-Some.name ++ sign (codes ") ") ∷ [])) (cast_pieces bound c.args.cast.now) c.args.at.now c.pass_enclosed.new.at c.pass_enclosed.result (sym (ap (cast_pieces bound) c.in-Some.is)) (c.pass_enclosed.ensures d bound k)

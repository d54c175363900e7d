use Rattle.std.proofs.Common.{rules}
use Rattle.subtyping.proofs.Indices.{listed-next, listed-all}
use Rattle.subtyping.proofs.supers.names_of.Goals as goal

pub loop-place-preserved : goal.loop-place-preserved
loop-place-preserved g c = listed-next (g.C.Classes.listed c.args.known.now) c.loop-place.names c.add_class.new.names c.loop-place.place c.at.result.now c.at.ensures c.in_ok-add_class.ensures.listed c.in_ok-add_class.ensures.grown c.loop-place.invariant

pub returns : goal.returns
returns g c = listed-all (g.C.Classes.listed c.args.known.now) c.loop-place.names c.loop-place.place (search rules) c.loop-place.invariant

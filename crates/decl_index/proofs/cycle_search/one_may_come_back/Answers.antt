use Rattle.std.proofs.Common.{rules}
use Rattle.decl_index.specs.Changed.{AvoidsItself}
use Rattle.decl_index.proofs.Searches.{each-next, each-all}
use Rattle.decl_index.proofs.cycle_search.one_may_come_back.Goals as goal

pub loop-class-preserved : goal.loop-class-preserved
loop-class-preserved c =
    let avoids : AvoidsItself c.args.classes.now c.class-item.result.name = search rules in
    each-next (λ d. AvoidsItself c.args.classes.now d.name) c.args.puts.now c.loop-class.class-index c.class-item.result (search rules) c.class-item.is avoids c.loop-class.invariant

pub returns : goal.returns
returns c = λ e. each-all (λ d. AvoidsItself c.args.classes.now d.name) c.args.puts.now c.loop-class.class-index (search rules) c.loop-class.invariant

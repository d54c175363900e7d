use Rattle.std.proofs.Common.{rules, map}
use Rattle.java_resolve.specs.Found.{headed_in}
use Rattle.java_resolve.specs.Trees.{entry_view, place_view}
use Rattle.java_resolve.proofs.Gathering.{numbers_step, headed_end}
use Rattle.java_resolve.proofs.heads.headed.Goals as goal

pub loop-number-preserved : goal.loop-number-preserved
loop-number-preserved c = numbers_step c.args.env.now c.args.kind c.args.numbers.now (map place_view c.args.places.now) c.loop-number.number-index (map entry_view c.loop-number.entries) (map entry_view c.add_head.new.entries) (headed_in c.args.env.now c.args.kind c.args.numbers.now (map place_view c.args.places.now)) (search rules) c.in_ok-add_head.ensures.added c.loop-number.invariant

pub returns : goal.returns
returns c = record { value = headed_end c.args.env.now c.args.kind c.args.numbers.now (map place_view c.args.places.now) c.loop-number.number-index (map entry_view c.loop-number.entries) (headed_in c.args.env.now c.args.kind c.args.numbers.now (map place_view c.args.places.now)) (search rules) c.loop-number.invariant }

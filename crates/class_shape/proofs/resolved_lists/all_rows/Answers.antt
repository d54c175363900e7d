use Rattle.std.proofs.Common.{rules, ◌∙◌, sym, ap}
use Rattle.class_shape.specs.Meaning.{attribute_rows}
use Rattle.class_shape.proofs.Loops.{joined_more, joined_ends, joined_done}
use Rattle.class_shape.proofs.resolved_lists.all_rows.Goals as goal

pub returns-in_err-rows : goal.returns-in_err-rows
returns-in_err-rows c = search (rules, joined_ends (attribute_rows c.args.pool.now.entries) c.loop-i.i c.index-attributes-i.result c.loop-i.all c.args.attributes.now c.in_err-rows.field-0.0 c.loop-i-test.true (λ no_want. ap (attribute_rows c.args.pool.now.entries) (sym c.index-attributes-i.is) ∙ c.in_err-rows.ensures no_want) c.loop-i.invariant)

pub loop-i-preserved : goal.loop-i-preserved
loop-i-preserved c = rw c.in_ok-append.ensures (joined_more (attribute_rows c.args.pool.now.entries) c.loop-i.i c.index-attributes-i.result c.loop-i.all c.args.attributes.now _ c.loop-i-test.true (ap (attribute_rows c.args.pool.now.entries) (sym c.index-attributes-i.is) ∙ c.in_ok-rows.ensures) c.loop-i.invariant)

pub returns : goal.returns
returns c = joined_done (attribute_rows c.args.pool.now.entries) c.loop-i.i c.loop-i.all c.args.attributes.now c.loop-i-test.false c.loop-i.invariant

use Rattle.std.proofs.Common.{◌∙◌, sym, ap}
use Rattle.std.proofs.lemmas.Result.{err_from_is_err_and}
use Rattle.code_walk.specs.CodeReading.{method_ranges}
use Rattle.class_shape.proofs.Loops.{joined_more, joined_ends, joined_done}
use Rattle.code_walk.proofs.code_attribute.joined_ranges.Goals as goal

pub returns-in_err-ranges : goal.returns-in_err-ranges
returns-in_err-ranges c =
    let p = err_from_is_err_and c.from_residual.result c.from_residual.ensures.1 in
    rw (p.1, p.2) (joined_ends (λ v. method_ranges c.args.pool.now.entries v.items) c.loop-i.i c.index-methods-i.result c.loop-i.all.items c.args.methods.now c.in_err-ranges.field-0.0 c.loop-i-test.true (λ no_want. ap (λ v. method_ranges c.args.pool.now.entries v.items) (sym c.index-methods-i.is) ∙ ap (method_ranges c.args.pool.now.entries) (sym c.deref.ensures.value) ∙ c.in_err-ranges.ensures no_want) c.loop-i.invariant)

pub loop-i-preserved : goal.loop-i-preserved
loop-i-preserved c = rw (c.in_ok-extend_from_slice.ensures.items, c.deref-in-loop-i.ensures.value) (joined_more (λ v. method_ranges c.args.pool.now.entries v.items) c.loop-i.i c.index-methods-i.result c.loop-i.all.items c.args.methods.now _ c.loop-i-test.true (ap (λ v. method_ranges c.args.pool.now.entries v.items) (sym c.index-methods-i.is) ∙ ap (method_ranges c.args.pool.now.entries) (sym c.deref.ensures.value) ∙ c.in_ok-ranges.ensures) c.loop-i.invariant)

pub returns : goal.returns
returns c = joined_done (λ v. method_ranges c.args.pool.now.entries v.items) c.loop-i.i c.loop-i.all.items c.args.methods.now c.loop-i-test.false c.loop-i.invariant

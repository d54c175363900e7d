use Rattle.std.proofs.Common.{rules, arith, sym, ◌∙◌}
use Rattle.java_units.proofs.Lists.{parts_take, parts_skip, parts_end}
use Rattle.java_units.proofs.values.parts.Goals as goal

pub loop-i-preserved-then-not-takes : goal.loop-i-preserved-then-not-takes
loop-i-preserved-then-not-takes c = record {
  depth = omega (arith, c.angled-depth.ensures.within, c.loop-i.invariant.depth);
  rest = parts_skip c.args.lexemes.now c.loop-i.i c.loop-i.depth c.angled-depth.result _ c.loop-i.all _ (search rules) c.angled-depth.ensures.value (sym c.takes.ensures ∙ c.if-not-takes.true) c.loop-i.invariant.rest;
}

pub loop-i-preserved : goal.loop-i-preserved
loop-i-preserved c = record {
  depth = omega (arith, c.angled-depth.ensures.within, c.loop-i.invariant.depth);
  rest = parts_take c.args.lexemes.now c.loop-i.i c.loop-i.depth c.angled-depth.result _ c.loop-i.all c.push.new.self _ c.in_ok-from_str.field-0 (search rules) c.angled-depth.ensures.value (sym c.takes.ensures ∙ c.if-not-takes.false) c.in_ok-from_str.ensures c.in_ok-push.ensures.ok c.loop-i.invariant.rest;
}

pub returns : goal.returns
returns c = parts_end c.args.lexemes.now c.loop-i.i c.loop-i.depth c.loop-i.all _ (search rules) c.loop-i.invariant.rest

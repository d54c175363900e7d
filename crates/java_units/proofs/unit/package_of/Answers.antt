use Rattle.std.proofs.Common.{rules, sym, ap, drop, ◌∙◌}
use Rattle.java_units.specs.Values.{parts_of}
use Rattle.java_units.proofs.Headers.{package_hit, package_on, package_end}
use Rattle.java_units.proofs.unit.package_of.Goals as goal

pub returns-then-is_package : goal.returns-then-is_package
returns-then-is_package c = c.in_ok-name.ensures ∙ (ap (parts_of 0) (c.tail.ensures.rest ∙ ap (drop 1) c.bare.ensures) ∙ package_hit c.args.places.now c.loop-i.i _ _ (search rules) (sym c.is_package.ensures ∙ c.if-is_package.true) c.loop-i.invariant)

pub loop-i-preserved : goal.loop-i-preserved
loop-i-preserved c = package_on c.args.places.now c.loop-i.i _ _ (search rules) (sym c.is_package.ensures ∙ c.if-is_package.false) c.loop-i.invariant

pub returns : goal.returns
returns c = c.new.ensures ∙ package_end c.args.places.now c.loop-i.i _ (search rules) c.loop-i.invariant

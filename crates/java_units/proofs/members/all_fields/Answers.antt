use Rattle.std.proofs.Common.{rules, ap, ◌∙◌, ◌++◌}
use Rattle.java_units.specs.Members.{fields_in}
use Rattle.java_units.proofs.Lists.{flat_on, flat_end}
use Rattle.java_units.proofs.members.all_fields.Goals as goal

pub loop-i-preserved : goal.loop-i-preserved
loop-i-preserved c = flat_on (fields_in c.args.around c.args.name.now) c.args.places.now c.loop-i.i _ c.loop-i.all c.append.new.self (search rules) (c.in_ok-append.ensures ∙ ap (λ p. c.loop-i.all ++ p) c.in_ok-fields.ensures) c.loop-i.invariant

pub returns : goal.returns
returns c = flat_end (fields_in c.args.around c.args.name.now) c.args.places.now c.loop-i.i c.loop-i.all (search rules) c.loop-i.invariant

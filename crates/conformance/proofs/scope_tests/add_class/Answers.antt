use Rattle.java_units.specs.Dimensions.{class_dims}
use Rattle.conformance.proofs.TextClasses.{total_more}
use Rattle.conformance.proofs.scope_tests.add_class.Goals as goal

pub returns-clause-bounds : goal.returns-clause-bounds
returns-clause-bounds c = total_more class_dims c.args.classes.now c.push.new.self c.args.class c.in_ok-push.ensures.ok c.requires.own c.requires.bounds

use Rattle.java_resolve.specs.View.{shape_view}
use Rattle.java_resolve.proofs.Forms.{ok_of}
use Rattle.java_resolve.proofs.Resolving.{fault_of}
use Rattle.java_resolve.proofs.resolution.found_at_goal.Goals as goal

pub read_known-requires : goal.read_known-requires
read_known-requires c = c.requires.binder

pub returns-in-Ok-clause-known : goal.returns-in-Ok-clause-known
returns-in-Ok-clause-known c = ok_of c.found_of.result (record {
  shape = shape_view c.in-Ok.shape;
  well_formed = c.in-Ok.ensures.shape.0;
  is = c.in-Ok.ensures.shape.1;
  known = c.in-Ok.ensures.known;
})

pub returns-in-Ok-clause-right : goal.returns-in-Ok-clause-right
returns-in-Ok-clause-right c = c.found_of.ensures.right c.in-Ok.ensures.shape.0 c.in-Ok.ensures.shape.1

pub returns-in-Err-clause-fault : goal.returns-in-Err-clause-fault
returns-in-Err-clause-fault c = fault_of c.args.env.now c.args.text.now c.in-Err.fault c.in-Err.ensures.fault

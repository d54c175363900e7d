use Rattle.std.proofs.Common.{◌^◌}
use Rattle.java_units.specs.declared.types.TypeText.{TypeText}
use Rattle.java_units.specs.Dimensions.{dims_of_bounds}
use Rattle.class_summary.specs.SourceSummaries.{supers_of}
use Rattle.class_summary.proofs.Greatest.{rest_fits, in_order}
use Rattle.class_summary.proofs.source.supers_of.Goals as goal

pub classes_of-requires : goal.classes_of-requires
classes_of-requires g c = record { nested = c.requires.nested; dims = rest_fits (λ (x : TypeText). x.dims) c.args.declared.now.names_parent c.args.declared.now.supers c.interfaces.result.now (dims_of_bounds c.args.unit.now.classes) (2 ^ 64) c.interfaces.ensures c.requires.dims }

pub returns : goal.returns
unfolding supers_of
returns g c =
    let e = in_order c.new-names.result c.push.new.self c.append.new.self c.append-2.new.self c.in_ok-rest.rest c.in_ok-last.last c.in_ok-first.first c.new-names.ensures c.in_ok-push.ensures.ok c.in_ok-append.ensures c.in_ok-append-2.ensures in
    cc (e, c.in_ok-first.ensures, c.in_ok-rest.ensures, c.interfaces.ensures, c.in_ok-last.ensures)

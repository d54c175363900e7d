use Rattle.std.proofs.Common.{sym, ◌∙◌, ap}
use Rattle.java_units.specs.declared.types.Unit as unit
use Rattle.class_summary.specs.Names.{own_by_canonical}
use Rattle.offers.proofs.Named.{with-own, with-other}
use Rattle.offers.proofs.reach.class_with.Goals as goal

pub returns-in-Some : goal.returns-in-Some
returns-in-Some c = with-own c.args.view.now.unit c.args.view.now.known c.args.name.now c.in-Some.i c.in_ok-internal.field-0 (ap (λ (u : unit.Unit). own_by_canonical u c.args.name.now) (sym c.unit.ensures) ∙ sym c.in_ok-i.ensures ∙ c.in-Some.is) c.in_ok-internal.ensures

pub returns : goal.returns
returns c = with-other c.args.view.now.unit c.args.view.now.known c.args.name.now c.in_ok-found.found (ap (λ (u : unit.Unit). own_by_canonical u c.args.name.now) (sym c.unit.ensures) ∙ sym c.in_ok-i.ensures ∙ c.in_default.is) c.in_ok-found.ensures

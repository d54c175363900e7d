use Rattle.std.proofs.Common.{rules}
use Rattle.java_units.specs.declared.types.Unit as unit
use Rattle.java_units.specs.Units.{IsUnit}
use Rattle.java_units.proofs.UnitLaws.{nested_unit, one_unit}
use Rattle.java_units.proofs.UnitThere.{unit_there}
use Rattle.java_units.proofs.FewDims.{few_dims}
use Rattle.java_units.proofs.Counts.{few_unit}
use Rattle.java_units.proofs.unit.read_unit.Goals as goal

pub returns-in_err-all-clause-total : goal.returns-in_err-all-clause-total
returns-in_err-all-clause-total c = unit_there c.args.text.now c.args.tokens.now

pub returns-in_err-pieces-clause-total : goal.returns-in_err-pieces-clause-total
returns-in_err-pieces-clause-total c = unit_there c.args.text.now c.args.tokens.now

pub returns-in_err-package-clause-total : goal.returns-in_err-package-clause-total
returns-in_err-package-clause-total c = unit_there c.args.text.now c.args.tokens.now

pub returns-in_err-imports-clause-total : goal.returns-in_err-imports-clause-total
returns-in_err-imports-clause-total c = unit_there c.args.text.now c.args.tokens.now

pub returns-in_err-classes-clause-total : goal.returns-in_err-classes-clause-total
returns-in_err-classes-clause-total c = unit_there c.args.text.now c.args.tokens.now

pub returns-clause-total : goal.returns-clause-total
returns-clause-total c = unit_there c.args.text.now c.args.tokens.now

pub returns-clause-only : goal.returns-clause-only
returns-clause-only c =
    let u : unit.Unit = record { «package» = c.in_ok-package.package; imports = c.in_ok-imports.imports; classes = c.in_ok-classes.classes } in
    let is : IsUnit c.args.text.now c.args.tokens.now u = search rules in
    one_unit c.args.text.now c.args.tokens.now u is

pub returns-clause-outers : goal.returns-clause-outers
returns-clause-outers c =
    let u : unit.Unit = record { «package» = c.in_ok-package.package; imports = c.in_ok-imports.imports; classes = c.in_ok-classes.classes } in
    let is : IsUnit c.args.text.now c.args.tokens.now u = search rules in
    nested_unit c.args.text.now c.args.tokens.now u is

pub returns-clause-dims : goal.returns-clause-dims
returns-clause-dims c =
    let u : unit.Unit = record { «package» = c.in_ok-package.package; imports = c.in_ok-imports.imports; classes = c.in_ok-classes.classes } in
    let is : IsUnit c.args.text.now c.args.tokens.now u = search rules in
    few_dims c.args.text.now c.args.tokens.now u is

pub returns-clause-counts : goal.returns-clause-counts
returns-clause-counts c =
    let u : unit.Unit = record { «package» = c.in_ok-package.package; imports = c.in_ok-imports.imports; classes = c.in_ok-classes.classes } in
    let is : IsUnit c.args.text.now c.args.tokens.now u = search rules in
    few_unit c.args.text.now c.args.tokens.now u is

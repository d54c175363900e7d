use Rattle.std.proofs.Common.{rules, ◌≡◌}
use Rattle.type_names.specs.Names.{object_name}
use Rattle.subtyping.specs.Steps.{cloneable, serializable}
use Rattle.subtyping.proofs.Answering.{of-object, of-cloneable, of-serializable, of-last}
use Rattle.subtyping.proofs.subtypes.is_of_arrays.Goals as goal

pub returns-then-eq-clause-sound : goal.returns-then-eq-clause-sound
returns-then-eq-clause-sound c h = let e : c.args.name.now ≡ object_name = search rules in of-object c.args.name.now e

pub returns-then-eq-2-clause-sound : goal.returns-then-eq-2-clause-sound
returns-then-eq-2-clause-sound c h = let e : c.args.name.now ≡ cloneable = search rules in of-cloneable c.args.name.now e

pub returns-clause-sound : goal.returns-clause-sound
returns-clause-sound c h = let e : c.args.name.now ≡ serializable = search rules in of-serializable c.args.name.now e

pub returns-clause-complete : goal.returns-clause-complete
returns-clause-complete c h =
    let first : c.args.name.now ≡ object_name → ⊥ = search rules in
    let second : c.args.name.now ≡ cloneable → ⊥ = search rules in
    let e : c.args.name.now ≡ serializable = of-last c.args.name.now first second h in
    search rules

use Rattle.std.proofs.Common.{rules, ◌≡◌, ◌∙◌, sym, Some, None, inl, inr}
use Rattle.graphs.proofs.Marks.{both}
use Rattle.name_places.specs.Places.{place_of}
use Rattle.subtyping.specs.Places.{Stands}
use Rattle.subtyping.specs.Steps.{cloneable, serializable}
use Rattle.subtyping.specs.Asked.{class_name}
use Rattle.subtyping.proofs.Answering.{class-at, array-never, array-cloneable, array-serializable, array-cases}
use Rattle.subtyping.proofs.subtypes.Subtypes.is_array_below.Goals as goal

pub returns-in_default-clause-complete : goal.returns-in_default-clause-complete
returns-in_default-clause-complete c h =
    let none : class_name c.args.b.now ≡ None = search rules in
    array-never (Stands c.args.self.now) c.args.b.now none h

pub returns-then-stands_at-clause-sound : goal.returns-then-stands_at-clause-sound
returns-then-stands_at-clause-sound c h =
    let name : class_name c.args.b.now ≡ Some c.in-Some.higher.now = search rules in
    let at : place_of c.args.self.now.names c.in-Some.higher.now ≡ c.args.high = sym (class-at c.args.self.now.names c.args.b.now c.in-Some.higher.now name) ∙ sym c.requires in
    array-cloneable (Stands c.args.self.now) c.args.b.now c.in-Some.higher.now name (c.stands_at.ensures.sound cloneable c.in-Some.higher.now (sym c.place.ensures.place) at c.if-stands_at.true)

pub returns-clause-sound : goal.returns-clause-sound
returns-clause-sound c h =
    let name : class_name c.args.b.now ≡ Some c.in-Some.higher.now = search rules in
    let at : place_of c.args.self.now.names c.in-Some.higher.now ≡ c.args.high = sym (class-at c.args.self.now.names c.args.b.now c.in-Some.higher.now name) ∙ sym c.requires in
    array-serializable (Stands c.args.self.now) c.args.b.now c.in-Some.higher.now name (c.stands_at-2.ensures.sound serializable c.in-Some.higher.now (sym c.place-2.ensures.place) at h)

pub returns-clause-complete : goal.returns-clause-complete
returns-clause-complete c h =
    let name : class_name c.args.b.now ≡ Some c.in-Some.higher.now = search rules in
    let at : place_of c.args.self.now.names c.in-Some.higher.now ≡ c.args.high = sym (class-at c.args.self.now.names c.args.b.now c.in-Some.higher.now name) ∙ sym c.requires in
    elim (array-cases (Stands c.args.self.now) c.args.b.now c.in-Some.higher.now name h) [
      | inl o ↦ both c.is_of_arrays.result (c.is_of_arrays.ensures.complete o) c.if-is_of_arrays.false
      | inr r ↦ elim r [
        | inl up ↦ both c.stands_at.result (c.stands_at.ensures.complete cloneable c.in-Some.higher.now (sym c.place.ensures.place) at up) c.if-stands_at.false
        | inr up ↦ c.stands_at-2.ensures.complete serializable c.in-Some.higher.now (sym c.place-2.ensures.place) at up
      ]
    ]

use Rattle.std.proofs.Common.{rules, ◌≡◌, ◌<◌}
use Rattle.subtyping.specs.Places.{Stands}
use Rattle.subtyping.proofs.Answering.{below-less, below-array, array-below, below-element, element-below, below-base, none-below}
use Rattle.subtyping.proofs.subtypes.Subtypes.is_below.Goals as goal

pub returns-then-a-b-clause-complete : goal.returns-then-a-b-clause-complete
returns-then-a-b-clause-complete c h =
    let less : c.args.a.now.dims < c.args.b.now.dims = search rules in
    below-less (Stands c.args.self.now) c.args.a.now.dims c.args.a.now.base c.args.b.now.dims c.args.b.now.base less h

pub returns-then-a-b-2-clause-sound : goal.returns-then-a-b-2-clause-sound
returns-then-a-b-2-clause-sound c h =
    let more : c.args.b.now.dims < c.args.a.now.dims = search rules in
    array-below (Stands c.args.self.now) c.args.a.now.dims c.args.a.now.base c.args.b.now.dims c.args.b.now.base more (c.is_array_below.ensures.sound h)

pub returns-then-a-b-2-clause-complete : goal.returns-then-a-b-2-clause-complete
returns-then-a-b-2-clause-complete c h =
    let more : c.args.b.now.dims < c.args.a.now.dims = search rules in
    c.is_array_below.ensures.complete (below-array (Stands c.args.self.now) c.args.a.now.dims c.args.a.now.base c.args.b.now.dims c.args.b.now.base more h)

pub returns-then-a-gt0-clause-sound : goal.returns-then-a-gt0-clause-sound
returns-then-a-gt0-clause-sound c h =
    let same : c.args.a.now.dims ≡ c.args.b.now.dims = search rules in
    element-below (Stands c.args.self.now) c.args.a.now.dims c.args.a.now.base c.args.b.now.dims c.args.b.now.base same (c.is_element_below.ensures.sound h)

pub returns-then-a-gt0-clause-complete : goal.returns-then-a-gt0-clause-complete
returns-then-a-gt0-clause-complete c h =
    let same : c.args.a.now.dims ≡ c.args.b.now.dims = search rules in
    let some : 0 < c.args.a.now.dims = search rules in
    let k = below-element (Stands c.args.self.now) c.args.a.now.dims c.args.a.now.base c.args.b.now.dims c.args.b.now.base same some h in
    c.is_element_below.ensures.complete k.0 k.1

pub returns-clause-sound : goal.returns-clause-sound
returns-clause-sound c h =
    let same : c.args.a.now.dims ≡ c.args.b.now.dims = search rules in
    let none : c.args.a.now.dims ≡ 0 = search rules in
    none-below (Stands c.args.self.now) c.args.a.now.dims c.args.a.now.base c.args.b.now.dims c.args.b.now.base same none (c.is_base_below.ensures.sound h)

pub returns-clause-complete : goal.returns-clause-complete
returns-clause-complete c h =
    let same : c.args.a.now.dims ≡ c.args.b.now.dims = search rules in
    c.is_base_below.ensures.complete (below-base (Stands c.args.self.now) c.args.a.now.dims c.args.a.now.base c.args.b.now.dims c.args.b.now.base same h)

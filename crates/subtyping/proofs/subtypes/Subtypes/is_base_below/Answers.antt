use Rattle.std.proofs.Common.{rules, ◌≡◌, ◌∙◌, Some, None}
use Rattle.subtyping.specs.Places.{Stands}
use Rattle.subtyping.specs.Asked.{class_name}
use Rattle.subtyping.proofs.Answering.{class-never, class-at}
use Rattle.subtyping.proofs.subtypes.Subtypes.is_base_below.Goals as goal

pub is_class_below-requires : goal.is_class_below-requires
is_class_below-requires c =
    let lower : class_name c.args.a.now ≡ Some c.in-Some.lower.now = search rules in
    let higher : class_name c.args.b.now ≡ Some c.in-Some-class_of.higher.now = search rules in
    record {
      low = c.requires.low ∙ class-at c.args.self.now.names c.args.a.now c.in-Some.lower.now lower;
      high = c.requires.high ∙ class-at c.args.self.now.names c.args.b.now c.in-Some-class_of.higher.now higher;
    }

pub returns-in_default-class_of-clause-complete : goal.returns-in_default-class_of-clause-complete
returns-in_default-class_of-clause-complete c h =
    let low : class_name c.args.a.now ≡ Some c.in-Some.lower.now = search rules in
    let high : class_name c.args.b.now ≡ None = search rules in
    class-never (Stands c.args.self.now) c.args.a.now c.args.b.now c.in-Some.lower.now low high h

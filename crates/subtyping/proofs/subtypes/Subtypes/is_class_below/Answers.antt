use Rattle.std.proofs.Common.{rules, ◌≡◌, sym, inl, inr}
use Rattle.type_names.specs.Names.{object_name}
use Rattle.subtyping.proofs.subtypes.Subtypes.is_class_below.Goals as goal
use Rattle.subtyping.proofs.subtypes.Subtypes.is_class_below.Goals.{then-eq+else-ne, else-eq}

pub returns-clause-complete : goal.returns-clause-complete
returns-clause-complete c h = elim h [
  | inl s ↦ c.stands_at.ensures.complete c.args.a.now c.args.b.now (sym c.requires.low) (sym c.requires.high) s
  | inr t ↦ elim c.if-eq.branch [
    | then-eq+else-ne w ↦ let e : c.args.a.now ≡ object_name = search rules in absurd (t.0 e)
    | else-eq w ↦ let n : c.args.b.now ≡ object_name → ⊥ = search rules in absurd (n t.1)
  ]
]

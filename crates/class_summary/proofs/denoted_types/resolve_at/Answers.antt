use Rattle.std.proofs.Common.{◌∙◌, ap}
use Rattle.type_names.specs.declared.kinds.Base.{Base}
use Rattle.type_names.specs.declared.kinds.Erased.{Erased}
use Rattle.class_summary.specs.Names.{erased_end, denoted_type}
use Rattle.class_summary.proofs.denoted_types.resolve_at.Goals as goal

pub returns : goal.returns
unfolding denoted_type
returns g c =
    let u = c.args.unit.now in
    ap (λ (b : Base). let e : Erased = record { dims = c.in_ok-end.end.dims; base = b } in e) c.in_ok-base.ensures ∙ ap (erased_end u (g.C.Classes.listed c.args.known.now)) c.in_ok-end.ensures

use Rattle.std.proofs.Common.{◌++◌, ap, ◌∙◌}
use Rattle.terms.specs.declared.parts.Decl.{Decl}
use Rattle.weight_bounds.specs.Relaxed.{parameters_in}
use Rattle.weight_bounds.proofs.Members.{brought-none, brought-more}
use Rattle.weight_bounds.proofs.parameters.add_all.Goals as goal

pub loop-decl-init : goal.loop-decl-init
loop-decl-init c = brought-none (λ (d : Decl). parameters_in d.args) c.args.decls.now c.args.types.now.items

pub loop-decl-preserved : goal.loop-decl-preserved
loop-decl-preserved c = brought-more (λ (d : Decl). parameters_in d.args) c.args.decls.now c.loop-decl.decl-index c.decl-item.result _ c.args.types.now.items c.loop-decl.types.items _ c.loop-decl-test.true c.decl-item.is (c.in_ok-add_parameters.ensures.added ∙ ap (λ xs. c.loop-decl.types.items ++ parameters_in xs) c.as_slice.ensures) c.loop-decl.invariant

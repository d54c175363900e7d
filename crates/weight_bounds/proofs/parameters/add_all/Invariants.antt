use Rattle.std.proofs.Common.{◌≡◌, ◌++◌, take}
use Rattle.std.specs.List.{flat_map}
use Rattle.terms.specs.declared.parts.Decl.{Decl}
use Rattle.weight_bounds.specs.Relaxed.{parameters_in}
use Rattle.weight_bounds.proofs.parameters.add_all.Given as goal

abbrev pub invariant-loop-decl : goal.invariant-loop-decl
invariant-loop-decl l = l.types.items ≡ l.initial.types.items ++ flat_map (λ (d : Decl). parameters_in d.args) (take l.decl-index l.initial.decls)

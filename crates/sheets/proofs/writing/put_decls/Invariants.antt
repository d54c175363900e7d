use Rattle.std.proofs.Common.{◌≡◌, ◌++◌, drop}
use Rattle.std.specs.List.{flat_map}
use Rattle.sheets.specs.Writing.{ended, decl_text}
use Rattle.sheets.proofs.writing.put_decls.Given as goal

abbrev pub invariant-loop-decl : goal.invariant-loop-decl
invariant-loop-decl l = l.text ++ flat_map (λ d. ended (decl_text l.types d)) (drop l.decl-index l.decls) ≡ l.fn.text ++ flat_map (λ d. ended (decl_text l.types d)) l.decls

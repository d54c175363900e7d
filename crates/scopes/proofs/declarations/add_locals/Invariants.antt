use Rattle.std.proofs.Common.{◌≡◌, ◌++◌, map, take}
use Rattle.terms.specs.declared.parts.Form.TheVariants as form
use Rattle.offers.specs.Scenes.{denoted}
use Rattle.offers.specs.Views.{scene}
use Rattle.scopes.specs.Declarations.{simple_decl}
use Rattle.scopes.proofs.declarations.add_locals.Given as goal

abbrev pub invariant-loop-i : goal.invariant-loop-i
invariant-loop-i l = l.all ≡ l.fn.all ++ map (λ v. simple_decl l.numbers (form.Name v.name) (denoted (scene l.view) v.kind) l.view.weights.local) (take l.i l.locals)

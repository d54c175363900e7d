use Rattle.std.proofs.Common.{◌+◌, ◌*◌, ◌∙◌, sym, ap, subst}
use Rattle.std.proofs.lemmas.Result.{on_ok_weaker}
use Rattle.reconstruction.specs.Tabled.{place_by_numbers, numbered_under, IsTurn}
use Rattle.reconstruction.specs.Totals.{lambdas_under}
use Rattle.reconstruction.proofs.Growths.{grew-one}
use Rattle.reconstruction.proofs.heads.grow_decl.Goals as goal

pub grow_by-requires-clause-head : goal.grow_by-requires-clause-head
grow_by-requires-clause-head c = subst (λ r. IsTurn c.args.tables.now (place_by_numbers c.args.tables.now c.args.parent.place) (2 * c.args.decl + 1) c.args.total (numbered_under r c.args.tails.now)) (sym (c.lambdas_under.ensures.value ∙ ap (λ g. lambdas_under g c.args.parent.place.lambdas c.args.decl) c.parts.ensures.value)) c.requires.turn

pub returns-clause-grew : goal.returns-clause-grew
returns-clause-grew c = on_ok_weaker c.grow_by.result (λ push. grew-one _ _ _ _ _ _ _ c.grow_by.ensures.grown c.requires.children push) c.grow_by.ensures.pushes

use Rattle.std.proofs.Common.{sym, ◌∙◌}
use Rattle.lsp_forms.specs.Forms.{change_of}
use Rattle.lsp_forms.proofs.Lists.{each-more, each-stop, each-end}
use Rattle.lsp_forms.proofs.changes.changes_of.Goals as goal

pub returns-in_default-2 : goal.returns-in_default-2
returns-in_default-2 c = each-stop change_of _ _ _ _ _ c.loop-value.invariant (c.in-Some.ensures.cases).0 (sym c.in_ok-change.ensures ∙ c.in_default-2.is)

pub loop-value-preserved : goal.loop-value-preserved
loop-value-preserved c = each-more change_of _ _ _ _ _ _ _ c.loop-value.invariant (c.in-Some.ensures.cases).0 (sym c.in_ok-change.ensures ∙ c.in-Some-2.is) c.in_ok-push.ensures.ok

pub returns : goal.returns
returns c = each-end change_of _ _ _ c.loop-value.invariant c.in_default.ensures.cases

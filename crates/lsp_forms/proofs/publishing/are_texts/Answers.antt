use Rattle.std.proofs.Common.{rules}
use Rattle.lsp_forms.specs.Commands.{is_text}
use Rattle.lsp_forms.proofs.Lists.{every-end, every-more, every-stop}
use Rattle.lsp_forms.proofs.publishing.are_texts.Goals as goal

pub returns-then-not-is_text : goal.returns-then-not-is_text
returns-then-not-is_text c = every-stop is_text _ _ _ _ c.loop-value.invariant (c.in-Some.ensures.cases).0 (search rules)

pub loop-value-preserved : goal.loop-value-preserved
loop-value-preserved c = every-more is_text _ _ _ _ c.loop-value.invariant (c.in-Some.ensures.cases).0 (search rules)

pub returns : goal.returns
returns c = every-end is_text _ _ c.loop-value.invariant c.in_default.ensures.cases

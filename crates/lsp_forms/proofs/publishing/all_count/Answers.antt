use Rattle.std.proofs.Common.{rules}
use Rattle.lsp_forms.specs.Commands.{counts, pair_of}
use Rattle.lsp_forms.proofs.Lists.{every-end, every-more, every-stop}
use Rattle.lsp_forms.proofs.publishing.all_count.Goals as goal

pub returns-then-not-counts : goal.returns-then-not-counts
returns-then-not-counts c = every-stop (λ d. counts (pair_of d)) _ _ _ _ c.loop-value.invariant (c.in-Some.ensures.cases).0 (search rules)

pub loop-value-preserved : goal.loop-value-preserved
loop-value-preserved c = every-more (λ d. counts (pair_of d)) _ _ _ _ c.loop-value.invariant (c.in-Some.ensures.cases).0 (search rules)

pub returns : goal.returns
returns c = every-end (λ d. counts (pair_of d)) _ _ c.loop-value.invariant c.in_default.ensures.cases

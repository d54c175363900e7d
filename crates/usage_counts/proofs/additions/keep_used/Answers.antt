use Rattle.std.proofs.Common.{rules, nat_lt}
use Rattle.std.proofs.lemmas.Map.Made.{filter_same_pairs}
use Rattle.usage_counts.proofs.additions.keep_used.Goals as goal

pub returns : goal.returns
returns c = filter_same_pairs _ (λ e. nat_lt 0 e.1) _ (λ k v b w f' t. search rules) _ _ c.retain.ensures.filtered

use Rattle.std.proofs.Common.{◌∙◌, ap, sym}
use Rattle.std.specs.Option.{unwrap_or}
use Rattle.usage_counts.specs.Counts.{number_at}
use Rattle.usage_counts.proofs.NumberLaws.{number-found}
use Rattle.usage_counts.proofs.counts.Counts.of.Goals as goal

pub returns : goal.returns
returns c =
    let key = c.args.key.now in
    record { number = c.unwrap_or.ensures ∙ ap (λ o. unwrap_or o 0) (c.copied.ensures ∙ c.get.ensures.value ∙ sym (number-found c.self.inside.uses key) ∙ ap (λ m. number_at m key) c.self.view_is) }

use Rattle.std.proofs.Common.{◌≡◌, ◌∙◌, ap, List, ℕ, ◌==◌, Some}
use Rattle.std.specs.List.{list_any}
use Rattle.offers.specs.Views.{Outlook}
use Rattle.offers.specs.Order.{is_ancestor_at}
use Rattle.subtyping.proofs.Searching.{search-in}
use Rattle.offers.proofs.Heads.{found-by}
use Rattle.offers.proofs.view.View.is_ancestor.Goals as goal

pub returns : goal.returns
returns c =
    let found = search-in c.above.result.now c.args.high c.binary_search.result c.binary_search.ensures.position c.above.ensures.rises in
    c.is_ok.ensures.value ∙ found-by c.above.result.now c.args.high c.binary_search.result found
    ∙ ap (λ (row : List ℕ). list_any (λ n. n == c.args.high) row) c.above.ensures.above
    ∙ ap (λ (o : Outlook). is_ancestor_at o.ancestry.rows (Some c.args.low) (Some c.args.high)) c.self.view_is

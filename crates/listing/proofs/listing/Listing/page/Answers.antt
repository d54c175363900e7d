use Rattle.std.proofs.Common.{◌+◌, ◌-◌, ◌&&◌, nat_le, length, min, sym, ap, subst, ◌∙◌}
use Rattle.listing.specs.Found.{Listed}
use Rattle.listing.specs.Pages.{IsPage}
use Rattle.listing.proofs.Paging.{paged}
use Rattle.listing.proofs.listing.Listing.page.Goals as goal

pub returns-clause-page : goal.returns-clause-page
returns-clause-page g c =
    let from = c.args.from in
    let count = c.args.count in
    let before = c.self.inside.growing.listed in
    let after = c.lengthen-longer.new.self.listed in
    let page = c.page_of.result in
    let found = c.found-found.ensures.found in
    let whole : IsPage from count before after page = paged from count before after page
    c.found-found.ensures.listed
    (c.page_of.ensures.first ∙ ap (λ xs. min from (length xs)) found)
    (c.page_of.ensures.len ∙ ap (λ xs. min count (length xs - from)) found)
    (c.page_of.ensures.last ∙ ap (λ b. b && nat_le (length c.found-found.result.now) (from + count)) c.at_end-at_end.ensures.value ∙ ap (λ xs. after.at_end && nat_le (length xs) (from + count)) found)
    (ap (λ xs. length xs + page.grown) (sym c.found-before.ensures.found) ∙ c.page_of.ensures.grown ∙ ap length found)
    c.in_ok-longer.ensures.enough c.lengthen-longer.ensures.bound in
    subst (λ (b : Listed). IsPage from count b after page) c.self.view_is whole

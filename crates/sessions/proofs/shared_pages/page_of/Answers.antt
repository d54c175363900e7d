use Rattle.std.proofs.Common.{◌≡◌, rules, refl, subst}
use Rattle.listing.specs.Pages.{items_of}
use Rattle.answers.specs.Cursors.{IsPageOf}
use Rattle.sessions.proofs.PagesTold.{told, told_small}
use Rattle.sessions.proofs.shared_pages.page_of.Goals as goal

pub returns-clause-page : goal.returns-clause-page
returns-clause-page g c =
    let is : c.in_ok-items.items ≡ items_of c.page.new.self c.in_ok-page.page = search rules in
    subst (λ parts. IsPageOf parts c.args.from c.args.count (record { items = c.in_ok-items.items; last = c.in_ok-page.page.last; grown = c.in_ok-page.page.grown })) c.page.ensures.same_env
    (told c.args.from c.args.count c.args.listing.now c.page.new.self c.in_ok-page.page (record { items = c.in_ok-items.items; last = c.in_ok-page.page.last; grown = c.in_ok-page.page.grown })
    c.requires.count.0 c.page.ensures.listed c.in_ok-page.ensures.page c.in_ok-page.ensures.enough is refl refl)

pub returns-clause-small : goal.returns-clause-small
returns-clause-small g c =
    let is : c.in_ok-items.items ≡ items_of c.page.new.self c.in_ok-page.page = search rules in
    told_small c.args.from c.args.count c.args.listing.now c.page.new.self c.in_ok-page.page (record { items = c.in_ok-items.items; last = c.in_ok-page.page.last; grown = c.in_ok-page.page.grown })
    c.requires.from c.page.ensures.listed c.in_ok-page.ensures.page is

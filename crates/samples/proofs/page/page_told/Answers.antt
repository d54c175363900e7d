use Rattle.std.proofs.Common.{◌≡◌, ◌∙◌, ap, refl}
use Rattle.samples.specs.Lines.{page_lines}
use Rattle.samples.proofs.Pages.{lines_told}
use Rattle.samples.proofs.Told.{on_ok}
use Rattle.samples.proofs.page.page_told.Goals as goal

pub returns : goal.returns
returns c =
    let after = c.page.new.self in
    let page = c.in_ok-page.page in
    let same : after.parts ≡ c.args.env = c.in_ok-page.ensures.same_env ∙ ap (λ l. l.parts) c.in_ok-listing.ensures.fresh in
    record {
      exact = on_ok c.items_told.result c.items_told.ensures
          (λ lines e. lines_told c.args.env 100 c.in_ok-listing.listing after page lines refl same c.in_ok-page.ensures.listed c.in_ok-page.ensures.page
          (e ∙ ap (λ is. page_lines is page.last) c.items.ensures.slice));
    }

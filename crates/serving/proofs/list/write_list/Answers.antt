use Rattle.std.proofs.Common.{◌≡◌, ap}
use Rattle.serving.proofs.Listed.{on_err, list-prefix, flush-prefix, list-written}
use Rattle.serving.proofs.list.write_list.Goals as goal

pub returns-in_err-put_pages-clause-prefix : goal.returns-in_err-put_pages-clause-prefix
returns-in_err-put_pages-clause-prefix g c =
    let same : c.in_ok-listing.listing.parts ≡ c.args.env = ap (λ l. l.parts) c.in_ok-listing.ensures.fresh in
    on_err c.from_residual-in_err-put_pages.result (list-prefix c.args.env c.in_ok-listing.listing.parts _ _ _ same c.new-gathering.ensures c.in_err-put_pages.ensures.prefix)

pub returns-in_err-flush-clause-prefix : goal.returns-in_err-flush-clause-prefix
returns-in_err-flush-clause-prefix g c =
    let same : c.in_ok-listing.listing.parts ≡ c.args.env = ap (λ l. l.parts) c.in_ok-listing.ensures.fresh in
    on_err c.from_residual-in_err-flush.result (flush-prefix c.args.env c.in_ok-listing.listing.parts _ _ _ _ _ same c.new-gathering.ensures c.in_ok-put_pages.ensures.whole c.in_err-flush.ensures.prefix)

pub returns-clause-whole : goal.returns-clause-whole
returns-clause-whole g c =
    let same : c.in_ok-listing.listing.parts ≡ c.args.env = ap (λ l. l.parts) c.in_ok-listing.ensures.fresh in
    list-written c.args.env c.in_ok-listing.listing.parts _ _ _ _ _ same c.new-gathering.ensures c.in_ok-put_pages.ensures.whole c.in_ok-flush.ensures.all

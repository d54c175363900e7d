use Rattle.std.proofs.Common.{rules, tests, ◌≡◌, ◌+◌, ◌∙◌, arith}
use Rattle.std.specs.Prelude.{IsTrue}
use Rattle.listing.specs.Found.{terms_of}
use Rattle.serving.proofs.Listed.{on_err, given-prefix, page-prefix, given-more, given-all, page-holds, page-last}
use Rattle.serving.proofs.list.put_pages.Goals as goal

pub returns-in_err-page-clause-prefix : goal.returns-in_err-page-clause-prefix
returns-in_err-page-clause-prefix g c = on_err c.from_residual.result (given-prefix c.args.listing.now.parts c.loop-from.from _ _ _ _ c.loop-from.invariant.given)

pub returns-in_err-put_items-clause-prefix : goal.returns-in_err-put_items-clause-prefix
returns-in_err-put_items-clause-prefix g c =
    let p = c.args.listing.now.parts in
    let from = c.loop-from.from in
    let after = c.page.new.self in
    let same : after.parts ≡ p = c.in_ok-page.ensures.same_env ∙ c.loop-from.invariant.same in
    let holds = page-holds p from _ after c.in_ok-page.page c.items.result.now c.in_ok-page.ensures.listed same c.in_ok-page.ensures.page c.items.ensures.slice in
    on_err c.from_residual-in_err-put_items.result (page-prefix p from 1000 _ _ _ _ _ c.items.result.now c.loop-from.invariant.given holds.0 holds.1 c.in_err-put_items.ensures.prefix)

pub returns-then-page-clause-whole : goal.returns-then-page-clause-whole
returns-then-page-clause-whole g c =
    let p = c.args.listing.now.parts in
    let from = c.loop-from.from in
    let after = c.page.new.self in
    let page = c.in_ok-page.page in
    let same : after.parts ≡ p = c.in_ok-page.ensures.same_env ∙ c.loop-from.invariant.same in
    let holds = page-holds p from _ after page c.items.result.now c.in_ok-page.ensures.listed same c.in_ok-page.ensures.page c.items.ensures.slice in
    let given = given-more p from 1000 page.len _ _ _ _ _ _ c.items.result.now c.loop-from.invariant.given holds.0 holds.1 holds.2 c.in_ok-put_items.ensures.added in
    let last : IsTrue page.last = search (rules, tests) in
    let end = page-last p from _ after page same c.in_ok-page.ensures.page last in
    given-all p (from + page.len) (terms_of after.found) _ _ _ _ given end.0 end.1

pub returns-then-page-eq0-clause-prefix : goal.returns-then-page-eq0-clause-prefix
returns-then-page-eq0-clause-prefix g c =
    let p = c.args.listing.now.parts in
    let from = c.loop-from.from in
    let after = c.page.new.self in
    let page = c.in_ok-page.page in
    let same : after.parts ≡ p = c.in_ok-page.ensures.same_env ∙ c.loop-from.invariant.same in
    let holds = page-holds p from _ after page c.items.result.now c.in_ok-page.ensures.listed same c.in_ok-page.ensures.page c.items.ensures.slice in
    let given = given-more p from 1000 page.len _ _ _ _ _ _ c.items.result.now c.loop-from.invariant.given holds.0 holds.1 holds.2 c.in_ok-put_items.ensures.added in
    given-prefix p (from + page.len) _ _ _ _ given

pub loop-from-preserved : goal.loop-from-preserved
loop-from-preserved g c =
    let p = c.args.listing.now.parts in
    let from = c.loop-from.from in
    let after = c.page.new.self in
    let page = c.in_ok-page.page in
    let same : after.parts ≡ p = c.in_ok-page.ensures.same_env ∙ c.loop-from.invariant.same in
    let holds = page-holds p from _ after page c.items.result.now c.in_ok-page.ensures.listed same c.in_ok-page.ensures.page c.items.ensures.slice in
    record {
      same = same;
      given = given-more p from 1000 page.len _ _ _ _ _ _ c.items.result.now c.loop-from.invariant.given holds.0 holds.1 holds.2 c.in_ok-put_items.ensures.added;
      later = omega (arith, c.loop-from.invariant.later, c.in_ok-put_items.ensures.later);
    }

pub returns-clause-prefix : goal.returns-clause-prefix
returns-clause-prefix g c = given-prefix c.args.listing.now.parts c.loop-from.from _ _ _ _ c.loop-from.invariant.given

use Rattle.std.proofs.Common.{◌≡◌, ◌+◌, ◌<◌, length, get_or, refl, rules, ◌∙◌, arith}
use Rattle.least_weights.proofs.Chains.{chains-more, user-kept, user-added}
use Rattle.least_weights.proofs.Steps.{in-list}
use Rattle.least_weights.proofs.users.add_user.Goals as goal

pub returns-clause-chains : goal.returns-clause-chains
returns-clause-chains c =
    let low : c.args.state < length c.args.firsts.now.items = omega (arith, c.if-place-len.false, c.len.ensures) in
    let count : c.len-count.result ≡ length c.args.links.now.items = search rules in
    let next : c.index-next.result.now ≡ get_or c.args.firsts.now.items c.args.state 0 = c.index-next.ensures ∙ in-list c.args.firsts.now.items c.args.state _ 0 low in
    chains-more c.args.firsts.now.items _ c.args.links.now.items c.push.new.self.items c.args.state c.args.edge (c.len-count.result + 1) low c.index-next.result.now next c.in_ok-push.ensures.items (omega (arith, count)) refl c.requires.chains

pub returns-clause-kept : goal.returns-clause-kept
returns-clause-kept c t m h =
    let low : c.args.state < length c.args.firsts.now.items = omega (arith, c.if-place-len.false, c.len.ensures) in
    let count : c.len-count.result ≡ length c.args.links.now.items = search rules in
    let next : c.index-next.result.now ≡ get_or c.args.firsts.now.items c.args.state 0 = c.index-next.ensures ∙ in-list c.args.firsts.now.items c.args.state _ 0 low in
    user-kept c.args.firsts.now.items _ c.args.links.now.items c.push.new.self.items c.args.state c.args.edge (c.len-count.result + 1) low c.index-next.result.now next c.in_ok-push.ensures.items (omega (arith, count)) refl t m h

pub returns-clause-added : goal.returns-clause-added
returns-clause-added c low =
    let count : c.len-count.result ≡ length c.args.links.now.items = search rules in
    let next : c.index-next.result.now ≡ get_or c.args.firsts.now.items c.args.state 0 = c.index-next.ensures ∙ in-list c.args.firsts.now.items c.args.state _ 0 low in
    user-added c.args.firsts.now.items _ c.args.links.now.items c.push.new.self.items c.args.state c.args.edge (c.len-count.result + 1) low c.index-next.result.now next c.in_ok-push.ensures.items (omega (arith, count)) refl

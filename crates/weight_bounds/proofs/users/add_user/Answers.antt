use Rattle.std.proofs.Common.{◌<◌, length, arith}
use Rattle.weight_bounds.proofs.Listed.{grows_at, length-mapped, uses-kept, uses-added}
use Rattle.weight_bounds.proofs.users.add_user.Goals as goal

pub returns-clause-kept : goal.returns-clause-kept
returns-clause-kept c t k h =
    let low : c.args.wanted < length c.args.users.now.items = omega (arith, c.if-place-len.false, c.len.ensures) in
    let long = length-mapped (λ v. v.items) c.args.users.now.items in
    uses-kept _ _ c.args.wanted c.args.source t k (omega (arith, low, long)) (grows_at (λ v. v.items) c.args.users.now.items c.args.wanted c.args.source c.index_mut.result.now _ low c.index_mut.ensures.value c.in_ok-push.ensures.items) h

pub returns-clause-added : goal.returns-clause-added
returns-clause-added c inside =
    let long = length-mapped (λ v. v.items) c.args.users.now.items in
    uses-added _ _ c.args.wanted c.args.source (omega (arith, inside, long)) (grows_at (λ v. v.items) c.args.users.now.items c.args.wanted c.args.source c.index_mut.result.now _ inside c.index_mut.ensures.value c.in_ok-push.ensures.items)

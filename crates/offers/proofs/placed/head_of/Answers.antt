use Rattle.std.proofs.Common.{rules, ◌≡◌, ◌<◌, sym, ◌∙◌}
use Rattle.offers.proofs.Heads.{head-dims, head-under, head-alone}
use Rattle.offers.proofs.placed.head_of.Goals as goal

pub returns-then-kind-gt0 : goal.returns-then-kind-gt0
returns-then-kind-gt0 c =
    let l : 0 < c.args.kind.now.dims = search rules in
    head-dims c.args.view.now c.args.kind.now l

pub returns-then-is_below_at : goal.returns-then-is_below_at
returns-then-is_below_at c =
    let d : c.args.kind.now.dims ≡ 0 = search rules in
    head-under c.args.view.now c.args.kind.now c.is_below_at.result d c.is_below_at.ensures c.if-is_below_at.true

pub returns : goal.returns
returns c =
    let d : c.args.kind.now.dims ≡ 0 = search rules in
    head-alone c.args.view.now c.args.kind.now c.is_below_at.result c.args.place d c.is_below_at.ensures c.if-is_below_at.false c.requires

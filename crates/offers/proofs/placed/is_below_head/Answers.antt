use Rattle.std.proofs.Common.{rules, ◌≡◌, ◌<◌, sym, ◌∙◌}
use Rattle.offers.proofs.Heads.{below-dims, below-place}
use Rattle.offers.proofs.placed.is_below_head.Goals as goal
use Rattle.std.proofs.Common.{Some, None}

pub returns-then-a-gt0 : goal.returns-then-a-gt0
returns-then-a-gt0 c =
    let l : 0 < c.args.a.now.dims = search rules in
    below-dims c.args.view.now c.args.a.now c.args.b.now c.args.head c.requires.head l

pub returns-in-Some : goal.returns-in-Some
returns-in-Some c =
    let d : c.args.a.now.dims ≡ 0 = search rules in
    c.is_ancestor.ensures ∙ below-place c.args.view.now c.args.a.now c.args.b.now c.args.head (Some c.in-Some.place) c.requires.head d (sym c.in-Some.is ∙ c.requires.low)

pub returns-in-None : goal.returns-in-None
returns-in-None c =
    let d : c.args.a.now.dims ≡ 0 = search rules in
    below-place c.args.view.now c.args.a.now c.args.b.now c.args.head None c.requires.head d (sym c.in-None.is ∙ c.requires.low)

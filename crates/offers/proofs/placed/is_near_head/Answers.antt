use Rattle.std.proofs.Common.{rules, ◌≡◌, ◌<◌, sym, ◌∙◌}
use Rattle.offers.proofs.Heads.{near-dims, near-here, near-above, near-none}
use Rattle.offers.proofs.placed.is_near_head.Goals as goal

pub returns-then-a-gt0 : goal.returns-then-a-gt0
returns-then-a-gt0 c =
    let l : 0 < c.args.a.now.dims = search rules in
    near-dims c.args.view.now c.args.a.now c.args.b.now c.args.head c.requires.head l

pub returns-then-place-head : goal.returns-then-place-head
returns-then-place-head c =
    let d : c.args.a.now.dims ≡ 0 = search rules in
    let s : c.in-Some.place ≡ c.args.head = search rules in
    near-here c.args.view.now c.args.a.now c.args.b.now c.in-Some.place c.args.head c.requires.head d (sym c.in-Some.is ∙ c.requires.low) s

pub returns-else-place-head : goal.returns-else-place-head
returns-else-place-head c =
    let d : c.args.a.now.dims ≡ 0 = search rules in
    let n : c.in-Some.place ≡ c.args.head → ⊥ = search rules in
    near-above c.args.view.now c.args.a.now c.args.b.now c.in-Some.place c.args.head c.is_ancestor.result c.requires.head d (sym c.in-Some.is ∙ c.requires.low) n c.is_ancestor.ensures

pub returns-in-None : goal.returns-in-None
returns-in-None c =
    let d : c.args.a.now.dims ≡ 0 = search rules in
    near-none c.args.view.now c.args.a.now c.args.b.now c.args.head c.requires.head d (sym c.in-None.is ∙ c.requires.low)

use Rattle.std.proofs.Common.{◌+◌, ap, arith}
use Rattle.reconstruction.specs.declared.item.Item.{Item}
use Rattle.reconstruction.specs.Tabled.{numbered_under}
use Rattle.reconstruction.proofs.Children.{no_push, too_heavy, one_push, pushed_last}
use Rattle.reconstruction.proofs.longer_fronts.grow_by.Goals as goal

pub returns-then-parent-limit-clause-pushes : goal.returns-then-parent-limit-clause-pushes
returns-then-parent-limit-clause-pushes c = no_push _ _ _ _ _ (too_heavy _ _ c.args.parent c.args.head.number c.args.head.total (numbered_under c.args.head.lambdas c.args.states.now) c.requires.parent c.requires.head (omega (arith, c.if-parent-limit.true, ap (λ g. g.limit) c.parts.ensures.value)))

pub returns-then-head-limit-clause-pushes : goal.returns-then-head-limit-clause-pushes
returns-then-head-limit-clause-pushes c = no_push _ _ _ _ _ (too_heavy _ _ c.args.parent c.args.head.number c.args.head.total (numbered_under c.args.head.lambdas c.args.states.now) c.requires.parent c.requires.head (omega (arith, c.if-head-limit.true, c.if-parent-limit.false, ap (λ g. g.limit) c.parts.ensures.value)))

pub returns-clause-pushes : goal.returns-clause-pushes
returns-clause-pushes c =
    let key = c.args.parent.base + c.args.head.total in
    let item : Item = record { front = c.in_ok-front.front; stack = c.in_ok-stack.stack } in
    one_push _ c.args.arena.now _ c.args.parent c.args.head.number c.args.head.total key (numbered_under c.args.head.lambdas c.args.states.now) item _ _ c.requires.parent c.requires.head (omega arith)
    (omega (arith, c.if-head-limit.false, c.if-parent-limit.false, ap (λ g. g.limit) c.parts.ensures.value))
    c.in_ok-front.ensures.within c.in_ok-stack.ensures.within c.in_ok-front.ensures.kept c.in_ok-stack.ensures.kept (pushed_last (key, item) _ _ c.in_ok-push.ensures.items)

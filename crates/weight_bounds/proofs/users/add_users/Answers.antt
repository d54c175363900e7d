use Rattle.std.proofs.Common.{length, map, subst, ◌∙◌, arith}
use Rattle.weight_bounds.proofs.Listed.{wants-next}
use Rattle.weight_bounds.specs.Users.{Uses}
use Rattle.weight_bounds.proofs.users.add_users.Goals as goal

pub loop-arg-preserved : goal.loop-arg-preserved
loop-arg-preserved c =
    let as_many = c.loop-arg.invariant.as_many in
    let value = c.wanted_of.ensures.value in
    record {
      as_many = c.add_user.ensures.as_many ∙ as_many;
      kept = λ t k h. c.in_ok-add_user.ensures.kept t k (c.loop-arg.invariant.kept t k h);
      added = wants-next c.args.args.now c.loop-arg.arg-index c.args.source (length c.args.users.now.items) c.arg-item.result _ (map (λ v. v.items) c.loop-arg.users.items) (map (λ v. v.items) c.add_user.new.users.items) c.loop-arg-test.true c.arg-item.is c.in_ok-add_user.ensures.kept
          (λ inside. subst (λ x. Uses (map (λ v. v.items) c.add_user.new.users.items) x c.args.source) value (c.in_ok-add_user.ensures.added (omega (arith, inside, value, as_many)))) c.loop-arg.invariant.added;
    }

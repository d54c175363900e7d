use Rattle.std.proofs.Common.{[], map, ap, ◌∙◌, arith}
use Rattle.weight_bounds.proofs.Listed.{users-start, users-next, users-end, length-mapped}
use Rattle.weight_bounds.specs.Rules.{of_decl}
use Rattle.weight_bounds.specs.Users.{wants}
use Rattle.weight_bounds.proofs.users.add_decls.Goals as goal

pub loop-i-init : goal.loop-i-init
loop-i-init c = record { as_many = omega arith; users = users-start of_decl c.args.parts.now.decls _ }

pub loop-i-preserved : goal.loop-i-preserved
loop-i-preserved c =
    let many = c.add_users.ensures.as_many in
    let old = length-mapped (λ v. v.items) c.loop-i.users.items in
    let new = length-mapped (λ v. v.items) c.add_users.new.users.items in
    record {
      as_many = c.add_users.ensures.as_many ∙ c.loop-i.invariant.as_many;
      users = users-next of_decl [] c.args.parts.now.decls c.loop-i.i c.loop-i.i c.decl_at-decl.result.now (map (λ v. v.items) c.loop-i.users.items) (map (λ v. v.items) c.add_users.new.users.items) c.decl_at-decl.ensures.stands (omega arith) c.loop-i.invariant.users c.in_ok-add_users.ensures.kept (omega (arith, many, old, new))
          (λ t h inside. c.in_ok-add_users.ensures.added t (ap (wants t) c.as_slice.ensures ∙ h) (omega (arith, inside, old)));
    }

pub returns-clause-users : goal.returns-clause-users
returns-clause-users c = (let past = c.loop-i-test.false in let long = c.len-i-end.ensures in users-end of_decl [] c.args.parts.now.decls c.loop-i.i _ (omega (arith, past, long)) c.loop-i.invariant.users)

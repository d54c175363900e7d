use Rattle.std.proofs.Common.{◌≡◌, ◌+◌, ◌==◌, map, false, subst, ◌∙◌, inl, inr, arith}
use Rattle.std.proofs.lemmas.Bool.{or_cases, eqb-true, false≢true}
use Rattle.weight_bounds.proofs.Listed.{users-begin, users-next, users-end, length-mapped}
use Rattle.weight_bounds.specs.Rules.{of_decl, of_pair}
use Rattle.weight_bounds.specs.Users.{Uses}
use Rattle.weight_bounds.proofs.users.add_pairs.Goals as goal

pub loop-j-init : goal.loop-j-init
loop-j-init c = record { as_many = omega arith; users = users-begin (of_pair c.args.parts.now) (map of_decl c.args.parts.now.decls) c.args.parts.now.pairs _ c.requires.decls }

pub loop-j-preserved : goal.loop-j-preserved
loop-j-preserved c =
    let many = c.add_user.ensures.as_many in
    let old = length-mapped (λ v. v.items) c.loop-j.users.items in
    let new = length-mapped (λ v. v.items) c.add_user.new.users.items in
    let decls = length-mapped of_decl c.args.parts.now.decls in
    let first = c.len-first.ensures in
    record {
      as_many = c.add_user.ensures.as_many ∙ c.loop-j.invariant.as_many;
      users = users-next (of_pair c.args.parts.now) (map of_decl c.args.parts.now.decls) c.args.parts.now.pairs c.loop-j.j (c.len-first.result + c.loop-j.j) c.pair_at-pair.result (map (λ v. v.items) c.loop-j.users.items) (map (λ v. v.items) c.add_user.new.users.items) c.pair_at-pair.ensures.stands (omega (arith, decls, first)) c.loop-j.invariant.users c.in_ok-add_user.ensures.kept (omega (arith, many, old, new))
          (λ t h inside. elim (or_cases (c.pair_at-pair.result.0 == t) false h) [
            | inl here ↦ (let same : c.pair_at-pair.result.0 ≡ t = eqb-true c.pair_at-pair.result.0 t here in subst (λ x. Uses (map (λ v. v.items) c.add_user.new.users.items) x (c.len-first.result + c.loop-j.j)) same (c.in_ok-add_user.ensures.added (omega (arith, same, inside, old))))
            | inr none ↦ absurd (false≢true none)
          ]);
    }

pub returns-clause-users : goal.returns-clause-users
returns-clause-users c = (let past = c.loop-j-test.false in let long = c.len-j-end.ensures in users-end (of_pair c.args.parts.now) (map of_decl c.args.parts.now.decls) c.args.parts.now.pairs c.loop-j.j _ (omega (arith, past, long)) c.loop-j.invariant.users)

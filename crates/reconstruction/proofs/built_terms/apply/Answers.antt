use Rattle.terms.proofs.Views.{expr-Var, expr-Head}
use Rattle.reconstruction.proofs.Unstacking.{even_applied, odd_takes, odd_applied}
use Rattle.reconstruction.proofs.built_terms.apply.Goals as goal

pub returns-then-number-eq0 : goal.returns-then-number-eq0
returns-then-number-eq0 c = record { applied = even_applied c.args.parts.now c.args.number c.args.stack.now.items c.push.new.self.items _ c.if-number-eq0.true c.in_ok-push.ensures.items (expr-Var _) }

pub take_args-requires : goal.take_args-requires
take_args-requires c = record { enough = odd_takes c.args.parts.now c.args.number _ c.wanted_by-wanted.result.now c.if-number-eq0.false c.wanted_by-wanted.ensures.value c.requires.enough }

pub returns : goal.returns
returns c = record { applied = odd_applied c.args.parts.now c.args.number c.wanted_by-wanted.result.now c.args.stack.now.items c.take_args.new.stack.items c.push-2.new.self.items c.in_ok-args.args _ c.if-number-eq0.false c.wanted_by-wanted.ensures.value c.in_ok-push-2.ensures.items (expr-Head _ _) c.in_ok-args.ensures.args c.in_ok-args.ensures.rest }

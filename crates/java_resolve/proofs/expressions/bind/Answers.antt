use Rattle.std.proofs.Common.{rules, ◌∙◌, ◌+◌, ◌++◌, ◌∷◌, [], ap, sym, refl, take}
use Rattle.std.proofs.lemmas.List.{take_more, take_all}
use Rattle.java_resolve.proofs.Adding.{adds_none, adds_then, adds_by, knows_more}
use Rattle.java_resolve.proofs.Forms.{begins_all, begins_then}
use Rattle.java_resolve.proofs.expressions.bind.Goals as goal

pub loop-binder-init : goal.loop-binder-init
loop-binder-init c = record {
  adds = adds_none c.args.passing.now.set;
  kept = begins_all c.args.passing.now.set.keys;
  place = refl;
}

pub loop-binder-preserved : goal.loop-binder-preserved
loop-binder-preserved c =
    let ws = c.args.binders.now in
    let i = c.loop-binder.binder-index in
    let s = c.args.passing.now.set in
    let t = c.loop-binder.passing.set in
    let u = c.add_word.new.set in
    record {
      adds = adds_by s u (take i ws ++ c.binder-item.result ∷ []) (take (i + 1) ws) (ap (λ x. take i ws ++ x ∷ []) c.binder-item.is ∙ sym (take_more ws i c.binder-item.result (search rules))) (adds_then s t u (take i ws) (c.binder-item.result ∷ []) c.loop-binder.invariant.adds c.in_ok-add_word.ensures.added);
      kept = begins_then s.keys t.keys u.keys c.loop-binder.invariant.kept c.in_ok-add_word.ensures.kept;
      place = c.loop-binder.invariant.place;
    }

pub returns-clause-known : goal.returns-clause-known
returns-clause-known c = λ d bound k.
    let ws = c.args.binders.now in
    let i = c.loop-binder.binder-index in
    knows_more c.args.passing.now.set c.loop-binder.passing.set d bound ws (adds_by c.args.passing.now.set c.loop-binder.passing.set (take i ws) ws (take_all i ws (search rules)) c.loop-binder.invariant.adds) k

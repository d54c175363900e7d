use Rattle.std.proofs.Common.{◌≡◌, ◌++◌, ◌∷◌, ◌∙◌, sym, ap, [], length, length-append, rules, arith}
use Rattle.std.proofs.lemmas.Iterator.Adapters.{YieldsList-from_vec}
use Rattle.std.proofs.lemmas.Iterator.Consumers.{YieldsList-turn, YieldsList-end}
use Rattle.class_batches.proofs.Gathering.{one-more, whole-sound, whole-classes, cut-off}
use Rattle.class_batches.proofs.parsing.gather.Goals as goal

pub loop-answer-preserved : goal.loop-answer-preserved
loop-answer-preserved c =
    let t = YieldsList-turn (YieldsList-from_vec {s = c.into_iter-answer-iterator.result} c.args.parsed.items (search rules) (search rules)) c.loop-answer.yielded c.loop-answer.answer-iterator c.loop-answer.yielded_by c.next.result c.next.new.self c.in-Some.answer c.in-Some.is c.next.ensures.steps in
    let grown : c.push.new.self ≡ c.loop-answer.classes ++ c.in-Ok.class ∷ [] = search rules in
    record {
      counted = length-append c.loop-answer.yielded (c.in-Some.answer ∷ []) ∙ omega (arith, c.loop-answer.invariant.counted, length-append c.loop-answer.classes (c.in-Ok.class ∷ [])) ∙ sym (ap length grown);
      so_far = one-more c.args.parsed.items c.loop-answer.classes c.push.new.self (length c.loop-answer.yielded) c.in-Some.answer c.in-Ok.class c.loop-answer.invariant.counted t.0 t.1 c.in-Ok.is grown c.loop-answer.invariant.so_far;
    }

pub returns-in-Err-clause-wrong : goal.returns-in-Err-clause-wrong
returns-in-Err-clause-wrong c =
    let t = YieldsList-turn (YieldsList-from_vec {s = c.into_iter-answer-iterator.result} c.args.parsed.items (search rules) (search rules)) c.loop-answer.yielded c.loop-answer.answer-iterator c.loop-answer.yielded_by c.next.result c.next.new.self c.in-Some.answer c.in-Some.is c.next.ensures.steps in
    λ files h. cut-off files c.args.parsed.items c.loop-answer.classes (length c.loop-answer.yielded) c.in-Some.answer c.in-Err.fault c.loop-answer.invariant.counted t.0 t.1 c.in-Err.is c.loop-answer.invariant.so_far h

pub returns-clause-wrong : goal.returns-clause-wrong
returns-clause-wrong c =
    let t = YieldsList-end (YieldsList-from_vec {s = c.into_iter-answer-iterator.result} c.args.parsed.items (search rules) (search rules)) c.loop-answer.yielded c.loop-answer.answer-iterator c.loop-answer.yielded_by c.next.result c.next.new.self c.in-None.is c.next.ensures.steps in
    λ files h. whole-sound files c.args.parsed.items c.loop-answer.classes (length c.loop-answer.yielded) c.loop-answer.invariant.counted t.1 c.loop-answer.invariant.so_far h

pub returns-clause-classes : goal.returns-clause-classes
returns-clause-classes c =
    let t = YieldsList-end (YieldsList-from_vec {s = c.into_iter-answer-iterator.result} c.args.parsed.items (search rules) (search rules)) c.loop-answer.yielded c.loop-answer.answer-iterator c.loop-answer.yielded_by c.next.result c.next.new.self c.in-None.is c.next.ensures.steps in
    λ files h. whole-classes files c.args.parsed.items c.loop-answer.classes (length c.loop-answer.yielded) c.loop-answer.invariant.counted t.1 c.loop-answer.invariant.so_far h

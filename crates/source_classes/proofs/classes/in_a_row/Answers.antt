use Rattle.std.proofs.Common.{◌≡◌, ◌+◌, ◌++◌, ◌∷◌, [], sym, subst, ℕ, length, length-append, take, flat_map, rules, arith}
use Rattle.std.proofs.lemmas.Iterator.Adapters.{YieldsList-from_vec}
use Rattle.std.proofs.lemmas.Iterator.Consumers.{YieldsList-turn, YieldsList-end}
use Rattle.source_classes.proofs.Gathered.{gathered_on, gathered_end}
use Rattle.source_classes.proofs.classes.in_a_row.Goals as goal

pub loop-classes-preserved : goal.loop-classes-preserved
loop-classes-preserved c =
    let t = YieldsList-turn (YieldsList-from_vec {s = c.into_iter-classes-iterator.result} c.args.lists.items (search rules) (search rules)) c.loop-classes.yielded c.loop-classes.classes-iterator c.loop-classes.yielded_by c.next.result c.next.new.self c.in-Some.classes c.in-Some.is c.next.ensures.steps in
    let long : length (c.loop-classes.yielded ++ c.in-Some.classes ∷ []) ≡ length c.loop-classes.yielded + 1 = length-append c.loop-classes.yielded (c.in-Some.classes ∷ []) in
    subst (λ (n : ℕ). c.append.new.self ≡ flat_map (λ l. l) (take n c.args.lists.items)) (sym long)
    (gathered_on (λ l. l) c.args.lists.items (length c.loop-classes.yielded) c.in-Some.classes c.loop-classes.all c.append.new.self c.in-Some.classes t.0 t.1 c.in_ok-append.ensures c.loop-classes.invariant)

pub returns : goal.returns
returns c =
    let t = YieldsList-end (YieldsList-from_vec {s = c.into_iter-classes-iterator.result} c.args.lists.items (search rules) (search rules)) c.loop-classes.yielded c.loop-classes.classes-iterator c.loop-classes.yielded_by c.next.result c.next.new.self c.in-None.is c.next.ensures.steps in
    gathered_end (λ l. l) c.args.lists.items (length c.loop-classes.yielded) c.loop-classes.all (omega (arith, t.1)) c.loop-classes.invariant

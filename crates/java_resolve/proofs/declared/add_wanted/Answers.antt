use Rattle.std.proofs.Common.{rules, ◌+◌, ◌∷◌, [], drop}
use Rattle.indexmap.specs.IndexSet.{contains_text}
use Rattle.java_resolve.specs.Known.{wanted_words}
use Rattle.java_resolve.proofs.Adding.{owes_less, owes_none, wanted_first, wanted_end}
use Rattle.java_resolve.proofs.declared.add_wanted.Goals as goal

pub loop-arg-preserved : goal.loop-arg-preserved
loop-arg-preserved c =
    let g = c.args.parts.now in
    let i = c.loop-arg.arg-index in
    owes_less (contains_text c.args.set.now) c.loop-arg.set c.add_arg.new.set (wanted_words g (drop i c.args.args.now)) (wanted_words g (c.arg-item.result ∷ [])) (wanted_words g (drop (i + 1) c.args.args.now)) (wanted_words g c.args.args.now)
    (wanted_first g c.args.args.now i c.arg-item.result (search rules) c.arg-item.is) c.in_ok-add_arg.ensures c.loop-arg.invariant

pub returns : goal.returns
returns c = owes_none c.args.set.now c.loop-arg.set (wanted_words c.args.parts.now (drop c.loop-arg.arg-index c.args.args.now)) (wanted_words c.args.parts.now c.args.args.now) (wanted_end c.args.parts.now c.args.args.now c.loop-arg.arg-index (search rules)) c.loop-arg.invariant

use Rattle.std.proofs.Common.{◌≡◌, ◌∙◌, ap, rules, [], ◌∷◌, ◌++◌}
use Rattle.java_units.specs.Signs.{seen, seens}
use Rattle.java_units.proofs.Lists.{entries_on, entries_end, entries_none, seens-push, seens-nil}
use Rattle.java_units.proofs.starts.entries.Goals as goal

pub returns-then-n-eq0 : goal.returns-then-n-eq0
returns-then-n-eq0 c = record { exact = entries_none _ (seen c.args.lexemes.now) c.args.entry c.entry_len-n.result (search rules) c.entry_len-n.ensures.value (search rules) }

pub loop-i-init : goal.loop-i-init
loop-i-init c =
    let e : c.new-all.result.items ≡ [] = search rules in
    seens-push c.new-all.result.items c.push.new.self.items c.args.lexemes c.in_ok-push.ensures.items ∙ ap (λ r. r ++ seen c.args.lexemes.now ∷ []) (ap seens e ∙ seens-nil)

pub loop-i-preserved : goal.loop-i-preserved
loop-i-preserved c = entries_on c.as_slice-places.result.now c.loop-i.i _ c.tail-in-loop-i.result c.loop-i.all.items c.push-in-loop-i.new.self.items (seen c.args.lexemes.now) (search rules) c.tail-in-loop-i.ensures.rest c.in_ok-push-2.ensures.items c.loop-i.invariant

pub returns : goal.returns
returns c = record { exact = entries_end c.as_slice-places.result.now c.loop-i.i c.loop-i.all.items (seen c.args.lexemes.now) (seen c.tail.result.now) c.args.entry c.entry_len-n.result (search rules) c.loop-i.invariant c.entry_len-n.ensures.value (search rules) c.tail.ensures.rest (ap seens c.as_slice-places.ensures.value ∙ c.in_ok-nexts.ensures) }

use Rattle.std.proofs.Common.{◌≡◌, ◌∙◌, sym, ap, rules, arith, length, ◌++◌, [], ◌≢◌}
use Rattle.std.proofs.lemmas.List.{length-drop}
use Rattle.java_units.specs.Signs.{seen, seens}
use Rattle.java_units.specs.Forms.{starts}
use Rattle.java_units.specs.Pieces.{run_len}
use Rattle.java_units.proofs.Lists.{seens-nil, seens-push, starts_on, starts_end}
use Rattle.java_units.proofs.starts.starts.Goals as goal

pub loop-rest-init : goal.loop-rest-init
loop-rest-init c =
    let e : c.new-all.result.items ≡ [] = search rules in
    sym (ap (λ xs. xs ++ starts (run_len c.args.run) 0 (seen c.args.lexemes.now)) (ap seens e ∙ seens-nil))

pub returns-then-n-eq0 : goal.returns-then-n-eq0
returns-then-n-eq0 c = starts_end (run_len c.args.run) (seens c.loop-rest.all.items) (seen c.loop-rest.rest.now) c.run_len-n.result _ c.run_len-n.ensures.value (search rules) c.loop-rest.invariant

pub loop-rest-preserved : goal.loop-rest-preserved
loop-rest-preserved c = starts_on (run_len c.args.run) (seens c.loop-rest.all.items) (seens c.push.new.self.items) (seen c.loop-rest.rest.now) (seen c.tail-rest.result.now) c.run_len-n.result _ (seens-push c.loop-rest.all.items c.push.new.self.items c.loop-rest.rest (search rules)) c.run_len-n.ensures.value (search rules) (omega (arith, c.run_len-n.ensures.within)) c.tail-rest.ensures.rest c.loop-rest.invariant

pub loop-rest-smaller : goal.loop-rest-smaller
loop-rest-smaller c =
    let z : c.run_len-n.result ≢ 0 = search rules in
    omega (arith, ap length c.tail-rest.ensures.rest, length-drop c.run_len-n.result (seen c.loop-rest.rest.now), c.run_len-n.ensures.within)

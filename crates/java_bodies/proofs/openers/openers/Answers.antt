use Rattle.std.proofs.Common.{rules, arith, ap, sym, ◌≡◌, ◌∙◌, length, reverse, ◌<◌}
use Rattle.java_units.specs.Signs.{seen}
use Rattle.java_units.proofs.Walks.{seen-length}
use Rattle.java_bodies.specs.Openers.{openers, opener, opener_alone, gathered, open_at, open_after, innermost}
use Rattle.java_bodies.proofs.Walks.{gathered_none, open_on, opener_on}
use Rattle.java_bodies.proofs.openers.openers.Goals as goal

pub loop-i-init : goal.loop-i-init
unfolding open_at
loop-i-init c = record { held = ap reverse c.new-inner.ensures.items; made = c.new-all.ensures.items ∙ sym (gathered_none _) }

pub loop-i-preserved : goal.loop-i-preserved
unfolding opener
loop-i-preserved c =
    let ls = c.args.lexemes.now in
    let i = c.loop-i.i in
    let inv = c.loop-i.invariant in
    let l : i < length ls = omega (arith, c.loop-i-test.true) in
    let v : c.deref.result.now ≡ c.loop-i.inner.items = search rules in
    let t : c.innermost.result ≡ opener (seen ls) i = c.innermost.ensures ∙ ap innermost (ap reverse v ∙ inv.held) in
    record {
      held = c.in_ok-pass.ensures ∙ ap (open_after _ i) inv.held ∙ ap (λ m. open_after m i (open_at (seen ls) i)) c.mark_of.ensures ∙ sym (open_on ls i _ l);
      made = opener_on (seen ls) c.loop-i.all.items c.push.new.self.items i c.innermost.result t (search rules) inv.made;
    }

pub returns : goal.returns
unfolding openers
returns c = let e : c.loop-i.i ≡ length (seen c.args.lexemes.now) = search (rules, arith, seen-length) in c.loop-i.invariant.made ∙ ap (gathered (opener_alone (seen c.args.lexemes.now))) e

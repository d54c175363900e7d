use Rattle.std.proofs.Common.{◌≡◌, [], sym, ap, ◌∙◌, drop, refl, rules, Some}
use Rattle.java_units.specs.declared.unit.Frame.{Frame}
use Rattle.java_units.specs.Signs.{seen}
use Rattle.java_units.proofs.Bodies.{step_first, step_end, step_none, step_plain, step_class, seen_none, seen_some}
use Rattle.java_units.proofs.unit.classes.Goals as goal

pub loop-init : goal.loop-init
loop-init c = step_first c.args.count c.args.lexemes c.new-classes.result c.new-frames.result.items c.push.new.self.items (search rules) (search rules) c.in_ok-push.ensures.items

pub returns-in_default : goal.returns-in_default
returns-in_default c =
    let e : c.loop.frames.items ≡ [] = search rules in
    step_end c.args.count (seen c.args.lexemes.now) c.loop.classes c.loop.frames.items e c.loop.invariant

pub loop-preserved-then-is_empty : goal.loop-preserved-then-is_empty
loop-preserved-then-is_empty c =
    let z = seen_none c.in-Some.frame.rest.now (sym c.is_empty.ensures ∙ c.if-is_empty.true) in
    step_none c.args.count (seen c.args.lexemes.now) c.loop.classes c.loop.frames.items c.pop.new.self.items c.in-Some.frame c.in-Some.ensures.items z c.loop.invariant

pub loop-preserved-then-not-is_class : goal.loop-preserved-then-not-is_class
loop-preserved-then-not-is_class c =
    let rest = seen c.in-Some.frame.rest.now in
    let g : Frame = record { around = c.in-Some.frame.around; rest = c.tail-after.result } in
    let z = seen_some c.in-Some.frame.rest.now (sym c.is_empty.ensures ∙ c.if-is_empty.false) in
    step_plain c.args.count (seen c.args.lexemes.now) c.loop.classes c.loop.frames.items c.pop.new.self.items c.push-in-loop.new.self.items c.in-Some.frame g
    c.in-Some.ensures.items c.in_ok-push-2.ensures.items refl (c.tail-after.ensures.rest ∙ ap (λ n. drop n rest) c.piece_len.ensures.value) z (sym c.is_class.ensures ∙ c.if-not-is_class.true) c.loop.invariant

pub loop-preserved : goal.loop-preserved
loop-preserved c =
    let rest = seen c.in-Some.frame.rest.now in
    let g : Frame = record { around = c.in-Some.frame.around; rest = c.tail-after.result } in
    let i : Frame = record { around = Some (record { number = c.in_ok-number.number; kind = c.in_ok-class.class.kind }); rest = c.members_of.result } in
    step_class c.args.count (seen c.args.lexemes.now) c.loop.classes c.push-in-loop-2.new.self c.loop.frames.items c.pop.new.self.items c.push-in-loop.new.self.items c.push-in-loop-3.new.self.items
    c.in-Some.frame g i c.in_ok-class.class c.in_ok-number.number
    c.in-Some.ensures.items c.in_ok-push-2.ensures.items refl (c.tail-after.ensures.rest ∙ ap (λ n. drop n rest) c.piece_len.ensures.value) (sym c.is_class.ensures ∙ c.if-not-is_class.false)
    c.in_ok-class.ensures c.in_ok-push-3.ensures.ok (c.in_ok-number.ensures ∙ c.len.ensures) refl c.members_of.ensures c.in_ok-push-4.ensures.items c.loop.invariant

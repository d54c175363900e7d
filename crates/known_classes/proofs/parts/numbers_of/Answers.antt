use Rattle.std.proofs.Common.{rules, ◌≡◌, ◌∙◌, ◌-◌, ◌++◌, ◌∷◌, [], List, ℕ, ap, sym, refl, subst, arith, true, false, length, slice_get, Some, None}
use Rattle.std.specs.Prelude.{is_some}
use Rattle.std.specs.BTreeMap.{get_by_text}
use Rattle.std.proofs.lemmas.Option.{slice_get_read}
use Rattle.known_classes.specs.Known.{class_named}
use Rattle.known_classes.proofs.MergedPlaces.{base_there, base_none}
use Rattle.known_classes.proofs.NumberTables.{Puts, made_first, made_skip, made_base, made_new}
use Rattle.known_classes.proofs.parts.numbers_of.Goals as goal

pub loop-left-init : goal.loop-left-init
loop-left-init g c =
    let none : (name : List ℕ) → get_by_text c.new-by_name.result name ≡ None = λ name. search rules in
    made_first (g.C.Classes.listed c.args.base.now) c.args.extra.now c.new-added.result.items (get_by_text c.new-by_name.result) (length c.args.extra.now) refl c.new-added.ensures.items none

pub loop-left-preserved-then-contains_key : goal.loop-left-preserved-then-contains_key
loop-left-preserved-then-contains_key g c =
    let k : ℕ = c.loop-left.left - 1 in
    let e = c.index-extra-left.result in
    let at : slice_get c.args.extra.now k ≡ Some e = slice_get_read c.args.extra.now (length c.args.extra.now) k e refl (omega (arith, c.loop-left.invariant.within)) c.index-extra-left.is in
    let has : is_some (get_by_text c.loop-left.by_name e.name) ≡ true = search rules in
    made_skip (g.C.Classes.listed c.args.base.now) c.args.extra.now c.loop-left.added.items (get_by_text c.loop-left.by_name) c.loop-left.left k e (omega arith) at has c.loop-left.invariant

pub loop-left-preserved-then-is_some : goal.loop-left-preserved-then-is_some
loop-left-preserved-then-is_some g c =
    let base = g.C.Classes.listed c.args.base.now in
    let k : ℕ = c.loop-left.left - 1 in
    let e = c.index-extra-left.result in
    let at : slice_get c.args.extra.now k ≡ Some e = slice_get_read c.args.extra.now (length c.args.extra.now) k e refl (omega (arith, c.loop-left.invariant.within)) c.index-extra-left.is in
    let has : is_some (get_by_text c.loop-left.by_name e.name) ≡ false = search rules in
    let name : c.as_str-name.result.now ≡ e.name = search rules in
    let some : is_some c.find.result ≡ true = sym c.is_some.ensures ∙ c.if-is_some.true in
    let d = base_there base (class_named base c.as_str-name.result.now) c.find.result c.find.ensures some in
    let put : Puts c.as_str-name.result.now k (get_by_text c.loop-left.by_name) (get_by_text c.put.new.numbers) = c.in_ok-put.ensures.placed in
    made_base base c.args.extra.now c.loop-left.added.items (get_by_text c.loop-left.by_name) (get_by_text c.put.new.numbers) c.loop-left.left k e d.0 (omega arith) at has (ap (class_named base) (sym name) ∙ d.1)
    (subst (λ (x : List ℕ). Puts x k (get_by_text c.loop-left.by_name) (get_by_text c.put.new.numbers)) name put) c.loop-left.invariant

pub loop-left-preserved : goal.loop-left-preserved
loop-left-preserved g c =
    let base = g.C.Classes.listed c.args.base.now in
    let k : ℕ = c.loop-left.left - 1 in
    let e = c.index-extra-left.result in
    let at : slice_get c.args.extra.now k ≡ Some e = slice_get_read c.args.extra.now (length c.args.extra.now) k e refl (omega (arith, c.loop-left.invariant.within)) c.index-extra-left.is in
    let has : is_some (get_by_text c.loop-left.by_name e.name) ≡ false = search rules in
    let name : c.as_str-name.result.now ≡ e.name = search rules in
    let none : is_some c.find.result ≡ false = sym c.is_some.ensures ∙ c.if-is_some.false in
    let away : class_named base c.as_str-name.result.now ≡ None = base_none base (class_named base c.as_str-name.result.now) c.find.result c.find.ensures none in
    let put : Puts c.as_str-name.result.now c.len.result (get_by_text c.loop-left.by_name) (get_by_text c.put-in-loop-left.new.numbers) = c.in_ok-put-2.ensures.placed in
    let count : c.len.result ≡ length c.loop-left.added.items = search rules in
    let more : c.push.new.self.items ≡ c.loop-left.added.items ++ k ∷ [] = search rules in
    made_new base c.args.extra.now c.loop-left.added.items c.push.new.self.items (get_by_text c.loop-left.by_name) (get_by_text c.put-in-loop-left.new.numbers) c.loop-left.left k c.len.result e (omega arith) at has (ap (class_named base) (sym name) ∙ away) count more
    (subst (λ (x : List ℕ). Puts x c.len.result (get_by_text c.loop-left.by_name) (get_by_text c.put-in-loop-left.new.numbers)) name put) c.loop-left.invariant

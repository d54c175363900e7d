use Rattle.std.proofs.Common.{rules, ◌≡◌, ◌∙◌, ◌-◌, ◌+◌, ◌<◌, ap, sym, subst, refl, arith, ℕ, List, length, slice_get, Some, None}
use Rattle.std.specs.Prelude.{IfSome}
use Rattle.std.specs.BTreeMap.{get_by_text}
use Rattle.std.proofs.lemmas.Option.{slice_get_read}
use Rattle.known_classes.specs.Known.{canonical}
use Rattle.known_classes.specs.Nested.{IsLesser}
use Rattle.known_classes.proofs.MergedPlaces.{there}
use Rattle.known_classes.proofs.NestedPlaces.{best_in}
use Rattle.known_classes.proofs.NamePlaces.{canonical_first, canonical_on}
use Rattle.known_classes.proofs.name_tables.canonical_from.Goals as goal

pub loop-left-init : goal.loop-left-init
loop-left-init g c =
    let none : (name : List ℕ) → get_by_text c.new-table.result name ≡ None = λ name. search rules in
    record {
      from = search rules;
      table = canonical_first (g.L.ClassList.listed c.args.classes.now) c.count-left.result (get_by_text c.new-table.result) c.count-left.ensures.size none;
    }

pub lesser-least-requires-clause-there : goal.lesser-least-requires-clause-there
lesser-least-requires-clause-there g c =
    let known = g.L.ClassList.listed c.args.classes.now in
    let best : c.copied-best.result ≡ get_by_text c.loop-left.table c.as_str-text.result.now = search rules in
    subst (λ o. IfSome o (λ b. b < length known)) (sym best) (best_in known _ (get_by_text c.loop-left.table c.as_str-text.result.now) (c.loop-left.invariant.table.each c.as_str-text.result.now))

pub loop-left-preserved : goal.loop-left-preserved
loop-left-preserved g c =
    let known = g.L.ClassList.listed c.args.classes.now in
    let k : ℕ = c.loop-left.left - 1 in
    let i : ℕ = k - c.args.from in
    let in-known : k < length known = let l = c.loop-left.invariant.table.within in omega (arith, l, c.loop-left-test.true) in
    let d = there known k in-known in
    let in-texts : i < length c.args.texts.now = let s = c.requires.names.size in omega (arith, s, in-known, c.loop-left-test.true) in
    let at : c.args.from + i ≡ k = omega (arith, c.loop-left-test.true) in
    let named : slice_get c.args.texts.now i ≡ Some (canonical known d.0.name) = c.requires.names.each i d.0 in-texts (ap (slice_get known) at ∙ d.1) in
    let read : slice_get c.args.texts.now i ≡ Some c.index-texts-left.result = slice_get_read c.args.texts.now (length c.args.texts.now) i c.index-texts-left.result refl in-texts c.index-texts-left.is in
    let same : c.index-texts-left.result ≡ canonical known d.0.name = (let q : Some c.index-texts-left.result ≡ Some (canonical known d.0.name) = sym read ∙ named in cc) in
    let text : c.as_str-text.result.now ≡ canonical known d.0.name = c.as_str-text.ensures ∙ same in
    let best : c.copied-best.result ≡ get_by_text c.loop-left.table c.as_str-text.result.now = search rules in
    let less : IsLesser known k (get_by_text c.loop-left.table c.as_str-text.result.now) c.lesser-least.result = subst (λ o. IsLesser known k o c.lesser-least.result) best c.lesser-least.ensures.class in
    record {
      from = omega (arith, c.loop-left-test.true);
      table = canonical_on known c.loop-left.left k d.0 c.as_str-text.result.now c.lesser-least.result (get_by_text c.loop-left.table) (get_by_text c.put.new.numbers) (omega (arith, c.loop-left-test.true)) d.1 text c.lesser-least.ensures.within less c.in_ok-put.ensures.placed c.loop-left.invariant.table;
    }

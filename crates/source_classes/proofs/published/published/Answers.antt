use Rattle.std.proofs.Common.{rules, ◌≡◌, refl, subst, true, false, map, ℕ, List, Option, None}
use Rattle.std.specs.Prelude.{reverse, is_some}
use Rattle.std.specs.BTreeMap.{get_by_text}
use Rattle.known_classes.proofs.NumberTables.{Puts}
use Rattle.source_classes.specs.SourceClasses.{last_ones, without_private}
use Rattle.source_classes.proofs.Publishing.{publishing_first, publishing_skip, publishing_keep, publishing_end}
use Rattle.source_classes.proofs.published.published.Goals as goal

pub loop-class-init : goal.loop-class-init
loop-class-init c =
    let none : (n : List ℕ) → get_by_text c.new-later.result n ≡ None = λ n. search rules in
    publishing_first c.args.classes c.args.classes c.new-kept.result.items (get_by_text c.new-later.result) refl c.new-kept.ensures.items none

pub loop-class-preserved-then-contains_key : goal.loop-class-preserved-then-contains_key
loop-class-preserved-then-contains_key c =
    let x = c.in-Some.class in
    let has : is_some (get_by_text c.loop-class.later x.name) ≡ true = search rules in
    publishing_skip c.args.classes c.loop-class.left c.pop.new.self c.loop-class.kept.items (get_by_text c.loop-class.later) x c.in-Some.ensures has c.loop-class.invariant

pub loop-class-preserved : goal.loop-class-preserved
loop-class-preserved c =
    let x = c.in-Some.class in
    let t : List ℕ → Option ℕ = get_by_text c.loop-class.later in
    let u : List ℕ → Option ℕ = get_by_text c.put.new.numbers in
    let has : is_some (get_by_text c.loop-class.later x.name) ≡ false = search rules in
    let name : c.as_str-in-Some.result.now ≡ x.name = search rules in
    let put : Puts c.as_str-in-Some.result.now 0 t u = c.in_ok-put.ensures.placed in
    publishing_keep c.args.classes c.loop-class.left c.pop.new.self c.loop-class.kept.items c.push.new.self.items t u x c.in_ok-without_private.field-0 0 c.in-Some.ensures has (subst (λ (n : List ℕ). Puts n 0 t u) name put) c.in_ok-without_private.ensures c.in_ok-push.ensures.items c.loop-class.invariant

pub returns : goal.returns
returns c =
    let m : reverse c.loop-class.kept.items ≡ map without_private (last_ones c.args.classes) = publishing_end c.args.classes c.loop-class.left c.loop-class.kept.items (get_by_text c.loop-class.later) (search rules) c.loop-class.invariant in
    search rules

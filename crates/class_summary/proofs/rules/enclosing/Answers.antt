use Rattle.std.proofs.Common.{◌≡◌, ◌∙◌, ap, sym, List, true, false, bytes_eq, get_or, rules}
use Rattle.java_units.specs.declared.types.SourceClass.{SourceClass}
use Rattle.class_summary.specs.Sources.{name_at}
use Rattle.class_summary.proofs.Searches.{enclosing_self, enclosing_member, enclosing_on, enclosing_end}
use Rattle.class_summary.proofs.rules.enclosing.Goals as goal

pub returns-then-is_named : goal.returns-then-is_named
returns-then-is_named c =
    let e : bytes_eq c.args.name.now (name_at c.args.unit.now.classes (get_or c.args.numbers.now c.loop-k.k 0)) ≡ true = ap (λ (q : List SourceClass). bytes_eq c.args.name.now (name_at q (get_or c.args.numbers.now c.loop-k.k 0))) (sym c.classes.ensures) ∙ (sym c.is_named.ensures ∙ c.if-is_named.true) in
    enclosing_self c.args.unit.now.classes c.args.name.now c.args.numbers.now c.loop-k.k (search rules) e c.loop-k.invariant

pub loop-k-preserved : goal.loop-k-preserved
loop-k-preserved c =
    let e : bytes_eq c.args.name.now (name_at c.args.unit.now.classes (get_or c.args.numbers.now c.loop-k.k 0)) ≡ false = ap (λ (q : List SourceClass). bytes_eq c.args.name.now (name_at q (get_or c.args.numbers.now c.loop-k.k 0))) (sym c.classes.ensures) ∙ (sym c.is_named.ensures ∙ c.if-is_named.false) in
    enclosing_on c.args.unit.now.classes c.args.name.now c.args.numbers.now c.loop-k.k (search rules) e (sym c.member.ensures ∙ c.in_default.is) c.loop-k.invariant

pub returns-in-loop-k : goal.returns-in-loop-k
returns-in-loop-k c =
    let e : bytes_eq c.args.name.now (name_at c.args.unit.now.classes (get_or c.args.numbers.now c.loop-k.k 0)) ≡ false = ap (λ (q : List SourceClass). bytes_eq c.args.name.now (name_at q (get_or c.args.numbers.now c.loop-k.k 0))) (sym c.classes.ensures) ∙ (sym c.is_named.ensures ∙ c.if-is_named.false) in
    enclosing_member c.args.unit.now.classes c.args.name.now c.args.numbers.now c.loop-k.k c.in-Some.member (search rules) e (sym c.member.ensures ∙ c.in-Some.is) c.loop-k.invariant

pub returns : goal.returns
returns c = enclosing_end c.args.unit.now.classes c.args.name.now c.args.numbers.now c.loop-k.k (search rules) c.loop-k.invariant

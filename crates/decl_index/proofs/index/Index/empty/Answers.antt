use Rattle.std.proofs.Common.{rules, ◌≡◌, ◌∙◌, [], map, subst, sym, ap, List}
use Rattle.std.specs.Arc.{arc_value}
use Rattle.known_classes.specs.declared.summary.ClassSummary.{ClassSummary}
use Rattle.known_classes.specs.NameTables.{AreNameTables, table_of}
use Rattle.decl_index.specs.Changed.{IsFree}
use Rattle.decl_index.specs.Places.{AreNamesOf}
use Rattle.decl_index.proofs.Searches.{free-none}
use Rattle.decl_index.proofs.Outline.{rises_none}
use Rattle.decl_index.proofs.CountLemmas.{empty-state}
use Rattle.decl_index.proofs.index.Index.empty.Goals as goal

pub of-requires : goal.of-requires
of-requires c =
    let none : c.deref.result.now ≡ [] = search rules in
    rises_none arc_value c.deref.result.now none

pub invariant_of-result : goal.invariant_of-result
invariant_of-result c =
    let list = arc_value c.in_ok-map_err.field-0 in
    let xs = list.items in
    let names = c.in_ok-names.names in
    let same : list ≡ c.new-classes.result = search rules in
    let none : xs ≡ [] = ap (λ v. v.items) same ∙ c.new-classes.ensures.items in
    let held : arc_value c.in_ok-map_err-3.field-0 ≡ names = search rules in
    let seen : c.of.result ≡ map arc_value c.new-classes.result.items = search rules in
    let view : c.of.result ≡ map arc_value xs = seen ∙ ap (λ v. map arc_value v.items) (sym same) in
    let tables : AreNameTables (map arc_value xs) (table_of names) = subst (λ (cs : List ClassSummary). AreNameTables cs (table_of names)) view c.in_ok-names.ensures.tables in
    let own : AreNamesOf (map arc_value xs) names = record { tables = tables; whole = c.in_ok-names.ensures.from } in (
      rises_none arc_value xs none,
      subst (AreNamesOf (map arc_value xs)) (sym held) own,
      subst (λ ys. IsFree (map arc_value ys)) (sym none) free-none,
      c.usual.ensures.ranges,
    )

pub returns : goal.returns
returns c =
    let list = arc_value c.in_ok-map_err.field-0 in
    let same : list ≡ c.new-classes.result = search rules in
    let none : list.items ≡ [] = ap (λ v. v.items) same ∙ c.new-classes.ensures.items in
    let counts : (arc_value c.in_ok-map_err-2.field-0).entries ≡ [] = search rules in
    record { state = empty-state arc_value list.items (arc_value c.in_ok-map_err-2.field-0) c.usual.result none counts c.usual.ensures.usual }

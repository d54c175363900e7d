use Rattle.std.proofs.Common.{rules, ◌≡◌, map, length, sym, subst}
use Rattle.std.specs.Prelude.{IfOk}
use Rattle.std.specs.Arc.{arc_value}
use Rattle.known_classes.specs.NameTables.{table_of}
use Rattle.known_classes.specs.declared.name_tables.NameTables.{NameTables}
use Rattle.decl_index.specs.Places.{AreNamesOf}
use Rattle.decl_index.specs.Changed.{Each, KeepsNesting}
use Rattle.decl_index.proofs.CountLemmas.{no-length}
use Rattle.decl_index.proofs.Results.{ok_then}
use Rattle.decl_index.proofs.Outline.{names_kept}
use Rattle.decl_index.proofs.class_names.names_after.Goals as goal

pub returns-then-all_keep_nesting : goal.returns-then-all_keep_nesting
returns-then-all_keep_nesting g c =
    let old = map arc_value c.args.old.now in
    let new = map arc_value c.args.classes.now in
    let zero : length c.args.removes.now ≡ 0 = search rules in
    let each : Each (KeepsNesting old) c.args.puts.now = search rules in
    let names : NameTables = arc_value c.args.before.now in
    let kept : AreNamesOf new names = record { tables = names_kept c.args.removes.now c.args.puts.now old new (no-length c.args.removes.now zero) c.requires.rises c.requires.leaves each (table_of names) c.requires.names.whole c.requires.names.tables; whole = c.requires.names.whole } in
    let shared : IfOk c.try_clone.result (λ all. arc_value all ≡ names) = search rules in
    ok_then (λ all. arc_value all ≡ names) (λ all. AreNamesOf new (arc_value all)) c.try_clone.result shared
    (λ all e. subst (AreNamesOf new) (sym e) kept)

use Rattle.std.proofs.Common.{rules, ◌≡◌, ◌∙◌, ◌++◌, ◌∷◌, [], ap, sym, subst, map, ℕ, List, None}
use Rattle.std.specs.BTreeMap.{get_by_text}
use Rattle.std.proofs.lemmas.List.{map-append}
use Rattle.class_summary.proofs.UnitTables.{AllEmpty, empty_on, empty_at}
use Rattle.class_summary.proofs.unit_names.empty_tables.Goals as goal

pub loop-table-preserved : goal.loop-table-preserved
loop-table-preserved c =
    let none : (name : List ℕ) → get_by_text c.new.result name ≡ None = λ name. search rules in
    let more : c.push.new.self.items ≡ c.loop-table.tables.items ++ c.new.result ∷ [] = search rules in
    let e : map get_by_text c.push.new.self.items ≡ map get_by_text c.loop-table.tables.items ++ get_by_text c.new.result ∷ [] = ap (map get_by_text) more ∙ map-append get_by_text c.loop-table.tables.items (c.new.result ∷ []) in
    subst AllEmpty (sym e) (empty_on (map get_by_text c.loop-table.tables.items) (get_by_text c.new.result) c.loop-table.invariant none)

pub returns : goal.returns
returns c = λ k table name e. empty_at (map get_by_text c.loop-table.tables.items) k table name c.loop-table.invariant e

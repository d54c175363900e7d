use Rattle.std.proofs.Common.{rules, ◌≡◌, ◌∙◌, ◌<◌, ap, sym, arith, ℕ, List, length, map, set, slice_get, vec_len, bytes_eq, if◌then◌else◌, Some}
use Rattle.std.specs.Option.{option_map}
use Rattle.std.specs.BTreeMap.{get_by_text}
use Rattle.std.proofs.lemmas.List.{length-map}
use Rattle.std.proofs.lemmas.Option.{slice_get-map, slice_get-get_or}
use Rattle.std.proofs.lemmas.Result.{on_err_weaker}
use Rattle.std.proofs.Math.Seq.{map-set_same}
use Rattle.known_classes.specs.NameTables.{PutsAt}
use Rattle.known_classes.proofs.TableLemmas.{puts_at, map-set, on_ok}
use Rattle.known_classes.proofs.tables.put_at.Goals as goal

pub returns-clause-placed : goal.returns-clause-placed
returns-clause-placed c =
    let xs = c.args.tables.now.items in
    let v : vec_len c.args.tables.now ≡ length xs = search rules in
    let l : c.args.place < length xs = omega (arith, v, c.len.ensures, c.if-place-len.false) in
    let x = c.index_mut.result.now in
    let y = c.put.new.numbers in
    let b : slice_get (map get_by_text xs) c.args.place ≡ Some (get_by_text x) = slice_get-map get_by_text xs c.args.place ∙ ap (option_map get_by_text) (slice_get-get_or xs c.args.place x l ∙ ap Some (sym c.index_mut.ensures.value)) in
    let m : c.args.place < length (map get_by_text xs) = omega (arith, l, length-map xs get_by_text) in
    let P : Type 0 = (other : List ℕ) → get_by_text y other ≡ (if bytes_eq c.args.name.now other then Some c.args.number else get_by_text x other) in
    let Q : Type 0 = PutsAt c.args.place c.args.name.now c.args.number (map get_by_text xs) (map get_by_text (set xs c.args.place y)) in
    on_ok c.put.result P Q c.put.ensures.placed (λ p. puts_at c.args.place c.args.name.now c.args.number (map get_by_text xs) (map get_by_text (set xs c.args.place y)) (get_by_text x) (get_by_text y) b m (map-set get_by_text xs c.args.place y) p)

pub returns-clause-unchanged : goal.returns-clause-unchanged
returns-clause-unchanged c =
    let xs = c.args.tables.now.items in
    let x = c.index_mut.result.now in
    let y = c.put.new.numbers in
    on_err_weaker c.put.result (λ same. map-set_same get_by_text xs c.args.place y x (same ∙ ap get_by_text c.index_mut.ensures.value)) c.put.ensures.unchanged

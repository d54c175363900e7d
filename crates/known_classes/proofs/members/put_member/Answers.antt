use Rattle.std.proofs.Common.{◌≡◌, ◌∙◌, ap, map, ℕ, List, bytes_eq, if◌then◌else◌, Some}
use Rattle.std.specs.Prelude.{◌&&◌}
use Rattle.std.specs.BTreeMap.{get_by_text}
use Rattle.known_classes.specs.NameTables.{PutsAt, member_place}
use Rattle.known_classes.proofs.TableLemmas.{on_ok}
use Rattle.known_classes.proofs.MemberLemmas.{placed}
use Rattle.known_classes.proofs.members.put_member.Goals as goal

pub returns-clause-placed : goal.returns-clause-placed
returns-clause-placed c =
    let outer = c.args.outer.now in
    let name = c.args.name.now in
    let place : ℕ = c.args.place in
    let numbers = get_by_text c.number_of.new.members.outers in
    let mid = map get_by_text c.number_of.new.members.tables.items in
    let more = map get_by_text c.put_at.new.tables.items in
    let old = map get_by_text c.args.members.now.tables.items in
    let P : Type 0 = PutsAt c.in_ok-number.number name place mid more in
    let Q : Type 0 = (other text : List ℕ) → member_place numbers more other text ≡ (if bytes_eq other outer && bytes_eq text name then Some place else member_place (get_by_text c.args.members.now.outers) old other text) in
    on_ok c.put_at.result P Q c.put_at.ensures.placed (λ p other text.
    placed numbers mid more outer name c.in_ok-number.number place c.in_ok-number.ensures.numbered c.in_ok-number.ensures.number p other text
    ∙ ap (λ o. if bytes_eq other outer && bytes_eq text name then Some place else o) (c.in_ok-number.ensures.stays other text))

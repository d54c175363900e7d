use Rattle.std.proofs.Common.{rules, ◌≡◌, ◌∙◌, ◌++◌, ◌∷◌, [], ap, map, ℕ, List, length, bytes_eq, if◌then◌else◌, Some, None}
use Rattle.std.specs.BTreeMap.{get_by_text}
use Rattle.std.proofs.lemmas.List.{map-append, length-map}
use Rattle.known_classes.proofs.MemberLemmas.{IsNewOuter, new_numbered, new_stays}
use Rattle.known_classes.proofs.members.number_of.Goals as goal

pub returns : goal.returns
returns c =
    let old = c.args.members.now.tables.items in
    let none : (name : List ℕ) → get_by_text c.new.result name ≡ None = λ name. search rules in
    let more : c.push.new.self.items ≡ old ++ c.new.result ∷ [] = search rules in
    let fresh : get_by_text c.args.members.now.outers c.args.outer.now ≡ None = search rules in
    let size : c.len-number.result ≡ length (map get_by_text old) = search (rules, length-map) in
    let h : IsNewOuter c.args.outer.now (get_by_text c.args.members.now.outers) (map get_by_text old) (get_by_text c.put.new.numbers) (map get_by_text c.push.new.self.items) = record {
      fresh = fresh;
      empty = get_by_text c.new.result;
      none = none;
      grown = ap (map get_by_text) more ∙ map-append get_by_text old (c.new.result ∷ []);
      put = λ other. c.in_ok-put.ensures.placed other ∙ ap (λ n. if bytes_eq c.args.outer.now other then Some n else get_by_text c.args.members.now.outers other) size;
    } in
    record {
      numbered = new_numbered c.args.outer.now (get_by_text c.args.members.now.outers) (get_by_text c.put.new.numbers) (map get_by_text old) (map get_by_text c.push.new.self.items) h c.requires;
      number = search rules;
      stays = new_stays c.args.outer.now (get_by_text c.args.members.now.outers) (get_by_text c.put.new.numbers) (map get_by_text old) (map get_by_text c.push.new.self.items) h c.requires;
      outers = search rules;
    }

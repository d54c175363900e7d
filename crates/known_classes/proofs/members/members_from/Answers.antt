use Rattle.std.proofs.Common.{rules, ◌≡◌, map, ℕ, List, None}
use Rattle.std.specs.BTreeMap.{get_by_text}
use Rattle.known_classes.proofs.MemberLemmas.{members_first}
use Rattle.known_classes.proofs.members.members_from.Goals as goal

pub loop-left-init : goal.loop-left-init
loop-left-init g c =
    let none : (name : List ℕ) → get_by_text c.new.result name ≡ None = λ name. search rules in
    record {
      from = search rules;
      tables = members_first (g.L.ClassList.listed c.args.classes.now) c.count-left.result (get_by_text c.new.result) (map get_by_text c.new-2.result.items) c.count-left.ensures.size none;
    }

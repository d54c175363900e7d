use Rattle.std.proofs.Common.{rules, ◌≡◌, ◌++◌, ℕ, List, map, sym, ap, ◌∙◌}
use Rattle.std.specs.List.{flat_map}
use Rattle.prefetch.specs.Tasks.{times}
use Rattle.prefetch.specs.Settling.{taken_by, handed_by}
use Rattle.prefetch.proofs.Numbers.{each_once}
use Rattle.prefetch.proofs.settled.settle.Goals as goal

pub returns-clause-each_once : goal.returns-clause-each_once
returns-clause-each_once g c =
    let left = c.take_left.new.left.items in
    let handed : c.in_ok-handed.handed.items ≡ map handed_by c.args.senders.items = search rules in
    let taken : c.in_ok-taken.taken.items ≡ flat_map taken_by c.args.workers.items = search rules in
    each_once c.args.senders.items c.in_ok-handed.handed.items (c.in_ok-taken.taken.items ++ left) c.requires.all.order handed
    (λ p. ap (times p) (sym c.gather-all.ensures.sent) ∙ c.in_ok-take_left.ensures.settled p ∙ ap (λ (l : List (ℕ × ℕ)). times p (l ++ left)) (c.gather-all.ensures.got ∙ sym taken))

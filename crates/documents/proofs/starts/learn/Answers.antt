use Rattle.std.proofs.Common.{rules, tests, ap, ◌∙◌, ◌≡◌, ◌++◌, ◌∷◌, [], length, List, ℕ, subst, take, drop, ◌-◌}
use Rattle.documents.specs.Places.{ends_in}
use Rattle.documents.proofs.Rests.{empty}
use Rattle.documents.proofs.Moves.{found-whole}
use Rattle.documents.proofs.starts.learn.Goals as goal

pub returns-else-not-find_ends : goal.returns-else-not-find_ends
returns-else-not-find_ends c = λ some.
    let old = c.args.starts.now.items in
    let none : length old ≡ 0 = search (rules, tests) in
    let pushed : c.push.new.self.items ≡ old ++ 0 ∷ [] = search (rules, tests) in
    let P : List ℕ → Type 0 = λ x. c.find_ends.new.ends.items ≡ c.push.new.self.items ++ ends_in 0 (take (length c.args.text.now - 0) (drop 0 x)) (drop (length c.args.text.now) x) in
    let found : P c.args.text.now = subst P c.as_bytes.ensures.value (c.if-not-find_ends.ensures (search (rules, tests))) in
    found-whole c.args.text.now c.find_ends.new.ends.items
    (found ∙ ap (λ y. y ++ ends_in 0 (take (length c.args.text.now - 0) (drop 0 c.args.text.now)) (drop (length c.args.text.now) c.args.text.now)) (pushed ∙ ap (λ y. y ++ 0 ∷ []) (empty old none)))

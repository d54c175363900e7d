use Rattle.std.proofs.Common.{◌≡◌, List, sym, ◌∙◌, subst, fold, drop}
use mathlib.Core.List.{IsPrefix}
use Rattle.decl_index.specs.declared.change.Change.{Change}
use Rattle.version_board.proofs.Keeps.{publish_keeps}
use Rattle.version_board.proofs.writing.show.Goals as goal

pub publish_as-next-requires : goal.publish_as-next-requires
publish_as-next-requires g c next is =
    let w = c.loop.writer in
    let o = c.args.writer in
    let now = w.desk.shown.value in
    let old = o.desk.shown.value in
    let inv = c.loop.invariant in
    let last : List Change → List (List Change) → List Change = λ x xs. fold (λ (_ : List Change) (n : List Change). n) x xs in
    let same : next ≡ last old (drop o.behind o.log.items) = is ∙ (λ k. last (inv.0 k) (inv.1 k)) in
    let up : IsPrefix now next = subst (λ (x : List Change). IsPrefix x next) (sym inv.0) (subst (λ (y : List Change). IsPrefix old y) (sym same) c.requires) in
    publish_keeps _ _ _ now next up

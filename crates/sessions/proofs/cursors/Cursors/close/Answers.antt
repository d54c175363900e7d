use Rattle.std.proofs.Common.{◌≡◌, ◌∙◌, ◌<◌, ◌^◌, rules, sym, ap, subst, List}
use Rattle.std.specs.Prelude.{filter, not, ◌==◌}
use Rattle.std.proofs.lemmas.Fn.{filter_same}
use Rattle.std.proofs.lemmas.List.Elements.{All-filter}
use Rattle.answers.specs.declared.types.Cursor.{Cursor}
use Rattle.answers.specs.Cursors.{without}
use Rattle.sessions.specs.Ranges.{AreFew}
use Rattle.sessions.proofs.KeptCursors.{without_filter}
use Rattle.sessions.proofs.cursors.Cursors.close.Goals as goal

pub invariant_of-self : goal.invariant_of-self
invariant_of-self c =
    let kept : c.retain.new.self.items ≡ filter (λ d. not (d.number == c.args.number)) c.self.inside.kept.items = filter_same _ _ _ (λ x b f' k. search rules) _ _ c.retain.ensures.filtered in
    subst (λ (cs : List Cursor). AreFew cs) (sym kept) (All-filter (λ d. not (d.number == c.args.number)) (λ d. d.answered < 2 ^ 62) c.self.inside.kept.items c.self.invariant)

pub returns : goal.returns
returns c =
    let cursors : c.self.inside.kept.items ≡ c.args.self.now.cursors = search rules in
    let kept : c.retain.new.self.items ≡ filter (λ d. not (d.number == c.args.number)) c.self.inside.kept.items = filter_same _ _ _ (λ x b f' k. search rules) _ _ c.retain.ensures.filtered in
    let left : c.retain.new.self.items ≡ without c.args.number c.args.self.now.cursors = kept ∙ sym (without_filter c.args.number c.self.inside.kept.items) ∙ ap (without c.args.number) cursors in
    record { left = search (rules, ap (λ cs. record c.args.self.now { cursors = cs }) left) }

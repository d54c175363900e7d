use Rattle.std.proofs.Common.{ap, sym, ◌∙◌, rules}
use Rattle.terms.specs.Table.{first_gap}
use Rattle.terms.proofs.Gaps.{gap-least, or-found, or-passed}
use Rattle.terms.proofs.Valid.{of-decls}
use Rattle.terms.proofs.env.later_fault.Goals as goal

pub returns-then-is_some : goal.returns-then-is_some
returns-then-is_some c =
    or-found _ _ _ (c.first_gap-fault.ensures ∙ ap first_gap c.of.ensures ∙ gap-least c.args.parts.now.pairs _ _ c.requires.table c.requires.sound c.requires.len) (sym c.is_some.ensures ∙ c.if-is_some.true)

pub returns-then-is_some-2 : goal.returns-then-is_some-2
returns-then-is_some-2 c =
    or-found _ _ _ (of-decls c.args.parts.now _ _ _ (search rules) (search rules) c.decls_fault-fault.ensures) (sym c.is_some-2.ensures ∙ c.if-is_some-2.true)
    ∙ or-passed _ _ _ (c.first_gap-fault.ensures ∙ ap first_gap c.of.ensures ∙ gap-least c.args.parts.now.pairs _ _ c.requires.table c.requires.sound c.requires.len) (sym c.is_some.ensures ∙ c.if-is_some.false)

pub returns : goal.returns
returns c =
    c.goal_fault.ensures
    ∙ or-passed _ _ _ (of-decls c.args.parts.now _ _ _ (search rules) (search rules) c.decls_fault-fault.ensures) (sym c.is_some-2.ensures ∙ c.if-is_some-2.false)
    ∙ or-passed _ _ _ (c.first_gap-fault.ensures ∙ ap first_gap c.of.ensures ∙ gap-least c.args.parts.now.pairs _ _ c.requires.table c.requires.sound c.requires.len) (sym c.is_some.ensures ∙ c.if-is_some.false)

use Rattle.std.proofs.Common.{rules, ◌∙◌, ap, Some}
use Rattle.scopes.specs.Kinds.{Kinds, number_in}
use Rattle.scopes.proofs.Listed.{some-moved, some-same}
use Rattle.scopes.proofs.numbers.Numbers.of.Goals as goal

pub returns-then-self : goal.returns-then-self
returns-then-self c =
    c.moved.ensures ∙ some-moved c.self.inside.types.now c.self.inside.void c.args.kind.now c.self.inside.place c.place_in-at.result (search rules) c.self.invariant.place c.place_in-at.ensures.exact
    ∙ ap (λ (ks : Kinds). number_in ks (Some c.args.kind.now)) c.self.view_is

pub returns : goal.returns
returns c =
    some-same c.self.inside.types.now c.self.inside.void c.args.kind.now c.place_in-at.result (search rules) c.place_in-at.ensures.exact
    ∙ ap (λ (ks : Kinds). number_in ks (Some c.args.kind.now)) c.self.view_is

use Rattle.std.proofs.Common.{◌∷◌, [], ◌++◌}
use Rattle.terms.specs.Typing.{rows}
use Rattle.java_resolve.proofs.NameLinks.{linked_as}
use Rattle.java_resolve.proofs.links.Name.dotted.Goals as goal

pub returns-clause-right : goal.returns-clause-right
returns-clause-right c = λ b set ok bare named.
    let g = c.args.setting.now.env.now in
    linked_as g (rows c.args.setting.now.ctx) b c.behind_name-link.result (c.args.self.text ++ 46 ∷ []) c.push.new.self [] c.new.result c.in_ok-push.ensures.added c.new.ensures
    (c.behind_name-link.ensures.right g (rows c.args.setting.now.ctx) b bare (c.in_ok-row.ensures.right b set ok bare named))

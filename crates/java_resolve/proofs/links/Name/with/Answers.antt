use Rattle.std.proofs.Common.{◌≡◌, ◌∷◌, [], ◌++◌, ◌∙◌, ap, sym}
use Rattle.terms.specs.Typing.{rows}
use Rattle.java_resolve.proofs.TextFacts.{if_map}
use Rattle.java_resolve.proofs.NameLinks.{link_char}
use Rattle.java_resolve.proofs.links.Name.with.Goals as goal

pub returns-then-c-eq46-clause-text : goal.returns-then-c-eq46-clause-text
returns-then-c-eq46-clause-text c = if_map (λ n. n.text ≡ c.args.self.text ++ 46 ∷ []) (λ n. n.text ≡ c.args.self.text ++ c.args.c ∷ []) c.dotted.result (λ n e. e ∙ ap (λ k. c.args.self.text ++ k ∷ []) (sym c.if-c-eq46.true)) c.dotted.ensures.text

pub returns-clause-right : goal.returns-clause-right
returns-clause-right c = λ b set ok bare named.
    link_char c.args.setting.now.env.now (rows c.args.setting.now.ctx) b c.args.self.link c.args.self.text c.push-2.new.self c.args.self.word c.push.new.self c.args.c c.in_ok-push-2.ensures.added c.in_ok-push.ensures.added c.if-c-eq46.false named

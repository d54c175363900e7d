use Rattle.std.proofs.Common.{◌≡◌, ◌++◌, ◌∷◌, [], sym, ap, ◌∙◌, rules}
use Rattle.java_units.specs.Signs.{seen}
use Rattle.java_units.specs.Blocks.{seen_back}
use Rattle.java_units.proofs.Walks.{seen-nil}
use Rattle.java_tokens.proofs.Total.{all_within}
use Rattle.java_units.proofs.BlockLaws.{turn, turned}
use Rattle.java_units.proofs.reading.lexemes.Goals as goal

pub lexemes_back-requires : goal.lexemes_back-requires
lexemes_back-requires c = all_within c.args.text.now c.args.tokens.now c.utf8.text c.requires.own_tokens

pub loop-lexeme-init : goal.loop-lexeme-init
loop-lexeme-init c =
    let e : c.new-all.result.items ≡ [] = search rules in
    sym c.in_ok-back.ensures ∙ sym (ap (λ xs. xs ++ seen_back c.in_ok-back.back.items) (ap seen e ∙ seen-nil))

pub loop-lexeme-preserved : goal.loop-lexeme-preserved
loop-lexeme-preserved c =
    let e : c.loop-lexeme.back.items ≡ c.pop.new.self.items ++ c.in-Some.lexeme ∷ [] = search rules in
    turn c.loop-lexeme.all.items c.push.new.self.items c.loop-lexeme.back.items c.pop.new.self.items c.in-Some.lexeme _ e c.in_ok-push.ensures.items c.loop-lexeme.invariant

pub returns : goal.returns
returns c =
    let e : c.loop-lexeme.back.items ≡ [] = search rules in
    record { exact = turned c.loop-lexeme.all.items c.loop-lexeme.back.items _ e c.loop-lexeme.invariant }

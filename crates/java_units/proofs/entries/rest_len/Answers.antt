use Rattle.std.proofs.Common.{◌≡◌, ◌<◌, ◌+◌, ◌==◌, ◌&&◌, ℕ, List, [], ◌∷◌, length, true, drop, rules, arith, sym, ◌∙◌, ap}
use Rattle.java_units.specs.declared.lexemes.Lexeme.{Lexeme}
use Rattle.java_units.specs.Signs.{seen}
use Rattle.java_units.specs.Forms.{goes_on, rest_len}
use Rattle.java_units.proofs.Walks.{rest_len-hit, rest_len-on, rest_len-end}
use Rattle.java_units.proofs.entries.rest_len.Goals as goal

hit : (ls : List Lexeme) (i d k : ℕ) → i < length ls → (d == 0 && goes_on (drop i (seen ls))) ≡ true → k ≡ i + rest_len d (drop i (seen ls)) → i ≡ k
hit [] i d k l e h = absurd (omega arith)
hit (x ∷ xs) i d k l e h = rest_len-hit (x ∷ xs) i d k x l e h

pub returns-then-turns-clause-value : goal.returns-then-turns-clause-value
returns-then-turns-clause-value c =
    let same = ap (λ xs. c.loop-i.depth == 0 && goes_on xs) (sym c.tail.ensures.rest) in
    hit c.args.lexemes.now c.loop-i.i c.loop-i.depth _ (search rules) (same ∙ (sym c.turns.ensures ∙ c.if-turns.true)) c.loop-i.invariant.rest

pub loop-i-preserved : goal.loop-i-preserved
loop-i-preserved c =
    let same = ap (λ xs. c.loop-i.depth == 0 && goes_on xs) (sym c.tail.ensures.rest) in
    let e = rest_len-on c.args.lexemes.now c.loop-i.i c.loop-i.depth _ _ (search rules) (same ∙ (sym c.turns.ensures ∙ c.if-turns.false)) c.loop-i.invariant.rest in
    record { depth = omega arith; rest = e ∙ ap (λ d. (c.loop-i.i + 1) + rest_len d (drop (c.loop-i.i + 1) (seen c.args.lexemes.now))) (sym c.deeper-depth.ensures.value) }

pub returns-clause-value : goal.returns-clause-value
returns-clause-value c =
    let e = rest_len-end c.args.lexemes.now c.loop-i.i c.loop-i.depth _ (search rules) c.loop-i.invariant.rest in
    omega (arith, e)

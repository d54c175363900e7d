use Rattle.std.proofs.Common.{◌≡◌, ◌<◌, ◌+◌, ◌++◌, List, ℕ, rules, tests, arith, subst, sym, ap, length, refl}
use Rattle.java_tokens.specs.Tokens.{AreTokens, Tile, byte_len}
use Rattle.java_tokens.specs.declared.token.Token.{Token}
use Rattle.java_tokens.proofs.Tiles.{tiles-more, tiles-end, tokens-tile}
use Rattle.java_tokens.proofs.Runs.{byte_len-split}
use Rattle.java_tokens.proofs.token.tokens_of_chars.Goals as goal

pub loop-rest-preserved : goal.loop-rest-preserved
loop-rest-preserved c =
    let inv = c.loop-rest.invariant in
    let rest = c.loop-rest.rest.now in
    let at = c.loop-rest.at in
    let n = c.rule-kind.result.1 in
    let some : 0 < length rest = search (rules, tests) in
    record {
      tiles = λ more are.
          let P : List Token → Type 0 = λ x. AreTokens 0 c.args.cs.now (x ++ more) in
          let Q : List ℕ → Type 0 = λ x. AreTokens (at + c.byte_len.result) x more in
          subst P (sym (c.in_ok-push.ensures.ok)) (tiles-more c.args.cs.now rest at c.loop-rest.tokens (record { kind = c.rule-kind.result.0; start = at; end = at + c.byte_len.result }) n inv.tiles some (sym c.rule-kind.ensures.value) refl (ap (λ b. at + b) c.byte_len.ensures) more (subst Q c.tail-rest.ensures are));
      room = omega (arith, inv.room, c.byte_len.ensures, byte_len-split rest n, ap byte_len c.tail-rest.ensures);
    }

pub returns : goal.returns
returns c =
    let none : length c.loop-rest.rest.now ≡ 0 = search (rules, tests) in
    let are = tiles-end c.args.cs.now c.loop-rest.rest.now c.loop-rest.at c.loop-rest.tokens c.loop-rest.invariant.tiles none in
    let P : ℕ → Type 0 = λ x. Tile 0 x c.loop-rest.tokens in
    let all : 0 + byte_len c.args.cs.now ≡ byte_len c.args.cs.now = omega arith in
    record { by_the_rules = are; tiling = subst P all (tokens-tile 0 c.args.cs.now c.loop-rest.tokens are) }

use Rattle.std.proofs.Common.{◌≡◌, ◌-◌, length, reverse, refl, sym, ap, ◌∙◌, rules, arith}
use Rattle.std.proofs.Common.{◌&&◌, not, slice_index_or}
use Rattle.java_tokens.specs.declared.token.Token.{Token}
use Rattle.java_tokens.specs.declared.token.TokenKind.TheVariants.{White}
use Rattle.java_units.specs.Signs.{is_word, has, reserved}
use Rattle.java_units.specs.Blocks.{block_len, closers_after}
use Rattle.java_units.proofs.BlockLaws.{backs_none, backs_skip, backs_push, backs_end, within_at}
use Rattle.java_units.proofs.reading.lexemes_back.Goals as goal

pub loop-number-init : goal.loop-number-init
loop-number-init c = backs_none c.args.text.now c.args.tokens.now c.new-back.result.items c.new-closers.result.items (search rules) (search rules)

pub word-word-requires : goal.word-word-requires
word-word-requires c = within_at c.args.text.now c.args.tokens.now (c.loop-number.number - 1) _ (omega (arith, c.loop-number.invariant.within)) c.requires

pub loop-number-preserved-then-is_blank : goal.loop-number-preserved-then-is_blank
loop-number-preserved-then-is_blank c = backs_skip c.args.text.now c.args.tokens.now _ c.loop-number.number (c.loop-number.number - 1) c.loop-number.back.items c.loop-number.closers.items (omega arith) (sym c.is_blank.ensures ∙ c.if-is_blank.true) c.loop-number.invariant

pub loop-number-preserved : goal.loop-number-preserved
loop-number-preserved c =
    let nothing : Token = record { kind = White; start = 0; end = 0 } in
    let len : c.len.result ≡ length c.loop-number.back.items = search rules in
    backs_push c.args.text.now c.args.tokens.now _ c.loop-number.number (c.loop-number.number - 1) c.loop-number.back.items c.push.new.self.items c.loop-number.closers.items c.block.new.closers.items _ (omega arith) (sym c.is_blank.ensures ∙ c.if-is_blank.false)
    c.word-word.ensures (c.is_name-is_name.ensures.value ∙ ap (λ x. is_word (slice_index_or c.args.tokens.now (c.loop-number.number - 1) nothing).kind && not (has reserved x)) c.word-word.ensures) refl
    (c.in_ok-holds.ensures.len ∙ ap (λ n. block_len c.word-word.result.now n (reverse c.loop-number.closers.items)) len)
    (c.in_ok-holds.ensures.kept ∙ ap (λ n. closers_after c.word-word.result.now n (reverse c.loop-number.closers.items)) len)
    c.in_ok-push.ensures.items c.loop-number.invariant

pub returns : goal.returns
returns c = backs_end c.args.text.now c.args.tokens.now c.loop-number.number c.loop-number.back.items c.loop-number.closers.items (search rules) c.loop-number.invariant

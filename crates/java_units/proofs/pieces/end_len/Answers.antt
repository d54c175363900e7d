use Rattle.std.proofs.Common.{◌∙◌, ◌<◌, sym, arith, length}
use Rattle.java_units.proofs.Walks.{end_len-none, end_len-block, end_len-other, length-some, seen-length}
use Rattle.java_units.proofs.pieces.end_len.Goals as goal

pub returns-then-is_empty-clause-value : goal.returns-then-is_empty-clause-value
returns-then-is_empty-clause-value c = end_len-none c.args.lexemes.now (sym c.is_empty.ensures ∙ c.if-is_empty.true)

pub returns-then-not-is-clause-value : goal.returns-then-not-is-clause-value
returns-then-not-is-clause-value c =
    let some : 0 < length c.args.lexemes.now = length-some c.args.lexemes.now (sym c.is_empty.ensures ∙ c.if-is_empty.false) in
    end_len-other c.args.lexemes.now _ some (sym c.is.ensures.value ∙ c.if-not-is.true)

pub returns-then-not-is-clause-within : goal.returns-then-not-is-clause-within
returns-then-not-is-clause-within c =
    let some : 0 < length c.args.lexemes.now = length-some c.args.lexemes.now (sym c.is_empty.ensures ∙ c.if-is_empty.false) in
    omega (arith, seen-length c.args.lexemes.now)

pub returns-then-holds-lexemes-clause-value : goal.returns-then-holds-lexemes-clause-value
returns-then-holds-lexemes-clause-value c =
    let some : 0 < length c.args.lexemes.now = length-some c.args.lexemes.now (sym c.is_empty.ensures ∙ c.if-is_empty.false) in
    omega (arith, end_len-block c.args.lexemes.now _ some (sym c.is.ensures.value ∙ c.if-not-is.false))

pub returns-then-holds-lexemes-clause-within : goal.returns-then-holds-lexemes-clause-within
returns-then-holds-lexemes-clause-within c = omega (arith, seen-length c.args.lexemes.now)

pub returns-clause-value : goal.returns-clause-value
returns-clause-value c =
    let some : 0 < length c.args.lexemes.now = length-some c.args.lexemes.now (sym c.is_empty.ensures ∙ c.if-is_empty.false) in
    omega (arith, end_len-block c.args.lexemes.now _ some (sym c.is.ensures.value ∙ c.if-not-is.false))

pub returns-clause-within : goal.returns-clause-within
returns-clause-within c = omega (arith, seen-length c.args.lexemes.now)

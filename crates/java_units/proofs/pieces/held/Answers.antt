use Rattle.std.proofs.Common.{◌∙◌, sym, ap, take}
use Rattle.java_units.proofs.Walks.{held-none, held-some, length-some}
use Rattle.java_units.proofs.pieces.held.Goals as goal

pub returns-then-is_empty : goal.returns-then-is_empty
returns-then-is_empty c = held-none c.args.lexemes.now (sym c.is_empty.ensures ∙ c.if-is_empty.true)

pub returns : goal.returns
returns c =
    let some = length-some c.args.lexemes.now (sym c.is_empty.ensures ∙ c.if-is_empty.false) in
    (c.prefix.ensures.first ∙ ap (take _) c.tail.ensures.rest) ∙ held-some c.args.lexemes.now _ some

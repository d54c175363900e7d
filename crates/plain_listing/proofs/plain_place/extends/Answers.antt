use Rattle.std.proofs.Common.{◌≡◌, ◌∙◌, length, get_or, bytes_eq, sym, ap, arith}
use Rattle.plain_listing.proofs.Numbers.{rows-longer, rows-stop, rows-go, rows-end, length-extended}
use Rattle.plain_listing.proofs.plain_place.extends.Goals as goal

pub returns-then-context-count : goal.returns-then-context-count
returns-then-context-count c = sym (rows-longer _ _ (λ e. c.if-context-count.true (e ∙ length-extended c.args.outer.now c.args.params.now)))

pub returns-then-not-is_same : goal.returns-then-not-is_same
returns-then-not-is_same c = sym (c.loop-i.invariant ∙ rows-stop _ _ c.args.params.now c.index-context-i.result c.index-outer-i.result c.loop-i.i (omega arith) (omega arith) c.index-context-i.is c.index-outer-i.is (ap (bytes_eq c.index-context-i.result) (sym c.as_slice.ensures) ∙ sym c.is_same.ensures ∙ c.if-not-is_same.true))

pub loop-i-preserved : goal.loop-i-preserved
loop-i-preserved c = c.loop-i.invariant ∙ rows-go _ _ c.args.params.now c.index-context-i.result c.index-outer-i.result c.loop-i.i (omega arith) (omega arith) c.index-context-i.is c.index-outer-i.is (ap (bytes_eq c.index-context-i.result) (sym c.as_slice.ensures) ∙ sym c.is_same.ensures ∙ c.if-not-is_same.false)

pub returns : goal.returns
returns c =
    let i_is : c.loop-i.i ≡ length c.args.outer.now = omega arith in
    sym (c.loop-i.invariant ∙ rows-end _ _ c.args.params.now c.index-context-count.result c.loop-i.i (sym i_is) (omega (arith, i_is, c.if-context-count.false)) (c.index-context-count.is ∙ ap (λ n. get_or c.args.context.now n c.index-context-count.result) (sym i_is)) ∙ sym c.is_same-2.ensures)

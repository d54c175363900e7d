use Rattle.std.proofs.Common.{◌≡◌, ◌+◌, ◌∙◌, List, map, sym, ap, arith}
use Rattle.terms.specs.View.{expr}
use Rattle.terms.specs.declared.term.Term.{Term}
use Rattle.plain_listing.proofs.Making.{fills-cons, nothing_added, empty-nil}
use Rattle.plain_listing.proofs.fills.+fills.Goals as goal

pub fills_from-returns : goal.fills_from-returns
fills_from-returns t c =
    let e : c.loop-k.k ≡ c.args.weight + 1 = omega arith in
    c.loop-k.invariant ∙ rw e (sym (fills-cons _ _ _ c.args.first.now c.args.more.now c.args.weight))

pub push_split-returns-then-is_empty : goal.push_split-returns-then-is_empty
push_split-returns-then-is_empty t c = nothing_added _ _ _ _ (sym c.candidates-terms.ensures ∙ ap (λ (ts : List Term). map expr ts) (empty-nil _ (sym c.is_empty.ensures ∙ c.if-is_empty.true)))

use Rattle.std.proofs.Common.{◌∙◌, ◌++◌, ◌∷◌, [], Bool, List, ℕ, sym, ap, arith}
use Rattle.plain_listing.specs.Tables.{same_rows}
use Rattle.plain_listing.proofs.Numbers.{number-stop, number-go, number-end}
use Rattle.plain_listing.proofs.plain_place.number_of.Goals as goal

pub returns-then-extends-clause-value : goal.returns-then-extends-clause-value
returns-then-extends-clause-value c =
    let S : List (List ℕ) → Bool = λ x. same_rows x (c.args.outer.now ++ c.args.params.now ∷ []) in
    sym (c.loop-n.invariant ∙ number-stop _ _ c.loop-n.n c.index-contexts-n.result (omega arith) c.index-contexts-n.is (ap S (sym c.as_slice.ensures) ∙ sym c.extends.ensures ∙ c.if-extends.true))

pub loop-n-preserved : goal.loop-n-preserved
loop-n-preserved c =
    let S : List (List ℕ) → Bool = λ x. same_rows x (c.args.outer.now ++ c.args.params.now ∷ []) in
    c.loop-n.invariant ∙ number-go _ _ c.loop-n.n c.index-contexts-n.result (omega arith) c.index-contexts-n.is (ap S (sym c.as_slice.ensures) ∙ sym c.extends.ensures ∙ c.if-extends.false)

pub returns-clause-value : goal.returns-clause-value
returns-clause-value c = sym (c.loop-n.invariant ∙ number-end _ _ c.loop-n.n (omega arith))

use Rattle.std.proofs.Common.{◌≡◌, ◌∙◌, ◌+◌, ◌-◌, ◌≤◌, ap, sym, subst, ℕ, Option, Some, IfSome}
use Rattle.class_summary.specs.VariableEnds.{Reach}
use Rattle.class_summary.proofs.ends.further.Goals as goal

pub returns : goal.returns
returns c =
    let v = c.next.view_is in
    let P : Option ℕ → Type 0 = λ o. IfSome o (λ sum. (c.args.dims ≤ sum) × (c.next.inside.dims ≡ Some (sum - c.args.dims))) in
    record {
      bounds = c.in-Some.ensures ∙ ap (λ (r : Reach). r.bounds + 1) v;
      sum = λ d e. let s : (c.args.dims ≤ d) × (c.next.inside.dims ≡ Some (d - c.args.dims)) = subst P e c.more_dims-sum.ensures in (s.0, ap (λ (r : Reach). r.dims) (sym v) ∙ s.1);
      class = ap (λ (r : Reach). r.class) v;
      parts = ap (λ (r : Reach). r.parts) v;
    }

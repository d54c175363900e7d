use Rattle.std.proofs.Common.{◌+◌, length, get_or, slice_get, refl, sym, ap, subst, ◌∙◌}
use Rattle.std.proofs.lemmas.Option.{slice_get_read, slice_get_within, get_or_from_slice_get}
use Rattle.edges.specs.Edges.{IsRunOf}
use Rattle.edges.proofs.Runs.{run-at}
use Rattle.edges.proofs.edges.Edges.of_state.Goals as goal

pub returns-in-Some-Some : goal.returns-in-Some-Some
returns-in-Some-Some c =
    let starts = c.self.inside.starts.items in
    let first = slice_get_read c.deref.result.now (length c.deref.result.now) c.args.state c.in-Some-Some.start.now refl c.in-Some-Some.ensures.lookup.3.0 c.in-Some-Some.ensures.lookup.1 in
    let last = slice_get_read c.deref-2.result.now (length c.deref-2.result.now) (c.args.state + 1) c.in-Some-Some.end.now refl c.in-Some-Some.ensures'.lookup.3.0 c.in-Some-Some.ensures'.lookup.1 in
    let at = ap (λ l. slice_get l c.args.state) (sym c.deref.ensures.value) ∙ first in
    let at' = ap (λ l. slice_get l (c.args.state + 1)) (sym c.deref-2.ensures.value) ∙ last in
    let run : IsRunOf c.args.state c.self.inside.table (get_or starts c.args.state 0) (get_or starts (c.args.state + 1) 0) = run-at starts c.self.inside.table c.args.state c.self.invariant.1 (slice_get_within starts (c.args.state + 1) c.in-Some-Some.end.now at') in
    record {
      run = subst (λ es. IsRunOf c.args.state es c.in-Some-Some.start.now c.in-Some-Some.end.now) c.self.view_is
          (subst (λ s. IsRunOf c.args.state c.self.inside.table s c.in-Some-Some.end.now) (get_or_from_slice_get starts c.args.state c.in-Some-Some.start.now 0 at)
          (subst (λ t. IsRunOf c.args.state c.self.inside.table (get_or starts c.args.state 0) t) (get_or_from_slice_get starts (c.args.state + 1) c.in-Some-Some.end.now 0 at') run));
    }

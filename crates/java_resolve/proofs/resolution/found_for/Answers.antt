use Rattle.std.proofs.Common.{◌≡◌, ◌∙◌, ap, ap₂, sym, subst, false, None, map}
use Rattle.java_resolve.specs.Found.{IsFound, pick, suits}
use Rattle.java_resolve.specs.Reading.{IsReading}
use Rattle.java_resolve.specs.Trees.{found_view, entry_view, row_view}
use Rattle.java_resolve.specs.View.{shape_view}
use Rattle.java_resolve.proofs.ReadingLaw.{readings_found}
use Rattle.java_resolve.proofs.TextFacts.{if_map}
use Rattle.java_resolve.proofs.resolution.found_for.Goals as goal

pub returns : goal.returns
returns c = record {
  right = λ text utf8 h is.
      let g = c.args.env.now in
      let row = row_view c.in_ok-row.row in
      let found = readings_found g c.in_ok-row.ensures.tellable (shape_view c.args.shape.now) text utf8 h is row (c.in_ok-row.ensures.right h) in
      if_map (λ f. found_view f ≡ pick (suits g false None c.parts.result.now.goal) (map entry_view c.as_slice.result.now)) (λ f. IsFound (IsReading g text) (found_view f)) c.pick.result
      (λ f e. subst (IsFound (IsReading g text)) (sym (e ∙ ap₂ (λ b xs. pick (suits g false None b) (map entry_view xs)) (ap (λ z. z.goal) c.parts.ensures.value) c.as_slice.ensures)) found)
      c.pick.ensures.value;
}

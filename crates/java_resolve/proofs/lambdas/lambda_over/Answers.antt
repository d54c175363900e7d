use Rattle.std.proofs.Common.{◌∙◌, ap, ◌++◌, map}
use Rattle.java_resolve.specs.Found.{each, pick, suits, entry_in}
use Rattle.java_resolve.specs.Lambdas.{lambda_over}
use Rattle.java_resolve.specs.Trees.{found_view, entry_view}
use Rattle.java_resolve.proofs.lambdas.lambda_over.Goals as goal

pub returns : goal.returns
returns c = record {
  value =
      let w = c.args.wanted in
      c.in_ok-add_body.ensures.added
      ∙ ap (λ z. map entry_view z ++ entry_in w.decl.now.result (each (lambda_over c.args.number) (found_view c.in_ok-found.found))) c.new-entries.ensures
      ∙ ap (λ z. entry_in w.decl.now.result (each (lambda_over c.args.number) z)) (c.in_ok-found.ensures.value ∙ ap (λ z. pick (suits c.args.env.now w.decl.now.crowded c.args.cast.now w.result) (map entry_view z)) c.as_slice.ensures);
}

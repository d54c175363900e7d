use Rattle.std.proofs.Common.{rules, ◌≡◌, ◌∙◌, ap, ◌++◌, ◌∷◌, []}
use Rattle.terms.specs.Expr.{head, no_args, lam}
use Rattle.java_resolve.specs.declared.tree.Tree.{the_lemmas}
use Rattle.java_resolve.specs.declared.tree.TreeArg as code
use Rattle.java_resolve.specs.Found.{one}
use Rattle.java_resolve.specs.Lambdas.{lambda_over}
use Rattle.java_resolve.specs.Trees.{tree_view, tree_arg_view, tree_args_view, found_view}
use Rattle.java_resolve.proofs.TextFacts.{if_map}
use Rattle.java_resolve.proofs.lambdas.one_lambda.Goals as goal

pub returns : goal.returns
returns c = record {
  value =
      let t = c.args.body in
      let q : tree_arg_view (code.Lam t) ≡ lam (tree_view t.value) = search (rules, the_lemmas) in
      if_map (λ f. found_view f ≡ one (head c.args.number (tree_args_view c.push.new.self))) (λ f. found_view f ≡ one (lambda_over c.args.number (tree_view t.value))) c.one_head.result
      (λ f e. e ∙ ap (λ z. one (head c.args.number (tree_args_view z))) (c.in_ok-push.ensures.ok ∙ ap (λ z. z ++ code.Lam t ∷ []) c.new-trees.ensures) ∙ ap (λ k. one (head c.args.number (k no_args))) q)
      c.one_head.ensures.value;
}

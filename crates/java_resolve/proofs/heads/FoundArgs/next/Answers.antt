use Rattle.std.proofs.Common.{rules, ◌≡◌, ◌∙◌, ap, ap₂, sym}
use Rattle.terms.specs.Expr.{plain}
use Rattle.java_resolve.specs.declared.tree.Tree.{the_lemmas}
use Rattle.java_resolve.specs.declared.tree.TreeArg as code
use Rattle.java_resolve.specs.Found.{one, next}
use Rattle.java_resolve.specs.Trees.{tree_view, tree_arg_view, tree_args_view, found_view, args_found_view}
use Rattle.java_resolve.proofs.Gathering.{trees_with}
use Rattle.java_resolve.proofs.heads.FoundArgs.next.Goals as goal

pub returns-in_ok-push-in-One-found : goal.returns-in_ok-push-in-One-found
returns-in_ok-push-in-One-found c =
    let t = c.in-One-found.tree in
    let q : tree_arg_view (code.Plain t) ≡ plain (tree_view t.value) = search (rules, the_lemmas) in
    record {
      value =
          ap one (ap tree_args_view c.in_ok-push-in-One-found.ensures.ok ∙ trees_with c.in-One.trees (code.Plain t) (tree_view t.value) q)
          ∙ sym (ap₂ (λ s f. next (args_found_view s) (found_view f)) c.in-One.is c.in-One-found.is);
    }

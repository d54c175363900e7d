use Rattle.std.proofs.Common.{◌∙◌, ap}
use Rattle.terms.specs.View.{expr}
use Rattle.java_resolve.specs.Trees.{tree_view, found_view}
use Rattle.java_resolve.proofs.Resolving.{resolves, wrong_type, two_ways}
use Rattle.java_resolve.proofs.resolution.resolve.Goals as goal

pub returns-in-Nothing-clause-fault : goal.returns-in-Nothing-clause-fault
returns-in-Nothing-clause-fault c = wrong_type c.args.env.now c.args.text.now (found_view c.in_ok-found.found) c.in_ok-found.ensures.known c.in_ok-found.ensures.right (ap found_view c.in-Nothing.is)

pub returns-in_ok-term-in-One-clause-right : goal.returns-in_ok-term-in-One-clause-right
returns-in_ok-term-in-One-clause-right c =
    resolves c.args.env.now c.args.text.now (found_view c.in_ok-found.found) (tree_view c.in-One.tree.value) (expr c.in_ok-term-in-One.term) c.in_ok-found.ensures.known c.in_ok-found.ensures.right (ap found_view c.in-One.is) (c.in_ok-term-in-One.ensures.same ∙ ap tree_view c.deref.ensures)

pub returns-in-Two-clause-fault : goal.returns-in-Two-clause-fault
returns-in-Two-clause-fault c = two_ways c.args.env.now c.args.text.now (found_view c.in_ok-found.found) c.in_ok-found.ensures.known c.in_ok-found.ensures.right (ap found_view c.in-Two.is)

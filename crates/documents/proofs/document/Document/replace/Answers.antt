use Rattle.std.proofs.Common.{rules, subst, refl, ◌≡◌, ◌++◌, take, drop, List, ℕ}
use Rattle.documents.specs.Places.{AreStarts}
use Rattle.documents.proofs.Moves.{edited}
use Rattle.documents.proofs.document.Document.replace.Goals as goal

pub update-requires-clause-edited : goal.update-requires-clause-edited
update-requires-clause-edited c =
    let old = c.args.self.now in
    let same = c.self.view_is in
    let Q : List ℕ → Type 0 = λ x. AreStarts x c.self.inside.starts.items in
    let all : c.as_str.result.now ≡ (take c.args.from old ++ c.args.new.now) ++ drop c.args.to old = search rules in
    edited c.self.inside.starts.items old c.args.new.now c.as_str.result.now c.args.from c.args.to c.saturating_sub-edge.result _ (subst Q same c.self.invariant.1) c.requires.range c.requires.to.0 all c.saturating_sub-edge.ensures refl

use Rattle.std.proofs.Common.{◌∙◌, List, refl, ap, subst, length}
use Rattle.std.proofs.lemmas.Option.{slice_get_within}
use Rattle.succinct.specs.declared.need.Need.{Need}
use Rattle.succinct.proofs.Needs.{distinct_from}
use Rattle.patterns.specs.States.{AreBound, AreSteps}
use Rattle.patterns.proofs.Lists.{set-refl, found-same, wanted-same}
use Rattle.patterns.proofs.Meaning.{agrees}
use Rattle.patterns.proofs.Sought.{are-sought, sets-in_range}
use Rattle.patterns.proofs.patterns.Patterns.derive.Goals as goal

pub returns-clause-patterns : goal.returns-clause-patterns
returns-clause-patterns c =
    let bound = c.in_ok-bound.field-0.bound.keys in
    let rows = c.in_ok-bound.field-0.rows.items in
    let B : List Need → Type 0 = λ n. AreBound c.args.depth n bound in
    let S : List Need → Type 0 = λ n. AreSteps n bound rows (length bound) in
    let wanted = wanted-same _ _ _ c.needs.ensures.value c.in_ok-wanted.ensures.wanted in
    let steps = subst S c.needs-2.ensures.value c.in_ok-bound.ensures.steps in
    let lengths = c.in_ok-wanted.ensures.lengths ∙ ap (λ (l : List Need). length l) c.needs.ensures.value in
    record {
      depth_is = refl;
      distinct_sets = distinct_from _ set-refl _ c.len.ensures.unique;
      first_set = c.in_ok-bound.ensures.first;
      only_sets = subst B c.needs-2.ensures.value c.in_ok-bound.ensures.bound;
      in_range = c.in_ok-states.ensures.in_range (slice_get_within bound 0 _ c.in_ok-bound.ensures.first) (sets-in_range c.args.compressed.now.needs (record { depth = c.args.depth; bound = bound; steps = rows; wanted = c.in_ok-wanted.wanted }) wanted steps lengths);
      lengths = lengths;
      wanted = wanted;
      steps = steps;
      found = found-same _ _ _ _ _ _ c.kinds-all.ensures.value c.in_ok-states.ensures.found;
    }

pub returns-clause-agrees : goal.returns-clause-agrees
returns-clause-agrees c g valid comp = agrees g c.args.compressed.now c.args.goal c.args.depth _ valid comp (returns-clause-patterns c)

pub returns-clause-sought : goal.returns-clause-sought
returns-clause-sought c g comp = are-sought g c.args.compressed.now c.args.goal c.args.depth _ comp (returns-clause-patterns c)

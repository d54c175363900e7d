use Rattle.std.proofs.Common.{false, true, not, ap, ◌∙◌, arith}
use Rattle.std.proofs.lemmas.Map.Keys.{non_decreasing_from_sorted}
use Rattle.terms.proofs.Pairs.{pair-low, pair-high, pair-alike, pair-at}
use Rattle.terms.proofs.Tables.{sets-more, pair-stood}
use Rattle.terms.proofs.above.add_pair.Goals as goal

pub returns-then-pair-types-clause-fault : goal.returns-then-pair-types-clause-fault
returns-then-pair-types-clause-fault c = λ _ earlier _. pair-low _ _ earlier _ _ (omega arith)

pub returns-then-pair-types-2-clause-fault : goal.returns-then-pair-types-2-clause-fault
returns-then-pair-types-2-clause-fault c = λ _ earlier _. pair-high _ _ earlier _ _ (omega arith)

pub returns-then-pair-clause-fault : goal.returns-then-pair-clause-fault
returns-then-pair-clause-fault c = λ _ earlier _. pair-alike _ _ earlier _ _ (omega arith)

pub returns-in-Ok-true-clause-added : goal.returns-in-Ok-true-clause-added
returns-in-Ok-true-clause-added c = λ earlier table.
    sets-more earlier _ c.index_mut.result.now c.insert.new.self _ _ table (omega arith) c.index_mut.ensures.value c.in-Ok-true.ensures.keys (non_decreasing_from_sorted _ c.insert.ensures.ordered)

pub returns-in-Ok-true-clause-sound : goal.returns-in-Ok-true-clause-sound
returns-in-Ok-true-clause-sound c = λ earlier table.
    pair-at _ _ earlier _ _ false (omega arith) (omega arith) (omega arith)
    (pair-stood earlier _ c.index_mut.result.now _ _ c.in-Ok-true.field-0 table (omega arith) c.index_mut.ensures.value c.in-Ok-true.ensures.added ∙ ap not c.in-Ok-true.field-0-test)

pub returns-in-Ok-false-clause-fault : goal.returns-in-Ok-false-clause-fault
returns-in-Ok-false-clause-fault c = λ _ earlier table.
    pair-at _ _ earlier _ _ true (omega arith) (omega arith) (omega arith)
    (pair-stood earlier _ c.index_mut.result.now _ _ c.in-Ok-false.field-0 table (omega arith) c.index_mut.ensures.value c.in-Ok-false.ensures.added ∙ ap not c.in-Ok-false.field-0-test)

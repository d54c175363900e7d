use Rattle.std.proofs.Common.{◌⊎◌, Err}
use Rattle.start_text.specs.Lines.{paths_in}
use Rattle.start_text.specs.Taken.{held_for}
use Rattle.start_text.proofs.Batching.{read_meets, read_failed, read_classes}
use Rattle.start_text.proofs.class_files.read_classes.Goals as goal

pub returns-in-Ok-clause-fault : goal.returns-in-Ok-clause-fault
returns-in-Ok-clause-fault g c = λ files e.
    let paths = paths_in c.args.text.now in
    read_meets files paths c.finish.result (c.finish.ensures.fault (held_for files paths) (c.in-Ok.ensures.taken files e c.new-reading.ensures.none))

pub returns-in-Ok-clause-classes : goal.returns-in-Ok-clause-classes
returns-in-Ok-clause-classes g c = λ files e.
    let paths = paths_in c.args.text.now in
    read_classes files paths c.finish.result (c.finish.ensures.classes (held_for files paths) (c.in-Ok.ensures.taken files e c.new-reading.ensures.none))

pub returns-in-Ok-clause-shelf : goal.returns-in-Ok-clause-shelf
returns-in-Ok-clause-shelf g c = record {
  unchanged = c.in-Ok.ensures.shelf.unchanged;
  later = c.in-Ok.ensures.shelf.later;
  cause = λ e. absurd (c.finish.ensures.inside e);
}

pub returns-in-Err-clause-fault : goal.returns-in-Err-clause-fault
returns-in-Err-clause-fault g c = λ files e. read_failed files (paths_in c.args.text.now) c.in-Err.fault (c.in-Err.ensures.taken files e c.new-reading.ensures.none)

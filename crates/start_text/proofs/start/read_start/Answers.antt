use Rattle.start_text.proofs.StartLaws.{versioned, answers-of, answered-fault, answered-refused, answered-whole}
use Rattle.start_text.proofs.start.read_start.Goals as goal

pub returns-in-Ok-clause-version : goal.returns-in-Ok-clause-version
returns-in-Ok-clause-version g c = versioned (g.H.Shelf.holds c.args.shelf.now) c.args.name.now c.in-Ok.classes c.first_version.result c.in-Ok.ensures.classes c.first_version.ensures.version

pub returns-in-Ok-clause-fault : goal.returns-in-Ok-clause-fault
returns-in-Ok-clause-fault g c = λ files e. answered-fault files c.args.name.now c.first_version.result (answers-of files c.args.name.now c.in-Ok.classes c.first_version.result (c.in-Ok.ensures.classes files e) c.first_version.ensures.lawful c.first_version.ensures.refused)

pub returns-in-Ok-clause-refused : goal.returns-in-Ok-clause-refused
returns-in-Ok-clause-refused g c = λ files wrong e is. answered-refused c.one_shape.ensures.one files c.args.name.now c.first_version.result wrong (answers-of files c.args.name.now c.in-Ok.classes c.first_version.result (c.in-Ok.ensures.classes files e) c.first_version.ensures.lawful c.first_version.ensures.refused) is

pub returns-in-Ok-clause-whole : goal.returns-in-Ok-clause-whole
returns-in-Ok-clause-whole g c = λ files classes e start lawful. answered-whole c.one_shape.ensures.one files c.args.name.now c.first_version.result classes (answers-of files c.args.name.now c.in-Ok.classes c.first_version.result (c.in-Ok.ensures.classes files e) c.first_version.ensures.lawful c.first_version.ensures.refused) start lawful

pub returns-in-Ok-clause-shelf : goal.returns-in-Ok-clause-shelf
returns-in-Ok-clause-shelf g c = record {
  unchanged = c.in-Ok.ensures.shelf.unchanged;
  later = c.in-Ok.ensures.shelf.later;
  cause = λ e. absurd (c.first_version.ensures.inside e);
}

use Rattle.java_shapes.proofs.Begun.{begun, stuck, whole, whole_right}
use Rattle.java_shapes.proofs.laws.reader_laws.Goals as goal

pub returns : goal.returns
returns c = record {
  begun = λ binder text place id read. begun binder id text place read;
  stuck = λ binder text id read. stuck binder id text read;
  whole = λ binder s id h. whole binder id s h;
  only = λ binder text place s read ends. whole_right binder text place s read ends;
}

use Rattle.std.proofs.Common.{◌≡◌, ◌<◌, length, rules}
use Rattle.start_text.proofs.Batching.{line_passed, line_taken, line_stopped}
use Rattle.start_text.proofs.class_files.read_line.Goals as goal

pub returns-then-is_empty-clause-taken : goal.returns-then-is_empty-clause-taken
returns-then-is_empty-clause-taken g c = λ files before e h.
    let none : length c.args.path.now ≡ 0 = search rules in
    line_passed files before c.args.line c.args.path.now c.args.reading.now none h

pub returns-in-Ok-clause-taken : goal.returns-in-Ok-clause-taken
returns-in-Ok-clause-taken g c = λ files before e h.
    let some : 0 < length c.args.path.now = search rules in
    line_taken files before c.args.line c.args.path.now c.load_file.new.buffer.items c.take.new.self c.take.result some (c.in-Ok.ensures.found files e) (c.take.ensures.taken before h)

pub returns-in-Ok-clause-shelf : goal.returns-in-Ok-clause-shelf
returns-in-Ok-clause-shelf g c = record {
  unchanged = c.load_file.ensures.shelf.unchanged;
  later = c.load_file.ensures.shelf.later;
  cause = λ e. absurd (c.take.ensures.inside e);
}

pub returns-in-Err-clause-taken : goal.returns-in-Err-clause-taken
returns-in-Err-clause-taken g c = λ files before e h.
    let some : 0 < length c.args.path.now = search rules in
    line_stopped files before c.args.line c.args.path.now c.in-Err.fault c.stop.result some (c.in-Err.ensures.found files e) (c.stop.ensures.first before h)

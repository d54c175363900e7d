use Rattle.std.proofs.Common.{◌≡◌, ◌∙◌, ap, sym, refl, ◌<◌, length, get_or, arith}
use Rattle.std.specs.Str.Lines.{lines}
use Rattle.std.proofs.lemmas.List.{length_push}
use Rattle.std.proofs.lemmas.Iterator.Splits.{YieldsList-from_lines}
use Rattle.std.proofs.lemmas.Iterator.Consumers.{YieldsList-turn, YieldsList-end}
use Rattle.start_text.proofs.Reading.{lines-few}
use Rattle.start_text.proofs.Batching.{none_read, read_further, read_wrong, read_whole}
use Rattle.start_text.proofs.class_files.read_lines.Goals as goal

pub overflow_add-line : goal.overflow_add-line
overflow_add-line g c =
    let t = YieldsList-turn (YieldsList-from_lines c.args.text.now cc) c.loop-path.yielded _ c.loop-path.yielded_by _ _ c.in-Some.path c.in-Some.is c.next.ensures.steps in
    omega (arith, t.0, lines-few c.args.text.now, c.requires, c.loop-path.invariant.counted)

pub loop-path-init : goal.loop-path-init
loop-path-init g c = record { counted = refl; unchanged = refl; later = omega arith; read = λ files e is. none_read files c.args.text.now c.args.reading.now is }

pub loop-path-preserved : goal.loop-path-preserved
loop-path-preserved g c =
    let t = YieldsList-turn (YieldsList-from_lines c.args.text.now cc) c.loop-path.yielded _ c.loop-path.yielded_by _ _ c.in-Some.path c.in-Some.is c.next.ensures.steps in
    let line = c.loop-path.line in
    let counted : line ≡ length c.loop-path.yielded = c.loop-path.invariant.counted in
    let within : line < length (lines c.args.text.now) = omega (arith, t.0, counted) in
    let here : c.in-Some.path.now ≡ get_or (lines c.args.text.now) line c.in-Some.path.now = t.1 ∙ ap (λ n. get_or (lines c.args.text.now) n c.in-Some.path.now) (sym counted) in
    record {
      counted = omega (arith, counted, length_push c.loop-path.yielded c.in-Some.path);
      unchanged = c.read_line.ensures.shelf.unchanged ∙ c.loop-path.invariant.unchanged;
      later = omega (arith, c.loop-path.invariant.later, c.read_line.ensures.shelf.later);
      read = λ files e is.
          let h = c.loop-path.invariant.read files e is in
          read_further files c.args.text.now line c.in-Some.path.now within here c.loop-path.reading c.read_line.new.reading h (c.in-Ok.ensures.taken files h.before (c.loop-path.invariant.unchanged ∙ e) h.is_taken);
    }

pub returns-in-Err-clause-taken : goal.returns-in-Err-clause-taken
returns-in-Err-clause-taken g c =
    let t = YieldsList-turn (YieldsList-from_lines c.args.text.now cc) c.loop-path.yielded _ c.loop-path.yielded_by _ _ c.in-Some.path c.in-Some.is c.next.ensures.steps in
    let line = c.loop-path.line in
    let counted : line ≡ length c.loop-path.yielded = c.loop-path.invariant.counted in
    let within : line < length (lines c.args.text.now) = omega (arith, t.0, counted) in
    let here : c.in-Some.path.now ≡ get_or (lines c.args.text.now) line c.in-Some.path.now = t.1 ∙ ap (λ n. get_or (lines c.args.text.now) n c.in-Some.path.now) (sym counted) in
    λ files e is.
    let h = c.loop-path.invariant.read files e is in
    read_wrong files c.args.text.now line c.in-Some.path.now within here c.loop-path.reading c.in-Err.fault h (c.in-Err.ensures.taken files h.before (c.loop-path.invariant.unchanged ∙ e) h.is_taken)

pub returns-clause-taken : goal.returns-clause-taken
returns-clause-taken g c =
    let t = YieldsList-end (YieldsList-from_lines c.args.text.now cc) c.loop-path.yielded _ c.loop-path.yielded_by _ _ c.in-None.is c.next.ensures.steps in
    λ files e is. read_whole files c.args.text.now c.loop-path.line c.loop-path.reading (omega (arith, t.1, c.loop-path.invariant.counted)) (c.loop-path.invariant.read files e is)

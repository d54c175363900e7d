use Rattle.std.proofs.Common.{◌≡◌, ◌∙◌, ap, sym, ◌<◌, length, get_or, arith}
use Rattle.std.specs.Str.Lines.{lines}
use Rattle.std.proofs.lemmas.List.{length_push}
use Rattle.std.proofs.lemmas.Iterator.Splits.{YieldsList-from_lines}
use Rattle.std.proofs.lemmas.Iterator.Consumers.{YieldsList-turn, YieldsList-end}
use Rattle.start_text.proofs.Reading.{lines-few}
use Rattle.counting.proofs.Texts.{counted-more, counted-stop, counted-all}
use Rattle.counting.proofs.files.count_lines.Goals as goal

pub overflow_add-line : goal.overflow_add-line
overflow_add-line g c =
    let t = YieldsList-turn (YieldsList-from_lines c.args.text.now cc) c.loop-path.yielded _ c.loop-path.yielded_by _ _ c.in-Some.path c.in-Some.is c.next.ensures.steps in
    omega (arith, t.0, lines-few c.args.text.now, c.requires, c.loop-path.invariant.counted)

pub loop-path-preserved : goal.loop-path-preserved
loop-path-preserved g c =
    let t = YieldsList-turn (YieldsList-from_lines c.args.text.now cc) c.loop-path.yielded _ c.loop-path.yielded_by _ _ c.in-Some.path c.in-Some.is c.next.ensures.steps in
    let line = c.loop-path.line in
    let counted : line ≡ length c.loop-path.yielded = c.loop-path.invariant.counted in
    let within : line < length (lines c.args.text.now) = omega (arith, t.0, counted) in
    let here : c.in-Some.path.now ≡ get_or (lines c.args.text.now) line c.in-Some.path.now = t.1 ∙ ap (λ n. get_or (lines c.args.text.now) n c.in-Some.path.now) (sym counted) in
    record {
      counted = omega (arith, counted, length_push c.loop-path.yielded c.in-Some.path);
      unchanged = c.count_line.ensures.shelf.unchanged ∙ c.loop-path.invariant.unchanged;
      later = omega (arith, c.loop-path.invariant.later, c.count_line.ensures.shelf.later);
      rest = λ files e.
          counted-more files c.args.text.now line c.in-Some.path.now _ _ _ within here (c.loop-path.invariant.rest files e) (c.in-Ok.ensures.counted files (c.loop-path.invariant.unchanged ∙ e));
    }

pub returns-in-Err-clause-counted : goal.returns-in-Err-clause-counted
returns-in-Err-clause-counted g c =
    let t = YieldsList-turn (YieldsList-from_lines c.args.text.now cc) c.loop-path.yielded _ c.loop-path.yielded_by _ _ c.in-Some.path c.in-Some.is c.next.ensures.steps in
    let line = c.loop-path.line in
    let counted : line ≡ length c.loop-path.yielded = c.loop-path.invariant.counted in
    let within : line < length (lines c.args.text.now) = omega (arith, t.0, counted) in
    let here : c.in-Some.path.now ≡ get_or (lines c.args.text.now) line c.in-Some.path.now = t.1 ∙ ap (λ n. get_or (lines c.args.text.now) n c.in-Some.path.now) (sym counted) in
    λ files e. counted-stop files c.args.text.now line c.in-Some.path.now _ _ _ c.in-Err.fault within here (c.loop-path.invariant.rest files e) (c.in-Err.ensures.counted files (c.loop-path.invariant.unchanged ∙ e))

pub returns-clause-counted : goal.returns-clause-counted
returns-clause-counted g c =
    let t = YieldsList-end (YieldsList-from_lines c.args.text.now cc) c.loop-path.yielded _ c.loop-path.yielded_by _ _ c.in-None.is c.next.ensures.steps in
    λ files e. counted-all files c.args.text.now c.loop-path.line _ _ (omega (arith, t.1, c.loop-path.invariant.counted)) (c.loop-path.invariant.rest files e)

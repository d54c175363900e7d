use Rattle.std.proofs.Common.{◌∙◌, ap, sym, subst, Some, Ok, Err}
use Rattle.usage_counts.specs.Counts.{Numbers}
use Rattle.start_text.specs.Lines.{paths_in}
use Rattle.start_text.specs.Taken.{held_for}
use Rattle.counting.specs.Counted.{CountsLines}
use Rattle.counting.proofs.Texts.{text-counted, text-stopped}
use Rattle.counting.proofs.files.count_files.Goals as goal

pub returns-in-Ok-clause-counted : goal.returns-in-Ok-clause-counted
returns-in-Ok-clause-counted g c = λ files e.
    let counts = c.in-Ok.ensures.counted files (c.in_ok-text.ensures.shelf.unchanged ∙ e) in
    let from_none = subst (λ (old : Numbers). CountsLines (held_for files (paths_in c.as_str.result.now)) old c.count_lines.new.tally.counts (Ok tt)) c.new.ensures.empty counts in
    text-counted files c.args.name.now c.as_str.result.now _ (c.in_ok-text.ensures.text files e ∙ ap Some (sym c.as_str.ensures.value)) (c.in_ok-text.ensures.fault files e) from_none

pub returns-clause-counted : goal.returns-clause-counted
returns-clause-counted g c = λ files e.
    let counts = c.in-Err.ensures.counted files (c.in_ok-text.ensures.shelf.unchanged ∙ e) in
    let from_none = subst (λ (old : Numbers). CountsLines (held_for files (paths_in c.as_str.result.now)) old c.count_lines.new.tally.counts (Err c.in-Err.fault)) c.new.ensures.empty counts in
    text-stopped files c.args.name.now c.as_str.result.now _ c.in-Err.fault (c.in_ok-text.ensures.text files e ∙ ap Some (sym c.as_str.ensures.value)) (c.in_ok-text.ensures.fault files e) from_none

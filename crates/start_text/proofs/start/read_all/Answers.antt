use Rattle.std.proofs.Common.{◌∙◌, ap, sym, Some}
use Rattle.start_text.proofs.StartLaws.{starts}
use Rattle.start_text.proofs.start.read_all.Goals as goal

pub returns-clause-classes : goal.returns-clause-classes
returns-clause-classes g c = λ files e.
    let later = c.in_ok-text.ensures.shelf.unchanged ∙ e in
    starts files c.args.name.now c.as_str.result.now c.read_classes.result (c.in_ok-text.ensures.text files e ∙ ap Some (sym c.as_str.ensures.value)) (c.in_ok-text.ensures.fault files e) (c.read_classes.ensures.fault files later) (c.read_classes.ensures.classes files later)

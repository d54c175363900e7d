use Rattle.sheets.proofs.Pieces.{on-ok, function-text}
use Rattle.sheets.proofs.writing.put_function.Goals as goal

pub returns : goal.returns
returns c =
    on-ok c.put_name.result (λ e. function-text c.args.types.now c.args.params.now c.args.body c.args.text.now c.put_names.new.text c.put_word.new.text c.put_name.new.text c.in_ok-put_names.ensures c.in_ok-put_word.ensures e) c.put_name.ensures

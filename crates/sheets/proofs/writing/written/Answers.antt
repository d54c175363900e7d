use Rattle.sheets.proofs.Pieces.{whole-text}
use Rattle.sheets.proofs.writing.written.Goals as goal

pub returns : goal.returns
returns c =
    whole-text c.args.parts.now c.as_slice-types.result.now c.as_slice.result.now c.as_slice-2.result.now c.in_ok-text.text c.put_types.new.text c.put_pairs.new.text c.put_decls.new.text c.put_goal.new.text c.put_steps.new.text
    c.as_slice-types.ensures c.as_slice.ensures c.as_slice-2.ensures c.in_ok-text.ensures c.in_ok-put_types.ensures c.in_ok-put_pairs.ensures c.in_ok-put_decls.ensures c.in_ok-put_goal.ensures c.in_ok-put_steps.ensures

use Rattle.sheets.proofs.Pieces.{on-ok, decl-text}
use Rattle.sheets.proofs.writing.put_decl.Goals as goal

pub returns : goal.returns
returns c =
    on-ok c.push_str-2.result (λ e.
    decl-text c.args.types.now c.args.decl.now c.decl_head.result.now c.as_slice.result.now c.args.text.now c.push_str.new.self c.put_number.new.text c.put_name.new.text c.put_form.new.text c.put_args.new.text c.push_str-2.new.self
    c.decl_head.ensures c.as_slice.ensures c.in_ok-push_str.ensures.ok c.in_ok-put_number.ensures c.in_ok-put_name.ensures c.in_ok-put_form.ensures c.in_ok-put_args.ensures e) c.push_str-2.ensures.ok

use Rattle.std.specs.List.{flat_map}
use Rattle.json_rpc.specs.Replies.{piece_text}
use Rattle.json_rpc.proofs.Pieces.{framed, framed-head, framed-prefix, on_err, on_err_map, on_ok_map}
use Rattle.json_rpc.proofs.write.write_framed.Goals as goal

pub returns-in_err-write_all-clause-prefix : goal.returns-in_err-write_all-clause-prefix
returns-in_err-write_all-clause-prefix g c = on_err _ (framed-head _ _ _ (flat_map piece_text c.args.body.now) _ c.put_head-end.ensures.holds c.length_of.ensures c.in_err-write_all.ensures.prefix)

pub returns-clause-frame : goal.returns-clause-frame
returns-clause-frame g c = on_ok_map c.write_pieces.result (framed _ _ _ _ (flat_map piece_text c.args.body.now) _ c.put_head-end.ensures.holds c.length_of.ensures c.in_ok-write_all.ensures.all) c.write_pieces.ensures.all

pub returns-clause-prefix : goal.returns-clause-prefix
returns-clause-prefix g c = on_err_map c.write_pieces.result (framed-prefix _ _ _ _ (flat_map piece_text c.args.body.now) _ c.put_head-end.ensures.holds c.length_of.ensures c.in_ok-write_all.ensures.all) c.write_pieces.ensures.prefix

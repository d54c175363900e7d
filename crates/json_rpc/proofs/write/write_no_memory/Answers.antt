use Rattle.std.proofs.Common.{rules, ◌∙◌, ap, sym, subst}
use Rattle.std.specs.Prelude.{OnErr, OnOk}
use Rattle.std.specs.Io.KnownBytes.{Appends}
use Rattle.outside.specs.Gathered.{WrotePrefix}
use Rattle.json_rpc.specs.Replies.{after_id, before_id, frame_of, no_memory_reply}
use Rattle.json_rpc.proofs.Pieces.{reply-number, reply-text}
use Rattle.json_rpc.proofs.write.write_no_memory.Goals as goal

pub returns-in-Number-clause-frame : goal.returns-in-Number-clause-frame
unfolding before_id after_id
returns-in-Number-clause-frame g c = subst (λ t. OnOk c.write_framed.result (Appends (g.K.Sink.written c.args.sink.now) (g.K.Sink.written c.write_framed.new.sink) (frame_of t))) (reply-number c.in-Number.number c.as_bytes-shown.result.now (search rules) ∙ ap no_memory_reply (sym c.in-Number.is)) c.write_framed.ensures.frame

pub returns-in-Number-clause-prefix : goal.returns-in-Number-clause-prefix
unfolding before_id after_id
returns-in-Number-clause-prefix g c = subst (λ t. OnErr c.write_framed.result (WrotePrefix (g.K.Sink.written c.args.sink.now) (g.K.Sink.written c.write_framed.new.sink) (frame_of t))) (reply-number c.in-Number.number c.as_bytes-shown.result.now (search rules) ∙ ap no_memory_reply (sym c.in-Number.is)) c.write_framed.ensures.prefix

pub returns-in-Text-clause-frame : goal.returns-in-Text-clause-frame
unfolding before_id after_id
returns-in-Text-clause-frame g c = subst (λ t. OnOk c.write_framed-in-Text.result (Appends (g.K.Sink.written c.args.sink.now) (g.K.Sink.written c.write_framed-in-Text.new.sink) (frame_of t))) (reply-text c.in-Text.text _ c.as_bytes.ensures ∙ ap no_memory_reply (sym c.in-Text.is)) c.write_framed-in-Text.ensures.frame

pub returns-in-Text-clause-prefix : goal.returns-in-Text-clause-prefix
unfolding before_id after_id
returns-in-Text-clause-prefix g c = subst (λ t. OnErr c.write_framed-in-Text.result (WrotePrefix (g.K.Sink.written c.args.sink.now) (g.K.Sink.written c.write_framed-in-Text.new.sink) (frame_of t))) (reply-text c.in-Text.text _ c.as_bytes.ensures ∙ ap no_memory_reply (sym c.in-Text.is)) c.write_framed-in-Text.ensures.prefix

use Rattle.std.proofs.Common.{append-nil, subst}
use Rattle.std.specs.Prelude.{OnErr, OnOk}
use Rattle.std.specs.Io.KnownBytes.{Appends}
use Rattle.outside.specs.Gathered.{WrotePrefix}
use Rattle.json_rpc.specs.Replies.{frame_of}
use Rattle.json_rpc.proofs.write.write_frame.Goals as goal

pub returns-clause-frame : goal.returns-clause-frame
returns-clause-frame g c = subst (λ t. OnOk c.write_framed.result (Appends (g.K.Sink.written c.args.sink.now) (g.K.Sink.written c.write_framed.new.sink) (frame_of t))) (append-nil c.args.body.now) c.write_framed.ensures.frame

pub returns-clause-prefix : goal.returns-clause-prefix
returns-clause-prefix g c = subst (λ t. OnErr c.write_framed.result (WrotePrefix (g.K.Sink.written c.args.sink.now) (g.K.Sink.written c.write_framed.new.sink) (frame_of t))) (append-nil c.args.body.now) c.write_framed.ensures.prefix

use Rattle.std.proofs.Common.{arith, List, ℕ, Option, subst}
use Rattle.std.specs.Io.KnownBytes.{Appends}
use Rattle.outside.specs.Gathered.{WrotePrefix}
use Rattle.json.specs.Print.{escape}
use Rattle.json_rpc.specs.Replies.{HasRun}
use Rattle.json_rpc.proofs.Pieces.{appends-both, on_err, prefix-left, prefix-right, rose-later, run-prefix, run-plain, run-written}
use Rattle.json_rpc.proofs.write.write_next.Goals as goal

pub returns-then-is_plain-clause-next : goal.returns-then-is_plain-clause-next
returns-then-is_plain-clause-next g c = λ start h. run-plain start _ c.args.bytes.now c.args.done c.args.i c.requires.within (c.is_plain.ensures c.if-is_plain.true) h

pub returns-in_err-write_all-clause-prefix : goal.returns-in_err-write_all-clause-prefix
returns-in_err-write_all-clause-prefix g c = on_err c.from_residual.result (λ start h. run-prefix start _ _ c.args.bytes.now c.args.done c.args.i c.requires.within (prefix-left _ _ _ _ c.in_err-write_all.ensures.prefix) h)

pub returns-in_err-write_all-2-clause-prefix : goal.returns-in_err-write_all-2-clause-prefix
returns-in_err-write_all-2-clause-prefix g c =
    let last = subst (λ t. WrotePrefix (g.K.Sink.written c.write_all.new.sink) (g.K.Sink.written c.write_all-2.new.sink) t) c.put_escape-end.ensures.holds c.in_err-write_all-2.ensures.prefix in
    let P : Type 0 = (start : Option (List ℕ)) → HasRun start (g.K.Sink.written c.args.sink.now) c.args.bytes.now c.args.done c.args.i → WrotePrefix start (g.K.Sink.written c.write_all-2.new.sink) (escape c.args.bytes.now) in
    let p : P = λ start h. run-prefix start _ _ c.args.bytes.now c.args.done c.args.i c.requires.within (prefix-right _ _ _ _ _ c.in_ok-write_all.ensures.all last) h in
    on_err _ p

pub returns-clause-next : goal.returns-clause-next
returns-clause-next g c = λ start h.
    let last = subst (λ t. Appends (g.K.Sink.written c.write_all.new.sink) (g.K.Sink.written c.write_all-2.new.sink) t) c.put_escape-end.ensures.holds c.in_ok-write_all-2.ensures.all in
    run-written start _ _ c.args.bytes.now c.args.done c.args.i c.requires.within (appends-both _ _ _ _ _ c.in_ok-write_all.ensures.all last) h

pub returns-in_err-write_all-2-clause-cause : goal.returns-in_err-write_all-2-clause-cause
returns-in_err-write_all-2-clause-cause g c = record {
  later = omega (arith, c.write_all.ensures.cause.later, c.write_all-2.ensures.cause.later);
  failed = on_err _ (rose-later _ _ _ c.write_all.ensures.cause.later c.in_err-write_all-2.ensures.cause.failed);
}

pub returns-clause-cause : goal.returns-clause-cause
returns-clause-cause g c = record {
  later = omega (arith, c.write_all.ensures.cause.later, c.write_all-2.ensures.cause.later);
  failed = tt;
}

use Rattle.std.proofs.Common.{ap, sym, ◌∙◌}
use Rattle.json_rpc.specs.Streams.{wrong}
use Rattle.json_rpc.proofs.Backs.{refused-next, one-place, broken-refused}
use Rattle.json_rpc.specs.declared.fault.FrameFault.TheVariants.{Header, NoLength}
use Rattle.json_rpc.proofs.Parts.{frame-at, frame-next, frame_of-frame}
use Rattle.json_rpc.proofs.Wholes.{next-frame}
use Rattle.json_rpc.proofs.Stops.{next-refused}
use Rattle.json_rpc.proofs.Lengths.{next-no_length, no_length-next, next-too_long, too_long-next}
use Rattle.json_rpc.proofs.Unfinished.{next-unfinished, unfinished-next}
use Rattle.json_rpc.proofs.laws.frame_laws.Goals as goal

pub returns-clause-read : goal.returns-clause-read
returns-clause-read c = frame-next

pub returns-clause-written : goal.returns-clause-written
returns-clause-written c = frame_of-frame

pub returns-clause-exactly : goal.returns-clause-exactly
returns-clause-exactly c = λ at bytes body rest. (next-frame at bytes body rest, λ f. frame-at at bytes body rest f)

pub returns-clause-refused : goal.returns-clause-refused
returns-clause-refused c = λ at bytes k. (next-refused at bytes k, λ r. refused-next at bytes (r.0) (r.2) ∙ ap (λ v. wrong (Header v)) (sym (r.1)))

pub returns-clause-one_place : goal.returns-clause-one_place
returns-clause-one_place c = one-place

pub returns-clause-broken : goal.returns-clause-broken
returns-clause-broken c = broken-refused

pub returns-clause-no_length : goal.returns-clause-no_length
returns-clause-no_length c = λ at bytes k. (next-no_length at bytes k, λ r. no_length-next at bytes (r.0) (r.2) ∙ ap (λ v. wrong (NoLength v)) (sym (r.1)))

pub returns-clause-too_long : goal.returns-clause-too_long
returns-clause-too_long c = λ at bytes n. (next-too_long at bytes n, λ r. too_long-next at bytes n (r.0) ((r.1).0) ((r.1).1))

pub returns-clause-unfinished : goal.returns-clause-unfinished
returns-clause-unfinished c = λ at bytes. (next-unfinished at bytes, unfinished-next at bytes)

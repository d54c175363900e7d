use Rattle.std.proofs.Common.{ap, refl, rules, Err}
use Rattle.std.specs.List.{enumerate_from}
use Rattle.sessions.proofs.Filing.{up_to_start, read_more, read_kind, wrong_kind, given_all, given_wrong, given_last, unread, files_start, files_then, files_as, not_empty, smaller}
use Rattle.sessions.proofs.loading.load_classes.Goals as goal

pub loop-name-init : goal.loop-name-init
loop-name-init g c = record { files = files_start _; read = up_to_start _ _ _ (search rules); none = λ e. (e, refl) }

pub loop-name-preserved : goal.loop-name-preserved
loop-name-preserved g c =
    let taken = c.in-Ok.ensures.taken in
    record {
      files = files_then {R = ⊥} _ _ _ c.loop-name.invariant.files c.read_file.ensures.files (λ e. absurd e);
      read = read_more _ _ _ _ _ _ _ c.loop-name.index c.loop-name.reading (c.in-Some.ensures.cases).0 (search rules) c.loop-name.invariant.files c.loop-name.invariant.read taken.0 taken.1 c.read_file.new.reading taken.2;
      none = λ e. not_empty _ _ _ (c.in-Some.ensures.cases).0 (c.loop-name.invariant.none e).0;
    }

pub loop-name-smaller : goal.loop-name-smaller
loop-name-smaller g c = smaller _ _ _ (c.in-Some.ensures.cases).0

pub returns-then-index-clause-files : goal.returns-then-index-clause-files
returns-then-index-clause-files g c = files_as _ _ c.loop-name.invariant.files (λ e. absurd e)

pub returns-then-index-clause-none : goal.returns-then-index-clause-none
returns-then-index-clause-none g c = λ e. (c.loop-name.invariant.none e).1

pub told-requires : goal.told-requires
told-requires g c =
    let taken = c.in-Err.ensures.taken in
    record { kind = read_kind _ _ _ _ _ _ _ c.loop-name.index c.loop-name.reading (c.in-Some.ensures.cases).0 (search rules) c.loop-name.invariant.files c.loop-name.invariant.read taken.0 taken.1 c.in-Err.wrong taken.2 }

pub returns-in-Err-clause-gives : goal.returns-in-Err-clause-gives
returns-in-Err-clause-gives g c =
    let taken = c.in-Err.ensures.taken in
    given_wrong _ _ _ _ _ _ _ c.loop-name.index c.loop-name.reading (c.in-Some.ensures.cases).0 (search rules) c.loop-name.invariant.files c.loop-name.invariant.read taken.0 taken.1 c.in-Err.wrong c.told.result taken.2 (λ before h e. c.in-Err.ensures.sound before h (ap Err e)) c.told.ensures.told

pub returns-in-Err-clause-files : goal.returns-in-Err-clause-files
returns-in-Err-clause-files g c = files_then _ _ _ c.loop-name.invariant.files c.in-Err.ensures.files (λ u. ap Err (unread c.loop-name.index c.in-Err.wrong c.told.result c.told.ensures.told u))

pub returns-in-Err-clause-none : goal.returns-in-Err-clause-none
returns-in-Err-clause-none g c = λ e. not_empty _ _ _ (c.in-Some.ensures.cases).0 (c.loop-name.invariant.none e).0

pub told-requires-in-Err-finish : goal.told-requires-in-Err-finish
told-requires-in-Err-finish g c =
    let read = c.loop-name.invariant.read in
    record { kind = wrong_kind (enumerate_from 0 read.contents) c.in-Err-finish.wrong (c.in-Err-finish.ensures.fault _ read.is_taken) }

pub returns-in-Ok-finish-clause-gives : goal.returns-in-Ok-finish-clause-gives
returns-in-Ok-finish-clause-gives g c =
    let read = c.loop-name.invariant.read in
    given_all _ _ _ c.loop-name.index c.loop-name.reading c.in_default.ensures.cases read c.in-Ok-finish.classes (c.in-Ok-finish.ensures.fault _ read.is_taken) (c.in-Ok-finish.ensures.classes _ read.is_taken)

pub returns-in-Err-finish-clause-gives : goal.returns-in-Err-finish-clause-gives
returns-in-Err-finish-clause-gives g c =
    let read = c.loop-name.invariant.read in
    given_last _ _ _ c.loop-name.index c.loop-name.reading c.in_default.ensures.cases read c.in-Err-finish.wrong c.told-in-Err-finish.result (c.in-Err-finish.ensures.fault _ read.is_taken) (λ e. c.in-Err-finish.ensures.inside (ap Err e)) c.told-in-Err-finish.ensures.told

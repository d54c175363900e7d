use Rattle.std.proofs.Common.{sym, subst, ap, ◌++◌, ◌∷◌, [], Option, List, ℕ, Err}
use Rattle.start_text.specs.Taken.{Takes}
use Rattle.sessions.proofs.Filing.{stopped, stopped_sound, err_is}
use Rattle.sessions.proofs.loading.read_file.Goals as goal

pub returns-in-Ok-clause-taken : goal.returns-in-Ok-clause-taken
returns-in-Ok-clause-taken g c =
    let found = c.in-Ok.ensures.found in
    (found.0, found.1, λ before h. subst (λ (o : Option (List ℕ)). Takes (before ++ (c.args.index, o) ∷ []) c.take.new.self c.take.result) (sym found.2) (c.take.ensures.taken before h))

pub returns-in-Ok-clause-sound : goal.returns-in-Ok-clause-sound
returns-in-Ok-clause-sound g c = λ before h e. absurd (c.take.ensures.inside e)

pub returns-in-Ok-clause-files : goal.returns-in-Ok-clause-files
returns-in-Ok-clause-files g c = record {
  same = c.load_file.ensures.files.same;
  later = c.load_file.ensures.files.later;
  cause = λ e. absurd (c.take.ensures.inside e);
}

pub returns-in-Err-clause-taken : goal.returns-in-Err-clause-taken
returns-in-Err-clause-taken g c =
    let found = c.in-Err.ensures.found in
    (found.0, found.1, λ before h. stopped (Unit {0}) before c.args.index found.0 c.stop.new.self c.in-Err.wrong c.stop.result found.2 (c.stop.ensures.first before h))

pub returns-in-Err-clause-sound : goal.returns-in-Err-clause-sound
returns-in-Err-clause-sound g c = λ before h e. stopped_sound before c.in-Err.wrong c.stop.result (c.stop.ensures.first before h) (err_is _ _ _ e)

pub returns-in-Err-clause-files : goal.returns-in-Err-clause-files
returns-in-Err-clause-files g c = record {
  same = c.in-Err.ensures.files.same;
  later = c.in-Err.ensures.files.later;
  cause = λ e. c.in-Err.ensures.files.cause (ap Err (c.stop.ensures.inside (err_is _ _ _ e)));
}

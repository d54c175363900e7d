use Rattle.std.proofs.Common.{◌≡◌, ◌∙◌, refl, rules}
use Rattle.sessions.proofs.Filing.{files_then, files_as}
use Rattle.sessions.proofs.Giving.{given_then}
use Rattle.sessions.proofs.loading.load_files.Goals as goal

pub returns-in-Classes-clause-gives : goal.returns-in-Classes-clause-gives
returns-in-Classes-clause-gives g c =
    given_then c.args.files.now c.as_slice.result.now c.in-Classes.puts _ c.add_sources.result _ _ c.as_slice.ensures c.in_ok-wrong.ensures.gives c.in-Classes.is c.in_ok-wrong.ensures.files c.add_sources.ensures.gives

pub returns-in-Classes-clause-files : goal.returns-in-Classes-clause-files
returns-in-Classes-clause-files g c = files_then _ _ _ c.in_ok-wrong.ensures.files c.add_sources.ensures.files (λ e. e)

pub returns-in-Classes-clause-none : goal.returns-in-Classes-clause-none
returns-in-Classes-clause-none g c = λ e f. c.add_sources.ensures.none f ∙ c.in_ok-wrong.ensures.none (c.as_slice.ensures ∙ e)

pub returns-in_default-clause-none : goal.returns-in_default-clause-none
returns-in_default-clause-none g c = λ e f. c.in_ok-wrong.ensures.none (c.as_slice.ensures ∙ e)

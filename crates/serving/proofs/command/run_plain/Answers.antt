use Rattle.std.proofs.Common.{rules, ◌≡◌, ◌⊎◌, ◌∙◌, sym, ap, subst, map}
use Rattle.std.specs.Prelude.{string_bytes}
use Rattle.command_line.specs.Words.{AskFor, list, upgrade, count, sample}
use Rattle.command_line.proofs.Asked.{not-upgraded, upgrade-not-counted, upgrade-not-sampled, not-counted, not-sampled, count-not-sampled, one-counted, one-sampled}
use Rattle.outside.specs.Gathered.{WrotePrefix}
use Rattle.sheets.specs.Writing.{sheet_text}
use Rattle.sheet_runs.specs.Runs.{IsUpgraded}
use Rattle.sheet_runs.specs.declared.ending.Ending.TheVariants.{NotSheet}
use Rattle.sheet_runs.proofs.Endings.{complete, refuses}
use Rattle.serving.specs.Runs.{HasWritten, HasBegun, status_of}
use Rattle.statuses.specs.declared.status.Status.{Status}
use Rattle.serving.proofs.Counts.{no-usage-counted, counted-or-no-memory}
use Rattle.serving.proofs.Endings.{whole-or-no-memory, refused-or-no-memory, sheet-not-counted, sheet-not-sampled, no-usage}
use Rattle.serving.proofs.Samplings.{no-usage-sampled, sampled-or-no-memory}
use Rattle.serving.proofs.command.run_plain.Goals as goal

pub returns-in-List-clause-upgrading : goal.returns-in-List-clause-upgrading
returns-in-List-clause-upgrading g c = λ words.
    let h : AskFor list (map string_bytes c.args.words.now) = search rules in
    absurd (not-upgraded (map string_bytes c.args.words.now) h words)

pub returns-in-List-clause-counting : goal.returns-in-List-clause-counting
returns-in-List-clause-counting g c = λ start words.
    let h : AskFor list (map string_bytes c.args.words.now) = search rules in
    absurd (not-counted (map string_bytes c.args.words.now) start h words)

pub returns-in-List-clause-sampling : goal.returns-in-List-clause-sampling
returns-in-List-clause-sampling g c = λ n words.
    let h : AskFor list (map string_bytes c.args.words.now) = search rules in
    absurd (not-sampled (map string_bytes c.args.words.now) n h words)

pub returns-in-List-clause-fits : goal.returns-in-List-clause-fits
returns-in-List-clause-fits g c = λ two. no-usage c.list.result (sym (ap (λ (s : Status). s.code) c.of_sheet_run.ensures) ∙ two)

pub returns-in-List-clause-complete : goal.returns-in-List-clause-complete
returns-in-List-clause-complete g c = λ bytes parts words left sheet source sink.
    let was = c.args.end.now in
    let is = c.list.new.end in
    let w = g.K.Sink.written was.sink in
    let w' = g.K.Sink.written is.sink in
    let P : Status → Type 0 = λ s. (s.code ≡ 0) ⊎ (s.code ≡ 6) in
    subst P (sym c.of_sheet_run.ensures) (whole-or-no-memory c.list.result (complete (λ p. HasWritten p w w') (λ p. HasBegun p w w') c.list.result bytes parts _ _ w w' _ _ _ _ left sheet source sink c.list.ensures.ending))

pub returns-in-List-clause-refuses : goal.returns-in-List-clause-refuses
returns-in-List-clause-refuses g c = λ bytes fault words left wrong source.
    let was = c.args.end.now in
    let is = c.list.new.end in
    let w = g.K.Sink.written was.sink in
    let w' = g.K.Sink.written is.sink in
    let P : Status → Type 0 = λ s. (s ≡ status_of (NotSheet fault.line fault.cause)) ⊎ (s.code ≡ 6) in
    subst P (sym c.of_sheet_run.ensures) (refused-or-no-memory c.list.result fault.line fault.cause (refuses (λ p. HasWritten p w w') (λ p. HasBegun p w w') c.list.result bytes fault _ _ w w' _ _ _ _ left wrong source c.list.ensures.ending))

pub returns-in-List-clause-complete_count : goal.returns-in-List-clause-complete_count
returns-in-List-clause-complete_count g c = λ files start words.
    let h : AskFor list (map string_bytes c.args.words.now) = search rules in
    absurd (not-counted (map string_bytes c.args.words.now) start h words)

pub returns-in-List-clause-complete_sample : goal.returns-in-List-clause-complete_sample
returns-in-List-clause-complete_sample g c = λ n words.
    let h : AskFor list (map string_bytes c.args.words.now) = search rules in
    absurd (not-sampled (map string_bytes c.args.words.now) n h words)

pub returns-in-List-clause-source : goal.returns-in-List-clause-source
returns-in-List-clause-source g c = λ start words.
    let h : AskFor list (map string_bytes c.args.words.now) = search rules in
    absurd (not-counted (map string_bytes c.args.words.now) start h words)

pub returns-in-List-clause-unread : goal.returns-in-List-clause-unread
returns-in-List-clause-unread g c = λ n words.
    let h : AskFor list (map string_bytes c.args.words.now) = search rules in
    absurd (not-sampled (map string_bytes c.args.words.now) n h words)

pub returns-in-Upgrade-clause-ending : goal.returns-in-Upgrade-clause-ending
returns-in-Upgrade-clause-ending g c = λ words.
    let h : AskFor upgrade (map string_bytes c.args.words.now) = search rules in
    absurd (not-upgraded (map string_bytes c.args.words.now) words h)

pub returns-in-Upgrade-clause-upgrading : goal.returns-in-Upgrade-clause-upgrading
returns-in-Upgrade-clause-upgrading g c = λ words. (c.upgrade.result, c.of_sheet_run-in-Upgrade.ensures, c.upgrade.ensures.ending)

pub returns-in-Upgrade-clause-counting : goal.returns-in-Upgrade-clause-counting
returns-in-Upgrade-clause-counting g c = λ start words.
    let h : AskFor upgrade (map string_bytes c.args.words.now) = search rules in
    absurd (upgrade-not-counted (map string_bytes c.args.words.now) start h words)

pub returns-in-Upgrade-clause-sampling : goal.returns-in-Upgrade-clause-sampling
returns-in-Upgrade-clause-sampling g c = λ n words.
    let h : AskFor upgrade (map string_bytes c.args.words.now) = search rules in
    absurd (upgrade-not-sampled (map string_bytes c.args.words.now) n h words)

pub returns-in-Upgrade-clause-fits : goal.returns-in-Upgrade-clause-fits
returns-in-Upgrade-clause-fits g c = λ two. no-usage c.upgrade.result (sym (ap (λ (s : Status). s.code) c.of_sheet_run-in-Upgrade.ensures) ∙ two)

pub returns-in-Upgrade-clause-complete : goal.returns-in-Upgrade-clause-complete
returns-in-Upgrade-clause-complete g c = λ bytes parts words left sheet source sink.
    let was = c.args.end.now in
    let is = c.upgrade.new.end in
    let w = g.K.Sink.written was.sink in
    let w' = g.K.Sink.written is.sink in
    let P : Status → Type 0 = λ s. (s.code ≡ 0) ⊎ (s.code ≡ 6) in
    subst P (sym c.of_sheet_run-in-Upgrade.ensures) (whole-or-no-memory c.upgrade.result (complete (λ p. IsUpgraded p w w') (λ p. WrotePrefix w w' (sheet_text p)) c.upgrade.result bytes parts _ _ w w' _ _ _ _ left sheet source sink c.upgrade.ensures.ending))

pub returns-in-Upgrade-clause-refuses : goal.returns-in-Upgrade-clause-refuses
returns-in-Upgrade-clause-refuses g c = λ bytes fault words left wrong source.
    let was = c.args.end.now in
    let is = c.upgrade.new.end in
    let w = g.K.Sink.written was.sink in
    let w' = g.K.Sink.written is.sink in
    let P : Status → Type 0 = λ s. (s ≡ status_of (NotSheet fault.line fault.cause)) ⊎ (s.code ≡ 6) in
    subst P (sym c.of_sheet_run-in-Upgrade.ensures) (refused-or-no-memory c.upgrade.result fault.line fault.cause (refuses (λ p. IsUpgraded p w w') (λ p. WrotePrefix w w' (sheet_text p)) c.upgrade.result bytes fault _ _ w w' _ _ _ _ left wrong source c.upgrade.ensures.ending))

pub returns-in-Upgrade-clause-complete_count : goal.returns-in-Upgrade-clause-complete_count
returns-in-Upgrade-clause-complete_count g c = λ files start words.
    let h : AskFor upgrade (map string_bytes c.args.words.now) = search rules in
    absurd (upgrade-not-counted (map string_bytes c.args.words.now) start h words)

pub returns-in-Upgrade-clause-complete_sample : goal.returns-in-Upgrade-clause-complete_sample
returns-in-Upgrade-clause-complete_sample g c = λ n words.
    let h : AskFor upgrade (map string_bytes c.args.words.now) = search rules in
    absurd (upgrade-not-sampled (map string_bytes c.args.words.now) n h words)

pub returns-in-Upgrade-clause-source : goal.returns-in-Upgrade-clause-source
returns-in-Upgrade-clause-source g c = λ start words.
    let h : AskFor upgrade (map string_bytes c.args.words.now) = search rules in
    absurd (upgrade-not-counted (map string_bytes c.args.words.now) start h words)

pub returns-in-Upgrade-clause-unread : goal.returns-in-Upgrade-clause-unread
returns-in-Upgrade-clause-unread g c = λ n words.
    let h : AskFor upgrade (map string_bytes c.args.words.now) = search rules in
    absurd (upgrade-not-sampled (map string_bytes c.args.words.now) n h words)

pub returns-in-Count-clause-ending : goal.returns-in-Count-clause-ending
returns-in-Count-clause-ending g c = λ words.
    let h : AskFor (count c.in-Count.start.now) (map string_bytes c.args.words.now) = search rules in
    absurd (not-counted (map string_bytes c.args.words.now) _ words h)

pub returns-in-Count-clause-upgrading : goal.returns-in-Count-clause-upgrading
returns-in-Count-clause-upgrading g c = λ words.
    let h : AskFor (count c.in-Count.start.now) (map string_bytes c.args.words.now) = search rules in
    absurd (upgrade-not-counted (map string_bytes c.args.words.now) _ words h)

pub returns-in-Count-clause-counting : goal.returns-in-Count-clause-counting
returns-in-Count-clause-counting g c = λ start words.
    let h : AskFor (count c.in-Count.start.now) (map string_bytes c.args.words.now) = search rules in
    let same = one-counted (map string_bytes c.args.words.now) c.in-Count.start.now start h words in
    (c.count.result, c.of_counting.ensures, rw (← same) c.count.ensures.ending, c.count.ensures.silent)

pub returns-in-Count-clause-sampling : goal.returns-in-Count-clause-sampling
returns-in-Count-clause-sampling g c = λ n words.
    let h : AskFor (count c.in-Count.start.now) (map string_bytes c.args.words.now) = search rules in
    absurd (count-not-sampled (map string_bytes c.args.words.now) _ n h words)

pub returns-in-Count-clause-fits : goal.returns-in-Count-clause-fits
returns-in-Count-clause-fits g c = λ two. no-usage-counted c.count.result (sym (ap (λ (s : Status). s.code) c.of_counting.ensures) ∙ two)

pub returns-in-Count-clause-complete : goal.returns-in-Count-clause-complete
returns-in-Count-clause-complete g c = λ bytes parts words.
    let h : AskFor (count c.in-Count.start.now) (map string_bytes c.args.words.now) = search rules in
    absurd (sheet-not-counted (map string_bytes c.args.words.now) _ words h)

pub returns-in-Count-clause-refuses : goal.returns-in-Count-clause-refuses
returns-in-Count-clause-refuses g c = λ bytes fault words.
    let h : AskFor (count c.in-Count.start.now) (map string_bytes c.args.words.now) = search rules in
    absurd (sheet-not-counted (map string_bytes c.args.words.now) _ words h)

pub returns-in-Count-clause-complete_count : goal.returns-in-Count-clause-complete_count
returns-in-Count-clause-complete_count g c = λ files start words held sound shelf sink.
    let h : AskFor (count c.in-Count.start.now) (map string_bytes c.args.words.now) = search rules in
    let same = one-counted (map string_bytes c.args.words.now) c.in-Count.start.now start h words in
    let P : Status → Type 0 = λ s. (s.code ≡ 0) ⊎ (s.code ≡ 6) in
    subst P (sym c.of_counting.ensures) (counted-or-no-memory c.count.result (c.count.ensures.complete files held (rw same sound) shelf sink))

pub returns-in-Count-clause-complete_sample : goal.returns-in-Count-clause-complete_sample
returns-in-Count-clause-complete_sample g c = λ n words.
    let h : AskFor (count c.in-Count.start.now) (map string_bytes c.args.words.now) = search rules in
    absurd (count-not-sampled (map string_bytes c.args.words.now) _ n h words)

pub returns-in-Count-clause-unread : goal.returns-in-Count-clause-unread
returns-in-Count-clause-unread g c = λ n words.
    let h : AskFor (count c.in-Count.start.now) (map string_bytes c.args.words.now) = search rules in
    absurd (count-not-sampled (map string_bytes c.args.words.now) _ n h words)

pub returns-in-Count-clause-shelf : goal.returns-in-Count-clause-shelf
returns-in-Count-clause-shelf g c = λ words.
    let h : AskFor (count c.in-Count.start.now) (map string_bytes c.args.words.now) = search rules in
    absurd (sheet-not-counted (map string_bytes c.args.words.now) _ words h)

pub returns-in-Sample-clause-ending : goal.returns-in-Sample-clause-ending
returns-in-Sample-clause-ending g c = λ words.
    let h : AskFor (sample c.in-Sample.number) (map string_bytes c.args.words.now) = search rules in
    absurd (not-sampled (map string_bytes c.args.words.now) _ words h)

pub returns-in-Sample-clause-upgrading : goal.returns-in-Sample-clause-upgrading
returns-in-Sample-clause-upgrading g c = λ words.
    let h : AskFor (sample c.in-Sample.number) (map string_bytes c.args.words.now) = search rules in
    absurd (upgrade-not-sampled (map string_bytes c.args.words.now) _ words h)

pub returns-in-Sample-clause-counting : goal.returns-in-Sample-clause-counting
returns-in-Sample-clause-counting g c = λ start words.
    let h : AskFor (sample c.in-Sample.number) (map string_bytes c.args.words.now) = search rules in
    absurd (count-not-sampled (map string_bytes c.args.words.now) start _ words h)

pub returns-in-Sample-clause-sampling : goal.returns-in-Sample-clause-sampling
returns-in-Sample-clause-sampling g c = λ n words.
    let h : AskFor (sample c.in-Sample.number) (map string_bytes c.args.words.now) = search rules in
    let same = one-sampled (map string_bytes c.args.words.now) c.in-Sample.number n h words in
    (c.tell_sample.result, c.of_sampling.ensures, rw (← same) c.tell_sample.ensures.ending, c.tell_sample.ensures.silent)

pub returns-in-Sample-clause-fits : goal.returns-in-Sample-clause-fits
returns-in-Sample-clause-fits g c = λ two. no-usage-sampled c.tell_sample.result (sym (ap (λ (s : Status). s.code) c.of_sampling.ensures) ∙ two)

pub returns-in-Sample-clause-complete : goal.returns-in-Sample-clause-complete
returns-in-Sample-clause-complete g c = λ bytes parts words.
    let h : AskFor (sample c.in-Sample.number) (map string_bytes c.args.words.now) = search rules in
    absurd (sheet-not-sampled (map string_bytes c.args.words.now) _ words h)

pub returns-in-Sample-clause-refuses : goal.returns-in-Sample-clause-refuses
returns-in-Sample-clause-refuses g c = λ bytes fault words.
    let h : AskFor (sample c.in-Sample.number) (map string_bytes c.args.words.now) = search rules in
    absurd (sheet-not-sampled (map string_bytes c.args.words.now) _ words h)

pub returns-in-Sample-clause-complete_count : goal.returns-in-Sample-clause-complete_count
returns-in-Sample-clause-complete_count g c = λ files start words.
    let h : AskFor (sample c.in-Sample.number) (map string_bytes c.args.words.now) = search rules in
    absurd (count-not-sampled (map string_bytes c.args.words.now) start _ words h)

pub returns-in-Sample-clause-complete_sample : goal.returns-in-Sample-clause-complete_sample
returns-in-Sample-clause-complete_sample g c = λ n words sink.
    let P : Status → Type 0 = λ s. (s.code ≡ 0) ⊎ (s.code ≡ 6) in
    subst P (sym c.of_sampling.ensures) (sampled-or-no-memory c.tell_sample.result (c.tell_sample.ensures.complete sink))

use Rattle.std.proofs.Common.{rules, tests, ◌≡◌, ◌≢◌, inl, inr, ◌∙◌, sym, refl, ap, subst, map, length, get_or, option_map, Some}
use Rattle.std.specs.Prelude.{string_bytes, slice_set}
use Rattle.outside.specs.Causes.{Rose}
use Rattle.std.proofs.lemmas.Option.{slice_get-map}
use Rattle.serving.specs.Services.{view_of}
use Rattle.serving.specs.Usages.{IsUsage}
use Rattle.command_line.specs.Words.{list, upgrade, serve, count, sample, AskFor, Commands, HasFewWorkers, ends_of}
use Rattle.command_line.proofs.Asked.{asked-of, ends-asked, serve-told, not-upgraded, upgrade-not-served, upgrade-not-counted, upgrade-not-sampled, not-counted, count-not-served, not-sampled, count-not-sampled, sample-not-served}
use Rattle.statuses.specs.declared.status.Status.{Status}
use Rattle.command_line.specs.declared.command.Command.TheVariants as command
use Rattle.serving.proofs.Endings.{sheet-asked, sheet-not-wrong, sheet-not-served, sheet-not-counted, sheet-not-sampled}
use Rattle.serving.proofs.Ends.{head-is}
use Rattle.serving.proofs.Served.{no-usage-served}
use Rattle.serving.proofs.Usages.{wrong-words, wrong-ends, is-wrong-ends, no-usage-fits}
use Rattle.serving.proofs.command.run.Goals as goal

pub returns-in-Err-clause-usage : goal.returns-in-Err-clause-usage
returns-in-Err-clause-usage g c = λ status u.
    let ws = map string_bytes c.args.words.now in
    (c.usage.ensures ∙ wrong-words ws (length c.args.ends.now.items) c.in-Err.fault.word status c.in-Err.ensures.command u, refl)

pub returns-in-Err-clause-ending : goal.returns-in-Err-clause-ending
returns-in-Err-clause-ending g c = λ words one. absurd (c.in-Err.ensures.command.nothing list words)

pub returns-in-Err-clause-upgrading : goal.returns-in-Err-clause-upgrading
returns-in-Err-clause-upgrading g c = λ words one. absurd (c.in-Err.ensures.command.nothing upgrade words)

pub returns-in-Err-clause-shelf_stays : goal.returns-in-Err-clause-shelf_stays
returns-in-Err-clause-shelf_stays g c = λ i e f words at_e at_f. absurd (sheet-not-wrong (map string_bytes c.args.words.now) _ words c.in-Err.ensures.command)

pub returns-in-Err-clause-serving : goal.returns-in-Err-clause-serving
returns-in-Err-clause-serving g c = λ start pairs workers words many. absurd (c.in-Err.ensures.command.nothing (serve start pairs workers) words)

pub returns-in-Err-clause-complete : goal.returns-in-Err-clause-complete
returns-in-Err-clause-complete g c = λ e f bytes parts before after words left sheet source sink. absurd (sheet-not-wrong (map string_bytes c.args.words.now) _ words c.in-Err.ensures.command)

pub returns-in-Err-clause-refuses : goal.returns-in-Err-clause-refuses
returns-in-Err-clause-refuses g c = λ e f bytes fault before after words left wrong source. absurd (sheet-not-wrong (map string_bytes c.args.words.now) _ words c.in-Err.ensures.command)

pub returns-in-Err-clause-counting : goal.returns-in-Err-clause-counting
returns-in-Err-clause-counting g c = λ start words one. absurd (c.in-Err.ensures.command.nothing (count start) words)

pub returns-in-Err-clause-complete_count : goal.returns-in-Err-clause-complete_count
returns-in-Err-clause-complete_count g c = λ e f files start before after words held sound shelf sink. absurd (c.in-Err.ensures.command.nothing (count start) words)

pub returns-in-Err-clause-sampling : goal.returns-in-Err-clause-sampling
returns-in-Err-clause-sampling g c = λ n words one. absurd (c.in-Err.ensures.command.nothing (sample n) words)

pub returns-in-Err-clause-complete_sample : goal.returns-in-Err-clause-complete_sample
returns-in-Err-clause-complete_sample g c = λ e f n before after words sink. absurd (c.in-Err.ensures.command.nothing (sample n) words)

pub returns-then-len-ends-clause-usage : goal.returns-then-len-ends-clause-usage
returns-then-len-ends-clause-usage g c = λ status u.
    let ws = map string_bytes c.args.words.now in
    let n = length c.args.ends.now.items in
    let h : Commands c.in-Ok.command ws = search rules in
    let asked = asked-of c.in-Ok.command ws h in
    let long : c.len-then-len-ends.result ≡ n = search rules in
    let told = c.usage-then-len-ends.ensures ∙ ap (λ p. record { code = 2; end = 0; place = p; cause = 2 }) long in
    (told ∙ wrong-ends ws n asked.0 status asked.1 u, refl)

pub returns-then-len-ends-clause-usage_alone : goal.returns-then-len-ends-clause-usage_alone
returns-then-len-ends-clause-usage_alone g c = λ two.
    let ws = map string_bytes c.args.words.now in
    let n = length c.args.ends.now.items in
    let h : Commands c.in-Ok.command ws = search rules in
    let asked = asked-of c.in-Ok.command ws h in
    let other : n ≢ ends_of c.in-Ok.command = search (rules, tests) in
    let long : c.len-then-len-ends.result ≡ n = search rules in
    let told = c.usage-then-len-ends.ensures ∙ ap (λ p. record { code = 2; end = 0; place = p; cause = 2 }) long in
    subst (IsUsage ws n) (sym told) (is-wrong-ends ws n asked.0 asked.1 (λ e. other (e ∙ asked.2)))

pub returns-then-len-ends-clause-serving : goal.returns-then-len-ends-clause-serving
returns-then-len-ends-clause-serving g c = λ start pairs workers words many.
    let ws = map string_bytes c.args.words.now in
    let n = length c.args.ends.now.items in
    let h : Commands c.in-Ok.command ws = search rules in
    let asked = asked-of c.in-Ok.command ws h in
    let other : n ≢ ends_of c.in-Ok.command = search (rules, tests) in
    absurd (other (many ∙ sym (ends-asked c.in-Ok.command ws (serve start pairs workers) h words)))

pub returns-then-len-ends-clause-upgrading : goal.returns-then-len-ends-clause-upgrading
returns-then-len-ends-clause-upgrading g c = λ words one.
    let ws = map string_bytes c.args.words.now in
    let h : Commands c.in-Ok.command ws = search rules in
    let other : length c.args.ends.now.items ≢ ends_of c.in-Ok.command = search (rules, tests) in
    absurd (other (one ∙ sym (ends-asked c.in-Ok.command ws upgrade h words)))

pub returns-then-len-ends-clause-complete : goal.returns-then-len-ends-clause-complete
returns-then-len-ends-clause-complete g c = λ e f bytes parts before after words left sheet source sink.
    let ws = map string_bytes c.args.words.now in
    let h : Commands c.in-Ok.command ws = search rules in
    let other : length c.args.ends.now.items ≢ ends_of c.in-Ok.command = search (rules, tests) in
    let asked = sheet-asked ws words in
    absurd (other (ap length before ∙ sym asked.2 ∙ sym (ends-asked c.in-Ok.command ws asked.0 h asked.1)))

pub returns-then-len-ends-clause-refuses : goal.returns-then-len-ends-clause-refuses
returns-then-len-ends-clause-refuses g c = λ e f bytes fault before after words left wrong source.
    let ws = map string_bytes c.args.words.now in
    let h : Commands c.in-Ok.command ws = search rules in
    let other : length c.args.ends.now.items ≢ ends_of c.in-Ok.command = search (rules, tests) in
    let asked = sheet-asked ws words in
    absurd (other (ap length before ∙ sym asked.2 ∙ sym (ends-asked c.in-Ok.command ws asked.0 h asked.1)))

pub returns-then-len-ends-clause-counting : goal.returns-then-len-ends-clause-counting
returns-then-len-ends-clause-counting g c = λ start words one.
    let ws = map string_bytes c.args.words.now in
    let h : Commands c.in-Ok.command ws = search rules in
    let other : length c.args.ends.now.items ≢ ends_of c.in-Ok.command = search (rules, tests) in
    absurd (other (one ∙ sym (ends-asked c.in-Ok.command ws (count start) h words)))

pub returns-then-len-ends-clause-complete_count : goal.returns-then-len-ends-clause-complete_count
returns-then-len-ends-clause-complete_count g c = λ e f files start before after words held sound shelf sink.
    let ws = map string_bytes c.args.words.now in
    let h : Commands c.in-Ok.command ws = search rules in
    let other : length c.args.ends.now.items ≢ ends_of c.in-Ok.command = search (rules, tests) in
    absurd (other (ap length before ∙ sym (ends-asked c.in-Ok.command ws (count start) h words)))

pub returns-then-len-ends-clause-sampling : goal.returns-then-len-ends-clause-sampling
returns-then-len-ends-clause-sampling g c = λ n words one.
    let ws = map string_bytes c.args.words.now in
    let h : Commands c.in-Ok.command ws = search rules in
    let other : length c.args.ends.now.items ≢ ends_of c.in-Ok.command = search (rules, tests) in
    absurd (other (one ∙ sym (ends-asked c.in-Ok.command ws (sample n) h words)))

pub returns-then-len-ends-clause-complete_sample : goal.returns-then-len-ends-clause-complete_sample
returns-then-len-ends-clause-complete_sample g c = λ e f n before after words sink.
    let ws = map string_bytes c.args.words.now in
    let h : Commands c.in-Ok.command ws = search rules in
    let other : length c.args.ends.now.items ≢ ends_of c.in-Ok.command = search (rules, tests) in
    absurd (other (ap length before ∙ sym (ends-asked c.in-Ok.command ws (sample n) h words)))

pub returns-in-List-clause-usage : goal.returns-in-List-clause-usage
returns-in-List-clause-usage g c = λ status u.
    let ws = map string_bytes c.args.words.now in
    let n = length c.args.ends.now.items in
    let h : Commands c.in-Ok.command ws = search rules in
    let asked = asked-of c.in-Ok.command ws h in
    let even : n ≡ ends_of c.in-Ok.command = search (rules, tests) in
    absurd (no-usage-fits ws n asked.0 status asked.1 (even ∙ sym asked.2) u)

pub returns-in-List-clause-upgrading : goal.returns-in-List-clause-upgrading
returns-in-List-clause-upgrading g c = λ words one.
    let h : AskFor list (map string_bytes c.args.words.now) = search rules in
    absurd (not-upgraded (map string_bytes c.args.words.now) h words)

pub returns-in-List-clause-complete : goal.returns-in-List-clause-complete
returns-in-List-clause-complete g c = λ e f bytes parts before after words left sheet source sink.
    let was = c.index_mut.result.now in
    let is = c.run_plain.new.end in
    let old : was ≡ e = c.index_mut.ensures.value ∙ ap (λ xs. get_or xs 0 was) before in
    let new : is ≡ f = head-is is f (ap (λ xs. slice_set xs 0 is) (sym before) ∙ after) in
    let told : g.S.Source.left was.source ≡ Some bytes = ap (λ x. g.S.Source.left x.source) old ∙ left in
    let steady : ¬ (Rose (g.S.Source.faults was.source) (g.S.Source.faults is.source)) = rw (old, new) source in
    let taken : ¬ (Rose (g.K.Sink.faults was.sink) (g.K.Sink.faults is.sink)) = rw (old, new) sink in
    c.run_plain.ensures.complete bytes parts words told sheet steady taken

pub returns-in-List-clause-refuses : goal.returns-in-List-clause-refuses
returns-in-List-clause-refuses g c = λ e f bytes fault before after words left wrong source.
    let was = c.index_mut.result.now in
    let is = c.run_plain.new.end in
    let old : was ≡ e = c.index_mut.ensures.value ∙ ap (λ xs. get_or xs 0 was) before in
    let new : is ≡ f = head-is is f (ap (λ xs. slice_set xs 0 is) (sym before) ∙ after) in
    let told : g.S.Source.left was.source ≡ Some bytes = ap (λ x. g.S.Source.left x.source) old ∙ left in
    let steady : ¬ (Rose (g.S.Source.faults was.source) (g.S.Source.faults is.source)) = rw (old, new) source in
    c.run_plain.ensures.refuses bytes fault words told wrong steady

pub returns-in-List-clause-counting : goal.returns-in-List-clause-counting
returns-in-List-clause-counting g c = λ start words one.
    let h : AskFor list (map string_bytes c.args.words.now) = search rules in
    absurd (not-counted (map string_bytes c.args.words.now) start h words)

pub returns-in-List-clause-complete_count : goal.returns-in-List-clause-complete_count
returns-in-List-clause-complete_count g c = λ e f files start before after words held sound shelf sink.
    let h : AskFor list (map string_bytes c.args.words.now) = search rules in
    absurd (not-counted (map string_bytes c.args.words.now) start h words)

pub returns-in-List-clause-sampling : goal.returns-in-List-clause-sampling
returns-in-List-clause-sampling g c = λ n words one.
    let h : AskFor list (map string_bytes c.args.words.now) = search rules in
    absurd (not-sampled (map string_bytes c.args.words.now) n h words)

pub returns-in-List-clause-complete_sample : goal.returns-in-List-clause-complete_sample
returns-in-List-clause-complete_sample g c = λ e f n before after words sink.
    let h : AskFor list (map string_bytes c.args.words.now) = search rules in
    absurd (not-sampled (map string_bytes c.args.words.now) n h words)

pub run_plain-requires-in-Upgrade : goal.run_plain-requires-in-Upgrade
run_plain-requires-in-Upgrade g c =
    let h : AskFor upgrade (map string_bytes c.args.words.now) = search rules in
    record { plain = inr (inl h) }

pub returns-in-Upgrade-clause-usage : goal.returns-in-Upgrade-clause-usage
returns-in-Upgrade-clause-usage g c = λ status u.
    let ws = map string_bytes c.args.words.now in
    let n = length c.args.ends.now.items in
    let h : Commands c.in-Ok.command ws = search rules in
    let asked = asked-of c.in-Ok.command ws h in
    let even : n ≡ ends_of c.in-Ok.command = search (rules, tests) in
    absurd (no-usage-fits ws n asked.0 status asked.1 (even ∙ sym asked.2) u)

pub returns-in-Upgrade-clause-ending : goal.returns-in-Upgrade-clause-ending
returns-in-Upgrade-clause-ending g c = λ words one.
    let h : AskFor upgrade (map string_bytes c.args.words.now) = search rules in
    absurd (not-upgraded (map string_bytes c.args.words.now) words h)

pub returns-in-Upgrade-clause-upgrading : goal.returns-in-Upgrade-clause-upgrading
returns-in-Upgrade-clause-upgrading g c = λ words one.
    let ran = c.run_plain-in-Upgrade.ensures.upgrading words in
    let was = c.index_mut-in-Upgrade.result.now in
    let is = c.run_plain-in-Upgrade.new.end in (
      ran.0,
      ran.1,
      λ e f before after.
          let old : was ≡ e = c.index_mut-in-Upgrade.ensures.value ∙ ap (λ xs. get_or xs 0 was) before in
          let new : is ≡ f = head-is is f (ap (λ xs. slice_set xs 0 is) (sym before) ∙ after) in
          rw (← old, ← new) ran.2,
    )

pub returns-in-Upgrade-clause-serving : goal.returns-in-Upgrade-clause-serving
returns-in-Upgrade-clause-serving g c = λ start pairs workers words many.
    let h : AskFor upgrade (map string_bytes c.args.words.now) = search rules in
    absurd (upgrade-not-served (map string_bytes c.args.words.now) start pairs workers h words)

pub returns-in-Upgrade-clause-complete : goal.returns-in-Upgrade-clause-complete
returns-in-Upgrade-clause-complete g c = λ e f bytes parts before after words left sheet source sink.
    let was = c.index_mut-in-Upgrade.result.now in
    let is = c.run_plain-in-Upgrade.new.end in
    let old : was ≡ e = c.index_mut-in-Upgrade.ensures.value ∙ ap (λ xs. get_or xs 0 was) before in
    let new : is ≡ f = head-is is f (ap (λ xs. slice_set xs 0 is) (sym before) ∙ after) in
    let told : g.S.Source.left was.source ≡ Some bytes = ap (λ x. g.S.Source.left x.source) old ∙ left in
    let steady : ¬ (Rose (g.S.Source.faults was.source) (g.S.Source.faults is.source)) = rw (old, new) source in
    let taken : ¬ (Rose (g.K.Sink.faults was.sink) (g.K.Sink.faults is.sink)) = rw (old, new) sink in
    c.run_plain-in-Upgrade.ensures.complete bytes parts words told sheet steady taken

pub returns-in-Upgrade-clause-refuses : goal.returns-in-Upgrade-clause-refuses
returns-in-Upgrade-clause-refuses g c = λ e f bytes fault before after words left wrong source.
    let was = c.index_mut-in-Upgrade.result.now in
    let is = c.run_plain-in-Upgrade.new.end in
    let old : was ≡ e = c.index_mut-in-Upgrade.ensures.value ∙ ap (λ xs. get_or xs 0 was) before in
    let new : is ≡ f = head-is is f (ap (λ xs. slice_set xs 0 is) (sym before) ∙ after) in
    let told : g.S.Source.left was.source ≡ Some bytes = ap (λ x. g.S.Source.left x.source) old ∙ left in
    let steady : ¬ (Rose (g.S.Source.faults was.source) (g.S.Source.faults is.source)) = rw (old, new) source in
    c.run_plain-in-Upgrade.ensures.refuses bytes fault words told wrong steady

pub returns-in-Upgrade-clause-counting : goal.returns-in-Upgrade-clause-counting
returns-in-Upgrade-clause-counting g c = λ start words one.
    let h : AskFor upgrade (map string_bytes c.args.words.now) = search rules in
    absurd (upgrade-not-counted (map string_bytes c.args.words.now) start h words)

pub returns-in-Upgrade-clause-complete_count : goal.returns-in-Upgrade-clause-complete_count
returns-in-Upgrade-clause-complete_count g c = λ e f files start before after words held sound shelf sink.
    let h : AskFor upgrade (map string_bytes c.args.words.now) = search rules in
    absurd (upgrade-not-counted (map string_bytes c.args.words.now) start h words)

pub returns-in-Upgrade-clause-sampling : goal.returns-in-Upgrade-clause-sampling
returns-in-Upgrade-clause-sampling g c = λ n words one.
    let h : AskFor upgrade (map string_bytes c.args.words.now) = search rules in
    absurd (upgrade-not-sampled (map string_bytes c.args.words.now) n h words)

pub returns-in-Upgrade-clause-complete_sample : goal.returns-in-Upgrade-clause-complete_sample
returns-in-Upgrade-clause-complete_sample g c = λ e f n before after words sink.
    let h : AskFor upgrade (map string_bytes c.args.words.now) = search rules in
    absurd (upgrade-not-sampled (map string_bytes c.args.words.now) n h words)

pub returns-in-Serve-clause-usage : goal.returns-in-Serve-clause-usage
returns-in-Serve-clause-usage g c = λ status u.
    let ws = map string_bytes c.args.words.now in
    let n = length c.args.ends.now.items in
    let h : Commands c.in-Ok.command ws = search rules in
    let asked = asked-of c.in-Ok.command ws h in
    let even : n ≡ ends_of c.in-Ok.command = search (rules, tests) in
    absurd (no-usage-fits ws n asked.0 status asked.1 (even ∙ sym asked.2) u)

pub returns-in-Serve-clause-usage_alone : goal.returns-in-Serve-clause-usage_alone
returns-in-Serve-clause-usage_alone g c = λ two.
    absurd (no-usage-served c.serve.result _ _ _ c.serve.ensures.lasts.count c.serve.ensures.serves (sym (ap (λ (s : Status). s.code) c.of_serving.ensures) ∙ two))

pub serve-requires-clause-ahead : goal.serve-requires-clause-ahead
serve-requires-clause-ahead g c κs within =
    let few : HasFewWorkers c.in-Ok.command = search rules in
    subst HasFewWorkers c.in-Serve.is few

pub returns-in-Serve-clause-serving : goal.returns-in-Serve-clause-serving
returns-in-Serve-clause-serving g c = λ start pairs workers words many.
    let ws = map string_bytes c.args.words.now in
    let n = length c.args.ends.now.items in
    let h : Commands c.in-Ok.command ws = search rules in
    let asked = asked-of c.in-Ok.command ws h in
    let same = (serve-told c.in-Ok.command c.in-Serve.start _ _ ws start pairs workers c.in-Serve.is h words).0 in
    (c.serve.result, c.of_serving.ensures, rw (← same) c.serve.ensures.serves, c.serve.ensures.untouched)

pub returns-in-Serve-clause-refuses : goal.returns-in-Serve-clause-refuses
returns-in-Serve-clause-refuses g c = λ e f bytes fault before after words left wrong source.
    let ws = map string_bytes c.args.words.now in
    let h : Commands c.in-Ok.command ws = search rules in
    let told : Commands (command.Serve c.in-Serve.start _ _) ws = subst (λ x. Commands x ws) c.in-Serve.is h in
    absurd (sheet-not-served ws _ _ _ words told.2)

pub returns-in-Serve-clause-complete : goal.returns-in-Serve-clause-complete
returns-in-Serve-clause-complete g c = λ e f bytes parts before after words left sheet source sink.
    let ws = map string_bytes c.args.words.now in
    let h : Commands c.in-Ok.command ws = search rules in
    let told : Commands (command.Serve c.in-Serve.start _ _) ws = subst (λ x. Commands x ws) c.in-Serve.is h in
    absurd (sheet-not-served ws _ _ _ words told.2)

pub returns-in-Serve-clause-shelf_stays : goal.returns-in-Serve-clause-shelf_stays
returns-in-Serve-clause-shelf_stays g c = λ i e f words at_e at_f.
    let ws = map string_bytes c.args.words.now in
    let h : Commands c.in-Ok.command ws = search rules in
    let told : Commands (command.Serve c.in-Serve.start _ _) ws = subst (λ x. Commands x ws) c.in-Serve.is h in
    absurd (sheet-not-served ws _ _ _ words told.2)

pub returns-in-Serve-clause-upgrading : goal.returns-in-Serve-clause-upgrading
returns-in-Serve-clause-upgrading g c = λ words one.
    let ws = map string_bytes c.args.words.now in
    let h : Commands c.in-Ok.command ws = search rules in
    let told : Commands (command.Serve c.in-Serve.start _ _) ws = subst (λ x. Commands x ws) c.in-Serve.is h in
    absurd (upgrade-not-served ws _ _ _ words told.2)

pub returns-in-Serve-clause-faults_rise : goal.returns-in-Serve-clause-faults_rise
returns-in-Serve-clause-faults_rise g c = λ i e f at_e at_f.
    let seen = view_of g.S.Source.left g.K.Sink.written g.H.Shelf.holds g.S.Source.faults g.K.Sink.faults g.H.Shelf.faults in
    let l = c.serve.ensures.lasts.each i (seen e) (seen f) (slice_get-map seen c.args.ends.now.items i ∙ ap (option_map seen) at_e) (slice_get-map seen c.serve.new.ends.items i ∙ ap (option_map seen) at_f) in
    (l.reads, l.writes, l.loads)

pub returns-in-Serve-clause-shelf_holds : goal.returns-in-Serve-clause-shelf_holds
returns-in-Serve-clause-shelf_holds g c = λ i e f at_e at_f.
    let seen = view_of g.S.Source.left g.K.Sink.written g.H.Shelf.holds g.S.Source.faults g.K.Sink.faults g.H.Shelf.faults in
    let l = c.serve.ensures.lasts.each i (seen e) (seen f) (slice_get-map seen c.args.ends.now.items i ∙ ap (option_map seen) at_e) (slice_get-map seen c.serve.new.ends.items i ∙ ap (option_map seen) at_f) in
    l.held

pub returns-in-Serve-clause-counting : goal.returns-in-Serve-clause-counting
returns-in-Serve-clause-counting g c = λ start words one.
    let ws = map string_bytes c.args.words.now in
    let h : Commands c.in-Ok.command ws = search rules in
    let told : Commands (command.Serve c.in-Serve.start _ _) ws = subst (λ x. Commands x ws) c.in-Serve.is h in
    absurd (count-not-served ws start _ _ _ words told.2)

pub returns-in-Serve-clause-complete_count : goal.returns-in-Serve-clause-complete_count
returns-in-Serve-clause-complete_count g c = λ e f files start before after words held sound shelf sink.
    let ws = map string_bytes c.args.words.now in
    let h : Commands c.in-Ok.command ws = search rules in
    let told : Commands (command.Serve c.in-Serve.start _ _) ws = subst (λ x. Commands x ws) c.in-Serve.is h in
    absurd (count-not-served ws start _ _ _ words told.2)

pub returns-in-Serve-clause-sampling : goal.returns-in-Serve-clause-sampling
returns-in-Serve-clause-sampling g c = λ n words one.
    let ws = map string_bytes c.args.words.now in
    let h : Commands c.in-Ok.command ws = search rules in
    let told : Commands (command.Serve c.in-Serve.start _ _) ws = subst (λ x. Commands x ws) c.in-Serve.is h in
    absurd (sample-not-served ws n _ _ _ words told.2)

pub returns-in-Serve-clause-complete_sample : goal.returns-in-Serve-clause-complete_sample
returns-in-Serve-clause-complete_sample g c = λ e f n before after words sink.
    let ws = map string_bytes c.args.words.now in
    let h : Commands c.in-Ok.command ws = search rules in
    let told : Commands (command.Serve c.in-Serve.start _ _) ws = subst (λ x. Commands x ws) c.in-Serve.is h in
    absurd (sample-not-served ws n _ _ _ words told.2)

pub run_plain-requires-in-Count : goal.run_plain-requires-in-Count
run_plain-requires-in-Count g c =
    let h : AskFor (count c.in-Count.start.now) (map string_bytes c.args.words.now) = search rules in
    record { plain = inr (inr (inl (c.in-Count.start.now, h))) }

pub returns-in-Count-clause-usage : goal.returns-in-Count-clause-usage
returns-in-Count-clause-usage g c = λ status u.
    let ws = map string_bytes c.args.words.now in
    let n = length c.args.ends.now.items in
    let h : Commands c.in-Ok.command ws = search rules in
    let asked = asked-of c.in-Ok.command ws h in
    let even : n ≡ ends_of c.in-Ok.command = search (rules, tests) in
    absurd (no-usage-fits ws n asked.0 status asked.1 (even ∙ sym asked.2) u)

pub returns-in-Count-clause-ending : goal.returns-in-Count-clause-ending
returns-in-Count-clause-ending g c = λ words one.
    let h : AskFor (count c.in-Count.start.now) (map string_bytes c.args.words.now) = search rules in
    absurd (not-counted (map string_bytes c.args.words.now) _ words h)

pub returns-in-Count-clause-upgrading : goal.returns-in-Count-clause-upgrading
returns-in-Count-clause-upgrading g c = λ words one.
    let h : AskFor (count c.in-Count.start.now) (map string_bytes c.args.words.now) = search rules in
    absurd (upgrade-not-counted (map string_bytes c.args.words.now) _ words h)

pub returns-in-Count-clause-serving : goal.returns-in-Count-clause-serving
returns-in-Count-clause-serving g c = λ start pairs workers words many.
    let h : AskFor (count c.in-Count.start.now) (map string_bytes c.args.words.now) = search rules in
    absurd (count-not-served (map string_bytes c.args.words.now) _ start pairs workers h words)

pub returns-in-Count-clause-counting : goal.returns-in-Count-clause-counting
returns-in-Count-clause-counting g c = λ start words one.
    let ran = c.run_plain-in-Count.ensures.counting start words in
    let was = c.index_mut-in-Count.result.now in
    let is = c.run_plain-in-Count.new.end in (
      ran.0,
      ran.1,
      λ e f before after.
          let old : was ≡ e = c.index_mut-in-Count.ensures.value ∙ ap (λ xs. get_or xs 0 was) before in
          let new : is ≡ f = head-is is f (ap (λ xs. slice_set xs 0 is) (sym before) ∙ after) in
          rw (← old, ← new) (ran.2, ran.3, c.run_plain-in-Count.ensures.source start words),
    )

pub returns-in-Count-clause-shelf_stays : goal.returns-in-Count-clause-shelf_stays
returns-in-Count-clause-shelf_stays g c = λ i e f words.
    let h : AskFor (count c.in-Count.start.now) (map string_bytes c.args.words.now) = search rules in
    absurd (sheet-not-counted (map string_bytes c.args.words.now) _ words h)

pub returns-in-Count-clause-complete : goal.returns-in-Count-clause-complete
returns-in-Count-clause-complete g c = λ e f bytes parts before after words.
    let h : AskFor (count c.in-Count.start.now) (map string_bytes c.args.words.now) = search rules in
    absurd (sheet-not-counted (map string_bytes c.args.words.now) _ words h)

pub returns-in-Count-clause-refuses : goal.returns-in-Count-clause-refuses
returns-in-Count-clause-refuses g c = λ e f bytes fault before after words.
    let h : AskFor (count c.in-Count.start.now) (map string_bytes c.args.words.now) = search rules in
    absurd (sheet-not-counted (map string_bytes c.args.words.now) _ words h)

pub returns-in-Count-clause-complete_count : goal.returns-in-Count-clause-complete_count
returns-in-Count-clause-complete_count g c = λ e f files start before after words held sound shelf sink.
    let was = c.index_mut-in-Count.result.now in
    let is = c.run_plain-in-Count.new.end in
    let old : was ≡ e = c.index_mut-in-Count.ensures.value ∙ ap (λ xs. get_or xs 0 was) before in
    let new : is ≡ f = head-is is f (ap (λ xs. slice_set xs 0 is) (sym before) ∙ after) in
    let holds : g.H.Shelf.holds was.shelf ≡ Some files = ap (λ x. g.H.Shelf.holds x.shelf) old ∙ held in
    let steady : ¬ (Rose (g.H.Shelf.faults was.shelf) (g.H.Shelf.faults is.shelf)) = rw (old, new) shelf in
    let taken : ¬ (Rose (g.K.Sink.faults was.sink) (g.K.Sink.faults is.sink)) = rw (old, new) sink in
    c.run_plain-in-Count.ensures.complete_count files start words holds sound steady taken

pub returns-in-Count-clause-sampling : goal.returns-in-Count-clause-sampling
returns-in-Count-clause-sampling g c = λ n words one.
    let h : AskFor (count c.in-Count.start.now) (map string_bytes c.args.words.now) = search rules in
    absurd (count-not-sampled (map string_bytes c.args.words.now) _ n h words)

pub returns-in-Count-clause-complete_sample : goal.returns-in-Count-clause-complete_sample
returns-in-Count-clause-complete_sample g c = λ e f n before after words sink.
    let h : AskFor (count c.in-Count.start.now) (map string_bytes c.args.words.now) = search rules in
    absurd (count-not-sampled (map string_bytes c.args.words.now) _ n h words)

pub run_plain-requires-in-Sample : goal.run_plain-requires-in-Sample
run_plain-requires-in-Sample g c =
    let h : AskFor (sample c.in-Sample.number) (map string_bytes c.args.words.now) = search rules in
    record { plain = inr (inr (inr (c.in-Sample.number, h))) }

pub returns-in-Sample-clause-usage : goal.returns-in-Sample-clause-usage
returns-in-Sample-clause-usage g c = λ status u.
    let ws = map string_bytes c.args.words.now in
    let n = length c.args.ends.now.items in
    let h : Commands c.in-Ok.command ws = search rules in
    let asked = asked-of c.in-Ok.command ws h in
    let even : n ≡ ends_of c.in-Ok.command = search (rules, tests) in
    absurd (no-usage-fits ws n asked.0 status asked.1 (even ∙ sym asked.2) u)

pub returns-in-Sample-clause-ending : goal.returns-in-Sample-clause-ending
returns-in-Sample-clause-ending g c = λ words one.
    let h : AskFor (sample c.in-Sample.number) (map string_bytes c.args.words.now) = search rules in
    absurd (not-sampled (map string_bytes c.args.words.now) _ words h)

pub returns-in-Sample-clause-upgrading : goal.returns-in-Sample-clause-upgrading
returns-in-Sample-clause-upgrading g c = λ words one.
    let h : AskFor (sample c.in-Sample.number) (map string_bytes c.args.words.now) = search rules in
    absurd (upgrade-not-sampled (map string_bytes c.args.words.now) _ words h)

pub returns-in-Sample-clause-serving : goal.returns-in-Sample-clause-serving
returns-in-Sample-clause-serving g c = λ start pairs workers words many.
    let h : AskFor (sample c.in-Sample.number) (map string_bytes c.args.words.now) = search rules in
    absurd (sample-not-served (map string_bytes c.args.words.now) _ start pairs workers h words)

pub returns-in-Sample-clause-counting : goal.returns-in-Sample-clause-counting
returns-in-Sample-clause-counting g c = λ start words one.
    let h : AskFor (sample c.in-Sample.number) (map string_bytes c.args.words.now) = search rules in
    absurd (count-not-sampled (map string_bytes c.args.words.now) start _ words h)

pub returns-in-Sample-clause-sampling : goal.returns-in-Sample-clause-sampling
returns-in-Sample-clause-sampling g c = λ n words one.
    let ran = c.run_plain-in-Sample.ensures.sampling n words in
    let unread = c.run_plain-in-Sample.ensures.unread n words in
    let was = c.index_mut-in-Sample.result.now in
    let is = c.run_plain-in-Sample.new.end in (
      ran.0,
      ran.1,
      λ e f before after.
          let old : was ≡ e = c.index_mut-in-Sample.ensures.value ∙ ap (λ xs. get_or xs 0 was) before in
          let new : is ≡ f = head-is is f (ap (λ xs. slice_set xs 0 is) (sym before) ∙ after) in
          rw (← old, ← new) (ran.2, ran.3, unread.0, unread.1),
    )

pub returns-in-Sample-clause-shelf_stays : goal.returns-in-Sample-clause-shelf_stays
returns-in-Sample-clause-shelf_stays g c = λ i e f words.
    let h : AskFor (sample c.in-Sample.number) (map string_bytes c.args.words.now) = search rules in
    absurd (sheet-not-sampled (map string_bytes c.args.words.now) _ words h)

pub returns-in-Sample-clause-complete : goal.returns-in-Sample-clause-complete
returns-in-Sample-clause-complete g c = λ e f bytes parts before after words.
    let h : AskFor (sample c.in-Sample.number) (map string_bytes c.args.words.now) = search rules in
    absurd (sheet-not-sampled (map string_bytes c.args.words.now) _ words h)

pub returns-in-Sample-clause-refuses : goal.returns-in-Sample-clause-refuses
returns-in-Sample-clause-refuses g c = λ e f bytes fault before after words.
    let h : AskFor (sample c.in-Sample.number) (map string_bytes c.args.words.now) = search rules in
    absurd (sheet-not-sampled (map string_bytes c.args.words.now) _ words h)

pub returns-in-Sample-clause-complete_count : goal.returns-in-Sample-clause-complete_count
returns-in-Sample-clause-complete_count g c = λ e f files start before after words.
    let h : AskFor (sample c.in-Sample.number) (map string_bytes c.args.words.now) = search rules in
    absurd (count-not-sampled (map string_bytes c.args.words.now) start _ words h)

pub returns-in-Sample-clause-complete_sample : goal.returns-in-Sample-clause-complete_sample
returns-in-Sample-clause-complete_sample g c = λ e f n before after words sink.
    let was = c.index_mut-in-Sample.result.now in
    let is = c.run_plain-in-Sample.new.end in
    let old : was ≡ e = c.index_mut-in-Sample.ensures.value ∙ ap (λ xs. get_or xs 0 was) before in
    let new : is ≡ f = head-is is f (ap (λ xs. slice_set xs 0 is) (sym before) ∙ after) in
    let taken : ¬ (Rose (g.K.Sink.faults was.sink) (g.K.Sink.faults is.sink)) = rw (old, new) sink in
    c.run_plain-in-Sample.ensures.complete_sample n words taken

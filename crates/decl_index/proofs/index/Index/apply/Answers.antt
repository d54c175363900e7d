use Rattle.std.proofs.Common.{rules, ◌≡◌, ◌++◌, ◌∷◌, [], ◌⊎◌, inl, subst, sym}
use Rattle.std.specs.Prelude.{IfOk, IfErr}
use Rattle.decl_index.specs.declared.change.ChangeFault.{ChangeFault}
use Rattle.decl_index.specs.declared.change.ChangeFault.TheVariants.{OutOfMemory}
use Rattle.decl_index.specs.declared.change.Change.{Change}
use Rattle.decl_index.specs.declared.change.Change.TheVariants.{Publish, Withdraw, SetWeights}
use Rattle.decl_index.specs.History.{IsState}
use Rattle.decl_index.specs.Refusals.{RefusesFor, IsTooHigh}
use Rattle.decl_index.specs.Steps.{IsPublished, IsPublishFault, IsKept, IsWithdrawn}
use Rattle.decl_index.proofs.Results.{ok_then, err_then, or_then}
use Rattle.decl_index.proofs.State.{add_published, publish_lawful, publish_refused, add_withdrawn, withdraw_lawful, withdraw_refused, add_set}
use Rattle.decl_index.proofs.index.Index.apply.Goals as goal

pub returns-in-Publish : goal.returns-in-Publish
returns-in-Publish c =
    let puts = c.in-Publish.puts in
    let removes = c.in-Publish.removes in
    let counts = c.in-Publish.counts in
    let old = c.args.self.now in
    let made : IfOk c.published.result (λ next. IsPublished puts removes counts old next) = search rules in
    let failed : IfErr c.published.result (λ fault. (fault ≡ OutOfMemory) ⊎ IsPublishFault puts removes old fault) = search rules in
    record {
      state = λ h is. subst (λ (change : Change). IfOk c.published.result (λ next. IsState (h ++ change ∷ []) next)) (sym c.in-Publish.is) (ok_then (λ next. IsPublished puts removes counts old next) (λ next. IsState (h ++ Publish puts removes counts ∷ []) next) c.published.result made (λ next p. add_published h puts removes counts old next is p));
      lawful = λ h is. subst (λ (change : Change). IfOk c.published.result (λ next. (fault : ChangeFault) → RefusesFor h change fault → ⊥)) (sym c.in-Publish.is) (ok_then (λ next. IsPublished puts removes counts old next) (λ next. (fault : ChangeFault) → RefusesFor h (Publish puts removes counts) fault → ⊥) c.published.result made (λ next p. publish_lawful h puts removes counts old next is p));
      refused = λ h is. subst (λ (change : Change). IfErr c.published.result (λ fault. (fault ≡ OutOfMemory) ⊎ RefusesFor h change fault)) (sym c.in-Publish.is) (err_then (λ fault. (fault ≡ OutOfMemory) ⊎ IsPublishFault puts removes old fault) (λ fault. (fault ≡ OutOfMemory) ⊎ RefusesFor h (Publish puts removes counts) fault) c.published.result failed (λ fault p. or_then p (publish_refused h puts removes counts old fault is)));
    }

pub returns-in-Withdraw : goal.returns-in-Withdraw
returns-in-Withdraw c =
    let m = c.in-Withdraw.through in
    let old = c.args.self.now in
    let made : IfOk c.withdrawn.result (λ next. IsWithdrawn m old next) = search rules in
    let failed : IfErr c.withdrawn.result (λ fault. (fault ≡ OutOfMemory) ⊎ IsTooHigh old.number m fault) = search rules in
    record {
      state = λ h is. subst (λ (change : Change). IfOk c.withdrawn.result (λ next. IsState (h ++ change ∷ []) next)) (sym c.in-Withdraw.is) (ok_then (λ next. IsWithdrawn m old next) (λ next. IsState (h ++ Withdraw m ∷ []) next) c.withdrawn.result made (λ next p. add_withdrawn h m old next is p));
      lawful = λ h is. subst (λ (change : Change). IfOk c.withdrawn.result (λ next. (fault : ChangeFault) → RefusesFor h change fault → ⊥)) (sym c.in-Withdraw.is) (ok_then (λ next. IsWithdrawn m old next) (λ next. (fault : ChangeFault) → RefusesFor h (Withdraw m) fault → ⊥) c.withdrawn.result made (λ next p. withdraw_lawful h m old next is p));
      refused = λ h is. subst (λ (change : Change). IfErr c.withdrawn.result (λ fault. (fault ≡ OutOfMemory) ⊎ RefusesFor h change fault)) (sym c.in-Withdraw.is) (err_then (λ fault. (fault ≡ OutOfMemory) ⊎ IsTooHigh old.number m fault) (λ fault. (fault ≡ OutOfMemory) ⊎ RefusesFor h (Withdraw m) fault) c.withdrawn.result failed (λ fault p. or_then p (withdraw_refused h m old fault is)));
    }

pub returns-in-SetWeights : goal.returns-in-SetWeights
returns-in-SetWeights c =
    let w = c.in-SetWeights.weights in
    let old = c.args.self.now in
    let made : IfOk c.kept.result (λ next. IsKept w old next) = search rules in
    let failed : IfErr c.kept.result (λ fault. fault ≡ OutOfMemory) = search rules in
    record {
      state = λ h is. subst (λ (change : Change). IfOk c.kept.result (λ next. IsState (h ++ change ∷ []) next)) (sym c.in-SetWeights.is) (ok_then (λ next. IsKept w old next) (λ next. IsState (h ++ SetWeights w ∷ []) next) c.kept.result made (λ next p. add_set h w old next is p));
      lawful = λ h is. subst (λ (change : Change). IfOk c.kept.result (λ next. (fault : ChangeFault) → RefusesFor h change fault → ⊥)) (sym c.in-SetWeights.is) (ok_then (λ next. IsKept w old next) (λ next. (fault : ChangeFault) → RefusesFor h (SetWeights w) fault → ⊥) c.kept.result made (λ next p fault r. r));
      refused = λ h is. err_then (λ fault. fault ≡ OutOfMemory) (λ fault. (fault ≡ OutOfMemory) ⊎ RefusesFor h c.args.change.now fault) c.kept.result failed (λ fault e. inl e);
    }

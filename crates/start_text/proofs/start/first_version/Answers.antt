use Rattle.std.proofs.Common.{◌≡◌, ◌⊎◌, ap, Err, sym, subst, [], ◌∷◌}
use Rattle.decl_index.specs.Refusals.{Refuses}
use Rattle.decl_index.specs.declared.change.Change.{Change}
use Rattle.decl_index.specs.declared.change.ChangeFault.{ChangeFault}
use Rattle.version_board.specs.Versions.{IsVersion}
use Rattle.start_text.specs.Faults.{IsOutside}
use Rattle.start_text.specs.declared.fault.StartFault.{StartFault}
use Rattle.start_text.specs.declared.fault.StartFault.TheVariants.{Refused}
use Rattle.start_text.proofs.Loads.{change-inside}
use Rattle.start_text.proofs.StartLaws.{refused-of}
use Rattle.start_text.proofs.start.first_version.Goals as goal

pub returns-in-Ok-clause-version : goal.returns-in-Ok-clause-version
returns-in-Ok-clause-version c = subst (λ (it : Change). IsVersion (it ∷ []) c.in-Ok.version) c.publication-change.ensures (c.in-Ok.ensures.version [] c.in_ok-empty.ensures.version)

pub returns-in-Ok-clause-lawful : goal.returns-in-Ok-clause-lawful
returns-in-Ok-clause-lawful c = subst (λ (it : Change). (why : ChangeFault) → Refuses [] it why → ⊥) c.publication-change.ensures (c.in-Ok.ensures.lawful [] c.in_ok-empty.ensures.version)

pub returns-clause-refused : goal.returns-clause-refused
returns-clause-refused c =
    let P = λ (it : Change) (f : StartFault). IsOutside f ⊎ ((why : ChangeFault) × (f ≡ Refused why) × Refuses [] it why) in
    let h = refused-of c.publication-change.result c.in-Err.fault (c.in-Err.ensures.refused [] c.in_ok-empty.ensures.version) in
    subst (λ (it : Change). P it c.from.result) c.publication-change.ensures (subst (λ (f : StartFault). P c.publication-change.result f) (sym c.from.ensures) h)

pub returns-clause-inside : goal.returns-clause-inside
returns-clause-inside c = λ e. change-inside c.in-Err.fault _ (ap Err c.from.ensures) e

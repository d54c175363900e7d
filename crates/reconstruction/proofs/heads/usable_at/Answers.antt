use Rattle.std.proofs.Common.{List, ℕ, subst, sym, get_or}
use Rattle.std.specs.List.Sorted.{IsNonDecreasingBy}
use Rattle.reconstruction.specs.Usable.{IsWithin}
use Rattle.reconstruction.proofs.heads.usable_at.Goals as goal

pub within-requires : goal.within-requires
within-requires c =
    let t = c.args.tables.now in
    record { rising = subst (λ (l : List ℕ). IsNonDecreasingBy (λ m. get_or l m 0) c.row.result.now) (sym c.as_slice.ensures) (subst (λ (l : List ℕ). IsNonDecreasingBy (λ m. get_or t.floors m 0) l) (sym c.row.ensures.value) (c.requires.usable c.args.state).rising) }

pub returns : goal.returns
returns c =
    let t = c.args.tables.now in
    record { within = subst (λ (l : List ℕ). IsWithin t.floors c.args.room l c.within.result.now) c.row.ensures.value (subst (λ (l : List ℕ). IsWithin l c.args.room c.row.result.now c.within.result.now) c.as_slice.ensures c.within.ensures.within) }

use Rattle.std.proofs.Common.{rules, ◌≡◌, ◌<◌, ℕ, true, List, length, slice_get, Some, Option, sym, subst}
use Rattle.std.specs.Prelude.{IfSome}
use Rattle.checker.specs.declared.floor.Floor.{Floor}
use Rattle.checker.specs.Floors.{are_apart, IsFloor}
use Rattle.checker.proofs.Aparts.{whole}
use Rattle.checker.proofs.check.check_floors.Goals as goal

pub returns-clause-hold : goal.returns-clause-hold
returns-clause-hold c =
    let fs = c.args.floors.now in
    let apart : are_apart fs ≡ true = subst (λ (o : Option (List Floor)). IfSome o (λ _. are_apart fs ≡ true)) c.in-Some.is c.in_ok-table.ensures.apart in
    let same : c.in-Some.table ≡ fs = subst (λ (o : Option (List Floor)). IfSome o (λ t. t ≡ fs)) c.in-Some.is c.in_ok-table.ensures.same in
    let some : 0 < length fs = search rules in
    let P : List Floor → Type 0 = λ t. (k : ℕ) (f : Floor) → slice_get t k ≡ Some f → IsFloor c.args.env.now t f in
    whole c.args.env.now fs c.index-floors-0.result some c.index-floors-0.is (c.is_first.ensures.yes c.if-not-is_first.false) (sym apart) (subst P same (c.in_ok-each_holds.ensures.yes c.if-not-branch.false))

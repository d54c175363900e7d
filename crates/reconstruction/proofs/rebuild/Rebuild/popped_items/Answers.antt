use Rattle.std.proofs.Common.{◌≡◌, ◌⊎◌, ℕ, ◌+◌, ◌≤◌, List, length, max, sym, subst, arith}
use Rattle.terms.specs.Code.{prefix_code}
use Rattle.terms.specs.Count.{Stands, total}
use Rattle.terms.specs.Expr.{Expr}
use Rattle.terms.specs.Place.{IsInhabitant, total_of}
use Rattle.reconstruction.specs.Rebuilding.{Rebuilding, AreGiven}
use Rattle.reconstruction.proofs.Tallies.{tally_few, tally_many}
use Rattle.reconstruction.proofs.rebuild.Rebuild.popped_items.Goals as goal

pub returns-clause-few : goal.returns-clause-few
returns-clause-few c = λ es all.
    let t = c.self.inside.tables in
    let P : Rebuilding → Type 0 = λ v. (es : List Expr) → ((e : Expr) → IsInhabitant v.progress.parts e → total_of v.progress.parts e ≤ v.reached → Stands e es) → c.pops.result ≤ 1 + total (λ e. length (prefix_code e) + 1) es in
    subst P c.self.view_is (λ es all.
    let few = tally_few t c.self.inside.arena c.self.inside.level c.self.inside.agenda.held c.self.inside.agenda.queue c.self.inside.agenda.pops c.self.invariant.tally c.self.invariant.on.within es all in
    omega (arith, few, c.pops.ensures.count)) es all

abbrev many_of : List Expr → ℕ → Type 0
many_of es n = (length es ≤ n) ⊎ (n ≡ 18446744073709551615)

pub returns-clause-many : goal.returns-clause-many
returns-clause-many c = λ es given.
    let t = c.self.inside.tables in
    let P : Rebuilding → Type 0 = λ v. (es : List Expr) → AreGiven v.progress es → (length es ≤ c.pops.result) ⊎ (c.pops.result ≡ 18446744073709551615) in
    subst P c.self.view_is (λ es given.
    subst (many_of es) (sym c.pops.ensures.count) (tally_many t c.self.inside.arena c.self.inside.from (max c.self.inside.from c.self.inside.level) c.self.inside.level c.self.inside.agenda.held c.self.inside.agenda.queue c.self.inside.found.items c.self.inside.agenda.pops c.self.invariant.tally c.self.invariant.at (omega arith) es given)) es given

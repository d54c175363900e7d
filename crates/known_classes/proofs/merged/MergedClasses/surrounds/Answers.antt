use Rattle.std.proofs.Common.{◌≡◌, ◌∙◌, subst, sym, arith, drop, List, true, false}
use Rattle.known_classes.specs.declared.summary.ClassSummary.{ClassSummary}
use Rattle.known_classes.specs.Nested.{surrounds}
use Rattle.known_classes.specs.NameTables.{AreTablesBeside, table_of}
use Rattle.known_classes.proofs.Beside.{behind_surrounds, joined_surrounds}
use Rattle.known_classes.proofs.merged.MergedClasses.surrounds.Goals as goal

pub returns-then-surrounds : goal.returns-then-surrounds
returns-then-surrounds g c =
    let base = g.C.Classes.listed c.self.inside.base.now in
    let known = c.args.self.now in
    let h : AreTablesBeside base known (table_of c.self.inside.names) = subst (λ (k : List ClassSummary). AreTablesBeside base k (table_of c.self.inside.names)) c.self.view_is c.self.invariant in
    let own : surrounds (drop c.self.inside.names.from known) c.args.name.now ≡ true = sym (h.tables.members.outers c.args.name.now) ∙ sym c.surrounds.ensures ∙ c.if-surrounds.true in
    sym (behind_surrounds known c.self.inside.names.from c.args.name.now own)

pub returns : goal.returns
returns g c =
    let base = g.C.Classes.listed c.self.inside.base.now in
    let known = c.args.self.now in
    let h : AreTablesBeside base known (table_of c.self.inside.names) = subst (λ (k : List ClassSummary). AreTablesBeside base k (table_of c.self.inside.names)) c.self.view_is c.self.invariant in
    let b = h.behind (λ z. let e = c.from.ensures in let n = c.if-from-eq0.false in omega (arith, z, e, n)) in
    let own : surrounds (drop c.self.inside.names.from known) c.args.name.now ≡ false = sym (h.tables.members.outers c.args.name.now) ∙ sym c.surrounds.ensures ∙ c.if-surrounds.false in
    c.surrounds-2.ensures ∙ joined_surrounds base known c.self.inside.names.from c.args.name.now b.0 b.1 own

use Rattle.std.proofs.Common.{subst, sym, arith, drop, List}
use Rattle.known_classes.specs.declared.summary.ClassSummary.{ClassSummary}
use Rattle.known_classes.specs.Known.{class_by_canonical, IsPlaceOf}
use Rattle.known_classes.specs.Nested.{IsLesserOf}
use Rattle.known_classes.specs.NameTables.{AreTablesBeside, table_of}
use Rattle.known_classes.proofs.Beside.{joined_canonical}
use Rattle.known_classes.proofs.merged.MergedClasses.by_canonical.Goals as goal

pub returns : goal.returns
returns g c =
    let base = g.C.Classes.listed c.self.inside.base.now in
    let known = c.args.self.now in
    let h : AreTablesBeside base known (table_of c.self.inside.names) = subst (λ (k : List ClassSummary). AreTablesBeside base k (table_of c.self.inside.names)) c.self.view_is c.self.invariant in
    let b = h.behind (λ z. let e = c.from.ensures in let n = c.if-from-eq0.false in omega (arith, z, e, n)) in
    let own : IsPlaceOf known (class_by_canonical known (drop c.self.inside.names.from known) c.args.dotted.now) c.place-own.result = subst (IsPlaceOf known (class_by_canonical known (drop c.self.inside.names.from known) c.args.dotted.now)) (sym c.place-own.ensures) (h.tables.canonical.each c.args.dotted.now) in
    let less : IsLesserOf known c.place-own.result c.by_canonical.result c.lesser_of.result = subst (λ (k : List ClassSummary). IsLesserOf k c.place-own.result c.by_canonical.result c.lesser_of.result) c.self.view_is c.lesser_of.ensures in
    joined_canonical base known c.self.inside.names.from c.args.dotted.now c.place-own.result c.by_canonical.result c.lesser_of.result b.0 b.1 h.tables.once own c.by_canonical.ensures less

use Rattle.std.proofs.Common.{subst, sym, arith, drop, List}
use Rattle.known_classes.specs.declared.summary.ClassSummary.{ClassSummary}
use Rattle.known_classes.specs.Known.{IsPlaceOf}
use Rattle.known_classes.specs.Nested.{nested_class, IsLesserOf}
use Rattle.known_classes.specs.NameTables.{AreTablesBeside, table_of}
use Rattle.known_classes.proofs.Beside.{joined_nested}
use Rattle.known_classes.proofs.merged.MergedClasses.nested.Goals as goal

pub returns : goal.returns
returns g c =
    let base = g.C.Classes.listed c.self.inside.base.now in
    let known = c.args.self.now in
    let h : AreTablesBeside base known (table_of c.self.inside.names) = subst (λ (k : List ClassSummary). AreTablesBeside base k (table_of c.self.inside.names)) c.self.view_is c.self.invariant in
    let b = h.behind (λ z. let e = c.from.ensures in let n = c.if-from-eq0.false in omega (arith, z, e, n)) in
    let own : IsPlaceOf known (nested_class c.args.outer.now c.args.simple.now (drop c.self.inside.names.from known)) c.nested-own.result = subst (IsPlaceOf known (nested_class c.args.outer.now c.args.simple.now (drop c.self.inside.names.from known))) (sym c.nested-own.ensures) (h.tables.members.nested c.args.outer.now c.args.simple.now) in
    let less : IsLesserOf known c.nested-own.result c.nested.result c.lesser_of.result = subst (λ (k : List ClassSummary). IsLesserOf k c.nested-own.result c.nested.result c.lesser_of.result) c.self.view_is c.lesser_of.ensures in
    joined_nested base known c.self.inside.names.from c.args.outer.now c.args.simple.now c.nested-own.result c.nested.result c.lesser_of.result b.0 b.1 h.tables.once own c.nested.ensures less

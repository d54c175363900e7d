use Rattle.std.proofs.Common.{◌≡◌, subst, arith}
use Rattle.known_classes.specs.NameTables.{Extends}
use Rattle.known_classes.proofs.Beside.{base_name}
use Rattle.known_classes.proofs.merged.MergedClasses.canonical_name.Goals as goal

pub returns-then-place-from : goal.returns-then-place-from
returns-then-place-from g c =
    let base = g.C.Classes.listed c.self.inside.base.now in
    let from : c.from-from.result ≡ c.self.inside.names.from = c.from-from.ensures in
    let b = c.self.invariant.behind (λ z. omega (arith, z, from, c.if-place-from.true)) in
    let h : Extends base c.args.self.now = subst (Extends base) c.self.view_is b.1 in
    base_name base c.args.self.now c.args.place c.canonical_name.result.now h (let e = b.0 in omega (arith, e, from, c.if-place-from.true)) c.canonical_name.ensures

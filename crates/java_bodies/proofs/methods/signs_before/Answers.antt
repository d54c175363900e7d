use Rattle.std.proofs.Common.{◌≡◌, ◌∙◌, count_by, nat_lt, rules}
use Rattle.java_bodies.proofs.Loops.{count_seen}
use Rattle.java_bodies.proofs.methods.signs_before.Goals as goal

pub returns : goal.returns
returns c =
    let e : c.count.result ≡ count_by (λ l. nat_lt l.number c.args.number) c.args.lexemes.now = search rules in
    e ∙ count_seen c.args.number c.args.lexemes.now

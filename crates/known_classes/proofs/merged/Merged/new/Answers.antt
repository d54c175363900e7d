use Rattle.std.proofs.Common.{rules, sym, subst}
use Rattle.known_classes.specs.Merging.{KeepNames}
use Rattle.known_classes.specs.NameTables.{Extends}
use Rattle.known_classes.proofs.Beside.{extends}
use Rattle.known_classes.proofs.merged.Merged.new.Goals as goal

pub names_of-requires : goal.names_of-requires
names_of-requires g c = λ t.
    let base = g.C.Classes.listed c.args.base.now in
    let keep : KeepNames base c.args.extra = search rules in
    subst (Extends base) (sym c.in_ok-parts.ensures.merged) (extends base c.args.extra c.in_ok-parts.ensures.once keep)

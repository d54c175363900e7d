use Rattle.std.proofs.Common.{rules, ◌≡◌, ◌∷◌, sym, subst}
use Rattle.std.specs.Prelude.{codes}
use Rattle.command_line.specs.Words.{IsFirstWrong}
use Rattle.command_line.specs.declared.scan.Next.TheVariants as next
use Rattle.command_line.proofs.Commands.{ends-naming, ends-numbering}
use Rattle.command_line.proofs.scan.Scan.end.Goals as goal

pub returns-in-Name : goal.returns-in-Name
returns-in-Name c = λ words pairs s.
    let is : c.args.self.now.next ≡ next.Name = search rules in
    subst (IsFirstWrong (codes "serve" ∷ words)) (sym c.fault.ensures) (ends-naming words c.args.self.now pairs is s)

pub returns-in-Number : goal.returns-in-Number
returns-in-Number c = λ words pairs s.
    let is : c.args.self.now.next ≡ next.Number = search rules in
    subst (IsFirstWrong (codes "serve" ∷ words)) (sym c.fault-in-Number.ensures) (ends-numbering words c.args.self.now pairs is s)

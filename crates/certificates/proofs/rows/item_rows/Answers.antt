use Rattle.std.proofs.Common.{◌<◌, ◌^◌, sym, ap, subst, arith}
use Rattle.terms.specs.View.{expr}
use Rattle.terms.specs.Faults.{IsValid}
use Rattle.terms.specs.declared.parts.Parts.{Parts}
use Rattle.terms.proofs.Valid.{valid-limit}
use Rattle.certificates.specs.Readable.{IsReadable}
use Rattle.certificates.proofs.Parting.{whole-readable}
use Rattle.certificates.proofs.rows.item_rows.Goals as goal

pub push_rows-requires-clause-valid : goal.push_rows-requires-clause-valid
push_rows-requires-clause-valid c = subst IsValid c.parts-parts.ensures.value c.parts-parts.ensures.valid

pub push_rows-requires-clause-part : goal.push_rows-requires-clause-part
push_rows-requires-clause-part c =
    let valid = valid-limit c.parts-parts.result.now c.parts-parts.ensures.valid in
    let low : c.args.env.now.limit < 2 ^ 31 = omega (arith, valid.1, ap (λ (g : Parts). g.limit) c.parts-parts.ensures.value) in
    subst (λ r. IsReadable c.args.env.now r (expr c.args.term.now)) (sym c.empty.ensures.rows) (whole-readable c.args.env.now (expr c.args.term.now) low c.requires.inhabitant)

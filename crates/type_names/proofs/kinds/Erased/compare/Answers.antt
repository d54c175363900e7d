use Rattle.std.proofs.Common.{◌≡◌, ◌∙◌, sym}
use Rattle.std.specs.Ordering.{nat_cmp}
use Rattle.std.specs.Cmp.Lexicographic.{slice_cmp}
use Rattle.type_names.specs.Descriptors.{field}
use Rattle.type_names.proofs.OrderLaws.{field_cmp, tied}
use Rattle.type_names.proofs.kinds.Erased.compare.Goals as goal

pub returns-clause-is : goal.returns-clause-is
returns-clause-is c =
    let kind = c.args.self.now in let other = c.args.other.now in
    rw (c.then.ensures, c.cmp.ensures, c.compare_bases.ensures) (field_cmp kind.dims other.dims kind.base other.base)

pub returns-clause-ties : goal.returns-clause-ties
returns-clause-ties c = λ e.
    let kind = c.args.self.now in let other = c.args.other.now in
    let is : c.then.result ≡ slice_cmp nat_cmp (field kind) (field other) = rw (c.then.ensures, c.cmp.ensures, c.compare_bases.ensures) (field_cmp kind.dims other.dims kind.base other.base) in
    tied kind other (sym is ∙ e)

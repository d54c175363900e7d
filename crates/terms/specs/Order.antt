-- The order of the list: lesser total first, then lesser text by bytes, then lesser prefix code.
use Rattle.std.specs.Prelude.{◌≡◌}
use Rattle.std.specs.declared.cmp.Ordering.{Ordering}
use Rattle.std.specs.declared.cmp.Ordering.TheVariants.{Less}
use Rattle.std.specs.Ordering.{nat_cmp, ordering_then}
use Rattle.std.specs.Cmp.Lexicographic.{slice_cmp}
use Rattle.terms.specs.Expr.{Expr}
use Rattle.terms.specs.Place.{total_of}
use Rattle.terms.specs.Text.{text_of}
use Rattle.terms.specs.Code.{prefix_code}
use Rattle.terms.specs.declared.parts.Parts.{Parts}

-- within one total: by text, then by code
abbrev pub text_cmp : Parts → Expr → Expr → Ordering
text_cmp g e f = ordering_then (slice_cmp nat_cmp (text_of g e) (text_of g f)) (slice_cmp nat_cmp (prefix_code e) (prefix_code f))

-- by total, then by text, then by code
abbrev pub list_cmp : Parts → Expr → Expr → Ordering
list_cmp g e f = ordering_then (nat_cmp (total_of g e) (total_of g f)) (text_cmp g e f)

-- e comes before f in the list
abbrev pub ComesBefore : Parts → Expr → Expr → Type 0
ComesBefore g e f = list_cmp g e f ≡ Less

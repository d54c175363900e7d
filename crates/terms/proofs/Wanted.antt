-- A closed term is an inhabitant where its rating says so.
use Rattle.std.proofs.Common.{◌≡◌, inl, inr, ℕ, ◌+◌, ◌≤◌, Bool, false, ◌&&◌, nat_le, List, [], Option, Some, None, refl, ap, ◌∙◌, arith}
use Rattle.std.proofs.lemmas.Bool.{cases_lt, le-leb, lt-leb}
use Rattle.terms.specs.Expr.{Expr}
use Rattle.terms.specs.Typing.{type_in, is_below, some_below}
use Rattle.terms.specs.Weights.{weight_in, step_in}
use Rattle.terms.specs.Place.{shallow, fits_place, weigh, is_inhabitant}
use Rattle.terms.specs.Faults.{IsValid}
use Rattle.terms.specs.Rating.{capped, with_weight, rated, is_wanted}
use Rattle.terms.specs.declared.parts.Parts.{Parts}
use Rattle.terms.specs.declared.rating.Rating.{Rating}
use Rattle.terms.proofs.Valid.{valid-limit}

-- the cap is above each limit
le-capped : (w s m : ℕ) → m ≤ 10000 → nat_le (capped w + s) m ≡ nat_le (w + s) m
le-capped w s m small = elim (cases_lt m (w + s)) [
  | inl above ↦ rw (lt-leb (w + s) m above, lt-leb (capped w + s) m (omega (arith, above, small))) refl
  | inr within ↦ rw (le-leb (w + s) m within, le-leb (capped w + s) m (omega (arith, within, small))) refl
]

abbrev result_in : Option Rating → ℕ
result_in None = 0
result_in (Some r) = r.result

abbrev weight_of_some : Option Rating → ℕ
weight_of_some None = 0
weight_of_some (Some r) = r.weight

wanted-some : (g : Parts) (t : Option ℕ) (w : ℕ) (sh : Bool) (r : Rating) → g.limit ≤ 10000 → Some r ≡ with_weight t w
    → (is_below g r.result g.goal && sh) && nat_le (r.weight + step_in g (Some r.result) g.goal) g.limit ≡ (some_below g t g.goal && sh) && nat_le (w + step_in g t g.goal) g.limit
wanted-some g None w sh r small is = cc
wanted-some g (Some a) w sh r small is =
    let e : r.result ≡ a = ap result_in is in
    let f : r.weight ≡ capped w = ap weight_of_some is in
    rw (e, f, le-capped w (step_in g (Some a) g.goal) g.limit small) refl

pub wanted-is : (g : Parts) (ctx : List (List ℕ)) (e : Expr) (r : Rating) → ctx ≡ [] → IsValid g → Some r ≡ rated g ctx e → is_wanted g r e ≡ is_inhabitant g e
unfolding rated is_wanted fits_place weigh
wanted-is g ctx e r closed valid is =
    wanted-some g (type_in g [] e) (weight_in g [] e) (shallow g.depth e) r (valid-limit g valid).1 (is ∙ ap (λ c. with_weight (type_in g c e) (weight_in g c e)) closed)

none-is : (g : Parts) (t : Option ℕ) (w : ℕ) (sh within : Bool) → None ≡ with_weight t w → false ≡ (some_below g t g.goal && sh) && within
none-is g None w sh within is = refl
none-is g (Some a) w sh within is = cc

pub wanted-none : (g : Parts) (ctx : List (List ℕ)) (e : Expr) → ctx ≡ [] → None ≡ rated g ctx e → false ≡ is_inhabitant g e
unfolding rated fits_place weigh
wanted-none g ctx e closed is =
    none-is g (type_in g [] e) (weight_in g [] e) (shallow g.depth e) (nat_le (weight_in g [] e + step_in g (type_in g [] e) g.goal) g.limit) (is ∙ ap (λ c. with_weight (type_in g c e) (weight_in g c e)) closed)

-- Numbers that solve the equations of the edges are the least weights.
use Rattle.std.proofs.Common.{◌≡◌, ◌⊎◌, inl, inr, ℕ, ◌+◌, ◌<◌, ◌≤◌, Bool, true, false, List, length, map, get_or, Some, None, refl, sym, ap, subst, ◌∙◌, arith}
use Rattle.std.specs.Prelude.{nat_le, if◌then◌else◌}
use Rattle.std.proofs.lemmas.Bool.{cases_lt, le-leb, leb-true, false≢true}
use Rattle.std.proofs.lemmas.List.{get_or-map, length-map}
use Rattle.std.proofs.lemmas.Option.{slice_get_within}
use Rattle.terms.specs.Expr.{Expr}
use Rattle.terms.specs.Faults.{IsValid}
use Rattle.terms.specs.Place.{Place, fits_place, weigh}
use Rattle.terms.specs.Typing.{most_rows}
use Rattle.terms.specs.declared.parts.Parts.{Parts}
use Rattle.succinct.specs.Compression.{Compression, IsCompression}
use Rattle.patterns.specs.Patterned.{Patterned, ArePatterns}
use Rattle.patterns.specs.States.{left_at}
use Rattle.edges.specs.Edges.{Edge, AreEdges}
use Rattle.least_weights.specs.LeastWeight.{IsLeastWeight, AreLeastWeights, within, place_at}
use Rattle.least_weights.specs.Numbers.{number_at, IsSolution}
use Rattle.least_weights.proofs.Lows.{low, fits-from, weigh-is}
use Rattle.least_weights.proofs.Reached.{Reached, reached}
use Rattle.least_weights.proofs.Sought.{IsAt}

-- a number that no term goes below, and that a term reaches where it is within the limit
least-from : (g : Parts) (limit n : ℕ) (p : Place) → ((e : Expr) → fits_place g p e ≡ true → weigh g p e ≤ limit → n ≤ weigh g p e) → (n ≤ limit → (e : Expr) × (fits_place g p e ≡ true) × (weigh g p e ≤ n)) → IsLeastWeight g limit p (within limit n)
least-from g limit n p below met = go (nat_le n limit) refl
  where
    go : (b : Bool) → nat_le n limit ≡ b → IsLeastWeight g limit p (if b then Some n else None)
    go true is =
        let inside : n ≤ limit = leb-true n limit is in
        let t = met inside in
        let light = t.2 in
        let least = below t.0 t.1 (omega (arith, light, inside)) in
        record { within = inside; term = t.0; fits = t.1; weighs = omega (arith, light, least); least = λ e f. lower e f (cases_lt limit (weigh g p e)) }
      where
        lower : (e : Expr) → fits_place g p e ≡ true → (limit < weigh g p e) ⊎ (weigh g p e ≤ limit) → n ≤ weigh g p e
        lower e f (inl more) = (let inside = leb-true n limit is in omega (arith, more, inside))
        lower e f (inr less) = below e f less
    go false is = λ e f. above e f (cases_lt limit (weigh g p e))
      where
        above : (e : Expr) → fits_place g p e ≡ true → (limit < weigh g p e) ⊎ (weigh g p e ≤ limit) → limit < weigh g p e
        above e f (inl more) = more
        above e f (inr less) = (let low = below e f less in absurd (false≢true (sym is ∙ le-leb n limit (omega (arith, low, less)))))

-- the numbers as weights
pub are-least : (g : Parts) (c : Compression) (d : Patterned) (edges : List Edge) (numbers : List ℕ) (limit count : ℕ) {goal : ℕ} → IsValid g → IsCompression g c → ArePatterns c goal g.depth d → g.depth ≤ most_rows → limit ≡ g.limit → count ≡ length d.states → AreEdges g c d edges → length numbers ≡ count → IsSolution limit edges numbers → AreLeastWeights g d (map (within limit) numbers)
are-least g c d edges numbers limit count valid comp made few_rows same many all long solved = record {
  as_many = length-map numbers (within limit) ∙ long ∙ many;
  each = λ i s is ctx types rows. (
      let at : IsAt d g.depth i ctx (left_at d.space s.set) s.goal = record { state = s; is = is; types = types; left_is = refl; goal = refl; rows = rows } in
      let low_i = slice_get_within d.states i s is in
      let in_range : i < length numbers = omega (arith, low_i, long, many) in
      let solved' : IsSolution g.limit edges numbers = subst (λ l. IsSolution l edges numbers) same solved in
      let shown : get_or (map (within limit) numbers) i None ≡ within limit (get_or numbers i (g.limit + 1)) = shown-at limit numbers i (g.limit + 1) in_range in
      let least : IsLeastWeight g g.limit (place_at d s ctx) (within g.limit (number_at g.limit numbers i)) = least-from g g.limit (number_at g.limit numbers i) (place_at d s ctx) (low g c d edges valid comp made all numbers solved' i ctx (left_at d.space s.set) s.goal at) (λ inside. reached-term ctx (left_at d.space s.set) s.goal (number_at g.limit numbers i) (reached g c d edges valid comp made few_rows all numbers solved' i ctx (left_at d.space s.set) s.goal at inside)) in
      subst (λ o. IsLeastWeight g g.limit (place_at d s ctx) o) (ap (λ l. within l (number_at g.limit numbers i)) (sym same) ∙ sym shown) least);
}
  where
    reached-term : (ctx : List (List ℕ)) (left b w : ℕ) → Reached g ctx left b w → (e : Expr) × (fits_place g (record { ctx = ctx; left = left; wanted = b }) e ≡ true) × (weigh g (record { ctx = ctx; left = left; wanted = b }) e ≤ w)
    reached-term ctx left b w r = (let light = r.light in let is = weigh-is g ctx left b r.term in (r.term, fits-from g ctx left b r.term r.fit, omega (arith, light, is)))

    shown-at : (l : ℕ) (ns : List ℕ) (i top : ℕ) → i < length ns → get_or (map (within l) ns) i None ≡ within l (get_or ns i top)
    shown-at l ns i top h = get_or-map (within l) ns i top None h

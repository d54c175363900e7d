-- Numbers that solve the equations of the rules are the bounds.
use Rattle.std.proofs.Common.{◌≡◌, ◌⊎◌, inl, inr, ℕ, zero, suc, ◌+◌, ◌<◌, ◌≤◌, Bool, true, false, List, [], ◌∷◌, map, get_or, Option, Some, None, refl, sym, ap, subst, ◌∙◌, arith}
use Rattle.std.specs.Prelude.{nat_le, nat_lt, if◌then◌else◌}
use Rattle.std.proofs.lemmas.Bool.{cases_lt, le-leb, leb-true, lt-ltb, ltb-true, false≢true}
use Rattle.terms.specs.Faults.{IsValid}
use Rattle.terms.specs.Place.{weigh}
use Rattle.terms.specs.declared.parts.Parts.{Parts}
use Rattle.terms.proofs.Valid.{valid-depth}
use Rattle.weight_bounds.specs.Relaxed.{Weighs}
use Rattle.weight_bounds.specs.Bounds.{bound_at, IsLeastRelaxed, AreLeastRelaxed, NoneIsDeeper, IsNoLess, AreLow, within, place}
use Rattle.weight_bounds.specs.Numbers.{number_at, IsSupport, IsSolution}
use Rattle.weight_bounds.specs.Rules.{Rule, IsRule, of_variable, of_source}
use Rattle.weight_bounds.proofs.Lows.{low}
use Rattle.weight_bounds.proofs.Reached.{Reached, reached}
use Rattle.weight_bounds.proofs.Relaxing.{relaxed}

-- what a table says
read-bound : (limit : ℕ) (numbers : List ℕ) (i : ℕ) → get_or (map (within limit) numbers) i None ≡ within limit (number_at limit numbers i)
read-bound limit [] i = ap (λ b. if b then Some (limit + 1) else None) (sym (above limit))
  where
    above : (n : ℕ) → nat_le (n + 1) n ≡ false
    above n = go (nat_le (n + 1) n) refl
      where
        go : (b : Bool) → nat_le (n + 1) n ≡ b → b ≡ false
        go false is = refl
        go true is = (let le = leb-true (n + 1) n is in absurd (omega (arith, le)))
read-bound limit (n ∷ numbers) zero = refl
read-bound limit (n ∷ numbers) (suc i) = read-bound limit numbers i

module _ (g : Parts) (valid : IsValid g) (numbers : List ℕ) (solved : IsSolution g g.limit numbers) where
  least-within : (left t : ℕ) → left ≤ g.depth → (b : Bool) → nat_le (number_at g.limit numbers (place t left)) g.limit ≡ b → IsLeastRelaxed g left t (if b then Some (number_at g.limit numbers (place t left)) else None)
  least-within left t deep true is =
      let depth = valid-depth g valid in
      let inside = leb-true (number_at g.limit numbers (place t left)) g.limit is in
      let r : Reached g left t (number_at g.limit numbers (place t left)) = reached g valid numbers solved left t (omega (arith, deep, depth)) inside in
      let light = r.light in
      let heavy = low g numbers solved left t r.weight deep r.weighs (omega (arith, light, inside)) in
      let same : r.weight ≡ number_at g.limit numbers (place t left) = omega (arith, light, heavy) in
      record {
        within = inside;
        reached = subst (λ w. Weighs g left t w) same r.weighs;
        least = λ v weighs. least v weighs (cases_lt g.limit v) inside;
      }
    where
      least : (v : ℕ) → Weighs g left t v → (g.limit < v) ⊎ (v ≤ g.limit) → number_at g.limit numbers (place t left) ≤ g.limit → number_at g.limit numbers (place t left) ≤ v
      least v weighs (inl above) inside = omega (arith, above, inside)
      least v weighs (inr under) inside = low g numbers solved left t v deep weighs under
  least-within left t deep false is = λ v weighs. none v weighs (cases_lt g.limit v)
    where
      none : (v : ℕ) → Weighs g left t v → (g.limit < v) ⊎ (v ≤ g.limit) → g.limit < v
      none v weighs (inl above) = above
      none v weighs (inr under) =
          let heavy = low g numbers solved left t v deep weighs under in
          absurd (false≢true (sym is ∙ le-leb (number_at g.limit numbers (place t left)) g.limit (omega (arith, heavy, under))))

  are-least : AreLeastRelaxed g (map (within g.limit) numbers)
  are-least left t deep =
      let depth = valid-depth g valid in
      let few : nat_lt left 4 ≡ true = lt-ltb left 4 (omega (arith, deep, depth)) in
      let read : bound_at (map (within g.limit) numbers) left t ≡ within g.limit (number_at g.limit numbers (place t left)) = ap (λ b. if b then get_or (map (within g.limit) numbers) (place t left) None else None) few ∙ read-bound g.limit numbers (place t left) in
      subst (λ o. IsLeastRelaxed g left t o) (sym read)
      (least-within left t deep (nat_le (number_at g.limit numbers (place t left)) g.limit) refl)

  no-rule : (left t : ℕ) → g.depth < left → left ≤ 3 → (r : Rule) → IsRule g r → r.at ≡ place t left → ⊥
  no-rule left t deep few r (of_variable l u under bound) same = omega (arith, deep, few, under, same)
  no-rule left t deep few r (of_source l k s under is) same = omega (arith, deep, few, under, same)

  deeper-within : (left t : ℕ) → g.depth < left → left ≤ 3 → (b : Bool) → nat_le (number_at g.limit numbers (place t left)) g.limit ≡ b → (if b then Some (number_at g.limit numbers (place t left)) else None) ≡ None
  deeper-within left t deep few true is =
      let s : IsSupport g g.limit numbers (place t left) = solved.supported (place t left) (leb-true (number_at g.limit numbers (place t left)) g.limit is) in
      absurd (no-rule left t deep few s.rule s.is s.here)
  deeper-within left t deep few false is = refl

  none-deeper : NoneIsDeeper g (map (within g.limit) numbers)
  none-deeper left t deep = go (nat_lt left 4) refl
    where
      go : (b : Bool) → nat_lt left 4 ≡ b → (if b then get_or (map (within g.limit) numbers) (place t left) None else None) ≡ None
      go false is = refl
      go true is = read-bound g.limit numbers (place t left) ∙ deeper-within left t deep (few (ltb-true left 4 is)) (nat_le (number_at g.limit numbers (place t left)) g.limit) refl
        where
          few : left < 4 → left ≤ 3
          few less = omega (arith, less)

  are-low : AreLow g (map (within g.limit) numbers)
  are-low p under e fit =
      let deep = under.deep in
      go (bound_at (map (within g.limit) numbers) p.left p.wanted) (are-least p.left p.wanted (omega (arith, deep)))
    where
      go : (o : Option ℕ) → IsLeastRelaxed g p.left p.wanted o → IsNoLess g.limit o (weigh g p e)
      go None above = above (weigh g p e) (relaxed g valid p under e fit)
      go (Some v) least = least.least (weigh g p e) (relaxed g valid p under e fit)

-- the same for an environment, over what the code calls its parts and its limit
pub least-of : (g h : Parts) (limit : ℕ) (numbers : List ℕ) → IsValid g → g ≡ h → limit ≡ g.limit → IsSolution g limit numbers → AreLeastRelaxed h (map (within limit) numbers)
least-of g h limit numbers valid same is solved =
    subst (λ x. AreLeastRelaxed x (map (within limit) numbers)) same
    (subst (λ l. AreLeastRelaxed g (map (within l) numbers)) (sym is) (are-least g valid numbers (subst (λ l. IsSolution g l numbers) is solved)))

pub low-of : (g h : Parts) (limit : ℕ) (numbers : List ℕ) → IsValid g → g ≡ h → limit ≡ g.limit → IsSolution g limit numbers → AreLow h (map (within limit) numbers)
low-of g h limit numbers valid same is solved =
    subst (λ x. AreLow x (map (within limit) numbers)) same
    (subst (λ l. AreLow g (map (within l) numbers)) (sym is) (are-low g valid numbers (subst (λ l. IsSolution g l numbers) is solved)))

pub deeper-of : (g h : Parts) (limit : ℕ) (numbers : List ℕ) → IsValid g → g ≡ h → limit ≡ g.limit → IsSolution g limit numbers → NoneIsDeeper h (map (within limit) numbers)
deeper-of g h limit numbers valid same is solved =
    subst (λ x. NoneIsDeeper x (map (within limit) numbers)) same
    (subst (λ l. NoneIsDeeper g (map (within l) numbers)) (sym is) (none-deeper g valid numbers (subst (λ l. IsSolution g l numbers) is solved)))

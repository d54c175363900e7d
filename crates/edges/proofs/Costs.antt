-- What a source weighs, by its number.
use Rattle.std.proofs.Common.{◌≡◌, ℕ, zero, suc, ◌-◌, ◌<◌, ◌≤◌, List, [], ◌∷◌, ◌++◌, length, map, slice_get, Option, Some, None, MatchOption, refl, ap, ◌∙◌, arith}
use Rattle.std.proofs.lemmas.List.{length-map}
use Rattle.std.proofs.lemmas.Option.{slice_get_past}
use Rattle.terms.specs.Weights.{coercion_weight}
use Rattle.terms.specs.declared.parts.Parts.{Parts}
use Rattle.edges.specs.Edges.{decl_cost, pair_cost, source_costs}

get-later : {X : Type 0} (xs ys : List X) (n : ℕ) → length xs ≤ n → slice_get (xs ++ ys) n ≡ slice_get ys (n - length xs)
get-later [] ys n low = (let e : n ≡ n - 0 = omega arith in ap (slice_get ys) e)
get-later (x ∷ xs) ys zero low = absurd (omega (arith, low))
get-later (x ∷ xs) ys (suc n) low = get-later xs ys n (omega (arith, low)) ∙ (let e : n - length xs ≡ suc n - suc (length xs) = omega arith in ap (slice_get ys) e)

pairs-cost : (g : Parts) (pairs : List (ℕ × ℕ)) (k : ℕ) → k < length pairs → slice_get (map (pair_cost g) pairs) k ≡ Some (coercion_weight g)
pairs-cost g [] k low = absurd (omega (arith, low))
pairs-cost g (p ∷ pairs) zero low = refl
pairs-cost g (p ∷ pairs) (suc k) low = pairs-cost g pairs k (omega (arith, low))

pub cost-pair : (g : Parts) (n : ℕ) → length g.decls ≤ n → n - length g.decls < length g.pairs → slice_get (source_costs g) n ≡ Some (coercion_weight g)
cost-pair g n past low =
    let l = length-map g.decls (decl_cost g) in
    let e : n - length (map (decl_cost g) g.decls) ≡ n - length g.decls = ap (λ k. n - k) l in
    get-later (map (decl_cost g) g.decls) (map (pair_cost g) g.pairs) n (omega (arith, l, past)) ∙ ap (slice_get (map (pair_cost g) g.pairs)) e ∙ pairs-cost g g.pairs (n - length g.decls) low

pub cost-none : (g : Parts) (n : ℕ) → length g.decls ≤ n → length g.pairs ≤ n - length g.decls → slice_get (source_costs g) n ≡ None
cost-none g n past high =
    let l = length-map g.decls (decl_cost g) in
    let m = length-map g.pairs (pair_cost g) in
    let e : n - length (map (decl_cost g) g.decls) ≡ n - length g.decls = ap (λ k. n - k) l in
    get-later (map (decl_cost g) g.decls) (map (pair_cost g) g.pairs) n (omega (arith, l, past)) ∙ ap (slice_get (map (pair_cost g) g.pairs)) e ∙ slice_get_past (map (pair_cost g) g.pairs) (n - length g.decls) (omega (arith, m, high))

pub match-weaker : {X : Type 0} (o : Option X) (P P' : Type 0) (Q Q' : X → Type 0) → (P → P') → ((x : X) → Q x → Q' x) → MatchOption o P Q → MatchOption o P' Q'
match-weaker None P P' Q Q' none some h = none h
match-weaker (Some x) P P' Q Q' none some h = some x h

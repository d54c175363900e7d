-- Where the edges of each state start and end.
use Rattle.std.proofs.Common.{◌≡◌, ◌⊎◌, inl, inr, ℕ, zero, suc, ◌+◌, ◌<◌, ◌≤◌, List, [], ◌∷◌, ◌++◌, length, get_or, slice_get, Some, refl, sym, ap, subst, ◌∙◌, arith, length-append}
use Rattle.std.proofs.lemmas.Bool.{cases_lt}
use Rattle.std.proofs.lemmas.Option.{slice_get_within}
use Rattle.succinct.specs.Compression.{Compression, IsCompression}
use Rattle.patterns.specs.Patterned.{Patterned, ArePatterns}
use Rattle.terms.specs.declared.parts.Parts.{Parts}
use Rattle.edges.specs.Edges.{Edge, IsRunOf}
use Rattle.edges.specs.Made.{AreRuns, bound_at, edges_at, sources_at, edges_below, starts_below}
use Rattle.edges.proofs.Options.{get-either, there}
use Rattle.edges.proofs.Sound.{at_state, state-each}

get-first : (xs ys : List ℕ) (i : ℕ) → i < length xs → get_or (xs ++ ys) i 0 ≡ get_or xs i 0
get-first [] ys i low = absurd (omega (arith, low))
get-first (x ∷ xs) ys zero low = refl
get-first (x ∷ xs) ys (suc i) low = get-first xs ys i (omega (arith, low))

get-last : (xs : List ℕ) (y i : ℕ) → i ≡ length xs → get_or (xs ++ y ∷ []) i 0 ≡ y
get-last [] y i e = ap (λ k. get_or (y ∷ []) k 0) e
get-last (x ∷ xs) y zero e = absurd (omega (arith, e))
get-last (x ∷ xs) y (suc i) e = get-last xs y i (omega (arith, e))

-- from the first start up to a later one
climbs : (starts : List ℕ) → ((i : ℕ) → i + 1 < length starts → get_or starts i 0 ≤ get_or starts (i + 1) 0) → (i j : ℕ) → i ≤ j → j < length starts → get_or starts i 0 ≤ get_or starts j 0
climbs starts rising i zero low high = (let e : i ≡ 0 = omega (arith, low) in let r : get_or starts i 0 ≡ get_or starts 0 0 = ap (λ k. get_or starts k 0) e in omega (arith, r))
climbs starts rising i (suc j) low high = go (λ before. climbs starts rising i j before (omega (arith, high))) (cases_lt j i)
  where
    plus : j + 1 ≡ suc j
    plus = omega arith

    go : (i ≤ j → get_or starts i 0 ≤ get_or starts j 0) → (j < i) ⊎ (i ≤ j) → get_or starts i 0 ≤ get_or starts (suc j) 0
    go again (inl past) = (let e : i ≡ suc j = omega (arith, past, low) in let r : get_or starts i 0 ≡ get_or starts (suc j) 0 = ap (λ k. get_or starts k 0) e in omega (arith, r))
    go again (inr before) =
        let first = again before in
        let step : get_or starts j 0 ≤ get_or starts (suc j) 0 = subst (λ k. get_or starts j 0 ≤ get_or starts k 0) plus (rising j (omega (arith, high))) in
        omega (arith, first, step)

pub run-at : (starts : List ℕ) (edges : List Edge) (i : ℕ) → AreRuns starts edges → i + 1 < length starts → IsRunOf i edges (get_or starts i 0) (get_or starts (i + 1) 0)
run-at starts edges i runs low = record {
  order = runs.rising i low;
  within = runs.within (i + 1) low;
  inside = λ m e at from to. inside m e (runs.each m e at) from to (cases_lt e.state i) (cases_lt i e.state);
  outside = λ m e at same. (let r = runs.each m e at in (subst (λ k. get_or starts k 0 ≤ m) same r.1, subst (λ k. m < get_or starts (k + 1) 0) same r.2));
}
  where
    inside : (m : ℕ) (e : Edge) → (e.state + 1 < length starts) × (get_or starts e.state 0 ≤ m) × (m < get_or starts (e.state + 1) 0) → get_or starts i 0 ≤ m → m < get_or starts (i + 1) 0 → (e.state < i) ⊎ (i ≤ e.state) → (i < e.state) ⊎ (e.state ≤ i) → e.state ≡ i
    inside m e r from to (inl less) q = (let up = climbs starts runs.rising (e.state + 1) i (omega (arith, less)) (omega (arith, low)) in let high = r.2 in absurd (omega (arith, up, high, from)))
    inside m e r from to (inr p) (inl more) = (let up = climbs starts runs.rising (i + 1) e.state (omega (arith, more)) (let l = r.0 in omega (arith, l)) in let l = r.1 in absurd (omega (arith, up, l, to)))
    inside m e r from to (inr p) (inr q) = omega (arith, p, q)

pub no-run : (starts : List ℕ) (edges : List Edge) (i : ℕ) → AreRuns starts edges → length starts ≤ i + 1 → IsRunOf i edges 0 0
no-run starts edges i runs past = record {
  order = omega arith;
  within = omega arith;
  inside = λ m e at from to. absurd (omega (arith, to));
  outside = λ m e at same. (let l = (runs.each m e at).0 in absurd (omega (arith, l, past, same)));
}

-- one state more
pub edges_below-none : (g : Parts) (c : Compression) (d : Patterned) → edges_below g c d 0 ≡ []
unfolding edges_below
edges_below-none g c d = refl

pub starts_below-none : (g : Parts) (c : Compression) (d : Patterned) → starts_below g c d 0 ≡ 0 ∷ []
unfolding starts_below
starts_below-none g c d = refl

pub edges_below-more : (g : Parts) (c : Compression) (d : Patterned) (i : ℕ) → edges_below g c d (i + 1) ≡ edges_below g c d i ++ (bound_at g d i ++ edges_at g c d i (sources_at c d i))
unfolding edges_below
edges_below-more g c d i = (let e : i + 1 ≡ suc i = omega arith in ap (edges_below g c d) e)

pub starts_below-more : (g : Parts) (c : Compression) (d : Patterned) (i : ℕ) → starts_below g c d (i + 1) ≡ starts_below g c d i ++ length (edges_below g c d (i + 1)) ∷ []
unfolding starts_below
starts_below-more g c d i = (let e : i + 1 ≡ suc i = omega arith in ap (starts_below g c d) e ∙ ap (λ k. starts_below g c d i ++ length (edges_below g c d k) ∷ []) (sym e))

module _ (g : Parts) (c : Compression) (d : Patterned) where
  length-starts : (n : ℕ) → length (starts_below g c d n) ≡ n + 1
  unfolding starts_below
  length-starts zero = refl
  length-starts (suc n) = (let l = length-append (starts_below g c d n) (length (edges_below g c d (suc n)) ∷ []) in let r = length-starts n in omega (arith, l, r))

  start-is : (n i : ℕ) → i ≤ n → get_or (starts_below g c d n) i 0 ≡ length (edges_below g c d i)
  unfolding starts_below edges_below
  start-is zero i low = (let e : i ≡ 0 = omega (arith, low) in ap (λ k. get_or (0 ∷ []) k 0) e ∙ sym (ap (λ k. length (edges_below g c d k)) e))
  start-is (suc n) i low = go (start-is n i) (cases_lt n i)
    where
      go : (i ≤ n → get_or (starts_below g c d n) i 0 ≡ length (edges_below g c d i)) → (n < i) ⊎ (i ≤ n) → get_or (starts_below g c d n ++ length (edges_below g c d (suc n)) ∷ []) i 0 ≡ length (edges_below g c d i)
      go again (inl last) =
          let e : i ≡ suc n = omega (arith, last, low) in
          let l = length-starts n in
          get-last (starts_below g c d n) (length (edges_below g c d (suc n))) i (omega (arith, e, l)) ∙ ap (λ k. length (edges_below g c d k)) (sym e)
      go again (inr before) = (let l = length-starts n in get-first (starts_below g c d n) (length (edges_below g c d (suc n)) ∷ []) i (omega (arith, before, l)) ∙ again before)

module _ (g : Parts) (c : Compression) (d : Patterned) (comp : IsCompression g c) {goal depth : ℕ} (made : ArePatterns c goal depth d) where
  longer : (n : ℕ) → length (edges_below g c d (suc n)) ≡ length (edges_below g c d n) + length (at_state g c d comp made n)
  unfolding edges_below
  longer n = length-append (edges_below g c d n) (at_state g c d comp made n)

  grows : (i n : ℕ) → i ≤ n → length (edges_below g c d i) ≤ length (edges_below g c d n)
  grows i zero low = (let e : i ≡ 0 = omega (arith, low) in let r : length (edges_below g c d i) ≡ length (edges_below g c d 0) = ap (λ k. length (edges_below g c d k)) e in omega (arith, r))
  grows i (suc n) low = go (grows i n) (cases_lt n i)
    where
      go : (i ≤ n → length (edges_below g c d i) ≤ length (edges_below g c d n)) → (n < i) ⊎ (i ≤ n) → length (edges_below g c d i) ≤ length (edges_below g c d (suc n))
      go again (inl last) = (let e : i ≡ suc n = omega (arith, last, low) in let r : length (edges_below g c d i) ≡ length (edges_below g c d (suc n)) = ap (λ k. length (edges_below g c d k)) e in omega (arith, r))
      go again (inr before) = (let l = longer n in let r = again before in omega (arith, l, r))

  runs-each : (n : ℕ) → n ≤ length d.states → (m : ℕ) (e : Edge) → slice_get (edges_below g c d n) m ≡ Some e → (e.state < n) × (length (edges_below g c d e.state) ≤ m) × (m < length (edges_below g c d (e.state + 1)))
  unfolding edges_below
  runs-each zero low m e h = cc
  runs-each (suc n) low m e h = go (runs-each n (omega (arith, low)) m e) (get-either (edges_below g c d n) (at_state g c d comp made n) m e h)
    where
      go : (slice_get (edges_below g c d n) m ≡ Some e → (e.state < n) × (length (edges_below g c d e.state) ≤ m) × (m < length (edges_below g c d (e.state + 1)))) → (slice_get (edges_below g c d n) m ≡ Some e) ⊎ ((k : ℕ) × (m ≡ length (edges_below g c d n) + k) × (slice_get (at_state g c d comp made n) k ≡ Some e)) → (e.state < suc n) × (length (edges_below g c d e.state) ≤ m) × (m < length (edges_below g c d (e.state + 1)))
      go again (inl first) = (let r = again first in let l = r.0 in (omega (arith, l), r.1, r.2))
      go again (inr second) =
          let s = there d.states n (omega (arith, low)) in
          let is = (state-each g c d comp made n s.0 s.1 second.0 e second.2).0 in
          let k = slice_get_within (at_state g c d comp made n) second.0 e second.2 in
          let at = second.1 in
          let l = longer n in
          let from : length (edges_below g c d e.state) ≡ length (edges_below g c d n) = ap (λ j. length (edges_below g c d j)) is in
          let next : e.state + 1 ≡ suc n = omega (arith, is) in
          let to : length (edges_below g c d (e.state + 1)) ≡ length (edges_below g c d (suc n)) = ap (λ j. length (edges_below g c d j)) next in
          (omega (arith, is), omega (arith, from, at), omega (arith, to, l, k, at))

  runs-below : (n : ℕ) → n ≡ length d.states → AreRuns (starts_below g c d n) (edges_below g c d n)
  runs-below n all = record {
    rising = λ i low. rising i (omega (arith, low, length-starts g c d n));
    within = λ i low. within i (omega (arith, low, length-starts g c d n));
    each = λ m e h. each m e (runs-each n (omega (arith, all)) m e h);
  }
    where
      rising : (i : ℕ) → i + 1 ≤ n → get_or (starts_below g c d n) i 0 ≤ get_or (starts_below g c d n) (i + 1) 0
      rising i low =
          let a = start-is g c d n i (omega (arith, low)) in
          let b = start-is g c d n (i + 1) low in
          let r = grows i (i + 1) (omega arith) in
          omega (arith, a, b, r)

      within : (i : ℕ) → i ≤ n → get_or (starts_below g c d n) i 0 ≤ length (edges_below g c d n)
      within i low = (let a = start-is g c d n i low in let r = grows i n low in omega (arith, a, r))

      each : (m : ℕ) (e : Edge) → (e.state < n) × (length (edges_below g c d e.state) ≤ m) × (m < length (edges_below g c d (e.state + 1))) → (e.state + 1 < length (starts_below g c d n)) × (get_or (starts_below g c d n) e.state 0 ≤ m) × (m < get_or (starts_below g c d n) (e.state + 1) 0)
      each m e r =
          let l = r.0 in
          let low = r.1 in
          let high = r.2 in
          let a = start-is g c d n e.state (omega (arith, l)) in
          let b = start-is g c d n (e.state + 1) (omega (arith, l)) in
          (omega (arith, l, length-starts g c d n), omega (arith, a, low), omega (arith, b, high))

  pub runs-are : (edges : List Edge) (starts : List ℕ) (n : ℕ) → edges ≡ edges_below g c d n → starts ≡ starts_below g c d n → n ≡ length d.states → AreRuns starts edges
  runs-are edges starts n e s all = subst (λ es. AreRuns starts es) (sym e) (subst (λ ss. AreRuns ss (edges_below g c d n)) (sym s) (runs-below n all))

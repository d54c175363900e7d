-- Each step keeps the rule of the tasks.
use Rattle.std.proofs.Common.{◌≡◌, ◌≢◌, ℕ, zero, suc, ◌+◌, ◌<◌, ◌≤◌, List, [], ◌∷◌, ◌++◌, set, map, sym, refl, ap, ◌∙◌, subst, ⊎_elim, arith}
use Rattle.std.proofs.lemmas.List.{map-append}
use mathlib.Core.Option.{some, some-ne-none, some-injective}
use lib.ListN.{get_elem?}
use Rattle.crossbeam_queue.specs.Fifo.{Pushes, Pops, Forks, Merges, Learns}
use Rattle.crossbeam_queue.proofs.Lists.{at_set, at_snoc}
use Rattle.prefetch.specs.declared.known.Known.{Known}
use Rattle.prefetch.specs.Rule.{total, whole, one_part, no_part, less_one, joined, with_sent, with_got, Kept, Accounts}
use Rattle.prefetch.specs.Tasks.{times}

pub times-append : (p : ℕ × ℕ) (xs ys : List (ℕ × ℕ)) → times p (xs ++ ys) ≡ times p xs + times p ys
times-append p [] ys = omega arith
times-append p (x ∷ xs) ys = let rest = times-append p xs ys in omega arith

-- a total after one view has changed
total_set : (f : Known → ℕ) (vs : List Known) (i : ℕ) (v w : Known) → get_elem? vs i ≡ some v → total f (set vs i w) + f v ≡ total f vs + f w
total_set f [] i v w at = absurd (some-ne-none v (sym at))
total_set f (x ∷ xs) zero v w at = let same : f x ≡ f v = ap f (some-injective x v at) in omega arith
total_set f (x ∷ xs) (suc i) v w at = let rest = total_set f xs i v w at in omega arith

total_snoc : (f : Known → ℕ) (vs : List Known) (w : Known) → total f (vs ++ w ∷ []) ≡ total f vs + f w
total_snoc f [] w = omega arith
total_snoc f (x ∷ xs) w = let rest = total_snoc f xs w in omega arith

total_has : (f : Known → ℕ) (vs : List Known) (i : ℕ) (v : Known) → get_elem? vs i ≡ some v → f v ≤ total f vs
total_has f [] i v at = absurd (some-ne-none v (sym at))
total_has f (x ∷ xs) zero v at = let same : f x ≡ f v = ap f (some-injective x v at) in omega arith
total_has f (x ∷ xs) (suc i) v at = let rest = total_has f xs i v at in omega arith

abbrev parts_of : Known → ℕ
parts_of v = v.parts

-- where no part is left, nothing is known
total_none : (f : Known → ℕ) (vs : List Known) → total parts_of vs ≡ 0 → ((j : ℕ) (u : Known) → get_elem? vs j ≡ some u → u.parts ≡ 0 → f u ≡ 0) → total f vs ≡ 0
total_none f [] none zeros = refl
total_none f (x ∷ xs) none zeros =
    let here : f x ≡ 0 = zeros 0 x refl (omega arith) in
    let rest = total_none f xs (omega arith) (λ j u e p. zeros (suc j) u e p) in omega arith

-- a view with all parts is all that is known
total_only : (f : Known → ℕ) (vs : List Known) (i : ℕ) (v : Known) → get_elem? vs i ≡ some v → total parts_of vs ≡ v.parts → ((j : ℕ) (u : Known) → get_elem? vs j ≡ some u → u.parts ≡ 0 → f u ≡ 0) → total f vs ≡ f v
total_only f [] i v at all zeros = absurd (some-ne-none v (sym at))
total_only f (x ∷ xs) zero v at all zeros =
    let same : f x ≡ f v = ap f (some-injective x v at) in
    let same_parts : x.parts ≡ v.parts = ap parts_of (some-injective x v at) in
    let rest = total_none f xs (omega arith) (λ j u e p. zeros (suc j) u e p) in omega arith
total_only f (x ∷ xs) (suc i) v at all zeros =
    let has = total_has parts_of xs i v at in
    let here : f x ≡ 0 = zeros 0 x refl (omega arith) in
    let rest = total_only f xs i v at (omega arith) (λ j u e p. zeros (suc j) u e p) in omega arith

none_set : (vs : List Known) (i : ℕ) (w : Known) → (w.parts ≡ 0 → (w.sent ≡ []) × (w.got ≡ []))
    → ((j : ℕ) (u : Known) → get_elem? vs j ≡ some u → u.parts ≡ 0 → (u.sent ≡ []) × (u.got ≡ []))
    → (j : ℕ) (u : Known) → get_elem? (set vs i w) j ≡ some u → u.parts ≡ 0 → (u.sent ≡ []) × (u.got ≡ [])
none_set vs i w mine old j u e p = ⊎_elim
    (λ (t : (j ≡ i) × (w ≡ u)). subst (λ (z : Known). z.parts ≡ 0 → (z.sent ≡ []) × (z.got ≡ [])) t.1 mine p)
    (λ (t : (j ≢ i) × (get_elem? vs j ≡ some u)). old j u t.1 p)
    (at_set vs i j w u e)

pub begins : Kept [] (whole ∷ [])
begins = record {
  counts = λ p. refl;
  parts = refl;
  none = λ seat v at p. ⊎_elim
      (λ (t : get_elem? {A = Known} [] seat ≡ some v). absurd (some-ne-none v (sym t)))
      (λ (t : whole ≡ v). let n : 72 ≡ v.parts = ap parts_of t in absurd (omega arith))
      (at_snoc [] whole v seat at);
}

module _ (items : List (ℕ × ℕ)) (views : List Known) (h : Kept items views) where
  -- after a change of one view, by what it adds
  changed : (after : List (ℕ × ℕ)) (seat : ℕ) (v w : Known) → get_elem? views seat ≡ some v → w.parts ≡ v.parts → 0 < v.parts
      → ((p : ℕ × ℕ) → (times p w.sent + times p v.got) + times p items ≡ (times p v.sent + times p w.got) + times p after)
      → Kept after (set views seat w)
  changed after seat v w at same more balance = record {
    counts = λ p.
        let old = h.counts p in
        let s = total_set (λ u. times p u.sent) views seat v w at in
        let g = total_set (λ u. times p u.got) views seat v w at in
        let b = balance p in omega arith;
    parts = let s = total_set parts_of views seat v w at in omega (arith, h.parts);
    none = none_set views seat w (λ n. absurd (omega arith)) h.none;
  }

pub hands : (n seat : ℕ) (v : Known) (x : ℕ × ℕ) → 0 < v.parts → Pushes Kept n seat v x (λ w. w ≡ with_sent v x)
hands n seat v x more items views room h at = let w : Known = with_sent v x in (
  w,
  changed items views h (items ++ x ∷ []) seat v w at refl more (λ p.
      let a = times-append p v.sent (x ∷ []) in let b = times-append p items (x ∷ []) in omega arith),
  refl,
)

pub takes : (seat : ℕ) (v : Known) → 0 < v.parts → Pops Kept seat v (λ x w. w ≡ with_got v x)
takes seat v more x items views h at = let w : Known = with_got v x in (
  w,
  changed (x ∷ items) views h items seat v w at refl more (λ p. let a = times-append p v.got (x ∷ []) in omega arith),
  refl,
)

pub accounts : (seat : ℕ) (v : Known) → Learns Kept seat v (λ items. Accounts v items)
accounts seat v items views h at all p =
    let sent = total_only (λ u. times p u.sent) views seat v at (h.parts ∙ sym all) (λ j u e n. ap (times p) (h.none j u e n).0) in
    let got = total_only (λ u. times p u.got) views seat v at (h.parts ∙ sym all) (λ j u e n. ap (times p) (h.none j u e n).1) in
    let old = h.counts p in omega arith

pub forks : (seat : ℕ) (v : Known) → 1 < v.parts → Forks Kept seat v (less_one v) one_part
forks seat v more items views h at = let w : Known = less_one v in let vs : List Known = set views seat w in record {
  counts = λ p.
      let old = h.counts p in
      let s = total_set (λ u. times p u.sent) views seat v w at in
      let g = total_set (λ u. times p u.got) views seat v w at in
      let s' = total_snoc (λ u. times p u.sent) vs one_part in
      let g' = total_snoc (λ u. times p u.got) vs one_part in omega arith;
  parts = let s = total_set parts_of views seat v w at in let s' = total_snoc parts_of vs one_part in omega (arith, h.parts);
  none = λ j u e n. ⊎_elim
      (λ (t : get_elem? vs j ≡ some u). none_set views seat w (λ n'. absurd (omega arith)) h.none j u t n)
      (λ (t : one_part ≡ u). let k : 1 ≡ u.parts = ap parts_of t in absurd (omega arith))
      (at_snoc vs one_part u j e);
}

pub merges : (seat : ℕ) (v : Known) (other : ℕ) (w : Known) → Merges Kept seat v other w (joined v w) no_part
merges seat v other w items views h at apart there = let both : Known = joined v w in let vs : List Known = set views seat both in
    let was : get_elem? views other ≡ some w = ⊎_elim (λ (t : (other ≡ seat) × (both ≡ w)). absurd (apart t.0)) (λ (t : (other ≢ seat) × (get_elem? views other ≡ some w)). t.1) (at_set views seat other both w there) in record {
      counts = λ p.
          let old = h.counts p in
          let s = total_set (λ u. times p u.sent) views seat v both at in
          let g = total_set (λ u. times p u.got) views seat v both at in
          let s' = total_set (λ u. times p u.sent) vs other w no_part there in
          let g' = total_set (λ u. times p u.got) vs other w no_part there in
          let a = times-append p v.sent w.sent in let b = times-append p v.got w.got in omega arith;
      parts = let s = total_set parts_of views seat v both at in let s' = total_set parts_of vs other w no_part there in omega (arith, h.parts);
      none = none_set vs other no_part (λ n. (refl, refl)) (none_set views seat both (λ n.
          let a = h.none seat v at (omega arith) in let b = h.none other w was (omega arith) in (
            (λ i. a.0 i ++ b.0 i),
            (λ i. a.1 i ++ b.1 i),
          )) h.none);
    }

-- the same for items that are seen by a key
module _ {T : Type 0} (key : T → ℕ × ℕ) where
  abbrev KeptBy : List T → List Known → Type 0
  KeptBy items views = Kept (map key items) views

  pub hands_by : (n seat : ℕ) (v : Known) (x : T) → 0 < v.parts → Pushes KeptBy n seat v x (λ w. w ≡ with_sent v (key x))
  hands_by n seat v x more items views room h at =
      let w : Known = with_sent v (key x) in (
        w,
        subst (λ (l : List (ℕ × ℕ)). Kept l (set views seat w)) (sym (map-append key items (x ∷ [])))
            (changed (map key items) views h (map key items ++ key x ∷ []) seat v w at refl more (λ p.
            let a = times-append p v.sent (key x ∷ []) in let b = times-append p (map key items) (key x ∷ []) in omega arith)),
        refl,
      )

  pub takes_by : (seat : ℕ) (v : Known) → 0 < v.parts → Pops KeptBy seat v (λ x w. w ≡ with_got v (key x))
  takes_by seat v more x items views h at = takes seat v more (key x) (map key items) views h at

  pub accounts_by : (seat : ℕ) (v : Known) → Learns KeptBy seat v (λ items. Accounts v (map key items))
  accounts_by seat v items views h at = accounts seat v (map key items) views h at

  pub forks_by : (seat : ℕ) (v : Known) → 1 < v.parts → Forks KeptBy seat v (less_one v) one_part
  forks_by seat v more items views h at = forks seat v more (map key items) views h at

  pub merges_by : (seat : ℕ) (v : Known) (other : ℕ) (w : Known) → Merges KeptBy seat v other w (joined v w) no_part
  merges_by seat v other w items views h at apart there = merges seat v other w (map key items) views h at apart there

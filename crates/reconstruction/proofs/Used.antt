-- What the usable edges of a state add is what all its edges add that may come to a term within the limit.
use Rattle.std.proofs.Common.{◌≡◌, ◌≢◌, ℕ, zero, suc, ◌+◌, ◌-◌, ◌<◌, ◌≤◌, Bool, true, false, ◌&&◌, ◌==◌, leb, cond, All, List, [], ◌∷◌, ◌++◌, flat_map, length, get_or, take, map, slice_get, Some, None, refl, sym, ap, subst, ◌∙◌, arith, append-nil, take_all, IsPermutation}
use Rattle.std.proofs.lemmas.Bool.{eq-eqb, ne_eqb, eqb-true, leb-false}
use Rattle.std.proofs.lemmas.List.{take_more}
use Rattle.std.proofs.lemmas.List.Concat.{flat_map-append}
use Rattle.std.proofs.lemmas.List.Elements.{All-nil, All-cons, All-append, All-get_or, All-take}
use Rattle.std.proofs.lemmas.List.Sorted.{IsPermutation-refl, IsPermutation-sym, IsPermutation-trans, IsPermutation-map, IsPermutation-append_left, All-permutation, IsNonDecreasingBy-short}
use Rattle.edges.specs.Edges.{Edge, IsRunOf}
use Rattle.partial_terms.specs.Search.{key_of}
use Rattle.reconstruction.specs.Tabled.{front_of, least_of, child, may, seen, picked, IsParent, Grew}
use Rattle.reconstruction.specs.Totals.{declared_in}
use Rattle.reconstruction.specs.Usable.{usable_below, AreFloors, IsUsable, IsWithin}
use Rattle.reconstruction.specs.Ways.{edge_at, numbers_where, head_numbers, heads_at, way_numbers, ways_at, AreHeadsAt, AreWaysAt}
use Rattle.reconstruction.specs.declared.item.Item.{Item}
use Rattle.reconstruction.specs.declared.item.Arena.{Arena}
use Rattle.reconstruction.specs.declared.item.Parent.{Parent}
use Rattle.reconstruction.specs.declared.tables.Tables.{Tables}
use Rattle.reconstruction.proofs.Growths.{picked-append, picked-none}
use Rattle.reconstruction.proofs.Shuffled.{flat-permutation, flat-rest}
use Rattle.reconstruction.proofs.Ways.{edge-get, where-nil, where-one, where-append, head-idle, way-idle}

-- numbers of which the same may come to a term
pub grew-picked : (t : Tables) (a b : Arena) (f ns ms : List ℕ) (old new : List (ℕ × Item)) → IsPermutation (picked (may t f) ns) (picked (may t f) ms) → Grew t a b f ns old new → Grew t a b f ms old new
grew-picked t a b f ns ms old new same h =
    let g : ℕ → ℕ × List ℕ = λ n. (key_of (least_of t) (child t f n), f ++ n ∷ []) in
    let mapped : IsPermutation (map g (picked (may t f) ns)) (map g (picked (may t f) ms)) = IsPermutation-map g (picked (may t f) ns) (picked (may t f) ms) same in
    let both : IsPermutation (map g (picked (may t f) ns) ++ seen a old) (map g (picked (may t f) ms) ++ seen a old) = IsPermutation-append_left (seen a old) _ _ mapped in
    record { grown = h.grown; all = h.all; moved = IsPermutation-trans _ _ _ (IsPermutation-sym _ _ both) h.moved }

picked-flat : (ok : ℕ → Bool) (f : ℕ → List ℕ) (ms : List ℕ) → picked ok (flat_map f ms) ≡ flat_map (λ m. picked ok (f m)) ms
picked-flat ok f [] = picked-none ok
picked-flat ok f (m ∷ ms) = picked-append ok (f m) (flat_map f ms) ∙ ap (λ l. picked ok (f m) ++ l) (picked-flat ok f ms)

below-more : (limit : ℕ) (floors : List ℕ) (es : List Edge) (i m : ℕ) → usable_below limit floors es i (suc m) ≡ usable_below limit floors es i m ++ cond ((edge_at es m).state == i && leb (get_or floors m 0) limit) (m ∷ []) []
unfolding usable_below
below-more limit floors es i m = refl

below-none : (limit : ℕ) (floors : List ℕ) (es : List Edge) (i : ℕ) → usable_below limit floors es i zero ≡ []
unfolding usable_below
below-none limit floors es i = refl

-- an edge of another state
below-other : (limit : ℕ) (floors : List ℕ) (es : List Edge) (i m : ℕ) → (edge_at es m).state ≢ i → usable_below limit floors es i (suc m) ≡ usable_below limit floors es i m
below-other limit floors es i m other = below-more limit floors es i m ∙ ap (λ b. usable_below limit floors es i m ++ cond (b && leb (get_or floors m 0) limit) (m ∷ []) []) (ne_eqb (edge_at es m).state i other) ∙ append-nil (usable_below limit floors es i m)

-- where no edge up to a number is of the state
pub below-start : (limit : ℕ) (floors : List ℕ) (es : List Edge) (i n : ℕ) → ((m : ℕ) → m < n → (edge_at es m).state ≢ i) → usable_below limit floors es i n ≡ []
below-start limit floors es i zero h = below-none limit floors es i
below-start limit floors es i (suc n) h = below-other limit floors es i n (h n (omega arith)) ∙ below-start limit floors es i n (λ m low. h m (omega (arith, low)))

-- nor one from a number on
pub below-end : (limit : ℕ) (floors : List ℕ) (es : List Edge) (i n k : ℕ) → ((m : ℕ) → n ≤ m → m < n + k → (edge_at es m).state ≢ i) → usable_below limit floors es i (n + k) ≡ usable_below limit floors es i n
below-end limit floors es i n zero h = (let e : n + 0 ≡ n = omega arith in ap (usable_below limit floors es i) e)
below-end limit floors es i n (suc k) h =
    let e : n + suc k ≡ suc (n + k) = omega arith in
    ap (usable_below limit floors es i) e ∙ below-other limit floors es i (n + k) (h (n + k) (omega arith) (omega arith)) ∙ below-end limit floors es i n k (λ m low high. h m low (omega (arith, high)))

-- one edge of the state more
pub below-here : (limit : ℕ) (floors : List ℕ) (es : List Edge) (i m : ℕ) → (edge_at es m).state ≡ i → usable_below limit floors es i (m + 1) ≡ usable_below limit floors es i m ++ cond (leb (get_or floors m 0) limit) (m ∷ []) []
below-here limit floors es i m here =
    let e : m + 1 ≡ suc m = omega arith in
    ap (usable_below limit floors es i) e ∙ below-more limit floors es i m ∙ ap (λ b. usable_below limit floors es i m ++ cond (b && leb (get_or floors m 0) limit) (m ∷ []) []) (eq-eqb (edge_at es m).state i here)

-- each is an edge of the state
below-in : (limit : ℕ) (floors : List ℕ) (es : List Edge) (i n : ℕ) → n ≤ length es → All (λ m. (m < length es) × ((edge_at es m).state ≡ i)) (usable_below limit floors es i n)
below-in limit floors es i zero h = subst (All (λ m. (m < length es) × ((edge_at es m).state ≡ i))) (sym (below-none limit floors es i)) (All-nil _)
below-in limit floors es i (suc n) h =
    let P : ℕ → Type 0 = λ m. (m < length es) × ((edge_at es m).state ≡ i) in
    let before : All P (usable_below limit floors es i n) = below-in limit floors es i n (omega (arith, h)) in
    subst (All P) (sym (below-more limit floors es i n)) (All-append P _ _ before (last P ((edge_at es n).state == i) (leb (get_or floors n 0) limit) (λ is. (omega (arith, h), eqb-true (edge_at es n).state i is))))
  where
    last : (P : ℕ → Type 0) (a b : Bool) → (a ≡ true → P n) → All P (cond (a && b) (n ∷ []) [])
    last P true true q = All-cons P n [] (q refl) (All-nil P)
    last P true false q = All-nil P
    last P false b q = All-nil P

-- so is each of a state's usable edges
pub usable-in : (limit : ℕ) (floors : List ℕ) (es : List Edge) (i : ℕ) (row : List ℕ) → IsUsable limit floors es i row → All (λ m. (m < length es) × ((edge_at es m).state ≡ i)) row
usable-in limit floors es i row h = All-permutation (λ m. (m < length es) × ((edge_at es m).state ≡ i)) _ row h.are (below-in limit floors es i (length es) (omega arith))

-- a state of which there is no edge has none to use
pub usable-none : (limit : ℕ) (floors : List ℕ) (es : List Edge) (i : ℕ) (row : List ℕ) → row ≡ [] → ((m : ℕ) (e : Edge) → slice_get es m ≡ Some e → e.state ≢ i) → IsUsable limit floors es i row
usable-none limit floors es i row empty h =
    let none : usable_below limit floors es i (length es) ≡ [] = below-start limit floors es i (length es) (λ m low. h m (edge_at es m) (edge-get es m low)) in
    subst (IsUsable limit floors es i) (sym empty) (record {
      are = subst (λ l. IsPermutation l []) (sym none) (IsPermutation-refl []);
      rising = IsNonDecreasingBy-short (λ m. get_or floors m 0) [] (omega arith);
    })

-- what is gathered in a run of edges
module _ (limit : ℕ) (floors : List ℕ) (i : ℕ) (es : List Edge) (start end : ℕ) (run : IsRunOf i es start end) where
  pub run-start : usable_below limit floors es i start ≡ []
  run-start =
      let order = run.order in
      let within = run.within in
      below-start limit floors es i start (λ m low here. (
      let out = run.outside m (edge_at es m) (edge-get es m (omega (arith, low, order, within))) here in
      let from = out.0 in
      omega (arith, low, from)))

  pub run-more : (m : ℕ) → start ≤ m → m < end → usable_below limit floors es i (m + 1) ≡ usable_below limit floors es i m ++ cond (leb (get_or floors m 0) limit) (m ∷ []) []
  run-more m low high =
      let within = run.within in
      below-here limit floors es i m (run.inside m (edge_at es m) (edge-get es m (omega (arith, high, within))) low high)

  pub run-end : usable_below limit floors es i end ≡ usable_below limit floors es i (length es)
  run-end =
      let within = run.within in
      let sum : end + (length es - end) ≡ length es = omega (arith, within) in
      sym (ap (usable_below limit floors es i) (sym sum) ∙ below-end limit floors es i end (length es - end) (λ m low high here. (
      let out = run.outside m (edge_at es m) (edge-get es m (omega (arith, high, sum))) here in
      let to = out.1 in
      omega (arith, low, to))))

-- Edges that are left out add nothing that may come to a term.
module _ (ok : ℕ → Bool) (f : Edge → List ℕ) (limit : ℕ) (floors : List ℕ) (es : List Edge) (i : ℕ) (idle : (m : ℕ) → m < length es → (edge_at es m).state ≡ i → limit < get_or floors m 0 → picked ok (f (edge_at es m)) ≡ []) where
  adds : ℕ → List ℕ
  adds m = picked ok (f (edge_at es m))

  one : (m : ℕ) (a b : Bool) → m < length es → (edge_at es m).state == i ≡ a → leb (get_or floors m 0) limit ≡ b → picked ok (cond a (f (edge_at es m)) []) ≡ flat_map (λ k. picked ok (f (edge_at es k))) (cond (a && b) (m ∷ []) [])
  one m true true low here light = sym (append-nil (picked ok (f (edge_at es m))))
  one m true false low here heavy = idle m low (eqb-true (edge_at es m).state i here) (leb-false (get_or floors m 0) limit heavy)
  one m false b low here heavy = picked-none ok

  where-usable : (n : ℕ) → n ≤ length es → picked ok (numbers_where f i (take n es)) ≡ flat_map (λ k. picked ok (f (edge_at es k))) (usable_below limit floors es i n)
  where-usable zero h = ap (picked ok) (where-nil f i) ∙ picked-none ok ∙ sym (ap (flat_map (λ k. picked ok (f (edge_at es k)))) (below-none limit floors es i))
  where-usable (suc n) h =
      let low : n < length es = omega (arith, h) in
      let next : suc n ≡ n + 1 = omega arith in
      let g : ℕ → List ℕ = λ k. picked ok (f (edge_at es k)) in
      let here : List ℕ = cond ((edge_at es n).state == i) (f (edge_at es n)) [] in
      let used : List ℕ = cond ((edge_at es n).state == i && leb (get_or floors n 0) limit) (n ∷ []) [] in
      let split : numbers_where f i (take (suc n) es) ≡ numbers_where f i (take n es) ++ here =
      ap (λ k. numbers_where f i (take k es)) next ∙ ap (numbers_where f i) (take_more es n (record { state = 0; source = None; weight = 0; tails = [] }) low)
      ∙ where-append f i (take n es) (edge_at es n ∷ []) ∙ ap (λ l. numbers_where f i (take n es) ++ l) (where-one f i (edge_at es n)) in
      ap (picked ok) split ∙ picked-append ok (numbers_where f i (take n es)) here
      ∙ ap (λ l. l ++ picked ok here) (where-usable n (omega (arith, h)))
      ∙ ap (λ l. flat_map g (usable_below limit floors es i n) ++ l) (one n ((edge_at es n).state == i) (leb (get_or floors n 0) limit) low refl refl)
      ∙ sym (ap (flat_map g) (below-more limit floors es i n) ∙ flat_map-append g (usable_below limit floors es i n) used)

  -- the first edges of the row, up to a room that is within the limit's
  row-picked : (room : ℕ) (row part : List ℕ) → IsUsable limit floors es i row → IsWithin floors room row part → ((m : ℕ) → m < length es → (edge_at es m).state ≡ i → room < get_or floors m 0 → picked ok (f (edge_at es m)) ≡ []) → IsPermutation (picked ok (flat_map (λ m. f (edge_at es m)) part)) (picked ok (numbers_where f i es))
  row-picked room row part usable first past =
      let g : ℕ → List ℕ = λ k. picked ok (f (edge_at es k)) in
      let members = usable-in limit floors es i row usable in
      let rest : flat_map g (take first.many row) ≡ flat_map g row = flat-rest g 0 row first.many (λ k low high. (
      let m = All-get_or (λ m. (m < length es) × ((edge_at es m).state ≡ i)) row k 0 high members in
      past (get_or row k 0) m.0 m.1 (first.rest k low high))) in
      let left : picked ok (flat_map (λ m. f (edge_at es m)) part) ≡ flat_map g row = picked-flat ok (λ m. f (edge_at es m)) part ∙ ap (flat_map g) first.is ∙ rest in
      let right : flat_map g (usable_below limit floors es i (length es)) ≡ picked ok (numbers_where f i es) = sym (where-usable (length es) (omega arith)) ∙ ap (λ l. picked ok (numbers_where f i l)) (take_all (length es) es (omega arith)) in
      subst (λ l. IsPermutation l (picked ok (numbers_where f i es))) (sym left) (subst (IsPermutation (flat_map g row)) right (IsPermutation-sym _ _ (flat-permutation g _ row usable.are)))

-- what grows by the usable edges within a room grows by all edges of the state
pub grew-usable : (t : Tables) (a b : Arena) (fr : List ℕ) (f : Edge → List ℕ) (i room : ℕ) (row part : List ℕ) (old new : List (ℕ × Item)) → IsUsable t.env.limit t.floors t.edges i row → IsWithin t.floors room row part
    → ((m : ℕ) → m < length t.edges → (edge_at t.edges m).state ≡ i → t.env.limit < get_or t.floors m 0 → picked (may t fr) (f (edge_at t.edges m)) ≡ [])
    → ((m : ℕ) → m < length t.edges → (edge_at t.edges m).state ≡ i → room < get_or t.floors m 0 → picked (may t fr) (f (edge_at t.edges m)) ≡ [])
    → Grew t a b fr (flat_map (λ m. f (edge_at t.edges m)) part) old new → Grew t a b fr (numbers_where f i t.edges) old new
grew-usable t a b fr f i room row part old new usable first idle past h =
    grew-picked t a b fr (flat_map (λ m. f (edge_at t.edges m)) part) (numbers_where f i t.edges) old new (row-picked (may t fr) f t.env.limit t.floors t.edges i idle room row part usable first past) h

-- one edge of a row more
pub flat-more : (f : ℕ → List ℕ) (row : List ℕ) (k : ℕ) → k < length row → flat_map f (take (k + 1) row) ≡ flat_map f (take k row) ++ f (get_or row k 0)
flat-more f row k low = ap (flat_map f) (take_more row k 0 low) ∙ flat_map-append f (take k row) (get_or row k 0 ∷ []) ∙ ap (λ l. flat_map f (take k row) ++ l) (append-nil (f (get_or row k 0)))

module _ (t : Tables) (a b : Arena) (p : Parent) (parent : IsParent t a p) (floors : AreFloors t.env t.edges t.totals t.floors) (i room : ℕ) (row part : List ℕ) (usable : IsUsable t.env.limit t.floors t.edges i row) (first : IsWithin t.floors room row part) (old new : List (ℕ × Item)) where
  -- the heads of a state's usable edges within a room
  pub grew-heads : (step : ℕ) → t.env.limit ≤ p.base + (step + room) → AreHeadsAt t p.place step i → Grew t a b (front_of a p.front) (flat_map (λ m. head_numbers t.env (edge_at t.edges m)) part) old new → Grew t a b (front_of a p.front) (heads_at t.env t.edges i) old new
  grew-heads step roomy turns h =
      let idle : (m : ℕ) → m < length t.edges → (edge_at t.edges m).state ≡ i → t.env.limit < p.base + (get_or t.floors m 0 + step) → picked (may t (front_of a p.front)) (head_numbers t.env (edge_at t.edges m)) ≡ [] = λ m low here heavy. (
      let e = edge_at t.edges m in
      let at = edge-get t.edges m low in
      head-idle t a p step (get_or t.totals m 0) (declared_in t.env e.source) e.tails parent (turns m e at here) (λ k declared. (let light = (floors m e at).head k declared in omega (arith, heavy, light)))) in
      grew-usable t a b (front_of a p.front) (head_numbers t.env) i room row part old new usable first (λ m low here heavy. idle m low here (omega (arith, heavy))) (λ m low here heavy. idle m low here (omega (arith, heavy, roomy))) h

  -- what its usable edges within a room add
  pub grew-ways : t.env.limit ≤ p.base + (0 + room) → AreWaysAt t p.place i → Grew t a b (front_of a p.front) (flat_map (λ m. way_numbers t.env t.edges (edge_at t.edges m)) part) old new → Grew t a b (front_of a p.front) (ways_at t.env t.edges i) old new
  grew-ways roomy ways h =
      let idle : (m : ℕ) → m < length t.edges → (edge_at t.edges m).state ≡ i → t.env.limit < p.base + get_or t.floors m 0 → picked (may t (front_of a p.front)) (way_numbers t.env t.edges (edge_at t.edges m)) ≡ [] = λ m low here heavy. (
      let e = edge_at t.edges m in
      let at = edge-get t.edges m low in
      way-idle t a p m e parent (ways m e at here) (floors m e at) heavy) in
      grew-usable t a b (front_of a p.front) (way_numbers t.env t.edges) i room row part old new usable first (λ m low here heavy. idle m low here (omega (arith, heavy))) (λ m low here heavy. idle m low here (omega (arith, heavy, roomy))) h

-- a member of the first edges of a row is an edge of the state
pub within-in : (limit : ℕ) (floors : List ℕ) (es : List Edge) (i room : ℕ) (row part : List ℕ) → IsUsable limit floors es i row → IsWithin floors room row part → (k : ℕ) → k < length part → (get_or part k 0 < length es) × ((edge_at es (get_or part k 0)).state ≡ i)
within-in limit floors es i room row part usable first k low =
    let P : ℕ → Type 0 = λ m. (m < length es) × ((edge_at es m).state ≡ i) in
    All-get_or P part k 0 low (subst (All P) (sym first.is) (All-take P first.many row (usable-in limit floors es i row usable)))

-- The tables of wanted needs and of the kinds by their results.
use Rattle.std.proofs.Common.{◌≡◌, ◌⊎◌, inl, inr, ℕ, zero, suc, ◌+◌, ◌<◌, ◌≤◌, Bool, true, false, ◌==◌, cond, nat_lt, List, [], ◌∷◌, ◌++◌, length, map, take, get_or, slice_get, Option, Some, None, refl, sym, ap, subst, ◌∙◌, arith, length-append}
use Rattle.std.specs.List.{position, position_or_len}
use Rattle.std.proofs.lemmas.Bool.{false≢true, eqb-true, eq-eqb, ne_eqb, cases_eq, cases_lt, lt-ltb}
use Rattle.std.proofs.lemmas.List.{take_more, length-take-le}
use Rattle.std.proofs.lemmas.List.Quantifiers.{position-Some}
use Rattle.std.proofs.lemmas.List.Sums.{position_or_len_is}
use Rattle.std.proofs.lemmas.Option.{slice_get-get_or, slice_get_within, get_or_from_slice_get}
use Rattle.number_places.specs.Places.{places_of, places_from}
use Rattle.succinct.specs.Compression.{AreDistinct}
use Rattle.succinct.specs.Numbering.{IsGrown}
use Rattle.succinct.specs.declared.kind.Succinct.{Succinct}
use Rattle.succinct.specs.declared.need.Need.{Need}
use Rattle.patterns.specs.declared.wanted.Wanted.{Wanted}
use Rattle.patterns.specs.States.{IsWantedAs, AreWanted, list_at, kinds_of}

pub remap : {X Y : Type 0} (f : X → Y) (xs : List X) (i : ℕ) (x : X) → slice_get xs i ≡ Some x → slice_get (map f xs) i ≡ Some (f x)
remap f [] i x h = cc
remap f (y ∷ xs) zero x h = (let e : y ≡ x = cc in ap (λ z. Some (f z)) e)
remap f (y ∷ xs) (suc i) x h = remap f xs i x h

pub unmap : {X Y : Type 0} (f : X → Y) (xs : List X) (i : ℕ) (y : Y) → slice_get (map f xs) i ≡ Some y → (x : X) × (slice_get xs i ≡ Some x) × (f x ≡ y)
unmap f [] i y h = cc
unmap f (x ∷ xs) zero y h = (let e : f x ≡ y = cc in (x, refl, e))
unmap f (x ∷ xs) (suc i) y h = unmap f xs i y h

pub grown-map : {X Y : Type 0} (f : X → Y) (old new : List X) → IsGrown old new → IsGrown (map f old) (map f new)
grown-map f old new grown i y h = (let u = unmap f old i y h in remap f new i u.0 (grown i u.0 u.1) ∙ ap (λ z. Some z) u.2)

pub get_push : {X : Type 0} (xs : List X) (x y : X) (n : ℕ) → slice_get (xs ++ x ∷ []) n ≡ Some y → (slice_get xs n ≡ Some y) ⊎ ((n ≡ length xs) × (x ≡ y))
get_push [] x y zero h = (let e : x ≡ y = cc in inr (refl, e))
get_push [] x y (suc n) h = cc
get_push (z ∷ xs) x y zero h = inl h
get_push (z ∷ xs) x y (suc n) h = elim (get_push xs x y n h) [
  | inl before ↦ inl before
  | inr last ↦ inr (ap (λ k. suc k) last.0, last.1)
]

-- what stands in a grown list stood there before, or is the one value more
pub only-one : {X : Type 0} (old new : List X) (i : ℕ) (x : X) → IsGrown old new → slice_get new i ≡ Some x → ((j : ℕ) → length old ≤ j → j < length new → j ≡ i) → (j : ℕ) (y : X) → slice_get new j ≡ Some y → (slice_get old j ≡ Some y) ⊎ (y ≡ x)
only-one old new i x grown at one j y is = elim (cases_lt j (length old)) [
  | inl low ↦ (
      let was : slice_get old j ≡ Some (get_or old j x) = slice_get-get_or old j x low in
      let e : Some (get_or old j x) ≡ Some y = sym (grown j (get_or old j x) was) ∙ is in
      let e' : get_or old j x ≡ y = cc in
      inl (was ∙ ap (λ z. Some z) e'))
  | inr past ↦ (
      let e : Some x ≡ Some y = sym at ∙ sym (ap (slice_get new) (one j past (slice_get_within new j y is))) ∙ is in
      let e' : y ≡ x = cc in
      inr e')
]

pub get_left : {X : Type 0} (xs ys : List X) (i : ℕ) (x : X) → slice_get xs i ≡ Some x → slice_get (xs ++ ys) i ≡ Some x
get_left [] ys i x h = cc
get_left (y ∷ xs) ys zero x h = h
get_left (y ∷ xs) ys (suc i) x h = get_left xs ys i x h

pub get_last : {X : Type 0} (xs : List X) (x : X) → slice_get (xs ++ x ∷ []) (length xs) ≡ Some x
get_last [] x = refl
get_last (y ∷ xs) x = get_last xs x

-- one need more
pub wanted-more : (needs : List Need) (wanted wanted' : List Wanted) (i : ℕ) (need : Need) (w : Wanted) → i < length needs → need ≡ get_or needs i need → IsWantedAs i need w → wanted' ≡ wanted ++ w ∷ [] → length wanted ≡ i
    → AreWanted (take i needs) wanted → AreWanted (take (i + 1) needs) wanted'
wanted-more needs wanted wanted' i need w low at here more long before n need' is =
    go (get_push (take i needs) (get_or needs i need) need' n (ap (λ l. slice_get l n) (sym (take_more needs i need low)) ∙ is))
  where
    taken : length (take i needs) ≡ i
    taken = length-take-le i needs (omega (arith, low))

    go : (slice_get (take i needs) n ≡ Some need') ⊎ ((n ≡ length (take i needs)) × (get_or needs i need ≡ need')) → (v : Wanted) × (slice_get wanted' n ≡ Some v) × IsWantedAs n need' v
    go (inl was) = (let b = before n need' was in (b.0, ap (λ l. slice_get l n) more ∙ get_left wanted (w ∷ []) n b.0 b.1, b.2))
    go (inr last) =
        let place : n ≡ length wanted = last.0 ∙ taken ∙ sym long in
        let same : need ≡ need' = at ∙ last.1 in
        let number : i ≡ n = sym (last.0 ∙ taken) in
        (w, ap (λ l. slice_get l n) more ∙ ap (slice_get (wanted ++ w ∷ [])) place ∙ get_last wanted w, subst (λ x. IsWantedAs n x w) same (subst (λ (m : ℕ). IsWantedAs m need w) number here))

-- the place of a number in a table without repetitions
pub position-is : (goals : List ℕ) (goal t : ℕ) → AreDistinct goals → slice_get goals t ≡ Some goal → position (λ x. goal == x) goals ≡ Some t
position-is goals goal t d h =
    let low : t < length goals = slice_get_within goals t goal h in
    let truth : (goal == get_or goals t goal) ≡ true = eq-eqb goal (get_or goals t goal) (sym (get_or_from_slice_get goals t goal goal h)) in
    let at : position_or_len (λ x. goal == x) goals ≡ t = position_or_len_is (λ x. goal == x) goals t goal (omega (arith, low)) (λ k less. before k less low (goal == get_or goals k goal) refl) (λ l. truth) in
    ap (λ n. cond (nat_lt n (length goals)) (Some n) None) at ∙ ap (λ b. cond b (Some t) None) (lt-ltb t (length goals) low)
  where
    before : (k : ℕ) → k < t → t < length goals → (b : Bool) → (goal == get_or goals k goal) ≡ b → b ≡ false
    before k less low false e = refl
    before k less low true e =
        let same : goal ≡ get_or goals k goal = eqb-true goal (get_or goals k goal) e in
        let here : slice_get goals k ≡ Some goal = slice_get-get_or goals k goal (omega (arith, less, low)) ∙ ap (λ x. Some x) (sym same) in
        let one : k ≡ t = d k t goal here h in
        absurd (omega (arith, one, less))

same_test : (a b c d : ℕ) → (a ≡ b → c ≡ d) → (c ≡ d → a ≡ b) → (a == b) ≡ (c == d)
same_test a b c d f g = elim (cases_eq a b) [
  | inl e ↦ eq-eqb a b e ∙ sym (eq-eqb c d (f e))
  | inr n ↦ ne_eqb a b n ∙ sym (ne_eqb c d (λ e. n (g e)))
]

some_same : (a b : ℕ) → Some a ≡ Some b → a ≡ b
some_same a b h = cc

-- the kinds by the number of their result are the kinds by their result
same_places : (goals : List ℕ) (goal i o : ℕ) → AreDistinct goals → slice_get goals i ≡ Some goal → (numbers : List ℕ) (kinds : List Succinct) → map (λ n. slice_get goals n) numbers ≡ map (λ k. Some k.result) kinds → places_from o i numbers ≡ places_from o goal (map (λ k. k.result) kinds)
same_places goals goal i o d at [] [] h = refl
same_places goals goal i o d at [] (k ∷ kinds) h = cc
same_places goals goal i o d at (n ∷ numbers) [] h = cc
same_places goals goal i o d at (n ∷ numbers) (k ∷ kinds) h =
    let first : slice_get goals n ≡ Some k.result = cc in
    let later : map (λ m. slice_get goals m) numbers ≡ map (λ x. Some x.result) kinds = cc in
    let rest : places_from (o + 1) i numbers ≡ places_from (o + 1) goal (map (λ x. x.result) kinds) = same_places goals goal i (o + 1) d at numbers kinds later in
    let test : (n == i) ≡ (k.result == goal) = same_test n i k.result goal (λ e. some_same k.result goal (sym first ∙ ap (slice_get goals) e ∙ at)) (λ e. d n i goal (first ∙ ap (λ x. Some x) e) at) in
    ap (λ b. cond b (o ∷ places_from (o + 1) i numbers) (places_from (o + 1) i numbers)) test ∙ ap (λ l. cond (k.result == goal) (o ∷ l) l) rest

no_places : (goals : List ℕ) (goal o : ℕ) → AreDistinct goals → position (λ x. goal == x) goals ≡ None → (numbers : List ℕ) (kinds : List Succinct) → map (λ n. slice_get goals n) numbers ≡ map (λ k. Some k.result) kinds → [] ≡ places_from o goal (map (λ k. k.result) kinds)
no_places goals goal o d none numbers [] h = refl
no_places goals goal o d none [] (k ∷ kinds) h = cc
no_places goals goal o d none (n ∷ numbers) (k ∷ kinds) h =
    let first : slice_get goals n ≡ Some k.result = cc in
    let later : map (λ m. slice_get goals m) numbers ≡ map (λ x. Some x.result) kinds = cc in
    let rest : [] ≡ places_from (o + 1) goal (map (λ x. x.result) kinds) = no_places goals goal (o + 1) d none numbers kinds later in
    let test : (k.result == goal) ≡ false = ne_eqb k.result goal (λ e. apart (sym none ∙ position-is goals goal n d (first ∙ ap (λ x. Some x) e))) in
    rest ∙ ap (λ b. cond b (o ∷ places_from (o + 1) goal (map (λ x. x.result) kinds)) (places_from (o + 1) goal (map (λ x. x.result) kinds))) (sym test)
  where
    apart : None ≡ Some n → ⊥
    apart e = absurd (false≢true (ap is_there e))
      where
        is_there : Option ℕ → Bool
        is_there None = false
        is_there (Some x) = true

pub ends-are : (goals numbers : List ℕ) (kinds : List Succinct) (lists : List (List ℕ)) → AreDistinct goals → map (λ n. slice_get goals n) numbers ≡ map (λ k. Some k.result) kinds → ((k : ℕ) → k < length goals → slice_get lists k ≡ Some (places_of k numbers))
    → (goal : ℕ) → list_at lists (position (λ x. goal == x) goals) ≡ kinds_of kinds goal
ends-are goals numbers kinds lists d named each goal = go (position (λ x. goal == x) goals) refl
  where
    go : (o : Option ℕ) → position (λ x. goal == x) goals ≡ o → list_at lists o ≡ kinds_of kinds goal
    go None e = no_places goals goal 0 d e numbers kinds named
    go (Some i) e =
        let found = position-Some (λ x. goal == x) goals i goal e in
        let at : slice_get goals i ≡ Some goal = slice_get-get_or goals i goal found.0 ∙ ap (λ x. Some x) (sym (eqb-true goal (get_or goals i goal) found.1)) in
        get_or_from_slice_get lists i (places_of i numbers) [] (each i found.0) ∙ same_places goals goal i 0 d at numbers kinds named

pub in_range : (goals numbers : List ℕ) (kinds : List Succinct) → map (λ n. slice_get goals n) numbers ≡ map (λ k. Some k.result) kinds → (i n : ℕ) → slice_get numbers i ≡ Some n → n < length goals
in_range goals [] kinds h i n at = cc
in_range goals (m ∷ numbers) [] h i n at = cc
in_range goals (m ∷ numbers) (k ∷ kinds) h zero n at =
    let first : slice_get goals m ≡ Some k.result = cc in
    let e : m ≡ n = cc in
    subst (λ x. x < length goals) e (slice_get_within goals m k.result first)
in_range goals (m ∷ numbers) (k ∷ kinds) h (suc i) n at =
    let later : map (λ x. slice_get goals x) numbers ≡ map (λ x. Some x.result) kinds = cc in
    in_range goals numbers kinds later i n at

pub length-pushed : {X : Type 0} (xs xs' : List X) (x : X) (n : ℕ) → xs' ≡ xs ++ x ∷ [] → length xs ≡ n → length xs' ≡ n + 1
length-pushed xs xs' x n is long = ap length is ∙ length-append xs (x ∷ []) ∙ ap (λ m. m + 1) long

pub ends-from : (goals numbers shown : List ℕ) (kinds : List Succinct) (lists : List (List ℕ)) (count : ℕ) → AreDistinct goals → map (λ n. slice_get goals n) numbers ≡ map (λ k. Some k.result) kinds → count ≡ length goals → shown ≡ numbers
    → ((k : ℕ) → k < count → slice_get lists k ≡ Some (places_of k shown)) → (goal : ℕ) → list_at lists (position (λ x. goal == x) goals) ≡ kinds_of kinds goal
ends-from goals numbers shown kinds lists count d named c same each = ends-are goals numbers kinds lists d named (λ k low. each k (omega (arith, low, c)) ∙ ap (λ l. Some (places_of k l)) same)

-- What stands in the tables of declarations and pairs.
use Rattle.std.proofs.Common.{◌≡◌, ◌≤◌, ◌<◌, ℕ, zero, suc, ◌+◌, ◌==◌, ◌&&◌, ◌||◌, Bool, true, false, List, [], ◌∷◌, length, map, slice_get, get_or, Some, None, refl, sym, ap, ◌∙◌, subst, ⊎_elim, arith}
use Rattle.std.specs.Prelude.{if◌then◌else◌, nat_lt}
use Rattle.std.proofs.lemmas.Bool.{false≢true, eq-eqb, eqb-true, or_cases, and_parts, ltb-true, ltb-false, cases_eq}
use Rattle.std.proofs.lemmas.List.{get_or_past}
use Rattle.std.proofs.lemmas.Option.{get_or_from_slice_get, slice_get-get_or}
use Rattle.terms.specs.declared.parts.Parts.{Parts}
use Rattle.terms.specs.declared.parts.Decl.{Decl}
use Rattle.terms.specs.Faults.{IsValid}
use Rattle.terms.specs.Typing.{is_pair}
use Rattle.terms.proofs.Valid.{valid-decl, valid-pair}
use Rattle.checker.specs.declared.floor.Floor.{Floor}
use Rattle.checker.specs.declared.heads.Heads.{Heads}
use Rattle.number_places.specs.Places.{places_from, places_of}
use Rattle.checker.specs.Checks.{head_reaches, found_reaches, places_reach}
use Rattle.checker.specs.Heads.{AreHeads, TypeReaches, PairReaches, LowersReach}
use Rattle.number_places.proofs.NumberPlaces.{length-mapped}

record Member (xs : List ℕ) (x : ℕ) : Type 0 where
  place : ℕ
  is : slice_get xs place ≡ Some x

member_by : (b : Bool) (o : ℕ) (xs : List ℕ) (x : ℕ) → Member xs x → Member (if b then o ∷ xs else xs) x
member_by true o xs x m = record { place = suc m.place; is = m.is }
member_by false o xs x m = m

place_in : (o k : ℕ) (ns : List ℕ) (i : ℕ) → slice_get ns i ≡ Some k → Member (places_from o k ns) (o + i)
place_in o k [] i e = absurd cc
place_in o k (n ∷ ns) zero e =
    let same : n ≡ k = cc in
    let here : (n == k) ≡ true = eq-eqb n k same in
    let sum : o ≡ o + 0 = omega arith in
    record { place = 0; is = ap (λ b. slice_get (if b then o ∷ places_from (o + 1) k ns else places_from (o + 1) k ns) 0) here ∙ ap (λ m. Some m) sum }
place_in o k (n ∷ ns) (suc i) e =
    let m = member_by (n == k) o (places_from (o + 1) k ns) (o + 1 + i) (place_in (o + 1) k ns i e) in
    let sum : o + 1 + i ≡ o + suc i = omega arith in
    record { place = m.place; is = m.is ∙ ap (λ x. Some x) sum }

record Stands (o k : ℕ) (ns : List ℕ) (m : ℕ) : Type 0 where
  place : ℕ
  sum : m ≡ o + place
  is : slice_get ns place ≡ Some k

stands_later : (o k x : ℕ) (ns : List ℕ) (m : ℕ) → Stands (o + 1) k ns m → Stands o k (x ∷ ns) m
stands_later o k x ns m s = record { place = suc s.place; sum = omega (arith, s.sum); is = s.is }

place_is : (o k : ℕ) (ns : List ℕ) (n m : ℕ) → slice_get (places_from o k ns) n ≡ Some m → Stands o k ns m
place_is o k [] n m e = absurd cc
place_is o k (x ∷ ns) n m e = go (x == k) refl (λ j e'. stands_later o k x ns m (place_is (o + 1) k ns j m e')) n e
  where
    go : (b : Bool) → (x == k) ≡ b → ((j : ℕ) → slice_get (places_from (o + 1) k ns) j ≡ Some m → Stands o k (x ∷ ns) m) → (j : ℕ) → slice_get (if b then o ∷ places_from (o + 1) k ns else places_from (o + 1) k ns) j ≡ Some m → Stands o k (x ∷ ns) m
    go false apart later j e' = later j e'
    go true same later zero e' = let here : o ≡ m = cc in record { place = 0; sum = omega (arith, here); is = ap (λ y. Some y) (eqb-true x k same) }
    go true same later (suc j) e' = later j e'

-- all of the places, or not all
places_yes : (g : Parts) (fs : List Floor) (f : Floor) (ps : List ℕ) → places_reach g fs f ps ≡ true → (n i : ℕ) → slice_get ps n ≡ Some i → found_reaches g fs f (slice_get g.decls i) ≡ true
unfolding places_reach
places_yes g fs f [] e n i at = absurd cc
places_yes g fs f (p ∷ ps) e n i at = go (found_reaches g fs f (slice_get g.decls p)) refl (λ all j at'. places_yes g fs f ps all j i at') e n at
  where
    go : (b : Bool) → found_reaches g fs f (slice_get g.decls p) ≡ b → (places_reach g fs f ps ≡ true → (j : ℕ) → slice_get ps j ≡ Some i → found_reaches g fs f (slice_get g.decls i) ≡ true)
        → (if b then places_reach g fs f ps else false) ≡ true → (j : ℕ) → slice_get (p ∷ ps) j ≡ Some i → found_reaches g fs f (slice_get g.decls i) ≡ true
    go false is later e' j at' = absurd (false≢true e')
    go true is later e' zero at' = let same : p ≡ i = cc in subst (λ x. found_reaches g fs f (slice_get g.decls x) ≡ true) same is
    go true is later e' (suc j) at' = later e' j at'

record Short (g : Parts) (fs : List Floor) (f : Floor) (ps : List ℕ) : Type 0 where
  at : ℕ
  place : ℕ
  is : slice_get ps at ≡ Some place
  not : found_reaches g fs f (slice_get g.decls place) ≡ false

places_no : (g : Parts) (fs : List Floor) (f : Floor) (ps : List ℕ) → places_reach g fs f ps ≡ false → Short g fs f ps
unfolding places_reach
places_no g fs f [] e = absurd (false≢true (sym e))
places_no g fs f (p ∷ ps) e = go (found_reaches g fs f (slice_get g.decls p)) refl (λ all. places_no g fs f ps all) e
  where
    go : (b : Bool) → found_reaches g fs f (slice_get g.decls p) ≡ b → (places_reach g fs f ps ≡ false → Short g fs f ps) → (if b then places_reach g fs f ps else false) ≡ false → Short g fs f (p ∷ ps)
    go false is later e' = record { at = 0; place = p; is = refl; not = is }
    go true is later e' = let s : Short g fs f ps = later e' in record { at = suc s.at; place = s.place; is = s.is; not = s.not }

mapped : {X : Type 0} (h : X → ℕ) (xs : List X) (i : ℕ) (x : X) → slice_get xs i ≡ Some x → slice_get (map h xs) i ≡ Some (h x)
mapped h [] i x e = absurd cc
mapped h (y ∷ xs) zero x e = let same : y ≡ x = cc in ap (λ z. Some (h z)) same
mapped h (y ∷ xs) (suc i) x e = mapped h xs i x e

record Unmapped (ds : List Decl) (i k : ℕ) : Type 0 where
  decl : Decl
  is : slice_get ds i ≡ Some decl
  result : decl.result ≡ k

unmapped : (ds : List Decl) (i k : ℕ) → slice_get (map (λ (d : Decl). d.result) ds) i ≡ Some k → Unmapped ds i k
unmapped [] i k e = absurd cc
unmapped (d ∷ ds) zero k e = record { decl = d; is = refl; result = cc }
unmapped (d ∷ ds) (suc i) k e = let u : Unmapped ds i k = unmapped ds i k e in record { decl = u.decl; is = u.is; result = u.result }

-- the declarations of a type reach the floor where those of its row do
pub type_yes : (g : Parts) (fs : List Floor) (f : Floor) (h : Heads) (a : ℕ) → IsValid g → AreHeads g h → places_reach g fs f (get_or (map (λ l. l.items) h.by_result.items) a []) ≡ true → TypeReaches g fs f a
type_yes g fs f h a valid are e = record {
  each = λ i d at is.
      let low : a < length g.types = subst (λ n. n < length g.types) is (valid-decl g valid i d at).result in
      let there = get_or_from_slice_get (map (λ l. l.items) h.by_result.items) a (places_of a (map (λ (d : Decl). d.result) g.decls)) [] (are.results a low) in
      let m : Member (places_of a (map (λ (d : Decl). d.result) g.decls)) (0 + i) = place_in 0 a (map (λ (d : Decl). d.result) g.decls) i (mapped (λ (d : Decl). d.result) g.decls i d at ∙ ap (λ n. Some n) is) in
      let zero_sum : 0 + i ≡ i = omega arith in
      let found = places_yes g fs f (places_of a (map (λ (d : Decl). d.result) g.decls)) (sym (ap (places_reach g fs f) there) ∙ e) m.place i (m.is ∙ ap (λ n. Some n) zero_sum) in
      sym (ap (found_reaches g fs f) at) ∙ found;
}

pub type_no : (g : Parts) (fs : List Floor) (f : Floor) (h : Heads) (a : ℕ) → AreHeads g h → places_reach g fs f (get_or (map (λ l. l.items) h.by_result.items) a []) ≡ false → TypeReaches g fs f a → ⊥
unfolding places_reach
type_no g fs f h a are e all = go (nat_lt a (length g.types)) refl
  where
    inside : a < length g.types → ⊥
    inside low =
        let there = get_or_from_slice_get (map (λ l. l.items) h.by_result.items) a (places_of a (map (λ (d : Decl). d.result) g.decls)) [] (are.results a low) in
        let s : Short g fs f (places_of a (map (λ (d : Decl). d.result) g.decls)) = places_no g fs f (places_of a (map (λ (d : Decl). d.result) g.decls)) (sym (ap (places_reach g fs f) there) ∙ e) in
        let t : Stands 0 a (map (λ (d : Decl). d.result) g.decls) s.place = place_is 0 a (map (λ (d : Decl). d.result) g.decls) s.at s.place s.is in
        let same : t.place ≡ s.place = omega (arith, t.sum) in
        let u : Unmapped g.decls t.place a = unmapped g.decls t.place a t.is in
        let reached : head_reaches g fs f u.decl ≡ true = all.each t.place u.decl u.is u.result in
        false≢true (sym s.not ∙ sym (ap (λ n. found_reaches g fs f (slice_get g.decls n)) same) ∙ ap (found_reaches g fs f) u.is ∙ reached)

    go : (b : Bool) → nat_lt a (length g.types) ≡ b → ⊥
    go true is = inside (ltb-true a (length g.types) is)
    go false is =
        let past : length g.types ≤ a = ltb-false a (length g.types) is in
        let none = get_or_past (map (λ l. l.items) h.by_result.items) a [] (omega (arith, past, length-mapped (λ l. l.items) h.by_result.items, are.results_many)) in
        false≢true (sym e ∙ ap (places_reach g fs f) none)

-- a pair that stands in the list, and its place
pair_here : (a b : ℕ) → (a == a) && (b == b) ≡ true
pair_here a b = let l : (a == a) ≡ true = eq-eqb a a refl in let r : (b == b) ≡ true = eq-eqb b b refl in rw (l, r) refl

true_or : (x : Bool) → x || true ≡ true
true_or true = refl
true_or false = refl

pub pair_in : (ps : List (ℕ × ℕ)) (j : ℕ) (p : ℕ × ℕ) → slice_get ps j ≡ Some p → is_pair ps p.0 p.1 ≡ true
unfolding is_pair
pair_in [] j p e = absurd cc
pair_in (q ∷ ps) zero p e =
    let same : q ≡ p = cc in
    subst (λ x. is_pair (q ∷ ps) x.0 x.1 ≡ true) same (ap (λ b. b || is_pair ps q.0 q.1) (pair_here q.0 q.1))
pair_in (q ∷ ps) (suc j) p e = ap (λ b. ((q.0 == p.0) && (q.1 == p.1)) || b) (pair_in ps j p e) ∙ true_or ((q.0 == p.0) && (q.1 == p.1))

pub record Pair (ps : List (ℕ × ℕ)) (a b : ℕ) : Type 0 where
  pub at : ℕ
  pub pair : ℕ × ℕ
  pub is : slice_get ps at ≡ Some pair
  pub lower : pair.0 ≡ a
  pub upper : pair.1 ≡ b

pub pair_at : (ps : List (ℕ × ℕ)) (a b : ℕ) → is_pair ps a b ≡ true → Pair ps a b
unfolding is_pair
pair_at [] a b e = absurd (false≢true e)
pair_at (q ∷ ps) a b e =
    ⊎_elim
    (λ (h : (q.0 == a) && (q.1 == b) ≡ true). let t = and_parts (q.0 == a) (q.1 == b) h in record { at = 0; pair = q; is = refl; lower = eqb-true q.0 a t.0; upper = eqb-true q.1 b t.1 })
    (λ (h : is_pair ps a b ≡ true). let r : Pair ps a b = pair_at ps a b h in record { at = suc r.at; pair = r.pair; is = r.is; lower = r.lower; upper = r.upper })
    (or_cases ((q.0 == a) && (q.1 == b)) (is_pair ps a b) e)

pub results_known : (g : Parts) → IsValid g → (xs : List ℕ) (n : ℕ) → n ≡ length g.types → xs ≡ map (λ (d : Decl). d.result) g.decls → (i k : ℕ) → slice_get xs i ≡ Some k → k < n
results_known g valid xs n long is i k e =
    let u : Unmapped g.decls i k = unmapped g.decls i k (sym (ap (λ l. slice_get l i) is) ∙ e) in
    let low = (valid-decl g valid i u.decl u.is).result in
    omega (arith, low, long, u.result)

record Upper (ps : List (ℕ × ℕ)) (j k : ℕ) : Type 0 where
  pair : ℕ × ℕ
  is : slice_get ps j ≡ Some pair
  upper : pair.1 ≡ k

upper_of : (ps : List (ℕ × ℕ)) (j k : ℕ) → slice_get (map (λ (p : ℕ × ℕ). p.1) ps) j ≡ Some k → Upper ps j k
upper_of [] j k e = absurd cc
upper_of (p ∷ ps) zero k e = record { pair = p; is = refl; upper = cc }
upper_of (p ∷ ps) (suc j) k e = let u : Upper ps j k = upper_of ps j k e in record { pair = u.pair; is = u.is; upper = u.upper }

upper_low : (g : Parts) → IsValid g → (j : ℕ) (p : ℕ × ℕ) → slice_get g.pairs j ≡ Some p → p.1 < length g.types
upper_low g valid j p at = (valid-pair g valid p.0 p.1 (pair_in g.pairs j p at)).1

pub uppers_known : (g : Parts) → IsValid g → (xs : List ℕ) (n : ℕ) → n ≡ length g.types → xs ≡ map (λ (p : ℕ × ℕ). p.1) g.pairs → (i k : ℕ) → slice_get xs i ≡ Some k → k < n
uppers_known g valid xs n long is i k e =
    let u : Upper g.pairs i k = upper_of g.pairs i k (sym (ap (λ l. slice_get l i) is) ∙ e) in
    let low = upper_low g valid i u.pair u.is in
    omega (arith, low, long, u.upper)

-- the types strictly below the goal, by the row of the goal
pub lowers_yes : (g : Parts) (fs : List Floor) (f : Floor) (h : Heads) → IsValid g → AreHeads g h
    → ((k j : ℕ) → slice_get (get_or (map (λ l. l.items) h.by_upper.items) f.goal []) k ≡ Some j → PairReaches g fs f j) → LowersReach g fs f
lowers_yes g fs f h valid are all = record {
  each = λ j p at is.
      let low : f.goal < length g.types = subst (λ n. n < length g.types) is (upper_low g valid j p at) in
      let there = get_or_from_slice_get (map (λ l. l.items) h.by_upper.items) f.goal (places_of f.goal (map (λ (p : ℕ × ℕ). p.1) g.pairs)) [] (are.uppers f.goal low) in
      let m : Member (places_of f.goal (map (λ (p : ℕ × ℕ). p.1) g.pairs)) (0 + j) = place_in 0 f.goal (map (λ (p : ℕ × ℕ). p.1) g.pairs) j (mapped (λ (p : ℕ × ℕ). p.1) g.pairs j p at ∙ ap (λ n. Some n) is) in
      let zero_sum : 0 + j ≡ j = omega arith in
      (all m.place j (ap (λ l. slice_get l m.place) there ∙ m.is ∙ ap (λ n. Some n) zero_sum)).each p at;
}

pub lowers_no : (g : Parts) (fs : List Floor) (f : Floor) (h : Heads) (k j : ℕ) → AreHeads g h → slice_get (get_or (map (λ l. l.items) h.by_upper.items) f.goal []) k ≡ Some j
    → (PairReaches g fs f j → ⊥) → LowersReach g fs f → ⊥
lowers_no g fs f h k j are at not all = go (nat_lt f.goal (length g.types)) refl
  where
    go : (b : Bool) → nat_lt f.goal (length g.types) ≡ b → ⊥
    go true is =
        let there = get_or_from_slice_get (map (λ l. l.items) h.by_upper.items) f.goal (places_of f.goal (map (λ (p : ℕ × ℕ). p.1) g.pairs)) [] (are.uppers f.goal (ltb-true f.goal (length g.types) is)) in
        let t : Stands 0 f.goal (map (λ (p : ℕ × ℕ). p.1) g.pairs) j = place_is 0 f.goal (map (λ (p : ℕ × ℕ). p.1) g.pairs) k j (sym (ap (λ l. slice_get l k) there) ∙ at) in
        let same : j ≡ t.place = omega (arith, t.sum) in
        let upper = ap (slice_get (map (λ (p : ℕ × ℕ). p.1) g.pairs)) same ∙ t.is in
        not (record { each = λ p here. let goal : p.1 ≡ f.goal = (let e : Some p.1 ≡ Some f.goal = sym (mapped (λ (q : ℕ × ℕ). q.1) g.pairs j p here) ∙ upper in cc) in all.each j p here goal })
    go false is =
        let past : length g.types ≤ f.goal = ltb-false f.goal (length g.types) is in
        let none = get_or_past (map (λ l. l.items) h.by_upper.items) f.goal [] (omega (arith, past, length-mapped (λ l. l.items) h.by_upper.items, are.uppers_many)) in
        let bad : None ≡ Some j = sym (ap (λ l. slice_get l k) none) ∙ at in
        cc

-- one pair more that reaches the floor
pub pairs_more : (g : Parts) (fs : List Floor) (f : Floor) (ps : List ℕ) (i : ℕ) → i < length ps → ((k j : ℕ) → k < i → slice_get ps k ≡ Some j → PairReaches g fs f j) → PairReaches g fs f (get_or ps i 0)
    → (k j : ℕ) → k < i + 1 → slice_get ps k ≡ Some j → PairReaches g fs f j
pairs_more g fs f ps i low before here k j less at =
    ⊎_elim
    (λ (same : k ≡ i).
    let e : Some j ≡ Some (get_or ps i 0) = sym at ∙ ap (slice_get ps) same ∙ slice_get-get_or ps i 0 low in
    let is : get_or ps i 0 ≡ j = cc in
    subst (λ x. PairReaches g fs f x) is here)
    (λ (apart : k ≡ i → ⊥). before k j (omega (arith, less, apart)) at)
    (cases_eq k i)

-- Terms counted by their weights: ranges of weights, joined and passed over.
use Rattle.std.proofs.Common.{◌≡◌, ◌⊎◌, inl, inr, ℕ, suc, ◌+◌, ◌<◌, ◌≤◌, Bool, true, false, ◌&&◌, ◌==◌, nat_le, nat_lt, List, [], ◌∷◌, ◌++◌, length, refl, sym, ap, subst, ◌∙◌, arith}
use Rattle.std.proofs.lemmas.Bool.{cases_lt, cases_order, eq-eqb, ne_eqb, le-leb, lt-leb, lt-ltb, le-ltb, and_parts, and_from, true≢false}
use Rattle.terms.specs.Expr.{Expr}
use Rattle.terms.specs.Place.{IsInhabitant, is_inhabitant, total_of, fits_place, goal_place}
use Rattle.terms.specs.Count.{expr_eq, once_if, count, Stands}
use Rattle.terms.specs.Listing.{IsRising, IsWhole, level_of, Skipped}
use Rattle.terms.specs.declared.parts.Parts.{Parts}
use Rattle.listing.specs.Found.{IsBetween, IsOfWholeLevels}
use Rattle.terms.proofs.Standing.{stands-cons, stands-head, stands-tail, all_stands, from_all, count-append}
use Rattle.terms.proofs.Fronts.{lighter, not_heavier, front_shorter}

once_true : (b : Bool) → 1 ≤ once_if b → b ≡ true
once_true true h = refl
once_true false h = absurd (omega (arith, h))

le_true : (m n : ℕ) → nat_le m n ≡ true → m ≤ n
le_true m n h = grind arith

lt_true : (m n : ℕ) → nat_lt m n ≡ true → m < n
lt_true m n h = grind arith

-- what stands in a range is an inhabitant of such a weight
pub record Ranges (g : Parts) (low high : ℕ) (e : Expr) : Type 0 where
  pub inhabitant : IsInhabitant g e
  pub at_least : low ≤ total_of g e
  pub less : total_of g e < high

pub stands_between : (g : Parts) (low high : ℕ) (es : List Expr) → IsBetween g low high es → (e : Expr) → Stands e es → Ranges g low high e
stands_between g low high es h e s =
    let t = total_of g e in
    let one : is_inhabitant g e && (nat_le low t && nat_lt t high) ≡ true = once_true _ (subst (λ n. 1 ≤ n) (h e) s) in
    let both = and_parts (is_inhabitant g e) (nat_le low t && nat_lt t high) one in
    let ends = and_parts (nat_le low t) (nat_lt t high) both.1 in
    record { inhabitant = both.0; at_least = le_true low t ends.0; less = lt_true t high ends.1 }

pub between_stands : (g : Parts) (low high : ℕ) (es : List Expr) → IsBetween g low high es → (e : Expr) → IsInhabitant g e → low ≤ total_of g e → total_of g e < high → Stands e es
between_stands g low high es h e i a b =
    let t = total_of g e in
    let one : is_inhabitant g e && (nat_le low t && nat_lt t high) ≡ true
    = and_from (is_inhabitant g e) (nat_le low t && nat_lt t high) i (and_from (nat_le low t) (nat_lt t high) (le-leb low t a) (lt-ltb t high b)) in
    subst (λ n. 1 ≤ n) (sym (h e ∙ ap once_if one)) (omega arith)

no_more : (l : Bool) → once_if (l && false) ≡ 0
no_more true = refl
no_more false = refl

-- two ranges side by side
sum_once : (s : Bool) (t low mid high : ℕ) → low ≤ mid → mid ≤ high → once_if (s && (nat_le low t && nat_lt t mid)) + once_if (s && (nat_le mid t && nat_lt t high)) ≡ once_if (s && (nat_le low t && nat_lt t high))
sum_once false t low mid high a b = refl
sum_once true t low mid high a b = elim (cases_lt t mid) [
  | inl under ↦ rw (lt-ltb t mid under, lt-leb mid t under, lt-ltb t high (omega (arith, under, b))) (omega arith)
  | inr over ↦ rw (le-ltb t mid over, le-leb mid t over, le-leb low t (omega (arith, over, a))) (omega arith)
]

pub between-append : (g : Parts) (low mid high : ℕ) (xs ys : List Expr) → low ≤ mid → mid ≤ high → IsBetween g low mid xs → IsBetween g mid high ys → IsBetween g low high (xs ++ ys)
between-append g low mid high xs ys a b hx hy e =
    count-append (expr_eq e) xs ys ∙ rw (hx e, hy e) (sum_once (is_inhabitant g e) (total_of g e) low mid high a b)

-- nothing lies in an empty range
none_once : (s : Bool) (t low : ℕ) → 0 ≡ once_if (s && (nat_le low t && nat_lt t low))
none_once false t low = refl
none_once true t low = elim (cases_lt t low) [
  | inl under ↦ rw (lt-leb low t under) refl
  | inr over ↦ rw (le-ltb t low over) (sym (no_more (nat_le low t)))
]

pub between-none : (g : Parts) (low : ℕ) → IsBetween g low low []
between-none g low e = none_once (is_inhabitant g e) (total_of g e) low

zero_one : (n : ℕ) → 0 ≡ suc n → ⊥
zero_one n e = omega (arith, e)

-- a range that holds nothing is passed over
skip_once : (s : Bool) (t low from k : ℕ) → 0 ≡ once_if (s && (nat_le low t && nat_lt t from)) → low ≤ k → k < from → s && (t == k) ≡ false
skip_once false t low from k h a b = refl
skip_once true t low from k h a b = elim (cases_order t k) [
  | inl same ↦ absurd (zero_one 0 (h ∙ ap once_if (and_from (nat_le low t) (nat_lt t from) (le-leb low t (omega (arith, same, a))) (lt-ltb t from (omega (arith, same, b))))))
  | inr other ↦ ne_eqb t k (λ e. elim other [ inl under ↦ omega (arith, e, under) | inr over ↦ omega (arith, e, over) ])
]

pub skipped_none : (g : Parts) (low from : ℕ) → IsBetween g low from [] → Skipped g low from
skipped_none g low from h k a b e = skip_once (is_inhabitant g e) (total_of g e) low from k (h e) a b

pub skipped_join : (g : Parts) (low mid high : ℕ) → Skipped g low mid → Skipped g mid high → Skipped g low high
skipped_join g low mid high p q k a b e = elim (cases_lt k mid) [ inl under ↦ p k a under e | inr over ↦ q k over b e ]

-- the level of a weight, where all weights before it are passed over
level_once : (s : Bool) (t low w : ℕ) → low ≤ w → ((k : ℕ) → low ≤ k → k < w → s && (t == k) ≡ false) → once_if (s && (t == w)) ≡ once_if (s && (nat_le low t && nat_lt t (w + 1)))
level_once false t low w a skip = refl
level_once true t low w a skip = elim (cases_order t w) [
  | inl same ↦ rw (eq-eqb t w same, le-leb low t (omega (arith, a, same)), lt-ltb t (w + 1) (omega (arith, same))) refl
  | inr other ↦ (elim other [
    | inl under ↦ rw (ne_eqb t w (λ e. omega (arith, e, under))) (elim (cases_lt t low) [
      | inl below ↦ rw (lt-leb low t below) refl
      | inr above ↦ absurd (true≢false (sym (eq-eqb t t refl) ∙ skip t above under))
    ])
    | inr over ↦ rw (ne_eqb t w (λ e. omega (arith, e, over)), le-ltb t (w + 1) (omega (arith, over))) (sym (no_more (nat_le low t)))
  ])
]

pub next_held : (g : Parts) (low w : ℕ) (ts : List Expr) → low ≤ w → Skipped g low w → ((e : Expr) → count (expr_eq e) ts ≡ once_if (level_of g w e)) → IsBetween g low (w + 1) ts
next_held g low w ts a skip each e = each e ∙ level_once (is_inhabitant g e) (total_of g e) low w a (λ k b c. skip k b c e)

-- a rising list of all lighter terms is a front made of whole levels
pub front_between : (g : Parts) (high : ℕ) (es : List Expr) → IsRising g es → IsBetween g 0 high es → IsOfWholeLevels g es
front_between g high es up h = record {
  front = record {
    rising = up;
    members = all_stands (IsInhabitant g) es (λ e s. (stands_between g 0 high es h e s).inhabitant);
    closed = λ e f i s b. between_stands g 0 high es h e i (omega arith) (omega (arith, not_heavier g e f b, (stands_between g 0 high es h f s).less));
  };
  level = λ e f i s same. between_stands g 0 high es h e i (omega arith) (omega (arith, same, (stands_between g 0 high es h f s).less));
}

-- and the whole list, where no weight from there on has a term
pub whole_between : (g : Parts) (high : ℕ) (es : List Expr) → IsRising g es → IsBetween g 0 high es → Skipped g high (g.limit + 1) → IsWhole g es
whole_between g high es up h skip = record {
  front = (front_between g high es up h).front;
  all = λ e i.
      let t = total_of g e in
      let within : t ≤ g.limit = le_true t g.limit (and_parts (fits_place g (goal_place g) e) (nat_le t g.limit) i).1 in
      elim (cases_lt t high) [
        | inl under ↦ between_stands g 0 high es h e i (omega arith) under
        | inr over ↦ absurd (true≢false (sym (and_from (is_inhabitant g e) (t == t) i (eq-eqb t t refl)) ∙ skip t over (omega (arith, within)) e))
      ];
}

-- all pass the test, or there is one that doesn't
by_test : (p : Expr → Bool) (x : Expr) (xs : List Expr) (b : Bool) → p x ≡ b
    → ((e : Expr) → Stands e xs → p e ≡ true) ⊎ ((e : Expr) × (Stands e xs) × (p e ≡ false))
    → ((e : Expr) → Stands e (x ∷ xs) → p e ≡ true) ⊎ ((e : Expr) × (Stands e (x ∷ xs)) × (p e ≡ false))
by_test p x xs false h more = inr (x, stands-head x xs, h)
by_test p x xs true h more = elim more [
  | inl all ↦ inl (λ e s. elim (stands-cons e x xs s) [ inl same ↦ ap p same ∙ h | inr later ↦ all e later ])
  | inr one ↦ inr (one.0, stands-tail one.0 x xs one.1, one.2)
]

all_or_one : (p : Expr → Bool) (es : List Expr) → ((e : Expr) → Stands e es → p e ≡ true) ⊎ ((e : Expr) × (Stands e es) × (p e ≡ false))
all_or_one p [] = inl (λ e s. absurd (omega (arith, s)))
all_or_one p (x ∷ xs) = by_test p x xs (p x) refl (all_or_one p xs)

lt_false : (m n : ℕ) → nat_lt m n ≡ false → n ≤ m
lt_false m n h = grind arith

-- a front of whole levels that is longer than all lighter terms, or the whole list, has all terms of the next level
pub grown_bound : (g : Parts) (low w : ℕ) (old new fs : List Expr) → IsRising g old → IsBetween g 0 low old → Skipped g low w → IsRising g new → IsBetween g 0 (w + 1) new
    → IsOfWholeLevels g fs → (length old < length fs) ⊎ (IsWhole g fs) → length new ≤ length fs
grown_bound g low w old new fs old_up old_range skip new_up new_range levels far =
    front_shorter g new fs (front_between g (w + 1) new new_up new_range).front levels.front (elim far [
      | inr whole ↦ (λ e s. whole.all e (stands_between g 0 (w + 1) new new_range e s).inhabitant)
      | inl longer ↦ (elim (all_or_one (λ e. nat_lt (total_of g e) low) fs) [
        | inl light ↦ absurd (omega (
          arith,
          longer,
          front_shorter g fs old levels.front (front_between g low old old_up old_range).front
              (λ e s. between_stands g 0 low old old_range e (from_all (IsInhabitant g) fs levels.front.members e s) (omega arith) (lt_true _ _ (light e s))),
        ))
        | inr heavy ↦ (λ e s. reached heavy.0 heavy.1 (lt_false _ _ heavy.2) e (stands_between g 0 (w + 1) new new_range e s))
      ])
    ])
  where
    reached : (f : Expr) → Stands f fs → low ≤ total_of g f → (e : Expr) → Ranges g 0 (w + 1) e → Stands e fs
    reached f s l e r =
        let inside = from_all (IsInhabitant g) fs levels.front.members f s in
        let far_enough : w ≤ total_of g f = elim (cases_lt (total_of g f) w) [
          | inl under ↦ absurd (true≢false (sym (and_from (is_inhabitant g f) (total_of g f == total_of g f) inside (eq-eqb (total_of g f) (total_of g f) refl)) ∙ skip (total_of g f) l under f))
          | inr over ↦ over
        ] in
        elim (cases_lt (total_of g e) (total_of g f)) [
          | inl under ↦ levels.front.closed e f r.inhabitant s (lighter g e f under)
          | inr over ↦ levels.level e f r.inhabitant s (omega (arith, over, far_enough, r.less))
        ]

-- A merge of classes without cycles of nesting with those of a text has none.
use Rattle.std.proofs.Common.{◌≡◌, ◌∙◌, ap, sym, subst, refl, arith, ℕ, zero, suc, ◌+◌, ◌<◌, ◌≤◌, Bool, true, false, List, length, inl, inr, Option, Some, None}
use Rattle.std.specs.Prelude.{is_some}
use Rattle.std.specs.Option.{option_or}
use Rattle.known_classes.specs.declared.summary.ClassSummary.{ClassSummary}
use Rattle.known_classes.specs.Known.{class_named, nesting_at, outer_in, outer_of, cycles}
use Rattle.known_classes.specs.Merging.{merged, last_named}
use Rattle.known_classes.specs.Alike.{NestInwards, HasNoCycle}
use Rattle.known_classes.proofs.Merging.{two, merged_law}
use Rattle.known_classes.proofs.Ways.{no-true, ComesIn, steps-of, steps-hold, cycles-any}

pub kept-class : (base extra : List ClassSummary) (n : List ℕ) → last_named extra n ≡ None → class_named (merged base extra) n ≡ class_named base n
kept-class base extra n e = merged_law base extra n ∙ ap (λ o. option_or o (class_named base n)) e

-- from an extra class one comes to extra classes of shorter names alone
is-extra : List ClassSummary → List ℕ → Bool
is-extra extra n = is_some (last_named extra n)

extra-class : (base extra : List ClassSummary) (n : List ℕ) (o : Option ClassSummary) → last_named extra n ≡ o → is_some o ≡ true → class_named (merged base extra) n ≡ o
extra-class base extra n None e h = absurd (no-true h)
extra-class base extra n (Some d) e h = merged_law base extra n ∙ ap (λ z. option_or z (class_named base n)) e

extra-outer : (base extra : List ClassSummary) (n : List ℕ) → is_some (last_named extra n) ≡ true → outer_of (merged base extra) n ≡ outer_in (nesting_at (last_named extra n))
extra-outer base extra n h = ap (λ c. outer_in (nesting_at c)) (extra-class base extra n (last_named extra n) refl h)

none-extra : (o : Option ClassSummary) → is_some o ≡ false → o ≡ None
none-extra None h = refl
none-extra (Some d) h = absurd (no-true (sym h))

plain-outer : (base extra : List ClassSummary) (n : List ℕ) → is_some (last_named extra n) ≡ false → outer_of (merged base extra) n ≡ outer_of base n
plain-outer base extra n h = ap (λ c. outer_in (nesting_at c)) (kept-class base extra n (none-extra (last_named extra n) h))

-- where one comes from an extra class
ends-none : (k : ℕ) (cs : List ClassSummary) (n : List ℕ) → ComesIn k cs n None → ⊥
unfolding ComesIn
ends-none zero cs n p = absurd cc
ends-none (suc k) cs n p = let e = p.1 in absurd cc

next : (base extra : List ClassSummary) → NestInwards extra → (k : ℕ) (n x : List ℕ) (o : Option (List ℕ)) → is_some (last_named extra x) ≡ true → outer_of (merged base extra) x ≡ o → ComesIn k (merged base extra) n o
    → ((y : List ℕ) → is_some (last_named extra y) ≡ true → ComesIn k (merged base extra) n (Some y) → (is_some (last_named extra n) ≡ true) × (length n ≤ length y)) → (is_some (last_named extra n) ≡ true) × (length n < length x)
next base extra h k n x None e q p f = absurd (ends-none k (merged base extra) n p)
next base extra h k n x (Some y) e q p f =
    let s = h x y (sym (extra-outer base extra x e) ∙ q) in
    let r = f y s.0 p in
    (r.0, omega (arith, r.1, s.1))

reached : (base extra : List ClassSummary) → NestInwards extra → (k : ℕ) (n x : List ℕ) → is_some (last_named extra x) ≡ true → ComesIn k (merged base extra) n (Some x) → (is_some (last_named extra n) ≡ true) × (length n ≤ length x)
unfolding ComesIn
reached base extra h zero n x e p = let q : x ≡ n = cc in (subst (λ z. is_some (last_named extra z) ≡ true) q e, (let l = ap length q in omega (arith, l)))
reached base extra h (suc k) n x e p =
    let q : p.0 ≡ x = (let f = p.1 in cc) in
    let at = subst (λ z. ComesIn k (merged base extra) n (outer_of (merged base extra) z)) q p.3 in
    let r = next base extra h k n x (outer_of (merged base extra) x) e refl at (λ y s g. reached base extra h k n y s g) in
    (r.0, omega (arith, r.1))

never-back : (base extra : List ClassSummary) → NestInwards extra → (k : ℕ) (n : List ℕ) → is_some (last_named extra n) ≡ true → ComesIn k (merged base extra) n (outer_of (merged base extra) n) → ⊥
never-back base extra h k n e p = let r = next base extra h k n n (outer_of (merged base extra) n) e refl p (λ y s g. reached base extra h k n y s g) in omega (arith, r.1)

-- a way to a class that is no extra one goes through none
plain-way : (base extra : List ClassSummary) → NestInwards extra → (k : ℕ) (n : List ℕ) (o : Option (List ℕ)) → is_some (last_named extra n) ≡ false → ComesIn k (merged base extra) n o → ComesIn k base n o
unfolding ComesIn
plain-way base extra h zero n o e p = p
plain-way base extra h (suc k) n o e p =
    elim (two (is_some (last_named extra p.0))) [
      | inl s ↦ let r = reached base extra h (suc k) n p.0 s (p.0, refl, p.2, p.3) in absurd (no-true (sym e ∙ r.0))
      | inr s ↦ (p.0, p.1, p.2, subst (ComesIn k base n) (plain-outer base extra p.0 s) (plain-way base extra h k n (outer_of (merged base extra) p.0) e p.3))
    ]

not-true : (b : Bool) → (b ≡ true → ⊥) → b ≡ false
not-true true f = absurd (f refl)
not-true false f = refl

pub no-cycle : (base extra : List ClassSummary) → HasNoCycle base → NestInwards extra → HasNoCycle (merged base extra)
no-cycle base extra free h n = not-true (cycles (merged base extra) n) (λ c.
    let s = steps-of (length (merged base extra)) (merged base extra) n (outer_of (merged base extra) n) c in
    elim (two (is_some (last_named extra n))) [
      | inl e ↦ never-back base extra h s.0 n e s.2
      | inr e ↦
          let p = subst (ComesIn s.0 base n) (plain-outer base extra n e) (plain-way base extra h s.0 n (outer_of (merged base extra) n) e s.2) in
          let t = steps-hold s.0 (suc s.0 + length base) base n (outer_of base n) (omega arith) p in
          no-true (sym (free n) ∙ sym (cycles-any (suc s.0 + length base) base n (omega arith)) ∙ t)
    ])

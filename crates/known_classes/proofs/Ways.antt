-- A class that comes to itself by outer classes does so in no more steps than there are classes.
use Rattle.std.proofs.Common.{◌≡◌, ◌≢◌, ◌∙◌, ap, sym, subst, refl, arith, ℕ, zero, suc, ◌≤◌, ◌<◌, Bool, true, false, cond, List, [], ◌∷◌, length, bytes_eq, inl, inr, Option, Some, None}
use Rattle.known_classes.specs.declared.summary.ClassSummary.{ClassSummary}
use Rattle.known_classes.specs.Known.{class_named, nesting_at, outer_in, outer_of, comes_to, cycles}
use Rattle.known_classes.proofs.Merging.{two, equal, itself, class-none, class-cons}

pub no-true : false ≡ true → ⊥
no-true e = absurd cc

pub differ : (x y : List ℕ) → bytes_eq x y ≡ false → x ≢ y
differ x y e = λ q. no-true (sym e ∙ subst (λ z. bytes_eq x z ≡ true) q (itself x))

pub differs : (x y : List ℕ) → (x ≡ y → ⊥) → bytes_eq x y ≡ false
differs x y d = elim (two (bytes_eq x y)) [ inl e ↦ absurd (d (equal x y e)) | inr e ↦ e ]

-- classes without those of a name
unfoldable pub without : List ℕ → List ClassSummary → List ClassSummary
without x [] = []
without x (c ∷ cs) = cond (bytes_eq x c.name) (without x cs) (c ∷ without x cs)

shorter-by : (b : Bool) (c : ClassSummary) (cs ds : List ClassSummary) (n : ℕ) → length ds ≤ n → length (cond b ds (c ∷ ds)) ≤ suc n
shorter-by true c cs ds n l = omega arith
shorter-by false c cs ds n l = omega arith

pub no-longer : (x : List ℕ) (cs : List ClassSummary) → length (without x cs) ≤ length cs
unfolding without
no-longer x [] = omega arith
no-longer x (c ∷ cs) = shorter-by (bytes_eq x c.name) c cs (without x cs) (length cs) (no-longer x cs)

shorter-one : (b : Bool) (x : List ℕ) (c d : ClassSummary) (cs : List ClassSummary) → bytes_eq x c.name ≡ b → cond b (Some c) (class_named cs x) ≡ Some d → (class_named cs x ≡ Some d → length (without x cs) < length cs) → length (cond b (without x cs) (c ∷ without x cs)) < suc (length cs)
shorter-one true x c d cs e h f = let l = no-longer x cs in omega arith
shorter-one false x c d cs e h f = let l = f h in omega arith

pub shorter : (x : List ℕ) (d : ClassSummary) (cs : List ClassSummary) → class_named cs x ≡ Some d → length (without x cs) < length cs
unfolding without
shorter x d [] h = absurd (let e = sym (class-none x) ∙ h in cc)
shorter x d (c ∷ cs) h = shorter-one (bytes_eq x c.name) x c d cs refl (sym (class-cons c cs x) ∙ h) (shorter x d cs)

kept-by : (a b : Bool) (x y : List ℕ) (c : ClassSummary) (cs : List ClassSummary) → bytes_eq x c.name ≡ a → bytes_eq y c.name ≡ b → (y ≡ x → ⊥) → class_named (without x cs) y ≡ class_named cs y → class_named (cond a (without x cs) (c ∷ without x cs)) y ≡ cond b (Some c) (class_named cs y)
kept-by true true x y c cs e f d h = absurd (d (equal y c.name f ∙ sym (equal x c.name e)))
kept-by true false x y c cs e f d h = h
kept-by false b x y c cs e f d h = class-cons c (without x cs) y ∙ ap (λ z. cond z (Some c) (class_named (without x cs) y)) f ∙ ap (cond b (Some c)) h

pub without-other : (x y : List ℕ) (cs : List ClassSummary) → (y ≡ x → ⊥) → class_named (without x cs) y ≡ class_named cs y
unfolding without
without-other x y [] d = refl
without-other x y (c ∷ cs) d = kept-by (bytes_eq x c.name) (bytes_eq y c.name) x y c cs refl refl d (without-other x y cs d) ∙ sym (class-cons c cs y)

-- a name comes first after so many steps
unfoldable pub ComesIn : ℕ → List ClassSummary → List ℕ → Option (List ℕ) → Type 0
ComesIn zero cs n o = o ≡ Some n
ComesIn (suc k) cs n o = (x : List ℕ) × (o ≡ Some x) × (x ≡ n → ⊥) × ComesIn k cs n (outer_of cs x)

pub one-count : (j k : ℕ) (cs : List ClassSummary) (n : List ℕ) (o : Option (List ℕ)) → ComesIn j cs n o → ComesIn k cs n o → j ≡ k
unfolding ComesIn
one-count zero zero cs n o p q = refl
one-count zero (suc k) cs n o p q = absurd (q.2 (let e = sym q.1 ∙ p in cc))
one-count (suc j) zero cs n o p q = absurd (p.2 (let e = sym p.1 ∙ q in cc))
one-count (suc j) (suc k) cs n o p q =
    let e : p.0 ≡ q.0 = (let f = sym p.1 ∙ q.1 in cc) in
    ap suc (one-count j k cs n (outer_of cs p.0) p.3 (subst (λ z. ComesIn k cs n (outer_of cs z)) (sym e) q.3))

-- where the way avoids a class, it stays without it
pub shrunk : (x : List ℕ) (k : ℕ) (cs : List ClassSummary) (n : List ℕ) (o : Option (List ℕ)) → ((j : ℕ) → j < k → ComesIn (suc j) cs n (Some x) → ⊥) → ComesIn k cs n o → ComesIn k (without x cs) n o
unfolding ComesIn
shrunk x zero cs n o h p = p
shrunk x (suc k) cs n o h p =
    let d : (p.0 ≡ x → ⊥) = (λ e. h k (omega arith) (x, refl, subst (λ z. z ≡ n → ⊥) e p.2, subst (λ z. ComesIn k cs n (outer_of cs z)) e p.3)) in (
      p.0,
      p.1,
      p.2,
      subst (ComesIn k (without x cs) n) (ap (λ c. outer_in (nesting_at c)) (sym (without-other x p.0 cs d)))
          (shrunk x k cs n (outer_of cs p.0) (λ j l. h j (omega (arith, l))) p.3),
    )

pub shrunk-end : (k : ℕ) (cs : List ClassSummary) (n : List ℕ) (o : Option (List ℕ)) → ComesIn k cs n o → ComesIn k (without n cs) n o
unfolding ComesIn
shrunk-end zero cs n o p = p
shrunk-end (suc k) cs n o p = (p.0, p.1, p.2, subst (ComesIn k (without n cs) n) (ap (λ c. outer_in (nesting_at c)) (sym (without-other n p.0 cs p.2))) (shrunk-end k cs n (outer_of cs p.0) p.3))

-- a class that has an outer class is known
known-by : (o : Option ClassSummary) (x : List ℕ) → outer_in (nesting_at o) ≡ Some x → (d : ClassSummary) × (o ≡ Some d)
known-by None x e = absurd cc
known-by (Some d) x e = (d, refl)

some-first : (k : ℕ) (cs : List ClassSummary) (n : List ℕ) (o : Option (List ℕ)) → ComesIn k cs n o → (x : List ℕ) × (o ≡ Some x)
unfolding ComesIn
some-first zero cs n o p = (n, p)
some-first (suc k) cs n o p = (p.0, p.1)

pub known-from : (k : ℕ) (cs : List ClassSummary) (n x : List ℕ) → ComesIn k cs n (outer_of cs x) → (d : ClassSummary) × (class_named cs x ≡ Some d)
known-from k cs n x p = let s = some-first k cs n (outer_of cs x) p in known-by (class_named cs x) s.0 s.1

-- no more steps than classes
pub few-steps : (k : ℕ) (cs : List ClassSummary) (n : List ℕ) (o : Option (List ℕ)) → ComesIn k cs n o → k ≤ length cs
unfolding ComesIn
few-steps zero cs n o p = omega arith
few-steps (suc k) cs n o p =
    let d = known-from k cs n p.0 p.3 in
    let here : ComesIn (suc k) cs n (Some p.0) = (p.0, refl, p.2, p.3) in
    let w = shrunk p.0 k cs n (outer_of cs p.0) (λ j l q. let e = one-count (suc j) (suc k) cs n (Some p.0) q here in omega (arith, e, l)) p.3 in
    let l = few-steps k (without p.0 cs) n (outer_of cs p.0) w in
    let m = shorter p.0 d.0 cs d.1 in
    omega arith

pub fewer-back : (k : ℕ) (cs : List ClassSummary) (n : List ℕ) → ComesIn k cs n (outer_of cs n) → k < length cs
fewer-back k cs n p =
    let d = known-from k cs n n p in
    let l = few-steps k (without n cs) n (outer_of cs n) (shrunk-end k cs n (outer_of cs n) p) in
    let m = shorter n d.0 cs d.1 in
    omega arith

-- the test with a bound
from-by : (b : Bool) (k : ℕ) (cs : List ClassSummary) (n x : List ℕ) → bytes_eq n x ≡ b → cond b true (comes_to k cs n (outer_of cs x)) ≡ true → (comes_to k cs n (outer_of cs x) ≡ true → (j : ℕ) × (j < k) × ComesIn j cs n (outer_of cs x)) → (j : ℕ) × (j < suc k) × ComesIn j cs n (Some x)
unfolding ComesIn
from-by true k cs n x e h f = (0, omega arith, ap Some (sym (equal n x e)))
from-by false k cs n x e h f = let g = f h in (suc g.0, omega (arith, g.1), (x, refl, (λ q. differ n x e (sym q)), g.2))

pub steps-of : (k : ℕ) (cs : List ClassSummary) (n : List ℕ) (o : Option (List ℕ)) → comes_to k cs n o ≡ true → (j : ℕ) × (j < k) × ComesIn j cs n o
unfolding comes_to
steps-of zero cs n o h = absurd (no-true h)
steps-of (suc k) cs n None h = absurd (no-true h)
steps-of (suc k) cs n (Some x) h = from-by (bytes_eq n x) k cs n x refl h (steps-of k cs n (outer_of cs x))

pub steps-hold : (j k : ℕ) (cs : List ClassSummary) (n : List ℕ) (o : Option (List ℕ)) → j < k → ComesIn j cs n o → comes_to k cs n o ≡ true
unfolding comes_to ComesIn
steps-hold j zero cs n o l p = absurd (omega (arith, l))
steps-hold zero (suc k) cs n None l p = absurd cc
steps-hold zero (suc k) cs n (Some x) l p = let e : x ≡ n = cc in ap (λ b. cond b true (comes_to k cs n (outer_of cs x))) (subst (λ z. bytes_eq n z ≡ true) (sym e) (itself n))
steps-hold (suc j) (suc k) cs n None l p = absurd (let e = p.1 in cc)
steps-hold (suc j) (suc k) cs n (Some x) l p =
    let e : p.0 ≡ x = (let f = p.1 in cc) in
    ap (λ b. cond b true (comes_to k cs n (outer_of cs x))) (differs n x (λ q. p.2 (e ∙ sym q)))
    ∙ steps-hold j k cs n (outer_of cs x) (omega (arith, l)) (subst (λ z. ComesIn j cs n (outer_of cs z)) e p.3)

pub same-truth : (a b : Bool) → (a ≡ true → b ≡ true) → (b ≡ true → a ≡ true) → a ≡ b
same-truth true b f g = sym (f refl)
same-truth false true f g = g refl
same-truth false false f g = refl

-- a greater bound tells no more cycles
pub cycles-any : (k : ℕ) (cs : List ClassSummary) (n : List ℕ) → length cs ≤ k → comes_to k cs n (outer_of cs n) ≡ cycles cs n
cycles-any k cs n l = same-truth (comes_to k cs n (outer_of cs n)) (cycles cs n)
    (λ h. let s = steps-of k cs n (outer_of cs n) h in steps-hold s.0 (length cs) cs n (outer_of cs n) (fewer-back s.0 cs n s.2) s.2)
    (λ h. let s = steps-of (length cs) cs n (outer_of cs n) h in steps-hold s.0 k cs n (outer_of cs n) (omega (arith, s.1, l)) s.2)

-- The least of the classes that pass a test is one.
use Rattle.std.proofs.Common.{◌≡◌, ◌∙◌, ap, sym, subst, refl, ℕ, zero, suc, Bool, true, false, cond, List, [], ◌∷◌, slice_get, bytes_eq, Option, Some, None, Ordering, Less, Equal, Greater}
use Rattle.std.specs.Ordering.{nat_cmp, is_lt}
use Rattle.std.specs.Cmp.Lexicographic.{slice_cmp}
use Rattle.known_classes.specs.declared.summary.ClassSummary.{ClassSummary}
use Rattle.known_classes.specs.Known.{HasEachOnce, lesser, class_by_canonical, canonical}
use Rattle.known_classes.specs.Nested.{nested_class, is_nested}
use Rattle.known_classes.proofs.Orders.{order, before_after, exact, greater, less_back, tied}
use Rattle.known_classes.specs.Least.{IsLeast, IsLeastOf}
use Rattle.known_classes.proofs.Ways.{no-true}

unfoldable pub least_by : (ClassSummary → Bool) → List ClassSummary → Option ClassSummary
least_by test [] = None
least_by test (c ∷ cs) = cond (test c) (Some (lesser c (least_by test cs))) (least_by test cs)

-- names that aren't less
unfoldable pub NotLess : List ℕ → List ℕ → Type 0
NotLess a b = is_lt (slice_cmp nat_cmp a b) ≡ false

pub not-by : (o : Ordering) → (o ≡ Less → ⊥) → is_lt o ≡ false
not-by Less f = absurd (f refl)
not-by Equal f = refl
not-by Greater f = refl

pub less-by : (o : Ordering) → is_lt o ≡ true → o ≡ Less
less-by Less e = refl
less-by Equal e = absurd (no-true e)
less-by Greater e = absurd (no-true e)

clash : (a b : List ℕ) → NotLess a b → order a b ≡ Less → ⊥
unfolding NotLess order
clash a b n l = no-true (sym n ∙ ap is_lt l)

through-by : (a b c : List ℕ) (o : Ordering) → order a b ≡ o → NotLess b a → NotLess c b → order c a ≡ Less → ⊥
through-by a b c Less e p q l = clash c b q (before_after c a b l e)
through-by a b c Equal e p q l = clash c b q (subst (λ z. order c z ≡ Less) (exact a b e) l)
through-by a b c Greater e p q l = clash b a p (greater a b e)

pub through : (a b c : List ℕ) → NotLess b a → NotLess c b → NotLess c a
unfolding NotLess order
through a b c p q = not-by (slice_cmp nat_cmp c a) (λ l. through-by a b c (order a b) refl p q l)

pub self : (a : List ℕ) → NotLess a a
unfolding NotLess order
self a = ap is_lt (tied a)

same-by : (a b : List ℕ) (o : Ordering) → order a b ≡ o → NotLess a b → NotLess b a → a ≡ b
same-by a b Less e p q = absurd (clash a b p e)
same-by a b Equal e p q = exact a b e
same-by a b Greater e p q = absurd (clash b a q (greater a b e))

same : (a b : List ℕ) → NotLess a b → NotLess b a → a ≡ b
same a b p q = same-by a b (order a b) refl p q

-- there is one
over : (c : ClassSummary) (cs : List ClassSummary) (test : ClassSummary → Bool) (a : List ℕ) → NotLess c.name a → ((j : ℕ) (d : ClassSummary) → slice_get cs j ≡ Some d → test d ≡ true → NotLess d.name a) → (j : ℕ) (d : ClassSummary) → slice_get (c ∷ cs) j ≡ Some d → test d ≡ true → NotLess d.name a
over c cs test a n h zero d e t = let q : c ≡ d = cc in subst (λ z. NotLess z.name a) q n
over c cs test a n h (suc j) d e t = h j d e t

first-least : (test : ClassSummary → Bool) (c : ClassSummary) (cs : List ClassSummary) → test c ≡ true → ((j : ℕ) (d : ClassSummary) → slice_get cs j ≡ Some d → test d ≡ true → NotLess d.name c.name) → IsLeastOf test (c ∷ cs) c
unfolding NotLess
first-least test c cs t h = record { place = 0; there = refl; passes = t; least = over c cs test c.name (self c.name) h }

lesser-least : (b : Bool) (test : ClassSummary → Bool) (c d : ClassSummary) (cs : List ClassSummary) → is_lt (slice_cmp nat_cmp d.name c.name) ≡ b → test c ≡ true → IsLeastOf test cs d → IsLeastOf test (c ∷ cs) (cond b d c)
unfolding NotLess order
lesser-least true test c d cs e t h = record { place = suc h.place; there = h.there; passes = h.passes; least = over c cs test d.name (not-by (slice_cmp nat_cmp c.name d.name) (λ l. less_back d.name c.name (less-by (slice_cmp nat_cmp d.name c.name) e) l)) h.least }
lesser-least false test c d cs e t h = first-least test c cs t (λ j x g k. through c.name d.name x.name e (h.least j x g k))

with-first : (test : ClassSummary → Bool) (c : ClassSummary) (cs : List ClassSummary) (r : Option ClassSummary) → test c ≡ true → IsLeast test cs r → IsLeastOf test (c ∷ cs) (lesser c r)
with-first test c cs None t h = first-least test c cs t (λ j d e k. absurd (no-true (sym (h j d e) ∙ k)))
with-first test c cs (Some d) t h = lesser-least (is_lt (slice_cmp nat_cmp d.name c.name)) test c d cs refl t h

none : (test : ClassSummary → Bool) (c : ClassSummary) (cs : List ClassSummary) → test c ≡ false → ((j : ℕ) (d : ClassSummary) → slice_get cs j ≡ Some d → test d ≡ false) → (j : ℕ) (d : ClassSummary) → slice_get (c ∷ cs) j ≡ Some d → test d ≡ false
none test c cs t h zero d e = let q : c ≡ d = cc in subst (λ z. test z ≡ false) q t
none test c cs t h (suc j) d e = h j d e

later : (test : ClassSummary → Bool) (c : ClassSummary) (cs : List ClassSummary) → test c ≡ false → (a : List ℕ) → ((j : ℕ) (d : ClassSummary) → slice_get cs j ≡ Some d → test d ≡ true → NotLess d.name a) → (j : ℕ) (d : ClassSummary) → slice_get (c ∷ cs) j ≡ Some d → test d ≡ true → NotLess d.name a
later test c cs t a h zero d e k = let q : c ≡ d = cc in absurd (no-true (sym t ∙ subst (λ z. test z ≡ true) (sym q) k))
later test c cs t a h (suc j) d e k = h j d e k

skip-first : (test : ClassSummary → Bool) (c : ClassSummary) (cs : List ClassSummary) (r : Option ClassSummary) → test c ≡ false → IsLeast test cs r → IsLeast test (c ∷ cs) r
unfolding NotLess
skip-first test c cs None t h = none test c cs t h
skip-first test c cs (Some d) t h = record { place = suc h.place; there = h.there; passes = h.passes; least = λ j x e k. later test c cs t d.name h.least j x e k }

step : (b : Bool) (test : ClassSummary → Bool) (c : ClassSummary) (cs : List ClassSummary) (r : Option ClassSummary) → test c ≡ b → IsLeast test cs r → IsLeast test (c ∷ cs) (cond b (Some (lesser c r)) r)
step true test c cs r e h = with-first test c cs r e h
step false test c cs r e h = skip-first test c cs r e h

pub is-least : (test : ClassSummary → Bool) (cs : List ClassSummary) → IsLeast test cs (least_by test cs)
unfolding least_by
is-least test [] = λ j d e. absurd cc
is-least test (c ∷ cs) = step (test c) test c cs (least_by test cs) refl (is-least test cs)

-- and no other
pub one-least : (test : ClassSummary → Bool) (cs : List ClassSummary) → HasEachOnce cs → (r s : Option ClassSummary) → IsLeast test cs r → IsLeast test cs s → r ≡ s
unfolding NotLess
one-least test cs o None None h k = refl
one-least test cs o None (Some d) h k = absurd (no-true (sym (h k.place d k.there) ∙ k.passes))
one-least test cs o (Some c) None h k = absurd (no-true (sym (k h.place c h.there) ∙ h.passes))
one-least test cs o (Some c) (Some d) h k =
    let n = same c.name d.name (k.least h.place c h.there h.passes) (h.least k.place d k.there k.passes) in
    let p = o.once h.place k.place c d h.there k.there n in
    sym h.there ∙ ap (slice_get cs) p ∙ k.there

pub called-by : (all cs : List ClassSummary) (name : List ℕ) → class_by_canonical all cs name ≡ least_by (λ c. bytes_eq name (canonical all c.name)) cs
unfolding class_by_canonical least_by
called-by all [] name = refl
called-by all (c ∷ cs) name = ap (λ r. cond (bytes_eq name (canonical all c.name)) (Some (lesser c r)) r) (called-by all cs name)

pub nested-by : (outer name : List ℕ) (cs : List ClassSummary) → nested_class outer name cs ≡ least_by (λ c. is_nested outer name c.nesting) cs
unfolding nested_class least_by
nested-by outer name [] = refl
nested-by outer name (c ∷ cs) = ap (λ r. cond (is_nested outer name c.nesting) (Some (lesser c r)) r) (nested-by outer name cs)

pub called-least : (all cs : List ClassSummary) (name : List ℕ) (r : Option ClassSummary) → HasEachOnce cs → IsLeast (λ c. bytes_eq name (canonical all c.name)) cs r → r ≡ class_by_canonical all cs name
called-least all cs name r o h = one-least (λ c. bytes_eq name (canonical all c.name)) cs o r (least_by (λ c. bytes_eq name (canonical all c.name)) cs) h (is-least (λ c. bytes_eq name (canonical all c.name)) cs) ∙ sym (called-by all cs name)

pub nested-least : (outer name : List ℕ) (cs : List ClassSummary) (r : Option ClassSummary) → HasEachOnce cs → IsLeast (λ c. is_nested outer name c.nesting) cs r → r ≡ nested_class outer name cs
nested-least outer name cs r o h = one-least (λ c. is_nested outer name c.nesting) cs o r (least_by (λ c. is_nested outer name c.nesting) cs) h (is-least (λ c. is_nested outer name c.nesting) cs) ∙ sym (nested-by outer name cs)

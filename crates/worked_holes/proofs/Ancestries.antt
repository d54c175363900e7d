-- A table of ancestors is that of classes where tests that compute say so.
use Rattle.std.proofs.Common.{◌≡◌, ◌≢◌, ◌∙◌, ap, sym, subst, refl, rules, tests, arith, ℕ, zero, suc, ◌≤◌, ◌<◌, Bool, true, false, ◌||◌, ◌&&◌, not, nat_le, nat_lt, ◌==◌, List, [], ◌∷◌, length, slice_index, ◌⊎◌, inl, inr, bytes_eq, Option, Some, None, if◌then◌else◌, option_map, leb-true, ltb-true}
use Rattle.std.specs.List.{list_any, list_all}
use Rattle.std.proofs.lemmas.Slice.Eq.{bytes_eq-Decides}
use Rattle.graphs.specs.Paths.{IsPathBy, Leads}
use Rattle.graphs.specs.Graph.{edges}
use Rattle.graphs.proofs.Elements.{IsOneOf, one-of, of-one}
use Rattle.graphs.proofs.Paths.{one-step, step-then}
use Rattle.name_places.specs.Places.{place_of}
use Rattle.type_names.specs.Names.{object_name}
use Rattle.known_classes.specs.declared.summary.ClassSummary.{ClassSummary}
use Rattle.known_classes.specs.Known.{KnownClasses, class_named}
use Rattle.subtyping.specs.Places.{Ancestry, Stands, IsAncestry}
use Rattle.subtyping.specs.Steps.{supers_in, supers_of, IsSuper, IsSuperStep}

same : (a b : List ℕ) → bytes_eq a b ≡ true → a ≡ b
same a b e = (bytes_eq-Decides a b).0 e

equal : (a b : List ℕ) → a ≡ b → bytes_eq a b ≡ true
equal a b e = (bytes_eq-Decides a b).1 e

no-true : false ≡ true → ⊥
no-true e = cc

or-cases : (a b : Bool) → (a || b) ≡ true → (a ≡ true) ⊎ (b ≡ true)
or-cases true b e = inl refl
or-cases false b e = inr e

first : (a b : Bool) → (a && b) ≡ true → a ≡ true
first true b e = refl
first false b e = absurd (let h = e in cc)

second : (a b : Bool) → (a && b) ≡ true → b ≡ true
second true b e = e
second false b e = absurd (let h = e in cc)

-- where the first holds, so does the second
follows : (a b : Bool) → (not a || b) ≡ true → a ≡ true → b ≡ true
follows true b e h = e
follows false b e h = absurd (no-true h)

not-equal : (a b : List ℕ) → not (bytes_eq a b) ≡ true → a ≢ b
not-equal a b e = λ p. no-true (sym (ap not (equal a b p)) ∙ e)

-- tests of the elements of a list
all-one : {A : Type 0} (p : A → Bool) (xs : List A) (x : A) → list_all p xs ≡ true → IsOneOf x xs → p x ≡ true
all-one p [] x e h = absurd h
all-one p (y ∷ ys) x e (inl h) = subst (λ z. p z ≡ true) h (first (p y) _ e)
all-one p (y ∷ ys) x e (inr h) = all-one p ys x (second (p y) _ e) h

any-one : {A : Type 0} (p : A → Bool) (xs : List A) → list_any p xs ≡ true → (x : A) × IsOneOf x xs × (p x ≡ true)
any-one p [] e = absurd (no-true e)
any-one p (y ∷ ys) e = elim (or-cases (p y) _ e) [
  | inl h ↦ (y, inl refl, h)
  | inr h ↦ let r = any-one p ys h in (r.0, inr r.1, r.2)
]

-- rows that rise
unfoldable pub is_rising : List ℕ → Bool
is_rising [] = true
is_rising (x ∷ xs) = list_all (nat_le x) xs && is_rising xs

at : (xs : List ℕ) (i : ℕ) → i < length xs → IsOneOf (slice_index xs i) xs
at [] i l = absurd (omega (arith, l))
at (x ∷ xs) zero l = inl refl
at (x ∷ xs) (suc i) l = inr (at xs i (omega (arith, l)))

rising : (row : List ℕ) (i j : ℕ) → is_rising row ≡ true → i ≤ j → j < length row → slice_index row i ≤ slice_index row j
unfolding is_rising
rising [] i j e k l = absurd (omega (arith, l))
rising (x ∷ xs) zero zero e k l = omega arith
rising (x ∷ xs) zero (suc m) e k l = leb-true x (slice_index xs m) (all-one (nat_le x) xs (slice_index xs m) (first (list_all (nat_le x) xs) _ e) (at xs m (omega (arith, l))))
rising (x ∷ xs) (suc n) zero e k l = absurd (omega (arith, k))
rising (x ∷ xs) (suc n) (suc m) e k l = rising xs n m (second (list_all (nat_le x) xs) _ e) (omega (arith, k)) (omega (arith, l))

all-rise : (rows : List (List ℕ)) (n i j : ℕ) → list_all is_rising rows ≡ true → i ≤ j → j < length (edges rows n) → slice_index (edges rows n) i ≤ slice_index (edges rows n) j
all-rise [] n i j e k l = absurd (omega (arith, l))
all-rise (row ∷ rows) zero i j e k l = rising row i j (first (is_rising row) _ e) k l
all-rise (row ∷ rows) (suc n) i j e k l = all-rise rows n i j (second (is_rising row) _ e) k l

-- a name among the ancestors of another
abbrev row_at : List (List ℕ) → Option ℕ → List ℕ
row_at rows None = []
row_at rows (Some i) = edges rows i

abbrev row : Ancestry → List ℕ → List ℕ
row s a = row_at s.rows (place_of s.names a)

abbrev stands_at : List (List ℕ) → Option ℕ → Option ℕ → Bool
stands_at rows low None = false
stands_at rows low (Some high) = list_any (λ n. n == high) (row_at rows low)

unfoldable pub stands : Ancestry → List ℕ → List ℕ → Bool
stands s a b = stands_at s.rows (place_of s.names a) (place_of s.names b)

number-any : (x : ℕ) (ys : List ℕ) → IsOneOf x ys → list_any (λ n. n == x) ys ≡ true
number-any x [] h = absurd h
number-any x (y ∷ ys) (inl e) = rw e (search (rules, tests))
number-any x (y ∷ ys) (inr h) = rw (number-any x ys h) (search (rules, tests))

any-number : (x : ℕ) (ys : List ℕ) → list_any (λ n. n == x) ys ≡ true → IsOneOf x ys
any-number x [] e = no-true e
any-number x (y ∷ ys) e = elim (or-cases (y == x) _ e) [ inl h ↦ inl (search (rules, tests, h)) | inr h ↦ inr (any-number x ys h) ]

stands-by : (s : Ancestry) (a b : List ℕ) (low high : Option ℕ) → place_of s.names a ≡ low → place_of s.names b ≡ high → stands_at s.rows low high ≡ true → Stands s a b
stands-by s a b low None e f h = absurd (no-true h)
stands-by s a b None (Some high) e f h = absurd (no-true h)
stands-by s a b (Some low) (Some high) e f h = record { low = low; high = high; from = e; to = f; among = of-one high (edges s.rows low) (any-number high (edges s.rows low) h) }

stands-if : (s : Ancestry) (a b : List ℕ) → stands s a b ≡ true → Stands s a b
unfolding stands place_of
stands-if s a b h = stands-by s a b (place_of s.names a) (place_of s.names b) refl refl h

if-stands : (s : Ancestry) (a b : List ℕ) → Stands s a b → stands s a b ≡ true
unfolding stands
if-stands s a b h = rw (h.from, h.to) (number-any h.high (edges s.rows h.low) (one-of h.high (edges s.rows h.low) h.among))

-- a name that has a place stands in the list
placed-rest : (o : Option ℕ) (xs : List (List ℕ)) (a : List ℕ) {i : ℕ} → place_of xs a ≡ o → option_map suc o ≡ Some i → ((j : ℕ) → place_of xs a ≡ Some j → IsOneOf a xs) → IsOneOf a xs
placed-rest None xs a p e f = absurd (let h = e in cc)
placed-rest (Some j) xs a p e f = f j p

placed-by : (t : Bool) (x : List ℕ) (xs : List (List ℕ)) (a : List ℕ) (i : ℕ) → bytes_eq x a ≡ t → (if t then Some 0 else option_map suc (place_of xs a)) ≡ Some i → ((j : ℕ) → place_of xs a ≡ Some j → IsOneOf a xs) → IsOneOf a (x ∷ xs)
placed-by true x xs a i t e f = inl (same x a t)
placed-by false x xs a i t e f = inr (placed-rest (place_of xs a) xs a refl (let h = e in h) f)

placed : (xs : List (List ℕ)) (a : List ℕ) (i : ℕ) → place_of xs a ≡ Some i → IsOneOf a xs
unfolding place_of
placed [] a i e = absurd (let h = e in cc)
placed (x ∷ xs) a i e = placed-by (bytes_eq x a) x xs a i refl e (placed xs a)

-- the class of which another is a super
record IsFound (cs : List ClassSummary) (a b : List ℕ) : Type 0 where
  class : ClassSummary
  among : IsOneOf class cs
  name : a ≡ class.name
  super : IsOneOf b class.supers

further : (c : ClassSummary) (cs : List ClassSummary) (a b : List ℕ) → IsFound cs a b → IsFound (c ∷ cs) a b
further c cs a b f = record { class = f.class; among = inr f.among; name = f.name; super = f.super }

found-by : (t : Bool) (c : ClassSummary) (cs : List ClassSummary) (a b : List ℕ) → bytes_eq a c.name ≡ t → IsOneOf b (supers_in (if t then Some c else class_named cs a)) → (IsOneOf b (supers_of cs a) → IsFound cs a b) → IsFound (c ∷ cs) a b
found-by true c cs a b t h f = record { class = c; among = inl refl; name = same a c.name t; super = h }
found-by false c cs a b t h f = further c cs a b (f h)

found : (cs : List ClassSummary) (a b : List ℕ) → IsOneOf b (supers_of cs a) → IsFound cs a b
unfolding class_named
found [] a b h = absurd h
found (c ∷ cs) a b h = found-by (bytes_eq a c.name) c cs a b refl h (found cs a b)

-- each class has more ancestors than each of its supers
abbrev lower : Ancestry → ClassSummary → List ℕ → Bool
lower s c p = nat_lt (length (row s p)) (length (row s c.name))

abbrev are_lower : Ancestry → ClassSummary → Bool
are_lower s c = list_all (lower s c) c.supers

-- each super of a class and its ancestors are among those of the class
abbrev keeps : Ancestry → ClassSummary → List ℕ → List ℕ → Bool
keeps s c p q = not (stands s p q) || stands s c.name q

abbrev holds : Ancestry → ClassSummary → List ℕ → Bool
holds s c p = stands s c.name p && list_all (keeps s c p) s.names

abbrev are_held : Ancestry → ClassSummary → Bool
are_held s c = list_all (holds s c) c.supers

-- each ancestor is reached by two steps at most
abbrev is_step : KnownClasses → List ℕ → List ℕ → Bool
is_step known a b = not (bytes_eq a object_name) && list_any (bytes_eq b) (supers_of known a)

abbrev by_two : KnownClasses → List ℕ → List ℕ → Bool
by_two known a b = list_any (λ c. is_step known a c && is_step known c b) (supers_of known a)

abbrev climbs : KnownClasses → Ancestry → List ℕ → List ℕ → Bool
climbs known s a b = not (stands s a b) || (is_step known a b || by_two known a b)

abbrev all_climb : KnownClasses → Ancestry → List ℕ → Bool
all_climb known s a = list_all (climbs known s a) s.names

-- the table is that of the classes, which have at most two classes above one another
unfoldable pub is_table : KnownClasses → Ancestry → Bool
is_table known s = (list_all is_rising s.rows && list_all (are_lower s) known) && (list_all (are_held s) known && list_all (all_climb known s) s.names)

record IsTable (known : KnownClasses) (s : Ancestry) : Type 0 where
  rise : list_all is_rising s.rows ≡ true
  low : list_all (are_lower s) known ≡ true
  held : list_all (are_held s) known ≡ true
  climb : list_all (all_climb known s) s.names ≡ true

table : (known : KnownClasses) (s : Ancestry) → is_table known s ≡ true → IsTable known s
unfolding is_table
table known s e =
    let f = first (list_all is_rising s.rows && list_all (are_lower s) known) _ e in
    let g = second (list_all is_rising s.rows && list_all (are_lower s) known) _ e in
    record { rise = first _ _ f; low = second (list_all is_rising s.rows) _ f; held = first _ _ g; climb = second (list_all (are_held s) known) _ g }

-- no super leads back
abbrev rank : Ancestry → List ℕ → ℕ
rank s a = length (row s a)

fewer : (known : KnownClasses) (s : Ancestry) → IsTable known s → (a b : List ℕ) → IsSuper known a b → rank s b < rank s a
fewer known s t a b h =
    let f = found known a b (one-of b (supers_of known a) h) in
    let low : lower s f.class b ≡ true = all-one (lower s f.class) f.class.supers b (all-one (are_lower s) known f.class t.low f.among) f.super in
    subst (λ z. rank s b < rank s z) (sym f.name) (ltb-true (rank s b) (rank s f.class.name) low)

fewer-by : (known : KnownClasses) (s : Ancestry) → IsTable known s → (via : List (List ℕ)) (a b : List ℕ) → IsPathBy (IsSuper known) a via b → rank s b < rank s a
unfolding IsPathBy
fewer-by known s t [] a b h = fewer known s t a b h
fewer-by known s t (c ∷ via) a b h = omega (arith, fewer known s t a c h.0, fewer-by known s t via c b h.1)

never-back : (known : KnownClasses) (s : Ancestry) → IsTable known s → (a b : List ℕ) → IsSuper known a b → Leads (IsSuper known) b a → ⊥
never-back known s t a b h p = omega (arith, fewer known s t a b h, fewer-by known s t p.0 b a p.1)

-- an ancestor is reached
step-if : (known : KnownClasses) (s : Ancestry) → IsTable known s → (a b : List ℕ) → is_step known a b ≡ true → IsSuperStep known a b
step-if known s t a b e =
    let r = any-one (bytes_eq b) (supers_of known a) (second (not (bytes_eq a object_name)) _ e) in
    let h : IsSuper known a b = of-one b (supers_of known a) (subst (λ z. IsOneOf z (supers_of known a)) (sym (same b r.0 r.2)) r.1) in
    (not-equal a object_name (first _ _ e), h, never-back known s t a b h)

climbed : (known : KnownClasses) (s : Ancestry) → IsTable known s → (a b : List ℕ) → (is_step known a b || by_two known a b) ≡ true → Leads (IsSuperStep known) a b
climbed known s t a b e = elim (or-cases (is_step known a b) _ e) [
  | inl h ↦ one-step (IsSuperStep known) a b (step-if known s t a b h)
  | inr h ↦
      let r = any-one (λ c. is_step known a c && is_step known c b) (supers_of known a) h in
      step-then (IsSuperStep known) a r.0 b (step-if known s t a r.0 (first _ _ r.2)) (one-step (IsSuperStep known) r.0 b (step-if known s t r.0 b (second (is_step known a r.0) _ r.2)))
]

reached : (known : KnownClasses) (s : Ancestry) → IsTable known s → (a b : List ℕ) → Stands s a b → Leads (IsSuperStep known) a b
reached known s t a b h =
    let all : all_climb known s a ≡ true = all-one (all_climb known s) s.names a t.climb (placed s.names a h.low h.from) in
    let here : climbs known s a b ≡ true = all-one (climbs known s a) s.names b all (placed s.names b h.high h.to) in
    climbed known s t a b (follows (stands s a b) _ here (if-stands s a b h))

-- what is reached is an ancestor
held-at : (known : KnownClasses) (s : Ancestry) → IsTable known s → (a b : List ℕ) → IsSuper known a b → (c : ClassSummary) × (a ≡ c.name) × (holds s c b ≡ true)
held-at known s t a b h =
    let f = found known a b (one-of b (supers_of known a) h) in
    (f.class, f.name, all-one (holds s f.class) f.class.supers b (all-one (are_held s) known f.class t.held f.among) f.super)

above-one : (known : KnownClasses) (s : Ancestry) → IsTable known s → (a b : List ℕ) → IsSuper known a b → stands s a b ≡ true
above-one known s t a b h = let r = held-at known s t a b h in subst (λ z. stands s z b ≡ true) (sym r.1) (first (stands s r.0.name b) _ r.2)

above-more : (known : KnownClasses) (s : Ancestry) → IsTable known s → (a b d : List ℕ) → IsSuper known a b → stands s b d ≡ true → stands s a d ≡ true
above-more known s t a b d h e =
    let r = held-at known s t a b h in
    let up = stands-if s b d e in
    let kept : keeps s r.0 b d ≡ true = all-one (keeps s r.0 b) s.names d (second (stands s r.0.name b) _ r.2) (placed s.names d up.high up.to) in
    subst (λ z. stands s z d ≡ true) (sym r.1) (follows (stands s b d) _ kept e)

above-by : (known : KnownClasses) (s : Ancestry) → IsTable known s → (via : List (List ℕ)) (a b : List ℕ) → IsPathBy (IsSuperStep known) a via b → stands s a b ≡ true
unfolding IsPathBy
above-by known s t [] a b h = above-one known s t a b h.1
above-by known s t (c ∷ via) a b h = above-more known s t a c b h.0.1 (above-by known s t via c b h.1)

pub ancestry : (known : KnownClasses) (s : Ancestry) → is_table known s ≡ true → IsAncestry known s
ancestry known s e =
    let t = table known s e in
    record {
      rises = λ n i j k l. all-rise s.rows n i j t.rise k l;
      sound = reached known s t;
      complete = λ a b p. stands-if s a b (above-by known s t p.0 a b p.1);
    }

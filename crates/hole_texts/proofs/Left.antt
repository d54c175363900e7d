-- The members that are left after all omissions.
use Rattle.std.proofs.Common.{◌≡◌, ◌≢◌, ◌∙◌, ◌⊎◌, inl, inr, sym, ap, ap₂, subst, refl, arith, rules, tests, ℕ, zero, suc, ◌+◌, ◌<◌, ◌≤◌, ◌&&◌, ◌||◌, ◌==◌, not, Bool, true, false, List, [], ◌∷◌, length, take, map, get_or, codes, bytes_eq, is_some, Option, Some, None, eq-eqb, eqb-true}
use Rattle.std.specs.List.{AllByRecursion, list_any, list_all, filter, range_with_len}
use Rattle.std.proofs.lemmas.Bool.{false≢true, and_parts, and_from, or_parts, or_cases, or_left, or_right, not-true, not_from_false, false_from_ne_true}
use Rattle.std.proofs.lemmas.Slice.Eq.{bytes_eq-Decides}
use Rattle.type_names.specs.declared.kinds.Erased.{Erased}
use Rattle.type_names.specs.Descriptors.{field}
use Rattle.class_summary.specs.Sources.{joined}
use Rattle.offers.specs.Scenes.{Scene, is_among, of_class, same_type, at_or_below}
use Rattle.offers.specs.Spellings.{parts, class_spelling, spelling}
use Rattle.offers.specs.declared.member.Kind.{Kind}
use Rattle.offers.specs.declared.member.Kind.TheVariants as kind
use Rattle.offers.specs.declared.member.Member.{Member}
use Rattle.offers.specs.Candidates.{same_kind, is_static, is_private}
use Rattle.offers.specs.Omissions.{same_types, is_kin, is_again, is_under, meet, is_other, crowds, is_crowded, needs_owner, is_written, after_four, after_five, owner_text, taken_names, prefixes, field_texts, is_hidden}
use Rattle.offers.proofs.Descriptors.{field-one}
use Rattle.scopes.specs.Kinds.{Kinds}
use Rattle.hole_texts.proofs.Pairs.{Each2, all-on, all-both, all-filter, each-filter}
use Rattle.hole_texts.proofs.Paths.{IsFront, front-joined}
use Rattle.hole_texts.proofs.Members.{IsIn, every-in, IsMember, Differ}

-- the type stands among these
abbrev pub Stands : Kinds → Erased → Type 0
Stands ks t = list_any (same_type t) ks.types ≡ true

-- of a member that is left, where these are the types, and the members after three omissions
pub record IsLeft (v : Scene) (ks : Kinds) (ms : List Member) (m : Member) : Type 0 where
  pub member : IsMember v m
  pub own : Stands ks (of_class m.owner)
  pub params : AllByRecursion (Stands ks) m.params
  pub among : IsIn ms m
  pub written : is_written v (is_crowded v ks.types ms m) m ≡ true
  pub four : IsIn (after_four v ks.types ms) m
  pub shown : is_hidden v (taken_names v) (field_texts v (after_four v ks.types ms)) m ≡ false

-- of one before the omissions by texts
pub record IsKnown (v : Scene) (ks : Kinds) (m : Member) : Type 0 where
  pub member : IsMember v m
  pub own : Stands ks (of_class m.owner)
  pub params : AllByRecursion (Stands ks) m.params

pub five-left : (v : Scene) (ks : Kinds) (ms : List Member) → AllByRecursion (IsKnown v ks) ms → AllByRecursion (IsLeft v ks ms) (after_five v ks.types ms)
unfolding after_five after_four
five-left v ks ms h =
    let test : Member → Bool = λ m. is_written v (is_crowded v ks.types ms m) m in
    let four = filter test ms in
    let a = all-filter (λ m. IsKnown v ks m × IsIn ms m) test ms (all-both (IsKnown v ks) (IsIn ms) ms h (every-in ms)) in
    let b = all-both (λ m. (IsKnown v ks m × IsIn ms m) × (test m ≡ true)) (IsIn four) four a (every-in four) in
    let shows : Member → Bool = λ m. not (is_hidden v (taken_names v) (field_texts v four) m) in
    let c = all-filter (λ m. ((IsKnown v ks m × IsIn ms m) × (test m ≡ true)) × IsIn four m) shows four b in
    all-on (λ m. (((IsKnown v ks m × IsIn ms m) × (test m ≡ true)) × IsIn four m) × (shows m ≡ true)) (IsLeft v ks ms)
    (λ m k. record { member = k.0.0.0.0.member; own = k.0.0.0.0.own; params = k.0.0.0.0.params; among = k.0.0.0.1; written = k.0.0.1; four = k.0.1; shown = not-true (is_hidden v (taken_names v) (field_texts v four) m) k.1 })
    (filter shows four) c

pub five-differ : (v : Scene) (ks : Kinds) (ms : List Member) → Each2 Differ ms → Each2 Differ (after_five v ks.types ms)
unfolding after_five after_four
five-differ v ks ms h =
    let test : Member → Bool = λ m. is_written v (is_crowded v ks.types ms m) m in
    let four = filter test ms in
    each-filter Differ (λ m. not (is_hidden v (taken_names v) (field_texts v four) m)) four (each-filter Differ test ms h)

-- types and kinds that are the same
type-same : (t : Erased) → same_type t t ≡ true
type-same t = (bytes_eq-Decides (field t) (field t)).1 refl

pub same-type : (t u : Erased) → same_type t u ≡ true → t ≡ u
same-type t u e = field-one t u ((bytes_eq-Decides (field t) (field u)).0 e)

types-same : (xs : List Erased) → same_types xs xs ≡ true
unfolding same_types
types-same [] = refl
types-same (x ∷ xs) = and_from (same_type x x) (same_types xs xs) (type-same x) (types-same xs)

same-types : (xs ys : List Erased) → same_types xs ys ≡ true → xs ≡ ys
unfolding same_types
same-types [] [] e = refl
same-types (x ∷ xs) (y ∷ ys) e = let k = and_parts (same_type x y) (same_types xs ys) e in ap₂ (λ a b. a ∷ b) (same-type x y k.0) (same-types xs ys k.1)
same-types [] (y ∷ ys) e = absurd (false≢true e)
same-types (x ∷ xs) [] e = absurd (false≢true e)

kind-same : (k : Kind) → same_kind k k ≡ true
kind-same kind.Field = refl
kind-same kind.Method = refl
kind-same kind.Constructor = refl

pub same-kind : (k l : Kind) → same_kind k l ≡ true → k ≡ l
same-kind kind.Field kind.Field e = refl
same-kind kind.Method kind.Method e = refl
same-kind kind.Constructor kind.Constructor e = refl
same-kind kind.Field kind.Method e = absurd (false≢true e)
same-kind kind.Field kind.Constructor e = absurd (false≢true e)
same-kind kind.Method kind.Field e = absurd (false≢true e)
same-kind kind.Method kind.Constructor e = absurd (false≢true e)
same-kind kind.Constructor kind.Field e = absurd (false≢true e)
same-kind kind.Constructor kind.Method e = absurd (false≢true e)

-- two members of one kind and name
pub record AreKin (m n : Member) : Type 0 where
  pub kind_is : m.kind ≡ n.kind
  pub name_is : m.name ≡ n.name

kin-test : (m n : Member) → AreKin m n → is_kin m n ≡ true
kin-test m n h = and_from (same_kind m.kind n.kind) (bytes_eq m.name n.name) (subst (λ k. same_kind m.kind k ≡ true) h.kind_is (kind-same m.kind)) ((bytes_eq-Decides m.name n.name).1 h.name_is)

kin-turn : (m n : Member) → AreKin m n → AreKin n m
kin-turn m n h = record { kind_is = sym h.kind_is; name_is = sym h.name_is }

-- they aren't of one owner with the same parameters
abbrev pub AreOthers : Member → Member → Type 0
AreOthers m n = m.owner ≡ n.owner → m.params ≡ n.params → ⊥

pub others : (m n : Member) → AreKin m n → Differ m n → AreOthers m n
others m n h d o p =
    let again : is_again n m ≡ true = and_from (is_kin n m) (same_types n.params m.params) (kin-test n m (kin-turn m n h)) (subst (λ xs. same_types n.params xs ≡ true) (sym p) (types-same n.params)) in
    false≢true (sym (d o) ∙ again)

pub others-turn : (m n : Member) → AreOthers m n → AreOthers n m
others-turn m n h o p = h (sym o) (sym p)

other-test : (m n : Member) → AreOthers m n → is_other m n ≡ true
other-test m n h = not_from_false (bytes_eq m.owner n.owner && same_types m.params n.params)
    (false_from_ne_true (bytes_eq m.owner n.owner && same_types m.params n.params) (λ e. let k = and_parts (bytes_eq m.owner n.owner) (same_types m.params n.params) e in h ((bytes_eq-Decides m.owner n.owner).0 k.0) (same-types m.params n.params k.1)))

-- crowding
pub crowded : (v : Scene) (ks : Kinds) (ms : List Member) (m n : Member) → IsIn ms n → AreKin m n → length m.params ≡ length n.params → AreOthers m n → meet v ks.types m n ≡ true → is_crowded v ks.types ms m ≡ true
unfolding is_crowded
crowded v ks ms m n i h l o e =
    or_right (is_private m) (list_any (crowds v ks.types m) ms) (i (crowds v ks.types m)
    (and_from ((is_kin m n && (length m.params == length n.params)) && is_other m n) (meet v ks.types m n)
    (and_from (is_kin m n && (length m.params == length n.params)) (is_other m n) (and_from (is_kin m n) (length m.params == length n.params) (kin-test m n h) (eq-eqb (length m.params) (length n.params) l)) (other-test m n o)) e))

any-same : {A : Type 0} (p q : A → Bool) (xs : List A) → ((x : A) → p x ≡ true → q x ≡ true) → list_any p xs ≡ true → list_any q xs ≡ true
any-same p q [] f e = e
any-same p q (x ∷ xs) f e = elim (or_cases (p x) (list_any p xs) e) [
  | inl a ↦ or_left (q x) (list_any q xs) (f x a)
  | inr b ↦ or_right (q x) (list_any q xs) (any-same p q xs f b)
]

pub meet-turn : (v : Scene) (ks : Kinds) (m n : Member) → meet v ks.types m n ≡ true → meet v ks.types n m ≡ true
meet-turn v ks m n e = any-same (is_under v m n) (is_under v n m) ks.types (λ t k. let h = and_parts (at_or_below v t (of_class m.owner)) (at_or_below v t (of_class n.owner)) k in and_from (at_or_below v t (of_class n.owner)) (at_or_below v t (of_class m.owner)) h.1 h.0) e

pub stands-any : (ks : Kinds) (t : Erased) (p : Erased → Bool) → Stands ks t → p t ≡ true → list_any p ks.types ≡ true
stands-any ks t p h e = any-same (same_type t) p ks.types (λ u k. subst (λ x. p x ≡ true) (same-type t u k) e) h

pub meet-own : (v : Scene) (ks : Kinds) (m n : Member) → Stands ks (of_class m.owner) → m.owner ≡ n.owner → meet v ks.types m n ≡ true
meet-own v ks m n h o =
    let t = of_class m.owner in
    let a : at_or_below v t t ≡ true = or_left (same_type t t) (v.below t t) (type-same t) in
    stands-any ks t (is_under v m n) h (and_from (at_or_below v t (of_class m.owner)) (at_or_below v t (of_class n.owner)) a (subst (λ w. at_or_below v t (of_class w) ≡ true) o a))

pub at-or-below : (v : Scene) (t u : Erased) → (t ≡ u) ⊎ (v.below t u ≡ true) → at_or_below v t u ≡ true
at-or-below v t u (inl e) = or_left (same_type t u) (v.below t u) (subst (λ x. same_type t x ≡ true) e (type-same t))
at-or-below v t u (inr e) = or_right (same_type t u) (v.below t u) e

-- what is written has its spellings
pub record IsSome (o : Option (List ℕ)) : Type 0 where
  pub text : List ℕ
  pub is : o ≡ Some text

pub some-text : (o : Option (List ℕ)) → is_some o ≡ true → IsSome o
some-text None e = absurd (false≢true e)
some-text (Some text) e = record { text = text; is = refl }

needed : (a b : Bool) → (not a || b) ≡ true → a ≡ true → b ≡ true
needed true b e h = e
needed false b e h = absurd (false≢true h)

pub owner-spelled : (v : Scene) (c : Bool) (m : Member) → is_written v c m ≡ true → (needs_owner m || c) ≡ true → IsSome (class_spelling v m.owner)
unfolding is_written
owner-spelled v c m e h = some-text (class_spelling v m.owner) (needed (needs_owner m || c) (is_some (class_spelling v m.owner)) (and_parts (not (needs_owner m || c) || is_some (class_spelling v m.owner)) (not c || list_all (λ p. is_some (spelling v p)) m.params) e).0 h)

pub params-spelled : (v : Scene) (m : Member) → is_written v true m ≡ true → list_all (λ p. is_some (spelling v p)) m.params ≡ true
unfolding is_written
params-spelled v m e = (and_parts (not (needs_owner m || true) || is_some (class_spelling v m.owner)) (list_all (λ p. is_some (spelling v p)) m.params) e).1

-- what is shown is hidden by no name and no static field
pub first-free : (v : Scene) (names fields : List (List ℕ)) (m : Member) → is_hidden v names fields m ≡ false → is_static m ≡ true → (is_among names (get_or (parts (owner_text v m)) 0 []) ≡ false) × (list_any (is_among fields) (prefixes (owner_text v m)) ≡ false)
unfolding is_hidden
first-free v names fields m e s =
    let both = is_among names (get_or (parts (owner_text v m)) 0 []) || list_any (is_among fields) (prefixes (owner_text v m)) in
    or_parts (is_among names (get_or (parts (owner_text v m)) 0 [])) (list_any (is_among fields) (prefixes (owner_text v m))) (sym (ap (λ b. b && both) s) ∙ e)

range-step : (p : List ℕ → Bool) (f : ℕ → List ℕ) (a len n : ℕ) (b : Bool) → (n == a) ≡ b → a ≤ n → p (f n) ≡ true → (a + 1 ≤ n → list_any p (map f (range_with_len (a + 1) len)) ≡ true) → list_any p (map f (range_with_len a (suc len))) ≡ true
range-step p f a len n true q l e g = or_left (p (f a)) (list_any p (map f (range_with_len (a + 1) len))) (subst (λ x. p (f x) ≡ true) (eqb-true n a q) e)
range-step p f a len n false q l e g = let d : n ≢ a = search (rules, tests) in or_right (p (f a)) (list_any p (map f (range_with_len (a + 1) len))) (g (omega (arith, l, d)))

any-range : (p : List ℕ → Bool) (f : ℕ → List ℕ) (a len n : ℕ) → a ≤ n → n < a + len → p (f n) ≡ true → list_any p (map f (range_with_len a len)) ≡ true
any-range p f a zero n l m e = absurd (omega (arith, l, m))
any-range p f a (suc len) n l m e = range-step p f a len n (n == a) refl l e (λ k. any-range p f (a + 1) len n k (omega (arith, m)) e)

-- a front is among the cut texts
pub front-prefix : (p : List ℕ → Bool) (text front : List ℕ) → IsFront text front → p front ≡ true → list_any p (prefixes text) ≡ true
front-prefix p text front h e =
    any-range p (λ n. joined (codes ".") (take n (parts text))) 1 (length (parts text)) h.count h.some (omega (arith, h.within)) (subst (λ w. p w ≡ true) (front-joined text front h) e)

-- The numbers of needs and kinds while the tables grow.
use Rattle.std.proofs.Common.{◌≡◌, ◌⊎◌, inl, inr, ℕ, zero, suc, ◌+◌, ◌<◌, ◌≤◌, Bool, true, false, ◌||◌, ◌==◌, List, [], ◌∷◌, ◌++◌, length, map, take, get_or, slice_get, Option, Some, None, refl, sym, ap, subst, ◌∙◌, arith, length-append, append_assoc, append-nil}
use Rattle.std.specs.List.{AllByRecursion, IsDistinct}
use Rattle.std.proofs.lemmas.Bool.{false≢true, or_left, or_right, eq-eqb, cases_lt}
use Rattle.std.proofs.lemmas.List.{take_more, take_all, map-append}
use Rattle.std.proofs.lemmas.List.Folds.{list_any-append}
use Rattle.std.proofs.lemmas.Option.{slice_get_within}
use Rattle.terms.specs.declared.parts.Decl.{Decl}
use Rattle.terms.specs.declared.parts.Parts.{Parts}
use Rattle.succinct.specs.declared.need.Need.{Need}
use Rattle.succinct.specs.declared.kind.Succinct.{Succinct}
use Rattle.std.proofs.lemmas.Bool.{and_from}
use Rattle.std.proofs.lemmas.Cmp.{nat_list_eq_equiv}
use Rattle.std.specs.Cmp.Lexicographic.{pointwise}
use Rattle.std.specs.Ordering.{on, eq_of_both}
use Rattle.std.proofs.Common.{nat_eq}
use mathlib.Core.Bool.{beq}
use Rattle.succinct.specs.Sets.{has, set_of}
use Rattle.succinct.specs.Numbering.{IsGrown}
use Rattle.succinct.specs.Compression.{Source, need_of, IsKindOf, AreDistinct, IsNumbered, Adds, of_decl, of_pair, sources}
use Rattle.succinct.proofs.Rising.{has-joined_with}

-- numbers keep their needs while the table grows
pub named-grown : {X A : Type 0} (f : A → X) (old new : List X) (numbers : List ℕ) (args : List A) → IsGrown old new → map (λ i. slice_get old i) numbers ≡ map (λ a. Some (f a)) args → map (λ i. slice_get new i) numbers ≡ map (λ a. Some (f a)) args
named-grown f old new [] [] grown h = refl
named-grown f old new [] (a ∷ args) grown h = cc
named-grown f old new (n ∷ ns) [] grown h = cc
named-grown f old new (n ∷ ns) (a ∷ args) grown h =
    let first : slice_get old n ≡ Some (f a) = cc in
    let later : map (λ i. slice_get old i) ns ≡ map (λ a. Some (f a)) args = cc in
    let here : slice_get new n ≡ Some (f a) = grown n (f a) first in
    let there : map (λ i. slice_get new i) ns ≡ map (λ a. Some (f a)) args = named-grown f old new ns args grown later in
    ap (λ o. o ∷ map (λ i. slice_get new i) ns) here ∙ ap (λ os. Some (f a) ∷ os) there

pub has-push : (a : ℕ) (xs : List ℕ) (x : ℕ) → has a (xs ++ x ∷ []) ≡ (has a xs || (a == x))
has-push a xs x = list_any-append (λ y. a == y) xs (x ∷ []) ∙ last (has a xs) (a == x)
  where
    last : (b c : Bool) → b || (c || false) ≡ b || c
    last true c = refl
    last false true = refl
    last false false = refl

pub has-last : (xs : List ℕ) (x : ℕ) → has x (xs ++ x ∷ []) ≡ true
has-last xs x = has-push x xs x ∙ or_right (has x xs) (x == x) (eq-eqb x x refl)

pub has-kept : (a : ℕ) (xs : List ℕ) (x : ℕ) → has a xs ≡ true → has a (xs ++ x ∷ []) ≡ true
has-kept a xs x h = has-push a xs x ∙ or_left (has a xs) (a == x) h

-- one argument more has its number
pub named-more : {X A : Type 0} (f : A → X) (old new : List X) (numbers pushed : List ℕ) (args : List A) (i n : ℕ) (a : A) (x : X) → i < length args → a ≡ get_or args i a → IsGrown old new → slice_get new n ≡ Some x → x ≡ f a → pushed ≡ numbers ++ n ∷ []
    → map (λ j. slice_get old j) numbers ≡ map (λ y. Some (f y)) (take i args) → map (λ j. slice_get new j) pushed ≡ map (λ y. Some (f y)) (take (i + 1) args)
named-more f old new numbers pushed args i n a x low at grown is value more h =
    ap (map (λ j. slice_get new j)) more
    ∙ map-append (λ j. slice_get new j) numbers (n ∷ [])
    ∙ ap (λ os. os ++ slice_get new n ∷ []) (named-grown f old new numbers (take i args) grown h)
    ∙ ap (λ o. map (λ y. Some (f y)) (take i args) ++ o ∷ []) (is ∙ ap (λ y. Some y) value ∙ ap (λ y. Some (f y)) at)
    ∙ sym (map-append (λ y. Some (f y)) (take i args) (get_or args i a ∷ []))
    ∙ sym (ap (map (λ y. Some (f y))) (take_more args i a low))

pub grown-trans : {X : Type 0} (a b c : List X) → IsGrown a b → IsGrown b c → IsGrown a c
grown-trans a b c p q i x h = q i x (p i x h)

-- each new number is among those that were answered
pub new_needs : (first old new : ℕ) (numbers pushed : List ℕ) (n : ℕ) → pushed ≡ numbers ++ n ∷ [] → ((j : ℕ) → first ≤ j → j < old → has j numbers ≡ true) → ((j : ℕ) → old ≤ j → j < new → j ≡ n) → (j : ℕ) → first ≤ j → j < new → has j pushed ≡ true
new_needs first old new numbers pushed n more before one j low high = ap (has j) more ∙ elim (cases_lt j old) [
  | inl less ↦ has-kept j numbers n (before j low less)
  | inr past ↦ (let P : ℕ → Type 0 = λ k. has j (numbers ++ k ∷ []) ≡ true in subst P (one j past high) (has-last numbers j))
]

pub get_push : {X : Type 0} (xs : List X) (x y : X) (n : ℕ) → slice_get (xs ++ x ∷ []) n ≡ Some y → (slice_get xs n ≡ Some y) ⊎ ((n ≡ length xs) × (x ≡ y))
get_push [] x y zero h = (let e : x ≡ y = cc in inr (refl, e))
get_push [] x y (suc n) h = cc
get_push (z ∷ xs) x y zero h = inl h
get_push (z ∷ xs) x y (suc n) h = elim (get_push xs x y n h) [
  | inl before ↦ inl before
  | inr last ↦ inr (ap (λ k. suc k) last.0, last.1)
]

-- a kind keeps its meaning while the needs grow
pub kind-grown : (old new : List Need) (source : Source) (kind : Succinct) → IsGrown old new → IsKindOf old source kind → IsKindOf new source kind
kind-grown old new source kind grown k = record { numbers = k.numbers; named = named-grown need_of old new k.numbers source.args grown k.named; wants = k.wants; gives = k.gives }

-- one source more
pub numbered-more : (all : List Source) (source : Source) (needs0 needs1 : List Need) (kinds0 kinds1 : List Succinct) (ks numbers : List ℕ) (k : ℕ) (kind : Succinct) → IsNumbered all needs0 kinds0 ks
    → IsGrown needs0 needs1 → map (λ i. slice_get needs1 i) numbers ≡ map (λ a. Some (need_of a)) source.args → ((j : ℕ) → length needs0 ≤ j → j < length needs1 → has j numbers ≡ true)
    → IsGrown kinds0 kinds1 → slice_get kinds1 k ≡ Some kind → ((j : ℕ) → length kinds0 ≤ j → j < length kinds1 → j ≡ k) → kind.needs ≡ set_of numbers → kind.result ≡ source.result
    → IsNumbered (all ++ source ∷ []) needs1 kinds1 (ks ++ k ∷ [])
numbered-more all source needs0 needs1 kinds0 kinds1 ks numbers k kind before ng named new_need kg at new_kind wants gives = record {
  numbered = length-append ks (k ∷ []) ∙ ap (λ n. n + 1) before.numbered ∙ sym (length-append all (source ∷ []));
  kind_of_each = λ n k' s found number. each n k' s (get_push all source s n found) (get_push ks k k' n number);
  no_other_kind = λ j low. kinds j low (cases_lt j (length kinds0));
  no_other_need = λ i low. needs i low (cases_lt i (length needs0));
}
  where
    each : (n k' : ℕ) (s : Source) → (slice_get all n ≡ Some s) ⊎ ((n ≡ length all) × (source ≡ s)) → (slice_get ks n ≡ Some k') ⊎ ((n ≡ length ks) × (k ≡ k')) → (kind' : Succinct) × (slice_get kinds1 k' ≡ Some kind') × IsKindOf needs1 s kind'
    each n k' s (inl a) (inl b) = (let old = before.kind_of_each n k' s a b in (old.0, kg k' old.0 old.1, kind-grown needs0 needs1 s old.0 ng old.2))
    each n k' s (inl a) (inr b) = (let w = slice_get_within all n s a in absurd (omega (arith, w, b.0, before.numbered)))
    each n k' s (inr a) (inl b) = (let w = slice_get_within ks n k' b in absurd (omega (arith, w, a.0, before.numbered)))
    each n k' s (inr a) (inr b) =
        let here : IsKindOf needs1 source kind = record { numbers = numbers; named = named; wants = wants; gives = gives } in
        (kind, subst (λ j. slice_get kinds1 j ≡ Some kind) b.1 at, subst (λ t. IsKindOf needs1 t kind) a.1 here)

    kinds : (j : ℕ) → j < length kinds1 → (j < length kinds0) ⊎ (length kinds0 ≤ j) → has j (ks ++ k ∷ []) ≡ true
    kinds j low (inl less) = has-kept j ks k (before.no_other_kind j less)
    kinds j low (inr more) = subst (λ i. has j (ks ++ i ∷ []) ≡ true) (new_kind j more low) (has-last ks j)

    needs : (i : ℕ) → i < length needs1 → (i < length needs0) ⊎ (length needs0 ≤ i) → (j : ℕ) × (kind' : Succinct) × (slice_get kinds1 j ≡ Some kind') × (has i kind'.needs ≡ true)
    needs i low (inl less) = (let old = before.no_other_need i less in (old.0, old.1, kg old.0 old.1 old.2, old.3))
    needs i low (inr more) = (k, kind, at, ap (has i) wants ∙ has-joined_with i [] numbers ∙ new_need i more low)

all_at : {X : Type 0} (P : X → Type 0) (xs : List X) (i : ℕ) (x : X) → AllByRecursion P xs → slice_get xs i ≡ Some x → P x
all_at P [] i x all h = cc
all_at P (y ∷ xs) zero x all h = (let e : y ≡ x = cc in subst P e all.0)
all_at P (y ∷ xs) (suc i) x all h = all_at P xs i x all.1 h

-- no two keys of a table are the same
pub distinct_from : {X : Type 0} (eq : X → X → Bool) → ((x : X) → eq x x ≡ true) → (xs : List X) → IsDistinct eq xs → AreDistinct xs
unfolding IsDistinct
distinct_from eq r [] d i j x p q = cc
distinct_from eq r (y ∷ xs) d zero zero x p q = refl
distinct_from eq r (y ∷ xs) d zero (suc j) x p q = (let e : y ≡ x = cc in absurd (false≢true (sym (all_at (λ z. eq y z ≡ false) xs j x d.0 q) ∙ subst (λ z. eq y z ≡ true) e (r y))))
distinct_from eq r (y ∷ xs) d (suc i) zero x p q = (let e : y ≡ x = cc in absurd (false≢true (sym (all_at (λ z. eq y z ≡ false) xs i x d.0 p) ∙ subst (λ z. eq y z ≡ true) e (r y))))
distinct_from eq r (y ∷ xs) d (suc i) (suc j) x p q = ap (λ n. suc n) (distinct_from eq r xs d.1 i j x p q)

pub adds-none : (needs : List Need) (kinds : List Succinct) (ks : List ℕ) → Adds [] needs kinds ks needs kinds ks
adds-none needs kinds ks all before = subst (λ a. IsNumbered a needs kinds ks) (sym (append-nil all)) before

-- one more of a list of sources
pub adds-more : {A : Type 0} (f : A → Source) (xs : List A) (i : ℕ) (x : A) (needs0 needs1 needs2 : List Need) (kinds0 kinds1 kinds2 : List Succinct) (ks0 ks1 ks2 : List ℕ) → i < length xs → x ≡ get_or xs i x
    → Adds (map f (take i xs)) needs0 kinds0 ks0 needs1 kinds1 ks1 → Adds (f x ∷ []) needs1 kinds1 ks1 needs2 kinds2 ks2 → Adds (map f (take (i + 1) xs)) needs0 kinds0 ks0 needs2 kinds2 ks2
adds-more f xs i x needs0 needs1 needs2 kinds0 kinds1 kinds2 ks0 ks1 ks2 low at p q all before =
    let one : map f (take i xs) ++ f x ∷ [] ≡ map f (take (i + 1) xs) = sym (ap (map f) (take_more xs i x low) ∙ map-append f (take i xs) (get_or xs i x ∷ []) ∙ ap (λ y. map f (take i xs) ++ f y ∷ []) (sym at)) in
    let joined : (all ++ map f (take i xs)) ++ f x ∷ [] ≡ all ++ map f (take (i + 1) xs) = append_assoc all (map f (take i xs)) (f x ∷ []) ∙ ap (λ l. all ++ l) one in
    subst (λ a. IsNumbered a needs2 kinds2 ks2) joined (q (all ++ map f (take i xs)) (p all before))

pub adds-all : {A : Type 0} (f : A → Source) (xs : List A) (i : ℕ) (needs0 needs1 : List Need) (kinds0 kinds1 : List Succinct) (ks0 ks1 : List ℕ) → length xs ≤ i → Adds (map f (take i xs)) needs0 kinds0 ks0 needs1 kinds1 ks1 → Adds (map f xs) needs0 kinds0 ks0 needs1 kinds1 ks1
adds-all f xs i needs0 needs1 kinds0 kinds1 ks0 ks1 past p = subst (λ l. Adds (map f l) needs0 kinds0 ks0 needs1 kinds1 ks1) (take_all i xs past) p

pub numbered-none : (needs : List Need) (kinds : List Succinct) (ks : List ℕ) → needs ≡ [] → kinds ≡ [] → ks ≡ [] → IsNumbered [] needs kinds ks
numbered-none needs kinds ks n k e = record {
  numbered = ap length e;
  kind_of_each = λ i j s h h'. absurd (none i s h);
  no_other_kind = λ j low. (let z = ap length k in absurd (omega (arith, low, z)));
  no_other_need = λ i low. (let z = ap length n in absurd (omega (arith, low, z)));
}
  where
    none : (i : ℕ) (s : Source) → slice_get [] i ≡ Some s → ⊥
    none i s h = (let w = slice_get_within [] i s h in omega (arith, w))

-- the declarations and then the pairs
pub numbered-both : (g : Parts) (ds : List Decl) (ps : List (ℕ × ℕ)) (n0 n1 n2 : List Need) (k0 k1 k2 : List Succinct) (ks0 ks1 ks2 : List ℕ) → ds ≡ g.decls → ps ≡ g.pairs
    → IsNumbered [] n0 k0 ks0 → Adds (map of_decl ds) n0 k0 ks0 n1 k1 ks1 → Adds (map of_pair ps) n1 k1 ks1 n2 k2 ks2 → IsNumbered (sources g) n2 k2 ks2
numbered-both g ds ps n0 n1 n2 k0 k1 k2 ks0 ks1 ks2 d p start one two =
    let all : map of_decl ds ++ map of_pair ps ≡ sources g = ap (λ l. map of_decl l ++ map of_pair ps) d ∙ ap (λ l. map of_decl g.decls ++ map of_pair l) p in
    subst (λ a. IsNumbered a n2 k2 ks2) all (two (map of_decl ds) (one [] start))

-- each number is that of a kind
pub numbers-in_range : (all : List Source) (needs : List Need) (kinds : List Succinct) (ks : List ℕ) → IsNumbered all needs kinds ks → (i k : ℕ) → slice_get ks i ≡ Some k → k < length kinds
numbers-in_range all needs kinds ks h i k at = go (slice_get all i) refl
  where
    go : (o : Option Source) → slice_get all i ≡ o → k < length kinds
    go None e = (let w = slice_get_within ks i k at in let past = past_end all i e in absurd (omega (arith, w, past, h.numbered)))
      where
        past_end : (xs : List Source) (j : ℕ) → slice_get xs j ≡ None → length xs ≤ j
        past_end [] j e' = omega arith
        past_end (x ∷ xs) zero e' = cc
        past_end (x ∷ xs) (suc j) e' = (let m = past_end xs j e' in omega (arith, m))
    go (Some s) e = (let found = h.kind_of_each i k s e at in slice_get_within kinds k found.0 found.1)

-- each need and each kind equals itself
pub need-refl : (x : Need) → eq_of_both (on (λ (n : Need). n.params) (pointwise nat_eq)) (eq_of_both (on (λ (n : Need). n.result) nat_eq) (on (λ (n : Need). n.lambda) beq)) x x ≡ true
need-refl x = and_from _ _ (nat_list_eq_equiv.refl x.params) (and_from _ _ (eq-eqb x.result x.result refl) (same x.lambda))
  where
    same : (b : Bool) → beq b b ≡ true
    same true = refl
    same false = refl

pub kind-refl : (x : Succinct) → eq_of_both (on (λ (k : Succinct). k.needs) (pointwise nat_eq)) (on (λ (k : Succinct). k.result) nat_eq) x x ≡ true
kind-refl x = and_from _ _ (nat_list_eq_equiv.refl x.needs) (eq-eqb x.result x.result refl)

pub numbered-same : (g h : Parts) (needs : List Need) (kinds : List Succinct) (ks : List ℕ) → g ≡ h → IsNumbered (sources g) needs kinds ks → IsNumbered (sources h) needs kinds ks
numbered-same g h needs kinds ks e n = subst (λ (p : Parts). IsNumbered (sources p) needs kinds ks) e n

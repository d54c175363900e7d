-- No entry of a written pool stands twice.
use Rattle.std.proofs.Common.{◌≡◌, ◌≢◌, ℕ, zero, suc, arith, AllPairs, Bool, true, false, ◌||◌, cond, List, [], ◌∷◌, ◌++◌, map, fold, length, ◌<◌, refl, sym, ap, ◌∙◌, Option, Some, None}
use Rattle.std.specs.Set.{is_member}
use Rattle.std.specs.List.{flat_map, AllByRecursion}
use Rattle.std.proofs.lemmas.List.Elements.{All-from_recursion}
use Rattle.byteorder.specs.Endian.{big_number}
use Rattle.class_pool.specs.Spelling.{utf8, fixed}
use Rattle.class_pool.specs.Index.{text_in}
use Rattle.class_pool.specs.Units.{text_of}
use Rattle.class_pool.proofs.UnitLaws.{text_again}
use Rattle.class_shape.specs.declared.shapes.ClassShape.{ClassShape}
use Rattle.class_shape.specs.declared.shapes.MemberShape.{MemberShape}
use Rattle.class_shape.specs.declared.shapes.InnerRow.{InnerRow}
use Rattle.workload.specs.Modified.{modified}
use Rattle.workload.specs.Needs.{Needed, class, text, same, add, once, needs, place, optional, class_needs, text_needs, member_needs, row_needs, inner_needs}
use Rattle.workload.specs.Layout.{entry_in, entries_in, pool_of}
use Rattle.workload.specs.Spelled.{IsSpelled}
use Rattle.workload.proofs.PoolLaws.{has_all, same_self, text_stands, place_short, number_again}
use Rattle.workload.proofs.FileLaws.{Holds, IsGood, split, spells}

-- ---- needed entries, each once
abbrev Apart : List Needed → Type 0
Apart [] = Unit {0}
Apart (x ∷ xs) = AllByRecursion (λ y. x ≢ y) xs × Apart xs

either : (a b : Bool) → (a || b) ≡ false → (a ≡ false) × (b ≡ false)
either true b e = absurd cc
either false b e = (refl, e)

all_last : (P : Needed → Type 0) (xs : List Needed) (n : Needed) → AllByRecursion P xs → P n → AllByRecursion P (xs ++ n ∷ [])
all_last P [] n all p = (p, tt)
all_last P (x ∷ xs) n all p = (all.0, all_last P xs n all.1 p)

other : (n x : Needed) → same n x ≡ false → x ≢ n
other n x e is = go (sym (same_self n) ∙ ap (same n) (sym is) ∙ e)
  where
    go : true ≡ false → ⊥
    go e = cc

apart_last : (n : Needed) (pool : List Needed) → is_member same pool n ≡ false → Apart pool → Apart (pool ++ n ∷ [])
apart_last n [] e apart = (tt, tt)
apart_last n (x ∷ xs) e apart = let p = either (same n x) (is_member same xs n) e in (all_last (λ y. x ≢ y) xs n apart.0 (other n x p.0), apart_last n xs p.1 apart.1)

apart_add : (n : Needed) (pool : List Needed) → Apart pool → Apart (add pool n)
apart_add n pool apart = go (is_member same pool n) refl
  where
    go : (b : Bool) → is_member same pool n ≡ b → Apart (cond b pool (pool ++ n ∷ []))
    go true e = apart
    go false e = apart_last n pool e apart

apart_later : (ns pool : List Needed) → Apart pool → Apart (fold add pool ns)
apart_later [] pool apart = apart
apart_later (n ∷ ns) pool apart = apart_later ns (add pool n) (apart_add n pool apart)

apart_once : (ns : List Needed) → Apart (once ns)
unfolding once
apart_once ns = apart_later ns [] tt

-- ---- a class's name is in the pool too
abbrev name_of : Needed → Needed
name_of (class n) = text n
name_of (text t) = text t

abbrev Named : List Needed → List Needed → Type 0
Named pool ns = AllByRecursion (λ n. is_member same pool (name_of n) ≡ true) ns

join : (pool xs ys : List Needed) → Named pool xs → Named pool ys → Named pool (xs ++ ys)
join pool [] ys a b = b
join pool (x ∷ xs) ys a b = (a.0, join pool xs ys a.1 b)

abbrev Names : (List Needed → Type 0)
Names ns = (pool : List Needed) → Holds pool ns → Named pool ns

both_named : (xs ys : List Needed) → Names xs → Names ys → Names (xs ++ ys)
both_named xs ys a b pool h = let p = split pool xs ys h in join pool xs ys (a pool p.0) (b pool p.1)

class_named : (n : List ℕ) → Names (class_needs n)
class_named n pool h = (h.1.0, (h.1.0, tt))

class_or_none_named : (o : Option (List ℕ)) → Names (optional class_needs o)
class_or_none_named None pool h = tt
class_or_none_named (Some n) pool h = class_named n pool h

text_or_none_named : (o : Option (List ℕ)) → Names (optional text_needs o)
text_or_none_named None pool h = tt
text_or_none_named (Some t) pool h = h

each_named : {X : Type 0} (f : X → List Needed) → ((x : X) → Names (f x)) → (xs : List X) → Names (flat_map f xs)
each_named f each [] pool h = tt
each_named f each (x ∷ xs) pool h = both_named (f x) (flat_map f xs) (each x) (each_named f each xs) pool h

member_named : (m : MemberShape) → Names (member_needs m)
member_named m = both_named (optional text_needs m.name) (optional text_needs m.descriptor) (text_or_none_named m.name) (text_or_none_named m.descriptor)

row_named : (r : InnerRow) → Names (row_needs r)
row_named r = both_named (class_needs r.inner) (optional class_needs r.outer ++ optional text_needs r.name) (class_named r.inner)
    (both_named (optional class_needs r.outer) (optional text_needs r.name) (class_or_none_named r.outer) (text_or_none_named r.name))

inner_named : (rs : List InnerRow) → Names (inner_needs rs)
inner_named [] pool h = tt
inner_named (r ∷ rs) pool h = (h.0, each_named row_needs row_named (r ∷ rs) pool h.1)

needs_named : (s : ClassShape) → Names (needs s)
unfolding needs
needs_named s =
    both_named (class_needs s.name) _ (class_named s.name)
    (both_named (optional class_needs s.parent) _ (class_or_none_named s.parent)
    (both_named (flat_map class_needs s.interfaces) _ (each_named class_needs class_named s.interfaces)
    (both_named (flat_map member_needs s.fields) _ (each_named member_needs member_named s.fields)
    (both_named (flat_map member_needs s.methods) (inner_needs s.inner) (each_named member_needs member_named s.methods) (inner_named s.inner)))))

all_add : (P : Needed → Type 0) (n : Needed) (pool : List Needed) → AllByRecursion P pool → P n → AllByRecursion P (add pool n)
all_add P n pool all p = go (is_member same pool n)
  where
    go : (b : Bool) → AllByRecursion P (cond b pool (pool ++ n ∷ []))
    go true = all
    go false = all_last P pool n all p

all_later : (P : Needed → Type 0) (ns pool : List Needed) → AllByRecursion P pool → AllByRecursion P ns → AllByRecursion P (fold add pool ns)
all_later P [] pool all more = all
all_later P (n ∷ ns) pool all more = all_later P ns (add pool n) (all_add P n pool all more.0) more.1

all_once : (P : Needed → Type 0) (ns : List Needed) → AllByRecursion P ns → AllByRecursion P (once ns)
unfolding once
all_once P ns all = all_later P ns [] tt all

-- ---- different needed entries have different entries
some_same : (a b : List ℕ) (o p : Option (List ℕ)) → o ≡ Some a → p ≡ Some b → o ≡ p → a ≡ b
some_same a b o p x y e = cc

text_same : (pool : List Needed) (a b : List ℕ) → IsGood pool → is_member same pool (text a) ≡ true → is_member same pool (text b) ≡ true → modified a ≡ modified b → a ≡ b
text_same pool a b good p q e =
    some_same a b (text_of (modified a)) (text_of (modified b)) (text_again (modified a) a (spells pool a good p)) (text_again (modified b) b (spells pool b good q)) (ap text_of e)

utf8_is : (x y : List ℕ) → utf8 x ≡ utf8 y → x ≡ y
utf8_is x y e = cc

fixed_is : (x y : List ℕ) → fixed 7 x ≡ fixed 7 y → x ≡ y
fixed_is x y e = cc

no_text : (x y : List ℕ) → fixed 7 x ≡ utf8 y → ⊥
no_text x y e = cc

class_same : (pool : List Needed) (a b : List ℕ) → IsGood pool → is_member same pool (text a) ≡ true → is_member same pool (text b) ≡ true → entry_in pool (class a) ≡ entry_in pool (class b) → a ≡ b
class_same pool a b good p q e =
    let places : place pool (text a) ≡ place pool (text b) =
    sym (number_again (place pool (text a)) (place_short pool (text a) good.small)) ∙ ap (big_number 2) (fixed_is _ _ e) ∙ number_again (place pool (text b)) (place_short pool (text b) good.small) in
    text_same pool a b good p q (some_same (modified a) (modified b) _ _ (text_stands pool a p) (text_stands pool b q) (ap (text_in (entries_in pool)) places))

entry_same : (pool : List Needed) (x y : Needed) → IsGood pool → is_member same pool (name_of x) ≡ true → is_member same pool (name_of y) ≡ true → entry_in pool x ≡ entry_in pool y → x ≡ y
entry_same pool (class a) (class b) good p q e = ap class (class_same pool a b good p q e)
entry_same pool (class a) (text b) good p q e = absurd (no_text _ _ e)
entry_same pool (text a) (class b) good p q e = absurd (no_text _ _ (sym e))
entry_same pool (text a) (text b) good p q e = ap text (text_same pool a b good p q (utf8_is _ _ e))

apart_from : (pool : List Needed) (x : Needed) (ys : List Needed) → IsGood pool → is_member same pool (name_of x) ≡ true → Named pool ys → AllByRecursion (λ y. x ≢ y) ys → AllByRecursion (λ e. entry_in pool x ≢ e) (map (entry_in pool) ys)
apart_from pool x [] good p named apart = tt
apart_from pool x (y ∷ ys) good p named apart = ((λ e. apart.0 (entry_same pool x y good p named.0 e)), apart_from pool x ys good p named.1 apart.1)

pairs_cons : {X : Type 0} (R : X → X → Type 0) (x : X) (xs : List X) → AllByRecursion (R x) xs → AllPairs R xs → AllPairs R (x ∷ xs)
pairs_cons R x xs first rest i zero d l m = absurd (omega (arith, l))
pairs_cons R x xs first rest zero (suc j) d l m = All-from_recursion (R x) xs first j d (omega (arith, m))
pairs_cons R x xs first rest (suc i) (suc j) d l m = rest i j d (omega (arith, l)) (omega (arith, m))

distinct_in : (pool xs : List Needed) → IsGood pool → Named pool xs → Apart xs → AllPairs (λ a b. a ≢ b) (map (entry_in pool) xs)
distinct_in pool [] good named apart = λ i j d l m. absurd (omega (arith, m))
distinct_in pool (x ∷ xs) good named apart = pairs_cons (λ a b. a ≢ b) (entry_in pool x) (map (entry_in pool) xs) (apart_from pool x xs good named.0 named.1 apart.0) (distinct_in pool xs good named.1 apart.1)

pub pool_distinct : (s : ClassShape) → length (pool_of s) < 65535 → AllByRecursion IsSpelled (pool_of s) → AllPairs (λ a b. a ≢ b) (entries_in (pool_of s))
pool_distinct s small spelled =
    let good : IsGood (pool_of s) = record { small = small; spelled = spelled } in
    let named : Named (pool_of s) (needs s) = needs_named s (pool_of s) (has_all (needs s)) in
    distinct_in (pool_of s) (pool_of s) good (all_once (λ n. is_member same (pool_of s) (name_of n) ≡ true) (needs s) named) (apart_once (needs s))

-- A pool that holds each of some needed entries once has each at its place.
use Rattle.std.proofs.Common.{◌≡◌, ◌≢◌, ℕ, suc, ◌+◌, ◌<◌, ◌≤◌, Bool, true, false, cond, ◌||◌, ltb, List, [], ◌∷◌, ◌++◌, map, fold, length, refl, sym, ap, subst, ◌∙◌, Option, Some, None, slice_get, arith, rules, add-one}
use Rattle.std.specs.Prelude.{not}
use Rattle.std.specs.Set.{is_member}
use Rattle.std.specs.List.{position_or_len, AllByRecursion}
use Rattle.std.proofs.lemmas.Slice.Eq.{bytes_eq-Decides}
use Rattle.std.specs.Option.{option_map}
use Rattle.std.proofs.lemmas.Option.{slice_get-map}
use Rattle.std.proofs.lemmas.Bool.{ltb-true}
use Rattle.byteorder.specs.Endian.{big_bytes, big_number}
use Rattle.class_pool.specs.Spelling.{Entry, IsEntry, places, IsHead}
use Rattle.class_pool.specs.Index.{slots, flat, slot, text_of_entry, text_in, class_index, text_at_index, name_in}
use Rattle.class_shape.specs.declared.shapes.ClassShape.{ClassShape}
use Rattle.workload.specs.Modified.{modified}
use Rattle.workload.specs.Layout.{entry_in, entries_in, text_place, class_place, head_in}
use Rattle.workload.specs.Spelled.{IsSpelled, IsWritten}
use Rattle.workload.specs.Needs.{Needed, class, text, same, add, once, number, place}

pub same_is : (a b : Needed) → same a b ≡ true → a ≡ b
same_is (class a) (class b) e = ap class ((bytes_eq-Decides a b).0 e)
same_is (class a) (text b) e = absurd cc
same_is (text a) (class b) e = absurd cc
same_is (text a) (text b) e = ap text ((bytes_eq-Decides a b).0 e)

pub same_self : (a : Needed) → same a a ≡ true
same_self (class a) = (bytes_eq-Decides a a).1 refl
same_self (text a) = (bytes_eq-Decides a a).1 refl

or_left : (a b : Bool) → a ≡ true → (a || b) ≡ true
or_left true b e = refl
or_left false b e = absurd cc

or_right : (a b : Bool) → b ≡ true → (a || b) ≡ true
or_right true b e = refl
or_right false b e = e

has_prefix : (n : Needed) (xs ys : List Needed) → is_member same xs n ≡ true → is_member same (xs ++ ys) n ≡ true
has_prefix n [] ys e = absurd cc
has_prefix n (x ∷ xs) ys e = go (same n x) e (has_prefix n xs ys)
  where
    go : (b : Bool) → (b || is_member same xs n) ≡ true → (is_member same xs n ≡ true → is_member same (xs ++ ys) n ≡ true) → (b || is_member same (xs ++ ys) n) ≡ true
    go true e more = refl
    go false e more = more e

has_last : (n : Needed) (xs : List Needed) → is_member same (xs ++ n ∷ []) n ≡ true
has_last n [] = or_left (same n n) false (same_self n)
has_last n (x ∷ xs) = or_right (same n x) _ (has_last n xs)

has_kept : (n m : Needed) (pool : List Needed) → is_member same pool n ≡ true → is_member same (add pool m) n ≡ true
has_kept n m pool e = go (is_member same pool m)
  where
    go : (b : Bool) → is_member same (cond b pool (pool ++ m ∷ [])) n ≡ true
    go true = e
    go false = has_prefix n pool (m ∷ []) e

has_added : (n : Needed) (pool : List Needed) → is_member same (add pool n) n ≡ true
has_added n pool = go (is_member same pool n) refl
  where
    go : (b : Bool) → is_member same pool n ≡ b → is_member same (cond b pool (pool ++ n ∷ [])) n ≡ true
    go true e = e
    go false e = has_last n pool

has_later : (n : Needed) (ns pool : List Needed) → is_member same pool n ≡ true → is_member same (fold add pool ns) n ≡ true
has_later n [] pool e = e
has_later n (m ∷ ns) pool e = has_later n ns (add pool m) (has_kept n m pool e)

has_each : (ns pool : List Needed) → AllByRecursion (λ n. is_member same (fold add pool ns) n ≡ true) ns
has_each [] pool = tt
has_each (n ∷ ns) pool = (has_later n ns (add pool n) (has_added n pool), has_each ns (add pool n))

-- each needed entry is in the pool
pub has_all : (ns : List Needed) → AllByRecursion (λ n. is_member same (once ns) n ≡ true) ns
unfolding once
has_all ns = has_each ns []

-- ---- places
abbrev some : Needed → Option Needed
some n = Some n

pub record Stands (pool : List Needed) (n : Needed) (i : ℕ) : Type 0 where
  pub within : i < length pool
  pub at : slice_get pool i ≡ Some n

at_suc : (x : Needed) (xs : List Needed) (i : ℕ) (n : Needed) → slice_get xs i ≡ Some n → slice_get (x ∷ xs) (1 + i) ≡ Some n
at_suc x xs i n e = search rules

found : (n : Needed) (pool : List Needed) → is_member same pool n ≡ true → Stands pool n (position_or_len (same n) pool)
found n [] e = absurd cc
found n (x ∷ xs) e = go (same n x) refl e (found n xs)
  where
    go : (b : Bool) → same n x ≡ b → (b || is_member same xs n) ≡ true → (is_member same xs n ≡ true → Stands xs n (position_or_len (same n) xs)) → Stands (x ∷ xs) n (cond (not b) (1 + position_or_len (same n) xs) 0)
    go true is e more = record { within = omega arith; at = ap (λ (m : Needed). some m) (sym (same_is n x is)) }
    go false is e more = let s = more e in record { within = omega (arith, s.within); at = at_suc x xs (position_or_len (same n) xs) n s.at }

place_is : (pool : List Needed) (n : Needed) → is_member same pool n ≡ true → place pool n ≡ position_or_len (same n) pool + 1
unfolding place
place_is pool n e = let s = found n pool e in go (ltb (position_or_len (same n) pool) (length pool)) refl s.within
  where
    go : (b : Bool) → ltb (position_or_len (same n) pool) (length pool) ≡ b → position_or_len (same n) pool < length pool → number (cond b (Some (position_or_len (same n) pool)) None) ≡ position_or_len (same n) pool + 1
    go true e lt = refl
    go false e lt = absurd (search (rules, e, lt))

-- ---- what stands at a place
abbrev some_entry : Entry → Option Entry
some_entry e = Some e

slots_are : (all pool : List Needed) → slots (map (entry_in all) pool) ≡ map some_entry (map (entry_in all) pool)
unfolding slots
slots_are all [] = refl
slots_are all (class n ∷ ns) = ap (λ (t : List (Option Entry)). some_entry (entry_in all (class n)) ∷ t) (slots_are all ns)
slots_are all (text t ∷ ns) = ap (λ (u : List (Option Entry)). some_entry (entry_in all (text t)) ∷ u) (slots_are all ns)

stands : (pool : List Needed) (n : Needed) → is_member same pool n ≡ true → slot (entries_in pool) (place pool n) ≡ Some (entry_in pool n)
stands pool n e =
    let k : ℕ = position_or_len (same n) pool in
    let s = found n pool e in
    let at : place pool n ≡ suc k = place_is pool n e ∙ add-one k in
    ap (slot (entries_in pool)) at
    ∙ ap (λ (xs : List (Option Entry)). flat (slice_get xs k)) (slots_are pool pool)
    ∙ ap flat (slice_get-map some_entry (map (entry_in pool) pool) k)
    ∙ ap (λ (o : Option Entry). flat (option_map some_entry o)) (slice_get-map (entry_in pool) pool k)
    ∙ ap (λ (o : Option Needed). flat (option_map some_entry (option_map (entry_in pool) o))) s.at

pub text_stands : (pool : List Needed) (t : List ℕ) → is_member same pool (text t) ≡ true → text_in (entries_in pool) (text_place pool t) ≡ Some (modified t)
text_stands pool t e = ap text_of_entry (stands pool (text t) e)

pub place_short : (pool : List Needed) (n : Needed) → length pool < 65535 → place pool n < 65536
unfolding place
place_short pool n small = go (ltb (position_or_len (same n) pool) (length pool)) refl
  where
    go : (b : Bool) → ltb (position_or_len (same n) pool) (length pool) ≡ b → number (cond b (Some (position_or_len (same n) pool)) None) < 65536
    go true e = let lt = ltb-true _ _ e in omega (arith, lt, small)
    go false e = omega arith

pub place_some : (pool : List Needed) (n : Needed) → is_member same pool n ≡ true → place pool n ≢ 0
place_some pool n e z = let is = place_is pool n e in omega (arith, is, z)

pub number_again : (x : ℕ) → x < 65536 → big_number 2 (big_bytes 2 x) ≡ x
number_again x lt = omega (arith, lt)

pub name_stands : (pool : List Needed) (n : List ℕ) → length pool < 65535 → is_member same pool (class n) ≡ true → is_member same pool (text n) ≡ true → name_in (entries_in pool) (class_place pool n) ≡ Some (modified n)
name_stands pool n small c t =
    ap (λ (o : Option Entry). text_at_index (entries_in pool) (class_index o)) (stands pool (class n) c)
    ∙ ap (text_in (entries_in pool)) (number_again (place pool (text n)) (place_short pool (text n) small))
    ∙ text_stands pool n t

pub holds_of : (P : Needed → Type 0) (n : Needed) (pool : List Needed) → is_member same pool n ≡ true → AllByRecursion P pool → P n
holds_of P n [] e all = absurd cc
holds_of P n (x ∷ xs) e all = go (same n x) refl e (holds_of P n xs)
  where
    go : (b : Bool) → same n x ≡ b → (b || is_member same xs n) ≡ true → (is_member same xs n ≡ true → AllByRecursion P xs → P n) → P n
    go true is e more = subst P (sym (same_is n x is)) all.0
    go false is e more = more e all.1

places_are : (all pool : List Needed) → places (map (entry_in all) pool) ≡ length pool
unfolding places
places_are all [] = refl
places_are all (class n ∷ ns) = omega (arith, places_are all ns)
places_are all (text t ∷ ns) = omega (arith, places_are all ns)

entries_fit : (all pool : List Needed) → AllByRecursion IsSpelled pool → AllByRecursion IsEntry (map (entry_in all) pool)
entries_fit all [] h = tt
entries_fit all (class n ∷ ns) h = (refl, entries_fit all ns h.1)
entries_fit all (text t ∷ ns) h = (h.0.1, entries_fit all ns h.1)

pub head_fits : (pool : List Needed) (s : ClassShape) → 45 ≤ s.major → length pool < 65535 → IsWritten pool s → IsHead (head_in pool s)
head_fits pool s new small w = record {
  header = record { minor = w.minor; major = w.major; new = new; count = omega (arith, small) };
  each = entries_fit pool pool w.spelled;
  full = omega (arith, places_are pool pool);
}

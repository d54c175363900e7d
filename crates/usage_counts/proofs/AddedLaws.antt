-- Uses that are added to a map.
use Rattle.std.proofs.Common.{Ordering, Less, Equal, Greater, ◌≡◌, ℕ, zero, suc, ◌+◌, ◌<◌, Bool, true, false, cond, List, [], ◌∷◌, take, length, get_or, arith, Option, Some, None, refl, sym, ap, ◌∙◌, subst, bytes_eq, zero-add}
use Rattle.std.specs.Prelude.{String, string_bytes, string_cmp}
use Rattle.std.specs.Option.{unwrap_or, IfSome, is_some}
use Rattle.std.specs.List.{All}
use Rattle.std.specs.List.Sorted.{IsStrictlySortedBy}
use Rattle.std.specs.BTreeMap.{BTreeMap, UpdatesBy, is_at, get_by_text, insert_entry}
use Rattle.std.specs.Map.{lookup, keys_of, values_of}
use Rattle.std.specs.Cmp.Lexicographic.{slice_cmp}
use Rattle.std.specs.Ordering.{nat_cmp, is_eq, match_ordering}
use Rattle.std.specs.String.{string_cmp_total}
use Rattle.std.specs.Cmp.{eq_by_cmp_equiv}
use Rattle.std.proofs.lemmas.Cmp.{nat_list_eq_equiv}
use Rattle.std.proofs.lemmas.Bool.{cond_both, lt-ltb}
use Rattle.std.proofs.lemmas.Slice.Eq.{bytes_eq-Decides}
use Rattle.std.proofs.lemmas.Map.Keys.{IsDistinct-from_sorted}
use Rattle.std.proofs.lemmas.Map.Views.{All-values_from_lookup}
use Rattle.std.proofs.lemmas.List.Sums.{sum_by_more}
use Rattle.std.proofs.lemmas.Map.Text.{btree_map_updates_text}
use Rattle.usage_counts.specs.Counts.{Key, held, with_uses, AreUsed}
use Rattle.usage_counts.specs.Additions.{placed_by, raised_by, is_used, used_of}
use Rattle.usage_counts.specs.declared.tallies.KeyTally.{KeyTally}
use Rattle.usage_counts.specs.Tallies.{uses_in, amount}

pub placed-then : (m n : ℕ) (o : Option ℕ) → placed_by n (placed_by m o) ≡ placed_by (m + n) o
placed-then zero n o = ap (λ k. placed_by k o) (sym (zero-add n))
placed-then (suc m) zero o = ap (λ k. placed_by k o) (let e : suc m ≡ suc m + 0 = omega arith in e)
placed-then (suc m) (suc n) o = ap (λ k. placed_by k o) (let e : suc (suc (m + n)) ≡ suc m + suc n = omega arith in e)

held_more : (v m n : ℕ) → held (held (v + m) + n) ≡ held (v + (m + n))
held_more v m n = omega arith

raised_some : (v m n : ℕ) → raised_by n (Some (held (v + suc m))) ≡ Some (held (v + (suc m + n)))
raised_some v m zero = ap (λ k. Some (held (v + k))) (let e : suc m ≡ suc m + 0 = omega arith in e)
raised_some v m (suc n) = ap Some (held_more v (suc m) (suc n))

raised_none : (n : ℕ) → raised_by n None ≡ None
raised_none zero = refl
raised_none (suc n) = refl

raised_is : (v n k : ℕ) → k ≡ suc n → raised_by k (Some v) ≡ Some (held (v + k))
raised_is v n k e = subst (λ j. raised_by j (Some v) ≡ Some (held (v + j))) (sym e) refl

pub raised-then : (m n : ℕ) (o : Option ℕ) → raised_by n (raised_by m o) ≡ raised_by (m + n) o
raised-then zero n o = ap (λ k. raised_by k o) (sym (zero-add n))
raised-then (suc m) n None = raised_none n ∙ sym (raised_none (suc m + n))
raised-then (suc m) n (Some v) = raised_some v m n ∙ sym (raised_is v (m + n) (suc m + n) (omega arith))

-- Places first, and then uses.
pub placed-raised : (n : ℕ) (o : Option ℕ) → raised_by n (placed_by n o) ≡ with_uses o n
placed-raised zero o = refl
placed-raised (suc n) o = refl

-- One tally more.
pub next-tally : (q : Key) (ts : List KeyTally) (i : ℕ) (d : KeyTally) → i < length ts → amount q (take (i + 1) ts) ≡ amount q (take i ts) + uses_in q (get_or ts i d)
next-tally q ts i d l = sum_by_more (uses_in q) ts i d l

-- A new key without a use is among those that are taken out.
by_order : {Y : Type 0} (o : Ordering) (e : String Y × ℕ) (es : List (String Y × ℕ)) (k : String Y) → cond (is_eq o) (Some e.1) (lookup (is_at (string_cmp k)) es) ≡ None → (lookup (is_at (string_cmp k)) es ≡ None → used_of (insert_entry string_cmp es k 0) ≡ used_of es) → used_of (match_ordering o ((k, 0) ∷ e ∷ es) ((e.0, 0) ∷ es) (e ∷ insert_entry string_cmp es k 0)) ≡ used_of (e ∷ es)
by_order Less e es k h more = refl
by_order Equal e es k h more = absurd cc
by_order Greater e es k h more = ap (λ r. cond (is_used e) (e ∷ r) r) (more h)

pub none-used : {Y : Type 0} (es : List (String Y × ℕ)) (k : String Y) → lookup (is_at (string_cmp k)) es ≡ None → used_of (insert_entry string_cmp es k 0) ≡ used_of es
none-used [] k h = refl
none-used (e ∷ es) k h = by_order (string_cmp k e.0) e es k h (none-used es k)

-- All that is used is kept.
kept_here : {K : Type 0} (b : Bool) (e : K × ℕ) (es kept : List (K × ℕ)) → b ≡ true → kept ≡ es → cond b (e ∷ kept) kept ≡ e ∷ es
kept_here true e es kept h r = ap (λ x. e ∷ x) r
kept_here false e es kept h r = absurd cc

pub all-used : {K : Type 0} (es : List (K × ℕ)) → AreUsed es → used_of es ≡ es
all-used [] h = refl
all-used (e ∷ es) h = kept_here (is_used e) e es (used_of es) (lt-ltb 0 e.1 h.0) (all-used es h.1)

-- A change at one key, seen at each: `step` says what a key has after so many steps.
same_key : (k q : Key) → bytes_eq k q ≡ true → k ≡ q
same_key k q e = (bytes_eq-Decides k q).0 e

at_true : (q k : Key) (n : ℕ) (f : Key → Option ℕ) (step : ℕ → Option ℕ → Option ℕ) (w : Option ℕ) → step n (f k) ≡ w → bytes_eq k q ≡ true → cond (bytes_eq k q) w (f q) ≡ step (cond (bytes_eq q k) n 0) (f q)
at_true q k n f step w h e =
    ap (λ b. cond b w (f q)) e ∙ sym h ∙ ap (λ x. step n (f x)) (same_key k q e) ∙ ap (λ b. step (cond b n 0) (f q)) (sym (nat_list_eq_equiv.symm q k ∙ e))

at_false : (q k : Key) (n : ℕ) (f : Key → Option ℕ) (step : ℕ → Option ℕ → Option ℕ) (w : Option ℕ) → step 0 (f q) ≡ f q → bytes_eq k q ≡ false → cond (bytes_eq k q) w (f q) ≡ step (cond (bytes_eq q k) n 0) (f q)
at_false q k n f step w h e =
    ap (λ b. cond b w (f q)) e ∙ sym h ∙ ap (λ b. step (cond b n 0) (f q)) (sym (nat_list_eq_equiv.symm q k ∙ e))

by_test : (q k : Key) (n : ℕ) (f : Key → Option ℕ) (step : ℕ → Option ℕ → Option ℕ) (w : Option ℕ) (b : Bool) → bytes_eq k q ≡ b → step n (f k) ≡ w → step 0 (f q) ≡ f q → cond (bytes_eq k q) w (f q) ≡ step (cond (bytes_eq q k) n 0) (f q)
by_test q k n f step w true e one none = at_true q k n f step w one e
by_test q k n f step w false e one none = at_false q k n f step w none e

pub at-key : (q k : Key) (n : ℕ) (f : Key → Option ℕ) (step : ℕ → Option ℕ → Option ℕ) (w : Option ℕ) → step n (f k) ≡ w → step 0 (f q) ≡ f q → cond (bytes_eq k q) w (f q) ≡ step (cond (bytes_eq q k) n 0) (f q)
at-key q k n f step w one none = by_test q k n f step w (bytes_eq k q) refl one none

-- Where the step changes nothing at the key, nothing changes.
stays : (b : Bool) (f : Key → Option ℕ) (k q : Key) → (b ≡ true → k ≡ q) → f q ≡ cond b (f k) (f q)
stays true f k q same = ap f (sym (same refl))
stays false f k q same = refl

pub no-change : (q k : Key) (n : ℕ) (f : Key → Option ℕ) (step : ℕ → Option ℕ → Option ℕ) → step n (f k) ≡ f k → step 0 (f q) ≡ f q → f q ≡ step (cond (bytes_eq q k) n 0) (f q)
no-change q k n f step one none = stays (bytes_eq k q) f k q (same_key k q) ∙ at-key q k n f step (f k) one none

pub was_absent : (o : Option ℕ) → is_some o ≡ false → o ≡ None
was_absent None e = refl
was_absent (Some v) e = absurd cc

new_place : (n : ℕ) (o : Option ℕ) → 0 < n → o ≡ None → placed_by n o ≡ Some 0
new_place zero o l e = absurd (omega (arith, l))
new_place (suc n) o l e = ap (λ x. Some (unwrap_or x 0)) e

pub placed-new : {Y : Type 0} (m n : BTreeMap (String Y) ℕ) (j : Key) (t : KeyTally) → j ≡ t.key → 0 < t.number → UpdatesBy string_cmp (λ t. slice_cmp nat_cmp j (string_bytes t)) m n (Some 0) → get_by_text m t.key ≡ None → (q : Key) → get_by_text n q ≡ placed_by (uses_in q t) (get_by_text m q)
placed-new m n j t s l u e q = btree_map_updates_text j m n (Some 0) u q ∙ ap (λ x. cond (bytes_eq x q) (Some 0) (get_by_text m q)) s ∙ at-key q t.key t.number (get_by_text m) placed_by (Some 0) (new_place t.number (get_by_text m t.key) l e) refl

there : (n : ℕ) (o : Option ℕ) → is_some o ≡ true → placed_by n o ≡ o
there zero o e = refl
there (suc n) None e = absurd cc
there (suc n) (Some v) e = refl

pub placed-there : {Y : Type 0} (m : BTreeMap (String Y) ℕ) (t : KeyTally) → is_some (get_by_text m t.key) ≡ true → (q : Key) → get_by_text m q ≡ placed_by (uses_in q t) (get_by_text m q)
placed-there m t e q = no-change q t.key t.number (get_by_text m) placed_by (there t.number (get_by_text m t.key) e) refl

-- A tally without a use.
no_uses : (b : Bool) (n : ℕ) → n ≡ 0 → cond b n 0 ≡ 0
no_uses true n e = e
no_uses false n e = refl

pub placed-none : {Y : Type 0} (m : BTreeMap (String Y) ℕ) (t : KeyTally) → t.number ≡ 0 → (q : Key) → get_by_text m q ≡ placed_by (uses_in q t) (get_by_text m q)
placed-none m t e q = ap (λ n. placed_by n (get_by_text m q)) (sym (no_uses (bytes_eq q t.key) t.number e))

raised_at : (n : ℕ) (o : Option ℕ) (v w : ℕ) → v < 4294967296 → w ≡ held (v + n) → o ≡ Some v → raised_by n o ≡ Some w
raised_at zero o v w b h e = e ∙ ap Some (let x : v ≡ w = omega (arith, b, h) in x)
raised_at (suc n) o v w b h e = ap (λ x. raised_by (suc n) x) e ∙ ap Some (sym h)

pub raised-there : {Y : Type 0} (m n : BTreeMap (String Y) ℕ) (j : Key) (t : KeyTally) (v w : ℕ) → j ≡ t.key → UpdatesBy string_cmp (λ s. slice_cmp nat_cmp j (string_bytes s)) m n (Some w) → v < 4294967296 → w ≡ held (v + t.number) → get_by_text m j ≡ Some v → (q : Key) → get_by_text n q ≡ raised_by (uses_in q t) (get_by_text m q)
raised-there m n j t v w s u b h e q = btree_map_updates_text j m n (Some w) u q ∙ ap (λ x. cond (bytes_eq x q) (Some w) (get_by_text m q)) s ∙ at-key q t.key t.number (get_by_text m) raised_by (Some w) (raised_at t.number (get_by_text m t.key) v w b h (ap (get_by_text m) (sym s) ∙ e)) refl

raised_nothing : (n : ℕ) (o : Option ℕ) → o ≡ None → raised_by n o ≡ o
raised_nothing zero o e = refl
raised_nothing (suc n) o e = ap (λ x. raised_by (suc n) x) e ∙ sym e

pub raised-absent : {Y : Type 0} (m : BTreeMap (String Y) ℕ) (t : KeyTally) → get_by_text m t.key ≡ None → (q : Key) → get_by_text m q ≡ raised_by (uses_in q t) (get_by_text m q)
raised-absent m t e q = no-change q t.key t.number (get_by_text m) raised_by (raised_nothing t.number (get_by_text m t.key) e) refl

-- Both steps.
pub both-steps : {Y : Type 0} (m n p : BTreeMap (String Y) ℕ) (ts : List KeyTally) → ((q : Key) → get_by_text n q ≡ placed_by (amount q ts) (get_by_text m q)) → ((q : Key) → get_by_text p q ≡ raised_by (amount q ts) (get_by_text n q)) → (q : Key) → get_by_text p q ≡ with_uses (get_by_text m q) (amount q ts)
both-steps m n p ts placed raised q = raised q ∙ ap (raised_by (amount q ts)) (placed q) ∙ placed-raised (amount q ts) (get_by_text m q)

-- A loop's turn.
pub more-placed : {Y : Type 0} (first m n : BTreeMap (String Y) ℕ) (ts : List KeyTally) (i : ℕ) (d : KeyTally) → i < length ts
    → ((q : Key) → get_by_text m q ≡ placed_by (amount q (take i ts)) (get_by_text first q)) → ((q : Key) → get_by_text n q ≡ placed_by (uses_in q (get_or ts i d)) (get_by_text m q))
    → (q : Key) → get_by_text n q ≡ placed_by (amount q (take (i + 1) ts)) (get_by_text first q)
more-placed first m n ts i d l old new q =
    new q ∙ ap (placed_by (uses_in q (get_or ts i d))) (old q) ∙ placed-then (amount q (take i ts)) (uses_in q (get_or ts i d)) (get_by_text first q) ∙ ap (λ t. placed_by t (get_by_text first q)) (sym (next-tally q ts i d l))

pub more-raised : {Y : Type 0} (first m n : BTreeMap (String Y) ℕ) (ts : List KeyTally) (i : ℕ) (d : KeyTally) → i < length ts
    → ((q : Key) → get_by_text m q ≡ raised_by (amount q (take i ts)) (get_by_text first q)) → ((q : Key) → get_by_text n q ≡ raised_by (uses_in q (get_or ts i d)) (get_by_text m q))
    → (q : Key) → get_by_text n q ≡ raised_by (amount q (take (i + 1) ts)) (get_by_text first q)
more-raised first m n ts i d l old new q =
    new q ∙ ap (raised_by (uses_in q (get_or ts i d))) (old q) ∙ raised-then (amount q (take i ts)) (uses_in q (get_or ts i d)) (get_by_text first q) ∙ ap (λ t. raised_by t (get_by_text first q)) (sym (next-tally q ts i d l))

-- Uses that are there stay, and those that are added are uses.
used_lookup : {K : Type 0} (test : K → Bool) (es : List (K × ℕ)) → AreUsed es → IfSome (lookup test es) (λ v. 0 < v)
used_lookup test [] h = tt
used_lookup test (e ∷ es) h = cond_both (test e.0) (Some e.1) (lookup test es) (λ o. IfSome o (λ v. 0 < v)) (λ t. h.0) (λ f. used_lookup test es h.1)

used_with : (old : Option ℕ) (n : ℕ) → IfSome old (λ v. 0 < v) → IfSome (with_uses old n) (λ v. 0 < v)
used_with old zero h = h
used_with old (suc n) h = let P : 0 < held (unwrap_or old 0 + suc n) = omega arith in P

recursive : {K : Type 0} (es : List (K × ℕ)) → All (λ v. 0 < v) (values_of es) → AreUsed es
recursive [] h = tt
recursive (e ∷ es) h = (h 0 0 (omega arith), recursive es (λ k d l. h (suc k) d (omega arith)))

pub used-after : {Y : Type 0} (m n : BTreeMap (String Y) ℕ) (ts : List KeyTally) → AreUsed m.entries → IsStrictlySortedBy string_cmp (keys_of n.entries) → ((q : Key) → get_by_text n q ≡ with_uses (get_by_text m q) (amount q ts)) → AreUsed n.entries
used-after m n ts used sorted each =
    recursive n.entries (All-values_from_lookup (eq_by_cmp_equiv string_cmp_total) (λ v. 0 < v) n.entries (IsDistinct-from_sorted string_cmp (keys_of n.entries) sorted)
    (λ q. subst (λ o. IfSome o (λ v. 0 < v)) (sym (each (string_bytes q))) (used_with (get_by_text m (string_bytes q)) (amount (string_bytes q) ts) (used_lookup (is_at (λ k. slice_cmp nat_cmp (string_bytes q) (string_bytes k))) m.entries used))))

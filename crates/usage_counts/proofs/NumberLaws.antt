-- A map's keys and numbers as a list: they rise, and the list has of each key what the map has.
use Rattle.std.proofs.Common.{◌≡◌, ◌∙◌, sym, ap, ℕ, zero, suc, Bool, true, false, cond, List, [], ◌∷◌, map, Option, Some, Less, refl, bytes_eq}
use Rattle.std.specs.Prelude.{String, string_bytes, string_cmp}
use Rattle.std.specs.List.{AllByRecursion, slice_get}
use Rattle.std.specs.Option.{option_map}
use Rattle.std.specs.List.Sorted.{IsStrictlySortedBy}
use Rattle.std.specs.BTreeMap.{BTreeMap, is_at, get_by_text}
use Rattle.std.specs.Map.{lookup, keys_of}
use Rattle.std.specs.Cmp.Lexicographic.{slice_cmp}
use Rattle.std.specs.Ordering.{nat_cmp, is_eq}
use Rattle.std.proofs.lemmas.Map.Text.{is_eq-slice_cmp}
use Rattle.usage_counts.specs.declared.tallies.KeyTally.{KeyTally}
use Rattle.usage_counts.specs.Counts.{Key, number_at, KeysRise, numbers_in, with_uses, AreAdded}
use Rattle.usage_counts.specs.Tallies.{amount, AreTold}

above_from : {Y : Type 0} (k : String Y) (es : List (String Y × ℕ)) → AllByRecursion {X = String Y} (λ j. string_cmp k j ≡ Less) (keys_of es) → AllByRecursion {X = Key × ℕ} (λ q. slice_cmp nat_cmp (string_bytes k) q.0 ≡ Less) (map (λ e. (string_bytes e.0, e.1)) es)
above_from k [] h = h
above_from k (e ∷ es) h = (h.0, above_from k es h.1)

rise_from : {Y : Type 0} (es : List (String Y × ℕ)) → IsStrictlySortedBy string_cmp (keys_of es) → KeysRise (map (λ e. (string_bytes e.0, e.1)) es)
unfolding KeysRise IsStrictlySortedBy
rise_from [] h = h
rise_from (e ∷ es) h = (above_from e.0 es h.0, rise_from es h.1)

pub numbers-rise : {Y : Type 0} (m : BTreeMap (String Y) ℕ) → IsStrictlySortedBy string_cmp (keys_of m.entries) → KeysRise (numbers_in m)
numbers-rise m h = rise_from m.entries h

pair_at : (a b : Bool) (n : ℕ) (r p : Option ℕ) → a ≡ b → r ≡ p → cond b (Some n) r ≡ cond a (Some n) p
pair_at true true n r p e h = refl
pair_at true false n r p e h = absurd cc
pair_at false true n r p e h = absurd cc
pair_at false false n r p e h = h

found_at : {Y : Type 0} (es : List (String Y × ℕ)) (key : Key) → number_at (map (λ e. (string_bytes e.0, e.1)) es) key ≡ lookup (is_at (λ k. slice_cmp nat_cmp key (string_bytes k))) es
unfolding number_at
found_at [] key = refl
found_at (e ∷ es) key = pair_at (is_eq (slice_cmp nat_cmp key (string_bytes e.0))) (bytes_eq key (string_bytes e.0)) e.1 (number_at (map (λ p. (string_bytes p.0, p.1)) es) key) (lookup (is_at (λ k. slice_cmp nat_cmp key (string_bytes k))) es) (is_eq-slice_cmp key (string_bytes e.0)) (found_at es key)

pub number-found : {Y : Type 0} (m : BTreeMap (String Y) ℕ) (key : Key) → number_at (numbers_in m) key ≡ get_by_text m key
number-found m key = found_at m.entries key

pub number-there : {Y : Type 0} (es : List (String Y × ℕ)) (i : ℕ) (k : String Y) (n : ℕ) (text : Key) → slice_get {X = String Y × ℕ} es i ≡ Some (k, n) → text ≡ string_bytes k → slice_get {X = Key × ℕ} (map (λ e. (string_bytes e.0, e.1)) es) i ≡ Some (text, n)
number-there [] i k n text h e = absurd cc
number-there (p ∷ es) zero k n text h e = ap (λ o. option_map (λ q. (string_bytes q.0, q.1)) o) h ∙ ap (λ t. Some (t, n)) (sym e)
number-there (p ∷ es) (suc i) k n text h e = number-there es i k n text h e

pub added-numbers : {Y : Type 0} (m n : BTreeMap (String Y) ℕ) (ts : List KeyTally) (keys : List Key) → ((q : Key) → get_by_text n q ≡ with_uses (get_by_text m q) (amount q ts)) → AreTold ts keys → AreAdded (numbers_in m) keys (numbers_in n)
added-numbers m n ts keys h t q = number-found n q ∙ h q ∙ ap (λ o. with_uses o (amount q ts)) (sym (number-found m q)) ∙ ap (λ k. with_uses (number_at (numbers_in m) q) k) (t q)

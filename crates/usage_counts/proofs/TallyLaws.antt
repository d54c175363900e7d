-- Tallies of members by their places, and of keys.
use Rattle.std.proofs.Common.{arith, ◌≡◌, ℕ, ◌+◌, ◌*◌, ◌<◌, Bool, true, false, cond, List, [], ◌∷◌, ◌++◌, length, get_or, take, refl, sym, ap, ◌∙◌, bytes_eq, Option, Some}
use Rattle.std.specs.List.{flat_map, sum_by}
use Rattle.std.proofs.lemmas.List.Sums.{sum_by-append, sum_by-cons, sum_by_push, sum_by_more}
use Rattle.class_pool.specs.Spelling.{Entry}
use Rattle.usage_counts.specs.declared.members.MemberPlace.{MemberPlace}
use Rattle.usage_counts.specs.declared.tallies.PlaceTally.{PlaceTally}
use Rattle.usage_counts.specs.declared.tallies.KeyTally.{KeyTally}
use Rattle.usage_counts.specs.Counts.{Key, times}
use Rattle.usage_counts.specs.Uses.{listed}
use Rattle.usage_counts.specs.Tallies.{key_at, places_sum, uses_in, amount, AreTold}

-- So many uses of a key.
once : (b : Bool) (n : ℕ) → cond b n 0 ≡ n * (0 + cond b 1 0)
once true n = omega arith
once false n = omega arith

pub one-keyed : (q : Key) (old : List KeyTally) (t : KeyTally) → amount q (old ++ t ∷ []) ≡ amount q old + t.number * times q (listed (Some t.key))
one-keyed q old t = sum_by_push (uses_in q) old t ∙ ap (λ n. amount q old + n) (once (bytes_eq q t.key) t.number)

-- One tally more.
pub more-keyed : (q : Key) (es : List Entry) (ts : List PlaceTally) (i : ℕ) (d : PlaceTally) (old new : List KeyTally) (o : Option Key) → i < length ts → listed o ≡ key_at es (get_or ts i d).member → amount q new ≡ amount q old + (get_or ts i d).number * times q (listed o) → amount q old ≡ places_sum (λ m. times q (key_at es m)) (take i ts) → amount q new ≡ places_sum (λ m. times q (key_at es m)) (take (i + 1) ts)
more-keyed q es ts i d old new o l e n h =
    n ∙ ap (λ a. a + (get_or ts i d).number * times q (listed o)) h ∙ ap (λ ks. places_sum (λ m. times q (key_at es m)) (take i ts) + (get_or ts i d).number * times q ks) e
    ∙ sym (sum_by_more (λ t. t.number * times q (key_at es t.member)) ts i d l)

-- The uses of a key among those of all members.
times_of : (key : Key) (es : List Entry) (ms : List MemberPlace) → times key (flat_map (key_at es) ms) ≡ sum_by (λ m. times key (key_at es m)) ms
times_of key es [] = refl
times_of key es (m ∷ ms) =
    sum_by-append (λ k. cond (bytes_eq key k) 1 0) (key_at es m) (flat_map (key_at es) ms)
    ∙ ap (λ n. times key (key_at es m) + n) (times_of key es ms)
    ∙ sym (sum_by-cons (λ m. times key (key_at es m)) m ms)

pub all-told : (es : List Entry) (ms : List MemberPlace) (ts : List PlaceTally) (ks : List KeyTally) → ((f : MemberPlace → ℕ) → places_sum f ts ≡ sum_by f ms) → ((key : Key) → amount key ks ≡ places_sum (λ m. times key (key_at es m)) ts) → AreTold ks (flat_map (key_at es) ms)
all-told es ms ts ks places keys key = keys key ∙ places (λ m. times key (key_at es m)) ∙ sym (times_of key es ms)

-- The places of merged classes.
use Rattle.std.proofs.Common.{◌≡◌, ◌∙◌, ap, sym, refl, arith, subst, ℕ, zero, suc, ◌+◌, ◌-◌, ◌<◌, ◌≤◌, true, false, List, [], ◌∷◌, length, map, get_or, slice_get, Option, Some, None}
use Rattle.std.specs.Prelude.{unwrap_or, is_some, option_map}
use Rattle.std.specs.Option.{option_or}
use Rattle.std.proofs.lemmas.List.{length-map}
use Rattle.std.proofs.lemmas.Option.{slice_get-map, slice_get_within, slice_get_read}
use Rattle.known_classes.specs.declared.summary.ClassSummary.{ClassSummary}
use Rattle.known_classes.specs.Known.{class_named, HasEachOnce, IsPlaceOf}
use Rattle.known_classes.specs.Merging.{last_named, replaced, added, merged, IsMerging}
use Rattle.known_classes.proofs.Merging.{merged-base, merged-added, merged-length, merged-named, merged_once}

picked-by : (o p : Option ClassSummary) → option_map Some o ≡ Some p → o ≡ p
picked-by None p e = absurd cc
picked-by (Some a) p e = cc

-- the added class at a place is the extra class of the number there
pub picked : (extra new : List ClassSummary) (numbers : List ℕ) (k i : ℕ) → map (slice_get extra) numbers ≡ map Some new → k < length numbers → i ≡ get_or numbers k i → slice_get new k ≡ slice_get extra i
picked extra new numbers k i e l g =
    picked-by (slice_get new k) (slice_get extra i)
    (sym (slice_get-map Some new k) ∙ ap (λ (r : List (Option ClassSummary)). slice_get r k) (sym e) ∙ slice_get-map (slice_get extra) numbers k ∙ ap (option_map (slice_get extra)) (slice_get_read numbers (length numbers) k i refl l g))

pub picked_length : (extra new : List ClassSummary) (numbers : List ℕ) → map (slice_get extra) numbers ≡ map Some new → length new ≡ length numbers
picked_length extra new numbers e = sym (length-map new Some) ∙ ap length (sym e) ∙ length-map numbers (slice_get extra)

pub there : {A : Type 0} (xs : List A) (k : ℕ) → k < length xs → (x : A) × (slice_get xs k ≡ Some x)
there [] k l = absurd (omega (arith, l))
there (x ∷ xs) zero l = (x, refl)
there (x ∷ xs) (suc k) l = there xs k (omega (arith, l))

-- the number at a place is one of an extra class
pub picked_within : (base extra : List ClassSummary) (numbers : List ℕ) (k i : ℕ) → IsMerging base extra numbers → k < length numbers → i ≡ get_or numbers k i → i < length extra
picked_within base extra numbers k i h l g =
    let n = picked_length extra (added base extra) numbers h.each in
    let p = there (added base extra) k (omega (arith, l, n)) in
    slice_get_within extra i p.0 (sym (picked extra (added base extra) numbers k i h.each l g) ∙ p.1)

-- the added class at a place
pub picked_class : (base extra : List ClassSummary) (numbers : List ℕ) (k i : ℕ) (x : ClassSummary) → IsMerging base extra numbers → k < length numbers → i ≡ get_or numbers k i → x ≡ get_or extra i x → slice_get (added base extra) k ≡ Some x
picked_class base extra numbers k i x h l g f =
    picked extra (added base extra) numbers k i h.each l g ∙ slice_get_read extra (length extra) i x refl (picked_within base extra numbers k i h l g) f

pub size_is : (base extra whole : List ClassSummary) (numbers : List ℕ) (n m : ℕ) → IsMerging base extra numbers → merged base extra ≡ whole → n ≡ length base → m ≡ length numbers → n + m ≡ length whole
size_is base extra whole numbers n m h v e f =
    let s : length whole ≡ length base + length (added base extra) = ap length (sym v) ∙ merged-length base extra in
    omega (arith, s, picked_length extra (added base extra) numbers h.each, e, f)

pub once_is : (base extra whole : List ClassSummary) → merged base extra ≡ whole → HasEachOnce base → HasEachOnce whole
once_is base extra whole v h = subst HasEachOnce v (merged_once base extra h)

-- behind the base
pub behind : (base extra whole : List ClassSummary) (numbers : List ℕ) (place n : ℕ) → IsMerging base extra numbers → merged base extra ≡ whole → n ≡ length base → n ≤ place → place < length whole → place - n < length numbers
behind base extra whole numbers place n h v e b l =
    let s = size_is base extra whole numbers (length base) (length numbers) h v refl refl in
    omega (arith, s, e, b, l)

pub at_added : (base extra whole : List ClassSummary) (numbers : List ℕ) (place n i : ℕ) (x : ClassSummary) → IsMerging base extra numbers → merged base extra ≡ whole → n ≡ length base → n ≤ place → place < length whole → i ≡ get_or numbers (place - n) i → x ≡ get_or extra i x → slice_get whole place ≡ Some x
at_added base extra whole numbers place n i x h v e b l g f =
    let p : place ≡ length base + (place - n) = omega (arith, e, b) in
    ap (slice_get whole) p
    ∙ ap (λ (r : List ClassSummary). slice_get r (length base + (place - n))) (sym v)
    ∙ merged-added base extra (place - n)
    ∙ picked_class base extra numbers (place - n) i x h (behind base extra whole numbers place n h v e b l) g f

pub at_replaced : (base extra whole : List ClassSummary) (place j : ℕ) (c x : ClassSummary) → merged base extra ≡ whole → slice_get base place ≡ Some c → IsPlaceOf extra (last_named extra c.name) (Some j) → x ≡ get_or extra j x → slice_get whole place ≡ Some x
at_replaced base extra whole place j c x v e h f =
    let o : last_named extra c.name ≡ Some x = h.1 ∙ slice_get_read extra (length extra) j x refl h.0 f in
    ap (λ (r : List ClassSummary). slice_get r place) (sym v) ∙ merged-base base extra place c e ∙ ap (λ (r : Option ClassSummary). Some (unwrap_or r c)) o

pub at_kept : (base extra whole : List ClassSummary) (place : ℕ) (c : ClassSummary) → merged base extra ≡ whole → slice_get base place ≡ Some c → last_named extra c.name ≡ None → slice_get whole place ≡ Some c
at_kept base extra whole place c v e h =
    ap (λ (r : List ClassSummary). slice_get r place) (sym v) ∙ merged-base base extra place c e ∙ ap (λ (r : Option ClassSummary). Some (unwrap_or r c)) h

pub found_base : (base extra whole : List ClassSummary) (n : List ℕ) (i : ℕ) → merged base extra ≡ whole → IsPlaceOf base (class_named base n) (Some i) → IsPlaceOf whole (class_named whole n) (Some i)
found_base base extra whole n i v h =
    let p = there base i h.0 in
    let s : length whole ≡ length base + length (added base extra) = ap length (sym v) ∙ merged-length base extra in
    let c : class_named whole n ≡ Some (replaced extra p.0) = ap (λ (r : List ClassSummary). class_named r n) (sym v) ∙ merged-named base extra n ∙ ap (λ (o : Option ClassSummary). option_or (option_map (replaced extra) o) (class_named (added base extra) n)) (h.1 ∙ p.1) in
    (omega (arith, s, h.0), c ∙ sym (ap (λ (r : List ClassSummary). slice_get r i) (sym v) ∙ merged-base base extra i p.0 p.1))

named-added : (base extra whole : List ClassSummary) (n : List ℕ) → merged base extra ≡ whole → class_named base n ≡ None → class_named whole n ≡ class_named (added base extra) n
named-added base extra whole n v h = ap (λ (r : List ClassSummary). class_named r n) (sym v) ∙ merged-named base extra n ∙ ap (λ (o : Option ClassSummary). option_or (option_map (replaced extra) o) (class_named (added base extra) n)) h

pub found_added : (base extra whole : List ClassSummary) (n : List ℕ) (m k : ℕ) → merged base extra ≡ whole → class_named base n ≡ None → m ≡ length base → IsPlaceOf (added base extra) (class_named (added base extra) n) (Some k) → IsPlaceOf whole (class_named whole n) (Some (m + k))
found_added base extra whole n m k v h e a =
    let s : length whole ≡ length base + length (added base extra) = ap length (sym v) ∙ merged-length base extra in
    (omega (arith, s, e, a.0), named-added base extra whole n v h ∙ a.1 ∙ sym (ap (λ j. slice_get whole (j + k)) e ∙ ap (λ (r : List ClassSummary). slice_get r (length base + k)) (sym v) ∙ merged-added base extra k))

pub found_none : (base extra whole : List ClassSummary) (n : List ℕ) → merged base extra ≡ whole → class_named base n ≡ None → class_named (added base extra) n ≡ None → class_named whole n ≡ None
found_none base extra whole n v h a = named-added base extra whole n v h ∙ a

-- whether a class was found
pub base_there : (base : List ClassSummary) (o : Option ClassSummary) (r : Option ℕ) → IsPlaceOf base o r → is_some r ≡ true → (c : ClassSummary) × (o ≡ Some c)
base_there base o None h e = absurd cc
base_there base o (Some i) h e = let p = there base i h.0 in (p.0, h.1 ∙ p.1)

pub base_none : (base : List ClassSummary) (o : Option ClassSummary) (r : Option ℕ) → IsPlaceOf base o r → is_some r ≡ false → o ≡ None
base_none base o None h e = h
base_none base o (Some i) h e = absurd cc

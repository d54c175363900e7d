-- A prefix of what a part spells, which isn't the whole of it, ends within the part.
use Rattle.std.proofs.Common.{◌≡◌, ℕ, zero, suc, ◌-◌, ◌<◌, ◌^◌, Bool, true, false, leb, ltb, List, [], ◌∷◌, ◌++◌, length, drop, get_or, Result, Ok, Err, refl, sym, ap, ◌∙◌, arith, rules, inl, inr, ◌⊎◌}
use Rattle.std.proofs.lemmas.Bool.{lt-ltb}
use Rattle.std.proofs.lemmas.List.{length-append}
use Rattle.std.proofs.lemmas.List.Concat.{flat_map-cons}
use Rattle.byteorder.specs.Endian.{big_bytes}
use Rattle.class_pool.specs.declared.fault.ClassFault.{ClassFault}
use Rattle.class_pool.specs.Spelling.{Entry, utf8, fixed, takes_two, entry, entries, places, magic, header_bytes, IsFileHeader, head, IsHead}
use Rattle.class_pool.specs.Faults.{Room}
use Rattle.class_pool.specs.Reading.{◌>>=◌, cut, number_at, block_at, text_at, fixed_at, entry_at, entries_at, header_at, head_at}
use Rattle.class_pool.proofs.Codec.{Codec, IsWide, wide_2, wide_4, number_2, number_4}
use Rattle.class_pool.proofs.Entries.{no_test, not_text, entry_codec, Fills, width-gap}
use Rattle.class_pool.proofs.Heads.{header_takes, header_again}

head_is : (x y : ℕ) (xs ys : List ℕ) → x ∷ xs ≡ y ∷ ys → x ≡ y
head_is x y xs ys e = ap (λ (t : List ℕ). get_or t 0 0) e

tail_is : (x y : ℕ) (xs ys : List ℕ) → x ∷ xs ≡ y ∷ ys → xs ≡ ys
tail_is x y xs ys e = ap (λ (t : List ℕ). drop 1 t) e

-- a prefix of two texts ends within the first, or after it
pub split : (xs ys start : List ℕ) (next : ℕ) (more : List ℕ) → xs ++ ys ≡ start ++ (next ∷ more) → ((later : List ℕ) × (xs ≡ start ++ (next ∷ later))) ⊎ ((rest : List ℕ) × (start ≡ xs ++ rest) × (ys ≡ rest ++ (next ∷ more)))
split [] ys start next more e = inr (start, refl, e)
split (x ∷ xs) ys [] next more e = inl (xs, ap (λ (k : ℕ). k ∷ xs) (head_is x next (xs ++ ys) more e))
split (x ∷ xs) ys (s ∷ start) next more e =
    let first : x ≡ s = head_is x s (xs ++ ys) (start ++ (next ∷ more)) e in
    elim (split xs ys start next more (tail_is x s (xs ++ ys) (start ++ (next ∷ more)) e)) [
      | inl h ↦ inl (h.0, ap (λ (k : ℕ). k ∷ xs) first ∙ ap (λ (t : List ℕ). s ∷ t) h.1)
      | inr h ↦ inr (h.0, ap (λ (k : ℕ). k ∷ start) (sym first) ∙ ap (λ (t : List ℕ). x ∷ t) h.1, h.2)
    ]

pub prefix_short : (x start : List ℕ) (next : ℕ) (more : List ℕ) → x ≡ start ++ (next ∷ more) → length start < length x
prefix_short x start next more e = omega (arith, ap length e, length-append start (next ∷ more))

pub no_prefix : (start : List ℕ) (next : ℕ) (more : List ℕ) → [] ≡ start ++ (next ∷ more) → ⊥
no_prefix start next more e = omega (arith, prefix_short [] start next more e)

-- each prefix of a part's spelling is cut off
abbrev pub Cuts : {A B : Type 0} → (A → List ℕ) → (A → Type 0) → ℕ → (List ℕ → Result B ClassFault) → Type 0
Cuts {A = A} spell Fits total read = (x : A) (start : List ℕ) (next : ℕ) (more : List ℕ) → Fits x → spell x ≡ start ++ (next ∷ more) → read start ≡ Err (cut total)

-- a part and what follows it, cut off within the part or after it
pub cut_then : {A B : Type 0} {spell : A → List ℕ} {Fits : A → Type 0} {read : List ℕ → Result (A × List ℕ) ClassFault} (total : ℕ) (codec : Codec spell Fits read) → Cuts spell Fits total read → (f : A × List ℕ → Result B ClassFault) (x : A) (ys start : List ℕ) (next : ℕ) (more : List ℕ) → Fits x → spell x ++ ys ≡ start ++ (next ∷ more) → ((rest : List ℕ) → ys ≡ rest ++ (next ∷ more) → f (x, rest) ≡ Err (cut total)) → (read start >>= f) ≡ Err (cut total)
cut_then {spell = spell} {read = read} total codec cuts f x ys start next more fits e then =
    elim (split (spell x) ys start next more e) [
      | inl h ↦ rw (cuts x start next h.0 fits h.1) refl
      | inr h ↦ let again : read start ≡ Ok (x, h.0) = ap read h.1 ∙ codec.again x h.0 fits in rw again (then h.0 h.2)
    ]

pub number_cuts : (total n limit : ℕ) → IsWide n limit → Cuts (big_bytes n) (λ x. x < limit) total (number_at total n)
number_cuts total n limit wide x start next more fits e =
    let short : ltb (length start) n ≡ true = lt-ltb _ _ (omega (arith, prefix_short (big_bytes n x) start next more e, wide.len x)) in
    rw short refl

pub cuts_2 : (total : ℕ) → Cuts (big_bytes 2) (λ x. x < 65536) total (number_at total 2)
cuts_2 total = number_cuts total 2 65536 wide_2

pub cuts_4 : (total : ℕ) → Cuts (big_bytes 4) (λ x. x < 2 ^ 32) total (number_at total 4)
cuts_4 total = number_cuts total 4 (2 ^ 32) wide_4

pub block_cuts : (total n : ℕ) (x start : List ℕ) (next : ℕ) (more : List ℕ) → length x ≡ n → x ≡ start ++ (next ∷ more) → block_at total n start ≡ Err (cut total)
block_cuts total n x start next more len e =
    let short : ltb (length start) n ≡ true = lt-ltb _ _ (omega (arith, prefix_short x start next more e, len)) in
    rw short refl

text_cuts : (total : ℕ) (x start : List ℕ) (next : ℕ) (more : List ℕ) → length x < 65536 → big_bytes 2 (length x) ++ x ≡ start ++ (next ∷ more) → text_at total start ≡ Err (cut total)
unfolding text_at
text_cuts total x start next more fits e =
    cut_then total (number_2 total) (cuts_2 total) _ (length x) x start next more fits e (λ rest is. block_cuts total (length x) x rest next more refl is)

entry_cuts : (total left : ℕ) → Cuts entry (Room left) total (entry_at total left)
unfolding entry_at fixed_at
entry_cuts total left x [] next more fits e = refl
entry_cuts total left (utf8 text) (t ∷ start) next more fits e =
    let tag : t ≡ 1 = sym (head_is 1 t (big_bytes 2 (length text) ++ text) (start ++ (next ∷ more)) e) in
    let rest : big_bytes 2 (length text) ++ text ≡ start ++ (next ∷ more) = tail_is 1 t (big_bytes 2 (length text) ++ text) (start ++ (next ∷ more)) e in
    rw (tag, text_cuts total text start next more fits.0 rest) refl
entry_cuts total left (fixed tag body) (t ∷ start) next more fits e =
    let same : t ≡ tag = sym (head_is tag t body (start ++ (next ∷ more)) e) in
    let rest : body ≡ start ++ (next ∷ more) = tail_is tag t body (start ++ (next ∷ more)) e in
    rw (same, not_text tag (length body) fits.0, fits.0) (rw (no_test _ left fits.1, block_cuts total (length body) body start next more refl rest) refl)

entries_cuts : (total : ℕ) (skip : Bool) (left : ℕ) (xs : List Entry) (start : List ℕ) (next : ℕ) (more : List ℕ) → Fills skip left xs → entries xs ≡ start ++ (next ∷ more) → entries_at total skip left start ≡ Err (cut total)
unfolding entries_at places
entries_cuts total true zero xs start next more fits e = absurd (omega (arith, fits.1))
entries_cuts total true (suc left) xs start next more fits e = entries_cuts total false left xs start next more (fits.0, omega (arith, fits.1)) e
entries_cuts total false zero [] start next more fits e = absurd (no_prefix start next more e)
entries_cuts total false zero (x ∷ xs) start next more fits e = absurd (omega (arith, fits.1, width-gap (takes_two x)))
entries_cuts total false (suc left) [] start next more fits e = absurd (omega (arith, fits.1))
entries_cuts total false (suc left) (x ∷ xs) start next more fits e =
    let w = width-gap (takes_two x) in
    cut_then total (entry_codec total left) (entry_cuts total left) _ x (entries xs) start next more (fits.0.0, omega (arith, fits.1, w)) (sym (flat_map-cons entry x xs) ∙ e) (λ rest is.
    rw (entries_cuts total (takes_two x) left xs rest next more (fits.0.1, omega (arith, fits.1, w)) is) refl)

header_cuts : (total : ℕ) → Cuts header_bytes IsFileHeader total (header_at total)
unfolding header_at
header_cuts total x start next more fits e =
    let b = big_bytes 2 x.minor in let c = big_bytes 2 x.major in let d = big_bytes 2 x.count in
    let new : leb 45 x.major ≡ true = search (rules, fits.new) in
    cut_then total (number_4 total) (cuts_4 total) _ magic (b ++ (c ++ d)) start next more (omega arith) e (λ rest is.
    cut_then total (number_2 total) (cuts_2 total) _ x.minor (c ++ d) rest next more fits.minor is (λ rest2 is2.
    cut_then total (number_2 total) (cuts_2 total) _ x.major d rest2 next more fits.major is2 (λ rest3 is3.
    rw (new, cuts_2 total x.count rest3 next more fits.count is3) refl)))

header_codec : (total : ℕ) → Codec header_bytes IsFileHeader (header_at total)
header_codec total = record { takes = header_takes total; again = header_again total }

pub head_cuts : (total : ℕ) → Cuts head IsHead total (head_at total)
unfolding head_at
head_cuts total x start next more fits e =
    cut_then total (header_codec total) (header_cuts total) _ x.header (entries x.entries) start next more fits.header e (λ rest is.
    rw (entries_cuts total false (x.header.count - 1) x.entries rest next more (fits.each, omega (arith, fits.full)) is) refl)

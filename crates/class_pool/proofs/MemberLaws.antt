-- What stands at an entry that names two places.
use Rattle.std.proofs.Common.{◌≡◌, ℕ, ◌+◌, ◌≤◌, Bool, true, false, List, [], ◌∷◌, ◌++◌, length, drop, Option, Some, None, refl, sym, ap, subst, ◌∙◌, arith}
use Rattle.std.proofs.lemmas.List.{length-append}
use Rattle.byteorder.specs.Endian.{big_number}
use Rattle.class_pool.specs.Spelling.{Entry, utf8, fixed, tag_size, entry, IsEntry}
use Rattle.class_pool.specs.Index.{slot, IsAt}
use Rattle.class_pool.specs.Members.{pair_of}

abbrev two_numbers : List ℕ → ℕ × ℕ
two_numbers bytes = (big_number 2 bytes, big_number 2 (drop 2 bytes))

numbers_in : (body rest : List ℕ) → 4 ≡ length body → two_numbers (body ++ rest) ≡ two_numbers body
numbers_in [] rest len = absurd (omega (arith, len))
numbers_in (a ∷ []) rest len = absurd (omega (arith, len))
numbers_in (a ∷ b ∷ []) rest len = absurd (omega (arith, len))
numbers_in (a ∷ b ∷ c ∷ []) rest len = absurd (omega (arith, len))
numbers_in (a ∷ b ∷ c ∷ d ∷ more) rest len = refl

pub pair_is : (fits : ℕ → Bool) (tag n : ℕ) (es : List Entry) (bytes : List ℕ) → IsAt es n (tag ∷ bytes) → fits tag ≡ true → tag_size tag ≡ Some 4 → (4 ≤ length bytes) × (pair_of fits (slot es n) ≡ Some (big_number 2 bytes, big_number 2 (drop 2 bytes)))
pair_is fits tag n es bytes a fit size = found a.value a.is a.parts a.fits
  where
    found : (v : Entry) → slot es n ≡ Some v → tag ∷ bytes ≡ entry v ++ a.rest → IsEntry v → (4 ≤ length bytes) × (pair_of fits (slot es n) ≡ Some (big_number 2 bytes, big_number 2 (drop 2 bytes)))
    found (utf8 t) is parts whole =
        let one : tag ≡ 1 = cc in
        let no : None ≡ Some 4 = subst (λ (t : ℕ). tag_size t ≡ Some 4) one size in
        absurd cc
    found (fixed k body) is parts whole =
        let same : k ≡ tag = cc in
        let tail : bytes ≡ body ++ a.rest = cc in
        let four : Some 4 ≡ Some (length body) = sym size ∙ subst (λ (t : ℕ). tag_size t ≡ Some (length body)) same whole in
        let len : 4 ≡ length body = cc in
        (omega (arith, len, ap length tail, length-append body a.rest), rw (is, same, fit) (ap Some (sym (ap two_numbers tail ∙ numbers_in body a.rest len))))

pub no_pair : (fits : ℕ → Bool) (tag n : ℕ) (es : List Entry) (bytes : List ℕ) → IsAt es n (tag ∷ bytes) → fits tag ≡ false → pair_of fits (slot es n) ≡ None
no_pair fits tag n es bytes a other = found a.value a.is a.parts
  where
    found : (v : Entry) → slot es n ≡ Some v → tag ∷ bytes ≡ entry v ++ a.rest → pair_of fits (slot es n) ≡ None
    found (utf8 t) is parts = rw is refl
    found (fixed k body) is parts =
        let same : k ≡ tag = cc in
        rw (is, same, other) refl

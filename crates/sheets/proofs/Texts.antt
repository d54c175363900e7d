-- A sheet's text and its lines.
use Rattle.std.proofs.Common.{rules, ◌≡◌, ap, ℕ, ◌+◌, ◌≤◌, List, [], ◌∷◌, length, take, drop, arith, length-drop, refl, Bool, true, false, if◌then◌else◌, ◌==◌, Some}
use Rattle.std.specs.Prelude.{nat_le, count_by}
use Rattle.std.specs.Str.{is_utf8, IsUtf8}
use Rattle.std.specs.Str.Lossy.{utf8_valid_len}
use Rattle.std.specs.Str.Lines.{lines, lines_of_parts}
use Rattle.std.specs.List.{slice_split}
use Rattle.std.proofs.lemmas.Str.{IsUtf8-from_is_utf8, is_utf8-from_IsUtf8}
use Rattle.std.proofs.lemmas.List.Splits.{length-slice_split}
use Rattle.std.proofs.lemmas.List.Sums.{count_by-le-length}
use Rattle.sheets.specs.Words.{texts}
use Rattle.sheets.proofs.Walks.{texts-length}
use denote.Ref.{Bor}
use Rattle.sheets.specs.Sheets.{text_fault, lines_fault}

one : (b : Bool) (x : List ℕ) → length (if b then [] else x ∷ []) ≤ 1
one true x = omega arith
one false x = omega arith

parts-short : (ps : List (List ℕ)) → length (lines_of_parts ps) ≤ length ps
parts-short [] = omega arith
parts-short (x ∷ []) = one (length x == 0) x
parts-short (x ∷ y ∷ more) = omega (arith, parts-short (y ∷ more))

-- there is at most one line more than there are bytes
pub lines-short : (bs : List ℕ) → length (lines bs) ≤ length bs + 1
lines-short bs = omega (arith, parts-short (slice_split (λ b. b == 10) bs), length-slice_split (λ b. b == 10) bs, count_by-le-length (λ b. b == 10) bs)

le_true : (m n : ℕ) → m ≤ n → nat_le m n ≡ true
le_true m n l = search rules

no_text : (b : Bool) → ¬ (b ≡ true) → b ≡ false
no_text true n = absurd (n refl)
no_text false n = refl

pub text-good : (bs : List ℕ) → length bs ≤ 16777216 → IsUtf8 bs → text_fault bs ≡ lines_fault (lines bs)
unfolding text_fault
text-good bs l u = rw (le_true (length bs) 16777216 l, is_utf8-from_IsUtf8 bs u) refl

pub text-bad : (bs : List ℕ) (n m : ℕ) → length bs ≤ 16777216 → ¬ (IsUtf8 bs) → n ≡ utf8_valid_len bs → m ≡ count_by (λ b. b == 10) (take n bs) → text_fault bs ≡ Some (record { line = m + 1; cause = 1 })
unfolding text_fault
text-bad bs n m l u at count =
    let bad : is_utf8 bs ≡ false = no_text (is_utf8 bs) (λ e. u (IsUtf8-from_is_utf8 bs e)) in
    rw (le_true (length bs) 16777216 l, bad, count, at) refl

-- the lines after the first are few enough
pub rest-short : (ws all : List (Bor (List ℕ))) (bs : List ℕ) → texts ws ≡ drop 1 (texts all) → texts all ≡ lines bs → length bs ≤ 16777216 → length ws ≤ 16777217
rest-short ws all bs e is l = omega (arith, texts-length ws, ap length e, length-drop 1 (texts all), ap length is, lines-short bs, l)

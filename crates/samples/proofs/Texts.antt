-- The text of a sample: how long it is, where its hole is, and the number in it.
use Rattle.std.proofs.Common.{◌≡◌, ◌≤◌, ◌<◌, ◌^◌, ◌∙◌, ◌++◌, ℕ, List, refl, sym, ap, subst, length, arith, append_assoc}
use Rattle.std.specs.Prelude.{codes, decimal}
use Rattle.std.specs.Str.{IsCharBoundary}
use Rattle.std.proofs.lemmas.List.{length-append, append_cancel_left, append_cancel_right}
use Rattle.std.proofs.lemmas.Nat.{mod_below}
use Rattle.std.proofs.lemmas.Str.{IsCharBoundary-before_ascii}
use Rattle.std.proofs.Math.Seq.{get_or-append_seam}
use Rattle.workload.specs.Samples.{text_before, sample_of}
use Rattle.workload.specs.declared.sample.Sample.{Sample}
use Rattle.std.proofs.lemmas.Fmt.{length-decimal-le}
use Rattle.samples.specs.Samples.{goal_of}

few : (n : ℕ) → goal_of n < 2 ^ 64
few n = let below : goal_of n < 200 = mod_below _ 200 (omega arith) in omega (arith, below)

abbrev opening : List ℕ
opening = codes "package app; import sample.*; class Use { static void go(C0 a, C1 b) { C"

few_before : (n : ℕ) → length (text_before (goal_of n)) ≤ 97
few_before n =
    let digits = decimal (goal_of n) in
    let front : length opening ≡ 72 = refl in
    let back : length (codes " r = ") ≡ 5 = refl in
    omega (arith, front, back, length-append opening (digits ++ codes " r = "), length-append digits (codes " r = "), length-decimal-le 20 (goal_of n) (omega arith) (omega (arith, few n)) (few n))

-- A sample's text is as short as a text is to be.
pub short : (n : ℕ) (s : Sample) → s ≡ sample_of n → length s.source ≤ 16777216
short n s e =
    let before = text_before (goal_of n) in
    let end : length (codes "} }") ≡ 3 = refl in
    subst (λ t. length t.source ≤ 16777216) (sym e) (omega (arith, end, length-append before (codes "} }"), few_before n))

-- The hole is at a whole character.
pub boundary : (n : ℕ) (s : Sample) → s ≡ sample_of n → IsCharBoundary s.source s.place
boundary n s e =
    let before = text_before (goal_of n) in
    let end : length (codes "} }") ≡ 3 = refl in
    subst (λ t. IsCharBoundary t.source t.place) (sym e)
    (IsCharBoundary-before_ascii (before ++ codes "} }") (length before) (omega (arith, end, length-append before (codes "} }")))
    (subst (λ b. b < 128) (sym (get_or-append_seam before 125 (codes " }") 0)) (omega arith)))

-- The number stands between what comes before it and after it.
pub digits : (goal : ℕ) (source rest found : List ℕ) → source ≡ text_before goal ++ codes "} }"
    → source ≡ opening ++ rest → rest ≡ found ++ codes " r = } }" → found ≡ decimal goal
digits goal source rest found whole front back =
    let joined : text_before goal ++ codes "} }" ≡ opening ++ (decimal goal ++ codes " r = } }") =
    append_assoc opening (decimal goal ++ codes " r = ") (codes "} }") ∙ ap (λ t. opening ++ t) (append_assoc (decimal goal) (codes " r = ") (codes "} }")) in
    append_cancel_right found (decimal goal) (codes " r = } }")
    (sym back ∙ append_cancel_left opening rest (decimal goal ++ codes " r = } }") (sym front ∙ whole ∙ joined))

pub ruleset texts = (short, boundary, digits)

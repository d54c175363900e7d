-- Groups of signs between brackets that match.
use Rattle.std.proofs.Common.{◌≡◌, ◌≢◌, ◌<◌, ◌≤◌, ◌∙◌, ap, sym, subst, ℕ, zero, suc, true, false, List, [], ◌∷◌, ◌++◌, length, take, drop, refl, arith, get_or, length-append}
use Rattle.std.proofs.lemmas.List.{take-append-le, take-append-drop, length-take-le}
use Rattle.std.specs.List.{count_by}
use Rattle.java_units.specs.Signs.{Sign, is}
use Rattle.java_units.specs.Forms.{begins, matched}
use Rattle.java_units.specs.Brackets.{IsMatched}
use Rattle.java_units.specs.Grammar.{IsGroup}
use Rattle.java_units.proofs.BracketLaws.{apart, brackets_match}

pub is_other : (w v : List ℕ) → w ≢ v → (s : Sign) → is v s ≡ true → is w s ≡ false
is_other w v d s e = apart w v d s e

-- what the words of one sign begin with
pub differ : (a b : ℕ) → a ≢ b → ◌≢◌ {A = List ℕ} (a ∷ []) (b ∷ [])
differ a b d e = d (ap (λ xs. get_or xs 0 0) e)

begins_on : (w : List ℕ) (g rest : List Sign) → begins w g ≡ true → begins w (g ++ rest) ≡ true
unfolding begins
begins_on w [] rest e = absurd (cc)
begins_on w (s ∷ g) rest e = e

begins_back : (w : List ℕ) (g rest : List Sign) → 0 < length g → begins w (g ++ rest) ≡ true → begins w g ≡ true
unfolding begins
begins_back w [] rest l e = absurd (omega arith)
begins_back w (s ∷ g) rest l e = e

pub group_on : (l r : List ℕ) (g rest : List Sign) → IsGroup l r g → IsMatched l r (g ++ rest) (length g)
group_on l r g rest c =
    let reach : length g ≤ length g = omega arith in
    let e = take-append-le (length g) g rest reach in
    record {
      some = c.some;
      opens = begins_on l g rest c.opens;
      within = omega (arith, length-append g rest);
      even = ap (count_by (is l)) e ∙ (c.even ∙ sym (ap (count_by (is r)) e));
      between = λ k h lt.
          let near : k ≤ length g = omega arith in
          let f = take-append-le k g rest near in
          omega (arith, ap (count_by (is l)) f, ap (count_by (is r)) f, c.between k h lt);
    }

pub group_back : (l r : List ℕ) (g rest : List Sign) → IsMatched l r (g ++ rest) (length g) → IsGroup l r g
group_back l r g rest c =
    let reach : length g ≤ length g = omega arith in
    let e = take-append-le (length g) g rest reach in
    record {
      some = c.some;
      opens = begins_back l g rest c.some c.opens;
      within = reach;
      even = sym (ap (count_by (is l)) e) ∙ (c.even ∙ ap (count_by (is r)) e);
      between = λ k h lt.
          let near : k ≤ length g = omega arith in
          let f = take-append-le k g rest near in
          omega (arith, ap (count_by (is l)) f, ap (count_by (is r)) f, c.between k h lt);
    }

group_at : (l r : List ℕ) (ss : List Sign) (n : ℕ) → IsMatched l r ss n → IsGroup l r (take n ss)
group_at l r ss n c =
    let size = length-take-le n ss c.within in
    let a = subst (λ xs. IsMatched l r xs n) (sym (take-append-drop n ss)) c in
    group_back l r (take n ss) (drop n ss) (subst (IsMatched l r (take n ss ++ drop n ss)) (sym size) a)

pub matched_group : (l r : List ℕ) → l ≢ r → (ss : List Sign) → 0 < matched l r ss → IsGroup l r (take (matched l r ss) ss)
matched_group l r d ss h = group_at l r ss (matched l r ss) ((brackets_match l r ss (matched l r ss) d).0 h refl)

pub group_matched : (l r : List ℕ) → l ≢ r → (g rest : List Sign) → IsGroup l r g → matched l r (g ++ rest) ≡ length g
group_matched l r d g rest c = (brackets_match l r (g ++ rest) (length g) d).1 (group_on l r g rest c)

pub matched_none : (l r : List ℕ) (ss : List Sign) → begins l ss ≡ false → matched l r ss ≡ 0
unfolding matched
matched_none l r ss e = rw (e) refl

matched_if : (l r : List ℕ) → l ≢ r → (ss : List Sign) (n : ℕ) → n ≡ matched l r ss → n ≤ length ss
matched_if l r d ss zero e = omega arith
matched_if l r d ss (suc n) e =
    let some : 0 < suc n = omega arith in
    ((brackets_match l r ss (suc n) d).0 some (sym e)).within

pub matched_within : (l r : List ℕ) → l ≢ r → (ss : List Sign) → matched l r ss ≤ length ss
matched_within l r d ss = matched_if l r d ss (matched l r ss) refl

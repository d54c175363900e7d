-- What follows a place of a text.
use Rattle.std.proofs.Common.{◌≡◌, ◌∙◌, sym, ap, ℕ, zero, suc, ◌+◌, ◌-◌, ◌<◌, List, [], ◌∷◌, ◌++◌, length, drop, arith, refl, false, IsUtf8, if◌then◌else◌, ◌==◌, Some, None, nat_lt}
use Rattle.std.proofs.lemmas.List.{drop-drop, length-append}
use Rattle.std.proofs.lemmas.Str.{length-encode, encodes-chars, chars-nil}
use Rattle.std.specs.Char.{len_utf8}
use Rattle.std.specs.Str.{chars}
use Rattle.documents.specs.Places.{is_newline, units, ends_line, from_line, from_unit, position_from, byte_len, IsRest}
use lib.Utf8.{encodes, encode}

pub byte_len-encodes : (cs : List ℕ) → byte_len cs ≡ length (encodes cs)
unfolding byte_len
byte_len-encodes [] = refl
byte_len-encodes (c ∷ cs) = grind (arith, byte_len-encodes cs, length-encode c, length-append (encode c) (encodes cs))

pub byte_len-chars : (bs : List ℕ) → IsUtf8 bs → byte_len (chars bs) ≡ length bs
byte_len-chars bs u = byte_len-encodes (chars bs) ∙ ap length (encodes-chars bs u)

pub rest-same : (text : List ℕ) → IsRest text text
rest-same text = record { le = omega arith; is = grind arith }

pub drop_prefix : (xs ys : List ℕ) (n : ℕ) → n ≡ length xs → drop n (xs ++ ys) ≡ ys
drop_prefix [] ys n e = rw e refl
drop_prefix (x ∷ xs) ys zero e = absurd (omega arith)
drop_prefix (x ∷ xs) ys (suc n) e = drop_prefix xs ys n (omega arith)

pub rest-more : (text rest more prefix : List ℕ) → IsRest text rest → rest ≡ prefix ++ more → IsRest text more
rest-more text rest more prefix r e =
    let l : length rest ≡ length prefix + length more = ap length e ∙ length-append prefix more in
    record {
      le = omega (arith, r.le, l);
      is = sym (drop_prefix prefix more (length prefix) refl) ∙ ap (drop (length prefix)) (sym e ∙ r.is) ∙ drop-drop (length prefix) (length text - length rest) text ∙ ap (λ n. drop n text) (omega (arith, r.le, l));
    }

pub rest_drop : (text start rest : List ℕ) → IsRest text start → IsRest start rest → IsRest text rest
rest_drop text start rest r s = record {
  le = omega (arith, r.le, s.le);
  is = s.is ∙ ap (drop (length start - length rest)) r.is ∙ drop-drop (length start - length rest) (length text - length start) text ∙ ap (λ n. drop n text) (omega (arith, r.le, s.le));
}

-- the steps of a walk
pub from_line-zero : (cs : List ℕ) → from_line 0 cs ≡ Some cs
unfolding from_line
from_line-zero cs = refl

pub from_line-nil : (l : ℕ) → 0 < l → from_line l [] ≡ None
unfolding from_line
from_line-nil zero h = absurd (omega arith)
from_line-nil (suc l) h = refl

less : (l : ℕ) → suc l - 1 ≡ l
less l = omega arith

pub from_line-more : (l c : ℕ) (cs : List ℕ) → 0 < l → from_line l (c ∷ cs) ≡ (if ends_line c cs then from_line (l - 1) cs else from_line l cs)
unfolding from_line
from_line-more zero c cs h = absurd (omega arith)
from_line-more (suc l) c cs h = rw (less l) refl

pub from_unit-nil : (u : ℕ) → from_unit u [] ≡ []
unfolding from_unit
from_unit-nil u = refl

pub from_unit-more : (u c : ℕ) (cs : List ℕ) → from_unit u (c ∷ cs) ≡ (if is_newline c then c ∷ cs else if nat_lt u (units c) then c ∷ cs else from_unit (u - units c) cs)
unfolding from_unit
from_unit-more u c cs = refl

pub position_from-nil : (l u n : ℕ) → position_from l u n [] ≡ (l, u)
unfolding position_from
position_from-nil l u n = refl

pub position_from-more : (l u n c : ℕ) (cs : List ℕ) → position_from l u n (c ∷ cs) ≡ (if n == 0 then (l, u) else if ends_line c cs then position_from (l + 1) 0 (n - len_utf8 c) cs else position_from l (u + units c) (n - len_utf8 c) cs)
unfolding position_from
position_from-more l u n c cs = refl

pub empty : (xs : List ℕ) → length xs ≡ 0 → xs ≡ []
empty [] e = refl
empty (x ∷ xs) e = absurd (omega arith)

pub from_unit-go : (u c : ℕ) (text rest : List ℕ) → chars text ≡ c ∷ chars rest → is_newline c ≡ false → nat_lt u (units c) ≡ false → from_unit u (chars text) ≡ from_unit (u - units c) (chars rest)
from_unit-go u c text rest e a b = rw (e, from_unit-more u c (chars rest), a, b) refl

pub ruleset rests = (chars-nil, rest-same, rest-more, from_line-zero, from_line-nil, from_line-more, from_unit-nil, from_unit-more, position_from-nil, position_from-more)

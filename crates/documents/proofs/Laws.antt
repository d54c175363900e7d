-- Offsets and positions lead back to each other.
use Rattle.std.proofs.Common.{◌≡◌, ◌∙◌, sym, ap, subst, ℕ, zero, suc, ◌+◌, ◌-◌, ◌≤◌, List, [], ◌∷◌, ◌++◌, drop, take, refl, arith, Bool, true, false, if◌then◌else◌, nat_lt, ◌==◌, ◌&&◌, Option, Some, None, IsUtf8, All, sum_by, IfSome}
use Rattle.std.proofs.lemmas.List.{take-append-drop, length-take-le}
use Rattle.std.proofs.lemmas.List.Elements.{All-nil, All-cons, All-head, All-tail}
use Rattle.std.proofs.lemmas.List.Sums.{sum_by-cons}
use Rattle.std.proofs.lemmas.Str.{chars-append, IsUtf8-take, len_utf8_bounds}
use Rattle.std.specs.Char.{len_utf8}
use Rattle.std.specs.Str.{chars, IsCharBoundary}
use Rattle.documents.specs.Places.{is_newline, units, starts_with_lf, ends_line, from_line, from_unit, position_from, position_of, offset_of, place, byte_len, ends_with_cr, splits_newline, IsPlaceIn}
use Rattle.documents.proofs.Rests.{byte_len-chars, from_unit-nil}
use Rattle.documents.proofs.LineStarts.{same_list, same_number, byte_len-append, not_zero, from_line-le, position-past, from_unit-le}

-- What stands from a place on, or from the CR before it where it is within a line end.
back : List ℕ → List ℕ → List ℕ
back [] b = b
back (c ∷ []) b = if c == 13 && starts_with_lf b then c ∷ b else b
back (c ∷ d ∷ a) b = back (d ∷ a) b

from_unit-zero : (cs : List ℕ) → from_unit 0 cs ≡ cs
unfolding from_unit units
from_unit-zero [] = refl
from_unit-zero (c ∷ cs) = grind arith

position-stop : (l u : ℕ) (cs : List ℕ) → position_from l u 0 cs ≡ (l, u)
unfolding position_from
position-stop l u [] = refl
position-stop l u (c ∷ cs) = refl

-- What a character says of a line end: one that ends a line is no CR before an LF, and one that ends none is on the line or such a CR.
pub ends-no_split : (c : ℕ) (cs : List ℕ) → ends_line c cs ≡ true → (c == 13 && starts_with_lf cs) ≡ false
unfolding ends_line
ends-no_split c cs e = grind arith

plain-no_split : (c : ℕ) (cs : List ℕ) → is_newline c ≡ false → (c == 13 && starts_with_lf cs) ≡ false
unfolding is_newline
plain-no_split c cs e = grind arith

pub plain-no_end : (c : ℕ) (cs : List ℕ) → is_newline c ≡ false → ends_line c cs ≡ false
unfolding is_newline ends_line
plain-no_end c cs e = grind arith

split-cr : (c : ℕ) (cs : List ℕ) → is_newline c ≡ true → ends_line c cs ≡ false → (c == 13 && starts_with_lf cs) ≡ true
unfolding is_newline ends_line
split-cr c cs e f = grind arith

pub and-right : (a b : Bool) → (a && b) ≡ true → b ≡ true
and-right true b e = e
and-right false b e = absurd cc

lf-newline : (c : ℕ) → (c == 10) ≡ true → is_newline c ≡ true
unfolding is_newline
lf-newline c e = grind arith

lf-no_cr : (c : ℕ) (cs : List ℕ) → (c == 10) ≡ true → (c == 13 && starts_with_lf cs) ≡ false
lf-no_cr c cs e = grind arith

back-skip : (c : ℕ) (a b : List ℕ) → (c == 13 && starts_with_lf (a ++ b)) ≡ false → back (c ∷ a) b ≡ back a b
unfolding back
back-skip c [] b e = rw e refl
back-skip c (d ∷ a) b e = refl

back-stop : (c : ℕ) (b : List ℕ) → (c == 13 && starts_with_lf b) ≡ true → back (c ∷ []) b ≡ c ∷ b
unfolding back
back-stop c b e = rw e refl

one_of : (e : Bool) (c : ℕ) (b : List ℕ) → byte_len (if e then c ∷ b else b) ≤ byte_len (c ∷ b)
unfolding byte_len
one_of true c b = omega arith
one_of false c b = omega arith

back-le : (a b : List ℕ) → byte_len (back a b) ≤ byte_len (a ++ b)
unfolding back byte_len
back-le [] b = omega arith
back-le (c ∷ []) b = one_of (c == 13 && starts_with_lf b) c b
back-le (c ∷ d ∷ a) b = omega (arith, back-le (d ∷ a) b)

unit-stop : (u c : ℕ) (cs : List ℕ) → is_newline c ≡ true → from_unit u (c ∷ cs) ≡ c ∷ cs
unfolding from_unit
unit-stop u c cs e = rw e refl

unit-go : (u c : ℕ) (cs : List ℕ) → is_newline c ≡ false → from_unit (units c + u) (c ∷ cs) ≡ from_unit u cs
unfolding from_unit
unit-go u c cs e =
    let far : nat_lt (units c + u) (units c) ≡ false = grind arith in
    let left : units c + u - units c ≡ u = omega arith in
    rw (e, far, left) refl

-- A unit of the text that begins with c, by one of the text after it, where c ends no line.
unit-more : (c d : ℕ) (a b : List ℕ) (n : Bool) → is_newline c ≡ n → ends_line c (a ++ b) ≡ false → from_unit d (a ++ b) ≡ back a b → from_unit (units c + d) (c ∷ a ++ b) ≡ back (c ∷ a) b
unfolding byte_len
unit-more c d a b false n e f = unit-go d c (a ++ b) n ∙ f ∙ sym (back-skip c a b (plain-no_split c (a ++ b) n))
unit-more c d [] b true n e f = unit-stop (units c + d) c b n ∙ sym (back-stop c b (split-cr c b n e))
unit-more c d (x ∷ a) b true n e f =
    let lf : (x == 10) ≡ true = and-right (c == 13) (x == 10) (split-cr c (x ∷ a ++ b) n e) in
    absurd (omega (arith, ap byte_len (sym (unit-stop d x (a ++ b) (lf-newline x lf)) ∙ f ∙ back-skip x a b (lf-no_cr x (a ++ b) lf)), back-le a b, (len_utf8_bounds x).0))

pick : (e : Bool) (p q : ℕ × ℕ) (P : ℕ × ℕ → Type 0) → (e ≡ true → P p) → (e ≡ false → P q) → P (if e then p else q)
pick true p q P f g = f refl
pick false p q P f g = g refl

pub line-end : (c j : ℕ) (cs : List ℕ) → ends_line c cs ≡ true → from_line (suc j) (c ∷ cs) ≡ from_line j cs
unfolding from_line
line-end c j cs e = rw e refl

pub line-go : (c j : ℕ) (cs : List ℕ) → ends_line c cs ≡ false → from_line (suc j) (c ∷ cs) ≡ from_line (suc j) cs
unfolding from_line
line-go c j cs e = rw e refl

pub line-zero : (cs : List ℕ) → from_line zero cs ≡ Some cs
unfolding from_line
line-zero cs = refl

back-later : (c d j : ℕ) (a b r : List ℕ) → from_line (suc j) (a ++ b) ≡ Some r → from_unit d r ≡ back a b → back a b ≡ back (c ∷ a) b
unfolding back
back-later c d j [] b r e f = absurd (omega (arith, from_line-le (suc j) b r e, from_unit-le d r, ap byte_len f))
back-later c d j (x ∷ a) b r e f = refl

-- The place after the prefix of a text is on the line that the text begins with, or on a later one.
walk : (a b : List ℕ) (l u : ℕ) (P : ℕ × ℕ → Type 0)
    → ((d : ℕ) → from_unit d (a ++ b) ≡ back a b → P (l, u + d))
    → ((j d : ℕ) (r : List ℕ) → from_line (suc j) (a ++ b) ≡ Some r → from_unit d r ≡ back a b → P (l + suc j, d))
    → P (position_from l u (byte_len a) (a ++ b))
unfolding position_from byte_len back
walk [] b l u P same later =
    let here : u + 0 ≡ u = omega arith in
    subst P (ap (λ x. (l, x)) here ∙ sym (position-stop l u b)) (same 0 (from_unit-zero b))
walk (c ∷ a) b l u P same later =
    let some : (len_utf8 c + byte_len a == 0) ≡ false = not_zero (len_utf8 c + byte_len a) (omega (arith, (len_utf8_bounds c).0)) in
    let less : len_utf8 c + byte_len a - len_utf8 c ≡ byte_len a = omega arith in
    rw (some, less) (pick (ends_line c (a ++ b)) (position_from (l + 1) 0 (byte_len a) (a ++ b)) (position_from l (u + units c) (byte_len a) (a ++ b)) P
    (λ e. walk a b (l + 1) 0 P
    (λ d f. let first : (l + 1, 0 + d) ≡ (l + suc zero, d) = ap (λ x. (l + 1, x)) (omega arith) ∙ ap (λ x. (x, d)) (omega arith) in
    subst P (sym first) (later zero d (a ++ b) (line-end c zero (a ++ b) e ∙ line-zero (a ++ b)) (f ∙ sym (back-skip c a b (ends-no_split c (a ++ b) e)))))
    (λ j d r g f. let next : l + suc (suc j) ≡ l + 1 + suc j = omega arith in
    subst P (ap (λ x. (x, d)) next) (later (suc j) d r (line-end c (suc j) (a ++ b) e ∙ g) (f ∙ sym (back-skip c a b (ends-no_split c (a ++ b) e))))))
    (λ e. walk a b l (u + units c) P
    (λ d f. let next : u + (units c + d) ≡ u + units c + d = omega arith in
    subst P (ap (λ x. (l, x)) next) (same (units c + d) (unit-more c d a b (is_newline c) refl e f)))
    (λ j d r g f. later j d r (line-go c j (a ++ b) e ∙ g) (f ∙ back-later c d j a b r g f))))

cr-long : (e : Bool) (c : ℕ) (b : List ℕ) → (e ≡ true → c ≡ 13) → byte_len (if e then c ∷ b else b) ≡ (if e then 1 + byte_len b else byte_len b)
unfolding byte_len
cr-long true c b f = ap (λ x. len_utf8 x + byte_len b) (f refl)
cr-long false c b f = refl

and-left : (a b : Bool) → (a && b) ≡ true → a ≡ true
and-left true b e = refl
and-left false b e = absurd cc

cr-is : (c : ℕ) (b : Bool) → (c == 13 && b) ≡ true → c ≡ 13
cr-is c b e = let h : (c == 13) ≡ true = and-left (c == 13) b e in grind (arith, h)

back-length : (a b : List ℕ) → byte_len (back a b) ≡ (if splits_newline a b then 1 + byte_len b else byte_len b)
unfolding back ends_with_cr
back-length [] b = refl
back-length (c ∷ []) b = cr-long (c == 13 && starts_with_lf b) c b (cr-is c (starts_with_lf b))
back-length (c ∷ d ∷ a) b = back-length (d ∷ a) b

less_back : (e : Bool) (m n k : ℕ) → k ≡ (if e then 1 + n else n) → m + n - k ≡ (if e then m - 1 else m)
less_back true m n k f = omega (arith, f)
less_back false m n k f = omega (arith, f)

from_back : (a b : List ℕ) → byte_len (a ++ b) - byte_len (back a b) ≡ (if splits_newline a b then byte_len a - 1 else byte_len a)
from_back a b = ap (λ x. x - byte_len (back a b)) (byte_len-append a b) ∙ less_back (splits_newline a b) (byte_len a) (byte_len b) (byte_len (back a b)) (back-length a b)

placed : (cs r : List ℕ) (l d : ℕ) (x : List ℕ) → from_line l cs ≡ Some r → from_unit d r ≡ x → offset_of cs l d ≡ Some (byte_len cs - byte_len x)
placed cs r l d x e f = ap (place (byte_len cs) d) e ∙ ap (λ y. Some (byte_len cs - byte_len y)) f

-- From an offset to its position and back.
offset-position : (a b : List ℕ) → offset_of (a ++ b) (position_of (a ++ b) (byte_len a)).0 (position_of (a ++ b) (byte_len a)).1 ≡ Some (if splits_newline a b then byte_len a - 1 else byte_len a)
offset-position a b =
    walk a b 0 0 (λ p. offset_of (a ++ b) p.0 p.1 ≡ Some (byte_len (a ++ b) - byte_len (back a b)))
    (λ d f. let here : 0 + d ≡ d = omega arith in ap (λ x. offset_of (a ++ b) 0 x) here ∙ placed (a ++ b) (a ++ b) 0 d (back a b) (line-zero (a ++ b)) f)
    (λ j d r e f. let line : 0 + suc j ≡ suc j = omega arith in ap (λ x. offset_of (a ++ b) x d) line ∙ placed (a ++ b) r (suc j) d (back a b) e f)
    ∙ ap Some (from_back a b)

pub position-back : (text : List ℕ) (n : ℕ) (p : ℕ × ℕ) → IsUtf8 text → IsCharBoundary text n → p ≡ position_of (chars text) n
    → offset_of (chars text) p.0 p.1 ≡ Some (if splits_newline (chars (take n text)) (chars (drop n text)) then n - 1 else n)
position-back text n p u b e =
    let a : List ℕ = chars (take n text) in
    let z : List ℕ = chars (drop n text) in
    let pu : IsUtf8 (take n text) = IsUtf8-take text n u b in
    let long : byte_len a ≡ n = byte_len-chars (take n text) pu ∙ length-take-le n text b.0 in
    let all : chars text ≡ a ++ z = ap chars (sym (take-append-drop n text)) ∙ chars-append (take n text) (drop n text) pu in
    let P : List ℕ → ℕ → ℕ × ℕ → Type 0 = λ cs k q. offset_of cs q.0 q.1 ≡ Some (if splits_newline a z then k - 1 else k) in
    subst (λ q. P (chars text) n q) (sym e)
    (subst (λ k. P (chars text) k (position_of (chars text) k)) long
    (subst (λ cs. P cs (byte_len a) (position_of cs (byte_len a))) (sym all) (offset-position a z)))

-- The line that a position with an offset has, and its unit.
position-at : (l n : ℕ) (cs r : List ℕ) → from_line l cs ≡ Some r → byte_len cs - byte_len r ≤ n → position_of cs n ≡ position_from l 0 (n - (byte_len cs - byte_len r)) r
position-at zero n cs r e m =
    let same : cs ≡ r = same_list cs r (sym (line-zero cs) ∙ e) in
    let all : n ≡ n - (byte_len cs - byte_len r) = omega (arith, ap byte_len same) in
    ap (position_from 0 0 n) same ∙ ap (λ x. position_from 0 0 x r) all
position-at (suc j) n cs r e m =
    let line : 0 + suc j ≡ suc j = omega arith in
    position-past j 0 0 n cs r e m ∙ ap (λ x. position_from x 0 (n - (byte_len cs - byte_len r)) r) line

-- On one line the unit grows by the units of what is passed.
position-on : (l u : ℕ) (p q : List ℕ) → All (λ c. is_newline c ≡ false) p → position_from l u (byte_len p) (p ++ q) ≡ (l, u + sum_by units p)
unfolding position_from byte_len
position-on l u [] q h = let here : u ≡ u + sum_by units [] = omega arith in position-stop l u q ∙ ap (λ x. (l, x)) here
position-on l u (c ∷ p) q h =
    let some : (len_utf8 c + byte_len p == 0) ≡ false = not_zero (len_utf8 c + byte_len p) (omega (arith, (len_utf8_bounds c).0)) in
    let less : len_utf8 c + byte_len p - len_utf8 c ≡ byte_len p = omega arith in
    let plain : ends_line c (p ++ q) ≡ false = plain-no_end c (p ++ q) (All-head (λ x. is_newline x ≡ false) c p h) in
    let next : u + units c + sum_by units p ≡ u + sum_by units (c ∷ p) = omega (arith, sum_by-cons units c p) in
    rw (some, less, plain) (position-on l (u + units c) p q (All-tail (λ x. is_newline x ≡ false) c p h) ∙ ap (λ x. (l, x)) next)

unit-prefix : (p q : List ℕ) → All (λ c. is_newline c ≡ false) p → from_unit (sum_by units p) (p ++ q) ≡ q
unit-prefix [] q h = from_unit-zero q
unit-prefix (c ∷ p) q h =
    ap (λ x. from_unit x (c ∷ p ++ q)) (sum_by-cons units c p) ∙ unit-go (sum_by units p) c (p ++ q) (All-head (λ x. is_newline x ≡ false) c p h) ∙ unit-prefix p q (All-tail (λ x. is_newline x ≡ false) c p h)

-- What a unit passes of a line.
passed : ℕ → List ℕ → List ℕ
passed u [] = []
passed u (c ∷ cs) = if is_newline c then [] else if nat_lt u (units c) then [] else c ∷ passed (u - units c) cs

stay : (e : Bool) (x : List ℕ) → (if e then x else x) ≡ x
stay true x = refl
stay false x = refl

none_some : (n : ℕ) → Some n ≡ None → ⊥
none_some n e = cc

-- The three facts of what is passed.
record IsPassed (u : ℕ) (cs p : List ℕ) : Type 0 where
  is : cs ≡ p ++ from_unit u cs
  plain : All (λ c. is_newline c ≡ false) p
  few : sum_by units p ≤ u

unit-inside : (u c : ℕ) (cs : List ℕ) → nat_lt u (units c) ≡ true → from_unit u (c ∷ cs) ≡ c ∷ cs
unfolding from_unit
unit-inside u c cs e = rw e (stay (is_newline c) (c ∷ cs))

passed-stop : (u c : ℕ) (cs : List ℕ) → from_unit u (c ∷ cs) ≡ c ∷ cs → IsPassed u (c ∷ cs) []
passed-stop u c cs e = record { is = sym e; plain = All-nil (λ c. is_newline c ≡ false); few = omega arith }

passed-more : (u c : ℕ) (cs : List ℕ) → is_newline c ≡ false → units c ≤ u → IsPassed (u - units c) cs (passed (u - units c) cs) → IsPassed u (c ∷ cs) (c ∷ passed (u - units c) cs)
passed-more u c cs n l h =
    let all : units c + (u - units c) ≡ u = omega arith in
    record {
      is = ap (λ x. c ∷ x) (h.is ∙ ap (λ x. passed (u - units c) cs ++ x) (sym (unit-go (u - units c) c cs n) ∙ ap (λ x. from_unit x (c ∷ cs)) all));
      plain = All-cons (λ c. is_newline c ≡ false) c (passed (u - units c) cs) n h.plain;
      few = omega (arith, h.few, sum_by-cons units c (passed (u - units c) cs));
    }

not_less : (m n : ℕ) → nat_lt m n ≡ false → n ≤ m
not_less m n e = grind (arith, e)

passed-step : (u c : ℕ) (cs : List ℕ) (n f : Bool) → is_newline c ≡ n → nat_lt u (units c) ≡ f → IsPassed (u - units c) cs (passed (u - units c) cs) → IsPassed u (c ∷ cs) (if n then [] else if f then [] else c ∷ passed (u - units c) cs)
passed-step u c cs true f e g h = passed-stop u c cs (unit-stop u c cs e)
passed-step u c cs false true e g h = passed-stop u c cs (unit-inside u c cs g)
passed-step u c cs false false e g h = passed-more u c cs e (not_less u (units c) g) h

passed-is : (u : ℕ) (cs : List ℕ) → IsPassed u cs (passed u cs)
unfolding passed
passed-is u [] = record { is = sym (from_unit-nil u); plain = All-nil (λ c. is_newline c ≡ false); few = omega arith }
passed-is u (c ∷ cs) = passed-step u c cs (is_newline c) (nat_lt u (units c)) refl refl (passed-is (u - units c) cs)

-- The position of a place of a line.
position-in : (l n : ℕ) (cs r p q : List ℕ) → from_line l cs ≡ Some r → r ≡ p ++ q → All (λ c. is_newline c ≡ false) p → n ≡ byte_len cs - byte_len q → position_of cs n ≡ (l, sum_by units p)
position-in l n cs r p q e f h m =
    let le = from_line-le l cs r e in
    let long : byte_len r ≡ byte_len p + byte_len q = ap byte_len f ∙ byte_len-append p q in
    let left : n - (byte_len cs - byte_len r) ≡ byte_len p = omega (arith, le, long, m) in
    position-at l n cs r e (omega (arith, le, long, m)) ∙ ap (λ x. position_from l 0 x r) left ∙ ap (position_from l 0 (byte_len p)) f ∙ position-on l 0 p q h ∙ ap (λ x. (l, x)) (omega arith)

offset-in : (l u n : ℕ) (cs r : List ℕ) → from_line l cs ≡ Some r → Some n ≡ offset_of cs l u → position_of cs n ≡ (l, sum_by units (passed u r))
offset-in l u n cs r e f =
    let h = passed-is u r in
    position-in l n cs r (passed u r) (from_unit u r) e h.is h.plain (same_number n (byte_len cs - byte_len (from_unit u r)) (f ∙ ap (place (byte_len cs) u) e))

some_line : (l u n : ℕ) (cs : List ℕ) (o : Option (List ℕ)) (P : Type 0) → from_line l cs ≡ o → Some n ≡ offset_of cs l u → ((r : List ℕ) → from_line l cs ≡ Some r → P) → P
some_line l u n cs None P e f k = absurd (none_some n (f ∙ ap (place (byte_len cs) u) e))
some_line l u n cs (Some r) P e f k = k r e

pub offset-line : (l u : ℕ) (cs : List ℕ) (o : Option ℕ) → o ≡ offset_of cs l u → IfSome o (λ n. (position_of cs n).0 ≡ l)
offset-line l u cs None e = tt
offset-line l u cs (Some n) e = some_line l u n cs (from_line l cs) ((position_of cs n).0 ≡ l) refl e (λ r f. ap (λ p. p.0) (offset-in l u n cs r f e))

pub offset-unit : (l u : ℕ) (cs : List ℕ) (o : Option ℕ) → o ≡ offset_of cs l u → IfSome o (λ n. (position_of cs n).1 ≤ u)
offset-unit l u cs None e = tt
offset-unit l u cs (Some n) e = some_line l u n cs (from_line l cs) ((position_of cs n).1 ≤ u) refl e (λ r f. omega (arith, ap (λ p. p.1) (offset-in l u n cs r f e), (passed-is u r).few))

back_again : (l u n : ℕ) (cs before after : List ℕ) → Some n ≡ offset_of cs l u → IsPlaceIn cs l u before after → position_of cs n ≡ (l, u)
back_again l u n cs before after e h =
    let rest : from_unit u (before ++ after) ≡ after = ap (λ x. from_unit x (before ++ after)) (sym h.units_are) ∙ unit-prefix before after h.within in
    let at : n ≡ byte_len cs - byte_len after = same_number n (byte_len cs - byte_len after) (e ∙ ap (place (byte_len cs) u) h.on ∙ ap (λ x. Some (byte_len cs - byte_len x)) rest) in
    position-in l n cs (before ++ after) before after h.on refl h.within at ∙ ap (λ x. (l, x)) h.units_are

pub offset-back : (l u : ℕ) (cs : List ℕ) (o : Option ℕ) → o ≡ offset_of cs l u → IfSome o (λ n. (before after : List ℕ) → IsPlaceIn cs l u before after → position_of cs n ≡ (l, u))
offset-back l u cs None e = tt
offset-back l u cs (Some n) e = λ before after h. back_again l u n cs before after e h

pub ruleset laws = (position-back)

-- Lines and positions counted from a later line.
use Rattle.std.proofs.Common.{◌≡◌, ◌∙◌, sym, ap, ℕ, zero, suc, ◌+◌, ◌-◌, ◌<◌, ◌≤◌, List, [], ◌∷◌, ◌++◌, length, arith, refl, nat_lt, Bool, true, false, if◌then◌else◌, ◌==◌, Option, Some, None, IsUtf8}
use Rattle.std.proofs.lemmas.Str.{len_utf8_bounds}
use Rattle.std.specs.Char.{len_utf8}
use Rattle.std.specs.Str.{chars}
use Rattle.documents.specs.Places.{is_newline, units, ends_line, from_line, from_unit, position_from, byte_len}
use Rattle.documents.proofs.Rests.{byte_len-chars, byte_len-encodes, rest_drop, from_line-zero, rest-same}

list_in : Option (List ℕ) → List ℕ
list_in None = []
list_in (Some xs) = xs

pub same_list : (xs ys : List ℕ) → Some xs ≡ Some ys → xs ≡ ys
unfolding list_in
same_list xs ys e = ap list_in e

number_in : Option ℕ → ℕ
number_in None = 0
number_in (Some n) = n

pub same_number : (m n : ℕ) → Some m ≡ Some n → m ≡ n
unfolding number_in
same_number m n e = ap number_in e

pub either : (b : Bool) (x y z : Option (List ℕ)) (P : Type 0) → (if b then x else y) ≡ z → (x ≡ z → P) → (y ≡ z → P) → P
either true x y z P e f g = f e
either false x y z P e f g = g e

further : (b : Bool) (k m : ℕ) (cs r : List ℕ) → (if b then from_line k cs else from_line (suc k) cs) ≡ Some r
    → (from_line k cs ≡ Some r → from_line (k + m) cs ≡ from_line m r) → (from_line (suc k) cs ≡ Some r → from_line (suc (k + m)) cs ≡ from_line m r)
    → (if b then from_line (k + m) cs else from_line (suc (k + m)) cs) ≡ from_line m r
further true k m cs r e f g = f e
further false k m cs r e f g = g e

-- A line counted from a line before it.
pub from_line-add : (k m : ℕ) (cs r : List ℕ) → from_line k cs ≡ Some r → from_line (k + m) cs ≡ from_line m r
unfolding from_line
from_line-add zero m cs r e = ap (λ n. from_line n cs) (omega arith) ∙ ap (from_line m) (same_list cs r e)
from_line-add (suc k) m [] r e = absurd cc
from_line-add (suc k) m (c ∷ cs) r e =
    let n : suc k + m ≡ suc (k + m) = omega arith in
    ap (λ x. from_line x (c ∷ cs)) n ∙ further (ends_line c cs) k m cs r e (from_line-add k m cs r) (λ d. ap (λ x. from_line x cs) (sym n) ∙ from_line-add (suc k) m cs r d)

pub line-less : (l : ℕ) (cs r : List ℕ) → 0 < l → from_line 1 cs ≡ Some r → from_line l cs ≡ from_line (l - 1) r
line-less l cs r h e = let n : l ≡ 1 + (l - 1) = omega (arith, h) in ap (λ x. from_line x cs) n ∙ from_line-add 1 (l - 1) cs r e

none_more : (b : Bool) (k : ℕ) (cs : List ℕ) → (if b then from_line 0 cs else from_line 1 cs) ≡ None → (from_line 1 cs ≡ None → from_line (suc k) cs ≡ None) → (if b then from_line k cs else from_line (suc k) cs) ≡ None
unfolding from_line
none_more true k cs e f = absurd cc
none_more false k cs e f = f e

none_later : (k : ℕ) (cs : List ℕ) → from_line 1 cs ≡ None → from_line (suc k) cs ≡ None
unfolding from_line
none_later k [] e = refl
none_later k (c ∷ cs) e = none_more (ends_line c cs) k cs e (none_later k cs)

pub line-no_more : (l : ℕ) (cs : List ℕ) → 0 < l → from_line 1 cs ≡ None → from_line l cs ≡ None
line-no_more zero cs h e = absurd (omega arith)
line-no_more (suc k) cs h e = none_later k cs e

-- Each line before has a byte at least.
pub from_line-le : (l : ℕ) (cs r : List ℕ) → from_line l cs ≡ Some r → byte_len r + l ≤ byte_len cs
unfolding from_line byte_len
from_line-le zero cs r e = omega (arith, ap byte_len (same_list cs r e))
from_line-le (suc l) [] r e = absurd cc
from_line-le (suc l) (c ∷ cs) r e =
    either (ends_line c cs) (from_line l cs) (from_line (suc l) cs) (Some r) (byte_len r + suc l ≤ byte_len (c ∷ cs)) e
    (λ d. omega (arith, from_line-le l cs r d, (len_utf8_bounds c).0)) (λ d. omega (arith, from_line-le (suc l) cs r d))

pub byte_len-append : (xs ys : List ℕ) → byte_len (xs ++ ys) ≡ byte_len xs + byte_len ys
unfolding byte_len
byte_len-append [] ys = omega arith
byte_len-append (x ∷ xs) ys = omega (arith, byte_len-append xs ys)

unit_step : (a b : Bool) (xs ys : List ℕ) → byte_len ys ≤ byte_len xs → byte_len (if a then xs else if b then xs else ys) ≤ byte_len xs
unit_step true b xs ys l = omega arith
unit_step false true xs ys l = omega arith
unit_step false false xs ys l = l

pub from_unit-le : (u : ℕ) (cs : List ℕ) → byte_len (from_unit u cs) ≤ byte_len cs
unfolding from_unit byte_len
from_unit-le u [] = omega arith
from_unit-le u (c ∷ cs) = unit_step (is_newline c) (nat_lt u (units c)) (c ∷ cs) (from_unit (u - units c) cs) (omega (arith, from_unit-le (u - units c) cs))

step : (b : Bool) (p q r : ℕ × ℕ) → (b ≡ true → p ≡ r) → (b ≡ false → q ≡ r) → (if b then p else q) ≡ r
step true p q r f g = f refl
step false p q r f g = g refl

pub not_zero : (n : ℕ) → 0 < n → (n == 0) ≡ false
not_zero n l = grind (arith, l)

line_at : (b : Bool) (j : ℕ) (cs : List ℕ) (o : Option (List ℕ)) → b ≡ true → (if b then from_line j cs else from_line (suc j) cs) ≡ o → from_line j cs ≡ o
line_at true j cs o e f = f
line_at false j cs o e f = absurd cc

line_past : (b : Bool) (j : ℕ) (cs : List ℕ) (o : Option (List ℕ)) → b ≡ false → (if b then from_line j cs else from_line (suc j) cs) ≡ o → from_line (suc j) cs ≡ o
line_past true j cs o e f = absurd cc
line_past false j cs o e f = f

next_line : (j l n c : ℕ) (cs r : List ℕ) → from_line j cs ≡ Some r → len_utf8 c + byte_len cs - byte_len r ≤ n
    → ((i : ℕ) → from_line (suc i) cs ≡ Some r → byte_len cs - byte_len r ≤ n - len_utf8 c → position_from (l + 1) 0 (n - len_utf8 c) cs ≡ position_from (l + 1 + suc i) 0 (n - len_utf8 c - (byte_len cs - byte_len r)) r)
    → position_from (l + 1) 0 (n - len_utf8 c) cs ≡ position_from (l + suc j) 0 (n - (len_utf8 c + byte_len cs - byte_len r)) r
unfolding from_line
next_line zero l n c cs r e m past =
    let same : cs ≡ r = same_list cs r e in
    let less : n - len_utf8 c ≡ n - (len_utf8 c + byte_len cs - byte_len r) = omega (arith, ap byte_len same) in
    let line : l + 1 ≡ l + suc zero = omega arith in
    ap (λ x. position_from (l + 1) 0 (n - len_utf8 c) x) same ∙ ap (λ x. position_from (l + 1) 0 x r) less ∙ ap (λ x. position_from x 0 (n - (len_utf8 c + byte_len cs - byte_len r)) r) line
next_line (suc i) l n c cs r e m past =
    let le = from_line-le (suc i) cs r e in
    let less : n - len_utf8 c - (byte_len cs - byte_len r) ≡ n - (len_utf8 c + byte_len cs - byte_len r) = omega (arith, le, m) in
    let line : l + 1 + suc i ≡ l + suc (suc i) = omega arith in
    past i e (omega (arith, le, m)) ∙ ap (λ x. position_from (l + 1 + suc i) 0 x r) less ∙ ap (λ x. position_from x 0 (n - (len_utf8 c + byte_len cs - byte_len r)) r) line

-- Positions counted from the start of a later line.
pub position-past : (j l u n : ℕ) (cs r : List ℕ) → from_line (suc j) cs ≡ Some r → byte_len cs - byte_len r ≤ n → position_from l u n cs ≡ position_from (l + suc j) 0 (n - (byte_len cs - byte_len r)) r
unfolding from_line byte_len position_from
position-past j l u n [] r e m = absurd cc
position-past j l u n (c ∷ cs) r e m =
    let le = from_line-le (suc j) (c ∷ cs) r e in
    let some : (n == 0) ≡ false = not_zero n (omega (arith, le, m)) in
    let less = (len_utf8_bounds c).0 in
    rw some (step (ends_line c cs) (position_from (l + 1) 0 (n - len_utf8 c) cs) (position_from l (u + units c) (n - len_utf8 c) cs) (position_from (l + suc j) 0 (n - (len_utf8 c + byte_len cs - byte_len r)) r)
    (λ b. next_line j l n c cs r (line_at (ends_line c cs) j cs (Some r) b e) m (λ i d k. position-past i (l + 1) 0 (n - len_utf8 c) cs r d k))
    (λ b. let d = line_past (ends_line c cs) j cs (Some r) b e in position-past j l (u + units c) (n - len_utf8 c) cs r d (omega (arith, m, from_line-le (suc j) cs r d)) ∙ ap (λ x. position_from (l + suc j) 0 x r) (omega (arith, m, from_line-le (suc j) cs r d))))

-- Positions counted from the start of a known line.
pub position-known : (k offset : ℕ) (text rest : List ℕ) → IsUtf8 text → IsUtf8 rest → from_line k (chars text) ≡ Some (chars rest) → length text - length rest ≤ offset
    → position_from k 0 (offset - (length text - length rest)) (chars rest) ≡ position_from 0 0 offset (chars text)
position-known zero offset text rest u v e m =
    let same : chars text ≡ chars rest = same_list (chars text) (chars rest) (sym (from_line-zero (chars text)) ∙ e) in
    let all : offset - (length text - length rest) ≡ offset = omega (arith, ap byte_len same, byte_len-chars text u, byte_len-chars rest v) in
    ap (λ x. position_from 0 0 x (chars rest)) all ∙ ap (position_from 0 0 offset) (sym same)
position-known (suc j) offset text rest u v e m =
    let n : byte_len (chars text) - byte_len (chars rest) ≡ length text - length rest = omega (arith, byte_len-chars text u, byte_len-chars rest v) in
    let line : 0 + suc j ≡ suc j = omega arith in
    sym (position-past j 0 0 offset (chars text) (chars rest) e (omega (arith, n, m)) ∙ ap (λ x. position_from x 0 (offset - (byte_len (chars text) - byte_len (chars rest))) (chars rest)) line ∙ ap (λ x. position_from (suc j) 0 (offset - x) (chars rest)) n)

-- A text has no more lines than bytes, and one.
pub line-le : (k : ℕ) (text rest : List ℕ) → IsUtf8 text → from_line k (chars text) ≡ Some rest → k ≤ length text
line-le k text rest u e = omega (arith, from_line-le k (chars text) rest e, byte_len-chars text u)

pub ruleset places = (rest-same, rest_drop, from_line-zero, line-le, position-known)

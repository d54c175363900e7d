-- Loops over lists, by what is left.
use Rattle.std.proofs.Common.{◌≡◌, ◌∙◌, ap, sym, ℕ, zero, suc, ◌+◌, ◌-◌, ◌<◌, ◌≤◌, slice_index_or, drop, map, find, arith, List, [], ◌∷◌, refl, Bool, true, false, not, length, add-one, Option, Some, None, if◌then◌else◌, ◌&&◌, ◌||◌, bytes_eq, count_by, nat_lt, inl, inr, IfSome}
use Rattle.std.specs.List.{position_from, list_any, suffix_len}
use Rattle.std.proofs.lemmas.List.{drop_more, drop_all}
use Rattle.std.proofs.lemmas.List.Sums.{suffix_len_is, sum_by-cons}
use Rattle.java_tokens.specs.declared.token.Token.{Token}
use Rattle.java_tokens.specs.Tokens.{IsWithin, AreWithin}
use Rattle.java_units.specs.declared.lexemes.Lexeme.{Lexeme}
use Rattle.java_units.specs.declared.types.SourceField.{SourceField}
use Rattle.java_units.specs.declared.types.SourceMethod.{SourceMethod}
use Rattle.java_units.specs.declared.types.SourceClass.{SourceClass}
use Rattle.java_units.specs.declared.types.TypeText.{TypeText}
use Rattle.java_units.specs.Signs.{Sign, sign, seen}
use Rattle.java_units.specs.Forms.{begins_any}
use Rattle.java_units.proofs.Walks.{seen-at, seen-length}
use Rattle.std.proofs.lemmas.Bool.{cases_lt}
use Rattle.java_bodies.specs.Statements.{separators, separates, statement_len, own_statement}
use Rattle.java_bodies.specs.Blocks.{all_below}
use Rattle.java_bodies.specs.Methods.{signs_before, first_method, placed}
use Rattle.java_bodies.specs.Wanted.{field_kind, local_kind}
use Rattle.java_bodies.specs.declared.methods.MethodPlace.{MethodPlace}
use Rattle.java_bodies.specs.declared.site.Local.{Local}

picked : {A : Type 0} (b : Bool) (x y : A) → b ≡ true → (if b then x else y) ≡ x
picked b x y e = rw (e) refl

passed_by : {A : Type 0} (b : Bool) (x y : A) → b ≡ false → (if b then x else y) ≡ y
passed_by b x y e = rw (e) refl

-- what is left begins with the element at the place
pub at_front : {A : Type 0} (xs : List A) (i : ℕ) (x : A) → i < length xs → x ≡ slice_index_or xs i x → drop i xs ≡ x ∷ drop (i + 1) xs
at_front xs i x l e = drop_more xs i x l ∙ ap (λ y. y ∷ drop (i + 1) xs) (sym e)

-- the first one that passes
pub find_hit : {A : Type 0} (p : A → Bool) (xs : List A) (i : ℕ) (d : A) (r : Option A) → i < length xs → p (slice_index_or xs i d) ≡ true → r ≡ find p (drop i xs) → Some (slice_index_or xs i d) ≡ r
find_hit p xs i d r l e h = sym (h ∙ ap (find p) (drop_more xs i d l) ∙ picked (p (slice_index_or xs i d)) _ _ e)

pub find_on : {A : Type 0} (p : A → Bool) (xs : List A) (i : ℕ) (d : A) (r : Option A) → i < length xs → p (slice_index_or xs i d) ≡ false → r ≡ find p (drop i xs) → r ≡ find p (drop (i + 1) xs)
find_on p xs i d r l e h = h ∙ ap (find p) (drop_more xs i d l) ∙ passed_by (p (slice_index_or xs i d)) _ _ e

pub find_end : {A : Type 0} (p : A → Bool) (xs : List A) (i : ℕ) (r : Option A) → length xs ≤ i → r ≡ find p (drop i xs) → None ≡ r
find_end p xs i r l h = sym (h ∙ ap (find p) (drop_all i xs l))

pub position_hit : {A : Type 0} (p : A → Bool) (xs : List A) (i : ℕ) (x : A) (r : Option ℕ) → i < length xs → x ≡ slice_index_or xs i x → p x ≡ true → r ≡ position_from p i (drop i xs) → Some i ≡ r
position_hit p xs i x r l is e h = sym (h ∙ ap (position_from p i) (at_front xs i x l is) ∙ picked (p x) _ _ e)

pub position_on : {A : Type 0} (p : A → Bool) (xs : List A) (i : ℕ) (x : A) (r : Option ℕ) → i < length xs → x ≡ slice_index_or xs i x → p x ≡ false → r ≡ position_from p i (drop i xs) → r ≡ position_from p (i + 1) (drop (i + 1) xs)
position_on p xs i x r l is e h = h ∙ ap (position_from p i) (at_front xs i x l is) ∙ passed_by (p x) _ _ e

pub position_end : {A : Type 0} (p : A → Bool) (xs : List A) (i : ℕ) (r : Option ℕ) → length xs ≤ i → r ≡ position_from p i (drop i xs) → None ≡ r
position_end p xs i r l h = sym (h ∙ ap (position_from p i) (drop_all i xs l))

pub any_hit : {A : Type 0} (p : A → Bool) (xs : List A) (i : ℕ) (x : A) (r : Bool) → i < length xs → x ≡ slice_index_or xs i x → p x ≡ true → r ≡ list_any p (drop i xs) → true ≡ r
any_hit p xs i x r l is e h = let k : (p x || list_any p (drop (i + 1) xs)) ≡ true = rw (e) refl in sym (h ∙ ap (list_any p) (at_front xs i x l is) ∙ k)

pub any_on : {A : Type 0} (p : A → Bool) (xs : List A) (i : ℕ) (x : A) (r : Bool) → i < length xs → x ≡ slice_index_or xs i x → p x ≡ false → r ≡ list_any p (drop i xs) → r ≡ list_any p (drop (i + 1) xs)
any_on p xs i x r l is e h = let k : (p x || list_any p (drop (i + 1) xs)) ≡ list_any p (drop (i + 1) xs) = rw (e) refl in h ∙ ap (list_any p) (at_front xs i x l is) ∙ k

pub any_end : {A : Type 0} (p : A → Bool) (xs : List A) (i : ℕ) (r : Bool) → length xs ≤ i → r ≡ list_any p (drop i xs) → false ≡ r
any_end p xs i r l h = sym (h ∙ ap (list_any p) (drop_all i xs l))

-- the first method that passes
pub method_hit : (p : SourceMethod → Bool) (cs : List SourceClass) (i k : ℕ) (c : SourceClass) (r : Option MethodPlace) → i < length cs → c ≡ slice_index_or cs i c → position_from p 0 c.methods ≡ Some k → r ≡ first_method p i (drop i cs) → Some (record { class = i; method = k }) ≡ r
unfolding first_method
method_hit p cs i k c r l is e h = sym (h ∙ ap (first_method p i) (at_front cs i c l is) ∙ ap (λ o. placed i o (first_method p (suc i) (drop (i + 1) cs))) e)

pub method_on : (p : SourceMethod → Bool) (cs : List SourceClass) (i : ℕ) (c : SourceClass) (r : Option MethodPlace) → i < length cs → c ≡ slice_index_or cs i c → position_from p 0 c.methods ≡ None → r ≡ first_method p i (drop i cs) → r ≡ first_method p (i + 1) (drop (i + 1) cs)
unfolding first_method
method_on p cs i c r l is e h = h ∙ ap (first_method p i) (at_front cs i c l is) ∙ ap (λ o. placed i o (first_method p (suc i) (drop (i + 1) cs))) e ∙ ap (λ n. first_method p n (drop (i + 1) cs)) (sym (add-one i))

pub method_end : (p : SourceMethod → Bool) (cs : List SourceClass) (i : ℕ) (r : Option MethodPlace) → length cs ≤ i → r ≡ first_method p i (drop i cs) → None ≡ r
unfolding first_method
method_end p cs i r l h = sym (h ∙ ap (first_method p i) (drop_all i cs l))

-- types by names
pub field_hit : (name : List ℕ) (fs : List SourceField) (i : ℕ) (f : SourceField) (r : Option TypeText) → i < length fs → f ≡ slice_index_or fs i f → bytes_eq f.name name ≡ true → r ≡ field_kind name (drop i fs) → Some f.kind ≡ r
unfolding field_kind
field_hit name fs i f r l is e h = sym (h ∙ ap (field_kind name) (at_front fs i f l is) ∙ picked (bytes_eq f.name name) _ _ e)

pub field_on : (name : List ℕ) (fs : List SourceField) (i : ℕ) (f : SourceField) (r : Option TypeText) → i < length fs → f ≡ slice_index_or fs i f → bytes_eq f.name name ≡ false → r ≡ field_kind name (drop i fs) → r ≡ field_kind name (drop (i + 1) fs)
unfolding field_kind
field_on name fs i f r l is e h = h ∙ ap (field_kind name) (at_front fs i f l is) ∙ passed_by (bytes_eq f.name name) _ _ e

pub field_end : (name : List ℕ) (fs : List SourceField) (i : ℕ) (r : Option TypeText) → length fs ≤ i → r ≡ field_kind name (drop i fs) → None ≡ r
unfolding field_kind
field_end name fs i r l h = sym (h ∙ ap (field_kind name) (drop_all i fs l))

pub local_hit : (name : List ℕ) (ls : List Local) (fs : List SourceField) (i : ℕ) (v : Local) (r : Option TypeText) → i < length ls → v ≡ slice_index_or ls i v → bytes_eq v.name name ≡ true → r ≡ local_kind name (drop i ls) fs → Some v.kind ≡ r
unfolding local_kind
local_hit name ls fs i v r l is e h = sym (h ∙ ap (λ xs. local_kind name xs fs) (at_front ls i v l is) ∙ picked (bytes_eq v.name name) _ _ e)

pub local_on : (name : List ℕ) (ls : List Local) (fs : List SourceField) (i : ℕ) (v : Local) (r : Option TypeText) → i < length ls → v ≡ slice_index_or ls i v → bytes_eq v.name name ≡ false → r ≡ local_kind name (drop i ls) fs → r ≡ local_kind name (drop (i + 1) ls) fs
unfolding local_kind
local_on name ls fs i v r l is e h = h ∙ ap (λ xs. local_kind name xs fs) (at_front ls i v l is) ∙ passed_by (bytes_eq v.name name) _ _ e

pub local_end : (name : List ℕ) (ls : List Local) (fs : List SourceField) (i : ℕ) (r : Option TypeText) → length ls ≤ i → r ≡ local_kind name (drop i ls) fs → r ≡ field_kind name fs
unfolding local_kind
local_end name ls fs i r l h = h ∙ ap (λ xs. local_kind name xs fs) (drop_all i ls l)

-- how many signs stand before a token
pub count_seen : (n : ℕ) (ls : List Lexeme) → count_by (λ l. nat_lt l.number n) ls ≡ signs_before n (seen ls)
unfolding signs_before seen sign
count_seen n [] = refl
count_seen n (l ∷ ls) =
    sum_by-cons (λ x. if nat_lt x.number n then 1 else 0) l ls
    ∙ ap (λ k. (if nat_lt l.number n then 1 else 0) + k) (count_seen n ls)
    ∙ sym (sum_by-cons (λ x. if nat_lt x.number n then 1 else 0) (sign l) (map sign ls))

-- a test of each place
pub all_none : (p : ℕ → Bool) → all_below p 0 ≡ true
unfolding all_below
all_none p = refl

pub all_on : (p : ℕ → Bool) (n : ℕ) → p n ≡ true → all_below p n ≡ true → all_below p (n + 1) ≡ true
unfolding all_below
all_on p n e h = rw (add-one n, h, e) refl

and_false : (b : Bool) → (b && false) ≡ false
and_false true = refl
and_false false = refl

all_stops : (p : ℕ → Bool) (n m : ℕ) → p n ≡ false → all_below p (suc (m + n)) ≡ false
unfolding all_below
all_stops p n zero e = let z : zero + n ≡ n = omega arith in ap (λ k. all_below p k && p k) z ∙ (rw (e) (and_false (all_below p n)))
all_stops p n (suc m) e =
    let q : suc m + n ≡ suc (m + n) = omega arith in
    let h : all_below p (suc m + n) ≡ false = ap (all_below p) q ∙ all_stops p n m e in
    rw (h) refl

pub all_stop : (p : ℕ → Bool) (n m : ℕ) → n < m → p n ≡ false → false ≡ all_below p m
all_stop p n m l e = let q : m ≡ suc ((m - n - 1) + n) = omega (arith, l) in sym (ap (all_below p) q ∙ all_stops p n (m - n - 1) e)

-- statements
separates_prefix : (ss : List Sign) (s : Sign) → begins_any separators (s ∷ ss) ≡ separates s
unfolding begins_any separates
separates_prefix ss s = refl

statement_step : (s : Sign) (ss : List Sign) → statement_len (s ∷ ss) ≡ (if separates s then 1 else suc (statement_len ss))
unfolding statement_len
statement_step s ss = refl

unfoldable pub no_lexeme : Lexeme
no_lexeme = record { word = record { ref_ptr = (0, 0); now = [] }; is_name = false; number = 0; holds = 0 }

pub statement_hit : (ls : List Lexeme) (i k : ℕ) → i < length ls → begins_any separators (drop i (seen ls)) ≡ true → k ≡ i + statement_len (drop i (seen ls)) → i + 1 ≡ k
statement_hit ls i k l e h =
    let d = no_lexeme in
    let a = seen-at ls i d l in
    let s = sign (slice_index_or ls i d) in
    let b : separates s ≡ true = sym (separates_prefix (drop (i + 1) (seen ls)) s) ∙ sym (ap (begins_any separators) a) ∙ e in
    sym (h ∙ ap (λ xs. i + statement_len xs) a ∙ ap (λ n. i + n) (statement_step s _ ∙ picked (separates s) _ _ b))

pub statement_on : (ls : List Lexeme) (i k : ℕ) → i < length ls → begins_any separators (drop i (seen ls)) ≡ false → k ≡ i + statement_len (drop i (seen ls)) → k ≡ (i + 1) + statement_len (drop (i + 1) (seen ls))
statement_on ls i k l e h =
    let d = no_lexeme in
    let a = seen-at ls i d l in
    let s = sign (slice_index_or ls i d) in
    let b : separates s ≡ false = sym (separates_prefix (drop (i + 1) (seen ls)) s) ∙ sym (ap (begins_any separators) a) ∙ e in
    h ∙ ap (λ xs. i + statement_len xs) a ∙ ap (λ n. i + n) (statement_step s _ ∙ passed_by (separates s) _ _ b) ∙ omega arith

pub statement_end : (ls : List Lexeme) (i k : ℕ) → length ls ≤ i → k ≡ i + statement_len (drop i (seen ls)) → k ≡ i
unfolding statement_len
statement_end ls i k l h = h ∙ ap (λ xs. i + statement_len xs) (drop_all i (seen ls) (omega (arith, seen-length ls))) ∙ omega arith

-- the hole's own statement
separates_at : (ss : List Sign) (k : ℕ) (d : Sign) → k < length ss → begins_any separators (drop k ss) ≡ separates (slice_index_or ss k d)
separates_at [] k d l = absurd (omega arith)
separates_at (s ∷ ss) zero d l = separates_prefix ss s
separates_at (s ∷ ss) (suc k) d l = separates_at ss k d (omega arith)

-- from a place on nothing ends a statement
pub record IsPlain (ss : List Sign) (n : ℕ) : Type 0 where
  pub within : n ≤ length ss
  pub plain : (k : ℕ) → n ≤ k → k < length ss → begins_any separators (drop k ss) ≡ false

pub plain_first : (ss : List Sign) (n : ℕ) → n ≡ length ss → IsPlain ss n
plain_first ss n e = record { within = omega (arith, e); plain = λ k a b. absurd (omega (arith, e)) }

pub plain_on : (ss : List Sign) (n : ℕ) → 0 < n → begins_any separators (drop (n - 1) ss) ≡ false → IsPlain ss n → IsPlain ss (n - 1)
plain_on ss n z e h = record {
  within = omega (arith, h.within);
  plain = λ k a b. elim (cases_lt k n) [ inl x ↦ (let q : n - 1 ≡ k = omega (arith, a, x) in ap (λ j. begins_any separators (drop j ss)) (sym q) ∙ e) | inr y ↦ h.plain k y b ];
}

no_sign : Sign
no_sign = record { text = []; is_name = false; number = 0; holds = 0 }

pub plain_end : (ss : List Sign) (n : ℕ) → IsPlain ss n → (0 < n → begins_any separators (drop (n - 1) ss) ≡ true) → drop n ss ≡ own_statement ss
unfolding own_statement
plain_end ss n h f =
    let e : suffix_len (λ x. not (separates x)) ss ≡ length ss - n =
    suffix_len_is (λ x. not (separates x)) ss n no_sign h.within
    (λ k a b. ap not (sym (separates_at ss k no_sign b) ∙ h.plain k a b))
    (λ z. ap not (sym (separates_at ss (n - 1) no_sign (omega (arith, h.within, z))) ∙ f z)) in
    let q : n ≡ length ss - suffix_len (λ x. not (separates x)) ss = omega (arith, e, h.within) in
    ap (λ k. drop k ss) q

within_either : (text : List ℕ) (b : Bool) (t : Token) (o : Option Token) → IsWithin text t → IfSome o (λ x. IsWithin text x) → IfSome (if b then Some t else o) (λ x. IsWithin text x)
within_either text true t o h k = h
within_either text false t o h k = k

-- a token that is found stands at whole characters
pub within_found : (text : List ℕ) (p : Token → Bool) (ts : List Token) → AreWithin text ts → IfSome (find p ts) (λ t. IsWithin text t)
within_found text p [] h = tt
within_found text p (t ∷ ts) h = within_either text (p t) t (find p ts) h.0 (within_found text p ts h.1)

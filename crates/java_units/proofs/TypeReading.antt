-- What is read of a type is what the grammar says of it.
use Rattle.std.proofs.Common.{◌≡◌, ◌≢◌, ◌<◌, ◌∙◌, ap, sym, subst, ℕ, zero, suc, ◌+◌, ◌*◌, ◌/◌, ◌==◌, Bool, true, false, List, [], ◌∷◌, ◌++◌, length, take, drop, refl, arith, codes, length-append, append_assoc, rules, tests}
use Rattle.std.proofs.lemmas.List.{take-append-drop, length-take-le}
use Rattle.std.proofs.lemmas.List.Elements.{All-nil, All-cons, All-head, All-tail}
use Rattle.std.proofs.Math.Seq.{take-append_seam}
use Rattle.java_units.specs.declared.types.TypeText.{TypeText}
use Rattle.java_units.specs.Signs.{Sign, is, has}
use Rattle.java_units.specs.Forms.{begins, primitives, base_len, dims_len, type_len}
use Rattle.java_units.specs.Values.{angled, takes, parts_of, type_text}
use Rattle.java_units.specs.Identifiers.{is_identifier}
use Rattle.java_units.specs.Grammar.{sign, both, one, other, absent, present, no_more, one_more, last, followed, IsGroup, identifier, primitive, IsTypePart, IsClassType, IsDims, IsType}
use Rattle.java_units.specs.Longest.{NamesAreIdentifiers}
use Rattle.java_units.specs.Trees as trees
use Rattle.java_units.specs.Trees.{spelled_dims, spelled_type, with_dims, TypesAreRead}
use Rattle.java_units.proofs.BracketLaws.{Closed, nothing_closes, past_right, past_left, past_other, shut, count_yes, count_no, count_none}
use Rattle.java_units.proofs.Groups.{is_other, differ}
use Rattle.java_units.proofs.TypeGrammar.{parts_len, class_names, class_len, class_least, class_just, bracket_ends, bracket_no_dot, base_class, base_primitive, primitive_begins, primitive_len, not_primitive, type_within}
use Rattle.java_units.proofs.ListGrammar.{names_behind}
use Rattle.java_units.proofs.SignKinds.{named_not, primitive_not, no_identifier-dot, no_identifier-angle, no_identifier-close, no_primitive-dot, no_primitive-angle, no_primitive-close}

-- one sign

taken : (d : ℕ) (s : Sign) (ss : List Sign) → takes d s ≡ true → parts_of d (s ∷ ss) ≡ s.text ∷ parts_of (angled d s) ss
unfolding parts_of
taken d s ss e = rw (e) refl

passed : (d : ℕ) (s : Sign) (ss : List Sign) → takes d s ≡ false → parts_of d (s ∷ ss) ≡ parts_of (angled d s) ss
unfolding parts_of
passed d s ss e = rw (e) refl

inside_by : (n : ℕ) (s : Sign) → (n == 0) ≡ false → takes n s ≡ false
unfolding takes
inside_by n s e = rw (e) refl

inside : (d : ℕ) (s : Sign) → takes (suc d) s ≡ false
inside d s = let e : (suc d == 0) ≡ false = search (rules, tests) in inside_by (suc d) s e

-- a sign that is no dot and no angle
takes_word : (s : Sign) → is (codes ".") s ≡ false → is (codes "<") s ≡ false → is (codes ">") s ≡ false → takes 0 s ≡ true
unfolding takes
takes_word s a b c = rw (a, b, c) refl

same_angled : (d : ℕ) (s : Sign) → is (codes "<") s ≡ false → is (codes ">") s ≡ false → angled d s ≡ d
unfolding angled
same_angled d s a b = rw (a, b) refl

opened_angled : (d : ℕ) (s : Sign) → is (codes "<") s ≡ true → angled d s ≡ suc d
unfolding angled
opened_angled d s a = rw (a) (omega arith)

closed_angled : (d : ℕ) (s : Sign) → is (codes "<") s ≡ false → is (codes ">") s ≡ true → angled (suc d) s ≡ d
unfolding angled
closed_angled d s a b = rw (a, b) (omega arith)

word : (s : Sign) (ss : List Sign) → is (codes ".") s ≡ false → is (codes "<") s ≡ false → is (codes ">") s ≡ false → parts_of 0 (s ∷ ss) ≡ s.text ∷ parts_of 0 ss
word s ss a b c = taken 0 s ss (takes_word s a b c) ∙ ap (λ d. s.text ∷ parts_of d ss) (same_angled 0 s b c)

dot_passed : (s : Sign) → is (codes ".") s ≡ true → takes 0 s ≡ false
unfolding takes
dot_passed s e = rw (e) refl

open_passed : (b : Bool) (s : Sign) → is (codes ".") s ≡ b → is (codes "<") s ≡ true → takes 0 s ≡ false
unfolding takes
open_passed true s e h = rw (e) refl
open_passed false s e h = rw (e, h) refl

angle_differs : codes "<" ≢ codes ">"
angle_differs = differ 60 62 (λ e. absurd (omega arith))

close_differs : codes ">" ≢ codes "<"
close_differs = differ 62 60 (λ e. absurd (omega arith))

dot : (s : Sign) (ss : List Sign) → is (codes ".") s ≡ true → parts_of 0 (s ∷ ss) ≡ parts_of 0 ss
dot s ss e =
    let a = is_other (codes "<") (codes ".") (differ 60 46 (λ e. absurd (omega arith))) s e in
    let b = is_other (codes ">") (codes ".") (differ 62 46 (λ e. absurd (omega arith))) s e in
    passed 0 s ss (dot_passed s e) ∙ ap (λ d. parts_of d ss) (same_angled 0 s a b)

-- type arguments are passed over

passed_close : (d n : ℕ) (s : Sign) (ss rest : List Sign) → is (codes ">") s ≡ true → suc n ≡ length (s ∷ ss) → Closed (codes "<") (codes ">") d (s ∷ ss) (suc n) → ((d n : ℕ) → n ≡ length ss → Closed (codes "<") (codes ">") d ss n → parts_of (suc d) (ss ++ rest) ≡ parts_of 0 rest) → parts_of (suc d) (s ∷ (ss ++ rest)) ≡ parts_of 0 rest
passed_close zero zero s [] rest e l c ih =
    passed 1 s rest (inside 0 s) ∙ ap (λ d. parts_of d rest) (closed_angled 0 s (is_other (codes "<") (codes ">") angle_differs s e) e)
passed_close zero zero s (t ∷ ss) rest e l c ih = absurd (omega (arith, l))
passed_close zero (suc n) s ss rest e l c ih =
    let one : 1 < suc (suc n) = omega arith in
    let no = is_other (codes "<") (codes ">") angle_differs s e in
    absurd (omega (arith, c.first 1 one, count_yes (is (codes ">")) s [] e, count_no (is (codes "<")) s [] no, count_none (is (codes "<"))))
passed_close (suc d) n s ss rest e l c ih =
    let no = is_other (codes "<") (codes ">") angle_differs s e in
    let m : n ≡ length ss = omega (arith, l) in
    passed (suc (suc d)) s (ss ++ rest) (inside (suc d) s)
    ∙ (ap (λ d. parts_of d (ss ++ rest)) (closed_angled (suc d) s no e) ∙ ih d n m (past_right (codes "<") (codes ">") d n s ss e no c))

passed_by : (a b : Bool) (d n : ℕ) (s : Sign) (ss rest : List Sign) → is (codes ">") s ≡ a → is (codes "<") s ≡ b → suc n ≡ length (s ∷ ss) → Closed (codes "<") (codes ">") d (s ∷ ss) (suc n) → ((d n : ℕ) → n ≡ length ss → Closed (codes "<") (codes ">") d ss n → parts_of (suc d) (ss ++ rest) ≡ parts_of 0 rest) → parts_of (suc d) (s ∷ (ss ++ rest)) ≡ parts_of 0 rest
passed_by true b d n s ss rest e h l c ih = passed_close d n s ss rest e l c ih
passed_by false true d n s ss rest e h l c ih =
    let m : n ≡ length ss = omega (arith, l) in
    passed (suc d) s (ss ++ rest) (inside d s)
    ∙ (ap (λ d. parts_of d (ss ++ rest)) (opened_angled (suc d) s h) ∙ ih (suc d) n m (past_left (codes "<") (codes ">") d n s ss e h c))
passed_by false false d n s ss rest e h l c ih =
    let m : n ≡ length ss = omega (arith, l) in
    passed (suc d) s (ss ++ rest) (inside d s)
    ∙ (ap (λ d. parts_of d (ss ++ rest)) (same_angled (suc d) s h e) ∙ ih d n m (past_other (codes "<") (codes ">") d n s ss e h c))

skipped : (ss rest : List Sign) (d n : ℕ) → n ≡ length ss → Closed (codes "<") (codes ">") d ss n → parts_of (suc d) (ss ++ rest) ≡ parts_of 0 rest
skipped ss rest d zero l c = absurd (nothing_closes (codes "<") (codes ">") d ss c)
skipped [] rest d (suc n) l c = absurd (omega (arith, l))
skipped (s ∷ ss) rest d (suc n) l c = passed_by (is (codes ">") s) (is (codes "<") s) d n s ss rest refl refl l c (λ d n l c. skipped ss rest d n l c)

begins_is : (w : List ℕ) (s : Sign) (ss : List Sign) → begins w (s ∷ ss) ≡ true → is w s ≡ true
unfolding begins
begins_is w s ss e = e

no_begin : (w : List ℕ) → begins w [] ≡ true → ⊥
unfolding begins
no_begin w e = absurd (cc)

group_passed : (g rest : List Sign) → IsGroup (codes "<") (codes ">") g → parts_of 0 (g ++ rest) ≡ parts_of 0 rest
group_passed [] rest c = absurd (no_begin (codes "<") c.opens)
group_passed (s ∷ g) rest c =
    let e = begins_is (codes "<") s g c.opens in
    let no = is_other (codes ">") (codes "<") close_differs s e in
    passed 0 s (g ++ rest) (open_passed (is (codes ".") s) s refl e)
    ∙ (ap (λ d. parts_of d (g ++ rest)) (opened_angled 0 s e) ∙ skipped g rest 0 (length g) refl (shut (codes "<") (codes ">") s g (length g) e no c))

-- the names of a class type

named : (s : Sign) (ss : List Sign) → NamesAreIdentifiers (s ∷ ss) → s.is_name ≡ true → parts_of 0 (s ∷ ss) ≡ s.text ∷ parts_of 0 ss
named s ss f e =
    let n = All-head (λ s. s.is_name ≡ true → is_identifier s.text ≡ true) s ss f in
    word s ss (named_not (codes ".") s no_identifier-dot n e) (named_not (codes "<") s no_identifier-angle n e) (named_not (codes ">") s no_identifier-close n e)

part_read : (part : List Sign) (p : IsTypePart part) (rest : List Sign) → NamesAreIdentifiers (part ++ rest) → parts_of 0 (part ++ rest) ≡ trees.part_name part p ∷ parts_of 0 rest
part_read _ (both _ _ (identifier s e) absent) rest f = named s rest f e
part_read _ (both _ _ (identifier s e) (present arguments g)) rest f =
    named s (arguments ++ rest) f e ∙ ap (λ xs. s.text ∷ xs) (group_passed arguments rest g)

empty_parts : parts_of 0 [] ≡ []
unfolding parts_of
empty_parts = refl

append_none : (ss : List Sign) → ss ++ [] ≡ ss
append_none [] = refl
append_none (s ∷ ss) = ap (λ xs. s ∷ xs) (append_none ss)

class_read : (name : List Sign) (c : IsClassType name) → NamesAreIdentifiers name → parts_of 0 name ≡ trees.class_names name c
class_read _ (last part p) f =
    let same = append_none part in
    ap (parts_of 0) (sym same) ∙ (part_read part p [] (subst NamesAreIdentifiers (sym same) f) ∙ ap (λ xs. trees.part_name part p ∷ xs) empty_parts)
class_read _ (followed part s others p d c) f =
    part_read part p (s ∷ others) f
    ∙ ap (λ xs. trees.part_name part p ∷ xs) (dot s others d ∙ class_read others c (names_behind (s ∷ []) others (names_behind part (s ∷ others) f)))

-- the dimensions

pub dims_length : (ss : List Sign) (d : IsDims ss) → length ss ≡ 2 * spelled_dims ss d
dims_length _ no_more = omega arith
dims_length _ (one_more _ others (both _ _ (sign a e) (sign b g)) d) = omega (arith, dims_length others d)

-- the whole type

same_type : (p q : List (List ℕ)) (m n : ℕ) → p ≡ q → m ≡ n → ◌≡◌ {A = TypeText} (record { parts = p; dims = m }) (record { parts = q; dims = n })
same_type p q m n e h = ap {B = TypeText} (λ x. record { parts = x; dims = m }) e ∙ ap {B = TypeText} (λ x. record { parts = q; dims = x }) h

names_prefix : (prefix tail : List Sign) → NamesAreIdentifiers (prefix ++ tail) → NamesAreIdentifiers prefix
names_prefix [] tail f = All-nil (λ s. s.is_name ≡ true → is_identifier s.text ≡ true)
names_prefix (s ∷ prefix) tail f =
    All-cons (λ s. s.is_name ≡ true → is_identifier s.text ≡ true) s prefix (All-head (λ s. s.is_name ≡ true → is_identifier s.text ≡ true) s (prefix ++ tail) f) (names_prefix prefix tail (All-tail (λ s. s.is_name ≡ true → is_identifier s.text ≡ true) s (prefix ++ tail) f))

name_stops : (name dims tail : List Sign) → IsClassType name → IsDims dims → NamesAreIdentifiers (name ++ (dims ++ tail)) → type_len (name ++ (dims ++ tail)) ≡ length name + length dims → parts_len (name ++ (dims ++ tail)) ≡ length name
name_stops name _ tail c no_more f size = omega (arith, class_least name c tail, class_len (name ++ tail) f (class_names name c tail), size)
name_stops name _ tail c (one_more _ others (both _ _ (sign a e) (sign b g)) d) f size =
    class_just name c (a ∷ b ∷ (others ++ tail)) (bracket_ends a b (others ++ tail) e) (bracket_no_dot a b (others ++ tail) e)

class_type_read : (extra : ℕ) (name dims tail : List Sign) (c : IsClassType name) (d : IsDims dims) → NamesAreIdentifiers (name ++ (dims ++ tail)) → type_len (name ++ (dims ++ tail)) ≡ length name + length dims → type_text extra (name ++ (dims ++ tail)) ≡ record { parts = trees.class_names name c; dims = spelled_dims dims d + extra }
unfolding type_text
class_type_read extra name dims tail c d f size =
    let all = name ++ (dims ++ tail) in
    let names = class_names name c (dims ++ tail) in
    let stops = name_stops name dims tail c d f size in
    let base = base_class all (not_primitive all f names) names ∙ stops in
    let parts : parts_of 0 (take (base_len all) all) ≡ trees.class_names name c = ap (λ k. parts_of 0 (take k all)) base ∙ (ap (parts_of 0) (take-append_seam name (dims ++ tail)) ∙ class_read name c (names_prefix name (dims ++ tail) f)) in
    let past : dims_len (drop (parts_len all) all) ≡ dims_len (drop (base_len all) all) = ap (λ k. dims_len (drop k all)) (stops ∙ sym base) in
    let count : dims_len (drop (base_len all) all) / 2 + extra ≡ spelled_dims dims d + extra = omega (arith, class_len all f names, stops, past, size, dims_length dims d) in
    same_type (parts_of 0 (take (base_len all) all)) (trees.class_names name c) (dims_len (drop (base_len all) all) / 2 + extra) (spelled_dims dims d + extra) parts count

primitive_read : (extra : ℕ) (s : Sign) (dims tail : List Sign) (d : IsDims dims) → has primitives s.text ≡ true → type_len (s ∷ (dims ++ tail)) ≡ suc (length dims) → type_text extra (s ∷ (dims ++ tail)) ≡ record { parts = s.text ∷ []; dims = spelled_dims dims d + extra }
unfolding type_text
primitive_read extra s dims tail d e size =
    let all = s ∷ (dims ++ tail) in
    let base = base_primitive all (primitive_begins s (dims ++ tail) e) in
    let alone = word s [] (primitive_not (codes ".") s no_primitive-dot e) (primitive_not (codes "<") s no_primitive-angle e) (primitive_not (codes ">") s no_primitive-close e) in
    let parts : parts_of 0 (take (base_len all) all) ≡ s.text ∷ [] = ap (λ k. parts_of 0 (take k all)) base ∙ (alone ∙ ap (λ xs. s.text ∷ xs) empty_parts) in
    let past : dims_len (drop (base_len all) all) ≡ dims_len (dims ++ tail) = ap (λ k. dims_len (drop k all)) base in
    let count : dims_len (drop (base_len all) all) / 2 + extra ≡ spelled_dims dims d + extra = omega (arith, primitive_len s (dims ++ tail) e, past, size, dims_length dims d) in
    same_type (parts_of 0 (take (base_len all) all)) (s.text ∷ []) (dims_len (drop (base_len all) all) / 2 + extra) (spelled_dims dims d + extra) parts count

pub type_read : (extra : ℕ) (ss : List Sign) (t : IsType ss) (tail : List Sign) → NamesAreIdentifiers (ss ++ tail) → type_len (ss ++ tail) ≡ length ss → type_text extra (ss ++ tail) ≡ with_dims extra (spelled_type ss t)
type_read extra _ (both _ dims (one _ (primitive s e)) d) tail f size = primitive_read extra s dims tail d e size
type_read extra _ (both name dims (other _ c) d) tail f size =
    let same = append_assoc name dims tail in
    ap (type_text extra) same ∙ class_type_read extra name dims tail c d (subst NamesAreIdentifiers same f) (sym (ap type_len same) ∙ (size ∙ length-append name dims))

pub no_more_dims : (t : TypeText) → with_dims 0 t ≡ t
no_more_dims t = let e : t.dims + 0 ≡ t.dims = omega arith in ap {B = TypeText} (λ d. record t { dims = d }) e

pub types_are_read : TypesAreRead
types_are_read ss f t =
    let n = type_len ss in
    let whole = take-append-drop n ss in
    let size : type_len (take n ss ++ drop n ss) ≡ length (take n ss) = ap type_len whole ∙ sym (length-take-le n ss (type_within ss)) in
    ap (type_text 0) (sym whole) ∙ (type_read 0 (take n ss) t (drop n ss) (subst NamesAreIdentifiers (sym whole) f) size ∙ no_more_dims (spelled_type (take n ss) t))

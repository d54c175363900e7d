-- Types are read as the grammar spells them, the longest one.
use Rattle.std.proofs.Common.{◌≡◌, ◌≢◌, ◌<◌, ◌≤◌, ◌∙◌, ap, sym, subst, ℕ, zero, suc, ◌+◌, ◌==◌, Bool, true, false, ◌&&◌, ◌||◌, not, if◌then◌else◌, List, [], ◌∷◌, ◌++◌, length, take, drop, refl, arith, codes, length-append, append_assoc}
use Rattle.std.proofs.lemmas.List.{take-append-drop, length-drop, length-take-le}
use Rattle.std.proofs.lemmas.List.Elements.{All-head}
use Rattle.std.proofs.Math.Seq.{take-add, drop-append_seam}
use Rattle.std.specs.Prelude.{bytes_eq}
use Rattle.std.specs.List.{list_all}
use Rattle.std.proofs.lemmas.Slice.Eq.{bytes_eq-Decides}
use Rattle.std.specs.Str.{chars}
use Rattle.java_tokens.specs.Words.{is_word}
use Rattle.java_units.specs.Signs.{Sign, is, has, reserved}
use Rattle.java_units.specs.Forms.{begins, begins_any, begins_name, primitives, span, angles, name_tail, type_tail, base_len, dim_len, dims_len, type_len}
use Rattle.java_units.specs.Identifiers.{is_identifier}
use Rattle.java_units.specs.Grammar.{sign, both, one, other, absent, present, no_more, one_more, last, followed, IsGroup, identifier, primitive, IsTypePart, IsClassType, IsDims, IsType}
use Rattle.java_units.specs.Longest.{NamesAreIdentifiers, TakesLongest, TypesAreLongest}
use Rattle.java_units.proofs.Walks.{pick, span-none, span-more}
use Rattle.java_units.proofs.Dimensions.{span_within, dims_within}
use Rattle.java_units.proofs.Groups.{is_other, differ, matched_group, group_matched, matched_none, matched_within}

angle_differs : codes "<" ≢ codes ">"
angle_differs = differ 60 62 (λ e. absurd (omega arith))

angles_just : (g rest : List Sign) → IsGroup (codes "<") (codes ">") g → angles (g ++ rest) ≡ length g
unfolding angles
angles_just g rest c = group_matched (codes "<") (codes ">") angle_differs g rest c

angles_group : (ss : List Sign) (n : ℕ) → suc n ≡ angles ss → IsGroup (codes "<") (codes ">") (take (suc n) ss)
unfolding angles
angles_group ss n e =
    let some : 0 < angles ss = omega (arith, e) in
    subst (λ k. IsGroup (codes "<") (codes ">") (take k ss)) (sym e) (matched_group (codes "<") (codes ">") angle_differs ss some)

angles_none : (ss : List Sign) → begins (codes "<") ss ≡ false → angles ss ≡ 0
unfolding angles
angles_none ss e = matched_none (codes "<") (codes ">") ss e

angles_within : (ss : List Sign) → angles ss ≤ length ss
unfolding angles
angles_within ss = matched_within (codes "<") (codes ">") angle_differs ss

-- how many signs a part takes, and a class type, where an identifier stands at the front
unfoldable pub part_len : List Sign → ℕ
part_len ss = suc (angles (drop 1 ss))

unfoldable pub parts_len : List Sign → ℕ
parts_len ss = part_len ss + span type_tail (drop (part_len ss) ss)

tail_dot : (dot : Sign) (zs : List Sign) → is (codes ".") dot ≡ true → begins_name zs ≡ true → type_tail (dot ∷ zs) ≡ suc (part_len zs)
unfolding type_tail name_tail begins part_len
tail_dot dot zs a b = rw (a, b) (omega arith)

tail_none : (ys : List Sign) → name_tail ys ≡ 0 → type_tail ys ≡ 0
unfolding type_tail
tail_none ys e = rw (e) refl

span_dot : (dot : Sign) (zs : List Sign) → is (codes ".") dot ≡ true → begins_name zs ≡ true → span type_tail (dot ∷ zs) ≡ suc (parts_len zs)
unfolding parts_len
span_dot dot zs a b =
    let some : suc (part_len zs) ≢ 0 = omega arith in
    let there : 0 < length (dot ∷ zs) = omega arith in
    omega (arith, span-more type_tail (dot ∷ zs) (suc (part_len zs)) (sym (tail_dot dot zs a b)) some there)

part_just : (part : List Sign) → IsTypePart part → (tail : List Sign) → begins (codes "<") tail ≡ false → part_len (part ++ tail) ≡ length part
unfolding part_len
part_just _ (both _ _ (identifier name e) absent) tail h = ap suc (angles_none tail h)
part_just _ (both _ _ (identifier name e) (present arguments g)) tail h = ap suc (angles_just arguments tail g)

part_least : (part : List Sign) → IsTypePart part → (tail : List Sign) → length part ≤ part_len (part ++ tail)
unfolding part_len
part_least _ (both _ _ (identifier name e) absent) tail = omega arith
part_least _ (both _ _ (identifier name e) (present arguments g)) tail = omega (arith, angles_just arguments tail g)

part_names : (part : List Sign) → IsTypePart part → (tail : List Sign) → begins_name (part ++ tail) ≡ true
unfolding begins_name
part_names _ (both _ _ (identifier name e) absent) tail = e
part_names _ (both _ _ (identifier name e) (present arguments g)) tail = e

no_angle : (dot : Sign) (zs : List Sign) → is (codes ".") dot ≡ true → begins (codes "<") (dot ∷ zs) ≡ false
unfolding begins
no_angle dot zs e = is_other (codes "<") (codes ".") (differ 60 46 (λ e. absurd (omega arith))) dot e

past_part : (part tail : List Sign) → part_len (part ++ tail) ≡ length part → parts_len (part ++ tail) ≡ length part + span type_tail tail
unfolding parts_len
past_part part tail e =
    ap (λ n. n + span type_tail (drop n (part ++ tail))) e ∙ ap (λ xs. length part + span type_tail xs) (drop-append_seam part tail)

parts_on : (part : List Sign) (dot : Sign) (zs : List Sign) → IsTypePart part → is (codes ".") dot ≡ true → begins_name zs ≡ true → parts_len (part ++ (dot ∷ zs)) ≡ length part + suc (parts_len zs)
parts_on part dot zs p d n =
    past_part part (dot ∷ zs) (part_just part p (dot ∷ zs) (no_angle dot zs d)) ∙ ap (λ k. length part + k) (span_dot dot zs d n)

pub class_names : (ss : List Sign) → IsClassType ss → (tail : List Sign) → begins_name (ss ++ tail) ≡ true
class_names _ (last part p) tail = part_names part p tail
class_names _ (followed part dot others p d c) tail = ap begins_name (append_assoc part (dot ∷ others) tail) ∙ part_names part p (dot ∷ (others ++ tail))

dotted_len : (part : List Sign) (dot : Sign) (others tail : List Sign) → IsTypePart part → is (codes ".") dot ≡ true → IsClassType others → parts_len ((part ++ (dot ∷ others)) ++ tail) ≡ length part + suc (parts_len (others ++ tail))
dotted_len part dot others tail p d c = ap parts_len (append_assoc part (dot ∷ others) tail) ∙ parts_on part dot (others ++ tail) p d (class_names others c tail)

pub class_least : (ss : List Sign) → IsClassType ss → (tail : List Sign) → length ss ≤ parts_len (ss ++ tail)
unfolding parts_len
class_least _ (last part p) tail = omega (arith, part_least part p tail)
class_least _ (followed part dot others p d c) tail =
    omega (arith, dotted_len part dot others tail p d c, class_least others c tail, length-append part (dot ∷ others))

pub class_just : (ss : List Sign) → IsClassType ss → (tail : List Sign) → begins (codes "<") tail ≡ false → name_tail tail ≡ 0 → parts_len (ss ++ tail) ≡ length ss
class_just _ (last part p) tail h k =
    omega (arith, past_part part tail (part_just part p tail h), span-none type_tail tail (tail_none tail k))
class_just _ (followed part dot others p d c) tail h k =
    omega (arith, dotted_len part dot others tail p d c, class_just others c tail h k, length-append part (dot ∷ others))

-- dimensions

dim_two : (a b : Sign) (xs : List Sign) → is (codes "[") a ≡ true → is (codes "]") b ≡ true → dim_len (a ∷ b ∷ xs) ≡ 2
unfolding dim_len begins
dim_two a b xs e f = rw (e, f) refl

dims_on : (a b : Sign) (xs : List Sign) → is (codes "[") a ≡ true → is (codes "]") b ≡ true → dims_len (a ∷ b ∷ xs) ≡ suc (suc (dims_len xs))
dims_on a b xs e f =
    let some : ◌≢◌ {A = ℕ} 2 0 = omega arith in
    let there : 0 < length (a ∷ b ∷ xs) = omega arith in
    omega (arith, span-more dim_len (a ∷ b ∷ xs) 2 (sym (dim_two a b xs e f)) some there)

pub dims_least : (ds : List Sign) → IsDims ds → (tail : List Sign) → length ds ≤ dims_len (ds ++ tail)
dims_least _ no_more tail = omega arith
dims_least _ (one_more _ others (both _ _ (sign a e) (sign b f)) d) tail = omega (arith, dims_on a b (others ++ tail) e f, dims_least others d tail)

pub dims_just : (ds : List Sign) → IsDims ds → (tail : List Sign) → dim_len tail ≡ 0 → dims_len (ds ++ tail) ≡ length ds
dims_just _ no_more tail h = span-none dim_len tail h
dims_just _ (one_more _ others (both _ _ (sign a e) (sign b f)) d) tail h = omega (arith, dims_on a b (others ++ tail) e f, dims_just others d tail h)

dim_more : (a b : Sign) (xs : List Sign) → is (codes "[") a ≡ true → is (codes "]") b ≡ true → IsDims xs → IsDims (a ∷ b ∷ xs)
dim_more a b xs e f d = one_more (a ∷ b ∷ []) xs (both (a ∷ []) (b ∷ []) (sign a e) (sign b f)) d

no_dims : (xs : List Sign) → dim_len xs ≡ 0 → IsDims (take (dims_len xs) xs)
no_dims xs e = subst (λ k. IsDims (take k xs)) (sym (span-none dim_len xs e)) no_more

none_if : (a : Bool) → ◌≡◌ {A = ℕ} (if a && false then 2 else 0) 0
none_if true = refl
none_if false = refl

none_unless : (a b : Bool) → b ≡ false → ◌≡◌ {A = ℕ} (if a && b then 2 else 0) 0
none_unless a b e = rw (e) (none_if a)

dims_by : (a b : Sign) (xs : List Sign) → IsDims (take (dims_len xs) xs) → (p q : Bool) → is (codes "[") a ≡ p → is (codes "]") b ≡ q → IsDims (take (dims_len (a ∷ b ∷ xs)) (a ∷ b ∷ xs))
unfolding dim_len begins
dims_by a b xs d true true e f = subst (λ k. IsDims (take k (a ∷ b ∷ xs))) (sym (dims_on a b xs e f)) (dim_more a b (take (dims_len xs) xs) e f d)
dims_by a b xs d true false e f = no_dims (a ∷ b ∷ xs) (none_unless (is (codes "[") a) (is (codes "]") b) f)
dims_by a b xs d false q e f = no_dims (a ∷ b ∷ xs) (rw (e) refl)

pub dims_sound : (xs : List Sign) → IsDims (take (dims_len xs) xs)
unfolding dim_len begins
dims_sound [] = no_dims [] refl
dims_sound (s ∷ []) = no_dims (s ∷ []) (none_if (is (codes "[") s))
dims_sound (a ∷ b ∷ xs) = dims_by a b xs (dims_sound xs) (is (codes "[") a) (is (codes "]") b) refl refl

-- what is read of a class type is one

names_some : (ss : List Sign) → begins_name ss ≡ true → 0 < length ss
unfolding begins_name
names_some [] e = absurd (cc)
names_some (s ∷ ss) e = omega arith

part_by : (s : Sign) (xs : List Sign) (n : ℕ) → s.is_name ≡ true → n ≡ angles xs → IsTypePart (s ∷ take n xs)
part_by s xs zero e h = both (s ∷ []) [] (identifier s e) absent
part_by s xs (suc n) e h = both (s ∷ []) (take (suc n) xs) (identifier s e) (present (take (suc n) xs) (angles_group xs n h))

part_sound : (ss : List Sign) → begins_name ss ≡ true → IsTypePart (take (part_len ss) ss)
unfolding part_len begins_name
part_sound [] e = absurd (cc)
part_sound (s ∷ xs) e = part_by s xs (angles xs) e refl

record IsDotted (ys : List Sign) : Type 0 where
  dot : Sign
  others : List Sign
  are : ys ≡ dot ∷ others
  is_dot : is (codes ".") dot ≡ true
  names : begins_name others ≡ true

halves : (a b : Bool) → (a && b) ≡ true → (a ≡ true) × (b ≡ true)
halves true b e = (refl, e)
halves false b e = absurd (cc)

is_dotted : (ys : List Sign) → (begins (codes ".") ys && begins_name (drop 1 ys)) ≡ true → IsDotted ys
unfolding begins
is_dotted [] e = absurd (cc)
is_dotted (s ∷ ys) e = let p = halves (is (codes ".") s) (begins_name ys) e in record { dot = s; others = ys; are = refl; is_dot = p.0; names = p.1 }

take_more : (n m : ℕ) (ss : List Sign) (dot : Sign) (zs : List Sign) → drop n ss ≡ dot ∷ zs → take (n + suc m) ss ≡ take n ss ++ (dot ∷ take m zs)
take_more n m ss dot zs e = take-add n (suc m) ss ∙ ap (λ xs. take n ss ++ take (suc m) xs) e

class_by : (n : ℕ) (ss : List Sign) → length ss ≤ suc n → begins_name ss ≡ true → ((zs : List Sign) → length zs ≤ n → begins_name zs ≡ true → IsClassType (take (parts_len zs) zs)) → (b : Bool) → (begins (codes ".") (drop (part_len ss) ss) && begins_name (drop 1 (drop (part_len ss) ss))) ≡ b → IsClassType (take (parts_len ss) ss)
unfolding parts_len name_tail part_len
class_by n ss l e ih true h =
    let d = is_dotted (drop (part_len ss) ss) h in
    let k : parts_len ss ≡ part_len ss + suc (parts_len d.others) = ap (λ xs. part_len ss + span type_tail xs) d.are ∙ ap (λ m. part_len ss + m) (span_dot d.dot d.others d.is_dot d.names) in
    let short : length d.others ≤ n = omega (arith, ap length d.are, length-drop (part_len ss) ss, l) in
    let c = followed (take (part_len ss) ss) d.dot (take (parts_len d.others) d.others) (part_sound ss e) d.is_dot (ih d.others short d.names) in
    subst IsClassType (sym (ap (λ m. take m ss) k ∙ take_more (part_len ss) (parts_len d.others) ss d.dot d.others d.are)) c
class_by n ss l e ih false h =
    let z : name_tail (drop (part_len ss) ss) ≡ 0 = ap {B = ℕ} (λ b. if b then 2 else 0) h in
    let k : parts_len ss ≡ part_len ss = omega (arith, span-none type_tail (drop (part_len ss) ss) (tail_none (drop (part_len ss) ss) z)) in
    subst (λ m. IsClassType (take m ss)) (sym k) (last (take (part_len ss) ss) (part_sound ss e))

class_upto : (n : ℕ) (ss : List Sign) → length ss ≤ n → begins_name ss ≡ true → IsClassType (take (parts_len ss) ss)
class_upto zero [] l e = absurd (omega (arith, names_some [] e))
class_upto zero (s ∷ ss) l e = absurd (omega arith)
class_upto (suc n) ss l e = class_by n ss l e (class_upto n) (begins (codes ".") (drop (part_len ss) ss) && begins_name (drop 1 (drop (part_len ss) ss))) refl

class_sound : (ss : List Sign) → begins_name ss ≡ true → IsClassType (take (parts_len ss) ss)
class_sound ss e = let l : length ss ≤ length ss = omega arith in class_upto (length ss) ss l e

-- a name is no primitive type

reserved_if : (b : Bool) (x : List ℕ) (xs : List (List ℕ)) (w : List ℕ) → bytes_eq x w ≡ b → has reserved x ≡ true → (has xs w ≡ true → has reserved w ≡ true) → (b || has xs w) ≡ true → has reserved w ≡ true
reserved_if true x xs w e a ih h = subst (λ v. has reserved v ≡ true) ((bytes_eq-Decides x w).0 e) a
reserved_if false x xs w e a ih h = ih h

one_reserved : (xs : List (List ℕ)) (w : List ℕ) → list_all (has reserved) xs ≡ true → has xs w ≡ true → has reserved w ≡ true
unfolding has
one_reserved [] w a h = absurd (cc)
one_reserved (x ∷ xs) w a h = let p = halves (has reserved x) (list_all (has reserved) xs) a in reserved_if (bytes_eq x w) x xs w refl p.0 (one_reserved xs w p.1) h

primitives_reserved : list_all (has reserved) primitives ≡ true
unfolding has reserved
primitives_reserved = refl

not_if : (a b : Bool) → (a && not b) ≡ true → b ≡ false
not_if a false e = refl
not_if true true e = absurd (cc)
not_if false true e = absurd (cc)

pub not_reserved : (w : List ℕ) → is_identifier w ≡ true → has reserved w ≡ false
unfolding is_identifier
not_reserved w e = not_if (is_word (chars w)) (has reserved w) e

free_if : (b : Bool) (s : Sign) → has primitives s.text ≡ b → has reserved s.text ≡ false → b ≡ false
free_if false s e f = refl
free_if true s e f = let r = one_reserved primitives s.text primitives_reserved e in absurd (cc)

pub not_primitive : (ss : List Sign) → NamesAreIdentifiers ss → begins_name ss ≡ true → begins_any primitives ss ≡ false
unfolding begins_name begins_any
not_primitive [] f e = absurd (cc)
not_primitive (s ∷ ss) f e = free_if (has primitives s.text) s refl (not_reserved s.text (All-head (λ s. s.is_name ≡ true → is_identifier s.text ≡ true) s ss f e))

-- types

pub base_primitive : (ss : List Sign) → begins_any primitives ss ≡ true → base_len ss ≡ 1
unfolding base_len
base_primitive ss e = rw (e) refl

pub base_class : (ss : List Sign) → begins_any primitives ss ≡ false → begins_name ss ≡ true → base_len ss ≡ parts_len ss
unfolding base_len parts_len part_len
base_class ss e f =
    let one : 1 + angles (drop 1 ss) ≡ suc (angles (drop 1 ss)) = omega arith in
    rw (e, f) (ap (λ n. n + span type_tail (drop n ss)) one)

pub base_none : (ss : List Sign) → begins_any primitives ss ≡ false → begins_name ss ≡ false → base_len ss ≡ 0
unfolding base_len
base_none ss e f = rw (e, f) refl

type_at : (ss : List Sign) (m : ℕ) → base_len ss ≡ suc m → type_len ss ≡ suc m + dims_len (drop (suc m) ss)
unfolding type_len
type_at ss m e = pick (base_len ss) m 0 (base_len ss + dims_len (drop (base_len ss) ss)) (sym e) ∙ ap (λ n. n + dims_len (drop n ss)) e

pub no_type : (ss : List Sign) → base_len ss ≡ 0 → type_len ss ≡ 0
unfolding type_len
no_type ss e = rw (e) refl

pub primitive_begins : (s : Sign) (ss : List Sign) → has primitives s.text ≡ true → begins_any primitives (s ∷ ss) ≡ true
unfolding begins_any
primitive_begins s ss e = e

pub primitive_len : (s : Sign) (ss : List Sign) → has primitives s.text ≡ true → type_len (s ∷ ss) ≡ suc (dims_len ss)
primitive_len s ss e = omega (arith, type_at (s ∷ ss) 0 (base_primitive (s ∷ ss) (primitive_begins s ss e)))

parts_some : (ss : List Sign) → parts_len ss ≡ suc (angles (drop 1 ss) + span type_tail (drop (part_len ss) ss))
unfolding parts_len part_len
parts_some ss = omega arith

pub class_len : (ss : List Sign) → NamesAreIdentifiers ss → begins_name ss ≡ true → type_len ss ≡ parts_len ss + dims_len (drop (parts_len ss) ss)
class_len ss f e =
    let some = parts_some ss in
    let m = angles (drop 1 ss) + span type_tail (drop (part_len ss) ss) in
    type_at ss m (base_class ss (not_primitive ss f e) e ∙ some) ∙ ap (λ n. n + dims_len (drop n ss)) (sym some)

pub bracket_ends : (a b : Sign) (xs : List Sign) → is (codes "[") a ≡ true → begins (codes "<") (a ∷ b ∷ xs) ≡ false
unfolding begins
bracket_ends a b xs e = is_other (codes "<") (codes "[") (differ 60 91 (λ e. absurd (omega arith))) a e

no_dot : (a : Sign) (xs : List Sign) → is (codes ".") a ≡ false → name_tail (a ∷ xs) ≡ 0
unfolding name_tail begins
no_dot a xs e = rw (e) refl

pub bracket_no_dot : (a b : Sign) (xs : List Sign) → is (codes "[") a ≡ true → name_tail (a ∷ b ∷ xs) ≡ 0
bracket_no_dot a b xs e = no_dot a (b ∷ xs) (is_other (codes ".") (codes "[") (differ 46 91 (λ e. absurd (omega arith))) a e)

-- a class type with its dimensions, behind which the type goes no further than `tail` lets it
array_least : (name dims tail : List Sign) → IsClassType name → IsDims dims → NamesAreIdentifiers (name ++ (dims ++ tail)) → length name + length dims ≤ type_len (name ++ (dims ++ tail))
array_least name _ tail c no_more f = omega (arith, class_len (name ++ tail) f (class_names name c tail), class_least name c tail)
array_least name _ tail c (one_more _ others (both _ _ (sign a e) (sign b g)) d) f =
    let rest = a ∷ b ∷ (others ++ tail) in
    let just = class_just name c rest (bracket_ends a b (others ++ tail) e) (bracket_no_dot a b (others ++ tail) e) in
    let past : dims_len (drop (parts_len (name ++ rest)) (name ++ rest)) ≡ dims_len rest = ap (λ n. dims_len (drop n (name ++ rest))) just ∙ ap (λ xs. dims_len xs) (drop-append_seam name rest) in
    omega (arith, class_len (name ++ rest) f (class_names name c rest), just, past, dims_least (a ∷ b ∷ others) (dim_more a b others e g d) tail)

pub type_least : (ss : List Sign) → IsType ss → (tail : List Sign) → NamesAreIdentifiers (ss ++ tail) → length ss ≤ type_len (ss ++ tail)
type_least _ (both _ dims (one _ (primitive word e)) d) tail f = omega (arith, primitive_len word (dims ++ tail) e, dims_least dims d tail)
type_least _ (both name dims (other _ c) d) tail f =
    let same = append_assoc name dims tail in
    let g = subst NamesAreIdentifiers same f in
    omega (arith, ap type_len same, array_least name dims tail c d g, length-append name dims)

-- what ends a type: no type arguments, further part or dimension stand there
pub record TypeEnds (tail : List Sign) : Type 0 where
  pub no_angle : begins (codes "<") tail ≡ false
  pub no_part : name_tail tail ≡ 0
  pub no_dim : dim_len tail ≡ 0

class_stops : (name dims tail : List Sign) → IsClassType name → IsDims dims → TypeEnds tail → parts_len (name ++ (dims ++ tail)) ≡ length name
class_stops name _ tail c no_more h = class_just name c tail h.no_angle h.no_part
class_stops name _ tail c (one_more _ others (both _ _ (sign a e) (sign b g)) d) h =
    class_just name c (a ∷ b ∷ (others ++ tail)) (bracket_ends a b (others ++ tail) e) (bracket_no_dot a b (others ++ tail) e)

array_just : (name dims tail : List Sign) → IsClassType name → IsDims dims → NamesAreIdentifiers (name ++ (dims ++ tail)) → TypeEnds tail → type_len (name ++ (dims ++ tail)) ≡ length name + length dims
array_just name dims tail c d f h =
    let just = class_stops name dims tail c d h in
    let all = name ++ (dims ++ tail) in
    let past : dims_len (drop (parts_len all) all) ≡ dims_len (dims ++ tail) = ap (λ n. dims_len (drop n all)) just ∙ ap (λ xs. dims_len xs) (drop-append_seam name (dims ++ tail)) in
    omega (arith, class_len all f (class_names name c (dims ++ tail)), just, past, dims_just dims d tail h.no_dim)

pub type_just : (ss : List Sign) → IsType ss → (tail : List Sign) → NamesAreIdentifiers (ss ++ tail) → TypeEnds tail → type_len (ss ++ tail) ≡ length ss
type_just _ (both _ dims (one _ (primitive word e)) d) tail f h = omega (arith, primitive_len word (dims ++ tail) e, dims_just dims d tail h.no_dim)
type_just _ (both name dims (other _ c) d) tail f h =
    let same = append_assoc name dims tail in
    omega (arith, ap type_len same, array_just name dims tail c d (subst NamesAreIdentifiers same f) h, length-append name dims)

primitive_sound : (ss : List Sign) → begins_any primitives ss ≡ true → IsType (take (type_len ss) ss)
unfolding begins_any
primitive_sound [] e = absurd (cc)
primitive_sound (s ∷ ss) e = subst (λ n. IsType (take n (s ∷ ss))) (sym (primitive_len s ss e)) (both (s ∷ []) (take (dims_len ss) ss) (one (s ∷ []) (primitive s e)) (dims_sound ss))

type_by : (a b : Bool) (ss : List Sign) → begins_any primitives ss ≡ a → begins_name ss ≡ b → 0 < type_len ss → IsType (take (type_len ss) ss)
type_by true b ss e h l = primitive_sound ss e
type_by false true ss e h l =
    let m = angles (drop 1 ss) + span type_tail (drop (part_len ss) ss) in
    let k = type_at ss m (base_class ss e h ∙ parts_some ss) ∙ ap (λ n. n + dims_len (drop n ss)) (sym (parts_some ss)) in
    let n = parts_len ss in
    let t = both (take n ss) (take (dims_len (drop n ss)) (drop n ss)) (other (take n ss) (class_sound ss h)) (dims_sound (drop n ss)) in
    subst IsType (sym (ap (λ j. take j ss) k ∙ take-add n (dims_len (drop n ss)) ss)) t
type_by false false ss e h l = absurd (omega (arith, no_type ss (base_none ss e h)))

pub type_sound : (ss : List Sign) → 0 < type_len ss → IsType (take (type_len ss) ss)
type_sound ss l = type_by (begins_any primitives ss) (begins_name ss) ss refl refl l

-- no form is longer than what it is read from

if_within : (n k m : ℕ) → n + k ≤ m → (if n == 0 then 0 else n + k) ≤ m
if_within zero k m l = omega arith
if_within (suc n) k m l = omega (arith, pick (suc n) n 0 (suc n + k) refl)

two_within : (a : Bool) (ss : List Sign) → (if a && begins_name ss then 2 else 0) ≤ suc (length ss)
unfolding begins_name
two_within true [] = omega arith
two_within false [] = omega arith
two_within false (s ∷ ss) = omega arith
two_within true (s ∷ ss) = elim s.is_name as (λ b. (if b then 2 else 0) ≤ suc (suc (length ss))) [ true ↦ omega arith | false ↦ omega arith ]

pub name_tail_within : (ys : List Sign) → name_tail ys ≤ length ys
unfolding name_tail begins
name_tail_within [] = omega arith
name_tail_within (s ∷ ys) = two_within (is (codes ".") s) ys

tail_within : (ys : List Sign) → type_tail ys ≤ length ys
unfolding type_tail
tail_within ys =
    if_within (name_tail ys) (angles (drop (name_tail ys) ys)) (length ys)
    (omega (arith, name_tail_within ys, angles_within (drop (name_tail ys) ys), length-drop (name_tail ys) ys))

parts_within : (ss : List Sign) → 0 < length ss → parts_len ss ≤ length ss
unfolding parts_len part_len
parts_within ss l =
    let a = angles_within (drop 1 ss) in
    let rest = drop (part_len ss) ss in
    let reach : length rest ≤ length rest = omega arith in
    let b = span_within (length rest) type_tail tail_within rest (type_tail rest) refl reach in
    omega (arith, a, b, length-drop 1 ss, length-drop (part_len ss) ss, l)

base_by : (a b : Bool) (ss : List Sign) → begins_any primitives ss ≡ a → begins_name ss ≡ b → base_len ss ≤ length ss
unfolding begins_any
base_by true b [] e h = absurd (cc)
base_by true b (s ∷ ss) e h = omega (arith, base_primitive (s ∷ ss) e)
base_by false true ss e h = omega (arith, base_class ss e h, parts_within ss (names_some ss h))
base_by false false ss e h = omega (arith, base_none ss e h)

pub type_within : (ss : List Sign) → type_len ss ≤ length ss
unfolding type_len
type_within ss =
    if_within (base_len ss) (dims_len (drop (base_len ss) ss)) (length ss)
    (omega (arith, base_by (begins_any primitives ss) (begins_name ss) ss refl refl, dims_within (drop (base_len ss) ss), length-drop (base_len ss) ss))

-- no form is empty

part_some : (part : List Sign) → IsTypePart part → 0 < length part
part_some _ (both _ _ (identifier name e) absent) = omega arith
part_some _ (both _ _ (identifier name e) (present arguments g)) = omega arith

class_some : (name : List Sign) → IsClassType name → 0 < length name
class_some _ (last part p) = part_some part p
class_some _ (followed part dot others p d c) = omega (arith, length-append part (dot ∷ others))

pub type_some : (ss : List Sign) → IsType ss → 0 < length ss
type_some _ (both _ dims (one _ (primitive word e)) d) = omega arith
type_some _ (both name dims (other _ c) d) = omega (arith, class_some name c, length-append name dims)

-- what holds of the form with something behind it holds of each prefix
pub takes_longest : (Spells : List Sign → Type 0) (len : List Sign → ℕ) → ((ss : List Sign) → len ss ≤ length ss) → ((ss : List Sign) → 0 < len ss → Spells (take (len ss) ss)) → ((ss : List Sign) → Spells ss → 0 < length ss) → ((ss : List Sign) → Spells ss → (tail : List Sign) → NamesAreIdentifiers (ss ++ tail) → length ss ≤ len (ss ++ tail)) → (ss : List Sign) → NamesAreIdentifiers ss → TakesLongest Spells len ss
takes_longest Spells len within sound some least ss free = record {
  within = within ss;
  sound = sound ss;
  longest = λ n l s.
      let whole = take-append-drop n ss in
      let k = least (take n ss) s (drop n ss) (subst NamesAreIdentifiers (sym whole) free) in
      omega (arith, k, ap len whole, length-take-le n ss l);
  none = λ e n s.
      let whole = take-append-drop n ss in
      let k = least (take n ss) s (drop n ss) (subst NamesAreIdentifiers (sym whole) free) in
      absurd (omega (arith, k, ap len whole, e, some (take n ss) s));
}

pub types_are_longest : TypesAreLongest
types_are_longest ss free = takes_longest IsType type_len type_within type_sound type_some type_least ss free

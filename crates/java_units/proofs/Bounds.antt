-- The bounds of all type variables of a text, by the signs that spell them.
use Rattle.std.proofs.Common.{◌≡◌, ◌≢◌, ◌<◌, ◌≤◌, ◌∙◌, ℕ, suc, ◌+◌, ◌-◌, ◌*◌, min, Bool, true, false, ◌&&◌, not, if◌then◌else◌, List, [], ◌∷◌, ◌++◌, length, drop, take, codes, refl, ap, arith, Option, Some}
use Rattle.std.proofs.lemmas.List.{length-drop, length-take}
use Rattle.std.specs.List.{flat_map, list_any}
use Rattle.java_units.specs.declared.access.Modifiers.{Modifiers}
use Rattle.java_units.specs.declared.class.Around.{Around}
use Rattle.java_units.specs.declared.pieces.Form.{Form}
use Rattle.java_units.specs.declared.pieces.Form.TheVariants as form
use Rattle.java_units.specs.declared.types.SourceMethod.{SourceMethod}
use Rattle.java_units.specs.declared.types.ClassKind.{ClassKind}
use Rattle.java_units.specs.declared.types.ClassKind.TheVariants.{ClassDecl, InterfaceDecl, EnumDecl, RecordDecl, AnnotationDecl}
use Rattle.java_units.specs.Signs.{Sign, is}
use Rattle.java_units.specs.Forms.{begins, starts, span, lead_len, up_to, deeper}
use Rattle.java_units.specs.Pieces.{ends, sets, head_len, head, end, end_len, held, bare, pieces, piece_len, fills, package_len, import_len, class_len, is_constructor, is_method, fields_len, form_of, kind_len, named_len}
use Rattle.java_units.specs.Pieces as pieces_of
use Rattle.java_units.specs.Values.{first_text}
use Rattle.java_units.specs.Members.{modifiers_of, is_plain, nested, method_of, constructor_of, default_constructor, methods_by, methods_in, has_constructor}
use Rattle.java_units.specs.Units.{Body, none, plain, class, IsBody, is_class, declares, kind_of, body_in, members_of, methods_of, kind_in, class_by, class_of, size, listed}
use Rattle.java_units.specs.Dimensions.{total, over_vars, bound_dims, class_dims, dims_of_bounds}
use Rattle.java_units.proofs.Walks.{starts-more}
use Rattle.java_units.proofs.Dimensions.{vars_pay}

total_append : {A : Type 0} (f : A → ℕ) (xs ys : List A) → total f (xs ++ ys) ≡ total f xs + total f ys
total_append f [] ys = omega arith
total_append f (x ∷ xs) ys = omega (arith, total_append f xs ys)

abbrev own_dims : SourceMethod → ℕ
own_dims m = over_vars bound_dims m.vars

-- how long a piece is

head_or : (b : Bool) (n m : ℕ) → n ≤ m → (if b then 0 else suc n) ≤ suc m
head_or true n m l = omega arith
head_or false n m l = omega (arith, l)

pub head_within : (ss : List Sign) (d : ℕ) (set : Bool) → head_len d set ss ≤ length ss
unfolding head_len
head_within [] d set = omega arith
head_within (s ∷ ss) d set = head_or (ends d set s) (head_len (deeper d s) (sets d set s) ss) (length ss) (head_within ss (deeper d s) (sets d set s))

end_if : (b : Bool) (h n : ℕ) → (if b then 1 + min (h + 1) n else 1) ≤ suc n
end_if true h n = omega arith
end_if false h n = omega arith

pub end_within : (ss : List Sign) → end_len ss ≤ length ss
unfolding end_len
end_within [] = omega arith
end_within (s ∷ ss) = end_if (is (codes "{") s) s.holds (length ss)

end_some_if : (b : Bool) (h n : ℕ) → 0 < (if b then 1 + min (h + 1) n else 1)
end_some_if true h n = omega arith
end_some_if false h n = omega arith

end_some : (ss : List Sign) → 0 < length ss → 0 < end_len ss
unfolding end_len
end_some [] l = absurd (omega arith)
end_some (s ∷ ss) l = end_some_if (is (codes "{") s) s.holds (length ss)

pub end_is : (ss : List Sign) → length (end ss) ≡ length ss - head_len 0 false ss
unfolding end
end_is ss = length-drop (head_len 0 false ss) ss

pub piece_is : (ss : List Sign) → piece_len ss ≡ head_len 0 false ss + end_len (end ss)
unfolding piece_len
piece_is ss = refl

pub piece_within : (ss : List Sign) → piece_len ss ≤ length ss
piece_within ss = omega (arith, piece_is ss, end_is ss, end_within (end ss), head_within ss 0 false)

pub piece_some : (ss : List Sign) → 0 < length ss → piece_len ss ≢ 0
piece_some ss l z =
    let h : head_len 0 false ss ≡ 0 = omega (arith, piece_is ss, z) in
    let k : 0 < length (end ss) = omega (arith, end_is ss, h, l) in
    absurd (omega (arith, piece_is ss, z, end_some (end ss) k))

pub next_piece : (ss : List Sign) → 0 < length ss → pieces ss ≡ ss ∷ pieces (drop (piece_len ss) ss)
next_piece ss l = starts-more piece_len ss (piece_len ss) refl (piece_some ss l) l

bare_within : (ss : List Sign) → length (bare ss) ≤ head_len 0 false ss
unfolding bare head
bare_within ss = omega (arith, length-drop (span lead_len (take (head_len 0 false ss) ss)) (take (head_len 0 false ss) ss), length-take (head_len 0 false ss) ss)

block_if : (b : Bool) (h n m : ℕ) → b ≡ true → m ≡ min h n → m + 1 ≤ (if b then 1 + min (h + 1) n else 1)
block_if true h n m e k = omega (arith, k)
block_if false h n m e k = absurd (cc)

held_within : (e : List Sign) → begins (codes "{") e ≡ true → length (held e) + 1 ≤ end_len e
unfolding held end_len begins
held_within [] b = absurd (cc)
held_within (s ∷ ss) b = omega (arith, block_if (is (codes "{") s) s.holds (length ss) (length (take s.holds ss)) b (length-take s.holds ss))

body_within : (kind : ClassKind) (b : List Sign) → length (body_in kind b) ≤ length b
unfolding body_in
body_within ClassDecl b = omega arith
body_within InterfaceDecl b = omega arith
body_within EnumDecl b = omega (arith, length-drop 1 (drop (up_to (codes ";") 0 b) b), length-drop (up_to (codes ";") 0 b) b)
body_within RecordDecl b = omega arith
body_within AnnotationDecl b = omega arith

pub members_within : (kind : ClassKind) (ss : List Sign) → begins (codes "{") (end ss) ≡ true → length (members_of kind ss) + 1 ≤ end_len (end ss)
unfolding members_of
members_within kind ss b = omega (arith, body_within kind (held (end ss)), held_within (end ss) b)

-- a class is a piece of that form under each name, and ends with a block

abbrev chosen : Bool → Bool → Bool → Bool → Bool → Bool → Form
chosen a b c d e f =
    if a then form.Package else if b then form.Import else if c then form.Class else if d then form.Constructor
    else if e then form.Method else if f then form.Field else form.Nothing

class_alone : (a b c d e f g : Bool) → declares (chosen a b c d e f) ≡ true → (chosen a b c g e f ≡ form.Class) × (c ≡ true)
class_alone true b c d e f g h = absurd (cc)
class_alone false true c d e f g h = absurd (cc)
class_alone false false true d e f g h = (refl, refl)
class_alone false false false true e f g h = absurd (cc)
class_alone false false false false true f g h = absurd (cc)
class_alone false false false false false true g h = absurd (cc)
class_alone false false false false false false g h = absurd (cc)

class_form : (name : List ℕ) (ss : List Sign) → is_class ss ≡ true → (form_of name ss ≡ form.Class) × ((fills (class_len (bare ss)) (bare ss) && begins (codes "{") (end ss)) ≡ true)
unfolding is_class pieces_of.form
class_form name ss e =
    let h = bare ss in
    let s = begins (codes ";") (end ss) in
    class_alone (fills (package_len h) h && s) (fills (import_len h) h && s) (fills (class_len h) h && begins (codes "{") (end ss))
    (is_constructor [] h) (is_method h) (fills (fields_len h) h && s) (is_constructor name h) e

and_last : (a b : Bool) → (a && b) ≡ true → b ≡ true
and_last true b e = e
and_last false b e = absurd (cc)

pub class_block : (ss : List Sign) → is_class ss ≡ true → begins (codes "{") (end ss) ≡ true
class_block ss e = and_last (fills (class_len (bare ss)) (bare ss)) (begins (codes "{") (end ss)) (class_form [] ss e).1

-- what the pieces of a class declare of variables

abbrev method_sum : List SourceMethod → ℕ
method_sum ms = total own_dims ms

class_methods : (kind : ClassKind) (name : List ℕ) (count : ℕ) (ss : List Sign) → is_class ss ≡ true → method_sum (methods_in kind name count ss) ≡ 0
unfolding methods_in
class_methods kind name count ss e = ap (λ f. method_sum (methods_by f kind count ss)) (class_form name ss e).0

method_pays : (kind : ClassKind) (count : ℕ) (ss : List Sign) → 2 * own_dims (method_of kind count ss) ≤ length (bare ss)
unfolding method_of
method_pays kind count ss = vars_pay (bare ss)

constructor_pays : (kind : ClassKind) (count : ℕ) (ss : List Sign) → 2 * own_dims (constructor_of kind count ss) ≤ length (bare ss)
unfolding constructor_of
constructor_pays kind count ss = vars_pay (bare ss)

form_pays : (f : Form) (kind : ClassKind) (count : ℕ) (ss : List Sign) → 2 * method_sum (methods_by f kind count ss) ≤ length (bare ss)
form_pays form.Package kind count ss = omega arith
form_pays form.Import kind count ss = omega arith
form_pays form.Class kind count ss = omega arith
form_pays form.Constructor kind count ss = omega (arith, constructor_pays kind count ss)
form_pays form.Method kind count ss = omega (arith, method_pays kind count ss)
form_pays form.Field kind count ss = omega arith
form_pays form.Nothing kind count ss = omega arith

piece_pays : (kind : ClassKind) (name : List ℕ) (count : ℕ) (ss : List Sign) → 2 * method_sum (methods_in kind name count ss) ≤ length (bare ss)
unfolding methods_in
piece_pays kind name count ss = form_pays (form_of name ss) kind count ss

default_sum : (b : Bool) (m : Modifiers) → method_sum (if b then default_constructor m ∷ [] else []) ≡ 0
unfolding default_constructor
default_sum true m = omega arith
default_sum false m = omega arith

methods_sum : (kind : ClassKind) (name : List ℕ) (count : ℕ) (m : Modifiers) (ps : List (List Sign)) → method_sum (methods_of kind name count m ps) ≡ method_sum (flat_map (methods_in kind name count) ps)
unfolding methods_of
methods_sum kind name count m ps =
    let b = is_plain kind && not (list_any (has_constructor name) ps) in
    omega (arith, total_append own_dims (flat_map (methods_in kind name count) ps) (if b then default_constructor m ∷ [] else []), default_sum b m)

-- what the methods of a class of this kind and name spell in these pieces
abbrev spelled : ClassKind → List ℕ → ℕ → List (List Sign) → ℕ
spelled kind name count ps = method_sum (flat_map (methods_in kind name count) ps)

by_pays : (around : Option Around) (count : ℕ) (h : List Sign) (kind : ClassKind) (name : List ℕ) (m : Modifiers) (ps : List (List Sign)) → 2 * class_dims (class_by around count h kind name m ps) ≤ length h + 2 * spelled kind name count ps
unfolding class_by
by_pays around count h kind name m ps = omega (arith, methods_sum kind name count m ps, vars_pay (drop (named_len h) h), length-drop (named_len h) h)

abbrev own_name : List Sign → List ℕ
own_name ss = first_text (drop (kind_len (bare ss)) (bare ss))

class_pays : (around : Option Around) (count : ℕ) (ss : List Sign) → 2 * class_dims (class_of around count ss) ≤ length (bare ss) + 2 * spelled (kind_of (bare ss)) (own_name ss) count (pieces (members_of (kind_of (bare ss)) ss))
unfolding class_of
class_pays around count ss =
    by_pays around count (bare ss) (kind_of (bare ss)) (own_name ss) (nested (kind_in around) (kind_of (bare ss)) (modifiers_of ss)) (pieces (members_of (kind_of (bare ss)) ss))

class_kind : (around : Option Around) (count : ℕ) (ss : List Sign) → (class_of around count ss).kind ≡ kind_of (bare ss)
unfolding class_of class_by
class_kind around count ss = refl

spelled_next : (kind : ClassKind) (name : List ℕ) (count : ℕ) (ss : List Sign) → 0 < length ss → spelled kind name count (pieces ss) ≡ method_sum (methods_in kind name count ss) + spelled kind name count (pieces (drop (piece_len ss) ss))
spelled_next kind name count ss l =
    ap (spelled kind name count) (next_piece ss l)
    ∙ total_append own_dims (methods_in kind name count ss) (flat_map (methods_in kind name count) (pieces (drop (piece_len ss) ss)))

spelled_none : (kind : ClassKind) (name : List ℕ) (count : ℕ) → spelled kind name count (pieces []) ≡ 0
unfolding starts
spelled_none kind name count = refl

pub some_signs : (ss : List Sign) → ss ≢ [] → 0 < length ss
some_signs [] z = absurd (z refl)
some_signs (s ∷ ss) z = omega arith

pub block_some : (ss : List Sign) → begins (codes "{") ss ≡ true → 0 < length ss
unfolding begins
block_some [] e = absurd (cc)
block_some (s ∷ ss) e = omega arith

pub body_pays : (b : Body) (count next : ℕ) (around : Option Around) (ss : List Sign) (kind : ClassKind) (name : List ℕ) → IsBody count around next ss b → 2 * (spelled kind name count (pieces ss) + dims_of_bounds (listed b)) ≤ length ss
unfolding IsBody listed
body_pays none count next around ss kind name is = omega (arith, ap (λ x. spelled kind name count (pieces x)) is, spelled_none kind name count)
body_pays (plain more) count next around ss kind name is =
    let l = some_signs ss is.0 in
    let r = drop (piece_len ss) ss in
    omega (arith, spelled_next kind name count ss l, piece_pays kind name count ss, bare_within ss, piece_is ss, piece_within ss, length-drop (piece_len ss) ss, body_pays more count next around r kind name is.2)
body_pays (class c inner more) count next around ss kind name is =
    let b = class_block ss is.0 in
    let l : 0 < length ss = omega (arith, block_some (end ss) b, end_is ss) in
    let r = drop (piece_len ss) ss in
    let k : c.kind ≡ kind_of (bare ss) = ap (λ x. x.kind) is.1 ∙ class_kind around count ss in
    let d : class_dims c ≡ class_dims (class_of around count ss) = ap class_dims is.1 in
    let q = ap (λ x. spelled x (own_name ss) count (pieces (members_of x ss))) k in
    let i = body_pays inner count (suc next) (Some (record { number = next; kind = c.kind })) (members_of c.kind ss) c.kind (own_name ss) is.2 in
    let m = body_pays more count (suc next + size inner) around r kind name is.3 in
    omega (
      arith,
      spelled_next kind name count ss l,
      class_methods kind name count ss is.0,
      d,
      class_pays around count ss,
      q,
      i,
      m,
      total_append class_dims (listed inner) (listed more),
      members_within c.kind ss b,
      bare_within ss,
      piece_is ss,
      piece_within ss,
      length-drop (piece_len ss) ss,
    )

-- The types that a class names have few dimensions.
use Rattle.std.proofs.Common.{◌≤◌, ◌==◌, ℕ, zero, suc, ◌+◌, ◌-◌, Bool, true, false, ◌&&◌, not, if◌then◌else◌, List, [], ◌∷◌, ◌++◌, length, drop, take, map, codes, sym, subst, arith, Option, Some, None}
use Rattle.std.proofs.lemmas.List.{length-drop, length-take}
use Rattle.std.specs.List.{flat_map, list_any}
use Rattle.std.specs.Prelude.{bytes_eq}
use Rattle.java_units.specs.declared.access.Modifiers.{Modifiers}
use Rattle.java_units.specs.declared.class.Around.{Around}
use Rattle.java_units.specs.declared.entries.Entry.{Entry}
use Rattle.java_units.specs.declared.entries.Entry.TheVariants as entry
use Rattle.java_units.specs.declared.pieces.Form.{Form}
use Rattle.java_units.specs.declared.pieces.Form.TheVariants as form
use Rattle.java_units.specs.declared.types.TypeText.{TypeText}
use Rattle.java_units.specs.declared.types.Param.{Param}
use Rattle.java_units.specs.declared.types.SourceField.{SourceField}
use Rattle.java_units.specs.declared.types.ClassKind.{ClassKind}
use Rattle.java_units.specs.declared.types.ClassKind.TheVariants.{ClassDecl, InterfaceDecl, EnumDecl, RecordDecl, AnnotationDecl}
use Rattle.java_units.specs.Signs.{Sign, is}
use Rattle.java_units.specs.Forms.{begins, begins_any, starts, span, type_len, lead_len, ahead_len, clause_len, next_len, entry_len, entries, up_to}
use Rattle.java_units.specs.Pieces.{head_len, head, end, held, bare, pieces, piece_len, kind_len, header_len, result_len, past_vars, form_of}
use Rattle.java_units.specs.Values.{first_text, type_text, typed_param, param_of, kept, params_of, field_of, fields_of, types_of}
use Rattle.java_units.specs.Members.{modifiers_of, is_plain, nested, field_flags, result_of, method_of, constructor_of, default_constructor, fields_by, fields_in, methods_by, methods_in, has_constructor}
use Rattle.java_units.specs.Units.{Body, none, plain, class, IsBody, kind_of, parent_of, supers_of, body_in, members_of, methods_of, kind_in, class_by, class_of, size, listed}
use Rattle.java_units.specs.Dimensions.{greatest, bound_dims, params_dims, method_dims, type_dims}
use Rattle.java_units.proofs.Dimensions.{Few, plain_few, field_few, param_few}

-- none of these lists is longer
abbrev pub Short : ℕ → List (List Sign) → Type 0
Short n [] = Unit {0}
Short n (x ∷ xs) = (length x ≤ n) × Short n xs

pub short_if : (b : Bool) (n : ℕ) (xs : List (List Sign)) → Short n xs → Short n (if b then [] else xs)
short_if true n xs h = tt
short_if false n xs h = h

pub starts_short : (ss : List Sign) (f : List Sign → ℕ) (k n : ℕ) → length ss ≤ n → Short n (starts f k ss)
unfolding starts
starts_short [] f zero n l = tt
starts_short [] f (suc k) n l = tt
starts_short (s ∷ ss) f (suc k) n l = let d : length ss ≤ n = omega (arith, l) in starts_short ss f k n d
starts_short (s ∷ ss) f zero n l =
    let d : length ss ≤ n = omega (arith, l) in
    short_if (f (s ∷ ss) == 0) n ((s ∷ ss) ∷ starts f (f (s ∷ ss) - 1) ss) (l, starts_short ss f (f (s ∷ ss) - 1) n d)

pub drops_short : (xs : List (List Sign)) (n : ℕ) → Short n xs → Short n (map (drop 1) xs)
drops_short [] n h = tt
drops_short (x ∷ xs) n h = let d : length (drop 1 x) ≤ n = omega (arith, length-drop 1 x, h.0) in (d, drops_short xs n h.1)

pub drop_short : (k n : ℕ) (x : List Sign) → length x ≤ n → length (drop k x) ≤ n
drop_short k n x l = omega (arith, length-drop k x, l)

pub take_short : (k n : ℕ) (x : List Sign) → length x ≤ n → length (take k x) ≤ n
take_short k n x l = omega (arith, length-take k x, l)

pub entries_short : (e : Entry) (ss : List Sign) (n : ℕ) → length ss ≤ n → Short n (entries e ss)
unfolding entries
entries_short e ss n l =
    let m = entry_len e ss in
    let r = starts (next_len e) 0 (drop m ss) in
    short_if (m == 0) n (ss ∷ map (drop 1) r) (l, drops_short r n (starts_short (drop m ss) (next_len e) 0 n (drop_short m n ss l)))

greatest_append : {A : Type 0} (g : A → ℕ) (xs ys : List A) (n : ℕ) → Few n (greatest g xs) → Few n (greatest g ys) → Few n (greatest g (xs ++ ys))
greatest_append g [] ys n a b = b
greatest_append g (x ∷ xs) ys n a b =
    let l : Few n (greatest g xs) = omega (arith, a) in
    omega (arith, a, greatest_append g xs ys n l b)

greatest_if : {A : Type 0} (g : A → ℕ) (b : Bool) (xs ys : List A) (n : ℕ) → Few n (greatest g xs) → Few n (greatest g ys) → Few n (greatest g (if b then xs else ys))
greatest_if g true xs ys n h k = h
greatest_if g false xs ys n h k = k

greatest_map : {A : Type 0} (g : A → ℕ) (f : List Sign → A) (n : ℕ) → ((x : List Sign) → length x ≤ n → Few n (g (f x))) → (xs : List (List Sign)) → Short n xs → Few n (greatest g (map f xs))
greatest_map g f n h [] s = omega arith
greatest_map g f n h (x ∷ xs) s = omega (arith, h x s.0, greatest_map g f n h xs s.1)

greatest_flat : {A : Type 0} (g : A → ℕ) (f : List Sign → List A) (n : ℕ) → ((x : List Sign) → length x ≤ n → Few n (greatest g (f x))) → (xs : List (List Sign)) → Short n xs → Few n (greatest g (flat_map f xs))
greatest_flat g f n h [] s = omega arith
greatest_flat g f n h (x ∷ xs) s = greatest_append g (f x) (flat_map f xs) n (h x s.0) (greatest_flat g f n h xs s.1)

abbrev dims_in : TypeText → ℕ
dims_in t = t.dims

types_few : (words : List (List ℕ)) (n : ℕ) (x : List Sign) → length x ≤ n → Few n (greatest dims_in (types_of words x))
unfolding types_of
types_few words n x l =
    let z : Few n 0 = omega arith in
    let m = greatest_map dims_in (type_text 0) n (plain_few n) (entries entry.Type (drop 1 x)) (entries_short entry.Type (drop 1 x) n (drop_short 1 n x l)) in
    greatest_if dims_in (begins_any words x) (map (type_text 0) (entries entry.Type (drop 1 x))) [] n m z

parent_few : (xs : List (List Sign)) (n : ℕ) → Short n xs → Few n (greatest dims_in (parent_of xs))
unfolding parent_of
parent_few [] n s = omega arith
parent_few (x ∷ xs) n s =
    let a : Few n (greatest dims_in (type_text 0 (drop 1 x) ∷ [])) = omega (arith, plain_few n (drop 1 x) (drop_short 1 n x s.0)) in
    greatest_if dims_in (begins (codes "extends") x) (type_text 0 (drop 1 x) ∷ []) (parent_of xs) n a (parent_few xs n s.1)

lists_few : (words : List (List ℕ)) (n : ℕ) (xs : List (List Sign)) → Short n xs → Few n (greatest dims_in (flat_map (types_of words) xs))
lists_few words n xs s = greatest_flat dims_in (types_of words) n (types_few words n) xs s

supers_few : (kind : ClassKind) (n : ℕ) (xs : List (List Sign)) → Short n xs → Few n (greatest dims_in (supers_of kind xs))
unfolding supers_of
supers_few ClassDecl n xs s = greatest_append dims_in (parent_of xs) (flat_map (types_of (codes "implements" ∷ [])) xs) n (parent_few xs n s) (lists_few (codes "implements" ∷ []) n xs s)
supers_few InterfaceDecl n xs s = lists_few (codes "extends" ∷ codes "implements" ∷ []) n xs s
supers_few AnnotationDecl n xs s = lists_few (codes "extends" ∷ codes "implements" ∷ []) n xs s
supers_few EnumDecl n xs s = lists_few (codes "implements" ∷ []) n xs s
supers_few RecordDecl n xs s = lists_few (codes "implements" ∷ []) n xs s

bare_short : (n : ℕ) (x : List Sign) → length x ≤ n → length (bare x) ≤ n
unfolding bare head
bare_short n x l = drop_short (span lead_len (head x)) n (head x) (take_short (head_len 0 false x) n x l)

abbrev field_dims : SourceField → ℕ
field_dims f = f.kind.dims

one_field : (flags n : ℕ) (x y : List Sign) → length x ≤ n → length y ≤ n → Few n (field_dims (field_of flags x y))
unfolding field_of
one_field flags n x y l k = field_few n x y l k

all_fields : (flags n : ℕ) (x : List Sign) → length x ≤ n → Few n (greatest field_dims (fields_of flags x))
unfolding fields_of
all_fields flags n x l =
    greatest_map field_dims (field_of flags x) n (λ y k. one_field flags n x y l k) (entries entry.Field (drop (type_len x) x)) (entries_short entry.Field (drop (type_len x) x) n (drop_short (type_len x) n x l))

fields_by_few : (f : Form) (around : ClassKind) (n : ℕ) (x : List Sign) → length x ≤ n → Few n (greatest field_dims (fields_by f around x))
fields_by_few form.Package around n x l = omega arith
fields_by_few form.Import around n x l = omega arith
fields_by_few form.Class around n x l = omega arith
fields_by_few form.Constructor around n x l = omega arith
fields_by_few form.Method around n x l = omega arith
fields_by_few form.Field around n x l = all_fields (field_flags around (modifiers_of x)) n (bare x) (bare_short n x l)
fields_by_few form.Nothing around n x l = omega arith

fields_few : (around : ClassKind) (name : List ℕ) (n : ℕ) (x : List Sign) → length x ≤ n → Few n (greatest field_dims (fields_in around name x))
unfolding fields_in
fields_few around name n x l = fields_by_few (form_of name x) around n x l

abbrev param_dims : Param → ℕ
param_dims p = p.kind.dims

one_param : (n : ℕ) (x : List Sign) → length x ≤ n → Few n (param_dims (param_of x))
unfolding param_of typed_param
one_param n x l = param_few n (drop (ahead_len x) x) (drop_short (ahead_len x) n x l)

kept_few : (n : ℕ) (p : Param) → Few n (param_dims p) → Few n (greatest param_dims (kept p))
unfolding kept
kept_few n p h =
    let z : Few n 0 = omega arith in
    let a : Few n (greatest param_dims (p ∷ [])) = omega (arith, h) in
    greatest_if param_dims (bytes_eq (codes "this") p.name) [] (p ∷ []) n z a

params_few : (n : ℕ) (x : List Sign) → length x ≤ n → Few n (params_dims (params_of x))
unfolding params_of
params_few n x l =
    greatest_flat param_dims (λ y. kept (param_of y)) n (λ y k. kept_few n (param_of y) (one_param n y k)) (entries entry.Param (drop 1 x)) (entries_short entry.Param (drop 1 x) n (drop_short 1 n x l))

result_if : (b : Bool) (n : ℕ) (t : TypeText) → Few n t.dims → Few n (bound_dims (if b then None else Some t))
result_if true n t h = omega arith
result_if false n t h = h

result_few : (n : ℕ) (x : List Sign) → length x ≤ n → Few n (bound_dims (result_of x))
unfolding result_of
result_few n x l = result_if (begins (codes "void") x) n (type_text 0 x) (plain_few n x l)

past_short : (n : ℕ) (x : List Sign) → length x ≤ n → length (past_vars x) ≤ n
unfolding past_vars
past_short n x l = drop_short _ n x l

method_few : (around : ClassKind) (count n : ℕ) (x : List Sign) → length x ≤ n → Few n (method_dims (method_of around count x))
unfolding method_of
method_few around count n x l =
    let p = past_vars (bare x) in
    let k : length p ≤ n = past_short n (bare x) (bare_short n x l) in
    let q = drop (result_len p) p in
    omega (arith, result_few n p k, params_few n (drop 1 q) (drop_short 1 n q (drop_short (result_len p) n p k)))

constructor_few : (around : ClassKind) (count n : ℕ) (x : List Sign) → length x ≤ n → Few n (method_dims (constructor_of around count x))
unfolding constructor_of
constructor_few around count n x l =
    let p = past_vars (bare x) in
    let k : length p ≤ n = past_short n (bare x) (bare_short n x l) in
    omega (arith, params_few n (drop 1 p) (drop_short 1 n p k))

methods_by_few : (f : Form) (around : ClassKind) (count n : ℕ) (x : List Sign) → length x ≤ n → Few n (greatest method_dims (methods_by f around count x))
methods_by_few form.Package around count n x l = omega arith
methods_by_few form.Import around count n x l = omega arith
methods_by_few form.Class around count n x l = omega arith
methods_by_few form.Constructor around count n x l = omega (arith, constructor_few around count n x l)
methods_by_few form.Method around count n x l = omega (arith, method_few around count n x l)
methods_by_few form.Field around count n x l = omega arith
methods_by_few form.Nothing around count n x l = omega arith

methods_few : (around : ClassKind) (name : List ℕ) (count n : ℕ) (x : List Sign) → length x ≤ n → Few n (greatest method_dims (methods_in around name count x))
unfolding methods_in
methods_few around name count n x l = methods_by_few (form_of name x) around count n x l

default_few : (n : ℕ) (m : Modifiers) → Few n (greatest method_dims (default_constructor m ∷ []))
unfolding default_constructor
default_few n m = omega arith

all_methods : (kind : ClassKind) (name : List ℕ) (count n : ℕ) (m : Modifiers) (ps : List (List Sign)) → Short n ps → Few n (greatest method_dims (methods_of kind name count m ps))
unfolding methods_of
all_methods kind name count n m ps s =
    let z : Few n 0 = omega arith in
    let d = greatest_if method_dims (is_plain kind && not (list_any (has_constructor name) ps)) (default_constructor m ∷ []) [] n (default_few n m) z in
    greatest_append method_dims (flat_map (methods_in kind name count) ps) (if is_plain kind && not (list_any (has_constructor name) ps) then default_constructor m ∷ [] else []) n
    (greatest_flat method_dims (methods_in kind name count) n (methods_few kind name count n) ps s) d

end_short : (n : ℕ) (x : List Sign) → length x ≤ n → length (end x) ≤ n
unfolding end
end_short n x l = drop_short (head_len 0 false x) n x l

held_short : (n : ℕ) (x : List Sign) → length x ≤ n → length (held x) ≤ n
unfolding held
held_short n [] l = omega arith
held_short n (s ∷ ss) l = let d : length ss ≤ n = omega (arith, l) in take_short s.holds n ss d

body_short : (kind : ClassKind) (n : ℕ) (x : List Sign) → length x ≤ n → length (body_in kind x) ≤ n
unfolding body_in
body_short ClassDecl n x l = l
body_short InterfaceDecl n x l = l
body_short EnumDecl n x l = drop_short 1 n (drop (up_to (codes ";") 0 x) x) (drop_short (up_to (codes ";") 0 x) n x l)
body_short RecordDecl n x l = l
body_short AnnotationDecl n x l = l

members_short : (kind : ClassKind) (n : ℕ) (x : List Sign) → length x ≤ n → length (members_of kind x) ≤ n
unfolding members_of
members_short kind n x l = body_short kind n (held (end x)) (held_short n (end x) (end_short n x l))

class_by_few : (around : Option Around) (count n : ℕ) (h : List Sign) (kind : ClassKind) (name : List ℕ) (m : Modifiers) (ps : List (List Sign)) → length h ≤ n → Short n ps → Few n (type_dims (class_by around count h kind name m ps))
unfolding class_by
class_by_few around count n h kind name m ps l s =
    let x = drop (header_len h) h in
    let k : length x ≤ n = drop_short (header_len h) n h l in
    let a = supers_few kind n (starts clause_len 0 x) (starts_short x clause_len 0 n k) in
    let b = greatest_flat field_dims (fields_in kind name) n (fields_few kind name n) ps s in
    omega (arith, a, b, all_methods kind name count n m ps s)

class_few : (around : Option Around) (count n : ℕ) (x : List Sign) → length x ≤ n → Few n (type_dims (class_of around count x))
unfolding class_of
class_few around count n x l =
    let b = members_of (kind_of (bare x)) x in
    class_by_few around count n (bare x) (kind_of (bare x)) (first_text (drop (kind_len (bare x)) (bare x)))
    (nested (kind_in around) (kind_of (bare x)) (modifiers_of x)) (pieces b) (bare_short n x l) (starts_short b piece_len 0 n (members_short (kind_of (bare x)) n x l))

pub body_few : (b : Body) (count next n : ℕ) (around : Option Around) (ss : List Sign) → length ss ≤ n → IsBody count around next ss b → Few n (greatest type_dims (listed b))
unfolding IsBody listed
body_few none count next n around ss l is = omega arith
body_few (plain more) count next n around ss l is = body_few more count next n around (drop (piece_len ss) ss) (drop_short (piece_len ss) n ss l) is.2
body_few (class c inner more) count next n around ss l is =
    let a : Few n (type_dims c) = subst (λ x. Few n (type_dims x)) (sym is.1) (class_few around count n ss l) in
    let i = body_few inner count (suc next) n (Some (record { number = next; kind = c.kind })) (members_of c.kind ss) (members_short c.kind n ss l) is.2 in
    let m = body_few more count (suc next + size inner) n around (drop (piece_len ss) ss) (drop_short (piece_len ss) n ss l) is.3 in
    omega (arith, a, greatest_append type_dims (listed inner) (listed more) n i m)

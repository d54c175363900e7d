-- Numbers of tokens don't decide what pieces a body has, nor what they give but for the ranges of bodies.
use Rattle.std.proofs.Common.{◌≡◌, ◌∙◌, ap, sym, ℕ, Bool, true, false, ◌&&◌, ◌||◌, not, if◌then◌else◌, List, [], ◌∷◌, ◌++◌, drop, map, codes, refl, Option, Some, None}
use Rattle.std.proofs.lemmas.List.{map-append}
use Rattle.std.specs.List.{flat_map, list_any}
use Rattle.java_units.specs.declared.access.Modifiers.{Modifiers}
use Rattle.java_units.specs.declared.class.Around.{Around}
use Rattle.java_units.specs.declared.pieces.Form.{Form}
use Rattle.java_units.specs.declared.pieces.Form.TheVariants as form
use Rattle.java_units.specs.declared.types.ClassKind.{ClassKind}
use Rattle.java_units.specs.declared.types.ClassKind.TheVariants.{ClassDecl, InterfaceDecl, EnumDecl, RecordDecl, AnnotationDecl}
use Rattle.java_units.specs.Signs.{Sign, is}
use Rattle.java_units.specs.Forms.{begins, starts, lead_len, stops, deeper, clause_len}
use Rattle.java_units.specs.Pieces.{ends, sets, head_len, head, end, end_len, piece_len, pieces, held, bare, fills, package_len, star_len, target_len, import_len, kind_words, kind_len, named_len, vars_end, header_len, class_len, result_len, past_vars, is_call, is_constructor, is_method, fields_len, form_of}
use Rattle.java_units.specs.Pieces as pieces_of
use Rattle.java_units.specs.Values.{first_text, angled, takes, parts_of, type_text, bound_of, var_of, vars_of, typed_param, param_of, kept, params_of, field_of, fields_of, types_of}
use Rattle.java_units.specs.Members.{modifiers_at, modifiers_of, is_plain, nested, body_of, result_of, method_of, constructor_of, default_constructor, fields_by, fields_in, methods_by, methods_in, constructs, has_constructor}
use Rattle.java_units.specs.Units.{kind_of, parent_of, supers_of, names_parent, body_in, members_of, kind_in, methods_of, class_by, class_of, is_class, declares, package_of, import_of, import_in}
use Rattle.java_units.specs.SameSigns.{unnumbered, unranged_body, unranged, unranged_class}
use Rattle.java_units.proofs.PlainForms.{plain_forms, bare_of, bares_of, take-u, length-u, begins-u, starts-u, lead_len-u, clause_len-u}

head_len-u : (d : ℕ) (set : Bool) (ss : List Sign) → head_len d set (bare_of ss) ≡ head_len d set ss
unfolding head_len ends sets stops deeper is unnumbered
head_len-u d set [] = refl
head_len-u d set (s ∷ ss) = rw (head_len-u (deeper d s) (sets d set s) ss) refl

ruleset forms_1 = (plain_forms, head_len-u)

pub head-u : (ss : List Sign) → head (bare_of ss) ≡ bare_of (head ss)
unfolding head
head-u ss = simp forms_1

pub end-u : (ss : List Sign) → end (bare_of ss) ≡ bare_of (end ss)
unfolding end
end-u ss = simp forms_1

end_len-u : (ss : List Sign) → end_len (bare_of ss) ≡ end_len ss
unfolding end_len is unnumbered
end_len-u [] = refl
end_len-u (s ∷ ss) = rw (length-u ss) refl

held-u : (ss : List Sign) → held (bare_of ss) ≡ bare_of (held ss)
unfolding held unnumbered
held-u [] = refl
held-u (s ∷ ss) = take-u s.holds ss

ruleset forms_2 = (plain_forms, head_len-u, head-u, end-u, end_len-u, held-u)

pub piece_len-u : (ss : List Sign) → piece_len (bare_of ss) ≡ piece_len ss
unfolding piece_len
piece_len-u ss = simp forms_2

pub bare-u : (ss : List Sign) → bare (bare_of ss) ≡ bare_of (bare ss)
unfolding bare
bare-u ss = simp forms_2

ruleset forms_3 = (plain_forms, head_len-u, head-u, end-u, end_len-u, held-u, piece_len-u, bare-u)

pub pieces-u : (ss : List Sign) → pieces (bare_of ss) ≡ bares_of (pieces ss)
pieces-u ss = starts-u piece_len piece_len-u 0 ss

fills-u : (n : ℕ) (ss : List Sign) → fills n (bare_of ss) ≡ fills n ss
unfolding fills
fills-u n ss = simp length-u

pub package_len-u : (ss : List Sign) → package_len (bare_of ss) ≡ package_len ss
unfolding package_len
package_len-u ss = simp forms_3

pub star_len-u : (ss : List Sign) → star_len (bare_of ss) ≡ star_len ss
unfolding star_len
star_len-u ss = simp forms_3

ruleset forms_4 = (plain_forms, head_len-u, head-u, end-u, end_len-u, held-u, piece_len-u, bare-u, fills-u, package_len-u, star_len-u)

pub target_len-u : (ss : List Sign) → target_len (bare_of ss) ≡ target_len ss
unfolding target_len
target_len-u ss = simp forms_4

ruleset forms_5 = (plain_forms, head_len-u, head-u, end-u, end_len-u, held-u, piece_len-u, bare-u, fills-u, package_len-u, star_len-u, target_len-u)

pub import_len-u : (ss : List Sign) → import_len (bare_of ss) ≡ import_len ss
unfolding import_len
import_len-u ss = simp forms_5

pub kind_len-u : (ss : List Sign) → kind_len (bare_of ss) ≡ kind_len ss
unfolding kind_len
kind_len-u ss = simp forms_5

ruleset forms_6 = (plain_forms, head_len-u, head-u, end-u, end_len-u, held-u, piece_len-u, bare-u, fills-u, package_len-u, star_len-u, target_len-u, import_len-u, kind_len-u)

pub named_len-u : (ss : List Sign) → named_len (bare_of ss) ≡ named_len ss
unfolding named_len
named_len-u ss = simp forms_6

ruleset forms_7 = (plain_forms, head_len-u, head-u, end-u, end_len-u, held-u, piece_len-u, bare-u, fills-u, package_len-u, star_len-u, target_len-u, import_len-u, kind_len-u, named_len-u)

pub vars_end-u : (ss : List Sign) → vars_end (bare_of ss) ≡ vars_end ss
unfolding vars_end
vars_end-u ss = simp forms_7

ruleset forms_8 = (plain_forms, head_len-u, head-u, end-u, end_len-u, held-u, piece_len-u, bare-u, fills-u, package_len-u, star_len-u, target_len-u, import_len-u, kind_len-u, named_len-u, vars_end-u)

pub header_len-u : (ss : List Sign) → header_len (bare_of ss) ≡ header_len ss
unfolding header_len
header_len-u ss = simp forms_8

ruleset forms_9 = (plain_forms, head_len-u, head-u, end-u, end_len-u, held-u, piece_len-u, bare-u, fills-u, package_len-u, star_len-u, target_len-u, import_len-u, kind_len-u, named_len-u, vars_end-u, header_len-u)

pub class_len-u : (ss : List Sign) → class_len (bare_of ss) ≡ class_len ss
unfolding class_len
class_len-u ss = simp forms_9

pub result_len-u : (ss : List Sign) → result_len (bare_of ss) ≡ result_len ss
unfolding result_len
result_len-u ss = simp forms_9

pub past_vars-u : (ss : List Sign) → past_vars (bare_of ss) ≡ bare_of (past_vars ss)
unfolding past_vars
past_vars-u ss = simp forms_9

pub is_call-u : (ss : List Sign) → is_call (bare_of ss) ≡ is_call ss
unfolding is_call
is_call-u ss = simp forms_9

ruleset forms_10 = (plain_forms, head_len-u, head-u, end-u, end_len-u, held-u, piece_len-u, bare-u, fills-u, package_len-u, star_len-u, target_len-u, import_len-u, kind_len-u, named_len-u, vars_end-u, header_len-u, class_len-u, result_len-u, past_vars-u, is_call-u)

pub is_constructor-u : (name : List ℕ) (ss : List Sign) → is_constructor name (bare_of ss) ≡ is_constructor name ss
unfolding is_constructor
is_constructor-u name ss = simp forms_10

pub is_method-u : (ss : List Sign) → is_method (bare_of ss) ≡ is_method ss
unfolding is_method
is_method-u ss = simp forms_10

pub fields_len-u : (ss : List Sign) → fields_len (bare_of ss) ≡ fields_len ss
unfolding fields_len
fields_len-u ss = simp forms_10

ruleset forms_11 = (plain_forms, head_len-u, head-u, end-u, end_len-u, held-u, piece_len-u, bare-u, fills-u, package_len-u, star_len-u, target_len-u, import_len-u, kind_len-u, named_len-u, vars_end-u, header_len-u, class_len-u, result_len-u, past_vars-u, is_call-u, is_constructor-u, is_method-u, fields_len-u)

form-u : (name : List ℕ) (h e : List Sign) → pieces_of.form name (bare_of h) (bare_of e) ≡ pieces_of.form name h e
unfolding pieces_of.form
form-u name h e = simp forms_11

pub form_of-u : (name : List ℕ) (ss : List Sign) → form_of name (bare_of ss) ≡ form_of name ss
form_of-u name ss = ap (λ x. pieces_of.form name x (end (bare_of ss))) (bare-u ss) ∙ (ap (pieces_of.form name (bare_of (bare ss))) (end-u ss) ∙ form-u name (bare ss) (end ss))

first_text-u : (ss : List Sign) → first_text (bare_of ss) ≡ first_text ss
unfolding first_text unnumbered
first_text-u [] = refl
first_text-u (s ∷ ss) = refl

parts_of-u : (d : ℕ) (ss : List Sign) → parts_of d (bare_of ss) ≡ parts_of d ss
unfolding parts_of takes angled is unnumbered
parts_of-u d [] = refl
parts_of-u d (s ∷ ss) = rw (parts_of-u (angled d s) ss) refl

-- lists of places
map-u : {A : Type 0} → (f : List Sign → A) → ((x : List Sign) → f (bare_of x) ≡ f x) → (xs : List (List Sign)) → map f (bares_of xs) ≡ map f xs
map-u f h [] = refl
map-u f h (x ∷ xs) = ap (λ y. y ∷ map f (bares_of xs)) (h x) ∙ ap (λ r. f x ∷ r) (map-u f h xs)

flat-u : {A : Type 0} → (f : List Sign → List A) → ((x : List Sign) → f (bare_of x) ≡ f x) → (xs : List (List Sign)) → flat_map f (bares_of xs) ≡ flat_map f xs
flat-u f h [] = refl
flat-u f h (x ∷ xs) = ap (λ y. y ++ flat_map f (bares_of xs)) (h x) ∙ ap (λ r. f x ++ r) (flat-u f h xs)

any-u : (f : List Sign → Bool) → ((x : List Sign) → f (bare_of x) ≡ f x) → (xs : List (List Sign)) → list_any f (bares_of xs) ≡ list_any f xs
any-u f h [] = refl
any-u f h (x ∷ xs) = ap (λ y. y || list_any f (bares_of xs)) (h x) ∙ ap (λ r. f x || r) (any-u f h xs)

ruleset forms_12 = (plain_forms, head_len-u, head-u, end-u, end_len-u, held-u, piece_len-u, bare-u, fills-u, package_len-u, star_len-u, target_len-u, import_len-u, kind_len-u, named_len-u, vars_end-u, header_len-u, class_len-u, result_len-u, past_vars-u, is_call-u, is_constructor-u, is_method-u, fields_len-u, first_text-u, parts_of-u)

pub type_text-u : (extra : ℕ) (ss : List Sign) → type_text extra (bare_of ss) ≡ type_text extra ss
unfolding type_text
type_text-u extra ss = simp forms_12

ruleset forms_13 = (plain_forms, head_len-u, head-u, end-u, end_len-u, held-u, piece_len-u, bare-u, fills-u, package_len-u, star_len-u, target_len-u, import_len-u, kind_len-u, named_len-u, vars_end-u, header_len-u, class_len-u, result_len-u, past_vars-u, is_call-u, is_constructor-u, is_method-u, fields_len-u, first_text-u, parts_of-u, type_text-u)

pub bound_of-u : (ss : List Sign) → bound_of (bare_of ss) ≡ bound_of ss
unfolding bound_of
bound_of-u ss = simp forms_13

ruleset forms_14 = (plain_forms, head_len-u, head-u, end-u, end_len-u, held-u, piece_len-u, bare-u, fills-u, package_len-u, star_len-u, target_len-u, import_len-u, kind_len-u, named_len-u, vars_end-u, header_len-u, class_len-u, result_len-u, past_vars-u, is_call-u, is_constructor-u, is_method-u, fields_len-u, first_text-u, parts_of-u, type_text-u, bound_of-u)

pub var_of-u : (ss : List Sign) → var_of (bare_of ss) ≡ var_of ss
unfolding var_of
var_of-u ss = simp forms_14

all_vars-u : (xs : List (List Sign)) → map var_of (bares_of xs) ≡ map var_of xs
all_vars-u xs = map-u var_of var_of-u xs

all_types-u : (xs : List (List Sign)) → map (type_text 0) (bares_of xs) ≡ map (type_text 0) xs
all_types-u xs = map-u (type_text 0) (type_text-u 0) xs

ruleset forms_15 = (plain_forms, head_len-u, head-u, end-u, end_len-u, held-u, piece_len-u, bare-u, fills-u, package_len-u, star_len-u, target_len-u, import_len-u, kind_len-u, named_len-u, vars_end-u, header_len-u, class_len-u, result_len-u, past_vars-u, is_call-u, is_constructor-u, is_method-u, fields_len-u, first_text-u, parts_of-u, type_text-u, bound_of-u, var_of-u, all_vars-u, all_types-u)

pub vars_of-u : (ss : List Sign) → vars_of (bare_of ss) ≡ vars_of ss
unfolding vars_of
vars_of-u ss = simp forms_15

pub typed_param-u : (ss : List Sign) → typed_param (bare_of ss) ≡ typed_param ss
unfolding typed_param
typed_param-u ss = simp forms_15

pub types_of-u : (words : List (List ℕ)) (ss : List Sign) → types_of words (bare_of ss) ≡ types_of words ss
unfolding types_of
types_of-u words ss = simp forms_15

ruleset forms_16 = (plain_forms, head_len-u, head-u, end-u, end_len-u, held-u, piece_len-u, bare-u, fills-u, package_len-u, star_len-u, target_len-u, import_len-u, kind_len-u, named_len-u, vars_end-u, header_len-u, class_len-u, result_len-u, past_vars-u, is_call-u, is_constructor-u, is_method-u, fields_len-u, first_text-u, parts_of-u, type_text-u, bound_of-u, var_of-u, all_vars-u, all_types-u, vars_of-u, typed_param-u, types_of-u)

pub param_of-u : (ss : List Sign) → param_of (bare_of ss) ≡ param_of ss
unfolding param_of
param_of-u ss = simp forms_16

ruleset forms_17 = (plain_forms, head_len-u, head-u, end-u, end_len-u, held-u, piece_len-u, bare-u, fills-u, package_len-u, star_len-u, target_len-u, import_len-u, kind_len-u, named_len-u, vars_end-u, header_len-u, class_len-u, result_len-u, past_vars-u, is_call-u, is_constructor-u, is_method-u, fields_len-u, first_text-u, parts_of-u, type_text-u, bound_of-u, var_of-u, all_vars-u, all_types-u, vars_of-u, typed_param-u, types_of-u, param_of-u)

all_params-u : (xs : List (List Sign)) → flat_map (λ x. kept (param_of x)) (bares_of xs) ≡ flat_map (λ x. kept (param_of x)) xs
all_params-u xs = flat-u (λ x. kept (param_of x)) (λ x. ap kept (param_of-u x)) xs

field_of-u : (flags : ℕ) (ss x : List Sign) → field_of flags (bare_of ss) (bare_of x) ≡ field_of flags ss x
unfolding field_of
field_of-u flags ss x = simp forms_17

all_fields-u : (flags : ℕ) (ss : List Sign) (xs : List (List Sign)) → map (field_of flags (bare_of ss)) (bares_of xs) ≡ map (field_of flags ss) xs
all_fields-u flags ss [] = refl
all_fields-u flags ss (x ∷ xs) = ap (λ y. y ∷ map (field_of flags (bare_of ss)) (bares_of xs)) (field_of-u flags ss x) ∙ ap (λ r. field_of flags ss x ∷ r) (all_fields-u flags ss xs)

ruleset forms_18 = (plain_forms, head_len-u, head-u, end-u, end_len-u, held-u, piece_len-u, bare-u, fills-u, package_len-u, star_len-u, target_len-u, import_len-u, kind_len-u, named_len-u, vars_end-u, header_len-u, class_len-u, result_len-u, past_vars-u, is_call-u, is_constructor-u, is_method-u, fields_len-u, first_text-u, parts_of-u, type_text-u, bound_of-u, var_of-u, all_vars-u, all_types-u, vars_of-u, typed_param-u, types_of-u, param_of-u, all_params-u, all_fields-u)

pub params_of-u : (ss : List Sign) → params_of (bare_of ss) ≡ params_of ss
unfolding params_of
params_of-u ss = simp forms_18

pub fields_of-u : (flags : ℕ) (ss : List Sign) → fields_of flags (bare_of ss) ≡ fields_of flags ss
unfolding fields_of
fields_of-u flags ss = simp forms_18

ruleset forms_19 = (plain_forms, head_len-u, head-u, end-u, end_len-u, held-u, piece_len-u, bare-u, fills-u, package_len-u, star_len-u, target_len-u, import_len-u, kind_len-u, named_len-u, vars_end-u, header_len-u, class_len-u, result_len-u, past_vars-u, is_call-u, is_constructor-u, is_method-u, fields_len-u, first_text-u, parts_of-u, type_text-u, bound_of-u, var_of-u, all_vars-u, all_types-u, vars_of-u, typed_param-u, types_of-u, param_of-u, all_params-u, all_fields-u, params_of-u, fields_of-u)

any_begins-u : (w : List ℕ) (xs : List (List Sign)) → list_any (begins w) (bares_of xs) ≡ list_any (begins w) xs
any_begins-u w xs = any-u (begins w) (begins-u w) xs

modifiers_at-u : (xs : List (List Sign)) → modifiers_at (bares_of xs) ≡ modifiers_at xs
unfolding modifiers_at
modifiers_at-u xs = simp any_begins-u

modifiers_of-u : (ss : List Sign) → modifiers_of (bare_of ss) ≡ modifiers_of ss
unfolding modifiers_of
modifiers_of-u ss = ap (λ x. modifiers_at (starts lead_len 0 x)) (head-u ss) ∙ (ap modifiers_at (starts-u lead_len lead_len-u 0 (head ss)) ∙ modifiers_at-u (starts lead_len 0 (head ss)))

pub result_of-u : (ss : List Sign) → result_of (bare_of ss) ≡ result_of ss
unfolding result_of
result_of-u ss = simp forms_19

ruleset forms_20 = (plain_forms, head_len-u, head-u, end-u, end_len-u, held-u, piece_len-u, bare-u, fills-u, package_len-u, star_len-u, target_len-u, import_len-u, kind_len-u, named_len-u, vars_end-u, header_len-u, class_len-u, result_len-u, past_vars-u, is_call-u, is_constructor-u, is_method-u, fields_len-u, first_text-u, parts_of-u, type_text-u, bound_of-u, var_of-u, all_vars-u, all_types-u, vars_of-u, typed_param-u, types_of-u, param_of-u, all_params-u, all_fields-u, params_of-u, fields_of-u, any_begins-u, modifiers_of-u, form_of-u, result_of-u)

ranges : (b : Bool) (p q : ℕ × ℕ) → unranged_body (if b then Some p else None) ≡ unranged_body (if b then Some q else None)
unfolding unranged_body
ranges true p q = refl
ranges false p q = refl

body-u : (n k : ℕ) (e : List Sign) → unranged_body (body_of n (bare_of e)) ≡ unranged_body (body_of k e)
unfolding body_of
body-u n k e = rw (begins-u (codes "{") e) (ranges (begins (codes "{") e) _ _)

method-u : (kind : ClassKind) (n k : ℕ) (ss : List Sign) → unranged (method_of kind n (bare_of ss)) ≡ unranged (method_of kind k ss)
unfolding method_of unranged
method-u kind n k ss = simp (forms_20, body-u n k)

constructor-u : (kind : ClassKind) (n k : ℕ) (ss : List Sign) → unranged (constructor_of kind n (bare_of ss)) ≡ unranged (constructor_of kind k ss)
unfolding constructor_of unranged
constructor-u kind n k ss = simp (forms_20, body-u n k)

by_form-u : (f : Form) (kind : ClassKind) (n k : ℕ) (ss : List Sign) → map unranged (methods_by f kind n (bare_of ss)) ≡ map unranged (methods_by f kind k ss)
by_form-u form.Package kind n k ss = refl
by_form-u form.Import kind n k ss = refl
by_form-u form.Class kind n k ss = refl
by_form-u form.Constructor kind n k ss = ap (λ m. m ∷ []) (constructor-u kind n k ss)
by_form-u form.Method kind n k ss = ap (λ m. m ∷ []) (method-u kind n k ss)
by_form-u form.Field kind n k ss = refl
by_form-u form.Nothing kind n k ss = refl

methods_in-u : (kind : ClassKind) (name : List ℕ) (n k : ℕ) (ss : List Sign) → map unranged (methods_in kind name n (bare_of ss)) ≡ map unranged (methods_in kind name k ss)
unfolding methods_in
methods_in-u kind name n k ss = ap (λ f. map unranged (methods_by f kind n (bare_of ss))) (form_of-u name ss) ∙ by_form-u (form_of name ss) kind n k ss

all_methods-u : (kind : ClassKind) (name : List ℕ) (n k : ℕ) (xs : List (List Sign)) → map unranged (flat_map (methods_in kind name n) (bares_of xs)) ≡ map unranged (flat_map (methods_in kind name k) xs)
all_methods-u kind name n k [] = refl
all_methods-u kind name n k (x ∷ xs) =
    map-append unranged (methods_in kind name n (bare_of x)) (flat_map (methods_in kind name n) (bares_of xs))
    ∙ (ap (λ y. y ++ map unranged (flat_map (methods_in kind name n) (bares_of xs))) (methods_in-u kind name n k x)
    ∙ (ap (λ y. map unranged (methods_in kind name k x) ++ y) (all_methods-u kind name n k xs)
    ∙ sym (map-append unranged (methods_in kind name k x) (flat_map (methods_in kind name k) xs))))

has_constructor-u : (name : List ℕ) (ss : List Sign) → has_constructor name (bare_of ss) ≡ has_constructor name ss
unfolding has_constructor
has_constructor-u name ss = ap constructs (form_of-u name ss)

methods-u : (kind : ClassKind) (name : List ℕ) (n k : ℕ) (m : Modifiers) (xs : List (List Sign)) → map unranged (methods_of kind name n m (bares_of xs)) ≡ map unranged (methods_of kind name k m xs)
unfolding methods_of
methods-u kind name n k m xs =
    let a = flat_map (methods_in kind name n) (bares_of xs) in
    let b = flat_map (methods_in kind name k) xs in
    let d = λ (c : Bool). if is_plain kind && not c then default_constructor m ∷ [] else [] in
    let e = any-u (has_constructor name) (has_constructor-u name) xs in
    map-append unranged a (d (list_any (has_constructor name) (bares_of xs)))
    ∙ (ap (λ c. map unranged a ++ map unranged (d c)) e
    ∙ (ap (λ y. y ++ map unranged (d (list_any (has_constructor name) xs))) (all_methods-u kind name n k xs)
    ∙ sym (map-append unranged b (d (list_any (has_constructor name) xs)))))

fields_by-u : (f : Form) (kind : ClassKind) (ss : List Sign) → fields_by f kind (bare_of ss) ≡ fields_by f kind ss
fields_by-u form.Package kind ss = refl
fields_by-u form.Import kind ss = refl
fields_by-u form.Class kind ss = refl
fields_by-u form.Constructor kind ss = refl
fields_by-u form.Method kind ss = refl
fields_by-u form.Field kind ss = simp forms_20
fields_by-u form.Nothing kind ss = refl

fields_in-u : (kind : ClassKind) (name : List ℕ) (ss : List Sign) → fields_in kind name (bare_of ss) ≡ fields_in kind name ss
unfolding fields_in
fields_in-u kind name ss = ap (λ f. fields_by f kind (bare_of ss)) (form_of-u name ss) ∙ fields_by-u (form_of name ss) kind ss

pub kind_of-u : (ss : List Sign) → kind_of (bare_of ss) ≡ kind_of ss
unfolding kind_of
kind_of-u ss = simp forms_20

ruleset forms_21 = (plain_forms, head_len-u, head-u, end-u, end_len-u, held-u, piece_len-u, bare-u, fills-u, package_len-u, star_len-u, target_len-u, import_len-u, kind_len-u, named_len-u, vars_end-u, header_len-u, class_len-u, result_len-u, past_vars-u, is_call-u, is_constructor-u, is_method-u, fields_len-u, first_text-u, parts_of-u, type_text-u, bound_of-u, var_of-u, all_vars-u, all_types-u, vars_of-u, typed_param-u, types_of-u, param_of-u, all_params-u, all_fields-u, params_of-u, fields_of-u, any_begins-u, modifiers_of-u, form_of-u, result_of-u, kind_of-u)

parent-u : (xs : List (List Sign)) → parent_of (bares_of xs) ≡ parent_of xs
unfolding parent_of
parent-u [] = refl
parent-u (x ∷ xs) = simp (forms_21, parent-u xs)

all_named-u : (words : List (List ℕ)) (xs : List (List Sign)) → flat_map (types_of words) (bares_of xs) ≡ flat_map (types_of words) xs
all_named-u words xs = flat-u (types_of words) (types_of-u words) xs

supers-u : (kind : ClassKind) (xs : List (List Sign)) → supers_of kind (bares_of xs) ≡ supers_of kind xs
unfolding supers_of
supers-u kind xs = simp (parent-u, all_named-u)

names_parent-u : (kind : ClassKind) (xs : List (List Sign)) → names_parent kind (bares_of xs) ≡ names_parent kind xs
unfolding names_parent
names_parent-u kind xs = simp any_begins-u

body_in-u : (kind : ClassKind) (ss : List Sign) → body_in kind (bare_of ss) ≡ bare_of (body_in kind ss)
unfolding body_in
body_in-u ClassDecl ss = refl
body_in-u InterfaceDecl ss = refl
body_in-u EnumDecl ss = simp forms_21
body_in-u RecordDecl ss = refl
body_in-u AnnotationDecl ss = refl

pub members-u : (kind : ClassKind) (ss : List Sign) → members_of kind (bare_of ss) ≡ bare_of (members_of kind ss)
unfolding members_of
members-u kind ss = ap (λ x. body_in kind (held x)) (end-u ss) ∙ (ap (body_in kind) (held-u (end ss)) ∙ body_in-u kind (held (end ss)))

clauses-u : (ss : List Sign) → starts clause_len 0 (bare_of ss) ≡ bares_of (starts clause_len 0 ss)
clauses-u ss = starts-u clause_len clause_len-u 0 ss

all_fields_in-u : (kind : ClassKind) (name : List ℕ) (xs : List (List Sign)) → flat_map (fields_in kind name) (bares_of xs) ≡ flat_map (fields_in kind name) xs
all_fields_in-u kind name xs = flat-u (fields_in kind name) (fields_in-u kind name) xs

class_by-u : (around : Option Around) (n k : ℕ) (h : List Sign) (kind : ClassKind) (name : List ℕ) (m : Modifiers) (xs : List (List Sign)) → unranged_class (class_by around n (bare_of h) kind name m (bares_of xs)) ≡ unranged_class (class_by around k h kind name m xs)
unfolding class_by unranged_class
class_by-u around n k h kind name m xs = simp (forms_21, clauses-u, supers-u, names_parent-u, all_fields_in-u, methods-u kind name n k)

named : List Sign → List ℕ
named ss = first_text (drop (kind_len (bare ss)) (bare ss))

named-u : (ss : List Sign) → named (bare_of ss) ≡ named ss
unfolding named
named-u ss = simp forms_21

kind_is-u : (ss : List Sign) → kind_of (bare (bare_of ss)) ≡ kind_of (bare ss)
kind_is-u ss = simp forms_21

places-u : (kind : ClassKind) (ss : List Sign) → pieces (members_of kind (bare_of ss)) ≡ bares_of (pieces (members_of kind ss))
places-u kind ss = ap pieces (members-u kind ss) ∙ pieces-u (members_of kind ss)

pub class-u : (around : Option Around) (n k : ℕ) (ss : List Sign) → unranged_class (class_of around n (bare_of ss)) ≡ unranged_class (class_of around k ss)
unfolding class_of named
class-u around n k ss =
    let at = λ (h : List Sign) (kind : ClassKind) (name : List ℕ) (m : Modifiers) (xs : List (List Sign)). unranged_class (class_by around n h kind name m xs) in
    let kind = kind_of (bare ss) in
    let old = bare_of ss in
    let given = λ (x : ClassKind) (m : Modifiers). nested (kind_in around) x m in
    ap (λ x. at (bare old) x (named old) (given x (modifiers_of old)) (pieces (members_of x old))) (kind_is-u ss)
    ∙ (ap (λ x. at x kind (named old) (given kind (modifiers_of old)) (pieces (members_of kind old))) (bare-u ss)
    ∙ (ap (λ x. at (bare_of (bare ss)) kind x (given kind (modifiers_of old)) (pieces (members_of kind old))) (named-u ss)
    ∙ (ap (λ x. at (bare_of (bare ss)) kind (named ss) (given kind x) (pieces (members_of kind old))) (modifiers_of-u ss)
    ∙ (ap (λ x. at (bare_of (bare ss)) kind (named ss) (given kind (modifiers_of ss)) x) (places-u kind ss)
    ∙ class_by-u around n k (bare ss) kind (named ss) (given kind (modifiers_of ss)) (pieces (members_of kind ss))))))

pub is_class-u : (ss : List Sign) → is_class (bare_of ss) ≡ is_class ss
unfolding is_class
is_class-u ss = ap declares (form_of-u [] ss)

pub package-u : (xs : List (List Sign)) → package_of (bares_of xs) ≡ package_of xs
unfolding package_of
package-u [] = refl
package-u (x ∷ xs) = simp (forms_21, form-u, package-u xs)

import_of-u : (ss : List Sign) → import_of (bare_of ss) ≡ import_of ss
unfolding import_of
import_of-u ss = simp forms_21

import_in-u : (ss : List Sign) → import_in (bare_of ss) ≡ import_in ss
unfolding import_in
import_in-u ss = simp (forms_21, form-u, import_of-u)

pub imports-u : (xs : List (List Sign)) → flat_map import_in (bares_of xs) ≡ flat_map import_in xs
imports-u xs = flat-u import_in import_in-u xs

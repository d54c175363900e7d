-- The text of a well typed term is the text of its shape.
use Rattle.std.proofs.Common.{◌≡◌, ◌≢◌, ◌∙◌, inl, inr, ap, ap₂, sym, refl, ℕ, zero, suc, ◌+◌, ◌<◌, ◌≤◌, ◌^◌, ◌&&◌, ◌||◌, not, Bool, true, false, List, [], ◌∷◌, ◌++◌, map, length, slice_get, Option, Some, None, is_some, codes, chars, encode_utf8_all, IsUtf8, arith, append_assoc, if◌then◌else◌}
use Rattle.std.specs.List.{range_with_len}
use Rattle.std.specs.Option.{option_map}
use Rattle.std.proofs.lemmas.Bool.{false≢true}
use Rattle.std.proofs.lemmas.Str.{encodes-append, encodes-chars, IsUtf8-append, IsUtf8-from_ascii}
use Rattle.std.proofs.lemmas.Fmt.{IsAscii-decimal_wide}
use Rattle.std.specs.Fmt.{decimal}
use Rattle.terms.specs.Expr.{Expr, var, head, Args, no_args, plain, lam}
use Rattle.terms.specs.Typing.{type_in, fits, joined, result_if, args_wanted}
use Rattle.terms.specs.Faults.{is_well_formed, IsValid}
use Rattle.terms.specs.Apart.{Wants}
use Rattle.terms.specs.Text.{listed, bracketed, with_cast, variable_text, type_text, differs, is_crowded, is_lambda, is_lambda_form, head_decl, Printed, cast_of, argument_text, receiver_text, is_bare_this, call_text, binders_text, parameters, method_text, field_text, lambda_text, form_text, decl_text, text_in, printed}
use Rattle.terms.specs.declared.parts.Parts.{Parts}
use Rattle.terms.specs.declared.parts.Decl.{Decl}
use Rattle.terms.specs.declared.parts.Arg.{Arg}
use Rattle.terms.specs.declared.parts.Arg.TheVariants.{Plain, Fun}
use Rattle.terms.specs.declared.parts.Form.{Form}
use Rattle.terms.specs.declared.parts.Form.TheVariants.{Name, This, Call, New, Method, Field, Lambda}
use Rattle.java_shapes.specs.Shape.{Shape, named, called, lambda, Shapes, no_shapes, shapes, shown, shown_before, argument_texts}
use Rattle.java_shapes.specs.ShapeOf.{cast_shape, before_of, path_of, method_shape, field_shape, lambda_shape, is_first_uncast, form_shape, binder_shapes, decl_shape, is_first_this, shape_in, shapes_in}
use Rattle.java_shapes.specs.Readable.{IsFormText, IsReadable, AreShort, HasShortRows, IsContext}
use Rattle.java_shapes.proofs.Encoding.{enc_three, enc_bracketed, enc_with_cast, enc_listed, enc_space, enc_dot, enc_arrow, enc_new, enc_this}
use Rattle.java_shapes.proofs.Typed.{fitted, below_typed, formed, plain_fits, lam_fits, no_fit-plain_none, no_fit-lam_none, no_fit-none_some, no_fit-plain_fun, no_fit-lam_plain, few_variables, context_more, few_parameters, few_typed}

abbrev pub is_lambda_shape : Shape → Bool
is_lambda_shape (named b t) = false
is_lambda_shape (called b t args) = false
is_lambda_shape (lambda s binders c e) = true

-- an argument as it is printed, and its shape
pub record Seen (p : Printed) (c : Option (List ℕ)) (e : Shape) : Type 0 where
  pub text : p.text ≡ encode_utf8_all (shown e)
  pub cast : p.cast ≡ option_map encode_utf8_all c

abbrev pub AllSeen : List Printed → Shapes → Type 0
AllSeen [] no_shapes = Unit {0}
AllSeen [] (shapes c e rest) = ⊥
AllSeen (p ∷ ps) no_shapes = ⊥
AllSeen (p ∷ ps) (shapes c e rest) = Seen p c e × AllSeen ps rest

-- the first argument as a receiver
abbrev pub FirstSeen : Bool → List Printed → Shapes → Type 0
FirstSeen this [] ss = Unit {0}
FirstSeen this (p ∷ ps) no_shapes = Unit {0}
FirstSeen this (p ∷ ps) (shapes c e rest) = (p.this ≡ this) × (p.lambda ≡ is_lambda_shape e)

argument_seen : (p : Printed) (c : Option (List ℕ)) (e : Shape) → Seen p c e → argument_text p ≡ encode_utf8_all (with_cast c (shown e))
argument_seen p c e h = ap₂ with_cast h.cast h.text ∙ sym (enc_with_cast c (shown e))

texts_seen : (ps : List Printed) (ss : Shapes) → AllSeen ps ss → map argument_text ps ≡ map encode_utf8_all (argument_texts ss)
unfolding argument_texts
texts_seen [] no_shapes h = refl
texts_seen [] (shapes c e rest) h = absurd h
texts_seen (p ∷ ps) no_shapes h = absurd h
texts_seen (p ∷ ps) (shapes c e rest) h = ap₂ (λ x y. x ∷ y) (argument_seen p c e h.0) (texts_seen ps rest h.1)

call_seen : (ps : List Printed) (ss : Shapes) → AllSeen ps ss → call_text ps ≡ encode_utf8_all (bracketed (listed (argument_texts ss)))
call_seen ps ss h = ap (λ x. bracketed (listed x)) (texts_seen ps ss h) ∙ ap bracketed (sym (enc_listed (argument_texts ss))) ∙ sym (enc_bracketed (listed (argument_texts ss)))

-- receivers
abbrev pub receiver_of : Option (List ℕ) → Bool → List ℕ → List ℕ
receiver_of c l t = if is_some c || l then bracketed (with_cast c t) else t

in_brackets_seen : (c : Option (List ℕ)) (t w : List ℕ) → (bracketed (with_cast (option_map encode_utf8_all c) (encode_utf8_all t)) ++ codes ".") ++ encode_utf8_all w ≡ encode_utf8_all ((bracketed (with_cast c t) ++ codes ".") ++ w)
in_brackets_seen c t w =
    ap (λ x. (x ++ codes ".") ++ encode_utf8_all w) (ap bracketed (sym (enc_with_cast c t)) ∙ sym (enc_bracketed (with_cast c t)))
    ∙ ap (λ x. (encode_utf8_all (bracketed (with_cast c t)) ++ x) ++ encode_utf8_all w) (sym enc_dot)
    ∙ sym (enc_three (bracketed (with_cast c t)) (codes ".") w)

bare_seen : (t w : List ℕ) → (encode_utf8_all t ++ codes ".") ++ encode_utf8_all w ≡ encode_utf8_all ((t ++ codes ".") ++ w)
bare_seen t w = ap (λ x. (encode_utf8_all t ++ x) ++ encode_utf8_all w) (sym enc_dot) ∙ sym (enc_three t (codes ".") w)

regroup : (a b w : List ℕ) → ((a ++ b) ++ codes ".") ++ w ≡ a ++ (b ++ 46 ∷ w)
regroup a b w = append_assoc (a ++ b) (codes ".") w ∙ append_assoc a b (46 ∷ w)

owner_seen : (c : Option (List ℕ)) (e : Shape) (w : List ℕ) → (receiver_of (option_map encode_utf8_all c) (is_lambda_shape e) (encode_utf8_all (shown e)) ++ codes ".") ++ encode_utf8_all w ≡ encode_utf8_all (shown_before (before_of c e) ++ path_of c e w)
unfolding shown shown_before
owner_seen (Some c) e w = in_brackets_seen (Some c) (shown e) w
owner_seen None (named b t) w = bare_seen (shown_before b ++ t) w ∙ ap encode_utf8_all (regroup (shown_before b) t w)
owner_seen None (called b t args) w = bare_seen (shown_before b ++ (t ++ bracketed (listed (argument_texts args)))) w
owner_seen None (lambda s binders c e) w = in_brackets_seen None (shown (lambda s binders c e)) w

receiver_seen : (p : Printed) (c : Option (List ℕ)) (e : Shape) (w : List ℕ) → Seen p c e → p.lambda ≡ is_lambda_shape e → (receiver_text p ++ codes ".") ++ encode_utf8_all w ≡ encode_utf8_all (shown_before (before_of c e) ++ path_of c e w)
receiver_seen p c e w h l =
    ap (λ x. (receiver_of x p.lambda p.text ++ codes ".") ++ encode_utf8_all w) h.cast
    ∙ ap (λ x. (receiver_of (option_map encode_utf8_all c) x p.text ++ codes ".") ++ encode_utf8_all w) l
    ∙ ap (λ x. (receiver_of (option_map encode_utf8_all c) (is_lambda_shape e) x ++ codes ".") ++ encode_utf8_all w) h.text
    ∙ owner_seen c e w

some_mapped : (c : Option (List ℕ)) → is_some (option_map encode_utf8_all c) ≡ is_some c
some_mapped None = refl
some_mapped (Some c) = refl

bare_same : (p : Printed) (c : Option (List ℕ)) (e : Shape) (this : Bool) → Seen p c e → p.this ≡ this → is_bare_this p ≡ (this && not (is_some c))
bare_same p c e this h t = ap₂ (λ x y. x && not (is_some y)) t h.cast ∙ ap (λ x. this && not x) (some_mapped c)

-- methods and fields, by whether the receiver is left out
method_by : (bare : Bool) (s w : List ℕ) (p : Printed) (ps : List Printed) (c : Option (List ℕ)) (e : Shape) (rest : Shapes) → s ≡ encode_utf8_all w → Seen p c e → p.lambda ≡ is_lambda_shape e → AllSeen ps rest
    → ((if bare then [] else receiver_text p ++ codes ".") ++ s) ++ call_text ps ≡ encode_utf8_all (shown (method_shape bare w (shapes c e rest)))
unfolding shown shown_before
method_by true s w p ps c e rest is h l more =
    ap₂ (λ x y. x ++ y) is (call_seen ps rest more) ∙ sym (encodes-append w (bracketed (listed (argument_texts rest))))
method_by false s w p ps c e rest is h l more =
    let tail = bracketed (listed (argument_texts rest)) in
    ap₂ (λ x y. ((receiver_text p ++ codes ".") ++ x) ++ y) is (call_seen ps rest more)
    ∙ ap (λ x. x ++ encode_utf8_all tail) (receiver_seen p c e w h l)
    ∙ sym (encodes-append (shown_before (before_of c e) ++ path_of c e w) tail)
    ∙ ap encode_utf8_all (append_assoc (shown_before (before_of c e)) (path_of c e w) tail)

field_by : (left_out : Bool) (s w : List ℕ) (p : Printed) (c : Option (List ℕ)) (e : Shape) (rest : Shapes) → s ≡ encode_utf8_all w → Seen p c e → p.lambda ≡ is_lambda_shape e
    → (if left_out then [] else receiver_text p ++ codes ".") ++ s ≡ encode_utf8_all (shown (field_shape left_out w (shapes c e rest)))
unfolding shown shown_before
field_by true s w p c e rest is h l = is
field_by false s w p c e rest is h l = ap (λ x. (receiver_text p ++ codes ".") ++ x) is ∙ receiver_seen p c e w h l

method_seen : (s : List ℕ) (this : Bool) (ps : List Printed) (ss : Shapes) → s ≡ encode_utf8_all (chars s) → AllSeen ps ss → FirstSeen this ps ss → method_text s ps ≡ encode_utf8_all (shown (method_shape (this && is_first_uncast ss) (chars s) ss))
unfolding shown shown_before
method_seen s this [] no_shapes is h f = refl
method_seen s this [] (shapes c e rest) is h f = absurd h
method_seen s this (p ∷ ps) no_shapes is h f = absurd h
method_seen s this (p ∷ ps) (shapes c e rest) is h f =
    ap (λ x. ((if x then [] else receiver_text p ++ codes ".") ++ s) ++ call_text ps) (bare_same p c e this h.0 f.0)
    ∙ method_by (this && not (is_some c)) s (chars s) p ps c e rest is h.0 f.1 h.1

field_seen : (s : List ℕ) (hidden this : Bool) (ps : List Printed) (ss : Shapes) → s ≡ encode_utf8_all (chars s) → AllSeen ps ss → FirstSeen this ps ss → field_text s hidden ps ≡ encode_utf8_all (shown (field_shape ((this && is_first_uncast ss) && not hidden) (chars s) ss))
unfolding shown shown_before
field_seen s hidden this [] no_shapes is h f = refl
field_seen s hidden this [] (shapes c e rest) is h f = absurd h
field_seen s hidden this (p ∷ ps) no_shapes is h f = absurd h
field_seen s hidden this (p ∷ ps) (shapes c e rest) is h f =
    ap (λ x. (if x && not hidden then [] else receiver_text p ++ codes ".") ++ s) (bare_same p c e this h.0 f.0)
    ∙ field_by ((this && not (is_some c)) && not hidden) s (chars s) p c e rest is h.0 f.1

lambda_seen : (s names : List ℕ) (bs : List (List ℕ)) (ps : List Printed) (ss : Shapes) → s ≡ encode_utf8_all (chars s) → names ≡ encode_utf8_all (listed bs) → AllSeen ps ss → lambda_text s names ps ≡ encode_utf8_all (shown (lambda_shape (chars s) bs ss))
unfolding shown shown_before
lambda_seen s names bs [] no_shapes is n h = refl
lambda_seen s names bs [] (shapes c e rest) is n h = absurd h
lambda_seen s names bs (p ∷ ps) no_shapes is n h = absurd h
lambda_seen s names bs (p ∷ ps) (shapes c e rest) is n h =
    let one : bracketed s ≡ encode_utf8_all (bracketed (chars s)) = ap bracketed is ∙ sym (enc_bracketed (chars s)) in
    let two : codes " " ++ bracketed names ≡ encode_utf8_all (codes " " ++ bracketed (listed bs))
    = ap₂ (λ x y. x ++ y) (sym enc_space) (ap bracketed n ∙ sym (enc_bracketed (listed bs))) ∙ sym (encodes-append (codes " ") (bracketed (listed bs))) in
    let three : codes " -> " ++ argument_text p ≡ encode_utf8_all (codes " -> " ++ with_cast c (shown e))
    = ap₂ (λ x y. x ++ y) (sym enc_arrow) (argument_seen p c e h.0) ∙ sym (encodes-append (codes " -> ") (with_cast c (shown e))) in
    ap₂ (λ x y. x ++ y) (ap₂ (λ x y. x ++ y) one two) three
    ∙ sym (enc_three (bracketed (chars s)) (codes " " ++ bracketed (listed bs)) (codes " -> " ++ with_cast c (shown e)))

-- the flags are right where the form has a receiver
abbrev pub FirstFor : Form → Bool → List Printed → Shapes → Type 0
FirstFor (Method s) this ps ss = FirstSeen this ps ss
FirstFor (Field s hidden) this ps ss = FirstSeen this ps ss
FirstFor _ this ps ss = Unit {0}

spelled : (s : List ℕ) → IsUtf8 s → s ≡ encode_utf8_all (chars s)
spelled s u = sym (encodes-chars s u)

form_seen : (g : Parts) (f : Form) (names : List ℕ) (bs : List (List ℕ)) (this : Bool) (ps : List Printed) (ss : Shapes) → IsFormText g f → names ≡ encode_utf8_all (listed bs) → AllSeen ps ss → FirstFor f this ps ss
    → form_text f names ps ≡ encode_utf8_all (shown (form_shape f bs this ss))
unfolding shown shown_before
form_seen g (Name s) names bs this ps ss t n h f = spelled s t.0
form_seen g This names bs this ps ss t n h f = sym enc_this
form_seen g (Call s) names bs this ps ss t n h f = ap₂ (λ x y. x ++ y) (spelled s t.0) (call_seen ps ss h) ∙ sym (encodes-append (chars s) (bracketed (listed (argument_texts ss))))
form_seen g (New s) names bs this ps ss t n h f =
    let tail = bracketed (listed (argument_texts ss)) in
    ap₂ (λ x y. (codes "new " ++ x) ++ y) (spelled s t.0) (call_seen ps ss h)
    ∙ ap (λ x. (x ++ encode_utf8_all (chars s)) ++ encode_utf8_all tail) (sym enc_new)
    ∙ sym (enc_three (codes "new ") (chars s) tail)
    ∙ ap encode_utf8_all (append_assoc (codes "new ") (chars s) tail)
form_seen g (Method s) names bs this ps ss t n h f = method_seen s this ps ss (spelled s t.0) h f
form_seen g (Field s hidden) names bs this ps ss t n h f = field_seen s hidden this ps ss (spelled s t.0) h f
form_seen g (Lambda s) names bs this ps ss t n h f = lambda_seen s names bs ps ss (spelled s t.0) n h

-- variables and binders
pub variable_utf8 : (g : Parts) (n : ℕ) → IsReadable g → n < 10 ^ 64 → IsUtf8 (variable_text g n)
variable_utf8 g n r small = IsUtf8-append g.binder (decimal n) r.binder_text (IsUtf8-from_ascii (decimal n) (IsAscii-decimal_wide n small))

binders_by : (g : Parts) → IsReadable g → (from count : ℕ) → from + count ≤ 10 ^ 64 → map encode_utf8_all (map (λ n. chars (variable_text g n)) (range_with_len from count)) ≡ map (variable_text g) (range_with_len from count)
binders_by g r from zero small = refl
binders_by g r from (suc count) small =
    ap₂ (λ x y. x ∷ y) (encodes-chars (variable_text g from) (variable_utf8 g from r (omega (arith, small)))) (binders_by g r (from + 1) count (omega (arith, small)))

binders_seen : (g : Parts) → IsReadable g → (from count : ℕ) → from + count ≤ 10 ^ 64 → binders_text g from count ≡ encode_utf8_all (listed (binder_shapes g from count))
binders_seen g r from count small = ap listed (sym (binders_by g r from count small)) ∙ sym (enc_listed (binder_shapes g from count))

-- casts
abbrev cast_if : Parts → ℕ → Bool → Option (List ℕ)
cast_if g b x = if true && x then Some (type_text g b) else None

cast_by : (g : Parts) (b : ℕ) → IsUtf8 (type_text g b) → (x : Bool) → cast_if g b x ≡ option_map encode_utf8_all (option_map chars (cast_if g b x))
cast_by g b u true = ap Some (spelled (type_text g b) u)
cast_by g b u false = refl

cast_seen : (g : Parts) (crowded : Bool) (t : Option ℕ) (b : ℕ) → (crowded ≡ true → IsUtf8 (type_text g b)) → cast_of g crowded t b ≡ option_map encode_utf8_all (cast_shape g crowded t b)
cast_seen g true None b h = refl
cast_seen g false t b h = refl
cast_seen g true (Some a) b h = cast_by g b (h refl) (differs (Some a) b)

-- lambdas are lambdas
lambda_head : (g : Parts) (ctx : List (List ℕ)) (crowded : Bool) (s : List ℕ) (t : List ℕ) (bs : List (List ℕ)) (xs : Args) (ws : List Arg) → is_well_formed (Lambda s) ws ≡ true → fits g ctx xs ws ≡ true → is_lambda_shape (lambda_shape t bs (shapes_in g ctx crowded xs ws)) ≡ true
unfolding shapes_in
lambda_head g ctx crowded s t bs xs [] w h = absurd (false≢true w)
lambda_head g ctx crowded s t bs xs (Plain b ∷ more) w h = absurd (false≢true w)
lambda_head g ctx crowded s t bs no_args (Fun ps r ∷ more) w h = absurd (no_fit-none_some g ctx (Fun ps r) more h)
lambda_head g ctx crowded s t bs (plain e rest) (Fun ps r ∷ more) w h = absurd (no_fit-plain_fun g ctx e rest ps r more h)
lambda_head g ctx crowded s t bs (lam e rest) (Fun ps r ∷ more) w h = refl

method_no_lambda : (bare : Bool) (w : List ℕ) (ss : Shapes) → is_lambda_shape (method_shape bare w ss) ≡ false
method_no_lambda bare w no_shapes = refl
method_no_lambda true w (shapes c e rest) = refl
method_no_lambda false w (shapes c e rest) = refl

field_no_lambda : (left_out : Bool) (w : List ℕ) (ss : Shapes) → is_lambda_shape (field_shape left_out w ss) ≡ false
field_no_lambda left_out w no_shapes = refl
field_no_lambda true w (shapes c e rest) = refl
field_no_lambda false w (shapes c e rest) = refl

lambda_form : (g : Parts) (ctx : List (List ℕ)) (crowded this : Bool) (f : Form) (bs : List (List ℕ)) (xs : Args) (ws : List Arg) → is_well_formed f ws ≡ true → fits g ctx xs ws ≡ true → is_lambda_form f ≡ is_lambda_shape (form_shape f bs this (shapes_in g ctx crowded xs ws))
lambda_form g ctx crowded this (Name s) bs xs ws w h = refl
lambda_form g ctx crowded this This bs xs ws w h = refl
lambda_form g ctx crowded this (Call s) bs xs ws w h = refl
lambda_form g ctx crowded this (New s) bs xs ws w h = refl
lambda_form g ctx crowded this (Method s) bs xs ws w h = sym (method_no_lambda (this && is_first_uncast (shapes_in g ctx crowded xs ws)) (chars s) (shapes_in g ctx crowded xs ws))
lambda_form g ctx crowded this (Field s hidden) bs xs ws w h = sym (field_no_lambda ((this && is_first_uncast (shapes_in g ctx crowded xs ws)) && not hidden) (chars s) (shapes_in g ctx crowded xs ws))
lambda_form g ctx crowded this (Lambda s) bs xs ws w h = sym (lambda_head g ctx crowded s (chars s) bs xs ws w h)

lambda_decl : (g : Parts) → IsValid g → (ctx : List (List ℕ)) (i : ℕ) (xs : Args) (d : Option Decl) → slice_get g.decls i ≡ d → result_if d (fits g ctx xs (args_wanted d)) ≢ None
    → is_lambda d ≡ is_lambda_shape (decl_shape g (length (joined ctx)) d (is_first_this g xs) (shapes_in g ctx (is_crowded d) xs (args_wanted d)))
lambda_decl g valid ctx i xs None e h = absurd (h refl)
lambda_decl g valid ctx i xs (Some d) e h = lambda_form g ctx d.crowded (is_first_this g xs) d.form (binder_shapes g (length (joined ctx)) (parameters d.args)) xs d.args (formed g valid i d e) (fitted (Some d) (fits g ctx xs d.args) h)

pub lambda_flag : (g : Parts) → IsValid g → (ctx : List (List ℕ)) (e : Expr) → type_in g ctx e ≢ None → is_lambda (head_decl g e) ≡ is_lambda_shape (shape_in g ctx e)
unfolding type_in shape_in
lambda_flag g valid ctx (var n) h = refl
lambda_flag g valid ctx (head i xs) h = lambda_decl g valid ctx i xs (slice_get g.decls i) refl h

-- a receiver's flags
first_seen : (g : Parts) → IsValid g → (ctx : List (List ℕ)) (crowded : Bool) (xs : Args) (b : ℕ) (more : List Arg) → fits g ctx xs (Plain b ∷ more) ≡ true → FirstSeen (is_first_this g xs) (printed g ctx crowded xs (Plain b ∷ more)) (shapes_in g ctx crowded xs (Plain b ∷ more))
unfolding printed shapes_in
first_seen g valid ctx crowded no_args b more h = absurd (no_fit-none_some g ctx (Plain b) more h)
first_seen g valid ctx crowded (lam e rest) b more h = absurd (no_fit-lam_plain g ctx e rest b more h)
first_seen g valid ctx crowded (plain e rest) b more h = (refl, lambda_flag g valid ctx e (below_typed g (type_in g ctx e) b (plain_fits g ctx e rest b more h).0))

first_for : (g : Parts) → IsValid g → (ctx : List (List ℕ)) (crowded : Bool) (xs : Args) (f : Form) (ws : List Arg) → is_well_formed f ws ≡ true → fits g ctx xs ws ≡ true → FirstFor f (is_first_this g xs) (printed g ctx crowded xs ws) (shapes_in g ctx crowded xs ws)
first_for g valid ctx crowded xs (Name s) ws w h = tt
first_for g valid ctx crowded xs This ws w h = tt
first_for g valid ctx crowded xs (Call s) ws w h = tt
first_for g valid ctx crowded xs (New s) ws w h = tt
first_for g valid ctx crowded xs (Lambda s) ws w h = tt
first_for g valid ctx crowded xs (Method s) [] w h = absurd (false≢true w)
first_for g valid ctx crowded xs (Method s) (Fun ps r ∷ more) w h = absurd (false≢true w)
first_for g valid ctx crowded xs (Method s) (Plain b ∷ more) w h = first_seen g valid ctx crowded xs b more h
first_for g valid ctx crowded xs (Field s hidden) [] w h = absurd (false≢true w)
first_for g valid ctx crowded xs (Field s hidden) (Fun ps r ∷ more) w h = absurd (false≢true w)
first_for g valid ctx crowded xs (Field s hidden) (Plain b ∷ more) w h = first_seen g valid ctx crowded xs b more h

head_seen : (g : Parts) → IsValid g → IsReadable g → HasShortRows g → (ctx : List (List ℕ)) → IsContext ctx → (i : ℕ) (xs : Args) (d : Option Decl) → slice_get g.decls i ≡ d → result_if d (fits g ctx xs (args_wanted d)) ≢ None
    → AllSeen (printed g ctx (is_crowded d) xs (args_wanted d)) (shapes_in g ctx (is_crowded d) xs (args_wanted d))
    → decl_text g (length (joined ctx)) d (printed g ctx (is_crowded d) xs (args_wanted d)) ≡ encode_utf8_all (shown (decl_shape g (length (joined ctx)) d (is_first_this g xs) (shapes_in g ctx (is_crowded d) xs (args_wanted d))))
head_seen g valid r short ctx c i xs None e h all = absurd (h refl)
head_seen g valid r short ctx c i xs (Some d) e h all =
    let few = few_variables ctx c in
    let row = few_parameters d.args (short i d e) in
    form_seen g d.form (binders_text g (length (joined ctx)) (parameters d.args)) (binder_shapes g (length (joined ctx)) (parameters d.args)) (is_first_this g xs)
    (printed g ctx d.crowded xs d.args) (shapes_in g ctx d.crowded xs d.args) (r.forms i d e)
    (binders_seen g r (length (joined ctx)) (parameters d.args) (omega (arith, few, row))) all
    (first_for g valid ctx d.crowded xs d.form d.args (formed g valid i d e) (fitted (Some d) (fits g ctx xs d.args) h))

-- what a declaration wants has texts in UTF-8, where it is crowded; and its rows are short
abbrev pub AreTexts : Parts → Bool → List Arg → Type 0
AreTexts g crowded ws = crowded ≡ true → (b : ℕ) → Wants ws b → IsUtf8 (type_text g b)

texts_of : (g : Parts) → IsReadable g → (i : ℕ) (d : Option Decl) → slice_get g.decls i ≡ d → AreTexts g (is_crowded d) (args_wanted d)
texts_of g r i None e c b w = absurd w
texts_of g r i (Some d) e c b w = (r.types i d b e c w).utf8

short_of : (g : Parts) → HasShortRows g → (i : ℕ) (d : Option Decl) → slice_get g.decls i ≡ d → AreShort (args_wanted d)
short_of g short i None e = tt
short_of g short i (Some d) e = short i d e

mutual
  unfolding text_in shape_in type_in printed shapes_in shown shown_before

  pub text_seen : (g : Parts) → IsValid g → IsReadable g → HasShortRows g → (e : Expr) (ctx : List (List ℕ)) → IsContext ctx → type_in g ctx e ≢ None → text_in g ctx e ≡ encode_utf8_all (shown (shape_in g ctx e))
  text_seen g valid r short (var n) ctx c h = spelled (variable_text g n) (variable_utf8 g n r (few_typed g ctx n c h))
  text_seen g valid r short (head i xs) ctx c h =
      head_seen g valid r short ctx c i xs (slice_get g.decls i) refl h
      (args_seen g valid r short xs ctx c (is_crowded (slice_get g.decls i)) (args_wanted (slice_get g.decls i)) (texts_of g r i (slice_get g.decls i) refl) (short_of g short i (slice_get g.decls i) refl) (fitted (slice_get g.decls i) (fits g ctx xs (args_wanted (slice_get g.decls i))) h))

  args_seen : (g : Parts) → IsValid g → IsReadable g → HasShortRows g → (xs : Args) (ctx : List (List ℕ)) → IsContext ctx → (crowded : Bool) (ws : List Arg) → AreTexts g crowded ws → AreShort ws → fits g ctx xs ws ≡ true → AllSeen (printed g ctx crowded xs ws) (shapes_in g ctx crowded xs ws)
  args_seen g valid r short no_args ctx c crowded ws t s h = tt
  args_seen g valid r short (plain e rest) ctx c crowded [] t s h = absurd (no_fit-plain_none g ctx e rest h)
  args_seen g valid r short (plain e rest) ctx c crowded (Fun ps q ∷ more) t s h = absurd (no_fit-plain_fun g ctx e rest ps q more h)
  args_seen g valid r short (plain e rest) ctx c crowded (Plain b ∷ more) t s h =
      let k = plain_fits g ctx e rest b more h in (
        record { text = text_seen g valid r short e ctx c (below_typed g (type_in g ctx e) b k.0); cast = cast_seen g crowded (type_in g ctx e) b (λ q. t q b (inl refl)) },
        args_seen g valid r short rest ctx c crowded more (λ q a w. t q a (inr w)) s k.1,
      )
  args_seen g valid r short (lam e rest) ctx c crowded [] t s h = absurd (no_fit-lam_none g ctx e rest h)
  args_seen g valid r short (lam e rest) ctx c crowded (Plain b ∷ more) t s h = absurd (no_fit-lam_plain g ctx e rest b more h)
  args_seen g valid r short (lam e rest) ctx c crowded (Fun ps q ∷ more) t s h =
      let k = lam_fits g ctx e rest ps q more h in (
        record { text = text_seen g valid r short e (ctx ++ ps ∷ []) (context_more ctx ps c k.room s.0) (below_typed g (type_in g (ctx ++ ps ∷ []) e) q k.body); cast = cast_seen g crowded (type_in g (ctx ++ ps ∷ []) e) q (λ z. t z q (inl refl)) },
        args_seen g valid r short rest ctx c crowded more (λ z a w. t z a (inr w)) s.1 k.others,
      )

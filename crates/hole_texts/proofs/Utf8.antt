-- The text of a well typed term is in UTF-8, where the texts of an environment can be read back.
use Rattle.std.proofs.Common.{◌≡◌, ◌≢◌, inl, inr, refl, arith, ℕ, zero, suc, ◌+◌, ◌≤◌, ◌^◌, ◌&&◌, ◌||◌, nat_le, Bool, true, false, List, [], ◌∷◌, ◌++◌, map, length, codes, slice_get, if◌then◌else◌, IsUtf8, Option, Some, None}
use Rattle.std.specs.List.{AllByRecursion, list_all, range_with_len}
use Rattle.std.specs.Char.{is_ascii}
use Rattle.std.proofs.lemmas.Bool.{and_parts}
use Rattle.std.proofs.lemmas.Str.{IsUtf8-append, IsUtf8-from_ascii, IsUtf8-nil}
use Rattle.terms.specs.Expr.{Expr, var, head, Args, no_args, plain, lam}
use Rattle.terms.specs.Typing.{type_in, fits, joined, args_wanted, some_below}
use Rattle.terms.specs.Place.{IsInhabitant, fits_place, shallow, total_of}
use Rattle.terms.specs.Text.{listed, bracketed, with_cast, variable_text, type_text, differs, is_crowded, Printed, cast_of, argument_text, receiver_text, has_cast, is_bare_this, call_text, binders_text, parameters, method_text, field_text, lambda_text, form_text, decl_text, text_in, text_of, printed}
use Rattle.terms.specs.declared.parts.Parts.{Parts}
use Rattle.terms.specs.declared.parts.Decl.{Decl}
use Rattle.terms.specs.declared.parts.Arg.{Arg}
use Rattle.terms.specs.declared.parts.Arg.TheVariants.{Plain, Fun}
use Rattle.terms.specs.declared.parts.Form.{Form}
use Rattle.terms.specs.declared.parts.Form.TheVariants.{Name, This, Call, New, Method, Field, Lambda}
use Rattle.java_shapes.specs.Readable.{IsFormText, IsReadable, AreShort, HasShortRows, IsContext}
use Rattle.java_shapes.proofs.Typed.{fitted, below_typed, plain_fits, lam_fits, no_fit-plain_none, no_fit-lam_none, no_fit-plain_fun, no_fit-lam_plain, few_variables, context_more, few_parameters, few_typed}
use Rattle.java_shapes.proofs.TextLaw.{variable_utf8, AreTexts}
use Rattle.hole_texts.proofs.Letters.{all-below}

signs : (t : List ℕ) → list_all is_ascii t ≡ true → IsUtf8 t
signs t e = IsUtf8-from_ascii t (all-below t e)

bracketed-utf8 : (t : List ℕ) → IsUtf8 t → IsUtf8 (bracketed t)
bracketed-utf8 t u = IsUtf8-append (codes "(" ++ t) (codes ")") (IsUtf8-append (codes "(") t (signs (codes "(") refl) u) (signs (codes ")") refl)

listed-utf8 : (ts : List (List ℕ)) → AllByRecursion IsUtf8 ts → IsUtf8 (listed ts)
unfolding listed
listed-utf8 [] h = IsUtf8-nil
listed-utf8 (t ∷ []) h = h.0
listed-utf8 (t ∷ u ∷ more) h = IsUtf8-append (t ++ codes ", ") (listed (u ∷ more)) (IsUtf8-append t (codes ", ") h.0 (signs (codes ", ") refl)) (listed-utf8 (u ∷ more) h.1)

-- an argument's text and its cast
abbrev IsCastUtf8 : Option (List ℕ) → Type 0
IsCastUtf8 None = Unit {0}
IsCastUtf8 (Some c) = IsUtf8 c

record IsPrinted (p : Printed) : Type 0 where
  pub text : IsUtf8 p.text
  pub cast : IsCastUtf8 p.cast

cast-utf8 : (c : Option (List ℕ)) (t : List ℕ) → IsCastUtf8 c → IsUtf8 t → IsUtf8 (with_cast c t)
cast-utf8 None t h u = u
cast-utf8 (Some c) t h u = IsUtf8-append (bracketed c) (codes " " ++ t) (bracketed-utf8 c h) (IsUtf8-append (codes " ") t (signs (codes " ") refl) u)

argument-utf8 : (p : Printed) → IsPrinted p → IsUtf8 (argument_text p)
argument-utf8 p h = cast-utf8 p.cast p.text h.cast h.text

arguments-utf8 : (ps : List Printed) → AllByRecursion IsPrinted ps → AllByRecursion IsUtf8 (map argument_text ps)
arguments-utf8 [] h = tt
arguments-utf8 (p ∷ ps) h = (argument-utf8 p h.0, arguments-utf8 ps h.1)

call-utf8 : (ps : List Printed) → AllByRecursion IsPrinted ps → IsUtf8 (call_text ps)
call-utf8 ps h = bracketed-utf8 (listed (map argument_text ps)) (listed-utf8 (map argument_text ps) (arguments-utf8 ps h))

if-utf8 : (b : Bool) (x y : List ℕ) → IsUtf8 x → IsUtf8 y → IsUtf8 (if b then x else y)
if-utf8 true x y h k = h
if-utf8 false x y h k = k

receiver-utf8 : (p : Printed) → IsPrinted p → IsUtf8 (receiver_text p)
receiver-utf8 p h = if-utf8 (has_cast p || p.lambda) (bracketed (argument_text p)) p.text (bracketed-utf8 (argument_text p) (argument-utf8 p h)) h.text

owner-utf8 : (b : Bool) (p : Printed) (s : List ℕ) → IsPrinted p → IsUtf8 s → IsUtf8 ((if b then [] else receiver_text p ++ codes ".") ++ s)
owner-utf8 b p s h u = IsUtf8-append (if b then [] else receiver_text p ++ codes ".") s (if-utf8 b [] (receiver_text p ++ codes ".") IsUtf8-nil (IsUtf8-append (receiver_text p) (codes ".") (receiver-utf8 p h) (signs (codes ".") refl))) u

method-utf8 : (s : List ℕ) (ps : List Printed) → IsUtf8 s → AllByRecursion IsPrinted ps → IsUtf8 (method_text s ps)
method-utf8 s [] u h = IsUtf8-nil
method-utf8 s (p ∷ ps) u h = IsUtf8-append ((if is_bare_this p then [] else receiver_text p ++ codes ".") ++ s) (call_text ps) (owner-utf8 (is_bare_this p) p s h.0 u) (call-utf8 ps h.1)

field-by : (b : Bool) (s : List ℕ) (p : Printed) → IsPrinted p → IsUtf8 s → IsUtf8 ((if b then [] else receiver_text p ++ codes ".") ++ s)
field-by b s p h u = owner-utf8 b p s h u

field-utf8 : (s : List ℕ) (hidden : Bool) (ps : List Printed) → IsUtf8 s → AllByRecursion IsPrinted ps → IsUtf8 (field_text s hidden ps)
field-utf8 s hidden [] u h = IsUtf8-nil
field-utf8 s hidden (p ∷ ps) u h = field-by _ s p h.0 u

lambda-utf8 : (s names : List ℕ) (ps : List Printed) → IsUtf8 s → IsUtf8 names → AllByRecursion IsPrinted ps → IsUtf8 (lambda_text s names ps)
lambda-utf8 s names [] u n h = IsUtf8-nil
lambda-utf8 s names (p ∷ ps) u n h =
    IsUtf8-append (bracketed s ++ (codes " " ++ bracketed names)) (codes " -> " ++ argument_text p)
    (IsUtf8-append (bracketed s) (codes " " ++ bracketed names) (bracketed-utf8 s u) (IsUtf8-append (codes " ") (bracketed names) (signs (codes " ") refl) (bracketed-utf8 names n)))
    (IsUtf8-append (codes " -> ") (argument_text p) (signs (codes " -> ") refl) (argument-utf8 p h.0))

form-utf8 : (g : Parts) (f : Form) (names : List ℕ) (ps : List Printed) → IsFormText g f → IsUtf8 names → AllByRecursion IsPrinted ps → IsUtf8 (form_text f names ps)
form-utf8 g (Name s) names ps t n h = t.0
form-utf8 g This names ps t n h = signs (codes "this") refl
form-utf8 g (Call s) names ps t n h = IsUtf8-append s (call_text ps) t.0 (call-utf8 ps h)
form-utf8 g (New s) names ps t n h = IsUtf8-append (codes "new " ++ s) (call_text ps) (IsUtf8-append (codes "new ") s (signs (codes "new ") refl) t.0) (call-utf8 ps h)
form-utf8 g (Method s) names ps t n h = method-utf8 s ps t.0 h
form-utf8 g (Field s hidden) names ps t n h = field-utf8 s hidden ps t.0 h
form-utf8 g (Lambda s) names ps t n h = lambda-utf8 s names ps t.0 n h

-- binders
binders-all : (g : Parts) → IsReadable g → (from count : ℕ) → from + count ≤ 10 ^ 64 → AllByRecursion IsUtf8 (map (variable_text g) (range_with_len from count))
binders-all g r from zero small = tt
binders-all g r from (suc count) small = (variable_utf8 g from r (omega (arith, small)), binders-all g r (from + 1) count (omega (arith, small)))

binders-utf8 : (g : Parts) → IsReadable g → (from count : ℕ) → from + count ≤ 10 ^ 64 → IsUtf8 (binders_text g from count)
binders-utf8 g r from count small = listed-utf8 (map (variable_text g) (range_with_len from count)) (binders-all g r from count small)

-- casts
cast-by : (g : Parts) (b : ℕ) (x : Bool) → IsUtf8 (type_text g b) → IsCastUtf8 (if x then Some (type_text g b) else None)
cast-by g b true u = u
cast-by g b false u = tt

cast-of : (g : Parts) (crowded : Bool) (t : Option ℕ) (b : ℕ) → (crowded ≡ true → IsUtf8 (type_text g b)) → IsCastUtf8 (cast_of g crowded t b)
cast-of g true None b h = tt
cast-of g false t b h = tt
cast-of g true (Some a) b h = cast-by g b (true && differs (Some a) b) (h refl)

head-utf8 : (g : Parts) → IsReadable g → HasShortRows g → (ctx : List (List ℕ)) → IsContext ctx → (i : ℕ) (d : Option Decl) (ps : List Printed) → slice_get g.decls i ≡ d → AllByRecursion IsPrinted ps → IsUtf8 (decl_text g (length (joined ctx)) d ps)
head-utf8 g r short ctx c i None ps e h = IsUtf8-nil
head-utf8 g r short ctx c i (Some d) ps e h =
    let few = few_variables ctx c in
    let row = few_parameters d.args (short i d e) in
    form-utf8 g d.form (binders_text g (length (joined ctx)) (parameters d.args)) ps (r.forms i d e) (binders-utf8 g r (length (joined ctx)) (parameters d.args) (omega (arith, few, row))) h

texts-of : (g : Parts) → IsReadable g → (i : ℕ) (d : Option Decl) → slice_get g.decls i ≡ d → AreTexts g (is_crowded d) (args_wanted d)
texts-of g r i None e c b w = absurd w
texts-of g r i (Some d) e c b w = (r.types i d b e c w).utf8

short-of : (g : Parts) → HasShortRows g → (i : ℕ) (d : Option Decl) → slice_get g.decls i ≡ d → AreShort (args_wanted d)
short-of g short i None e = tt
short-of g short i (Some d) e = short i d e

mutual
  unfolding text_in type_in printed

  pub term-utf8 : (g : Parts) → IsReadable g → HasShortRows g → (e : Expr) (ctx : List (List ℕ)) → IsContext ctx → type_in g ctx e ≢ None → IsUtf8 (text_in g ctx e)
  term-utf8 g r short (var n) ctx c h = variable_utf8 g n r (few_typed g ctx n c h)
  term-utf8 g r short (head i xs) ctx c h =
      head-utf8 g r short ctx c i (slice_get g.decls i) (printed g ctx (is_crowded (slice_get g.decls i)) xs (args_wanted (slice_get g.decls i))) refl
      (args-utf8 g r short xs ctx c (is_crowded (slice_get g.decls i)) (args_wanted (slice_get g.decls i)) (texts-of g r i (slice_get g.decls i) refl) (short-of g short i (slice_get g.decls i) refl) (fitted (slice_get g.decls i) (fits g ctx xs (args_wanted (slice_get g.decls i))) h))

  args-utf8 : (g : Parts) → IsReadable g → HasShortRows g → (xs : Args) (ctx : List (List ℕ)) → IsContext ctx → (crowded : Bool) (ws : List Arg) → AreTexts g crowded ws → AreShort ws → fits g ctx xs ws ≡ true → AllByRecursion IsPrinted (printed g ctx crowded xs ws)
  args-utf8 g r short no_args ctx c crowded ws t s h = tt
  args-utf8 g r short (plain e rest) ctx c crowded [] t s h = absurd (no_fit-plain_none g ctx e rest h)
  args-utf8 g r short (plain e rest) ctx c crowded (Fun ps q ∷ more) t s h = absurd (no_fit-plain_fun g ctx e rest ps q more h)
  args-utf8 g r short (plain e rest) ctx c crowded (Plain b ∷ more) t s h =
      let k = plain_fits g ctx e rest b more h in (
        record { text = term-utf8 g r short e ctx c (below_typed g (type_in g ctx e) b k.0); cast = cast-of g crowded (type_in g ctx e) b (λ q. t q b (inl refl)) },
        args-utf8 g r short rest ctx c crowded more (λ q a w. t q a (inr w)) s k.1,
      )
  args-utf8 g r short (lam e rest) ctx c crowded [] t s h = absurd (no_fit-lam_none g ctx e rest h)
  args-utf8 g r short (lam e rest) ctx c crowded (Plain b ∷ more) t s h = absurd (no_fit-lam_plain g ctx e rest b more h)
  args-utf8 g r short (lam e rest) ctx c crowded (Fun ps q ∷ more) t s h =
      let k = lam_fits g ctx e rest ps q more h in (
        record { text = term-utf8 g r short e (ctx ++ ps ∷ []) (context_more ctx ps c k.room s.0) (below_typed g (type_in g (ctx ++ ps ∷ []) e) q k.body); cast = cast-of g crowded (type_in g (ctx ++ ps ∷ []) e) q (λ z. t z q (inl refl)) },
        args-utf8 g r short rest ctx c crowded more (λ z a w. t z a (inr w)) s.1 k.others,
      )

-- an inhabitant's text
no-rows : IsContext []
no-rows = record { few = omega arith; short = tt }

inhabitant-below : (g : Parts) (e : Expr) → IsInhabitant g e → some_below g (type_in g [] e) g.goal ≡ true
unfolding fits_place
inhabitant-below g e h =
    let place = and_parts (some_below g (type_in g [] e) g.goal && shallow g.depth e) (nat_le (total_of g e) g.limit) h in
    (and_parts (some_below g (type_in g [] e) g.goal) (shallow g.depth e) place.0).0

pub inhabitant-utf8 : (g : Parts) (e : Expr) → IsReadable g → HasShortRows g → IsInhabitant g e → IsUtf8 (text_of g e)
inhabitant-utf8 g e r short h = term-utf8 g r short e [] no-rows (below_typed g (type_in g [] e) g.goal (inhabitant-below g e h))

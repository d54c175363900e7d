-- Shapes of well typed terms are shapes of the grammar.
use Rattle.std.proofs.Common.{◌≡◌, ◌≢◌, ◌∙◌, ◌⊎◌, inl, inr, ap, ap₂, sym, subst, refl, ℕ, zero, suc, ◌+◌, ◌<◌, ◌≤◌, ◌^◌, ◌&&◌, not, Bool, true, false, List, [], ◌∷◌, ◌++◌, length, Option, Some, None, is_some, codes, chars, bytes_eq, arith, append_assoc, append-nil, if◌then◌else◌}
use Rattle.std.specs.List.{list_all}
use Rattle.std.specs.Option.{option_map}
use Rattle.std.proofs.lemmas.Bool.{false≢true, or_left, or_right}
use Rattle.std.proofs.lemmas.List.Folds.{list_all-append}
use Rattle.java_units.specs.Signs.{has}
use Rattle.java_units.specs.Forms.{primitives}
use Rattle.terms.specs.Expr.{Expr, var, head, Args, no_args, plain, lam}
use Rattle.terms.specs.Typing.{type_in, fits, joined}
use Rattle.terms.specs.Faults.{is_well_formed, IsValid}
use Rattle.terms.specs.Apart.{Declares, Wants}
use Rattle.terms.specs.Text.{variable_text, type_text, differs, is_this, is_this_form, head_decl, parameters}
use Rattle.terms.specs.declared.parts.Parts.{Parts}
use Rattle.terms.specs.declared.parts.Decl.{Decl}
use Rattle.terms.specs.declared.parts.Arg.{Arg}
use Rattle.terms.specs.declared.parts.Arg.TheVariants.{Plain, Fun}
use Rattle.terms.specs.declared.parts.Form.{Form}
use Rattle.terms.specs.declared.parts.Form.TheVariants.{Name, This, Call, New, Method, Field, Lambda}
use Rattle.java_shapes.specs.Words.{spells_identifier, literals, begins_name, dotted, is_binder, IsPath, IsQualified, IsNamePath, IsCallPath, may_call}
use Rattle.java_shapes.specs.Shape.{Shape, named, called, lambda, Before, nothing, fresh, behind, in_brackets, Shapes, shapes}
use Rattle.java_shapes.specs.Grammar.{IsType, IsCast, IsNameBehind, IsCallBehind, IsShape, IsBefore, AreShapes}
use Rattle.java_shapes.specs.ShapeOf.{cast_shape, before_of, path_of, method_shape, field_shape, form_shape, binder_shapes, is_first_this, shape_in, shapes_in}
use Rattle.java_shapes.specs.Readable.{is_free, IsFormText, IsTypeText, IsReadable, AreShort, HasShortRows, IsContext}
use Rattle.java_shapes.proofs.Typed.{below_typed, formed, plain_fits, lam_fits, no_fit-plain_none, no_fit-lam_none, no_fit-none_some, no_fit-plain_fun, no_fit-lam_plain, few_variables, context_more, few_typed, Opened, opened}
use Rattle.java_shapes.proofs.WordFacts.{and_both, Lacks, lacks_not, identifier_not_this, free_identifier, all_weaker, variable_binder, variable_not_this, literal_word, first_whole, has_cases, has_none, variable_identifier}

pub named_is : (b c : Before) (t s : List ℕ) → named b t ≡ named c s → (b ≡ c) × (t ≡ s)
named_is b c t s e = (cc, cc)

pub called_is : (b c : Before) (t s : List ℕ) (xs ys : Shapes) → called b t xs ≡ called c s ys → (b ≡ c) × (t ≡ s) × (xs ≡ ys)
called_is b c t s xs ys e = (cc, cc, cc)

pub lambda_is : (s t : List ℕ) (bs cs : List (List ℕ)) (c d : Option (List ℕ)) (e f : Shape) → lambda s bs c e ≡ lambda t cs d f → (s ≡ t) × (c ≡ d) × (e ≡ f)
lambda_is s t bs cs c d e f q = (cc, cc, cc)

pub shapes_is : (c d : Option (List ℕ)) (e f : Shape) (xs ys : Shapes) → shapes c e xs ≡ shapes d f ys → (c ≡ d) × (e ≡ f) × (xs ≡ ys)
shapes_is c d e f xs ys q = (cc, cc, cc)

pub named_called : (b c : Before) (t s : List ℕ) (xs : Shapes) → named b t ≡ called c s xs → ⊥
named_called b c t s xs e = cc

pub named_lambda : (b : Before) (t s : List ℕ) (bs : List (List ℕ)) (c : Option (List ℕ)) (e : Shape) → named b t ≡ lambda s bs c e → ⊥
named_lambda b t s bs c e q = cc

pub called_lambda : (b : Before) (t s : List ℕ) (xs : Shapes) (bs : List (List ℕ)) (c : Option (List ℕ)) (e : Shape) → called b t xs ≡ lambda s bs c e → ⊥
called_lambda b t s xs bs c e q = cc

pub this_dotless : Lacks 46 (codes "this")
this_dotless = refl

-- a receiver that leaves nothing before the word behind its dot
pub record NothingLeft (c : Option (List ℕ)) (e : Shape) : Type 0 where
  pub cast : c ≡ None
  pub text : List ℕ
  pub is : e ≡ named nothing text

pub nothing_left : (c : Option (List ℕ)) (e : Shape) → before_of c e ≡ nothing → NothingLeft c e
nothing_left (Some k) e q = absurd cc
nothing_left None (named b t) q = record { cast = refl; text = t; is = ap (λ x. named x t) q }
nothing_left None (called b t xs) q = absurd cc
nothing_left None (lambda s bs c e) q = absurd cc

pub path_left : (c : Option (List ℕ)) (e : Shape) (w : List ℕ) (n : NothingLeft c e) → path_of c e w ≡ n.text ++ 46 ∷ w
path_left c e w n = ap₂ (λ x y. path_of x y w) n.cast n.is

-- a form whose arguments fit, with its text
pub record Heads (g : Parts) (ctx : List (List ℕ)) (i : ℕ) (d : Decl) (k : Bool) (f : Form) (ws : List Arg) (xs : Args) : Type 0 where
  pub declared : Declares g i d
  pub crowded : d.crowded ≡ k
  pub form : d.form ≡ f
  pub args : d.args ≡ ws
  pub well_formed : is_well_formed f ws ≡ true
  pub text : IsFormText g f
  pub fit : fits g ctx xs ws ≡ true

pub heads : (g : Parts) → IsValid g → IsReadable g → (ctx : List (List ℕ)) (i : ℕ) (xs : Args) (o : Opened g ctx i xs) → Heads g ctx i o.decl o.decl.crowded o.decl.form o.decl.args xs
heads g valid r ctx i xs o = record { declared = o.declared; crowded = refl; form = refl; args = refl; well_formed = formed g valid i o.decl o.declared; text = r.forms i o.decl o.declared; fit = o.fit }

unfoldable pub shape_head : Parts → List (List ℕ) → Bool → Form → List Arg → Args → Shape
shape_head g ctx k f ws xs = form_shape f (binder_shapes g (length (joined ctx)) (parameters ws)) (is_first_this g xs) (shapes_in g ctx k xs ws)

pub shaped : (g : Parts) (ctx : List (List ℕ)) (i : ℕ) (xs : Args) (o : Opened g ctx i xs) → shape_in g ctx (head i xs) ≡ shape_head g ctx o.decl.crowded o.decl.form o.decl.args xs
unfolding shape_in shape_head
shaped g ctx i xs o = rw o.declared refl

-- only `this` looks like `this`
pub name_not_this : (g : Parts) (s : List ℕ) → IsFormText g (Name s) → chars s ≡ codes "this" → ⊥
name_not_this g s (u, inl path) e =
    let same = first_whole (chars g.binder) (chars s) path (subst (λ x. Lacks 46 x) (sym e) this_dotless) in
    identifier_not_this path.first (free_identifier (chars g.binder) path.first path.first_is) (same ∙ e)
name_not_this g s (u, inr lit) e = (literal_word (chars s) lit).not_this e

pub method_not_named : (bare : Bool) (w : List ℕ) (c : Option (List ℕ)) (e : Shape) (rest : Shapes) (b : Before) (t : List ℕ) → method_shape bare w (shapes c e rest) ≡ named b t → ⊥
method_not_named true w c e rest b t q = named_called b nothing t w rest (sym q)
method_not_named false w c e rest b t q = named_called b (before_of c e) t (path_of c e w) rest (sym q)

pub field_not_this : (left_out : Bool) (g : Parts) (s : List ℕ) (c : Option (List ℕ)) (e : Shape) (rest : Shapes) → spells_identifier (chars s) ≡ true → field_shape left_out (chars s) (shapes c e rest) ≡ named nothing (codes "this") → ⊥
field_not_this true g s c e rest h q = identifier_not_this (chars s) h (named_is nothing nothing (chars s) (codes "this") q).1
field_not_this false g s c e rest h q =
    let k = named_is (before_of c e) nothing (path_of c e (chars s)) (codes "this") q in
    let n = nothing_left c e k.0 in
    lacks_not 46 (codes "this") n.text (chars s) this_dotless (sym k.1 ∙ path_left c e (chars s) n)

pub form_not_this : (g : Parts) (ctx : List (List ℕ)) (i : ℕ) (d : Decl) (k : Bool) (f : Form) (ws : List Arg) (xs : Args) → Heads g ctx i d k f ws xs → shape_head g ctx k f ws xs ≡ named nothing (codes "this") → is_this_form f ≡ true
unfolding shapes_in shape_head
form_not_this g ctx i d k (Name s) ws xs h q = absurd (name_not_this g s h.text (named_is nothing nothing (chars s) (codes "this") q).1)
form_not_this g ctx i d k This ws xs h q = refl
form_not_this g ctx i d k (Call s) ws xs h q = absurd (named_called nothing nothing (codes "this") (chars s) (shapes_in g ctx k xs ws) (sym q))
form_not_this g ctx i d k (New s) ws xs h q = absurd (named_called nothing fresh (codes "this") (chars s) (shapes_in g ctx k xs ws) (sym q))
form_not_this g ctx i d k (Method s) [] xs h q = absurd (false≢true h.well_formed)
form_not_this g ctx i d k (Method s) (Fun ps r ∷ more) xs h q = absurd (false≢true h.well_formed)
form_not_this g ctx i d k (Method s) (Plain b ∷ more) no_args h q = absurd (no_fit-none_some g ctx (Plain b) more h.fit)
form_not_this g ctx i d k (Method s) (Plain b ∷ more) (lam e rest) h q = absurd (no_fit-lam_plain g ctx e rest b more h.fit)
form_not_this g ctx i d k (Method s) (Plain b ∷ more) (plain e rest) h q =
    absurd (method_not_named (is_this (head_decl g e) && not (is_some (cast_shape g k (type_in g ctx e) b))) (chars s) (cast_shape g k (type_in g ctx e) b) (shape_in g ctx e) (shapes_in g ctx k rest more) nothing (codes "this") q)
form_not_this g ctx i d k (Field s hidden) [] xs h q = absurd (false≢true h.well_formed)
form_not_this g ctx i d k (Field s hidden) (Fun ps r ∷ more) xs h q = absurd (false≢true h.well_formed)
form_not_this g ctx i d k (Field s hidden) (Plain b ∷ more) no_args h q = absurd (no_fit-none_some g ctx (Plain b) more h.fit)
form_not_this g ctx i d k (Field s hidden) (Plain b ∷ more) (lam e rest) h q = absurd (no_fit-lam_plain g ctx e rest b more h.fit)
form_not_this g ctx i d k (Field s hidden) (Plain b ∷ more) (plain e rest) h q =
    absurd (field_not_this ((is_this (head_decl g e) && not (is_some (cast_shape g k (type_in g ctx e) b))) && not hidden) g s (cast_shape g k (type_in g ctx e) b) (shape_in g ctx e) (shapes_in g ctx k rest more) (free_identifier (chars g.binder) (chars s) h.text.1) q)
form_not_this g ctx i d k (Lambda s) [] xs h q = absurd (false≢true h.well_formed)
form_not_this g ctx i d k (Lambda s) (Plain b ∷ more) xs h q = absurd (false≢true h.well_formed)
form_not_this g ctx i d k (Lambda s) (Fun ps r ∷ more) no_args h q = absurd (no_fit-none_some g ctx (Fun ps r) more h.fit)
form_not_this g ctx i d k (Lambda s) (Fun ps r ∷ more) (plain e rest) h q = absurd (no_fit-plain_fun g ctx e rest ps r more h.fit)
form_not_this g ctx i d k (Lambda s) (Fun ps r ∷ more) (lam e rest) h q =
    absurd (named_lambda nothing (codes "this") (chars s) (binder_shapes g (length (joined ctx)) (length ps)) (cast_shape g k (type_in g (ctx ++ ps ∷ []) e) r) (shape_in g (ctx ++ ps ∷ []) e) (sym q))

pub looks_this : (g : Parts) → IsValid g → IsReadable g → (ctx : List (List ℕ)) → IsContext ctx → (e : Expr) → type_in g ctx e ≢ None → shape_in g ctx e ≡ named nothing (codes "this") → is_this (head_decl g e) ≡ true
unfolding shape_in
looks_this g valid r ctx c (var n) h q = absurd (variable_not_this g n r (few_typed g ctx n c h) (named_is nothing nothing (chars (variable_text g n)) (codes "this") q).1)
looks_this g valid r ctx c (head i xs) h q =
    let o = opened g ctx i xs h in
    subst (λ x. is_this x ≡ true) (sym o.declared) (form_not_this g ctx i o.decl o.decl.crowded o.decl.form o.decl.args xs (heads g valid r ctx i xs o) (sym (shaped g ctx i xs o) ∙ q))

-- paths
pub dotted_none : (v : List ℕ) → v ++ dotted [] ≡ v
unfolding dotted
dotted_none v = append-nil v

pub one_word : (p q : List ℕ → Bool) (w : List ℕ) → p w ≡ true → IsPath p q w
one_word p q w h = record { first = w; rest = []; first_is = h; rest_are = refl; is = sym (dotted_none w) }

pub identifier_begins : (w : List ℕ) → spells_identifier w ≡ true → begins_name w ≡ true
unfolding begins_name
identifier_begins w h = or_left (spells_identifier w) (has (codes "this" ∷ literals) w) h

pub dotted_more : (ws : List (List ℕ)) (w : List ℕ) → dotted (ws ++ w ∷ []) ≡ dotted ws ++ 46 ∷ w
unfolding dotted
dotted_more [] w = ap (λ x. 46 ∷ x) (append-nil w)
dotted_more (v ∷ ws) w = ap (λ x. 46 ∷ (v ++ x)) (dotted_more ws w) ∙ ap (λ x. 46 ∷ x) (sym (append_assoc v (dotted ws) (46 ∷ w)))

pub path_more : (p : List ℕ → Bool) (t w : List ℕ) → IsPath p spells_identifier t → spells_identifier w ≡ true → IsPath p spells_identifier (t ++ 46 ∷ w)
path_more p t w s h = record {
  first = s.first;
  rest = s.rest ++ w ∷ [];
  first_is = s.first_is;
  rest_are = list_all-append spells_identifier s.rest (w ∷ []) ∙ and_both (list_all spells_identifier s.rest) (spells_identifier w && true) s.rest_are (and_both (spells_identifier w) true h refl);
  is = ap (λ x. x ++ 46 ∷ w) s.is ∙ append_assoc s.first (dotted s.rest) (46 ∷ w) ∙ ap (λ x. s.first ++ x) (sym (dotted_more s.rest w));
}

pub path_weaker : (p q : List ℕ → Bool) (t : List ℕ) → ((w : List ℕ) → p w ≡ true → q w ≡ true) → IsPath p spells_identifier t → IsPath q spells_identifier t
path_weaker p q t weaker s = record { first = s.first; rest = s.rest; first_is = weaker s.first s.first_is; rest_are = s.rest_are; is = s.is }

pub free_qualified : (b t : List ℕ) → IsPath (is_free b) (is_free b) t → IsQualified t
free_qualified b t s = record { first = s.first; rest = s.rest; first_is = free_identifier b s.first s.first_is; rest_are = all_weaker (is_free b) spells_identifier (free_identifier b) s.rest s.rest_are; is = s.is }

pub qualified_name : (t : List ℕ) → IsQualified t → IsNamePath t
qualified_name t s = path_weaker spells_identifier begins_name t identifier_begins s

pub has_one : (x w : List ℕ) → has (x ∷ []) w ≡ true → x ≡ w
has_one x w h = elim (has_cases x [] w h) [ inl e ↦ e | inr k ↦ absurd (has_none w k) ]

pub no_has_this : (w : List ℕ) → (w ≡ codes "this" → ⊥) → not (has (codes "this" ∷ []) w) ≡ true
no_has_this w h = by_test (has (codes "this" ∷ []) w) refl
  where
    by_test : (b : Bool) → has (codes "this" ∷ []) w ≡ b → not b ≡ true
    by_test true e = absurd (h (sym (has_one (codes "this") w e)))
    by_test false e = refl

pub qualified_may : (first : List ℕ) (rest : List (List ℕ)) → spells_identifier first ≡ true → may_call first rest ≡ true
qualified_may first [] h = h
qualified_may first (m ∷ []) h = no_has_this first (identifier_not_this first h)
qualified_may first (m ∷ n ∷ rest) h = refl

pub qualified_call : (t : List ℕ) → IsQualified t → IsCallPath t
unfolding qualified_name path_weaker
qualified_call t s = record { path = qualified_name t s; last = qualified_may s.first s.rest s.first_is }

pub more_may : (first : List ℕ) (rest : List (List ℕ)) (w : List ℕ) → (first ++ dotted rest ≡ codes "this" → ⊥) → may_call first (rest ++ w ∷ []) ≡ true
unfolding dotted
more_may first [] w h = no_has_this first (λ e. h (append-nil first ∙ e))
more_may first (m ∷ []) w h = refl
more_may first (m ∷ n ∷ rest) w h = refl

pub more_call : (t w : List ℕ) → IsNamePath t → (t ≡ codes "this" → ⊥) → spells_identifier w ≡ true → IsCallPath (t ++ 46 ∷ w)
unfolding path_more
more_call t w s h k = record { path = path_more begins_name t w s k; last = more_may s.first s.rest w (λ e. h (s.is ∙ e)) }

-- what a receiver leaves before a word
pub before_shaped : (p : List ℕ) (c : Option (List ℕ)) (e : Shape) → IsCast c → IsShape p e → IsBefore p (before_of c e)
unfolding IsShape IsBefore
before_shaped p (Some k) e cast s = (cast, s, tt)
before_shaped p None (named b t) cast s = s.0
before_shaped p None (called b t xs) cast s = s
before_shaped p None (lambda n bs c e) cast s = (tt, s, tt)

pub name_behind_more : (b : Before) (t w : List ℕ) → IsNameBehind b t → spells_identifier w ≡ true → IsNameBehind b (t ++ 46 ∷ w)
name_behind_more nothing t w s h = path_more begins_name t w s h
name_behind_more fresh t w s h = s
name_behind_more (behind b n xs) t w s h = path_more spells_identifier t w s h
name_behind_more (in_brackets c e) t w s h = path_more spells_identifier t w s h

pub name_behind : (p : List ℕ) (c : Option (List ℕ)) (e : Shape) (w : List ℕ) → IsShape p e → spells_identifier w ≡ true → IsNameBehind (before_of c e) (path_of c e w)
unfolding IsShape
name_behind p (Some k) e w s h = one_word spells_identifier spells_identifier w h
name_behind p None (named b t) w s h = name_behind_more b t w s.1 h
name_behind p None (called b t xs) w s h = one_word spells_identifier spells_identifier w h
name_behind p None (lambda n bs c e) w s h = one_word spells_identifier spells_identifier w h

pub call_behind_more : (b : Before) (t w : List ℕ) → IsNameBehind b t → (named b t ≡ named nothing (codes "this") → ⊥) → spells_identifier w ≡ true → IsCallBehind b (t ++ 46 ∷ w)
call_behind_more nothing t w s no_this h = more_call t w s (λ e. no_this (ap (named nothing) e)) h
call_behind_more fresh t w s no_this h = absurd s
call_behind_more (behind b n xs) t w s no_this h = path_more spells_identifier t w s h
call_behind_more (in_brackets c e) t w s no_this h = path_more spells_identifier t w s h

pub call_behind : (p : List ℕ) (c : Option (List ℕ)) (e : Shape) (w : List ℕ) → IsShape p e → (c ≡ None → e ≡ named nothing (codes "this") → ⊥) → spells_identifier w ≡ true → IsCallBehind (before_of c e) (path_of c e w)
unfolding IsShape
call_behind p (Some k) e w s no_this h = one_word spells_identifier spells_identifier w h
call_behind p None (named b t) w s no_this h = call_behind_more b t w s.1 (no_this refl) h
call_behind p None (called b t xs) w s no_this h = one_word spells_identifier spells_identifier w h
call_behind p None (lambda n bs c e) w s no_this h = one_word spells_identifier spells_identifier w h

-- forms
pub method_shaped : (p : List ℕ) (bare : Bool) (w : List ℕ) (c : Option (List ℕ)) (e : Shape) (rest : Shapes) → spells_identifier w ≡ true → IsCast c → IsShape p e → AreShapes p rest → (bare ≡ false → c ≡ None → e ≡ named nothing (codes "this") → ⊥) → IsShape p (method_shape bare w (shapes c e rest))
unfolding IsShape IsBefore
method_shaped p true w c e rest h cast s all no_this = (tt, qualified_call w (one_word spells_identifier spells_identifier w h), all)
method_shaped p false w c e rest h cast s all no_this = (before_shaped p c e cast s, call_behind p c e w s (no_this refl) h, all)

pub field_shaped : (p : List ℕ) (left_out : Bool) (w : List ℕ) (c : Option (List ℕ)) (e : Shape) (rest : Shapes) → spells_identifier w ≡ true → IsCast c → IsShape p e → IsShape p (field_shape left_out w (shapes c e rest))
unfolding IsShape IsBefore
field_shaped p true w c e rest h cast s = (tt, qualified_name w (one_word spells_identifier spells_identifier w h))
field_shaped p false w c e rest h cast s = (before_shaped p c e cast s, name_behind p c e w s h)

pub literal_begins : (w : List ℕ) → has literals w ≡ true → begins_name w ≡ true
unfolding begins_name has
literal_begins w h = or_right (spells_identifier w) (has (codes "this" ∷ literals) w) (or_right (bytes_eq (codes "this") w) (has literals w) h)

pub name_shaped : (g : Parts) (s : List ℕ) → IsFormText g (Name s) → IsNamePath (chars s)
name_shaped g s (u, inl path) = qualified_name (chars s) (free_qualified (chars g.binder) (chars s) path)
name_shaped g s (u, inr lit) = one_word begins_name spells_identifier (chars s) (literal_begins (chars s) lit)

pub this_begins : begins_name (codes "this") ≡ true
unfolding begins_name has
this_begins = or_right (spells_identifier (codes "this")) (has (codes "this" ∷ literals) (codes "this")) refl

pub this_shaped : IsNamePath (codes "this")
this_shaped = one_word begins_name spells_identifier (codes "this") this_begins

pub variable_path : (g : Parts) (n : ℕ) → IsReadable g → n < 10 ^ 64 → IsNamePath (chars (variable_text g n))
variable_path g n r l = one_word begins_name spells_identifier (chars (variable_text g n)) (identifier_begins (chars (variable_text g n)) (variable_identifier g n r l))

pub binders_from : (g : Parts) → IsReadable g → (from count : ℕ) → from + count ≤ 10 ^ 64 → list_all (is_binder (chars g.binder)) (binder_shapes g from count) ≡ true
binders_from g r from zero l = refl
binders_from g r from (suc count) l = and_both (is_binder (chars g.binder) (chars (variable_text g from))) (list_all (is_binder (chars g.binder)) (binder_shapes g (from + 1) count)) (variable_binder g from r (omega (arith, l))) (binders_from g r (from + 1) count (omega (arith, l)))

pub bare_false : (a : Bool) (c : Option (List ℕ)) → (a && not (is_some c)) ≡ false → c ≡ None → a ≡ true → ⊥
bare_false true None e q t = false≢true (sym e)
bare_false false c e q t = false≢true t
bare_false true (Some k) e q t = cc

-- the shapes of the arguments of a head, and those of its form
pub head_shaped : (g : Parts) → IsValid g → IsReadable g → (ctx : List (List ℕ)) → IsContext ctx → (i : ℕ) (d : Decl) (k : Bool) (f : Form) (ws : List Arg) (xs : Args) → Heads g ctx i d k f ws xs → AreShort ws → AreShapes (chars g.binder) (shapes_in g ctx k xs ws) → IsShape (chars g.binder) (shape_head g ctx k f ws xs)
unfolding shapes_in shape_head IsShape IsBefore AreShapes
head_shaped g valid r ctx c i d k (Name s) ws xs h short all = (tt, name_shaped g s h.text)
head_shaped g valid r ctx c i d k This ws xs h short all = (tt, this_shaped)
head_shaped g valid r ctx c i d k (Call s) ws xs h short all = (tt, qualified_call (chars s) (free_qualified (chars g.binder) (chars s) h.text.1), all)
head_shaped g valid r ctx c i d k (New s) ws xs h short all = (tt, free_qualified (chars g.binder) (chars s) h.text.1, all)
head_shaped g valid r ctx c i d k (Method s) [] xs h short all = absurd (false≢true h.well_formed)
head_shaped g valid r ctx c i d k (Method s) (Fun ps q ∷ more) xs h short all = absurd (false≢true h.well_formed)
head_shaped g valid r ctx c i d k (Method s) (Plain b ∷ more) no_args h short all = absurd (no_fit-none_some g ctx (Plain b) more h.fit)
head_shaped g valid r ctx c i d k (Method s) (Plain b ∷ more) (lam e rest) h short all = absurd (no_fit-lam_plain g ctx e rest b more h.fit)
head_shaped g valid r ctx c i d k (Method s) (Plain b ∷ more) (plain e rest) h short all =
    method_shaped (chars g.binder) (is_this (head_decl g e) && not (is_some (cast_shape g k (type_in g ctx e) b))) (chars s) (cast_shape g k (type_in g ctx e) b) (shape_in g ctx e) (shapes_in g ctx k rest more)
    (free_identifier (chars g.binder) (chars s) h.text.1) all.0 all.1 all.2
    (λ bare none same. bare_false (is_this (head_decl g e)) (cast_shape g k (type_in g ctx e) b) bare none (looks_this g valid r ctx c e (below_typed g (type_in g ctx e) b (plain_fits g ctx e rest b more h.fit).0) same))
head_shaped g valid r ctx c i d k (Field s hidden) [] xs h short all = absurd (false≢true h.well_formed)
head_shaped g valid r ctx c i d k (Field s hidden) (Fun ps q ∷ more) xs h short all = absurd (false≢true h.well_formed)
head_shaped g valid r ctx c i d k (Field s hidden) (Plain b ∷ more) no_args h short all = absurd (no_fit-none_some g ctx (Plain b) more h.fit)
head_shaped g valid r ctx c i d k (Field s hidden) (Plain b ∷ more) (lam e rest) h short all = absurd (no_fit-lam_plain g ctx e rest b more h.fit)
head_shaped g valid r ctx c i d k (Field s hidden) (Plain b ∷ more) (plain e rest) h short all =
    field_shaped (chars g.binder) ((is_this (head_decl g e) && not (is_some (cast_shape g k (type_in g ctx e) b))) && not hidden) (chars s) (cast_shape g k (type_in g ctx e) b) (shape_in g ctx e) (shapes_in g ctx k rest more)
    (free_identifier (chars g.binder) (chars s) h.text.1) all.0 all.1
head_shaped g valid r ctx c i d k (Lambda s) [] xs h short all = absurd (false≢true h.well_formed)
head_shaped g valid r ctx c i d k (Lambda s) (Plain b ∷ more) xs h short all = absurd (false≢true h.well_formed)
head_shaped g valid r ctx c i d k (Lambda s) (Fun ps q ∷ more) no_args h short all = absurd (no_fit-none_some g ctx (Fun ps q) more h.fit)
head_shaped g valid r ctx c i d k (Lambda s) (Fun ps q ∷ more) (plain e rest) h short all = absurd (no_fit-plain_fun g ctx e rest ps q more h.fit)
head_shaped g valid r ctx c i d k (Lambda s) (Fun ps q ∷ more) (lam e rest) h short all =
    let few = few_variables ctx c in
    let row = short.0 in
    (free_qualified (chars g.binder) (chars s) h.text.1, binders_from g r (length (joined ctx)) (length ps) (omega (arith, few, row)), all.0, all.1)

-- casts
pub type_shaped : (g : Parts) (s : List ℕ) → IsTypeText g s → IsType (chars s)
type_shaped g s t = record { base = t.base; count = t.count; base_is = by_base t.base_is; is = t.is }
  where
    by_base : IsPath (is_free (chars g.binder)) (is_free (chars g.binder)) t.base ⊎ (has primitives t.base ≡ true) → IsQualified t.base ⊎ (has primitives t.base ≡ true)
    by_base (inl p) = inl (free_qualified (chars g.binder) t.base p)
    by_base (inr p) = inr p

abbrev cast_if : Parts → ℕ → Bool → Option (List ℕ)
cast_if g b x = if true && x then Some (type_text g b) else None

pub cast_by : (g : Parts) (b : ℕ) → IsTypeText g (type_text g b) → (x : Bool) → IsCast (option_map chars (cast_if g b x))
cast_by g b t true = type_shaped g (type_text g b) t
cast_by g b t false = tt

pub cast_shaped : (g : Parts) (crowded : Bool) (t : Option ℕ) (b : ℕ) → (crowded ≡ true → IsTypeText g (type_text g b)) → IsCast (cast_shape g crowded t b)
cast_shaped g true None b h = tt
cast_shaped g false t b h = tt
cast_shaped g true (Some a) b h = cast_by g b (h refl) (differs (Some a) b)

abbrev pub AreTypes : Parts → Bool → List Arg → Type 0
AreTypes g crowded ws = crowded ≡ true → (b : ℕ) → Wants ws b → IsTypeText g (type_text g b)

mutual
  unfolding shape_in shapes_in IsShape IsBefore AreShapes

  pub term_shaped : (g : Parts) → IsValid g → IsReadable g → HasShortRows g → (e : Expr) (ctx : List (List ℕ)) → IsContext ctx → type_in g ctx e ≢ None → IsShape (chars g.binder) (shape_in g ctx e)
  term_shaped g valid r short (var n) ctx c h = (tt, variable_path g n r (few_typed g ctx n c h))
  term_shaped g valid r short (head i xs) ctx c h =
      let o = opened g ctx i xs h in
      subst (IsShape (chars g.binder)) (sym (shaped g ctx i xs o))
      (head_shaped g valid r ctx c i o.decl o.decl.crowded o.decl.form o.decl.args xs (heads g valid r ctx i xs o) (short i o.decl o.declared)
      (args_shaped g valid r short xs ctx c o.decl.crowded o.decl.args (λ q b w. r.types i o.decl b o.declared q w) (short i o.decl o.declared) o.fit))

  args_shaped : (g : Parts) → IsValid g → IsReadable g → HasShortRows g → (xs : Args) (ctx : List (List ℕ)) → IsContext ctx → (crowded : Bool) (ws : List Arg) → AreTypes g crowded ws → AreShort ws → fits g ctx xs ws ≡ true → AreShapes (chars g.binder) (shapes_in g ctx crowded xs ws)
  args_shaped g valid r short no_args ctx c crowded ws t s h = tt
  args_shaped g valid r short (plain e rest) ctx c crowded [] t s h = absurd (no_fit-plain_none g ctx e rest h)
  args_shaped g valid r short (plain e rest) ctx c crowded (Fun ps q ∷ more) t s h = absurd (no_fit-plain_fun g ctx e rest ps q more h)
  args_shaped g valid r short (plain e rest) ctx c crowded (Plain b ∷ more) t s h =
      let k = plain_fits g ctx e rest b more h in (
        cast_shaped g crowded (type_in g ctx e) b (λ q. t q b (inl refl)),
        term_shaped g valid r short e ctx c (below_typed g (type_in g ctx e) b k.0),
        args_shaped g valid r short rest ctx c crowded more (λ q a w. t q a (inr w)) s k.1,
      )
  args_shaped g valid r short (lam e rest) ctx c crowded [] t s h = absurd (no_fit-lam_none g ctx e rest h)
  args_shaped g valid r short (lam e rest) ctx c crowded (Plain b ∷ more) t s h = absurd (no_fit-lam_plain g ctx e rest b more h)
  args_shaped g valid r short (lam e rest) ctx c crowded (Fun ps q ∷ more) t s h =
      let k = lam_fits g ctx e rest ps q more h in (
        cast_shaped g crowded (type_in g (ctx ++ ps ∷ []) e) q (λ z. t z q (inl refl)),
        term_shaped g valid r short e (ctx ++ ps ∷ []) (context_more ctx ps c k.room s.0) (below_typed g (type_in g (ctx ++ ps ∷ []) e) q k.body),
        args_shaped g valid r short rest ctx c crowded more (λ z a w. t z a (inr w)) s.1 k.others,
      )

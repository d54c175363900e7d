-- The terms of names and calls, by their heads.
use Rattle.std.proofs.Common.{◌≡◌, ◌∙◌, ap, sym, subst, refl, arith, ℕ, ◌&&◌, not, Bool, true, false, List, [], ◌∷◌, ◌++◌, length, Option, is_some, ◌⊎◌, inl, inr, codes, chars, IsUtf8}
use Rattle.std.proofs.lemmas.Bool.{false≢true}
use Rattle.terms.specs.Expr.{head, Args, no_args, plain, lam}
use Rattle.terms.specs.Typing.{type_in, joined}
use Rattle.terms.specs.Text.{is_this, head_decl}
use Rattle.terms.specs.declared.parts.Arg.{Arg}
use Rattle.terms.specs.declared.parts.Arg.TheVariants.{Plain, Fun}
use Rattle.terms.specs.declared.parts.Decl.{Decl}
use Rattle.terms.specs.declared.parts.Form.{Form}
use Rattle.terms.specs.declared.parts.Form.TheVariants as form
use Rattle.terms.specs.declared.parts.Parts.{Parts}
use Rattle.java_shapes.specs.Shape.{Shape, named, called, Before, nothing, fresh, Shapes, no_shapes, shapes}
use Rattle.java_shapes.specs.ShapeOf.{cast_shape, before_of, path_of, field_shape, binder_shapes, shape_in, shapes_in}
use Rattle.java_shapes.specs.Readable.{IsFormText, IsContext}
use Rattle.java_shapes.proofs.Typed.{below_typed, plain_fits, no_fit-none_some, no_fit-plain_fun, no_fit-lam_plain, Opened, typed_is}
use Rattle.java_shapes.proofs.WordFacts.{Lacks, identifier_dotless, free_identifier}
use Rattle.java_shapes.proofs.Shaped.{named_is, called_is, named_called, named_lambda, called_lambda, Heads, shape_head, method_not_named, looks_this}
use Rattle.java_shapes.proofs.Cut.{this_at}
use Rattle.java_shapes.proofs.Told.{same_bytes}
use Rattle.java_shapes.proofs.ToldPairs.{no_more}
use Rattle.java_resolve.specs.declared.heads.Kind.{Kind}
use Rattle.java_resolve.specs.declared.heads.Kind.TheVariants as kind
use Rattle.java_resolve.specs.Found.{accepts, accepts_field}
use Rattle.java_resolve.specs.Index.{with_key}
use Rattle.java_resolve.specs.Keys.{key}
use Rattle.java_resolve.specs.Reading.{some_kind, Headed, IsTellable, Site, IsSite, fields_of, methods_of}
use Rattle.java_resolve.proofs.Keys.{among_keys}
use Rattle.java_resolve.proofs.TextFacts.{this_chars, this_utf8}
use Rattle.java_resolve.proofs.Sites.{field_back, method_back}

-- a form of a kind, with its word and the shapes of its arguments
pub record Part (g : Parts) (ctx : List (List ℕ)) (crowded : Bool) (f : Form) (ws : List Arg) (xs : Args) (k : Kind) (word : List ℕ) (ss : Shapes) : Type 0 where
  pub accepted : accepts k f ≡ true
  pub word_is : chars (key f) ≡ word
  pub read : shapes_in g ctx crowded xs ws ≡ ss

accepts_form : (k : Kind) (s : List ℕ) (h : Bool) → accepts k (form.Field s h) ≡ accepts_field k h
accepts_form kind.Alone s h = refl
accepts_form kind.Call s h = refl
accepts_form kind.New s h = refl
accepts_form kind.Method s h = refl
accepts_form kind.ShownField s h = refl
accepts_form kind.HiddenField s h = refl
accepts_form kind.Field s h = refl
accepts_form kind.Lambda s h = refl
accepts_form kind.Never s h = refl

-- a name by its head
pub named_head : (g : Parts) → IsTellable g → (ctx : List (List ℕ)) → IsContext ctx → (site : Site) (b : Before) (t : List ℕ) (c : Option (List ℕ)) (e : Shape) (w : List ℕ) → IsSite site b t c e w → Lacks 46 w → (i : ℕ) (d : Decl) (k : Bool) (f : Form) (ws : List Arg) (xs : Args) → Heads g ctx i d k f ws xs → shape_head g ctx k f ws xs ≡ named b t
    → ((b ≡ nothing) × Part g ctx k f ws xs kind.Alone t no_shapes) ⊎ Part g ctx k f ws xs (fields_of site) w (shapes c e no_shapes)
unfolding shapes_in shape_head
named_head g good ctx ok site b t c e w s lw i d k (form.Name v) [] xs h q = let n = named_is nothing b (chars v) t q in inl (sym n.0, record { accepted = refl; word_is = n.1; read = no_more g ctx k xs h.fit })
named_head g good ctx ok site b t c e w s lw i d k (form.Name v) (x ∷ ws) xs h q = absurd (false≢true h.well_formed)
named_head g good ctx ok site b t c e w s lw i d k form.This [] xs h q = let n = named_is nothing b (codes "this") t q in inl (sym n.0, record { accepted = refl; word_is = this_chars ∙ n.1; read = no_more g ctx k xs h.fit })
named_head g good ctx ok site b t c e w s lw i d k form.This (x ∷ ws) xs h q = absurd (false≢true h.well_formed)
named_head g good ctx ok site b t c e w s lw i d k (form.Call v) ws xs h q = absurd (named_called b nothing t (chars v) (shapes_in g ctx k xs ws) (sym q))
named_head g good ctx ok site b t c e w s lw i d k (form.New v) ws xs h q = absurd (named_called b fresh t (chars v) (shapes_in g ctx k xs ws) (sym q))
named_head g good ctx ok site b t c e w s lw i d k (form.Method v) [] xs h q = absurd (false≢true h.well_formed)
named_head g good ctx ok site b t c e w s lw i d k (form.Method v) (Fun ps r ∷ more) xs h q = absurd (false≢true h.well_formed)
named_head g good ctx ok site b t c e w s lw i d k (form.Method v) (Plain a ∷ more) no_args h q = absurd (no_fit-none_some g ctx (Plain a) more h.fit)
named_head g good ctx ok site b t c e w s lw i d k (form.Method v) (Plain a ∷ more) (lam r rest) h q = absurd (no_fit-lam_plain g ctx r rest a more h.fit)
named_head g good ctx ok site b t c e w s lw i d k (form.Method v) (Plain a ∷ more) (plain r rest) h q =
    absurd (method_not_named (is_this (head_decl g r) && not (is_some (cast_shape g k (type_in g ctx r) a))) (chars v) (cast_shape g k (type_in g ctx r) a) (shape_in g ctx r) (shapes_in g ctx k rest more) b t q)
named_head g good ctx ok site b t c e w s lw i d k (form.Field v hidden) [] xs h q = absurd (false≢true h.well_formed)
named_head g good ctx ok site b t c e w s lw i d k (form.Field v hidden) (Fun ps r ∷ more) xs h q = absurd (false≢true h.well_formed)
named_head g good ctx ok site b t c e w s lw i d k (form.Field v hidden) (Plain a ∷ x ∷ more) xs h q = absurd (false≢true h.well_formed)
named_head g good ctx ok site b t c e w s lw i d k (form.Field v hidden) (Plain a ∷ []) no_args h q = absurd (no_fit-none_some g ctx (Plain a) [] h.fit)
named_head g good ctx ok site b t c e w s lw i d k (form.Field v hidden) (Plain a ∷ []) (lam r rest) h q = absurd (no_fit-lam_plain g ctx r rest a [] h.fit)
named_head g good ctx ok site b t c e w s lw i d k (form.Field v hidden) (Plain a ∷ []) (plain r rest) h q =
    let fit = plain_fits g ctx r rest a [] h.fit in
    let typed = below_typed g (type_in g ctx r) a fit.0 in
    let y = field_back site b t c e w s lw (cast_shape g k (type_in g ctx r) a) (shape_in g ctx r) (chars v) (shapes_in g ctx k rest []) (identifier_dotless (chars v) (free_identifier (chars g.binder) (chars v) h.text.1))
    (is_this (head_decl g r)) hidden ((is_this (head_decl g r) && not (is_some (cast_shape g k (type_in g ctx r) a))) && not hidden)
    (λ p. (this_at g ctx r p typed).shape) (looks_this g good.valid good.readable ctx ok r typed) refl q in
    inr (record {
      accepted = accepts_form (fields_of site) v hidden ∙ y.accepted;
      word_is = y.words;
      read = ap (λ x. shapes x (shape_in g ctx r) (shapes_in g ctx k rest [])) y.casts ∙ ap (λ x. shapes c x (shapes_in g ctx k rest [])) y.shapes ∙ ap (shapes c e) (no_more g ctx k rest fit.1);
    })
named_head g good ctx ok site b t c e w s lw i d k (form.Lambda v) [] xs h q = absurd (false≢true h.well_formed)
named_head g good ctx ok site b t c e w s lw i d k (form.Lambda v) (Plain a ∷ more) xs h q = absurd (false≢true h.well_formed)
named_head g good ctx ok site b t c e w s lw i d k (form.Lambda v) (Fun ps r ∷ more) no_args h q = absurd (no_fit-none_some g ctx (Fun ps r) more h.fit)
named_head g good ctx ok site b t c e w s lw i d k (form.Lambda v) (Fun ps r ∷ more) (plain y rest) h q = absurd (no_fit-plain_fun g ctx y rest ps r more h.fit)
named_head g good ctx ok site b t c e w s lw i d k (form.Lambda v) (Fun ps r ∷ more) (lam y rest) h q =
    absurd (named_lambda b t (chars v) (binder_shapes g (length (joined ctx)) (length ps)) (cast_shape g k (type_in g (ctx ++ ps ∷ []) y) r) (shape_in g (ctx ++ ps ∷ []) y) (sym q))

-- a call by its head
abbrev pub CallPart : Parts → List (List ℕ) → Before → List ℕ → Shapes → Bool → Form → List Arg → Args → Type 0
CallPart g ctx b t args k f ws xs = ((b ≡ nothing) × Part g ctx k f ws xs kind.Call t args) ⊎ ((b ≡ fresh) × Part g ctx k f ws xs kind.New t args)

pub called_head : (g : Parts) → IsTellable g → (ctx : List (List ℕ)) → IsContext ctx → (site : Site) (b : Before) (t : List ℕ) (args : Shapes) (c : Option (List ℕ)) (e : Shape) (w : List ℕ) → IsSite site b t c e w → Lacks 46 w → (i : ℕ) (d : Decl) (k : Bool) (f : Form) (ws : List Arg) (xs : Args) → Heads g ctx i d k f ws xs → shape_head g ctx k f ws xs ≡ called b t args
    → CallPart g ctx b t args k f ws xs ⊎ Part g ctx k f ws xs (methods_of site) w (shapes c e args)
unfolding shapes_in shape_head
called_head g good ctx ok site b t args c e w s lw i d k (form.Name v) ws xs h q = absurd (named_called nothing b (chars v) t args q)
called_head g good ctx ok site b t args c e w s lw i d k form.This ws xs h q = absurd (named_called nothing b (codes "this") t args q)
called_head g good ctx ok site b t args c e w s lw i d k (form.Call v) ws xs h q = let n = called_is nothing b (chars v) t (shapes_in g ctx k xs ws) args q in inl (inl (sym n.0, record { accepted = refl; word_is = n.1; read = n.2 }))
called_head g good ctx ok site b t args c e w s lw i d k (form.New v) ws xs h q = let n = called_is fresh b (chars v) t (shapes_in g ctx k xs ws) args q in inl (inr (sym n.0, record { accepted = refl; word_is = n.1; read = n.2 }))
called_head g good ctx ok site b t args c e w s lw i d k (form.Method v) [] xs h q = absurd (false≢true h.well_formed)
called_head g good ctx ok site b t args c e w s lw i d k (form.Method v) (Fun ps r ∷ more) xs h q = absurd (false≢true h.well_formed)
called_head g good ctx ok site b t args c e w s lw i d k (form.Method v) (Plain a ∷ more) no_args h q = absurd (no_fit-none_some g ctx (Plain a) more h.fit)
called_head g good ctx ok site b t args c e w s lw i d k (form.Method v) (Plain a ∷ more) (lam r rest) h q = absurd (no_fit-lam_plain g ctx r rest a more h.fit)
called_head g good ctx ok site b t args c e w s lw i d k (form.Method v) (Plain a ∷ more) (plain r rest) h q =
    let fit = plain_fits g ctx r rest a more h.fit in
    let typed = below_typed g (type_in g ctx r) a fit.0 in
    let y = method_back site b t args c e w s lw (cast_shape g k (type_in g ctx r) a) (shape_in g ctx r) (chars v) (shapes_in g ctx k rest more) (identifier_dotless (chars v) (free_identifier (chars g.binder) (chars v) h.text.1))
    (is_this (head_decl g r)) (is_this (head_decl g r) && not (is_some (cast_shape g k (type_in g ctx r) a)))
    (λ p. (this_at g ctx r p typed).shape) (looks_this g good.valid good.readable ctx ok r typed) refl q in
    inr (record {
      accepted = y.accepted v;
      word_is = y.words;
      read = ap (λ x. shapes x (shape_in g ctx r) (shapes_in g ctx k rest more)) y.casts ∙ ap (λ x. shapes c x (shapes_in g ctx k rest more)) y.shapes ∙ ap (shapes c e) y.others;
    })
called_head g good ctx ok site b t args c e w s lw i d k (form.Field v hidden) [] xs h q = absurd (false≢true h.well_formed)
called_head g good ctx ok site b t args c e w s lw i d k (form.Field v hidden) (Fun ps r ∷ more) xs h q = absurd (false≢true h.well_formed)
called_head g good ctx ok site b t args c e w s lw i d k (form.Field v hidden) (Plain a ∷ more) no_args h q = absurd (no_fit-none_some g ctx (Plain a) more h.fit)
called_head g good ctx ok site b t args c e w s lw i d k (form.Field v hidden) (Plain a ∷ more) (lam r rest) h q = absurd (no_fit-lam_plain g ctx r rest a more h.fit)
called_head g good ctx ok site b t args c e w s lw i d k (form.Field v hidden) (Plain a ∷ more) (plain r rest) h q =
    absurd (field_not_called ((is_this (head_decl g r) && not (is_some (cast_shape g k (type_in g ctx r) a))) && not hidden) (chars v) (cast_shape g k (type_in g ctx r) a) (shape_in g ctx r) (shapes_in g ctx k rest more) b t args q)
  where
    field_not_called : (left_out : Bool) (v : List ℕ) (c : Option (List ℕ)) (e : Shape) (rest : Shapes) (b : Before) (t : List ℕ) (args : Shapes) → field_shape left_out v (shapes c e rest) ≡ called b t args → ⊥
    field_not_called true v c e rest b t args q = named_called nothing b v t args q
    field_not_called false v c e rest b t args q = named_called (before_of c e) b (path_of c e v) t args q
called_head g good ctx ok site b t args c e w s lw i d k (form.Lambda v) [] xs h q = absurd (false≢true h.well_formed)
called_head g good ctx ok site b t args c e w s lw i d k (form.Lambda v) (Plain a ∷ more) xs h q = absurd (false≢true h.well_formed)
called_head g good ctx ok site b t args c e w s lw i d k (form.Lambda v) (Fun ps r ∷ more) no_args h q = absurd (no_fit-none_some g ctx (Fun ps r) more h.fit)
called_head g good ctx ok site b t args c e w s lw i d k (form.Lambda v) (Fun ps r ∷ more) (plain y rest) h q = absurd (no_fit-plain_fun g ctx y rest ps r more h.fit)
called_head g good ctx ok site b t args c e w s lw i d k (form.Lambda v) (Fun ps r ∷ more) (lam y rest) h q =
    absurd (called_lambda b t (chars v) args (binder_shapes g (length (joined ctx)) (length ps)) (cast_shape g k (type_in g (ctx ++ ps ∷ []) y) r) (shape_in g (ctx ++ ps ∷ []) y) (sym q))

-- words in UTF-8
pub key_utf8 : (g : Parts) (f : Form) → IsFormText g f → IsUtf8 (key f)
key_utf8 g (form.Name s) t = t.0
key_utf8 g form.This t = this_utf8
key_utf8 g (form.Call s) t = t.0
key_utf8 g (form.New s) t = t.0
key_utf8 g (form.Method s) t = t.0
key_utf8 g (form.Field s h) t = t.0
key_utf8 g (form.Lambda s) t = t.0

-- a term with such a head
pub headed_of : (g : Parts) → IsTellable g → (ctx : List (List ℕ)) (k : Kind) (bytes word : List ℕ) (ss : Shapes) (p : ℕ → Bool) → IsUtf8 bytes → chars bytes ≡ word → (i : ℕ) (xs : Args) (o : Opened g ctx i xs) → some_kind p (type_in g ctx (head i xs)) ≡ true → Part g ctx o.decl.crowded o.decl.form o.decl.args xs k word ss → Headed g ctx k (with_key 0 bytes g.decls) ss p (head i xs)
headed_of g good ctx k bytes word ss p u e i xs o kind part = record {
  number = i;
  args = xs;
  is = refl;
  among = among_keys 0 bytes g.decls i i o.decl (omega arith) o.declared (same_bytes (key o.decl.form) bytes (key_utf8 g o.decl.form (good.readable.forms i o.decl o.declared)) u (part.word_is ∙ sym e));
  decl = o.decl;
  declared = o.declared;
  accepted = part.accepted;
  kind = subst (λ z. some_kind p z ≡ true) (typed_is g ctx i xs o) kind;
  read = record { kinds = o.fit; shapes = part.read };
}

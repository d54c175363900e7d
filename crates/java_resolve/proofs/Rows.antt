-- Rows of names and calls.
use Rattle.std.proofs.Common.{◌≡◌, ◌≢◌, ◌∙◌, ap, sym, subst, refl, arith, ℕ, ◌&&◌, not, Bool, true, false, List, [], ◌∷◌, ◌++◌, length, slice_get, Option, Some, None, is_some, ◌⊎◌, inl, inr, codes, chars, IsUtf8}
use Rattle.std.proofs.lemmas.Bool.{false≢true}
use Rattle.terms.specs.Expr.{Expr, var, head, Args, no_args, plain, lam}
use Rattle.terms.specs.Typing.{type_in, fits, joined}
use Rattle.terms.specs.Faults.{are_plain}
use Rattle.terms.specs.Apart.{Declares}
use Rattle.terms.specs.Text.{variable_text, is_this, head_decl, parameters}
use Rattle.terms.specs.declared.parts.Arg.{Arg}
use Rattle.terms.specs.declared.parts.Arg.TheVariants.{Plain, Fun}
use Rattle.terms.specs.declared.parts.Decl.{Decl}
use Rattle.terms.specs.declared.parts.Form.{Form}
use Rattle.terms.specs.declared.parts.Form.TheVariants as form
use Rattle.terms.specs.declared.parts.Parts.{Parts}
use Rattle.java_shapes.specs.Shape.{Shape, named, called, Before, nothing, fresh, Shapes, no_shapes, shapes}
use Rattle.java_shapes.specs.ShapeOf.{cast_shape, before_of, path_of, method_shape, field_shape, form_shape, binder_shapes, is_first_this, shape_in, shapes_in}
use Rattle.java_shapes.specs.Readable.{IsContext}
use Rattle.java_shapes.proofs.Typed.{some_none, below_typed, formed, plain_fits, no_fit-plain_none, no_fit-lam_none, no_fit-none_some, no_fit-plain_fun, no_fit-lam_plain, Opened, opened, typed_is}
use Rattle.java_shapes.proofs.WordFacts.{Lacks}
use Rattle.java_shapes.proofs.Shaped.{named_is, called_is, shapes_is, named_called, called_lambda, Heads, heads, shape_head, shaped, looks_this, term_shaped}
use Rattle.java_shapes.proofs.ToldPairs.{not_fresh}
use Rattle.java_shapes.proofs.Cut.{this_at}
use Rattle.java_resolve.specs.declared.heads.Kind.{Kind}
use Rattle.java_resolve.specs.declared.heads.Kind.TheVariants as kind
use Rattle.java_resolve.specs.Found.{IsFound, Row, Spot, pick, accepts, accepts_field, headed_in}
use Rattle.java_resolve.specs.Index.{with_key}
use Rattle.java_resolve.specs.Keys.{key}
use Rattle.java_resolve.specs.Reading.{some_kind, Typed, IsRow, AreSpots, IsAmong, Headed, IsTellable, Site, first, after_this, after, this_shape, IsSite, fields_of, methods_of, IsVariable, IsVariableRow}
use Rattle.java_resolve.proofs.Algebra.{alike, rows_joined}
use Rattle.java_resolve.proofs.Heading.{IsPlainKind, plain_args, headed_right}
use Rattle.java_resolve.proofs.Keys.{keys_rise, keyed}
use Rattle.java_resolve.proofs.Sites.{field_fore, method_fore}
use Rattle.java_resolve.proofs.TextFacts.{this_chars}
use Rattle.java_resolve.proofs.Naming.{Part, named_head, called_head, headed_of}

-- the first of arguments
pub record First (g : Parts) (ctx : List (List ℕ)) (xs : Args) (e : Shape) : Type 0 where
  pub receiver : Expr
  pub others : Args
  pub is : xs ≡ plain receiver others
  pub typed : type_in g ctx receiver ≢ None
  pub shape : shape_in g ctx receiver ≡ e

no_shapes_left : (c : Option (List ℕ)) (e : Shape) (rest : Shapes) → no_shapes ≡ shapes c e rest → ⊥
no_shapes_left c e rest q = cc

first_plain : (g : Parts) (ctx : List (List ℕ)) (k : Bool) (ws : List Arg) (xs : Args) (c : Option (List ℕ)) (e : Shape) (rest : Shapes) → are_plain ws ≡ true → fits g ctx xs ws ≡ true → shapes_in g ctx k xs ws ≡ shapes c e rest → First g ctx xs e
unfolding shapes_in
first_plain g ctx k [] no_args c e rest p h q = absurd (no_shapes_left c e rest q)
first_plain g ctx k [] (plain r ys) c e rest p h q = absurd (no_fit-plain_none g ctx r ys h)
first_plain g ctx k [] (lam r ys) c e rest p h q = absurd (no_fit-lam_none g ctx r ys h)
first_plain g ctx k (Fun ps v ∷ ws) xs c e rest p h q = absurd (false≢true p)
first_plain g ctx k (Plain b ∷ ws) no_args c e rest p h q = absurd (no_fit-none_some g ctx (Plain b) ws h)
first_plain g ctx k (Plain b ∷ ws) (lam r ys) c e rest p h q = absurd (no_fit-lam_plain g ctx r ys b ws h)
first_plain g ctx k (Plain b ∷ ws) (plain r ys) c e rest p h q = record {
  receiver = r;
  others = ys;
  is = refl;
  typed = below_typed g (type_in g ctx r) b (plain_fits g ctx r ys b ws h).0;
  shape = (shapes_is (cast_shape g k (type_in g ctx r) b) c (shape_in g ctx r) e (shapes_in g ctx k ys ws) rest q).1;
}

first_to : (g : Parts) (ctx : List (List ℕ)) (xs : Args) (e : Shape) → First g ctx xs e → is_first_this g xs ≡ true → e ≡ this_shape
first_to g ctx xs e f t = sym f.shape ∙ (this_at g ctx f.receiver (sym (ap (is_first_this g) f.is) ∙ t) f.typed).shape

first_from : (g : Parts) → IsTellable g → (ctx : List (List ℕ)) → IsContext ctx → (xs : Args) (e : Shape) → First g ctx xs e → e ≡ this_shape → is_first_this g xs ≡ true
first_from g good ctx ok xs e f t = ap (is_first_this g) f.is ∙ looks_this g good.valid good.readable ctx ok f.receiver f.typed (f.shape ∙ t)

-- a head of a kind has the shape that its form has
pub form_by : (g : Parts) (ctx : List (List ℕ)) (k : Bool) (f : Form) (ws : List Arg) (xs : Args) (ss : Shapes) → shapes_in g ctx k xs ws ≡ ss → shape_head g ctx k f ws xs ≡ form_shape f (binder_shapes g (length (joined ctx)) (parameters ws)) (is_first_this g xs) ss
unfolding shape_head
form_by g ctx k f ws xs ss e = ap (form_shape f (binder_shapes g (length (joined ctx)) (parameters ws)) (is_first_this g xs)) e

same_keyed : (c d : Decl) → Some c ≡ Some d → c ≡ d
same_keyed c d e = cc

pub key_of : (g : Parts) (bytes : List ℕ) (n : ℕ) (d : Decl) → IsAmong (with_key 0 bytes g.decls) n → Declares g n d → key d.form ≡ bytes
key_of g bytes n d a at =
    let k = keyed 0 bytes g.decls n a in
    let same : k.place ≡ n = (let s = k.sum in omega (arith, s)) in
    ap (λ x. key x.form) (same_keyed d k.decl (sym at ∙ ap (slice_get g.decls) (sym same) ∙ k.declared)) ∙ k.key_is

head_typed : (g : Parts) (ctx : List (List ℕ)) (k : Kind) (bytes : List ℕ) (ss : Shapes) (p : ℕ → Bool) (s : Shape) (x : Expr) → (h : Headed g ctx k (with_key 0 bytes g.decls) ss p x) → ((bs : List (List ℕ)) → accepts k h.decl.form ≡ true → key h.decl.form ≡ bytes → form_shape h.decl.form bs (is_first_this g h.args) ss ≡ s) → Typed g ctx s p x
head_typed g ctx k bytes ss p s x h fore =
    let o : Opened g ctx h.number h.args = record { decl = h.decl; declared = h.declared; fit = h.read.kinds } in
    record {
      kind = subst (λ z. some_kind p (type_in g ctx z) ≡ true) (sym h.is) (subst (λ z. some_kind p z ≡ true) (sym (typed_is g ctx h.number h.args o)) h.kind);
      shape =
          ap (shape_in g ctx) h.is ∙ shaped g ctx h.number h.args o ∙ form_by g ctx h.decl.crowded h.decl.form h.decl.args h.args ss h.read.shapes
          ∙ fore (binder_shapes g (length (joined ctx)) (parameters h.decl.args)) h.accepted (key_of g bytes h.number h.decl h.among h.declared);
    }

-- forms by their kinds
alone_fore : (f : Form) (bs : List (List ℕ)) (this : Bool) (bytes t : List ℕ) → accepts kind.Alone f ≡ true → key f ≡ bytes → chars bytes ≡ t → form_shape f bs this no_shapes ≡ named nothing t
alone_fore (form.Name s) bs this bytes t a e c = ap (λ x. named nothing x) (ap chars e ∙ c)
alone_fore form.This bs this bytes t a e c = ap (λ x. named nothing x) (sym this_chars ∙ ap chars e ∙ c)
alone_fore (form.Call s) bs this bytes t a e c = absurd (false≢true a)
alone_fore (form.New s) bs this bytes t a e c = absurd (false≢true a)
alone_fore (form.Method s) bs this bytes t a e c = absurd (false≢true a)
alone_fore (form.Field s h) bs this bytes t a e c = absurd (false≢true a)
alone_fore (form.Lambda s) bs this bytes t a e c = absurd (false≢true a)

call_fore : (f : Form) (bs : List (List ℕ)) (this : Bool) (bytes t : List ℕ) (ss : Shapes) → accepts kind.Call f ≡ true → key f ≡ bytes → chars bytes ≡ t → form_shape f bs this ss ≡ called nothing t ss
call_fore (form.Call s) bs this bytes t ss a e c = ap (λ x. called nothing x ss) (ap chars e ∙ c)
call_fore (form.Name s) bs this bytes t ss a e c = absurd (false≢true a)
call_fore form.This bs this bytes t ss a e c = absurd (false≢true a)
call_fore (form.New s) bs this bytes t ss a e c = absurd (false≢true a)
call_fore (form.Method s) bs this bytes t ss a e c = absurd (false≢true a)
call_fore (form.Field s h) bs this bytes t ss a e c = absurd (false≢true a)
call_fore (form.Lambda s) bs this bytes t ss a e c = absurd (false≢true a)

pub new_fore : (f : Form) (bs : List (List ℕ)) (this : Bool) (bytes t : List ℕ) (ss : Shapes) → accepts kind.New f ≡ true → key f ≡ bytes → chars bytes ≡ t → form_shape f bs this ss ≡ called fresh t ss
new_fore (form.New s) bs this bytes t ss a e c = ap (λ x. called fresh x ss) (ap chars e ∙ c)
new_fore (form.Name s) bs this bytes t ss a e c = absurd (false≢true a)
new_fore form.This bs this bytes t ss a e c = absurd (false≢true a)
new_fore (form.Call s) bs this bytes t ss a e c = absurd (false≢true a)
new_fore (form.Method s) bs this bytes t ss a e c = absurd (false≢true a)
new_fore (form.Field s h) bs this bytes t ss a e c = absurd (false≢true a)
new_fore (form.Lambda s) bs this bytes t ss a e c = absurd (false≢true a)

-- fields and methods at a place
field_form : (site : Site) (f : Form) → accepts (fields_of site) f ≡ true → (v : List ℕ) × (h : Bool) × ((f ≡ form.Field v h) × (accepts_field (fields_of site) h ≡ true))
field_form first (form.Field s h) a = (s, h, (refl, a))
field_form first (form.Name s) a = absurd (false≢true a)
field_form first form.This a = absurd (false≢true a)
field_form first (form.Call s) a = absurd (false≢true a)
field_form first (form.New s) a = absurd (false≢true a)
field_form first (form.Method s) a = absurd (false≢true a)
field_form first (form.Lambda s) a = absurd (false≢true a)
field_form after_this (form.Field s h) a = (s, h, (refl, a))
field_form after_this (form.Name s) a = absurd (false≢true a)
field_form after_this form.This a = absurd (false≢true a)
field_form after_this (form.Call s) a = absurd (false≢true a)
field_form after_this (form.New s) a = absurd (false≢true a)
field_form after_this (form.Method s) a = absurd (false≢true a)
field_form after_this (form.Lambda s) a = absurd (false≢true a)
field_form after (form.Field s h) a = (s, h, (refl, a))
field_form after (form.Name s) a = absurd (false≢true a)
field_form after form.This a = absurd (false≢true a)
field_form after (form.Call s) a = absurd (false≢true a)
field_form after (form.New s) a = absurd (false≢true a)
field_form after (form.Method s) a = absurd (false≢true a)
field_form after (form.Lambda s) a = absurd (false≢true a)

method_form : (site : Site) (f : Form) → accepts (methods_of site) f ≡ true → (v : List ℕ) × ((f ≡ form.Method v) × (accepts (methods_of site) (form.Method v) ≡ true))
method_form first (form.Method s) a = (s, (refl, a))
method_form first (form.Name s) a = absurd (false≢true a)
method_form first form.This a = absurd (false≢true a)
method_form first (form.Call s) a = absurd (false≢true a)
method_form first (form.New s) a = absurd (false≢true a)
method_form first (form.Field s h) a = absurd (false≢true a)
method_form first (form.Lambda s) a = absurd (false≢true a)
method_form after_this (form.Method s) a = absurd (false≢true a)
method_form after_this (form.Name s) a = absurd (false≢true a)
method_form after_this form.This a = absurd (false≢true a)
method_form after_this (form.Call s) a = absurd (false≢true a)
method_form after_this (form.New s) a = absurd (false≢true a)
method_form after_this (form.Field s h) a = absurd (false≢true a)
method_form after_this (form.Lambda s) a = absurd (false≢true a)
method_form after (form.Method s) a = (s, (refl, a))
method_form after (form.Name s) a = absurd (false≢true a)
method_form after form.This a = absurd (false≢true a)
method_form after (form.Call s) a = absurd (false≢true a)
method_form after (form.New s) a = absurd (false≢true a)
method_form after (form.Field s h) a = absurd (false≢true a)
method_form after (form.Lambda s) a = absurd (false≢true a)

fields_plain : (site : Site) → IsPlainKind (fields_of site)
fields_plain first = tt
fields_plain after_this = tt
fields_plain after = tt

methods_plain : (site : Site) → IsPlainKind (methods_of site)
methods_plain first = tt
methods_plain after_this = tt
methods_plain after = tt

first_of_head : (g : Parts) → IsTellable g → (ctx : List (List ℕ)) (k : Kind) → IsPlainKind k → (ns : List ℕ) (c : Option (List ℕ)) (e : Shape) (rest : Shapes) (p : ℕ → Bool) (x : Expr) → (h : Headed g ctx k ns (shapes c e rest) p x) → First g ctx h.args e
first_of_head g good ctx k plain_kind ns c e rest p x h =
    first_plain g ctx h.decl.crowded h.decl.args h.args c e rest (plain_args k h.decl.form h.decl.args plain_kind h.accepted (formed g good.valid h.number h.decl h.declared)) h.read.kinds h.read.shapes

field_typed : (g : Parts) → IsTellable g → (ctx : List (List ℕ)) → IsContext ctx → (site : Site) (b : Before) (t : List ℕ) (c : Option (List ℕ)) (e : Shape) (w bytes : List ℕ) → IsSite site b t c e w → chars bytes ≡ w → (p : ℕ → Bool) (x : Expr) → Headed g ctx (fields_of site) (with_key 0 bytes g.decls) (shapes c e no_shapes) p x → Typed g ctx (named b t) p x
field_typed g good ctx ok site b t c e w bytes s u p x h =
    let f = first_of_head g good ctx (fields_of site) (fields_plain site) (with_key 0 bytes g.decls) c e no_shapes p x h in
    head_typed g ctx (fields_of site) bytes (shapes c e no_shapes) p (named b t) x h
    (λ bs a q.
    let v = field_form site h.decl.form a in
    ap (λ z. form_shape z bs (is_first_this g h.args) (shapes c e no_shapes)) v.2.0
    ∙ ap (λ z. field_shape ((is_first_this g h.args && not (is_some c)) && not v.1) z (shapes c e no_shapes)) (ap (λ z. chars (key z)) (sym v.2.0) ∙ ap chars q ∙ u)
    ∙ field_fore site b t c e w s no_shapes (is_first_this g h.args) v.1 (first_to g ctx h.args e f) (first_from g good ctx ok h.args e f) v.2.1)

method_typed : (g : Parts) → IsTellable g → (ctx : List (List ℕ)) → IsContext ctx → (site : Site) (b : Before) (t : List ℕ) (args : Shapes) (c : Option (List ℕ)) (e : Shape) (w bytes : List ℕ) → IsSite site b t c e w → chars bytes ≡ w → (p : ℕ → Bool) (x : Expr) → Headed g ctx (methods_of site) (with_key 0 bytes g.decls) (shapes c e args) p x → Typed g ctx (called b t args) p x
method_typed g good ctx ok site b t args c e w bytes s u p x h =
    let f = first_of_head g good ctx (methods_of site) (methods_plain site) (with_key 0 bytes g.decls) c e args p x h in
    head_typed g ctx (methods_of site) bytes (shapes c e args) p (called b t args) x h
    (λ bs a q.
    let v = method_form site h.decl.form a in
    ap (λ z. form_shape z bs (is_first_this g h.args) (shapes c e args)) v.1.0
    ∙ ap (λ z. method_shape (is_first_this g h.args && not (is_some c)) z (shapes c e args)) (ap (λ z. chars (key z)) (sym v.1.0) ∙ ap chars q ∙ u)
    ∙ method_fore site b t args c e w v.0 s (is_first_this g h.args) (first_to g ctx h.args e f) (first_from g good ctx ok h.args e f) v.1.1)

-- terms of names by their heads
pub typed_some : (p : ℕ → Bool) (t : Option ℕ) → some_kind p t ≡ true → t ≢ None
typed_some p None k e = false≢true k
typed_some p (Some a) k e = some_none a e

abbrev pub NameCases : Parts → List (List ℕ) → Site → Before → List ℕ → Option (List ℕ) → Shape → List ℕ → List ℕ → (ℕ → Bool) → Expr → Type 0
NameCases g ctx site b t c e tb wb p x = ((b ≡ nothing) × (Headed g ctx kind.Alone (with_key 0 tb g.decls) no_shapes p x ⊎ IsVariable g ctx t p x)) ⊎ Headed g ctx (fields_of site) (with_key 0 wb g.decls) (shapes c e no_shapes) p x

name_cases : (g : Parts) → IsTellable g → (ctx : List (List ℕ)) → IsContext ctx → (site : Site) (b : Before) (t : List ℕ) (c : Option (List ℕ)) (e : Shape) (w : List ℕ) → IsSite site b t c e w → Lacks 46 w → (tb wb : List ℕ) → IsUtf8 tb → IsUtf8 wb → chars tb ≡ t → chars wb ≡ w → (p : ℕ → Bool) (x : Expr) → Typed g ctx (named b t) p x → NameCases g ctx site b t c e tb wb p x
unfolding shape_in type_in
name_cases g good ctx ok site b t c e w s lw tb wb ut uw et ew p (var n) h =
    let q = named_is nothing b (chars (variable_text g n)) t h.shape in
    inl (sym q.0, inr (record { number = n; is = refl; kind = h.kind; text = q.1 }))
name_cases g good ctx ok site b t c e w s lw tb wb ut uw et ew p (head i xs) h = head_cases g good ctx ok site b t c e w s lw tb wb ut uw et ew p i xs (opened g ctx i xs (typed_some p (type_in g ctx (head i xs)) h.kind)) h
  where
    head_cases : (g : Parts) → IsTellable g → (ctx : List (List ℕ)) → IsContext ctx → (site : Site) (b : Before) (t : List ℕ) (c : Option (List ℕ)) (e : Shape) (w : List ℕ) → IsSite site b t c e w → Lacks 46 w → (tb wb : List ℕ) → IsUtf8 tb → IsUtf8 wb → chars tb ≡ t → chars wb ≡ w → (p : ℕ → Bool) (i : ℕ) (xs : Args) → (o : Opened g ctx i xs) → Typed g ctx (named b t) p (head i xs) → NameCases g ctx site b t c e tb wb p (head i xs)
    head_cases g good ctx ok site b t c e w s lw tb wb ut uw et ew p i xs o h =
        elim (named_head g good ctx ok site b t c e w s lw i o.decl o.decl.crowded o.decl.form o.decl.args xs (heads g good.valid good.readable ctx i xs o) (sym (shaped g ctx i xs o) ∙ h.shape)) [
          | inl a ↦ inl (a.0, inl (headed_of g good ctx kind.Alone tb t no_shapes p ut et i xs o h.kind a.1))
          | inr f ↦ inr (headed_of g good ctx (fields_of site) wb w (shapes c e no_shapes) p uw ew i xs o h.kind f)
        ]

-- a name behind a receiver
pub name_behind_row : (g : Parts) → IsTellable g → (ctx : List (List ℕ)) → IsContext ctx → (site : Site) (b : Before) (t : List ℕ) (c : Option (List ℕ)) (e : Shape) (w : List ℕ) → IsSite site b t c e w → Lacks 46 w → (b ≡ nothing → ⊥) → (tb wb : List ℕ) → IsUtf8 tb → IsUtf8 wb → chars tb ≡ t → chars wb ≡ w → (spot : Spot) → spot.cast ≡ c → IsRow g ctx e spot.row → IsRow g ctx (named b t) (headed_in g (fields_of site) (with_key 0 wb g.decls) (spot ∷ []))
name_behind_row g good ctx ok site b t c e w s lw n tb wb ut uw et ew spot cast row = λ p.
    alike (Headed g ctx (fields_of site) (with_key 0 wb g.decls) (shapes c e no_shapes) p) (Typed g ctx (named b t) p) (pick p (headed_in g (fields_of site) (with_key 0 wb g.decls) (spot ∷ [])))
    (field_typed g good ctx ok site b t c e w wb s ew p)
    (λ x h. elim (name_cases g good ctx ok site b t c e w s lw tb wb ut uw et ew p x h) [ inl a ↦ absurd (n a.0) | inr f ↦ f ])
    (headed_right g good.valid ctx (fields_of site) (fields_plain site) 0 (with_key 0 wb g.decls) (keys_rise 0 wb g.decls) (shapes c e no_shapes) (spot ∷ []) (cast, row, tt) p)

-- a name behind nothing
head_variable : (n m : ℕ) (xs : Args) → head n xs ≡ var m → ⊥
head_variable n m xs e = cc

same_number : (m n : ℕ) (xs ys : Args) → head m xs ≡ head n ys → m ≡ n
same_number m n xs ys e = cc

two_heads : (g : Parts) (ctx : List (List ℕ)) (k j : Kind) (ns ms : List ℕ) (ss rs : Shapes) (p : ℕ → Bool) (x : Expr) → (h : Headed g ctx k ns ss p x) → (l : Headed g ctx j ms rs p x) → h.decl ≡ l.decl
two_heads g ctx k j ns ms ss rs p x h l =
    let n = same_number h.number l.number h.args l.args (sym h.is ∙ l.is) in
    same_keyed h.decl l.decl (sym h.declared ∙ ap (slice_get g.decls) n ∙ l.declared)

alone_no_field : (site : Site) (f : Form) → accepts kind.Alone f ≡ true → accepts (fields_of site) f ≡ true → ⊥
alone_no_field site f a b = let v = field_form site f b in false≢true (subst (λ z. accepts kind.Alone z ≡ true) v.2.0 a)

call_no_method : (site : Site) (f : Form) → accepts kind.Call f ≡ true → accepts (methods_of site) f ≡ true → ⊥
call_no_method site f a b = let v = method_form site f b in false≢true (subst (λ z. accepts kind.Call z ≡ true) v.1.0 a)

variable_typed : (g : Parts) (ctx : List (List ℕ)) (t : List ℕ) (p : ℕ → Bool) (x : Expr) → IsVariable g ctx t p x → Typed g ctx (named nothing t) p x
unfolding type_in shape_in
variable_typed g ctx t p x v = record {
  kind = subst (λ z. some_kind p (type_in g ctx z) ≡ true) (sym v.is) v.kind;
  shape = ap (shape_in g ctx) v.is ∙ ap (λ z. named nothing z) v.text;
}

pub alone_typed : (g : Parts) (ctx : List (List ℕ)) (bytes t : List ℕ) → chars bytes ≡ t → (p : ℕ → Bool) (x : Expr) → Headed g ctx kind.Alone (with_key 0 bytes g.decls) no_shapes p x → Typed g ctx (named nothing t) p x
alone_typed g ctx bytes t u p x h = head_typed g ctx kind.Alone bytes no_shapes p (named nothing t) x h (λ bs a q. alone_fore h.decl.form bs (is_first_this g h.args) bytes t a q u)

abbrev IsAlone : Parts → List (List ℕ) → List ℕ → List ℕ → (ℕ → Bool) → Expr → Type 0
IsAlone g ctx t tb p x = Headed g ctx kind.Alone (with_key 0 tb g.decls) no_shapes p x ⊎ IsVariable g ctx t p x

alone_row : (g : Parts) → IsTellable g → (ctx : List (List ℕ)) (t tb : List ℕ) (vars : Row) → IsVariableRow g ctx t vars → (p : ℕ → Bool) → IsFound (IsAlone g ctx t tb p) (pick p (headed_in g kind.Alone (with_key 0 tb g.decls) [] ++ vars))
alone_row g good ctx t tb vars v p =
    rows_joined (Headed g ctx kind.Alone (with_key 0 tb g.decls) no_shapes p) (IsVariable g ctx t p) (IsAlone g ctx t tb p) p (headed_in g kind.Alone (with_key 0 tb g.decls) []) vars
    (λ x h. inl h) (λ x h. inr h) (λ x h. h) (λ x h l. head_variable h.number l.number h.args (sym h.is ∙ l.is))
    (headed_right g good.valid ctx kind.Alone tt 0 (with_key 0 tb g.decls) (keys_rise 0 tb g.decls) no_shapes [] tt p) (v p)

alone_is_typed : (g : Parts) (ctx : List (List ℕ)) (t tb : List ℕ) → chars tb ≡ t → (p : ℕ → Bool) (x : Expr) → IsAlone g ctx t tb p x → Typed g ctx (named nothing t) p x
alone_is_typed g ctx t tb u p x (inl h) = alone_typed g ctx tb t u p x h
alone_is_typed g ctx t tb u p x (inr v) = variable_typed g ctx t p x v

alone_apart : (g : Parts) (ctx : List (List ℕ)) (site : Site) (t tb ws : List ℕ) (ss : Shapes) (p : ℕ → Bool) (x : Expr) → IsAlone g ctx t tb p x → Headed g ctx (fields_of site) ws ss p x → ⊥
alone_apart g ctx site t tb ws ss p x (inl h) l = alone_no_field site l.decl.form (subst (λ z. accepts kind.Alone z.form ≡ true) (two_heads g ctx kind.Alone (fields_of site) (with_key 0 tb g.decls) ws no_shapes ss p x h l) h.accepted) l.accepted
alone_apart g ctx site t tb ws ss p x (inr v) l = head_variable l.number v.number l.args (sym l.is ∙ v.is)

name_parts : (g : Parts) (ctx : List (List ℕ)) (site : Site) (b : Before) (t : List ℕ) (c : Option (List ℕ)) (e : Shape) (tb wb : List ℕ) (p : ℕ → Bool) (x : Expr) → NameCases g ctx site b t c e tb wb p x → IsAlone g ctx t tb p x ⊎ Headed g ctx (fields_of site) (with_key 0 wb g.decls) (shapes c e no_shapes) p x
name_parts g ctx site b t c e tb wb p x (inl a) = inl a.1
name_parts g ctx site b t c e tb wb p x (inr f) = inr f

pub bare_name_row : (g : Parts) → IsTellable g → (ctx : List (List ℕ)) → IsContext ctx → (site : Site) (t : List ℕ) (c : Option (List ℕ)) (e : Shape) (w : List ℕ) → IsSite site nothing t c e w → Lacks 46 w → (tb wb : List ℕ) → IsUtf8 tb → IsUtf8 wb → chars tb ≡ t → chars wb ≡ w → (spot : Spot) → spot.cast ≡ c → IsRow g ctx e spot.row → (vars : Row) → IsVariableRow g ctx t vars
    → IsRow g ctx (named nothing t) ((headed_in g kind.Alone (with_key 0 tb g.decls) [] ++ vars) ++ headed_in g (fields_of site) (with_key 0 wb g.decls) (spot ∷ []))
bare_name_row g good ctx ok site t c e w s lw tb wb ut uw et ew spot cast row vars v = λ p.
    rows_joined (IsAlone g ctx t tb p) (Headed g ctx (fields_of site) (with_key 0 wb g.decls) (shapes c e no_shapes) p) (Typed g ctx (named nothing t) p) p (headed_in g kind.Alone (with_key 0 tb g.decls) [] ++ vars) (headed_in g (fields_of site) (with_key 0 wb g.decls) (spot ∷ []))
    (alone_is_typed g ctx t tb et p) (field_typed g good ctx ok site nothing t c e w wb s ew p)
    (λ x h. name_parts g ctx site nothing t c e tb wb p x (name_cases g good ctx ok site nothing t c e w s lw tb wb ut uw et ew p x h))
    (λ x h l. alone_apart g ctx site t tb (with_key 0 wb g.decls) (shapes c e no_shapes) p x h l)
    (alone_row g good ctx t tb vars v p)
    (headed_right g good.valid ctx (fields_of site) (fields_plain site) 0 (with_key 0 wb g.decls) (keys_rise 0 wb g.decls) (shapes c e no_shapes) (spot ∷ []) (cast, row, tt) p)

-- calls
call_typed : (g : Parts) (ctx : List (List ℕ)) (bytes t : List ℕ) (args : Shapes) → chars bytes ≡ t → (p : ℕ → Bool) (x : Expr) → Headed g ctx kind.Call (with_key 0 bytes g.decls) args p x → Typed g ctx (called nothing t args) p x
call_typed g ctx bytes t args u p x h = head_typed g ctx kind.Call bytes args p (called nothing t args) x h (λ bs a q. call_fore h.decl.form bs (is_first_this g h.args) bytes t args a q u)

variable_no_call : (g : Parts) (ctx : List (List ℕ)) (b : Before) (t : List ℕ) (args : Shapes) (p : ℕ → Bool) (n : ℕ) → Typed g ctx (called b t args) p (var n) → ⊥
unfolding shape_in
variable_no_call g ctx b t args p n h = named_called nothing b (chars (variable_text g n)) t args h.shape

abbrev pub CallCases : Parts → List (List ℕ) → Site → Before → Shapes → Option (List ℕ) → Shape → List ℕ → List ℕ → (ℕ → Bool) → Expr → Type 0
CallCases g ctx site b args c e tb wb p x = (((b ≡ nothing) × Headed g ctx kind.Call (with_key 0 tb g.decls) args p x) ⊎ ((b ≡ fresh) × Headed g ctx kind.New (with_key 0 tb g.decls) args p x)) ⊎ Headed g ctx (methods_of site) (with_key 0 wb g.decls) (shapes c e args) p x

head_calls : (g : Parts) → IsTellable g → (ctx : List (List ℕ)) → IsContext ctx → (site : Site) (b : Before) (t : List ℕ) (args : Shapes) (c : Option (List ℕ)) (e : Shape) (w : List ℕ) → IsSite site b t c e w → Lacks 46 w → (tb wb : List ℕ) → IsUtf8 tb → IsUtf8 wb → chars tb ≡ t → chars wb ≡ w → (p : ℕ → Bool) (i : ℕ) (xs : Args) → (o : Opened g ctx i xs) → Typed g ctx (called b t args) p (head i xs) → CallCases g ctx site b args c e tb wb p (head i xs)
head_calls g good ctx ok site b t args c e w s lw tb wb ut uw et ew p i xs o h =
    elim (called_head g good ctx ok site b t args c e w s lw i o.decl o.decl.crowded o.decl.form o.decl.args xs (heads g good.valid good.readable ctx i xs o) (sym (shaped g ctx i xs o) ∙ h.shape)) [
      | inl a ↦ (elim a [
        | inl y ↦ inl (inl (y.0, headed_of g good ctx kind.Call tb t args p ut et i xs o h.kind y.1))
        | inr y ↦ inl (inr (y.0, headed_of g good ctx kind.New tb t args p ut et i xs o h.kind y.1))
      ])
      | inr f ↦ inr (headed_of g good ctx (methods_of site) wb w (shapes c e args) p uw ew i xs o h.kind f)
    ]

call_cases : (g : Parts) → IsTellable g → (ctx : List (List ℕ)) → IsContext ctx → (site : Site) (b : Before) (t : List ℕ) (args : Shapes) (c : Option (List ℕ)) (e : Shape) (w : List ℕ) → IsSite site b t c e w → Lacks 46 w → (tb wb : List ℕ) → IsUtf8 tb → IsUtf8 wb → chars tb ≡ t → chars wb ≡ w → (p : ℕ → Bool) (x : Expr) → Typed g ctx (called b t args) p x → CallCases g ctx site b args c e tb wb p x
call_cases g good ctx ok site b t args c e w s lw tb wb ut uw et ew p (var n) h = absurd (variable_no_call g ctx b t args p n h)
call_cases g good ctx ok site b t args c e w s lw tb wb ut uw et ew p (head i xs) h = head_calls g good ctx ok site b t args c e w s lw tb wb ut uw et ew p i xs (opened g ctx i xs (typed_some p (type_in g ctx (head i xs)) h.kind)) h

pub call_behind_row : (g : Parts) → IsTellable g → (ctx : List (List ℕ)) → IsContext ctx → (site : Site) (b : Before) (t : List ℕ) (args : Shapes) (c : Option (List ℕ)) (e : Shape) (w : List ℕ) → IsSite site b t c e w → Lacks 46 w → (b ≡ nothing → ⊥) → (b ≡ fresh → ⊥) → (tb wb : List ℕ) → IsUtf8 tb → IsUtf8 wb → chars tb ≡ t → chars wb ≡ w → (spot : Spot) (spots : List Spot) → spot.cast ≡ c → IsRow g ctx e spot.row → AreSpots g ctx args spots → IsRow g ctx (called b t args) (headed_in g (methods_of site) (with_key 0 wb g.decls) (spot ∷ spots))
call_behind_row g good ctx ok site b t args c e w s lw n m tb wb ut uw et ew spot spots cast row all = λ p.
    alike (Headed g ctx (methods_of site) (with_key 0 wb g.decls) (shapes c e args) p) (Typed g ctx (called b t args) p) (pick p (headed_in g (methods_of site) (with_key 0 wb g.decls) (spot ∷ spots)))
    (method_typed g good ctx ok site b t args c e w wb s ew p)
    (λ x h. elim (call_cases g good ctx ok site b t args c e w s lw tb wb ut uw et ew p x h) [ inl a ↦ (elim a [ inl y ↦ absurd (n y.0) | inr y ↦ absurd (m y.0) ]) | inr f ↦ f ])
    (headed_right g good.valid ctx (methods_of site) (methods_plain site) 0 (with_key 0 wb g.decls) (keys_rise 0 wb g.decls) (shapes c e args) (spot ∷ spots) (cast, row, all) p)

no_fresh_nothing : nothing ≡ fresh → ⊥
no_fresh_nothing e = cc

pub bare_call_row : (g : Parts) → IsTellable g → (ctx : List (List ℕ)) → IsContext ctx → (site : Site) (t : List ℕ) (args : Shapes) (c : Option (List ℕ)) (e : Shape) (w : List ℕ) → IsSite site nothing t c e w → Lacks 46 w → (tb wb : List ℕ) → IsUtf8 tb → IsUtf8 wb → chars tb ≡ t → chars wb ≡ w → (spot : Spot) (spots : List Spot) → spot.cast ≡ c → IsRow g ctx e spot.row → AreSpots g ctx args spots
    → IsRow g ctx (called nothing t args) (headed_in g kind.Call (with_key 0 tb g.decls) spots ++ headed_in g (methods_of site) (with_key 0 wb g.decls) (spot ∷ spots))
bare_call_row g good ctx ok site t args c e w s lw tb wb ut uw et ew spot spots cast row all = λ p.
    rows_joined (Headed g ctx kind.Call (with_key 0 tb g.decls) args p) (Headed g ctx (methods_of site) (with_key 0 wb g.decls) (shapes c e args) p) (Typed g ctx (called nothing t args) p) p (headed_in g kind.Call (with_key 0 tb g.decls) spots) (headed_in g (methods_of site) (with_key 0 wb g.decls) (spot ∷ spots))
    (call_typed g ctx tb t args et p) (method_typed g good ctx ok site nothing t args c e w wb s ew p)
    (λ x h. elim (call_cases g good ctx ok site nothing t args c e w s lw tb wb ut uw et ew p x h) [ inl a ↦ (elim a [ inl y ↦ inl y.1 | inr y ↦ absurd (no_fresh_nothing y.0) ]) | inr f ↦ inr f ])
    (λ x h l. call_no_method site l.decl.form (subst (λ z. accepts kind.Call z.form ≡ true) (two_heads g ctx kind.Call (methods_of site) (with_key 0 tb g.decls) (with_key 0 wb g.decls) args (shapes c e args) p x h l) h.accepted) l.accepted)
    (headed_right g good.valid ctx kind.Call tt 0 (with_key 0 tb g.decls) (keys_rise 0 tb g.decls) args spots all p)
    (headed_right g good.valid ctx (methods_of site) (methods_plain site) 0 (with_key 0 wb g.decls) (keys_rise 0 wb g.decls) (shapes c e args) (spot ∷ spots) (cast, row, all) p)

-- creations
nothing_fresh : nothing ≡ fresh → ⊥
nothing_fresh e = cc

method_not_new : (g : Parts) → IsTellable g → (ctx : List (List ℕ)) → IsContext ctx → (flag : Bool) (v t : List ℕ) (c : Option (List ℕ)) (r : Expr) (rest args : Shapes) → type_in g ctx r ≢ None → method_shape flag v (shapes c (shape_in g ctx r) rest) ≡ called fresh t args → ⊥
method_not_new g good ctx ok true v t c r rest args typed q = nothing_fresh (called_is nothing fresh v t rest args q).0
method_not_new g good ctx ok false v t c r rest args typed q =
    not_fresh (chars g.binder) c (shape_in g ctx r) (term_shaped g good.valid good.readable good.short r ctx ok typed) (called_is (before_of c (shape_in g ctx r)) fresh (path_of c (shape_in g ctx r) v) t rest args q).0

field_not_new : (left_out : Bool) (v t : List ℕ) (c : Option (List ℕ)) (e : Shape) (rest args : Shapes) → field_shape left_out v (shapes c e rest) ≡ called fresh t args → ⊥
field_not_new true v t c e rest args q = named_called nothing fresh v t args q
field_not_new false v t c e rest args q = named_called (before_of c e) fresh (path_of c e v) t args q

new_head : (g : Parts) → IsTellable g → (ctx : List (List ℕ)) → IsContext ctx → (t : List ℕ) (args : Shapes) (i : ℕ) (d : Decl) (k : Bool) (f : Form) (ws : List Arg) (xs : Args) → Heads g ctx i d k f ws xs → shape_head g ctx k f ws xs ≡ called fresh t args → Part g ctx k f ws xs kind.New t args
unfolding shapes_in shape_head
new_head g good ctx ok t args i d k (form.Name v) ws xs h q = absurd (named_called nothing fresh (chars v) t args q)
new_head g good ctx ok t args i d k form.This ws xs h q = absurd (named_called nothing fresh (codes "this") t args q)
new_head g good ctx ok t args i d k (form.Call v) ws xs h q = absurd (nothing_fresh (called_is nothing fresh (chars v) t (shapes_in g ctx k xs ws) args q).0)
new_head g good ctx ok t args i d k (form.New v) ws xs h q = let n = called_is fresh fresh (chars v) t (shapes_in g ctx k xs ws) args q in record { accepted = refl; word_is = n.1; read = n.2 }
new_head g good ctx ok t args i d k (form.Method v) [] xs h q = absurd (false≢true h.well_formed)
new_head g good ctx ok t args i d k (form.Method v) (Fun ps r ∷ more) xs h q = absurd (false≢true h.well_formed)
new_head g good ctx ok t args i d k (form.Method v) (Plain a ∷ more) no_args h q = absurd (no_fit-none_some g ctx (Plain a) more h.fit)
new_head g good ctx ok t args i d k (form.Method v) (Plain a ∷ more) (lam r rest) h q = absurd (no_fit-lam_plain g ctx r rest a more h.fit)
new_head g good ctx ok t args i d k (form.Method v) (Plain a ∷ more) (plain r rest) h q =
    absurd (method_not_new g good ctx ok (is_this (head_decl g r) && not (is_some (cast_shape g k (type_in g ctx r) a))) (chars v) t (cast_shape g k (type_in g ctx r) a) r (shapes_in g ctx k rest more) args (below_typed g (type_in g ctx r) a (plain_fits g ctx r rest a more h.fit).0) q)
new_head g good ctx ok t args i d k (form.Field v hidden) [] xs h q = absurd (false≢true h.well_formed)
new_head g good ctx ok t args i d k (form.Field v hidden) (Fun ps r ∷ more) xs h q = absurd (false≢true h.well_formed)
new_head g good ctx ok t args i d k (form.Field v hidden) (Plain a ∷ more) no_args h q = absurd (no_fit-none_some g ctx (Plain a) more h.fit)
new_head g good ctx ok t args i d k (form.Field v hidden) (Plain a ∷ more) (lam r rest) h q = absurd (no_fit-lam_plain g ctx r rest a more h.fit)
new_head g good ctx ok t args i d k (form.Field v hidden) (Plain a ∷ more) (plain r rest) h q =
    absurd (field_not_new ((is_this (head_decl g r) && not (is_some (cast_shape g k (type_in g ctx r) a))) && not hidden) (chars v) t (cast_shape g k (type_in g ctx r) a) (shape_in g ctx r) (shapes_in g ctx k rest more) args q)
new_head g good ctx ok t args i d k (form.Lambda v) [] xs h q = absurd (false≢true h.well_formed)
new_head g good ctx ok t args i d k (form.Lambda v) (Plain a ∷ more) xs h q = absurd (false≢true h.well_formed)
new_head g good ctx ok t args i d k (form.Lambda v) (Fun ps r ∷ more) no_args h q = absurd (no_fit-none_some g ctx (Fun ps r) more h.fit)
new_head g good ctx ok t args i d k (form.Lambda v) (Fun ps r ∷ more) (plain y rest) h q = absurd (no_fit-plain_fun g ctx y rest ps r more h.fit)
new_head g good ctx ok t args i d k (form.Lambda v) (Fun ps r ∷ more) (lam y rest) h q =
    absurd (called_lambda fresh t (chars v) args (binder_shapes g (length (joined ctx)) (length ps)) (cast_shape g k (type_in g (ctx ++ ps ∷ []) y) r) (shape_in g (ctx ++ ps ∷ []) y) (sym q))

new_typed : (g : Parts) (ctx : List (List ℕ)) (bytes t : List ℕ) (args : Shapes) → chars bytes ≡ t → (p : ℕ → Bool) (x : Expr) → Headed g ctx kind.New (with_key 0 bytes g.decls) args p x → Typed g ctx (called fresh t args) p x
new_typed g ctx bytes t args u p x h = head_typed g ctx kind.New bytes args p (called fresh t args) x h (λ bs a q. new_fore h.decl.form bs (is_first_this g h.args) bytes t args a q u)

new_by : (g : Parts) → IsTellable g → (ctx : List (List ℕ)) → IsContext ctx → (t : List ℕ) (args : Shapes) (tb : List ℕ) → IsUtf8 tb → chars tb ≡ t → (p : ℕ → Bool) (i : ℕ) (xs : Args) → (o : Opened g ctx i xs) → Typed g ctx (called fresh t args) p (head i xs) → Headed g ctx kind.New (with_key 0 tb g.decls) args p (head i xs)
new_by g good ctx ok t args tb ut et p i xs o h =
    headed_of g good ctx kind.New tb t args p ut et i xs o h.kind (new_head g good ctx ok t args i o.decl o.decl.crowded o.decl.form o.decl.args xs (heads g good.valid good.readable ctx i xs o) (sym (shaped g ctx i xs o) ∙ h.shape))

new_cases : (g : Parts) → IsTellable g → (ctx : List (List ℕ)) → IsContext ctx → (t : List ℕ) (args : Shapes) (tb : List ℕ) → IsUtf8 tb → chars tb ≡ t → (p : ℕ → Bool) (x : Expr) → Typed g ctx (called fresh t args) p x → Headed g ctx kind.New (with_key 0 tb g.decls) args p x
new_cases g good ctx ok t args tb ut et p (var n) h = absurd (variable_no_call g ctx fresh t args p n h)
new_cases g good ctx ok t args tb ut et p (head i xs) h = new_by g good ctx ok t args tb ut et p i xs (opened g ctx i xs (typed_some p (type_in g ctx (head i xs)) h.kind)) h

pub new_call_row : (g : Parts) → IsTellable g → (ctx : List (List ℕ)) → IsContext ctx → (t : List ℕ) (args : Shapes) (tb : List ℕ) → IsUtf8 tb → chars tb ≡ t → (spots : List Spot) → AreSpots g ctx args spots → IsRow g ctx (called fresh t args) (headed_in g kind.New (with_key 0 tb g.decls) spots)
new_call_row g good ctx ok t args tb ut et spots all = λ p.
    alike (Headed g ctx kind.New (with_key 0 tb g.decls) args p) (Typed g ctx (called fresh t args) p) (pick p (headed_in g kind.New (with_key 0 tb g.decls) spots))
    (new_typed g ctx tb t args et p) (new_cases g good ctx ok t args tb ut et p)
    (headed_right g good.valid ctx kind.New tt 0 (with_key 0 tb g.decls) (keys_rise 0 tb g.decls) args spots all p)

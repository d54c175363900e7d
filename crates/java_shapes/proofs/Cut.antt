-- A name with dots begins with no name and with no field of a bare `this`.
use Rattle.std.proofs.Common.{◌≡◌, ◌≢◌, ◌∙◌, ap, ap₂, sym, subst, refl, ℕ, ◌&&◌, not, Bool, true, false, List, [], ◌∷◌, ◌++◌, length, Some, None, is_some, codes, chars, encode_utf8_all, IsUtf8, append_assoc}
use Rattle.std.proofs.lemmas.Bool.{false≢true, and_parts}
use Rattle.std.proofs.lemmas.Str.{encodes-append, encodes-chars}
use Rattle.terms.specs.Expr.{Expr, var, head, Args, no_args, plain, lam}
use Rattle.terms.specs.Typing.{type_in, fits, joined, some_below}
use Rattle.terms.specs.Faults.{IsValid}
use Rattle.terms.specs.Apart.{Declares, IsDotted, IsOf, IsOwnField, IsToldApart}
use Rattle.terms.specs.Text.{variable_text, is_this, is_this_form, head_decl}
use Rattle.terms.specs.declared.parts.Parts.{Parts}
use Rattle.terms.specs.declared.parts.Decl.{Decl}
use Rattle.terms.specs.declared.parts.Arg.{Arg}
use Rattle.terms.specs.declared.parts.Arg.TheVariants.{Plain, Fun}
use Rattle.terms.specs.declared.parts.Form.{Form}
use Rattle.terms.specs.declared.parts.Form.TheVariants.{Name, This, Call, New, Method, Field, Lambda}
use Rattle.java_shapes.specs.Words.{IsPath}
use Rattle.java_shapes.specs.Shape.{named, nothing, fresh, shapes}
use Rattle.java_shapes.specs.ShapeOf.{cast_shape, before_of, path_of, field_shape, binder_shapes, shape_in, shapes_in}
use Rattle.java_shapes.specs.Readable.{is_free, IsReadable, IsContext}
use Rattle.java_shapes.proofs.Encoding.{enc_dot}
use Rattle.java_shapes.proofs.Typed.{below_typed, plain_fits, no_fit-none_some, no_fit-plain_fun, no_fit-lam_plain, few_typed, opened, typed_is}
use Rattle.java_shapes.proofs.WordFacts.{identifier_not_this, free_identifier, variable_not_free, variable_dotless, first_cut}
use Rattle.java_shapes.proofs.Shaped.{named_is, named_called, named_lambda, nothing_left, path_left, Heads, heads, shape_head, shaped, method_not_named}

-- a receiver that is `this`
pub record ThisAt (g : Parts) (ctx : List (List ℕ)) (e : Expr) : Type 0 where
  pub number : ℕ
  pub decl : Decl
  pub declared : Declares g number decl
  pub is_this : decl.form ≡ This
  pub kind : type_in g ctx e ≡ Some decl.result
  pub shape : shape_in g ctx e ≡ named nothing (codes "this")

this_form : (f : Form) → is_this_form f ≡ true → f ≡ This
this_form (Name s) e = absurd (false≢true e)
this_form This e = refl
this_form (Call s) e = absurd (false≢true e)
this_form (New s) e = absurd (false≢true e)
this_form (Method s) e = absurd (false≢true e)
this_form (Field s h) e = absurd (false≢true e)
this_form (Lambda s) e = absurd (false≢true e)

this_shape : (g : Parts) (ctx : List (List ℕ)) (k : Bool) (f : Form) (ws : List Arg) (xs : Args) → f ≡ This → shape_head g ctx k f ws xs ≡ named nothing (codes "this")
unfolding shape_head
this_shape g ctx k f ws xs e = rw e refl

pub this_at : (g : Parts) (ctx : List (List ℕ)) (e : Expr) → is_this (head_decl g e) ≡ true → type_in g ctx e ≢ None → ThisAt g ctx e
this_at g ctx (var n) t h = absurd (false≢true t)
this_at g ctx (head j ys) t h =
    let o = opened g ctx j ys h in
    let f : o.decl.form ≡ This = this_form o.decl.form (subst (λ x. is_this x ≡ true) o.declared t) in
    record { number = j; decl = o.decl; declared = o.declared; is_this = f; kind = typed_is g ctx j ys o; shape = shaped g ctx j ys o ∙ this_shape g ctx o.decl.crowded o.decl.form o.decl.args ys f }

-- a field of `this`
pub own_field : (g : Parts) (ctx : List (List ℕ)) (i : ℕ) (d : Decl) (k : Bool) (s : List ℕ) (hidden : Bool) (b : ℕ) (more : List Arg) (e : Expr) (rest : Args) → Heads g ctx i d k (Field s hidden) (Plain b ∷ more) (plain e rest) → is_this (head_decl g e) ≡ true → IsOwnField g d s hidden
own_field g ctx i d k s hidden b more e rest h t =
    let below = (plain_fits g ctx e rest b more h.fit).0 in
    let a = this_at g ctx e t (below_typed g (type_in g ctx e) b below) in
    record { form = h.form; owner = b; receiver = subst (λ x. IsOf x b) (sym h.args) refl; number = a.number; this = a.decl; declared = a.declared; is_this = a.is_this; below = subst (λ x. some_below g x b ≡ true) a.kind below }

-- bytes of a text that is cut before a dot
pub cut_bytes : (s front r : List ℕ) → IsUtf8 s → IsUtf8 front → chars s ≡ chars front ++ 46 ∷ r → s ≡ front ++ 46 ∷ encode_utf8_all r
cut_bytes s front r u v e =
    sym (encodes-chars s u) ∙ ap encode_utf8_all e ∙ encodes-append (chars front) (46 ∷ r)
    ∙ ap₂ (λ x y. x ++ y) (encodes-chars front v) (encodes-append (46 ∷ []) r ∙ ap (λ x. x ++ encode_utf8_all r) enc_dot)

-- the text that is cut: of a name or a call, and of free words
pub record IsCut (g : Parts) (i : ℕ) (d : Decl) (s : List ℕ) : Type 0 where
  pub declared : Declares g i d
  pub dotted : (t : List ℕ) → s ≡ t → IsDotted d.form t
  pub utf8 : IsUtf8 s
  pub path : IsPath (is_free (chars g.binder)) (is_free (chars g.binder)) (chars s)

-- by the form of the head before the dot; `further` is the same for its receiver
cut_field : (g : Parts) → IsToldApart g → (ctx : List (List ℕ)) (i : ℕ) (d : Decl) (s : List ℕ) → IsCut g i d s → (j : ℕ) (c : Decl) (k : Bool) (w : List ℕ) (hidden : Bool) (b : ℕ) (more : List Arg) (e : Expr) (rest : Args) → Heads g ctx j c k (Field w hidden) (Plain b ∷ more) (plain e rest)
    → (flag : Bool) → (is_this (head_decl g e) && not (is_some (cast_shape g k (type_in g ctx e) b))) && not hidden ≡ flag → (t r : List ℕ) → field_shape flag (chars w) (shapes (cast_shape g k (type_in g ctx e) b) (shape_in g ctx e) (shapes_in g ctx k rest more)) ≡ named nothing t → chars s ≡ t ++ 46 ∷ r
    → ((u q : List ℕ) → shape_in g ctx e ≡ named nothing u → chars s ≡ u ++ 46 ∷ q → ⊥) → ⊥
cut_field g told ctx i d s cut j c k w hidden b more e rest h true flag t r q is further =
    let same = (named_is nothing nothing (chars w) t q).1 in
    let bytes = cut_bytes s w r cut.utf8 h.text.0 (is ∙ ap (λ x. x ++ 46 ∷ r) (sym same)) in
    let parts = and_parts (is_this (head_decl g e) && not (is_some (cast_shape g k (type_in g ctx e) b))) (not hidden) flag in
    let own = own_field g ctx j c k w hidden b more e rest h (and_parts (is_this (head_decl g e)) (not (is_some (cast_shape g k (type_in g ctx e) b))) parts.0).0 in
    told.no_field_before_a_dot i j d c w (encode_utf8_all r) hidden cut.declared h.declared (cut.dotted (w ++ 46 ∷ encode_utf8_all r) bytes) own
cut_field g told ctx i d s cut j c k w hidden b more e rest h false flag t r q is further =
    let both = named_is (before_of (cast_shape g k (type_in g ctx e) b) (shape_in g ctx e)) nothing (path_of (cast_shape g k (type_in g ctx e) b) (shape_in g ctx e) (chars w)) t q in
    let n = nothing_left (cast_shape g k (type_in g ctx e) b) (shape_in g ctx e) both.0 in
    let path = sym (path_left (cast_shape g k (type_in g ctx e) b) (shape_in g ctx e) (chars w) n) ∙ both.1 in
    further n.text (chars w ++ 46 ∷ r) n.is (is ∙ ap (λ x. x ++ 46 ∷ r) (sym path) ∙ append_assoc n.text (46 ∷ chars w) (46 ∷ r))

cut_form : (g : Parts) → IsToldApart g → (ctx : List (List ℕ)) (i : ℕ) (d : Decl) (s : List ℕ) → IsCut g i d s → (j : ℕ) (c : Decl) (k : Bool) (f : Form) (ws : List Arg) (ys : Args) → Heads g ctx j c k f ws ys → (t r : List ℕ) → shape_head g ctx k f ws ys ≡ named nothing t → chars s ≡ t ++ 46 ∷ r
    → ((e : Expr) (rest : Args) (b : ℕ) (more : List Arg) → ys ≡ plain e rest → ws ≡ Plain b ∷ more → (u q : List ℕ) → shape_in g ctx e ≡ named nothing u → chars s ≡ u ++ 46 ∷ q → ⊥) → ⊥
unfolding shapes_in shape_head
cut_form g told ctx i d s cut j c k (Name w) ws ys h t r q is further =
    let same = (named_is nothing nothing (chars w) t q).1 in
    let bytes = cut_bytes s w r cut.utf8 h.text.0 (is ∙ ap (λ x. x ++ 46 ∷ r) (sym same)) in
    told.no_name_before_a_dot i j d c w (encode_utf8_all r) cut.declared h.declared (cut.dotted (w ++ 46 ∷ encode_utf8_all r) bytes) h.form
cut_form g told ctx i d s cut j c k This ws ys h t r q is further =
    let same = (named_is nothing nothing (codes "this") t q).1 in
    let first = first_cut (chars g.binder) (chars s) cut.path (codes "this") r refl (is ∙ ap (λ x. x ++ 46 ∷ r) (sym same)) in
    identifier_not_this cut.path.first (free_identifier (chars g.binder) cut.path.first cut.path.first_is) first
cut_form g told ctx i d s cut j c k (Call w) ws ys h t r q is further = named_called nothing nothing t (chars w) (shapes_in g ctx k ys ws) (sym q)
cut_form g told ctx i d s cut j c k (New w) ws ys h t r q is further = named_called nothing fresh t (chars w) (shapes_in g ctx k ys ws) (sym q)
cut_form g told ctx i d s cut j c k (Method w) [] ys h t r q is further = false≢true h.well_formed
cut_form g told ctx i d s cut j c k (Method w) (Fun ps v ∷ more) ys h t r q is further = false≢true h.well_formed
cut_form g told ctx i d s cut j c k (Method w) (Plain b ∷ more) no_args h t r q is further = no_fit-none_some g ctx (Plain b) more h.fit
cut_form g told ctx i d s cut j c k (Method w) (Plain b ∷ more) (lam e rest) h t r q is further = no_fit-lam_plain g ctx e rest b more h.fit
cut_form g told ctx i d s cut j c k (Method w) (Plain b ∷ more) (plain e rest) h t r q is further =
    method_not_named (is_this (head_decl g e) && not (is_some (cast_shape g k (type_in g ctx e) b))) (chars w) (cast_shape g k (type_in g ctx e) b) (shape_in g ctx e) (shapes_in g ctx k rest more) nothing t q
cut_form g told ctx i d s cut j c k (Field w hidden) [] ys h t r q is further = false≢true h.well_formed
cut_form g told ctx i d s cut j c k (Field w hidden) (Fun ps v ∷ more) ys h t r q is further = false≢true h.well_formed
cut_form g told ctx i d s cut j c k (Field w hidden) (Plain b ∷ more) no_args h t r q is further = no_fit-none_some g ctx (Plain b) more h.fit
cut_form g told ctx i d s cut j c k (Field w hidden) (Plain b ∷ more) (lam e rest) h t r q is further = no_fit-lam_plain g ctx e rest b more h.fit
cut_form g told ctx i d s cut j c k (Field w hidden) (Plain b ∷ more) (plain e rest) h t r q is further =
    cut_field g told ctx i d s cut j c k w hidden b more e rest h ((is_this (head_decl g e) && not (is_some (cast_shape g k (type_in g ctx e) b))) && not hidden) refl t r q is (further e rest b more refl refl)
cut_form g told ctx i d s cut j c k (Lambda w) [] ys h t r q is further = false≢true h.well_formed
cut_form g told ctx i d s cut j c k (Lambda w) (Plain b ∷ more) ys h t r q is further = false≢true h.well_formed
cut_form g told ctx i d s cut j c k (Lambda w) (Fun ps v ∷ more) no_args h t r q is further = no_fit-none_some g ctx (Fun ps v) more h.fit
cut_form g told ctx i d s cut j c k (Lambda w) (Fun ps v ∷ more) (plain e rest) h t r q is further = no_fit-plain_fun g ctx e rest ps v more h.fit
cut_form g told ctx i d s cut j c k (Lambda w) (Fun ps v ∷ more) (lam e rest) h t r q is further =
    named_lambda nothing t (chars w) (binder_shapes g (length (joined ctx)) (length ps)) (cast_shape g k (type_in g (ctx ++ ps ∷ []) e) v) (shape_in g (ctx ++ ps ∷ []) e) (sym q)

pub first_same : (x e : Expr) (xs rest : Args) → plain x xs ≡ plain e rest → x ≡ e
first_same x e xs rest z = cc

no_plain-none : (e : Expr) (rest : Args) → no_args ≡ plain e rest → ⊥
no_plain-none e rest z = cc

no_plain-lam : (x e : Expr) (xs rest : Args) → lam x xs ≡ plain e rest → ⊥
no_plain-lam x e xs rest z = cc

mutual
  unfolding shape_in

  pub cut : (g : Parts) → IsValid g → IsReadable g → IsToldApart g → (ctx : List (List ℕ)) → IsContext ctx → (i : ℕ) (d : Decl) (s : List ℕ) → IsCut g i d s → (e : Expr) → type_in g ctx e ≢ None → (t r : List ℕ) → shape_in g ctx e ≡ named nothing t → chars s ≡ t ++ 46 ∷ r → ⊥
  cut g valid read told ctx c i d s k (var n) h t r q is =
      let same = (named_is nothing nothing (chars (variable_text g n)) t q).1 in
      let small = few_typed g ctx n c h in
      let first = first_cut (chars g.binder) (chars s) k.path (chars (variable_text g n)) r (variable_dotless g n read small) (is ∙ ap (λ x. x ++ 46 ∷ r) (sym same)) in
      variable_not_free g n k.path.first read small k.path.first_is (sym first)
  cut g valid read told ctx c i d s k (head j ys) h t r q is =
      let o = opened g ctx j ys h in
      cut_form g told ctx i d s k j o.decl o.decl.crowded o.decl.form o.decl.args ys (heads g valid read ctx j ys o) t r (sym (shaped g ctx j ys o) ∙ q) is
      (λ e rest b more z w u p x y. cut_args g valid read told ctx c i d s k ys e rest b more z (subst (λ v. fits g ctx ys v ≡ true) w o.fit) u p x y)

  cut_args : (g : Parts) → IsValid g → IsReadable g → IsToldApart g → (ctx : List (List ℕ)) → IsContext ctx → (i : ℕ) (d : Decl) (s : List ℕ) → IsCut g i d s → (ys : Args) (e : Expr) (rest : Args) (b : ℕ) (more : List Arg) → ys ≡ plain e rest → fits g ctx ys (Plain b ∷ more) ≡ true → (u q : List ℕ) → shape_in g ctx e ≡ named nothing u → chars s ≡ u ++ 46 ∷ q → ⊥
  cut_args g valid read told ctx c i d s k no_args e rest b more z fit u q x y = no_plain-none e rest z
  cut_args g valid read told ctx c i d s k (lam f ys) e rest b more z fit u q x y = no_plain-lam f e ys rest z
  cut_args g valid read told ctx c i d s k (plain f ys) e rest b more z fit u q x y =
      cut g valid read told ctx c i d s k f (below_typed g (type_in g ctx f) b (plain_fits g ctx f ys b more fit).0) u q (ap (shape_in g ctx) (first_same f e ys rest z) ∙ x) y

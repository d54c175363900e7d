-- Where declarations are told apart, so are well typed terms by their shapes.
use Rattle.std.proofs.Common.{◌≡◌, ◌≢◌, ◌∙◌, ap, ap₂, sym, subst, refl, ℕ, ◌<◌, ◌^◌, ◌&&◌, not, Bool, true, false, List, [], ◌∷◌, ◌++◌, length, slice_get, Option, Some, None, is_some, codes, chars}
use Rattle.std.proofs.lemmas.Bool.{false≢true}
use Rattle.terms.specs.Expr.{Expr, var, head, Args, no_args, plain, lam}
use Rattle.terms.specs.Typing.{type_in, fits, joined}
use Rattle.terms.specs.Faults.{is_well_formed, IsValid}
use Rattle.terms.specs.Apart.{Declares, HasReceiver, IsToldApart}
use Rattle.terms.specs.Text.{variable_text, is_this, head_decl}
use Rattle.terms.specs.declared.parts.Parts.{Parts}
use Rattle.terms.specs.declared.parts.Decl.{Decl}
use Rattle.terms.specs.declared.parts.Arg.{Arg}
use Rattle.terms.specs.declared.parts.Arg.TheVariants.{Plain, Fun}
use Rattle.terms.specs.declared.parts.Form.{Form}
use Rattle.terms.specs.declared.parts.Form.TheVariants.{Name, This, Call, New, Method, Field, Lambda}
use Rattle.java_shapes.specs.Shape.{Shape, named, called, lambda, nothing, fresh, Shapes, no_shapes, shapes}
use Rattle.java_shapes.specs.ShapeOf.{cast_shape, method_shape, field_shape, binder_shapes, shape_in, shapes_in}
use Rattle.java_shapes.specs.Readable.{IsReadable, AreShort, HasShortRows, IsContext}
use Rattle.java_shapes.proofs.Typed.{below_typed, plain_fits, lam_fits, no_fit-plain_none, no_fit-lam_none, no_fit-none_some, no_fit-plain_fun, no_fit-lam_plain, few_typed, context_more, opened}
use Rattle.java_shapes.proofs.WordFacts.{free_identifier, variable_not_this, same_variable}
use Rattle.java_shapes.proofs.Shaped.{named_is, called_is, lambda_is, shapes_is, Heads, heads, shape_head, shaped, name_not_this, term_shaped}
use Rattle.java_shapes.proofs.Told.{same_bytes, same_heads, receiver_wanted}
use Rattle.java_shapes.proofs.ToldPairs.{var_name, name_field_by, var_field_by, this_field_by, no_args-of, call_method_by, new_method_by, not_fresh, SameRows, ArgsTold, alike_told, told_methods, told_fields}

-- heads with a receiver, and lambdas
received : (g : Parts) (ctx : List (List ℕ)) (j : ℕ) (d : Decl) (l : Bool) (f : Form) (ws : List Arg) (ys : Args) → HasReceiver f → Heads g ctx j d l f ws ys → (P : List Arg → Args → Type 0) → ((b : ℕ) (more : List Arg) (e : Expr) (rest : Args) → Heads g ctx j d l f (Plain b ∷ more) (plain e rest) → P (Plain b ∷ more) (plain e rest)) → P ws ys
received g ctx j d l f ws ys r h P make =
    let p = receiver_wanted f ws r h.well_formed in
    subst (λ z. P z ys) (sym p.2) (by_args ys (subst (λ z. Heads g ctx j d l f z ys) p.2 h))
  where
    by_args : (zs : Args) → Heads g ctx j d l f (Plain (receiver_wanted f ws r h.well_formed).0 ∷ (receiver_wanted f ws r h.well_formed).1) zs → P (Plain (receiver_wanted f ws r h.well_formed).0 ∷ (receiver_wanted f ws r h.well_formed).1) zs
    by_args no_args k = absurd (no_fit-none_some g ctx (Plain (receiver_wanted f ws r h.well_formed).0) (receiver_wanted f ws r h.well_formed).1 k.fit)
    by_args (lam e rest) k = absurd (no_fit-lam_plain g ctx e rest (receiver_wanted f ws r h.well_formed).0 (receiver_wanted f ws r h.well_formed).1 k.fit)
    by_args (plain e rest) k = make (receiver_wanted f ws r h.well_formed).0 (receiver_wanted f ws r h.well_formed).1 e rest k

lambda_received : (g : Parts) (ctx : List (List ℕ)) (j : ℕ) (d : Decl) (l : Bool) (s : List ℕ) (ws : List Arg) (ys : Args) → Heads g ctx j d l (Lambda s) ws ys → (P : List Arg → Args → Type 0) → ((ps : List ℕ) (r : ℕ) (e : Expr) → Heads g ctx j d l (Lambda s) (Fun ps r ∷ []) (lam e no_args) → P (Fun ps r ∷ []) (lam e no_args)) → P ws ys
lambda_received g ctx j d l s [] ys h P make = absurd (false≢true h.well_formed)
lambda_received g ctx j d l s (Plain b ∷ more) ys h P make = absurd (false≢true h.well_formed)
lambda_received g ctx j d l s (Fun ps r ∷ c ∷ more) ys h P make = absurd (false≢true h.well_formed)
lambda_received g ctx j d l s (Fun ps r ∷ []) no_args h P make = absurd (no_fit-none_some g ctx (Fun ps r) [] h.fit)
lambda_received g ctx j d l s (Fun ps r ∷ []) (plain e rest) h P make = absurd (no_fit-plain_fun g ctx e rest ps r [] h.fit)
lambda_received g ctx j d l s (Fun ps r ∷ []) (lam e no_args) h P make = make ps r e h
lambda_received g ctx j d l s (Fun ps r ∷ []) (lam e (plain f rest)) h P make = absurd (no_fit-plain_none g ctx f rest (lam_fits g ctx e (plain f rest) ps r [] h.fit).others)
lambda_received g ctx j d l s (Fun ps r ∷ []) (lam e (lam f rest)) h P make = absurd (no_fit-lam_none g ctx f rest (lam_fits g ctx e (lam f rest) ps r [] h.fit).others)

-- names, calls and lambdas have shapes of three kinds
data Kind : Type 0 where
  of_name : Kind
  of_call : Kind
  of_lambda : Kind

abbrev shape_kind : Shape → Kind
shape_kind (named b t) = of_name
shape_kind (called b t xs) = of_call
shape_kind (lambda s bs c e) = of_lambda

abbrev form_kind : Form → Kind
form_kind (Name s) = of_name
form_kind This = of_name
form_kind (Call s) = of_call
form_kind (New s) = of_call
form_kind (Method s) = of_call
form_kind (Field s h) = of_name
form_kind (Lambda s) = of_lambda

method_kind : (bare : Bool) (w : List ℕ) (c : Option (List ℕ)) (e : Shape) (rest : Shapes) → shape_kind (method_shape bare w (shapes c e rest)) ≡ of_call
method_kind true w c e rest = refl
method_kind false w c e rest = refl

field_kind : (flag : Bool) (w : List ℕ) (c : Option (List ℕ)) (e : Shape) (rest : Shapes) → shape_kind (field_shape flag w (shapes c e rest)) ≡ of_name
field_kind true w c e rest = refl
field_kind false w c e rest = refl

kind_right : (g : Parts) (ctx : List (List ℕ)) (j : ℕ) (d : Decl) (l : Bool) (f : Form) (ws : List Arg) (ys : Args) → Heads g ctx j d l f ws ys → shape_kind (shape_head g ctx l f ws ys) ≡ form_kind f
unfolding shapes_in shape_head
kind_right g ctx j d l (Name s) ws ys h = refl
kind_right g ctx j d l This ws ys h = refl
kind_right g ctx j d l (Call s) ws ys h = refl
kind_right g ctx j d l (New s) ws ys h = refl
kind_right g ctx j d l (Method s) ws ys h = received g ctx j d l (Method s) ws ys tt h (λ us zs. shape_kind (shape_head g ctx l (Method s) us zs) ≡ of_call)
    (λ b more e rest k. method_kind (is_this (head_decl g e) && not (is_some (cast_shape g l (type_in g ctx e) b))) (chars s) (cast_shape g l (type_in g ctx e) b) (shape_in g ctx e) (shapes_in g ctx l rest more))
kind_right g ctx j d l (Field s hidden) ws ys h = received g ctx j d l (Field s hidden) ws ys tt h (λ us zs. shape_kind (shape_head g ctx l (Field s hidden) us zs) ≡ of_name)
    (λ b more e rest k. field_kind ((is_this (head_decl g e) && not (is_some (cast_shape g l (type_in g ctx e) b))) && not hidden) (chars s) (cast_shape g l (type_in g ctx e) b) (shape_in g ctx e) (shapes_in g ctx l rest more))
kind_right g ctx j d l (Lambda s) ws ys h = lambda_received g ctx j d l s ws ys h (λ us zs. shape_kind (shape_head g ctx l (Lambda s) us zs) ≡ of_lambda) (λ ps r e k. refl)

name_call : of_name ≡ of_call → ⊥
name_call e = cc

name_lambda : of_name ≡ of_lambda → ⊥
name_lambda e = cc

call_lambda : of_call ≡ of_lambda → ⊥
call_lambda e = cc

kinds : (g : Parts) (ctx : List (List ℕ)) (i j : ℕ) (c d : Decl) (k l : Bool) (f h : Form) (bs cs : List Arg) (xs ys : Args) → Heads g ctx i c k f bs xs → Heads g ctx j d l h cs ys → shape_head g ctx k f bs xs ≡ shape_head g ctx l h cs ys → form_kind f ≡ form_kind h
kinds g ctx i j c d k l f h bs cs xs ys a b q = sym (kind_right g ctx i c k f bs xs a) ∙ ap shape_kind q ∙ kind_right g ctx j d l h cs ys b

-- one kind, two forms
name_field : (g : Parts) → IsValid g → IsReadable g → IsToldApart g → (ctx : List (List ℕ)) → IsContext ctx → (i j : ℕ) (c d : Decl) (k l : Bool) (s w : List ℕ) (hidden : Bool) (bs cs : List Arg) (xs ys : Args) → Heads g ctx i c k (Name s) bs xs → Heads g ctx j d l (Field w hidden) cs ys → shape_head g ctx k (Name s) bs xs ≡ shape_head g ctx l (Field w hidden) cs ys → ⊥
unfolding shapes_in shape_head
name_field g valid read told ctx x i j c d k l s w hidden bs cs xs ys a h q =
    received g ctx j d l (Field w hidden) cs ys tt h (λ us zs. shape_head g ctx k (Name s) bs xs ≡ shape_head g ctx l (Field w hidden) us zs → ⊥)
    (λ b more e rest m z. name_field_by g valid read told ctx x i j c d k l s w hidden bs b more xs e rest a m ((is_this (head_decl g e) && not (is_some (cast_shape g l (type_in g ctx e) b))) && not hidden) refl z) q

this_field : (g : Parts) (ctx : List (List ℕ)) (j : ℕ) (d : Decl) (l : Bool) (w : List ℕ) (hidden : Bool) (cs : List Arg) (ys : Args) → Heads g ctx j d l (Field w hidden) cs ys → named nothing (codes "this") ≡ shape_head g ctx l (Field w hidden) cs ys → ⊥
unfolding shapes_in shape_head
this_field g ctx j d l w hidden cs ys h q =
    received g ctx j d l (Field w hidden) cs ys tt h (λ us zs. named nothing (codes "this") ≡ shape_head g ctx l (Field w hidden) us zs → ⊥)
    (λ b more e rest m z. this_field_by (chars w) (free_identifier (chars g.binder) (chars w) h.text.1) (cast_shape g l (type_in g ctx e) b) (shape_in g ctx e) (shapes_in g ctx l rest more) ((is_this (head_decl g e) && not (is_some (cast_shape g l (type_in g ctx e) b))) && not hidden) z) q

call_method : (g : Parts) → IsValid g → IsReadable g → IsToldApart g → (ctx : List (List ℕ)) → IsContext ctx → (i j : ℕ) (c d : Decl) (k l : Bool) (s w : List ℕ) (bs cs : List Arg) (xs ys : Args) → Heads g ctx i c k (Call s) bs xs → Heads g ctx j d l (Method w) cs ys → shape_head g ctx k (Call s) bs xs ≡ shape_head g ctx l (Method w) cs ys → ⊥
unfolding shapes_in shape_head
call_method g valid read told ctx x i j c d k l s w bs cs xs ys a h q =
    received g ctx j d l (Method w) cs ys tt h (λ us zs. shape_head g ctx k (Call s) bs xs ≡ shape_head g ctx l (Method w) us zs → ⊥)
    (λ b more e rest m z. call_method_by g valid read told ctx x i j c d k l s w bs b more xs e rest (shapes_in g ctx k xs bs) a m (is_this (head_decl g e) && not (is_some (cast_shape g l (type_in g ctx e) b))) refl z) q

new_method : (g : Parts) → IsValid g → IsReadable g → HasShortRows g → (ctx : List (List ℕ)) → IsContext ctx → (i j : ℕ) (c d : Decl) (k l : Bool) (s w : List ℕ) (bs cs : List Arg) (xs ys : Args) → Heads g ctx i c k (New s) bs xs → Heads g ctx j d l (Method w) cs ys → shape_head g ctx k (New s) bs xs ≡ shape_head g ctx l (Method w) cs ys → ⊥
unfolding shapes_in shape_head
new_method g valid read short ctx x i j c d k l s w bs cs xs ys a h q =
    received g ctx j d l (Method w) cs ys tt h (λ us zs. shape_head g ctx k (New s) bs xs ≡ shape_head g ctx l (Method w) us zs → ⊥)
    (λ b more e rest m z. new_method_by (cast_shape g l (type_in g ctx e) b) (shape_in g ctx e) (shapes_in g ctx l rest more) (shapes_in g ctx k xs bs) (chars s) (chars w)
    (not_fresh (chars g.binder) (cast_shape g l (type_in g ctx e) b) (shape_in g ctx e) (term_shaped g valid read short e ctx x (below_typed g (type_in g ctx e) b (plain_fits g ctx e rest b more m.fit).0)))
    (is_this (head_decl g e) && not (is_some (cast_shape g l (type_in g ctx e) b))) z) q

-- names and `this` want nothing
none_wanted-name : (s : List ℕ) (ws : List Arg) → is_well_formed (Name s) ws ≡ true → ws ≡ []
none_wanted-name s [] h = refl
none_wanted-name s (w ∷ ws) h = absurd (false≢true h)

none_wanted-this : (ws : List Arg) → is_well_formed This ws ≡ true → ws ≡ []
none_wanted-this [] h = refl
none_wanted-this (w ∷ ws) h = absurd (false≢true h)

no_args-by : (g : Parts) (ctx : List (List ℕ)) (xs : Args) (ws : List Arg) → ws ≡ [] → fits g ctx xs ws ≡ true → xs ≡ no_args
no_args-by g ctx xs ws e h = no_args-of g ctx xs (subst (λ z. fits g ctx xs z ≡ true) e h)

-- lambdas
one_decl : (g : Parts) (i j : ℕ) (c d : Decl) → i ≡ j → Declares g i c → Declares g j d → c ≡ d
one_decl g i j c d e a b = some_decl (sym a ∙ ap (slice_get g.decls) e ∙ b)
  where
    some_decl : Some c ≡ Some d → c ≡ d
    some_decl z = cc

same_row : (ps qs : List ℕ) (r u : ℕ) → Fun ps r ∷ [] ≡ Fun qs u ∷ [] → ps ≡ qs
same_row ps qs r u e = cc

told_lambdas_by : (g : Parts) → HasShortRows g → IsReadable g → IsToldApart g → (ctx : List (List ℕ)) (i j : ℕ) (c d : Decl) (k l : Bool) (s t : List ℕ) (ps qs : List ℕ) (r u : ℕ) (e f : Expr) → Heads g ctx i c k (Lambda s) (Fun ps r ∷ []) (lam e no_args) → Heads g ctx j d l (Lambda t) (Fun qs u ∷ []) (lam f no_args) → ArgsTold g ctx (lam e no_args) (lam f no_args)
    → lambda (chars s) (binder_shapes g (length (joined ctx)) (length ps)) (cast_shape g k (type_in g (ctx ++ ps ∷ []) e) r) (shape_in g (ctx ++ ps ∷ []) e) ≡ lambda (chars t) (binder_shapes g (length (joined ctx)) (length qs)) (cast_shape g l (type_in g (ctx ++ qs ∷ []) f) u) (shape_in g (ctx ++ qs ∷ []) f)
    → head i (lam e no_args) ≡ head j (lam f no_args)
unfolding shapes_in
told_lambdas_by g short read told ctx i j c d k l s t ps qs r u e f a b args q =
    let h = lambda_is (chars s) (chars t) (binder_shapes g (length (joined ctx)) (length ps)) (binder_shapes g (length (joined ctx)) (length qs)) (cast_shape g k (type_in g (ctx ++ ps ∷ []) e) r) (cast_shape g l (type_in g (ctx ++ qs ∷ []) f) u) (shape_in g (ctx ++ ps ∷ []) e) (shape_in g (ctx ++ qs ∷ []) f) q in
    let same = same_bytes s t a.text.0 b.text.0 h.0 in
    let number = told.lambdas i j c d t a.declared b.declared (a.form ∙ ap Lambda same) b.form in
    let decl = one_decl g i j c d number a.declared b.declared in
    let rows = same_row ps qs r u (sym a.args ∙ ap (λ z. z.args) decl ∙ b.args) in
    same_heads i j (lam e no_args) (lam f no_args) number
    (args k l (Fun ps r ∷ []) (Fun qs u ∷ []) (rows, tt) (subst AreShort a.args (short i c a.declared)) a.fit b.fit (ap₂ (λ x y. shapes x y no_shapes) h.1 h.2))

told_lambdas : (g : Parts) → HasShortRows g → IsReadable g → IsToldApart g → (ctx : List (List ℕ)) (i j : ℕ) (c d : Decl) (k l : Bool) (s t : List ℕ) (bs cs : List Arg) (xs ys : Args) → Heads g ctx i c k (Lambda s) bs xs → Heads g ctx j d l (Lambda t) cs ys → ArgsTold g ctx xs ys
    → shape_head g ctx k (Lambda s) bs xs ≡ shape_head g ctx l (Lambda t) cs ys → head i xs ≡ head j ys
unfolding shapes_in shape_head
told_lambdas g short read told ctx i j c d k l s t bs cs xs ys a b =
    lambda_received g ctx i c k s bs xs a (λ us zs. ArgsTold g ctx zs ys → shape_head g ctx k (Lambda s) us zs ≡ shape_head g ctx l (Lambda t) cs ys → head i zs ≡ head j ys)
    (λ ps r e m. lambda_received g ctx j d l t cs ys b (λ us zs. ArgsTold g ctx (lam e no_args) zs → shape_head g ctx k (Lambda s) (Fun ps r ∷ []) (lam e no_args) ≡ shape_head g ctx l (Lambda t) us zs → head i (lam e no_args) ≡ head j zs)
    (λ qs u f n args q. told_lambdas_by g short read told ctx i j c d k l s t ps qs r u e f m n args q))

nothing_fresh : nothing ≡ fresh → ⊥
nothing_fresh e = cc

-- two heads
told_forms : (g : Parts) → IsValid g → IsReadable g → HasShortRows g → IsToldApart g → (ctx : List (List ℕ)) → IsContext ctx → (i j : ℕ) (c d : Decl) (k l : Bool) (f h : Form) (bs cs : List Arg) (xs ys : Args) → Heads g ctx i c k f bs xs → Heads g ctx j d l h cs ys → ArgsTold g ctx xs ys
    → shape_head g ctx k f bs xs ≡ shape_head g ctx l h cs ys → head i xs ≡ head j ys
unfolding shape_head
told_forms g valid read short told ctx x i j c d k l (Name s) (Name t) bs cs xs ys a b args q = let same = same_bytes s t a.text.0 b.text.0 (named_is nothing nothing (chars s) (chars t) q).1 in same_heads i j xs ys (told.names i j c d t a.declared b.declared (a.form ∙ ap Name same) b.form) (no_args-by g ctx xs bs (none_wanted-name s bs a.well_formed) a.fit ∙ sym (no_args-by g ctx ys cs (none_wanted-name t cs b.well_formed) b.fit))
told_forms g valid read short told ctx x i j c d k l (Name s) This bs cs xs ys a b args q = absurd (name_not_this g s a.text (named_is nothing nothing (chars s) (codes "this") q).1)
told_forms g valid read short told ctx x i j c d k l (Name s) (Call t) bs cs xs ys a b args q = absurd (name_call (kinds g ctx i j c d k l (Name s) (Call t) bs cs xs ys a b q))
told_forms g valid read short told ctx x i j c d k l (Name s) (New t) bs cs xs ys a b args q = absurd (name_call (kinds g ctx i j c d k l (Name s) (New t) bs cs xs ys a b q))
told_forms g valid read short told ctx x i j c d k l (Name s) (Method t) bs cs xs ys a b args q = absurd (name_call (kinds g ctx i j c d k l (Name s) (Method t) bs cs xs ys a b q))
told_forms g valid read short told ctx x i j c d k l (Name s) (Field t n) bs cs xs ys a b args q = absurd (name_field g valid read told ctx x i j c d k l s t n bs cs xs ys a b q)
told_forms g valid read short told ctx x i j c d k l (Name s) (Lambda t) bs cs xs ys a b args q = absurd (name_lambda (kinds g ctx i j c d k l (Name s) (Lambda t) bs cs xs ys a b q))
told_forms g valid read short told ctx x i j c d k l This (Name t) bs cs xs ys a b args q = absurd (name_not_this g t b.text (sym (named_is nothing nothing (codes "this") (chars t) q).1))
told_forms g valid read short told ctx x i j c d k l This This bs cs xs ys a b args q = same_heads i j xs ys (told.one_this i j c d a.declared b.declared a.form b.form) (no_args-by g ctx xs bs (none_wanted-this bs a.well_formed) a.fit ∙ sym (no_args-by g ctx ys cs (none_wanted-this cs b.well_formed) b.fit))
told_forms g valid read short told ctx x i j c d k l This (Call t) bs cs xs ys a b args q = absurd (name_call (kinds g ctx i j c d k l This (Call t) bs cs xs ys a b q))
told_forms g valid read short told ctx x i j c d k l This (New t) bs cs xs ys a b args q = absurd (name_call (kinds g ctx i j c d k l This (New t) bs cs xs ys a b q))
told_forms g valid read short told ctx x i j c d k l This (Method t) bs cs xs ys a b args q = absurd (name_call (kinds g ctx i j c d k l This (Method t) bs cs xs ys a b q))
told_forms g valid read short told ctx x i j c d k l This (Field t n) bs cs xs ys a b args q = absurd (this_field g ctx j d l t n cs ys b q)
told_forms g valid read short told ctx x i j c d k l This (Lambda t) bs cs xs ys a b args q = absurd (name_lambda (kinds g ctx i j c d k l This (Lambda t) bs cs xs ys a b q))
told_forms g valid read short told ctx x i j c d k l (Call s) (Name t) bs cs xs ys a b args q = absurd (name_call (sym (kinds g ctx i j c d k l (Call s) (Name t) bs cs xs ys a b q)))
told_forms g valid read short told ctx x i j c d k l (Call s) This bs cs xs ys a b args q = absurd (name_call (sym (kinds g ctx i j c d k l (Call s) This bs cs xs ys a b q)))
told_forms g valid read short told ctx x i j c d k l (Call s) (Call t) bs cs xs ys a b args q = let h = called_is nothing nothing (chars s) (chars t) (shapes_in g ctx k xs bs) (shapes_in g ctx l ys cs) q in alike_told g valid read short told ctx i j c d k l (Call s) (Call t) bs cs xs ys a b (same_bytes s t a.text.0 b.text.0 h.1) args h.2
told_forms g valid read short told ctx x i j c d k l (Call s) (New t) bs cs xs ys a b args q = absurd (nothing_fresh (called_is nothing fresh (chars s) (chars t) (shapes_in g ctx k xs bs) (shapes_in g ctx l ys cs) q).0)
told_forms g valid read short told ctx x i j c d k l (Call s) (Method t) bs cs xs ys a b args q = absurd (call_method g valid read told ctx x i j c d k l s t bs cs xs ys a b q)
told_forms g valid read short told ctx x i j c d k l (Call s) (Field t n) bs cs xs ys a b args q = absurd (name_call (sym (kinds g ctx i j c d k l (Call s) (Field t n) bs cs xs ys a b q)))
told_forms g valid read short told ctx x i j c d k l (Call s) (Lambda t) bs cs xs ys a b args q = absurd (call_lambda (kinds g ctx i j c d k l (Call s) (Lambda t) bs cs xs ys a b q))
told_forms g valid read short told ctx x i j c d k l (New s) (Name t) bs cs xs ys a b args q = absurd (name_call (sym (kinds g ctx i j c d k l (New s) (Name t) bs cs xs ys a b q)))
told_forms g valid read short told ctx x i j c d k l (New s) This bs cs xs ys a b args q = absurd (name_call (sym (kinds g ctx i j c d k l (New s) This bs cs xs ys a b q)))
told_forms g valid read short told ctx x i j c d k l (New s) (Call t) bs cs xs ys a b args q = absurd (nothing_fresh (sym (called_is fresh nothing (chars s) (chars t) (shapes_in g ctx k xs bs) (shapes_in g ctx l ys cs) q).0))
told_forms g valid read short told ctx x i j c d k l (New s) (New t) bs cs xs ys a b args q = let h = called_is fresh fresh (chars s) (chars t) (shapes_in g ctx k xs bs) (shapes_in g ctx l ys cs) q in alike_told g valid read short told ctx i j c d k l (New s) (New t) bs cs xs ys a b (same_bytes s t a.text.0 b.text.0 h.1) args h.2
told_forms g valid read short told ctx x i j c d k l (New s) (Method t) bs cs xs ys a b args q = absurd (new_method g valid read short ctx x i j c d k l s t bs cs xs ys a b q)
told_forms g valid read short told ctx x i j c d k l (New s) (Field t n) bs cs xs ys a b args q = absurd (name_call (sym (kinds g ctx i j c d k l (New s) (Field t n) bs cs xs ys a b q)))
told_forms g valid read short told ctx x i j c d k l (New s) (Lambda t) bs cs xs ys a b args q = absurd (call_lambda (kinds g ctx i j c d k l (New s) (Lambda t) bs cs xs ys a b q))
told_forms g valid read short told ctx x i j c d k l (Method s) (Name t) bs cs xs ys a b args q = absurd (name_call (sym (kinds g ctx i j c d k l (Method s) (Name t) bs cs xs ys a b q)))
told_forms g valid read short told ctx x i j c d k l (Method s) This bs cs xs ys a b args q = absurd (name_call (sym (kinds g ctx i j c d k l (Method s) This bs cs xs ys a b q)))
told_forms g valid read short told ctx x i j c d k l (Method s) (Call t) bs cs xs ys a b args q = absurd (call_method g valid read told ctx x j i d c l k t s cs bs ys xs b a (sym q))
told_forms g valid read short told ctx x i j c d k l (Method s) (New t) bs cs xs ys a b args q = absurd (new_method g valid read short ctx x j i d c l k t s cs bs ys xs b a (sym q))
told_forms g valid read short told ctx x i j c d k l (Method s) (Method t) bs cs xs ys a b args q = told_methods g valid read short told ctx i j c d k l s t bs cs xs ys a b args q
told_forms g valid read short told ctx x i j c d k l (Method s) (Field t n) bs cs xs ys a b args q = absurd (name_call (sym (kinds g ctx i j c d k l (Method s) (Field t n) bs cs xs ys a b q)))
told_forms g valid read short told ctx x i j c d k l (Method s) (Lambda t) bs cs xs ys a b args q = absurd (call_lambda (kinds g ctx i j c d k l (Method s) (Lambda t) bs cs xs ys a b q))
told_forms g valid read short told ctx x i j c d k l (Field s m) (Name t) bs cs xs ys a b args q = absurd (name_field g valid read told ctx x j i d c l k t s m cs bs ys xs b a (sym q))
told_forms g valid read short told ctx x i j c d k l (Field s m) This bs cs xs ys a b args q = absurd (this_field g ctx i c k s m bs xs a (sym q))
told_forms g valid read short told ctx x i j c d k l (Field s m) (Call t) bs cs xs ys a b args q = absurd (name_call (kinds g ctx i j c d k l (Field s m) (Call t) bs cs xs ys a b q))
told_forms g valid read short told ctx x i j c d k l (Field s m) (New t) bs cs xs ys a b args q = absurd (name_call (kinds g ctx i j c d k l (Field s m) (New t) bs cs xs ys a b q))
told_forms g valid read short told ctx x i j c d k l (Field s m) (Method t) bs cs xs ys a b args q = absurd (name_call (kinds g ctx i j c d k l (Field s m) (Method t) bs cs xs ys a b q))
told_forms g valid read short told ctx x i j c d k l (Field s m) (Field t n) bs cs xs ys a b args q = told_fields g valid read short told ctx i j c d k l s t m n bs cs xs ys a b args q
told_forms g valid read short told ctx x i j c d k l (Field s m) (Lambda t) bs cs xs ys a b args q = absurd (name_lambda (kinds g ctx i j c d k l (Field s m) (Lambda t) bs cs xs ys a b q))
told_forms g valid read short told ctx x i j c d k l (Lambda s) (Name t) bs cs xs ys a b args q = absurd (name_lambda (sym (kinds g ctx i j c d k l (Lambda s) (Name t) bs cs xs ys a b q)))
told_forms g valid read short told ctx x i j c d k l (Lambda s) This bs cs xs ys a b args q = absurd (name_lambda (sym (kinds g ctx i j c d k l (Lambda s) This bs cs xs ys a b q)))
told_forms g valid read short told ctx x i j c d k l (Lambda s) (Call t) bs cs xs ys a b args q = absurd (call_lambda (sym (kinds g ctx i j c d k l (Lambda s) (Call t) bs cs xs ys a b q)))
told_forms g valid read short told ctx x i j c d k l (Lambda s) (New t) bs cs xs ys a b args q = absurd (call_lambda (sym (kinds g ctx i j c d k l (Lambda s) (New t) bs cs xs ys a b q)))
told_forms g valid read short told ctx x i j c d k l (Lambda s) (Method t) bs cs xs ys a b args q = absurd (call_lambda (sym (kinds g ctx i j c d k l (Lambda s) (Method t) bs cs xs ys a b q)))
told_forms g valid read short told ctx x i j c d k l (Lambda s) (Field t n) bs cs xs ys a b args q = absurd (name_lambda (sym (kinds g ctx i j c d k l (Lambda s) (Field t n) bs cs xs ys a b q)))
told_forms g valid read short told ctx x i j c d k l (Lambda s) (Lambda t) bs cs xs ys a b args q = told_lambdas g short read told ctx i j c d k l s t bs cs xs ys a b args q

-- a variable and a head
var_head : (g : Parts) → IsReadable g → (ctx : List (List ℕ)) (n : ℕ) → n < 10 ^ 64 → (j : ℕ) (d : Decl) (l : Bool) (f : Form) (ws : List Arg) (ys : Args) → Heads g ctx j d l f ws ys → named nothing (chars (variable_text g n)) ≡ shape_head g ctx l f ws ys → ⊥
unfolding shapes_in shape_head
var_head g read ctx n small j d l (Name s) ws ys h q = var_name g n s read small h.text (named_is nothing nothing (chars (variable_text g n)) (chars s) q).1
var_head g read ctx n small j d l This ws ys h q = variable_not_this g n read small (named_is nothing nothing (chars (variable_text g n)) (codes "this") q).1
var_head g read ctx n small j d l (Call s) ws ys h q = name_call (ap shape_kind q)
var_head g read ctx n small j d l (New s) ws ys h q = name_call (ap shape_kind q)
var_head g read ctx n small j d l (Method s) ws ys h q = name_call (ap shape_kind q ∙ kind_right g ctx j d l (Method s) ws ys h)
var_head g read ctx n small j d l (Field s hidden) ws ys h q =
    received g ctx j d l (Field s hidden) ws ys tt h (λ us zs. named nothing (chars (variable_text g n)) ≡ shape_head g ctx l (Field s hidden) us zs → ⊥)
    (λ b more e rest m z. var_field_by g read n small (chars s) h.text.1 (cast_shape g l (type_in g ctx e) b) (shape_in g ctx e) (shapes_in g ctx l rest more) ((is_this (head_decl g e) && not (is_some (cast_shape g l (type_in g ctx e) b))) && not hidden) z) q
var_head g read ctx n small j d l (Lambda s) ws ys h q = name_lambda (ap shape_kind q ∙ kind_right g ctx j d l (Lambda s) ws ys h)

var_is : (g : Parts) → IsValid g → IsReadable g → (ctx : List (List ℕ)) → IsContext ctx → (n j : ℕ) (ys : Args) → type_in g ctx (var n) ≢ None → type_in g ctx (head j ys) ≢ None → named nothing (chars (variable_text g n)) ≡ shape_in g ctx (head j ys) → ⊥
var_is g valid read ctx c n j ys h t q =
    let o = opened g ctx j ys t in
    var_head g read ctx n (few_typed g ctx n c h) j o.decl o.decl.crowded o.decl.form o.decl.args ys (heads g valid read ctx j ys o) (q ∙ shaped g ctx j ys o)

no_shapes-some : (c : Option (List ℕ)) (e : Shape) (rest : Shapes) → no_shapes ≡ shapes c e rest → ⊥
no_shapes-some c e rest z = cc

mutual
  unfolding shape_in shapes_in

  pub told : (g : Parts) → IsValid g → IsReadable g → HasShortRows g → IsToldApart g → (e f : Expr) (ctx : List (List ℕ)) → IsContext ctx → type_in g ctx e ≢ None → type_in g ctx f ≢ None → shape_in g ctx e ≡ shape_in g ctx f → e ≡ f
  told g valid read short apart (var m) (var n) ctx c te tf q = ap var (same_variable g m n read (few_typed g ctx m c te) (few_typed g ctx n c tf) (named_is nothing nothing (chars (variable_text g m)) (chars (variable_text g n)) q).1)
  told g valid read short apart (var m) (head j ys) ctx c te tf q = absurd (var_is g valid read ctx c m j ys te tf q)
  told g valid read short apart (head i xs) (var n) ctx c te tf q = absurd (var_is g valid read ctx c n i xs tf te (sym q))
  told g valid read short apart (head i xs) (head j ys) ctx c te tf q =
      let o = opened g ctx i xs te in
      let r = opened g ctx j ys tf in
      told_forms g valid read short apart ctx c i j o.decl r.decl o.decl.crowded r.decl.crowded o.decl.form r.decl.form o.decl.args r.decl.args xs ys (heads g valid read ctx i xs o) (heads g valid read ctx j ys r)
      (λ k l bs cs rows s a b z. args_told g valid read short apart xs ys ctx c k l bs cs rows s a b z)
      (sym (shaped g ctx i xs o) ∙ q ∙ shaped g ctx j ys r)

  args_told : (g : Parts) → IsValid g → IsReadable g → HasShortRows g → IsToldApart g → (xs ys : Args) (ctx : List (List ℕ)) → IsContext ctx → (k l : Bool) (bs cs : List Arg) → SameRows bs cs → AreShort bs → fits g ctx xs bs ≡ true → fits g ctx ys cs ≡ true → shapes_in g ctx k xs bs ≡ shapes_in g ctx l ys cs → xs ≡ ys
  args_told g valid read short apart no_args no_args ctx c k l bs cs rows s a b q = refl
  args_told g valid read short apart no_args (plain y ys) ctx c k l bs [] rows s a b q = absurd (no_fit-plain_none g ctx y ys b)
  args_told g valid read short apart no_args (plain y ys) ctx c k l bs (Fun qs u ∷ cs) rows s a b q = absurd (no_fit-plain_fun g ctx y ys qs u cs b)
  args_told g valid read short apart no_args (plain y ys) ctx c k l bs (Plain o ∷ cs) rows s a b q = absurd (no_shapes-some (cast_shape g l (type_in g ctx y) o) (shape_in g ctx y) (shapes_in g ctx l ys cs) q)
  args_told g valid read short apart no_args (lam y ys) ctx c k l bs [] rows s a b q = absurd (no_fit-lam_none g ctx y ys b)
  args_told g valid read short apart no_args (lam y ys) ctx c k l bs (Plain o ∷ cs) rows s a b q = absurd (no_fit-lam_plain g ctx y ys o cs b)
  args_told g valid read short apart no_args (lam y ys) ctx c k l bs (Fun qs u ∷ cs) rows s a b q = absurd (no_shapes-some (cast_shape g l (type_in g (ctx ++ qs ∷ []) y) u) (shape_in g (ctx ++ qs ∷ []) y) (shapes_in g ctx l ys cs) q)
  args_told g valid read short apart (plain x xs) ys ctx c k l [] cs rows s a b q = absurd (no_fit-plain_none g ctx x xs a)
  args_told g valid read short apart (plain x xs) ys ctx c k l (Fun ps r ∷ bs) cs rows s a b q = absurd (no_fit-plain_fun g ctx x xs ps r bs a)
  args_told g valid read short apart (plain x xs) no_args ctx c k l (Plain p ∷ bs) cs rows s a b q = absurd (no_shapes-some (cast_shape g k (type_in g ctx x) p) (shape_in g ctx x) (shapes_in g ctx k xs bs) (sym q))
  args_told g valid read short apart (plain x xs) (plain y ys) ctx c k l (Plain p ∷ bs) [] rows s a b q = absurd (no_fit-plain_none g ctx y ys b)
  args_told g valid read short apart (plain x xs) (plain y ys) ctx c k l (Plain p ∷ bs) (Fun qs u ∷ cs) rows s a b q = absurd (no_fit-plain_fun g ctx y ys qs u cs b)
  args_told g valid read short apart (plain x xs) (plain y ys) ctx c k l (Plain p ∷ bs) (Plain o ∷ cs) rows s a b q =
      let fx = plain_fits g ctx x xs p bs a in
      let fy = plain_fits g ctx y ys o cs b in
      let z = shapes_is (cast_shape g k (type_in g ctx x) p) (cast_shape g l (type_in g ctx y) o) (shape_in g ctx x) (shape_in g ctx y) (shapes_in g ctx k xs bs) (shapes_in g ctx l ys cs) q in
      let one = told g valid read short apart x y ctx c (below_typed g (type_in g ctx x) p fx.0) (below_typed g (type_in g ctx y) o fy.0) z.1 in
      ap₂ plain one (args_told g valid read short apart xs ys ctx c k l bs cs rows s fx.1 fy.1 z.2)
  args_told g valid read short apart (plain x xs) (lam y ys) ctx c k l (Plain p ∷ bs) [] rows s a b q = absurd (no_fit-lam_none g ctx y ys b)
  args_told g valid read short apart (plain x xs) (lam y ys) ctx c k l (Plain p ∷ bs) (Plain o ∷ cs) rows s a b q = absurd (no_fit-lam_plain g ctx y ys o cs b)
  args_told g valid read short apart (plain x xs) (lam y ys) ctx c k l (Plain p ∷ bs) (Fun qs u ∷ cs) rows s a b q = absurd rows
  args_told g valid read short apart (lam x xs) ys ctx c k l [] cs rows s a b q = absurd (no_fit-lam_none g ctx x xs a)
  args_told g valid read short apart (lam x xs) ys ctx c k l (Plain p ∷ bs) cs rows s a b q = absurd (no_fit-lam_plain g ctx x xs p bs a)
  args_told g valid read short apart (lam x xs) no_args ctx c k l (Fun ps r ∷ bs) cs rows s a b q = absurd (no_shapes-some (cast_shape g k (type_in g (ctx ++ ps ∷ []) x) r) (shape_in g (ctx ++ ps ∷ []) x) (shapes_in g ctx k xs bs) (sym q))
  args_told g valid read short apart (lam x xs) (plain y ys) ctx c k l (Fun ps r ∷ bs) [] rows s a b q = absurd (no_fit-plain_none g ctx y ys b)
  args_told g valid read short apart (lam x xs) (plain y ys) ctx c k l (Fun ps r ∷ bs) (Plain o ∷ cs) rows s a b q = absurd rows
  args_told g valid read short apart (lam x xs) (plain y ys) ctx c k l (Fun ps r ∷ bs) (Fun qs u ∷ cs) rows s a b q = absurd (no_fit-plain_fun g ctx y ys qs u cs b)
  args_told g valid read short apart (lam x xs) (lam y ys) ctx c k l (Fun ps r ∷ bs) [] rows s a b q = absurd (no_fit-lam_none g ctx y ys b)
  args_told g valid read short apart (lam x xs) (lam y ys) ctx c k l (Fun ps r ∷ bs) (Plain o ∷ cs) rows s a b q = absurd (no_fit-lam_plain g ctx y ys o cs b)
  args_told g valid read short apart (lam x xs) (lam y ys) ctx c k l (Fun ps r ∷ bs) (Fun qs u ∷ cs) rows s a b q =
      let fx = lam_fits g ctx x xs ps r bs a in
      let fy = lam_fits g ctx y ys qs u cs b in
      let z = shapes_is (cast_shape g k (type_in g (ctx ++ ps ∷ []) x) r) (cast_shape g l (type_in g (ctx ++ qs ∷ []) y) u) (shape_in g (ctx ++ ps ∷ []) x) (shape_in g (ctx ++ qs ∷ []) y) (shapes_in g ctx k xs bs) (shapes_in g ctx l ys cs) q in
      let one = told g valid read short apart x y (ctx ++ ps ∷ []) (context_more ctx ps c fx.room s.0) (below_typed g (type_in g (ctx ++ ps ∷ []) x) r fx.body)
      (subst (λ v. type_in g (ctx ++ v ∷ []) y ≢ None) (sym rows.0) (below_typed g (type_in g (ctx ++ qs ∷ []) y) u fy.body))
      (z.1 ∙ ap (λ v. shape_in g (ctx ++ v ∷ []) y) (sym rows.0)) in
      ap₂ lam one (args_told g valid read short apart xs ys ctx c k l bs cs rows.1 s.1 fx.others fy.others z.2)

-- Rows of lambdas.
use Rattle.std.proofs.Common.{◌≡◌, ◌∙◌, ap, ap₂, sym, subst, refl, arith, ℕ, zero, suc, ◌+◌, ◌<◌, ◌≤◌, ◌&&◌, not, Bool, true, false, nat_lt, List, [], ◌∷◌, ◌++◌, length, drop, get_or, Option, ◌⊎◌, inl, inr, codes, chars, IsUtf8, append_assoc, append-nil, bytes_eq, add-one}
use Rattle.std.proofs.lemmas.Bool.{and_parts, false≢true, lt-ltb}
use Rattle.std.proofs.lemmas.List.{drop_more, drop_all}
use Rattle.std.proofs.lemmas.List.FromFn.{length-map-range_with_len}
use Rattle.terms.specs.Expr.{Expr, var, head, Args, no_args, plain, lam}
use Rattle.terms.specs.Typing.{type_in, fits, joined, some_below, most_rows}
use Rattle.terms.specs.Faults.{is_well_formed, IsValid}
use Rattle.terms.specs.Apart.{Declares}
use Rattle.terms.specs.Text.{variable_text, parameters}
use Rattle.terms.specs.declared.parts.Arg.{Arg}
use Rattle.terms.specs.declared.parts.Arg.TheVariants.{Plain, Fun}
use Rattle.terms.specs.declared.parts.Decl.{Decl}
use Rattle.terms.specs.declared.parts.Form.{Form}
use Rattle.terms.specs.declared.parts.Form.TheVariants as form
use Rattle.terms.specs.declared.parts.Parts.{Parts}
use Rattle.java_shapes.specs.Shape.{Shape, lambda, nothing, fresh, Shapes, no_shapes, shapes}
use Rattle.java_shapes.specs.ShapeOf.{cast_shape, before_of, path_of, method_shape, field_shape, form_shape, binder_shapes, is_first_this, is_first_uncast, shape_in, shapes_in}
use Rattle.java_shapes.specs.Readable.{AreShort, IsContext}
use Rattle.java_shapes.proofs.Typed.{formed, context_more, lam_fits, no_fit-none_some, no_fit-plain_fun, Opened, opened, typed_is}
use Rattle.java_shapes.proofs.WordFacts.{and_both}
use Rattle.java_shapes.proofs.Shaped.{shapes_is, named_lambda, called_lambda, Heads, heads, shape_head, shaped}
use Rattle.java_shapes.proofs.Told.{same_bytes}
use Rattle.java_shapes.proofs.ToldPairs.{no_more, no_args-of}
use Rattle.java_resolve.specs.declared.heads.Kind.TheVariants as kind
use Rattle.java_resolve.specs.Found.{IsFound, Row, each, pick, suits, accepts}
use Rattle.java_resolve.specs.Index.{with_key}
use Rattle.java_resolve.specs.Keys.{key}
use Rattle.java_resolve.specs.Reading.{some_kind, Typed, IsRow, ReadAll, AreRising, IsTellable}
use Rattle.java_resolve.specs.Lambdas.{WantsLambda, IsLambda, are_variables, lambda_over, lambda_in, LambdaBy, LambdaAmong, IsLambdaRow, AreLambdas}
use Rattle.java_resolve.proofs.Algebra.{alike, eached, pick_entry, rows_joined}
use Rattle.java_resolve.proofs.Heading.{suited, suited_below, suited_cast, same_decl, if_true, both_ways, same_number, among_above}
use Rattle.java_resolve.proofs.Keys.{bytes_self, bytes_is, among_keys}
use Rattle.java_resolve.proofs.Naming.{Part, key_utf8}
use Rattle.java_resolve.proofs.Rows.{form_by, key_of, typed_some}

-- the body of a lambda's one argument
pub record BodyOf (g : Parts) (ctx : List (List ℕ)) (c : Bool) (cast : Option (List ℕ)) (s : Shape) (ps : List ℕ) (r : ℕ) (xs : Args) : Type 0 where
  pub room : length ctx < most_rows
  pub body : Expr
  pub typed : Typed g (ctx ++ ps ∷ []) s (suits g c cast r) body
  pub is : xs ≡ lam body no_args

body_of : (g : Parts) (ctx : List (List ℕ)) (c : Bool) (cast : Option (List ℕ)) (s : Shape) (ps : List ℕ) (r : ℕ) (xs : Args) → ReadAll g ctx c (shapes cast s no_shapes) (Fun ps r ∷ []) xs → BodyOf g ctx c cast s ps r xs
unfolding shapes_in
body_of g ctx c cast s ps r no_args h = absurd (no_fit-none_some g ctx (Fun ps r) [] h.kinds)
body_of g ctx c cast s ps r (plain e ys) h = absurd (no_fit-plain_fun g ctx e ys ps r [] h.kinds)
body_of g ctx c cast s ps r (lam e ys) h =
    let fit = lam_fits g ctx e ys ps r [] h.kinds in
    let q = shapes_is (cast_shape g c (type_in g (ctx ++ ps ∷ []) e) r) cast (shape_in g (ctx ++ ps ∷ []) e) s (shapes_in g ctx c ys []) no_shapes h.shapes in
    record {
      room = fit.room;
      body = e;
      typed = record { kind = suited g c cast r (type_in g (ctx ++ ps ∷ []) e) fit.body q.0; shape = q.1 };
      is = ap (lam e) (no_args-of g ctx ys fit.others);
    }

lambda_read : (g : Parts) (ctx : List (List ℕ)) (c : Bool) (cast : Option (List ℕ)) (s : Shape) (ps : List ℕ) (r : ℕ) (e : Expr) → length ctx < most_rows → Typed g (ctx ++ ps ∷ []) s (suits g c cast r) e → ReadAll g ctx c (shapes cast s no_shapes) (Fun ps r ∷ []) (lam e no_args)
unfolding fits shapes_in
lambda_read g ctx c cast s ps r e room h = record {
  kinds = and_both (nat_lt (length ctx) most_rows && some_below g (type_in g (ctx ++ ps ∷ []) e) r) true (and_both (nat_lt (length ctx) most_rows) (some_below g (type_in g (ctx ++ ps ∷ []) e) r) (lt-ltb (length ctx) most_rows room) (suited_below g c cast r (type_in g (ctx ++ ps ∷ []) e) h.kind)) refl;
  shapes = ap (λ x. shapes x (shape_in g (ctx ++ ps ∷ []) e) no_shapes) (suited_cast g c cast r (type_in g (ctx ++ ps ∷ []) e) h.kind) ∙ ap (λ x. shapes cast x no_shapes) h.shape;
}

-- what the declaration of a lambda wants
pub lambda_wants : (f : Form) (ws : List Arg) → accepts kind.Lambda f ≡ true → is_well_formed f ws ≡ true → (ps : List ℕ) × (r : ℕ) × (ws ≡ Fun ps r ∷ [])
lambda_wants (form.Lambda s) [] a w = absurd (false≢true w)
lambda_wants (form.Lambda s) (Plain b ∷ more) a w = absurd (false≢true w)
lambda_wants (form.Lambda s) (Fun ps r ∷ []) a w = (ps, r, refl)
lambda_wants (form.Lambda s) (Fun ps r ∷ x ∷ more) a w = absurd (false≢true w)
lambda_wants (form.Name s) ws a w = absurd (false≢true a)
lambda_wants form.This ws a w = absurd (false≢true a)
lambda_wants (form.Call s) ws a w = absurd (false≢true a)
lambda_wants (form.New s) ws a w = absurd (false≢true a)
lambda_wants (form.Method s) ws a w = absurd (false≢true a)
lambda_wants (form.Field s h) ws a w = absurd (false≢true a)

lambda_same : (n : ℕ) (a b : Expr) → lambda_over n a ≡ lambda_over n b → a ≡ b
lambda_same n a b e = cc

read_as : (g : Parts) (ctx : List (List ℕ)) (ss : Shapes) (xs : Args) (c d : Decl) (ws : List Arg) → c ≡ d → d.args ≡ ws → ReadAll g ctx c.crowded ss c.args xs → ReadAll g ctx d.crowded ss ws xs
read_as g ctx ss xs c d ws e f h = subst (λ z. ReadAll g ctx d.crowded ss z xs) f (subst (λ z. ReadAll g ctx z.crowded ss z.args xs) e h)

-- the lambdas of one declaration
pub lambda_right : (g : Parts) (ctx : List (List ℕ)) (n : ℕ) (bs : List (List ℕ)) (d : Decl) (ps : List ℕ) (r : ℕ) → IsLambda g n (length (joined ctx)) bs d ps r → length ctx < most_rows → (cast : Option (List ℕ)) (s : Shape) (row : Row) → IsRow g (ctx ++ ps ∷ []) s row → IsLambdaRow g ctx n bs cast s (lambda_in g d n r cast row)
lambda_right g ctx n bs d ps r h room cast s row right = λ p.
    let found = pick (suits g d.crowded cast r) row in
    subst (λ z. IsFound (LambdaBy g ctx n bs (shapes cast s no_shapes) p) z) (sym (pick_entry p d.result (each (lambda_over n) found)))
    (if_true (p d.result) (each (lambda_over n) found) (LambdaBy g ctx n bs (shapes cast s no_shapes) p)
    (λ passed. eached (Typed g (ctx ++ ps ∷ []) s (suits g d.crowded cast r)) (LambdaBy g ctx n bs (shapes cast s no_shapes) p) (lambda_over n) found
    (λ e t. record {
      args = lam e no_args;
      is = refl;
      decl = d;
      declared = h.declared;
      accepted = h.wants.0;
      kind = passed;
      read = subst (λ z. ReadAll g ctx d.crowded (shapes cast s no_shapes) z (lam e no_args)) (sym h.wants.1) (lambda_read g ctx d.crowded cast s ps r e room t);
      variables = ap (λ z. binder_shapes g (length (joined ctx)) (parameters z)) h.wants.1 ∙ h.variables;
    })
    (λ x b.
    let y = body_of g ctx d.crowded cast s ps r b.args (read_as g ctx (shapes cast s no_shapes) b.args b.decl d (Fun ps r ∷ []) (same_decl g n b.decl d b.declared h.declared) h.wants.1 b.read) in
    (y.body, (y.typed, b.is ∙ ap (head n) y.is)))
    (lambda_same n) (right (suits g d.crowded cast r)))
    (λ failed x b. both_ways (p d.result) failed (subst (λ z. p z.result ≡ true) (same_decl g n b.decl d b.declared h.declared) b.kind)))

pub lambda_none : (g : Parts) → IsValid g → (ctx : List (List ℕ)) (n : ℕ) (bs : List (List ℕ)) → ((d : Decl) (ps : List ℕ) (r : ℕ) → IsLambda g n (length (joined ctx)) bs d ps r → ⊥) → (cast : Option (List ℕ)) (s : Shape) → IsLambdaRow g ctx n bs cast s []
unfolding IsFound pick
lambda_none g valid ctx n bs never cast s = λ p x b.
    let w = lambda_wants b.decl.form b.decl.args b.accepted (formed g valid n b.decl b.declared) in
    never b.decl w.0 w.1 (record { declared = b.declared; wants = (b.accepted, w.2); variables = ap (λ z. binder_shapes g (length (joined ctx)) (parameters z)) (sym w.2) ∙ b.variables })

-- the lambdas of several declarations
pub lambdas_none : (g : Parts) (ctx : List (List ℕ)) (bs : List (List ℕ)) (cast : Option (List ℕ)) (s : Shape) → AreLambdas g ctx [] bs cast s []
unfolding IsFound pick
lambdas_none g ctx bs cast s = λ p x h. h.among

first_or_rest : (g : Parts) (ctx : List (List ℕ)) (n : ℕ) (ns : List ℕ) (bs : List (List ℕ)) (ss : Shapes) (p : ℕ → Bool) (e : Expr) → LambdaAmong g ctx (n ∷ ns) bs ss p e → LambdaBy g ctx n bs ss p e ⊎ LambdaAmong g ctx ns bs ss p e
first_or_rest g ctx n ns bs ss p e h = elim h.among [
  | inl q ↦ inl (subst (λ z. LambdaBy g ctx z bs ss p e) (sym q) h.by)
  | inr a ↦ inr (record { number = h.number; among = a; by = h.by })
]

not_both : (g : Parts) (ctx : List (List ℕ)) (i n : ℕ) (ns : List ℕ) (bs : List (List ℕ)) (ss : Shapes) (p : ℕ → Bool) (e : Expr) → AreRising i (n ∷ ns) → LambdaBy g ctx n bs ss p e → LambdaAmong g ctx ns bs ss p e → ⊥
not_both g ctx i n ns bs ss p e r h l =
    let same = same_number n l.number h.args l.by.args (sym h.is ∙ l.by.is) in
    let above = among_above (suc n) ns l.number r.1 l.among in
    absurd (omega (arith, same, above))

lambdas_more : (g : Parts) (ctx : List (List ℕ)) (i n : ℕ) (ns : List ℕ) (bs : List (List ℕ)) (cast : Option (List ℕ)) (s : Shape) → AreRising i (n ∷ ns) → (xs ys : Row) → IsLambdaRow g ctx n bs cast s xs → AreLambdas g ctx ns bs cast s ys → AreLambdas g ctx (n ∷ ns) bs cast s (xs ++ ys)
lambdas_more g ctx i n ns bs cast s r xs ys a b = λ p.
    rows_joined (LambdaBy g ctx n bs (shapes cast s no_shapes) p) (LambdaAmong g ctx ns bs (shapes cast s no_shapes) p) (LambdaAmong g ctx (n ∷ ns) bs (shapes cast s no_shapes) p) p xs ys
    (λ e h. record { number = n; among = inl refl; by = h })
    (λ e h. record { number = h.number; among = inr h.among; by = h.by })
    (first_or_rest g ctx n ns bs (shapes cast s no_shapes) p)
    (λ e. not_both g ctx i n ns bs (shapes cast s no_shapes) p e r) (a p) (b p)

rising_drop : (i j : ℕ) (ns : List ℕ) → AreRising j ns → (k : ℕ) × AreRising k (drop i ns)
rising_drop zero j ns r = (j, r)
rising_drop (suc i) j [] r = (j, tt)
rising_drop (suc i) j (m ∷ ms) r = rising_drop i (suc m) ms r.1

-- a loop over declarations
pub lambdas_step : (g : Parts) (ctx : List (List ℕ)) (ns : List ℕ) (bs : List (List ℕ)) (cast : Option (List ℕ)) (s : Shape) → AreRising 0 ns → (i : ℕ) → i < length ns → (old new here : Row) → new ≡ old ++ here → IsLambdaRow g ctx (get_or ns i 0) bs cast s here
    → ((r : Row) → AreLambdas g ctx (drop i ns) bs cast s r → AreLambdas g ctx ns bs cast s (old ++ r)) → (r : Row) → AreLambdas g ctx (drop (i + 1) ns) bs cast s r → AreLambdas g ctx ns bs cast s (new ++ r)
lambdas_step g ctx ns bs cast s rising i l old new here e h rest r right =
    let is : drop i ns ≡ get_or ns i 0 ∷ drop (i + 1) ns = drop_more ns i 0 l in
    let up = rising_drop i 0 ns rising in
    subst (λ z. AreLambdas g ctx ns bs cast s z) (sym (ap (λ z. z ++ r) e ∙ append_assoc old here r))
    (rest (here ++ r) (subst (λ z. AreLambdas g ctx z bs cast s (here ++ r)) (sym is) (lambdas_more g ctx up.0 (get_or ns i 0) (drop (i + 1) ns) bs cast s (subst (λ z. AreRising up.0 z) is up.1) here r h right)))

pub lambdas_end : (g : Parts) (ctx : List (List ℕ)) (ns : List ℕ) (bs : List (List ℕ)) (cast : Option (List ℕ)) (s : Shape) (i : ℕ) → length ns ≤ i → (row : Row) → ((r : Row) → AreLambdas g ctx (drop i ns) bs cast s r → AreLambdas g ctx ns bs cast s (row ++ r)) → AreLambdas g ctx ns bs cast s row
lambdas_end g ctx ns bs cast s i l row rest =
    subst (λ z. AreLambdas g ctx ns bs cast s z) (append-nil row) (rest [] (subst (λ z. AreLambdas g ctx z bs cast s []) (sym (drop_all i ns l)) (lambdas_none g ctx bs cast s)))

-- lambdas by their shapes
lambda_parts : (s t : List ℕ) (bs cs : List (List ℕ)) (c d : Option (List ℕ)) (e f : Shape) → lambda s bs c e ≡ lambda t cs d f → (s ≡ t) × (bs ≡ cs) × (c ≡ d) × (e ≡ f)
lambda_parts s t bs cs c d e f q = (cc, cc, cc, cc)

method_no_lambda : (flag : Bool) (v : List ℕ) (ss : Shapes) (t : List ℕ) (bs : List (List ℕ)) (c : Option (List ℕ)) (e : Shape) → method_shape flag v ss ≡ lambda t bs c e → ⊥
method_no_lambda true v no_shapes t bs c e q = named_lambda nothing [] t bs c e q
method_no_lambda false v no_shapes t bs c e q = named_lambda nothing [] t bs c e q
method_no_lambda true v (shapes d f rest) t bs c e q = called_lambda nothing v t rest bs c e q
method_no_lambda false v (shapes d f rest) t bs c e q = called_lambda (before_of d f) (path_of d f v) t rest bs c e q

field_no_lambda : (flag : Bool) (v : List ℕ) (ss : Shapes) (t : List ℕ) (bs : List (List ℕ)) (c : Option (List ℕ)) (e : Shape) → field_shape flag v ss ≡ lambda t bs c e → ⊥
field_no_lambda true v no_shapes t bs c e q = named_lambda nothing [] t bs c e q
field_no_lambda false v no_shapes t bs c e q = named_lambda nothing [] t bs c e q
field_no_lambda true v (shapes d f rest) t bs c e q = named_lambda nothing v t bs c e q
field_no_lambda false v (shapes d f rest) t bs c e q = named_lambda (before_of d f) (path_of d f v) t bs c e q

-- a lambda by its head
pub record LambdaPart (g : Parts) (ctx : List (List ℕ)) (k : Bool) (f : Form) (ws : List Arg) (xs : Args) (t : List ℕ) (bs : List (List ℕ)) (ss : Shapes) : Type 0 where
  pub part : Part g ctx k f ws xs kind.Lambda t ss
  pub variables : binder_shapes g (length (joined ctx)) (parameters ws) ≡ bs

lambda_head : (g : Parts) (ctx : List (List ℕ)) (t : List ℕ) (bs : List (List ℕ)) (c : Option (List ℕ)) (e : Shape) (i : ℕ) (d : Decl) (k : Bool) (f : Form) (ws : List Arg) (xs : Args) → Heads g ctx i d k f ws xs → shape_head g ctx k f ws xs ≡ lambda t bs c e → LambdaPart g ctx k f ws xs t bs (shapes c e no_shapes)
unfolding shapes_in shape_head
lambda_head g ctx t bs c e i d k (form.Name v) ws xs h q = absurd (named_lambda nothing (chars v) t bs c e q)
lambda_head g ctx t bs c e i d k form.This ws xs h q = absurd (named_lambda nothing (codes "this") t bs c e q)
lambda_head g ctx t bs c e i d k (form.Call v) ws xs h q = absurd (called_lambda nothing (chars v) t (shapes_in g ctx k xs ws) bs c e q)
lambda_head g ctx t bs c e i d k (form.New v) ws xs h q = absurd (called_lambda fresh (chars v) t (shapes_in g ctx k xs ws) bs c e q)
lambda_head g ctx t bs c e i d k (form.Method v) ws xs h q = absurd (method_no_lambda (is_first_this g xs && is_first_uncast (shapes_in g ctx k xs ws)) (chars v) (shapes_in g ctx k xs ws) t bs c e q)
lambda_head g ctx t bs c e i d k (form.Field v hidden) ws xs h q = absurd (field_no_lambda ((is_first_this g xs && is_first_uncast (shapes_in g ctx k xs ws)) && not hidden) (chars v) (shapes_in g ctx k xs ws) t bs c e q)
lambda_head g ctx t bs c e i d k (form.Lambda v) [] xs h q = absurd (false≢true h.well_formed)
lambda_head g ctx t bs c e i d k (form.Lambda v) (Plain b ∷ more) xs h q = absurd (false≢true h.well_formed)
lambda_head g ctx t bs c e i d k (form.Lambda v) (Fun ps r ∷ x ∷ more) xs h q = absurd (false≢true h.well_formed)
lambda_head g ctx t bs c e i d k (form.Lambda v) (Fun ps r ∷ []) no_args h q = absurd (no_fit-none_some g ctx (Fun ps r) [] h.fit)
lambda_head g ctx t bs c e i d k (form.Lambda v) (Fun ps r ∷ []) (plain y rest) h q = absurd (no_fit-plain_fun g ctx y rest ps r [] h.fit)
lambda_head g ctx t bs c e i d k (form.Lambda v) (Fun ps r ∷ []) (lam y rest) h q =
    let n = lambda_parts (chars v) t (binder_shapes g (length (joined ctx)) (length ps)) bs (cast_shape g k (type_in g (ctx ++ ps ∷ []) y) r) c (shape_in g (ctx ++ ps ∷ []) y) e q in
    record {
      part = record {
        accepted = refl;
        word_is = n.0;
        read =
            ap (λ x. shapes x (shape_in g (ctx ++ ps ∷ []) y) (shapes_in g ctx k rest [])) n.2 ∙ ap (λ x. shapes c x (shapes_in g ctx k rest [])) n.3
            ∙ ap (shapes c e) (no_more g ctx k rest (lam_fits g ctx y rest ps r [] h.fit).others);
      };
      variables = n.1;
    }

lambda_fore : (f : Form) (cs bs : List (List ℕ)) (this : Bool) (bytes t : List ℕ) (c : Option (List ℕ)) (e : Shape) → accepts kind.Lambda f ≡ true → key f ≡ bytes → chars bytes ≡ t → cs ≡ bs → form_shape f cs this (shapes c e no_shapes) ≡ lambda t bs c e
lambda_fore (form.Lambda s) cs bs this bytes t c e a k u q = ap₂ (λ x y. lambda x y c e) (ap chars k ∙ u) q
lambda_fore (form.Name s) cs bs this bytes t c e a k u q = absurd (false≢true a)
lambda_fore form.This cs bs this bytes t c e a k u q = absurd (false≢true a)
lambda_fore (form.Call s) cs bs this bytes t c e a k u q = absurd (false≢true a)
lambda_fore (form.New s) cs bs this bytes t c e a k u q = absurd (false≢true a)
lambda_fore (form.Method s) cs bs this bytes t c e a k u q = absurd (false≢true a)
lambda_fore (form.Field s h) cs bs this bytes t c e a k u q = absurd (false≢true a)

lambda_typed : (g : Parts) (ctx : List (List ℕ)) (bytes : List ℕ) (bs : List (List ℕ)) (c : Option (List ℕ)) (e : Shape) (p : ℕ → Bool) (x : Expr) → LambdaAmong g ctx (with_key 0 bytes g.decls) bs (shapes c e no_shapes) p x → Typed g ctx (lambda (chars bytes) bs c e) p x
lambda_typed g ctx bytes bs c e p x h =
    let o : Opened g ctx h.number h.by.args = record { decl = h.by.decl; declared = h.by.declared; fit = h.by.read.kinds } in
    record {
      kind = subst (λ z. some_kind p (type_in g ctx z) ≡ true) (sym h.by.is) (subst (λ z. some_kind p z ≡ true) (sym (typed_is g ctx h.number h.by.args o)) h.by.kind);
      shape =
          ap (shape_in g ctx) h.by.is ∙ shaped g ctx h.number h.by.args o ∙ form_by g ctx h.by.decl.crowded h.by.decl.form h.by.decl.args h.by.args (shapes c e no_shapes) h.by.read.shapes
          ∙ lambda_fore h.by.decl.form (binder_shapes g (length (joined ctx)) (parameters h.by.decl.args)) bs (is_first_this g h.by.args) bytes (chars bytes) c e h.by.accepted (key_of g bytes h.number h.by.decl h.among h.by.declared) refl h.by.variables;
    }

lambda_of : (g : Parts) → IsTellable g → (ctx : List (List ℕ)) (bytes : List ℕ) → IsUtf8 bytes → (bs : List (List ℕ)) (c : Option (List ℕ)) (e : Shape) (p : ℕ → Bool) (i : ℕ) (xs : Args) → (o : Opened g ctx i xs) → Typed g ctx (lambda (chars bytes) bs c e) p (head i xs) → LambdaAmong g ctx (with_key 0 bytes g.decls) bs (shapes c e no_shapes) p (head i xs)
lambda_of g good ctx bytes u bs c e p i xs o h =
    let l = lambda_head g ctx (chars bytes) bs c e i o.decl o.decl.crowded o.decl.form o.decl.args xs (heads g good.valid good.readable ctx i xs o) (sym (shaped g ctx i xs o) ∙ h.shape) in
    record {
      number = i;
      among = among_keys 0 bytes g.decls i i o.decl (omega arith) o.declared (same_bytes (key o.decl.form) bytes (key_utf8 g o.decl.form (good.readable.forms i o.decl o.declared)) u l.part.word_is);
      by = record {
        args = xs;
        is = refl;
        decl = o.decl;
        declared = o.declared;
        accepted = l.part.accepted;
        kind = subst (λ z. some_kind p z ≡ true) (typed_is g ctx i xs o) h.kind;
        read = record { kinds = o.fit; shapes = l.part.read };
        variables = l.variables;
      };
    }

variable_no_lambda : (g : Parts) (ctx : List (List ℕ)) (t : List ℕ) (bs : List (List ℕ)) (c : Option (List ℕ)) (e : Shape) (p : ℕ → Bool) (n : ℕ) → Typed g ctx (lambda t bs c e) p (var n) → ⊥
unfolding shape_in
variable_no_lambda g ctx t bs c e p n h = named_lambda nothing (chars (variable_text g n)) t bs c e h.shape

lambda_cases : (g : Parts) → IsTellable g → (ctx : List (List ℕ)) (bytes : List ℕ) → IsUtf8 bytes → (bs : List (List ℕ)) (c : Option (List ℕ)) (e : Shape) (p : ℕ → Bool) (x : Expr) → Typed g ctx (lambda (chars bytes) bs c e) p x → LambdaAmong g ctx (with_key 0 bytes g.decls) bs (shapes c e no_shapes) p x
lambda_cases g good ctx bytes u bs c e p (var n) h = absurd (variable_no_lambda g ctx (chars bytes) bs c e p n h)
lambda_cases g good ctx bytes u bs c e p (head i xs) h = lambda_of g good ctx bytes u bs c e p i xs (opened g ctx i xs (typed_some p (type_in g ctx (head i xs)) h.kind)) h

-- the rows of lambdas are those of their shapes
pub lambdas_row : (g : Parts) → IsTellable g → (ctx : List (List ℕ)) (bytes : List ℕ) → IsUtf8 bytes → (bs : List (List ℕ)) (c : Option (List ℕ)) (e : Shape) (row : Row) → AreLambdas g ctx (with_key 0 bytes g.decls) bs c e row → IsRow g ctx (lambda (chars bytes) bs c e) row
lambdas_row g good ctx bytes u bs c e row h = λ p.
    alike (LambdaAmong g ctx (with_key 0 bytes g.decls) bs (shapes c e no_shapes) p) (Typed g ctx (lambda (chars bytes) bs c e) p) (pick p row)
    (lambda_typed g ctx bytes bs c e p) (lambda_cases g good ctx bytes u bs c e p) (h p)

-- under three rows there are none
no_room : (g : Parts) → IsValid g → (ctx : List (List ℕ)) → most_rows ≤ length ctx → (n : ℕ) (bs : List (List ℕ)) (c : Option (List ℕ)) (e : Shape) (p : ℕ → Bool) (x : Expr) → LambdaBy g ctx n bs (shapes c e no_shapes) p x → ⊥
no_room g valid ctx full n bs c e p x b =
    let w = lambda_wants b.decl.form b.decl.args b.accepted (formed g valid n b.decl b.declared) in
    let y = body_of g ctx b.decl.crowded c e w.0 w.1 b.args (read_as g ctx (shapes c e no_shapes) b.args b.decl b.decl (Fun w.0 w.1 ∷ []) refl w.2 b.read) in
    let room = y.room in
    absurd (omega (arith, room, full))

pub lambdas_full : (g : Parts) → IsTellable g → (ctx : List (List ℕ)) → most_rows ≤ length ctx → (bytes : List ℕ) → IsUtf8 bytes → (bs : List (List ℕ)) (c : Option (List ℕ)) (e : Shape) → IsRow g ctx (lambda (chars bytes) bs c e) []
unfolding IsFound pick
lambdas_full g good ctx full bytes u bs c e = λ p x h.
    let a = lambda_cases g good ctx bytes u bs c e p x h in
    no_room g good.valid ctx full a.number bs c e p x a.by

-- the context of a body
pub inner_context : (g : Parts) → IsTellable g → (ctx : List (List ℕ)) → IsContext ctx → length ctx < most_rows → (n from : ℕ) (bs : List (List ℕ)) (d : Decl) (ps : List ℕ) (r : ℕ) → IsLambda g n from bs d ps r → IsContext (ctx ++ ps ∷ [])
inner_context g good ctx ok room n from bs d ps r l =
    let short : AreShort (Fun ps r ∷ []) = subst (λ z. AreShort z) l.wants.1 (good.short n d l.declared) in
    context_more ctx ps ok room short.0

-- binders
binders_more : (g : Parts) (n k : ℕ) → binder_shapes g n (suc k) ≡ chars (variable_text g n) ∷ binder_shapes g (suc n) k
binders_more g n k = ap (λ m. chars (variable_text g n) ∷ binder_shapes g m k) (add-one n)

cons_is : (x y : List ℕ) (xs ys : List (List ℕ)) → x ∷ xs ≡ y ∷ ys → (x ≡ y) × (xs ≡ ys)
cons_is x y xs ys e = (cc, cc)

variables_yes : (g : Parts) (n : ℕ) (ws : List (List ℕ)) → are_variables g n ws ≡ true → binder_shapes g n (length ws) ≡ ws
unfolding are_variables
variables_yes g n [] e = refl
variables_yes g n (w ∷ ws) e =
    let a = and_parts (bytes_eq (chars (variable_text g n)) w) (are_variables g (suc n) ws) e in
    binders_more g n (length ws) ∙ ap₂ (λ x y. x ∷ y) (bytes_is (chars (variable_text g n)) w a.0) (variables_yes g (suc n) ws a.1)

variables_no : (g : Parts) (n : ℕ) (ws : List (List ℕ)) → binder_shapes g n (length ws) ≡ ws → are_variables g n ws ≡ true
unfolding are_variables
variables_no g n [] e = refl
variables_no g n (w ∷ ws) e =
    let q = cons_is (chars (variable_text g n)) w (binder_shapes g (suc n) (length ws)) ws (sym (binders_more g n (length ws)) ∙ e) in
    and_both (bytes_eq (chars (variable_text g n)) w) (are_variables g (suc n) ws) (subst (λ x. bytes_eq (chars (variable_text g n)) x ≡ true) q.0 (bytes_self (chars (variable_text g n)))) (variables_no g (suc n) ws q.1)

pub binders_yes : (g : Parts) (n : ℕ) (row : List ℕ) (ws : List (List ℕ)) → length row ≡ length ws → are_variables g n ws ≡ true → binder_shapes g n (length row) ≡ ws
binders_yes g n row ws l e = ap (binder_shapes g n) l ∙ variables_yes g n ws e

pub binders_no : (g : Parts) (n : ℕ) (row : List ℕ) (ws : List (List ℕ)) → length row ≡ length ws → binder_shapes g n (length row) ≡ ws → are_variables g n ws ≡ true
binders_no g n row ws l e = variables_no g n ws (sym (ap (binder_shapes g n) l) ∙ e)

pub binders_long : (g : Parts) (n : ℕ) (row : List ℕ) (ws : List (List ℕ)) → (length row ≡ length ws → ⊥) → binder_shapes g n (length row) ≡ ws → ⊥
binders_long g n row ws l e = l (sym (length-map-range_with_len (λ m. chars (variable_text g m)) n (length row)) ∙ ap length e)

pub variables_step : (g : Parts) (all : Bool) (i n : ℕ) (ws : List (List ℕ)) (w : List ℕ) (b : Bool) → i < length ws → w ≡ get_or ws i w → b ≡ bytes_eq (chars (variable_text g n)) w → are_variables g n (drop i ws) ≡ all → (b && are_variables g (n + 1) (drop (i + 1) ws)) ≡ all
unfolding are_variables
variables_step g all i n ws w b l at e h =
    ap (λ x. x && are_variables g (n + 1) (drop (i + 1) ws)) e
    ∙ ap (λ m. bytes_eq (chars (variable_text g n)) w && are_variables g m (drop (i + 1) ws)) (add-one n)
    ∙ sym (ap (are_variables g n) (drop_more ws i w l ∙ ap (λ z. z ∷ drop (i + 1) ws) (sym at))) ∙ h

pub variables_end : (g : Parts) (all : Bool) (i n : ℕ) (ws : List (List ℕ)) → length ws ≤ i → are_variables g n (drop i ws) ≡ all → true ≡ all
unfolding are_variables
variables_end g all i n ws l h = sym (ap (are_variables g n) (drop_all i ws l)) ∙ h

-- what the code finds of declarations
pub one_item : (xs : List Arg) (x : Arg) → length xs ≡ 1 → x ≡ get_or xs 0 x → xs ≡ x ∷ []
one_item [] x l e = absurd (omega arith)
one_item (y ∷ []) x l e = ap (λ z. z ∷ []) (sym e)
one_item (y ∷ z ∷ ys) x l e = absurd (omega arith)

pub only_is : (xs : List Arg) (x y : Arg) → xs ≡ x ∷ [] → xs ≡ y ∷ [] → x ≡ y
only_is xs x y e f = let q = sym e ∙ f in cc

pub fun_is : (xs : List Arg) (ps qs : List ℕ) (r s : ℕ) → xs ≡ Fun ps r ∷ [] → xs ≡ Fun qs s ∷ [] → ps ≡ qs
fun_is xs ps qs r s e f = let q = sym e ∙ f in cc

pub lambda_not : (g : Parts) (n from : ℕ) (bs : List (List ℕ)) (d : Decl) (ps : List ℕ) (r : ℕ) → Declares g n d → WantsLambda d ps r → (binder_shapes g from (length ps) ≡ bs → ⊥) → (c : Decl) (qs : List ℕ) (s : ℕ) → IsLambda g n from bs c qs s → ⊥
lambda_not g n from bs d ps r at wants other c qs s l =
    let same = same_decl g n c d l.declared at in
    let row = fun_is d.args qs ps s r (subst (λ z. z.args ≡ Fun qs s ∷ []) same l.wants.1) wants.1 in
    other (ap (λ z. binder_shapes g from (length z)) (sym row) ∙ l.variables)

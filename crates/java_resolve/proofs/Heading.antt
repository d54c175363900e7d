-- What is found of the terms that some declarations head.
use Rattle.std.proofs.Common.{◌≡◌, ◌∙◌, ap, sym, subst, refl, arith, ℕ, suc, ◌≤◌, Bool, true, false, List, [], ◌∷◌, slice_get, Option, Some, None, ◌⊎◌, inl, inr, if◌then◌else◌, rules}
use Rattle.std.proofs.lemmas.Bool.{and_parts, false≢true}
use Rattle.terms.specs.Expr.{Expr, head, Args, no_args, plain, lam}
use Rattle.terms.specs.Typing.{type_in, fits, is_below, some_below}
use Rattle.terms.specs.Faults.{are_plain, is_well_formed, IsValid}
use Rattle.terms.specs.Apart.{Declares}
use Rattle.terms.specs.declared.parts.Arg.{Arg}
use Rattle.terms.specs.declared.parts.Arg.TheVariants.{Plain, Fun}
use Rattle.terms.specs.declared.parts.Decl.{Decl}
use Rattle.terms.specs.declared.parts.Form.{Form}
use Rattle.terms.specs.declared.parts.Form.TheVariants as form
use Rattle.terms.specs.declared.parts.Parts.{Parts}
use Rattle.java_units.specs.Signs.{has}
use Rattle.java_shapes.specs.Shape.{Shape, Shapes, no_shapes, shapes}
use Rattle.java_shapes.specs.ShapeOf.{cast_shape, shape_in, shapes_in}
use Rattle.java_shapes.proofs.Typed.{formed, plain_fits, no_fit-plain_none, no_fit-lam_none, no_fit-none_some, no_fit-lam_plain}
use Rattle.java_shapes.proofs.WordFacts.{and_both}
use Rattle.java_shapes.proofs.Shaped.{shapes_is, has_one}
use Rattle.java_resolve.specs.declared.heads.Kind.{Kind}
use Rattle.java_resolve.specs.declared.heads.Kind.TheVariants as kind
use Rattle.java_resolve.specs.Found.{Found, none, IsFound, each, Spot, pick, same_cast, suits, all_in, accepts, entry_in, head_in, headed_in}
use Rattle.java_resolve.specs.Reading.{some_kind, Typed, AreSpots, ReadAll, IsAmong, AreRising, Headed}
use Rattle.java_resolve.proofs.Algebra.{joined, paired, eached, pick_append, pick_entry}

-- casts
pub has_same : (a : List ℕ) → has (a ∷ []) a ≡ true
unfolding has
has_same a = search rules

pub cast_is : (a b : Option (List ℕ)) → same_cast a b ≡ true → a ≡ b
cast_is None None e = refl
cast_is None (Some b) e = absurd (false≢true e)
cast_is (Some a) None e = absurd (false≢true e)
cast_is (Some a) (Some b) e = ap Some (has_one a b e)

pub cast_self : (a : Option (List ℕ)) → same_cast a a ≡ true
cast_self None = refl
cast_self (Some a) = has_same a

pub suited_below : (g : Parts) (c : Bool) (cast : Option (List ℕ)) (b : ℕ) (t : Option ℕ) → some_kind (suits g c cast b) t ≡ true → some_below g t b ≡ true
unfolding suits
suited_below g c cast b None e = e
suited_below g c cast b (Some a) e = (and_parts (is_below g a b) (same_cast (cast_shape g c (Some a) b) cast) e).0

pub suited_cast : (g : Parts) (c : Bool) (cast : Option (List ℕ)) (b : ℕ) (t : Option ℕ) → some_kind (suits g c cast b) t ≡ true → cast_shape g c t b ≡ cast
unfolding suits
suited_cast g c cast b None e = absurd (false≢true e)
suited_cast g c cast b (Some a) e = cast_is (cast_shape g c (Some a) b) cast (and_parts (is_below g a b) (same_cast (cast_shape g c (Some a) b) cast) e).1

pub suited : (g : Parts) (c : Bool) (cast : Option (List ℕ)) (b : ℕ) (t : Option ℕ) → some_below g t b ≡ true → cast_shape g c t b ≡ cast → some_kind (suits g c cast b) t ≡ true
unfolding suits
suited g c cast b None e f = e
suited g c cast b (Some a) e f = and_both (is_below g a b) (same_cast (cast_shape g c (Some a) b) cast) e (subst (λ x. same_cast (cast_shape g c (Some a) b) x ≡ true) f (cast_self (cast_shape g c (Some a) b)))

some_shapes : (c : Option (List ℕ)) (s : Shape) (ss : Shapes) → no_shapes ≡ shapes c s ss → ⊥
some_shapes c s ss e = cc

plain_is : (a b : Expr) (c d : Args) → plain a c ≡ plain b d → (a ≡ b) × (c ≡ d)
plain_is a b c d e = (cc, cc)

head_is : (n : ℕ) (xs ys : Args) → head n xs ≡ head n ys → xs ≡ ys
head_is n xs ys e = cc

-- arguments
split_all : (g : Parts) (ctx : List (List ℕ)) (c : Bool) (cast : Option (List ℕ)) (s : Shape) (rest : Shapes) (b : ℕ) (bs : List Arg) (xs : Args) → ReadAll g ctx c (shapes cast s rest) (Plain b ∷ bs) xs → (e : Expr) × (ys : Args) × (Typed g ctx s (suits g c cast b) e × ReadAll g ctx c rest bs ys × (xs ≡ plain e ys))
unfolding shapes_in
split_all g ctx c cast s rest b bs no_args h = absurd (no_fit-none_some g ctx (Plain b) bs h.kinds)
split_all g ctx c cast s rest b bs (lam e ys) h = absurd (no_fit-lam_plain g ctx e ys b bs h.kinds)
split_all g ctx c cast s rest b bs (plain e ys) h =
    let q = shapes_is (cast_shape g c (type_in g ctx e) b) cast (shape_in g ctx e) s (shapes_in g ctx c ys bs) rest h.shapes in
    let k = plain_fits g ctx e ys b bs h.kinds in
    (e, ys, (record { kind = suited g c cast b (type_in g ctx e) k.0 q.0; shape = q.1 }, record { kinds = k.1; shapes = q.2 }, refl))

make_all : (g : Parts) (ctx : List (List ℕ)) (c : Bool) (cast : Option (List ℕ)) (s : Shape) (rest : Shapes) (b : ℕ) (bs : List Arg) (e : Expr) (ys : Args) → Typed g ctx s (suits g c cast b) e → ReadAll g ctx c rest bs ys → ReadAll g ctx c (shapes cast s rest) (Plain b ∷ bs) (plain e ys)
unfolding fits shapes_in
make_all g ctx c cast s rest b bs e ys h k = record {
  kinds = and_both (some_below g (type_in g ctx e) b) (fits g ctx ys bs) (suited_below g c cast b (type_in g ctx e) h.kind) k.kinds;
  shapes = ap (λ x. shapes x (shape_in g ctx e) (shapes_in g ctx c ys bs)) (suited_cast g c cast b (type_in g ctx e) h.kind) ∙ ap (λ x. shapes cast x (shapes_in g ctx c ys bs)) h.shape ∙ ap (λ x. shapes cast s x) k.shapes;
}

none_left : (g : Parts) (ctx : List (List ℕ)) (c : Bool) (xs : Args) → ReadAll g ctx c no_shapes [] xs → xs ≡ no_args
none_left g ctx c no_args h = refl
none_left g ctx c (plain e ys) h = absurd (no_fit-plain_none g ctx e ys h.kinds)
none_left g ctx c (lam e ys) h = absurd (no_fit-lam_none g ctx e ys h.kinds)

none_wanted : (g : Parts) (ctx : List (List ℕ)) (c : Bool) (cast : Option (List ℕ)) (s : Shape) (rest : Shapes) (xs : Args) → ReadAll g ctx c (shapes cast s rest) [] xs → ⊥
unfolding shapes_in
none_wanted g ctx c cast s rest no_args h = some_shapes cast s rest h.shapes
none_wanted g ctx c cast s rest (plain e ys) h = no_fit-plain_none g ctx e ys h.kinds
none_wanted g ctx c cast s rest (lam e ys) h = no_fit-lam_none g ctx e ys h.kinds

one_wanted : (g : Parts) (ctx : List (List ℕ)) (c : Bool) (b : ℕ) (bs : List Arg) (xs : Args) → ReadAll g ctx c no_shapes (Plain b ∷ bs) xs → ⊥
unfolding shapes_in
one_wanted g ctx c b bs no_args h = no_fit-none_some g ctx (Plain b) bs h.kinds
one_wanted g ctx c b bs (plain e ys) h = some_shapes (cast_shape g c (type_in g ctx e) b) (shape_in g ctx e) (shapes_in g ctx c ys bs) (sym h.shapes)
one_wanted g ctx c b bs (lam e ys) h = no_fit-lam_plain g ctx e ys b bs h.kinds

nothing_wanted : (g : Parts) (ctx : List (List ℕ)) (c : Bool) → ReadAll g ctx c no_shapes [] no_args
unfolding fits shapes_in
nothing_wanted g ctx c = record { kinds = refl; shapes = refl }

pub all_right : (g : Parts) (ctx : List (List ℕ)) (c : Bool) (ss : Shapes) (ps : List Spot) (bs : List Arg) → are_plain bs ≡ true → AreSpots g ctx ss ps → IsFound (ReadAll g ctx c ss bs) (all_in g c ps bs)
unfolding all_in IsFound
all_right g ctx c no_shapes [] [] h k = (nothing_wanted g ctx c, λ xs r. none_left g ctx c xs r)
all_right g ctx c no_shapes [] (Plain b ∷ bs) h k = λ xs r. one_wanted g ctx c b bs xs r
all_right g ctx c no_shapes [] (Fun ps r ∷ bs) h k = absurd (false≢true h)
all_right g ctx c no_shapes (p ∷ ps) bs h k = absurd k
all_right g ctx c (shapes cast s rest) [] bs h k = absurd k
all_right g ctx c (shapes cast s rest) (p ∷ ps) [] h k = λ xs r. none_wanted g ctx c cast s rest xs r
all_right g ctx c (shapes cast s rest) (p ∷ ps) (Fun qs r ∷ bs) h k = absurd (false≢true h)
all_right g ctx c (shapes cast s rest) (p ∷ ps) (Plain b ∷ bs) h k =
    paired (Typed g ctx s (suits g c cast b)) (ReadAll g ctx c rest bs) (ReadAll g ctx c (shapes cast s rest) (Plain b ∷ bs)) plain (pick (suits g c p.cast b) p.row) (all_in g c ps bs)
    (λ e ys. make_all g ctx c cast s rest b bs e ys) (λ xs r. split_all g ctx c cast s rest b bs xs r) plain_is
    (subst (λ x. IsFound (Typed g ctx s (suits g c cast b)) (pick (suits g c x b) p.row)) (sym k.0) (k.1 (suits g c cast b)))
    (all_right g ctx c rest ps bs h k.2)

-- one declaration
abbrev pub IsPlainKind : Kind → Type 0
IsPlainKind kind.Lambda = ⊥
IsPlainKind _ = Unit {0}

pub plain_args : (k : Kind) (f : Form) (bs : List Arg) → IsPlainKind k → accepts k f ≡ true → is_well_formed f bs ≡ true → are_plain bs ≡ true
plain_args k (form.Name s) [] n a w = refl
plain_args k (form.Name s) (b ∷ bs) n a w = absurd (false≢true w)
plain_args k form.This [] n a w = refl
plain_args k form.This (b ∷ bs) n a w = absurd (false≢true w)
plain_args k (form.Call s) bs n a w = w
plain_args k (form.New s) bs n a w = w
plain_args k (form.Method s) [] n a w = absurd (false≢true w)
plain_args k (form.Method s) (Plain b ∷ bs) n a w = w
plain_args k (form.Method s) (Fun ps r ∷ bs) n a w = absurd (false≢true w)
plain_args k (form.Field s h) [] n a w = absurd (false≢true w)
plain_args k (form.Field s h) (Plain b ∷ []) n a w = refl
plain_args k (form.Field s h) (Plain b ∷ c ∷ bs) n a w = absurd (false≢true w)
plain_args k (form.Field s h) (Fun ps r ∷ bs) n a w = absurd (false≢true w)
plain_args kind.Lambda (form.Lambda s) bs n a w = absurd n
plain_args kind.Alone (form.Lambda s) bs n a w = absurd (false≢true a)
plain_args kind.Call (form.Lambda s) bs n a w = absurd (false≢true a)
plain_args kind.New (form.Lambda s) bs n a w = absurd (false≢true a)
plain_args kind.Method (form.Lambda s) bs n a w = absurd (false≢true a)
plain_args kind.ShownField (form.Lambda s) bs n a w = absurd (false≢true a)
plain_args kind.HiddenField (form.Lambda s) bs n a w = absurd (false≢true a)
plain_args kind.Field (form.Lambda s) bs n a w = absurd (false≢true a)
plain_args kind.Never (form.Lambda s) bs n a w = absurd (false≢true a)

-- a term that the declaration with this number heads
pub record HeadedBy (g : Parts) (ctx : List (List ℕ)) (k : Kind) (n : ℕ) (ss : Shapes) (p : ℕ → Bool) (e : Expr) : Type 0 where
  pub args : Args
  pub is : e ≡ head n args
  pub decl : Decl
  pub declared : Declares g n decl
  pub accepted : accepts k decl.form ≡ true
  pub kind : p decl.result ≡ true
  pub read : ReadAll g ctx decl.crowded ss decl.args args

pub same_decl : (g : Parts) (n : ℕ) (c d : Decl) → Declares g n c → Declares g n d → c ≡ d
same_decl g n c d h k = cc (sym h ∙ k)

pub if_true : {E : Type 0} (b : Bool) (x : Found E) (P : E → Type 0) → (b ≡ true → IsFound P x) → (b ≡ false → (e : E) → P e → ⊥) → IsFound P (if b then x else none)
unfolding IsFound
if_true true x P holds never = holds refl
if_true false x P holds never = never refl

pub both_ways : (b : Bool) → b ≡ false → b ≡ true → ⊥
both_ways b e f = false≢true (sym e ∙ f)

decl_right : (g : Parts) → IsValid g → (ctx : List (List ℕ)) (k : Kind) → IsPlainKind k → (n : ℕ) (d : Decl) → Declares g n d → (ss : Shapes) (ps : List Spot) → AreSpots g ctx ss ps → (p : ℕ → Bool) → (b : Bool) → accepts k d.form ≡ b → IsFound (HeadedBy g ctx k n ss p) (pick p (if b then entry_in d.result (each (head n) (all_in g d.crowded ps d.args)) else []))
unfolding IsFound pick
decl_right g valid ctx k plain_kind n d at ss ps spots p false e = λ x r. both_ways (accepts k d.form) e (subst (λ z. accepts k z.form ≡ true) (same_decl g n r.decl d r.declared at) r.accepted)
decl_right g valid ctx k plain_kind n d at ss ps spots p true e =
    let all = all_right g ctx d.crowded ss ps d.args (plain_args k d.form d.args plain_kind e (formed g valid n d at)) spots in
    subst (λ z. IsFound (HeadedBy g ctx k n ss p) z) (sym (pick_entry p d.result (each (head n) (all_in g d.crowded ps d.args))))
    (if_true (p d.result) (each (head n) (all_in g d.crowded ps d.args)) (HeadedBy g ctx k n ss p)
    (λ passed. eached (ReadAll g ctx d.crowded ss d.args) (HeadedBy g ctx k n ss p) (head n) (all_in g d.crowded ps d.args)
    (λ xs r. record { args = xs; is = refl; decl = d; declared = at; accepted = e; kind = passed; read = r })
    (λ x r. (r.args, (subst (λ z. ReadAll g ctx z.crowded ss z.args r.args) (same_decl g n r.decl d r.declared at) r.read, r.is)))
    (head_is n) all)
    (λ failed x r. both_ways (p d.result) failed (subst (λ z. p z.result ≡ true) (same_decl g n r.decl d r.declared at) r.kind)))

none_some : (g : Parts) (n : ℕ) (d : Decl) → slice_get g.decls n ≡ None → Declares g n d → ⊥
none_some g n d e f = cc (sym e ∙ f)

option_right : (g : Parts) → IsValid g → (ctx : List (List ℕ)) (k : Kind) → IsPlainKind k → (n : ℕ) (d : Option Decl) → slice_get g.decls n ≡ d → (ss : Shapes) (ps : List Spot) → AreSpots g ctx ss ps → (p : ℕ → Bool) → IsFound (HeadedBy g ctx k n ss p) (pick p (head_in g k d n ps))
unfolding IsFound pick
option_right g valid ctx k plain_kind n None at ss ps spots p = λ x r. none_some g n r.decl at r.declared
option_right g valid ctx k plain_kind n (Some d) at ss ps spots p = decl_right g valid ctx k plain_kind n d at ss ps spots p (accepts k d.form) refl

pub among_above : (i : ℕ) (ns : List ℕ) (n : ℕ) → AreRising i ns → IsAmong ns n → i ≤ n
among_above i [] n r a = absurd a
among_above i (m ∷ ms) n r (inl e) = omega (arith, r.0, e)
among_above i (m ∷ ms) n r (inr a) = let k = among_above (suc m) ms n r.1 a in omega (arith, r.0, k)

pub same_number : (m n : ℕ) (xs ys : Args) → head m xs ≡ head n ys → m ≡ n
same_number m n xs ys e = cc

first_of_all : (g : Parts) (ctx : List (List ℕ)) (k : Kind) (m : ℕ) (ms : List ℕ) (ss : Shapes) (p : ℕ → Bool) (e : Expr) → HeadedBy g ctx k m ss p e → Headed g ctx k (m ∷ ms) ss p e
first_of_all g ctx k m ms ss p e h = record { number = m; args = h.args; is = h.is; among = inl refl; decl = h.decl; declared = h.declared; accepted = h.accepted; kind = h.kind; read = h.read }

one_of_rest : (g : Parts) (ctx : List (List ℕ)) (k : Kind) (m : ℕ) (ms : List ℕ) (ss : Shapes) (p : ℕ → Bool) (e : Expr) → Headed g ctx k ms ss p e → Headed g ctx k (m ∷ ms) ss p e
one_of_rest g ctx k m ms ss p e h = record { number = h.number; args = h.args; is = h.is; among = inr h.among; decl = h.decl; declared = h.declared; accepted = h.accepted; kind = h.kind; read = h.read }

first_or_rest : (g : Parts) (ctx : List (List ℕ)) (k : Kind) (m : ℕ) (ms : List ℕ) (ss : Shapes) (p : ℕ → Bool) (e : Expr) → (h : Headed g ctx k (m ∷ ms) ss p e) → HeadedBy g ctx k m ss p e ⊎ Headed g ctx k ms ss p e
first_or_rest g ctx k m ms ss p e h = elim h.among [
  | inl q ↦ inl (record { args = h.args; is = h.is ∙ ap (λ z. head z h.args) (sym q); decl = h.decl; declared = subst (λ z. Declares g z h.decl) (sym q) h.declared; accepted = h.accepted; kind = h.kind; read = h.read })
  | inr a ↦ inr (record { number = h.number; args = h.args; is = h.is; among = a; decl = h.decl; declared = h.declared; accepted = h.accepted; kind = h.kind; read = h.read })
]

not_both : (g : Parts) (ctx : List (List ℕ)) (k : Kind) (i m : ℕ) (ms : List ℕ) (ss : Shapes) (p : ℕ → Bool) (e : Expr) → AreRising i (m ∷ ms) → HeadedBy g ctx k m ss p e → Headed g ctx k ms ss p e → ⊥
not_both g ctx k i m ms ss p e r h l =
    let same = same_number m l.number h.args l.args (sym h.is ∙ l.is) in
    let above = among_above (suc m) ms l.number r.1 l.among in
    absurd (omega (arith, same, above))

pub headed_right : (g : Parts) → IsValid g → (ctx : List (List ℕ)) (k : Kind) → IsPlainKind k → (i : ℕ) (ns : List ℕ) → AreRising i ns → (ss : Shapes) (ps : List Spot) → AreSpots g ctx ss ps → (p : ℕ → Bool) → IsFound (Headed g ctx k ns ss p) (pick p (headed_in g k ns ps))
unfolding IsFound pick headed_in
headed_right g valid ctx k plain_kind i [] r ss ps spots p = λ e h. absurd h.among
headed_right g valid ctx k plain_kind i (m ∷ ms) r ss ps spots p =
    subst (λ z. IsFound (Headed g ctx k (m ∷ ms) ss p) z) (sym (pick_append p (head_in g k (slice_get g.decls m) m ps) (headed_in g k ms ps)))
    (joined (HeadedBy g ctx k m ss p) (Headed g ctx k ms ss p) (Headed g ctx k (m ∷ ms) ss p) (pick p (head_in g k (slice_get g.decls m) m ps)) (pick p (headed_in g k ms ps))
    (first_of_all g ctx k m ms ss p) (one_of_rest g ctx k m ms ss p) (first_or_rest g ctx k m ms ss p) (λ e. not_both g ctx k i m ms ss p e r)
    (option_right g valid ctx k plain_kind m (slice_get g.decls m) refl ss ps spots p) (headed_right g valid ctx k plain_kind (suc m) ms r.1 ss ps spots p))

-- Heads that look alike, by their receivers and their words.
use Rattle.std.proofs.Common.{◌≡◌, ◌≢◌, ◌∙◌, inl, inr, ap, sym, subst, refl, ℕ, ◌<◌, ◌^◌, ◌==◌, ◌&&◌, not, Bool, true, false, List, [], ◌∷◌, ◌++◌, length, Option, Some, None, is_some, codes, chars, IsUtf8, arith, ne_eqb, lit<, get_or}
use Rattle.std.proofs.lemmas.Bool.{false≢true, and_parts, eqb-false}
use Rattle.std.specs.Str.{NonePass}
use Rattle.std.proofs.lemmas.Str.{encodes-chars, NoCharPasses-byte}
use Rattle.java_units.specs.Signs.{has}
use Rattle.java_shapes.specs.Words.{spells_identifier, literals, IsPath}
use Rattle.terms.specs.Expr.{Expr, head, Args, no_args, plain, lam}
use Rattle.terms.specs.Typing.{type_in, fits}
use Rattle.terms.specs.Faults.{are_plain, IsValid}
use Rattle.terms.specs.Apart.{Declares, AreAlike, IsDotted, IsToldApart}
use Rattle.terms.specs.Text.{variable_text, is_this, head_decl}
use Rattle.terms.specs.declared.parts.Parts.{Parts}
use Rattle.terms.specs.declared.parts.Decl.{Decl}
use Rattle.terms.specs.declared.parts.Arg.{Arg}
use Rattle.terms.specs.declared.parts.Arg.TheVariants.{Plain, Fun}
use Rattle.terms.specs.declared.parts.Form.{Form}
use Rattle.terms.specs.declared.parts.Form.TheVariants.{Name, Call, Method, Field}
use Rattle.java_shapes.specs.Shape.{Shape, named, called, lambda, nothing, fresh, Shapes, no_shapes, shapes}
use Rattle.java_shapes.specs.Grammar.{IsShape, IsNameBehind}
use Rattle.java_shapes.specs.ShapeOf.{cast_shape, before_of, path_of, method_shape, field_shape, shape_in, shapes_in}
use Rattle.java_shapes.specs.Readable.{is_free, IsFormText, IsReadable, AreShort, HasShortRows, IsContext}
use Rattle.java_shapes.proofs.Typed.{below_typed, plain_fits, no_fit-plain_none, no_fit-lam_none, no_fit-none_some, no_fit-lam_plain}
use Rattle.java_shapes.proofs.WordFacts.{Lacks, lacks_not, lacks_head, lacks_tail, identifier_dotless, identifier_not_this, free_identifier, variable_not_free, variable_not_literal, variable_dotless, literal_word, first_whole}
use Rattle.java_shapes.proofs.Shaped.{named_is, called_is, NothingLeft, nothing_left, path_left, Heads, shape_head}
use Rattle.java_shapes.proofs.Cut.{this_at, own_field, IsCut, cut}
use Rattle.java_shapes.proofs.Told.{same_bytes, link_same, alike_plain, alike_turn, heads_told}

-- names
pub free_not_literal : (g : Parts) (w : List ℕ) → is_free (chars g.binder) w ≡ true → spells_identifier w ≡ true
free_not_literal g w h = free_identifier (chars g.binder) w h

pub var_name : (g : Parts) (n : ℕ) (s : List ℕ) → IsReadable g → n < 10 ^ 64 → IsFormText g (Name s) → chars (variable_text g n) ≡ chars s → ⊥
var_name g n s r l (u, inl path) e =
    let first = first_whole (chars g.binder) (chars s) path (subst (λ x. Lacks 46 x) e (variable_dotless g n r l)) in
    variable_not_free g n path.first r l path.first_is (e ∙ sym first)
var_name g n s r l (u, inr lit) e = variable_not_literal g n r l (subst (λ x. has literals x ≡ true) (sym e) lit)

-- a receiver before a word, against a text without one
pub cut_by : (g : Parts) (i : ℕ) (d : Decl) (s : List ℕ) (f : Form) → Declares g i d → d.form ≡ f → IsDotted f s → IsUtf8 s → IsPath (is_free (chars g.binder)) (is_free (chars g.binder)) (chars s) → IsCut g i d s
cut_by g i d s f declared form dots u path = record { declared = declared; dotted = λ t e. subst (λ x. IsDotted x t) (sym form) (subst (λ y. IsDotted f y) e dots); utf8 = u; path = path }

pub name_field_by : (g : Parts) → IsValid g → IsReadable g → IsToldApart g → (ctx : List (List ℕ)) → IsContext ctx → (i j : ℕ) (c d : Decl) (k l : Bool) (s w : List ℕ) (hidden : Bool) (bs : List Arg) (b : ℕ) (more : List Arg) (xs : Args) (e : Expr) (rest : Args) → Heads g ctx i c k (Name s) bs xs → Heads g ctx j d l (Field w hidden) (Plain b ∷ more) (plain e rest)
    → (flag : Bool) → (is_this (head_decl g e) && not (is_some (cast_shape g l (type_in g ctx e) b))) && not hidden ≡ flag → named nothing (chars s) ≡ field_shape flag (chars w) (shapes (cast_shape g l (type_in g ctx e) b) (shape_in g ctx e) (shapes_in g ctx l rest more)) → ⊥
name_field_by g valid read told ctx x i j c d k l s w true bs b more xs e rest a h true flag q = false≢true (and_parts (is_this (head_decl g e) && not (is_some (cast_shape g l (type_in g ctx e) b))) false flag).1
name_field_by g valid read told ctx x i j c d k l s w false bs b more xs e rest a h true flag q =
    let same = same_bytes s w a.text.0 h.text.0 (named_is nothing nothing (chars s) (chars w) q).1 in
    let parts = and_parts (is_this (head_decl g e) && not (is_some (cast_shape g l (type_in g ctx e) b))) true flag in
    let own = own_field g ctx j d l w false b more e rest h (and_parts (is_this (head_decl g e)) (not (is_some (cast_shape g l (type_in g ctx e) b))) parts.0).0 in
    told.fields_are_no_names i j c d w a.declared h.declared (a.form ∙ ap Name same) own
name_field_by g valid read told ctx x i j c d k l s w hidden bs b more xs e rest a h false flag q =
    let both = named_is nothing (before_of (cast_shape g l (type_in g ctx e) b) (shape_in g ctx e)) (chars s) (path_of (cast_shape g l (type_in g ctx e) b) (shape_in g ctx e) (chars w)) q in
    let n = nothing_left (cast_shape g l (type_in g ctx e) b) (shape_in g ctx e) (sym both.0) in
    let path = both.1 ∙ path_left (cast_shape g l (type_in g ctx e) b) (shape_in g ctx e) (chars w) n in
    by_text a.text n path
  where
    by_text : IsFormText g (Name s) → (n : NothingLeft (cast_shape g l (type_in g ctx e) b) (shape_in g ctx e)) → chars s ≡ n.text ++ 46 ∷ chars w → ⊥
    by_text (u, inl p) n path = cut g valid read told ctx x i c s (cut_by g i c s (Name s) a.declared a.form refl u p) e (below_typed g (type_in g ctx e) b (plain_fits g ctx e rest b more h.fit).0) n.text (chars w) n.is path
    by_text (u, inr lit) n path = lacks_not 46 (chars s) n.text (chars w) (literal_word (chars s) lit).dotless path

pub var_field_by : (g : Parts) → IsReadable g → (n : ℕ) → n < 10 ^ 64 → (w : List ℕ) → is_free (chars g.binder) w ≡ true → (c : Option (List ℕ)) (e : Shape) (rest : Shapes) (flag : Bool) → named nothing (chars (variable_text g n)) ≡ field_shape flag w (shapes c e rest) → ⊥
var_field_by g r n l w h c e rest true q = variable_not_free g n w r l h (named_is nothing nothing (chars (variable_text g n)) w q).1
var_field_by g r n l w h c e rest false q =
    let both = named_is nothing (before_of c e) (chars (variable_text g n)) (path_of c e w) q in
    let k = nothing_left c e (sym both.0) in
    lacks_not 46 (chars (variable_text g n)) k.text w (variable_dotless g n r l) (both.1 ∙ path_left c e w k)

pub this_field_by : (w : List ℕ) → spells_identifier w ≡ true → (c : Option (List ℕ)) (e : Shape) (rest : Shapes) (flag : Bool) → named nothing (codes "this") ≡ field_shape flag w (shapes c e rest) → ⊥
this_field_by w h c e rest true q = identifier_not_this w h (sym (named_is nothing nothing (codes "this") w q).1)
this_field_by w h c e rest false q =
    let both = named_is nothing (before_of c e) (codes "this") (path_of c e w) q in
    let k = nothing_left c e (sym both.0) in
    lacks_not 46 (codes "this") k.text w refl (both.1 ∙ path_left c e w k)

-- two receivers
pub record Pair (c d : Option (List ℕ)) (e f : Shape) (xs ys : Shapes) (w v : List ℕ) : Type 0 where
  pub words : w ≡ v
  pub args : shapes c e xs ≡ shapes d f ys

pub pair_of : (c d : Option (List ℕ)) (e f : Shape) (xs ys : Shapes) (w v : List ℕ) → c ≡ d → e ≡ f → xs ≡ ys → w ≡ v → Pair c d e f xs ys w v
pair_of c d e f xs ys w v p q r s = record { words = s; args = ap (λ x. shapes x e xs) p ∙ ap (λ x. shapes d x xs) q ∙ ap (shapes d f) r }

-- a bare receiver: `this` without a cast
pub record Bare (c : Option (List ℕ)) (e : Shape) : Type 0 where
  pub cast : c ≡ None
  pub shape : e ≡ named nothing (codes "this")

pub bare_by : (g : Parts) (ctx : List (List ℕ)) (e : Expr) (c : Option (List ℕ)) → type_in g ctx e ≢ None → is_this (head_decl g e) && not (is_some c) ≡ true → Bare c (shape_in g ctx e)
bare_by g ctx e c h t =
    let p = and_parts (is_this (head_decl g e)) (not (is_some c)) t in
    record { cast = none c p.1; shape = (this_at g ctx e p.0 h).shape }
  where
    none : (c : Option (List ℕ)) → not (is_some c) ≡ true → c ≡ None
    none None q = refl
    none (Some k) q = absurd (false≢true q)

pub both_bare : (c d : Option (List ℕ)) (e f : Shape) → Bare c e → Bare d f → (c ≡ d) × (e ≡ f)
both_bare c d e f a b = (a.cast ∙ sym b.cast, a.shape ∙ sym b.shape)

pub method_pair : (c d : Option (List ℕ)) (e f : Shape) (xs ys : Shapes) (w v : List ℕ) → Lacks 46 w → Lacks 46 v → (p q : Bool) → (p ≡ true → Bare c e) → (q ≡ true → Bare d f) → method_shape p w (shapes c e xs) ≡ method_shape q v (shapes d f ys) → Pair c d e f xs ys w v
method_pair c d e f xs ys w v lw lv true true a b z =
    let h = called_is nothing nothing w v xs ys z in
    let k = both_bare c d e f (a refl) (b refl) in
    pair_of c d e f xs ys w v k.0 k.1 h.2 h.1
method_pair c d e f xs ys w v lw lv true false a b z =
    let h = called_is nothing (before_of d f) w (path_of d f v) xs ys z in
    let n = nothing_left d f (sym h.0) in
    absurd (lacks_not 46 w n.text v lw (h.1 ∙ path_left d f v n))
method_pair c d e f xs ys w v lw lv false true a b z =
    let h = called_is (before_of c e) nothing (path_of c e w) v xs ys z in
    let n = nothing_left c e h.0 in
    absurd (lacks_not 46 v n.text w lv (sym h.1 ∙ path_left c e w n))
method_pair c d e f xs ys w v lw lv false false a b z =
    let h = called_is (before_of c e) (before_of d f) (path_of c e w) (path_of d f v) xs ys z in
    let k = link_same c d e f w v lw lv h.0 h.1 in
    pair_of c d e f xs ys w v k.casts k.shapes h.2 k.words

pub field_pair : (c d : Option (List ℕ)) (e f : Shape) (xs ys : Shapes) (w v : List ℕ) → xs ≡ ys → Lacks 46 w → Lacks 46 v → (p q : Bool) → (p ≡ true → Bare c e) → (q ≡ true → Bare d f) → field_shape p w (shapes c e xs) ≡ field_shape q v (shapes d f ys) → Pair c d e f xs ys w v
field_pair c d e f xs ys w v rest lw lv true true a b z =
    let h = named_is nothing nothing w v z in
    let k = both_bare c d e f (a refl) (b refl) in
    pair_of c d e f xs ys w v k.0 k.1 rest h.1
field_pair c d e f xs ys w v rest lw lv true false a b z =
    let h = named_is nothing (before_of d f) w (path_of d f v) z in
    let n = nothing_left d f (sym h.0) in
    absurd (lacks_not 46 w n.text v lw (h.1 ∙ path_left d f v n))
field_pair c d e f xs ys w v rest lw lv false true a b z =
    let h = named_is (before_of c e) nothing (path_of c e w) v z in
    let n = nothing_left c e h.0 in
    absurd (lacks_not 46 v n.text w lv (sym h.1 ∙ path_left c e w n))
field_pair c d e f xs ys w v rest lw lv false false a b z =
    let h = named_is (before_of c e) (before_of d f) (path_of c e w) (path_of d f v) z in
    let k = link_same c d e f w v lw lv h.0 h.1 in
    pair_of c d e f xs ys w v k.casts k.shapes rest k.words

pub no_more : (g : Parts) (ctx : List (List ℕ)) (k : Bool) (xs : Args) → fits g ctx xs [] ≡ true → shapes_in g ctx k xs [] ≡ no_shapes
unfolding shapes_in
no_more g ctx k no_args h = refl
no_more g ctx k (plain e rest) h = refl
no_more g ctx k (lam e rest) h = refl

pub no_args-of : (g : Parts) (ctx : List (List ℕ)) (xs : Args) → fits g ctx xs [] ≡ true → xs ≡ no_args
no_args-of g ctx no_args h = refl
no_args-of g ctx (plain e rest) h = absurd (no_fit-plain_none g ctx e rest h)
no_args-of g ctx (lam e rest) h = absurd (no_fit-lam_none g ctx e rest h)

-- no dot among the characters, so none among the bytes
pub none_pass : (cs : List ℕ) → Lacks 46 cs → NonePass (λ c. c == 46) cs
none_pass [] h = tt
none_pass (c ∷ cs) h = (ne_eqb c 46 (lacks_head 46 c cs h), none_pass cs (lacks_tail 46 c cs h))

pub here : (front rest : List ℕ) → (length front < length (front ++ 46 ∷ rest)) × (get_or (front ++ 46 ∷ rest) (length front) 0 ≡ 46)
here [] rest = (omega arith, refl)
here (c ∷ front) rest = let h = here front rest in (omega (arith, h.0), h.1)

pub no_byte : (w : List ℕ) → IsUtf8 w → Lacks 46 (chars w) → (front rest : List ℕ) → w ≡ front ++ 46 ∷ rest → ⊥
no_byte w u h front rest e =
    let at = subst (λ x. (length front < length x) × (get_or x (length front) 0 ≡ 46)) (sym e) (here front rest) in
    let low : get_or w (length front) 0 < 128 = subst (λ n. n < 128) (sym at.1) (lit< tt) in
    eqb-false (get_or w (length front) 0) 46 (NoCharPasses-byte (λ c. c == 46) w (length front) (chars w, encodes-chars w u, none_pass (chars w) h) at.0 low) at.1

-- a call before a method of a receiver
pub call_method_by : (g : Parts) → IsValid g → IsReadable g → IsToldApart g → (ctx : List (List ℕ)) → IsContext ctx → (i j : ℕ) (c d : Decl) (k l : Bool) (s w : List ℕ) (bs : List Arg) (b : ℕ) (more : List Arg) (xs : Args) (e : Expr) (rest : Args) (ss : Shapes) → Heads g ctx i c k (Call s) bs xs → Heads g ctx j d l (Method w) (Plain b ∷ more) (plain e rest)
    → (flag : Bool) → is_this (head_decl g e) && not (is_some (cast_shape g l (type_in g ctx e) b)) ≡ flag → called nothing (chars s) ss ≡ method_shape flag (chars w) (shapes (cast_shape g l (type_in g ctx e) b) (shape_in g ctx e) (shapes_in g ctx l rest more)) → ⊥
call_method_by g valid read told ctx x i j c d k l s w bs b more xs e rest ss a h true flag q =
    let typed = below_typed g (type_in g ctx e) b (plain_fits g ctx e rest b more h.fit).0 in
    let t = this_at g ctx e (and_parts (is_this (head_decl g e)) (not (is_some (cast_shape g l (type_in g ctx e) b))) flag).0 typed in
    let same = (called_is nothing nothing (chars s) (chars w) ss (shapes_in g ctx l rest more) q).1 in
    let dot = told.calls_have_dots t.number i t.decl c s t.declared a.declared t.is_this a.form in
    no_byte w h.text.0 (identifier_dotless (chars w) (free_identifier (chars g.binder) (chars w) h.text.1)) dot.front dot.rest (sym (same_bytes s w a.text.0 h.text.0 same) ∙ dot.is)
call_method_by g valid read told ctx x i j c d k l s w bs b more xs e rest ss a h false flag q =
    let typed = below_typed g (type_in g ctx e) b (plain_fits g ctx e rest b more h.fit).0 in
    let both = called_is nothing (before_of (cast_shape g l (type_in g ctx e) b) (shape_in g ctx e)) (chars s) (path_of (cast_shape g l (type_in g ctx e) b) (shape_in g ctx e) (chars w)) ss (shapes_in g ctx l rest more) q in
    let n = nothing_left (cast_shape g l (type_in g ctx e) b) (shape_in g ctx e) (sym both.0) in
    cut g valid read told ctx x i c s (cut_by g i c s (Call s) a.declared a.form refl a.text.0 a.text.1) e typed n.text (chars w) n.is (both.1 ∙ path_left (cast_shape g l (type_in g ctx e) b) (shape_in g ctx e) (chars w) n)

pub new_method_by : (c : Option (List ℕ)) (e : Shape) (rest ss : Shapes) (s w : List ℕ) → (before_of c e ≡ fresh → ⊥) → (flag : Bool) → called fresh s ss ≡ method_shape flag w (shapes c e rest) → ⊥
new_method_by c e rest ss s w no_fresh true q = no_before (called_is fresh nothing s w ss rest q).0
  where
    no_before : fresh ≡ nothing → ⊥
    no_before z = cc
new_method_by c e rest ss s w no_fresh false q = no_fresh (sym (called_is fresh (before_of c e) s (path_of c e w) ss rest q).0)

-- nothing is named behind `new`
pub not_fresh : (p : List ℕ) (c : Option (List ℕ)) (e : Shape) → IsShape p e → before_of c e ≡ fresh → ⊥
unfolding IsShape
not_fresh p (Some k) e h q = cc
not_fresh p None (named b t) h q = subst (λ x. IsNameBehind x t) q h.1
not_fresh p None (called b t xs) h q = cc
not_fresh p None (lambda s bs c e) h q = cc

-- rows that are the same at each lambda
abbrev pub SameRows : List Arg → List Arg → Type 0
SameRows [] cs = Unit {0}
SameRows (b ∷ bs) [] = Unit {0}
SameRows (Plain b ∷ bs) (Plain c ∷ cs) = SameRows bs cs
SameRows (Plain b ∷ bs) (Fun ps r ∷ cs) = ⊥
SameRows (Fun ps r ∷ bs) (Plain c ∷ cs) = ⊥
SameRows (Fun ps r ∷ bs) (Fun qs u ∷ cs) = (ps ≡ qs) × SameRows bs cs

pub same_rows-plain : (bs cs : List Arg) → are_plain bs ≡ true → are_plain cs ≡ true → SameRows bs cs
same_rows-plain [] cs p q = tt
same_rows-plain (Plain b ∷ bs) [] p q = tt
same_rows-plain (Fun ps r ∷ bs) [] p q = tt
same_rows-plain (Plain b ∷ bs) (Plain c ∷ cs) p q = same_rows-plain bs cs p q
same_rows-plain (Plain b ∷ bs) (Fun qs u ∷ cs) p q = absurd (false≢true q)
same_rows-plain (Fun ps r ∷ bs) (c ∷ cs) p q = absurd (false≢true p)

pub same_rows-itself : (bs : List Arg) → SameRows bs bs
same_rows-itself [] = tt
same_rows-itself (Plain b ∷ bs) = same_rows-itself bs
same_rows-itself (Fun ps r ∷ bs) = (refl, same_rows-itself bs)

-- what the induction says of the arguments of two heads
abbrev pub ArgsTold : Parts → List (List ℕ) → Args → Args → Type 0
ArgsTold g ctx xs ys = (k l : Bool) (bs cs : List Arg) → SameRows bs cs → AreShort bs → fits g ctx xs bs ≡ true → fits g ctx ys cs ≡ true → shapes_in g ctx k xs bs ≡ shapes_in g ctx l ys cs → xs ≡ ys

pub alike_told : (g : Parts) → IsValid g → IsReadable g → HasShortRows g → IsToldApart g → (ctx : List (List ℕ)) (i j : ℕ) (c d : Decl) (k l : Bool) (f h : Form) (bs cs : List Arg) (xs ys : Args) → Heads g ctx i c k f bs xs → Heads g ctx j d l h cs ys → AreAlike f h → ArgsTold g ctx xs ys → shapes_in g ctx k xs bs ≡ shapes_in g ctx l ys cs → head i xs ≡ head j ys
alike_told g valid read short told ctx i j c d k l f h bs cs xs ys a b alike args same =
    heads_told g valid read told ctx i j c d k l f h bs cs xs ys a b alike same
    (args k l bs cs (same_rows-plain bs cs (alike_plain f h bs alike a.well_formed) (alike_plain h f cs (alike_turn f h alike) b.well_formed)) (subst AreShort a.args (short i c a.declared)) a.fit b.fit same)

pub told_methods : (g : Parts) → IsValid g → IsReadable g → HasShortRows g → IsToldApart g → (ctx : List (List ℕ)) (i j : ℕ) (c d : Decl) (k l : Bool) (w v : List ℕ) (bs cs : List Arg) (xs ys : Args) → Heads g ctx i c k (Method w) bs xs → Heads g ctx j d l (Method v) cs ys → ArgsTold g ctx xs ys
    → shape_head g ctx k (Method w) bs xs ≡ shape_head g ctx l (Method v) cs ys → head i xs ≡ head j ys
unfolding shapes_in shape_head
told_methods g valid read short told ctx i j c d k l w v [] cs xs ys a b args q = absurd (false≢true a.well_formed)
told_methods g valid read short told ctx i j c d k l w v (Fun ps r ∷ us) cs xs ys a b args q = absurd (false≢true a.well_formed)
told_methods g valid read short told ctx i j c d k l w v (Plain p ∷ us) [] xs ys a b args q = absurd (false≢true b.well_formed)
told_methods g valid read short told ctx i j c d k l w v (Plain p ∷ us) (Fun ps r ∷ vs) xs ys a b args q = absurd (false≢true b.well_formed)
told_methods g valid read short told ctx i j c d k l w v (Plain p ∷ us) (Plain o ∷ vs) no_args ys a b args q = absurd (no_fit-none_some g ctx (Plain p) us a.fit)
told_methods g valid read short told ctx i j c d k l w v (Plain p ∷ us) (Plain o ∷ vs) (lam e rest) ys a b args q = absurd (no_fit-lam_plain g ctx e rest p us a.fit)
told_methods g valid read short told ctx i j c d k l w v (Plain p ∷ us) (Plain o ∷ vs) (plain e rest) no_args a b args q = absurd (no_fit-none_some g ctx (Plain o) vs b.fit)
told_methods g valid read short told ctx i j c d k l w v (Plain p ∷ us) (Plain o ∷ vs) (plain e rest) (lam f others) a b args q = absurd (no_fit-lam_plain g ctx f others o vs b.fit)
told_methods g valid read short told ctx i j c d k l w v (Plain p ∷ us) (Plain o ∷ vs) (plain e rest) (plain f others) a b args q =
    let te = below_typed g (type_in g ctx e) p (plain_fits g ctx e rest p us a.fit).0 in
    let tf = below_typed g (type_in g ctx f) o (plain_fits g ctx f others o vs b.fit).0 in
    let ce = cast_shape g k (type_in g ctx e) p in
    let cf = cast_shape g l (type_in g ctx f) o in
    let pair = method_pair ce cf (shape_in g ctx e) (shape_in g ctx f) (shapes_in g ctx k rest us) (shapes_in g ctx l others vs) (chars w) (chars v)
    (identifier_dotless (chars w) (free_identifier (chars g.binder) (chars w) a.text.1)) (identifier_dotless (chars v) (free_identifier (chars g.binder) (chars v) b.text.1))
    (is_this (head_decl g e) && not (is_some ce)) (is_this (head_decl g f) && not (is_some cf)) (bare_by g ctx e ce te) (bare_by g ctx f cf tf) q in
    alike_told g valid read short told ctx i j c d k l (Method w) (Method v) (Plain p ∷ us) (Plain o ∷ vs) (plain e rest) (plain f others) a b (same_bytes w v a.text.0 b.text.0 pair.words) args pair.args

pub told_fields : (g : Parts) → IsValid g → IsReadable g → HasShortRows g → IsToldApart g → (ctx : List (List ℕ)) (i j : ℕ) (c d : Decl) (k l : Bool) (w v : List ℕ) (h m : Bool) (bs cs : List Arg) (xs ys : Args) → Heads g ctx i c k (Field w h) bs xs → Heads g ctx j d l (Field v m) cs ys → ArgsTold g ctx xs ys
    → shape_head g ctx k (Field w h) bs xs ≡ shape_head g ctx l (Field v m) cs ys → head i xs ≡ head j ys
unfolding shapes_in shape_head
told_fields g valid read short told ctx i j c d k l w v h m [] cs xs ys a b args q = absurd (false≢true a.well_formed)
told_fields g valid read short told ctx i j c d k l w v h m (Fun ps r ∷ us) cs xs ys a b args q = absurd (false≢true a.well_formed)
told_fields g valid read short told ctx i j c d k l w v h m (Plain p ∷ u ∷ us) cs xs ys a b args q = absurd (false≢true a.well_formed)
told_fields g valid read short told ctx i j c d k l w v h m (Plain p ∷ []) [] xs ys a b args q = absurd (false≢true b.well_formed)
told_fields g valid read short told ctx i j c d k l w v h m (Plain p ∷ []) (Fun ps r ∷ vs) xs ys a b args q = absurd (false≢true b.well_formed)
told_fields g valid read short told ctx i j c d k l w v h m (Plain p ∷ []) (Plain o ∷ u ∷ vs) xs ys a b args q = absurd (false≢true b.well_formed)
told_fields g valid read short told ctx i j c d k l w v h m (Plain p ∷ []) (Plain o ∷ []) no_args ys a b args q = absurd (no_fit-none_some g ctx (Plain p) [] a.fit)
told_fields g valid read short told ctx i j c d k l w v h m (Plain p ∷ []) (Plain o ∷ []) (lam e rest) ys a b args q = absurd (no_fit-lam_plain g ctx e rest p [] a.fit)
told_fields g valid read short told ctx i j c d k l w v h m (Plain p ∷ []) (Plain o ∷ []) (plain e rest) no_args a b args q = absurd (no_fit-none_some g ctx (Plain o) [] b.fit)
told_fields g valid read short told ctx i j c d k l w v h m (Plain p ∷ []) (Plain o ∷ []) (plain e rest) (lam f others) a b args q = absurd (no_fit-lam_plain g ctx f others o [] b.fit)
told_fields g valid read short told ctx i j c d k l w v h m (Plain p ∷ []) (Plain o ∷ []) (plain e rest) (plain f others) a b args q =
    let fe = plain_fits g ctx e rest p [] a.fit in
    let ff = plain_fits g ctx f others o [] b.fit in
    let te = below_typed g (type_in g ctx e) p fe.0 in
    let tf = below_typed g (type_in g ctx f) o ff.0 in
    let ce = cast_shape g k (type_in g ctx e) p in
    let cf = cast_shape g l (type_in g ctx f) o in
    let pair = field_pair ce cf (shape_in g ctx e) (shape_in g ctx f) (shapes_in g ctx k rest []) (shapes_in g ctx l others []) (chars w) (chars v)
    (no_more g ctx k rest fe.1 ∙ sym (no_more g ctx l others ff.1))
    (identifier_dotless (chars w) (free_identifier (chars g.binder) (chars w) a.text.1)) (identifier_dotless (chars v) (free_identifier (chars g.binder) (chars v) b.text.1))
    ((is_this (head_decl g e) && not (is_some ce)) && not h) ((is_this (head_decl g f) && not (is_some cf)) && not m)
    (λ z. bare_by g ctx e ce te (and_parts (is_this (head_decl g e) && not (is_some ce)) (not h) z).0) (λ z. bare_by g ctx f cf tf (and_parts (is_this (head_decl g f) && not (is_some cf)) (not m) z).0) q in
    alike_told g valid read short told ctx i j c d k l (Field w h) (Field v m) (Plain p ∷ []) (Plain o ∷ []) (plain e rest) (plain f others) a b (same_bytes w v a.text.0 b.text.0 pair.words) args pair.args

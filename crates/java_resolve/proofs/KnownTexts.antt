-- The texts of well typed terms are known: each identifier is a word of a form, of a type that a crowded declaration
-- wants, or a binder around it.
use Rattle.std.proofs.Common.{◌≡◌, ◌≢◌, ◌∙◌, ap, sym, subst, refl, arith, ℕ, zero, suc, ◌+◌, ◌<◌, ◌≤◌, ◌^◌, Bool, true, false, ◌||◌, ◌&&◌, not, List, [], ◌∷◌, ◌++◌, length, slice_get, Option, Some, None, is_some, ◌⊎◌, inl, inr, chars, codes, append_assoc, append-nil, length-append, if◌then◌else◌, bytes_eq}
use Rattle.std.specs.List.{list_all}
use Rattle.std.specs.Option.{option_map}
use Rattle.std.proofs.lemmas.Bool.{and_parts, or_right, false≢true}
use Rattle.std.proofs.lemmas.List.Folds.{list_all-append}
use Rattle.std.proofs.Math.Nat.{eq-or-lt_of_le}
use Rattle.java_tokens.specs.Classes.{is_word_part}
use Rattle.java_units.specs.Signs.{has}
use Rattle.terms.specs.Expr.{Expr, var, head, Args, no_args, plain, lam}
use Rattle.terms.specs.Typing.{type_in, fits, joined}
use Rattle.terms.specs.Faults.{are_plain, IsValid}
use Rattle.terms.specs.Apart.{Declares, Wants}
use Rattle.terms.specs.Text.{variable_text, type_text, differs, is_this, head_decl}
use Rattle.terms.specs.declared.parts.Arg.{Arg}
use Rattle.terms.specs.declared.parts.Arg.TheVariants.{Plain, Fun}
use Rattle.terms.specs.declared.parts.Decl.{Decl}
use Rattle.terms.specs.declared.parts.Form.{Form}
use Rattle.terms.specs.declared.parts.Form.TheVariants.{Name, This, Call, New, Method, Field, Lambda}
use Rattle.terms.specs.declared.parts.Parts.{Parts}
use Rattle.java_shapes.specs.Words.{spells_identifier}
use Rattle.java_shapes.specs.Shape.{Shape, named, called, lambda, Shapes, no_shapes, shapes}
use Rattle.java_shapes.specs.ShapeOf.{cast_shape, before_of, path_of, method_shape, field_shape, binder_shapes, shape_in, shapes_in}
use Rattle.java_shapes.specs.Readable.{IsReadable, HasShortRows, AreShort, IsContext}
use Rattle.java_shapes.proofs.Typed.{below_typed, plain_fits, lam_fits, no_fit-plain_none, no_fit-lam_none, no_fit-none_some, no_fit-plain_fun, no_fit-lam_plain, few_variables, context_more, few_typed, opened}
use Rattle.java_shapes.proofs.WordFacts.{and_both, no_part-dot, no_this, not_true, word_parts, identifier_word, variable_identifier}
use Rattle.java_shapes.proofs.RunWords.{word_this}
use Rattle.java_shapes.proofs.Shaped.{Heads, heads, shape_head, shaped}
use Rattle.java_resolve.specs.Pieces.{Piece, sign, word, cut, cast_pieces, header_pieces, binder_pieces, call_pieces, args_pieces, shape_pieces, before_pieces, separator}
use Rattle.java_resolve.specs.Known.{words, words_of, form_words, wanted_words, decl_words, decls_words, is_declared, is_known, AreKnown}
use Rattle.java_resolve.proofs.Adding.{has_append}
use Rattle.java_resolve.proofs.Keys.{bytes_self}
use Rattle.java_resolve.proofs.Pieces.{known_append}

or_left : (a b : Bool) → a ≡ true → (a || b) ≡ true
or_left true b e = refl
or_left false b e = absurd (false≢true e)

-- words of lists of words
has_first : (x : List ℕ) (xs : List (List ℕ)) → has (x ∷ xs) x ≡ true
unfolding has
has_first x xs = or_left (bytes_eq x x) (has xs x) (bytes_self x)

has_rest : (x : List ℕ) (xs : List (List ℕ)) (w : List ℕ) → has xs w ≡ true → has (x ∷ xs) w ≡ true
unfolding has
has_rest x xs w h = or_right (bytes_eq x w) (has xs w) h

has_left : (xs ys : List (List ℕ)) (w : List ℕ) → has xs w ≡ true → has (xs ++ ys) w ≡ true
has_left xs ys w h = has_append xs ys w ∙ or_left (has xs w) (has ys w) h

has_right : (xs ys : List (List ℕ)) (w : List ℕ) → has ys w ≡ true → has (xs ++ ys) w ≡ true
has_right xs ys w h = has_append xs ys w ∙ or_right (has xs w) (has ys w) h

all_has : (p : List ℕ → Bool) (ws : List (List ℕ)) → ((w : List ℕ) → has ws w ≡ true → p w ≡ true) → list_all p ws ≡ true
all_has p [] h = refl
all_has p (x ∷ xs) h = and_both (p x) (list_all p xs) (h x (has_first x xs)) (all_has p xs (λ w k. h w (has_rest x xs w k)))

-- declared words
decl_in : (g : Parts) (ds : List Decl) (i : ℕ) (d : Decl) → slice_get ds i ≡ Some d → (w : List ℕ) → has (decl_words g d) w ≡ true → has (decls_words g ds) w ≡ true
unfolding decls_words
decl_in g [] i d e w h = absurd cc
decl_in g (c ∷ ds) zero d e w h = let same : d ≡ c = cc in has_left (decl_words g c) (decls_words g ds) w (subst (λ z. has (decl_words g z) w ≡ true) same h)
decl_in g (c ∷ ds) (suc i) d e w h = has_right (decl_words g c) (decls_words g ds) w (decl_in g ds i d e w h)

declared_word : (g : Parts) (i : ℕ) (d : Decl) → Declares g i d → (w : List ℕ) → has (decl_words g d) w ≡ true → is_declared g w ≡ true
unfolding is_declared
declared_word g i d at w h = decl_in g g.decls i d at w h

form_declared : (g : Parts) (i : ℕ) (d : Decl) → Declares g i d → list_all (is_declared g) (form_words d.form) ≡ true
form_declared g i d at = all_has (is_declared g) (form_words d.form) (λ w h. declared_word g i d at w (has_left (form_words d.form) (if d.crowded then wanted_words g d.args else []) w h))

wanted_in : (g : Parts) (ws : List Arg) (b : ℕ) → Wants ws b → (w : List ℕ) → has (words_of (type_text g b)) w ≡ true → has (wanted_words g ws) w ≡ true
unfolding wanted_words
wanted_in g [] b k w h = absurd k
wanted_in g (Plain a ∷ more) b (inl e) w h = has_left (words_of (type_text g a)) (wanted_words g more) w (subst (λ z. has (words_of (type_text g z)) w ≡ true) (sym e) h)
wanted_in g (Plain a ∷ more) b (inr k) w h = has_right (words_of (type_text g a)) (wanted_words g more) w (wanted_in g more b k w h)
wanted_in g (Fun ps r ∷ more) b (inl e) w h = has_left (words_of (type_text g r)) (wanted_words g more) w (subst (λ z. has (words_of (type_text g z)) w ≡ true) (sym e) h)
wanted_in g (Fun ps r ∷ more) b (inr k) w h = has_right (words_of (type_text g r)) (wanted_words g more) w (wanted_in g more b k w h)

type_declared : (g : Parts) (i : ℕ) (d : Decl) → Declares g i d → d.crowded ≡ true → (b : ℕ) → Wants d.args b → list_all (is_declared g) (words_of (type_text g b)) ≡ true
type_declared g i d at crowded b k =
    all_has (is_declared g) (words_of (type_text g b))
    (λ w h. declared_word g i d at w (has_right (form_words d.form) (if d.crowded then wanted_words g d.args else []) w (subst (λ z. has (if z then wanted_words g d.args else []) w ≡ true) (sym crowded) (wanted_in g d.args b k w h))))

-- pieces
word_known : (d : List ℕ → Bool) (bound : List (List ℕ)) (w : List ℕ) → d w ≡ true → is_known d (word bound w) ≡ true
unfolding is_known
word_known d bound w h = or_right (not (spells_identifier w)) (d w || has bound w) (or_left (d w) (has bound w) h)

bound_known : (d : List ℕ → Bool) (bound : List (List ℕ)) (w : List ℕ) → has bound w ≡ true → is_known d (word bound w) ≡ true
unfolding is_known
bound_known d bound w h = or_right (not (spells_identifier w)) (d w || has bound w) (or_right (d w) (has bound w) h)

sign_known : (d : List ℕ → Bool) (t : List ℕ) (ps : List Piece) → AreKnown d ps → AreKnown d (sign t ∷ ps)
unfolding is_known
sign_known d t ps h = h

first_known : (d : List ℕ → Bool) (p : Piece) (ps : List Piece) → is_known d p ≡ true → AreKnown d ps → AreKnown d (p ∷ ps)
first_known d p ps h k = and_both (is_known d p) (list_all (is_known d) ps) h k

known_parts : (d : List ℕ → Bool) (ps qs : List Piece) → AreKnown d (ps ++ qs) → AreKnown d ps × AreKnown d qs
known_parts d ps qs h = and_parts (list_all (is_known d) ps) (list_all (is_known d) qs) (sym (list_all-append (is_known d) ps qs) ∙ h)

cut_by : (d : List ℕ → Bool) (bound : List (List ℕ)) (w : List ℕ) (c : ℕ) (cs : List ℕ) (b : Bool) → list_all d (if b then words (w ++ c ∷ []) cs else w ∷ words [] cs) ≡ true → (list_all d (words (w ++ c ∷ []) cs) ≡ true → AreKnown d (cut bound (w ++ c ∷ []) cs)) → (list_all d (words [] cs) ≡ true → AreKnown d (cut bound [] cs)) → AreKnown d (if b then cut bound (w ++ c ∷ []) cs else word bound w ∷ sign (c ∷ []) ∷ cut bound [] cs)
cut_by d bound w c cs true h f k = f h
cut_by d bound w c cs false h f k =
    let a = and_parts (d w) (list_all d (words [] cs)) h in
    first_known d (word bound w) (sign (c ∷ []) ∷ cut bound [] cs) (word_known d bound w a.0) (sign_known d (c ∷ []) (cut bound [] cs) (k a.1))

cut_known : (d : List ℕ → Bool) (bound : List (List ℕ)) (w cs : List ℕ) → list_all d (words w cs) ≡ true → AreKnown d (cut bound w cs)
unfolding words cut
cut_known d bound w [] h = first_known d (word bound w) [] (word_known d bound w (and_parts (d w) true h).0) refl
cut_known d bound w (c ∷ cs) h = cut_by d bound w c cs (is_word_part c) h (cut_known d bound (w ++ c ∷ []) cs) (cut_known d bound [] cs)

dot_end : (d : List ℕ → Bool) (bound : List (List ℕ)) (w rest : List ℕ) (b : Bool) → b ≡ false → is_known d (word bound w) ≡ true → AreKnown d (cut bound [] rest) → AreKnown d (if b then cut bound (w ++ 46 ∷ []) rest else word bound w ∷ sign (46 ∷ []) ∷ cut bound [] rest)
dot_end d bound w rest true e h k = absurd (false≢true (sym e))
dot_end d bound w rest false e h k = first_known d (word bound w) (sign (46 ∷ []) ∷ cut bound [] rest) h (sign_known d (46 ∷ []) (cut bound [] rest) k)

dot_by : (d : List ℕ → Bool) (bound : List (List ℕ)) (w : List ℕ) (c : ℕ) (ps qs us vs : List Piece) (b : Bool) → AreKnown d (if b then ps else word bound w ∷ sign (c ∷ []) ∷ qs) → (AreKnown d ps → AreKnown d us) → (AreKnown d qs → AreKnown d vs) → AreKnown d (if b then us else word bound w ∷ sign (c ∷ []) ∷ vs)
dot_by d bound w c ps qs us vs true h f k = f h
dot_by d bound w c ps qs us vs false h f k =
    let a = known_parts d (word bound w ∷ sign (c ∷ []) ∷ []) qs h in
    known_append d (word bound w ∷ sign (c ∷ []) ∷ []) vs a.0 (k a.1)

dot_known : (d : List ℕ → Bool) (bound : List (List ℕ)) (w cs rest : List ℕ) → AreKnown d (cut bound w cs) → AreKnown d (cut bound [] rest) → AreKnown d (cut bound w (cs ++ 46 ∷ rest))
unfolding cut
dot_known d bound w [] rest h k = dot_end d bound w rest (is_word_part 46) no_part-dot (and_parts (is_known d (word bound w)) true h).0 k
dot_known d bound w (c ∷ cs) rest h k =
    dot_by d bound w c (cut bound (w ++ c ∷ []) cs) (cut bound [] cs) (cut bound (w ++ c ∷ []) (cs ++ 46 ∷ rest)) (cut bound [] (cs ++ 46 ∷ rest)) (is_word_part c) h
    (λ m. dot_known d bound (w ++ c ∷ []) cs rest m k) (λ m. dot_known d bound [] cs rest m k)

cut_word : (bound : List (List ℕ)) (w cs : List ℕ) → list_all is_word_part cs ≡ true → cut bound w cs ≡ word bound (w ++ cs) ∷ []
unfolding cut
cut_word bound w [] h = ap (λ z. word bound z ∷ []) (sym (append-nil w))
cut_word bound w (c ∷ cs) h =
    let a = and_parts (is_word_part c) (list_all is_word_part cs) h in
    ap (λ b. if b then cut bound (w ++ c ∷ []) cs else word bound w ∷ sign (c ∷ []) ∷ cut bound [] cs) a.0
    ∙ cut_word bound (w ++ c ∷ []) cs a.1 ∙ ap (λ z. word bound z ∷ []) (append_assoc w (c ∷ []) cs)

this_word : (d : List ℕ → Bool) (bound : List (List ℕ)) → is_known d (word bound (codes "this")) ≡ true
unfolding is_known
this_word d bound = or_left (not (spells_identifier (codes "this"))) (d (codes "this") || has bound (codes "this")) (not_true (spells_identifier (codes "this")) no_this)

this_known : (d : List ℕ → Bool) (bound : List (List ℕ)) → AreKnown d (cut bound [] (codes "this"))
this_known d bound = subst (λ ps. AreKnown d ps) (sym (cut_word bound [] (codes "this") (word_parts (codes "this") word_this))) (first_known d (word bound (codes "this")) [] (this_word d bound) refl)

-- variables, within their binders
abbrev pub Binds : Parts → List (List ℕ) → ℕ → Type 0
Binds g bound m = (n : ℕ) → n < m → has bound (chars (variable_text g n)) ≡ true

variable_known : (g : Parts) → IsReadable g → (d : List ℕ → Bool) (bound : List (List ℕ)) (n : ℕ) → n < 10 ^ 64 → has bound (chars (variable_text g n)) ≡ true → AreKnown d (cut bound [] (chars (variable_text g n)))
variable_known g r d bound n l h =
    let t = chars (variable_text g n) in
    subst (λ ps. AreKnown d ps) (sym (cut_word bound [] t (word_parts t (identifier_word t (variable_identifier g n r l))))) (first_known d (word bound t) [] (bound_known d bound t h) refl)

has_binder : (g : Parts) (k m n : ℕ) → m ≤ n → n < m + k → has (binder_shapes g m k) (chars (variable_text g n)) ≡ true
has_binder g zero m n l h = absurd (omega (arith, l, h))
has_binder g (suc k) m n l h = elim (eq-or-lt_of_le {n = m} {m = n} l) [
  | inl e ↦ subst (λ z. has (binder_shapes g m (suc k)) (chars (variable_text g z)) ≡ true) e (has_first (chars (variable_text g m)) (binder_shapes g (m + 1) k))
  | inr b ↦ has_rest (chars (variable_text g m)) (binder_shapes g (m + 1) k) (chars (variable_text g n)) (has_binder g k (m + 1) n (omega (arith, b)) (omega (arith, h)))
]

binds_more : (g : Parts) (bound : List (List ℕ)) (m k all : ℕ) → Binds g bound m → all ≡ m + k → Binds g (bound ++ binder_shapes g m k) all
binds_more g bound m k all h e n l = elim (below_or n m) [
  | inl b ↦ has_left bound (binder_shapes g m k) (chars (variable_text g n)) (h n b)
  | inr b ↦ has_right bound (binder_shapes g m k) (chars (variable_text g n)) (has_binder g k m n b (omega (arith, l, e)))
]
  where
    below_or : (n m : ℕ) → (n < m) ⊎ (m ≤ n)
    below_or zero zero = inr (omega arith)
    below_or zero (suc m) = inl (omega arith)
    below_or (suc n) zero = inr (omega arith)
    below_or (suc n) (suc m) = elim (below_or n m) [ inl h ↦ inl (omega (arith, h)) | inr h ↦ inr (omega (arith, h)) ]

binders_known : (g : Parts) → IsReadable g → (d : List ℕ → Bool) (bound : List (List ℕ)) (k m : ℕ) (first : Bool) → m + k ≤ 10 ^ 64 → Binds g bound (m + k) → AreKnown d (binder_pieces bound first (binder_shapes g m k))
unfolding binder_pieces
binders_known g r d bound zero m first l h = refl
binders_known g r d bound (suc k) m first l h =
    known_append d (sign (separator first) ∷ cut bound [] (chars (variable_text g m))) (binder_pieces bound false (binder_shapes g (m + 1) k))
    (sign_known d (separator first) (cut bound [] (chars (variable_text g m))) (variable_known g r d bound m (omega (arith, l)) (h m (omega arith))))
    (binders_known g r d bound k (m + 1) false (omega (arith, l)) (λ n b. h n (omega (arith, b))))

joined_more : (ctx : List (List ℕ)) (ps : List ℕ) → length (joined (ctx ++ ps ∷ [])) ≡ length (joined ctx) + length ps
unfolding joined
joined_more [] ps = omega (arith, length-append ps [])
joined_more (row ∷ more) ps = omega (arith, length-append row (joined (more ++ ps ∷ [])), length-append row (joined more), joined_more more ps)

typed_below : (g : Parts) (ctx : List (List ℕ)) (n : ℕ) → type_in g ctx (var n) ≢ None → n < length (joined ctx)
unfolding type_in
typed_below g ctx n h = below_length (joined ctx) n h
  where
    below_length : (xs : List ℕ) (n : ℕ) → slice_get xs n ≢ None → n < length xs
    below_length [] n h = absurd (h refl)
    below_length (x ∷ xs) zero h = omega arith
    below_length (x ∷ xs) (suc n) h = let k = below_length xs n h in omega (arith, k)

-- the arguments of a head
abbrev pub KnownArgs : (List ℕ → Bool) → Parts → ℕ → List (List ℕ) → List Arg → Shapes → Type 0
KnownArgs d g m bound [] no_shapes = Unit {0}
KnownArgs d g m bound [] (shapes c e rest) = ⊥
KnownArgs d g m bound (Plain b ∷ more) no_shapes = ⊥
KnownArgs d g m bound (Plain b ∷ more) (shapes c e rest) = AreKnown d (cast_pieces bound c) × AreKnown d (shape_pieces bound e) × KnownArgs d g m bound more rest
KnownArgs d g m bound (Fun ps r ∷ more) no_shapes = ⊥
KnownArgs d g m bound (Fun ps r ∷ more) (shapes c e rest) = AreKnown d (cast_pieces (bound ++ binder_shapes g m (length ps)) c) × AreKnown d (shape_pieces (bound ++ binder_shapes g m (length ps)) e) × KnownArgs d g m bound more rest

args_known : (d : List ℕ → Bool) (g : Parts) (m : ℕ) (bound : List (List ℕ)) (first : Bool) (ws : List Arg) (ss : Shapes) → are_plain ws ≡ true → KnownArgs d g m bound ws ss → AreKnown d (args_pieces bound first ss)
unfolding args_pieces
args_known d g m bound first [] no_shapes p h = refl
args_known d g m bound first [] (shapes c e rest) p h = absurd h
args_known d g m bound first (Plain b ∷ more) no_shapes p h = absurd h
args_known d g m bound first (Fun ps r ∷ more) ss p h = absurd (false≢true p)
args_known d g m bound first (Plain b ∷ more) (shapes c e rest) p h =
    known_append d (sign (separator first) ∷ (cast_pieces bound c ++ shape_pieces bound e)) (args_pieces bound false rest)
    (sign_known d (separator first) (cast_pieces bound c ++ shape_pieces bound e) (known_append d (cast_pieces bound c) (shape_pieces bound e) h.0 h.1))
    (args_known d g m bound false more rest p h.2)

call_known : (d : List ℕ → Bool) (g : Parts) (m : ℕ) (bound : List (List ℕ)) (ws : List Arg) (ss : Shapes) → are_plain ws ≡ true → KnownArgs d g m bound ws ss → AreKnown d (call_pieces bound ss)
call_known d g m bound ws ss p h =
    sign_known d (codes "(") (args_pieces bound true ss ++ sign (codes ")") ∷ [])
    (known_append d (args_pieces bound true ss) (sign (codes ")") ∷ []) (args_known d g m bound true ws ss p h) (sign_known d (codes ")") [] refl))

-- a receiver, its dot and the word behind it
receiver_known : (d : List ℕ → Bool) (bound : List (List ℕ)) (c : Option (List ℕ)) (e : Shape) (w : List ℕ) → AreKnown d (cast_pieces bound c) → AreKnown d (shape_pieces bound e) → AreKnown d (cut bound [] w) → AreKnown d (before_pieces bound (before_of c e) ++ cut bound [] (path_of c e w))
unfolding shape_pieces before_pieces args_pieces
receiver_known d bound (Some k) e w h s v =
    known_append d (sign (codes "(") ∷ ((cast_pieces bound (Some k) ++ shape_pieces bound e) ++ sign (codes ").") ∷ [])) (cut bound [] w)
    (sign_known d (codes "(") ((cast_pieces bound (Some k) ++ shape_pieces bound e) ++ sign (codes ").") ∷ [])
    (known_append d (cast_pieces bound (Some k) ++ shape_pieces bound e) (sign (codes ").") ∷ []) (known_append d (cast_pieces bound (Some k)) (shape_pieces bound e) h s) (sign_known d (codes ").") [] refl))) v
receiver_known d bound None (named b t) w h s v =
    let k = known_parts d (before_pieces bound b) (cut bound [] t) s in
    known_append d (before_pieces bound b) (cut bound [] (t ++ 46 ∷ w)) k.0 (dot_known d bound [] t w k.1 v)
receiver_known d bound None (called b t args) w h s v =
    known_append d (shape_pieces bound (called b t args) ++ sign (codes ".") ∷ []) (cut bound [] w) (known_append d (shape_pieces bound (called b t args)) (sign (codes ".") ∷ []) s (sign_known d (codes ".") [] refl)) v
receiver_known d bound None (lambda f bs c e) w h s v =
    known_append d (sign (codes "(") ∷ ((cast_pieces bound None ++ shape_pieces bound (lambda f bs c e)) ++ sign (codes ").") ∷ [])) (cut bound [] w)
    (sign_known d (codes "(") ((cast_pieces bound None ++ shape_pieces bound (lambda f bs c e)) ++ sign (codes ").") ∷ [])
    (known_append d (shape_pieces bound (lambda f bs c e)) (sign (codes ").") ∷ []) s (sign_known d (codes ").") [] refl))) v

method_known : (d : List ℕ → Bool) (bound : List (List ℕ)) (flag : Bool) (w : List ℕ) (c : Option (List ℕ)) (e : Shape) (rest : Shapes) → AreKnown d (cast_pieces bound c) → AreKnown d (shape_pieces bound e) → AreKnown d (cut bound [] w) → AreKnown d (call_pieces bound rest) → AreKnown d (shape_pieces bound (method_shape flag w (shapes c e rest)))
unfolding shape_pieces before_pieces
method_known d bound true w c e rest h s v a = known_append d (cut bound [] w) (call_pieces bound rest) v a
method_known d bound false w c e rest h s v a = known_append d (before_pieces bound (before_of c e) ++ cut bound [] (path_of c e w)) (call_pieces bound rest) (receiver_known d bound c e w h s v) a

field_known : (d : List ℕ → Bool) (bound : List (List ℕ)) (flag : Bool) (w : List ℕ) (c : Option (List ℕ)) (e : Shape) (rest : Shapes) → AreKnown d (cast_pieces bound c) → AreKnown d (shape_pieces bound e) → AreKnown d (cut bound [] w) → AreKnown d (shape_pieces bound (field_shape flag w (shapes c e rest)))
unfolding shape_pieces before_pieces
field_known d bound true w c e rest h s v = v
field_known d bound false w c e rest h s v = receiver_known d bound c e w h s v

lambda_known : (g : Parts) → IsReadable g → (d : List ℕ → Bool) (bound : List (List ℕ)) (m k : ℕ) (w : List ℕ) (c : Option (List ℕ)) (e : Shape) → m + k ≤ 10 ^ 64 → Binds g bound m → ((bs : List (List ℕ)) → AreKnown d (cut bs [] w)) → AreKnown d (cast_pieces (bound ++ binder_shapes g m k) c) → AreKnown d (shape_pieces (bound ++ binder_shapes g m k) e) → AreKnown d (shape_pieces bound (lambda w (binder_shapes g m k) c e))
unfolding shape_pieces
lambda_known g r d bound m k w c e l h v a s =
    let all = bound ++ binder_shapes g m k in
    let bs = binder_shapes g m k in
    known_append d (header_pieces all w bs) (cast_pieces all c ++ shape_pieces all e)
    (sign_known d (codes "(") ((cut all [] w ++ sign (codes ") (") ∷ []) ++ (binder_pieces all true bs ++ sign (codes ") -> ") ∷ []))
    (known_append d (cut all [] w ++ sign (codes ") (") ∷ []) (binder_pieces all true bs ++ sign (codes ") -> ") ∷ [])
    (known_append d (cut all [] w) (sign (codes ") (") ∷ []) (v all) (sign_known d (codes ") (") [] refl))
    (known_append d (binder_pieces all true bs) (sign (codes ") -> ") ∷ []) (binders_known g r d all k m true l (binds_more g bound m k (m + k) h refl)) (sign_known d (codes ") -> ") [] refl))))
    (known_append d (cast_pieces all c) (shape_pieces all e) a s)

head_known : (g : Parts) → IsReadable g → (ctx : List (List ℕ)) → IsContext ctx → (bound : List (List ℕ)) → Binds g bound (length (joined ctx)) → (i : ℕ) (c : Decl) (k : Bool) (f : Form) (ws : List Arg) (xs : Args) → Heads g ctx i c k f ws xs → AreShort ws → list_all (is_declared g) (form_words f) ≡ true → KnownArgs (is_declared g) g (length (joined ctx)) bound ws (shapes_in g ctx k xs ws) → AreKnown (is_declared g) (shape_pieces bound (shape_head g ctx k f ws xs))
unfolding shapes_in shape_head shape_pieces before_pieces
head_known g r ctx ok bound binds i c k (Name s) ws xs h short v all = cut_known (is_declared g) bound [] (chars s) v
head_known g r ctx ok bound binds i c k This ws xs h short v all = this_known (is_declared g) bound
head_known g r ctx ok bound binds i c k (Call s) ws xs h short v all =
    known_append (is_declared g) (cut bound [] (chars s)) (call_pieces bound (shapes_in g ctx k xs ws)) (cut_known (is_declared g) bound [] (chars s) v) (call_known (is_declared g) g (length (joined ctx)) bound ws (shapes_in g ctx k xs ws) h.well_formed all)
head_known g r ctx ok bound binds i c k (New s) ws xs h short v all =
    known_append (is_declared g) (sign (codes "new ") ∷ cut bound [] (chars s)) (call_pieces bound (shapes_in g ctx k xs ws)) (sign_known (is_declared g) (codes "new ") (cut bound [] (chars s)) (cut_known (is_declared g) bound [] (chars s) v)) (call_known (is_declared g) g (length (joined ctx)) bound ws (shapes_in g ctx k xs ws) h.well_formed all)
head_known g r ctx ok bound binds i c k (Method s) [] xs h short v all = absurd (false≢true h.well_formed)
head_known g r ctx ok bound binds i c k (Method s) (Fun ps q ∷ more) xs h short v all = absurd (false≢true h.well_formed)
head_known g r ctx ok bound binds i c k (Method s) (Plain b ∷ more) no_args h short v all = absurd (no_fit-none_some g ctx (Plain b) more h.fit)
head_known g r ctx ok bound binds i c k (Method s) (Plain b ∷ more) (lam e rest) h short v all = absurd (no_fit-lam_plain g ctx e rest b more h.fit)
head_known g r ctx ok bound binds i c k (Method s) (Plain b ∷ more) (plain e rest) h short v all =
    method_known (is_declared g) bound (is_this (head_decl g e) && not (is_some (cast_shape g k (type_in g ctx e) b))) (chars s) (cast_shape g k (type_in g ctx e) b) (shape_in g ctx e) (shapes_in g ctx k rest more) all.0 all.1 (cut_known (is_declared g) bound [] (chars s) v)
    (call_known (is_declared g) g (length (joined ctx)) bound more (shapes_in g ctx k rest more) h.well_formed all.2)
head_known g r ctx ok bound binds i c k (Field s hidden) [] xs h short v all = absurd (false≢true h.well_formed)
head_known g r ctx ok bound binds i c k (Field s hidden) (Fun ps q ∷ more) xs h short v all = absurd (false≢true h.well_formed)
head_known g r ctx ok bound binds i c k (Field s hidden) (Plain b ∷ more) no_args h short v all = absurd (no_fit-none_some g ctx (Plain b) more h.fit)
head_known g r ctx ok bound binds i c k (Field s hidden) (Plain b ∷ more) (lam e rest) h short v all = absurd (no_fit-lam_plain g ctx e rest b more h.fit)
head_known g r ctx ok bound binds i c k (Field s hidden) (Plain b ∷ more) (plain e rest) h short v all =
    field_known (is_declared g) bound ((is_this (head_decl g e) && not (is_some (cast_shape g k (type_in g ctx e) b))) && not hidden) (chars s) (cast_shape g k (type_in g ctx e) b) (shape_in g ctx e) (shapes_in g ctx k rest more) all.0 all.1 (cut_known (is_declared g) bound [] (chars s) v)
head_known g r ctx ok bound binds i c k (Lambda s) [] xs h short v all = absurd (false≢true h.well_formed)
head_known g r ctx ok bound binds i c k (Lambda s) (Plain b ∷ more) xs h short v all = absurd (false≢true h.well_formed)
head_known g r ctx ok bound binds i c k (Lambda s) (Fun ps q ∷ more) no_args h short v all = absurd (no_fit-none_some g ctx (Fun ps q) more h.fit)
head_known g r ctx ok bound binds i c k (Lambda s) (Fun ps q ∷ more) (plain e rest) h short v all = absurd (no_fit-plain_fun g ctx e rest ps q more h.fit)
head_known g r ctx ok bound binds i c k (Lambda s) (Fun ps q ∷ more) (lam e rest) h short v all =
    let few = few_variables ctx ok in
    let row = short.0 in
    lambda_known g r (is_declared g) bound (length (joined ctx)) (length ps) (chars s) (cast_shape g k (type_in g (ctx ++ ps ∷ []) e) q) (shape_in g (ctx ++ ps ∷ []) e) (omega (arith, few, row)) binds
    (λ bs. cut_known (is_declared g) bs [] (chars s) v) all.0 all.1

-- casts
cast_if_known : (d : List ℕ → Bool) (bound : List (List ℕ)) (t : List ℕ) → list_all d (words_of t) ≡ true → (x : Bool) → AreKnown d (cast_pieces bound (option_map chars (if x then Some t else None)))
cast_if_known d bound t h false = refl
cast_if_known d bound t h true = sign_known d (codes "(") (cut bound [] (chars t) ++ sign (codes ") ") ∷ []) (known_append d (cut bound [] (chars t)) (sign (codes ") ") ∷ []) (cut_known d bound [] (chars t) h) (sign_known d (codes ") ") [] refl))

cast_known : (g : Parts) (bound : List (List ℕ)) (crowded : Bool) (t : Option ℕ) (b : ℕ) → (crowded ≡ true → list_all (is_declared g) (words_of (type_text g b)) ≡ true) → AreKnown (is_declared g) (cast_pieces bound (cast_shape g crowded t b))
cast_known g bound true None b h = refl
cast_known g bound false t b h = refl
cast_known g bound true (Some a) b h = cast_if_known (is_declared g) bound (type_text g b) (h refl) (true && differs (Some a) b)

abbrev pub KnownTypes : Parts → Bool → List Arg → Type 0
KnownTypes g crowded ws = crowded ≡ true → (b : ℕ) → Wants ws b → list_all (is_declared g) (words_of (type_text g b)) ≡ true

mutual
  unfolding shape_in shapes_in shape_pieces before_pieces

  pub term_known : (g : Parts) → IsValid g → IsReadable g → HasShortRows g → (e : Expr) (ctx : List (List ℕ)) → IsContext ctx → type_in g ctx e ≢ None → (bound : List (List ℕ)) → Binds g bound (length (joined ctx)) → AreKnown (is_declared g) (shape_pieces bound (shape_in g ctx e))
  term_known g valid r short (var n) ctx ok h bound binds = variable_known g r (is_declared g) bound n (few_typed g ctx n ok h) (binds n (typed_below g ctx n h))
  term_known g valid r short (head i xs) ctx ok h bound binds =
      let o = opened g ctx i xs h in
      subst (λ z. AreKnown (is_declared g) (shape_pieces bound z)) (sym (shaped g ctx i xs o))
      (head_known g r ctx ok bound binds i o.decl o.decl.crowded o.decl.form o.decl.args xs (heads g valid r ctx i xs o) (short i o.decl o.declared) (form_declared g i o.decl o.declared)
      (known_args g valid r short xs ctx ok o.decl.crowded o.decl.args (λ q b w. type_declared g i o.decl o.declared q b w) (short i o.decl o.declared) o.fit bound binds))

  known_args : (g : Parts) → IsValid g → IsReadable g → HasShortRows g → (xs : Args) (ctx : List (List ℕ)) → IsContext ctx → (crowded : Bool) (ws : List Arg) → KnownTypes g crowded ws → AreShort ws → fits g ctx xs ws ≡ true → (bound : List (List ℕ)) → Binds g bound (length (joined ctx)) → KnownArgs (is_declared g) g (length (joined ctx)) bound ws (shapes_in g ctx crowded xs ws)
  known_args g valid r short no_args ctx ok crowded [] t s h bound binds = tt
  known_args g valid r short no_args ctx ok crowded (w ∷ more) t s h bound binds = absurd (no_fit-none_some g ctx w more h)
  known_args g valid r short (plain e rest) ctx ok crowded [] t s h bound binds = absurd (no_fit-plain_none g ctx e rest h)
  known_args g valid r short (plain e rest) ctx ok crowded (Fun ps q ∷ more) t s h bound binds = absurd (no_fit-plain_fun g ctx e rest ps q more h)
  known_args g valid r short (plain e rest) ctx ok crowded (Plain b ∷ more) t s h bound binds =
      let k = plain_fits g ctx e rest b more h in (
        cast_known g bound crowded (type_in g ctx e) b (λ q. t q b (inl refl)),
        term_known g valid r short e ctx ok (below_typed g (type_in g ctx e) b k.0) bound binds,
        known_args g valid r short rest ctx ok crowded more (λ q a w. t q a (inr w)) s k.1 bound binds,
      )
  known_args g valid r short (lam e rest) ctx ok crowded [] t s h bound binds = absurd (no_fit-lam_none g ctx e rest h)
  known_args g valid r short (lam e rest) ctx ok crowded (Plain b ∷ more) t s h bound binds = absurd (no_fit-lam_plain g ctx e rest b more h)
  known_args g valid r short (lam e rest) ctx ok crowded (Fun ps q ∷ more) t s h bound binds =
      let k = lam_fits g ctx e rest ps q more h in (
        cast_known g (bound ++ binder_shapes g (length (joined ctx)) (length ps)) crowded (type_in g (ctx ++ ps ∷ []) e) q (λ z. t z q (inl refl)),
        term_known g valid r short e (ctx ++ ps ∷ []) (context_more ctx ps ok k.room s.0) (below_typed g (type_in g (ctx ++ ps ∷ []) e) q k.body) (bound ++ binder_shapes g (length (joined ctx)) (length ps))
            (binds_more g bound (length (joined ctx)) (length ps) (length (joined (ctx ++ ps ∷ []))) binds (joined_more ctx ps)),
        known_args g valid r short rest ctx ok crowded more (λ z a w. t z a (inr w)) s.1 k.others bound binds,
      )

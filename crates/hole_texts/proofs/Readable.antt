-- The texts of a hole's environment can be read back.
use Rattle.std.proofs.Common.{◌≡◌, ◌∙◌, ◌⊎◌, inl, inr, sym, ap, ap₂, subst, refl, lit<, ℕ, zero, suc, ◌==◌, ◌||◌, not, Bool, true, false, List, [], ◌∷◌, ◌++◌, append_assoc, append-nil, map, codes, replicate, IsUtf8}
use Rattle.std.specs.List.{AllByRecursion, list_all, slice_split, flat_map}
use Rattle.std.specs.Str.{chars}
use Rattle.std.proofs.lemmas.Bool.{false≢true, and_parts, and_from}
use Rattle.type_names.specs.declared.kinds.Erased.{Erased}
use Rattle.terms.specs.declared.parts.Decl.{Decl}
use Rattle.terms.specs.declared.parts.Form.{Form}
use Rattle.terms.specs.declared.parts.Parts.{Parts}
use Rattle.java_units.specs.Signs.{has}
use Rattle.java_units.specs.Forms.{primitives}
use Rattle.class_summary.specs.Sources.{joined}
use Rattle.java_shapes.specs.Words.{spells_identifier, literals, dotted, is_binder, IsPath}
use Rattle.java_shapes.specs.Grammar.{dimensions}
use Rattle.java_shapes.specs.Readable.{is_free, AreFreeWords, IsFreeWord, IsFormText, IsTypeText, IsReadable}
use Rattle.java_shapes.proofs.WordFacts.{Lacks, not_true}
use Rattle.offers.specs.Scenes.{Scene}
use Rattle.offers.specs.Spellings.{with_dims}
use Rattle.offers.specs.declared.member.Member.{Member}
use Rattle.offers.specs.Candidates.{is_static}
use Rattle.offers.specs.Omissions.{owner_text, static_text, taken_names}
use Rattle.scopes.specs.Binders.{form_text, is_between, words, is_variable}
use Rattle.scopes.specs.Declarations.{member_decl}
use Rattle.scopes.specs.Kinds.{Kinds, listed, kind_text}
use Rattle.scopes.specs.Environments.{parts_by}
use Rattle.hole_texts.proofs.Pairs.{all-at, all-append}
use Rattle.hole_texts.proofs.Paths.{split-cut, split-none, split-joined, joined-one, joined-next}
use Rattle.hole_texts.proofs.Words.{cut-utf8, cut-chars}
use Rattle.hole_texts.proofs.Binders.{run-of, no-binder}
use Rattle.hole_texts.proofs.Letters.{run-utf8, run-identifier, literal-same}
use Rattle.hole_texts.proofs.Spelled.{IsName, IsSpelling, IsPrimitive, IsOfClass, IsTypeSpelled, spelled-name, dotless, openless, closeless, spelling-names, class-spells, dims-utf8}
use Rattle.hole_texts.proofs.Left.{IsLeft}
use Rattle.hole_texts.proofs.Origins.{IsSite, Origin, this, local, literal, made, lambda, all-left, all-right, all-unmap}
use Rattle.hole_texts.proofs.Shown.{Shape, static_field, own_field, static_method, own_method, maker, shape, owner-has, needs-maker, field-made, method-made, name-word, IsStatic, static-parts}
use Rattle.hole_texts.proofs.Wanted.{crowded-wants, text-at}
use Rattle.hole_texts.proofs.Told.{AreOrigins}

-- the words of texts
between-by : (a b c : Bool) → not a ≡ true → not b ≡ true → not c ≡ true → not ((a || b) || c) ≡ true
between-by false false false x y z = refl
between-by true b c x y z = absurd (false≢true x)
between-by false true c x y z = absurd (false≢true y)
between-by false false true x y z = absurd (false≢true z)

abbrev LacksBetween : List ℕ → Type 0
LacksBetween w = list_all (λ c. not (is_between c)) w ≡ true

lacks-between : (w : List ℕ) → Lacks 46 w → Lacks 91 w → Lacks 93 w → LacksBetween w
lacks-between [] a b c = refl
lacks-between (x ∷ w) a b c =
    let p = and_parts (not (x == 46)) (list_all (λ k. not (k == 46)) w) a in
    let q = and_parts (not (x == 91)) (list_all (λ k. not (k == 91)) w) b in
    let r = and_parts (not (x == 93)) (list_all (λ k. not (k == 93)) w) c in
    and_from (not (is_between x)) (list_all (λ k. not (is_between k)) w) (between-by (x == 46) (x == 91) (x == 93) p.0 q.0 r.0) (lacks-between w p.1 q.1 r.1)

name-between : (w : List ℕ) → IsName w → LacksBetween w
name-between w h = lacks-between w (dotless w h) (openless w h) (closeless w h)

names-between : (ws : List (List ℕ)) → AllByRecursion IsName ws → AllByRecursion LacksBetween ws
names-between [] h = h
names-between (w ∷ ws) h = (name-between w h.0, names-between ws h.1)

all-unflat : {A : Type 0} (F : List ℕ → Type 0) (f : A → List (List ℕ)) (xs : List A) → AllByRecursion F (flat_map f xs) → AllByRecursion (λ x. AllByRecursion F (f x)) xs
all-unflat F f [] h = tt
all-unflat F f (x ∷ xs) h = (all-left F (f x) (flat_map f xs) h, all-unflat F f xs (all-right F (f x) (flat_map f xs) h))

-- a word that the binder makes no variable of
abbrev IsFreeOf : ℕ → List ℕ → Type 0
IsFreeOf n w = is_variable n w ≡ false

-- all words of a text
abbrev HasFreeWords : ℕ → List ℕ → Type 0
HasFreeWords n text = AllByRecursion (IsFreeOf n) (slice_split is_between text)

free-name : (n : ℕ) (w : List ℕ) → IsName w → IsFreeOf n w → is_free (chars (replicate n 112)) (chars w) ≡ true
free-name n w h f = and_from (spells_identifier (chars w)) (not (is_binder (chars (replicate n 112)) (chars w))) (spelled-name w h) (not_true (is_binder (chars (replicate n 112)) (chars w)) (λ e. no-binder n w h.utf8 f e))

free-word : (n : ℕ) (w : List ℕ) → IsName w → HasFreeWords n w → is_free (chars (replicate n 112)) (chars w) ≡ true
free-word n w h f = free-name n w h (subst (AllByRecursion (IsFreeOf n)) (split-none is_between w (name-between w h)) f).0

free-names : (n : ℕ) (ws : List (List ℕ)) → AllByRecursion IsName ws → AllByRecursion (IsFreeOf n) ws → list_all (is_free (chars (replicate n 112))) (map chars ws) ≡ true
free-names n [] h f = refl
free-names n (w ∷ ws) h f = and_from (is_free (chars (replicate n 112)) (chars w)) (list_all (is_free (chars (replicate n 112))) (map chars ws)) (free-name n w h.0 f.0) (free-names n ws h.1 f.1)

-- the characters of parts with dots between them
joined-chars : (p : List ℕ) (ps : List (List ℕ)) → IsUtf8 (joined (codes ".") (p ∷ ps)) → chars (joined (codes ".") (p ∷ ps)) ≡ chars p ++ dotted (map chars ps)
unfolding dotted
joined-chars p [] u = ap chars (joined-one p) ∙ sym (append-nil (chars p))
joined-chars p (q ∷ qs) u =
    let c : IsUtf8 (p ++ 46 ∷ joined (codes ".") (q ∷ qs)) = subst IsUtf8 (joined-next p q qs) u in
    ap chars (joined-next p q qs) ∙ cut-chars 46 (lit< tt) p (joined (codes ".") (q ∷ qs)) c
    ∙ ap (λ z. chars p ++ 46 ∷ z) (joined-chars q qs (cut-utf8 46 (lit< tt) p (joined (codes ".") (q ∷ qs)) c).rest)

abbrev IsFreeText : ℕ → List ℕ → Type 0
IsFreeText n t = IsPath (is_free (chars (replicate n 112))) (is_free (chars (replicate n 112))) t

path-free : (n : ℕ) (text p : List ℕ) (ps : List (List ℕ)) → IsUtf8 text → text ≡ joined (codes ".") (p ∷ ps) → AllByRecursion IsName (p ∷ ps) → HasFreeWords n text → IsFreeText n (chars text)
path-free n text p ps u e h f =
    let ws = subst (AllByRecursion (IsFreeOf n)) (ap (slice_split is_between) e ∙ split-joined is_between refl p ps (names-between (p ∷ ps) h)) f in
    record {
      first = chars p;
      rest = map chars ps;
      first_is = free-name n p h.0 ws.0;
      rest_are = free-names n ps h.1 ws.1;
      is = ap chars e ∙ joined-chars p ps (subst IsUtf8 e u);
    }

word-free : (n : ℕ) (w : List ℕ) → IsName w → HasFreeWords n w → IsFreeText n (chars w)
word-free n w h f = path-free n w w [] h.utf8 (sym (joined-one w)) (h, tt) f

spelled-free : (v : Scene) (n : ℕ) (name text : List ℕ) → IsSite v → IsUtf8 text → IsSpelling v name text → HasFreeWords n text → IsFreeText n (chars text)
spelled-free v n name text s u h f = path-free n text h.first h.rest u h.is (spelling-names v name text s.word u h) f

joined-last : (p w : List ℕ) (ps : List (List ℕ)) → joined (codes ".") (p ∷ ps) ++ 46 ∷ w ≡ joined (codes ".") (p ∷ (ps ++ w ∷ []))
joined-last p w [] = ap (λ z. z ++ 46 ∷ w) (joined-one p) ∙ sym (joined-next p w [] ∙ ap (λ z. p ++ 46 ∷ z) (joined-one w))
joined-last p w (q ∷ qs) =
    ap (λ z. z ++ 46 ∷ w) (joined-next p q qs) ∙ append_assoc p (46 ∷ joined (codes ".") (q ∷ qs)) (46 ∷ w)
    ∙ ap (λ z. p ++ 46 ∷ z) (joined-last q w qs) ∙ sym (joined-next p q (qs ++ w ∷ []))

static-free : (v : Scene) (n : ℕ) (m : Member) → IsSite v → IsStatic v m → IsUtf8 (static_text v m) → HasFreeWords n (static_text v m) → IsFreeText n (chars (static_text v m))
static-free v n m s h u f =
    let k = h.spelled in
    path-free n (static_text v m) k.first (k.rest ++ m.name ∷ []) u (ap (λ z. z ++ 46 ∷ m.name) k.is ∙ joined-last k.first m.name k.rest)
    (all-append IsName (k.first ∷ k.rest) (m.name ∷ []) (spelling-names v m.owner (owner_text v m) s.word h.owner k) (h.name, tt)) f

-- dimensions
dims-turn : (n : ℕ) → dimensions n ++ 91 ∷ 93 ∷ [] ≡ 91 ∷ 93 ∷ dimensions n
unfolding dimensions
dims-turn zero = refl
dims-turn (suc n) = ap (λ z. 91 ∷ 93 ∷ z) (dims-turn n)

close-chars : chars (93 ∷ []) ≡ 93 ∷ []
unfolding chars
close-chars = refl

dims-chars : (n : ℕ) (a : List ℕ) → IsUtf8 (with_dims n a) → chars (with_dims n a) ≡ chars a ++ dimensions n
unfolding with_dims dimensions
dims-chars zero a u = sym (append-nil (chars a))
dims-chars (suc n) a u =
    cut-chars 91 (lit< tt) (with_dims n a) (93 ∷ []) u
    ∙ ap₂ (λ x y. x ++ 91 ∷ y) (dims-chars n a (cut-utf8 91 (lit< tt) (with_dims n a) (93 ∷ []) u).front) close-chars
    ∙ append_assoc (chars a) (dimensions n) (91 ∷ 93 ∷ []) ∙ ap (λ z. chars a ++ z) (dims-turn n)

dims-free : (k n : ℕ) (a : List ℕ) → HasFreeWords k (with_dims n a) → HasFreeWords k a
unfolding with_dims
dims-free k zero a f = f
dims-free k (suc n) a f = dims-free k n a (all-left (IsFreeOf k) (slice_split is_between (with_dims n a)) (slice_split is_between (93 ∷ [])) (subst (AllByRecursion (IsFreeOf k)) (split-cut is_between 91 refl (with_dims n a) (93 ∷ [])) f))

-- forms
free-path : (g : Parts) (n : ℕ) (t : List ℕ) → replicate n 112 ≡ g.binder → IsFreeText n t → AreFreeWords g t
free-path g n t e h = subst (λ b. IsPath (is_free (chars b)) (is_free (chars b)) t) e h

one-word : (g : Parts) (n : ℕ) (w : List ℕ) → replicate n 112 ≡ g.binder → IsName w → HasFreeWords n w → IsFreeWord g w
one-word g n w e h f = (h.utf8, subst (λ b. is_free (chars b) (chars w) ≡ true) e (free-word n w h f))

shape-text : (v : Scene) (ks : Kinds) (ms : List Member) (g : Parts) (n : ℕ) (m : Member) (f : Form) → replicate n 112 ≡ g.binder → IsSite v → IsLeft v ks ms m → Shape v m f m.kind (is_static m) → IsUtf8 (form_text f) → HasFreeWords n (form_text f) → IsFormText g f
shape-text v ks ms g n m f b s h (static_field k t e) u w =
    let c = subst (λ x. IsUtf8 (form_text x)) e u in
    let d = subst (λ x. HasFreeWords n (form_text x)) e w in
    subst (IsFormText g) (sym e) (c, inl (free-path g n (chars (static_text v m)) b (static-free v n m s (static-parts v ks ms m s h (λ q. field-made (sym k ∙ q)) t c) c d)))
shape-text v ks ms g n m f b s h (own_field k t e) u w =
    let name : IsName m.name = record { utf8 = subst (λ x. IsUtf8 (form_text x)) e u; identifier = name-word v ks ms m s h (λ q. field-made (sym k ∙ q)) } in
    subst (IsFormText g) (sym e) (one-word g n m.name b name (subst (λ x. HasFreeWords n (form_text x)) e w))
shape-text v ks ms g n m f b s h (static_method k t e) u w =
    let c = subst (λ x. IsUtf8 (form_text x)) e u in
    let d = subst (λ x. HasFreeWords n (form_text x)) e w in
    subst (IsFormText g) (sym e) (c, free-path g n (chars (static_text v m)) b (static-free v n m s (static-parts v ks ms m s h (λ q. method-made (sym k ∙ q)) t c) c d))
shape-text v ks ms g n m f b s h (own_method k t e) u w =
    let name : IsName m.name = record { utf8 = subst (λ x. IsUtf8 (form_text x)) e u; identifier = name-word v ks ms m s h (λ q. method-made (sym k ∙ q)) } in
    subst (IsFormText g) (sym e) (one-word g n m.name b name (subst (λ x. HasFreeWords n (form_text x)) e w))
shape-text v ks ms g n m f b s h (maker k e) u w =
    let c = subst (λ x. IsUtf8 (form_text x)) e u in
    let d = subst (λ x. HasFreeWords n (form_text x)) e w in
    let spelled = class-spells v m.owner (owner_text v m) (owner-has v ks ms m h (needs-maker m k)).spelled in
    subst (IsFormText g) (sym e) (c, free-path g n (chars (owner_text v m)) b (spelled-free v n m.owner (owner_text v m) s c spelled d))

form-of : (v : Scene) (ks : Kinds) (ms : List Member) (g : Parts) (n : ℕ) (d : Decl) → replicate n 112 ≡ g.binder → IsSite v → Origin v ks ms d → IsUtf8 (form_text d.form) → HasFreeWords n (form_text d.form) → IsFormText g d.form
form-of v ks ms g n d b s (this h) u w = subst (IsFormText g) (sym h.form) tt
form-of v ks ms g n d b s (local h) u w =
    subst (IsFormText g) (sym h.form) (h.name.utf8, inl (free-path g n (chars h.text) b (word-free n h.text h.name (subst (λ x. HasFreeWords n (form_text x)) h.form w))))
form-of v ks ms g n d b s (literal h) u w =
    subst (IsFormText g) (sym h.form) (subst (λ x. IsUtf8 (form_text x)) h.form u, inr (subst (λ x. has literals x ≡ true) (sym (literal-same h.text h.is)) h.is))
form-of v ks ms g n d b s (made h) u w =
    let same : d.form ≡ (member_decl v ks ms h.member).form = ap (λ (x : Decl). x.form) h.is in
    subst (IsFormText g) (sym same) (shape-text v ks ms g n h.member (member_decl v ks ms h.member).form b s h.shown.left (shape v ks ms h.member) h.shown.utf8 (subst (λ x. HasFreeWords n (form_text x)) same w))
form-of v ks ms g n d b s (lambda h) u w =
    subst (IsFormText g) (sym h.form) (h.utf8, free-path g n (chars h.text) b (spelled-free v n h.name h.text s h.utf8 (class-spells v h.name h.text h.spelled) (subst (λ x. HasFreeWords n (form_text x)) h.form w)))

-- types
base-free : (v : Scene) (g : Parts) (n : ℕ) (t : Erased) (base : List ℕ) → replicate n 112 ≡ g.binder → IsSite v → IsUtf8 base → IsPrimitive t.base base ⊎ IsOfClass v t.base base → HasFreeWords n base → AreFreeWords g (chars base) ⊎ (has primitives (chars base) ≡ true)
base-free v g n t base b s u (inl h) w = inr (subst (λ x. has primitives x ≡ true) (sym h.same) h.among)
base-free v g n t base b s u (inr h) w = inl (free-path g n (chars base) b (spelled-free v n h.name base s u h.spelled w))

type-of : (v : Scene) (g : Parts) (n : ℕ) (t : Erased) (text : List ℕ) → replicate n 112 ≡ g.binder → IsSite v → IsUtf8 text → IsTypeSpelled v t text → HasFreeWords n text → IsTypeText g text
type-of v g n t text b s u h w =
    let c : IsUtf8 (with_dims t.dims h.base) = subst IsUtf8 h.is u in
    record {
      utf8 = u;
      base = chars h.base;
      count = t.dims;
      base_is = base-free v g n t h.base b s (dims-utf8 t.dims h.base c) h.told (dims-free n t.dims h.base (subst (HasFreeWords n) h.is w));
      is = ap chars h.is ∙ dims-chars t.dims h.base c;
    }

-- the whole
pub readable-by : (v : Scene) (ks : Kinds) (ms : List Member) (ds : List Decl) (limit depth : ℕ) → AreOrigins v ks ms ds limit depth → IsReadable (parts_by v ks ds limit depth)
readable-by v ks ms ds limit depth h =
    let g = parts_by v ks ds limit depth in
    let forms = map (λ (d : Decl). form_text d.form) ds in
    let types = map (kind_text v) (listed ks) in
    let run = run-of (words (forms ++ types) ++ taken_names v) in
    let n = run.count in
    let b : replicate n 112 ≡ g.binder = sym run.is in
    let all : AllByRecursion (HasFreeWords n) (forms ++ types) = all-unflat (IsFreeOf n) (slice_split is_between) (forms ++ types) (all-left (IsFreeOf n) (words (forms ++ types)) (taken_names v) run.free) in
    let in_forms : AllByRecursion (λ (d : Decl). HasFreeWords n (form_text d.form)) ds = all-unmap (HasFreeWords n) (λ (d : Decl). form_text d.form) ds (all-left (HasFreeWords n) forms types all) in
    let in_types : AllByRecursion (HasFreeWords n) types = all-right (HasFreeWords n) forms types all in
    record {
      binder_text = subst IsUtf8 b (run-utf8 n);
      binder = subst (λ x. spells_identifier (chars x) ≡ true) b (run-identifier n run.some);
      forms = λ i d e. form-of v ks ms g n d b h.site (all-at (Origin v ks ms) ds i d h.origins e) (h.texts.forms i d e) (all-at (λ (x : Decl). HasFreeWords n (form_text x.form)) ds i d in_forms e);
      types = λ i d a e c w.
          let t = text-at v ks a h.texts.types (crowded-wants v ks ms d a (all-at (Origin v ks ms) ds i d h.origins e) c w) in
          subst (IsTypeText g) (sym t.at) (type-of v g n t.kind t.text b h.site t.utf8 t.spelled (all-at (HasFreeWords n) types a t.text in_types t.place));
    }

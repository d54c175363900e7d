-- One text spells one class, and one type.
use Rattle.std.proofs.Common.{◌≡◌, ◌∙◌, ◌⊎◌, inl, inr, sym, ap, subst, refl, ℕ, zero, suc, ◌<◌, ◌==◌, ◌||◌, not, if◌then◌else◌, Bool, true, false, List, [], ◌∷◌, ◌++◌, codes, IsUtf8, lit<, Option, Some, None, unwrap_or, option_map}
use Rattle.std.specs.List.{AllByRecursion, list_all}
use Rattle.std.specs.Str.{chars}
use Rattle.std.specs.Option.{option_or}
use Rattle.std.proofs.lemmas.Bool.{false≢true, and_parts}
use Rattle.std.proofs.lemmas.Slice.Eq.{bytes_eq-Decides}
use Rattle.type_names.specs.declared.kinds.Base.{Base}
use Rattle.type_names.specs.declared.kinds.Base.TheVariants.{Byte, Char, Double, Float, Int, Long, Short, Boolean, Class}
use Rattle.type_names.specs.declared.kinds.Erased.{Erased}
use Rattle.type_names.specs.Descriptors.{field}
use Rattle.unicode_ident.proofs.IdentLemmas.{is_xid_continue-ascii}
use Rattle.java_tokens.specs.Classes.{is_word_part}
use Rattle.java_tokens.specs.Words.{is_word}
use Rattle.java_units.specs.Signs.{has, reserved}
use Rattle.java_units.specs.Forms.{primitives}
use Rattle.java_units.specs.Identifiers.{is_identifier}
use Rattle.known_classes.specs.Known.{canonical}
use Rattle.class_summary.specs.Sources.{joined}
use Rattle.class_summary.specs.Names.{primitive}
use Rattle.java_shapes.specs.Words.{spells_identifier}
use Rattle.java_shapes.proofs.Identifiers.{same_identifiers}
use Rattle.java_shapes.proofs.WordFacts.{Lacks, lacks-append, lacks_not, identifier_lacks, no_part-dot, last_same}
use Rattle.offers.specs.Scenes.{Scene, of_class, same_type, denoted}
use Rattle.offers.specs.Spellings.{parts, spells, shortest, class_spelling, base_by, with_dims, spelling, type_text}
use Rattle.offers.proofs.Descriptors.{field-one}
use Rattle.hole_texts.proofs.Paths.{joined-one, joined-next, parts-none, parts-joined}
use Rattle.hole_texts.proofs.Words.{cut-utf8, lacks-text}

-- identifiers lack the signs of ASCII
no_part-open : is_word_part 91 ≡ false
unfolding is_word_part
no_part-open = ap (λ b. b || 91 == 36) (is_xid_continue-ascii 91 (lit< tt))

no_part-close : is_word_part 93 ≡ false
unfolding is_word_part
no_part-close = ap (λ b. b || 93 == 36) (is_xid_continue-ascii 93 (lit< tt))

-- an identifier, as bytes
pub record IsName (w : List ℕ) : Type 0 where
  pub utf8 : IsUtf8 w
  pub identifier : is_identifier w ≡ true

pub spelled-name : (w : List ℕ) → IsName w → spells_identifier (chars w) ≡ true
spelled-name w h = same_identifiers w h.utf8 ∙ h.identifier

name-lacks : (k : ℕ) → k < 128 → is_word_part k ≡ false → (w : List ℕ) → IsName w → Lacks k w
name-lacks k low outside w h = lacks-text k low w h.utf8 (identifier_lacks k outside (chars w) (spelled-name w h))

pub dotless : (w : List ℕ) → IsName w → Lacks 46 w
dotless w h = name-lacks 46 (lit< tt) no_part-dot w h

pub openless : (w : List ℕ) → IsName w → Lacks 91 w
openless w h = name-lacks 91 (lit< tt) no_part-open w h

pub closeless : (w : List ℕ) → IsName w → Lacks 93 w
closeless w h = name-lacks 93 (lit< tt) no_part-close w h

-- a text that spells a class at the site
pub record IsSpelling (v : Scene) (name text : List ℕ) : Type 0 where
  pub first : List ℕ
  pub rest : List (List ℕ)
  pub is : text ≡ joined (codes ".") (first ∷ rest)
  pub words : list_all v.word (first ∷ rest) ≡ true
  pub class : denoted v (record { parts = first ∷ rest; dims = 0 }) ≡ of_class name

none-some : {A : Type 0} (x : A) → ◌≡◌ {A = Option A} None (Some x) → ⊥
none-some x e = absurd cc

spells-parts : (v : Scene) (name : List ℕ) (ps : List (List ℕ)) → spells v name ps ≡ true → (list_all v.word ps ≡ true) × (denoted v (record { parts = ps; dims = 0 }) ≡ of_class name)
unfolding spells
spells-parts v name ps e =
    let t = denoted v (record { parts = ps; dims = 0 }) in
    let k = and_parts (list_all v.word ps) (same_type t (of_class name)) e in
    (k.0, field-one t (of_class name) ((bytes_eq-Decides (field t) (field (of_class name))).0 k.1))

spelling-step : (v : Scene) (name p : List ℕ) (ps : List (List ℕ)) (text : List ℕ) (o : Option (List ℕ)) (b : Bool) → spells v name (p ∷ ps) ≡ b → (o ≡ Some text → IsSpelling v name text) → option_or o (if b then Some (joined (codes ".") (p ∷ ps)) else None) ≡ Some text → IsSpelling v name text
spelling-step v name p ps text (Some x) b h f e = f e
spelling-step v name p ps text None true h f e =
    let k = spells-parts v name (p ∷ ps) h in
    let same : joined (codes ".") (p ∷ ps) ≡ text = cc in
    record { first = p; rest = ps; is = sym same; words = k.0; class = k.1 }
spelling-step v name p ps text None false h f e = absurd (none-some text e)

shortest-spells : (v : Scene) (name : List ℕ) (ps : List (List ℕ)) (text : List ℕ) → shortest v name ps ≡ Some text → IsSpelling v name text
unfolding shortest
shortest-spells v name [] text e = absurd (none-some text e)
shortest-spells v name (p ∷ ps) text e = spelling-step v name p ps text (shortest v name ps) (spells v name (p ∷ ps)) refl (λ q. shortest-spells v name ps text q) e

pub class-spells : (v : Scene) (name text : List ℕ) → class_spelling v name ≡ Some text → IsSpelling v name text
unfolding class_spelling
class-spells v name text e = shortest-spells v name (parts (canonical v.known name)) text e

-- its parts are identifiers
joined-utf8 : (p : List ℕ) (ps : List (List ℕ)) → IsUtf8 (joined (codes ".") (p ∷ ps)) → AllByRecursion IsUtf8 (p ∷ ps)
joined-utf8 p [] u = (subst IsUtf8 (joined-one p) u, tt)
joined-utf8 p (q ∷ qs) u =
    let k = cut-utf8 46 (lit< tt) p (joined (codes ".") (q ∷ qs)) (subst IsUtf8 (joined-next p q qs) u) in
    (k.front, joined-utf8 q qs k.rest)

names-of : (ws : List (List ℕ)) → AllByRecursion IsUtf8 ws → list_all is_identifier ws ≡ true → AllByRecursion IsName ws
names-of [] h k = h
names-of (w ∷ ws) h k =
    let b = and_parts (is_identifier w) (list_all is_identifier ws) k in
    (record { utf8 = h.0; identifier = b.0 }, names-of ws h.1 b.1)

pub spelling-names : (v : Scene) (name text : List ℕ) → v.word ≡ is_identifier → IsUtf8 text → (h : IsSpelling v name text) → AllByRecursion IsName (h.first ∷ h.rest)
spelling-names v name text word u h =
    names-of (h.first ∷ h.rest) (joined-utf8 h.first h.rest (subst IsUtf8 h.is u)) (subst (λ (w : List ℕ → Bool). list_all w (h.first ∷ h.rest) ≡ true) word h.words)

dotless-all : (ws : List (List ℕ)) → AllByRecursion IsName ws → AllByRecursion (Lacks 46) ws
dotless-all [] h = h
dotless-all (w ∷ ws) h = (dotless w h.0, dotless-all ws h.1)

pub spelling-parts : (v : Scene) (name text : List ℕ) → v.word ≡ is_identifier → IsUtf8 text → (h : IsSpelling v name text) → parts text ≡ h.first ∷ h.rest
spelling-parts v name text word u h = ap parts h.is ∙ parts-joined h.first h.rest (dotless-all (h.first ∷ h.rest) (spelling-names v name text word u h))

pub class-name : (a b : List ℕ) → of_class a ≡ of_class b → a ≡ b
class-name a b e = let same : Class a ≡ Class b = ap (λ (t : Erased). t.base) e in cc

-- one text spells one class
pub one-class : (v : Scene) (name other text : List ℕ) → v.word ≡ is_identifier → IsUtf8 text → IsSpelling v name text → IsSpelling v other text → name ≡ other
one-class v name other text word u h k =
    let same : h.first ∷ h.rest ≡ k.first ∷ k.rest = sym (spelling-parts v name text word u h) ∙ spelling-parts v other text word u k in
    class-name name other (sym h.class ∙ ap (λ (ps : List (List ℕ)). denoted v (record { parts = ps; dims = 0 })) same ∙ k.class)

-- the word of a primitive type
pub record IsPrimitive (p : Base) (text : List ℕ) : Type 0 where
  pub base : primitive text ≡ Some p
  pub dots : Lacks 46 text
  pub opens : Lacks 91 text
  pub taken : has reserved text ≡ true
  pub among : has primitives text ≡ true
  pub same : chars text ≡ text

-- the text of a type without dimensions
pub record IsOfClass (v : Scene) (p : Base) (text : List ℕ) : Type 0 where
  pub name : List ℕ
  pub is : p ≡ Class name
  pub spelled : IsSpelling v name text

abbrev pub IsBaseText : Scene → Base → List ℕ → Type 0
IsBaseText v p text = IsPrimitive p text ⊎ IsOfClass v p text

word-of : (v : Scene) (p : Base) (w text : List ℕ) → IsPrimitive p w → ◌≡◌ {A = Option (List ℕ)} (Some w) (Some text) → IsBaseText v p text
word-of v p w text h e = let same : w ≡ text = cc in inl (subst (IsPrimitive p) same h)

byte : IsPrimitive Byte (codes "byte")
unfolding primitive has reserved chars
byte = record { base = refl; dots = refl; opens = refl; taken = refl; among = refl; same = refl }

char : IsPrimitive Char (codes "char")
unfolding primitive has reserved chars
char = record { base = refl; dots = refl; opens = refl; taken = refl; among = refl; same = refl }

double : IsPrimitive Double (codes "double")
unfolding primitive has reserved chars
double = record { base = refl; dots = refl; opens = refl; taken = refl; among = refl; same = refl }

float : IsPrimitive Float (codes "float")
unfolding primitive has reserved chars
float = record { base = refl; dots = refl; opens = refl; taken = refl; among = refl; same = refl }

int : IsPrimitive Int (codes "int")
unfolding primitive has reserved chars
int = record { base = refl; dots = refl; opens = refl; taken = refl; among = refl; same = refl }

long : IsPrimitive Long (codes "long")
unfolding primitive has reserved chars
long = record { base = refl; dots = refl; opens = refl; taken = refl; among = refl; same = refl }

short : IsPrimitive Short (codes "short")
unfolding primitive has reserved chars
short = record { base = refl; dots = refl; opens = refl; taken = refl; among = refl; same = refl }

boolean : IsPrimitive Boolean (codes "boolean")
unfolding primitive has reserved chars
boolean = record { base = refl; dots = refl; opens = refl; taken = refl; among = refl; same = refl }

pub base-told : (v : Scene) (p : Base) (text : List ℕ) → base_by (class_spelling v) p ≡ Some text → IsBaseText v p text
base-told v Byte text e = word-of v Byte (codes "byte") text byte e
base-told v Char text e = word-of v Char (codes "char") text char e
base-told v Double text e = word-of v Double (codes "double") text double e
base-told v Float text e = word-of v Float (codes "float") text float e
base-told v Int text e = word-of v Int (codes "int") text int e
base-told v Long text e = word-of v Long (codes "long") text long e
base-told v Short text e = word-of v Short (codes "short") text short e
base-told v Boolean text e = word-of v Boolean (codes "boolean") text boolean e
base-told v (Class name) text e = inr (record { name = name; is = refl; spelled = class-spells v name text e })

-- no word of a primitive type spells a class
no-primitive : (v : Scene) (name text : List ℕ) (p : Base) → v.word ≡ is_identifier → IsUtf8 text → IsPrimitive p text → IsSpelling v name text → ⊥
unfolding is_identifier
no-primitive v name text p word u h k =
    let one : text ∷ [] ≡ k.first ∷ k.rest = sym (parts-none text h.dots) ∙ spelling-parts v name text word u k in
    let same : text ≡ k.first = cc in
    let name : is_identifier text ≡ true = subst (λ w. is_identifier w ≡ true) (sym same) ((spelling-names v name text word u k).0).identifier in
    let clear = (and_parts (is_word (chars text)) (not (has reserved text)) name).1 in
    false≢true (sym (ap not h.taken) ∙ clear)

some-base : (p q : Base) → ◌≡◌ {A = Option Base} (Some p) (Some q) → p ≡ q
some-base p q e = cc

pub one-base : (v : Scene) (p q : Base) (text : List ℕ) → v.word ≡ is_identifier → IsUtf8 text → IsBaseText v p text → IsBaseText v q text → p ≡ q
one-base v p q text word u (inl h) (inl k) = some-base p q (sym h.base ∙ k.base)
one-base v p q text word u (inl h) (inr k) = absurd (no-primitive v k.name text p word u h k.spelled)
one-base v p q text word u (inr h) (inl k) = absurd (no-primitive v h.name text q word u k h.spelled)
one-base v p q text word u (inr h) (inr k) = h.is ∙ ap Class (one-class v h.name k.name text word u h.spelled k.spelled) ∙ sym k.is

-- dimensions
joined-lacks : (k : ℕ) → Lacks k (codes ".") → (p : List ℕ) (ps : List (List ℕ)) → AllByRecursion (Lacks k) (p ∷ ps) → Lacks k (joined (codes ".") (p ∷ ps))
joined-lacks k d p [] h = subst (Lacks k) (sym (joined-one p)) h.0
joined-lacks k d p (q ∷ qs) h = subst (Lacks k) (sym (joined-next p q qs)) (lacks-append k p (codes "." ++ joined (codes ".") (q ∷ qs)) h.0 (lacks-append k (codes ".") (joined (codes ".") (q ∷ qs)) d (joined-lacks k d q qs h.1)))

openless-all : (ws : List (List ℕ)) → AllByRecursion IsName ws → AllByRecursion (Lacks 91) ws
openless-all [] h = h
openless-all (w ∷ ws) h = (openless w h.0, openless-all ws h.1)

base-openless : (v : Scene) (p : Base) (text : List ℕ) → v.word ≡ is_identifier → IsUtf8 text → IsBaseText v p text → Lacks 91 text
base-openless v p text word u (inl h) = h.opens
base-openless v p text word u (inr h) = subst (Lacks 91) (sym h.spelled.is) (joined-lacks 91 refl h.spelled.first h.spelled.rest (openless-all (h.spelled.first ∷ h.spelled.rest) (spelling-names v h.name text word u h.spelled)))

pub dims-utf8 : (n : ℕ) (a : List ℕ) → IsUtf8 (with_dims n a) → IsUtf8 a
unfolding with_dims
dims-utf8 zero a u = u
dims-utf8 (suc n) a u = dims-utf8 n a (cut-utf8 91 (lit< tt) (with_dims n a) (93 ∷ []) u).front

dims-end : (n : ℕ) (a b : List ℕ) → Lacks 91 a → a ≡ with_dims (suc n) b → ⊥
unfolding with_dims
dims-end n a b h e = lacks_not 91 a (with_dims n b) (93 ∷ []) h e

pub dims-same : (n m : ℕ) (a b : List ℕ) → Lacks 91 a → Lacks 91 b → with_dims n a ≡ with_dims m b → (n ≡ m) × (a ≡ b)
unfolding with_dims
dims-same zero zero a b h k e = (refl, e)
dims-same zero (suc m) a b h k e = absurd (dims-end m a b h e)
dims-same (suc n) zero a b h k e = absurd (dims-end n b a k (sym e))
dims-same (suc n) (suc m) a b h k e =
    let r = dims-same n m a b h k (last_same 91 (with_dims n a) (with_dims m b) (93 ∷ []) (93 ∷ []) refl refl e).0 in
    (ap suc r.0, r.1)

-- a type that is spelled
pub record IsTypeSpelled (v : Scene) (t : Erased) (text : List ℕ) : Type 0 where
  pub base : List ℕ
  pub told : IsBaseText v t.base base
  pub is : text ≡ with_dims t.dims base

spelled-by : (v : Scene) (p : Base) (base : List ℕ) → base_by (class_spelling v) p ≡ Some base → unwrap_or (base_by (λ name. Some (unwrap_or (class_spelling v name) (canonical v.known name))) p) [] ≡ base
spelled-by v Byte base e = cc
spelled-by v Char base e = cc
spelled-by v Double base e = cc
spelled-by v Float base e = cc
spelled-by v Int base e = cc
spelled-by v Long base e = cc
spelled-by v Short base e = cc
spelled-by v Boolean base e = cc
spelled-by v (Class name) base e = ap (λ o. unwrap_or o (canonical v.known name)) e

type-by : (v : Scene) (n : ℕ) (p : Base) (o : Option (List ℕ)) (text : List ℕ) → base_by (class_spelling v) p ≡ o → option_map (with_dims n) o ≡ Some text → (base : List ℕ) × (base_by (class_spelling v) p ≡ Some base) × (with_dims n base ≡ text)
type-by v n p None text h e = absurd (none-some text e)
type-by v n p (Some base) text h e = let same : with_dims n base ≡ text = cc in (base, h, same)

pub type-spelled : (v : Scene) (t : Erased) (text : List ℕ) → spelling v t ≡ Some text → (type_text v t ≡ text) × IsTypeSpelled v t text
unfolding spelling type_text
type-spelled v t text e =
    let k = type-by v t.dims t.base (base_by (class_spelling v) t.base) text refl e in
    (ap (with_dims t.dims) (spelled-by v t.base k.0 k.1) ∙ k.2, record { base = k.0; told = base-told v t.base k.0 k.1; is = sym k.2 })

made : (n m : ℕ) (p q : Base) → n ≡ m → p ≡ q → ◌≡◌ {A = Erased} (record { dims = n; base = p }) (record { dims = m; base = q })
made n m p q e f = cc

-- one text spells one type
pub one-type : (v : Scene) (t u : Erased) (text : List ℕ) → v.word ≡ is_identifier → IsUtf8 text → IsTypeSpelled v t text → IsTypeSpelled v u text → t ≡ u
one-type v t u text word c h k =
    let a : IsUtf8 h.base = dims-utf8 t.dims h.base (subst IsUtf8 h.is c) in
    let b : IsUtf8 k.base = dims-utf8 u.dims k.base (subst IsUtf8 k.is c) in
    let r = dims-same t.dims u.dims h.base k.base (base-openless v t.base h.base word a h.told) (base-openless v u.base k.base word b k.told) (sym h.is ∙ k.is) in
    made t.dims u.dims t.base u.base r.0 (one-base v t.base u.base h.base word a h.told (subst (IsBaseText v u.base) (sym r.1) k.told))

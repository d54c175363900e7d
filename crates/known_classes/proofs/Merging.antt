-- The class of a name among merged classes, and that each name stands once.
use Rattle.std.proofs.Common.{◌≡◌, ◌∙◌, ap, sym, refl, arith, ℕ, zero, suc, ◌+◌, Bool, true, false, cond, List, [], ◌∷◌, ◌++◌, length, length-append, map, slice_get, bytes_eq, Option, Some, None, ◌⊎◌, inl, inr}
use Rattle.std.specs.Prelude.{unwrap_or, is_some, option_map}
use Rattle.std.specs.Option.{option_or}
use Rattle.std.proofs.lemmas.List.{length-map}
use Rattle.std.proofs.lemmas.Option.{slice_get-map}
use Rattle.std.proofs.lemmas.Slice.Eq.{bytes_eq-Decides}
use Rattle.known_classes.specs.declared.summary.ClassSummary.{ClassSummary}
use Rattle.known_classes.specs.Known.{class_named, HasEachOnce}
use Rattle.known_classes.specs.Merging.{last_named, replaced, added, merged}

pub two : (b : Bool) → (b ≡ true) ⊎ (b ≡ false)
two true = inl refl
two false = inr refl

pub equal : (xs ys : List ℕ) → bytes_eq xs ys ≡ true → xs ≡ ys
equal xs ys e = (bytes_eq-Decides xs ys).0 e

pub itself : (xs : List ℕ) → bytes_eq xs xs ≡ true
itself xs = (bytes_eq-Decides xs xs).1 refl

pub class-none : (n : List ℕ) → class_named [] n ≡ None
unfolding class_named
class-none n = refl

pub class-cons : (c : ClassSummary) (cs : List ClassSummary) (n : List ℕ) → class_named (c ∷ cs) n ≡ cond (bytes_eq n c.name) (Some c) (class_named cs n)
unfolding class_named
class-cons c cs n = refl

pub class-hit : (c : ClassSummary) (cs : List ClassSummary) (n : List ℕ) → bytes_eq n c.name ≡ true → class_named (c ∷ cs) n ≡ Some c
class-hit c cs n e = class-cons c cs n ∙ ap (λ b. cond b (Some c) (class_named cs n)) e

pub class-on : (c : ClassSummary) (cs : List ClassSummary) (n : List ℕ) → bytes_eq n c.name ≡ false → class_named (c ∷ cs) n ≡ class_named cs n
class-on c cs n e = class-cons c cs n ∙ ap (λ b. cond b (Some c) (class_named cs n)) e

or-cond : (b : Bool) (c : ClassSummary) (r s : Option ClassSummary) → cond b (Some c) (option_or r s) ≡ option_or (cond b (Some c) r) s
or-cond true c r s = refl
or-cond false c r s = refl

-- the class of a name in two lists
pub class-append : (xs ys : List ClassSummary) (n : List ℕ) → class_named (xs ++ ys) n ≡ option_or (class_named xs n) (class_named ys n)
class-append [] ys n = ap (λ (r : Option ClassSummary). option_or r (class_named ys n)) (sym (class-none n))
class-append (x ∷ xs) ys n =
    class-cons x (xs ++ ys) n
    ∙ ap (cond (bytes_eq n x.name) (Some x)) (class-append xs ys n)
    ∙ or-cond (bytes_eq n x.name) x (class_named xs n) (class_named ys n)
    ∙ ap (λ (r : Option ClassSummary). option_or r (class_named ys n)) (sym (class-cons x xs n))

map-cond : (b : Bool) (f : ClassSummary → ClassSummary) (c : ClassSummary) (r : Option ClassSummary) → cond b (Some (f c)) (option_map f r) ≡ option_map f (cond b (Some c) r)
map-cond true f c r = refl
map-cond false f c r = refl

-- the class of a name where names stay
pub class-map : (f : ClassSummary → ClassSummary) (cs : List ClassSummary) (n : List ℕ) → ((c : ClassSummary) → (f c).name ≡ c.name) → class_named (map f cs) n ≡ option_map f (class_named cs n)
class-map f [] n k = class-none n ∙ ap (option_map f) (sym (class-none n))
class-map f (c ∷ cs) n k =
    class-cons (f c) (map f cs) n
    ∙ ap (λ m. cond (bytes_eq n m) (Some (f c)) (class_named (map f cs) n)) (k c)
    ∙ ap (cond (bytes_eq n c.name) (Some (f c))) (class-map f cs n k)
    ∙ map-cond (bytes_eq n c.name) f c (class_named cs n)
    ∙ ap (option_map f) (sym (class-cons c cs n))

name-by : (b : Bool) (c d : ClassSummary) (r : Option ClassSummary) (n : List ℕ) → bytes_eq n c.name ≡ b → (r ≡ Some d → d.name ≡ n) → cond b (Some c) r ≡ Some d → d.name ≡ n
name-by true c d r n h f e = let q : c ≡ d = cc in ap (λ (x : ClassSummary). x.name) (sym q) ∙ sym (equal n c.name h)
name-by false c d r n h f e = f e

-- it has that name
pub class-name : (cs : List ClassSummary) (n : List ℕ) (d : ClassSummary) → class_named cs n ≡ Some d → d.name ≡ n
class-name [] n d e = let z : class_named [] n ≡ None = class-none n in absurd cc
class-name (c ∷ cs) n d e = name-by (bytes_eq n c.name) c d (class_named cs n) n refl (λ f. class-name cs n d f) (sym (class-cons c cs n) ∙ e)

pub last-none : (n : List ℕ) → last_named [] n ≡ None
unfolding last_named
last-none n = refl

pub last-cons : (c : ClassSummary) (cs : List ClassSummary) (n : List ℕ) → last_named (c ∷ cs) n ≡ option_or (last_named cs n) (cond (bytes_eq n c.name) (Some c) None)
unfolding last_named
last-cons c cs n = refl

last-by : (o : Option ClassSummary) (b : Bool) (c d : ClassSummary) (n : List ℕ) → bytes_eq n c.name ≡ b → ((x : ClassSummary) → o ≡ Some x → x.name ≡ n) → option_or o (cond b (Some c) None) ≡ Some d → d.name ≡ n
last-by (Some x) b c d n h f e = let q : x ≡ d = cc in ap (λ (y : ClassSummary). y.name) (sym q) ∙ f x refl
last-by None true c d n h f e = let q : c ≡ d = cc in ap (λ (y : ClassSummary). y.name) (sym q) ∙ sym (equal n c.name h)
last-by None false c d n h f e = absurd cc

pub last-name : (cs : List ClassSummary) (n : List ℕ) (d : ClassSummary) → last_named cs n ≡ Some d → d.name ≡ n
last-name [] n d e = let z : last_named [] n ≡ None = last-none n in absurd cc
last-name (c ∷ cs) n d e = last-by (last_named cs n) (bytes_eq n c.name) c d n refl (λ x f. last-name cs n x f) (sym (last-cons c cs n) ∙ e)

kept-name : (o : Option ClassSummary) (c : ClassSummary) → ((x : ClassSummary) → o ≡ Some x → x.name ≡ c.name) → (unwrap_or o c).name ≡ c.name
kept-name None c f = refl
kept-name (Some x) c f = f x refl

-- replacing keeps the name
pub replaced-name : (extra : List ClassSummary) (c : ClassSummary) → (replaced extra c).name ≡ c.name
replaced-name extra c = kept-name (last_named extra c.name) c (λ x e. last-name extra c.name x e)

pub added-none : (base : List ClassSummary) → added base [] ≡ []
unfolding added
added-none base = refl

pub added-cons : (base : List ClassSummary) (e : ClassSummary) (es : List ClassSummary) → added base (e ∷ es) ≡ cond (is_some (class_named (base ++ es) e.name)) (added base es) (e ∷ added base es)
unfolding added
added-cons base e es = refl

pub added-skip : (base : List ClassSummary) (e : ClassSummary) (es : List ClassSummary) → is_some (class_named (base ++ es) e.name) ≡ true → added base (e ∷ es) ≡ added base es
added-skip base e es h = added-cons base e es ∙ ap (λ b. cond b (added base es) (e ∷ added base es)) h

pub added-take : (base : List ClassSummary) (e : ClassSummary) (es : List ClassSummary) → is_some (class_named (base ++ es) e.name) ≡ false → added base (e ∷ es) ≡ e ∷ added base es
added-take base e es h = added-cons base e es ∙ ap (λ b. cond b (added base es) (e ∷ added base es)) h

or-none : (a b : Option ClassSummary) → is_some (option_or a b) ≡ false → (a ≡ None) × (b ≡ None)
or-none None None h = (refl, refl)
or-none None (Some y) h = absurd cc
or-none (Some x) b h = absurd cc

-- a name that stands in neither list
pub neither : (base es : List ClassSummary) (n : List ℕ) → is_some (class_named (base ++ es) n) ≡ false → (class_named base n ≡ None) × (class_named es n ≡ None)
neither base es n h = or-none (class_named base n) (class_named es n) (ap is_some (sym (class-append base es n)) ∙ h)

pub later : (base es : List ClassSummary) (n : List ℕ) → is_some (class_named (base ++ es) n) ≡ true → class_named base n ≡ None → is_some (class_named es n) ≡ true
later base es n h e = ap is_some (sym (class-append base es n ∙ ap (λ (r : Option ClassSummary). option_or r (class_named es n)) e)) ∙ h

last-some-by : (o r : Option ClassSummary) (b : Bool) (c : ClassSummary) → is_some o ≡ is_some r → is_some (option_or o (cond b (Some c) None)) ≡ is_some (cond b (Some c) r)
last-some-by None None true c h = refl
last-some-by None None false c h = refl
last-some-by None (Some y) b c h = absurd cc
last-some-by (Some x) None b c h = absurd cc
last-some-by (Some x) (Some y) true c h = refl
last-some-by (Some x) (Some y) false c h = refl

-- a last class of a name is there where a first is
pub last-some : (cs : List ClassSummary) (n : List ℕ) → is_some (last_named cs n) ≡ is_some (class_named cs n)
last-some [] n = ap is_some (last-none n) ∙ sym (ap is_some (class-none n))
last-some (c ∷ cs) n = ap is_some (last-cons c cs n) ∙ last-some-by (last_named cs n) (class_named cs n) (bytes_eq n c.name) c (last-some cs n) ∙ sym (ap is_some (class-cons c cs n))

or-some : (o s : Option ClassSummary) → is_some o ≡ true → option_or o s ≡ o
or-some None s h = absurd cc
or-some (Some x) s h = refl

or-nothing : (o : Option ClassSummary) → option_or o None ≡ o
or-nothing None = refl
or-nothing (Some x) = refl

pub not-some : (o : Option ClassSummary) → is_some o ≡ false → o ≡ None
not-some None h = refl
not-some (Some x) h = absurd cc

pub last-on : (e : ClassSummary) (es : List ClassSummary) (n : List ℕ) → bytes_eq n e.name ≡ false → last_named (e ∷ es) n ≡ last_named es n
last-on e es n h = last-cons e es n ∙ ap (λ b. option_or (last_named es n) (cond b (Some e) None)) h ∙ or-nothing (last_named es n)

pub last-later : (e : ClassSummary) (es : List ClassSummary) (n : List ℕ) → is_some (class_named es n) ≡ true → last_named (e ∷ es) n ≡ last_named es n
last-later e es n h = last-cons e es n ∙ or-some (last_named es n) (cond (bytes_eq n e.name) (Some e) None) (last-some es n ∙ h)

pub last-here : (e : ClassSummary) (es : List ClassSummary) (n : List ℕ) → bytes_eq n e.name ≡ true → class_named es n ≡ None → last_named (e ∷ es) n ≡ Some e
last-here e es n h z =
    let gone : last_named es n ≡ None = not-some (last_named es n) (last-some es n ∙ ap is_some z) in
    last-cons e es n ∙ ap (λ b. option_or (last_named es n) (cond b (Some e) None)) h ∙ ap (λ (r : Option ClassSummary). option_or r (Some e)) gone

-- of the names that the base lacks the last class counts
pub added-named : (base extra : List ClassSummary) (n : List ℕ) → class_named base n ≡ None → class_named (added base extra) n ≡ last_named extra n
added-named base [] n h = ap (λ (r : List ClassSummary). class_named r n) (added-none base) ∙ class-none n ∙ sym (last-none n)
added-named base (e ∷ es) n h = elim (two (is_some (class_named (base ++ es) e.name))) [
  | inl s ↦ ap (λ (r : List ClassSummary). class_named r n) (added-skip base e es s) ∙ added-named base es n h ∙ elim (two (bytes_eq n e.name)) [
    | inl t ↦ sym (last-later e es n (later base es n (ap (λ m. is_some (class_named (base ++ es) m)) (equal n e.name t) ∙ s) h))
    | inr f ↦ sym (last-on e es n f)
  ]
  | inr s ↦ ap (λ (r : List ClassSummary). class_named r n) (added-take base e es s) ∙ elim (two (bytes_eq n e.name)) [
    | inl t ↦ class-hit e (added base es) n t ∙ sym (last-here e es n t (ap (class_named es) (equal n e.name t) ∙ (neither base es e.name s).1))
    | inr f ↦ class-on e (added base es) n f ∙ added-named base es n h ∙ sym (last-on e es n f)
  ]
]

pub merged-is : (base extra : List ClassSummary) → merged base extra ≡ map (replaced extra) base ++ added base extra
unfolding merged
merged-is base extra = refl

-- the class of a name among the merged ones, by the base and what is added
pub merged-named : (base extra : List ClassSummary) (n : List ℕ) → class_named (merged base extra) n ≡ option_or (option_map (replaced extra) (class_named base n)) (class_named (added base extra) n)
merged-named base extra n =
    ap (λ (r : List ClassSummary). class_named r n) (merged-is base extra)
    ∙ class-append (map (replaced extra) base) (added base extra) n
    ∙ ap (λ (r : Option ClassSummary). option_or r (class_named (added base extra) n)) (class-map (replaced extra) base n (λ c. replaced-name extra c))

unwrapped : (o : Option ClassSummary) (c : ClassSummary) → Some (unwrap_or o c) ≡ option_or o (Some c)
unwrapped None c = refl
unwrapped (Some x) c = refl

law-by : (base extra : List ClassSummary) (n : List ℕ) (o : Option ClassSummary) → class_named base n ≡ o → option_or (option_map (replaced extra) o) (class_named (added base extra) n) ≡ option_or (last_named extra n) o
law-by base extra n None h = added-named base extra n h ∙ sym (or-nothing (last_named extra n))
law-by base extra n (Some c) h = ap (λ m. Some (unwrap_or (last_named extra m) c)) (class-name base n c h) ∙ unwrapped (last_named extra n) c

-- The class of a name: the last extra one, else that of the base.
pub merged_law : (base extra : List ClassSummary) (n : List ℕ) → class_named (merged base extra) n ≡ option_or (last_named extra n) (class_named base n)
merged_law base extra n = merged-named base extra n ∙ law-by base extra n (class_named base n) refl

-- where an item of two lists in a row stands
pub split_at : {A : Type 0} (xs ys : List A) (i : ℕ) (d : A) → slice_get (xs ++ ys) i ≡ Some d → (slice_get xs i ≡ Some d) ⊎ ((k : ℕ) × ((slice_get ys k ≡ Some d) × (i ≡ length xs + k)))
split_at [] ys i d e = let z : i ≡ 0 + i = omega arith in inr (i, (e, z))
split_at (x ∷ xs) ys zero d e = inl e
split_at (x ∷ xs) ys (suc i) d e = elim (split_at xs ys i d e) [
  | inl s ↦ inl s
  | inr s ↦ let z : suc i ≡ length (x ∷ xs) + s.0 = omega (arith, s.1.1) in inr (s.0, (s.1.0, z))
]

pub get-prefix : {A : Type 0} (xs ys : List A) (i : ℕ) (d : A) → slice_get xs i ≡ Some d → slice_get (xs ++ ys) i ≡ Some d
get-prefix [] ys i d e = absurd cc
get-prefix (x ∷ xs) ys zero d e = e
get-prefix (x ∷ xs) ys (suc i) d e = get-prefix xs ys i d e

pub get-behind : {A : Type 0} (xs ys : List A) (k : ℕ) → slice_get (xs ++ ys) (length xs + k) ≡ slice_get ys k
get-behind [] ys k = let z : 0 + k ≡ k = omega arith in ap (slice_get ys) z
get-behind (x ∷ xs) ys k = let z : length (x ∷ xs) + k ≡ suc (length xs + k) = omega arith in ap (slice_get (x ∷ (xs ++ ys))) z ∙ get-behind xs ys k

-- a base class at its place
pub merged-base : (base extra : List ClassSummary) (i : ℕ) (c : ClassSummary) → slice_get base i ≡ Some c → slice_get (merged base extra) i ≡ Some (replaced extra c)
merged-base base extra i c e =
    ap (λ (r : List ClassSummary). slice_get r i) (merged-is base extra)
    ∙ get-prefix (map (replaced extra) base) (added base extra) i (replaced extra c) (slice_get-map (replaced extra) base i ∙ ap (option_map (replaced extra)) e)

-- an added class behind the base
pub merged-added : (base extra : List ClassSummary) (k : ℕ) → slice_get (merged base extra) (length base + k) ≡ slice_get (added base extra) k
merged-added base extra k =
    ap (λ (r : List ClassSummary). slice_get r (length base + k)) (merged-is base extra)
    ∙ ap (λ n. slice_get (map (replaced extra) base ++ added base extra) (n + k)) (sym (length-map base (replaced extra)))
    ∙ get-behind (map (replaced extra) base) (added base extra) k

pub merged-length : (base extra : List ClassSummary) → length (merged base extra) ≡ length base + length (added base extra)
merged-length base extra =
    ap length (merged-is base extra)
    ∙ length-append (map (replaced extra) base) (added base extra)
    ∙ ap (λ n. n + length (added base extra)) (length-map base (replaced extra))

some-cons : (c : ClassSummary) (cs : List ClassSummary) (n : List ℕ) → is_some (class_named cs n) ≡ true → is_some (class_named (c ∷ cs) n) ≡ true
some-cons c cs n h = elim (two (bytes_eq n c.name)) [
  | inl t ↦ ap is_some (class-hit c cs n t)
  | inr f ↦ ap is_some (class-on c cs n f) ∙ h
]

new-at : (base : List ClassSummary) (c : ClassSummary) (es : List ClassSummary) (j : ℕ) (d : ClassSummary) → is_some (class_named (base ++ es) c.name) ≡ false → slice_get (c ∷ added base es) j ≡ Some d → ((k : ℕ) → slice_get (added base es) k ≡ Some d → (class_named base d.name ≡ None) × (is_some (class_named es d.name) ≡ true)) → (class_named base d.name ≡ None) × (is_some (class_named (c ∷ es) d.name) ≡ true)
new-at base c es zero d s e f =
    let q : c ≡ d = cc in
    let m : c.name ≡ d.name = ap (λ (x : ClassSummary). x.name) q in
    (ap (class_named base) (sym m) ∙ (neither base es c.name s).0, ap is_some (class-hit c es d.name (ap (bytes_eq d.name) m ∙ itself d.name)))
new-at base c es (suc j) d s e f = let p = f j e in (p.0, some-cons c es d.name p.1)

-- an added class has a name that the base lacks and an extra class has
pub added-new : (base extra : List ClassSummary) (j : ℕ) (d : ClassSummary) → slice_get (added base extra) j ≡ Some d → (class_named base d.name ≡ None) × (is_some (class_named extra d.name) ≡ true)
added-new base [] j d e = let z : slice_get (added base []) j ≡ None = ap (λ (r : List ClassSummary). slice_get r j) (added-none base) in absurd cc
added-new base (c ∷ es) j d e = elim (two (is_some (class_named (base ++ es) c.name))) [
  | inl s ↦ let p = added-new base es j d (ap (λ (r : List ClassSummary). slice_get r j) (sym (added-skip base c es s)) ∙ e) in (p.0, some-cons c es d.name p.1)
  | inr s ↦ new-at base c es j d s (ap (λ (r : List ClassSummary). slice_get r j) (sym (added-take base c es s)) ∙ e) (λ k f. added-new base es k d f)
]

gone-then : (es : List ClassSummary) (m n : List ℕ) → class_named es m ≡ None → is_some (class_named es n) ≡ true → m ≡ n → ⊥
gone-then es m n z s e = let q : class_named es n ≡ None = ap (class_named es) (sym e) ∙ z in let w : is_some (class_named es n) ≡ false = ap is_some q in absurd cc

once-at : (base : List ClassSummary) (x : ClassSummary) (es : List ClassSummary) (i j : ℕ) (c d : ClassSummary) → is_some (class_named (base ++ es) x.name) ≡ false → slice_get (x ∷ added base es) i ≡ Some c → slice_get (x ∷ added base es) j ≡ Some d → c.name ≡ d.name → ((k l : ℕ) → slice_get (added base es) k ≡ Some c → slice_get (added base es) l ≡ Some d → k ≡ l) → i ≡ j
once-at base x es zero zero c d s e f n h = refl
once-at base x es zero (suc j) c d s e f n h = let q : x ≡ c = cc in absurd (gone-then es x.name d.name (neither base es x.name s).1 (added-new base es j d f).1 (ap (λ (y : ClassSummary). y.name) q ∙ n))
once-at base x es (suc i) zero c d s e f n h = let q : x ≡ d = cc in absurd (gone-then es x.name c.name (neither base es x.name s).1 (added-new base es i c e).1 (ap (λ (y : ClassSummary). y.name) q ∙ sym n))
once-at base x es (suc i) (suc j) c d s e f n h = ap suc (h i j e f)

pub added-once : (base extra : List ClassSummary) (i j : ℕ) (c d : ClassSummary) → slice_get (added base extra) i ≡ Some c → slice_get (added base extra) j ≡ Some d → c.name ≡ d.name → i ≡ j
added-once base [] i j c d e f n = let z : slice_get (added base []) j ≡ None = ap (λ (r : List ClassSummary). slice_get r j) (added-none base) in absurd cc
added-once base (x ∷ es) i j c d e f n = elim (two (is_some (class_named (base ++ es) x.name))) [
  | inl s ↦ added-once base es i j c d (ap (λ (r : List ClassSummary). slice_get r i) (sym (added-skip base x es s)) ∙ e) (ap (λ (r : List ClassSummary). slice_get r j) (sym (added-skip base x es s)) ∙ f) n
  | inr s ↦ once-at base x es i j c d s (ap (λ (r : List ClassSummary). slice_get r i) (sym (added-take base x es s)) ∙ e) (ap (λ (r : List ClassSummary). slice_get r j) (sym (added-take base x es s)) ∙ f) n (λ k l g h. added-once base es k l c d g h n)
]

mapped-by : (f : ClassSummary → ClassSummary) (o : Option ClassSummary) (d : ClassSummary) → option_map f o ≡ Some d → (c : ClassSummary) × ((o ≡ Some c) × (f c ≡ d))
mapped-by f None d e = absurd cc
mapped-by f (Some c) d e = (c, (refl, cc))

-- a class among the replaced ones has the name of the base class there
replaced-at : (base extra : List ClassSummary) (i : ℕ) (d : ClassSummary) → slice_get (map (replaced extra) base) i ≡ Some d → (c : ClassSummary) × ((slice_get base i ≡ Some c) × (c.name ≡ d.name))
replaced-at base extra i d e =
    let p = mapped-by (replaced extra) (slice_get base i) d (sym (slice_get-map (replaced extra) base i) ∙ e) in
    (p.0, (p.1.0, sym (replaced-name extra p.0) ∙ ap (λ (x : ClassSummary). x.name) p.1.1))

pub class-there : (cs : List ClassSummary) (i : ℕ) (c : ClassSummary) → slice_get cs i ≡ Some c → is_some (class_named cs c.name) ≡ true
class-there [] i c e = absurd cc
class-there (x ∷ xs) zero c e = let q : x ≡ c = cc in ap is_some (class-hit x xs c.name (ap (λ (y : ClassSummary). bytes_eq c.name y.name) q ∙ itself c.name))
class-there (x ∷ xs) (suc i) c e = some-cons x xs c.name (class-there xs i c e)

apart-at : (base extra : List ClassSummary) (i k : ℕ) (c d : ClassSummary) → slice_get (map (replaced extra) base) i ≡ Some c → slice_get (added base extra) k ≡ Some d → c.name ≡ d.name → ⊥
apart-at base extra i k c d e f n =
    let p = replaced-at base extra i c e in
    gone-then base d.name p.0.name (added-new base extra k d f).0 (class-there base i p.0 p.1.0) (sym (p.1.1 ∙ n))

once-by : (base extra : List ClassSummary) (i j : ℕ) (c d : ClassSummary) → HasEachOnce base → c.name ≡ d.name → (slice_get (map (replaced extra) base) i ≡ Some c) ⊎ ((k : ℕ) × ((slice_get (added base extra) k ≡ Some c) × (i ≡ length (map (replaced extra) base) + k))) → (slice_get (map (replaced extra) base) j ≡ Some d) ⊎ ((k : ℕ) × ((slice_get (added base extra) k ≡ Some d) × (j ≡ length (map (replaced extra) base) + k))) → i ≡ j
once-by base extra i j c d h n (inl a) (inl b) = let p = replaced-at base extra i c a in let q = replaced-at base extra j d b in h.once i j p.0 q.0 p.1.0 q.1.0 (p.1.1 ∙ n ∙ sym q.1.1)
once-by base extra i j c d h n (inl a) (inr b) = absurd (apart-at base extra i b.0 c d a b.1.0 n)
once-by base extra i j c d h n (inr a) (inl b) = absurd (apart-at base extra j a.0 d c b a.1.0 (sym n))
once-by base extra i j c d h n (inr a) (inr b) = a.1.1 ∙ ap (λ k. length (map (replaced extra) base) + k) (added-once base extra a.0 b.0 c d a.1.0 b.1.0 n) ∙ sym b.1.1

-- No name stands at two places among the merged classes where none does in the base.
pub merged_once : (base extra : List ClassSummary) → HasEachOnce base → HasEachOnce (merged base extra)
merged_once base extra h = record {
  once = λ i j c d e f n.
      once-by base extra i j c d h n
      (split_at (map (replaced extra) base) (added base extra) i c (ap (λ (r : List ClassSummary). slice_get r i) (sym (merged-is base extra)) ∙ e))
      (split_at (map (replaced extra) base) (added base extra) j d (ap (λ (r : List ClassSummary). slice_get r j) (sym (merged-is base extra)) ∙ f));
}

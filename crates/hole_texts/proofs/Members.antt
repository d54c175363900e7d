-- The members that are offered at a hole: where each comes from, and that no two of a class are one.
use Rattle.std.proofs.Common.{◌≡◌, ◌∙◌, sym, ap, refl, ℕ, suc, ◌||◌, not, if◌then◌else◌, Bool, true, false, List, [], ◌∷◌, ◌++◌, map, fold, bytes_eq, codes, slice_get, Ordering, Less, Equal, Greater, Some}
use Rattle.std.specs.List.{AllByRecursion, list_any, filter}
use Rattle.std.specs.Ordering.{nat_cmp, is_eq}
use Rattle.std.specs.Cmp.Lexicographic.{slice_cmp}
use Rattle.std.proofs.lemmas.Bool.{false≢true, or_parts, or_left, or_right}
use Rattle.std.proofs.lemmas.Slice.Eq.{bytes_eq-Decides}
use Rattle.std.proofs.lemmas.Map.Text.{is_eq-slice_cmp}
use Rattle.known_classes.specs.declared.summary.FieldSummary.{FieldSummary}
use Rattle.known_classes.specs.declared.summary.MethodSummary.{MethodSummary}
use Rattle.known_classes.specs.declared.summary.ClassSummary.{ClassSummary}
use Rattle.offers.specs.Scenes.{Scene, is_among, put, put_by, sorted}
use Rattle.offers.specs.Sorting.{IsBefore, Rises}
use Rattle.offers.specs.Reach.{is_offered, offered}
use Rattle.offers.specs.declared.member.Kind.TheVariants as kind
use Rattle.offers.specs.declared.member.Member.{Member}
use Rattle.offers.specs.Candidates.{same_kind, field_of, method_of, is_candidate, candidates}
use Rattle.offers.specs.Omissions.{is_named, is_again, with_first, firsts, after_two, overrides, after_three}
use Rattle.offers.proofs.Searches.{sorted-rises}
use Rattle.hole_texts.proofs.Pairs.{Each2, all-on, all-append, all-map, all-filter, all-flat, each-on, each-append, each-filter, each-flat}

-- what passes a test makes some element pass it
abbrev pub IsIn : {A : Type 0} → List A → A → Type 0
IsIn {A} xs x = (p : A → Bool) → p x ≡ true → list_any p xs ≡ true

pub every-in : {A : Type 0} (xs : List A) → AllByRecursion (IsIn xs) xs
every-in [] = tt
every-in {A} (x ∷ xs) = (λ p e. or_left (p x) (list_any p xs) e, all-on (IsIn xs) (IsIn (x ∷ xs)) (λ y h p e. or_right (p x) (list_any p xs) (h p e)) xs (every-in xs))

-- a class at a place among these
pub record IsPlaced (cs : List ClassSummary) (c : ClassSummary) : Type 0 where
  pub place : ℕ
  pub is : slice_get cs place ≡ Some c

every-placed : (cs : List ClassSummary) → AllByRecursion (IsPlaced cs) cs
every-placed [] = tt
every-placed (c ∷ cs) = (record { place = 0; is = refl }, all-on (IsPlaced cs) (IsPlaced (c ∷ cs)) (λ d h. record { place = suc h.place; is = h.is }) cs (every-placed cs))

-- sorting keeps what holds of each
put-all-by : {A : Type 0} (P : A → Type 0) (o : Ordering) (x y : A) (ys more : List A) → P x → AllByRecursion P (y ∷ ys) → AllByRecursion P more → AllByRecursion P (put_by o x y ys more)
put-all-by P Less x y ys more p h k = (p, h)
put-all-by P Equal x y ys more p h k = h
put-all-by P Greater x y ys more p h k = (h.0, k)

put-all : {A : Type 0} (P : A → Type 0) (text : A → List ℕ) (x : A) (ys : List A) → P x → AllByRecursion P ys → AllByRecursion P (put text x ys)
unfolding put
put-all P text x [] p h = (p, h)
put-all P text x (y ∷ ys) p h = put-all-by P (slice_cmp nat_cmp (text x) (text y)) x y ys (put text x ys) p h (put-all P text x ys p h.1)

pub sorted-all : {A : Type 0} (P : A → Type 0) (text : A → List ℕ) (xs : List A) → AllByRecursion P xs → AllByRecursion P (sorted text xs)
unfolding sorted
sorted-all P text [] h = h
sorted-all P text (x ∷ xs) h = put-all P text x (sorted text xs) h.0 (sorted-all P text xs h.1)

-- those that rise have texts that differ
abbrev pub HaveOthers : {A : Type 0} → (A → List ℕ) → A → A → Type 0
HaveOthers text x y = text x ≡ text y → ⊥

less-other : (a b : List ℕ) → slice_cmp nat_cmp a b ≡ Less → a ≡ b → ⊥
less-other a b e q = false≢true (ap is_eq (sym e) ∙ is_eq-slice_cmp a b ∙ (bytes_eq-Decides a b).1 q)

rises-others : {A : Type 0} (text : A → List ℕ) (xs : List A) → Rises text xs → Each2 (HaveOthers text) xs
unfolding Rises Each2
rises-others text [] h = tt
rises-others text (x ∷ xs) h = (all-on (IsBefore text x) (HaveOthers text x) (λ y b. less-other (text x) (text y) b) xs h.0, rises-others text xs h.1)

pub all-filtered : {A : Type 0} (P : A → Type 0) (t : A → Bool) (xs : List A) → AllByRecursion P xs → AllByRecursion P (filter t xs)
all-filtered P t xs h = all-on (λ x. P x × (t x ≡ true)) P (λ x p. p.0) (filter t xs) (all-filter P t xs h)

pub offered-placed : (v : Scene) → AllByRecursion (IsPlaced v.known) (offered v)
unfolding offered
offered-placed v = sorted-all (IsPlaced v.known) (λ c. c.name) (filter (is_offered v) v.known) (all-filtered (IsPlaced v.known) (is_offered v) v.known (every-placed v.known))

pub offered-once : (v : Scene) → Each2 (HaveOthers (λ (c : ClassSummary). c.name)) (offered v)
unfolding offered
offered-once v = rises-others (λ (c : ClassSummary). c.name) (sorted (λ c. c.name) (filter (is_offered v) v.known)) (sorted-rises (λ (c : ClassSummary). c.name) (filter (is_offered v) v.known))

-- a member of a class
pub record IsMemberOf (c : ClassSummary) (m : Member) : Type 0 where
  pub owner : m.owner ≡ c.name
  pub maker : m.kind ≡ kind.Constructor → m.name ≡ codes "<init>"
  pub params : m.kind ≡ kind.Field → m.params ≡ []
  pub field : m.kind ≡ kind.Field → is_among (map (λ f. f.name) c.fields) m.name ≡ true

no-maker : kind.Field ≡ kind.Constructor → ⊥
no-maker e = absurd cc

named-among : (fs : List FieldSummary) → AllByRecursion (λ f. is_among (map (λ g. g.name) fs) f.name ≡ true) fs
named-among [] = tt
named-among (f ∷ fs) = (
  or_left (bytes_eq f.name f.name) (is_among (map (λ g. g.name) fs) f.name) ((bytes_eq-Decides f.name f.name).1 refl),
  all-on (λ g. is_among (map (λ h. h.name) fs) g.name ≡ true) (λ g. is_among (map (λ h. h.name) (f ∷ fs)) g.name ≡ true) (λ g e. or_right (bytes_eq f.name g.name) (is_among (map (λ h. h.name) fs) g.name) e) fs (named-among fs),
)

of-fields : (c : ClassSummary) → AllByRecursion (IsMemberOf c) (map (field_of c) c.fields)
of-fields c = all-map (IsMemberOf c) (field_of c) c.fields
    (all-on (λ f. is_among (map (λ g. g.name) c.fields) f.name ≡ true) (λ f. IsMemberOf c (field_of c f))
    (λ f e. record { owner = refl; maker = λ q. absurd (no-maker q); params = λ q. refl; field = λ q. e }) c.fields (named-among c.fields))

maker-name : (b : Bool) (name : List ℕ) → bytes_eq name (codes "<init>") ≡ b → (if b then kind.Constructor else kind.Method) ≡ kind.Constructor → name ≡ codes "<init>"
maker-name true name h e = (bytes_eq-Decides name (codes "<init>")).0 h
maker-name false name h e = absurd cc

no-field : (b : Bool) → (if b then kind.Constructor else kind.Method) ≡ kind.Field → ⊥
no-field true e = absurd cc
no-field false e = absurd cc

of-methods : (c : ClassSummary) (ms : List MethodSummary) → AllByRecursion (IsMemberOf c) (map (method_of c) ms)
of-methods c [] = tt
of-methods c (m ∷ ms) = (
  record { owner = refl; maker = maker-name (bytes_eq m.name (codes "<init>")) m.name refl; params = λ q. absurd (no-field (bytes_eq m.name (codes "<init>")) q); field = λ q. absurd (no-field (bytes_eq m.name (codes "<init>")) q) },
  of-methods c ms,
)

of-candidates : (v : Scene) (c : ClassSummary) → AllByRecursion (IsMemberOf c) (candidates v c)
unfolding candidates
of-candidates v c = all-filtered (IsMemberOf c) (is_candidate v c) (map (field_of c) c.fields ++ map (method_of c) c.methods) (all-append (IsMemberOf c) (map (field_of c) c.fields) (map (method_of c) c.methods) (of-fields c) (of-methods c c.methods))

-- one of an offered class
pub record IsMember (v : Scene) (m : Member) : Type 0 where
  pub class : ClassSummary
  pub placed : IsPlaced v.known class
  pub of : IsMemberOf class m
  pub named : (same_kind m.kind kind.Constructor || v.word m.name) ≡ true

-- of each kind, name and parameters the first
none-of : {A : Type 0} (p : A → Bool) (xs : List A) → list_any p xs ≡ false → AllByRecursion (λ x. p x ≡ false) xs
none-of p [] h = tt
none-of p (x ∷ xs) h = let k = or_parts (p x) (list_any p xs) h in (k.0, none-of p xs k.1)

abbrev pub IsNew : Member → Member → Type 0
IsNew m n = is_again n m ≡ false

first-all-by : (P : Member → Type 0) (b : Bool) (kept : List Member) (m : Member) → P m → AllByRecursion P kept → AllByRecursion P (if b then kept else kept ++ m ∷ [])
first-all-by P true kept m p h = h
first-all-by P false kept m p h = all-append P kept (m ∷ []) h (p, tt)

firsts-all : (P : Member → Type 0) (kept ms : List Member) → AllByRecursion P kept → AllByRecursion P ms → AllByRecursion P (fold with_first kept ms)
unfolding with_first
firsts-all P kept [] h k = h
firsts-all P kept (m ∷ ms) h k = firsts-all P (with_first kept m) ms (first-all-by P (list_any (is_again m) kept) kept m k.0 h) k.1

first-new-by : (b : Bool) (kept : List Member) (m : Member) → list_any (is_again m) kept ≡ b → Each2 IsNew kept → Each2 IsNew (if b then kept else kept ++ m ∷ [])
unfolding Each2
first-new-by true kept m e h = h
first-new-by false kept m e h = each-append IsNew kept (m ∷ []) h (tt, tt) (all-on (λ n. is_again m n ≡ false) (λ n. AllByRecursion (IsNew n) (m ∷ [])) (λ n q. (q, tt)) kept (none-of (is_again m) kept e))

firsts-new : (kept ms : List Member) → Each2 IsNew kept → Each2 IsNew (fold with_first kept ms)
unfolding with_first
firsts-new kept [] h = h
firsts-new kept (m ∷ ms) h = firsts-new (with_first kept m) ms (first-new-by (list_any (is_again m) kept) kept m refl h)

-- two members of one class differ
abbrev pub Differ : Member → Member → Type 0
Differ m n = m.owner ≡ n.owner → is_again n m ≡ false

left-in : Scene → ClassSummary → List Member
left-in v c = firsts (filter (is_named v) (candidates v c))

in-class : (v : Scene) (c : ClassSummary) → AllByRecursion (λ m. IsMemberOf c m × (is_named v m ≡ true)) (left-in v c)
unfolding left-in
in-class v c = firsts-all (λ m. IsMemberOf c m × (is_named v m ≡ true)) [] (filter (is_named v) (candidates v c)) tt (all-filter (IsMemberOf c) (is_named v) (candidates v c) (of-candidates v c))

new-in-class : (v : Scene) (c : ClassSummary) → Each2 Differ (left-in v c)
unfolding left-in Each2
new-in-class v c = each-on (λ m. IsMemberOf c m × (is_named v m ≡ true)) IsNew Differ (λ m n a b d e. d) (left-in v c) (in-class v c) (firsts-new [] (filter (is_named v) (candidates v c)) tt)

pub two-members : (v : Scene) → AllByRecursion (IsMember v) (after_two v)
unfolding after_two left-in
two-members v = all-flat (IsPlaced v.known) (IsMember v) (left-in v) (λ c p. all-on (λ m. IsMemberOf c m × (is_named v m ≡ true)) (IsMember v) (λ m k. record { class = c; placed = p; of = k.0; named = k.1 }) (left-in v c) (in-class v c)) (offered v) (offered-placed v)

pub two-differ : (v : Scene) → Each2 Differ (after_two v)
unfolding after_two left-in
two-differ v =
    each-flat (IsPlaced v.known) (HaveOthers (λ (c : ClassSummary). c.name)) (λ c m. m.owner ≡ c.name) Differ (left-in v)
    (λ c p. new-in-class v c)
    (λ c p. all-on (λ m. IsMemberOf c m × (is_named v m ≡ true)) (λ m. m.owner ≡ c.name) (λ m k. k.0.owner) (left-in v c) (in-class v c))
    (λ c d m n o a b same. absurd (o (sym a ∙ same ∙ b)))
    (offered v) (offered-placed v) (offered-once v)

pub three-members : (v : Scene) → AllByRecursion (IsMember v) (after_three v)
unfolding after_three
three-members v = all-filtered (IsMember v) (λ m. not (list_any (overrides v m) (after_two v))) (after_two v) (two-members v)

pub three-differ : (v : Scene) → Each2 Differ (after_three v)
unfolding after_three
three-differ v = each-filter Differ (λ m. not (list_any (overrides v m) (after_two v))) (after_two v) (two-differ v)

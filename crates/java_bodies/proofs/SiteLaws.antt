-- What holds of the hole at each place of each text.
use Rattle.std.proofs.Common.{◌≡◌, ◌∙◌, ◌==◌, ◌&&◌, ap, sym, subst, ℕ, ◌+◌, ◌<◌, ◌≤◌, arith, List, [], ◌∷◌, refl, Bool, true, false, length, find, nat_lt, nat_le, slice_get, rules, tests, count_by, bytes_eq, Option, Some, None, if◌then◌else◌, ◌||◌, ◌⊎◌, inl, inr}
use Rattle.std.specs.List.{flat_map}
use Rattle.std.proofs.lemmas.List.Sums.{sum_by-cons, sum_by-append}
use Rattle.java_tokens.specs.declared.token.Token.{Token}
use Rattle.java_units.specs.Signs.{Sign, is_word, signs_of}
use Rattle.java_units.specs.declared.types.TypeText.{TypeText}
use Rattle.java_units.specs.declared.types.SourceMethod.{SourceMethod}
use Rattle.java_units.specs.declared.types.SourceClass.{SourceClass}
use Rattle.java_units.specs.declared.types.Unit as unit
use Rattle.java_bodies.specs.Bodies.{BodySigns}
use Rattle.java_bodies.specs.Blocks.{is_in_blocks}
use Rattle.java_bodies.specs.Scopes.{is_named, last_ones, local_of, hidden_of, usable_by, hidden_by, locals_of, hiddens_of, names_of, variables_of}
use Rattle.java_bodies.specs.Statements.{own_statement}
use Rattle.java_bodies.specs.Wanted.{wanted}
use Rattle.java_bodies.specs.Places.{touches, touched, is_free, prefix_start, passed}
use Rattle.java_bodies.specs.Methods.{method_at}
use Rattle.java_bodies.specs.Sites.{sighted, sight_in, body_signs, is_static, site_by, in_body, in_method, in_class, in_classes, hole_behind, hole_of}
use Rattle.java_bodies.specs.SiteLaws.{NamesStandOnce, PrefixEndsAtPlace}
use Rattle.java_bodies.specs.declared.methods.MethodPlace.{MethodPlace}
use Rattle.java_bodies.specs.declared.names.Names.{Names}
use Rattle.java_bodies.specs.declared.site.Local.{Local}
use Rattle.java_bodies.specs.declared.site.Sight.{Sight}
use Rattle.java_bodies.specs.declared.site.HoleSite.{HoleSite}
use Rattle.java_bodies.specs.declared.variables.Variable.{Variable}

abbrev one_if : Bool → ℕ
one_if b = if b then 1 else 0

-- how often a name stands among variables, locals and hidden names

among : List ℕ → List Variable → ℕ
among name vs = count_by (λ v. bytes_eq v.name name) vs

in_locals : List ℕ → List Local → ℕ
in_locals name ls = count_by (λ l. bytes_eq l.name name) ls

in_hidden : List ℕ → List (List ℕ) → ℕ
in_hidden name hs = count_by (λ h. bytes_eq h name) hs

among-nil : (name : List ℕ) → among name [] ≡ 0
unfolding among
among-nil name = refl

among-cons : (name : List ℕ) (v : Variable) (vs : List Variable) → among name (v ∷ vs) ≡ (if bytes_eq v.name name then 1 else 0) + among name vs
unfolding among
among-cons name v vs = sum_by-cons (λ (x : Variable). one_if (bytes_eq x.name name)) v vs

no_one : (b : Bool) (n : ℕ) → (b || false) ≡ false → b ≡ false
no_one true n e = absurd cc
no_one false n e = refl

or_left : (a b : Bool) → (a || b) ≡ false → a ≡ false
or_left true b e = absurd cc
or_left false b e = refl

or_right : (a b : Bool) → (a || b) ≡ false → b ≡ false
or_right true b e = absurd cc
or_right false b e = e

-- the first of some variables is one that counts or not
last_cases : {A : Type 0} (b : Bool) (x y : A) → ((b ≡ true) × ((if b then x else y) ≡ x)) ⊎ ((b ≡ false) × ((if b then x else y) ≡ y))
last_cases true x y = inl (refl, refl)
last_cases false x y = inr (refl, refl)

last_step : (v : Variable) (vs : List Variable) → last_ones (v ∷ vs) ≡ (if is_named v.name vs then last_ones vs else v ∷ last_ones vs)
unfolding last_ones
last_step v vs = refl

named_step : (name : List ℕ) (v : Variable) (vs : List Variable) → is_named name (v ∷ vs) ≡ (bytes_eq v.name name || is_named name vs)
unfolding is_named
named_step name v vs = refl

none_counts : (name : List ℕ) (vs : List Variable) → is_named name vs ≡ false → among name (last_ones vs) ≡ 0
unfolding last_ones
none_counts name [] e = among-nil name
none_counts name (v ∷ vs) e =
    let k = sym (named_step name v vs) ∙ e in
    let a : bytes_eq v.name name ≡ false = or_left (bytes_eq v.name name) (is_named name vs) k in
    let h = none_counts name vs (or_right (bytes_eq v.name name) (is_named name vs) k) in
    let c : among name (v ∷ last_ones vs) ≡ 0 = among-cons name v (last_ones vs) ∙ omega (arith, ap one_if a, h) in
    elim (last_cases (is_named v.name vs) (last_ones vs) (v ∷ last_ones vs)) [ inl x ↦ ap (among name) x.1 ∙ h | inr y ↦ ap (among name) y.1 ∙ c ]

once_more : (b : Bool) (n m : ℕ) → m ≡ (if b then 1 else 0) + n → n ≤ 1 → (b ≡ true → n ≡ 0) → m ≤ 1
once_more true n m e l f = omega (arith, e, f refl)
once_more false n m e l f = omega (arith, e)

one_counts : (name : List ℕ) (vs : List Variable) → among name (last_ones vs) ≤ 1
unfolding last_ones
one_counts name [] = omega (arith, among-nil name)
one_counts name (v ∷ vs) =
    let h = one_counts name vs in
    elim (last_cases (is_named v.name vs) (last_ones vs) (v ∷ last_ones vs)) [
      | inl x ↦ omega (arith, ap (among name) x.1, h)
      | inr y ↦ (let c : among name (v ∷ last_ones vs) ≤ 1 = once_more (bytes_eq v.name name) (among name (last_ones vs)) (among name (v ∷ last_ones vs)) (among-cons name v (last_ones vs)) h
          (λ b. let same : v.name ≡ name = search (rules, tests) in none_counts name vs (subst (λ n. is_named n vs ≡ false) same y.0)) in
          omega (arith, ap (among name) y.1, c))
    ]

of_one : (name n : List ℕ) (k : Option TypeText) → in_locals name (usable_by n k) + in_hidden name (hidden_by n k) ≡ (if bytes_eq n name then 1 else 0)
unfolding in_locals in_hidden
of_one name n None = omega (arith, sum_by-cons (λ (h : List ℕ). one_if (bytes_eq h name)) n [])
of_one name n (Some t) = omega (arith, sum_by-cons (λ (l : Local). one_if (bytes_eq l.name name)) (record { name = n; kind = t }) [])

of_all : (name : List ℕ) (vs : List Variable) → in_locals name (flat_map local_of vs) + in_hidden name (flat_map hidden_of vs) ≡ among name vs
unfolding in_locals in_hidden among
of_all name [] = refl
of_all name (v ∷ vs) =
    let a = sum_by-append (λ (l : Local). one_if (bytes_eq l.name name)) (local_of v) (flat_map local_of vs) in
    let b = sum_by-append (λ (h : List ℕ). one_if (bytes_eq h name)) (hidden_of v) (flat_map hidden_of vs) in
    let c = sum_by-cons (λ (x : Variable). one_if (bytes_eq x.name name)) v vs in
    omega (arith, a, b, c, of_one name v.name v.kind, of_all name vs)

-- each name of what variables give stands once at most
AreOnce : Names → Type 0
AreOnce n = (name : List ℕ) → in_locals name n.locals + in_hidden name n.hidden ≤ 1

names_once : (vs : List Variable) → AreOnce (names_of vs)
unfolding AreOnce locals_of hiddens_of
names_once vs name = omega (arith, of_all name (last_ones vs), one_counts name vs)

-- a site is made of a sight, with the prefix that is given
record IsMade (prefix : ℕ × ℕ) (s : HoleSite) : Type 0 where
  pub prefix_is : s.prefix ≡ prefix
  pub once : (name : List ℕ) → in_locals name s.locals + in_hidden name s.hidden ≤ 1

SightOnce : Option Sight → Type 0
SightOnce o = (s : Sight) → o ≡ Some s → AreOnce s.names

sighted_once : (n : Names) (o : Option TypeText) → AreOnce n → SightOnce (sighted n o)
unfolding SightOnce
sighted_once n None h s e = absurd cc
sighted_once n (Some t) h s e = let q : n ≡ s.names = cc in subst AreOnce q h

picked_once : (b : Bool) (o : Option Sight) → SightOnce o → SightOnce (if b then o else None)
unfolding SightOnce
picked_once true o h = h
picked_once false o h = λ s e. absurd cc

sight_once : (c : SourceClass) (m : SourceMethod) (b : BodySigns) → SightOnce (sight_in c m b)
unfolding sight_in
sight_once c m b = picked_once (is_in_blocks b.before) _ (sighted_once (names_of (variables_of m.params b)) (wanted (own_statement b.before) c m (names_of (variables_of m.params b))) (names_once (variables_of m.params b)))

AllMade : ℕ × ℕ → Option HoleSite → Type 0
AllMade prefix o = (s : HoleSite) → o ≡ Some s → IsMade prefix s

site_made : (at : MethodPlace) (static : Bool) (prefix : ℕ × ℕ) (o : Option Sight) → SightOnce o → AllMade prefix (site_by at static prefix o)
unfolding AllMade SightOnce AreOnce
site_made at static prefix None h s e = absurd cc
site_made at static prefix (Some x) h s e =
    let r : HoleSite = record { wanted = x.wanted; class = at.class; method = at.method; is_static = static; locals = x.names.locals; hidden = x.names.hidden; prefix = prefix } in
    let q : r ≡ s = cc in
    record {
      prefix_is = sym (ap (λ (y : HoleSite). y.prefix) q);
      once = λ name. subst (λ (y : HoleSite). in_locals name y.locals + in_hidden name y.hidden ≤ 1) q (h x refl name);
    }

body_made : (passed : ℕ) (ss : List Sign) (prefix : ℕ × ℕ) (at : MethodPlace) (c : SourceClass) (m : SourceMethod) (o : Option (ℕ × ℕ)) → AllMade prefix (in_body passed ss prefix at c m o)
unfolding AllMade
body_made passed ss prefix at c m None s e = absurd cc
body_made passed ss prefix at c m (Some r) s e = site_made at (is_static m.flags) prefix (sight_in c m (body_signs passed ss r.0)) (sight_once c m (body_signs passed ss r.0)) s e

method_made : (passed : ℕ) (ss : List Sign) (prefix : ℕ × ℕ) (at : MethodPlace) (c : SourceClass) (o : Option SourceMethod) → AllMade prefix (in_method passed ss prefix at c o)
unfolding AllMade
method_made passed ss prefix at c None s e = absurd cc
method_made passed ss prefix at c (Some m) s e = body_made passed ss prefix at c m m.body s e

class_made : (passed : ℕ) (ss : List Sign) (prefix : ℕ × ℕ) (at : MethodPlace) (o : Option SourceClass) → AllMade prefix (in_class passed ss prefix at o)
unfolding AllMade
class_made passed ss prefix at None s e = absurd cc
class_made passed ss prefix at (Some c) s e = method_made passed ss prefix at c (slice_get c.methods at.method) s e

classes_made : (passed : ℕ) (ss : List Sign) (prefix : ℕ × ℕ) (cs : List SourceClass) (o : Option MethodPlace) → AllMade prefix (in_classes passed ss prefix cs o)
unfolding AllMade
classes_made passed ss prefix cs None s e = absurd cc
classes_made passed ss prefix cs (Some at) s e = class_made passed ss prefix at (slice_get cs at.class) s e

behind_made : (passed count : ℕ) (ss : List Sign) (prefix : ℕ × ℕ) (cs : List SourceClass) → AllMade prefix (hole_behind passed count ss prefix cs)
unfolding hole_behind
behind_made passed count ss prefix cs = classes_made passed ss prefix cs (method_at passed count ss cs)

picked_made : (prefix : ℕ × ℕ) (b : Bool) (o : Option HoleSite) → AllMade prefix o → AllMade prefix (if b then o else None)
unfolding AllMade
picked_made prefix true o h = h
picked_made prefix false o h = λ s e. absurd cc

hole_made : (text : List ℕ) (tokens : List Token) (u : unit.Unit) (place : ℕ) → AllMade (prefix_start place (touched tokens place), place) (hole_of text tokens u place)
unfolding hole_of
hole_made text tokens u place =
    let start = prefix_start place (touched tokens place) in
    picked_made (start, place) (is_free text place (touched tokens place)) _ (behind_made (passed tokens start) (length tokens) (signs_of text tokens) (start, place) u.classes)

pub once : NamesStandOnce
unfolding AllMade in_locals in_hidden
once text tokens u place s name e = (hole_made text tokens u place s e).once name

-- the prefix begins at the place or before it
find_case : {A : Type 0} (b : Bool) (y : A) (r : Option A) (x : A) → (if b then Some y else r) ≡ Some x → ((b ≡ true) × (y ≡ x)) ⊎ (r ≡ Some x)
find_case true y r x e = let q : y ≡ x = cc in inl (refl, q)
find_case false y r x e = inr e

find_passes : {A : Type 0} (p : A → Bool) (xs : List A) (x : A) → find p xs ≡ Some x → p x ≡ true
find_passes p [] x e = absurd cc
find_passes p (y ∷ ys) x e = elim (find_case (p y) y (find p ys) x e) [ inl h ↦ sym (ap p h.1) ∙ h.0 | inr k ↦ find_passes p ys x k ]

picked_small : (b : Bool) (n m : ℕ) → n ≤ m → (if b then n else m) ≤ m
picked_small true n m l = l
picked_small false n m l = omega arith

start_small : (place : ℕ) (o : Option Token) → ((t : Token) → o ≡ Some t → t.start ≤ place) → prefix_start place o ≤ place
unfolding prefix_start
start_small place None h = omega arith
start_small place (Some t) h = picked_small (t.end == place && is_word t.kind) t.start place (h t refl)

and_left : (a b : Bool) → (a && b) ≡ true → a ≡ true
and_left true b e = refl
and_left false b e = absurd cc

less : (n m : ℕ) → nat_lt n m ≡ true → n < m
less n m e = search (rules, tests)

touched_before : (tokens : List Token) (place : ℕ) (t : Token) → touched tokens place ≡ Some t → t.start ≤ place
unfolding touched touches
touched_before tokens place t e =
    let l = less t.start place (and_left (nat_lt t.start place) (nat_le place t.end) (find_passes (touches place) tokens t e)) in
    omega (arith, l)

pub ends : PrefixEndsAtPlace
unfolding AllMade
ends text tokens u place s e b =
    let m = (hole_made text tokens u place s e).prefix_is in
    let start = prefix_start place (touched tokens place) in
    let l = start_small place (touched tokens place) (touched_before tokens place) in
    let x : s.prefix.0 ≡ start = ap (λ (q : ℕ × ℕ). q.0) m in
    let y : s.prefix.1 ≡ place = ap (λ (q : ℕ × ℕ). q.1) m in
    (omega (arith, x, y, l), y, omega (arith, y, b.0))

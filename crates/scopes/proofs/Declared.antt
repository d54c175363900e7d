-- The declarations of an environment fit its types.
use Rattle.std.proofs.Common.{◌≡◌, ◌∙◌, ap, sym, subst, refl, arith, rules, tests, ℕ, ◌+◌, ◌<◌, ◌≤◌, ◌/◌, nat_lt, Bool, true, false, cond, List, [], ◌∷◌, ◌++◌, length, map, bytes_eq, ◌||◌, not, Option, Some, None}
use Rattle.std.specs.Prelude.{is_some}
use Rattle.std.specs.List.{AllByRecursion, flat_map, list_any, list_all}
use Rattle.std.proofs.lemmas.Bool.{or_left, or_right}
use Rattle.std.proofs.lemmas.List.{length-map}
use Rattle.std.proofs.Math.Nat.{div-le_self}
use Rattle.type_names.specs.declared.kinds.Base.TheVariants.{Int, Boolean}
use Rattle.type_names.specs.declared.kinds.Erased.{Erased}
use Rattle.type_names.specs.Descriptors.{field}
use Rattle.terms.specs.declared.parts.Arg.TheVariants.{Plain}
use Rattle.terms.specs.declared.parts.Decl.{Decl}
use Rattle.terms.specs.declared.parts.Form.{Form}
use Rattle.terms.specs.declared.parts.Form.TheVariants as form
use Rattle.terms.specs.declared.fault.EnvFault.{EnvFault}
use Rattle.terms.specs.declared.fault.EnvFault.TheVariants.{TypeRange}
use Rattle.terms.specs.Faults.{or_then, unless, is_arg_known, are_plain, is_well_formed, decl_fault, decls_fault, pairs_fault, order_fault, limit_fault, greatest_depth, depth_fault, step_fault, steps_fault, first_env_fault, IsValid}
use Rattle.offers.specs.Scenes.{Scene, edited, package_here, package_of, of_class, denoted, sorted}
use Rattle.offers.specs.declared.member.Kind.{Kind}
use Rattle.offers.specs.declared.member.Kind.TheVariants as kind
use Rattle.offers.specs.declared.member.Member.{Member}
use Rattle.offers.specs.Candidates.{is_static, value, key}
use Rattle.offers.specs.Omissions.{after_three, after_four, after_five}
use Rattle.offers.specs.declared.member.Face.{Face}
use Rattle.offers.specs.Functional.{faces, of_base}
use Rattle.offers.specs.Pairs.{pairs_of}
use Rattle.offers.specs.Types.{string_type, types_in, member_types, face_types, mentioned, types_of, mentions_void}
use Rattle.scopes.specs.Kinds.{Kinds, listed, count, type_number, is_outcome_below, is_below_in, kinds_of, environment_kinds}
use Rattle.scopes.specs.Declarations.{weight_of, form_by, wants_by, member_decl, simple_decl, face_decl, literals, decls_of}
use Rattle.scopes.specs.Environments.{parts_by, environment_of}
use Rattle.scopes.specs.Validity.{IsOrdered}
use Rattle.decl_index.specs.Weighing.{AreWeights}
use Rattle.scopes.proofs.Every.{every-append, every-map, every-on, every-filter, every-all}
use Rattle.scopes.proofs.Numbered.{Has, Among, has-here, has-next, has-left, has-right, every-flat, sorted-has, type-among, void-among, number-lt}
use Rattle.scopes.proofs.OrderPairs.{pairs_right, order_right}

-- a declaration without a fault among n types
pub record Fits (n : ℕ) (d : Decl) : Type 0 where
  pub args : list_all (is_arg_known n) d.args ≡ true
  pub result : nat_lt d.result n ≡ true
  pub low : nat_lt 4 d.weight ≡ true
  pub high : nat_lt d.weight 10001 ≡ true
  pub formed : is_well_formed d.form d.args ≡ true

no-fault : (n k : ℕ) (d : Decl) → Fits n d → decl_fault n k d ≡ None
unfolding decl_fault
no-fault n k d h = rw (h.args, h.result, h.low, h.high, h.formed) refl

no-faults : (n k : ℕ) (ds : List Decl) → AllByRecursion (Fits n) ds → decls_fault n k ds ≡ None
unfolding decls_fault
no-faults n k [] h = refl
no-faults n k (d ∷ ds) h = ap (λ o. or_then o (decls_fault n (k + 1) ds)) (no-fault n k d h.0) ∙ no-faults n (k + 1) ds h.1

-- weights
at-least : (w : ℕ) → 5 ≤ w → nat_lt 4 w ≡ true
at-least w l = search (rules, tests, arith)

at-most : (w : ℕ) → w ≤ 10000 → nat_lt w 10001 ≡ true
at-most w l = search (rules, tests, arith)

weight-if : (a b : Bool) (x y z : ℕ) (P : ℕ → Type 0) → P x → P y → P z → P (cond a x (cond b y z))
weight-if true b x y z P p q r = p
weight-if false true x y z P p q r = q
weight-if false false x y z P p q r = r

weight-fits : (v : Scene) (m : Member) → AreWeights v.weights → (5 ≤ weight_of v m) × (weight_of v m ≤ 10000)
unfolding weight_of
weight-fits v m h =
    weight-if (bytes_eq m.owner (edited v)) (bytes_eq (package_of m.owner) (package_here v)) v.weights.own v.weights.«package» (v.weights.far + v.weights.span / (1 + v.usage (key m)))
    (λ w. (5 ≤ w) × (w ≤ 10000)) h.own h.near
    (let d = div-le_self v.weights.span (1 + v.usage (key m)) in let f = h.far in (omega (arith, f.0, d), omega (arith, f.1, d)))

-- arguments
type-lt : (ks : Kinds) (t : Erased) → Has ks.types t → nat_lt (type_number ks t) (count ks) ≡ true
type-lt ks t h = number-lt ks (Some t) (type-among ks t h)

known-args : (ks : Kinds) (xs : List Erased) → AllByRecursion (Has ks.types) xs → list_all (is_arg_known (count ks)) (map (λ t. Plain (type_number ks t)) xs) ≡ true
known-args ks xs h = every-all (is_arg_known (count ks)) (map (λ t. Plain (type_number ks t)) xs)
    (every-map (Has ks.types) (λ a. is_arg_known (count ks) a ≡ true) (λ t. Plain (type_number ks t)) (λ t k. type-lt ks t k) xs h)

plain-args : (ks : Kinds) (xs : List Erased) → are_plain (map (λ t. Plain (type_number ks t)) xs) ≡ true
plain-args ks [] = refl
plain-args ks (x ∷ xs) = plain-args ks xs

-- the types of a member are numbered
pub record Numbered (ks : Kinds) (m : Member) : Type 0 where
  pub owner : Has ks.types (of_class m.owner)
  pub params : AllByRecursion (Has ks.types) m.params
  pub value : Among ks (value m)

wants-numbered : (ks : Kinds) (m : Member) (k : Kind) (s : Bool) → Numbered ks m → AllByRecursion (Has ks.types) (wants_by m k s)
wants-numbered ks m kind.Field true h = search rules
wants-numbered ks m kind.Field false h = (h.owner, search rules)
wants-numbered ks m kind.Method true h = h.params
wants-numbered ks m kind.Method false h = (h.owner, h.params)
wants-numbered ks m kind.Constructor s h = h.params

well-formed : (v : Scene) (ks : Kinds) (m : Member) (k : Kind) (s : Bool) → is_well_formed (form_by v m k s) (map (λ t. Plain (type_number ks t)) (wants_by m k s)) ≡ true
well-formed v ks m kind.Field true = refl
well-formed v ks m kind.Field false = refl
well-formed v ks m kind.Method true = plain-args ks m.params
well-formed v ks m kind.Method false = plain-args ks m.params
well-formed v ks m kind.Constructor true = plain-args ks m.params
well-formed v ks m kind.Constructor false = plain-args ks m.params

member-fits : (v : Scene) (ks : Kinds) (ms : List Member) → AreWeights v.weights → (m : Member) → Numbered ks m → Fits (count ks) (member_decl v ks ms m)
unfolding member_decl
member-fits v ks ms w m h = let x = weight-fits v m w in record {
  args = known-args ks (wants_by m m.kind (is_static m)) (wants-numbered ks m m.kind (is_static m) h);
  result = number-lt ks (value m) h.value;
  low = at-least (weight_of v m) x.0;
  high = at-most (weight_of v m) x.1;
  formed = well-formed v ks m m.kind (is_static m);
}

simple-fits : (ks : Kinds) (f : Form) (t : Erased) (w : ℕ) → is_well_formed f [] ≡ true → (5 ≤ w) × (w ≤ 10000) → Has ks.types t → Fits (count ks) (simple_decl ks f t w)
simple-fits ks f t w e x h = record { args = refl; result = type-lt ks t h; low = at-least w x.0; high = at-most w x.1; formed = e }

pub record FaceNumbered (ks : Kinds) (f : Face) : Type 0 where
  pub name : Has ks.types (of_class f.name)
  pub params : AllByRecursion (Has ks.types) f.params
  pub result : Among ks f.result

numbers-known : (ks : Kinds) (ps : List Erased) → AllByRecursion (Has ks.types) ps → list_all (λ p. nat_lt p (count ks)) (map (type_number ks) ps) ≡ true
numbers-known ks ps h = every-all (λ p. nat_lt p (count ks)) (map (type_number ks) ps) (every-map (Has ks.types) (λ p. nat_lt p (count ks) ≡ true) (type_number ks) (λ t k. type-lt ks t k) ps h)

face-fits : (v : Scene) (ks : Kinds) → AreWeights v.weights → (f : Face) → FaceNumbered ks f → Fits (count ks) (face_decl v ks f)
unfolding face_decl
face-fits v ks w f h = record {
  args = rw (numbers-known ks f.params h.params, number-lt ks f.result h.result) refl;
  result = type-lt ks (of_class f.name) h.name;
  low = at-least v.weights.lambda w.lambda.0;
  high = at-most v.weights.lambda w.lambda.1;
  formed = refl;
}

-- what is mentioned
pub record AreNumbered (v : Scene) (ks : Kinds) (ms : List Member) (fs : List Face) : Type 0 where
  pub own : Has ks.types (of_class (edited v))
  pub goal : Has ks.types (denoted v v.site.wanted)
  pub int : Has ks.types (of_base Int)
  pub boolean : Has ks.types (of_base Boolean)
  pub string : Has ks.types string_type
  pub locals : AllByRecursion (λ l. Has ks.types (denoted v l.kind)) v.site.locals
  pub members : AllByRecursion (Numbered ks) ms
  pub faces : AllByRecursion (FaceNumbered ks) fs

-- what gives no value mentions `void`
any-each : {A : Type 0} (test : A → Bool) (xs : List A) → AllByRecursion (λ x. test x ≡ true → list_any test xs ≡ true) xs
any-each test [] = search rules
any-each test (x ∷ xs) = (λ e. or_left (test x) (list_any test xs) e, every-on (λ y. test y ≡ true → list_any test xs ≡ true) (λ y. test y ≡ true → (test x || list_any test xs) ≡ true) (λ y h e. or_right (test x) (list_any test xs) (h e)) xs (any-each test xs))

outcome-among : (ks : Kinds) (o : Option Erased) → AllByRecursion (Has ks.types) (types_in o) → (not (is_some o) ≡ true → ks.void ≡ true) → Among ks o
outcome-among ks None h f = void-among ks (f refl)
outcome-among ks (Some t) h f = type-among ks t h.0

each-left : (P : Erased → Type 0) (xs ys : List Erased) → AllByRecursion P (xs ++ ys) → AllByRecursion P xs
each-left P [] ys h = search rules
each-left P (x ∷ xs) ys h = (h.0, each-left P xs ys h.1)

each-right : (P : Erased → Type 0) (xs ys : List Erased) → AllByRecursion P (xs ++ ys) → AllByRecursion P ys
each-right P [] ys h = h
each-right P (x ∷ xs) ys h = each-right P xs ys h.1

member-numbered : (ks : Kinds) (m : Member) → AllByRecursion (Has ks.types) (member_types m) → (not (is_some (value m)) ≡ true → ks.void ≡ true) → Numbered ks m
member-numbered ks m h f = record {
  owner = h.0;
  params = each-right (Has ks.types) (types_in (value m)) m.params h.1;
  value = outcome-among ks (value m) (each-left (Has ks.types) (types_in (value m)) m.params h.1) f;
}

face-numbered : (ks : Kinds) (g : Face) → AllByRecursion (Has ks.types) (face_types g) → (not (is_some g.result) ≡ true → ks.void ≡ true) → FaceNumbered ks g
face-numbered ks g h f = record {
  name = h.0;
  params = each-right (Has ks.types) (types_in g.result) g.params h.1;
  result = outcome-among ks g.result (each-left (Has ks.types) (types_in g.result) g.params h.1) f;
}

every-two : {A : Type 0} (P Q R : A → Type 0) → ((x : A) → P x → Q x → R x) → (xs : List A) → AllByRecursion P xs → AllByRecursion Q xs → AllByRecursion R xs
every-two P Q R f [] h k = h
every-two P Q R f (x ∷ xs) h k = (f x h.0 k.0, every-two P Q R f xs h.1 k.1)

abbrev gives_none : Member → Bool
gives_none m = not (is_some (value m))

abbrev takes_none : Face → Bool
takes_none f = not (is_some f.result)

void-members : (ms : List Member) (fs : List Face) → AllByRecursion (λ m. gives_none m ≡ true → mentions_void ms fs ≡ true) ms
unfolding mentions_void
void-members ms fs = every-on (λ m. gives_none m ≡ true → list_any gives_none ms ≡ true) (λ m. gives_none m ≡ true → (list_any gives_none ms || list_any takes_none fs) ≡ true) (λ m h e. or_left (list_any gives_none ms) (list_any takes_none fs) (h e)) ms (any-each gives_none ms)

void-faces : (ms : List Member) (fs : List Face) → AllByRecursion (λ f. takes_none f ≡ true → mentions_void ms fs ≡ true) fs
unfolding mentions_void
void-faces ms fs = every-on (λ f. takes_none f ≡ true → list_any takes_none fs ≡ true) (λ f. takes_none f ≡ true → (list_any gives_none ms || list_any takes_none fs) ≡ true) (λ f h e. or_right (list_any gives_none ms) (list_any takes_none fs) (h e)) fs (any-each takes_none fs)

local-types : {A : Type 0} (f : A → Erased) (xs : List A) → AllByRecursion (λ x. Has (map f xs) (f x)) xs
local-types f [] = search rules
local-types f (x ∷ xs) = (has-here (f x) (map f xs), every-on (λ y. Has (map f xs) (f y)) (λ y. Has (f x ∷ map f xs) (f y)) (λ y h. has-next (f x) (f y) (map f xs) h) xs (local-types f xs))

pub numbered : (v : Scene) (ms : List Member) (fs : List Face) → AreNumbered v (kinds_of v ms fs) ms fs
unfolding types_of
numbered v ms fs =
    let ks = kinds_of v ms fs in
    let all = mentioned v ms fs in
    let of_ms = flat_map member_types ms in
    let of_fs = flat_map face_types fs in
    let of_ls = map (λ l. denoted v l.kind) v.site.locals in
    let a = of_class (edited v) in let b = denoted v v.site.wanted in let i = of_base Int in let z = of_base Boolean in
    let rest = of_ls ++ of_ms ++ of_fs in
    let far : (t : Erased) → Has rest t → Has all t = (λ t h. has-next a t _ (has-next b t _ (has-next i t _ (has-next z t _ (has-next string_type t rest h))))) in
    let to : (t : Erased) → Has all t → Has (sorted field all) t = (λ t h. sorted-has all t h) in
    let each_member : AllByRecursion (λ m. AllByRecursion (Has (sorted field all)) (member_types m)) ms =
    every-on (λ m. AllByRecursion (Has of_ms) (member_types m)) (λ m. AllByRecursion (Has (sorted field all)) (member_types m))
    (λ m k. every-on (Has of_ms) (Has (sorted field all)) (λ t h. to t (far t (has-left (of_ls ++ of_ms) of_fs t (has-right of_ls of_ms t h)))) (member_types m) k) ms (every-flat member_types ms) in
    let each_face : AllByRecursion (λ f. AllByRecursion (Has (sorted field all)) (face_types f)) fs =
    every-on (λ f. AllByRecursion (Has of_fs) (face_types f)) (λ f. AllByRecursion (Has (sorted field all)) (face_types f))
    (λ f k. every-on (Has of_fs) (Has (sorted field all)) (λ t h. to t (far t (has-right (of_ls ++ of_ms) of_fs t h))) (face_types f) k) fs (every-flat face_types fs) in
    record {
      own = to a (has-here a _);
      goal = to b (has-next a b _ (has-here b _));
      int = to i (has-next a i _ (has-next b i _ (has-here i _)));
      boolean = to z (has-next a z _ (has-next b z _ (has-next i z _ (has-here z _))));
      string = to string_type (has-next a string_type _ (has-next b string_type _ (has-next i string_type _ (has-next z string_type _ (has-here string_type rest)))));
      locals = every-on (λ l. Has of_ls (denoted v l.kind)) (λ l. Has (sorted field all) (denoted v l.kind)) (λ l h. to (denoted v l.kind) (far (denoted v l.kind) (has-left (of_ls ++ of_ms) of_fs (denoted v l.kind) (has-left of_ls of_ms (denoted v l.kind) h)))) v.site.locals (local-types (λ l. denoted v l.kind) v.site.locals);
      members = every-two (λ m. AllByRecursion (Has (sorted field all)) (member_types m)) (λ m. gives_none m ≡ true → ks.void ≡ true) (Numbered ks) (member-numbered ks) ms each_member (void-members ms fs);
      faces = every-two (λ f. AllByRecursion (Has (sorted field all)) (face_types f)) (λ f. takes_none f ≡ true → ks.void ≡ true) (FaceNumbered ks) (face-numbered ks) fs each_face (void-faces ms fs);
    }

-- all declarations
this-fits : (b : Bool) (ks : Kinds) (d : Decl) → Fits (count ks) d → AllByRecursion (Fits (count ks)) (cond b [] (d ∷ []))
this-fits true ks d h = search rules
this-fits false ks d h = (h, search rules)

pub decls-fit : (v : Scene) (ks : Kinds) (ms : List Member) (fs : List Face) → AreWeights v.weights → AreNumbered v ks ms fs → AllByRecursion (Fits (count ks)) (decls_of v ks ms fs)
unfolding decls_of after_five after_four
decls-fit v ks ms fs w h =
    let n = count ks in
    every-append (Fits n) _ _ (every-append (Fits n) _ _ (every-append (Fits n) _ (literals v ks) (every-append (Fits n) _ _
    (this-fits v.site.is_static ks _ (simple-fits ks form.This (of_class (edited v)) v.weights.local refl w.local h.own))
    (every-map (λ l. Has ks.types (denoted v l.kind)) (Fits n) (λ l. simple_decl ks (form.Name l.name) (denoted v l.kind) v.weights.local) (λ l k. simple-fits ks (form.Name l.name) (denoted v l.kind) v.weights.local refl w.local k) v.site.locals h.locals))
    (simple-fits ks _ _ _ refl w.literal h.int, (simple-fits ks _ _ _ refl w.literal h.boolean, (simple-fits ks _ _ _ refl w.literal h.boolean, (simple-fits ks _ _ _ refl w.literal h.string, search rules)))))
    (every-map (Numbered ks) (Fits n) (member_decl v ks ms) (member-fits v ks ms w) (after_five v ks.types ms) (every-filter (Numbered ks) _ _ (every-filter (Numbered ks) _ ms h.members))))
    (every-map (FaceNumbered ks) (Fits n) (face_decl v ks) (face-fits v ks w) fs h.faces)

-- the whole
goal-of : List Decl → EnvFault
goal-of ds = TypeRange (length ds)

limit-right : (v : Scene) (ks : Kinds) (ds : List Decl) (limit depth : ℕ) → 0 < limit → limit < 10001 → limit_fault (parts_by v ks ds limit depth) ≡ None
limit-right v ks ds limit depth a b =
    let x : nat_lt 0 limit ≡ true = search (rules, tests, arith) in
    let y : nat_lt limit 10001 ≡ true = search (rules, tests, arith) in
    rw (x, y) refl

depth-right : (v : Scene) (ks : Kinds) (ds : List Decl) (limit depth : ℕ) → depth ≤ greatest_depth → depth_fault (parts_by v ks ds limit depth) ≡ None
depth-right v ks ds limit depth a = let x : nat_lt depth (greatest_depth + 1) ≡ true = search (rules, tests, arith) in rw x refl

then-none : (a b : Option EnvFault) → a ≡ None → b ≡ None → or_then a b ≡ None
then-none a b e f = rw (e, f) refl

step-right : (i n greatest : ℕ) → 1 ≤ n → n ≤ greatest → step_fault i n greatest ≡ None
step-right i n greatest a b =
    let x : nat_lt 0 n ≡ true = search (rules, tests, arith) in
    let y : nat_lt n (greatest + 1) ≡ true = search (rules, tests, arith) in
    rw (x, y) refl

steps-right : (v : Scene) (ks : Kinds) (ds : List Decl) (limit depth : ℕ) → AreWeights v.weights → steps_fault (parts_by v ks ds limit depth) ≡ None
steps-right v ks ds limit depth w =
    then-none _ _ (step-right 1 v.weights.bound 100 w.bound.0 w.bound.1)
    (then-none _ _ (step-right 2 v.weights.binder 100 w.binder.0 w.binder.1)
    (step-right 3 v.weights.step 10000 w.step.0 w.step.1))

never-below : (v : Scene) → IsOrdered v → (k : Option Erased) → is_outcome_below v k k ≡ false
never-below v o None = refl
never-below v o (Some t) = o.never t

through-below : (v : Scene) → IsOrdered v → (a b c : Option Erased) → is_outcome_below v a b ≡ true → is_outcome_below v b c ≡ true → is_outcome_below v a c ≡ true
through-below v o None b c e f = absurd (none-low b e)
  where
    none-low : (k : Option Erased) → is_outcome_below v None k ≡ true → ⊥
    none-low None g = absurd (let h = g in cc)
    none-low (Some t) g = absurd (let h = g in cc)
through-below v o (Some a) None c e f = absurd (let h = e in cc)
through-below v o (Some a) (Some b) None e f = absurd (let h = f in cc)
through-below v o (Some a) (Some b) (Some c) e f = o.through a b c e f

all-right : (v : Scene) (ks : Kinds) (ms : List Member) (fs : List Face) (limit depth : ℕ) → IsOrdered v → AreWeights v.weights → AreNumbered v ks ms fs → 0 < limit → limit < 10001 → depth ≤ greatest_depth → IsValid (parts_by v ks (decls_of v ks ms fs) limit depth)
unfolding first_env_fault goal-of
all-right v ks ms fs limit depth o w h a b d =
    let n = count ks in
    let f = is_below_in v ks in
    then-none _ _ (limit-right v ks (decls_of v ks ms fs) limit depth a b)
    (then-none _ _ (depth-right v ks (decls_of v ks ms fs) limit depth d)
    (then-none _ _ (steps-right v ks (decls_of v ks ms fs) limit depth w)
    (then-none _ _ (subst (λ k. pairs_fault k 0 [] (pairs_of n f) ≡ None) (sym (length-map (listed ks) _)) (pairs_right n f (λ i. never-below v o _)))
    (then-none _ _ (subst (λ k. order_fault k (pairs_of n f) ≡ None) (sym (length-map (listed ks) _)) (order_right n f (λ i j k. through-below v o _ _ _)))
    (then-none _ _ (subst (λ k. decls_fault k 0 (decls_of v ks ms fs) ≡ None) (sym (length-map (listed ks) _)) (no-faults n 0 (decls_of v ks ms fs) (decls-fit v ks ms fs w h)))
    (subst (λ k. unless (nat_lt (type_number ks (denoted v v.site.wanted)) k) (goal-of (decls_of v ks ms fs)) ≡ None) (sym (length-map (listed ks) _)) (rw (type-lt ks (denoted v v.site.wanted) h.goal) refl)))))))

pub environment-right : (v : Scene) (limit depth : ℕ) → IsOrdered v → AreWeights v.weights → 0 < limit → limit < 10001 → depth ≤ greatest_depth → IsValid (environment_of v limit depth)
unfolding environment_of
environment-right v limit depth o w a b d = all-right v (environment_kinds v) (after_three v) (faces v) limit depth o w (numbered v (after_three v) (faces v)) a b d

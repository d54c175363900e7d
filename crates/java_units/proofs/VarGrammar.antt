-- Type variables are read as the grammar spells them, the longest ones.
use Rattle.std.proofs.Common.{◌≡◌, ◌≢◌, ◌<◌, ◌≤◌, ◌∙◌, ap, sym, subst, ℕ, zero, suc, ◌+◌, ◌==◌, Bool, true, false, if◌then◌else◌, List, [], ◌∷◌, ◌++◌, length, take, drop, refl, arith, codes, length-append, append_assoc}
use Rattle.std.proofs.lemmas.List.{length-drop}
use Rattle.std.proofs.Math.Seq.{take-add, drop-append_seam}
use Rattle.java_units.specs.declared.entries.Entry.TheVariants as entry
use Rattle.java_units.specs.Signs.{Sign, is}
use Rattle.java_units.specs.Forms.{begins, begins_name, span, type_len, bound_len, bounds_len, var_len, next_len, entries_len, vars_len}
use Rattle.java_units.specs.Grammar.{IsSign, sign, IsBoth, both, IsOptional, absent, present, IsList, identifier, IsType, IsVar, IsVars}
use Rattle.java_units.specs.Longest.{NamesAreIdentifiers, VarsAreLongest}
use Rattle.java_units.proofs.Walks.{pick}
use Rattle.java_units.proofs.Groups.{is_other, differ}
use Rattle.java_units.proofs.TypeGrammar.{TypeEnds, type_just, type_sound, type_within, type_some, takes_longest}
use Rattle.java_units.proofs.ListGrammar.{ReadsTail, Stops, list_len, list_just, list_sound, list_within, list_part, first_some, names_behind, tail_none, suc_of}
use Rattle.java_units.proofs.SignKinds.{begins_not, begins_so, no_name_tail, no_dim}

-- bounds

abbrev pub IsBounds : List Sign → Type 0
IsBounds ss = IsBoth (IsSign (codes "extends")) (IsList (codes "&") IsType) ss

reads_bound : ReadsTail (codes "&") type_len bound_len
unfolding bound_len
reads_bound ss = refl

unfoldable types_len : List Sign → ℕ
types_len ss = list_len type_len bound_len ss

bounds_at : (s : Sign) (zs : List Sign) (m : ℕ) → is (codes "extends") s ≡ true → type_len zs ≡ suc m → bounds_len (s ∷ zs) ≡ suc (types_len zs)
unfolding bounds_len begins types_len list_len
bounds_at s zs m e h =
    let one : 1 + type_len zs ≡ suc (type_len zs) = omega arith in
    let past : (1 + type_len zs) + span bound_len (drop (1 + type_len zs) (s ∷ zs)) ≡ suc (type_len zs) + span bound_len (drop (type_len zs) zs) = ap (λ k. k + span bound_len (drop k (s ∷ zs))) one in
    rw (e) (pick (type_len zs) m 0 ((1 + type_len zs) + span bound_len (drop (1 + type_len zs) (s ∷ zs))) (sym h) ∙ (past ∙ omega arith))

pub no_bounds : (ss : List Sign) → begins (codes "extends") ss ≡ false → bounds_len ss ≡ 0
unfolding bounds_len
no_bounds ss e = rw (e) refl

boundless : (s : Sign) (zs : List Sign) (b : Bool) → is (codes "extends") s ≡ b → type_len zs ≡ 0 → bounds_len (s ∷ zs) ≡ 0
unfolding bounds_len begins
boundless s zs true e h = rw (e, h) refl
boundless s zs false e h = rw (e) refl

-- what ends a type variable
pub record VarEnds (tail : List Sign) : Type 0 where
  pub kind : TypeEnds tail
  pub no_and : begins (codes "&") tail ≡ false
  pub no_extends : begins (codes "extends") tail ≡ false

-- a sign of one character that goes on with no type
pub record IsApart (a : ℕ) : Type 0 where
  angle : 60 ≢ a
  dot : 46 ≢ a
  square : 91 ≢ a

pub type_ends : (a : ℕ) → IsApart a → (s : Sign) (ss : List Sign) → is (a ∷ []) s ≡ true → TypeEnds (s ∷ ss)
type_ends a d s ss e = record {
  no_angle = begins_not (codes "<") s ss (is_other (codes "<") (a ∷ []) (differ 60 a d.angle) s e);
  no_part = no_name_tail (s ∷ ss) (begins_not (codes ".") s ss (is_other (codes ".") (a ∷ []) (differ 46 a d.dot) s e));
  no_dim = no_dim (s ∷ ss) (begins_not (codes "[") s ss (is_other (codes "[") (a ∷ []) (differ 91 a d.square) s e));
}

pub and_ends : (s : Sign) (ss : List Sign) → is (codes "&") s ≡ true → TypeEnds (s ∷ ss)
and_ends s ss e =
    let d : IsApart 38 = record { angle = λ e. absurd (omega arith); dot = λ e. absurd (omega arith); square = λ e. absurd (omega arith) } in
    type_ends 38 d s ss e

extends_differs : (a : ℕ) → codes "extends" ≢ a ∷ []
extends_differs a h = let l : 7 ≡ 1 = ap length h in absurd (omega (arith, l))

var_ends : (a : ℕ) → IsApart a → 38 ≢ a → (s : Sign) (ss : List Sign) → is (a ∷ []) s ≡ true → VarEnds (s ∷ ss)
var_ends a d n s ss e = record {
  kind = type_ends a d s ss e;
  no_and = begins_not (codes "&") s ss (is_other (codes "&") (a ∷ []) (differ 38 a n) s e);
  no_extends = begins_not (codes "extends") s ss (is_other (codes "extends") (a ∷ []) (extends_differs a) s e);
}

pub comma_ends : (s : Sign) (ss : List Sign) → is (codes ",") s ≡ true → VarEnds (s ∷ ss)
comma_ends s ss e =
    let d : IsApart 44 = record { angle = λ e. absurd (omega arith); dot = λ e. absurd (omega arith); square = λ e. absurd (omega arith) } in
    var_ends 44 d (λ e. absurd (omega arith)) s ss e

pub close_ends : (s : Sign) (ss : List Sign) → is (codes ">") s ≡ true → VarEnds (s ∷ ss)
close_ends s ss e =
    let d : IsApart 62 = record { angle = λ e. absurd (omega arith); dot = λ e. absurd (omega arith); square = λ e. absurd (omega arith) } in
    var_ends 62 d (λ e. absurd (omega arith)) s ss e

types_just : (ss : List Sign) → IsList (codes "&") IsType ss → (tail : List Sign) → NamesAreIdentifiers (ss ++ tail) → VarEnds tail → types_len (ss ++ tail) ≡ length ss
unfolding types_len
types_just ss t tail f h =
    list_just (codes "&") IsType TypeEnds type_len bound_len reads_bound type_just type_some and_ends ss t tail f h.kind (tail_none (codes "&") type_len bound_len reads_bound tail h.no_and)

pub optional_bounds : (ss : List Sign) → IsOptional IsBounds ss → (tail : List Sign) → NamesAreIdentifiers (ss ++ tail) → VarEnds tail → bounds_len (ss ++ tail) ≡ length ss
optional_bounds _ absent tail f h = no_bounds tail h.no_extends
optional_bounds _ (present _ (both _ types (sign s e) t)) tail f h =
    let behind = names_behind (s ∷ []) (types ++ tail) f in
    let there = suc_of (type_len (types ++ tail)) (list_part (codes "&") IsType TypeEnds type_len type_just type_some and_ends types t tail behind h.kind) in
    bounds_at s (types ++ tail) there.0 e there.1 ∙ ap suc (types_just types t tail behind h)

types_sound : (ss : List Sign) → 0 < type_len ss → IsList (codes "&") IsType (take (types_len ss) ss)
unfolding types_len
types_sound ss l = list_sound (codes "&") IsType type_len bound_len reads_bound type_sound type_within ss l

bounds_by : (s : Sign) (zs : List Sign) (b : Bool) (m : ℕ) → is (codes "extends") s ≡ b → type_len zs ≡ m → IsOptional IsBounds (take (bounds_len (s ∷ zs)) (s ∷ zs))
bounds_by s zs false m e h = subst (λ k. IsOptional IsBounds (take k (s ∷ zs))) (sym (no_bounds (s ∷ zs) (begins_not (codes "extends") s zs e))) absent
bounds_by s zs true zero e h = subst (λ k. IsOptional IsBounds (take k (s ∷ zs))) (sym (boundless s zs true e h)) absent
bounds_by s zs true (suc m) e h =
    let some : 0 < type_len zs = omega (arith, h) in
    subst (λ k. IsOptional IsBounds (take k (s ∷ zs))) (sym (bounds_at s zs m e h)) (present (s ∷ take (types_len zs) zs) (both (s ∷ []) (take (types_len zs) zs) (sign s e) (types_sound zs some)))

bounds_sound : (ss : List Sign) → IsOptional IsBounds (take (bounds_len ss) ss)
unfolding begins
bounds_sound [] = subst (λ k. IsOptional IsBounds (take k [])) (sym (no_bounds [] refl)) absent
bounds_sound (s ∷ zs) = bounds_by s zs (is (codes "extends") s) (type_len zs) refl refl

types_within : (ss : List Sign) → types_len ss ≤ length ss
unfolding types_len
types_within ss = list_within (codes "&") type_len bound_len reads_bound type_within ss

bounds_within_by : (s : Sign) (zs : List Sign) (b : Bool) (m : ℕ) → is (codes "extends") s ≡ b → type_len zs ≡ m → bounds_len (s ∷ zs) ≤ suc (length zs)
bounds_within_by s zs false m e h = omega (arith, no_bounds (s ∷ zs) (begins_not (codes "extends") s zs e))
bounds_within_by s zs true zero e h = omega (arith, boundless s zs true e h)
bounds_within_by s zs true (suc m) e h = omega (arith, bounds_at s zs m e h, types_within zs)

bounds_within : (ss : List Sign) → bounds_len ss ≤ length ss
unfolding begins
bounds_within [] = omega (arith, no_bounds [] refl)
bounds_within (s ∷ zs) = bounds_within_by s zs (is (codes "extends") s) (type_len zs) refl refl

-- a type variable

var_at : (s : Sign) (zs : List Sign) → s.is_name ≡ true → var_len (s ∷ zs) ≡ suc (bounds_len zs)
unfolding var_len begins_name
var_at s zs e = rw (e) (omega arith)

no_var : (ss : List Sign) → begins_name ss ≡ false → var_len ss ≡ 0
unfolding var_len
no_var ss e = rw (e) refl

pub var_stops : Stops IsVar var_len VarEnds
var_stops _ (both _ bounds (identifier s e) b) tail f h =
    var_at s (bounds ++ tail) e ∙ ap suc (optional_bounds bounds b tail (names_behind (s ∷ []) (bounds ++ tail) f) h)

pub var_some : (ss : List Sign) → IsVar ss → 0 < length ss
var_some _ (both _ bounds (identifier s e) b) = omega arith

var_by : (s : Sign) (zs : List Sign) (b : Bool) → s.is_name ≡ b → 0 < var_len (s ∷ zs) → IsVar (take (var_len (s ∷ zs)) (s ∷ zs))
unfolding begins_name
var_by s zs true e l = subst (λ k. IsVar (take k (s ∷ zs))) (sym (var_at s zs e)) (both (s ∷ []) (take (bounds_len zs) zs) (identifier s e) (bounds_sound zs))
var_by s zs false e l = absurd (omega (arith, no_var (s ∷ zs) e, l))

var_sound : (ss : List Sign) → 0 < var_len ss → IsVar (take (var_len ss) ss)
unfolding begins_name
var_sound [] l = absurd (omega (arith, no_var [] refl, l))
var_sound (s ∷ zs) l = var_by s zs s.is_name refl l

var_within_by : (s : Sign) (zs : List Sign) (b : Bool) → s.is_name ≡ b → var_len (s ∷ zs) ≤ suc (length zs)
unfolding begins_name
var_within_by s zs true e = omega (arith, var_at s zs e, bounds_within zs)
var_within_by s zs false e = omega (arith, no_var (s ∷ zs) e)

var_within : (ss : List Sign) → var_len ss ≤ length ss
unfolding begins_name
var_within [] = omega (arith, no_var [] refl)
var_within (s ∷ zs) = var_within_by s zs s.is_name refl

-- type variables with commas between

pub reads_next : ReadsTail (codes ",") var_len (next_len entry.Var)
unfolding next_len
reads_next ss = refl

unfoldable list_of : List Sign → ℕ
list_of ss = list_len var_len (next_len entry.Var) ss

entries_at : (ss : List Sign) (m : ℕ) → var_len ss ≡ suc m → entries_len entry.Var ss ≡ list_of ss
unfolding entries_len list_of list_len
entries_at ss m e = pick (var_len ss) m 0 (var_len ss + span (next_len entry.Var) (drop (var_len ss) ss)) (sym e)

no_entries : (ss : List Sign) → var_len ss ≡ 0 → entries_len entry.Var ss ≡ 0
unfolding entries_len
no_entries ss e = rw (e) refl

pub no_comma : (s : Sign) (ss : List Sign) → is (codes ">") s ≡ true → begins (codes ",") (s ∷ ss) ≡ false
no_comma s ss e = begins_not (codes ",") s ss (is_other (codes ",") (codes ">") (differ 44 62 (λ e. absurd (omega arith))) s e)

list_reads : (ss : List Sign) → IsList (codes ",") IsVar ss → (s : Sign) (tail : List Sign) → is (codes ">") s ≡ true → NamesAreIdentifiers (ss ++ (s ∷ tail)) → entries_len entry.Var (ss ++ (s ∷ tail)) ≡ length ss
unfolding list_of
list_reads ss v s tail e f =
    let ends = close_ends s tail e in
    let rest = s ∷ tail in
    let there = suc_of (var_len (ss ++ rest)) (list_part (codes ",") IsVar VarEnds var_len var_stops var_some comma_ends ss v rest f ends) in
    entries_at (ss ++ rest) there.0 there.1 ∙ list_just (codes ",") IsVar VarEnds var_len (next_len entry.Var) reads_next var_stops var_some comma_ends ss v rest f ends (tail_none (codes ",") var_len (next_len entry.Var) reads_next rest (no_comma s tail e))

vars_at : (s : Sign) (zs : List Sign) (m : ℕ) → is (codes "<") s ≡ true → entries_len entry.Var zs ≡ suc m → begins (codes ">") (drop (suc m) zs) ≡ true → vars_len (s ∷ zs) ≡ suc (suc (suc m))
unfolding vars_len begins
vars_at s zs m e h g =
    let one : 1 + entries_len entry.Var zs ≡ suc (suc m) = omega (arith, h) in
    let last : (if begins (codes ">") (drop (1 + entries_len entry.Var zs) (s ∷ zs)) then (1 + entries_len entry.Var zs) + 1 else 0) ≡ (suc (suc m)) + 1 = ap (λ k. if begins (codes ">") (drop k (s ∷ zs)) then k + 1 else 0) one ∙ ap {B = ℕ} (λ b. if b then suc (suc m) + 1 else 0) g in
    rw (e) (pick (entries_len entry.Var zs) m 0 (if begins (codes ">") (drop (1 + entries_len entry.Var zs) (s ∷ zs)) then (1 + entries_len entry.Var zs) + 1 else 0) (sym h) ∙ (last ∙ omega arith))

pub vars_least : (ss : List Sign) → IsVars ss → (tail : List Sign) → NamesAreIdentifiers (ss ++ tail) → length ss ≤ vars_len (ss ++ tail)
vars_least _ (both _ _ (sign s e) (both list _ v (sign t g))) tail f =
    let same = append_assoc list (t ∷ []) tail in
    let behind = subst NamesAreIdentifiers same (names_behind (s ∷ []) ((list ++ (t ∷ [])) ++ tail) f) in
    let size = list_reads list v t tail g behind in
    let there = suc_of (length list) (first_some (codes ",") IsVar var_some list v) in
    let zs = list ++ (t ∷ tail) in
    let shut : begins (codes ">") (drop (suc there.0) zs) ≡ true = ap (λ k. begins (codes ">") (drop k zs)) (sym there.1) ∙ (ap (begins (codes ">")) (drop-append_seam list (t ∷ tail)) ∙ begins_so (codes ">") t tail g) in
    omega (arith, ap (λ xs. vars_len (s ∷ xs)) same, vars_at s zs there.0 e (size ∙ there.1) shut, there.1, length-append list (t ∷ []))

pub vars_some : (ss : List Sign) → IsVars ss → 0 < length ss
vars_some _ (both _ _ (sign s e) (both list _ v (sign t g))) = omega arith

no_vars : (ss : List Sign) → begins (codes "<") ss ≡ false → vars_len ss ≡ 0
unfolding vars_len
no_vars ss e = rw (e) refl

if_none : (a : Bool) → ◌≡◌ {A = ℕ} (if a then 0 else 0) 0
if_none true = refl
if_none false = refl

varless : (s : Sign) (zs : List Sign) → entries_len entry.Var zs ≡ 0 → vars_len (s ∷ zs) ≡ 0
unfolding vars_len begins
varless s zs e = rw (e) (if_none (is (codes "<") s))

nothing_else : (a b : Bool) (n : ℕ) → n ≡ 0 → (if a then (if b then 0 else n) else 0) ≡ 0
nothing_else true true n e = refl
nothing_else true false n e = e
nothing_else false b n e = refl

unclosed : (s : Sign) (zs : List Sign) (m : ℕ) → entries_len entry.Var zs ≡ suc m → begins (codes ">") (drop (suc m) zs) ≡ false → vars_len (s ∷ zs) ≡ 0
unfolding vars_len begins
unclosed s zs m h g =
    let n = entries_len entry.Var zs in
    let one : 1 + n ≡ suc (suc m) = omega (arith, h) in
    let last : (if begins (codes ">") (drop (1 + n) (s ∷ zs)) then (1 + n) + 1 else 0) ≡ 0 = ap (λ k. if begins (codes ">") (drop k (s ∷ zs)) then k + 1 else 0) one ∙ ap {B = ℕ} (λ b. if b then suc (suc m) + 1 else 0) g in
    nothing_else (is (codes "<") s) (n == 0) (if begins (codes ">") (drop (1 + n) (s ∷ zs)) then (1 + n) + 1 else 0) last

entries_by : (ss : List Sign) (n m : ℕ) → var_len ss ≡ n → entries_len entry.Var ss ≡ suc m → (0 < var_len ss) × (entries_len entry.Var ss ≡ list_of ss)
entries_by ss zero m e h = absurd (omega (arith, no_entries ss e, h))
entries_by ss (suc n) m e h = (omega (arith, e), entries_at ss n e)

entries_sound : (ss : List Sign) (m : ℕ) → entries_len entry.Var ss ≡ suc m → IsList (codes ",") IsVar (take (suc m) ss)
unfolding list_of
entries_sound ss m h =
    let p = entries_by ss (var_len ss) m refl h in
    subst (λ k. IsList (codes ",") IsVar (take k ss)) (sym p.1 ∙ h) (list_sound (codes ",") IsVar var_len (next_len entry.Var) reads_next var_sound var_within ss p.0)

record Shut (ss : List Sign) : Type 0 where
  sign_at : Sign
  others : List Sign
  are : ss ≡ sign_at ∷ others
  shuts : is (codes ">") sign_at ≡ true

shut_by : (ss : List Sign) → begins (codes ">") ss ≡ true → Shut ss
unfolding begins
shut_by [] e = absurd (cc)
shut_by (s ∷ ss) e = record { sign_at = s; others = ss; are = refl; shuts = e }

closed_vars : (s : Sign) (zs : List Sign) (m : ℕ) → is (codes "<") s ≡ true → entries_len entry.Var zs ≡ suc m → begins (codes ">") (drop (suc m) zs) ≡ true → IsVars (take (vars_len (s ∷ zs)) (s ∷ zs))
closed_vars s zs m e h g =
    let d = shut_by (drop (suc m) zs) g in
    let size : vars_len (s ∷ zs) ≡ suc (suc m + 1) = omega (arith, vars_at s zs m e h g) in
    let cut : take (suc m + 1) zs ≡ take (suc m) zs ++ (d.sign_at ∷ []) = take-add (suc m) 1 zs ∙ ap (λ xs. take (suc m) zs ++ take 1 xs) d.are in
    let tree = both (s ∷ []) (take (suc m) zs ++ (d.sign_at ∷ [])) (sign s e) (both (take (suc m) zs) (d.sign_at ∷ []) (entries_sound zs m h) (sign d.sign_at d.shuts)) in
    subst IsVars (sym (ap (λ k. take k (s ∷ zs)) size ∙ ap (λ xs. s ∷ xs) cut)) tree

vars_if : (s : Sign) (zs : List Sign) (a : Bool) (m : ℕ) (b : Bool) → is (codes "<") s ≡ a → entries_len entry.Var zs ≡ m → begins (codes ">") (drop m zs) ≡ b → 0 < vars_len (s ∷ zs) → IsVars (take (vars_len (s ∷ zs)) (s ∷ zs))
vars_if s zs false m b e h g l = absurd (omega (arith, no_vars (s ∷ zs) (begins_not (codes "<") s zs e), l))
vars_if s zs true zero b e h g l = absurd (omega (arith, varless s zs h, l))
vars_if s zs true (suc m) false e h g l = absurd (omega (arith, unclosed s zs m h g, l))
vars_if s zs true (suc m) true e h g l = closed_vars s zs m e h g

vars_sound : (ss : List Sign) → 0 < vars_len ss → IsVars (take (vars_len ss) ss)
unfolding begins
vars_sound [] l = absurd (omega (arith, no_vars [] refl, l))
vars_sound (s ∷ zs) l =
    let n = entries_len entry.Var zs in
    vars_if s zs (is (codes "<") s) n (begins (codes ">") (drop n zs)) refl refl refl l

vars_within_if : (s : Sign) (zs : List Sign) (a : Bool) (m : ℕ) (b : Bool) → is (codes "<") s ≡ a → entries_len entry.Var zs ≡ m → begins (codes ">") (drop m zs) ≡ b → vars_len (s ∷ zs) ≤ suc (length zs)
vars_within_if s zs false m b e h g = omega (arith, no_vars (s ∷ zs) (begins_not (codes "<") s zs e))
vars_within_if s zs true zero b e h g = omega (arith, varless s zs h)
vars_within_if s zs true (suc m) false e h g = omega (arith, unclosed s zs m h g)
vars_within_if s zs true (suc m) true e h g =
    let d = shut_by (drop (suc m) zs) g in
    omega (arith, vars_at s zs m e h g, ap length d.are, length-drop (suc m) zs)

vars_within : (ss : List Sign) → vars_len ss ≤ length ss
unfolding begins
vars_within [] = omega (arith, no_vars [] refl)
vars_within (s ∷ zs) =
    let n = entries_len entry.Var zs in
    vars_within_if s zs (is (codes "<") s) n (begins (codes ">") (drop n zs)) refl refl refl

pub vars_are_longest : VarsAreLongest
vars_are_longest ss free = takes_longest IsVars vars_len vars_within vars_sound vars_some vars_least ss free

-- Parameters in brackets are read as the grammar spells them, the longest ones.
use Rattle.std.proofs.Common.{◌≡◌, ◌≢◌, ◌<◌, ◌≤◌, ◌∙◌, ap, sym, subst, ℕ, zero, suc, ◌+◌, Bool, true, false, if◌then◌else◌, List, [], ◌∷◌, ◌++◌, length, take, drop, refl, arith, codes, length-append, append_assoc}
use Rattle.std.proofs.lemmas.List.{length-drop}
use Rattle.std.proofs.Math.Seq.{take-add, drop-append_seam}
use Rattle.java_units.specs.declared.entries.Entry.TheVariants as entry
use Rattle.java_units.specs.Signs.{Sign, is, has}
use Rattle.java_units.specs.Forms.{begins, begins_any, begins_name, primitives, span, annotation_len, ahead_len, wide_len, param_name_len, dim_len, param_len, next_len, entries_len, params_len}
use Rattle.java_units.specs.Grammar.{sign, both, IsOptional, absent, present, IsList, IsParam, IsParams}
use Rattle.java_units.specs.Longest.{NamesAreIdentifiers, ParamListsAreLongest}
use Rattle.java_units.proofs.Walks.{pick, span-none}
use Rattle.java_units.proofs.Groups.{is_other, differ}
use Rattle.java_units.proofs.TypeGrammar.{base_none, no_type, dims_just, takes_longest}
use Rattle.java_units.proofs.ListGrammar.{ReadsTail, Stops, list_len, list_just, list_sound, list_part, names_behind, tail_none, suc_of}
use Rattle.java_units.proofs.SignKinds.{IsNamed, unnamed, primitive_not, no_identifier-end, no_primitive-end, begins_not, begins_so, no_dim}
use Rattle.java_units.proofs.Annotations.{no_annotation}
use Rattle.java_units.proofs.ParamGrammar.{first_named, regroup, size_of, param_name_one, param_reads, param_some, param_sound, param_within, ahead_at, no_final_len, no_wide, two_if}

-- what ends a parameter
abbrev pub NoDim : List Sign → Type 0
NoDim ss = dim_len ss ≡ 0

pub param_stops : Stops IsParam param_len NoDim
param_stops _ (both marks _ m (both fin _ n (both kind _ t (both dots _ d (both name dims c ds))))) tail f h =
    let same = regroup marks fin kind dots name dims tail in
    let g = subst NamesAreIdentifiers same f in
    omega (arith, ap param_len same, param_reads marks fin kind dots name (dims ++ tail) m n t d c g, dims_just dims ds tail h, size_of marks fin kind dots name dims, param_name_one name c)

one_ends : (a : ℕ) → 91 ≢ a → (s : Sign) (ss : List Sign) → is (a ∷ []) s ≡ true → NoDim (s ∷ ss)
one_ends a d s ss e = no_dim (s ∷ ss) (begins_not (codes "[") s ss (is_other (codes "[") (a ∷ []) (differ 91 a d) s e))

pub comma_ends : (s : Sign) (ss : List Sign) → is (codes ",") s ≡ true → NoDim (s ∷ ss)
comma_ends s ss e = one_ends 44 (λ e. absurd (omega arith)) s ss e

pub close_ends : (s : Sign) (ss : List Sign) → is (codes ")") s ≡ true → NoDim (s ∷ ss)
close_ends s ss e = one_ends 41 (λ e. absurd (omega arith)) s ss e

reads_next : ReadsTail (codes ",") param_len (next_len entry.Param)
unfolding next_len
reads_next ss = refl

unfoldable list_of : List Sign → ℕ
list_of ss = list_len param_len (next_len entry.Param) ss

entries_at : (ss : List Sign) (m : ℕ) → param_len ss ≡ suc m → entries_len entry.Param ss ≡ list_of ss
unfolding entries_len list_of list_len
entries_at ss m e = pick (param_len ss) m 0 (param_len ss + span (next_len entry.Param) (drop (param_len ss) ss)) (sym e)

pub no_entries : (ss : List Sign) → param_len ss ≡ 0 → entries_len entry.Param ss ≡ 0
unfolding entries_len
no_entries ss e = rw (e) refl

-- no parameter begins with the closing bracket

pub other_word : (w : List ℕ) (s : Sign) (ss : List Sign) → w ≢ codes ")" → is (codes ")") s ≡ true → begins w (s ∷ ss) ≡ false
other_word w s ss d e = begins_not w s ss (is_other w (codes ")") d s e)

no_kind_if : (b : Bool) (s : Sign) → has primitives s.text ≡ b → is (codes ")") s ≡ true → b ≡ false
no_kind_if false s e h = refl
no_kind_if true s e h = let no = primitive_not (codes ")") s no_primitive-end e in absurd (cc)

no_kind : (s : Sign) (ss : List Sign) → is (codes ")") s ≡ true → begins_any primitives (s ∷ ss) ≡ false
unfolding begins_any
no_kind s ss e = no_kind_if (has primitives s.text) s refl e

no_name : (s : Sign) (ss : List Sign) → IsNamed s → is (codes ")") s ≡ true → begins_name (s ∷ ss) ≡ false
unfolding begins_name
no_name s ss f e = unnamed (codes ")") s no_identifier-end f e

final_differs : codes "final" ≢ codes ")"
final_differs h = let l : 5 ≡ 1 = ap length h in absurd (omega (arith, l))

pub no_param : (s : Sign) (ss : List Sign) → IsNamed s → is (codes ")") s ≡ true → param_len (s ∷ ss) ≡ 0
unfolding param_len
no_param s ss f e =
    let all = s ∷ ss in
    let marks : span annotation_len all ≡ 0 = span-none annotation_len all (no_annotation all (other_word (codes "@") s ss (differ 64 41 (λ e. absurd (omega arith))) e)) in
    let ahead : ahead_len all ≡ 0 = ahead_at all 0 marks ∙ omega (arith, no_final_len all (other_word (codes "final") s ss final_differs e)) in
    let wide : wide_len (drop (ahead_len all) all) ≡ 0 = ap (λ k. wide_len (drop k all)) ahead ∙ no_wide all (no_type all (base_none all (no_kind s ss e) (no_name s ss f e))) in
    two_if (wide_len (drop (ahead_len all) all)) (param_name_len (drop (wide_len (drop (ahead_len all) all)) (drop (ahead_len all) all))) (ahead_len all) wide

list_reads : (ss : List Sign) → IsOptional (IsList (codes ",") IsParam) ss → (s : Sign) (tail : List Sign) → is (codes ")") s ≡ true → NamesAreIdentifiers (ss ++ (s ∷ tail)) → entries_len entry.Param (ss ++ (s ∷ tail)) ≡ length ss
unfolding list_of
list_reads _ absent s tail e f = no_entries (s ∷ tail) (no_param s tail (first_named s tail f) e)
list_reads _ (present ss v) s tail e f =
    let ends = close_ends s tail e in
    let rest = s ∷ tail in
    let there = suc_of (param_len (ss ++ rest)) (list_part (codes ",") IsParam NoDim param_len param_stops param_some comma_ends ss v rest f ends) in
    entries_at (ss ++ rest) there.0 there.1 ∙ list_just (codes ",") IsParam NoDim param_len (next_len entry.Param) reads_next param_stops param_some comma_ends ss v rest f ends (tail_none (codes ",") param_len (next_len entry.Param) reads_next rest (other_word (codes ",") s tail (differ 44 41 (λ e. absurd (omega arith))) e))

params_at : (s : Sign) (zs : List Sign) → is (codes "(") s ≡ true → begins (codes ")") (drop (entries_len entry.Param zs) zs) ≡ true → params_len (s ∷ zs) ≡ suc (entries_len entry.Param zs + 1)
unfolding params_len begins
params_at s zs e g =
    let n = entries_len entry.Param zs in
    let one : 1 + n ≡ suc n = omega arith in
    let last : (if begins (codes ")") (drop (1 + n) (s ∷ zs)) then (1 + n) + 1 else 0) ≡ suc n + 1 = ap (λ k. if begins (codes ")") (drop k (s ∷ zs)) then k + 1 else 0) one ∙ ap {B = ℕ} (λ b. if b then suc n + 1 else 0) g in
    rw (e) (last ∙ omega arith)

if_nothing : (a : Bool) (n : ℕ) → n ≡ 0 → (if a then n else 0) ≡ 0
if_nothing true n e = e
if_nothing false n e = refl

unclosed : (s : Sign) (zs : List Sign) → begins (codes ")") (drop (entries_len entry.Param zs) zs) ≡ false → params_len (s ∷ zs) ≡ 0
unfolding params_len begins
unclosed s zs g =
    let n = entries_len entry.Param zs in
    let one : 1 + n ≡ suc n = omega arith in
    let last : (if begins (codes ")") (drop (1 + n) (s ∷ zs)) then (1 + n) + 1 else 0) ≡ 0 = ap (λ k. if begins (codes ")") (drop k (s ∷ zs)) then k + 1 else 0) one ∙ ap {B = ℕ} (λ b. if b then suc n + 1 else 0) g in
    if_nothing (is (codes "(") s) (if begins (codes ")") (drop (1 + n) (s ∷ zs)) then (1 + n) + 1 else 0) last

no_params : (ss : List Sign) → begins (codes "(") ss ≡ false → params_len ss ≡ 0
unfolding params_len
no_params ss e = rw (e) refl

pub params_least : (ss : List Sign) → IsParams ss → (tail : List Sign) → NamesAreIdentifiers (ss ++ tail) → length ss ≤ params_len (ss ++ tail)
params_least _ (both _ _ (sign s e) (both list _ v (sign t g))) tail f =
    let same = append_assoc list (t ∷ []) tail in
    let behind = subst NamesAreIdentifiers same (names_behind (s ∷ []) ((list ++ (t ∷ [])) ++ tail) f) in
    let size = list_reads list v t tail g behind in
    let zs = list ++ (t ∷ tail) in
    let shuts : begins (codes ")") (drop (entries_len entry.Param zs) zs) ≡ true = ap (λ k. begins (codes ")") (drop k zs)) size ∙ (ap (begins (codes ")")) (drop-append_seam list (t ∷ tail)) ∙ begins_so (codes ")") t tail g) in
    omega (arith, ap (λ xs. params_len (s ∷ xs)) same, params_at s zs e shuts, size, length-append list (t ∷ []))

pub params_some : (ss : List Sign) → IsParams ss → 0 < length ss
params_some _ (both _ _ (sign s e) (both list _ v (sign t g))) = omega arith

entries_by : (ss : List Sign) (n : ℕ) → param_len ss ≡ n → IsOptional (IsList (codes ",") IsParam) (take (entries_len entry.Param ss) ss)
unfolding list_of
entries_by ss zero e = subst (λ k. IsOptional (IsList (codes ",") IsParam) (take k ss)) (sym (no_entries ss e)) absent
entries_by ss (suc n) e =
    let some : 0 < param_len ss = omega (arith, e) in
    let k = entries_at ss n e in
    let tree = list_sound (codes ",") IsParam param_len (next_len entry.Param) reads_next param_sound param_within ss some in
    subst (λ k. IsOptional (IsList (codes ",") IsParam) (take k ss)) (sym k) (present (take (list_of ss) ss) tree)

record Shut (ss : List Sign) : Type 0 where
  sign_at : Sign
  others : List Sign
  are : ss ≡ sign_at ∷ others
  shuts : is (codes ")") sign_at ≡ true

shut_by : (ss : List Sign) → begins (codes ")") ss ≡ true → Shut ss
unfolding begins
shut_by [] e = absurd (cc)
shut_by (s ∷ ss) e = record { sign_at = s; others = ss; are = refl; shuts = e }

closed_params : (s : Sign) (zs : List Sign) → is (codes "(") s ≡ true → begins (codes ")") (drop (entries_len entry.Param zs) zs) ≡ true → IsParams (take (params_len (s ∷ zs)) (s ∷ zs))
closed_params s zs e g =
    let n = entries_len entry.Param zs in
    let d = shut_by (drop n zs) g in
    let cut : take (n + 1) zs ≡ take n zs ++ (d.sign_at ∷ []) = take-add n 1 zs ∙ ap (λ xs. take n zs ++ take 1 xs) d.are in
    let tree = both (s ∷ []) (take n zs ++ (d.sign_at ∷ [])) (sign s e) (both (take n zs) (d.sign_at ∷ []) (entries_by zs (param_len zs) refl) (sign d.sign_at d.shuts)) in
    subst IsParams (sym (ap (λ k. take k (s ∷ zs)) (params_at s zs e g) ∙ ap (λ xs. s ∷ xs) cut)) tree

params_if : (s : Sign) (zs : List Sign) (a b : Bool) → is (codes "(") s ≡ a → begins (codes ")") (drop (entries_len entry.Param zs) zs) ≡ b → 0 < params_len (s ∷ zs) → IsParams (take (params_len (s ∷ zs)) (s ∷ zs))
params_if s zs false b e g l = absurd (omega (arith, no_params (s ∷ zs) (begins_not (codes "(") s zs e), l))
params_if s zs true false e g l = absurd (omega (arith, unclosed s zs g, l))
params_if s zs true true e g l = closed_params s zs e g

params_sound : (ss : List Sign) → 0 < params_len ss → IsParams (take (params_len ss) ss)
unfolding begins
params_sound [] l = absurd (omega (arith, no_params [] refl, l))
params_sound (s ∷ zs) l = params_if s zs (is (codes "(") s) (begins (codes ")") (drop (entries_len entry.Param zs) zs)) refl refl l

params_within_if : (s : Sign) (zs : List Sign) (a b : Bool) → is (codes "(") s ≡ a → begins (codes ")") (drop (entries_len entry.Param zs) zs) ≡ b → params_len (s ∷ zs) ≤ suc (length zs)
params_within_if s zs false b e g = omega (arith, no_params (s ∷ zs) (begins_not (codes "(") s zs e))
params_within_if s zs true false e g = omega (arith, unclosed s zs g)
params_within_if s zs true true e g =
    let d = shut_by (drop (entries_len entry.Param zs) zs) g in
    omega (arith, params_at s zs e g, ap length d.are, length-drop (entries_len entry.Param zs) zs)

params_within : (ss : List Sign) → params_len ss ≤ length ss
unfolding begins
params_within [] = omega (arith, no_params [] refl)
params_within (s ∷ zs) = params_within_if s zs (is (codes "(") s) (begins (codes ")") (drop (entries_len entry.Param zs) zs)) refl refl

pub param_lists_are_longest : ParamListsAreLongest
param_lists_are_longest ss free = takes_longest IsParams params_len params_within params_sound params_some params_least ss free

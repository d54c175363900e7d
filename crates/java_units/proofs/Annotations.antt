-- Names and annotations are read as the grammar spells them.
use Rattle.std.proofs.Common.{◌≡◌, ◌≢◌, ◌<◌, ◌≤◌, ◌∙◌, ap, sym, subst, ℕ, zero, suc, ◌+◌, Bool, true, false, ◌&&◌, if◌then◌else◌, List, [], ◌∷◌, ◌++◌, length, take, drop, refl, arith, codes, length-append, append_assoc}
use Rattle.std.proofs.lemmas.List.{length-drop}
use Rattle.std.proofs.Math.Seq.{take-add, drop-append_seam}
use Rattle.java_units.specs.Signs.{Sign, is}
use Rattle.java_units.specs.Forms.{begins, begins_name, span, more, rounds, name_tail, name_len, annotation_len}
use Rattle.java_units.specs.Grammar.{sign, both, IsOptional, absent, present, last, followed, IsGroup, IsIdentifier, identifier, IsName, IsAnnotation}
use Rattle.java_units.specs.Longest.{NamesAreIdentifiers}
use Rattle.java_units.proofs.Walks.{pick}
use Rattle.java_units.proofs.Dimensions.{span_within}
use Rattle.java_units.proofs.Groups.{is_other, differ, matched_group, group_matched, matched_none, matched_within}
use Rattle.java_units.proofs.TypeGrammar.{name_tail_within}
use Rattle.java_units.proofs.ListGrammar.{suc_of, ReadsTail, Stops, list_len, list_just, list_sound, first_some, names_behind}
use Rattle.java_units.proofs.SignKinds.{name_begins, no_name_tail}

-- names

unfoldable one_name : List Sign → ℕ
one_name ss = if begins_name ss then 1 else 0

more_one : (a b : Bool) → ◌≡◌ {A = ℕ} (if a && b then 2 else 0) (if a then more (if b then 1 else 0) else 0)
more_one true true = refl
more_one true false = refl
more_one false b = refl

reads_name : ReadsTail (codes ".") one_name name_tail
unfolding name_tail one_name
reads_name ss = more_one (begins (codes ".") ss) (begins_name (drop 1 ss))

abbrev Always : List Sign → Type 0
Always ss = Unit {0}

name_stops : Stops IsIdentifier one_name Always
unfolding one_name
name_stops _ (identifier s e) tail f h = rw (name_begins s tail e) refl

identifier_some : (ss : List Sign) → IsIdentifier ss → 0 < length ss
identifier_some _ (identifier s e) = omega arith

name_is_list : (ss : List Sign) → begins_name ss ≡ true → name_len ss ≡ list_len one_name name_tail ss
unfolding name_len list_len one_name
name_is_list ss e = rw (e) refl

name_first : (ss : List Sign) → IsName ss → (tail : List Sign) → begins_name (ss ++ tail) ≡ true
name_first _ (last _ (identifier s e)) tail = name_begins s tail e
name_first _ (followed _ dot others (identifier s e) d c) tail = name_begins s (dot ∷ (others ++ tail)) e

pub name_just : (ss : List Sign) → IsName ss → (tail : List Sign) → NamesAreIdentifiers (ss ++ tail) → begins (codes ".") tail ≡ false → name_len (ss ++ tail) ≡ length ss
name_just ss n tail f h =
    name_is_list (ss ++ tail) (name_first ss n tail)
    ∙ list_just (codes ".") IsIdentifier Always one_name name_tail reads_name name_stops identifier_some (λ s zs e. tt) ss n tail f tt (no_name_tail tail h)

one_by : (ss : List Sign) (b : Bool) → begins_name ss ≡ b → 0 < (if b then 1 else 0) → IsIdentifier (take (if b then 1 else 0) ss)
unfolding begins_name
one_by [] true e l = absurd (cc)
one_by (s ∷ ss) true e l = identifier s e
one_by ss false e l = absurd (omega arith)

one_sound : (ss : List Sign) → 0 < one_name ss → IsIdentifier (take (one_name ss) ss)
unfolding one_name
one_sound ss l = one_by ss (begins_name ss) refl l

one_within_by : (ss : List Sign) (b : Bool) → begins_name ss ≡ b → (if b then 1 else 0) ≤ length ss
unfolding begins_name
one_within_by [] true e = absurd (cc)
one_within_by (s ∷ ss) true e = omega arith
one_within_by ss false e = omega arith

one_within : (ss : List Sign) → one_name ss ≤ length ss
unfolding one_name
one_within ss = one_within_by ss (begins_name ss) refl

name_by : (ss : List Sign) (b : Bool) → begins_name ss ≡ b → 0 < name_len ss → IsName (take (name_len ss) ss)
unfolding name_len one_name
name_by ss true e l =
    let some : 0 < one_name ss = rw (e) (omega arith) in
    subst (λ k. IsName (take k ss)) (sym (name_is_list ss e)) (list_sound (codes ".") IsIdentifier one_name name_tail reads_name one_sound one_within ss some)
name_by ss false e l = let none : name_len ss ≡ 0 = rw (e) refl in absurd (omega (arith, l, none))

pub name_sound : (ss : List Sign) → 0 < name_len ss → IsName (take (name_len ss) ss)
name_sound ss l = name_by ss (begins_name ss) refl l

name_within_by : (ss : List Sign) (b : Bool) → begins_name ss ≡ b → name_len ss ≤ length ss
unfolding name_len one_name
name_within_by ss true e =
    let whole : name_len ss ≡ 1 + span name_tail (drop 1 ss) = rw (e) refl in
    let one : one_name ss ≡ 1 = rw (e) refl in
    let reach : length (drop 1 ss) ≤ length (drop 1 ss) = omega arith in
    omega (arith, whole, one, one_within ss, span_within (length (drop 1 ss)) name_tail name_tail_within (drop 1 ss) (name_tail (drop 1 ss)) refl reach, length-drop 1 ss)
name_within_by ss false e = let none : name_len ss ≡ 0 = rw (e) refl in omega (arith, none)

pub name_within : (ss : List Sign) → name_len ss ≤ length ss
name_within ss = name_within_by ss (begins_name ss) refl

-- annotations

round_differs : codes "(" ≢ codes ")"
round_differs = differ 40 41 (λ e. absurd (omega arith))

annotation_at : (s : Sign) (zs : List Sign) (m : ℕ) → is (codes "@") s ≡ true → name_len zs ≡ suc m → annotation_len (s ∷ zs) ≡ suc (suc m + rounds (drop (suc m) zs))
unfolding annotation_len begins
annotation_at s zs m e h =
    let size : 1 + name_len zs ≡ suc (suc m) = omega (arith, h) in
    let past : (1 + name_len zs) + rounds (drop (1 + name_len zs) (s ∷ zs)) ≡ suc (suc m) + rounds (drop (suc m) zs) = ap (λ k. k + rounds (drop k (s ∷ zs))) size in
    rw (e) (pick (name_len zs) m 0 ((1 + name_len zs) + rounds (drop (1 + name_len zs) (s ∷ zs))) (sym h) ∙ (past ∙ omega arith))

-- what ends an annotation
pub record AnnotationEnds (tail : List Sign) : Type 0 where
  pub no_round : begins (codes "(") tail ≡ false
  pub no_dot : begins (codes ".") tail ≡ false

begins_other : (w v : List ℕ) → w ≢ v → (ss tail : List Sign) → begins v ss ≡ true → begins w (ss ++ tail) ≡ false
unfolding begins
begins_other w v d [] tail e = absurd (cc)
begins_other w v d (s ∷ ss) tail e = is_other w v d s e

values_ends : (values tail : List Sign) → IsOptional (IsGroup (codes "(") (codes ")")) values → AnnotationEnds tail → begins (codes ".") (values ++ tail) ≡ false
values_ends _ tail absent h = h.no_dot
values_ends _ tail (present values g) h = begins_other (codes ".") (codes "(") (differ 46 40 (λ e. absurd (omega arith))) values tail g.opens

values_just : (values tail : List Sign) → IsOptional (IsGroup (codes "(") (codes ")")) values → AnnotationEnds tail → rounds (values ++ tail) ≡ length values
unfolding rounds
values_just _ tail absent h = matched_none (codes "(") (codes ")") tail h.no_round
values_just _ tail (present values g) h = group_matched (codes "(") (codes ")") round_differs values tail g

name_some : (ss : List Sign) → IsName ss → 0 < length ss
name_some ss n = first_some (codes ".") IsIdentifier identifier_some ss n

pub annotation_stops : Stops IsAnnotation annotation_len AnnotationEnds
annotation_stops _ (both _ _ (sign s a) (both name values n v)) tail f h =
    let same = append_assoc name values tail in
    let g = subst NamesAreIdentifiers same (names_behind (s ∷ []) ((name ++ values) ++ tail) f) in
    let zs = name ++ (values ++ tail) in
    let size = name_just name n (values ++ tail) g (values_ends values tail v h) in
    let there = suc_of (length name) (name_some name n) in
    let at = annotation_at s zs there.0 a (size ∙ there.1) in
    let past : rounds (drop (suc there.0) zs) ≡ rounds (values ++ tail) = ap (λ k. rounds (drop k zs)) (sym there.1) ∙ ap rounds (drop-append_seam name (values ++ tail)) in
    omega (arith, ap (λ xs. annotation_len (s ∷ xs)) same, at, past, values_just values tail v h, there.1, length-append name values)

pub annotation_some : (ss : List Sign) → IsAnnotation ss → 0 < length ss
annotation_some _ (both _ _ (sign s a) (both name values n v)) = omega arith

at_ends : (s : Sign) (ss : List Sign) → is (codes "@") s ≡ true → AnnotationEnds (s ∷ ss)
unfolding begins
at_ends s ss e = record {
  no_round = is_other (codes "(") (codes "@") (differ 40 64 (λ e. absurd (omega arith))) s e;
  no_dot = is_other (codes ".") (codes "@") (differ 46 64 (λ e. absurd (omega arith))) s e;
}

pub annotation_ends : (ss : List Sign) → IsAnnotation ss → (tail : List Sign) → AnnotationEnds (ss ++ tail)
annotation_ends _ (both _ _ (sign s a) (both name values n v)) tail = at_ends s ((name ++ values) ++ tail) a

pub no_annotation : (ss : List Sign) → begins (codes "@") ss ≡ false → annotation_len ss ≡ 0
unfolding annotation_len
no_annotation ss e = rw (e) refl

values_by : (ss : List Sign) (n : ℕ) → rounds ss ≡ n → IsOptional (IsGroup (codes "(") (codes ")")) (take n ss)
unfolding rounds
values_by ss zero e = absent
values_by ss (suc n) e =
    let some : 0 < rounds ss = omega (arith, e) in
    present (take (suc n) ss) (subst (λ k. IsGroup (codes "(") (codes ")") (take k ss)) e (matched_group (codes "(") (codes ")") round_differs ss some))

annotation_by : (s : Sign) (zs : List Sign) (m : ℕ) → is (codes "@") s ≡ true → name_len zs ≡ suc m → IsAnnotation (take (annotation_len (s ∷ zs)) (s ∷ zs))
annotation_by s zs m e h =
    let r = rounds (drop (suc m) zs) in
    let some : 0 < name_len zs = omega (arith, h) in
    let name = subst (λ k. IsName (take k zs)) h (name_sound zs some) in
    let whole = both (s ∷ []) (take (suc m) zs ++ take r (drop (suc m) zs)) (sign s e) (both (take (suc m) zs) (take r (drop (suc m) zs)) name (values_by (drop (suc m) zs) r refl)) in
    subst IsAnnotation (sym (ap (λ k. take k (s ∷ zs)) (annotation_at s zs m e h) ∙ ap (λ xs. s ∷ xs) (take-add (suc m) r zs))) whole

nameless : (s : Sign) (zs : List Sign) → name_len zs ≡ 0 → (b : Bool) → is (codes "@") s ≡ b → annotation_len (s ∷ zs) ≡ 0
unfolding annotation_len begins
nameless s zs e true h = rw (h, e) refl
nameless s zs e false h = rw (h) refl

empty_annotation : annotation_len [] ≡ 0
unfolding annotation_len begins
empty_annotation = refl

annotation_if : (s : Sign) (zs : List Sign) (b : Bool) (m : ℕ) → is (codes "@") s ≡ b → name_len zs ≡ m → 0 < annotation_len (s ∷ zs) → IsAnnotation (take (annotation_len (s ∷ zs)) (s ∷ zs))
unfolding begins
annotation_if s zs false m e h l = absurd (omega (arith, no_annotation (s ∷ zs) e, l))
annotation_if s zs true zero e h l = absurd (omega (arith, nameless s zs h true e, l))
annotation_if s zs true (suc m) e h l = annotation_by s zs m e h

pub annotation_sound : (ss : List Sign) → 0 < annotation_len ss → IsAnnotation (take (annotation_len ss) ss)
annotation_sound [] l = absurd (omega (arith, empty_annotation, l))
annotation_sound (s ∷ zs) l = annotation_if s zs (is (codes "@") s) (name_len zs) refl refl l

rounds_within : (ss : List Sign) → rounds ss ≤ length ss
unfolding rounds
rounds_within ss = matched_within (codes "(") (codes ")") round_differs ss

within_if : (s : Sign) (zs : List Sign) (b : Bool) (m : ℕ) → is (codes "@") s ≡ b → name_len zs ≡ m → annotation_len (s ∷ zs) ≤ suc (length zs)
unfolding begins
within_if s zs false m e h = omega (arith, no_annotation (s ∷ zs) e)
within_if s zs true zero e h = omega (arith, nameless s zs h true e)
within_if s zs true (suc m) e h =
    omega (arith, annotation_at s zs m e h, rounds_within (drop (suc m) zs), length-drop (suc m) zs, name_within zs, h)

pub annotation_within : (ss : List Sign) → annotation_len ss ≤ length ss
annotation_within [] = omega (arith, empty_annotation)
annotation_within (s ∷ zs) = within_if s zs (is (codes "@") s) (name_len zs) refl refl

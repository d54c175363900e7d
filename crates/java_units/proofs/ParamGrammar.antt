-- Parameters are read as the grammar spells them, the longest one.
use Rattle.std.proofs.Common.{◌≡◌, ◌≢◌, ◌<◌, ◌≤◌, ◌∙◌, ap, sym, subst, ℕ, zero, suc, ◌+◌, ◌==◌, Bool, true, false, ◌||◌, not, if◌then◌else◌, List, [], ◌∷◌, ◌++◌, length, take, drop, refl, arith, codes, length-append, append_assoc}
use Rattle.std.proofs.lemmas.List.{length-drop}
use Rattle.std.proofs.lemmas.List.Elements.{All-head}
use Rattle.std.proofs.Math.Seq.{take-add, drop-append_seam, drop-append-add}
use Rattle.java_units.specs.Signs.{Sign, is, has}
use Rattle.java_units.specs.Forms.{begins, begins_name, primitives, span, annotation_len, final_len, ahead_len, type_len, dots_len, wide_len, dims_len, param_name_len, param_len}
use Rattle.java_units.specs.Identifiers.{is_identifier}
use Rattle.java_units.specs.Grammar.{IsSign, sign, IsBoth, both, IsEither, one, other, IsOptional, absent, present, IsMany, last, followed, IsIdentifier, identifier, primitive, IsDims, IsType, IsAnnotation, IsDots, IsParam}
use Rattle.java_units.specs.Longest.{NamesAreIdentifiers, ParamsAreLongest}
use Rattle.java_units.proofs.Walks.{pick}
use Rattle.java_units.proofs.Dimensions.{span_within, dims_within, dots_within}
use Rattle.java_units.proofs.Groups.{is_other, differ}
use Rattle.java_units.proofs.TypeGrammar.{TypeEnds, type_just, type_sound, type_within, type_some, dims_least, dims_sound, takes_longest}
use Rattle.java_units.proofs.ListGrammar.{suc_of, many_just, many_sound, names_behind}
use Rattle.java_units.proofs.SignKinds.{IsNamed, named_not, unnamed, primitive_not, no_identifier-at, no_identifier-round, no_identifier-angle, no_identifier-square, no_identifier-dot, no_identifier-final, no_primitive-at, no_primitive-round, no_primitive-dot, no_primitive-final, begins_not, no_name_tail, dot_alone, no_dim}
use Rattle.java_units.proofs.Annotations.{AnnotationEnds, annotation_stops, annotation_some, annotation_ends, no_annotation, annotation_sound, annotation_within}

pub first_named : (s : Sign) (ss : List Sign) → NamesAreIdentifiers (s ∷ ss) → IsNamed s
first_named s ss f = All-head (λ s. s.is_name ≡ true → is_identifier s.text ≡ true) s ss f

-- the name of a parameter

abbrev pub IsParamName : List Sign → Type 0
IsParamName ss = IsEither IsIdentifier (IsSign (codes "this")) ss

or_if : (a b : Bool) → b ≡ true → (a || b) ≡ true
or_if true b e = refl
or_if false b e = e

param_name_named : (s : Sign) (ss : List Sign) → s.is_name ≡ true → param_name_len (s ∷ ss) ≡ suc (dims_len ss)
unfolding param_name_len begins begins_name
param_name_named s ss e = rw (e) (omega arith)

param_name_this : (s : Sign) (ss : List Sign) → is (codes "this") s ≡ true → param_name_len (s ∷ ss) ≡ suc (dims_len ss)
unfolding param_name_len begins begins_name
param_name_this s ss e = rw (or_if s.is_name (is (codes "this") s) e) (omega arith)

param_name_just : (name : List Sign) → IsParamName name → (rest : List Sign) → param_name_len (name ++ rest) ≡ suc (dims_len rest)
param_name_just _ (one _ (identifier s e)) rest = param_name_named s rest e
param_name_just _ (other _ (sign s e)) rest = param_name_this s rest e

pub param_name_one : (name : List Sign) → IsParamName name → length name ≡ 1
param_name_one _ (one _ (identifier s e)) = refl
param_name_one _ (other _ (sign s e)) = refl

-- what a name or `this` at the front is not
pub record ParamNamePrefix (ss : List Sign) : Type 0 where
  pub no_angle : begins (codes "<") ss ≡ false
  pub no_dot : begins (codes ".") ss ≡ false
  pub no_square : begins (codes "[") ss ≡ false

this_differs : (a : ℕ) (w : List ℕ) → w ≡ a ∷ [] → w ≢ codes "this"
this_differs a w e h = let l : 1 ≡ 4 = ap length (sym e ∙ h) in absurd (omega (arith, l))

pub param_name_prefix : (name : List Sign) → IsParamName name → (rest : List Sign) → NamesAreIdentifiers (name ++ rest) → ParamNamePrefix (name ++ rest)
param_name_prefix _ (one _ (identifier s e)) rest f =
    let n = first_named s rest f in
    record {
      no_angle = begins_not (codes "<") s rest (named_not (codes "<") s no_identifier-angle n e);
      no_dot = begins_not (codes ".") s rest (named_not (codes ".") s no_identifier-dot n e);
      no_square = begins_not (codes "[") s rest (named_not (codes "[") s no_identifier-square n e);
    }
param_name_prefix _ (other _ (sign s e)) rest f = record {
  no_angle = begins_not (codes "<") s rest (is_other (codes "<") (codes "this") (this_differs 60 (codes "<") refl) s e);
  no_dot = begins_not (codes ".") s rest (is_other (codes ".") (codes "this") (this_differs 46 (codes ".") refl) s e);
  no_square = begins_not (codes "[") s rest (is_other (codes "[") (codes "this") (this_differs 91 (codes "[") refl) s e);
}

-- the dots

no_dots : (ss : List Sign) → begins (codes ".") ss ≡ false → dots_len ss ≡ 0
unfolding dots_len
no_dots ss e = rw (e) refl

three_dots : (a b c : Sign) (ss : List Sign) → is (codes ".") a ≡ true → is (codes ".") b ≡ true → is (codes ".") c ≡ true → dots_len (a ∷ b ∷ c ∷ ss) ≡ 3
unfolding dots_len begins
three_dots a b c ss e f g = rw (e, f, g) refl

pub dots_just : (dots : List Sign) → IsOptional IsDots dots → (rest : List Sign) → ParamNamePrefix rest → dots_len (dots ++ rest) ≡ length dots
dots_just _ absent rest h = no_dots rest h.no_dot
dots_just _ (present _ (both _ _ (sign a e) (both _ _ (sign b f) (sign c g)))) rest h = three_dots a b c rest e f g

pub dots_end : (dots : List Sign) → IsOptional IsDots dots → (rest : List Sign) → NamesAreIdentifiers (dots ++ rest) → ParamNamePrefix rest → TypeEnds (dots ++ rest)
dots_end _ absent rest f h = record { no_angle = h.no_angle; no_part = no_name_tail rest h.no_dot; no_dim = no_dim rest h.no_square }
dots_end _ (present _ (both _ _ (sign a e) (both _ _ (sign b g) (sign c i)))) rest f h =
    let more = b ∷ c ∷ rest in
    record {
      no_angle = begins_not (codes "<") a more (is_other (codes "<") (codes ".") (differ 60 46 (λ e. absurd (omega arith))) a e);
      no_part = dot_alone a b (c ∷ rest) (unnamed (codes ".") b no_identifier-dot (first_named b (c ∷ rest) (names_behind (a ∷ []) more f)) g);
      no_dim = no_dim (a ∷ more) (begins_not (codes "[") a more (is_other (codes "[") (codes ".") (differ 91 46 (λ e. absurd (omega arith))) a e));
    }

-- the type

pub record TypePrefix (ss : List Sign) : Type 0 where
  pub no_at : begins (codes "@") ss ≡ false
  pub no_round : begins (codes "(") ss ≡ false
  pub no_dot : begins (codes ".") ss ≡ false
  pub no_final : begins (codes "final") ss ≡ false

named_prefix : (s : Sign) (ss : List Sign) → NamesAreIdentifiers (s ∷ ss) → s.is_name ≡ true → TypePrefix (s ∷ ss)
named_prefix s ss f e =
    let n = first_named s ss f in
    record {
      no_at = begins_not (codes "@") s ss (named_not (codes "@") s no_identifier-at n e);
      no_round = begins_not (codes "(") s ss (named_not (codes "(") s no_identifier-round n e);
      no_dot = begins_not (codes ".") s ss (named_not (codes ".") s no_identifier-dot n e);
      no_final = begins_not (codes "final") s ss (named_not (codes "final") s no_identifier-final n e);
    }

primitive_prefix : (s : Sign) (ss : List Sign) → has primitives s.text ≡ true → TypePrefix (s ∷ ss)
primitive_prefix s ss e = record {
  no_at = begins_not (codes "@") s ss (primitive_not (codes "@") s no_primitive-at e);
  no_round = begins_not (codes "(") s ss (primitive_not (codes "(") s no_primitive-round e);
  no_dot = begins_not (codes ".") s ss (primitive_not (codes ".") s no_primitive-dot e);
  no_final = begins_not (codes "final") s ss (primitive_not (codes "final") s no_primitive-final e);
}

pub type_prefix : (ss : List Sign) → IsType ss → (tail : List Sign) → NamesAreIdentifiers (ss ++ tail) → TypePrefix (ss ++ tail)
type_prefix _ (both _ dims (one _ (primitive s e)) d) tail f = primitive_prefix s (dims ++ tail) e
type_prefix _ (both _ dims (other _ (last _ (both _ arguments (identifier s e) a))) d) tail f = named_prefix s ((arguments ++ dims) ++ tail) f e
type_prefix _ (both _ dims (other _ (followed _ dot others (both _ arguments (identifier s e) a) i c)) d) tail f = named_prefix s (((arguments ++ (dot ∷ others)) ++ dims) ++ tail) f e

-- `final`

final_at : (s : Sign) (ss : List Sign) → is (codes "final") s ≡ true → final_len (s ∷ ss) ≡ 1
unfolding final_len begins
final_at s ss e = rw (e) refl

pub no_final_len : (ss : List Sign) → begins (codes "final") ss ≡ false → final_len ss ≡ 0
unfolding final_len
no_final_len ss e = rw (e) refl

final_just : (ss : List Sign) → IsOptional (IsSign (codes "final")) ss → (rest : List Sign) → TypePrefix rest → final_len (ss ++ rest) ≡ length ss
final_just _ absent rest h = no_final_len rest h.no_final
final_just _ (present _ (sign s e)) rest h = final_at s rest e

final_differs : (a : ℕ) (w : List ℕ) → w ≡ a ∷ [] → w ≢ codes "final"
final_differs a w e h = let l : 1 ≡ 5 = ap length (sym e ∙ h) in absurd (omega (arith, l))

final_ends : (ss : List Sign) → IsOptional (IsSign (codes "final")) ss → (rest : List Sign) → TypePrefix rest → AnnotationEnds (ss ++ rest)
final_ends _ absent rest h = record { no_round = h.no_round; no_dot = h.no_dot }
final_ends _ (present _ (sign s e)) rest h = record {
  no_round = begins_not (codes "(") s rest (is_other (codes "(") (codes "final") (final_differs 40 (codes "(") refl) s e);
  no_dot = begins_not (codes ".") s rest (is_other (codes ".") (codes "final") (final_differs 46 (codes ".") refl) s e);
}

final_no_at : (ss : List Sign) → IsOptional (IsSign (codes "final")) ss → (rest : List Sign) → TypePrefix rest → begins (codes "@") (ss ++ rest) ≡ false
final_no_at _ absent rest h = h.no_at
final_no_at _ (present _ (sign s e)) rest h = begins_not (codes "@") s rest (is_other (codes "@") (codes "final") (final_differs 64 (codes "@") refl) s e)

-- how a parameter is read

pub ahead_at : (ss : List Sign) (n : ℕ) → span annotation_len ss ≡ n → ahead_len ss ≡ n + final_len (drop n ss)
unfolding ahead_len
ahead_at ss n e = ap (λ n. n + final_len (drop n ss)) e

wide_at : (ss : List Sign) (m : ℕ) → type_len ss ≡ suc m → wide_len ss ≡ suc m + dots_len (drop (suc m) ss)
unfolding wide_len
wide_at ss m e = pick (type_len ss) m 0 (type_len ss + dots_len (drop (type_len ss) ss)) (sym e) ∙ ap (λ n. n + dots_len (drop n ss)) e

two_picks : (w c a n m : ℕ) → w ≡ suc n → c ≡ suc m → (if w == 0 then 0 else if c == 0 then 0 else (a + w) + c) ≡ (a + suc n) + suc m
two_picks w c a n m e h = pick w n 0 (if c == 0 then 0 else (a + w) + c) (sym e) ∙ (pick c m 0 ((a + w) + c) (sym h) ∙ omega (arith, e, h))

param_at : (ss : List Sign) (a n m : ℕ) → ahead_len ss ≡ a → wide_len (drop a ss) ≡ suc n → param_name_len (drop (suc n) (drop a ss)) ≡ suc m → param_len ss ≡ (a + suc n) + suc m
unfolding param_len
param_at ss a n m e w c =
    let zs = drop (ahead_len ss) ss in
    let w1 : wide_len zs ≡ suc n = ap (λ k. wide_len (drop k ss)) e ∙ w in
    let c1 : param_name_len (drop (wide_len zs) zs) ≡ suc m = ap (λ k. param_name_len (drop k zs)) w1 ∙ (ap (λ k. param_name_len (drop (suc n) (drop k ss))) e ∙ c) in
    two_picks (wide_len zs) (param_name_len (drop (wide_len zs) zs)) (ahead_len ss) n m w1 c1 ∙ ap (λ k. (k + suc n) + suc m) e

pub wide_just : (kind dots rest : List Sign) → IsType kind → IsOptional IsDots dots → NamesAreIdentifiers (kind ++ (dots ++ rest)) → ParamNamePrefix rest → wide_len (kind ++ (dots ++ rest)) ≡ length kind + length dots
wide_just kind dots rest t d f h =
    let behind = names_behind kind (dots ++ rest) f in
    let size = type_just kind t (dots ++ rest) f (dots_end dots d rest behind h) in
    let there = suc_of (length kind) (type_some kind t) in
    let all = kind ++ (dots ++ rest) in
    let past : dots_len (drop (suc there.0) all) ≡ dots_len (dots ++ rest) = ap (λ k. dots_len (drop k all)) (sym there.1) ∙ ap dots_len (drop-append_seam kind (dots ++ rest)) in
    omega (arith, wide_at all there.0 (size ∙ there.1), past, dots_just dots d rest h, there.1)

pub ahead_just : (marks fin rest : List Sign) → IsMany IsAnnotation marks → IsOptional (IsSign (codes "final")) fin → NamesAreIdentifiers (marks ++ (fin ++ rest)) → TypePrefix rest → ahead_len (marks ++ (fin ++ rest)) ≡ length marks + length fin
ahead_just marks fin rest m n f h =
    let all = marks ++ (fin ++ rest) in
    let none = no_annotation (fin ++ rest) (final_no_at fin n rest h) in
    let size = many_just IsAnnotation AnnotationEnds annotation_len annotation_stops annotation_some annotation_ends marks m (fin ++ rest) f (final_ends fin n rest h) none in
    let past : final_len (drop (length marks) all) ≡ final_len (fin ++ rest) = ap final_len (drop-append_seam marks (fin ++ rest)) in
    omega (arith, ahead_at all (length marks) size, past, final_just fin n rest h)

pub past_two : (a b rest : List Sign) → drop (length a + length b) (a ++ (b ++ rest)) ≡ rest
past_two a b rest = drop-append-add a (b ++ rest) (length b) ∙ drop-append_seam b rest

pub param_reads : (marks fin kind dots name rest : List Sign) → IsMany IsAnnotation marks → IsOptional (IsSign (codes "final")) fin → IsType kind → IsOptional IsDots dots → IsParamName name → NamesAreIdentifiers (marks ++ (fin ++ (kind ++ (dots ++ (name ++ rest))))) → param_len (marks ++ (fin ++ (kind ++ (dots ++ (name ++ rest))))) ≡ ((length marks + length fin) + (length kind + length dots)) + suc (dims_len rest)
param_reads marks fin kind dots name rest m n t d c f =
    let x4 = name ++ rest in
    let x2 = kind ++ (dots ++ x4) in
    let all = marks ++ (fin ++ x2) in
    let f2 = names_behind fin x2 (names_behind marks (fin ++ x2) f) in
    let f4 = names_behind dots x4 (names_behind kind (dots ++ x4) f2) in
    let prefix = param_name_prefix name c rest f4 in
    let ahead = ahead_just marks fin x2 m n f (type_prefix kind t (dots ++ x4) f2) in
    let wide = wide_just kind dots x4 t d f2 prefix in
    let some : 0 < length kind + length dots = omega (arith, type_some kind t) in
    let there = suc_of (length kind + length dots) some in
    let w : wide_len (drop (length marks + length fin) all) ≡ suc there.0 = ap wide_len (past_two marks fin x2) ∙ (wide ∙ there.1) in
    let behind : drop (suc there.0) (drop (length marks + length fin) all) ≡ x4 = ap (drop (suc there.0)) (past_two marks fin x2) ∙ (ap (λ k. drop k x2) (sym there.1) ∙ past_two kind dots x4) in
    let e : param_name_len (drop (suc there.0) (drop (length marks + length fin) all)) ≡ suc (dims_len rest) = ap param_name_len behind ∙ param_name_just name c rest in
    param_at all (length marks + length fin) there.0 (dims_len rest) ahead w e ∙ ap (λ k. ((length marks + length fin) + k) + suc (dims_len rest)) (sym there.1)

pub regroup : (a b c d e g h : List Sign) → (a ++ (b ++ (c ++ (d ++ (e ++ g))))) ++ h ≡ a ++ (b ++ (c ++ (d ++ (e ++ (g ++ h)))))
regroup a b c d e g h = simp append_assoc

pub size_of : (a b c d e g : List Sign) → length (a ++ (b ++ (c ++ (d ++ (e ++ g))))) ≡ length a + (length b + (length c + (length d + (length e + length g))))
size_of a b c d e g = simp length-append

param_least : (ss : List Sign) → IsParam ss → (tail : List Sign) → NamesAreIdentifiers (ss ++ tail) → length ss ≤ param_len (ss ++ tail)
param_least _ (both marks _ m (both fin _ n (both kind _ t (both dots _ d (both name dims c ds))))) tail f =
    let same = regroup marks fin kind dots name dims tail in
    let g = subst NamesAreIdentifiers same f in
    omega (arith, ap param_len same, param_reads marks fin kind dots name (dims ++ tail) m n t d c g, dims_least dims ds tail, size_of marks fin kind dots name dims, param_name_one name c)

pub param_some : (ss : List Sign) → IsParam ss → 0 < length ss
param_some _ (both marks _ m (both fin _ n (both kind _ t (both dots _ d (both name dims c ds))))) =
    omega (arith, size_of marks fin kind dots name dims, param_name_one name c)

-- what is read of a parameter is one

final_by : (s : Sign) (ss : List Sign) (b : Bool) → is (codes "final") s ≡ b → IsOptional (IsSign (codes "final")) (take (final_len (s ∷ ss)) (s ∷ ss))
final_by s ss true e = subst (λ k. IsOptional (IsSign (codes "final")) (take k (s ∷ ss))) (sym (final_at s ss e)) (present (s ∷ []) (sign s e))
final_by s ss false e = subst (λ k. IsOptional (IsSign (codes "final")) (take k (s ∷ ss))) (sym (no_final_len (s ∷ ss) (begins_not (codes "final") s ss e))) absent

final_sound : (ss : List Sign) → IsOptional (IsSign (codes "final")) (take (final_len ss) ss)
unfolding begins
final_sound [] = subst (λ k. IsOptional (IsSign (codes "final")) (take k [])) (sym (no_final_len [] refl)) absent
final_sound (s ∷ ss) = final_by s ss (is (codes "final") s) refl

abbrev DotsAt : List Sign → Type 0
DotsAt ss = IsOptional IsDots (take (dots_len ss) ss)

without_dots : (ss : List Sign) → dots_len ss ≡ 0 → DotsAt ss
without_dots ss e = subst (λ k. IsOptional IsDots (take k ss)) (sym e) absent

second_no_dot : (ss : List Sign) → begins (codes ".") (drop 1 ss) ≡ false → dots_len ss ≡ 0
unfolding dots_len
second_no_dot ss e = rw (e) (elim (begins (codes ".") ss) as (λ b. ◌≡◌ {A = ℕ} (if not b || true then 0 else if begins (codes ".") (drop 2 ss) then 3 else 0) 0) [ true ↦ refl | false ↦ refl ])

third_no_dot : (ss : List Sign) → begins (codes ".") (drop 2 ss) ≡ false → dots_len ss ≡ 0
unfolding dots_len
third_no_dot ss e = rw (e) (elim (not (begins (codes ".") ss) || not (begins (codes ".") (drop 1 ss))) as (λ b. ◌≡◌ {A = ℕ} (if b then 0 else 0) 0) [ true ↦ refl | false ↦ refl ])

dots_by : (a b c : Sign) (ss : List Sign) (p q r : Bool) → is (codes ".") a ≡ p → is (codes ".") b ≡ q → is (codes ".") c ≡ r → DotsAt (a ∷ b ∷ c ∷ ss)
dots_by a b c ss true true true e f g =
    subst (λ k. IsOptional IsDots (take k (a ∷ b ∷ c ∷ ss))) (sym (three_dots a b c ss e f g))
    (present (a ∷ b ∷ c ∷ []) (both (a ∷ []) (b ∷ c ∷ []) (sign a e) (both (b ∷ []) (c ∷ []) (sign b f) (sign c g))))
dots_by a b c ss true true false e f g = without_dots (a ∷ b ∷ c ∷ ss) (third_no_dot (a ∷ b ∷ c ∷ ss) (begins_not (codes ".") c ss g))
dots_by a b c ss true false r e f g = without_dots (a ∷ b ∷ c ∷ ss) (second_no_dot (a ∷ b ∷ c ∷ ss) (begins_not (codes ".") b (c ∷ ss) f))
dots_by a b c ss false q r e f g = without_dots (a ∷ b ∷ c ∷ ss) (no_dots (a ∷ b ∷ c ∷ ss) (begins_not (codes ".") a (b ∷ c ∷ ss) e))

dots_sound : (ss : List Sign) → DotsAt ss
unfolding begins
dots_sound [] = without_dots [] (no_dots [] refl)
dots_sound (a ∷ []) = without_dots (a ∷ []) (second_no_dot (a ∷ []) refl)
dots_sound (a ∷ b ∷ []) = without_dots (a ∷ b ∷ []) (third_no_dot (a ∷ b ∷ []) refl)
dots_sound (a ∷ b ∷ c ∷ ss) = dots_by a b c ss (is (codes ".") a) (is (codes ".") b) (is (codes ".") c) refl refl refl

abbrev IsParamNameWide : List Sign → Type 0
IsParamNameWide ss = IsBoth (IsEither IsIdentifier (IsSign (codes "this"))) IsDims ss

no_param_name : (s : Sign) (ss : List Sign) → s.is_name ≡ false → is (codes "this") s ≡ false → param_name_len (s ∷ ss) ≡ 0
unfolding param_name_len begins begins_name
no_param_name s ss e f = rw (f, e) refl

empty_param_name : param_name_len [] ≡ 0
unfolding param_name_len begins begins_name
empty_param_name = refl

param_name_by : (s : Sign) (ss : List Sign) (p q : Bool) → s.is_name ≡ p → is (codes "this") s ≡ q → 0 < param_name_len (s ∷ ss) → IsParamNameWide (take (param_name_len (s ∷ ss)) (s ∷ ss))
param_name_by s ss true q e f l =
    subst (λ k. IsParamNameWide (take k (s ∷ ss))) (sym (param_name_named s ss e)) (both (s ∷ []) (take (dims_len ss) ss) (one (s ∷ []) (identifier s e)) (dims_sound ss))
param_name_by s ss false true e f l =
    subst (λ k. IsParamNameWide (take k (s ∷ ss))) (sym (param_name_this s ss f)) (both (s ∷ []) (take (dims_len ss) ss) (other (s ∷ []) (sign s f)) (dims_sound ss))
param_name_by s ss false false e f l = absurd (omega (arith, no_param_name s ss e f, l))

param_name_sound : (ss : List Sign) → 0 < param_name_len ss → IsParamNameWide (take (param_name_len ss) ss)
param_name_sound [] l = absurd (omega (arith, empty_param_name, l))
param_name_sound (s ∷ ss) l = param_name_by s ss s.is_name (is (codes "this") s) refl refl l

param_name_within_by : (s : Sign) (ss : List Sign) (p q : Bool) → s.is_name ≡ p → is (codes "this") s ≡ q → param_name_len (s ∷ ss) ≤ suc (length ss)
param_name_within_by s ss true q e f = omega (arith, param_name_named s ss e, dims_within ss)
param_name_within_by s ss false true e f = omega (arith, param_name_this s ss f, dims_within ss)
param_name_within_by s ss false false e f = omega (arith, no_param_name s ss e f)

param_name_within : (ss : List Sign) → param_name_len ss ≤ length ss
param_name_within [] = omega (arith, empty_param_name)
param_name_within (s ∷ ss) = param_name_within_by s ss s.is_name (is (codes "this") s) refl refl

pub no_wide : (ss : List Sign) → type_len ss ≡ 0 → wide_len ss ≡ 0
unfolding wide_len
no_wide ss e = rw (e) refl

wide_by : (ss : List Sign) (t : ℕ) → type_len ss ≡ t → 0 < wide_len ss → (0 < type_len ss) × (wide_len ss ≡ type_len ss + dots_len (drop (type_len ss) ss))
wide_by ss zero e l = absurd (omega (arith, no_wide ss e, l))
wide_by ss (suc t) e l = (omega (arith, e), wide_at ss t e ∙ ap (λ n. n + dots_len (drop n ss)) (sym e))

wide_within_by : (ss : List Sign) (t : ℕ) → type_len ss ≡ t → wide_len ss ≤ length ss
wide_within_by ss zero e = omega (arith, no_wide ss e)
wide_within_by ss (suc t) e = omega (arith, wide_at ss t e, dots_within (drop (suc t) ss), length-drop (suc t) ss, type_within ss, e)

final_within : (ss : List Sign) → final_len ss ≤ length ss
unfolding final_len begins
final_within [] = omega arith
final_within (s ∷ ss) = elim (is (codes "final") s) as (λ b. (if b then 1 else 0) ≤ suc (length ss)) [ true ↦ omega arith | false ↦ omega arith ]

ahead_within : (ss : List Sign) → ahead_len ss ≤ length ss
ahead_within ss =
    let n = span annotation_len ss in
    let reach : length ss ≤ length ss = omega arith in
    omega (arith, ahead_at ss n refl, span_within (length ss) annotation_len annotation_within ss (annotation_len ss) refl reach, final_within (drop n ss), length-drop n ss)

-- the three parts of a parameter as they are read
unfoldable kind_at : List Sign → List Sign
kind_at ss = drop (ahead_len ss) ss

unfoldable param_name_at : List Sign → List Sign
param_name_at ss = drop (wide_len (kind_at ss)) (kind_at ss)

pub two_if : (w c a : ℕ) → w ≡ 0 → (if w == 0 then 0 else if c == 0 then 0 else (a + w) + c) ≡ 0
two_if w c a e = rw (e) refl

if_zero : (b : Bool) → ◌≡◌ {A = ℕ} (if b then 0 else 0) 0
if_zero true = refl
if_zero false = refl

one_if : (w c a : ℕ) → c ≡ 0 → (if w == 0 then 0 else if c == 0 then 0 else (a + w) + c) ≡ 0
one_if w c a e = rw (e) (if_zero (w == 0))

record Reads (ss : List Sign) : Type 0 where
  wide : 0 < wide_len (kind_at ss)
  named : 0 < param_name_len (param_name_at ss)
  whole : param_len ss ≡ ahead_len ss + (wide_len (kind_at ss) + param_name_len (param_name_at ss))

reads_by : (ss : List Sign) (w c : ℕ) → wide_len (kind_at ss) ≡ w → param_name_len (param_name_at ss) ≡ c → 0 < param_len ss → Reads ss
unfolding param_len kind_at param_name_at
reads_by ss zero c e h l = let none : param_len ss ≡ 0 = two_if (wide_len (kind_at ss)) (param_name_len (param_name_at ss)) (ahead_len ss) e in absurd (omega (arith, none, l))
reads_by ss (suc w) zero e h l = let none : param_len ss ≡ 0 = one_if (wide_len (kind_at ss)) (param_name_len (param_name_at ss)) (ahead_len ss) h in absurd (omega (arith, none, l))
reads_by ss (suc w) (suc c) e h l =
    let size : param_len ss ≡ (ahead_len ss + suc w) + suc c = two_picks (wide_len (kind_at ss)) (param_name_len (param_name_at ss)) (ahead_len ss) w c e h in
    record { wide = omega (arith, e); named = omega (arith, h); whole = omega (arith, size, e, h) }

reads : (ss : List Sign) → 0 < param_len ss → Reads ss
reads ss l = reads_by ss (wide_len (kind_at ss)) (param_name_len (param_name_at ss)) refl refl l

param_within_by : (ss : List Sign) (n : ℕ) → param_len ss ≡ n → param_len ss ≤ length ss
unfolding kind_at param_name_at
param_within_by ss zero e = omega (arith, e)
param_within_by ss (suc n) e =
    let some : 0 < param_len ss = omega (arith, e) in
    let r = reads ss some in
    omega (arith, r.whole, ahead_within ss, length-drop (ahead_len ss) ss, wide_within_by (kind_at ss) (type_len (kind_at ss)) refl, length-drop (wide_len (kind_at ss)) (kind_at ss), param_name_within (param_name_at ss))

pub param_within : (ss : List Sign) → param_len ss ≤ length ss
param_within ss = param_within_by ss (param_len ss) refl

glue : (a b c d e : List Sign) → (a ++ b) ++ ((c ++ d) ++ e) ≡ a ++ (b ++ (c ++ (d ++ e)))
glue a b c d e = simp append_assoc

pub param_sound : (ss : List Sign) → 0 < param_len ss → IsParam (take (param_len ss) ss)
unfolding kind_at param_name_at
param_sound ss l =
    let r = reads ss l in
    let n = span annotation_len ss in
    let ys = drop n ss in
    let zs = kind_at ss in
    let us = param_name_at ss in
    let w = wide_by zs (type_len zs) refl r.wide in
    let t = type_len zs in
    let vs = drop t zs in
    let a = take n ss in
    let b = take (final_len ys) ys in
    let c = take t zs in
    let d = take (dots_len vs) vs in
    let e = take (param_name_len us) us in
    let tree = both a (b ++ (c ++ (d ++ e))) (many_sound IsAnnotation annotation_len annotation_sound ss) (both b (c ++ (d ++ e)) (final_sound ys) (both c (d ++ e) (type_sound zs w.0) (both d e (dots_sound vs) (param_name_sound us r.named)))) in
    let first : take (ahead_len ss) ss ≡ a ++ b = ap (λ k. take k ss) (ahead_at ss n refl) ∙ take-add n (final_len ys) ss in
    let second : take (wide_len zs) zs ≡ c ++ d = ap (λ k. take k zs) w.1 ∙ take-add t (dots_len vs) zs in
    let rest : take (wide_len zs + param_name_len us) zs ≡ (c ++ d) ++ e = take-add (wide_len zs) (param_name_len us) zs ∙ ap (λ xs. xs ++ e) second in
    let whole : take (param_len ss) ss ≡ (a ++ b) ++ ((c ++ d) ++ e) = ap (λ k. take k ss) r.whole ∙ (take-add (ahead_len ss) (wide_len zs + param_name_len us) ss ∙ (ap (λ xs. xs ++ take (wide_len zs + param_name_len us) zs) first ∙ ap (λ xs. (a ++ b) ++ xs) rest)) in
    subst IsParam (sym (whole ∙ glue a b c d e)) tree

pub params_are_longest : ParamsAreLongest
params_are_longest ss free = takes_longest IsParam param_len param_within param_sound param_some param_least ss free

-- What is read of a parameter is what the grammar says of it.
use Rattle.std.proofs.Common.{◌≡◌, ◌∙◌, ap, sym, subst, ℕ, ◌+◌, ◌*◌, ◌/◌, List, ◌++◌, length, take, drop, refl, arith}
use Rattle.std.proofs.lemmas.List.{take-append-drop, length-take-le}
use Rattle.std.proofs.Math.Seq.{drop-append_seam}
use Rattle.java_units.specs.declared.types.TypeText.{TypeText}
use Rattle.java_units.specs.declared.types.Param.{Param}
use Rattle.java_units.specs.Signs.{Sign}
use Rattle.java_units.specs.Forms.{ahead_len, type_len, dots_len, wide_len, dims_len, param_len}
use Rattle.java_units.specs.Values.{first_text, type_text, typed_param, param_of}
use Rattle.java_units.specs.Grammar.{sign, both, one, other, IsOptional, absent, present, identifier, IsType, IsDots, IsParam}
use Rattle.java_units.specs.Longest.{NamesAreIdentifiers}
use Rattle.java_units.specs.Trees.{spelled_dims, spelled_type, with_dims, param_name_text, spelled_dots, spelled_param, ParamsAreRead}
use Rattle.java_units.proofs.TypeGrammar.{type_just}
use Rattle.java_units.proofs.ListGrammar.{names_behind}
use Rattle.java_units.proofs.TypeReading.{type_read, dims_length}
use Rattle.java_units.proofs.ParamGrammar.{IsParamName, param_name_prefix, param_name_one, type_prefix, ahead_just, wide_just, past_two, dots_just, dots_end, regroup, size_of, param_reads, param_within}

param_name_first : (name : List Sign) (c : IsParamName name) (rest : List Sign) → first_text (name ++ rest) ≡ param_name_text name c
unfolding first_text
param_name_first _ (one _ (identifier s e)) rest = refl
param_name_first _ (other _ (sign s e)) rest = refl

param_name_past : (name : List Sign) → IsParamName name → (rest : List Sign) → drop 1 (name ++ rest) ≡ rest
param_name_past _ (one _ (identifier s e)) rest = refl
param_name_past _ (other _ (sign s e)) rest = refl

dots_length : (dots : List Sign) (d : IsOptional IsDots dots) → length dots ≡ 3 * spelled_dots dots d
dots_length _ absent = omega arith
dots_length _ (present _ (both _ _ (sign a e) (both _ _ (sign b f) (sign c g)))) = omega arith

same_param : (p q : List ℕ) (t u : TypeText) → p ≡ q → t ≡ u → ◌≡◌ {A = Param} (record { name = p; kind = t }) (record { name = q; kind = u })
same_param p q t u e h = ap {B = Param} (λ x. record { name = x; kind = t }) e ∙ ap {B = Param} (λ x. record { name = q; kind = x }) h

typed_read : (kind dots name rest : List Sign) (t : IsType kind) (d : IsOptional IsDots dots) (c : IsParamName name) (count : ℕ) → NamesAreIdentifiers (kind ++ (dots ++ (name ++ rest))) → dims_len rest ≡ 2 * count → typed_param (kind ++ (dots ++ (name ++ rest))) ≡ record { name = param_name_text name c; kind = with_dims (spelled_dots dots d + count) (spelled_type kind t) }
unfolding typed_param
typed_read kind dots name rest t d c count f size =
    let x4 = name ++ rest in
    let x3 = dots ++ x4 in
    let x2 = kind ++ x3 in
    let f3 = names_behind kind x3 f in
    let prefix = param_name_prefix name c rest (names_behind dots x4 f3) in
    let kinds = type_just kind t x3 f (dots_end dots d x4 f3 prefix) in
    let wide : drop (wide_len x2) x2 ≡ x4 = ap (λ k. drop k x2) (wide_just kind dots x4 t d f prefix) ∙ past_two kind dots x4 in
    let named : first_text (drop (wide_len x2) x2) ≡ param_name_text name c = ap first_text wide ∙ param_name_first name c rest in
    let past : dots_len (drop (type_len x2) x2) ≡ dots_len x3 = ap dots_len (ap (λ k. drop k x2) kinds ∙ drop-append_seam kind x3) in
    let behind : dims_len (drop 1 (drop (wide_len x2) x2)) ≡ dims_len rest = ap (λ xs. dims_len (drop 1 xs)) wide ∙ ap (λ xs. dims_len xs) (param_name_past name c rest) in
    let more : dots_len (drop (type_len x2) x2) / 3 + dims_len (drop 1 (drop (wide_len x2) x2)) / 2 ≡ spelled_dots dots d + count = omega (arith, past, dots_just dots d x4 prefix, dots_length dots d, behind, size) in
    let text = ap (λ k. type_text k x2) more ∙ type_read (spelled_dots dots d + count) kind t x3 f kinds in
    same_param (first_text (drop (wide_len x2) x2)) (param_name_text name c) (type_text (dots_len (drop (type_len x2) x2) / 3 + dims_len (drop 1 (drop (wide_len x2) x2)) / 2) x2) (with_dims (spelled_dots dots d + count) (spelled_type kind t)) named text

pub param_read : (ss : List Sign) (p : IsParam ss) (tail : List Sign) → NamesAreIdentifiers (ss ++ tail) → param_len (ss ++ tail) ≡ length ss → param_of (ss ++ tail) ≡ spelled_param ss p
unfolding param_of
param_read _ (both marks _ m (both fin _ n (both kind _ t (both dots _ d (both name dims c ds))))) tail f size =
    let same = regroup marks fin kind dots name dims tail in
    let x2 = kind ++ (dots ++ (name ++ (dims ++ tail))) in
    let all = marks ++ (fin ++ x2) in
    let g = subst NamesAreIdentifiers same f in
    let g2 = names_behind fin x2 (names_behind marks (fin ++ x2) g) in
    let whole = param_reads marks fin kind dots name (dims ++ tail) m n t d c g in
    let count : dims_len (dims ++ tail) ≡ 2 * spelled_dims dims ds = omega (arith, ap param_len same, size, whole, size_of marks fin kind dots name dims, param_name_one name c, dims_length dims ds) in
    let ahead : drop (ahead_len all) all ≡ x2 = ap (λ k. drop k all) (ahead_just marks fin x2 m n g (type_prefix kind t (dots ++ (name ++ (dims ++ tail))) g2)) ∙ past_two marks fin x2 in
    ap (λ xs. typed_param (drop (ahead_len xs) xs)) same ∙ (ap typed_param ahead ∙ typed_read kind dots name (dims ++ tail) t d c (spelled_dims dims ds) g2 count)

pub params_are_read : ParamsAreRead
params_are_read ss f p =
    let n = param_len ss in
    let whole = take-append-drop n ss in
    let size : param_len (take n ss ++ drop n ss) ≡ length (take n ss) = ap param_len whole ∙ sym (length-take-le n ss (param_within ss)) in
    ap param_of (sym whole) ∙ param_read (take n ss) p (drop n ss) (subst NamesAreIdentifiers (sym whole) f) size

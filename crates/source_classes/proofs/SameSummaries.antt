-- The summaries of a text's classes over two lists of known classes that have the same class under each name.
use Rattle.std.proofs.Common.{◌≡◌, ◌∙◌, ap, refl, ℕ, suc, List, [], ◌∷◌, ◌++◌, map, slice_get, Option, Some, None}
use Rattle.std.specs.Prelude.{unwrap_or, if◌then◌else◌}
use Rattle.std.specs.List.{filter_map, cons_option}
use Rattle.java_units.specs.declared.types.TypeText.{TypeText}
use Rattle.java_units.specs.declared.types.Param.{Param}
use Rattle.java_units.specs.declared.types.SourceField.{SourceField}
use Rattle.java_units.specs.declared.types.SourceMethod.{SourceMethod}
use Rattle.java_units.specs.declared.types.SourceClass.{SourceClass}
use Rattle.java_units.specs.declared.types.Unit as unit
use Rattle.type_names.specs.declared.kinds.Erased.{Erased}
use Rattle.known_classes.specs.declared.summary.FieldSummary.{FieldSummary}
use Rattle.known_classes.specs.declared.summary.MethodSummary.{MethodSummary}
use Rattle.known_classes.specs.declared.summary.ClassSummary.{ClassSummary}
use Rattle.class_summary.specs.Sources.{internal_name}
use Rattle.class_summary.specs.SourceSummaries.{class_of, super_of, parent_of, last_supers, named_parent, names_super, first_super, interfaces, supers_of, field_of, param_of, result_of, method_of, methods_from, nesting_of, summary_at, summaries_from, summaries_of}
use Rattle.source_classes.proofs.Alike.{IsAlike}
use Rattle.source_classes.proofs.SameNames.{denoted-same}

map-same : {A B : Type 0} (f g : A → B) (xs : List A) → ((x : A) → f x ≡ g x) → map f xs ≡ map g xs
map-same f g [] e = refl
map-same f g (x ∷ xs) e = ap (λ y. y ∷ map f xs) (e x) ∙ ap (λ ys. g x ∷ ys) (map-same f g xs e)

kept-same : {A B : Type 0} (f g : A → Option B) (xs : List A) → ((x : A) → f x ≡ g x) → filter_map f xs ≡ filter_map g xs
kept-same f g [] e = refl
kept-same f g (x ∷ xs) e = ap (λ o. cons_option o (filter_map f xs)) (e x) ∙ ap (cons_option (g x)) (kept-same f g xs e)

super-same : (u : unit.Unit) (i : ℕ) (ks ls : List ClassSummary) (type : TypeText) → IsAlike ks ls → super_of u i ls type ≡ super_of u i ks type
unfolding super_of
super-same u i ks ls type h = ap class_of (denoted-same u i None type ks ls h)

parent-same : (u : unit.Unit) (i : ℕ) (ks ls : List ClassSummary) (type : Option TypeText) → IsAlike ks ls → named_parent u i ls type ≡ named_parent u i ks type
parent-same u i ks ls None h = refl
parent-same u i ks ls (Some type) h = super-same u i ks ls type h

first-same : (u : unit.Unit) (i : ℕ) (ks ls : List ClassSummary) (c : SourceClass) → IsAlike ks ls → first_super u i ls c ≡ first_super u i ks c
unfolding first_super
first-same u i ks ls c h = ap (λ (o : Option (List ℕ)). if names_super c then unwrap_or o (parent_of c.kind) else parent_of c.kind) (parent-same u i ks ls (slice_get c.supers 0) h)

supers-same : (u : unit.Unit) (i : ℕ) (ks ls : List ClassSummary) (c : SourceClass) → IsAlike ks ls → supers_of u i ls c ≡ supers_of u i ks c
unfolding supers_of
supers-same u i ks ls c h =
    ap (λ (x : List ℕ). x ∷ (filter_map (super_of u i ls) (interfaces c) ++ last_supers c.kind)) (first-same u i ks ls c h)
    ∙ ap (λ (xs : List (List ℕ)). first_super u i ks c ∷ (xs ++ last_supers c.kind)) (kept-same (super_of u i ls) (super_of u i ks) (interfaces c) (λ type. super-same u i ks ls type h))

field-same : (u : unit.Unit) (i : ℕ) (ks ls : List ClassSummary) (f : SourceField) → IsAlike ks ls → field_of u i ls f ≡ field_of u i ks f
unfolding field_of
field-same u i ks ls f h =
    let made : Erased → FieldSummary = λ k. record { name = f.name; flags = f.flags; kind = k } in
    ap made (denoted-same u i None f.kind ks ls h)

param-same : (u : unit.Unit) (i m : ℕ) (ks ls : List ClassSummary) (p : Param) → IsAlike ks ls → param_of u i m ls p ≡ param_of u i m ks p
unfolding param_of
param-same u i m ks ls p h = denoted-same u i (Some m) p.kind ks ls h

result-same : (u : unit.Unit) (i m : ℕ) (ks ls : List ClassSummary) (type : Option TypeText) → IsAlike ks ls → result_of u i m ls type ≡ result_of u i m ks type
result-same u i m ks ls None h = refl
result-same u i m ks ls (Some type) h = ap Some (denoted-same u i (Some m) type ks ls h)

method-same : (u : unit.Unit) (i : ℕ) (ks ls : List ClassSummary) (m : ℕ) (s : SourceMethod) → IsAlike ks ls → method_of u i ls m s ≡ method_of u i ks m s
unfolding method_of
method-same u i ks ls m s h =
    let made : List Erased → Option Erased → MethodSummary = λ p r. record { name = s.name; flags = s.flags; params = p; result = r } in
    ap (λ (p : List Erased). made p (result_of u i m ls s.result)) (map-same (param_of u i m ls) (param_of u i m ks) s.params (λ p. param-same u i m ks ls p h))
    ∙ ap (made (map (param_of u i m ks) s.params)) (result-same u i m ks ls s.result h)

methods-same : (u : unit.Unit) (i : ℕ) (ks ls : List ClassSummary) (m : ℕ) (ss : List SourceMethod) → IsAlike ks ls → methods_from u i ls m ss ≡ methods_from u i ks m ss
unfolding methods_from
methods-same u i ks ls m [] h = refl
methods-same u i ks ls m (s ∷ ss) h =
    ap (λ (x : MethodSummary). x ∷ methods_from u i ls (suc m) ss) (method-same u i ks ls m s h)
    ∙ ap (λ (xs : List MethodSummary). method_of u i ks m s ∷ xs) (methods-same u i ks ls (suc m) ss h)

summary-same : (u : unit.Unit) (i : ℕ) (ks ls : List ClassSummary) (c : SourceClass) → IsAlike ks ls → summary_at u i ls c ≡ summary_at u i ks c
summary-same u i ks ls c h =
    let made : List (List ℕ) → List FieldSummary → List MethodSummary → ClassSummary = λ s f m. record { name = internal_name u i; flags = c.flags; nesting = nesting_of u c c.outer; supers = s; fields = f; methods = m } in
    let fields : List ClassSummary → List FieldSummary = λ known. map (field_of u i known) c.fields in
    let methods : List ClassSummary → List MethodSummary = λ known. methods_from u i known 0 c.methods in
    ap (λ (s : List (List ℕ)). made s (fields ls) (methods ls)) (supers-same u i ks ls c h)
    ∙ ap (λ (f : List FieldSummary). made (supers_of u i ks c) f (methods ls)) (map-same (field_of u i ls) (field_of u i ks) c.fields (λ f. field-same u i ks ls f h))
    ∙ ap (made (supers_of u i ks c) (fields ks)) (methods-same u i ks ls 0 c.methods h)

from-same : (u : unit.Unit) (ks ls : List ClassSummary) (i : ℕ) (cs : List SourceClass) → IsAlike ks ls → summaries_from u ls i cs ≡ summaries_from u ks i cs
unfolding summaries_from
from-same u ks ls i [] h = refl
from-same u ks ls i (c ∷ cs) h =
    ap (λ (x : ClassSummary). x ∷ summaries_from u ls (suc i) cs) (summary-same u i ks ls c h)
    ∙ ap (λ (xs : List ClassSummary). summary_at u i ks c ∷ xs) (from-same u ks ls (suc i) cs h)

-- the summaries of a unit are the same
pub summaries-same : (u : unit.Unit) (ks ls : List ClassSummary) → IsAlike ks ls → summaries_of u ls ≡ summaries_of u ks
summaries-same u ks ls h = from-same u ks ls 0 u.classes h

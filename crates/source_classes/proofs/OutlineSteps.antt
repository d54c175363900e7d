-- The outlines of a unit's classes, one class further.
use Rattle.std.proofs.Common.{◌≡◌, ◌∙◌, ap, sym, refl, ℕ, suc, ◌+◌, ◌<◌, ◌≤◌, List, [], ◌∷◌, ◌++◌, length, map, drop, get_or, append-nil, append_assoc, add-one}
use Rattle.std.proofs.lemmas.List.{drop_all, drop_more}
use Rattle.java_units.specs.declared.types.Unit as unit
use Rattle.java_units.specs.declared.types.SourceClass.{SourceClass}
use Rattle.known_classes.specs.declared.summary.ClassSummary.{ClassSummary}
use Rattle.class_summary.specs.SourceSummaries.{summary_at, summaries_from}
use Rattle.source_classes.specs.SourceClasses.{outline, outlines_of}

-- the outlines of these classes, numbered from i on
abbrev pub outlines_from : unit.Unit → ℕ → List SourceClass → List ClassSummary
outlines_from u i cs = map outline (summaries_from u [] i cs)

outlines-cons : (u : unit.Unit) (i : ℕ) (c : SourceClass) (cs : List SourceClass) → outlines_from u i (c ∷ cs) ≡ outline (summary_at u i [] c) ∷ outlines_from u (suc i) cs
unfolding summaries_from
outlines-cons u i c cs = refl

outlines-none : (u : unit.Unit) (i : ℕ) → outlines_from u i [] ≡ []
unfolding summaries_from
outlines-none u i = refl

outlines-are : (u : unit.Unit) → outlines_of u ≡ outlines_from u 0 u.classes
unfolding outlines_of
outlines-are u = refl

pub outlines_first : (u : unit.Unit) (cs : List SourceClass) (old : List ClassSummary) → cs ≡ u.classes → old ≡ [] → outlines_of u ≡ old ++ outlines_from u 0 (drop 0 cs)
outlines_first u cs old e o = outlines-are u ∙ ap (outlines_from u 0) (sym e) ∙ ap (λ (r : List ClassSummary). r ++ outlines_from u 0 cs) (sym o)

pub outlines_on : (u : unit.Unit) (cs : List SourceClass) (i : ℕ) (c : SourceClass) (whole old new : List ClassSummary) (v : ClassSummary) → i < length cs → c ≡ get_or cs i c → v ≡ outline (summary_at u i [] c) → new ≡ old ++ v ∷ [] → whole ≡ old ++ outlines_from u i (drop i cs) → whole ≡ new ++ outlines_from u (i + 1) (drop (i + 1) cs)
outlines_on u cs i c whole old new v l e x n h =
    let d : drop i cs ≡ c ∷ drop (i + 1) cs = drop_more cs i c l ∙ ap (λ (y : SourceClass). y ∷ drop (i + 1) cs) (sym e) in
    let t : outlines_from u i (drop i cs) ≡ v ∷ outlines_from u (i + 1) (drop (i + 1) cs) = ap (outlines_from u i) d ∙ (outlines-cons u i c (drop (i + 1) cs) ∙ (ap (λ (y : ClassSummary). y ∷ outlines_from u (suc i) (drop (i + 1) cs)) (sym x) ∙ ap (λ (k : ℕ). v ∷ outlines_from u k (drop (i + 1) cs)) (sym (add-one i)))) in
    h ∙ (ap (λ (r : List ClassSummary). old ++ r) t ∙ (sym (append_assoc old (v ∷ []) (outlines_from u (i + 1) (drop (i + 1) cs))) ∙ ap (λ (r : List ClassSummary). r ++ outlines_from u (i + 1) (drop (i + 1) cs)) (sym n)))

pub outlines_end : (u : unit.Unit) (cs : List SourceClass) (i : ℕ) (whole old : List ClassSummary) → length cs ≤ i → whole ≡ old ++ outlines_from u i (drop i cs) → old ≡ whole
outlines_end u cs i whole old l h =
    sym (h ∙ (ap (λ (r : List ClassSummary). old ++ r) (ap (outlines_from u i) (drop_all i cs l) ∙ outlines-none u i) ∙ append-nil old))

-- What stands above a class: it is known where the class is below no missing one, and its interfaces are known ones.
use Rattle.std.proofs.Common.{◌≡◌, ◌∙◌, ap, sym, refl, ℕ, Bool, true, false, cond, ◌&&◌, ◌||◌, not, List, [], ◌∷◌, bytes_eq}
use Rattle.std.specs.Prelude.{is_some}
use Rattle.std.specs.List.{list_all, filter, flat_map}
use Rattle.std.proofs.lemmas.List.Folds.{list_all-append}
use Rattle.type_names.specs.Names.{object_name}
use Rattle.known_classes.specs.declared.summary.ClassSummary.{ClassSummary}
use Rattle.known_classes.specs.Known.{class_named}
use Rattle.offers.specs.Scenes.{Scene, of_class, at_or_below}
use Rattle.offers.specs.Functional.{is_interface, is_face, faces_above, is_there, is_whole}
use Rattle.offers.specs.Missing.{is_missing, missing_in, missing, is_apart, interfaces}

step : (p : List ℕ → Bool) (b o k : Bool) (n : List ℕ) (fs : List (List ℕ)) (r : Bool) → p n ≡ not b → r ≡ list_all p fs → (((not b || o) || k) && r) ≡ list_all p (cond (not (o || k)) (n ∷ fs) fs)
step p true true k n fs r e f = f
step p true false true n fs r e f = f
step p true false false n fs r e f = sym (ap (λ t. t && list_all p fs) e)
step p false true k n fs r e f = f
step p false false true n fs r e f = f
step p false false false n fs r e f = f ∙ sym (ap (λ t. t && list_all p fs) e)

there : (v : Scene) (c : ClassSummary) (names : List (List ℕ)) → list_all (is_there v c) names ≡ is_apart v c (filter (is_missing v) names)
there v c [] = refl
there v c (n ∷ ns) = step (λ name. not (v.below (of_class c.name) (of_class name))) (v.below (of_class c.name) (of_class n)) (bytes_eq n object_name) (is_some (class_named v.known n)) n (filter (is_missing v) ns) (list_all (is_there v c) ns) refl (there v c ns)

all-there : (v : Scene) (c : ClassSummary) (ds : List ClassSummary) → list_all (λ d. list_all (is_there v c) d.supers) ds ≡ is_apart v c (flat_map (missing_in v) ds)
all-there v c [] = refl
all-there v c (d ∷ ds) =
    ap (λ t. t && list_all (λ (d : ClassSummary). list_all (is_there v c) d.supers) ds) (there v c d.supers)
    ∙ ap (λ t. is_apart v c (missing_in v d) && t) (all-there v c ds)
    ∙ sym (list_all-append (λ name. not (v.below (of_class c.name) (of_class name))) (missing_in v d) (flat_map (missing_in v) ds))

pub whole_apart : (v : Scene) (c : ClassSummary) → is_whole v c ≡ is_apart v c (missing v)
unfolding is_whole missing
whole_apart v c = all-there v c v.known

both : {A : Type 0} (r : A → Bool) (b c : Bool) (x : A) (fs more : List A) → r x ≡ (b && c) → filter r fs ≡ more → filter r (cond b (x ∷ fs) fs) ≡ cond (b && c) (x ∷ more) more
both {A} r true c x fs more e f = ap (λ t. cond t (x ∷ filter r fs) (filter r fs)) e ∙ ap (λ (z : List A). cond c (x ∷ z) z) f
both r false c x fs more e f = f

faces-in : (v : Scene) (c : ClassSummary) (ds : List ClassSummary) → filter (is_face v c) (filter is_interface ds) ≡ filter (is_face v c) ds
faces-in v c [] = refl
faces-in v c (d ∷ ds) = both (is_face v c) (is_interface d) (at_or_below v (of_class c.name) (of_class d.name)) d (filter is_interface ds) (filter (is_face v c) ds) refl (faces-in v c ds)

pub faces_among : (v : Scene) (c : ClassSummary) (known all : List ClassSummary) → known ≡ interfaces v → all ≡ filter (is_face v c) known → all ≡ faces_above v c
unfolding faces_above
faces_among v c known all e f = f ∙ ap (filter (is_face v c)) e ∙ faces-in v c v.known

-- What is found at the places of arguments, and for shapes as the code has them.
use Rattle.std.proofs.Common.{◌≡◌, ◌∙◌, ap, sym, subst, refl, arith, ℕ, zero, suc, ◌+◌, ◌<◌, ◌≤◌, List, [], ◌∷◌, ◌++◌, length, map, drop, get_or, Option, Result, IfOk, append-nil}
use Rattle.std.proofs.lemmas.List.{drop_more, drop_all}
use Rattle.terms.specs.declared.parts.Parts.{Parts}
use Rattle.java_shapes.specs.Shape.{Shape as Tree, Before as Start, named, called, lambda, fresh, behind, in_brackets, Shapes, no_shapes, shapes}
use Rattle.java_shapes.specs.Grammar.{IsShape, IsBefore, AreShapes, IsNameBehind, NeedsBrackets}
use Rattle.java_resolve.specs.declared.shape.Argument.{Argument}
use Rattle.java_resolve.specs.declared.shape.Before.TheFolds.{fold_out-Argument}
use Rattle.java_resolve.specs.declared.found.Place.{Place}
use Rattle.java_resolve.specs.declared.found.Row as code_row
use Rattle.java_resolve.specs.View.{shape_view, argument_view, args_view, before_step, shape_step, argument_step}
use Rattle.java_resolve.specs.Found.{Spot}
use Rattle.java_resolve.specs.Trees.{place_view, row_view}
use Rattle.java_resolve.specs.Reading.{IsRow, AreSpots}
use Rattle.java_resolve.proofs.Sizes.{argument_shapes}

argument_is : (y : Argument) → argument_view y ≡ shapes y.cast (shape_view y.shape)
argument_is y = fold_out-Argument Start Tree (Shapes → Shapes) before_step shape_step argument_step y

-- one argument
pub spot_alone : (g : Parts) (ctx : List (List ℕ)) (y : Argument) (p : Place) → p.cast ≡ y.cast → IsRow g ctx (shape_view y.shape) (row_view p.row) → AreSpots g ctx (args_view (y ∷ [])) (place_view p ∷ [])
spot_alone g ctx y p e r = subst (λ f. AreSpots g ctx (f no_shapes) (place_view p ∷ [])) (sym (argument_is y)) (e, r, tt)

pub shape_alone : (b : List ℕ) (y : Argument) → AreShapes b (args_view (y ∷ [])) → IsShape b (shape_view y.shape)
unfolding AreShapes
shape_alone b y h = let k : AreShapes b (shapes y.cast (shape_view y.shape) no_shapes) = subst (λ f. AreShapes b (f no_shapes)) (argument_is y) h in k.1

-- one argument of several
spots_first : (g : Parts) (ctx : List (List ℕ)) (y : Argument) (rest : Shapes) (p : Spot) (ps : List Spot) → AreSpots g ctx (argument_view y no_shapes) (p ∷ []) → AreSpots g ctx rest ps → AreSpots g ctx (argument_view y rest) (p ∷ ps)
spots_first g ctx y rest p ps h k =
    let s = argument_shapes y in
    let one : AreSpots g ctx (shapes s.0 s.1 no_shapes) (p ∷ []) = subst (λ f. AreSpots g ctx (f no_shapes) (p ∷ [])) s.2 h in
    subst (λ f. AreSpots g ctx (f rest) (p ∷ ps)) (sym s.2) (one.0, one.1, k)

map_with : (old : List Place) (p : Place) (ps : List Spot) → map place_view (old ++ p ∷ []) ++ ps ≡ map place_view old ++ place_view p ∷ ps
map_with [] p ps = refl
map_with (q ∷ old) p ps = ap (λ z. place_view q ∷ z) (map_with old p ps)

pub spots_step : (g : Parts) (ctx : List (List ℕ)) (xs : List Argument) (i : ℕ) (y : Argument) (old new : List Place) (p : Place) → i < length xs → y ≡ get_or xs i y → new ≡ old ++ p ∷ [] → AreSpots g ctx (args_view (y ∷ [])) (place_view p ∷ [])
    → ((ps : List Spot) → AreSpots g ctx (args_view (drop i xs)) ps → AreSpots g ctx (args_view xs) (map place_view old ++ ps)) → (ps : List Spot) → AreSpots g ctx (args_view (drop (i + 1) xs)) ps → AreSpots g ctx (args_view xs) (map place_view new ++ ps)
spots_step g ctx xs i y old new p l at e here rest ps right =
    let is : drop i xs ≡ y ∷ drop (i + 1) xs = drop_more xs i y l ∙ ap (λ z. z ∷ drop (i + 1) xs) (sym at) in
    subst (AreSpots g ctx (args_view xs)) (sym (ap (λ z. map place_view z ++ ps) e ∙ map_with old p ps))
    (rest (place_view p ∷ ps) (subst (λ z. AreSpots g ctx (args_view z) (place_view p ∷ ps)) (sym is) (spots_first g ctx y (args_view (drop (i + 1) xs)) (place_view p) ps here right)))

pub spots_end : (g : Parts) (ctx : List (List ℕ)) (xs : List Argument) (i : ℕ) (places : List Place) → length xs ≤ i → ((ps : List Spot) → AreSpots g ctx (args_view (drop i xs)) ps → AreSpots g ctx (args_view xs) (map place_view places ++ ps)) → AreSpots g ctx (args_view xs) (map place_view places)
spots_end g ctx xs i places l rest =
    subst (AreSpots g ctx (args_view xs)) (append-nil (map place_view places)) (rest [] (subst (λ z. AreSpots g ctx (args_view z) []) (sym (drop_all i xs l)) tt))

first_shapes : (b : List ℕ) (y : Argument) (rest : Shapes) → AreShapes b (argument_view y rest) → AreShapes b (argument_view y no_shapes) × AreShapes b rest
unfolding AreShapes
first_shapes b y rest h =
    let s = argument_shapes y in
    let k : AreShapes b (shapes s.0 s.1 rest) = subst (λ f. AreShapes b (f rest)) s.2 h in
    let one : AreShapes b (shapes s.0 s.1 no_shapes) = (k.0, k.1, tt) in
    (subst (λ f. AreShapes b (f no_shapes)) (sym s.2) one, k.2)

shapes_at : (b : List ℕ) (xs : List Argument) (i : ℕ) (d : Argument) → i < length xs → AreShapes b (args_view xs) → AreShapes b (args_view (get_or xs i d ∷ []))
shapes_at b [] i d l h = absurd (omega arith)
shapes_at b (x ∷ xs) zero d l h = (first_shapes b x (args_view xs) h).0
shapes_at b (x ∷ xs) (suc i) d l h = shapes_at b xs i d (omega arith) (first_shapes b x (args_view xs) h).1

pub shapes_of : (b : List ℕ) (xs : List Argument) (i : ℕ) (y : Argument) → i < length xs → y ≡ get_or xs i y → AreShapes b (args_view xs) → AreShapes b (args_view (y ∷ []))
shapes_of b xs i y l e h = subst (λ z. AreShapes b (args_view (z ∷ []))) (sym e) (shapes_at b xs i y l h)

-- rows of shapes that are the same
pub row_as : {E : Type 0} (g : Parts) (ctx : List (List ℕ)) (s t : Tree) (r : Result code_row.Row E) → s ≡ t → IfOk r (λ row. IsRow g ctx t (row_view row)) → IfOk r (λ row. IsRow g ctx s (row_view row))
row_as g ctx s t r e h = subst (λ z. IfOk r (λ row. IsRow g ctx z (row_view row))) (sym e) h

pub named_shape : (b : List ℕ) (s : Tree) (x : Start) (t : List ℕ) → s ≡ named x t → IsShape b s → IsShape b (named x t)
named_shape b s x t e h = subst (IsShape b) e h

-- the parts of a call, of a lambda, and of what stands before a name
pub called_parts : (b : List ℕ) (s : Tree) (x : Start) (t : List ℕ) (args : Shapes) → s ≡ called x t args → IsShape b s → IsBefore b x × AreShapes b args
unfolding IsShape
called_parts b s x t args e h = let k : IsShape b (called x t args) = subst (IsShape b) e h in (k.0, k.2)

pub lambda_body : (b : List ℕ) (s : Tree) (t : List ℕ) (bs : List (List ℕ)) (c : Option (List ℕ)) (e : Tree) → s ≡ lambda t bs c e → IsShape b s → IsShape b e
unfolding IsShape
lambda_body b s t bs c e q h = let k : IsShape b (lambda t bs c e) = subst (IsShape b) q h in k.3

pub named_before : (b : List ℕ) (x : Start) (t : List ℕ) → IsShape b (named x t) → IsBefore b x × IsNameBehind x t
unfolding IsShape
named_before b x t h = h

pub no_fresh_name : (b : List ℕ) (x : Start) (t : List ℕ) → IsShape b (named x t) → x ≡ fresh → ⊥
no_fresh_name b x t h e = subst (λ z. IsNameBehind z t) e (named_before b x t h).1

pub behind_parts : (b : List ℕ) (y x : Start) (t : List ℕ) (args : Shapes) → y ≡ behind x t args → IsBefore b y → IsBefore b x × AreShapes b args
unfolding IsBefore
behind_parts b y x t args e h = let k : IsBefore b (behind x t args) = subst (IsBefore b) e h in (k.0, k.2)

pub bracket_parts : (b : List ℕ) (y : Start) (c : Option (List ℕ)) (s : Tree) → y ≡ in_brackets c s → IsBefore b y → IsShape b s × NeedsBrackets c s
unfolding IsBefore
bracket_parts b y c s e h = let k : IsBefore b (in_brackets c s) = subst (IsBefore b) e h in (k.1, k.2)

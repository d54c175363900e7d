-- The pieces of the code's expressions, constructor by constructor.
use Rattle.std.proofs.Common.{◌≡◌, ◌∙◌, ap, ap₂, sym, subst, ℕ, ◌+◌, ◌<◌, ◌≤◌, ◌==◌, Bool, true, false, List, [], ◌∷◌, ◌++◌, length, drop, take, get_or, Option, Result, Ok, Err, OnOk, append-nil, append_assoc}
use Rattle.std.proofs.Math.Seq.{take-append_seam}
use Rattle.std.proofs.lemmas.List.{drop_all, drop_more}
use Rattle.indexmap.specs.IndexSet.{IndexSet}
use Rattle.java_shapes.specs.Shape.{Shape as Tree, Shapes, no_shapes, shapes}
use Rattle.java_resolve.specs.declared.shape.Shape.{Shape}
use Rattle.java_resolve.specs.declared.shape.Shape as code
use Rattle.java_resolve.specs.declared.shape.Before.{Before}
use Rattle.java_resolve.specs.declared.shape.Before as code_before
use Rattle.java_resolve.specs.declared.shape.Argument.{Argument}
use Rattle.java_resolve.specs.View.{shape_view, before_view, argument_view, args_view}
use Rattle.java_resolve.specs.Pieces.{sign, cut, cast_pieces, header_pieces, call_pieces, shape_pieces, before_pieces, args_pieces, separator}
use Rattle.java_resolve.specs.Known.{Passes, Begins}
use Rattle.java_resolve.proofs.Pieces.{over_both, over_first, over_none, over_pieces, as_true, as_false, later}
use Rattle.java_resolve.proofs.Sizes.{view_named, view_called, view_lambda, view_nothing, view_fresh, view_behind, view_brackets, argument_shapes}

pub pieces_named : (bound : List (List ℕ)) (x : Shape) (b : Before) (t : List ℕ) → x ≡ code.Named b t → before_pieces bound (before_view b) ++ cut bound [] t ≡ shape_pieces bound (shape_view x)
unfolding shape_pieces
pieces_named bound x b t e = sym (ap (λ y. shape_pieces bound (shape_view y)) e ∙ ap (shape_pieces bound) (view_named b t))

pub pieces_called : (bound : List (List ℕ)) (x : Shape) (b : Before) (t : List ℕ) (xs : List Argument) (n : ℕ) → x ≡ code.Called b t xs n → (before_pieces bound (before_view b) ++ cut bound [] t) ++ call_pieces bound (args_view xs) ≡ shape_pieces bound (shape_view x)
unfolding shape_pieces
pieces_called bound x b t xs n e = sym (ap (λ y. shape_pieces bound (shape_view y)) e ∙ ap (shape_pieces bound) (view_called b t xs n))

pub pieces_lambda : (bound : List (List ℕ)) (x : Shape) (s : List ℕ) (bs : List (List ℕ)) (c : Option (List ℕ)) (y : Shape) (n : ℕ) → x ≡ code.Lambda s bs c y n → header_pieces (bound ++ bs) s bs ++ (cast_pieces (bound ++ bs) c ++ shape_pieces (bound ++ bs) (shape_view y)) ≡ shape_pieces bound (shape_view x)
unfolding shape_pieces
pieces_lambda bound x s bs c y n e = sym (ap (λ z. shape_pieces bound (shape_view z)) e ∙ ap (shape_pieces bound) (view_lambda s bs c y n))

pub pieces_nothing : (bound : List (List ℕ)) (x : Before) → x ≡ code_before.Nothing → [] ≡ before_pieces bound (before_view x)
unfolding before_pieces
pieces_nothing bound x e = sym (ap (λ y. before_pieces bound (before_view y)) e ∙ ap (before_pieces bound) view_nothing)

pub pieces_fresh : (bound : List (List ℕ)) (x : Before) → x ≡ code_before.Fresh → sign (110 ∷ 101 ∷ 119 ∷ 32 ∷ []) ∷ [] ≡ before_pieces bound (before_view x)
unfolding before_pieces
pieces_fresh bound x e = sym (ap (λ y. before_pieces bound (before_view y)) e ∙ ap (before_pieces bound) view_fresh)

pub pieces_behind : (bound : List (List ℕ)) (x b : Before) (t : List ℕ) (xs : List Argument) (n : ℕ) → x ≡ code_before.Behind b t xs n → ((before_pieces bound (before_view b) ++ cut bound [] t) ++ call_pieces bound (args_view xs)) ++ sign (46 ∷ []) ∷ [] ≡ before_pieces bound (before_view x)
unfolding before_pieces
pieces_behind bound x b t xs n e = sym (ap (λ y. before_pieces bound (before_view y)) e ∙ ap (before_pieces bound) (view_behind b t xs n))

pub pieces_brackets : (bound : List (List ℕ)) (x : Before) (c : Option (List ℕ)) (y : Shape) (n : ℕ) → x ≡ code_before.InBrackets c y n → sign (40 ∷ []) ∷ ((cast_pieces bound c ++ shape_pieces bound (shape_view y)) ++ sign (41 ∷ 46 ∷ []) ∷ []) ≡ before_pieces bound (before_view x)
unfolding before_pieces
pieces_brackets bound x c y n e = sym (ap (λ z. before_pieces bound (before_view z)) e ∙ ap (before_pieces bound) (view_brackets c y n))

-- arguments, the first of them and the others
first_and_others : (bound : List (List ℕ)) (f : Bool) (c : Option (List ℕ)) (e : Tree) (rest : Shapes) → args_pieces bound f (shapes c e rest) ≡ args_pieces bound f (shapes c e no_shapes) ++ args_pieces bound false rest
unfolding args_pieces
first_and_others bound f c e rest = ap (λ x. x ++ args_pieces bound false rest) (sym (append-nil (sign (separator f) ∷ (cast_pieces bound c ++ shape_pieces bound e))))

one_first : (bound : List (List ℕ)) (f : Bool) (y : Argument) (rest : Shapes) → args_pieces bound f (argument_view y rest) ≡ args_pieces bound f (argument_view y no_shapes) ++ args_pieces bound false rest
one_first bound f y rest =
    let s = argument_shapes y in
    ap (λ g. args_pieces bound f (g rest)) s.2
    ∙ first_and_others bound f s.0 s.1 rest
    ∙ sym (ap (λ g. args_pieces bound f (g no_shapes) ++ args_pieces bound false rest) s.2)

pub args_first : (bound : List (List ℕ)) (f : Bool) (xs : List Argument) (i : ℕ) (x : Argument) → i < length xs → x ≡ get_or xs i x → args_pieces bound f (args_view (drop i xs)) ≡ args_pieces bound f (args_view (x ∷ [])) ++ args_pieces bound false (args_view (drop (i + 1) xs))
args_first bound f xs i x l e =
    ap (λ ys. args_pieces bound f (args_view ys)) (drop_more xs i x l ∙ ap (λ y. y ∷ drop (i + 1) xs) (sym e))
    ∙ one_first bound f x (args_view (drop (i + 1) xs))

pub args_end : (bound : List (List ℕ)) (f : Bool) (xs : List Argument) (i : ℕ) → length xs ≤ i → args_pieces bound f (args_view (drop i xs)) ≡ []
unfolding args_pieces
args_end bound f xs i l = ap (λ ys. args_pieces bound f (args_view ys)) (drop_all i xs l)

-- one argument
pub arg_alone : (bound : List (List ℕ)) (f : Bool) (y : Argument) (c : Option (List ℕ)) (e : Tree) → argument_view y ≡ shapes c e → sign (separator f) ∷ (cast_pieces bound c ++ shape_pieces bound e) ≡ args_pieces bound f (args_view (y ∷ []))
unfolding args_pieces
arg_alone bound f y c e h = sym (ap (λ g. args_pieces bound f (g no_shapes)) h ∙ append-nil (sign (separator f) ∷ (cast_pieces bound c ++ shape_pieces bound e)))

-- a list behind what it begins with
pub cut_back : {K : Type 0} (old grown new : List K) (n : ℕ) → n ≡ length old → Begins old grown → new ≡ take n grown → new ≡ old
cut_back old grown new n e b h = h ∙ ap (λ k. take k grown) e ∙ ap (take (length old)) b.1 ∙ take-append_seam old b.0

-- a loop over arguments, one argument on
pub args_on : (d : List ℕ → Bool) (bound : List (List ℕ)) (xs : List Argument) (i : ℕ) (x : Argument) (at mid to : ℕ) (b r : Bool) → i < length xs → x ≡ get_or xs i x → b ≡ true → Passes d (args_pieces bound (i == 0) (args_view (x ∷ []))) at mid b → Passes d (args_pieces bound (i + 1 == 0) (args_view (drop (i + 1) xs))) mid to r → Passes d (args_pieces bound (i == 0) (args_view (drop i xs))) at to r
args_on d bound xs i x at mid to b r l e t h k =
    let first = args_pieces bound (i == 0) (args_view (x ∷ [])) in
    let rest = args_pieces bound false (args_view (drop (i + 1) xs)) in
    over_pieces d (first ++ rest) (args_pieces bound (i == 0) (args_view (drop i xs))) at to r (sym (args_first bound (i == 0) xs i x l e))
    (over_both d first rest at mid to r (as_true d first at mid b t h) (subst (λ z. Passes d (args_pieces bound z (args_view (drop (i + 1) xs))) mid to r) (later i) k))

pub args_stop : (d : List ℕ → Bool) (bound : List (List ℕ)) (xs : List Argument) (i : ℕ) (x : Argument) (at to : ℕ) (b : Bool) → i < length xs → x ≡ get_or xs i x → b ≡ false → Passes d (args_pieces bound (i == 0) (args_view (x ∷ []))) at to b → Passes d (args_pieces bound (i == 0) (args_view (drop i xs))) at to false
args_stop d bound xs i x at to b l e t h =
    let first = args_pieces bound (i == 0) (args_view (x ∷ [])) in
    let rest = args_pieces bound false (args_view (drop (i + 1) xs)) in
    over_pieces d (first ++ rest) (args_pieces bound (i == 0) (args_view (drop i xs))) at to false (sym (args_first bound (i == 0) xs i x l e))
    (over_first d first rest at to (as_false d first at to b t h))

pub args_over : (d : List ℕ → Bool) (bound : List (List ℕ)) (xs : List Argument) (i at : ℕ) → length xs ≤ i → Passes d (args_pieces bound (i == 0) (args_view (drop i xs))) at at true
args_over d bound xs i at l = over_pieces d [] (args_pieces bound (i == 0) (args_view (drop i xs))) at at true (sym (args_end bound (i == 0) xs i l)) (over_none d at)

-- the same, where a part is named by what it equals
pub pieces_called_by : (bound : List (List ℕ)) (x : Shape) (b : Before) (t : List ℕ) (xs ys : List Argument) (n : ℕ) → ys ≡ xs → x ≡ code.Called b t xs n → (before_pieces bound (before_view b) ++ cut bound [] t) ++ call_pieces bound (args_view ys) ≡ shape_pieces bound (shape_view x)
pieces_called_by bound x b t xs ys n f e = ap (λ zs. (before_pieces bound (before_view b) ++ cut bound [] t) ++ call_pieces bound (args_view zs)) f ∙ pieces_called bound x b t xs n e

pub pieces_lambda_by : (bound : List (List ℕ)) (x : Shape) (s : List ℕ) (bs cs : List (List ℕ)) (c : Option (List ℕ)) (y z : Shape) (n : ℕ) → cs ≡ bs → z ≡ y → x ≡ code.Lambda s bs c y n → header_pieces (bound ++ cs) s cs ++ (cast_pieces (bound ++ cs) c ++ shape_pieces (bound ++ cs) (shape_view z)) ≡ shape_pieces bound (shape_view x)
pieces_lambda_by bound x s bs cs c y z n f g e = ap₂ (λ us v. header_pieces (bound ++ us) s us ++ (cast_pieces (bound ++ us) c ++ shape_pieces (bound ++ us) (shape_view v))) f g ∙ pieces_lambda bound x s bs c y n e

pub pieces_behind_by : (bound : List (List ℕ)) (x b d : Before) (t : List ℕ) (xs ys : List Argument) (n : ℕ) → d ≡ b → ys ≡ xs → x ≡ code_before.Behind b t xs n → ((before_pieces bound (before_view d) ++ cut bound [] t) ++ call_pieces bound (args_view ys)) ++ sign (46 ∷ []) ∷ [] ≡ before_pieces bound (before_view x)
pieces_behind_by bound x b d t xs ys n f g e = ap₂ (λ u zs. ((before_pieces bound (before_view u) ++ cut bound [] t) ++ call_pieces bound (args_view zs)) ++ sign (46 ∷ []) ∷ []) f g ∙ pieces_behind bound x b t xs n e

pub pieces_brackets_by : (bound : List (List ℕ)) (x : Before) (c : Option (List ℕ)) (y z : Shape) (n : ℕ) → z ≡ y → x ≡ code_before.InBrackets c y n → sign (40 ∷ []) ∷ ((cast_pieces bound c ++ shape_pieces bound (shape_view z)) ++ sign (41 ∷ 46 ∷ []) ∷ []) ≡ before_pieces bound (before_view x)
pieces_brackets_by bound x c y z n f e = ap (λ u. sign (40 ∷ []) ∷ ((cast_pieces bound c ++ shape_pieces bound (shape_view u)) ++ sign (41 ∷ 46 ∷ []) ∷ [])) f ∙ pieces_brackets bound x c y n e

-- lists that one begins
pub begins_all : {K : Type 0} (xs : List K) → Begins xs xs
begins_all xs = ([], sym (append-nil xs))

pub begins_then : {K : Type 0} (xs ys zs : List K) → Begins xs ys → Begins ys zs → Begins xs zs
begins_then xs ys zs h k = (h.0 ++ k.0, k.1 ∙ ap (λ x. x ++ k.0) h.1 ∙ append_assoc xs h.0 k.0)

pub begins_by : {K : Type 0} (xs ys zs : List K) → zs ≡ ys → Begins xs ys → Begins xs zs
begins_by xs ys zs e h = (h.0, e ∙ h.1)

-- an equal set has the same keys
pub keys_same : {K S : Type 0} (s t : IndexSet K S) → t ≡ s → t.keys ≡ s.keys
keys_same {K} {S} s t e = let f : IndexSet K S → List K = λ x. x.keys in ap f e

-- what holds anyway holds where a call succeeded
pub ok_of : {A E P : Type 0} (r : Result A E) → P → OnOk r P
ok_of (Ok a) h = h
ok_of (Err e) h = tt

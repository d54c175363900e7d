-- How frames are closed.
use Rattle.std.proofs.Common.{◌≡◌, ◌∙◌, ap, sym, refl, ℕ, ◌&&◌, not, Bool, true, false, List, [], ◌∷◌, ◌++◌, Option, Some, None, Result, Ok, Err, IfOk, eq-eqb, ne_eqb, if◌then◌else◌}
use Rattle.std.proofs.lemmas.Bool.{false≢true}
use Rattle.java_shapes.specs.Shape.{Shape as Tree, Before as Start, nothing, named, called, lambda, in_brackets, Shapes, no_shapes, shapes}
use Rattle.java_shapes.specs.Words.{spells_identifier, begins_name}
use Rattle.java_shapes.specs.Reader.{Around, Part, first, in_call, in_group, later, due, with_last, grouped, close, is_fresh, unwrapped, ended}
use Rattle.java_resolve.specs.declared.shape.Argument.{Argument}
use Rattle.java_resolve.specs.declared.shape.Shape.{Shape}
use Rattle.java_resolve.specs.declared.shape.Before.TheFolds.{fold_out-Argument, fold-roll-Argument}
use Rattle.java_resolve.specs.declared.shape.Before.TheViews.{roll-Argument}
use Rattle.java_resolve.specs.declared.place.Call.{Call as OpenCall}
use Rattle.java_resolve.specs.declared.place.Frame.{Frame}
use Rattle.java_resolve.specs.declared.place.Spot.{Spot}
use Rattle.java_resolve.specs.declared.place.Frame.TheVariants.{Call, Body, Group}
use Rattle.java_resolve.specs.View.{argument_view, args_view, shape_view, before_step, shape_step, argument_step, framed, around, spot_option, shape_option, needs_brackets, argument_closed}
use Rattle.java_resolve.proofs.Frames.{around_append, around_nil}

argument_shapes : (y : Argument) → (d : Option (List ℕ)) × (f : Tree) × (argument_view y ≡ shapes d f)
argument_shapes y = let e = fold_out-Argument Start Tree (Shapes → Shapes) before_step shape_step argument_step y in (_, _, e)

last_of : (d : Option (List ℕ)) (f : Tree) (rest : Shapes) (c : Option (List ℕ)) (e : Tree) → with_last (shapes d f rest) c e ≡ shapes d f (with_last rest c e)
unfolding with_last
last_of d f rest c e = refl

only_last : (c : Option (List ℕ)) (e : Tree) → with_last no_shapes c e ≡ shapes c e no_shapes
unfolding with_last
only_last c e = refl

-- one argument more, the last
pub args_append : (xs : List Argument) (x : Argument) (c : Option (List ℕ)) (e : Tree) → argument_view x ≡ shapes c e → args_view (xs ++ x ∷ []) ≡ with_last (args_view xs) c e
args_append [] x c e h = ap (λ f. f no_shapes) h ∙ sym (only_last c e)
args_append (y ∷ xs) x c e h =
    let s = argument_shapes y in
    ap (argument_view y) (args_append xs x c e h)
    ∙ ap (λ f. f (with_last (args_view xs) c e)) s.2
    ∙ sym (last_of s.0 s.1 (args_view xs) c e)
    ∙ sym (ap (λ f. with_last (f (args_view xs)) c e) s.2)

-- an argument that was made
pub argument_rolled : (c : Option (List ℕ)) (s : Shape) → argument_view (roll-Argument (record { cast = c; shape = s })) ≡ shapes c (shape_view s)
argument_rolled c s = fold-roll-Argument Start Tree (Shapes → Shapes) before_step shape_step argument_step (record { cast = c; shape = s })

pub with_last_by : (new old : List Argument) (x : Argument) (c : Option (List ℕ)) (e : Tree) → new ≡ old ++ x ∷ [] → argument_view x ≡ shapes c e → args_view new ≡ with_last (args_view old) c e
with_last_by new old x c e h f = ap args_view h ∙ args_append old x c e f

pub call_closes : (a : Around) (d : Option (List ℕ)) (b : Start) (t : List ℕ) (new old : Shapes) (c : Option (List ℕ)) (e : Tree) (k : ℕ) → new ≡ with_last old c e → argument_closed a d b t new k ≡ close (in_call a d b t old) c e k
unfolding close
call_closes a d b t new old c e k h = ap (λ x. argument_closed a d b t x k) h

pub close_none : (old : List Frame) (c : Option (List ℕ)) (e : Tree) (k : ℕ) → old ≡ [] → None ≡ close (around old) c e k
unfolding close
close_none old c e k h = sym (ap (λ a. close a c e k) (ap around h ∙ around_nil))

-- within one frame less
pub close_frame : (old new : List Frame) (f g : Frame) (c : Option (List ℕ)) (e : Tree) (k : ℕ) → old ≡ new ++ f ∷ [] → f ≡ g → close (around old) c e k ≡ close (framed g (around new)) c e k
close_frame old new f g c e k h s = ap (λ a. close a c e k) (ap around (h ∙ ap (λ x. new ++ x ∷ []) s) ∙ around_append new g)

pub close_body : (a : Around) (d : Option (List ℕ)) (s : List ℕ) (bs : List (List ℕ)) (c : Option (List ℕ)) (e f : Tree) (k : ℕ) → f ≡ lambda s bs c e → close (framed (Body d s bs) a) c e k ≡ close a d f k
unfolding close
close_body a d s bs c e f k h = ap (λ x. close a d x k) (sym h)

pub open_none : (old : List Frame) (c : Option (List ℕ)) (e : Tree) → old ≡ [] → Some e ≡ unwrapped (around old) c e
unfolding unwrapped
open_none old c e h = sym (ap (λ a. unwrapped a c e) (ap around h ∙ around_nil))

pub open_frame : (old new : List Frame) (f g : Frame) (c : Option (List ℕ)) (e : Tree) → old ≡ new ++ f ∷ [] → f ≡ g → unwrapped (around old) c e ≡ unwrapped (framed g (around new)) c e
open_frame old new f g c e h s = ap (λ a. unwrapped a c e) (ap around (h ∙ ap (λ x. new ++ x ∷ []) s) ∙ around_append new g)

pub open_body : (a : Around) (d : Option (List ℕ)) (s : List ℕ) (bs : List (List ℕ)) (c : Option (List ℕ)) (e f : Tree) → f ≡ lambda s bs c e → unwrapped (framed (Body d s bs) a) c e ≡ unwrapped a d f
unfolding unwrapped
open_body a d s bs c e f h = ap (λ x. unwrapped a d x) (sym h)

pub open_call : (a : Around) (d : Option (List ℕ)) (o : OpenCall) (c : Option (List ℕ)) (e : Tree) → None ≡ unwrapped (framed (Call d o) a) c e
unfolding unwrapped
open_call a d o c e = refl

pub open_group : (a : Around) (d : Option (List ℕ)) (c : Option (List ℕ)) (e : Tree) → None ≡ unwrapped (framed (Group d) a) c e
unfolding unwrapped
open_group a d c e = refl

pub along : {E : Type 0} (r : Result (Option Spot) E) (a : Around) (x y : Option Part) → x ≡ y → IfOk r (λ s. spot_option a s ≡ x) → IfOk r (λ s. spot_option a s ≡ y)
along (Ok s) a x y e h = h ∙ e
along (Err f) a x y e h = h

pub group_then : (a : Around) (d c : Option (List ℕ)) (e : Tree) (k : ℕ) → k ≡ 41 → grouped a d c e ≡ close (in_group a d) c e k
unfolding close
group_then a d c e k h = sym (ap (λ x. if x then grouped a d c e else None) (eq-eqb k 41 h))

pub group_else : (a : Around) (d c : Option (List ℕ)) (e : Tree) (k : ℕ) → (k ≡ 41 → ⊥) → None ≡ close (in_group a d) c e k
unfolding close
group_else a d c e k h = sym (ap (λ x. if x then grouped a d c e else None) (ne_eqb k 41 h))

pub grouped_some : (a : Around) (d c : Option (List ℕ)) (e : Tree) → needs_brackets c e ≡ true → Some (due 46 (later a d (in_brackets c e) [] [])) ≡ grouped a d c e
grouped_some a d (Some t) e h = refl
grouped_some a d None (named b t) h = absurd (false≢true h)
grouped_some a d None (called b t xs) h = absurd (false≢true h)
grouped_some a d None (lambda s bs c e) h = refl

pub grouped_none : (a : Around) (d c : Option (List ℕ)) (e : Tree) → needs_brackets c e ≡ false → None ≡ grouped a d c e
grouped_none a d (Some t) e h = absurd (false≢true (sym h))
grouped_none a d None (named b t) h = refl
grouped_none a d None (called b t xs) h = refl
grouped_none a d None (lambda s bs c e) h = absurd (false≢true (sym h))

pub along_shape : {E : Type 0} (r : Result (Option Shape) E) (x y : Option Tree) → x ≡ y → IfOk r (λ s. shape_option s ≡ x) → IfOk r (λ s. shape_option s ≡ y)
along_shape (Ok s) x y e h = h ∙ e
along_shape (Err f) x y e h = h

pub name_then : (a : Around) (c : Option (List ℕ)) (w : List ℕ) (r : Bool) → r ≡ begins_name w → r ≡ true → unwrapped a c (named nothing w) ≡ ended (first a c w)
name_then a c w r e h = sym (ap (λ b. if b then unwrapped a c (named nothing w) else None) (sym e ∙ h))

pub name_else : (a : Around) (c : Option (List ℕ)) (w : List ℕ) (r : Bool) → r ≡ begins_name w → r ≡ false → None ≡ ended (first a c w)
name_else a c w r e h = sym (ap (λ b. if b then unwrapped a c (named nothing w) else None) (sym e ∙ h))

pub path_then : (a : Around) (c : Option (List ℕ)) (b : Start) (done w : List ℕ) (r : Bool) → r ≡ (spells_identifier w && not (is_fresh b)) → r ≡ true → unwrapped a c (named b (done ++ w)) ≡ ended (later a c b done w)
path_then a c b done w r e h = sym (ap (λ x. if x then unwrapped a c (named b (done ++ w)) else None) (sym e ∙ h))

pub path_else : (a : Around) (c : Option (List ℕ)) (b : Start) (done w : List ℕ) (r : Bool) → r ≡ (spells_identifier w && not (is_fresh b)) → r ≡ false → None ≡ ended (later a c b done w)
path_else a c b done w r e h = sym (ap (λ x. if x then unwrapped a c (named b (done ++ w)) else None) (sym e ∙ h))

-- The code's shapes and frames, as the definitions see them.
use Rattle.std.specs.Prelude.{ℕ, Bool, true, false, ◌==◌, if◌then◌else◌, List, [], ◌∷◌, map, Option, Some, None}
use Rattle.java_shapes.specs.Shape.{Shape as Tree, Before as Start, named, called, lambda, nothing, fresh, behind, in_brackets, Shapes, no_shapes, shapes}
use Rattle.java_shapes.specs.Reader.{Around, top, in_call, in_body, in_group, Part, first, later, opened, typing, sized, either, either_opened, either_word, either_closed, binders_opened, in_binder, call_opened, call_closed, due, start}
use Rattle.java_resolve.specs.declared.shape.Shape.{Shape}
use Rattle.java_resolve.specs.declared.shape.Before.{Before, fold-Before}
use Rattle.java_resolve.specs.declared.shape.Before.TheOpen.{Shape-F, Before-F, Argument-F}
use Rattle.java_resolve.specs.declared.shape.Before.TheFolds.{fold-Shape, fold-Argument}
use Rattle.java_resolve.specs.declared.shape.Argument.{Argument}
use Rattle.java_resolve.specs.declared.place.Frame.{Frame}
use Rattle.java_resolve.specs.declared.place.Frame.TheVariants.{Call, Body, Group}
use Rattle.java_resolve.specs.declared.place.Place.{Place}
use Rattle.java_resolve.specs.declared.place.Place.TheVariants as place
use Rattle.java_resolve.specs.declared.place.Spot.{Spot}

-- arguments that each put themselves before the rest
abbrev pub args_of : List (Shapes → Shapes) → Shapes
args_of [] = no_shapes
args_of (a ∷ more) = a (args_of more)

-- one constructor of an expression
abbrev pub shape_step : Shape-F Start Tree (Shapes → Shapes) → Tree
shape_step (Shape-F.Named b t) = named b t
shape_step (Shape-F.Called b t xs depth) = called b t (args_of xs)
shape_step (Shape-F.Lambda s binders c e depth) = lambda s binders c e

-- one constructor of what stands before a name
abbrev pub before_step : Before-F Start Tree (Shapes → Shapes) → Start
before_step Before-F.Nothing = nothing
before_step Before-F.Fresh = fresh
before_step (Before-F.Behind b t xs depth) = behind b t (args_of xs)
before_step (Before-F.InBrackets c e depth) = in_brackets c e

-- an argument, before the rest
abbrev pub argument_step : Argument-F Start Tree (Shapes → Shapes) → Shapes → Shapes
argument_step a = shapes a.cast a.shape

-- the expression that a shape is
abbrev pub shape_view : Shape → Tree
shape_view = fold-Shape Start Tree (Shapes → Shapes) before_step shape_step argument_step

-- what stands before a name
abbrev pub before_view : Before → Start
before_view = fold-Before Start Tree (Shapes → Shapes) before_step shape_step argument_step

-- an argument, before the rest
abbrev pub argument_view : Argument → Shapes → Shapes
argument_view = fold-Argument Start Tree (Shapes → Shapes) before_step shape_step argument_step

-- the arguments that a list of them is
abbrev pub args_view : List Argument → Shapes
args_view xs = args_of (map argument_view xs)

-- what a frame puts around what stands around it
abbrev pub framed : Frame → Around → Around
framed (Call c o) a = in_call a c (before_view o.before) o.name (args_view o.args)
framed (Body c s binders) a = in_body a c s binders
framed (Group c) a = in_group a c

-- what stands around a place within these frames, outermost first
unfoldable pub around_in : Around → List Frame → Around
around_in a [] = a
around_in a (f ∷ more) = around_in (framed f a) more

abbrev pub around : List Frame → Around
around fs = around_in top fs

-- the place, within what stands around it and behind a cast
abbrev pub place_part : Around → Option (List ℕ) → Place → Part
place_part a c (place.First w) = first a c w
place_part a c (place.Later t) = later a c (before_view t.before) t.done t.word
place_part a c place.Opened = opened a c
place_part a c (place.Typing t) = typing a c t.done t.word
place_part a c (place.Sized t) = sized a t
place_part a c (place.Either s) = either a s
place_part a c (place.EitherOpened s) = either_opened a s
place_part a c (place.EitherWord s w) = either_word a s w
place_part a c (place.EitherClosed s w) = either_closed a s w
place_part a c (place.BindersOpened s) = binders_opened a c s
place_part a c (place.InBinder t) = in_binder a c t.interface t.done t.word
place_part a c (place.CallOpened b t) = call_opened a c (before_view b) t
place_part a c (place.CallClosed o) = call_closed a c (before_view o.before) o.name (args_view o.args)

-- these characters are due before the place
abbrev pub due_all : List ℕ → Part → Part
due_all [] q = q
due_all (k ∷ ks) q = due k (due_all ks q)

-- where the reader is, within what stands around it
abbrev pub spot_part : Around → Spot → Part
spot_part a s = due_all s.due.now (place_part a s.cast s.place)

abbrev pub spot_option : Around → Option Spot → Option Part
spot_option a None = None
spot_option a (Some s) = Some (spot_part a s)

-- the expression, where there is one
abbrev pub shape_option : Option Shape → Option Tree
shape_option None = None
shape_option (Some s) = Some (shape_view s)

-- whether a receiver stands in brackets: where it has a cast or is a lambda
abbrev pub needs_brackets : Option (List ℕ) → Tree → Bool
needs_brackets (Some t) e = true
needs_brackets None (named b t) = false
needs_brackets None (called b t args) = false
needs_brackets None (lambda s binders c e) = true

-- behind an argument of a call, the last one so far
abbrev pub argument_closed : Around → Option (List ℕ) → Start → List ℕ → Shapes → ℕ → Option Part
argument_closed a c b t args k = if k == 41 then Some (call_closed a c b t args) else if k == 44 then Some (due 32 (start (in_call a c b t args) None)) else None

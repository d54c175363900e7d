use Rattle.std.proofs.Common.{◌≡◌, ℕ, ◌+◌, ◌*◌, List, [], ◌∷◌, ◌++◌, map, drop, chars, IsUtf8}
use Rattle.terms.specs.Typing.{rows}
use Rattle.java_shapes.specs.Grammar.{IsShape, AreShapes}
use Rattle.java_shapes.specs.Readable.{IsContext}
use Rattle.java_resolve.specs.Found.{Row, Spot}
use Rattle.java_resolve.specs.Index.{bucket}
use Rattle.java_resolve.specs.Lambdas.{AreLambdas}
use Rattle.java_resolve.specs.Reading.{AreSpots, IsSet}
use Rattle.java_resolve.specs.Trees.{row_view, place_view}
use Rattle.java_resolve.specs.View.{shape_view, before_view, args_view}
use Rattle.java_resolve.proofs.Sizes.{size, size_before, sizes}
use Rattle.java_resolve.proofs.readings.+reading.Given as goal

abbrev pub invariant-places_of-loop-i : goal.invariant-places_of-loop-i
invariant-places_of-loop-i l =
    IsSet l.setting.env.now l.setting.index.now → IsContext (rows l.setting.ctx) → AreShapes (chars l.setting.env.now.binder) (args_view l.args)
    → (ps : List Spot) → AreSpots l.setting.env.now (rows l.setting.ctx) (args_view (drop l.i l.args)) ps → AreSpots l.setting.env.now (rows l.setting.ctx) (args_view l.args) (map place_view l.places ++ ps)

abbrev pub invariant-lambda_rows-loop-i : goal.invariant-lambda_rows-loop-i
invariant-lambda_rows-loop-i l =
    (name : List ℕ) → IsSet l.setting.env.now l.setting.index.now → IsContext (rows l.setting.ctx) → IsShape (chars l.setting.env.now.binder) (shape_view l.body) → IsUtf8 name → l.numbers ≡ bucket l.setting.index.now name
    → (r : Row) → AreLambdas l.setting.env.now (rows l.setting.ctx) (drop l.i l.numbers) l.binders l.cast (shape_view l.body) r → AreLambdas l.setting.env.now (rows l.setting.ctx) l.numbers l.binders l.cast (shape_view l.body) (row_view l.row ++ r)

abbrev pub decreases-shape_row : goal.decreases-shape_row
decreases-shape_row l = 8 * size (shape_view l.shape.now)

abbrev pub decreases-named_row : goal.decreases-named_row
decreases-named_row l = 8 * size_before (before_view l.before.now) + 2

abbrev pub decreases-called_row : goal.decreases-called_row
decreases-called_row l = 8 * (size_before (before_view l.before.now) + sizes (args_view l.args.now)) + 6

abbrev pub decreases-start_of : goal.decreases-start_of
decreases-start_of l = 8 * size_before (before_view l.before.now) + 1

abbrev pub decreases-place_of : goal.decreases-place_of
decreases-place_of l = 8 * size (shape_view l.shape.now) + 1

abbrev pub decreases-places_of : goal.decreases-places_of
decreases-places_of l = 8 * sizes (args_view l.args.now) + 3

abbrev pub decreases-argument_place : goal.decreases-argument_place
decreases-argument_place l = 8 * sizes (args_view (l.arg.now ∷ [])) + 2

abbrev pub decreases-lambda_rows : goal.decreases-lambda_rows
decreases-lambda_rows l = 8 * size (shape_view l.body.now) + 4

abbrev pub decreases-lambda_row : goal.decreases-lambda_row
decreases-lambda_row l = 8 * size (shape_view l.body.now) + 3

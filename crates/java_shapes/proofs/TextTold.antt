-- Where declarations are told apart, so are well typed terms by their texts.
use Rattle.std.proofs.Common.{◌≡◌, ◌≢◌, ◌∙◌, sym, ℕ, ◌&&◌, nat_le, List, [], None, chars, arith}
use Rattle.std.proofs.lemmas.Bool.{and_parts}
use Rattle.std.proofs.lemmas.Str.{encodes_same}
use Rattle.terms.specs.Expr.{Expr}
use Rattle.terms.specs.Typing.{type_in, some_below}
use Rattle.terms.specs.Faults.{IsValid}
use Rattle.terms.specs.Place.{fits_place, shallow, total_of, IsInhabitant}
use Rattle.terms.specs.Text.{text_in}
use Rattle.terms.specs.declared.parts.Parts.{Parts}
use Rattle.java_shapes.specs.Shape.{shown}
use Rattle.java_shapes.specs.ShapeOf.{shape_in}
use Rattle.java_shapes.specs.Readable.{IsApart, HasShortRows, IsContext}
use Rattle.java_shapes.proofs.Typed.{below_typed}
use Rattle.java_shapes.proofs.TextLaw.{text_seen}
use Rattle.java_shapes.proofs.Shaped.{term_shaped}
use Rattle.java_shapes.proofs.ToldTerms.{told}
use Rattle.java_shapes.proofs.Runs.{one_shape}

pub text_told : (g : Parts) → IsValid g → IsApart g → HasShortRows g → (ctx : List (List ℕ)) → IsContext ctx → (e f : Expr) → type_in g ctx e ≢ None → type_in g ctx f ≢ None → text_in g ctx e ≡ text_in g ctx f → e ≡ f
text_told g valid apart short ctx context e f te tf same =
    let a = text_seen g valid apart.readable short e ctx context te in
    let b = text_seen g valid apart.readable short f ctx context tf in
    let shapes = one_shape (chars g.binder) apart.readable.binder (shape_in g ctx e) (shape_in g ctx f)
    (term_shaped g valid apart.readable short e ctx context te) (term_shaped g valid apart.readable short f ctx context tf)
    (encodes_same (shown (shape_in g ctx e)) (shown (shape_in g ctx f)) (sym a ∙ same ∙ b)) in
    told g valid apart.readable short apart.told e f ctx context te tf shapes

no_rows : IsContext []
no_rows = record { few = omega arith; short = tt }

inhabitant_typed : (g : Parts) (e : Expr) → IsInhabitant g e → type_in g [] e ≢ None
unfolding fits_place
inhabitant_typed g e h =
    let place = and_parts (some_below g (type_in g [] e) g.goal && shallow g.depth e) (nat_le (total_of g e) g.limit) h in
    below_typed g (type_in g [] e) g.goal (and_parts (some_below g (type_in g [] e) g.goal) (shallow g.depth e) place.0).0

pub inhabitants_told : (g : Parts) → IsValid g → IsApart g → HasShortRows g → (e f : Expr) → IsInhabitant g e → IsInhabitant g f → text_in g [] e ≡ text_in g [] f → e ≡ f
inhabitants_told g valid apart short e f he hf same = text_told g valid apart short [] no_rows e f (inhabitant_typed g e he) (inhabitant_typed g f hf) same

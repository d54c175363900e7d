-- Terms that have a text, by its shape.
use Rattle.std.proofs.Common.{◌≡◌, ◌≢◌, ◌∙◌, ap, sym, refl, arith, ℕ, List, [], Option, Some, None, true, false, chars, encode_utf8_all, IsUtf8}
use Rattle.std.proofs.lemmas.Bool.{and_parts}
use Rattle.std.proofs.lemmas.Str.{chars_from_encodes, encodes-chars}
use Rattle.terms.specs.Expr.{Expr}
use Rattle.terms.specs.Typing.{type_in, some_below, is_below}
use Rattle.terms.specs.Text.{text_of}
use Rattle.terms.specs.Faults.{IsValid}
use Rattle.terms.specs.declared.parts.Parts.{Parts}
use Rattle.java_shapes.specs.Shape.{Shape, shown}
use Rattle.java_shapes.specs.Grammar.{IsShape}
use Rattle.java_shapes.specs.ShapeOf.{shape_in, cast_shape}
use Rattle.java_shapes.specs.Readable.{IsReadable, IsApart, HasShortRows, IsContext}
use Rattle.java_shapes.proofs.Typed.{below_typed}
use Rattle.java_shapes.proofs.WordFacts.{and_both}
use Rattle.java_shapes.proofs.Runs.{one_shape}
use Rattle.java_shapes.proofs.TextLaw.{text_seen}
use Rattle.java_shapes.proofs.Shaped.{term_shaped}
use Rattle.java_shapes.proofs.TextTold.{text_told}
use Rattle.java_resolve.specs.Found.{IsFound, Row, pick, suits, same_cast}
use Rattle.java_resolve.specs.Reading.{some_kind, Typed, IsRow, IsTellable, IsReading}
use Rattle.java_resolve.proofs.Algebra.{alike}

pub no_rows : IsContext []
no_rows = record { few = omega arith; short = tt }

-- a well typed term with a text has the text's shape, and the other way round
pub shape_of_text : (g : Parts) (e : Expr) (s : Shape) (text : List ℕ) → IsValid g → IsReadable g → HasShortRows g → type_in g [] e ≢ None → IsUtf8 text → IsShape (chars g.binder) s → shown s ≡ chars text → text_of g e ≡ text → shape_in g [] e ≡ s
shape_of_text g e s text valid readable short typed u w is h =
    let seen = text_seen g valid readable short e [] no_rows typed in
    let same : shown (shape_in g [] e) ≡ chars text = chars_from_encodes (shown (shape_in g [] e)) text u (sym seen ∙ h) in
    one_shape (chars g.binder) readable.binder (shape_in g [] e) s (term_shaped g valid readable short e [] no_rows typed) w (same ∙ sym is)

pub text_of_shape : (g : Parts) (e : Expr) (s : Shape) (text : List ℕ) → IsValid g → IsReadable g → HasShortRows g → type_in g [] e ≢ None → IsUtf8 text → shown s ≡ chars text → shape_in g [] e ≡ s → text_of g e ≡ text
text_of_shape g e s text valid readable short typed u is h =
    text_seen g valid readable short e [] no_rows typed
    ∙ ap (λ x. encode_utf8_all (shown x)) h
    ∙ ap encode_utf8_all is
    ∙ encodes-chars text u

-- at the goal no cast is printed
goal_suits : (g : Parts) (t : Option ℕ) → some_below g t g.goal ≡ true → some_kind (suits g false None g.goal) t ≡ true
unfolding suits
goal_suits g None h = h
goal_suits g (Some a) h = and_both (is_below g a g.goal) true h refl

suits_goal : (g : Parts) (t : Option ℕ) → some_kind (suits g false None g.goal) t ≡ true → some_below g t g.goal ≡ true
unfolding suits
suits_goal g None h = h
suits_goal g (Some a) h = (and_parts (is_below g a g.goal) (same_cast (cast_shape g false (Some a) g.goal) None) h).0

-- what is found for the shape of a text is what is found for the text
pub readings_found : (g : Parts) → IsTellable g → (s : Shape) (text : List ℕ) → IsUtf8 text → IsShape (chars g.binder) s → shown s ≡ chars text → (row : Row) → IsRow g [] s row → IsFound (IsReading g text) (pick (suits g false None g.goal) row)
readings_found g good s text u w is row r =
    alike (Typed g [] s (suits g false None g.goal)) (IsReading g text) (pick (suits g false None g.goal) row)
    (λ e h.
    let below = suits_goal g (type_in g [] e) h.kind in
    record { typed = below; text_is = text_of_shape g e s text good.valid good.readable good.short (below_typed g (type_in g [] e) g.goal below) u is h.shape })
    (λ e h. record { kind = goal_suits g (type_in g [] e) h.typed; shape = shape_of_text g e s text good.valid good.readable good.short (below_typed g (type_in g [] e) g.goal h.typed) u w is h.text_is })
    (r (suits g false None g.goal))

-- where texts tell terms apart, no text is that of two
pub one_reading : (g : Parts) → IsValid g → IsApart g → HasShortRows g → (text : List ℕ) (e f : Expr) → IsReading g text e → IsReading g text f → e ≡ f
one_reading g valid apart short text e f h k =
    text_told g valid apart short [] no_rows e f (below_typed g (type_in g [] e) g.goal h.typed) (below_typed g (type_in g [] f) g.goal k.typed) (h.text_is ∙ sym k.text_is)

-- Inhabitants' own texts, and texts in environments that tell terms apart.
use Rattle.std.proofs.Common.{◌≡◌, ◌≢◌, sym, refl, arith, ℕ, ◌&&◌, true, nat_le, List, [], None, IsUtf8, length}
use Rattle.std.proofs.lemmas.Bool.{and_parts}
use Rattle.std.proofs.lemmas.Str.{chars_from_encodes}
use Rattle.terms.specs.Expr.{Expr}
use Rattle.terms.specs.Typing.{type_in, some_below, joined}
use Rattle.terms.specs.Text.{text_of}
use Rattle.terms.specs.Faults.{IsValid}
use Rattle.terms.specs.Place.{IsInhabitant, fits_place, shallow, total_of}
use Rattle.terms.specs.declared.parts.Parts.{Parts}
use Rattle.java_shapes.specs.Shape.{shown}
use Rattle.java_shapes.specs.ShapeOf.{shape_in}
use Rattle.java_shapes.specs.Readable.{IsReadable, IsApart, HasShortRows}
use Rattle.java_shapes.proofs.Typed.{below_typed}
use Rattle.java_shapes.proofs.Shaped.{term_shaped}
use Rattle.java_shapes.proofs.TextLaw.{text_seen}
use Rattle.java_resolve.specs.Reading.{IsReading}
use Rattle.java_resolve.specs.Resolved.{IsKnownText, ResolvesTo, IsFaultOf}
use Rattle.java_resolve.specs.declared.fault.TextFault.TheVariants as fault
use Rattle.java_resolve.proofs.KnownTexts.{Binds, term_known}
use Rattle.java_resolve.proofs.ReadingLaw.{no_rows, one_reading}

no_variables : (g : Parts) → Binds g [] (length (joined []))
unfolding joined
no_variables g = λ n l. absurd (omega (arith, l))

pub text_known : (g : Parts) (e : Expr) → IsValid g → IsReadable g → HasShortRows g → type_in g [] e ≢ None → IsUtf8 (text_of g e) → IsKnownText g (text_of g e)
text_known g e valid readable short typed u = record {
  shape = shape_in g [] e;
  well_formed = term_shaped g valid readable short e [] no_rows typed;
  is = chars_from_encodes (shown (shape_in g [] e)) (text_of g e) u (sym (text_seen g valid readable short e [] no_rows typed));
  known = term_known g valid readable short e [] no_rows typed [] (no_variables g);
}

inhabitant_below : (g : Parts) (e : Expr) → IsInhabitant g e → some_below g (type_in g [] e) g.goal ≡ true
unfolding fits_place
inhabitant_below g e h =
    let place = and_parts (some_below g (type_in g [] e) g.goal && shallow g.depth e) (nat_le (total_of g e) g.limit) h in
    (and_parts (some_below g (type_in g [] e) g.goal) (shallow g.depth e) place.0).0

pub own_text : (g : Parts) (e : Expr) → IsValid g → IsApart g → HasShortRows g → IsInhabitant g e → IsUtf8 (text_of g e) → ResolvesTo g (text_of g e) e
own_text g e valid apart short h u =
    let below = inhabitant_below g e h in
    let reading : IsReading g (text_of g e) e = record { typed = below; text_is = refl } in
    record {
      known = text_known g e valid apart.readable short (below_typed g (type_in g [] e) g.goal below) u;
      reading = reading;
      only = λ f k. one_reading g valid apart short (text_of g e) f e k reading;
    }

pub never_two : (g : Parts) (text : List ℕ) → IsValid g → IsApart g → HasShortRows g → IsFaultOf g text fault.TwoWays → ⊥
never_two g text valid apart short h =
    let two = h.1 in
    two.differ (one_reading g valid apart short text two.first two.second two.is_first two.is_second)

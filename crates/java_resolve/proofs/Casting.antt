-- Casts that are read, against casts that are printed.
use Rattle.std.proofs.Common.{◌≡◌, ◌∙◌, ap, sym, refl, ℕ, ◌&&◌, Bool, true, false, List, [], ◌∷◌, Option, Some, None, chars, IsUtf8, bytes_eq, if◌then◌else◌}
use Rattle.std.specs.Option.{option_map}
use Rattle.std.proofs.lemmas.Bool.{false≢true}
use Rattle.terms.specs.Text.{type_text, differs}
use Rattle.terms.specs.declared.parts.Parts.{Parts}
use Rattle.java_units.specs.Signs.{has}
use Rattle.java_shapes.specs.ShapeOf.{cast_shape}
use Rattle.java_shapes.proofs.Told.{same_bytes}
use Rattle.java_resolve.specs.Found.{same_cast}
use Rattle.java_resolve.proofs.WordTests.{one_or}
use Rattle.java_resolve.proofs.Keys.{bytes_self, bytes_is}

pub chars_test : (t b : List ℕ) → IsUtf8 t → IsUtf8 b → (x y : Bool) → bytes_eq t b ≡ x → bytes_eq (chars t) (chars b) ≡ y → x ≡ y
chars_test t b u v true true e f = refl
chars_test t b u v false false e f = refl
chars_test t b u v true false e f = let w = bytes_is t b e in absurd (false≢true (sym f ∙ ap (λ z. bytes_eq (chars t) (chars z)) (sym w) ∙ bytes_self (chars t)))
chars_test t b u v false true e f = let w = same_bytes t b u v (bytes_is (chars t) (chars b) f) in absurd (false≢true (sym e ∙ ap (bytes_eq t) (sym w) ∙ bytes_self t))

has_test : (a w : List ℕ) → has (a ∷ []) w ≡ bytes_eq a w
unfolding has
has_test a w = one_or (bytes_eq a w)

printed : (g : Parts) (crowded : Bool) (kind wanted : ℕ) → (crowded && differs (Some kind) wanted) ≡ true → cast_shape g crowded (Some kind) wanted ≡ Some (chars (type_text g wanted))
printed g crowded kind wanted e = ap (λ x. option_map chars (if x then Some (type_text g wanted) else None)) e

pub cast_test : (g : Parts) (crowded : Bool) (kind wanted : ℕ) (cast : Option (List ℕ)) (w t b : List ℕ) (p r : Bool) → cast ≡ Some w → p ≡ true → p ≡ (crowded && differs (Some kind) wanted) → t ≡ type_text g wanted → IsUtf8 t → IsUtf8 b → chars b ≡ w → r ≡ bytes_eq t b → r ≡ same_cast (cast_shape g crowded (Some kind) wanted) cast
cast_test g crowded kind wanted cast w t b p r c e q s u v k h =
    h ∙ chars_test t b u v (bytes_eq t b) (bytes_eq (chars t) (chars b)) refl refl
    ∙ ap (bytes_eq (chars t)) k ∙ sym (has_test (chars t) w)
    ∙ ap (λ z. has (chars z ∷ []) w) s
    ∙ sym (ap (λ x. same_cast x (Some w)) (printed g crowded kind wanted (sym q ∙ e))) ∙ sym (ap (same_cast (cast_shape g crowded (Some kind) wanted)) c)

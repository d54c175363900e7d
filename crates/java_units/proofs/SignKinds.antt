-- What one sign at the front says that it is not.
use Rattle.std.proofs.Common.{◌≡◌, ap, ℕ, Bool, true, false, ◌&&◌, if◌then◌else◌, List, ◌∷◌, refl, codes}
use Rattle.std.specs.Prelude.{bytes_eq}
use Rattle.std.proofs.lemmas.Slice.Eq.{bytes_eq-Decides}
use Rattle.java_units.specs.Signs.{Sign, is, has, reserved}
use Rattle.java_units.specs.Forms.{begins, begins_name, primitives, name_tail, dim_len}
use Rattle.java_units.specs.Identifiers.{is_identifier, is_ascii_identifier}
use Rattle.java_units.proofs.IdentifierLaws.{ascii_identifiers}

abbrev pub IsNamed : Sign → Type 0
IsNamed s = s.is_name ≡ true → is_identifier s.text ≡ true

-- an identifier has no text of these

named_if : (b : Bool) (w : List ℕ) (s : Sign) → is_identifier w ≡ false → is_identifier s.text ≡ true → bytes_eq w s.text ≡ b → b ≡ false
named_if false w s e h k = refl
named_if true w s e h k = let same = ap is_identifier ((bytes_eq-Decides w s.text).0 k) in absurd (cc)

pub named_not : (w : List ℕ) (s : Sign) → is_identifier w ≡ false → IsNamed s → s.is_name ≡ true → is w s ≡ false
unfolding is
named_not w s e f n = named_if (bytes_eq w s.text) w s e (f n) refl

unnamed_if : (b : Bool) (w : List ℕ) (s : Sign) → is_identifier w ≡ false → IsNamed s → is w s ≡ true → s.is_name ≡ b → b ≡ false
unnamed_if false w s e f h k = refl
unnamed_if true w s e f h k = let no = named_not w s e f k in absurd (cc)

-- a sign of such a text is no identifier
pub unnamed : (w : List ℕ) (s : Sign) → is_identifier w ≡ false → IsNamed s → is w s ≡ true → s.is_name ≡ false
unnamed w s e f h = unnamed_if s.is_name w s e f h refl

primitive_if : (b : Bool) (w : List ℕ) (s : Sign) → has primitives w ≡ false → has primitives s.text ≡ true → bytes_eq w s.text ≡ b → b ≡ false
primitive_if false w s e h k = refl
primitive_if true w s e h k = let same = ap (has primitives) ((bytes_eq-Decides w s.text).0 k) in absurd (cc)

pub primitive_not : (w : List ℕ) (s : Sign) → has primitives w ≡ false → has primitives s.text ≡ true → is w s ≡ false
unfolding is
primitive_not w s e h = primitive_if (bytes_eq w s.text) w s e h refl

pub no_identifier-at : is_identifier (codes "@") ≡ false
unfolding is_ascii_identifier has reserved
no_identifier-at = ascii_identifiers (codes "@") refl

pub no_identifier-round : is_identifier (codes "(") ≡ false
unfolding is_ascii_identifier has reserved
no_identifier-round = ascii_identifiers (codes "(") refl

pub no_identifier-angle : is_identifier (codes "<") ≡ false
unfolding is_ascii_identifier has reserved
no_identifier-angle = ascii_identifiers (codes "<") refl

pub no_identifier-square : is_identifier (codes "[") ≡ false
unfolding is_ascii_identifier has reserved
no_identifier-square = ascii_identifiers (codes "[") refl

pub no_identifier-dot : is_identifier (codes ".") ≡ false
unfolding is_ascii_identifier has reserved
no_identifier-dot = ascii_identifiers (codes ".") refl

pub no_identifier-final : is_identifier (codes "final") ≡ false
unfolding is_ascii_identifier has reserved
no_identifier-final = ascii_identifiers (codes "final") refl

pub no_identifier-this : is_identifier (codes "this") ≡ false
unfolding is_ascii_identifier has reserved
no_identifier-this = ascii_identifiers (codes "this") refl

pub no_primitive-at : has primitives (codes "@") ≡ false
unfolding has
no_primitive-at = refl

pub no_primitive-round : has primitives (codes "(") ≡ false
unfolding has
no_primitive-round = refl

pub no_primitive-dot : has primitives (codes ".") ≡ false
unfolding has
no_primitive-dot = refl

pub no_primitive-final : has primitives (codes "final") ≡ false
unfolding has
no_primitive-final = refl

pub no_identifier-close : is_identifier (codes ">") ≡ false
unfolding is_ascii_identifier has reserved
no_identifier-close = ascii_identifiers (codes ">") refl

pub no_identifier-end : is_identifier (codes ")") ≡ false
unfolding is_ascii_identifier has reserved
no_identifier-end = ascii_identifiers (codes ")") refl

pub no_primitive-angle : has primitives (codes "<") ≡ false
unfolding has
no_primitive-angle = refl

pub no_primitive-close : has primitives (codes ">") ≡ false
unfolding has
no_primitive-close = refl

pub no_primitive-end : has primitives (codes ")") ≡ false
unfolding has
no_primitive-end = refl

-- what the prefix of the signs says

pub begins_not : (w : List ℕ) (s : Sign) (ss : List Sign) → is w s ≡ false → begins w (s ∷ ss) ≡ false
unfolding begins
begins_not w s ss e = e

pub begins_so : (w : List ℕ) (s : Sign) (ss : List Sign) → is w s ≡ true → begins w (s ∷ ss) ≡ true
unfolding begins
begins_so w s ss e = e

pub name_begins : (s : Sign) (ss : List Sign) → s.is_name ≡ true → begins_name (s ∷ ss) ≡ true
unfolding begins_name
name_begins s ss e = e

pub no_name_tail : (ss : List Sign) → begins (codes ".") ss ≡ false → name_tail ss ≡ 0
unfolding name_tail
no_name_tail ss e = rw (e) refl

none_if : (a b : Bool) → b ≡ false → ◌≡◌ {A = ℕ} (if a && b then 2 else 0) 0
none_if true b e = rw (e) refl
none_if false b e = refl

-- a dot without an identifier behind it goes no further
pub dot_alone : (s t : Sign) (ss : List Sign) → t.is_name ≡ false → name_tail (s ∷ t ∷ ss) ≡ 0
unfolding name_tail begins begins_name
dot_alone s t ss e = none_if (is (codes ".") s) t.is_name e

pub no_dim : (ss : List Sign) → begins (codes "[") ss ≡ false → dim_len ss ≡ 0
unfolding dim_len
no_dim ss e = rw (e) refl

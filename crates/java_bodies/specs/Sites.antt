-- Holes in a source text.
use Rattle.std.specs.Prelude.{ℕ, Bool, ◌==◌, bit_and, List, take, drop, length, slice_get, if◌then◌else◌, Option, Some, None}
use Rattle.java_tokens.specs.declared.token.Token.{Token}
use Rattle.java_units.specs.Signs.{Sign, signs_of}
use Rattle.java_units.specs.declared.types.TypeText.{TypeText}
use Rattle.java_units.specs.declared.types.SourceMethod.{SourceMethod}
use Rattle.java_units.specs.declared.types.SourceClass.{SourceClass}
use Rattle.java_units.specs.declared.types.Unit as unit
use Rattle.java_bodies.specs.Bodies.{BodySigns}
use Rattle.java_bodies.specs.Blocks.{is_in_blocks}
use Rattle.java_bodies.specs.Statements.{own_statement}
use Rattle.java_bodies.specs.Scopes.{variables_of, names_of}
use Rattle.java_bodies.specs.Wanted.{wanted}
use Rattle.java_bodies.specs.Places.{touched, is_free, prefix_start, passed}
use Rattle.java_bodies.specs.Methods.{signs_before, signs_from, method_at}
use Rattle.java_bodies.specs.declared.methods.MethodPlace.{MethodPlace}
use Rattle.java_bodies.specs.declared.names.Names.{Names}
use Rattle.java_bodies.specs.declared.site.Sight.{Sight}
use Rattle.java_bodies.specs.declared.site.HoleSite.{HoleSite}

-- The signs behind the `{` of this number, where the hole stands behind so many tokens.
abbrev pub cut : ℕ → List Sign → BodySigns
cut passed ss = record { before = take (signs_before passed ss) ss; whole = ss }

unfoldable pub body_signs : ℕ → List Sign → ℕ → BodySigns
body_signs passed ss number = cut passed (drop 1 (signs_from number ss))

abbrev pub sighted : Names → Option TypeText → Option Sight
sighted names None = None
sighted names (Some kind) = Some (record { wanted = kind; names = names })

abbrev pub sight_by : SourceClass → SourceMethod → List Sign → Names → Option Sight
sight_by c m own names = sighted names (wanted own c m names)

-- What a hole in a body asks for and which names are in its scope: none where it stands in no block of
-- statements, or where no value is asked for.
unfoldable pub sight_in : SourceClass → SourceMethod → BodySigns → Option Sight
sight_in c m b = if is_in_blocks b.before then sight_by c m (own_statement b.before) (names_of (variables_of m.params b)) else None

-- STATIC among access flags (JVMS 4.6).
abbrev pub is_static : ℕ → Bool
is_static flags = bit_and flags 0x0008 == 0x0008

abbrev pub site_by : MethodPlace → Bool → ℕ × ℕ → Option Sight → Option HoleSite
site_by at static prefix None = None
site_by at static prefix (Some s) = Some (record {
  wanted = s.wanted;
  class = at.class;
  method = at.method;
  is_static = static;
  locals = s.names.locals;
  hidden = s.names.hidden;
  prefix = prefix;
})

abbrev pub in_body : ℕ → List Sign → ℕ × ℕ → MethodPlace → SourceClass → SourceMethod → Option (ℕ × ℕ) → Option HoleSite
in_body passed ss prefix at c m None = None
in_body passed ss prefix at c m (Some body) = site_by at (is_static m.flags) prefix (sight_in c m (body_signs passed ss body.0))

abbrev pub in_method : ℕ → List Sign → ℕ × ℕ → MethodPlace → SourceClass → Option SourceMethod → Option HoleSite
in_method passed ss prefix at c None = None
in_method passed ss prefix at c (Some m) = in_body passed ss prefix at c m m.body

abbrev pub in_class : ℕ → List Sign → ℕ × ℕ → MethodPlace → Option SourceClass → Option HoleSite
in_class passed ss prefix at None = None
in_class passed ss prefix at (Some c) = in_method passed ss prefix at c (slice_get c.methods at.method)

abbrev pub in_classes : ℕ → List Sign → ℕ × ℕ → List SourceClass → Option MethodPlace → Option HoleSite
in_classes passed ss prefix cs None = None
in_classes passed ss prefix cs (Some at) = in_class passed ss prefix at (slice_get cs at.class)

-- The hole with this prefix, behind so many of `count` tokens.
unfoldable pub hole_behind : ℕ → ℕ → List Sign → ℕ × ℕ → List SourceClass → Option HoleSite
hole_behind passed count ss prefix cs = in_classes passed ss prefix cs (method_at passed count ss cs)

abbrev pub hole_from : List ℕ → List Token → unit.Unit → ℕ → ℕ → Option HoleSite
hole_from text tokens u start place =
    hole_behind (passed tokens start) (length tokens) (signs_of text tokens) (start, place) u.classes

-- The site of the hole at a place of a text, which has these tokens and this unit, or none. A hole is at a
-- place exactly where all of this holds. It stands in no token but white space, and behind no comment up to
-- the end of a line and nothing that isn't closed. It stands in the body of a method or constructor. Each
-- brace of the body that is open there begins a block of statements. The statement before it, up to its
-- prefix, is a declaration up to its `=`, `return`, or an assignment to a variable or to a field of `this`.
-- The type that this asks for is known.
unfoldable pub hole_of : List ℕ → List Token → unit.Unit → ℕ → Option HoleSite
hole_of text tokens u place =
    if is_free text place (touched tokens place) then hole_from text tokens u (prefix_start place (touched tokens place)) place else None

-- The classes of source texts, as they are published: what a compiler would have put into class files, as far as
-- names can be told from the texts and from what is known besides (JLS 6.5.5, 13.1).
use Rattle.std.specs.Prelude.{◌≡◌, ℕ, not, Bool, List, [], map, filter}
use Rattle.std.specs.List.{flat_map}
use Rattle.java_units.specs.declared.types.Unit as unit
use Rattle.known_classes.specs.Merging.{merged, added}
use Rattle.known_classes.specs.declared.summary.FieldSummary.{FieldSummary}
use Rattle.known_classes.specs.declared.summary.MethodSummary.{MethodSummary}
use Rattle.known_classes.specs.declared.summary.ClassSummary.{ClassSummary}
use Rattle.class_summary.specs.Flags.{has_flag, private}
use Rattle.class_summary.specs.SourceSummaries.{summaries_of}
use Rattle.source_classes.specs.TextUnits.{AreUnitsOf}

-- What is told of a class before any name is looked up: its name, flags and nesting.
abbrev pub outline : ClassSummary → ClassSummary
outline c = record { name = c.name; flags = c.flags; nesting = c.nesting; supers = []; fields = []; methods = [] }

-- The outlines of the classes of a unit; what is known besides plays no part in them.
unfoldable pub outlines_of : unit.Unit → List ClassSummary
outlines_of u = map outline (summaries_of u [])

-- What the names in these units may mean: the known classes, and over them the outlines of all classes of all units.
abbrev pub in_sight : List unit.Unit → List ClassSummary → List ClassSummary
in_sight units known = merged known (flat_map outlines_of units)

-- The summaries of all classes of all units, in their order.
abbrev pub all_summaries : List unit.Unit → List ClassSummary → List ClassSummary
all_summaries units seen = flat_map (λ u. summaries_of u seen) units

-- Of classes of one name the last one alone, at its own place.
abbrev pub last_ones : List ClassSummary → List ClassSummary
last_ones cs = added [] cs

-- Whether access flags are those of a private member (JVMS 4.5, 4.6).
abbrev pub is_private : ℕ → Bool
is_private flags = has_flag flags private

-- A class without its private members.
unfoldable pub without_private : ClassSummary → ClassSummary
without_private c = record {
  name = c.name;
  flags = c.flags;
  nesting = c.nesting;
  supers = c.supers;
  fields = filter (λ (f : FieldSummary). not (is_private f.flags)) c.fields;
  methods = filter (λ (m : MethodSummary). not (is_private m.flags)) c.methods;
}

-- The classes of these units, where those are known besides: of two of one name the later one counts, and private
-- members are left out.
abbrev pub classes_of : List unit.Unit → List ClassSummary → List ClassSummary
classes_of units known = map without_private (last_ones (all_summaries units (in_sight units known)))

-- These are the classes of the texts.
pub record AreSourceClasses (texts : List (List ℕ)) (known classes : List ClassSummary) : Type 0 where
  pub units : List unit.Unit
  pub read : AreUnitsOf texts units
  pub are : classes ≡ classes_of units known

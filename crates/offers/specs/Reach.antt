-- Which classes are offered at a hole.
use Rattle.std.specs.Prelude.{ℕ, zero, suc, Bool, false, ◌&&◌, ◌||◌, not, if◌then◌else◌, List, [], ◌∷◌, length, codes, bytes_eq, is_some, Option, Some, None}
use Rattle.std.specs.List.{list_any, list_all, filter, flat_map}
use Rattle.java_units.specs.declared.types.Import.{Import}
use Rattle.known_classes.specs.declared.summary.Nesting.{Nesting}
use Rattle.known_classes.specs.declared.summary.ClassSummary.{ClassSummary}
use Rattle.known_classes.specs.Known.{class_named, outer_of}
use Rattle.class_summary.specs.Sources.{joined}
use Rattle.class_summary.specs.Names.{spelled, class_with, internal_of}
use Rattle.class_summary.specs.declared.rules.Denoted.{Denoted}
use Rattle.offers.specs.Scenes.{Scene, edited, package_here, package_of, is_open, is_among, is_of_unit, sorted}

-- The flags of a class but INTERFACE and ABSTRACT: those of its nesting, where it has one; none where it isn't known.
abbrev pub access_by : ℕ → Option Nesting → ℕ
access_by flags None = flags
access_by flags (Some n) = n.flags

abbrev pub access_of : Option ClassSummary → ℕ
access_of None = 0
access_of (Some c) = access_by c.flags c.nesting

-- A class and its outer classes, at most n more.
abbrev pub on_from : Option (List ℕ) → (List ℕ → List (List ℕ)) → List (List ℕ)
on_from None more = []
on_from (Some outer) more = more outer

unfoldable pub chain_by : ℕ → List ClassSummary → List ℕ → List (List ℕ)
chain_by zero cs name = name ∷ []
chain_by (suc n) cs name = name ∷ on_from (outer_of cs name) (chain_by n cs)

-- The chain of a class. One without a repetition isn't longer than this.
abbrev pub chain : Scene → List ℕ → List (List ℕ)
chain v name = chain_by (length v.known) v.known name

-- A class is local or anonymous where it has a nesting without an outer class or without a simple name.
abbrev pub is_local : Option Nesting → Bool
is_local None = false
is_local (Some n) = not (is_some n.outer && is_some n.simple)

-- Of the unit, or open through all of its chain.
unfoldable pub is_accessible : Scene → List ℕ → Bool
is_accessible v name = is_of_unit v name || list_all (λ c. is_open v c (access_of (class_named v.known c))) (chain v name)

-- The classes that imports without star name.
abbrev pub named_by : Scene → Import → List (List ℕ)
named_by v m = if m.star then [] else internal_of v.unit (spelled v.unit v.known m.parts) ∷ []

abbrev pub named_classes : Scene → List (List ℕ)
named_classes v = flat_map (named_by v) v.unit.imports

-- The packages that imports with star name, and the classes.
abbrev pub package_by : Import → List (List ℕ)
package_by m = if m.star then joined (codes "/") m.parts ∷ [] else []

abbrev pub starred_packages : Scene → List (List ℕ)
starred_packages v = flat_map package_by v.unit.imports

abbrev pub internal_names : Scene → Option Denoted → List (List ℕ)
internal_names v None = []
internal_names v (Some d) = internal_of v.unit d ∷ []

abbrev pub class_by : Scene → Import → List (List ℕ)
class_by v m = if m.star then internal_names v (class_with v.unit v.known (joined (codes ".") m.parts)) else []

abbrev pub starred_classes : Scene → List (List ℕ)
starred_classes v = flat_map (class_by v) v.unit.imports

-- A class without an outer class is in reach by its package, another by its outer class.
abbrev pub is_in_reach_by : Scene → List ℕ → Option (List ℕ) → Bool
is_in_reach_by v home None = (bytes_eq home (package_here v) || bytes_eq home (codes "java/lang")) || is_among (starred_packages v) home
is_in_reach_by v home (Some outer) = is_among (starred_classes v) outer

-- A class in reach: one of the unit, one imported by name, or one of a package or a class that is in reach.
unfoldable pub is_in_reach : Scene → List ℕ → Bool
is_in_reach v name = (is_of_unit v name || is_among (named_classes v) name) || is_in_reach_by v (package_of name) (outer_of v.known name)

-- The edited class, or one that is neither local nor anonymous, accessible, and has a class in reach in its chain.
unfoldable pub is_offered : Scene → ClassSummary → Bool
is_offered v c = bytes_eq c.name (edited v) || ((not (is_local c.nesting) && is_accessible v c.name) && list_any (is_in_reach v) (chain v c.name))

-- The offered classes, in byte order of their names.
unfoldable pub offered : Scene → List ClassSummary
offered v = sorted (λ c. c.name) (filter (is_offered v) v.known)

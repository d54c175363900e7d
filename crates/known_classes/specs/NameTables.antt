-- Tables of places by names: classes by canonical names, and by the class around them with their simple names.
use Rattle.std.specs.Prelude.{◌≡◌, ℕ, ◌+◌, ◌<◌, ◌≤◌, ◌==◌, ◌&&◌, if◌then◌else◌, List, length, map, drop, slice_get, bytes_eq, is_some, false, Option, Some, None}
use Rattle.known_classes.specs.declared.summary.ClassSummary.{ClassSummary}
use Rattle.std.specs.BTreeMap.{get_by_text}
use Rattle.known_classes.specs.declared.name_tables.NameTables.{NameTables}
use Rattle.known_classes.specs.Known.{KnownClasses, class_by_canonical, canonical, cycles, HasEachOnce, outer_in, simple_in, IsPlaceOf}
use Rattle.known_classes.specs.Nested.{nested_class, surrounds}

-- A table of numbers by names.
abbrev pub Table : Type 0
Table = List ℕ → Option ℕ

abbrev pub in_table : Option Table → List ℕ → Option ℕ
in_table None name = None
in_table (Some table) name = table name

abbrev pub in_numbered : Option ℕ → List Table → List ℕ → Option ℕ
in_numbered None tables name = None
in_numbered (Some n) tables name = in_table (slice_get tables n) name

-- What the table of the outer class has for a simple name.
abbrev pub member_place : Table → List Table → List ℕ → List ℕ → Option ℕ
member_place outers tables outer name = in_numbered (outers outer) tables name

-- Each outer class has a number of its own, which is that of a table.
pub record IsNumbered (outers : Table) (tables : List Table) : Type 0 where
  pub within : (name : List ℕ) (i : ℕ) → outers name ≡ Some i → i < length tables
  pub apart : (one other : List ℕ) (i : ℕ) → outers one ≡ Some i → outers other ≡ Some i → one ≡ other

-- The tables as before, with a number at a name of the table at this place.
pub record PutsAt (place : ℕ) (name : List ℕ) (number : ℕ) (old new : List Table) : Type 0 where
  pub size : length new ≡ length old
  pub each : (k : ℕ) (after : Table) → slice_get new k ≡ Some after →
      (before : Table) × (slice_get old k ≡ Some before) × ((other : List ℕ) → after other ≡ (if place == k && bytes_eq other name then Some number else before other))

-- What tables of names hold: the place from which on the classes stand in them, their canonical names, the table
-- by these, and by numbers of outer classes those of simple names.
pub record NameTable : Type 0 where
  pub from : ℕ
  pub texts : List (List ℕ)
  pub canonical : Table
  pub outers : Table
  pub members : List Table

abbrev pub table_of : NameTables → NameTable
table_of t = record { from = t.from; texts = t.texts; canonical = get_by_text t.canonical; outers = get_by_text t.members.outers; members = map get_by_text t.members.tables.items }

-- The texts are the canonical names of the classes from a place on up to another.
pub record AreCanonicalNames (known : KnownClasses) (from place : ℕ) (texts : List (List ℕ)) : Type 0 where
  pub size : from + length texts ≡ place
  pub each : (i : ℕ) (c : ClassSummary) → i < length texts → slice_get known (from + i) ≡ Some c → slice_get texts i ≡ Some (canonical known c.name)

-- The text is the canonical name of the class at this place.
abbrev pub IsCanonicalAt : KnownClasses → ℕ → List ℕ → Type 0
IsCanonicalAt known place text = (c : ClassSummary) → slice_get known place ≡ Some c → text ≡ canonical known c.name

-- The text is the canonical name of the class of this name, which doesn't reach itself by outer classes.
abbrev pub IsName : KnownClasses → List ℕ → List ℕ → Type 0
IsName known name text = (text ≡ canonical known name) × (cycles known name ≡ false)

-- The same of the class at this place.
abbrev pub IsNameAt : KnownClasses → ℕ → List ℕ → Type 0
IsNameAt known place text = (c : ClassSummary) → slice_get known place ≡ Some c → IsName known c.name text

-- The names of the classes up to a place, as far as they are made.
pub record AreNamed (known : KnownClasses) (place : ℕ) (named : List (Option (List ℕ))) : Type 0 where
  pub size : length named ≡ place
  pub each : (i : ℕ) (text : List ℕ) → slice_get named i ≡ Some (Some text) → IsNameAt known i text

-- The table gives the place of the class of each canonical name, among the classes from this place on.
pub record IsCanonicalTable (known : KnownClasses) (from : ℕ) (table : Table) : Type 0 where
  pub within : from ≤ length known
  pub each : (name : List ℕ) → IsPlaceOf known (class_by_canonical known (drop from known) name) (table name)

-- The tables give the place of each nested class by its outer class and its simple name, among the classes from
-- this place on, and tell the outer classes of these.
pub record AreMemberTables (known : KnownClasses) (from : ℕ) (numbers : Table) (tables : List Table) : Type 0 where
  pub within : from ≤ length known
  pub numbered : IsNumbered numbers tables
  pub nested : (outer name : List ℕ) → IsPlaceOf known (nested_class outer name (drop from known)) (member_place numbers tables outer name)
  pub outers : (name : List ℕ) → is_some (numbers name) ≡ surrounds (drop from known) name

-- The tables are those of these classes, from a place on.
pub record AreNameTables (known : KnownClasses) (t : NameTable) : Type 0 where
  pub once : HasEachOnce known
  pub texts : AreCanonicalNames known t.from (length known) t.texts
  pub canonical : IsCanonicalTable known t.from t.canonical
  pub members : AreMemberTables known t.from t.outers t.members

-- Each class before this place stands in none, in one that isn't known, or in one before this place.
abbrev pub IsClosedBelow : KnownClasses → ℕ → Type 0
IsClosedBelow known place = (j q : ℕ) (c d : ClassSummary) → j < place → slice_get known j ≡ Some c → outer_in c.nesting ≡ Some d.name → slice_get known q ≡ Some d → q < place

-- The classes before this place have the canonical names that they have in the base, and stand in none behind.
pub record IsBehind (base known : KnownClasses) (from : ℕ) : Type 0 where
  pub within : from ≤ length known
  pub named : (j : ℕ) (c : ClassSummary) → j < from → slice_get known j ≡ Some c → (b : ClassSummary) × (slice_get base j ≡ Some b) × (canonical base b.name ≡ canonical known c.name)
  pub closed : IsClosedBelow known from

-- The text is the canonical name of the class at this place, which closes the classes up to it.
pub record IsNextName (known : KnownClasses) (place : ℕ) (text : List ℕ) : Type 0 where
  pub named : (c : ClassSummary) → slice_get known place ≡ Some c → text ≡ canonical known c.name
  pub closed : IsClosedBelow known (place + 1)

-- The classes of the base come first; each keeps its name, its canonical name, its outer class and its simple name.
pub record Extends (base known : KnownClasses) : Type 0 where
  pub within : length base ≤ length known
  pub prefix : (j : ℕ) (b : ClassSummary) → slice_get base j ≡ Some b → (c : ClassSummary) × (slice_get known j ≡ Some c) × (c.name ≡ b.name) × (outer_in c.nesting ≡ outer_in b.nesting) × (simple_in c.nesting ≡ simple_in b.nesting) × (canonical known c.name ≡ canonical base b.name)
  pub closed : IsClosedBelow known (length base)

-- The tables are those of all classes, or of those behind the base, which comes first.
pub record AreTablesBeside (base known : KnownClasses) (t : NameTable) : Type 0 where
  pub tables : AreNameTables known t
  pub behind : (t.from ≡ 0 → ⊥) → (t.from ≡ length base) × Extends base known

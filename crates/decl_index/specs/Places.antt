-- The places of classes in an index.
use Rattle.std.specs.Prelude.{◌≡◌, ◌≢◌, ◌≤◌, ℕ, Bool, false, List, [], ◌∷◌, length, map, take, drop, bytes_eq, Option, Some, None}
use Rattle.std.specs.declared.cmp.Ordering.TheVariants.{Less}
use Rattle.std.specs.List.{AllByRecursion}
use Rattle.std.specs.Prelude.{String, string_bytes}
use Rattle.std.specs.BTreeMap.{BTreeMap}
use Rattle.known_classes.specs.declared.summary.ClassSummary.{ClassSummary}
use Rattle.known_classes.specs.Known.{class_named}
use Rattle.known_classes.specs.NameTables.{AreNameTables, table_of}
use Rattle.known_classes.specs.declared.name_tables.NameTables.{NameTables}
use Rattle.decl_index.specs.History.{Name, order, Rises, Edit, decided}

-- So many classes have lesser names than n.
pub record IsPlace (cs : List ClassSummary) (n : Name) (p : ℕ) : Type 0 where
  pub within : p ≤ length cs
  pub below : AllByRecursion (λ c. order c.name n ≡ Less) (take p cs)
  pub above : AllByRecursion (λ c. order c.name n ≢ Less) (drop p cs)

-- What is said decides, else what was there stays.
abbrev pub told_or : Option (Option ClassSummary) → Option ClassSummary → Option ClassSummary
told_or (Some c) d = c
told_or None d = d

-- The entries make the second classes of the first.
pub record Leaves (es : List Edit) (cs ds : List ClassSummary) : Type 0 where
  pub rises : Rises ds
  pub each : (n : Name) → class_named ds n ≡ told_or (decided n es) (class_named cs n)

-- Whether the first class has the name.
abbrev pub heads : Name → List ClassSummary → Bool
heads n [] = false
heads n (c ∷ cs) = bytes_eq n c.name

-- The tables are those of all these classes.
pub record AreNamesOf (cs : List ClassSummary) (names : NameTables) : Type 0 where
  pub tables : AreNameTables cs (table_of names)
  pub whole : names.from ≡ 0

-- The pairs of a map from keys to counts.
abbrev pub count_pairs : {Y : Type 0} → BTreeMap (String Y) ℕ → List (Name × ℕ)
count_pairs counts = map (λ e. (string_bytes e.0, e.1)) counts.entries

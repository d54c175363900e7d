-- What a search from the changed classes alone finds, and what such classes keep.
use Rattle.std.specs.Prelude.{◌≡◌, ℕ, List, ◌++◌, slice_get, Some, None, Contains}
use Rattle.known_classes.specs.declared.summary.ClassSummary.{ClassSummary}
use Rattle.known_classes.specs.Known.{class_named}
use Rattle.decl_index.specs.History.{Name}
use Rattle.type_names.specs.Names.{object_name}
use Rattle.decl_index.specs.Refusals.{supers_of, outers_of, ReachesItself, HasNoCycle}

-- P holds of each element.
abbrev pub Each : {A : Type 0} → (A → Type 0) → List A → Type 0
Each {A} P xs = (i : ℕ) (x : A) → slice_get xs i ≡ Some x → P x

-- The names are added at the end, those that weren't there.
pub record Meets (names old new : List Name) : Type 0 where
  pub more : List Name
  pub grown : new ≡ old ++ more
  pub met : (n : Name) → Contains names n → Contains new n

-- Each super of the class, and the class around it, is one of the names.
pub record HasLinks (c : ClassSummary) (names : List Name) : Type 0 where
  pub supers : (n : Name) → Contains (supers_of c) n → Contains names n
  pub outers : (n : Name) → Contains (outers_of c) n → Contains names n

-- The names to which a class leads are added at the end.
pub record Follows (c : ClassSummary) (old new : List Name) : Type 0 where
  pub more : List Name
  pub grown : new ≡ old ++ more
  pub links : HasLinks c new

-- Where the class of a name leads is among the names.
abbrev pub IsClosed : List ClassSummary → List Name → Type 0
IsClosed cs names = (n : Name) (c : ClassSummary) → Contains names n → class_named cs n ≡ Some c → HasLinks c names

-- All that the class leads to is among the names.
pub record IsReached (cs : List ClassSummary) (c : ClassSummary) (names : List Name) : Type 0 where
  pub first : HasLinks c names
  pub closed : IsClosed cs names

-- The class of this name reaches itself neither by supers nor by outer classes.
pub record AvoidsItself (cs : List ClassSummary) (n : Name) : Type 0 where
  pub supers : ReachesItself supers_of cs n → ⊥
  pub outers : ReachesItself outers_of cs n → ⊥

-- No class but java/lang/Object reaches itself by supers, and none by outer classes.
pub record IsFree (cs : List ClassSummary) : Type 0 where
  pub supers : HasNoCycle supers_of (Some object_name) cs
  pub outers : HasNoCycle outers_of None cs

-- A class of the same name and nesting is known.
pub record KeepsNesting (cs : List ClassSummary) (c : ClassSummary) : Type 0 where
  pub class : ClassSummary
  pub known : class_named cs c.name ≡ Some class
  pub same : class.nesting ≡ c.nesting

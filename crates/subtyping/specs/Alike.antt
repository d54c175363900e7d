-- When two lists of classes say the same of the supers of all that a class reaches.
use Rattle.graphs.specs.Paths.{Leads}
use Rattle.std.specs.Prelude.{◌≡◌, ℕ, ◌⊎◌, Bool, true, false, List, [], None}
use Rattle.known_classes.specs.declared.summary.ClassSummary.{ClassSummary}
use Rattle.known_classes.specs.Merging.{last_named}
use Rattle.type_names.specs.Names.{object_name}
use Rattle.subtyping.specs.Steps.{IsSuper, IsSuperStep, supers_of}

-- The class and each name that it reaches by recorded supers, known or not, has the same supers in both lists.
abbrev pub SupersAlike : List ClassSummary → List ClassSummary → List ℕ → Type 0
SupersAlike old new a = (c : List ℕ) → (c ≡ a) ⊎ Leads (IsSuper old) a c → supers_of new c ≡ supers_of old c

-- No extra class has the name of the class or of one that it reaches by recorded supers.
abbrev pub Unraised : List ClassSummary → List ClassSummary → List ℕ → Type 0
Unraised base extra a = (c : List ℕ) → (c ≡ a) ⊎ Leads (IsSuper base) a c → last_named extra c ≡ None

-- No class but Object reaches itself by supers, and Object has none.
pub record IsClear (cs : List ClassSummary) : Type 0 where
  pub cycles : (n : List ℕ) → (n ≡ object_name → ⊥) → Leads (IsSuper cs) n n → ⊥
  pub top : supers_of cs object_name ≡ []

-- No extra class has the name of the class or of one of its ancestors.
abbrev pub IsRowKept : List ClassSummary → List ClassSummary → List ℕ → Type 0
IsRowKept base extra a = (c : List ℕ) → (c ≡ a) ⊎ Leads (IsSuperStep base) a c → last_named extra c ≡ None

-- Names outside the set have the same supers in both lists, and a class with a super of the set is in it.
pub record IsRaisedSet (old new : List ClassSummary) (touched : List ℕ → Bool) : Type 0 where
  pub same : (n : List ℕ) → touched n ≡ false → supers_of new n ≡ supers_of old n
  pub closed : (n o : List ℕ) → IsSuper old n o → touched o ≡ true → touched n ≡ true

-- Types above which a table has no gap, and the marks by which they are found.
use Rattle.std.specs.Prelude.{◌≡◌, ℕ, suc, Bool, true, false, List, get_or}
use Rattle.terms.specs.Table.{has, row_at}
use Rattle.terms.specs.declared.marks.Marks.{Marks}

-- what stands in the one row stands in the other
pub record IsWithin (rows : List (List ℕ)) (b a : ℕ) : Type 0 where
  pub within : (c : ℕ) → has c (row_at rows b) ≡ true → has c (row_at rows a) ≡ true

-- there is no gap above this type: with a type its row holds all that this type's row holds
pub record IsClosed (rows : List (List ℕ)) (a : ℕ) : Type 0 where
  pub closed : (b : ℕ) → has b (row_at rows a) ≡ true → IsWithin rows b a

-- the types that are told closed are so
pub record AreClosed (rows : List (List ℕ)) (closed : List Bool) : Type 0 where
  pub told : (a : ℕ) → get_or closed a false ≡ true → IsClosed rows a

-- what the marks tell is so: a type with mark a + 1 stands in the row of a, or its row is within that of a
pub record AreRight (rows : List (List ℕ)) (marks : Marks) : Type 0 where
  pub members : (x a : ℕ) → get_or marks.members.items x 0 ≡ suc a → has x (row_at rows a) ≡ true
  pub covered : (x a : ℕ) → get_or marks.covered.items x 0 ≡ suc a → IsWithin rows x a
  pub closed : AreClosed rows marks.closed.items

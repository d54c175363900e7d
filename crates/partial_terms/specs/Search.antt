-- The search for the terms of a place in the order of their weights.
use Rattle.std.specs.Prelude.{◌≡◌, ℕ, ◌+◌, ◌≤◌, true, nat_le, List, [], ◌∷◌, ◌++◌, map, Option, None, Some, All}
use Rattle.terms.specs.Expr.{Expr}
use Rattle.terms.specs.declared.parts.Parts.{Parts}
use Rattle.terms.specs.Code.{prefix_code}
use Rattle.terms.specs.Place.{Place, fits_place, weigh}
use Rattle.terms.specs.Reading.{Reading}
use Rattle.partial_terms.specs.Leasts.{key}
use Rattle.partial_terms.specs.Fronts.{begins, reading, IsItem}
use Rattle.terms.specs.Count.{once_if, count}

-- keys with fronts
abbrev pub Queue : Type 0
Queue = List (ℕ × List ℕ)

-- how many of the fronts the term completes: its prefix code begins with them
abbrev pub times_completed : Expr → List (List ℕ) → ℕ
times_completed e fs = count (λ f. begins f (prefix_code e)) fs

abbrev pub fronts : Queue → List (List ℕ)
fronts q = map (λ i. i.1) q

-- the key of a reading; where there is none it doesn't matter
abbrev pub key_of : (Place → ℕ) → Option Reading → ℕ
key_of least None = 0
key_of least (Some r) = key least r

abbrev pub children : Parts → (Place → ℕ) → Place → List ℕ → List ℕ → Queue
children g least root f ns = map (λ n. (key_of least (reading g root (f ++ n ∷ [])), f ++ n ∷ [])) ns

-- every item is a partial term under its key, every front of the level is whole and of this weight,
-- and each term from this weight on completes exactly one of them
pub record IsSearch (g : Parts) (limit : ℕ) (least : Place → ℕ) (root : Place) (from : ℕ) (queue : Queue) (level : List (List ℕ)) : Type 0 where
  pub items : All (λ q. IsItem g limit least root q.0 q.1) queue
  pub ended : All (λ f. reading g root f ≡ Some (record { weight = from; open_places = [] })) level
  pub divided : (e : Expr) → fits_place g root e ≡ true → weigh g root e ≤ limit → times_completed e (fronts queue) + times_completed e level ≡ once_if (nat_le from (weigh g root e))

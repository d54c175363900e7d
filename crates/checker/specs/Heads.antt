-- The tables of an environment's declarations and pairs, and what is asked of the heads of a type.
use Rattle.std.specs.Prelude.{◌≡◌, ℕ, ◌<◌, true, List, map, length, slice_get, Some}
use Rattle.terms.specs.declared.parts.Parts.{Parts}
use Rattle.terms.specs.declared.parts.Decl.{Decl}
use Rattle.checker.specs.declared.floor.Floor.{Floor}
use Rattle.checker.specs.declared.heads.Heads.{Heads}
use Rattle.number_places.specs.Places.{places_of}
use Rattle.checker.specs.Checks.{head_reaches}

-- the tables hold the declarations by their results, and the pairs by their upper types
pub record AreHeads (g : Parts) (h : Heads) : Type 0 where
  pub results_many : length h.by_result.items ≡ length g.types
  pub uppers_many : length h.by_upper.items ≡ length g.types
  pub results : (k : ℕ) → k < length g.types → slice_get (map (λ l. l.items) h.by_result.items) k ≡ Some (places_of k (map (λ (d : Decl). d.result) g.decls))
  pub uppers : (k : ℕ) → k < length g.types → slice_get (map (λ l. l.items) h.by_upper.items) k ≡ Some (places_of k (map (λ (p : ℕ × ℕ). p.1) g.pairs))

-- all declarations that give this type reach the floor
pub record TypeReaches (g : Parts) (fs : List Floor) (f : Floor) (a : ℕ) : Type 0 where
  pub each : (i : ℕ) (d : Decl) → slice_get g.decls i ≡ Some d → d.result ≡ a → head_reaches g fs f d ≡ true

-- all declarations that give the lower type of the pair at a place do
pub record PairReaches (g : Parts) (fs : List Floor) (f : Floor) (j : ℕ) : Type 0 where
  pub each : (p : ℕ × ℕ) → slice_get g.pairs j ≡ Some p → TypeReaches g fs f p.0

-- all declarations that give a type strictly below the goal do
pub record LowersReach (g : Parts) (fs : List Floor) (f : Floor) : Type 0 where
  pub each : (j : ℕ) (p : ℕ × ℕ) → slice_get g.pairs j ≡ Some p → p.1 ≡ f.goal → TypeReaches g fs f p.0

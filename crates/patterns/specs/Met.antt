-- The states that are inhabited, by kinds and sets alone: a state that is met needs not be listed.
use Rattle.std.specs.Prelude.{◌≡◌, ℕ, Bool, true, false, List, [], ◌∷◌, slice_get, slice_index_or, Some}
use Rattle.succinct.specs.Sets.{has}
use Rattle.succinct.specs.declared.kind.Succinct.{Succinct}
use Rattle.patterns.specs.declared.state.State.{State}
use Rattle.patterns.specs.declared.wanted.Wanted.{Wanted}
use Rattle.patterns.specs.States.{Space, types_at, set_sought}

mutual
  -- the goal is in the set, or a kind ends in it whose needs are all met
  pub data IsMet (p : Space) (kinds : List Succinct) : State → Type 0 where
    by_set : (s : State) → has s.goal (types_at p s.set) ≡ true → IsMet p kinds s
    by_kind : (s : State) (k : ℕ) (kind : Succinct) → slice_get kinds k ≡ Some kind → kind.result ≡ s.goal → AreMet p kinds s kind.needs → IsMet p kinds s

  -- each need can be sought, and the state where it is sought is met
  pub data AreMet (p : Space) (kinds : List Succinct) : State → List ℕ → Type 0 where
    met_none : (s : State) → AreMet p kinds s []
    met_more : (s : State) (n : ℕ) (ns : List ℕ) (w : Wanted) (set : ℕ) → slice_get p.wanted n ≡ Some w → set_sought p s.set w ≡ Some set → IsMet p kinds (record { set = set; goal = w.goal }) → AreMet p kinds s ns → AreMet p kinds s (n ∷ ns)

-- what is marked is met
abbrev pub AreSound : Space → List Succinct → List State → List Bool → Type 0
AreSound p kinds states marks = (i : ℕ) (s : State) → slice_get states i ≡ Some s → slice_index_or marks i false ≡ true → IsMet p kinds s

-- Floors by their states.
use Rattle.std.specs.Prelude.{◌≡◌, ℕ, Bool, nat_eq, if◌then◌else◌, List, [], ◌∷◌, Option, Some, None}
use Rattle.std.specs.Cmp.Lexicographic.{pointwise}
use Rattle.std.specs.Ordering.{on, eq_of_both}
use Rattle.std.specs.HashMap.{HashMap, get}
use Rattle.checker.specs.declared.floor.Floor.{Floor}
use Rattle.checker.specs.declared.state.State.{State}
use Rattle.checker.specs.Floors.{is_at}

-- the floor that is listed for a state
unfoldable pub listed_at : List Floor → State → Option ℕ
listed_at [] q = None
listed_at (f ∷ fs) q = if is_at q.set q.left q.goal f then Some f.floor else listed_at fs q

-- two states are one
abbrev pub same_state : State → State → Bool
same_state = eq_of_both (on (λ x. x.set) (pointwise nat_eq)) (eq_of_both (on (λ x. x.left) nat_eq) (on (λ x. x.goal) nat_eq))

-- the map has for each state the floor that is listed for it
abbrev pub IsTable : {S : Type 0} → List Floor → HashMap State ℕ S → Type 0
IsTable fs map = (q : State) → get same_state map q ≡ listed_at fs q

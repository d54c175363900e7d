-- Floors by their states, one floor further.
use Rattle.std.proofs.Common.{◌≡◌, ◌∙◌, sym, ap, ℕ, ◌+◌, ◌≤◌, List, [], ◌∷◌, length, get_or, drop, refl, arith, Bool, true, false, cond, Option, Some}
use Rattle.std.specs.Prelude.{if◌then◌else◌, is_some, not, unwrap_or}
use Rattle.std.specs.HashMap.{HashMap, get, Updates}
use Rattle.std.proofs.lemmas.List.{drop_more, drop_all}
use Rattle.checker.specs.declared.floor.Floor.{Floor}
use Rattle.checker.specs.declared.state.State.{State}
use Rattle.checker.specs.Floors.{is_at, floor_of, is_among, are_apart}
use Rattle.checker.proofs.Aparts.{apart-on, apart-off, apart-never}
use Rattle.checker.specs.States.{listed_at, same_state, IsTable}

abbrev pub state_of : Floor → State
state_of f = record { set = f.set; left = f.left; goal = f.goal }

-- no floor, and no entry
pub table-empty : {S : Type 0} (m : HashMap State ℕ S) (i : ℕ) (fs : List Floor) → m.entries ≡ [] → length fs ≤ i → IsTable (drop i fs) m
unfolding listed_at
table-empty m i fs e l q = rw (e, drop_all i fs l) refl

-- a floor put in
pub table-added : {S : Type 0} (m n : HashMap State ℕ S) (f : Floor) (s : State) (w : ℕ) (fs : List Floor) → Updates same_state m n s (Some w) → s ≡ state_of f → w ≡ f.floor → IsTable fs m → IsTable (f ∷ fs) n
unfolding listed_at
table-added m n f s w fs up is floor table q = up.0 q ∙ ap (λ x. cond (same_state x q) (Some w) (get same_state m q)) is ∙ ap (λ x. cond (same_state (state_of f) q) (Some x) (get same_state m q)) floor ∙ ap (λ o. cond (same_state (state_of f) q) (Some f.floor) o) (table q)

among_by : (b x : Bool) (w : ℕ) (o : Option ℕ) → is_some o ≡ x → is_some (if b then Some w else o) ≡ (if b then true else x)
among_by true x w o e = refl
among_by false x w o e = e

-- whether a floor of the state stands in the list
among : (f : Floor) (fs : List Floor) → is_some (listed_at fs (state_of f)) ≡ is_among f fs
unfolding is_among listed_at
among f [] = refl
among f (h ∷ fs) = among_by (is_at f.set f.left f.goal h) (is_among f fs) h.floor (listed_at fs (state_of f)) (among f fs)

turned : (b x : Bool) → x ≡ not b → b ≡ not x
turned true x e = sym (ap not e)
turned false x e = sym (ap not e)

pub table-fresh : {S : Type 0} (m : HashMap State ℕ S) (f : Floor) (s : State) (o : Option ℕ) (b : Bool) (fs : List Floor) → o ≡ get same_state m s → s ≡ state_of f → is_some o ≡ not b → IsTable fs m → b ≡ not (is_among f fs)
table-fresh m f s o b fs e is r table = turned b (is_among f fs) (sym (among f fs) ∙ ap is_some (sym (e ∙ ap (get same_state m) is ∙ table (state_of f))) ∙ r)

-- one floor further, from the last one on: it repeats a state
pub repeats : (i j : ℕ) (fs : List Floor) (d : Floor) (fresh : Bool) → i ≡ j + 1 → i ≤ length fs → d ≡ get_or fs j d → fresh ≡ not (is_among d (drop i fs)) → fresh ≡ false → are_apart fs ≡ false
repeats i j fs d fresh e l is f not_fresh =
    let off : true ≡ is_among d (drop (j + 1) fs) = sym (turned (is_among d (drop (j + 1) fs)) false (sym not_fresh ∙ f ∙ ap (λ n. not (is_among d (drop n fs))) e)) in
    apart-never j fs (apart-off j fs d (omega arith) is off)

-- or it doesn't
pub still_apart : (i j : ℕ) (fs : List Floor) (d : Floor) (fresh : Bool) → i ≡ j + 1 → i ≤ length fs → d ≡ get_or fs j d → fresh ≡ not (is_among d (drop i fs)) → fresh ≡ true → are_apart (drop i fs) ≡ true → are_apart (drop j fs) ≡ true
still_apart i j fs d fresh e l is f is_fresh before =
    let on : false ≡ is_among d (drop (j + 1) fs) = sym (turned (is_among d (drop (j + 1) fs)) true (sym is_fresh ∙ f ∙ ap (λ n. not (is_among d (drop n fs))) e)) in
    apart-on j fs d (omega arith) is on ∙ ap (λ n. are_apart (drop n fs)) (sym e) ∙ before

-- the table with the floor
pub table-longer : {S : Type 0} (m : HashMap State ℕ S) (i j : ℕ) (fs : List Floor) (d : Floor) → i ≡ j + 1 → i ≤ length fs → d ≡ get_or fs j d → IsTable (d ∷ drop i fs) m → IsTable (drop j fs) m
table-longer m i j fs d e l is table q = table q ∙ ap (λ xs. listed_at xs q) (sym (drop_more fs j d (omega arith) ∙ ap (λ x. x ∷ drop (j + 1) fs) (sym is) ∙ ap (λ n. d ∷ drop n fs) (sym e)))

pub ruleset added = (table-added, table-fresh)

floor_by : (b : Bool) (w x : ℕ) (o : Option ℕ) → unwrap_or o 0 ≡ x → unwrap_or (if b then Some w else o) 0 ≡ (if b then w else x)
floor_by true w x o e = refl
floor_by false w x o e = e

-- the floor of a state, by what is listed
pub listed-floor : (fs : List Floor) (q : State) → unwrap_or (listed_at fs q) 0 ≡ floor_of fs q.set q.left q.goal
unfolding listed_at floor_of
listed-floor [] q = refl
listed-floor (f ∷ fs) q = floor_by (is_at q.set q.left q.goal f) f.floor (floor_of fs q.set q.left q.goal) (listed_at fs q) (listed-floor fs q)

-- Floors of one state, and the whole check.
use Rattle.std.proofs.Common.{◌≡◌, ◌≢◌, ◌≤◌, ◌<◌, ℕ, zero, suc, ◌+◌, Bool, true, false, List, [], ◌∷◌, length, drop, get_or, slice_get, Some, refl, sym, ap, ◌∙◌, subst, arith}
use Rattle.std.specs.Prelude.{if◌then◌else◌}
use Rattle.std.proofs.lemmas.List.{drop_more, drop_all}
use Rattle.std.proofs.lemmas.Bool.{false≢true}
use Rattle.terms.specs.declared.parts.Parts.{Parts}
use Rattle.checker.specs.declared.floor.Floor.{Floor}
use Rattle.checker.specs.Floors.{is_among, are_apart, IsFloor, FloorsHold}

pub apart-end : (i : ℕ) (fs : List Floor) → length fs ≤ i → are_apart (drop i fs) ≡ true
unfolding are_apart
apart-end i fs l = rw (drop_all i fs l) refl

apart-more : (i : ℕ) (fs : List Floor) (d : Floor) → i < length fs → are_apart (drop i fs) ≡ (if is_among (get_or fs i d) (drop (i + 1) fs) then false else are_apart (drop (i + 1) fs))
unfolding are_apart
apart-more i fs d l = rw (drop_more fs i d l) refl

pub apart-on : (i : ℕ) (fs : List Floor) (d : Floor) → i < length fs → d ≡ get_or fs i d → false ≡ is_among d (drop (i + 1) fs) → are_apart (drop i fs) ≡ are_apart (drop (i + 1) fs)
apart-on i fs d l is e = apart-more i fs d l ∙ ap (λ b. if b then false else are_apart (drop (i + 1) fs)) (ap (λ x. is_among x (drop (i + 1) fs)) (sym is) ∙ sym e)

pub apart-off : (i : ℕ) (fs : List Floor) (d : Floor) → i < length fs → d ≡ get_or fs i d → true ≡ is_among d (drop (i + 1) fs) → are_apart (drop i fs) ≡ false
apart-off i fs d l is e = apart-more i fs d l ∙ ap (λ b. if b then false else are_apart (drop (i + 1) fs)) (ap (λ x. is_among x (drop (i + 1) fs)) (sym is) ∙ sym e)

rest_true : (b x : Bool) → (if b then false else x) ≡ true → x ≡ true
rest_true true x e = absurd (false≢true e)
rest_true false x e = e

-- floors that are apart are so from a place on
pub apart-later : (i : ℕ) (fs : List Floor) → are_apart fs ≡ true → are_apart (drop i fs) ≡ true
unfolding are_apart
apart-later zero fs e = e
apart-later (suc i) [] e = e
apart-later (suc i) (f ∷ fs) e = apart-later i fs (rest_true (is_among f fs) (are_apart fs) e)

-- so floors that aren't apart from a place on aren't apart
repeated : (b : Bool) → (b ≡ true → true ≡ false) → b ≡ false
repeated true e = absurd (false≢true (sym (e refl)))
repeated false e = refl

pub apart-never : (i : ℕ) (fs : List Floor) → are_apart (drop i fs) ≡ false → are_apart fs ≡ false
apart-never i fs e = repeated (are_apart fs) (λ t. sym (apart-later i fs t) ∙ e)

pub ruleset aparts = (apart-end, apart-on, apart-off)

pub no_items : (xs : List ℕ) → length xs ≡ 0 → xs ≡ []
no_items [] e = refl
no_items (x ∷ xs) e = absurd (omega (arith, e))

pub some_items : (xs : List ℕ) → length xs ≢ 0 → xs ≡ [] → ⊥
some_items xs l e = l (ap length e)

pub ruleset firsts = (no_items, some_items)

abbrev IsGoals : Parts → Floor → Type 0
IsGoals g f = (f.set ≡ []) × (f.left ≡ g.depth) × (f.goal ≡ g.goal)

pub whole : (g : Parts) (fs : List Floor) (d : Floor) → 0 < length fs → d ≡ get_or fs 0 d → IsGoals g d → true ≡ are_apart fs → ((k : ℕ) (f : Floor) → slice_get fs k ≡ Some f → IsFloor g fs f) → FloorsHold g fs d.floor
whole g [] d l is first apart each = absurd (omega (arith, l))
whole g (f ∷ fs) d l is first apart each = record { first = subst (λ x. (x.set ≡ []) × (x.left ≡ g.depth) × (x.goal ≡ g.goal) × (x.floor ≡ d.floor)) is (first.0, first.1, first.2, refl); apart = sym apart; each = each }

pub not_first : (g : Parts) (fs : List Floor) (d : Floor) (w : ℕ) → 0 < length fs → d ≡ get_or fs 0 d → (IsGoals g d → ⊥) → FloorsHold g fs w → ⊥
not_first g [] d w l is not holds = omega (arith, l)
not_first g (f ∷ fs) d w l is not holds = let first = holds.first in not (subst (λ x. IsGoals g x) (sym is) (first.0, first.1, first.2))

pub not_any : (g : Parts) (fs : List Floor) (w : ℕ) → length fs ≡ 0 → FloorsHold g fs w → ⊥
not_any g [] w e holds = holds.first
not_any g (f ∷ fs) w e holds = omega (arith, e)

pub not_apart : (g : Parts) (fs : List Floor) (w : ℕ) → false ≡ are_apart fs → FloorsHold g fs w → ⊥
not_apart g fs w e holds = false≢true (e ∙ holds.apart)

pub not_each : (g : Parts) (fs : List Floor) (w : ℕ) → (((k : ℕ) (f : Floor) → slice_get fs k ≡ Some f → IsFloor g fs f) → ⊥) → FloorsHold g fs w → ⊥
not_each g fs w not holds = not holds.each

pub ruleset checks = (whole, not_first, not_any, not_apart, not_each)

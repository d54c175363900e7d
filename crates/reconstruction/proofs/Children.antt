-- What follows a front whose first open place is known.
use Rattle.std.proofs.Common.{reverse, ◌≡◌, inl, inr, ℕ, ◌+◌, ◌<◌, ◌≤◌, true, false, List, [], ◌∷◌, ◌++◌, length, get_or, Option, Some, refl, sym, ap, subst, ◌∙◌, arith}
use Rattle.std.proofs.lemmas.Bool.{le-leb, lt-leb}
use Rattle.std.proofs.lemmas.List.Elements.{All-append}
use Rattle.std.specs.List.Sorted.{IsPermutation}
use Rattle.std.proofs.lemmas.List.Sorted.{IsPermutation-append_comm}
use Rattle.std.proofs.lemmas.Grind.{reverse_onto}
use Rattle.terms.specs.Count.{total}
use Rattle.terms.specs.Place.{Place, goal_place}
use Rattle.terms.specs.Reading.{Reading, turn, and_then, read}
use Rattle.terms.specs.declared.parts.Parts.{Parts}
use Rattle.terms.proofs.Sums.{total-append}
use Rattle.partial_terms.specs.Leasts.{key}
use Rattle.partial_terms.specs.Fronts.{reading, key_within}
use Rattle.partial_terms.specs.Search.{key_of}
use Rattle.reconstruction.specs.NumberedPlaces.{IsNumbered}
use Rattle.reconstruction.specs.Tabled.{place_by_numbers, places_of, least_of, AreNumbered, front_of, stack_of, IsParent, IsTurn, child, may, Pushes}
use Rattle.reconstruction.specs.Totals.{IsCapped}
use Rattle.reconstruction.specs.declared.item.Item.{Item}
use Rattle.reconstruction.specs.declared.item.Arena.{Arena}
use Rattle.reconstruction.specs.declared.item.Parent.{Parent}
use Rattle.reconstruction.specs.declared.numbered_place.NumberedPlace.{NumberedPlace}
use Rattle.reconstruction.specs.declared.tables.Tables.{Tables}
use Rattle.partial_terms.proofs.Division.{read-append}

-- a turn over the weight so far and the other places
abbrev pub after : ℕ → List Place → Reading → Option Reading
after w rest t = Some (record { weight = w + t.weight; open_places = t.open_places ++ rest })

pub next_reading : (g : Parts) (root : Place) (f : List ℕ) (n w : ℕ) (p : Place) (rest : List Place) → reading g root f ≡ Some (record { weight = w; open_places = p ∷ rest })
    → reading g root (f ++ n ∷ []) ≡ and_then (turn g p n) (after w rest)
unfolding reading read
next_reading g root f n w p rest h = read-append g 0 (root ∷ []) f (n ∷ []) ∙ ap (λ o. and_then o (λ r. read g r.weight r.open_places (n ∷ []))) h

pub places-append : (t : Tables) (xs ys : List NumberedPlace) → places_of t (xs ++ ys) ≡ places_of t xs ++ places_of t ys
places-append t [] ys = refl
places-append t (x ∷ xs) ys = ap (λ ps. place_by_numbers t x ∷ ps) (places-append t xs ys)

-- the reading that a turn makes of a parent
abbrev pub made : Tables → Arena → (pw tw : ℕ) → List NumberedPlace → List NumberedPlace → Reading
made t a pw tw numbered rest = record { weight = pw + tw; open_places = places_of t numbered ++ places_of t rest }

child-is : (t : Tables) (a : Arena) (p : Parent) (n w : ℕ) (numbered : List NumberedPlace) (h : IsParent t a p) (u : IsTurn t (place_by_numbers t p.place) n w numbered)
    → child t (front_of a p.front) n ≡ Some (made t a h.weight u.weight numbered (stack_of a p.rest))
child-is t a p n w numbered h u =
    next_reading t.env (goal_place t.env) (front_of a p.front) n h.weight (place_by_numbers t p.place) (places_of t (stack_of a p.rest)) h.is
    ∙ ap (λ o. and_then o (after h.weight (places_of t (stack_of a p.rest)))) u.is

-- its key is the parent's without the first place, and what the head gives
key-made : (t : Tables) (a : Arena) (p : Parent) (n w : ℕ) (numbered : List NumberedPlace) (h : IsParent t a p) (u : IsTurn t (place_by_numbers t p.place) n w numbered)
    → key (least_of t) (made t a h.weight u.weight numbered (stack_of a p.rest)) ≡ p.base + (u.weight + total (least_of t) (places_of t numbered))
key-made t a p n w numbered h u =
    let sums = total-append (least_of t) (places_of t numbered) (places_of t (stack_of a p.rest)) in
    let base = h.base in
    omega (arith, sums, base)

pub no_push : (t : Tables) (a : Arena) (f : List ℕ) (n : ℕ) (items : List (ℕ × Item)) → may t f n ≡ false → Pushes t a f n items items
no_push t a f n items h = rw h refl

-- above the limit nothing may come of it
pub too_heavy : (t : Tables) (a : Arena) (p : Parent) (n w : ℕ) (numbered : List NumberedPlace) → IsParent t a p → IsTurn t (place_by_numbers t p.place) n w numbered → t.env.limit < p.base + w → may t (front_of a p.front) n ≡ false
too_heavy t a p n w numbered h u heavy =
    ap (key_within t.env.limit (least_of t)) (child-is t a p n w numbered h u)
    ∙ lt-leb (key (least_of t) (made t a h.weight u.weight numbered (stack_of a p.rest))) t.env.limit (past u.capped)
  where
    past : IsCapped t.env.limit w (u.weight + total (least_of t) (places_of t numbered)) → t.env.limit < key (least_of t) (made t a h.weight u.weight numbered (stack_of a p.rest))
    past (inl same) = (let k = key-made t a p n w numbered h u in omega (arith, k, same, heavy))
    past (inr both) = (let k = key-made t a p n w numbered h u in let more = both.1 in omega (arith, k, more))

-- the pushed item
pub one_push : (t : Tables) (a0 a1 : Arena) (p : Parent) (n w k : ℕ) (numbered : List NumberedPlace) (i : Item) (old new : List (ℕ × Item)) → IsParent t a0 p → IsTurn t (place_by_numbers t p.place) n w numbered → k ≡ p.base + w → k ≤ t.env.limit
    → i.front < length a1.fronts → i.stack < length a1.stacks → get_or a1.fronts i.front [] ≡ n ∷ get_or a0.fronts p.front [] → get_or a1.stacks i.stack [] ≡ numbered ++ get_or a0.stacks p.rest []
    → IsPermutation ((k, i) ∷ old) new → Pushes t a1 (front_of a0 p.front) n old new
one_push t a0 a1 p n w k numbered i old new h u key_is within front_in stack_in front stack moved =
    let f = front_of a0 p.front in
    let rest = stack_of a0 p.rest in
    let m : Reading = made t a0 h.weight u.weight numbered rest in
    let c : child t f n ≡ Some m = child-is t a0 p n w numbered h u in
    let opens : m.open_places ≡ places_of t (stack_of a1 i.stack) = sym (places-append t numbered rest) ∙ ap (places_of t) (sym stack) in
    let exact : w ≡ u.weight + total (least_of t) (places_of t numbered) = uncapped u.capped in
    let is_key : key (least_of t) m ≡ k = (let km = key-made t a0 p n w numbered h u in omega (arith, km, exact, key_is)) in
    let made_key : key_of (least_of t) (child t f n) ≡ k = ap (key_of (least_of t)) c ∙ is_key in
    let ok : may t f n ≡ true = ap (key_within t.env.limit (least_of t)) c ∙ le-leb (key (least_of t) m) t.env.limit (omega (arith, is_key, within)) in
    let grown : front_of a1 i.front ≡ f ++ n ∷ [] = ap reverse front ∙ reverse_onto (get_or a0.fronts p.front []) n [] in
    rw (ok, made_key) (
      i,
      moved,
      record {
        front_in = front_in;
        stack_in = stack_in;
        numbered = subst (AreNumbered t) (sym stack) (All-append (IsNumbered t.env t.patterns) numbered rest u.opened h.others);
        weight = m.weight;
        is = ap (reading t.env (goal_place t.env)) grown ∙ c ∙ ap (λ o. Some (record { weight = m.weight; open_places = o })) opens;
        keyed = omega (arith, is_key, ap (total (least_of t)) opens);
        within = within;
      },
      grown,
    )
  where
    uncapped : IsCapped t.env.limit w (u.weight + total (least_of t) (places_of t numbered)) → w ≡ u.weight + total (least_of t) (places_of t numbered)
    uncapped (inl same) = same
    uncapped (inr both) = (let more = both.0 in absurd (omega (arith, more, key_is, within)))

-- what is pushed at the end
pub pushed_last : {X : Type 0} (x : X) (old new : List X) → new ≡ old ++ x ∷ [] → IsPermutation (x ∷ old) new
pushed_last {X} x old new is = subst (λ (l : List X). IsPermutation (x ∷ old) l) (sym is) (IsPermutation-append_comm (x ∷ []) old)

-- What a search keeps at each of its steps.
use Rattle.std.proofs.Common.{◌≡◌, ◌≢◌, ℕ, ◌+◌, ◌<◌, ◌≤◌, max, List, [], ◌∷◌, ◌++◌, map, Option, Some, None, All, refl, sym, subst, arith}
use Rattle.std.proofs.lemmas.List.Elements.{All-nil, All-cons, All-head, All-map, All-tail}
use Rattle.std.specs.List.Sorted.{IsPermutation}
use Rattle.terms.specs.Listing.{Progress, IsNextLevel, IsNextWeight}
use Rattle.terms.specs.Place.{goal_place}
use Rattle.terms.specs.View.{expr}
use Rattle.terms.specs.declared.term.Term.{Term}
use Rattle.partial_terms.specs.Built.{AreTermsOf}
use Rattle.reconstruction.specs.Levelled.{AreComplete, IsAt, IsLeastHeld, with_held}
use Rattle.reconstruction.specs.Partial.{waiting_with}
use Rattle.reconstruction.specs.Pending.{Pending}
use Rattle.partial_terms.specs.Popped.{IsPopped, NoneLost}
use Rattle.reconstruction.specs.Rebuilding.{HoldsKey, IsBegun, held_shown}
use Rattle.reconstruction.specs.Running.{IsRunning}
use Rattle.partial_terms.specs.Search.{fronts}
use Rattle.reconstruction.specs.Tabled.{front_of, stack_of, seen, IsHeld, AreHeld, AreGrown, Grew}
use Rattle.reconstruction.specs.Tallied.{capped, held_many, AreTallied}
use Rattle.reconstruction.specs.Variables.{numbers_at}
use Rattle.reconstruction.specs.declared.item.Item.{Item}
use Rattle.reconstruction.specs.declared.item.Arena.{Arena}
use Rattle.reconstruction.specs.declared.numbered_place.NumberedPlace.{NumberedPlace}
use Rattle.reconstruction.specs.declared.tables.Tables.{Tables}
use Rattle.reconstruction.proofs.Making.{moved_at, step_taken, step_grown, at_grown}
use Rattle.reconstruction.proofs.Remaining.{none_lost_taken, none_lost_grown, none_lost_kept}
use Rattle.reconstruction.proofs.Rounds.{begun_by, on_begun, at_begun, on_first, on_next, at_after, next_level}
use Rattle.reconstruction.proofs.Seeking.{head_held}
use Rattle.reconstruction.proofs.Tallies.{popped_taken, popped_grow, popped_kept, tally_held, tally_first, tally_stepped, tally_within}

-- an item is held
pub running_next : (t : Tables) (a : Arena) (from level : ℕ) (p q : Pending) (found : List ℕ) → IsRunning t a from level p found → IsPermutation (with_held p.held p.queue) (with_held q.held q.queue) → ((n : ℕ) → p.pops ≡ capped (n + held_many p.held) → q.pops ≡ capped (n + held_many q.held)) → IsRunning t a from level q found
running_next t a from level p q found r moved counted = record {
  complete = r.complete;
  at = moved_at t a (max from level) (with_held p.held p.queue) (with_held q.held q.queue) found r.at moved;
  on = r.on;
  tally = tally_held t a level p.held q.held p.queue q.queue p.pops q.pops moved counted r.tally;
}

-- a level is begun
pub running_begun : (t : Tables) (a : Arena) (from level k : ℕ) (p : Pending) (found : List ℕ) → IsRunning t a from level p found → IsBegun t a from level k (with_held p.held p.queue) found → IsRunning t a from k p found
running_begun t a from level k p found r b = record {
  complete = r.complete;
  at = at_begun t a from k (with_held p.held p.queue) found b.up b.at;
  on = on_begun t a from level k (with_held p.held p.queue) found found b;
  tally = tally_within t a level k p.held p.queue p.pops b.past r.tally;
}

-- the level that is begun next
pub running_weight : (t : Tables) (a : Arena) (from level k : ℕ) (p q : Pending) (found shown : List ℕ) → IsRunning t a from level p found → IsPermutation (with_held p.held p.queue) (with_held q.held q.queue) → IsLeastHeld q.held q.queue → shown ≡ found → (shown ≢ [] → k ≡ level) → (shown ≡ [] → HoldsKey k q.held) → IsBegun t a from level k (with_held q.held q.queue) found
running_weight t a from level k p q found shown r moved least same going starting = begun_by t a from level k p.held q.held p.queue q.queue found shown r.complete r.at r.on moved least same going starting

-- at a level that was begun the search stands at its weight
pub running_at : (t : Tables) (a : Arena) (from level : ℕ) (p : Pending) (found : List ℕ) → IsRunning t a from level p found → from ≤ level → IsAt t a level (with_held p.held p.queue) found
running_at t a from level p found r up = (let stands : max from level ≡ level = omega arith in subst (λ n. IsAt t a n (with_held p.held p.queue) found) stands r.at)

pub running_item : (t : Tables) (a : Arena) (from level k : ℕ) (i : Item) (p : Pending) (found : List ℕ) → IsRunning t a from level p found → from ≤ level → p.held ≡ Some (k, i) → IsAt t a level ((k, i) ∷ p.queue) found
running_item t a from level k i p found r up is = subst (λ (x : Option (ℕ × Item)). IsAt t a level (with_held x p.queue) found) is (running_at t a from level p found r up)

pub item_held : (t : Tables) (a : Arena) (from level k : ℕ) (i : Item) (p : Pending) (found : List ℕ) → IsRunning t a from level p found → p.held ≡ Some (k, i) → IsHeld t a k i
item_held t a from level k i p found r is = head_held t a k i p.queue (subst (λ (x : Option (ℕ × Item)). IsAt t a (max from level) (with_held x p.queue) found) is r.at).all

running_stepped : (t : Tables) (a b : Arena) (from level k : ℕ) (i : Item) (p q : Pending) (found now : List ℕ) → IsRunning t a from level p found → from ≤ level → p.held ≡ Some (k, i) → q.held ≡ None → q.pops ≡ p.pops → IsAt t b level q.queue now
    → ((popped : List (List ℕ)) → IsPopped t.env (goal_place t.env) level popped (fronts (seen a ((k, i) ∷ p.queue))) → IsPopped t.env (goal_place t.env) level (front_of a i.front ∷ popped) (fronts (seen b q.queue)))
    → ((popped : List (List ℕ)) → NoneLost t.env popped (fronts (seen a ((k, i) ∷ p.queue))) → NoneLost t.env (front_of a i.front ∷ popped) (fronts (seen b q.queue)))
    → IsRunning t b from level q now
running_stepped t a b from level k i p q found now r up is none pops at step keep =
    let stands : level ≡ max from level = omega arith in
    record {
      complete = r.complete;
      at = subst (λ (x : Option (ℕ × Item)). IsAt t b (max from level) (with_held x q.queue) now) (sym none) (subst (λ n. IsAt t b n q.queue now) stands at);
      on = record { skipped = r.on.skipped; within = r.on.within; begun = λ some. up };
      tally = subst (λ (x : Option (ℕ × Item)). AreTallied t b level x q.queue q.pops) (sym none) (tally_stepped t a b level p.held (k, i) p.queue q.queue p.pops q.pops is pops step keep r.tally);
    }

-- a whole front is found
pub running_taken : (t : Tables) (a : Arena) (from level k : ℕ) (i : Item) (p q : Pending) (found now : List ℕ) → IsRunning t a from level p found → from ≤ level → p.held ≡ Some (k, i) → k ≤ level → stack_of a i.stack ≡ [] → now ≡ found ++ i.front ∷ [] → q ≡ record { held = None; queue = p.queue; pops = p.pops } → IsRunning t a from level q now
running_taken t a from level k i p q found now r up is low none pushed taken =
    let at : IsAt t a level ((k, i) ∷ p.queue) found = running_item t a from level k i p found r up is in
    let left : Pending = record { held = None; queue = p.queue; pops = p.pops } in
    let P : Pending → Type 0 = λ x. IsRunning t a from level x now in
    subst P (sym taken) (running_stepped t a a from level k i p left found now r up is refl refl
    (subst (λ l. IsAt t a level p.queue l) (sym pushed) (step_taken t a level k i p.queue found r.complete at low none))
    (λ popped h. popped_taken t a level k i p.queue found popped r.complete at low h)
    (λ popped h. none_lost_taken t a k i p.queue popped (item_held t a from level k i p found r is) none h))

-- an item gives way to what grows from it
pub running_grown : (t : Tables) (a b : Arena) (from level k rest : ℕ) (s : NumberedPlace) (i : Item) (p q : Pending) (cleared children : List (ℕ × Item)) (found : List ℕ) → IsRunning t a from level p found → from ≤ level → p.held ≡ Some (k, i) → k ≤ level → stack_of a i.stack ≡ s ∷ stack_of a rest
    → cleared ≡ [] → Grew t a b (front_of a i.front) (numbers_at t s) cleared children → IsPermutation (children ++ p.queue) q.queue → q.held ≡ None → q.pops ≡ p.pops → IsRunning t b from level q found
running_grown t a b from level k rest s i p q cleared children found r up is low first empty grew moved none pops =
    let at : IsAt t a level ((k, i) ∷ p.queue) found = running_item t a from level k i p found r up is in
    let after : IsAt t b level q.queue found = step_grown t a b level k rest s i p.queue cleared children q.queue found r.complete at first empty grew moved in
    let others : AreHeld t a p.queue = All-tail (λ (x : ℕ × Item). IsHeld t a x.0 x.1) (k, i) p.queue at.all in
    running_stepped t a b from level k i p q found found r up is none pops after
    (λ popped h. popped_grow t a b level k i (numbers_at t s) p.queue cleared children q.queue found popped r.complete at low empty grew moved others h)
    (λ popped h. none_lost_grown t a b level (k, i) p.queue q.queue found popped grew.grown at after h)

-- what was kept in vain changes nothing
pub running_kept : (t : Tables) (a b : Arena) (from level : ℕ) (p : Pending) (found : List ℕ) → AreGrown a b → IsRunning t a from level p found → IsRunning t b from level p found
running_kept t a b from level p found s r =
    let items = with_held p.held p.queue in
    record {
      complete = r.complete;
      at = at_grown t a b (max from level) items found s r.at;
      on = r.on;
      tally = record {
        popped = r.tally.popped;
        counted = r.tally.counted;
        are = popped_kept t a b level r.tally.popped items s r.at.all r.tally.are;
        none_lost = none_lost_kept t a b r.tally.popped items s r.at.all r.tally.none_lost;
      };
    }

-- a whole level is given, and its fronts are left behind
pub running_given : (t : Tables) (a : Arena) (from level : ℕ) (p : Pending) (found now : List ℕ) → IsRunning t a from level p found → from ≤ level → All (λ q. level < q.0) (with_held p.held p.queue) → now ≡ [] → IsRunning t a (level + 1) level p now
running_given t a from level p found now r up above none = record {
  complete = r.complete;
  at = at_after t a level (with_held p.held p.queue) found now r.complete (running_at t a from level p found r up) above none;
  on = on_next t level now r.on.within none;
  tally = r.tally;
}

pub given_level : (t : Tables) (a : Arena) (from level : ℕ) (p : Pending) (found : List ℕ) (terms : List Term) → IsRunning t a from level p found → IsNextWeight t.env from level → All (λ q. level < q.0) (with_held p.held p.queue) → AreTermsOf t.env (map (front_of a) found) (map expr terms) → IsNextLevel t.env from (record { weight = level; terms = terms })
given_level t a from level p found terms r next above made =
    let up = next.after in
    let items = with_held p.held p.queue in
    let at : IsAt t a level items found = running_at t a from level p found r up in
    let begun : IsBegun t a from level level items found = record { at = at; up = up; past = omega arith; within = next.within; skipped = next.before; met = next.some } in
    next_level t a a from level level items items found found terms r.complete begun at above made

-- what holds of the keys that are seen holds of those of the items
keys-unseen : (a : Arena) (k : ℕ) (items : List (ℕ × Item)) → All (λ q. k < q.0) (seen a items) → All (λ q. k < q.0) items
keys-unseen a k [] all = All-nil (λ (q : ℕ × Item). k < q.0)
keys-unseen a k (x ∷ items) all = All-cons (λ (q : ℕ × Item). k < q.0) x items (All-head (λ (q : ℕ × List ℕ). k < q.0) (x.0, front_of a x.1.front) (seen a items) all) (keys-unseen a k items (All-tail (λ (q : ℕ × List ℕ). k < q.0) (x.0, front_of a x.1.front) (seen a items) all))

shown_with : (a : Arena) (h : Option (ℕ × Item)) (items : List (ℕ × Item)) → waiting_with (held_shown a h) (seen a items) ≡ seen a (with_held h items)
shown_with a None items = refl
shown_with a (Some q) items = refl

pub all_unseen : (a : Arena) (k : ℕ) (p : Pending) → All (λ q. k < q.0) (waiting_with (held_shown a p.held) (seen a p.queue)) → All (λ q. k < q.0) (with_held p.held p.queue)
all_unseen a k p all = keys-unseen a k (with_held p.held p.queue) (subst (λ (l : List (ℕ × List ℕ)). All (λ q. k < q.0) l) (shown_with a p.held p.queue) all)

pub all_seen : (a : Arena) (k : ℕ) (p : Pending) → All (λ q. k < q.0) (with_held p.held p.queue) → All (λ q. k < q.0) (waiting_with (held_shown a p.held) (seen a p.queue))
all_seen a k p all = subst (λ (l : List (ℕ × List ℕ)). All (λ q. k < q.0) l) (sym (shown_with a p.held p.queue)) (All-map (λ (q : ℕ × List ℕ). k < q.0) (λ (q : ℕ × Item). (q.0, front_of a q.1.front)) (with_held p.held p.queue) all)

-- before the first level
pub running_first : (t : Tables) (a : Arena) (p : Pending) (items : List (ℕ × Item)) (pops : ℕ) (found : List ℕ) → AreComplete t → IsAt t a 0 items [] → pops ≡ 0 → p ≡ record { held = None; queue = items; pops = pops } → found ≡ [] → IsRunning t a 0 0 p found
running_first t a p items pops found ready at none is empty =
    let first : Pending = record { held = None; queue = items; pops = pops } in
    let P : Pending → Type 0 = λ x. IsRunning t a 0 0 x found in
    subst P (sym is) (subst (λ (l : List ℕ). IsRunning t a 0 0 first l) (sym empty) (record {
      complete = ready;
      at = at;
      on = on_first t [] refl;
      tally = tally_first t a items pops at none;
    }))

-- a level that is whole is the next one
pub given_next : (t : Tables) (a : Arena) (from level k : ℕ) (p : Pending) (found : List ℕ) (terms : List Term) (g : Progress) → IsRunning t a from level p found → record { parts = t.env; from = from } ≡ g → level ≡ k → IsNextWeight g.parts g.from k → All (λ q. level < q.0) (with_held p.held p.queue) → AreTermsOf t.env (map (front_of a) found) (map expr terms)
    → IsNextLevel g.parts g.from (record { weight = k; terms = terms })
given_next t a from level k p found terms g r so_far stands next above made =
    let Q : Progress → Type 0 = λ x. IsNextWeight x.parts x.from k in
    let here : IsNextWeight t.env from level = subst (λ n. IsNextWeight t.env from n) (sym stands) (subst Q (sym so_far) next) in
    let level_is : IsNextLevel t.env from (record { weight = level; terms = terms }) = given_level t a from level p found terms r here above made in
    let P : Progress → Type 0 = λ x. IsNextLevel x.parts x.from (record { weight = k; terms = terms }) in
    subst P so_far (subst (λ n. IsNextLevel t.env from (record { weight = n; terms = terms })) stands level_is)

-- What is known while states are marked by a worklist.
use Rattle.std.proofs.Common.{◌≡◌, ◌⊎◌, inl, inr, ℕ, zero, suc, ◌+◌, ◌<◌, ◌≤◌, Bool, true, false, ◌==◌, cond, List, [], ◌∷◌, ◌++◌, length, map, drop, get_or, set, slice_get, Option, Some, None, refl, sym, ap, subst, ◌∙◌, arith, drop-cons}
use Rattle.std.specs.List.{list_all, list_any}
use Rattle.std.proofs.lemmas.Bool.{false≢true, and_parts, and_from, or_cases, or_left, or_right, eqb-true, eq-eqb, cases_eq}
use Rattle.std.proofs.lemmas.List.{get_or-set_same, get_or-set_other}
use Rattle.std.proofs.lemmas.Option.{slice_get-get_or, slice_get_within, get_or_from_slice_get}
use Rattle.number_places.specs.Places.{places_of, places_from}
use Rattle.succinct.specs.Sets.{has}
use Rattle.succinct.specs.declared.kind.Succinct.{Succinct}
use Rattle.succinct.proofs.Numberings.{get_append}
use Rattle.patterns.specs.Met.{AreSound}
use Rattle.patterns.specs.States.{Space, types_at, place_sought, marked_at, need_marked, needs_marked, kind_marked, kinds_of, is_seen, IsSettledAt, IsSettled}
use Rattle.patterns.specs.Worklist.{AreTargets, AreUses, Waits, IsPending, IsQuiet, ends_needs, ends_marked}
use Rattle.patterns.specs.declared.state.State.{State}
use Rattle.patterns.specs.declared.watchers.Use.{Use}
use Rattle.patterns.proofs.Mets.{in_ends, ends_in, any_member, some_member, sound-set, sound-mark}
use Rattle.patterns.proofs.Tables.{remap}

get_last : {X : Type 0} (xs : List X) (x : X) → slice_get (xs ++ x ∷ []) (length xs) ≡ Some x
get_last [] x = refl
get_last (y ∷ xs) x = get_last xs x

some_eq : {X : Type 0} (x y : X) → Some x ≡ Some y → x ≡ y
some_eq x y h = cc

-- the place of a number is among its places
has-places : (ns : List ℕ) (j e i : ℕ) → slice_get ns e ≡ Some j → has (i + e) (places_from i j ns) ≡ true
has-places [] j e i h = cc
has-places (n ∷ ns) j zero i h =
    let same : n ≡ j = cc in
    let rest : List ℕ = places_from (i + 1) j ns in
    let z : i + 0 ≡ i = omega arith in
    ap (λ c. has (i + 0) (cond c (i ∷ rest) rest)) (eq-eqb n j same) ∙ or_left (i + 0 == i) (has (i + 0) rest) (eq-eqb (i + 0) i z)
has-places (n ∷ ns) j (suc e) i h =
    let rest : List ℕ = places_from (i + 1) j ns in
    let m : i + suc e ≡ i + 1 + e = omega arith in
    go (n == j) (ap (λ k. has k rest) m ∙ has-places ns j e (i + 1) h)
  where
    go : (b : Bool) → has (i + suc e) (places_from (i + 1) j ns) ≡ true → has (i + suc e) (cond b (i ∷ places_from (i + 1) j ns) (places_from (i + 1) j ns)) ≡ true
    go false h' = h'
    go true h' = or_right (i + suc e == i) (has (i + suc e) (places_from (i + 1) j ns)) h'

drop-past : (xs : List ℕ) (n : ℕ) → length xs ≤ n → drop n xs ≡ []
drop-past [] zero past = refl
drop-past [] (suc n) past = refl
drop-past (x ∷ xs) zero past = absurd (omega (arith, past))
drop-past (x ∷ xs) (suc n) past = drop-past xs n (omega (arith, past))

module _ (p : Space) (kinds : List Succinct) (states : List State) where
  -- with one mark more a need is met as before, or is sought at the state that was marked
  one-need : (marks : List Bool) (m : ℕ) (s : State) (n : ℕ) → need_marked p states (set marks m true) s n ≡ true → (place_sought p states s (slice_get p.wanted n) ≡ Some m) ⊎ (need_marked p states marks s n ≡ true)
  one-need marks m s n h = go (place_sought p states s (slice_get p.wanted n)) refl h
    where
      go : (o : Option ℕ) → place_sought p states s (slice_get p.wanted n) ≡ o → marked_at (set marks m true) o ≡ true → (place_sought p states s (slice_get p.wanted n) ≡ Some m) ⊎ (need_marked p states marks s n ≡ true)
      go None e h' = absurd (false≢true h')
      go (Some t) e h' = elim (cases_eq t m) [
        | inl same ↦ inl (e ∙ ap (λ x. Some x) same)
        | inr apart ↦ inr (ap (marked_at marks) e ∙ sym (get_or-set_other marks m t true false apart) ∙ h')
      ]

  all-needs : (marks : List Bool) (m : ℕ) (s : State) (ns : List ℕ) → list_all (λ n. need_marked p states (set marks m true) s n) ns ≡ true
      → ((n : ℕ) × (has n ns ≡ true) × (place_sought p states s (slice_get p.wanted n) ≡ Some m)) ⊎ (list_all (λ n. need_marked p states marks s n) ns ≡ true)
  all-needs marks m s [] h = inr refl
  all-needs marks m s (n ∷ ns) h =
      let both = and_parts (need_marked p states (set marks m true) s n) (list_all (λ k. need_marked p states (set marks m true) s k) ns) h in
      elim (one-need marks m s n both.0) [
        | inl here ↦ inl (n, or_left (n == n) (has n ns) (eq-eqb n n refl), here)
        | inr old ↦ elim (all-needs marks m s ns both.1) [
          | inl later ↦ inl (later.0, or_right (later.0 == n) (has later.0 ns) later.1, later.2)
          | inr olds ↦ inr (and_from (need_marked p states marks s n) (list_all (λ k. need_marked p states marks s k) ns) old olds)
        ]
      ]

  pub quiet-none : (uses : List Use) (marks : List Bool) (worklist : List ℕ) (i : ℕ) (numbers : List ℕ) → IsQuiet p kinds states uses marks worklist i numbers 0
  quiet-none uses marks worklist i numbers = record {
    bound = λ place s low at in_set. absurd (omega (arith, low));
    met = λ place k s kind low at found gives all unmarked. absurd (omega (arith, low));
  }

  waits-kept : (worklist : List ℕ) (i m : ℕ) (s : State) (kind : Succinct) → Waits p states worklist i s kind → Waits p states (worklist ++ m ∷ []) i s kind
  waits-kept worklist i m s kind w = record { need = w.need; wanted = w.wanted; at = w.at; sought = w.sought; place = w.place; later = w.later; stands = get_append worklist (m ∷ []) w.place w.at w.stands }

  -- one mark more, of a state that then is to be looked at
  pub quiet-mark : (uses : List Use) (marks : List Bool) (worklist : List ℕ) (i : ℕ) (numbers : List ℕ) (count m : ℕ) → i ≤ length worklist → m < length marks → IsQuiet p kinds states uses marks worklist i numbers count → IsQuiet p kinds states uses (set marks m true) (worklist ++ m ∷ []) i numbers count
  quiet-mark uses marks worklist i numbers count m low here q = record {
    bound = λ place s less at in_set. elim (cases_eq place m) [
      | inl same ↦ ap (λ n. get_or (set marks m true) n false) same ∙ get_or-set_same marks m true false here
      | inr apart ↦ get_or-set_other marks m place true false apart ∙ q.bound place s less at in_set
    ];
    met = λ place k s kind less at found gives all unmarked. elim (cases_eq place m) [
      | inl same ↦ absurd (false≢true (sym unmarked ∙ ap (λ n. get_or (set marks m true) n false) same ∙ get_or-set_same marks m true false here))
      | inr apart ↦ elim (all-needs marks m s kind.needs all) [
        | inl w ↦ inl (record { need = w.0; wanted = w.1; at = m; sought = w.2; place = length worklist; later = low; stands = get_last worklist m })
        | inr old ↦ elim (q.met place k s kind less at found gives old (sym (get_or-set_other marks m place true false apart) ∙ unmarked)) [
          | inl waits ↦ inl (waits-kept worklist i m s kind waits)
          | inr pending ↦ inr pending
        ]
      ]
    ];
  }

  -- a state that has all its needs marked is seen to be inhabited
  pub seen-by : (marks : List Bool) (s : State) (k : ℕ) (kind : Succinct) → slice_get kinds k ≡ Some kind → kind.result ≡ s.goal → list_all (λ n. need_marked p states marks s n) kind.needs ≡ true → is_seen p kinds states marks s ≡ true
  seen-by marks s k kind found gives all =
      let z : 0 + k ≡ k = omega arith in
      let ends : has k (kinds_of kinds s.goal) ≡ true = ap (λ m. has m (kinds_of kinds s.goal)) (sym z) ∙ in_ends kinds s.goal k 0 kind found gives in
      or_right (has s.goal (types_at p s.set)) (list_any (λ j. kind_marked p kinds states marks s j) (kinds_of kinds s.goal)) (any_member (λ j. kind_marked p kinds states marks s j) (kinds_of kinds s.goal) k ends (ap (needs_marked p states marks s) found ∙ all))

  -- one state more that is marked where it is seen to be inhabited
  pub quiet-more : (uses : List Use) (marks : List Bool) (worklist : List ℕ) (i : ℕ) (numbers : List ℕ) (count : ℕ) → IsSettledAt p kinds states marks count → IsQuiet p kinds states uses marks worklist i numbers count → IsQuiet p kinds states uses marks worklist i numbers (count + 1)
  quiet-more uses marks worklist i numbers count settled q = record {
    bound = λ place s less at in_set. elim (cases_eq place count) [
      | inl same ↦ ap (λ n. get_or marks n false) same ∙ settled s (ap (slice_get states) (sym same) ∙ at) (or_left (has s.goal (types_at p s.set)) (list_any (λ k. kind_marked p kinds states marks s k) (kinds_of kinds s.goal)) in_set)
      | inr apart ↦ q.bound place s (omega (arith, less, apart)) at in_set
    ];
    met = λ place k s kind less at found gives all unmarked. elim (cases_eq place count) [
      | inl same ↦ absurd (false≢true (sym unmarked ∙ ap (λ n. get_or marks n false) same ∙ settled s (ap (slice_get states) (sym same) ∙ at) (seen-by marks s k kind found gives all)))
      | inr apart ↦ q.met place k s kind (omega (arith, less, apart)) at found gives all unmarked
    ];
  }

  -- a use that was tried
  pub quiet-drop : (uses : List Use) (marks : List Bool) (worklist : List ℕ) (i number : ℕ) (rest : List ℕ) (count : ℕ)
      → ((one : Use) (s : State) (kind : Succinct) → slice_get uses number ≡ Some one → slice_get states one.place ≡ Some s → slice_get kinds one.kind ≡ Some kind → kind.result ≡ s.goal → list_all (λ n. need_marked p states marks s n) kind.needs ≡ true → get_or marks one.place false ≡ true)
      → IsQuiet p kinds states uses marks worklist i (number ∷ rest) count → IsQuiet p kinds states uses marks worklist i rest count
  quiet-drop uses marks worklist i number rest count tried q = record {
    bound = q.bound;
    met = λ place k s kind less at found gives all unmarked. elim (q.met place k s kind less at found gives all unmarked) [
      | inl waits ↦ inl waits
      | inr pending ↦ elim (or_cases (pending.number == number) (has pending.number rest) pending.numbered) [
        | inl here ↦ (
            let is : slice_get uses number ≡ Some pending.one = ap (slice_get uses) (sym (eqb-true pending.number number here)) ∙ pending.is in
            let mark = tried pending.one s kind is (ap (slice_get states) pending.of_state ∙ at) (ap (slice_get kinds) pending.of_kind ∙ found) gives all in
            absurd (false≢true (sym unmarked ∙ ap (λ n. get_or marks n false) (sym pending.of_state) ∙ mark)))
        | inr later ↦ inr (record { number = pending.number; one = pending.one; numbered = later; is = pending.is; of_state = pending.of_state; of_kind = pending.of_kind })
      ]
    ];
  }

  -- the next state of the worklist is looked at: its uses are to be tried
  pub quiet-next : (uses : List Use) (marks : List Bool) (worklist : List ℕ) (i t : ℕ) (numbers : List ℕ) (count : ℕ) → slice_get worklist i ≡ Some t → AreUses p kinds states uses → ((e : ℕ) (one : Use) → slice_get uses e ≡ Some one → one.target ≡ t → has e numbers ≡ true)
      → IsQuiet p kinds states uses marks worklist i [] count → IsQuiet p kinds states uses marks worklist (i + 1) numbers count
  quiet-next uses marks worklist i t numbers count first used listed q = record {
    bound = q.bound;
    met = λ place k s kind less at found gives all unmarked. elim (q.met place k s kind less at found gives all unmarked) [
      | inl w ↦ elim (cases_eq w.place i) [
        | inl same ↦ (
            let here : w.at ≡ t = some_eq w.at t (sym w.stands ∙ ap (slice_get worklist) same ∙ first) in
            let one = used place k s kind at found gives w.need t w.wanted (w.sought ∙ ap (λ x. Some x) here) in
            inr (record { number = one.0; one = record { target = t; place = place; kind = k }; numbered = listed one.0 (record { target = t; place = place; kind = k }) one.1 refl; is = one.1; of_state = refl; of_kind = refl }))
        | inr apart ↦ (let l = w.later in inl (record { need = w.need; wanted = w.wanted; at = w.at; sought = w.sought; place = w.place; later = omega (arith, l, apart); stands = w.stands }))
      ]
      | inr pending ↦ absurd (false≢true pending.numbered)
    ];
  }

  -- where no state is to be looked at, nothing more can be marked
  pub quiet-end : (uses : List Use) (marks : List Bool) (worklist : List ℕ) (i : ℕ) → length worklist ≤ i → IsQuiet p kinds states uses marks worklist i [] (length states) → IsSettled p kinds states marks
  quiet-end uses marks worklist i past q place s at seen = elim (or_cases (has s.goal (types_at p s.set)) (list_any (λ k. kind_marked p kinds states marks s k) (kinds_of kinds s.goal)) seen) [
    | inl in_set ↦ q.bound place s low at in_set
    | inr some ↦ (
        let m = some_member (λ k. kind_marked p kinds states marks s k) (kinds_of kinds s.goal) some in
        let e = ends_in kinds s.goal m.0 0 m.1 in
        let same : m.0 ≡ e.1 = (let r = e.2 in omega (arith, r)) in
        let found : slice_get kinds m.0 ≡ Some e.0 = ap (slice_get kinds) same ∙ e.3 in
        let marked : needs_marked p states marks s (Some e.0) ≡ true = ap (needs_marked p states marks s) (sym found) ∙ m.2 in
        is_marked m.0 e.0 found e.4 marked (get_or marks place false) refl)
  ]
    where
      low : place < length states
      low = slice_get_within states place s at

      none : (k : ℕ) (kind : Succinct) → Waits p states worklist i s kind ⊎ IsPending uses [] place k → ⊥
      none k kind (inl w) = (let within = slice_get_within worklist w.place w.at w.stands in let later = w.later in omega (arith, within, later, past))
      none k kind (inr pending) = false≢true pending.numbered

      is_marked : (k : ℕ) (kind : Succinct) → slice_get kinds k ≡ Some kind → kind.result ≡ s.goal → list_all (λ n. need_marked p states marks s n) kind.needs ≡ true → (b : Bool) → get_or marks place false ≡ b → b ≡ true
      is_marked k kind found gives all true e = refl
      is_marked k kind found gives all false e = absurd (none k kind (q.met place k s kind low at found gives all e))

  -- a state that was marked, or that wasn't seen to be inhabited
  settled-marked : (marks : List Bool) (place : ℕ) → get_or marks place false ≡ true → IsSettledAt p kinds states marks place
  settled-marked marks place is s at seen = is

  settled-unseen : (marks : List Bool) (place : ℕ) (from : State) → slice_get states place ≡ Some from → is_seen p kinds states marks from ≡ false → IsSettledAt p kinds states marks place
  settled-unseen marks place from here unseen s at seen = absurd (false≢true (sym unseen ∙ ap (is_seen p kinds states marks) (some_eq from s (sym here ∙ at)) ∙ seen))

  pub quiet-seen : (uses : List Use) (marks : List Bool) (worklist : List ℕ) (place : ℕ) → place < length marks → IsQuiet p kinds states uses marks worklist 0 [] place → IsQuiet p kinds states uses (set marks place true) (worklist ++ place ∷ []) 0 [] (place + 1)
  quiet-seen uses marks worklist place low q = quiet-more uses (set marks place true) (worklist ++ place ∷ []) 0 [] place (settled-marked (set marks place true) place (get_or-set_same marks place true false low)) (quiet-mark uses marks worklist 0 [] place place (omega arith) low q)

  pub quiet-unseen : (uses : List Use) (marks : List Bool) (worklist : List ℕ) (place : ℕ) (from : State) → slice_get states place ≡ Some from → is_seen p kinds states marks from ≡ false → IsQuiet p kinds states uses marks worklist 0 [] place → IsQuiet p kinds states uses marks worklist 0 [] (place + 1)
  quiet-unseen uses marks worklist place from here unseen q = quiet-more uses marks worklist 0 [] place (settled-unseen marks place from here unseen) q

  -- a kind of which all needs are marked
  record EndsThere (marks : List Bool) (s : State) (k : ℕ) : Type 0 where
    kind : Succinct
    found : slice_get kinds k ≡ Some kind
    gives : kind.result ≡ s.goal
    all : list_all (λ n. need_marked p states marks s n) kind.needs ≡ true

  ends-there : (marks : List Bool) (s : State) (k : ℕ) → ends_marked p kinds states marks s k ≡ true → EndsThere marks s k
  ends-there marks s k h = go (slice_get kinds k) refl h
    where
      go : (o : Option Succinct) → slice_get kinds k ≡ o → ends_needs p states marks s o ≡ true → EndsThere marks s k
      go None e h' = absurd (false≢true h')
      go (Some kind) e h' = (
          let both = and_parts (kind.result == s.goal) (list_all (λ n. need_marked p states marks s n) kind.needs) h' in
          record { kind = kind; found = e; gives = eqb-true kind.result s.goal both.0; all = both.1 })

  pub sound-ends : (marks : List Bool) (i k : ℕ) (s : State) → slice_get states i ≡ Some s → ends_marked p kinds states marks s k ≡ true → AreSound p kinds states marks → AreSound p kinds states (set marks i true)
  sound-ends marks i k s at h sound = (let e = ends-there marks s k h in sound-set p kinds states marks (set marks i true) i s sound at (seen-by marks s k e.kind e.found e.gives e.all) refl)

  -- a use whose kind isn't met
  pub quiet-unmet : (uses : List Use) (marks : List Bool) (worklist : List ℕ) (i number : ℕ) (rest : List ℕ) (count : ℕ) (one : Use) (from : State) → slice_get uses number ≡ Some one → slice_get states one.place ≡ Some from → ends_marked p kinds states marks from one.kind ≡ false
      → IsQuiet p kinds states uses marks worklist i (number ∷ rest) count → IsQuiet p kinds states uses marks worklist i rest count
  quiet-unmet uses marks worklist i number rest count one from is here unmet q = quiet-drop uses marks worklist i number rest count (λ other s kind at_number at found gives all. (
      let same : one ≡ other = some_eq one other (sym is ∙ at_number) in
      let state : from ≡ s = some_eq from s (sym here ∙ ap (λ (u : Use). slice_get states u.place) same ∙ at) in
      let there : slice_get kinds one.kind ≡ Some kind = ap (λ (u : Use). slice_get kinds u.kind) same ∙ found in
      let both : ends_needs p states marks s (Some kind) ≡ true = and_from (kind.result == s.goal) (list_all (λ n. need_marked p states marks s n) kind.needs) (eq-eqb kind.result s.goal gives) all in
      absurd (false≢true (sym unmet ∙ ap (λ t. ends_marked p kinds states marks t one.kind) state ∙ ap (ends_needs p states marks s) there ∙ both)))) q

  -- a use of a state that is marked already, or of none
  pub quiet-marked : (uses : List Use) (marks : List Bool) (worklist : List ℕ) (i number : ℕ) (rest : List ℕ) (count : ℕ) (one : Use) → slice_get uses number ≡ Some one → get_or marks one.place false ≡ true
      → IsQuiet p kinds states uses marks worklist i (number ∷ rest) count → IsQuiet p kinds states uses marks worklist i rest count
  quiet-marked uses marks worklist i number rest count one is mark q = quiet-drop uses marks worklist i number rest count (λ other s kind at_number at found gives all. (
      let same : one ≡ other = some_eq one other (sym is ∙ at_number) in
      ap (λ (u : Use). get_or marks u.place false) (sym same) ∙ mark)) q

  pub quiet-past : (uses : List Use) (marks : List Bool) (worklist : List ℕ) (i number : ℕ) (rest : List ℕ) (count : ℕ) (one : Use) → slice_get uses number ≡ Some one → length states ≤ one.place
      → IsQuiet p kinds states uses marks worklist i (number ∷ rest) count → IsQuiet p kinds states uses marks worklist i rest count
  quiet-past uses marks worklist i number rest count one is past q = quiet-drop uses marks worklist i number rest count (λ other s kind at_number at found gives all. (
      let same : one ≡ other = some_eq one other (sym is ∙ at_number) in
      let within = slice_get_within states other.place s at in
      let e : one.place ≡ other.place = ap (λ (u : Use). u.place) same in
      absurd (omega (arith, within, past, e)))) q

  pub quiet-unnumbered : (uses : List Use) (marks : List Bool) (worklist : List ℕ) (i number : ℕ) (rest : List ℕ) (count : ℕ) → slice_get uses number ≡ None
      → IsQuiet p kinds states uses marks worklist i (number ∷ rest) count → IsQuiet p kinds states uses marks worklist i rest count
  quiet-unnumbered uses marks worklist i number rest count none q = quiet-drop uses marks worklist i number rest count (λ other s kind at_number at found gives all. absurd (false≢true (ap is_there (sym none ∙ at_number)))) q
    where
      is_there : Option Use → Bool
      is_there None = false
      is_there (Some x) = true

  -- by what the calls answer
  pub seen-sound : (keys : List State) (marks marks' shown : List Bool) (place : ℕ) (d from : State) (r : Bool) → keys ≡ states → shown ≡ marks → from ≡ get_or keys place d → place < length states → r ≡ is_seen p kinds states shown from → r ≡ true → marks' ≡ set marks place true → AreSound p kinds states marks → AreSound p kinds states marks'
  seen-sound keys marks marks' shown place d from r same view at low answer said is sound = subst (λ m. AreSound p kinds states m) (sym is) (sound-mark p kinds states keys marks shown place d from r same view at low answer said sound)

  at-place : (keys : List State) (place : ℕ) (d from : State) → keys ≡ states → from ≡ get_or keys place d → place < length states → slice_get states place ≡ Some from
  at-place keys place d from same at low = slice_get-get_or states place d low ∙ ap (λ l. Some (get_or l place d)) (sym same) ∙ ap (λ x. Some x) (sym at)

  pub seen-quiet : (uses : List Use) (marks marks' : List Bool) (worklist worklist' : List ℕ) (place : ℕ) → marks' ≡ set marks place true → worklist' ≡ worklist ++ place ∷ [] → place < length marks → IsQuiet p kinds states uses marks worklist 0 [] place → IsQuiet p kinds states uses marks' worklist' 0 [] (place + 1)
  seen-quiet uses marks marks' worklist worklist' place marked ordered low q =
      subst (λ o. IsQuiet p kinds states uses marks' o 0 [] (place + 1)) (sym ordered) (subst (λ m. IsQuiet p kinds states uses m (worklist ++ place ∷ []) 0 [] (place + 1)) (sym marked) (quiet-seen uses marks worklist place low q))

  pub unseen-quiet : (uses : List Use) (keys : List State) (marks shown : List Bool) (worklist : List ℕ) (place : ℕ) (d from : State) (r : Bool) → keys ≡ states → shown ≡ marks → from ≡ get_or keys place d → place < length states → r ≡ is_seen p kinds states shown from → r ≡ false
      → IsQuiet p kinds states uses marks worklist 0 [] place → IsQuiet p kinds states uses marks worklist 0 [] (place + 1)
  unseen-quiet uses keys marks shown worklist place d from r same view at low answer said q = quiet-unseen uses marks worklist place from (at-place keys place d from same at low) (ap (λ m. is_seen p kinds states m from) (sym view) ∙ sym answer ∙ said) q

  pub tried-sound : (keys : List State) (marks marks' shown : List Bool) (place k : ℕ) (d from : State) (r : Bool) → keys ≡ states → shown ≡ marks → from ≡ get_or keys place d → place < length states → r ≡ ends_marked p kinds states shown from k → r ≡ true → marks' ≡ set marks place true → AreSound p kinds states marks → AreSound p kinds states marks'
  tried-sound keys marks marks' shown place k d from r same view at low answer said is sound =
      subst (λ m. AreSound p kinds states m) (sym is) (sound-ends marks place k from (at-place keys place d from same at low) (ap (λ m. ends_marked p kinds states m from k) (sym view) ∙ sym answer ∙ said) sound)

  pub tried-quiet : (uses : List Use) (marks marks' : List Bool) (worklist worklist' : List ℕ) (i number : ℕ) (rest : List ℕ) (count : ℕ) (one : Use) → slice_get uses number ≡ Some one → marks' ≡ set marks one.place true → worklist' ≡ worklist ++ one.place ∷ [] → one.place < length marks → i ≤ length worklist
      → IsQuiet p kinds states uses marks worklist i (number ∷ rest) count → IsQuiet p kinds states uses marks' worklist' i rest count
  tried-quiet uses marks marks' worklist worklist' i number rest count one is marked ordered low far q =
      subst (λ o. IsQuiet p kinds states uses marks' o i rest count) (sym ordered) (subst (λ m. IsQuiet p kinds states uses m (worklist ++ one.place ∷ []) i rest count) (sym marked)
      (quiet-marked uses (set marks one.place true) (worklist ++ one.place ∷ []) i number rest count one is (get_or-set_same marks one.place true false low) (quiet-mark uses marks worklist i (number ∷ rest) count one.place far low q)))

  pub unmet-quiet : (uses : List Use) (keys : List State) (marks shown : List Bool) (worklist : List ℕ) (i number : ℕ) (rest : List ℕ) (count : ℕ) (one : Use) (d from : State) (r : Bool) → slice_get uses number ≡ Some one → keys ≡ states → shown ≡ marks → from ≡ get_or keys one.place d → one.place < length states → r ≡ ends_marked p kinds states shown from one.kind → r ≡ false
      → IsQuiet p kinds states uses marks worklist i (number ∷ rest) count → IsQuiet p kinds states uses marks worklist i rest count
  unmet-quiet uses keys marks shown worklist i number rest count one d from r is same view at low answer said q = quiet-unmet uses marks worklist i number rest count one from is (at-place keys one.place d from same at low) (ap (λ m. ends_marked p kinds states m from one.kind) (sym view) ∙ sym answer ∙ said) q

  pub marked-quiet : (uses : List Use) (marks shown : List Bool) (worklist : List ℕ) (i number : ℕ) (rest : List ℕ) (count : ℕ) (one : Use) (r : Bool) → slice_get uses number ≡ Some one → shown ≡ marks → r ≡ get_or shown one.place false → r ≡ true
      → IsQuiet p kinds states uses marks worklist i (number ∷ rest) count → IsQuiet p kinds states uses marks worklist i rest count
  marked-quiet uses marks shown worklist i number rest count one r is view answer said q = quiet-marked uses marks worklist i number rest count one is (ap (λ m. get_or m one.place false) (sym view) ∙ sym answer ∙ said) q

  -- the uses of the next state are looked at
  pub next-quiet : (uses : List Use) (marks marks' : List Bool) (worklist worklist' : List ℕ) (lists : List (List ℕ)) (shown : List ℕ) (i t count : ℕ) → i < length worklist → t ≡ get_or worklist i 0 → shown ≡ get_or lists t []
      → ((j : ℕ) → j < length states → slice_get lists j ≡ Some (places_of j (map (λ u. u.target) uses))) → AreTargets (length states) uses → AreUses p kinds states uses
      → ((k n : ℕ) → k ≤ length worklist → IsQuiet p kinds states uses marks worklist k shown n → IsQuiet p kinds states uses marks' worklist' k [] n)
      → IsQuiet p kinds states uses marks worklist i [] count → IsQuiet p kinds states uses marks' worklist' (i + 1) [] count
  next-quiet uses marks marks' worklist worklist' lists shown i t count low at view grouped targets used step q = step (i + 1) count (omega (arith, low)) (quiet-next uses marks worklist i t shown count first used listed q)
    where
      first : slice_get worklist i ≡ Some t
      first = slice_get-get_or worklist i 0 low ∙ ap (λ x. Some x) (sym at)

      listed : (e : ℕ) (one : Use) → slice_get uses e ≡ Some one → one.target ≡ t → has e shown ≡ true
      listed e one is here =
          let there : t < length states = subst (λ x. x < length states) here (targets e one is) in
          let same : shown ≡ places_of t (map (λ u. u.target) uses) = view ∙ get_or_from_slice_get lists t (places_of t (map (λ u. u.target) uses)) [] (grouped t there) in
          let target : slice_get (map (λ u. u.target) uses) e ≡ Some t = remap (λ (u : Use). u.target) uses e one is ∙ ap (λ x. Some x) here in
          let z : 0 + e ≡ e = omega arith in
          ap (has e) same ∙ ap (λ m. has m (places_of t (map (λ u. u.target) uses))) (sym z) ∙ has-places (map (λ u. u.target) uses) t e 0 target

  -- one use more is tried
  pub wake-next : (uses : List Use) (marks0 marks marks' : List Bool) (worklist0 worklist worklist' : List ℕ) (numbers : List ℕ) (idx x : ℕ) → idx < length numbers → x ≡ get_or numbers idx 0 → length worklist0 ≤ length worklist
      → ((i count : ℕ) (rest : List ℕ) → i ≤ length worklist → IsQuiet p kinds states uses marks worklist i (x ∷ rest) count → IsQuiet p kinds states uses marks' worklist' i rest count)
      → ((i count : ℕ) → i ≤ length worklist0 → IsQuiet p kinds states uses marks0 worklist0 i numbers count → IsQuiet p kinds states uses marks worklist i (drop idx numbers) count)
      → (i count : ℕ) → i ≤ length worklist0 → IsQuiet p kinds states uses marks0 worklist0 i numbers count → IsQuiet p kinds states uses marks' worklist' i (drop (idx + 1) numbers) count
  wake-next uses marks0 marks marks' worklist0 worklist worklist' numbers idx x low at longer step before i count far q =
      let n : suc idx ≡ idx + 1 = omega arith in
      let split : drop idx numbers ≡ x ∷ drop (idx + 1) numbers = drop-cons numbers idx 0 low ∙ ap (λ y. y ∷ drop (suc idx) numbers) (sym at) ∙ ap (λ m. x ∷ drop m numbers) n in
      step i count (drop (idx + 1) numbers) (omega (arith, far, longer)) (subst (λ l. IsQuiet p kinds states uses marks worklist i l count) split (before i count far q))

  pub wake-end : (uses : List Use) (marks : List Bool) (worklist : List ℕ) (numbers : List ℕ) (idx i count : ℕ) → length numbers ≤ idx → IsQuiet p kinds states uses marks worklist i (drop idx numbers) count → IsQuiet p kinds states uses marks worklist i [] count
  wake-end uses marks worklist numbers idx i count past q = subst (λ l. IsQuiet p kinds states uses marks worklist i l count) (drop-past numbers idx past) q

  -- all states were gone through
  pub quiet-all : (uses : List Use) (marks : List Bool) (worklist : List ℕ) (i : ℕ) (numbers : List ℕ) (count count' : ℕ) → count' ≤ count → IsQuiet p kinds states uses marks worklist i numbers count → IsQuiet p kinds states uses marks worklist i numbers count'
  quiet-all uses marks worklist i numbers count count' past q = record {
    bound = λ place s less. q.bound place s (omega (arith, less, past));
    met = λ place k s kind less. q.met place k s kind (omega (arith, less, past));
  }

-- Seats that were served, and what is seen of their ends.
use Rattle.std.proofs.Common.{◌≡◌, ◌⊎◌, inl, inr, ⊎_elim, ℕ, zero, suc, ◌+◌, ◌≤◌, ◌<◌, List, [], ◌∷◌, ◌++◌, length, map, take, drop, get_or, slice_index_or, Option, Some, None, refl, sym, ap, subst, ◌∙◌, arith, append_assoc}
use Rattle.std.specs.Prelude.{All, slice_get, option_map}
use Rattle.std.proofs.lemmas.Bool.{cases_lt}
use Rattle.std.proofs.lemmas.List.{take_more, get_or-drop, length-map, length-take, map-append}
use Rattle.std.proofs.lemmas.List.Elements.{All-push}
use Rattle.std.proofs.lemmas.Option.{slice_get-map, slice_get_cases, get_or_from_slice_get}
use mathlib.Core.List.{IsPrefix}
use Rattle.decl_index.specs.declared.change.Change.{Change}
use Rattle.outside.specs.declared.end.End.{End}
use Rattle.version_board.specs.declared.view.View.{View}
use Rattle.version_board.specs.Views.{newcomer}
use Rattle.answers.specs.Sessions as new
use Rattle.sessions.specs.declared.ending.Ended.{Ended}
use Rattle.sessions.specs.RunningStates.{running_state}
use Rattle.sessions.specs.Served.{ServesWith}
use Rattle.serving.specs.declared.seats.Seat.{Seat}
use Rattle.serving.specs.Services.{EndView, Lasts, AllLast, IsServedFrom, IsGreatest, AreServedFrom}
use Rattle.serving.specs.Seats.{SeatView, end_of, seat_view, IsSeatServed, EachBecomes}

-- prefixes
pub prefix-trans : {A : Type 0} (xs ys zs : List A) → IsPrefix xs ys → IsPrefix ys zs → IsPrefix xs zs
prefix-trans xs ys zs p q = (p.0 ++ q.0, sym (append_assoc xs p.0 q.0) ∙ (ap (λ w. w ++ q.0) p.1 ∙ q.1))

pub prefix-behind : {A : Type 0} (first xs ys : List A) → IsPrefix xs ys → IsPrefix (first ++ xs) (first ++ ys)
prefix-behind first xs ys p = (p.0, append_assoc first xs p.0 ∙ ap (λ w. first ++ w) p.1)

same-at : {X : Type 0} (xs : List X) (i : ℕ) (d e : X) → i < length xs → slice_index_or xs i d ≡ slice_index_or xs i e
same-at [] i d e lt = absurd (omega (arith, lt))
same-at (x ∷ xs) zero d e lt = refl
same-at (x ∷ xs) (suc i) d e lt = same-at xs i d e (omega (arith, lt))

-- what begins a list begins a longer one, and one more does
pub more-begin : {X A : Type 0} (seen : X → List A) (xs : List X) (i : ℕ) (ys zs : List A) (x : X) → i < length xs
    → ((k : ℕ) (d : X) → k < i → IsPrefix (seen (slice_index_or xs k d)) ys) → IsPrefix ys zs
    → x ≡ slice_index_or xs i x → IsPrefix (seen x) zs
    → (k : ℕ) (d : X) → k < i + 1 → IsPrefix (seen (slice_index_or xs k d)) zs
more-begin seen xs i ys zs x within before up at one k d lt =
    ⊎_elim
    (λ (t : k < i). prefix-trans (seen (slice_index_or xs k d)) ys zs (before k d t) up)
    (λ (t : i ≤ k). let same : k ≡ i = omega (arith, t, lt) in subst (λ j. IsPrefix (seen (slice_index_or xs j d)) zs) (sym same) (subst (λ z. IsPrefix (seen z) zs) (at ∙ same-at xs i x d within) one))
    (cases_lt k i)

-- one seat more
pub seated_more : {J S K H : Type 0} (first : List Change) (old new : List (Seat J S K H)) (seat : Seat J S K H) → new ≡ old ++ seat ∷ []
    → ((k : ℕ) (d : Seat J S K H) → k < length old → (slice_index_or old k d).pass ≡ newcomer first) → seat.pass ≡ newcomer first
    → (k : ℕ) (d : Seat J S K H) → k < length new → (slice_index_or new k d).pass ≡ newcomer first
seated_more first old new seat is all one = subst (All (λ s. s.pass ≡ newcomer first)) (sym is) (All-push (λ s. s.pass ≡ newcomer first) old seat all one)

-- one item more behind the first
pub one-more : {X Y : Type 0} (f : X → Y) (xs : List X) (i : ℕ) (x : X) → i + 1 < length xs → x ≡ get_or (drop 1 xs) i x → map f (take (i + 1) xs) ++ f x ∷ [] ≡ map f (take (i + 1 + 1) xs)
one-more f xs i x l at =
    let is : get_or xs (i + 1) x ≡ x = ap (λ k. get_or xs k x) (omega arith) ∙ sym (get_or-drop 1 xs i x) ∙ sym at in
    sym (ap (map f) (take_more xs (i + 1) x l ∙ ap (λ z. take (i + 1) xs ++ z ∷ []) is) ∙ map-append f (take (i + 1) xs) (x ∷ []))

pub first-many : {X Y : Type 0} (f : X → Y) (xs : List X) (i : ℕ) → i < length xs → length (map f (take (i + 1) xs)) ≡ i + 1
first-many f xs i l = omega (arith, l, length-map (take (i + 1) xs) f, length-take (i + 1) xs)

-- the item that was mapped
pub at-mapped : {X Y : Type 0} (f : X → Y) (xs : List X) (i : ℕ) (y : Y) → slice_get (map f xs) i ≡ Some y → (x : X) × (slice_get xs i ≡ Some x) × (i < length xs) × (get_or xs i x ≡ x) × (f x ≡ y)
at-mapped f xs i y h = elim (slice_get_cases xs i).1 [
  | inl (x, within, at, is) ↦
      let told : Some (f x) ≡ Some y = ap (option_map f) (sym at) ∙ sym (slice_get-map f xs i) ∙ h in
      (x, at, within, is, cc)
  | inr (out, none) ↦
      let told : None ≡ Some y = ap (option_map f) (sym none) ∙ sym (slice_get-map f xs i) ∙ h in
      absurd cc
]

module _ {J S K H : Type 0} (seen : End S K H → EndView) where
  -- a seat that was served
  abbrev ServedTo : Seat J S K H → Seat J S K H → Type 0
  ServedTo c d = IsSeatServed (seat_view seen c) (seat_view seen d)

  served-at : (cs ds : List (Seat J S K H)) (i : ℕ) (c d : Seat J S K H) → EachBecomes ServedTo cs ds → i < length cs → get_or cs i c ≡ c → slice_get ds i ≡ Some d → ServedTo c d
  served-at cs ds i c d each within is at =
      subst (λ x. ServedTo x d) is (subst (λ y. ServedTo (get_or cs i c) y) (get_or_from_slice_get ds i d c at) (each i c within))

  one-served : (first all : List Change) (c d : Seat J S K H) → c.pass ≡ newcomer first → IsPrefix d.pass.seen all → ServedTo c d → IsServedFrom first all (seen c.end) (seen d.end) d.ended
  one-served first all c d new_pass known s = record {
    next = s.next;
    after = running_state d.pass (seen d.end).held (seen d.end).load_faults;
    load_faults = refl;
    serves = subst (λ (p : View). ServesWith new.start s.next (seen c.end).left (seen c.end).written (seen d.end).written (running_state p (seen c.end).held (seen c.end).load_faults) (running_state d.pass (seen d.end).held (seen d.end).load_faults) d.ended) new_pass s.serves;
    seen = known;
    read_cause = s.read_cause;
    write_cause = s.write_cause;
  }

  pub all-served : (first all : List Change) (cs ds : List (Seat J S K H)) (place : ℕ) (ended : Ended) → length ds ≡ length cs
      → All (λ c. c.pass ≡ newcomer first) cs → EachBecomes ServedTo cs ds → All (λ d. IsPrefix d.pass.seen all) ds → IsGreatest (map (λ d. d.ended) ds) place ended
      → AreServedFrom first (map seen (map end_of cs)) (map seen (map end_of ds)) place ended
  all-served first all cs ds place ended same news each known greatest = record {
    all = all;
    endings = map (λ d. d.ended) ds;
    count = omega (arith, same, length-map ds (λ (d : Seat J S K H). d.ended), length-map (map end_of cs) seen, length-map cs (end_of {J = J} {S = S} {K = K} {H = H}));
    each = λ i e f way at_e at_f at_way.
        let (e0, e0_at, e0_within, e0_is, e_same) = at-mapped seen (map end_of cs) i e at_e in
        let (c, c_at, c_within, c_is, c_same) = at-mapped end_of cs i e0 e0_at in
        let (f0, f0_at, f0_within, f0_is, f_same) = at-mapped seen (map end_of ds) i f at_f in
        let (d, d_at, d_within, d_is, d_same) = at-mapped end_of ds i f0 f0_at in
        let (w, w_at, w_within, w_is, w_same) = at-mapped (λ (x : Seat J S K H). x.ended) ds i way at_way in
        let one : d.ended ≡ way = cc in
        let old : seen c.end ≡ e = ap seen c_same ∙ e_same in
        let now : seen d.end ≡ f = ap seen d_same ∙ f_same in
        let pass : c.pass ≡ newcomer first = subst (λ x. x.pass ≡ newcomer first) c_is (news i c c_within) in
        let told : IsPrefix d.pass.seen all = subst (λ x. IsPrefix x.pass.seen all) d_is (known i d d_within) in
        subst (IsServedFrom first all e f) one (subst (λ x. IsServedFrom first all e x d.ended) now (subst (λ x. IsServedFrom first all x (seen d.end) d.ended) old
        (one-served first all c d pass told (served-at cs ds i c d each c_within c_is d_at))));
    greatest = greatest;
  }

  pub all-last : (cs ds : List (Seat J S K H)) → length ds ≡ length cs → EachBecomes ServedTo cs ds → AllLast (map seen (map end_of cs)) (map seen (map end_of ds))
  all-last cs ds same each = record {
    count = omega (arith, same, length-map (map end_of cs) seen, length-map cs (end_of {J = J} {S = S} {K = K} {H = H}), length-map (map end_of ds) seen, length-map ds (end_of {J = J} {S = S} {K = K} {H = H}));
    each = λ i e f at_e at_f.
        let (e0, e0_at, e0_within, e0_is, e_same) = at-mapped seen (map end_of cs) i e at_e in
        let (c, c_at, c_within, c_is, c_same) = at-mapped end_of cs i e0 e0_at in
        let (f0, f0_at, f0_within, f0_is, f_same) = at-mapped seen (map end_of ds) i f at_f in
        let (d, d_at, d_within, d_is, d_same) = at-mapped end_of ds i f0 f0_at in
        subst (Lasts e) (ap seen d_same ∙ f_same) (subst (λ x. Lasts x (seen d.end)) (ap seen c_same ∙ e_same) (served-at cs ds i c d each c_within c_is d_at).lasts);
  }

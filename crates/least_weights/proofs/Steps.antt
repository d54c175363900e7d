-- What one step does to numbers and queue, and what many do.
use Rattle.std.proofs.Common.{◌≡◌, ◌≢◌, ◌⊎◌, inl, inr, ℕ, zero, suc, ◌+◌, ◌<◌, ◌≤◌, Bool, true, false, ◌==◌, List, [], ◌∷◌, length, set, slice_get, get_or, replicate, Some, refl, sym, ap, subst, ◌∙◌, arith, get_or-set_other, get_or-set_same, length-set}
use Rattle.std.specs.List.{Contains}
use Rattle.std.specs.List.Sorted.{IsPermutation}
use Rattle.std.proofs.lemmas.Bool.{false≢true, or_left, or_right, eqb-true, eq-eqb, cases_lt}
use Rattle.std.proofs.lemmas.List.Elements.{Contains-append_right, Contains-append_cases}
use Rattle.std.proofs.lemmas.List.Sorted.{Contains-permutation, length_permutation}
use Rattle.terms.specs.Count.{total}
use Rattle.succinct.specs.Sets.{has}
use Rattle.least_weights.specs.Numbers.{number_at, cost, IsClosed, IsSupport, AreSupported, IsPending, IsSettled, IsStep, worth}
use Rattle.edges.specs.Edges.{Edge}
use Rattle.edges.proofs.Options.{some_eq}

-- sums over lists
pub total-falls : (f f' : ℕ → ℕ) → ((i : ℕ) → f' i ≤ f i) → (xs : List ℕ) → total f' xs ≤ total f xs
total-falls f f' h [] = omega arith
total-falls f f' h (x ∷ xs) = (let here = h x in let rest = total-falls f f' h xs in omega (arith, here, rest))

pub total-apart : (f f' : ℕ → ℕ) (h : ℕ) → ((i : ℕ) → i ≢ h → f' i ≡ f i) → (xs : List ℕ) → has h xs ≡ false → total f' xs ≡ total f xs
total-apart f f' h same [] n = refl
total-apart f f' h same (x ∷ xs) n =
    let here : f' x ≡ f x = same x (λ e. absurd (false≢true (sym n ∙ or_left (h == x) (has h xs) (eq-eqb h x (sym e))))) in
    let rest = total-apart f f' h same xs (later (has h xs) refl) in
    ap (λ k. k + total f' xs) here ∙ ap (λ k. f x + k) rest
  where
    later : (b : Bool) → has h xs ≡ b → has h xs ≡ false
    later false e = e
    later true e = absurd (false≢true (sym n ∙ or_right (h == x) (has h xs) e))

-- all numbers together, after one was set
worth-set : (ns : List ℕ) (i c : ℕ) → i < length ns → worth (set ns i c) + get_or ns i 0 ≡ worth ns + c
worth-set [] i c h = absurd (omega (arith, h))
worth-set (x ∷ ns) zero c h = omega arith
worth-set (x ∷ ns) (suc i) c h = (let r = worth-set ns i c (omega (arith, h)) in omega (arith, r))

-- the number of the state that was lowered, and of the others
pub lowered : (limit : ℕ) (ns : List ℕ) (h c : ℕ) → h < length ns → number_at limit (set ns h c) h ≡ c
lowered limit ns h c low = rw get_or-set_same refl

pub others : (limit : ℕ) (ns : List ℕ) (h c i : ℕ) → i ≢ h → number_at limit (set ns h c) i ≡ number_at limit ns i
others limit ns h c i apart = rw get_or-set_other refl

-- the number in the list is that of the state
pub in-list : (ns : List ℕ) (i d e : ℕ) → i < length ns → get_or ns i d ≡ get_or ns i e
in-list [] i d e h = absurd (omega (arith, h))
in-list (x ∷ ns) zero d e h = refl
in-list (x ∷ ns) (suc i) d e h = in-list ns i d e (omega (arith, h))

-- the states of a longer queue are still pending
contains-cons : {X : Type 0} (xs : List X) (x y : X) → Contains xs y → Contains (x ∷ xs) y
contains-cons xs x y h = Contains-append_right (x ∷ []) xs y h

contains-first : {X : Type 0} (xs : List X) (x : X) → Contains (x ∷ xs) x
contains-first xs x = (0, omega arith, refl)

-- the number of an edge's state falls to what the edge gives
pub record IsLowered (limit : ℕ) (e : Edge) (old new : List ℕ) (queue queue' : List (ℕ × ℕ)) (c : ℕ) : Type 0 where
  pub is_cost : c ≡ cost limit old e
  pub low : e.state < length old
  pub less : c < number_at limit old e.state
  pub new_is : new ≡ set old e.state c
  pub queued : IsPermutation {X = ℕ × ℕ} ((c, e.state) ∷ queue) queue'

module _ (limit : ℕ) (edges : List Edge) (m : ℕ) (e : Edge) (old new : List ℕ) (queue queue' : List (ℕ × ℕ)) (c : ℕ) (stands : slice_get edges m ≡ Some e) (by : IsLowered limit e old new queue queue' c) where
  is_cost : c ≡ cost limit old e
  is_cost = by.is_cost

  low : e.state < length old
  low = by.low

  less : c < number_at limit old e.state
  less = by.less

  new_is : new ≡ set old e.state c
  new_is = by.new_is

  queued : IsPermutation {X = ℕ × ℕ} ((c, e.state) ∷ queue) queue'
  queued = by.queued

  here : number_at limit new e.state ≡ c
  here = ap (λ ns. number_at limit ns e.state) new_is ∙ lowered limit old e.state c low

  there : (i : ℕ) → i ≢ e.state → number_at limit new i ≡ number_at limit old i
  there i apart = ap (λ ns. number_at limit ns i) new_is ∙ others limit old e.state c i apart

  longer : length new ≡ length old
  longer = ap length new_is ∙ length-set old e.state c

  falls : (i : ℕ) → number_at limit new i ≤ number_at limit old i
  falls i = go (i == e.state) refl
    where
      go : (b : Bool) → (i == e.state) ≡ b → number_at limit new i ≤ number_at limit old i
      go true is = (let same = eqb-true i e.state is in subst (λ j. number_at limit new j ≤ number_at limit old j) (sym same) (let h = here in omega (arith, h, less)))
      go false is = (let h = there i (λ q. absurd (false≢true (sym is ∙ eq-eqb i e.state q))) in omega (arith, h))

  cheaper : (f : Edge) → cost limit new f ≤ cost limit old f
  cheaper f = (let t = total-falls (number_at limit old) (number_at limit new) falls f.tails in omega (arith, t))

  same_cost : (f : Edge) → has e.state f.tails ≡ false → cost limit new f ≡ cost limit old f
  same_cost f none = ap (λ k. f.weight + k) (total-apart (number_at limit old) (number_at limit new) e.state there f.tails none)

  pending_head : IsPending limit new queue' e.state
  pending_head = (omega (arith, longer, low), subst (λ n. Contains queue' (n, e.state)) (sym here) (Contains-permutation ((c, e.state) ∷ queue) queue' (c, e.state) queued (contains-first queue (c, e.state))))

  pending_other : (t : ℕ) → t ≢ e.state → IsPending limit old queue t → IsPending limit new queue' t
  pending_other t apart h = (let within = h.0 in omega (arith, longer, within), subst (λ n. Contains queue' (n, t)) (sym (there t apart)) (Contains-permutation ((c, e.state) ∷ queue) queue' (number_at limit old t, t) queued (contains-cons queue (c, e.state) (number_at limit old t, t) h.1)))

  keeps : (f : Edge) → IsSettled limit old queue f → IsSettled limit new queue' f
  keeps f h = go (has e.state f.tails) refl h
    where
      go : (b : Bool) → has e.state f.tails ≡ b → IsSettled limit old queue f → IsSettled limit new queue' f
      go true is h' = inr (e.state, is, pending_head)
      go false is (inl closed) = inl (λ within. (let q = same_cost f is in let r = closed (omega (arith, q, within)) in let d = falls f.state in omega (arith, q, r, d)))
      go false is (inr p) = inr (p.0, p.1, pending_other p.0 (λ q. absurd (false≢true (sym is ∙ ap (λ t. has t f.tails) (sym q) ∙ p.1))) p.2)

  supports : AreSupported limit edges old → AreSupported limit edges new
  supports before i within = go (i == e.state) refl
    where
      go : (b : Bool) → (i == e.state) ≡ b → IsSupport limit edges new i
      go true is =
          let same = eqb-true i e.state is in
          let cheap = cheaper e in
          let at : number_at limit new i ≡ c = ap (number_at limit new) same ∙ here in
          record { number = m; edge = e; is = stands; at_state = sym same; reaches = omega (arith, cheap, is_cost, at) }
      go false is =
          let at = there i (λ q. absurd (false≢true (sym is ∙ eq-eqb i e.state q))) in
          let s : IsSupport limit edges old i = before i (omega (arith, at, within)) in
          let cheap = cheaper s.edge in
          let reaches = s.reaches in
          record { number = s.number; edge = s.edge; is = s.is; at_state = s.at_state; reaches = omega (arith, cheap, reaches, at) }

  pub step-lower : IsStep limit edges old queue new queue'
  step-lower = record {
    as_many = longer;
    settled = keeps;
    supported = supports;
    falls = (
        let s = worth-set old e.state c low in
        let n = ap worth new_is in
        let l = length_permutation ((c, e.state) ∷ queue) queue' queued in
        let at = in-list old e.state (limit + 1) 0 low in
        omega (arith, s, n, l, less, at));
  }

  pub settled-lower : IsSettled limit new queue' e
  settled-lower = go (has e.state e.tails) refl
    where
      go : (b : Bool) → has e.state e.tails ≡ b → IsSettled limit new queue' e
      go true is = inr (e.state, is, pending_head)
      go false is = inl (λ within. (let q = same_cost e is in let h = here in omega (arith, q, h, is_cost)))

-- no step, and two steps
pub step-none : (limit : ℕ) (edges : List Edge) (numbers : List ℕ) (queue : List (ℕ × ℕ)) → IsStep limit edges numbers queue numbers queue
step-none limit edges numbers queue = record { as_many = refl; settled = λ e h. h; supported = λ h. h; falls = omega arith }

pub step-then : (limit : ℕ) (edges : List Edge) (n0 n1 n2 : List ℕ) (q0 q1 q2 : List (ℕ × ℕ)) → IsStep limit edges n0 q0 n1 q1 → IsStep limit edges n1 q1 n2 q2 → IsStep limit edges n0 q0 n2 q2
step-then limit edges n0 n1 n2 q0 q1 q2 a b = record {
  as_many = b.as_many ∙ a.as_many;
  settled = λ e h. b.settled e (a.settled e h);
  supported = λ h. b.supported (a.supported h);
  falls = (let x = a.falls in let y = b.falls in omega (arith, x, y));
}

-- the state that was taken is a tail of the edge, under its number
pub record IsTaken (numbers : List ℕ) (limit key state : ℕ) (e : Edge) : Type 0 where
  pub tail : has state e.tails ≡ true
  pub fresh : key ≡ number_at limit numbers state
  pub within : state < length numbers

-- a state taken from the queue: the edges that it isn't a tail of stay settled
pub taken : (limit : ℕ) (numbers : List ℕ) (before after : List (ℕ × ℕ)) (key state : ℕ) (e : Edge) → IsPermutation before ((key, state) ∷ after) → IsSettled limit numbers before e → IsSettled limit numbers after e ⊎ IsTaken numbers limit key state e
taken limit numbers before after key state e popped (inl closed) = inl (inl closed)
taken limit numbers before after key state e popped (inr p) =
    let x : ℕ × ℕ = (number_at limit numbers p.0, p.0) in
    let y : ℕ × ℕ = (key, state) in
    elim (Contains-append_cases (y ∷ []) after x (Contains-permutation before (y ∷ after) x popped p.2.1)) [
      | inl first ↦ inr (only first)
      | inr rest ↦ inl (inr (p.0, p.1, (p.2.0, rest)))
    ]
  where
    only : Contains {X = ℕ × ℕ} ((key, state) ∷ []) (number_at limit numbers p.0, p.0) → IsTaken numbers limit key state e
    only first =
        let x : ℕ × ℕ = (number_at limit numbers p.0, p.0) in
        let y : ℕ × ℕ = (key, state) in
        let q = in-one y x first in
        let s : state ≡ p.0 = ap (λ (z : ℕ × ℕ). z.1) q in
        record { tail = ap (λ t. has t e.tails) s ∙ p.1; fresh = ap (λ (z : ℕ × ℕ). z.0) q ∙ ap (number_at limit numbers) (sym s); within = subst (λ t. t < length numbers) (sym s) p.2.0 }
      where
        in-one : {X : Type 0} (x y : X) → Contains (x ∷ []) y → x ≡ y
        in-one x y (zero, l, h) = h
        in-one x y (suc k, l, h) = absurd (omega (arith, l))

-- one edge more is settled
pub settled-next : (limit : ℕ) (edges : List Edge) (i : ℕ) (x : Edge) (n0 n1 : List ℕ) (q0 q1 : List (ℕ × ℕ)) → slice_get edges i ≡ Some x → IsStep limit edges n0 q0 n1 q1 → ((m : ℕ) (e : Edge) → m < i → slice_get edges m ≡ Some e → IsSettled limit n0 q0 e) → IsSettled limit n1 q1 x → (m : ℕ) (e : Edge) → m < i + 1 → slice_get edges m ≡ Some e → IsSettled limit n1 q1 e
settled-next limit edges i x n0 n1 q0 q1 here step before settled m e low at = go (cases_lt m i)
  where
    go : (m < i) ⊎ (i ≤ m) → IsSettled limit n1 q1 e
    go (inl earlier) = step.settled e (before m e earlier at)
    go (inr now) =
        let same : i ≡ m = omega (arith, now, low) in
        subst (λ (y : Edge). IsSettled limit n1 q1 y) (some_eq x e (sym here ∙ ap (slice_get edges) same ∙ at)) settled

-- from an empty queue no edge waits
pub closed-at-end : (limit : ℕ) (numbers : List ℕ) (queue : List (ℕ × ℕ)) (e : Edge) → queue ≡ [] → IsSettled limit numbers queue e → IsClosed limit numbers e
closed-at-end limit numbers queue e empty (inl closed) = closed
closed-at-end limit numbers queue e empty (inr p) = (let within = p.2.1.1 in let none = ap length empty in absurd (omega (arith, within, none)))

-- at first no state has a number
pub first-supported : (limit : ℕ) (edges : List Edge) (numbers : List ℕ) (n count : ℕ) → n ≡ limit + 1 → numbers ≡ replicate count n → AreSupported limit edges numbers
first-supported limit edges numbers n count top is i within = (let h = ap (λ l. number_at limit l i) is ∙ all-top count i in absurd (omega (arith, within, h, top)))
  where
    all-top : (k j : ℕ) → get_or (replicate k n) j (limit + 1) ≡ n
    all-top zero j = sym top
    all-top (suc k) zero = refl
    all-top (suc k) (suc j) = all-top k j

-- What one step does to numbers and queue, and what many do.
use Rattle.std.proofs.Common.{◌≡◌, ◌≢◌, ◌⊎◌, inl, inr, ℕ, zero, suc, ◌+◌, ◌<◌, ◌≤◌, Bool, true, false, ◌==◌, List, [], ◌∷◌, length, set, get_or, replicate, Option, Some, None, refl, sym, ap, subst, ◌∙◌, arith, get_or-set_other, get_or-set_same, length-set}
use Rattle.std.specs.List.{Contains, list_any}
use Rattle.std.specs.List.Sorted.{IsPermutation}
use Rattle.std.proofs.lemmas.Bool.{false≢true, eqb-true, eq-eqb}
use Rattle.std.proofs.lemmas.List.Elements.{Contains-append_right, Contains-append_cases}
use Rattle.std.proofs.lemmas.List.Sorted.{Contains-permutation, length_permutation}
use Rattle.terms.specs.Count.{total}
use Rattle.terms.specs.Weights.{binders_weight}
use Rattle.terms.specs.declared.parts.Arg.{Arg}
use Rattle.terms.specs.declared.parts.Arg.TheVariants.{Plain, Fun}
use Rattle.terms.specs.declared.parts.Parts.{Parts}
use Rattle.weight_bounds.specs.Bounds.{place}
use Rattle.weight_bounds.specs.Rules.{Rule, IsRule, stands_at, wants_at}
use Rattle.weight_bounds.specs.Numbers.{number_at, arg_cost, cost, IsWithin, IsClosed, IsSupport, AreSupported, IsSolution, IsPending, IsSettled, IsStep, IsLowered, IsSame, IsLowering, IsRelaxed, worth}
use Rattle.weight_bounds.proofs.Lists.{or-none}

-- what arguments weigh falls with the numbers
arg-falls : (g : Parts) (limit : ℕ) (old new : List ℕ) → ((i : ℕ) → number_at limit new i ≤ number_at limit old i) → (left : ℕ) (a : Arg) → arg_cost g limit new left a ≤ arg_cost g limit old left a
arg-falls g limit old new h left (Plain b) = h (place b left)
arg-falls g limit old new h zero (Fun ps r) = omega arith
arg-falls g limit old new h (suc left) (Fun ps r) = (let x = h (place r left) in omega (arith, x))

args-fall : (g : Parts) (limit : ℕ) (old new : List ℕ) → ((i : ℕ) → number_at limit new i ≤ number_at limit old i) → (left : ℕ) (xs : List Arg) → total (arg_cost g limit new left) xs ≤ total (arg_cost g limit old left) xs
args-fall g limit old new h left [] = omega arith
args-fall g limit old new h left (x ∷ xs) = (let here = arg-falls g limit old new h left x in let rest = args-fall g limit old new h left xs in omega (arith, here, rest))

-- and stays where no argument is looked for at the place that changed
no-place : (a h : ℕ) → a == h ≡ false → a ≢ h
no-place a h n e = false≢true (sym n ∙ eq-eqb a h e)

arg-apart : (g : Parts) (limit : ℕ) (old new : List ℕ) (h : ℕ) → ((i : ℕ) → i ≢ h → number_at limit new i ≡ number_at limit old i) → (left : ℕ) (a : Arg) → stands_at h left a ≡ false → arg_cost g limit new left a ≡ arg_cost g limit old left a
arg-apart g limit old new h same left (Plain b) n = same (place b left) (no-place (place b left) h n)
arg-apart g limit old new h same zero (Fun ps r) n = refl
arg-apart g limit old new h same (suc left) (Fun ps r) n = ap (λ k. binders_weight g (length ps) + k) (same (place r left) (no-place (place r left) h n))

args-apart : (g : Parts) (limit : ℕ) (old new : List ℕ) (h : ℕ) → ((i : ℕ) → i ≢ h → number_at limit new i ≡ number_at limit old i) → (left : ℕ) (xs : List Arg) → list_any (stands_at h left) xs ≡ false → total (arg_cost g limit new left) xs ≡ total (arg_cost g limit old left) xs
args-apart g limit old new h same left [] n = refl
args-apart g limit old new h same left (x ∷ xs) n =
    let both = or-none (stands_at h left x) (list_any (stands_at h left) xs) n in
    let here = arg-apart g limit old new h same left x both.0 in
    let rest = args-apart g limit old new h same left xs both.1 in
    ap (λ k. k + total (arg_cost g limit new left) xs) here ∙ ap (λ k. arg_cost g limit old left x + k) rest

-- all numbers together, after one was set
worth-set : (ns : List ℕ) (i c : ℕ) → i < length ns → worth (set ns i c) + get_or ns i 0 ≡ worth ns + c
worth-set [] i c h = absurd (omega (arith, h))
worth-set (x ∷ ns) zero c h = omega arith
worth-set (x ∷ ns) (suc i) c h = (let r = worth-set ns i c (omega (arith, h)) in omega (arith, r))

-- the number at the place that was lowered, and at the others
lowered : (limit : ℕ) (ns : List ℕ) (h c : ℕ) → h < length ns → number_at limit (set ns h c) h ≡ c
lowered limit ns h c low = rw get_or-set_same refl

others : (limit : ℕ) (ns : List ℕ) (h c i : ℕ) → i ≢ h → number_at limit (set ns h c) i ≡ number_at limit ns i
others limit ns h c i apart = rw get_or-set_other refl

-- the number in the list is that at the place
in-list : (ns : List ℕ) (i d e : ℕ) → i < length ns → get_or ns i d ≡ get_or ns i e
in-list [] i d e h = absurd (omega (arith, h))
in-list (x ∷ ns) zero d e h = refl
in-list (x ∷ ns) (suc i) d e h = in-list ns i d e (omega (arith, h))

-- the places of a longer queue are still pending
contains-cons : {X : Type 0} (xs : List X) (x y : X) → Contains xs y → Contains (x ∷ xs) y
contains-cons xs x y h = Contains-append_right (x ∷ []) xs y h

contains-first : {X : Type 0} (xs : List X) (x : X) → Contains (x ∷ xs) x
contains-first xs x = (0, omega arith, refl)

module _ (g : Parts) (limit : ℕ) (r : Rule) (is : IsRule g r) (old new : List ℕ) (queue queue' : List (ℕ × ℕ)) (c : ℕ) (is_cost : c ≡ cost g limit old r) (low : r.at < length old) (by : IsLowered limit r.at c old queue new queue') where
  less : c < number_at limit old r.at
  less = by.less

  new_is : new ≡ set old r.at c
  new_is = by.set_there

  queued : IsPermutation {X = ℕ × ℕ} ((c, r.at) ∷ queue) queue'
  queued = by.queued

  here : number_at limit new r.at ≡ c
  here = ap (λ ns. number_at limit ns r.at) new_is ∙ lowered limit old r.at c low

  there : (i : ℕ) → i ≢ r.at → number_at limit new i ≡ number_at limit old i
  there i apart = ap (λ ns. number_at limit ns i) new_is ∙ others limit old r.at c i apart

  longer : length new ≡ length old
  longer = ap length new_is ∙ length-set old r.at c

  falls : (i : ℕ) → number_at limit new i ≤ number_at limit old i
  falls i = go (i == r.at) refl
    where
      go : (b : Bool) → (i == r.at) ≡ b → number_at limit new i ≤ number_at limit old i
      go true same = subst (λ j. number_at limit new j ≤ number_at limit old j) (sym (eqb-true i r.at same)) (let h = here in omega (arith, h, less))
      go false apart = (let h = there i (no-place i r.at apart) in omega (arith, h))

  cheaper : (f : Rule) → cost g limit new f ≤ cost g limit old f
  cheaper f = (let t = args-fall g limit old new falls f.left f.args in omega (arith, t))

  same_cost : (f : Rule) → wants_at r.at f ≡ false → cost g limit new f ≡ cost g limit old f
  same_cost f none = ap (λ k. f.weight + k) (args-apart g limit old new r.at there f.left f.args none)

  pending_head : IsPending limit new queue' r.at
  pending_head = (omega (arith, longer, low), subst (λ n. Contains queue' (n, r.at)) (sym here) (Contains-permutation ((c, r.at) ∷ queue) queue' (c, r.at) queued (contains-first queue (c, r.at))))

  pending_other : (t : ℕ) → t ≢ r.at → IsPending limit old queue t → IsPending limit new queue' t
  pending_other t apart h = (let within = h.0 in omega (arith, longer, within), subst (λ n. Contains queue' (n, t)) (sym (there t apart)) (Contains-permutation ((c, r.at) ∷ queue) queue' (number_at limit old t, t) queued (contains-cons queue (c, r.at) (number_at limit old t, t) h.1)))

  keeps : (f : Rule) → IsSettled g limit old queue f → IsSettled g limit new queue' f
  keeps f h = go (wants_at r.at f) refl h
    where
      go : (b : Bool) → wants_at r.at f ≡ b → IsSettled g limit old queue f → IsSettled g limit new queue' f
      go true wanted h' = inr (r.at, wanted, pending_head)
      go false none (inl closed) = inl (λ within. (let q = same_cost f none in let k = closed (omega (arith, q, within)) in let d = falls f.at in omega (arith, q, k, d)))
      go false none (inr p) = inr (p.0, p.1, pending_other p.0 (λ q. absurd (false≢true (sym none ∙ ap (λ t. wants_at t f) (sym q) ∙ p.1))) p.2)

  supports : AreSupported g limit old → AreSupported g limit new
  supports before i within = go (i == r.at) refl
    where
      go : (b : Bool) → (i == r.at) ≡ b → IsSupport g limit new i
      go true same =
          let at = eqb-true i r.at same in
          let cheap = cheaper r in
          let number : number_at limit new i ≡ c = ap (number_at limit new) at ∙ here in
          record { rule = r; is = is; here = sym at; reaches = omega (arith, cheap, is_cost, number) }
      go false apart =
          let at = there i (no-place i r.at apart) in
          let s : IsSupport g limit old i = before i (omega (arith, at, within)) in
          let cheap = cheaper s.rule in
          let reaches = s.reaches in
          record { rule = s.rule; is = s.is; here = s.here; reaches = omega (arith, cheap, reaches, at) }

  step-lower : IsStep g limit old queue new queue'
  step-lower = record {
    as_many = longer;
    settled = keeps;
    supported = supports;
    falls = (
        let s = worth-set old r.at c low in
        let n = ap worth new_is in
        let l = length_permutation ((c, r.at) ∷ queue) queue' queued in
        let at = in-list old r.at (limit + 1) 0 low in
        omega (arith, s, n, l, less, at));
  }

  settled-lower : IsSettled g limit new queue' r
  settled-lower = go (wants_at r.at r) refl
    where
      go : (b : Bool) → wants_at r.at r ≡ b → IsSettled g limit new queue' r
      go true wanted = inr (r.at, wanted, pending_head)
      go false none = inl (λ within. (let q = same_cost r none in let h = here in omega (arith, q, h, is_cost)))

-- no step, and two steps
pub step-none : (g : Parts) (limit : ℕ) (numbers : List ℕ) (queue : List (ℕ × ℕ)) → IsStep g limit numbers queue numbers queue
step-none g limit numbers queue = record { as_many = refl; settled = λ e h. h; supported = λ h. h; falls = omega arith }

pub step-then : (g : Parts) (limit : ℕ) (n0 n1 n2 : List ℕ) (q0 q1 q2 : List (ℕ × ℕ)) → IsStep g limit n0 q0 n1 q1 → IsStep g limit n1 q1 n2 q2 → IsStep g limit n0 q0 n2 q2
step-then g limit n0 n1 n2 q0 q1 q2 a b = record {
  as_many = b.as_many ∙ a.as_many;
  settled = λ e h. b.settled e (a.settled e h);
  supported = λ h. b.supported (a.supported h);
  falls = (let x = a.falls in let y = b.falls in omega (arith, x, y));
}

-- nothing changed, since the rule lessened no number
same-relaxed : (g : Parts) (limit : ℕ) (r : Rule) (old new : List ℕ) (queue queue' : List (ℕ × ℕ)) → IsClosed g limit old r → IsSame old queue new queue' → IsRelaxed g limit r old queue new queue'
same-relaxed g limit r old new queue queue' closed same =
    subst (λ q. IsRelaxed g limit r old queue new q) (sym same.queued)
    (subst (λ n. IsRelaxed g limit r old queue n queue) (sym same.numbers) (record { step = step-none g limit old queue; settled = inl closed }))

pub relaxed : (g : Parts) (limit : ℕ) (r : Rule) (old new : List ℕ) (queue queue' : List (ℕ × ℕ)) (o : Option ℕ) → IsRule g r → IsWithin limit (cost g limit old r) o → r.at < length old → IsLowering limit r.at o old queue new queue' → IsRelaxed g limit r old queue new queue'
relaxed g limit r old new queue queue' None is above low same = same-relaxed g limit r old new queue queue' (λ within. absurd (omega (arith, above, within))) same
relaxed g limit r old new queue queue' (Some c) is at low (inl (no_less, same)) = (let e = at.0 in same-relaxed g limit r old new queue queue' (λ within. omega (arith, no_less, e)) same)
relaxed g limit r old new queue queue' (Some c) is at low (inr by) = record { step = step-lower g limit r is old new queue queue' c at.0 low by; settled = settled-lower g limit r is old new queue queue' c at.0 low by }

-- an argument is looked for at the place that was taken, under its number
pub record IsTaken (limit : ℕ) (numbers : List ℕ) (key i : ℕ) (r : Rule) : Type 0 where
  pub wanted : wants_at i r ≡ true
  pub fresh : key ≡ number_at limit numbers i
  pub within : i < length numbers

-- a place taken from the queue: the rules without arguments there stay settled
pub taken : (g : Parts) (limit : ℕ) (numbers : List ℕ) (before after : List (ℕ × ℕ)) (key i : ℕ) (r : Rule) → IsPermutation before ((key, i) ∷ after) → IsSettled g limit numbers before r → IsSettled g limit numbers after r ⊎ IsTaken limit numbers key i r
taken g limit numbers before after key i r popped (inl closed) = inl (inl closed)
taken g limit numbers before after key i r popped (inr p) =
    let x : ℕ × ℕ = (number_at limit numbers p.0, p.0) in
    let y : ℕ × ℕ = (key, i) in
    elim (Contains-append_cases (y ∷ []) after x (Contains-permutation before (y ∷ after) x popped p.2.1)) [
      | inl first ↦ inr (only first)
      | inr rest ↦ inl (inr (p.0, p.1, (p.2.0, rest)))
    ]
  where
    only : Contains {X = ℕ × ℕ} ((key, i) ∷ []) (number_at limit numbers p.0, p.0) → IsTaken limit numbers key i r
    only first =
        let x : ℕ × ℕ = (number_at limit numbers p.0, p.0) in
        let y : ℕ × ℕ = (key, i) in
        let q = in-one y x first in
        let s : i ≡ p.0 = ap (λ (z : ℕ × ℕ). z.1) q in
        record { wanted = ap (λ t. wants_at t r) s ∙ p.1; fresh = ap (λ (z : ℕ × ℕ). z.0) q ∙ ap (number_at limit numbers) (sym s); within = subst (λ t. t < length numbers) (sym s) p.2.0 }
      where
        in-one : {X : Type 0} (x y : X) → Contains (x ∷ []) y → x ≡ y
        in-one x y (zero, l, h) = h
        in-one x y (suc k, l, h) = absurd (omega (arith, l))

-- from an empty queue no rule waits
pub solved-at-end : (g : Parts) (limit : ℕ) (numbers : List ℕ) (queue : List (ℕ × ℕ)) → queue ≡ [] → ((r : Rule) → IsRule g r → IsSettled g limit numbers queue r) → AreSupported g limit numbers → IsSolution g limit numbers
solved-at-end g limit numbers queue empty settled supported = record { closed = λ r is. closed r (settled r is); supported = supported }
  where
    closed : (r : Rule) → IsSettled g limit numbers queue r → IsClosed g limit numbers r
    closed r (inl c) = c
    closed r (inr p) = (let within = p.2.1.1 in let none = ap length empty in absurd (omega (arith, within, none)))

-- at first no place has a number
pub first-supported : (g : Parts) (limit : ℕ) (numbers : List ℕ) (n count : ℕ) → n ≡ limit + 1 → numbers ≡ replicate count n → AreSupported g limit numbers
first-supported g limit numbers n count top is i within = (let h = ap (λ l. number_at limit l i) is ∙ all-top count i in absurd (omega (arith, within, h, top)))
  where
    all-top : (k j : ℕ) → get_or (replicate k n) j (limit + 1) ≡ n
    all-top zero j = sym top
    all-top (suc k) zero = refl
    all-top (suc k) (suc j) = all-top k j

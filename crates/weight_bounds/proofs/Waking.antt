-- What is settled once the sources that want a place's type were gone through.
use Rattle.std.proofs.Common.{◌≡◌, ◌⊎◌, inl, inr, ℕ, zero, suc, ◌+◌, ◌*◌, ◌/◌, ◌%◌, ◌<◌, ◌≤◌, true, ◌==◌, List, [], ◌∷◌, length, get_or, slice_get, Some, sym, ap, subst, ◌∙◌, arith}
use Rattle.std.specs.List.{list_any}
use Rattle.std.specs.List.Sorted.{IsPermutation}
use Rattle.std.proofs.lemmas.Bool.{false≢true, or_cases, or_left, or_right, eqb-true, eq-eqb, cases_lt}
use Rattle.std.proofs.lemmas.Nat.{div-mul-add, mod-mul-add, div_below}
use Rattle.terms.specs.Faults.{IsValid}
use Rattle.terms.specs.Table.{has}
use Rattle.terms.specs.declared.parts.Arg.{Arg}
use Rattle.terms.specs.declared.parts.Arg.TheVariants.{Plain, Fun}
use Rattle.terms.specs.declared.parts.Parts.{Parts}
use Rattle.terms.proofs.Valid.{valid-depth}
use Rattle.weight_bounds.specs.Bounds.{place}
use Rattle.weight_bounds.specs.Rules.{Rule, Source, sources, source_rule, variable_rule, IsRule, of_variable, of_source, stands_at}
use Rattle.weight_bounds.specs.Numbers.{IsStep, IsSettled}
use Rattle.weight_bounds.specs.Relaxed.{parameters}
use Rattle.weight_bounds.specs.Users.{wanted_of, wants, AreUsers}
use Rattle.weight_bounds.proofs.Steps.{IsTaken, taken}

type-of : (b l : ℕ) → l ≤ 3 → place b l / 4 ≡ b
type-of b l few = (let e : place b l ≡ b * 4 + l = omega arith in ap (λ x. x / 4) e ∙ div-mul-add b 4 l (omega (arith, few)))

left-of : (b l : ℕ) → l ≤ 3 → place b l % 4 ≡ l
left-of b l few = (let e : place b l ≡ b * 4 + l = omega arith in ap (λ x. x % 4) e ∙ mod-mul-add b 4 l (omega (arith, few)))

-- an argument that is looked for at a place is of its type, there or under one lambda more
record IsLookedFor (i left t : ℕ) : Type 0 where
  type : i / 4 ≡ t
  lefts : (i % 4 ≡ left) ⊎ (i % 4 + 1 ≡ left)

at-arg : (i left : ℕ) (a : Arg) → left ≤ 3 → stands_at i left a ≡ true → IsLookedFor i left (wanted_of a)
at-arg i left (Plain b) few h =
    let e : i ≡ place b left = sym (eqb-true (place b left) i h) in
    record { type = ap (λ x. x / 4) e ∙ type-of b left few; lefts = inl (ap (λ x. x % 4) e ∙ left-of b left few) }
at-arg i zero (Fun ps r) few h = absurd (false≢true h)
at-arg i (suc l) (Fun ps r) few h =
    let e : i ≡ place r l = sym (eqb-true (place r l) i h) in
    let low : l ≤ 3 = omega (arith, few) in
    let at = ap (λ x. x % 4) e ∙ left-of r l low in
    record { type = ap (λ x. x / 4) e ∙ type-of r l low; lefts = inr (omega (arith, at)) }

record IsWanted (i left : ℕ) (args : List Arg) : Type 0 where
  type : wants (i / 4) args ≡ true
  lefts : (i % 4 ≡ left) ⊎ (i % 4 + 1 ≡ left)

at-args : (i left : ℕ) (args : List Arg) → left ≤ 3 → list_any (stands_at i left) args ≡ true → IsWanted i left args
at-args i left [] few h = absurd (false≢true h)
at-args i left (a ∷ args) few h = elim (or_cases (stands_at i left a) (list_any (stands_at i left) args) h) [
  | inl here ↦ (let r = at-arg i left a few here in record { type = or_left (wanted_of a == i / 4) (wants (i / 4) args) (eq-eqb (wanted_of a) (i / 4) (sym r.type)); lefts = r.lefts })
  | inr later ↦ (let r = at-args i left args few later in record { type = or_right (wanted_of a == i / 4) (wants (i / 4) args) r.type; lefts = r.lefts })
]

-- the listed sources are settled, with so many lambdas left
abbrev pub AreSettled : Parts → ℕ → List ℕ → List (ℕ × ℕ) → List ℕ → ℕ → Type 0
AreSettled g limit numbers queue listed left = left ≤ g.depth → (k : ℕ) → has k listed ≡ true → (s : Source) → slice_get (sources g) k ≡ Some s → IsSettled g limit numbers queue (source_rule left s)

pub woken : (g : Parts) (limit : ℕ) (users : List (List ℕ)) (listed : List ℕ) (key i : ℕ) (n0 n1 n2 : List ℕ) (before q0 q1 q2 : List (ℕ × ℕ)) → IsValid g → AreUsers (sources g) users → length users ≡ length g.types → length n0 ≡ 4 * length g.types
    → listed ≡ get_or users (i / 4) [] → IsPermutation {X = ℕ × ℕ} before ((key, i) ∷ q0) → IsStep g limit n0 q0 n1 q1 → IsStep g limit n1 q1 n2 q2 → AreSettled g limit n1 q1 listed (i % 4) → AreSettled g limit n2 q2 listed (i % 4 + 1)
    → (r : Rule) → IsRule g r → IsSettled g limit n0 before r → IsSettled g limit n2 q2 r
woken g limit users listed key i n0 n1 n2 before q0 q1 q2 valid are types places is popped first second here under r rule settled = elim (taken g limit n0 before q0 key i r popped settled) [
  | inl still ↦ second.settled r (first.settled r still)
  | inr t ↦ go r rule t
]
  where
    go : (x : Rule) → IsRule g x → IsTaken limit n0 key i x → IsSettled g limit n2 q2 x
    go x (of_variable left b deep bound) t = absurd (false≢true t.wanted)
    go x (of_source left k s deep at) t =
        let depth = valid-depth g valid in
        let w : IsWanted i left s.args = at-args i left s.args (omega (arith, deep, depth)) t.wanted in
        let within = t.within in
        let inside : i / 4 < length g.types = div_below i 4 (length g.types) (omega arith) (omega (arith, within, places)) in
        let uses : has k (get_or users (i / 4) []) ≡ true = are k (i / 4) s at w.type (omega (arith, inside, types)) in
        let stands : has k listed ≡ true = ap (has k) is ∙ uses in
        elim w.lefts [
          | inl same ↦ second.settled (source_rule left s) (subst (λ l. IsSettled g limit n1 q1 (source_rule l s)) same (here (omega (arith, same, deep)) k stands s at))
          | inr more ↦ subst (λ l. IsSettled g limit n2 q2 (source_rule l s)) more (under (omega (arith, more, deep)) k stands s at)
        ]

-- all sources are settled, with so many lambdas left
abbrev pub AreAllSettled : Parts → ℕ → List ℕ → List (ℕ × ℕ) → ℕ → Type 0
AreAllSettled g limit numbers queue left = (k : ℕ) (s : Source) → slice_get (sources g) k ≡ Some s → IsSettled g limit numbers queue (source_rule left s)

-- all variables are, with so many lambdas left
abbrev pub AreVariablesSettled : Parts → ℕ → List ℕ → List (ℕ × ℕ) → ℕ → Type 0
AreVariablesSettled g limit numbers queue left = (t : ℕ) → has t (parameters g) ≡ true → IsSettled g limit numbers queue (variable_rule g left t)

-- all are, with fewer lambdas left
pub record AreSettledBelow (g : Parts) (limit : ℕ) (numbers : List ℕ) (queue : List (ℕ × ℕ)) (n : ℕ) : Type 0 where
  pub sources_of : (left : ℕ) → left < n → AreAllSettled g limit numbers queue left
  pub variables_of : (left : ℕ) → left < n → AreVariablesSettled g limit numbers queue left

pub none-below : (g : Parts) (limit : ℕ) (numbers : List ℕ) (queue : List (ℕ × ℕ)) → AreSettledBelow g limit numbers queue 0
none-below g limit numbers queue = record { sources_of = λ left few. absurd (omega (arith, few)); variables_of = λ left few. absurd (omega (arith, few)) }

pub next-below : (g : Parts) (limit n : ℕ) (n0 n1 n2 : List ℕ) (q0 q1 q2 : List (ℕ × ℕ)) → IsStep g limit n0 q0 n1 q1 → IsStep g limit n1 q1 n2 q2 → AreSettledBelow g limit n0 q0 n → AreVariablesSettled g limit n1 q1 n → AreAllSettled g limit n2 q2 n → AreSettledBelow g limit n2 q2 (n + 1)
next-below g limit n n0 n1 n2 q0 q1 q2 first second before variables all = record { sources_of = λ left few. go left few (cases_lt left n); variables_of = λ left few. on left few (cases_lt left n) }
  where
    go : (left : ℕ) → left < n + 1 → (left < n) ⊎ (n ≤ left) → AreAllSettled g limit n2 q2 left
    go left few (inl earlier) k s at = second.settled (source_rule left s) (first.settled (source_rule left s) (before.sources_of left earlier k s at))
    go left few (inr now) k s at = (let same : n ≡ left = omega (arith, few, now) in subst (λ l. IsSettled g limit n2 q2 (source_rule l s)) same (all k s at))

    on : (left : ℕ) → left < n + 1 → (left < n) ⊎ (n ≤ left) → AreVariablesSettled g limit n2 q2 left
    on left few (inl earlier) t bound = second.settled (variable_rule g left t) (first.settled (variable_rule g left t) (before.variables_of left earlier t bound))
    on left few (inr now) t bound = (let same : n ≡ left = omega (arith, few, now) in subst (λ l. IsSettled g limit n2 q2 (variable_rule g l t)) same (second.settled (variable_rule g n t) (variables t bound)))

-- so each rule is, at last
pub all-settled : (g : Parts) (limit n : ℕ) (numbers : List ℕ) (queue : List (ℕ × ℕ)) → g.depth ≤ n → AreAllSettled g limit numbers queue g.depth → AreSettledBelow g limit numbers queue n → (r : Rule) → IsRule g r → IsSettled g limit numbers queue r
all-settled g limit n numbers queue past outside below r (of_variable left t deep bound) = below.variables_of left (omega (arith, deep, past)) t bound
all-settled g limit n numbers queue past outside below r (of_source left k s deep at) = elim (cases_lt left g.depth) [
  | inl under ↦ below.sources_of left (omega (arith, under, past)) k s at
  | inr most ↦ (let same : g.depth ≡ left = omega (arith, deep, most) in subst (λ l. IsSettled g limit numbers queue (source_rule l s)) same (outside k s at))
]

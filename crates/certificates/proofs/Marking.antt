-- States that are told once each, with a mark for each.
use Rattle.std.proofs.Common.{◌≡◌, ◌≢◌, ◌⊎◌, inl, inr, ℕ, zero, suc, ◌≤◌, ◌<◌, Bool, true, false, ◌||◌, List, [], ◌∷◌, ◌++◌, length, set, get_or, get_or-set_same, get_or-set_other, slice_get, Some, refl, sym, ap, ◌∙◌}
use Rattle.std.proofs.lemmas.Bool.{false≢true, cases_lt, cases_eq, eq-eqb, ne_eqb}
use Rattle.std.proofs.lemmas.List.{get_or_past}
use Rattle.succinct.specs.Compression.{AreDistinct}
use Rattle.succinct.specs.Numbering.{IsGrown}
use Rattle.succinct.specs.Sets.{has}
use Rattle.succinct.proofs.Needs.{has-push, has-last, get_push}
use Rattle.succinct.proofs.Numberings.{get_append}
use Rattle.certificates.specs.Told.{IsTold}
use Rattle.certificates.proofs.Steps.{has-get}

or-none : (b : Bool) → b || false ≡ b
or-none true = refl
or-none false = refl

-- a marked state, and another one
mark-same : (marks : List Bool) (s k : ℕ) → s < length marks → k ≡ s → get_or (set marks s true) k false ≡ true
mark-same marks s k low same = ap (λ x. get_or (set marks s true) x false) same ∙ get_or-set_same marks s true false low

mark-other : (marks : List Bool) (s k : ℕ) → k ≢ s → get_or (set marks s true) k false ≡ get_or marks k false
mark-other marks s k apart = get_or-set_other marks s k true false apart

-- the first state
pub told-one : (marks : List Bool) (s : ℕ) → s < length marks → ((k : ℕ) → get_or marks k false ≡ false) → IsTold (s ∷ []) (set marks s true)
told-one marks s low none = record { distinct = one; marked = λ k. at k (cases_eq k s) }
  where
    one : AreDistinct (s ∷ [])
    one zero zero x h h' = refl
    one zero (suc j) x h h' = cc
    one (suc i) j x h h' = cc

    at : (k : ℕ) → (k ≡ s) ⊎ (k ≢ s) → get_or (set marks s true) k false ≡ has k (s ∷ [])
    at k (inl same) = mark-same marks s k low same ∙ sym (ap (λ b. b || false) (eq-eqb k s same))
    at k (inr apart) = mark-other marks s k apart ∙ none k ∙ sym (ap (λ b. b || false) (ne_eqb k s apart))

-- one state more
pub told-push : (states : List ℕ) (marks : List Bool) (s : ℕ) → s < length marks → get_or marks s false ≡ false → IsTold states marks → IsTold (states ++ s ∷ []) (set marks s true)
told-push states marks s low new told = record { distinct = apart; marked = λ k. at k (cases_eq k s) }
  where
    absent : has s states ≡ true → ⊥
    absent h = false≢true (sym new ∙ told.marked s ∙ h)

    equal : (i j x : ℕ) → (slice_get states i ≡ Some x) ⊎ ((i ≡ length states) × (s ≡ x)) → (slice_get states j ≡ Some x) ⊎ ((j ≡ length states) × (s ≡ x)) → i ≡ j
    equal i j x (inl h) (inl h') = told.distinct i j x h h'
    equal i j x (inl h) (inr e) = absurd (absent (has-get states i s (h ∙ ap (λ y. Some y) (sym e.1))))
    equal i j x (inr e) (inl h) = absurd (absent (has-get states j s (h ∙ ap (λ y. Some y) (sym e.1))))
    equal i j x (inr e) (inr e') = e.0 ∙ sym e'.0

    apart : AreDistinct (states ++ s ∷ [])
    apart i j x h h' = equal i j x (get_push states s x i h) (get_push states s x j h')

    at : (k : ℕ) → (k ≡ s) ⊎ (k ≢ s) → get_or (set marks s true) k false ≡ has k (states ++ s ∷ [])
    at k (inl same) = mark-same marks s k low same ∙ sym (ap (λ x. has x (states ++ s ∷ [])) same ∙ has-last states s)
    at k (inr other) = mark-other marks s k other ∙ told.marked k ∙ sym (or-none (has k states)) ∙ ap (λ b. has k states || b) (sym (ne_eqb k s other)) ∙ sym (has-push k states s)

-- each told state has a mark
pub told-within : (states : List ℕ) (marks : List Bool) → IsTold states marks → (k : ℕ) → has k states ≡ true → k < length marks
told-within states marks told k h = go (cases_lt k (length marks))
  where
    go : (k < length marks) ⊎ (length marks ≤ k) → k < length marks
    go (inl low) = low
    go (inr past) = absurd (false≢true (sym (get_or_past marks k false past) ∙ told.marked k ∙ h))

pub grown-push : (states : List ℕ) (s : ℕ) → IsGrown states (states ++ s ∷ [])
grown-push states s i x at = get_append states (s ∷ []) i x at

pub has-pushed : (states : List ℕ) (s : ℕ) → has s (states ++ s ∷ []) ≡ true
has-pushed states s = has-last states s

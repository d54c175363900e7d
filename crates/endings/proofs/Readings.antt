-- An input has one reading.
use Rattle.std.proofs.Common.{◌≡◌, ◌⊎◌, inl, inr, ℕ, ◌+◌, ◌-◌, ◌<◌, ap, sym, ◌∙◌, take, arith, List, [], ◌∷◌, ◌++◌, refl, length, subst, Option, Some, None}
use Rattle.json_rpc.specs.Streams.{Next, partial, whole, wrong, next_of, by_reading, budget}
use Rattle.json_rpc.specs.Whole.{EndsBy, AreFirst, AreFrames, BeginFramesOf}
use Rattle.json_rpc.specs.Heads.{scan_from}
use Rattle.json_rpc.specs.declared.fault.FrameFault.{FrameFault}
use Rattle.json_rpc.specs.declared.fault.FrameFault.TheVariants.{Header, NoLength, TooLong, Cut, ReadFault, Budget, OutOfMemory}
use Rattle.endings.specs.Decided.{OneReading, FirstOfAll}

-- What stands at the front, where it is a frame.
abbrev body_in : Next → List ℕ
body_in partial = []
body_in (whole body rest) = body
body_in (wrong f) = []

abbrev rest_in : Next → List ℕ
rest_in partial = []
rest_in (whole body rest) = rest
rest_in (wrong f) = []

abbrev fault_in : Next → FrameFault
fault_in partial = Budget
fault_in (whole body rest) = Budget
fault_in (wrong f) = f

abbrev IsWhole : Next → Type 0
IsWhole partial = ⊥
IsWhole (whole body rest) = Unit {0}
IsWhole (wrong f) = ⊥

abbrev IsPartial : Next → Type 0
IsPartial partial = Unit {0}
IsPartial (whole body rest) = ⊥
IsPartial (wrong f) = ⊥

-- Nothing begins no frame.
nothing_there : (at : ℕ) → next_of at [] ≡ partial
unfolding scan_from by_reading
nothing_there at = refl

not_wrong : (n : Next) (f : FrameFault) (body rest : List ℕ) → n ≡ wrong f → n ≡ whole body rest → ⊥
not_wrong n f body rest p q = subst IsWhole (sym q ∙ p) tt

not_partial : (n : Next) (body rest : List ℕ) → n ≡ partial → n ≡ whole body rest → ⊥
not_partial n body rest p q = subst IsWhole (sym q ∙ p) tt

-- An end is no frame.
no_frame : (at : ℕ) (bytes : List ℕ) (end : Option FrameFault) (body rest : List ℕ) → EndsBy at bytes end → next_of at bytes ≡ whole body rest → ⊥
no_frame at bytes None body rest e w = not_partial (next_of at bytes) body rest (ap (next_of at) e.0 ∙ nothing_there at) w
no_frame at bytes (Some (Header k)) body rest e w = not_wrong (next_of at bytes) (Header k) body rest e w
no_frame at bytes (Some (NoLength k)) body rest e w = not_wrong (next_of at bytes) (NoLength k) body rest e w
no_frame at bytes (Some (TooLong k)) body rest e w = not_wrong (next_of at bytes) (TooLong k) body rest e w
no_frame at bytes (Some (Cut k)) body rest e w = not_partial (next_of at bytes) body rest e.0 w
no_frame at bytes (Some ReadFault) body rest e w = e
no_frame at bytes (Some Budget) body rest e w = not_partial (next_of at bytes) body rest e.0 w
no_frame at bytes (Some OutOfMemory) body rest e w = e

-- How bytes end without a violation.
data Rest (at : ℕ) (bytes : List ℕ) (end : Option FrameFault) : Type 0 where
  empty : bytes ≡ [] → at < budget → end ≡ None → Rest at bytes end
  cut : (bytes ≡ [] → ⊥) → at + length bytes < budget → end ≡ Some (Cut (at + length bytes)) → Rest at bytes end
  used : at + length bytes ≡ budget → end ≡ Some Budget → Rest at bytes end

-- An end is a violation, or there is none.
kind_of : (at : ℕ) (bytes : List ℕ) (end : Option FrameFault) → EndsBy at bytes end
    → ((f : FrameFault) × (next_of at bytes ≡ wrong f) × (end ≡ Some f)) ⊎ ((next_of at bytes ≡ partial) × Rest at bytes end)
kind_of at bytes None e = inr (ap (next_of at) e.0 ∙ nothing_there at, empty e.0 e.1 refl)
kind_of at bytes (Some (Header k)) e = inl (Header k, e, refl)
kind_of at bytes (Some (NoLength k)) e = inl (NoLength k, e, refl)
kind_of at bytes (Some (TooLong k)) e = inl (TooLong k, e, refl)
kind_of at bytes (Some (Cut k)) e = inr (e.0, cut e.1 (subst (λ n. n < budget) e.2 e.3) (ap (λ n. Some (Cut n)) e.2))
kind_of at bytes (Some ReadFault) e = absurd e
kind_of at bytes (Some Budget) e = inr (e.0, used e.1 refl)
kind_of at bytes (Some OutOfMemory) e = absurd e

length_none : (bytes : List ℕ) → bytes ≡ [] → length bytes ≡ 0
length_none bytes e = ap length e

one_rest : (at : ℕ) (bytes : List ℕ) (end ending : Option FrameFault) → Rest at bytes end → Rest at bytes ending → end ≡ ending
one_rest at bytes end ending (empty e l p) (empty f m q) = p ∙ sym q
one_rest at bytes end ending (empty e l p) (cut f m q) = absurd (f e)
one_rest at bytes end ending (empty e l p) (used f q) = absurd (omega (arith, l, f, length_none bytes e))
one_rest at bytes end ending (cut e l p) (empty f m q) = absurd (e f)
one_rest at bytes end ending (cut e l p) (cut f m q) = p ∙ sym q
one_rest at bytes end ending (cut e l p) (used f q) = absurd (omega (arith, l, f))
one_rest at bytes end ending (used e p) (empty f m q) = absurd (omega (arith, m, e, length_none bytes f))
one_rest at bytes end ending (used e p) (cut f m q) = absurd (omega (arith, m, e))
one_rest at bytes end ending (used e p) (used f q) = p ∙ sym q

one_end : (at : ℕ) (bytes : List ℕ) (end ending : Option FrameFault)
    → ((f : FrameFault) × (next_of at bytes ≡ wrong f) × (end ≡ Some f)) ⊎ ((next_of at bytes ≡ partial) × Rest at bytes end)
    → ((f : FrameFault) × (next_of at bytes ≡ wrong f) × (ending ≡ Some f)) ⊎ ((next_of at bytes ≡ partial) × Rest at bytes ending)
    → end ≡ ending
one_end at bytes end ending (inl p) (inl q) = p.2 ∙ ap (λ n. Some (fault_in n)) (sym p.1 ∙ q.1) ∙ sym q.2
one_end at bytes end ending (inl p) (inr q) = absurd (subst IsPartial (sym q.0 ∙ p.1) tt)
one_end at bytes end ending (inr p) (inl q) = absurd (subst IsPartial (sym p.0 ∙ q.1) tt)
one_end at bytes end ending (inr p) (inr q) = one_rest at bytes end ending p.1 q.1

-- The same from a place on.
frames_same : (at : ℕ) (bytes : List ℕ) (bodies others : List (List ℕ)) (end ending : Option FrameFault) → AreFrames at bytes bodies end → AreFrames at bytes others ending
    → (bodies ≡ others) × (end ≡ ending)
frames_same at bytes [] [] end ending a b = (refl, one_end at bytes end ending (kind_of at bytes end a) (kind_of at bytes ending b))
frames_same at bytes [] (y ∷ ys) end ending a b = absurd (no_frame at bytes end y b.0 a b.1)
frames_same at bytes (x ∷ xs) [] end ending a b = absurd (no_frame at bytes ending x a.0 b a.1)
frames_same at bytes (x ∷ xs) (y ∷ ys) end ending a b =
    let same : whole x a.0 ≡ whole y b.0 = sym a.1 ∙ b.1 in
    let P : List ℕ → Type 0 = λ r. AreFrames (at + length bytes - length r) r ys ending in
    let more : (xs ≡ ys) × (end ≡ ending) = frames_same (at + length bytes - length a.0) a.0 xs ys end ending a.2 (subst P (sym (ap rest_in same)) b.2) in
    (ap (λ t. t ∷ xs) (ap body_in same) ∙ ap (λ t. y ∷ t) more.0, more.1)

first_of : (at : ℕ) (bytes : List ℕ) (bodies firsts : List (List ℕ)) (end : Option FrameFault) → AreFrames at bytes bodies end → AreFirst at bytes firsts
    → (more : List (List ℕ)) × (bodies ≡ firsts ++ more)
first_of at bytes bodies [] end a b = (bodies, refl)
first_of at bytes [] (y ∷ ys) end a b = absurd (no_frame at bytes end y b.0 a b.1)
first_of at bytes (x ∷ xs) (y ∷ ys) end a b =
    let same : whole x a.0 ≡ whole y b.0 = sym a.1 ∙ b.1 in
    let P : List ℕ → Type 0 = λ r. AreFirst (at + length bytes - length r) r ys in
    let more : (more : List (List ℕ)) × (xs ≡ ys ++ more) = first_of (at + length bytes - length a.0) a.0 xs ys end a.2 (subst P (sym (ap rest_in same)) b.2) in
    (more.0, ap (λ t. t ∷ xs) (ap body_in same) ∙ ap (λ t. y ∷ t) more.1)

pub one_reading : OneReading
one_reading input bodies others end ending a b = frames_same 0 (take budget input) bodies others end ending a b

pub first_of_all : FirstOfAll
first_of_all input bodies firsts end a b = first_of 0 (take budget input) bodies firsts end a b

-- Bodies are the same as far as both go.
abbrev pub Agree : List (List ℕ) → List (List ℕ) → Type 0
Agree [] ys = Unit {0}
Agree (x ∷ xs) [] = Unit {0}
Agree (x ∷ xs) (y ∷ ys) = (x ≡ y) × Agree xs ys

firsts_agree : (at : ℕ) (bytes : List ℕ) (xs ys : List (List ℕ)) → AreFirst at bytes xs → AreFirst at bytes ys → Agree xs ys
firsts_agree at bytes [] ys a b = tt
firsts_agree at bytes (x ∷ xs) [] a b = tt
firsts_agree at bytes (x ∷ xs) (y ∷ ys) a b =
    let same : whole x a.0 ≡ whole y b.0 = sym a.1 ∙ b.1 in
    let P : List ℕ → Type 0 = λ r. AreFirst (at + length bytes - length r) r ys in
    (ap body_in same, firsts_agree (at + length bytes - length a.0) a.0 xs ys a.2 (subst P (sym (ap rest_in same)) b.2))

-- What an input begins with.
pub all_agree : (input : List ℕ) (xs ys : List (List ℕ)) → BeginFramesOf input xs → BeginFramesOf input ys → Agree xs ys
all_agree input xs ys a b = firsts_agree 0 (take budget input) xs ys a b

-- Instructions that stand end to end: one more of them, and the one list that goes as far as it can.
use Rattle.std.proofs.Common.{◌≡◌, ℕ, zero, suc, ◌+◌, ◌-◌, ◌<◌, ◌≤◌, List, [], ◌∷◌, ◌++◌, length, drop, Option, Some, None, Ok, ◌⊎◌, inl, inr, refl, sym, ap, ◌∙◌, subst, zero-add, arith}
use Rattle.std.proofs.lemmas.List.{length-drop}
use Rattle.code_walk.specs.declared.walk.Instr.{Instr}
use Rattle.code_walk.specs.declared.fault.WalkFault.{WalkFault}
use Rattle.code_walk.specs.declared.fault.WalkCause.{WalkCause}
use Rattle.code_walk.specs.Lengths.{extent_at, fault_at, Measures}
use Rattle.code_walk.specs.Walk.{IsInstruction, StandEndToEnd, AreInstructions, IsFirstFault}
use Rattle.code_walk.proofs.LengthLaws.{has_byte, not_both, Fits, fits}

pub shorter : (start at : ℕ) (bytes : List ℕ) (list : List Instr) (rest : List ℕ) → StandEndToEnd start at bytes list rest → length rest ≤ length bytes
shorter start at bytes [] rest h = omega (arith, ap length h)
shorter start at bytes (i ∷ more) rest h = omega (arith, shorter start (at + i.len) (drop i.len bytes) more rest h.1, length-drop i.len bytes)

-- the place of what is left, counted from the second instruction on
same_place : (at n all left : ℕ) → n ≤ all → left ≤ all - n → at + (all - left) ≡ (at + n) + (all - n - left)
same_place at n all left h g = omega arith

further : (at : ℕ) (bytes rest : List ℕ) (n : ℕ) → n ≤ length bytes → length rest ≤ length (drop n bytes) → at + (length bytes - length rest) ≡ (at + n) + (length (drop n bytes) - length rest)
further at bytes rest n h g = omega (arith, length-drop n bytes)

pub one_more : (start at : ℕ) (bytes : List ℕ) (list : List Instr) (rest : List ℕ) (i : Instr) → StandEndToEnd start at bytes list rest → IsInstruction start (at + (length bytes - length rest)) rest i → StandEndToEnd start at bytes (list ++ (i ∷ [])) (drop i.len rest)
one_more start at bytes [] rest i h is =
    let k : at + (length bytes - length rest) ≡ at = omega (arith, ap length h) in
    let there : IsInstruction start at rest i = subst (λ (n : ℕ). IsInstruction start n rest i) k is in
    (subst (λ (t : List ℕ). IsInstruction start at t i) h there, ap (λ (t : List ℕ). drop i.len t) h)
one_more start at bytes (j ∷ more) rest i h is =
    let le : length rest ≤ length (drop j.len bytes) = shorter start (at + j.len) (drop j.len bytes) more rest h.1 in
    let k = further at bytes rest j.len h.0.within le in
    (h.0, one_more start (at + j.len) (drop j.len bytes) more rest i h.1 (subst (λ (n : ℕ). IsInstruction start n rest i) k is))

-- ---- what stands at a place is one instruction at most
same_instr : (a b c d : ℕ) → a ≡ c → b ≡ d → (let one : Instr = record { at = a; len = b } in one) ≡ record { at = c; len = d }
same_instr a b c d e f = cc

some_is : (m n : ℕ) → (let o : Option ℕ = Some m in o) ≡ Some n → m ≡ n
some_is m n e = cc

one_stands : (start at : ℕ) (bytes : List ℕ) (i j : Instr) → IsInstruction start at bytes i → IsInstruction start at bytes j → i ≡ j
one_stands start at bytes i j h g = same_instr i.at i.len j.at j.len (h.place ∙ sym g.place) (some_is _ _ (sym h.len ∙ g.len))

-- no instruction stands at the place
abbrev pub IsStuck : ℕ → ℕ → List ℕ → Type 0
IsStuck start at rest = (i : Instr) → IsInstruction start at rest i → ⊥

pub stuck_at_end : (start at : ℕ) → IsStuck start at []
stuck_at_end start at i h = omega (arith, h.within, has_byte at [] i.len h.len)

pub stuck_at_fault : (start at : ℕ) (rest : List ℕ) (cause : WalkCause) → fault_at at rest ≡ Some cause → IsStuck start at rest
stuck_at_fault start at rest cause e i h = not_both (length rest) (extent_at at rest) cause i.len e h.len h.within

pub same_walk : (start at : ℕ) (bytes : List ℕ) (list : List Instr) (rest : List ℕ) (other : List Instr) (last : List ℕ) → StandEndToEnd start at bytes list rest → StandEndToEnd start at bytes other last → IsStuck start (at + (length bytes - length rest)) rest → IsStuck start (at + (length bytes - length last)) last → (list ≡ other) × (rest ≡ last)
same_walk start at bytes [] rest [] last h g s t = (refl, h ∙ sym g)
same_walk start at bytes [] rest (j ∷ other) last h g s t =
    let k : at ≡ at + (length bytes - length rest) = omega (arith, ap length h) in
    absurd (s j (subst (λ (n : ℕ). IsInstruction start n rest j) k (subst (λ (b : List ℕ). IsInstruction start at b j) (sym h) g.0)))
same_walk start at bytes (i ∷ list) rest [] last h g s t =
    let k : at ≡ at + (length bytes - length last) = omega (arith, ap length g) in
    absurd (t i (subst (λ (n : ℕ). IsInstruction start n last i) k (subst (λ (b : List ℕ). IsInstruction start at b i) (sym g) h.0)))
same_walk start at bytes (i ∷ list) rest (j ∷ other) last h g s t =
    let e : i ≡ j = one_stands start at bytes i j h.0 g.0 in
    let g' : StandEndToEnd start (at + i.len) (drop i.len bytes) other last = subst (λ (x : Instr). StandEndToEnd start (at + x.len) (drop x.len bytes) other last) (sym e) g.1 in
    let p = further at bytes rest i.len h.0.within (shorter start (at + i.len) (drop i.len bytes) list rest h.1) in
    let q = further at bytes last i.len h.0.within (shorter start (at + i.len) (drop i.len bytes) other last g') in
    let r = same_walk start (at + i.len) (drop i.len bytes) list rest other last h.1 g' (subst (λ (n : ℕ). IsStuck start n rest) p s) (subst (λ (n : ℕ). IsStuck start n last) q t) in
    (ap (λ (l : List Instr). i ∷ l) r.0 ∙ ap (λ (x : Instr). x ∷ other) e, r.1)

-- ---- the laws
pub one_list : (start : ℕ) (code : List ℕ) (list other : List Instr) → AreInstructions start code list → AreInstructions start code other → list ≡ other
one_list start code list other h g = (same_walk start 0 code list [] other [] h g (stuck_at_end start _) (stuck_at_end start _)).0

fault_stuck : (start : ℕ) (code : List ℕ) (fault : WalkFault) (f : IsFirstFault start code fault) → IsStuck start (0 + (length code - length f.rest)) f.rest
fault_stuck start code fault f =
    let k : length code - length f.rest ≡ 0 + (length code - length f.rest) = omega arith in
    subst (λ (n : ℕ). IsStuck start n f.rest) k (stuck_at_fault start _ f.rest fault.cause f.cause)

pub not_list_and_fault : (start : ℕ) (code : List ℕ) (list : List Instr) (fault : WalkFault) → AreInstructions start code list → IsFirstFault start code fault → ⊥
not_list_and_fault start code list fault h f =
    let r = same_walk start 0 code list [] f.before f.rest h f.stand (stuck_at_end start _) (fault_stuck start code fault f) in
    omega (arith, f.due, ap length r.1)

same_fault : (a b : ℕ) (c d : WalkCause) → a ≡ b → c ≡ d → (let one : WalkFault = record { at = a; cause = c } in one) ≡ record { at = b; cause = d }
same_fault a b c d e f = cc

some_cause : (c d : WalkCause) → (let o : Option WalkCause = Some c in o) ≡ Some d → c ≡ d
some_cause c d e = cc

pub one_fault : (start : ℕ) (code : List ℕ) (fault other : WalkFault) → IsFirstFault start code fault → IsFirstFault start code other → fault ≡ other
one_fault start code fault other f g =
    let r = same_walk start 0 code f.before f.rest g.before g.rest f.stand g.stand (fault_stuck start code fault f) (fault_stuck start code other g) in
    let k : length f.rest ≡ length g.rest = ap length r.1 in
    let place : fault.at ≡ other.at = omega (arith, f.place, g.place) in
    let there : fault_at (length code - length g.rest) g.rest ≡ Some fault.cause = subst (λ (t : List ℕ). fault_at (length code - length t) t ≡ Some fault.cause) r.1 f.cause in
    same_fault fault.at other.at fault.cause other.cause place (some_cause _ _ (sym there ∙ g.cause))

-- ---- some list or some fault
pub record Walked (start at : ℕ) (bytes : List ℕ) : Type 0 where
  pub list : List Instr
  pub rest : List ℕ
  pub stand : StandEndToEnd start at bytes list rest
  pub end : (rest ≡ []) ⊎ ((cause : WalkCause) × (0 < length rest) × (fault_at (at + (length bytes - length rest)) rest ≡ Some cause))

abbrev none_left : (start at : ℕ) → Walked start at []
none_left start at = record { list = []; rest = []; stand = refl; end = inl refl }

put_before : (start at : ℕ) (bytes : List ℕ) (f : Fits (length bytes) (extent_at at bytes)) → Walked start (at + f.len) (drop f.len bytes) → Walked start at bytes
put_before start at bytes f w =
    let le : length w.rest ≤ length (drop f.len bytes) = shorter start (at + f.len) (drop f.len bytes) w.list w.rest w.stand in
    let k = further at bytes w.rest f.len f.within le in
    let there : IsInstruction start at bytes (record { at = start + at; len = f.len }) = record { place = refl; len = f.is; within = f.within } in
    record {
      list = record { at = start + at; len = f.len } ∷ w.list;
      rest = w.rest;
      stand = (there, w.stand);
      end = elim w.end [ inl e ↦ inl e | inr d ↦ inr (d.0, d.1, subst (λ (n : ℕ). fault_at n w.rest ≡ Some d.0) (sym k) d.2) ];
    }

at_fault : (start at : ℕ) (bytes : List ℕ) (cause : WalkCause) → 0 < length bytes → fault_at at bytes ≡ Some cause → Walked start at bytes
at_fault start at bytes cause lt e =
    let k : at ≡ at + (length bytes - length bytes) = omega arith in
    record { list = []; rest = bytes; stand = refl; end = inr (cause, lt, subst (λ (n : ℕ). fault_at n bytes ≡ Some cause) k e) }

-- what stands at the front, before what the rest gives
stepped : (start at : ℕ) (bytes : List ℕ) → 0 < length bytes → ((m : ℕ) (t : List ℕ) → length t < length bytes → Walked start m t) → (d : Option WalkCause) → fault_at at bytes ≡ d → Walked start at bytes
stepped start at bytes lt more (Some cause) e = at_fault start at bytes cause lt e
stepped start at bytes lt more None e =
    let f = fits (length bytes) (extent_at at bytes) e in
    let some : 0 < f.len = has_byte at bytes f.len f.is in
    put_before start at bytes f (more (at + f.len) (drop f.len bytes) (omega (arith, length-drop f.len bytes, f.within)))

walked : (start n at : ℕ) (bytes : List ℕ) → length bytes ≤ n → Walked start at bytes
walked start n at [] le = none_left start at
walked start zero at (b ∷ rest) le = absurd (omega (arith, le))
walked start (suc n) at (b ∷ rest) le = stepped start at (b ∷ rest) (omega arith) (λ m t lt. walked start n m t (omega (arith, lt, le))) (fault_at at (b ∷ rest)) refl

list_or_fault_of : (start : ℕ) (code : List ℕ) → Walked start 0 code → ((list : List Instr) × AreInstructions start code list) ⊎ ((fault : WalkFault) × IsFirstFault start code fault)
list_or_fault_of start code w =
    elim w.end [
      | inl e ↦ inl (w.list, subst (λ (t : List ℕ). StandEndToEnd start 0 code w.list t) e w.stand)
      | inr d ↦ inr (record { at = start + (length code - length w.rest); cause = d.0 }, record { before = w.list; rest = w.rest; stand = w.stand; due = d.1; place = refl; cause = subst (λ (n : ℕ). fault_at n w.rest ≡ Some d.0) (zero-add _) d.2 })
    ]

pub list_or_fault : (start : ℕ) (code : List ℕ) → ((list : List Instr) × AreInstructions start code list) ⊎ ((fault : WalkFault) × IsFirstFault start code fault)
list_or_fault start code = list_or_fault_of start code (walked start (length code) 0 code (omega arith))

-- ---- one turn of the walk
pub record Turn (start : ℕ) (code : List ℕ) (list : List Instr) (rest : List ℕ) (len : ℕ) : Type 0 where
  pub stand : StandEndToEnd start 0 code (list ++ ((record { at = start + (length code - length rest); len = len }) ∷ [])) (drop len rest)
  pub within : length (drop len rest) ≤ length code
  pub smaller : length (drop len rest) < length rest

pub turn : (start : ℕ) (code : List ℕ) (list : List Instr) (rest : List ℕ) (len : ℕ) → StandEndToEnd start 0 code list rest → Measures (length rest) (extent_at (length code - length rest) rest) (Ok len) → Turn start code list rest len
turn start code list rest len h m =
    let some : 0 < len = has_byte (length code - length rest) rest len m.0 in
    let k : length code - length rest ≡ 0 + (length code - length rest) = omega arith in
    let i : Instr = record { at = start + (length code - length rest); len = len } in
    let there : IsInstruction start (length code - length rest) rest i = record { place = refl; len = m.0; within = m.1 } in
    record {
      stand = one_more start 0 code list rest i h (subst (λ (n : ℕ). IsInstruction start n rest i) k there);
      within = omega (arith, length-drop len rest, shorter start 0 code list rest h);
      smaller = omega (arith, length-drop len rest, m.1);
    }

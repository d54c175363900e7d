-- How a run over a sheet ends.
use Rattle.std.proofs.Common.{rules, ◌≡◌, ◌⊎◌, inl, inr, ⊎_elim, ℕ, zero, suc, ◌≤◌, ◌<◌, List, ◌++◌, length, Option, Some, None, Bool, true, false, not, if◌then◌else◌, ap, subst, sym, refl, ◌∙◌, append-nil, arith, length-append}
use Rattle.std.specs.Prelude.{nat_le}
use Rattle.std.specs.Io.KnownBytes.{Consumes, IsAtEnd, Keeps}
use Rattle.outside.specs.Causes.{Rose}
use Rattle.terms.specs.declared.parts.Parts.{Parts}
use Rattle.sheets.specs.Sheets.{Fault, IsSheet, sheet_fault, text_fault, fault_or}
use Rattle.sheet_runs.specs.Runs.{IsRead, IsRefused, EndsUnread, EndsOver}
use Rattle.sheet_runs.specs.declared.ending.Ending.{Ending}
use Rattle.sheet_runs.specs.declared.ending.Ending.TheVariants.{Whole, NotSheet, ReadFault, WriteFault, OutOfMemory}

keeps : (a : Option (List ℕ)) → Keeps a a
keeps None = tt
keeps (Some xs) = refl

short_of : (b : Bool) (f : Fault) (rest later : Option Fault) → fault_or (if not b then Some f else rest) later ≡ None → b ≡ true
unfolding fault_or
short_of true f rest later e = refl
short_of false f rest later e = absurd cc

within : (m n : ℕ) → nat_le m n ≡ true → m ≤ n
within m n e = search rules

-- a sheet has at most 16,777,216 bytes
sheet-short : (bs : List ℕ) → sheet_fault bs ≡ None → length bs ≤ 16777216
unfolding sheet_fault text_fault
sheet-short bs e = within (length bs) 16777216 (short_of (nat_le (length bs) 16777216) _ _ _ e)

-- what was read is a sheet, and so it was read to its end
pub is-read : (l l' : Option (List ℕ)) (bs : List ℕ) (g : Parts) → Consumes l l' bs → (length bs < 16777217 → IsAtEnd l') → IsSheet bs g → IsRead l l' g
is-read l l' bs g read ended sheet = record {
  bytes = bs;
  read = read;
  ended = ended (omega (arith, sheet-short bs sheet.faultless));
  sheet = sheet;
}

pub refused : (l l' : Option (List ℕ)) (bs : List ℕ) (line cause : ℕ) → Consumes l l' bs → (length bs < 16777217 → IsAtEnd l') → sheet_fault bs ≡ Some (record { line = line; cause = cause }) → IsRefused l l' line cause
refused l l' bs line cause read ended fault = record { bytes = bs; read = read; ended = ended; fault = fault }

-- a run that got no environment writes nothing, whatever would have been owed
pub unread : (All Part : Parts → Type 0) (ending : Ending) (l l' w : Option (List ℕ)) (s s' k k' : ℕ) → EndsUnread ending l l' s s' → EndsOver All Part ending l l' w w s s' k k'
unread All Part Whole l l' w s s' k k' h = absurd h
unread All Part (NotSheet line cause) l l' w s s' k k' h = (h, keeps w)
unread All Part ReadFault l l' w s s' k k' h = (h, keeps w)
unread All Part WriteFault l l' w s s' k k' h = absurd h
unread All Part OutOfMemory l l' w s s' k k' h = inl (keeps w)

either_way : (m n : ℕ) → (m < n) ⊎ (n ≤ m)
either_way m zero = inr (omega arith)
either_way zero (suc n) = inl (omega arith)
either_way (suc m) (suc n) = ⊎_elim (λ l. inl (omega (arith, l))) (λ l. inr (omega (arith, l))) (either_way m n)

some_none : {X : Type 0} (x : X) (a : Option X) → a ≡ Some x → a ≡ None → ⊥
some_none x a e f = cc

-- of a sheet no refusal is right
not-refused : (bs : List ℕ) (l' : Option (List ℕ)) (line cause : ℕ) → sheet_fault bs ≡ None → IsRefused (Some bs) l' line cause → ⊥
not-refused bs None line cause e h = h.read
not-refused bs (Some ys) line cause e h =
    let at_end : length h.bytes < 16777217 → ⊥ = λ l.
    let same : bs ≡ h.bytes = h.read ∙ ap (λ t. h.bytes ++ t) (h.ended l) ∙ append-nil h.bytes in
    some_none _ (sheet_fault bs) (ap sheet_fault same ∙ h.fault) e in
    let too_long : 16777217 ≤ length h.bytes → ⊥ = λ l. omega (arith, l, sheet-short bs e, ap length h.read, length-append h.bytes ys) in
    ⊎_elim at_end too_long (either_way (length h.bytes) 16777217)

-- over ends that don't fail all that is owed for a sheet is done, or memory was wanting
pub complete : (All Part : Parts → Type 0) (ending : Ending) (bs : List ℕ) (g : Parts) (l l' w w' : Option (List ℕ)) (s s' k k' : ℕ) → l ≡ Some bs → IsSheet bs g → ¬ (Rose s s') → ¬ (Rose k k') → EndsOver All Part ending l l' w w' s s' k k' → (ending ≡ Whole) ⊎ (ending ≡ OutOfMemory)
complete All Part Whole bs g l l' w w' s s' k k' told sheet source sink h = inl refl
complete All Part (NotSheet line cause) bs g l l' w w' s s' k k' told sheet source sink h = absurd (not-refused bs l' line cause sheet.faultless (subst (λ x. IsRefused x l' line cause) told h.0))
complete All Part ReadFault bs g l l' w w' s s' k k' told sheet source sink h = absurd (source h.0)
complete All Part WriteFault bs g l l' w w' s s' k k' told sheet source sink h = absurd (sink h.0)
complete All Part OutOfMemory bs g l l' w w' s s' k k' told sheet source sink h = inr refl

-- more bytes than a sheet may have are refused for that, whatever they are
long_of : (b : Bool) (f : Fault) (rest later : Option Fault) → b ≡ false → fault_or (if not b then Some f else rest) later ≡ Some f
unfolding fault_or
long_of true f rest later e = absurd cc
long_of false f rest later e = refl

above : (m n : ℕ) (b : Bool) → nat_le m n ≡ b → n < m → b ≡ false
above m n true e l = absurd (omega (arith, within m n e, l))
above m n false e l = refl

sheet-long : (bs : List ℕ) → 16777217 ≤ length bs → sheet_fault bs ≡ Some (record { line = 0; cause = 9 })
unfolding sheet_fault text_fault
sheet-long bs l = long_of (nat_le (length bs) 16777216) _ _ _ (above (length bs) 16777216 (nat_le (length bs) 16777216) refl (omega (arith, l)))

-- what was read to the end is all that was left
all-read : (bs bytes : List ℕ) (l' : Option (List ℕ)) → Consumes (Some bs) l' bytes → IsAtEnd l' → bs ≡ bytes
all-read bs bytes None read ended = absurd read
all-read bs bytes (Some ys) read ended = read ∙ ap (λ t. bytes ++ t) ended ∙ append-nil bytes

-- what is no sheet was not read as one
not-read : (bs : List ℕ) (fault : Fault) (g : Parts) (l l' : Option (List ℕ)) → l ≡ Some bs → sheet_fault bs ≡ Some fault → IsRead l l' g → ⊥
not-read bs fault g l l' told e h = some_none fault (sheet_fault bs) e (ap sheet_fault (all-read bs h.bytes l' (subst (λ x. Consumes x l' h.bytes) told h.read) h.ended) ∙ h.sheet.faultless)

abbrev fault_in : Fault → Option Fault → Fault
fault_in f None = f
fault_in f (Some g) = g

-- the fault that is told is the first one of all that was left, also where not all of it was read
first-told : (bs : List ℕ) (fault told : Fault) (l' : Option (List ℕ)) → sheet_fault bs ≡ Some fault → IsRefused (Some bs) l' told.line told.cause → told ≡ fault
first-told bs fault told None e h = absurd h.read
first-told bs fault told (Some ys) e h =
    let whole : length h.bytes < 16777217 → told ≡ fault = λ l.
    let same : bs ≡ h.bytes = h.read ∙ ap (λ t. h.bytes ++ t) (h.ended l) ∙ append-nil h.bytes in
    ap (fault_in fault) (sym h.fault ∙ ap sheet_fault (sym same) ∙ e) in
    let part : 16777217 ≤ length h.bytes → told ≡ fault = λ l.
    let more : 16777217 ≤ length bs = omega (arith, l, ap length h.read, length-append h.bytes ys) in
    ap (fault_in fault) (sym h.fault ∙ sheet-long h.bytes l ∙ sym (sheet-long bs more) ∙ e) in
    ⊎_elim whole part (either_way (length h.bytes) 16777217)

-- over a source that doesn't fail what is no sheet is refused for its first fault, or memory was wanting
pub refuses : (All Part : Parts → Type 0) (ending : Ending) (bs : List ℕ) (fault : Fault) (l l' w w' : Option (List ℕ)) (s s' k k' : ℕ) → l ≡ Some bs → sheet_fault bs ≡ Some fault → ¬ (Rose s s') → EndsOver All Part ending l l' w w' s s' k k'
    → (ending ≡ NotSheet fault.line fault.cause) ⊎ (ending ≡ OutOfMemory)
refuses All Part Whole bs fault l l' w w' s s' k k' told wrong source h = absurd (not-read bs fault h.0 l l' told wrong h.1)
refuses All Part (NotSheet line cause) bs fault l l' w w' s s' k k' told wrong source h =
    inl (ap (λ (f : Fault). NotSheet f.line f.cause) (first-told bs fault (record { line = line; cause = cause }) l' wrong (subst (λ x. IsRefused x l' line cause) told h.0)))
refuses All Part ReadFault bs fault l l' w w' s s' k k' told wrong source h = absurd (source h.0)
refuses All Part WriteFault bs fault l l' w w' s s' k k' told wrong source h = absurd (not-read bs fault h.1.0 l l' told wrong h.1.1)
refuses All Part OutOfMemory bs fault l l' w w' s s' k k' told wrong source h = inr refl

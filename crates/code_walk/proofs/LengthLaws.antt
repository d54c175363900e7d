-- Lengths and faults: an instruction has a byte at least, and a fault or a length within the bytes that are left.
use Rattle.std.proofs.Common.{◌≡◌, ℕ, ◌+◌, ◌<◌, ◌≤◌, Bool, true, false, cond, ltb, List, [], ◌∷◌, drop, Option, Some, None, refl, arith}
use Rattle.std.proofs.lemmas.Bool.{ltb-true, ltb-false}
use Rattle.code_walk.specs.declared.opcodes.Form.{Form}
use Rattle.code_walk.specs.declared.opcodes.Form.TheVariants.{Fixed, Wide, TableSwitch, LookupSwitch}
use Rattle.code_walk.specs.declared.fault.WalkCause.{WalkCause}
use Rattle.code_walk.specs.declared.fault.WalkCause.TheVariants.{Cut, OutOfMemory}
use Rattle.code_walk.specs.Opcodes.{form_of, widened}
use Rattle.code_walk.specs.Lengths.{Extent, extent_of, extent_at, whole, length_of, length_at, wide_fixed, some_fixed, table_fault, fault_of}

abbrev HasByte : Option Form → Type 0
HasByte (Some (Fixed n)) = 0 < n
HasByte (Some Wide) = Unit {0}
HasByte (Some TableSwitch) = Unit {0}
HasByte (Some LookupSwitch) = Unit {0}
HasByte None = Unit {0}

-- the chain of the table, by the answers of its tests
chain : (a b c d e f g h : Bool) → HasByte (cond a (Some (Fixed 1)) (cond b (Some (Fixed 2)) (cond c (Some (Fixed 3)) (cond d (Some (Fixed 4)) (cond e (Some (Fixed 5)) (cond f (Some Wide) (cond g (Some TableSwitch) (cond h (Some LookupSwitch) None))))))))
chain true b c d e f g h = omega arith
chain false true c d e f g h = omega arith
chain false false true d e f g h = omega arith
chain false false false true e f g h = omega arith
chain false false false false true f g h = omega arith
chain false false false false false true g h = tt
chain false false false false false false true h = tt
chain false false false false false false false true = tt
chain false false false false false false false false = tt

form_has_byte : (op : ℕ) → HasByte (form_of op)
unfolding form_of
form_has_byte op = chain _ _ _ _ _ _ _ _

wide_chain : (a b : Bool) (n : ℕ) → cond a (Some 6) (cond b (Some 4) None) ≡ Some n → 0 < n
wide_chain true b n e = let k : 6 ≡ n = cc in omega arith
wide_chain false true n e = let k : 4 ≡ n = cc in omega arith
wide_chain false false n e = absurd cc

wide_has_byte : (bytes : List ℕ) (n : ℕ) → wide_fixed bytes ≡ Some n → 0 < n
unfolding widened
wide_has_byte [] n e = let k : 2 ≡ n = cc in omega arith
wide_has_byte (op ∷ rest) n e = wide_chain _ _ n e

whole_has_byte : (fixed : ℕ) (table : Option ℕ) (len : ℕ) → 0 < fixed → whole fixed table ≡ Some len → 0 < len
whole_has_byte fixed None len h e = absurd cc
whole_has_byte fixed (Some table) len h e = let k : fixed + table ≡ len = cc in omega arith

some_has_byte : (fixed : Option ℕ) (len : ℕ) → ((n : ℕ) → fixed ≡ Some n → 0 < n) → length_of (some_fixed fixed) ≡ Some len → 0 < len
some_has_byte None len h e = absurd cc
some_has_byte (Some n) len h e = whole_has_byte n (Some 0) len (h n refl) e

extent_has_byte : (at : ℕ) (bytes : List ℕ) (form : Option Form) (len : ℕ) → HasByte form → length_of (extent_of at bytes form) ≡ Some len → 0 < len
extent_has_byte at bytes None len h e = absurd cc
extent_has_byte at bytes (Some (Fixed n)) len h e = whole_has_byte n (Some 0) len h e
extent_has_byte at bytes (Some Wide) len h e = some_has_byte (wide_fixed (drop 1 bytes)) len (wide_has_byte (drop 1 bytes)) e
extent_has_byte at bytes (Some TableSwitch) len h e = whole_has_byte _ _ len (omega arith) e
extent_has_byte at bytes (Some LookupSwitch) len h e = whole_has_byte _ _ len (omega arith) e

pub has_byte : (at : ℕ) (bytes : List ℕ) (len : ℕ) → length_at at bytes ≡ Some len → 0 < len
unfolding extent_at
has_byte at [] len e = absurd cc
has_byte at (op ∷ rest) len e = extent_has_byte at (op ∷ rest) (form_of op) len (form_has_byte op) e

-- ---- a fault or a length
cut_or_fits : (left n : ℕ) (b : Bool) → ltb left n ≡ b → (cause : WalkCause) → cond b (Some Cut) None ≡ Some cause → n ≤ left → ⊥
cut_or_fits left n true t cause e h = omega (arith, ltb-true _ _ t)
cut_or_fits left n false t cause e h = absurd cc

fixed_faults : (left fixed : ℕ) (table : Option ℕ) (b : Bool) → ltb left fixed ≡ b → (cause : WalkCause) (len : ℕ) → cond b (Some Cut) (table_fault left fixed table) ≡ Some cause → whole fixed table ≡ Some len → len ≤ left → ⊥
fixed_faults left fixed None b t cause len e w h = absurd cc
fixed_faults left fixed (Some table) true t cause len e w h = let k : fixed + table ≡ len = cc in omega (arith, ltb-true _ _ t)
fixed_faults left fixed (Some table) false t cause len e w h = let k : fixed + table ≡ len = cc in cut_or_fits left (fixed + table) (ltb left (fixed + table)) refl cause e (omega arith)

pub not_both : (left : ℕ) (e : Option Extent) (cause : WalkCause) (len : ℕ) → fault_of left e ≡ Some cause → length_of e ≡ Some len → len ≤ left → ⊥
not_both left None cause len f l h = absurd cc
not_both left (Some e) cause len f l h = fixed_faults left e.fixed e.table (ltb left e.fixed) refl cause len f l h

-- where there is no fault, there is a length within what is left
pub record Fits (left : ℕ) (e : Option Extent) : Type 0 where
  pub len : ℕ
  pub is : length_of e ≡ Some len
  pub within : len ≤ left

no_cut : (left n : ℕ) (b : Bool) → ltb left n ≡ b → (d : Option WalkCause) → cond b (Some Cut) d ≡ None → (n ≤ left) × (d ≡ None)
no_cut left n true t d e = absurd cc
no_cut left n false t d e = (ltb-false _ _ t, e)

no_table_fault : (left fixed : ℕ) (table : Option ℕ) → table_fault left fixed table ≡ None → (n : ℕ) × (whole fixed table ≡ Some n) × (n ≤ left)
no_table_fault left fixed None e = absurd cc
no_table_fault left fixed (Some table) e = (fixed + table, refl, (no_cut left (fixed + table) (ltb left (fixed + table)) refl None e).0)

pub fits : (left : ℕ) (e : Option Extent) → fault_of left e ≡ None → Fits left e
fits left None f = absurd cc
fits left (Some e) f =
    let n = no_cut left e.fixed (ltb left e.fixed) refl (table_fault left e.fixed e.table) f in
    let t = no_table_fault left e.fixed e.table n.1 in
    record { len = t.0; is = t.1; within = t.2 }

-- ---- no bytes tell of want of memory
cut_is_bytes : (b : Bool) (d : Option WalkCause) → (d ≡ Some OutOfMemory → ⊥) → cond b (Some Cut) d ≡ Some OutOfMemory → ⊥
cut_is_bytes true d h e = absurd cc
cut_is_bytes false d h e = h e

table_is_bytes : (left fixed : ℕ) (table : Option ℕ) → table_fault left fixed table ≡ Some OutOfMemory → ⊥
table_is_bytes left fixed None e = absurd cc
table_is_bytes left fixed (Some table) e = cut_is_bytes (ltb left (fixed + table)) None (λ d. absurd cc) e

pub not_memory : (left : ℕ) (e : Option Extent) → fault_of left e ≡ Some OutOfMemory → ⊥
not_memory left None f = absurd cc
not_memory left (Some e) f = cut_is_bytes (ltb left e.fixed) (table_fault left e.fixed e.table) (table_is_bytes left e.fixed e.table) f

-- Where the entries of a pool stand, and what stands at a place of the pool.
use Rattle.std.specs.Prelude.{◌≡◌, ℕ, zero, suc, ◌+◌, ◌-◌, Bool, true, false, List, [], ◌∷◌, ◌++◌, length, Option, Some, None, Result, Ok, Err, slice_get, get_or, ◌≤◌, ◌==◌, if◌then◌else◌}
use Rattle.byteorder.specs.Endian.{big_number}
use Rattle.class_pool.specs.declared.fault.ClassFault.{ClassFault}
use Rattle.class_pool.specs.Spelling.{Entry, utf8, fixed, takes_two, entry, IsEntry, Head}
use Rattle.class_pool.specs.Reading.{head_at, IsBytes}

-- A second place, where an entry takes two.
abbrev pub blank : {A : Type 0} → A → Bool → List A
blank a true = a ∷ []
blank a false = []

-- Where the entries stand, by their places of the pool from 1 on; 0 at a second place.
unfoldable pub starts : ℕ → List Entry → List ℕ
starts at [] = []
starts at (e ∷ es) = at ∷ (blank 0 (takes_two e) ++ starts (at + length (entry e)) es)

-- The entries by their places of the pool from 1 on; None at a second place.
unfoldable pub slots : List Entry → List (Option Entry)
slots [] = []
slots (e ∷ es) = Some e ∷ (blank None (takes_two e) ++ slots es)

abbrev pub flat : Option (Option Entry) → Option Entry
flat (Some e) = e
flat None = None

-- The entry at a place of the pool. Place 0, a second place and what is past the pool have none.
abbrev pub slot : List Entry → ℕ → Option Entry
slot es zero = None
slot es (suc n) = flat (slice_get (slots es) n)

abbrev pub text_of_entry : Option Entry → Option (List ℕ)
text_of_entry (Some (utf8 text)) = Some text
text_of_entry (Some (fixed tag body)) = None
text_of_entry None = None

-- The text at a place of the pool.
abbrev pub text_in : List Entry → ℕ → Option (List ℕ)
text_in es n = text_of_entry (slot es n)

-- The place that a Class entry names (JVMS 4.4.1).
abbrev pub class_index : Option Entry → Option ℕ
class_index (Some (utf8 text)) = None
class_index (Some (fixed tag body)) = if tag == 7 then Some (big_number 2 body) else None
class_index None = None

abbrev pub text_at_index : List Entry → Option ℕ → Option (List ℕ)
text_at_index es None = None
text_at_index es (Some n) = text_in es n

-- The bytes of the name of the class at a place of the pool.
abbrev pub name_in : List Entry → ℕ → Option (List ℕ)
name_in es n = text_at_index es (class_index (slot es n))

-- The place in the file of the tag of the entry at a place of the pool; 0 where there is none.
abbrev pub start_in : List Entry → ℕ → ℕ
start_in es n = get_or (0 ∷ starts 10 es) n 0

-- Where entries stand, after those that were read before.
abbrev pub after : List ℕ → ℕ → Result (List Entry × List ℕ) ClassFault → Result (List ℕ × List ℕ) ClassFault
after prefix at (Ok r) = Ok (prefix ++ starts at r.0, r.1)
after prefix at (Err e) = Err e

-- What is kept of a header and a pool: the version, where the entries stand, and where the pool ends.
pub record Kept : Type 0 where
  pub minor : ℕ
  pub major : ℕ
  pub starts : List ℕ
  pub end : ℕ

abbrev pub kept : ℕ → Result (Head × List ℕ) ClassFault → Result Kept ClassFault
kept total (Ok r) = Ok (record { minor = r.0.header.minor; major = r.0.header.major; starts = 0 ∷ starts 10 r.0.entries; end = total - length r.1 })
kept total (Err e) = Err e

abbrev pub head_found : Result (Head × List ℕ) ClassFault → Head
head_found (Ok r) = r.0
head_found (Err e) = record { header = record { minor = 0; major = 0; count = 0 }; entries = [] }

-- The header and the pool that stand at the front of the bytes.
abbrev pub head_of : List ℕ → Head
head_of bytes = head_found (head_at (length bytes) bytes)

-- What an index keeps is that of its bytes.
pub record IsKept (bytes : List ℕ) (index : Kept) : Type 0 where
  pub fits : IsBytes bytes
  pub small : length bytes ≤ 16777216
  pub kept : kept (length bytes) (head_at (length bytes) bytes) ≡ Ok index

-- The bytes begin with the entry at a place of the pool.
pub record IsAt (es : List Entry) (n : ℕ) (bytes : List ℕ) : Type 0 where
  pub value : Entry
  pub is : slot es n ≡ Some value
  pub rest : List ℕ
  pub parts : bytes ≡ entry value ++ rest
  pub fits : IsEntry value

-- Reading a class file from its front. A part that is read is a value and the bytes after it; where it can't be
-- read, the fault with its place. `total` is the length of the whole file.
use Rattle.std.specs.Prelude.{◌≡◌, ◌≢◌, ℕ, zero, suc, ◌-◌, ◌&&◌, Bool, true, false, List, [], ◌∷◌, length, take, drop, Option, Some, None, Result, Ok, Err, nat_lt, nat_le, get_or, ◌<◌, ◌==◌, if◌then◌else◌}
use Rattle.byteorder.specs.Endian.{big_number}
use Rattle.class_pool.specs.declared.fault.ClassFault.{ClassFault}
use Rattle.class_pool.specs.declared.fault.ClassCause.TheVariants.{Truncated, Magic, Version, Tag, OutOfMemory}
use Rattle.class_pool.specs.Spelling.{Entry, utf8, fixed, tag_size, is_wide, takes_two, FileHeader, Head, magic}

infixl 10 ◌>>=◌
abbrev pub ◌>>=◌ : {A B : Type 0} → Result A ClassFault → (A → Result B ClassFault) → Result B ClassFault
(Ok x) >>= f = f x
(Err e) >>= f = Err e

-- Memory ran out: the place is 0, and says nothing about the bytes.
abbrev pub no_memory : ClassFault
no_memory = record { at = 0; cause = OutOfMemory }

-- What a function returned, seen by `view`, is what reading gives, unless memory ran out.
abbrev pub Gives : {X Y : Type 0} → (X → Y) → Result X ClassFault → Result Y ClassFault → Type 0
Gives view (Ok x) read = read ≡ Ok (view x)
Gives view (Err e) read = e ≢ no_memory → read ≡ Err e

-- The file ends within a part: the place is its length.
abbrev pub cut : ℕ → ClassFault
cut total = record { at = total; cause = Truncated }

-- The tag at the front is in no table, or lacks its second place.
abbrev pub bad_tag : ℕ → List ℕ → ClassFault
bad_tag total bytes = record { at = total - length bytes; cause = Tag }

-- The number of so many bytes at the front.
abbrev pub number_at : ℕ → ℕ → List ℕ → Result (ℕ × List ℕ) ClassFault
number_at total n bytes = if nat_lt (length bytes) n then Err (cut total) else Ok (big_number n bytes, drop n bytes)

-- So many bytes at the front.
abbrev pub block_at : ℕ → ℕ → List ℕ → Result (List ℕ × List ℕ) ClassFault
block_at total n bytes = if nat_lt (length bytes) n then Err (cut total) else Ok (take n bytes, drop n bytes)

-- A count of two bytes, and so many.
unfoldable pub text_at : ℕ → List ℕ → Result (List ℕ × List ℕ) ClassFault
text_at total bytes = do
  len ← number_at total 2 bytes
  block_at total len.0 len.1

-- The bytes after a tag. A tag of two places needs a place that is left.
unfoldable pub fixed_at : ℕ → ℕ → ℕ → Option ℕ → List ℕ → Result (Entry × List ℕ) ClassFault
fixed_at total left tag None rest = Err (bad_tag total (tag ∷ rest))
fixed_at total left tag (Some size) rest =
    if is_wide tag && left == 0 then Err (bad_tag total (tag ∷ rest)) else (do
      body ← block_at total size rest
      Ok (fixed tag body.0, body.1))

-- The entry at the front, with so many places left after its first.
unfoldable pub entry_at : ℕ → ℕ → List ℕ → Result (Entry × List ℕ) ClassFault
entry_at total left [] = Err (cut total)
entry_at total left (tag ∷ rest) = if tag == 1 then (text_at total rest >>= λ text. Ok (utf8 text.0, text.1)) else fixed_at total left tag (tag_size tag) rest

-- What was read, by a function of it.
abbrev pub on_ok : {A B : Type 0} → (A → B) → Result A ClassFault → Result B ClassFault
on_ok f (Ok x) = Ok (f x)
on_ok f (Err e) = Err e

-- Whether an entry takes two places, and the bytes after it.
abbrev pub passed : Entry × List ℕ → Bool × List ℕ
passed e = (takes_two e.0, e.1)

-- A test, and the fault where it fails.
abbrev pub need : Bool → ClassFault → Result Bool ClassFault
need b e = if b then Ok true else Err e

-- The entries that fill so many places. `skip`: the first of these belongs to the entry before them.
unfoldable pub entries_at : ℕ → Bool → ℕ → List ℕ → Result (List Entry × List ℕ) ClassFault
entries_at total skip zero bytes = Ok ([], bytes)
entries_at total true (suc left) bytes = entries_at total false left bytes
entries_at total false (suc left) bytes = do
  e ← entry_at total left bytes
  es ← entries_at total (takes_two e.0) left e.1
  Ok (e.0 ∷ es.0, es.1)

-- The header: the magic number, the version, and the count of places and one.
unfoldable pub header_at : ℕ → List ℕ → Result (FileHeader × List ℕ) ClassFault
header_at total bytes = do
  sign ← number_at total 4 bytes
  right ← need (sign.0 == magic) (record { at = 0; cause = Magic })
  minor ← number_at total 2 sign.1
  major ← number_at total 2 minor.1
  new ← need (nat_le 45 major.0) (record { at = 6; cause = Version })
  count ← number_at total 2 major.1
  Ok (record { minor = minor.0; major = major.0; count = count.0 }, count.1)

-- The header and the pool.
unfoldable pub head_at : ℕ → List ℕ → Result (Head × List ℕ) ClassFault
head_at total bytes = do
  header ← header_at total bytes
  es ← entries_at total false (header.0.count - 1) header.1
  Ok (record { header = header.0; entries = es.0 }, es.1)

-- The header and the pool alone.
abbrev pub head_read : Result (Head × List ℕ) ClassFault → Result Head ClassFault
head_read (Ok r) = Ok r.0
head_read (Err e) = Err e

-- The bytes are bytes.
abbrev pub IsBytes : List ℕ → Type 0
IsBytes bytes = (i : ℕ) → get_or bytes i 0 < 256

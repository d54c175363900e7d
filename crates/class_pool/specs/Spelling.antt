-- What a header and a constant pool are, and the one spelling of each (JVMS 4.1 and 4.4).
use Rattle.std.specs.Prelude.{◌≡◌, ℕ, ◌+◌, ◌-◌, ◌<◌, ◌≤◌, ◌==◌, ◌||◌, Bool, true, false, if◌then◌else◌, List, [], ◌∷◌, ◌++◌, length, Option, Some, None}
use Rattle.std.specs.List.{flat_map, AllByRecursion}
use Rattle.byteorder.specs.Endian.{big_bytes}

-- An entry of the pool: a text in its bytes, or a tag with the bytes that follow it.
pub data Entry : Type 0 where
  utf8 : List ℕ → Entry
  fixed : ℕ → List ℕ → Entry

-- How many bytes follow a tag other than 1 (JVMS 4.4, table 4.4-A).
abbrev pub tag_size : ℕ → Option ℕ
tag_size tag =
    if tag == 3 || tag == 4 then Some 4
    else if tag == 5 || tag == 6 then Some 8
    else if tag == 7 || tag == 8 || tag == 16 || tag == 19 || tag == 20 then Some 2
    else if tag == 9 || tag == 10 || tag == 11 || tag == 12 || tag == 17 || tag == 18 then Some 4
    else if tag == 15 then Some 3
    else None

-- Long and Double take two places of the pool (JVMS 4.4.5).
abbrev pub is_wide : ℕ → Bool
is_wide tag = tag == 5 || tag == 6

abbrev pub takes_two : Entry → Bool
takes_two (utf8 text) = false
takes_two (fixed tag body) = is_wide tag

-- The bytes of an entry.
abbrev pub entry : Entry → List ℕ
entry (utf8 text) = 1 ∷ big_bytes 2 (length text) ++ text
entry (fixed tag body) = tag ∷ body

abbrev pub IsEntry : Entry → Type 0
IsEntry (utf8 text) = length text < 65536
IsEntry (fixed tag body) = tag_size tag ≡ Some (length body)

abbrev pub width : Bool → ℕ
width true = 2
width false = 1

-- The bytes of entries, end to end.
abbrev pub entries : List Entry → List ℕ
entries es = flat_map entry es

-- How many places of the pool they take.
unfoldable pub places : List Entry → ℕ
places [] = 0
places (e ∷ es) = width (takes_two e) + places es

-- The numbers of the header. `count` is one more than the places of the pool.
pub record FileHeader : Type 0 where
  pub minor : ℕ
  pub major : ℕ
  pub count : ℕ

abbrev pub magic : ℕ
magic = 3405691582

-- The ten bytes of the header.
abbrev pub header_bytes : FileHeader → List ℕ
header_bytes f = big_bytes 4 magic ++ (big_bytes 2 f.minor ++ (big_bytes 2 f.major ++ big_bytes 2 f.count))

-- The numbers have two bytes each, and the version is 45 or newer.
pub record IsFileHeader (f : FileHeader) : Type 0 where
  pub minor : f.minor < 65536
  pub major : f.major < 65536
  pub new : 45 ≤ f.major
  pub count : f.count < 65536

-- A header and its constant pool.
pub record Head : Type 0 where
  pub header : FileHeader
  pub entries : List Entry

abbrev pub head : Head → List ℕ
head h = header_bytes h.header ++ entries h.entries

-- The entries fill the places that the header counts. A count of 0 or 1 is an empty pool.
pub record IsHead (h : Head) : Type 0 where
  pub header : IsFileHeader h.header
  pub each : AllByRecursion IsEntry h.entries
  pub full : places h.entries ≡ h.header.count - 1

-- The bytes begin with this header and this pool.
pub record IsPoolOf (bytes : List ℕ) (h : Head) : Type 0 where
  pub rest : List ℕ
  pub is : IsHead h
  pub parts : bytes ≡ head h ++ rest

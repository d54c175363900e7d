-- The `Code` attributes of a class file's methods, and where their code stands (JVMS 4.7.3).
use Rattle.std.specs.Prelude.{◌≡◌, ℕ, ◌+◌, ◌-◌, ◌*◌, ◌<◌, ◌^◌, Bool, false, List, [], ◌∷◌, ◌++◌, length, Option, Some, None}
use Rattle.std.specs.List.{filter, flat_map, AllByRecursion}
use Rattle.std.specs.Str.{bytes_eq}
use Rattle.byteorder.specs.Endian.{big_bytes}
use Rattle.class_pool.specs.Spelling.{Head, Entry}
use Rattle.class_pool.specs.Index.{text_in}
use Rattle.class_shape.specs.Parts.{attribute, IsAttribute, counted, Counted, Body, IsFile}
use Rattle.class_shape.specs.Parts.{Attribute as Part}
use Rattle.class_shape.specs.Shapes.{Pairwise}
use Rattle.class_shape.specs.Reading.{AttributeSeen}
use Rattle.class_shape.specs.Places.{method_attributes}
use Rattle.code_walk.specs.declared.fault.WalkFault.{WalkFault}
use Rattle.code_walk.specs.declared.fault.WalkCause.TheVariants.{Attribute}

-- What a `Code` attribute holds: code, handlers of exceptions with eight bytes each, attributes.
pub record Code : Type 0 where
  pub stack : ℕ
  pub locals : ℕ
  pub code : List ℕ
  pub handler_count : ℕ
  pub handlers : List ℕ
  pub attributes : List Part

abbrev pub front_bytes : ℕ → ℕ → List ℕ → List ℕ
front_bytes stack locals code = big_bytes 2 stack ++ (big_bytes 2 locals ++ (big_bytes 4 (length code) ++ code))

abbrev pub table_bytes : ℕ → List ℕ → List Part → List ℕ
table_bytes count handlers attributes = big_bytes 2 count ++ (handlers ++ counted attribute attributes)

abbrev pub code_bytes : Code → List ℕ
code_bytes c = front_bytes c.stack c.locals c.code ++ table_bytes c.handler_count c.handlers c.attributes

pub record IsCode (c : Code) : Type 0 where
  pub stack : c.stack < 65536
  pub locals : c.locals < 65536
  pub code : length c.code < 2 ^ 32
  pub handler_count : c.handler_count < 65536
  pub handlers : length c.handlers ≡ 8 * c.handler_count
  pub attributes : Counted IsAttribute c.attributes

-- The code in the bytes of a `Code` attribute stands from one place of the file up to another.
pub record HasRange (a : AttributeSeen) (range : ℕ × ℕ) : Type 0 where
  pub holds : Code
  pub is : IsCode holds
  pub parts : a.body ≡ code_bytes holds
  pub range_is : range ≡ (a.end - length a.body + 8, a.end - length a.body + 8 + length holds.code)

-- `Code`
abbrev pub code_name : List ℕ
code_name = 67 ∷ 111 ∷ 100 ∷ 101 ∷ []

abbrev pub is_code_name : Option (List ℕ) → Bool
is_code_name (Some raw) = bytes_eq raw code_name
is_code_name None = false

-- Whether the pool names the attribute so. An index of no text names none.
abbrev pub is_code : List Entry → AttributeSeen → Bool
is_code es a = is_code_name (text_in es a.name.index)

abbrev pub same_list : List AttributeSeen → List AttributeSeen
same_list attributes = attributes

-- The `Code` attributes of the methods, in file order.
abbrev pub code_attributes : Head → Body → List AttributeSeen
code_attributes h b = filter (is_code h.entries) (flat_map same_list (method_attributes h b))

-- The ranges of all code of a class file, in file order.
pub record AreCodes (bytes : List ℕ) (ranges : List (ℕ × ℕ)) : Type 0 where
  pub head : Head
  pub body : Body
  pub is_file : IsFile bytes head body
  pub each : Pairwise HasRange (code_attributes head body) ranges

abbrev pub HasSomeRange : AttributeSeen → Type 0
HasSomeRange a = (range : ℕ × ℕ) × HasRange a range

-- The first `Code` attribute that isn't one, at the place of its length.
pub record IsCodeFault (bytes : List ℕ) (fault : WalkFault) : Type 0 where
  pub head : Head
  pub body : Body
  pub is_file : IsFile bytes head body
  pub good : List AttributeSeen
  pub bad : AttributeSeen
  pub more : List AttributeSeen
  pub split : code_attributes head body ≡ good ++ (bad ∷ more)
  pub each : AllByRecursion HasSomeRange good
  pub none : (range : ℕ × ℕ) → HasRange bad range → ⊥
  pub fault_is : fault ≡ record { at = bad.len_at; cause = Attribute }

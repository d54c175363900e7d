-- The parts of a class file as they stand, and the one spelling of each (JVMS 4.1, 4.5, 4.6, 4.7).
use Rattle.std.specs.Prelude.{◌≡◌, ℕ, ◌<◌, ◌^◌, List, ◌++◌, length}
use Rattle.std.specs.List.{flat_map, AllByRecursion}
use Rattle.byteorder.specs.Endian.{big_bytes}
use Rattle.class_pool.specs.Spelling.{Head, head, IsHead}

-- An attribute: the place of its name in the pool, and the bytes after its length.
pub record Attribute : Type 0 where
  pub name : ℕ
  pub body : List ℕ

-- A field or method: its flags, the places of its name and descriptor, and its attributes.
pub record Member : Type 0 where
  pub flags : ℕ
  pub name : ℕ
  pub descriptor : ℕ
  pub attributes : List Attribute

-- The flags, and the places of this class and of the super class.
pub record Own : Type 0 where
  pub flags : ℕ
  pub this : ℕ
  pub parent : ℕ

-- The places of the interfaces, the fields, the methods and the attributes.
pub record Lists : Type 0 where
  pub interfaces : List ℕ
  pub fields : List Member
  pub methods : List Member
  pub attributes : List Attribute

-- What stands after the pool.
pub record Body : Type 0 where
  pub own : Own
  pub lists : Lists

-- A count of two bytes, and so many.
abbrev pub counted : {A : Type 0} → (A → List ℕ) → List A → List ℕ
counted spell xs = big_bytes 2 (length xs) ++ flat_map spell xs

abbrev pub attribute : Attribute → List ℕ
attribute a = big_bytes 2 a.name ++ (big_bytes 4 (length a.body) ++ a.body)

abbrev pub member : Member → List ℕ
member m = big_bytes 2 m.flags ++ (big_bytes 2 m.name ++ (big_bytes 2 m.descriptor ++ counted attribute m.attributes))

abbrev pub own : Own → List ℕ
own o = big_bytes 2 o.flags ++ (big_bytes 2 o.this ++ big_bytes 2 o.parent)

abbrev pub lists : Lists → List ℕ
lists l = counted (big_bytes 2) l.interfaces ++ (counted member l.fields ++ (counted member l.methods ++ counted attribute l.attributes))

abbrev pub body : Body → List ℕ
body b = own b.own ++ lists b.lists

abbrev pub IsShort : ℕ → Type 0
IsShort n = n < 65536

abbrev pub Counted : {A : Type 0} → (A → Type 0) → List A → Type 0
Counted Fits xs = IsShort (length xs) × AllByRecursion Fits xs

pub record IsAttribute (a : Attribute) : Type 0 where
  pub name : IsShort a.name
  pub body : length a.body < 2 ^ 32

pub record IsMember (m : Member) : Type 0 where
  pub flags : IsShort m.flags
  pub name : IsShort m.name
  pub descriptor : IsShort m.descriptor
  pub attributes : Counted IsAttribute m.attributes

pub record IsOwn (o : Own) : Type 0 where
  pub flags : IsShort o.flags
  pub this : IsShort o.this
  pub parent : IsShort o.parent

pub record AreLists (l : Lists) : Type 0 where
  pub interfaces : Counted IsShort l.interfaces
  pub fields : Counted IsMember l.fields
  pub methods : Counted IsMember l.methods
  pub attributes : Counted IsAttribute l.attributes

pub record IsBody (b : Body) : Type 0 where
  pub is_own : IsOwn b.own
  pub are_lists : AreLists b.lists

-- The bytes are, end to end, a header with its pool and a body.
pub record IsFile (bytes : List ℕ) (h : Head) (b : Body) : Type 0 where
  pub is_head : IsHead h
  pub is_body : IsBody b
  pub parts : bytes ≡ head h ++ body b

-- A row of an `InnerClasses` attribute (JVMS 4.7.6): three places of the pool, and flags.
pub record Row : Type 0 where
  pub inner : ℕ
  pub outer : ℕ
  pub name : ℕ
  pub flags : ℕ

abbrev pub row : Row → List ℕ
row r = big_bytes 2 r.inner ++ (big_bytes 2 r.outer ++ (big_bytes 2 r.name ++ big_bytes 2 r.flags))

pub record IsRow (r : Row) : Type 0 where
  pub inner : IsShort r.inner
  pub outer : IsShort r.outer
  pub name : IsShort r.name
  pub flags : IsShort r.flags

-- The body of an `InnerClasses` attribute is a count and so many rows, and nothing after them.
pub record AreRows (body : List ℕ) (rows : List Row) : Type 0 where
  pub each : Counted IsRow rows
  pub parts : body ≡ counted row rows

-- What a class file says: its names and descriptors, through the pool. No place of the file stands here.
use Rattle.std.specs.Prelude.{◌≡◌, ◌≢◌, ℕ, true, List, [], ◌∷◌, ◌++◌, Option, Some, None, MatchOption, IfSome, ⊤}
use Rattle.class_pool.specs.Spelling.{Entry, Head}
use Rattle.class_pool.specs.Index.{text_in, name_in}
use Rattle.class_pool.specs.Units.{IsText}
use Rattle.type_names.specs.Names.{is_internal}
use Rattle.type_names.specs.Descriptors.{field, IsField, method, IsMethod}
use Rattle.type_names.specs.declared.kinds.Erased.{Erased}
use Rattle.type_names.specs.declared.kinds.MethodKind.{MethodKind}
use Rattle.class_shape.specs.declared.shapes.ClassShape.{ClassShape}
use Rattle.class_shape.specs.declared.shapes.MemberShape.{MemberShape}
use Rattle.class_shape.specs.declared.shapes.InnerRow.{InnerRow}
use Rattle.class_shape.specs.declared.shapes.MemberKind.{MemberKind}
use Rattle.class_shape.specs.declared.shapes.MemberKind.TheVariants.{Field, Method}
use Rattle.class_shape.specs.Parts.{Attribute, Member, Body, IsFile, Row, AreRows}

-- Two lists have the same length, and the relation holds at each place.
abbrev pub Pairwise : {A B : Type 0} → (A → B → Type 0) → List A → List B → Type 0
Pairwise R [] [] = ⊤
Pairwise R [] (y ∷ ys) = ⊥
Pairwise R (x ∷ xs) [] = ⊥
Pairwise R (x ∷ xs) (y ∷ ys) = R x y × Pairwise R xs ys

-- Place n of the pool is a Class entry, and its name is an internal name.
pub record IsClassName (es : List Entry) (n : ℕ) (name : List ℕ) : Type 0 where
  pub raw : List ℕ
  pub stands : name_in es n ≡ Some raw
  pub text : IsText raw name
  pub internal : is_internal true name ≡ true

-- 0 stands for none.
abbrev pub OrNone : (ℕ → List ℕ → Type 0) → ℕ → Option (List ℕ) → Type 0
OrNone IsNamed n None = n ≡ 0
OrNone IsNamed n (Some name) = (n ≢ 0) × IsNamed n name

-- Place n of the pool is a text.
pub record IsTextAt (es : List Entry) (n : ℕ) (text : List ℕ) : Type 0 where
  pub raw : List ℕ
  pub stands : text_in es n ≡ Some raw
  pub spells : IsText raw text

-- Place n of the pool is a Utf8 entry: the text that it spells, or None where it spells none.
pub record Decodes (es : List Entry) (n : ℕ) (text : Option (List ℕ)) : Type 0 where
  pub raw : List ℕ
  pub stands : text_in es n ≡ Some raw
  pub spells : MatchOption text ((t : List ℕ) → IsText raw t → ⊥) (λ t. IsText raw t)

-- A descriptor of a field, or of a method.
abbrev pub IsDescriptor : MemberKind → List ℕ → Type 0
IsDescriptor Field text = (kind : Erased) × IsField kind × (text ≡ field kind)
IsDescriptor Method text = (kind : MethodKind) × IsMethod kind × (text ≡ method kind)

pub record IsMemberShape (es : List Entry) (kind : MemberKind) (m : Member) (s : MemberShape) : Type 0 where
  pub flags : s.flags ≡ m.flags
  pub name : Decodes es m.name s.name
  pub descriptor : Decodes es m.descriptor s.descriptor
  pub well_formed : IfSome s.descriptor (λ text. IsDescriptor kind text)

pub record IsInnerRow (es : List Entry) (r : Row) (s : InnerRow) : Type 0 where
  pub inner : IsClassName es r.inner s.inner
  pub outer : OrNone (IsClassName es) r.outer s.outer
  pub name : OrNone (IsTextAt es) r.name s.name
  pub flags : s.flags ≡ r.flags

-- `InnerClasses`
abbrev pub inner_classes : List ℕ
inner_classes = 73 ∷ 110 ∷ 110 ∷ 101 ∷ 114 ∷ 67 ∷ 108 ∷ 97 ∷ 115 ∷ 115 ∷ 101 ∷ 115 ∷ []

-- What one class attribute says: the rows of an `InnerClasses`, and nothing for any other.
pub record SaysOfAttribute (es : List Entry) (a : Attribute) (inner : List InnerRow) : Type 0 where
  pub raw : List ℕ
  pub named : text_in es a.name ≡ Some raw
  pub rows : List Row
  pub is_rows : raw ≡ inner_classes → AreRows a.body rows
  pub said : raw ≡ inner_classes → Pairwise (IsInnerRow es) rows inner
  pub other : raw ≢ inner_classes → inner ≡ []

-- The rows of all class attributes, joined in order.
abbrev pub SaysOfAttributes : List Entry → List Attribute → List InnerRow → Type 0
SaysOfAttributes es [] inner = inner ≡ []
SaysOfAttributes es (a ∷ more) inner = (prefix : List InnerRow) × (rest : List InnerRow) × (inner ≡ prefix ++ rest) × SaysOfAttribute es a prefix × SaysOfAttributes es more rest

-- The shape holds what the header, the pool and the body say.
pub record Says (h : Head) (b : Body) (s : ClassShape) : Type 0 where
  pub minor : s.minor ≡ h.header.minor
  pub major : s.major ≡ h.header.major
  pub flags : s.flags ≡ b.own.flags
  pub name : IsClassName h.entries b.own.this s.name
  pub parent : OrNone (IsClassName h.entries) b.own.parent s.parent
  pub interfaces : Pairwise (IsClassName h.entries) b.lists.interfaces s.interfaces
  pub fields : Pairwise (IsMemberShape h.entries Field) b.lists.fields s.fields
  pub methods : Pairwise (IsMemberShape h.entries Method) b.lists.methods s.methods
  pub inner : SaysOfAttributes h.entries b.lists.attributes s.inner

-- The bytes are, end to end, the spellings of the parts of a class file in their order, and the shape holds what
-- those parts say (JVMS chapter 4).
pub record IsClassFile (bytes : List ℕ) (shape : ClassShape) : Type 0 where
  pub head : Head
  pub body : Body
  pub is_file : IsFile bytes head body
  pub says : Says head body shape

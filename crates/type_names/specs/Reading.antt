-- Reading a descriptor from its front: a value and the text after it.
use Rattle.std.specs.Prelude.{ℕ, zero, suc, ◌==◌, Bool, true, false, if◌then◌else◌, List, [], ◌∷◌, length, Option, Some, None}
use Rattle.type_names.specs.declared.kinds.Base.{Base}
use Rattle.type_names.specs.declared.kinds.Base.TheVariants.{Byte, Char, Double, Float, Int, Long, Short, Boolean, Class}
use Rattle.type_names.specs.declared.kinds.Erased.{Erased}
use Rattle.type_names.specs.declared.kinds.MethodKind.{MethodKind}
use Rattle.type_names.specs.Names.{is_internal}

-- The base that a letter stands for.
abbrev pub letter : ℕ → Option Base
letter c =
    if c == 66 then Some Byte else if c == 67 then Some Char else if c == 68 then Some Double
    else if c == 70 then Some Float else if c == 73 then Some Int else if c == 74 then Some Long
    else if c == 83 then Some Short else if c == 90 then Some Boolean else None

abbrev pub with_first : ℕ → Option (List ℕ × List ℕ) → Option (List ℕ × List ℕ)
with_first c None = None
with_first c (Some r) = Some (c ∷ r.0, r.1)

-- The text up to the first `;`, and the text after it.
unfoldable pub until : List ℕ → Option (List ℕ × List ℕ)
until [] = None
until (c ∷ cs) = if c == 59 then Some ([], cs) else with_first c (until cs)

-- The class of a name, where it is an internal name.
abbrev pub named : Option (List ℕ × List ℕ) → Option (Base × List ℕ)
named None = None
named (Some r) = if is_internal true r.0 then Some (Class r.0, r.1) else None

abbrev pub lettered : Option Base → List ℕ → Option (Base × List ℕ)
lettered None rest = None
lettered (Some b) rest = Some (b, rest)

abbrev pub letter_at : List ℕ → Option (Base × List ℕ)
letter_at [] = None
letter_at (c ∷ rest) = lettered (letter c) rest

-- The base at the front.
unfoldable pub base_at : List ℕ → Option (Base × List ℕ)
base_at [] = None
base_at (c ∷ rest) = if c == 76 then named (until rest) else lettered (letter c) rest

abbrev pub with_dims : ℕ → Option (Base × List ℕ) → Option (Erased × List ℕ)
with_dims n None = None
with_dims n (Some r) = Some (record { dims = n; base = r.0 }, r.1)

-- The field descriptor at the front, after so many `[`.
unfoldable pub field_at : ℕ → List ℕ → Option (Erased × List ℕ)
field_at n [] = None
field_at n (c ∷ rest) = if c == 91 then field_at (suc n) rest else with_dims n (base_at (c ∷ rest))

abbrev pub ended : {A : Type 0} → Option (A × List ℕ) → Option A
ended None = None
ended (Some (x, [])) = Some x
ended (Some (x, c ∷ cs)) = None

-- The type that the whole text describes.
abbrev pub field_in : List ℕ → Option Erased
field_in text = ended (field_at 0 text)

-- The text after a certain character at the front.
abbrev pub past : ℕ → List ℕ → Option (List ℕ)
past c [] = None
past c (d ∷ rest) = if d == c then Some rest else None

abbrev pub up_to : List Erased → List ℕ → List Erased × List ℕ
up_to kinds rest = (kinds, rest)

abbrev pub with_param : Erased → Option (List Erased × List ℕ) → Option (List Erased × List ℕ)
with_param kind None = None
with_param kind (Some r) = Some (kind ∷ r.0, r.1)

abbrev pub after_param : Option (Erased × List ℕ) → (List ℕ → Option (List Erased × List ℕ)) → Option (List Erased × List ℕ)
after_param None more = None
after_param (Some k) more = with_param k.0 (more k.1)

abbrev pub unless_closed : Option (List ℕ) → Option (List Erased × List ℕ) → Option (List Erased × List ℕ)
unless_closed (Some rest) more = Some ([], rest)
unless_closed None more = more

-- Fewer than so many parameters, up to a `)`.
unfoldable pub params_at : ℕ → List ℕ → Option (List Erased × List ℕ)
params_at zero text = None
params_at (suc n) text = unless_closed (past 41 text) (after_param (field_at 0 text) (λ rest. params_at n rest))

abbrev pub some_outcome : Option Erased → Option (Option Erased)
some_outcome None = None
some_outcome (Some kind) = Some (Some kind)

abbrev pub is_void : List ℕ → Bool
is_void [] = false
is_void (c ∷ []) = c == 86
is_void (c ∷ d ∷ rest) = false

-- The result that the whole text describes.
abbrev pub result_in : List ℕ → Option (Option Erased)
result_in text = if is_void text then Some None else some_outcome (field_in text)

abbrev pub with_result : List Erased → Option (Option Erased) → Option MethodKind
with_result kinds None = None
with_result kinds (Some r) = Some (record { params = kinds; result = r })

abbrev pub then_result : Option (List Erased × List ℕ) → Option MethodKind
then_result None = None
then_result (Some r) = with_result r.0 (result_in r.1)

abbrev pub within_brackets : Option (List ℕ) → Option MethodKind
within_brackets None = None
within_brackets (Some rest) = then_result (params_at (suc (length rest)) rest)

-- The types of the method that the whole text describes.
abbrev pub method_in : List ℕ → Option MethodKind
method_in text = within_brackets (past 40 text)

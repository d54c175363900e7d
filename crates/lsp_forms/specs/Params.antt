-- Parameters of messages: texts, whole numbers and lists among the members of a JSON value.
use Rattle.std.specs.Prelude.{◌≡◌, ℕ, ◌+◌, ◌^◌, ◌-◌, min, List, [], ◌∷◌, Option, Some, None, Result, Ok, Err, Bool, true, ◌&&◌, nat_le, if◌then◌else◌}
use Rattle.serde_json.specs.Data.{Data, Num, unsigned, negative, float, Items, no_items, item}
use Rattle.serde_json.specs.Find.{get, as_str, as_number}
use Rattle.json_rpc.specs.declared.message.Refused.{Refused}
use Rattle.json_rpc.specs.declared.message.Refused.TheVariants.{Fault, OutOfMemory}
use Rattle.lsp_forms.specs.declared.forms.ParamFault.{ParamFault}

-- A member of what may be missing. Only an object has members.
unfoldable pub member_of : List ℕ → Option Data → Option Data
member_of key None = None
member_of key (Some d) = get key d

-- The text that a parameter is, or none where it is missing or of another kind.
unfoldable pub text_of : Option Data → Option (List ℕ)
text_of None = None
text_of (Some d) = as_str d

-- The number that a parameter is, or none where it is missing or of another kind.
unfoldable pub number_of : Option Data → Option Num
number_of None = None
number_of (Some d) = as_number d

-- The number, where it is written as a whole number and is from low to high. One written with a point or an exponent, and
-- `-0`, are floats.
unfoldable pub whole : Num → ℕ → ℕ → Option ℕ
whole (unsigned n) low high = if nat_le low n && nat_le n high then Some n else None
whole (negative z) low high = None
whole (float x) low high = None

-- One thing more, where there is nothing that is none.
unfoldable pub both : {X : Type 0} → Option X → Option (List X) → Option (List X)
both None xs = None
both (Some x) None = None
both (Some x) (Some xs) = Some (x ∷ xs)

-- What f says of every item of a list, or none where it says nothing of one of them.
unfoldable pub each : {X : Type 0} → (Data → Option X) → Items → Option (List X)
each f no_items = Some []
each f (item d ds) = both (f d) (each f ds)

-- Whether every item of a list passes a test.
unfoldable pub every : (Data → Bool) → Items → Bool
every p no_items = true
every p (item d ds) = p d && every p ds

-- A fault of all parameters: 1, one is missing or of the wrong kind; 2, a number is out of its range; 7, the command is unknown.
abbrev pub fault : ℕ → ParamFault
fault cause = record { cause = cause; index = 0 }

-- A fault of one item of a list, with its number from 0, or the greatest number of 32 bits.
abbrev pub item_fault : ℕ → ℕ → ParamFault
item_fault cause n = record { cause = cause; index = min n (2 ^ 32 - 1) }

-- One thing more, or the fault that comes first.
unfoldable pub first_or : {X : Type 0} → Option X → ParamFault → Result (List X) ParamFault → Result (List X) ParamFault
first_or None fault xs = Err fault
first_or (Some x) fault (Err e) = Err e
first_or (Some x) fault (Ok xs) = Ok (x ∷ xs)

-- What f says of every item of a list whose first has the number n, or the fault of the first item of which it says nothing.
unfoldable pub numbered : {X : Type 0} → ℕ → (Data → Option X) → ℕ → Items → Result (List X) ParamFault
numbered cause f n no_items = Ok []
numbered cause f n (item d ds) = first_or (f d) (item_fault cause n) (numbered cause f (n + 1) ds)

-- What is answered in place of a form is just its fault; want of memory says nothing.
abbrev pub RefusedAs : {X : Type 0} → Result X ParamFault → Refused ParamFault → Type 0
RefusedAs wanted (Fault f) = wanted ≡ Err f
RefusedAs wanted OutOfMemory = Unit {0}

-- The same of a call that takes no memory.
abbrev pub FaultedAs : {X : Type 0} → Result X ParamFault → Refused ParamFault → Type 0
FaultedAs wanted (Fault f) = wanted ≡ Err f
FaultedAs wanted OutOfMemory = ⊥

-- The errors that are answered (JSON-RPC 2.0, section 5.1; LSP 3.17, "Response Message"): code, message and data.
use Rattle.std.specs.Prelude.{ℕ, ℤ, negsuc, List, codes, Option, Some, None}
use Rattle.serde_json.specs.Data.{Data, string, object, Members, no_members, member}
use Rattle.decl_index.specs.declared.change.ChangeFault.{ChangeFault}
use Rattle.decl_index.specs.declared.change.ChangeFault.TheVariants.{Cyclic, Full, TooHigh, JournalFull, NestCycle, OutOfMemory}
use Rattle.lsp_forms.specs.Results.{whole_number}

-- What goes wrong with a message: of parameters its cause and the number of the list's item; of a file its number too, and of
-- one that is no class file the fault's number and place; of a withdrawn version the change that withdraws it.
pub data Failure : Type 0 where
  parse_error : Failure
  invalid_request : Failure
  unknown_method : Failure
  not_initialized : Failure
  invalid_params : (cause index : ℕ) → Failure
  no_class : (index class_fault place : ℕ) → Failure
  change_refused : ChangeFault → Failure
  version_withdrawn : (number version : ℕ) → Failure
  read_fault : (index : ℕ) → Failure

-- Its code.
abbrev pub code_of : Failure → ℤ
code_of parse_error = negsuc 32699
code_of invalid_request = negsuc 32599
code_of unknown_method = negsuc 32600
code_of not_initialized = negsuc 32001
code_of (invalid_params cause index) = negsuc 32601
code_of (no_class index class_fault place) = negsuc 32601
code_of (change_refused fault) = negsuc 32601
code_of (version_withdrawn number version) = negsuc 32800
code_of (read_fault index) = negsuc 32802

-- Its text.
abbrev pub message_of : Failure → List ℕ
message_of parse_error = codes "parse error"
message_of invalid_request = codes "invalid request"
message_of unknown_method = codes "method not found"
message_of not_initialized = codes "not initialized"
message_of (invalid_params cause index) = codes "invalid params"
message_of (no_class index class_fault place) = codes "invalid params"
message_of (change_refused fault) = codes "invalid params"
message_of (version_withdrawn number version) = codes "version withdrawn"
message_of (read_fault index) = codes "read fault"

-- The cause of a fault of parameters, the number of the list's item, and what follows them.
abbrev pub cause_data : ℕ → ℕ → Members → Data
cause_data cause index more = object (member (codes "cause") (whole_number cause) (member (codes "index") (whole_number index) more))

-- A refused change: its cause, with the name of a class or a number.
abbrev pub change_data : ChangeFault → Option Data
change_data (Cyclic name) = Some (cause_data 14 0 (member (codes "name") (string name) no_members))
change_data (Full parts) = Some (cause_data 15 0 (member (codes "number") (whole_number parts) no_members))
change_data (TooHigh through) = Some (cause_data 16 0 (member (codes "number") (whole_number through) no_members))
change_data JournalFull = Some (cause_data 17 0 no_members)
change_data (NestCycle name) = Some (cause_data 18 0 (member (codes "name") (string name) no_members))
change_data OutOfMemory = None

-- A file that is no class file: the place, the number of the fault, and that of the file.
abbrev pub class_data : ℕ → ℕ → ℕ → Data
class_data index class_fault place =
    object (member (codes "at") (whole_number place) (member (codes "cause") (whole_number 11)
    (member (codes "class") (whole_number class_fault) (member (codes "index") (whole_number index) no_members))))

-- Its data, where it has any.
abbrev pub data_of : Failure → Option Data
data_of parse_error = None
data_of invalid_request = None
data_of unknown_method = None
data_of not_initialized = None
data_of (invalid_params cause index) = Some (cause_data cause index no_members)
data_of (no_class index class_fault place) = Some (class_data index class_fault place)
data_of (change_refused fault) = change_data fault
data_of (version_withdrawn number version) = Some (object (member (codes "number") (whole_number number) (member (codes "version") (whole_number version) no_members)))
data_of (read_fault index) = Some (object (member (codes "index") (whole_number index) no_members))

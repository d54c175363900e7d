-- The members that entries of a pool name: fields (JVMS 4.4.2), and methods of classes and of interfaces.
use Rattle.std.specs.Prelude.{ℕ, ◌==◌, ◌||◌, if◌then◌else◌, Bool, true, false, List, drop, Option, Some, None, option_and_then}
use Rattle.byteorder.specs.Endian.{big_number}
use Rattle.class_pool.specs.Spelling.{Entry, utf8, fixed}
use Rattle.class_pool.specs.Index.{slot, text_in, name_in}

-- The tags of Fieldref; of Methodref and InterfaceMethodref; of NameAndType.
abbrev pub is_member_tag : Bool → ℕ → Bool
is_member_tag true tag = tag == 9
is_member_tag false tag = (tag == 10) || (tag == 11)

abbrev pub is_name_and_type : ℕ → Bool
is_name_and_type tag = tag == 12

-- The two places that an entry names, where its tag is one of these.
abbrev pub pair_of : (ℕ → Bool) → Option Entry → Option (ℕ × ℕ)
pair_of fits None = None
pair_of fits (Some (utf8 text)) = None
pair_of fits (Some (fixed tag body)) = if fits tag then Some (big_number 2 body, big_number 2 (drop 2 body)) else None

abbrev pub all_three : {A B C : Type 0} → Option A → Option B → Option C → Option (A × B × C)
all_three None b c = None
all_three (Some a) None c = None
all_three (Some a) (Some b) None = None
all_three (Some a) (Some b) (Some c) = Some (a, b, c)

-- The class, the name and the descriptor of the field or method at a place of the pool.
abbrev pub member_in : List Entry → ℕ → Bool → Option (List ℕ × List ℕ × List ℕ)
member_in es n field = option_and_then (λ p. option_and_then (λ q. all_three (name_in es p.0) (text_in es q.0) (text_in es q.1)) (pair_of is_name_and_type (slot es p.1))) (pair_of (is_member_tag field) (slot es n))

-- Numbers by which members are put into groups. They tell nothing but that members that are alike have one number.
use Rattle.std.specs.Prelude.{ℕ, ◌+◌, ◌*◌, ◌%◌, ◌^◌, List, fold, length}
use Rattle.type_names.specs.declared.kinds.Base.{Base}
use Rattle.type_names.specs.declared.kinds.Base.TheVariants.{Byte, Char, Double, Float, Int, Long, Short, Boolean, Class}
use Rattle.type_names.specs.declared.kinds.Erased.{Erased}
use Rattle.offers.specs.declared.member.Member.{Member}

-- A hash with one number more.
abbrev pub mixed : ℕ → ℕ → ℕ
mixed hash n = (131 * hash + n) % 2 ^ 64

-- A hash with a text more.
unfoldable pub text_hash : ℕ → List ℕ → ℕ
text_hash hash text = fold mixed hash text

-- A hash with a type more; dimensions don't count.
abbrev pub base_hash : ℕ → Base → ℕ
base_hash hash Byte = mixed hash 66
base_hash hash Char = mixed hash 67
base_hash hash Double = mixed hash 68
base_hash hash Float = mixed hash 70
base_hash hash Int = mixed hash 73
base_hash hash Long = mixed hash 74
base_hash hash Short = mixed hash 83
base_hash hash Boolean = mixed hash 90
base_hash hash (Class name) = text_hash (mixed hash 76) name

abbrev pub type_hash : ℕ → Erased → ℕ
type_hash hash kind = base_hash hash kind.base

-- By name and parameter types, and by name and number of parameters.
unfoldable pub call_hash : Member → ℕ
call_hash m = fold type_hash (text_hash 0 m.name) m.params

unfoldable pub count_hash : Member → ℕ
count_hash m = text_hash (length m.params) m.name

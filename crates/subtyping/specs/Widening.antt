-- A number for each type without dimensions: a type widens to each of a greater number below 7 but 2.
use Rattle.std.specs.Prelude.{ℕ}
use Rattle.type_names.specs.declared.kinds.Base.{Base}
use Rattle.type_names.specs.declared.kinds.Base.TheVariants.{Byte, Char, Double, Float, Int, Long, Short, Boolean, Class}

abbrev pub rank : Base → ℕ
rank Byte = 0
rank Short = 1
rank Char = 2
rank Int = 3
rank Long = 4
rank Float = 5
rank Double = 6
rank Boolean = 7
rank (Class name) = 8

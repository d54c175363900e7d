-- How a type is written at a hole (JLS 6.5.5).
use Rattle.std.specs.Prelude.{ℕ, zero, suc, Bool, ◌&&◌, ◌==◌, if◌then◌else◌, List, [], ◌∷◌, ◌++◌, codes, unwrap_or, option_map, Option, Some, None}
use Rattle.std.specs.List.{list_all, slice_split}
use Rattle.std.specs.Option.{option_or}
use Rattle.type_names.specs.declared.kinds.Base.{Base}
use Rattle.type_names.specs.declared.kinds.Base.TheVariants.{Byte, Char, Double, Float, Int, Long, Short, Boolean, Class}
use Rattle.type_names.specs.declared.kinds.Erased.{Erased}
use Rattle.known_classes.specs.Known.{canonical}
use Rattle.class_summary.specs.Sources.{joined}
use Rattle.offers.specs.Scenes.{Scene, of_class, same_type, denoted}

-- The parts between dots.
abbrev pub parts : List ℕ → List (List ℕ)
parts text = slice_split (λ b. b == 46) text

-- These parts are identifiers and denote the class.
unfoldable pub spells : Scene → List ℕ → List (List ℕ) → Bool
spells v name ps = list_all v.word ps && same_type (denoted v (record { parts = ps; dims = 0 })) (of_class name)

-- The shortest suffix of the parts that does.
unfoldable pub shortest : Scene → List ℕ → List (List ℕ) → Option (List ℕ)
shortest v name [] = None
shortest v name (p ∷ ps) = option_or (shortest v name ps) (if spells v name (p ∷ ps) then Some (joined (codes ".") (p ∷ ps)) else None)

-- The spelling of a class: the shortest suffix of its canonical name's parts that denotes it.
unfoldable pub class_spelling : Scene → List ℕ → Option (List ℕ)
class_spelling v name = shortest v name (parts (canonical v.known name))

-- The word of a primitive, or what is told of a class.
abbrev pub base_by : (List ℕ → Option (List ℕ)) → Base → Option (List ℕ)
base_by told Byte = Some (codes "byte")
base_by told Char = Some (codes "char")
base_by told Double = Some (codes "double")
base_by told Float = Some (codes "float")
base_by told Int = Some (codes "int")
base_by told Long = Some (codes "long")
base_by told Short = Some (codes "short")
base_by told Boolean = Some (codes "boolean")
base_by told (Class name) = told name

unfoldable pub with_dims : ℕ → List ℕ → List ℕ
with_dims zero text = text
with_dims (suc n) text = with_dims n text ++ codes "[]"

unfoldable pub spelling : Scene → Erased → Option (List ℕ)
spelling v t = option_map (with_dims t.dims) (base_by (class_spelling v) t.base)

-- The text of a type: its spelling, or its canonical name.
unfoldable pub type_text : Scene → Erased → List ℕ
type_text v t = with_dims t.dims (unwrap_or (base_by (λ name. Some (unwrap_or (class_spelling v name) (canonical v.known name))) t.base) [])

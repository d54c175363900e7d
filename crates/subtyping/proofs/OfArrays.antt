-- The classes of arrays, one by one.
use Rattle.std.proofs.Common.{[], ◌∷◌}
use Rattle.type_names.specs.declared.kinds.Base.{Base}
use Rattle.type_names.specs.declared.kinds.Base.TheVariants.{Class}
use Rattle.graphs.proofs.Elements.{IsOneOf, one-of, of-one}
use Rattle.type_names.specs.Names.{object_name}
use Rattle.subtyping.specs.Steps.{cloneable, serializable, IsOfArrays}

abbrev pub OfArrays : Base → Type 0
OfArrays q = IsOneOf q (Class object_name ∷ Class cloneable ∷ Class serializable ∷ [])

pub of-arrays : (q : Base) → IsOfArrays q → OfArrays q
of-arrays q h = one-of q (Class object_name ∷ Class cloneable ∷ Class serializable ∷ []) h

pub arrays-of : (q : Base) → OfArrays q → IsOfArrays q
arrays-of q h = of-one q (Class object_name ∷ Class cloneable ∷ Class serializable ∷ []) h

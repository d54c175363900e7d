-- Laws of the layout of a class file and the first violation, in which no reading stands: the parts are those of
-- `IsFile`, end to end.
use Rattle.std.specs.Prelude.{◌≡◌, ℕ, List, ◌∷◌, ◌++◌, length, Some, ◌↔◌}
use Rattle.class_pool.specs.declared.fault.ClassFault.{ClassFault}
use Rattle.class_pool.specs.declared.fault.ClassCause.TheVariants.{Truncated, Extra}
use Rattle.class_pool.specs.Spelling.{Head}
use Rattle.class_pool.specs.Reading.{IsBytes}
use Rattle.class_shape.specs.Parts.{Body, IsFile}
use Rattle.class_shape.specs.Violations.{first_violation, IsMeaningCause}

-- The bytes are the parts of some class file, whatever its indices mean.
abbrev pub HasLayout : List ℕ → Type 0
HasLayout bytes = (h : Head) × (b : Body) × IsFile bytes h b

-- Each prefix of a file that isn't the whole of it has the violation Truncated, at its length.
abbrev pub PrefixesAreTruncated : Type 0
PrefixesAreTruncated = (bytes : List ℕ) (h : Head) (b : Body) (start : List ℕ) (next : ℕ) (more : List ℕ) → IsFile bytes h b → bytes ≡ start ++ (next ∷ more) → first_violation start ≡ Some (record { at = length start; cause = Truncated })

-- A file with bytes after it has the violation Extra, at the first of them.
abbrev pub LongerIsExtra : Type 0
LongerIsExtra = (bytes : List ℕ) (h : Head) (b : Body) (next : ℕ) (more : List ℕ) → IsFile bytes h b → first_violation (bytes ++ (next ∷ more)) ≡ Some (record { at = length bytes; cause = Extra })

-- A violation is one of the second pass exactly where the bytes have the layout of a class file.
abbrev pub MeaningNeedsLayout : Type 0
MeaningNeedsLayout = (bytes : List ℕ) (fault : ClassFault) → IsBytes bytes → first_violation bytes ≡ Some fault → IsMeaningCause fault.cause ↔ HasLayout bytes

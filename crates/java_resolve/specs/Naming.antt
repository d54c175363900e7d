-- Names as the code reads them.
use Rattle.std.specs.Prelude.{◌≡◌, ℕ, Bool, true, false, List, []}
use Rattle.terms.specs.declared.parts.Parts.{Parts}
use Rattle.java_shapes.specs.Shape.{Before, nothing, fresh}
use Rattle.java_resolve.specs.declared.links.Link.{Link}
use Rattle.java_resolve.specs.declared.links.Name.{Name}
use Rattle.java_resolve.specs.declared.readings.Start.{Start}
use Rattle.java_resolve.specs.declared.readings.Start.TheVariants as start
use Rattle.java_resolve.specs.Trees.{place_view}
use Rattle.java_resolve.specs.Reading.{Linked}

-- whether a name stands behind nothing, or behind a receiver
abbrev pub IsBare : Bool → Before → Type 0
IsBare true b = b ≡ nothing
IsBare false b = (b ≡ nothing → ⊥) × (b ≡ fresh → ⊥)

-- what stands before the word w of a name t behind b
abbrev pub IsLink : Parts → List (List ℕ) → Before → List ℕ → List ℕ → Link → Type 0
IsLink g ctx b t w l = Linked g ctx b t w (place_view l.place) l.fields l.methods

-- a name behind b
abbrev pub IsNamed : Parts → List (List ℕ) → Before → Name → Type 0
IsNamed g ctx b n = IsLink g ctx b n.text n.word n.link

-- what stands before the first word of a name behind b
abbrev pub IsStart : Parts → List (List ℕ) → Before → Start → Type 0
IsStart g ctx b start.Fresh = b ≡ fresh
IsStart g ctx b (start.Bare l) = (b ≡ nothing) × IsLink g ctx b [] [] l
IsStart g ctx b (start.Behind l) = IsBare false b × IsLink g ctx b [] [] l

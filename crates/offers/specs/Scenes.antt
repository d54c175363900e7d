-- What is looked at from a hole: its unit and site, the known classes with those of the unit, their order, usage
-- counts, weights, and which texts are identifiers.
use Rattle.std.specs.Prelude.{ℕ, Bool, ◌||◌, ◌&&◌, not, List, [], ◌∷◌, length, map, take, unwrap_or, bytes_eq, Some}
use Rattle.std.specs.List.{list_any, range_with_len}
use Rattle.std.specs.Path.{rfind_below}
use Rattle.std.specs.Ordering.{nat_cmp}
use Rattle.std.specs.Cmp.Lexicographic.{slice_cmp}
use Rattle.std.specs.declared.cmp.Ordering.{Ordering}
use Rattle.std.specs.declared.cmp.Ordering.TheVariants.{Less, Equal, Greater}
use Rattle.type_names.specs.declared.kinds.Base.TheVariants.{Class}
use Rattle.type_names.specs.declared.kinds.Erased.{Erased}
use Rattle.type_names.specs.Descriptors.{field}
use Rattle.java_units.specs.declared.types.TypeText.{TypeText}
use Rattle.java_units.specs.declared.types.Unit as unit
use Rattle.known_classes.specs.declared.summary.ClassSummary.{ClassSummary}
use Rattle.class_summary.specs.Flags.{has_flag}
use Rattle.class_summary.specs.Sources.{joined, internal_name}
use Rattle.class_summary.specs.Names.{denoted_type}
use Rattle.java_bodies.specs.declared.site.HoleSite.{HoleSite}
use Rattle.decl_index.specs.declared.weights.Weights.{Weights}

-- `below` says which types are strict subtypes of which among the known classes, `usage` how often the member of a
-- key was used, `word` which texts are identifiers (JLS 3.8).
pub record Scene : Type 0 where
  pub unit : unit.Unit
  pub site : HoleSite
  pub known : List ClassSummary
  pub below : Erased → Erased → Bool
  pub usage : List ℕ → ℕ
  pub weights : Weights
  pub word : List ℕ → Bool

-- The edited class, and the unit's package.
abbrev pub edited : Scene → List ℕ
edited v = internal_name v.unit v.site.class

abbrev pub package_here : Scene → List ℕ
package_here v = joined (47 ∷ []) v.unit.package

-- The package of an internal name: what stands before its last `/`.
abbrev pub package_of : List ℕ → List ℕ
package_of name = take (unwrap_or (rfind_below 47 name (length name)) 0) name

-- Flags with PUBLIC, or without PRIVATE in the unit's package (JLS 6.6.1).
abbrev pub is_open : Scene → List ℕ → ℕ → Bool
is_open v name flags = has_flag flags 0x0001 || (bytes_eq (package_of name) (package_here v) && not (has_flag flags 0x0002))

-- The text is among these.
abbrev pub is_among : List (List ℕ) → List ℕ → Bool
is_among texts text = list_any (λ t. bytes_eq t text) texts

-- The internal names of the unit's classes.
abbrev pub own_names : Scene → List (List ℕ)
own_names v = map (internal_name v.unit) (range_with_len 0 (length v.unit.classes))

-- The unit declares a class of this internal name.
abbrev pub is_of_unit : Scene → List ℕ → Bool
is_of_unit v name = is_among (own_names v) name

-- The type of a class; types are told apart by their descriptors.
abbrev pub of_class : List ℕ → Erased
of_class name = record { dims = 0; base = Class name }

abbrev pub same_type : Erased → Erased → Bool
same_type a b = bytes_eq (field a) (field b)

abbrev pub at_or_below : Scene → Erased → Erased → Bool
at_or_below v a b = same_type a b || v.below a b

-- What a type of the text denotes at the site.
abbrev pub denoted : Scene → TypeText → Erased
denoted v type = denoted_type v.unit v.site.class (Some v.site.method) type v.known

-- In rising byte order of the texts of the elements, of each text once.
abbrev pub put_by : {A : Type 0} → Ordering → A → A → List A → List A → List A
put_by Less x y ys more = x ∷ y ∷ ys
put_by Equal x y ys more = y ∷ ys
put_by Greater x y ys more = y ∷ more

unfoldable pub put : {A : Type 0} → (A → List ℕ) → A → List A → List A
put text x [] = x ∷ []
put text x (y ∷ ys) = put_by (slice_cmp nat_cmp (text x) (text y)) x y ys (put text x ys)

unfoldable pub sorted : {A : Type 0} → (A → List ℕ) → List A → List A
sorted text [] = []
sorted text (x ∷ xs) = put text x (sorted text xs)

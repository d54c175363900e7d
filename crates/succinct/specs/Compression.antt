-- The succinct types of an environment: what its declarations and pairs want, with the order and the number
-- of equal wants left out (PLDI 2013, section 3).
use Rattle.std.specs.Prelude.{◌≡◌, ℕ, ◌+◌, ◌<◌, true, false, ◌==◌, cond, List, [], ◌∷◌, ◌++◌, length, map, slice_get, Some}
use Rattle.number_places.specs.Places.{places_of}
use Rattle.succinct.specs.Sets.{has, set_of}
use Rattle.succinct.specs.declared.need.Need.{Need}
use Rattle.succinct.specs.declared.kind.Succinct.{Succinct}
use Rattle.terms.specs.declared.parts.Arg.{Arg}
use Rattle.terms.specs.declared.parts.Arg.TheVariants.{Plain, Fun}
use Rattle.terms.specs.declared.parts.Decl.{Decl}
use Rattle.terms.specs.declared.parts.Parts.{Parts}

-- what a declaration or a pair wants, and what it gives
pub record Source : Type 0 where
  pub args : List Arg
  pub result : ℕ

abbrev pub of_decl : Decl → Source
of_decl d = record { args = d.args; result = d.result }

-- a pair wants its lower type and gives its upper one
abbrev pub of_pair : ℕ × ℕ → Source
of_pair p = record { args = Plain p.0 ∷ []; result = p.1 }

-- the declarations, and after them the pairs
abbrev pub sources : Parts → List Source
sources g = map of_decl g.decls ++ map of_pair g.pairs

-- the succinct type of an argument; a lambda is marked, so that one without parameters isn't a plain value
abbrev pub need_of : Arg → Need
need_of (Plain b) = record { params = []; result = b; lambda = false }
need_of (Fun ps r) = record { params = set_of ps; result = r; lambda = true }

-- the kind is the succinct type of the source: its result, and the set of its needs by their numbers
pub record IsKindOf (needs : List Need) (source : Source) (kind : Succinct) : Type 0 where
  pub numbers : List ℕ
  pub named : map (λ i. slice_get needs i) numbers ≡ map (λ a. Some (need_of a)) source.args
  pub wants : kind.needs ≡ set_of numbers
  pub gives : kind.result ≡ source.result

-- no two places of the list hold the same
abbrev pub AreDistinct : {X : Type 0} → List X → Type 0
AreDistinct {X} xs = (i j : ℕ) (x : X) → slice_get xs i ≡ Some x → slice_get xs j ≡ Some x → i ≡ j

-- needs and kinds are those of the sources, and each source has the number of its kind
pub record IsNumbered (all : List Source) (needs : List Need) (kinds : List Succinct) (kind_numbers : List ℕ) : Type 0 where
  pub numbered : length kind_numbers ≡ length all
  -- the kind of each source is its succinct type
  pub kind_of_each : (n k : ℕ) (source : Source) → slice_get all n ≡ Some source → slice_get kind_numbers n ≡ Some k → (kind : Succinct) × (slice_get kinds k ≡ Some kind) × IsKindOf needs source kind
  -- each kind is that of a source, and each need is one of a kind
  pub no_other_kind : (k : ℕ) → k < length kinds → has k kind_numbers ≡ true
  pub no_other_need : (i : ℕ) → i < length needs → (k : ℕ) × (kind : Succinct) × (slice_get kinds k ≡ Some kind) × (has i kind.needs ≡ true)

-- some sources more
abbrev pub Adds : List Source → List Need → List Succinct → List ℕ → List Need → List Succinct → List ℕ → Type 0
Adds more needs kinds numbers needs' kinds' numbers' = (all : List Source) → IsNumbered all needs kinds numbers → IsNumbered (all ++ more) needs' kinds' numbers'

-- the numbers are those of what the arguments want, in the order of the arguments
abbrev pub AreNeedsOf : List Need → List Arg → List ℕ → Type 0
AreNeedsOf needs args numbers = map (λ i. slice_get needs i) numbers ≡ map (λ a. Some (need_of a)) args

-- the needs of each source, by their numbers
pub record AreWants (all : List Source) (needs : List Need) (wanted : List (List ℕ)) : Type 0 where
  pub as_many : length wanted ≡ length all
  pub each : (n : ℕ) (source : Source) (numbers : List ℕ) → slice_get all n ≡ Some source → slice_get wanted n ≡ Some numbers → AreNeedsOf needs source.args numbers

-- the needs of some sources more
abbrev pub AddsWants : List Source → List Need → List (List ℕ) → List Need → List (List ℕ) → Type 0
AddsWants more needs wanted needs' wanted' = (all : List Source) → AreWants all needs wanted → AreWants (all ++ more) needs' wanted'

-- what contracts see of a compressed environment: needs, kinds, the kind's number of each source, the sources
-- of each kind, and the needs of each source
pub record Compression : Type 0 where
  pub needs : List Need
  pub kinds : List Succinct
  pub kind_numbers : List ℕ
  pub selected : List (List ℕ)
  pub wanted : List (List ℕ)

-- the compressed form of an environment: needs and kinds each once, and each source stands in the list of
-- its kind alone, since that list holds just the places of the kind's number, rising; and the needs of each
-- source are told in the order of its arguments
pub record IsCompression (g : Parts) (c : Compression) : Type 0 where
  pub distinct_needs : AreDistinct c.needs
  pub distinct_kinds : AreDistinct c.kinds
  pub of_sources : IsNumbered (sources g) c.needs c.kinds c.kind_numbers
  pub listed : length c.selected ≡ length c.kinds
  pub list_of_each : (k : ℕ) → k < length c.kinds → slice_get c.selected k ≡ Some (places_of k c.kind_numbers)
  pub wanted_of_each : AreWants (sources g) c.needs c.wanted

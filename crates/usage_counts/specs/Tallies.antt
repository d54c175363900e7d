-- How often a file uses members of its pool, by their places, and then by their keys.
use Rattle.std.specs.Prelude.{◌≡◌, ℕ, ◌*◌, ◌<◌, if◌then◌else◌, List, [], length, get_or, Option, Some, None, option_and_then, bytes_eq}
use Rattle.std.specs.List.{sum_by}
use Rattle.class_pool.specs.Spelling.{Entry}
use Rattle.class_pool.specs.Members.{member_in}
use Rattle.usage_counts.specs.declared.members.MemberPlace.{MemberPlace}
use Rattle.usage_counts.specs.declared.tallies.PlaceTally.{PlaceTally}
use Rattle.usage_counts.specs.declared.tallies.KeyTally.{KeyTally}
use Rattle.usage_counts.specs.Counts.{Key, times}
use Rattle.usage_counts.specs.Uses.{key_of, listed}

-- The key of a member by its place, where it has one.
abbrev pub key_at : List Entry → MemberPlace → List Key
key_at es m = listed (option_and_then key_of (member_in es m.place m.field))

abbrev pub key_if : List Entry → Option MemberPlace → List Key
key_if es None = []
key_if es (Some m) = key_at es m

-- The sum over the uses of each place, where each place has the value of `f`.
abbrev pub places_sum : (MemberPlace → ℕ) → List PlaceTally → ℕ
places_sum f tallies = sum_by (λ t. t.number * f t.member) tallies

-- How often a key is used by these tallies.
abbrev pub uses_in : Key → KeyTally → ℕ
uses_in key t = if bytes_eq key t.key then t.number else 0

abbrev pub amount : Key → List KeyTally → ℕ
amount key tallies = sum_by (uses_in key) tallies

-- The tallies say of each key how often it stands in the list.
abbrev pub AreTold : List KeyTally → List Key → Type 0
AreTold tallies keys = (key : Key) → amount key tallies ≡ times key keys

-- The tally at this place is the member's, and its number isn't the greatest.
abbrev pub IsRoomAt : List PlaceTally → ℕ → MemberPlace → Type 0
IsRoomAt tallies slot m = (slot < length tallies) × ((t : PlaceTally) → (get_or tallies slot t).member ≡ m) × ((t : PlaceTally) → (get_or tallies slot t).number < 4294967295)

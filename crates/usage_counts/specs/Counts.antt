-- Counts: keys in rising byte order, each with the number of its uses.
use Rattle.std.specs.Prelude.{◌≡◌, ℕ, zero, suc, ◌+◌, ◌<◌, min, if◌then◌else◌, List, [], ◌∷◌, map, Option, Some, None, ⊤, bytes_eq, String, string_bytes}
use Rattle.std.specs.declared.cmp.Ordering.TheVariants.{Less}
use Rattle.std.specs.Cmp.Lexicographic.{slice_cmp}
use Rattle.std.specs.Ordering.{nat_cmp}
use Rattle.std.specs.List.{AllByRecursion, count_by}
use Rattle.std.specs.Option.{unwrap_or}
use Rattle.std.specs.BTreeMap.{BTreeMap}

-- A member's key is its owner, `.`, its name, `:` and its descriptor.
abbrev pub Key : Type 0
Key = List ℕ

-- Keys with their numbers.
abbrev pub Numbers : Type 0
Numbers = List (Key × ℕ)

-- Numbers are held at the most that a publication takes.
abbrev pub held : ℕ → ℕ
held n = min n 4294967295

-- The number of a key, where it has one.
unfoldable pub number_at : Numbers → Key → Option ℕ
number_at [] key = None
number_at (p ∷ ps) key = if bytes_eq key p.0 then Some p.1 else number_at ps key

-- Strictly in rising byte order of keys.
unfoldable pub KeysRise : Numbers → Type 0
KeysRise [] = ⊤
KeysRise (p ∷ ps) = AllByRecursion (λ q. slice_cmp nat_cmp p.0 q.0 ≡ Less) ps × KeysRise ps

-- How often a key stands in a list.
abbrev pub times : Key → List Key → ℕ
times key keys = count_by (bytes_eq key) keys

-- A key's number after so many uses more. A key that isn't used stays as it was, there or not.
abbrev pub with_uses : Option ℕ → ℕ → Option ℕ
with_uses old zero = old
with_uses old (suc n) = Some (held (unwrap_or old 0 + suc n))

-- The counts after the uses of these keys: for each key its number.
abbrev pub AreAdded : Numbers → List Key → Numbers → Type 0
AreAdded old keys new = (key : Key) → number_at new key ≡ with_uses (number_at old key) (times key keys)

-- The numbers in a map.
abbrev pub numbers_in : {Y : Type 0} → BTreeMap (String Y) ℕ → Numbers
numbers_in uses = map (λ e. (string_bytes e.0, e.1)) uses.entries

-- Each key there is used.
abbrev pub AreUsed : {K : Type 0} → List (K × ℕ) → Type 0
AreUsed es = AllByRecursion (λ e. 0 < e.1) es

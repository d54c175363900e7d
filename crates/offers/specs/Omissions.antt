-- The candidates that are left out, in order, and crowding.
use Rattle.std.specs.Prelude.{ℕ, Bool, true, false, ◌&&◌, ◌||◌, not, ◌==◌, if◌then◌else◌, List, [], ◌∷◌, ◌++◌, length, take, map, fold, codes, bytes_eq, is_some, unwrap_or, get_or, Option, Some, None}
use Rattle.std.specs.List.{list_any, list_all, filter, flat_map, range_with_len}
use Rattle.type_names.specs.declared.kinds.Erased.{Erased}
use Rattle.known_classes.specs.declared.summary.ClassSummary.{ClassSummary}
use Rattle.known_classes.specs.Known.{class_named}
use Rattle.class_summary.specs.Sources.{joined, around, internal_name}
use Rattle.offers.specs.Scenes.{Scene, is_among, edited, of_class, same_type, at_or_below}
use Rattle.offers.specs.Reach.{offered}
use Rattle.offers.specs.Spellings.{parts, class_spelling, spelling}
use Rattle.offers.specs.declared.member.Kind.TheVariants as kind
use Rattle.offers.specs.declared.member.Member.{Member}
use Rattle.offers.specs.Candidates.{same_kind, is_static, is_private, value, same_outcome, candidates}

unfoldable pub same_types : List Erased → List Erased → Bool
same_types [] [] = true
same_types (a ∷ more) (b ∷ bs) = same_type a b && same_types more bs
same_types [] (b ∷ bs) = false
same_types (a ∷ more) [] = false

-- The same kind and name.
abbrev pub is_kin : Member → Member → Bool
is_kin m n = same_kind m.kind n.kind && bytes_eq m.name n.name

-- First: fields and methods whose name isn't an identifier.
abbrev pub is_named : Scene → Member → Bool
is_named v m = same_kind m.kind kind.Constructor || v.word m.name

-- Second: a member after one of its kind, name and parameter types in its class.
abbrev pub is_again : Member → Member → Bool
is_again m n = is_kin m n && same_types m.params n.params

unfoldable pub with_first : List Member → Member → List Member
with_first kept m = if list_any (is_again m) kept then kept else kept ++ m ∷ []

abbrev pub firsts : List Member → List Member
firsts ms = fold with_first [] ms

unfoldable pub after_two : Scene → List Member
after_two v = flat_map (λ c. firsts (filter (is_named v) (candidates v c))) (offered v)

-- Third: a method that isn't static, where a strict supertype has one of its name and descriptor that is neither
-- static nor private.
abbrev pub is_instance : Member → Bool
is_instance m = same_kind m.kind kind.Method && not (is_static m)

abbrev pub same_descriptor : Member → Member → Bool
same_descriptor m n = same_outcome (value m) (value n) && same_types m.params n.params

unfoldable pub overrides : Scene → Member → Member → Bool
overrides v m n =
    (is_instance m && (is_instance n && not (is_private n)))
    && ((bytes_eq m.name n.name && same_descriptor m n) && v.below (of_class m.owner) (of_class n.owner))

abbrev pub left_of : Scene → List Member → List Member
left_of v ms = filter (λ m. not (list_any (overrides v m) ms)) ms

unfoldable pub after_three : Scene → List Member
after_three v = left_of v (after_two v)

-- Crowded among these members: private, or with another one of its kind, name and number of parameters such that some
-- of these types is at or below both owners.
abbrev pub is_under : Scene → Member → Member → Erased → Bool
is_under v m n t = at_or_below v t (of_class m.owner) && at_or_below v t (of_class n.owner)

abbrev pub meet : Scene → List Erased → Member → Member → Bool
meet v ts m n = list_any (is_under v m n) ts

abbrev pub is_other : Member → Member → Bool
is_other m n = not (bytes_eq m.owner n.owner && same_types m.params n.params)

abbrev pub crowds : Scene → List Erased → Member → Member → Bool
crowds v ts m n = ((is_kin m n && (length m.params == length n.params)) && is_other m n) && meet v ts m n

unfoldable pub is_crowded : Scene → List Erased → List Member → Member → Bool
is_crowded v ts ms m = is_private m || list_any (crowds v ts m) ms

-- Fourth: members without a spelling that they need.
abbrev pub needs_owner : Member → Bool
needs_owner m = is_static m || same_kind m.kind kind.Constructor

unfoldable pub is_written : Scene → Bool → Member → Bool
is_written v crowded m =
    (not (needs_owner m || crowded) || is_some (class_spelling v m.owner)) && (not crowded || list_all (λ p. is_some (spelling v p)) m.params)

unfoldable pub after_four : Scene → List Erased → List Member → List Member
after_four v ts ms = filter (λ m. is_written v (is_crowded v ts ms m) m) ms

-- `SPELLING` and `SPELLING.name`
abbrev pub owner_text : Scene → Member → List ℕ
owner_text v m = unwrap_or (class_spelling v m.owner) []

abbrev pub static_text : Scene → Member → List ℕ
static_text v m = owner_text v m ++ 46 ∷ m.name

-- The names in scope, hidden or not; and with them those of all fields of the edited class, of the unit's classes
-- around it and of its strict supertypes.
abbrev pub scope_names : Scene → List (List ℕ)
scope_names v = map (λ l. l.name) v.site.locals ++ v.site.hidden

abbrev pub field_names : Option ClassSummary → List (List ℕ)
field_names None = []
field_names (Some c) = map (λ f. f.name) c.fields

abbrev pub names_around : Scene → ℕ → List (List ℕ)
names_around v i = field_names (class_named v.known (internal_name v.unit i))

abbrev pub names_above : Scene → ClassSummary → List (List ℕ)
names_above v c = if v.below (of_class (edited v)) (of_class c.name) then map (λ f. f.name) c.fields else []

unfoldable pub taken_names : Scene → List (List ℕ)
taken_names v =
    scope_names v
    ++ flat_map (names_around v) (around v.unit.classes v.site.class)
    ++ flat_map (names_above v) v.known

-- A text, whole and cut before each of its dots.
abbrev pub prefixes : List ℕ → List (List ℕ)
prefixes text = map (λ n. joined (codes ".") (take n (parts text))) (range_with_len 1 (length (parts text)))

abbrev pub is_static_field : Member → Bool
is_static_field m = same_kind m.kind kind.Field && is_static m

-- Fifth: static members whose owner's text a variable or field, or a static field among these, takes.
abbrev pub field_text : Scene → Member → List (List ℕ)
field_text v m = if is_static_field m then static_text v m ∷ [] else []

abbrev pub field_texts : Scene → List Member → List (List ℕ)
field_texts v ms = flat_map (field_text v) ms

unfoldable pub is_hidden : Scene → List (List ℕ) → List (List ℕ) → Member → Bool
is_hidden v names fields m = is_static m && (is_among names (get_or (parts (owner_text v m)) 0 []) || list_any (is_among fields) (prefixes (owner_text v m)))

abbrev pub shown_of : Scene → List (List ℕ) → List Member → List Member
shown_of v names ms = filter (λ m. not (is_hidden v names (field_texts v ms) m)) ms

unfoldable pub after_five : Scene → List Erased → List Member → List Member
after_five v ts ms = shown_of v (taken_names v) (after_four v ts ms)

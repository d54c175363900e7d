-- What is found for an expression: no term, one alone, or two and more; and how that of its parts is put together.
use Rattle.std.specs.Prelude.{◌≡◌, ◌≢◌, ℕ, Bool, true, false, ◌&&◌, not, if◌then◌else◌, List, [], ◌∷◌, ◌++◌, slice_get, Option, Some, None}
use Rattle.terms.specs.Expr.{Expr, head, Args, no_args, plain, lam}
use Rattle.terms.specs.Typing.{is_below}
use Rattle.terms.specs.declared.parts.Arg.{Arg}
use Rattle.terms.specs.declared.parts.Arg.TheVariants.{Plain, Fun}
use Rattle.terms.specs.declared.parts.Decl.{Decl}
use Rattle.terms.specs.declared.parts.Form.{Form}
use Rattle.terms.specs.declared.parts.Form.TheVariants as form
use Rattle.terms.specs.declared.parts.Parts.{Parts}
use Rattle.java_units.specs.Signs.{has}
use Rattle.java_shapes.specs.ShapeOf.{cast_shape}
use Rattle.java_resolve.specs.declared.heads.Kind.{Kind}
use Rattle.java_resolve.specs.declared.heads.Kind.TheVariants as kind

-- none, one, or two and more
pub data Found (E : Type 0) : Type 0 where
  none : Found E
  one : E → Found E
  two : Found E

-- two that differ
pub record HasTwo {E : Type 0} (P : E → Type 0) : Type 0 where
  pub first : E
  pub second : E
  pub is_first : P first
  pub is_second : P second
  pub differ : first ≢ second

-- what is found of the values that a predicate holds of
unfoldable pub IsFound : {E : Type 0} → (E → Type 0) → Found E → Type 0
IsFound P none = (e : _) → P e → ⊥
IsFound P (one a) = P a × ((e : _) → P e → e ≡ a)
IsFound P two = HasTwo P

abbrev pub is_two : {E : Type 0} → Found E → Bool
is_two none = false
is_two (one a) = false
is_two two = true

abbrev pub is_none : {E : Type 0} → Found E → Bool
is_none none = true
is_none (one a) = false
is_none two = false

-- of values that differ: what is found with more
abbrev pub join : {E : Type 0} → Found E → Found E → Found E
join none none = none
join none (one b) = one b
join none two = two
join (one a) none = one a
join (one a) (one b) = two
join (one a) two = two
join two y = two

-- values made of others
abbrev pub each : {A B : Type 0} → (A → B) → Found A → Found B
each f none = none
each f (one a) = one (f a)
each f two = two

-- pairs
abbrev pub both : {A B C : Type 0} → (A → B → C) → Found A → Found B → Found C
both f none y = none
both f (one a) none = none
both f (one a) (one b) = one (f a b)
both f (one a) two = two
both f two none = none
both f two (one b) = two
both f two two = two

-- arguments with one more at the end
abbrev pub args_with : Args → Expr → Args
args_with no_args e = plain e no_args
args_with (plain a rest) e = plain a (args_with rest e)
args_with (lam a rest) e = lam a (args_with rest e)

abbrev pub next : Found Args → Found Expr → Found Args
next none y = none
next (one xs) none = none
next (one xs) (one e) = one (args_with xs e)
next (one xs) two = two
next two none = none
next two (one e) = two
next two two = two

-- what is found for an expression, by the types of its terms: the terms of one entry have one type
abbrev pub Row : Type 0
Row = List (ℕ × Found Expr)

-- what is found of the terms whose type passes a test
unfoldable pub pick : (ℕ → Bool) → Row → Found Expr
pick p [] = none
pick p (x ∷ more) = join (if p x.0 then x.1 else none) (pick p more)

-- whether two casts are the same
abbrev pub same_cast : Option (List ℕ) → Option (List ℕ) → Bool
same_cast None None = true
same_cast None (Some b) = false
same_cast (Some a) None = false
same_cast (Some a) (Some b) = has (a ∷ []) b

-- a term of type a, behind this cast, may stand where b is wanted
unfoldable pub suits : Parts → Bool → Option (List ℕ) → ℕ → ℕ → Bool
suits g crowded cast b a = is_below g a b && same_cast (cast_shape g crowded (Some a) b) cast

-- an argument or a receiver: its cast and what is found for it
pub record Spot : Type 0 where
  pub cast : Option (List ℕ)
  pub row : Row

-- the terms at a place
abbrev pub found_at : Parts → Bool → Spot → Arg → Found Expr
found_at g crowded p (Plain b) = pick (suits g crowded p.cast b) p.row
found_at g crowded p (Fun ps r) = none

-- the arguments that a declaration may have at these places
unfoldable pub all_in : Parts → Bool → List Spot → List Arg → Found Args
all_in g crowded [] [] = one no_args
all_in g crowded [] (b ∷ more) = none
all_in g crowded (p ∷ ps) [] = none
all_in g crowded (p ∷ ps) (b ∷ more) = both plain (found_at g crowded p b) (all_in g crowded ps more)

-- whether fields are of a kind, as a local name hides them or not
abbrev pub accepts_field : Kind → Bool → Bool
accepts_field kind.Field hidden = true
accepts_field kind.HiddenField hidden = hidden
accepts_field kind.ShownField hidden = not hidden
accepts_field _ hidden = false

-- whether a form is of a kind
abbrev pub accepts : Kind → Form → Bool
accepts kind.Alone (form.Name s) = true
accepts kind.Alone form.This = true
accepts kind.Call (form.Call s) = true
accepts kind.New (form.New s) = true
accepts kind.Method (form.Method s) = true
accepts kind.Lambda (form.Lambda s) = true
accepts k (form.Field s hidden) = accepts_field k hidden
accepts _ _ = false

-- an entry, where anything is found
abbrev pub entry_in : ℕ → Found Expr → Row
entry_in a none = []
entry_in a (one e) = (a, one e) ∷ []
entry_in a two = (a, two) ∷ []

-- the terms that a declaration of the kind heads
abbrev pub head_in : Parts → Kind → Option Decl → ℕ → List Spot → Row
head_in g k None n ps = []
head_in g k (Some d) n ps = if accepts k d.form then entry_in d.result (each (head n) (all_in g d.crowded ps d.args)) else []

-- the terms that declarations of the kind head
unfoldable pub headed_in : Parts → Kind → List ℕ → List Spot → Row
headed_in g k [] ps = []
headed_in g k (n ∷ ns) ps = head_in g k (slice_get g.decls n) n ps ++ headed_in g k ns ps

-- When Java texts tell terms apart (Java Language Specification 6.4, 6.5 and 15.12): a condition on the
-- declarations alone, for environments whose texts can be read back. Overloads, names that hide one another and
-- texts with dots are what can make two terms look alike.
use Rattle.std.specs.Prelude.{◌≡◌, ◌≢◌, ◌⊎◌, ℕ, ◌<◌, Bool, true, false, List, [], ◌∷◌, ◌++◌, length, slice_get, Some, codes}
use Rattle.terms.specs.Weights.{usual_steps}
use Rattle.terms.specs.Typing.{is_below}
use Rattle.terms.specs.Text.{type_text}
use Rattle.terms.specs.declared.parts.Arg.{Arg}
use Rattle.terms.specs.declared.parts.Arg.TheVariants.{Plain, Fun}
use Rattle.terms.specs.declared.parts.Decl.{Decl}
use Rattle.terms.specs.declared.parts.Form.{Form}
use Rattle.terms.specs.declared.parts.Form.TheVariants.{Name, This, Call, New, Method, Field, Lambda}
use Rattle.terms.specs.declared.parts.Parts.{Parts}

-- the declaration with this number
abbrev pub Declares : Parts → ℕ → Decl → Type 0
Declares g i d = slice_get g.decls i ≡ Some d

-- a type that one of the places wants: of a value, or of a lambda's body
abbrev pub Wants : List Arg → ℕ → Type 0
Wants [] b = ⊥
Wants (Plain a ∷ more) b = (a ≡ b) ⊎ Wants more b
Wants (Fun ps r ∷ more) b = (r ≡ b) ⊎ Wants more b

-- the first place wants this type
abbrev pub IsOf : List Arg → ℕ → Type 0
IsOf (Plain a ∷ more) b = a ≡ b
IsOf _ b = ⊥

-- two calls, two creations, two methods or two fields with one text
abbrev pub AreAlike : Form → Form → Type 0
AreAlike (Call s) (Call t) = s ≡ t
AreAlike (New s) (New t) = s ≡ t
AreAlike (Method s) (Method t) = s ≡ t
AreAlike (Field s h) (Field t k) = s ≡ t
AreAlike _ _ = ⊥

-- a form with a receiver
abbrev pub HasReceiver : Form → Type 0
HasReceiver (Method s) = Unit {0}
HasReceiver (Field s h) = Unit {0}
HasReceiver _ = ⊥

-- the text of a name or of a call
abbrev pub IsDotted : Form → List ℕ → Type 0
IsDotted (Name s) t = s ≡ t
IsDotted (Call s) t = s ≡ t
IsDotted _ t = ⊥

-- a text with a dot in it
pub record HasDot (s : List ℕ) : Type 0 where
  pub front : List ℕ
  pub rest : List ℕ
  pub is : s ≡ front ++ 46 ∷ rest

-- a field with this text that `this` has
pub record IsOwnField (g : Parts) (d : Decl) (s : List ℕ) (hidden : Bool) : Type 0 where
  pub form : d.form ≡ Field s hidden
  pub owner : ℕ
  pub receiver : IsOf d.args owner
  pub number : ℕ
  pub this : Decl
  pub declared : Declares g number this
  pub is_this : this.form ≡ This
  pub below : is_below g this.result owner ≡ true

-- two declarations that look alike are told apart by casts, or by their receivers
abbrev pub AreTold : Parts → Decl → Decl → Type 0
AreTold g c d = ((c.crowded ≡ true) × (d.crowded ≡ true) × (c.args ≢ d.args))
    ⊎ (HasReceiver c.form × ((a b t : ℕ) → IsOf c.args a → IsOf d.args b → t < length g.types → is_below g t a ≡ true → is_below g t b ≡ true → ⊥))

-- The declarations are told apart by their texts. That each text can be read back is not said here: that names are
-- identifiers or literals, and types have texts of types.
pub record IsToldApart (g : Parts) : Type 0 where
  pub one_this : (i j : ℕ) (c d : Decl) → Declares g i c → Declares g j d → c.form ≡ This → d.form ≡ This → i ≡ j
  pub names : (i j : ℕ) (c d : Decl) (s : List ℕ) → Declares g i c → Declares g j d → c.form ≡ Name s → d.form ≡ Name s → i ≡ j
  pub lambdas : (i j : ℕ) (c d : Decl) (s : List ℕ) → Declares g i c → Declares g j d → c.form ≡ Lambda s → d.form ≡ Lambda s → i ≡ j
  pub types : (i j : ℕ) (c d : Decl) (a b : ℕ) → Declares g i c → Declares g j d → c.crowded ≡ true → d.crowded ≡ true → Wants c.args a → Wants d.args b → type_text g a ≡ type_text g b → a ≡ b
  pub overloads : (i j : ℕ) (c d : Decl) → Declares g i c → Declares g j d → i ≢ j → AreAlike c.form d.form → length c.args ≡ length d.args → AreTold g c d
  pub no_name_before_a_dot : (i j : ℕ) (c d : Decl) (front rest : List ℕ) → Declares g i c → Declares g j d → IsDotted c.form (front ++ 46 ∷ rest) → d.form ≢ Name front
  pub no_field_before_a_dot : (i j : ℕ) (c d : Decl) (front rest : List ℕ) (hidden : Bool) → Declares g i c → Declares g j d → IsDotted c.form (front ++ 46 ∷ rest) → IsOwnField g d front hidden → ⊥
  pub calls_have_dots : (i j : ℕ) (c d : Decl) (s : List ℕ) → Declares g i c → Declares g j d → c.form ≡ This → d.form ≡ Call s → HasDot s
  pub fields_are_no_names : (i j : ℕ) (c d : Decl) (s : List ℕ) → Declares g i c → Declares g j d → c.form ≡ Name s → IsOwnField g d s false → ⊥

-- a call `f` of one argument, which has this type
abbrev pub call_over : ℕ → Bool → Decl
call_over a crowded = record { args = Plain a ∷ []; result = 0; weight = 20; crowded = crowded; form = Call (codes "f") }

-- two methods with one name: `f` over an `A` and `f` over a `B`, with casts where they are crowded
abbrev pub two_calls : Bool → Parts
two_calls crowded = record { types = codes "A" ∷ codes "B" ∷ []; pairs = []; decls = call_over 0 crowded ∷ call_over 1 crowded ∷ []; goal = 0; limit = 100; depth = 0; binder = codes "p"; steps = usual_steps }

-- Which identifiers of an expression are declared, and the first one that is not.
use Rattle.std.specs.Prelude.{◌≡◌, ℕ, ◌+◌, Bool, true, false, ◌||◌, not, List, [], ◌∷◌, ◌++◌, length, chars, encode_utf8_all, IsUtf8, String, if◌then◌else◌}
use Rattle.std.specs.List.{list_all}
use Rattle.indexmap.specs.IndexSet.{IndexSet, contains_text}
use Rattle.java_tokens.specs.Classes.{is_word_part}
use Rattle.java_units.specs.Signs.{has}
use Rattle.java_shapes.specs.Words.{spells_identifier}
use Rattle.terms.specs.Text.{type_text}
use Rattle.terms.specs.declared.parts.Arg.{Arg}
use Rattle.terms.specs.declared.parts.Arg.TheVariants.{Plain, Fun}
use Rattle.terms.specs.declared.parts.Decl.{Decl}
use Rattle.terms.specs.declared.parts.Form.{Form}
use Rattle.terms.specs.declared.parts.Form.TheVariants.{Name, This, Call, New, Method, Field, Lambda}
use Rattle.terms.specs.declared.parts.Parts.{Parts}
use Rattle.java_resolve.specs.Pieces.{Piece, sign, word, joined}
use Rattle.java_resolve.specs.declared.passing.Passing.{Passing}

-- the words of a text, of whose first these characters were read
unfoldable pub words : List ℕ → List ℕ → List (List ℕ)
words w [] = w ∷ []
words w (c ∷ cs) = if is_word_part c then words (w ++ c ∷ []) cs else w ∷ words [] cs

-- the words of a text in UTF-8
abbrev pub words_of : List ℕ → List (List ℕ)
words_of s = words [] (chars s)

-- the words of a form
abbrev pub form_words : Form → List (List ℕ)
form_words (Name s) = words_of s
form_words This = []
form_words (Call s) = words_of s
form_words (New s) = words_of s
form_words (Method s) = words_of s
form_words (Field s hidden) = words_of s
form_words (Lambda s) = words_of s

-- the words of the types that these places want
unfoldable pub wanted_words : Parts → List Arg → List (List ℕ)
wanted_words g [] = []
wanted_words g (Plain b ∷ more) = words_of (type_text g b) ++ wanted_words g more
wanted_words g (Fun ps r ∷ more) = words_of (type_text g r) ++ wanted_words g more

-- the words of a declaration: of its form and, where it is crowded, of the types that it wants
abbrev pub decl_words : Parts → Decl → List (List ℕ)
decl_words g d = form_words d.form ++ (if d.crowded then wanted_words g d.args else [])

-- the words of declarations
unfoldable pub decls_words : Parts → List Decl → List (List ℕ)
decls_words g [] = []
decls_words g (d ∷ ds) = decl_words g d ++ decls_words g ds

-- whether a word stands in a form, or in a type that a crowded declaration wants
unfoldable pub is_declared : Parts → List ℕ → Bool
is_declared g w = has (decls_words g g.decls) w

-- whether a piece is no identifier, or is declared, or is a binder of a lambda around it
unfoldable pub is_known : (List ℕ → Bool) → Piece → Bool
is_known declared (sign t) = true
is_known declared (word bound w) = not (spells_identifier w) || (declared w || has bound w)

-- each identifier is known
abbrev pub AreKnown : (List ℕ → Bool) → List Piece → Type 0
AreKnown declared ps = list_all (is_known declared) ps ≡ true

-- the first identifier that is not known stands behind so many bytes
pub record IsUnknownPlace (declared : List ℕ → Bool) (ps : List Piece) (at : ℕ) : Type 0 where
  pub before : List Piece
  pub bound : List (List ℕ)
  pub identifier : List ℕ
  pub rest : List Piece
  pub is : ps ≡ before ++ word bound identifier ∷ rest
  pub known : AreKnown declared before
  pub unknown : is_known declared (word bound identifier) ≡ false
  pub bytes : at ≡ length (encode_utf8_all (joined before))

-- of going over pieces from a place: to their end, or to the first identifier that is not known
abbrev pub Passes : (List ℕ → Bool) → List Piece → ℕ → ℕ → Bool → Type 0
Passes declared ps from to true = AreKnown declared ps × (to ≡ from + length (encode_utf8_all (joined ps)))
Passes declared ps from to false = (at : ℕ) × IsUnknownPlace declared ps at × (to ≡ from + at)

-- of going over pieces from one state to another, with the same words known in both
abbrev pub Goes : (List ℕ → Bool) → List Piece → Passing → Passing → Bool → Type 0
Goes declared ps old new r = Passes declared ps old.at new.at r × (new.set.keys ≡ old.set.keys)

-- the second set has the words of the first and these
abbrev pub Adds : {Y S : Type 0} → IndexSet (String Y) S → IndexSet (String Y) S → List (List ℕ) → Type 0
Adds old new ws = (b : List ℕ) → IsUtf8 b → contains_text new b ≡ (contains_text old b || has ws (chars b))

-- one list begins another
abbrev pub Begins : {K : Type 0} → List K → List K → Type 0
Begins {K} xs ys = (more : List K) × (ys ≡ xs ++ more)

-- the set has just the declared words and these binders
abbrev pub Knows : {Y S : Type 0} → IndexSet (String Y) S → (List ℕ → Bool) → List (List ℕ) → Type 0
Knows set declared bound = (b : List ℕ) → IsUtf8 b → contains_text set b ≡ (declared (chars b) || has bound (chars b))

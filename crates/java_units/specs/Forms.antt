-- How many signs a form at the front takes, and 0 where it doesn't stand there.
use Rattle.std.specs.Prelude.{ℕ, zero, suc, ◌+◌, ◌-◌, Bool, true, false, ◌&&◌, ◌||◌, not, ◌==◌, List, [], ◌∷◌, drop, map, if◌then◌else◌, codes}
use Rattle.java_units.specs.Signs.{Sign, is, has}
use Rattle.java_units.specs.declared.entries.Entry.{Entry}
use Rattle.java_units.specs.declared.entries.Entry.TheVariants as entry

-- Whether the sign at the front has this text.
unfoldable pub begins : List ℕ → List Sign → Bool
begins w [] = false
begins w (s ∷ ss) = is w s

-- Whether an identifier stands at the front.
unfoldable pub begins_name : List Sign → Bool
begins_name [] = false
begins_name (s ∷ ss) = s.is_name

-- Whether the sign at the front has one of these texts.
unfoldable pub begins_any : List (List ℕ) → List Sign → Bool
begins_any ws [] = false
begins_any ws (s ∷ ss) = has ws s.text

-- What follows each place at which one form after the other begins, once k signs are passed; `len` says
-- how many signs the form takes.
unfoldable pub starts : (List Sign → ℕ) → ℕ → List Sign → List (List Sign)
starts len k [] = []
starts len (suc k) (s ∷ ss) = starts len k ss
starts len zero (s ∷ ss) = if len (s ∷ ss) == 0 then [] else (s ∷ ss) ∷ starts len (len (s ∷ ss) - 1) ss

unfoldable pub total : (List Sign → ℕ) → List (List Sign) → ℕ
total len [] = 0
total len (x ∷ xs) = len x + total len xs

-- How many signs such forms take, one after the other.
unfoldable pub span : (List Sign → ℕ) → List Sign → ℕ
span len ss = total len (starts len 0 ss)

-- `. IDENTIFIER`
unfoldable pub name_tail : List Sign → ℕ
name_tail ss = if begins (codes ".") ss && begins_name (drop 1 ss) then 2 else 0

-- Identifiers joined by `.`.
unfoldable pub name_len : List Sign → ℕ
name_len ss = if begins_name ss then 1 + span name_tail (drop 1 ss) else 0

-- One more, where there is something.
abbrev pub more : ℕ → ℕ
more n = if n == 0 then 0 else suc n

-- Up to and with the closing sign, where d further ones are open; the two signs alone count.
unfoldable pub closing : List ℕ → List ℕ → ℕ → List Sign → ℕ
closing left right d [] = 0
closing left right d (s ∷ ss) =
    if is right s then (if d == 0 then 1 else more (closing left right (d - 1) ss))
    else if is left s then more (closing left right (suc d) ss)
    else more (closing left right d ss)

-- From an opening sign up to and with its matching closing one.
unfoldable pub matched : List ℕ → List ℕ → List Sign → ℕ
matched left right ss = if begins left ss then more (closing left right 0 (drop 1 ss)) else 0

-- `( .. )`
unfoldable pub rounds : List Sign → ℕ
rounds ss = matched (codes "(") (codes ")") ss

-- `< .. >`
unfoldable pub angles : List Sign → ℕ
angles ss = matched (codes "<") (codes ">") ss

-- `. IDENTIFIER`, and what `<` and its matching `>` enclose after it.
unfoldable pub type_tail : List Sign → ℕ
type_tail ss = let n = name_tail ss in if n == 0 then 0 else n + angles (drop n ss)

abbrev pub primitives : List (List ℕ)
primitives = codes "byte" ∷ codes "short" ∷ codes "char" ∷ codes "int" ∷ codes "long" ∷ codes "float" ∷ codes "double" ∷ codes "boolean" ∷ []

-- A type without its dimensions: a primitive, or identifiers joined by `.`, each with its type arguments.
unfoldable pub base_len : List Sign → ℕ
base_len ss =
    if begins_any primitives ss then 1
    else if begins_name ss then (let n = 1 + angles (drop 1 ss) in n + span type_tail (drop n ss))
    else 0

-- `[ ]`
unfoldable pub dim_len : List Sign → ℕ
dim_len ss = if begins (codes "[") ss && begins (codes "]") (drop 1 ss) then 2 else 0

abbrev pub dims_len : List Sign → ℕ
dims_len ss = span dim_len ss

-- A type.
unfoldable pub type_len : List Sign → ℕ
type_len ss = let n = base_len ss in if n == 0 then 0 else n + dims_len (drop n ss)

-- `@`, a name, and what `(` and its matching `)` enclose after it; `@ interface` is none.
unfoldable pub annotation_len : List Sign → ℕ
annotation_len ss =
    if begins (codes "@") ss then
    (let n = name_len (drop 1 ss) in if n == 0 then 0 else (1 + n) + rounds (drop (1 + n) ss))
    else 0

-- The modifiers of one word, short ones first; those that aren't reserved words are identifiers too.
abbrev pub modifiers : List (List ℕ)
modifiers =
    codes "final" ∷ codes "native" ∷ codes "public" ∷ codes "sealed" ∷ codes "static" ∷ codes "default"
    ∷ codes "private" ∷ codes "abstract" ∷ codes "strictfp" ∷ codes "volatile" ∷ codes "protected"
    ∷ codes "transient" ∷ codes "synchronized" ∷ []

-- `non - sealed`
unfoldable pub non_sealed_len : List Sign → ℕ
non_sealed_len ss =
    if not (begins (codes "non") ss) || not (begins (codes "-") (drop 1 ss)) then 0
    else if begins (codes "sealed") (drop 2 ss) then 3
    else 0

-- A modifier.
unfoldable pub modifier_len : List Sign → ℕ
modifier_len ss = if begins_any modifiers ss then 1 else non_sealed_len ss

-- An annotation or a modifier.
unfoldable pub lead_len : List Sign → ℕ
lead_len ss = let n = annotation_len ss in if n == 0 then modifier_len ss else n

-- `& TYPE`
unfoldable pub bound_len : List Sign → ℕ
bound_len ss = if begins (codes "&") ss then more (type_len (drop 1 ss)) else 0

-- `extends` and the bounds of a type variable.
unfoldable pub bounds_len : List Sign → ℕ
bounds_len ss =
    if begins (codes "extends") ss then
    (let n = type_len (drop 1 ss) in if n == 0 then 0 else (1 + n) + span bound_len (drop (1 + n) ss))
    else 0

-- A type variable with its bounds.
unfoldable pub var_len : List Sign → ℕ
var_len ss = if begins_name ss then 1 + bounds_len (drop 1 ss) else 0

-- `final`
unfoldable pub final_len : List Sign → ℕ
final_len ss = if begins (codes "final") ss then 1 else 0

-- `. . .`
unfoldable pub dots_len : List Sign → ℕ
dots_len ss =
    if not (begins (codes ".") ss) || not (begins (codes ".") (drop 1 ss)) then 0
    else if begins (codes ".") (drop 2 ss) then 3
    else 0

-- What comes before the type of a parameter: annotations and `final`.
unfoldable pub ahead_len : List Sign → ℕ
ahead_len ss = let n = span annotation_len ss in n + final_len (drop n ss)

-- The type of a parameter, with the dots after it.
unfoldable pub wide_len : List Sign → ℕ
wide_len ss = let n = type_len ss in if n == 0 then 0 else n + dots_len (drop n ss)

-- The name of a parameter, which may be `this`, with its dimensions.
unfoldable pub param_name_len : List Sign → ℕ
param_name_len ss = if begins_name ss || begins (codes "this") ss then 1 + dims_len (drop 1 ss) else 0

-- A parameter.
unfoldable pub param_len : List Sign → ℕ
param_len ss =
    let a = ahead_len ss in
    let n = wide_len (drop a ss) in
    let c = param_name_len (drop n (drop a ss)) in
    if n == 0 then 0 else if c == 0 then 0 else a + n + c

-- How deep the next sign stands in brackets.
unfoldable pub deeper : ℕ → Sign → ℕ
deeper d s =
    if (is (codes "(") s || is (codes "[") s) || is (codes "{") s then d + 1
    else if (is (codes ")") s || is (codes "]") s) || is (codes "}") s then d - 1
    else d

-- Whether the sign has the text and stands outside brackets.
unfoldable pub stops : List ℕ → ℕ → Sign → Bool
stops w d s = d == 0 && is w s

-- Up to the first such sign outside brackets, or to the end.
unfoldable pub up_to : List ℕ → ℕ → List Sign → ℕ
up_to w d [] = 0
up_to w d (s ∷ ss) = if stops w d s then 0 else suc (up_to w (deeper d s) ss)

-- Whether a declared name may end here: `=`, `,` or `;` follows, or nothing more.
unfoldable pub ends_name : List Sign → Bool
ends_name [] = true
ends_name (s ∷ ss) = (is (codes "=") s || is (codes ",") s) || is (codes ";") s

-- A name and its dimensions that a declaration may give (JLS 8.3, 14.4): one of these follows them.
unfoldable pub declared_len : List Sign → ℕ
declared_len ss =
    if begins_name ss then (let n = 1 + dims_len (drop 1 ss) in if ends_name (drop n ss) then n else 0) else 0

-- Whether a comma stands at the front with a further such name behind it.
unfoldable pub goes_on : List Sign → Bool
goes_on ss = begins (codes ",") ss && not (declared_len (drop 1 ss) == 0)

-- Up to the first such comma outside brackets, or to the end: a comma without a name behind it separates
-- nothing, as those between type arguments.
unfoldable pub rest_len : ℕ → List Sign → ℕ
rest_len d [] = 0
rest_len d (s ∷ ss) = if d == 0 && goes_on (s ∷ ss) then 0 else suc (rest_len (deeper d s) ss)

-- A declared name with its dimensions, and what follows up to the next one.
unfoldable pub field_len : List Sign → ℕ
field_len ss = let n = declared_len ss in if n == 0 then 0 else n + rest_len 0 (drop n ss)

-- What stands between commas in a list.
abbrev pub entry_len : Entry → List Sign → ℕ
entry_len entry.Type ss = type_len ss
entry_len entry.Var ss = var_len ss
entry_len entry.Param ss = param_len ss
entry_len entry.Field ss = field_len ss

-- A comma and an entry.
unfoldable pub next_len : Entry → List Sign → ℕ
next_len e ss = if begins (codes ",") ss then more (entry_len e (drop 1 ss)) else 0

-- Entries separated by commas.
unfoldable pub entries_len : Entry → List Sign → ℕ
entries_len e ss = let n = entry_len e ss in if n == 0 then 0 else n + span (next_len e) (drop n ss)

-- The places at which these entries begin.
unfoldable pub entries : Entry → List Sign → List (List Sign)
entries e ss = let n = entry_len e ss in if n == 0 then [] else ss ∷ map (drop 1) (starts (next_len e) 0 (drop n ss))

-- `<`, type variables and `>`; there is one at least.
unfoldable pub vars_len : List Sign → ℕ
vars_len ss =
    if begins (codes "<") ss then
    (let n = entries_len entry.Var (drop 1 ss) in if n == 0 then 0 else if begins (codes ">") (drop (1 + n) ss) then (1 + n) + 1 else 0)
    else 0

-- `(`, parameters or none, and `)`.
unfoldable pub params_len : List Sign → ℕ
params_len ss =
    if begins (codes "(") ss then
    (let n = entries_len entry.Param (drop 1 ss) in if begins (codes ")") (drop (1 + n) ss) then (1 + n) + 1 else 0)
    else 0

-- `extends`, `implements` or `permits` and types.
abbrev pub clause_words : List (List ℕ)
clause_words = codes "extends" ∷ codes "implements" ∷ codes "permits" ∷ []

unfoldable pub clause_len : List Sign → ℕ
clause_len ss = if begins_any clause_words ss then more (entries_len entry.Type (drop 1 ss)) else 0

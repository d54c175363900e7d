-- Statements of a body, and the one in which the hole stands.
use Rattle.std.specs.Prelude.{ℕ, zero, suc, ◌+◌, Bool, true, ◌&&◌, not, ◌==◌, List, [], ◌∷◌, take, drop, length, if◌then◌else◌, codes}
use Rattle.std.specs.List.{after_last}
use Rattle.java_units.specs.Signs.{Sign, has}
use Rattle.java_units.specs.Forms.{begins, begins_name, begins_any, ahead_len, type_len, dims_len}
use Rattle.java_bodies.specs.declared.statements.Asking.{Asking}
use Rattle.java_bodies.specs.declared.statements.Asking.TheVariants.{Declaration, Return, Variable, Field, Nothing}

-- What ends a statement.
abbrev pub separators : List (List ℕ)
separators = codes ";" ∷ codes "{" ∷ codes "}" ∷ []

unfoldable pub separates : Sign → Bool
separates s = has separators s.text

unfoldable pub statement_len : List Sign → ℕ
statement_len [] = 0
statement_len (s ∷ ss) = if separates s then 1 else suc (statement_len ss)

-- The statement at the front, up to and with what ends it, or to the end.
unfoldable pub statement : List Sign → List Sign
statement ss = take (statement_len ss) ss

-- Whether a statement may begin at the place: at the front, or behind the end of one.
unfoldable pub may_begin : List Sign → ℕ → Bool
may_begin ss zero = true
may_begin ss (suc k) = begins_any separators (drop k ss)

-- The hole's own statement: what stands behind the last end of one.
unfoldable pub own_statement : List Sign → List Sign
own_statement ss = after_last separates ss

-- What follows annotations and `final`: the type of a declaration.
unfoldable pub typed : List Sign → List Sign
typed ss = drop (ahead_len ss) ss

-- What follows the type of a declaration.
unfoldable pub named : List Sign → List Sign
named ss = drop (type_len (typed ss)) (typed ss)

-- What follows the name of a declaration and its dimensions.
unfoldable pub valued : List Sign → List Sign
valued ss = drop (1 + dims_len (drop 1 (named ss))) (named ss)

-- Whether this sign stands at the front and nothing follows it.
unfoldable pub is_just : List ℕ → List Sign → Bool
is_just w ss = begins w ss && length ss == 1

-- TYPE N DIMS `=`
unfoldable pub is_declaration : List Sign → Bool
is_declaration ss = (not (type_len (typed ss) == 0) && begins_name (named ss)) && is_just (codes "=") (valued ss)

-- N `=`
unfoldable pub is_assignment : List Sign → Bool
is_assignment ss = begins_name ss && is_just (codes "=") (drop 1 ss)

-- `this . N =`
unfoldable pub is_field_assignment : List Sign → Bool
is_field_assignment ss = (begins (codes "this") ss && begins (codes ".") (drop 1 ss)) && is_assignment (drop 2 ss)

-- What the hole's own statement asks a value for.
unfoldable pub asked_by : List Sign → Asking
asked_by ss =
    if is_declaration ss then Declaration
    else if is_just (codes "return") ss then Return
    else if is_assignment ss then Variable
    else if is_field_assignment ss then Field
    else Nothing

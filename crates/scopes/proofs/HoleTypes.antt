-- The types of the variables in the scope of a hole have few dimensions.
use Rattle.std.proofs.Common.{◌≤◌, ◌==◌, ℕ, zero, suc, ◌-◌, ◌*◌, ◌/◌, Bool, true, false, ◌&&◌, if◌then◌else◌, List, [], ◌∷◌, ◌++◌, length, drop, take, map, codes, bytes_eq, arith, Option, Some, None}
use Rattle.std.specs.List.{flat_map, list_any}
use Rattle.java_units.specs.declared.entries.Entry.TheVariants as entry
use Rattle.java_units.specs.declared.types.TypeText.{TypeText}
use Rattle.java_units.specs.declared.types.Param.{Param}
use Rattle.java_units.specs.declared.types.SourceField.{SourceField}
use Rattle.java_units.specs.declared.types.SourceMethod.{SourceMethod}
use Rattle.java_units.specs.declared.types.SourceClass.{SourceClass}
use Rattle.java_units.specs.Signs.{Sign}
use Rattle.java_units.specs.Forms.{begins, type_len, ahead_len, dims_len, entries}
use Rattle.java_units.specs.Values.{type_text, first_text, field_of, fields_of}
use Rattle.java_units.specs.Dimensions.{greatest, bound_dims, params_dims, method_dims, type_dims}
use Rattle.java_units.proofs.Dimensions.{plain_few, field_few}
use Rattle.java_units.proofs.ClassTypes.{Short, drop_short, take_short, entries_short}
use Rattle.java_bodies.specs.Bodies.{BodySigns}
use Rattle.java_bodies.specs.Kept.{keeps}
use Rattle.java_bodies.specs.Openers.{opener, gathered}
use Rattle.java_bodies.specs.Blocks.{follows}
use Rattle.java_bodies.specs.Statements.{statement, statement_len, typed, named, own_statement, is_declaration, asked_by}
use Rattle.java_bodies.specs.Variables.{usable, is_var, of_param, of_field, declared, is_each, each, for_header, is_catch, catching, catch_header, begins_at, inside, resource_at, try_header, header_variables}
use Rattle.java_bodies.specs.Scopes.{header_at, header_before, entered, stated, added_at, own_variable, variables_of, is_named, last_ones, usable_by, local_of, locals_of, names_of}
use Rattle.java_bodies.specs.Wanted.{field_kind, local_kind, variable_kind, declared_kind, wanted_by, wanted}
use Rattle.java_bodies.specs.declared.mark.Brackets.TheVariants.{Blocks}
use Rattle.java_bodies.specs.declared.names.Names.{Names}
use Rattle.java_bodies.specs.declared.site.Local.{Local}
use Rattle.java_bodies.specs.declared.statements.Asking.{Asking}
use Rattle.java_bodies.specs.declared.statements.Asking.TheVariants.{Declaration, Return, Variable, Field, Nothing}
use Rattle.java_bodies.specs.declared.variables.Variable as variable

-- The greatest dimensions of the types of variables.
abbrev most : List variable.Variable → ℕ
most vs = greatest (λ v. bound_dims v.kind) vs

most_append : (xs ys : List variable.Variable) (m : ℕ) → most xs ≤ m → most ys ≤ m → most (xs ++ ys) ≤ m
most_append [] ys m a b = b
most_append (x ∷ xs) ys m a b =
    let l : most xs ≤ m = omega (arith, a) in
    omega (arith, a, most_append xs ys m l b)

most_if : (b : Bool) (xs ys : List variable.Variable) (m : ℕ) → most xs ≤ m → most ys ≤ m → most (if b then xs else ys) ≤ m
most_if true xs ys m h k = h
most_if false xs ys m h k = k

most_gathered : (f : ℕ → List variable.Variable) (m : ℕ) → ((k : ℕ) → most (f k) ≤ m) → (n : ℕ) → most (gathered f n) ≤ m
unfolding gathered
most_gathered f m h zero = omega arith
most_gathered f m h (suc n) = most_append (gathered f n) (f n) m (most_gathered f m h n) (h n)

typed_short : (n : ℕ) (ss : List Sign) → length ss ≤ n → length (typed ss) ≤ n
unfolding typed
typed_short n ss l = drop_short (ahead_len ss) n ss l

named_short : (n : ℕ) (ss : List Sign) → length ss ≤ n → length (named ss) ≤ n
unfolding named
named_short n ss l = drop_short (type_len (typed ss)) n (typed ss) (typed_short n ss l)

statement_short : (n : ℕ) (ss : List Sign) → length ss ≤ n → length (statement ss) ≤ n
unfolding statement
statement_short n ss l = take_short (statement_len ss) n ss l

usable_by_if : (b : Bool) (t : TypeText) → bound_dims (if b then None else Some t) ≤ t.dims
usable_by_if true t = omega arith
usable_by_if false t = omega arith

usable_dims : (t : TypeText) → bound_dims (usable t) ≤ t.dims
unfolding usable
usable_dims t = usable_by_if (is_var t.parts) t

-- What is read from n signs has at most m dimensions, where 4 n is at most 3 m.
fields_most : (n m : ℕ) → 4 * n ≤ 3 * m → (ts : List Sign) → length ts ≤ n → (xs : List (List Sign)) → Short n xs → most (map of_field (map (field_of 0 ts) xs)) ≤ m
unfolding of_field field_of
fields_most n m e ts l [] h = omega arith
fields_most n m e ts l (x ∷ xs) h =
    let t = type_text (dims_len (drop 1 x) / 2) ts in
    omega (arith, e, usable_dims t, field_few n ts x l h.0, fields_most n m e ts l xs h.1)

declared_most : (n m : ℕ) → 4 * n ≤ 3 * m → (ss : List Sign) → length ss ≤ n → most (declared ss) ≤ m
unfolding declared fields_of
declared_most n m e ss l =
    let z : most [] ≤ m = omega arith in
    let ts = typed ss in
    let k = typed_short n ss l in
    most_if (type_len ts == 0) [] (map of_field (map (field_of 0 ts) (entries entry.Field (drop (type_len ts) ts)))) m z
    (fields_most n m e ts k (entries entry.Field (drop (type_len ts) ts)) (entries_short entry.Field (drop (type_len ts) ts) n (drop_short (type_len ts) n ts k)))

plain_dims : (n m : ℕ) → 4 * n ≤ 3 * m → (ss : List Sign) → length ss ≤ n → bound_dims (usable (type_text 0 (typed ss))) ≤ m
plain_dims n m e ss l = omega (arith, e, usable_dims (type_text 0 (typed ss)), plain_few n (typed ss) (typed_short n ss l))

for_most : (n m : ℕ) → 4 * n ≤ 3 * m → (ss : List Sign) → length ss ≤ n → most (for_header ss) ≤ m
unfolding for_header each
for_most n m e ss l =
    let p : most (each ss ∷ []) ≤ m = omega (arith, plain_dims n m e ss l) in
    most_if (is_each ss) (each ss ∷ []) (declared (statement ss)) m p (declared_most n m e (statement ss) (statement_short n ss l))

hidden_or : (b : Bool) (o : Option TypeText) (m : ℕ) → bound_dims o ≤ m → bound_dims (if b then None else o) ≤ m
hidden_or true o m h = omega arith
hidden_or false o m h = h

catch_most : (n m : ℕ) → 4 * n ≤ 3 * m → (ss : List Sign) → length ss ≤ n → most (catch_header ss) ≤ m
unfolding catch_header catching
catch_most n m e ss l =
    let h = hidden_or (begins (codes "|") (named ss)) (usable (type_text 0 (typed ss))) m (plain_dims n m e ss l) in
    let p : most (catching ss ∷ []) ≤ m = omega (arith, h) in
    let z : most [] ≤ m = omega arith in
    most_if (is_catch ss) (catching ss ∷ []) [] m p z

resource_most : (n m : ℕ) → 4 * n ≤ 3 * m → (ss : List Sign) → length ss ≤ n → (k : ℕ) → most (resource_at ss k) ≤ m
unfolding resource_at
resource_most n m e ss l k =
    let z : most [] ≤ m = omega arith in
    most_if (keeps Blocks (drop k (inside ss)) && begins_at (inside ss) (inside ss) k) (declared (statement (drop k ss))) [] m
    (declared_most n m e (statement (drop k ss)) (statement_short n (drop k ss) (drop_short k n ss l))) z

try_most : (n m : ℕ) → 4 * n ≤ 3 * m → (ss : List Sign) → length ss ≤ n → most (try_header ss) ≤ m
unfolding try_header
try_most n m e ss l = most_gathered (resource_at ss) m (resource_most n m e ss l) (length (inside ss))

header_most : (n m : ℕ) → 4 * n ≤ 3 * m → (ss : List Sign) (opening : ℕ) (header : List Sign) → length header ≤ n → most (header_variables ss opening header) ≤ m
unfolding header_variables
header_most n m e ss opening header l =
    let z : most [] ≤ m = omega arith in
    let t = most_if (follows (codes "try" ∷ []) ss opening) (try_header header) [] m (try_most n m e header l) z in
    let c = most_if (follows (codes "catch" ∷ []) ss opening) (catch_header header) (if follows (codes "try" ∷ []) ss opening then try_header header else []) m (catch_most n m e header l) t in
    most_if (follows (codes "for" ∷ []) ss opening) (for_header header) (if follows (codes "catch" ∷ []) ss opening then catch_header header else if follows (codes "try" ∷ []) ss opening then try_header header else []) m (for_most n m e header l) c

header_at_most : (n m : ℕ) → 4 * n ≤ 3 * m → (ss : List Sign) → length ss ≤ n → (k : ℕ) (o : Option ℕ) → most (header_at ss k o) ≤ m
header_at_most n m e ss l k None = omega arith
header_at_most n m e ss l k (Some opening) =
    header_most n m e ss opening (take (k - opening) (drop 1 (drop opening ss)))
    (take_short (k - opening) n (drop 1 (drop opening ss)) (drop_short 1 n (drop opening ss) (drop_short opening n ss l)))

before_most : (n m : ℕ) → 4 * n ≤ 3 * m → (ss : List Sign) → length ss ≤ n → (k : ℕ) → most (header_before ss k) ≤ m
unfolding header_before
before_most n m e ss l zero = omega arith
before_most n m e ss l (suc k) =
    let z : most [] ≤ m = omega arith in
    most_if (begins (codes ")") (drop k ss)) (header_at ss k (opener ss k)) [] m (header_at_most n m e ss l k (opener ss k)) z

entered_most : (n m : ℕ) → 4 * n ≤ 3 * m → (ss : List Sign) → length ss ≤ n → (k : ℕ) → most (entered ss k) ≤ m
unfolding entered
entered_most n m e ss l zero = omega arith
entered_most n m e ss l (suc k) =
    let z : most [] ≤ m = omega arith in
    most_if (begins (codes "{") (drop k ss)) (header_before ss k) [] m (before_most n m e ss l k) z

stated_most : (n m : ℕ) → 4 * n ≤ 3 * m → (b : BodySigns) → length b.before ≤ n → (k : ℕ) → most (stated b k) ≤ m
unfolding stated
stated_most n m e b l k =
    let z : most [] ≤ m = omega arith in
    most_if (begins_at b.before b.whole k) (declared (statement (drop k b.before))) [] m
    (declared_most n m e (statement (drop k b.before)) (statement_short n (drop k b.before) (drop_short k n b.before l))) z

added_most : (n m : ℕ) → 4 * n ≤ 3 * m → (b : BodySigns) → length b.before ≤ n → (k : ℕ) → most (added_at b k) ≤ m
unfolding added_at
added_most n m e b l k =
    let z : most [] ≤ m = omega arith in
    most_if (keeps Blocks (drop k b.before)) (entered b.before k ++ stated b k) [] m
    (most_append (entered b.before k) (stated b k) m (entered_most n m e b.before l k) (stated_most n m e b l k)) z

params_most : (ps : List Param) (m : ℕ) → params_dims ps ≤ m → most (map of_param ps) ≤ m
unfolding of_param
params_most [] m h = omega arith
params_most (p ∷ ps) m h =
    let k : params_dims ps ≤ m = omega (arith, h) in
    omega (arith, h, usable_dims p.kind, params_most ps m k)

own_most : (ss : List Sign) (m : ℕ) → most (own_variable ss) ≤ m
unfolding own_variable
own_most ss m =
    let o : most (record { name = first_text (named ss); kind = None } ∷ []) ≤ m = omega arith in
    let z : most [] ≤ m = omega arith in
    most_if (is_declaration ss) (record { name = first_text (named ss); kind = None } ∷ []) [] m o z

variables_most : (n m : ℕ) → 4 * n ≤ 3 * m → (ps : List Param) → params_dims ps ≤ m → (b : BodySigns) → length b.before ≤ n → most (variables_of ps b) ≤ m
unfolding variables_of
variables_most n m e ps p b l =
    most_append (map of_param ps ++ gathered (added_at b) (length b.before)) (own_variable (own_statement b.before)) m
    (most_append (map of_param ps) (gathered (added_at b) (length b.before)) m (params_most ps m p) (most_gathered (added_at b) m (added_most n m e b l) (length b.before)))
    (own_most (own_statement b.before) m)

-- those that count
last_most : (vs : List variable.Variable) (m : ℕ) → most vs ≤ m → most (last_ones vs) ≤ m
unfolding last_ones
last_most [] m h = h
last_most (v ∷ vs) m h =
    let t : most vs ≤ m = omega (arith, h) in
    let r = last_most vs m t in
    let k : most (v ∷ last_ones vs) ≤ m = omega (arith, h, r) in
    most_if (is_named v.name vs) (last_ones vs) (v ∷ last_ones vs) m r k

abbrev pub locals_dims : List Local → ℕ
locals_dims ls = greatest (λ l. l.kind.dims) ls

local_of_dims : (name : List ℕ) (o : Option TypeText) (ls : List Local) (m : ℕ) → bound_dims o ≤ m → locals_dims ls ≤ m → locals_dims (usable_by name o ++ ls) ≤ m
local_of_dims name None ls m h k = k
local_of_dims name (Some t) ls m h k = omega (arith, h, k)

all_locals : (vs : List variable.Variable) (m : ℕ) → most vs ≤ m → locals_dims (flat_map local_of vs) ≤ m
all_locals [] m h = omega arith
all_locals (v ∷ vs) m h =
    let a : bound_dims v.kind ≤ m = omega (arith, h) in
    let b : most vs ≤ m = omega (arith, h) in
    local_of_dims v.name v.kind (flat_map local_of vs) m a (all_locals vs m b)

pub locals_few : (n m : ℕ) → 4 * n ≤ 3 * m → (ps : List Param) → params_dims ps ≤ m → (b : BodySigns) → length b.before ≤ n → locals_dims (names_of (variables_of ps b)).locals ≤ m
unfolding locals_of
locals_few n m e ps p b l = all_locals (last_ones (variables_of ps b)) m (last_most (variables_of ps b) m (variables_most n m e ps p b l))

-- The type that is asked for.
kind_if : (b : Bool) (o p : Option TypeText) (m : ℕ) → bound_dims o ≤ m → bound_dims p ≤ m → bound_dims (if b then o else p) ≤ m
kind_if true o p m h k = h
kind_if false o p m h k = k

field_dims : (name : List ℕ) (fs : List SourceField) (m : ℕ) → greatest (λ f. f.kind.dims) fs ≤ m → bound_dims (field_kind name fs) ≤ m
unfolding field_kind
field_dims name [] m h = omega arith
field_dims name (f ∷ fs) m h =
    let a : f.kind.dims ≤ m = omega (arith, h) in
    let b : greatest (λ (g : SourceField). g.kind.dims) fs ≤ m = omega (arith, h) in
    kind_if (bytes_eq f.name name) (Some f.kind) (field_kind name fs) m a (field_dims name fs m b)

local_dims : (name : List ℕ) (ls : List Local) (fs : List SourceField) (m : ℕ) → locals_dims ls ≤ m → greatest (λ f. f.kind.dims) fs ≤ m → bound_dims (local_kind name ls fs) ≤ m
unfolding local_kind
local_dims name [] fs m h k = field_dims name fs m k
local_dims name (l ∷ ls) fs m h k =
    let a : l.kind.dims ≤ m = omega (arith, h) in
    let b : locals_dims ls ≤ m = omega (arith, h) in
    kind_if (bytes_eq l.name name) (Some l.kind) (local_kind name ls fs) m a (local_dims name ls fs m b k)

variable_dims : (name : List ℕ) (names : Names) (fs : List SourceField) (m : ℕ) → locals_dims names.locals ≤ m → greatest (λ f. f.kind.dims) fs ≤ m → bound_dims (variable_kind name names fs) ≤ m
unfolding variable_kind
variable_dims name names fs m h k = hidden_or (list_any (λ x. bytes_eq x name) names.hidden) (local_kind name names.locals fs) m (local_dims name names.locals fs m h k)

declaration_dims : (n m : ℕ) → 4 * n ≤ 3 * m → (ss : List Sign) → length ss ≤ n → bound_dims (declared_kind ss) ≤ m
unfolding declared_kind
declaration_dims n m e ss l =
    omega (arith, e, usable_dims (type_text (dims_len (drop 1 (named ss)) / 2) (typed ss)), field_few n (typed ss) (named ss) (typed_short n ss l) (named_short n ss l))

method_in : (c : SourceClass) (m : ℕ) → type_dims c ≤ m → greatest (λ f. f.kind.dims) c.fields ≤ m
method_in c m h = omega (arith, h)

wanted_dims : (n m : ℕ) → 4 * n ≤ 3 * m → (ss : List Sign) → length ss ≤ n → (c : SourceClass) → type_dims c ≤ m → (f : SourceMethod) → method_dims f ≤ m → (names : Names) → locals_dims names.locals ≤ m → (a : Asking) → bound_dims (wanted_by a ss c f names) ≤ m
wanted_dims n m e ss l c h f k names g Declaration = declaration_dims n m e ss l
wanted_dims n m e ss l c h f k names g Return = omega (arith, k)
wanted_dims n m e ss l c h f k names g Variable = variable_dims (first_text ss) names c.fields m g (method_in c m h)
wanted_dims n m e ss l c h f k names g Field = field_dims (first_text (drop 2 ss)) c.fields m (method_in c m h)
wanted_dims n m e ss l c h f k names g Nothing = omega arith

pub wanted_few : (n m : ℕ) → 4 * n ≤ 3 * m → (ss : List Sign) → length ss ≤ n → (c : SourceClass) → type_dims c ≤ m → (f : SourceMethod) → method_dims f ≤ m → (names : Names) → locals_dims names.locals ≤ m → bound_dims (wanted ss c f names) ≤ m
unfolding wanted
wanted_few n m e ss l c h f k names g = wanted_dims n m e ss l c h f k names g (asked_by ss)

-- The variables in the scope of a hole are named by identifiers.
use Rattle.std.proofs.Common.{◌≡◌, sym, subst, refl, ℕ, zero, suc, ◌+◌, ◌-◌, ◌==◌, ◌&&◌, not, if◌then◌else◌, Bool, true, false, List, [], ◌∷◌, ◌++◌, length, drop, take, map, codes, slice_get, IsUtf8, Option, Some, None}
use Rattle.std.specs.List.{AllByRecursion}
use Rattle.std.proofs.lemmas.Bool.{false≢true, and_parts}
use Rattle.java_tokens.specs.Tokens.{AreTokensOf}
use Rattle.java_tokens.specs.declared.token.Token.{Token}
use Rattle.java_units.specs.declared.entries.Entry.TheVariants as entry
use Rattle.java_units.specs.declared.types.TypeText.{TypeText}
use Rattle.java_units.specs.declared.types.Param.{Param}
use Rattle.java_units.specs.declared.types.SourceMethod.{SourceMethod}
use Rattle.java_units.specs.declared.types.SourceClass.{SourceClass}
use Rattle.java_units.specs.declared.types.Unit as unit
use Rattle.java_units.specs.Signs.{Sign, signs_of}
use Rattle.java_units.specs.Identifiers.{is_identifier}
use Rattle.java_units.specs.Longest.{NamesAreIdentifiers}
use Rattle.java_units.specs.Forms.{begins, begins_name, type_len, ahead_len, dims_len, declared_len, rest_len, ends_name, field_len, entry_len, entries, span}
use Rattle.java_units.specs.Values.{first_text, field_of, fields_of}
use Rattle.java_units.specs.Units.{IsUnit}
use Rattle.java_units.proofs.IdentifierLaws.{texts_have_names}
use Rattle.java_bodies.specs.Bodies.{BodySigns}
use Rattle.java_bodies.specs.Kept.{keeps}
use Rattle.java_bodies.specs.Openers.{opener, gathered}
use Rattle.java_bodies.specs.Blocks.{follows, is_in_blocks}
use Rattle.java_bodies.specs.Statements.{statement, statement_len, typed, named, own_statement, is_declaration, is_just, valued}
use Rattle.java_bodies.specs.Variables.{of_param, of_field, declared, is_each, each, for_header, alternative_len, caught, is_catch, catching, catch_header, begins_at, inside, resource_at, try_header, header_variables}
use Rattle.java_bodies.specs.Scopes.{header_at, header_before, entered, stated, added_at, own_variable, variables_of, is_named, last_ones, usable_by, local_of, locals_of, names_of}
use Rattle.java_bodies.specs.Wanted.{wanted}
use Rattle.java_bodies.specs.Places.{touched, is_free, prefix_start, passed}
use Rattle.java_bodies.specs.Methods.{signs_before, signs_from, method_at}
use Rattle.java_bodies.specs.Sites.{body_signs, sighted, sight_in, is_static, site_by, in_body, in_method, in_class, in_classes, hole_behind, hole_from, hole_of}
use Rattle.java_bodies.specs.declared.mark.Brackets.TheVariants.{Blocks}
use Rattle.java_bodies.specs.declared.methods.MethodPlace.{MethodPlace}
use Rattle.java_bodies.specs.declared.names.Names.{Names}
use Rattle.java_bodies.specs.declared.site.Local.{Local}
use Rattle.java_bodies.specs.declared.site.HoleSite.{HoleSite}
use Rattle.java_bodies.specs.declared.variables.Variable as variable
use Rattle.hole_texts.proofs.Pairs.{all-at, all-on, all-append, all-map, all-flat}
use Rattle.hole_texts.proofs.Params.{Begin, IsParamNamed, IsMethodNamed, IsClassNamed, named-drop, named-take, first-named, entries-begin, body-named}

-- a variable with an identifier as its name
abbrev IsOk : variable.Variable → Type 0
IsOk v = is_identifier v.name ≡ true

AreOk : List variable.Variable → Type 0
AreOk vs = AllByRecursion IsOk vs

ok-if : (b : Bool) (xs ys : List variable.Variable) → (b ≡ true → AreOk xs) → AreOk ys → AreOk (if b then xs else ys)
unfolding AreOk
ok-if true xs ys h k = h refl
ok-if false xs ys h k = k

ok-gathered : (f : ℕ → List variable.Variable) → ((k : ℕ) → AreOk (f k)) → (n : ℕ) → AreOk (gathered f n)
unfolding gathered AreOk
ok-gathered f h zero = tt
ok-gathered f h (suc n) = all-append IsOk (gathered f n) (f n) (ok-gathered f h n) (h n)

typed-named : (ss : List Sign) → NamesAreIdentifiers ss → NamesAreIdentifiers (typed ss)
unfolding typed
typed-named ss h = named-drop (ahead_len ss) ss h

named-named : (ss : List Sign) → NamesAreIdentifiers ss → NamesAreIdentifiers (named ss)
unfolding named
named-named ss h = named-drop (type_len (typed ss)) (typed ss) (typed-named ss h)

statement-named : (ss : List Sign) → NamesAreIdentifiers ss → NamesAreIdentifiers (statement ss)
unfolding statement
statement-named ss h = named-take (statement_len ss) ss h

-- declared names
some-if : (b : Bool) (n : ℕ) → ((if b then n else 0) == 0) ≡ false → b ≡ true
some-if true n h = refl
some-if false n h = absurd (false≢true (sym h))

plus-some : (n m : ℕ) (b : Bool) → (n == 0) ≡ b → ((if b then 0 else n + m) == 0) ≡ false → (n == 0) ≡ false
plus-some n m true e h = absurd (false≢true (sym h))
plus-some n m false e h = e

field-begins : (x : List Sign) → (field_len x == 0) ≡ false → begins_name x ≡ true
unfolding field_len declared_len
field-begins x h =
    let n = 1 + dims_len (drop 1 x) in
    some-if (begins_name x) (if ends_name (drop n x) then n else 0) (plus-some (declared_len x) (rest_len 0 (drop (declared_len x) x)) (declared_len x == 0) refl h)

field-ok : (ts x : List Sign) → Begin (entry_len entry.Field) x → IsOk (of_field (field_of 0 ts x))
unfolding of_field field_of
field-ok ts x h = first-named x h.0 (field-begins x h.1)

declared-ok : (ss : List Sign) → NamesAreIdentifiers ss → AreOk (declared ss)
unfolding declared fields_of AreOk
declared-ok ss h =
    let ts = typed ss in
    let xs = entries entry.Field (drop (type_len ts) ts) in
    let k = entries-begin entry.Field (drop (type_len ts) ts) (named-drop (type_len ts) ts (typed-named ss h)) in
    ok-if (type_len ts == 0) [] (map of_field (map (field_of 0 ts) xs)) (λ e. tt)
    (all-map IsOk of_field (map (field_of 0 ts) xs) (all-map (λ f. IsOk (of_field f)) (field_of 0 ts) xs (all-on (Begin (entry_len entry.Field)) (λ x. IsOk (of_field (field_of 0 ts x))) (λ x b. field-ok ts x b) xs k)))

each-ok : (ss : List Sign) → NamesAreIdentifiers ss → is_each ss ≡ true → AreOk (each ss ∷ [])
unfolding is_each each AreOk
each-ok ss h e =
    let k = and_parts (not (type_len (typed ss) == 0) && begins_name (named ss)) (begins (codes ":") (drop 1 (named ss))) e in
    (first-named (named ss) (named-named ss h) (and_parts (not (type_len (typed ss) == 0)) (begins_name (named ss)) k.0).1, tt)

for-ok : (ss : List Sign) → NamesAreIdentifiers ss → AreOk (for_header ss)
unfolding for_header
for-ok ss h = ok-if (is_each ss) (each ss ∷ []) (declared (statement ss)) (λ e. each-ok ss h e) (declared-ok (statement ss) (statement-named ss h))

caught-named : (ss : List Sign) → NamesAreIdentifiers ss → NamesAreIdentifiers (caught ss)
unfolding caught
caught-named ss h = named-drop (span alternative_len (named ss)) (named ss) (named-named ss h)

catching-ok : (ss : List Sign) → NamesAreIdentifiers ss → is_catch ss ≡ true → AreOk (catching ss ∷ [])
unfolding is_catch catching AreOk
catching-ok ss h e =
    let k = and_parts (not (type_len (typed ss) == 0) && begins_name (caught ss)) (is_just (codes ")") (drop 1 (caught ss))) e in
    (first-named (caught ss) (caught-named ss h) (and_parts (not (type_len (typed ss) == 0)) (begins_name (caught ss)) k.0).1, tt)

none-ok : AreOk []
unfolding AreOk
none-ok = tt

catch-ok : (ss : List Sign) → NamesAreIdentifiers ss → AreOk (catch_header ss)
unfolding catch_header
catch-ok ss h = ok-if (is_catch ss) (catching ss ∷ []) [] (λ e. catching-ok ss h e) none-ok

resource-ok : (ss : List Sign) → NamesAreIdentifiers ss → (k : ℕ) → AreOk (resource_at ss k)
unfolding resource_at
resource-ok ss h k = ok-if (keeps Blocks (drop k (inside ss)) && begins_at (inside ss) (inside ss) k) (declared (statement (drop k ss))) [] (λ e. declared-ok (statement (drop k ss)) (statement-named (drop k ss) (named-drop k ss h))) none-ok

try-ok : (ss : List Sign) → NamesAreIdentifiers ss → AreOk (try_header ss)
unfolding try_header
try-ok ss h = ok-gathered (resource_at ss) (resource-ok ss h) (length (inside ss))

header-ok : (ss : List Sign) (opening : ℕ) (header : List Sign) → NamesAreIdentifiers header → AreOk (header_variables ss opening header)
unfolding header_variables
header-ok ss opening header h =
    ok-if (follows (codes "for" ∷ []) ss opening) (for_header header) (if follows (codes "catch" ∷ []) ss opening then catch_header header else if follows (codes "try" ∷ []) ss opening then try_header header else []) (λ e. for-ok header h)
    (ok-if (follows (codes "catch" ∷ []) ss opening) (catch_header header) (if follows (codes "try" ∷ []) ss opening then try_header header else []) (λ e. catch-ok header h)
    (ok-if (follows (codes "try" ∷ []) ss opening) (try_header header) [] (λ e. try-ok header h) none-ok))

header-at-ok : (ss : List Sign) → NamesAreIdentifiers ss → (k : ℕ) (o : Option ℕ) → AreOk (header_at ss k o)
header-at-ok ss h k None = none-ok
header-at-ok ss h k (Some opening) = header-ok ss opening (take (k - opening) (drop 1 (drop opening ss))) (named-take (k - opening) (drop 1 (drop opening ss)) (named-drop 1 (drop opening ss) (named-drop opening ss h)))

before-ok : (ss : List Sign) → NamesAreIdentifiers ss → (k : ℕ) → AreOk (header_before ss k)
unfolding header_before
before-ok ss h zero = none-ok
before-ok ss h (suc k) = ok-if (begins (codes ")") (drop k ss)) (header_at ss k (opener ss k)) [] (λ e. header-at-ok ss h k (opener ss k)) none-ok

entered-ok : (ss : List Sign) → NamesAreIdentifiers ss → (k : ℕ) → AreOk (entered ss k)
unfolding entered
entered-ok ss h zero = none-ok
entered-ok ss h (suc k) = ok-if (begins (codes "{") (drop k ss)) (header_before ss k) [] (λ e. before-ok ss h k) none-ok

stated-ok : (b : BodySigns) → NamesAreIdentifiers b.before → (k : ℕ) → AreOk (stated b k)
unfolding stated
stated-ok b h k = ok-if (begins_at b.before b.whole k) (declared (statement (drop k b.before))) [] (λ e. declared-ok (statement (drop k b.before)) (statement-named (drop k b.before) (named-drop k b.before h))) none-ok

joined-ok : (xs ys : List variable.Variable) → AreOk xs → AreOk ys → AreOk (xs ++ ys)
unfolding AreOk
joined-ok xs ys h k = all-append IsOk xs ys h k

added-ok : (b : BodySigns) → NamesAreIdentifiers b.before → (k : ℕ) → AreOk (added_at b k)
unfolding added_at
added-ok b h k = ok-if (keeps Blocks (drop k b.before)) (entered b.before k ++ stated b k) [] (λ e. joined-ok (entered b.before k) (stated b k) (entered-ok b.before h k) (stated-ok b h k)) none-ok

params-ok : (ps : List Param) → AllByRecursion IsParamNamed ps → AreOk (map of_param ps)
unfolding of_param AreOk
params-ok ps h = all-map IsOk of_param ps h

own-ok : (ss : List Sign) → NamesAreIdentifiers ss → AreOk (own_variable ss)
unfolding own_variable is_declaration AreOk
own-ok ss h = ok-if (is_declaration ss) (record { name = first_text (named ss); kind = None } ∷ []) []
    (λ e. let k = and_parts (not (type_len (typed ss) == 0) && begins_name (named ss)) (is_just (codes "=") (valued ss)) e in
    (first-named (named ss) (named-named ss h) (and_parts (not (type_len (typed ss) == 0)) (begins_name (named ss)) k.0).1, tt)) none-ok

own-named : (ss : List Sign) → NamesAreIdentifiers ss → NamesAreIdentifiers (own_statement ss)
unfolding own_statement
own-named ss h = named-drop _ ss h

variables-ok : (ps : List Param) → AllByRecursion IsParamNamed ps → (b : BodySigns) → NamesAreIdentifiers b.before → AreOk (variables_of ps b)
unfolding variables_of
variables-ok ps p b h =
    joined-ok (map of_param ps ++ gathered (added_at b) (length b.before)) (own_variable (own_statement b.before))
    (joined-ok (map of_param ps) (gathered (added_at b) (length b.before)) (params-ok ps p) (ok-gathered (added_at b) (added-ok b h) (length b.before)))
    (own-ok (own_statement b.before) (own-named b.before h))

last-ok : (vs : List variable.Variable) → AreOk vs → AreOk (last_ones vs)
unfolding last_ones AreOk
last-ok [] h = tt
last-ok (v ∷ vs) h = ok-if (is_named v.name vs) (last_ones vs) (v ∷ last_ones vs) (λ e. last-ok vs h.1) (h.0, last-ok vs h.1)

-- those that can be used
abbrev pub AreNamed : List Local → Type 0
AreNamed ls = AllByRecursion (λ l. is_identifier l.name ≡ true) ls

usable-ok : (name : List ℕ) (o : Option TypeText) → is_identifier name ≡ true → AreNamed (usable_by name o)
usable-ok name None h = tt
usable-ok name (Some kind) h = (h, tt)

locals-ok : (vs : List variable.Variable) → AreOk vs → AreNamed (locals_of vs)
unfolding locals_of AreOk
locals-ok vs h = all-flat IsOk (λ l. is_identifier l.name ≡ true) local_of (λ v k. usable-ok v.name v.kind k) (last_ones vs) (last-ok vs h)

site-sighted : (at : MethodPlace) (static : Bool) (prefix : ℕ × ℕ) (n : Names) (o : Option TypeText) → AreNamed n.locals → (s : HoleSite) → site_by at static prefix (sighted n o) ≡ Some s → AreNamed s.locals
site-sighted at static prefix n None h s e = absurd cc
site-sighted at static prefix n (Some t) h s e =
    let r : HoleSite = record { wanted = t; class = at.class; method = at.method; is_static = static; locals = n.locals; hidden = n.hidden; prefix = prefix } in
    let q : r ≡ s = cc in
    subst (λ (x : HoleSite). AreNamed x.locals) q h

site-picked : (at : MethodPlace) (static : Bool) (prefix : ℕ × ℕ) (b : Bool) (n : Names) (o : Option TypeText) → AreNamed n.locals → (s : HoleSite) → site_by at static prefix (if b then sighted n o else None) ≡ Some s → AreNamed s.locals
site-picked at static prefix true n o h s e = site-sighted at static prefix n o h s e
site-picked at static prefix false n o h s e = absurd cc

site-at : (at : MethodPlace) (static : Bool) (prefix : ℕ × ℕ) (c : SourceClass) (f : SourceMethod) → IsMethodNamed f → (b : BodySigns) → NamesAreIdentifiers b.before → (s : HoleSite) → site_by at static prefix (sight_in c f b) ≡ Some s → AreNamed s.locals
unfolding sight_in
site-at at static prefix c f m b h s e =
    let names = names_of (variables_of f.params b) in
    site-picked at static prefix (is_in_blocks b.before) names (wanted (own_statement b.before) c f names) (locals-ok (variables_of f.params b) (variables-ok f.params m b h)) s e

body-signs-named : (gone : ℕ) (ss : List Sign) (number : ℕ) → NamesAreIdentifiers ss → NamesAreIdentifiers (body_signs gone ss number).before
unfolding body_signs signs_from
body-signs-named gone ss number h =
    named-take (signs_before gone (drop 1 (drop (signs_before number ss) ss))) (drop 1 (drop (signs_before number ss) ss))
    (named-drop 1 (drop (signs_before number ss) ss) (named-drop (signs_before number ss) ss h))

body-in : (gone : ℕ) (ss : List Sign) → NamesAreIdentifiers ss → (prefix : ℕ × ℕ) (at : MethodPlace) (c : SourceClass) (f : SourceMethod) → IsMethodNamed f → (o : Option (ℕ × ℕ)) (s : HoleSite) → in_body gone ss prefix at c f o ≡ Some s → AreNamed s.locals
body-in gone ss h prefix at c f m None s e = absurd cc
body-in gone ss h prefix at c f m (Some r) s e = site-at at (is_static f.flags) prefix c f m (body_signs gone ss r.0) (body-signs-named gone ss r.0 h) s e

method-in : (gone : ℕ) (ss : List Sign) → NamesAreIdentifiers ss → (prefix : ℕ × ℕ) (at : MethodPlace) (c : SourceClass) → IsClassNamed c → (o : Option SourceMethod) → slice_get c.methods at.method ≡ o → (s : HoleSite) → in_method gone ss prefix at c o ≡ Some s → AreNamed s.locals
method-in gone ss h prefix at c m None k s e = absurd cc
method-in gone ss h prefix at c m (Some f) k s e = body-in gone ss h prefix at c f (all-at IsMethodNamed c.methods at.method f m k) f.body s e

class-in : (gone : ℕ) (ss : List Sign) → NamesAreIdentifiers ss → (prefix : ℕ × ℕ) (cs : List SourceClass) → AllByRecursion IsClassNamed cs → (at : MethodPlace) (o : Option SourceClass) → slice_get cs at.class ≡ o → (s : HoleSite) → in_class gone ss prefix at o ≡ Some s → AreNamed s.locals
class-in gone ss h prefix cs m at None k s e = absurd cc
class-in gone ss h prefix cs m at (Some c) k s e = method-in gone ss h prefix at c (all-at IsClassNamed cs at.class c m k) (slice_get c.methods at.method) refl s e

classes-in : (gone : ℕ) (ss : List Sign) → NamesAreIdentifiers ss → (prefix : ℕ × ℕ) (cs : List SourceClass) → AllByRecursion IsClassNamed cs → (o : Option MethodPlace) (s : HoleSite) → in_classes gone ss prefix cs o ≡ Some s → AreNamed s.locals
classes-in gone ss h prefix cs m None s e = absurd cc
classes-in gone ss h prefix cs m (Some at) s e = class-in gone ss h prefix cs m at (slice_get cs at.class) refl s e

behind-in : (gone count : ℕ) (ss : List Sign) → NamesAreIdentifiers ss → (prefix : ℕ × ℕ) (cs : List SourceClass) → AllByRecursion IsClassNamed cs → (s : HoleSite) → hole_behind gone count ss prefix cs ≡ Some s → AreNamed s.locals
unfolding hole_behind
behind-in gone count ss h prefix cs m s e = classes-in gone ss h prefix cs m (method_at gone count ss cs) s e

free-only : (b : Bool) (o : Option HoleSite) (s : HoleSite) → (if b then o else None) ≡ Some s → o ≡ Some s
free-only true o s e = e
free-only false o s e = absurd cc

-- the variables of each hole
pub hole-named : (text : List ℕ) (tokens : List Token) (u : unit.Unit) (place : ℕ) (s : HoleSite) → IsUtf8 text → AreTokensOf text tokens → IsUnit text tokens u → hole_of text tokens u place ≡ Some s → AreNamed s.locals
unfolding hole_of
hole-named text tokens u place s c are is e =
    let start = prefix_start place (touched tokens place) in
    let h = texts_have_names text tokens c are in
    let all = is.all_classes in
    let m : AllByRecursion IsClassNamed u.classes = subst (AllByRecursion IsClassNamed) (sym all.are) (body-named all.body (length tokens) 0 None (signs_of text tokens) h all.is) in
    behind-in (passed tokens start) (length tokens) (signs_of text tokens) h (start, place) u.classes m s
    (free-only (is_free text place (touched tokens place)) (hole_from text tokens u start place) s e)

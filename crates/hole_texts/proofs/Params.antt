-- The parameters of the methods that a text declares are named by identifiers.
use Rattle.std.proofs.Common.{◌≡◌, ◌∙◌, inl, inr, sym, ap, subst, refl, ℕ, zero, suc, ◌+◌, ◌-◌, ◌==◌, ◌&&◌, ◌||◌, not, if◌then◌else◌, Bool, true, false, List, [], ◌∷◌, drop, take, map, codes, bytes_eq, Option, Some}
use Rattle.std.specs.List.{AllByRecursion, flat_map, list_any}
use Rattle.std.proofs.lemmas.Bool.{false≢true, or_cases, both_ways}
use Rattle.std.proofs.lemmas.List.Elements.{All-head, All-tail, All-take, All-drop}
use Rattle.java_units.specs.declared.access.Modifiers.{Modifiers}
use Rattle.java_units.specs.declared.class.Around.{Around}
use Rattle.java_units.specs.declared.entries.Entry.{Entry}
use Rattle.java_units.specs.declared.entries.Entry.TheVariants as entry
use Rattle.java_units.specs.declared.pieces.Form.{Form}
use Rattle.java_units.specs.declared.pieces.Form.TheVariants as form
use Rattle.java_units.specs.declared.types.Param.{Param}
use Rattle.java_units.specs.declared.types.SourceMethod.{SourceMethod}
use Rattle.java_units.specs.declared.types.SourceClass.{SourceClass}
use Rattle.java_units.specs.declared.types.ClassKind.{ClassKind}
use Rattle.java_units.specs.declared.types.ClassKind.TheVariants.{ClassDecl, InterfaceDecl, EnumDecl, RecordDecl, AnnotationDecl}
use Rattle.java_units.specs.Signs.{Sign, is}
use Rattle.java_units.specs.Identifiers.{is_identifier}
use Rattle.java_units.specs.Longest.{NamesAreIdentifiers}
use Rattle.java_units.specs.Forms.{begins, begins_name, starts, span, more, wide_len, ahead_len, lead_len, dims_len, param_name_len, param_len, next_len, entry_len, entries, up_to}
use Rattle.java_units.specs.Pieces.{head_len, head, end, held, bare, pieces, piece_len, kind_len, result_len, past_vars, form_of}
use Rattle.java_units.specs.Values.{first_text, typed_param, param_of, kept, params_of}
use Rattle.java_units.specs.Members.{modifiers_of, is_plain, nested, method_of, constructor_of, default_constructor, methods_by, methods_in, has_constructor}
use Rattle.java_units.specs.Units.{Body, none, plain, class, IsBody, kind_of, body_in, members_of, methods_of, kind_in, class_by, class_of, size, listed}
use Rattle.hole_texts.proofs.Pairs.{all-on, all-append, all-map, all-flat}

-- of each sign that counts as an identifier
abbrev IsNamed : Sign → Type 0
IsNamed s = s.is_name ≡ true → is_identifier s.text ≡ true

pub named-drop : (n : ℕ) (ss : List Sign) → NamesAreIdentifiers ss → NamesAreIdentifiers (drop n ss)
named-drop n ss h = All-drop IsNamed n ss h

pub named-take : (n : ℕ) (ss : List Sign) → NamesAreIdentifiers ss → NamesAreIdentifiers (take n ss)
named-take n ss h = All-take IsNamed n ss h

pub first-named : (ss : List Sign) → NamesAreIdentifiers ss → begins_name ss ≡ true → is_identifier (first_text ss) ≡ true
unfolding begins_name first_text
first-named [] h e = absurd (false≢true e)
first-named (s ∷ ss) h e = All-head IsNamed s ss h e

-- the places at which a form begins
abbrev pub Begin : (List Sign → ℕ) → List Sign → Type 0
Begin len x = NamesAreIdentifiers x × ((len x == 0) ≡ false)

starts-if : (len : List Sign → ℕ) (b : Bool) (x : List Sign) (xs : List (List Sign)) → (len x == 0) ≡ b → NamesAreIdentifiers x → AllByRecursion (Begin len) xs → AllByRecursion (Begin len) (if b then [] else x ∷ xs)
starts-if len true x xs e h k = tt
starts-if len false x xs e h k = ((h, e), k)

pub starts-begin : (ss : List Sign) (len : List Sign → ℕ) (k : ℕ) → NamesAreIdentifiers ss → AllByRecursion (Begin len) (starts len k ss)
unfolding starts
starts-begin [] len zero h = tt
starts-begin [] len (suc k) h = tt
starts-begin (s ∷ ss) len (suc k) h = starts-begin ss len k (All-tail IsNamed s ss h)
starts-begin (s ∷ ss) len zero h = starts-if len (len (s ∷ ss) == 0) (s ∷ ss) (starts len (len (s ∷ ss) - 1) ss) refl h (starts-begin ss len (len (s ∷ ss) - 1) (All-tail IsNamed s ss h))

more-some : (n : ℕ) (b : Bool) → (n == 0) ≡ b → (more n == 0) ≡ false → (n == 0) ≡ false
more-some n true e h = absurd (false≢true (sym h ∙ ap (λ (c : Bool). (if c then 0 else suc n) == 0) e))
more-some n false e h = e

next-if : (b : Bool) (n : ℕ) → ((if b then more n else 0) == 0) ≡ false → (n == 0) ≡ false
next-if true n h = more-some n (n == 0) refl h
next-if false n h = absurd (false≢true (sym h))

next-some : (e : Entry) (x : List Sign) → (next_len e x == 0) ≡ false → (entry_len e (drop 1 x) == 0) ≡ false
unfolding next_len
next-some e x h = next-if (begins (codes ",") x) (entry_len e (drop 1 x)) h

entries-if : (e : Entry) (b : Bool) (x : List Sign) (xs : List (List Sign)) → (entry_len e x == 0) ≡ b → NamesAreIdentifiers x → AllByRecursion (Begin (entry_len e)) xs → AllByRecursion (Begin (entry_len e)) (if b then [] else x ∷ xs)
entries-if e b x xs q h k = starts-if (entry_len e) b x xs q h k

pub entries-begin : (e : Entry) (ss : List Sign) → NamesAreIdentifiers ss → AllByRecursion (Begin (entry_len e)) (entries e ss)
unfolding entries
entries-begin e ss h =
    let n = entry_len e ss in
    let r = starts (next_len e) 0 (drop n ss) in
    entries-if e (n == 0) ss (map (drop 1) r) refl h
    (all-map (Begin (entry_len e)) (drop 1) r (all-on (Begin (next_len e)) (λ x. Begin (entry_len e) (drop 1 x)) (λ x k. (named-drop 1 x k.0, next-some e x k.1)) r (starts-begin (drop n ss) (next_len e) 0 (named-drop n ss h))))

-- parameters
abbrev pub IsParamNamed : Param → Type 0
IsParamNamed p = is_identifier p.name ≡ true

last-some : (n c a : ℕ) → ((if n == 0 then 0 else if c == 0 then 0 else a) == 0) ≡ false → (c == 0) ≡ false
last-some n c a h = by (n == 0) (c == 0) refl h
  where
    by : (b d : Bool) → (c == 0) ≡ d → ((if b then 0 else if d then 0 else a) == 0) ≡ false → (c == 0) ≡ false
    by true d e h = absurd (false≢true (sym h))
    by false true e h = absurd (false≢true (sym h))
    by false false e h = e

name-some : (b : Bool) (n : ℕ) → ((if b then n else 0) == 0) ≡ false → b ≡ true
name-some true n h = refl
name-some false n h = absurd (false≢true (sym h))

param-begins : (x : List Sign) → (param_len x == 0) ≡ false → (let y = drop (ahead_len x) x in let z = drop (wide_len y) y in (begins_name z || begins (codes "this") z) ≡ true)
unfolding param_len param_name_len
param-begins x h =
    let y = drop (ahead_len x) x in
    let z = drop (wide_len y) y in
    name-some (begins_name z || begins (codes "this") z) (1 + dims_len (drop 1 z)) (last-some (wide_len y) (param_name_len z) (ahead_len x + wide_len y + param_name_len z) h)

this-text : (z : List Sign) → begins (codes "this") z ≡ true → bytes_eq (codes "this") (first_text z) ≡ true
unfolding begins first_text is
this-text [] e = absurd (false≢true e)
this-text (s ∷ ss) e = e

kept-if : (b : Bool) (p : Param) → (b ≡ false → IsParamNamed p) → AllByRecursion IsParamNamed (if b then [] else p ∷ [])
kept-if true p f = tt
kept-if false p f = (f refl, tt)

one-param : (x : List Sign) → Begin (entry_len entry.Param) x → AllByRecursion IsParamNamed (kept (param_of x))
unfolding kept param_of typed_param
one-param x h =
    let y = drop (ahead_len x) x in
    let z = drop (wide_len y) y in
    kept-if (bytes_eq (codes "this") (first_text z)) (param_of x) (λ e. elim (or_cases (begins_name z) (begins (codes "this") z) (param-begins x h.1)) [
      | inl a ↦ first-named z (named-drop (wide_len y) y (named-drop (ahead_len x) x h.0)) a
      | inr b ↦ absurd (both_ways (bytes_eq (codes "this") (first_text z)) e (this-text z b))
    ])

params-named : (ss : List Sign) → NamesAreIdentifiers ss → AllByRecursion IsParamNamed (params_of ss)
unfolding params_of
params-named ss h = all-flat (Begin (entry_len entry.Param)) IsParamNamed (λ x. kept (param_of x)) one-param (entries entry.Param (drop 1 ss)) (entries-begin entry.Param (drop 1 ss) (named-drop 1 ss h))

-- methods and classes
abbrev pub IsMethodNamed : SourceMethod → Type 0
IsMethodNamed m = AllByRecursion IsParamNamed m.params

abbrev pub IsClassNamed : SourceClass → Type 0
IsClassNamed c = AllByRecursion IsMethodNamed c.methods

bare-named : (x : List Sign) → NamesAreIdentifiers x → NamesAreIdentifiers (bare x)
unfolding bare head
bare-named x h = named-drop (span lead_len (head x)) (head x) (named-take (head_len 0 false x) x h)

past-named : (x : List Sign) → NamesAreIdentifiers x → NamesAreIdentifiers (past_vars x)
unfolding past_vars
past-named x h = named-drop _ x h

method-named : (around : ClassKind) (count : ℕ) (x : List Sign) → NamesAreIdentifiers x → IsMethodNamed (method_of around count x)
unfolding method_of
method-named around count x h =
    let p = past_vars (bare x) in
    let q = drop (result_len p) p in
    params-named (drop 1 q) (named-drop 1 q (named-drop (result_len p) p (past-named (bare x) (bare-named x h))))

constructor-named : (around : ClassKind) (count : ℕ) (x : List Sign) → NamesAreIdentifiers x → IsMethodNamed (constructor_of around count x)
unfolding constructor_of
constructor-named around count x h = let p = past_vars (bare x) in params-named (drop 1 p) (named-drop 1 p (past-named (bare x) (bare-named x h)))

methods-by-named : (f : Form) (around : ClassKind) (count : ℕ) (x : List Sign) → NamesAreIdentifiers x → AllByRecursion IsMethodNamed (methods_by f around count x)
methods-by-named form.Package around count x h = tt
methods-by-named form.Import around count x h = tt
methods-by-named form.Class around count x h = tt
methods-by-named form.Constructor around count x h = (constructor-named around count x h, tt)
methods-by-named form.Method around count x h = (method-named around count x h, tt)
methods-by-named form.Field around count x h = tt
methods-by-named form.Nothing around count x h = tt

methods-named : (around : ClassKind) (name : List ℕ) (count : ℕ) (x : List Sign) → NamesAreIdentifiers x → AllByRecursion IsMethodNamed (methods_in around name count x)
unfolding methods_in
methods-named around name count x h = methods-by-named (form_of name x) around count x h

default-named : (m : Modifiers) → AllByRecursion IsMethodNamed (default_constructor m ∷ [])
unfolding default_constructor
default-named m = (tt, tt)

default-if : (b : Bool) (m : Modifiers) → AllByRecursion IsMethodNamed (if b then default_constructor m ∷ [] else [])
default-if true m = default-named m
default-if false m = tt

all-methods : (kind : ClassKind) (name : List ℕ) (count : ℕ) (m : Modifiers) (ps : List (List Sign)) → AllByRecursion (Begin piece_len) ps → AllByRecursion IsMethodNamed (methods_of kind name count m ps)
unfolding methods_of
all-methods kind name count m ps h =
    all-append IsMethodNamed (flat_map (methods_in kind name count) ps) (if is_plain kind && not (list_any (has_constructor name) ps) then default_constructor m ∷ [] else [])
    (all-flat (Begin piece_len) IsMethodNamed (methods_in kind name count) (λ x k. methods-named kind name count x k.0) ps h)
    (default-if (is_plain kind && not (list_any (has_constructor name) ps)) m)

end-named : (x : List Sign) → NamesAreIdentifiers x → NamesAreIdentifiers (end x)
unfolding end
end-named x h = named-drop (head_len 0 false x) x h

held-named : (x : List Sign) → NamesAreIdentifiers x → NamesAreIdentifiers (held x)
unfolding held
held-named [] h = h
held-named (s ∷ ss) h = named-take s.holds ss (All-tail IsNamed s ss h)

body-in-named : (kind : ClassKind) (x : List Sign) → NamesAreIdentifiers x → NamesAreIdentifiers (body_in kind x)
unfolding body_in
body-in-named ClassDecl x h = h
body-in-named InterfaceDecl x h = h
body-in-named EnumDecl x h = named-drop 1 (drop (up_to (codes ";") 0 x) x) (named-drop (up_to (codes ";") 0 x) x h)
body-in-named RecordDecl x h = h
body-in-named AnnotationDecl x h = h

members-named : (kind : ClassKind) (x : List Sign) → NamesAreIdentifiers x → NamesAreIdentifiers (members_of kind x)
unfolding members_of
members-named kind x h = body-in-named kind (held (end x)) (held-named (end x) (end-named x h))

class-by-named : (around : Option Around) (count : ℕ) (h : List Sign) (kind : ClassKind) (name : List ℕ) (m : Modifiers) (ps : List (List Sign)) → AllByRecursion (Begin piece_len) ps → IsClassNamed (class_by around count h kind name m ps)
unfolding class_by
class-by-named around count h kind name m ps k = all-methods kind name count m ps k

class-named : (around : Option Around) (count : ℕ) (x : List Sign) → NamesAreIdentifiers x → IsClassNamed (class_of around count x)
unfolding class_of
class-named around count x h =
    let b = members_of (kind_of (bare x)) x in
    class-by-named around count (bare x) (kind_of (bare x)) (first_text (drop (kind_len (bare x)) (bare x)))
    (nested (kind_in around) (kind_of (bare x)) (modifiers_of x)) (pieces b) (starts-begin b piece_len 0 (members-named (kind_of (bare x)) x h))

pub body-named : (b : Body) (count next : ℕ) (around : Option Around) (ss : List Sign) → NamesAreIdentifiers ss → IsBody count around next ss b → AllByRecursion IsClassNamed (listed b)
unfolding IsBody listed
body-named none count next around ss h is = tt
body-named (plain more) count next around ss h is = body-named more count next around (drop (piece_len ss) ss) (named-drop (piece_len ss) ss h) is.2
body-named (class c inner more) count next around ss h is = (
  subst IsClassNamed (sym is.1) (class-named around count ss h),
  all-append IsClassNamed (listed inner) (listed more)
      (body-named inner count (suc next) (Some (record { number = next; kind = c.kind })) (members_of c.kind ss) (members-named c.kind ss h) is.2)
      (body-named more count (suc next + size inner) around (drop (piece_len ss) ss) (named-drop (piece_len ss) ss h) is.3),
)

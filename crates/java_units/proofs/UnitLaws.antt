-- The unit of a text: there is one alone, and each class stands after the class around it.
use Rattle.std.proofs.Common.{◌≡◌, ◌<◌, ◌∙◌, ℕ, zero, suc, ◌+◌, true, false, List, [], ◌∷◌, ◌++◌, length, drop, refl, sym, ap, subst, arith, Option, Some, None}
use Rattle.std.specs.Prelude.{slice_get}
use Rattle.std.proofs.Common.{length-append}
use Rattle.java_tokens.specs.declared.token.Token.{Token}
use Rattle.java_units.specs.declared.class.Around.{Around}
use Rattle.java_units.specs.declared.types.Import.{Import}
use Rattle.java_units.specs.declared.types.SourceClass.{SourceClass}
use Rattle.java_units.specs.declared.types.Unit as unit
use Rattle.java_units.specs.Signs.{Sign, signs_of}
use Rattle.java_units.specs.Forms.{begins, begins_any, begins_name, starts, span, total, name_len, base_len, dim_len, type_len, vars_len, entries_len, var_len}
use Rattle.java_units.specs.Pieces.{head_len, head, end, bare, fills, package_len, import_len, target_len, class_len, kind_len, named_len, vars_end, header_len, result_len, past_vars, is_call, is_constructor, is_method, fields_len, form, piece_len}
use Rattle.java_units.specs.Units.{Body, none, plain, class, IsBody, IsUnit, is_class, class_by, class_of, members_of, number_in, size, listed}
use Rattle.java_units.specs.UnitLaws.{outer_number, IsNested, IsOnlyUnit}

-- each class of these, the first of which has the number n, stands after the class around it
abbrev After : ℕ → List SourceClass → Type 0
After n [] = Unit {0}
After n (c ∷ cs) = ((o : ℕ) → c.outer ≡ Some o → o < n) × After (suc n) cs

after_append : (xs ys : List SourceClass) (n : ℕ) → After n xs → After (n + length xs) ys → After n (xs ++ ys)
after_append [] ys n a b = let e : n + 0 ≡ n = omega arith in subst (λ m. After m ys) e b
after_append (x ∷ xs) ys n a b =
    let e : n + suc (length xs) ≡ suc n + length xs = omega arith in
    (a.0, after_append xs ys (suc n) a.1 (subst (λ m. After m ys) e b))

size_listed : (b : Body) → length (listed b) ≡ size b
unfolding listed size
size_listed none = refl
size_listed (plain more) = size_listed more
size_listed (class c inner more) = omega (arith, length-append (listed inner) (listed more), size_listed inner, size_listed more)

outer_of : (around : Option Around) (count : ℕ) (ss : List Sign) → (class_of around count ss).outer ≡ number_in around
unfolding class_of class_by
outer_of around count ss = refl

number_or : Option ℕ → ℕ
number_or None = 0
number_or (Some n) = n

same_number : (n o : ℕ) → Some n ≡ Some o → n ≡ o
unfolding number_or
same_number n o e = ap number_or e

after_body : (b : Body) (count next : ℕ) (around : Option Around) (ss : List Sign) → ((o : ℕ) → number_in around ≡ Some o → o < next) → IsBody count around next ss b → After next (listed b)
unfolding IsBody listed
after_body none count next around ss h is = tt
after_body (plain more) count next around ss h is = after_body more count next around (drop (piece_len ss) ss) h is.2
after_body (class c inner more) count next around ss h is =
    let own : (o : ℕ) → c.outer ≡ Some o → o < next = λ o e. h o (sym (ap (λ x. x.outer) is.1 ∙ outer_of around count ss) ∙ e) in
    let k : (o : ℕ) → Some next ≡ Some o → o < suc next = λ o e. omega (arith, same_number next o e) in
    let w : (o : ℕ) → number_in around ≡ Some o → o < suc next + size inner = λ o e. omega (arith, h o e) in
    let i = after_body inner count (suc next) (Some (record { number = next; kind = c.kind })) (members_of c.kind ss) k is.2 in
    let m = after_body more count (suc next + size inner) around (drop (piece_len ss) ss) w is.3 in
    (own, after_append (listed inner) (listed more) (suc next) i (subst (λ n. After (suc next + n) (listed more)) (sym (size_listed inner)) m))

after_at : (cs : List SourceClass) (n i o : ℕ) → After n cs → outer_number (slice_get cs i) ≡ Some o → o < n + i
after_at [] n i o a e = absurd (cc)
after_at (c ∷ cs) n zero o a e = omega (arith, a.0 o e)
after_at (c ∷ cs) n (suc i) o a e = omega (arith, after_at cs (suc n) i o a.1 e)

none_before : (o : ℕ) → number_in None ≡ Some o → o < 0
none_before o e = absurd (cc)

pub nested_unit : (text : List ℕ) (tokens : List Token) (u : unit.Unit) → IsUnit text tokens u → IsNested u.classes
nested_unit text tokens u is =
    let all = is.all_classes in
    let a : After 0 (listed all.body) = after_body all.body (length tokens) 0 None (signs_of text tokens) none_before all.is in
    let b : After 0 u.classes = subst (After 0) (sym all.are) a in
    record { after = λ i o e. omega (arith, after_at u.classes 0 i o b e) }

no_class : is_class [] ≡ false
unfolding begins begins_any begins_name starts span total name_len base_len dim_len type_len vars_len entries_len var_len head_len head end bare fills package_len import_len target_len class_len kind_len named_len vars_end header_len result_len past_vars is_call is_constructor is_method fields_len form is_class
no_class = refl

pub contrary : (ss : List Sign) → is_class ss ≡ true → is_class ss ≡ false → ⊥
contrary ss p q = absurd (cc)

pub some_class : (ss : List Sign) → is_class ss ≡ true → ss ≡ [] → ⊥
some_class ss p e = contrary ss p (ap is_class e ∙ no_class)

same_body : (a b : Body) (count next : ℕ) (around : Option Around) (ss : List Sign) → IsBody count around next ss a → IsBody count around next ss b → a ≡ b
unfolding IsBody
same_body none none count next around ss p q = refl
same_body none (plain m) count next around ss p q = absurd (q.0 p)
same_body none (class c i m) count next around ss p q = absurd (some_class ss q.0 p)
same_body (plain m) none count next around ss p q = absurd (p.0 q)
same_body (plain m) (plain n) count next around ss p q = ap plain (same_body m n count next around (drop (piece_len ss) ss) p.2 q.2)
same_body (plain m) (class c i n) count next around ss p q = absurd (contrary ss q.0 p.1)
same_body (class c i m) none count next around ss p q = absurd (some_class ss p.0 q)
same_body (class c i m) (plain n) count next around ss p q = absurd (contrary ss p.0 q.1)
same_body (class c i m) (class d j n) count next around ss p q =
    let e : d ≡ c = q.1 ∙ sym p.1 in
    let q2 = subst (λ x. IsBody count (Some (record { number = next; kind = x.kind })) (suc next) (members_of x.kind ss) j) e q.2 in
    let f : i ≡ j = same_body i j count (suc next) (Some (record { number = next; kind = c.kind })) (members_of c.kind ss) p.2 q2 in
    let q3 = subst (λ x. IsBody count around (suc next + size x) (drop (piece_len ss) ss) n) (sym f) q.3 in
    let g : m ≡ n = same_body m n count (suc next + size i) around (drop (piece_len ss) ss) p.3 q3 in
    ap (λ x. class x i m) (sym e) ∙ (ap (λ x. class d x m) f ∙ ap (class d j) g)

abbrev unit_of : List (List ℕ) → List Import → List SourceClass → unit.Unit
unit_of own imports classes = record { «package» = own; imports = imports; classes = classes }

pub one_unit : (text : List ℕ) (tokens : List Token) (u : unit.Unit) → IsUnit text tokens u → IsOnlyUnit text tokens u
one_unit text tokens u a v b =
    let p : v.«package» ≡ u.«package» = b.own_package ∙ sym a.own_package in
    let i : v.imports ≡ u.imports = b.all_imports ∙ sym a.all_imports in
    let s = same_body b.all_classes.body a.all_classes.body (length tokens) 0 None (signs_of text tokens) b.all_classes.is a.all_classes.is in
    let c : v.classes ≡ u.classes = b.all_classes.are ∙ (ap listed s ∙ sym a.all_classes.are) in
    ap (λ x. unit_of x v.imports v.classes) p ∙ (ap (λ x. unit_of u.«package» x v.classes) i ∙ ap (unit_of u.«package» u.imports) c)

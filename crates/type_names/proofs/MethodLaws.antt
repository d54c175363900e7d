-- The types of a method that are read have the text, and the text is read again.
use Rattle.std.proofs.Common.{◌≡◌, ℕ, zero, suc, ◌<◌, ◌≤◌, Bool, true, false, cond, eqb, List, [], ◌∷◌, ◌++◌, length, replicate, Option, Some, None, Result, Ok, Err, refl, sym, ap, subst, ◌∙◌, append_assoc, arith}
use Rattle.std.specs.Prelude.{IfOk, IfSome}
use Rattle.std.specs.List.{flat_map, AllByRecursion}
use Rattle.std.proofs.lemmas.Bool.{eqb-true}
use Rattle.std.proofs.lemmas.List.{length-append}
use Rattle.std.proofs.lemmas.List.Concat.{flat_map-cons}
use Rattle.std.specs.Str.{IsUtf8}
use Rattle.type_names.specs.declared.kinds.Base.{Base}
use Rattle.type_names.specs.declared.kinds.Base.TheVariants.{Byte, Char, Double, Float, Int, Long, Short, Boolean, Class}
use Rattle.type_names.specs.declared.kinds.Erased.{Erased}
use Rattle.type_names.specs.declared.kinds.MethodKind.{MethodKind}
use Rattle.type_names.specs.Descriptors.{base, field, IsField, outcome, IsOutcome, method, IsMethod}
use Rattle.type_names.specs.Reading.{past, field_at, field_in, params_at, unless_closed, after_param, with_param, is_void, some_outcome, result_in, with_result, then_result, within_brackets, method_in}
use Rattle.type_names.proofs.FieldLaws.{some_is, found, only}
use Rattle.type_names.proofs.TextLaws.{past_some, utf8_past}
use Rattle.type_names.proofs.ParamLaws.{field_one, taken}

-- no field begins with a ')'
base_open : (b : Base) (rest : List ℕ) → past 41 (base b ++ rest) ≡ None
base_open Byte rest = refl
base_open Char rest = refl
base_open Double rest = refl
base_open Float rest = refl
base_open Int rest = refl
base_open Long rest = refl
base_open Short rest = refl
base_open Boolean rest = refl
base_open (Class name) rest = refl

field_open : (dims : ℕ) (b : Base) (rest : List ℕ) → past 41 ((replicate dims 91 ++ base b) ++ rest) ≡ None
field_open zero b rest = base_open b rest
field_open (suc n) b rest = refl

base_filled : (b : Base) → 0 < length (base b)
base_filled Byte = omega arith
base_filled Char = omega arith
base_filled Double = omega arith
base_filled Float = omega arith
base_filled Int = omega arith
base_filled Long = omega arith
base_filled Short = omega arith
base_filled Boolean = omega arith
base_filled (Class name) = omega arith

count_within : (kinds : List Erased) → length kinds ≤ length (flat_map field kinds)
count_within [] = omega arith
count_within (k ∷ ks) = omega (arith, count_within ks, base_filled k.base, ap length (flat_map-cons field k ks), length-append (field k) (flat_map field ks), length-append (replicate k.dims 91) (base k.base))

params_again : (n : ℕ) (kinds : List Erased) (tail : List ℕ) → AllByRecursion IsField kinds → length kinds < n → params_at n (flat_map field kinds ++ (41 ∷ tail)) ≡ Some (kinds, tail)
unfolding params_at
params_again zero kinds tail all lt = absurd (omega (arith, lt))
params_again (suc n) [] tail all lt = refl
params_again (suc n) (k ∷ ks) tail all lt =
    let rest = flat_map field ks ++ (41 ∷ tail) in
    let regrouped : flat_map field (k ∷ ks) ++ (41 ∷ tail) ≡ field k ++ rest = ap (λ (t : List ℕ). t ++ (41 ∷ tail)) (flat_map-cons field k ks) ∙ append_assoc (field k) (flat_map field ks) (41 ∷ tail) in
    ap (params_at (suc n)) regrouped ∙ rw (field_open k.dims k.base rest, field_one k rest all.0, params_again n ks tail all.1 (omega (arith, lt))) refl

abbrev AreParams : List ℕ → List Erased × List ℕ → Type 0
AreParams text x = AllByRecursion IsField x.0 × (text ≡ flat_map field x.0 ++ (41 ∷ x.1))

params_step : (text : List ℕ) (k : Erased × List ℕ) (r : Option (List Erased × List ℕ)) (x : List Erased × List ℕ) → field_at 0 text ≡ Some k → ((y : List Erased × List ℕ) → r ≡ Some y → AreParams k.1 y) → with_param k.0 r ≡ Some x → AreParams text x
params_step text k None x e more t = absurd cc
params_step text k (Some r) x e more t =
    let a = taken text k.0 k.1 e in
    let b = more r refl in
    let whole : text ≡ flat_map field (k.0 ∷ r.0) ++ (41 ∷ r.1) = a.0 ∙ ap (λ (u : List ℕ). field k.0 ++ u) b.1 ∙ sym (append_assoc (field k.0) (flat_map field r.0) (41 ∷ r.1)) ∙ ap (λ (u : List ℕ). u ++ (41 ∷ r.1)) (sym (flat_map-cons field k.0 r.0)) in
    subst (AreParams text) (some_is (k.0 ∷ r.0, r.1) x t) ((a.1, b.0), whole)

params_first : (text : List ℕ) (o : Option (Erased × List ℕ)) (more : List ℕ → Option (List Erased × List ℕ)) (x : List Erased × List ℕ) → field_at 0 text ≡ o → ((rest : List ℕ) (y : List Erased × List ℕ) → more rest ≡ Some y → AreParams rest y) → after_param o more ≡ Some x → AreParams text x
params_first text None more x e each t = absurd cc
params_first text (Some k) more x e each t = params_step text k (more k.1) x e (each k.1) t

params_last : (text : List ℕ) (o : Option (List ℕ)) (r : Option (List Erased × List ℕ)) (x : List Erased × List ℕ) → past 41 text ≡ o → (r ≡ Some x → AreParams text x) → unless_closed o r ≡ Some x → AreParams text x
params_last text None r x e more t = more t
params_last text (Some rest) r x e more t = subst (AreParams text) (some_is ([], rest) x t) (tt, past_some 41 text rest e)

params_take : (n : ℕ) (text : List ℕ) (x : List Erased × List ℕ) → params_at n text ≡ Some x → AreParams text x
unfolding params_at
params_take zero text x e = absurd cc
params_take (suc n) text x e = params_last text (past 41 text) _ x refl (λ t. params_first text (field_at 0 text) (λ rest. params_at n rest) x refl (λ rest y is. params_take n rest y is) t) e

-- the result
void_not : (c : ℕ) (rest : List ℕ) → eqb c 86 ≡ false → is_void (c ∷ rest) ≡ false
void_not c [] e = e
void_not c (d ∷ rest) e = refl

base_not_void : (b : Base) → is_void (base b) ≡ false
base_not_void Byte = refl
base_not_void Char = refl
base_not_void Double = refl
base_not_void Float = refl
base_not_void Int = refl
base_not_void Long = refl
base_not_void Short = refl
base_not_void Boolean = refl
base_not_void (Class name) = void_not 76 (name ++ 59 ∷ []) refl

field_not_void : (dims : ℕ) (b : Base) → is_void (replicate dims 91 ++ base b) ≡ false
field_not_void zero b = base_not_void b
field_not_void (suc n) b = void_not 91 (replicate n 91 ++ base b) refl

is_void_take : (text : List ℕ) → is_void text ≡ true → text ≡ 86 ∷ []
is_void_take [] e = absurd cc
is_void_take (c ∷ []) e = ap (λ (k : ℕ). k ∷ []) (eqb-true c 86 e)
is_void_take (c ∷ d ∷ rest) e = absurd cc

result_again : (r : Option Erased) → IsOutcome r → result_in (outcome r) ≡ Some r
result_again None fits = refl
result_again (Some kind) fits = rw (field_not_void kind.dims kind.base, only kind fits) refl

some_result : (text : List ℕ) (o : Option Erased) (r : Option Erased) → field_in text ≡ o → some_outcome o ≡ Some r → IsOutcome r × (text ≡ outcome r)
some_result text None r is e = absurd cc
some_result text (Some kind) r is e = subst (λ (q : Option Erased). IsOutcome q × (text ≡ outcome q)) (some_is (Some kind) r e) (found text kind is)

result_take : (text : List ℕ) (r : Option Erased) → result_in text ≡ Some r → IsOutcome r × (text ≡ outcome r)
result_take text r e = go (is_void text) refl e
  where
    go : (b : Bool) → is_void text ≡ b → cond b (Some None) (some_outcome (field_in text)) ≡ Some r → IsOutcome r × (text ≡ outcome r)
    go true is t = subst (λ (q : Option Erased). IsOutcome q × (text ≡ outcome q)) (some_is None r t) (tt, is_void_take text is)
    go false is t = some_result text (field_in text) r refl t

-- the whole text
pub method_is : (text inner : List ℕ) (kinds : List Erased) (tail : List ℕ) (o : Option (Option Erased)) → past 40 text ≡ Some inner → AllByRecursion IsField kinds → inner ≡ flat_map field kinds ++ (41 ∷ tail) → result_in tail ≡ o → method_in text ≡ with_result kinds o
method_is text inner kinds tail o e all is result =
    let enough : length kinds < suc (length inner) = omega (arith, count_within kinds, ap length is, length-append (flat_map field kinds) (41 ∷ tail)) in
    let read : params_at (suc (length inner)) inner ≡ Some (kinds, tail) = ap (params_at (suc (length inner))) is ∙ params_again (suc (length inner)) kinds tail all enough in
    rw (e, read, result) refl

pub method_none : (text inner : List ℕ) → past 40 text ≡ Some inner → ((kinds : List Erased) (tail : List ℕ) → AllByRecursion IsField kinds → inner ≡ flat_map field kinds ++ (41 ∷ tail) → ⊥) → method_in text ≡ None
method_none text inner e none = rw e (go (params_at (suc (length inner)) inner) refl)
  where
    go : (o : Option (List Erased × List ℕ)) → params_at (suc (length inner)) inner ≡ o → then_result o ≡ None
    go None is = refl
    go (Some x) is = let t = params_take (suc (length inner)) inner x is in absurd (none x.0 x.1 t.0 t.1)

ok_method : (text inner : List ℕ) (x : List Erased × List ℕ) (o : Option (Option Erased)) (kind : MethodKind) → past 40 text ≡ Some inner → AreParams inner x → result_in x.1 ≡ o → with_result x.0 o ≡ Some kind → IsMethod kind × (text ≡ method kind)
ok_method text inner x None kind e are is t = absurd cc
ok_method text inner x (Some r) kind e are is t =
    let end = result_take x.1 r is in
    let whole : text ≡ 40 ∷ (flat_map field x.0 ++ (41 ∷ outcome r)) = past_some 40 text inner e ∙ ap (λ (u : List ℕ). 40 ∷ u) (are.1 ∙ ap (λ (u : List ℕ). flat_map field x.0 ++ (41 ∷ u)) end.1) in
    subst (λ (k : MethodKind). IsMethod k × (text ≡ method k)) (some_is (record { params = x.0; result = r }) kind t) (record { each_param = are.0; outcome_fits = end.0 }, whole)

pub found_method : (text : List ℕ) (kind : MethodKind) → method_in text ≡ Some kind → IsMethod kind × (text ≡ method kind)
found_method text kind e = opened (past 40 text) refl e
  where
    inside : (inner : List ℕ) → past 40 text ≡ Some inner → (o : Option (List Erased × List ℕ)) → params_at (suc (length inner)) inner ≡ o → then_result o ≡ Some kind → IsMethod kind × (text ≡ method kind)
    inside inner is None read t = absurd cc
    inside inner is (Some x) read t = ok_method text inner x (result_in x.1) kind is (params_take (suc (length inner)) inner x read) refl t

    opened : (o : Option (List ℕ)) → past 40 text ≡ o → within_brackets o ≡ Some kind → IsMethod kind × (text ≡ method kind)
    opened None is t = absurd cc
    opened (Some inner) is t = inside inner is (params_at (suc (length inner)) inner) refl t

pub only_method : (kind : MethodKind) → IsMethod kind → method_in (method kind) ≡ Some kind
only_method kind fits = method_is (method kind) (flat_map field kind.params ++ (41 ∷ outcome kind.result)) kind.params (outcome kind.result) (Some kind.result) refl fits.each_param refl (result_again kind.result fits.outcome_fits)

pub is_found : {E : Type 0} (text : List ℕ) (r : Result (Option MethodKind) E) → IfOk r (λ o. o ≡ method_in text) → IfOk r (λ o. IfSome o (λ kind. IsMethod kind × (text ≡ method kind)))
is_found text (Ok None) e = tt
is_found text (Ok (Some kind)) e = found_method text kind (sym e)
is_found text (Err a) e = tt

pub is_only : {E : Type 0} (text : List ℕ) (r : Result (Option MethodKind) E) (kind : MethodKind) → IsMethod kind → text ≡ method kind → IfOk r (λ o. o ≡ method_in text) → IfOk r (λ o. o ≡ Some kind)
is_only text (Ok o) kind fits same e = e ∙ ap method_in same ∙ only_method kind fits
is_only text (Err a) kind fits same e = tt

pub read_back : {E : Type 0} (kind : MethodKind) (r : Result (List ℕ) E) → IfOk r (λ t. t ≡ method kind) → IsMethod kind → IfOk r (λ t. method_in t ≡ Some kind)
read_back kind (Ok t) e fits = ap method_in e ∙ only_method kind fits
read_back kind (Err a) e fits = tt

pub only_one : {E : Type 0} (kind : MethodKind) (r : Result (List ℕ) E) (text : List ℕ) → IfOk r (λ t. t ≡ method kind) → method_in text ≡ Some kind → IfOk r (λ t. t ≡ text)
only_one kind (Ok t) text e read = e ∙ sym (found_method text kind read).1
only_one kind (Err a) text e read = tt

-- what stands after a field is text
base_last : (b : Base) → (xs : List ℕ) × (c : ℕ) × (c < 128) × (base b ≡ xs ++ (c ∷ []))
base_last Byte = ([], 66, omega arith, refl)
base_last Char = ([], 67, omega arith, refl)
base_last Double = ([], 68, omega arith, refl)
base_last Float = ([], 70, omega arith, refl)
base_last Int = ([], 73, omega arith, refl)
base_last Long = ([], 74, omega arith, refl)
base_last Short = ([], 83, omega arith, refl)
base_last Boolean = ([], 90, omega arith, refl)
base_last (Class name) = (76 ∷ name, 59, omega arith, refl)

pub utf8_after : (rest : List ℕ) (kind : Erased) (next : List ℕ) → IsUtf8 rest → field_at 0 rest ≡ Some (kind, next) → IsUtf8 next
utf8_after rest kind next text e =
    let t = taken rest kind next e in
    let l = base_last kind.base in
    let prefix = replicate kind.dims 91 in
    let whole : rest ≡ (prefix ++ l.0) ++ (l.1 ∷ next) = t.0 ∙ ap (λ (x : List ℕ). (prefix ++ x) ++ next) l.3 ∙ ap (λ (x : List ℕ). x ++ next) (sym (append_assoc prefix l.0 (l.1 ∷ []))) ∙ append_assoc (prefix ++ l.0) (l.1 ∷ []) next in
    utf8_past (prefix ++ l.0) l.1 next rest l.2 text whole

pub no_pair : {A : Type 0} (x : A) → None ≡ Some x → ⊥
no_pair x e = cc

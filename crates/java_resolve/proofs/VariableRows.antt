-- Variables by their texts.
use Rattle.std.proofs.Common.{◌≡◌, ◌≢◌, ◌∙◌, ap, sym, refl, arith, ℕ, zero, suc, ◌<◌, ◌≤◌, ◌^◌, Bool, true, false, List, [], ◌∷◌, ◌++◌, length, slice_get, Option, Some, None, Result, Ok, Err, IfOk, IfSome, IfNone, chars, IsUtf8, if◌then◌else◌}
use Rattle.std.specs.Fmt.{decimal}
use Rattle.std.specs.Str.Parse.{ParsesUnsigned}
use Rattle.std.proofs.lemmas.Bool.{false≢true}
use Rattle.std.proofs.lemmas.List.{append_cancel_left}
use Rattle.std.proofs.lemmas.Fmt.{IsAscii-decimal, parse-decimal}
use Rattle.std.proofs.lemmas.Str.{chars-IsAscii, IsUtf8-from_ascii}
use Rattle.terms.specs.Expr.{Expr, var}
use Rattle.terms.specs.Typing.{joined}
use Rattle.terms.specs.declared.parts.Parts.{Parts}
use Rattle.java_shapes.specs.Readable.{IsReadable}
use Rattle.java_shapes.proofs.WordFacts.{variable_chars, same_variable}
use Rattle.java_shapes.proofs.Told.{same_bytes}
use Rattle.java_resolve.specs.Found.{IsFound, none, one, join, pick}
use Rattle.java_resolve.specs.Reading.{some_kind, variable_in, IsVariable, IsVariableRow}

-- numbers in decimal
chars_decimal : (n : ℕ) → n < 2 ^ 64 → chars (decimal n) ≡ decimal n
chars_decimal n l = chars-IsAscii (decimal n) (IsAscii-decimal n l)

decimal_utf8 : (n : ℕ) → n < 2 ^ 64 → IsUtf8 (decimal n)
decimal_utf8 n l = IsUtf8-from_ascii (decimal n) (IsAscii-decimal n l)

bytes_decimal : (bs : List ℕ) → IsUtf8 bs → (n : ℕ) → n < 2 ^ 64 → chars bs ≡ decimal n → bs ≡ decimal n
bytes_decimal bs u n l e = same_bytes bs (decimal n) u (decimal_utf8 n l) (e ∙ sym (chars_decimal n l))

-- a number that is read, and digits that are read as another one or as none
ok_is : (m n : ℕ) (r : Result ℕ (Unit {0})) → r ≡ Ok m → r ≡ Ok n → m ≡ n
ok_is m n r e f = let q = sym e ∙ f in cc

no_ok : (n : ℕ) (r : Result ℕ (Unit {0})) → r ≡ Err tt → r ≡ Ok n → ⊥
no_ok n r e f = let q = sym e ∙ f in absurd cc

value_small : (bs : List ℕ) (n : ℕ) → ParsesUnsigned {E = Unit {0}} 32 10 bs (Ok n) → n < 2 ^ 32
value_small bs n h = let small = h.0.1 in let is = h.1 in omega (arith, small, is)

pub value_is : (bs : List ℕ) (n : ℕ) → ParsesUnsigned {E = Unit {0}} 32 10 bs (Ok n) → bs ≡ decimal n → (n < 2 ^ 32) × (chars bs ≡ decimal n)
value_is bs n h e =
    let small = value_small bs n h in
    let wide : n < 2 ^ 64 = omega (arith, small) in
    (small, ap chars e ∙ chars_decimal n wide)

pub value_other : (bs : List ℕ) → IsUtf8 bs → (m : ℕ) → ParsesUnsigned {E = Unit {0}} 32 10 bs (Ok m) → (bs ≡ decimal m → ⊥) → (n : ℕ) → n < 2 ^ 32 → chars bs ≢ decimal n
value_other bs u m h other n l e =
    let wide : n < 2 ^ 64 = omega (arith, l) in
    let is = bytes_decimal bs u n wide e in
    other (is ∙ ap decimal (sym (ok_is m n (Ok m) refl (parse-decimal {E = Unit {0}} 32 n bs (Ok m) l wide is h))))

pub value_none : (bs : List ℕ) → IsUtf8 bs → ParsesUnsigned {E = Unit {0}} 32 10 bs (Err tt) → (n : ℕ) → n < 2 ^ 32 → chars bs ≢ decimal n
value_none bs u h n l e =
    let wide : n < 2 ^ 64 = omega (arith, l) in
    let is = bytes_decimal bs u n wide e in
    no_ok n (Err tt) refl (parse-decimal {E = Unit {0}} 32 n bs (Err tt) l wide is h)

pub number_none : (binder word digits : List ℕ) → word ≡ binder ++ digits → ((n : ℕ) → n < 2 ^ 32 → digits ≢ decimal n) → (n : ℕ) → n < 2 ^ 32 → word ≢ binder ++ decimal n
number_none binder word digits e h n l q = h n l (append_cancel_left binder digits (decimal n) (sym e ∙ q))

-- what follows from the number that an answer has
pub some_map : {E : Type 0} (P Q : ℕ → Type 0) (r : Result (Option ℕ) E) → ((n : ℕ) → P n → Q n) → IfOk r (λ o. IfSome o P) → IfOk r (λ o. IfSome o Q)
some_map P Q (Ok (Some n)) f h = f n h
some_map P Q (Ok None) f h = h
some_map P Q (Err e) f h = h

pub none_map : {E P Q : Type 0} (r : Result (Option ℕ) E) → (P → Q) → IfOk r (λ o. IfNone o P) → IfOk r (λ o. IfNone o Q)
none_map (Ok (Some n)) f h = h
none_map (Ok None) f h = f h
none_map (Err e) f h = h

-- variables are fewer than 2 ^ 32
below_length : (p : ℕ → Bool) (xs : List ℕ) (m : ℕ) → some_kind p (slice_get xs m) ≡ true → m < length xs
below_length p [] m e = absurd (false≢true e)
below_length p (x ∷ xs) zero e = omega arith
below_length p (x ∷ xs) (suc m) e = let k = below_length p xs m e in omega (arith, k)

few : (g : Parts) (ctx : List (List ℕ)) → length (joined ctx) ≤ 4294967295 → (t : List ℕ) (p : ℕ → Bool) (e : Expr) → (v : IsVariable g ctx t p e) → v.number < 2 ^ 32
few g ctx most t p e v = let m = below_length p (joined ctx) v.number v.kind in omega (arith, m, most)

number_is : (g : Parts) → IsReadable g → (ctx : List (List ℕ)) → length (joined ctx) ≤ 4294967295 → (t : List ℕ) (n : ℕ) → n < 2 ^ 32 → t ≡ chars g.binder ++ decimal n → (p : ℕ → Bool) (e : Expr) → (v : IsVariable g ctx t p e) → v.number ≡ n
number_is g readable ctx most t n l is p e v =
    let m = few g ctx most t p e v in
    let big : v.number < 10 ^ 64 = omega (arith, m) in
    let wide : n < 10 ^ 64 = omega (arith, l) in
    same_variable g v.number n readable big wide (v.text ∙ is ∙ sym (variable_chars g n readable wide))

kind_is : (g : Parts) → IsReadable g → (ctx : List (List ℕ)) → length (joined ctx) ≤ 4294967295 → (t : List ℕ) (n : ℕ) → n < 2 ^ 32 → t ≡ chars g.binder ++ decimal n → (p : ℕ → Bool) (e : Expr) → (v : IsVariable g ctx t p e) → some_kind p (slice_get (joined ctx) n) ≡ true
kind_is g readable ctx most t n l is p e v = ap (λ m. some_kind p (slice_get (joined ctx) m)) (sym (number_is g readable ctx most t n l is p e v)) ∙ v.kind

one_variable : (g : Parts) → IsReadable g → (ctx : List (List ℕ)) → length (joined ctx) ≤ 4294967295 → (t : List ℕ) (n : ℕ) → n < 2 ^ 32 → t ≡ chars g.binder ++ decimal n → (a : ℕ) → slice_get (joined ctx) n ≡ Some a → (p : ℕ → Bool) (b : Bool) → p a ≡ b → IsFound (IsVariable g ctx t p) (join (if b then one (var n) else none) none)
unfolding IsFound
one_variable g readable ctx most t n l is a s p true e =
    let wide : n < 10 ^ 64 = omega (arith, l) in
    (record { number = n; is = refl; kind = ap (some_kind p) s ∙ e; text = variable_chars g n readable wide ∙ sym is }, λ x v. v.is ∙ ap var (number_is g readable ctx most t n l is p x v))
one_variable g readable ctx most t n l is a s p false e = λ x v. false≢true (sym e ∙ sym (ap (some_kind p) s) ∙ kind_is g readable ctx most t n l is p x v)

variable_by : (g : Parts) → IsReadable g → (ctx : List (List ℕ)) → length (joined ctx) ≤ 4294967295 → (t : List ℕ) (n : ℕ) → n < 2 ^ 32 → t ≡ chars g.binder ++ decimal n → (o : Option ℕ) → slice_get (joined ctx) n ≡ o → IsVariableRow g ctx t (variable_in n o)
unfolding IsFound pick
variable_by g readable ctx most t n l is None s = λ p x v. false≢true (sym (ap (some_kind p) s) ∙ kind_is g readable ctx most t n l is p x v)
variable_by g readable ctx most t n l is (Some a) s = λ p. one_variable g readable ctx most t n l is a s p (p a) refl

pub variable_right : (g : Parts) → IsReadable g → (ctx : List (List ℕ)) → length (joined ctx) ≤ 4294967295 → (t : List ℕ) (n : ℕ) → n < 2 ^ 32 → t ≡ chars g.binder ++ decimal n → IsVariableRow g ctx t (variable_in n (slice_get (joined ctx) n))
variable_right g readable ctx most t n l is = variable_by g readable ctx most t n l is (slice_get (joined ctx) n) refl

pub no_variable : (g : Parts) → IsReadable g → (ctx : List (List ℕ)) → length (joined ctx) ≤ 4294967295 → (t : List ℕ) → ((n : ℕ) → n < 2 ^ 32 → t ≢ chars g.binder ++ decimal n) → IsVariableRow g ctx t []
unfolding IsFound pick
no_variable g readable ctx most t other = λ p x v.
    let m = few g ctx most t p x v in
    let big : v.number < 10 ^ 64 = omega (arith, m) in
    other v.number m (sym v.text ∙ variable_chars g v.number readable big)

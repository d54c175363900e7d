-- A descriptor tells its type.
use Rattle.std.proofs.lemmas.Slice.Eq.{bytes_eq-Decides}
use Rattle.std.specs.Prelude.{Bool, true, false, bytes_eq}
use Rattle.std.proofs.Common.{◌≡◌, ◌∙◌, ap, sym, refl, arith, ℕ, zero, suc, ◌-◌, ◌==◌, if◌then◌else◌, List, [], ◌∷◌, ◌++◌, length, length-append, take, drop, replicate, get_or}
use Rattle.type_names.specs.declared.kinds.Base.{Base}
use Rattle.type_names.specs.declared.kinds.Base.TheVariants.{Byte, Char, Double, Float, Int, Long, Short, Boolean, Class}
use Rattle.type_names.specs.declared.kinds.Erased.{Erased}
use Rattle.type_names.specs.Descriptors.{base, field}

back : List ℕ → Base
back [] = Byte
back (c ∷ cs) =
    if c == 66 then Byte else if c == 67 then Char else if c == 68 then Double else if c == 70 then Float else if c == 73 then Int
    else if c == 74 then Long else if c == 83 then Short else if c == 90 then Boolean else Class (take (length cs - 1) cs)

take-prefix : (xs ys : List ℕ) → take (length xs) (xs ++ ys) ≡ xs
take-prefix [] [] = refl
take-prefix [] (y ∷ ys) = refl
take-prefix (x ∷ xs) ys = ap (λ z. x ∷ z) (take-prefix xs ys)

back-base : (p : Base) → back (base p) ≡ p
unfolding back
back-base Byte = refl
back-base Char = refl
back-base Double = refl
back-base Float = refl
back-base Int = refl
back-base Long = refl
back-base Short = refl
back-base Boolean = refl
back-base (Class name) =
    let e : length (name ++ 59 ∷ []) - 1 ≡ length name = omega (arith, length-append name (59 ∷ [])) in
    ap Class (ap (λ n. take n (name ++ 59 ∷ [])) e ∙ take-prefix name (59 ∷ []))

apart : (a b : ℕ) (xs ys : List ℕ) → a ∷ xs ≡ b ∷ ys → a ≡ b
apart a b xs ys e = ap (λ z. get_or z 0 0) e

no-bracket : (p : Base) (xs : List ℕ) → base p ≡ 91 ∷ xs → ⊥
no-bracket Byte xs e = let h = apart 66 91 _ xs e in omega (arith, h)
no-bracket Char xs e = let h = apart 67 91 _ xs e in omega (arith, h)
no-bracket Double xs e = let h = apart 68 91 _ xs e in omega (arith, h)
no-bracket Float xs e = let h = apart 70 91 _ xs e in omega (arith, h)
no-bracket Int xs e = let h = apart 73 91 _ xs e in omega (arith, h)
no-bracket Long xs e = let h = apart 74 91 _ xs e in omega (arith, h)
no-bracket Short xs e = let h = apart 83 91 _ xs e in omega (arith, h)
no-bracket Boolean xs e = let h = apart 90 91 _ xs e in omega (arith, h)
no-bracket (Class name) xs e = let h = apart 76 91 _ xs e in omega (arith, h)

dims-one : (n m : ℕ) (p q : Base) → replicate n 91 ++ base p ≡ replicate m 91 ++ base q → (n ≡ m) × (base p ≡ base q)
dims-one zero zero p q e = (refl, e)
dims-one zero (suc m) p q e = absurd (no-bracket p (replicate m 91 ++ base q) e)
dims-one (suc n) zero p q e = absurd (no-bracket q (replicate n 91 ++ base p) (sym e))
dims-one (suc n) (suc m) p q e = let r = dims-one n m p q (ap (drop 1) e) in (ap suc r.0, r.1)

abbrev typed : ℕ → Base → Erased
typed n p = record { dims = n; base = p }

made : (n m : ℕ) (p q : Base) → n ≡ m → p ≡ q → typed n p ≡ typed m q
made n m p q e f = cc

pub base-one : (p q : Base) → base p ≡ base q → p ≡ q
base-one p q e = sym (back-base p) ∙ ap back e ∙ back-base q

pub field-one : (a b : Erased) → field a ≡ field b → a ≡ b
field-one a b e =
    let r = dims-one a.dims b.dims a.base b.base e in
    let q : a.base ≡ b.base = sym (back-base a.base) ∙ ap back r.1 ∙ back-base b.base in
    made a.dims b.dims a.base b.base r.0 q

apart-by : (a b : Bool) → (b ≡ true → a ≡ true) → a ≡ false → a ≡ b
apart-by a true f e = f refl
apart-by a false f e = e

-- types are the same where their descriptors are
pub same-by : (a b : Erased) (r : Bool) → ((r ≡ true → a ≡ b) × (a ≡ b → r ≡ true)) → r ≡ bytes_eq (field a) (field b)
same-by a b true f = sym ((bytes_eq-Decides (field a) (field b)).1 (ap field (f.0 refl)))
same-by a b false f = apart-by false (bytes_eq (field a) (field b)) (λ e. f.1 (field-one a b ((bytes_eq-Decides (field a) (field b)).0 e))) refl

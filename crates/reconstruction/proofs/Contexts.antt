-- The rows of the lambdas around a place, and one lambda more.
use Rattle.std.proofs.Common.{◌≡◌, ◌≢◌, ℕ, zero, suc, ◌+◌, ◌≤◌, [], ◌∷◌, ◌++◌, length, slice_get, refl, ap, ◌∙◌, arith}
use Rattle.terms.specs.Faults.{IsValid}
use Rattle.terms.specs.Typing.{most_rows}
use Rattle.terms.specs.declared.parts.Parts.{Parts}
use Rattle.terms.proofs.Valid.{valid-depth}
use Rattle.reconstruction.specs.NumberedPlaces.{row_of_decl, types_of, rows_by, rows_at, with_number, with_lambda}
use Rattle.reconstruction.specs.declared.numbered_place.Lambdas.{Lambdas}

-- rows and nested lambdas are few
pub valid-rows : (g : Parts) → IsValid g → g.depth ≤ most_rows
valid-rows g valid = (let flat = valid-depth g valid in omega (arith, flat))

-- a zero ends the rows
pub no-rows : (g : Parts) (a b c : ℕ) → a ≡ 0 → [] ≡ rows_by g a b c
no-rows g zero b c h = refl
no-rows g (suc a) b c h = absurd (omega (arith, h))

pub one-row : (g : Parts) (a b c : ℕ) → a ≢ 0 → b ≡ 0 → types_of g a ∷ [] ≡ rows_by g a b c
one-row g zero b c h z = absurd (h refl)
one-row g (suc a) zero c h z = refl
one-row g (suc a) (suc b) c h z = absurd (omega (arith, z))

pub two-rows : (g : Parts) (a b c : ℕ) → a ≢ 0 → b ≢ 0 → c ≡ 0 → types_of g a ∷ types_of g b ∷ [] ≡ rows_by g a b c
two-rows g zero b c h k z = absurd (h refl)
two-rows g (suc a) zero c h k z = absurd (k refl)
two-rows g (suc a) (suc b) zero h k z = refl
two-rows g (suc a) (suc b) (suc c) h k z = absurd (omega (arith, z))

pub three-rows : (g : Parts) (a b c : ℕ) → a ≢ 0 → b ≢ 0 → c ≢ 0 → types_of g a ∷ types_of g b ∷ types_of g c ∷ [] ≡ rows_by g a b c
three-rows g zero b c h k l = absurd (h refl)
three-rows g (suc a) zero c h k l = absurd (k refl)
three-rows g (suc a) (suc b) zero h k l = absurd (l refl)
three-rows g (suc a) (suc b) (suc c) h k l = refl

-- a number behind the last that isn't zero
pub with-first : (a b c n : ℕ) → a ≡ 0 → record { first = n; second = 0; third = 0 } ≡ with_number a b c n
with-first zero b c n h = refl
with-first (suc a) b c n h = absurd (omega (arith, h))

pub with-second : (a b c n : ℕ) → a ≢ 0 → b ≡ 0 → record { first = a; second = n; third = 0 } ≡ with_number a b c n
with-second zero b c n h z = absurd (h refl)
with-second (suc a) zero c n h z = refl
with-second (suc a) (suc b) c n h z = absurd (omega (arith, z))

pub with-third : (a b c n : ℕ) → a ≢ 0 → b ≢ 0 → record { first = a; second = b; third = n } ≡ with_number a b c n
with-third zero b c n h k = absurd (h refl)
with-third (suc a) zero c n h k = absurd (k refl)
with-third (suc a) (suc b) c n h k = refl

more-by : (g : Parts) (a b c k : ℕ) → length (rows_by g a b c) ≤ 2 → rows_at g (with_number a b c (suc k)) ≡ rows_by g a b c ++ row_of_decl (slice_get g.decls k) ∷ []
more-by g zero b c k h = refl
more-by g (suc a) zero c k h = refl
more-by g (suc a) (suc b) zero k h = refl
more-by g (suc a) (suc b) (suc c) k h = absurd (omega (arith, h))

-- the row of one lambda more stands behind the others
pub rows-more : (g : Parts) (l : Lambdas) (k : ℕ) → length (rows_at g l) ≤ 2 → rows_at g (with_lambda l k) ≡ rows_at g l ++ row_of_decl (slice_get g.decls k) ∷ []
rows-more g l k h = let e : k + 1 ≡ suc k = omega arith in ap (λ n. rows_at g (with_number l.first l.second l.third n)) e ∙ more-by g l.first l.second l.third k h

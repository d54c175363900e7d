-- What the weights of an environment are, and what so many binders weigh together.
use Rattle.std.proofs.Common.{◌≡◌, ℕ, zero, suc, ◌+◌, ◌-◌, ◌*◌, ◌≤◌, ◌<◌, ◌==◌, if◌then◌else◌, Bool, true, false, Some, refl, ap, ◌∙◌, arith}
use Rattle.std.proofs.Math.Nat.{suc-mul, mul-le-mul_left}
use Rattle.terms.specs.Weights.{variable_weight, binder_weight, coercion_weight, sum_of_equal, binders_weight, step_in}
use Rattle.terms.specs.Faults.{IsValid}
use Rattle.terms.specs.declared.parts.Parts.{Parts}
use Rattle.terms.proofs.Valid.{valid-steps}

-- a use of a variable, a binder and a coercion weigh something
pub variable-weighs : (g : Parts) → IsValid g → 1 ≤ variable_weight g
unfolding variable_weight
variable-weighs g valid = (valid-steps g valid).bound.0

binder-weighs : (g : Parts) → IsValid g → 1 ≤ binder_weight g
unfolding binder_weight
binder-weighs g valid = (valid-steps g valid).binder.0

pub coercion-weighs : (g : Parts) → IsValid g → 1 ≤ coercion_weight g
unfolding coercion_weight
coercion-weighs g valid = (valid-steps g valid).step.0

-- a use of a variable and a coercion weigh so much at most that sums within a limit fit the code's numbers
pub variable-most : (g : Parts) → IsValid g → variable_weight g ≤ 100
unfolding variable_weight
variable-most g valid = (valid-steps g valid).bound.1

pub coercion-most : (g : Parts) → IsValid g → coercion_weight g ≤ 10000
unfolding coercion_weight
coercion-most g valid = (valid-steps g valid).step.1

-- nothing, or what a coercion weighs
pub step-most : (g : Parts) (a b : ℕ) → step_in g (Some a) b ≤ coercion_weight g
step-most g a b = go (a == b)
  where
    go : (t : Bool) → (if t then 0 else coercion_weight g) ≤ coercion_weight g
    go true = omega arith
    go false = omega arith

sum-more : (w m n : ℕ) → sum_of_equal w (m + n) ≡ sum_of_equal w m + sum_of_equal w n
unfolding sum_of_equal
sum-more w zero n = (let e : 0 + n ≡ n = omega arith in ap (sum_of_equal w) e ∙ omega arith)
sum-more w (suc m) n =
    let e : suc m + n ≡ suc (m + n) = omega arith in
    let first : sum_of_equal w (suc m + n) ≡ w + sum_of_equal w (m + n) = ap (sum_of_equal w) e in
    omega (arith, first, sum-more w m n)

pub binders_weight-none : (g : Parts) → binders_weight g 0 ≡ 0
unfolding sum_of_equal
binders_weight-none g = refl

-- binders weigh together what some of them and the others do
pub binders_weight-more : (g : Parts) (m n : ℕ) → binders_weight g (m + n) ≡ binders_weight g m + binders_weight g n
binders_weight-more g m n = sum-more (binder_weight g) m n

-- more binders weigh no less
pub binders_weight-rises : (g : Parts) (m n : ℕ) → m ≤ n → binders_weight g m ≤ binders_weight g n
binders_weight-rises g m n low =
    let e : n ≡ m + (n - m) = omega (arith, low) in
    let all : binders_weight g n ≡ binders_weight g (m + (n - m)) = ap (binders_weight g) e in
    omega (arith, all, binders_weight-more g m (n - m))

sum-most : (w n : ℕ) → 1 ≤ w → n ≤ sum_of_equal w n
unfolding sum_of_equal
sum-most w zero one = omega arith
sum-most w (suc n) one = omega (arith, one, sum-most w n one)

-- each binder weighs something
pub binders_weight-most : (g : Parts) → IsValid g → (n : ℕ) → n ≤ binders_weight g n
binders_weight-most g valid n = sum-most (binder_weight g) n (binder-weighs g valid)

sum-times : (w n : ℕ) → n * w ≡ sum_of_equal w n
unfolding sum_of_equal
sum-times w zero = omega arith
sum-times w (suc n) = suc-mul n w ∙ omega (arith, sum-times w n)

-- what so many weigh is a product
pub binders_weight-times : (g : Parts) (n w : ℕ) → w ≡ binder_weight g → n * w ≡ binders_weight g n
binders_weight-times g n w e = rw e (sum-times (binder_weight g) n)

-- which is small enough for the code's numbers
pub times-fits : (n w : ℕ) → n < 18446744073709551616 → w < 4294967296 → n * w < 340282366920938463463374607431768211456
times-fits n w few light =
    let most : n * w ≤ n * 4294967295 = mul-le-mul_left n (omega (arith, light)) in
    omega (arith, most, few)

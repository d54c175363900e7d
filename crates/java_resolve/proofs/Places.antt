-- The steps of the code's places.
use Rattle.std.proofs.Common.{◌≡◌, ◌∙◌, ap, ap₂, sym, refl, arith, ℕ, suc, ◌-◌, ◌≤◌, List, [], ◌∷◌, length, take, drop, get_or, Option, None, Result, Ok, Err, IfOk}
use Rattle.std.proofs.Math.Seq.{take-length}
use Rattle.java_shapes.specs.Reader.{Around, Part, step, due, ended}
use Rattle.java_resolve.specs.declared.place.Place.{Place}
use Rattle.java_resolve.specs.declared.place.Spot.{Spot}
use Rattle.java_resolve.specs.View.{place_part, spot_option, due_all}

-- no expression ends where a character is due
pub due_never : (ks : List ℕ) (q : Part) → 1 ≤ length ks → None ≡ ended (due_all ks q)
due_never [] q l = absurd (omega arith)
due_never (k ∷ ks) q l = refl

-- the step of a place that is this one
pub step_at : {E : Type 0} (r : Result (Option Spot) E) (p : List ℕ) (a b : Around) (c : Option (List ℕ)) (x y : Place) (k : ℕ) → y ≡ x → IfOk r (λ s. spot_option b s ≡ step p (place_part a c x) k) → IfOk r (λ s. spot_option b s ≡ step p (place_part a c y) k)
step_at (Ok s) p a b c x y k e h = h ∙ sym (ap (λ z. step p (place_part a c z) k) e)
step_at (Err f) p a b c x y k e h = h

less_one : (n : ℕ) → suc n - 1 ≡ n
less_one n = omega arith

-- the characters that are due: the first, and the others
pub due_first : (ks : List ℕ) (k : ℕ) (q : Part) → 1 ≤ length ks → k ≡ get_or ks 0 k → due k (due_all (take (length ks - 1) (drop 1 ks)) q) ≡ due_all ks q
due_first [] k q l e = absurd (omega arith)
due_first (j ∷ ks) k q l e = ap₂ (λ x y. due x (due_all y q)) e (ap (λ n. take n ks) (less_one (length ks)) ∙ take-length ks)

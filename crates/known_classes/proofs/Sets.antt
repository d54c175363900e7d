-- Outside a set of names that is closed under nesting, canonical names stay.
use Rattle.std.proofs.Common.{◌≡◌, ◌∙◌, ap, sym, refl, arith, ℕ, zero, suc, ◌+◌, Bool, true, false, cond, List, length, bytes_eq, Option, Some, None}
use Rattle.known_classes.specs.declared.summary.ClassSummary.{ClassSummary}
use Rattle.known_classes.specs.Known.{class_named, nesting_at, simple_in, outer_of, comes_to, cycles, dotted, nested_name, canonical_by, canonical}
use Rattle.known_classes.specs.Alike.{simple_of, IsNestedSet}
use Rattle.known_classes.proofs.Ways.{no-true, cycles-any}
use Rattle.known_classes.proofs.CanonicalLaws.{nested-same, canon-any}

pub outside : (b : Bool) → (b ≡ true → ⊥) → b ≡ false
outside true f = absurd (f refl)
outside false f = refl

-- none, or a name that isn't touched
IsOut : (List ℕ → Bool) → Option (List ℕ) → Type 0
IsOut touched o = (x : List ℕ) → o ≡ Some x → touched x ≡ false

next-out : (old new : List ClassSummary) (touched : List ℕ → Bool) → IsNestedSet old new touched → (x : List ℕ) → touched x ≡ false → IsOut touched (outer_of old x)
unfolding IsOut
next-out old new touched h x e y g = outside (touched y) (λ t. no-true (sym e ∙ h.closed x y g t))

comes-alike : (k : ℕ) (old new : List ClassSummary) (touched : List ℕ → Bool) → IsNestedSet old new touched → (n : List ℕ) (o : Option (List ℕ)) → IsOut touched o → comes_to k new n o ≡ comes_to k old n o
unfolding comes_to IsOut
comes-alike zero old new touched h n o f = refl
comes-alike (suc k) old new touched h n None f = refl
comes-alike (suc k) old new touched h n (Some x) f =
    let e = f x refl in
    ap (cond (bytes_eq n x) true) (ap (comes_to k new n) (h.same x e).outer ∙ comes-alike k old new touched h n (outer_of old x) (next-out old new touched h x e))

cycles-alike : (old new : List ClassSummary) (touched : List ℕ → Bool) → IsNestedSet old new touched → (x : List ℕ) → touched x ≡ false → cycles new x ≡ cycles old x
cycles-alike old new touched h x e =
    let k = length new + length old in
    sym (cycles-any k new x (omega arith))
    ∙ ap (comes_to k new x) (h.same x e).outer
    ∙ comes-alike k old new touched h x (outer_of old x) (next-out old new touched h x e)
    ∙ cycles-any k old x (omega arith)

canon-alike : (k : ℕ) (old new : List ClassSummary) (touched : List ℕ → Bool) → IsNestedSet old new touched → (x : List ℕ) → touched x ≡ false → canonical_by k new x ≡ canonical_by k old x
unfolding canonical_by IsOut
canon-alike zero old new touched h x e = refl
canon-alike (suc k) old new touched h x e =
    ap (λ b. cond b (dotted x) (nested_name (outer_of new x) (simple_in (nesting_at (class_named new x))) (λ o. canonical_by k new o) (dotted x))) (cycles-alike old new touched h x e)
    ∙ ap (cond (cycles old x) (dotted x)) (ap (λ z. nested_name z (simple_of new x) (λ o. canonical_by k new o) (dotted x)) (h.same x e).outer
    ∙ ap (λ z. nested_name (outer_of old x) z (λ o. canonical_by k new o) (dotted x)) (h.same x e).simple
    ∙ nested-same (outer_of old x) (simple_of old x) (λ o. canonical_by k new o) (λ o. canonical_by k old o) (dotted x) (λ y g. canon-alike k old new touched h y (next-out old new touched h x e y g)))

pub set-names : (old new : List ClassSummary) (touched : List ℕ → Bool) (n : List ℕ) → IsNestedSet old new touched → touched n ≡ false → canonical new n ≡ canonical old n
set-names old new touched n h e =
    let k = length new + length old in
    sym (canon-any k new n (omega arith)) ∙ canon-alike k old new touched h n e ∙ canon-any k old n (omega arith)

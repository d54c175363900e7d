-- Two lists that say the same of the supers of all that a class reaches give it the same ancestors.
use Rattle.graphs.proofs.Paths.{one-step, step-then, then-step, along}
use Rattle.graphs.proofs.Elements.{none_in}
use Rattle.graphs.specs.Paths.{IsPathBy, Leads}
use Rattle.std.proofs.Common.{◌≡◌, ◌∙◌, ap, sym, subst, refl, ℕ, Bool, true, false, List, [], ◌∷◌, ◌⊎◌, inl, inr, Contains}
use Rattle.known_classes.specs.declared.summary.ClassSummary.{ClassSummary}
use Rattle.known_classes.specs.Merging.{merged}
use Rattle.type_names.specs.Names.{object_name}
use Rattle.subtyping.specs.Steps.{supers_in, supers_of, IsSuper, IsSuperStep}
use Rattle.subtyping.specs.Alike.{SupersAlike, Unraised, IsClear, IsRowKept, IsRaisedSet}
use Rattle.known_classes.proofs.Ways.{no-true}
use Rattle.known_classes.proofs.Sets.{outside}
use Rattle.known_classes.proofs.Merges.{kept-class}

Reached : List ClassSummary → List ℕ → List ℕ → Type 0
Reached old a x = (x ≡ a) ⊎ Leads (IsSuper old) a x

further : (old : List ClassSummary) (a x y : List ℕ) → Reached old a x → IsSuper old x y → Reached old a y
unfolding Reached
further old a x y (inl e) s = inr (one-step (IsSuper old) a y (subst (λ z. IsSuper old z y) e s))
further old a x y (inr p) s = inr (then-step (IsSuper old) a x y p s)

super-back : (old new : List ClassSummary) (a : List ℕ) → SupersAlike old new a → (x y : List ℕ) → Reached old a x → IsSuper new x y → IsSuper old x y
unfolding Reached
super-back old new a h x y r s = subst (λ z. Contains z y) (h x r) s

super-on : (old new : List ClassSummary) (a : List ℕ) → SupersAlike old new a → (x y : List ℕ) → Reached old a x → IsSuper old x y → IsSuper new x y
unfolding Reached
super-on old new a h x y r s = subst (λ z. Contains z y) (sym (h x r)) s

lead-back : (old new : List ClassSummary) (a : List ℕ) → SupersAlike old new a → (x y : List ℕ) → Reached old a x → Leads (IsSuper new) x y → Leads (IsSuper old) x y
lead-back old new a h x y r p = (p.0, along (Reached old a) (IsSuper new) (IsSuper old) (super-back old new a h) (λ u v q s. further old a u v q (super-back old new a h u v q s)) x p.0 y r p.1)

lead-on : (old new : List ClassSummary) (a : List ℕ) → SupersAlike old new a → (x y : List ℕ) → Reached old a x → Leads (IsSuper old) x y → Leads (IsSuper new) x y
lead-on old new a h x y r p = (p.0, along (Reached old a) (IsSuper old) (IsSuper new) (super-on old new a h) (λ u v q s. further old a u v q s) x p.0 y r p.1)

step-back : (old new : List ClassSummary) (a : List ℕ) → SupersAlike old new a → (x y : List ℕ) → Reached old a x → IsSuperStep new x y → IsSuperStep old x y
step-back old new a h x y r s =
    let t = super-back old new a h x y r s.1 in
    (s.0, t, λ p. s.2 (lead-on old new a h y x (further old a x y r t) p))

step-on : (old new : List ClassSummary) (a : List ℕ) → SupersAlike old new a → (x y : List ℕ) → Reached old a x → IsSuperStep old x y → IsSuperStep new x y
step-on old new a h x y r s = (s.0, super-on old new a h x y r s.1, λ p. s.2 (lead-back old new a h y x (further old a x y r s.1) p))

pub above-back : (old new : List ClassSummary) (a b : List ℕ) → SupersAlike old new a → Leads (IsSuperStep new) a b → Leads (IsSuperStep old) a b
unfolding Reached
above-back old new a b h p = (p.0, along (Reached old a) (IsSuperStep new) (IsSuperStep old) (step-back old new a h) (λ u v q s. further old a u v q (step-back old new a h u v q s).1) a p.0 b (inl refl) p.1)

pub above-on : (old new : List ClassSummary) (a b : List ℕ) → SupersAlike old new a → Leads (IsSuperStep old) a b → Leads (IsSuperStep new) a b
unfolding Reached
above-on old new a b h p = (p.0, along (Reached old a) (IsSuperStep old) (IsSuperStep new) (step-on old new a h) (λ u v q s. further old a u v q s.1) a p.0 b (inl refl) p.1)

pub merged-above : (base extra : List ClassSummary) (a : List ℕ) → Unraised base extra a → SupersAlike base (merged base extra) a
merged-above base extra a h c r = ap supers_in (kept-class base extra c (h c r))

-- outside a set that is closed under supers
still-out : (touched : List ℕ → Bool) (n o : List ℕ) → (touched o ≡ true → touched n ≡ true) → touched n ≡ false → touched o ≡ false
still-out touched n o f e = outside (touched o) (λ h. no-true (sym e ∙ f h))

up-all : (old new : List ClassSummary) (touched : List ℕ → Bool) → IsRaisedSet old new touched → (a : List ℕ) (via : List (List ℕ)) (c : List ℕ) → touched a ≡ false → IsPathBy (IsSuper old) a via c → touched c ≡ false
unfolding IsPathBy
up-all old new touched h a [] c e p = still-out touched a c (h.closed a c p) e
up-all old new touched h a (b ∷ via) c e p = up-all old new touched h b via c (still-out touched a b (h.closed a b p.0) e) p.1

pub set-supers : (old new : List ClassSummary) (touched : List ℕ → Bool) (n : List ℕ) → IsRaisedSet old new touched → touched n ≡ false → SupersAlike old new n
set-supers old new touched n h e c (inl q) = h.same c (subst (λ z. touched z ≡ false) (sym q) e)
set-supers old new touched n h e c (inr p) = h.same c (up-all old new touched h n p.0 c e p.1)

-- with no cycle, and nothing above Object, each recorded super counts
step-up : (cs : List ClassSummary) → IsClear cs → (x y : List ℕ) → IsSuper cs x y → IsSuperStep cs x y
step-up cs h x y s =
    let o : (x ≡ object_name → ⊥) = (λ e. none_in y (subst (λ z. Contains z y) (ap (supers_of cs) e ∙ h.top) s)) in
    (o, s, λ p. h.cycles x o (step-then (IsSuper cs) x y x s p))

path-up : (cs : List ClassSummary) → IsClear cs → (a : List ℕ) (via : List (List ℕ)) (b : List ℕ) → IsPathBy (IsSuper cs) a via b → IsPathBy (IsSuperStep cs) a via b
unfolding IsPathBy
path-up cs h a [] b p = step-up cs h a b p
path-up cs h a (c ∷ via) b p = (step-up cs h a c p.0, path-up cs h c via b p.1)

pub kept-rows : (base extra : List ClassSummary) (a : List ℕ) → IsClear base → IsRowKept base extra a → Unraised base extra a
kept-rows base extra a h k c (inl e) = k c (inl e)
kept-rows base extra a h k c (inr p) = k c (inr (p.0, path-up base h a p.0 c p.1))

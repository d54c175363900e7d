-- A new cycle passes through a class that was put in.
use Rattle.graphs.proofs.Paths.{leads-join, then-step}
use Rattle.graphs.specs.Paths.{IsPathBy, Leads}
use Rattle.std.proofs.Common.{◌≡◌, suc, Bool, true, false, cond, List, [], ◌∷◌, ◌++◌, map, Option, Some, None, refl, sym, subst, ◌∙◌, ◌⊎◌, inl, inr}
use Rattle.std.specs.Prelude.{bytes_eq}
use Rattle.known_classes.specs.declared.summary.ClassSummary.{ClassSummary}
use Rattle.known_classes.specs.Known.{class_named}
use Rattle.decl_index.specs.History.{Name, put, remove, decided}
use Rattle.type_names.specs.Names.{object_name}
use Rattle.decl_index.specs.Refusals.{supers_of, outers_of, Steps, ReachesItself, HasNoCycle}
use Rattle.decl_index.specs.Places.{told_or, Leaves}
use Rattle.decl_index.specs.Changed.{Each, AvoidsItself, IsFree}
use Rattle.decl_index.proofs.Names.{same-true}
use Rattle.decl_index.proofs.Places.{or_assoc, told_append}

-- What was there stays, or a class that was put in is there.
abbrev IsToldBy : (ClassSummary → Type 0) → Name → Option ClassSummary → Option ClassSummary → Type 0
IsToldBy P n new old = (new ≡ old) ⊎ ((c : ClassSummary) × ((new ≡ Some c) × ((c.name ≡ n) × P c)))

put_by : (P : ClassSummary → Type 0) (b : Bool) (n : Name) (c : ClassSummary) (d : Option ClassSummary) → bytes_eq n c.name ≡ b → P c → IsToldBy P n (told_or (cond b (Some (Some c)) None) d) d
put_by P true n c d e p = inr (c, (refl, (same-true c.name n e, p)))
put_by P false n c d e p = inl refl

told_on : (P : ClassSummary → Type 0) (n : Name) (new middle old : Option ClassSummary) → IsToldBy P n new middle → IsToldBy P n middle old → IsToldBy P n new old
told_on P n new middle old (inr h) k = inr h
told_on P n new middle old (inl e) (inl f) = inl (e ∙ f)
told_on P n new middle old (inl e) (inr h) = inr (h.0, (e ∙ h.1.0, h.1.1))

pub told_puts : (P : ClassSummary → Type 0) (n : Name) (puts : List ClassSummary) (d : Option ClassSummary) → Each P puts → IsToldBy P n (told_or (decided n (map put puts)) d) d
unfolding decided
told_puts P n [] d h = inl refl
told_puts P n (c ∷ cs) d h =
    let first : told_or (decided n (map put (c ∷ cs))) d ≡ told_or (decided n (map put cs)) (told_or (cond (bytes_eq n c.name) (Some (Some c)) None) d) = or_assoc (decided n (map put cs)) (cond (bytes_eq n c.name) (Some (Some c)) None) d in
    subst (λ o. IsToldBy P n o d) (sym first)
    (told_on P n _ (told_or (cond (bytes_eq n c.name) (Some (Some c)) None) d) d (told_puts P n cs (told_or (cond (bytes_eq n c.name) (Some (Some c)) None) d) (λ i x e. h (suc i) x e)) (put_by P (bytes_eq n c.name) n c d refl (h 0 c refl)))

remove_by : (b : Bool) (new d : Option ClassSummary) → (new ≡ told_or (cond b (Some None) None) d) ⊎ (new ≡ None) → (new ≡ d) ⊎ (new ≡ None)
remove_by b new d (inr e) = inr e
remove_by true new d (inl e) = inr e
remove_by false new d (inl e) = inl e

told_removes : (n : Name) (removes : List Name) (d : Option ClassSummary) → (told_or (decided n (map remove removes)) d ≡ d) ⊎ (told_or (decided n (map remove removes)) d ≡ None)
unfolding decided
told_removes n [] d = inl refl
told_removes n (m ∷ ms) d =
    let first : told_or (decided n (map remove (m ∷ ms))) d ≡ told_or (decided n (map remove ms)) (told_or (cond (bytes_eq n m) (Some None) None) d) = or_assoc (decided n (map remove ms)) (cond (bytes_eq n m) (Some None) None) d in
    subst (λ o. (o ≡ d) ⊎ (o ≡ None)) (sym first) (remove_by (bytes_eq n m) _ d (told_removes n ms (told_or (cond (bytes_eq n m) (Some None) None) d)))

was_there : (P : ClassSummary → Type 0) (n : Name) (c : ClassSummary) (new middle old : Option ClassSummary) → new ≡ Some c → IsToldBy P n new middle → (middle ≡ old) ⊎ (middle ≡ None) → (old ≡ Some c) ⊎ ((c.name ≡ n) × P c)
was_there P n c new middle old e (inr h) k = let known : new ≡ Some h.0 = h.1.0 in let one : h.0 ≡ c = cc in inr (subst (λ x. (x.name ≡ n) × P x) one h.1.1)
was_there P n c new middle old e (inl f) (inl g) = inl (sym g ∙ sym f ∙ e)
was_there P n c new middle old e (inl f) (inr g) = let none : new ≡ None = f ∙ g in absurd cc

-- A class was there, or it was put in.
pub kept : (P : ClassSummary → Type 0) (removes : List Name) (puts old new : List ClassSummary) → Leaves (map remove removes ++ map put puts) old new → Each P puts → (n : Name) (c : ClassSummary) → class_named new n ≡ Some c → (class_named old n ≡ Some c) ⊎ ((c.name ≡ n) × P c)
kept P removes puts old new l h n c e =
    let all : class_named new n ≡ told_or (decided n (map put puts)) (told_or (decided n (map remove removes)) (class_named old n)) = l.each n ∙ told_append n (map remove removes) (map put puts) (class_named old n) in
    was_there P n c (class_named new n) (told_or (decided n (map remove removes)) (class_named old n)) (class_named old n) e
    (subst (λ o. IsToldBy P n o (told_or (decided n (map remove removes)) (class_named old n))) (sym all) (told_puts P n puts (told_or (decided n (map remove removes)) (class_named old n)) h))
    (told_removes n removes (class_named old n))

-- Each class was there, or it doesn't reach itself.
abbrev AreKept : (ClassSummary → List Name) → List ClassSummary → List ClassSummary → Type 0
AreKept to old new = (n : Name) (c : ClassSummary) → class_named new n ≡ Some c → (class_named old n ≡ Some c) ⊎ (ReachesItself to new n → ⊥)

step-back : (to : ClassSummary → List Name) (old new : List ClassSummary) → AreKept to old new → (a b : Name) → ReachesItself to new a → Steps to new a b → Steps to old a b
step-back to old new k a b w s = elim (k a s.class s.known) [
  | inl e ↦ record { class = s.class; known = e; leads = s.leads }
  | inr h ↦ absurd (h w)
]

-- A way of which each name lies on a cycle was there.
way-back : (to : ClassSummary → List Name) (old new : List ClassSummary) → AreKept to old new → (n a : Name) (ms : List Name) → ReachesItself to new a → (IsPathBy (Steps to new) a ms n → Leads (Steps to new) n a) → IsPathBy (Steps to new) a ms n → IsPathBy (Steps to old) a ms n
unfolding IsPathBy
way-back to old new k n a [] r f w = step-back to old new k a n r w
way-back to old new k n a (m ∷ ms) r f w =
    let first : Leads (Steps to new) n m = then-step (Steps to new) n a m (f w) w.0 in
    (step-back to old new k a m r w.0, way-back to old new k n m ms (leads-join (Steps to new) m n m (ms, w.1) first) (λ v. first) w.1)

pub cycle-back : (to : ClassSummary → List Name) (old new : List ClassSummary) → AreKept to old new → (n : Name) → ReachesItself to new n → ReachesItself to old n
cycle-back to old new k n r = (r.0, way-back to old new k n n r.0 r (λ v. r) r.1)

free-by : (to : ClassSummary → List Name) (but : Option Name) (old new : List ClassSummary) → AreKept to old new → HasNoCycle to but old → HasNoCycle to but new
free-by to but old new k free = record { none = λ n h w. free.none n h (cycle-back to old new k n w) }

pub stays_free : (removes : List Name) (puts old new : List ClassSummary) → Leaves (map remove removes ++ map put puts) old new → Each (λ c. AvoidsItself new c.name) puts → IsFree old → IsFree new
stays_free removes puts old new l h free = record {
  supers = free-by supers_of (Some object_name) old new (λ n c e. elim (kept (λ d. AvoidsItself new d.name) removes puts old new l h n c e) [ inl k ↦ inl k | inr k ↦ inr (subst (λ m. ReachesItself supers_of new m → ⊥) k.0 k.1.supers) ]) free.supers;
  outers = free-by outers_of None old new (λ n c e. elim (kept (λ d. AvoidsItself new d.name) removes puts old new l h n c e) [ inl k ↦ inl k | inr k ↦ inr (subst (λ m. ReachesItself outers_of new m → ⊥) k.0 k.1.outers) ]) free.outers;
}

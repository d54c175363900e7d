-- The number of classes is enough for a canonical name, which so meets its equation.
use Rattle.std.proofs.Common.{◌≡◌, ◌∙◌, ap, sym, subst, refl, arith, ℕ, zero, suc, ◌+◌, ◌-◌, ◌≤◌, Bool, true, false, cond, List, [], ◌∷◌, ◌++◌, length, bytes_eq, Option, Some, None}
use Rattle.known_classes.specs.declared.summary.ClassSummary.{ClassSummary}
use Rattle.known_classes.specs.Known.{class_named, nesting_at, outer_in, simple_in, outer_of, cycles, dotted, nested_name, canonical_by, canonical}
use Rattle.known_classes.specs.Laws.{MeetsEquation}
use Rattle.known_classes.proofs.Merging.{equal, itself}
use Rattle.known_classes.proofs.Ways.{no-true, without, without-other, shorter, ComesIn, steps-hold, cycles-any}

-- the class n steps outwards; none where the way ends before
unfoldable pub outwards : ℕ → List ClassSummary → Option (List ℕ) → Option (List ℕ)
outwards n cs None = None
outwards zero cs (Some name) = Some name
outwards (suc n) cs (Some name) = outwards n cs (outer_of cs name)

pub nested-same : (o s : Option (List ℕ)) (f g : List ℕ → List ℕ) (own : List ℕ) → ((x : List ℕ) → o ≡ Some x → f x ≡ g x) → nested_name o s f own ≡ nested_name o s g own
nested-same None s f g own h = refl
nested-same (Some x) None f g own h = refl
nested-same (Some x) (Some y) f g own h = ap (λ z. z ++ 46 ∷ y) (h x refl)

-- one class further out changes nothing, where these are all that were not met
Covers : List ClassSummary → List ClassSummary → Option (List ℕ) → Type 0
Covers us cs o = (n : ℕ) (c : List ℕ) → outwards n cs o ≡ Some c → class_named us c ≡ class_named cs c

out-by : (b : Bool) (x y : List ℕ) (cs : List ClassSummary) → bytes_eq x y ≡ b → (b ≡ false → (j : ℕ) × ComesIn j cs x (outer_of cs y)) → (j : ℕ) × ComesIn j cs x (Some y)
unfolding ComesIn
out-by true x y cs e f = (0, ap Some (sym (equal x y e)))
out-by false x y cs e f = let r = f refl in (suc r.0, (y, refl, (λ q. no-true (sym e ∙ subst (λ z. bytes_eq x z ≡ true) (sym q) (itself x))), r.1))

out-comes : (n : ℕ) (cs : List ClassSummary) (x : List ℕ) (o : Option (List ℕ)) → outwards n cs o ≡ Some x → (j : ℕ) × ComesIn j cs x o
unfolding outwards ComesIn
out-comes n cs x None e = absurd cc
out-comes zero cs x (Some y) e = (0, e)
out-comes (suc n) cs x (Some y) e = out-by (bytes_eq x y) x y cs refl (λ f. out-comes n cs x (outer_of cs y) e)

pub back : (n : ℕ) (cs : List ClassSummary) (x : List ℕ) → outwards n cs (outer_of cs x) ≡ Some x → cycles cs x ≡ true
back n cs x e =
    let r = out-comes n cs x (outer_of cs x) e in
    sym (cycles-any (suc r.0 + length cs) cs x (omega arith)) ∙ steps-hold r.0 (suc r.0 + length cs) cs x (outer_of cs x) (omega arith) r.1

known-by : (o : Option ClassSummary) (x : List ℕ) → outer_in (nesting_at o) ≡ Some x → (d : ClassSummary) × (o ≡ Some d)
known-by None x e = absurd cc
known-by (Some d) x e = (d, refl)

cover-first : (us cs : List ClassSummary) (x : List ℕ) → Covers us cs (Some x) → class_named us x ≡ class_named cs x
unfolding Covers outwards
cover-first us cs x h = h 0 x refl

cover-next : (us cs : List ClassSummary) (x : List ℕ) → cycles cs x ≡ false → Covers us cs (Some x) → Covers (without x us) cs (outer_of cs x)
unfolding Covers outwards
cover-next us cs x f h n c e =
    without-other x c us (λ q. no-true (sym f ∙ back n cs x (subst (λ z. outwards n cs (outer_of cs x) ≡ Some z) q e)))
    ∙ h (suc n) c e

none-named : (x : List ℕ) → class_named [] x ≡ None
unfolding class_named
none-named x = refl

both-dotted : (b : Bool) (xs : List ℕ) → cond b xs xs ≡ xs
both-dotted true xs = refl
both-dotted false xs = refl

last-out : (us cs : List ClassSummary) (x : List ℕ) → length us ≤ 0 → Covers us cs (Some x) → canonical_by 1 cs x ≡ dotted x
unfolding canonical_by
last-out [] cs x l h =
    let e : class_named cs x ≡ None = sym (cover-first [] cs x h) ∙ none-named x in
    ap (λ z. cond (cycles cs x) (dotted x) (nested_name (outer_in (nesting_at z)) (simple_in (nesting_at z)) (λ o. canonical_by 0 cs o) (dotted x))) e ∙ both-dotted (cycles cs x) (dotted x)
last-out (u ∷ us) cs x l h = absurd (omega (arith, l))

cond-same : (b : Bool) (d u v : List ℕ) → (b ≡ false → u ≡ v) → cond b d u ≡ cond b d v
cond-same true d u v h = refl
cond-same false d u v h = h refl

one-more : (k : ℕ) (us cs : List ClassSummary) (x : List ℕ) → length us ≤ k → Covers us cs (Some x) → canonical_by (suc k) cs x ≡ canonical_by k cs x
unfolding canonical_by
one-more zero us cs x l h = last-out us cs x l h
one-more (suc k) us cs x l h =
    cond-same (cycles cs x) (dotted x) _ _ (λ f.
    nested-same (outer_of cs x) (simple_in (nesting_at (class_named cs x))) (λ o. canonical_by (suc k) cs o) (λ o. canonical_by k cs o) (dotted x) (λ y e.
    let d = known-by (class_named cs x) y e in
    let s = shorter x d.0 us (cover-first us cs x h ∙ d.1) in
    one-more k (without x us) cs y (omega (arith, l, s)) (subst (Covers (without x us) cs) e (cover-next us cs x f h))))

-- more steps than classes change nothing
canon-more : (m k : ℕ) (cs : List ClassSummary) (x : List ℕ) → k ≡ m + length cs → canonical_by k cs x ≡ canonical cs x
unfolding Covers
canon-more zero k cs x e = let f : k ≡ length cs = omega (arith, e) in ap (λ z. canonical_by z cs x) f
canon-more (suc m) k cs x e =
    let f : k ≡ suc (m + length cs) = omega (arith, e) in
    ap (λ z. canonical_by z cs x) f ∙ one-more (m + length cs) cs cs x (omega arith) (λ n c e. refl) ∙ canon-more m (m + length cs) cs x refl

pub canon-any : (k : ℕ) (cs : List ClassSummary) (x : List ℕ) → length cs ≤ k → canonical_by k cs x ≡ canonical cs x
canon-any k cs x l = canon-more (k - length cs) k cs x (omega (arith, l))

canonical-suc : (k : ℕ) (cs : List ClassSummary) (x : List ℕ) → canonical_by (suc k) cs x ≡ cond (cycles cs x) (dotted x) (nested_name (outer_of cs x) (simple_in (nesting_at (class_named cs x))) (λ o. canonical_by k cs o) (dotted x))
unfolding canonical_by
canonical-suc k cs x = refl

pub equation : (cs : List ClassSummary) (x : List ℕ) → MeetsEquation cs x
equation cs x = sym (canon-any (suc (length cs)) cs x (omega arith)) ∙ canonical-suc (length cs) cs x

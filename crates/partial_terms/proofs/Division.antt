-- Growing a front divides its completions.
use Rattle.std.proofs.Common.{◌≡◌, ◌≢◌, ℕ, ◌+◌, ◌≤◌, Bool, true, false, ◌&&◌, ◌==◌, List, [], ◌∷◌, ◌++◌, map, Option, Some, None, refl, sym, ap, subst, ◌∙◌, arith, append_assoc, append-nil}
use Rattle.std.proofs.lemmas.Bool.{and_parts, and_from, false≢true, eq-eqb, eqb-true, le-leb}
use Rattle.terms.specs.Expr.{Expr}
use Rattle.terms.specs.declared.parts.Parts.{Parts}
use Rattle.terms.specs.Code.{prefix_code}
use Rattle.terms.specs.Count.{once_if, count}
use Rattle.terms.specs.Place.{Place, fits_place, weigh}
use Rattle.terms.specs.Reading.{Reading, turn, and_then, read}
use Rattle.partial_terms.specs.Leasts.{AllPlaces, AreLeast, key}
use Rattle.partial_terms.specs.Fronts.{begins, reading, key_within, IsGrowth}
use Rattle.terms.proofs.Standing.{count-map}
use Rattle.terms.proofs.Sums.{count-none}
use Rattle.terms.proofs.Readings.{read-term}
use Rattle.terms.proofs.Forests.{whole}
use Rattle.partial_terms.proofs.Keys.{AllPlaces-append, key-low}

-- what begins is followed by the rest
pub record Rest (f c : List ℕ) : Type 0 where
  pub more : List ℕ
  pub is : c ≡ f ++ more

pub rest_of : (f c : List ℕ) → begins f c ≡ true → Rest f c
rest_of [] c h = record { more = c; is = refl }
rest_of (x ∷ f) [] h = absurd (false≢true h)
rest_of (x ∷ f) (y ∷ c) h =
    let hs = and_parts (x == y) (begins f c) h in
    let r : Rest f c = rest_of f c hs.1 in
    let e : y ≡ x = sym (eqb-true x y hs.0) in
    record { more = r.more; is = ap (λ n. n ∷ c) e ∙ ap (λ l. x ∷ l) r.is }

pub begins-append : (f m : List ℕ) → begins f (f ++ m) ≡ true
begins-append [] m = refl
begins-append (x ∷ f) m = and_from (x == x) (begins f (f ++ m)) (eq-eqb x x refl) (begins-append f m)

pub begins-snoc : (f : List ℕ) (n k : ℕ) (m : List ℕ) → begins (f ++ n ∷ []) (f ++ k ∷ m) ≡ (n == k)
begins-snoc [] n k m = and_yes (n == k)
  where
    and_yes : (b : Bool) → b && true ≡ b
    and_yes true = refl
    and_yes false = refl
begins-snoc (x ∷ f) n k m = rw (eq-eqb x x refl) (begins-snoc f n k m)

pub begins-shorter : (f : List ℕ) (n : ℕ) (c : List ℕ) → begins (f ++ n ∷ []) c ≡ true → begins f c ≡ true
begins-shorter [] n c h = refl
begins-shorter (x ∷ f) n [] h = absurd (false≢true h)
begins-shorter (x ∷ f) n (y ∷ c) h = let hs = and_parts (x == y) (begins (f ++ n ∷ []) c) h in and_from (x == y) (begins f c) hs.0 (begins-shorter f n c hs.1)

pub read-append : (g : Parts) (w : ℕ) (ps : List Place) (a b : List ℕ) → read g w ps (a ++ b) ≡ and_then (read g w ps a) (λ r. read g r.weight r.open_places b)
unfolding read
read-append g w ps [] b = refl
read-append g w [] (n ∷ a) b = refl
read-append g w (p ∷ ps) (n ∷ a) b = go (turn g p n) (λ x qs. read-append g x qs a b)
  where
    go : (o : Option Reading) → ((x : ℕ) (qs : List Place) → read g x qs (a ++ b) ≡ and_then (read g x qs a) (λ r. read g r.weight r.open_places b))
        → and_then o (λ t. read g (w + t.weight) (t.open_places ++ ps) (a ++ b)) ≡ and_then (and_then o (λ t. read g (w + t.weight) (t.open_places ++ ps) a)) (λ r. read g r.weight r.open_places b)
    go None again = refl
    go (Some t) again = again (w + t.weight) (t.open_places ++ ps)

none_some : (q : Reading) → None ≡ Some q → ⊥
none_some q e = cc

-- the open places of what is read are kept
pub read-kept : (g : Parts) (limit : ℕ) (Kept : Place → Type 0) (least : Place → ℕ) → AreLeast g limit Kept least → (w : ℕ) (ps : List Place) (a : List ℕ) (r : Reading) → AllPlaces Kept ps → read g w ps a ≡ Some r → AllPlaces Kept r.open_places
unfolding read
read-kept g limit Kept least s w ps [] r kept h = let P : Option Reading → Type 0 = λ o. kept_of o in subst P h kept
  where
    kept_of : Option Reading → Type 0
    kept_of None = Unit {0}
    kept_of (Some q) = AllPlaces Kept q.open_places
read-kept g limit Kept least s w [] (n ∷ a) r kept h = absurd (none_some r h)
read-kept g limit Kept least s w (p ∷ ps) (n ∷ a) r kept h = go (turn g p n) refl (λ x qs. read-kept g limit Kept least s x qs a r) h
  where
    go : (o : Option Reading) → turn g p n ≡ o → ((x : ℕ) (qs : List Place) → AllPlaces Kept qs → read g x qs a ≡ Some r → AllPlaces Kept r.open_places)
        → and_then o (λ t. read g (w + t.weight) (t.open_places ++ ps) a) ≡ Some r → AllPlaces Kept r.open_places
    go None is again h' = absurd (none_some r h')
    go (Some t) is again h' = again (w + t.weight) (t.open_places ++ ps) (AllPlaces-append Kept t.open_places ps (s.opens p kept.0 n t is) kept.1) h'

-- the prefix_code of a term that fits the root is read whole
pub code-whole : (g : Parts) (root : Place) (e : Expr) → fits_place g root e ≡ true → reading g root (prefix_code e) ≡ whole (weigh g root e)
unfolding reading read
code-whole g root e fit = ap (λ c. read g 0 (root ∷ []) c) (sym (append-nil (prefix_code e))) ∙ read-term g root e 0 [] [] fit ∙ ap whole (let z : 0 + weigh g root e ≡ weigh g root e = omega arith in z)

-- a completion weighs at least the key
pub key-below : (g : Parts) (limit : ℕ) (Kept : Place → Type 0) (least : Place → ℕ) (root : Place) → AreLeast g limit Kept least → Kept root → (f more : List ℕ) (r : Reading) (v : ℕ) → reading g root f ≡ Some r → reading g root (f ++ more) ≡ whole v → v ≤ limit → key least r ≤ v
unfolding reading
key-below g limit Kept least root s kept f more r v is h l =
    let rest : read g r.weight r.open_places more ≡ whole v = ap (λ o. and_then o (λ q. read g q.weight q.open_places more)) (sym is) ∙ sym (read-append g 0 (root ∷ []) f more) ∙ h in
    key-low g limit Kept least s r.weight v r.open_places more (read-kept g limit Kept least s 0 (root ∷ []) f r (kept, tt) is) l rest

-- what follows a front in a whole code
pub record Follows (g : Parts) (limit : ℕ) (least : Place → ℕ) (root : Place) (f c : List ℕ) : Type 0 where
  pub next : ℕ
  pub later : List ℕ
  pub is : c ≡ f ++ next ∷ later
  pub may : key_within limit least (reading g root (f ++ next ∷ [])) ≡ true

follows : (g : Parts) (limit : ℕ) (Kept : Place → Type 0) (least : Place → ℕ) (root : Place) → AreLeast g limit Kept least → Kept root → (f c : List ℕ) (r : Reading) (v : ℕ) → reading g root f ≡ Some r → r.open_places ≢ [] → reading g root c ≡ whole v → v ≤ limit → Rest f c → Follows g limit least root f c
unfolding reading read
follows g limit Kept least root s kept f c r v is some h l rest = go rest.more rest.is
  where
    go : (m : List ℕ) → c ≡ f ++ m → Follows g limit least root f c
    go [] same =
        let e : reading g root f ≡ whole v = ap (λ x. reading g root x) (sym (append-nil f) ∙ sym same) ∙ h in
        let both : Some r ≡ whole v = sym is ∙ e in
        absurd (some (ap stack both))
      where
        stack : Option Reading → List Place
        stack None = []
        stack (Some q) = q.open_places
    go (k ∷ m) same =
        let longer : (f ++ k ∷ []) ++ m ≡ f ++ k ∷ m = append_assoc f (k ∷ []) m in
        let e : reading g root ((f ++ k ∷ []) ++ m) ≡ whole v = ap (λ x. reading g root x) (longer ∙ sym same) ∙ h in
        record { next = k; later = m; is = same; may = may k m (reading g root (f ++ k ∷ [])) refl e }
      where
        may : (k : ℕ) (m : List ℕ) (o : Option Reading) → reading g root (f ++ k ∷ []) ≡ o → reading g root ((f ++ k ∷ []) ++ m) ≡ whole v → key_within limit least o ≡ true
        may k m None no_reading e =
            let dead : None ≡ whole v = ap (λ o. and_then o (λ q. read g q.weight q.open_places m)) (sym no_reading) ∙ sym (read-append g 0 (root ∷ []) (f ++ k ∷ []) m) ∙ e in
            cc
        may k m (Some q) at e = let low : key least q ≤ v = key-below g limit Kept least root s kept (f ++ k ∷ []) m q v at e l in le-leb (key least q) limit (omega arith)

count-same : {X : Type 0} (p q : X → Bool) (xs : List X) → ((x : X) → p x ≡ q x) → count p xs ≡ count q xs
count-same p q [] h = refl
count-same p q (x ∷ xs) h = rw (h x, count-same p q xs h) refl

-- each completion of a front that isn't whole completes just one of the fronts that grow from it
pub divides : (g : Parts) (limit : ℕ) (Kept : Place → Type 0) (least : Place → ℕ) (root : Place) → AreLeast g limit Kept least → Kept root → (f : List ℕ) (r : Reading) → reading g root f ≡ Some r → r.open_places ≢ [] → (ns : List ℕ) → IsGrowth g limit least root f ns
    → (e : Expr) → fits_place g root e ≡ true → weigh g root e ≤ limit → count (λ q. begins q (prefix_code e)) (map (λ n. f ++ n ∷ []) ns) ≡ once_if (begins f (prefix_code e))
divides g limit Kept least root s kept f r is some ns grows e fit l =
    count-map (λ q. begins q (prefix_code e)) (λ n. f ++ n ∷ []) ns ∙ go (begins f (prefix_code e)) refl
  where
    go : (b : Bool) → begins f (prefix_code e) ≡ b → count (λ n. begins (f ++ n ∷ []) (prefix_code e)) ns ≡ once_if b
    go false apart = count-none (λ n. begins (f ++ n ∷ []) (prefix_code e)) ns (λ n. not_longer n (begins (f ++ n ∷ []) (prefix_code e)) refl)
      where
        not_longer : (n : ℕ) (b : Bool) → begins (f ++ n ∷ []) (prefix_code e) ≡ b → b ≡ false
        not_longer n true h = sym (begins-shorter f n (prefix_code e) h) ∙ apart
        not_longer n false h = refl
    go true starts =
        let k : Follows g limit least root f (prefix_code e) = follows g limit Kept least root s kept f (prefix_code e) r (weigh g root e) is some (code-whole g root e fit) l (rest_of f (prefix_code e) starts) in
        count-same (λ n. begins (f ++ n ∷ []) (prefix_code e)) (λ n. n == k.next) ns (λ n. ap (λ c. begins (f ++ n ∷ []) c) k.is ∙ begins-snoc f n k.next k.later)
        ∙ grows k.next ∙ ap once_if k.may

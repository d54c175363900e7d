-- Texts of parts with dots between them.
use Rattle.std.proofs.Common.{◌≡◌, ◌∙◌, sym, ap, ap₂, refl, arith, ℕ, zero, suc, ◌≤◌, ◌==◌, not, Bool, true, false, cond, List, [], ◌∷◌, ◌++◌, length, length-append, take, get_or, codes, append-nil}
use Rattle.std.specs.List.{AllByRecursion, list_all, slice_split, onto_first}
use Rattle.std.proofs.lemmas.Bool.{false≢true, and_parts, eqb-true}
use Rattle.class_summary.specs.Sources.{joined}
use Rattle.java_shapes.proofs.WordFacts.{Lacks}
use Rattle.offers.specs.Spellings.{parts}

-- a dot cuts
pub record HasPart (xs : List (List ℕ)) : Type 0 where
  pub first : List ℕ
  pub rest : List (List ℕ)
  pub is : xs ≡ first ∷ rest

onto-some : (c : ℕ) (xs : List (List ℕ)) → HasPart (onto_first c xs)
onto-some c [] = record { first = c ∷ []; rest = []; is = refl }
onto-some c (x ∷ xs) = record { first = c ∷ x; rest = xs; is = refl }

onto-append : (c : ℕ) (xs ys : List (List ℕ)) → HasPart xs → onto_first c (xs ++ ys) ≡ onto_first c xs ++ ys
onto-append c [] ys h = let e = h.is in absurd cc
onto-append c (x ∷ xs) ys h = refl

cut-step : (c : ℕ) (b : Bool) (xs ys : List (List ℕ)) → HasPart xs → cond b ([] ∷ (xs ++ ys)) (onto_first c (xs ++ ys)) ≡ cond b ([] ∷ xs) (onto_first c xs) ++ ys
cut-step c true xs ys h = refl
cut-step c false xs ys h = onto-append c xs ys h

split-some : (p : ℕ → Bool) (text : List ℕ) → HasPart (slice_split p text)
split-some p [] = record { first = []; rest = []; is = refl }
split-some p (c ∷ cs) = by (p c)
  where
    by : (b : Bool) → HasPart (cond b ([] ∷ slice_split p cs) (onto_first c (slice_split p cs)))
    by true = record { first = []; rest = slice_split p cs; is = refl }
    by false = onto-some c (slice_split p cs)

pub parts-some : (text : List ℕ) → HasPart (parts text)
parts-some text = split-some (λ b. b == 46) text

pub split-cut : (p : ℕ → Bool) (k : ℕ) → p k ≡ true → (a r : List ℕ) → slice_split p (a ++ k ∷ r) ≡ slice_split p a ++ slice_split p r
split-cut p k e [] r = ap (λ b. cond b ([] ∷ slice_split p r) (onto_first k (slice_split p r))) e
split-cut p k e (c ∷ a) r = ap (λ z. cond (p c) ([] ∷ z) (onto_first c z)) (split-cut p k e a r) ∙ cut-step c (p c) (slice_split p a) (slice_split p r) (split-some p a)

pub parts-cut : (a r : List ℕ) → parts (a ++ 46 ∷ r) ≡ parts a ++ parts r
parts-cut a r = split-cut (λ b. b == 46) 46 refl a r

none-step : (c : ℕ) (b : Bool) (w : List ℕ) → not b ≡ true → cond b ([] ∷ w ∷ []) ((c ∷ w) ∷ []) ≡ (c ∷ w) ∷ []
none-step c true w e = absurd (false≢true e)
none-step c false w e = refl

pub split-none : (p : ℕ → Bool) (w : List ℕ) → list_all (λ c. not (p c)) w ≡ true → slice_split p w ≡ w ∷ []
split-none p [] h = refl
split-none p (c ∷ w) h =
    let k = and_parts (not (p c)) (list_all (λ x. not (p x)) w) h in
    ap (λ z. cond (p c) ([] ∷ z) (onto_first c z)) (split-none p w k.1) ∙ none-step c (p c) w k.0

pub parts-none : (w : List ℕ) → Lacks 46 w → parts w ≡ w ∷ []
parts-none w h = split-none (λ b. b == 46) w h

-- joining puts a text's parts together again
joined-more : (p : List ℕ) (xs : List (List ℕ)) → HasPart xs → joined (codes ".") (p ∷ xs) ≡ p ++ 46 ∷ joined (codes ".") xs
unfolding joined
joined-more p [] h = let e = h.is in absurd cc
joined-more p (x ∷ xs) h = refl

joined-onto : (c : ℕ) (xs : List (List ℕ)) → HasPart xs → joined (codes ".") (onto_first c xs) ≡ c ∷ joined (codes ".") xs
unfolding joined
joined-onto c [] h = let e = h.is in absurd cc
joined-onto c (x ∷ xs) h = refl

joined-step : (c : ℕ) (b : Bool) (xs : List (List ℕ)) → HasPart xs → (c == 46) ≡ b → joined (codes ".") (cond b ([] ∷ xs) (onto_first c xs)) ≡ c ∷ joined (codes ".") xs
joined-step c true xs h e = joined-more [] xs h ∙ ap (λ z. z ∷ joined (codes ".") xs) (sym (eqb-true c 46 e))
joined-step c false xs h e = joined-onto c xs h

pub joined-parts : (text : List ℕ) → joined (codes ".") (parts text) ≡ text
unfolding joined
joined-parts [] = refl
joined-parts (c ∷ cs) = joined-step c (c == 46) (parts cs) (parts-some cs) refl ∙ ap (λ z. c ∷ z) (joined-parts cs)

pub joined-one : (p : List ℕ) → joined (codes ".") (p ∷ []) ≡ p
unfolding joined
joined-one p = append-nil p

pub joined-next : (p q : List ℕ) (ps : List (List ℕ)) → joined (codes ".") (p ∷ q ∷ ps) ≡ p ++ 46 ∷ joined (codes ".") (q ∷ ps)
joined-next p q ps = joined-more p (q ∷ ps) (record { first = q; rest = ps; is = refl })

-- parts without such a character stand as they were
pub split-joined : (t : ℕ → Bool) → t 46 ≡ true → (p : List ℕ) (ps : List (List ℕ)) → AllByRecursion (λ w. list_all (λ c. not (t c)) w ≡ true) (p ∷ ps) → slice_split t (joined (codes ".") (p ∷ ps)) ≡ p ∷ ps
split-joined t e p [] h = ap (slice_split t) (joined-one p) ∙ split-none t p h.0
split-joined t e p (q ∷ qs) h = ap (slice_split t) (joined-next p q qs) ∙ split-cut t 46 e p (joined (codes ".") (q ∷ qs)) ∙ ap₂ (λ x y. x ++ y) (split-none t p h.0) (split-joined t e q qs h.1)

pub parts-joined : (p : List ℕ) (ps : List (List ℕ)) → AllByRecursion (Lacks 46) (p ∷ ps) → parts (joined (codes ".") (p ∷ ps)) ≡ p ∷ ps
parts-joined p ps h = split-joined (λ b. b == 46) refl p ps h

-- what stands before a dot of a text with a last part behind it
pub record IsFront (text front : List ℕ) : Type 0 where
  pub count : ℕ
  pub some : 1 ≤ count
  pub within : count ≤ length (parts text)
  pub is : parts front ≡ take count (parts text)

has-length : (xs : List (List ℕ)) → HasPart xs → 1 ≤ length xs
has-length [] h = let e = h.is in absurd cc
has-length (x ∷ xs) h = omega arith

take-front : (xs ys : List (List ℕ)) (z : List ℕ) (us : List (List ℕ)) → xs ++ ys ≡ us ++ z ∷ [] → 1 ≤ length ys → (xs ≡ take (length xs) us) × (length xs ≤ length us)
take-front [] ys z us e l = (refl, omega arith)
take-front (x ∷ xs) ys z [] e l = let tails : xs ++ ys ≡ [] = cc in let n : length (xs ++ ys) ≡ 0 = ap length tails in absurd (omega (arith, n, length-append xs ys, l))
take-front (x ∷ xs) ys z (u ∷ us) e l =
    let heads : x ≡ u = cc in
    let tails : xs ++ ys ≡ us ++ z ∷ [] = cc in
    let h = take-front xs ys z us tails l in
    (ap₂ (λ a b. a ∷ b) heads h.0, omega (arith, h.1))

pub front-of : (text name front rest : List ℕ) → Lacks 46 name → front ++ 46 ∷ rest ≡ text ++ 46 ∷ name → IsFront text front
front-of text name front rest d e =
    let split : parts front ++ parts rest ≡ parts text ++ name ∷ [] = sym (parts-cut front rest) ∙ ap parts e ∙ parts-cut text name ∙ ap (λ z. parts text ++ z) (parts-none name d) in
    let h = take-front (parts front) (parts rest) name (parts text) split (has-length (parts rest) (parts-some rest)) in
    record { count = length (parts front); some = has-length (parts front) (parts-some front); within = h.1; is = h.0 }

one-part : (n : ℕ) (xs : List (List ℕ)) (w : List ℕ) → 1 ≤ n → w ∷ [] ≡ take n xs → w ≡ get_or xs 0 []
one-part zero xs w l e = absurd (omega (arith, l))
one-part (suc n) [] w l e = absurd cc
one-part (suc n) (x ∷ xs) w l e = let same : w ≡ x = cc in same

-- one without a dot is the first part
pub front-first : (text front : List ℕ) → Lacks 46 front → IsFront text front → front ≡ get_or (parts text) 0 []
front-first text front d h = one-part h.count (parts text) front h.some (sym (parts-none front d) ∙ h.is)

pub front-joined : (text front : List ℕ) (h : IsFront text front) → front ≡ joined (codes ".") (take h.count (parts text))
front-joined text front h = sym (joined-parts front) ∙ ap (joined (codes ".")) h.is

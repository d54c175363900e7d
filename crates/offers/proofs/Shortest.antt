-- The shortest suffix that spells a class.
use Rattle.std.proofs.Common.{◌≡◌, ◌∙◌, ap, sym, arith, refl, ℕ, zero, suc, ◌-◌, ◌<◌, ◌≤◌, Bool, true, false, cond, List, [], ◌∷◌, length, drop, get_or, drop-cons, Some, None}
use Rattle.std.specs.Prelude.{codes}
use Rattle.std.specs.Option.{option_or}
use Rattle.class_summary.specs.Sources.{joined}
use Rattle.offers.specs.Scenes.{Scene}
use Rattle.offers.specs.Spellings.{spells, shortest}

short-nil : (v : Scene) (name : List ℕ) → shortest v name [] ≡ None
unfolding shortest
short-nil v name = refl

short-cons : (v : Scene) (name p : List ℕ) (ps : List (List ℕ)) → shortest v name (p ∷ ps) ≡ option_or (shortest v name ps) (cond (spells v name (p ∷ ps)) (Some (joined (codes ".") (p ∷ ps))) None)
unfolding shortest
short-cons v name p ps = refl

dropped : {A : Type 0} (n : ℕ) (xs : List A) → length xs ≤ n → drop n xs ≡ []
dropped zero [] l = refl
dropped zero (x ∷ xs) l = absurd (omega arith)
dropped (suc n) [] l = refl
dropped (suc n) (x ∷ xs) l = dropped n xs (omega arith)

pub short-start : (v : Scene) (name : List ℕ) (xs : List (List ℕ)) (n : ℕ) → length xs ≤ n → shortest v name (drop n xs) ≡ None
short-start v name xs n l = ap (shortest v name) (dropped n xs l) ∙ short-nil v name

-- what a suffix has, the whole has
up : (v : Scene) (name : List ℕ) (k : ℕ) (xs : List (List ℕ)) (t : List ℕ) → shortest v name (drop k xs) ≡ Some t → shortest v name xs ≡ Some t
up v name zero [] t h = h
up v name zero (x ∷ xs) t h = h
up v name (suc k) [] t h = h
up v name (suc k) (x ∷ xs) t h = short-cons v name x xs ∙ ap (λ o. option_or o (cond (spells v name (x ∷ xs)) (Some (joined (codes ".") (x ∷ xs))) None)) (up v name k xs t h)

step : (v : Scene) (name : List ℕ) (xs : List (List ℕ)) (left : ℕ) (b : Bool) → 0 < left → left ≤ length xs → shortest v name (drop left xs) ≡ None → spells v name (drop (left - 1) xs) ≡ b → shortest v name (drop (left - 1) xs) ≡ cond b (Some (joined (codes ".") (drop (left - 1) xs))) None
step v name xs left b o l h e =
    let k = left - 1 in
    let s : suc k ≡ left = omega arith in
    let d = drop-cons xs k [] (omega arith) in
    let rest = ap (λ n. drop n xs) s in
    ap (shortest v name) d ∙ short-cons v name (get_or xs k []) (drop (suc k) xs)
    ∙ ap (λ o. option_or o (cond (spells v name (get_or xs k [] ∷ drop (suc k) xs)) (Some (joined (codes ".") (get_or xs k [] ∷ drop (suc k) xs))) None)) (ap (shortest v name) rest ∙ h)
    ∙ ap (λ ys. cond (spells v name ys) (Some (joined (codes ".") ys)) None) (sym d)
    ∙ ap (λ c. cond c (Some (joined (codes ".") (drop k xs))) None) e

pub short-hit : (v : Scene) (name : List ℕ) (xs : List (List ℕ)) (left : ℕ) (text : List ℕ) → 0 < left → left ≤ length xs → shortest v name (drop left xs) ≡ None → spells v name (drop (left - 1) xs) ≡ true → text ≡ joined (codes ".") (drop (left - 1) xs) → Some text ≡ shortest v name xs
short-hit v name xs left text o l h e f = sym (up v name (left - 1) xs text (step v name xs left true o l h e ∙ ap Some (sym f)))

pub short-on : (v : Scene) (name : List ℕ) (xs : List (List ℕ)) (left : ℕ) → 0 < left → left ≤ length xs → shortest v name (drop left xs) ≡ None → spells v name (drop (left - 1) xs) ≡ false → (shortest v name (drop (left - 1) xs) ≡ None) × (left - 1 ≤ length xs)
short-on v name xs left o l h e = (step v name xs left false o l h e, omega arith)

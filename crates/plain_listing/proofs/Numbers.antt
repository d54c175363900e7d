-- Finding a context among the others.
use Rattle.std.proofs.Common.{◌≡◌, ℕ, ◌+◌, ◌<◌, ◌≤◌, Bool, true, false, ◌&&◌, if◌then◌else◌, List, [], ◌∷◌, ◌++◌, length, drop, get_or, None, Some, bytes_eq, refl, sym, ap, ◌∙◌, arith}
use Rattle.std.proofs.lemmas.Bool.{and_parts, and_from}
use Rattle.std.proofs.lemmas.List.{drop_more, drop_all, length_push}
use Rattle.std.proofs.lemmas.Slice.Eq.{bytes_eq-Decides}
use Rattle.plain_listing.specs.Tables.{same_rows, number_from}

pub if_yes : {X : Type 0} (b : Bool) (x y : X) → b ≡ true → (if b then x else y) ≡ x
if_yes true x y h = refl
if_yes false x y h = cc

pub if_no : {X : Type 0} (b : Bool) (x y : X) → b ≡ false → (if b then x else y) ≡ y
if_no true x y h = cc
if_no false x y h = refl

-- the same rows are one context, and a context has its own rows
pub rows-same : (a b : List (List ℕ)) → same_rows a b ≡ true → a ≡ b
unfolding same_rows
rows-same [] [] h = refl
rows-same [] (y ∷ ys) h = cc
rows-same (x ∷ xs) [] h = cc
rows-same (x ∷ xs) (y ∷ ys) h =
    let both = and_parts (bytes_eq x y) (same_rows xs ys) h in
    ap (λ z. z ∷ xs) ((bytes_eq-Decides x y).0 both.0) ∙ ap (λ zs. y ∷ zs) (rows-same xs ys both.1)

pub rows-itself : (a : List (List ℕ)) → same_rows a a ≡ true
unfolding same_rows
rows-itself [] = refl
rows-itself (x ∷ xs) = and_from (bytes_eq x x) (same_rows xs xs) ((bytes_eq-Decides x x).1 refl) (rows-itself xs)

-- contexts of other lengths differ
pub rows-longer : (a b : List (List ℕ)) → (length a ≡ length b → ⊥) → same_rows a b ≡ false
rows-longer a b apart = go (same_rows a b) refl
  where
    go : (t : Bool) → same_rows a b ≡ t → same_rows a b ≡ false
    go true is = absurd (apart (ap length (rows-same a b is)))
    go false is = is

rows-cons : (x y : List ℕ) (xs ys : List (List ℕ)) → same_rows (x ∷ xs) (y ∷ ys) ≡ bytes_eq x y && same_rows xs ys
unfolding same_rows
rows-cons x y xs ys = refl

rows-nil : same_rows [] [] ≡ true
unfolding same_rows
rows-nil = refl

both-rows : (xs outer : List (List ℕ)) (ps x y : List ℕ) (i : ℕ) → i < length xs → i < length outer → x ≡ get_or xs i x → y ≡ get_or outer i y
    → same_rows (drop i xs) (drop i outer ++ ps ∷ []) ≡ bytes_eq x y && same_rows (drop (i + 1) xs) (drop (i + 1) outer ++ ps ∷ [])
both-rows xs outer ps x y i l m is at =
    ap (λ ys. same_rows ys (drop i outer ++ ps ∷ [])) (drop_more xs i x l ∙ ap (λ z. z ∷ drop (i + 1) xs) (sym is))
    ∙ ap (λ ys. same_rows (x ∷ drop (i + 1) xs) (ys ++ ps ∷ [])) (drop_more outer i y m ∙ ap (λ z. z ∷ drop (i + 1) outer) (sym at))
    ∙ rows-cons x y (drop (i + 1) xs) (drop (i + 1) outer ++ ps ∷ [])

-- one row differs
pub rows-stop : (xs outer : List (List ℕ)) (ps x y : List ℕ) (i : ℕ) → i < length xs → i < length outer → x ≡ get_or xs i x → y ≡ get_or outer i y → bytes_eq x y ≡ false
    → same_rows (drop i xs) (drop i outer ++ ps ∷ []) ≡ false
rows-stop xs outer ps x y i l m is at h = both-rows xs outer ps x y i l m is at ∙ ap (λ b. b && same_rows (drop (i + 1) xs) (drop (i + 1) outer ++ ps ∷ [])) h

-- one row is the same
pub rows-go : (xs outer : List (List ℕ)) (ps x y : List ℕ) (i : ℕ) → i < length xs → i < length outer → x ≡ get_or xs i x → y ≡ get_or outer i y → bytes_eq x y ≡ true
    → same_rows (drop i xs) (drop i outer ++ ps ∷ []) ≡ same_rows (drop (i + 1) xs) (drop (i + 1) outer ++ ps ∷ [])
rows-go xs outer ps x y i l m is at h = both-rows xs outer ps x y i l m is at ∙ ap (λ b. b && same_rows (drop (i + 1) xs) (drop (i + 1) outer ++ ps ∷ [])) h

-- the last row decides
pub rows-end : (xs outer : List (List ℕ)) (ps x : List ℕ) (i : ℕ) → length outer ≡ i → length xs ≡ i + 1 → x ≡ get_or xs i x → same_rows (drop i xs) (drop i outer ++ ps ∷ []) ≡ bytes_eq x ps
rows-end xs outer ps x i m l is =
    ap (λ ys. same_rows ys (drop i outer ++ ps ∷ [])) (drop_more xs i x (omega (arith, l)) ∙ ap (λ z. z ∷ drop (i + 1) xs) (sym is))
    ∙ ap (λ ys. same_rows (x ∷ ys) (drop i outer ++ ps ∷ [])) (drop_all (i + 1) xs (omega (arith, l)))
    ∙ ap (λ ys. same_rows (x ∷ []) (ys ++ ps ∷ [])) (drop_all i outer (omega (arith, m)))
    ∙ rows-cons x ps [] [] ∙ ap (λ b. bytes_eq x ps && b) rows-nil ∙ and_yes (bytes_eq x ps)
  where
    and_yes : (b : Bool) → b && true ≡ b
    and_yes true = refl
    and_yes false = refl

-- a context with as many rows and one more
pub length-extended : (outer : List (List ℕ)) (ps : List ℕ) → length (outer ++ ps ∷ []) ≡ length outer + 1
length-extended outer ps = length_push outer ps

pub number-cons : (n : ℕ) (c : List (List ℕ)) (more : List (List (List ℕ))) (ctx : List (List ℕ)) → number_from n (c ∷ more) ctx ≡ (if same_rows c ctx then Some n else number_from (n + 1) more ctx)
unfolding number_from
number-cons n c more ctx = refl

pub number-nil : (n : ℕ) (ctx : List (List ℕ)) → number_from n [] ctx ≡ None
unfolding number_from
number-nil n ctx = refl

number-at : (cs : List (List (List ℕ))) (ctx : List (List ℕ)) (i : ℕ) (c : List (List ℕ)) → i < length cs → c ≡ get_or cs i c → number_from i (drop i cs) ctx ≡ (if same_rows c ctx then Some i else number_from (i + 1) (drop (i + 1) cs) ctx)
number-at cs ctx i c l is = ap (λ rest. number_from i rest ctx) (drop_more cs i c l ∙ ap (λ r. r ∷ drop (i + 1) cs) (sym is)) ∙ number-cons i c (drop (i + 1) cs) ctx

-- it stands at i
pub number-stop : (cs : List (List (List ℕ))) (ctx : List (List ℕ)) (i : ℕ) (c : List (List ℕ)) → i < length cs → c ≡ get_or cs i c → same_rows c ctx ≡ true → number_from i (drop i cs) ctx ≡ Some i
number-stop cs ctx i c l is h = number-at cs ctx i c l is ∙ if_yes _ _ _ h

-- it stands later
pub number-go : (cs : List (List (List ℕ))) (ctx : List (List ℕ)) (i : ℕ) (c : List (List ℕ)) → i < length cs → c ≡ get_or cs i c → same_rows c ctx ≡ false → number_from i (drop i cs) ctx ≡ number_from (i + 1) (drop (i + 1) cs) ctx
number-go cs ctx i c l is h = number-at cs ctx i c l is ∙ if_no _ _ _ h

-- none is left
pub number-end : (cs : List (List (List ℕ))) (ctx : List (List ℕ)) (i : ℕ) → length cs ≤ i → number_from i (drop i cs) ctx ≡ None
number-end cs ctx i l = ap (λ rest. number_from i rest ctx) (drop_all i cs l) ∙ number-nil i ctx

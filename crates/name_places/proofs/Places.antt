-- Places in a list of names, one name further.
use Rattle.std.proofs.Common.{rules, ◌≡◌, ◌∙◌, sym, ap, ℕ, suc, ◌<◌, List, [], ◌∷◌, ◌++◌, length, get_or, refl, arith, Bool, true, false, if◌then◌else◌, Option, Some, None, cond, Result, Ok, Err, OnOk, OnErr}
use Rattle.std.specs.Prelude.{option_map, bytes_eq, String, string_eq, string_bytes}
use Rattle.std.specs.HashMap.{HashMap, UpdatesBy, get_by_text}
use Rattle.std.proofs.lemmas.Cmp.{nat_list_eq_equiv}
use Rattle.std.proofs.lemmas.Map.Text.{hash_map_updates_text}
use Rattle.name_places.specs.Places.{place_of, IsPlaced, IsGrown}

not_first : (b : Bool) (p : Option ℕ) → (if b then Some 0 else option_map suc p) ≡ None → (b ≡ false) × (p ≡ None)
not_first true p e = absurd cc
not_first false None e = (refl, refl)
not_first false (Some n) e = absurd cc

pub place-new : (xs : List (List ℕ)) (x : List ℕ) → place_of xs x ≡ None → place_of (xs ++ x ∷ []) x ≡ Some (length xs)
unfolding place_of
place-new [] x e = rw (nat_list_eq_equiv.refl x) refl
place-new (y ∷ ys) x e =
    let k = not_first (bytes_eq y x) (place_of ys x) e in
    rw (k.0, place-new ys x k.1) refl

place-old : (xs : List (List ℕ)) (x q : List ℕ) → bytes_eq x q ≡ false → place_of (xs ++ x ∷ []) q ≡ place_of xs q
unfolding place_of
place-old [] x q e = rw (e) refl
place-old (y ∷ ys) x q e = rw (place-old ys x q e) refl

same_bytes : (x q : List ℕ) → bytes_eq x q ≡ true → x ≡ q
same_bytes x q e = search rules

by_case : (xs : List (List ℕ)) (x q : List ℕ) (b : Bool) → place_of xs x ≡ None → bytes_eq x q ≡ b → place_of (xs ++ x ∷ []) q ≡ cond b (Some (length xs)) (place_of xs q)
by_case xs x q true e is = ap (λ t. place_of (xs ++ x ∷ []) t) (sym (same_bytes x q is)) ∙ place-new xs x e
by_case xs x q false e is = place-old xs x q is

pub place-added : (xs : List (List ℕ)) (x : List ℕ) → place_of xs x ≡ None → (q : List ℕ) → place_of (xs ++ x ∷ []) q ≡ cond (bytes_eq x q) (Some (length xs)) (place_of xs q)
place-added xs x e q = by_case xs x q (bytes_eq x q) e refl

-- an index with no entry, and one with an entry more
pub index-empty : {Y S : Type 0} (m : HashMap (String Y) ℕ S) (xs : List (List ℕ)) → m.entries ≡ [] → xs ≡ [] → (name : List ℕ) → get_by_text m name ≡ place_of xs name
unfolding place_of
index-empty m xs e is name = rw (e, is) refl

pub index-added : {Y S : Type 0} (m n : HashMap (String Y) ℕ S) (bs x : List ℕ) (xs ys : List (List ℕ)) (k : ℕ) → UpdatesBy string_eq (λ t. bytes_eq bs (string_bytes t)) m n (Some k) → bs ≡ x → ys ≡ xs ++ x ∷ [] → k ≡ length xs → place_of xs x ≡ None → ((name : List ℕ) → get_by_text m name ≡ place_of xs name) → (name : List ℕ) → get_by_text n name ≡ place_of ys name
index-added m n bs x xs ys k h bx yx kx e old q =
    let step : get_by_text n q ≡ cond (bytes_eq bs q) (Some k) (get_by_text m q) = hash_map_updates_text bs m n (Some k) h q in
    step
    ∙ ap (λ b. cond (bytes_eq b q) (Some k) (get_by_text m q)) bx
    ∙ ap (λ j. cond (bytes_eq x q) (Some j) (get_by_text m q)) kx
    ∙ ap (λ p. cond (bytes_eq x q) (Some (length xs)) p) (old q)
    ∙ sym (place-added xs x e q)
    ∙ ap (λ zs. place_of zs q) (sym yx)

-- a name that had a place has it still
taken : (x q : List ℕ) (xs : List (List ℕ)) (i : ℕ) (b : Bool) → place_of xs x ≡ None → place_of xs q ≡ Some i → bytes_eq x q ≡ b → cond b (Some (length xs)) (place_of xs q) ≡ Some i
taken x q xs i true none at e = absurd (clash (ap (place_of xs) (sym (same_bytes x q e)) ∙ none) at)
  where
    clash : {o : Option ℕ} → o ≡ None → o ≡ Some i → ⊥
    clash f g = absurd cc
taken x q xs i false none at e = at

pub grown-push : (xs ys : List (List ℕ)) (x : List ℕ) → ys ≡ xs ++ x ∷ [] → place_of xs x ≡ None → IsGrown xs ys
grown-push xs ys x e none q i at = ap (λ zs. place_of zs q) e ∙ place-added xs x none q ∙ taken x q xs i (bytes_eq x q) none at refl

pub grown-same : (xs ys : List (List ℕ)) → ys ≡ xs → IsGrown xs ys
grown-same xs ys e q i at = ap (λ zs. place_of zs q) e ∙ at

pub grown-then : (xs ys zs : List (List ℕ)) → IsGrown xs ys → IsGrown ys zs → IsGrown xs zs
grown-then xs ys zs f g q i at = g q i (f q i at)

pub placed-push : (xs ys : List (List ℕ)) (x : List ℕ) → ys ≡ xs ++ x ∷ [] → place_of xs x ≡ None → IsPlaced ys x
placed-push xs ys x e none = (length xs, ap (λ zs. place_of zs x) e ∙ place-new xs x none)

pub placed-grown : (xs ys : List (List ℕ)) (x : List ℕ) → IsGrown xs ys → IsPlaced xs x → IsPlaced ys x
placed-grown xs ys x g p = (p.0, g x p.0 p.1)

-- the name at a place
next : (o : Option ℕ) (i : ℕ) → option_map suc o ≡ Some i → (j : ℕ) × (o ≡ Some j) × (i ≡ suc j)
next None i e = absurd cc
next (Some j) i e = (j, refl, grind arith)

place-by : (y : List ℕ) (ys : List (List ℕ)) (x : List ℕ) (i : ℕ) (b : Bool) → bytes_eq y x ≡ b → (if b then Some 0 else option_map suc (place_of ys x)) ≡ Some i → ((j : ℕ) → place_of ys x ≡ Some j → (j < length ys) × (get_or ys j [] ≡ x)) → (i < length (y ∷ ys)) × (get_or (y ∷ ys) i [] ≡ x)
place-by y ys x i true t f rest = let z : i ≡ 0 = grind arith in (omega (arith, z), ap (λ k. get_or (y ∷ ys) k []) z ∙ same_bytes y x t)
place-by y ys x i false t f rest =
    let n = next (place_of ys x) i f in
    let r = rest n.0 n.1 in
    (omega (arith, r.0, n.2), ap (λ k. get_or (y ∷ ys) k []) n.2 ∙ r.1)

pub place-get : (xs : List (List ℕ)) (x : List ℕ) (i : ℕ) → place_of xs x ≡ Some i → (i < length xs) × (get_or xs i [] ≡ x)
unfolding place_of
place-get [] x i e = absurd cc
place-get (y ∷ ys) x i e = place-by y ys x i (bytes_eq y x) refl e (λ j f. place-get ys x j f)

-- after a call that adds a name, or finds no memory
pub placed-call : {A E : Type 0} (r : Result A E) (xs ys : List (List ℕ)) (x : List ℕ) → place_of xs x ≡ None → OnOk r (ys ≡ xs ++ x ∷ []) → OnOk r (IsPlaced ys x)
placed-call (Ok a) xs ys x none ok = placed-push xs ys x ok none
placed-call (Err e) xs ys x none ok = ok

pub grown-call : {A E : Type 0} (r : Result A E) (xs ys : List (List ℕ)) (x : List ℕ) → place_of xs x ≡ None → OnOk r (ys ≡ xs ++ x ∷ []) → OnErr r (ys ≡ xs) → IsGrown xs ys
grown-call (Ok a) xs ys x none ok err = grown-push xs ys x ok none
grown-call (Err e) xs ys x none ok err = grown-same xs ys err

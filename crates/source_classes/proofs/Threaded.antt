-- What several threads gave, where none wanted memory.
use Rattle.std.proofs.Common.{◌≡◌, ◌∙◌, ap, sym, refl, subst, List, [], ◌∷◌, ◌++◌, map, flat_map, Result, Ok, Err}
use Rattle.std.specs.Prelude.{IfOk, MatchResult, Contains}
use Rattle.std.specs.Borrow.{Bor}
use Rattle.std.specs.List.{AllZip}
use Rattle.std.specs.declared.vec.Vec.{Vec}
use Rattle.std.proofs.lemmas.Slice.Zip.{AllZip-map}
use Rattle.rayon.proofs.ToStd.{slice-AllZip}

all-ok : {X Y : Type 0} (E : Type 0) (R : X → Y → Type 0) (xs : List X) (ys : List Y) → AllZip (λ x (r : Result Y E). IfOk r (R x)) xs (map Ok ys) → AllZip R xs ys
all-ok E R [] [] h = tt
all-ok E R [] (y ∷ ys) h = absurd h
all-ok E R (x ∷ xs) [] h = absurd h
all-ok E R (x ∷ xs) (y ∷ ys) h = (h.0, all-ok E R xs ys h.1)

-- the results at the items of a slice
pub threaded : {X Y E Z : Type 0} (R : X → Y → Type 0) (s : List X) (zs : List (Bor X)) (rs : List (Result Y E)) (r : Result (Vec Y Z) E) → map (λ (z : Bor X). z.now) zs ≡ s → AllZip (λ (z : Bor X) x. IfOk x (R z.now)) zs rs
    → MatchResult r (λ v. (ys : List Y) × (rs ≡ map Ok ys) × (v.items ≡ ys)) (λ e. Contains rs (Err e)) → IfOk r (λ v. AllZip R s v.items)
threaded {X} {Y} {E} R s zs rs (Ok v) shown each h =
    let whole = slice-AllZip zs s shown (λ x (t : Result Y E). IfOk t (R x)) rs each in
    subst (λ (l : List Y). AllZip R s l) (sym h.2) (all-ok E R s h.0 (subst (λ (l : List (Result Y E)). AllZip (λ x (t : Result Y E). IfOk t (R x)) s l) h.1 whole))
threaded R s zs rs (Err e) shown each h = tt

rows : {A B : Type 0} (f : A → List B) (xs : List A) → flat_map (λ (r : List B). r) (map f xs) ≡ flat_map f xs
rows f [] = refl
rows f (x ∷ xs) = ap (λ r. f x ++ r) (rows f xs)

-- the lists of all items, one behind the other
pub row_by_row : {A B : Type 0} (f : A → List B) (xs : List A) (ls : List (List B)) (all : List B) → AllZip (λ x l. l ≡ f x) xs ls → all ≡ flat_map (λ (l : List B). l) ls → all ≡ flat_map f xs
row_by_row f xs ls all h e = e ∙ ap (flat_map (λ l. l)) (AllZip-map f xs ls h) ∙ rows f xs

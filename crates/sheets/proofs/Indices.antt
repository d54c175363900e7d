-- Places in a list of names, one name further.
use Rattle.std.proofs.Common.{◌≡◌, sym, ap, ℕ, suc, List, [], ◌∷◌, ◌++◌, refl, Bool, true, false, if◌then◌else◌, Option, Some, None}
use Rattle.std.specs.Prelude.{option_map, bytes_eq, is_some, unwrap_or, ◌&&◌, map, Result, IfOk, MatchOption}
use Rattle.std.specs.List.{list_all}
use Rattle.name_places.specs.Places.{place_of}
use Rattle.sheets.specs.Words.{has, index_of}
use Rattle.sheets.specs.Sheets.{wanted}
use Rattle.terms.specs.declared.parts.Arg.{Arg}
use Rattle.terms.specs.declared.parts.Arg.TheVariants.{Plain}

-- a name keeps its place where names follow
same_place : (b : Bool) (p q : Option ℕ) → is_some (if b then Some 0 else option_map suc p) ≡ true → (is_some p ≡ true → q ≡ p) → (if b then Some 0 else option_map suc q) ≡ (if b then Some 0 else option_map suc p)
same_place true p q e f = refl
same_place false None q e f = absurd cc
same_place false (Some n) q e f = ap (option_map suc) (f refl)

pub place-more : (ts more : List (List ℕ)) (t : List ℕ) → has ts t ≡ true → place_of (ts ++ more) t ≡ place_of ts t
unfolding place_of
place-more [] more t h = absurd cc
place-more (x ∷ ts) more t h = same_place (bytes_eq x t) (place_of ts t) (place_of (ts ++ more) t) h (place-more ts more t)

pub index-more : (ts more : List (List ℕ)) (t : List ℕ) → has ts t ≡ true → index_of (ts ++ more) t ≡ index_of ts t
index-more ts more t h = ap (λ p. unwrap_or p 0) (place-more ts more t h)

-- where there is no body's type, the types of the arguments are all
without : (b : Bool) → (b && true) ≡ b
without true = refl
without false = refl

pub no-body : {E : Type 0} (ts xs args body : List (List ℕ)) (r : Result (Option (List Arg)) E) → xs ≡ args → body ≡ []
    → IfOk r (λ found. MatchOption found (list_all (has ts) xs ≡ false) (λ all. (list_all (has ts) xs ≡ true) × (all ≡ map (λ w. Plain (index_of ts w)) xs)))
    → IfOk r (λ found. MatchOption found ((list_all (has ts) args && list_all (has ts) body) ≡ false) (λ all. ((list_all (has ts) args && list_all (has ts) body) ≡ true) × (all ≡ wanted ts args body)))
no-body ts xs args body r is e h = rw (e, sym is, without (list_all (has ts) xs)) h

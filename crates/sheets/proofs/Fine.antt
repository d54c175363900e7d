-- Lines without a fault.
use Rattle.std.proofs.Common.{◌≡◌, ◌∙◌, sym, ap, subst, ℕ, suc, zero, ◌+◌, ◌<◌, ◌≤◌, List, [], ◌∷◌, ◌++◌, length, map, arith, refl, Bool, true, false, ◌&&◌, Option, Some, None, append_assoc, append-nil, length-append}
use Rattle.std.specs.Prelude.{is_some, option_map, unwrap_or}
use Rattle.std.specs.List.{flat_map, list_all}
use Rattle.std.proofs.lemmas.Grind.{flat_map-append}
use Rattle.sheets.specs.Words.{has, is_number}
use Rattle.sheets.specs.SheetLines.{Line, type_line, sub_line, decl_line, goal_line, number_line, binder_line, DeclWords}
use Rattle.sheets.specs.Sheets.{Seen, cause, cause_after, first_fault, or_later, no_goal, told, types_of, goals_of, binders_of, numbers_of, numbers_from, number_at, type_in, goal_in, binder_in, seen_in, once_cause, number_cause, type_cause}
use Rattle.sheets.proofs.Apart.{AreApart, not-yet}

-- a fault isn't at the first line, so it is none
pub no-first : (n : ℕ) (before : List Line) (l : Line) (ls : List Line) → cause_after before l ≡ None → first_fault (n + 1) (before ++ l ∷ []) ls ≡ None → first_fault n before (l ∷ ls) ≡ None
unfolding first_fault or_later
no-first n before l ls e h = rw (e) h

-- no fault after these lines, wherever they stand
abbrev pub IsFine : List Line → List Line → Type 0
IsFine before ls = (n : ℕ) → first_fault n before ls ≡ None

pub fine-next : (before : List Line) (l : Line) (ls : List Line) → cause_after before l ≡ None → IsFine (before ++ l ∷ []) ls → IsFine before (l ∷ ls)
fine-next before l ls e h n = no-first n before l ls e (h (n + 1))

pub fine-last : (before : List Line) → told (goals_of before) ≡ true → IsFine before []
unfolding first_fault no_goal
fine-last before e n = rw (e) refl

pub fine-moved : (a b ls : List Line) → a ≡ b → IsFine b ls → IsFine a ls
fine-moved a b ls e h = subst (λ x. IsFine x ls) (sym e) h

-- the types are declared once
pub types-of-types : (ts : List (List ℕ)) → types_of (map type_line ts) ≡ ts
types-of-types [] = refl
types-of-types (t ∷ ts) = ap (λ x. t ∷ x) (types-of-types ts)

map-snoc : (done : List (List ℕ)) (t : List ℕ) → map type_line done ++ type_line t ∷ [] ≡ map type_line (done ++ t ∷ [])
map-snoc [] t = refl
map-snoc (x ∷ done) t = ap (λ y. type_line x ∷ y) (map-snoc done t)

new-type : (before : List Line) (done : List (List ℕ)) (t : List ℕ) → types_of before ≡ done → has done t ≡ false → cause_after before (type_line t) ≡ None
unfolding cause once_cause
new-type before done t is h = rw (is, h) refl

pub fine-types : (done todo : List (List ℕ)) (ls : List Line) → AreApart (done ++ todo) → IsFine (map type_line (done ++ todo)) ls → IsFine (map type_line done) (map type_line todo ++ ls)
fine-types done [] ls apart h = fine-moved (map type_line done) (map type_line (done ++ [])) ls (ap (map type_line) (sym (append-nil done))) h
fine-types done (t ∷ todo) ls apart h =
    let same : (done ++ t ∷ []) ++ todo ≡ done ++ t ∷ todo = append_assoc done (t ∷ []) todo in
    let apart' = subst AreApart (sym same) apart in
    let h' = subst (λ x. IsFine (map type_line x) ls) (sym same) h in
    fine-next (map type_line done) (type_line t) (map type_line todo ++ ls) (new-type (map type_line done) done t (types-of-types done) (not-yet done t todo apart))
    (fine-moved (map type_line done ++ type_line t ∷ []) (map type_line (done ++ t ∷ [])) (map type_line todo ++ ls) (map-snoc done t) (fine-types (done ++ t ∷ []) todo ls apart' h'))

-- lines that declare no type and that nothing but the types before them could refuse
pub record IsFree (ts : List (List ℕ)) (l : Line) : Type 0 where
  pub cause : (seen : Seen) → cause ts seen l ≡ None
  pub type : type_in l ≡ []

abbrev pub AreFree : List (List ℕ) → List Line → Type 0
AreFree ts [] = Unit {0}
AreFree ts (l ∷ ls) = IsFree ts l × AreFree ts ls

types-kept : (before : List Line) (ts : List (List ℕ)) (l : Line) → types_of before ≡ ts → type_in l ≡ [] → types_of (before ++ l ∷ []) ≡ ts
types-kept before ts l is none = flat_map-append type_in before (l ∷ []) ∙ ap (λ x. types_of before ++ (x ++ [])) none ∙ append-nil (types_of before) ∙ is

free-cause : (before : List Line) (ts : List (List ℕ)) (l : Line) → types_of before ≡ ts → ((seen : Seen) → cause ts seen l ≡ None) → cause_after before l ≡ None
free-cause before ts l is h = ap (λ x. cause x (seen_in before) l) is ∙ h (seen_in before)

pub fine-free : (ts : List (List ℕ)) (before xs ls : List Line) → types_of before ≡ ts → AreFree ts xs → IsFine (before ++ xs) ls → IsFine before (xs ++ ls)
fine-free ts before [] ls is free h = fine-moved before (before ++ []) ls (sym (append-nil before)) h
fine-free ts before (l ∷ xs) ls is free h =
    let h' = subst (λ x. IsFine x ls) (sym (append_assoc before (l ∷ []) xs)) h in
    fine-next before l (xs ++ ls) (free-cause before ts l is free.0.cause) (fine-free ts (before ++ l ∷ []) xs ls (types-kept before ts l is free.0.type) free.1 h')

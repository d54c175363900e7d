-- The table of the sources that want each type, as it grows.
use Rattle.std.proofs.Common.{◌≡◌, ◌⊎◌, inl, inr, ℕ, zero, suc, ◌+◌, ◌<◌, ◌≤◌, true, false, ◌==◌, List, [], ◌∷◌, ◌++◌, length, map, set, take, get_or, slice_get, Some, refl, sym, ap, subst, ◌∙◌, arith, append_assoc, length-append, append-nil}
use Rattle.std.proofs.lemmas.Bool.{false≢true, or_cases, eqb-true, cases_eq}
use Rattle.std.proofs.lemmas.List.{take_more, take_all, get_or-set_same, get_or-set_other, map-set, map-append, length-take-le}
use Rattle.std.proofs.lemmas.List.Folds.{list_any-append}
use Rattle.std.proofs.lemmas.Option.{slice_get_within, get_or_from_slice_get}
use Rattle.terms.specs.Table.{has}
use Rattle.terms.specs.declared.parts.Arg.{Arg}
use Rattle.weight_bounds.specs.Rules.{Source}
use Rattle.weight_bounds.specs.Users.{wanted_of, wants, Uses, AreUsers}
use Rattle.weight_bounds.proofs.Lists.{some_eq, get-either, has-first, has-self}

-- one list of a table of lists grows
pub grows_at : {X : Type 0} (f : X → List ℕ) (vs : List X) (k place : ℕ) (v v' : X) → k < length vs → v ≡ get_or vs k v → f v' ≡ f v ++ place ∷ [] → map f (set vs k v') ≡ set (map f vs) k (get_or (map f vs) k [] ++ place ∷ [])
grows_at {X} f vs k place v v' low is more = map-set f vs k v' ∙ ap (set (map f vs) k) (more ∙ ap (λ l. l ++ place ∷ []) (ap f is ∙ sym (at vs k low)))
  where
    at : (us : List X) (j : ℕ) → j < length us → get_or (map f us) j [] ≡ f (get_or us j v)
    at [] j low' = absurd (omega (arith, low'))
    at (u ∷ us) zero low' = refl
    at (u ∷ us) (suc j) low' = at us j (omega (arith, low'))

pub length-mapped : {X Y : Type 0} (f : X → Y) (xs : List X) → length (map f xs) ≡ length xs
length-mapped f [] = refl
length-mapped f (x ∷ xs) = ap (λ n. suc n) (length-mapped f xs)

-- so what was listed stays, and the source is listed
pub uses-kept : (old new : List (List ℕ)) (p source t k : ℕ) → p < length old → new ≡ set old p (get_or old p [] ++ source ∷ []) → Uses old t k → Uses new t k
uses-kept old new p source t k low is before = subst (λ l. has k (get_or l t []) ≡ true) (sym is) (go (cases_eq t p))
  where
    go : (t ≡ p) ⊎ (t ≡ p → ⊥) → has k (get_or (set old p (get_or old p [] ++ source ∷ [])) t []) ≡ true
    go (inl same) =
        let here : get_or (set old p (get_or old p [] ++ source ∷ [])) t [] ≡ get_or old p [] ++ source ∷ [] = ap (λ j. get_or (set old p (get_or old p [] ++ source ∷ [])) j []) same ∙ get_or-set_same old p (get_or old p [] ++ source ∷ []) [] low in
        ap (has k) here ∙ has-first k (get_or old p []) (source ∷ []) (ap (λ j. has k (get_or old j [])) (sym same) ∙ before)
    go (inr apart) = ap (has k) (get_or-set_other old p t (get_or old p [] ++ source ∷ []) [] apart) ∙ before

pub uses-added : (old new : List (List ℕ)) (p source : ℕ) → p < length old → new ≡ set old p (get_or old p [] ++ source ∷ []) → Uses new p source
uses-added old new p source low is = subst (λ l. has source (get_or l p []) ≡ true) (sym is) (ap (has source) (get_or-set_same old p (get_or old p [] ++ source ∷ []) [] low) ∙ has-self source (get_or old p []))

-- what one argument more wants
wants-last : (t : ℕ) (args : List Arg) (a : Arg) → wants t (args ++ a ∷ []) ≡ true → (wants t args ≡ true) ⊎ (wanted_of a ≡ t)
wants-last t args a h = elim (or_cases (wants t args) (wants t (a ∷ [])) (sym (list_any-append (λ x. wanted_of x == t) args (a ∷ [])) ∙ h)) [
  | inl before ↦ inl before
  | inr now ↦ (elim (or_cases (wanted_of a == t) false now) [
    | inl here ↦ inr (eqb-true (wanted_of a) t here)
    | inr none ↦ absurd (false≢true none)
  ])
]

pub wants-next : (args : List Arg) (i source n : ℕ) (a d : Arg) (old new : List (List ℕ)) → i < length args → a ≡ get_or args i d → ((t k : ℕ) → Uses old t k → Uses new t k) → (wanted_of a < n → Uses new (wanted_of a) source)
    → ((t : ℕ) → wants t (take i args) ≡ true → t < n → Uses old t source) → (t : ℕ) → wants t (take (i + 1) args) ≡ true → t < n → Uses new t source
wants-next args i source n a d old new low is kept added before t h inside =
    elim (wants-last t (take i args) a (sym (ap (wants t) (take_more args i d low ∙ ap (λ x. take i args ++ x ∷ []) (sym is))) ∙ h)) [
      | inl earlier ↦ kept t source (before t earlier inside)
      | inr now ↦ subst (λ x. Uses new x source) now (added (subst (λ x. x < n) (sym now) inside))
    ]

-- no sources are listed anywhere
pub users-none : (users : List (List ℕ)) → AreUsers [] users
users-none users k t s is h inside = cc

-- one source more
pub users-more : (all : List Source) (s : Source) (n : ℕ) (old new : List (List ℕ)) → AreUsers all old → ((t k : ℕ) → Uses old t k → Uses new t k) → length new ≡ length old → n ≡ length all
    → ((t : ℕ) → wants t s.args ≡ true → t < length old → Uses new t n) → AreUsers (all ++ s ∷ []) new
users-more all s n old new before kept as_many numbered added k t x is h inside = elim (get-either all (s ∷ []) k x is) [
  | inl first ↦ kept t k (before k t x first h (omega (arith, inside, as_many)))
  | inr second ↦ last second.0 second.1 second.2
]
  where
    last : (j : ℕ) → k ≡ length all + j → slice_get (s ∷ []) j ≡ Some x → Uses new t k
    last zero at e =
        let same : s ≡ x = some_eq s x e in
        let here : n ≡ k = omega (arith, numbered, at) in
        subst (λ m. Uses new t m) here (added t (subst (λ y. wants t y.args ≡ true) (sym same) h) (omega (arith, inside, as_many)))
    last (suc j) at e = cc

pub users-next : {X : Type 0} (f : X → Source) (before : List Source) (xs : List X) (i n : ℕ) (x : X) (old new : List (List ℕ)) → slice_get xs i ≡ Some x → n ≡ length before + i → AreUsers (before ++ map f (take i xs)) old
    → ((t k : ℕ) → Uses old t k → Uses new t k) → length new ≡ length old → ((t : ℕ) → wants t (f x).args ≡ true → t < length old → Uses new t n) → AreUsers (before ++ map f (take (i + 1) xs)) new
users-next f before xs i n x old new is numbered users kept as_many added =
    let low = slice_get_within xs i x is in
    let one : map f (take (i + 1) xs) ≡ map f (take i xs) ++ f x ∷ [] = ap (map f) (take_more xs i x low ∙ ap (λ y. take i xs ++ y ∷ []) (get_or_from_slice_get xs i x x is)) ∙ map-append f (take i xs) (x ∷ []) in
    let whole : before ++ map f (take (i + 1) xs) ≡ (before ++ map f (take i xs)) ++ f x ∷ [] = ap (λ l. before ++ l) one ∙ sym (append_assoc before (map f (take i xs)) (f x ∷ [])) in
    let long = length-append before (map f (take i xs)) in
    let mapped = length-mapped f (take i xs) in
    let taken = length-take-le i xs (omega (arith, low)) in
    subst (λ l. AreUsers l new) (sym whole) (users-more (before ++ map f (take i xs)) (f x) n old new users kept as_many (omega (arith, numbered, long, mapped, taken)) added)

pub users-end : {X : Type 0} (f : X → Source) (before : List Source) (xs : List X) (i : ℕ) (users : List (List ℕ)) → length xs ≤ i → AreUsers (before ++ map f (take i xs)) users → AreUsers (before ++ map f xs) users
users-end f before xs i users past all = subst (λ l. AreUsers (before ++ map f l) users) (take_all i xs past) all

pub users-start : {X : Type 0} (f : X → Source) (xs : List X) (users : List (List ℕ)) → AreUsers (map f (take 0 xs)) users
users-start f [] users = users-none users
users-start f (x ∷ xs) users = users-none users

pub users-begin : {X : Type 0} (f : X → Source) (before : List Source) (xs : List X) (users : List (List ℕ)) → AreUsers before users → AreUsers (before ++ map f (take 0 xs)) users
users-begin f before [] users are = subst (λ l. AreUsers l users) (sym (append-nil before)) are
users-begin f before (x ∷ xs) users are = subst (λ l. AreUsers l users) (sym (append-nil before)) are

-- nothing is wanted by no arguments
pub wants-none : (t : ℕ) → wants t [] ≡ true → ⊥
wants-none t h = false≢true h

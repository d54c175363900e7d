-- The cursors of a session by the place of the first of a number.
use Rattle.std.proofs.Common.{◌≡◌, ℕ, zero, suc, ◌+◌, ◌<◌, Bool, true, false, cond, Option, Some, None, List, [], ◌∷◌, length, get_or, refl, sym, ap, subst, ◌∙◌, arith}
use Rattle.std.specs.Prelude.{◌==◌, if◌then◌else◌, position, slice_get, slice_set, find, filter, not, is_some}
use Rattle.std.proofs.lemmas.Option.{slice_get-get_or}
use Rattle.std.proofs.lemmas.Bool.{eqb-true}
use Rattle.std.proofs.lemmas.List.Quantifiers.{position-Some}
use Rattle.answers.specs.declared.types.Cursor.{Cursor}
use Rattle.answers.specs.Cursors.{look, moved, without}
use Rattle.sessions.proofs.Cases.{find_there, find_nowhere}
use Rattle.terms.specs.Weights.{usual_steps}

look_find : (k : ℕ) (cs : List Cursor) → look k cs ≡ find (λ c. c.number == k) cs
unfolding look
look_find k [] = refl
look_find k (c ∷ cs) = ap (λ t. if c.number == k then Some c else t) (look_find k cs)

pub look_there : (k i : ℕ) (cs : List Cursor) → position (λ c. c.number == k) cs ≡ Some i → look k cs ≡ slice_get cs i
look_there k i cs e = look_find k cs ∙ find_there (λ c. c.number == k) cs i e

pub look_at : (k i : ℕ) (cs : List Cursor) (c : Cursor) → position (λ c. c.number == k) cs ≡ Some i → slice_get cs i ≡ Some c → look k cs ≡ Some c
look_at k i cs c e at = look_there k i cs e ∙ at

pub look_nowhere : (k : ℕ) (cs : List Cursor) → position (λ c. c.number == k) cs ≡ None → look k cs ≡ None
look_nowhere k cs e = look_find k cs ∙ find_nowhere (λ c. c.number == k) cs e

abbrev nobody : Cursor
nobody = record { number = 0; env = record { types = []; pairs = []; decls = []; goal = 0; limit = 0; depth = 0; binder = []; steps = usual_steps }; version = 0; start = (0, 0); end = (0, 0); answered = 0 }

-- It stands within the list.
pub within : (k i : ℕ) (cs : List Cursor) → position (λ c. c.number == k) cs ≡ Some i → i < length cs
within k i cs e = (position-Some (λ c. c.number == k) cs i nobody e).0

found_by : (k : ℕ) (cs : List Cursor) (o : Option ℕ) → position (λ c. c.number == k) cs ≡ o → is_some o ≡ is_some (look k cs)
found_by k cs None e = rw (look_nowhere k cs e) refl
found_by k cs (Some i) e =
    let is : look k cs ≡ Some (get_or cs i nobody) = look_there k i cs e ∙ slice_get-get_or cs i nobody (within k i cs e) in
    rw is refl

pub found : (k : ℕ) (cs : List Cursor) → is_some (position (λ c. c.number == k) cs) ≡ is_some (look k cs)
found k cs = found_by k cs (position (λ c. c.number == k) cs) refl

moved_from : (k i n : ℕ) (cs : List Cursor) (d : Cursor) → i < length cs → ((get_or cs i d).number == k) ≡ true → ((j : ℕ) → j < i → ((get_or cs j d).number == k) ≡ false)
    → slice_set cs i (record (get_or cs i d) { answered = (get_or cs i d).answered + n }) ≡ moved k n cs
unfolding moved
moved_from k i n [] d l is not = absurd (omega (arith, l))
moved_from k zero n (c ∷ cs) d l is not = rw is refl
moved_from k (suc i) n (c ∷ cs) d l is not =
    let first : (c.number == k) ≡ false = not 0 (omega arith) in
    rw first (ap (λ t. c ∷ t) (moved_from k i n cs d (omega (arith, l)) is (λ j below. not (suc j) (omega (arith, below)))))

-- A write at that place moves the cursor on.
pub moved_at : (k i n : ℕ) (cs : List Cursor) (c : Cursor) → position (λ c. c.number == k) cs ≡ Some i → c ≡ get_or cs i c
    → slice_set cs i (record c { answered = c.answered + n }) ≡ moved k n cs
moved_at k i n cs c e at =
    let there : (i < length cs) × (((get_or cs i c).number == k) ≡ true) × ((j : ℕ) → j < i → ((get_or cs j c).number == k) ≡ false) = position-Some (λ c. c.number == k) cs i c e in
    subst (λ (x : Cursor). slice_set cs i (record x { answered = x.answered + n }) ≡ moved k n cs) (sym at) (moved_from k i n cs c there.0 there.1 there.2)

without_if : (b : Bool) (c : Cursor) (xs ys : List Cursor) → xs ≡ ys → (if b then xs else c ∷ xs) ≡ cond (not b) (c ∷ ys) ys
without_if true c xs ys e = e
without_if false c xs ys e = ap (λ t. c ∷ t) e

-- What is left without a number are the cursors of other numbers.
pub without_filter : (k : ℕ) (cs : List Cursor) → without k cs ≡ filter (λ c. not (c.number == k)) cs
unfolding without
without_filter k [] = refl
without_filter k (c ∷ cs) = without_if (c.number == k) c (without k cs) (filter (λ c. not (c.number == k)) cs) (without_filter k cs)

-- Its number is that.
pub numbered : (k i : ℕ) (cs : List Cursor) (c : Cursor) → position (λ c. c.number == k) cs ≡ Some i → slice_get cs i ≡ Some c → c.number ≡ k
numbered k i cs c e at =
    let there : (i < length cs) × (((get_or cs i c).number == k) ≡ true) × ((j : ℕ) → j < i → ((get_or cs j c).number == k) ≡ false) = position-Some (λ c. c.number == k) cs i c e in
    let read : slice_get cs i ≡ Some (get_or cs i c) = slice_get-get_or cs i c there.0 in
    let same : get_or cs i c ≡ c = cc in
    eqb-true c.number k (subst (λ (x : Cursor). (x.number == k) ≡ true) same there.1)

pub ruleset kept = (look_at, look_nowhere, within, found, moved_at)

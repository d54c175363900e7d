-- Words looked up in tables by their length.
use Rattle.std.proofs.Common.{◌≡◌, ◌≢◌, ◌∙◌, ◌<◌, ◌≤◌, ap, sym, ℕ, zero, suc, ◌+◌, Bool, true, false, ◌&&◌, ◌||◌, ◌==◌, List, [], ◌∷◌, ◌++◌, length, refl, slice_index_or, arith, rules, tests}
use Rattle.std.specs.List.{list_all}
use Rattle.std.specs.Prelude.{bytes_eq}
use Rattle.std.proofs.lemmas.Slice.Eq.{bytes_eq-Decides}
use denote.Ref.{Bor}
use Rattle.java_units.specs.Signs.{has}
use Rattle.java_units.specs.Words.{texts, groups_of, joined, are_by_length}

and_left : (a b : Bool) → (a && b) ≡ true → a ≡ true
and_left true b e = refl
and_left false b e = absurd cc

and_right : (a b : Bool) → (a && b) ≡ true → b ≡ true
and_right true b e = e
and_right false b e = absurd cc

same_number : (a b : ℕ) → (a == b) ≡ true → a ≡ b
same_number a b e = search (rules, tests)

other_if : (b : Bool) (x w : List ℕ) → length x ≢ length w → bytes_eq x w ≡ b → b ≡ false
other_if true x w n e = absurd (n (ap length ((bytes_eq-Decides x w).0 e)))
other_if false x w n e = refl

-- texts of different lengths are different
other : (x w : List ℕ) → length x ≢ length w → bytes_eq x w ≡ false
other x w n = other_if (bytes_eq x w) x w n refl

or_append : (a b c : Bool) → (a || (b || c)) ≡ ((a || b) || c)
or_append true b c = refl
or_append false b c = refl

has_append : (xs ys : List (List ℕ)) (w : List ℕ) → has (xs ++ ys) w ≡ (has xs w || has ys w)
unfolding has
has_append [] ys w = refl
has_append (x ∷ xs) ys w = ap (λ b. bytes_eq x w || b) (has_append xs ys w) ∙ or_append (bytes_eq x w) (has xs w) (has ys w)

or_none : (a : Bool) → (a || false) ≡ a
or_none true = refl
or_none false = refl

-- a table of texts of another length
has_other : (xs : List (List ℕ)) (n : ℕ) (w : List ℕ) → list_all (λ x. length x == n) xs ≡ true → n ≢ length w → has xs w ≡ false
unfolding has
has_other [] n w h k = refl
has_other (x ∷ xs) n w h k =
    let e : length x ≡ n = same_number (length x) n (and_left (length x == n) (list_all (λ x. length x == n) xs) h) in
    let d : length x ≢ length w = λ q. k (sym e ∙ q) in
    ap (λ b. b || has xs w) (other x w d) ∙ has_other xs n w (and_right (length x == n) (list_all (λ x. length x == n) xs) h) k

-- all these tables have longer texts
has_longer : (gs : List (List (List ℕ))) (n : ℕ) (w : List ℕ) → are_by_length n gs ≡ true → length w < n → has (joined gs) w ≡ false
unfolding has
has_longer [] n w h l = refl
has_longer (g ∷ gs) n w h l =
    let d : n ≢ length w = λ e. absurd (omega arith) in
    has_append g (joined gs) w
    ∙ (ap (λ b. b || has (joined gs) w) (has_other g n w (and_left (list_all (λ x. length x == n) g) (are_by_length (suc n) gs) h) d)
    ∙ has_longer gs (suc n) w (and_right (list_all (λ x. length x == n) g) (are_by_length (suc n) gs) h) (omega arith))

-- the first table has texts of another length
has_later : (g : List (List ℕ)) (gs : List (List (List ℕ))) (n : ℕ) (w : List ℕ) → are_by_length n (g ∷ gs) ≡ true → n < length w → has (joined (g ∷ gs)) w ≡ has (joined gs) w
has_later g gs n w h l =
    let d : n ≢ length w = λ e. absurd (omega arith) in
    has_append g (joined gs) w ∙ ap (λ b. b || has (joined gs) w) (has_other g n w (and_left (list_all (λ x. length x == n) g) (are_by_length (suc n) gs) h) d)

-- all these tables have shorter texts
has_shorter : (gs : List (List (List ℕ))) (n : ℕ) (w : List ℕ) → are_by_length n gs ≡ true → length gs + n ≤ length w → has (joined gs) w ≡ false
unfolding has
has_shorter [] n w h l = refl
has_shorter (g ∷ gs) n w h l =
    has_later g gs n w h (omega arith) ∙ has_shorter gs (suc n) w (and_right (list_all (λ x. length x == n) g) (are_by_length (suc n) gs) h) (omega arith)

groups-length : (gs : List (Bor (List (Bor (List ℕ))))) → length (groups_of gs) ≡ length gs
groups-length [] = refl
groups-length (g ∷ gs) = ap suc (groups-length gs)

has_at : (gs : List (Bor (List (Bor (List ℕ))))) (k n : ℕ) (d : Bor (List (Bor (List ℕ)))) (w : List ℕ) → k < length gs → are_by_length n (groups_of gs) ≡ true → k + n ≡ length w
    → has (texts (slice_index_or gs k d).now) w ≡ has (joined (groups_of gs)) w
has_at [] k n d w l h e = absurd (omega arith)
has_at (g ∷ gs) zero n d w l h e =
    let rest = has_longer (groups_of gs) (suc n) w (and_right (list_all (λ x. length x == n) (texts g.now)) (are_by_length (suc n) (groups_of gs)) h) (omega arith) in
    sym (has_append (texts g.now) (joined (groups_of gs)) w ∙ (ap (λ b. has (texts g.now) w || b) rest ∙ or_none (has (texts g.now) w)))
has_at (g ∷ gs) (suc k) n d w l h e =
    has_at gs k (suc n) d w (omega arith) (and_right (list_all (λ x. length x == n) (texts g.now)) (are_by_length (suc n) (groups_of gs)) h) (omega arith)
    ∙ sym (has_later (texts g.now) (groups_of gs) n w h (omega arith))

pub in_group : (gs : List (Bor (List (Bor (List ℕ))))) (k : ℕ) (d : Bor (List (Bor (List ℕ)))) (w : List ℕ) → k < length gs → are_by_length 0 (groups_of gs) ≡ true → k ≡ length w
    → has (texts (slice_index_or gs k d).now) w ≡ has (joined (groups_of gs)) w
in_group gs k d w l h e = has_at gs k 0 d w l h (omega arith)

pub past_groups : (gs : List (Bor (List (Bor (List ℕ))))) (w : List ℕ) → are_by_length 0 (groups_of gs) ≡ true → length gs ≤ length w → has (joined (groups_of gs)) w ≡ false
past_groups gs w h l = has_shorter (groups_of gs) 0 w h (omega (arith, groups-length gs))

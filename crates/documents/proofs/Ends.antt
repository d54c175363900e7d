-- Where lines end: in the parts of a text, after an edit, and what begins there.
use Rattle.std.proofs.Common.{◌≡◌, ◌∙◌, sym, ap, ℕ, ◌+◌, ◌-◌, ◌≤◌, ◌<◌, List, [], ◌∷◌, ◌++◌, length, map, refl, arith, Bool, true, false, if◌then◌else◌, All, append_assoc}
use Rattle.std.proofs.lemmas.List.Elements.{All-nil, All-cons, All-head, All-same, All-weaker, All-tail}
use Rattle.documents.specs.Places.{is_newline, starts_with_lf, ends_line, ends_in}
use Rattle.documents.proofs.Laws.{plain-no_end}

cons_if : (b : Bool) (h : ℕ) (t u v : List ℕ) → t ≡ u ++ v → (if b then h ∷ t else t) ≡ (if b then h ∷ u else u) ++ v
cons_if true h t u v e = ap (λ x. h ∷ x) e
cons_if false h t u v e = e

-- Line ends in two parts.
pub ends-append : (at : ℕ) (x y r : List ℕ) → ends_in at (x ++ y) r ≡ ends_in at x (y ++ r) ++ ends_in (at + length x) y r
unfolding ends_in
ends-append at [] y r = ap (λ n. ends_in n y r) (omega arith)
ends-append at (c ∷ x) y r =
    let moved : at + 1 + length x ≡ at + length (c ∷ x) = omega arith in
    ap (λ z. if ends_line c z then (at + 1) ∷ ends_in (at + 1) (x ++ y) r else ends_in (at + 1) (x ++ y) r) (append_assoc x y r)
    ∙ cons_if (ends_line c (x ++ (y ++ r))) (at + 1) (ends_in (at + 1) (x ++ y) r) (ends_in (at + 1) x (y ++ r)) (ends_in (at + length (c ∷ x)) y r)
    (ends-append (at + 1) x y r ∙ ap (λ n. ends_in (at + 1) x (y ++ r) ++ ends_in n y r) moved)

pub all_if : (P : ℕ → Type 0) (b : Bool) (h : ℕ) (t : List ℕ) → P h → All P t → All P (if b then h ∷ t else t)
all_if P true h t p q = All-cons P h t p q
all_if P false h t p q = q

pub ends-above : (at : ℕ) (x r : List ℕ) → All (λ a. at < a) (ends_in at x r)
unfolding ends_in
ends-above at [] r = All-nil (λ a. at < a)
ends-above at (c ∷ x) r = all_if (λ a. at < a) (ends_line c (x ++ r)) (at + 1) (ends_in (at + 1) x r) (omega arith) (All-weaker (λ a. at + 1 < a) (λ a. at < a) (λ a h. omega arith) (ends_in (at + 1) x r) (ends-above (at + 1) x r))

pub ends-below : (at : ℕ) (x r : List ℕ) → All (λ a. a ≤ at + length x) (ends_in at x r)
unfolding ends_in
ends-below at [] r = All-nil (λ a. a ≤ at + 0)
ends-below at (c ∷ x) r = all_if (λ a. a ≤ at + length (c ∷ x)) (ends_line c (x ++ r)) (at + 1) (ends_in (at + 1) x r) (omega arith) (All-weaker (λ a. a ≤ at + 1 + length x) (λ a. a ≤ at + length (c ∷ x)) (λ a h. omega arith) (ends_in (at + 1) x r) (ends-below (at + 1) x r))

pub same_end : (c : ℕ) (r s : List ℕ) → starts_with_lf r ≡ starts_with_lf s → ends_line c r ≡ ends_line c s
unfolding ends_line
same_end c r s e = rw e refl

-- Of what follows only its first byte counts.
pub ends-context : (at : ℕ) (x r s : List ℕ) → starts_with_lf r ≡ starts_with_lf s → ends_in at x r ≡ ends_in at x s
unfolding ends_in ends_line
ends-context at [] r s e = refl
ends-context at (c ∷ []) r s e = ap (λ b. if b then (at + 1) ∷ [] else []) (same_end c r s e)
ends-context at (c ∷ d ∷ x) r s e = ap (λ t. if ends_line c (d ∷ x ++ r) then (at + 1) ∷ t else t) (ends-context (at + 1) (d ∷ x) r s e)

map_if : (f : ℕ → ℕ) (b : Bool) (h k : ℕ) (t u : List ℕ) → f h ≡ k → map f t ≡ u → map f (if b then h ∷ t else t) ≡ (if b then k ∷ u else u)
map_if f true h k t u e g = ap (λ x. x ∷ map f t) e ∙ ap (λ x. k ∷ x) g
map_if f false h k t u e g = g

-- Line ends of a part that has moved.
pub ends-moved : (from to k : ℕ) (x r : List ℕ) → map (λ a. a - from + to) (ends_in (from + k) x r) ≡ ends_in (to + k) x r
unfolding ends_in
ends-moved from to k [] r = refl
ends-moved from to k (c ∷ x) r =
    let here : from + k + 1 - from + to ≡ to + k + 1 = omega arith in
    let a : from + (k + 1) ≡ from + k + 1 = omega arith in
    let b : to + (k + 1) ≡ to + k + 1 = omega arith in
    map_if (λ a. a - from + to) (ends_line c (x ++ r)) (from + k + 1) (to + k + 1) (ends_in (from + k + 1) x r) (ends_in (to + k + 1) x r) here
    (ap (λ n. map (λ a. a - from + to) (ends_in n x r)) (sym a) ∙ ends-moved from to (k + 1) x r ∙ ap (λ n. ends_in n x r) b)

first_of : List ℕ → ℕ
first_of [] = 0
first_of (x ∷ xs) = x

rest_of : List ℕ → List ℕ
rest_of [] = []
rest_of (x ∷ xs) = xs

same_first : (x y : ℕ) (xs ys : List ℕ) → x ∷ xs ≡ y ∷ ys → x ≡ y
unfolding first_of
same_first x y xs ys e = ap first_of e

same_rest : (x y : ℕ) (xs ys : List ℕ) → x ∷ xs ≡ y ∷ ys → xs ≡ ys
unfolding rest_of
same_rest x y xs ys e = ap rest_of e

-- A list is parted at a bound in one way.
pub split_same : (b : ℕ) (xs ys zs ws : List ℕ) → xs ++ ys ≡ zs ++ ws → All (λ a. a ≤ b) xs → All (λ a. b < a) ys → All (λ a. a ≤ b) zs → All (λ a. b < a) ws → (xs ≡ zs) × (ys ≡ ws)
split_same b [] ys [] ws e p q r s = (refl, e)
split_same b [] ys (z ∷ zs) ws e p q r s =
    let few : z ≤ b = All-head (λ a. a ≤ b) z zs r in
    let many : b < z = All-head (λ a. b < a) z (zs ++ ws) (All-same (λ a. b < a) (z ∷ zs ++ ws) ys (sym e) q) in
    absurd (omega arith)
split_same b (x ∷ xs) ys [] ws e p q r s =
    let few : x ≤ b = All-head (λ a. a ≤ b) x xs p in
    let many : b < x = All-head (λ a. b < a) x (xs ++ ys) (All-same (λ a. b < a) (x ∷ xs ++ ys) ws e s) in
    absurd (omega arith)
split_same b (x ∷ xs) ys (z ∷ zs) ws e p q r s =
    let rest = split_same b xs ys zs ws (same_rest x z (xs ++ ys) (zs ++ ws) e) (All-tail (λ a. a ≤ b) x xs p) q (All-tail (λ a. a ≤ b) z zs r) s in
    (ap (λ y. y ∷ xs) (same_first x z (xs ++ ys) (zs ++ ws) e) ∙ ap (λ t. z ∷ t) rest.0, rest.1)

-- No line ends among bytes that are no newlines.
pub ends-plain : (at : ℕ) (x y r : List ℕ) → All (λ b. is_newline b ≡ false) x → ends_in at (x ++ y) r ≡ ends_in (at + length x) y r
unfolding ends_in
ends-plain at [] y r h = ap (λ n. ends_in n y r) (omega arith)
ends-plain at (c ∷ x) y r h =
    let plain : ends_line c ((x ++ y) ++ r) ≡ false = plain-no_end c ((x ++ y) ++ r) (All-head (λ b. is_newline b ≡ false) c x h) in
    let moved : at + 1 + length x ≡ at + length (c ∷ x) = omega arith in
    rw plain (ends-plain (at + 1) x y r (All-tail (λ b. is_newline b ≡ false) c x h) ∙ ap (λ n. ends_in n y r) moved)

pub ends-first : (at c : ℕ) (x r : List ℕ) → ends_line c (x ++ r) ≡ true → ends_in at (c ∷ x) r ≡ (at + 1) ∷ ends_in (at + 1) x r
unfolding ends_in
ends-first at c x r e = rw e refl

pub ends-later : (at c : ℕ) (x r : List ℕ) → ends_line c (x ++ r) ≡ false → ends_in at (c ∷ x) r ≡ ends_in (at + 1) x r
unfolding ends_in
ends-later at c x r e = rw e refl

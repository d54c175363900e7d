-- A word is a variable by its run of `p`.
use Rattle.std.proofs.Common.{◌≡◌, ℕ, zero, suc, ◌+◌, ◌-◌, ◌<◌, ◌≤◌, ◌⊎◌, inl, inr, Bool, true, false, not, ◌||◌, ◌==◌, if◌then◌else◌, List, [], ◌∷◌, length, replicate, drop, map, bytes_eq, get_or, unwrap_or, refl, sym, ◌∙◌, ap, arith, rules, zero-add, drop-cons, add-one, drop_of_length-le, Some, None}
use Rattle.std.specs.List.{list_any, list_all}
use Rattle.std.proofs.lemmas.List.{get_or-replicate, length-replicate, length-map}
use Rattle.java_tokens.specs.Classes.{is_digit}
use Rattle.class_summary.specs.Names.{first_from}
use Rattle.scopes.specs.Binders.{is_digits, is_variable, run_from, run_of, binder_of, free_of, IsMarked}

digit_of_p : (cs : List ℕ) → is_digits (112 ∷ cs) ≡ false
unfolding is_digit
digit_of_p cs = refl

same_bytes : (w : List ℕ) → bytes_eq w w ≡ true
same_bytes w = search rules

variable-zero : (w : List ℕ) → is_variable 0 w ≡ is_digits w
unfolding is_variable
variable-zero w = rw (same_bytes w)

variable-nil : (m : ℕ) → is_variable (suc m) [] ≡ false
unfolding is_variable
variable-nil m = refl

variable-p : (m : ℕ) (cs : List ℕ) → is_variable (suc m) (112 ∷ cs) ≡ is_variable m cs
unfolding is_variable
variable-p m cs = refl

variable-other : (m c : ℕ) (cs : List ℕ) → (112 == c) ≡ false → is_variable (suc m) (c ∷ cs) ≡ false
unfolding is_variable
variable-other m c cs e = rw e

run-nil : (k : ℕ) → run_from k [] ≡ 0
unfolding run_from
run-nil k = refl

run-p : (k : ℕ) (cs : List ℕ) → run_from k (112 ∷ cs) ≡ run_from (k + 1) cs
unfolding run_from
run-p k cs = refl

run-other : (k c : ℕ) (cs : List ℕ) → (c == 112) ≡ false → run_from k (c ∷ cs) ≡ (if is_digits (c ∷ cs) then k else 0)
unfolding run_from
run-other k c cs e = rw e

pub digits_some : (bytes : List ℕ) → (length bytes ≡ 0 → ⊥) → is_digits bytes ≡ list_all is_digit bytes
digits_some [] h = absurd (h refl)
digits_some (b ∷ bs) h = refl

pub run_step : (word : List ℕ) (i : ℕ) → i < length word → get_or word i 0 ≡ 112 → run_from i (drop i word) ≡ run_from (i + 1) (drop (i + 1) word)
run_step word i h e = rw (drop-cons word i 0) (rw e (run-p i (drop (suc i) word) ∙ rw add-one refl))

pub run_stop : (word : List ℕ) (i : ℕ) → i < length word → (get_or word i 0 ≡ 112 → ⊥) → run_from i (drop i word) ≡ (if is_digits (drop i word) then i else 0)
run_stop word i h e = let t : (get_or word i 0 == 112) ≡ false = grind (arith, e) in rw (drop-cons word i 0) (run-other i (get_or word i 0) (drop (suc i) word) t)

pub run_end : (word : List ℕ) (i : ℕ) → length word ≤ i → run_from i (drop i word) ≡ 0
run_end word i h = let e : drop i word ≡ [] = drop_of_length-le word h in rw e (run-nil i)

first-zero : (i : ℕ) (test : ℕ → Bool) → first_from 0 i test ≡ None
unfolding first_from
first-zero i test = refl

first-suc : (n i : ℕ) (test : ℕ → Bool) → first_from (suc n) i test ≡ (if test i then Some i else first_from n (suc i) test)
unfolding first_from
first-suc n i test = refl

-- The first number that passes isn't below n.
pub first_more : (n i : ℕ) (test : ℕ → Bool) → i < n → test i ≡ false → first_from (n - i) i test ≡ first_from (n - (i + 1)) (i + 1) test
first_more n i test h e = let m : n - i ≡ suc (n - (i + 1)) = omega arith in rw m (first-suc (n - (i + 1)) i test ∙ rw e (rw add-one refl))

pub first_here : (n i : ℕ) (test : ℕ → Bool) → i < n → test i ≡ true → first_from (n - i) i test ≡ Some i
first_here n i test h e = let m : n - i ≡ suc (n - (i + 1)) = omega arith in rw m (first-suc (n - (i + 1)) i test ∙ rw e refl)

pub first_none : (n i : ℕ) (test : ℕ → Bool) → n ≤ i → first_from (n - i) i test ≡ None
first_none n i test h = let m : n - i ≡ 0 = omega arith in rw m (first-zero i test)

run-p-by : (k c : ℕ) (cs : List ℕ) → (c == 112) ≡ true → run_from k (c ∷ cs) ≡ run_from (k + 1) cs
unfolding run_from
run-p-by k c cs e = rw e

low_else : (k c : ℕ) (cs : List ℕ) (b : Bool) → run_from k (c ∷ cs) ≡ (if b then k else 0) → (run_from k (c ∷ cs) ≡ 0) ⊎ (k ≤ run_from k (c ∷ cs))
low_else k c cs true e = inr (omega (arith, e))
low_else k c cs false e = inl e

low_by : (k c : ℕ) (cs : List ℕ) (b : Bool) → (c == 112) ≡ b → (run_from (k + 1) cs ≡ 0) ⊎ (k + 1 ≤ run_from (k + 1) cs) → (run_from k (c ∷ cs) ≡ 0) ⊎ (k ≤ run_from k (c ∷ cs))
low_by k c cs true e h =
    let s : run_from k (c ∷ cs) ≡ run_from (k + 1) cs = run-p-by k c cs e in
    elim h [ inl z ↦ inl (s ∙ z) | inr m ↦ inr (omega (arith, s)) ]
low_by k c cs false e h = low_else k c cs (is_digits (c ∷ cs)) (run-other k c cs e)

run_low : (w : List ℕ) (k : ℕ) → (run_from k w ≡ 0) ⊎ (k ≤ run_from k w)
run_low [] k = inl (run-nil k)
run_low (c ∷ cs) k = low_by k c cs (c == 112) refl (run_low cs (k + 1))

no_digits : is_digits [] ≡ false
no_digits = refl

eq_apart : (a b : ℕ) → (a ≡ b → ⊥) → (a == b) ≡ false
eq_apart a b h = grind (arith, h)

eq_same : (a : ℕ) → (a == a) ≡ true
eq_same a = search rules

beyond : (k c : ℕ) (cs : List ℕ) (n : ℕ) (b : Bool) → run_from k (c ∷ cs) ≡ (if b then k else 0) → run_from k (c ∷ cs) ≡ k + suc n → ⊥
beyond k c cs n true r x = omega arith
beyond k c cs n false r x = omega arith

stands : (k c : ℕ) (cs : List ℕ) → 0 < k → (b : Bool) → is_digits (c ∷ cs) ≡ b → run_from k (c ∷ cs) ≡ (if is_digits (c ∷ cs) then k else 0) → is_digits (c ∷ cs) ≡ (run_from k (c ∷ cs) == k + 0)
stands k c cs h true d r = let s : run_from k (c ∷ cs) ≡ k + 0 = r ∙ (rw d (omega arith)) in d ∙ sym (rw s (eq_same (k + 0)))
stands k c cs h false d r = let s : run_from k (c ∷ cs) ≡ 0 = r ∙ (rw d refl) in d ∙ sym (eq_apart (run_from k (c ∷ cs)) (k + 0) (λ x. omega arith))

by_letter : (c : ℕ) (cs : List ℕ) (k n : ℕ) → 0 < k + n → (b : Bool) → (c == 112) ≡ b → ((m : ℕ) → 0 < k + 1 + m → is_variable m cs ≡ (run_from (k + 1) cs == k + 1 + m)) → is_variable n (c ∷ cs) ≡ (run_from k (c ∷ cs) == k + n)
by_letter c cs k zero h true e more =
    let p : c ≡ 112 = grind (arith, e) in
    let d : is_digits (c ∷ cs) ≡ false = rw p (digit_of_p cs) in
    let s : run_from k (c ∷ cs) ≡ run_from (k + 1) cs = run-p-by k c cs e in
    variable-zero (c ∷ cs) ∙ (d ∙ sym (eq_apart (run_from k (c ∷ cs)) (k + 0) (λ x. elim (run_low cs (k + 1)) [ inl z ↦ omega arith | inr m ↦ omega arith ])))
by_letter c cs k (suc n) h true e more =
    let p : c ≡ 112 = grind (arith, e) in
    let s : run_from k (c ∷ cs) ≡ run_from (k + 1) cs = run-p-by k c cs e in
    let v : is_variable (suc n) (c ∷ cs) ≡ is_variable n cs = rw p (variable-p n cs) in
    let a : k + 1 + n ≡ k + suc n = omega arith in
    v ∙ (more n (omega arith) ∙ (rw (s, a)))
by_letter c cs k zero h false e more =
    variable-zero (c ∷ cs) ∙ stands k c cs (omega arith) (is_digits (c ∷ cs)) refl (run-other k c cs e)
by_letter c cs k (suc n) h false e more =
    let q : (112 == c) ≡ false = grind (arith, e) in
    variable-other n c cs q ∙ sym (eq_apart (run_from k (c ∷ cs)) (k + suc n) (λ x. beyond k c cs n (is_digits (c ∷ cs)) (run-other k c cs e) x))

-- At n the word's run is told from k on.
pub variable_run : (w : List ℕ) (k n : ℕ) → 0 < k + n → is_variable n w ≡ (run_from k w == k + n)
variable_run [] k zero h = variable-zero [] ∙ sym (eq_apart (run_from k []) (k + 0) (λ e. let r : run_from k [] ≡ 0 = run-nil k in omega arith))
variable_run [] k (suc n) h = variable-nil n ∙ sym (eq_apart (run_from k []) (k + suc n) (λ e. let r : run_from k [] ≡ 0 = run-nil k in omega arith))
variable_run (c ∷ cs) k n h = by_letter c cs k n h (c == 112) refl (variable_run cs (k + 1))

variable_at : (w : List ℕ) (n : ℕ) → 0 < n → is_variable n w ≡ (run_of w == n)
variable_at w n h = variable_run w 0 n (omega arith) ∙ ap (λ m. run_from 0 w == m) (zero-add n)

-- A word among others makes a variable at n by its run alone.
pub any_run : (n : ℕ) → 0 < n → (ws : List (List ℕ)) → list_any (is_variable n) ws ≡ list_any (λ r. r == n) (map run_of ws)
any_run n h [] = refl
any_run n h (w ∷ ws) = rw (variable_at w n h) (ap (λ b. (run_of w == n) || b) (any_run n h ws))

-- Tests that agree find the same first number.
pub first_same : (n i : ℕ) (p q : ℕ → Bool) → ((m : ℕ) → i ≤ m → m < i + n → p m ≡ q m) → first_from n i p ≡ first_from n i q
first_same zero i p q h = first-zero i p ∙ sym (first-zero i q)
first_same (suc n) i p q h =
    first-suc n i p
    ∙ (rw (h i (omega arith) (omega arith)) (ap (λ o. if q i then Some i else o) (first_same n (suc i) p q (λ m a b. h m (omega arith) (omega arith))))
    ∙ sym (first-suc n i q))

pub binder_free : (runs : List ℕ) (ws : List (List ℕ)) → runs ≡ map run_of ws → replicate (free_of runs) 112 ≡ binder_of ws
unfolding free_of binder_of
binder_free runs ws e =
    let l : length (map run_of ws) ≡ length ws = length-map ws run_of in
    let f : first_from (suc (length runs)) 1 (λ n. not (list_any (λ r. r == n) runs)) ≡ first_from (suc (length ws)) 1 (λ n. not (list_any (is_variable n) ws)) =
    rw (e, l) (first_same (suc (length ws)) 1 (λ n. not (list_any (λ r. r == n) (map run_of ws))) (λ n. not (list_any (is_variable n) ws)) (λ m a b. ap not (sym (any_run m (omega arith) ws)))) in
    ap (λ o. replicate (unwrap_or o 1) 112) f

pub free_marked : (runs : List ℕ) (old marks : List Bool) → old ≡ replicate (length runs + 2) false → IsMarked runs old marks → unwrap_or (first_from (length marks - 1) 1 (λ n. not (get_or marks n false))) 1 ≡ free_of runs
unfolding free_of
free_marked runs old marks e h =
    let k : length old ≡ length runs + 2 = ap length e ∙ length-replicate (length runs + 2) false in
    let s : length marks - 1 ≡ suc (length runs) = omega (arith, h.same) in
    let f : first_from (length marks - 1) 1 (λ n. not (get_or marks n false)) ≡ first_from (suc (length runs)) 1 (λ n. not (list_any (λ r. r == n) runs)) =
    rw s (first_same (suc (length runs)) 1 (λ n. not (get_or marks n false)) (λ n. not (list_any (λ r. r == n) runs))
    (λ m a b. ap not (h.each m (omega arith) ∙ rw (e, get_or-replicate (length runs + 2) m false false (omega arith)) refl))) in
    ap (λ o. unwrap_or o 1) f

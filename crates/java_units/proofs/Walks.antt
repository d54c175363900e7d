-- Walks over signs.
use Rattle.std.proofs.Common.{◌≡◌, ◌∙◌, ◌==◌, ap, sym, ℕ, zero, suc, ◌+◌, ◌-◌, ◌<◌, ◌≤◌, slice_index_or, take_all, drop, take, map, arith, List, [], ◌∷◌, refl, Bool, true, false, length, tests, rules, subst, ◌≢◌, if◌then◌else◌, ◌||◌, ◌&&◌, add-one, min, codes}
use Rattle.std.proofs.lemmas.List.{drop_more, drop_all, take_more, length-drop, drop-map, drop-drop}
use Rattle.java_units.specs.declared.lexemes.Lexeme.{Lexeme}
use Rattle.std.specs.Prelude.{bytes_eq}
use denote.Ref.{Bor}
use Rattle.java_units.specs.Words.{texts}
use Rattle.java_units.specs.Signs.{Sign, sign, seen, is, has}
use Rattle.java_units.specs.Forms.{begins, begins_name, begins_any, starts, total, span, closing, more, stops, deeper, up_to, goes_on, rest_len}
use Rattle.java_units.specs.Pieces.{ends, sets, head_len, end_len, held}

pub seen-length : (ls : List Lexeme) → length (seen ls) ≡ length ls
unfolding seen
seen-length [] = refl
seen-length (l ∷ ls) = ap suc (seen-length ls)

pub seen-drop : (n : ℕ) (ls : List Lexeme) → seen (drop n ls) ≡ drop n (seen ls)
unfolding seen
seen-drop zero ls = refl
seen-drop (suc n) [] = refl
seen-drop (suc n) (l ∷ ls) = seen-drop n ls

pub seen-take : (n : ℕ) (ls : List Lexeme) → seen (take n ls) ≡ take n (seen ls)
unfolding seen
seen-take zero ls = refl
seen-take (suc n) [] = refl
seen-take (suc n) (l ∷ ls) = ap (λ xs. sign l ∷ xs) (seen-take n ls)

pub seen-nil : seen [] ≡ []
unfolding seen
seen-nil = refl

pub seen-all : (n : ℕ) (ls : List Lexeme) → length ls ≤ n → take n (seen ls) ≡ seen ls
seen-all n ls l = take_all n (seen ls) (omega (arith, seen-length ls))

pub seen-past : (n : ℕ) (ls : List Lexeme) → length ls ≤ n → drop n (seen ls) ≡ seen []
seen-past n ls l = drop_all n (seen ls) (omega (arith, seen-length ls)) ∙ sym seen-nil

pub seen-rest : (n : ℕ) (ls : List Lexeme) → seen (take (length ls - n) (drop n ls)) ≡ drop n (seen ls)
seen-rest n ls = ap seen (take_all (length ls - n) (drop n ls) (omega (arith, length-drop n ls))) ∙ seen-drop n ls

pub length-some : {A : Type 0} → (xs : List A) → (length xs == 0) ≡ false → 0 < length xs
length-some xs e = search (rules, tests)

pub begins-at : (w : List ℕ) (ls : List Lexeme) (d : Lexeme) → 0 < length ls → begins w (seen ls) ≡ is w (sign (slice_index_or ls 0 d))
unfolding begins seen
begins-at w [] d l = absurd (omega arith)
begins-at w (x ∷ xs) d l = refl

pub begins_any-at : (ts : List (List ℕ)) (ls : List Lexeme) (d : Lexeme) → 0 < length ls → begins_any ts (seen ls) ≡ has ts (slice_index_or ls 0 d).word.now
unfolding begins_any seen sign
begins_any-at ts [] d l = absurd (omega arith)
begins_any-at ts (x ∷ xs) d l = refl

pub begins_name-at : (ls : List Lexeme) (d : Lexeme) → 0 < length ls → begins_name (seen ls) ≡ (slice_index_or ls 0 d).is_name
unfolding begins_name seen sign
begins_name-at [] d l = absurd (omega arith)
begins_name-at (x ∷ xs) d l = refl

pub starts-drop : (f : List Sign → ℕ) (k : ℕ) (ss : List Sign) → starts f k ss ≡ starts f 0 (drop k ss)
unfolding starts
starts-drop f zero ss = refl
starts-drop f (suc k) [] = refl
starts-drop f (suc k) (s ∷ ss) = starts-drop f k ss

pub starts-none : (f : List Sign → ℕ) (xs : List Sign) → f xs ≡ 0 → starts f 0 xs ≡ []
unfolding starts
starts-none f [] e = refl
starts-none f (s ∷ ss) e = rw (e) refl

pub pick : {A : Type 0} (n m : ℕ) (x y : A) → suc m ≡ n → (if n == 0 then x else y) ≡ y
pick n m x y e = let h : (n == 0) ≡ false = search (rules, tests) in rw (h) refl

pub starts-more : (f : List Sign → ℕ) (xs : List Sign) (m : ℕ) → m ≡ f xs → m ≢ 0 → 0 < length xs → starts f 0 xs ≡ xs ∷ starts f 0 (drop m xs)
unfolding starts
starts-more f [] m e n l = absurd (omega arith)
starts-more f (s ∷ ss) zero e n l = absurd (n refl)
starts-more f (s ∷ ss) (suc m) e n l =
    let k : f (s ∷ ss) - 1 ≡ m = omega (arith, e) in
    pick (f (s ∷ ss)) m [] ((s ∷ ss) ∷ starts f (f (s ∷ ss) - 1) ss) e ∙ ap (λ r. (s ∷ ss) ∷ r) (ap (λ j. starts f j ss) k ∙ starts-drop f m ss)

pub span-none : (f : List Sign → ℕ) (xs : List Sign) → f xs ≡ 0 → span f xs ≡ 0
unfolding span total
span-none f xs e = rw (starts-none f xs e) refl

pub span-more : (f : List Sign → ℕ) (xs : List Sign) (m : ℕ) → m ≡ f xs → m ≢ 0 → 0 < length xs → span f xs ≡ m + span f (drop m xs)
unfolding span total
span-more f xs m e n l = rw (starts-more f xs m e n l, ← e) refl

-- a loop over such forms has come so far
pub record Spans (f : List Sign → ℕ) (ss : List Sign) (n : ℕ) : Type 0 where
  pub sum : span f ss ≡ n + span f (drop n ss)
  pub within : n ≤ length ss

pub spans_none : (f : List Sign → ℕ) (ss : List Sign) → Spans f ss 0
spans_none f ss = record { sum = omega arith; within = omega arith }

pub spans_on : (f : List Sign → ℕ) (ss t : List Sign) (n m : ℕ) → t ≡ drop n ss → m ≡ f t → m ≢ 0 → m ≤ length t → Spans f ss n → Spans f ss (n + m)
spans_on f ss t n m e v z l h =
    let a = span-more f t m v z (omega arith) in
    let b : span f (drop m t) ≡ span f (drop (n + m) ss) = ap (λ x. span f (drop m x)) e ∙ ap (span f) (drop-drop m n ss) in
    let c : span f t ≡ span f (drop n ss) = ap (span f) e in
    record { sum = omega (arith, a, b, c, h.sum); within = omega (arith, h.within, ap length e, length-drop n ss) }

pub spans_end : (f : List Sign → ℕ) (ss t : List Sign) (n m : ℕ) → t ≡ drop n ss → m ≡ f t → m ≡ 0 → Spans f ss n → n ≡ span f ss
spans_end f ss t n m e v z h = omega (arith, span-none f t (sym v ∙ z), ap (span f) e, h.sum)

-- the sign at a place, and what follows it
seen-next : (ls : List Lexeme) (i : ℕ) (d : Lexeme) → i < length ls → drop i (seen ls) ≡ sign (slice_index_or ls i d) ∷ drop (suc i) (seen ls)
unfolding seen
seen-next [] i d l = absurd (omega arith)
seen-next (x ∷ xs) zero d l = refl
seen-next (x ∷ xs) (suc i) d l = seen-next xs i d (omega arith)

pub seen-at : (ls : List Lexeme) (i : ℕ) (d : Lexeme) → i < length ls → drop i (seen ls) ≡ sign (slice_index_or ls i d) ∷ drop (i + 1) (seen ls)
seen-at ls i d l = seen-next ls i d l ∙ ap (λ k. sign (slice_index_or ls i d) ∷ drop k (seen ls)) (sym (add-one i))

texts-next : (ws : List (Bor (List ℕ))) (i : ℕ) (d : Bor (List ℕ)) → i < length ws → drop i (texts ws) ≡ (slice_index_or ws i d).now ∷ drop (suc i) (texts ws)
texts-next [] i d l = absurd (omega arith)
texts-next (x ∷ xs) zero d l = refl
texts-next (x ∷ xs) (suc i) d l = texts-next xs i d (omega arith)

pub texts-at : (ws : List (Bor (List ℕ))) (i : ℕ) (d : Bor (List ℕ)) → i < length ws → drop i (texts ws) ≡ (slice_index_or ws i d).now ∷ drop (i + 1) (texts ws)
texts-at ws i d l = texts-next ws i d l ∙ ap (λ k. (slice_index_or ws i d).now ∷ drop k (texts ws)) (sym (add-one i))

pub texts-length : (ws : List (Bor (List ℕ))) → length (texts ws) ≡ length ws
texts-length [] = refl
texts-length (w ∷ ws) = ap suc (texts-length ws)

or_true : (b c : Bool) → b ≡ true → (b || c) ≡ true
or_true b c e = rw (e) refl

or_false : (b c : Bool) → b ≡ false → (b || c) ≡ c
or_false b c e = rw (e) refl

pub has-hit : (ws : List (Bor (List ℕ))) (i : ℕ) (d : Bor (List ℕ)) (w : List ℕ) → i < length ws → bytes_eq (slice_index_or ws i d).now w ≡ true → has (texts ws) w ≡ has (drop i (texts ws)) w → true ≡ has (texts ws) w
unfolding has
has-hit ws i d w l e h = sym (h ∙ (ap (λ xs. has xs w) (texts-at ws i d l) ∙ or_true _ _ e))

pub has-on : (ws : List (Bor (List ℕ))) (i : ℕ) (d : Bor (List ℕ)) (w : List ℕ) → i < length ws → bytes_eq (slice_index_or ws i d).now w ≡ false → has (texts ws) w ≡ has (drop i (texts ws)) w → has (texts ws) w ≡ has (drop (i + 1) (texts ws)) w
unfolding has
has-on ws i d w l e h = h ∙ (ap (λ xs. has xs w) (texts-at ws i d l) ∙ or_false _ _ e)

pub has-end : (ws : List (Bor (List ℕ))) (i : ℕ) (w : List ℕ) → length ws ≤ i → has (texts ws) w ≡ has (drop i (texts ws)) w → false ≡ has (texts ws) w
unfolding has
has-end ws i w l h = sym (h ∙ ap (λ xs. has xs w) (drop_all i (texts ws) (omega (arith, texts-length ws))))

-- a count from further on, where there is one
pub past : ℕ → ℕ → ℕ
past n k = if k == 0 then 0 else n + k

pub past-some : (n k : ℕ) → past n (suc k) ≡ n + suc k
unfolding past
past-some n k = pick (suc k) k 0 (n + suc k) refl

pub past-none : (k : ℕ) → past 0 k ≡ k
unfolding past
past-none zero = refl
past-none (suc k) = past-some 0 k ∙ omega arith

pub past-more : (n k : ℕ) → past n (more k) ≡ past (n + 1) k
unfolding past
past-more n zero = refl
past-more n (suc k) = ap (past n) (pick (suc k) k 0 (suc (suc k)) refl) ∙ (past-some n (suc k) ∙ (omega (arith, past-some (n + 1) k)))

pub closing-last : (l r : List ℕ) (d : ℕ) (s : Sign) (ss : List Sign) → is r s ≡ true → (d == 0) ≡ true → closing l r d (s ∷ ss) ≡ 1
unfolding closing
closing-last l r d s ss a b = rw (a, b) refl

pub closing-right : (l r : List ℕ) (d : ℕ) (s : Sign) (ss : List Sign) → is r s ≡ true → (d == 0) ≡ false → closing l r d (s ∷ ss) ≡ more (closing l r (d - 1) ss)
unfolding closing
closing-right l r d s ss a b = rw (a, b) refl

pub closing-left : (l r : List ℕ) (d : ℕ) (s : Sign) (ss : List Sign) → is r s ≡ false → is l s ≡ true → closing l r d (s ∷ ss) ≡ more (closing l r (d + 1) ss)
unfolding closing
closing-left l r d s ss a b = rw (a, b) (ap (λ k. more (closing l r k ss)) (sym (add-one d)))

pub closing-other : (l r : List ℕ) (d : ℕ) (s : Sign) (ss : List Sign) → is r s ≡ false → is l s ≡ false → closing l r d (s ∷ ss) ≡ more (closing l r d ss)
unfolding closing
closing-other l r d s ss a b = rw (a, b) refl

pub closing-on : (l r : List ℕ) (ls : List Lexeme) (i d e k : ℕ) (x : Lexeme) → i < length ls → closing l r d (sign (slice_index_or ls i x) ∷ drop (i + 1) (seen ls)) ≡ more (closing l r e (drop (i + 1) (seen ls))) → k ≡ past i (closing l r d (drop i (seen ls))) → k ≡ past (i + 1) (closing l r e (drop (i + 1) (seen ls)))
closing-on l r ls i d e k x h c inv = inv ∙ (ap (λ xs. past i (closing l r d xs)) (seen-at ls i x h) ∙ (ap (past i) c ∙ past-more i _))

pub closing-hit : (l r : List ℕ) (ls : List Lexeme) (i d k : ℕ) (x : Lexeme) → i < length ls → closing l r d (sign (slice_index_or ls i x) ∷ drop (i + 1) (seen ls)) ≡ 1 → k ≡ past i (closing l r d (drop i (seen ls))) → i + 1 ≡ k
unfolding past
closing-hit l r ls i d k x h c inv = sym (inv ∙ (ap (λ xs. past i (closing l r d xs)) (seen-at ls i x h) ∙ ap (past i) c))

pub closing-end : (l r : List ℕ) (ls : List Lexeme) (i d k : ℕ) → length ls ≤ i → k ≡ past i (closing l r d (drop i (seen ls))) → 0 ≡ k
unfolding past closing
closing-end l r ls i d k h inv = sym (inv ∙ ap (λ xs. past i (closing l r d xs)) (drop_all i (seen ls) (omega (arith, seen-length ls))))

step : (i k n : ℕ) (b : Bool) → b ≡ false → k ≡ i + (if b then 0 else suc n) → k ≡ (i + 1) + n
step i k n b e h = omega (arith, h, ap (λ c. if c then 0 else suc n) e)

stop : (i k n : ℕ) (b : Bool) → b ≡ true → k ≡ i + (if b then 0 else suc n) → i ≡ k
stop i k n b e h = omega (arith, h, ap (λ c. if c then 0 else suc n) e)

pub up_to-hit : (w : List ℕ) (ls : List Lexeme) (i d k : ℕ) (x : Lexeme) → i < length ls → stops w d (sign (slice_index_or ls i x)) ≡ true → k ≡ i + up_to w d (drop i (seen ls)) → i ≡ k
unfolding up_to
up_to-hit w ls i d k x l e h = stop i k _ _ e (h ∙ ap (λ xs. i + up_to w d xs) (seen-at ls i x l))

pub up_to-on : (w : List ℕ) (ls : List Lexeme) (i d k : ℕ) (x : Lexeme) → i < length ls → stops w d (sign (slice_index_or ls i x)) ≡ false → k ≡ i + up_to w d (drop i (seen ls)) → k ≡ (i + 1) + up_to w (deeper d (sign (slice_index_or ls i x))) (drop (i + 1) (seen ls))
unfolding up_to
up_to-on w ls i d k x l e h = step i k _ _ e (h ∙ ap (λ xs. i + up_to w d xs) (seen-at ls i x l))

pub up_to-end : (w : List ℕ) (ls : List Lexeme) (i d k : ℕ) → length ls ≤ i → k ≡ i + up_to w d (drop i (seen ls)) → k ≡ i
unfolding up_to
up_to-end w ls i d k l h = h ∙ (ap (λ xs. i + up_to w d xs) (drop_all i (seen ls) (omega (arith, seen-length ls))) ∙ omega arith)

pub rest_len-hit : (ls : List Lexeme) (i d k : ℕ) (x : Lexeme) → i < length ls → (d == 0 && goes_on (drop i (seen ls))) ≡ true → k ≡ i + rest_len d (drop i (seen ls)) → i ≡ k
unfolding rest_len
rest_len-hit ls i d k x l e h =
    stop i k _ _ (ap (λ xs. d == 0 && goes_on xs) (sym (seen-at ls i x l)) ∙ e) (h ∙ ap (λ xs. i + rest_len d xs) (seen-at ls i x l))

pub rest_len-on : (ls : List Lexeme) (i d k : ℕ) (x : Lexeme) → i < length ls → (d == 0 && goes_on (drop i (seen ls))) ≡ false → k ≡ i + rest_len d (drop i (seen ls)) → k ≡ (i + 1) + rest_len (deeper d (sign (slice_index_or ls i x))) (drop (i + 1) (seen ls))
unfolding rest_len
rest_len-on ls i d k x l e h =
    step i k _ _ (ap (λ xs. d == 0 && goes_on xs) (sym (seen-at ls i x l)) ∙ e) (h ∙ ap (λ xs. i + rest_len d xs) (seen-at ls i x l))

pub rest_len-end : (ls : List Lexeme) (i d k : ℕ) → length ls ≤ i → k ≡ i + rest_len d (drop i (seen ls)) → k ≡ i
unfolding rest_len
rest_len-end ls i d k l h = h ∙ (ap (λ xs. i + rest_len d xs) (drop_all i (seen ls) (omega (arith, seen-length ls))) ∙ omega arith)

pub head_len-hit : (ls : List Lexeme) (i d k : ℕ) (b : Bool) (x : Lexeme) → i < length ls → ends d b (sign (slice_index_or ls i x)) ≡ true → k ≡ i + head_len d b (drop i (seen ls)) → i ≡ k
unfolding head_len
head_len-hit ls i d k b x l e h = stop i k _ _ e (h ∙ ap (λ xs. i + head_len d b xs) (seen-at ls i x l))

pub head_len-on : (ls : List Lexeme) (i d k : ℕ) (b : Bool) (x : Lexeme) → i < length ls → ends d b (sign (slice_index_or ls i x)) ≡ false → k ≡ i + head_len d b (drop i (seen ls)) → k ≡ (i + 1) + head_len (deeper d (sign (slice_index_or ls i x))) (sets d b (sign (slice_index_or ls i x))) (drop (i + 1) (seen ls))
unfolding head_len
head_len-on ls i d k b x l e h = step i k _ _ e (h ∙ ap (λ xs. i + head_len d b xs) (seen-at ls i x l))

pub head_len-end : (ls : List Lexeme) (i d k : ℕ) (b : Bool) → length ls ≤ i → k ≡ i + head_len d b (drop i (seen ls)) → k ≡ i
unfolding head_len
head_len-end ls i d k b l h = h ∙ (ap (λ xs. i + head_len d b xs) (drop_all i (seen ls) (omega (arith, seen-length ls))) ∙ omega arith)

zero_false : (n : ℕ) → (suc n == 0) ≡ true → ⊥
zero_false n e = let h : (suc n == 0) ≡ false = search (rules, tests) in absurd (cc)

pub length-none : {A : Type 0} → (xs : List A) → (length xs == 0) ≡ true → xs ≡ []
length-none [] e = refl
length-none (x ∷ xs) e = absurd (zero_false (length xs) e)

pub end_len-none : (ls : List Lexeme) → (length ls == 0) ≡ true → 0 ≡ end_len (seen ls)
unfolding end_len seen
end_len-none ls e = sym (ap (λ xs. end_len (seen xs)) (length-none ls e))

pub end_len-block : (ls : List Lexeme) (d : Lexeme) → 0 < length ls → is (codes "{") (sign (slice_index_or ls 0 d)) ≡ true → end_len (seen ls) ≡ 1 + min ((slice_index_or ls 0 d).holds + 1) (length ls - 1)
unfolding end_len seen sign
end_len-block [] d l e = absurd (omega arith)
end_len-block (x ∷ xs) d l e = rw (e) (ap (λ n. 1 + min (x.holds + 1) n) (seen-length xs ∙ (omega arith)))

pub end_len-other : (ls : List Lexeme) (d : Lexeme) → 0 < length ls → is (codes "{") (sign (slice_index_or ls 0 d)) ≡ false → 1 ≡ end_len (seen ls)
unfolding end_len seen
end_len-other [] d l e = absurd (omega arith)
end_len-other (x ∷ xs) d l e = rw (e) refl

pub held-none : (ls : List Lexeme) → (length ls == 0) ≡ true → seen [] ≡ held (seen ls)
unfolding held seen
held-none ls e = sym (ap (λ xs. held (seen xs)) (length-none ls e))

pub held-some : (ls : List Lexeme) (d : Lexeme) → 0 < length ls → take (slice_index_or ls 0 d).holds (drop 1 (seen ls)) ≡ held (seen ls)
unfolding held seen sign
held-some [] d l = absurd (omega arith)
held-some (x ∷ xs) d l = refl

pub ruleset walks = (seen-length, seen-drop, seen-take, seen-nil, length-drop)

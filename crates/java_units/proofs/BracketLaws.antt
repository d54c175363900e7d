-- Brackets match by counts.
use Rattle.std.proofs.Common.{◌≡◌, ◌≢◌, ◌<◌, ◌≤◌, ◌∙◌, ap, sym, subst, ℕ, zero, suc, ◌+◌, ◌-◌, ◌==◌, Bool, true, false, cond, if◌then◌else◌, List, [], ◌∷◌, length, take, refl, arith, rules, tests}
use Rattle.std.proofs.lemmas.List.Sums.{sum_by-cons}
use Rattle.std.specs.List.{count_by}
use Rattle.std.specs.Prelude.{bytes_eq}
use Rattle.std.proofs.lemmas.Slice.Eq.{bytes_eq-Decides}
use Rattle.java_units.specs.Signs.{Sign, is}
use Rattle.java_units.specs.Forms.{begins, closing, matched, more}
use Rattle.java_units.specs.Brackets.{IsMatched, BracketsMatch}
use Rattle.java_units.proofs.Walks.{pick, closing-last, closing-right, closing-left, closing-other}

-- no sign has both texts
abbrev pub Apart : List ℕ → List ℕ → Type 0
Apart l r = (s : Sign) → is r s ≡ true → is l s ≡ false

apart_if : (b : Bool) (l r w : List ℕ) → l ≢ r → bytes_eq r w ≡ true → bytes_eq l w ≡ b → b ≡ false
apart_if true l r w n e h = absurd (n ((bytes_eq-Decides l w).0 h ∙ sym ((bytes_eq-Decides r w).0 e)))
apart_if false l r w n e h = refl

pub apart : (l r : List ℕ) → l ≢ r → Apart l r
unfolding is
apart l r n s e = apart_if (bytes_eq l s.text) l r s.text n e refl

not_right : (l r : List ℕ) (b : Bool) (s : Sign) → Apart l r → is l s ≡ true → is r s ≡ b → b ≡ false
not_right l r true s a e h = let f = a s h in absurd (cc)
not_right l r false s a e h = refl

pub count_none : (p : Sign → Bool) → count_by p [] ≡ 0
count_none p = refl

pub count_yes : (p : Sign → Bool) (s : Sign) (ss : List Sign) → p s ≡ true → count_by p (s ∷ ss) ≡ suc (count_by p ss)
count_yes p s ss e = sum_by-cons (λ x. cond (p x) 1 0) s ss ∙ (let one : cond {A = ℕ} (p s) 1 0 ≡ cond {A = ℕ} true 1 0 = ap {B = ℕ} (λ b. cond b 1 0) e in omega (arith, one))

pub count_no : (p : Sign → Bool) (s : Sign) (ss : List Sign) → p s ≡ false → count_by p (s ∷ ss) ≡ count_by p ss
count_no p s ss e = sum_by-cons (λ x. cond (p x) 1 0) s ss ∙ (let one : cond {A = ℕ} (p s) 1 0 ≡ cond {A = ℕ} false 1 0 = ap {B = ℕ} (λ b. cond b 1 0) e in omega (arith, one))

-- the first n of these signs close one bracket where d further ones are open
pub record Closed (l r : List ℕ) (d : ℕ) (ss : List Sign) (n : ℕ) : Type 0 where
  pub within : n ≤ length ss
  pub even : count_by (is l) (take n ss) + suc d ≡ count_by (is r) (take n ss)
  pub first : (k : ℕ) → k < n → count_by (is r) (take k ss) ≤ count_by (is l) (take k ss) + d

last_first : (l r : List ℕ) (s : Sign) (ss : List Sign) (k : ℕ) → k < 1 → count_by (is r) (take k (s ∷ ss)) ≤ count_by (is l) (take k (s ∷ ss)) + 0
last_first l r s ss zero h = omega (arith, count_none (is r))
last_first l r s ss (suc k) h = absurd (omega arith)

last_closed : (l r : List ℕ) (s : Sign) (ss : List Sign) → is r s ≡ true → is l s ≡ false → Closed l r 0 (s ∷ ss) 1
last_closed l r s ss a b = record {
  within = omega arith;
  even = omega (arith, count_yes (is r) s [] a, count_no (is l) s [] b, count_none (is r), count_none (is l));
  first = last_first l r s ss;
}

right_first : (l r : List ℕ) (d n : ℕ) (s : Sign) (ss : List Sign) → is r s ≡ true → is l s ≡ false → Closed l r d ss n → (k : ℕ) → k < suc n → count_by (is r) (take k (s ∷ ss)) ≤ count_by (is l) (take k (s ∷ ss)) + suc d
right_first l r d n s ss a b c zero h = omega (arith, count_none (is r))
right_first l r d n s ss a b c (suc k) h = omega (arith, count_yes (is r) s (take k ss) a, count_no (is l) s (take k ss) b, c.first k (omega arith))

right_closed : (l r : List ℕ) (d n : ℕ) (s : Sign) (ss : List Sign) → is r s ≡ true → is l s ≡ false → Closed l r d ss n → Closed l r (suc d) (s ∷ ss) (suc n)
right_closed l r d n s ss a b c = record {
  within = omega (arith, c.within);
  even = omega (arith, count_yes (is r) s (take n ss) a, count_no (is l) s (take n ss) b, c.even);
  first = right_first l r d n s ss a b c;
}

left_first : (l r : List ℕ) (d n : ℕ) (s : Sign) (ss : List Sign) → is r s ≡ false → is l s ≡ true → Closed l r (suc d) ss n → (k : ℕ) → k < suc n → count_by (is r) (take k (s ∷ ss)) ≤ count_by (is l) (take k (s ∷ ss)) + d
left_first l r d n s ss a b c zero h = omega (arith, count_none (is r))
left_first l r d n s ss a b c (suc k) h = omega (arith, count_no (is r) s (take k ss) a, count_yes (is l) s (take k ss) b, c.first k (omega arith))

left_closed : (l r : List ℕ) (d n : ℕ) (s : Sign) (ss : List Sign) → is r s ≡ false → is l s ≡ true → Closed l r (suc d) ss n → Closed l r d (s ∷ ss) (suc n)
left_closed l r d n s ss a b c = record {
  within = omega (arith, c.within);
  even = omega (arith, count_no (is r) s (take n ss) a, count_yes (is l) s (take n ss) b, c.even);
  first = left_first l r d n s ss a b c;
}

other_first : (l r : List ℕ) (d n : ℕ) (s : Sign) (ss : List Sign) → is r s ≡ false → is l s ≡ false → Closed l r d ss n → (k : ℕ) → k < suc n → count_by (is r) (take k (s ∷ ss)) ≤ count_by (is l) (take k (s ∷ ss)) + d
other_first l r d n s ss a b c zero h = omega (arith, count_none (is r))
other_first l r d n s ss a b c (suc k) h = omega (arith, count_no (is r) s (take k ss) a, count_no (is l) s (take k ss) b, c.first k (omega arith))

other_closed : (l r : List ℕ) (d n : ℕ) (s : Sign) (ss : List Sign) → is r s ≡ false → is l s ≡ false → Closed l r d ss n → Closed l r d (s ∷ ss) (suc n)
other_closed l r d n s ss a b c = record {
  within = omega (arith, c.within);
  even = omega (arith, count_no (is r) s (take n ss) a, count_no (is l) s (take n ss) b, c.even);
  first = other_first l r d n s ss a b c;
}

more_suc : (n m : ℕ) → more n ≡ suc m → n ≡ m
more_suc zero m e = absurd (omega (arith, e))
more_suc (suc n) m e = omega (arith, e, pick (suc n) n 0 (suc (suc n)) refl)

is_zero : (suc_d : ℕ) → (suc suc_d == 0) ≡ false
is_zero d = search (rules, tests)

more_none : (n : ℕ) → n ≡ 0 → more n ≡ 0
more_none n e = ap more e

more_some : (n m : ℕ) → n ≡ suc m → more n ≡ suc (suc m)
more_some n m e = ap more e ∙ pick (suc m) m 0 (suc (suc m)) refl

-- what is read closes a bracket

sound_by : (l r : List ℕ) → Apart l r → (s : Sign) (ss : List Sign) → ((d m : ℕ) → closing l r d ss ≡ suc m → Closed l r d ss (suc m)) → (a b : Bool) (d m : ℕ) → is r s ≡ a → is l s ≡ b → closing l r d (s ∷ ss) ≡ suc m → Closed l r d (s ∷ ss) (suc m)
sound_by l r f s ss ih true b zero m p q e =
    let z : 0 ≡ m = omega (arith, e, closing-last l r 0 s ss p refl) in
    subst (λ x. Closed l r 0 (s ∷ ss) (suc x)) z (last_closed l r s ss p (f s p))
sound_by l r f s ss ih true b (suc d) zero p q e =
    let g = closing-right l r (suc d) s ss p (is_zero d) in
    let h = more_suc (closing l r (suc d - 1) ss) 0 (sym g ∙ e) in
    absurd (omega (arith, e, g, more_none (closing l r (suc d - 1) ss) h))
sound_by l r f s ss ih true b (suc d) (suc m) p q e =
    let less : suc d - 1 ≡ d = omega arith in
    let h = more_suc (closing l r (suc d - 1) ss) (suc m) (sym (closing-right l r (suc d) s ss p (is_zero d)) ∙ e) in
    right_closed l r d (suc m) s ss p (f s p) (ih d m (ap (λ k. closing l r k ss) (sym less) ∙ h))
sound_by l r f s ss ih false true d zero p q e =
    let g = closing-left l r d s ss p q in
    let h = more_suc (closing l r (d + 1) ss) 0 (sym g ∙ e) in
    absurd (omega (arith, e, g, more_none (closing l r (d + 1) ss) h))
sound_by l r f s ss ih false true d (suc m) p q e =
    let next : suc d ≡ d + 1 = omega arith in
    let h = more_suc (closing l r (d + 1) ss) (suc m) (sym (closing-left l r d s ss p q) ∙ e) in
    left_closed l r d (suc m) s ss p q (ih (suc d) m (ap (λ k. closing l r k ss) next ∙ h))
sound_by l r f s ss ih false false d zero p q e =
    let g = closing-other l r d s ss p q in
    let h = more_suc (closing l r d ss) 0 (sym g ∙ e) in
    absurd (omega (arith, e, g, more_none (closing l r d ss) h))
sound_by l r f s ss ih false false d (suc m) p q e =
    let h = more_suc (closing l r d ss) (suc m) (sym (closing-other l r d s ss p q) ∙ e) in
    other_closed l r d (suc m) s ss p q (ih d m h)

no_closing : (l r : List ℕ) (d : ℕ) → closing l r d [] ≡ 0
unfolding closing
no_closing l r d = refl

sound : (l r : List ℕ) → Apart l r → (ss : List Sign) (d m : ℕ) → closing l r d ss ≡ suc m → Closed l r d ss (suc m)
sound l r f [] d m e = absurd (omega (arith, e, no_closing l r d))
sound l r f (s ∷ ss) d m e = sound_by l r f s ss (λ d m e. sound l r f ss d m e) (is r s) (is l s) d m refl refl e

-- what closes a bracket is read

pub nothing_closes : (l r : List ℕ) (d : ℕ) (ss : List Sign) → Closed l r d ss 0 → ⊥
nothing_closes l r d ss c = absurd (omega (arith, c.even, count_none (is l), count_none (is r)))

pub past_right : (l r : List ℕ) (d n : ℕ) (s : Sign) (ss : List Sign) → is r s ≡ true → is l s ≡ false → Closed l r (suc d) (s ∷ ss) (suc n) → Closed l r d ss n
past_right l r d n s ss a b c = record {
  within = omega (arith, c.within);
  even = omega (arith, count_yes (is r) s (take n ss) a, count_no (is l) s (take n ss) b, c.even);
  first = λ k h. omega (arith, count_yes (is r) s (take k ss) a, count_no (is l) s (take k ss) b, c.first (suc k) (omega arith));
}

pub past_left : (l r : List ℕ) (d n : ℕ) (s : Sign) (ss : List Sign) → is r s ≡ false → is l s ≡ true → Closed l r d (s ∷ ss) (suc n) → Closed l r (suc d) ss n
past_left l r d n s ss a b c = record {
  within = omega (arith, c.within);
  even = omega (arith, count_no (is r) s (take n ss) a, count_yes (is l) s (take n ss) b, c.even);
  first = λ k h. omega (arith, count_no (is r) s (take k ss) a, count_yes (is l) s (take k ss) b, c.first (suc k) (omega arith));
}

pub past_other : (l r : List ℕ) (d n : ℕ) (s : Sign) (ss : List Sign) → is r s ≡ false → is l s ≡ false → Closed l r d (s ∷ ss) (suc n) → Closed l r d ss n
past_other l r d n s ss a b c = record {
  within = omega (arith, c.within);
  even = omega (arith, count_no (is r) s (take n ss) a, count_no (is l) s (take n ss) b, c.even);
  first = λ k h. omega (arith, count_no (is r) s (take k ss) a, count_no (is l) s (take k ss) b, c.first (suc k) (omega arith));
}

read_more : (l r : List ℕ) (d n : ℕ) (ss : List Sign) → Closed l r d ss n → closing l r d ss ≡ n → more (closing l r d ss) ≡ suc n
read_more l r d zero ss c e = absurd (nothing_closes l r d ss c)
read_more l r d (suc n) ss c e = more_some (closing l r d ss) n e

complete_by : (l r : List ℕ) → Apart l r → (s : Sign) (ss : List Sign) → ((d n : ℕ) → Closed l r d ss n → closing l r d ss ≡ n) → (a b : Bool) (d n : ℕ) → is r s ≡ a → is l s ≡ b → Closed l r d (s ∷ ss) (suc n) → closing l r d (s ∷ ss) ≡ suc n
complete_by l r f s ss ih true b zero zero p q c = closing-last l r 0 s ss p refl
complete_by l r f s ss ih true b zero (suc n) p q c =
    let one : 1 < suc (suc n) = omega arith in
    absurd (omega (arith, c.first 1 one, count_yes (is r) s [] p, count_no (is l) s [] (f s p), count_none (is l)))
complete_by l r f s ss ih true b (suc d) n p q c =
    let less : suc d - 1 ≡ d = omega arith in
    let k = past_right l r d n s ss p (f s p) c in
    closing-right l r (suc d) s ss p (is_zero d) ∙ (ap (λ x. more (closing l r x ss)) less ∙ read_more l r d n ss k (ih d n k))
complete_by l r f s ss ih false true d n p q c =
    let next : d + 1 ≡ suc d = omega arith in
    let k = past_left l r d n s ss p q c in
    closing-left l r d s ss p q ∙ (ap (λ x. more (closing l r x ss)) next ∙ read_more l r (suc d) n ss k (ih (suc d) n k))
complete_by l r f s ss ih false false d n p q c =
    let k = past_other l r d n s ss p q c in
    closing-other l r d s ss p q ∙ read_more l r d n ss k (ih d n k)

complete : (l r : List ℕ) → Apart l r → (ss : List Sign) (d n : ℕ) → Closed l r d ss n → closing l r d ss ≡ n
complete l r f ss d zero c = absurd (nothing_closes l r d ss c)
complete l r f [] d (suc n) c = absurd (omega (arith, c.within))
complete l r f (s ∷ ss) d (suc n) c = complete_by l r f s ss (λ d n c. complete l r f ss d n c) (is r s) (is l s) d n refl refl c

-- from the opening sign on

between_by : (l r : List ℕ) (s : Sign) (ss : List Sign) (m : ℕ) → is l s ≡ true → is r s ≡ false → Closed l r 0 ss m → (k : ℕ) → 0 < k → k < suc m → count_by (is r) (take k (s ∷ ss)) < count_by (is l) (take k (s ∷ ss))
between_by l r s ss m a b c zero h g = absurd (omega arith)
between_by l r s ss m a b c (suc k) h g = omega (arith, count_yes (is l) s (take k ss) a, count_no (is r) s (take k ss) b, c.first k (omega arith))

opened : (l r : List ℕ) (s : Sign) (ss : List Sign) (m : ℕ) → is l s ≡ true → is r s ≡ false → Closed l r 0 ss m → IsMatched l r (s ∷ ss) (suc m)
unfolding begins
opened l r s ss m a b c = record {
  some = omega arith;
  opens = a;
  within = omega (arith, c.within);
  even = omega (arith, count_yes (is l) s (take m ss) a, count_no (is r) s (take m ss) b, c.even);
  between = between_by l r s ss m a b c;
}

found_by : (l r : List ℕ) → Apart l r → (b : Bool) (s : Sign) (ss : List Sign) (n : ℕ) → is l s ≡ b → 0 < n → (if b then more (closing l r 0 ss) else 0) ≡ n → IsMatched l r (s ∷ ss) n
found_by l r f false s ss n q h e = absurd (omega (arith, e))
found_by l r f true s ss zero q h e = absurd (omega arith)
found_by l r f true s ss (suc zero) q h e =
    let z = more_suc (closing l r 0 ss) 0 e in
    absurd (omega (arith, e, more_none (closing l r 0 ss) z))
found_by l r f true s ss (suc (suc m)) q h e =
    let c = sound l r f ss 0 m (more_suc (closing l r 0 ss) (suc m) e) in
    opened l r s ss (suc m) q (not_right l r (is r s) s f q refl) c

found : (l r : List ℕ) → Apart l r → (ss : List Sign) (n : ℕ) → 0 < n → matched l r ss ≡ n → IsMatched l r ss n
unfolding matched begins
found l r f [] n h e = absurd (omega (arith, e))
found l r f (s ∷ ss) n h e = found_by l r f (is l s) s ss n refl h e

pub shut : (l r : List ℕ) (s : Sign) (ss : List Sign) (m : ℕ) → is l s ≡ true → is r s ≡ false → IsMatched l r (s ∷ ss) (suc m) → Closed l r 0 ss m
shut l r s ss m a b c = record {
  within = omega (arith, c.within);
  even = omega (arith, count_yes (is l) s (take m ss) a, count_no (is r) s (take m ss) b, c.even);
  first = λ k h. omega (arith, count_yes (is l) s (take k ss) a, count_no (is r) s (take k ss) b, c.between (suc k) (omega arith) (omega arith));
}

begins_at : (w : List ℕ) (s : Sign) (ss : List Sign) → begins w (s ∷ ss) ≡ true → is w s ≡ true
unfolding begins
begins_at w s ss e = e

only_by : (l r : List ℕ) → Apart l r → (s : Sign) (ss : List Sign) (m : ℕ) → is l s ≡ true → IsMatched l r (s ∷ ss) (suc m) → matched l r (s ∷ ss) ≡ suc m
unfolding matched begins
only_by l r f s ss m q c =
    let k = shut l r s ss m q (not_right l r (is r s) s f q refl) c in
    rw (q) (read_more l r 0 m ss k (complete l r f ss 0 m k))

no_prefix : (w : List ℕ) → begins w [] ≡ true → ⊥
unfolding begins
no_prefix w e = absurd (cc)

only : (l r : List ℕ) → Apart l r → (ss : List Sign) (n : ℕ) → IsMatched l r ss n → matched l r ss ≡ n
only l r f ss zero c = absurd (omega (arith, c.some))
only l r f [] (suc n) c = absurd (no_prefix l c.opens)
only l r f (s ∷ ss) (suc m) c = only_by l r f s ss m (begins_at l s ss c.opens) c

pub brackets_match : BracketsMatch
brackets_match left right ss n d = (λ h e. found left right (apart left right d) ss n h e, λ c. only left right (apart left right d) ss n c)

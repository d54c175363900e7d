-- Which words after `count` can begin those that name a start text.
use Rattle.std.proofs.Common.{◌≡◌, ◌≢◌, inl, inr, ⊎_elim, ℕ, ◌+◌, ◌≤◌, ◌<◌, List, [], ◌∷◌, ◌++◌, length, take, refl, subst, ap, arith, add-one}
use Rattle.std.specs.Prelude.{codes}
use Rattle.command_line.proofs.Commands.{letter}
use Rattle.command_line.specs.Words.{Asked, list, upgrade, serve, count, sample, IsFileName, NameStart, AskFor, CanBegin, IsFirstWrong}

-- the words after `count` name its start text
counted_by : (ws : List (List ℕ)) (asked : Asked) → AskFor asked (codes "count" ∷ ws) → (name : List ℕ) × NameStart name ws
counted_by ws list e = absurd cc
counted_by ws upgrade e = absurd cc
counted_by ws (serve told pairs workers) a = let other : 111 ≡ 101 = ap letter a.2 in absurd (omega (arith, other))
counted_by ws (sample n) a = let other : 111 ≡ 97 = ap letter a.2 in absurd (omega (arith, other))
counted_by ws (count name) a =
    let e = a.2 in
    let same : a.0 ≡ ws = cc in
    (name, subst (NameStart name) same a.1)

-- words that name no start text, the first of which can begin to and with the next one can't
count-wrong : (ws : List (List ℕ)) (place : ℕ) → place ≤ length ws → CanBegin (codes "count" ∷ take place ws) → (place < length ws → (more : List (List ℕ)) (name : List ℕ) → NameStart name (take (place + 1) ws ++ more) → ⊥) → ((name : List ℕ) → NameStart name ws → ⊥) → IsFirstWrong (codes "count" ∷ ws) (place + 1)
count-wrong ws place within begins wrong nothing = record {
  within = omega (arith, within);
  begins = rw (add-one place) begins;
  wrong = λ l b.
      let next : CanBegin (codes "count" ∷ take (place + 1) ws) = rw (add-one (place + 1)) at b in
      let told = counted_by (take (place + 1) ws ++ next.more) next.asked next.ask in
      wrong (omega (arith, l)) next.more told.0 told.1;
  nothing = λ asked a. let told = counted_by ws asked a in nothing told.0 told.1;
}

a-name : IsFileName (codes "a")
a-name = record { some = λ e. cc; no_option = λ e. cc }

begins-count : CanBegin (codes "count" ∷ [])
begins-count = record {
  more = codes "--start" ∷ codes "a" ∷ [];
  asked = count (codes "a");
  ask = (codes "--start" ∷ codes "a" ∷ [], (a-name, inl refl), refl);
}

begins-start : CanBegin (codes "count" ∷ codes "--start" ∷ [])
begins-start = record {
  more = codes "a" ∷ [];
  asked = count (codes "a");
  ask = (codes "--start" ∷ codes "a" ∷ [], (a-name, inl refl), refl);
}

begins-name : (file : List ℕ) → IsFileName file → CanBegin (codes "count" ∷ codes "--start" ∷ file ∷ [])
begins-name file named = record {
  more = [];
  asked = count file;
  ask = (codes "--start" ∷ file ∷ [], (named, inl refl), refl);
}

begins-joined : (file : List ℕ) → IsFileName file → CanBegin (codes "count" ∷ (codes "--start=" ++ file) ∷ [])
begins-joined file named = record {
  more = [];
  asked = count file;
  ask = ((codes "--start=" ++ file) ∷ [], (named, inr refl), refl);
}

-- `count` alone
no-option-there : (name : List ℕ) → NameStart name [] → ⊥
no-option-there f t = ⊎_elim (λ e. cc) (λ e. cc) t.1

pub option-missing : IsFirstWrong (codes "count" ∷ []) 1
option-missing = count-wrong [] 0 (omega arith) begins-count (λ l. absurd (omega (arith, l))) no-option-there

-- `--start` alone
no-alone : (name : List ℕ) → NameStart name (codes "--start" ∷ []) → ⊥
no-alone f t = ⊎_elim (λ e. cc) (λ e. cc) t.1

pub name-missing : IsFirstWrong (codes "count" ∷ codes "--start" ∷ []) 2
name-missing = count-wrong (codes "--start" ∷ []) 1 (omega arith) begins-start (λ l. absurd (omega (arith, l))) no-alone

-- `--start` and what is no name
no-name : (file : List ℕ) (ws : List (List ℕ)) → (IsFileName file → ⊥) → (name : List ℕ) → NameStart name (codes "--start" ∷ file ∷ ws) → ⊥
no-name file ws other f t = ⊎_elim (λ e. let same : f ≡ file = cc in other (subst IsFileName same t.0)) (λ e. cc) t.1

pub name-wrong : (file : List ℕ) (ws : List (List ℕ)) → (IsFileName file → ⊥) → IsFirstWrong (codes "count" ∷ codes "--start" ∷ file ∷ ws) 2
name-wrong file ws other = count-wrong (codes "--start" ∷ file ∷ ws) 1 (omega arith) begins-start (λ _ more. no-name file more other) (no-name file ws other)

-- a word after the name
no-after : (file w : List ℕ) (ws : List (List ℕ)) (name : List ℕ) → NameStart name (codes "--start" ∷ file ∷ w ∷ ws) → ⊥
no-after file w ws f t = ⊎_elim (λ e. cc) (λ e. cc) t.1

pub name-more : (file w : List ℕ) (ws : List (List ℕ)) → IsFileName file → IsFirstWrong (codes "count" ∷ codes "--start" ∷ file ∷ w ∷ ws) 3
name-more file w ws named = count-wrong (codes "--start" ∷ file ∷ w ∷ ws) 2 (omega arith) (begins-name file named) (λ _ more. no-after file w more) (no-after file w ws)

-- `--start=` and what is no name
no-joined : (file : List ℕ) (ws : List (List ℕ)) → (IsFileName file → ⊥) → (name : List ℕ) → NameStart name ((codes "--start=" ++ file) ∷ ws) → ⊥
no-joined file ws other f t = ⊎_elim (λ e. cc) (λ e. let same : f ≡ file = cc in other (subst IsFileName same t.0)) t.1

pub joined-wrong : (file : List ℕ) (ws : List (List ℕ)) → (IsFileName file → ⊥) → IsFirstWrong (codes "count" ∷ (codes "--start=" ++ file) ∷ ws) 1
joined-wrong file ws other = count-wrong ((codes "--start=" ++ file) ∷ ws) 0 (omega arith) begins-count (λ _ more. no-joined file more other) (no-joined file ws other)

-- a word after that
no-more : (file w : List ℕ) (ws : List (List ℕ)) (name : List ℕ) → NameStart name ((codes "--start=" ++ file) ∷ w ∷ ws) → ⊥
no-more file w ws f t = ⊎_elim (λ e. cc) (λ e. cc) t.1

pub joined-more : (file w : List ℕ) (ws : List (List ℕ)) → IsFileName file → IsFirstWrong (codes "count" ∷ (codes "--start=" ++ file) ∷ w ∷ ws) 2
joined-more file w ws named = count-wrong ((codes "--start=" ++ file) ∷ w ∷ ws) 1 (omega arith) (begins-joined file named) (λ _ more. no-more file w more) (no-more file w ws)

-- neither of both
no-option : (w : List ℕ) (ws : List (List ℕ)) → w ≢ codes "--start" → ((file : List ℕ) → w ≢ codes "--start=" ++ file) → (name : List ℕ) → NameStart name (w ∷ ws) → ⊥
no-option w ws apart joined f t = ⊎_elim (λ e. let same : w ≡ codes "--start" = cc in apart same) (λ e. let same : w ≡ codes "--start=" ++ f = cc in joined f same) t.1

pub option-wrong : (w : List ℕ) (ws : List (List ℕ)) → w ≢ codes "--start" → ((file : List ℕ) → w ≢ codes "--start=" ++ file) → IsFirstWrong (codes "count" ∷ w ∷ ws) 1
option-wrong w ws apart joined = count-wrong (w ∷ ws) 0 (omega arith) begins-count (λ _ more. no-option w more apart joined) (no-option w ws apart joined)

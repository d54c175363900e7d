-- Words ask for one thing, and have one first wrong word.
use Rattle.std.proofs.Common.{◌≡◌, inl, inr, ⊎_elim, ℕ, suc, ◌+◌, ◌-◌, ◌≤◌, ◌<◌, List, [], ◌∷◌, ◌++◌, take, drop, Option, refl, sym, ap, subst, ◌∙◌, arith, append_assoc}
use Rattle.std.specs.Prelude.{codes, length, option_map}
use Rattle.std.specs.Str.Parse.{digits_value}
use Rattle.std.proofs.Math.Seq.{take-add}
use Rattle.std.proofs.lemmas.Bool.{cases_order}
use denote.Ref.{Bor}
use Rattle.command_line.specs.declared.command.Command.{Command}
use Rattle.command_line.specs.declared.command.Command.TheVariants as command
use Rattle.command_line.specs.Words.{Pair, Asked, list, upgrade, serve, count, sample, AreParts, AskFor, AskForPlain, CanBegin, IsFirstWrong, NameStart, Commands, ends_of, ends_for}
use Rattle.command_line.proofs.Parts.{one-server}
use Rattle.command_line.proofs.Commands.{letter}

-- what begins words that ask for something does so without its last words
begins-less : (xs ys : List (List ℕ)) → CanBegin (xs ++ ys) → CanBegin xs
begins-less xs ys b = record { more = ys ++ b.more; asked = b.asked; ask = subst (AskFor b.asked) (append_assoc xs ys b.more) b.ask }

begins-to : (ws : List (List ℕ)) (m n : ℕ) → m ≤ n → CanBegin (take n ws) → CanBegin (take m ws)
begins-to ws m n l b =
    let split : take n ws ≡ take m ws ++ take (n - m) (drop m ws) = ap (λ k. take k ws) (omega (arith, l)) ∙ take-add m (n - m) ws in
    begins-less (take m ws) (take (n - m) (drop m ws)) (subst CanBegin split b)

no-less : (ws : List (List ℕ)) (p q : ℕ) → IsFirstWrong ws p → IsFirstWrong ws q → p < q → ⊥
no-less ws p q a b l = a.wrong (omega (arith, l, b.within)) (begins-to ws (p + 1) q (omega (arith, l)) b.begins)

pub same-place : (ws : List (List ℕ)) (p q : ℕ) → IsFirstWrong ws p → IsFirstWrong ws q → p ≡ q
same-place ws p q a b = ⊎_elim (λ e. e) (λ o. ⊎_elim (λ l. absurd (no-less ws p q a b l)) (λ l. absurd (no-less ws q p b a l)) o) (cases_order p q)

-- words ask for one thing
pub not-served : (ws : List (List ℕ)) (start : Option (List ℕ)) (pairs : List Pair) (workers : Option ℕ) → ws ≡ codes "list" ∷ [] → AskFor (serve start pairs workers) ws → ⊥
not-served ws start pairs workers e a = let f : codes "list" ∷ [] ≡ codes "serve" ∷ a.0 = sym e ∙ a.2 in cc

pub one-asked : (ws : List (List ℕ)) (s t : Option (List ℕ)) (pairs all : List Pair) (m n : Option ℕ) → AskFor (serve s pairs m) ws → AskFor (serve t all n) ws → (s ≡ t) × (pairs ≡ all) × (m ≡ n)
one-asked ws s t pairs all m n a b =
    let same : b.0 ≡ a.0 = cc in
    one-server s t pairs all m n a.0 a.1 (subst (AreParts t all n) same b.1)

-- by their second letter
abbrev letter-of : Asked → ℕ
letter-of list = 105
letter-of upgrade = 112
letter-of (serve start pairs workers) = 101
letter-of (count name) = 111
letter-of (sample n) = 97

second-letter : (ws : List (List ℕ)) (asked : Asked) → AskFor asked ws → letter ws ≡ letter-of asked
second-letter ws list a = ap letter a
second-letter ws upgrade a = ap letter a
second-letter ws (serve start pairs workers) a = ap letter a.2
second-letter ws (count name) a = ap letter a.2
second-letter ws (sample n) a = ap letter a.2

pub not-upgraded : (ws : List (List ℕ)) → AskFor list ws → AskFor upgrade ws → ⊥
not-upgraded ws a b = omega (arith, second-letter ws list a, second-letter ws upgrade b)

pub upgrade-not-served : (ws : List (List ℕ)) (start : Option (List ℕ)) (pairs : List Pair) (workers : Option ℕ) → AskFor upgrade ws → AskFor (serve start pairs workers) ws → ⊥
upgrade-not-served ws start pairs workers a b = omega (arith, second-letter ws upgrade a, second-letter ws (serve start pairs workers) b)

pub upgrade-not-counted : (ws : List (List ℕ)) (name : List ℕ) → AskFor upgrade ws → AskFor (count name) ws → ⊥
upgrade-not-counted ws name a b = omega (arith, second-letter ws upgrade a, second-letter ws (count name) b)

pub upgrade-not-sampled : (ws : List (List ℕ)) (n : ℕ) → AskFor upgrade ws → AskFor (sample n) ws → ⊥
upgrade-not-sampled ws n a b = omega (arith, second-letter ws upgrade a, second-letter ws (sample n) b)

pub not-counted : (ws : List (List ℕ)) (name : List ℕ) → AskFor list ws → AskFor (count name) ws → ⊥
not-counted ws name a b = omega (arith, second-letter ws list a, second-letter ws (count name) b)

pub count-not-served : (ws : List (List ℕ)) (name : List ℕ) (start : Option (List ℕ)) (pairs : List Pair) (workers : Option ℕ) → AskFor (count name) ws → AskFor (serve start pairs workers) ws → ⊥
count-not-served ws name start pairs workers a b = omega (arith, second-letter ws (count name) a, second-letter ws (serve start pairs workers) b)

pub not-sampled : (ws : List (List ℕ)) (n : ℕ) → AskFor list ws → AskFor (sample n) ws → ⊥
not-sampled ws n a b = omega (arith, second-letter ws list a, second-letter ws (sample n) b)

pub count-not-sampled : (ws : List (List ℕ)) (name : List ℕ) (n : ℕ) → AskFor (count name) ws → AskFor (sample n) ws → ⊥
count-not-sampled ws name n a b = omega (arith, second-letter ws (count name) a, second-letter ws (sample n) b)

pub sample-not-served : (ws : List (List ℕ)) (n : ℕ) (start : Option (List ℕ)) (pairs : List Pair) (workers : Option ℕ) → AskFor (sample n) ws → AskFor (serve start pairs workers) ws → ⊥
sample-not-served ws n start pairs workers a b = omega (arith, second-letter ws (sample n) a, second-letter ws (serve start pairs workers) b)

-- `sample` has one number
pub one-sampled : (ws : List (List ℕ)) (m n : ℕ) → AskFor (sample m) ws → AskFor (sample n) ws → m ≡ n
one-sampled ws m n a b =
    let whole : codes "sample" ∷ a.0 ∷ [] ≡ codes "sample" ∷ b.0 ∷ [] = sym a.2 ∙ b.2 in
    let same : a.0 ≡ b.0 = cc in
    a.1.value ∙ ap (digits_value 10) same ∙ sym b.1.value

-- `count` names one start text
name-once : (m n : List ℕ) (rest : List (List ℕ)) → NameStart m rest → NameStart n rest → m ≡ n
name-once m n rest (f, inl a) (g, inl b) = let same : codes "--start" ∷ m ∷ [] ≡ codes "--start" ∷ n ∷ [] = sym a ∙ b in cc
name-once m n rest (f, inl a) (g, inr b) = absurd (let same : codes "--start" ∷ m ∷ [] ≡ (codes "--start=" ++ n) ∷ [] = sym a ∙ b in cc)
name-once m n rest (f, inr a) (g, inl b) = absurd (let same : (codes "--start=" ++ m) ∷ [] ≡ codes "--start" ∷ n ∷ [] = sym a ∙ b in cc)
name-once m n rest (f, inr a) (g, inr b) = let same : (codes "--start=" ++ m) ∷ [] ≡ (codes "--start=" ++ n) ∷ [] = sym a ∙ b in cc

pub one-counted : (ws : List (List ℕ)) (m n : List ℕ) → AskFor (count m) ws → AskFor (count n) ws → m ≡ n
one-counted ws m n a b =
    let whole : codes "count" ∷ b.0 ≡ codes "count" ∷ a.0 = sym b.2 ∙ a.2 in
    let same : b.0 ≡ a.0 = cc in
    name-once m n a.0 a.1 (subst (NameStart n) same b.1)

pub one-ends : (ws : List (List ℕ)) (a b : Asked) → AskFor a ws → AskFor b ws → ends_for a ≡ ends_for b
one-ends ws list list h k = refl
one-ends ws list upgrade h k = refl
one-ends ws list (serve t all w) h k = absurd (not-served ws t all w h k)
one-ends ws list (count n) h k = refl
one-ends ws list (sample n) h k = refl
one-ends ws upgrade list h k = refl
one-ends ws upgrade upgrade h k = refl
one-ends ws upgrade (serve t all w) h k = absurd (upgrade-not-served ws t all w h k)
one-ends ws upgrade (count n) h k = refl
one-ends ws upgrade (sample n) h k = refl
one-ends ws (count m) list h k = refl
one-ends ws (count m) upgrade h k = refl
one-ends ws (count m) (count n) h k = refl
one-ends ws (count m) (sample n) h k = refl
one-ends ws (count m) (serve t all w) h k = absurd (count-not-served ws m t all w h k)
one-ends ws (sample m) list h k = refl
one-ends ws (sample m) upgrade h k = refl
one-ends ws (sample m) (count n) h k = refl
one-ends ws (sample m) (sample n) h k = refl
one-ends ws (sample m) (serve t all w) h k = absurd (sample-not-served ws m t all w h k)
one-ends ws (serve s pairs v) (count n) h k = absurd (count-not-served ws n s pairs v k h)
one-ends ws (serve s pairs v) (sample n) h k = absurd (sample-not-served ws n s pairs v k h)
one-ends ws (serve s pairs v) list h k = absurd (not-served ws s pairs v k h)
one-ends ws (serve s pairs v) upgrade h k = absurd (upgrade-not-served ws s pairs v k h)
one-ends ws (serve s pairs v) (serve t all w) h k = ap (λ ps. suc (length ps)) (one-asked ws s t pairs all v w h k).1

-- a command and what it was asked by
pub asked-of : (command : Command) (ws : List (List ℕ)) → Commands command ws → (asked : Asked) × AskFor asked ws × (ends_for asked ≡ ends_of command)
asked-of command.List ws h = (list, h, refl)
asked-of command.Upgrade ws h = (upgrade, h, refl)
asked-of (command.Count name) ws h = (count name.now, h, refl)
asked-of (command.Sample n) ws h = (sample n, h, refl)
asked-of (command.Serve told many workers) ws h = (serve (option_map (λ s. s.now) told) h.0 workers, h.2, omega (arith, h.1))

pub ends-asked : (command : Command) (ws : List (List ℕ)) (asked : Asked) → Commands command ws → AskFor asked ws → ends_of command ≡ ends_for asked
ends-asked command ws asked h k = let a = asked-of command ws h in sym a.2 ∙ one-ends ws a.0 asked a.1 k

-- a server has few ends
pub few-ends : (ws : List (List ℕ)) (start : Option (List ℕ)) (pairs : List Pair) (workers : Option ℕ) (n : ℕ) → AskFor (serve start pairs workers) ws → n ≡ suc (length pairs) → (0 < n) × (n ≤ 64)
few-ends ws start pairs workers n a e = (omega (arith, e), omega (arith, e, a.1.few))

-- a server's start text and number of workers are those that are asked for
pub serve-told : (asked : Command) (told : Option (Bor (List ℕ))) (many : ℕ) (ahead : Option ℕ) (ws : List (List ℕ)) (start : Option (List ℕ)) (pairs : List Pair) (workers : Option ℕ) → asked ≡ command.Serve told many ahead → Commands asked ws → AskFor (serve start pairs workers) ws
    → (option_map (λ s. s.now) told ≡ start) × (ahead ≡ workers)
serve-told asked told many ahead ws start pairs workers is h k =
    let told_by : Commands (command.Serve told many ahead) ws = subst (λ x. Commands x ws) is h in
    let one = one-asked ws (option_map (λ s. s.now) told) start told_by.0 pairs ahead workers told_by.2 k in
    (one.0, one.2)

-- words that don't ask for a server
pub plain-not-served : (ws : List (List ℕ)) (start : Option (List ℕ)) (pairs : List Pair) (workers : Option ℕ) → AskForPlain ws → AskFor (serve start pairs workers) ws → ⊥
plain-not-served ws start pairs workers (inl a) h = not-served ws start pairs workers a h
plain-not-served ws start pairs workers (inr (inl u)) h = upgrade-not-served ws start pairs workers u h
plain-not-served ws start pairs workers (inr (inr (inl c))) h = count-not-served ws c.0 start pairs workers c.1 h
plain-not-served ws start pairs workers (inr (inr (inr s))) h = sample-not-served ws s.0 start pairs workers s.1 h

pub plain-not-wrong : (ws : List (List ℕ)) (place : ℕ) → AskForPlain ws → IsFirstWrong ws place → ⊥
plain-not-wrong ws place (inl a) wrong = wrong.nothing list a
plain-not-wrong ws place (inr (inl u)) wrong = wrong.nothing upgrade u
plain-not-wrong ws place (inr (inr (inl c))) wrong = wrong.nothing (count c.0) c.1
plain-not-wrong ws place (inr (inr (inr s))) wrong = wrong.nothing (sample s.0) s.1

-- The words of a server are taken apart in one way.
use Rattle.std.proofs.Common.{◌≡◌, ◌≢◌, ◌⊎◌, inl, inr, ℕ, suc, ◌+◌, ◌*◌, ◌≤◌, ◌<◌, List, [], ◌∷◌, ◌++◌, length, get_or, Option, Some, None, refl, sym, ap, subst, ◌∙◌, arith, append_assoc, append-nil, length-append}
use Rattle.std.specs.Prelude.{codes, option_to_list, IfSome}
use Rattle.std.specs.List.{flat_map, AllByRecursion}
use Rattle.std.proofs.lemmas.Grind.{flat_map-append}
use Rattle.command_line.specs.Words.{Pair, IsFileName, IsPair, IsWorkerCount, digit_word, Part, pair, start, joined, ahead, words_of, IsPart, pair_in, start_in, workers_in, AreParts, most_pairs}

-- a pair doesn't begin as an option
pub no-dash : (input output rest : List ℕ) → IsFileName input → input ++ 61 ∷ output ≡ 45 ∷ rest → ⊥
no-dash [] output rest f e = f.some refl
no-dash (x ∷ xs) output rest f e = f.no_option (let is : x ≡ 45 = cc in ap Some is)

-- a word is split at its first `=`
parted-once : (a b c d : List ℕ) → ((i : ℕ) → i < length a → get_or a i 0 ≢ 61) → ((i : ℕ) → i < length c → get_or c i 0 ≢ 61) → a ++ 61 ∷ b ≡ c ++ 61 ∷ d → (a ≡ c) × (b ≡ d)
parted-once [] b [] d ha hc e = (refl, cc)
parted-once [] b (y ∷ ys) d ha hc e = absurd (hc 0 (omega arith) (let is : y ≡ 61 = cc in is))
parted-once (x ∷ xs) b [] d ha hc e = absurd (ha 0 (omega arith) (let is : x ≡ 61 = cc in is))
parted-once (x ∷ xs) b (y ∷ ys) d ha hc e =
    let head : x ≡ y = cc in
    let tail : xs ++ 61 ∷ b ≡ ys ++ 61 ∷ d = cc in
    let t = parted-once xs b ys d (λ i l. ha (suc i) (omega (arith, l))) (λ i l. hc (suc i) (omega (arith, l))) tail in
    (ap (λ z. z ∷ xs) head ∙ ap (λ zs. y ∷ zs) t.0, t.1)

pair-once : (a b c d : List ℕ) → IsPair (a, b) → IsPair (c, d) → a ++ 61 ∷ b ≡ c ++ 61 ∷ d → pair (a, b) ≡ pair (c, d)
pair-once a b c d p q e =
    let t = parted-once a b c d p.parted q.parted e in
    ap (λ z. pair (z, b)) t.0 ∙ ap (λ z. pair (c, z)) t.1

-- the third letter of the first of some words, by which options differ
abbrev pub third : List (List ℕ) → ℕ
third [] = 0
third (w ∷ ws) = get_or w 2 0

-- words that begin with a part begin with no other
same-part : (p q : Part) (xs ys : List (List ℕ)) → IsPart p → IsPart q → words_of p ++ xs ≡ words_of q ++ ys → (p ≡ q) × (xs ≡ ys)
same-part (pair (a, b)) (pair (c, d)) xs ys p q e =
    let word : a ++ 61 ∷ b ≡ c ++ 61 ∷ d = cc in
    (pair-once a b c d p q word, cc)
same-part (pair (a, b)) (start f) xs ys p q e = absurd (no-dash a b _ p.input (let word : a ++ 61 ∷ b ≡ codes "--start" = cc in word))
same-part (pair (a, b)) (joined f) xs ys p q e = absurd (no-dash a b _ p.input (let word : a ++ 61 ∷ b ≡ codes "--start=" ++ f = cc in word))
same-part (pair (a, b)) (ahead m) xs ys p q e = absurd (no-dash a b _ p.input (let word : a ++ 61 ∷ b ≡ codes "--ahead" = cc in word))
same-part (start f) (pair (c, d)) xs ys p q e = absurd (no-dash c d _ q.input (let word : c ++ 61 ∷ d ≡ codes "--start" = cc in word))
same-part (start f) (start g) xs ys p q e =
    let name : f ≡ g = cc in
    (ap start name, cc)
same-part (start f) (joined g) xs ys p q e = absurd cc
same-part (start f) (ahead m) xs ys p q e = let other : 115 ≡ 97 = ap third e in absurd (omega (arith, other))
same-part (joined f) (pair (c, d)) xs ys p q e = absurd (no-dash c d _ q.input (let word : c ++ 61 ∷ d ≡ codes "--start=" ++ f = cc in word))
same-part (joined f) (start g) xs ys p q e = absurd cc
same-part (joined f) (joined g) xs ys p q e =
    let name : f ≡ g = cc in
    (ap joined name, cc)
same-part (joined f) (ahead m) xs ys p q e = let other : 115 ≡ 97 = ap third e in absurd (omega (arith, other))
same-part (ahead n) (pair (c, d)) xs ys p q e = absurd (no-dash c d _ q.input (let word : c ++ 61 ∷ d ≡ codes "--ahead" = cc in word))
same-part (ahead n) (start g) xs ys p q e = let other : 97 ≡ 115 = ap third e in absurd (omega (arith, other))
same-part (ahead n) (joined g) xs ys p q e = let other : 97 ≡ 115 = ap third e in absurd (omega (arith, other))
same-part (ahead n) (ahead m) xs ys p q e =
    let digit : 48 + n ≡ 48 + m = cc in
    let number : n ≡ m = omega (arith, digit) in
    (ap ahead number, cc)

some-words : (p : Part) (xs : List (List ℕ)) → words_of p ++ xs ≡ [] → ⊥
some-words (pair names) xs e = cc
some-words (start f) xs e = cc
some-words (joined f) xs e = cc
some-words (ahead n) xs e = cc

-- of parts whose words begin with those of others the first are these
pub record Peeled (ps qs : List Part) (xs : List (List ℕ)) : Type 0 where
  pub rest : List Part
  pub each : AllByRecursion IsPart rest
  pub is : qs ≡ ps ++ rest
  pub left : xs ≡ flat_map words_of rest

pub peel : (ps qs : List Part) (xs : List (List ℕ)) → AllByRecursion IsPart ps → AllByRecursion IsPart qs → flat_map words_of ps ++ xs ≡ flat_map words_of qs → Peeled ps qs xs
peel [] qs xs a b e = record { rest = qs; each = b; is = refl; left = e }
peel (p ∷ ps) [] xs a b e = absurd (some-words p (flat_map words_of ps ++ xs) (sym (append_assoc (words_of p) (flat_map words_of ps) xs) ∙ e))
peel (p ∷ ps) (q ∷ qs) xs a b e =
    let t = same-part p q (flat_map words_of ps ++ xs) (flat_map words_of qs) a.0 b.0 (sym (append_assoc (words_of p) (flat_map words_of ps) xs) ∙ e) in
    let r = peel ps qs xs a.1 b.1 t.1 in
    record {
      rest = r.rest;
      each = r.each;
      is = ap (λ z. z ∷ qs) (sym t.0) ∙ ap (λ zs. p ∷ zs) r.is;
      left = r.left;
    }

-- what can come next: a pair, `--start` with a name behind it, `--start=` with a name, or `--ahead` with a number behind it
abbrev pub CanNext : Option (List ℕ) → ℕ → Option ℕ → List ℕ → List (List ℕ) → Type 0
CanNext s n a w more = ((names : Pair) × IsPair names × (w ≡ names.0 ++ 61 ∷ names.1) × (n < most_pairs))
    ⊎ (((file : List ℕ) × (rest : List (List ℕ)) × IsFileName file × (w ≡ codes "--start") × (more ≡ file ∷ rest) × (s ≡ None))
    ⊎ (((file : List ℕ) × IsFileName file × (w ≡ codes "--start=" ++ file) × (s ≡ None))
    ⊎ ((m : ℕ) × (rest : List (List ℕ)) × IsWorkerCount m × (w ≡ codes "--ahead") × (more ≡ digit_word m ∷ rest) × (a ≡ None))))

none-before : {X : Type 0} (s t : Option X) (x : X) (xs : List X) → option_to_list s ++ x ∷ xs ≡ option_to_list t → s ≡ None
none-before None t x xs e = refl
none-before (Some y) None x xs e = absurd cc
none-before (Some y) (Some z) x xs e = absurd cc

next-of : (s t : Option (List ℕ)) (n : ℕ) (a b : Option ℕ) (w : List ℕ) (more : List (List ℕ)) (rest : List Part) → AllByRecursion IsPart rest → w ∷ more ≡ flat_map words_of rest
    → option_to_list s ++ flat_map start_in rest ≡ option_to_list t → n + length (flat_map pair_in rest) ≤ most_pairs → option_to_list a ++ flat_map workers_in rest ≡ option_to_list b → CanNext s n a w more
next-of s t n a b w more [] each e starts few numbers = absurd cc
next-of s t n a b w more (pair (i, o) ∷ rest) each e starts few numbers =
    let word : w ≡ i ++ 61 ∷ o = cc in
    inl ((i, o), each.0, word, omega (arith, few))
next-of s t n a b w more (start f ∷ rest) each e starts few numbers =
    let word : w ≡ codes "--start" = cc in
    let name : more ≡ f ∷ flat_map words_of rest = cc in
    inr (inl (f, flat_map words_of rest, each.0, word, name, none-before s t f (flat_map start_in rest) starts))
next-of s t n a b w more (joined f ∷ rest) each e starts few numbers =
    let word : w ≡ codes "--start=" ++ f = cc in
    inr (inr (inl (f, each.0, word, none-before s t f (flat_map start_in rest) starts)))
next-of s t n a b w more (ahead m ∷ rest) each e starts few numbers =
    let word : w ≡ codes "--ahead" = cc in
    let number : more ≡ digit_word m ∷ flat_map words_of rest = cc in
    inr (inr (inr (m, flat_map words_of rest, each.0, word, number, none-before a b m (flat_map workers_in rest) numbers)))

-- what the parts of some words give, and then those of further ones
gives-more : {X : Type 0} (f : Part → List X) (ps qs rest : List Part) (xs ys : List X) → qs ≡ ps ++ rest → flat_map f ps ≡ xs → flat_map f qs ≡ ys → xs ++ flat_map f rest ≡ ys
gives-more f ps qs rest xs ys is before all =
    ap (λ z. z ++ flat_map f rest) (sym before) ∙ sym (flat_map-append f ps rest) ∙ ap (flat_map f) (sym is) ∙ all

pub next-part : (s t : Option (List ℕ)) (pairs all : List Pair) (a b : Option ℕ) (ws : List (List ℕ)) (w : List ℕ) (more : List (List ℕ)) → AreParts s pairs a ws → AreParts t all b (ws ++ w ∷ more) → CanNext s (length pairs) a w more
next-part s t pairs all a b ws w more h k =
    let r = peel h.parts k.parts (w ∷ more) h.each k.each (ap (λ z. z ++ w ∷ more) (sym h.words) ∙ k.words) in
    let starts = gives-more start_in h.parts k.parts r.rest (option_to_list s) (option_to_list t) r.is h.starts k.starts in
    let count = gives-more pair_in h.parts k.parts r.rest pairs all r.is h.pairs k.pairs in
    let numbers = gives-more workers_in h.parts k.parts r.rest (option_to_list a) (option_to_list b) r.is h.numbers k.numbers in
    next-of s t (length pairs) a b w more r.rest r.each r.left starts (omega (arith, k.few, ap length count, length-append pairs (flat_map pair_in r.rest))) numbers

-- one part more
all-add : (ps : List Part) (p : Part) → AllByRecursion IsPart ps → IsPart p → AllByRecursion IsPart (ps ++ p ∷ [])
all-add [] p a b = (b, tt)
all-add (q ∷ ps) p a b = (a.0, all-add ps p a.1 b)

flat-add : {X Y : Type 0} (f : X → List Y) (xs : List X) (x : X) → flat_map f (xs ++ x ∷ []) ≡ flat_map f xs ++ f x
flat-add f [] x = append-nil (f x)
flat-add f (y ∷ ys) x = ap (λ t. f y ++ t) (flat-add f ys x) ∙ sym (append_assoc (f y) (flat_map f ys) (f x))

pub add-part : (s t : Option (List ℕ)) (pairs : List Pair) (a b : Option ℕ) (ws : List (List ℕ)) (p : Part) → AreParts s pairs a ws → IsPart p → option_to_list s ++ start_in p ≡ option_to_list t → length (pairs ++ pair_in p) ≤ most_pairs
    → option_to_list a ++ workers_in p ≡ option_to_list b → AreParts t (pairs ++ pair_in p) b (ws ++ words_of p)
add-part s t pairs a b ws p h ok starts few numbers = record {
  parts = h.parts ++ p ∷ [];
  each = all-add h.parts p h.each ok;
  words = ap (λ z. z ++ words_of p) h.words ∙ sym (flat-add words_of h.parts p);
  starts = flat-add start_in h.parts p ∙ ap (λ z. z ++ start_in p) h.starts ∙ starts;
  pairs = flat-add pair_in h.parts p ∙ ap (λ z. z ++ pair_in p) h.pairs;
  numbers = flat-add workers_in h.parts p ∙ ap (λ z. z ++ workers_in p) h.numbers ∙ numbers;
  few = few;
}

pub no-parts : AreParts None [] None []
no-parts = record { parts = []; each = tt; words = refl; starts = refl; pairs = refl; numbers = refl; few = omega arith }

-- words ask for one start text, one list of pairs and one number of workers
one-told : {X : Type 0} (s t : Option X) → option_to_list s ≡ option_to_list t → s ≡ t
one-told None None e = refl
one-told None (Some y) e = absurd cc
one-told (Some x) None e = absurd cc
one-told (Some x) (Some y) e = let is : x ≡ y = cc in ap Some is

none-left : (rest : List Part) → [] ≡ flat_map words_of rest → rest ≡ []
none-left [] e = refl
none-left (p ∷ rest) e = absurd (some-words p (flat_map words_of rest) (sym e))

pub one-server : (s t : Option (List ℕ)) (pairs all : List Pair) (a b : Option ℕ) (ws : List (List ℕ)) → AreParts s pairs a ws → AreParts t all b ws → (s ≡ t) × (pairs ≡ all) × (a ≡ b)
one-server s t pairs all a b ws h k =
    let r = peel h.parts k.parts [] h.each k.each (append-nil (flat_map words_of h.parts) ∙ sym h.words ∙ k.words) in
    let same : k.parts ≡ h.parts = r.is ∙ ap (λ z. h.parts ++ z) (none-left r.rest r.left) ∙ append-nil h.parts in (
      one-told s t (sym h.starts ∙ ap (flat_map start_in) (sym same) ∙ k.starts),
      sym h.pairs ∙ ap (flat_map pair_in) (sym same) ∙ k.pairs,
      one-told a b (sym h.numbers ∙ ap (flat_map workers_in) (sym same) ∙ k.numbers),
    )

-- there are few words
part-words : (p : Part) → length (words_of p) ≤ 2 * length (start_in p) + length (pair_in p) + 2 * length (workers_in p)
part-words (pair names) = omega arith
part-words (start f) = omega arith
part-words (joined f) = omega arith
part-words (ahead n) = omega arith

few-of : (ps : List Part) → length (flat_map words_of ps) ≤ 2 * length (flat_map start_in ps) + length (flat_map pair_in ps) + 2 * length (flat_map workers_in ps)
few-of [] = omega arith
few-of (p ∷ ps) = omega (
  arith,
  few-of ps,
  part-words p,
  length-append (words_of p) (flat_map words_of ps),
  length-append (start_in p) (flat_map start_in ps),
  length-append (pair_in p) (flat_map pair_in ps),
  length-append (workers_in p) (flat_map workers_in ps),
)

one-at-most : {X : Type 0} (t : Option X) → length (option_to_list t) ≤ 1
one-at-most None = omega arith
one-at-most (Some x) = omega arith

pub few-words : (t : Option (List ℕ)) (pairs : List Pair) (a : Option ℕ) (ws : List (List ℕ)) → AreParts t pairs a ws → length ws ≤ 67
few-words t pairs a ws h = omega (arith, few-of h.parts, ap length h.words, ap length h.starts, one-at-most t, ap length h.pairs, h.few, ap length h.numbers, one-at-most a)

-- there are 1 to 8 workers, where the words tell how many
told-count : (ps : List Part) (n : ℕ) (ns : List ℕ) → AllByRecursion IsPart ps → flat_map workers_in ps ≡ n ∷ ns → IsWorkerCount n
told-count [] n ns each e = absurd cc
told-count (pair names ∷ ps) n ns each e = told-count ps n ns each.1 e
told-count (start f ∷ ps) n ns each e = told-count ps n ns each.1 e
told-count (joined f ∷ ps) n ns each e = told-count ps n ns each.1 e
told-count (ahead m ∷ ps) n ns each e = let is : m ≡ n = cc in subst IsWorkerCount is each.0

pub few-workers : (t : Option (List ℕ)) (pairs : List Pair) (a : Option ℕ) (ws : List (List ℕ)) → AreParts t pairs a ws → IfSome a IsWorkerCount
few-workers t pairs None ws h = tt
few-workers t pairs (Some n) ws h = told-count h.parts n [] h.each h.numbers

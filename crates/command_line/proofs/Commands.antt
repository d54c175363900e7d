-- Which words can begin words that ask for something.
use Rattle.std.proofs.Common.{◌≡◌, ◌≢◌, inl, inr, ℕ, ◌+◌, ◌≤◌, ◌<◌, List, [], ◌∷◌, ◌++◌, length, take, drop, map, get_or, Option, Some, None, Bool, true, false, refl, sym, ap, subst, ◌∙◌, arith, add-one, append_assoc, append-nil, length-append}
use Rattle.std.specs.Prelude.{codes, string_bytes, String, bytes_eq, option_map, option_to_list, Result, Ok, Err, MatchResult, IfOk, is_some}
use Rattle.std.proofs.lemmas.Bool.Decides.{not_from_Decides, Decides-at}
use Rattle.std.proofs.lemmas.List.{take_all, take-append-drop, take_more, length-take, length-map, get_or-map}
use Rattle.std.proofs.lemmas.Str.Pattern.{IsSplitOnceResult, split_parts, split_after}
use Rattle.std.proofs.lemmas.Slice.Eq.{bytes_eq-Decides}
use denote.Ref.{Bor}
use Rattle.command_line.specs.declared.scan.Next.{Next}
use Rattle.command_line.specs.declared.scan.Next.TheVariants as next
use Rattle.command_line.specs.declared.scan.Scan.{Scan}
use Rattle.command_line.specs.declared.command.UsageFault.{UsageFault}
use Rattle.command_line.specs.Words.{Pair, Asked, list, upgrade, serve, count, sample, IsFileName, IsPair, IsWorkerCount, digit_word, pair, start, joined, ahead, AreParts, AskFor, CanBegin, IsFirstWrong, Commands, HasFewWorkers, pairs_asked, most_pairs}
use Rattle.command_line.specs.declared.command.Command.{Command}
use Rattle.command_line.specs.declared.command.Command.TheVariants as command
use Rattle.command_line.specs.Scanned.{Scanned, IsStuck, opening}
use Rattle.command_line.proofs.Parts.{no-dash, CanNext, next-part, add-part, no-parts, few-words, few-workers}

-- what holds of each list of words that isn't empty
pub with-first : {Y : Type 0} (xs : List (String Y)) (P : List (List ℕ) → Type 0) → 0 < length xs → ((w : List ℕ) (ws : List (List ℕ)) → P (w ∷ ws)) → P (map string_bytes xs)
with-first [] P l every = absurd (omega (arith, l))
with-first (x ∷ xs) P l every = every (string_bytes x) (map string_bytes xs)

pub none-mapped : {Y : Type 0} (xs : List (String Y)) → length xs ≡ 0 → map string_bytes xs ≡ []
none-mapped [] e = refl
none-mapped (x ∷ xs) e = absurd (omega (arith, e))

pub map-long : {Y : Type 0} (xs : List (String Y)) (i : ℕ) → i < length xs → i < length (map string_bytes xs)
map-long xs i l = omega (arith, l, length-map xs string_bytes)

-- bytes that were compared and differ
pub differ : (xs ys : List ℕ) (r : Bool) → r ≡ bytes_eq xs ys → r ≡ false → xs ≢ ys
differ xs ys r e f = not_from_Decides r (Decides-at r (bytes_eq xs ys) e (bytes_eq-Decides xs ys)) f

pub agree : (xs ys : List ℕ) (r : Bool) → r ≡ bytes_eq xs ys → r ≡ true → xs ≡ ys
agree xs ys r e t = (Decides-at r (bytes_eq xs ys) e (bytes_eq-Decides xs ys)).0 t

pub mapped-at : {Y : Type 0} (xs : List (String Y)) (x : String Y) (i : ℕ) → i < length xs → x ≡ get_or xs i x → string_bytes x ≡ get_or (map string_bytes xs) i (string_bytes x)
mapped-at xs x i l at = ap string_bytes at ∙ sym (get_or-map string_bytes xs i x (string_bytes x) l)

pub nothing-in : (xs : List ℕ) → length xs ≡ 0 → xs ≡ []
nothing-in [] e = refl
nothing-in (x ∷ xs) e = absurd (omega (arith, e))

-- a word that was split at its first `=`
pub pair-found : (w : List ℕ) (r : Option (Bor (List ℕ) × Bor (List ℕ))) (x : Bor (List ℕ) × Bor (List ℕ)) → IsSplitOnceResult 61 w r → r ≡ Some x → IsFileName x.0.now → x.1.now ≢ []
    → IsPair (x.0.now, x.1.now) × (w ≡ x.0.now ++ 61 ∷ x.1.now)
pair-found w r x split is input output =
    let parts = rw is at (split_parts 61 w r split (omega arith)) in
    (record { input = input; parted = parts.1; output = output }, parts.0)

pub pair-none : (w : List ℕ) (r : Option (Bor (List ℕ) × Bor (List ℕ))) → IsSplitOnceResult 61 w r → r ≡ None → (names : Pair) → IsPair names → w ≢ names.0 ++ 61 ∷ names.1
pair-none w r split is names p e = rw is at (split_after 61 w names.0 names.1 r split (omega arith) e p.parted)

pub pair-split : (w : List ℕ) (r : Option (Bor (List ℕ) × Bor (List ℕ))) (x : Bor (List ℕ) × Bor (List ℕ)) → IsSplitOnceResult 61 w r → r ≡ Some x → (names : Pair) → IsPair names → w ≡ names.0 ++ 61 ∷ names.1
    → IsFileName x.0.now × (x.1.now ≢ [])
pair-split w r x split is names p e =
    let parts = rw is at (split_after 61 w names.0 names.1 r split (omega arith) e p.parted) in
    (subst IsFileName (sym parts.0) p.input, λ n. p.output (sym parts.1 ∙ n))

-- the second letter of words, by which commands differ
abbrev pub letter : List (List ℕ) → ℕ
letter [] = 0
letter (w ∷ ws) = get_or w 1 0

-- the words of a server are its parts
pub told_by : (ws : List (List ℕ)) (asked : Asked) → AskFor asked (codes "serve" ∷ ws) → (told : Option (List ℕ)) × (pairs : List Pair) × (workers : Option ℕ) × AreParts told pairs workers ws
told_by ws list e = absurd cc
told_by ws upgrade e = absurd cc
told_by ws (count name) a = let other : 101 ≡ 111 = ap letter a.2 in absurd (omega (arith, other))
told_by ws (sample n) a = let other : 101 ≡ 97 = ap letter a.2 in absurd (omega (arith, other))
told_by ws (serve told pairs workers) a =
    let same : a.0 ≡ ws = cc in
    (told, pairs, workers, subst (AreParts told pairs workers) same a.1)

-- words of a server that are no parts, the first of which are and with the next one aren't
server-wrong : (ws : List (List ℕ)) (place : ℕ) → place ≤ length ws → CanBegin (codes "serve" ∷ take place ws) → (place < length ws → IsStuck (take (place + 1) ws))
    → ((told : Option (List ℕ)) (pairs : List Pair) (workers : Option ℕ) → AreParts told pairs workers ws → ⊥) → IsFirstWrong (codes "serve" ∷ ws) (place + 1)
server-wrong ws place within begins wrong nothing = record {
  within = omega (arith, within);
  begins = rw (add-one place) begins;
  wrong = λ l b.
      let next : CanBegin (codes "serve" ∷ take (place + 1) ws) = rw (add-one (place + 1)) at b in
      let told = told_by (take (place + 1) ws ++ next.more) next.asked next.ask in
      wrong (omega (arith, l)) told.0 told.1 told.2 next.more told.3;
  nothing = λ asked a. let told = told_by ws asked a in nothing told.0 told.1 told.2 told.3;
}

-- what comes behind words that were read
plain-words : (words : List (List ℕ)) (scan : Scan) (pairs : List Pair) → scan.next ≡ next.Part → (s : Scanned words scan pairs) → words ≡ s.before
plain-words words scan pairs plain s = s.words ∙ ap (λ b. s.before ++ opening b) plain ∙ append-nil s.before

plain-opened : (words : List (List ℕ)) (scan : Scan) → scan.next ≡ next.Part → words ≡ words ++ opening scan.next
plain-opened words scan plain = sym (append-nil words) ∙ ap (λ b. words ++ opening b) (sym plain)

pub plain-parts : (words : List (List ℕ)) (scan : Scan) (pairs : List Pair) → scan.next ≡ next.Part → Scanned words scan pairs → AreParts (option_map (λ f. f.now) scan.start) pairs scan.ahead words
plain-parts words scan pairs plain s = subst (AreParts (option_map (λ f. f.now) scan.start) pairs scan.ahead) (sym (plain-words words scan pairs plain s)) s.parts

pub plain-next : (words : List (List ℕ)) (scan : Scan) (pairs : List Pair) (w : List ℕ) (told : Option (List ℕ)) (all : List Pair) (workers : Option ℕ) (more : List (List ℕ)) → scan.next ≡ next.Part → Scanned words scan pairs
    → AreParts told all workers ((words ++ w ∷ []) ++ more) → CanNext (option_map (λ f. f.now) scan.start) (length pairs) scan.ahead w more
plain-next words scan pairs w told all workers more plain s k =
    next-part _ told pairs all _ workers words w more (plain-parts words scan pairs plain s) (subst (AreParts told all workers) (append_assoc words (w ∷ []) more) k)

-- options differ by their third letters
abbrev third-letter : List ℕ → ℕ
third-letter w = get_or w 2 0

-- what comes behind an option that wants a name or a number
opened-next : (words : List (List ℕ)) (scan : Scan) (pairs : List Pair) (option : List ℕ) (told : Option (List ℕ)) (all : List Pair) (workers : Option ℕ) (more : List (List ℕ)) → opening scan.next ≡ option ∷ [] → Scanned words scan pairs
    → AreParts told all workers (words ++ more) → CanNext (option_map (λ f. f.now) scan.start) (length pairs) scan.ahead option more
opened-next words scan pairs option told all workers more is s k =
    let split : words ++ more ≡ s.before ++ option ∷ more =
    ap (λ z. z ++ more) (s.words ∙ ap (λ b. s.before ++ b) is) ∙ append_assoc s.before (option ∷ []) more in
    next-part _ told pairs all _ workers s.before option more s.parts (subst (AreParts told all workers) split k)

named-next : (s : Option (List ℕ)) (n : ℕ) (a : Option ℕ) (more : List (List ℕ)) → CanNext s n a (codes "--start") more → (file : List ℕ) × (rest : List (List ℕ)) × (more ≡ file ∷ rest) × IsFileName file
named-next s n a more (inl ((i, o), is, word, few)) = absurd (no-dash i o _ is.input (sym word))
named-next s n a more (inr (inl (file, rest, named, word, left, none))) = (file, rest, left, named)
named-next s n a more (inr (inr (inl (file, named, word, none)))) = absurd cc
named-next s n a more (inr (inr (inr (m, rest, is, word, left, none)))) = let other : 115 ≡ 97 = ap third-letter word in absurd (omega (arith, other))

pub naming-next : (words : List (List ℕ)) (scan : Scan) (pairs : List Pair) (told : Option (List ℕ)) (all : List Pair) (workers : Option ℕ) (more : List (List ℕ)) → scan.next ≡ next.Name → Scanned words scan pairs
    → AreParts told all workers (words ++ more) → (file : List ℕ) × (rest : List (List ℕ)) × (more ≡ file ∷ rest) × IsFileName file
naming-next words scan pairs told all workers more is s k =
    named-next _ (length pairs) _ more (opened-next words scan pairs (codes "--start") told all workers more (ap opening is) s k)

numbered-next : (s : Option (List ℕ)) (n : ℕ) (a : Option ℕ) (more : List (List ℕ)) → CanNext s n a (codes "--ahead") more → (m : ℕ) × (rest : List (List ℕ)) × (more ≡ digit_word m ∷ rest) × IsWorkerCount m
numbered-next s n a more (inl ((i, o), is, word, few)) = absurd (no-dash i o _ is.input (sym word))
numbered-next s n a more (inr (inl (file, rest, named, word, left, none))) = let other : 97 ≡ 115 = ap third-letter word in absurd (omega (arith, other))
numbered-next s n a more (inr (inr (inl (file, named, word, none)))) = let other : 97 ≡ 115 = ap third-letter word in absurd (omega (arith, other))
numbered-next s n a more (inr (inr (inr (m, rest, is, word, left, none)))) = (m, rest, left, is)

pub numbering-next : (words : List (List ℕ)) (scan : Scan) (pairs : List Pair) (told : Option (List ℕ)) (all : List Pair) (workers : Option ℕ) (more : List (List ℕ)) → scan.next ≡ next.Number → Scanned words scan pairs
    → AreParts told all workers (words ++ more) → (m : ℕ) × (rest : List (List ℕ)) × (more ≡ digit_word m ∷ rest) × IsWorkerCount m
numbering-next words scan pairs told all workers more is s k =
    numbered-next _ (length pairs) _ more (opened-next words scan pairs (codes "--ahead") told all workers more (ap opening is) s k)

-- a word that isn't the name of a file where one comes next
pub stuck-name : (words : List (List ℕ)) (scan : Scan) (pairs : List Pair) (w : List ℕ) → scan.next ≡ next.Name → (IsFileName w → ⊥) → Scanned words scan pairs → IsStuck (words ++ w ∷ [])
stuck-name words scan pairs w is other s = λ told all workers more k.
    let (file, rest, left, named) = naming-next words scan pairs told all workers (w ∷ more) is s (subst (AreParts told all workers) (append_assoc words (w ∷ []) more) k) in
    let same : file ≡ w = cc in
    other (subst IsFileName same named)

-- a word that isn't the number of workers where that comes next
pub stuck-number : (words : List (List ℕ)) (scan : Scan) (pairs : List Pair) (w : List ℕ) → scan.next ≡ next.Number → ((n : ℕ) → IsWorkerCount n → w ≢ digit_word n) → Scanned words scan pairs → IsStuck (words ++ w ∷ [])
stuck-number words scan pairs w is other s = λ told all workers more k.
    let (n, rest, left, one_to_8) = numbering-next words scan pairs told all workers (w ∷ more) is s (subst (AreParts told all workers) (append_assoc words (w ∷ []) more) k) in
    let same : w ≡ digit_word n = cc in
    other n one_to_8 same

-- a second `--start`
some-none : {X Y : Type 0} (o : Option X) (f : X → Y) → is_some o ≡ true → option_map f o ≡ None → ⊥
some-none None f e n = cc
some-none (Some x) f e n = cc

stuck-start-next : (s : Option (List ℕ)) (n : ℕ) (a : Option ℕ) (more : List (List ℕ)) → CanNext s n a (codes "--start") more → s ≡ None
stuck-start-next s n a more (inl ((i, o), is, word, few)) = absurd (no-dash i o _ is.input (sym word))
stuck-start-next s n a more (inr (inl (file, rest, named, word, left, none))) = none
stuck-start-next s n a more (inr (inr (inl (file, named, word, none)))) = none
stuck-start-next s n a more (inr (inr (inr (m, rest, is, word, left, none)))) = let other : 115 ≡ 97 = ap third-letter word in absurd (omega (arith, other))

pub stuck-start : (words : List (List ℕ)) (scan : Scan) (pairs : List Pair) → scan.next ≡ next.Part → is_some scan.start ≡ true → Scanned words scan pairs → IsStuck (words ++ codes "--start" ∷ [])
stuck-start words scan pairs plain some s = λ told all workers more k.
    some-none scan.start (λ f. f.now) some (stuck-start-next _ _ _ more (plain-next words scan pairs (codes "--start") told all workers more plain s k))

-- a second `--ahead`
stuck-ahead-next : (s : Option (List ℕ)) (n : ℕ) (a : Option ℕ) (more : List (List ℕ)) → CanNext s n a (codes "--ahead") more → a ≡ None
stuck-ahead-next s n a more (inl ((i, o), is, word, few)) = absurd (no-dash i o _ is.input (sym word))
stuck-ahead-next s n a more (inr (inl (file, rest, named, word, left, none))) = let other : 97 ≡ 115 = ap third-letter word in absurd (omega (arith, other))
stuck-ahead-next s n a more (inr (inr (inl (file, named, word, none)))) = let other : 97 ≡ 115 = ap third-letter word in absurd (omega (arith, other))
stuck-ahead-next s n a more (inr (inr (inr (m, rest, is, word, left, none)))) = none

some-there : {X : Type 0} (o : Option X) → is_some o ≡ true → o ≡ None → ⊥
some-there None e n = cc
some-there (Some x) e n = cc

pub stuck-ahead : (words : List (List ℕ)) (scan : Scan) (pairs : List Pair) → scan.next ≡ next.Part → is_some scan.ahead ≡ true → Scanned words scan pairs → IsStuck (words ++ codes "--ahead" ∷ [])
stuck-ahead words scan pairs plain some s = λ told all workers more k.
    some-there scan.ahead some (stuck-ahead-next _ _ _ more (plain-next words scan pairs (codes "--ahead") told all workers more plain s k))

-- a second `--start=`, and what is no name behind it
joined-next : (s : Option (List ℕ)) (n : ℕ) (a : Option ℕ) (file : List ℕ) (more : List (List ℕ)) → CanNext s n a (codes "--start=" ++ file) more → IsFileName file × (s ≡ None)
joined-next s n a file more (inl ((i, o), is, word, few)) = absurd (no-dash i o _ is.input (sym word))
joined-next s n a file more (inr (inl (f, rest, named, word, left, none))) = absurd cc
joined-next s n a file more (inr (inr (inl (f, named, word, none)))) =
    let same : f ≡ file = cc in
    (subst IsFileName same named, none)
joined-next s n a file more (inr (inr (inr (m, rest, is, word, left, none)))) = let other : 115 ≡ 97 = ap third-letter word in absurd (omega (arith, other))

pub stuck-again : (words : List (List ℕ)) (scan : Scan) (pairs : List Pair) (file : List ℕ) → scan.next ≡ next.Part → is_some scan.start ≡ true → Scanned words scan pairs → IsStuck (words ++ (codes "--start=" ++ file) ∷ [])
stuck-again words scan pairs file plain some s = λ told all workers more k.
    some-none scan.start (λ f. f.now) some (joined-next _ _ _ file more (plain-next words scan pairs _ told all workers more plain s k)).1

pub stuck-joined : (words : List (List ℕ)) (scan : Scan) (pairs : List Pair) (file : List ℕ) → scan.next ≡ next.Part → (IsFileName file → ⊥) → Scanned words scan pairs → IsStuck (words ++ (codes "--start=" ++ file) ∷ [])
stuck-joined words scan pairs file plain other s = λ told all workers more k.
    other (joined-next _ _ _ file more (plain-next words scan pairs _ told all workers more plain s k)).0

-- a word that is no option and no pair, or one pair too many
abbrev pub IsNoOption : List ℕ → Type 0
IsNoOption w = (w ≢ codes "--start") × (w ≢ codes "--ahead") × ((file : List ℕ) → w ≢ codes "--start=" ++ file)

pair-next : (s : Option (List ℕ)) (n : ℕ) (a : Option ℕ) (w : List ℕ) (more : List (List ℕ)) → IsNoOption w → CanNext s n a w more
    → ((names : Pair) × IsPair names × (w ≡ names.0 ++ 61 ∷ names.1)) × (n < most_pairs)
pair-next s n a w more apart (inl (names, is, word, few)) = ((names, is, word), few)
pair-next s n a w more apart (inr (inl (file, rest, named, word, left, none))) = absurd (apart.0 word)
pair-next s n a w more apart (inr (inr (inl (file, named, word, none)))) = absurd (apart.2 file word)
pair-next s n a w more apart (inr (inr (inr (m, rest, is, word, left, none)))) = absurd (apart.1 word)

pub stuck-full : (words : List (List ℕ)) (scan : Scan) (pairs : List Pair) (w : List ℕ) → scan.next ≡ next.Part → IsNoOption w → most_pairs ≤ scan.pairs → Scanned words scan pairs → IsStuck (words ++ w ∷ [])
stuck-full words scan pairs w plain apart full s = λ told all workers more k.
    omega (arith, full, s.many, (pair-next _ _ _ w more apart (plain-next words scan pairs w told all workers more plain s k)).1)

pub stuck-pair : (words : List (List ℕ)) (scan : Scan) (pairs : List Pair) (w : List ℕ) → scan.next ≡ next.Part → IsNoOption w → ((names : Pair) → IsPair names → w ≢ names.0 ++ 61 ∷ names.1) → Scanned words scan pairs → IsStuck (words ++ w ∷ [])
stuck-pair words scan pairs w plain apart none s = λ told all workers more k.
    let found = (pair-next _ _ _ w more apart (plain-next words scan pairs w told all workers more plain s k)).0 in
    none found.0 found.1 found.2

-- a word that can stand there was read
none-there : {X : Type 0} (o : Option X) → is_some o ≡ false → o ≡ None
none-there None e = refl
none-there (Some x) e = absurd cc

none-told-of : (o : Option (Bor (List ℕ))) → o ≡ None → option_map (λ f. f.now) o ≡ None
none-told-of o e = ap (option_map (λ f. f.now)) e

room : (pairs : List Pair) → length pairs ≤ most_pairs → length (pairs ++ []) ≤ most_pairs
room pairs l = omega (arith, l, length-append pairs [])

pub took-name : (words : List (List ℕ)) (scan : Scan) (pairs : List Pair) (file : Bor (List ℕ)) → scan.next ≡ next.Name → IsFileName file.now → Scanned words scan pairs
    → Scanned (words ++ file.now ∷ []) (record { start = Some file; ahead = scan.ahead; pairs = scan.pairs; words = scan.words + 1; next = next.Part }) (pairs ++ [])
took-name words scan pairs file is named s =
    let none : option_map (λ f. f.now) scan.start ≡ None = none-told-of scan.start (s.no_start is) in
    let split : s.before ++ codes "--start" ∷ file.now ∷ [] ≡ words ++ file.now ∷ [] =
    sym (ap (λ z. z ++ file.now ∷ []) (s.words ∙ ap (λ b. s.before ++ opening b) is) ∙ append_assoc s.before (codes "--start" ∷ []) (file.now ∷ [])) in
    record {
      before = words ++ file.now ∷ [];
      parts = subst (AreParts (Some file.now) (pairs ++ []) scan.ahead) split
          (add-part _ (Some file.now) pairs scan.ahead scan.ahead s.before (start file.now) s.parts named (rw none refl) (room pairs s.parts.few) (append-nil (option_to_list scan.ahead)));
      words = sym (append-nil (words ++ file.now ∷ []));
      no_start = λ t. absurd cc;
      no_ahead = λ t. absurd cc;
      many = omega (arith, s.many, length-append pairs []);
      read = omega (arith, s.read, length-append words (file.now ∷ []));
    }

pub took-number : (words : List (List ℕ)) (scan : Scan) (pairs : List Pair) (w : List ℕ) (n : ℕ) → scan.next ≡ next.Number → IsWorkerCount n → w ≡ digit_word n → Scanned words scan pairs
    → Scanned (words ++ w ∷ []) (record { start = scan.start; ahead = Some n; pairs = scan.pairs; words = scan.words + 1; next = next.Part }) (pairs ++ [])
took-number words scan pairs w n is one_to_8 word s =
    let told = option_map (λ f. f.now) scan.start in
    let none : scan.ahead ≡ None = s.no_ahead is in
    let split : s.before ++ codes "--ahead" ∷ digit_word n ∷ [] ≡ words ++ w ∷ [] =
    ap (λ z. s.before ++ codes "--ahead" ∷ z ∷ []) (sym word)
    ∙ sym (ap (λ z. z ++ w ∷ []) (s.words ∙ ap (λ b. s.before ++ opening b) is) ∙ append_assoc s.before (codes "--ahead" ∷ []) (w ∷ [])) in
    record {
      before = words ++ w ∷ [];
      parts = subst (AreParts told (pairs ++ []) (Some n)) split
          (add-part told told pairs scan.ahead (Some n) s.before (ahead n) s.parts one_to_8 (append-nil (option_to_list told)) (room pairs s.parts.few) (rw none refl));
      words = sym (append-nil (words ++ w ∷ []));
      no_start = λ t. absurd cc;
      no_ahead = λ t. absurd cc;
      many = omega (arith, s.many, length-append pairs []);
      read = omega (arith, s.read, length-append words (w ∷ []));
    }

pub took-start : (words : List (List ℕ)) (scan : Scan) (pairs : List Pair) → scan.next ≡ next.Part → is_some scan.start ≡ false → Scanned words scan pairs
    → Scanned (words ++ codes "--start" ∷ []) (record { start = scan.start; ahead = scan.ahead; pairs = scan.pairs; words = scan.words + 1; next = next.Name }) (pairs ++ [])
took-start words scan pairs plain none s = record {
  before = words;
  parts = rw (append-nil pairs) (plain-parts words scan pairs plain s);
  words = refl;
  no_start = λ _. none-there scan.start none;
  no_ahead = λ t. absurd cc;
  many = omega (arith, s.many, length-append pairs []);
  read = omega (arith, s.read, length-append words (codes "--start" ∷ []));
}

pub took-ahead : (words : List (List ℕ)) (scan : Scan) (pairs : List Pair) → scan.next ≡ next.Part → is_some scan.ahead ≡ false → Scanned words scan pairs
    → Scanned (words ++ codes "--ahead" ∷ []) (record { start = scan.start; ahead = scan.ahead; pairs = scan.pairs; words = scan.words + 1; next = next.Number }) (pairs ++ [])
took-ahead words scan pairs plain none s = record {
  before = words;
  parts = rw (append-nil pairs) (plain-parts words scan pairs plain s);
  words = refl;
  no_start = λ t. absurd cc;
  no_ahead = λ _. none-there scan.ahead none;
  many = omega (arith, s.many, length-append pairs []);
  read = omega (arith, s.read, length-append words (codes "--ahead" ∷ []));
}

pub took-joined : (words : List (List ℕ)) (scan : Scan) (pairs : List Pair) (file : Bor (List ℕ)) → scan.next ≡ next.Part → is_some scan.start ≡ false → IsFileName file.now → Scanned words scan pairs
    → Scanned (words ++ (codes "--start=" ++ file.now) ∷ []) (record { start = Some file; ahead = scan.ahead; pairs = scan.pairs; words = scan.words + 1; next = scan.next }) (pairs ++ [])
took-joined words scan pairs file plain none named s =
    let told : option_map (λ f. f.now) scan.start ≡ None = none-told-of scan.start (none-there scan.start none) in
    let all = words ++ (codes "--start=" ++ file.now) ∷ [] in
    record {
      before = all;
      parts = add-part _ (Some file.now) pairs scan.ahead scan.ahead words (joined file.now) (plain-parts words scan pairs plain s) named (rw told refl) (room pairs s.parts.few) (append-nil (option_to_list scan.ahead));
      words = plain-opened all scan plain;
      no_start = λ t. absurd cc;
      no_ahead = λ t. absurd cc;
      many = omega (arith, s.many, length-append pairs []);
      read = omega (arith, s.read, length-append words ((codes "--start=" ++ file.now) ∷ []));
    }

pub took-pair : (words : List (List ℕ)) (scan : Scan) (pairs : List Pair) (w input output : List ℕ) → scan.next ≡ next.Part → scan.pairs < most_pairs → IsPair (input, output) → w ≡ input ++ 61 ∷ output → Scanned words scan pairs
    → Scanned (words ++ w ∷ []) (record { start = scan.start; ahead = scan.ahead; pairs = scan.pairs + 1; words = scan.words + 1; next = scan.next }) (pairs ++ (input, output) ∷ [])
took-pair words scan pairs w input output plain few is word s =
    let told = option_map (λ f. f.now) scan.start in
    record {
      before = words ++ w ∷ [];
      parts = rw word (add-part told told pairs scan.ahead scan.ahead words (pair (input, output)) (plain-parts words scan pairs plain s) is (append-nil (option_to_list told))
          (omega (arith, few, s.many, length-append pairs ((input, output) ∷ []))) (append-nil (option_to_list scan.ahead)));
      words = plain-opened (words ++ w ∷ []) scan plain;
      no_start = λ t. absurd cc;
      no_ahead = λ t. absurd cc;
      many = omega (arith, s.many, length-append pairs ((input, output) ∷ []));
      read = omega (arith, s.read, length-append words (w ∷ []));
    }

pub scanned-none : Scanned [] (record { start = None; ahead = None; pairs = 0; words = 0; next = next.Part }) []
scanned-none = record { before = []; parts = no-parts; words = refl; no_start = λ t. absurd cc; no_ahead = λ t. absurd cc; many = refl; read = refl }

few-opening : (n : Next) → length (opening n) ≤ 1
few-opening next.Part = omega arith
few-opening next.Name = omega arith
few-opening next.Number = omega arith

pub few-scanned : (words : List (List ℕ)) (scan : Scan) (pairs : List Pair) → Scanned words scan pairs → scan.words ≤ 68
few-scanned words scan pairs s = omega (arith, s.read, ap length s.words, length-append s.before (opening scan.next), few-opening scan.next, few-words _ pairs _ s.before s.parts)

-- what was read can begin words that ask for something
begins-plain : (words : List (List ℕ)) (scan : Scan) (pairs : List Pair) → scan.next ≡ next.Part → Scanned words scan pairs → CanBegin (codes "serve" ∷ words)
begins-plain words scan pairs plain s = record {
  more = [];
  asked = serve (option_map (λ f. f.now) scan.start) pairs scan.ahead;
  ask = (words, plain-parts words scan pairs plain s, append-nil (codes "serve" ∷ words));
}

-- words of a server with one word more
begins-by-word : (words : List (List ℕ)) (w : List ℕ) (told : Option (List ℕ)) (pairs : List Pair) (workers : Option ℕ) → AreParts told pairs workers (words ++ w ∷ []) → CanBegin (codes "serve" ∷ words)
begins-by-word words w told pairs workers parts = record { more = w ∷ []; asked = serve told pairs workers; ask = (words ++ w ∷ [], parts, refl) }

begins-naming : (words : List (List ℕ)) (scan : Scan) (pairs : List Pair) → scan.next ≡ next.Name → Scanned words scan pairs → CanBegin (codes "serve" ∷ words)
begins-naming words scan pairs is s =
    let named : IsFileName (codes "a") = record { some = λ e. cc; no_option = λ e. cc } in
    let none : option_map (λ f. f.now) scan.start ≡ None = none-told-of scan.start (s.no_start is) in
    let split : s.before ++ codes "--start" ∷ codes "a" ∷ [] ≡ words ++ codes "a" ∷ [] =
    sym (ap (λ z. z ++ codes "a" ∷ []) (s.words ∙ ap (λ b. s.before ++ opening b) is) ∙ append_assoc s.before (codes "--start" ∷ []) (codes "a" ∷ [])) in
    let parts = add-part _ (Some (codes "a")) pairs scan.ahead scan.ahead s.before (start (codes "a")) s.parts named (rw none refl) (room pairs s.parts.few) (append-nil (option_to_list scan.ahead)) in
    begins-by-word words (codes "a") (Some (codes "a")) (pairs ++ []) scan.ahead (subst (AreParts (Some (codes "a")) (pairs ++ []) scan.ahead) split parts)

begins-numbering : (words : List (List ℕ)) (scan : Scan) (pairs : List Pair) → scan.next ≡ next.Number → Scanned words scan pairs → CanBegin (codes "serve" ∷ words)
begins-numbering words scan pairs is s =
    let told = option_map (λ f. f.now) scan.start in
    let one : IsWorkerCount 1 = (omega arith, omega arith) in
    let none : scan.ahead ≡ None = s.no_ahead is in
    let split : s.before ++ codes "--ahead" ∷ digit_word 1 ∷ [] ≡ words ++ digit_word 1 ∷ [] =
    sym (ap (λ z. z ++ digit_word 1 ∷ []) (s.words ∙ ap (λ b. s.before ++ opening b) is) ∙ append_assoc s.before (codes "--ahead" ∷ []) (digit_word 1 ∷ [])) in
    let parts = add-part told told pairs scan.ahead (Some 1) s.before (ahead 1) s.parts one (append-nil (option_to_list told)) (room pairs s.parts.few) (rw none refl) in
    begins-by-word words (digit_word 1) told (pairs ++ []) (Some 1) (subst (AreParts told (pairs ++ []) (Some 1)) split parts)

begins-by : (n : Next) (words : List (List ℕ)) (scan : Scan) (pairs : List Pair) → scan.next ≡ n → Scanned words scan pairs → CanBegin (codes "serve" ∷ words)
begins-by next.Part words scan pairs is s = begins-plain words scan pairs is s
begins-by next.Name words scan pairs is s = begins-naming words scan pairs is s
begins-by next.Number words scan pairs is s = begins-numbering words scan pairs is s

-- at the end of the words
pub ends-plain : (words : List (List ℕ)) (scan : Scan) (pairs : List Pair) → scan.next ≡ next.Part → Scanned words scan pairs → AskFor (serve (option_map (λ f. f.now) scan.start) pairs scan.ahead) (codes "serve" ∷ words)
ends-plain words scan pairs plain s = (words, plain-parts words scan pairs plain s, refl)

-- where a name or a number is missing
ends-opened : (words : List (List ℕ)) (scan : Scan) (pairs : List Pair) → Scanned words scan pairs → ((told : Option (List ℕ)) (all : List Pair) (workers : Option ℕ) → AreParts told all workers words → ⊥) → IsFirstWrong (codes "serve" ∷ words) (scan.words + 1)
ends-opened words scan pairs s nothing =
    rw s.read (server-wrong words (length words) (omega arith) (rw (take_all (length words) words (omega arith)) (begins-by scan.next words scan pairs refl s)) (λ l. absurd (omega (arith, l))) nothing)

pub ends-naming : (words : List (List ℕ)) (scan : Scan) (pairs : List Pair) → scan.next ≡ next.Name → Scanned words scan pairs → IsFirstWrong (codes "serve" ∷ words) (scan.words + 1)
ends-naming words scan pairs is s = ends-opened words scan pairs s (λ told all workers k.
    let (file, rest, left, named) = naming-next words scan pairs told all workers [] is s (rw (append-nil words) k) in
    absurd cc)

pub ends-numbering : (words : List (List ℕ)) (scan : Scan) (pairs : List Pair) → scan.next ≡ next.Number → Scanned words scan pairs → IsFirstWrong (codes "serve" ∷ words) (scan.words + 1)
ends-numbering words scan pairs is s = ends-opened words scan pairs s (λ told all workers k.
    let (n, rest, left, one_to_8) = numbering-next words scan pairs told all workers [] is s (rw (append-nil words) k) in
    absurd cc)

-- a word on the way that can't stand there
pub wrong-word : (words : List (List ℕ)) (i : ℕ) (scan : Scan) (pairs : List Pair) (w : List ℕ) → i < length words → w ≡ get_or words i w → Scanned (take i words) scan pairs → IsStuck (take i words ++ w ∷ []) → IsFirstWrong (codes "serve" ∷ words) (scan.words + 1)
wrong-word words i scan pairs w l at s stuck =
    let one : take (i + 1) words ≡ take i words ++ w ∷ [] = take_more words i w l ∙ ap (λ z. take i words ++ z ∷ []) (sym at) in
    let long : scan.words ≡ i = omega (arith, s.read, length-take i words, l) in
    rw long (server-wrong words i (omega (arith, l)) (begins-by scan.next (take i words) scan pairs refl s) (λ _. rw one stuck)
    (λ told all workers k. stuck told all workers (drop (i + 1) words) (rw (← one, take-append-drop (i + 1) words) k)))

pub next-word : (words : List (List ℕ)) (i : ℕ) (w : List ℕ) → i < length words → w ≡ get_or words i w → take i words ++ w ∷ [] ≡ take (i + 1) words
next-word words i w l at = sym (take_more words i w l ∙ ap (λ z. take i words ++ z ∷ []) (sym at))

-- no words, and those of which the first is no command
begins-none : CanBegin []
begins-none = record { more = codes "list" ∷ []; asked = list; ask = refl }

no-words : (asked : Asked) → AskFor asked [] → ⊥
no-words list e = cc
no-words upgrade e = cc
no-words (serve told pairs workers) a = let e = a.2 in cc
no-words (count name) a = let e = a.2 in cc
no-words (sample n) a = let e = a.2 in cc

pub words-missing : IsFirstWrong [] 0
words-missing = record {
  within = omega arith;
  begins = begins-none;
  wrong = λ l. absurd (omega (arith, l));
  nothing = no-words;
}

no-command : (w : List ℕ) (ws : List (List ℕ)) → w ≢ codes "list" → w ≢ codes "upgrade" → w ≢ codes "serve" → w ≢ codes "count" → w ≢ codes "sample" → (asked : Asked) → AskFor asked (w ∷ ws) → ⊥
no-command w ws a u b c d list e = let same : w ≡ codes "list" = cc in a same
no-command w ws a u b c d upgrade e = let same : w ≡ codes "upgrade" = cc in u same
no-command w ws a u b c d (serve told pairs workers) t = let e = t.2 in let same : w ≡ codes "serve" = cc in b same
no-command w ws a u b c d (count name) t = let e = t.2 in let same : w ≡ codes "count" = cc in c same
no-command w ws a u b c d (sample n) t = let e = t.2 in let same : w ≡ codes "sample" = cc in d same

pub command-wrong : (w : List ℕ) (ws : List (List ℕ)) → w ≢ codes "list" → w ≢ codes "upgrade" → w ≢ codes "serve" → w ≢ codes "count" → w ≢ codes "sample" → IsFirstWrong (w ∷ ws) 0
command-wrong w ws a u b c d = record {
  within = omega arith;
  begins = begins-none;
  wrong = λ _ begins. no-command w begins.more a u b c d begins.asked begins.ask;
  nothing = no-command w ws a u b c d;
}

-- a word after `list`
no-list : (w : List ℕ) (ws : List (List ℕ)) (asked : Asked) → AskFor asked (codes "list" ∷ w ∷ ws) → ⊥
no-list w ws list e = cc
no-list w ws upgrade e = cc
no-list w ws (serve told pairs workers) a = let e = a.2 in cc
no-list w ws (count name) a = let e = a.2 in cc
no-list w ws (sample n) a = let e = a.2 in cc

pub list-more : (w : List ℕ) (ws : List (List ℕ)) → IsFirstWrong (codes "list" ∷ w ∷ ws) 1
list-more w ws = record {
  within = omega arith;
  begins = record { more = []; asked = list; ask = refl };
  wrong = λ _ begins. no-list w begins.more begins.asked begins.ask;
  nothing = no-list w ws;
}

-- a word after `upgrade`
no-upgrade : (w : List ℕ) (ws : List (List ℕ)) (asked : Asked) → AskFor asked (codes "upgrade" ∷ w ∷ ws) → ⊥
no-upgrade w ws list e = cc
no-upgrade w ws upgrade e = cc
no-upgrade w ws (serve told pairs workers) a = let e = a.2 in cc
no-upgrade w ws (count name) a = let e = a.2 in cc
no-upgrade w ws (sample n) a = let e = a.2 in cc

pub upgrade-more : (w : List ℕ) (ws : List (List ℕ)) → IsFirstWrong (codes "upgrade" ∷ w ∷ ws) 1
upgrade-more w ws = record {
  within = omega arith;
  begins = record { more = []; asked = upgrade; ask = refl };
  wrong = λ _ begins. no-upgrade w begins.more begins.asked begins.ask;
  nothing = no-upgrade w ws;
}

-- a command other than `serve` has no pairs
pub plain-pairs : (command : Command) (w : List ℕ) (ws : List (List ℕ)) → w ≢ codes "serve" → Commands command (w ∷ ws) → (asked : Asked) × AskFor asked (w ∷ ws) × ([] ≡ pairs_asked asked)
plain-pairs command.List w ws other h = (list, h, refl)
plain-pairs command.Upgrade w ws other h = (upgrade, h, refl)
plain-pairs (command.Count name) w ws other h = (count name.now, h, refl)
plain-pairs (command.Sample n) w ws other h = (sample n, h, refl)
plain-pairs (command.Serve told many workers) w ws other h = let e = h.2.2 in let same : w ≡ codes "serve" = cc in absurd (other same)

pub plain-none : (r : Result Command UsageFault) (w : List ℕ) (ws : List (List ℕ)) → w ≢ codes "serve" → MatchResult r (λ command. Commands command (w ∷ ws)) (λ fault. IsFirstWrong (w ∷ ws) fault.word) → IfOk r (λ _. (asked : Asked) × AskFor asked (w ∷ ws) × ([] ≡ pairs_asked asked))
plain-none (Ok command) w ws other h = plain-pairs command w ws other h
plain-none (Err fault) w ws other h = tt

-- there are 1 to 8 workers, where the command has any
pub has-few-workers : (command : Command) (words : List (List ℕ)) → Commands command words → HasFewWorkers command
has-few-workers command.List words h = tt
has-few-workers command.Upgrade words h = tt
has-few-workers (command.Count name) words h = tt
has-few-workers (command.Sample n) words h = tt
has-few-workers (command.Serve told many workers) words h = few-workers _ h.0 workers h.2.0 h.2.1

pub few-answered : (r : Result Command UsageFault) (words : List (List ℕ)) → MatchResult r (λ command. Commands command words) (λ fault. IsFirstWrong words fault.word) → IfOk r HasFewWorkers
few-answered (Ok command) words h = has-few-workers command words h
few-answered (Err fault) words h = tt

-- Forms one after the other, and forms with a sign between, as they are read.
use Rattle.std.proofs.Common.{◌≡◌, ◌≢◌, ◌<◌, ◌≤◌, ◌∙◌, ap, sym, subst, ℕ, zero, suc, ◌+◌, Bool, true, false, if◌then◌else◌, List, [], ◌∷◌, ◌++◌, length, take, drop, refl, arith, length-append, append_assoc}
use Rattle.std.proofs.lemmas.List.{length-drop}
use Rattle.std.proofs.lemmas.List.Elements.{All-tail}
use Rattle.std.proofs.Math.Seq.{take-add, drop-append_seam}
use Rattle.java_units.specs.Signs.{Sign, is}
use Rattle.java_units.specs.Forms.{begins, span, starts, total, more}
use Rattle.java_units.specs.Identifiers.{is_identifier}
use Rattle.java_units.specs.Grammar.{IsMany, no_more, one_more, IsList, last, followed}
use Rattle.java_units.specs.Longest.{NamesAreIdentifiers}
use Rattle.java_units.proofs.Walks.{pick, span-none, span-more}
use Rattle.java_units.proofs.Dimensions.{span_within}

pub names_behind : (prefix tail : List Sign) → NamesAreIdentifiers (prefix ++ tail) → NamesAreIdentifiers tail
names_behind [] tail f = f
names_behind (s ∷ prefix) tail f = names_behind prefix tail (All-tail (λ s. s.is_name ≡ true → is_identifier s.text ≡ true) s (prefix ++ tail) f)

pub more_some : (n m : ℕ) → n ≡ suc m → more n ≡ suc (suc m)
more_some n m e = ap more e ∙ pick (suc m) m 0 (suc (suc m)) refl

span_empty : (len : List Sign → ℕ) → span len [] ≡ 0
unfolding span starts total
span_empty len = refl

-- any number of forms

abbrev Sound : (List Sign → Type 0) → (List Sign → ℕ) → Type 0
Sound Form len = (ss : List Sign) → 0 < len ss → Form (take (len ss) ss)

many_by : (Form : List Sign → Type 0) (len : List Sign → ℕ) → Sound Form len → (xs : List Sign) (m : ℕ) → 0 < length xs → len xs ≡ m → ((ys : List Sign) → length ys < length xs → IsMany Form (take (span len ys) ys)) → IsMany Form (take (span len xs) xs)
many_by Form len sound xs zero l e ih = subst (λ k. IsMany Form (take k xs)) (sym (span-none len xs e)) no_more
many_by Form len sound xs (suc m) l e ih =
    let some : suc m ≢ 0 = omega arith in
    let there : 0 < len xs = omega (arith, e) in
    let rest = drop (suc m) xs in
    let short : length rest < length xs = omega (arith, length-drop (suc m) xs, l) in
    let first = subst (λ k. Form (take k xs)) e (sound xs there) in
    subst (IsMany Form) (sym (ap (λ k. take k xs) (span-more len xs (suc m) (sym e) some l) ∙ take-add (suc m) (span len rest) xs)) (one_more (take (suc m) xs) (take (span len rest) rest) first (ih rest short))

many_upto : (Form : List Sign → Type 0) (len : List Sign → ℕ) → Sound Form len → (n : ℕ) (xs : List Sign) → length xs ≤ n → IsMany Form (take (span len xs) xs)
many_upto Form len sound n [] l = subst (λ k. IsMany Form (take k [])) (sym (span_empty len)) no_more
many_upto Form len sound zero (x ∷ xs) l = absurd (omega arith)
many_upto Form len sound (suc n) (x ∷ xs) l =
    let there : 0 < length (x ∷ xs) = omega arith in
    many_by Form len sound (x ∷ xs) (len (x ∷ xs)) there refl (λ ys h. many_upto Form len sound n ys (omega arith))

pub many_sound : (Form : List Sign → Type 0) (len : List Sign → ℕ) → Sound Form len → (xs : List Sign) → IsMany Form (take (span len xs) xs)
many_sound Form len sound xs = let l : length xs ≤ length xs = omega arith in many_upto Form len sound (length xs) xs l

-- a reader that stops just behind the form, before what may follow it
abbrev pub Stops : (List Sign → Type 0) → (List Sign → ℕ) → (List Sign → Type 0) → Type 0
Stops Form len Ends = (ss : List Sign) → Form ss → (tail : List Sign) → NamesAreIdentifiers (ss ++ tail) → Ends tail → len (ss ++ tail) ≡ length ss

pub span_past : (len : List Sign → ℕ) (prefix rest : List Sign) → len (prefix ++ rest) ≡ length prefix → 0 < length prefix → span len (prefix ++ rest) ≡ length prefix + span len rest
span_past len prefix rest e l =
    let some : length prefix ≢ 0 = omega arith in
    let there : 0 < length (prefix ++ rest) = omega (arith, length-append prefix rest) in
    span-more len (prefix ++ rest) (length prefix) (sym e) some there ∙ ap (λ xs. length prefix + span len xs) (drop-append_seam prefix rest)

many_ends : (Form Ends : List Sign → Type 0) → ((ss : List Sign) → Form ss → (tail : List Sign) → Ends (ss ++ tail)) → (ss : List Sign) → IsMany Form ss → (tail : List Sign) → Ends tail → Ends (ss ++ tail)
many_ends Form Ends ends _ no_more tail h = h
many_ends Form Ends ends _ (one_more first others a m) tail h = subst Ends (sym (append_assoc first others tail)) (ends first a (others ++ tail))

pub many_just : (Form Ends : List Sign → Type 0) (len : List Sign → ℕ) → Stops Form len Ends → ((ss : List Sign) → Form ss → 0 < length ss) → ((ss : List Sign) → Form ss → (tail : List Sign) → Ends (ss ++ tail)) → (ss : List Sign) → IsMany Form ss → (tail : List Sign) → NamesAreIdentifiers (ss ++ tail) → Ends tail → len tail ≡ 0 → span len (ss ++ tail) ≡ length ss
many_just Form Ends len just some ends _ no_more tail f h z = span-none len tail z
many_just Form Ends len just some ends _ (one_more first others a m) tail f h z =
    let same = append_assoc first others tail in
    let g = subst NamesAreIdentifiers same f in
    let one = just first a (others ++ tail) g (many_ends Form Ends ends others m tail h) in
    omega (arith, ap (span len) same, span_past len first (others ++ tail) one (some first a), many_just Form Ends len just some ends others m tail (names_behind first (others ++ tail) g) h z, length-append first others)

-- forms with a sign between

-- how a list is read: the first form, then each sign between with the form behind it
unfoldable pub list_len : (List Sign → ℕ) → (List Sign → ℕ) → List Sign → ℕ
list_len len tail ss = len ss + span tail (drop (len ss) ss)

-- `tail` reads the sign between and a form behind it
abbrev pub ReadsTail : List ℕ → (List Sign → ℕ) → (List Sign → ℕ) → Type 0
ReadsTail between len tail = (ss : List Sign) → tail ss ≡ (if begins between ss then more (len (drop 1 ss)) else 0)

pub tail_some : (between : List ℕ) (len tail : List Sign → ℕ) → ReadsTail between len tail → (s : Sign) (zs : List Sign) (m : ℕ) → is between s ≡ true → len zs ≡ suc m → tail (s ∷ zs) ≡ suc (suc m)
unfolding begins
tail_some between len tail reads s zs m e h = reads (s ∷ zs) ∙ (rw (e) (more_some (len zs) m h))

pub tail_none : (between : List ℕ) (len tail : List Sign → ℕ) → ReadsTail between len tail → (ss : List Sign) → begins between ss ≡ false → tail ss ≡ 0
tail_none between len tail reads ss e = reads ss ∙ ap {B = ℕ} (λ b. if b then more (len (drop 1 ss)) else 0) e

span_tail : (between : List ℕ) (len tail : List Sign → ℕ) → ReadsTail between len tail → (s : Sign) (zs : List Sign) (m : ℕ) → is between s ≡ true → len zs ≡ suc m → span tail (s ∷ zs) ≡ suc (list_len len tail zs)
unfolding list_len
span_tail between len tail reads s zs m e h =
    let some : suc (suc m) ≢ 0 = omega arith in
    let there : 0 < length (s ∷ zs) = omega arith in
    let same : span tail (drop (suc m) zs) ≡ span tail (drop (len zs) zs) = ap (λ k. span tail (drop k zs)) (sym h) in
    omega (arith, span-more tail (s ∷ zs) (suc (suc m)) (sym (tail_some between len tail reads s zs m e h)) some there, same, h)

record Parted (between : List ℕ) (len : List Sign → ℕ) (ys : List Sign) : Type 0 where
  sign : Sign
  others : List Sign
  are : ys ≡ sign ∷ others
  is_between : is between sign ≡ true
  count : ℕ
  counted : len others ≡ suc count

parted_by : (between : List ℕ) (len : List Sign → ℕ) (s : Sign) (zs : List Sign) (b : Bool) (n m : ℕ) → is between s ≡ b → len zs ≡ n → (if b then more n else 0) ≡ suc m → Parted between len (s ∷ zs)
parted_by between len s zs true zero m e h k = absurd (omega (arith, k))
parted_by between len s zs true (suc n) m e h k = record { sign = s; others = zs; are = refl; is_between = e; count = n; counted = h }
parted_by between len s zs false n m e h k = absurd (omega (arith, k))

parted : (between : List ℕ) (len tail : List Sign → ℕ) → ReadsTail between len tail → (ys : List Sign) (m : ℕ) → tail ys ≡ suc m → Parted between len ys
unfolding begins
parted between len tail reads [] m e = absurd (omega (arith, reads [], e))
parted between len tail reads (s ∷ zs) m e = parted_by between len s zs (is between s) (len zs) m refl refl (sym (reads (s ∷ zs)) ∙ e)

list_by : (between : List ℕ) (Form : List Sign → Type 0) (len tail : List Sign → ℕ) → ReadsTail between len tail → Sound Form len → (n : ℕ) (ss : List Sign) → length ss ≤ suc n → 0 < len ss → 0 < length ss → ((zs : List Sign) → length zs ≤ n → 0 < len zs → IsList between Form (take (list_len len tail zs) zs)) → (k : ℕ) → tail (drop (len ss) ss) ≡ k → IsList between Form (take (list_len len tail ss) ss)
unfolding list_len
list_by between Form len tail reads sound n ss l p q ih zero e =
    let k : list_len len tail ss ≡ len ss = omega (arith, span-none tail (drop (len ss) ss) e) in
    subst (λ m. IsList between Form (take m ss)) (sym k) (last (take (len ss) ss) (sound ss p))
list_by between Form len tail reads sound n ss l p q ih (suc k) e =
    let d = parted between len tail reads (drop (len ss) ss) k e in
    let size : list_len len tail ss ≡ len ss + suc (list_len len tail d.others) = ap (λ xs. len ss + span tail xs) d.are ∙ ap (λ m. len ss + m) (span_tail between len tail reads d.sign d.others d.count d.is_between d.counted) in
    let short : length d.others ≤ n = omega (arith, ap length d.are, length-drop (len ss) ss, l) in
    let there : 0 < len d.others = omega (arith, d.counted) in
    let c = followed (take (len ss) ss) d.sign (take (list_len len tail d.others) d.others) (sound ss p) d.is_between (ih d.others short there) in
    let cut : take (list_len len tail ss) ss ≡ take (len ss) ss ++ (d.sign ∷ take (list_len len tail d.others) d.others) = ap (λ m. take m ss) size ∙ (take-add (len ss) (suc (list_len len tail d.others)) ss ∙ ap (λ xs. take (len ss) ss ++ take (suc (list_len len tail d.others)) xs) d.are) in
    subst (IsList between Form) (sym cut) c

list_upto : (between : List ℕ) (Form : List Sign → Type 0) (len tail : List Sign → ℕ) → ReadsTail between len tail → Sound Form len → ((ss : List Sign) → len ss ≤ length ss) → (n : ℕ) (ss : List Sign) → length ss ≤ n → 0 < len ss → IsList between Form (take (list_len len tail ss) ss)
list_upto between Form len tail reads sound within zero ss l p = absurd (omega (arith, within ss))
list_upto between Form len tail reads sound within (suc n) ss l p =
    let there : 0 < length ss = omega (arith, within ss) in
    list_by between Form len tail reads sound n ss l p there (λ zs h q. list_upto between Form len tail reads sound within n zs h q) (tail (drop (len ss) ss)) refl

pub list_sound : (between : List ℕ) (Form : List Sign → Type 0) (len tail : List Sign → ℕ) → ReadsTail between len tail → Sound Form len → ((ss : List Sign) → len ss ≤ length ss) → (ss : List Sign) → 0 < len ss → IsList between Form (take (list_len len tail ss) ss)
list_sound between Form len tail reads sound within ss p =
    let l : length ss ≤ length ss = omega arith in list_upto between Form len tail reads sound within (length ss) ss l p

-- such a list is read whole where its forms are, and the sign between ends one

past_first : (len tail : List Sign → ℕ) (prefix rest : List Sign) → len (prefix ++ rest) ≡ length prefix → list_len len tail (prefix ++ rest) ≡ length prefix + span tail rest
unfolding list_len
past_first len tail prefix rest e = ap (λ n. n + span tail (drop n (prefix ++ rest))) e ∙ ap (λ xs. length prefix + span tail xs) (drop-append_seam prefix rest)

pub first_some : (between : List ℕ) (Form : List Sign → Type 0) → ((ss : List Sign) → Form ss → 0 < length ss) → (ss : List Sign) → IsList between Form ss → 0 < length ss
first_some between Form some _ (last ss a) = some ss a
first_some between Form some _ (followed first s others a e c) = omega (arith, length-append first (s ∷ others))

pub suc_of : (n : ℕ) → 0 < n → (m : ℕ) × (n ≡ suc m)
suc_of zero l = absurd (omega arith)
suc_of (suc n) l = (n, refl)

pub list_part : (between : List ℕ) (Form Ends : List Sign → Type 0) (len : List Sign → ℕ) → Stops Form len Ends → ((ss : List Sign) → Form ss → 0 < length ss) → ((s : Sign) (zs : List Sign) → is between s ≡ true → Ends (s ∷ zs)) → (ss : List Sign) → IsList between Form ss → (rest : List Sign) → NamesAreIdentifiers (ss ++ rest) → Ends rest → 0 < len (ss ++ rest)
list_part between Form Ends len just some ends _ (last ss a) rest f h = omega (arith, just ss a rest f h, some ss a)
list_part between Form Ends len just some ends _ (followed first s others a e c) rest f h =
    let same = append_assoc first (s ∷ others) rest in
    omega (arith, ap len same, just first a (s ∷ (others ++ rest)) (subst NamesAreIdentifiers same f) (ends s (others ++ rest) e), some first a)

pub list_just : (between : List ℕ) (Form Ends : List Sign → Type 0) (len tail : List Sign → ℕ) → ReadsTail between len tail → Stops Form len Ends → ((ss : List Sign) → Form ss → 0 < length ss) → ((s : Sign) (zs : List Sign) → is between s ≡ true → Ends (s ∷ zs)) → (ss : List Sign) → IsList between Form ss → (rest : List Sign) → NamesAreIdentifiers (ss ++ rest) → Ends rest → tail rest ≡ 0 → list_len len tail (ss ++ rest) ≡ length ss
list_just between Form Ends len tail reads just some ends _ (last ss a) rest f h z =
    omega (arith, past_first len tail ss rest (just ss a rest f h), span-none tail rest z)
list_just between Form Ends len tail reads just some ends _ (followed first s others a e c) rest f h z =
    let same = append_assoc first (s ∷ others) rest in
    let g = subst NamesAreIdentifiers same f in
    let behind = names_behind (s ∷ []) (others ++ rest) (names_behind first (s ∷ (others ++ rest)) g) in
    let one = just first a (s ∷ (others ++ rest)) g (ends s (others ++ rest) e) in
    let there = suc_of (len (others ++ rest)) (list_part between Form Ends len just some ends others c rest behind h) in
    let on = span_tail between len tail reads s (others ++ rest) there.0 e there.1 in
    let more_of = list_just between Form Ends len tail reads just some ends others c rest behind h z in
    omega (arith, ap (list_len len tail) same, past_first len tail first (s ∷ (others ++ rest)) one, on, more_of, length-append first (s ∷ others))

-- no list is longer than what it is read from

more_within : (n : ℕ) → more n ≤ suc n
more_within zero = omega arith
more_within (suc n) = omega (arith, more_some (suc n) n refl)

tail_if : (b : Bool) (n m : ℕ) → n ≤ m → (if b then more n else 0) ≤ suc m
tail_if true n m l = omega (arith, more_within n)
tail_if false n m l = omega arith

tail_within : (between : List ℕ) (len tail : List Sign → ℕ) → ReadsTail between len tail → ((ss : List Sign) → len ss ≤ length ss) → (ss : List Sign) → tail ss ≤ length ss
unfolding begins
tail_within between len tail reads within [] = omega (arith, reads [])
tail_within between len tail reads within (s ∷ zs) = omega (arith, reads (s ∷ zs), tail_if (is between s) (len zs) (length zs) (within zs))

pub list_within : (between : List ℕ) (len tail : List Sign → ℕ) → ReadsTail between len tail → ((ss : List Sign) → len ss ≤ length ss) → (ss : List Sign) → list_len len tail ss ≤ length ss
unfolding list_len
list_within between len tail reads within ss =
    let rest = drop (len ss) ss in
    let reach : length rest ≤ length rest = omega arith in
    omega (arith, within ss, span_within (length rest) tail (tail_within between len tail reads within) rest (tail rest) refl reach, length-drop (len ss) ss)

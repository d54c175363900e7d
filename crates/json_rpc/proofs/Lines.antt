-- Header lines lead from the start of a header part to its end.
use Rattle.std.proofs.Common.{◌≡◌, ◌≢◌, ℕ, ◌+◌, ◌*◌, ◌-◌, ◌^◌, ◌<◌, ◌≤◌, min, ap, sym, ◌∙◌, get_or, drop, arith, List, [], ◌∷◌, refl, Bool, true, false, ◌++◌, length, nat_le, nat_lt, not, ◌==◌, ◌&&◌, ◌||◌, if◌then◌else◌, subst, map, append_assoc, Option, Some, None, All, lit<, lit≤, add-one}
use Rattle.std.proofs.lemmas.List.{drop_more, length-drop, length-map}
use Rattle.std.proofs.lemmas.List.Elements.{All-head, All-tail}
use Rattle.std.proofs.lemmas.List.Sums.{list_all-from_AllPass}
use Rattle.std.proofs.lemmas.Option.{slice_get-get_or}
use Rattle.std.proofs.lemmas.Bool.{eqb-true}
use Rattle.std.proofs.Math.Nat.{pow-le-pow_right, pow-succ'}
use Rattle.std.specs.List.{list_all, flat_map}
use Rattle.std.specs.Prelude.{slice_get}
use Rattle.std.specs.Char.{to_ascii_lowercase, digit_value}
use Rattle.std.specs.Str.Parse.{digits_value, digits_value_after}
use Rattle.json_rpc.specs.Heads.{step, is_name, is_value, is_blank, is_digit, is_some_of, length_name, matching, at_line, at_name, at_value, at_blank, at_digits, at_tail}
use Rattle.json_rpc.specs.Spelled.{HeaderLine, length_line, other_line, line_text, line_end, IsHeaderLine, TellsLength, TellsOther, lengths_of}
use Rattle.json_rpc.specs.declared.header.Mode.{Mode}
use Rattle.json_rpc.specs.declared.header.Mode.TheVariants.{Line, Name, Value, Blank, Digits, Tail}
use Rattle.json_rpc.specs.declared.header.Head.{Head}
use Rattle.json_rpc.specs.declared.header.Step.{Step}
use Rattle.json_rpc.specs.declared.header.Step.TheVariants.{On, Done, Stop, Twice}

-- what is known of a header part
abbrev pub known : Mode → ℕ → Bool → ℕ → ℕ → Head
known m k t d l = record { mode = m; matched = k; told = t; digits = d; length = l }

abbrev pub onward : Step → (Head → Option Head) → Option Head
onward (On g) f = f g
onward Done f = None
onward Stop f = None
onward Twice f = None

-- what is known after these bytes, if each may stand there
unfoldable pub run : Head → List ℕ → Option Head
run h [] = Some h
run h (b ∷ bs) = onward (step h b) (λ g. run g bs)

pub run-on : (h g : Head) (b : ℕ) (bs : List ℕ) → step h b ≡ On g → run h (b ∷ bs) ≡ run g bs
unfolding run
run-on h g b bs e = ap (λ s. onward s (λ x. run x bs)) e

pub pick_true : {X : Type 0} (c : Bool) (x y : X) → c ≡ true → (if c then x else y) ≡ x
pick_true true x y e = refl
pick_true false x y e = absurd cc

pub pick_false : {X : Type 0} (c : Bool) (x y : X) → c ≡ false → (if c then x else y) ≡ y
pick_false true x y e = absurd cc
pick_false false x y e = refl

pub both : (a b : Bool) → (a && b) ≡ true → (a ≡ true) × (b ≡ true)
both true true e = (refl, refl)
both true false e = absurd cc
both false b e = absurd cc

not-true : (a : Bool) → not a ≡ true → a ≡ false
not-true true e = absurd cc
not-true false e = refl

-- characters
pub name-colon : (b : ℕ) → is_name b ≡ true → (b == 58) ≡ false
name-colon b e = not-true (b == 58) ((both (nat_le 33 b && nat_le b 126) (not (b == 58)) e).1)

pub name-return : (b : ℕ) → is_name b ≡ true → (b == 13) ≡ false
name-return b e =
    let l = (both (nat_le 33 b) (nat_le b 126) ((both (nat_le 33 b && nat_le b 126) (not (b == 58)) e).0)).0 in
    grind (arith, l)

pub value-return : (b : ℕ) → is_value b ≡ true → (b == 13) ≡ false
value-return b e = grind (arith, e)

pub digit-bounds : (b : ℕ) → is_digit b ≡ true → (48 ≤ b) × (b ≤ 57)
digit-bounds b e = let p = both (nat_le 48 b) (nat_le b 57) e in (grind (arith, p.0), grind (arith, p.1))

pub digit-blank : (b : ℕ) → is_digit b ≡ true → is_blank b ≡ false
digit-blank b e = let p = digit-bounds b e in grind (arith, p.0)

pub digit-value : (b : ℕ) → is_digit b ≡ true → digit_value b ≡ b - 48
digit-value b e = let p = digit-bounds b e in grind (arith, p.0, p.1)

-- how much of the name has been matched
abbrev pub matched_by : ℕ → List ℕ → ℕ
matched_by m [] = m
matched_by m (b ∷ bs) = matched_by (matching m b) bs

pub matched-other : (name : List ℕ) → matched_by 15 name ≡ 15
matched-other [] = refl
matched-other (b ∷ name) = matched-other name

some-of : (m b : ℕ) → m < 14 → to_ascii_lowercase b ≡ get_or length_name m 0 → is_some_of (slice_get length_name m) (to_ascii_lowercase b) ≡ true
some-of m b l e = rw (slice_get-get_or length_name m 0 l, e) (grind arith)

pub matched-is : (name : List ℕ) (m : ℕ) → m ≤ 14 → map to_ascii_lowercase name ≡ drop m length_name → matched_by m name ≡ 14
matched-is [] m l e = omega (arith, l, ap length e, length-drop m length_name)
matched-is (b ∷ name) m l e =
    let few : m < 14 = omega (arith, l, ap length e, length-drop m length_name) in
    let more = drop_more length_name m 0 few in
    let first : to_ascii_lowercase b ≡ get_or length_name m 0 = cc in
    let rest : map to_ascii_lowercase name ≡ drop (m + 1) length_name = cc in
    ap (λ k. matched_by k name) (pick_true _ (m + 1) 15 (some-of m b few first)) ∙ matched-is name (m + 1) (omega (arith, few)) rest

-- one byte more
pub name_on : (k d l b : ℕ) (t : Bool) → is_name b ≡ true → step (known Name k t d l) b ≡ On (known Name (matching k b) t d l)
unfolding step at_name
name_on k d l b t e = pick_false (b == 58) _ _ (name-colon b e) ∙ pick_true (is_name b) _ _ e

pub line_on : (k d l b : ℕ) (t : Bool) → is_name b ≡ true → step (known Line k t d l) b ≡ On (known Name (matching 0 b) t d l)
unfolding step at_line
line_on k d l b t e = pick_false (b == 13) _ _ (name-return b e) ∙ pick_true (is_name b) _ _ e

colon_on : (k d l : ℕ) (t : Bool) → k ≢ 14 → step (known Name k t d l) 58 ≡ On (known Value k t d l)
unfolding step at_name
colon_on k d l t e = let f : (k == 14) ≡ false = grind (arith, e) in pick_false (k == 14) _ _ f

length_on : (d l : ℕ) → step (known Name 14 false d l) 58 ≡ On (known Blank 14 true d l)
unfolding step at_name
length_on d l = refl

value_on : (k d l b : ℕ) (t : Bool) → is_value b ≡ true → step (known Value k t d l) b ≡ On (known Value k t d l)
unfolding step at_value
value_on k d l b t e = pick_false (b == 13) _ _ (value-return b e) ∙ pick_true (is_value b) _ _ e

blank_on : (k d l b : ℕ) (t : Bool) → is_blank b ≡ true → step (known Blank k t d l) b ≡ On (known Blank k t d l)
unfolding step at_blank
blank_on k d l b t e = pick_true (is_blank b) _ _ e

unfoldable pub next_length : ℕ → ℕ → ℕ
next_length l b = min (10 * l + (b - 48)) (2 ^ 64 - 1)

first_on : (k d l b : ℕ) (t : Bool) → is_digit b ≡ true → step (known Blank k t d l) b ≡ On (known Digits k t 1 (next_length l b))
unfolding step at_blank next_length
first_on k d l b t e = pick_false (is_blank b) _ _ (digit-blank b e) ∙ pick_true (is_digit b) _ _ e

digit_on : (k d l b : ℕ) (t : Bool) → is_digit b ≡ true → d < 18 → step (known Digits k t d l) b ≡ On (known Digits k t (d + 1) (next_length l b))
unfolding step at_digits next_length
digit_on k d l b t e f = let g : nat_lt d 18 ≡ true = grind (arith, f) in pick_true (is_digit b) _ _ e ∙ pick_true (nat_lt d 18) _ _ g

-- the length stays below the bound
pub length-small : (l b i : ℕ) → is_digit b ≡ true → i < 18 → l < 10 ^ i → (next_length l b ≡ l * 10 + digit_value b) × (l * 10 + digit_value b < 10 ^ (i + 1))
unfolding next_length
length-small l b i e f h =
    let p = digit-bounds b e in
    let v = digit-value b e in
    let up : 10 ^ (i + 1) ≡ 10 * 10 ^ i = ap (λ k. 10 ^ k) (add-one i) ∙ pow-succ' 10 i in
    let top : 10 ^ (i + 1) ≤ 10 ^ 18 = pow-le-pow_right {n = 10} (lit< tt) {i = i + 1} {j = 18} (omega (arith, f)) in
    let small : l * 10 + digit_value b < 10 ^ (i + 1) = omega (arith, p.0, p.1, v, up, h) in
    (omega (arith, p.0, p.1, v, small, top), small)

-- parts of a line
pub run-name : (k d l : ℕ) (t : Bool) (name bs : List ℕ) → list_all is_name name ≡ true → run (known Name k t d l) (name ++ bs) ≡ run (known Name (matched_by k name) t d l) bs
run-name k d l t [] bs e = refl
run-name k d l t (b ∷ name) bs e =
    let p = both (is_name b) (list_all is_name name) e in
    run-on _ _ b (name ++ bs) (name_on k d l b t p.0) ∙ run-name (matching k b) d l t name bs p.1

pub run-line : (k d l : ℕ) (t : Bool) (name bs : List ℕ) → 0 < length name → list_all is_name name ≡ true → run (known Line k t d l) (name ++ bs) ≡ run (known Name (matched_by 0 name) t d l) bs
run-line k d l t [] bs s e = absurd (omega (arith, s))
run-line k d l t (b ∷ name) bs s e =
    let p = both (is_name b) (list_all is_name name) e in
    run-on _ _ b (name ++ bs) (line_on k d l b t p.0) ∙ run-name (matching 0 b) d l t name bs p.1

run-value : (k d l : ℕ) (t : Bool) (value bs : List ℕ) → list_all is_value value ≡ true → run (known Value k t d l) (value ++ bs) ≡ run (known Value k t d l) bs
run-value k d l t [] bs e = refl
run-value k d l t (b ∷ value) bs e =
    let p = both (is_value b) (list_all is_value value) e in
    run-on _ _ b (value ++ bs) (value_on k d l b t p.0) ∙ run-value k d l t value bs p.1

run-blanks : (k d l : ℕ) (t : Bool) (blanks bs : List ℕ) → list_all is_blank blanks ≡ true → run (known Blank k t d l) (blanks ++ bs) ≡ run (known Blank k t d l) bs
run-blanks k d l t [] bs e = refl
run-blanks k d l t (b ∷ blanks) bs e =
    let p = both (is_blank b) (list_all is_blank blanks) e in
    run-on _ _ b (blanks ++ bs) (blank_on k d l b t p.0) ∙ run-blanks k d l t blanks bs p.1

run-digits : (k d l : ℕ) (t : Bool) (digits bs : List ℕ) → list_all is_digit digits ≡ true → d + length digits ≤ 18 → l < 10 ^ d → run (known Digits k t d l) (digits ++ bs) ≡ run (known Digits k t (d + length digits) (digits_value_after 10 l digits)) bs
run-digits k d l t [] bs e f h = ap (λ i. run (known Digits k t i l) bs) (omega arith)
run-digits k d l t (b ∷ digits) bs e f h =
    let p = both (is_digit b) (list_all is_digit digits) e in
    let few : d < 18 = omega (arith, f) in
    let s = length-small l b d p.0 few h in
    let r = run-digits k (d + 1) (l * 10 + digit_value b) t digits bs p.1 (omega (arith, f)) s.1 in
    let i : d + 1 + length digits ≡ d + length (b ∷ digits) = omega arith in
    run-on _ _ b (digits ++ bs) (digit_on k d l b t p.0 few) ∙ ap (λ v. run (known Digits k t (d + 1) v) (digits ++ bs)) s.0 ∙ r ∙ ap (λ v. run (known Digits k t v (digits_value_after 10 (l * 10 + digit_value b) digits)) bs) i

run-number : (k d : ℕ) (t : Bool) (digits bs : List ℕ) → 0 < length digits → list_all is_digit digits ≡ true → length digits ≤ 18 → run (known Blank k t d 0) (digits ++ bs) ≡ run (known Digits k t (length digits) (digits_value 10 digits)) bs
run-number k d t [] bs s e f = absurd (omega (arith, s))
run-number k d t (b ∷ digits) bs s e f =
    let p = both (is_digit b) (list_all is_digit digits) e in
    let q = length-small 0 b 0 p.0 (lit< tt) (lit< tt) in
    let r = run-digits k 1 (0 * 10 + digit_value b) t digits bs p.1 (omega (arith, f)) (q.1) in
    let i : 1 + length digits ≡ length (b ∷ digits) = omega arith in
    run-on _ _ b (digits ++ bs) (first_on k d 0 b t p.0) ∙ ap (λ v. run (known Digits k t 1 v) (digits ++ bs)) q.0 ∙ r ∙ ap (λ v. run (known Digits k t v (digits_value_after 10 (0 * 10 + digit_value b) digits)) bs) i

run-spaces : (k d l : ℕ) (t : Bool) (spaces bs : List ℕ) → list_all (λ b. b == 32) spaces ≡ true → run (known Tail k t d l) (spaces ++ (line_end ++ bs)) ≡ run (known Line 0 t d l) bs
unfolding run step at_tail
run-spaces k d l t [] bs e = refl
run-spaces k d l t (b ∷ spaces) bs e =
    let p = both (b == 32) (list_all (λ x. x == 32) spaces) e in
    run-on (known Tail k t d l) (known Tail k t d l) b (spaces ++ (line_end ++ bs)) (pick_true (b == 32) (On (known Tail k t d l)) _ p.0) ∙ run-spaces k d l t spaces bs p.1

run-tail : (k d l : ℕ) (t : Bool) (spaces bs : List ℕ) → list_all (λ b. b == 32) spaces ≡ true → run (known Digits k t d l) (spaces ++ (line_end ++ bs)) ≡ run (known Line 0 t d l) bs
unfolding run step at_digits
run-tail k d l t [] bs e = refl
run-tail k d l t (b ∷ spaces) bs e =
    let p = both (b == 32) (list_all (λ x. x == 32) spaces) e in
    let is : b ≡ 32 = eqb-true b 32 p.0 in
    let one : step (known Digits k t d l) 32 ≡ On (known Tail k t d l) = refl in
    run-on (known Digits k t d l) (known Tail k t d l) b (spaces ++ (line_end ++ bs)) (ap (step (known Digits k t d l)) is ∙ one) ∙ run-spaces k d l t spaces bs p.1

run-end : (k d l : ℕ) (t : Bool) (bs : List ℕ) → run (known Value k t d l) (line_end ++ bs) ≡ run (known Line 0 t d l) bs
unfolding run step at_value
run-end k d l t bs = refl

-- the name that tells the length has visible characters
abbrev is_letter : ℕ → Bool
is_letter c = (c == 45) || (nat_le 97 c && nat_le c 122)

letter : (b c : ℕ) → to_ascii_lowercase b ≡ c → is_letter c ≡ true → is_name b ≡ true
letter b c e f = grind (arith, e, f)

pub all-and : (a b : Bool) → a ≡ true → b ≡ true → (a && b) ≡ true
all-and true b e f = f
all-and false b e f = absurd cc

visible-of : (name xs : List ℕ) → map to_ascii_lowercase name ≡ xs → list_all is_letter xs ≡ true → list_all is_name name ≡ true
visible-of [] xs e f = refl
visible-of (b ∷ name) [] e f = absurd cc
visible-of (b ∷ name) (x ∷ xs) e f =
    let p = both (is_letter x) (list_all is_letter xs) f in
    let first : to_ascii_lowercase b ≡ x = cc in
    let rest : map to_ascii_lowercase name ≡ xs = cc in
    all-and _ _ (letter b x first p.0) (visible-of name xs rest p.1)

pub length-visible : (name : List ℕ) → map to_ascii_lowercase name ≡ length_name → list_all is_name name ≡ true
length-visible name e = visible-of name length_name e refl

pub length-some : (name : List ℕ) → map to_ascii_lowercase name ≡ length_name → length name ≡ 14
length-some name e = grind (arith, ap length e, length-map name to_ascii_lowercase)

-- the name is matched only where it is this one
some-in : (m x : ℕ) (c : Bool) → nat_lt m 14 ≡ c → m ≤ 14 → is_some_of (slice_get length_name m) x ≡ true → (m < 14) × (x ≡ get_or length_name m 0)
some-in m x true q l e =
    let few : m < 14 = grind (arith, q) in
    let found : (get_or length_name m 0 == x) ≡ true = rw (slice_get-get_or length_name m 0 few) at e in
    (few, sym (eqb-true _ x found))
some-in m x false q l e =
    let all : m ≡ 14 = grind (arith, q, l) in
    let P : ℕ → Type 0 = λ k. is_some_of (slice_get length_name k) x ≡ true in
    let no : false ≡ true = subst P all e in
    absurd cc

matched-test : (m b : ℕ) (name : List ℕ) (c : Bool) → m ≤ 14 → is_some_of (slice_get length_name m) (to_ascii_lowercase b) ≡ c → matched_by (if c then m + 1 else 15) name ≡ 14 → ((k : ℕ) → k ≤ 14 → matched_by k name ≡ 14 → map to_ascii_lowercase name ≡ drop k length_name) → to_ascii_lowercase b ∷ map to_ascii_lowercase name ≡ drop m length_name
matched-test m b name true l q e more =
    let s = some-in m (to_ascii_lowercase b) (nat_lt m 14) refl l q in
    let rest = more (m + 1) (omega (arith, s.0)) e in
    let all = drop_more length_name m 0 (s.0) in
    cc
matched-test m b name false l q e more =
    let no : 15 ≡ 14 = sym (matched-other name) ∙ e in
    absurd (omega (arith, no))

pub matched-back : (name : List ℕ) (m : ℕ) → m ≤ 14 → matched_by m name ≡ 14 → map to_ascii_lowercase name ≡ drop m length_name
matched-back [] m l e = sym (ap (λ k. drop k length_name) e)
matched-back (b ∷ name) m l e = matched-test m b name (is_some_of (slice_get length_name m) (to_ascii_lowercase b)) l refl e (λ k f h. matched-back name k f h)

run-other : (name value bs : List ℕ) (d l : ℕ) (t : Bool) → TellsOther name value → run (known Line 0 t d l) (line_text (other_line name value) ++ bs) ≡ run (known Line 0 t d l) bs
run-other name value bs d l t o =
    let visible = list_all-from_AllPass is_name name o.visible in
    let apart : matched_by 0 name ≢ 14 = λ e. o.other (matched-back name 0 (lit≤ tt) e) in
    let split : line_text (other_line name value) ++ bs ≡ name ++ (58 ∷ (value ++ (line_end ++ bs))) = simp append_assoc in
    ap (run (known Line 0 t d l)) split
    ∙ run-line 0 d l t name _ o.some visible
    ∙ run-on _ _ 58 (value ++ (line_end ++ bs)) (colon_on (matched_by 0 name) d l t apart)
    ∙ run-value (matched_by 0 name) d l t value (line_end ++ bs) (list_all-from_AllPass is_value value o.printable)
    ∙ run-end (matched_by 0 name) d l t bs

run-length : (name blanks digits spaces bs : List ℕ) (d : ℕ) → TellsLength name blanks digits spaces → run (known Line 0 false d 0) (line_text (length_line name blanks digits spaces) ++ bs) ≡ run (known Line 0 true (length digits) (digits_value 10 digits)) bs
run-length name blanks digits spaces bs d o =
    let visible : list_all is_name name ≡ true = length-visible name o.named in
    let some : 0 < length name = omega (arith, length-some name o.named) in
    let split : line_text (length_line name blanks digits spaces) ++ bs ≡ name ++ (58 ∷ (blanks ++ (digits ++ (spaces ++ (line_end ++ bs))))) = simp append_assoc in
    ap (run (known Line 0 false d 0)) split
    ∙ run-line 0 d 0 false name _ some visible
    ∙ ap (λ k. run (known Name k false d 0) (58 ∷ (blanks ++ (digits ++ (spaces ++ (line_end ++ bs)))))) (matched-is name 0 (lit≤ tt) o.named)
    ∙ run-on _ _ 58 (blanks ++ (digits ++ (spaces ++ (line_end ++ bs)))) (length_on d 0)
    ∙ run-blanks 14 d 0 true blanks _ (list_all-from_AllPass is_blank blanks o.blank)
    ∙ run-number 14 d true digits _ o.some (list_all-from_AllPass is_digit digits o.digit) o.few
    ∙ run-tail 14 (length digits) (digits_value 10 digits) true spaces bs (list_all-from_AllPass (λ b. b == 32) spaces o.space)

-- lines that tell no length, and lines of which one does
pub run-none : (lines : List HeaderLine) (bs : List ℕ) (d l : ℕ) (t : Bool) → All IsHeaderLine lines → lengths_of lines ≡ [] → run (known Line 0 t d l) (flat_map line_text lines ++ bs) ≡ run (known Line 0 t d l) bs
run-none [] bs d l t a e = refl
run-none (length_line name blanks digits spaces ∷ lines) bs d l t a e = absurd cc
run-none (other_line name value ∷ lines) bs d l t a e =
    ap (run (known Line 0 t d l)) (append_assoc (line_text (other_line name value)) (flat_map line_text lines) bs)
    ∙ run-other name value (flat_map line_text lines ++ bs) d l t (All-head IsHeaderLine (other_line name value) lines a)
    ∙ run-none lines bs d l t (All-tail IsHeaderLine (other_line name value) lines a) e

pub run-one : (lines : List HeaderLine) (bs : List ℕ) (n d : ℕ) → All IsHeaderLine lines → lengths_of lines ≡ n ∷ [] → (e : ℕ) × (run (known Line 0 false d 0) (flat_map line_text lines ++ bs) ≡ run (known Line 0 true e n) bs)
run-one [] bs n d a e = absurd cc
run-one (length_line name blanks digits spaces ∷ lines) bs n d a e =
    let value : digits_value 10 digits ≡ n = cc in
    let none : lengths_of lines ≡ [] = cc in (
      length digits,
      ap (run (known Line 0 false d 0)) (append_assoc (line_text (length_line name blanks digits spaces)) (flat_map line_text lines) bs)
          ∙ run-length name blanks digits spaces (flat_map line_text lines ++ bs) d (All-head IsHeaderLine (length_line name blanks digits spaces) lines a)
          ∙ run-none lines bs (length digits) (digits_value 10 digits) true (All-tail IsHeaderLine (length_line name blanks digits spaces) lines a) none
          ∙ ap (λ v. run (known Line 0 true (length digits) v) bs) value,
    )
run-one (other_line name value ∷ lines) bs n d a e =
    let r = run-one lines bs n d (All-tail IsHeaderLine (other_line name value) lines a) e in (
      r.0,
      ap (run (known Line 0 false d 0)) (append_assoc (line_text (other_line name value)) (flat_map line_text lines) bs)
          ∙ run-other name value (flat_map line_text lines ++ bs) d 0 false (All-head IsHeaderLine (other_line name value) lines a)
          ∙ r.1,
    )

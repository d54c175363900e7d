-- Words hold no signs, and variables are no other words.
use Rattle.std.proofs.Common.{◌≡◌, ◌∙◌, ◌⊎◌, inl, inr, ap, ap₂, sym, subst, refl, ℕ, ◌+◌, ◌<◌, ◌^◌, ◌%◌, ◌==◌, ◌&&◌, ◌||◌, not, nat_le, Bool, true, false, List, [], ◌∷◌, ◌++◌, codes, chars, bytes_eq, lit<, arith, append-nil, eq-eqb, eqb-true, ne_eqb, leb-true, le-leb}
use Rattle.std.specs.List.{list_all}
use Rattle.std.specs.Fmt.{decimal}
use Rattle.std.specs.Char.{is_ascii_alphanumeric, is_ascii_digit, is_ascii_uppercase, is_ascii_lowercase}
use Rattle.std.proofs.lemmas.Bool.{false≢true, both_ways, and_parts, or_cases, or_left, or_right}
use Rattle.std.proofs.lemmas.List.Folds.{list_all-append}
use Rattle.std.proofs.lemmas.List.{append_cancel_left}
use Rattle.std.proofs.lemmas.Slice.Eq.{bytes_eq-Decides}
use Rattle.std.proofs.lemmas.Str.{chars-append, chars-IsAscii}
use Rattle.std.proofs.lemmas.Fmt.{IsAscii-decimal_wide, decimal_by_steps_wide, decimal_is_IsNumeral_wide}
use Rattle.std.specs.Str.Parse.{digits_value}
use Rattle.unicode_ident.specs.Ident.{is_xid_start, is_xid_continue}
use Rattle.unicode_ident.proofs.IdentLemmas.{is_xid_continue-ascii, is_xid_start-is_xid_continue}
use Rattle.java_tokens.specs.Classes.{is_word_start, is_word_part, is_digit}
use Rattle.java_tokens.specs.Words.{is_word}
use Rattle.java_units.specs.Signs.{has, reserved}
use Rattle.terms.specs.Text.{variable_text}
use Rattle.terms.specs.declared.parts.Parts.{Parts}
use Rattle.java_shapes.specs.Words.{spells_identifier, literals, dotted, are_digits, is_binder, IsPath}
use Rattle.java_shapes.specs.Readable.{is_free, IsReadable}

pub and_both : (a b : Bool) → a ≡ true → b ≡ true → (a && b) ≡ true
and_both a b e f = rw (e, f) refl

-- a character that doesn't stand in a text
abbrev pub Lacks : ℕ → List ℕ → Type 0
Lacks k w = list_all (λ c. not (c == k)) w ≡ true

pub lacks-append : (k : ℕ) (a b : List ℕ) → Lacks k a → Lacks k b → Lacks k (a ++ b)
lacks-append k a b h j = list_all-append (λ c. not (c == k)) a b ∙ and_both (list_all (λ c. not (c == k)) a) (list_all (λ c. not (c == k)) b) h j

pub lacks_parts : (k : ℕ) (a b : List ℕ) → Lacks k (a ++ b) → Lacks k a × Lacks k b
lacks_parts k a b h = and_parts (list_all (λ c. not (c == k)) a) (list_all (λ c. not (c == k)) b) (sym (list_all-append (λ c. not (c == k)) a b) ∙ h)

pub lacks_head : (k c : ℕ) (w : List ℕ) → Lacks k (c ∷ w) → c ≡ k → ⊥
lacks_head k c w h e = let p = and_parts (not (c == k)) (list_all (λ x. not (x == k)) w) h in false≢true (sym (ap not (eq-eqb c k e)) ∙ p.0)

pub lacks_tail : (k c : ℕ) (w : List ℕ) → Lacks k (c ∷ w) → Lacks k w
lacks_tail k c w h = (and_parts (not (c == k)) (list_all (λ x. not (x == k)) w) h).1

pub lacks_not : (k : ℕ) (w a r : List ℕ) → Lacks k w → w ≡ a ++ k ∷ r → ⊥
lacks_not k w a r h e = lacks_head k k r (lacks_parts k a (k ∷ r) (subst (λ x. Lacks k x) e h)).1 refl

-- one cut at the first place of a character, and at its last
pub cut_same : (k : ℕ) (a b r s : List ℕ) → Lacks k a → Lacks k b → a ++ k ∷ r ≡ b ++ k ∷ s → (a ≡ b) × (r ≡ s)
cut_same k [] [] r s la lb e = (refl, cc)
cut_same k [] (c ∷ b) r s la lb e = let same : c ≡ k = cc in absurd (lacks_head k c b lb same)
cut_same k (c ∷ a) [] r s la lb e = let same : c ≡ k = cc in absurd (lacks_head k c a la same)
cut_same k (c ∷ a) (d ∷ b) r s la lb e =
    let heads : c ≡ d = cc in
    let tails : a ++ k ∷ r ≡ b ++ k ∷ s = cc in
    let h = cut_same k a b r s (lacks_tail k c a la) (lacks_tail k d b lb) tails in
    (ap₂ (λ x y. x ∷ y) heads h.0, h.1)

pub last_same : (k : ℕ) (t u v w : List ℕ) → Lacks k v → Lacks k w → t ++ k ∷ v ≡ u ++ k ∷ w → (t ≡ u) × (v ≡ w)
last_same k [] [] v w lv lw e = (refl, cc)
last_same k [] (c ∷ u) v w lv lw e = let tails : v ≡ u ++ k ∷ w = cc in absurd (lacks_not k v u w lv tails)
last_same k (c ∷ t) [] v w lv lw e = let tails : w ≡ t ++ k ∷ v = cc in absurd (lacks_not k w t v lw tails)
last_same k (c ∷ t) (d ∷ u) v w lv lw e =
    let heads : c ≡ d = cc in
    let tails : t ++ k ∷ v ≡ u ++ k ∷ w = cc in
    let h = last_same k t u v w lv lw tails in
    (ap₂ (λ x y. x ∷ y) heads h.0, h.1)

-- signs are no parts of words
pub no_part-dot : is_word_part 46 ≡ false
unfolding is_word_part
no_part-dot = ap (λ b. b || 46 == 36) (is_xid_continue-ascii 46 (lit< tt))

pub underscore : (is_xid_continue 95 || 95 == 36) ≡ true
underscore = ap (λ b. b || 95 == 36) (is_xid_continue-ascii 95 (lit< tt))

pub start_part : (c : ℕ) → is_word_start c ≡ true → is_word_part c ≡ true
unfolding is_word_start is_word_part
start_part c e = elim (or_cases (is_xid_start c || c == 95) (c == 36) e) [
  | inl a ↦ (elim (or_cases (is_xid_start c) (c == 95) a) [
    | inl x ↦ or_left (is_xid_continue c) (c == 36) (is_xid_start-is_xid_continue c x)
    | inr y ↦ subst (λ z. (is_xid_continue z || z == 36) ≡ true) (sym (eqb-true c 95 y)) underscore
  ])
  | inr b ↦ or_right (is_xid_continue c) (c == 36) b
]

pub word_parts : (w : List ℕ) → is_word w ≡ true → list_all is_word_part w ≡ true
unfolding is_word
word_parts [] e = refl
word_parts (c ∷ cs) e = let h = and_parts (is_word_start c) (list_all is_word_part cs) e in and_both (is_word_part c) (list_all is_word_part cs) (start_part c h.0) h.1

pub parts_lack : (k : ℕ) → is_word_part k ≡ false → (w : List ℕ) → list_all is_word_part w ≡ true → Lacks k w
parts_lack k outside [] h = refl
parts_lack k outside (c ∷ cs) h =
    let p = and_parts (is_word_part c) (list_all is_word_part cs) h in
    and_both (not (c == k)) (list_all (λ x. not (x == k)) cs) (ap not (ne_eqb c k (λ e. both_ways (is_word_part c) (ap is_word_part e ∙ outside) p.0))) (parts_lack k outside cs p.1)

-- identifiers
pub identifier_word : (w : List ℕ) → spells_identifier w ≡ true → is_word w ≡ true
unfolding spells_identifier
identifier_word w h = (and_parts (is_word w) (not (has reserved w)) h).0

pub identifier_lacks : (k : ℕ) → is_word_part k ≡ false → (w : List ℕ) → spells_identifier w ≡ true → Lacks k w
identifier_lacks k outside w h = parts_lack k outside w (word_parts w (identifier_word w h))

pub identifier_dotless : (w : List ℕ) → spells_identifier w ≡ true → Lacks 46 w
identifier_dotless w h = identifier_lacks 46 no_part-dot w h

pub no_this : spells_identifier (codes "this") ≡ true → ⊥
unfolding spells_identifier has reserved
no_this e = false≢true (and_parts (is_word (codes "this")) (not (has reserved (codes "this"))) e).1

pub identifier_not_this : (w : List ℕ) → spells_identifier w ≡ true → w ≡ codes "this" → ⊥
identifier_not_this w h e = no_this (subst (λ x. spells_identifier x ≡ true) e h)

pub free_identifier : (b w : List ℕ) → is_free b w ≡ true → spells_identifier w ≡ true
free_identifier b w h = (and_parts (spells_identifier w) (not (is_binder b w)) h).0

pub free_not_binder : (b w : List ℕ) → is_free b w ≡ true → is_binder b w ≡ true → ⊥
free_not_binder b w h e = false≢true (sym (ap not e) ∙ (and_parts (spells_identifier w) (not (is_binder b w)) h).1)

pub all_weaker : (p q : List ℕ → Bool) → ((w : List ℕ) → p w ≡ true → q w ≡ true) → (ws : List (List ℕ)) → list_all p ws ≡ true → list_all q ws ≡ true
all_weaker p q weaker [] h = refl
all_weaker p q weaker (w ∷ ws) h = let k = and_parts (p w) (list_all p ws) h in and_both (q w) (list_all q ws) (weaker w k.0) (all_weaker p q weaker ws k.1)

-- paths
pub first_by : (first a : List ℕ) (rest : List (List ℕ)) (r : List ℕ) → Lacks 46 first → Lacks 46 a → first ++ dotted rest ≡ a ++ 46 ∷ r → first ≡ a
unfolding dotted
first_by first a [] r lf la e = absurd (lacks_not 46 first a r lf (sym (append-nil first) ∙ e))
first_by first a (w ∷ ws) r lf la e = (cut_same 46 first a (w ++ dotted ws) r lf la e).0

pub whole_by : (first t : List ℕ) (rest : List (List ℕ)) → Lacks 46 t → t ≡ first ++ dotted rest → first ≡ t
unfolding dotted
whole_by first t [] lt e = sym (append-nil first) ∙ sym e
whole_by first t (w ∷ ws) lt e = absurd (lacks_not 46 t first (w ++ dotted ws) lt e)

-- the first word of a path of free words, before a dot or alone
pub first_cut : (b t : List ℕ) (s : IsPath (is_free b) (is_free b) t) (a r : List ℕ) → Lacks 46 a → t ≡ a ++ 46 ∷ r → s.first ≡ a
first_cut b t s a r la e = first_by s.first a s.rest r (identifier_dotless s.first (free_identifier b s.first s.first_is)) la (sym s.is ∙ e)

pub first_whole : (b t : List ℕ) (s : IsPath (is_free b) (is_free b) t) → Lacks 46 t → s.first ≡ t
first_whole b t s lt = whole_by s.first t s.rest lt s.is

-- digits

abbrev pub HasNoDigits : List ℕ → Type 0
HasNoDigits w = list_all (λ c. not (is_digit c)) w ≡ true

pub ends_not : (w a ds : List ℕ) → HasNoDigits w → are_digits ds ≡ true → w ≡ a ++ ds → ⊥
unfolding are_digits
ends_not w a [] h d e = false≢true d
ends_not w a (c ∷ ds) h d e =
    let k = and_parts (list_all (λ x. not (is_digit x)) a) (list_all (λ x. not (is_digit x)) (c ∷ ds)) (sym (list_all-append (λ x. not (is_digit x)) a (c ∷ ds)) ∙ subst (λ x. HasNoDigits x) e h) in
    let one = and_parts (not (is_digit c)) (list_all (λ x. not (is_digit x)) ds) k.1 in
    let digit = and_parts (is_digit c) (list_all is_digit ds) d in
    false≢true (sym (ap not digit.0) ∙ one.0)

pub digit_of : (n : ℕ) → n < 10 → is_digit (48 + n) ≡ true
unfolding is_digit
digit_of n l = and_both (nat_le 48 (48 + n)) (nat_le (48 + n) 57) (le-leb 48 (48 + n) (omega arith)) (le-leb (48 + n) 57 (omega arith))

pub one_digit : (n : ℕ) → n < 10 → are_digits ((48 + n) ∷ []) ≡ true
unfolding are_digits
one_digit n l = and_both (is_digit (48 + n)) true (digit_of n l) refl

pub more_digits : (n : ℕ) (ds : List ℕ) → are_digits ds ≡ true → are_digits (ds ++ ((48 + n % 10) ∷ [])) ≡ true
unfolding are_digits
more_digits n [] h = absurd (false≢true h)
more_digits n (c ∷ ds) h =
    let k = and_parts (is_digit c) (list_all is_digit ds) h in
    let l : n % 10 < 10 = omega arith in
    and_both (is_digit c) (list_all is_digit (ds ++ ((48 + n % 10) ∷ []))) k.0 (list_all-append is_digit ds ((48 + n % 10) ∷ []) ∙ and_both (list_all is_digit ds) (is_digit (48 + n % 10) && true) k.1 (and_both (is_digit (48 + n % 10)) true (digit_of (n % 10) l) refl))

pub decimal_digits : (n : ℕ) → n < 10 ^ 64 → are_digits (decimal n) ≡ true
decimal_digits n l = decimal_by_steps_wide (λ m ds. are_digits ds ≡ true) one_digit (λ m ds low h. more_digits m ds h) n l

pub digit_not_dot : is_digit 46 ≡ false
unfolding is_digit
digit_not_dot = refl

pub digits_dotless : (ds : List ℕ) → list_all is_digit ds ≡ true → Lacks 46 ds
digits_dotless [] h = refl
digits_dotless (c ∷ ds) h =
    let p = and_parts (is_digit c) (list_all is_digit ds) h in
    and_both (not (c == 46)) (list_all (λ x. not (x == 46)) ds) (ap not (ne_eqb c 46 (λ e. both_ways (is_digit c) (ap is_digit e ∙ digit_not_dot) p.0))) (digits_dotless ds p.1)

pub number_dotless : (ds : List ℕ) → are_digits ds ≡ true → Lacks 46 ds
unfolding are_digits
number_dotless [] h = refl
number_dotless (c ∷ ds) h = digits_dotless (c ∷ ds) h

-- variables
pub variable_chars : (g : Parts) (n : ℕ) → IsReadable g → n < 10 ^ 64 → chars (variable_text g n) ≡ chars g.binder ++ decimal n
variable_chars g n r l = chars-append g.binder (decimal n) r.binder_text ∙ ap (λ x. chars g.binder ++ x) (chars-IsAscii (decimal n) (IsAscii-decimal_wide n l))

pub binder_append : (b ds : List ℕ) → is_binder b (b ++ ds) ≡ are_digits ds
unfolding is_binder
binder_append [] ds = refl
binder_append (c ∷ b) ds = rw (eq-eqb c c refl) (binder_append b ds)

pub variable_binder : (g : Parts) (n : ℕ) → IsReadable g → n < 10 ^ 64 → is_binder (chars g.binder) (chars (variable_text g n)) ≡ true
variable_binder g n r l = ap (is_binder (chars g.binder)) (variable_chars g n r l) ∙ binder_append (chars g.binder) (decimal n) ∙ decimal_digits n l

pub variable_dotless : (g : Parts) (n : ℕ) → IsReadable g → n < 10 ^ 64 → Lacks 46 (chars (variable_text g n))
variable_dotless g n r l = subst (λ x. Lacks 46 x) (sym (variable_chars g n r l)) (lacks-append 46 (chars g.binder) (decimal n) (identifier_dotless (chars g.binder) r.binder) (number_dotless (decimal n) (decimal_digits n l)))

pub this_digitless : HasNoDigits (codes "this")
unfolding is_digit
this_digitless = refl

pub variable_not_this : (g : Parts) (n : ℕ) → IsReadable g → n < 10 ^ 64 → chars (variable_text g n) ≡ codes "this" → ⊥
variable_not_this g n r l e = ends_not (codes "this") (chars g.binder) (decimal n) this_digitless (decimal_digits n l) (sym e ∙ variable_chars g n r l)

pub variable_not_free : (g : Parts) (n : ℕ) (w : List ℕ) → IsReadable g → n < 10 ^ 64 → is_free (chars g.binder) w ≡ true → chars (variable_text g n) ≡ w → ⊥
variable_not_free g n w r l h e = free_not_binder (chars g.binder) w h (subst (λ x. is_binder (chars g.binder) x ≡ true) e (variable_binder g n r l))

pub same_decimal : (m n : ℕ) → m < 10 ^ 64 → n < 10 ^ 64 → decimal m ≡ decimal n → m ≡ n
same_decimal m n k l e = sym (decimal_is_IsNumeral_wide m k).1 ∙ ap (digits_value 10) e ∙ (decimal_is_IsNumeral_wide n l).1

pub same_variable : (g : Parts) (m n : ℕ) → IsReadable g → m < 10 ^ 64 → n < 10 ^ 64 → chars (variable_text g m) ≡ chars (variable_text g n) → m ≡ n
same_variable g m n r k l e = same_decimal m n k l (append_cancel_left (chars g.binder) (decimal m) (decimal n) (sym (variable_chars g m r k) ∙ e ∙ variable_chars g n r l))

-- literals
pub record IsLiteralWord (w : List ℕ) : Type 0 where
  pub dotless : Lacks 46 w
  pub not_this : w ≡ codes "this" → ⊥
  pub digits : (w ≡ codes "0") ⊎ HasNoDigits w

pub literal_zero : IsLiteralWord (codes "0")
literal_zero = record { dotless = refl; not_this = λ e. false≢true ((bytes_eq-Decides (codes "0") (codes "this")).1 e); digits = inl refl }

pub literal_true : IsLiteralWord (codes "true")
unfolding is_digit
literal_true = record { dotless = refl; not_this = λ e. false≢true ((bytes_eq-Decides (codes "true") (codes "this")).1 e); digits = inr refl }

pub literal_false : IsLiteralWord (codes "false")
unfolding is_digit
literal_false = record { dotless = refl; not_this = λ e. false≢true ((bytes_eq-Decides (codes "false") (codes "this")).1 e); digits = inr refl }

pub literal_empty : IsLiteralWord (34 ∷ 34 ∷ [])
unfolding is_digit
literal_empty = record { dotless = refl; not_this = λ e. false≢true ((bytes_eq-Decides (34 ∷ 34 ∷ []) (codes "this")).1 e); digits = inr refl }

pub has_cases : (x : List ℕ) (xs : List (List ℕ)) (w : List ℕ) → has (x ∷ xs) w ≡ true → (x ≡ w) ⊎ (has xs w ≡ true)
unfolding has
has_cases x xs w h = elim (or_cases (bytes_eq x w) (has xs w) h) [ inl e ↦ inl ((bytes_eq-Decides x w).0 e) | inr k ↦ inr k ]

pub has_none : (w : List ℕ) → has [] w ≡ true → ⊥
unfolding has
has_none w h = false≢true h

pub literal_word : (w : List ℕ) → has literals w ≡ true → IsLiteralWord w
literal_word w h = elim (has_cases (codes "0") (codes "true" ∷ codes "false" ∷ (34 ∷ 34 ∷ []) ∷ []) w h) [
  | inl e ↦ subst IsLiteralWord e literal_zero
  | inr h1 ↦ (elim (has_cases (codes "true") (codes "false" ∷ (34 ∷ 34 ∷ []) ∷ []) w h1) [
    | inl e ↦ subst IsLiteralWord e literal_true
    | inr h2 ↦ (elim (has_cases (codes "false") ((34 ∷ 34 ∷ []) ∷ []) w h2) [
      | inl e ↦ subst IsLiteralWord e literal_false
      | inr h3 ↦ (elim (has_cases (34 ∷ 34 ∷ []) [] w h3) [
        | inl e ↦ subst IsLiteralWord e literal_empty
        | inr h4 ↦ absurd (has_none w h4)
      ])
    ])
  ])
]

pub not_zero : (b ds : List ℕ) → is_word b ≡ true → are_digits ds ≡ true → codes "0" ≡ b ++ ds → ⊥
unfolding is_word are_digits
not_zero [] ds w d e = false≢true w
not_zero (c ∷ []) [] w d e = false≢true d
not_zero (c ∷ []) (x ∷ ds) w d e = cc
not_zero (c ∷ b ∷ bs) ds w d e = cc

pub variable_not_literal : (g : Parts) (n : ℕ) → IsReadable g → n < 10 ^ 64 → has literals (chars (variable_text g n)) ≡ true → ⊥
variable_not_literal g n r l h =
    let is = variable_chars g n r l in
    let k = literal_word (chars (variable_text g n)) h in
    elim (k.digits) [
      | inl e ↦ not_zero (chars g.binder) (decimal n) (identifier_word (chars g.binder) r.binder) (decimal_digits n l) (sym e ∙ is)
      | inr e ↦ ends_not (chars (variable_text g n)) (chars g.binder) (decimal n) e (decimal_digits n l) is
    ]

-- a variable is an identifier
pub has_passes : (p : List ℕ → Bool) (xs : List (List ℕ)) (w : List ℕ) → list_all p xs ≡ true → has xs w ≡ true → p w ≡ true
has_passes p [] w h e = absurd (has_none w e)
has_passes p (x ∷ xs) w h e =
    let k = and_parts (p x) (list_all p xs) h in
    elim (has_cases x xs w e) [ inl same ↦ subst (λ v. p v ≡ true) same k.0 | inr more ↦ has_passes p xs w k.1 more ]

pub reserved_digitless : list_all (λ w. list_all (λ c. not (is_digit c)) w) reserved ≡ true
unfolding reserved is_digit
reserved_digitless = refl

pub digit_part : (c : ℕ) → is_digit c ≡ true → is_word_part c ≡ true
unfolding is_digit is_word_part
digit_part c h =
    let k = and_parts (nat_le 48 c) (nat_le c 57) h in
    let high = leb-true c 57 k.1 in
    let digit : is_ascii_alphanumeric c ≡ true = or_left (is_ascii_digit c || is_ascii_uppercase c) (is_ascii_lowercase c) (or_left (is_ascii_digit c) (is_ascii_uppercase c) h) in
    or_left (is_xid_continue c) (c == 36) (is_xid_continue-ascii c (omega arith) ∙ or_left (is_ascii_alphanumeric c) (c == 95) digit)

pub digit_parts : (ds : List ℕ) → list_all is_digit ds ≡ true → list_all is_word_part ds ≡ true
digit_parts [] h = refl
digit_parts (c ∷ ds) h = let k = and_parts (is_digit c) (list_all is_digit ds) h in and_both (is_word_part c) (list_all is_word_part ds) (digit_part c k.0) (digit_parts ds k.1)

pub number_parts : (ds : List ℕ) → are_digits ds ≡ true → list_all is_word_part ds ≡ true
unfolding are_digits
number_parts [] h = refl
number_parts (c ∷ ds) h = digit_parts (c ∷ ds) h

pub word_more : (b ds : List ℕ) → is_word b ≡ true → list_all is_word_part ds ≡ true → is_word (b ++ ds) ≡ true
unfolding is_word
word_more [] ds w h = absurd (false≢true w)
word_more (c ∷ b) ds w h = let k = and_parts (is_word_start c) (list_all is_word_part b) w in and_both (is_word_start c) (list_all is_word_part (b ++ ds)) k.0 (list_all-append is_word_part b ds ∙ and_both (list_all is_word_part b) (list_all is_word_part ds) k.1 h)

pub not_true : (b : Bool) → (b ≡ true → ⊥) → not b ≡ true
not_true true h = absurd (h refl)
not_true false h = refl

pub numbered_word : (b ds : List ℕ) → is_word b ≡ true → are_digits ds ≡ true → spells_identifier (b ++ ds) ≡ true
unfolding spells_identifier
numbered_word b ds h d =
    and_both (is_word (b ++ ds)) (not (has reserved (b ++ ds))) (word_more b ds h (number_parts ds d))
    (not_true (has reserved (b ++ ds)) (λ e. ends_not (b ++ ds) b ds (has_passes (λ w. list_all (λ c. not (is_digit c)) w) reserved (b ++ ds) reserved_digitless e) d refl))

pub numbered_identifier : (b ds : List ℕ) → spells_identifier b ≡ true → are_digits ds ≡ true → spells_identifier (b ++ ds) ≡ true
numbered_identifier b ds h d = numbered_word b ds (identifier_word b h) d

pub variable_identifier : (g : Parts) (n : ℕ) → IsReadable g → n < 10 ^ 64 → spells_identifier (chars (variable_text g n)) ≡ true
variable_identifier g n r l = ap spells_identifier (variable_chars g n r l) ∙ numbered_identifier (chars g.binder) (decimal n) r.binder (decimal_digits n l)

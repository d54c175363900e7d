-- What the bytes of a header part say as far as they have been read, and so what it is where it has been read.
use Rattle.std.proofs.Common.{◌≡◌, ◌≢◌, ℕ, ◌+◌, ◌*◌, ◌^◌, ◌<◌, ◌≤◌, ◌⊎◌, inl, inr, ap, sym, ◌∙◌, arith, List, [], ◌∷◌, refl, Bool, true, false, ◌++◌, length, nat_lt, ◌==◌, if◌then◌else◌, subst, append_assoc, All, append-nil, lit<, lit≤}
use Rattle.std.proofs.lemmas.List.{length-append}
use Rattle.std.proofs.lemmas.List.Elements.{All-nil, All-push}
use Rattle.std.proofs.lemmas.List.Folds.{list_all-append}
use Rattle.std.proofs.lemmas.List.Sums.{AllPass-from_list_all}
use Rattle.std.proofs.lemmas.Grind.{flat_map-append}
use Rattle.std.proofs.lemmas.Int.Digits.{digits_value-lt, digits_value_push}
use Rattle.std.proofs.lemmas.Bool.{eqb-true}
use Rattle.std.specs.List.{list_all, flat_map}
use Rattle.std.specs.Char.{digit_value}
use Rattle.std.specs.Str.{str_to_ascii_lowercase}
use Rattle.std.specs.Str.Parse.{digits_value, AllDigits}
use Rattle.json_rpc.specs.Heads.{start, step, line_after, is_name, is_value, is_blank, is_digit, length_name, matching, at_line, at_name, at_value, at_blank, at_digits, at_tail}
use Rattle.json_rpc.specs.Spelled.{HeaderLine, length_line, other_line, line_text, line_end, IsHeaderLine, lengths_of, AreHeaderLines}
use Rattle.json_rpc.proofs.Lines.{known, both, all-and, matched_by, matched-is, matched-back, digit-bounds, digit-value, next_length, length-small}
use Rattle.json_rpc.specs.declared.header.Mode.{Mode}
use Rattle.json_rpc.specs.declared.header.Mode.TheVariants.{Line, Name, Value, Blank, Digits, Tail, LineEnd, LastEnd}
use Rattle.json_rpc.specs.declared.header.Head.{Head}
use Rattle.json_rpc.specs.declared.header.Step.{Step}
use Rattle.json_rpc.specs.declared.header.Step.TheVariants.{On, Done}

-- what whole lines have told
abbrev pub Told : Bool → ℕ → List HeaderLine → Type 0
Told t l lines = ((t ≡ true) × (lengths_of lines ≡ l ∷ [])) ⊎ ((t ≡ false) × (lengths_of lines ≡ []) × (l ≡ 0))

pub record InName (h : Head) (lines : List HeaderLine) (part : List ℕ) : Type 0 where
  pub some : 0 < length part
  pub visible : list_all is_name part ≡ true
  pub matched : matched_by 0 part ≡ h.matched
  pub told : Told h.told h.length lines

pub record InValue (h : Head) (lines : List HeaderLine) (part : List ℕ) : Type 0 where
  pub name : List ℕ
  pub value : List ℕ
  pub some : 0 < length name
  pub visible : list_all is_name name ≡ true
  pub other : str_to_ascii_lowercase name ≢ length_name
  pub printable : list_all is_value value ≡ true
  pub told : Told h.told h.length lines
  pub spelled : part ≡ name ++ (58 ∷ value)

pub record InBlank (h : Head) (lines : List HeaderLine) (part : List ℕ) : Type 0 where
  pub name : List ℕ
  pub blanks : List ℕ
  pub named : str_to_ascii_lowercase name ≡ length_name
  pub blank : list_all is_blank blanks ≡ true
  pub none : lengths_of lines ≡ []
  pub told : h.told ≡ true
  pub nought : h.length ≡ 0
  pub spelled : part ≡ name ++ (58 ∷ blanks)

pub record InDigits (h : Head) (lines : List HeaderLine) (part : List ℕ) : Type 0 where
  pub name : List ℕ
  pub blanks : List ℕ
  pub digits : List ℕ
  pub named : str_to_ascii_lowercase name ≡ length_name
  pub blank : list_all is_blank blanks ≡ true
  pub digit : list_all is_digit digits ≡ true
  pub some : 0 < length digits
  pub few : length digits ≤ 18
  pub count : h.digits ≡ length digits
  pub value : h.length ≡ digits_value 10 digits
  pub none : lengths_of lines ≡ []
  pub told : h.told ≡ true
  pub spelled : part ≡ name ++ (58 ∷ (blanks ++ digits))

pub record InTail (h : Head) (lines : List HeaderLine) (part : List ℕ) : Type 0 where
  pub name : List ℕ
  pub blanks : List ℕ
  pub digits : List ℕ
  pub spaces : List ℕ
  pub named : str_to_ascii_lowercase name ≡ length_name
  pub blank : list_all is_blank blanks ≡ true
  pub digit : list_all is_digit digits ≡ true
  pub some : 0 < length digits
  pub few : length digits ≤ 18
  pub space : list_all (λ b. b == 32) spaces ≡ true
  pub value : h.length ≡ digits_value 10 digits
  pub none : lengths_of lines ≡ []
  pub told : h.told ≡ true
  pub spelled : part ≡ name ++ (58 ∷ (blanks ++ (digits ++ spaces)))

-- a line up to its LF
pub record AtEnd (h : Head) (lines : List HeaderLine) (part : List ℕ) : Type 0 where
  pub line : HeaderLine
  pub is : IsHeaderLine line
  pub told : Told h.told h.length (lines ++ (line ∷ []))
  pub spelled : part ++ (10 ∷ []) ≡ line_text line

-- the part of a line that is read
abbrev pub ReadPart : Mode → Head → List HeaderLine → List ℕ → Type 0
ReadPart Line h lines part = (part ≡ []) × Told h.told h.length lines
ReadPart Name h lines part = InName h lines part
ReadPart Value h lines part = InValue h lines part
ReadPart Blank h lines part = InBlank h lines part
ReadPart Digits h lines part = InDigits h lines part
ReadPart Tail h lines part = InTail h lines part
ReadPart LineEnd h lines part = AtEnd h lines part
ReadPart LastEnd h lines part = (part ≡ 13 ∷ []) × Told h.told h.length lines

-- these bytes have led to h, and the last line begins at this place
pub record Read (h : Head) (line : ℕ) (bytes : List ℕ) : Type 0 where
  pub lines : List HeaderLine
  pub each : All IsHeaderLine lines
  pub at : line ≡ length (flat_map line_text lines)
  pub part : List ℕ
  pub spelled : bytes ≡ flat_map line_text lines ++ part
  pub says : ReadPart h.mode h lines part

pub read-start : Read start 0 []
read-start = record { lines = []; each = All-nil IsHeaderLine; at = refl; part = []; spelled = refl; says = (refl, inr (refl, refl, refl)) }

-- the cases of a step
pub branch : (c : Bool) (x y s : Step) (P : Type 0) → (if c then x else y) ≡ s → (c ≡ true → x ≡ s → P) → (c ≡ false → y ≡ s → P) → P
branch true x y s P e f g = f refl e
branch false x y s P e f g = g refl e

-- one byte more of the same line
grow : (h g : Head) (line b : ℕ) (bytes : List ℕ) (r : Read h line bytes) → line_after (length bytes) line g.mode ≡ line → ReadPart g.mode g r.lines (r.part ++ (b ∷ [])) → Read g (line_after (length bytes) line g.mode) (bytes ++ (b ∷ []))
grow h g line b bytes r e p = record {
  lines = r.lines;
  each = r.each;
  at = e ∙ r.at;
  part = r.part ++ (b ∷ []);
  spelled = ap (λ t. t ++ (b ∷ [])) r.spelled ∙ append_assoc (flat_map line_text r.lines) r.part (b ∷ []);
  says = p;
}

abbrev pub Grown : ℕ → ℕ → List ℕ → Head → Type 0
Grown line b bytes g = Read g (line_after (length bytes) line g.mode) (bytes ++ (b ∷ []))

moved : (line b : ℕ) (bytes : List ℕ) (x g : Head) → On x ≡ On g → Grown line b bytes x → Grown line b bytes g
moved line b bytes x g e p = let same : x ≡ g = cc in let P : Head → Type 0 = λ v. Grown line b bytes v in subst P same p

push-all : (p : ℕ → Bool) (xs : List ℕ) (b : ℕ) → list_all p xs ≡ true → p b ≡ true → list_all p (xs ++ (b ∷ [])) ≡ true
push-all p xs b e f = list_all-append p xs (b ∷ []) ∙ all-and _ _ e (all-and _ _ f refl)

matched-push : (m : ℕ) (xs : List ℕ) (b : ℕ) → matched_by m (xs ++ (b ∷ [])) ≡ matching (matched_by m xs) b
matched-push m [] b = refl
matched-push m (x ∷ xs) b = matched-push (matching m x) xs b

pub lengths-append : (xs ys : List HeaderLine) → lengths_of (xs ++ ys) ≡ lengths_of xs ++ lengths_of ys
lengths-append [] ys = refl
lengths-append (length_line name blanks digits spaces ∷ xs) ys = ap (λ t. digits_value 10 digits ∷ t) (lengths-append xs ys)
lengths-append (other_line name value ∷ xs) ys = lengths-append xs ys

told-same : (t : Bool) (l : ℕ) (xs ys : List HeaderLine) → lengths_of ys ≡ lengths_of xs → Told t l xs → Told t l ys
told-same t l xs ys e w = elim w [ inl p ↦ inl (p.0, e ∙ p.1) | inr p ↦ inr (p.0, e ∙ p.1, p.2) ]

told-none : (t : Bool) (l : ℕ) (xs : List HeaderLine) → t ≡ false → Told t l xs → (lengths_of xs ≡ []) × (l ≡ 0)
told-none t l xs e w = elim w [ inl p ↦ absurd (let no : true ≡ false = sym p.0 ∙ e in cc) | inr p ↦ (p.1, p.2) ]

pub told-other : (t : Bool) (l : ℕ) (xs : List HeaderLine) (name value : List ℕ) → Told t l xs → Told t l (xs ++ (other_line name value ∷ []))
told-other t l xs name value w = told-same t l xs (xs ++ (other_line name value ∷ [])) (lengths-append xs (other_line name value ∷ []) ∙ append-nil (lengths_of xs)) w

pub told-length : (t : Bool) (l : ℕ) (xs : List HeaderLine) (name blanks digits spaces : List ℕ) → t ≡ true → lengths_of xs ≡ [] → l ≡ digits_value 10 digits → Told t l (xs ++ (length_line name blanks digits spaces ∷ []))
told-length t l xs name blanks digits spaces e none v = inl (e, lengths-append xs (length_line name blanks digits spaces ∷ []) ∙ ap (λ t. t ++ (digits_value 10 digits ∷ [])) none ∙ ap (λ n. n ∷ []) (sym v))

all-below : (ds : List ℕ) → list_all is_digit ds ≡ true → AllDigits 10 ds
all-below [] e = tt
all-below (c ∷ ds) e =
    let p = both (is_digit c) (list_all is_digit ds) e in
    let q = digit-bounds c p.0 in
    (omega (arith, digit-value c p.0, q.0, q.1), all-below ds p.1)

-- a byte of each kind
on-line : (k d l line b : ℕ) (t : Bool) (bytes : List ℕ) (g : Head) → Read (known Line k t d l) line bytes → step (known Line k t d l) b ≡ On g → Grown line b bytes g
unfolding step at_line
on-line k d l line b t bytes g r e =
    let none : r.part ++ (b ∷ []) ≡ b ∷ [] = ap (λ t. t ++ (b ∷ [])) r.says.0 in
    branch (b == 13) _ _ (On g) (Grown line b bytes g) e
    (λ q f. moved line b bytes (known LastEnd k t d l) g f (grow _ (known LastEnd k t d l) line b bytes r refl (none ∙ ap (λ v. v ∷ []) (eqb-true b 13 q), r.says.1)))
    (λ q f. branch (is_name b) _ _ (On g) (Grown line b bytes g) f
    (λ w i. moved line b bytes (known Name (matching 0 b) t d l) g i (grow _ (known Name (matching 0 b) t d l) line b bytes r refl (record {
      some = omega (arith, ap length none);
      visible = ap (list_all is_name) none ∙ all-and _ _ w refl;
      matched = ap (matched_by 0) none;
      told = r.says.1;
    })))
    (λ w i. absurd cc))

on-name : (k d l line b : ℕ) (t : Bool) (bytes : List ℕ) (g : Head) → Read (known Name k t d l) line bytes → step (known Name k t d l) b ≡ On g → Grown line b bytes g
unfolding step at_name
on-name k d l line b t bytes g r e =
    branch (b == 58) _ _ (On g) (Grown line b bytes g) e
    (λ q f. branch (k == 14) _ _ (On g) (Grown line b bytes g) f
    (λ w i. branch t _ _ (On g) (Grown line b bytes g) i
    (λ u j. absurd cc)
    (λ u j. let none = told-none t l r.lines u r.says.told in
    moved line b bytes (known Blank k true d l) g j (grow _ (known Blank k true d l) line b bytes r refl (record {
      name = r.part;
      blanks = [];
      named = matched-back r.part 0 (lit≤ tt) (r.says.matched ∙ eqb-true k 14 w);
      blank = refl;
      none = none.0;
      told = refl;
      nought = none.1;
      spelled = ap (λ v. r.part ++ (v ∷ [])) (eqb-true b 58 q);
    }))))
    (λ w i. moved line b bytes (known Value k t d l) g i (grow _ (known Value k t d l) line b bytes r refl (record {
      name = r.part;
      value = [];
      some = r.says.some;
      visible = r.says.visible;
      other = λ h. let m = matched-is r.part 0 (lit≤ tt) h in grind (arith, w, m, r.says.matched);
      printable = refl;
      told = r.says.told;
      spelled = ap (λ v. r.part ++ (v ∷ [])) (eqb-true b 58 q);
    }))))
    (λ q f. branch (is_name b) _ _ (On g) (Grown line b bytes g) f
    (λ w i. moved line b bytes (known Name (matching k b) t d l) g i (grow _ (known Name (matching k b) t d l) line b bytes r refl (record {
      some = omega (arith, length-append r.part (b ∷ []));
      visible = push-all is_name r.part b r.says.visible w;
      matched = matched-push 0 r.part b ∙ ap (λ m. matching m b) r.says.matched;
      told = r.says.told;
    })))
    (λ w i. absurd cc))

on-value : (k d l line b : ℕ) (t : Bool) (bytes : List ℕ) (g : Head) → Read (known Value k t d l) line bytes → step (known Value k t d l) b ≡ On g → Grown line b bytes g
unfolding step at_value
on-value k d l line b t bytes g r e =
    let s = r.says in
    let more : r.part ++ (b ∷ []) ≡ s.name ++ (58 ∷ (s.value ++ (b ∷ []))) = ap (λ v. v ++ (b ∷ [])) s.spelled ∙ append_assoc s.name (58 ∷ s.value) (b ∷ []) in
    branch (b == 13) _ _ (On g) (Grown line b bytes g) e
    (λ q f. moved line b bytes (known LineEnd k t d l) g f (grow _ (known LineEnd k t d l) line b bytes r refl (record {
      line = other_line s.name s.value;
      is = record { some = s.some; visible = AllPass-from_list_all is_name s.name s.visible; other = s.other; printable = AllPass-from_list_all is_value s.value s.printable };
      told = told-other t l r.lines s.name s.value s.told;
      spelled = ap (λ v. v ++ (10 ∷ [])) (more ∙ ap (λ v. s.name ++ (58 ∷ (s.value ++ (v ∷ [])))) (eqb-true b 13 q)) ∙ simp append_assoc;
    })))
    (λ q f. branch (is_value b) _ _ (On g) (Grown line b bytes g) f
    (λ w i. moved line b bytes (known Value k t d l) g i (grow _ (known Value k t d l) line b bytes r refl (record {
      name = s.name;
      value = s.value ++ (b ∷ []);
      some = s.some;
      visible = s.visible;
      other = s.other;
      printable = push-all is_value s.value b s.printable w;
      told = s.told;
      spelled = more;
    })))
    (λ w i. absurd cc))

on-blank : (k d l line b : ℕ) (t : Bool) (bytes : List ℕ) (g : Head) → Read (known Blank k t d l) line bytes → step (known Blank k t d l) b ≡ On g → Grown line b bytes g
unfolding step at_blank next_length
on-blank k d l line b t bytes g r e =
    let s = r.says in
    let more : r.part ++ (b ∷ []) ≡ s.name ++ (58 ∷ (s.blanks ++ (b ∷ []))) = ap (λ v. v ++ (b ∷ [])) s.spelled ∙ append_assoc s.name (58 ∷ s.blanks) (b ∷ []) in
    branch (is_blank b) _ _ (On g) (Grown line b bytes g) e
    (λ q f. moved line b bytes (known Blank k t d l) g f (grow _ (known Blank k t d l) line b bytes r refl (record {
      name = s.name;
      blanks = s.blanks ++ (b ∷ []);
      named = s.named;
      blank = push-all is_blank s.blanks b s.blank q;
      none = s.none;
      told = s.told;
      nought = s.nought;
      spelled = more;
    })))
    (λ q f. branch (is_digit b) _ _ (On g) (Grown line b bytes g) f
    (λ w i.
    let v = length-small l b 0 w (lit< tt) (omega (arith, s.nought)) in
    moved line b bytes (known Digits k t 1 (next_length l b)) g i (grow _ (known Digits k t 1 (next_length l b)) line b bytes r refl (record {
      name = s.name;
      blanks = s.blanks;
      digits = b ∷ [];
      named = s.named;
      blank = s.blank;
      digit = all-and _ _ w refl;
      some = lit< tt;
      few = lit≤ tt;
      count = refl;
      value = v.0 ∙ ap (λ z. z * 10 + digit_value b) s.nought;
      none = s.none;
      told = s.told;
      spelled = more;
    })))
    (λ w i. absurd cc))

on-digits : (k d l line b : ℕ) (t : Bool) (bytes : List ℕ) (g : Head) → Read (known Digits k t d l) line bytes → step (known Digits k t d l) b ≡ On g → Grown line b bytes g
unfolding step at_digits next_length
on-digits k d l line b t bytes g r e =
    let s = r.says in
    let more : r.part ++ (b ∷ []) ≡ s.name ++ (58 ∷ (s.blanks ++ (s.digits ++ (b ∷ [])))) = ap (λ v. v ++ (b ∷ [])) s.spelled ∙ simp append_assoc in
    branch (is_digit b) _ _ (On g) (Grown line b bytes g) e
    (λ q f. branch (nat_lt d 18) _ _ (On g) (Grown line b bytes g) f
    (λ w i.
    let few : d < 18 = grind (arith, w) in
    let small : l < 10 ^ d = rw (s.value, s.count) (digits_value-lt 10 s.digits (all-below s.digits s.digit)) in
    let v = length-small l b d q few small in
    moved line b bytes (known Digits k t (d + 1) (next_length l b)) g i (grow _ (known Digits k t (d + 1) (next_length l b)) line b bytes r refl (record {
      name = s.name;
      blanks = s.blanks;
      digits = s.digits ++ (b ∷ []);
      named = s.named;
      blank = s.blank;
      digit = push-all is_digit s.digits b s.digit q;
      some = omega (arith, length-append s.digits (b ∷ []));
      few = omega (arith, length-append s.digits (b ∷ []), s.count, few);
      count = omega (arith, length-append s.digits (b ∷ []), s.count);
      value = v.0 ∙ ap (λ z. z * 10 + digit_value b) s.value ∙ sym (digits_value_push 10 s.digits b);
      none = s.none;
      told = s.told;
      spelled = more;
    })))
    (λ w i. absurd cc))
    (λ q f. branch (b == 32) _ _ (On g) (Grown line b bytes g) f
    (λ w i. moved line b bytes (known Tail k t d l) g i (grow _ (known Tail k t d l) line b bytes r refl (record {
      name = s.name;
      blanks = s.blanks;
      digits = s.digits;
      spaces = b ∷ [];
      named = s.named;
      blank = s.blank;
      digit = s.digit;
      some = s.some;
      few = s.few;
      space = all-and _ _ w refl;
      value = s.value;
      none = s.none;
      told = s.told;
      spelled = more;
    })))
    (λ w i. branch (b == 13) _ _ (On g) (Grown line b bytes g) i
    (λ u j. moved line b bytes (known LineEnd k t d l) g j (grow _ (known LineEnd k t d l) line b bytes r refl (record {
      line = length_line s.name s.blanks s.digits [];
      is = record { named = s.named; blank = AllPass-from_list_all is_blank s.blanks s.blank; digit = AllPass-from_list_all is_digit s.digits s.digit; some = s.some; few = s.few; space = AllPass-from_list_all _ [] refl };
      told = told-length t l r.lines s.name s.blanks s.digits [] s.told s.none s.value;
      spelled = ap (λ v. v ++ (10 ∷ [])) (more ∙ ap (λ v. s.name ++ (58 ∷ (s.blanks ++ (s.digits ++ (v ∷ []))))) (eqb-true b 13 u)) ∙ simp append_assoc;
    })))
    (λ u j. absurd cc)))

on-tail : (k d l line b : ℕ) (t : Bool) (bytes : List ℕ) (g : Head) → Read (known Tail k t d l) line bytes → step (known Tail k t d l) b ≡ On g → Grown line b bytes g
unfolding step at_tail
on-tail k d l line b t bytes g r e =
    let s = r.says in
    let more : r.part ++ (b ∷ []) ≡ s.name ++ (58 ∷ (s.blanks ++ (s.digits ++ (s.spaces ++ (b ∷ []))))) = ap (λ v. v ++ (b ∷ [])) s.spelled ∙ simp append_assoc in
    branch (b == 32) _ _ (On g) (Grown line b bytes g) e
    (λ q f. moved line b bytes (known Tail k t d l) g f (grow _ (known Tail k t d l) line b bytes r refl (record {
      name = s.name;
      blanks = s.blanks;
      digits = s.digits;
      spaces = s.spaces ++ (b ∷ []);
      named = s.named;
      blank = s.blank;
      digit = s.digit;
      some = s.some;
      few = s.few;
      space = push-all (λ x. x == 32) s.spaces b s.space q;
      value = s.value;
      none = s.none;
      told = s.told;
      spelled = more;
    })))
    (λ q f. branch (b == 13) _ _ (On g) (Grown line b bytes g) f
    (λ u j. moved line b bytes (known LineEnd k t d l) g j (grow _ (known LineEnd k t d l) line b bytes r refl (record {
      line = length_line s.name s.blanks s.digits s.spaces;
      is = record { named = s.named; blank = AllPass-from_list_all is_blank s.blanks s.blank; digit = AllPass-from_list_all is_digit s.digits s.digit; some = s.some; few = s.few; space = AllPass-from_list_all (λ x. x == 32) s.spaces s.space };
      told = told-length t l r.lines s.name s.blanks s.digits s.spaces s.told s.none s.value;
      spelled = ap (λ v. v ++ (10 ∷ [])) (more ∙ ap (λ v. s.name ++ (58 ∷ (s.blanks ++ (s.digits ++ (s.spaces ++ (v ∷ [])))))) (eqb-true b 13 u)) ∙ simp append_assoc;
    })))
    (λ u j. absurd cc))

on-end : (k d l line b : ℕ) (t : Bool) (bytes : List ℕ) (g : Head) → Read (known LineEnd k t d l) line bytes → step (known LineEnd k t d l) b ≡ On g → Grown line b bytes g
unfolding step
on-end k d l line b t bytes g r e =
    let s = r.says in
    branch (b == 10) _ _ (On g) (Grown line b bytes g) e
    (λ q f.
    let flat = flat_map line_text r.lines in
    let all : flat_map line_text (r.lines ++ (s.line ∷ [])) ≡ flat ++ line_text s.line = flat_map-append line_text r.lines (s.line ∷ []) ∙ ap (λ v. flat ++ v) (append-nil (line_text s.line)) in
    let read : bytes ++ (b ∷ []) ≡ flat_map line_text (r.lines ++ (s.line ∷ [])) =
    ap (λ v. v ++ (b ∷ [])) r.spelled ∙ append_assoc flat r.part (b ∷ []) ∙ ap (λ v. flat ++ (r.part ++ (v ∷ []))) (eqb-true b 10 q) ∙ ap (λ v. flat ++ v) s.spelled ∙ sym all in
    moved line b bytes (known Line 0 t d l) g f (record {
      lines = r.lines ++ (s.line ∷ []);
      each = All-push IsHeaderLine r.lines s.line r.each s.is;
      at = omega (arith, ap length read, length-append bytes (b ∷ []));
      part = [];
      spelled = read ∙ sym (append-nil _);
      says = (refl, s.told);
    }))
    (λ q f. absurd cc)

on-last : (k d l line b : ℕ) (t : Bool) (bytes : List ℕ) (g : Head) → Read (known LastEnd k t d l) line bytes → step (known LastEnd k t d l) b ≡ On g → Grown line b bytes g
unfolding step
on-last k d l line b t bytes g r e = branch (b == 10) _ _ (On g) (Grown line b bytes g) e (λ q f. absurd cc) (λ q f. absurd cc)

on-mode : (m : Mode) (k d l line b : ℕ) (t : Bool) (bytes : List ℕ) (g : Head) → Read (known m k t d l) line bytes → step (known m k t d l) b ≡ On g → Grown line b bytes g
on-mode Line k d l line b t bytes g r e = on-line k d l line b t bytes g r e
on-mode Name k d l line b t bytes g r e = on-name k d l line b t bytes g r e
on-mode Value k d l line b t bytes g r e = on-value k d l line b t bytes g r e
on-mode Blank k d l line b t bytes g r e = on-blank k d l line b t bytes g r e
on-mode Digits k d l line b t bytes g r e = on-digits k d l line b t bytes g r e
on-mode Tail k d l line b t bytes g r e = on-tail k d l line b t bytes g r e
on-mode LineEnd k d l line b t bytes g r e = on-end k d l line b t bytes g r e
on-mode LastEnd k d l line b t bytes g r e = on-last k d l line b t bytes g r e

pub read-on : (h g : Head) (line b : ℕ) (bytes : List ℕ) → Read h line bytes → step h b ≡ On g → Grown line b bytes g
read-on h g line b bytes r e = on-mode h.mode h.matched h.digits h.length line b h.told bytes g r e

-- the last byte of a header part
pub record IsRead (bytes : List ℕ) (h : Head) : Type 0 where
  pub lengths : List ℕ
  pub lines : AreHeaderLines bytes lengths
  pub told : h.told ≡ true → lengths ≡ h.length ∷ []
  pub none : h.told ≡ false → lengths ≡ []

never : (c : Bool) (x y : Step) → (if c then x else y) ≡ Done → (x ≡ Done → ⊥) → (y ≡ Done → ⊥) → ⊥
never true x y e f g = f e
never false x y e f g = g e

done-part : (m : Mode) (k d l b : ℕ) (t : Bool) → step (known m k t d l) b ≡ Done → (m ≡ LastEnd) × (b ≡ 10)
unfolding step at_line at_name at_value at_blank at_digits at_tail
done-part Line k d l b t e = absurd (never (b == 13) _ _ e (λ f. cc) (λ f. never (is_name b) _ _ f (λ g. cc) (λ g. cc)))
done-part Name k d l b t e = absurd (never (b == 58) _ _ e (λ f. never (k == 14) _ _ f (λ g. never t _ _ g (λ h. cc) (λ h. cc)) (λ g. cc)) (λ f. never (is_name b) _ _ f (λ g. cc) (λ g. cc)))
done-part Value k d l b t e = absurd (never (b == 13) _ _ e (λ f. cc) (λ f. never (is_value b) _ _ f (λ g. cc) (λ g. cc)))
done-part Blank k d l b t e = absurd (never (is_blank b) _ _ e (λ f. cc) (λ f. never (is_digit b) _ _ f (λ g. cc) (λ g. cc)))
done-part Digits k d l b t e = absurd (never (is_digit b) _ _ e (λ f. never (nat_lt d 18) _ _ f (λ g. cc) (λ g. cc)) (λ f. never (b == 32) _ _ f (λ g. cc) (λ g. never (b == 13) _ _ g (λ h. cc) (λ h. cc))))
done-part Tail k d l b t e = absurd (never (b == 32) _ _ e (λ f. cc) (λ f. never (b == 13) _ _ f (λ g. cc) (λ g. cc)))
done-part LineEnd k d l b t e = absurd (never (b == 10) _ _ e (λ f. cc) (λ f. cc))
done-part LastEnd k d l b t e = branch (b == 10) _ _ Done _ e (λ q f. (refl, eqb-true b 10 q)) (λ q f. absurd cc)

last-read : (m : Mode) (k d l line : ℕ) (t : Bool) (bytes : List ℕ) → m ≡ LastEnd → Read (known m k t d l) line bytes → Read (known LastEnd k t d l) line bytes
last-read m k d l line t bytes e r = let P : Mode → Type 0 = λ v. Read (known v k t d l) line bytes in subst P e r

pub read-done : (h : Head) (line b : ℕ) (bytes : List ℕ) → Read h line bytes → step h b ≡ Done → IsRead (bytes ++ (b ∷ [])) h
read-done h line b bytes r e =
    let p = done-part h.mode h.matched h.digits h.length b h.told e in
    let q = last-read h.mode h.matched h.digits h.length line h.told bytes p.0 r in
    let spelled : bytes ++ (b ∷ []) ≡ flat_map line_text q.lines ++ line_end =
    ap (λ v. v ++ (b ∷ [])) (q.spelled ∙ ap (λ v. flat_map line_text q.lines ++ v) q.says.0) ∙ append_assoc (flat_map line_text q.lines) (13 ∷ []) (b ∷ []) ∙ ap (λ v. flat_map line_text q.lines ++ (13 ∷ v ∷ [])) p.1 in
    record {
      lengths = lengths_of q.lines;
      lines = record { lines = q.lines; each = q.each; tell = refl; spelled = spelled };
      told = λ f. elim q.says.1 [ inl w ↦ w.1 | inr w ↦ absurd (let no : true ≡ false = sym f ∙ w.0 in cc) ];
      none = λ f. elim q.says.1 [ inl w ↦ absurd (let no : true ≡ false = sym w.0 ∙ f in cc) | inr w ↦ w.1 ];
    }

-- Where a header part is refused, in the words of its lines.
use Rattle.std.proofs.Common.{◌≡◌, ◌≢◌, ℕ, ◌+◌, ◌<◌, ◌≤◌, inl, inr, ap, sym, ◌∙◌, drop, take, arith, List, [], ◌∷◌, refl, Bool, true, false, ◌++◌, length, nat_le, nat_lt, ◌==◌, if◌then◌else◌, subst, append_assoc, append-nil, lit≤, lit<, All, Some}
use Rattle.std.proofs.lemmas.List.{length-append, length-map}
use Rattle.std.proofs.lemmas.List.Elements.{All-push}
use Rattle.std.proofs.lemmas.List.Folds.{list_all-append}
use Rattle.std.proofs.lemmas.List.Sums.{AllPass-from_list_all}
use Rattle.std.proofs.lemmas.Grind.{flat_map-append}
use Rattle.std.proofs.lemmas.Bool.{eqb-true}
use Rattle.std.proofs.Math.Seq.{take-append_seam, drop-append_seam, take-append-add}
use Rattle.std.specs.List.{flat_map}
use Rattle.std.specs.Char.{to_ascii_lowercase}
use Rattle.std.specs.Str.{str_to_ascii_lowercase}
use Rattle.std.specs.Str.Parse.{digits_value}
use Rattle.json_rpc.specs.Heads.{start, step, scan_from, is_name, is_value, is_blank, is_digit, length_name, at_line, at_name, at_value, at_blank, at_digits, at_tail}
use Rattle.json_rpc.specs.Spelled.{HeaderLine, length_line, other_line, line_text, line_end, IsHeaderLine, lengths_of, BeginsLines, GoesOn, SecondLength, IsUnfit, IsRefusedAt}
use Rattle.json_rpc.specs.Streams.{partial, whole, wrong, by_length, by_reading, next_of}
use Rattle.json_rpc.proofs.Lines.{known, onward, run, run-none, run-one, run-line, length-some, matched-is, matched-back, all-and, length-visible}
use Rattle.json_rpc.proofs.Parsed.{Read, Told, lengths-append, told-other}
use Rattle.json_rpc.proofs.Parts.{line-last}
use Rattle.json_rpc.proofs.Wholes.{AtBad, Ends, start-ends, run-nil}
use Rattle.json_rpc.specs.declared.fault.FrameFault.TheVariants.{Header, NoLength, TooLong}
use Rattle.json_rpc.specs.declared.header.Mode.{Mode}
use Rattle.json_rpc.specs.declared.header.Mode.TheVariants.{Line, Name, Value, Blank, Digits, Tail, LineEnd, LastEnd}
use Rattle.json_rpc.specs.declared.header.Head.{Head}
use Rattle.json_rpc.specs.declared.header.Step.{Step}
use Rattle.json_rpc.specs.declared.header.Step.TheVariants.{On, Done, Stop, Twice}
use Rattle.json_rpc.specs.declared.header.Reading.{Reading}
use Rattle.json_rpc.specs.declared.header.Reading.TheVariants.{More, Whole, Bad}

-- what has been read can go on
told-one : (t : Bool) (l : ℕ) (lines : List HeaderLine) → Told t l lines → length (lengths_of lines) ≤ 1
told-one t l lines w = elim w [ inl p ↦ omega (arith, ap length p.1) | inr p ↦ omega (arith, ap length p.1) ]

-- by the end of the line that it is in, and an empty line
by-line : (h : Head) (line : ℕ) (bytes m : List ℕ) (r : Read h line bytes) (l : HeaderLine) → IsHeaderLine l → r.part ++ m ≡ line_text l → length (lengths_of (r.lines ++ (l ∷ []))) ≤ 1 → GoesOn bytes
by-line h line bytes m r l is e one =
    let flat = flat_map line_text r.lines in
    let all : flat_map line_text (r.lines ++ (l ∷ [])) ≡ flat ++ line_text l = flat_map-append line_text r.lines (l ∷ []) ∙ ap (λ v. flat ++ v) (append-nil (line_text l)) in
    record {
      more = m ++ line_end;
      some = omega (arith, length-append m line_end);
      begins = record {
        lengths = lengths_of (r.lines ++ (l ∷ []));
        one = one;
        lines = record {
          lines = r.lines ++ (l ∷ []);
          each = All-push IsHeaderLine r.lines l r.each is;
          tell = refl;
          spelled =
              ap (λ v. v ++ (m ++ line_end)) r.spelled ∙ append_assoc flat r.part (m ++ line_end)
              ∙ ap (λ v. flat ++ v) (sym (append_assoc r.part m line_end) ∙ ap (λ v. v ++ line_end) e)
              ∙ sym (append_assoc flat (line_text l) line_end) ∙ ap (λ v. v ++ line_end) (sym all);
        };
      };
    }

-- by the rest of an empty line
by-end : (h : Head) (line : ℕ) (bytes m : List ℕ) (r : Read h line bytes) → 0 < length m → r.part ++ m ≡ line_end → length (lengths_of r.lines) ≤ 1 → GoesOn bytes
by-end h line bytes m r s e one = record {
  more = m;
  some = s;
  begins = record {
    lengths = lengths_of r.lines;
    one = one;
    lines = record {
      lines = r.lines;
      each = r.each;
      tell = refl;
      spelled = ap (λ v. v ++ m) r.spelled ∙ append_assoc (flat_map line_text r.lines) r.part m ∙ ap (λ v. flat_map line_text r.lines ++ v) e;
    };
  };
}

abbrev filler : List ℕ
filler = 120 ∷ 120 ∷ 120 ∷ 120 ∷ 120 ∷ 120 ∷ 120 ∷ 120 ∷ 120 ∷ 120 ∷ 120 ∷ 120 ∷ 120 ∷ 120 ∷ 120 ∷ []

one-more : (t : Bool) (l : ℕ) (xs : List HeaderLine) (name value : List ℕ) → Told t l xs → length (lengths_of (xs ++ (other_line name value ∷ []))) ≤ 1
one-more t l xs name value w = told-one t l (xs ++ (other_line name value ∷ [])) (told-other t l xs name value w)

one-length : (xs : List HeaderLine) (name blanks digits spaces : List ℕ) → lengths_of xs ≡ [] → length (lengths_of (xs ++ (length_line name blanks digits spaces ∷ []))) ≤ 1
one-length xs name blanks digits spaces e = omega (arith, ap length (lengths-append xs (length_line name blanks digits spaces ∷ [])), ap (λ t. length (t ++ (digits_value 10 digits ∷ []))) e)

goes-on : (m : Mode) (k d l line : ℕ) (t : Bool) (bytes : List ℕ) → Read (known m k t d l) line bytes → GoesOn bytes
goes-on Line k d l line t bytes r = by-end _ line bytes line_end r (lit< tt) (ap (λ v. v ++ line_end) r.says.0) (told-one t l r.lines r.says.1)
goes-on Name k d l line t bytes r =
    let name : List ℕ = r.part ++ filler in
    let long : 15 ≤ length name = omega (arith, length-append r.part filler) in
    let apart : str_to_ascii_lowercase name ≢ length_name = λ e. let n = ap length e in absurd (omega (arith, n, length-map name to_ascii_lowercase, long)) in
    by-line _ line bytes (filler ++ (58 ∷ line_end)) r (other_line name [])
    (record { some = omega (arith, long); visible = AllPass-from_list_all is_name name (list_all-append is_name r.part filler ∙ all-and _ _ r.says.visible refl); other = apart; printable = AllPass-from_list_all is_value [] refl })
    (sym (append_assoc r.part filler (58 ∷ line_end)))
    (one-more t l r.lines name [] r.says.told)
goes-on Value k d l line t bytes r =
    let s = r.says in
    by-line _ line bytes line_end r (other_line s.name s.value)
    (record { some = s.some; visible = AllPass-from_list_all is_name s.name s.visible; other = s.other; printable = AllPass-from_list_all is_value s.value s.printable })
    (ap (λ v. v ++ line_end) s.spelled ∙ append_assoc s.name (58 ∷ s.value) line_end)
    (one-more t l r.lines s.name s.value s.told)
goes-on Blank k d l line t bytes r =
    let s = r.says in
    by-line _ line bytes (48 ∷ line_end) r (length_line s.name s.blanks (48 ∷ []) [])
    (record { named = s.named; blank = AllPass-from_list_all is_blank s.blanks s.blank; digit = AllPass-from_list_all is_digit (48 ∷ []) refl; some = lit< tt; few = lit≤ tt; space = AllPass-from_list_all _ [] refl })
    (ap (λ v. v ++ (48 ∷ line_end)) s.spelled ∙ append_assoc s.name (58 ∷ s.blanks) (48 ∷ line_end))
    (one-length r.lines s.name s.blanks (48 ∷ []) [] s.none)
goes-on Digits k d l line t bytes r =
    let s = r.says in
    by-line _ line bytes line_end r (length_line s.name s.blanks s.digits [])
    (record { named = s.named; blank = AllPass-from_list_all is_blank s.blanks s.blank; digit = AllPass-from_list_all is_digit s.digits s.digit; some = s.some; few = s.few; space = AllPass-from_list_all _ [] refl })
    (ap (λ v. v ++ line_end) s.spelled ∙ simp append_assoc)
    (one-length r.lines s.name s.blanks s.digits [] s.none)
goes-on Tail k d l line t bytes r =
    let s = r.says in
    by-line _ line bytes line_end r (length_line s.name s.blanks s.digits s.spaces)
    (record { named = s.named; blank = AllPass-from_list_all is_blank s.blanks s.blank; digit = AllPass-from_list_all is_digit s.digits s.digit; some = s.some; few = s.few; space = AllPass-from_list_all (λ x. x == 32) s.spaces s.space })
    (ap (λ v. v ++ line_end) s.spelled ∙ simp append_assoc)
    (one-length r.lines s.name s.blanks s.digits s.spaces s.none)
goes-on LineEnd k d l line t bytes r = by-line _ line bytes (10 ∷ []) r r.says.line r.says.is r.says.spelled (told-one t l (r.lines ++ (r.says.line ∷ [])) r.says.told)
goes-on LastEnd k d l line t bytes r = by-end _ line bytes (10 ∷ []) r (lit< tt) (ap (λ v. v ++ (10 ∷ [])) r.says.0) (told-one t l r.lines r.says.1)

pub read-goes : (h : Head) (line : ℕ) (bytes : List ℕ) → Read h line bytes → GoesOn bytes
read-goes h line bytes r = goes-on h.mode h.matched h.digits h.length line h.told bytes r

-- whether the bytes lead to the end of a header part
abbrev finish : Step → (Head → Bool) → Bool
finish (On g) f = f g
finish Done f = true
finish Stop f = false
finish Twice f = false

unfoldable ends : Head → List ℕ → Bool
ends h [] = false
ends h (b ∷ bs) = finish (step h b) (λ g. ends g bs)

ends-step : (s : Step) (xs ys : List ℕ) (k : Head) → onward s (λ g. run g xs) ≡ Some k → ((g : Head) → run g xs ≡ Some k → ends g (xs ++ ys) ≡ ends k ys) → finish s (λ g. ends g (xs ++ ys)) ≡ ends k ys
ends-step (On g) xs ys k e f = f g e
ends-step Done xs ys k e f = absurd cc
ends-step Stop xs ys k e f = absurd cc
ends-step Twice xs ys k e f = absurd cc

ends-run : (xs ys : List ℕ) (h k : Head) → run h xs ≡ Some k → ends h (xs ++ ys) ≡ ends k ys
unfolding run ends
ends-run [] ys h k e = let same : h ≡ k = cc in ap (λ g. ends g ys) same
ends-run (b ∷ xs) ys h k e = ends-step (step h b) xs ys k e (λ g f. ends-run xs ys g k f)

ends-last : (d l : ℕ) (t : Bool) → ends (known LastEnd 0 t d l) (10 ∷ []) ≡ true
unfolding ends step
ends-last d l t = refl

ends-stop : (h : Head) (b : ℕ) (bs : List ℕ) → step h b ≡ Stop → ends h (b ∷ bs) ≡ false
unfolding ends
ends-stop h b bs e = ap (λ s. finish s (λ g. ends g bs)) e

-- such lines lead there
ends-one : (lines : List HeaderLine) (lengths : List ℕ) → All IsHeaderLine lines → lengths_of lines ≡ lengths → length lengths ≤ 1 → ends start ((flat_map line_text lines ++ (13 ∷ [])) ++ (10 ∷ [])) ≡ true
ends-one lines [] a e l =
    let ran = run-none lines (13 ∷ []) 0 0 false a e ∙ line-last 0 0 0 false in
    ends-run (flat_map line_text lines ++ (13 ∷ [])) (10 ∷ []) start _ ran ∙ ends-last 0 0 false
ends-one lines (n ∷ []) a e l =
    let one = run-one lines (13 ∷ []) n 0 a e in
    ends-run (flat_map line_text lines ++ (13 ∷ [])) (10 ∷ []) start _ (one.1 ∙ line-last 0 (one.0) n true) ∙ ends-last (one.0) n true
ends-one lines (n ∷ m ∷ more) a e l = absurd (omega (arith, l))

no-lines : (prefix more : List ℕ) (b : ℕ) (h : Head) → run start prefix ≡ Some h → step h b ≡ Stop → BeginsLines (prefix ++ (b ∷ [])) more → ⊥
no-lines prefix more b h ran e g =
    let lines = g.lines.lines in
    let all : (prefix ++ (b ∷ [])) ++ more ≡ (flat_map line_text lines ++ (13 ∷ [])) ++ (10 ∷ []) = g.lines.spelled ∙ sym (append_assoc (flat_map line_text lines) (13 ∷ []) (10 ∷ [])) in
    let yes : ends start ((prefix ++ (b ∷ [])) ++ more) ≡ true = ap (ends start) all ∙ ends-one lines g.lengths g.lines.each g.lines.tell g.one in
    let no : ends start ((prefix ++ (b ∷ [])) ++ more) ≡ false = ap (ends start) (append_assoc prefix (b ∷ []) more) ∙ ends-run prefix (b ∷ more) start h ran ∙ ends-stop h b more e in
    let clash : true ≡ false = sym yes ∙ no in
    cc

-- the state before the colon of a second length
second-run : (lines : List HeaderLine) (name : List ℕ) (n : ℕ) → All IsHeaderLine lines → lengths_of lines ≡ n ∷ [] → str_to_ascii_lowercase name ≡ length_name → (e : ℕ) × (run start (flat_map line_text lines ++ name) ≡ Some (known Name 14 true e n))
second-run lines name n a e q =
    let one = run-one lines name n 0 a e in
    let some : 0 < length name = omega (arith, length-some name q) in
    let split : name ≡ name ++ [] = sym (append-nil name) in
    (one.0, one.1 ∙ ap (run (known Line 0 true (one.0) n)) split ∙ run-line 0 (one.0) n true name [] some (length-visible name q) ∙ ap (λ k. run (known Name k true (one.0) n) []) (matched-is name 0 (lit≤ tt) q) ∙ run-nil (known Name 14 true (one.0) n))

pub colon-twice : (d l : ℕ) → step (known Name 14 true d l) 58 ≡ Twice
unfolding step at_name
colon-twice d l = refl

no-second : (prefix : List ℕ) (b line : ℕ) (h : Head) → run start prefix ≡ Some h → step h b ≡ Stop → SecondLength (prefix ++ (b ∷ [])) line (length prefix) → ⊥
no-second prefix b line h ran e s =
    let flat = flat_map line_text s.lines in
    let begin : List ℕ = flat ++ s.name in
    let all : prefix ++ (b ∷ []) ≡ begin ++ (58 ∷ s.rest) = s.spelled ∙ sym (append_assoc flat s.name (58 ∷ s.rest)) in
    let long : length prefix ≡ length begin = s.colon_place ∙ ap (λ v. v + length s.name) s.place ∙ sym (length-append flat s.name) in
    let same : prefix ≡ begin = sym (take-append_seam prefix (b ∷ [])) ∙ ap (λ v. take (length prefix) v) all ∙ ap (λ v. take v (begin ++ (58 ∷ s.rest))) long ∙ take-append_seam begin (58 ∷ s.rest) in
    let tail : b ∷ [] ≡ 58 ∷ s.rest = sym (drop-append_seam prefix (b ∷ [])) ∙ ap (λ v. drop (length prefix) v) all ∙ ap (λ v. drop v (begin ++ (58 ∷ s.rest))) long ∙ drop-append_seam begin (58 ∷ s.rest) in
    let byte : b ≡ 58 = cc in
    let r = second-run s.lines s.name s.first s.each s.told s.named in
    let is : h ≡ known Name 14 true (r.0) s.first = let q : Some h ≡ Some (known Name 14 true (r.0) s.first) = sym ran ∙ ap (run start) same ∙ r.1 in cc in
    let twice : step h b ≡ Twice = ap (λ v. step v b) is ∙ ap (step (known Name 14 true (r.0) s.first)) byte ∙ colon-twice (r.0) s.first in
    let clash : Stop ≡ Twice = sym e ∙ twice in
    cc

-- what a second length is met at
never-twice : (c : Bool) (x y : Step) (P : Type 0) → (if c then x else y) ≡ Twice → (c ≡ true → x ≡ Twice → P) → (c ≡ false → y ≡ Twice → P) → P
never-twice true x y P e f g = f refl e
never-twice false x y P e f g = g refl e

twice-part : (m : Mode) (k d l b : ℕ) (t : Bool) → step (known m k t d l) b ≡ Twice → (m ≡ Name) × (b ≡ 58) × (k ≡ 14) × (t ≡ true)
unfolding step at_line at_name at_value at_blank at_digits at_tail
twice-part Line k d l b t e = never-twice (b == 13) _ _ _ e (λ q f. absurd cc) (λ q f. never-twice (is_name b) _ _ _ f (λ w g. absurd cc) (λ w g. absurd cc))
twice-part Name k d l b t e =
    never-twice (b == 58) _ _ _ e
    (λ q f. never-twice (k == 14) _ _ _ f (λ w g. never-twice t _ _ _ g (λ u h. (refl, eqb-true b 58 q, eqb-true k 14 w, u)) (λ u h. absurd cc)) (λ w g. absurd cc))
    (λ q f. never-twice (is_name b) _ _ _ f (λ w g. absurd cc) (λ w g. absurd cc))
twice-part Value k d l b t e = never-twice (b == 13) _ _ _ e (λ q f. absurd cc) (λ q f. never-twice (is_value b) _ _ _ f (λ w g. absurd cc) (λ w g. absurd cc))
twice-part Blank k d l b t e = never-twice (is_blank b) _ _ _ e (λ q f. absurd cc) (λ q f. never-twice (is_digit b) _ _ _ f (λ w g. absurd cc) (λ w g. absurd cc))
twice-part Digits k d l b t e =
    never-twice (is_digit b) _ _ _ e
    (λ q f. never-twice (nat_lt d 18) _ _ _ f (λ w g. absurd cc) (λ w g. absurd cc))
    (λ q f. never-twice (b == 32) _ _ _ f (λ w g. absurd cc) (λ w g. never-twice (b == 13) _ _ _ g (λ u h. absurd cc) (λ u h. absurd cc)))
twice-part Tail k d l b t e = never-twice (b == 32) _ _ _ e (λ q f. absurd cc) (λ q f. never-twice (b == 13) _ _ _ f (λ w g. absurd cc) (λ w g. absurd cc))
twice-part LineEnd k d l b t e = never-twice (b == 10) _ _ _ e (λ q f. absurd cc) (λ q f. absurd cc)
twice-part LastEnd k d l b t e = never-twice (b == 10) _ _ _ e (λ q f. absurd cc) (λ q f. absurd cc)

in-name : (m : Mode) (k d l line : ℕ) (t : Bool) (bytes : List ℕ) → m ≡ Name → Read (known m k t d l) line bytes → Read (known Name k t d l) line bytes
in-name m k d l line t bytes e r = let P : Mode → Type 0 = λ v. Read (known v k t d l) line bytes in subst P e r

pub second-met : (h : Head) (line b : ℕ) (prefix rest : List ℕ) → Read h line prefix → step h b ≡ Twice → SecondLength (prefix ++ (b ∷ rest)) line (length prefix)
second-met h line b prefix rest r e =
    let p = twice-part h.mode h.matched h.digits h.length b h.told e in
    let q = in-name h.mode h.matched h.digits h.length line h.told prefix p.0 r in
    let flat = flat_map line_text q.lines in
    record {
      lines = q.lines;
      name = q.part;
      rest = rest;
      each = q.each;
      first = h.length;
      told = elim q.says.told [ inl w ↦ w.1 | inr w ↦ absurd (let no : true ≡ false = sym p.3 ∙ w.0 in cc) ];
      named = matched-back q.part 0 (lit≤ tt) (q.says.matched ∙ p.2);
      place = q.at;
      colon_place = omega (arith, q.at, ap length q.spelled, length-append flat q.part);
      spelled = ap (λ v. v ++ (b ∷ rest)) q.spelled ∙ append_assoc flat q.part (b ∷ rest) ∙ ap (λ v. flat ++ (q.part ++ (v ∷ rest))) p.1;
    }

-- why a reading was refused
pub bad-place : (bytes : List ℕ) (k : ℕ) → AtBad [] bytes 0 k → IsRefusedAt bytes k
bad-place bytes k e =
    let at : length e.prefix ≡ e.at = omega (arith, e.place) in
    let prefix_is : take e.at bytes ≡ e.prefix = ap (take e.at) e.spelled ∙ ap (λ v. take v (e.prefix ++ (e.byte ∷ e.rest))) (sym at) ∙ take-append_seam e.prefix (e.byte ∷ e.rest) in
    let next_is : take (e.at + 1) bytes ≡ e.prefix ++ (e.byte ∷ []) = ap (take (e.at + 1)) e.spelled ∙ ap (λ v. take (v + 1) (e.prefix ++ (e.byte ∷ e.rest))) (sym at) ∙ take-append-add e.prefix (e.byte ∷ e.rest) 1 in
    let within : e.at < length bytes = omega (arith, at, ap length e.spelled, length-append e.prefix (e.byte ∷ e.rest)) in
    let P : List ℕ → Type 0 = λ v. GoesOn v in
    let before : GoesOn (take e.at bytes) = subst P (sym prefix_is) (read-goes e.head e.line e.prefix e.read.read) in
    elim e.why [
      | inl w ↦ let top : e.at ≡ 8192 = omega (arith, w.1, e.fits) in
          inl (w.0 ∙ top, omega (arith, top, within), subst (λ v. GoesOn (take v bytes)) top before)
      | inr v ↦ elim v [
        | inl w ↦ inr (inl (subst (λ x. IsUnfit bytes x) (sym w.0) (record {
          short = w.1;
          within = within;
          before = before;
          none = λ more g. no-lines e.prefix more e.byte e.head e.read.ran w.2 (subst (λ x. BeginsLines x more) next_is g);
          no_second = λ line s.
              let moved : SecondLength (e.prefix ++ (e.byte ∷ [])) line e.at = subst (λ x. SecondLength x line e.at) next_is s in
              no-second e.prefix e.byte line e.head e.read.ran w.2 (subst (λ x. SecondLength (e.prefix ++ (e.byte ∷ [])) line x) (sym at) moved);
        })))
        | inr w ↦
            let met : SecondLength bytes e.line (length e.prefix) = subst (λ x. SecondLength x e.line (length e.prefix)) (sym e.spelled) (second-met e.head e.line e.byte e.prefix e.rest e.read.read w.2) in
            inr (inr (length e.prefix, omega (arith, at, w.1), subst (λ x. SecondLength bytes x (length e.prefix)) (sym w.0) met))
      ]
    ]

no-header : (a b c : Bool) (x y : List ℕ) (n m k : ℕ) → (if a then (if b then (if c then whole x y else partial) else wrong (TooLong n)) else wrong (NoLength m)) ≡ wrong (Header k) → ⊥
no-header true true true x y n m k e = cc
no-header true true false x y n m k e = cc
no-header true false c x y n m k e = cc
no-header false b c x y n m k e = cc

reading-refused : (at : ℕ) (bytes : List ℕ) (r : Reading) (k : ℕ) → Ends [] bytes 0 r → by_reading at bytes r ≡ wrong (Header k) → (place : ℕ) × (k ≡ at + place) × IsRefusedAt bytes place
unfolding by_reading by_length
reading-refused at bytes More k e q = absurd cc
reading-refused at bytes (Whole n h) k e q = absurd (no-header h.told (nat_le h.length 16777216) (nat_le (n + h.length) (length bytes)) _ _ _ _ k q)
reading-refused at bytes (Bad n) k e q = let same : k ≡ at + n = cc in (n, same, bad-place bytes n e)

pub next-refused : (at : ℕ) (bytes : List ℕ) (k : ℕ) → next_of at bytes ≡ wrong (Header k) → (place : ℕ) × (k ≡ at + place) × IsRefusedAt bytes place
next-refused at bytes k q = reading-refused at bytes (scan_from 0 0 start bytes) k (start-ends bytes) q

-- What begins where a line ends, in bytes and in characters.
use Rattle.std.proofs.Common.{◌≡◌, ◌∙◌, sym, ap, subst, ℕ, zero, suc, ◌+◌, ◌≤◌, ◌<◌, List, [], ◌∷◌, ◌++◌, length, drop, take, get_or, refl, arith, Bool, true, false, if◌then◌else◌, ◌==◌, ◌&&◌, Option, Some, None, IsUtf8, All, append-nil}
use Rattle.std.proofs.lemmas.List.{take-append-drop, length-take-le, length-append, drop-drop, get_or-take, get_or-drop, get_or-append-add}
use Rattle.std.proofs.lemmas.List.Elements.{All-from_get_or, All-get_or, All-weaker}
use Rattle.std.proofs.lemmas.Str.{len_utf8_bounds, length-encode, encode_ascii, inside_one, encodes-chars, scalars-chars, chars-encodes, IsCharBoundary-from_drop, IsCharBoundary-start}
use Rattle.std.proofs.Math.Seq.{drop-cons, drop-append_seam}
use Rattle.std.specs.Str.{chars, IsCharBoundary}
use Rattle.documents.specs.Places.{is_newline, starts_with_lf, ends_line, from_line, ends_in, line_starts, EndsNever, EndsAfter, IsRising}
use Rattle.documents.proofs.Laws.{line-end, line-go, line-zero}
use Rattle.documents.proofs.LineStarts.{either, same_list}
use Rattle.documents.proofs.Ends.{same_end, ends-above, ends-below, ends-plain, ends-first, ends-later}
use Rattle.memchr.specs.Find.{NoneBefore, Passes, is_byte2}
use lib.Utf8.{scalars, encodes, encode}

newline-small : (b : ℕ) → is_newline b ≡ true → b < 128
unfolding is_newline
newline-small b e = grind arith

ends-newline : (c : ℕ) (cs : List ℕ) → ends_line c cs ≡ true → is_newline c ≡ true
unfolding is_newline ends_line
ends-newline c cs e = grind arith

newline-one : (c : ℕ) → is_newline c ≡ true → encode c ≡ c ∷ []
newline-one c e = encode_ascii c (newline-small c e)

plain_byte : (c k : ℕ) (n : Bool) → is_newline (get_or (encode c) k 0) ≡ n → is_newline c ≡ false → k < length (encode c) → n ≡ false
plain_byte c k false f e lt = refl
plain_byte c k true f e lt = sym (ap (λ x. is_newline x) (inside_one c [] (encode c) k (sym (append-nil (encode c))) lt (newline-small (get_or (encode c) k 0) f)) ∙ f) ∙ e

encode-plain : (c : ℕ) → is_newline c ≡ false → All (λ b. is_newline b ≡ false) (encode c)
encode-plain c e = All-from_get_or (λ b. is_newline b ≡ false) (encode c) 0 (λ k lt. plain_byte c k (is_newline (get_or (encode c) k 0)) refl e lt)

pub lf-get : (xs : List ℕ) → starts_with_lf xs ≡ (get_or xs 0 0 == 10)
lf-get [] = refl
lf-get (x ∷ xs) = refl

lf-prefix : (xs ys : List ℕ) → 0 < length xs → starts_with_lf (xs ++ ys) ≡ (get_or xs 0 0 == 10)
lf-prefix [] ys h = absurd (omega arith)
lf-prefix (x ∷ xs) ys h = refl

is_ten : (x : ℕ) → (x == 10) ≡ true → x ≡ 10
is_ten x e = grind (arith, e)

no_ten : (c : ℕ) (b : Bool) → (get_or (encode c) 0 0 == 10) ≡ b → (c == 10) ≡ false → b ≡ false
no_ten c false f e = refl
no_ten c true f e =
    let ten : get_or (encode c) 0 0 ≡ 10 = is_ten (get_or (encode c) 0 0) f in
    let same : c ≡ 10 = inside_one c [] (encode c) 0 (sym (append-nil (encode c))) (omega (arith, length-encode c, (len_utf8_bounds c).0)) (omega (arith, ten)) ∙ ten in
    ap (λ x. x == 10) (sym same) ∙ e

lf-encode : (c : ℕ) (ys : List ℕ) (b : Bool) → (c == 10) ≡ b → starts_with_lf (encode c ++ ys) ≡ b
lf-encode c ys true e = let small : c < 128 = omega (arith, is_ten c e) in ap (λ x. starts_with_lf (x ++ ys)) (encode_ascii c small) ∙ e
lf-encode c ys false e = lf-prefix (encode c) ys (omega (arith, length-encode c, (len_utf8_bounds c).0)) ∙ no_ten c (get_or (encode c) 0 0 == 10) refl e

lf-encodes : (cs : List ℕ) → starts_with_lf (encodes cs) ≡ starts_with_lf cs
lf-encodes [] = refl
lf-encodes (c ∷ cs) = lf-encode c (encodes cs) (c == 10) refl

end-encodes : (c : ℕ) (cs : List ℕ) → ends_line c (encodes cs ++ []) ≡ ends_line c cs
end-encodes c cs = same_end c (encodes cs ++ []) cs (ap (λ x. starts_with_lf x) (append-nil (encodes cs)) ∙ lf-encodes cs)

-- The line ends behind a character.
ends-char : (c at : ℕ) (cs : List ℕ) (n : Bool) → is_newline c ≡ n → ends_line c cs ≡ false → ends_in at (encode c ++ encodes cs) [] ≡ ends_in (at + length (encode c)) (encodes cs) []
ends-char c at cs false n e = ends-plain at (encode c) (encodes cs) [] (encode-plain c n)
ends-char c at cs true n e =
    let one : encode c ≡ c ∷ [] = newline-one c n in
    ap (λ x. ends_in at (x ++ encodes cs) []) one ∙ ends-later at c (encodes cs) [] (end-encodes c cs ∙ e) ∙ ap (λ x. ends_in (at + length x) (encodes cs) []) (sym one)

ends-newline_char : (c at : ℕ) (cs : List ℕ) → ends_line c cs ≡ true → ends_in at (encode c ++ encodes cs) [] ≡ (at + length (encode c)) ∷ ends_in (at + length (encode c)) (encodes cs) []
ends-newline_char c at cs e =
    let one : encode c ≡ c ∷ [] = newline-one c (ends-newline c cs e) in
    ap (λ x. ends_in at (x ++ encodes cs) []) one ∙ ends-first at c (encodes cs) [] (end-encodes c cs ∙ e) ∙ ap (λ x. (at + length x) ∷ ends_in (at + length x) (encodes cs) []) (sym one)

-- Where the line after so many line ends begins.
record BeginsAt (l at : ℕ) (cs r : List ℕ) : Type 0 where
  few : l < length (ends_in at (encodes cs) [])
  past : ℕ
  at_is : get_or (ends_in at (encodes cs) []) l 0 ≡ at + past
  drops : drop past (encodes cs) ≡ encodes r

Begins : ℕ → ℕ → List ℕ → Option (List ℕ) → Type 0
Begins l at cs None = length (ends_in at (encodes cs) []) ≤ l
Begins l at cs (Some r) = BeginsAt l at cs r

carry : (c k m at : ℕ) (cs pre : List ℕ) → m ≡ length pre + k → ends_in at (encode c ++ encodes cs) [] ≡ pre ++ ends_in (at + length (encode c)) (encodes cs) [] → (o : Option (List ℕ)) → Begins k (at + length (encode c)) cs o → Begins m at (c ∷ cs) o
unfolding Begins
carry c k m at cs pre e f None h = omega (arith, e, h, ap length f, length-append pre (ends_in (at + length (encode c)) (encodes cs) []))
carry c k m at cs pre e f (Some r) h =
    let later : List ℕ = ends_in (at + length (encode c)) (encodes cs) [] in
    record {
      few = omega (arith, e, h.few, ap length f, length-append pre (ends_in (at + length (encode c)) (encodes cs) []));
      past = length (encode c) + h.past;
      at_is = ap (λ x. get_or x m 0) f ∙ ap (λ i. get_or (pre ++ later) i 0) e ∙ get_or-append-add pre later k 0 ∙ h.at_is ∙ omega arith;
      drops = sym (drop-drop h.past (length (encode c)) (encode c ++ encodes cs)) ∙ ap (drop h.past) (drop-append_seam (encode c) (encodes cs)) ∙ h.drops;
    }

begins-here : (c at : ℕ) (cs : List ℕ) → ends_in at (encode c ++ encodes cs) [] ≡ (at + length (encode c)) ∷ ends_in (at + length (encode c)) (encodes cs) [] → BeginsAt zero at (c ∷ cs) cs
begins-here c at cs f = record {
  few = omega (arith, ap length f);
  past = length (encode c);
  at_is = ap (λ x. get_or x 0 0) f;
  drops = drop-append_seam (encode c) (encodes cs);
}

begins-step : (c l at : ℕ) (cs : List ℕ) (b : Bool) → ends_line c cs ≡ b → ((k a : ℕ) → Begins k a cs (from_line (suc k) cs)) → Begins l at (c ∷ cs) (from_line (suc l) (c ∷ cs))
unfolding Begins
begins-step c zero at cs true e h =
    let P : Option (List ℕ) → Type 0 = λ o. Begins zero at (c ∷ cs) o in
    subst P (sym (line-end c zero cs e ∙ line-zero cs)) (begins-here c at cs (ends-newline_char c at cs e))
begins-step c (suc k) at cs true e h =
    let P : Option (List ℕ) → Type 0 = λ o. Begins (suc k) at (c ∷ cs) o in
    let m : suc k ≡ length ((at + length (encode c)) ∷ []) + k = omega arith in
    subst P (sym (line-end c (suc k) cs e)) (carry c k (suc k) at cs ((at + length (encode c)) ∷ []) m (ends-newline_char c at cs e) (from_line (suc k) cs) (h k (at + length (encode c))))
begins-step c l at cs false e h =
    let P : Option (List ℕ) → Type 0 = λ o. Begins l at (c ∷ cs) o in
    let m : l ≡ length {A = ℕ} [] + l = omega arith in
    subst P (sym (line-go c l cs e)) (carry c l l at cs [] m (ends-char c at cs (is_newline c) refl e) (from_line (suc l) cs) (h l (at + length (encode c))))

begins : (cs : List ℕ) (l at : ℕ) → Begins l at cs (from_line (suc l) cs)
unfolding Begins from_line ends_in
begins [] l at = omega arith
begins (c ∷ cs) l at = begins-step c l at cs (ends_line c cs) refl (λ k a. begins cs k a)

and-both : (a b : Bool) → (a && b) ≡ true → b ≡ true
and-both true b e = e
and-both false b e = absurd cc

from_line-scalars : (l : ℕ) (cs r : List ℕ) → from_line l cs ≡ Some r → scalars cs ≡ true → scalars r ≡ true
unfolding from_line
from_line-scalars zero cs r e u = ap scalars (sym (same_list cs r e)) ∙ u
from_line-scalars (suc l) [] r e u = absurd cc
from_line-scalars (suc l) (c ∷ cs) r e u =
    either (ends_line c cs) (from_line l cs) (from_line (suc l) cs) (Some r) (scalars r ≡ true) e
    (λ d. from_line-scalars l cs r d (and-both _ _ u)) (λ d. from_line-scalars (suc l) cs r d (and-both _ _ u))

some_begins : (cs : List ℕ) (l at : ℕ) (o : Option (List ℕ)) (P : Type 0) → Begins l at cs o → l < length (ends_in at (encodes cs) []) → ((r : List ℕ) → Some r ≡ o → BeginsAt l at cs r → P) → P
unfolding Begins
some_begins cs l at None P h lt k = absurd (omega (arith, h, lt))
some_begins cs l at (Some r) P h lt k = k r refl h

none_begins : (cs : List ℕ) (l at : ℕ) (o : Option (List ℕ)) → Begins l at cs o → length (ends_in at (encodes cs) []) ≤ l → o ≡ None
unfolding Begins
none_begins cs l at None h le = refl
none_begins cs l at (Some r) h le = absurd (omega (arith, h.few, le))

-- The text has no such line.
pub line-none : (text : List ℕ) (l : ℕ) → IsUtf8 text → length (line_starts text) ≤ l → from_line l (chars text) ≡ None
line-none text zero u le = absurd (omega arith)
line-none text (suc l) u le =
    let same : encodes (chars text) ≡ text = encodes-chars text u in
    none_begins (chars text) l 0 (from_line (suc l) (chars text)) (begins (chars text) l 0) (omega (arith, le, ap (λ x. length (ends_in 0 x [])) same))

-- A line begins at a place of the text.
pub record LineAt (text : List ℕ) (l at : ℕ) : Type 0 where
  pub boundary : IsCharBoundary text at
  pub is : from_line l (chars text) ≡ Some (chars (drop at text))

placed_line : (text r : List ℕ) (l at past : ℕ) → scalars r ≡ true → drop past text ≡ encodes r → past ≤ length text → from_line l (chars text) ≡ Some r → at ≡ past → LineAt text l at
placed_line text r l at past u d le e f =
    let P : ℕ → Type 0 = λ x. LineAt text l x in
    subst P (sym f) (record {
      boundary = IsCharBoundary-from_drop text past le (r, (u, sym d));
      is = e ∙ ap Some (sym (ap chars d ∙ chars-encodes r u));
    })

pub line-some : (text : List ℕ) (l : ℕ) → IsUtf8 text → l < length (line_starts text) → LineAt text l (get_or (line_starts text) l 0)
line-some text zero u lt = record { boundary = IsCharBoundary-start text u; is = line-zero (chars text) }
line-some text (suc l) u lt =
    let same : encodes (chars text) ≡ text = encodes-chars text u in
    let few : l < length (ends_in 0 (encodes (chars text)) []) = omega (arith, lt, ap (λ x. length (ends_in 0 x [])) same) in
    let at : ℕ = get_or (ends_in 0 text []) l 0 in
    some_begins (chars text) l 0 (from_line (suc l) (chars text)) (LineAt text (suc l) at) (begins (chars text) l 0) few
    (λ r e h.
    let here : at ≡ h.past = ap (λ x. get_or (ends_in 0 x []) l 0) (sym same) ∙ h.at_is ∙ omega arith in
    let le : at ≤ 0 + length text = All-get_or (λ a. a ≤ 0 + length text) (ends_in 0 text []) l 0 (omega (arith, few, ap (λ x. length (ends_in 0 x [])) same)) (ends-below 0 text []) in
    placed_line text r (suc l) at h.past (from_line-scalars (suc l) (chars text) r (sym e) (scalars-chars text u)) (ap (drop h.past) (sym same) ∙ h.drops) (omega (arith, here, le)) (sym e) here)

-- The starts rise.
rising-cons : (h : ℕ) (t : List ℕ) → All (λ a. h ≤ a) t → IsRising t → IsRising (h ∷ t)
rising-cons h t p q zero zero l lt = omega arith
rising-cons h t p q zero (suc j) l lt = All-get_or (λ a. h ≤ a) t j 0 (omega arith) p
rising-cons h t p q (suc i) zero l lt = absurd (omega arith)
rising-cons h t p q (suc i) (suc j) l lt = q i j (omega arith) (omega arith)

rising_if : (b : Bool) (h : ℕ) (t : List ℕ) → All (λ a. h ≤ a) t → IsRising t → IsRising (if b then h ∷ t else t)
rising_if true h t p q = rising-cons h t p q
rising_if false h t p q = q

rising-ends : (at : ℕ) (x r : List ℕ) → IsRising (ends_in at x r)
unfolding ends_in
rising-ends at [] r = λ i j l lt. absurd (omega arith)
rising-ends at (c ∷ x) r = rising_if (ends_line c (x ++ r)) (at + 1) (ends_in (at + 1) x r) (All-weaker (λ a. at + 1 < a) (λ a. at + 1 ≤ a) (λ a h. omega arith) (ends_in (at + 1) x r) (ends-above (at + 1) x r)) (rising-ends (at + 1) x r)

pub rising-starts : (text : List ℕ) → IsRising (line_starts text)
rising-starts text = rising-cons 0 (ends_in 0 text []) (All-weaker (λ a. 0 < a) (λ a. 0 ≤ a) (λ a h. omega arith) (ends_in 0 text []) (ends-above 0 text [])) (rising-ends 0 text [])

-- What a search for CR or LF says of the first line.
not_true : (b : Bool) → (b ≡ true → ⊥) → b ≡ false
not_true true h = absurd (h refl)
not_true false h = refl

ends-nil : (at : ℕ) (r : List ℕ) → ends_in at [] r ≡ []
unfolding ends_in
ends-nil at r = refl

pub ends-never : (text : List ℕ) → ((k : ℕ) → k < length text → is_newline (get_or text k 0) ≡ true → ⊥) → EndsNever text
ends-never text h at =
    let plain : All (λ b. is_newline b ≡ false) text = All-from_get_or (λ b. is_newline b ≡ false) text 0 (λ k lt. not_true (is_newline (get_or text k 0)) (h k lt)) in
    ap (λ x. ends_in at x []) (sym (append-nil text)) ∙ ends-plain at text [] [] plain ∙ ends-nil (at + length text) []

ends-to : (text : List ℕ) (k at : ℕ) → k < length text → ((i : ℕ) → i < k → is_newline (get_or text i 0) ≡ true → ⊥) → ends_in at text [] ≡ ends_in (at + k) (get_or text k 0 ∷ drop (suc k) text) []
ends-to text k at lt h =
    let long : length (take k text) ≡ k = length-take-le k text (omega (arith, lt)) in
    let plain : All (λ b. is_newline b ≡ false) (take k text) =
    All-from_get_or (λ b. is_newline b ≡ false) (take k text) 0 (λ i less. not_true (is_newline (get_or (take k text) i 0)) (λ e. h i (omega (arith, less, long)) (ap (λ x. is_newline x) (sym (get_or-take k text i 0 (omega (arith, less, long)))) ∙ e))) in
    ap (λ x. ends_in at x []) (sym (take-append-drop k text)) ∙ ends-plain at (take k text) (drop k text) [] plain ∙ ap (λ n. ends_in (at + n) (drop k text) []) long ∙ ap (λ x. ends_in (at + k) x []) (drop-cons text k 0 lt)

pub ends-one : (text : List ℕ) (k : ℕ) → k < length text → ((i : ℕ) → i < k → is_newline (get_or text i 0) ≡ true → ⊥) → ends_line (get_or text k 0) (drop (k + 1) text) ≡ true → EndsAfter text (k + 1)
ends-one text k lt h e =
    let next : suc k ≡ k + 1 = omega arith in
    let ends : ends_line (get_or text k 0) (drop (suc k) text ++ []) ≡ true = ap (ends_line (get_or text k 0)) (append-nil (drop (suc k) text) ∙ ap (λ n. drop n text) next) ∙ e in
    record {
      some = omega arith;
      le = omega (arith, lt);
      is = λ at. ends-to text k at lt h ∙ ends-first (at + k) (get_or text k 0) (drop (suc k) text) [] ends ∙ ap (λ n. n ∷ ends_in n (drop (suc k) text) []) (omega arith) ∙ ap (λ n. (at + (k + 1)) ∷ ends_in (at + (k + 1)) (drop n text) []) next;
    }

no_byte : false ≡ true → ⊥
no_byte e = cc

cr-lf : (c : ℕ) (cs : List ℕ) → c ≡ 13 → starts_with_lf cs ≡ true → ends_line c cs ≡ false
unfolding ends_line
cr-lf c cs e f = rw (e, f) refl

lf-ends : (c : ℕ) (cs : List ℕ) → (c == 10) ≡ true → ends_line c cs ≡ true
unfolding ends_line
lf-ends c cs e = rw e refl

long_enough : (text : List ℕ) (k : ℕ) → (get_or text k 0 == 10) ≡ true → k < length text
long_enough [] k e = absurd (no_byte e)
long_enough (x ∷ xs) zero e = omega arith
long_enough (x ∷ xs) (suc k) e = omega (arith, long_enough xs k e)

pub ends-two : (text : List ℕ) (k : ℕ) → k < length text → ((i : ℕ) → i < k → is_newline (get_or text i 0) ≡ true → ⊥) → get_or text k 0 ≡ 13 → starts_with_lf (drop (k + 1) text) ≡ true → EndsAfter text (k + 2)
ends-two text k lt h c f =
    let next : suc k ≡ k + 1 = omega arith in
    let last : suc (suc k) ≡ k + 2 = omega arith in
    let lf : starts_with_lf (drop (suc k) text) ≡ true = ap (λ n. starts_with_lf (drop n text)) next ∙ f in
    let same : get_or (drop (suc k) text) 0 0 ≡ get_or text (suc k) 0 = get_or-drop (suc k) text 0 0 ∙ ap (λ n. get_or text n 0) (omega arith) in
    let ten : (get_or text (suc k) 0 == 10) ≡ true = ap (λ x. x == 10) (sym same) ∙ sym (lf-get (drop (suc k) text)) ∙ lf in
    let more : suc k < length text = long_enough text (suc k) ten in
    let not_yet : ends_line (get_or text k 0) (drop (suc k) text ++ []) ≡ false = cr-lf (get_or text k 0) (drop (suc k) text ++ []) c (ap (λ x. starts_with_lf x) (append-nil (drop (suc k) text)) ∙ lf) in
    record {
      some = omega arith;
      le = omega (arith, more);
      is = λ at. ends-to text k at lt h ∙ ends-later (at + k) (get_or text k 0) (drop (suc k) text) [] not_yet
          ∙ ap (λ x. ends_in (at + k + 1) x []) (drop-cons text (suc k) 0 more)
          ∙ ends-first (at + k + 1) (get_or text (suc k) 0) (drop (suc (suc k)) text) [] (lf-ends (get_or text (suc k) 0) (drop (suc (suc k)) text ++ []) ten)
          ∙ ap (λ n. n ∷ ends_in n (drop (suc (suc k)) text) []) (omega arith) ∙ ap (λ n. (at + (k + 2)) ∷ ends_in (at + (k + 2)) (drop n text) []) last;
    }

pub found-none : (text : List ℕ) → ((k : ℕ) → 0 ≤ k → k < length text → is_byte2 13 10 (get_or text k 0) ≡ true → ⊥) → EndsNever text
unfolding is_newline
found-none text h = ends-never text (λ k lt e. h k (omega arith) lt e)

cr-alone : (c : ℕ) (cs : List ℕ) → c ≡ 13 → starts_with_lf cs ≡ false → ends_line c cs ≡ true
unfolding ends_line
cr-alone c cs e f = rw (e, f) refl

lf-alone : (c : ℕ) (cs : List ℕ) → is_byte2 13 10 c ≡ true → (c ≡ 13 → ⊥) → ends_line c cs ≡ true
unfolding ends_line
lf-alone c cs e f = let ten : (c == 10) ≡ true = grind (arith, e, f) in rw ten refl

-- The first CR or LF: one with an LF behind it, or not.
pub found-two : (text : List ℕ) (k : ℕ) → NoneBefore (Passes (is_byte2 13 10) text) 0 (length text) k → get_or text k 0 ≡ 13 → starts_with_lf (drop (k + 1) text) ≡ true → EndsAfter text (k + 2)
unfolding is_newline
found-two text k h e f = ends-two text k h.high (λ i lt g. h.before i (omega arith) lt g) e f

pub found-cr : (text : List ℕ) (k : ℕ) → NoneBefore (Passes (is_byte2 13 10) text) 0 (length text) k → get_or text k 0 ≡ 13 → starts_with_lf (drop (k + 1) text) ≡ false → EndsAfter text (k + 1)
unfolding is_newline
found-cr text k h e f = ends-one text k h.high (λ i lt g. h.before i (omega arith) lt g) (cr-alone (get_or text k 0) (drop (k + 1) text) e f)

pub found-lf : (text : List ℕ) (k : ℕ) → NoneBefore (Passes (is_byte2 13 10) text) 0 (length text) k → is_byte2 13 10 (get_or text k 0) ≡ true → (get_or text k 0 ≡ 13 → ⊥) → EndsAfter text (k + 1)
unfolding is_newline
found-lf text k h e f = ends-one text k h.high (λ i lt g. h.before i (omega arith) lt g) (lf-alone (get_or text k 0) (drop (k + 1) text) e f)

pub second-none : (text : List ℕ) → IsUtf8 text → EndsNever text → from_line 1 (chars text) ≡ None
second-none text u h = line-none text 1 u (omega (arith, ap length (h 0)))

pub second-line : (text : List ℕ) (n : ℕ) → IsUtf8 text → EndsAfter text n → LineAt text 1 n
second-line text n u h =
    let P : ℕ → Type 0 = λ x. LineAt text 1 x in
    subst P (ap (λ x. get_or x 0 0) (h.is 0) ∙ omega arith) (line-some text 1 u (omega (arith, ap length (h.is 0))))

-- Blocks counted from the end.
use Rattle.std.proofs.Common.{◌≡◌, ◌∙◌, ap, sym, ℕ, zero, suc, ◌+◌, ◌-◌, Bool, true, false, drop, arith, List, [], ◌∷◌, ◌++◌, refl, length, reverse, append_assoc, append-nil, codes, if◌then◌else◌, length-append}
use Rattle.std.proofs.Common.{◌<◌, ◌≤◌, ◌&&◌, not, slice_index_or, add-one, subst}
use Rattle.std.proofs.lemmas.List.{drop_all, reverse-append}
use Rattle.std.specs.Prelude.{bytes_eq}
use Rattle.std.proofs.lemmas.Slice.Eq.{bytes_eq-Decides}
use Rattle.java_tokens.specs.Tokens.{IsWithin, AreWithin}
use Rattle.java_tokens.specs.declared.token.Token.{Token}
use Rattle.java_units.specs.declared.lexemes.Lexeme.{Lexeme}
use Rattle.java_units.specs.Signs.{Sign, sign, seen, is, has, reserved, holding, with_blocks, is_blank, is_word, text_of, sign_of, signs_from}
use Rattle.java_units.specs.Blocks.{nth, block_len, closers_after, seen_back}

-- how many signs stand from each closing brace on that is open at the front
unfoldable pub waits : List Sign → List ℕ
waits [] = []
waits (s ∷ ss) = closers_after s.text (length ss) (waits ss)

nth_drop : (d : ℕ) (xs : List ℕ) → nth d (drop 1 xs) ≡ nth (suc d) xs
unfolding nth
nth_drop zero [] = refl
nth_drop (suc d) [] = refl
nth_drop zero (x ∷ xs) = refl
nth_drop (suc d) (x ∷ xs) = refl

-- one sign more, by whether it closes and whether it opens
at_zero : (b c : Bool) (n : ℕ) (ws : List ℕ) (h0 h1 : ℕ) → h0 + nth 0 ws ≡ n → h1 + nth 1 ws ≡ n
    → (if b then 0 else suc (if c then h1 else h0)) + nth 0 (if b then (n + 1) ∷ ws else if c then drop 1 ws else ws) ≡ suc n
unfolding nth
at_zero true c n ws h0 h1 e f = omega arith
at_zero false true n ws h0 h1 e f = omega (arith, e, f, nth_drop 0 ws)
at_zero false false n ws h0 h1 e f = omega (arith, e, f)

at_suc : (b c : Bool) (n d : ℕ) (ws : List ℕ) (h0 h1 h2 : ℕ) → h0 + nth d ws ≡ n → h1 + nth (suc d) ws ≡ n → h2 + nth (suc (suc d)) ws ≡ n
    → suc (if b then h0 else if c then h2 else h1) + nth (suc d) (if b then (n + 1) ∷ ws else if c then drop 1 ws else ws) ≡ suc n
unfolding nth
at_suc true c n d ws h0 h1 h2 e f g = omega (arith, e)
at_suc false true n d ws h0 h1 h2 e f g = omega (arith, g, nth_drop (suc d) ws)
at_suc false false n d ws h0 h1 h2 e f g = omega (arith, f)

pick_zero : (c : Bool) (ss : List Sign) → holding (if c then 1 else 0) ss ≡ (if c then holding 1 ss else holding 0 ss)
pick_zero true ss = refl
pick_zero false ss = refl

pick_suc : (b c : Bool) (d : ℕ) (ss : List Sign) → holding (if b then d else if c then suc (suc d) else suc d) ss ≡ (if b then holding d ss else if c then holding (suc (suc d)) ss else holding (suc d) ss)
pick_suc true c d ss = refl
pick_suc false true d ss = refl
pick_suc false false d ss = refl

pub holds_is : (d : ℕ) (ss : List Sign) → holding d ss + nth d (waits ss) ≡ length ss
unfolding holding waits closers_after nth is
holds_is d [] = omega arith
holds_is zero (s ∷ ss) =
    ap (λ h. (if bytes_eq (codes "}") s.text then 0 else suc h) + nth 0 (waits (s ∷ ss))) (pick_zero (bytes_eq (codes "{") s.text) ss)
    ∙ at_zero (bytes_eq (codes "}") s.text) (bytes_eq (codes "{") s.text) (length ss) (waits ss) (holding 0 ss) (holding 1 ss) (holds_is 0 ss) (holds_is 1 ss)
holds_is (suc d) (s ∷ ss) =
    ap (λ h. suc h + nth (suc d) (waits (s ∷ ss))) (pick_suc (bytes_eq (codes "}") s.text) (bytes_eq (codes "{") s.text) d ss)
    ∙ at_suc (bytes_eq (codes "}") s.text) (bytes_eq (codes "{") s.text) (length ss) d (waits ss) (holding d ss) (holding (suc d) ss) (holding (suc (suc d)) ss) (holds_is d ss) (holds_is (suc d) ss) (holds_is (suc (suc d)) ss)

block_zero : (b : Bool) (m n : ℕ) → m ≡ n → (if b then m else 0) ≡ (if b then n else 0)
block_zero b m n e = ap (λ k. if b then k else 0) e

pub block_is : (s : Sign) (ss : List Sign) → block_len s.text (length ss) (waits ss) ≡ (if is (codes "{") s then holding 0 ss else 0)
unfolding block_len is
block_is s ss = block_zero (bytes_eq (codes "{") s.text) _ _ (omega (arith, holds_is 0 ss))

pub blocks_length : (ss : List Sign) → length (with_blocks ss) ≡ length ss
unfolding with_blocks
blocks_length [] = refl
blocks_length (s ∷ ss) = ap suc (blocks_length ss)

pub back_push : (ls : List Lexeme) (l : Lexeme) → seen_back (ls ++ l ∷ []) ≡ sign l ∷ seen_back ls
unfolding seen_back
back_push [] l = refl
back_push (x ∷ xs) l = ap (λ r. r ++ sign x ∷ []) (back_push xs l)

pub back_length : (ls : List Lexeme) → length (seen_back ls) ≡ length ls
unfolding seen_back
back_length [] = refl
back_length (l ∷ ls) = simp length-append (omega (arith, back_length ls))

pub seen_push : (ls : List Lexeme) (l : Lexeme) → seen (ls ++ l ∷ []) ≡ seen ls ++ sign l ∷ []
unfolding seen
seen_push [] l = refl
seen_push (x ∷ xs) l = ap (λ r. sign x ∷ r) (seen_push xs l)

pub last_push : (xs : List ℕ) (x : ℕ) → reverse (xs ++ x ∷ []) ≡ x ∷ reverse xs
last_push xs x = reverse-append xs (x ∷ [])

-- the last of the lexemes that are left comes next
pub turn : (all news old new : List Lexeme) (l : Lexeme) (whole : List Sign) → old ≡ new ++ l ∷ [] → news ≡ all ++ l ∷ [] → whole ≡ seen all ++ seen_back old → whole ≡ seen news ++ seen_back new
turn all news old new l whole e n h =
    h ∙ (ap (λ r. seen all ++ r) (ap seen_back e ∙ back_push new l) ∙ (sym (append_assoc (seen all) (sign l ∷ []) (seen_back new)) ∙ ap (λ r. r ++ seen_back new) (sym (ap seen n ∙ seen_push all l))))

pub turned : (all old : List Lexeme) (whole : List Sign) → old ≡ [] → whole ≡ seen all ++ seen_back old → seen all ≡ whole
unfolding seen_back
turned all old whole e h = sym (h ∙ (ap (λ r. seen all ++ seen_back r) e ∙ append-nil (seen all)))

other_at : (w : List ℕ) (n : ℕ) (cs : List ℕ) → bytes_eq (codes "{") w ≡ false → 0 ≡ block_len w n cs
unfolding block_len
other_at w n cs e = sym (rw (e) refl)

-- no text is both braces
no_open : (w : List ℕ) → bytes_eq (codes "}") w ≡ true → bytes_eq (codes "{") w ≡ false
no_open w e =
    let same : codes "}" ≡ w = (bytes_eq-Decides (codes "}") w).0 e in
    subst (λ x. bytes_eq (codes "{") x ≡ false) same refl

-- what one lexeme does to the closing braces
pub closer_len : (w : List ℕ) (n : ℕ) (cs : List ℕ) → bytes_eq (codes "}") w ≡ true → 0 ≡ block_len w n cs
unfolding block_len
closer_len w n cs e = other_at w n cs (no_open w e)

pub closer_kept : (w : List ℕ) (n : ℕ) (old new : List ℕ) → bytes_eq (codes "}") w ≡ true → new ≡ old ++ (n + 1) ∷ [] → reverse new ≡ closers_after w n (reverse old)
unfolding closers_after
closer_kept w n old new e p = (ap reverse p ∙ last_push old (n + 1)) ∙ sym (rw (e) refl)

pub other_len : (w : List ℕ) (n : ℕ) (cs : List ℕ) → bytes_eq (codes "{") w ≡ false → 0 ≡ block_len w n cs
other_len w n cs e = other_at w n cs e

pub other_kept : (w : List ℕ) (n : ℕ) (cs : List ℕ) → bytes_eq (codes "}") w ≡ false → bytes_eq (codes "{") w ≡ false → cs ≡ closers_after w n cs
unfolding closers_after
other_kept w n cs e f = sym (rw (e, f) refl)

pub open_len : (w : List ℕ) (n : ℕ) (old new : List ℕ) (x : ℕ) → bytes_eq (codes "{") w ≡ true → old ≡ new ++ x ∷ [] → n - x ≡ block_len w n (reverse old)
unfolding block_len nth
open_len w n old new x e p = sym (rw (e) (ap (λ r. n - nth 0 r) (ap reverse p ∙ last_push new x)))

pub open_kept : (w : List ℕ) (n : ℕ) (old new : List ℕ) (x : ℕ) → bytes_eq (codes "}") w ≡ false → bytes_eq (codes "{") w ≡ true → old ≡ new ++ x ∷ [] → reverse new ≡ closers_after w n (reverse old)
unfolding closers_after
open_kept w n old new x e f p = sym (rw (e, f) (ap (drop 1) (ap reverse p ∙ last_push new x)))

pub bare_len : (w : List ℕ) (n : ℕ) (old : List ℕ) → bytes_eq (codes "{") w ≡ true → old ≡ [] → n ≡ block_len w n (reverse old)
unfolding block_len nth
bare_len w n old e p = sym (rw (e) (ap (λ r. n - nth 0 (reverse r)) p ∙ omega arith))

pub bare_kept : (w : List ℕ) (n : ℕ) (old new : List ℕ) → bytes_eq (codes "}") w ≡ false → bytes_eq (codes "{") w ≡ true → old ≡ [] → new ≡ [] → reverse new ≡ closers_after w n (reverse old)
unfolding closers_after
bare_kept w n old new e f p q = ap reverse q ∙ sym (rw (e, f) (ap (λ r. drop 1 (reverse r)) p))

-- the tokens from the last one on
next_token : (ts : List Token) (k : ℕ) (d : Token) → k < length ts → drop k ts ≡ slice_index_or ts k d ∷ drop (suc k) ts
next_token [] k d l = absurd (omega arith)
next_token (t ∷ ts) zero d l = refl
next_token (t ∷ ts) (suc k) d l = next_token ts k d (omega arith)

blank_first : (text : List ℕ) (k : ℕ) (t : Token) (ts : List Token) → is_blank t.kind ≡ true → signs_from text k (t ∷ ts) ≡ signs_from text (suc k) ts
unfolding signs_from
blank_first text k t ts e = rw (e) (ap (λ n. signs_from text n ts) (add-one k))

sign_first : (text : List ℕ) (k : ℕ) (t : Token) (ts : List Token) → is_blank t.kind ≡ false → signs_from text k (t ∷ ts) ≡ sign_of text k t ∷ signs_from text (suc k) ts
unfolding signs_from
sign_first text k t ts e = rw (e) (ap (λ n. sign_of text k t ∷ signs_from text n ts) (add-one k))

-- the lexemes read so far are those of the tokens from this one on
pub record Backs (text : List ℕ) (ts : List Token) (n : ℕ) (back : List Lexeme) (closers : List ℕ) : Type 0 where
  pub within : n ≤ length ts
  pub signs : seen_back back ≡ with_blocks (signs_from text n (drop n ts))
  pub waiting : reverse closers ≡ waits (signs_from text n (drop n ts))

pub backs_none : (text : List ℕ) (ts : List Token) (back : List Lexeme) (closers : List ℕ) → back ≡ [] → closers ≡ [] → Backs text ts (length ts) back closers
unfolding seen_back waits with_blocks signs_from
backs_none text ts back closers b c =
    let e : drop (length ts) ts ≡ [] = drop_all (length ts) ts (omega arith) in
    record {
      within = omega arith;
      signs = ap seen_back b ∙ sym (ap (λ x. with_blocks (signs_from text (length ts) x)) e);
      waiting = ap reverse c ∙ sym (ap (λ x. waits (signs_from text (length ts) x)) e);
    }

pub backs_skip : (text : List ℕ) (ts : List Token) (d : Token) (n m : ℕ) (back : List Lexeme) (closers : List ℕ) → n ≡ suc m → is_blank (slice_index_or ts m d).kind ≡ true → Backs text ts n back closers → Backs text ts m back closers
backs_skip text ts d n m back closers e b h =
    let g = subst (λ k. Backs text ts k back closers) e h in
    let l : m < length ts = omega (arith, g.within) in
    let s : signs_from text m (drop m ts) ≡ signs_from text (suc m) (drop (suc m) ts) = ap (signs_from text m) (next_token ts m d l) ∙ blank_first text m (slice_index_or ts m d) (drop (suc m) ts) b in
    record {
      within = omega arith;
      signs = g.signs ∙ sym (ap with_blocks s);
      waiting = g.waiting ∙ sym (ap waits s);
    }

same_sign : (l : Lexeme) (text : List ℕ) (m h : ℕ) (t : Token) → l.word.now ≡ text_of text t → l.is_name ≡ (is_word t.kind && not (has reserved (text_of text t))) → l.number ≡ m → l.holds ≡ h → sign l ≡ record (sign_of text m t) { holds = h }
unfolding sign sign_of
same_sign l text m h t w b n e = cc

block_first : (s : Sign) (ss : List Sign) → with_blocks (s ∷ ss) ≡ record s { holds = block_len s.text (length ss) (waits ss) } ∷ with_blocks ss
unfolding with_blocks
block_first s ss = ap (λ h. record s { holds = h } ∷ with_blocks ss) (sym (block_is s ss))

pub backs_push : (text : List ℕ) (ts : List Token) (d : Token) (n m : ℕ) (back news : List Lexeme) (closers after : List ℕ) (l : Lexeme) → n ≡ suc m → is_blank (slice_index_or ts m d).kind ≡ false
    → l.word.now ≡ text_of text (slice_index_or ts m d) → l.is_name ≡ (is_word (slice_index_or ts m d).kind && not (has reserved (text_of text (slice_index_or ts m d)))) → l.number ≡ m
    → l.holds ≡ block_len l.word.now (length back) (reverse closers) → reverse after ≡ closers_after l.word.now (length back) (reverse closers) → news ≡ back ++ l ∷ []
    → Backs text ts n back closers → Backs text ts m news after
unfolding waits sign_of
backs_push text ts d n m back news closers after l e b w i k v a p h =
    let g = subst (λ x. Backs text ts x back closers) e h in
    let t = slice_index_or ts m d in
    let ss = signs_from text (suc m) (drop (suc m) ts) in
    let in_list : m < length ts = omega (arith, g.within) in
    let s : signs_from text m (drop m ts) ≡ sign_of text m t ∷ ss = ap (signs_from text m) (next_token ts m d in_list) ∙ sign_first text m t (drop (suc m) ts) b in
    let len : length back ≡ length ss = sym (back_length back) ∙ (ap length g.signs ∙ blocks_length ss) in
    let holds : l.holds ≡ block_len (text_of text t) (length ss) (waits ss) = v ∙ (ap (λ x. block_len x (length back) (reverse closers)) w ∙ (ap (λ x. block_len (text_of text t) x (reverse closers)) len ∙ ap (block_len (text_of text t) (length ss)) g.waiting)) in
    let first : sign l ∷ seen_back back ≡ with_blocks (sign_of text m t ∷ ss) = ap (λ x. x ∷ seen_back back) (same_sign l text m _ t w i k holds) ∙ (ap (λ x. record (sign_of text m t) { holds = block_len (text_of text t) (length ss) (waits ss) } ∷ x) g.signs ∙ sym (block_first (sign_of text m t) ss)) in
    let closes : reverse after ≡ closers_after (text_of text t) (length ss) (waits ss) = a ∙ (ap (λ x. closers_after x (length back) (reverse closers)) w ∙ (ap (λ x. closers_after (text_of text t) x (reverse closers)) len ∙ ap (closers_after (text_of text t) (length ss)) g.waiting)) in
    record {
      within = omega arith;
      signs = (ap seen_back p ∙ back_push back l) ∙ (first ∙ sym (ap with_blocks s));
      waiting = closes ∙ sym (ap waits s);
    }

pub backs_end : (text : List ℕ) (ts : List Token) (n : ℕ) (back : List Lexeme) (closers : List ℕ) → n ≡ 0 → Backs text ts n back closers → seen_back back ≡ with_blocks (signs_from text 0 ts)
backs_end text ts n back closers e h = (subst (λ k. Backs text ts k back closers) e h).signs

-- tokens stand at whole characters
pub within_at : (text : List ℕ) (ts : List Token) (i : ℕ) (d : Token) → i < length ts → AreWithin text ts → IsWithin text (slice_index_or ts i d)
within_at text [] i d l are = absurd (omega arith)
within_at text (t ∷ ts) zero d l are = are.0
within_at text (t ∷ ts) (suc i) d l are = within_at text ts i d (omega arith) are.1

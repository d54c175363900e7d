-- The signs of a text, but for their numbers, are those of the texts of its tokens.
use Rattle.std.proofs.Common.{◌≡◌, ◌∙◌, ap, sym, subst, ℕ, zero, suc, ◌+◌, ◌-◌, ◌<◌, Bool, true, false, ◌&&◌, not, ◌==◌, if◌then◌else◌, List, [], ◌∷◌, ◌++◌, length, drop, take, map, filter, codes, refl, arith, rules, tests, append_assoc, length-append, IsUtf8}
use Rattle.std.proofs.Math.Seq.{take-append_seam, drop-append_seam}
use Rattle.std.proofs.lemmas.Str.{encodes-append, encodes-chars, scalars-chars, chars-encodes}
use Rattle.std.specs.Str.{chars}
use lib.Utf8.{encodes, scalars, scalar}
use Rattle.java_tokens.specs.Classes.{is_white, is_word_start, is_digit}
use Rattle.java_tokens.specs.Rules.{begins, rule}
use Rattle.java_tokens.specs.Tokens.{byte_len, AreTokens, AreTokensOf}
use Rattle.java_tokens.specs.declared.token.Token.{Token}
use Rattle.java_tokens.specs.declared.token.TokenKind.{TokenKind}
use Rattle.java_tokens.specs.declared.token.TokenKind.TheVariants as kind
use Rattle.java_tokens.proofs.Runs.{byte_len-encodes}
use Rattle.java_tokens.proofs.Tiles.{rule-some}
use Rattle.java_tokens.proofs.Total.{split, scalars_drop}
use Rattle.java_units.specs.Signs.{Sign, is, has, reserved, is_blank, is_word, text_of, sign_of, signs_from, holding, with_blocks, signs_of}
use Rattle.java_units.specs.SameSigns.{unnumbered, spelled}
use Rattle.java_units.proofs.PlainForms.{bare_of}

-- a token that counts is a word by its first character

first_of : List ℕ → ℕ
first_of [] = 0
first_of (c ∷ cs) = c

begins_word : ℕ → Bool
begins_word c = if is_white c then false else if c == 34 then false else if c == 39 then false else is_word_start c

and_left : (a b : Bool) → (a && b) ≡ true → a ≡ true
and_left true b e = refl
and_left false b e = absurd cc

and_right : (a b : Bool) → (a && b) ≡ true → b ≡ true
and_right true b e = e
and_right false b e = absurd cc

turned : (a b : ℕ) → (a == b) ≡ true → (b == a) ≡ true
turned a b e = search (rules, tests)

three_quotes : (c : ℕ) (cs : List ℕ) → begins (34 ∷ 34 ∷ 34 ∷ []) (c ∷ cs) ≡ true → (c == 34) ≡ true
unfolding begins
three_quotes c cs e = turned 34 c (and_left (34 == c) (begins (34 ∷ 34 ∷ []) cs) e)

abbrev picked : (a b d e f g h i : Bool) (n1 n2 n3 n4 n5 n6 n7 n8 : ℕ) → TokenKind × ℕ
picked a b d e f g h i n1 n2 n3 n4 n5 n6 n7 n8 =
    if a then (kind.White, n1) else if b then (kind.Comment, n2) else if d then (kind.Comment, n3)
    else if e then (kind.Text, n4) else if f then (kind.Text, n5) else if g then (kind.CharText, n6)
    else if h then (kind.Word, n7) else if i then (kind.Number, n8) else (kind.Symbol, 1)

by_tests : (a b d e f g h i : Bool) (n1 n2 n3 n4 n5 n6 n7 n8 : ℕ) → (e ≡ true → f ≡ true)
    → is_blank (picked a b d e f g h i n1 n2 n3 n4 n5 n6 n7 n8).0 ≡ false
    → is_word (picked a b d e f g h i n1 n2 n3 n4 n5 n6 n7 n8).0 ≡ (if a then false else if f then false else if g then false else h)
by_tests true b d e f g h i n1 n2 n3 n4 n5 n6 n7 n8 k z = absurd cc
by_tests false true d e f g h i n1 n2 n3 n4 n5 n6 n7 n8 k z = absurd cc
by_tests false false true e f g h i n1 n2 n3 n4 n5 n6 n7 n8 k z = absurd cc
by_tests false false false true f g h i n1 n2 n3 n4 n5 n6 n7 n8 k z = rw (k refl) refl
by_tests false false false false true g h i n1 n2 n3 n4 n5 n6 n7 n8 k z = refl
by_tests false false false false false true h i n1 n2 n3 n4 n5 n6 n7 n8 k z = refl
by_tests false false false false false false true i n1 n2 n3 n4 n5 n6 n7 n8 k z = refl
by_tests false false false false false false false true n1 n2 n3 n4 n5 n6 n7 n8 k z = refl
by_tests false false false false false false false false n1 n2 n3 n4 n5 n6 n7 n8 k z = refl

kind_by_first : (c : ℕ) (cs : List ℕ) → is_blank (rule c cs).0 ≡ false → is_word (rule c cs).0 ≡ begins_word c
unfolding rule begins_word
kind_by_first c cs z =
    by_tests (is_white c) (begins (codes "//") (c ∷ cs)) (begins (codes "/*") (c ∷ cs)) (begins (34 ∷ 34 ∷ 34 ∷ []) (c ∷ cs)) (c == 34) (c == 39) (is_word_start c) (is_digit c) _ _ _ _ _ _ _ _ (three_quotes c cs) z

-- the text of a token tells whether it is a word, if it counts
abbrev IsTold : List ℕ → Token → Type 0
IsTold text t = is_blank t.kind ≡ false → is_word t.kind ≡ begins_word (first_of (chars (text_of text t)))

abbrev AreTold : List ℕ → List Token → Type 0
AreTold text [] = Unit {0}
AreTold text (t ∷ ts) = IsTold text t × AreTold text ts

scalars_take : (n : ℕ) (cs : List ℕ) → scalars cs ≡ true → scalars (take n cs) ≡ true
scalars_take zero cs e = refl
scalars_take (suc n) [] e = refl
scalars_take (suc n) (c ∷ cs) e = ap (λ b. b && scalars (take n cs)) (and_left (scalar c) (scalars cs) e) ∙ scalars_take n cs (and_right (scalar c) (scalars cs) e)

first_taken : (n c : ℕ) (cs : List ℕ) → 0 < n → first_of (take n (c ∷ cs)) ≡ c
unfolding first_of
first_taken zero c cs l = absurd (omega arith)
first_taken (suc n) c cs l = refl

token_text : (text pre all : List ℕ) (n : ℕ) (t : Token) → text ≡ pre ++ encodes all → t.start ≡ length pre → t.end ≡ length pre + byte_len (take n all) → text_of text t ≡ encodes (take n all)
unfolding text_of
token_text text pre all n t e a b =
    let rest : drop t.start text ≡ encodes all = ap (λ k. drop k text) a ∙ (ap (drop (length pre)) e ∙ drop-append_seam pre (encodes all)) in
    let parts : encodes all ≡ encodes (take n all) ++ encodes (drop n all) = sym (ap encodes (split n all)) ∙ encodes-append (take n all) (drop n all) in
    let size : t.end - t.start ≡ length (encodes (take n all)) = omega (arith, a, b, byte_len-encodes (take n all)) in
    ap (λ k. take k (drop t.start text)) size ∙ (ap (take (length (encodes (take n all)))) (rest ∙ parts) ∙ take-append_seam (encodes (take n all)) (encodes (drop n all)))

told_by : (k : TokenKind) (n c : ℕ) (cs : List ℕ) → rule c cs ≡ (k, n) → is_blank k ≡ false → is_word k ≡ begins_word c
told_by k n c cs r z =
    let same : (rule c cs).0 ≡ k = ap (λ p. p.0) r in
    sym (ap is_word same) ∙ kind_by_first c cs (ap is_blank same ∙ z)

told_from : (text pre cs : List ℕ) (at : ℕ) (ts : List Token) → text ≡ pre ++ encodes cs → at ≡ length pre → scalars cs ≡ true → AreTokens at cs ts → AreTold text ts
told_from text pre cs at [] e a s are = tt
told_from text pre [] at (t ∷ ts) e a s are = absurd are
told_from text pre (c ∷ cs) at (t ∷ ts) e a s (n, r, first, last, more) =
    let all = c ∷ cs in
    let longer = pre ++ encodes (take n all) in
    let e2 : text ≡ longer ++ encodes (drop n all) = e ∙ (ap (λ x. pre ++ x) (sym (ap encodes (split n all)) ∙ encodes-append (take n all) (drop n all)) ∙ sym (append_assoc pre (encodes (take n all)) (encodes (drop n all)))) in
    let a2 : t.end ≡ length longer = omega (arith, last, a, byte_len-encodes (take n all), length-append pre (encodes (take n all))) in
    let some : 0 < n = subst (λ x. 0 < x) (ap (λ p. p.1) r) (rule-some c cs) in
    let ends : t.end ≡ length pre + byte_len (take n all) = omega (arith, last, a) in
    let spells : chars (text_of text t) ≡ take n all = ap chars (token_text text pre all n t e (first ∙ a) ends) ∙ chars-encodes (take n all) (scalars_take n all s) in
    let begin : first_of (chars (text_of text t)) ≡ c = ap first_of spells ∙ first_taken n c cs some in
    (λ z. told_by t.kind n c cs r z ∙ sym (ap begins_word begin), told_from text longer (drop n all) t.end ts e2 a2 (scalars_drop n all s) more)

told : (text : List ℕ) (ts : List Token) → IsUtf8 text → AreTokensOf text ts → AreTold text ts
told text ts u are = told_from text [] (chars text) 0 ts (sym (encodes-chars text u)) refl (scalars-chars text u) are

-- a sign by its text alone, before its block is counted
by_text : List ℕ → Sign
by_text w = record { text = w; is_name = begins_word (first_of (chars w)) && not (has reserved w); number = 0; holds = 0 }

sign_by : (text : List ℕ) (n : ℕ) (t : Token) → is_word t.kind ≡ begins_word (first_of (chars (text_of text t))) → unnumbered (sign_of text n t) ≡ by_text (text_of text t)
unfolding unnumbered sign_of by_text
sign_by text n t e = rw (e) refl

signs_by : (b : Bool) (text : List ℕ) (n : ℕ) (t : Token) (ss : List Sign) (kept : List Token) → is_blank t.kind ≡ b → IsTold text t → bare_of ss ≡ map by_text (map (text_of text) kept)
    → bare_of (if is_blank t.kind then ss else sign_of text n t ∷ ss) ≡ map by_text (map (text_of text) (if not (is_blank t.kind) then t ∷ kept else kept))
signs_by true text n t ss kept z h e = rw (z) e
signs_by false text n t ss kept z h e = rw (z) (ap (λ x. x ∷ bare_of ss) (sign_by text n t (h z)) ∙ ap (λ x. by_text (text_of text t) ∷ x) e)

bare_signs : (text : List ℕ) (n : ℕ) (ts : List Token) → AreTold text ts → bare_of (signs_from text n ts) ≡ map by_text (spelled text ts)
unfolding signs_from
bare_signs text n [] h = refl
bare_signs text n (t ∷ ts) h = signs_by (is_blank t.kind) text n t (signs_from text (n + 1) ts) (filter (λ t. not (is_blank t.kind)) ts) refl h.0 (bare_signs text (n + 1) ts h.1)

-- numbers don't decide how blocks are counted
holding-u : (d : ℕ) (ss : List Sign) → holding d (bare_of ss) ≡ holding d ss
unfolding holding is unnumbered
holding-u d [] = refl
holding-u zero (s ∷ ss) = rw (holding-u (if is (codes "{") s then 1 else 0) ss) refl
holding-u (suc d) (s ∷ ss) = rw (holding-u (if is (codes "}") s then d else if is (codes "{") s then suc (suc d) else suc d) ss) refl

blocks-u : (ss : List Sign) → bare_of (with_blocks ss) ≡ with_blocks (bare_of ss)
unfolding with_blocks is unnumbered
blocks-u [] = refl
blocks-u (s ∷ ss) = rw (holding-u 0 ss) (ap (λ r. record { text = s.text; is_name = s.is_name; number = 0; holds = if is (codes "{") s then holding 0 ss else 0 } ∷ r) (blocks-u ss))

signs_spelled : (text : List ℕ) (ts : List Token) → IsUtf8 text → AreTokensOf text ts → bare_of (signs_of text ts) ≡ with_blocks (map by_text (spelled text ts))
signs_spelled text ts u are = blocks-u (signs_from text 0 ts) ∙ ap with_blocks (bare_signs text 0 ts (told text ts u are))

pub same_spelling : (text other : List ℕ) (ts us : List Token) → IsUtf8 text → IsUtf8 other → AreTokensOf text ts → AreTokensOf other us → spelled text ts ≡ spelled other us → bare_of (signs_of text ts) ≡ bare_of (signs_of other us)
same_spelling text other ts us g h x y e = signs_spelled text ts g x ∙ (ap (λ ws. with_blocks (map by_text ws)) e ∙ sym (signs_spelled other us h y))

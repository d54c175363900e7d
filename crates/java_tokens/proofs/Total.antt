-- Each text has tokens, and no two lists of them; each token stands at whole characters.
use Rattle.std.proofs.Common.{◌≡◌, ◌∙◌, ap, sym, subst, ◌++◌, ℕ, zero, suc, ◌+◌, ◌≤◌, drop, take, arith, List, [], ◌∷◌, refl, Bool, true, false, ◌&&◌, length, append_assoc, length-append, IsUtf8}
use Rattle.std.proofs.lemmas.List.{length-drop}
use Rattle.std.proofs.lemmas.Str.{encodes-append, IsCharBoundary-at_seam, encodes-chars, scalars-chars}
use Rattle.std.specs.Str.{chars, IsCharBoundary}
use lib.Utf8.{encodes, scalars, scalar}
use Rattle.java_tokens.specs.declared.token.TokenKind.{TokenKind}
use Rattle.java_tokens.specs.declared.token.Token.{Token}
use Rattle.java_tokens.specs.Rules.{rule}
use Rattle.java_tokens.specs.Tokens.{byte_len, AreTokens, HasTokens, AreOnlyTokens, AreWithin}
use Rattle.java_tokens.proofs.Runs.{byte_len-encodes}
use Rattle.java_tokens.proofs.Tiles.{rule-some}

abbrev Cut : ℕ → List ℕ → Type 0
Cut at cs = (ts : List Token) × AreTokens at cs ts

cut-more : (at c : ℕ) (cs : List ℕ) → Cut (at + byte_len (take (rule c cs).1 (c ∷ cs))) (drop (rule c cs).1 (c ∷ cs)) → Cut at (c ∷ cs)
cut-more at c cs more =
    let t : Token = record { kind = (rule c cs).0; start = at; end = at + byte_len (take (rule c cs).1 (c ∷ cs)) } in
    (t ∷ more.0, ((rule c cs).1, refl, refl, refl, more.1))

cut : (n at : ℕ) (cs : List ℕ) → length cs ≤ n → Cut at cs
cut n at [] l = ([], tt)
cut zero at (c ∷ cs) l = absurd (omega arith)
cut (suc n) at (c ∷ cs) l =
    let shorter : length (drop (rule c cs).1 (c ∷ cs)) ≤ n = omega (arith, rule-some c cs, length-drop (rule c cs).1 (c ∷ cs)) in
    cut-more at c cs (cut n (at + byte_len (take (rule c cs).1 (c ∷ cs))) (drop (rule c cs).1 (c ∷ cs)) shorter)

pub has_tokens : (text : List ℕ) → HasTokens text
has_tokens text =
    let enough : length (chars text) ≤ length (chars text) = omega arith in
    let found = cut (length (chars text)) 0 (chars text) enough in
    record { all = found.0; are = found.1 }

abbrev token : TokenKind → ℕ → ℕ → Token
token kind start end = record { kind = kind; start = start; end = end }

same_token : (s t : Token) → s.kind ≡ t.kind → s.start ≡ t.start → s.end ≡ t.end → s ≡ t
same_token s t k a b = ap (λ x. token x s.start s.end) k ∙ (ap (λ x. token t.kind x s.end) a ∙ ap (token t.kind t.start) b)

same_tokens : (at : ℕ) (cs : List ℕ) (xs ys : List Token) → AreTokens at cs xs → AreTokens at cs ys → xs ≡ ys
same_tokens at [] [] [] p q = refl
same_tokens at [] [] (y ∷ ys) p q = absurd q
same_tokens at [] (x ∷ xs) ys p q = absurd p
same_tokens at (c ∷ cs) [] ys p q = absurd p
same_tokens at (c ∷ cs) (x ∷ xs) [] p q = absurd q
same_tokens at (c ∷ cs) (x ∷ xs) (y ∷ ys) (n, r, s, e, p) (m, v, w, f, q) =
    let both : (x.kind, n) ≡ (y.kind, m) = sym r ∙ v in
    let size : m ≡ n = sym (ap (λ z. z.1) both) in
    let ends : y.end ≡ x.end = f ∙ (ap (λ z. at + byte_len (take z (c ∷ cs))) size ∙ sym e) in
    let q2 = subst (λ z. AreTokens y.end (drop z (c ∷ cs)) ys) size q in
    let q3 = subst (λ z. AreTokens z (drop n (c ∷ cs)) ys) ends q2 in
    let rest = same_tokens x.end (drop n (c ∷ cs)) xs ys p q3 in
    ap (λ z. z ∷ xs) (same_token x y (ap (λ z. z.0) both) (s ∙ sym w) (sym ends)) ∙ ap (λ z. y ∷ z) rest

pub only_tokens : (text : List ℕ) (ts : List Token) → AreTokens 0 (chars text) ts → AreOnlyTokens text ts
only_tokens text ts p others q = same_tokens 0 (chars text) others ts q p

-- places of whole characters
pub split : (n : ℕ) (cs : List ℕ) → take n cs ++ drop n cs ≡ cs
split zero cs = refl
split (suc n) [] = refl
split (suc n) (c ∷ cs) = ap (λ r. c ∷ r) (split n cs)

and_right : (a b : Bool) → (a && b) ≡ true → b ≡ true
and_right true b e = e
and_right false b e = absurd cc

pub scalars_drop : (n : ℕ) (cs : List ℕ) → scalars cs ≡ true → scalars (drop n cs) ≡ true
scalars_drop zero cs e = e
scalars_drop (suc n) [] e = refl
scalars_drop (suc n) (c ∷ cs) e = scalars_drop n cs (and_right (scalar c) (scalars cs) e)

edge : (text pre cs : List ℕ) → text ≡ pre ++ encodes cs → scalars cs ≡ true → IsCharBoundary text (length pre)
edge text pre cs e s = IsCharBoundary-at_seam text pre (encodes cs) e (cs, (s, refl))

within_from : (text pre cs : List ℕ) (at : ℕ) (ts : List Token) → text ≡ pre ++ encodes cs → at ≡ length pre → scalars cs ≡ true → AreTokens at cs ts → AreWithin text ts
within_from text pre cs at [] e a s are = tt
within_from text pre [] at (t ∷ ts) e a s are = absurd are
within_from text pre (c ∷ cs) at (t ∷ ts) e a s (n, r, first, last, more) =
    let all = c ∷ cs in
    let longer = pre ++ encodes (take n all) in
    let e2 : text ≡ longer ++ encodes (drop n all) = e ∙ (ap (λ x. pre ++ x) (sym (ap encodes (split n all)) ∙ encodes-append (take n all) (drop n all)) ∙ sym (append_assoc pre (encodes (take n all)) (encodes (drop n all)))) in
    let a2 : t.end ≡ length longer = omega (arith, last, a, byte_len-encodes (take n all), length-append pre (encodes (take n all))) in
    let s2 = scalars_drop n all s in
    let from : IsCharBoundary text t.start = subst (IsCharBoundary text) (sym (first ∙ a)) (edge text pre all e s) in
    let to : IsCharBoundary text t.end = subst (IsCharBoundary text) (sym a2) (edge text longer (drop n all) e2 s2) in
    (record { start = from; end = to; order = omega (arith, first, last) }, within_from text longer (drop n all) t.end ts e2 a2 s2 more)

pub all_within : (text : List ℕ) (ts : List Token) → IsUtf8 text → AreTokens 0 (chars text) ts → AreWithin text ts
all_within text ts u are = within_from text [] (chars text) 0 ts (sym (encodes-chars text u)) refl (scalars-chars text u) are

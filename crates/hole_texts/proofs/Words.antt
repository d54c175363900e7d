-- Texts in UTF-8 that an ASCII character cuts.
use Rattle.std.proofs.Common.{◌≡◌, ◌∙◌, sym, ap, subst, refl, arith, rules, tests, ℕ, ◌+◌, ◌<◌, ◌==◌, not, Bool, true, false, List, [], ◌∷◌, ◌++◌, length, length-append, drop, get_or, chars, IsUtf8, eqb-true}
use Rattle.std.specs.List.{list_all}
use Rattle.std.proofs.lemmas.Bool.{false≢true, and_parts}
use Rattle.std.proofs.lemmas.List.{take_at, drop_at}
use Rattle.std.proofs.lemmas.Str.{IsUtf8-take, IsUtf8-drop, IsCharBoundary-before_ascii, IsCharBoundary-after_ascii, chars-append, chars_past_char, encode_ascii}
use Rattle.java_shapes.proofs.WordFacts.{Lacks}

get-cut : (a : List ℕ) (k : ℕ) (r : List ℕ) → get_or (a ++ k ∷ r) (length a) 0 ≡ k
get-cut [] k r = refl
get-cut (c ∷ a) k r = get-cut a k r

-- the two sides of an ASCII character
pub record IsCut (a r : List ℕ) : Type 0 where
  pub front : IsUtf8 a
  pub rest : IsUtf8 r

pub cut-utf8 : (k : ℕ) → k < 128 → (a r : List ℕ) → IsUtf8 (a ++ k ∷ r) → IsCut a r
cut-utf8 k low a r u =
    let bs = a ++ k ∷ r in
    let within : length a < length bs = omega (arith, length-append a (k ∷ r)) in
    let is = get-cut a k r in
    let ascii : get_or bs (length a) 0 < 128 = omega (arith, is, low) in
    let behind : drop (length a + 1) bs ≡ r = ap (λ n. drop n bs) (sym (length-append a (k ∷ []))) ∙ drop-behind a k r in
    record {
      front = subst IsUtf8 (take_at a (k ∷ r) (length a) refl) (IsUtf8-take bs (length a) u (IsCharBoundary-before_ascii bs (length a) within ascii));
      rest = subst IsUtf8 behind (IsUtf8-drop bs (length a + 1) u (IsCharBoundary-after_ascii bs (length a) u within ascii));
    }
  where
    drop-behind : (a : List ℕ) (k : ℕ) (r : List ℕ) → drop (length (a ++ k ∷ [])) (a ++ k ∷ r) ≡ r
    drop-behind [] k r = refl
    drop-behind (c ∷ a) k r = drop-behind a k r

pub after-utf8 : (k : ℕ) → k < 128 → (r : List ℕ) → IsUtf8 (k ∷ r) → IsUtf8 r
after-utf8 k low r u = (cut-utf8 k low [] r u).rest

pub cut-chars : (k : ℕ) → k < 128 → (a r : List ℕ) → IsUtf8 (a ++ k ∷ r) → chars (a ++ k ∷ r) ≡ chars a ++ k ∷ chars r
cut-chars k low a r u =
    let h = cut-utf8 k low a r u in
    let ascii : get_or (a ++ k ∷ r) (length a) 0 < 128 = omega (arith, get-cut a k r, low) in
    let within : length a < length (a ++ k ∷ r) = omega (arith, length-append a (k ∷ r)) in
    let v : IsUtf8 (k ∷ r) = subst IsUtf8 (drop_at a (k ∷ r) (length a) refl) (IsUtf8-drop (a ++ k ∷ r) (length a) u (IsCharBoundary-before_ascii (a ++ k ∷ r) (length a) within ascii)) in
    chars-append a (k ∷ r) h.front ∙ ap (λ z. chars a ++ z) (chars_past_char (k ∷ r) r k v (ap (λ z. z ++ r) (sym (encode_ascii k low))))

-- a text lacks the characters that its characters lack
lacks-step : (k c : ℕ) (w : List ℕ) (b : Bool) → (c == k) ≡ b → ((a r : List ℕ) → c ∷ w ≡ a ++ k ∷ r → ⊥) → Lacks k w → Lacks k (c ∷ w)
lacks-step k c w true e f h = absurd (f [] w (ap (λ z. z ∷ w) (eqb-true c k e)))
lacks-step k c w false e f h = rw (e, h) refl

lacks-by : (k : ℕ) (w : List ℕ) → ((a r : List ℕ) → w ≡ a ++ k ∷ r → ⊥) → Lacks k w
lacks-by k [] f = refl
lacks-by k (c ∷ w) f = lacks-step k c w (c == k) refl f (lacks-by k w (λ a r q. f (c ∷ a) r (ap (λ z. c ∷ z) q)))

lacks-no : (k : ℕ) (a r : List ℕ) → Lacks k (a ++ k ∷ r) → ⊥
lacks-no k [] r h = let q : (k == k) ≡ true = search (rules, tests) in false≢true (sym (ap not q) ∙ (and_parts (not (k == k)) (list_all (λ x. not (x == k)) r) h).0)
lacks-no k (c ∷ a) r h = lacks-no k a r (and_parts (not (c == k)) (list_all (λ x. not (x == k)) (a ++ k ∷ r)) h).1

pub lacks-text : (k : ℕ) → k < 128 → (w : List ℕ) → IsUtf8 w → Lacks k (chars w) → Lacks k w
lacks-text k low w u h = lacks-by k w (λ a r e. lacks-no k (chars a) (chars r) (subst (Lacks k) (ap chars e ∙ cut-chars k low a r (subst IsUtf8 e u)) h))

-- When a binder's text goes on.
use Rattle.std.proofs.Common.{◌≡◌, ◌≢◌, ◌∙◌, ap, ap₂, sym, subst, refl, ℕ, ◌==◌, ◌&&◌, Bool, true, false, List, [], ◌∷◌, ◌++◌, length, Option, Some, None, append-nil, ne_eqb, arith, rules, tests, chars, encode_utf8_all, IsUtf8}
use Rattle.std.specs.List.{list_all}
use Rattle.std.specs.Option.{MatchOption}
use Rattle.std.proofs.lemmas.Bool.{false≢true, both_ways, and_parts}
use Rattle.std.proofs.lemmas.List.Folds.{list_all-append}
use Rattle.std.proofs.lemmas.Str.{chars-nil, chars-append, encodes-chars, encodes-append}
use Rattle.std.specs.Str.Pattern.{FindsTextPrefix, LacksTextAt, StripsPrefix}
use Rattle.java_tokens.specs.Classes.{is_digit}
use Rattle.java_shapes.specs.Words.{are_digits, is_binder}
use Rattle.java_shapes.specs.Reader.{begins_binder}
use Rattle.java_shapes.proofs.WordFacts.{binder_append}
use denote.Ref.{Bor}

-- a text without its prefix
pub stripped : (s p x : List ℕ) → IsUtf8 p → StripsPrefix (FindsTextPrefix p) s x → chars s ≡ chars p ++ chars x
stripped s p x u h = ap chars (h.1.1 ∙ ap (λ y. p ++ y) (sym h.2)) ∙ chars-append p x u

-- a text without this prefix
pub lacking : (s p : List ℕ) → IsUtf8 s → IsUtf8 p → LacksTextAt p s 0 → (rest : List ℕ) → chars s ≢ chars p ++ rest
lacking s p us up h rest e =
    h (encode_utf8_all rest) (sym (encodes-chars s us) ∙ ap encode_utf8_all e ∙ encodes-append (chars p) rest ∙ ap (λ x. x ++ encode_utf8_all rest) (encodes-chars p up))

-- a binder is the binder's text with digits
pub binder_splits : (b w : List ℕ) → is_binder b w ≡ true → (ds : List ℕ) × ((w ≡ b ++ ds) × (are_digits ds ≡ true))
unfolding is_binder
binder_splits [] w h = (w, (refl, h))
binder_splits (c ∷ b) [] h = absurd (false≢true h)
binder_splits (c ∷ b) (d ∷ w) h =
    let k = and_parts (c == d) (is_binder b w) h in
    let e : c ≡ d = (let t = k.0 in search (rules, tests)) in
    let r = binder_splits b w k.1 in
    (r.0, (ap₂ (λ x y. x ∷ y) (sym e) r.1.0, r.1.1))

pub binder_after : (b w ds : List ℕ) (r : Bool) → w ≡ b ++ ds → r ≡ are_digits ds → r ≡ is_binder b w
binder_after b w ds r e h = h ∙ sym (binder_append b ds) ∙ ap (is_binder b) (sym e)

never_by : (b w : List ℕ) → ((rest : List ℕ) → w ≢ b ++ rest) → (x : Bool) → is_binder b w ≡ x → false ≡ x
never_by b w h false e = refl
never_by b w h true e = let r = binder_splits b w e in absurd (h r.0 r.1.0)

pub binder_never : (b w : List ℕ) → ((rest : List ℕ) → w ≢ b ++ rest) → false ≡ is_binder b w
binder_never b w h = never_by b w h (is_binder b w) refl

one_and : (b : Bool) → (b && true) ≡ b
one_and true = refl
one_and false = refl

self_eq : (c : ℕ) → (c == c) ≡ true
self_eq c = search (rules, tests)

-- the beginning of a binder: a prefix of the binder's text, or that with digits
pub data Begun (p w : List ℕ) : Type 0 where
  inside : (d : ℕ) (r : List ℕ) → p ≡ w ++ d ∷ r → Begun p w
  whole : p ≡ w → Begun p w
  digits : (ds : List ℕ) → w ≡ p ++ ds → are_digits ds ≡ true → Begun p w

more_begun : (b : ℕ) (p w : List ℕ) → Begun p w → Begun (b ∷ p) (b ∷ w)
more_begun b p w (inside d r e) = inside d r (ap (λ x. b ∷ x) e)
more_begun b p w (whole e) = whole (ap (λ x. b ∷ x) e)
more_begun b p w (digits ds e h) = digits ds (ap (λ x. b ∷ x) e) h

pub begun_cases : (p w : List ℕ) → begins_binder p w ≡ true → Begun p w
unfolding begins_binder is_binder
begun_cases [] [] h = whole refl
begun_cases (b ∷ p) [] h = inside b p refl
begun_cases [] (c ∷ cs) h = digits (c ∷ cs) refl h
begun_cases (b ∷ p) (c ∷ cs) h =
    let k = and_parts (b == c) (begins_binder p cs) h in
    let e : b ≡ c = (let t = k.0 in search (rules, tests)) in
    subst (λ x. Begun (b ∷ p) (x ∷ cs)) e (more_begun b p cs (begun_cases p cs k.1))

pub next_inside : (w : List ℕ) (d : ℕ) (r : List ℕ) (k : ℕ) → begins_binder (w ++ d ∷ r) (w ++ k ∷ []) ≡ (d == k)
unfolding begins_binder
next_inside [] d [] k = one_and (d == k)
next_inside [] d (e ∷ r) k = one_and (d == k)
next_inside (c ∷ w) d r k = ap (λ x. x && begins_binder (w ++ d ∷ r) (w ++ k ∷ [])) (self_eq c) ∙ next_inside w d r k

one_digit : (k : ℕ) → are_digits (k ∷ []) ≡ is_digit k
unfolding are_digits
one_digit k = one_and (is_digit k)

more_digit : (ds : List ℕ) (k : ℕ) → are_digits ds ≡ true → are_digits (ds ++ k ∷ []) ≡ is_digit k
unfolding are_digits
more_digit [] k h = absurd (false≢true h)
more_digit (d ∷ ds) k h =
    let q = and_parts (is_digit d) (list_all is_digit ds) h in
    ap (λ x. x && list_all is_digit (ds ++ k ∷ [])) q.0
    ∙ list_all-append is_digit ds (k ∷ [])
    ∙ ap (λ x. x && (is_digit k && true)) q.1
    ∙ one_and (is_digit k)

pub next_whole : (p : List ℕ) (k : ℕ) → begins_binder p (p ++ k ∷ []) ≡ is_digit k
unfolding begins_binder is_binder
next_whole [] k = one_digit k
next_whole (c ∷ p) k = ap (λ x. x && begins_binder p (p ++ k ∷ [])) (self_eq c) ∙ next_whole p k

no_digits : are_digits [] ≡ true → ⊥
unfolding are_digits
no_digits e = false≢true e

pub next_digits : (p ds : List ℕ) (k : ℕ) → are_digits ds ≡ true → begins_binder p ((p ++ ds) ++ k ∷ []) ≡ is_digit k
unfolding begins_binder is_binder
next_digits [] [] k h = absurd (no_digits h)
next_digits [] (d ∷ ds) k h = more_digit (d ∷ ds) k h
next_digits (c ∷ p) ds k h = ap (λ x. x && begins_binder p ((p ++ ds) ++ k ∷ [])) (self_eq c) ∙ next_digits p ds k h

-- where the word is a prefix of the binder's text
pub next_some : (p w rest more : List ℕ) (d k : ℕ) (t : Bool) → p ≡ w ++ rest → rest ≡ d ∷ more → t ≡ (d == k) → t ≡ begins_binder p (w ++ k ∷ [])
next_some p w rest more d k t e f h = h ∙ sym (next_inside w d more k) ∙ ap (λ x. begins_binder x (w ++ k ∷ [])) (sym (e ∙ ap (λ x. w ++ x) f))

pub next_none : (p w rest : List ℕ) (k : ℕ) (t : Bool) → p ≡ w ++ chars rest → rest ≡ [] → t ≡ is_digit k → t ≡ begins_binder p (w ++ k ∷ [])
next_none p w rest k t e f h = h ∙ sym (next_whole w k) ∙ ap (λ x. begins_binder x (w ++ k ∷ [])) (sym (e ∙ ap (λ x. w ++ x) (ap chars f ∙ chars-nil) ∙ append-nil w))

pub next_past : (p w : List ℕ) (k : ℕ) (t : Bool) → begins_binder p w ≡ true → ((rest : List ℕ) → p ≢ w ++ rest) → t ≡ is_digit k → t ≡ begins_binder p (w ++ k ∷ [])
next_past p w k t begun h e =
    elim (begun_cases p w begun) [
      | inside d r q ↦ absurd (h (d ∷ r) q)
      | whole q ↦ absurd (h [] (q ∙ sym (append-nil w)))
      | digits ds q a ↦ e ∙ sym (next_digits p ds k a) ∙ ap (λ x. begins_binder p (x ++ k ∷ [])) (sym q)
    ]

-- a text behind a prefix, if there is one
pub after : (r : Option (Bor (List ℕ))) (s p : List ℕ) → IsUtf8 s → IsUtf8 p → MatchOption r (FindsTextPrefix p s None) (λ x. StripsPrefix (FindsTextPrefix p) s x.now) → MatchOption r ((rest : List ℕ) → chars s ≢ chars p ++ rest) (λ rest. chars s ≡ chars p ++ chars rest.now)
after None s p us up h = lacking s p us up h
after (Some x) s p us up h = stripped s p x.now up h

-- a text of digits
pub digits_none : (bs : List ℕ) → (length bs == 0) ≡ true → false ≡ are_digits (chars bs)
unfolding are_digits
digits_none [] e = sym (ap are_digits chars-nil)
digits_none (b ∷ bs) e = absurd (both_ways (length (b ∷ bs) == 0) (ne_eqb (length (b ∷ bs)) 0 (λ l. omega arith)) e)

digits_by : (cs bs : List ℕ) (r : Bool) → encode_utf8_all cs ≡ bs → (length bs == 0) ≡ false → r ≡ list_all is_digit cs → r ≡ are_digits cs
unfolding are_digits
digits_by [] bs r e n h = absurd (both_ways (length bs == 0) n (ap (λ x. length x == 0) (sym e)))
digits_by (c ∷ cs) bs r e n h = h

pub digits_all : (bs : List ℕ) (r : Bool) → IsUtf8 bs → (length bs == 0) ≡ false → r ≡ list_all is_digit (chars bs) → r ≡ are_digits (chars bs)
digits_all bs r u n h = digits_by (chars bs) bs r (encodes-chars bs u) n h

-- What the methods of `str` give, in the words of the definitions.
use Rattle.std.proofs.Common.{◌≡◌, ◌≢◌, ℕ, zero, suc, ◌+◌, ◌<◌, Bool, true, false, eqb, List, [], ◌∷◌, ◌++◌, length, get_or, drop, replicate, Option, Some, None, refl, sym, ap, subst, ◌∙◌, arith, rules}
use Rattle.std.specs.Borrow.{Bor}
use Rattle.std.specs.Str.{IsUtf8}
use Rattle.std.proofs.lemmas.Str.{IsUtf8-drop, IsCharBoundary-after_ascii}
use Rattle.std.proofs.lemmas.List.{length-append}
use Rattle.std.proofs.Math.Seq.{drop-append-add}
use Rattle.std.specs.Option.{option_map, MatchOption}
use Rattle.std.proofs.lemmas.Bool.{eqb-true}
use Rattle.type_names.specs.Reading.{past, until, named, letter_at, base_at, with_dims, field_at}
use Rattle.type_names.specs.declared.kinds.Erased.{Erased}

decided : (b : Bool) → (b ≡ true → ⊥) → b ≡ false
decided true h = absurd (h refl)
decided false h = refl

same : (c : ℕ) → eqb c c ≡ true
same c = search rules

pub past_is : (c : ℕ) (bs : List ℕ) (r : Option (Bor (List ℕ))) → MatchOption r ((rest : List ℕ) → bs ≢ c ∷ rest) (λ x. bs ≡ c ∷ x.now) → option_map (λ x. x.now) r ≡ past c bs
past_is c [] None h = refl
past_is c (d ∷ cs) None h = rw (decided (eqb d c) (λ e. h cs (ap (λ (k : ℕ). k ∷ cs) (eqb-true _ _ e)))) refl
past_is c bs (Some x) h = rw (h, same c) refl

no_first : (c : ℕ) (bs : List ℕ) → ((i : ℕ) → i < length bs → get_or bs i 0 ≢ c) → (d : ℕ) (cs : List ℕ) → bs ≡ d ∷ cs → (eqb d c ≡ false) × ((i : ℕ) → i < length cs → get_or cs i 0 ≢ c)
no_first c bs h d cs e = (decided (eqb d c) (λ t. h 0 (rw e (omega arith)) (rw e (eqb-true _ _ t))), λ i lt. rw e at h (suc i) (omega (arith, lt)))

until_none : (bs : List ℕ) → ((i : ℕ) → i < length bs → get_or bs i 0 ≢ 59) → until bs ≡ None
unfolding until
until_none [] h = refl
until_none (c ∷ cs) h = let n = no_first 59 (c ∷ cs) h c cs refl in rw (n.0, until_none cs n.1) refl

until_some : (xs ys : List ℕ) → ((i : ℕ) → i < length xs → get_or xs i 0 ≢ 59) → until (xs ++ (59 ∷ ys)) ≡ Some (xs, ys)
unfolding until
until_some [] ys h = refl
until_some (c ∷ cs) ys h = let n = no_first 59 (c ∷ cs) h c cs refl in rw (n.0, until_some cs ys n.1) refl

pub until_is : (bs : List ℕ) (r : Option (Bor (List ℕ) × Bor (List ℕ))) → MatchOption r ((i : ℕ) → i < length bs → get_or bs i 0 ≢ 59) (λ x. (bs ≡ x.0.now ++ (59 ∷ x.1.now)) × ((i : ℕ) → i < length x.0.now → get_or x.0.now i 0 ≢ 59)) → option_map (λ x. (x.0.now, x.1.now)) r ≡ until bs
until_is bs None h = sym (until_none bs h)
until_is bs (Some x) h = sym (ap until h.0 ∙ until_some x.0.now x.1.now h.1)

-- the base at the front
pub base_named : (bs name : List ℕ) → past 76 bs ≡ Some name → named (until name) ≡ base_at bs
unfolding base_at
base_named [] name e = absurd cc
base_named (c ∷ cs) name e = go (eqb c 76) refl
  where
    go : (b : Bool) → eqb c 76 ≡ b → named (until name) ≡ base_at (c ∷ cs)
    go true is = let inner : cs ≡ name = search (rules, rw is at e) in rw (is, inner) refl
    go false is = absurd (search (rules, rw is at e))

pub base_letter : (bs : List ℕ) → past 76 bs ≡ None → letter_at bs ≡ base_at bs
unfolding base_at
base_letter [] e = refl
base_letter (c ∷ cs) e = go (eqb c 76) refl
  where
    go : (b : Bool) → eqb c 76 ≡ b → letter_at (c ∷ cs) ≡ base_at (c ∷ cs)
    go true is = absurd (search (rules, rw is at e))
    go false is = rw is refl

-- the brackets at the front
pub past_some : (c : ℕ) (bs next : List ℕ) → past c bs ≡ Some next → bs ≡ c ∷ next
past_some c [] next e = absurd cc
past_some c (d ∷ cs) next e = go (eqb d c) refl
  where
    go : (b : Bool) → eqb d c ≡ b → d ∷ cs ≡ c ∷ next
    go true is = let inner : cs ≡ next = search (rules, rw is at e) in rw (eqb-true _ _ is, inner) refl
    go false is = absurd (search (rules, rw is at e))

pub bracket_more : (n : ℕ) (bs next : List ℕ) (w : Option (Erased × List ℕ)) → past 91 bs ≡ Some next → field_at n bs ≡ w → field_at (n + 1) next ≡ w
unfolding field_at
bracket_more n bs next w e so_far =
    let k : suc n ≡ n + 1 = omega arith in
    sym (ap (λ (i : ℕ). field_at i next) k) ∙ (sym (ap (field_at n) (past_some 91 bs next e)) ∙ so_far)

pub bracket_long : (bs next : List ℕ) → past 91 bs ≡ Some next → length bs ≡ suc (length next)
bracket_long bs next e = ap length (past_some 91 bs next e)

pub bracket_end : (n : ℕ) (bs : List ℕ) (w : Option (Erased × List ℕ)) → past 91 bs ≡ None → field_at n bs ≡ w → w ≡ with_dims n (base_at bs)
unfolding field_at base_at
bracket_end n [] w e so_far = sym so_far
bracket_end n (c ∷ cs) w e so_far = go (eqb c 91) refl
  where
    go : (b : Bool) → eqb c 91 ≡ b → w ≡ with_dims n (base_at (c ∷ cs))
    go true is = absurd (search (rules, rw is at e))
    go false is = sym so_far ∙ rw is refl

-- so many brackets
abbrev brackets : ℕ → List ℕ
brackets n = replicate n 91

pub one_more : (n : ℕ) → brackets n ++ (91 ∷ []) ≡ brackets (n + 1)
one_more n = let k : n + 1 ≡ suc n = omega arith in go n ∙ sym (ap brackets k)
  where
    go : (n : ℕ) → brackets n ++ (91 ∷ []) ≡ brackets (suc n)
    go zero = refl
    go (suc n) = ap (λ (t : List ℕ). 91 ∷ t) (go n)

-- what stands after a character of ASCII is text
pub utf8_past : (xs : List ℕ) (c : ℕ) (ys bs : List ℕ) → c < 128 → IsUtf8 bs → bs ≡ xs ++ (c ∷ ys) → IsUtf8 ys
utf8_past xs c ys bs ascii text e =
    let here : get_or bs (length xs) 0 ≡ c = ap (λ (t : List ℕ). get_or t (length xs) 0) e ∙ first_of xs in
    let rest : drop (length xs + 1) bs ≡ ys = ap (drop (length xs + 1)) e ∙ drop-append-add xs (c ∷ ys) 1 in
    subst IsUtf8 rest (IsUtf8-drop bs (length xs + 1) text (IsCharBoundary-after_ascii bs (length xs) text (omega (arith, ap length e, length-append xs (c ∷ ys))) (rw here ascii)))
  where
    first_of : (xs : List ℕ) → get_or (xs ++ (c ∷ ys)) (length xs) 0 ≡ c
    first_of [] = refl
    first_of (x ∷ more) = first_of more

pub utf8_rest : (c : ℕ) (bs next : List ℕ) → c < 128 → IsUtf8 bs → bs ≡ c ∷ next → IsUtf8 next
utf8_rest c bs next ascii text e = utf8_past [] c next bs ascii text e

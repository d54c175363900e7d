-- A table of links only grows.
use Rattle.std.proofs.Common.{◌≡◌, ℕ, zero, suc, ◌+◌, ◌-◌, ◌<◌, List, [], ◌∷◌, ◌++◌, length, get_or, refl, sym, ap, ◌∙◌, arith, length-append}
use Rattle.partial_terms.specs.Chained.{lists_from, lists_of, AreLinked, IsGrown}
use Rattle.partial_terms.specs.declared.chains.Link.{Link}

get_or-append : {T : Type 0} → (xs ys : List (List T)) (i : ℕ) → i < length xs → get_or (xs ++ ys) i [] ≡ get_or xs i []
get_or-append [] ys i l = absurd (omega arith)
get_or-append (x ∷ xs) ys zero l = refl
get_or-append (x ∷ xs) ys (suc i) l = get_or-append xs ys i (omega arith)

get_or-last : {T : Type 0} → (xs : List (List T)) (x : List T) → get_or (xs ++ x ∷ []) (length xs) [] ≡ x
get_or-last [] x = refl
get_or-last (y ∷ xs) x = get_or-last xs x

pub length-lists_from : {T : Type 0} → (lists : List (List T)) (ls : List (Link T)) → length (lists_from lists ls) ≡ length lists + length ls
unfolding lists_from
length-lists_from lists [] = omega arith
length-lists_from lists (l ∷ ls) = omega (arith, length-lists_from (lists ++ (l.head ∷ get_or lists l.tail []) ∷ []) ls, length-append lists ((l.head ∷ get_or lists l.tail []) ∷ []))

table-stays : {T : Type 0} → (lists : List (List T)) (ls : List (Link T)) (i : ℕ) → i < length lists → get_or (lists_from lists ls) i [] ≡ get_or lists i []
unfolding lists_from
table-stays lists [] i l = refl
table-stays lists (l ∷ ls) i h =
    let x = l.head ∷ get_or lists l.tail [] in
    table-stays (lists ++ x ∷ []) ls i (omega (arith, length-append lists (x ∷ []))) ∙ get_or-append lists (x ∷ []) i h

pub table-snoc : {T : Type 0} → (lists : List (List T)) (ls : List (Link T)) (l : Link T) → lists_from lists (ls ++ l ∷ []) ≡ lists_from lists ls ++ (l.head ∷ get_or (lists_from lists ls) l.tail []) ∷ []
unfolding lists_from
table-snoc lists [] l = refl
table-snoc lists (k ∷ ls) l = table-snoc (lists ++ (k.head ∷ get_or lists k.tail []) ∷ []) ls l

table-at : {T : Type 0} → (lists : List (List T)) (ls : List (Link T)) (k : ℕ) (d : Link T) → k < length ls → (get_or ls k d).tail < length lists + k → get_or (lists_from lists ls) (length lists + k) [] ≡ (get_or ls k d).head ∷ get_or (lists_from lists ls) (get_or ls k d).tail []
unfolding lists_from
table-at lists [] k d h t = absurd (omega arith)
table-at lists (l ∷ ls) zero d h t =
    let x = l.head ∷ get_or lists l.tail [] in
    let longer : length (lists ++ x ∷ []) ≡ length lists + 1 = length-append lists (x ∷ []) in
    let e : length lists + 0 ≡ length lists = omega arith in
    rw e (table-stays (lists ++ x ∷ []) ls (length lists) (omega (arith, longer)) ∙ get_or-last lists x
    ∙ ap (λ r. l.head ∷ r) (sym (table-stays (lists ++ x ∷ []) ls l.tail (omega (arith, longer)) ∙ get_or-append lists (x ∷ []) l.tail (omega arith))))
table-at lists (l ∷ ls) (suc k) d h t =
    let x = l.head ∷ get_or lists l.tail [] in
    let longer : length (lists ++ x ∷ []) ≡ length lists + 1 = length-append lists (x ∷ []) in
    let e : length lists + suc k ≡ length (lists ++ x ∷ []) + k = omega (arith, longer) in
    rw e (table-at (lists ++ x ∷ []) ls k d (omega arith) (omega (arith, longer)))

pub length-lists_of : {T : Type 0} → (ls : List (Link T)) → length (lists_of ls) ≡ length ls + 1
length-lists_of ls = omega (arith, length-lists_from ([] ∷ []) ls)

pub kept-snoc : {T : Type 0} → (ls : List (Link T)) (l : Link T) → lists_of (ls ++ l ∷ []) ≡ lists_of ls ++ (l.head ∷ get_or (lists_of ls) l.tail []) ∷ []
kept-snoc ls l = table-snoc ([] ∷ []) ls l

pub kept-none : {T : Type 0} → lists_of {T = T} [] ≡ [] ∷ []
unfolding lists_from
kept-none = refl

pub kept-at : {T : Type 0} → (ls : List (Link T)) (at : ℕ) (d : Link T) → AreLinked ls → 0 < at → at < length ls + 1 → get_or (lists_of ls) at [] ≡ (get_or ls (at - 1) d).head ∷ get_or (lists_of ls) (get_or ls (at - 1) d).tail []
kept-at ls at d linked some l =
    let e : at ≡ 1 + (at - 1) = omega arith in
    ap (λ i. get_or (lists_of ls) i []) e ∙ table-at ([] ∷ []) ls (at - 1) d (omega arith) (omega (arith, linked (at - 1) d (omega arith)))

pub kept-first : {T : Type 0} → (ls : List (Link T)) → get_or (lists_of ls) 0 [] ≡ []
kept-first ls = table-stays ([] ∷ []) ls 0 (omega arith)

pub grown-refl : {T : Type 0} (a : List (List T)) → IsGrown a a
grown-refl a = record { longer = omega arith; same = λ i l. refl }

pub grown-trans : {T : Type 0} (a b c : List (List T)) → IsGrown a b → IsGrown b c → IsGrown a c
grown-trans a b c h k = record { longer = omega (arith, h.longer, k.longer); same = λ i l. k.same i (omega (arith, h.longer)) ∙ h.same i l }

pub grown-snoc : {T : Type 0} (ls : List (Link T)) (l : Link T) → IsGrown (lists_of ls) (lists_of (ls ++ l ∷ []))
grown-snoc ls l =
    let x = l.head ∷ get_or (lists_of ls) l.tail [] in
    rw (kept-snoc ls l) (record { longer = omega (arith, length-append (lists_of ls) (x ∷ [])); same = λ i h. get_or-append (lists_of ls) (x ∷ []) i h })

pub grown-push : {T : Type 0} (old : List (List T)) (ls ls' : List (Link T)) (l : Link T) → lists_of ls ≡ old → ls' ≡ ls ++ l ∷ [] → IsGrown old (lists_of ls')
grown-push old ls ls' l is pushed = rw (← is, pushed) (grown-snoc ls l)

pub kept-last : {T : Type 0} (ls : List (Link T)) (l : Link T) → get_or (lists_of (ls ++ l ∷ [])) (length ls + 1) [] ≡ l.head ∷ get_or (lists_of ls) l.tail []
kept-last ls l =
    let x = l.head ∷ get_or (lists_of ls) l.tail [] in
    let n : length ls + 1 ≡ length (lists_of ls) = sym (length-lists_of ls) in
    rw (kept-snoc ls l, n) (get_or-last (lists_of ls) x)

pub ruleset chained_lists = (length-lists_of, kept-snoc, kept-none, kept-at, kept-first, grown-refl, grown-snoc, kept-last)

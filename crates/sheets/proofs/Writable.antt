-- What a sheet says can be written: its texts are words, and its types are told apart.
use Rattle.std.proofs.Common.{rules, ◌≡◌, ◌∙◌, sym, ap, subst, ℕ, suc, zero, ◌+◌, ◌-◌, ◌<◌, ◌≤◌, List, [], ◌∷◌, ◌++◌, length, take, drop, map, get_or, arith, refl, Bool, true, false, ◌&&◌, not, ◌==◌, if◌then◌else◌, Option, Some, None, append_assoc, append-nil, length-append}
use Rattle.std.specs.Prelude.{nat_le, nat_lt, is_some, option_map, unwrap_or, codes, bytes_eq, slice_index}
use Rattle.std.specs.List.{flat_map, list_all, slice_split, onto_first}
use Rattle.std.specs.Str.{is_utf8}
use Rattle.std.specs.Str.Lines.{lines, lines_of_parts, strip_carriage_return}
use Rattle.std.proofs.lemmas.Bool.{ltb-true, ltb-false, eqb-true}
use Rattle.std.proofs.lemmas.Grind.{flat_map-append}
use Rattle.std.proofs.lemmas.List.{get_or_append_left}
use Rattle.std.proofs.lemmas.Slice.Eq.{bytes_eq-Decides}
use Rattle.std.proofs.Math.Seq.{get_or-append_seam}
use Rattle.name_places.specs.Places.{place_of}
use Rattle.sheets.specs.Words.{word, words_of, is_word, is_number, has}
use Rattle.sheets.specs.SheetLines.{Line, blank, other, type_line, sub_line, decl_line, goal_line, number_line, binder_line, DeclWords, is_skipped, of_length, of_decl, of_newer, decl_kind, kind_by, kind_of, line_by, line_of, version_of}
use Rattle.sheets.specs.Sheets.{cause, cause_after, once_cause, first_fault, or_later, Fault, types_of, type_in, binders_of, decl_in, decl_of, form_of, first, parts_of, body_of, lines_fault, text_fault, parts_fault, sheet_fault, fault_or, IsSheet}
use Rattle.sheets.specs.Writing.{name_of, form_names, is_plain, IsWritable}
use Rattle.sheets.specs.declared.kind.FormWord.{FormWord}
use Rattle.sheets.specs.declared.kind.FormWord.TheVariants as word_for
use Rattle.sheets.specs.declared.kind.NumberWord.{NumberWord}
use Rattle.sheets.specs.declared.kind.NumberWord.TheVariants as number_word
use Rattle.sheets.specs.declared.kind.Version.{Version}
use Rattle.sheets.specs.declared.kind.Version.TheVariants.{One, Two}
use Rattle.sheets.specs.declared.kind.Kind.{Kind}
use Rattle.sheets.specs.declared.kind.Kind.TheVariants as kind
use Rattle.terms.specs.declared.parts.Decl.{Decl}
use Rattle.terms.specs.declared.parts.Parts.{Parts}
use Rattle.sheets.proofs.Indices.{place-more}
use Rattle.sheets.proofs.Cuts.{both, of-both, all-weaker}
use Rattle.sheets.proofs.Apart.{AreApart, has-name}

-- what stands between cuts
abbrev part-test : (ℕ → Bool) → (ℕ → Bool) → ℕ → Bool
part-test p q b = not (p b) && q b

first-kept : (r : ℕ → Bool) (x : ℕ) (parts : List (List ℕ)) → r x ≡ true → list_all (list_all r) parts ≡ true → list_all (list_all r) (onto_first x parts) ≡ true
first-kept r x [] e h = of-both (list_all r (x ∷ [])) true (of-both (r x) true e refl) refl
first-kept r x (part ∷ parts) e h =
    let k = both (list_all r part) (list_all (list_all r) parts) h in
    of-both (list_all r (x ∷ part)) (list_all (list_all r) parts) (of-both (r x) (list_all r part) e k.0) k.1

cut-kept : (r : ℕ → Bool) (x : ℕ) (parts : List (List ℕ)) (b : Bool) → (b ≡ false → r x ≡ true) → list_all (list_all r) parts ≡ true → list_all (list_all r) (if b then [] ∷ parts else onto_first x parts) ≡ true
cut-kept r x parts true e h = h
cut-kept r x parts false e h = first-kept r x parts (e refl) h

test-kept : (p q : ℕ → Bool) (x : ℕ) → q x ≡ true → p x ≡ false → part-test p q x ≡ true
test-kept p q x h e = rw (e, h) refl

split-all : (p q : ℕ → Bool) (xs : List ℕ) → list_all q xs ≡ true → list_all (list_all (part-test p q)) (slice_split p xs) ≡ true
split-all p q [] h = refl
split-all p q (x ∷ xs) h =
    let k = both (q x) (list_all q xs) h in
    cut-kept (part-test p q) x (slice_split p xs) (p x) (test-kept p q x k.0) (split-all p q xs k.1)

-- the lines hold no line feed
all-true : (xs : List ℕ) → list_all (λ b. true) xs ≡ true
all-true [] = refl
all-true (x ∷ xs) = all-true xs

all-take : (r : ℕ → Bool) (n : ℕ) (xs : List ℕ) → list_all r xs ≡ true → list_all r (take n xs) ≡ true
all-take r zero xs h = refl
all-take r (suc n) [] h = refl
all-take r (suc n) (x ∷ xs) h =
    let k = both (r x) (list_all r xs) h in
    of-both (r x) (list_all r (take n xs)) k.0 (all-take r n xs k.1)

either : (r : ℕ → Bool) (b : Bool) (xs ys : List ℕ) → list_all r xs ≡ true → list_all r ys ≡ true → list_all r (if b then xs else ys) ≡ true
either r true xs ys h k = h
either r false xs ys h k = k

last-kept : (r : ℕ → Bool) (b : Bool) (x : List ℕ) → list_all r x ≡ true → list_all (list_all r) (if b then [] else x ∷ []) ≡ true
last-kept r true x h = refl
last-kept r false x h = of-both (list_all r x) true h refl

lines-kept : (r : ℕ → Bool) (parts : List (List ℕ)) → list_all (list_all r) parts ≡ true → list_all (list_all r) (lines_of_parts parts) ≡ true
lines-kept r [] h = refl
lines-kept r (x ∷ []) h = last-kept r (length x == 0) x (both (list_all r x) true h).0
lines-kept r (x ∷ y ∷ more) h =
    let k = both (list_all r x) (list_all (list_all r) (y ∷ more)) h in
    of-both (list_all r (strip_carriage_return x)) (list_all (list_all r) (lines_of_parts (y ∷ more)))
    (either r (slice_index x (length x - 1) == 13) (take (length x - 1) x) x (all-take r (length x - 1) x k.0) k.0) (lines-kept r (y ∷ more) k.1)

abbrev pub is_open : ℕ → Bool
is_open b = not (b == 10)

open-test : (b : ℕ) → part-test (λ c. c == 10) (λ c. true) b ≡ true → is_open b ≡ true
open-test b h = (both (not (b == 10)) true h).0

open-line : (l : List ℕ) → list_all (part-test (λ c. c == 10) (λ c. true)) l ≡ true → list_all is_open l ≡ true
open-line l h = all-weaker (part-test (λ c. c == 10) (λ c. true)) is_open l open-test h

lines-open : (bs : List ℕ) → list_all (list_all is_open) (lines bs) ≡ true
lines-open bs =
    let r = part-test (λ c. c == 10) (λ c. true) in
    all-weaker (list_all r) (list_all is_open) (lines bs) open-line (lines-kept r (slice_split (λ c. c == 10) bs) (split-all (λ c. c == 10) (λ c. true) bs (all-true bs)))

drop-one : (ls : List (List ℕ)) → list_all (list_all is_open) ls ≡ true → list_all (list_all is_open) (drop 1 ls) ≡ true
drop-one [] h = refl
drop-one (l ∷ ls) h = (both (list_all is_open l) (list_all (list_all is_open) ls) h).1

-- words of a line
abbrev shut : ℕ → Bool
shut b = not (b == 32) && not (b == 10)

words-shut : (l : List ℕ) → list_all is_open l ≡ true → list_all (list_all shut) (words_of l) ≡ true
words-shut l h = split-all (λ b. b == 32) is_open l h

plain-of : (w : List ℕ) → is_word w ≡ true → list_all shut w ≡ true → is_plain w ≡ true
unfolding is_plain
plain-of w h k = of-both (is_word w) (list_all shut w) h k

plain-all : (ws : List (List ℕ)) → list_all is_word ws ≡ true → list_all (list_all shut) ws ≡ true → list_all is_plain ws ≡ true
plain-all [] h k = refl
plain-all (w ∷ ws) h k =
    let a = both (is_word w) (list_all is_word ws) h in
    let b = both (list_all shut w) (list_all (list_all shut) ws) k in
    of-both (is_plain w) (list_all is_plain ws) (plain-of w a.0 b.0) (plain-all ws a.1 b.1)

word-plain : (ws : List (List ℕ)) (i : ℕ) → list_all is_plain ws ≡ true → i < length ws → is_plain (word ws i) ≡ true
unfolding word
word-plain [] i h l = absurd (omega (arith, l))
word-plain (w ∷ ws) zero h l = (both (is_plain w) (list_all is_plain ws) h).0
word-plain (w ∷ ws) (suc i) h l = word-plain ws i (both (is_plain w) (list_all is_plain ws) h).1 (omega (arith, l))

not-false : (b : Bool) → not b ≡ false → b ≡ true
not-false true e = refl
not-false false e = absurd cc

-- a line whose names are words
abbrev pub plain_line : Line → Bool
plain_line (type_line t) = is_plain t
plain_line (decl_line d) = list_all is_plain (form_names (form_of d.form d.name))
plain_line (binder_line t) = is_plain t
plain_line _ = true

abbrev Good : List (List ℕ) → Kind → Type 0
Good ws k = plain_line (line_by k ws) ≡ true

choose : (ws : List (List ℕ)) (b : Bool) (x y : Kind) → (b ≡ true → Good ws x) → (b ≡ false → Good ws y) → Good ws (if b then x else y)
choose ws true x y f g = f refl
choose ws false x y f g = g refl

good-other : (ws : List (List ℕ)) → Good ws kind.Other
unfolding line_by
good-other ws = refl

good-type : (ws : List (List ℕ)) → list_all is_plain ws ≡ true → (length ws == 2) ≡ true → Good ws kind.Type
unfolding line_by
good-type ws h e = word-plain ws 1 h (omega (arith, eqb-true (length ws) 2 e))

good-binder : (ws : List (List ℕ)) → list_all is_plain ws ≡ true → (length ws == 2) ≡ true → Good ws kind.Binder
unfolding line_by
good-binder ws h e = word-plain ws 1 h (omega (arith, eqb-true (length ws) 2 e))

good-sub : (ws : List (List ℕ)) → Good ws kind.Sub
unfolding line_by
good-sub ws = refl

good-goal : (ws : List (List ℕ)) → Good ws kind.Goal
unfolding line_by
good-goal ws = refl

good-number : (ws : List (List ℕ)) (w : NumberWord) → Good ws (kind.Number w)
unfolding line_by
good-number ws w = refl

good-newer : (v : Version) (ws : List (List ℕ)) (w : NumberWord) → Good ws (of_newer v ws w)
unfolding of_newer
good-newer One ws w = good-other ws
good-newer Two ws w = choose ws (length ws == 2) (kind.Number w) kind.Other (λ e. good-number ws w) (λ e. good-other ws)

within : (m n : ℕ) → nat_le m n ≡ true → m ≤ n
within m n e = search rules

one-plain : (w : List ℕ) → is_plain w ≡ true → list_all is_plain (w ∷ []) ≡ true
one-plain w h = of-both (is_plain w) true h refl

good-form : (crowded : Bool) (f : FormWord) (ws : List (List ℕ)) → is_plain (word ws 4) ≡ true → Good ws (kind.Decl crowded f)
unfolding line_by form_of
good-form crowded word_for.Name ws h = one-plain (word ws 4) h
good-form crowded word_for.This ws h = refl
good-form crowded word_for.Call ws h = one-plain (word ws 4) h
good-form crowded word_for.New ws h = one-plain (word ws 4) h
good-form crowded word_for.Method ws h = one-plain (word ws 4) h
good-form crowded word_for.Field ws h = one-plain (word ws 4) h
good-form crowded word_for.HiddenField ws h = one-plain (word ws 4) h
good-form crowded word_for.Lambda ws h = one-plain (word ws 4) h

good-this : (crowded : Bool) (ws : List (List ℕ)) → Good ws (kind.Decl crowded word_for.This)
unfolding line_by form_of
good-this crowded ws = refl

good-decl : (crowded : Bool) (n : ℕ) (ws : List (List ℕ)) (f : FormWord) → 5 ≤ n → list_all is_plain ws ≡ true → Good ws (of_decl crowded n ws f)
good-decl crowded n ws f l h =
    choose ws (nat_le n (length ws)) (kind.Decl crowded f) kind.Other (λ e. good-form crowded f ws (word-plain ws 4 h (omega (arith, l, within n (length ws) e)))) (λ e. good-other ws)

good-decls : (crowded : Bool) (ws : List (List ℕ)) → list_all is_plain ws ≡ true → Good ws (decl_kind crowded ws)
unfolding decl_kind
good-decls crowded ws h =
    let five : 5 ≤ 5 = omega arith in
    choose ws (bytes_eq (word ws 3) (codes "name")) _ _ (λ e. good-decl crowded 5 ws word_for.Name five h) (λ e.
    choose ws (bytes_eq (word ws 3) (codes "call")) _ _ (λ e. good-decl crowded 5 ws word_for.Call five h) (λ e.
    choose ws (bytes_eq (word ws 3) (codes "new")) _ _ (λ e. good-decl crowded 5 ws word_for.New five h) (λ e.
    choose ws (bytes_eq (word ws 3) (codes "method")) _ _ (λ e. good-decl crowded 5 ws word_for.Method five h) (λ e.
    choose ws (bytes_eq (word ws 3) (codes "field")) _ _ (λ e. good-decl crowded 5 ws word_for.Field five h) (λ e.
    choose ws (bytes_eq (word ws 3) (codes "hidden-field")) _ _ (λ e. good-decl crowded 5 ws word_for.HiddenField five h) (λ e.
    choose ws (bytes_eq (word ws 3) (codes "this")) _ _ (λ e. choose ws (nat_le 4 (length ws)) (kind.Decl crowded word_for.This) kind.Other (λ e. good-this crowded ws) (λ e. good-other ws)) (λ e.
    choose ws (bytes_eq (word ws 3) (codes "lambda")) _ _ (λ e. choose ws (bytes_eq (word ws (length ws - 2)) (codes "->")) _ kind.Other (λ e. good-decl crowded 7 ws word_for.Lambda (omega arith) h) (λ e. good-other ws)) (λ e. good-other ws))))))))

good-kinds : (v : Version) (ws : List (List ℕ)) → list_all (list_all shut) ws ≡ true → Good ws (kind_by v ws)
unfolding kind_by
good-kinds v ws s =
    choose ws (not (list_all is_word ws)) kind.Other _ (λ e. good-other ws) (λ e.
    let h : list_all is_plain ws ≡ true = plain-all ws (not-false (list_all is_word ws) e) s in
    choose ws (bytes_eq (word ws 0) (codes "type")) _ _ (λ e. choose ws (length ws == 2) kind.Type kind.Other (λ n. good-type ws h n) (λ n. good-other ws)) (λ e.
    choose ws (bytes_eq (word ws 0) (codes "sub")) _ _ (λ e. choose ws (length ws == 3) kind.Sub kind.Other (λ n. good-sub ws) (λ n. good-other ws)) (λ e.
    choose ws (bytes_eq (word ws 0) (codes "decl")) _ _ (λ e. good-decls false ws h) (λ e.
    choose ws (bytes_eq (word ws 0) (codes "crowded")) _ _ (λ e. good-decls true ws h) (λ e.
    choose ws (bytes_eq (word ws 0) (codes "goal")) _ _ (λ e. choose ws (length ws == 2) kind.Goal kind.Other (λ n. good-goal ws) (λ n. good-other ws)) (λ e.
    choose ws (bytes_eq (word ws 0) (codes "limit")) _ _ (λ e. choose ws (length ws == 2) (kind.Number number_word.Limit) kind.Other (λ n. good-number ws number_word.Limit) (λ n. good-other ws)) (λ e.
    choose ws (bytes_eq (word ws 0) (codes "depth")) _ _ (λ e. choose ws (length ws == 2) (kind.Number number_word.Depth) kind.Other (λ n. good-number ws number_word.Depth) (λ n. good-other ws)) (λ e.
    choose ws (bytes_eq (word ws 0) (codes "binder")) _ _ (λ e. choose ws (length ws == 2) kind.Binder kind.Other (λ n. good-binder ws h n) (λ n. good-other ws)) (λ e.
    choose ws (bytes_eq (word ws 0) (codes "bound")) _ _ (λ e. good-newer v ws number_word.Bound) (λ e.
    choose ws (bytes_eq (word ws 0) (codes "binding")) _ _ (λ e. good-newer v ws number_word.Binding) (λ e.
    choose ws (bytes_eq (word ws 0) (codes "step")) _ kind.Other (λ e. good-newer v ws number_word.Step) (λ e. good-other ws))))))))))))

good-blank : (ws : List (List ℕ)) → Good ws kind.Blank
unfolding line_by
good-blank ws = refl

line-plain : (v : Version) (l : List ℕ) → list_all is_open l ≡ true → plain_line (line_of v l) ≡ true
unfolding kind_of
line-plain v l h = choose (words_of l) (is_skipped l) kind.Blank (kind_by v (words_of l)) (λ e. good-blank (words_of l)) (λ e. good-kinds v (words_of l) (words-shut l h))

lines-plain : (v : Version) (ls : List (List ℕ)) → list_all (list_all is_open) ls ≡ true → list_all plain_line (map (line_of v) ls) ≡ true
lines-plain v [] h = refl
lines-plain v (l ∷ ls) h =
    let k = both (list_all is_open l) (list_all (list_all is_open) ls) h in
    of-both (plain_line (line_of v l)) (list_all plain_line (map (line_of v) ls)) (line-plain v l k.0) (lines-plain v ls k.1)

-- what such lines say
types-plain : (ls : List Line) → list_all plain_line ls ≡ true → list_all is_plain (types_of ls) ≡ true
types-plain [] h = refl
types-plain (blank ∷ ls) h = types-plain ls h
types-plain (other ∷ ls) h = types-plain ls h
types-plain (type_line t ∷ ls) h =
    let k = both (is_plain t) (list_all plain_line ls) h in
    of-both (is_plain t) (list_all is_plain (types_of ls)) k.0 (types-plain ls k.1)
types-plain (sub_line a b ∷ ls) h = types-plain ls h
types-plain (decl_line d ∷ ls) h = types-plain ls (both (plain_line (decl_line d)) (list_all plain_line ls) h).1
types-plain (goal_line t ∷ ls) h = types-plain ls h
types-plain (number_line w t ∷ ls) h = types-plain ls h
types-plain (binder_line t ∷ ls) h = types-plain ls (both (is_plain t) (list_all plain_line ls) h).1

binders-plain : (ls : List Line) → list_all plain_line ls ≡ true → list_all is_plain (binders_of ls) ≡ true
binders-plain [] h = refl
binders-plain (blank ∷ ls) h = binders-plain ls h
binders-plain (other ∷ ls) h = binders-plain ls h
binders-plain (type_line t ∷ ls) h = binders-plain ls (both (is_plain t) (list_all plain_line ls) h).1
binders-plain (sub_line a b ∷ ls) h = binders-plain ls h
binders-plain (decl_line d ∷ ls) h = binders-plain ls (both (plain_line (decl_line d)) (list_all plain_line ls) h).1
binders-plain (goal_line t ∷ ls) h = binders-plain ls h
binders-plain (number_line w t ∷ ls) h = binders-plain ls h
binders-plain (binder_line t ∷ ls) h =
    let k = both (is_plain t) (list_all plain_line ls) h in
    of-both (is_plain t) (list_all is_plain (binders_of ls)) k.0 (binders-plain ls k.1)

usual-plain : is_plain (codes "p") ≡ true
unfolding is_plain is_word
usual-plain = refl

first-plain : (bs : List (List ℕ)) → list_all is_plain bs ≡ true → is_plain (unwrap_or (first bs) (codes "p")) ≡ true
first-plain [] h = usual-plain
first-plain (b ∷ bs) h = (both (is_plain b) (list_all is_plain bs) h).0

abbrev named-plain : Decl → Bool
named-plain d = list_all is_plain (form_names d.form)

decls-plain : (ts : List (List ℕ)) (ls : List Line) → list_all plain_line ls ≡ true → list_all named-plain (flat_map (decl_in ts) ls) ≡ true
decls-plain ts [] h = refl
decls-plain ts (blank ∷ ls) h = decls-plain ts ls h
decls-plain ts (other ∷ ls) h = decls-plain ts ls h
decls-plain ts (type_line t ∷ ls) h = decls-plain ts ls (both (is_plain t) (list_all plain_line ls) h).1
decls-plain ts (sub_line a b ∷ ls) h = decls-plain ts ls h
decls-plain ts (decl_line d ∷ ls) h =
    let k = both (plain_line (decl_line d)) (list_all plain_line ls) h in
    of-both (named-plain (decl_of ts d)) (list_all named-plain (flat_map (decl_in ts) ls)) k.0 (decls-plain ts ls k.1)
decls-plain ts (goal_line t ∷ ls) h = decls-plain ts ls h
decls-plain ts (number_line w t ∷ ls) h = decls-plain ts ls h
decls-plain ts (binder_line t ∷ ls) h = decls-plain ts ls (both (is_plain t) (list_all plain_line ls) h).1

-- types that are declared once are told apart
not-some : (b : Bool) (p : Option ℕ) → is_some (if b then Some 0 else option_map suc p) ≡ false → (b ≡ false) × (is_some p ≡ false)
not-some true p e = absurd cc
not-some false None e = (refl, refl)
not-some false (Some n) e = absurd cc

place-new : (ts : List (List ℕ)) (t : List ℕ) → has ts t ≡ false → place_of (ts ++ t ∷ []) t ≡ Some (length ts)
unfolding place_of
place-new [] t h = rw ((bytes_eq-Decides t t).1 refl) refl
place-new (x ∷ ts) t h =
    let k = not-some (bytes_eq x t) (place_of ts t) h in
    rw (k.0, place-new ts t k.1) refl

apart-at : (ts : List (List ℕ)) (t : List ℕ) (i : ℕ) (b : Bool) → nat_lt i (length ts) ≡ b → AreApart ts → has ts t ≡ false → i < length (ts ++ t ∷ []) → place_of (ts ++ t ∷ []) (name_of (ts ++ t ∷ []) i) ≡ Some i
apart-at ts t i true e apart h l =
    let below : i < length ts = ltb-true i (length ts) e in
    ap (place_of (ts ++ t ∷ [])) (get_or_append_left ts (t ∷ []) [] i below) ∙ place-more ts (t ∷ []) (name_of ts i) (has-name ts i apart below) ∙ apart i below
apart-at ts t i false e apart h l =
    let at : i ≡ length ts = omega (arith, ltb-false i (length ts) e, l, length-append ts (t ∷ [])) in
    let last : place_of (ts ++ t ∷ []) (name_of (ts ++ t ∷ []) (length ts)) ≡ Some (length ts) = ap (place_of (ts ++ t ∷ [])) (get_or-append_seam ts t [] []) ∙ place-new ts t h in
    subst (λ k. place_of (ts ++ t ∷ []) (name_of (ts ++ t ∷ []) k) ≡ Some k) (sym at) last

apart-more : (ts : List (List ℕ)) (t : List ℕ) → AreApart ts → has ts t ≡ false → AreApart (ts ++ t ∷ [])
apart-more ts t apart h i l = apart-at ts t i (nat_lt i (length ts)) refl apart h l

once-none : (n : ℕ) (b : Bool) → once_cause n b ≡ None → b ≡ false
unfolding once_cause
once-none n true e = absurd cc
once-none n false e = refl

later-none : (o : Option ℕ) (n : ℕ) (later : Option Fault) → or_later o n later ≡ None → (o ≡ None) × (later ≡ None)
unfolding or_later
later-none None n later e = (refl, e)
later-none (Some c) n later e = absurd cc

same-types : (ts : List (List ℕ)) → AreApart ts → AreApart (ts ++ [])
same-types ts apart = subst AreApart (sym (append-nil ts)) apart

type-added : (before : List Line) (l : Line) → AreApart (types_of before) → cause_after before l ≡ None → AreApart (types_of before ++ type_in l)
unfolding cause
type-added before blank a e = same-types (types_of before) a
type-added before other a e = same-types (types_of before) a
type-added before (type_line t) a e = apart-more (types_of before) t a (once-none 6 (has (types_of before) t) e)
type-added before (sub_line x y) a e = same-types (types_of before) a
type-added before (decl_line d) a e = same-types (types_of before) a
type-added before (goal_line t) a e = same-types (types_of before) a
type-added before (number_line w t) a e = same-types (types_of before) a
type-added before (binder_line t) a e = same-types (types_of before) a

types-more : (before : List Line) (l : Line) → types_of before ++ type_in l ≡ types_of (before ++ l ∷ [])
types-more before l = ap (λ x. types_of before ++ x) (sym (append-nil (type_in l))) ∙ sym (flat_map-append type_in before (l ∷ []))

apart-all : (n : ℕ) (before ls : List Line) → first_fault n before ls ≡ None → AreApart (types_of before) → AreApart (types_of (before ++ ls))
unfolding first_fault
apart-all n before [] e a = subst (λ x. AreApart (types_of x)) (sym (append-nil before)) a
apart-all n before (l ∷ ls) e a =
    let k = later-none (cause_after before l) n (first_fault (n + 1) (before ++ l ∷ []) ls) e in
    let next : AreApart (types_of (before ++ l ∷ [])) = subst AreApart (types-more before l) (type-added before l a k.0) in
    subst (λ x. AreApart (types_of x)) (append_assoc before (l ∷ []) ls) (apart-all (n + 1) (before ++ l ∷ []) ls k.1 next)

none-apart : AreApart []
none-apart i l = absurd (omega (arith, l))

-- a sheet without a fault
or-none : (f later : Option Fault) → fault_or f later ≡ None → f ≡ None
unfolding fault_or
or-none None later e = refl
or-none (Some f) later e = absurd cc

if-none : (b c : Bool) (f g h : Option Fault) → (f ≡ None → ⊥) → (g ≡ None → ⊥) → (if b then f else if c then g else h) ≡ None → h ≡ None
if-none true c f g h p q e = absurd (p e)
if-none false true f g h p q e = absurd (q e)
if-none false false f g h p q e = e

if-some : (b : Bool) (f g : Option Fault) → (g ≡ None → ⊥) → (if b then f else g) ≡ None → f ≡ None
if-some true f g p e = e
if-some false f g p e = absurd (p e)

text-none : (bs : List ℕ) → text_fault bs ≡ None → lines_fault (lines bs) ≡ None
unfolding text_fault
text-none bs e = if-none (not (nat_le (length bs) 16777216)) (not (is_utf8 bs)) _ _ (lines_fault (lines bs)) (λ x. absurd cc) (λ x. absurd cc) e

lines-none : (ls : List (List ℕ)) → lines_fault ls ≡ None → first_fault 2 [] (body_of ls) ≡ None
unfolding lines_fault
lines-none ls e = if-some (is_some (version_of (word ls 0))) (first_fault 2 [] (body_of ls)) _ (λ x. absurd cc) e

pub sheet-writable : (bs : List ℕ) (g : Parts) → IsSheet bs g → IsWritable g
unfolding sheet_fault
sheet-writable bs g sheet =
    let ls = body_of (lines bs) in
    let fine : first_fault 2 [] ls ≡ None = lines-none (lines bs) (text-none bs (or-none (text_fault bs) (parts_fault ls) sheet.faultless)) in
    let plain : list_all plain_line ls ≡ true = lines-plain (unwrap_or (version_of (word (lines bs) 0)) One) (drop 1 (lines bs)) (drop-one (lines bs) (lines-open bs)) in
    let w : IsWritable (parts_of ls) = record {
      types = types-plain ls plain;
      apart = apart-all 2 [] ls fine none-apart;
      names = decls-plain (types_of ls) ls plain;
      binder = first-plain (binders_of ls) (binders-plain ls plain);
    } in
    subst IsWritable (sym sheet.says) w

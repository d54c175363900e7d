-- How the reader goes through casts, and through the interface and the binders of a lambda.
use Rattle.std.proofs.Common.{◌≡◌, ◌∙◌, ap, ap₂, sym, subst, refl, ℕ, zero, suc, ◌==◌, ◌&&◌, ◌||◌, not, Bool, true, false, List, [], ◌∷◌, ◌++◌, Option, Some, None, codes, append_assoc, append-nil, eq-eqb, eqb-true, if◌then◌else◌, bytes_eq}
use Rattle.std.specs.List.{list_all}
use Rattle.std.specs.Str.{chars}
use Rattle.std.specs.Char.{is_ascii}
use Rattle.std.proofs.lemmas.Bool.{false≢true, and_parts, or_left}
use Rattle.std.proofs.lemmas.List.Folds.{list_all-append}
use Rattle.std.proofs.lemmas.List.{append_cancel_left}
use Rattle.std.proofs.lemmas.Slice.Eq.{bytes_eq-Decides}
use Rattle.java_tokens.specs.Classes.{is_digit}
use Rattle.java_tokens.specs.Words.{is_word, is_ascii_word}
use Rattle.java_tokens.proofs.WordLaws.{word_laws}
use Rattle.java_units.specs.Signs.{has, reserved}
use Rattle.java_units.specs.Forms.{primitives}
use Rattle.terms.specs.Text.{listed}
use Rattle.java_shapes.specs.Words.{spells_identifier, dotted, are_digits, is_binder, IsQualified}
use Rattle.java_shapes.specs.Grammar.{dimensions}
use Rattle.java_shapes.specs.Reader.{Around, top, in_call, in_body, in_group, Part, opened, typing, sized, either, either_opened, either_word, either_closed, binders_opened, in_binder, due, start, arrow, may_cast, is_empty, begins_binder, when, binder_step, step, run}
use Rattle.java_shapes.proofs.WordFacts.{and_both, identifier_word, numbered_identifier, has_passes}
use Rattle.java_shapes.proofs.RunWords.{NoSign, no_sign, word_front, word_part_at, step_runs, same_step, typing_word, either_words, last_of, front_of, front_last, last_spells, typing_path, no_empty_word}

-- a character that is due
pub due_runs : (p : List ℕ) (j : ℕ) (q : Part) (ks : List ℕ) → run p (due j q) (j ∷ ks) ≡ run p q ks
unfolding step
due_runs p j q ks = step_runs p (due j q) q j ks (ap (λ x. when x q) (eq-eqb j j refl))

pub arrow_runs : (p : List ℕ) (a : Around) (c : Option (List ℕ)) (s : List ℕ) (bs : List (List ℕ)) (ks : List ℕ) → run p (arrow a c s bs) (codes " -> " ++ ks) ≡ run p (start (in_body a c s bs) None) ks
arrow_runs p a c s bs ks =
    let last = start (in_body a c s bs) None in
    due_runs p 32 (due 45 (due 62 (due 32 last))) (45 ∷ 62 ∷ 32 ∷ ks) ∙ due_runs p 45 (due 62 (due 32 last)) (62 ∷ 32 ∷ ks) ∙ due_runs p 62 (due 32 last) (32 ∷ ks) ∙ due_runs p 32 last ks

-- binders
pub split_binder : (p w : List ℕ) → is_binder p w ≡ true → (ds : List ℕ) × ((w ≡ p ++ ds) × (are_digits ds ≡ true))
unfolding is_binder
split_binder [] w h = (w, (refl, h))
split_binder (b ∷ p) [] h = absurd (false≢true h)
split_binder (b ∷ p) (c ∷ w) h =
    let k = and_parts (b == c) (is_binder p w) h in
    let s = split_binder p w k.1 in
    (s.0, (ap₂ (λ x y. x ∷ y) (sym (eqb-true b c k.0)) s.1.0, s.1.1))

pub binder_spells : (p w : List ℕ) → spells_identifier p ≡ true → is_binder p w ≡ true → spells_identifier w ≡ true
binder_spells p w h b = let s = split_binder p w b in subst (λ x. spells_identifier x ≡ true) (sym s.1.0) (numbered_identifier p s.0 h s.1.1)

pub digits_front : (v : List ℕ) (k : ℕ) (w : List ℕ) → are_digits (v ++ k ∷ w) ≡ true → are_digits (v ++ k ∷ []) ≡ true
unfolding are_digits
digits_front [] k w h = and_both (is_digit k) true (and_parts (is_digit k) (list_all is_digit w) h).0 refl
digits_front (c ∷ v) k w h =
    let a = and_parts (is_digit c) (list_all is_digit (v ++ k ∷ w)) h in
    let b = and_parts (list_all is_digit v) (list_all is_digit (k ∷ w)) (sym (list_all-append is_digit v (k ∷ w)) ∙ a.1) in
    let d = and_parts (is_digit k) (list_all is_digit w) b.1 in
    and_both (is_digit c) (list_all is_digit (v ++ k ∷ [])) a.0 (list_all-append is_digit v (k ∷ []) ∙ and_both (list_all is_digit v) (is_digit k && true) b.0 (and_both (is_digit k) true d.0 refl))

pub none_front : (v : List ℕ) (k : ℕ) → begins_binder [] (v ++ k ∷ []) ≡ is_binder [] (v ++ k ∷ [])
unfolding begins_binder
none_front [] k = refl
none_front (c ∷ v) k = refl

pub binder_front : (p v : List ℕ) (k : ℕ) (w : List ℕ) → is_binder p (v ++ k ∷ w) ≡ true → begins_binder p (v ++ k ∷ []) ≡ true
unfolding is_binder begins_binder
binder_front [] v k w h = none_front v k ∙ digits_front v k w h
binder_front (b ∷ p) [] k w h = and_both (b == k) true (and_parts (b == k) (is_binder p w) h).0 refl
binder_front (b ∷ p) (c ∷ v) k w h = let a = and_parts (b == c) (is_binder p (v ++ k ∷ w)) h in and_both (b == c) (begins_binder p (v ++ k ∷ [])) a.0 (binder_front p v k w a.1)

pub binder_more : (p : List ℕ) (a : Around) (c : Option (List ℕ)) (s : List ℕ) (bs : List (List ℕ)) (v : List ℕ) (k : ℕ) → NoSign k → begins_binder p (v ++ k ∷ []) ≡ true → binder_step p a c s bs v k ≡ Some (in_binder a c s bs (v ++ k ∷ []))
binder_more p a c s bs v k n h = rw (n.n44, n.n41, h) refl

pub binder_word : (p : List ℕ) → spells_identifier p ≡ true → (a : Around) (c : Option (List ℕ)) (s : List ℕ) (bs : List (List ℕ)) (w v ks : List ℕ) → is_binder p (v ++ w) ≡ true → run p (in_binder a c s bs v) (w ++ ks) ≡ run p (in_binder a c s bs (v ++ w)) ks
unfolding step
binder_word p id a c s bs [] v ks h = ap (λ x. run p (in_binder a c s bs x) ks) (sym (append-nil v))
binder_word p id a c s bs (k ∷ w) v ks h =
    let n = no_sign k (word_part_at v k w (identifier_word (v ++ k ∷ w) (binder_spells p (v ++ k ∷ w) id h))) in
    step_runs p (in_binder a c s bs v) (in_binder a c s bs (v ++ k ∷ [])) k (w ++ ks) (binder_more p a c s bs v k n (binder_front p v k w h))
    ∙ binder_word p id a c s bs w (v ++ k ∷ []) ks (ap (is_binder p) (append_assoc v (k ∷ []) w) ∙ h)
    ∙ ap (λ x. run p (in_binder a c s bs x) ks) (append_assoc v (k ∷ []) w)

pub binder_comma : (p : List ℕ) (a : Around) (c : Option (List ℕ)) (s : List ℕ) (bs : List (List ℕ)) (w ks : List ℕ) → is_binder p w ≡ true → run p (in_binder a c s bs w) (codes ", " ++ ks) ≡ run p (in_binder a c s (bs ++ w ∷ []) []) ks
unfolding step
binder_comma p a c s bs w ks h =
    step_runs p (in_binder a c s bs w) (due 32 (in_binder a c s (bs ++ w ∷ []) [])) 44 (32 ∷ ks) (ap (λ x. when x (due 32 (in_binder a c s (bs ++ w ∷ []) []))) h)
    ∙ due_runs p 32 (in_binder a c s (bs ++ w ∷ []) []) ks

pub binder_right : (p : List ℕ) (a : Around) (c : Option (List ℕ)) (s : List ℕ) (bs : List (List ℕ)) (w ks : List ℕ) → is_binder p w ≡ true → run p (in_binder a c s bs w) (41 ∷ (codes " -> " ++ ks)) ≡ run p (start (in_body a c s (bs ++ w ∷ [])) None) ks
unfolding step
binder_right p a c s bs w ks h =
    step_runs p (in_binder a c s bs w) (arrow a c s (bs ++ w ∷ [])) 41 (codes " -> " ++ ks) (ap (λ x. when x (arrow a c s (bs ++ w ∷ []))) h)
    ∙ arrow_runs p a c s (bs ++ w ∷ []) ks

-- what stands behind the first of joined texts
pub binders_rest : (v : List ℕ) (more : List (List ℕ)) → (t : List ℕ) × (listed (v ∷ more) ≡ v ++ t)
unfolding listed
binders_rest v [] = ([], sym (append-nil v))
binders_rest v (u ∷ more) = (codes ", " ++ listed (u ∷ more), append_assoc v (codes ", ") (listed (u ∷ more)))

-- the rest of the binders, behind a whole one
pub binders_tail : (p : List ℕ) → spells_identifier p ≡ true → (a : Around) (c : Option (List ℕ)) (s : List ℕ) (bs : List (List ℕ)) (w : List ℕ) (more : List (List ℕ)) (ks : List ℕ) → is_binder p w ≡ true → list_all (is_binder p) more ≡ true
    → (t : List ℕ) → listed (w ∷ more) ≡ w ++ t → run p (in_binder a c s bs w) (t ++ 41 ∷ (codes " -> " ++ ks)) ≡ run p (start (in_body a c s (bs ++ w ∷ more)) None) ks
unfolding listed
binders_tail p id a c s bs w [] ks h all t e =
    let none : t ≡ [] = append_cancel_left w t [] (sym e ∙ sym (append-nil w)) in
    ap (λ x. run p (in_binder a c s bs w) (x ++ 41 ∷ (codes " -> " ++ ks))) none ∙ binder_right p a c s bs w ks h
binders_tail p id a c s bs w (v ∷ more) ks h all t e =
    let r = and_parts (is_binder p v) (list_all (is_binder p) more) all in
    let tail = binders_rest v more in
    let is : t ≡ codes ", " ++ (v ++ tail.0) = append_cancel_left w t (codes ", " ++ (v ++ tail.0)) (sym e ∙ append_assoc w (codes ", ") (listed (v ∷ more)) ∙ ap (λ x. w ++ (codes ", " ++ x)) tail.1) in
    ap (λ x. run p (in_binder a c s bs w) (x ++ 41 ∷ (codes " -> " ++ ks))) is
    ∙ binder_comma p a c s bs w ((v ++ tail.0) ++ 41 ∷ (codes " -> " ++ ks)) h
    ∙ ap (run p (in_binder a c s (bs ++ w ∷ []) [])) (append_assoc v tail.0 (41 ∷ (codes " -> " ++ ks)))
    ∙ binder_word p id a c s (bs ++ w ∷ []) v [] (tail.0 ++ 41 ∷ (codes " -> " ++ ks)) r.0
    ∙ binders_tail p id a c s (bs ++ w ∷ []) v more ks r.0 r.1 tail.0 tail.1
    ∙ ap (λ x. run p (start (in_body a c s x) None) ks) (append_assoc bs (w ∷ []) (v ∷ more))

-- all binders, behind their `(`
pub none_joined : (p ds : List ℕ) → is_word p ≡ true → [] ≡ p ++ ds → ⊥
none_joined [] ds h e = no_empty_word h
none_joined (c ∷ p) ds h e = cc

pub no_word_none : (p : List ℕ) → spells_identifier p ≡ true → is_binder p [] ≡ true → ⊥
no_word_none p id h = let s = split_binder p [] h in none_joined p s.0 (identifier_word p id) s.1.0

pub opened_binder : (p : List ℕ) (a : Around) (c : Option (List ℕ)) (s : List ℕ) (k : ℕ) → (k == 41) ≡ false → step p (binders_opened a c s) k ≡ step p (in_binder a c s [] []) k
unfolding step
opened_binder p a c s k h = ap (λ x. if x then Some (arrow a c s []) else binder_step p a c s [] [] k) h

pub opened_right : (p : List ℕ) (a : Around) (c : Option (List ℕ)) (s : List ℕ) → step p (binders_opened a c s) 41 ≡ Some (arrow a c s [])
unfolding step
opened_right p a c s = refl

pub binders_runs : (p : List ℕ) → spells_identifier p ≡ true → (a : Around) (c : Option (List ℕ)) (s : List ℕ) (bs : List (List ℕ)) (ks : List ℕ) → list_all (is_binder p) bs ≡ true → run p (binders_opened a c s) (listed bs ++ 41 ∷ (codes " -> " ++ ks)) ≡ run p (start (in_body a c s bs) None) ks
unfolding listed
binders_runs p id a c s [] ks all = step_runs p (binders_opened a c s) (arrow a c s []) 41 (codes " -> " ++ ks) (opened_right p a c s) ∙ arrow_runs p a c s [] ks
binders_runs p id a c s ([] ∷ more) ks all = absurd (no_word_none p id (and_parts (is_binder p []) (list_all (is_binder p) more) all).0)
binders_runs p id a c s ((k ∷ w) ∷ more) ks all =
    let r = and_parts (is_binder p (k ∷ w)) (list_all (is_binder p) more) all in
    let n = no_sign k (word_part_at [] k w (identifier_word (k ∷ w) (binder_spells p (k ∷ w) id r.0))) in
    let tail = binders_rest (k ∷ w) more in
    ap (λ x. run p (binders_opened a c s) (x ++ 41 ∷ (codes " -> " ++ ks))) tail.1
    ∙ same_step p (binders_opened a c s) (in_binder a c s [] []) k ((w ++ tail.0) ++ 41 ∷ (codes " -> " ++ ks)) (opened_binder p a c s k n.n41)
    ∙ ap (run p (in_binder a c s [] [])) (append_assoc (k ∷ w) tail.0 (41 ∷ (codes " -> " ++ ks)))
    ∙ binder_word p id a c s [] (k ∷ w) [] (tail.0 ++ 41 ∷ (codes " -> " ++ ks)) r.0
    ∙ binders_tail p id a c s [] (k ∷ w) more ks r.0 r.1 tail.0 tail.1

-- in brackets: a path
pub opened_word : (p : List ℕ) (a : Around) (c : Option (List ℕ)) (k : ℕ) → NoSign k → is_word (k ∷ []) ≡ true → step p (opened a c) k ≡ Some (typing a c [] (k ∷ []))
unfolding step
opened_word p a c k n h = rw (n.n40, h) refl

pub opened_runs : (p : List ℕ) (a : Around) (c : Option (List ℕ)) (w ks : List ℕ) → is_word w ≡ true → run p (opened a c) (w ++ ks) ≡ run p (typing a c [] w) ks
opened_runs p a c [] ks h = absurd (no_empty_word h)
opened_runs p a c (k ∷ w) ks h =
    step_runs p (opened a c) (typing a c [] (k ∷ [])) k (w ++ ks) (opened_word p a c k (no_sign k (word_part_at [] k w h)) (word_front [] k w h))
    ∙ typing_word p a c [] w (k ∷ []) ks h

pub opened_path : (p : List ℕ) (a : Around) (c : Option (List ℕ)) (t : List ℕ) (s : IsQualified t) (ks : List ℕ) → run p (opened a c) (t ++ ks) ≡ run p (typing a c (front_of [] s.first s.rest) (last_of s.first s.rest)) ks
opened_path p a c t s ks =
    ap (λ x. run p (opened a c) (x ++ ks)) s.is ∙ ap (run p (opened a c)) (append_assoc s.first (dotted s.rest) ks)
    ∙ opened_runs p a c s.first (dotted s.rest ++ ks) (identifier_word s.first s.first_is)
    ∙ typing_path p a c [] s.first s.rest ks s.first_is s.rest_are

pub path_whole : (t : List ℕ) (s : IsQualified t) → front_of [] s.first s.rest ++ last_of s.first s.rest ≡ t
path_whole t s = front_last [] s.first s.rest ∙ sym s.is

pub type_right : (p : List ℕ) (a : Around) (c : Option (List ℕ)) (done w : List ℕ) → spells_identifier w ≡ true → step p (typing a c done w) 41 ≡ Some (due 32 (if may_cast a c then either a (done ++ w) else due 40 (binders_opened a c (done ++ w))))
unfolding step
type_right p a c done w h = ap (λ x. if x then Some (due 32 (if may_cast a c then either a (done ++ w) else due 40 (binders_opened a c (done ++ w)))) else when (may_cast a c && (is_empty done && has primitives w)) (due 32 (start a (Some w)))) h

-- behind `(T) `
pub named_runs : (p : List ℕ) (a : Around) (c : Option (List ℕ)) (t : List ℕ) → IsQualified t → (ks : List ℕ) → run p (opened a c) (t ++ 41 ∷ 32 ∷ ks) ≡ run p (if may_cast a c then either a t else due 40 (binders_opened a c t)) ks
named_runs p a c t s ks =
    let done = front_of [] s.first s.rest in
    let w = last_of s.first s.rest in
    opened_path p a c t s (41 ∷ 32 ∷ ks)
    ∙ step_runs p (typing a c done w) (due 32 (if may_cast a c then either a (done ++ w) else due 40 (binders_opened a c (done ++ w)))) 41 (32 ∷ ks) (type_right p a c done w (last_spells s.first s.rest s.first_is s.rest_are))
    ∙ due_runs p 32 (if may_cast a c then either a (done ++ w) else due 40 (binders_opened a c (done ++ w))) ks
    ∙ ap (λ x. run p (if may_cast a c then either a x else due 40 (binders_opened a c x)) ks) (path_whole t s)

-- behind the interface of a lambda that may be a cast
pub either_open : (p : List ℕ) (a : Around) (s ks : List ℕ) → run p (either a s) (40 ∷ ks) ≡ run p (either_opened a s) ks
unfolding step
either_open p a s ks = step_runs p (either a s) (either_opened a s) 40 ks refl

pub either_begins : (p : List ℕ) (a : Around) (s : List ℕ) (k : ℕ) → NoSign k → is_word (k ∷ []) ≡ true → step p (either_opened a s) k ≡ Some (either_word a s (k ∷ []))
unfolding step
either_begins p a s k n h = rw (n.n41, n.n40, h) refl

pub either_runs : (p : List ℕ) (a : Around) (s w ks : List ℕ) → is_word w ≡ true → run p (either_opened a s) (w ++ ks) ≡ run p (either_word a s w) ks
either_runs p a s [] ks h = absurd (no_empty_word h)
either_runs p a s (k ∷ w) ks h =
    step_runs p (either_opened a s) (either_word a s (k ∷ [])) k (w ++ ks) (either_begins p a s k (no_sign k (word_part_at [] k w h)) (word_front [] k w h))
    ∙ either_words p a s w (k ∷ []) ks h

pub either_right : (p : List ℕ) (a : Around) (s ks : List ℕ) → run p (either_opened a s) (41 ∷ ks) ≡ run p (arrow a None s []) ks
unfolding step
either_right p a s ks = step_runs p (either_opened a s) (arrow a None s []) 41 ks refl

pub word_comma : (p : List ℕ) (a : Around) (s w ks : List ℕ) → is_binder p w ≡ true → run p (either_word a s w) (codes ", " ++ ks) ≡ run p (in_binder a None s (w ∷ []) []) ks
unfolding step
word_comma p a s w ks h =
    step_runs p (either_word a s w) (due 32 (in_binder a None s (w ∷ []) [])) 44 (32 ∷ ks) (ap (λ x. when x (due 32 (in_binder a None s (w ∷ []) []))) h)
    ∙ due_runs p 32 (in_binder a None s (w ∷ []) []) ks

pub word_right : (p : List ℕ) (a : Around) (s w ks : List ℕ) → spells_identifier w ≡ true → run p (either_word a s w) (41 ∷ 32 ∷ ks) ≡ run p (either_closed a s w) ks
unfolding step
word_right p a s w ks h =
    step_runs p (either_word a s w) (due 32 (either_closed a s w)) 41 (32 ∷ ks) (ap (λ x. when x (due 32 (either_closed a s w))) (or_left (spells_identifier w) (is_binder p w) h))
    ∙ due_runs p 32 (either_closed a s w) ks

pub closed_arrow : (p : List ℕ) (a : Around) (s w ks : List ℕ) → is_binder p w ≡ true → run p (either_closed a s w) (45 ∷ 62 ∷ 32 ∷ ks) ≡ run p (start (in_body a None s (w ∷ [])) None) ks
unfolding step
closed_arrow p a s w ks h =
    let last = start (in_body a None s (w ∷ [])) None in
    step_runs p (either_closed a s w) (due 62 (due 32 last)) 45 (62 ∷ 32 ∷ ks) (ap (λ x. when x (due 62 (due 32 last))) h)
    ∙ due_runs p 62 (due 32 last) (32 ∷ ks) ∙ due_runs p 32 last ks

pub either_lambda : (p : List ℕ) → spells_identifier p ≡ true → (a : Around) (s : List ℕ) (bs : List (List ℕ)) (ks : List ℕ) → list_all (is_binder p) bs ≡ true → run p (either a s) (40 ∷ (listed bs ++ 41 ∷ (codes " -> " ++ ks))) ≡ run p (start (in_body a None s bs) None) ks
unfolding listed
either_lambda p id a s [] ks all = either_open p a s (41 ∷ (codes " -> " ++ ks)) ∙ either_right p a s (codes " -> " ++ ks) ∙ arrow_runs p a None s [] ks
either_lambda p id a s (w ∷ []) ks all =
    let r = (and_parts (is_binder p w) true all).0 in
    let spelled = binder_spells p w id r in
    either_open p a s (w ++ 41 ∷ (codes " -> " ++ ks)) ∙ either_runs p a s w (41 ∷ (codes " -> " ++ ks)) (identifier_word w spelled)
    ∙ word_right p a s w (45 ∷ 62 ∷ 32 ∷ ks) spelled ∙ closed_arrow p a s w ks r
either_lambda p id a s (w ∷ v ∷ more) ks all =
    let r = and_parts (is_binder p w) (list_all (is_binder p) (v ∷ more)) all in
    let q = and_parts (is_binder p v) (list_all (is_binder p) more) r.1 in
    let tail = binders_rest v more in
    let text = 41 ∷ (codes " -> " ++ ks) in
    either_open p a s (((w ++ codes ", ") ++ listed (v ∷ more)) ++ text)
    ∙ ap (run p (either_opened a s)) (append_assoc (w ++ codes ", ") (listed (v ∷ more)) text ∙ append_assoc w (codes ", ") (listed (v ∷ more) ++ text))
    ∙ either_runs p a s w (codes ", " ++ (listed (v ∷ more) ++ text)) (identifier_word w (binder_spells p w id r.0))
    ∙ word_comma p a s w (listed (v ∷ more) ++ text) r.0
    ∙ ap (λ x. run p (in_binder a None s (w ∷ []) []) (x ++ text)) tail.1
    ∙ ap (run p (in_binder a None s (w ∷ []) [])) (append_assoc v tail.0 text)
    ∙ binder_word p id a None s (w ∷ []) v [] (tail.0 ++ text) q.0
    ∙ binders_tail p id a None s (w ∷ []) v more ks q.0 q.1 tail.0 tail.1

-- the head of a lambda, behind its first `(`
pub may_none : (a : Around) (c : Option (List ℕ)) → may_cast a c ≡ true → c ≡ None
may_none top c h = absurd (false≢true h)
may_none (in_call a d b t args) None h = refl
may_none (in_call a d b t args) (Some c) h = absurd (false≢true h)
may_none (in_body a d s bs) None h = refl
may_none (in_body a d s bs) (Some c) h = absurd (false≢true h)
may_none (in_group a d) None h = refl
may_none (in_group a d) (Some c) h = absurd (false≢true h)

pub may_some : (a : Around) (s : List ℕ) → may_cast a (Some s) ≡ false
may_some top s = refl
may_some (in_call a d b t args) s = refl
may_some (in_body a d n bs) s = refl
may_some (in_group a d) s = refl

-- the text of a lambda's head without its first `(`
abbrev pub head_rest : List ℕ → List (List ℕ) → List ℕ → List ℕ
head_rest n bs ks = n ++ 41 ∷ 32 ∷ 40 ∷ (listed bs ++ 41 ∷ (codes " -> " ++ ks))

pub lambda_by : (p : List ℕ) → spells_identifier p ≡ true → (a : Around) (c : Option (List ℕ)) (n : List ℕ) (bs : List (List ℕ)) (ks : List ℕ) → list_all (is_binder p) bs ≡ true → (m : Bool) → may_cast a c ≡ m
    → run p (if m then either a n else due 40 (binders_opened a c n)) (40 ∷ (listed bs ++ 41 ∷ (codes " -> " ++ ks))) ≡ run p (start (in_body a c n bs) None) ks
lambda_by p id a c n bs ks all true m = either_lambda p id a n bs ks all ∙ ap (λ x. run p (start (in_body a x n bs) None) ks) (sym (may_none a c m))
lambda_by p id a c n bs ks all false m = due_runs p 40 (binders_opened a c n) (listed bs ++ 41 ∷ (codes " -> " ++ ks)) ∙ binders_runs p id a c n bs ks all

pub lambda_opened : (p : List ℕ) → spells_identifier p ≡ true → (a : Around) (c : Option (List ℕ)) (n : List ℕ) (bs : List (List ℕ)) (ks : List ℕ) → IsQualified n → list_all (is_binder p) bs ≡ true → run p (opened a c) (head_rest n bs ks) ≡ run p (start (in_body a c n bs) None) ks
lambda_opened p id a c n bs ks s all =
    named_runs p a c n s (40 ∷ (listed bs ++ 41 ∷ (codes " -> " ++ ks))) ∙ lambda_by p id a c n bs ks all (may_cast a c) refl

-- the same behind `(T) (`, where it may be cast
pub closed_open : (p : List ℕ) (a : Around) (s w ks : List ℕ) → spells_identifier w ≡ true → run p (either_closed a s w) (40 ∷ ks) ≡ run p (binders_opened a (Some s) w) ks
unfolding step
closed_open p a s w ks h = step_runs p (either_closed a s w) (binders_opened a (Some s) w) 40 ks (ap (λ x. when x (binders_opened a (Some s) w)) h)

pub word_dot : (p : List ℕ) (a : Around) (s w ks : List ℕ) → spells_identifier w ≡ true → run p (either_word a s w) (46 ∷ ks) ≡ run p (typing a (Some s) (w ++ 46 ∷ []) []) ks
unfolding step
word_dot p a s w ks h = step_runs p (either_word a s w) (typing a (Some s) (w ++ 46 ∷ []) []) 46 ks (ap (λ x. when x (typing a (Some s) (w ++ 46 ∷ []) [])) h)

pub cast_lambda_by : (p : List ℕ) → spells_identifier p ≡ true → (a : Around) (s m : List ℕ) (rest : List (List ℕ)) (bs : List (List ℕ)) (ks : List ℕ) → spells_identifier m ≡ true → list_all spells_identifier rest ≡ true → list_all (is_binder p) bs ≡ true
    → run p (either_opened a s) ((m ++ dotted rest) ++ 41 ∷ 32 ∷ 40 ∷ (listed bs ++ 41 ∷ (codes " -> " ++ ks))) ≡ run p (start (in_body a (Some s) (m ++ dotted rest) bs) None) ks
unfolding dotted
cast_lambda_by p id a s m [] bs ks h k all =
    let text = listed bs ++ 41 ∷ (codes " -> " ++ ks) in
    ap (λ x. run p (either_opened a s) (x ++ 41 ∷ 32 ∷ 40 ∷ text)) (append-nil m)
    ∙ either_runs p a s m (41 ∷ 32 ∷ 40 ∷ text) (identifier_word m h)
    ∙ word_right p a s m (40 ∷ text) h ∙ closed_open p a s m text h ∙ binders_runs p id a (Some s) m bs ks all
    ∙ ap (λ x. run p (start (in_body a (Some s) x bs) None) ks) (sym (append-nil m))
cast_lambda_by p id a s m (n ∷ rest) bs ks h k all =
    let text = listed bs ++ 41 ∷ (codes " -> " ++ ks) in
    let r = and_parts (spells_identifier n) (list_all spells_identifier rest) k in
    let done = front_of (m ++ 46 ∷ []) n rest in
    let w = last_of n rest in
    ap (run p (either_opened a s)) (append_assoc m (46 ∷ (n ++ dotted rest)) (41 ∷ 32 ∷ 40 ∷ text))
    ∙ either_runs p a s m (46 ∷ ((n ++ dotted rest) ++ 41 ∷ 32 ∷ 40 ∷ text)) (identifier_word m h)
    ∙ word_dot p a s m ((n ++ dotted rest) ++ 41 ∷ 32 ∷ 40 ∷ text) h
    ∙ ap (run p (typing a (Some s) (m ++ 46 ∷ []) [])) (append_assoc n (dotted rest) (41 ∷ 32 ∷ 40 ∷ text))
    ∙ typing_word p a (Some s) (m ++ 46 ∷ []) n [] (dotted rest ++ 41 ∷ 32 ∷ 40 ∷ text) (identifier_word n r.0)
    ∙ typing_path p a (Some s) (m ++ 46 ∷ []) n rest (41 ∷ 32 ∷ 40 ∷ text) r.0 r.1
    ∙ step_runs p (typing a (Some s) done w) (due 32 (if may_cast a (Some s) then either a (done ++ w) else due 40 (binders_opened a (Some s) (done ++ w)))) 41 (32 ∷ 40 ∷ text) (type_right p a (Some s) done w (last_spells n rest r.0 r.1))
    ∙ ap (λ x. run p (due 32 (if x then either a (done ++ w) else due 40 (binders_opened a (Some s) (done ++ w)))) (32 ∷ 40 ∷ text)) (may_some a s)
    ∙ due_runs p 32 (due 40 (binders_opened a (Some s) (done ++ w))) (40 ∷ text)
    ∙ due_runs p 40 (binders_opened a (Some s) (done ++ w)) text
    ∙ ap (λ x. run p (binders_opened a (Some s) x) text) (front_last (m ++ 46 ∷ []) n rest ∙ append_assoc m (46 ∷ []) (n ++ dotted rest))
    ∙ binders_runs p id a (Some s) (m ++ 46 ∷ (n ++ dotted rest)) bs ks all

pub cast_lambda : (p : List ℕ) → spells_identifier p ≡ true → (a : Around) (s n : List ℕ) (bs : List (List ℕ)) (ks : List ℕ) → IsQualified n → list_all (is_binder p) bs ≡ true → run p (either a s) (40 ∷ head_rest n bs ks) ≡ run p (start (in_body a (Some s) n bs) None) ks
cast_lambda p id a s n bs ks q all =
    either_open p a s (head_rest n bs ks)
    ∙ ap (λ x. run p (either_opened a s) (x ++ 41 ∷ 32 ∷ 40 ∷ (listed bs ++ 41 ∷ (codes " -> " ++ ks)))) q.is
    ∙ cast_lambda_by p id a s q.first q.rest bs ks q.first_is q.rest_are all
    ∙ ap (λ x. run p (start (in_body a (Some s) x bs) None) ks) (sym q.is)

-- casts
pub primitive_test : List ℕ → Bool
primitive_test w = has reserved w && ((list_all is_ascii w && is_ascii_word w) && bytes_eq (chars w) w)

pub primitives_pass : list_all primitive_test primitives ≡ true
unfolding primitive_test has reserved chars
primitives_pass = refl

pub record IsPrimitive (w : List ℕ) : Type 0 where
  pub no_identifier : spells_identifier w ≡ false
  pub word : is_word w ≡ true

pub and_never : (b : Bool) → (b && false) ≡ false
and_never true = refl
and_never false = refl

pub primitive_by : (w : List ℕ) → primitive_test w ≡ true → IsPrimitive w
unfolding primitive_test spells_identifier
primitive_by w h =
    let a = and_parts (has reserved w) ((list_all is_ascii w && is_ascii_word w) && bytes_eq (chars w) w) h in
    let b = and_parts (list_all is_ascii w && is_ascii_word w) (bytes_eq (chars w) w) a.1 in
    let d = and_parts (list_all is_ascii w) (is_ascii_word w) b.0 in
    record {
      no_identifier = ap (λ x. is_word w && not x) a.0 ∙ and_never (is_word w);
      word = sym (ap is_word ((bytes_eq-Decides (chars w) w).0 b.1)) ∙ word_laws.ascii w d.0 ∙ d.1;
    }

pub primitive_word : (w : List ℕ) → has primitives w ≡ true → IsPrimitive w
primitive_word w h = primitive_by w (has_passes primitive_test primitives w primitives_pass h)

pub sized_right : (p : List ℕ) (a : Around) (t ks : List ℕ) → run p (sized a t) (41 ∷ 32 ∷ ks) ≡ run p (start a (Some t)) ks
unfolding step
sized_right p a t ks = step_runs p (sized a t) (due 32 (start a (Some t))) 41 (32 ∷ ks) refl ∙ due_runs p 32 (start a (Some t)) ks

pub sized_left : (p : List ℕ) (a : Around) (t ks : List ℕ) → run p (sized a t) (91 ∷ ks) ≡ run p (due 93 (sized a (t ++ 91 ∷ 93 ∷ []))) ks
unfolding step
sized_left p a t ks = step_runs p (sized a t) (due 93 (sized a (t ++ 91 ∷ 93 ∷ []))) 91 ks refl

pub sized_more : (p : List ℕ) (a : Around) (t : List ℕ) (n : ℕ) (ks : List ℕ) → run p (sized a t) (dimensions n ++ 41 ∷ 32 ∷ ks) ≡ run p (start a (Some (t ++ dimensions n))) ks
unfolding dimensions
sized_more p a t zero ks = sized_right p a t ks ∙ ap (λ x. run p (start a (Some x)) ks) (sym (append-nil t))
sized_more p a t (suc n) ks =
    sized_left p a t (93 ∷ (dimensions n ++ 41 ∷ 32 ∷ ks)) ∙ due_runs p 93 (sized a (t ++ 91 ∷ 93 ∷ [])) (dimensions n ++ 41 ∷ 32 ∷ ks)
    ∙ sized_more p a (t ++ 91 ∷ 93 ∷ []) n ks ∙ ap (λ x. run p (start a (Some x)) ks) (append_assoc t (91 ∷ 93 ∷ []) (dimensions n))

pub type_left : (p : List ℕ) (a : Around) (done w : List ℕ) (ks : List ℕ) → may_cast a None ≡ true → (spells_identifier w || (is_empty done && has primitives w)) ≡ true → run p (typing a None done w) (91 ∷ ks) ≡ run p (due 93 (sized a ((done ++ w) ++ 91 ∷ 93 ∷ []))) ks
unfolding step
type_left p a done w ks m h =
    step_runs p (typing a None done w) (due 93 (sized a ((done ++ w) ++ 91 ∷ 93 ∷ []))) 91 ks
    (ap (λ x. when x (due 93 (sized a ((done ++ w) ++ 91 ∷ 93 ∷ [])))) (and_both (may_cast a None) (spells_identifier w || (is_empty done && has primitives w)) m h))

pub primitive_right : (p : List ℕ) (a : Around) (w ks : List ℕ) → may_cast a None ≡ true → has primitives w ≡ true → run p (typing a None [] w) (41 ∷ 32 ∷ ks) ≡ run p (start a (Some w)) ks
unfolding step
primitive_right p a w ks m h =
    step_runs p (typing a None [] w) (due 32 (start a (Some w))) 41 (32 ∷ ks)
    (ap (λ x. if x then Some (due 32 (if may_cast a None then either a w else due 40 (binders_opened a None w))) else when (may_cast a None && has primitives w) (due 32 (start a (Some w)))) (primitive_word w h).no_identifier
    ∙ ap (λ x. when x (due 32 (start a (Some w)))) (and_both (may_cast a None) (has primitives w) m h))
    ∙ due_runs p 32 (start a (Some w)) ks

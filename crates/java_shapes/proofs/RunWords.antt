-- How the reader goes through words and names.
use Rattle.std.proofs.Common.{◌≡◌, ◌∙◌, inl, inr, ap, sym, subst, refl, ℕ, ◌==◌, ◌&&◌, ◌||◌, not, Bool, true, false, List, [], ◌∷◌, ◌++◌, Option, Some, None, codes, lit<, append_assoc, append-nil, ne_eqb, if◌then◌else◌}
use Rattle.std.specs.List.{list_all}
use Rattle.std.specs.Char.{is_ascii}
use Rattle.std.specs.Str.{chars}
use Rattle.std.proofs.lemmas.Bool.{false≢true, both_ways, and_parts, or_cases, or_left, or_right}
use Rattle.std.proofs.lemmas.List.Folds.{list_all-append}
use Rattle.unicode_ident.proofs.IdentLemmas.{is_xid_continue-ascii}
use Rattle.java_tokens.specs.Classes.{is_word_start, is_word_part}
use Rattle.java_tokens.specs.Words.{is_word, is_ascii_word}
use Rattle.java_tokens.proofs.WordLaws.{word_laws}
use Rattle.java_units.specs.Signs.{has}
use Rattle.java_shapes.specs.Words.{spells_identifier, literals, begins_name, dotted}
use Rattle.java_shapes.specs.Shape.{named, Before}
use Rattle.java_shapes.specs.Reader.{Around, Part, first, later, typing, either_word, call_opened, start, is_barred, close, is_sign, is_empty, is_fresh, is_this_dot, begins_first, when, first_sign, step, on, run}
use Rattle.java_shapes.proofs.WordFacts.{and_both, Lacks, word_parts, identifier_word, identifier_dotless, literal_word, has_cases, has_none}

pub no_part40 : is_word_part 40 ≡ false
unfolding is_word_part
no_part40 = ap (λ b. b || 40 == 36) (is_xid_continue-ascii 40 (lit< tt))

pub no_part41 : is_word_part 41 ≡ false
unfolding is_word_part
no_part41 = ap (λ b. b || 41 == 36) (is_xid_continue-ascii 41 (lit< tt))

pub no_part44 : is_word_part 44 ≡ false
unfolding is_word_part
no_part44 = ap (λ b. b || 44 == 36) (is_xid_continue-ascii 44 (lit< tt))

pub no_part46 : is_word_part 46 ≡ false
unfolding is_word_part
no_part46 = ap (λ b. b || 46 == 36) (is_xid_continue-ascii 46 (lit< tt))

pub no_part32 : is_word_part 32 ≡ false
unfolding is_word_part
no_part32 = ap (λ b. b || 32 == 36) (is_xid_continue-ascii 32 (lit< tt))

pub no_part91 : is_word_part 91 ≡ false
unfolding is_word_part
no_part91 = ap (λ b. b || 91 == 36) (is_xid_continue-ascii 91 (lit< tt))

-- a character that is no sign
pub record NoSign (k : ℕ) : Type 0 where
  pub n40 : (k == 40) ≡ false
  pub n41 : (k == 41) ≡ false
  pub n44 : (k == 44) ≡ false
  pub n46 : (k == 46) ≡ false
  pub n32 : (k == 32) ≡ false
  pub n91 : (k == 91) ≡ false

pub differ : (k s : ℕ) → is_word_part s ≡ false → is_word_part k ≡ true → (k == s) ≡ false
differ k s outside h = ne_eqb k s (λ e. both_ways (is_word_part k) (ap is_word_part e ∙ outside) h)

pub no_sign : (k : ℕ) → is_word_part k ≡ true → NoSign k
no_sign k h = record { n40 = differ k 40 no_part40 h; n41 = differ k 41 no_part41 h; n44 = differ k 44 no_part44 h; n46 = differ k 46 no_part46 h; n32 = differ k 32 no_part32 h; n91 = differ k 91 no_part91 h }

pub or_none : (a b : Bool) → a ≡ false → b ≡ false → (a || b) ≡ false
or_none a b e f = rw (e, f) refl

pub sign_false : (k : ℕ) → NoSign k → is_sign k ≡ false
sign_false k n =
    or_none (((((k == 40) || (k == 41)) || (k == 44)) || (k == 46)) || (k == 32)) (k == 91)
    (or_none ((((k == 40) || (k == 41)) || (k == 44)) || (k == 46)) (k == 32)
    (or_none (((k == 40) || (k == 41)) || (k == 44)) (k == 46)
    (or_none ((k == 40) || (k == 41)) (k == 44) (or_none (k == 40) (k == 41) n.n40 n.n41) n.n44) n.n46) n.n32) n.n91

-- fronts of words
pub word_front : (v : List ℕ) (k : ℕ) (w : List ℕ) → is_word (v ++ k ∷ w) ≡ true → is_word (v ++ k ∷ []) ≡ true
unfolding is_word
word_front [] k w h = and_both (is_word_start k) true (and_parts (is_word_start k) (list_all is_word_part w) h).0 refl
word_front (c ∷ v) k w h =
    let a = and_parts (is_word_start c) (list_all is_word_part (v ++ k ∷ w)) h in
    let b = and_parts (list_all is_word_part v) (list_all is_word_part (k ∷ w)) (sym (list_all-append is_word_part v (k ∷ w)) ∙ a.1) in
    let d = and_parts (is_word_part k) (list_all is_word_part w) b.1 in
    and_both (is_word_start c) (list_all is_word_part (v ++ k ∷ [])) a.0 (list_all-append is_word_part v (k ∷ []) ∙ and_both (list_all is_word_part v) (is_word_part k && true) b.0 (and_both (is_word_part k) true d.0 refl))

pub word_part_at : (v : List ℕ) (k : ℕ) (w : List ℕ) → is_word (v ++ k ∷ w) ≡ true → is_word_part k ≡ true
word_part_at v k w h =
    let b = and_parts (list_all is_word_part v) (list_all is_word_part (k ∷ w)) (sym (list_all-append is_word_part v (k ∷ w)) ∙ word_parts (v ++ k ∷ w) h) in
    (and_parts (is_word_part k) (list_all is_word_part w) b.1).0

pub step_runs : (p : List ℕ) (q r : Part) (k : ℕ) (ks : List ℕ) → step p q k ≡ Some r → run p q (k ∷ ks) ≡ run p r ks
unfolding run
step_runs p q r k ks e = ap (λ x. on x (λ s. run p s ks)) e

pub same_step : (p : List ℕ) (q r : Part) (k : ℕ) (ks : List ℕ) → step p q k ≡ step p r k → run p q (k ∷ ks) ≡ run p r (k ∷ ks)
unfolding run
same_step p q r k ks e = ap (λ x. on x (λ s. run p s ks)) e

pub and_false : (a b : Bool) → b ≡ false → not (a && b) ≡ true
and_false true b e = ap not e
and_false false b e = refl

-- a step in a word
pub first_more : (p : List ℕ) (a : Around) (c : Option (List ℕ)) (v : List ℕ) (k : ℕ) → is_barred a c ≡ false → is_sign k ≡ false → begins_first (v ++ k ∷ []) ≡ true → step p (first a c v) k ≡ Some (first a c (v ++ k ∷ []))
unfolding step
first_more p a c v k bar n h =
    ap (λ b. if b then first_sign a c v k else when (not (is_empty v && is_barred a c) && begins_first (v ++ k ∷ [])) (first a c (v ++ k ∷ []))) n
    ∙ ap (λ b. when b (first a c (v ++ k ∷ []))) (and_both (not (is_empty v && is_barred a c)) (begins_first (v ++ k ∷ [])) (and_false (is_empty v) (is_barred a c) bar) h)

pub word_begins : (w : List ℕ) → is_word w ≡ true → begins_first w ≡ true
unfolding begins_first
word_begins w h = or_left (is_word w) (has (codes "0" ∷ (34 ∷ []) ∷ (34 ∷ 34 ∷ []) ∷ []) w) h

pub first_word : (p : List ℕ) (a : Around) (c : Option (List ℕ)) (w v ks : List ℕ) → is_barred a c ≡ false → is_word (v ++ w) ≡ true → run p (first a c v) (w ++ ks) ≡ run p (first a c (v ++ w)) ks
first_word p a c [] v ks bar h = ap (λ x. run p (first a c x) ks) (sym (append-nil v))
first_word p a c (k ∷ w) v ks bar h =
    step_runs p (first a c v) (first a c (v ++ k ∷ [])) k (w ++ ks) (first_more p a c v k bar (sign_false k (no_sign k (word_part_at v k w h))) (word_begins (v ++ k ∷ []) (word_front v k w h)))
    ∙ first_word p a c w (v ++ k ∷ []) ks bar (ap is_word (append_assoc v (k ∷ []) w) ∙ h)
    ∙ ap (λ x. run p (first a c x) ks) (append_assoc v (k ∷ []) w)

pub later_more : (p : List ℕ) (a : Around) (c : Option (List ℕ)) (b : Before) (done v : List ℕ) (k : ℕ) → NoSign k → is_word (v ++ k ∷ []) ≡ true → step p (later a c b done v) k ≡ Some (later a c b done (v ++ k ∷ []))
unfolding step
later_more p a c b done v k n h =
    ap (λ x. if x then when (spells_identifier v && not (is_this_dot b done)) (call_opened a c b (done ++ v)) else (if k == 46 then when (spells_identifier v) (later a c b (done ++ (v ++ 46 ∷ [])) []) else (if is_sign k then (if spells_identifier v && not (is_fresh b) then close a c (named b (done ++ v)) k else None) else when (is_word (v ++ k ∷ [])) (later a c b done (v ++ k ∷ []))))) n.n40
    ∙ ap (λ x. if x then when (spells_identifier v) (later a c b (done ++ (v ++ 46 ∷ [])) []) else (if is_sign k then (if spells_identifier v && not (is_fresh b) then close a c (named b (done ++ v)) k else None) else when (is_word (v ++ k ∷ [])) (later a c b done (v ++ k ∷ [])))) n.n46
    ∙ ap (λ x. if x then (if spells_identifier v && not (is_fresh b) then close a c (named b (done ++ v)) k else None) else when (is_word (v ++ k ∷ [])) (later a c b done (v ++ k ∷ []))) (sign_false k n)
    ∙ ap (λ x. when x (later a c b done (v ++ k ∷ []))) h

pub later_word : (p : List ℕ) (a : Around) (c : Option (List ℕ)) (b : Before) (done w v ks : List ℕ) → is_word (v ++ w) ≡ true → run p (later a c b done v) (w ++ ks) ≡ run p (later a c b done (v ++ w)) ks
later_word p a c b done [] v ks h = ap (λ x. run p (later a c b done x) ks) (sym (append-nil v))
later_word p a c b done (k ∷ w) v ks h =
    step_runs p (later a c b done v) (later a c b done (v ++ k ∷ [])) k (w ++ ks) (later_more p a c b done v k (no_sign k (word_part_at v k w h)) (word_front v k w h))
    ∙ later_word p a c b done w (v ++ k ∷ []) ks (ap is_word (append_assoc v (k ∷ []) w) ∙ h)
    ∙ ap (λ x. run p (later a c b done x) ks) (append_assoc v (k ∷ []) w)

pub typing_more : (p : List ℕ) (a : Around) (c : Option (List ℕ)) (done v : List ℕ) (k : ℕ) → NoSign k → is_word (v ++ k ∷ []) ≡ true → step p (typing a c done v) k ≡ Some (typing a c done (v ++ k ∷ []))
unfolding step
typing_more p a c done v k n h = rw (n.n46, n.n91, n.n41, h) refl

pub typing_word : (p : List ℕ) (a : Around) (c : Option (List ℕ)) (done w v ks : List ℕ) → is_word (v ++ w) ≡ true → run p (typing a c done v) (w ++ ks) ≡ run p (typing a c done (v ++ w)) ks
typing_word p a c done [] v ks h = ap (λ x. run p (typing a c done x) ks) (sym (append-nil v))
typing_word p a c done (k ∷ w) v ks h =
    step_runs p (typing a c done v) (typing a c done (v ++ k ∷ [])) k (w ++ ks) (typing_more p a c done v k (no_sign k (word_part_at v k w h)) (word_front v k w h))
    ∙ typing_word p a c done w (v ++ k ∷ []) ks (ap is_word (append_assoc v (k ∷ []) w) ∙ h)
    ∙ ap (λ x. run p (typing a c done x) ks) (append_assoc v (k ∷ []) w)

pub either_more : (p : List ℕ) (a : Around) (s v : List ℕ) (k : ℕ) → NoSign k → is_word (v ++ k ∷ []) ≡ true → step p (either_word a s v) k ≡ Some (either_word a s (v ++ k ∷ []))
unfolding step
either_more p a s v k n h = rw (n.n46, n.n44, n.n41, h) refl

pub either_words : (p : List ℕ) (a : Around) (s w v ks : List ℕ) → is_word (v ++ w) ≡ true → run p (either_word a s v) (w ++ ks) ≡ run p (either_word a s (v ++ w)) ks
either_words p a s [] v ks h = ap (λ x. run p (either_word a s x) ks) (sym (append-nil v))
either_words p a s (k ∷ w) v ks h =
    step_runs p (either_word a s v) (either_word a s (v ++ k ∷ [])) k (w ++ ks) (either_more p a s v k (no_sign k (word_part_at v k w h)) (word_front v k w h))
    ∙ either_words p a s w (v ++ k ∷ []) ks (ap is_word (append_assoc v (k ∷ []) w) ∙ h)
    ∙ ap (λ x. run p (either_word a s x) ks) (append_assoc v (k ∷ []) w)

-- words of a path: the last, and what stands before it
unfoldable pub last_of : List ℕ → List (List ℕ) → List ℕ
last_of m [] = m
last_of m (n ∷ rest) = last_of n rest

unfoldable pub front_of : List ℕ → List ℕ → List (List ℕ) → List ℕ
front_of done m [] = done
front_of done m (n ∷ rest) = front_of (done ++ (m ++ 46 ∷ [])) n rest

pub front_last : (done m : List ℕ) (rest : List (List ℕ)) → front_of done m rest ++ last_of m rest ≡ done ++ (m ++ dotted rest)
unfolding front_of last_of dotted
front_last done m [] = ap (λ x. done ++ x) (sym (append-nil m))
front_last done m (n ∷ rest) =
    front_last (done ++ (m ++ 46 ∷ [])) n rest ∙ append_assoc done (m ++ 46 ∷ []) (n ++ dotted rest) ∙ ap (λ x. done ++ x) (append_assoc m (46 ∷ []) (n ++ dotted rest))

pub last_spells : (m : List ℕ) (rest : List (List ℕ)) → spells_identifier m ≡ true → list_all spells_identifier rest ≡ true → spells_identifier (last_of m rest) ≡ true
unfolding last_of
last_spells m [] h k = h
last_spells m (n ∷ rest) h k = let b = and_parts (spells_identifier n) (list_all spells_identifier rest) k in last_spells n rest b.0 b.1

pub later_dot : (p : List ℕ) (a : Around) (c : Option (List ℕ)) (b : Before) (done w : List ℕ) → spells_identifier w ≡ true → step p (later a c b done w) 46 ≡ Some (later a c b (done ++ (w ++ 46 ∷ [])) [])
unfolding step
later_dot p a c b done w h = ap (λ x. when x (later a c b (done ++ (w ++ 46 ∷ [])) [])) h

pub typing_dot : (p : List ℕ) (a : Around) (c : Option (List ℕ)) (done w : List ℕ) → spells_identifier w ≡ true → step p (typing a c done w) 46 ≡ Some (typing a c (done ++ (w ++ 46 ∷ [])) [])
unfolding step
typing_dot p a c done w h = ap (λ x. when x (typing a c (done ++ (w ++ 46 ∷ [])) [])) h

-- from inside a word to the end of its path
pub later_path : (p : List ℕ) (a : Around) (c : Option (List ℕ)) (b : Before) (done m : List ℕ) (rest : List (List ℕ)) (ks : List ℕ) → spells_identifier m ≡ true → list_all spells_identifier rest ≡ true → run p (later a c b done m) (dotted rest ++ ks) ≡ run p (later a c b (front_of done m rest) (last_of m rest)) ks
unfolding front_of last_of dotted
later_path p a c b done m [] ks h k = refl
later_path p a c b done m (n ∷ rest) ks h k =
    let r = and_parts (spells_identifier n) (list_all spells_identifier rest) k in
    let next = later a c b (done ++ (m ++ 46 ∷ [])) [] in
    step_runs p (later a c b done m) next 46 ((n ++ dotted rest) ++ ks) (later_dot p a c b done m h)
    ∙ ap (run p next) (append_assoc n (dotted rest) ks)
    ∙ later_word p a c b (done ++ (m ++ 46 ∷ [])) n [] (dotted rest ++ ks) (identifier_word n r.0)
    ∙ later_path p a c b (done ++ (m ++ 46 ∷ [])) n rest ks r.0 r.1

pub typing_path : (p : List ℕ) (a : Around) (c : Option (List ℕ)) (done m : List ℕ) (rest : List (List ℕ)) (ks : List ℕ) → spells_identifier m ≡ true → list_all spells_identifier rest ≡ true → run p (typing a c done m) (dotted rest ++ ks) ≡ run p (typing a c (front_of done m rest) (last_of m rest)) ks
unfolding front_of last_of dotted
typing_path p a c done m [] ks h k = refl
typing_path p a c done m (n ∷ rest) ks h k =
    let r = and_parts (spells_identifier n) (list_all spells_identifier rest) k in
    let next = typing a c (done ++ (m ++ 46 ∷ [])) [] in
    step_runs p (typing a c done m) next 46 ((n ++ dotted rest) ++ ks) (typing_dot p a c done m h)
    ∙ ap (run p next) (append_assoc n (dotted rest) ks)
    ∙ typing_word p a c (done ++ (m ++ 46 ∷ [])) n [] (dotted rest ++ ks) (identifier_word n r.0)
    ∙ typing_path p a c (done ++ (m ++ 46 ∷ [])) n rest ks r.0 r.1

-- words of ASCII characters
pub ascii_word : (w : List ℕ) → chars w ≡ w → list_all is_ascii w ≡ true → is_ascii_word w ≡ true → is_word w ≡ true
ascii_word w same ascii h = sym (ap is_word same) ∙ word_laws.ascii w ascii ∙ h

pub word_this : is_word (codes "this") ≡ true
unfolding chars
word_this = ascii_word (codes "this") refl refl refl

pub word_new : is_word (codes "new") ≡ true
unfolding chars
word_new = ascii_word (codes "new") refl refl refl

pub word_true : is_word (codes "true") ≡ true
unfolding chars
word_true = ascii_word (codes "true") refl refl refl

pub word_false : is_word (codes "false") ≡ true
unfolding chars
word_false = ascii_word (codes "false") refl refl refl

-- a place before an expression: how it goes on but for `(`
pub record StartsWords (p : List ℕ) (q : Part) (a : Around) (c : Option (List ℕ)) : Type 0 where
  pub words : (k : ℕ) → (k == 40) ≡ false → (k == 41) ≡ false → step p q k ≡ step p (start a c) k

pub zero_begins : begins_first (48 ∷ []) ≡ true
unfolding begins_first has
zero_begins = or_right (is_word (48 ∷ [])) (has (codes "0" ∷ (34 ∷ []) ∷ (34 ∷ 34 ∷ []) ∷ []) (48 ∷ [])) refl

pub quote_begins : begins_first (34 ∷ []) ≡ true
unfolding begins_first has
quote_begins = or_right (is_word (34 ∷ [])) (has (codes "0" ∷ (34 ∷ []) ∷ (34 ∷ 34 ∷ []) ∷ []) (34 ∷ [])) refl

pub quotes_begin : begins_first (34 ∷ 34 ∷ []) ≡ true
unfolding begins_first has
quotes_begin = or_right (is_word (34 ∷ 34 ∷ [])) (has (codes "0" ∷ (34 ∷ []) ∷ (34 ∷ 34 ∷ []) ∷ []) (34 ∷ 34 ∷ [])) refl

pub no_empty_word : is_word [] ≡ true → ⊥
unfolding is_word
no_empty_word h = false≢true h

pub first_by_word : (p : List ℕ) (q : Part) (a : Around) (c : Option (List ℕ)) → StartsWords p q a c → is_barred a c ≡ false → (w ks : List ℕ) → is_word w ≡ true → run p q (w ++ ks) ≡ run p (first a c w) ks
first_by_word p q a c s bar [] ks h = absurd (no_empty_word h)
first_by_word p q a c s bar (k ∷ w) ks h =
    let n = no_sign k (word_part_at [] k w h) in
    same_step p q (start a c) k (w ++ ks) (s.words k n.n40 n.n41) ∙ first_word p a c (k ∷ w) [] ks bar h

pub first_zero : (p : List ℕ) (q : Part) (a : Around) (c : Option (List ℕ)) → StartsWords p q a c → is_barred a c ≡ false → (ks : List ℕ) → run p q (codes "0" ++ ks) ≡ run p (first a c (codes "0")) ks
first_zero p q a c s bar ks = same_step p q (start a c) 48 ks (s.words 48 refl refl) ∙ step_runs p (start a c) (first a c (48 ∷ [])) 48 ks (first_more p a c [] 48 bar refl zero_begins)

pub first_quotes : (p : List ℕ) (q : Part) (a : Around) (c : Option (List ℕ)) → StartsWords p q a c → is_barred a c ≡ false → (ks : List ℕ) → run p q ((34 ∷ 34 ∷ []) ++ ks) ≡ run p (first a c (34 ∷ 34 ∷ [])) ks
first_quotes p q a c s bar ks =
    same_step p q (start a c) 34 (34 ∷ ks) (s.words 34 refl refl)
    ∙ step_runs p (start a c) (first a c (34 ∷ [])) 34 (34 ∷ ks) (first_more p a c [] 34 bar refl quote_begins)
    ∙ step_runs p (first a c (34 ∷ [])) (first a c (34 ∷ 34 ∷ [])) 34 ks (first_more p a c (34 ∷ []) 34 bar refl quotes_begin)

-- the first word of a name
pub first_runs : (p : List ℕ) (q : Part) (a : Around) (c : Option (List ℕ)) → StartsWords p q a c → is_barred a c ≡ false → (w ks : List ℕ) → begins_name w ≡ true → run p q (w ++ ks) ≡ run p (first a c w) ks
unfolding begins_name
first_runs p q a c s bar w ks h = elim (or_cases (spells_identifier w) (has (codes "this" ∷ literals) w) h) [
  | inl i ↦ first_by_word p q a c s bar w ks (identifier_word w i)
  | inr l ↦ (elim (has_cases (codes "this") literals w l) [
    | inl e ↦ first_by_word p q a c s bar w ks (subst (λ x. is_word x ≡ true) e word_this)
    | inr l1 ↦ (elim (has_cases (codes "0") (codes "true" ∷ codes "false" ∷ (34 ∷ 34 ∷ []) ∷ []) w l1) [
      | inl e ↦ subst (λ x. run p q (x ++ ks) ≡ run p (first a c x) ks) e (first_zero p q a c s bar ks)
      | inr l2 ↦ (elim (has_cases (codes "true") (codes "false" ∷ (34 ∷ 34 ∷ []) ∷ []) w l2) [
        | inl e ↦ first_by_word p q a c s bar w ks (subst (λ x. is_word x ≡ true) e word_true)
        | inr l3 ↦ (elim (has_cases (codes "false") ((34 ∷ 34 ∷ []) ∷ []) w l3) [
          | inl e ↦ first_by_word p q a c s bar w ks (subst (λ x. is_word x ≡ true) e word_false)
          | inr l4 ↦ (elim (has_cases (34 ∷ 34 ∷ []) [] w l4) [
            | inl e ↦ subst (λ x. run p q (x ++ ks) ≡ run p (first a c x) ks) e (first_quotes p q a c s bar ks)
            | inr l5 ↦ absurd (has_none w l5)
          ])
        ])
      ])
    ])
  ])
]

pub begins_dotless : (w : List ℕ) → begins_name w ≡ true → Lacks 46 w
unfolding begins_name
begins_dotless w h = elim (or_cases (spells_identifier w) (has (codes "this" ∷ literals) w) h) [
  | inl i ↦ identifier_dotless w i
  | inr l ↦ (elim (has_cases (codes "this") literals w l) [
    | inl e ↦ subst (λ x. Lacks 46 x) e refl
    | inr k ↦ (literal_word w k).dotless
  ])
]

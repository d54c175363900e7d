-- Going over the pieces of a text.
use Rattle.std.proofs.Common.{◌≡◌, ◌∙◌, ap, ap₂, sym, subst, refl, arith, ℕ, ◌+◌, ◌<◌, ◌≤◌, Bool, true, false, ◌||◌, ◌&&◌, not, List, [], ◌∷◌, ◌++◌, length, drop, get_or, Option, Some, None, Result, Ok, Err, IfOk, IfSome, IfNone, ◌==◌, ne_eqb, chars, encode_utf8_all, IsUtf8, String, append-nil, append_assoc, if◌then◌else◌}
use Rattle.std.specs.List.{list_all}
use Rattle.std.specs.Char.{is_ascii}
use Rattle.std.proofs.lemmas.List.{length-append, drop_all, drop_more}
use Rattle.std.proofs.lemmas.List.Folds.{list_all-append}
use Rattle.std.proofs.lemmas.Str.{encodes-append, encodes-chars, encodes-IsAscii, length-encode, chars-nil}
use Rattle.std.specs.Char.{len_utf8}
use lib.Utf8.{encode}
use Rattle.indexmap.specs.IndexSet.{IndexSet, contains_text}
use Rattle.java_tokens.specs.Classes.{is_word_part}
use Rattle.java_units.specs.Signs.{has}
use Rattle.java_shapes.specs.Words.{spells_identifier}
use Rattle.java_resolve.specs.Pieces.{Piece, sign, word, cut, joined, piece_text, binder_pieces, separator}
use Rattle.java_resolve.specs.Known.{is_known, AreKnown, IsUnknownPlace, Passes, Knows}
use Rattle.java_resolve.proofs.WordTests.{all_below}

pub joined_append : (ps qs : List Piece) → joined (ps ++ qs) ≡ joined ps ++ joined qs
unfolding joined
joined_append [] qs = refl
joined_append (p ∷ ps) qs = ap (λ x. piece_text p ++ x) (joined_append ps qs) ∙ sym (append_assoc (piece_text p) (joined ps) (joined qs))

pub bytes_append : (ps qs : List Piece) → length (encode_utf8_all (joined (ps ++ qs))) ≡ length (encode_utf8_all (joined ps)) + length (encode_utf8_all (joined qs))
bytes_append ps qs =
    ap (λ x. length (encode_utf8_all x)) (joined_append ps qs)
    ∙ ap length (encodes-append (joined ps) (joined qs))
    ∙ length-append (encode_utf8_all (joined ps)) (encode_utf8_all (joined qs))

pub known_append : (d : List ℕ → Bool) (ps qs : List Piece) → AreKnown d ps → AreKnown d qs → AreKnown d (ps ++ qs)
known_append d ps qs h k = list_all-append (is_known d) ps qs ∙ ap₂ (λ a b. a && b) h k

-- nothing, and one part behind another
pub over_none : (d : List ℕ → Bool) (n : ℕ) → Passes d [] n n true
unfolding joined
over_none d n = (refl, omega arith)

pub over_both : (d : List ℕ → Bool) (ps qs : List Piece) (from mid to : ℕ) (r : Bool) → Passes d ps from mid true → Passes d qs mid to r → Passes d (ps ++ qs) from to r
over_both d ps qs from mid to true h k = (known_append d ps qs h.0 k.0, omega (arith, h.1, k.1, bytes_append ps qs))
over_both d ps qs from mid to false h k = (
  length (encode_utf8_all (joined ps)) + k.0,
  record {
    before = ps ++ k.1.before;
    bound = k.1.bound;
    identifier = k.1.identifier;
    rest = k.1.rest;
    is = ap (λ x. ps ++ x) k.1.is ∙ sym (append_assoc ps k.1.before (word k.1.bound k.1.identifier ∷ k.1.rest));
    known = known_append d ps k.1.before h.0 k.1.known;
    unknown = k.1.unknown;
    bytes = ap (λ n. length (encode_utf8_all (joined ps)) + n) k.1.bytes ∙ sym (bytes_append ps k.1.before);
  },
  omega (arith, h.1, k.2),
)

pub over_first : (d : List ℕ → Bool) (ps qs : List Piece) (from to : ℕ) → Passes d ps from to false → Passes d (ps ++ qs) from to false
over_first d ps qs from to h = (
  h.0,
  record {
    before = h.1.before;
    bound = h.1.bound;
    identifier = h.1.identifier;
    rest = h.1.rest ++ qs;
    is = ap (λ x. x ++ qs) h.1.is ∙ append_assoc h.1.before (word h.1.bound h.1.identifier ∷ h.1.rest) qs;
    known = h.1.known;
    unknown = h.1.unknown;
    bytes = h.1.bytes;
  },
  h.2,
)

-- what a call answered
pub as_true : (d : List ℕ → Bool) (ps : List Piece) (from to : ℕ) (r : Bool) → r ≡ true → Passes d ps from to r → Passes d ps from to true
as_true d ps from to r e h = subst (λ x. Passes d ps from to x) e h

pub as_false : (d : List ℕ → Bool) (ps : List Piece) (from to : ℕ) (r : Bool) → r ≡ false → Passes d ps from to r → Passes d ps from to false
as_false d ps from to r e h = subst (λ x. Passes d ps from to x) e h

pub over_pieces : (d : List ℕ → Bool) (ps qs : List Piece) (from to : ℕ) (r : Bool) → ps ≡ qs → Passes d ps from to r → Passes d qs from to r
over_pieces d ps qs from to r e h = subst (λ x. Passes d x from to r) e h

-- behind a part that was gone over, a call that goes over the other
pub then_call : {E : Type 0} (d : List ℕ → Bool) (ps qs : List Piece) (from mid to : ℕ) (r : Result Bool E) → Passes d ps from mid true → IfOk r (Passes d qs mid to) → IfOk r (Passes d (ps ++ qs) from to)
then_call d ps qs from mid to (Ok b) h k = over_both d ps qs from mid to b h k
then_call d ps qs from mid to (Err e) h k = k

pub call_pieces_by : {E : Type 0} (d : List ℕ → Bool) (ps qs : List Piece) (from to : ℕ) (r : Result Bool E) → ps ≡ qs → IfOk r (Passes d ps from to) → IfOk r (Passes d qs from to)
call_pieces_by d ps qs from to (Ok b) e k = over_pieces d ps qs from to b e k
call_pieces_by d ps qs from to (Err f) e k = k

-- one sign, and one character that is a sign
pub over_sign : (d : List ℕ → Bool) (t : List ℕ) (from to : ℕ) → list_all is_ascii t ≡ true → to ≡ from + length t → Passes d (sign t ∷ []) from to true
unfolding joined is_known
over_sign d t from to a e =
    let same : encode_utf8_all (t ++ []) ≡ t = ap encode_utf8_all (append-nil t) ∙ encodes-IsAscii t (all_below t a) in
    (refl, e ∙ ap (λ x. from + length x) (sym same))

pub over_char : (d : List ℕ → Bool) (c : ℕ) (from to : ℕ) → to ≡ from + len_utf8 c → Passes d (sign (c ∷ []) ∷ []) from to true
unfolding joined is_known
over_char d c from to e = (refl, e ∙ ap (λ n. from + n) (sym (ap length (append-nil (encode c)) ∙ length-encode c)))

-- whether a word is known
pub known_else : (d : List ℕ → Bool) (bound : List (List ℕ)) (w : List ℕ) (r : Bool) → r ≡ spells_identifier w → r ≡ false → true ≡ is_known d (word bound w)
unfolding is_known
known_else d bound w r e f = sym (ap (λ b. not b || (d w || has bound w)) (sym e ∙ f))

pub known_then : {Y S : Type 0} (s : IndexSet (String Y) S) (d : List ℕ → Bool) (bound : List (List ℕ)) (w bytes : List ℕ) (r q : Bool) → r ≡ spells_identifier w → r ≡ true → IsUtf8 bytes → chars bytes ≡ w → q ≡ contains_text s bytes → Knows s d bound → q ≡ is_known d (word bound w)
unfolding is_known
known_then s d bound w bytes r q e f u g h k =
    h ∙ k bytes u ∙ ap (λ x. d x || has bound x) g ∙ sym (ap (λ b. not b || (d w || has bound w)) (sym e ∙ f))

-- one word
pub over_known : (d : List ℕ → Bool) (bound : List (List ℕ)) (w bytes : List ℕ) (from to : ℕ) (r : Bool) → r ≡ is_known d (word bound w) → r ≡ true → IsUtf8 bytes → chars bytes ≡ w → to ≡ from + length bytes → Passes d (word bound w ∷ []) from to true
unfolding joined
over_known d bound w bytes from to r e f u g h =
    let same : encode_utf8_all (w ++ []) ≡ bytes = ap encode_utf8_all (append-nil w ∙ sym g) ∙ encodes-chars bytes u in
    (ap (λ b. b && true) (sym e ∙ f), h ∙ ap (λ x. from + length x) (sym same))

pub over_unknown : (d : List ℕ → Bool) (bound : List (List ℕ)) (w : List ℕ) (from to : ℕ) (r : Bool) → r ≡ is_known d (word bound w) → r ≡ false → to ≡ from → Passes d (word bound w ∷ []) from to false
unfolding joined
over_unknown d bound w from to r e f h = (
  0,
  record {
    before = [];
    bound = bound;
    identifier = w;
    rest = [];
    is = refl;
    known = refl;
    unknown = sym e ∙ f;
    bytes = refl;
  },
  omega (arith, h),
)

-- pieces behind one more character
pub piece_goes_on : (bound : List (List ℕ)) (w v rest : List ℕ) (c : ℕ) → is_word_part c ≡ true → v ≡ w ++ c ∷ [] → cut bound v rest ≡ cut bound w (c ∷ rest)
unfolding cut
piece_goes_on bound w v rest c e f = ap (λ x. cut bound x rest) f ∙ sym (ap (λ t. if t then cut bound (w ++ c ∷ []) rest else word bound w ∷ sign (c ∷ []) ∷ cut bound [] rest) e)

pub piece_ends : (bound : List (List ℕ)) (w v rest : List ℕ) (c : ℕ) → is_word_part c ≡ false → v ≡ [] → word bound w ∷ sign (c ∷ []) ∷ cut bound v rest ≡ cut bound w (c ∷ rest)
unfolding cut
piece_ends bound w v rest c e f = ap (λ x. word bound w ∷ sign (c ∷ []) ∷ cut bound x rest) f ∙ sym (ap (λ t. if t then cut bound (w ++ c ∷ []) rest else word bound w ∷ sign (c ∷ []) ∷ cut bound [] rest) e)

pub char_goes_on : (d : List ℕ → Bool) (bound : List (List ℕ)) (w v : List ℕ) (c from mid : ℕ) → is_word_part c ≡ true → v ≡ w ++ c ∷ [] → mid ≡ from → (rest : List ℕ) (to : ℕ) (r : Bool) → Passes d (cut bound v rest) mid to r → Passes d (cut bound w (c ∷ rest)) from to r
char_goes_on d bound w v c from mid e f m rest to r h = over_pieces d (cut bound v rest) (cut bound w (c ∷ rest)) from to r (piece_goes_on bound w v rest c e f) (subst (λ n. Passes d (cut bound v rest) n to r) m h)

pub char_ends : (d : List ℕ → Bool) (bound : List (List ℕ)) (w v : List ℕ) (c from mid far : ℕ) (k : Bool) → is_word_part c ≡ false → v ≡ [] → k ≡ true → Passes d (word bound w ∷ []) from mid k → far ≡ mid + len_utf8 c → (rest : List ℕ) (to : ℕ) (r : Bool) → Passes d (cut bound v rest) far to r → Passes d (cut bound w (c ∷ rest)) from to r
char_ends d bound w v c from mid far k e f t h g rest to r i =
    over_pieces d (word bound w ∷ sign (c ∷ []) ∷ cut bound v rest) (cut bound w (c ∷ rest)) from to r (piece_ends bound w v rest c e f)
    (over_both d (word bound w ∷ []) (sign (c ∷ []) ∷ cut bound v rest) from mid to r (as_true d (word bound w ∷ []) from mid k t h)
    (over_both d (sign (c ∷ []) ∷ []) (cut bound v rest) mid far to r (over_char d c mid far g) i))

pub char_unknown : (d : List ℕ → Bool) (bound : List (List ℕ)) (w : List ℕ) (c from to : ℕ) (k : Bool) → is_word_part c ≡ false → k ≡ false → Passes d (word bound w ∷ []) from to k → (rest : List ℕ) → Passes d (cut bound w (c ∷ rest)) from to false
char_unknown d bound w c from to k e t h rest =
    over_pieces d (word bound w ∷ sign (c ∷ []) ∷ cut bound [] rest) (cut bound w (c ∷ rest)) from to false (piece_ends bound w [] rest c e refl)
    (over_first d (word bound w ∷ []) (sign (c ∷ []) ∷ cut bound [] rest) from to (as_false d (word bound w ∷ []) from to k t h))

-- the end of a text
pub piece_last : (bound : List (List ℕ)) (w rest : List ℕ) → rest ≡ [] → word bound w ∷ [] ≡ cut bound w (chars rest)
unfolding cut
piece_last bound w rest e = sym (ap (cut bound w) (ap chars e ∙ chars-nil))

-- binders, the first of them and the others
pub binders_first : (bound : List (List ℕ)) (is_first : Bool) (ws : List (List ℕ)) (i : ℕ) (w : List ℕ) → i < length ws → w ≡ get_or ws i w → binder_pieces bound is_first (drop i ws) ≡ (sign (separator is_first) ∷ cut bound [] w) ++ binder_pieces bound false (drop (i + 1) ws)
unfolding binder_pieces
binders_first bound is_first ws i w l e = ap (binder_pieces bound is_first) (drop_more ws i w l ∙ ap (λ x. x ∷ drop (i + 1) ws) (sym e))

pub binders_end : (bound : List (List ℕ)) (is_first : Bool) (ws : List (List ℕ)) (i : ℕ) → length ws ≤ i → binder_pieces bound is_first (drop i ws) ≡ []
unfolding binder_pieces
binders_end bound is_first ws i l = ap (binder_pieces bound is_first) (drop_all i ws l)

-- each separator is of ASCII characters
pub separator_ascii : (b : Bool) → list_all is_ascii (separator b) ≡ true
separator_ascii true = refl
separator_ascii false = refl

-- a part between two signs
pub enclosed : (d : List ℕ → Bool) (a b : List ℕ) (ps : List Piece) (from one two to : ℕ) → Passes d (sign a ∷ []) from one true → Passes d ps one two true → Passes d (sign b ∷ []) two to true → Passes d (sign a ∷ (ps ++ sign b ∷ [])) from to true
enclosed d a b ps from one two to h k l = over_both d (sign a ∷ []) (ps ++ sign b ∷ []) from one to true h (over_both d ps (sign b ∷ []) one two to true k l)

pub opened : (d : List ℕ → Bool) (a : List ℕ) (ps qs : List Piece) (from one to : ℕ) → Passes d (sign a ∷ []) from one true → Passes d ps one to false → Passes d (sign a ∷ (ps ++ qs)) from to false
opened d a ps qs from one to h k = over_both d (sign a ∷ []) (ps ++ qs) from one to false h (over_first d ps qs one to k)

-- what an answer says of what it holds
pub if_some : {A : Type 0} (P : A → Type 0) (o : Option A) (x : A) → o ≡ Some x → IfSome o P → P x
if_some P o x e h = subst (λ y. IfSome y P) e h

pub if_none : {A : Type 0} (P : Type 0) (o : Option A) → o ≡ None → IfNone o P → P
if_none P o e h = subst (λ y. IfNone y P) e h

-- the number behind one more is not 0
pub later : (i : ℕ) → (i + 1 == 0) ≡ false
later i = ne_eqb (i + 1) 0 (λ e. absurd (omega (arith, e)))

-- a sign by its text
pub sign_by : (d : List ℕ → Bool) (t u : List ℕ) (from to : ℕ) → t ≡ u → Passes d (sign t ∷ []) from to true → Passes d (sign u ∷ []) from to true
sign_by d t u from to e h = subst (λ x. Passes d (sign x ∷ []) from to true) e h

-- the same words are known in an equal set
pub knows_same : {Y S : Type 0} (s t : IndexSet (String Y) S) (d : List ℕ → Bool) (bound : List (List ℕ)) → t ≡ s → Knows s d bound → Knows t d bound
knows_same s t d bound e k = subst (λ x. Knows x d bound) (sym e) k

-- a loop over binders, one binder on
pub binders_on : (d : List ℕ → Bool) (bound ws : List (List ℕ)) (i : ℕ) (w : List ℕ) (at mid to : ℕ) (b r : Bool) → i < length ws → w ≡ get_or ws i w → b ≡ true → Passes d (sign (separator (i == 0)) ∷ cut bound [] w) at mid b → Passes d (binder_pieces bound (i + 1 == 0) (drop (i + 1) ws)) mid to r → Passes d (binder_pieces bound (i == 0) (drop i ws)) at to r
binders_on d bound ws i w at mid to b r l e t h k =
    let first = sign (separator (i == 0)) ∷ cut bound [] w in
    let rest = binder_pieces bound false (drop (i + 1) ws) in
    over_pieces d (first ++ rest) (binder_pieces bound (i == 0) (drop i ws)) at to r (sym (binders_first bound (i == 0) ws i w l e))
    (over_both d first rest at mid to r (as_true d first at mid b t h) (subst (λ x. Passes d (binder_pieces bound x (drop (i + 1) ws)) mid to r) (later i) k))

pub binders_stop : (d : List ℕ → Bool) (bound ws : List (List ℕ)) (i : ℕ) (w : List ℕ) (at to : ℕ) (b : Bool) → i < length ws → w ≡ get_or ws i w → b ≡ false → Passes d (sign (separator (i == 0)) ∷ cut bound [] w) at to b → Passes d (binder_pieces bound (i == 0) (drop i ws)) at to false
binders_stop d bound ws i w at to b l e t h =
    let first = sign (separator (i == 0)) ∷ cut bound [] w in
    let rest = binder_pieces bound false (drop (i + 1) ws) in
    over_pieces d (first ++ rest) (binder_pieces bound (i == 0) (drop i ws)) at to false (sym (binders_first bound (i == 0) ws i w l e))
    (over_first d first rest at to (as_false d first at to b t h))

pub binders_over : (d : List ℕ → Bool) (bound ws : List (List ℕ)) (i at : ℕ) → length ws ≤ i → Passes d (binder_pieces bound (i == 0) (drop i ws)) at at true
binders_over d bound ws i at l = over_pieces d [] (binder_pieces bound (i == 0) (drop i ws)) at at true (sym (binders_end bound (i == 0) ws i l)) (over_none d at)

-- the outcome from the beginning of a text
pub all_known : (d : List ℕ → Bool) (ps : List Piece) (to : ℕ) (r : Bool) → r ≡ true → Passes d ps 0 to r → AreKnown d ps
all_known d ps to r e h = (as_true d ps 0 to r e h).0

pub one_unknown : (d : List ℕ → Bool) (ps : List Piece) (to : ℕ) (r : Bool) → r ≡ false → Passes d ps 0 to r → IsUnknownPlace d ps to
one_unknown d ps to r e h =
    let k = as_false d ps 0 to r e h in
    let same : k.0 ≡ to = omega (arith, k.2) in
    subst (λ n. IsUnknownPlace d ps n) same k.1

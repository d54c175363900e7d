-- Sets of words, and how they grow.
use Rattle.std.proofs.Common.{◌≡◌, ◌∙◌, ap, sym, subst, refl, ℕ, zero, suc, ◌+◌, ◌<◌, ◌≤◌, Bool, true, false, cond, ◌||◌, List, [], ◌∷◌, ◌++◌, length, drop, get_or, slice_get, None, Result, Ok, Err, OnOk, chars, encode_utf8_all, IsUtf8, append-nil, if◌then◌else◌}
use Rattle.std.proofs.lemmas.List.{drop_all, drop_more}
use Rattle.std.specs.Prelude.{bytes_eq, String, string_bytes}
use Rattle.std.specs.String.{string_eq}
use Rattle.std.specs.Bool.{one_answer}
use Rattle.std.specs.HashSet.{UpdatesBy}
use Rattle.std.specs.List.{list_any}
use Rattle.std.proofs.lemmas.Slice.Eq.{bytes_eq-Decides}
use Rattle.std.proofs.lemmas.Map.Text.{hash_set_updates_text}
use Rattle.std.proofs.lemmas.Str.{encodes-chars, chars-nil}
use Rattle.indexmap.specs.IndexSet.{IndexSet, contains_text}
use Rattle.java_tokens.specs.Classes.{is_word_part}
use Rattle.java_units.specs.Signs.{has}
use Rattle.terms.specs.declared.parts.Arg.{Arg}
use Rattle.terms.specs.declared.parts.Arg.TheVariants.{Plain, Fun}
use Rattle.terms.specs.declared.parts.Decl.{Decl}
use Rattle.terms.specs.declared.parts.Parts.{Parts}
use Rattle.terms.specs.Text.{type_text}
use Rattle.java_resolve.specs.Known.{words, words_of, wanted_words, decl_words, decls_words, form_words, is_declared, Adds, Knows}

-- texts in UTF-8 are equal where their characters are
pub same_chars : (x b : List ℕ) → IsUtf8 x → IsUtf8 b → bytes_eq x b ≡ bytes_eq (chars x) (chars b)
same_chars x b u v =
    let d = bytes_eq-Decides (chars x) (chars b) in
    sym (one_answer (bytes_eq (chars x) (chars b)) (bytes_eq x b)
    ((λ e. sym (encodes-chars x u) ∙ ap encode_utf8_all (d.0 e) ∙ encodes-chars b v), (λ e. d.1 (ap chars e)))
    (bytes_eq-Decides x b))

cond_or : (p q : Bool) → cond p true q ≡ (q || (p || false))
cond_or true true = refl
cond_or true false = refl
cond_or false true = refl
cond_or false false = refl

has_one : (w x : List ℕ) → has (w ∷ []) x ≡ (bytes_eq w x || false)
unfolding has
has_one w x = refl

-- one word more
pub adds_one : {Y S : Type 0} (s t : IndexSet (String Y) S) (bs text w : List ℕ) → UpdatesBy string_eq (λ k. bytes_eq bs (string_bytes k)) s t true → bs ≡ text → IsUtf8 text → chars text ≡ w → Adds s t (w ∷ [])
adds_one s t bs text w up e u f b v =
    hash_set_updates_text bs s t true up b
    ∙ cond_or (bytes_eq bs b) (contains_text s b)
    ∙ ap (λ p. contains_text s b || (p || false)) (ap (λ x. bytes_eq x b) e ∙ same_chars text b u v ∙ ap (λ x. bytes_eq x (chars b)) f)
    ∙ ap (λ p. contains_text s b || p) (sym (has_one w (chars b)))

or_append : (a b c : Bool) → (a || (b || c)) ≡ ((a || b) || c)
or_append true b c = refl
or_append false b c = refl

or_none : (a : Bool) → (a || false) ≡ a
or_none true = refl
or_none false = refl

pub has_append : (xs ys : List (List ℕ)) (w : List ℕ) → has (xs ++ ys) w ≡ (has xs w || has ys w)
unfolding has
has_append [] ys w = refl
has_append (x ∷ xs) ys w = ap (λ b. bytes_eq x w || b) (has_append xs ys w) ∙ or_append (bytes_eq x w) (has xs w) (has ys w)

has_nil : (w : List ℕ) → has [] w ≡ false
unfolding has
has_nil w = refl

-- no words more, and more in two steps
pub adds_none : {Y S : Type 0} (s : IndexSet (String Y) S) → Adds s s []
adds_none s b v = sym (ap (λ p. contains_text s b || p) (has_nil (chars b)) ∙ or_none (contains_text s b))

pub adds_then : {Y S : Type 0} (s t u : IndexSet (String Y) S) (xs ys : List (List ℕ)) → Adds s t xs → Adds t u ys → Adds s u (xs ++ ys)
adds_then s t u xs ys h k b v =
    k b v
    ∙ ap (λ p. p || has ys (chars b)) (h b v)
    ∙ sym (or_append (contains_text s b) (has xs (chars b)) (has ys (chars b)))
    ∙ ap (λ p. contains_text s b || p) (sym (has_append xs ys (chars b)))

pub adds_by : {Y S : Type 0} (s t : IndexSet (String Y) S) (xs ys : List (List ℕ)) → xs ≡ ys → Adds s t xs → Adds s t ys
adds_by s t xs ys e h = subst (λ z. Adds s t z) e h

-- words behind one more character
pub word_goes_on : (w v rest : List ℕ) (c : ℕ) → is_word_part c ≡ true → v ≡ w ++ c ∷ [] → words v rest ≡ words w (c ∷ rest)
unfolding words
word_goes_on w v rest c e f = ap (λ x. words x rest) f ∙ sym (ap (λ t. if t then words (w ++ c ∷ []) rest else w ∷ words [] rest) e)

pub word_ends : (w v rest : List ℕ) (c : ℕ) → is_word_part c ≡ false → v ≡ [] → w ∷ words v rest ≡ words w (c ∷ rest)
unfolding words
word_ends w v rest c e f = ap (λ x. w ∷ words x rest) f ∙ sym (ap (λ t. if t then words (w ++ c ∷ []) rest else w ∷ words [] rest) e)

pub goes_on : {Y S : Type 0} (s : IndexSet (String Y) S) (w v : List ℕ) (c : ℕ) → is_word_part c ≡ true → v ≡ w ++ c ∷ [] → (b rest : List ℕ) → IsUtf8 b → (contains_text s b || has (words v rest) (chars b)) ≡ (contains_text s b || has (words w (c ∷ rest)) (chars b))
goes_on s w v c e f b rest u = ap (λ ws. contains_text s b || has ws (chars b)) (word_goes_on w v rest c e f)

pub ends : {Y S : Type 0} (s t : IndexSet (String Y) S) (w v : List ℕ) (c : ℕ) → is_word_part c ≡ false → v ≡ [] → Adds s t (w ∷ []) → (b rest : List ℕ) → IsUtf8 b → (contains_text t b || has (words v rest) (chars b)) ≡ (contains_text s b || has (words w (c ∷ rest)) (chars b))
ends s t w v c e f h b rest u =
    ap (λ p. p || has (words v rest) (chars b)) (h b u)
    ∙ sym (or_append (contains_text s b) (has (w ∷ []) (chars b)) (has (words v rest) (chars b)))
    ∙ ap (λ p. contains_text s b || p) (sym (has_append (w ∷ []) (words v rest) (chars b)))
    ∙ ap (λ ws. contains_text s b || has ws (chars b)) (word_ends w v rest c e f)

-- the loop over a text: at first, at a character, at the end
pub text_first : {Y S : Type 0} (s : IndexSet (String Y) S) (w text : List ℕ) → w ≡ [] → (b : List ℕ) → IsUtf8 b → (contains_text s b || has (words w (chars text)) (chars b)) ≡ (contains_text s b || has (words_of text) (chars b))
text_first s w text e b u = ap (λ x. contains_text s b || has (words x (chars text)) (chars b)) e

pub text_last : {Y S : Type 0} (s t u : IndexSet (String Y) S) (w rest text : List ℕ) → rest ≡ [] → ((b : List ℕ) → IsUtf8 b → (contains_text t b || has (words w (chars rest)) (chars b)) ≡ (contains_text s b || has (words_of text) (chars b))) → Adds t u (w ∷ []) → Adds s u (words_of text)
unfolding words
text_last s t u w rest text e k h b v =
    h b v ∙ ap (λ x. contains_text t b || has (words w x) (chars b)) (sym (ap chars e ∙ chars-nil)) ∙ k b v

-- the words that places want, the first of them and the others
pub wanted_first : (g : Parts) (args : List Arg) (i : ℕ) (a : Arg) → i < length args → a ≡ get_or args i a → wanted_words g (drop i args) ≡ wanted_words g (a ∷ []) ++ wanted_words g (drop (i + 1) args)
unfolding wanted_words
wanted_first g args i a l e = ap (wanted_words g) (drop_more args i a l ∙ ap (λ x. x ∷ drop (i + 1) args) (sym e)) ∙ wanted_split a
  where
    wanted_split : (x : Arg) → wanted_words g (x ∷ drop (i + 1) args) ≡ wanted_words g (x ∷ []) ++ wanted_words g (drop (i + 1) args)
    wanted_split (Plain b) = ap (λ y. y ++ wanted_words g (drop (i + 1) args)) (sym (append-nil (words_of (type_text g b))))
    wanted_split (Fun ps r) = ap (λ y. y ++ wanted_words g (drop (i + 1) args)) (sym (append-nil (words_of (type_text g r))))

pub wanted_plain : (g : Parts) (a : Arg) (b : ℕ) → a ≡ Plain b → words_of (type_text g b) ≡ wanted_words g (a ∷ [])
unfolding wanted_words
wanted_plain g a b e = sym (ap (λ x. wanted_words g (x ∷ [])) e ∙ append-nil (words_of (type_text g b)))

pub wanted_fun : (g : Parts) (a : Arg) (ps : List ℕ) (b : ℕ) → a ≡ Fun ps b → words_of (type_text g b) ≡ wanted_words g (a ∷ [])
unfolding wanted_words
wanted_fun g a ps b e = sym (ap (λ x. wanted_words g (x ∷ [])) e ∙ append-nil (words_of (type_text g b)))

-- less is owed
pub owes_less : {Y S : Type 0} (start : List ℕ → Bool) (t u : IndexSet (String Y) S) (left first rest all : List (List ℕ)) → left ≡ first ++ rest → Adds t u first
    → ((b : List ℕ) → IsUtf8 b → (contains_text t b || has left (chars b)) ≡ (start b || has all (chars b)))
    → (b : List ℕ) → IsUtf8 b → (contains_text u b || has rest (chars b)) ≡ (start b || has all (chars b))
owes_less start t u left first rest all e h k b v =
    ap (λ p. p || has rest (chars b)) (h b v)
    ∙ sym (or_append (contains_text t b) (has first (chars b)) (has rest (chars b)))
    ∙ ap (λ p. contains_text t b || p) (sym (ap (λ x. has x (chars b)) e ∙ has_append first rest (chars b)))
    ∙ k b v

pub owes_none : {Y S : Type 0} (s t : IndexSet (String Y) S) (left all : List (List ℕ)) → left ≡ []
    → ((b : List ℕ) → IsUtf8 b → (contains_text t b || has left (chars b)) ≡ (contains_text s b || has all (chars b))) → Adds s t all
owes_none s t left all e k b v =
    sym (ap (λ p. contains_text t b || p) (ap (λ x. has x (chars b)) e ∙ has_nil (chars b)) ∙ or_none (contains_text t b)) ∙ k b v

pub wanted_end : (g : Parts) (args : List Arg) (i : ℕ) → length args ≤ i → wanted_words g (drop i args) ≡ []
unfolding wanted_words
wanted_end g args i l = ap (wanted_words g) (drop_all i args l)

-- the words of declarations, the first of them and the others
pub decls_first : (g : Parts) (ds : List Decl) (i : ℕ) (d : Decl) → i < length ds → d ≡ get_or ds i d → decls_words g (drop i ds) ≡ decl_words g d ++ decls_words g (drop (i + 1) ds)
unfolding decls_words
decls_first g ds i d l e = ap (decls_words g) (drop_more ds i d l ∙ ap (λ x. x ∷ drop (i + 1) ds) (sym e))

pub decls_end : (g : Parts) (ds : List Decl) (i : ℕ) → length ds ≤ i → decls_words g (drop i ds) ≡ []
unfolding decls_words
decls_end g ds i l = ap (decls_words g) (drop_all i ds l)

-- an empty set has no words
pub empty_has : {Y S : Type 0} (s : IndexSet (String Y) S) (b : List ℕ) → s.keys ≡ [] → contains_text s b ≡ false
empty_has s b e = ap (λ ks. list_any (λ k. bytes_eq b (string_bytes k)) ks) e

-- a set of all words of the declarations
pub all_declared : {Y S : Type 0} (g : Parts) (s t : IndexSet (String Y) S) → ((b : List ℕ) → contains_text s b ≡ false) → Adds s t (decls_words g g.decls) → Knows t (is_declared g) []
unfolding is_declared
all_declared g s t e h b v =
    h b v ∙ ap (λ p. p || has (decls_words g g.decls) (chars b)) (e b)
    ∙ sym (ap (λ p. has (decls_words g g.decls) (chars b) || p) (has_nil (chars b)) ∙ or_none (has (decls_words g g.decls) (chars b)))

-- a crowded declaration, and another one
pub words_crowded : (g : Parts) (d : Decl) → d.crowded ≡ true → form_words d.form ++ wanted_words g d.args ≡ decl_words g d
words_crowded g d e = sym (ap (λ b. form_words d.form ++ (if b then wanted_words g d.args else [])) e)

pub words_plain : (g : Parts) (d : Decl) → d.crowded ≡ false → form_words d.form ≡ decl_words g d
words_plain g d e = sym (ap (λ b. form_words d.form ++ (if b then wanted_words g d.args else [])) e ∙ append-nil (form_words d.form))

-- binders join the words that are known
pub knows_more : {Y S : Type 0} (s t : IndexSet (String Y) S) (d : List ℕ → Bool) (bound ws : List (List ℕ)) → Adds s t ws → Knows s d bound → Knows t d (bound ++ ws)
knows_more s t d bound ws h k b v =
    h b v ∙ ap (λ p. p || has ws (chars b)) (k b v)
    ∙ sym (or_append (d (chars b)) (has bound (chars b)) (has ws (chars b)))
    ∙ ap (λ p. d (chars b) || p) (sym (has_append bound ws (chars b)))

pub knows_kept : {Y S : Type 0} (s t : IndexSet (String Y) S) (d : List ℕ → Bool) (bound : List (List ℕ)) → t.keys ≡ s.keys → Knows s d bound → Knows t d bound
knows_kept s t d bound e k b v = ap (λ ks. list_any (λ x. bytes_eq b (string_bytes x)) ks) e ∙ k b v

-- a type with no such number
get_none : (xs : List (List ℕ)) (n : ℕ) → slice_get xs n ≡ None → get_or xs n [] ≡ []
get_none [] n e = refl
get_none (x ∷ xs) zero e = absurd (cc)
get_none (x ∷ xs) (suc n) e = get_none xs n e

pub type_none : (g : Parts) (n : ℕ) → slice_get g.types n ≡ None → words_of [] ≡ words_of (type_text g n)
type_none g n e = ap words_of (sym (get_none g.types n e))

-- what holds where a call succeeded
pub on_ok : {A E P Q : Type 0} (r : Result A E) → (P → Q) → OnOk r P → OnOk r Q
on_ok (Ok a) f h = f h
on_ok (Err e) f h = h

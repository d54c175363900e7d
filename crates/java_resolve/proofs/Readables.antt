-- Which texts can be read, by tests that go forward.
use Rattle.std.proofs.Common.{◌≡◌, ◌∙◌, ap, ap₂, sym, subst, refl, arith, ℕ, zero, suc, ◌+◌, ◌<◌, ◌&&◌, ◌||◌, ◌==◌, not, Bool, true, false, List, [], ◌∷◌, ◌++◌, length, get_or, ◌⊎◌, inl, inr, chars, IsUtf8, append_assoc, append-nil, tests, ne_eqb, lit<, take, take-suc, if◌then◌else◌, rules}
use Rattle.std.specs.List.{list_all}
use Rattle.std.proofs.lemmas.Bool.{and_parts, false≢true}
use Rattle.std.proofs.lemmas.Str.{chars-nil}
use Rattle.unicode_ident.proofs.IdentLemmas.{is_xid_continue-ascii}
use Rattle.java_units.specs.Signs.{has}
use Rattle.java_units.specs.Forms.{primitives}
use Rattle.java_tokens.specs.Classes.{is_word_part}
use Rattle.java_shapes.specs.Words.{spells_identifier, literals, dotted, IsPath}
use Rattle.java_shapes.specs.Grammar.{dimensions}
use Rattle.java_shapes.specs.Readable.{is_free, AreFreeWords, IsFormText, IsTypeText, IsReadable}
use Rattle.java_shapes.proofs.WordFacts.{and_both, Lacks, lacks_head, lacks_tail, lacks-append, identifier_lacks, identifier_dotless, free_identifier, has_cases, has_none}
use Rattle.java_shapes.proofs.Shaped.{one_word}
use Rattle.terms.specs.Apart.{Wants}
use Rattle.terms.specs.declared.parts.Arg.{Arg}
use Rattle.terms.specs.declared.parts.Arg.TheVariants.{Plain, Fun}
use Rattle.terms.specs.declared.parts.Decl.{Decl}
use Rattle.terms.specs.declared.parts.Form.{Form}
use Rattle.terms.specs.declared.parts.Form.TheVariants.{Name, This, Call, New, Method, Field, Lambda}
use Rattle.terms.specs.declared.parts.Parts.{Parts}
use Rattle.java_resolve.specs.Keys.{key}
use Rattle.java_resolve.specs.Readable.{are_parts, is_free_path, is_form_text, BeginsBracket, HasNoBracket, IsCut, dims_from, AreTypeTexts, AreDeclsReadable}

eq_dot : (c : ℕ) → (c == 46) ≡ true → c ≡ 46
eq_dot c e = search (rules, tests)

ne_dot : (c : ℕ) → (c ≡ 46 → ⊥) → (c == 46) ≡ false
ne_dot c h = ne_eqb c 46 h

eq_of : (a b : ℕ) → (a == b) ≡ true → a ≡ b
eq_of a b e = search (rules, tests)

-- paths
path_over : (test : List ℕ → Bool) (w t : List ℕ) → test w ≡ true → IsPath test test t → IsPath test test (w ++ 46 ∷ t)
unfolding dotted
path_over test w t h p = record { first = w; rest = p.first ∷ p.rest; first_is = h; rest_are = and_both (test p.first) (list_all test p.rest) p.first_is p.rest_are; is = ap (λ x. w ++ 46 ∷ x) p.is }

parts_by : (test : List ℕ → Bool) (w : List ℕ) (c : ℕ) (cs : List ℕ) (b : Bool) → (c == 46) ≡ b → ((v : List ℕ) → are_parts test v cs ≡ true → IsPath test test (v ++ cs)) → (if b then test w && are_parts test [] cs else are_parts test (w ++ c ∷ []) cs) ≡ true → IsPath test test (w ++ c ∷ cs)
parts_by test w c cs true e rest h =
    let k = and_parts (test w) (are_parts test [] cs) h in
    subst (λ x. IsPath test test (w ++ x ∷ cs)) (sym (eq_dot c e)) (path_over test w cs k.0 (rest [] k.1))
parts_by test w c cs false e rest h = subst (IsPath test test) (append_assoc w (c ∷ []) cs) (rest (w ++ c ∷ []) h)

pub parts_yes : (test : List ℕ → Bool) (w cs : List ℕ) → are_parts test w cs ≡ true → IsPath test test (w ++ cs)
unfolding are_parts
parts_yes test w [] h = one_word test test (w ++ []) (subst (λ x. test x ≡ true) (sym (append-nil w)) h)
parts_yes test w (c ∷ cs) h = parts_by test w c cs (c == 46) refl (λ v k. parts_yes test v cs k) h

parts_dot : (test : List ℕ → Bool) (w cs : List ℕ) → test w ≡ true → are_parts test [] cs ≡ true → are_parts test w (46 ∷ cs) ≡ true
unfolding are_parts
parts_dot test w cs h k = and_both (test w) (are_parts test [] cs) h k

parts_char : (test : List ℕ → Bool) (w : List ℕ) (c : ℕ) (cs : List ℕ) → (c ≡ 46 → ⊥) → are_parts test (w ++ c ∷ []) cs ≡ true → are_parts test w (c ∷ cs) ≡ true
unfolding are_parts
parts_char test w c cs n h = let e : (c == 46) ≡ false = ne_dot c n in rw e h

parts_end : (test : List ℕ → Bool) (w : List ℕ) → test w ≡ true → are_parts test w [] ≡ true
unfolding are_parts
parts_end test w h = h

parts_no : (test : List ℕ → Bool) → ((v : List ℕ) → test v ≡ true → Lacks 46 v) → (w u : List ℕ) (rest : List (List ℕ)) → Lacks 46 u → test (w ++ u) ≡ true → list_all test rest ≡ true → are_parts test w (u ++ dotted rest) ≡ true
unfolding dotted
parts_no test dotless w [] [] l h k = parts_end test w (subst (λ x. test x ≡ true) (append-nil w) h)
parts_no test dotless w [] (r ∷ rest) l h k =
    let p = and_parts (test r) (list_all test rest) k in
    parts_dot test w (r ++ dotted rest) (subst (λ x. test x ≡ true) (append-nil w) h) (parts_no test dotless [] r rest (dotless r p.0) p.0 p.1)
parts_no test dotless w (c ∷ u) rest l h k =
    parts_char test w c (u ++ dotted rest) (lacks_head 46 c u l) (parts_no test dotless (w ++ c ∷ []) u rest (lacks_tail 46 c u l) (subst (λ x. test x ≡ true) (sym (append_assoc w (c ∷ []) u)) h) k)

free_dotless : (b v : List ℕ) → is_free b v ≡ true → Lacks 46 v
free_dotless b v h = identifier_dotless v (free_identifier b v h)

pub free_yes : (b t : List ℕ) → is_free_path b t ≡ true → IsPath (is_free b) (is_free b) t
unfolding is_free_path
free_yes b t h = parts_yes (is_free b) [] t h

pub free_no : (b t : List ℕ) → IsPath (is_free b) (is_free b) t → is_free_path b t ≡ true
unfolding is_free_path
free_no b t p = subst (λ x. are_parts (is_free b) [] x ≡ true) (sym p.is) (parts_no (is_free b) (free_dotless b) [] p.first p.rest (free_dotless b p.first p.first_is) p.first_is p.rest_are)

-- forms
or_cases : (a b : Bool) → (a || b) ≡ true → (a ≡ true) ⊎ (b ≡ true)
or_cases true b h = inl refl
or_cases false b h = inr h

or_first : (a b : Bool) → a ≡ true → (a || b) ≡ true
or_first true b h = refl
or_first false b h = absurd (false≢true h)

or_second : (a b : Bool) → b ≡ true → (a || b) ≡ true
or_second true b h = refl
or_second false b h = h

form_yes_by : (g : Parts) (f : Form) → IsUtf8 (key f) → is_form_text (chars g.binder) f ≡ true → IsFormText g f
form_yes_by g (Name s) u h = elim (or_cases (is_free_path (chars g.binder) (chars s)) (has literals (chars s)) h) [ inl p ↦ (u, inl (free_yes (chars g.binder) (chars s) p)) | inr l ↦ (u, inr l) ]
form_yes_by g This u h = tt
form_yes_by g (Call s) u h = (u, free_yes (chars g.binder) (chars s) h)
form_yes_by g (New s) u h = (u, free_yes (chars g.binder) (chars s) h)
form_yes_by g (Method s) u h = (u, h)
form_yes_by g (Field s hidden) u h = (u, h)
form_yes_by g (Lambda s) u h = (u, free_yes (chars g.binder) (chars s) h)

form_no_by : (g : Parts) (f : Form) → IsFormText g f → is_form_text (chars g.binder) f ≡ true
form_no_by g (Name s) (u, inl p) = or_first (is_free_path (chars g.binder) (chars s)) (has literals (chars s)) (free_no (chars g.binder) (chars s) p)
form_no_by g (Name s) (u, inr l) = or_second (is_free_path (chars g.binder) (chars s)) (has literals (chars s)) l
form_no_by g This h = refl
form_no_by g (Call s) h = free_no (chars g.binder) (chars s) h.1
form_no_by g (New s) h = free_no (chars g.binder) (chars s) h.1
form_no_by g (Method s) h = h.1
form_no_by g (Field s hidden) h = h.1
form_no_by g (Lambda s) h = free_no (chars g.binder) (chars s) h.1

pub form_yes : (g : Parts) (b : List ℕ) (f : Form) (t : List ℕ) (r : Bool) → b ≡ g.binder → t ≡ key f → IsUtf8 t → r ≡ is_form_text (chars b) f → r ≡ true → IsFormText g f
form_yes g b f t r e k u q h = form_yes_by g f (subst IsUtf8 k u) (ap (λ x. is_form_text (chars x) f) (sym e) ∙ sym q ∙ h)

pub form_no : (g : Parts) (b : List ℕ) (f : Form) (r : Bool) → b ≡ g.binder → r ≡ is_form_text (chars b) f → IsFormText g f → r ≡ true
form_no g b f r e q h = q ∙ ap (λ x. is_form_text (chars x) f) e ∙ form_no_by g f h

-- types
pub cut_same : (a b r s : List ℕ) → HasNoBracket a → HasNoBracket b → BeginsBracket r → BeginsBracket s → a ++ r ≡ b ++ s → (a ≡ b) × (r ≡ s)
cut_same [] [] r s ha hb hr hs e = (refl, e)
cut_same [] (c ∷ b) [] s ha hb hr hs e = absurd cc
cut_same [] (c ∷ b) (x ∷ r) s ha hb hr hs e = absurd (lacks_head 91 c b hb (cc (hr, e)))
cut_same (c ∷ a) [] r [] ha hb hr hs e = absurd cc
cut_same (c ∷ a) [] r (x ∷ s) ha hb hr hs e = absurd (lacks_head 91 c a ha (cc (hs, e)))
cut_same (c ∷ a) (d ∷ b) r s ha hb hr hs e = let k = cut_same a b r s (lacks_tail 91 c a ha) (lacks_tail 91 d b hb) hr hs cc in (cc (k.0, e), k.1)

pub dims_begin : (n : ℕ) → BeginsBracket (dimensions n)
unfolding dimensions
dims_begin zero = tt
dims_begin (suc n) = refl

no_part : is_word_part 91 ≡ false
unfolding is_word_part
no_part = ap (λ b. b || 91 == 36) (is_xid_continue-ascii 91 (lit< tt))

words_ok : (b : List ℕ) (ws : List (List ℕ)) → list_all (is_free b) ws ≡ true → HasNoBracket (dotted ws)
unfolding dotted
words_ok b [] h = refl
words_ok b (w ∷ ws) h =
    let p = and_parts (is_free b w) (list_all (is_free b) ws) h in
    lacks-append 91 w (dotted ws) (identifier_lacks 91 no_part w (free_identifier b w p.0)) (words_ok b ws p.1)

path_ok : (b t : List ℕ) → IsPath (is_free b) (is_free b) t → HasNoBracket t
path_ok b t p = subst HasNoBracket (sym p.is) (lacks-append 91 p.first (dotted p.rest) (identifier_lacks 91 no_part p.first (free_identifier b p.first p.first_is)) (words_ok b p.rest p.rest_are))

abbrev all_ok : List (List ℕ) → Bool
all_ok ws = list_all (λ w. list_all (λ c. not (c == 91)) w) ws

has_ok : (ws : List (List ℕ)) (t : List ℕ) → all_ok ws ≡ true → has ws t ≡ true → HasNoBracket t
has_ok [] t a h = absurd (has_none t h)
has_ok (w ∷ ws) t a h =
    let p = and_parts (list_all (λ c. not (c == 91)) w) (all_ok ws) a in
    elim (has_cases w ws t h) [ inl e ↦ subst HasNoBracket e p.0 | inr k ↦ has_ok ws t p.1 k ]

primitives_ok : all_ok primitives ≡ true
primitives_ok = refl

-- a path, at first and at its end
pub path_start : (b w t : List ℕ) → w ≡ [] → are_parts (is_free b) w t ≡ is_free_path b t
unfolding is_free_path
path_start b w t e = ap (λ x. are_parts (is_free b) x t) e

pub parts_stop : (test : List ℕ → Bool) (w rest : List ℕ) → rest ≡ [] → test w ≡ are_parts test w (chars rest)
unfolding are_parts
parts_stop test w rest e = sym (ap (λ x. are_parts test w (chars x)) e ∙ ap (are_parts test w) chars-nil)

-- `[]` after `[]`
dims_one : (c : ℕ) (b : Bool) → ((c == 91) && b) ≡ true → (c ≡ 91) × (b ≡ true)
dims_one c b h = let k = and_parts (c == 91) b h in (eq_of c 91 k.0, k.1)

dims_two : (c : ℕ) (b : Bool) → ((c == 93) && b) ≡ true → (c ≡ 93) × (b ≡ true)
dims_two c b h = let k = and_parts (c == 93) b h in (eq_of c 93 k.0, k.1)

pub dims_yes : (t : List ℕ) → dims_from false t ≡ true → (n : ℕ) × (t ≡ dimensions n)
unfolding dims_from dimensions
dims_yes [] h = (zero, refl)
dims_yes (c ∷ []) h = absurd (false≢true (dims_one c false h).1)
dims_yes (c ∷ d ∷ t) h =
    let k = dims_one c ((d == 93) && dims_from false t) h in
    let l = dims_two d (dims_from false t) k.1 in
    let r = dims_yes t l.1 in
    (suc r.0, ap₂ (λ x y. x ∷ y) k.0 (ap₂ (λ x y. x ∷ y) l.0 r.1))

pub dims_no : (n : ℕ) → dims_from false (dimensions n) ≡ true
unfolding dims_from dimensions
dims_no zero = refl
dims_no (suc n) = dims_no n

-- types
base_ok : (g : Parts) (b : List ℕ) → AreFreeWords g b ⊎ (has primitives b ≡ true) → HasNoBracket b
base_ok g b (inl p) = path_ok (chars g.binder) b p
base_ok g b (inr h) = has_ok primitives b primitives_ok h

type_cut : (g : Parts) (s base rest : List ℕ) → IsCut (chars s) base rest → (t : IsTypeText g s) → (base ≡ t.base) × (rest ≡ dimensions t.count)
type_cut g s base rest c t = cut_same base t.base rest (dimensions t.count) c.base_is (base_ok g t.base t.base_is) c.rest_is (dims_begin t.count) (sym c.is ∙ t.is)

base_test : (g : Parts) (b : List ℕ) → AreFreeWords g b ⊎ (has primitives b ≡ true) → (has primitives b || is_free_path (chars g.binder) b) ≡ true
base_test g b (inl p) = or_second (has primitives b) (is_free_path (chars g.binder) b) (free_no (chars g.binder) b p)
base_test g b (inr h) = or_first (has primitives b) (is_free_path (chars g.binder) b) h

pub type_yes : (g : Parts) (s t base rest : List ℕ) (r : Bool) → t ≡ s → IsUtf8 t → IsCut (chars t) base rest → dims_from false rest ≡ true → r ≡ (has primitives base || is_free_path (chars g.binder) base) → r ≡ true → IsTypeText g s
type_yes g s t base rest r e u c d q h =
    let k = dims_yes rest d in
    let is : chars s ≡ base ++ dimensions k.0 = ap chars (sym e) ∙ c.is ∙ ap (λ x. base ++ x) k.1 in
    elim (or_cases (has primitives base) (is_free_path (chars g.binder) base) (sym q ∙ h)) [
      | inl p ↦ record { utf8 = subst IsUtf8 e u; base = base; count = k.0; base_is = inr p; is = is }
      | inr f ↦ record { utf8 = subst IsUtf8 e u; base = base; count = k.0; base_is = inl (free_yes (chars g.binder) base f); is = is }
    ]

pub type_no_dims : (g : Parts) (s t base rest : List ℕ) → t ≡ s → IsCut (chars t) base rest → dims_from false rest ≡ false → IsTypeText g s → false ≡ true
type_no_dims g s t base rest e c d h =
    let k = type_cut g s base rest (subst (λ x. IsCut (chars x) base rest) e c) h in
    sym d ∙ ap (dims_from false) k.1 ∙ dims_no h.count

pub type_no_base : (g : Parts) (s t base rest : List ℕ) (r : Bool) → t ≡ s → IsCut (chars t) base rest → r ≡ (has primitives base || is_free_path (chars g.binder) base) → IsTypeText g s → r ≡ true
type_no_base g s t base rest r e c q h =
    let k = type_cut g s base rest (subst (λ x. IsCut (chars x) base rest) e c) h in
    q ∙ ap (λ x. has primitives x || is_free_path (chars g.binder) x) k.0 ∙ base_test g h.base h.base_is

-- a text that is cut
pub cut_start : (base t : List ℕ) → base ≡ [] → (t ≡ base ++ t) × HasNoBracket base
cut_start base t e = (sym (ap (λ x. x ++ t) e), subst HasNoBracket (sym e) refl)

pub cut_end : (t base rest : List ℕ) → t ≡ base ++ chars rest → HasNoBracket base → rest ≡ [] → IsCut t base (chars rest)
cut_end t base rest e h f = record { is = e; base_is = h; rest_is = subst BeginsBracket (sym (ap chars f ∙ chars-nil)) tt }

dims_none : (b : Bool) → not b ≡ dims_from b []
unfolding dims_from
dims_none true = refl
dims_none false = refl

pub dims_end : (b : Bool) (rest : List ℕ) → rest ≡ [] → not b ≡ dims_from b (chars rest)
dims_end b rest e = dims_none b ∙ sym (ap (λ x. dims_from b (chars x)) e ∙ ap (dims_from b) chars-nil)

-- what places want, up to one more
wants_split : (xs ys : List Arg) (b : ℕ) → Wants (xs ++ ys) b → Wants xs b ⊎ Wants ys b
wants_split [] ys b w = inr w
wants_split (Plain a ∷ xs) ys b (inl e) = inl (inl e)
wants_split (Plain a ∷ xs) ys b (inr w) = elim (wants_split xs ys b w) [ inl h ↦ inl (inr h) | inr h ↦ inr h ]
wants_split (Fun ps r ∷ xs) ys b (inl e) = inl (inl e)
wants_split (Fun ps r ∷ xs) ys b (inr w) = elim (wants_split xs ys b w) [ inl h ↦ inl (inr h) | inr h ↦ inr h ]

pub wants_more : (g : Parts) (args : List Arg) (i : ℕ) (x : Arg) → i < length args → x ≡ get_or args i x → AreTypeTexts g (take i args) → AreTypeTexts g (x ∷ []) → AreTypeTexts g (take (i + 1) args)
wants_more g args i x l e h k = λ b w.
    let more : take (i + 1) args ≡ take i args ++ x ∷ [] = ap (λ n. take n args) (add_one i) ∙ take-suc args i x l ∙ ap (λ z. take i args ++ z ∷ []) (sym e) in
    elim (wants_split (take i args) (x ∷ []) b (subst (λ z. Wants z b) more w)) [ inl u ↦ h b u | inr u ↦ k b u ]
  where
    add_one : (i : ℕ) → i + 1 ≡ suc i
    add_one i = omega arith

wants_first : (x : Arg) (xs : List Arg) (b : ℕ) → Wants (x ∷ []) b → Wants (x ∷ xs) b
wants_first (Plain a) xs b (inl e) = inl e
wants_first (Plain a) xs b (inr w) = absurd w
wants_first (Fun ps r) xs b (inl e) = inl e
wants_first (Fun ps r) xs b (inr w) = absurd w

wants_rest : (x : Arg) (xs : List Arg) (b : ℕ) → Wants xs b → Wants (x ∷ xs) b
wants_rest (Plain a) xs b w = inr w
wants_rest (Fun ps r) xs b w = inr w

wants_get : (args : List Arg) (i : ℕ) (d : Arg) → i < length args → (b : ℕ) → Wants (get_or args i d ∷ []) b → Wants args b
wants_get [] i d l b w = absurd (omega arith)
wants_get (x ∷ args) zero d l b w = wants_first x args b w
wants_get (x ∷ args) (suc i) d l b w = wants_rest x args b (wants_get args i d (omega arith) b w)

pub wants_at : (args : List Arg) (i : ℕ) (x : Arg) → i < length args → x ≡ get_or args i x → (b : ℕ) → Wants (x ∷ []) b → Wants args b
wants_at args i x l e b w = wants_get args i x l b (subst (λ z. Wants (z ∷ []) b) e w)

-- an environment
pub readable_of : (g h : Parts) (ds : List Decl) → h ≡ g → ds ≡ h.decls → AreDeclsReadable h ds → IsUtf8 g.binder → spells_identifier (chars g.binder) ≡ true → IsReadable g
readable_of g h ds e f k u s =
    let all : AreDeclsReadable g g.decls = subst (λ x. AreDeclsReadable x x.decls) e (subst (λ z. AreDeclsReadable h z) f k) in
    record { binder_text = u; binder = s; forms = λ i d at. (all i d at).form; types = λ i d b at c w. (all i d at).types c b w }

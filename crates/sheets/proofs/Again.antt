-- The sheet of an environment is a sheet of it.
use Rattle.std.proofs.Common.{◌≡◌, ◌∙◌, sym, ap, subst, ℕ, suc, zero, ◌+◌, ◌<◌, ◌≤◌, List, [], ◌∷◌, ◌++◌, length, drop, map, slice_get, arith, refl, Bool, true, false, ◌&&◌, ◌||◌, ◌==◌, Option, Some, None, append_assoc, append-nil}
use Rattle.std.specs.Prelude.{nat_le, is_some, option_map, unwrap_or, option_and_then, codes, decimal, bytes_eq}
use Rattle.std.specs.List.{flat_map, list_all}
use Rattle.std.specs.Str.{is_utf8, IsUtf8}
use Rattle.std.specs.Str.Lines.{lines}
use Rattle.std.proofs.lemmas.Bool.{eq-eqb}
use Rattle.std.proofs.lemmas.Grind.{flat_map-append}
use Rattle.std.proofs.lemmas.List.{map-append}
use Rattle.sheets.specs.Words.{word, has, index_of, is_number, number}
use Rattle.sheets.specs.SheetLines.{Line, type_line, sub_line, decl_line, goal_line, number_line, binder_line, line_of, version_of}
use Rattle.sheets.specs.Sheets.{cause, Seen, number_cause, type_cause, type_in, pair_in, decl_in, decl_of, has_all, types_of, goals_of, binders_of, numbers_of, numbers_from, value_of, steps_of, parts_of, first, body_of, first_fault, lines_fault, text_fault, parts_fault, sheet_fault, fault_or, env_fault_at, IsSheet}
use Rattle.sheets.specs.Writing.{name_of, line_text, type_text, pair_text, decl_text, number_text, word_text, last_lines, sheet_lines, sheet_text, ended, form_names, decl_head, is_plain, IsWritable}
use Rattle.sheets.specs.declared.kind.NumberWord.{NumberWord}
use Rattle.sheets.specs.declared.kind.NumberWord.TheVariants.{Limit, Depth, Bound, Binding, Step}
use Rattle.sheets.specs.declared.kind.Version.{Version}
use Rattle.sheets.specs.declared.kind.Version.TheVariants.{One, Two}
use Rattle.terms.specs.Typing.{is_pair}
use Rattle.terms.specs.Faults.{IsValid, first_env_fault}
use Rattle.terms.specs.declared.parts.Decl.{Decl}
use Rattle.terms.specs.declared.parts.Parts.{Parts}
use Rattle.terms.proofs.Valid.{IsSound, HasSteps, valid-limit, valid-depth, valid-steps, valid-goal, valid-pair, valid-decl}
use Rattle.sheets.proofs.Texts.{text-good}
use Rattle.sheets.proofs.Bodies.{sheet_is}
use Rattle.sheets.proofs.Cuts.{both, of-both, is_inner, all-append, lines-ended, line-inner}
use Rattle.sheets.proofs.Said.{type-said, sub-said, goal-said, binder-said, number-said, decl-said, number-is, number-back, decimal-plain, word-plain, head-plain, type-plain, sub-plain, goal-plain, binder-plain, plain-two, plain-three}
use Rattle.sheets.proofs.Apart.{AreApart, has-name, index-name}
use Rattle.sheets.proofs.Fine.{IsFine, IsFree, AreFree, fine-moved, fine-types, fine-free, types-of-types}
use Rattle.sheets.proofs.Known.{IsKnown, IsSaid, IsRoom, later_words, words_as, word_for_form, name-plain, decl-known}
use Rattle.sheets.proofs.Last.{IsQuiet, AreQuiet, quiet-map, quiet-append, goals-quiet, binders-quiet, numbers-quiet, last-of, last-fine, limit-last, depth-last, bound-last, binding-last, step-last}

-- a property of each element
abbrev pub Each : {X : Type 0} → (X → Type 0) → List X → Type 0
Each P [] = Unit {0}
Each P (x ∷ xs) = P x × Each P xs

each-get : {X : Type 0} (P : X → Type 0) (xs : List X) → ((k : ℕ) (x : X) → slice_get xs k ≡ Some x → P x) → Each P xs
each-get P [] f = tt
each-get P (x ∷ xs) f = (f zero x refl, each-get P xs (λ k y e. f (suc k) y e))

or-right : (a b : Bool) → b ≡ true → (a || b) ≡ true
or-right true b e = refl
or-right false b e = e

-- both sides of each pair are types
pair-here : (p : ℕ × ℕ) (ps : List (ℕ × ℕ)) → is_pair (p ∷ ps) p.0 p.1 ≡ true
unfolding is_pair
pair-here p ps = rw (eq-eqb p.0 p.0 refl, eq-eqb p.1 p.1 refl) refl

pair-there : (p : ℕ × ℕ) (ps : List (ℕ × ℕ)) (a b : ℕ) → is_pair ps a b ≡ true → is_pair (p ∷ ps) a b ≡ true
unfolding is_pair
pair-there p ps a b e = or-right ((p.0 == a) && (p.1 == b)) (is_pair ps a b) e

each-pair : (n : ℕ) (ps : List (ℕ × ℕ)) → ((a b : ℕ) → is_pair ps a b ≡ true → (a < n) × (b < n)) → Each (λ p. (p.0 < n) × (p.1 < n)) ps
each-pair n [] f = tt
each-pair n (p ∷ ps) f = (f p.0 p.1 (pair-here p ps), each-pair n ps (λ a b e. f a b (pair-there p ps a b e)))

-- the lines
abbrev pair-line : List (List ℕ) → ℕ × ℕ → Line
pair-line ts p = sub_line (name_of ts p.0) (name_of ts p.1)

abbrev decl-line : List (List ℕ) → Decl → Line
decl-line ts d = decl_line (words_as (later_words ts d) d)

abbrev last-line : Parts → List Line
last-line g = last-of (name_of g.types g.goal) (decimal g.limit) (decimal g.depth) g.binder (decimal g.steps.bound) (decimal g.steps.binder) (decimal g.steps.step)

abbrev first-lines : Parts → List Line
first-lines g = map type_line g.types ++ (map (pair-line g.types) g.pairs ++ map (decl-line g.types) g.decls)

abbrev all-lines : Parts → List Line
all-lines g = map type_line g.types ++ (map (pair-line g.types) g.pairs ++ (map (decl-line g.types) g.decls ++ last-line g))

-- what an environment that can be written has
record IsReady (g : Parts) : Type 0 where
  types : list_all is_plain g.types ≡ true
  apart : AreApart g.types
  binder : is_plain g.binder ≡ true
  pairs : Each (λ p. (p.0 < length g.types) × (p.1 < length g.types)) g.pairs
  decls : Each (IsSaid g.types) g.decls
  goal : g.goal < length g.types
  limit : g.limit ≤ 999999999
  depth : g.depth ≤ 999999999
  bound : g.steps.bound ≤ 999999999
  binding : g.steps.binder ≤ 999999999
  step : g.steps.step ≤ 999999999

names-at : (ds : List Decl) → list_all (λ d. list_all is_plain (form_names d.form)) ds ≡ true → (k : ℕ) (d : Decl) → slice_get ds k ≡ Some d → list_all is_plain (form_names d.form) ≡ true
names-at [] h k d e = absurd cc
names-at (c ∷ ds) h zero d e =
    let same : c ≡ d = cc in
    subst (λ x. list_all is_plain (form_names x.form) ≡ true) same (both (list_all is_plain (form_names c.form)) (list_all (λ x. list_all is_plain (form_names x.form)) ds) h).0
names-at (c ∷ ds) h (suc k) d e = names-at ds (both (list_all is_plain (form_names c.form)) (list_all (λ x. list_all is_plain (form_names x.form)) ds) h).1 k d e

decl-said-at : (g : Parts) → IsValid g → IsWritable g → (k : ℕ) (d : Decl) → slice_get g.decls k ≡ Some d → IsSaid g.types d
decl-said-at g valid w k d e =
    let sound = valid-decl g valid k d e in
    decl-known g.types d.crowded d.weight d.result d.form d.args (record { plain = w.types; apart = w.apart; weight = omega (arith, sound.light); result = sound.result }) (names-at g.decls w.names k d e) sound.args sound.formed

ready : (g : Parts) → IsValid g → IsWritable g → IsReady g
ready g valid w =
    let steps = valid-steps g valid in
    record {
      types = w.types;
      apart = w.apart;
      binder = w.binder;
      pairs = each-pair (length g.types) g.pairs (λ a b e. let p = valid-pair g valid a b e in (p.0, p.1));
      decls = each-get (IsSaid g.types) g.decls (decl-said-at g valid w);
      goal = valid-goal g valid;
      limit = omega (arith, (valid-limit g valid).1);
      depth = omega (arith, valid-depth g valid);
      bound = omega (arith, steps.bound.1);
      binding = omega (arith, steps.binder.1);
      step = omega (arith, steps.step.1);
    }

-- no line has an end in it
types-inner : (ts : List (List ℕ)) → list_all is_plain ts ≡ true → list_all (list_all is_inner) (map type_text ts) ≡ true
types-inner [] h = refl
types-inner (t ∷ ts) h =
    let k = both (is_plain t) (list_all is_plain ts) h in
    of-both (list_all is_inner (type_text t)) (list_all (list_all is_inner) (map type_text ts)) (line-inner (codes "type") (t ∷ []) (plain-two (codes "type") t type-plain k.0)) (types-inner ts k.1)

pairs-inner : (ts : List (List ℕ)) (ps : List (ℕ × ℕ)) → list_all is_plain ts ≡ true → Each (λ p. (p.0 < length ts) × (p.1 < length ts)) ps → list_all (list_all is_inner) (map (pair_text ts) ps) ≡ true
pairs-inner ts [] h e = refl
pairs-inner ts (p ∷ ps) h e =
    let a = name-plain ts p.0 h e.0.0 in
    let b = name-plain ts p.1 h e.0.1 in
    of-both (list_all is_inner (pair_text ts p)) (list_all (list_all is_inner) (map (pair_text ts) ps)) (line-inner (codes "sub") (name_of ts p.0 ∷ name_of ts p.1 ∷ []) (plain-three (codes "sub") (name_of ts p.0) (name_of ts p.1) sub-plain a b)) (pairs-inner ts ps h e.1)

decls-inner : (ts : List (List ℕ)) (ds : List Decl) → Each (IsSaid ts) ds → list_all (list_all is_inner) (map (decl_text ts) ds) ≡ true
decls-inner ts [] e = refl
decls-inner ts (d ∷ ds) e =
    of-both (list_all is_inner (decl_text ts d)) (list_all (list_all is_inner) (map (decl_text ts) ds))
    (line-inner (decl_head d.crowded) (later_words ts d) (of-both (is_plain (decl_head d.crowded)) (list_all is_plain (later_words ts d)) (head-plain d.crowded) e.0.plain))
    (decls-inner ts ds e.1)

last-inner : (g : Parts) → IsReady g → list_all (list_all is_inner) (last_lines g) ≡ true
last-inner g r =
    let num : (w : NumberWord) (n : ℕ) → n ≤ 999999999 → list_all is_inner (number_text w n) ≡ true = λ w n l. line-inner (word_text w) (decimal n ∷ []) (plain-two (word_text w) (decimal n) (word-plain w) (decimal-plain n l)) in
    let q = list_all is_inner in
    let t = name_of g.types g.goal in
    of-both (q (line_text (codes "goal") (t ∷ []))) _ (line-inner (codes "goal") (t ∷ []) (plain-two (codes "goal") t goal-plain (name-plain g.types g.goal r.types r.goal)))
    (of-both (q (number_text Limit g.limit)) _ (num Limit g.limit r.limit)
    (of-both (q (number_text Depth g.depth)) _ (num Depth g.depth r.depth)
    (of-both (q (line_text (codes "binder") (g.binder ∷ []))) _ (line-inner (codes "binder") (g.binder ∷ []) (plain-two (codes "binder") g.binder binder-plain r.binder))
    (of-both (q (number_text Bound g.steps.bound)) _ (num Bound g.steps.bound r.bound)
    (of-both (q (number_text Binding g.steps.binder)) _ (num Binding g.steps.binder r.binding)
    (of-both (q (number_text Step g.steps.step)) true (num Step g.steps.step r.step) refl))))))

head-inner : list_all is_inner (codes "insynth sheet 2") ≡ true
head-inner = refl

all-inner : (g : Parts) → IsReady g → list_all (list_all is_inner) (sheet_lines g) ≡ true
all-inner g r =
    let q = list_all is_inner in
    of-both (q (codes "insynth sheet 2")) _ head-inner
    (all-append q (map type_text g.types) _ (types-inner g.types r.types)
    (all-append q (map (pair_text g.types) g.pairs) _ (pairs-inner g.types g.pairs r.types r.pairs)
    (all-append q (map (decl_text g.types) g.decls) (last_lines g) (decls-inner g.types g.decls r.decls) (last-inner g r))))

-- what the lines say
cons-same : (a b : Line) (xs ys : List Line) → a ≡ b → xs ≡ ys → a ∷ xs ≡ b ∷ ys
cons-same a b xs ys e h = ap (λ x. x ∷ xs) e ∙ ap (λ x. b ∷ x) h

append-same : (a b xs ys : List Line) → a ≡ b → xs ≡ ys → a ++ xs ≡ b ++ ys
append-same a b xs ys e h = ap (λ x. x ++ xs) e ∙ ap (λ x. b ++ x) h

types-read : (ts : List (List ℕ)) → list_all is_plain ts ≡ true → map (line_of Two) (map type_text ts) ≡ map type_line ts
types-read [] h = refl
types-read (t ∷ ts) h =
    let k = both (is_plain t) (list_all is_plain ts) h in
    cons-same (line_of Two (type_text t)) (type_line t) (map (line_of Two) (map type_text ts)) (map type_line ts) (type-said Two t k.0) (types-read ts k.1)

pairs-read : (ts : List (List ℕ)) (ps : List (ℕ × ℕ)) → list_all is_plain ts ≡ true → Each (λ p. (p.0 < length ts) × (p.1 < length ts)) ps → map (line_of Two) (map (pair_text ts) ps) ≡ map (pair-line ts) ps
pairs-read ts [] h e = refl
pairs-read ts (p ∷ ps) h e =
    cons-same (line_of Two (pair_text ts p)) (pair-line ts p) (map (line_of Two) (map (pair_text ts) ps)) (map (pair-line ts) ps) (sub-said Two (name_of ts p.0) (name_of ts p.1) (name-plain ts p.0 h e.0.0) (name-plain ts p.1 h e.0.1)) (pairs-read ts ps h e.1)

decls-read : (ts : List (List ℕ)) (ds : List Decl) → Each (IsSaid ts) ds → map (line_of Two) (map (decl_text ts) ds) ≡ map (decl-line ts) ds
decls-read ts [] e = refl
decls-read ts (d ∷ ds) e =
    cons-same (line_of Two (decl_text ts d)) (decl-line ts d) (map (line_of Two) (map (decl_text ts) ds)) (map (decl-line ts) ds) (decl-said Two d.crowded (word_for_form d.form) (later_words ts d) e.0.plain e.0.kind) (decls-read ts ds e.1)

last-read : (g : Parts) → IsReady g → map (line_of Two) (last_lines g) ≡ last-line g
last-read g r =
    let t = name_of g.types g.goal in
    cons-same _ (goal_line t) _ _ (goal-said Two t (name-plain g.types g.goal r.types r.goal))
    (cons-same _ (number_line Limit (decimal g.limit)) _ _ (number-said Limit (decimal g.limit) (decimal-plain g.limit r.limit))
    (cons-same _ (number_line Depth (decimal g.depth)) _ _ (number-said Depth (decimal g.depth) (decimal-plain g.depth r.depth))
    (cons-same _ (binder_line g.binder) _ _ (binder-said Two g.binder r.binder)
    (cons-same _ (number_line Bound (decimal g.steps.bound)) _ _ (number-said Bound (decimal g.steps.bound) (decimal-plain g.steps.bound r.bound))
    (cons-same _ (number_line Binding (decimal g.steps.binder)) _ _ (number-said Binding (decimal g.steps.binder) (decimal-plain g.steps.binder r.binding))
    (cons-same _ (number_line Step (decimal g.steps.step)) [] [] (number-said Step (decimal g.steps.step) (decimal-plain g.steps.step r.step)) refl))))))

body-read : (g : Parts) → IsReady g → map (line_of Two) (map type_text g.types ++ (map (pair_text g.types) g.pairs ++ (map (decl_text g.types) g.decls ++ last_lines g))) ≡ all-lines g
body-read g r =
    let f = line_of Two in
    let ts = g.types in
    let T = map type_text ts in
    let S = map (pair_text ts) g.pairs in
    let D = map (decl_text ts) g.decls in
    map-append f T (S ++ (D ++ last_lines g))
    ∙ append-same (map f T) (map type_line ts) (map f (S ++ (D ++ last_lines g))) _ (types-read ts r.types)
    (map-append f S (D ++ last_lines g)
    ∙ append-same (map f S) (map (pair-line ts) g.pairs) (map f (D ++ last_lines g)) _ (pairs-read ts g.pairs r.types r.pairs)
    (map-append f D (last_lines g) ∙ append-same (map f D) (map (decl-line ts) g.decls) (map f (last_lines g)) (last-line g) (decls-read ts g.decls r.decls) (last-read g r)))

-- no line has a fault
pair-free : (ts : List (List ℕ)) (a b : List ℕ) → has ts a ≡ true → has ts b ≡ true → IsFree ts (sub_line a b)
unfolding cause type_cause
pair-free ts a b h k = record { cause = λ seen. rw (h, k) refl; type = refl }

decl-free : (ts : List (List ℕ)) (d : Decl) → IsSaid ts d → IsFree ts (decl-line ts d)
unfolding cause type_cause number_cause
decl-free ts d s = record { cause = λ seen. rw (s.number, s.declared) refl; type = refl }

pairs-free : (ts : List (List ℕ)) (ps : List (ℕ × ℕ)) → AreApart ts → Each (λ p. (p.0 < length ts) × (p.1 < length ts)) ps → AreFree ts (map (pair-line ts) ps)
pairs-free ts [] a e = tt
pairs-free ts (p ∷ ps) a e = (pair-free ts (name_of ts p.0) (name_of ts p.1) (has-name ts p.0 a e.0.0) (has-name ts p.1 a e.0.1), pairs-free ts ps a e.1)

decls-free : (ts : List (List ℕ)) (ds : List Decl) → Each (IsSaid ts) ds → AreFree ts (map (decl-line ts) ds)
decls-free ts [] e = tt
decls-free ts (d ∷ ds) e = (decl-free ts d e.0, decls-free ts ds e.1)

no-types : (ts : List (List ℕ)) (xs : List Line) → AreFree ts xs → types_of xs ≡ []
no-types ts [] f = refl
no-types ts (x ∷ xs) f = ap (λ y. y ++ types_of xs) f.0.type ∙ no-types ts xs f.1

types-with : (ts : List (List ℕ)) (q xs : List Line) → types_of q ≡ ts → AreFree ts xs → types_of (q ++ xs) ≡ ts
types-with ts q xs is f = flat_map-append type_in q xs ∙ ap (λ y. types_of q ++ y) (no-types ts xs f) ∙ append-nil (types_of q) ∙ is

first-quiet : (g : Parts) → AreQuiet (first-lines g)
first-quiet g =
    quiet-append (map type_line g.types) (map (pair-line g.types) g.pairs ++ map (decl-line g.types) g.decls) (quiet-map type_line (λ t. record { goal = refl; binder = refl; number = λ n. refl }) g.types)
    (quiet-append (map (pair-line g.types) g.pairs) (map (decl-line g.types) g.decls) (quiet-map (pair-line g.types) (λ p. record { goal = refl; binder = refl; number = λ n. refl }) g.pairs) (quiet-map (decl-line g.types) (λ d. record { goal = refl; binder = refl; number = λ n. refl }) g.decls))

all-fine : (g : Parts) → IsReady g → IsFine [] (all-lines g)
all-fine g r =
    let ts = g.types in
    let T = map type_line ts in
    let S = map (pair-line ts) g.pairs in
    let D = map (decl-line ts) g.decls in
    let L = last-line g in
    let free-s = pairs-free ts g.pairs r.apart r.pairs in
    let free-d = decls-free ts g.decls r.decls in
    let tT : types_of T ≡ ts = types-of-types ts in
    let tS : types_of (T ++ S) ≡ ts = types-with ts T S tT free-s in
    let tD : types_of (first-lines g) ≡ ts = ap types_of (sym (append_assoc T S D)) ∙ types-with ts (T ++ S) D tS free-d in
    let last : IsFine (first-lines g ++ []) L = last-fine ts (first-lines g) (name_of ts g.goal) (decimal g.limit) (decimal g.depth) g.binder (decimal g.steps.bound) (decimal g.steps.binder) (decimal g.steps.step) tD (first-quiet g) (has-name ts g.goal r.apart r.goal) (number-is g.limit r.limit) (number-is g.depth r.depth) (number-is g.steps.bound r.bound) (number-is g.steps.binder r.binding) (number-is g.steps.step r.step) in
    let at : (T ++ S) ++ D ≡ first-lines g ++ [] = append_assoc T S D ∙ sym (append-nil (first-lines g)) in
    fine-types [] ts (S ++ (D ++ L)) r.apart
    (fine-free ts T S (D ++ L) tT free-s
    (fine-free ts (T ++ S) D L tS free-d (fine-moved ((T ++ S) ++ D) (first-lines g ++ []) L at last)))

-- the parts are said again
flat-none : {X Y : Type 0} (f : Line → List Y) (h : X → Line) (xs : List X) (more : List Line) → ((x : X) → f (h x) ≡ []) → flat_map f (map h xs ++ more) ≡ flat_map f more
flat-none f h [] more e = refl
flat-none f h (x ∷ xs) more e = ap (λ y. y ++ flat_map f (map h xs ++ more)) (e x) ∙ flat-none f h xs more e

types-again : (ts : List (List ℕ)) (more : List Line) → types_of (map type_line ts ++ more) ≡ ts ++ types_of more
types-again [] more = refl
types-again (t ∷ ts) more = ap (λ x. t ∷ x) (types-again ts more)

pair-again : (ts : List (List ℕ)) (p : ℕ × ℕ) → AreApart ts → p.0 < length ts → p.1 < length ts → (index_of ts (name_of ts p.0), index_of ts (name_of ts p.1)) ≡ p
pair-again ts p a h k = rw (index-name ts p.0 a h, index-name ts p.1 a k) refl

pairs-again : (ts : List (List ℕ)) (ps : List (ℕ × ℕ)) (more : List Line) → AreApart ts → Each (λ p. (p.0 < length ts) × (p.1 < length ts)) ps → flat_map (pair_in ts) (map (pair-line ts) ps ++ more) ≡ ps ++ flat_map (pair_in ts) more
pairs-again ts [] more a e = refl
pairs-again ts (p ∷ ps) more a e =
    ap (λ x. x ∷ flat_map (pair_in ts) (map (pair-line ts) ps ++ more)) (pair-again ts p a e.0.0 e.0.1) ∙ ap (λ x. p ∷ x) (pairs-again ts ps more a e.1)

decls-again : (ts : List (List ℕ)) (ds : List Decl) (more : List Line) → Each (IsSaid ts) ds → flat_map (decl_in ts) (map (decl-line ts) ds ++ more) ≡ ds ++ flat_map (decl_in ts) more
decls-again ts [] more e = refl
decls-again ts (d ∷ ds) more e =
    ap (λ x. x ∷ flat_map (decl_in ts) (map (decl-line ts) ds ++ more)) e.0.same ∙ ap (λ x. d ∷ x) (decls-again ts ds more e.1)

parts-of-is : (ls : List Line) (g : Parts) → types_of ls ≡ g.types → flat_map (pair_in g.types) ls ≡ g.pairs → flat_map (decl_in g.types) ls ≡ g.decls → goals_of ls ≡ name_of g.types g.goal ∷ [] → index_of g.types (name_of g.types g.goal) ≡ g.goal
    → value_of Limit (numbers_of ls) ≡ g.limit → value_of Depth (numbers_of ls) ≡ g.depth → binders_of ls ≡ g.binder ∷ [] → value_of Bound (numbers_of ls) ≡ g.steps.bound → value_of Binding (numbers_of ls) ≡ g.steps.binder → value_of Step (numbers_of ls) ≡ g.steps.step
    → parts_of ls ≡ g
parts-of-is ls g a b c d e f h i j k l = rw (a, b, c, d, e, f, h, i, j, k, l) refl

split : (g : Parts) → all-lines g ≡ first-lines g ++ last-line g
split g =
    let T = map type_line g.types in
    let S = map (pair-line g.types) g.pairs in
    let D = map (decl-line g.types) g.decls in
    ap (λ x. T ++ x) (sym (append_assoc S D (last-line g))) ∙ sym (append_assoc T (S ++ D) (last-line g))

all-parts : (g : Parts) → IsReady g → parts_of (all-lines g) ≡ g
all-parts g r =
    let ts = g.types in
    let L = last-line g in
    let D = map (decl-line ts) g.decls in
    let S = map (pair-line ts) g.pairs in
    let t = name_of ts g.goal in
    let k = 2 + length (first-lines g) in
    let ns : numbers_of (all-lines g) ≡ numbers_from k L = ap numbers_of (split g) ∙ numbers-quiet (first-lines g) L (first-quiet g) in
    let a = decimal g.limit in
    let b = decimal g.depth in
    let c = decimal g.steps.bound in
    let d = decimal g.steps.binder in
    let e = decimal g.steps.step in
    parts-of-is (all-lines g) g
    (types-again ts (S ++ (D ++ L)) ∙ ap (λ x. ts ++ x) (flat-none type_in (pair-line ts) g.pairs (D ++ L) (λ p. refl) ∙ flat-none type_in (decl-line ts) g.decls L (λ x. refl)) ∙ append-nil ts)
    (flat-none (pair_in ts) type_line ts (S ++ (D ++ L)) (λ x. refl) ∙ pairs-again ts g.pairs (D ++ L) r.apart r.pairs ∙ ap (λ x. g.pairs ++ x) (flat-none (pair_in ts) (decl-line ts) g.decls L (λ x. refl)) ∙ append-nil g.pairs)
    (flat-none (decl_in ts) type_line ts (S ++ (D ++ L)) (λ x. refl) ∙ flat-none (decl_in ts) (pair-line ts) g.pairs (D ++ L) (λ x. refl) ∙ decls-again ts g.decls L r.decls ∙ append-nil g.decls)
    (ap goals_of (split g) ∙ goals-quiet (first-lines g) L (first-quiet g))
    (index-name ts g.goal r.apart r.goal)
    (ap (value_of Limit) ns ∙ limit-last k t a b g.binder c d e ∙ number-back g.limit r.limit)
    (ap (value_of Depth) ns ∙ depth-last k t a b g.binder c d e ∙ number-back g.depth r.depth)
    (ap binders_of (split g) ∙ binders-quiet (first-lines g) L (first-quiet g))
    (ap (value_of Bound) ns ∙ bound-last k t a b g.binder c d e ∙ number-back g.steps.bound r.bound)
    (ap (value_of Binding) ns ∙ binding-last k t a b g.binder c d e ∙ number-back g.steps.binder r.binding)
    (ap (value_of Step) ns ∙ step-last k t a b g.binder c d e ∙ number-back g.steps.step r.step)

-- the whole
version-is : (more : List (List ℕ)) → version_of (word (codes "insynth sheet 2" ∷ more) 0) ≡ Some Two
unfolding version_of word
version-is more = refl

fault-of : (R : List (List ℕ)) (v : Version) → version_of (word R 0) ≡ Some v → lines_fault R ≡ first_fault 2 [] (map (line_of v) (drop 1 R))
unfolding lines_fault
fault-of R v e = rw (e) refl

body-of-is : (R : List (List ℕ)) (v : Version) → version_of (word R 0) ≡ Some v → body_of R ≡ map (line_of v) (drop 1 R)
body-of-is R v e = ap (λ x. map (line_of (unwrap_or x One)) (drop 1 R)) e

pub says-again : (g : Parts) (bs : List ℕ) → bs ≡ sheet_text g → IsValid g → IsUtf8 bs → IsWritable g → length bs ≤ 16777216 → IsSheet bs g
unfolding sheet_text parts_fault
says-again g bs is valid utf8 w l =
    let r = ready g valid w in
    let R = sheet_lines g in
    let version : version_of (word R 0) ≡ Some Two = version-is (drop 1 R) in
    let all : lines bs ≡ R = ap lines is ∙ lines-ended R (all-inner g r) in
    let body : body_of (lines bs) ≡ all-lines g = ap body_of all ∙ body-of-is R Two version ∙ body-read g r in
    let fine : text_fault bs ≡ None = text-good bs l utf8 ∙ ap lines_fault all ∙ fault-of R Two version ∙ ap (first_fault 2 []) (body-read g r) ∙ all-fine g r 2 in
    let parts : parts_of (body_of (lines bs)) ≡ g = ap parts_of body ∙ all-parts g r in
    record {
      faultless = sheet_is bs fine ∙ ap (option_and_then (env_fault_at (body_of (lines bs)))) (ap first_env_fault parts ∙ valid);
      says = sym parts;
    }

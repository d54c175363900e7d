-- What the line of a declaration says is the declaration.
use Rattle.std.proofs.Common.{rules, ◌≡◌, ◌∙◌, sym, ap, subst, ℕ, suc, zero, ◌+◌, ◌-◌, ◌<◌, ◌≤◌, List, [], ◌∷◌, ◌++◌, length, take, drop, map, get_or, arith, refl, Bool, true, false, ◌&&◌, not, ◌==◌, if◌then◌else◌, append-nil, length-append}
use Rattle.std.specs.Prelude.{nat_le, nat_lt, codes, decimal, bytes_eq}
use Rattle.std.specs.List.{flat_map, list_all}
use Rattle.std.proofs.lemmas.Bool.{ltb-true}
use Rattle.std.proofs.lemmas.List.{get_or-append-add}
use Rattle.std.proofs.Math.Seq.{take-append_seam}
use Rattle.sheets.specs.Words.{word, is_number, number, has, index_of}
use Rattle.sheets.specs.SheetLines.{DeclWords, is_this, is_lambda, args_in, body_in, decl_words, decl_kind}
use Rattle.sheets.specs.Sheets.{form_of, wanted, decl_of, has_all}
use Rattle.sheets.specs.Writing.{name_of, arg_words, form_words, form_names, decl_head, is_plain}
use Rattle.sheets.specs.declared.kind.FormWord.{FormWord}
use Rattle.sheets.specs.declared.kind.FormWord.TheVariants as word_for
use Rattle.sheets.specs.declared.kind.Kind.TheVariants as kind
use Rattle.sheets.specs.Words.{is_word}
use Rattle.terms.specs.Faults.{is_arg_known, are_plain, is_well_formed}
use Rattle.terms.specs.declared.parts.Arg.{Arg}
use Rattle.terms.specs.declared.parts.Arg.TheVariants.{Plain, Fun}
use Rattle.terms.specs.declared.parts.Decl.{Decl}
use Rattle.terms.specs.declared.parts.Form.{Form}
use Rattle.terms.specs.declared.parts.Form.TheVariants as form
use Rattle.sheets.proofs.Walks.{word-get}
use Rattle.sheets.proofs.Cuts.{both, of-both, all-append}
use Rattle.sheets.proofs.Said.{number-is, number-back, decimal-plain}
use Rattle.sheets.proofs.Apart.{AreApart, has-name, index-name}

le_true : (m n : ℕ) → m ≤ n → nat_le m n ≡ true
le_true m n l = search rules

-- the word of a form
abbrev pub word_for_form : Form → FormWord
word_for_form (form.Name s) = word_for.Name
word_for_form form.This = word_for.This
word_for_form (form.Call s) = word_for.Call
word_for_form (form.New s) = word_for.New
word_for_form (form.Method s) = word_for.Method
word_for_form (form.Field s false) = word_for.Field
word_for_form (form.Field s true) = word_for.HiddenField
word_for_form (form.Lambda s) = word_for.Lambda

-- the words of a declaration after the first, and all of them as its line says them
abbrev pub later_words : List (List ℕ) → Decl → List (List ℕ)
later_words ts d = decimal d.weight ∷ name_of ts d.result ∷ form_words d.form ++ flat_map (arg_words ts) d.args

abbrev pub words_as : List (List ℕ) → Decl → DeclWords
words_as ws d = decl_words d.crowded (word_for_form d.form) (decl_head d.crowded ∷ ws)

-- a line of these words is read as the declaration
pub record IsKnown (ts ws : List (List ℕ)) (d : Decl) : Type 0 where
  pub plain : list_all is_plain ws ≡ true
  pub kind : decl_kind d.crowded (decl_head d.crowded ∷ ws) ≡ kind.Decl d.crowded (word_for_form d.form)
  pub number : is_number (words_as ws d).weight ≡ true
  pub declared : has_all ts (words_as ws d) ≡ true
  pub same : decl_of ts (words_as ws d) ≡ d

-- the line of a declaration is read back
abbrev pub IsSaid : List (List ℕ) → Decl → Type 0
IsSaid ts d = IsKnown ts (later_words ts d) d

-- a type that is there has a word
get-plain : (ts : List (List ℕ)) (i : ℕ) → list_all is_plain ts ≡ true → i < length ts → is_plain (name_of ts i) ≡ true
get-plain [] i h l = absurd (omega (arith, l))
get-plain (t ∷ ts) zero h l = (both (is_plain t) (list_all is_plain ts) h).0
get-plain (t ∷ ts) (suc i) h l = get-plain ts i (both (is_plain t) (list_all is_plain ts) h).1 (omega (arith, l))

pub name-plain : (ts : List (List ℕ)) (i : ℕ) → list_all is_plain ts ≡ true → i < length ts → is_plain (name_of ts i) ≡ true
name-plain ts i h l = get-plain ts i h l

-- the types of places for values
abbrev known : List (List ℕ) → List Arg → Type 0
known ts xs = list_all (is_arg_known (length ts)) xs ≡ true

plain-words : (ts : List (List ℕ)) (xs : List Arg) → list_all is_plain ts ≡ true → are_plain xs ≡ true → known ts xs → list_all is_plain (flat_map (arg_words ts) xs) ≡ true
plain-words ts [] w p k = refl
plain-words ts (Plain b ∷ xs) w p k =
    let h = both (nat_lt b (length ts)) (list_all (is_arg_known (length ts)) xs) k in
    of-both (is_plain (name_of ts b)) (list_all is_plain (flat_map (arg_words ts) xs)) (name-plain ts b w (ltb-true b (length ts) h.0)) (plain-words ts xs w p h.1)
plain-words ts (Fun ps r ∷ xs) w p k = absurd cc

plain-has : (ts : List (List ℕ)) (xs : List Arg) → AreApart ts → are_plain xs ≡ true → known ts xs → list_all (has ts) (flat_map (arg_words ts) xs) ≡ true
plain-has ts [] a p k = refl
plain-has ts (Plain b ∷ xs) a p k =
    let h = both (nat_lt b (length ts)) (list_all (is_arg_known (length ts)) xs) k in
    of-both (has ts (name_of ts b)) (list_all (has ts) (flat_map (arg_words ts) xs)) (has-name ts b a (ltb-true b (length ts) h.0)) (plain-has ts xs a p h.1)
plain-has ts (Fun ps r ∷ xs) a p k = absurd cc

plain-wanted : (ts : List (List ℕ)) (xs : List Arg) → AreApart ts → are_plain xs ≡ true → known ts xs → wanted ts (flat_map (arg_words ts) xs) [] ≡ xs
plain-wanted ts [] a p k = refl
plain-wanted ts (Plain b ∷ xs) a p k =
    let h = both (nat_lt b (length ts)) (list_all (is_arg_known (length ts)) xs) k in
    rw (index-name ts b a (ltb-true b (length ts) h.0), plain-wanted ts xs a p h.1) refl
plain-wanted ts (Fun ps r ∷ xs) a p k = absurd cc

-- the types of a lambda's parameters
params-plain : (ts : List (List ℕ)) (ps : List ℕ) → list_all is_plain ts ≡ true → list_all (λ p. nat_lt p (length ts)) ps ≡ true → list_all is_plain (map (name_of ts) ps) ≡ true
params-plain ts [] w k = refl
params-plain ts (p ∷ ps) w k =
    let h = both (nat_lt p (length ts)) (list_all (λ q. nat_lt q (length ts)) ps) k in
    of-both (is_plain (name_of ts p)) (list_all is_plain (map (name_of ts) ps)) (name-plain ts p w (ltb-true p (length ts) h.0)) (params-plain ts ps w h.1)

params-has : (ts : List (List ℕ)) (ps : List ℕ) → AreApart ts → list_all (λ p. nat_lt p (length ts)) ps ≡ true → list_all (has ts) (map (name_of ts) ps) ≡ true
params-has ts [] a k = refl
params-has ts (p ∷ ps) a k =
    let h = both (nat_lt p (length ts)) (list_all (λ q. nat_lt q (length ts)) ps) k in
    of-both (has ts (name_of ts p)) (list_all (has ts) (map (name_of ts) ps)) (has-name ts p a (ltb-true p (length ts) h.0)) (params-has ts ps a h.1)

params-back : (ts : List (List ℕ)) (ps : List ℕ) → AreApart ts → list_all (λ p. nat_lt p (length ts)) ps ≡ true → map (index_of ts) (map (name_of ts) ps) ≡ ps
params-back ts [] a k = refl
params-back ts (p ∷ ps) a k =
    let h = both (nat_lt p (length ts)) (list_all (λ q. nat_lt q (length ts)) ps) k in
    rw (index-name ts p a (ltb-true p (length ts) h.0), params-back ts ps a h.1) refl

-- a declaration with a name and places for values
record IsNamed (fw : FormWord) (f : Form) (k s : List ℕ) : Type 0 where
  lambda : is_lambda fw ≡ false
  this : is_this fw ≡ false
  form : form_of fw s ≡ f
  words : form_words f ≡ k ∷ s ∷ []
  for : word_for_form f ≡ fw
  kind : (crowded : Bool) (h w r : List ℕ) (A : List (List ℕ)) → decl_kind crowded (h ∷ w ∷ r ∷ k ∷ s ∷ A) ≡ kind.Decl crowded fw
  plain : is_plain k ≡ true

long-five : (a b c d e : List ℕ) (A : List (List ℕ)) → nat_le 5 (length (a ∷ b ∷ c ∷ d ∷ e ∷ A)) ≡ true
long-five a b c d e A = le_true 5 (length (a ∷ b ∷ c ∷ d ∷ e ∷ A)) (omega arith)

named-name : (s : List ℕ) → IsNamed word_for.Name (form.Name s) (codes "name") s
unfolding is_lambda is_this form_of form_words decl_kind word is_plain is_word
named-name s = record { lambda = refl; this = refl; form = refl; words = refl; for = refl; kind = λ c h w r A. rw (long-five h w r (codes "name") s A) refl; plain = refl }

named-call : (s : List ℕ) → IsNamed word_for.Call (form.Call s) (codes "call") s
unfolding is_lambda is_this form_of form_words decl_kind word is_plain is_word
named-call s = record { lambda = refl; this = refl; form = refl; words = refl; for = refl; kind = λ c h w r A. rw (long-five h w r (codes "call") s A) refl; plain = refl }

named-new : (s : List ℕ) → IsNamed word_for.New (form.New s) (codes "new") s
unfolding is_lambda is_this form_of form_words decl_kind word is_plain is_word
named-new s = record { lambda = refl; this = refl; form = refl; words = refl; for = refl; kind = λ c h w r A. rw (long-five h w r (codes "new") s A) refl; plain = refl }

named-method : (s : List ℕ) → IsNamed word_for.Method (form.Method s) (codes "method") s
unfolding is_lambda is_this form_of form_words decl_kind word is_plain is_word
named-method s = record { lambda = refl; this = refl; form = refl; words = refl; for = refl; kind = λ c h w r A. rw (long-five h w r (codes "method") s A) refl; plain = refl }

named-field : (s : List ℕ) → IsNamed word_for.Field (form.Field s false) (codes "field") s
unfolding is_lambda is_this form_of form_words decl_kind word is_plain is_word
named-field s = record { lambda = refl; this = refl; form = refl; words = refl; for = refl; kind = λ c h w r A. rw (long-five h w r (codes "field") s A) refl; plain = refl }

named-hidden : (s : List ℕ) → IsNamed word_for.HiddenField (form.Field s true) (codes "hidden-field") s
unfolding is_lambda is_this form_of form_words decl_kind word is_plain is_word
named-hidden s = record { lambda = refl; this = refl; form = refl; words = refl; for = refl; kind = λ c h w r A. rw (long-five h w r (codes "hidden-field") s A) refl; plain = refl }

-- what is known of the environment's texts, and of a weight and a result
pub record IsRoom (ts : List (List ℕ)) (w r : ℕ) : Type 0 where
  pub plain : list_all is_plain ts ≡ true
  pub apart : AreApart ts
  pub weight : w ≤ 999999999
  pub result : r < length ts

named-known : (ts : List (List ℕ)) (d : Decl) (fw : FormWord) (k s : List ℕ) → IsRoom ts d.weight d.result → IsNamed fw d.form k s → is_plain s ≡ true → are_plain d.args ≡ true → known ts d.args → IsSaid ts d
unfolding args_in body_in word
named-known ts d fw k s room named ps p h =
    let A = flat_map (arg_words ts) d.args in
    let w = decimal d.weight in
    let r = name_of ts d.result in
    let words : list_all is_plain A ≡ true = plain-words ts d.args room.plain p h in
    record {
      plain = rw (named.words) (of-both (is_plain w) (list_all is_plain (r ∷ k ∷ s ∷ A)) (decimal-plain d.weight room.weight)
          (of-both (is_plain r) (list_all is_plain (k ∷ s ∷ A)) (name-plain ts d.result room.plain room.result)
          (of-both (is_plain k) (list_all is_plain (s ∷ A)) named.plain (of-both (is_plain s) (list_all is_plain A) ps words))));
      kind = rw (named.words, named.for) (named.kind d.crowded (decl_head d.crowded) w r A);
      number = number-is d.weight room.weight;
      declared = rw (named.words, named.for, named.lambda, named.this) (of-both (has ts r) (list_all (has ts) A && true) (has-name ts d.result room.apart room.result) (of-both (list_all (has ts) A) true (plain-has ts d.args room.apart p h) refl));
      same = rw (named.words, named.for, named.lambda, named.this, named.form, plain-wanted ts d.args room.apart p h, index-name ts d.result room.apart room.result, number-back d.weight room.weight) refl;
    }

-- `this`
this-known : (ts : List (List ℕ)) (d : Decl) → IsRoom ts d.weight d.result → d.form ≡ form.This → d.args ≡ [] → IsSaid ts d
unfolding args_in body_in word is_lambda is_this form_of form_words decl_kind is_plain is_word
this-known ts d room f none =
    let w = decimal d.weight in
    let r = name_of ts d.result in
    record {
      plain = rw (f, none) (of-both (is_plain w) (list_all is_plain (r ∷ codes "this" ∷ [])) (decimal-plain d.weight room.weight)
          (of-both (is_plain r) (list_all is_plain (codes "this" ∷ [])) (name-plain ts d.result room.plain room.result) refl));
      kind = rw (f, none) refl;
      number = number-is d.weight room.weight;
      declared = rw (f, none) (of-both (has ts r) true (has-name ts d.result room.apart room.result) refl);
      same = rw (f, none, index-name ts d.result room.apart room.result, number-back d.weight room.weight) refl;
    }

-- a lambda, whose types stand round an arrow
arrow-word : (x : List (List ℕ)) (a r : List ℕ) → word (x ++ a ∷ r ∷ []) (length (x ++ a ∷ r ∷ []) - 2) ≡ a
arrow-word x a r =
    let ws = x ++ a ∷ r ∷ [] in
    let at : length ws - 2 ≡ length x + 0 = omega (arith, length-append x (a ∷ r ∷ [])) in
    word-get ws (length ws - 2) ∙ ap (λ n. get_or ws n []) at ∙ get_or-append-add x (a ∷ r ∷ []) 0 []

last-word : (x : List (List ℕ)) (a r : List ℕ) → word (x ++ a ∷ r ∷ []) (length (x ++ a ∷ r ∷ []) - 1) ≡ r
last-word x a r =
    let ws = x ++ a ∷ r ∷ [] in
    let at : length ws - 1 ≡ length x + 1 = omega (arith, length-append x (a ∷ r ∷ [])) in
    word-get ws (length ws - 1) ∙ ap (λ n. get_or ws n []) at ∙ get_or-append-add x (a ∷ r ∷ []) 1 []

lambda-args : (h w q l s : List ℕ) (p : List (List ℕ)) (a r : List ℕ) → let ws = h ∷ w ∷ q ∷ l ∷ s ∷ (p ++ a ∷ r ∷ []) in args_in word_for.Lambda ws ≡ p
unfolding args_in is_lambda
lambda-args h w q l s p a r =
    let at : length (h ∷ w ∷ q ∷ l ∷ s ∷ (p ++ a ∷ r ∷ [])) - 7 ≡ length p = omega (arith, length-append p (a ∷ r ∷ [])) in
    ap (λ n. take n (p ++ a ∷ r ∷ [])) at ∙ take-append_seam p (a ∷ r ∷ [])

lambda-kind : (crowded : Bool) (ws : List (List ℕ)) → word ws 3 ≡ codes "lambda" → word ws (length ws - 2) ≡ codes "->" → nat_le 7 (length ws) ≡ true → decl_kind crowded ws ≡ kind.Decl crowded word_for.Lambda
unfolding decl_kind
lambda-kind crowded ws l a n = rw (l, a, n) refl

lambda-body : (ws : List (List ℕ)) (r : List ℕ) → word ws (length ws - 1) ≡ r → body_in word_for.Lambda ws ≡ r ∷ []
unfolding body_in is_lambda
lambda-body ws r e = ap (λ x. x ∷ []) e

third : (h w q l : List ℕ) (more : List (List ℕ)) → word (h ∷ w ∷ q ∷ l ∷ more) 3 ≡ l
unfolding word
third h w q l more = refl

first-word : (h w : List ℕ) (more : List (List ℕ)) → word (h ∷ w ∷ more) 1 ≡ w
unfolding word
first-word h w more = refl

second-word : (h w q : List ℕ) (more : List (List ℕ)) → word (h ∷ w ∷ q ∷ more) 2 ≡ q
unfolding word
second-word h w q more = refl

fourth-word : (h w q l s : List ℕ) (more : List (List ℕ)) → word (h ∷ w ∷ q ∷ l ∷ s ∷ more) 4 ≡ s
unfolding word
fourth-word h w q l s more = refl

arrow-plain : is_plain (codes "->") ≡ true
unfolding is_plain is_word
arrow-plain = refl

lambda-plain : is_plain (codes "lambda") ≡ true
unfolding is_plain is_word
lambda-plain = refl

lambda-form : (s : List ℕ) → form_of word_for.Lambda s ≡ form.Lambda s
unfolding form_of
lambda-form s = refl

lambda-words : (ts : List (List ℕ)) (w r : ℕ) (s : List ℕ) (ps : List ℕ) (b : ℕ) → decimal w ∷ name_of ts r ∷ form_words (form.Lambda s) ++ flat_map (arg_words ts) (Fun ps b ∷ []) ≡ decimal w ∷ name_of ts r ∷ codes "lambda" ∷ s ∷ (map (name_of ts) ps ++ codes "->" ∷ name_of ts b ∷ [])
unfolding form_words
lambda-words ts w r s ps b = ap (λ x. decimal w ∷ name_of ts r ∷ codes "lambda" ∷ s ∷ x) (append-nil (map (name_of ts) ps ++ codes "->" ∷ name_of ts b ∷ []))

-- by its words, whatever they are
lambda-by : (ts : List (List ℕ)) (crowded : Bool) (w r : ℕ) (s : List ℕ) (ps : List ℕ) (b : ℕ) → IsRoom ts w r → is_plain s ≡ true → list_all (λ p. nat_lt p (length ts)) ps ≡ true → b < length ts → IsKnown ts (decimal w ∷ name_of ts r ∷ codes "lambda" ∷ s ∷ (map (name_of ts) ps ++ codes "->" ∷ name_of ts b ∷ [])) (record { args = Fun ps b ∷ []; result = r; weight = w; crowded = crowded; form = form.Lambda s })
lambda-by ts crowded w r s ps b room named known below =
    let h = decl_head crowded in
    let W = decimal w in
    let R = name_of ts r in
    let B = name_of ts b in
    let P = map (name_of ts) ps in
    let L = codes "lambda" in
    let x = h ∷ W ∷ R ∷ L ∷ s ∷ P in
    let ws = h ∷ W ∷ R ∷ L ∷ s ∷ (P ++ codes "->" ∷ B ∷ []) in
    let long : 7 ≤ length ws = omega (arith, length-append P (codes "->" ∷ B ∷ [])) in
    let args : args_in word_for.Lambda ws ≡ P = lambda-args h W R L s P (codes "->") B in
    let body : body_in word_for.Lambda ws ≡ B ∷ [] = lambda-body ws B (last-word x (codes "->") B) in
    let two : list_all is_plain (codes "->" ∷ B ∷ []) ≡ true = of-both (is_plain (codes "->")) (list_all is_plain (B ∷ [])) arrow-plain (of-both (is_plain B) true (name-plain ts b room.plain below) refl) in
    record {
      plain = of-both (is_plain W) (list_all is_plain (R ∷ L ∷ s ∷ (P ++ codes "->" ∷ B ∷ []))) (decimal-plain w room.weight)
          (of-both (is_plain R) (list_all is_plain (L ∷ s ∷ (P ++ codes "->" ∷ B ∷ []))) (name-plain ts r room.plain room.result)
          (of-both (is_plain L) (list_all is_plain (s ∷ (P ++ codes "->" ∷ B ∷ []))) lambda-plain
          (of-both (is_plain s) (list_all is_plain (P ++ codes "->" ∷ B ∷ [])) named (all-append is_plain P (codes "->" ∷ B ∷ []) (params-plain ts ps room.plain known) two))));
      kind = lambda-kind crowded ws (third h W R L (s ∷ (P ++ codes "->" ∷ B ∷ []))) (arrow-word x (codes "->") B) (le_true 7 (length ws) long);
      number = ap is_number (first-word h W (R ∷ L ∷ s ∷ (P ++ codes "->" ∷ B ∷ []))) ∙ number-is w room.weight;
      declared = rw (second-word h W R (L ∷ s ∷ (P ++ codes "->" ∷ B ∷ [])), args, body) (of-both (has ts R) (list_all (has ts) P && (has ts B && true)) (has-name ts r room.apart room.result)
          (of-both (list_all (has ts) P) (has ts B && true) (params-has ts ps room.apart known) (of-both (has ts B) true (has-name ts b room.apart below) refl)));
      same = rw (first-word h W (R ∷ L ∷ s ∷ (P ++ codes "->" ∷ B ∷ [])), second-word h W R (L ∷ s ∷ (P ++ codes "->" ∷ B ∷ [])), fourth-word h W R L s (P ++ codes "->" ∷ B ∷ []), args, body, lambda-form s, params-back ts ps room.apart known, index-name ts b room.apart below, index-name ts r room.apart room.result, number-back w room.weight) refl;
    }

lambda-known : (ts : List (List ℕ)) (crowded : Bool) (w r : ℕ) (s : List ℕ) (ps : List ℕ) (b : ℕ) → IsRoom ts w r → is_plain s ≡ true → list_all (λ p. nat_lt p (length ts)) ps ≡ true → b < length ts → IsSaid ts (record { args = Fun ps b ∷ []; result = r; weight = w; crowded = crowded; form = form.Lambda s })
lambda-known ts crowded w r s ps b room named known below =
    subst (λ ws. IsKnown ts ws (record { args = Fun ps b ∷ []; result = r; weight = w; crowded = crowded; form = form.Lambda s })) (sym (lambda-words ts w r s ps b)) (lambda-by ts crowded w r s ps b room named known below)

-- a declaration whose arguments suit its form
one-name : (s : List ℕ) → list_all is_plain (s ∷ []) ≡ true → is_plain s ≡ true
one-name s h = (both (is_plain s) true h).0

pub decl-known : (ts : List (List ℕ)) (crowded : Bool) (w r : ℕ) (f : Form) (xs : List Arg) → IsRoom ts w r → list_all is_plain (form_names f) ≡ true → known ts xs → is_well_formed f xs ≡ true → IsSaid ts (record { args = xs; result = r; weight = w; crowded = crowded; form = f })
decl-known ts crowded w r (form.Name s) [] room n k e = named-known ts (record { args = []; result = r; weight = w; crowded = crowded; form = form.Name s }) word_for.Name (codes "name") s room (named-name s) (one-name s n) refl refl
decl-known ts crowded w r (form.Name s) (x ∷ xs) room n k e = absurd cc
decl-known ts crowded w r form.This [] room n k e = this-known ts (record { args = []; result = r; weight = w; crowded = crowded; form = form.This }) room refl refl
decl-known ts crowded w r form.This (x ∷ xs) room n k e = absurd cc
decl-known ts crowded w r (form.Call s) xs room n k e = named-known ts (record { args = xs; result = r; weight = w; crowded = crowded; form = form.Call s }) word_for.Call (codes "call") s room (named-call s) (one-name s n) e k
decl-known ts crowded w r (form.New s) xs room n k e = named-known ts (record { args = xs; result = r; weight = w; crowded = crowded; form = form.New s }) word_for.New (codes "new") s room (named-new s) (one-name s n) e k
decl-known ts crowded w r (form.Method s) [] room n k e = absurd cc
decl-known ts crowded w r (form.Method s) (Plain b ∷ xs) room n k e = named-known ts (record { args = Plain b ∷ xs; result = r; weight = w; crowded = crowded; form = form.Method s }) word_for.Method (codes "method") s room (named-method s) (one-name s n) e k
decl-known ts crowded w r (form.Method s) (Fun ps b ∷ xs) room n k e = absurd cc
decl-known ts crowded w r (form.Field s hidden) [] room n k e = absurd cc
decl-known ts crowded w r (form.Field s false) (Plain b ∷ []) room n k e = named-known ts (record { args = Plain b ∷ []; result = r; weight = w; crowded = crowded; form = form.Field s false }) word_for.Field (codes "field") s room (named-field s) (one-name s n) refl k
decl-known ts crowded w r (form.Field s true) (Plain b ∷ []) room n k e = named-known ts (record { args = Plain b ∷ []; result = r; weight = w; crowded = crowded; form = form.Field s true }) word_for.HiddenField (codes "hidden-field") s room (named-hidden s) (one-name s n) refl k
decl-known ts crowded w r (form.Field s hidden) (Plain b ∷ y ∷ ys) room n k e = absurd cc
decl-known ts crowded w r (form.Field s hidden) (Fun ps b ∷ xs) room n k e = absurd cc
decl-known ts crowded w r (form.Lambda s) [] room n k e = absurd cc
decl-known ts crowded w r (form.Lambda s) (Plain b ∷ xs) room n k e = absurd cc
decl-known ts crowded w r (form.Lambda s) (Fun ps b ∷ []) room n k e =
    let h = both (list_all (λ p. nat_lt p (length ts)) ps && nat_lt b (length ts)) true k in
    let l = both (list_all (λ p. nat_lt p (length ts)) ps) (nat_lt b (length ts)) h.0 in
    lambda-known ts crowded w r s ps b room (one-name s n) l.0 (ltb-true b (length ts) l.1)
decl-known ts crowded w r (form.Lambda s) (Fun ps b ∷ y ∷ ys) room n k e = absurd cc

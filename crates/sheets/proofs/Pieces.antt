-- A text made piece by piece.
use Rattle.std.proofs.Common.{◌≡◌, ◌∙◌, sym, ap, subst, ℕ, ◌≤◌, List, [], ◌∷◌, ◌++◌, length, map, take, drop, Result, Ok, Err, append_assoc, append-nil, refl}
use Rattle.std.specs.Prelude.{OnOk, codes, decimal}
use Rattle.std.specs.List.{flat_map}
use Rattle.std.proofs.lemmas.Grind.{flat_map-append}
use Rattle.std.proofs.lemmas.List.Folds.{flat_map-map}
use Rattle.sheets.specs.Sheets.{IsSheet}
use Rattle.sheets.specs.Writing.{spaced, ended, name_of, arg_words, form_words, decl_head, decl_text, type_text, pair_text, last_lines, sheet_text, IsWritable}
use Rattle.terms.specs.declared.parts.Arg.{Arg}
use Rattle.terms.specs.declared.parts.Decl.{Decl}
use Rattle.terms.specs.declared.parts.Parts.{Parts}

pub on-ok : {T E : Type 0} (r : Result T E) {P Q : Type 0} → (P → Q) → OnOk r P → OnOk r Q
on-ok (Ok x) f p = f p
on-ok (Err e) f p = p

-- five pieces after a text
five : (t a b c d e : List ℕ) → ((((t ++ a) ++ b) ++ c) ++ d) ++ e ≡ t ++ (a ++ (b ++ (c ++ (d ++ e))))
five t a b c d e =
    append_assoc (((t ++ a) ++ b) ++ c) d e
    ∙ append_assoc ((t ++ a) ++ b) c (d ++ e)
    ∙ append_assoc (t ++ a) b (c ++ (d ++ e))
    ∙ append_assoc t a (b ++ (c ++ (d ++ e)))

-- the types of a lambda
pub function-text : (ts : List (List ℕ)) (ps : List ℕ) (r : ℕ) (t t1 t2 t3 : List ℕ) → t1 ≡ t ++ flat_map (λ n. spaced (name_of ts n)) ps → t2 ≡ t1 ++ spaced (codes "->") → t3 ≡ t2 ++ spaced (name_of ts r) → t3 ≡ t ++ flat_map spaced (map (name_of ts) ps ++ codes "->" ∷ name_of ts r ∷ [])
function-text ts ps r t t1 t2 t3 e1 e2 e3 =
    let F = flat_map (λ n. spaced (name_of ts n)) ps in
    let A = spaced (codes "->") in
    let B = spaced (name_of ts r) in
    e3
    ∙ ap (λ x. x ++ B) (e2 ∙ ap (λ x. x ++ A) e1)
    ∙ append_assoc (t ++ F) A B
    ∙ append_assoc t F (A ++ B)
    ∙ ap (λ x. t ++ (F ++ (A ++ x))) (sym (append-nil B))
    ∙ ap (λ x. t ++ (x ++ (A ++ (B ++ [])))) (sym (flat_map-map spaced (name_of ts) ps))
    ∙ ap (λ x. t ++ x) (sym (flat_map-append spaced (map (name_of ts) ps) (codes "->" ∷ name_of ts r ∷ [])))

-- a declaration
flat-flat : (f : List ℕ → List ℕ) (g : Arg → List (List ℕ)) (xs : List Arg) → flat_map f (flat_map g xs) ≡ flat_map (λ a. flat_map f (g a)) xs
flat-flat f g [] = refl
flat-flat f g (x ∷ xs) = flat_map-append f (g x) (flat_map g xs) ∙ ap (λ y. flat_map f (g x) ++ y) (flat-flat f g xs)

pub decl-text : (ts : List (List ℕ)) (d : Decl) (h : List ℕ) (xs : List Arg) (t t1 t2 t3 t4 t5 t6 : List ℕ) → h ≡ decl_head d.crowded → xs ≡ d.args → t1 ≡ t ++ h → t2 ≡ t1 ++ spaced (decimal d.weight) → t3 ≡ t2 ++ spaced (name_of ts d.result) → t4 ≡ t3 ++ flat_map spaced (form_words d.form)
    → t5 ≡ t4 ++ flat_map (λ a. flat_map spaced (arg_words ts a)) xs → t6 ≡ t5 ++ 10 ∷ [] → t6 ≡ t ++ ended (decl_text ts d)
decl-text ts d h xs t t1 t2 t3 t4 t5 t6 eh ex e1 e2 e3 e4 e5 e6 =
    let H = decl_head d.crowded in
    let W = spaced (decimal d.weight) in
    let R = spaced (name_of ts d.result) in
    let F = flat_map spaced (form_words d.form) in
    let A = flat_map (λ a. flat_map spaced (arg_words ts a)) d.args in
    let f1 : t1 ≡ t ++ H = e1 ∙ ap (λ x. t ++ x) eh in
    let f2 : t2 ≡ (t ++ H) ++ W = e2 ∙ ap (λ x. x ++ W) f1 in
    let f3 : t3 ≡ ((t ++ H) ++ W) ++ R = e3 ∙ ap (λ x. x ++ R) f2 in
    let f4 : t4 ≡ (((t ++ H) ++ W) ++ R) ++ F = e4 ∙ ap (λ x. x ++ F) f3 in
    let f5 : t5 ≡ ((((t ++ H) ++ W) ++ R) ++ F) ++ A = e5 ∙ ap (λ ys. t4 ++ flat_map (λ a. flat_map spaced (arg_words ts a)) ys) ex ∙ ap (λ x. x ++ A) f4 in
    let words : F ++ A ≡ flat_map spaced (form_words d.form ++ flat_map (arg_words ts) d.args) = ap (λ x. F ++ x) (sym (flat-flat spaced (arg_words ts) d.args)) ∙ sym (flat_map-append spaced (form_words d.form) (flat_map (arg_words ts) d.args)) in
    e6
    ∙ ap (λ x. x ++ 10 ∷ []) (f5 ∙ five t H W R F A)
    ∙ append_assoc t (H ++ (W ++ (R ++ (F ++ A)))) (10 ∷ [])
    ∙ ap (λ x. t ++ ((H ++ (W ++ (R ++ x))) ++ 10 ∷ [])) words

-- the lines of some things, and further lines
joined : {X : Type 0} (f : X → List ℕ) (xs : List X) (rest : List (List ℕ)) → flat_map (λ x. ended (f x)) xs ++ flat_map ended rest ≡ flat_map ended (map f xs ++ rest)
joined f xs rest = ap (λ y. y ++ flat_map ended rest) (sym (flat_map-map ended f xs)) ∙ sym (flat_map-append ended (map f xs) rest)

whole-by : (g : Parts) (t0 t1 t2 t3 t4 t5 : List ℕ) → t0 ≡ ended (codes "insynth sheet 2") → t1 ≡ t0 ++ flat_map (λ t. ended (type_text t)) g.types → t2 ≡ t1 ++ flat_map (λ p. ended (pair_text g.types p)) g.pairs → t3 ≡ t2 ++ flat_map (λ d. ended (decl_text g.types d)) g.decls
    → t4 ≡ t3 ++ flat_map ended (take 4 (last_lines g)) → t5 ≡ t4 ++ flat_map ended (drop 4 (last_lines g)) → t5 ≡ sheet_text g
unfolding sheet_text
whole-by g t0 t1 t2 t3 t4 t5 e0 e1 e2 e3 e4 e5 =
    let a = ended (codes "insynth sheet 2") in
    let b = flat_map (λ t. ended (type_text t)) g.types in
    let c = flat_map (λ p. ended (pair_text g.types p)) g.pairs in
    let d = flat_map (λ d. ended (decl_text g.types d)) g.decls in
    let L = last_lines g in
    let e = flat_map ended (take 4 L) in
    let n = flat_map ended (drop 4 L) in
    let f1 : t1 ≡ a ++ b = e1 ∙ ap (λ x. x ++ b) e0 in
    let f2 : t2 ≡ (a ++ b) ++ c = e2 ∙ ap (λ x. x ++ c) f1 in
    let f3 : t3 ≡ ((a ++ b) ++ c) ++ d = e3 ∙ ap (λ x. x ++ d) f2 in
    let f4 : t4 ≡ (((a ++ b) ++ c) ++ d) ++ e = e4 ∙ ap (λ x. x ++ e) f3 in
    let last : e ++ n ≡ flat_map ended L = sym (flat_map-append ended (take 4 L) (drop 4 L)) in
    e5
    ∙ ap (λ x. x ++ n) f4
    ∙ five a b c d e n
    ∙ ap (λ x. a ++ (b ++ (c ++ (d ++ x)))) last
    ∙ ap (λ x. a ++ (b ++ (c ++ x))) (joined (decl_text g.types) g.decls L)
    ∙ ap (λ x. a ++ (b ++ x)) (joined (pair_text g.types) g.pairs (map (decl_text g.types) g.decls ++ L))
    ∙ ap (λ x. a ++ x) (joined type_text g.types (map (pair_text g.types) g.pairs ++ (map (decl_text g.types) g.decls ++ L)))

pub whole-text : (g : Parts) (ts : List (List ℕ)) (ps : List (ℕ × ℕ)) (ds : List Decl) (t0 t1 t2 t3 t4 t5 : List ℕ) → ts ≡ g.types → ps ≡ g.pairs → ds ≡ g.decls → t0 ≡ ended (codes "insynth sheet 2") → t1 ≡ t0 ++ flat_map (λ t. ended (type_text t)) ts → t2 ≡ t1 ++ flat_map (λ p. ended (pair_text ts p)) ps
    → t3 ≡ t2 ++ flat_map (λ d. ended (decl_text ts d)) ds → t4 ≡ t3 ++ flat_map ended (take 4 (last_lines g)) → t5 ≡ t4 ++ flat_map ended (drop 4 (last_lines g)) → t5 ≡ sheet_text g
whole-text g ts ps ds t0 t1 t2 t3 t4 t5 et ep ed e0 e1 e2 e3 e4 e5 =
    whole-by g t0 t1 t2 t3 t4 t5 e0
    (e1 ∙ ap (λ xs. t0 ++ flat_map (λ t. ended (type_text t)) xs) et)
    (e2 ∙ ap (λ xs. t1 ++ flat_map (λ p. ended (pair_text xs p)) ps) et ∙ ap (λ ys. t1 ++ flat_map (λ p. ended (pair_text g.types p)) ys) ep)
    (e3 ∙ ap (λ xs. t2 ++ flat_map (λ d. ended (decl_text xs d)) ds) et ∙ ap (λ ys. t2 ++ flat_map (λ d. ended (decl_text g.types d)) ys) ed)
    e4 e5

-- the text of an environment's sheet, by its parts
pub again-for : (g p : Parts) (t : List ℕ) → t ≡ sheet_text g → p ≡ g → (IsWritable p → length t ≤ 16777216 → IsSheet t p) → IsWritable g → length (sheet_text g) ≤ 16777216 → IsSheet (sheet_text g) g
again-for g p t et ep h =
    let by_parts = subst (λ q. IsWritable q → length t ≤ 16777216 → IsSheet t q) ep h in
    subst (λ x. IsWritable g → length x ≤ 16777216 → IsSheet x g) et by_parts

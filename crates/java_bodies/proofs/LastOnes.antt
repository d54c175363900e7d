-- Which of several variables of one name counts.
use Rattle.std.proofs.Common.{◌≡◌, ◌∙◌, ap, sym, ℕ, zero, suc, ◌+◌, ◌<◌, ◌≤◌, slice_index_or, drop, arith, List, [], ◌∷◌, ◌++◌, refl, Bool, true, false, not, ◌||◌, length, reverse, append_assoc, append-nil, bytes_eq}
use Rattle.std.specs.List.{flat_map}
use Rattle.std.proofs.lemmas.List.{drop_all, reverse-append}
use Rattle.java_bodies.proofs.Loops.{at_front}
use Rattle.java_bodies.specs.Scopes.{is_named, last_ones, last_marks}
use Rattle.java_bodies.specs.declared.variables.Variable.{Variable}

-- a walk from the end has come to a place; these names were met
pub record IsMet (vs : List Variable) (marks : List Bool) (met : List ℕ → Bool) (i : ℕ) : Type 0 where
  pub within : i ≤ length vs
  pub made : reverse marks ≡ last_marks (drop i vs)
  pub names : (name : List ℕ) → met name ≡ is_named name (drop i vs)

pub met_first : (vs : List Variable) (marks : List Bool) (met : List ℕ → Bool) (i : ℕ) → i ≡ length vs → marks ≡ [] → ((name : List ℕ) → met name ≡ false) → IsMet vs marks met i
unfolding last_marks is_named
met_first vs marks met i l m f =
    let e = drop_all i vs (omega (arith, l)) in
    record { within = omega (arith, l); made = ap reverse m ∙ sym (ap last_marks e); names = λ name. f name ∙ sym (ap (is_named name) e) }

pub met_on : (vs : List Variable) (marks more : List Bool) (met new : List ℕ → Bool) (i : ℕ) (fresh : Bool) (v : Variable) → i < length vs → v ≡ slice_index_or vs i v → fresh ≡ not (met v.name) → ((name : List ℕ) → new name ≡ (bytes_eq v.name name || met name)) → more ≡ marks ++ fresh ∷ [] → IsMet vs marks met (i + 1) → IsMet vs more new i
unfolding last_marks is_named
met_on vs marks more met new i fresh v l is f g m h =
    let e = at_front vs i v l is in
    record {
      within = omega (arith, l);
      made = ap reverse m ∙ reverse-append marks (fresh ∷ []) ∙ ap (λ xs. fresh ∷ xs) h.made
          ∙ ap (λ b. b ∷ last_marks (drop (i + 1) vs)) (f ∙ ap not (h.names v.name)) ∙ sym (ap last_marks e);
      names = λ name. g name ∙ ap (λ b. bytes_eq v.name name || b) (h.names name) ∙ sym (ap (is_named name) e);
    }

pub last_marks-length : (vs : List Variable) → length (last_marks vs) ≡ length vs
unfolding last_marks
last_marks-length [] = refl
last_marks-length (v ∷ vs) = ap suc (last_marks-length vs)

last_mark_drop : (vs : List Variable) (k : ℕ) (b : Bool) → slice_index_or (last_marks vs) k b ≡ slice_index_or (last_marks (drop k vs)) 0 b
unfolding last_marks
last_mark_drop [] zero b = refl
last_mark_drop [] (suc k) b = refl
last_mark_drop (v ∷ vs) zero b = refl
last_mark_drop (v ∷ vs) (suc k) b = last_mark_drop vs k b

last_mark_prefix : (v : Variable) (vs : List Variable) (b : Bool) → slice_index_or (last_marks (v ∷ vs)) 0 b ≡ not (is_named v.name vs)
unfolding last_marks
last_mark_prefix v vs b = refl

-- the mark of a variable at its place
last_mark_at : (vs : List Variable) (marks : List Bool) (k : ℕ) (b : Bool) (v : Variable) → k < length vs → v ≡ slice_index_or vs k v → marks ≡ last_marks vs → slice_index_or marks k b ≡ not (is_named v.name (drop (k + 1) vs))
last_mark_at vs marks k b v l is m =
    ap (λ ms. slice_index_or ms k b) m ∙ last_mark_drop vs k b ∙ ap (λ xs. slice_index_or (last_marks xs) 0 b) (at_front vs k v l is) ∙ last_mark_prefix v (drop (k + 1) vs) b

not_false : (b : Bool) → not b ≡ false → b ≡ true
not_false true e = refl
not_false false e = absurd cc

not_true : (b : Bool) → not b ≡ true → b ≡ false
not_true true e = absurd cc
not_true false e = refl

skips : {A : Type 0} (f : Variable → List A) (v : Variable) (vs : List Variable) → is_named v.name vs ≡ true → flat_map f (last_ones (v ∷ vs)) ≡ flat_map f (last_ones vs)
unfolding last_ones
skips f v vs e = rw (e) refl

takes : {A : Type 0} (f : Variable → List A) (v : Variable) (vs : List Variable) → is_named v.name vs ≡ false → flat_map f (last_ones (v ∷ vs)) ≡ f v ++ flat_map f (last_ones vs)
unfolding last_ones
takes f v vs e = rw (e) refl

pub ones_skip : {A : Type 0} (f : Variable → List A) (vs : List Variable) (marks : List Bool) (k : ℕ) (b : Bool) (v : Variable) (all r : List A) → k < length vs → v ≡ slice_index_or vs k v → marks ≡ last_marks vs → slice_index_or marks k b ≡ false → all ++ flat_map f (last_ones (drop k vs)) ≡ r → all ++ flat_map f (last_ones (drop (k + 1) vs)) ≡ r
ones_skip f vs marks k b v all r l is m e h =
    let n : is_named v.name (drop (k + 1) vs) ≡ true = not_false _ (sym (last_mark_at vs marks k b v l is m) ∙ e) in
    ap (λ xs. all ++ xs) (sym (ap (λ xs. flat_map f (last_ones xs)) (at_front vs k v l is) ∙ skips f v (drop (k + 1) vs) n)) ∙ h

pub ones_take : {A : Type 0} (f : Variable → List A) (vs : List Variable) (marks : List Bool) (k : ℕ) (b : Bool) (v : Variable) (all more r : List A) → k < length vs → v ≡ slice_index_or vs k v → marks ≡ last_marks vs → slice_index_or marks k b ≡ true → more ≡ all ++ f v → all ++ flat_map f (last_ones (drop k vs)) ≡ r → more ++ flat_map f (last_ones (drop (k + 1) vs)) ≡ r
ones_take f vs marks k b v all more r l is m e q h =
    let n : is_named v.name (drop (k + 1) vs) ≡ false = not_true _ (sym (last_mark_at vs marks k b v l is m) ∙ e) in
    ap (λ xs. xs ++ flat_map f (last_ones (drop (k + 1) vs))) q ∙ append_assoc all (f v) _
    ∙ ap (λ xs. all ++ xs) (sym (ap (λ xs. flat_map f (last_ones xs)) (at_front vs k v l is) ∙ takes f v (drop (k + 1) vs) n)) ∙ h

pub ones_end : {A : Type 0} (f : Variable → List A) (vs : List Variable) (k : ℕ) (all r : List A) → length vs ≤ k → all ++ flat_map f (last_ones (drop k vs)) ≡ r → all ≡ r
unfolding last_ones
ones_end f vs k all r l h = sym (append-nil all) ∙ sym (ap (λ xs. all ++ flat_map f (last_ones xs)) (drop_all k vs l)) ∙ h

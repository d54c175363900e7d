-- What the lists of types in the head of a class give, and what the pieces of a text name.
use Rattle.std.proofs.Common.{◌≡◌, ◌∙◌, ap, sym, ℕ, suc, ◌+◌, ◌<◌, ◌≤◌, slice_index_or, drop, arith, List, [], ◌∷◌, refl, length, add-one, true, false, codes}
use Rattle.std.proofs.lemmas.List.{drop_all}
use denote.Ref.{Bor}
use Rattle.java_units.specs.declared.lexemes.Lexeme.{Lexeme}
use Rattle.java_units.specs.declared.types.TypeText.{TypeText}
use Rattle.java_units.specs.Signs.{Sign, seen, seens}
use Rattle.java_units.specs.Forms.{begins}
use Rattle.java_units.specs.Values.{type_text, parts_of}
use Rattle.java_units.specs.Pieces.{form_of, bare}
use Rattle.java_units.specs.Units.{parent_of, package_of, packages}
use Rattle.java_units.proofs.Lists.{drop_place, seens-length}

first : (x : List Sign) (xs : List (List Sign)) → begins (codes "extends") x ≡ true → parent_of (x ∷ xs) ≡ type_text 0 (drop 1 x) ∷ []
unfolding parent_of
first x xs e = rw (e) refl

rest : (x : List Sign) (xs : List (List Sign)) → begins (codes "extends") x ≡ false → parent_of (x ∷ xs) ≡ parent_of xs
unfolding parent_of
rest x xs e = rw (e) refl

pub parent_hit : (xs : List (Bor (List Lexeme))) (i : ℕ) (d : Bor (List Lexeme)) (all : List TypeText) → i < length xs → begins (codes "extends") (seen (slice_index_or xs i d).now) ≡ true → all ≡ parent_of (drop i (seens xs)) → type_text 0 (drop 1 (seen (slice_index_or xs i d).now)) ∷ [] ≡ all
parent_hit xs i d all l e h = sym (h ∙ (ap parent_of (drop_place xs i d l) ∙ first (seen (slice_index_or xs i d).now) (drop (suc i) (seens xs)) e))

pub parent_on : (xs : List (Bor (List Lexeme))) (i : ℕ) (d : Bor (List Lexeme)) (all : List TypeText) → i < length xs → begins (codes "extends") (seen (slice_index_or xs i d).now) ≡ false → all ≡ parent_of (drop i (seens xs)) → all ≡ parent_of (drop (i + 1) (seens xs))
parent_on xs i d all l e h = h ∙ ((ap parent_of (drop_place xs i d l) ∙ rest (seen (slice_index_or xs i d).now) (drop (suc i) (seens xs)) e) ∙ ap (λ k. parent_of (drop k (seens xs))) (sym (add-one i)))

pub parent_end : (xs : List (Bor (List Lexeme))) (i : ℕ) (all : List TypeText) → length xs ≤ i → all ≡ parent_of (drop i (seens xs)) → [] ≡ all
unfolding parent_of
parent_end xs i all l h = sym (h ∙ ap parent_of (drop_all i (seens xs) (omega (arith, seens-length xs))))

named : (x : List Sign) (xs : List (List Sign)) → packages (form_of [] x) ≡ true → package_of (x ∷ xs) ≡ parts_of 0 (drop 1 (bare x))
unfolding package_of
named x xs e = rw (e) refl

unnamed : (x : List Sign) (xs : List (List Sign)) → packages (form_of [] x) ≡ false → package_of (x ∷ xs) ≡ package_of xs
unfolding package_of
unnamed x xs e = rw (e) refl

pub package_hit : (xs : List (Bor (List Lexeme))) (i : ℕ) (d : Bor (List Lexeme)) (all : List (List ℕ)) → i < length xs → packages (form_of [] (seen (slice_index_or xs i d).now)) ≡ true → all ≡ package_of (drop i (seens xs)) → parts_of 0 (drop 1 (bare (seen (slice_index_or xs i d).now))) ≡ all
package_hit xs i d all l e h = sym (h ∙ (ap package_of (drop_place xs i d l) ∙ named (seen (slice_index_or xs i d).now) (drop (suc i) (seens xs)) e))

pub package_on : (xs : List (Bor (List Lexeme))) (i : ℕ) (d : Bor (List Lexeme)) (all : List (List ℕ)) → i < length xs → packages (form_of [] (seen (slice_index_or xs i d).now)) ≡ false → all ≡ package_of (drop i (seens xs)) → all ≡ package_of (drop (i + 1) (seens xs))
package_on xs i d all l e h = h ∙ ((ap package_of (drop_place xs i d l) ∙ unnamed (seen (slice_index_or xs i d).now) (drop (suc i) (seens xs)) e) ∙ ap (λ k. package_of (drop k (seens xs))) (sym (add-one i)))

pub package_end : (xs : List (Bor (List Lexeme))) (i : ℕ) (all : List (List ℕ)) → length xs ≤ i → all ≡ package_of (drop i (seens xs)) → [] ≡ all
unfolding package_of
package_end xs i all l h = sym (h ∙ ap package_of (drop_all i (seens xs) (omega (arith, seens-length xs))))

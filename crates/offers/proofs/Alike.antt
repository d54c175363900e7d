-- Members that are alike have one number.
use Rattle.std.proofs.Common.{rules, tests, ◌≡◌, ◌∙◌, ap, sym, subst, refl, ℕ, Bool, true, ◌==◌, List, [], ◌∷◌, map, length, bytes_eq}
use Rattle.std.specs.Prelude.{fold}
use Rattle.std.specs.List.{list_any}
use Rattle.std.proofs.lemmas.Slice.Eq.{bytes_eq-Decides}
use Rattle.type_names.specs.Descriptors.{field}
use Rattle.type_names.specs.declared.kinds.Erased.{Erased}
use Rattle.offers.specs.declared.member.Member.{Member}
use Rattle.offers.specs.Scenes.{same_type}
use Rattle.offers.specs.Candidates.{same_kind}
use Rattle.offers.specs.Omissions.{same_types, is_kin, is_again}
use Rattle.offers.specs.Grouping.{IsRow, AreGroups, row_in, at_place}
use Rattle.offers.specs.Hashing.{type_hash, text_hash, call_hash, count_hash}
use Rattle.offers.proofs.Descriptors.{field-one}
use Rattle.offers.proofs.Lists.{first-true, second-true}
use Rattle.offers.proofs.Rows.{any-row}

one-text : (a b : List ℕ) → bytes_eq a b ≡ true → a ≡ b
one-text a b e = (bytes_eq-Decides a b).0 e

one-types : (a b : List Erased) → same_types a b ≡ true → a ≡ b
unfolding same_types
one-types [] [] e = refl
one-types [] (y ∷ ys) e = absurd (let h = e in cc)
one-types (x ∷ xs) [] e = absurd (let h = e in cc)
one-types (x ∷ xs) (y ∷ ys) e =
    let p : x ≡ y = field-one x y (one-text (field x) (field y) (first-true (same_type x y) (same_types xs ys) e)) in
    let q : xs ≡ ys = one-types xs ys (second-true (same_type x y) (same_types xs ys) e) in
    ap (λ z. z ∷ xs) p ∙ ap (λ (zs : List Erased). y ∷ zs) q

pub one-call : (m n : Member) → bytes_eq m.name n.name ≡ true → same_types m.params n.params ≡ true → call_hash n ≡ call_hash m
unfolding call_hash
one-call m n e f =
    sym (ap (λ name. fold type_hash (text_hash 0 name) m.params) (one-text m.name n.name e) ∙ ap (fold type_hash (text_hash 0 n.name)) (one-types m.params n.params f))

same-number : (a b : ℕ) → (a == b) ≡ true → a ≡ b
same-number a b e = search (rules, tests, e)

pub one-count : (m n : Member) → bytes_eq m.name n.name ≡ true → (length m.params == length n.params) ≡ true → count_hash n ≡ count_hash m
unfolding count_hash
one-count m n e f =
    sym (ap (λ (k : ℕ). text_hash k m.name) (same-number (length m.params) (length n.params) f) ∙ ap (text_hash (length n.params)) (one-text m.name n.name e))

again-call : (m n : Member) → is_again m n ≡ true → call_hash n ≡ call_hash m
again-call m n e =
    one-call m n (second-true (same_kind m.kind n.kind) _ (first-true (is_kin m n) (same_types m.params n.params) e)) (second-true (is_kin m n) (same_types m.params n.params) e)

-- a member of which none among others is one again, where the number of its call is known
pub again-found : (m : Member) (ms kept : List Member) (rows : List (List ℕ)) (row : List ℕ) (hash : ℕ) (out : Bool) → out ≡ list_any (at_place (is_again m) kept) row → kept ≡ ms → row ≡ row_in rows hash → hash ≡ call_hash m → AreGroups (map call_hash ms) rows → out ≡ list_any (is_again m) ms
again-found m ms kept rows row hash out h k r e g =
    h ∙ ap (λ (zs : List Member). list_any (at_place (is_again m) zs) row) k
    ∙ any-row (is_again m) call_hash ms hash row (λ n t. again-call m n t ∙ sym e) (subst (λ (z : List ℕ). IsRow (map call_hash ms) hash z) (sym r) (g hash))

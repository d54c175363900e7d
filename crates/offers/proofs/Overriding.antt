-- Whom a method stands for, among the members of its name and parameter types.
use Rattle.std.proofs.Common.{◌≡◌, ◌∙◌, ap, subst, sym, refl, ℕ, Bool, true, false, ◌&&◌, ◌||◌, not, List, [], ◌∷◌, map, bytes_eq}
use Rattle.std.specs.List.{list_any}
use Rattle.offers.specs.declared.member.Member.{Member}
use Rattle.offers.specs.Scenes.{Scene, of_class}
use Rattle.offers.specs.Candidates.{is_private, value, same_outcome}
use Rattle.offers.specs.Omissions.{is_instance, same_descriptor, overrides}
use Rattle.offers.specs.Grouping.{IsRow, AreGroups, row_in, at_place}
use Rattle.offers.specs.Hashing.{call_hash}
use Rattle.offers.proofs.Lists.{first-true, second-true}
use Rattle.offers.proofs.Rows.{any-row}
use Rattle.offers.proofs.Alike.{one-call}

-- one is of the name and the parameter types of the other
over-call : (v : Scene) (m n : Member) → overrides v m n ≡ true → call_hash n ≡ call_hash m
unfolding overrides
over-call v m n e =
    let same = first-true (bytes_eq m.name n.name && same_descriptor m n) _ (second-true (is_instance m && (is_instance n && not (is_private n))) _ e) in
    one-call m n (first-true (bytes_eq m.name n.name) _ same) (second-true (same_outcome (value m) (value n)) _ (second-true (bytes_eq m.name n.name) _ same))

-- a field, a constructor or a static method stands for none
not-one : (v : Scene) (m n : Member) → is_instance m ≡ false → overrides v m n ≡ false
unfolding overrides
not-one v m n e = ap (λ b. (b && (is_instance n && not (is_private n))) && ((bytes_eq m.name n.name && same_descriptor m n) && v.below (of_class m.owner) (of_class n.owner))) e

pub over-none : (v : Scene) (m : Member) (ms : List Member) → is_instance m ≡ false → false ≡ list_any (overrides v m) ms
over-none v m [] e = refl
over-none v m (n ∷ ns) e = over-none v m ns e ∙ sym (ap (λ b. b || list_any (overrides v m) ns) (not-one v m n e))

pub over-found : (v : Scene) (m : Member) (ms : List Member) (rows : List (List ℕ)) (row : List ℕ) (hash : ℕ) (out : Bool) → out ≡ list_any (at_place (overrides v m) ms) row → row ≡ row_in rows hash → hash ≡ call_hash m → AreGroups (map call_hash ms) rows → out ≡ list_any (overrides v m) ms
over-found v m ms rows row hash out h r e g =
    h ∙ any-row (overrides v m) call_hash ms hash row (λ n t. over-call v m n t ∙ sym e) (subst (λ (z : List ℕ). IsRow (map call_hash ms) hash z) (sym r) (g hash))

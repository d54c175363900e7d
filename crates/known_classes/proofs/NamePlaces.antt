-- The table of canonical names, one class further.
use Rattle.std.proofs.Common.{◌≡◌, ◌∙◌, ap, sym, subst, arith, ℕ, ◌+◌, ◌<◌, List, length, drop, slice_get, bytes_eq, if◌then◌else◌, Some, None, inl, inr}
use Rattle.known_classes.specs.declared.summary.ClassSummary.{ClassSummary}
use Rattle.known_classes.specs.Known.{canonical, class_by_canonical, IsPlaceOf}
use Rattle.known_classes.specs.Nested.{IsLesser}
use Rattle.known_classes.specs.NameTables.{Table, IsCanonicalTable}
use Rattle.known_classes.proofs.Merging.{two, equal}
use Rattle.known_classes.proofs.TableLemmas.{swap}
use Rattle.known_classes.proofs.CanonicalPlaces.{called_start, called_past, called_best}

pub canonical_first : (known : List ClassSummary) (n : ℕ) (table : Table) → n ≡ length known → ((name : List ℕ) → table name ≡ None) → IsCanonicalTable known n table
canonical_first known n table e h = record {
  within = omega arith;
  each = λ name. subst (IsPlaceOf known (class_by_canonical known (drop n known) name)) (sym (h name)) (called_start known name n e).place;
}

pub canonical_on : (known : List ClassSummary) (left k : ℕ) (c : ClassSummary) (text : List ℕ) (r : ℕ) (old new : Table) → k + 1 ≡ left → slice_get known k ≡ Some c → text ≡ canonical known c.name → r < length known → IsLesser known k (old text) r → ((name : List ℕ) → new name ≡ (if bytes_eq text name then Some r else old name)) → IsCanonicalTable known left old → IsCanonicalTable known k new
canonical_on known left k c text r old new e g t l s p h = record {
  within = omega (arith, h.within);
  each = λ name.
      let named : bytes_eq name (canonical known c.name) ≡ bytes_eq text name = ap (bytes_eq name) (sym t) ∙ swap name text in
      elim (two (bytes_eq text name)) [
        | inl y ↦
            let b = called_best known name left k c (old name) r e g (named ∙ y) l (subst (λ x. IsLesser known k (old x) r) (equal text name y) s) (record { within = h.within; place = h.each name }) in
            subst (IsPlaceOf known (class_by_canonical known (drop k known) name)) (sym (p name ∙ ap (λ b. if b then Some r else old name) y)) b.place
        | inr n ↦
            let b = called_past known name left k c (old name) e g (named ∙ n) (record { within = h.within; place = h.each name }) in
            subst (IsPlaceOf known (class_by_canonical known (drop k known) name)) (sym (p name ∙ ap (λ b. if b then Some r else old name) n)) b.place
      ];
}

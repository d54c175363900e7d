-- A member whose name and descriptor are given.
use Rattle.std.proofs.Common.{◌≡◌, ℕ, Bool, List, Option, Some, Result, Ok, Err, sym, subst, rules}
use Rattle.std.specs.Prelude.{IfOk, IsTrue, IsSome, IsSomeAnd, ◌↔◌}
use Rattle.class_shape.specs.declared.shapes.MemberKind.{MemberKind}
use Rattle.class_shape.specs.declared.shapes.MemberShape.{MemberShape}
use Rattle.class_shape.specs.Shapes.{IsDescriptor}
use Rattle.workload.specs.Writing.{IsWholeMember}

pub whole_is : {E : Type 0} (kind : MemberKind) (m : MemberShape) (n t : List ℕ) (r : Result Bool E) → m.name ≡ Some n → m.descriptor ≡ Some t → IfOk r (λ b. IsTrue b ↔ IsDescriptor kind t) → IfOk r (λ b. IsTrue b ↔ IsWholeMember kind m)
whole_is kind m n t (Err e) name descriptor h = tt
whole_is kind m n t (Ok b) name descriptor h = (there, back)
  where
    there : IsTrue b → IsWholeMember kind m
    there e = record { name = subst (λ (o : Option (List ℕ)). IsSome o) (sym name) (search rules); descriptor = subst (λ (o : Option (List ℕ)). IsSomeAnd o (λ u. IsDescriptor kind u)) (sym descriptor) (search (rules, h.0 e)) }

    given : IsSomeAnd (Some t) (λ u. IsDescriptor kind u) → IsDescriptor kind t
    given d = search (rules, d)

    back : IsWholeMember kind m → IsTrue b
    back w = h.1 (given (subst (λ (o : Option (List ℕ)). IsSomeAnd o (λ u. IsDescriptor kind u)) descriptor w.descriptor))

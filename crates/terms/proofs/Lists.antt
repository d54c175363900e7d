-- There is one whole list, fronts are its prefixes, and ties are equal terms.
use Rattle.std.proofs.Common.{◌≡◌, inl, inr, ℕ, zero, suc, ◌≤◌, List, [], ◌∷◌, length, take, Ordering, Less, Equal, Greater, append-nil, sym, subst, ◌∙◌, arith}
use Rattle.std.specs.Ordering.{nat_cmp, ordering_then}
use Rattle.std.specs.Cmp.Lexicographic.{slice_cmp}
use Rattle.std.proofs.lemmas.List.{take_all}
use Rattle.std.proofs.lemmas.Map.Lookups.{exact_bytes}
use Rattle.terms.specs.Expr.{Expr}
use Rattle.terms.specs.Place.{IsInhabitant, total_of}
use Rattle.terms.specs.Text.{text_of}
use Rattle.terms.specs.Code.{prefix_code}
use Rattle.terms.specs.Count.{Stands}
use Rattle.terms.specs.Order.{list_cmp, ComesBefore}
use Rattle.terms.specs.Listing.{IsRising, IsFront, IsWhole}
use Rattle.terms.specs.declared.parts.Parts.{Parts}
use Rattle.terms.proofs.Codes.{one_term}
use Rattle.terms.proofs.Inhabitants.{inhabitant-typed}
use Rattle.terms.proofs.Standing.{stands-cons, stands-head, stands-tail, all_stands, from_all}
use Rattle.terms.proofs.Fronts.{not_back, whole_prefix, front_shorter}

-- inhabitants that the order doesn't tell apart are one
pub one_place : (g : Parts) (e f : Expr) → IsInhabitant g e → IsInhabitant g f → list_cmp g e f ≡ Equal → e ≡ f
one_place g e f i j tie =
    let codes : prefix_code e ≡ prefix_code f = exact_bytes (prefix_code e) (prefix_code f) (last (slice_cmp nat_cmp (text_of g e) (text_of g f)) _ (last (nat_cmp (total_of g e) (total_of g f)) _ tie)) in
    (one_term g [] e f [] [] (inhabitant-typed g e i) (inhabitant-typed g f j) (append-nil _ ∙ codes ∙ sym (append-nil _))).0
  where
    last : (o r : Ordering) → ordering_then o r ≡ Equal → r ≡ Equal
    last Less r h = cc
    last Equal r h = h
    last Greater r h = cc

-- two whole lists are one
pub one_whole : (g : Parts) (ps qs : List Expr) → IsWhole g ps → IsWhole g qs → ps ≡ qs
one_whole g ps qs p q =
    let shorter : length qs ≤ length ps = front_shorter g qs ps q.front p.front (λ e s. p.all e (from_all (IsInhabitant g) qs q.front.members e s)) in
    whole_prefix g ps qs p.front q ∙ take_all (length ps) qs shorter

take-stands : (n : ℕ) (e : Expr) (qs : List Expr) → Stands e (take n qs) → Stands e qs
take-stands zero e qs s = absurd (omega (arith, s))
take-stands (suc n) e [] s = s
take-stands (suc n) e (q ∷ qs) s = elim (stands-cons e q (take n qs) s) [
  | inl same ↦ subst (λ x. Stands x (q ∷ qs)) (sym same) (stands-head q qs)
  | inr later ↦ stands-tail e q qs (take-stands n e qs later)
]

take-rising : (g : Parts) (n : ℕ) (qs : List Expr) → IsRising g qs → IsRising g (take n qs)
take-rising g zero qs r = tt
take-rising g (suc n) [] r = tt
take-rising g (suc n) (q ∷ qs) r =
    (all_stands (ComesBefore g q) (take n qs) (λ e s. from_all (ComesBefore g q) qs r.0 e (take-stands n e qs s)), take-rising g n qs r.1)

-- what comes before a member of a prefix of a rising list is in the prefix
take-closed : (g : Parts) (n : ℕ) (e f : Expr) (qs : List Expr) → IsRising g qs → Stands e qs → Stands f (take n qs) → ComesBefore g e f → Stands e (take n qs)
take-closed g zero e f qs r s t b = absurd (omega (arith, t))
take-closed g (suc n) e f [] r s t b = s
take-closed g (suc n) e f (q ∷ qs) r s t b = elim (stands-cons e q qs s) [
  | inl first ↦ subst (λ x. Stands x (q ∷ take n qs)) (sym first) (stands-head q (take n qs))
  | inr later ↦ (elim (stands-cons f q (take n qs) t) [
    | inl head ↦ absurd (not_back g q e (from_all (ComesBefore g q) qs r.0 e later) (subst (λ x. ComesBefore g e x) head b))
    | inr behind ↦ stands-tail e q (take n qs) (take-closed g n e f qs r.1 later behind b)
  ])
]

-- each prefix of the whole list is a front
pub prefix_front : (g : Parts) (n : ℕ) (qs : List Expr) → IsWhole g qs → IsFront g (take n qs)
prefix_front g n qs q = record {
  rising = take-rising g n qs q.front.rising;
  members = all_stands (IsInhabitant g) (take n qs) (λ e s. from_all (IsInhabitant g) qs q.front.members e (take-stands n e qs s));
  closed = λ e f i t b. take-closed g n e f qs q.front.rising (q.all e i) t b;
}

-- Terms put into the order of the list, each once.
use Rattle.std.proofs.Common.{◌≡◌, ◌⊎◌, Bool, true, false, List, [], ◌∷◌, Ordering, Less, Equal, Greater, refl, sym, ap, ◌∙◌, subst, inl, inr, ⊎_elim, arith}
use Rattle.std.specs.Ordering.{ordering_reverse}
use Rattle.terms.specs.Expr.{Expr}
use Rattle.terms.specs.declared.parts.Parts.{Parts}
use Rattle.terms.specs.Place.{is_inhabitant, IsInhabitant}
use Rattle.terms.specs.Count.{Stands}
use Rattle.terms.specs.Order.{list_cmp, ComesBefore}
use Rattle.terms.specs.Listing.{IsRising, IsWhole}
use Rattle.terms.specs.Faults.{IsValid}
use Rattle.terms.proofs.Standing.{stands-cons, stands-head, stands-tail, all_stands, from_all}
use Rattle.terms.proofs.Fronts.{list_total}
use Rattle.terms.proofs.Lists.{one_place}
use Rattle.terms.proofs.Making.{In, exprs, inhabitants}

abbrev put_by : Ordering → Expr → Expr → List Expr → List Expr → List Expr
put_by Less e x ws rest = e ∷ x ∷ ws
put_by Equal e x ws rest = x ∷ ws
put_by Greater e x ws rest = x ∷ rest

record IsPut (g : Parts) (e : Expr) (ws us : List Expr) : Type 0 where
  rising : IsRising g us
  here : Stands e us
  kept : (f : Expr) → Stands f ws → Stands f us
  only : (f : Expr) → Stands f us → (f ≡ e) ⊎ Stands f ws

no_stand : (e : Expr) → Stands e [] → ⊥
no_stand e s = omega (arith, s)

flip : (g : Parts) (e x : Expr) → list_cmp g e x ≡ Greater → ComesBefore g x e
flip g e x h = (list_total g).antisymm x e ∙ ap ordering_reverse h

stands_self : (e f : Expr) (xs : List Expr) → f ≡ e → Stands e xs → Stands f xs
stands_self e f xs same s = subst (λ y. Stands y xs) (sym same) s

put_one : (g : Parts) (e x : Expr) (ws rest : List Expr) → IsInhabitant g e → IsInhabitant g x → IsRising g (x ∷ ws) → IsPut g e ws rest → (o : Ordering) → list_cmp g e x ≡ o → IsPut g e (x ∷ ws) (put_by o e x ws rest)
put_one g e x ws rest i j up so Less h = record {
  rising = (all_stands (ComesBefore g e) (x ∷ ws) (λ f s. ⊎_elim (λ same. subst (ComesBefore g e) (sym same) h) (λ later. (list_total g).trans e x f h (from_all (ComesBefore g x) ws up.0 f later)) (stands-cons f x ws s)), up);
  here = stands-head e (x ∷ ws);
  kept = λ f s. stands-tail f e (x ∷ ws) s;
  only = λ f s. stands-cons f e (x ∷ ws) s;
}
put_one g e x ws rest i j up so Equal h =
    let same : e ≡ x = one_place g e x i j h in
    record {
      rising = up;
      here = stands_self x e (x ∷ ws) same (stands-head x ws);
      kept = λ f s. s;
      only = λ f s. inr s;
    }
put_one g e x ws rest i j up so Greater h =
    let back : ComesBefore g x e = flip g e x h in
    record {
      rising = (all_stands (ComesBefore g x) rest (λ f s. ⊎_elim (λ same. subst (ComesBefore g x) (sym same) back) (λ later. from_all (ComesBefore g x) ws up.0 f later) (so.only f s)), so.rising);
      here = stands-tail e x rest so.here;
      kept = λ f s. ⊎_elim (λ same. stands_self x f (x ∷ rest) same (stands-head x rest)) (λ later. stands-tail f x rest (so.kept f later)) (stands-cons f x ws s);
      only = λ f s. ⊎_elim (λ same. inr (stands_self x f (x ∷ ws) same (stands-head x ws))) (λ later. ⊎_elim (λ e. inl e) (λ t. inr (stands-tail f x ws t)) (so.only f later)) (stands-cons f x rest s);
    }

put : (g : Parts) (e : Expr) (ws : List Expr) → IsInhabitant g e → ((f : Expr) → Stands f ws → IsInhabitant g f) → IsRising g ws → (us : List Expr) × IsPut g e ws us
put g e [] i members up = (e ∷ [], record { rising = (all_stands (ComesBefore g e) [] (λ f s. absurd (no_stand f s)), tt); here = stands-head e []; kept = λ f s. absurd (no_stand f s); only = λ f s. stands-cons f e [] s })
put g e (x ∷ ws) i members up =
    let rest = put g e ws i (λ f s. members f (stands-tail f x ws s)) up.1 in
    (put_by (list_cmp g e x) e x ws rest.0, put_one g e x ws rest.0 i (members x (stands-head x ws)) up rest.1 (list_cmp g e x) refl)

record IsSorted (g : Parts) (es ws : List Expr) : Type 0 where
  rising : IsRising g ws
  members : (f : Expr) → Stands f ws → IsInhabitant g f
  all : (f : Expr) → IsInhabitant g f → In f es → Stands f ws

sort_one : (g : Parts) (e : Expr) (es ws : List Expr) → IsSorted g es ws → (b : Bool) → is_inhabitant g e ≡ b → (us : List Expr) × IsSorted g (e ∷ es) us
sort_one g e es ws so false fails = (ws, record { rising = so.rising; members = so.members; all = λ f i h. ⊎_elim (λ same. absurd (not_both (is_inhabitant g e) fails (subst (IsInhabitant g) (sym same) i))) (λ later. so.all f i later) h })
  where
    not_both : (b : Bool) → b ≡ false → b ≡ true → ⊥
    not_both true p q = cc
    not_both false p q = cc
sort_one g e es ws so true passes =
    let p = put g e ws passes so.members so.rising in (
      p.0,
      record {
        rising = p.1.rising;
        members = λ f s. ⊎_elim (λ same. subst (IsInhabitant g) (sym same) passes) (λ later. so.members f later) (p.1.only f s);
        all = λ f i h. ⊎_elim (λ same. subst (λ y. Stands y p.0) same p.1.here) (λ later. p.1.kept f (so.all f i later)) h;
      },
    )

sorted : (g : Parts) (es : List Expr) → (ws : List Expr) × IsSorted g es ws
sorted g [] = ([], record { rising = tt; members = λ f s. absurd (no_stand f s); all = λ f i h. absurd h })
sorted g (e ∷ es) = let so = sorted g es in sort_one g e es so.0 so.1 (is_inhabitant g e) refl

pub has_whole : (g : Parts) → IsValid g → (ws : List Expr) × IsWhole g ws
has_whole g valid =
    let so = sorted g (exprs g g.limit []) in
    let every : (e : Expr) → IsInhabitant g e → Stands e so.0 = λ e i. so.1.all e i (inhabitants g valid e i) in
    (so.0, record { front = record { rising = so.1.rising; members = all_stands (IsInhabitant g) so.0 so.1.members; closed = λ e f i s b. every e i }; all = every })

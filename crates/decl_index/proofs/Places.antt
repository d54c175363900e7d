-- Where a name stands in a list in rising order.
use Rattle.std.proofs.Common.{◌≡◌, ◌≢◌, ℕ, zero, suc, ◌+◌, ◌<◌, ◌≤◌, Bool, true, false, cond, rules, List, [], ◌∷◌, ◌++◌, length, take, drop, map, get_or, Option, Some, None, Ordering, Less, Equal, Greater, refl, sym, ap, subst, ◌∙◌, append_assoc, append-nil, arith}
use Rattle.std.specs.List.{AllByRecursion, insert, remove as without, slice_get, flat_map}
use lib.ListN.{set}
use Rattle.known_classes.specs.declared.summary.ClassSummary.{ClassSummary}
use Rattle.known_classes.specs.Known.{class_named, IsPlaceOf}
use Rattle.decl_index.specs.History.{Name, order, Rises, put, remove, decided, said, Edit, told, edits_of, class_in}
use Rattle.decl_index.specs.Places.{heads, Leaves, IsPlace, told_or}
use Rattle.decl_index.specs.declared.change.Change.{Change}
use Rattle.std.proofs.lemmas.List.{take_more, take_all, map-append}
use Rattle.std.specs.Option.{option_or}
use Rattle.decl_index.proofs.Names.{same, before_after, same-itself, apart, equal_from, unequal_from}
use Rattle.decl_index.proofs.Sorted.{put_by, put_in, cut_by, cut_out, put_at, put_rises, cut_at, cut_rises, Above}

pub mapped : {A B : Type 0} (f : A → B) (xs : List A) (i : ℕ) (x : A) → i < length xs → x ≡ get_or xs i x → f x ≡ get_or (map f xs) i (f x)
mapped f [] i x l e = absurd (omega (arith, l))
mapped f (y ∷ ys) zero x l e = ap f e
mapped f (y ∷ ys) (suc i) x l e = mapped f ys i x (omega arith) e

less_all : (c : Name) (n : Name) (cs : List ClassSummary) → order c n ≢ Less → Above c cs → AllByRecursion (λ d. order d.name n ≢ Less) cs
less_all c n [] h a = a
less_all c n (d ∷ cs) h a = ((λ e. h (before_after c d.name n a.0 e)), less_all c n cs h a.1)

above_get : (c : Name) (cs : List ClassSummary) (i : ℕ) (d : ClassSummary) → i < length cs → d ≡ get_or cs i d → Above c cs → order c d.name ≡ Less
above_get c [] i d l e a = absurd (omega (arith, l))
above_get c (b ∷ cs) zero d l e a = subst (λ x. order c x.name ≡ Less) (sym e) a.0
above_get c (b ∷ cs) (suc i) d l e a = above_get c cs i d (omega arith) e a.1

pub below_at : (cs : List ClassSummary) (i : ℕ) (d : ClassSummary) (n : Name) → Rises cs → i < length cs → d ≡ get_or cs i d → order d.name n ≡ Less → AllByRecursion (λ c. order c.name n ≡ Less) (take (suc i) cs)
unfolding Rises
below_at [] i d n r l e h = absurd (omega (arith, l))
below_at (c ∷ cs) zero d n r l e h = (subst (λ x. order x.name n ≡ Less) e h, search rules)
below_at (c ∷ cs) (suc i) d n r l e h = (before_after c.name d.name n (above_get c.name cs i d (omega arith) e r.0) h, below_at cs i d n r.1 (omega arith) e h)

pub above_at : (cs : List ClassSummary) (i : ℕ) (d : ClassSummary) (n : Name) → Rises cs → i < length cs → d ≡ get_or cs i d → order d.name n ≢ Less → AllByRecursion (λ c. order c.name n ≢ Less) (drop i cs)
unfolding Rises
above_at [] i d n r l e h = absurd (omega (arith, l))
above_at (c ∷ cs) zero d n r l e h = let k : order c.name n ≢ Less = subst (λ x. order x.name n ≢ Less) e h in (k, less_all c.name n cs k r.0)
above_at (c ∷ cs) (suc i) d n r l e h = above_at cs i d n r.1 (omega arith) e h

pub heads_at : (cs : List ClassSummary) (i : ℕ) (d : ClassSummary) (n : Name) → i < length cs → d ≡ get_or cs i d → heads n (drop i cs) ≡ same d.name n
heads_at [] i d n l e = absurd (omega (arith, l))
heads_at (c ∷ cs) zero d n l e = ap (λ x. same x.name n) (sym e)
heads_at (c ∷ cs) (suc i) d n l e = heads_at cs i d n (omega arith) e

by_put : (o : Ordering) (c d : ClassSummary) (ds rest : List ClassSummary) → o ≢ Less → o ≢ Equal → put_by o c d ds rest ≡ c ∷ d ∷ ds
by_put Less c d ds rest h e = absurd (h refl)
by_put Equal c d ds rest h e = absurd (e refl)
by_put Greater c d ds rest h e = refl

by_set : (o : Ordering) (c d : ClassSummary) (ds rest : List ClassSummary) → o ≡ Equal → put_by o c d ds rest ≡ c ∷ ds
by_set Less c d ds rest e = absurd cc
by_set Equal c d ds rest e = refl
by_set Greater c d ds rest e = absurd cc

by_keep : (o : Ordering) (d : ClassSummary) (ds rest : List ClassSummary) → o ≢ Less → o ≢ Equal → cut_by o d ds rest ≡ d ∷ ds
by_keep Less d ds rest h e = absurd (h refl)
by_keep Equal d ds rest h e = absurd (e refl)
by_keep Greater d ds rest h e = refl

by_cut : (o : Ordering) (d : ClassSummary) (ds rest : List ClassSummary) → o ≡ Equal → cut_by o d ds rest ≡ ds
by_cut Less d ds rest e = absurd cc
by_cut Equal d ds rest e = refl
by_cut Greater d ds rest e = absurd cc

pub put_set : (c : ClassSummary) (cs : List ClassSummary) (p : ℕ) → AllByRecursion (λ d. order d.name c.name ≡ Less) (take p cs) → heads c.name (drop p cs) ≡ true → put_in c cs ≡ set cs p c
unfolding put_in
put_set c [] zero b e = absurd cc
put_set c [] (suc p) b e = absurd cc
put_set c (d ∷ ds) zero b e = by_set (order d.name c.name) c d ds (put_in c ds) (equal_from d.name c.name e)
put_set c (d ∷ ds) (suc p) b e = ap (λ o. put_by o c d ds (put_in c ds)) b.0 ∙ ap (λ xs. d ∷ xs) (put_set c ds p b.1 e)

pub put_new : (c : ClassSummary) (cs : List ClassSummary) (p : ℕ) → p ≤ length cs → AllByRecursion (λ d. order d.name c.name ≡ Less) (take p cs) → AllByRecursion (λ d. order d.name c.name ≢ Less) (drop p cs) → heads c.name (drop p cs) ≡ false → put_in c cs ≡ insert cs p c
unfolding put_in
put_new c [] zero l b a e = refl
put_new c [] (suc p) l b a e = absurd (omega (arith, l))
put_new c (d ∷ ds) zero l b a e = by_put (order d.name c.name) c d ds (put_in c ds) a.0 (unequal_from d.name c.name e)
put_new c (d ∷ ds) (suc p) l b a e = ap (λ o. put_by o c d ds (put_in c ds)) b.0 ∙ ap (λ xs. d ∷ xs) (put_new c ds p (omega arith) b.1 a e)

pub cut_at_place : (n : Name) (cs : List ClassSummary) (p : ℕ) → AllByRecursion (λ d. order d.name n ≡ Less) (take p cs) → heads n (drop p cs) ≡ true → cut_out n cs ≡ without cs p
unfolding cut_out
cut_at_place n [] zero b e = absurd cc
cut_at_place n [] (suc p) b e = absurd cc
cut_at_place n (d ∷ ds) zero b e = by_cut (order d.name n) d ds (cut_out n ds) (equal_from d.name n e)
cut_at_place n (d ∷ ds) (suc p) b e = ap (λ o. cut_by o d ds (cut_out n ds)) b.0 ∙ ap (λ xs. d ∷ xs) (cut_at_place n ds p b.1 e)

pub cut_none : (n : Name) (cs : List ClassSummary) (p : ℕ) → AllByRecursion (λ d. order d.name n ≡ Less) (take p cs) → AllByRecursion (λ d. order d.name n ≢ Less) (drop p cs) → heads n (drop p cs) ≡ false → cut_out n cs ≡ cs
unfolding cut_out
cut_none n [] p b a e = refl
cut_none n (d ∷ ds) zero b a e = by_keep (order d.name n) d ds (cut_out n ds) a.0 (unequal_from d.name n e)
cut_none n (d ∷ ds) (suc p) b a e = ap (λ o. cut_by o d ds (cut_out n ds)) b.0 ∙ ap (λ xs. d ∷ xs) (cut_none n ds p b.1 a e)

said_put : (x : Bool) (c : ClassSummary) (d : Option ClassSummary) → cond x (Some c) d ≡ told_or (cond x (Some (Some c)) None) d
said_put true c d = refl
said_put false c d = refl

said_remove : (x : Bool) (d : Option ClassSummary) → cond x None d ≡ told_or (cond x (Some None) None) d
said_remove true d = refl
said_remove false d = refl

pub put_leaves : (c : ClassSummary) (cs : List ClassSummary) → Rises cs → Leaves (put c ∷ []) cs (put_in c cs)
unfolding decided
put_leaves c cs r = record { rises = put_rises c cs r; each = λ n. put_at c cs n ∙ said_put (same c.name n) c (class_named cs n) }

pub cut_leaves : (n : Name) (cs : List ClassSummary) → Rises cs → Leaves (remove n ∷ []) cs (cut_out n cs)
unfolding decided
cut_leaves n cs r = record { rises = cut_rises n cs r; each = λ m. cut_at n cs m r ∙ said_remove (same n m) (class_named cs m) }

map_set : {A B : Type 0} (f : A → B) (xs : List A) (i : ℕ) (x : A) → map f (set xs i x) ≡ set (map f xs) i (f x)
map_set f [] i x = refl
map_set f (y ∷ ys) zero x = refl
map_set f (y ∷ ys) (suc i) x = ap (λ zs. f y ∷ zs) (map_set f ys i x)

map_insert : {A B : Type 0} (f : A → B) (xs : List A) (i : ℕ) (x : A) → map f (insert xs i x) ≡ insert (map f xs) i (f x)
map_insert f xs zero x = refl
map_insert f [] (suc i) x = refl
map_insert f (y ∷ ys) (suc i) x = ap (λ zs. f y ∷ zs) (map_insert f ys i x)

map_without : {A B : Type 0} (f : A → B) (xs : List A) (i : ℕ) → map f (without xs i) ≡ without (map f xs) i
map_without f [] zero = refl
map_without f [] (suc i) = refl
map_without f (y ∷ ys) zero = refl
map_without f (y ∷ ys) (suc i) = ap (λ zs. f y ∷ zs) (map_without f ys i)

pub set_leaves : {A : Type 0} (f : A → ClassSummary) (xs : List A) (x : A) (p : ℕ) → Rises (map f xs) → IsPlace (map f xs) (f x).name p → heads (f x).name (drop p (map f xs)) ≡ true → Leaves (put (f x) ∷ []) (map f xs) (map f (set xs p x))
set_leaves f xs x p r at e = subst (Leaves (put (f x) ∷ []) (map f xs)) (put_set (f x) (map f xs) p at.below e ∙ sym (map_set f xs p x)) (put_leaves (f x) (map f xs) r)

pub insert_leaves : {A : Type 0} (f : A → ClassSummary) (xs ys : List A) (x : A) (p : ℕ) → ys ≡ insert xs p x → Rises (map f xs) → IsPlace (map f xs) (f x).name p → heads (f x).name (drop p (map f xs)) ≡ false → Leaves (put (f x) ∷ []) (map f xs) (map f ys)
insert_leaves f xs ys x p is r at e = rw is (subst (Leaves (put (f x) ∷ []) (map f xs)) (put_new (f x) (map f xs) p at.within at.below at.above e ∙ sym (map_insert f xs p x)) (put_leaves (f x) (map f xs) r))

pub without_leaves : {A : Type 0} (f : A → ClassSummary) (xs ys : List A) (n : Name) (p : ℕ) → ys ≡ without xs p → Rises (map f xs) → IsPlace (map f xs) n p → heads n (drop p (map f xs)) ≡ true → Leaves (remove n ∷ []) (map f xs) (map f ys)
without_leaves f xs ys n p is r at e = rw is (subst (Leaves (remove n ∷ []) (map f xs)) (cut_at_place n (map f xs) p at.below e ∙ sym (map_without f xs p)) (cut_leaves n (map f xs) r))

pub same_leaves : (cs : List ClassSummary) (n : Name) (p : ℕ) → Rises cs → IsPlace cs n p → heads n (drop p cs) ≡ false → Leaves (remove n ∷ []) cs cs
same_leaves cs n p r at e = subst (Leaves (remove n ∷ []) cs) (cut_none n cs p at.below at.above e) (cut_leaves n cs r)

-- edits one after the other
pub or_assoc : (a b : Option (Option ClassSummary)) (c : Option ClassSummary) → told_or (option_or a b) c ≡ told_or a (told_or b c)
or_assoc (Some x) b c = refl
or_assoc None b c = refl

pub told_append : (n : Name) (xs ys : List Edit) (d : Option ClassSummary) → told_or (decided n (xs ++ ys)) d ≡ told_or (decided n ys) (told_or (decided n xs) d)
unfolding decided
told_append n [] ys d = refl
told_append n (x ∷ xs) ys d = or_assoc (decided n (xs ++ ys)) (said n x) d ∙ told_append n xs ys (told_or (said n x) d) ∙ ap (told_or (decided n ys)) (sym (or_assoc (decided n xs) (said n x) d))

pub leaves-none : (cs : List ClassSummary) → Rises cs → Leaves [] cs cs
unfolding decided
leaves-none cs r = record { rises = r; each = λ n. refl }

pub leaves-then : (xs ys : List Edit) (ds bs cs : List ClassSummary) → Leaves xs ds bs → Leaves ys bs cs → Leaves (xs ++ ys) ds cs
leaves-then xs ys ds bs cs p q = record { rises = q.rises; each = λ n. q.each n ∙ ap (told_or (decided n ys)) (p.each n) ∙ sym (told_append n xs ys (class_named ds n)) }

pub below_next : (cs : List ClassSummary) (i : ℕ) (d : ClassSummary) (n : Name) → Rises cs → i < length cs → d ≡ get_or cs i d → order d.name n ≡ Less → AllByRecursion (λ c. order c.name n ≡ Less) (take (i + 1) cs)
below_next cs i d n r l e h = let s : suc i ≡ i + 1 = omega arith in subst (λ k. AllByRecursion (λ c. order c.name n ≡ Less) (take k cs)) s (below_at cs i d n r l e h)

pub leaves-next : {B : Type 0} (f : B → Edit) (xs : List B) (i : ℕ) (x : B) (ds bs cs : List ClassSummary) → i < length xs → x ≡ get_or xs i x → Leaves (map f (take i xs)) ds bs → Leaves (f x ∷ []) bs cs → Leaves (map f (take (i + 1) xs)) ds cs
leaves-next f xs i x ds bs cs l e p q =
    let t : map f (take i xs) ++ f x ∷ [] ≡ map f (take (i + 1) xs) = sym (ap (map f) (take_more xs i x l) ∙ map-append f (take i xs) (get_or xs i x ∷ []) ∙ ap (λ y. map f (take i xs) ++ f y ∷ []) (sym e)) in
    subst (λ es. Leaves es ds cs) t (leaves-then (map f (take i xs)) (f x ∷ []) ds bs cs p q)

pub leaves-all : {B : Type 0} (f : B → Edit) (xs : List B) (i : ℕ) (ds bs : List ClassSummary) → length xs ≤ i → Leaves (map f (take i xs)) ds bs → Leaves (map f xs) ds bs
leaves-all f xs i ds bs l p = subst (λ ys. Leaves (map f ys) ds bs) (take_all i xs l) p

pub none_or : (d : Option (Option ClassSummary)) → told d ≡ told_or d None
none_or (Some c) = refl
none_or None = refl

edits_more : (h : List Change) (c : Change) → flat_map edits_of (h ++ c ∷ []) ≡ flat_map edits_of h ++ edits_of c
edits_more [] c = append-nil (edits_of c)
edits_more (d ∷ h) c = ap (λ es. edits_of d ++ es) (edits_more h c) ∙ sym (append_assoc (edits_of d) (flat_map edits_of h) (edits_of c))

pub class_more : (h : List Change) (c : Change) (n : Name) → class_in (h ++ c ∷ []) n ≡ told_or (decided n (edits_of c)) (class_in h n)
class_more h c n = none_or (decided n (flat_map edits_of (h ++ c ∷ []))) ∙ ap (λ es. told_or (decided n es) None) (edits_more h c) ∙ told_append n (flat_map edits_of h) (edits_of c) None ∙ ap (told_or (decided n (edits_of c))) (sym (none_or (decided n (flat_map edits_of h))))

-- where the class of a name is found
found_here : (cs : List ClassSummary) (n : Name) (p : ℕ) → AllByRecursion (λ d. order d.name n ≡ Less) (take p cs) → heads n (drop p cs) ≡ true → (p < length cs) × (class_named cs n ≡ slice_get cs p)
unfolding class_named
found_here [] n zero b e = absurd cc
found_here [] n (suc p) b e = absurd cc
found_here (c ∷ cs) n zero b e = (omega arith, rw e refl)
found_here (c ∷ cs) n (suc p) b e = let f = found_here cs n p b.1 e in (omega (arith, f.0), rw (apart c.name n b.0) f.1)

pub is_found : (cs : List ClassSummary) (n : Name) (p : ℕ) → IsPlace cs n p → heads n (drop p cs) ≡ true → IsPlaceOf cs (class_named cs n) (Some p)
is_found cs n p at e = found_here cs n p at.below e

pub not_found : (cs : List ClassSummary) (n : Name) (p : ℕ) → Rises cs → IsPlace cs n p → heads n (drop p cs) ≡ false → IsPlaceOf cs (class_named cs n) None
not_found cs n p r at e = ap (λ xs. class_named xs n) (sym (cut_none n cs p at.below at.above e)) ∙ cut_at n cs n r ∙ ap (λ b. cond b None (class_named cs n)) (same-itself n)

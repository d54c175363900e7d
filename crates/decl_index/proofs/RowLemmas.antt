-- Rows of places, one name and one class further.
use Rattle.graphs.proofs.Elements.{in-one, none_in}
use Rattle.std.proofs.lemmas.List.Elements.{Contains-append_left, Contains-append_cases, Contains-push, Contains-push_cases}
use Rattle.std.proofs.Common.{◌≡◌, ℕ, zero, suc, ◌+◌, ◌<◌, ◌≤◌, List, [], ◌∷◌, ◌++◌, length, map, get_or, take, Some, None, refl, sym, ap, subst, ◌∙◌, arith, ◌⊎◌, inl, inr, length-append, Contains}
use Rattle.std.specs.List.{slice_get}
use Rattle.std.proofs.lemmas.List.{take_more, take_all}
use Rattle.std.proofs.lemmas.Option.{slice_get_within}
use Rattle.known_classes.specs.declared.summary.ClassSummary.{ClassSummary}
use Rattle.known_classes.specs.Known.{class_named, IsPlaceOf}
use Rattle.graphs.specs.Graph.{edges}
use Rattle.decl_index.specs.History.{Name, Rises}
use Rattle.decl_index.specs.Rows.{IsRow, IsGraph}
use Rattle.decl_index.proofs.Cycles.{named_at, place_named, once_at, got_within}

pub row_none : (cs : List ClassSummary) → IsRow cs [] []
row_none cs = record { sound = λ b h. none_in b h; complete = λ b d e h. none_in d.name h }

row_hit : (cs : List ClassSummary) (xs : List Name) (row : List ℕ) (n : Name) (p : ℕ) → Rises cs → IsPlaceOf cs (class_named cs n) (Some p) → IsRow cs xs row → IsRow cs (xs ++ n ∷ []) (row ++ p ∷ [])
row_hit cs xs row n p r at is = record {
  sound = λ b h. elim (Contains-append_cases row (p ∷ []) b h) [
    | inl k ↦ let s = is.sound b k in (s.0, (s.1.0, Contains-append_left xs (n ∷ []) s.0.name s.1.1))
    | inr k ↦
        let c = got_within cs p at.0 in
        let q = place_named cs n c.0 (at.1 ∙ c.1) in
        (c.0, (ap (slice_get cs) (sym (in-one b p k)) ∙ c.1, subst (λ m. Contains (xs ++ n ∷ []) m) (sym q.1.1) (Contains-push xs n)))
  ];
  complete = λ b d e h. elim (Contains-push_cases xs n d.name h) [
    | inl k ↦ Contains-append_left row (p ∷ []) b (is.complete b d e k)
    | inr k ↦
        let f : slice_get cs p ≡ Some d = sym at.1 ∙ ap (class_named cs) k ∙ named_at cs b d r e in
        let s : p ≡ b = once_at cs p b d d r f e refl in
        subst (λ x. Contains (row ++ p ∷ []) x) s (Contains-push row p)
  ];
}

row_miss : (cs : List ClassSummary) (xs : List Name) (row : List ℕ) (n : Name) → Rises cs → class_named cs n ≡ None → IsRow cs xs row → IsRow cs (xs ++ n ∷ []) row
row_miss cs xs row n r none is = record {
  sound = λ b h. let s = is.sound b h in (s.0, (s.1.0, Contains-append_left xs (n ∷ []) s.0.name s.1.1));
  complete = λ b d e h. elim (Contains-push_cases xs n d.name h) [
    | inl k ↦ is.complete b d e k
    | inr k ↦ let f : class_named cs n ≡ Some d = ap (class_named cs) k ∙ named_at cs b d r e in absurd cc
  ];
}

pub next_names : (xs : List Name) (i : ℕ) (n : Name) → i < length xs → n ≡ get_or xs i n → take i xs ++ n ∷ [] ≡ take (i + 1) xs
next_names xs i n l e = ap (λ x. take i xs ++ x ∷ []) e ∙ sym (take_more xs i n l)

pub row_found : (cs : List ClassSummary) (xs : List Name) (i : ℕ) (row next : List ℕ) (n : Name) (p : ℕ) → i < length xs → n ≡ get_or xs i n → next ≡ row ++ p ∷ [] → Rises cs → IsPlaceOf cs (class_named cs n) (Some p) → IsRow cs (take i xs) row → IsRow cs (take (i + 1) xs) next
row_found cs xs i row next n p l e new r at is = subst (IsRow cs (take (i + 1) xs)) (sym new) (subst (λ ns. IsRow cs ns (row ++ p ∷ [])) (next_names xs i n l e) (row_hit cs (take i xs) row n p r at is))

pub row_passed : (cs : List ClassSummary) (xs : List Name) (i : ℕ) (row : List ℕ) (n : Name) → i < length xs → n ≡ get_or xs i n → Rises cs → class_named cs n ≡ None → IsRow cs (take i xs) row → IsRow cs (take (i + 1) xs) row
row_passed cs xs i row n l e r none is = subst (λ ns. IsRow cs ns row) (next_names xs i n l e) (row_miss cs (take i xs) row n r none is)

pub row_all : (cs : List ClassSummary) (xs : List Name) (i : ℕ) (row : List ℕ) → length xs ≤ i → IsRow cs (take i xs) row → IsRow cs xs row
row_all cs xs i row l is = subst (λ ns. IsRow cs ns row) (take_all i xs l) is

-- The rows of the first i classes.
pub record AreRows (to : ClassSummary → List Name) (cs : List ClassSummary) (i : ℕ) (rows : List (List ℕ)) : Type 0 where
  pub size : length rows ≡ i
  pub row : (a : ℕ) (c : ClassSummary) → a < i → slice_get cs a ≡ Some c → IsRow cs (to c) (edges rows a)

pub rows-none : (to : ClassSummary → List Name) (cs : List ClassSummary) → AreRows to cs 0 []
rows-none to cs = record { size = refl; row = λ a c l e. absurd (omega (arith, l)) }

get_prefix : (rows : List (List ℕ)) (row : List ℕ) (a : ℕ) → a < length rows → get_or (rows ++ row ∷ []) a [] ≡ get_or rows a []
get_prefix [] row a l = absurd (omega (arith, l))
get_prefix (x ∷ rows) row zero l = refl
get_prefix (x ∷ rows) row (suc a) l = get_prefix rows row a (omega arith)

get_last : (rows : List (List ℕ)) (row : List ℕ) (a : ℕ) → a ≡ length rows → get_or (rows ++ row ∷ []) a [] ≡ row
get_last [] row zero l = refl
get_last [] row (suc a) l = absurd (omega (arith, l))
get_last (x ∷ rows) row zero l = absurd (omega (arith, l))
get_last (x ∷ rows) row (suc a) l = get_last rows row a (omega arith)

pub below_or : (a i : ℕ) → a < i + 1 → (a < i) ⊎ (a ≡ i)
below_or zero zero l = inr refl
below_or zero (suc i) l = inl (omega arith)
below_or (suc a) zero l = absurd (omega (arith, l))
below_or (suc a) (suc i) l = elim (below_or a i (omega (arith, l))) [ inl k ↦ inl (omega (arith, k)) | inr e ↦ inr (ap suc e) ]

pub rows-next : (to : ClassSummary → List Name) (cs : List ClassSummary) (i : ℕ) (rows next : List (List ℕ)) (row : List ℕ) (c : ClassSummary) → slice_get cs i ≡ Some c → next ≡ rows ++ row ∷ [] → IsRow cs (to c) row → AreRows to cs i rows → AreRows to cs (i + 1) next
rows-next to cs i rows next row c e new is all = record {
  size = ap length new ∙ length-append rows (row ∷ []) ∙ ap (λ k. k + 1) all.size;
  row = λ a d l f. elim (below_or a i l) [
    | inl k ↦ subst (IsRow cs (to d)) (sym (ap (λ rs. get_or rs a []) new ∙ get_prefix rows row a (omega (arith, k, all.size)))) (all.row a d k f)
    | inr s ↦
        let g : slice_get cs a ≡ Some c = ap (slice_get cs) s ∙ e in
        let same_class : c ≡ d = cc in
        subst (IsRow cs (to d)) (sym (ap (λ rs. get_or rs a []) new ∙ get_last rows row a (omega (arith, s, all.size)))) (subst (λ x. IsRow cs (to x) row) same_class is)
  ];
}

pub rows-all : (to : ClassSummary → List Name) (cs : List ClassSummary) (i : ℕ) (rows : List (List ℕ)) → i ≡ length cs → AreRows to cs i rows → IsGraph to cs rows
rows-all to cs i rows s all = record {
  size = all.size ∙ s;
  row = λ a c e. all.row a c (omega (arith, s, slice_get_within cs a c e)) e;
}

pub got_read : {A B : Type 0} (f : A → B) (xs : List A) (i : ℕ) (x : A) → i < length xs → x ≡ get_or xs i x → slice_get (map f xs) i ≡ Some (f x)
got_read f [] i x l e = absurd (omega (arith, l))
got_read f (y ∷ ys) zero x l e = ap (λ z. Some (f z)) (sym e)
got_read f (y ∷ ys) (suc i) x l e = got_read f ys i x (omega arith) e

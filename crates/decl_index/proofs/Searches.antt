-- A search from one class by supers and outer classes, one name further.
use Rattle.std.proofs.lemmas.List.Elements.{Contains-append_left, Contains-push, Contains-push_cases}
use Rattle.graphs.proofs.Elements.{none_in}
use Rattle.graphs.specs.Paths.{IsPathBy}
use Rattle.std.proofs.Common.{◌≡◌, ℕ, ◌+◌, ◌<◌, ◌≤◌, Bool, true, false, List, [], ◌∷◌, ◌++◌, length, get_or, take, Some, None, refl, sym, ap, subst, ◌∙◌, arith, inl, inr, append_assoc, append-nil, Contains}
use Rattle.std.specs.List.{slice_get}
use Rattle.std.proofs.lemmas.List.{take_all, take-append-le}
use Rattle.std.proofs.lemmas.Option.{slice_get_within, get_or_from_slice_get}
use Rattle.known_classes.specs.declared.summary.ClassSummary.{ClassSummary}
use Rattle.known_classes.specs.Known.{class_named}
use Rattle.decl_index.specs.History.{Name}
use Rattle.decl_index.specs.Refusals.{supers_of, outers_of, ReachesItself, Steps}
use Rattle.decl_index.specs.Changed.{Each, Meets, HasLinks, Follows, IsClosed, IsReached, AvoidsItself, IsFree}
use Rattle.decl_index.proofs.Names.{same, same-true, same-of}
use Rattle.decl_index.proofs.Cycles.{first_known}
use Rattle.decl_index.proofs.RowLemmas.{below_or, next_names}

-- Whether a name is one of the names.
pub one-at : (n : Name) (xs : List Name) (i : ℕ) (x : Name) → i < length xs → x ≡ get_or xs i x → same x n ≡ true → Contains xs n
one-at n xs i x l e s = subst (λ y. Contains xs y) (same-true x n s) (i, l, sym e)

differs : (x n : Name) → same x n ≡ false → x ≡ n → ⊥
differs x n s e = let t : same x n ≡ true = same-of x n e in absurd cc

pub not-next : (n : Name) (xs : List Name) (i : ℕ) (x : Name) → i < length xs → x ≡ get_or xs i x → same x n ≡ false → (Contains (take i xs) n → ⊥) → Contains (take (i + 1) xs) n → ⊥
not-next n xs i x l e s h k = elim (Contains-push_cases (take i xs) x n (subst (λ l. Contains l n) (sym (next_names xs i x l e)) k)) [
  | inl a ↦ h a
  | inr a ↦ differs x n s a
]

pub not-all : (n : Name) (xs : List Name) (i : ℕ) → length xs ≤ i → (Contains (take i xs) n → ⊥) → Contains xs n → ⊥
not-all n xs i l h k = h (subst (λ l. Contains l n) (sym (take_all i xs l)) k)

-- Names that are added where they aren't there.
pub met-none : (xs : List Name) → Meets [] xs xs
met-none xs = record { more = []; grown = sym (append-nil xs); met = λ n h. none_in n h }

pub met-there : (ns old found : List Name) (i : ℕ) (n : Name) → i < length ns → n ≡ get_or ns i n → Contains found n → Meets (take i ns) old found → Meets (take (i + 1) ns) old found
met-there ns old found i n l e there m = record {
  more = m.more;
  grown = m.grown;
  met = λ k h. elim (Contains-push_cases (take i ns) n k (subst (λ l. Contains l k) (sym (next_names ns i n l e)) h)) [
    | inl a ↦ m.met k a
    | inr a ↦ subst (λ x. Contains found x) a there
  ];
}

pub met-push : (ns old found new : List Name) (i : ℕ) (n : Name) → i < length ns → n ≡ get_or ns i n → new ≡ found ++ n ∷ [] → Meets (take i ns) old found → Meets (take (i + 1) ns) old new
met-push ns old found new i n l e is m = record {
  more = m.more ++ n ∷ [];
  grown = is ∙ ap (λ xs. xs ++ n ∷ []) m.grown ∙ append_assoc old m.more (n ∷ []);
  met = λ k h. subst (λ l. Contains l k) (sym is) (elim (Contains-push_cases (take i ns) n k (subst (λ l. Contains l k) (sym (next_names ns i n l e)) h)) [
    | inl a ↦ Contains-append_left found (n ∷ []) k (m.met k a)
    | inr a ↦ subst (λ x. Contains (found ++ n ∷ []) x) a (Contains-push found n)
  ]);
}

pub met-all : (ns old new : List Name) (i : ℕ) → length ns ≤ i → Meets (take i ns) old new → Meets ns old new
met-all ns old new i l m = subst (λ xs. Meets xs old new) (take_all i ns l) m

-- The links of a class.
pub followed : (c : ClassSummary) (old middle new : List Name) → Meets (supers_of c) old middle → Meets (outers_of c) middle new → Follows c old new
followed c old middle new m k = record {
  more = m.more ++ k.more;
  grown = k.grown ∙ ap (λ xs. xs ++ k.more) m.grown ∙ append_assoc old m.more k.more;
  links = record {
    supers = λ n h. subst (λ l. Contains l n) (sym k.grown) (Contains-append_left middle k.more n (m.met n h));
    outers = k.met;
  };
}

links-more : (c : ClassSummary) (old new : List Name) (d : ClassSummary) → Follows d old new → HasLinks c old → HasLinks c new
links-more c old new d f h = record {
  supers = λ n k. subst (λ l. Contains l n) (sym f.grown) (Contains-append_left old f.more n (h.supers n k));
  outers = λ n k. subst (λ l. Contains l n) (sym f.grown) (Contains-append_left old f.more n (h.outers n k));
}

-- The class led to the names, and the first i of them were followed.
pub record IsFollowed (cs : List ClassSummary) (c : ClassSummary) (i : ℕ) (names : List Name) : Type 0 where
  pub first : HasLinks c names
  pub closed : (n : Name) (d : ClassSummary) → Contains (take i names) n → class_named cs n ≡ Some d → HasLinks d names

pub follow-first : (cs : List ClassSummary) (c : ClassSummary) (old new : List Name) → Follows c old new → IsFollowed cs c 0 new
follow-first cs c old new f = record { first = f.links; closed = λ n d h e. none_in n h }

pub follow-next : (cs : List ClassSummary) (c : ClassSummary) (i : ℕ) (old new : List Name) (n : Name) (d : ClassSummary) → i < length old → n ≡ get_or old i n → class_named cs n ≡ Some d → Follows d old new → IsFollowed cs c i old → IsFollowed cs c (i + 1) new
follow-next cs c i old new n d l e known f is = record {
  first = links-more c old new d f is.first;
  closed = λ m b h k.
      let short : take (i + 1) new ≡ take i old ++ n ∷ [] = ap (take (i + 1)) f.grown ∙ take-append-le (i + 1) old f.more (omega (arith, l)) ∙ sym (next_names old i n l e) in
      elim (Contains-push_cases (take i old) n m (subst (λ l. Contains l m) short h)) [
        | inl a ↦ links-more b old new d f (is.closed m b a k)
        | inr a ↦ let known_m : class_named cs m ≡ Some d = subst (λ x. class_named cs x ≡ Some d) a known in let one : d ≡ b = cc in subst (λ x. HasLinks x new) one f.links
      ];
}

pub follow-skip : (cs : List ClassSummary) (c : ClassSummary) (i : ℕ) (names : List Name) (n : Name) → i < length names → n ≡ get_or names i n → class_named cs n ≡ None → IsFollowed cs c i names → IsFollowed cs c (i + 1) names
follow-skip cs c i names n l e none is = record {
  first = is.first;
  closed = λ m b h k. elim (Contains-push_cases (take i names) n m (subst (λ l. Contains l m) (sym (next_names names i n l e)) h)) [
    | inl a ↦ is.closed m b a k
    | inr a ↦ let none_m : class_named cs m ≡ None = subst (λ x. class_named cs x ≡ None) a none in absurd cc
  ];
}

pub follow-all : (cs : List ClassSummary) (c : ClassSummary) (i : ℕ) (names : List Name) → length names ≤ i → IsFollowed cs c i names → IsReached cs c names
follow-all cs c i names l is = record { first = is.first; closed = λ n d h e. is.closed n d (subst (λ l. Contains l n) (sym (take_all i names l)) h) e }

-- No way leads out of the names.
stays-in : (to : ClassSummary → List Name) (cs : List ClassSummary) (names : List Name) → ((d : ClassSummary) (m : Name) → HasLinks d names → Contains (to d) m → Contains names m) → IsClosed cs names → (n : Name) (c : ClassSummary) → class_named cs n ≡ Some c → HasLinks c names → (ms : List Name) (m : Name) → IsPathBy (Steps to cs) n ms m → Contains names m
unfolding IsPathBy
stays-in to cs names f closed n c e h [] m w =
    let known = w.known in
    let one : w.class ≡ c = cc in
    f c m h (subst (λ x. Contains (to x) m) one w.leads)
stays-in to cs names f closed n c e h (x ∷ ms) m w =
    let known = w.0.known in
    let one : w.0.class ≡ c = cc in
    let there : Contains names x = f c x h (subst (λ y. Contains (to y) x) one w.0.leads) in
    let d = first_known to cs x ms m w.1 in
    stays-in to cs names f closed x d.0 d.1 (closed x d.0 there d.1) ms m w.1

pub avoids-reached : (cs : List ClassSummary) (n : Name) (c : ClassSummary) (names : List Name) → class_named cs n ≡ Some c → IsReached cs c names → (Contains names n → ⊥) → AvoidsItself cs n
avoids-reached cs n c names e is out = record {
  supers = λ w. out (stays-in supers_of cs names (λ d m h k. h.supers m k) is.closed n c e is.first w.0 n w.1);
  outers = λ w. out (stays-in outers_of cs names (λ d m h k. h.outers m k) is.closed n c e is.first w.0 n w.1);
}

unknown : (to : ClassSummary → List Name) (cs : List ClassSummary) (n : Name) → class_named cs n ≡ None → ReachesItself to cs n → ⊥
unknown to cs n e w = let d = first_known to cs n w.0 n w.1 in let k : class_named cs n ≡ Some d.0 = d.1 in absurd cc

pub avoids-unknown : (cs : List ClassSummary) (n : Name) → class_named cs n ≡ None → AvoidsItself cs n
avoids-unknown cs n e = record { supers = unknown supers_of cs n e; outers = unknown outers_of cs n e }

-- P holds of the first i elements.
abbrev pub EachBelow : {A : Type 0} → (A → Type 0) → ℕ → List A → Type 0
EachBelow {A} P i xs = (j : ℕ) (x : A) → j < i → slice_get xs j ≡ Some x → P x

pub each-none : {A : Type 0} (P : A → Type 0) (xs : List A) → EachBelow P 0 xs
each-none P xs j x l e = absurd (omega (arith, l))

pub each-next : {A : Type 0} (P : A → Type 0) (xs : List A) (i : ℕ) (y : A) → i < length xs → y ≡ get_or xs i y → P y → EachBelow P i xs → EachBelow P (i + 1) xs
each-next P xs i y l e p all j x k f = elim (below_or j i k) [
  | inl b ↦ all j x b f
  | inr s ↦
      let g : slice_get xs i ≡ Some x = subst (λ m. slice_get xs m ≡ Some x) s f in
      let same_element : y ≡ x = e ∙ get_or_from_slice_get xs i x y g in
      subst P same_element p
]

pub each-all : {A : Type 0} (P : A → Type 0) (xs : List A) (i : ℕ) → length xs ≤ i → EachBelow P i xs → Each P xs
each-all P xs i l all j x e = all j x (omega (arith, l, slice_get_within xs j x e)) e

pub not-one : {P : Type 0} (b : Bool) → (P → b ≡ true) → b ≡ false → P → ⊥
not-one b h e p = let t : b ≡ true = h p in absurd cc

-- Where there is no class there is no cycle.
pub free-none : IsFree []
unfolding class_named
free-none = record {
  supers = record { none = λ n h w. unknown supers_of [] n refl w };
  outers = record { none = λ n h w. unknown outers_of [] n refl w };
}

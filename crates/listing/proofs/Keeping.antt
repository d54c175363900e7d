-- The steps of a listing keep what it stands for.
use Rattle.std.proofs.Common.{◌≡◌, ◌⊎◌, inl, inr, ℕ, ◌+◌, ◌<◌, ◌≤◌, Bool, true, false, ◌==◌, List, [], ◌∷◌, ◌++◌, length, get_or, slice_get, Some, ◌-◌, map, IsSorted, IsPermutation, refl, sym, ap, subst, ◌∙◌, arith, append-nil}
use Rattle.std.proofs.lemmas.Bool.{cases_lt, and_parts, and_from, eq-eqb, true≢false, false≢true}
use Rattle.std.proofs.lemmas.List.{map-append, length-map, length-append, get_or_push}
use Rattle.std.proofs.lemmas.Option.{slice_get_within, get_or_from_slice_get}
use Rattle.std.proofs.lemmas.List.Elements.{All-nil, All-append, All-map, All-push}
use Rattle.std.proofs.lemmas.List.Sorted.{All-permutation, IsPermutation-map, length_permutation}
use Rattle.terms.specs.Expr.{Expr}
use Rattle.terms.specs.View.{expr}
use Rattle.terms.specs.Place.{IsInhabitant, is_inhabitant, total_of}
use Rattle.terms.specs.Count.{expr_eq, once_if, count, Stands}
use Rattle.terms.specs.Listing.{IsRising, IsWhole, level_of, Skipped, IsNextLevel, Progress}
use Rattle.terms.specs.declared.parts.Parts.{Parts}
use Rattle.terms.specs.declared.term.Term.{Term}
use Rattle.terms.specs.declared.levels.Level.{Level}
use Rattle.listing.specs.declared.item.Item.{Item}
use Rattle.listing.specs.declared.item.Keyed.{Keyed}
use Rattle.listing.specs.Found.{IsKept, IsBetween, IsItem, IsKeyed, IsWithin, IsListed, held, terms_of, term_of, item_of, keyed_term, keyed_cmp}
use Rattle.terms.proofs.Standing.{stands-head, count-append, count-permutation}
use Rattle.terms.proofs.Fronts.{lighter, rising-append}
use Rattle.listing.proofs.Ranges.{stands_between, between_stands, between-append, between-none, skipped_none, skipped_join, next_held, front_between, whole_between, grown_bound}
use Rattle.listing.proofs.Orders.{stands_at, rising_keyed}

once_true : (b : Bool) → 1 ≤ once_if b → b ≡ true
once_true true h = refl
once_true false h = absurd (omega (arith, h))

once_small : (b : Bool) → once_if b ≤ 1
once_small true = omega arith
once_small false = omega arith

number_eq : (m n : ℕ) → (m == n) ≡ true → m ≡ n
number_eq m n h = grind arith

-- a level that was given is held
pub kept_level : (p : Progress) (found : List Item) (weight below : ℕ) (level : Level) → IsKept p found [] [] weight below false → IsNextLevel p.parts p.from level
    → IsKept (record { parts = p.parts; from = level.weight + 1 }) found level.terms [] level.weight below false
kept_level p found weight below level k next =
    let skip = skipped_join p.parts below p.from level.weight (skipped_none p.parts below p.from k.held_between) next.before in
    let at : (e : Expr) → count (expr_eq e) (held level.terms []) ≡ once_if (level_of p.parts level.weight e) = λ e. ap (count (expr_eq e)) (append-nil (map expr level.terms)) ∙ next.each e in
    record {
      order = omega (arith, k.order, next.after);
      found_between = k.found_between;
      held_between = next_held p.parts below level.weight (held level.terms []) (omega (arith, k.order, next.after)) skip at;
      held_weight = λ e s. number_eq _ _ (and_parts (is_inhabitant p.parts e) (total_of p.parts e == level.weight) (once_true _ (subst (λ n. 1 ≤ n) (at e) s))).1;
      rising = k.rising;
      items = k.items;
      coded = All-nil (IsKeyed p.parts level.weight);
      ended = λ e. absurd (false≢true e);
      next = λ l. refl;
      small = k.small;
    }

-- a term that has its text now counts as before
held_moved : (e : Expr) (ws : List Term) (t : Term) (ks : List Keyed) (k : Keyed) → keyed_term k ≡ expr t → count (expr_eq e) (held ws (ks ++ k ∷ [])) ≡ count (expr_eq e) (held (ws ++ t ∷ []) ks)
held_moved e ws t ks k same =
    let p = expr_eq e in
    let new : count p (held ws (ks ++ k ∷ [])) ≡ count p (map expr ws) + (count p (map keyed_term ks) + (once_if (p (keyed_term k)) + 0))
    = count-append p (map expr ws) (map keyed_term (ks ++ k ∷ [])) ∙ ap (λ n. count p (map expr ws) + n) (ap (count p) (map-append keyed_term ks (k ∷ [])) ∙ count-append p (map keyed_term ks) (keyed_term k ∷ [])) in
    let old : count p (held (ws ++ t ∷ []) ks) ≡ (count p (map expr ws) + (once_if (p (expr t)) + 0)) + count p (map keyed_term ks)
    = count-append p (map expr (ws ++ t ∷ [])) (map keyed_term ks) ∙ ap (λ n. n + count p (map keyed_term ks)) (ap (count p) (map-append expr ws (t ∷ [])) ∙ count-append p (map expr ws) (expr t ∷ [])) in
    omega (arith, new, old, ap (λ x. once_if (p x)) same)

pub kept_moved : (p : Progress) (found : List Item) (ws : List Term) (t : Term) (ks : List Keyed) (k : Keyed) (weight below : ℕ) (end : Bool) → keyed_term k ≡ expr t → IsKeyed p.parts weight k
    → IsKept p found (ws ++ t ∷ []) ks weight below end → IsKept p found ws (ks ++ k ∷ []) weight below end
kept_moved p found ws t ks k weight below end same right h = record {
  order = h.order;
  found_between = h.found_between;
  held_between = λ e. held_moved e ws t ks k same ∙ h.held_between e;
  held_weight = λ e s. h.held_weight e (subst (λ n. 1 ≤ n) (held_moved e ws t ks k same) s);
  rising = h.rising;
  items = h.items;
  coded = All-push (IsKeyed p.parts weight) ks k h.coded right;
  ended = h.ended;
  next = λ l. h.next (omega (arith, length-append ws (t ∷ [])));
  small = h.small;
}

-- the held level in another order
pub kept_sorted : (p : Progress) (found : List Item) (ks ls : List Keyed) (weight below : ℕ) (end : Bool) → IsPermutation ks ls → IsKept p found [] ks weight below end → IsKept p found [] ls weight below end
kept_sorted p found ks ls weight below end perm h =
    let same : (e : Expr) → count (expr_eq e) (map keyed_term ls) ≡ count (expr_eq e) (map keyed_term ks) = λ e. count-permutation (expr_eq e) (map keyed_term ks) (map keyed_term ls) (IsPermutation-map keyed_term ks ls perm) in
    record {
      order = h.order;
      found_between = h.found_between;
      held_between = λ e. same e ∙ h.held_between e;
      held_weight = λ e s. h.held_weight e (subst (λ n. 1 ≤ n) (same e) s);
      rising = h.rising;
      items = h.items;
      coded = All-permutation (IsKeyed p.parts weight) ks ls perm h.coded;
      ended = h.ended;
      next = λ l. h.next (omega (arith, length_permutation ks ls perm));
      small = h.small;
    }

terms_moved : (ks : List Keyed) → terms_of (map item_of ks) ≡ map keyed_term ks
terms_moved [] = refl
terms_moved (k ∷ ks) = ap (λ es. keyed_term k ∷ es) (terms_moved ks)

terms_joined : (found : List Item) (ks : List Keyed) → terms_of (found ++ map item_of ks) ≡ terms_of found ++ map keyed_term ks
terms_joined found ks = map-append term_of found (map item_of ks) ∙ ap (λ es. terms_of found ++ es) (terms_moved ks)

-- a held term is no lighter than what isn't found
not_below : (p : Progress) (found : List Item) (ks : List Keyed) (weight below : ℕ) (end : Bool) → 0 < length ks → IsKept p found [] ks weight below end → below ≤ weight
not_below p found [] weight below end l h = absurd (omega (arith, l))
not_below p found (k ∷ ks) weight below end l h =
    let s = stands-head (keyed_term k) (map keyed_term ks) in
    omega (arith, h.held_weight (keyed_term k) s, (stands_between p.parts below p.from (map keyed_term (k ∷ ks)) h.held_between (keyed_term k) s).at_least)

-- what a level in order does to what was found
settled_rising : (p : Progress) (found : List Item) (ks : List Keyed) (weight below : ℕ) (end : Bool) → IsSorted keyed_cmp ks → IsKept p found [] ks weight below end → IsRising p.parts (terms_of (found ++ map item_of ks))
settled_rising p found ks weight below end sorted h =
    let g = p.parts in
    let inside : (e : Expr) → Stands e (map keyed_term ks) → IsInhabitant g e = λ e s. (stands_between g below p.from (map keyed_term ks) h.held_between e s).inhabitant in
    let up = rising_keyed g weight ks sorted h.coded inside h.held_weight (λ e. subst (λ n. n ≤ 1) (sym (h.held_between e)) (once_small _)) in
    subst (IsRising g) (sym (terms_joined found ks)) (rising-append g (terms_of found) (map keyed_term ks) h.rising up (λ x y s t.
    lighter g x y (omega (arith, (stands_between g 0 below (terms_of found) h.found_between x s).less, (stands_between g below p.from (map keyed_term ks) h.held_between y t).at_least))))

settled_between : (p : Progress) (found : List Item) (ks : List Keyed) (weight below : ℕ) (end : Bool) → 0 < length ks → IsKept p found [] ks weight below end → IsBetween p.parts 0 (weight + 1) (terms_of (found ++ map item_of ks))
settled_between p found ks weight below end some h =
    let g = p.parts in
    let whole = between-append g 0 below p.from (terms_of found) (map keyed_term ks) (omega arith) h.order h.found_between h.held_between in
    subst (λ n. IsBetween g 0 n (terms_of (found ++ map item_of ks))) (h.next (omega (arith, some)))
    (subst (IsBetween g 0 p.from) (sym (terms_joined found ks)) whole)

pub kept_settled : (p : Progress) (found : List Item) (ks : List Keyed) (weight below : ℕ) (end : Bool) → IsSorted keyed_cmp ks → 0 < length ks → length found + length ks < 4611686018427387904
    → IsKept p found [] ks weight below end → IsKept p (found ++ map item_of ks) [] [] weight (weight + 1) end
kept_settled p found ks weight below end sorted some room h =
    let from = h.next (omega (arith, some)) in
    let low = not_below p found ks weight below end some h in
    record {
      order = omega (arith, from);
      found_between = settled_between p found ks weight below end some h;
      held_between = subst (λ n. IsBetween p.parts (weight + 1) n []) (sym from) (between-none p.parts (weight + 1));
      held_weight = λ e s. absurd (omega (arith, s));
      rising = settled_rising p found ks weight below end sorted h;
      items = All-append (IsItem p.parts) found (map item_of ks) h.items (All-map (IsItem p.parts) item_of ks (λ k d l. record {
        weight = (h.coded k d l).weight ∙ sym (h.held_weight (keyed_term (get_or ks k d)) (stands_at keyed_term ks k d l));
        text = (h.coded k d l).text;
      }));
      coded = All-nil (IsKeyed p.parts weight);
      ended = λ e w a b. h.ended e w (omega (arith, a, low)) b;
      next = λ l. absurd (omega (arith, l));
      small = omega (arith, room, length-append found (map item_of ks), length-map ks item_of);
    }

-- no weight between what is found and the held level has a term
level_false : (g : Parts) (k : ℕ) (e : Expr) (b : Bool) → level_of g k e ≡ b → (level_of g k e ≡ true → ⊥) → level_of g k e ≡ false
level_false g k e true is no_such = absurd (no_such is)
level_false g k e false is no_such = is

held_skip : (p : Progress) (found : List Item) (ks : List Keyed) (weight below : ℕ) (end : Bool) → 0 < length ks → IsKept p found [] ks weight below end → Skipped p.parts below weight
held_skip p found ks weight below end some h k a b e = level_false p.parts k e (level_of p.parts k e) refl (λ is.
    let both = and_parts (is_inhabitant p.parts e) (total_of p.parts e == k) is in
    let at = number_eq (total_of p.parts e) k both.1 in
    let from = h.next (omega (arith, some)) in
    absurd (omega (arith, at, b, h.held_weight e (between_stands p.parts below p.from (map keyed_term ks) h.held_between e both.0 (omega (arith, at, a)) (omega (arith, at, b, from))))))

pub within_settled : (p : Progress) (found : List Item) (ks : List Keyed) (weight below : ℕ) (end : Bool) → IsSorted keyed_cmp ks → 0 < length ks → IsKept p found [] ks weight below end → IsWithin p.parts found (found ++ map item_of ks)
within_settled p found ks weight below end sorted some h fs levels far =
    let new = found ++ map item_of ks in
    let far_terms : (length (terms_of found) < length fs) ⊎ (IsWhole p.parts fs) = elim far [
      | inl longer ↦ inl (omega (arith, longer, length-map found term_of))
      | inr whole ↦ inr whole
    ] in
    inr (omega (
      arith,
      length-map new term_of,
      grown_bound p.parts below weight (terms_of found) (terms_of new) fs h.rising h.found_between (held_skip p found ks weight below end some h)
          (settled_rising p found ks weight below end sorted h) (settled_between p found ks weight below end some h) levels far_terms,
    ))

-- where no level is held no weight from there on to where levels are left has a term
none_held : (p : Progress) (found : List Item) (ws : List Term) (ks : List Keyed) (weight below : ℕ) (end : Bool) → ws ≡ [] → ks ≡ [] → IsKept p found ws ks weight below end → Skipped p.parts below p.from
none_held p found ws ks weight below end ew ek h =
    let a : IsKept p found [] [] weight below end = subst (λ us. IsKept p found us [] weight below end) ew (subst (λ us. IsKept p found ws us weight below end) ek h) in
    skipped_none p.parts below p.from a.held_between

-- what is lighter than the level that was begun last is found
lighter_found : (p : Progress) (found : List Item) (ws : List Term) (ks : List Keyed) (weight below reached : ℕ) (end : Bool) → IsKept p found ws ks weight below end → Skipped p.parts below reached
    → (e : Expr) → IsInhabitant p.parts e → total_of p.parts e < reached → Stands e (terms_of found)
lighter_found p found ws ks weight below reached end h skip e inside lighter = elim (cases_lt (total_of p.parts e) below) [
  | inl under ↦ between_stands p.parts 0 below (terms_of found) h.found_between e inside (omega arith) under
  | inr over ↦ absurd (true≢false (sym (and_from (is_inhabitant p.parts e) (total_of p.parts e == total_of p.parts e) inside (eq-eqb (total_of p.parts e) (total_of p.parts e) refl)) ∙ skip (total_of p.parts e) over lighter e))
]

-- a level that was given stands right after what was found
pub begun_level : (p q : Progress) (found : List Item) (ws : List Term) (ks : List Keyed) (weight below reached : ℕ) (end : Bool) (level : Level) → ws ≡ [] → ks ≡ [] → q ≡ record { parts = p.parts; from = level.weight + 1 } → reached ≡ level.weight
    → IsNextLevel p.parts p.from level → IsKept p found ws ks weight below end → Skipped q.parts below reached
begun_level p q found ws ks weight below reached end level ew ek eq er next h =
    let here : Skipped p.parts below level.weight = skipped_join p.parts below p.from level.weight (none_held p found ws ks weight below end ew ek h) next.before in
    subst (λ (x : Progress). Skipped x.parts below reached) (sym eq) (subst (λ n. Skipped p.parts below n) (sym er) here)

-- a level that is found leaves less to be passed over
pub begun_settled : (p : Progress) (found : List Item) (ws : List Term) (ks : List Keyed) (weight below reached : ℕ) (end : Bool) → ws ≡ [] → 0 < length ks → IsKept p found ws ks weight below end → Skipped p.parts below reached → Skipped p.parts (weight + 1) reached
begun_settled p found ws ks weight below reached end none some h skip w a b =
    let start : IsKept p found [] ks weight below end = subst (λ us. IsKept p found us ks weight below end) none h in
    let low = not_below p found ks weight below end some start in
    skip w (omega (arith, low, a)) b

-- what is kept is a front of the list, and the whole of it at the end
pub listed : (p : Progress) (found : List Item) (ws : List Term) (ks : List Keyed) (weight below reached pops : ℕ) (end : Bool) → IsKept p found ws ks weight below end → Skipped p.parts below reached
    → IsListed (record { parts = p.parts; found = found; at_end = end; reached = reached; pops = pops })
listed p found ws ks weight below reached pops end h skip = record {
  levels = front_between p.parts below (terms_of found) h.rising h.found_between;
  items = h.items;
  whole = λ e. whole_between p.parts below (terms_of found) h.rising h.found_between (h.ended e);
  no_further = λ e inside lighter. lighter_found p found ws ks weight below reached end h skip e inside lighter;
  small = h.small;
}

-- the same, where what is held is known to be nothing
pub kept_level_at : (p q : Progress) (found : List Item) (ws : List Term) (ks : List Keyed) (weight below : ℕ) (end : Bool) (level : Level) → ws ≡ [] → ks ≡ [] → end ≡ false → q ≡ record { parts = p.parts; from = level.weight + 1 }
    → IsNextLevel p.parts p.from level → IsKept p found ws ks weight below end → IsKept q found level.terms ks level.weight below end
kept_level_at p q found ws ks weight below end level ew ek ee eq next h =
    let a : IsKept p found [] [] weight below false = subst (λ us. IsKept p found us [] weight below false) ew (subst (λ us. IsKept p found ws us weight below false) ek (subst (λ b. IsKept p found ws ks weight below b) ee h)) in
    let b = kept_level p found weight below level a next in
    subst (λ r. IsKept r found level.terms ks level.weight below end) (sym eq)
    (subst (λ us. IsKept (record { parts = p.parts; from = level.weight + 1 }) found level.terms us level.weight below end) (sym ek)
    (subst (λ b. IsKept (record { parts = p.parts; from = level.weight + 1 }) found level.terms [] level.weight below b) (sym ee) b))

-- each waiting term is an inhabitant
pub waits_at : (p : Progress) (found : List Item) (ws : List Term) (ks : List Keyed) (weight below : ℕ) (end : Bool) → IsKept p found ws ks weight below end → (i : ℕ) (t : Term) → slice_get ws i ≡ Some t → IsInhabitant p.parts (expr t)
waits_at p found ws ks weight below end h i t at =
    let within = slice_get_within ws i t at in
    let there : Stands (expr (get_or ws i t)) (map expr ws) = stands_at expr ws i t within in
    let here : Stands (expr t) (map expr ws) = subst (λ u. Stands (expr u) (map expr ws)) (get_or_from_slice_get ws i t t at) there in
    (stands_between p.parts below p.from (held ws ks) h.held_between (expr t) (omega (arith, here, count-append (expr_eq (expr t)) (map expr ws) (map keyed_term ks)))).inhabitant

-- the last of a list that was taken from its end
pub last_taken : (ws us : List Term) (t u : Term) → ws ≡ us ++ u ∷ [] → slice_get ws (length ws - 1) ≡ Some t → t ≡ u
last_taken ws us t u whole at =
    let size : length ws - 1 ≡ length us = omega (arith, ap length whole, length-append us (u ∷ [])) in
    sym (get_or_from_slice_get ws (length ws - 1) t t at) ∙ ap (λ zs. get_or zs (length ws - 1) t) whole ∙ get_or_push us u t (length ws - 1) (sym size)

-- the steps of `settle`, by what its calls say
pub kept_sorted_at : (p : Progress) (found new : List Item) (ws : List Term) (ks ls : List Keyed) (weight below : ℕ) (end : Bool) → ws ≡ [] → new ≡ found → IsPermutation ks ls → IsKept p found ws ks weight below end → IsKept p new ws ls weight below end
kept_sorted_at p found new ws ks ls weight below end none same perm h =
    let start : IsKept p found [] ks weight below end = subst (λ us. IsKept p found us ks weight below end) none h in
    let sorted = kept_sorted p found ks ls weight below end perm start in
    subst (λ is. IsKept p is ws ls weight below end) (sym same) (subst (λ us. IsKept p found us ls weight below end) (sym none) sorted)

pub kept_settled_at : (p : Progress) (found new : List Item) (ws : List Term) (ks ls es : List Keyed) (weight below : ℕ) (end : Bool) → ws ≡ [] → IsPermutation ks ls → IsSorted keyed_cmp ls → 0 < length ks → length found + length ls < 4611686018427387904
    → new ≡ found ++ map item_of ls → es ≡ [] → IsKept p found ws ks weight below end → IsKept p new ws es weight (weight + 1) end
kept_settled_at p found new ws ks ls es weight below end none perm sorted some room whole empty h =
    let start : IsKept p found [] ks weight below end = subst (λ us. IsKept p found us ks weight below end) none h in
    let done = kept_settled p found ls weight below end sorted (omega (arith, some, length_permutation ks ls perm)) room (kept_sorted p found ks ls weight below end perm start) in
    subst (λ is. IsKept p is ws es weight (weight + 1) end) (sym whole)
    (subst (λ us. IsKept p (found ++ map item_of ls) us es weight (weight + 1) end) (sym none)
    (subst (λ us. IsKept p (found ++ map item_of ls) [] us weight (weight + 1) end) (sym empty) done))

pub within_settled_at : (p : Progress) (found new : List Item) (ws : List Term) (ks ls : List Keyed) (weight below : ℕ) (end : Bool) → ws ≡ [] → IsPermutation ks ls → IsSorted keyed_cmp ls → 0 < length ks
    → new ≡ found ++ map item_of ls → IsKept p found ws ks weight below end → IsWithin p.parts found new
within_settled_at p found new ws ks ls weight below end none perm sorted some whole h =
    let start : IsKept p found [] ks weight below end = subst (λ us. IsKept p found us ks weight below end) none h in
    subst (IsWithin p.parts found) (sym whole) (within_settled p found ls weight below end sorted (omega (arith, some, length_permutation ks ls perm)) (kept_sorted p found ks ls weight below end perm start))

pub grown_at : (found new : List Item) (ks ls : List Keyed) → IsPermutation ks ls → 0 < length ks → new ≡ found ++ map item_of ls → length found < length new
grown_at found new ks ls perm some whole = omega (arith, some, length_permutation ks ls perm, ap length whole, length-append found (map item_of ls), length-map ls item_of)

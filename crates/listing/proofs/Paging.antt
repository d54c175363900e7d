-- A page over what was found is a page of the list.
use Rattle.std.proofs.Common.{◌≡◌, ◌⊎◌, inl, inr, ℕ, zero, suc, ◌+◌, ◌-◌, ◌≤◌, Bool, true, ◌&&◌, nat_le, List, [], ◌∷◌, ◌++◌, length, take, drop, min, refl, sym, ap, ◌∙◌, arith}
use Rattle.std.proofs.lemmas.Bool.{cases_lt, le-leb, and_parts, and_from}
use Rattle.std.proofs.lemmas.List.{length-map, take-append-drop, take-append-le, take_all, length-drop, drop_all}
use Rattle.terms.specs.Expr.{Expr}
use Rattle.terms.specs.Count.{Stands}
use Rattle.terms.specs.Place.{IsInhabitant}
use Rattle.terms.proofs.Standing.{from_all}
use Rattle.terms.specs.Listing.{IsWhole}
use Rattle.terms.specs.declared.parts.Parts.{Parts}
use Rattle.listing.specs.declared.item.Item.{Item}
use Rattle.listing.specs.declared.page.Page.{Page}
use Rattle.listing.specs.Found.{Listed, IsListed, IsNoFurther, terms_of, term_of}
use Rattle.listing.specs.Pages.{IsPage, items_of}
use Rattle.terms.proofs.Fronts.{whole_prefix, front_shorter}

le_true : (m n : ℕ) → nat_le m n ≡ true → m ≤ n
le_true m n h = grind arith

terms-take : (n : ℕ) (items : List Item) → terms_of (take n items) ≡ take n (terms_of items)
terms-take zero items = refl
terms-take (suc n) [] = refl
terms-take (suc n) (i ∷ items) = ap (λ es. term_of i ∷ es) (terms-take n items)

terms-drop : (n : ℕ) (items : List Item) → terms_of (drop n items) ≡ drop n (terms_of items)
terms-drop zero items = refl
terms-drop (suc n) [] = refl
terms-drop (suc n) (i ∷ items) = terms-drop n items

-- what lies past the end is nothing
drop_capped : (from : ℕ) (es : List Expr) → drop (min from (length es)) es ≡ drop from es
drop_capped from es = elim (cases_lt from (length es)) [
  | inl under ↦ ap (λ n. drop n es) (omega (arith, under))
  | inr over ↦ ap (λ n. drop n es) (omega (arith, over)) ∙ drop_all (length es) es (omega arith) ∙ sym (drop_all from es over)
]

take_capped : (count : ℕ) (es : List Expr) → take (min count (length es)) es ≡ take count es
take_capped count es = elim (cases_lt count (length es)) [
  | inl under ↦ ap (λ n. take n es) (omega (arith, under))
  | inr over ↦ ap (λ n. take n es) (omega (arith, over)) ∙ take_all (length es) es (omega arith) ∙ sym (take_all count es over)
]

slice_capped : (from count : ℕ) (es : List Expr) → take (min count (length es - from)) (drop (min from (length es)) es) ≡ take count (drop from es)
slice_capped from count es =
    ap (take (min count (length es - from))) (drop_capped from es)
    ∙ ap (λ n. take (min count n) (drop from es)) (sym (length-drop from es))
    ∙ take_capped count (drop from es)

-- a slice of the front of a list
drop-append-le : (n : ℕ) (xs ys : List Expr) → n ≤ length xs → drop n (xs ++ ys) ≡ drop n xs ++ ys
drop-append-le zero xs ys h = refl
drop-append-le (suc n) [] ys h = absurd (omega (arith, h))
drop-append-le (suc n) (x ∷ xs) ys h = drop-append-le n xs ys (omega (arith, h))

slice_front : (from count : ℕ) (es ws : List Expr) → from + count ≤ length es → es ≡ take (length es) ws → take count (drop from es) ≡ take count (drop from ws)
slice_front from count es ws l pre =
    let rest = drop (length es) ws in
    let whole : ws ≡ es ++ rest = sym (take-append-drop (length es) ws) ∙ ap (λ us. us ++ rest) (sym pre) in
    sym (ap (λ us. take count (drop from us)) whole ∙ ap (take count) (drop-append-le from es rest (omega (arith, l)))
    ∙ take-append-le count (drop from es) rest (omega (arith, l, length-drop from es)))

-- two whole lists are one
whole_same : (g : Parts) (es ws : List Expr) → IsWhole g es → IsWhole g ws → es ≡ ws
whole_same g es ws p q =
    let pre = whole_prefix g es ws p.front q in
    let back = whole_prefix g ws es q.front p in
    let long : length ws ≤ length es = front_shorter g ws es q.front p.front (λ e s. p.all e (member e s)) in
    pre ∙ take_all (length es) ws long
  where
    member : (e : Expr) → Stands e ws → IsInhabitant g e
    member e s = from_all (IsInhabitant g) ws q.front.members e s

true_parts : (a b : Bool) → a && b ≡ true → (a ≡ true) × (b ≡ true)
true_parts a b h = and_parts a b h

pub paged : (from count : ℕ) (before after : Listed) (page : Page) → IsListed after
    → page.first ≡ min from (length after.found) → page.len ≡ min count (length after.found - from)
    → page.last ≡ after.at_end && nat_le (length after.found) (from + count)
    → length before.found + page.grown ≡ length after.found
    → (from + count + 1 ≤ length after.found) ⊎ (after.at_end ≡ true)
    → IsNoFurther after.parts (from + count + 1) before.found after.found
    → IsPage from count before after page
paged from count before after page listed first len last grown enough bound =
    let g = after.parts in
    let n = length after.found in
    let es = terms_of after.found in
    let size : length es ≡ n = length-map after.found term_of in
    let front = listed.levels.front in
    let reached : page.last ≡ true → (after.at_end ≡ true) × (page.first + page.len ≡ n) = λ h.
    let both = and_parts after.at_end (nat_le n (from + count)) (sym last ∙ h) in
    (both.0, omega (arith, first, len, le_true n (from + count) both.1)) in
    let back : page.first + page.len ≡ n → page.last ≡ true = λ h. (elim enough [
      | inl more ↦ absurd (omega (arith, first, len, h, more))
      | inr end ↦ last ∙ and_from after.at_end (nat_le n (from + count)) end (le-leb n (from + count) (omega (arith, first, len, h)))
    ]) in
    let whole_of : (ws : List Expr) → IsWhole g ws → after.at_end ≡ true → es ≡ ws = λ ws w end. whole_same g es ws (listed.whole end) w in
    let page_terms : terms_of (items_of after page) ≡ take count (drop from es)
    = terms-take page.len (drop page.first after.found) ∙ ap (take page.len) (terms-drop page.first after.found)
    ∙ ap (λ m. take m (drop page.first es)) (len ∙ ap (λ m. min count (m - from)) (sym size))
    ∙ ap (λ m. take (min count (length es - from)) (drop m es)) (first ∙ ap (min from) (sym size))
    ∙ slice_capped from count es in
    let prefix_of : (ws : List Expr) → IsWhole g ws → es ≡ take (length es) ws = λ ws w. whole_prefix g es ws front w in
    let shorter : (ws : List Expr) → IsWhole g ws → n ≤ length ws = λ ws w. omega (arith, size, front_shorter g es ws front w.front (λ e s. w.all e (from_all (IsInhabitant g) es front.members e s))) in
    record {
      first = first;
      len = len;
      slice = λ ws w. page_terms ∙ (elim enough [
        | inl more ↦ slice_front from count es ws (omega (arith, size, more)) (prefix_of ws w)
        | inr end ↦ ap (λ us. take count (drop from us)) (whole_of ws w end)
      ]);
      last = (λ h. (listed.whole (reached h).0, (reached h).1), λ h. back h.1);
      ends = λ ws w. (λ h. (reached h).1 ∙ sym size ∙ ap length (whole_of ws w (reached h).0), λ h. back (omega (arith, h, first, len, shorter ws w)));
      grown = grown;
      bound = λ fs levels far. elim (bound fs levels far) [ inl same ↦ omega (arith, grown, same) | inr under ↦ omega (arith, grown, under) ];
    }

-- What a listing says of its page is what is told of it.
use Rattle.std.proofs.Common.{◌≡◌, ◌⊎◌, inl, inr, ⊎_elim, ◌↔◌, ℕ, ◌+◌, ◌-◌, ◌≤◌, ◌<◌, ◌^◌, Bool, true, false, IsTrue, length, drop, min, All, arith, refl, sym, ap, subst, ◌∙◌}
use Rattle.std.proofs.lemmas.Bool.{le-leb, false≢true}
use Rattle.std.proofs.lemmas.Bool.Decides.{leb_tells}
use Rattle.std.proofs.lemmas.List.{length-map, length-take, length-drop}
use Rattle.std.proofs.lemmas.List.Elements.{All-drop, All-take}
use Rattle.std.proofs.Math.Dec.{leb}
use Rattle.terms.proofs.Lists.{one_whole}
use Rattle.listing.specs.declared.page.Page as found
use Rattle.listing.specs.Found.{Listed, IsListed, IsItem, terms_of, term_of}
use Rattle.listing.specs.Pages.{IsPage, items_of}
use Rattle.answers.specs.declared.types.Page.{Page}
use Rattle.answers.specs.Cursors.{IsPageOf}

-- A Bool that stands exactly where one number is at most another.
bool_iff : (b : Bool) (m n : ℕ) → (IsTrue b → m ≤ n) → (m ≤ n → IsTrue b) → b ≡ leb m n
bool_iff true m n f g = sym (le-leb m n (f refl))
bool_iff false m n f g = ⊎_elim (λ (t : (leb m n ≡ true) × (m ≤ n)). absurd (false≢true (g t.1))) (λ (t : (leb m n ≡ false) × (n < m)). sym t.0) (leb_tells m n)

length_items : (a : Listed) (p : found.Page) → length (items_of a p) ≡ min p.len (length a.found - p.first)
length_items a p = length-take p.len (drop p.first a.found) ∙ ap (min p.len) (length-drop p.first a.found)

last_is : (b : Bool) (from count first len found all given : ℕ)
    → 1 ≤ count → IsTrue b ↔ (first + len ≡ all)
    → first ≡ min from found → len ≡ min count (found - from) → given ≡ min len (found - first)
    → ((from + count + 1 ≤ found) × (given ≡ min count (all - from))) ⊎ (found ≡ all)
    → b ≡ leb all (from + given)
last_is b from count first len found all given pos ends f l g (inl more) =
    bool_iff b all (from + given) (λ t. omega (arith, pos, ends.0 t, f, l, g, more.0, more.1)) (λ t. ends.1 (omega (arith, pos, f, l, g, t, more.0, more.1)))
last_is b from count first len found all given pos ends f l g (inr whole) =
    bool_iff b all (from + given) (λ t. omega (arith, f, l, g, whole)) (λ t. ends.1 (omega (arith, f, l, g, whole)))

-- The page of a listing, with its items copied, is that of the listing's environment.
pub told : (from count : ℕ) (b a : Listed) (p : found.Page) (page : Page)
    → 1 ≤ count → IsListed a → IsPage from count b a p → (from + count + 1 ≤ length a.found) ⊎ (a.at_end ≡ true)
    → page.items ≡ items_of a p → page.last ≡ p.last → page.grown ≡ p.grown
    → IsPageOf a.parts from count page
told from count b a p page pos listed is enough items last grown =
    let given : length page.items ≡ min p.len (length a.found - p.first) = ap length items ∙ length_items a p in
    record {
      says = subst (All (IsItem a.parts)) (sym items) (All-take (IsItem a.parts) p.len (drop p.first a.found) (All-drop (IsItem a.parts) p.first a.found listed.items));
      slice = λ ws w. ap terms_of items ∙ is.slice ws w;
      ends = λ ws w.
          let sized : length page.items ≡ min count (length ws - from) =
          sym (length-map page.items term_of) ∙ ap length (ap terms_of items ∙ is.slice ws w) ∙ length-take count (drop from ws) ∙ ap (min count) (length-drop from ws) in
          last ∙ last_is p.last from count p.first p.len (length a.found) (length ws) (length page.items) pos (is.ends ws w) is.first is.len given (elim enough [
            | inl more ↦ inl (more, sized)
            | inr end ↦ inr (sym (length-map a.found term_of) ∙ ap length (one_whole a.parts (terms_of a.found) ws (listed.whole end) w))
          ]);
      bound = λ fs levels reach. subst (λ n. n ≤ length fs) (sym grown) (is.bound fs levels reach);
    }

-- The page ends below the number of items that no memory holds.
pub told_small : (from count : ℕ) (b a : Listed) (p : found.Page) (page : Page)
    → from < 2 ^ 62 → IsListed a → IsPage from count b a p → page.items ≡ items_of a p
    → from + length page.items < 2 ^ 62
told_small from count b a p page low listed is items =
    omega (arith, low, listed.small, is.first, is.len, ap length items ∙ length_items a p)

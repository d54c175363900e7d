-- The first page of a listing, as it is told.
use Rattle.std.proofs.Common.{◌≡◌, ◌∙◌, ◌↔◌, ℕ, ◌+◌, ◌≤◌, ◌<◌, Bool, true, false, IsTrue, List, length, drop, min, arith, refl, sym, ap, subst, ⊎_elim}
use Rattle.std.proofs.lemmas.Bool.{le-leb, false≢true}
use Rattle.std.proofs.lemmas.Bool.Decides.{leb_tells}
use Rattle.std.proofs.lemmas.List.{length-map, length-take, length-drop}
use Rattle.std.proofs.lemmas.List.Elements.{All-drop, All-take}
use Rattle.std.proofs.Math.Dec.{leb}
use Rattle.terms.specs.declared.parts.Parts.{Parts}
use Rattle.listing.specs.declared.page.Page as found
use Rattle.listing.specs.Found.{Listed, IsListed, IsItem, term_of}
use Rattle.listing.specs.Pages.{IsPage, items_of}
use Rattle.answers.specs.declared.types.Page.{Page}
use Rattle.answers.specs.Cursors.{IsPageOf}
use Rattle.samples.specs.Lines.{page_lines, ArePageLines}

abbrev told : Listed → found.Page → Page
told l p = record { items = items_of l p; last = p.last; grown = p.grown }

-- A Bool that stands exactly where two numbers are equal, of which the second is at most the first.
last_is : (b : Bool) (all given : ℕ) → IsTrue b ↔ (given ≡ all) → given ≤ all → b ≡ leb all given
last_is true all given h le = sym (le-leb all given (omega (arith, h.0 refl)))
last_is false all given h le = ⊎_elim
    (λ (t : (leb all given ≡ true) × (all ≤ given)). absurd (false≢true (h.1 (omega (arith, le, t.1)))))
    (λ (t : (leb all given ≡ false) × (given < all)). sym t.0) (leb_tells all given)

-- As many items as the page says.
length_items : (count : ℕ) (b a : Listed) (p : found.Page) → IsPage 0 count b a p → length (items_of a p) ≡ p.first + p.len
length_items count b a p is =
    omega (arith, length-take p.len (drop p.first a.found), length-drop p.first a.found, is.first, is.len)

pub first_page : (count : ℕ) (b a : Listed) (p : found.Page) → IsListed a → IsPage 0 count b a p → IsPageOf a.parts 0 count (told a p)
first_page count b a p listed is =
    let given : length (items_of a p) ≡ p.first + p.len = length_items count b a p is in
    record {
      says = All-take (IsItem a.parts) p.len (drop p.first a.found) (All-drop (IsItem a.parts) p.first a.found listed.items);
      slice = is.slice;
      ends = λ ws w.
          let sized : length (items_of a p) ≡ min count (length ws) =
          sym (length-map (items_of a p) term_of) ∙ ap length (is.slice ws w) ∙ length-take count (drop 0 ws) in
          let here : p.first + p.len ≡ 0 + length (items_of a p) = omega (arith, given) in
          last_is p.last (length ws) (0 + length (items_of a p)) (subst (λ n. IsTrue p.last ↔ (n ≡ length ws)) here (is.ends ws w)) (omega (arith, sized));
      bound = is.bound;
    }

-- The lines that are told of it.
pub lines_told : (env : Parts) (count : ℕ) (b a : Listed) (p : found.Page) (lines : List ℕ) → count ≡ 100 → a.parts ≡ env → IsListed a → IsPage 0 count b a p
    → lines ≡ page_lines (items_of a p) p.last → ArePageLines env lines
lines_told env count b a p lines hundred same listed is e = record {
  page = told a p;
  first = subst (λ n. IsPageOf env 0 n (told a p)) hundred (subst (λ g. IsPageOf g 0 count (told a p)) same (first_page count b a p listed is));
  told = e;
}

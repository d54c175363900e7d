-- The lines of a list, page by page.
use Rattle.std.proofs.Common.{◌≡◌, ℕ, ◌+◌, ◌-◌, ◌≤◌, ◌<◌, List, [], ◌∷◌, ◌++◌, take, drop, length, min, Option, Some, None, Result, Ok, Err, sym, ap, subst, refl, ◌∙◌, append_assoc, append-nil, arith, length-append, length-drop, get_or}
use Rattle.std.specs.Prelude.{OnErr, All, IsTrue}
use Rattle.std.specs.List.{flat_map, AllByRecursion}
use Rattle.std.specs.Io.KnownBytes.{Appends}
use Rattle.std.proofs.lemmas.List.{take_all, take-append-drop, take-append-le, take_more, length-take, length-map}
use Rattle.std.proofs.lemmas.List.Elements.{recursion_from_All, All-take, All-drop}
use Rattle.std.proofs.Math.Seq.{take-add, take-append_seam}
use Rattle.outside.specs.Gathered.{Gathered, WrotePrefix}
use Rattle.listing.specs.declared.item.Item.{Item}
use Rattle.listing.specs.declared.page.Page.{Page}
use Rattle.listing.specs.Found.{Listed, IsListed, term_of, terms_of, IsItem}
use Rattle.listing.specs.Pages.{IsPage, items_of}
use Rattle.terms.specs.Expr.{Expr}
use Rattle.terms.specs.Listing.{IsWhole}
use Rattle.terms.specs.declared.parts.Parts.{Parts}
use Rattle.terms.proofs.Lists.{one_whole}
use Rattle.std.proofs.lemmas.Grind.{flat_map-append}
use Rattle.serving.specs.Runs.{line_text, list_text, item_text, items_text, HasGiven, HasWritten}

-- what holds anyhow
pub on_err : {T E : Type 0} (result : Result T E) {P : Type 0} → P → OnErr result P
on_err (Ok x) p = tt
on_err (Err e) p = p

nothing : (a : Option (List ℕ)) → Appends a a []
nothing None = tt
nothing (Some xs) = sym (append-nil xs)

-- nothing was written yet
pub prefix-none : (a : Option (List ℕ)) (all : List ℕ) → WrotePrefix a a all
prefix-none a all = record {
  count = 0;
  within = omega arith;
  wrote = nothing a;
}

pub gathered-none : (a : Option (List ℕ)) → Gathered a a [] []
gathered-none a = record {
  handed = [];
  wrote = nothing a;
  whole = refl;
}

-- a prefix of a prefix
pub prefix-more : (start now : Option (List ℕ)) (all more : List ℕ) → WrotePrefix start now all → WrotePrefix start now (all ++ more)
prefix-more start now all more w = record {
  count = w.count;
  within = omega (arith, w.within, length-append all more);
  wrote = rw (take-append-le w.count all more w.within) w.wrote;
}

-- what was handed over is a prefix
pub prefix-handed : (start now : Option (List ℕ)) (held all : List ℕ) → Gathered start now held all → WrotePrefix start now all
prefix-handed start now held all g = record {
  count = length g.handed;
  within = omega (arith, ap length g.whole, length-append g.handed held);
  wrote = rw (sym g.whole, take-append_seam g.handed held) g.wrote;
}

flat-one : {X : Type 0} (f : X → List ℕ) (x : X) → flat_map f (x ∷ []) ≡ f x
flat-one f x = append-nil (f x)

-- the lines of the first items, and of one more
pub items-more : (is : List Item) (i : Item) (all : List ℕ) → all ++ items_text is ++ item_text i ≡ all ++ items_text (is ++ i ∷ [])
items-more is i all = append_assoc all (items_text is) (item_text i) ∙ ap (λ t. all ++ t) (ap (λ t. items_text is ++ t) (sym (flat-one item_text i)) ∙ sym (flat_map-append item_text is (i ∷ [])))

items-rec : (g : Parts) (is : List Item) → AllByRecursion (IsItem g) is → items_text is ≡ list_text g (terms_of is)
items-rec g [] r = refl
items-rec g (i ∷ is) r = rw (r.0.weight, r.0.text, items-rec g is r.1) refl

-- the lines of items are those of their terms
items-are : (g : Parts) (is : List Item) → All (IsItem g) is → items_text is ≡ list_text g (terms_of is)
items-are g is all = items-rec g is (recursion_from_All (IsItem g) is all)

pub given-none : (g : Parts) (w : Option (List ℕ)) (h : List ℕ) → HasGiven g 0 w w h h
given-none g w h = record {
  given = [];
  prefix = λ list whole. refl;
  gathered = λ start all gathered. subst (λ t. Gathered start w h t) (sym (append-nil all)) gathered;
}

short : (xs ys : List Expr) (count len : ℕ) → ys ≡ take count xs → length ys ≡ len → take len xs ≡ ys
short xs ys count len is l =
    let split : xs ≡ ys ++ drop count xs = sym (take-append-drop count xs) ∙ ap (λ t. t ++ drop count xs) (sym is) in
    ap (take len) split ∙ ap (λ n. take n (ys ++ drop count xs)) (sym l) ∙ take-append_seam ys (drop count xs)

-- one page more was given out
pub given-more : (g : Parts) (from count len : ℕ) (w0 w1 w2 : Option (List ℕ)) (h0 h1 h2 : List ℕ) (page : List Item) → HasGiven g from w0 w1 h0 h1 → All (IsItem g) page → ((list : List Expr) → IsWhole g list → terms_of page ≡ take count (drop from list)) → length page ≡ len
    → ((start : Option (List ℕ)) (all : List ℕ) → Gathered start w1 h1 all → Gathered start w2 h2 (all ++ items_text page)) → HasGiven g (from + len) w0 w2 h0 h2
given-more g from count len w0 w1 w2 h0 h1 h2 page given items slice l put =
    let long : length (terms_of page) ≡ len = length-map page term_of ∙ l in
    let lines : (all : List ℕ) → all ++ list_text g given.given ++ items_text page ≡ all ++ list_text g (given.given ++ terms_of page) = λ all.
    append_assoc all (list_text g given.given) (items_text page)
    ∙ ap (λ t. all ++ t) (ap (λ t. list_text g given.given ++ t) (items-are g page items) ∙ sym (flat_map-append (line_text g) given.given (terms_of page))) in
    record {
      given = given.given ++ terms_of page;
      prefix = λ list whole.
          ap (λ t. t ++ terms_of page) (given.prefix list whole)
          ∙ ap (λ t. take from list ++ t) (sym (short (drop from list) (terms_of page) count len (slice list whole) long))
          ∙ sym (take-add from len list);
      gathered = λ start all gathered. subst (λ t. Gathered start w2 h2 t) (lines all) (put start (all ++ list_text g given.given) (given.gathered start all gathered));
    }

-- a prefix of the lines of a prefix
prefix-whole : (start w : Option (List ℕ)) (g : Parts) (all : List ℕ) (es rest list : List Expr) → es ++ rest ≡ list → WrotePrefix start w (all ++ list_text g es) → WrotePrefix start w (all ++ list_text g list)
prefix-whole start w g all es rest list e f =
    let lines : all ++ list_text g es ++ list_text g rest ≡ all ++ list_text g list =
    append_assoc all (list_text g es) (list_text g rest) ∙ ap (λ t. all ++ t) (sym (flat_map-append (line_text g) es rest) ∙ ap (list_text g) e) in
    subst (λ t. WrotePrefix start w t) lines (prefix-more start w (all ++ list_text g es) (list_text g rest) f)

-- where it stops between two pages a prefix of the list was written
pub given-prefix : (g : Parts) (from : ℕ) (w0 w1 : Option (List ℕ)) (h0 h1 : List ℕ) → HasGiven g from w0 w1 h0 h1 → (list : List Expr) → IsWhole g list → (start : Option (List ℕ)) (all : List ℕ) → Gathered start w0 h0 all → WrotePrefix start w1 (all ++ list_text g list)
given-prefix g from w0 w1 h0 h1 given list whole start all gathered =
    prefix-whole start w1 g all given.given (drop from list) list
    (ap (λ t. t ++ drop from list) (given.prefix list whole) ∙ take-append-drop from list)
    (prefix-handed start w1 h1 (all ++ list_text g given.given) (given.gathered start all gathered))

-- and so it is where it stops within a page
pub page-prefix : (g : Parts) (from count : ℕ) (w0 w1 w2 : Option (List ℕ)) (h0 h1 : List ℕ) (page : List Item) → HasGiven g from w0 w1 h0 h1 → All (IsItem g) page → ((list : List Expr) → IsWhole g list → terms_of page ≡ take count (drop from list))
    → ((start : Option (List ℕ)) (all : List ℕ) → Gathered start w1 h1 all → WrotePrefix start w2 (all ++ items_text page)) → (list : List Expr) → IsWhole g list → (start : Option (List ℕ)) (all : List ℕ) → Gathered start w0 h0 all → WrotePrefix start w2 (all ++ list_text g list)
page-prefix g from count w0 w1 w2 h0 h1 page given items slice put list whole start all gathered =
    let es = given.given ++ terms_of page in
    let lines : all ++ list_text g given.given ++ items_text page ≡ all ++ list_text g es =
    append_assoc all (list_text g given.given) (items_text page)
    ∙ ap (λ t. all ++ t) (ap (λ t. list_text g given.given ++ t) (items-are g page items) ∙ sym (flat_map-append (line_text g) given.given (terms_of page))) in
    let rest = drop count (drop from list) in
    let split : es ++ rest ≡ list =
    append_assoc given.given (terms_of page) rest
    ∙ ap (λ t. given.given ++ t) (ap (λ t. t ++ rest) (slice list whole) ∙ take-append-drop count (drop from list))
    ∙ ap (λ t. t ++ drop from list) (given.prefix list whole)
    ∙ take-append-drop from list in
    prefix-whole start w2 g all es rest list split (subst (λ t. WrotePrefix start w2 t) lines (put start (all ++ list_text g given.given) (given.gathered start all gathered)))

-- all of the list was given out
pub given-all : (g : Parts) (from : ℕ) (list : List Expr) (w0 w1 : Option (List ℕ)) (h0 h1 : List ℕ) → HasGiven g from w0 w1 h0 h1 → IsWhole g list → length list ≤ from → (list : List Expr) × IsWhole g list × ((start : Option (List ℕ)) → (all : List ℕ) → Gathered start w0 h0 all → Gathered start w1 h1 (all ++ list_text g list))
given-all g from list w0 w1 h0 h1 given whole l =
    let all_is : given.given ≡ list = given.prefix list whole ∙ take_all from list l in
    (list, whole, λ start all gathered. subst (λ es. Gathered start w1 h1 (all ++ list_text g es)) all_is (given.gathered start all gathered))

-- one line more of some items
pub items-step : (is : List Item) (n : ℕ) (d : Item) (line all : List ℕ) → n < length is → line ≡ item_text (get_or is n d) → all ++ items_text (take n is) ++ line ≡ all ++ items_text (take (n + 1) is)
items-step is n d line all l e =
    ap (λ t. all ++ items_text (take n is) ++ t) e
    ∙ items-more (take n is) (get_or is n d) all
    ∙ ap (λ xs. all ++ items_text xs) (sym (take_more is n d l))

-- a prefix of the lines of the first items is one of the lines of all
pub items-prefix : (start w : Option (List ℕ)) (is : List Item) (n : ℕ) (all : List ℕ) → WrotePrefix start w (all ++ items_text (take n is)) → WrotePrefix start w (all ++ items_text is)
items-prefix start w is n all f =
    let lines : all ++ items_text (take n is) ++ items_text (drop n is) ≡ all ++ items_text is =
    append_assoc all (items_text (take n is)) (items_text (drop n is))
    ∙ ap (λ t. all ++ t) (sym (flat_map-append item_text (take n is) (drop n is)) ∙ ap items_text (take-append-drop n is)) in
    subst (λ t. WrotePrefix start w t) lines (prefix-more start w (all ++ items_text (take n is)) (items_text (drop n is)) f)

-- the page of a listing: how long it is, and that it lies within what is found
pub page-within : (from count found first len : ℕ) → first ≡ min from found → len ≡ min count (found - from) → first + len ≤ found
page-within from count found first len e f = omega (arith, e, f)

pub page-length : (is : List Item) (from count first len : ℕ) → first ≡ min from (length is) → len ≡ min count (length is - from) → length (take len (drop first is)) ≡ len
page-length is from count first len e f = length-take len (drop first is) ∙ omega (arith, e, f, length-drop first is)

pub page-end : (found : List Item) (from first len : ℕ) → first ≡ min from (length found) → first + len ≡ length found → length (terms_of found) ≤ from + len
page-end found from first len e f = omega (arith, e, f, length-map found term_of)

-- the items of a page say what their terms are
pub page-items : (g : Parts) (found : List Item) (first len : ℕ) → All (IsItem g) found → All (IsItem g) (take len (drop first found))
page-items g found first len all = All-take (IsItem g) len (drop first found) (All-drop (IsItem g) first found all)

-- what a page of a listing holds
pub page-holds : (p : Parts) (from : ℕ) (before after : Listed) (page : Page) (is : List Item) → IsListed after → after.parts ≡ p → IsPage from 1000 before after page → is ≡ items_of after page → All (IsItem p) is × ((list : List Expr) → IsWhole p list → terms_of is ≡ take 1000 (drop from list)) × (length is ≡ page.len)
page-holds p from before after page is listed e told same =
    let said = page-items after.parts after.found page.first page.len listed.items in (
      subst (λ q. All (IsItem q) is) e (subst (λ xs. All (IsItem after.parts) xs) (sym same) said),
      λ list whole. ap terms_of same ∙ told.slice list (subst (λ q. IsWhole q list) (sym e) whole),
      ap length same ∙ page-length after.found from 1000 page.first page.len told.first told.len,
    )

-- and where the list ends with it
pub page-last : (p : Parts) (from : ℕ) (before after : Listed) (page : Page) → after.parts ≡ p → IsPage from 1000 before after page → IsTrue page.last → IsWhole p (terms_of after.found) × (length (terms_of after.found) ≤ from + page.len)
page-last p from before after page e told last =
    let end = told.last.0 last in
    (subst (λ q. IsWhole q (terms_of after.found)) e end.0, page-end after.found from page.first page.len told.first end.1)

-- three pieces, one after the other
pub joined : (weight text : List ℕ) → weight ++ 32 ∷ [] ++ text ≡ weight ++ 32 ∷ text
joined weight text = append_assoc weight (32 ∷ []) text

pub ruleset joins = (joined)

held-none : (w : Option (List ℕ)) (h : List ℕ) → h ≡ [] → Gathered w w h []
held-none w h is = subst (λ x. Gathered w w x []) (sym is) (gathered-none w)

-- a list that was written up to a fault, from nothing on
pub list-prefix : (g p : Parts) (w0 w1 : Option (List ℕ)) (h : List ℕ) → p ≡ g → h ≡ [] → ((list : List Expr) → IsWhole p list → (start : Option (List ℕ)) (all : List ℕ) → Gathered start w0 h all → WrotePrefix start w1 (all ++ list_text p list)) → (list : List Expr) → IsWhole g list → WrotePrefix w0 w1 (list_text g list)
list-prefix g p w0 w1 h e is f =
    let P : Parts → Type 0 = λ q. (list : List Expr) → IsWhole q list → WrotePrefix w0 w1 (list_text q list) in
    subst P e (λ list whole. f list whole w0 [] (held-none w0 h is))

-- the list went through the gathering, and all that was held was handed over up to a fault
pub flush-prefix : (g p : Parts) (w0 w1 w2 : Option (List ℕ)) (h0 h1 : List ℕ) → p ≡ g → h0 ≡ [] → (list : List Expr) × IsWhole p list × ((start : Option (List ℕ)) → (all : List ℕ) → Gathered start w0 h0 all → Gathered start w1 h1 (all ++ list_text p list)) → ((start : Option (List ℕ)) (all : List ℕ) → Gathered start w1 h1 all → WrotePrefix start w2 all) → (list : List Expr) → IsWhole g list → WrotePrefix w0 w2 (list_text g list)
flush-prefix g p w0 w1 w2 h0 h1 e is put flush =
    let P : Parts → Type 0 = λ q. (list : List Expr) → IsWhole q list → WrotePrefix w0 w2 (list_text q list) in
    let prefix = flush w0 (list_text p put.0) (put.2 w0 [] (held-none w0 h0 is)) in
    subst P e (λ list whole. subst (λ es. WrotePrefix w0 w2 (list_text p es)) (one_whole p put.0 list put.1 whole) prefix)

-- and all of it was handed over
pub list-written : (g p : Parts) (w0 w1 w2 : Option (List ℕ)) (h0 h1 : List ℕ) → p ≡ g → h0 ≡ [] → (list : List Expr) × IsWhole p list × ((start : Option (List ℕ)) → (all : List ℕ) → Gathered start w0 h0 all → Gathered start w1 h1 (all ++ list_text p list)) → ((start : Option (List ℕ)) (all : List ℕ) → Gathered start w1 h1 all → Appends start w2 all) → HasWritten g w0 w2
list-written g p w0 w1 w2 h0 h1 e is put flush =
    let P : Parts → Type 0 = λ q. HasWritten q w0 w2 in
    subst P e (record {
      list = put.0;
      whole = put.1;
      wrote = flush w0 (list_text p put.0) (put.2 w0 [] (held-none w0 h0 is));
    })

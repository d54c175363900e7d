-- How an item of a list, and a list, are explained.
use Rattle.std.proofs.Common.{◌≡◌, ◌∙◌, ℕ, zero, suc, sym, ap, subst, refl, true, false, Bool, List, [], ◌∷◌, map, take, drop, All, Option, Some, None, Result, Ok, Err, Vec, Global}
use Rattle.std.specs.Prelude.{IfOk, if◌then◌else◌, leb, slice_get, option_map}
use Rattle.std.specs.declared.alloc.AllocError.{AllocError}
use Rattle.std.proofs.lemmas.Bool.{true≢false}
use Rattle.std.proofs.lemmas.List.Elements.{All-get_or}
use Rattle.std.proofs.lemmas.Option.{slice_get_within, get_or_from_slice_get}
use Rattle.serde_json.specs.Data.{Data}
use Rattle.serde_json.specs.View.{items_of}
use Rattle.serde_json.specs.Written.{has_float, items_have_float}
use Rattle.json_rpc.specs.declared.message.Id.{Id}
use Rattle.terms.specs.declared.parts.Parts.{Parts}
use Rattle.terms.specs.Expr.{Expr}
use Rattle.terms.specs.Faults.{IsValid}
use Rattle.terms.specs.Listing.{IsWhole}
use Rattle.terms.specs.Place.{IsInhabitant, total_of}
use Rattle.terms.specs.Weights.{usual_steps}
use Rattle.terms.proofs.Sorting.{has_whole}
use Rattle.checker.specs.declared.row.Row.{Row}
use Rattle.checker.specs.declared.floor.Floor.{Floor}
use Rattle.checker.specs.Rows.{rows_of}
use Rattle.checker.specs.Floors.{FloorsHold}
use Rattle.certificates.specs.Floors.{first_total}
use Rattle.listing.specs.declared.item.Item.{Item}
use Rattle.listing.specs.Found.{term_of, terms_of, IsItem}
use Rattle.lsp_forms.specs.Results.{whole_number}
use Rattle.lsp_forms.specs.Certificates.{row_answer, rows_answer, floor_answer, floors_answer}
use Rattle.answers.specs.declared.types.Page.{Page}
use Rattle.answers.specs.declared.types.Cursor.{Cursor}
use Rattle.answers.specs.Cursors.{Lists, IsPageOf, look}
use Rattle.answers.specs.Certificates.{spelled, bounded, IsItemAt, AreFloorsOf, first_floor, certificate_data}
use Rattle.answers.specs.Asks.{explain, Enough, Met, classes, quiet, explained, spelled_or, item_explained, explained_by, explained_in}
use Rattle.answers.specs.Failures.{invalid_params}
use Rattle.answers.specs.Replies.{reply_text, reply_of, result, failure, not_explained}
use Rattle.sessions.specs.Kept.{StandsAt}
use Rattle.sessions.specs.Worlds.{WorldState}
use Rattle.sessions.specs.Explained.{spelled_reply, item_reply, IsItemTold, AreFloorsTold}
use Rattle.sessions.specs.Questions.{Answers, Leaves}
use Rattle.sessions.proofs.KeptCursors.{look_at}

-- What holds of all holds of the one at a place.
all_at : {X : Type 0} (P : X → Type 0) (xs : List X) (i : ℕ) (x : X) → All P xs → slice_get xs i ≡ Some x → P x
all_at P xs i x all is = subst P (get_or_from_slice_get xs i x x is) (All-get_or P xs i x (slice_get_within xs i x is) all)

-- Certificates hold no float.
rows_items_whole : (rows : List Row) → items_have_float (items_of (map row_answer rows)) ≡ false
rows_items_whole [] = refl
rows_items_whole (r ∷ rows) = rows_items_whole rows

pub rows_whole : (rows : List Row) (w : ℕ) → has_float (rows_answer rows w) ≡ false
rows_whole rows w = rw (rows_items_whole rows) refl

set_whole : (set : List ℕ) → items_have_float (items_of (map whole_number set)) ≡ false
set_whole [] = refl
set_whole (a ∷ set) = set_whole set

floors_items_whole : (floors : List Floor) → items_have_float (items_of (map floor_answer floors)) ≡ false
floors_items_whole [] = refl
floors_items_whole (f ∷ floors) = rw (set_whole f.set) (floors_items_whole floors)

pub floors_whole : (floors : List Floor) (w : ℕ) → has_float (floors_answer floors w) ≡ false
floors_whole floors w = rw (floors_items_whole floors) refl

pub rows_value_whole : (v : Data) (rows : List Row) (w : ℕ) → v ≡ rows_answer rows w → has_float v ≡ false
rows_value_whole v rows w is = ap has_float is ∙ rows_whole rows w

pub floors_value_whole : (v : Data) (floors : List Floor) (w : ℕ) → v ≡ floors_answer floors w → has_float v ≡ false
floors_value_whole v floors w is = ap has_float is ∙ floors_whole floors w

-- The rows of an item are its certificate.
pub rows_told : (g : Parts) (id : Id) (i : Item) (v : Data) (rows : List Row) (body : List ℕ) → v ≡ rows_answer rows i.weight → rows ≡ rows_of g [] (term_of i) → IsItem g i → body ≡ reply_text (Some id) (result v)
    → body ≡ reply_text (Some id) (result (certificate_data g (spelled (term_of i))))
rows_told g id i v rows body is spells says told =
    told ∙ ap (λ d. reply_text (Some id) (result d)) (is ∙ ap (λ x. rows_answer x i.weight) spells ∙ ap (rows_answer (rows_of g [] (term_of i))) says.weight)

-- Floors that hold, by what their call says of them.
pub floors_told : (c : Cursor) (id : Id) (floors : List Floor) (v : Data) (reply : List ℕ) → (w : ℕ) × FloorsHold c.env floors w → ((w : ℕ) (ws : List Expr) → FloorsHold c.env floors w → IsWhole c.env ws → w ≡ first_total c.env ws)
    → v ≡ floors_answer floors (first_floor floors) → reply ≡ reply_text (Some id) (result v) → AreFloorsTold c id reply
floors_told c id floors v reply hold first is told = record {
  floors = floors;
  hold = record { least = hold.0; hold = hold.1; first = λ ws w. first hold.0 ws hold.1 w };
  told = told ∙ ap (λ d. reply_text (Some id) (result d)) is;
}

-- The item at a place is the first of what begins there.
begins : (i : ℕ) (ws : List Expr) → slice_get (take 1 (drop i ws)) 0 ≡ slice_get ws i
begins zero [] = refl
begins zero (w ∷ ws) = refl
begins (suc i) [] = refl
begins (suc i) (w ∷ ws) = begins i ws

first_term : (items : List Item) → slice_get (terms_of items) 0 ≡ option_map term_of (slice_get items 0)
first_term [] = refl
first_term (x ∷ items) = refl

-- A page of one item is the item at its place, or none.
page_term : (g : Parts) (i : ℕ) (p : Page) (o : Option Item) → IsPageOf g i 1 p → slice_get p.items 0 ≡ o → IsItemAt g i (option_map term_of o)
page_term g i p o page is = λ ws whole.
    ap (option_map term_of) (sym is) ∙ sym (first_term p.items) ∙ ap (λ es. slice_get es 0) (page.slice ws whole) ∙ begins i ws

-- The item of a page is an inhabitant.
pub item_inhabits : (g : Parts) (i : ℕ) (p : Page) (x : Item) → IsValid g → IsPageOf g i 1 p → slice_get p.items 0 ≡ Some x → IsInhabitant g (term_of x)
item_inhabits g i p x valid page is =
    let (ws, whole) = has_whole g valid in
    all_at (IsInhabitant g) ws i (term_of x) whole.front.members (sym (page_term g i p (Some x) page is ws whole))

pub item_says : (g : Parts) (i : ℕ) (p : Page) (x : Item) → IsPageOf g i 1 p → slice_get p.items 0 ≡ Some x → IsItem g x
item_says g i p x page is = all_at (IsItem g) p.items 0 x page.says is

-- The two cases of an item, in the answer and in the reply.
low_explained : (l : Lists) (m : Met) (c : Cursor) (i : ℕ) → leb c.answered i ≡ true → item_explained l m c i ≡ (l, quiet)
unfolding item_explained
low_explained l m c i e = rw e refl

high_explained : (l : Lists) (m : Met) (c : Cursor) (i : ℕ) → leb c.answered i ≡ false → item_explained l m c i ≡ spelled_or l c m.term
unfolding item_explained
high_explained l m c i e = rw e refl

low_reply : (c : Cursor) (i : ℕ) (o : Option Expr) → leb c.answered i ≡ true → item_reply c i o ≡ failure (invalid_params 20 0)
unfolding item_reply
low_reply c i o e = rw e refl

high_reply : (c : Cursor) (i : ℕ) (o : Option Expr) → leb c.answered i ≡ false → item_reply c i o ≡ spelled_reply c o
unfolding item_reply
high_reply c i o e = rw e refl

-- The replies about an item.
item_low : (c : Cursor) (i : ℕ) (id : Id) (reply : List ℕ) → leb c.answered i ≡ true → reply ≡ reply_text (Some id) (failure (invalid_params 20 0)) → IsItemTold c i id reply
item_low c i id reply e told = record { term = None; there = λ f. absurd (true≢false (sym e ∙ f)); told = told ∙ ap (reply_text (Some id)) (sym (low_reply c i None e)) }

item_none : (c : Cursor) (i : ℕ) (id : Id) (p : Page) (reply : List ℕ) → leb c.answered i ≡ false → IsPageOf c.env i 1 p → slice_get p.items 0 ≡ None → reply ≡ reply_text (Some id) (failure (invalid_params 20 0)) → IsItemTold c i id reply
item_none c i id p reply e page is told = record { term = None; there = λ f. page_term c.env i p None page is; told = told ∙ ap (reply_text (Some id)) (sym (high_reply c i None e)) }

item_some : (c : Cursor) (i : ℕ) (id : Id) (p : Page) (x : Item) (reply : List ℕ) → leb c.answered i ≡ false → IsPageOf c.env i 1 p → slice_get p.items 0 ≡ Some x
    → reply ≡ reply_text (Some id) (result (certificate_data c.env (spelled (term_of x)))) → IsItemTold c i id reply
item_some c i id p x reply e page is told = record { term = Some (term_of x); there = λ f. page_term c.env i p (Some x) page is; told = told ∙ ap (reply_text (Some id)) (sym (high_reply c i (Some (term_of x)) e)) }

pub item_low_by : (c : Cursor) (i : ℕ) (id : Id) (r : Result (Vec ℕ Global) AllocError) → leb c.answered i ≡ true → IfOk r (λ b. b.items ≡ reply_text (Some id) (failure (invalid_params 20 0))) → IfOk r (λ b. IsItemTold c i id b.items)
item_low_by c i id (Ok b) e told = item_low c i id b.items e told
item_low_by c i id (Err x) e told = tt

pub item_none_by : (c : Cursor) (i : ℕ) (id : Id) (p : Page) (r : Result (Vec ℕ Global) AllocError) → leb c.answered i ≡ false → IsPageOf c.env i 1 p → slice_get p.items 0 ≡ None
    → IfOk r (λ b. b.items ≡ reply_text (Some id) (failure (invalid_params 20 0))) → IfOk r (λ b. IsItemTold c i id b.items)
item_none_by c i id p (Ok b) e page is told = item_none c i id p b.items e page is told
item_none_by c i id p (Err x) e page is told = tt

pub item_some_by : (c : Cursor) (i : ℕ) (id : Id) (p : Page) (x : Item) (r : Result (Vec ℕ Global) AllocError) → leb c.answered i ≡ false → IsPageOf c.env i 1 p → slice_get p.items 0 ≡ Some x
    → IfOk r (λ b. b.items ≡ reply_text (Some id) (result (certificate_data c.env (spelled (term_of x))))) → IfOk r (λ b. IsItemTold c i id b.items)
item_some_by c i id p x (Ok b) e page is told = item_some c i id p x b.items e page is told
item_some_by c i id p x (Err y) e page is told = tt

-- What an explanation meets of the world: nothing.
abbrev met_term : Option Expr → List Floor → Met
met_term term floors = record { at = []; loads = classes []; site = None; env = record { types = []; pairs = []; decls = []; goal = 0; limit = 0; depth = 0; binder = []; steps = usual_steps }; page = record { items = []; last = false; grown = 0 }; term = term; floors = floors; fault = None; short = Enough }

some_same : (c d : Cursor) → Some c ≡ Some d → c ≡ d
some_same c d e = cc

nothing_here : {P : Type 0} (c : Cursor) → None ≡ Some c → P
nothing_here c e = absurd cc

-- A cursor that isn't kept.
not_kept : (l : Lists) (id : Id) (k : ℕ) (item : Option ℕ) (reply : List ℕ) (old new : WorldState)
    → look k l.cursors ≡ None → reply ≡ reply_text (Some id) (failure (invalid_params 6 0)) → new ≡ old → Answers l (explain k item) id l reply old new
not_kept l id k item reply old new none told same =
    let met : Met = met_term None [] in
    let answer : explained_in l met item (look k l.cursors) ≡ (l, quiet) = ap (explained_in l met item) none in
    record {
      met = met;
      enough = refl;
      no_file = refl;
      lawful = λ c e. nothing_here c (sym none ∙ e);
      lists = ap (λ q. q.0) answer;
      told = ap (λ q. reply_text (Some id) (reply_of l met (explain k item) q.1)) answer ∙ ap (λ o. reply_text (Some id) (not_explained o)) none ∙ sym told;
      leaves = subst (λ q. Leaves q.1 [] [] old new) (sym answer) same;
    }

-- What a list answers, and the reply that tells it, by the term.
record Tells (l : Lists) (m : Met) (c : Cursor) (i : ℕ) (id : Id) (k : ℕ) (old new : WorldState) : Type 0 where
  lists : (item_explained l m c i).0 ≡ l
  told : reply_text (Some id) (reply_of l m (explain k (Some i)) (item_explained l m c i).1) ≡ reply_text (Some id) (item_reply c i m.term)
  leaves : Leaves (item_explained l m c i).1 [] [] old new

-- Nothing is told of the list.
tells_none : (l : Lists) (m : Met) (c : Cursor) (i k : ℕ) (id : Id) (old new : WorldState) → look k l.cursors ≡ Some c → new ≡ old → item_explained l m c i ≡ (l, quiet) → item_reply c i m.term ≡ failure (invalid_params 20 0) → Tells l m c i id k old new
tells_none l m c i k id old new is same quietly reply = record {
  lists = ap (λ q. q.0) quietly;
  told = ap (λ q. reply_text (Some id) (reply_of l m (explain k (Some i)) q.1)) quietly ∙ ap (λ o. reply_text (Some id) (not_explained o)) is ∙ ap (reply_text (Some id)) (sym reply);
  leaves = subst (λ q. Leaves q.1 [] [] old new) (sym quietly) same;
}

tells_term : (l : Lists) (m : Met) (c : Cursor) (i k : ℕ) (id : Id) (old new : WorldState) (o : Option Expr) → m.term ≡ o → look k l.cursors ≡ Some c → new ≡ old → leb c.answered i ≡ false → Tells l m c i id k old new
tells_term l m c i k id old new None term is same e =
    tells_none l m c i k id old new is same (high_explained l m c i e ∙ ap (spelled_or l c) term) (high_reply c i m.term e ∙ ap (spelled_reply c) term)
tells_term l m c i k id old new (Some x) term is same e =
    let answer : item_explained l m c i ≡ (l, explained c (spelled x)) = high_explained l m c i e ∙ ap (spelled_or l c) term in
    let reply : item_reply c i m.term ≡ result (certificate_data c.env (spelled x)) = high_reply c i m.term e ∙ ap (spelled_reply c) term in
    record {
      lists = ap (λ q. q.0) answer;
      told = ap (λ q. reply_text (Some id) (reply_of l m (explain k (Some i)) q.1)) answer ∙ ap (reply_text (Some id)) (sym reply);
      leaves = subst (λ q. Leaves q.1 [] [] old new) (sym answer) same;
    }

tells : (l : Lists) (m : Met) (c : Cursor) (i k : ℕ) (id : Id) (old new : WorldState) (b : Bool) → leb c.answered i ≡ b → look k l.cursors ≡ Some c → new ≡ old → Tells l m c i id k old new
tells l m c i k id old new true e is same = tells_none l m c i k id old new is same (low_explained l m c i e) (low_reply c i m.term e)
tells l m c i k id old new false e is same = tells_term l m c i k id old new m.term refl is same e

-- An item of a cursor.
explains_item : (l : Lists) (id : Id) (k place i : ℕ) (c : Cursor) (reply : List ℕ) (old new : WorldState)
    → StandsAt l.cursors k place → slice_get l.cursors place ≡ Some c → IsItemTold c i id reply → new ≡ old → Answers l (explain k (Some i)) id l reply old new
explains_item l id k place i c reply old new stands at told same =
    let met : Met = met_term told.term [] in
    let here : look k l.cursors ≡ Some c = look_at k place l.cursors c stands at in
    let answer : explained_in l met (Some i) (look k l.cursors) ≡ item_explained l met c i = ap (explained_in l met (Some i)) here in
    let so = tells l met c i k id old new (leb c.answered i) refl here same in
    record {
      met = met;
      enough = refl;
      no_file = refl;
      lawful = λ d e low. subst (λ (x : Cursor). IsItemAt x.env i told.term) (some_same c d (sym here ∙ e)) (told.there (ap (λ (x : Cursor). leb x.answered i) (some_same c d (sym here ∙ e)) ∙ low));
      lists = ap (λ q. q.0) answer ∙ so.lists;
      told = ap (λ q. reply_text (Some id) (reply_of l met (explain k (Some i)) q.1)) answer ∙ so.told ∙ sym told.told;
      leaves = subst (λ q. Leaves q.1 [] [] old new) (sym answer) so.leaves;
    }

-- The list of a cursor.
explains_list : (l : Lists) (id : Id) (k place : ℕ) (c : Cursor) (reply : List ℕ) (old new : WorldState)
    → StandsAt l.cursors k place → slice_get l.cursors place ≡ Some c → AreFloorsTold c id reply → new ≡ old → Answers l (explain k None) id l reply old new
explains_list l id k place c reply old new stands at told same =
    let met : Met = met_term None told.floors in
    let here : look k l.cursors ≡ Some c = look_at k place l.cursors c stands at in
    let answer : explained_in l met None (look k l.cursors) ≡ (l, explained c (bounded told.floors)) = ap (explained_in l met None) here in
    record {
      met = met;
      enough = refl;
      no_file = refl;
      lawful = λ d e. subst (λ (x : Cursor). AreFloorsOf x.env told.floors) (some_same c d (sym here ∙ e)) told.hold;
      lists = ap (λ q. q.0) answer;
      told = ap (λ q. reply_text (Some id) (reply_of l met (explain k None) q.1)) answer ∙ sym told.told;
      leaves = subst (λ q. Leaves q.1 [] [] old new) (sym answer) same;
    }

-- The same by what the calls give.
pub not_kept_by : (l : Lists) (id : Id) (k : ℕ) (item : Option ℕ) (r : Result (Vec ℕ Global) AllocError) (old new : WorldState)
    → look k l.cursors ≡ None → IfOk r (λ b. b.items ≡ reply_text (Some id) (failure (invalid_params 6 0))) → new ≡ old → IfOk r (λ b. Answers l (explain k item) id l b.items old new)
not_kept_by l id k item (Ok b) old new none told same = not_kept l id k item b.items old new none told same
not_kept_by l id k item (Err e) old new none told same = tt

pub item_by : (l : Lists) (id : Id) (k place i : ℕ) (item : Option ℕ) (c : Cursor) (r : Result (Vec ℕ Global) AllocError) (old new : WorldState)
    → item ≡ Some i → StandsAt l.cursors k place → slice_get l.cursors place ≡ Some c → IfOk r (λ b. IsItemTold c i id b.items) → new ≡ old → IfOk r (λ b. Answers l (explain k item) id l b.items old new)
item_by l id k place i item c (Ok b) old new is stands at told same = subst (λ o. Answers l (explain k o) id l b.items old new) (sym is) (explains_item l id k place i c b.items old new stands at told same)
item_by l id k place i item c (Err e) old new is stands at told same = tt

pub list_by : (l : Lists) (id : Id) (k place : ℕ) (item : Option ℕ) (c : Cursor) (r : Result (Vec ℕ Global) AllocError) (old new : WorldState)
    → item ≡ None → StandsAt l.cursors k place → slice_get l.cursors place ≡ Some c → IfOk r (λ b. AreFloorsTold c id b.items) → new ≡ old → IfOk r (λ b. Answers l (explain k item) id l b.items old new)
list_by l id k place item c (Ok b) old new is stands at told same = subst (λ o. Answers l (explain k o) id l b.items old new) (sym is) (explains_list l id k place c b.items old new stands at told same)
list_by l id k place item c (Err e) old new is stands at told same = tt

pub ruleset whole = (rows_value_whole, floors_value_whole)

pub ruleset items = (item_inhabits, item_says, item_low_by, item_none_by, item_some_by)

pub ruleset explains = (item_by, list_by)

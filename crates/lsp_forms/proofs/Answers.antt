-- The items of a list, one by one.
use Rattle.std.proofs.Common.{◌≡◌, ◌∙◌, ap, sym, ℕ, ◌+◌, List, [], ◌∷◌, ◌++◌, length, map, Bool, Some, refl, append_assoc, append-nil, arith, zero, suc, slice_get}
use Rattle.std.proofs.lemmas.List.{length-append}
use Rattle.serde_json.specs.Data.{Data, array}
use Rattle.serde_json.specs.Find.{get_item}
use Rattle.serde_json.specs.View.{items_of, view}
use Rattle.serde_json.specs.declared.value.Value.{Value}
use Rattle.lsp_forms.specs.Results.{item_answer, item_answers, item_at, list_answer, page_answer, range, state_answer}
use Rattle.lsp_forms.specs.declared.forms.ItemForm.{ItemForm}

views-append : (vs : List Value) (v : Value) → map view (vs ++ v ∷ []) ≡ map view vs ++ view v ∷ []
views-append [] v = refl
views-append (w ∷ vs) v = ap (λ ds. view w ∷ ds) (views-append vs v)

-- The answers of the items before and then those of the rest, the first of which has the number n.
pub answers-more : (n : ℕ) (range : Data) (all : List Data) (done new : List Value) (form : ItemForm) (rest more : List ItemForm) (v : Value) → all ≡ map view done ++ item_answers (n + length done) range rest → rest ≡ form ∷ more → view v ≡ item_answer (n + length done) range form → new ≡ done ++ v ∷ [] → all ≡ map view new ++ item_answers (n + length new) range more
unfolding item_answers
answers-more n range all done new form rest more v e r w m =
    let longer : n + length new ≡ n + length done + 1 = omega (arith, ap length m, length-append done (v ∷ [])) in
    e ∙ ap (λ fs. map view done ++ item_answers (n + length done) range fs) r
    ∙ ap (λ d. map view done ++ (d ∷ item_answers (n + length done + 1) range more)) (sym w)
    ∙ sym (append_assoc (map view done) (view v ∷ []) (item_answers (n + length done + 1) range more))
    ∙ ap (λ ds. ds ++ item_answers (n + length done + 1) range more) (sym (views-append done v) ∙ ap (map view) (sym m))
    ∙ ap (λ k. map view new ++ item_answers k range more) (sym longer)

pub answers-end : (n : ℕ) (range : Data) (all : List Data) (done : List Value) (rest : List ItemForm) → all ≡ map view done ++ item_answers (n + length done) range rest → length rest ≡ 0 → map view done ≡ all
unfolding item_answers
answers-end n range all done [] e h = sym (e ∙ append-nil (map view done))
answers-end n range all done (f ∷ fs) e h = absurd (omega arith)

get-answers : (n : ℕ) (range : Data) (forms : List ItemForm) (i : ℕ) (form : ItemForm) → slice_get forms i ≡ Some form → get_item i (items_of (item_answers n range forms)) ≡ Some (item_answer (n + i) range form)
unfolding item_answers
get-answers n range [] i form e = cc
get-answers n range (f ∷ fs) zero form e =
    let same : f ≡ form = cc in let plain : n ≡ n + 0 = omega arith in ap (λ g. Some (item_answer n range g)) same ∙ ap (λ k. Some (item_answer k range form)) plain
get-answers n range (f ∷ fs) (suc i) form e =
    let moved : n + 1 + i ≡ n + suc i = omega arith in get-answers (n + 1) range fs i form e ∙ ap (λ k. Some (item_answer k range form)) moved

-- What a page is, by its parts.
pub page-is : (cursor n grown : ℕ) (last : Bool) (version : ℕ) (forms : List ItemForm) (start end : ℕ × ℕ) (state items page : Data) → state ≡ state_answer cursor n grown last version → items ≡ array (items_of (item_answers n (range start end) forms)) → page ≡ page_answer state last items → page ≡ list_answer cursor n grown last version forms start end
page-is cursor n grown last version forms start end state items page e f g = g ∙ ap (λ s. page_answer s last items) e ∙ ap (page_answer (state_answer cursor n grown last version) last) f

-- Item number i of a page has the number from + i.
pub numbers : (cursor n grown : ℕ) (last : Bool) (version : ℕ) (forms : List ItemForm) (start end : ℕ × ℕ) (page : Data) → page ≡ list_answer cursor n grown last version forms start end → (i : ℕ) (form : ItemForm) → slice_get forms i ≡ Some form → item_at i page ≡ Some (item_answer (n + i) (range start end) form)
numbers cursor n grown last version forms start end page e i form h = ap (item_at i) e ∙ get-answers n (range start end) forms i form h

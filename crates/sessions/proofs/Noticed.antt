-- Each way to take a notification.
use Rattle.std.proofs.Common.{◌≡◌, ◌⊎◌, ◌∙◌, ℕ, sym, ap, subst, refl, List, [], ◌∷◌, Bool, true, false, Option, Some, None, Result, Ok, Err, inl, inr}
use Rattle.std.specs.Prelude.{OnOk, OnErr, bytes_eq, codes}
use Rattle.std.specs.declared.alloc.AllocError.{AllocError}
use Rattle.serde_json.specs.Data.{Data}
use Rattle.serde_json.specs.Find.{get}
use Rattle.lsp_forms.specs.declared.forms.ParamFault.{ParamFault}
use Rattle.lsp_forms.specs.declared.forms.ChangeForm.{ChangeForm}
use Rattle.lsp_forms.specs.declared.forms.DidChange.{DidChange}
use Rattle.lsp_forms.specs.Params.{member_of, text_of, fault}
use Rattle.lsp_forms.specs.Forms.{uri_in, did_open_of, did_open_from, did_change_of, did_change_from, changes_in, did_close_of, did_close_from}
use Rattle.documents.specs.Edits.{within}
use Rattle.answers.specs.declared.types.Phase.{Phase}
use Rattle.answers.specs.declared.types.Phase.TheVariants.{Fresh, Running, Stopped}
use Rattle.answers.specs.declared.types.DocumentState.{DocumentState}
use Rattle.answers.specs.declared.types.DocumentState.TheVariants.{NoMemory}
use Rattle.answers.specs.declared.types.OpenDocument.{OpenDocument}
use Rattle.answers.specs.Asks.{Short, Enough, Lacking, Ending, Met, classes}
use Rattle.answers.specs.Sessions.{Seen, document_of, with_document, without_document, state_of, state_by}
use Rattle.answers.specs.Messages.{Meaning, files_in, no_files, leaves, drops, edits, DocumentEdit, opening, changing, closing, Outcome, silent, exited, lost, is_stopped, documents_after, open_by, change_by, close_by, edit_if_open, running_notice, notice_by, notice_in}
use Rattle.sessions.specs.Edited.{IsSetTo, IsSetBy}
use Rattle.sessions.specs.Worlds.{WorldState}
use Rattle.sessions.specs.Outcomes.{silent_or}
use Rattle.sessions.specs.Meets.{Answered}
use Rattle.sessions.proofs.Answering.{none_loaded, lacking_loaded, ending_loaded}
use Rattle.sessions.proofs.Cases.{by_test}
use Rattle.terms.specs.Weights.{usual_steps}

-- What is met where no question is asked.
abbrev met_by : Short → Met
met_by short = record { at = []; loads = classes []; site = None; env = record { types = []; pairs = []; decls = []; goal = 0; limit = 0; depth = 0; binder = []; steps = usual_steps }; page = record { items = []; last = false; grown = 0 }; term = None; floors = []; fault = None; short = short }

-- A session whose documents are as they were.
documents_same : (s t : Seen) (ds : List OpenDocument) → t ≡ record s { documents = ds } → ds ≡ s.documents → t ≡ s
documents_same s t ds to same = to ∙ ap (λ l. record s { documents = l }) same

taken : (s t : Seen) (uri : List ℕ) (edit : DocumentEdit) (ds : List OpenDocument) (w : WorldState)
    → (ds ≡ documents_after uri edit s.documents (document_of uri s.documents)) ⊎ (ds ≡ with_document uri NoMemory s.documents) → t ≡ record s { documents = ds }
    → Answered s (edits uri edit) t silent w w
taken s t uri edit ds w (inl e) to = record { met = met_by Enough; faults = w.faults; loads = none_loaded w.holds w.faults; lawful = tt; answer = ap (λ x. (x, silent)) (ap (λ d. record s { documents = d }) (sym e) ∙ sym to); world = refl }
taken s t uri edit ds w (inr e) to = record { met = met_by Lacking; faults = w.faults; loads = lacking_loaded w.holds no_files w.faults; lawful = tt; answer = ap (λ x. (x, silent)) (ap (λ d. record s { documents = d }) (sym e) ∙ sym to); world = refl }

passed : (s t : Seen) (w : WorldState) → t ≡ s → Answered s drops t silent w w
passed s t w to = record { met = met_by Enough; faults = w.faults; loads = none_loaded w.holds w.faults; lawful = tt; answer = ap (λ x. (x, silent)) (sym to); world = refl }

gone : (s t : Seen) (w : WorldState) → t ≡ s → Answered s leaves t (exited (is_stopped s.phase)) w w
gone s t w to = record { met = met_by Enough; faults = w.faults; loads = none_loaded w.holds w.faults; lawful = tt; answer = ap (λ x. (x, exited (is_stopped s.phase))) (sym to); world = refl }

over : (s t : Seen) (meaning : Meaning) (w : WorldState) → t ≡ s → Answered s meaning t lost w w
over s t meaning w to = record { met = met_by Ending; faults = w.faults; loads = ending_loaded w.holds (files_in meaning) w.faults; lawful = tt; answer = ap (λ x. (x, lost)) (sym to); world = refl }

-- `didOpen`.
abbrev text_in : Data → Option (List ℕ)
text_in d = text_of (member_of (codes "text") (get (codes "textDocument") d))

opening_form : (d : Data) (uri text : List ℕ) → Some uri ≡ uri_in d → Some text ≡ text_in d → did_open_of d ≡ Ok (record { uri = uri; text = text })
unfolding did_open_from
opening_form d uri text u x = ap (λ o. did_open_from o (text_in d)) (sym u) ∙ ap (λ o. did_open_from (Some uri) o) (sym x)

opening_nowhere : (d : Data) → None ≡ uri_in d → did_open_of d ≡ Err (fault 1)
unfolding did_open_from
opening_nowhere d u = ap (λ o. did_open_from o (text_in d)) (sym u)

opening_nothing : (d : Data) (uri : List ℕ) → Some uri ≡ uri_in d → None ≡ text_in d → did_open_of d ≡ Err (fault 1)
unfolding did_open_from
opening_nothing d uri u x = ap (λ o. did_open_from o (text_in d)) (sym u) ∙ ap (λ o. did_open_from (Some uri) o) (sym x)

pub open_nowhere : (s t : Seen) (d : Data) (w : WorldState) → None ≡ uri_in d → t ≡ s → Answered s (open_by (did_open_of d)) t silent w w
open_nowhere s t d w u to = subst (λ m. Answered s (open_by m) t silent w w) (sym (opening_nowhere d u)) (passed s t w to)

pub open_nothing : (s t : Seen) (d : Data) (uri : List ℕ) (w : WorldState) → Some uri ≡ uri_in d → None ≡ text_in d → t ≡ s → Answered s (open_by (did_open_of d)) t silent w w
open_nothing s t d uri w u x to = subst (λ m. Answered s (open_by m) t silent w w) (sym (opening_nothing d uri u x)) (passed s t w to)

pub opens : (s t : Seen) (d : Data) (uri text : List ℕ) (r : Result (Unit {0}) AllocError) (old ds : List OpenDocument) (w : WorldState)
    → Some uri ≡ uri_in d → Some text ≡ text_in d → old ≡ s.documents → OnOk r (IsSetTo uri (state_of (within text)) old ds) → OnErr r (ds ≡ old) → t ≡ record s { documents = ds }
    → Answered s (open_by (did_open_of d)) t (silent_or r) w w
opens s t d uri text (Ok done) old ds w u x is set same to =
    subst (λ m. Answered s (open_by m) t silent w w) (sym (opening_form d uri text u x)) (taken s t uri (opening text) ds w (subst (λ l. IsSetTo uri (state_of (within text)) l ds) is set) to)
opens s t d uri text (Err e) old ds w u x is set same to = over s t (open_by (did_open_of d)) w (documents_same s t ds to (same ∙ is))

-- `didChange`.
changing_form : (d : Data) (uri : List ℕ) → Some uri ≡ uri_in d → did_change_of d ≡ Ok (record { uri = uri; changes = changes_in (get (codes "contentChanges") d) })
unfolding did_change_from
changing_form d uri u = ap (λ o. did_change_from o (changes_in (get (codes "contentChanges") d))) (sym u)

changing_nowhere : (d : Data) → None ≡ uri_in d → did_change_of d ≡ Err (fault 1)
unfolding did_change_from
changing_nowhere d u = ap (λ o. did_change_from o (changes_in (get (codes "contentChanges") d))) (sym u)

pub change_nowhere : (s t : Seen) (d : Data) (w : WorldState) → None ≡ uri_in d → t ≡ s → Answered s (change_by s (did_change_of d)) t silent w w
change_nowhere s t d w u to = subst (λ m. Answered s (change_by s m) t silent w w) (sym (changing_nowhere d u)) (passed s t w to)

pub change_refused : (s t : Seen) (d : Data) (f : ParamFault) (w : WorldState) → did_change_of d ≡ Err f → t ≡ s → Answered s (change_by s (did_change_of d)) t silent w w
change_refused s t d f w e to = subst (λ m. Answered s (change_by s m) t silent w w) (sym e) (passed s t w to)

changed_in : (s t : Seen) (uri : List ℕ) (changes : Option (List ChangeForm)) (ds : List OpenDocument) (w : WorldState) (o : Option DocumentState)
    → document_of uri s.documents ≡ o → IsSetBy uri (λ state. state_by state changes) s.documents ds o → t ≡ record s { documents = ds }
    → Answered s (edit_if_open uri (changing changes) o) t silent w w
changed_in s t uri changes ds w None e set to = passed s t w (documents_same s t ds to set)
changed_in s t uri changes ds w (Some state) e set to =
    taken s t uri (changing changes) ds w (subst (λ o. (ds ≡ documents_after uri (changing changes) s.documents o) ⊎ (ds ≡ with_document uri NoMemory s.documents)) (sym e) set) to

pub changes : (s t : Seen) (d : Data) (form : DidChange) (uri : List ℕ) (old ds : List OpenDocument) (w : WorldState)
    → did_change_of d ≡ Ok form → uri ≡ form.uri → old ≡ s.documents → IsSetBy uri (λ state. state_by state form.changes) old ds (document_of uri old) → t ≡ record s { documents = ds }
    → Answered s (change_by s (did_change_of d)) t silent w w
changes s t d form uri old ds w e named is set to =
    let by_name : did_change_of d ≡ Ok (record { uri = uri; changes = form.changes }) = e ∙ ap (λ u. Ok (record { uri = u; changes = form.changes })) (sym named) in
    let here : IsSetBy uri (λ state. state_by state form.changes) s.documents ds (document_of uri s.documents) = subst (λ l. IsSetBy uri (λ state. state_by state form.changes) l ds (document_of uri l)) is set in
    subst (λ m. Answered s (change_by s m) t silent w w) (sym by_name) (changed_in s t uri form.changes ds w (document_of uri s.documents) refl here to)

either_way : (P : Type 0) → P ⊎ P → P
either_way P (inl p) = p
either_way P (inr p) = p

lost_in : (s t : Seen) (uri : List ℕ) (edit : DocumentEdit) (ds : List OpenDocument) (w : WorldState) (o : Option DocumentState)
    → IsSetBy uri (λ state. NoMemory) s.documents ds o → t ≡ record s { documents = ds } → Answered s (edit_if_open uri edit o) t silent w w
lost_in s t uri edit ds w None set to = passed s t w (documents_same s t ds to set)
lost_in s t uri edit ds w (Some state) set to = taken s t uri edit ds w (inr (either_way (ds ≡ with_document uri NoMemory s.documents) set)) to

pub loses : (s t : Seen) (d : Data) (uri : List ℕ) (old ds : List OpenDocument) (w : WorldState)
    → Some uri ≡ uri_in d → old ≡ s.documents → IsSetBy uri (λ state. NoMemory) old ds (document_of uri old) → t ≡ record s { documents = ds }
    → Answered s (change_by s (did_change_of d)) t silent w w
loses s t d uri old ds w u is set to =
    let here : IsSetBy uri (λ state. NoMemory) s.documents ds (document_of uri s.documents) = subst (λ l. IsSetBy uri (λ state. NoMemory) l ds (document_of uri l)) is set in
    subst (λ m. Answered s (change_by s m) t silent w w) (sym (changing_form d uri u))
    (lost_in s t uri (changing (changes_in (get (codes "contentChanges") d))) ds w (document_of uri s.documents) here to)

-- `didClose`.
closing_form : (d : Data) (uri : List ℕ) → Some uri ≡ uri_in d → did_close_of d ≡ Ok (record { uri = uri })
unfolding did_close_from
closing_form d uri u = ap did_close_from (sym u)

closing_nowhere : (d : Data) → None ≡ uri_in d → did_close_of d ≡ Err (fault 1)
unfolding did_close_from
closing_nowhere d u = ap did_close_from (sym u)

nothing_here : {P : Type 0} (state : DocumentState) → Some state ≡ None → P
nothing_here state e = absurd cc

-- Closing a document that isn't open leaves all.
closed_nothing : (uri : List ℕ) (ds : List OpenDocument) → document_of uri ds ≡ None → without_document uri ds ≡ ds
unfolding document_of
closed_nothing uri [] e = refl
closed_nothing uri (d ∷ ds) e = by_test (bytes_eq d.uri uri)
    (λ is. nothing_here d.state (rw is at e))
    (λ is. rw is (ap (λ l. d ∷ l) (closed_nothing uri ds (rw is at e))))

closed_in : (s t : Seen) (uri : List ℕ) (ds : List OpenDocument) (w : WorldState) (o : Option DocumentState)
    → document_of uri s.documents ≡ o → ds ≡ without_document uri s.documents → t ≡ record s { documents = ds } → Answered s (edit_if_open uri closing o) t silent w w
closed_in s t uri ds w None e is to = passed s t w (documents_same s t ds to (is ∙ closed_nothing uri s.documents e))
closed_in s t uri ds w (Some state) e is to = taken s t uri closing ds w (inl is) to

pub closes : (s t : Seen) (d : Data) (uri : List ℕ) (ds : List OpenDocument) (w : WorldState)
    → Some uri ≡ uri_in d → ds ≡ without_document uri s.documents → t ≡ record s { documents = ds } → Answered s (close_by s (did_close_of d)) t silent w w
closes s t d uri ds w u is to = subst (λ m. Answered s (close_by s m) t silent w w) (sym (closing_form d uri u)) (closed_in s t uri ds w (document_of uri s.documents) refl is to)

pub close_nowhere : (s t : Seen) (d : Data) (w : WorldState) → None ≡ uri_in d → t ≡ s → Answered s (close_by s (did_close_of d)) t silent w w
close_nowhere s t d w u to = subst (λ m. Answered s (close_by s m) t silent w w) (sym (closing_nowhere d u)) (passed s t w to)

-- Which notification it is.
is_open : (s : Seen) (method : List ℕ) (d : Data) → bytes_eq method (codes "textDocument/didOpen") ≡ true → running_notice s method d ≡ open_by (did_open_of d)
unfolding running_notice
is_open s method d a = rw a refl

is_change : (s : Seen) (method : List ℕ) (d : Data) → bytes_eq method (codes "textDocument/didOpen") ≡ false → bytes_eq method (codes "textDocument/didChange") ≡ true → running_notice s method d ≡ change_by s (did_change_of d)
unfolding running_notice
is_change s method d a b = rw a (rw b refl)

is_close : (s : Seen) (method : List ℕ) (d : Data) → bytes_eq method (codes "textDocument/didOpen") ≡ false → bytes_eq method (codes "textDocument/didChange") ≡ false → bytes_eq method (codes "textDocument/didClose") ≡ true
    → running_notice s method d ≡ close_by s (did_close_of d)
unfolding running_notice
is_close s method d a b c = rw a (rw b (rw c refl))

is_none : (s : Seen) (method : List ℕ) (d : Data) → bytes_eq method (codes "textDocument/didOpen") ≡ false → bytes_eq method (codes "textDocument/didChange") ≡ false → bytes_eq method (codes "textDocument/didClose") ≡ false
    → running_notice s method d ≡ drops
unfolding running_notice
is_none s method d a b c = rw a (rw b (rw c refl))

pub by_open : (s t : Seen) (method : List ℕ) (d : Data) (o : Outcome) (w : WorldState) → bytes_eq method (codes "textDocument/didOpen") ≡ true
    → ((v : WorldState) → Answered s (open_by (did_open_of d)) t o v v) → Answered s (running_notice s method d) t o w w
by_open s t method d o w a is = subst (λ m. Answered s m t o w w) (sym (is_open s method d a)) (is w)

pub by_change : (s t : Seen) (method : List ℕ) (d : Data) (o : Outcome) (w : WorldState) → bytes_eq method (codes "textDocument/didOpen") ≡ false → bytes_eq method (codes "textDocument/didChange") ≡ true
    → ((v : WorldState) → Answered s (change_by s (did_change_of d)) t o v v) → Answered s (running_notice s method d) t o w w
by_change s t method d o w a b is = subst (λ m. Answered s m t o w w) (sym (is_change s method d a b)) (is w)

pub by_close : (s t : Seen) (method : List ℕ) (d : Data) (o : Outcome) (w : WorldState) → bytes_eq method (codes "textDocument/didOpen") ≡ false → bytes_eq method (codes "textDocument/didChange") ≡ false
    → bytes_eq method (codes "textDocument/didClose") ≡ true → ((v : WorldState) → Answered s (close_by s (did_close_of d)) t o v v) → Answered s (running_notice s method d) t o w w
by_close s t method d o w a b c is = subst (λ m. Answered s m t o w w) (sym (is_close s method d a b c)) (is w)

pub by_none : (s t : Seen) (method : List ℕ) (d : Data) (w : WorldState) → bytes_eq method (codes "textDocument/didOpen") ≡ false → bytes_eq method (codes "textDocument/didChange") ≡ false
    → bytes_eq method (codes "textDocument/didClose") ≡ false → t ≡ s → Answered s (running_notice s method d) t silent w w
by_none s t method d w a b c to = subst (λ m. Answered s m t silent w w) (sym (is_none s method d a b c)) (passed s t w to)

-- A notification by the phase.
is_exit : (s : Seen) (method : List ℕ) (d : Data) → bytes_eq method (codes "exit") ≡ true → notice_in s method d ≡ leaves
unfolding notice_in
is_exit s method d a = rw a refl

is_other : (s : Seen) (method : List ℕ) (d : Data) (p : Phase) → bytes_eq method (codes "exit") ≡ false → s.phase ≡ p → notice_in s method d ≡ notice_by p s method d
unfolding notice_in
is_other s method d p a e = rw a (ap (λ p. notice_by p s method d) e)

pub by_exit : (s t : Seen) (method : List ℕ) (d : Data) (b : Bool) (w : WorldState) → bytes_eq method (codes "exit") ≡ true → b ≡ is_stopped s.phase → t ≡ s → Answered s (notice_in s method d) t (exited b) w w
by_exit s t method d b w a is to =
    subst (λ m. Answered s m t (exited b) w w) (sym (is_exit s method d a)) (subst (λ b. Answered s leaves t (exited b) w w) (sym is) (gone s t w to))

pub by_running : (s t : Seen) (method : List ℕ) (d : Data) (o : Outcome) (w : WorldState) → bytes_eq method (codes "exit") ≡ false → s.phase ≡ Running
    → ((v : WorldState) → Answered s (running_notice s method d) t o v v) → Answered s (notice_in s method d) t o w w
by_running s t method d o w a e is = subst (λ m. Answered s m t o w w) (sym (is_other s method d Running a e)) (is w)

not_running : (s t : Seen) (method : List ℕ) (d : Data) (w : WorldState) (p : Phase) → (p ≡ Running → ⊥) → bytes_eq method (codes "exit") ≡ false → s.phase ≡ p → t ≡ s → Answered s (notice_in s method d) t silent w w
not_running s t method d w Fresh never a e to = subst (λ m. Answered s m t silent w w) (sym (is_other s method d Fresh a e)) (passed s t w to)
not_running s t method d w Running never a e to = absurd (never refl)
not_running s t method d w Stopped never a e to = subst (λ m. Answered s m t silent w w) (sym (is_other s method d Stopped a e)) (passed s t w to)

pub by_phase : (s t : Seen) (method : List ℕ) (d : Data) (w : WorldState) → bytes_eq method (codes "exit") ≡ false → (s.phase ≡ Running → ⊥) → t ≡ s → Answered s (notice_in s method d) t silent w w
by_phase s t method d w a never to = not_running s t method d w s.phase never a refl to

pub ruleset noticed = (open_nowhere, open_nothing, change_nowhere, change_refused, closes, close_nowhere, by_exit, by_running, by_phase)

-- The open documents by the place of the one with a URI.
use Rattle.std.proofs.Common.{◌≡◌, ℕ, zero, suc, ◌<◌, Bool, true, false, cond, Option, Some, None, List, [], ◌∷◌, ◌++◌, length, get_or, refl, sym, ap, subst, ◌∙◌, arith, inl, inr}
use Rattle.std.specs.Prelude.{◌⊎◌, if◌then◌else◌, bytes_eq, position, slice_get, slice_set, find, option_map}
use Rattle.std.proofs.lemmas.Option.{slice_get-get_or}
use Rattle.std.proofs.lemmas.Slice.Eq.{bytes_eq-Decides}
use Rattle.std.proofs.lemmas.List.Quantifiers.{position-Some}
use Rattle.answers.specs.declared.types.DocumentState.{DocumentState}
use Rattle.answers.specs.declared.types.DocumentState.TheVariants.{NoMemory}
use Rattle.answers.specs.declared.types.OpenDocument.{OpenDocument}
use Rattle.answers.specs.Sessions.{document_of, with_document}
use Rattle.sessions.specs.Edited.{IsSetTo, IsSetBy}
use Rattle.sessions.proofs.Cases.{by_test, find_there, find_nowhere}

state_if : (b : Bool) (d : OpenDocument) (o : Option DocumentState) (f : Option OpenDocument) → o ≡ option_map (λ d. d.state) f → (if b then Some d.state else o) ≡ option_map (λ d. d.state) (cond b (Some d) f)
state_if true d o f e = refl
state_if false d o f e = e

state_found : (uri : List ℕ) (ds : List OpenDocument) → document_of uri ds ≡ option_map (λ d. d.state) (find (λ d. bytes_eq d.uri uri) ds)
unfolding document_of
state_found uri [] = refl
state_found uri (d ∷ ds) = state_if (bytes_eq d.uri uri) d (document_of uri ds) (find (λ d. bytes_eq d.uri uri) ds) (state_found uri ds)

pub state_at : (uri : List ℕ) (i : ℕ) (ds : List OpenDocument) (d : OpenDocument) → position (λ d. bytes_eq d.uri uri) ds ≡ Some i → d ≡ get_or ds i d → Some d.state ≡ document_of uri ds
state_at uri i ds d e at =
    let read : slice_get ds i ≡ Some d = slice_get-get_or ds i d (position-Some (λ d. bytes_eq d.uri uri) ds i d e).0 ∙ ap Some (sym at) in
    sym (state_found uri ds ∙ ap (option_map (λ d. d.state)) (find_there (λ d. bytes_eq d.uri uri) ds i e ∙ read))

pub not_open : (uri : List ℕ) (ds : List OpenDocument) → position (λ d. bytes_eq d.uri uri) ds ≡ None → document_of uri ds ≡ None
not_open uri ds e = state_found uri ds ∙ ap (option_map (λ d. d.state)) (find_nowhere (λ d. bytes_eq d.uri uri) ds e)

nothing_here : {P : Type 0} (state : DocumentState) → Some state ≡ None → P
nothing_here state e = absurd cc

-- A document that isn't open is added at the end.
pub added : (uri : List ℕ) (state : DocumentState) (ds : List OpenDocument) → document_of uri ds ≡ None → with_document uri state ds ≡ ds ++ record { uri = uri; state = state } ∷ []
unfolding document_of with_document
added uri state [] e = refl
added uri state (d ∷ ds) e = by_test (bytes_eq d.uri uri)
    (λ is. nothing_here d.state (rw is at e))
    (λ is. rw is (ap (λ t. d ∷ t) (added uri state ds (rw is at e))))

set_from : (uri : List ℕ) (state : DocumentState) (i : ℕ) (ds : List OpenDocument) (x : OpenDocument) → i < length ds → bytes_eq (get_or ds i x).uri uri ≡ true → ((j : ℕ) → j < i → bytes_eq (get_or ds j x).uri uri ≡ false)
    → slice_set ds i (record (get_or ds i x) { state = state }) ≡ with_document uri state ds
unfolding with_document
set_from uri state i [] x l is not = absurd (omega (arith, l))
set_from uri state zero (d ∷ ds) x l is not =
    let same : d.uri ≡ uri = (bytes_eq-Decides d.uri uri).0 is in
    rw is (ap (λ u. record { uri = u; state = state } ∷ ds) same)
set_from uri state (suc i) (d ∷ ds) x l is not =
    let first : bytes_eq d.uri uri ≡ false = not 0 (omega arith) in
    rw first (ap (λ t. d ∷ t) (set_from uri state i ds x (omega (arith, l)) is (λ j below. not (suc j) (omega (arith, below)))))

-- A write at its place puts a document into a state.
pub set_at : (uri : List ℕ) (state : DocumentState) (i : ℕ) (ds : List OpenDocument) (d : OpenDocument) → position (λ d. bytes_eq d.uri uri) ds ≡ Some i → d ≡ get_or ds i d
    → slice_set ds i (record d { state = state }) ≡ with_document uri state ds
set_at uri state i ds d e at =
    let there : (i < length ds) × (bytes_eq (get_or ds i d).uri uri ≡ true) × ((j : ℕ) → j < i → bytes_eq (get_or ds j d).uri uri ≡ false) = position-Some (λ d. bytes_eq d.uri uri) ds i d e in
    subst (λ (x : OpenDocument). slice_set ds i (record x { state = state }) ≡ with_document uri state ds) (sym at) (set_from uri state i ds d there.0 there.1 there.2)

-- It stands within the list.
pub within : (uri : List ℕ) (i : ℕ) (ds : List OpenDocument) → position (λ d. bytes_eq d.uri uri) ds ≡ Some i → i < length ds
within uri i ds e = (position-Some (λ d. bytes_eq d.uri uri) ds i (record { uri = []; state = NoMemory }) e).0

-- A state that may be "no memory".
pub set_to : (uri : List ℕ) (state wanted : DocumentState) (old new : List OpenDocument) → (state ≡ wanted) ⊎ (state ≡ NoMemory) → new ≡ with_document uri state old → IsSetTo uri wanted old new
set_to uri state wanted old new (inl e) is = inl (is ∙ ap (λ s. with_document uri s old) e)
set_to uri state wanted old new (inr e) is = inr (is ∙ ap (λ s. with_document uri s old) e)

-- A change of the state at its place.
pub changed_at : (uri : List ℕ) (i : ℕ) (d : OpenDocument) (state : DocumentState) (f : DocumentState → DocumentState) (ds new : List OpenDocument)
    → position (λ d. bytes_eq d.uri uri) ds ≡ Some i → d ≡ get_or ds i d → (state ≡ f d.state) ⊎ (state ≡ NoMemory) → new ≡ slice_set ds i (record d { state = state })
    → IsSetBy uri f ds new (document_of uri ds)
changed_at uri i d state f ds new e at is to =
    subst (λ o. IsSetBy uri f ds new o) (state_at uri i ds d e at) (set_to uri state (f d.state) ds new is (to ∙ set_at uri state i ds d e at))

-- Nothing to change.
pub not_changed : (uri : List ℕ) (f : DocumentState → DocumentState) (ds new : List OpenDocument) → position (λ d. bytes_eq d.uri uri) ds ≡ None → new ≡ ds → IsSetBy uri f ds new (document_of uri ds)
not_changed uri f ds new e same = subst (λ o. IsSetBy uri f ds new o) (sym (not_open uri ds e)) same

pub ruleset places = (state_at, not_open, added, set_at, within, set_to, changed_at, not_changed)

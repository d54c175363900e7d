-- The reply to a completion, by the state of its document and by its place.
use Rattle.std.proofs.Common.{◌≡◌, ℕ, sym, subst, List, Some, None, Result, Vec, Global}
use Rattle.std.specs.Prelude.{IfOk, OnErr}
use Rattle.std.specs.Str.{chars}
use Rattle.std.specs.declared.alloc.AllocError.{AllocError}
use Rattle.documents.specs.Places.{offset_of}
use Rattle.json_rpc.specs.declared.message.Id.{Id}
use Rattle.lsp_forms.specs.declared.forms.Completion.{Completion}
use Rattle.lsp_forms.specs.declared.forms.Initialize.{Initialize}
use Rattle.answers.specs.declared.types.DocumentState.TheVariants.{Sure, Unsure, NoMemory}
use Rattle.answers.specs.Cursors.{Lists}
use Rattle.answers.specs.Asks.{complete}
use Rattle.answers.specs.Sessions.{Seen, document_of}
use Rattle.answers.specs.Replies.{failure, reply_text}
use Rattle.answers.specs.Failures.{invalid_params}
use Rattle.answers.specs.Messages.{completion_in, completion_at}
use Rattle.sessions.specs.Worlds.{WorldState, MayRead}
use Rattle.sessions.specs.Spots.{hole_in}
use Rattle.sessions.specs.Questions.{Answers}
use Rattle.sessions.specs.Outcomes.{replied_or}
use Rattle.sessions.specs.Meets.{Answered}
use Rattle.sessions.proofs.Answering.{asked_by, said_by, lacked}

-- The document isn't open.
pub closed : (s t : Seen) (id : Id) (form : Completion) (r : Result (Vec ℕ Global) AllocError) (old new : WorldState)
    → document_of form.uri s.documents ≡ None → IfOk r (λ b. b.items ≡ reply_text (Some id) (failure (invalid_params 3 0))) → t ≡ s → new ≡ old
    → Answered s (completion_in s id form (document_of form.uri s.documents)) t (replied_or id r) old new
closed s t id form r old new is told to same =
    subst (λ o. Answered s (completion_in s id form o) t (replied_or id r) old new) (sym is) (said_by s t id (failure (invalid_params 3 0)) r old new told to same)

-- Its text is unsure.
pub unsure : (s t : Seen) (id : Id) (form : Completion) (r : Result (Vec ℕ Global) AllocError) (old new : WorldState)
    → document_of form.uri s.documents ≡ Some Unsure → IfOk r (λ b. b.items ≡ reply_text (Some id) (failure (invalid_params 4 0))) → t ≡ s → new ≡ old
    → Answered s (completion_in s id form (document_of form.uri s.documents)) t (replied_or id r) old new
unsure s t id form r old new is told to same =
    subst (λ o. Answered s (completion_in s id form o) t (replied_or id r) old new) (sym is) (said_by s t id (failure (invalid_params 4 0)) r old new told to same)

-- It has no memory.
pub lost : (s t : Seen) (id : Id) (form : Completion) (e : AllocError) (old new : WorldState)
    → document_of form.uri s.documents ≡ Some NoMemory → t ≡ s → new ≡ old
    → Answered s (completion_in s id form (document_of form.uri s.documents)) t (replied_or id (Result.Err e)) old new
lost s t id form e old new is to same =
    subst (λ o. Answered s (completion_in s id form o) t (replied_or id (Result.Err e)) old new) (sym is) (lacked s t id old new to same)

-- It has no such line.
pub past : (s t : Seen) (id : Id) (form : Completion) (text : List ℕ) (r : Result (Vec ℕ Global) AllocError) (old new : WorldState)
    → document_of form.uri s.documents ≡ Some (Sure text) → offset_of (chars text) form.line form.character ≡ None
    → IfOk r (λ b. b.items ≡ reply_text (Some id) (failure (invalid_params 5 0))) → t ≡ s → new ≡ old
    → Answered s (completion_in s id form (document_of form.uri s.documents)) t (replied_or id r) old new
past s t id form text r old new is none told to same =
    subst (λ o. Answered s (completion_in s id form o) t (replied_or id r) old new) (sym is)
    (subst (λ o. Answered s (completion_at s id text o) t (replied_or id r) old new) (sym none) (said_by s t id (failure (invalid_params 5 0)) r old new told to same))

-- It is asked for a list at the place.
pub placed : (s t : Seen) (id : Id) (form : Completion) (text : List ℕ) (place : ℕ) (options : Initialize) (lists next : Lists) (r : Result (Vec ℕ Global) AllocError) (old new : WorldState)
    → document_of form.uri s.documents ≡ Some (Sure text) → offset_of (chars text) form.line form.character ≡ Some place → options ≡ s.options → lists ≡ s.lists
    → IfOk r (λ reply. Answers lists (complete (hole_in text place options) options.count) id next reply.items old new) → OnErr r (next ≡ lists) → OnErr r (MayRead old new)
    → t ≡ record s { lists = next }
    → Answered s (completion_in s id form (document_of form.uri s.documents)) t (replied_or id r) old new
placed s t id form text place options lists next r old new is at by from answers unchanged no_memory to =
    let P : Lists → Initialize → Type 0 = λ l o. IfOk r (λ reply. Answers l (complete (hole_in text place o) o.count) id next reply.items old new) in
    let here : P s.lists s.options = subst (λ o. P s.lists o) by (subst (λ l. P l options) from answers) in
    let kept : OnErr r (next ≡ s.lists) = subst (λ l. OnErr r (next ≡ l)) from unchanged in
    subst (λ o. Answered s (completion_in s id form o) t (replied_or id r) old new) (sym is)
    (subst (λ o. Answered s (completion_at s id text o) t (replied_or id r) old new) (sym at)
    (asked_by s t id (complete (hole_in text place s.options) s.options.count) next r old new here kept no_memory to))

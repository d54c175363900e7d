-- What the outcomes of a run tell of lists and versions.
use Rattle.std.specs.Prelude.{◌≡◌, ◌⊎◌, ℕ, List, [], ◌∷◌, Option, Some}
use Rattle.serde_json.specs.Data.{null}
use Rattle.json_rpc.specs.declared.message.Id.{Id}
use Rattle.lsp_forms.specs.Results.{capabilities, version_answer}
use Rattle.answers.specs.Failures.{Failure, parse_error, invalid_request, unknown_method, not_initialized, invalid_params, no_class, change_refused, version_withdrawn, read_fault}
use Rattle.answers.specs.Asks.{Answer, opened, turned, withdrawn, explained, accepted, refused, quiet, ended}
use Rattle.answers.specs.Certificates.{certificate_data}
use Rattle.answers.specs.Replies.{Reply, result, failure, reply_text, page_data}
use Rattle.answers.specs.Messages.{Outcome, replied, no_memory, silent, exited, lost}

-- An error that speaks of no version and of no change.
abbrev pub IsPlainFailure : Failure → Type 0
IsPlainFailure parse_error = Unit {0}
IsPlainFailure invalid_request = Unit {0}
IsPlainFailure unknown_method = Unit {0}
IsPlainFailure not_initialized = Unit {0}
IsPlainFailure (invalid_params cause index) = Unit {0}
IsPlainFailure (no_class index class_fault place) = Unit {0}
IsPlainFailure (change_refused fault) = ⊥
IsPlainFailure (version_withdrawn number version) = ⊥
IsPlainFailure (read_fault index) = Unit {0}

-- A reply that tells nothing of lists and versions: null, the capabilities, or such an error.
abbrev pub IsPlain : Reply → Type 0
IsPlain (result d) = (d ≡ null) ⊎ (d ≡ capabilities)
IsPlain (failure f) = IsPlainFailure f

-- The body of such a reply.
pub record IsPlainBody (body : List ℕ) : Type 0 where
  pub id : Option Id
  pub reply : Reply
  pub is : body ≡ reply_text id reply
  pub plain : IsPlain reply

-- An outcome that tells nothing of lists and versions.
abbrev pub IsQuiet : Outcome → Type 0
IsQuiet (replied body) = IsPlainBody body
IsQuiet (no_memory id) = Unit {0}
IsQuiet silent = Unit {0}
IsQuiet (exited is_stopped) = ⊥
IsQuiet lost = Unit {0}

-- The end of a session.
abbrev pub IsEnd : Outcome → Type 0
IsEnd (replied body) = ⊥
IsEnd (no_memory id) = ⊥
IsEnd silent = ⊥
IsEnd (exited is_stopped) = Unit {0}
IsEnd lost = Unit {0}

-- A request is answered by this reply.
abbrev pub Replies : Reply → Outcome → Type 0
Replies reply o = (id : Id) × (o ≡ replied (reply_text (Some id) reply))

-- The outcome tells the answer: a page as a list whose first item has the number of those answered before it, a withdrawal
-- and a refused change as their errors, an explanation as its certificate, an accepted change as its version, and nothing else
-- where there is none of these.
abbrev pub Tells : Answer → Outcome → Type 0
Tells (opened c p) o = Replies (result (page_data c 0 p)) o
Tells (turned c p) o = Replies (result (page_data c c.answered p)) o
Tells (withdrawn k v n) o = Replies (failure (version_withdrawn n v)) o
Tells (explained c x) o = Replies (result (certificate_data c.env x)) o
Tells (accepted v) o = Replies (result (version_answer v)) o
Tells (refused fault) o = Replies (failure (change_refused fault)) o
Tells quiet o = IsQuiet o
Tells ended o = IsEnd o

-- One outcome for each answer, which tells it.
unfoldable pub AllTell : List Answer → List Outcome → Type 0
AllTell [] [] = Unit {0}
AllTell [] (o ∷ os) = ⊥
AllTell (a ∷ more) [] = ⊥
AllTell (a ∷ more) (o ∷ os) = Tells a o × AllTell more os

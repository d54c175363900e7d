-- The reply to each request, by what its method and its parameters are.
use Rattle.std.proofs.Common.{◌≡◌, ◌∙◌, ℕ, sym, ap, subst, refl, List, [], true, false, Option, Some, None, Result, Ok, Err, Vec, Global}
use Rattle.std.specs.Prelude.{IfOk, codes, bytes_eq}
use Rattle.std.specs.Str.{chars}
use Rattle.std.specs.declared.alloc.AllocError.{AllocError}
use Rattle.serde_json.specs.Data.{Data}
use Rattle.documents.specs.Places.{offset_of}
use Rattle.json_rpc.specs.declared.message.Id.{Id}
use Rattle.json_rpc.specs.declared.message.Refused.{Refused}
use Rattle.json_rpc.specs.declared.message.Refused.TheVariants.{Fault, OutOfMemory}
use Rattle.lsp_forms.specs.declared.forms.ParamFault.{ParamFault}
use Rattle.lsp_forms.specs.declared.forms.Initialize.{Initialize}
use Rattle.lsp_forms.specs.declared.forms.Completion.{Completion}
use Rattle.lsp_forms.specs.declared.forms.Command.{Command}
use Rattle.lsp_forms.specs.declared.forms.Command.TheVariants as command
use Rattle.lsp_forms.specs.Params.{RefusedAs, FaultedAs}
use Rattle.lsp_forms.specs.Forms.{initialize_of, completion_of}
use Rattle.lsp_forms.specs.Commands.{command_of}
use Rattle.answers.specs.declared.types.Phase.TheVariants.{Fresh, Running, Stopped}
use Rattle.answers.specs.declared.types.DocumentState.{DocumentState}
use Rattle.answers.specs.declared.types.DocumentState.TheVariants.{Sure, Unsure, NoMemory}
use Rattle.answers.specs.Asks.{Ask, complete, page, close, explain, change, exit, other, Lacking, classes}
use Rattle.answers.specs.Sessions.{Seen, document_of}
use Rattle.answers.specs.Replies.{failure, reply_text}
use Rattle.answers.specs.Failures.{invalid_request, not_initialized, invalid_params}
use Rattle.answers.specs.Messages.{Meaning, fault_of, starts, Outcome, replied, no_memory, lacking_for, files_in, ask_in, request_by, fresh_request, running_request, initialize_by, completion_by, completion_in, completion_at, command_by}
use Rattle.sessions.specs.Worlds.{WorldState}
use Rattle.sessions.specs.Questions.{MayLeave}
use Rattle.sessions.specs.Outcomes.{replied_or}
use Rattle.sessions.specs.Meets.{Answered}
use Rattle.sessions.specs.Refusing.{IsRefusal}
use Rattle.sessions.proofs.WorldReads.{stays}
use Rattle.sessions.proofs.Answering.{met_with, lacking_loaded, said_by, started, started_in_vain, stopped, stopped_in_vain}
use Rattle.sessions.proofs.Changing.{nothing_learnt}
use Rattle.sessions.proofs.Methods.{fresh_other, fresh_initialize}
use Rattle.sessions.proofs.Ranged.{options_in_range}

leaves_same : (ask : Ask) (old new : WorldState) → new ≡ old → MayLeave ask old new
leaves_same (complete hole count) old new e = stays old new e
leaves_same (page k count) old new e = stays old new e
leaves_same (close k) old new e = e
leaves_same (explain k item) old new e = e
leaves_same (change c) old new e = nothing_learnt old new e
leaves_same exit old new e = e
leaves_same other old new e = e

-- Memory was wanting for a request, before the world was touched.
in_vain : (s t : Seen) (id : Id) (meaning : Meaning) (old new : WorldState) → lacking_for s meaning ≡ (s, no_memory id) → t ≡ s → new ≡ old → Answered s meaning t (no_memory id) old new
in_vain s t id meaning old new is to same = record {
  met = met_with Lacking;
  faults = old.faults;
  loads = lacking_loaded old.holds (files_in meaning) old.faults;
  lawful = tt;
  answer = is ∙ ap (λ x. (x, no_memory id)) (sym to);
  world = leaves_same (ask_in meaning (classes [])) old new same;
}

lacks_initialize : (s : Seen) (id : Id) (r : Result Initialize ParamFault) → lacking_for s (initialize_by id r) ≡ (s, no_memory id)
lacks_initialize s id (Err f) = refl
lacks_initialize s id (Ok o) = refl

lacks_at : (s : Seen) (id : Id) (text : List ℕ) (o : Option ℕ) → lacking_for s (completion_at s id text o) ≡ (s, no_memory id)
lacks_at s id text None = refl
lacks_at s id text (Some place) = refl

lacks_in : (s : Seen) (id : Id) (form : Completion) (o : Option DocumentState) → lacking_for s (completion_in s id form o) ≡ (s, no_memory id)
lacks_in s id form None = refl
lacks_in s id form (Some Unsure) = refl
lacks_in s id form (Some NoMemory) = refl
lacks_in s id form (Some (Sure text)) = lacks_at s id text (offset_of (chars text) form.line form.character)

lacks_completion : (s : Seen) (id : Id) (r : Result Completion ParamFault) → lacking_for s (completion_by s id r) ≡ (s, no_memory id)
lacks_completion s id (Err f) = refl
lacks_completion s id (Ok form) = lacks_in s id form (document_of form.uri s.documents)

lacks_command : (s : Seen) (id : Id) (r : Result Command ParamFault) → lacking_for s (command_by id r) ≡ (s, no_memory id)
lacks_command s id (Err f) = refl
lacks_command s id (Ok (command.Page k n)) = refl
lacks_command s id (Ok (command.Close k)) = refl
lacks_command s id (Ok (command.Explain k i)) = refl
lacks_command s id (Ok (command.Publish a b c d e)) = refl
lacks_command s id (Ok (command.Withdraw k)) = refl
lacks_command s id (Ok (command.SetWeights w)) = refl

-- Parameters that were refused, whatever form was wanted.
refused : {X : Type 0} (s t : Seen) (id : Id) (means : Result X ParamFault → Meaning) (wanted : Result X ParamFault) (e : Refused ParamFault) (r : Result (Vec ℕ Global) AllocError) (old new : WorldState)
    → lacking_for s (means wanted) ≡ (s, no_memory id) → ((f : ParamFault) → means (Err f) ≡ fault_of id f) → RefusedAs wanted e → IsRefusal id e r → t ≡ s → new ≡ old
    → Answered s (means wanted) t (replied_or id r) old new
refused s t id means wanted (Fault f) r old new lacks faults is told to same =
    subst (λ m. Answered s m t (replied_or id r) old new) (sym (ap means is ∙ faults f)) (said_by s t id (failure (invalid_params f.cause f.index)) r old new told to same)
refused s t id means wanted OutOfMemory (Ok b) old new lacks faults is told to same = absurd told
refused s t id means wanted OutOfMemory (Err e) old new lacks faults is told to same = in_vain s t id (means wanted) old new lacks to same

pub completion_refused : (s t : Seen) (id : Id) (d : Data) (e : Refused ParamFault) (r : Result (Vec ℕ Global) AllocError) (old new : WorldState)
    → RefusedAs (completion_of d) e → IsRefusal id e r → t ≡ s → new ≡ old → Answered s (completion_by s id (completion_of d)) t (replied_or id r) old new
completion_refused s t id d e r old new is told to same = refused s t id (completion_by s id) (completion_of d) e r old new (lacks_completion s id (completion_of d)) (λ f. refl) is told to same

pub command_refused : (s t : Seen) (id : Id) (d : Data) (e : Refused ParamFault) (r : Result (Vec ℕ Global) AllocError) (old new : WorldState)
    → RefusedAs (command_of d) e → IsRefusal id e r → t ≡ s → new ≡ old → Answered s (command_by id (command_of d)) t (replied_or id r) old new
command_refused s t id d e r old new is told to same = refused s t id (command_by id) (command_of d) e r old new (lacks_command s id (command_of d)) (λ f. refl) is told to same

faulted : (d : Data) (e : Refused ParamFault) → FaultedAs (initialize_of d) e → RefusedAs (initialize_of d) e
faulted d (Fault f) is = is
faulted d OutOfMemory is = absurd is

pub initialize_refused : (s t : Seen) (id : Id) (method : List ℕ) (d : Data) (e : Refused ParamFault) (r : Result (Vec ℕ Global) AllocError) (old new : WorldState)
    → bytes_eq method (codes "initialize") ≡ true → FaultedAs (initialize_of d) e → IsRefusal id e r → t ≡ s → new ≡ old → Answered s (fresh_request id method d) t (replied_or id r) old new
initialize_refused s t id method d e r old new test is told to same =
    subst (λ m. Answered s m t (replied_or id r) old new) (fresh_initialize id method d test) (refused s t id (initialize_by id) (initialize_of d) e r old new (lacks_initialize s id (initialize_of d)) (λ f. refl) (faulted d e is) told to same)

pub initialize_started : (s t : Seen) (id : Id) (method : List ℕ) (d : Data) (o : Initialize) (said : Outcome) (old new : WorldState)
    → bytes_eq method (codes "initialize") ≡ true → initialize_of d ≡ Ok o → Answered s (starts id o) t said old new → Answered s (fresh_request id method d) t said old new
initialize_started s t id method d o said old new test is a = subst (λ m. Answered s m t said old new) (sym (ap (initialize_by id) is) ∙ fresh_initialize id method d test) a

pub not_yet : (s t : Seen) (id : Id) (method : List ℕ) (d : Data) (r : Result (Vec ℕ Global) AllocError) (old new : WorldState)
    → bytes_eq method (codes "initialize") ≡ false → IfOk r (λ b. b.items ≡ reply_text (Some id) (failure not_initialized)) → t ≡ s → new ≡ old → Answered s (fresh_request id method d) t (replied_or id r) old new
not_yet s t id method d r old new test told to same = subst (λ m. Answered s m t (replied_or id r) old new) (fresh_other id method d test) (said_by s t id (failure not_initialized) r old new told to same)

pub completion_formed : (s t : Seen) (id : Id) (d : Data) (form : Completion) (said : Outcome) (old new : WorldState)
    → completion_of d ≡ Ok form → Answered s (completion_in s id form (document_of form.uri s.documents)) t said old new → Answered s (completion_by s id (completion_of d)) t said old new
completion_formed s t id d form said old new is a = subst (λ m. Answered s m t said old new) (sym (ap (completion_by s id) is)) a

-- A request by the phase.
pub by_fresh : (s t : Seen) (id : Id) (method : List ℕ) (d : Data) (o : Outcome) (old new : WorldState) → s.phase ≡ Fresh → ((w : WorldState) → Answered s (fresh_request id method d) t o w w) → new ≡ old
    → Answered s (request_by s.phase s id method d) t o old new
by_fresh s t id method d o old new e a same =
    subst (λ p. Answered s (request_by p s id method d) t o old new) (sym e) (subst (λ w. Answered s (fresh_request id method d) t o old w) (sym same) (a old))

pub by_running : (s t : Seen) (id : Id) (method : List ℕ) (d : Data) (o : Outcome) (old new : WorldState) → s.phase ≡ Running → Answered s (running_request s id method d) t o old new
    → Answered s (request_by s.phase s id method d) t o old new
by_running s t id method d o old new e a = subst (λ p. Answered s (request_by p s id method d) t o old new) (sym e) a

pub by_stopped : (s t : Seen) (id : Id) (method : List ℕ) (d : Data) (r : Result (Vec ℕ Global) AllocError) (old new : WorldState) → s.phase ≡ Stopped → IfOk r (λ b. b.items ≡ reply_text (Some id) (failure invalid_request)) → t ≡ s → new ≡ old
    → Answered s (request_by s.phase s id method d) t (replied_or id r) old new
by_stopped s t id method d r old new e told to same =
    subst (λ p. Answered s (request_by p s id method d) t (replied_or id r) old new) (sym e) (said_by s t id (failure invalid_request) r old new told to same)

-- What the reply to a request says.
pub replies : (s t : Seen) (id : Id) (meaning : Meaning) (r : Result (Vec ℕ Global) AllocError) (b : Vec ℕ Global) (old new : WorldState) → r ≡ Ok b → Answered s meaning t (replied_or id r) old new → Answered s meaning t (replied b.items) old new
replies s t id meaning r b old new is a = subst (λ r. Answered s meaning t (replied_or id r) old new) is a

pub lacks_reply : (s t : Seen) (id : Id) (meaning : Meaning) (r : Result (Vec ℕ Global) AllocError) (e : AllocError) (old new : WorldState) → r ≡ Err e → Answered s meaning t (replied_or id r) old new → Answered s meaning t (no_memory id) old new
lacks_reply s t id meaning r e old new is a = subst (λ r. Answered s meaning t (replied_or id r) old new) is a

pub ruleset fresh = (options_in_range, initialize_refused, initialize_started, not_yet)

pub ruleset ends = (started, started_in_vain, stopped, stopped_in_vain)

pub ruleset forms = (completion_refused, completion_formed)

pub ruleset phases = (by_fresh, by_running, by_stopped)

pub ruleset outcomes = (replies, lacks_reply)

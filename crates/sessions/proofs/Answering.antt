-- Each way to answer a message.
use Rattle.std.proofs.Common.{◌≡◌, ◌∙◌, arith, ℕ, sym, ap, subst, refl, inr, List, [], false, Option, Some, None, Result, Ok, Err}
use Rattle.std.specs.Prelude.{IfOk, OnErr}
use Rattle.std.specs.declared.alloc.AllocError.{AllocError}
use Rattle.std.specs.declared.alloc.Global.{Global}
use Rattle.std.specs.declared.vec.Vec.{Vec}
use Rattle.serde_json.specs.Data.{null}
use Rattle.json_rpc.specs.declared.message.Id.{Id}
use Rattle.json_rpc.specs.Messages.{Heard, response, message_of}
use Rattle.lsp_forms.specs.declared.forms.Initialize.{Initialize}
use Rattle.lsp_forms.specs.Results.{capabilities}
use Rattle.answers.specs.declared.types.Phase.TheVariants.{Running, Stopped}
use Rattle.answers.specs.Cursors.{Lists}
use Rattle.answers.specs.Asks.{Ask, Enough, Lacking, Ending, Short, Met, classes, list_answer_to}
use Rattle.answers.specs.Sessions.{Seen}
use Rattle.answers.specs.Replies.{Reply, result, reply_text, reply_of}
use Rattle.answers.specs.Messages.{Meaning, asks, says, lacks, starts, stops, drops, Outcome, replied, no_memory, silent, lost, by_memory, meaning_in, meaning_of, files_in, no_files}
use Rattle.outside.specs.declared.shelf.HeldFile.{HeldFile}
use Rattle.sessions.specs.Worlds.{WorldState}
use Rattle.source_classes.proofs.PutsLeft.{puts_alone}
use Rattle.answers.specs.declared.types.NamedFiles.{NamedFiles}
use Rattle.sessions.specs.Loads.{GiveAll, IsLoaded}
use Rattle.sessions.specs.Questions.{Answers, MayLeave, Touches}
use Rattle.sessions.specs.Outcomes.{replied_or}
use Rattle.sessions.specs.Meets.{Meets, Answered}
use Rattle.sessions.proofs.Sourcing.{sources_added}
use Rattle.terms.specs.Weights.{usual_steps}

abbrev pub met_with : Short → Met
met_with short = record { at = []; loads = classes []; site = None; env = record { types = []; pairs = []; decls = []; goal = 0; limit = 0; depth = 0; binder = []; steps = usual_steps }; page = record { items = []; last = false; grown = 0 }; term = None; floors = []; fault = None; short = short }

-- No file is named.
give_none : (holds : Option (List HeldFile)) → GiveAll holds no_files (classes [])
give_none holds = inr (record {
  puts = [];
  first = record { contents = []; held = tt; gives = (refl, tt) };
  behind = sources_added holds 0 [] [] [] [] [] (record { held = tt; sound = refl }) (puts_alone [] []);
})

pub none_loaded : (holds : Option (List HeldFile)) (n : ℕ) → IsLoaded Enough holds no_files (classes []) n n
none_loaded holds n = record { gives = give_none holds; later = omega arith; cause = λ i e. absurd cc; none = λ e f. refl }

-- Memory was wanting, whatever was named.
pub lacking_loaded : (holds : Option (List HeldFile)) (files : NamedFiles) (n : ℕ) → IsLoaded Lacking holds files (classes []) n n
lacking_loaded holds files n = record { gives = tt; later = omega arith; cause = λ i e. absurd cc; none = λ e f. refl }

pub ending_loaded : (holds : Option (List HeldFile)) (files : NamedFiles) (n : ℕ) → IsLoaded Ending holds files (classes []) n n
ending_loaded holds files n = record { gives = tt; later = omega arith; cause = λ i e. absurd cc; none = λ e f. refl }

-- A question about lists that is answered.
pub asked : (s t : Seen) (id : Id) (ask : Ask) (next : Lists) (reply : List ℕ) (old new : WorldState) → Answers s.lists ask id next reply old new → t ≡ record s { lists = next } → Answered s (asks id ask) t (replied reply) old new
asked s t id ask next reply old new a to = record {
  met = a.met;
  faults = old.faults;
  loads = subst (λ h. IsLoaded h old.holds no_files a.met.loads old.faults old.faults) (sym a.enough) (subst (λ x. IsLoaded Enough old.holds no_files x old.faults old.faults) (sym a.no_file) (none_loaded old.holds old.faults));
  lawful = a.lawful;
  answer = ap (λ h. by_memory h s (asks id ask) a.met) a.enough
      ∙ ap (λ l. (record s { lists = l }, replied (reply_text (Some id) (reply_of s.lists a.met ask (list_answer_to s.lists ask a.met).1)))) a.lists
      ∙ ap (λ b. (record s { lists = next }, replied b)) a.told
      ∙ ap (λ x. (x, replied reply)) (sym to);
  world = subst (λ h. Touches h ask (list_answer_to s.lists ask a.met).1 a.met.at old new) (sym a.enough) a.leaves;
}

-- One for which memory was wanting.
pub asked_in_vain : (s t : Seen) (id : Id) (ask : Ask) (old new : WorldState) → MayLeave ask old new → t ≡ s → Answered s (asks id ask) t (no_memory id) old new
asked_in_vain s t id ask old new may to = record { met = met_with Lacking; faults = old.faults; loads = lacking_loaded old.holds no_files old.faults; lawful = tt; answer = ap (λ x. (x, no_memory id)) (sym to); world = may }

-- The same by what the question's call gives.
pub asked_by : (s t : Seen) (id : Id) (ask : Ask) (next : Lists) (r : Result (Vec ℕ Global) AllocError) (old new : WorldState)
    → IfOk r (λ reply. Answers s.lists ask id next reply.items old new) → OnErr r (next ≡ s.lists) → OnErr r (MayLeave ask old new) → t ≡ record s { lists = next }
    → Answered s (asks id ask) t (replied_or id r) old new
asked_by s t id ask next (Ok reply) old new a u m to = asked s t id ask next reply.items old new a to
asked_by s t id ask next (Err e) old new a u m to = asked_in_vain s t id ask old new m (to ∙ ap (λ l. record s { lists = l }) u)

pub said : (s t : Seen) (id : Option Id) (reply : Reply) (bytes : List ℕ) (old new : WorldState) → bytes ≡ reply_text id reply → t ≡ s → new ≡ old → Answered s (says id reply) t (replied bytes) old new
said s t id reply bytes old new told to same = record {
  met = met_with Enough;
  faults = old.faults;
  loads = none_loaded old.holds old.faults;
  lawful = tt;
  answer = ap (λ b. (s, replied b)) (sym told) ∙ ap (λ x. (x, replied bytes)) (sym to);
  world = same;
}

pub said_in_vain : (s t : Seen) (id : Id) (reply : Reply) (old new : WorldState) → t ≡ s → new ≡ old → Answered s (says (Some id) reply) t (no_memory id) old new
said_in_vain s t id reply old new to same = record { met = met_with Lacking; faults = old.faults; loads = lacking_loaded old.holds no_files old.faults; lawful = tt; answer = ap (λ x. (x, no_memory id)) (sym to); world = same }

pub said_by : (s t : Seen) (id : Id) (reply : Reply) (r : Result (Vec ℕ Global) AllocError) (old new : WorldState) → IfOk r (λ b. b.items ≡ reply_text (Some id) reply) → t ≡ s → new ≡ old → Answered s (says (Some id) reply) t (replied_or id r) old new
said_by s t id reply (Ok b) old new told to same = said s t (Some id) reply b.items old new told to same
said_by s t id reply (Err e) old new told to same = said_in_vain s t id reply old new to same

pub lacked : (s t : Seen) (id : Id) (old new : WorldState) → t ≡ s → new ≡ old → Answered s (lacks id) t (no_memory id) old new
lacked s t id old new to same = record { met = met_with Enough; faults = old.faults; loads = none_loaded old.holds old.faults; lawful = tt; answer = ap (λ x. (x, no_memory id)) (sym to); world = same }

pub started : (s t : Seen) (id : Id) (options : Initialize) (bytes : List ℕ) (old new : WorldState) → bytes ≡ reply_text (Some id) (result capabilities) → t ≡ record s { phase = Running; options = options } → new ≡ old → Answered s (starts id options) t (replied bytes) old new
started s t id options bytes old new told to same = record {
  met = met_with Enough;
  faults = old.faults;
  loads = none_loaded old.holds old.faults;
  lawful = tt;
  answer = ap (λ b. (record s { phase = Running; options = options }, replied b)) (sym told) ∙ ap (λ x. (x, replied bytes)) (sym to);
  world = same;
}

pub started_in_vain : (s t : Seen) (id : Id) (options : Initialize) (old new : WorldState) → t ≡ s → new ≡ old → Answered s (starts id options) t (no_memory id) old new
started_in_vain s t id options old new to same = record { met = met_with Lacking; faults = old.faults; loads = lacking_loaded old.holds no_files old.faults; lawful = tt; answer = ap (λ x. (x, no_memory id)) (sym to); world = same }

pub stopped : (s t : Seen) (id : Id) (bytes : List ℕ) (old new : WorldState) → bytes ≡ reply_text (Some id) (result null) → t ≡ record s { phase = Stopped } → new ≡ old → Answered s (stops id) t (replied bytes) old new
stopped s t id bytes old new told to same = record {
  met = met_with Enough;
  faults = old.faults;
  loads = none_loaded old.holds old.faults;
  lawful = tt;
  answer = ap (λ b. (record s { phase = Stopped }, replied b)) (sym told) ∙ ap (λ x. (x, replied bytes)) (sym to);
  world = same;
}

pub stopped_in_vain : (s t : Seen) (id : Id) (old new : WorldState) → t ≡ s → new ≡ old → Answered s (stops id) t (no_memory id) old new
stopped_in_vain s t id old new to same = record { met = met_with Lacking; faults = old.faults; loads = lacking_loaded old.holds no_files old.faults; lawful = tt; answer = ap (λ x. (x, no_memory id)) (sym to); world = same }

pub dropped : (s t : Seen) (old new : WorldState) → t ≡ s → new ≡ old → Answered s drops t silent old new
dropped s t old new to same = record { met = met_with Enough; faults = old.faults; loads = none_loaded old.holds old.faults; lawful = tt; answer = ap (λ x. (x, silent)) (sym to); world = same }

-- Memory was wanting and the session ends, whatever was meant.
pub ended : (s t : Seen) (meaning : Meaning) (old new : WorldState) → t ≡ s → new ≡ old → Answered s meaning t lost old new
ended s t meaning old new to same = record { met = met_with Ending; faults = old.faults; loads = ending_loaded old.holds (files_in meaning) old.faults; lawful = tt; answer = ap (λ x. (x, lost)) (sym to); world = same }

-- The answer to a body that is a message, to one that is a response, and where it couldn't be read.
pub meets_heard : (s t : Seen) (body : List ℕ) (h : Option Heard) (outcome : Outcome) (old new : WorldState) → message_of body ≡ h → Answered s (meaning_in s h) t outcome old new → Meets s body t outcome old new
meets_heard s t body h outcome old new is a = subst (λ h. Answered s (meaning_in s h) t outcome old new) (sym is) a

pub meets_response : (s t : Seen) (body : List ℕ) (old new : WorldState) → message_of body ≡ Some response → t ≡ s → new ≡ old → Meets s body t silent old new
meets_response s t body old new is to same = meets_heard s t body (Some response) silent old new is (dropped s t old new to same)

pub meets_end : (s t : Seen) (body : List ℕ) (old new : WorldState) → t ≡ s → new ≡ old → Meets s body t lost old new
meets_end s t body old new to same = ended s t (meaning_of s body) old new to same

-- The reply to a command, and to a request by its method.
use Rattle.std.proofs.Common.{◌≡◌, ℕ, sym, ap, subst, refl, List, true, false, Option, Some, Result, Ok, Err, Vec, Global}
use Rattle.std.specs.Prelude.{IfOk, OnErr, codes, bytes_eq}
use Rattle.std.specs.declared.alloc.AllocError.{AllocError}
use Rattle.serde_json.specs.Data.{Data}
use Rattle.decl_index.specs.declared.change.Change.TheVariants.{Withdraw, SetWeights}
use Rattle.decl_index.specs.declared.weights.Weights.{Weights}
use Rattle.json_rpc.specs.declared.message.Id.{Id}
use Rattle.lsp_forms.specs.declared.forms.Command.{Command}
use Rattle.lsp_forms.specs.declared.forms.Command.TheVariants as command
use Rattle.lsp_forms.specs.Forms.{completion_of}
use Rattle.lsp_forms.specs.Commands.{command_of}
use Rattle.answers.specs.Cursors.{Lists}
use Rattle.answers.specs.Asks.{page, close, explain}
use Rattle.answers.specs.Sessions.{Seen}
use Rattle.answers.specs.Replies.{failure, reply_text}
use Rattle.answers.specs.Failures.{invalid_request, unknown_method}
use Rattle.answers.specs.Messages.{Outcome, publishes, stops, running_request, completion_by, command_by}
use Rattle.sessions.specs.Worlds.{WorldState, MayRead}
use Rattle.sessions.specs.Questions.{Answers}
use Rattle.sessions.specs.Outcomes.{replied_or}
use Rattle.sessions.specs.Meets.{Answered}
use Rattle.sessions.specs.Publications.{Learns}
use Rattle.sessions.specs.Changed.{IsChanged}
use Rattle.sessions.proofs.Answering.{asked_by, said_by}
use Rattle.sessions.proofs.Changing.{changed_by}
use Rattle.sessions.proofs.Methods.{running_completion, running_command, running_shutdown, running_initialize, running_other}

-- A command by its form.
formed : (s t : Seen) (id : Id) (d : Data) (x : Command) (said : Outcome) (old new : WorldState)
    → command_of d ≡ Ok x → Answered s (command_by id (Ok x)) t said old new → Answered s (command_by id (command_of d)) t said old new
formed s t id d x said old new is a = subst (λ m. Answered s m t said old new) (sym (ap (command_by id) is)) a

-- A further page.
pub pages : (s t : Seen) (id : Id) (d : Data) (k n : ℕ) (lists next : Lists) (r : Result (Vec ℕ Global) AllocError) (old new : WorldState)
    → command_of d ≡ Ok (command.Page k n) → lists ≡ s.lists
    → IfOk r (λ reply. Answers lists (page k n) id next reply.items old new) → OnErr r (next ≡ lists) → OnErr r (MayRead old new) → t ≡ record s { lists = next }
    → Answered s (command_by id (command_of d)) t (replied_or id r) old new
pages s t id d k n lists next r old new is from answers unchanged no_memory to =
    let here : IfOk r (λ reply. Answers s.lists (page k n) id next reply.items old new) = subst (λ l. IfOk r (λ reply. Answers l (page k n) id next reply.items old new)) from answers in
    let kept : OnErr r (next ≡ s.lists) = subst (λ l. OnErr r (next ≡ l)) from unchanged in
    formed s t id d (command.Page k n) (replied_or id r) old new is (asked_by s t id (page k n) next r old new here kept no_memory to)

-- A list is closed, and the world isn't touched.
closed_at : (l : Lists) (id : Id) (k : ℕ) (next : Lists) (r : Result (Vec ℕ Global) AllocError) (w : WorldState)
    → IfOk r (λ reply. (v : WorldState) → Answers l (close k) id next reply.items v v) → IfOk r (λ reply. Answers l (close k) id next reply.items w w)
closed_at l id k next (Ok b) w h = h w
closed_at l id k next (Err e) w h = tt

untouched : (r : Result (Vec ℕ Global) AllocError) (w : WorldState) → OnErr r (w ≡ w)
untouched (Ok b) w = tt
untouched (Err e) w = refl

stays_put : (r : Result (Vec ℕ Global) AllocError) (l : Lists) → OnErr r (l ≡ l)
stays_put (Ok b) l = tt
stays_put (Err e) l = refl

untouched_by : (r : Result (Vec ℕ Global) AllocError) (old new : WorldState) → new ≡ old → OnErr r (new ≡ old)
untouched_by (Ok b) old new same = tt
untouched_by (Err e) old new same = same

pub closes : (s t : Seen) (id : Id) (d : Data) (k : ℕ) (lists next : Lists) (r : Result (Vec ℕ Global) AllocError) (w : WorldState)
    → command_of d ≡ Ok (command.Close k) → lists ≡ s.lists
    → IfOk r (λ reply. (v : WorldState) → Answers lists (close k) id next reply.items v v) → OnErr r (next ≡ lists) → t ≡ record s { lists = next }
    → Answered s (command_by id (command_of d)) t (replied_or id r) w w
closes s t id d k lists next r w is from answers unchanged to =
    let here : IfOk r (λ reply. Answers s.lists (close k) id next reply.items w w) = subst (λ l. IfOk r (λ reply. Answers l (close k) id next reply.items w w)) from (closed_at lists id k next r w answers) in
    let kept : OnErr r (next ≡ s.lists) = subst (λ l. OnErr r (next ≡ l)) from unchanged in
    formed s t id d (command.Close k) (replied_or id r) w w is (asked_by s t id (close k) next r w w here kept (untouched r w) to)

-- An item of a list, or a list, is explained, and the world isn't touched.
pub explains : (s t : Seen) (id : Id) (d : Data) (k : ℕ) (item : Option ℕ) (lists : Lists) (r : Result (Vec ℕ Global) AllocError) (old new : WorldState)
    → command_of d ≡ Ok (command.Explain k item) → lists ≡ s.lists
    → IfOk r (λ reply. Answers lists (explain k item) id lists reply.items old new) → new ≡ old → t ≡ s
    → Answered s (command_by id (command_of d)) t (replied_or id r) old new
explains s t id d k item lists r old new is from answers same to =
    let here : IfOk r (λ reply. Answers s.lists (explain k item) id s.lists reply.items old new) = subst (λ l. IfOk r (λ reply. Answers l (explain k item) id l reply.items old new)) from answers in
    formed s t id d (command.Explain k item) (replied_or id r) old new is (asked_by s t id (explain k item) s.lists r old new here (stays_put r s.lists) (untouched_by r old new same) to)

-- A publication.
pub publishes_so : (s t : Seen) (id : Id) (d : Data) (puts removes : List (List ℕ)) (counts : List (List ℕ × ℕ)) (sources known : List (List ℕ)) (r : Result (Vec ℕ Global) AllocError) (old new : WorldState)
    → command_of d ≡ Ok (command.Publish puts removes counts sources known) → ((s : Seen) → Answered s (publishes id (record { puts = puts; sources = sources; known = known }) removes counts) s (replied_or id r) old new) → t ≡ s
    → Answered s (command_by id (command_of d)) t (replied_or id r) old new
publishes_so s t id d puts removes counts sources known r old new is a to =
    formed s t id d (command.Publish puts removes counts sources known) (replied_or id r) old new is (subst (λ x. Answered s (publishes id (record { puts = puts; sources = sources; known = known }) removes counts) x (replied_or id r) old new) (sym to) (a s))

-- A withdrawal.
pub withdraws_so : (s t : Seen) (id : Id) (d : Data) (through : ℕ) (r : Result (Vec ℕ Global) AllocError) (old new : WorldState)
    → command_of d ≡ Ok (command.Withdraw through) → IfOk r (λ reply. IsChanged (Withdraw through) id reply.items old new) → OnErr r (Learns old new) → t ≡ s
    → Answered s (command_by id (command_of d)) t (replied_or id r) old new
withdraws_so s t id d through r old new is changed learns to =
    formed s t id d (command.Withdraw through) (replied_or id r) old new is (changed_by s t id (Withdraw through) r old new changed learns to)

-- A setting of weights.
pub sets_so : (s t : Seen) (id : Id) (d : Data) (w : Weights) (r : Result (Vec ℕ Global) AllocError) (old new : WorldState)
    → command_of d ≡ Ok (command.SetWeights w) → IfOk r (λ reply. IsChanged (SetWeights w) id reply.items old new) → OnErr r (Learns old new) → t ≡ s
    → Answered s (command_by id (command_of d)) t (replied_or id r) old new
sets_so s t id d w r old new is changed learns to =
    formed s t id d (command.SetWeights w) (replied_or id r) old new is (changed_by s t id (SetWeights w) r old new changed learns to)

-- A request by its method.
pub by_completion : (s t : Seen) (id : Id) (method : List ℕ) (d : Data) (said : Outcome) (old new : WorldState)
    → bytes_eq method (codes "textDocument/completion") ≡ true → Answered s (completion_by s id (completion_of d)) t said old new → Answered s (running_request s id method d) t said old new
by_completion s t id method d said old new a h = subst (λ m. Answered s m t said old new) (running_completion s id method d a) h

pub by_command : (s t : Seen) (id : Id) (method : List ℕ) (d : Data) (said : Outcome) (old new : WorldState)
    → bytes_eq method (codes "textDocument/completion") ≡ false → bytes_eq method (codes "workspace/executeCommand") ≡ true
    → Answered s (command_by id (command_of d)) t said old new → Answered s (running_request s id method d) t said old new
by_command s t id method d said old new a b h = subst (λ m. Answered s m t said old new) (running_command s id method d a b) h

pub by_shutdown : (s t : Seen) (id : Id) (method : List ℕ) (d : Data) (said : Outcome) (old new : WorldState)
    → bytes_eq method (codes "textDocument/completion") ≡ false → bytes_eq method (codes "workspace/executeCommand") ≡ false → bytes_eq method (codes "shutdown") ≡ true
    → ((w : WorldState) → Answered s (stops id) t said w w) → new ≡ old → Answered s (running_request s id method d) t said old new
by_shutdown s t id method d said old new a b e h same =
    subst (λ w. Answered s (running_request s id method d) t said old w) (sym same) (subst (λ m. Answered s m t said old old) (running_shutdown s id method d a b e) (h old))

pub by_initialize : (s t : Seen) (id : Id) (method : List ℕ) (d : Data) (r : Result (Vec ℕ Global) AllocError) (old new : WorldState)
    → bytes_eq method (codes "textDocument/completion") ≡ false → bytes_eq method (codes "workspace/executeCommand") ≡ false → bytes_eq method (codes "shutdown") ≡ false
    → bytes_eq method (codes "initialize") ≡ true → IfOk r (λ b. b.items ≡ reply_text (Some id) (failure invalid_request)) → t ≡ s → new ≡ old
    → Answered s (running_request s id method d) t (replied_or id r) old new
by_initialize s t id method d r old new a b e f told to same =
    subst (λ m. Answered s m t (replied_or id r) old new) (running_initialize s id method d a b e f) (said_by s t id (failure invalid_request) r old new told to same)

pub by_none : (s t : Seen) (id : Id) (method : List ℕ) (d : Data) (r : Result (Vec ℕ Global) AllocError) (old new : WorldState)
    → bytes_eq method (codes "textDocument/completion") ≡ false → bytes_eq method (codes "workspace/executeCommand") ≡ false → bytes_eq method (codes "shutdown") ≡ false
    → bytes_eq method (codes "initialize") ≡ false → IfOk r (λ b. b.items ≡ reply_text (Some id) (failure unknown_method)) → t ≡ s → new ≡ old
    → Answered s (running_request s id method d) t (replied_or id r) old new
by_none s t id method d r old new a b e f told to same =
    subst (λ m. Answered s m t (replied_or id r) old new) (running_other s id method d a b e f) (said_by s t id (failure unknown_method) r old new told to same)

-- How a change is answered, and a publication.
use Rattle.std.proofs.Common.{◌≡◌, ◌∙◌, ℕ, sym, ap, subst, refl, inl, inr, ⊎_elim, ◌++◌, List, [], ◌∷◌, false, Some, None, Result, Ok, Err, Vec, Global}
use Rattle.std.specs.Prelude.{IfOk, OnErr, codes, decimal}
use Rattle.std.specs.declared.alloc.AllocError.{AllocError}
use Rattle.decl_index.specs.declared.change.Change.{Change}
use Rattle.decl_index.specs.declared.change.Change.TheVariants.{Publish}
use Rattle.decl_index.specs.declared.change.ChangeFault.{ChangeFault}
use Rattle.decl_index.specs.declared.change.ChangeFault.TheVariants.{OutOfMemory}
use Rattle.known_classes.specs.declared.summary.ClassSummary.{ClassSummary}
use Rattle.json_rpc.specs.declared.message.Id.{Id}
use Rattle.answers.specs.Asks.{change, other, Enough, Lacking, Met, Loaded, classes, missing, too_long, no_class_file, no_text, unreadable}
use Rattle.answers.specs.Failures.{Failure, invalid_params, no_class, read_fault, change_refused}
use Rattle.answers.specs.Sessions.{Seen}
use Rattle.answers.specs.Replies.{failure, reply_text}
use Rattle.answers.specs.declared.types.NamedFiles.{NamedFiles}
use Rattle.answers.specs.Messages.{asks, publishes, asked, said, published, ask_by, replied, no_memory}
use Rattle.answers.proofs.Chains.{prefix_is}
use Rattle.sessions.specs.Worlds.{WorldState}
use Rattle.sessions.specs.Publications.{Adds, Learns, Accepts, Declines, LeavesFiles}
use Rattle.sessions.specs.Loads.{GiveAll, IsLoaded, loads_of}
use Rattle.sessions.specs.Loading.{IsUnreadable}
use Rattle.sessions.specs.declared.loading.Files as code
use Rattle.sessions.specs.declared.loading.Files.TheVariants as variant
use Rattle.sessions.specs.Changed.{IsChangeMade, IsChangeRefused, IsChanged, OpensVersion}
use Rattle.sessions.specs.Texts.{version_text}
use Rattle.sessions.specs.Outcomes.{replied_or}
use Rattle.sessions.specs.Meets.{Answered}
use Rattle.sessions.proofs.Answering.{met_with, none_loaded, asked_in_vain}
use Rattle.terms.specs.Weights.{usual_steps}

-- What a change meets that is made at a history, and one that is refused after it.
abbrev made_at : Loaded → List Change → Met
made_at loads at = record { at = at; loads = loads; site = None; env = record { types = []; pairs = []; decls = []; goal = 0; limit = 0; depth = 0; binder = []; steps = usual_steps }; page = record { items = []; last = false; grown = 0 }; term = None; floors = []; fault = None; short = Enough }

abbrev refused_at : Loaded → List Change → ChangeFault → Met
refused_at loads at fault = record { at = at; loads = loads; site = None; env = record { types = []; pairs = []; decls = []; goal = 0; limit = 0; depth = 0; binder = []; steps = usual_steps }; page = record { items = []; last = false; grown = 0 }; term = None; floors = []; fault = Some fault; short = Enough }

-- The session and the reply are those of the change.
made_answer : (s t : Seen) (id : Id) (c : Change) (loads : Loaded) (reply : List ℕ) (old new : WorldState) (m : IsChangeMade c id reply old new) → t ≡ s
    → asked s id (change c) (made_at loads m.accepts.at) ≡ (t, replied reply)
made_answer s t id c loads reply old new m to =
    ap (λ n. (s, replied (version_text id n))) (sym m.accepts.counted) ∙ ap (λ b. (s, replied b)) (sym m.told) ∙ ap (λ x. (x, replied reply)) (sym to)

refused_answer : (s t : Seen) (id : Id) (c : Change) (loads : Loaded) (reply : List ℕ) (old new : WorldState) (r : IsChangeRefused c id reply old new) → t ≡ s
    → asked s id (change c) (refused_at loads new.known r.fault) ≡ (t, replied reply)
refused_answer s t id c loads reply old new r to = ap (λ b. (s, replied b)) (sym r.told) ∙ ap (λ x. (x, replied reply)) (sym to)

-- Where nothing happened nothing is learnt.
pub nothing_learnt : (old new : WorldState) → new ≡ old → Learns old new
nothing_learnt old new e = record {
  later = prefix_is old.known new.known (ap (λ (x : WorldState). x.known) (sym e));
  reads = ap (λ (x : WorldState). x.reads) e;
  whole = ap (λ (x : WorldState). x.whole) e;
  holds = ap (λ (x : WorldState). x.holds) e;
  faults = ap (λ (x : WorldState). x.faults) e;
}

-- A change that is asked for without files.
changed : (s t : Seen) (id : Id) (c : Change) (reply : List ℕ) (old new : WorldState) → IsChanged c id reply old new → t ≡ s → Answered s (asks id (change c)) t (replied reply) old new
changed s t id c reply old new (inl m) to = record {
  met = made_at (classes []) m.accepts.at;
  faults = old.faults;
  loads = none_loaded old.holds old.faults;
  lawful = m.accepts.lawful;
  answer = made_answer s t id c (classes []) reply old new m to;
  world = m.accepts.adds;
}
changed s t id c reply old new (inr r) to = record {
  met = refused_at (classes []) new.known r.fault;
  faults = old.faults;
  loads = none_loaded old.holds old.faults;
  lawful = r.refuses;
  answer = refused_answer s t id c (classes []) reply old new r to;
  world = (refl, r.newest, r.learns);
}

pub changed_by : (s t : Seen) (id : Id) (c : Change) (r : Result (Vec ℕ Global) AllocError) (old new : WorldState)
    → IfOk r (λ reply. IsChanged c id reply.items old new) → OnErr r (Learns old new) → t ≡ s → Answered s (asks id (change c)) t (replied_or id r) old new
changed_by s t id c (Ok b) old new h l to = changed s t id c b.items old new h to
changed_by s t id c (Err e) old new h l to = asked_in_vain s t id (change c) old new l to

-- What loading files left of the world, where none was named.
abbrev pub NoneMoves : NamedFiles → WorldState → WorldState → Type 0
NoneMoves files old new = files.puts ≡ [] → files.sources ≡ [] → new ≡ old

no_fault : (files : NamedFiles) (old new : WorldState) → NoneMoves files old new → files.puts ≡ [] → files.sources ≡ [] → new.faults ≡ old.faults
no_fault files old new none e f = ap (λ (x : WorldState). x.faults) (none e f)

-- The files of a publication gave their classes.
loaded : (files : NamedFiles) (puts : List ClassSummary) (old mid : WorldState) {P : Type 0} → GiveAll old.holds files (classes puts) → LeavesFiles P old mid → NoneMoves files old mid
    → IsLoaded Enough old.holds files (classes puts) old.faults mid.faults
loaded files puts old mid gives leaves none = record { gives = gives; later = leaves.later; cause = λ i e. absurd cc; none = no_fault files old mid none }

lacking : (files : NamedFiles) (old mid : WorldState) {P : Type 0} → LeavesFiles P old mid → NoneMoves files old mid → IsLoaded Lacking old.holds files (classes []) old.faults mid.faults
lacking files old mid leaves none = record { gives = tt; later = leaves.later; cause = λ i e. absurd cc; none = no_fault files old mid none }

-- The change of a publication was answered.
published_so : (s : Seen) (id : Id) (files : NamedFiles) (removes : List (List ℕ)) (counts : List (List ℕ × ℕ)) (puts : List ClassSummary) (reply : List ℕ) (old mid new : WorldState) {P : Type 0}
    → GiveAll old.holds files (classes puts) → LeavesFiles P old mid → NoneMoves files old mid → IsChanged (Publish puts removes counts) id reply mid new
    → Answered s (publishes id files removes counts) s (replied reply) old new
published_so s id files removes counts puts reply old mid new gives leaves none (inl m) = record {
  met = made_at (classes puts) m.accepts.at;
  faults = mid.faults;
  loads = loaded files puts old mid gives leaves none;
  lawful = m.accepts.lawful;
  answer = made_answer s s id (Publish puts removes counts) (classes puts) reply mid new m refl;
  world = subst (λ w. Adds m.accepts.at (Publish puts removes counts ∷ []) w new) leaves.same m.accepts.adds;
}
published_so s id files removes counts puts reply old mid new gives leaves none (inr r) = record {
  met = refused_at (classes puts) new.known r.fault;
  faults = mid.faults;
  loads = loaded files puts old mid gives leaves none;
  lawful = r.refuses;
  answer = refused_answer s s id (Publish puts removes counts) (classes puts) reply mid new r refl;
  world = (refl, r.newest, subst (λ w. Learns w new) leaves.same r.learns);
}

-- There was no memory for it.
unpublished : (s : Seen) (id : Id) (files : NamedFiles) (removes : List (List ℕ)) (counts : List (List ℕ × ℕ)) (old mid new : WorldState) {P : Type 0}
    → LeavesFiles P old mid → NoneMoves files old mid → Learns mid new → Answered s (publishes id files removes counts) s (no_memory id) old new
unpublished s id files removes counts old mid new leaves none learns = record {
  met = met_with Lacking;
  faults = mid.faults;
  loads = lacking files old mid leaves none;
  lawful = tt;
  answer = refl;
  world = subst (λ w. Learns w new) leaves.same learns;
}

published_by : (s : Seen) (id : Id) (files : NamedFiles) (removes : List (List ℕ)) (counts : List (List ℕ × ℕ)) (puts : List ClassSummary) (r : Result (Vec ℕ Global) AllocError) (old mid new : WorldState) {P : Type 0}
    → GiveAll old.holds files (classes puts) → LeavesFiles P old mid → NoneMoves files old mid → IfOk r (λ reply. IsChanged (Publish puts removes counts) id reply.items mid new) → OnErr r (Learns mid new)
    → Answered s (publishes id files removes counts) s (replied_or id r) old new
published_by s id files removes counts puts (Ok b) old mid new gives leaves none h l = published_so s id files removes counts puts b.items old mid new gives leaves none h
published_by s id files removes counts puts (Err e) old mid new gives leaves none h l = unpublished s id files removes counts old mid new leaves none l

-- There was no memory for its files.
pub unloaded : (s : Seen) (id : Id) (files : NamedFiles) (removes : List (List ℕ)) (counts : List (List ℕ × ℕ)) (old new : WorldState) {P : Type 0}
    → LeavesFiles P old new → NoneMoves files old new → Answered s (publishes id files removes counts) s (no_memory id) old new
unloaded s id files removes counts old new leaves none = unpublished s id files removes counts old new new leaves none (nothing_learnt new new refl)

-- What loading the files of a publication left, by what it answered.
pub record HasLoaded (files : NamedFiles) (given : code.Files) (old new : WorldState) : Type 0 where
  pub gives : GiveAll old.holds files (loads_of given)
  pub leaves : LeavesFiles (IsUnreadable (Ok given)) old new
  pub none : NoneMoves files old new

pub has_loaded : (files : NamedFiles) (given : code.Files) (old new : WorldState) → GiveAll old.holds files (loads_of given) → LeavesFiles (IsUnreadable (Ok given)) old new → NoneMoves files old new → HasLoaded files given old new
has_loaded files given old new gives leaves none = record { gives = gives; leaves = leaves; none = none }

told_here : (files : NamedFiles) (given other_files : code.Files) (old new : WorldState) → HasLoaded files given old new → given ≡ other_files → GiveAll old.holds files (loads_of other_files)
told_here files given other_files old new h is = subst (λ f. GiveAll old.holds files (loads_of f)) is h.gives

pub classes_told : (s : Seen) (id : Id) (files : NamedFiles) (removes : List (List ℕ)) (counts : List (List ℕ × ℕ)) (given : code.Files) (puts : List ClassSummary) (r : Result (Vec ℕ Global) AllocError) (old mid new : WorldState)
    → HasLoaded files given old mid → given ≡ variant.Classes puts → IfOk r (λ reply. IsChanged (Publish puts removes counts) id reply.items mid new) → OnErr r (Learns mid new)
    → Answered s (publishes id files removes counts) s (replied_or id r) old new
classes_told s id files removes counts given puts r old mid new h is changed learns =
    published_by s id files removes counts puts r old mid new (told_here files given (variant.Classes puts) old mid h is) h.leaves h.none changed learns

abbrev met_files : Loaded → Met
met_files loads = record { at = []; loads = loads; site = None; env = record { types = []; pairs = []; decls = []; goal = 0; limit = 0; depth = 0; binder = []; steps = usual_steps }; page = record { items = []; last = false; grown = 0 }; term = None; floors = []; fault = None; short = Enough }

-- One of its files gave nothing.
file_told : (s : Seen) (id : Id) (files : NamedFiles) (removes : List (List ℕ)) (counts : List (List ℕ × ℕ)) (o : Loaded) (f : Failure) (r : Result (Vec ℕ Global) AllocError) (old new : WorldState) {P : Type 0}
    → ((m : Met) → published s id removes counts m o ≡ said s (Some id) (failure f)) → ask_by removes counts o ≡ other → ((i : ℕ) → o ≡ unreadable i → P)
    → GiveAll old.holds files o → LeavesFiles P old new → NoneMoves files old new → Learns new new → IfOk r (λ b. b.items ≡ reply_text (Some id) (failure f))
    → Answered s (publishes id files removes counts) s (replied_or id r) old new
file_told s id files removes counts o f (Ok b) old new is quiet fails gives leaves none learns told = record {
  met = met_files o;
  faults = new.faults;
  loads = record { gives = gives; later = leaves.later; cause = λ i e. leaves.cause (fails i e); none = no_fault files old new none };
  lawful = rw quiet tt;
  answer = is (met_files o) ∙ ap (λ x. (s, replied x)) (sym told);
  world = rw quiet leaves.same;
}
file_told s id files removes counts o f (Err e) old new is quiet fails gives leaves none learns told = unpublished s id files removes counts old new new leaves none learns

-- The first file that gave nothing, by its kind.
pub missing_told : (s : Seen) (id : Id) (files : NamedFiles) (removes : List (List ℕ)) (counts : List (List ℕ × ℕ)) (given : code.Files) (index : ℕ) (r : Result (Vec ℕ Global) AllocError) (old new : WorldState)
    → HasLoaded files given old new → given ≡ variant.Missing index → IfOk r (λ b. b.items ≡ reply_text (Some id) (failure (invalid_params 9 index))) → Answered s (publishes id files removes counts) s (replied_or id r) old new
missing_told s id files removes counts given index r old new h is told =
    file_told s id files removes counts (missing index) (invalid_params 9 index) r old new (λ m. refl) refl (λ i e. absurd cc) (told_here files given (variant.Missing index) old new h is) h.leaves h.none (nothing_learnt new new refl) told

pub too_long_told : (s : Seen) (id : Id) (files : NamedFiles) (removes : List (List ℕ)) (counts : List (List ℕ × ℕ)) (given : code.Files) (index : ℕ) (r : Result (Vec ℕ Global) AllocError) (old new : WorldState)
    → HasLoaded files given old new → given ≡ variant.TooLong index → IfOk r (λ b. b.items ≡ reply_text (Some id) (failure (invalid_params 10 index))) → Answered s (publishes id files removes counts) s (replied_or id r) old new
too_long_told s id files removes counts given index r old new h is told =
    file_told s id files removes counts (too_long index) (invalid_params 10 index) r old new (λ m. refl) refl (λ i e. absurd cc) (told_here files given (variant.TooLong index) old new h is) h.leaves h.none (nothing_learnt new new refl) told

pub no_class_told : (s : Seen) (id : Id) (files : NamedFiles) (removes : List (List ℕ)) (counts : List (List ℕ × ℕ)) (given : code.Files) (index class_fault place : ℕ) (r : Result (Vec ℕ Global) AllocError) (old new : WorldState)
    → HasLoaded files given old new → given ≡ variant.NoClass index class_fault place → IfOk r (λ b. b.items ≡ reply_text (Some id) (failure (no_class index class_fault place))) → Answered s (publishes id files removes counts) s (replied_or id r) old new
no_class_told s id files removes counts given index class_fault place r old new h is told =
    file_told s id files removes counts (no_class_file index class_fault place) (no_class index class_fault place) r old new (λ m. refl) refl (λ i e. absurd cc) (told_here files given (variant.NoClass index class_fault place) old new h is) h.leaves h.none (nothing_learnt new new refl) told

pub no_text_told : (s : Seen) (id : Id) (files : NamedFiles) (removes : List (List ℕ)) (counts : List (List ℕ × ℕ)) (given : code.Files) (index : ℕ) (r : Result (Vec ℕ Global) AllocError) (old new : WorldState)
    → HasLoaded files given old new → given ≡ variant.NoText index → IfOk r (λ b. b.items ≡ reply_text (Some id) (failure (invalid_params 21 index))) → Answered s (publishes id files removes counts) s (replied_or id r) old new
no_text_told s id files removes counts given index r old new h is told =
    file_told s id files removes counts (no_text index) (invalid_params 21 index) r old new (λ m. refl) refl (λ i e. absurd cc) (told_here files given (variant.NoText index) old new h is) h.leaves h.none (nothing_learnt new new refl) told

pub unreadable_told : (s : Seen) (id : Id) (files : NamedFiles) (removes : List (List ℕ)) (counts : List (List ℕ × ℕ)) (given : code.Files) (index : ℕ) (r : Result (Vec ℕ Global) AllocError) (old new : WorldState)
    → HasLoaded files given old new → given ≡ variant.Unreadable index → IfOk r (λ b. b.items ≡ reply_text (Some id) (failure (read_fault index))) → Answered s (publishes id files removes counts) s (replied_or id r) old new
unreadable_told s id files removes counts given index r old new h is told =
    file_told s id files removes counts (unreadable index) (read_fault index) r old new (λ m. refl) refl (λ i e. subst (λ f. IsUnreadable (Ok f)) (sym is) tt)
    (told_here files given (variant.Unreadable index) old new h is) h.leaves h.none (nothing_learnt new new refl) told

-- The change was made, and the reply is its opening with its version.
pub made_by : (id : Id) (c : Change) (opening reply : List ℕ) (number : ℕ) (old new : WorldState) → OpensVersion id opening → Accepts c number old new → reply ≡ opening ++ (decimal number ++ codes "}}") → IsChanged c id reply old new
made_by id c opening reply number old new opens accepts is = inl (record { number = number; accepts = accepts; told = is ∙ sym (opens number) })

refuses_by : (id : Id) (c : Change) (fault : ChangeFault) (reply : List ℕ) (old new : WorldState) → (fault ≡ OutOfMemory → ⊥) → Declines c fault old new → reply ≡ reply_text (Some id) (failure (change_refused fault)) → IsChanged c id reply old new
refuses_by id c fault reply old new some declines told = ⊎_elim (λ e. absurd (some e)) (λ r. inr (record { fault = fault; refuses = r.0; newest = r.1; learns = declines.learns; told = told })) declines.cause

-- It was refused for another cause than want of memory.
pub refused_by : (id : Id) (c : Change) (fault : ChangeFault) (r : Result (Vec ℕ Global) AllocError) (old new : WorldState) → (fault ≡ OutOfMemory → ⊥) → Declines c fault old new
    → IfOk r (λ b. b.items ≡ reply_text (Some id) (failure (change_refused fault))) → IfOk r (λ b. IsChanged c id b.items old new)
refused_by id c fault (Ok b) old new some declines told = refuses_by id c fault b.items old new some declines told
refused_by id c fault (Err e) old new some declines told = tt

-- What was learnt at a refusal, or where nothing was asked.
pub declined_learns : (c : Change) (fault : ChangeFault) (r : Result (Vec ℕ Global) AllocError) (old new : WorldState) → Declines c fault old new → OnErr r (Learns old new)
declined_learns c fault (Ok b) old new declines = tt
declined_learns c fault (Err e) old new declines = declines.learns

pub ruleset changes = (made_by, refused_by, declined_learns, nothing_learnt)

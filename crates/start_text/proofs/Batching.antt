-- Files that are taken one after the other, and parsed in batches.
use Rattle.std.proofs.Common.{◌≡◌, ◌∙◌, ap, sym, subst, refl, inl, inr, rules, true, ℕ, ◌+◌, ◌<◌, ◌≤◌, get_or, ◌⊎◌, List, [], ◌∷◌, ◌++◌, length, map, Option, Some, None, Result, Ok, Err}
use Rattle.std.specs.Str.Lines.{lines}
use Rattle.std.specs.Prelude.{IfOk, OnOk, IsErrOf, nat_le, nat_lt, option_map, if◌then◌else◌, slice_get}
use Rattle.std.specs.List.{filter_map, cons_option, AllZip}
use Rattle.std.proofs.lemmas.List.{append_assoc, append-nil, map-append}
use Rattle.std.proofs.lemmas.List.Elements.{filter_map-append, All-head, All-tail}
use Rattle.outside.specs.Held.{held_under, longest_load}
use Rattle.outside.specs.declared.shelf.HeldFile.{HeldFile}
use Rattle.class_shape.specs.Violations.{first_violation}
use Rattle.class_pool.specs.declared.fault.ClassFault.{ClassFault}
use Rattle.known_classes.specs.declared.summary.ClassSummary.{ClassSummary}
use Rattle.class_batches.specs.Batches.{AreShort}
use Rattle.class_batches.specs.Classes.{IsSummaryOf, AreSummariesOf}
use Rattle.class_batches.specs.Faults as batches
use Rattle.class_batches.specs.declared.fault.BatchFault.{BatchFault}
use Rattle.class_batches.specs.declared.fault.BatchFault.TheVariants as batch
use Rattle.start_text.specs.Lines.{paths_in}
use Rattle.start_text.specs.Faults.{IsOutside, Meets, of_batch}
use Rattle.start_text.specs.Starts.{file_fault, first_file_fault, IsClassOf, AreClassesOf}
use Rattle.start_text.specs.Taken.{held_for, as_held, wrong_among, AreAmong, AreTaken, Takes, Stops}
use Rattle.start_text.specs.declared.fault.StartFault.{StartFault}
use Rattle.start_text.specs.declared.fault.StartFault.TheVariants.{NoText, LongText, NotUtf8, NoFile, LongFile, NotClass, Refused, Failed, OutOfMemory}
use Rattle.start_text.proofs.Reading.{head-none, head-some, zip-append, path_at, paths_after, after-more, after-all}

-- Numbered files, each with what is held as it.
abbrev pub Held : Type 0
Held = List (ℕ × Option (List ℕ))

abbrev pub Taken : Type 0
Taken = List ClassSummary × List (ℕ × List ℕ)

-- Where nothing is wrong with the first files, the first fault is that of the others; else it is theirs.
pub wrong-behind : (xs ys : Held) → wrong_among xs ≡ None → wrong_among (xs ++ ys) ≡ wrong_among ys
wrong-behind xs ys e =
    let h = λ (file : ℕ × Option (List ℕ)). file_fault file.0 file.1 in
    ap (λ fs. slice_get fs 0) (filter_map-append h xs ys) ∙ head-none (filter_map h xs) (filter_map h ys) e

pub wrong-before : (xs ys : Held) (f : StartFault) → wrong_among xs ≡ Some f → wrong_among (xs ++ ys) ≡ Some f
wrong-before xs ys f e =
    let h = λ (file : ℕ × Option (List ℕ)). file_fault file.0 file.1 in
    ap (λ fs. slice_get fs 0) (filter_map-append h xs ys) ∙ head-some (filter_map h xs) (filter_map h ys) f e

among-append : (xs ys : Held) (cs ds : List ClassSummary) → AreAmong xs cs → AreAmong ys ds → AreAmong (xs ++ ys) (cs ++ ds)
among-append xs ys cs ds a b = zip-append (λ (file : ℕ × Option (List ℕ)) c. IsClassOf file.1 c) xs ys cs ds a b

-- Files of a start text.
pub wrong-named : (files : List HeldFile) (ps : List (ℕ × List ℕ)) → wrong_among (held_for files ps) ≡ first_file_fault files ps
wrong-named files ps = ap (λ fs. slice_get fs 0) (by ps)
  where
    by : (qs : List (ℕ × List ℕ)) → filter_map (λ (file : ℕ × Option (List ℕ)). file_fault file.0 file.1) (held_for files qs) ≡ filter_map (λ (p : ℕ × List ℕ). file_fault p.0 (held_under files p.1)) qs
    by [] = refl
    by (q ∷ qs) = ap (cons_option (file_fault q.0 (held_under files q.1))) (by qs)

pub among-named : (files : List HeldFile) (ps : List (ℕ × List ℕ)) (cs : List ClassSummary) → AreAmong (held_for files ps) cs → AreClassesOf files ps cs
among-named files [] [] a = tt
among-named files [] (c ∷ cs) a = absurd a
among-named files (p ∷ ps) [] a = absurd a
among-named files (p ∷ ps) (c ∷ cs) a = (a.0, among-named files ps cs a.1)

-- Files of a batch.
short_true : (m n : ℕ) → m ≤ n → nat_le m n ≡ true
short_true m n l = search rules

held-fault : (n : ℕ) (bytes : List ℕ) → length bytes ≤ longest_load → file_fault n (Some bytes) ≡ option_map (λ why. NotClass n why) (first_violation bytes)
held-fault n bytes l = rw (short_true (length bytes) longest_load l) refl

none-first : (o : Option ClassFault) (n : ℕ) (bs : List BatchFault) (fs : List StartFault) → (slice_get bs 0 ≡ None → slice_get fs 0 ≡ None)
    → slice_get (cons_option (option_map (λ why. batch.Broken n why) o) bs) 0 ≡ None → slice_get (cons_option (option_map (λ why. NotClass n why) o) fs) 0 ≡ None
none-first None n bs fs h e = h e
none-first (Some why) n bs fs h e = absurd cc

some-first : (o : Option ClassFault) (n : ℕ) (bs : List BatchFault) (fs : List StartFault) (f : BatchFault) → (slice_get bs 0 ≡ Some f → slice_get fs 0 ≡ Some (of_batch f))
    → slice_get (cons_option (option_map (λ why. batch.Broken n why) o) bs) 0 ≡ Some f → slice_get (cons_option (option_map (λ why. NotClass n why) o) fs) 0 ≡ Some (of_batch f)
some-first None n bs fs f h e = h e
some-first (Some why) n bs fs f h e = let is : batch.Broken n why ≡ f = cc in ap (λ g. Some (of_batch g)) is

abbrev Short : (ℕ × List ℕ) → Type 0
Short file = length file.1 ≤ 16777216

batch-sound : (files : List (ℕ × List ℕ)) → AreShort files → batches.first_broken files ≡ None → wrong_among (as_held files) ≡ None
batch-sound [] short e = refl
batch-sound (x ∷ files) short e =
    let rest = batch-sound files (All-tail Short x files short) in
    ap (λ o. slice_get (cons_option o (filter_map (λ (file : ℕ × Option (List ℕ)). file_fault file.0 file.1) (as_held files))) 0) (held-fault x.0 x.1 (All-head Short x files short))
    ∙ none-first (first_violation x.1) x.0 (filter_map batches.broken_by files) (filter_map (λ (file : ℕ × Option (List ℕ)). file_fault file.0 file.1) (as_held files)) rest e

batch-wrong : (files : List (ℕ × List ℕ)) (f : BatchFault) → AreShort files → batches.first_broken files ≡ Some f → wrong_among (as_held files) ≡ Some (of_batch f)
batch-wrong [] f short e = absurd cc
batch-wrong (x ∷ files) f short e =
    let rest = batch-wrong files f (All-tail Short x files short) in
    ap (λ o. slice_get (cons_option o (filter_map (λ (file : ℕ × Option (List ℕ)). file_fault file.0 file.1) (as_held files))) 0) (held-fault x.0 x.1 (All-head Short x files short))
    ∙ some-first (first_violation x.1) x.0 (filter_map batches.broken_by files) (filter_map (λ (file : ℕ × Option (List ℕ)). file_fault file.0 file.1) (as_held files)) f rest e

batch-classes : (files : List (ℕ × List ℕ)) (cs : List ClassSummary) → AreSummariesOf files cs → AreAmong (as_held files) cs
batch-classes [] [] a = tt
batch-classes [] (c ∷ cs) a = absurd a
batch-classes (x ∷ files) [] a = absurd a
batch-classes (x ∷ files) (c ∷ cs) a = (record { bytes = x.1; is_held = refl; shape = a.0.shape; is_file = a.0.is_file; kept = a.0.kept }, batch-classes files cs a.1)

-- What a batch gave, as what its files give.
pub parsed_sound : (files : List (ℕ × List ℕ)) → AreShort files → batches.first_broken files ≡ None → wrong_among (as_held files) ≡ None
parsed_sound files short e = batch-sound files short e

pub parsed_classes : (files : List (ℕ × List ℕ)) (cs : List ClassSummary) → AreSummariesOf files cs → AreAmong (as_held files) cs
parsed_classes files cs a = batch-classes files cs a

pub parsed_wrong : (files : List (ℕ × List ℕ)) (f : BatchFault) → AreShort files → (f ≡ batch.OutOfMemory) ⊎ (batches.first_broken files ≡ Some f) → IsOutside (of_batch f) ⊎ (wrong_among (as_held files) ≡ Some (of_batch f))
parsed_wrong files f short (inl e) = inl (subst (λ g. IsOutside (of_batch g)) (sym e) tt)
parsed_wrong files f short (inr e) = inr (batch-wrong files f short e)

-- It is no failure of the shelf.
pub batch_inside : {T : Type 0} (f : BatchFault) (r : Result T StartFault) → r ≡ Err (of_batch f) → IsErrOf r Failed → ⊥
batch_inside batch.OutOfMemory r is e = cc
batch_inside (batch.Broken n why) r is e = cc

-- One file more was taken.
pub none_taken : AreTaken [] ([], [])
none_taken = record { done = []; split = refl; sound = refl; classes = tt }

pub taken_more : (before : Held) (cs : List ClassSummary) (files now : List (ℕ × List ℕ)) (n : ℕ) (bytes : List ℕ) → now ≡ files ++ (n, bytes) ∷ [] → AreTaken before (cs, files) → AreTaken (before ++ (n, Some bytes) ∷ []) (cs, now)
taken_more before cs files now n bytes is h = record {
  done = h.done;
  split = ap (λ xs. xs ++ (n, Some bytes) ∷ []) h.split ∙ append_assoc h.done (as_held files) ((n, Some bytes) ∷ []) ∙ ap (λ xs. h.done ++ xs) (sym (ap as_held is ∙ map-append (λ (file : ℕ × List ℕ). (file.0, Some file.1)) files ((n, bytes) ∷ [])));
  sound = h.sound;
  classes = h.classes;
}

-- The batch gave classes, and is empty.
pub taken_all : (before : Held) (cs ds added : List ClassSummary) (files now : List (ℕ × List ℕ)) → AreTaken before (cs, files) → wrong_among (as_held files) ≡ None → ds ≡ cs ++ added → AreAmong (as_held files) added → now ≡ [] → AreTaken before (ds, now)
taken_all before cs ds added files now h sound grown classes empty = record {
  done = before;
  split = sym (ap (λ xs. before ++ as_held xs) empty ∙ append-nil before);
  sound = ap wrong_among h.split ∙ wrong-behind h.done (as_held files) h.sound ∙ sound;
  classes = subst (λ es. AreAmong before es) (sym grown) (subst (λ xs. AreAmong xs (cs ++ added)) (sym h.split) (among-append h.done (as_held files) cs added h.classes classes));
}

pub taken_sound : (before : Held) (cs : List ClassSummary) (files : List (ℕ × List ℕ)) → AreTaken before (cs, files) → wrong_among (as_held files) ≡ None → wrong_among before ≡ None
taken_sound before cs files h sound = ap wrong_among h.split ∙ wrong-behind h.done (as_held files) h.sound ∙ sound

pub taken_classes : (before : Held) (cs ds added : List ClassSummary) (files : List (ℕ × List ℕ)) → AreTaken before (cs, files) → ds ≡ cs ++ added → AreAmong (as_held files) added → AreAmong before ds
taken_classes before cs ds added files h grown classes =
    subst (λ es. AreAmong before es) (sym grown) (subst (λ xs. AreAmong xs (cs ++ added)) (sym h.split) (among-append h.done (as_held files) cs added h.classes classes))

-- The batch gave a fault.
pub taken_wrong : (before : Held) (cs : List ClassSummary) (files : List (ℕ × List ℕ)) (f : StartFault) → AreTaken before (cs, files) → IsOutside f ⊎ (wrong_among (as_held files) ≡ Some f) → IsOutside f ⊎ (wrong_among before ≡ Some f)
taken_wrong before cs files f h (inl free) = inl free
taken_wrong before cs files f h (inr e) = inr (ap wrong_among h.split ∙ wrong-behind h.done (as_held files) h.sound ∙ e)

-- The same by what the calls answer.
pub take_kept : (before : Held) (old new : Taken) (cs : List ClassSummary) (files now : List (ℕ × List ℕ)) (n : ℕ) (bytes : List ℕ) → old ≡ (cs, files) → now ≡ files ++ (n, bytes) ∷ [] → new ≡ (cs, now) → AreTaken before old → AreTaken (before ++ (n, Some bytes) ∷ []) new
take_kept before old new cs files now n bytes at is to h =
    subst (λ t. AreTaken (before ++ (n, Some bytes) ∷ []) t) (sym to) (taken_more before cs files now n bytes is (subst (λ t. AreTaken before t) at h))

pub take_parsed : {T : Type 0} (before : Held) (old new : Taken) (cs ds : List ClassSummary) (files now empty : List (ℕ × List ℕ)) (n : ℕ) (bytes : List ℕ) (r : Result T StartFault)
    → old ≡ (cs, files) → now ≡ files ++ (n, bytes) ∷ [] → new ≡ (ds, empty) → AreTaken before old
    → Meets (wrong_among (as_held now)) r → OnOk r ((added : List ClassSummary) × (ds ≡ cs ++ added) × AreAmong (as_held now) added) → empty ≡ [] → Takes (before ++ (n, Some bytes) ∷ []) new r
take_parsed before old new cs ds files now empty n bytes (Ok x) at is to h sound added none =
    subst (λ t. AreTaken (before ++ (n, Some bytes) ∷ []) t) (sym to)
    (taken_all (before ++ (n, Some bytes) ∷ []) cs ds added.0 now empty (take_kept before old (cs, now) cs files now n bytes at is refl h) sound added.1 added.2 none)
take_parsed before old new cs ds files now empty n bytes (Err f) at is to h wrong added none =
    taken_wrong (before ++ (n, Some bytes) ∷ []) cs now f (take_kept before old (cs, now) cs files now n bytes at is refl h) wrong

pub finish_sound : (before : Held) (old : Taken) (cs : List ClassSummary) (files : List (ℕ × List ℕ)) → old ≡ (cs, files) → AreTaken before old → wrong_among (as_held files) ≡ None → wrong_among before ≡ None
finish_sound before old cs files at h sound = taken_sound before cs files (subst (λ t. AreTaken before t) at h) sound

pub finish_wrong : (before : Held) (old : Taken) (cs : List ClassSummary) (files : List (ℕ × List ℕ)) (f : StartFault) → old ≡ (cs, files) → AreTaken before old → IsOutside f ⊎ (wrong_among (as_held files) ≡ Some f) → IsOutside f ⊎ (wrong_among before ≡ Some f)
finish_wrong before old cs files f at h wrong = taken_wrong before cs files f (subst (λ t. AreTaken before t) at h) wrong

pub finish_classes : (before : Held) (old : Taken) (cs ds : List ClassSummary) (files : List (ℕ × List ℕ)) → old ≡ (cs, files) → AreTaken before old → ((added : List ClassSummary) × (ds ≡ cs ++ added) × AreAmong (as_held files) added) → AreAmong before ds
finish_classes before old cs ds files at h added = taken_classes before cs ds added.0 files (subst (λ t. AreTaken before t) at h) added.1 added.2

-- What is answered where the next file gave no bytes.
pub stop_sound : (before : Held) (old : Taken) (cs : List ClassSummary) (files : List (ℕ × List ℕ)) (fault : StartFault) → old ≡ (cs, files) → AreTaken before old → wrong_among (as_held files) ≡ None → Stops before fault fault
stop_sound before old cs files fault at h sound = inr (inr (taken_sound before cs files (subst (λ t. AreTaken before t) at h) sound, refl))

outside-memory : {T : Type 0} (f : StartFault) → IsOutside f → (IsErrOf {T = T} (Err f) Failed → ⊥) → f ≡ OutOfMemory
outside-memory OutOfMemory o inside = refl
outside-memory Failed o inside = absurd (inside refl)
outside-memory NoText o inside = absurd o
outside-memory LongText o inside = absurd o
outside-memory NotUtf8 o inside = absurd o
outside-memory (NoFile line) o inside = absurd o
outside-memory (LongFile line) o inside = absurd o
outside-memory (NotClass line why) o inside = absurd o
outside-memory (Refused why) o inside = absurd o

pub stop_wrong : {T : Type 0} (before : Held) (old : Taken) (cs : List ClassSummary) (files : List (ℕ × List ℕ)) (fault earlier : StartFault) → old ≡ (cs, files) → AreTaken before old → IsOutside earlier ⊎ (wrong_among (as_held files) ≡ Some earlier)
    → (IsErrOf {T = T} (Err earlier) Failed → ⊥) → Stops before fault earlier
stop_wrong {T} before old cs files fault earlier at h wrong inside = by (taken_wrong before cs files earlier (subst (λ t. AreTaken before t) at h) wrong)
  where
    by : IsOutside earlier ⊎ (wrong_among before ≡ Some earlier) → Stops before fault earlier
    by (inl free) = inl (outside-memory {T = T} earlier free inside)
    by (inr e) = inr (inl e)

pub stops_as : (before : Held) (more : Held) (fault answered : StartFault) → Stops before fault answered → IsOutside fault ⊎ (wrong_among more ≡ Some fault) → IsOutside answered ⊎ (wrong_among (before ++ more) ≡ Some answered)
stops_as before more fault answered (inl none) w = inl (subst IsOutside (sym none) tt)
stops_as before more fault answered (inr (inl e)) w = inr (wrong-before before more answered e)
stops_as before more fault answered (inr (inr h)) (inl free) = inl (subst IsOutside (sym h.1) free)
stops_as before more fault answered (inr (inr h)) (inr e) = inr (wrong-behind before more h.0 ∙ e ∙ ap Some (sym h.1))

-- A line that is empty, and one that has a path.
path-none : (line : ℕ) (path : List ℕ) → length path ≡ 0 → path_at line path ≡ []
path-none line [] e = refl
path-none line (x ∷ path) e = absurd cc

some_true : (n : ℕ) → 0 < n → nat_lt 0 n ≡ true
some_true n l = search rules

path-there : (line : ℕ) (path : List ℕ) → 0 < length path → path_at line path ≡ (line, path) ∷ []
path-there line path l = rw (some_true (length path) l) refl

pub wrong-one : (o : Option StartFault) (f : StartFault) → o ≡ Some f → slice_get (cons_option o []) 0 ≡ Some f
wrong-one None f e = absurd cc
wrong-one (Some g) f e = e

pub line_passed : (files : List HeldFile) (before : Held) (line : ℕ) (path : List ℕ) (taken : Taken) → length path ≡ 0 → AreTaken before taken → AreTaken (before ++ held_for files (path_at line path)) taken
line_passed files before line path taken e h = subst (λ xs. AreTaken xs taken) (sym (ap (λ ps. before ++ held_for files ps) (path-none line path e) ∙ append-nil before)) h

pub line_taken : {T : Type 0} (files : List HeldFile) (before : Held) (line : ℕ) (path bytes : List ℕ) (taken : Taken) (r : Result T StartFault) → 0 < length path → held_under files path ≡ Some bytes → Takes (before ++ (line, Some bytes) ∷ []) taken r → Takes (before ++ held_for files (path_at line path)) taken r
line_taken files before line path bytes taken r l held h =
    let is : held_for files (path_at line path) ≡ (line, Some bytes) ∷ [] = ap (held_for files) (path-there line path l) ∙ ap (λ o. (line, o) ∷ []) held in
    subst (λ xs. Takes (before ++ xs) taken r) (sym is) h

pub line_stopped : (files : List HeldFile) (before : Held) (line : ℕ) (path : List ℕ) (fault answered : StartFault) → 0 < length path → IsOutside fault ⊎ (file_fault line (held_under files path) ≡ Some fault) → Stops before fault answered
    → IsOutside answered ⊎ (wrong_among (before ++ held_for files (path_at line path)) ≡ Some answered)
line_stopped files before line path fault answered l why stops = stops_as before (held_for files (path_at line path)) fault answered stops (by why)
  where
    by : IsOutside fault ⊎ (file_fault line (held_under files path) ≡ Some fault) → IsOutside fault ⊎ (wrong_among (held_for files (path_at line path)) ≡ Some fault)
    by (inl free) = inl free
    by (inr e) = inr (ap (λ ps. wrong_among (held_for files ps)) (path-there line path l) ∙ wrong-one (file_fault line (held_under files path)) fault e)

-- So many lines of a text are read.
pub record AreRead (files : List HeldFile) (text : List ℕ) (i : ℕ) (taken : Taken) : Type 0 where
  pub before : Held
  pub is_taken : AreTaken before taken
  pub split : held_for files (paths_in text) ≡ before ++ held_for files (paths_after text i)

pub none_read : (files : List HeldFile) (text : List ℕ) (taken : Taken) → taken ≡ ([], []) → AreRead files text 0 taken
none_read files text taken is = record { before = []; is_taken = subst (λ t. AreTaken [] t) (sym is) none_taken; split = refl }

module _ (files : List HeldFile) (text : List ℕ) (i : ℕ) (x : List ℕ) (l : i < length (lines text)) (at : x ≡ get_or (lines text) i x) where
  rest : held_for files (paths_after text i) ≡ held_for files (path_at (i + 1) x) ++ held_for files (paths_after text (i + 1))
  rest = ap (held_for files) (after-more text i x l at) ∙ map-append (λ (p : ℕ × List ℕ). (p.0, held_under files p.1)) (path_at (i + 1) x) (paths_after text (i + 1))

  pub read_further : (old new : Taken) (h : AreRead files text i old) → AreTaken (h.before ++ held_for files (path_at (i + 1) x)) new → AreRead files text (i + 1) new
  read_further old new h taken = record {
    before = h.before ++ held_for files (path_at (i + 1) x);
    is_taken = taken;
    split = h.split ∙ ap (λ xs. h.before ++ xs) rest ∙ sym (append_assoc h.before (held_for files (path_at (i + 1) x)) (held_for files (paths_after text (i + 1))));
  }

  pub read_wrong : (old : Taken) (f : StartFault) (h : AreRead files text i old) → IsOutside f ⊎ (wrong_among (h.before ++ held_for files (path_at (i + 1) x)) ≡ Some f) → IsOutside f ⊎ (wrong_among (held_for files (paths_in text)) ≡ Some f)
  read_wrong old f h (inl free) = inl free
  read_wrong old f h (inr e) =
      let whole = h.split ∙ ap (λ xs. h.before ++ xs) rest ∙ sym (append_assoc h.before (held_for files (path_at (i + 1) x)) (held_for files (paths_after text (i + 1)))) in
      inr (ap wrong_among whole ∙ wrong-before (h.before ++ held_for files (path_at (i + 1) x)) (held_for files (paths_after text (i + 1))) f e)

pub read_whole : (files : List HeldFile) (text : List ℕ) (i : ℕ) (taken : Taken) → length (lines text) ≤ i → AreRead files text i taken → AreTaken (held_for files (paths_in text)) taken
read_whole files text i taken l h =
    subst (λ xs. AreTaken xs taken) (sym (h.split ∙ ap (λ ps. h.before ++ held_for files ps) (after-all text i l) ∙ append-nil h.before)) h.is_taken

-- The classes of all files, or the first fault.
pub read_meets : {T : Type 0} (files : List HeldFile) (ps : List (ℕ × List ℕ)) (r : Result T StartFault) → Meets (wrong_among (held_for files ps)) r → Meets (first_file_fault files ps) r
read_meets {T} files ps r h = subst (λ o. Meets {T = T} o r) (wrong-named files ps) h

pub read_failed : (files : List HeldFile) (ps : List (ℕ × List ℕ)) (f : StartFault) → IsOutside f ⊎ (wrong_among (held_for files ps) ≡ Some f) → IsOutside f ⊎ (first_file_fault files ps ≡ Some f)
read_failed files ps f (inl free) = inl free
read_failed files ps f (inr e) = inr (sym (wrong-named files ps) ∙ e)

pub read_classes : (files : List HeldFile) (ps : List (ℕ × List ℕ)) (r : Result (List ClassSummary) StartFault) → IfOk r (AreAmong (held_for files ps)) → IfOk r (λ cs. AreClassesOf files ps cs)
read_classes files ps (Ok cs) a = among-named files ps cs a
read_classes files ps (Err f) a = tt

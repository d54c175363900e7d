-- The files of a publication, taken one after the other.
use Rattle.std.proofs.Common.{rules, ◌≡◌, ◌∙◌, ap, sym, subst, refl, arith, inl, inr, ℕ, zero, suc, ◌+◌, ◌<◌, ◌⊎◌, List, [], ◌∷◌, ◌++◌, length, map, take, length-append, append_assoc, append-nil, Bool, true, false, Option, Some, None, Result, Ok, Err}
use Rattle.std.specs.Prelude.{IfOk, IfSome, IsErrOf, nat_le, option_map, if◌then◌else◌}
use Rattle.std.specs.List.{enumerate_from, filter_map, cons_option, slice_get, AllZip}
use Rattle.std.proofs.Math.Seq.{take-append_seam}
use Rattle.outside.specs.Held.{held_under, longest_load, Gives}
use Rattle.outside.specs.declared.shelf.HeldFile.{HeldFile}
use Rattle.outside.specs.declared.shelf.Loaded as shelf
use Rattle.outside.specs.declared.shelf.Loaded.TheVariants.{Bytes, Missing, TooLong}
use Rattle.known_classes.specs.declared.summary.ClassSummary.{ClassSummary}
use Rattle.class_shape.specs.Violations.{first_violation}
use Rattle.class_pool.specs.declared.fault.ClassFault.{ClassFault}
use Rattle.start_text.specs.Faults.{IsOutside}
use Rattle.start_text.specs.Starts.{file_fault, IsClassOf}
use Rattle.start_text.specs.Taken.{wrong_among, AreAmong, AreTaken, Takes, Stops}
use Rattle.start_text.specs.declared.fault.StartFault.{StartFault}
use Rattle.start_text.specs.declared.fault.StartFault.TheVariants.{NoText, LongText, NotUtf8, NoFile, LongFile, NotClass, Refused, Failed, OutOfMemory}
use Rattle.start_text.proofs.Reading.{zip-append}
use Rattle.start_text.proofs.Batching.{none_taken, wrong-before, wrong-one, stops_as}
use Rattle.start_text.proofs.Loads.{held-missing, file-long}
use Rattle.answers.specs.Asks.{Loaded, classes, unreadable}
use Rattle.sessions.specs.Worlds.{WorldState}
use Rattle.sessions.specs.Publications.{LeavesFiles}
use Rattle.sessions.specs.Loads.{MayHold, first_wrong, FilesGive, Give, loads_of}
use Rattle.sessions.specs.Loading.{IsOfFile, Tells, IsUnreadable}
use Rattle.sessions.specs.declared.loading.Files as code
use Rattle.sessions.specs.declared.loading.Files.TheVariants as variant
use Rattle.std.specs.declared.alloc.AllocError.{AllocError}

abbrev Content : Type 0
Content = Option (List ℕ)

abbrev pub Held : Type 0
Held = List (ℕ × Content)

abbrev pub Taken : Type 0
Taken = List ClassSummary × List (ℕ × List ℕ)

pub numbers : (n : ℕ) (xs ys : List Content) → enumerate_from n (xs ++ ys) ≡ enumerate_from n xs ++ enumerate_from (n + length xs) ys
numbers n [] ys = ap (λ k. enumerate_from k ys) (omega arith)
numbers n (x ∷ xs) ys = ap (λ l. (n, x) ∷ l) (numbers (n + 1) xs ys ∙ ap (λ k. enumerate_from (n + 1) xs ++ enumerate_from k ys) (omega arith))

-- Files with one more of their number.
one_more : (i : ℕ) (xs : List Content) (c : Content) → i ≡ length xs → enumerate_from 0 (xs ++ c ∷ []) ≡ enumerate_from 0 xs ++ (i, c) ∷ []
one_more i xs c is = numbers 0 xs (c ∷ []) ∙ ap (λ k. enumerate_from 0 xs ++ (k, c) ∷ []) (omega (arith, is))

-- Classes of numbered files are classes of the files.
classes_from : (n : ℕ) (xs : List Content) (cs : List ClassSummary) → AreAmong (enumerate_from n xs) cs → AllZip IsClassOf xs cs
classes_from n [] [] a = tt
classes_from n [] (c ∷ cs) a = absurd a
classes_from n (x ∷ xs) [] a = absurd a
classes_from n (x ∷ xs) (c ∷ cs) a = (a.0, classes_from (n + 1) xs cs a.1)

-- What can be wrong with a file.
some_kind : (g f : StartFault) → IsOfFile g → Some g ≡ Some f → IsOfFile f
some_kind g f k e = let same : g ≡ f = cc in subst IsOfFile same k

bytes_kind : (i : ℕ) (b : Bool) (o : Option ClassFault) (f : StartFault) → (if b then option_map (λ why. NotClass i why) o else Some (LongFile i)) ≡ Some f → IsOfFile f
bytes_kind i false o f e = some_kind (LongFile i) f tt e
bytes_kind i true None f e = absurd cc
bytes_kind i true (Some why) f e = some_kind (NotClass i why) f tt e

file_kind : (i : ℕ) (c : Content) (f : StartFault) → file_fault i c ≡ Some f → IsOfFile f
file_kind i None f e = some_kind (NoFile i) f tt e
file_kind i (Some bytes) f e = bytes_kind i (nat_le (length bytes) longest_load) (first_violation bytes) f e

first_kind : (o : Option StartFault) (fs : List StartFault) (f : StartFault) → ((g : StartFault) → o ≡ Some g → IsOfFile g) → (slice_get fs 0 ≡ Some f → IsOfFile f) → slice_get (cons_option o fs) 0 ≡ Some f → IsOfFile f
first_kind None fs f one more e = more e
first_kind (Some g) fs f one more e = some_kind g f (one g refl) e

among_kind : (held : Held) (f : StartFault) → wrong_among held ≡ Some f → IsOfFile f
among_kind [] f e = absurd cc
among_kind (x ∷ held) f e = first_kind (file_fault x.0 x.1) (filter_map (λ (file : ℕ × Content). file_fault file.0 file.1) held) f (file_kind x.0 x.1) (among_kind held f) e

outside_kind : (f : StartFault) → IsOutside f → IsOfFile f
outside_kind Failed o = tt
outside_kind OutOfMemory o = tt
outside_kind NoText o = o
outside_kind LongText o = o
outside_kind NotUtf8 o = o
outside_kind (NoFile line) o = absurd o
outside_kind (LongFile line) o = absurd o
outside_kind (NotClass line why) o = absurd o
outside_kind (Refused why) o = o

pub wrong_kind : (held : Held) (f : StartFault) → IsOutside f ⊎ (wrong_among held ≡ Some f) → IsOfFile f
wrong_kind held f (inl free) = outside_kind f free
wrong_kind held f (inr e) = among_kind held f e

-- It is never a load that failed.
no_failure : (c : Content) (i : ℕ) → file_fault i c ≡ Some Failed → ⊥
no_failure None i e = cc
no_failure (Some bytes) i e = by (nat_le (length bytes) longest_load) (first_violation bytes) e
  where
    by : (b : Bool) (o : Option ClassFault) → (if b then option_map (λ why. NotClass i why) o else Some (LongFile i)) ≡ Some Failed → ⊥
    by false o f = cc
    by true None f = cc
    by true (Some why) f = cc

first_failure : (o : Option StartFault) (fs : List StartFault) → (o ≡ Some Failed → ⊥) → (slice_get fs 0 ≡ Some Failed → ⊥) → slice_get (cons_option o fs) 0 ≡ Some Failed → ⊥
first_failure None fs one more e = more e
first_failure (Some g) fs one more e = one e

among_failure : (held : Held) → wrong_among held ≡ Some Failed → ⊥
among_failure [] e = cc
among_failure (x ∷ held) e = first_failure (file_fault x.0 x.1) (filter_map (λ (file : ℕ × Content). file_fault file.0 file.1) held) (no_failure x.1 x.0) (among_failure held) e

-- What one file more gave, where its bytes couldn't be had.
pub stopped : (T : Type 0) (before : Held) (i : ℕ) (c : Content) (taken : Taken) (fault answered : StartFault) → IsOutside fault ⊎ (file_fault i c ≡ Some fault) → Stops before fault answered → Takes {T = T} (before ++ (i, c) ∷ []) taken (Err answered)
stopped T before i c taken fault answered why stops = stops_as before ((i, c) ∷ []) fault answered stops (by why)
  where
    by : IsOutside fault ⊎ (file_fault i c ≡ Some fault) → IsOutside fault ⊎ (wrong_among ((i, c) ∷ []) ≡ Some fault)
    by (inl free) = inl free
    by (inr e) = inr (wrong-one (file_fault i c) fault e)

-- Where that was a load that failed, nothing is wrong with the files before it.
pub err_is : (T : Type 0) (f g : StartFault) → IsErrOf {T = T} (Err f) g → f ≡ g
err_is T f g e = cc

pub stopped_sound : (before : Held) (fault answered : StartFault) → Stops before fault answered → answered ≡ Failed → wrong_among before ≡ None
stopped_sound before fault answered (inl none) e = let no : Failed ≡ OutOfMemory = sym e ∙ none in absurd cc
stopped_sound before fault answered (inr (inl wrong)) e = absurd (among_failure before (wrong ∙ ap Some e))
stopped_sound before fault answered (inr (inr h)) e = h.0

-- What is told of what is wrong with files.
tell_wrong : (all : List Content) (i : ℕ) (wrong : StartFault) (loads : Loaded) → Tells i wrong loads → IsOutside wrong ⊎ (first_wrong all ≡ Some wrong) → (wrong ≡ Failed → (i < length all) × (first_wrong (take i all) ≡ None)) → FilesGive all loads
tell_wrong all i (NoFile line) loads tells (inr e) failed = subst (FilesGive all) (sym tells) e
tell_wrong all i (NoFile line) loads tells (inl e) failed = absurd e
tell_wrong all i (LongFile line) loads tells (inr e) failed = subst (FilesGive all) (sym tells) e
tell_wrong all i (LongFile line) loads tells (inl e) failed = absurd e
tell_wrong all i (NotClass line why) loads tells (inr e) failed = subst (FilesGive all) (sym tells.2) (record { why = why; first = e; number = tells.1; at = refl })
tell_wrong all i (NotClass line why) loads tells (inl e) failed = absurd e
tell_wrong all i Failed loads tells e failed = subst (FilesGive all) (sym tells) (failed refl)
tell_wrong all i OutOfMemory loads tells e failed = absurd tells
tell_wrong all i NoText loads tells e failed = absurd tells
tell_wrong all i LongText loads tells e failed = absurd tells
tell_wrong all i NotUtf8 loads tells e failed = absurd tells
tell_wrong all i (Refused why) loads tells e failed = absurd tells

-- What files of these names may hold.
abbrev fill : Option (List HeldFile) → List (List ℕ) → List Content
fill None names = map (λ (name : List ℕ). None) names
fill (Some files) names = map (held_under files) names

filled : (holds : Option (List HeldFile)) (names : List (List ℕ)) → AllZip (MayHold holds) names (fill holds names)
filled None [] = tt
filled None (x ∷ xs) = (tt, filled None xs)
filled (Some files) [] = tt
filled (Some files) (x ∷ xs) = (refl, filled (Some files) xs)

-- The files up to a place were taken.
pub record IsUpTo (holds : Option (List HeldFile)) (names rest : List (List ℕ)) (index : ℕ) (taken : Taken) : Type 0 where
  pub before : List (List ℕ)
  pub contents : List Content
  pub split : names ≡ before ++ rest
  pub count : index ≡ length contents
  pub held : AllZip (MayHold holds) before contents
  pub is_taken : AreTaken (enumerate_from 0 contents) taken

pub up_to_start : (holds : Option (List HeldFile)) (names : List (List ℕ)) (taken : Taken) → taken ≡ ([], []) → IsUpTo holds names names 0 taken
up_to_start holds names taken is = record { before = []; contents = []; split = refl; count = refl; held = tt; is_taken = subst (λ t. AreTaken [] t) (sym is) none_taken }

module _ (holds : Option (List HeldFile)) (names : List (List ℕ)) (x : List ℕ) (more : List (List ℕ)) (i : ℕ) (taken : Taken) (h : IsUpTo holds names (x ∷ more) i taken) (content : Content) (may : MayHold holds x content) where
  -- One file more.
  up_to_more : (next : Taken) → AreTaken (enumerate_from 0 h.contents ++ (i, content) ∷ []) next → IsUpTo holds names more (i + 1) next
  up_to_more next is = record {
    before = h.before ++ x ∷ [];
    contents = h.contents ++ content ∷ [];
    split = h.split ∙ sym (append_assoc h.before (x ∷ []) more);
    count = omega (arith, h.count, length-append h.contents (content ∷ []));
    held = zip-append (MayHold holds) h.before (x ∷ []) h.contents (content ∷ []) h.held (may, tt);
    is_taken = subst (λ hs. AreTaken hs next) (sym (one_more i h.contents content h.count)) is;
  }

  -- All files, the later ones with it.
  abbrev all : List Content
  all = h.contents ++ content ∷ fill holds more

  all_held : AllZip (MayHold holds) names all
  all_held = subst (λ ns. AllZip (MayHold holds) ns all) (sym h.split) (zip-append (MayHold holds) h.before (x ∷ more) h.contents (content ∷ fill holds more) h.held (may, filled holds more))

  -- The first that is wrong with them.
  wrong_here : (f : StartFault) → wrong_among (enumerate_from 0 h.contents ++ (i, content) ∷ []) ≡ Some f → first_wrong all ≡ Some f
  wrong_here f e =
      ap (λ cs. first_wrong cs) (sym (append_assoc h.contents (content ∷ []) (fill holds more)))
      ∙ ap wrong_among (numbers 0 (h.contents ++ content ∷ []) (fill holds more))
      ∙ wrong-before (enumerate_from 0 (h.contents ++ content ∷ [])) (enumerate_from (0 + length (h.contents ++ content ∷ [])) (fill holds more)) f (ap wrong_among (one_more i h.contents content h.count) ∙ e)

  sound_before : wrong_among (enumerate_from 0 h.contents) ≡ None → first_wrong (take i all) ≡ None
  sound_before e = ap (λ k. first_wrong (take k all)) h.count ∙ ap first_wrong (take-append_seam h.contents (content ∷ fill holds more)) ∙ e

  inside : i < length all
  inside = omega (arith, h.count, length-append h.contents (content ∷ fill holds more))

  give_wrong : (wrong : StartFault) (loads : Loaded) → Tells i wrong loads → IsOutside wrong ⊎ (wrong_among (enumerate_from 0 h.contents ++ (i, content) ∷ []) ≡ Some wrong)
      → (wrong ≡ Failed → wrong_among (enumerate_from 0 h.contents) ≡ None) → Give holds names loads
  give_wrong wrong loads tells why sound = record { contents = all; held = all_held; gives = tell_wrong all i wrong loads tells (by why) (λ e. (inside, sound_before (sound e))) }
    where
      by : IsOutside wrong ⊎ (wrong_among (enumerate_from 0 h.contents ++ (i, content) ∷ []) ≡ Some wrong) → IsOutside wrong ⊎ (first_wrong all ≡ Some wrong)
      by (inl free) = inl free
      by (inr e) = inr (wrong_here wrong e)

pub none_left : (rest : List (List ℕ)) → length rest ≡ 0 → rest ≡ []
none_left [] e = refl
none_left (x ∷ rest) e = absurd (omega (arith, e))

-- All files were taken.
module _ (holds : Option (List HeldFile)) (names rest : List (List ℕ)) (i : ℕ) (taken : Taken) (none : length rest ≡ 0) (read : IsUpTo holds names rest i taken) where
  whole_held : AllZip (MayHold holds) names read.contents
  whole_held = subst (λ ns. AllZip (MayHold holds) ns read.contents) (sym (read.split ∙ ap (λ ns. read.before ++ ns) (none_left rest none) ∙ append-nil read.before)) read.held

  pub given_all : (cs : List ClassSummary) → wrong_among (enumerate_from 0 read.contents) ≡ None → AreAmong (enumerate_from 0 read.contents) cs → Give holds names (classes cs)
  given_all cs sound among = record { contents = read.contents; held = whole_held; gives = (sound, classes_from 0 read.contents cs among) }

  pub given_last : (wrong : StartFault) (r : Result code.Files AllocError) → IsOutside wrong ⊎ (wrong_among (enumerate_from 0 read.contents) ≡ Some wrong) → (wrong ≡ Failed → ⊥) → IfOk r (λ f. Tells i wrong (loads_of f))
      → IfOk r (λ f. Give holds names (loads_of f))
  given_last wrong (Err e) why never tells = tt
  given_last wrong (Ok f) why never tells = record { contents = read.contents; held = whole_held; gives = tell_wrong read.contents i wrong (loads_of f) tells why (λ e. absurd (never e)) }

-- Loads one after the other.
pub files_start : (w : WorldState) → LeavesFiles ⊥ w w
files_start w = record { same = refl; later = omega arith; cause = λ e. absurd e }

pub files_then : {P Q R : Type 0} (a b c : WorldState) → LeavesFiles P a b → LeavesFiles Q b c → (R → Q) → LeavesFiles R a c
files_then a b c h k f = record {
  same = k.same ∙ ap (λ (w : WorldState). record w { faults = c.faults }) h.same;
  later = omega (arith, h.later, k.later);
  cause = λ r. let rose = k.cause (f r) in omega (arith, h.later, rose);
}

-- The same by what the code answers.
pub files_as : {P Q : Type 0} (a b : WorldState) → LeavesFiles P a b → (Q → P) → LeavesFiles Q a b
files_as a b h f = record { same = h.same; later = h.later; cause = λ q. h.cause (f q) }

-- A world after loads holds what it held.
pub held_still : {P : Type 0} (old now : WorldState) (x name : List ℕ) (content : Content) → name ≡ x → LeavesFiles P old now → MayHold now.holds name content → MayHold old.holds x content
held_still old now x name content same files may =
    subst (λ n. MayHold old.holds n content) same (subst (λ o. MayHold o name content) (ap (λ (w : WorldState). w.holds) files.same) may)

-- One file more was read.
module _ {P : Type 0} (old now : WorldState) (names rest : List (List ℕ)) (x name : List ℕ) (more : List (List ℕ)) (i : ℕ) (taken : Taken)
    (is : rest ≡ x ∷ more) (same : name ≡ x) (kept : LeavesFiles P old now) (read : IsUpTo old.holds names rest i taken)
    (content : Content) (may : MayHold now.holds name content) where
  pub read_more : (next : Taken) → ((before : Held) → AreTaken before taken → AreTaken (before ++ (i, content) ∷ []) next) → IsUpTo old.holds names more (i + 1) next
  read_more next takes =
      let h = subst (λ ns. IsUpTo old.holds names ns i taken) is read in
      up_to_more old.holds names x more i taken h content (held_still old now x name content same kept may) next (takes (enumerate_from 0 h.contents) h.is_taken)

  pub read_kind : (wrong : StartFault) → ((before : Held) → AreTaken before taken → IsOutside wrong ⊎ (wrong_among (before ++ (i, content) ∷ []) ≡ Some wrong)) → IsOfFile wrong
  read_kind wrong why = wrong_kind (enumerate_from 0 read.contents ++ (i, content) ∷ []) wrong (why (enumerate_from 0 read.contents) read.is_taken)

  pub given_wrong : (wrong : StartFault) (r : Result code.Files AllocError) → ((before : Held) → AreTaken before taken → IsOutside wrong ⊎ (wrong_among (before ++ (i, content) ∷ []) ≡ Some wrong))
      → ((before : Held) → AreTaken before taken → wrong ≡ Failed → wrong_among before ≡ None) → IfOk r (λ f. Tells i wrong (loads_of f)) → IfOk r (λ f. Give old.holds names (loads_of f))
  given_wrong wrong (Err e) why sound tells = tt
  given_wrong wrong (Ok f) why sound tells =
      let h = subst (λ ns. IsUpTo old.holds names ns i taken) is read in
      give_wrong old.holds names x more i taken h content (held_still old now x name content same kept may) wrong (loads_of f) tells (why (enumerate_from 0 h.contents) h.is_taken) (sound (enumerate_from 0 h.contents) h.is_taken)

-- What a load tells of what was held.
pub may_bytes : (holds : Option (List HeldFile)) (name : List ℕ) (loaded : shelf.Loaded) (out : List ℕ) → loaded ≡ Bytes → IfSome holds (λ files. Gives (held_under files name) loaded out) → MayHold holds name (Some out)
may_bytes None name loaded out is g = tt
may_bytes (Some files) name loaded out is g = sym (g.1 is)

pub may_missing : (holds : Option (List HeldFile)) (name : List ℕ) (loaded : shelf.Loaded) (out : List ℕ) → loaded ≡ Missing → IfSome holds (λ files. Gives (held_under files name) loaded out) → MayHold holds name None
may_missing None name loaded out is g = tt
may_missing (Some files) name loaded out is g = sym (held-missing (held_under files name) (sym is ∙ g.0))

pub many : (n : ℕ) → (bytes : List ℕ) × (length bytes ≡ n)
many zero = ([], refl)
many (suc n) = let r = many n in (0 ∷ r.0, ap suc r.1)

-- What is held under a name of which a load told nothing but that it is so long.
abbrev pub long_held : Option (List HeldFile) → List ℕ → ℕ → Content
long_held None name n = Some (many n).0
long_held (Some files) name n = held_under files name

pub may_long : (holds : Option (List HeldFile)) (name : List ℕ) (n : ℕ) → MayHold holds name (long_held holds name n)
may_long None name n = tt
may_long (Some files) name n = refl

too_many : (m n : ℕ) → n < m → nat_le m n ≡ false
too_many m n l = search rules

pub fault_long : (holds : Option (List HeldFile)) (name : List ℕ) (loaded : shelf.Loaded) (out : List ℕ) (line n : ℕ) → loaded ≡ TooLong n → longest_load < n → IfSome holds (λ files. Gives (held_under files name) loaded out)
    → file_fault line (long_held holds name n) ≡ Some (LongFile line)
fault_long None name loaded out line n is l g = rw (too_many (length (many n).0) longest_load (omega (arith, l, (many n).1))) refl
fault_long (Some files) name loaded out line n is l g = file-long line (held_under files name) n (sym is ∙ g.0)

-- What is held under a name of which nothing was told.
abbrev pub any_held : Option (List HeldFile) → List ℕ → Content
any_held None name = None
any_held (Some files) name = held_under files name

pub may_any : (holds : Option (List HeldFile)) (name : List ℕ) → MayHold holds name (any_held holds name)
may_any None name = tt
may_any (Some files) name = refl

-- A file is told as unreadable where its load failed.
fails : (i j : ℕ) (wrong : StartFault) → Tells i wrong (unreadable j) → wrong ≡ Failed
fails i j Failed tells = refl
fails i j (NoFile line) tells = absurd cc
fails i j (LongFile line) tells = absurd cc
fails i j (NotClass line why) tells = let is = tells.2 in absurd cc
fails i j OutOfMemory tells = absurd tells
fails i j NoText tells = absurd tells
fails i j LongText tells = absurd tells
fails i j NotUtf8 tells = absurd tells
fails i j (Refused why) tells = absurd tells

pub unread : (i : ℕ) (wrong : StartFault) (r : Result code.Files AllocError) → IfOk r (λ f. Tells i wrong (loads_of f)) → IsUnreadable r → wrong ≡ Failed
unread i wrong (Ok (variant.Unreadable j)) tells u = fails i j wrong tells
unread i wrong (Ok (variant.Classes puts)) tells u = absurd u
unread i wrong (Ok (variant.Missing j)) tells u = absurd u
unread i wrong (Ok (variant.TooLong j)) tells u = absurd u
unread i wrong (Ok (variant.NoClass j k at)) tells u = absurd u
unread i wrong (Ok (variant.NoText j)) tells u = absurd u
unread i wrong (Err e) tells u = absurd u

pub not_empty : {P : Type 0} (rest : List (List ℕ)) (x : List ℕ) (more : List (List ℕ)) → rest ≡ x ∷ more → rest ≡ [] → P
not_empty rest x more is e = let no : x ∷ more ≡ [] = sym is ∙ e in absurd cc

pub smaller : (rest : List (List ℕ)) (x : List ℕ) (more : List (List ℕ)) → rest ≡ x ∷ more → length more < length rest
smaller rest x more is = rw is (omega arith)

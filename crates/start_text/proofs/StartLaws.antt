-- A start has one list of classes, and one fault.
use Rattle.std.proofs.Common.{◌≡◌, ◌∙◌, ap, sym, subst, refl, inl, inr, ℕ, ◌⊎◌, List, [], ◌∷◌, Option, Some, None, Result, Ok, Err}
use Rattle.std.specs.Prelude.{MatchResult, IfOk, IfErr}
use Rattle.outside.specs.Held.{held_under}
use Rattle.outside.specs.declared.shelf.HeldFile.{HeldFile}
use Rattle.class_shape.specs.Shapes.{IsClassFile}
use Rattle.class_shape.specs.declared.shapes.ClassShape.{ClassShape}
use Rattle.class_summary.specs.Summaries.{summary_of}
use Rattle.known_classes.specs.declared.summary.ClassSummary.{ClassSummary}
use Rattle.decl_index.specs.Refusals.{Refuses}
use Rattle.decl_index.specs.declared.change.Change.{Change}
use Rattle.decl_index.specs.declared.change.ChangeFault.{ChangeFault}
use Rattle.decl_index.specs.declared.change.ChangeFault.TheVariants as change
use Rattle.std.specs.Option.{option_or}
use Rattle.version_board.specs.Versions.{IsVersion}
use Rattle.decl_index.proofs.HistoryLaws.{one_refusal}
use Rattle.version_board.specs.declared.snapshot.Snapshot.{Snapshot}
use Rattle.start_text.specs.Lines.{paths_in, paths_of}
use Rattle.start_text.specs.Faults.{IsOutside, Meets, of_change}
use Rattle.start_text.specs.Starts.{text_fault, first_file_fault, first_fault, IsClassOf, AreClassesOf, IsStart, IsFaultOf, publication}
use Rattle.start_text.specs.declared.fault.StartFault.{StartFault}
use Rattle.start_text.specs.declared.fault.StartFault.TheVariants.{Refused}

-- No two shapes fit the same bytes.
abbrev pub OneShape : Type 0
OneShape = (bytes : List ℕ) (shape other : ClassShape) → IsClassFile bytes shape → IsClassFile bytes other → shape ≡ other

one-class : OneShape → (held : Option (List ℕ)) (c d : ClassSummary) → IsClassOf held c → IsClassOf held d → c ≡ d
one-class unique held c d a b =
    let same : Some a.bytes ≡ Some b.bytes = sym a.is_held ∙ b.is_held in
    let bytes : a.bytes ≡ b.bytes = cc in
    let shape : a.shape ≡ b.shape = unique b.bytes a.shape b.shape (subst (λ bs. IsClassFile bs a.shape) bytes a.is_file) b.is_file in
    a.kept ∙ ap summary_of shape ∙ sym b.kept

pub one-list : OneShape → (files : List HeldFile) (ps : List (ℕ × List ℕ)) (cs ds : List ClassSummary) → AreClassesOf files ps cs → AreClassesOf files ps ds → cs ≡ ds
one-list unique files [] [] [] a b = refl
one-list unique files [] [] (d ∷ ds) a b = absurd b
one-list unique files [] (c ∷ cs) ds a b = absurd a
one-list unique files (p ∷ ps) [] ds a b = absurd a
one-list unique files (p ∷ ps) (c ∷ cs) [] a b = absurd b
one-list unique files (p ∷ ps) (c ∷ cs) (d ∷ ds) a b =
    let first : c ≡ d = one-class unique (held_under files p.1) c d a.0 b.0 in
    let rest : cs ≡ ds = one-list unique files ps cs ds a.1 b.1 in
    cc

-- The classes were given, and their change isn't refused.
pub record Stands (files : List HeldFile) (name : List ℕ) : Type 0 where
  pub classes : List ClassSummary
  pub start : IsStart files name classes
  pub lawful : (why : ChangeFault) → Refuses [] (publication classes) why → ⊥

-- What was answered: a start that stands, or what is wrong, or a fault of the outside.
abbrev pub Answers : List HeldFile → List ℕ → Result Snapshot StartFault → Type 0
Answers files name (Ok snapshot) = Stands files name
Answers files name (Err fault) = IsOutside fault ⊎ IsFaultOf files name fault

none-wrong : OneShape → (files : List HeldFile) (name : List ℕ) (wrong : StartFault) → Stands files name → IsFaultOf files name wrong → ⊥
none-wrong unique files name wrong s (inl first) =
    let e : None ≡ Some wrong = sym s.start.sound ∙ first in
    cc
none-wrong unique files name wrong s (inr late) =
    let same : late.classes ≡ s.classes = one-list unique files (paths_of (held_under files name)) late.classes s.classes late.start.classes_of s.start.classes_of in
    s.lawful late.why (subst (λ cs. Refuses [] (publication cs) late.why) same late.refuses)

one-fault : OneShape → (files : List HeldFile) (name : List ℕ) (f g : StartFault) → IsFaultOf files name f → IsFaultOf files name g → f ≡ g
one-fault unique files name f g (inl a) (inl b) =
    let e : Some f ≡ Some g = sym a ∙ b in
    cc
one-fault unique files name f g (inl a) (inr b) =
    let e : Some f ≡ None = sym a ∙ b.start.sound in
    cc
one-fault unique files name f g (inr a) (inl b) =
    let e : None ≡ Some g = sym a.start.sound ∙ b in
    cc
one-fault unique files name f g (inr a) (inr b) =
    let same : a.classes ≡ b.classes = one-list unique files (paths_of (held_under files name)) a.classes b.classes a.start.classes_of b.start.classes_of in
    let why : a.why ≡ b.why = one_refusal [] (publication b.classes) a.why b.why (subst (λ cs. Refuses [] (publication cs) a.why) same a.refuses) b.refuses in
    a.is ∙ ap (λ w. Refused w) why ∙ sym b.is

pub answered-refused : OneShape → (files : List HeldFile) (name : List ℕ) (r : Result Snapshot StartFault) (wrong : StartFault) → Answers files name r → IsFaultOf files name wrong → MatchResult r (λ _. ⊥) (λ fault. IsOutside fault ⊎ (fault ≡ wrong))
answered-refused unique files name (Ok snapshot) wrong s is = none-wrong unique files name wrong s is
answered-refused unique files name (Err fault) wrong (inl free) is = inl free
answered-refused unique files name (Err fault) wrong (inr given) is = inr (one-fault unique files name fault wrong given is)

pub answered-whole : OneShape → (files : List HeldFile) (name : List ℕ) (r : Result Snapshot StartFault) (classes : List ClassSummary) → Answers files name r → IsStart files name classes → ((why : ChangeFault) → Refuses [] (publication classes) why → ⊥) → IfErr r IsOutside
answered-whole unique files name (Ok snapshot) classes s start lawful = tt
answered-whole unique files name (Err fault) classes (inl free) start lawful = free
answered-whole unique files name (Err fault) classes (inr wrong) start lawful = absurd (none-wrong unique files name fault (record { classes = classes; start = start; lawful = lawful }) wrong)

-- A start by its text and its files.
whole-sound : (files : List HeldFile) (text : List ℕ) (held : Option (List ℕ)) → held ≡ Some text → text_fault held ≡ None → first_file_fault files (paths_in text) ≡ None → option_or (text_fault held) (first_file_fault files (paths_of held)) ≡ None
whole-sound files text held is sound rest = ap (λ t. option_or t (first_file_fault files (paths_of held))) sound ∙ ap (λ o. first_file_fault files (paths_of o)) is ∙ rest

pub starts : (files : List HeldFile) (name text : List ℕ) (r : Result (List ClassSummary) StartFault) → held_under files name ≡ Some text → text_fault (held_under files name) ≡ None → Meets (first_file_fault files (paths_in text)) r → IfOk r (λ classes. AreClassesOf files (paths_in text) classes) → IfOk r (λ classes. IsStart files name classes)
starts files name text (Ok classes) held sound meets are = record {
  sound = whole-sound files text (held_under files name) held sound meets;
  classes_of = subst (λ o. AreClassesOf files (paths_of o) classes) (sym held) are;
}
starts files name text (Err fault) held sound meets are = tt

-- The refusal of a change as a start's fault.
pub refused-of : (it : Change) (fault : ChangeFault) → (fault ≡ change.OutOfMemory) ⊎ Refuses [] it fault → IsOutside (of_change fault) ⊎ ((why : ChangeFault) × (of_change fault ≡ Refused why) × Refuses [] it why)
refused-of it change.OutOfMemory h = inl tt
refused-of it (change.Cyclic name) (inr h) = inr (change.Cyclic name, refl, h)
refused-of it (change.Cyclic name) (inl e) = cc
refused-of it (change.Full parts) (inr h) = inr (change.Full parts, refl, h)
refused-of it (change.Full parts) (inl e) = cc
refused-of it (change.TooHigh through) (inr h) = inr (change.TooHigh through, refl, h)
refused-of it (change.TooHigh through) (inl e) = cc
refused-of it change.JournalFull (inr h) = inr (change.JournalFull, refl, h)
refused-of it change.JournalFull (inl e) = cc
refused-of it (change.NestCycle name) (inr h) = inr (change.NestCycle name, refl, h)
refused-of it (change.NestCycle name) (inl e) = cc

-- The version of a start's classes.
pub versioned : (held : Option (List HeldFile)) (name : List ℕ) (classes : List ClassSummary) (r : Result Snapshot StartFault) → ((files : List HeldFile) → held ≡ Some files → IsStart files name classes) → IfOk r (λ snapshot. IsVersion (publication classes ∷ []) snapshot) → IfOk r (λ snapshot. (given : List ClassSummary) × IsVersion (publication given ∷ []) snapshot × ((files : List HeldFile) → held ≡ Some files → IsStart files name given))
versioned held name classes (Ok snapshot) start is = (classes, is, start)
versioned held name classes (Err fault) start is = tt

-- What is answered of a start's classes.
pub answers-of : (files : List HeldFile) (name : List ℕ) (classes : List ClassSummary) (r : Result Snapshot StartFault) → IsStart files name classes → IfOk r (λ _. (why : ChangeFault) → Refuses [] (publication classes) why → ⊥) → IfErr r (λ fault. IsOutside fault ⊎ ((why : ChangeFault) × (fault ≡ Refused why) × Refuses [] (publication classes) why)) → Answers files name r
answers-of files name classes (Ok snapshot) start lawful refused = record { classes = classes; start = start; lawful = lawful }
answers-of files name classes (Err fault) start lawful (inl free) = inl free
answers-of files name classes (Err fault) start lawful (inr late) = inr (inr (record { classes = classes; start = start; why = late.0; refuses = late.2; is = late.1 }))

pub answered-fault : (files : List HeldFile) (name : List ℕ) (r : Result Snapshot StartFault) → Answers files name r → IfErr r (λ fault. IsOutside fault ⊎ IsFaultOf files name fault)
answered-fault files name (Ok snapshot) h = tt
answered-fault files name (Err fault) h = h

pub met-fault : (files : List HeldFile) (name : List ℕ) (fault : StartFault) → IsOutside fault ⊎ (first_fault files name ≡ Some fault) → Answers files name (Err fault)
met-fault files name fault (inl free) = inl free
met-fault files name fault (inr wrong) = inr (inl wrong)

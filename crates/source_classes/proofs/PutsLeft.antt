-- The classes that a publication puts, and that the order of its texts plays no part in the state that they leave.
use Rattle.std.proofs.Common.{◌≡◌, ◌∙◌, ap, sym, refl, subst, arith, ℕ, suc, Bool, true, false, cond, List, [], ◌∷◌, ◌++◌, map, length, Option, Some, None, append-nil, bytes_eq, inl, inr}
use Rattle.std.specs.Prelude.{option_map}
use Rattle.std.specs.Option.{option_or}
use Rattle.std.specs.List.Sorted.{IsPermutation}
use Rattle.std.proofs.lemmas.List.{map-append, length_push}
use Rattle.known_classes.specs.declared.summary.ClassSummary.{ClassSummary}
use Rattle.known_classes.specs.Known.{class_named, HasEachOnce}
use Rattle.known_classes.specs.Merging.{merged, added, last_named}
use Rattle.known_classes.proofs.Merging.{two, equal, itself, class-none, class-hit, class-on, class-name, last-none, last-cons, last-on, last-here, merged_once}
use Rattle.known_classes.proofs.TextPlaces.{named-place}
use Rattle.decl_index.specs.declared.change.Change.{Change}
use Rattle.decl_index.specs.declared.change.Change.TheVariants.{Publish}
use Rattle.decl_index.specs.History.{Name, State, IsState, class_in, remove, put, said, decided, edits_of}
use Rattle.decl_index.specs.Places.{told_or}
use Rattle.decl_index.proofs.Places.{class_more, told_append}
use Rattle.decl_index.proofs.State.{counted_more, weights_more}
use Rattle.decl_index.proofs.HistoryLaws.{one_state}
use Rattle.source_classes.specs.SourceClasses.{last_ones, all_summaries, in_sight, AreSourceClasses}
use Rattle.source_classes.specs.KnownNames.{told_classes, known_of, ArePuts}
use Rattle.source_classes.specs.Order.{HaveOwnNames, LeaveOneState}
use Rattle.source_classes.proofs.OrderOfTexts.{order_plays_no_part}
use Rattle.source_classes.proofs.Whole.{classes_once}

-- Nothing is known in the index of no change.
pub no_class : (cs : List ClassSummary) → ((n : List ℕ) → class_named cs n ≡ None) → cs ≡ []
no_class [] h = refl
no_class (c ∷ cs) h = let some : class_named (c ∷ cs) c.name ≡ Some c = class-hit c cs c.name (itself c.name) in let e : class_named (c ∷ cs) c.name ≡ None = h c.name in absurd cc

none-in : (n : List ℕ) → class_in [] n ≡ None
unfolding decided
none-in n = refl

-- What names may mean over an index of no change.
pub known_seen : (s : State) (told seen puts : List ClassSummary) (names : List (List ℕ)) → IsState [] s → told ≡ told_classes puts names → seen ≡ merged s.classes told → seen ≡ known_of puts names
unfolding merged
known_seen s told seen puts names is e f =
    f ∙ ap (λ cs. merged cs told) (no_class s.classes (λ n. is.classes.named n ∙ none-in n)) ∙ ap last_ones e

pub no_text : (texts : List (List ℕ)) → length texts ≡ 0 → texts ≡ []
no_text [] e = refl
no_text (t ∷ ts) e = absurd (omega (arith, e))

-- The classes of no text.
pub puts_alone : (puts : List ClassSummary) (names : List (List ℕ)) → ArePuts puts names [] puts
unfolding added
puts_alone puts names = record { classes = []; are = record { units = []; read = tt; are = refl }; is = sym (append-nil puts) }

-- The classes of texts, over the classes that are put.
pub puts_more : (puts listed classes all : List ClassSummary) (names texts : List (List ℕ)) → listed ≡ puts → AreSourceClasses texts (known_of listed names) classes → all ≡ puts ++ classes → ArePuts puts names texts all
puts_more puts listed classes all names texts e are is = record { classes = classes; are = subst (λ (cs : List ClassSummary). AreSourceClasses texts (known_of cs names) classes) e are; is = is }

-- Where no name stands twice the last class of a name is the class of that name.
later-by : (c : ClassSummary) (cs : List ClassSummary) (n : List ℕ) (o : Option ClassSummary) → HasEachOnce (c ∷ cs) → bytes_eq n c.name ≡ true → class_named cs n ≡ o → o ≡ None
later-by c cs n None h t e = refl
later-by c cs n (Some d) h t e =
    let p = named-place cs n d e in
    let k : 0 ≡ suc p.0 = h.once 0 (suc p.0) c d refl p.1 (sym (equal n c.name t) ∙ sym (class-name cs n d e)) in
    absurd cc

tail-once : (c : ClassSummary) (cs : List ClassSummary) → HasEachOnce (c ∷ cs) → HasEachOnce cs
tail-once c cs h = record { once = λ i j d e f g n. let k : suc i ≡ suc j = h.once (suc i) (suc j) d e f g n in cc }

last-once : (cs : List ClassSummary) (n : List ℕ) → HasEachOnce cs → last_named cs n ≡ class_named cs n
last-once [] n h = last-none n ∙ sym (class-none n)
last-once (c ∷ cs) n h = elim (two (bytes_eq n c.name)) [
  | inl t ↦ last-here c cs n t (later-by c cs n (class_named cs n) h t refl) ∙ sym (class-hit c cs n t)
  | inr f ↦ last-on c cs n f ∙ last-once cs n (tail-once c cs h) ∙ sym (class-on c cs n f)
]

-- What putting classes says of a name.
one-put : (o : Option ClassSummary) (b : Bool) (c : ClassSummary) → option_or (option_map Some o) (cond b (Some (Some c)) None) ≡ option_map Some (option_or o (cond b (Some c) None))
one-put (Some x) b c = refl
one-put None true c = refl
one-put None false c = refl

decided-puts : (n : List ℕ) (cs : List ClassSummary) → decided n (map put cs) ≡ option_map Some (last_named cs n)
unfolding decided
decided-puts n [] = ap (option_map Some) (sym (last-none n))
decided-puts n (c ∷ cs) =
    ap (λ o. option_or o (said n (put c))) (decided-puts n cs)
    ∙ one-put (last_named cs n) (bytes_eq n c.name) c
    ∙ ap (option_map Some) (sym (last-cons c cs n))

-- What a name had before the classes of the texts are put.
abbrev before : List Change → List ClassSummary → List (List ℕ) → List ℕ → Option ClassSummary
before h puts removes n = told_or (decided n (map put puts)) (told_or (decided n (map remove removes)) (class_in h n))

put-last : (h : List Change) (puts classes all : List ClassSummary) (removes : List (List ℕ)) (counts : List (List ℕ × ℕ)) (n : List ℕ) → HasEachOnce classes → all ≡ puts ++ classes
    → class_in (h ++ Publish all removes counts ∷ []) n ≡ told_or (option_map Some (class_named classes n)) (before h puts removes n)
put-last h puts classes all removes counts n once is =
    class_more h (Publish all removes counts) n
    ∙ told_append n (map remove removes) (map put all) (class_in h n)
    ∙ ap (λ (es : List ClassSummary). told_or (decided n (map put es)) (told_or (decided n (map remove removes)) (class_in h n))) is
    ∙ ap (λ es. told_or (decided n es) (told_or (decided n (map remove removes)) (class_in h n))) (map-append put puts classes)
    ∙ told_append n (map put puts) (map put classes) (told_or (decided n (map remove removes)) (class_in h n))
    ∙ ap (λ o. told_or o (before h puts removes n)) (decided-puts n classes ∙ ap (option_map Some) (last-once classes n once))

own-once : (texts : List (List ℕ)) (known classes : List ClassSummary) → AreSourceClasses texts known classes → HasEachOnce classes
own-once texts known classes a = classes_once (all_summaries a.units (in_sight a.units known)) classes a.are

pub known-once : (puts : List ClassSummary) (names : List (List ℕ)) → HasEachOnce (known_of puts names)
unfolding added merged
known-once puts names = merged_once [] (told_classes puts names) (record { once = λ i j c d e f n. absurd cc })

-- The order of the texts plays no part in the state.
pub one_state_left : (puts : List ClassSummary) (names texts : List (List ℕ)) (all : List ClassSummary) → HaveOwnNames texts → ArePuts puts names texts all → LeaveOneState puts names texts all
one_state_left puts names texts all own a others again p b h removes counts s t is it =
    let c : Change = Publish all removes counts in
    let d : Change = Publish again removes counts in
    let alike : (n : List ℕ) → class_named b.classes n ≡ class_named a.classes n = order_plays_no_part texts (known_of puts names) a.classes own (known-once puts names) a.are others b.classes p b.are in
    let same : (n : List ℕ) → class_in (h ++ d ∷ []) n ≡ class_in (h ++ c ∷ []) n = λ n.
    put-last h puts b.classes again removes counts n (own-once others (known_of puts names) b.classes b.are) b.is
    ∙ ap (λ o. told_or (option_map Some o) (before h puts removes n)) (alike n)
    ∙ sym (put-last h puts a.classes all removes counts n (own-once texts (known_of puts names) a.classes a.are) a.is) in
    let moved : IsState (h ++ c ∷ []) t = record {
      classes = record { rises = it.classes.rises; named = λ n. it.classes.named n ∙ same n };
      counts = record { rises = it.counts.rises; keyed = λ key. it.counts.keyed key ∙ counted_more h d key ∙ sym (counted_more h c key) };
      weights = it.weights ∙ weights_more h d ∙ sym (weights_more h c);
      number = it.number ∙ length_push h d ∙ sym (length_push h c);
    } in
    one_state (h ++ c ∷ []) t s moved is

-- The state after one change more.
use Rattle.std.proofs.Common.{◌≡◌, ℕ, ◌+◌, Bool, true, false, cond, List, [], ◌∷◌, ◌++◌, map, Option, Some, None, Ordering, Less, Equal, Greater, refl, sym, ap, subst, ◌∙◌, append_assoc, append-nil, arith}
use Rattle.std.specs.Prelude.{bytes_eq, unwrap_or}
use Rattle.decl_index.specs.Weighing.{usual}
use Rattle.std.specs.List.{flat_map}
use Rattle.std.proofs.lemmas.List.{length_push}
use Rattle.std.specs.Option.{option_or}
use Rattle.known_classes.specs.declared.summary.ClassSummary.{ClassSummary}
use Rattle.known_classes.specs.Known.{class_named}
use Rattle.decl_index.specs.declared.change.Change.{Change}
use Rattle.decl_index.specs.declared.change.Change.TheVariants.{Publish, Withdraw, SetWeights}
use Rattle.decl_index.specs.declared.weights.Weights.{Weights}
use Rattle.decl_index.specs.declared.change.ChangeFault.{ChangeFault}
use Rattle.decl_index.specs.declared.change.ChangeFault.TheVariants.{Cyclic, Full, TooHigh, JournalFull, NestCycle, OutOfMemory}
use Rattle.decl_index.specs.History.{Name, order, Rises, State, IsState, AreClasses, class_in, remove, put, decided, edits_of, counted, counts_of, count_at, CountsRise, weights_of, weights_set, weights_in}
use Rattle.decl_index.specs.Places.{told_or, Leaves}
use Rattle.decl_index.specs.Refusals.{IsFaultOf, IsSound, RefusesFor, IsTooHigh}
use Rattle.decl_index.specs.Steps.{IsPublished, IsPublishFault, IsKept, IsWithdrawn}
use Rattle.decl_index.proofs.Names.{same, same-itself, same-true, greater, exact}
use Rattle.decl_index.proofs.Sorted.{Above, above_more, none_above}
use Rattle.decl_index.proofs.Places.{class_more}

-- Lists in rising order with the same classes by name are one list.
first_named : (c : ClassSummary) (cs : List ClassSummary) → class_named (c ∷ cs) c.name ≡ Some c
unfolding class_named
first_named c cs = rw (same-itself c.name) refl

below_all : {P : Type 0} (c d : ClassSummary) (cs ds : List ClassSummary) → order c.name d.name ≡ Less → Above d.name ds → class_named (c ∷ cs) c.name ≡ class_named (d ∷ ds) c.name → P
below_all c d cs ds l a h =
    let some : class_named (c ∷ cs) c.name ≡ Some c = first_named c cs in
    let none : class_named (d ∷ ds) c.name ≡ None = none_above c.name (d ∷ ds) (l, above_more c.name d.name ds l a) in
    absurd cc

tail_by : (b : Bool) (c d : ClassSummary) (cs ds : List ClassSummary) (n : Name) → same c.name n ≡ b → c.name ≡ d.name → Above c.name cs → Above d.name ds → class_named (c ∷ cs) n ≡ class_named (d ∷ ds) n → class_named cs n ≡ class_named ds n
unfolding class_named
tail_by true c d cs ds n e s a b h =
    let m : c.name ≡ n = same-true c.name n e in
    none_above n cs (subst (λ k. Above k cs) m a) ∙ sym (none_above n ds (subst (λ k. Above k ds) (sym s ∙ m) b))
tail_by false c d cs ds n e s a b h =
    let f : same d.name n ≡ false = ap (λ k. same k n) (sym s) ∙ e in
    let left : class_named cs n ≡ cond (same c.name n) (Some c) (class_named cs n) = sym (ap (λ x. cond x (Some c) (class_named cs n)) e) in
    let right : cond (same d.name n) (Some d) (class_named ds n) ≡ class_named ds n = ap (λ x. cond x (Some d) (class_named ds n)) f in
    left ∙ h ∙ right

one_head : (c d : ClassSummary) (cs ds : List ClassSummary) → c.name ≡ d.name → class_named (c ∷ cs) c.name ≡ class_named (d ∷ ds) c.name → c ≡ d
one_head c d cs ds s h =
    let left : class_named (c ∷ cs) c.name ≡ Some c = first_named c cs in
    let right : class_named (d ∷ ds) c.name ≡ Some d = ap (class_named (d ∷ ds)) s ∙ first_named d ds in
    cc

one_by : (o : Ordering) (c d : ClassSummary) (cs ds : List ClassSummary) → order c.name d.name ≡ o → Rises (c ∷ cs) → Rises (d ∷ ds) → ((n : Name) → class_named (c ∷ cs) n ≡ class_named (d ∷ ds) n) → (((n : Name) → class_named cs n ≡ class_named ds n) → cs ≡ ds) → c ∷ cs ≡ d ∷ ds
unfolding Rises
one_by Less c d cs ds e r s h f = below_all c d cs ds e s.0 (h c.name)
one_by Greater c d cs ds e r s h f = below_all d c ds cs (greater c.name d.name e) r.0 (sym (h d.name))
one_by Equal c d cs ds e r s h f =
    let n : c.name ≡ d.name = exact c.name d.name e in
    let first : c ≡ d = one_head c d cs ds n (h c.name) in
    let rest : cs ≡ ds = f (λ m. tail_by (same c.name m) c d cs ds m refl n r.0 s.0 (h m)) in
    cc

pub one_list : (cs ds : List ClassSummary) → Rises cs → Rises ds → ((n : Name) → class_named cs n ≡ class_named ds n) → cs ≡ ds
unfolding Rises class_named
one_list [] [] r s h = refl
one_list [] (d ∷ ds) r s h = let some : class_named (d ∷ ds) d.name ≡ Some d = first_named d ds in let e : class_named [] d.name ≡ class_named (d ∷ ds) d.name = h d.name in absurd cc
one_list (c ∷ cs) [] r s h = let some : class_named (c ∷ cs) c.name ≡ Some c = first_named c cs in let e : class_named (c ∷ cs) c.name ≡ class_named [] c.name = h c.name in absurd cc
one_list (c ∷ cs) (d ∷ ds) r s h = one_by (order c.name d.name) c d cs ds refl r s h (one_list cs ds r.1 s.1)

-- Counts given one after the other.
or_none : {A : Type 0} (a : Option A) → a ≡ option_or a None
or_none (Some x) = refl
or_none None = refl

or_assoc : {A : Type 0} (a b c : Option A) → option_or (option_or a b) c ≡ option_or a (option_or b c)
or_assoc (Some x) b c = refl
or_assoc None b c = refl

pub counted-append : (key : Name) (xs ys : List (Name × ℕ)) → counted key (xs ++ ys) ≡ option_or (counted key ys) (counted key xs)
unfolding counted
counted-append key [] ys = or_none (counted key ys)
counted-append key (x ∷ xs) ys =
    ap (λ a. option_or a (cond (bytes_eq key x.0) (Some x.1) None)) (counted-append key xs ys) ∙ or_assoc (counted key ys) (counted key xs) (cond (bytes_eq key x.0) (Some x.1) None)

pub counts_more : (h : List Change) (c : Change) → flat_map counts_of (h ++ c ∷ []) ≡ flat_map counts_of h ++ counts_of c
counts_more [] c = append-nil (counts_of c)
counts_more (d ∷ h) c = ap (λ es. counts_of d ++ es) (counts_more h c) ∙ sym (append_assoc (counts_of d) (flat_map counts_of h) (counts_of c))

pub counted_more : (h : List Change) (c : Change) (key : Name) → counted key (flat_map counts_of (h ++ c ∷ [])) ≡ option_or (counted key (counts_of c)) (counted key (flat_map counts_of h))
counted_more h c key = ap (counted key) (counts_more h c) ∙ counted-append key (flat_map counts_of h) (counts_of c)

-- Weights set one after the other.
set_more : (h : List Change) (c : Change) → weights_set (h ++ c ∷ []) ≡ option_or (weights_of c) (weights_set h)
unfolding weights_set
set_more [] c = or_none (weights_of c)
set_more (d ∷ h) c = ap (λ o. option_or o (weights_of d)) (set_more h c) ∙ or_assoc (weights_of c) (weights_set h) (weights_of d)

pub weights_more : (h : List Change) (c : Change) → weights_in (h ++ c ∷ []) ≡ unwrap_or (option_or (weights_of c) (weights_set h)) usual
weights_more h c = ap (λ o. unwrap_or o usual) (set_more h c)

-- A publication.
left_classes : (h : List Change) (puts : List ClassSummary) (removes : List Name) (counts : List (Name × ℕ)) (cs ds : List ClassSummary) → AreClasses h cs → Leaves (map remove removes ++ map put puts) cs ds → AreClasses (h ++ Publish puts removes counts ∷ []) ds
left_classes h puts removes counts cs ds is l = record {
  rises = l.rises;
  named = λ n. l.each n ∙ ap (told_or (decided n (edits_of (Publish puts removes counts)))) (is.named n) ∙ sym (class_more h (Publish puts removes counts) n);
}

pub add_published : (h : List Change) (puts : List ClassSummary) (removes : List Name) (counts : List (Name × ℕ)) (old new : State) → IsState h old → IsPublished puts removes counts old new → IsState (h ++ Publish puts removes counts ∷ []) new
add_published h puts removes counts old new is p = record {
  classes = left_classes h puts removes counts old.classes new.classes is.classes p.classes;
  counts = record {
    rises = p.keys;
    keyed = λ key. p.counts key ∙ ap (option_or (counted key counts)) (is.counts.keyed key) ∙ sym (counted_more h (Publish puts removes counts) key);
  };
  weights = p.weights ∙ is.weights ∙ sym (weights_more h (Publish puts removes counts));
  number = p.number ∙ ap (λ m. m + 1) is.number ∙ sym (length_push h (Publish puts removes counts));
}

pub publish_refused : (h : List Change) (puts : List ClassSummary) (removes : List Name) (counts : List (Name × ℕ)) (old : State) (f : ChangeFault) → IsState h old → IsPublishFault puts removes old f → RefusesFor h (Publish puts removes counts) f
publish_refused h puts removes counts old f is p = record {
  left = p.left;
  classes = left_classes h puts removes counts old.classes p.left is.classes p.classes;
  fault = p.fault;
}

sound_free : (cs : List ClassSummary) (f : ChangeFault) → IsSound cs → IsFaultOf cs f → ⊥
sound_free cs (Cyclic n) s w = s.supers.none n w.counts w.cycle
sound_free cs (NestCycle n) s w = s.outers.none n w.1.counts w.1.cycle
sound_free cs (Full n) s w = omega (arith, s.parts, w.2, w.3)
sound_free cs (TooHigh n) s w = w
sound_free cs JournalFull s w = w
sound_free cs OutOfMemory s w = w

pub publish_lawful : (h : List Change) (puts : List ClassSummary) (removes : List Name) (counts : List (Name × ℕ)) (old new : State) → IsState h old → IsPublished puts removes counts old new → (f : ChangeFault) → RefusesFor h (Publish puts removes counts) f → ⊥
publish_lawful h puts removes counts old new is p f r =
    let next : IsState (h ++ Publish puts removes counts ∷ []) new = add_published h puts removes counts old new is p in
    let one : new.classes ≡ r.left = one_list new.classes r.left next.classes.rises r.classes.rises (λ n. next.classes.named n ∙ sym (r.classes.named n)) in
    sound_free r.left f (subst IsSound one p.sound) r.fault

-- A change that keeps the classes and the counts.
pub add_kept : (h : List Change) (c : Change) (w : Weights) (old new : State) → IsState h old → IsKept w old new → edits_of c ≡ [] → counts_of c ≡ [] → w ≡ weights_in (h ++ c ∷ []) → IsState (h ++ c ∷ []) new
unfolding decided counted
add_kept h c w old new is k edits counts weights = record {
  classes = record {
    rises = k.rises;
    named = λ n. ap (λ cs. class_named cs n) k.classes ∙ is.classes.named n ∙ ap (λ es. told_or (decided n es) (class_in h n)) (sym edits) ∙ sym (class_more h c n);
  };
  counts = record {
    rises = subst CountsRise (sym k.counts) is.counts.rises;
    keyed = λ key. ap (λ ps. count_at ps key) k.counts ∙ is.counts.keyed key ∙ ap (λ ps. option_or (counted key ps) (counted key (flat_map counts_of h))) (sym counts) ∙ sym (counted_more h c key);
  };
  weights = k.weights ∙ weights;
  number = k.number ∙ ap (λ n. n + 1) is.number ∙ sym (length_push h c);
}

-- A setting of weights.
pub add_set : (h : List Change) (w : Weights) (old new : State) → IsState h old → IsKept w old new → IsState (h ++ SetWeights w ∷ []) new
add_set h w old new is k = add_kept h (SetWeights w) w old new is k refl refl (sym (weights_more h (SetWeights w)))

-- A withdrawal.
pub add_withdrawn : (h : List Change) (m : ℕ) (old new : State) → IsState h old → IsWithdrawn m old new → IsState (h ++ Withdraw m ∷ []) new
add_withdrawn h m old new is w = add_kept h (Withdraw m) old.weights old new is w.kept refl refl (is.weights ∙ sym (weights_more h (Withdraw m)))

pub withdraw_refused : (h : List Change) (m : ℕ) (old : State) (f : ChangeFault) → IsState h old → IsTooHigh old.number m f → RefusesFor h (Withdraw m) f
withdraw_refused h m old f is t = subst (λ k. IsTooHigh k m f) is.number t

pub withdraw_lawful : (h : List Change) (m : ℕ) (old new : State) → IsState h old → IsWithdrawn m old new → (f : ChangeFault) → RefusesFor h (Withdraw m) f → ⊥
withdraw_lawful h m old new is w (TooHigh n) r = omega (arith, w.low, is.number, r.1)
withdraw_lawful h m old new is w (Cyclic n) r = r
withdraw_lawful h m old new is w (NestCycle n) r = r
withdraw_lawful h m old new is w (Full n) r = r
withdraw_lawful h m old new is w JournalFull r = r
withdraw_lawful h m old new is w OutOfMemory r = r

-- A history has one state, and refuses a change for one fault at most.
use Rattle.std.proofs.Common.{◌≡◌, ℕ, Bool, true, false, cond, List, [], ◌∷◌, ◌++◌, map, length, Option, Some, None, Ordering, Less, Equal, Greater, refl, sym, ap, subst, ◌∙◌, arith, inl, inr}
use Rattle.std.specs.Prelude.{bytes_eq, option_map, unwrap_or, IfSome}
use Rattle.std.specs.List.{flat_map, AllByRecursion}
use Rattle.std.specs.Option.{option_or}
use Rattle.known_classes.specs.declared.summary.ClassSummary.{ClassSummary}
use Rattle.known_classes.specs.Known.{class_named}
use Rattle.decl_index.specs.declared.change.Change.{Change}
use Rattle.decl_index.specs.declared.change.Change.TheVariants.{Publish, Withdraw, SetWeights}
use Rattle.decl_index.specs.declared.change.ChangeFault.{ChangeFault}
use Rattle.decl_index.specs.declared.change.ChangeFault.TheVariants.{Cyclic, Full, TooHigh, JournalFull, NestCycle, OutOfMemory}
use Rattle.decl_index.specs.History.{Name, order, Rises, State, AreClasses, AreCounts, Edit, remove, put, decided, edits_of, counts_of, count_at, use_of, KeepsRanges, weights_of, weights_set, weights_in}
use Rattle.decl_index.specs.Places.{told_or, Leaves}
use Rattle.type_names.specs.Names.{object_name}
use Rattle.decl_index.specs.Refusals.{supers_of, outers_of, IsLeastNamedCycle, IsFaultOf, IsTooHigh, RefusesFor}
use Rattle.decl_index.specs.Laws.{HasState, OneState, OneList, OneRefusal, UsesOfState, WeightsInRange}
use Rattle.decl_index.specs.declared.weights.Weights.{Weights}
use Rattle.decl_index.specs.Weighing.{AreWeights, usual}
use Rattle.decl_index.proofs.Names.{exact, greater}
use Rattle.decl_index.proofs.Sorted.{put_in, cut_out, put_rises, cut_rises}
use Rattle.decl_index.proofs.Places.{put_leaves, cut_leaves, leaves-none, leaves-then, none_or}
use Rattle.decl_index.proofs.State.{one_list}
use Rattle.decl_index.proofs.Keyed.{as_class, flags_of, pair_of, rises-back, at-back, one_counts, told-counts}

-- Edits of a list leave a list.
record Made (es : List Edit) (cs : List ClassSummary) : Type 0 where
  left : List ClassSummary
  leaves : Leaves es cs left

made-then : (e : Edit) (es : List Edit) (cs bs : List ClassSummary) → Leaves (e ∷ []) cs bs → Made es bs → Made (e ∷ es) cs
made-then e es cs bs l m = record { left = m.left; leaves = leaves-then (e ∷ []) es cs bs m.left l m.leaves }

made : (es : List Edit) (cs : List ClassSummary) → Rises cs → Made es cs
made [] cs r = record { left = cs; leaves = leaves-none cs r }
made (remove n ∷ es) cs r = made-then (remove n) es cs (cut_out n cs) (cut_leaves n cs r) (made es (cut_out n cs) (cut_rises n cs r))
made (put c ∷ es) cs r = made-then (put c) es cs (put_in c cs) (put_leaves c cs r) (made es (put_in c cs) (put_rises c cs r))

from-nothing : (es : List Edit) → Made es []
unfolding Rises
from-nothing es = made es [] tt

nothing-named : (n : Name) → class_named [] n ≡ None
unfolding class_named
nothing-named n = refl

classes-after : (h : List Change) (m : Made (flat_map edits_of h) []) → AreClasses h m.left
classes-after h m = record {
  rises = m.leaves.rises;
  named = λ n. m.leaves.each n ∙ ap (told_or (decided n (flat_map edits_of h))) (nothing-named n) ∙ sym (none_or (decided n (flat_map edits_of h)));
}

counts-after : (h : List Change) (m : Made (map put (map as_class (flat_map counts_of h))) []) → AreCounts h (map pair_of m.left)
counts-after h m = record {
  rises = rises-back m.left m.leaves.rises;
  keyed = λ n. at-back m.left n ∙ ap (option_map flags_of) (m.leaves.each n ∙ ap (told_or (decided n (map put (map as_class (flat_map counts_of h))))) (nothing-named n)) ∙ told-counts (flat_map counts_of h) n;
}

pub has_state : HasState
has_state h =
    let cs = from-nothing (flat_map edits_of h) in
    let ps = from-nothing (map put (map as_class (flat_map counts_of h))) in (
      record { classes = cs.left; counts = map pair_of ps.left; weights = weights_in h; number = length h },
      record { classes = classes-after h cs; counts = counts-after h ps; weights = refl; number = refl },
    )

pub one_classes : OneList
one_classes h cs ds a b = one_list cs ds a.rises b.rises (λ n. a.named n ∙ sym (b.named n))

state-by : (s t : State) → s.classes ≡ t.classes → s.counts ≡ t.counts → s.weights ≡ t.weights → s.number ≡ t.number → s ≡ t
state-by s t p q w r = λ i. record { classes = p i; counts = q i; weights = w i; number = r i }

pub one_state : OneState
one_state h s t a b =
    state-by s t (one_classes h s.classes t.classes a.classes b.classes)
    (one_counts s.counts t.counts a.counts.rises b.counts.rises (λ n. a.counts.keyed n ∙ sym (b.counts.keyed n)))
    (a.weights ∙ sym b.weights)
    (a.number ∙ sym b.number)

-- Refusals.
least-by : (o : Ordering) (to : ClassSummary → List Name) (but : Option Name) (cs : List ClassSummary) (n m : Name) → order n m ≡ o → IsLeastNamedCycle to but cs n → IsLeastNamedCycle to but cs m → n ≡ m
least-by Less to but cs n m e a b = absurd (b.least n e a.counts a.cycle)
least-by Equal to but cs n m e a b = exact n m e
least-by Greater to but cs n m e a b = absurd (a.least m (greater n m e) b.counts b.cycle)

least-one : (to : ClassSummary → List Name) (but : Option Name) (cs : List ClassSummary) (n m : Name) → IsLeastNamedCycle to but cs n → IsLeastNamedCycle to but cs m → n ≡ m
least-one to but cs n m a b = least-by (order n m) to but cs n m refl a b

fault-one : (cs : List ClassSummary) (f g : ChangeFault) → IsFaultOf cs f → IsFaultOf cs g → f ≡ g
fault-one cs (Cyclic n) (Cyclic m) a b = ap Cyclic (least-one supers_of (Some object_name) cs n m a b)
fault-one cs (Cyclic n) (NestCycle m) a b = absurd (b.0.none n a.counts a.cycle)
fault-one cs (Cyclic n) (Full m) a b = absurd (b.0.none n a.counts a.cycle)
fault-one cs (NestCycle n) (Cyclic m) a b = absurd (a.0.none m b.counts b.cycle)
fault-one cs (NestCycle n) (NestCycle m) a b = ap NestCycle (least-one outers_of None cs n m a.1 b.1)
fault-one cs (NestCycle n) (Full m) a b = absurd (b.1.none n a.1.counts a.1.cycle)
fault-one cs (Full n) (Cyclic m) a b = absurd (a.0.none m b.counts b.cycle)
fault-one cs (Full n) (NestCycle m) a b = absurd (a.1.none m b.1.counts b.1.cycle)
fault-one cs (Full n) (Full m) a b = ap Full (a.2 ∙ sym b.2)
fault-one cs (TooHigh n) g a b = absurd a
fault-one cs JournalFull g a b = absurd a
fault-one cs OutOfMemory g a b = absurd a
fault-one cs f (TooHigh m) a b = absurd b
fault-one cs f JournalFull a b = absurd b
fault-one cs f OutOfMemory a b = absurd b

high-one : (k m : ℕ) (f g : ChangeFault) → IsTooHigh k m f → IsTooHigh k m g → f ≡ g
high-one k m (TooHigh a) (TooHigh b) p q = ap TooHigh (p.0 ∙ sym q.0)
high-one k m (TooHigh a) (Cyclic n) p q = absurd q
high-one k m (TooHigh a) (NestCycle n) p q = absurd q
high-one k m (TooHigh a) (Full n) p q = absurd q
high-one k m (TooHigh a) JournalFull p q = absurd q
high-one k m (TooHigh a) OutOfMemory p q = absurd q
high-one k m (Cyclic n) g p q = absurd p
high-one k m (NestCycle n) g p q = absurd p
high-one k m (Full n) g p q = absurd p
high-one k m JournalFull g p q = absurd p
high-one k m OutOfMemory g p q = absurd p

refused-one : (h : List Change) (c : Change) (f g : ChangeFault) → RefusesFor h c f → RefusesFor h c g → f ≡ g
refused-one h (Publish puts removes counts) f g a b =
    let one = one_classes (h ++ Publish puts removes counts ∷ []) a.left b.left a.classes b.classes in
    fault-one b.left f g (subst (λ cs. IsFaultOf cs f) one a.fault) b.fault
refused-one h (Withdraw m) f g a b = high-one (length h) m f g a b
refused-one h (SetWeights w) f g a b = absurd a

pub one_refusal : OneRefusal
one_refusal h c f g (inl a) (inl b) = a.1 ∙ sym b.1
one_refusal h c f g (inl a) (inr b) = absurd (omega (arith, a.0, b.0))
one_refusal h c f g (inr a) (inl b) = absurd (omega (arith, a.0, b.0))
one_refusal h c f g (inr a) (inr b) = refused-one h c f g a.1 b.1

-- Counts.
use-by : (b : Bool) (n : ℕ) (x : ℕ) (y : Option ℕ) → x ≡ unwrap_or y 0 → cond b n x ≡ unwrap_or (cond b (Some n) y) 0
use-by true n x y h = refl
use-by false n x y h = h

use-at : (ps : List (Name × ℕ)) (key : Name) → use_of ps key ≡ unwrap_or (count_at ps key) 0
unfolding use_of count_at
use-at [] key = refl
use-at (p ∷ ps) key = use-by (bytes_eq key p.0) p.1 (use_of ps key) (count_at ps key) (use-at ps key)

pub uses_of_state : UsesOfState
uses_of_state h s is key = use-at s.counts key ∙ ap (λ n. unwrap_or n 0) (is.counts.keyed key)

-- Weights.
pub usual-fit : AreWeights usual
usual-fit = record {
  bound = (omega arith, omega arith);
  binder = (omega arith, omega arith);
  step = (omega arith, omega arith);
  local = (omega arith, omega arith);
  lambda = (omega arith, omega arith);
  own = (omega arith, omega arith);
  near = (omega arith, omega arith);
  literal = (omega arith, omega arith);
  far = (omega arith, omega arith);
}

or-fit : (o : Option Weights) (c : Change) → IfSome o AreWeights → KeepsRanges c → IfSome (option_or o (weights_of c)) AreWeights
or-fit (Some w) c h k = h
or-fit None (Publish puts removes counts) h k = tt
or-fit None (Withdraw m) h k = tt
or-fit None (SetWeights w) h k = k

set-fit : (h : List Change) → AllByRecursion KeepsRanges h → IfSome (weights_set h) AreWeights
unfolding weights_set
set-fit [] all = tt
set-fit (c ∷ h) all = or-fit (weights_set h) c (set-fit h all.1) all.0

or-usual : (o : Option Weights) → IfSome o AreWeights → AreWeights (unwrap_or o usual)
or-usual (Some w) h = h
or-usual None h = usual-fit

pub weights_in_range : WeightsInRange
weights_in_range h all = or-usual (weights_set h) (set-fit h all)

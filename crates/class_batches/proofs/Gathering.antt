-- What files give, one after the other.
use Rattle.std.proofs.Common.{◌≡◌, ◌∙◌, ap, sym, subst, refl, ℕ, ◌+◌, ◌<◌, arith, List, [], ◌∷◌, ◌++◌, length, length-append, map, take, take_all, drop, get_or, Option, Some, None, Result, Ok, Err, inl, inr, ◌⊎◌}
use Rattle.std.specs.Prelude.{option_map, slice_get}
use Rattle.std.specs.List.{cons_option, AllZip}
use Rattle.std.proofs.lemmas.List.{map-append, take_more, drop_more, take-append-drop}
use Rattle.class_pool.specs.declared.fault.ClassFault.{ClassFault}
use Rattle.known_classes.specs.declared.summary.ClassSummary.{ClassSummary}
use Rattle.class_batches.specs.Classes.{AreSummariesOf}
use Rattle.class_batches.specs.Faults.{broken_by, first_broken, Parses}
use Rattle.class_batches.specs.declared.fault.BatchFault.{BatchFault}
use Rattle.class_batches.specs.declared.fault.BatchFault.TheVariants.{Broken, OutOfMemory}

-- A file whose bytes have no fault is no broken one.
pub none-broken : (o : Option ClassFault) (n : ℕ) → ((why : ClassFault) → o ≡ Some why → ⊥) → option_map (λ why. Broken n why) o ≡ None
none-broken None n h = refl
none-broken (Some why) n h = absurd (h why refl)

abbrev Answer : Type 0
Answer = Result ClassSummary BatchFault

head-none : (o : Option BatchFault) (fs : List BatchFault) → o ≡ None → slice_get (cons_option o fs) 0 ≡ slice_get fs 0
head-none None fs e = refl
head-none (Some f) fs e = cc

head-some : (o : Option BatchFault) (fs : List BatchFault) (f : BatchFault) → o ≡ Some f → slice_get (cons_option o fs) 0 ≡ Some f
head-some None fs f e = cc
head-some (Some g) fs f e = e

-- Where each file gave a class, nothing is wrong, and these are the classes.
all-sound : (files : List (ℕ × List ℕ)) (cs : List ClassSummary) → AllZip Parses files (map Ok cs) → first_broken files ≡ None
all-sound [] [] h = refl
all-sound [] (c ∷ cs) h = absurd h
all-sound (x ∷ files) [] h = absurd h
all-sound (x ∷ files) (c ∷ cs) h = head-none (broken_by x) _ h.0.0 ∙ all-sound files cs h.1

all-classes : (files : List (ℕ × List ℕ)) (cs : List ClassSummary) → AllZip Parses files (map Ok cs) → AreSummariesOf files cs
all-classes [] [] h = tt
all-classes [] (c ∷ cs) h = absurd h
all-classes (x ∷ files) [] h = absurd h
all-classes (x ∷ files) (c ∷ cs) h = (h.0.1, all-classes files cs h.1)

-- The fault of the first that gave none.
first-wrong : (files : List (ℕ × List ℕ)) (cs : List ClassSummary) (f : BatchFault) (rest : List Answer) → AllZip Parses files (map Ok cs ++ Err f ∷ rest) → (f ≡ OutOfMemory) ⊎ (first_broken files ≡ Some f)
first-wrong [] [] f rest h = absurd h
first-wrong [] (c ∷ cs) f rest h = absurd h
first-wrong (x ∷ files) [] f rest h = by h.0.0
  where
    by : (f ≡ OutOfMemory) ⊎ (broken_by x ≡ Some f) → (f ≡ OutOfMemory) ⊎ (first_broken (x ∷ files) ≡ Some f)
    by (inl e) = inl e
    by (inr e) = inr (head-some (broken_by x) _ f e)
first-wrong (x ∷ files) (c ∷ cs) f rest h = by (first-wrong files cs f rest h.1)
  where
    by : (f ≡ OutOfMemory) ⊎ (first_broken files ≡ Some f) → (f ≡ OutOfMemory) ⊎ (first_broken (x ∷ files) ≡ Some f)
    by (inl e) = inl e
    by (inr e) = inr (head-none (broken_by x) _ h.0.0 ∙ e)

-- One more gave a class.
pub one-more : (all : List Answer) (cs ds : List ClassSummary) (n : ℕ) (x : Answer) (c : ClassSummary) → n ≡ length cs → n < length all → x ≡ get_or all n x → x ≡ Ok c → ds ≡ cs ++ c ∷ []
    → take (length cs) all ≡ map Ok cs → take (length ds) all ≡ map Ok ds
one-more all cs ds n x c count l at is grown so_far =
    let before : take n all ≡ map Ok cs = ap (λ k. take k all) count ∙ so_far in
    let here : get_or all n x ≡ Ok c = sym at ∙ is in
    let long : length ds ≡ n + 1 = ap length grown ∙ length-append cs (c ∷ []) ∙ ap (λ k. k + 1) (sym count) in
    ap (λ k. take k all) long ∙ take_more all n x l ∙ ap (λ (z : Answer). take n all ++ z ∷ []) here ∙ ap (λ zs. zs ++ Ok c ∷ []) before ∙ sym (map-append Ok cs (c ∷ [])) ∙ ap (map Ok) (sym grown)

whole : (all : List Answer) (cs : List ClassSummary) (n : ℕ) → n ≡ length cs → n ≡ length all → take (length cs) all ≡ map Ok cs → all ≡ map Ok cs
whole all cs n count end so_far = sym (take_all (length all) all (omega arith)) ∙ ap (λ k. take k all) (sym end ∙ count) ∙ so_far

pub whole-sound : (files : List (ℕ × List ℕ)) (all : List Answer) (cs : List ClassSummary) (n : ℕ) → n ≡ length cs → n ≡ length all → take (length cs) all ≡ map Ok cs → AllZip Parses files all → first_broken files ≡ None
whole-sound files all cs n count end so_far h = all-sound files cs (subst (λ rs. AllZip Parses files rs) (whole all cs n count end so_far) h)

pub whole-classes : (files : List (ℕ × List ℕ)) (all : List Answer) (cs : List ClassSummary) (n : ℕ) → n ≡ length cs → n ≡ length all → take (length cs) all ≡ map Ok cs → AllZip Parses files all → AreSummariesOf files cs
whole-classes files all cs n count end so_far h = all-classes files cs (subst (λ rs. AllZip Parses files rs) (whole all cs n count end so_far) h)

pub cut-off : (files : List (ℕ × List ℕ)) (all : List Answer) (cs : List ClassSummary) (n : ℕ) (x : Answer) (f : BatchFault) → n ≡ length cs → n < length all → x ≡ get_or all n x → x ≡ Err f → take (length cs) all ≡ map Ok cs
    → AllZip Parses files all → (f ≡ OutOfMemory) ⊎ (first_broken files ≡ Some f)
cut-off files all cs n x f count l at is so_far h =
    let before : take n all ≡ map Ok cs = ap (λ k. take k all) count ∙ so_far in
    let rest : drop n all ≡ Err f ∷ drop (n + 1) all = drop_more all n x l ∙ ap (λ (z : Answer). z ∷ drop (n + 1) all) (sym at ∙ is) in
    let split : all ≡ map Ok cs ++ Err f ∷ drop (n + 1) all = sym (take-append-drop n all) ∙ ap (λ zs. zs ++ drop n all) before ∙ ap (λ zs. map Ok cs ++ zs) rest in
    first-wrong files cs f (drop (n + 1) all) (subst (λ rs. AllZip Parses files rs) split h)

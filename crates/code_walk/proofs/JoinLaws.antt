-- The ranges of a list of `Code` attributes, both ways, and the first attribute that is none.
use Rattle.std.proofs.Common.{◌≡◌, ℕ, ◌+◌, Bool, true, false, cond, List, [], ◌∷◌, ◌++◌, Result, Ok, Err, refl, sym, ap, subst, ◌∙◌, append_assoc}
use Rattle.std.specs.List.{filter, flat_map, AllByRecursion}
use Rattle.std.proofs.lemmas.List.Concat.{flat_map-cons}
use Rattle.class_pool.specs.declared.fault.ClassFault.{ClassFault}
use Rattle.class_pool.specs.declared.fault.ClassCause.TheVariants.{Attribute}
use Rattle.class_pool.specs.Spelling.{Entry}
use Rattle.class_pool.specs.Reading.{IsBytes, ◌>>=◌, Gives}
use Rattle.class_pool.proofs.Codec.{ok_is}
use Rattle.class_shape.specs.Shapes.{Pairwise}
use Rattle.class_shape.specs.Reading.{AttributeSeen}
use Rattle.std.specs.declared.vec.Vec.{Vec}
use Rattle.class_shape.specs.Views.{attribute_lists}
use Rattle.class_shape.specs.Meaning.{joined}
use Rattle.code_walk.specs.Code.{HasRange, HasSomeRange, is_code, same_list}
use Rattle.code_walk.specs.CodeReading.{code_at, of_attribute, range_of, attribute_ranges, method_ranges}
use Rattle.code_walk.proofs.CodeLaws.{start_of, range_found, Reads, range_only}

abbrev pub Ranges : Type 0
Ranges = List (ℕ × ℕ)

abbrev pub HasBytes : AttributeSeen → Type 0
HasBytes a = IsBytes a.body

abbrev from_len : AttributeSeen → Result ℕ ClassFault → Result Ranges ClassFault
from_len a d = range_of (start_of a) (of_attribute a.len_at d)

-- what a `Code` attribute gives
abbrev pub one_range : AttributeSeen → Result Ranges ClassFault
one_range a = from_len a (code_at a.end a.body)

abbrev then_more : Result Ranges ClassFault → Ranges → Result Ranges ClassFault
then_more r ys = r >>= λ more. Ok (ys ++ more)

abbrev ok_ranges : Ranges → Result Ranges ClassFault
ok_ranges l = Ok l

abbrev told_err : ClassFault → Result Ranges ClassFault
told_err d = Err d

err_is : (a b : ClassFault) → told_err a ≡ told_err b → b ≡ a
err_is a b e = cc

nil_err : (d : ClassFault) → ok_ranges [] ≡ told_err d → ⊥
nil_err d e = absurd cc

no_len : (r : Result ℕ ClassFault) (n : ℕ) (d : ClassFault) → r ≡ Ok n → r ≡ Err d → ⊥
no_len r n d e f = absurd cc

cons_ok : (r : Result Ranges ClassFault) (range : ℕ × ℕ) (whole : Ranges) → then_more r (range ∷ []) ≡ Ok whole → (more : Ranges) × (r ≡ Ok more) × ((range ∷ more) ≡ whole)
cons_ok (Ok more) range whole e = (more, refl, ok_is (range ∷ more) whole e)
cons_ok (Err d) range whole e = absurd cc

more_err : (r : Result Ranges ClassFault) (ys : Ranges) (d : ClassFault) → then_more r ys ≡ Err d → r ≡ Err d
more_err (Ok more) ys d e = absurd cc
more_err (Err b) ys d e = cc

-- ---- each has its range
found_first : (a : AttributeSeen) (list : List AttributeSeen) (ranges : Ranges) → HasBytes a → ((more : Ranges) → joined one_range list ≡ Ok more → Pairwise HasRange list more) → (d : Result ℕ ClassFault) → code_at a.end a.body ≡ d → (from_len a d >>= then_more (joined one_range list)) ≡ Ok ranges → Pairwise HasRange (a ∷ list) ranges
found_first a list ranges fits later (Ok n) k e =
    let c = cons_ok (joined one_range list) (start_of a, start_of a + n) ranges e in
    subst (λ (r : Ranges). Pairwise HasRange (a ∷ list) r) c.2 (range_found a n fits k, later c.0 c.1)
found_first a list ranges fits later (Err d) k e = absurd cc

pub each_found : (list : List AttributeSeen) (ranges : Ranges) → AllByRecursion HasBytes list → joined one_range list ≡ Ok ranges → Pairwise HasRange list ranges
unfolding joined
each_found [] ranges fits e = subst (λ (r : Ranges). Pairwise HasRange [] r) (ok_is [] ranges e) tt
each_found (a ∷ list) ranges fits e = found_first a list ranges fits.0 (λ more k. each_found list more fits.1 k) (code_at a.end a.body) refl e

only_first : (a : AttributeSeen) (list : List AttributeSeen) (range : ℕ × ℕ) (more : Ranges) → Reads a range → joined one_range list ≡ Ok more → joined one_range (a ∷ list) ≡ Ok (range ∷ more)
unfolding joined
only_first a list range more o k = rw (o.read, k) (ap (λ (r : ℕ × ℕ). ok_ranges (r ∷ more)) (sym o.range_is))

pub each_only : (list : List AttributeSeen) (ranges : Ranges) → Pairwise HasRange list ranges → joined one_range list ≡ Ok ranges
unfolding joined
each_only [] [] h = refl
each_only [] (r ∷ rs) h = absurd h
each_only (a ∷ list) [] h = absurd h
each_only (a ∷ list) (r ∷ rs) h = only_first a list r rs (range_only a r h.0) (each_only list rs h.1)

-- ---- the first that has none
pub record Stop (list : List AttributeSeen) (d : ClassFault) : Type 0 where
  pub good : List AttributeSeen
  pub bad : AttributeSeen
  pub more : List AttributeSeen
  pub split : list ≡ good ++ (bad ∷ more)
  pub each : AllByRecursion HasSomeRange good
  pub none : (range : ℕ × ℕ) → HasRange bad range → ⊥
  pub fault_is : d ≡ record { at = bad.len_at; cause = Attribute }

stop_first : (a : AttributeSeen) (list : List AttributeSeen) (d : ClassFault) → HasBytes a → (joined one_range list ≡ Err d → Stop list d) → (r : Result ℕ ClassFault) → code_at a.end a.body ≡ r → (from_len a r >>= then_more (joined one_range list)) ≡ Err d → Stop (a ∷ list) d
stop_first a list d fits later (Ok n) k e =
    let s = later (more_err (joined one_range list) ((start_of a, start_of a + n) ∷ []) d e) in
    record { good = a ∷ s.good; bad = s.bad; more = s.more; split = ap (λ (t : List AttributeSeen). a ∷ t) s.split; each = (((start_of a, start_of a + n), range_found a n fits k), s.each); none = s.none; fault_is = s.fault_is }
stop_first a list d fits later (Err b) k e =
    record { good = []; bad = a; more = list; split = refl; each = tt; none = λ range h. let o = range_only a range h in no_len (code_at a.end a.body) o.len b o.read k; fault_is = err_is _ _ e }

pub each_stops : (list : List AttributeSeen) (d : ClassFault) → AllByRecursion HasBytes list → joined one_range list ≡ Err d → Stop list d
unfolding joined
each_stops [] d fits e = absurd (nil_err d e)
each_stops (a ∷ list) d fits e = stop_first a list d fits.0 (λ k. each_stops list d fits.1 k) (code_at a.end a.body) refl e

bad_first : (a : AttributeSeen) (list : List AttributeSeen) → HasBytes a → ((range : ℕ × ℕ) → HasRange a range → ⊥) → (r : Result ℕ ClassFault) → code_at a.end a.body ≡ r → (from_len a r >>= then_more (joined one_range list)) ≡ Err (record { at = a.len_at; cause = Attribute })
bad_first a list fits none (Ok n) k = absurd (none _ (range_found a n fits k))
bad_first a list fits none (Err d) k = refl

good_first : (a : AttributeSeen) (list : List AttributeSeen) (range : ℕ × ℕ) (d : ClassFault) → Reads a range → joined one_range list ≡ Err d → joined one_range (a ∷ list) ≡ Err d
unfolding joined
good_first a list range d o k = rw (o.read, k) refl

pub stops : (good : List AttributeSeen) (bad : AttributeSeen) (more : List AttributeSeen) → AllByRecursion HasSomeRange good → HasBytes bad → ((range : ℕ × ℕ) → HasRange bad range → ⊥) → joined one_range (good ++ (bad ∷ more)) ≡ Err (record { at = bad.len_at; cause = Attribute })
unfolding joined
stops [] bad more each fits none = bad_first bad more fits none (code_at bad.end bad.body) refl
stops (a ∷ good) bad more each fits none = good_first a (good ++ (bad ∷ more)) each.0.0 _ (range_only a each.0.0 each.0.1) (stops good bad more each.1 fits none)

-- ---- among all attributes
nothing_more : (r : Result Ranges ClassFault) → then_more r [] ≡ r
nothing_more (Ok x) = refl
nothing_more (Err d) = refl

other_first : (a : AttributeSeen) (list : List AttributeSeen) (rest : Result Ranges ClassFault) (b : Bool) → rest ≡ joined one_range list → (cond b (one_range a) (Ok []) >>= then_more rest) ≡ joined one_range (cond b (a ∷ list) list)
unfolding joined
other_first a list rest true k = ap (λ (r : Result Ranges ClassFault). one_range a >>= then_more r) k
other_first a list rest false k = nothing_more rest ∙ k

pub among : (es : List Entry) (list : List AttributeSeen) → joined (attribute_ranges es) list ≡ joined one_range (filter (is_code es) list)
unfolding joined attribute_ranges
among es [] = refl
among es (a ∷ list) = other_first a (filter (is_code es) list) (joined (attribute_ranges es) list) (is_code es a) (among es list)

module _ {A : Type 0} (f : A → Result Ranges ClassFault) where
  regroup : (r : Result Ranges ClassFault) (s t : Result Ranges ClassFault) → (r >>= λ ys. (s >>= λ zs. then_more t zs) >>= λ more. Ok (ys ++ more)) ≡ ((r >>= λ ys. s >>= λ more. Ok (ys ++ more)) >>= λ zs. then_more t zs)
  regroup (Err d) s t = refl
  regroup (Ok ys) (Err d) t = refl
  regroup (Ok ys) (Ok zs) (Err d) = refl
  regroup (Ok ys) (Ok zs) (Ok more) = ap (λ (l : Ranges). ok_ranges l) (sym (append_assoc ys zs more))

  joined-append : (xs ys : List A) → joined f (xs ++ ys) ≡ (joined f xs >>= λ zs. then_more (joined f ys) zs)
  unfolding joined
  joined-append [] ys = sym (nothing_more (joined f ys))
  joined-append (x ∷ xs) ys = ap (λ (r : Result Ranges ClassFault). f x >>= then_more r) (joined-append xs ys) ∙ regroup (f x) (joined f xs) (joined f ys)

pub flattened : (es : List Entry) (lists : List (List AttributeSeen)) → joined (method_ranges es) lists ≡ joined (attribute_ranges es) (flat_map same_list lists)
unfolding joined
flattened es [] = refl
flattened es (l ∷ ls) =
    ap (λ (r : Result Ranges ClassFault). method_ranges es l >>= then_more r) (flattened es ls) ∙ sym (joined-append (attribute_ranges es) l (flat_map same_list ls)) ∙ ap (joined (attribute_ranges es)) (sym (flat_map-cons same_list l ls))

pub joined-lists : {Z : Type 0} (f : List AttributeSeen → Result Ranges ClassFault) (vs : List (Vec AttributeSeen Z)) → joined f (attribute_lists vs) ≡ joined (λ v. f v.items) vs
unfolding joined
joined-lists f [] = refl
joined-lists f (v ∷ vs) = ap (λ (r : Result Ranges ClassFault). f v.items >>= then_more r) (joined-lists f vs)

pub of_lists : {V Z : Type 0} (view : V → Ranges) (r : Result V ClassFault) (f : List AttributeSeen → Result Ranges ClassFault) (vs : List (Vec AttributeSeen Z)) → Gives view r (joined (λ v. f v.items) vs) → Gives view r (joined f (attribute_lists vs))
of_lists view r f vs given = subst (λ (x : Result Ranges ClassFault). Gives view r x) (sym (joined-lists f vs)) given

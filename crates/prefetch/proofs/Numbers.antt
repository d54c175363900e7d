-- The tasks of senders that are numbered one after the other: each stands once, and no other stands.
use Rattle.std.proofs.Common.{◌≡◌, ◌==◌, ◌&&◌, cond, ℕ, zero, suc, ◌+◌, ◌<◌, nat_lt, List, [], ◌∷◌, map, sym, refl, ap, ◌∙◌, subst, arith}
use Rattle.std.specs.List.{flat_map}
use Rattle.prefetch.specs.Tasks.{times, numbered}
use Rattle.prefetch.specs.Starts.{Handing, IsNumbered}
use Rattle.prefetch.specs.Settling.{tasks_of, handed_by, was_handed, IsEachOnce}
use Rattle.prefetch.proofs.Once.{times-append}

one_more : (k n a i : ℕ) → cond ((k == a) && nat_lt i n) 1 0 + cond ((k == a) && (n == i)) 1 0 ≡ cond ((k == a) && nat_lt i (suc n)) 1 0
one_more k n a i = grind arith

times_numbered : (k n a i : ℕ) → times (a, i) (numbered k n) ≡ cond ((k == a) && nat_lt i n) 1 0
times_numbered k zero a i = grind arith
times_numbered k (suc n) a i =
    let rest = times_numbered k n a i in
    let both = times-append (a, i) (numbered k n) ((k, n) ∷ []) in
    let last = one_more k n a i in omega arith

-- another sender has none of these tasks
times_other : (k n a i : ℕ) → ¬ (k ≡ a) → times (a, i) (numbered k n) ≡ 0
times_other k n a i apart = let t = times_numbered k n a i in grind arith

times_own : (k n i : ℕ) → times (k, i) (numbered k n) ≡ cond (nat_lt i n) 1 0
times_own k n i = let t = times_numbered k n k i in grind arith

none_below : (senders : List Handing) (k a i : ℕ) → IsNumbered k senders → a < k → times (a, i) (flat_map tasks_of senders) ≡ 0
none_below [] k a i order below = refl
none_below (s ∷ senders) k a i order below =
    let both = times-append (a, i) (tasks_of s) (flat_map tasks_of senders) in
    let own = times_other s.sender s.handed a i (λ e. absurd (omega (arith, e, order.0, below))) in
    let rest = none_below senders (suc k) a i order.1 (omega (arith, below)) in omega arith

once_from : (senders : List Handing) (k j i : ℕ) → IsNumbered k senders → times (k + j, i) (flat_map tasks_of senders) ≡ cond (was_handed (map handed_by senders) j i) 1 0
once_from [] k j i order = refl
once_from (s ∷ senders) k zero i order =
    let both = times-append (k + 0, i) (tasks_of s) (flat_map tasks_of senders) in
    let same : k + 0 ≡ s.sender = omega (arith, order.0) in
    let own : times (k + 0, i) (tasks_of s) ≡ cond (nat_lt i s.handed) 1 0 = subst (λ (a : ℕ). times (a, i) (tasks_of s) ≡ cond (nat_lt i s.handed) 1 0) (sym same) (times_own s.sender s.handed i) in
    let rest = none_below senders (suc k) (k + 0) i order.1 (omega arith) in omega arith
once_from (s ∷ senders) k (suc j) i order =
    let both = times-append (k + suc j, i) (tasks_of s) (flat_map tasks_of senders) in
    let own = times_other s.sender s.handed (k + suc j) i (λ e. absurd (omega (arith, e, order.0))) in
    let shift : suc k + j ≡ k + suc j = omega arith in
    let rest : times (k + suc j, i) (flat_map tasks_of senders) ≡ cond (was_handed (map handed_by senders) j i) 1 0
    = subst (λ (a : ℕ). times (a, i) (flat_map tasks_of senders) ≡ cond (was_handed (map handed_by senders) j i) 1 0) shift (once_from senders (suc k) j i order.1) in omega arith

pub each_once : (senders : List Handing) (handed : List ℕ) (tasks : List (ℕ × ℕ)) → IsNumbered 0 senders → handed ≡ map handed_by senders
    → ((p : ℕ × ℕ) → times p (flat_map tasks_of senders) ≡ times p tasks) → IsEachOnce handed tasks
each_once senders handed tasks order same all p =
    let zero_more : 0 + p.0 ≡ p.0 = omega arith in
    let once : times p (flat_map tasks_of senders) ≡ cond (was_handed (map handed_by senders) p.0 p.1) 1 0
    = subst (λ (a : ℕ). times (a, p.1) (flat_map tasks_of senders) ≡ cond (was_handed (map handed_by senders) p.0 p.1) 1 0) zero_more (once_from senders 0 p.0 p.1 order) in
    sym (all p) ∙ once ∙ ap (λ (ns : List ℕ). cond (was_handed ns p.0 p.1) 1 0) (sym same)

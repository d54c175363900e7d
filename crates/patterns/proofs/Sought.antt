-- The state in which a need is sought: its set, its lambdas left and its goal.
use Rattle.std.proofs.Common.{◌≡◌, ℕ, zero, suc, ◌+◌, ◌<◌, Bool, true, false, List, [], length, get_or, slice_get, Option, Some, None, refl, sym, ap, subst, ◌∙◌, arith}
use Rattle.std.proofs.lemmas.Bool.{false≢true}
use Rattle.std.proofs.lemmas.Option.{slice_get-get_or, slice_get_within}
use Rattle.terms.specs.declared.parts.Arg.{Arg}
use Rattle.terms.specs.declared.parts.Arg.TheVariants.{Plain, Fun}
use Rattle.terms.specs.declared.parts.Parts.{Parts}
use Rattle.succinct.specs.Compression.{Compression, IsCompression, need_of}
use Rattle.succinct.specs.Sets.{has, IsRising}
use Rattle.succinct.specs.declared.need.Need.{Need}
use Rattle.patterns.specs.declared.state.State.{State}
use Rattle.patterns.specs.declared.wanted.Wanted.{Wanted}
use Rattle.patterns.specs.Patterned.{Patterned, ArePatterns, AreSought, IsSoughtAt, sought_from, state_sought}
use Rattle.patterns.specs.States.{Space, types_at, left_at, set_sought, state_place, place_in, place_sought, kinds_of, IsListed, AreWanted, IsWantedAs, AreSteps, AreSetsInRange}
use Rattle.patterns.proofs.Mets.{in_ends, state_place-get, state_place-is}
use Rattle.patterns.proofs.Meaning.{some_eq, lambda-step, lambda-there, plain-sought, plain-same, types-rising, need-is}

-- a set in which a want is sought is there
pub sets-in_range : (needs : List Need) (p : Space) → AreWanted needs p.wanted → AreSteps needs p.bound p.steps (length p.bound) → length p.wanted ≡ length needs → AreSetsInRange p
sets-in_range needs p table steps long n set to w is sought low = go w.lambda refl
  where
    d : Need
    d = record { params = []; result = 0; lambda = false }

    go : (b : Bool) → w.lambda ≡ b → to < length p.bound
    go false l = subst (λ t. t < length p.bound) (plain-same p set w to l sought) low
    go true l =
        let within = slice_get_within p.wanted n w is in
        let there : slice_get needs n ≡ Some (get_or needs n d) = slice_get-get_or needs n d (omega (arith, within, long)) in
        let t = table n (get_or needs n d) there in
        let same : t.0 ≡ w = some_eq t.0 w (sym t.1 ∙ is) in
        let as_wanted : IsWantedAs n (get_or needs n d) w = subst (λ x. IsWantedAs n (get_or needs n d) x) same t.2 in
        (lambda-step p needs steps set n to (get_or needs n d) w as_wanted there (sym as_wanted.lambda ∙ l) sought).within

is_there : Option ℕ → Bool
is_there None = false
is_there (Some x) = true

none_some : (j : ℕ) → None ≡ Some j → ⊥
unfolding is_there
none_some j h = false≢true (ap is_there h)

module _ (g : Parts) (c : Compression) (d : Patterned) (comp : IsCompression g c) (table : AreWanted c.needs d.space.wanted) (steps : AreSteps c.needs d.space.bound d.space.steps (length d.space.bound)) (rising : (set : ℕ) → IsRising (types_at d.space set)) where
  sought-is : (i n : ℕ) (s : State) (w : Wanted) → slice_get d.states i ≡ Some s → slice_get d.space.wanted n ≡ Some w → state_sought d i n ≡ place_in d.states w.goal (set_sought d.space s.set w)
  sought-is i n s w at is = ap (λ o. sought_from d o n) at ∙ ap (place_sought d.space d.states s) is

  -- by the argument that the need stands for
  at-arg : (n : ℕ) (s : State) (w : Wanted) (to : ℕ) (a : Arg) → slice_get c.needs n ≡ Some (need_of a) → IsWantedAs n (need_of a) w → set_sought d.space s.set w ≡ Some to → IsSoughtAt d.space s (need_of a) (record { set = to; goal = w.goal })
  at-arg n s w to (Plain b) at as_wanted sought =
      let same : s.set ≡ to = plain-same d.space s.set w to as_wanted.lambda sought in
      record { goal = as_wanted.goal; types = ap (types_at d.space) (sym same); left = ap (left_at d.space) same }
  at-arg n s w to (Fun ps r) at as_wanted sought =
      let st = lambda-step d.space c.needs steps s.set n to (need_of (Fun ps r)) w as_wanted at refl sought in
      record { goal = as_wanted.goal; types = st.types; left = st.left }

  at-need : (n : ℕ) (need : Need) → slice_get c.needs n ≡ Some need → (s : State) (w : Wanted) (to : ℕ) → IsWantedAs n need w → set_sought d.space s.set w ≡ Some to → IsSoughtAt d.space s need (record { set = to; goal = w.goal })
  at-need n need is s w to as_wanted sought =
      let a = need-is g c d.space comp table steps rising n need is in
      let as_arg : IsWantedAs n (need_of a.0) w = subst (λ x. IsWantedAs n x w) a.1 as_wanted in
      subst (λ x. IsSoughtAt d.space s x (record { set = to; goal = w.goal })) (sym a.1) (at-arg n s w to a.0 (is ∙ ap (λ x. Some x) a.1) as_arg sought)

  pub sought-some : (i n : ℕ) (s : State) (need : Need) → slice_get d.states i ≡ Some s → slice_get c.needs n ≡ Some need → (j : ℕ) (t : State) → state_sought d i n ≡ Some j → slice_get d.states j ≡ Some t → IsSoughtAt d.space s need t
  sought-some i n s need at is j t sought there = (let w = table n need is in go w.0 w.2 (set_sought d.space s.set w.0) refl (sym (sought-is i n s w.0 at w.1) ∙ sought))
    where
      go : (w : Wanted) → IsWantedAs n need w → (o : Option ℕ) → set_sought d.space s.set w ≡ o → place_in d.states w.goal o ≡ Some j → IsSoughtAt d.space s need t
      go w as_wanted None e h = absurd (none_some j h)
      go w as_wanted (Some to) e h =
          let found : slice_get d.states j ≡ Some (record { set = to; goal = w.goal }) = state_place-get d.states (record { set = to; goal = w.goal }) j h in
          subst (λ x. IsSoughtAt d.space s need x) (some_eq (record { set = to; goal = w.goal }) t (sym found ∙ there)) (at-need n need is s w to as_wanted e)

-- the set in which a need is sought, where it is no lambda or some are left
set-there : (p : Space) (needs : List Need) → AreSteps needs p.bound p.steps (length p.bound) → (set n : ℕ) (need : Need) (w : Wanted) → IsWantedAs n need w → slice_get needs n ≡ Some need → (need.lambda ≡ true → 0 < left_at p set) → (to : ℕ) × (set_sought p set w ≡ Some to)
set-there p needs steps set n need w as_wanted at room = go need.lambda refl
  where
    by_left : (l : ℕ) → left_at p set ≡ l → need.lambda ≡ true → (to : ℕ) × (set_sought p set w ≡ Some to)
    by_left zero e lambda = (let some = room lambda in absurd (omega (arith, some, e)))
    by_left (suc m) e lambda = (let r = lambda-there p needs steps set n m need w as_wanted at lambda e in (r.0, r.1))

    go : (b : Bool) → need.lambda ≡ b → (to : ℕ) × (set_sought p set w ≡ Some to)
    go false l = (set, plain-sought p set w (as_wanted.lambda ∙ l))
    go true l = by_left (left_at p set) refl l

-- where each need of each state is sought
pub are-sought : (g : Parts) (c : Compression) (goal depth : ℕ) (d : Patterned) → IsCompression g c → ArePatterns c goal depth d → AreSought c d
are-sought g c goal depth d comp made i n s need at is = record {
  some = sought-some g c d comp made.wanted made.steps rising i n s need at is;
  there = λ k kind found gives in_needs room. (
      let w = made.wanted n need is in
      let to = set-there d.space c.needs made.steps s.set n need w.0 w.2 is room in
      let z : 0 + k ≡ k = omega arith in
      let ends : has k (kinds_of c.kinds s.goal) ≡ true = ap (λ m. has m (kinds_of c.kinds s.goal)) (sym z) ∙ in_ends c.kinds s.goal k 0 kind found gives in
      let listed : IsListed d.states (record { set = to.0; goal = w.0.goal }) = made.found.closed s (i, at) k kind ends found n in_needs w.0 to.0 w.1 to.1 in
      let place : state_place d.states (record { set = to.0; goal = w.0.goal }) ≡ Some listed.0 = state_place-is d.states (record { set = to.0; goal = w.0.goal }) listed.0 made.found.distinct_states listed.1 in
      (listed.0, sought-is g c d comp made.wanted made.steps rising i n s w.0 at w.1 ∙ ap (place_in d.states w.0.goal) to.1 ∙ place, slice_get_within d.states listed.0 (record { set = to.0; goal = w.0.goal }) listed.1));
}
  where
    rising : (set : ℕ) → IsRising (types_at d.space set)
    rising = types-rising depth c.needs d.space made.only_sets

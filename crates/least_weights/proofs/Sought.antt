-- The places of a source's wants, at the states where they are sought.
use Rattle.std.proofs.Common.{◌≡◌, ℕ, suc, ◌+◌, List, [], ◌∷◌, ◌++◌, length, slice_get, Option, Some, None, refl, sym, ap, subst, ◌∙◌, arith, length-append}
use Rattle.terms.specs.declared.parts.Arg.TheVariants.{Plain, Fun}
use Rattle.succinct.specs.Compression.{Compression, need_of}
use Rattle.succinct.specs.Sets.{joined_with, set_of, types_bound}
use Rattle.patterns.specs.declared.state.State.{State}
use Rattle.patterns.specs.declared.wanted.Wanted.{Wanted}
use Rattle.patterns.specs.Patterned.{Patterned, state_sought, sought_from}
use Rattle.patterns.specs.States.{Space, types_at, left_at, set_sought, place_in, place_sought, AreWanted, IsWantedAs, AreSteps}
use Rattle.patterns.proofs.Contexts.{set_of-more}
use Rattle.patterns.proofs.Mets.{state_place-get}
use Rattle.patterns.proofs.Meaning.{lambda-step, plain-same}
use Rattle.succinct.proofs.Rising.{joined_with-set_of, rising-joined_with}
use Rattle.terms.specs.Typing.{joined}
use Rattle.edges.specs.Edges.{IsTail}
use Rattle.edges.proofs.Options.{some_eq, none_some}

-- a place stands at a state: the state's types are bound, so many lambdas are left, and its goal is wanted
pub record IsAt (d : Patterned) (depth i : ℕ) (ctx : List (List ℕ)) (left wanted : ℕ) : Type 0 where
  pub state : State
  pub is : slice_get d.states i ≡ Some state
  pub types : types_bound ctx ≡ types_at d.space state.set
  pub left_is : left ≡ left_at d.space state.set
  pub goal : wanted ≡ state.goal
  pub rows : length ctx + left ≡ depth

-- how a want is sought
record IsSought (p : Space) (states : List State) (from : State) (n t : ℕ) : Type 0 where
  wanted : Wanted
  set : ℕ
  is : slice_get p.wanted n ≡ Some wanted
  sought : set_sought p from.set wanted ≡ Some set
  state : slice_get states t ≡ Some (record { set = set; goal = wanted.goal })

sought-at : (p : Space) (states : List State) (from : State) (n t : ℕ) → place_sought p states from (slice_get p.wanted n) ≡ Some t → IsSought p states from n t
sought-at p states from n t h = go (slice_get p.wanted n) refl h
  where
    there : (w : Wanted) → slice_get p.wanted n ≡ Some w → (o : Option ℕ) → set_sought p from.set w ≡ o → place_in states w.goal o ≡ Some t → IsSought p states from n t
    there w is None e h' = absurd (none_some t h')
    there w is (Some set) e h' = record { wanted = w; set = set; is = is; sought = e; state = state_place-get states (record { set = set; goal = w.goal }) t h' }

    go : (o : Option Wanted) → slice_get p.wanted n ≡ o → place_sought p states from o ≡ Some t → IsSought p states from n t
    go None is h' = absurd (none_some t h')
    go (Some w) is h' = there w is (set_sought p from.set w) refl h'

from_state : (d : Patterned) (i n t : ℕ) (s : State) → slice_get d.states i ≡ Some s → state_sought d i n ≡ Some t → IsSought d.space d.states s n t
from_state d i n t s is h = sought-at d.space d.states s n t (ap (λ o. sought_from d o n) (sym is) ∙ h)

-- a lambda's body one lambda deeper
pub record IsUnder (d : Patterned) (depth t : ℕ) (ctx : List (List ℕ)) (left : ℕ) (ps : List ℕ) (r : ℕ) : Type 0 where
  pub inner : ℕ
  pub left_is : left ≡ suc inner
  pub at : IsAt d depth t (ctx ++ ps ∷ []) inner r

module _ (c : Compression) (d : Patterned) (depth : ℕ) (wants : AreWanted c.needs d.space.wanted) (steps : AreSteps c.needs d.space.bound d.space.steps (length d.space.bound)) where
  pub plain-at : (i t : ℕ) (ctx : List (List ℕ)) (left w b : ℕ) → IsAt d depth i ctx left w → IsTail c d i (Plain b) t → IsAt d depth t ctx left b
  plain-at i t ctx left w b at tail =
      let q : IsSought d.space d.states at.state tail.need t = from_state d i tail.need t at.state at.is tail.to in
      let r = wants tail.need (need_of (Plain b)) tail.is in
      let same : r.0 ≡ q.wanted = some_eq r.0 q.wanted (sym r.1 ∙ q.is) in
      let as_wanted : IsWantedAs tail.need (need_of (Plain b)) q.wanted = subst (λ x. IsWantedAs tail.need (need_of (Plain b)) x) same r.2 in
      let to : at.state.set ≡ q.set = plain-same d.space at.state.set q.wanted q.set as_wanted.lambda q.sought in
      record {
        state = record { set = q.set; goal = q.wanted.goal };
        is = q.state;
        types = at.types ∙ ap (λ x. types_at d.space x) to;
        left_is = at.left_is ∙ ap (λ x. left_at d.space x) to;
        goal = sym as_wanted.goal;
        rows = at.rows;
      }

  pub fun-at : (i t : ℕ) (ctx : List (List ℕ)) (left w : ℕ) (ps : List ℕ) (r : ℕ) → IsAt d depth i ctx left w → IsTail c d i (Fun ps r) t → IsUnder d depth t ctx left ps r
  fun-at i t ctx left w ps r at tail =
      let q : IsSought d.space d.states at.state tail.need t = from_state d i tail.need t at.state at.is tail.to in
      let u = wants tail.need (need_of (Fun ps r)) tail.is in
      let same : u.0 ≡ q.wanted = some_eq u.0 q.wanted (sym u.1 ∙ q.is) in
      let as_wanted : IsWantedAs tail.need (need_of (Fun ps r)) q.wanted = subst (λ x. IsWantedAs tail.need (need_of (Fun ps r)) x) same u.2 in
      let st = lambda-step d.space c.needs steps at.state.set tail.need q.set (need_of (Fun ps r)) q.wanted as_wanted tail.is refl q.sought in
      let left_is : left ≡ suc (left_at d.space q.set) = at.left_is ∙ st.left in
      let rows = at.rows in
      record {
        inner = left_at d.space q.set;
        left_is = left_is;
        at = record {
          state = record { set = q.set; goal = q.wanted.goal };
          is = q.state;
          types = set_of-more ctx ps ∙ sym (joined_with-set_of (types_bound ctx) ps (rising-joined_with [] (joined ctx) tt)) ∙ ap (λ x. joined_with x (set_of ps)) at.types ∙ sym st.types;
          left_is = refl;
          goal = sym as_wanted.goal;
          rows = omega (arith, length-append ctx (ps ∷ []), rows, left_is);
        };
      }

-- No term weighs less than the number of its state, where the numbers are closed under the edges.
use Rattle.std.proofs.Common.{◌≡◌, ◌⊎◌, inl, inr, ℕ, zero, suc, ◌+◌, ◌≤◌, ◌≢◌, Bool, true, false, ◌&&◌, ◌==◌, nat_lt, cond, List, [], ◌∷◌, ◌++◌, length, slice_get, Option, Some, None, refl, sym, ap, subst, ◌∙◌, arith}
use Rattle.std.proofs.lemmas.Bool.{false≢true, and_parts, and_from, or_cases, eqb-true, eq-eqb, ne_eqb}
use Rattle.terms.specs.Count.{total}
use Rattle.terms.specs.Expr.{Expr, var, head, Args, no_args, plain, lam}
use Rattle.terms.specs.Faults.{IsValid}
use Rattle.terms.specs.Place.{fits_place, weigh, shallow, args_shallow}
use Rattle.terms.specs.Reading.{binders}
use Rattle.terms.specs.Typing.{type_in, fits, some_below, is_below, is_pair, result_if, args_wanted}
use Rattle.terms.specs.Weights.{coercion_weight, binders_weight, step_in, decl_weight, weight_in, args_weight}
use Rattle.terms.specs.declared.parts.Arg.{Arg}
use Rattle.terms.specs.declared.parts.Arg.TheVariants.{Plain, Fun}
use Rattle.terms.specs.declared.parts.Decl.{Decl}
use Rattle.terms.specs.declared.parts.Parts.{Parts}
use Rattle.terms.proofs.Valid.{valid-pair, below-itself}
use Rattle.terms.proofs.Weighing.{binders_weight-none, binders_weight-more}
use Rattle.succinct.specs.Compression.{Compression, IsCompression}
use Rattle.succinct.specs.Sets.{has, types_bound}
use Rattle.patterns.specs.Derivable.{IsDerivable, AreDerivable}
use Rattle.patterns.specs.Patterned.{Patterned, ArePatterns}
use Rattle.patterns.specs.States.{types_at, left_at}
use Rattle.patterns.proofs.Contexts.{has_context}
use Rattle.patterns.proofs.Derives.{term-derives, args-derive}
use Rattle.edges.specs.Edges.{Edge, IsTail, AreTails, AreEdges, decl_cost}
use Rattle.edges.proofs.Options.{some_eq, none_some}
use Rattle.edges.proofs.Standing.{Standing, StandingBound, standing-bound}
use Rattle.least_weights.specs.Numbers.{number_at, IsSolution}
use Rattle.least_weights.proofs.Found.{has-decl, has-pair}
use Rattle.least_weights.proofs.Sought.{IsAt, IsUnder, plain-at, fun-at}

-- the first tail and the rest
pub record SplitTails (c : Compression) (d : Patterned) (i : ℕ) (a : Arg) (args : List Arg) (tails : List ℕ) : Type 0 where
  pub first : ℕ
  pub rest : List ℕ
  pub is : tails ≡ first ∷ rest
  pub tail : IsTail c d i a first
  pub others : AreTails c d i args rest

pub split-tails : (c : Compression) (d : Patterned) (i : ℕ) (a : Arg) (args : List Arg) (tails : List ℕ) → AreTails c d i (a ∷ args) tails → SplitTails c d i a args tails
split-tails c d i a args [] h = (let e = h.as_many in absurd (omega (arith, e)))
split-tails c d i a args (t ∷ ts) h = record {
  first = t;
  rest = ts;
  is = refl;
  tail = h.each 0 a t refl refl;
  others = record { as_many = (let e = h.as_many in omega (arith, e)); each = λ k b u at at'. h.each (suc k) b u at at' };
}

pub no-tails : (c : Compression) (d : Patterned) (i : ℕ) (tails : List ℕ) → AreTails c d i [] tails → tails ≡ []
no-tails c d i [] h = refl
no-tails c d i (t ∷ ts) h = (let e = h.as_many in absurd (omega (arith, e)))

-- a type below the wanted one is it, or a pair leads there
pub below-pair : (g : Parts) (a b : ℕ) → is_below g a b ≡ true → (a ≡ b) ⊎ (is_pair g.pairs a b ≡ true)
unfolding is_below
below-pair g a b h = elim (or_cases (a == b) (is_pair g.pairs a b) h) [
  | inl same ↦ inl (eqb-true a b same)
  | inr pair ↦ inr pair
]

pub step-same : (g : Parts) (a b : ℕ) → a ≡ b → step_in g (Some a) b ≡ 0
step-same g a b e = ap (λ t. cond t 0 (coercion_weight g)) (eq-eqb a b e)

pub step-apart : (g : Parts) (a b : ℕ) → a ≢ b → step_in g (Some a) b ≡ coercion_weight g
step-apart g a b n = ap (λ t. cond t 0 (coercion_weight g)) (ne_eqb a b n)

-- the type of a term that fits, and what it weighs there
pub record Fitting (g : Parts) (ctx : List (List ℕ)) (left b : ℕ) (e : Expr) : Type 0 where
  pub type : ℕ
  pub typed : type_in g ctx e ≡ Some type
  pub below : is_below g type b ≡ true
  pub flat : shallow left e ≡ true

pub fitting : (g : Parts) (ctx : List (List ℕ)) (left b : ℕ) (e : Expr) → some_below g (type_in g ctx e) b ≡ true → shallow left e ≡ true → Fitting g ctx left b e
fitting g ctx left b e h flat = go (type_in g ctx e) refl h
  where
    go : (o : Option ℕ) → type_in g ctx e ≡ o → some_below g o b ≡ true → Fitting g ctx left b e
    go None is h' = absurd (false≢true h')
    go (Some a) is h' = record { type = a; typed = is; below = h'; flat = flat }

pub fits-parts : (g : Parts) (ctx : List (List ℕ)) (left b : ℕ) (e : Expr) → fits_place g (record { ctx = ctx; left = left; wanted = b }) e ≡ true → Fitting g ctx left b e
unfolding fits_place
fits-parts g ctx left b e h =
    let parts = and_parts (some_below g (type_in g ctx e) b) (shallow left e) h in
    fitting g ctx left b e parts.0 parts.1

pub fits-from : (g : Parts) (ctx : List (List ℕ)) (left b : ℕ) (e : Expr) → Fitting g ctx left b e → fits_place g (record { ctx = ctx; left = left; wanted = b }) e ≡ true
unfolding fits_place
fits-from g ctx left b e f = and_from (some_below g (type_in g ctx e) b) (shallow left e) (ap (λ o. some_below g o b) f.typed ∙ f.below) f.flat

pub weigh-is : (g : Parts) (ctx : List (List ℕ)) (left b : ℕ) (e : Expr) → weigh g (record { ctx = ctx; left = left; wanted = b }) e ≡ weight_in g ctx e + step_in g (type_in g ctx e) b
unfolding weigh
weigh-is g ctx left b e = refl

-- a declaration whose result is just the wanted type
record HeadExact (g : Parts) (ctx : List (List ℕ)) (xs : Args) (o : Option Decl) (b : ℕ) : Type 0 where
  decl : Decl
  is : o ≡ Some decl
  fit : fits g ctx xs decl.args ≡ true
  result : decl.result ≡ b

head-exact : (g : Parts) (ctx : List (List ℕ)) (xs : Args) (o : Option Decl) (b : ℕ) → result_if o (fits g ctx xs (args_wanted o)) ≡ Some b → HeadExact g ctx xs o b
head-exact g ctx xs None b h = absurd (none_some b h)
head-exact g ctx xs (Some decl) b h = go (fits g ctx xs decl.args) refl h
  where
    go : (t : Bool) → fits g ctx xs decl.args ≡ t → cond t (Some decl.result) None ≡ Some b → HeadExact g ctx xs (Some decl) b
    go true e h' = record { decl = decl; is = refl; fit = e; result = some_eq decl.result b h' }
    go false e h' = absurd (none_some b h')

-- the binders are weighed with the arguments
args-least : (g : Parts) (ctx : List (List ℕ)) (xs : Args) (args : List Arg) → fits g ctx xs args ≡ true → binders_weight g (binders args) ≤ args_weight g ctx xs args
unfolding fits args_weight binders
args-least g ctx no_args [] h = omega (arith, binders_weight-none g)
args-least g ctx no_args (Plain b ∷ args) h = absurd (false≢true h)
args-least g ctx no_args (Fun ps r ∷ args) h = absurd (false≢true h)
args-least g ctx (plain e xs) [] h = absurd (false≢true h)
args-least g ctx (plain e xs) (Fun ps r ∷ args) h = absurd (false≢true h)
args-least g ctx (plain e xs) (Plain b ∷ args) h =
    let rest = args-least g ctx xs args (and_parts (some_below g (type_in g ctx e) b) (fits g ctx xs args) h).1 in
    omega (arith, rest)
args-least g ctx (lam e xs) [] h = absurd (false≢true h)
args-least g ctx (lam e xs) (Plain b ∷ args) h = absurd (false≢true h)
args-least g ctx (lam e xs) (Fun ps r ∷ args) h =
    let rest = args-least g ctx xs args (and_parts (nat_lt (length ctx) 3 && some_below g (type_in g (ctx ++ ps ∷ []) e) r) (fits g ctx xs args) h).1 in
    omega (arith, rest, binders_weight-more g (length ps) (binders args))

suc_eq : (m n : ℕ) → suc m ≡ suc n → m ≡ n
suc_eq m n h = omega (arith, h)

module _ (g : Parts) (c : Compression) (d : Patterned) (edges : List Edge) (valid : IsValid g) (comp : IsCompression g c) {goal : ℕ} (made : ArePatterns c goal g.depth d) (all : AreEdges g c d edges) (numbers : List ℕ) (solved : IsSolution g.limit edges numbers) where
  -- what an edge in the list gives
  edge-low : (i weight : ℕ) (args : List Arg) (e : Standing c d i weight args edges) (sum : ℕ) → total (number_at g.limit numbers) e.edge.tails ≤ sum → weight + sum ≤ g.limit → number_at g.limit numbers i ≤ weight + sum
  edge-low i weight args e sum tails within =
      let w = e.weight in
      let closed = solved.closed e.number e.edge e.is (omega (arith, w, tails, within)) in
      let at : number_at g.limit numbers e.edge.state ≡ number_at g.limit numbers i = ap (number_at g.limit numbers) e.at_state in
      omega (arith, w, tails, within, closed, at)

  -- the number of a state is at most what a term of just its goal's type weighs
  abbrev IsLowExact : Expr → Type 0
  IsLowExact e = (i : ℕ) (ctx : List (List ℕ)) (left b : ℕ) → IsAt d g.depth i ctx left b → type_in g ctx e ≡ Some b → shallow left e ≡ true → weight_in g ctx e ≤ g.limit → number_at g.limit numbers i ≤ weight_in g ctx e

  derives-at : (i : ℕ) (ctx : List (List ℕ)) (left b : ℕ) (at : IsAt d g.depth i ctx left b) (a : ℕ) → IsDerivable g (types_bound ctx) left a → IsDerivable g (types_at d.space at.state.set) (left_at d.space at.state.set) a
  derives-at i ctx left b at a h =
      let h1 : IsDerivable g (types_at d.space at.state.set) left a = subst (λ t. IsDerivable g t left a) at.types h in
      subst (λ l. IsDerivable g (types_at d.space at.state.set) l a) at.left_is h1

  all-derive-at : (i : ℕ) (ctx : List (List ℕ)) (left b : ℕ) (at : IsAt d g.depth i ctx left b) (args : List Arg) → AreDerivable g (types_bound ctx) left args → AreDerivable g (types_at d.space at.state.set) (left_at d.space at.state.set) args
  all-derive-at i ctx left b at args h =
      let h1 : AreDerivable g (types_at d.space at.state.set) left args = subst (λ t. AreDerivable g t left args) at.types h in
      subst (λ l. AreDerivable g (types_at d.space at.state.set) l args) at.left_is h1

  -- so it is with a coercion to the goal
  low-from : (e : Expr) → IsLowExact e → (i : ℕ) (ctx : List (List ℕ)) (left b : ℕ) → IsAt d g.depth i ctx left b → Fitting g ctx left b e → weight_in g ctx e + step_in g (type_in g ctx e) b ≤ g.limit → number_at g.limit numbers i ≤ weight_in g ctx e + step_in g (type_in g ctx e) b
  low-from e exact i ctx left b at f within = elim (below-pair g f.type b f.below) [
    | inl same ↦ (
        let typed : type_in g ctx e ≡ Some b = f.typed ∙ ap (λ t. Some t) same in
        let low = exact i ctx left b at typed f.flat (omega (arith, within)) in
        omega (arith, low))
    | inr pair ↦ (
        let apart = (valid-pair g valid f.type b pair).2 in
        let coercion : step_in g (type_in g ctx e) b ≡ coercion_weight g = ap (λ o. step_in g o b) f.typed ∙ step-apart g f.type b apart in
        let pair_to : is_pair g.pairs f.type at.state.goal ≡ true = ap (λ t. is_pair g.pairs f.type t) (sym at.goal) ∙ pair in
        let itself = fits-from g ctx left f.type e (record { type = f.type; typed = f.typed; below = below-itself g f.type; flat = f.flat }) in
        let derives = derives-at i ctx left b at f.type (term-derives g ctx left f.type e itself) in
        let edge : Standing c d i (coercion_weight g) (Plain f.type ∷ []) edges = has-pair g c d edges valid comp made all i f.type at.state at.is pair_to derives (omega (arith, within, coercion)) in
        let s : SplitTails c d i (Plain f.type) [] edge.edge.tails = split-tails c d i (Plain f.type) [] edge.edge.tails edge.tails in
        let inner = plain-at c d g.depth made.wanted made.steps i s.first ctx left b f.type at s.tail in
        let low = exact s.first ctx left f.type inner f.typed f.flat (omega (arith, within)) in
        let one : edge.edge.tails ≡ s.first ∷ [] = s.is ∙ ap (λ l. s.first ∷ l) (no-tails c d i s.rest s.others) in
        let sum : total (number_at g.limit numbers) edge.edge.tails ≡ number_at g.limit numbers s.first + 0 = ap (total (number_at g.limit numbers)) one in
        let r = edge-low i (coercion_weight g) (Plain f.type ∷ []) edge (weight_in g ctx e) (omega (arith, sum, low)) (omega (arith, within, coercion)) in
        omega (arith, r, coercion))
  ]

  mutual
    unfolding type_in weight_in shallow fits args_shallow args_weight binders

    low-exact : (e : Expr) → IsLowExact e
    low-exact (var n) i ctx left b at typed flat within =
        let bound : has at.state.goal (types_at d.space at.state.set) ≡ true = ap (λ t. has t (types_at d.space at.state.set)) (sym at.goal) ∙ ap (has b) (sym at.types) ∙ has_context ctx n b typed in
        let e : StandingBound g i edges = standing-bound g c d edges all i (all.bound i at.state at.is bound) in
        let w = e.weight in
        let none : total (number_at g.limit numbers) e.edge.tails ≡ 0 = ap (total (number_at g.limit numbers)) e.tails in
        let closed = solved.closed e.number e.edge e.is (omega (arith, w, none, within)) in
        let here : number_at g.limit numbers e.edge.state ≡ number_at g.limit numbers i = ap (number_at g.limit numbers) e.at_state in
        omega (arith, w, none, closed, here)
    low-exact (head n xs) i ctx left b at typed flat within =
        let h : HeadExact g ctx xs (slice_get g.decls n) b = head-exact g ctx xs (slice_get g.decls n) b typed in
        let weighs : decl_weight (slice_get g.decls n) + args_weight g ctx xs (args_wanted (slice_get g.decls n)) ≡ h.decl.weight + args_weight g ctx xs h.decl.args = ap (λ o. decl_weight o + args_weight g ctx xs (args_wanted o)) h.is in
        let wants = all-derive-at i ctx left b at h.decl.args (args-derive g ctx left xs h.decl.args h.fit flat) in
        let least_args = args-least g ctx xs h.decl.args h.fit in
        let edge : Standing c d i (decl_cost g h.decl) h.decl.args edges = has-decl g c d edges valid comp made all i n at.state h.decl at.is h.is (h.result ∙ at.goal) wants (omega (arith, within, weighs, least_args)) in
        let low = args-low i ctx left b at xs h.decl.args edge.edge.tails edge.tails h.fit flat (omega (arith, within, weighs)) in
        let r = edge-low i (decl_cost g h.decl) h.decl.args edge (total (number_at g.limit numbers) edge.edge.tails) (omega arith) (omega (arith, low, within, weighs)) in
        omega (arith, r, low, weighs)

    args-low : (i : ℕ) (ctx : List (List ℕ)) (left b : ℕ) → IsAt d g.depth i ctx left b → (xs : Args) (args : List Arg) (tails : List ℕ) → AreTails c d i args tails → fits g ctx xs args ≡ true → args_shallow left xs ≡ true → args_weight g ctx xs args ≤ g.limit → binders_weight g (binders args) + total (number_at g.limit numbers) tails ≤ args_weight g ctx xs args
    args-low i ctx left b at no_args [] tails are fit flat within =
        let none : total (number_at g.limit numbers) tails ≡ 0 = ap (total (number_at g.limit numbers)) (no-tails c d i tails are) in
        omega (arith, none, binders_weight-none g)
    args-low i ctx left b at no_args (Plain w ∷ args) tails are fit flat within = absurd (false≢true fit)
    args-low i ctx left b at no_args (Fun ps r ∷ args) tails are fit flat within = absurd (false≢true fit)
    args-low i ctx left b at (plain e xs) [] tails are fit flat within = absurd (false≢true fit)
    args-low i ctx left b at (plain e xs) (Fun ps r ∷ args) tails are fit flat within = absurd (false≢true fit)
    args-low i ctx left b at (plain e xs) (Plain w ∷ args) tails are fit flat within =
        let s : SplitTails c d i (Plain w) args tails = split-tails c d i (Plain w) args tails are in
        let fs = and_parts (some_below g (type_in g ctx e) w) (fits g ctx xs args) fit in
        let ss = and_parts (shallow left e) (args_shallow left xs) flat in
        let inner = plain-at c d g.depth made.wanted made.steps i s.first ctx left b w at s.tail in
        let f : Fitting g ctx left w e = fitting g ctx left w e fs.0 ss.0 in
        let first = low-from e (low-exact e) s.first ctx left w inner f (omega (arith, within)) in
        let rest = args-low i ctx left b at xs args s.rest s.others fs.1 ss.1 (omega (arith, within)) in
        let sum : total (number_at g.limit numbers) tails ≡ number_at g.limit numbers s.first + total (number_at g.limit numbers) s.rest = ap (total (number_at g.limit numbers)) s.is in
        omega (arith, first, rest, sum)
    args-low i ctx left b at (lam e xs) [] tails are fit flat within = absurd (false≢true fit)
    args-low i ctx left b at (lam e xs) (Plain w ∷ args) tails are fit flat within = absurd (false≢true fit)
    args-low i ctx zero b at (lam e xs) (Fun ps r ∷ args) tails are fit flat within = absurd (false≢true flat)
    args-low i ctx (suc l) b at (lam e xs) (Fun ps r ∷ args) tails are fit flat within =
        let under = ctx ++ ps ∷ [] in
        let s : SplitTails c d i (Fun ps r) args tails = split-tails c d i (Fun ps r) args tails are in
        let fs = and_parts (nat_lt (length ctx) 3 && some_below g (type_in g under e) r) (fits g ctx xs args) fit in
        let f0 = and_parts (nat_lt (length ctx) 3) (some_below g (type_in g under e) r) fs.0 in
        let ss = and_parts (shallow l e) (args_shallow (suc l) xs) flat in
        let u : IsUnder d g.depth s.first ctx (suc l) ps r = fun-at c d g.depth made.wanted made.steps i s.first ctx (suc l) b ps r at s.tail in
        let inner : IsAt d g.depth s.first under l r = subst (λ x. IsAt d g.depth s.first under x r) (sym (suc_eq l u.inner u.left_is)) u.at in
        let f : Fitting g under l r e = fitting g under l r e f0.1 ss.0 in
        let first = low-from e (low-exact e) s.first under l r inner f (omega (arith, within)) in
        let rest = args-low i ctx (suc l) b at xs args s.rest s.others fs.1 ss.1 (omega (arith, within)) in
        let sum : total (number_at g.limit numbers) tails ≡ number_at g.limit numbers s.first + total (number_at g.limit numbers) s.rest = ap (total (number_at g.limit numbers)) s.is in
        omega (arith, first, rest, sum, binders_weight-more g (length ps) (binders args))

  -- no term that fits a place weighs less than the number of its state
  pub low : (i : ℕ) (ctx : List (List ℕ)) (left b : ℕ) → IsAt d g.depth i ctx left b → (e : Expr) → fits_place g (record { ctx = ctx; left = left; wanted = b }) e ≡ true → weigh g (record { ctx = ctx; left = left; wanted = b }) e ≤ g.limit → number_at g.limit numbers i ≤ weigh g (record { ctx = ctx; left = left; wanted = b }) e
  low i ctx left b at e fit within =
      let is = weigh-is g ctx left b e in
      let r = low-from e (low-exact e) i ctx left b at (fits-parts g ctx left b e fit) (omega (arith, within, is)) in
      omega (arith, r, is)

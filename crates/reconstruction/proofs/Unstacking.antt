-- A front of the tables, read from its end.
use Rattle.std.proofs.Common.{◌≡◌, ◌≢◌, ℕ, ◌+◌, ◌*◌, ◌/◌, ◌%◌, ◌<◌, ◌≤◌, List, [], ◌∷◌, ◌++◌, length, get_or, refl, sym, ap, subst, ◌∙◌, arith}
use Rattle.terms.specs.Expr.{var, head}
use Rattle.terms.specs.Reading.{variable, declared, symbol}
use Rattle.terms.specs.View.{expr, args_view}
use Rattle.terms.specs.declared.parts.Arg.{Arg}
use Rattle.terms.specs.declared.parts.Parts.{Parts}
use Rattle.terms.specs.declared.term.Term.{Term}
use Rattle.terms.specs.declared.term.TermArg.{TermArg}
use Rattle.terms.proofs.Halves.{symbol-even, symbol-odd}
use Rattle.reconstruction.specs.NumberedPlaces.{IsKept}
use Rattle.reconstruction.specs.Tabled.{least_of, front_of}
use Rattle.reconstruction.specs.Levelled.{AreComplete}
use Rattle.partial_terms.specs.Built.{stacked, args_with, left_over, wanted_by, applied_by, applied, takes_by, takes, IsEnded, IsRead, IsTermOf}
use Rattle.reconstruction.specs.declared.item.Arena.{Arena}
use Rattle.reconstruction.specs.declared.tables.Tables.{Tables}
use Rattle.partial_terms.proofs.Folds.{IsStepped, read_step, read_none, read_last, read_some}
use Rattle.reconstruction.proofs.Stacks.{stacked-push, length-stacked, front-last, front-none}

-- at first nothing is read
pub front_unread : (g : Parts) (f : List ℕ) (items : List Term) → items ≡ [] → IsEnded g f → IsRead g f f (stacked items)
front_unread g f items none h = subst (λ ts. IsRead g f f (stacked ts)) (sym none) (read_none g f h)

step_front : (t : Tables) (a : Arena) (front i n r : ℕ) (old : List Term) → AreComplete t → IsRead t.env (front_of a front) (front_of a i) (stacked old) → get_or a.fronts i [] ≡ n ∷ get_or a.fronts r [] → IsStepped t.env (front_of a front) (front_of a r) n (stacked old)
step_front t a front i n r old ready h first =
    read_step t.env t.env.limit (IsKept t.env t.patterns) (least_of t) ready.least ready.root (front_of a front) (front_of a r) n (stacked old)
    (subst (λ b. IsRead t.env (front_of a front) b (stacked old)) (front-last a i n r first) h)

-- the stack has the terms that the next number takes
pub front_enough : (t : Tables) (a : Arena) (front i n r len : ℕ) (old : List Term) (g : Parts) → AreComplete t → IsRead t.env (front_of a front) (front_of a i) (stacked old) → get_or a.fronts i [] ≡ n ∷ get_or a.fronts r [] → len ≡ length old → g ≡ t.env → takes g n ≤ len
front_enough t a front i n r len old g ready h first long same =
    let s : IsStepped t.env (front_of a front) (front_of a r) n (stacked old) = step_front t a front i n r old ready h first in
    let enough = s.enough in
    omega (arith, enough, length-stacked old, ap (λ x. takes x n) same)

-- one number more is read
pub front_more : (t : Tables) (a : Arena) (front i n r : ℕ) (old new : List Term) (g : Parts) → AreComplete t → IsRead t.env (front_of a front) (front_of a i) (stacked old) → get_or a.fronts i [] ≡ n ∷ get_or a.fronts r [] → g ≡ t.env → stacked new ≡ applied g n (stacked old) → IsRead t.env (front_of a front) (front_of a r) (stacked new)
front_more t a front i n r old new g ready h first same is =
    let s : IsStepped t.env (front_of a front) (front_of a r) n (stacked old) = step_front t a front i n r old ready h first in
    subst (λ es. IsRead t.env (front_of a front) (front_of a r) es) (sym (is ∙ ap (λ x. applied x n (stacked old)) same)) s.read

-- at last the term on top is that of the front
pub front_term : (t : Tables) (a : Arena) (front i : ℕ) (old new : List Term) (term : Term) → IsRead t.env (front_of a front) (front_of a i) (stacked old) → get_or a.fronts i [] ≡ [] → old ≡ new ++ term ∷ [] → IsTermOf t.env (front_of a front) (expr term)
front_term t a front i old new term h none popped =
    read_last t.env (front_of a front) (front_of a i) (stacked old) (stacked new) (expr term) (front-none a i none) h (ap stacked popped ∙ stacked-push new term)

-- and there is one
pub front_some : (t : Tables) (a : Arena) (front i : ℕ) (old : List Term) → IsRead t.env (front_of a front) (front_of a i) (stacked old) → get_or a.fronts i [] ≡ [] → old ≡ [] → ⊥
front_some t a front i old h none empty =
    read_some t.env (front_of a front) (front_of a i) (front-none a i none) (subst (λ ts. IsRead t.env (front_of a front) (front_of a i) (stacked ts)) empty h)

-- the front gets shorter
pub front_shorter : (a : Arena) (i n r : ℕ) → get_or a.fronts i [] ≡ n ∷ get_or a.fronts r [] → length (get_or a.fronts r []) < length (get_or a.fronts i [])
front_shorter a i n r first = (let e : length (get_or a.fronts i []) ≡ length (n ∷ get_or a.fronts r []) = ap (λ (l : List ℕ). length l) first in omega (arith, e))

-- an even number is a variable
pub even_applied : (g : Parts) (n : ℕ) (old new : List Term) (x : Term) → n % 2 ≡ 0 → new ≡ old ++ x ∷ [] → expr x ≡ var (n / 2) → stacked new ≡ applied g n (stacked old)
even_applied g n old new x even push is =
    let twice : n ≡ 2 * (n / 2) = omega arith in
    let named : symbol n ≡ variable (n / 2) = ap symbol twice ∙ symbol-even (n / 2) in
    ap stacked push ∙ stacked-push old x ∙ ap (λ e. e ∷ stacked old) is ∙ sym (ap (λ s. applied_by g s (stacked old)) named)

odd_symbol : (n : ℕ) → n % 2 ≢ 0 → symbol n ≡ declared (n / 2)
odd_symbol n odd = (let twice : n ≡ 2 * (n / 2) + 1 = omega arith in ap symbol twice ∙ symbol-odd (n / 2))

-- an odd one a declaration
pub odd_takes : (g : Parts) (n len : ℕ) (w : List Arg) → n % 2 ≢ 0 → w ≡ wanted_by g (n / 2) → takes g n ≤ len → length w ≤ len
odd_takes g n len w odd is l = omega (arith, l, ap (λ s. takes_by g s) (odd_symbol n odd), ap (λ (x : List Arg). length x) is)

pub odd_applied : (g : Parts) (n : ℕ) (w : List Arg) (old left new : List Term) (args : List TermArg) (x : Term) → n % 2 ≢ 0 → w ≡ wanted_by g (n / 2) → new ≡ left ++ x ∷ [] → expr x ≡ head (n / 2) (args_view args)
    → args_view args ≡ args_with w (stacked old) → stacked left ≡ left_over w (stacked old) → stacked new ≡ applied g n (stacked old)
odd_applied g n w old left new args x odd is push made taken rest =
    let es = stacked old in
    ap stacked push ∙ stacked-push left x ∙ ap (λ e. e ∷ stacked left) (made ∙ ap (head (n / 2)) taken) ∙ ap (λ l. head (n / 2) (args_with w es) ∷ l) rest
    ∙ ap (λ v. head (n / 2) (args_with v es) ∷ left_over v es) is ∙ sym (ap (λ s. applied_by g s es) (odd_symbol n odd))

pub no_items : (items : List Term) (n : ℕ) → n ≡ length items → n ≡ 0 → items ≡ []
no_items [] n long none = refl
no_items (t ∷ items) n long none = absurd (omega (arith, long, none))

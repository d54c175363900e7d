-- The variables at a numbered place.
use Rattle.std.proofs.Common.{◌≡◌, ◌≢◌, inl, inr, ℕ, zero, suc, ◌+◌, ◌-◌, ◌*◌, ◌<◌, ◌≤◌, true, false, List, [], ◌∷◌, ◌++◌, length, get_or, slice_get, Option, None, Some, refl, sym, ap, ◌∙◌, arith}
use Rattle.std.proofs.lemmas.List.Elements.{All-nil}
use Rattle.std.proofs.lemmas.Option.{slice_get-get_or, slice_get_past, slice_get_cases}
use Rattle.terms.specs.Place.{goal_place}
use Rattle.terms.specs.Reading.{some_when, variable_at, turn, turn_by, and_then}
use Rattle.terms.specs.Typing.{joined, is_below}
use Rattle.terms.specs.Weights.{variable_weight, step_in}
use Rattle.terms.specs.declared.parts.Arg.{Arg}
use Rattle.terms.specs.declared.parts.Arg.TheVariants.{Plain, Fun}
use Rattle.terms.specs.declared.parts.Decl.{Decl}
use Rattle.terms.specs.declared.parts.Parts.{Parts}
use Rattle.terms.proofs.Halves.{symbol-even}
use Rattle.patterns.specs.declared.state.State.{State}
use Rattle.partial_terms.specs.Fronts.{key_within}
use Rattle.reconstruction.specs.NumberedPlaces.{row_of_args, row_of_decl, types_of, rows_at, at_state, IsNumbered}
use Rattle.reconstruction.specs.Tabled.{place_by_numbers, places_of, least_of, front_of, stack_of, AreHeld, IsParent, IsTurn, may, Grew}
use Rattle.reconstruction.specs.Variables.{variables, bound_at}
use Rattle.reconstruction.specs.declared.item.Item.{Item}
use Rattle.reconstruction.specs.declared.item.Arena.{Arena}
use Rattle.reconstruction.specs.declared.item.Parent.{Parent}
use Rattle.reconstruction.specs.declared.numbered_place.NumberedPlace.{NumberedPlace}
use Rattle.reconstruction.specs.declared.tables.Tables.{Tables}
use Rattle.reconstruction.proofs.Children.{after, next_reading, no_push}
use Rattle.reconstruction.proofs.Growths.{all-grown-refl, grew-none, grew-one}
use Rattle.reconstruction.proofs.Ways.{grew-as}

-- other than one argument has no row
pub not_one : (args : List Arg) → length args ≢ 1 → [] ≡ row_of_args args
not_one [] h = refl
not_one (Plain b ∷ []) h = absurd (h refl)
not_one (Fun ps r ∷ []) h = absurd (h refl)
not_one (Plain b ∷ a ∷ more) h = refl
not_one (Fun ps r ∷ a ∷ more) h = refl

pub one_fun : (args : List Arg) (x : Arg) (ps : List ℕ) (r : ℕ) → length args ≡ 1 → x ≡ get_or args 0 x → x ≡ Fun ps r → ps ≡ row_of_args args
one_fun [] x ps r n at is = absurd (omega (arith, n))
one_fun (a ∷ b ∷ more) x ps r n at is = absurd (omega (arith, n))
one_fun (a ∷ []) x ps r n at is = sym (ap (λ y. row_of_args (y ∷ [])) (sym at ∙ is))

pub one_plain : (args : List Arg) (x : Arg) (b : ℕ) → length args ≡ 1 → x ≡ get_or args 0 x → x ≡ Plain b → [] ≡ row_of_args args
one_plain [] x b n at is = absurd (omega (arith, n))
one_plain (a ∷ c ∷ more) x b n at is = absurd (omega (arith, n))
one_plain (a ∷ []) x b n at is = sym (ap (λ y. row_of_args (y ∷ [])) (sym at ∙ is))

pub row_none : (g : Parts) (n : ℕ) → n ≡ 0 → [] ≡ types_of g n
row_none g n z = sym (ap (types_of g) z)

row_of : (g : Parts) (n : ℕ) → n ≢ 0 → types_of g n ≡ row_of_decl (slice_get g.decls (n - 1))
row_of g zero h = absurd (h refl)
row_of g (suc k) h = (let e : k ≡ suc k - 1 = omega arith in ap (λ n. row_of_decl (slice_get g.decls n)) e)

pub row_some : (g : Parts) (n : ℕ) (ds : List Decl) (d : Decl) → n ≢ 0 → ds ≡ g.decls → n - 1 < length ds → d ≡ get_or ds (n - 1) d → row_of_args d.args ≡ types_of g n
row_some g n ds d h same low at = let is : slice_get ds (n - 1) ≡ Some d = slice_get-get_or ds (n - 1) d low ∙ ap (λ x. Some x) (sym at) in sym (row_of g n h ∙ ap (λ l. row_of_decl (slice_get l (n - 1))) (sym same) ∙ ap row_of_decl is)

pub row_past : (g : Parts) (n : ℕ) (ds : List Decl) → n ≢ 0 → ds ≡ g.decls → length ds ≤ n - 1 → [] ≡ types_of g n
row_past g n ds h same past = let is : slice_get ds (n - 1) ≡ None = slice_get_past ds (n - 1) past in sym (row_of g n h ∙ ap (λ l. row_of_decl (slice_get l (n - 1))) (sym same) ∙ ap row_of_decl is)

-- a numbered place's rows are those of its place
pub place-rows : (t : Tables) (p : NumberedPlace) → (place_by_numbers t p).ctx ≡ rows_at t.env p.lambdas
place-rows t p = go (slice_get t.patterns.states p.state)
  where
    go : (o : Option State) → (at_state t.patterns o (rows_at t.env p.lambdas)).ctx ≡ rows_at t.env p.lambdas
    go None = refl
    go (Some s) = refl

turn-is : (t : Tables) (p : NumberedPlace) (n a : ℕ) → slice_get (joined (rows_at t.env p.lambdas)) n ≡ Some a → turn t.env (place_by_numbers t p) (2 * n) ≡ variable_at t.env (place_by_numbers t p) (Some a)
unfolding turn
turn-is t p n a is = ap (turn_by t.env (place_by_numbers t p)) (symbol-even n) ∙ ap (λ c. variable_at t.env (place_by_numbers t p) (slice_get (joined c) n)) (place-rows t p) ∙ ap (variable_at t.env (place_by_numbers t p)) is

-- a variable below the wanted type is a turn
pub variable-turn : (t : Tables) (p : NumberedPlace) (n a w : ℕ) → slice_get (joined (rows_at t.env p.lambdas)) n ≡ Some a → is_below t.env a (place_by_numbers t p).wanted ≡ true → w ≡ variable_weight t.env + step_in t.env (Some a) (place_by_numbers t p).wanted → IsTurn t (place_by_numbers t p) (2 * n) w []
variable-turn t p n a w is below weighs = record {
  weight = variable_weight t.env + step_in t.env (Some a) (place_by_numbers t p).wanted;
  is = turn-is t p n a is ∙ ap (λ b. some_when b (record { weight = variable_weight t.env + step_in t.env (Some a) (place_by_numbers t p).wanted; open_places = [] })) below;
  opened = All-nil (IsNumbered t.env t.patterns);
  capped = inl (omega (arith, weighs));
}

-- another one adds nothing
pub no_variable : (t : Tables) (a : Arena) (p : Parent) (n b : ℕ) (items : List (ℕ × Item)) → IsParent t a p → AreHeld t a items → slice_get (joined (rows_at t.env p.place.lambdas)) n ≡ Some b → is_below t.env b (place_by_numbers t p.place).wanted ≡ false → Grew t a a (front_of a p.front) ((2 * n) ∷ []) items items
no_variable t a p n b items parent all is below =
    let at = place_by_numbers t p.place in
    let none : turn t.env at (2 * n) ≡ None = turn-is t p.place n b is ∙ ap (λ c. some_when c (record { weight = variable_weight t.env + step_in t.env (Some b) at.wanted; open_places = [] })) below in
    let dead : may t (front_of a p.front) (2 * n) ≡ false =
    ap (key_within t.env.limit (least_of t)) (next_reading t.env (goal_place t.env) (front_of a p.front) (2 * n) parent.weight at (places_of t (stack_of a p.rest)) parent.is ∙ ap (λ o. and_then o (after parent.weight (places_of t (stack_of a p.rest)))) none) in
    grew-one t a a (front_of a p.front) (2 * n) items items (all-grown-refl a) all (no_push t a (front_of a p.front) (2 * n) items dead)

variables-zero : variables 0 ≡ []
unfolding variables
variables-zero = refl

variables-suc : (n : ℕ) → variables (suc n) ≡ variables n ++ (2 * n) ∷ []
unfolding variables
variables-suc n = refl

pub grew-no_variables : (t : Tables) (a : Arena) (f : List ℕ) (items : List (ℕ × Item)) → AreHeld t a items → Grew t a a f (variables 0) items items
grew-no_variables t a f items all = grew-as t a a f (variables 0) [] items items variables-zero (grew-none t a f items all)

pub variables-more : (n : ℕ) → variables (n + 1) ≡ variables n ++ (2 * n) ∷ []
variables-more n = (let e : n + 1 ≡ suc n = omega arith in ap variables e ∙ variables-suc n)

-- all variables are there where the next one isn't
pub all-variables : (t : Tables) (p : NumberedPlace) (n : ℕ) → n ≤ bound_at t p → slice_get (joined (rows_at t.env p.lambdas)) n ≡ None → n ≡ bound_at t p
all-variables t p n most none = elim (slice_get_cases (joined (rows_at t.env p.lambdas)) n).1 [
  | inl there ↦ absurd (let q : Some there.0 ≡ None = sym there.2 ∙ none in cc)
  | inr past ↦ (let l = past.0 in omega (arith, most, l))
]

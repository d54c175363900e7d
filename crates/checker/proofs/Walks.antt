-- How the definitions walk along lists.
use Rattle.std.proofs.Common.{◌≡◌, ◌≢◌, append_assoc, ℕ, zero, suc, ◌+◌, ◌<◌, ◌≤◌, List, [], ◌∷◌, ◌++◌, length, get_or, take, drop, refl, sym, ap, ◌∙◌, arith, true, false, slice_get}
use Rattle.std.specs.Prelude.{◌==◌, if◌then◌else◌, leb}
use Rattle.std.proofs.lemmas.List.{drop_more, drop_all, take_more, take-append-drop}
use Rattle.std.proofs.lemmas.Bool.{eq-eqb, ne_eqb, lt-leb, le-leb}
use Rattle.terms.specs.declared.parts.Parts.{Parts}
use Rattle.terms.specs.declared.parts.Arg.{Arg}
use Rattle.checker.specs.declared.floor.Floor.{Floor}
use Rattle.checker.specs.Floors.{is_at, floor_of, with_type, with_types, arg_floor, args_floor}
use Rattle.checker.specs.Checks.{found_reaches, places_reach, variable_reaches, variables_reach}
use Rattle.checker.specs.Places.{IsPlace}

pub floor-end : (i : ℕ) (fs : List Floor) (set : List ℕ) (left b : ℕ) → length fs ≤ i → floor_of (drop i fs) set left b ≡ 0
unfolding floor_of
floor-end i fs set left b l = rw (drop_all i fs l) refl

pub floor-more : (i : ℕ) (fs : List Floor) (set : List ℕ) (left b : ℕ) (d : Floor) → i < length fs → floor_of (drop i fs) set left b ≡ (if is_at set left b (get_or fs i d) then (get_or fs i d).floor else floor_of (drop (i + 1) fs) set left b)
unfolding floor_of
floor-more i fs set left b d l = rw (drop_more fs i d l) refl

pub any_default : (fs : List Floor) (i : ℕ) (d e : Floor) → i < length fs → get_or fs i d ≡ get_or fs i e
any_default [] i d e l = absurd (omega (arith, l))
any_default (f ∷ fs) zero d e l = refl
any_default (f ∷ fs) (suc i) d e l = any_default fs i d e (omega (arith, l))

pub floor_hit : (i : ℕ) (fs : List Floor) (set : List ℕ) (left b : ℕ) (d : Floor) → i < length fs → is_at set left b (get_or fs i d) ≡ true → floor_of fs set left b ≡ floor_of (drop i fs) set left b → (get_or fs i d).floor ≡ floor_of fs set left b
floor_hit i fs set left b d l e before = sym (before ∙ floor-more i fs set left b d l ∙ rw e refl)

pub floor_on : (i : ℕ) (fs : List Floor) (set : List ℕ) (left b : ℕ) (d : Floor) → i < length fs → is_at set left b (get_or fs i d) ≡ false → floor_of fs set left b ≡ floor_of (drop i fs) set left b → floor_of fs set left b ≡ floor_of (drop (i + 1) fs) set left b
floor_on i fs set left b d l e before = before ∙ floor-more i fs set left b d l ∙ rw e refl

pub ruleset floors = (floor-end)

pub with-end : (a i : ℕ) (set : List ℕ) → length set ≤ i → with_type a (drop i set) ≡ a ∷ []
unfolding with_type
with-end a i set l = rw (drop_all i set l) refl

pub with-more : (a i : ℕ) (set : List ℕ) (d : ℕ) → i < length set → with_type a (drop i set) ≡ (if a == get_or set i d then get_or set i d ∷ drop (i + 1) set else (if leb a (get_or set i d) then a ∷ get_or set i d ∷ drop (i + 1) set else get_or set i d ∷ with_type a (drop (i + 1) set)))
unfolding with_type
with-more a i set d l = rw (drop_more set i d l) refl

pub past : (a i : ℕ) (set : List ℕ) (d : ℕ) → i < length set → get_or set i d < a → with_type a set ≡ take i set ++ with_type a (drop i set) → with_type a set ≡ take (i + 1) set ++ with_type a (drop (i + 1) set)
past a i set d l less before =
    let not : (a == get_or set i d) ≡ false = ne_eqb a (get_or set i d) (λ e. omega (arith, e, less)) in
    let above : leb a (get_or set i d) ≡ false = lt-leb a (get_or set i d) less in
    let here : with_type a (drop i set) ≡ get_or set i d ∷ with_type a (drop (i + 1) set) = with-more a i set d l ∙ rw (not, above) refl in
    before ∙ ap (λ t. take i set ++ t) here ∙ sym (ap (λ t. t ++ with_type a (drop (i + 1) set)) (take_more set i d l) ∙ append_assoc (take i set) (get_or set i d ∷ []) (with_type a (drop (i + 1) set)))

pub ruleset places = (past)

-- a type that stands there already
pub there : (a i : ℕ) (set : List ℕ) (d : ℕ) → IsPlace set a i → i < length set → get_or set i d ≡ a → set ≡ with_type a set
there a i set d at l is =
    let same : (a == get_or set i d) ≡ true = eq-eqb a (get_or set i d) (sym is) in
    let here : with_type a (drop i set) ≡ get_or set i d ∷ drop (i + 1) set = with-more a i set d l ∙ rw same refl in
    sym (at.before ∙ ap (λ t. take i set ++ t) (here ∙ sym (drop_more set i d l)) ∙ take-append-drop i set)

-- a type put in
pub put : (a i : ℕ) (set : List ℕ) (d : ℕ) → IsPlace set a i → i < length set → get_or set i d ≢ a → take i set ++ a ∷ drop i set ≡ with_type a set
put a i set d at l other =
    let not : (a == get_or set i d) ≡ false = ne_eqb a (get_or set i d) (λ e. other (sym e)) in
    let low : leb a (get_or set i d) ≡ true = le-leb a (get_or set i d) (at.here d l) in
    let here : with_type a (drop i set) ≡ a ∷ get_or set i d ∷ drop (i + 1) set = with-more a i set d l ∙ rw (not, low) refl in
    sym (at.before ∙ ap (λ t. take i set ++ t) (here ∙ ap (λ t. a ∷ t) (sym (drop_more set i d l))))

pub put_last : (a i : ℕ) (set : List ℕ) → IsPlace set a i → length set ≤ i → take i set ++ a ∷ drop i set ≡ with_type a set
put_last a i set at l = sym (at.before ∙ ap (λ t. take i set ++ t) (with-end a i set l ∙ ap (λ t. a ∷ t) (sym (drop_all i set l))))

pub ruleset adds = (there, put, put_last)

pub types-end : (i : ℕ) (ps set : List ℕ) → length ps ≤ i → with_types (drop i ps) set ≡ set
unfolding with_types
types-end i ps set l = rw (drop_all i ps l) refl

pub types-more : (i : ℕ) (ps set : List ℕ) (d : ℕ) → i < length ps → with_types (drop i ps) set ≡ with_types (drop (i + 1) ps) (with_type (get_or ps i d) set)
unfolding with_types
types-more i ps set d l = rw (drop_more ps i d l) refl

pub ruleset types = (types-end, types-more)

pub args-end : (g : Parts) (fs : List Floor) (set : List ℕ) (left i : ℕ) (xs : List Arg) → length xs ≤ i → args_floor g fs set left (drop i xs) ≡ 0
args-end g fs set left i xs l = ap (args_floor g fs set left) (drop_all i xs l)

pub args-more : (g : Parts) (fs : List Floor) (set : List ℕ) (left i : ℕ) (xs : List Arg) (d : Arg) → i < length xs → args_floor g fs set left (drop i xs) ≡ arg_floor g fs set left (get_or xs i d) + args_floor g fs set left (drop (i + 1) xs)
args-more g fs set left i xs d l = ap (args_floor g fs set left) (drop_more xs i d l)

pub ruleset rests = (args-end, args-more)

pub places-end : (g : Parts) (fs : List Floor) (f : Floor) (i : ℕ) (ps : List ℕ) → length ps ≤ i → places_reach g fs f (drop i ps) ≡ true
unfolding places_reach
places-end g fs f i ps l = rw (drop_all i ps l) refl

places-more : (g : Parts) (fs : List Floor) (f : Floor) (i : ℕ) (ps : List ℕ) (d : ℕ) → i < length ps → places_reach g fs f (drop i ps) ≡ (if found_reaches g fs f (slice_get g.decls (get_or ps i d)) then places_reach g fs f (drop (i + 1) ps) else false)
unfolding places_reach
places-more g fs f i ps d l = rw (drop_more ps i d l) refl

pub places-on : (g : Parts) (fs : List Floor) (f : Floor) (i : ℕ) (ps : List ℕ) (d : ℕ) → i < length ps → true ≡ found_reaches g fs f (slice_get g.decls (get_or ps i d)) → places_reach g fs f (drop i ps) ≡ places_reach g fs f (drop (i + 1) ps)
places-on g fs f i ps d l e = places-more g fs f i ps d l ∙ ap (λ b. if b then places_reach g fs f (drop (i + 1) ps) else false) (sym e)

pub places-off : (g : Parts) (fs : List Floor) (f : Floor) (i : ℕ) (ps : List ℕ) (d : ℕ) → i < length ps → false ≡ found_reaches g fs f (slice_get g.decls (get_or ps i d)) → places_reach g fs f (drop i ps) ≡ false
places-off g fs f i ps d l e = places-more g fs f i ps d l ∙ ap (λ b. if b then places_reach g fs f (drop (i + 1) ps) else false) (sym e)

pub ruleset numbers = (places-end, places-on, places-off)

pub variables-end : (g : Parts) (f : Floor) (i : ℕ) (set : List ℕ) → length set ≤ i → variables_reach g f (drop i set) ≡ true
unfolding variables_reach
variables-end g f i set l = rw (drop_all i set l) refl

variables-more : (g : Parts) (f : Floor) (i : ℕ) (set : List ℕ) (d : ℕ) → i < length set → variables_reach g f (drop i set) ≡ (if variable_reaches g f (get_or set i d) then variables_reach g f (drop (i + 1) set) else false)
unfolding variables_reach
variables-more g f i set d l = rw (drop_more set i d l) refl

pub variables-on : (g : Parts) (f : Floor) (i : ℕ) (set : List ℕ) (d : ℕ) → i < length set → true ≡ variable_reaches g f (get_or set i d) → variables_reach g f (drop i set) ≡ variables_reach g f (drop (i + 1) set)
variables-on g f i set d l e = variables-more g f i set d l ∙ ap (λ b. if b then variables_reach g f (drop (i + 1) set) else false) (sym e)

pub variables-off : (g : Parts) (f : Floor) (i : ℕ) (set : List ℕ) (d : ℕ) → i < length set → false ≡ variable_reaches g f (get_or set i d) → variables_reach g f (drop i set) ≡ false
variables-off g f i set d l e = variables-more g f i set d l ∙ ap (λ b. if b then variables_reach g f (drop (i + 1) set) else false) (sym e)

pub ruleset variables = (variables-end, variables-on, variables-off)

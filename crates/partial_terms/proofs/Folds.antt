-- Reading a front from its end makes terms that fit the places.
use Rattle.std.proofs.Common.{◌≡◌, ℕ, zero, suc, ◌+◌, ◌*◌, ◌≤◌, Bool, true, false, ◌&&◌, nat_lt, List, [], ◌∷◌, ◌++◌, length, slice_get, Option, Some, None, refl, sym, ap, subst, ◌∙◌, arith, append_assoc, append-nil}
use Rattle.std.proofs.lemmas.Bool.{and_parts, and_from, false≢true, lt-ltb}
use Rattle.terms.specs.Code.{prefix_code, args_code}
use Rattle.terms.specs.Expr.{Expr, var, head}
use Rattle.terms.specs.Place.{Place, goal_place, fits_place, shallow, args_shallow}
use Rattle.terms.specs.Reading.{Reading, Symbol, variable, declared, symbol, has_room, places, binders, some_when, variable_at, declared_at, turn_by, turn, and_then, read, fit_all}
use Rattle.terms.specs.Typing.{type_in, fits, some_below, is_below, joined, args_wanted}
use Rattle.terms.specs.Weights.{variable_weight, binders_weight, step_in}
use Rattle.terms.specs.declared.parts.Arg.{Arg}
use Rattle.terms.specs.declared.parts.Arg.TheVariants.{Plain, Fun}
use Rattle.terms.specs.declared.parts.Decl.{Decl}
use Rattle.terms.specs.declared.parts.Parts.{Parts}
use Rattle.terms.proofs.Halves.{number, number-symbol}
use Rattle.partial_terms.specs.Fronts.{reading}
use Rattle.partial_terms.specs.Leasts.{AreLeast, AllPlaces}
use Rattle.partial_terms.specs.Built.{args_with, left_over, wanted_by, applied_by, applied, takes_by, takes, all_codes, IsEnded, IsRead, IsTermOf}
use Rattle.partial_terms.proofs.Division.{read-append, read-kept}

-- the arguments of a head and what is left for the other places
pub record ArgsTaken (g : Parts) (ctx : List (List ℕ)) (left : ℕ) (wanted : List Arg) (rest : List Place) (es : List Expr) : Type 0 where
  pub coded : args_code (args_with wanted es) ++ all_codes (left_over wanted es) ≡ all_codes es
  pub fit : fits g ctx (args_with wanted es) wanted ≡ true
  pub flat : args_shallow left (args_with wanted es) ≡ true
  pub others : fit_all g rest (left_over wanted es) ≡ true
  pub enough : length wanted ≤ length es

args_taken : (g : Parts) (ctx : List (List ℕ)) (left : ℕ) (wanted : List Arg) (rest : List Place) (es : List Expr) → length ctx + left ≤ 3 → has_room left wanted ≡ true → fit_all g (places ctx left wanted ++ rest) es ≡ true → ArgsTaken g ctx left wanted rest es
unfolding fits args_shallow places has_room fits_place
args_taken g ctx left [] rest es short room h = record { coded = refl; fit = refl; flat = refl; others = h; enough = omega arith }
args_taken g ctx left (Plain b ∷ ws) rest [] short room h = absurd (false≢true h)
args_taken g ctx left (Fun ps r ∷ ws) rest [] short room h = absurd (false≢true h)
args_taken g ctx left (Plain b ∷ ws) rest (e ∷ es) short room h =
    let hs = and_parts (some_below g (type_in g ctx e) b && shallow left e) (fit_all g (places ctx left ws ++ rest) es) h in
    let h0 = and_parts (some_below g (type_in g ctx e) b) (shallow left e) hs.0 in
    let a : ArgsTaken g ctx left ws rest es = args_taken g ctx left ws rest es short room hs.1 in
    let enough = a.enough in
    record {
      coded = append_assoc (prefix_code e) (args_code (args_with ws es)) (all_codes (left_over ws es)) ∙ ap (λ c. prefix_code e ++ c) a.coded;
      fit = and_from (some_below g (type_in g ctx e) b) (fits g ctx (args_with ws es) ws) h0.0 a.fit;
      flat = and_from (shallow left e) (args_shallow left (args_with ws es)) h0.1 a.flat;
      others = a.others;
      enough = omega (arith, enough);
    }
args_taken g ctx zero (Fun ps r ∷ ws) rest (e ∷ es) short room h = absurd (false≢true room)
args_taken g ctx (suc l) (Fun ps r ∷ ws) rest (e ∷ es) short room h =
    let inner = ctx ++ ps ∷ [] in
    let hs = and_parts (some_below g (type_in g inner e) r && shallow l e) (fit_all g (places ctx (suc l) ws ++ rest) es) h in
    let h0 = and_parts (some_below g (type_in g inner e) r) (shallow l e) hs.0 in
    let a : ArgsTaken g ctx (suc l) ws rest es = args_taken g ctx (suc l) ws rest es short room hs.1 in
    let enough = a.enough in
    record {
      coded = append_assoc (prefix_code e) (args_code (args_with ws es)) (all_codes (left_over ws es)) ∙ ap (λ c. prefix_code e ++ c) a.coded;
      fit = and_from (nat_lt (length ctx) 3 && some_below g (type_in g inner e) r) (fits g ctx (args_with ws es) ws) (and_from (nat_lt (length ctx) 3) (some_below g (type_in g inner e) r) (lt-ltb (length ctx) 3 (omega arith)) h0.0) a.fit;
      flat = and_from (shallow l e) (args_shallow (suc l) (args_with ws es)) h0.1 a.flat;
      others = a.others;
      enough = omega (arith, enough);
    }

-- a head at a place, over the terms for the places that it opens and for those after
pub record HeadTaken (g : Parts) (p : Place) (n : ℕ) (s : Symbol) (rest : List Place) (es : List Expr) : Type 0 where
  pub coded : all_codes (applied_by g s es) ≡ n ∷ all_codes es
  pub fit : fit_all g (p ∷ rest) (applied_by g s es) ≡ true
  pub enough : takes_by g s ≤ length es

variable_taken : (g : Parts) (p : Place) (n m : ℕ) (o : Option ℕ) (t : Reading) (rest : List Place) (es : List Expr) → slice_get (joined p.ctx) m ≡ o → n ≡ 2 * m → variable_at g p o ≡ Some t → fit_all g (t.open_places ++ rest) es ≡ true → HeadTaken g p n (variable m) rest es
unfolding fits_place type_in shallow
variable_taken g p n m None t rest es found is h all = cc
variable_taken g p n m (Some a) t rest es found is h all = go (is_below g a p.wanted) refl h
  where
    go : (b : Bool) → is_below g a p.wanted ≡ b → some_when b (record { weight = variable_weight g + step_in g (Some a) p.wanted; open_places = [] }) ≡ Some t → HeadTaken g p n (variable m) rest es
    go false below h' = cc
    go true below h' =
        let made : Reading = record { weight = variable_weight g + step_in g (Some a) p.wanted; open_places = [] } in
        let same : t ≡ made = cc in
        let others : fit_all g rest es ≡ true = sym (ap (λ (q : Reading). fit_all g (q.open_places ++ rest) es) same) ∙ all in
        let here : fits_place g p (var m) ≡ true = ap (λ x. some_below g x p.wanted && true) found ∙ ap (λ b. b && true) below in
        record {
          coded = ap (λ k. k ∷ all_codes es) (sym is);
          fit = and_from (fits_place g p (var m)) (fit_all g rest es) here others;
          enough = omega arith;
        }

declared_taken : (g : Parts) (p : Place) (n m : ℕ) (o : Option Decl) (t : Reading) (rest : List Place) (es : List Expr) → length p.ctx + p.left ≤ 3 → slice_get g.decls m ≡ o → n ≡ 2 * m + 1 → declared_at g p o ≡ Some t → fit_all g (t.open_places ++ rest) es ≡ true → HeadTaken g p n (declared m) rest es
unfolding fits_place type_in shallow
declared_taken g p n m None t rest es short found is h all = cc
declared_taken g p n m (Some d) t rest es short found is h all = go (is_below g d.result p.wanted) (has_room p.left d.args) refl refl h
  where
    go : (b c : Bool) → is_below g d.result p.wanted ≡ b → has_room p.left d.args ≡ c → some_when (b && c) (record { weight = d.weight + binders_weight g (binders d.args) + step_in g (Some d.result) p.wanted; open_places = places p.ctx p.left d.args }) ≡ Some t → HeadTaken g p n (declared m) rest es
    go false c below room h' = cc
    go true false below room h' = cc
    go true true below room h' =
        let made : Reading = record { weight = d.weight + binders_weight g (binders d.args) + step_in g (Some d.result) p.wanted; open_places = places p.ctx p.left d.args } in
        let same : t ≡ made = cc in
        let places_fit : fit_all g (places p.ctx p.left d.args ++ rest) es ≡ true = sym (ap (λ (q : Reading). fit_all g (q.open_places ++ rest) es) same) ∙ all in
        let a : ArgsTaken g p.ctx p.left d.args rest es = args_taken g p.ctx p.left d.args rest es short room places_fit in
        let first : prefix_code (head m (args_with d.args es)) ++ all_codes (left_over d.args es) ≡ n ∷ all_codes es = ap (λ k. k ∷ (args_code (args_with d.args es) ++ all_codes (left_over d.args es))) (sym is) ∙ ap (λ c. n ∷ c) a.coded in
        let below_all : is_below g d.result p.wanted && args_shallow p.left (args_with d.args es) ≡ true = and_from (is_below g d.result p.wanted) (args_shallow p.left (args_with d.args es)) below a.flat in
        let here : fits_place g p (head m (args_with d.args es)) ≡ true = rw (found, a.fit) below_all in
        let enough = a.enough in
        let same_args : wanted_by g m ≡ d.args = ap args_wanted found in
        let as_many : length (wanted_by g m) ≡ length d.args = ap (λ (w : List Arg). length w) same_args in
        record {
          coded = ap (λ w. prefix_code (head m (args_with w es)) ++ all_codes (left_over w es)) same_args ∙ first;
          fit = ap (λ w. fits_place g p (head m (args_with w es)) && fit_all g rest (left_over w es)) same_args ∙ and_from (fits_place g p (head m (args_with d.args es))) (fit_all g rest (left_over d.args es)) here a.others;
          enough = omega (arith, enough, as_many);
        }

head_taken : (g : Parts) (p : Place) (n : ℕ) (t : Reading) (rest : List Place) (es : List Expr) → length p.ctx + p.left ≤ 3 → turn g p n ≡ Some t → fit_all g (t.open_places ++ rest) es ≡ true → HeadTaken g p n (symbol n) rest es
unfolding turn
head_taken g p n t rest es short h all = go (symbol n) (number-symbol n) h
  where
    go : (s : Symbol) → number s ≡ n → turn_by g p s ≡ Some t → HeadTaken g p n s rest es
    go (variable m) is h' = variable_taken g p n m (slice_get (joined p.ctx) m) t rest es refl (sym is) h' all
    go (declared m) is h' = declared_taken g p n m (slice_get g.decls m) t rest es short refl (sym is) h' all

-- the reading after a head
abbrev pub next_of : ℕ → List Place → Reading → Reading
next_of w rest t = record { weight = w + t.weight; open_places = t.open_places ++ rest }

-- what it means that one number more was read
pub record OneMore (g : Parts) (w : ℕ) (ps : List Place) (n : ℕ) (at : Reading) : Type 0 where
  pub place : Place
  pub rest : List Place
  pub places : ps ≡ place ∷ rest
  pub head : Reading
  pub turns : turn g place n ≡ Some head
  pub opened : at.open_places ≡ head.open_places ++ rest

-- reading one number more
and_read : (g : Parts) (w : ℕ) (ps : List Place) (n : ℕ) (at : Reading) → read g w ps (n ∷ []) ≡ Some at → OneMore g w ps n at
unfolding read
and_read g w [] n at h = cc
and_read g w (p ∷ rest) n at h = go (turn g p n) refl h
  where
    go : (o : Option Reading) → turn g p n ≡ o → and_then o (λ t. Some (next_of w rest t)) ≡ Some at → OneMore g w (p ∷ rest) n at
    go None is h' = cc
    go (Some t) is h' =
        let same : next_of w rest t ≡ at = cc in
        record { place = p; rest = rest; places = refl; head = t; turns = is; opened = sym (ap (λ (q : Reading). q.open_places) same) }

pub record IsStepped (g : Parts) (f before : List ℕ) (n : ℕ) (es : List Expr) : Type 0 where
  pub read : IsRead g f before (applied g n es)
  pub enough : takes g n ≤ length es

-- a number of the front is read, over the terms after it
pub read_step : (g : Parts) (limit : ℕ) (Kept : Place → Type 0) (least : Place → ℕ) → AreLeast g limit Kept least → Kept (goal_place g) → (f before : List ℕ) (n : ℕ) (es : List Expr) → IsRead g f (before ++ n ∷ []) es → IsStepped g f before n es
unfolding reading
read_step g limit Kept least s kept f before n es h = go (read g 0 (root ∷ []) before) refl (sym (read-append g 0 (root ∷ []) before (n ∷ [])) ∙ h.is)
  where
    root : Place
    root = goal_place g

    go : (o : Option Reading) → read g 0 (root ∷ []) before ≡ o → and_then o (λ r. read g r.weight r.open_places (n ∷ [])) ≡ Some h.at → IsStepped g f before n es
    go None is h' = cc
    go (Some r) is h' =
        let m : OneMore g r.weight r.open_places n h.at = and_read g r.weight r.open_places n h.at h' in
        let all : AllPlaces Kept r.open_places = read-kept g limit Kept least s 0 (root ∷ []) before r (kept, tt) is in
        let here : AllPlaces Kept (m.place ∷ m.rest) = subst (AllPlaces Kept) m.places all in
        let fit : fit_all g (m.head.open_places ++ m.rest) es ≡ true = sym (ap (λ ps. fit_all g ps es) m.opened) ∙ h.fit in
        let t : HeadTaken g m.place n (symbol n) m.rest es = head_taken g m.place n m.head m.rest es (s.room m.place here.0) m.turns fit in
        record {
          read = record {
            at = r;
            is = is;
            fit = ap (λ ps. fit_all g ps (applied g n es)) m.places ∙ t.fit;
            coded = h.coded ∙ append_assoc before (n ∷ []) (all_codes es) ∙ ap (λ c. before ++ c) (sym t.coded);
          };
          enough = t.enough;
        }

-- at first nothing is read
pub read_none : (g : Parts) (f : List ℕ) → IsEnded g f → IsRead g f f []
read_none g f h = record { at = record { weight = h.weight; open_places = [] }; is = h.is; fit = refl; coded = sym (append-nil f) }

abbrev open_of : Option Reading → List Place
open_of None = []
open_of (Some r) = r.open_places

none_fit : (g : Parts) (es : List Expr) → fit_all g [] es ≡ true → es ≡ []
none_fit g [] h = refl
none_fit g (e ∷ es) h = absurd (false≢true h)

-- at last the whole front is one term
pub read_last : (g : Parts) (f before : List ℕ) (es more : List Expr) (e : Expr) → before ≡ [] → IsRead g f before es → es ≡ e ∷ more → IsTermOf g f e
unfolding reading read
read_last g f before es more e none h first =
    let root = goal_place g in
    let start : reading g root before ≡ Some (record { weight = 0; open_places = root ∷ [] }) = ap (reading g root) none in
    let at : Some h.at ≡ Some (record { weight = 0; open_places = root ∷ [] }) = sym h.is ∙ start in
    let places : h.at.open_places ≡ root ∷ [] = ap open_of at in
    let fit : fit_all g (root ∷ []) (e ∷ more) ≡ true = sym (ap (λ ps. fit_all g ps (e ∷ more)) places) ∙ sym (ap (fit_all g h.at.open_places) first) ∙ h.fit in
    let parts = and_parts (fits_place g root e) (fit_all g [] more) fit in
    let end : more ≡ [] = none_fit g more parts.1 in
    record {
      coded = h.coded ∙ ap (λ b. b ++ all_codes es) none ∙ ap all_codes first ∙ ap (λ m. prefix_code e ++ all_codes m) end ∙ append-nil (prefix_code e);
      fit = parts.0;
    }

-- and there is one
pub read_some : (g : Parts) (f before : List ℕ) → before ≡ [] → IsRead g f before [] → ⊥
unfolding reading read
read_some g f before none h =
    let root = goal_place g in
    let start : reading g root before ≡ Some (record { weight = 0; open_places = root ∷ [] }) = ap (reading g root) none in
    let at : Some h.at ≡ Some (record { weight = 0; open_places = root ∷ [] }) = sym h.is ∙ start in
    let places : h.at.open_places ≡ root ∷ [] = ap open_of at in
    false≢true (sym (ap (λ ps. fit_all g ps []) places) ∙ h.fit)

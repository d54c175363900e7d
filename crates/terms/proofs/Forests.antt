-- What is read to its end is the code of terms that fit the places.
use Rattle.std.proofs.Common.{◌≡◌, ℕ, zero, suc, ◌+◌, ◌*◌, ◌≤◌, Bool, true, false, ◌&&◌, nat_lt, List, [], ◌∷◌, ◌++◌, length, slice_get, Option, Some, None, refl, sym, ap, subst, ◌∙◌, arith, append_assoc, length-append}
use Rattle.std.proofs.lemmas.Bool.{and_parts, and_from, false≢true, lt-ltb}
use Rattle.terms.specs.Expr.{Expr, var, head, Args, no_args, plain, lam}
use Rattle.terms.specs.Typing.{type_in, fits, some_below, is_below, joined}
use Rattle.terms.specs.Weights.{variable_weight, sum_of_equal, binders_weight, weight_in, args_weight, step_in}
use Rattle.terms.specs.declared.parts.Parts.{Parts}
use Rattle.terms.specs.declared.parts.Decl.{Decl}
use Rattle.terms.specs.declared.parts.Arg.{Arg}
use Rattle.terms.specs.declared.parts.Arg.TheVariants.{Plain, Fun}
use Rattle.terms.specs.Code.{prefix_code, args_code}
use Rattle.terms.specs.Place.{Place, fits_place, weigh, shallow, args_shallow}
use Rattle.terms.specs.Reading.{Reading, Symbol, variable, declared, symbol, has_room, places, binders, some_when, variable_at, declared_at, turn_by, turn, and_then, read, fit_all, weigh_all}
use Rattle.terms.proofs.Halves.{number, number-symbol}
use Rattle.terms.proofs.Weighing.{binders_weight-more}

abbrev pub codes : List Expr → List ℕ
codes [] = []
codes (e ∷ es) = prefix_code e ++ codes es

-- as many lambdas as the context and the place allow are at most three
abbrev pub HaveRoom : List Place → Type 0
HaveRoom [] = Unit {0}
HaveRoom (p ∷ ps) = (length p.ctx + p.left ≤ 3) × HaveRoom ps

pub HaveRoom-append : (ps qs : List Place) → HaveRoom ps → HaveRoom qs → HaveRoom (ps ++ qs)
HaveRoom-append [] qs a b = b
HaveRoom-append (p ∷ ps) qs a b = (a.0, HaveRoom-append ps qs a.1 b)

-- the arguments made of these terms
abbrev pub args_from : List Arg → List Expr → Args
args_from (Plain b ∷ ws) (e ∷ es) = plain e (args_from ws es)
args_from (Fun ps r ∷ ws) (e ∷ es) = lam e (args_from ws es)
args_from _ _ = no_args

pub record ArgsFit (g : Parts) (ctx : List (List ℕ)) (left : ℕ) (wanted : List Arg) (es : List Expr) : Type 0 where
  pub coded : args_code (args_from wanted es) ≡ codes es
  pub fit : fits g ctx (args_from wanted es) wanted ≡ true
  pub flat : args_shallow left (args_from wanted es) ≡ true
  pub weight : args_weight g ctx (args_from wanted es) wanted ≡ binders_weight g (binders wanted) + weigh_all g (places ctx left wanted) es

args_fit : (g : Parts) (ctx : List (List ℕ)) (left : ℕ) (wanted : List Arg) (es : List Expr) → length ctx + left ≤ 3 → has_room left wanted ≡ true → fit_all g (places ctx left wanted) es ≡ true → ArgsFit g ctx left wanted es
unfolding fits args_weight args_shallow binders places has_room fits_place weigh sum_of_equal
args_fit g ctx left [] [] short room h = record { coded = refl; fit = refl; flat = refl; weight = refl }
args_fit g ctx left [] (e ∷ es) short room h = absurd (false≢true h)
args_fit g ctx left (Plain b ∷ ws) [] short room h = absurd (false≢true h)
args_fit g ctx left (Fun ps r ∷ ws) [] short room h = absurd (false≢true h)
args_fit g ctx left (Plain b ∷ ws) (e ∷ es) short room h =
    let p : Place = record { ctx = ctx; left = left; wanted = b } in
    let hs = and_parts (some_below g (type_in g ctx e) b && shallow left e) (fit_all g (places ctx left ws) es) h in
    let h0 = and_parts (some_below g (type_in g ctx e) b) (shallow left e) hs.0 in
    let a : ArgsFit g ctx left ws es = args_fit g ctx left ws es short room hs.1 in
    record {
      coded = ap (λ c. prefix_code e ++ c) a.coded;
      fit = and_from (some_below g (type_in g ctx e) b) (fits g ctx (args_from ws es) ws) h0.0 a.fit;
      flat = and_from (shallow left e) (args_shallow left (args_from ws es)) h0.1 a.flat;
      weight = omega (arith, a.weight);
    }
args_fit g ctx zero (Fun ps r ∷ ws) (e ∷ es) short room h = absurd (false≢true room)
args_fit g ctx (suc l) (Fun ps r ∷ ws) (e ∷ es) short room h =
    let inner = ctx ++ ps ∷ [] in
    let hs = and_parts (some_below g (type_in g inner e) r && shallow l e) (fit_all g (places ctx (suc l) ws) es) h in
    let h0 = and_parts (some_below g (type_in g inner e) r) (shallow l e) hs.0 in
    let a : ArgsFit g ctx (suc l) ws es = args_fit g ctx (suc l) ws es short room hs.1 in
    record {
      coded = ap (λ c. prefix_code e ++ c) a.coded;
      fit = and_from (nat_lt (length ctx) 3 && some_below g (type_in g inner e) r) (fits g ctx (args_from ws es) ws) (and_from (nat_lt (length ctx) 3) (some_below g (type_in g inner e) r) (lt-ltb (length ctx) 3 (omega arith)) h0.0) a.fit;
      flat = and_from (shallow l e) (args_shallow (suc l) (args_from ws es)) h0.1 a.flat;
      weight = omega (arith, a.weight, binders_weight-more g (length ps) (binders ws));
    }

places-room : (ctx : List (List ℕ)) (left : ℕ) (wanted : List Arg) → length ctx + left ≤ 3 → has_room left wanted ≡ true → HaveRoom (places ctx left wanted)
unfolding places has_room
places-room ctx left [] short room = tt
places-room ctx left (Plain b ∷ ws) short room = (short, places-room ctx left ws short room)
places-room ctx zero (Fun ps r ∷ ws) short room = absurd (false≢true room)
places-room ctx (suc l) (Fun ps r ∷ ws) short room = (omega (arith, length-append ctx (ps ∷ [])), places-room ctx (suc l) ws short room)

-- a term over the terms for the places that its head opens
pub record Grown (g : Parts) (p : Place) (n : ℕ) (t : Reading) (es : List Expr) : Type 0 where
  pub term : Expr
  pub coded : prefix_code term ≡ n ∷ codes es
  pub fit : fits_place g p term ≡ true
  pub weight : weigh g p term ≡ t.weight + weigh_all g t.open_places es

pub record Turned (g : Parts) (p : Place) (n : ℕ) (t : Reading) : Type 0 where
  pub room : HaveRoom t.open_places
  pub grows : (es : List Expr) → fit_all g t.open_places es ≡ true → Grown g p n t es

none_fit : (g : Parts) (es : List Expr) → fit_all g [] es ≡ true → es ≡ []
none_fit g [] h = refl
none_fit g (e ∷ es) h = absurd (false≢true h)

turned_variable : (g : Parts) (p : Place) (n m : ℕ) (o : Option ℕ) (t : Reading) → slice_get (joined p.ctx) m ≡ o → n ≡ 2 * m → variable_at g p o ≡ Some t → Turned g p n t
unfolding fits_place weigh type_in weight_in shallow
turned_variable g p n m None t found is h = cc
turned_variable g p n m (Some a) t found is h = go (is_below g a p.wanted) refl h
  where
    go : (b : Bool) → is_below g a p.wanted ≡ b → some_when b (record { weight = variable_weight g + step_in g (Some a) p.wanted; open_places = [] }) ≡ Some t → Turned g p n t
    go false below h' = cc
    go true below h' =
        let made : Reading = record { weight = variable_weight g + step_in g (Some a) p.wanted; open_places = [] } in
        let same : made ≡ t = cc in
        let P : Reading → Type 0 = λ r. Turned g p n r in
        subst P same (record {
          room = tt;
          grows = λ es all. record {
            term = var m;
            coded = rw (none_fit g es all, is) refl;
            fit = rw (found, below) refl;
            weight = rw found (omega arith);
          };
        })

turned_declared : (g : Parts) (p : Place) (n m : ℕ) (o : Option Decl) (t : Reading) → length p.ctx + p.left ≤ 3 → slice_get g.decls m ≡ o → n ≡ 2 * m + 1 → declared_at g p o ≡ Some t → Turned g p n t
unfolding fits_place weigh type_in weight_in shallow
turned_declared g p n m None t short found is h = cc
turned_declared g p n m (Some d) t short found is h = go (is_below g d.result p.wanted) (has_room p.left d.args) refl refl h
  where
    go : (b c : Bool) → is_below g d.result p.wanted ≡ b → has_room p.left d.args ≡ c → some_when (b && c) (record { weight = d.weight + binders_weight g (binders d.args) + step_in g (Some d.result) p.wanted; open_places = places p.ctx p.left d.args }) ≡ Some t → Turned g p n t
    go false c below room h' = cc
    go true false below room h' = cc
    go true true below room h' =
        let made : Reading = record { weight = d.weight + binders_weight g (binders d.args) + step_in g (Some d.result) p.wanted; open_places = places p.ctx p.left d.args } in
        let same : made ≡ t = cc in
        let P : Reading → Type 0 = λ r. Turned g p n r in
        subst P same (record {
          room = places-room p.ctx p.left d.args short room;
          grows = λ es all.
              let a : ArgsFit g p.ctx p.left d.args es = args_fit g p.ctx p.left d.args es short room all in
              record {
                term = head m (args_from d.args es);
                coded = rw (is, a.coded) refl;
                fit = rw (found, a.fit) (and_from (is_below g d.result p.wanted) (args_shallow p.left (args_from d.args es)) below a.flat);
                weight = rw (found, a.fit) (omega (arith, a.weight));
              };
        })

pub turned : (g : Parts) (p : Place) (n : ℕ) (t : Reading) → length p.ctx + p.left ≤ 3 → turn g p n ≡ Some t → Turned g p n t
unfolding turn
turned g p n t short h = go (symbol n) (number-symbol n) h
  where
    go : (s : Symbol) → number s ≡ n → turn_by g p s ≡ Some t → Turned g p n t
    go (variable m) is h' = turned_variable g p n m (slice_get (joined p.ctx) m) t refl (sym is) h'
    go (declared m) is h' = turned_declared g p n m (slice_get g.decls m) t short refl (sym is) h'

again : (m : ℕ) (a b c : List ℕ) → m ∷ (a ++ (b ++ c)) ≡ ((m ∷ a) ++ b) ++ c
again m a b c = ap (λ x. m ∷ x) (sym (append_assoc a b c))

-- read to the end
abbrev pub whole : ℕ → Option Reading
whole w = Some (record { weight = w; open_places = [] })

-- terms for the first places, and what is left of the numbers
pub record Filled (g : Parts) (w total : ℕ) (ps rest : List Place) (ns : List ℕ) : Type 0 where
  pub terms : List Expr
  pub more : List ℕ
  pub coded : ns ≡ codes terms ++ more
  pub fit : fit_all g ps terms ≡ true
  pub after : read g (w + weigh_all g ps terms) rest more ≡ whole total

abbrev stack_of : Option Reading → List Place
stack_of None = []
stack_of (Some r) = r.open_places

nonempty : (p : Place) (ps : List Place) → p ∷ ps ≡ [] → ⊥
nonempty p ps h = cc

pub not_whole : (w v : ℕ) (p : Place) (ps : List Place) → Some (record { weight = w; open_places = p ∷ ps }) ≡ whole v → ⊥
not_whole w v p ps h = nonempty p ps (ap stack_of h)

pub filled : (g : Parts) (fuel w total : ℕ) (ps rest : List Place) (ns : List ℕ) → length ns ≤ fuel → HaveRoom ps → read g w (ps ++ rest) ns ≡ whole total → Filled g w total ps rest ns
unfolding read
filled g fuel w total [] rest ns l room h = let e : w + 0 ≡ w = omega arith in record { terms = []; more = ns; coded = refl; fit = refl; after = rw e h }
filled g fuel w total (p ∷ ps) rest [] l room h = absurd (not_whole _ _ _ _ h)
filled g zero w total (p ∷ ps) rest (n ∷ ns) l room h = absurd (omega arith)
filled g (suc k) w total (p ∷ ps) rest (n ∷ ns) l room h = go (λ v qs more ms. filled g k v total qs more ms) (turn g p n) refl h
  where
    go : ((v : ℕ) (qs more : List Place) (ms : List ℕ) → length ms ≤ k → HaveRoom qs → read g v (qs ++ more) ms ≡ whole total → Filled g v total qs more ms) → (o : Option Reading) → turn g p n ≡ o → and_then o (λ t. read g (w + t.weight) (t.open_places ++ (ps ++ rest)) ns) ≡ whole total → Filled g w total (p ∷ ps) rest (n ∷ ns)
    go again' None is h' = cc
    go again' (Some t) is h' =
        let u : Turned g p n t = turned g p n t room.0 is in
        let one : Filled g (w + t.weight) total t.open_places (ps ++ rest) ns = again' (w + t.weight) t.open_places (ps ++ rest) ns (omega arith) u.room h' in
        let fewer : length one.more ≤ k = omega (arith, ap length one.coded, length-append (codes one.terms) one.more) in
        let two : Filled g (w + t.weight + weigh_all g t.open_places one.terms) total ps rest one.more = again' (w + t.weight + weigh_all g t.open_places one.terms) ps rest one.more fewer room.1 one.after in
        let e : Grown g p n t one.terms = u.grows one.terms one.fit in
        let sum : w + t.weight + weigh_all g t.open_places one.terms + weigh_all g ps two.terms ≡ w + (weigh g p e.term + weigh_all g ps two.terms) = omega (arith, e.weight) in
        record {
          terms = e.term ∷ two.terms;
          more = two.more;
          coded = ap (λ c. n ∷ c) (one.coded ∙ ap (λ c. codes one.terms ++ c) two.coded) ∙ again (n) (codes one.terms) (codes two.terms) two.more ∙ ap (λ c. (c ++ codes two.terms) ++ two.more) (sym e.coded);
          fit = and_from (fits_place g p e.term) (fit_all g ps two.terms) e.fit two.fit;
          after = ap (λ v. read g v rest two.more) (sym sum) ∙ two.after;
        }

-- Rows that are read to their end are those of arguments that fit, and such rows are read to their end.
use Rattle.std.proofs.Common.{◌≡◌, ℕ, zero, suc, ◌+◌, ◌*◌, ◌≤◌, ◌==◌, Bool, true, false, ◌&&◌, nat_lt, nat_le, List, [], ◌∷◌, ◌++◌, length, slice_get, Option, Some, None, refl, sym, ap, subst, ◌∙◌, arith, append_assoc, length-append}
use Rattle.std.specs.Prelude.{if◌then◌else◌}
use Rattle.std.proofs.lemmas.Bool.{and_parts, and_from, false≢true, eqb-true}
use Rattle.terms.specs.Expr.{Expr, var, head, Args, no_args, plain, lam}
use Rattle.terms.specs.Typing.{most_rows, type_in, fits, some_below, is_below, joined}
use Rattle.terms.specs.Weights.{weight_in, args_weight, step_in, variable_weight, binders_weight}
use Rattle.terms.specs.Place.{shallow, args_shallow}
use Rattle.terms.specs.Reading.{Symbol, variable, declared, symbol, and_then}
use Rattle.terms.specs.declared.parts.Parts.{Parts}
use Rattle.terms.specs.declared.parts.Decl.{Decl}
use Rattle.terms.specs.declared.parts.Arg.{Arg}
use Rattle.terms.specs.declared.parts.Arg.TheVariants.{Plain, Fun}
use Rattle.terms.proofs.Halves.{number, number-symbol}
use Rattle.checker.specs.declared.row.Row.{Row}
use Rattle.checker.specs.Rows.{rows_of, args_rows}
use Rattle.checker.specs.Frames.{Frame, Spot, Head, Walk, spot_of, variable_head, declared_head, head_by, head_of, closed, may_stand, entered, begun_by, begun, row_read, read_rows}

-- reading on, once the parts that end here have ended
abbrev pub resume : Parts → ℕ → List Frame → List Row → Option ℕ
resume g w fs rs = and_then (closed w fs) (λ gs. read_rows g w gs rs)

abbrev pub frame : List (List ℕ) → ℕ → List Arg → ℕ → Frame
frame ctx left wanted end = record { ctx = ctx; left = left; wanted = wanted; end = end }

-- a part over the arguments of its head
pub record Part (g : Parts) (ctx : List (List ℕ)) (left code : ℕ) (h : Head) (xs : Args) : Type 0 where
  pub term : Expr
  pub type : type_in g ctx term ≡ Some h.result
  pub weight : weight_in g ctx term ≡ h.weight + args_weight g ctx xs h.args
  pub rows : rows_of g ctx term ≡ record { code = code; result = h.result; weight = h.weight + args_weight g ctx xs h.args } ∷ args_rows g ctx xs h.args
  pub flat : shallow left term ≡ true

pub no_more : (g : Parts) (ctx : List (List ℕ)) (xs : Args) → fits g ctx xs [] ≡ true → xs ≡ no_args
unfolding fits
no_more g ctx no_args h = refl
no_more g ctx (plain e rest) h = absurd (false≢true h)
no_more g ctx (lam e rest) h = absurd (false≢true h)

variable_part : (g : Parts) (ctx : List (List ℕ)) (left n : ℕ) (o : Option ℕ) (h : Head) (xs : Args) → slice_get (joined ctx) n ≡ o → variable_head g o ≡ Some h → fits g ctx xs h.args ≡ true → Part g ctx left (2 * n) h xs
unfolding type_in weight_in args_weight shallow rows_of args_rows
variable_part g ctx left n None h xs at is fit = absurd cc
variable_part g ctx left n (Some t) h xs at is fit =
    let made : Head = record { result = t; weight = variable_weight g; args = [] } in
    let same : made ≡ h = cc in
    let P : Head → Type 0 = λ k. fits g ctx xs k.args ≡ true → Part g ctx left (2 * n) k xs in
    subst P same (λ f. let none = no_more g ctx xs f in rw none (record {
      term = var n;
      type = at;
      weight = omega arith;
      rows = rw at (ap row no_args_weigh);
      flat = refl;
    })) fit
  where
    row : ℕ → List Row
    row w = record { code = 2 * n; result = t; weight = w } ∷ []

    no_args_weigh : variable_weight g ≡ variable_weight g + 0
    no_args_weigh = omega arith

declared_part : (g : Parts) (ctx : List (List ℕ)) (left n : ℕ) (o : Option Decl) (h : Head) (xs : Args) → slice_get g.decls n ≡ o → declared_head o ≡ Some h → fits g ctx xs h.args ≡ true → args_shallow left xs ≡ true → Part g ctx left (2 * n + 1) h xs
unfolding type_in weight_in shallow rows_of
declared_part g ctx left n None h xs at is fit flat = absurd cc
declared_part g ctx left n (Some d) h xs at is fit flat =
    let made : Head = record { result = d.result; weight = d.weight; args = d.args } in
    let same : made ≡ h = cc in
    let P : Head → Type 0 = λ k. fits g ctx xs k.args ≡ true → Part g ctx left (2 * n + 1) k xs in
    subst P same (λ f. record {
      term = head n xs;
      type = rw (at, f) refl;
      weight = rw at refl;
      rows = rw (at, f) refl;
      flat = flat;
    }) fit

part : (g : Parts) (ctx : List (List ℕ)) (left code : ℕ) (h : Head) (xs : Args) → head_of g ctx code ≡ Some h → fits g ctx xs h.args ≡ true → args_shallow left xs ≡ true → Part g ctx left code h xs
unfolding head_of
part g ctx left code h xs is fit flat = go (symbol code) (number-symbol code) is
  where
    go : (s : Symbol) → number s ≡ code → head_by g ctx s ≡ Some h → Part g ctx left code h xs
    go (variable n) same is' = subst (λ c. Part g ctx left c h xs) same (variable_part g ctx left n (slice_get (joined ctx) n) h xs refl is' fit)
    go (declared n) same is' = subst (λ c. Part g ctx left c h xs) same (declared_part g ctx left n (slice_get g.decls n) h xs refl is' fit flat)

-- an argument before others
pub record Put (g : Parts) (ctx : List (List ℕ)) (left : ℕ) (a : Arg) (more : List Arg) (p : Spot) (e : Expr) (rest : Args) : Type 0 where
  pub args : Args
  pub fit : fits g ctx args (a ∷ more) ≡ true
  pub flat : args_shallow left args ≡ true
  pub weight : args_weight g ctx args (a ∷ more) ≡ p.binders + (weight_in g p.ctx e + step_in g (type_in g p.ctx e) p.wanted) + args_weight g ctx rest more
  pub rows : args_rows g ctx args (a ∷ more) ≡ rows_of g p.ctx e ++ args_rows g ctx rest more

put : (g : Parts) (ctx : List (List ℕ)) (left : ℕ) (a : Arg) (more : List Arg) (p : Spot) (e : Expr) (rest : Args) → spot_of g ctx left a ≡ Some p
    → some_below g (type_in g p.ctx e) p.wanted ≡ true → shallow p.left e ≡ true → fits g ctx rest more ≡ true → args_shallow left rest ≡ true → Put g ctx left a more p e rest
unfolding spot_of fits args_shallow args_weight args_rows
put g ctx left (Plain b) more p e rest is below deep fit flat =
    let made : Spot = record { ctx = ctx; left = left; wanted = b; binders = 0 } in
    let same : made ≡ p = cc in
    let P : Spot → Type 0 = λ q. some_below g (type_in g q.ctx e) q.wanted ≡ true → shallow q.left e ≡ true → Put g ctx left (Plain b) more q e rest in
    subst P same (λ bl dp. record {
      args = plain e rest;
      fit = and_from (some_below g (type_in g ctx e) b) (fits g ctx rest more) bl fit;
      flat = and_from (shallow left e) (args_shallow left rest) dp flat;
      weight = omega arith;
      rows = refl;
    }) below deep
put g ctx zero (Fun ps r) more p e rest is below deep fit flat = absurd cc
put g ctx (suc left) (Fun ps r) more p e rest is below deep fit flat = go (nat_lt (length ctx) most_rows) refl is
  where
    go : (b : Bool) → nat_lt (length ctx) most_rows ≡ b → (if b then Some (record { ctx = ctx ++ ps ∷ []; left = left; wanted = r; binders = binders_weight g (length ps) }) else None) ≡ Some p → Put g ctx (suc left) (Fun ps r) more p e rest
    go false few is' = absurd cc
    go true few is' =
        let made : Spot = record { ctx = ctx ++ ps ∷ []; left = left; wanted = r; binders = binders_weight g (length ps) } in
        let same : made ≡ p = cc in
        let P : Spot → Type 0 = λ q. some_below g (type_in g q.ctx e) q.wanted ≡ true → shallow q.left e ≡ true → Put g ctx (suc left) (Fun ps r) more q e rest in
        subst P same (λ bl dp. record {
          args = lam e rest;
          fit = and_from (nat_lt (length ctx) 3 && some_below g (type_in g (ctx ++ ps ∷ []) e) r) (fits g ctx rest more) (and_from (nat_lt (length ctx) 3) (some_below g (type_in g (ctx ++ ps ∷ []) e) r) few bl) fit;
          flat = and_from (shallow left e) (args_shallow (suc left) rest) dp flat;
          weight = omega arith;
          rows = refl;
        }) below deep

-- arguments whose rows begin the list, and what comes after them
pub record Told (g : Parts) (ctx : List (List ℕ)) (left : ℕ) (wanted : List Arg) (w end : ℕ) (fs : List Frame) (rows : List Row) (total : ℕ) : Type 0 where
  pub args : Args
  pub more : List Row
  pub spelled : rows ≡ args_rows g ctx args wanted ++ more
  pub fit : fits g ctx args wanted ≡ true
  pub flat : args_shallow left args ≡ true
  pub weight : end ≡ w + args_weight g ctx args wanted
  pub after : resume g end fs more ≡ Some total

told_none : (g : Parts) (ctx : List (List ℕ)) (left w end : ℕ) (fs : List Frame) (rows : List Row) (total : ℕ) → resume g w (frame ctx left [] end ∷ fs) rows ≡ Some total → Told g ctx left [] w end fs rows total
unfolding closed fits args_shallow args_weight args_rows
told_none g ctx left w end fs rows total h = go (w == end) refl h
  where
    go : (b : Bool) → (w == end) ≡ b → and_then (if b then closed w fs else None) (λ gs. read_rows g w gs rows) ≡ Some total → Told g ctx left [] w end fs rows total
    go false apart h' = absurd cc
    go true same h' =
        let is : w ≡ end = eqb-true w end same in
        record { args = no_args; more = rows; spelled = refl; fit = refl; flat = refl; weight = omega (arith, is); after = subst (λ n. resume g n fs rows ≡ Some total) is h' }

pub after_walk : (g : Parts) (w : ℕ) (o : Option (List Frame)) (rs : List Row) → and_then (and_then {X = List Frame} {Y = Walk} o (λ gs. Some (record { sum = w; frames = gs }))) (λ s. read_rows g s.sum s.frames rs) ≡ and_then o (λ gs. read_rows g w gs rs)
after_walk g w None rs = refl
after_walk g w (Some gs) rs = refl

-- what a row that begins a part has told
pub record Begins (g : Parts) (w : ℕ) (p : Spot) (r : Row) (fs : List Frame) (rs : List Row) (total : ℕ) : Type 0 where
  pub head : Head
  pub is : head_of g p.ctx r.code ≡ Some head
  pub result : head.result ≡ r.result
  pub below : is_below g head.result p.wanted ≡ true
  pub after : resume g (w + p.binders + step_in g (Some head.result) p.wanted + head.weight) (frame p.ctx p.left head.args (w + p.binders + step_in g (Some head.result) p.wanted + r.weight) ∷ fs) rs ≡ Some total

begins : (g : Parts) (w : ℕ) (p : Spot) (r : Row) (fs : List Frame) (rs : List Row) (total : ℕ) → and_then (begun g w p r fs) (λ s. read_rows g s.sum s.frames rs) ≡ Some total → Begins g w p r fs rs total
unfolding begun entered may_stand
begins g w p r fs rs total h = go (head_of g p.ctx r.code) refl h
  where
    go : (o : Option Head) → head_of g p.ctx r.code ≡ o → and_then (begun_by g w p r fs o) (λ s. read_rows g s.sum s.frames rs) ≡ Some total → Begins g w p r fs rs total
    go None is h' = absurd cc
    go (Some k) is h' = go_on (may_stand g w p k r) refl h'
      where
        go_on : (b : Bool) → may_stand g w p k r ≡ b → and_then (if b then entered g w p k r fs else None) (λ s. read_rows g s.sum s.frames rs) ≡ Some total → Begins g w p r fs rs total
        go_on false bad h'' = absurd cc
        go_on true good h'' =
            let own = w + p.binders + step_in g (Some k.result) p.wanted + k.weight in
            let a = and_parts (k.result == r.result && is_below g k.result p.wanted) (nat_le own g.limit) good in
            let b = and_parts (k.result == r.result) (is_below g k.result p.wanted) a.0 in
            record { head = k; is = is; result = eqb-true k.result r.result b.0; below = b.1; after = sym (after_walk g own (closed own (frame p.ctx p.left k.args (w + p.binders + step_in g (Some k.result) p.wanted + r.weight) ∷ fs)) rs) ∙ h'' }

-- rows that begin with an argument's
pub record Leads (g : Parts) (ctx : List (List ℕ)) (left : ℕ) (a : Arg) (more : List Arg) (w end : ℕ) (fs : List Frame) (r : Row) (rs : List Row) (total : ℕ) : Type 0 where
  pub spot : Spot
  pub is : spot_of g ctx left a ≡ Some spot
  pub begins : Begins g w spot r (frame ctx left more end ∷ fs) rs total

leads : (g : Parts) (ctx : List (List ℕ)) (left : ℕ) (a : Arg) (more : List Arg) (w end : ℕ) (fs : List Frame) (r : Row) (rs : List Row) (total : ℕ) → read_rows g w (frame ctx left (a ∷ more) end ∷ fs) (r ∷ rs) ≡ Some total → Leads g ctx left a more w end fs r rs total
unfolding read_rows row_read
leads g ctx left a more w end fs r rs total h = go (spot_of g ctx left a) refl h
  where
    go : (o : Option Spot) → spot_of g ctx left a ≡ o → and_then (and_then o (λ p. begun g w p r (frame ctx left more end ∷ fs))) (λ s. read_rows g s.sum s.frames rs) ≡ Some total → Leads g ctx left a more w end fs r rs total
    go None is h' = absurd cc
    go (Some p) is h' = record { spot = p; is = is; begins = begins g w p r (frame ctx left more end ∷ fs) rs total h' }

unread : (g : Parts) (w : ℕ) (f : Frame) (fs : List Frame) (total : ℕ) → read_rows g w (f ∷ fs) [] ≡ Some total → ⊥
unfolding read_rows
unread g w f fs total h = cc

pub open_on : (g : Parts) (ctx : List (List ℕ)) (left : ℕ) (a : Arg) (more : List Arg) (w end : ℕ) (fs : List Frame) (rs : List Row) → resume g w (frame ctx left (a ∷ more) end ∷ fs) rs ≡ read_rows g w (frame ctx left (a ∷ more) end ∷ fs) rs
unfolding closed
open_on g ctx left a more w end fs rs = refl

same_weight : (w b s o r a : ℕ) → w + b + s + r ≡ w + b + s + o + a → r ≡ o + a
same_weight w b s o r a e = omega (arith, e)

sum_of : (w b s o r a m e t : ℕ) → t ≡ b + (o + a + s) + m → w + b + s + r ≡ w + b + s + o + a → e ≡ w + b + s + r + m → e ≡ w + t
sum_of w b s o r a m e t p q u = omega (arith, p, q, u)

regroup : (r : Row) (xs ys zs : List Row) → r ∷ (xs ++ (ys ++ zs)) ≡ ((r ∷ xs) ++ ys) ++ zs
regroup r xs ys zs = ap (λ t. r ∷ t) (sym (append_assoc xs ys zs))

fewer : (n : ℕ) (xs more rs : List Row) → rs ≡ xs ++ more → length rs ≤ n → length more ≤ n
fewer n xs more rs e l = omega (arith, ap length e, length-append xs more)

-- one argument and the others
joined_told : (g : Parts) (ctx : List (List ℕ)) (left : ℕ) (a : Arg) (more : List Arg) (w end : ℕ) (fs : List Frame) (r : Row) (rs : List Row) (total : ℕ)
    → (x : Leads g ctx left a more w end fs r rs total)
    → (one : Told g x.spot.ctx x.spot.left x.begins.head.args (w + x.spot.binders + step_in g (Some x.begins.head.result) x.spot.wanted + x.begins.head.weight) (w + x.spot.binders + step_in g (Some x.begins.head.result) x.spot.wanted + r.weight) (frame ctx left more end ∷ fs) rs total)
    → Told g ctx left more (w + x.spot.binders + step_in g (Some x.begins.head.result) x.spot.wanted + r.weight) end fs one.more total
    → Told g ctx left (a ∷ more) w end fs (r ∷ rs) total
joined_told g ctx left a more w end fs r rs total x one two =
    let p = x.spot in
    let k = x.begins.head in
    let e : Part g p.ctx p.left r.code k one.args = part g p.ctx p.left r.code k one.args x.begins.is one.fit one.flat in
    let type = e.type in
    let below : some_below g (type_in g p.ctx e.term) p.wanted ≡ true = ap (λ o. some_below g o p.wanted) type ∙ x.begins.below in
    let y : Put g ctx left a more p e.term two.args = put g ctx left a more p e.term two.args x.is below e.flat two.fit two.flat in
    let told_weight : r.weight ≡ k.weight + args_weight g p.ctx one.args k.args = same_weight w p.binders (step_in g (Some k.result) p.wanted) k.weight r.weight (args_weight g p.ctx one.args k.args) one.weight in
    let row : r ≡ record { code = r.code; result = k.result; weight = k.weight + args_weight g p.ctx one.args k.args } = ap (λ t. record { code = r.code; result = t; weight = r.weight }) (sym x.begins.result) ∙ ap (λ t. record { code = r.code; result = k.result; weight = t }) told_weight in
    let step_same : step_in g (type_in g p.ctx e.term) p.wanted ≡ step_in g (Some k.result) p.wanted = ap (λ o. step_in g o p.wanted) type in
    let whole : args_weight g ctx y.args (a ∷ more) ≡ p.binders + (k.weight + args_weight g p.ctx one.args k.args + step_in g (Some k.result) p.wanted) + args_weight g ctx two.args more =
    y.weight ∙ ap (λ t. p.binders + t + args_weight g ctx two.args more) (ap (λ t. t + step_in g (type_in g p.ctx e.term) p.wanted) e.weight ∙ ap (λ t. k.weight + args_weight g p.ctx one.args k.args + t) step_same) in
    record {
      args = y.args;
      more = two.more;
      spelled = ap (λ t. r ∷ t) (one.spelled ∙ ap (λ t. args_rows g p.ctx one.args k.args ++ t) two.spelled)
          ∙ regroup r (args_rows g p.ctx one.args k.args) (args_rows g ctx two.args more) two.more
          ∙ ap (λ t. ((t ∷ args_rows g p.ctx one.args k.args) ++ args_rows g ctx two.args more) ++ two.more) row
          ∙ ap (λ t. (t ++ args_rows g ctx two.args more) ++ two.more) (sym e.rows)
          ∙ ap (λ t. t ++ two.more) (sym y.rows);
      fit = y.fit;
      flat = y.flat;
      weight = sum_of w p.binders (step_in g (Some k.result) p.wanted) k.weight r.weight (args_weight g p.ctx one.args k.args) (args_weight g ctx two.args more) end (args_weight g ctx y.args (a ∷ more)) whole one.weight two.weight;
      after = two.after;
    }

pub told : (g : Parts) (fuel : ℕ) (ctx : List (List ℕ)) (left : ℕ) (wanted : List Arg) (w end : ℕ) (fs : List Frame) (rows : List Row) (total : ℕ) → length rows ≤ fuel → resume g w (frame ctx left wanted end ∷ fs) rows ≡ Some total → Told g ctx left wanted w end fs rows total
told g fuel ctx left [] w end fs rows total l h = told_none g ctx left w end fs rows total h
told g fuel ctx left (a ∷ more) w end fs [] total l h = absurd (unread g w (frame ctx left (a ∷ more) end) fs total (sym (open_on g ctx left a more w end fs []) ∙ h))
told g zero ctx left (a ∷ more) w end fs (r ∷ rs) total l h = absurd (omega (arith, l))
told g (suc fuel) ctx left (a ∷ more) w end fs (r ∷ rs) total l h =
    let x : Leads g ctx left a more w end fs r rs total = leads g ctx left a more w end fs r rs total (sym (open_on g ctx left a more w end fs (r ∷ rs)) ∙ h) in
    let short : length rs ≤ fuel = omega (arith, l) in
    let one : Told g x.spot.ctx x.spot.left x.begins.head.args (w + x.spot.binders + step_in g (Some x.begins.head.result) x.spot.wanted + x.begins.head.weight) (w + x.spot.binders + step_in g (Some x.begins.head.result) x.spot.wanted + r.weight) (frame ctx left more end ∷ fs) rs total
    = told g fuel x.spot.ctx x.spot.left x.begins.head.args (w + x.spot.binders + step_in g (Some x.begins.head.result) x.spot.wanted + x.begins.head.weight) (w + x.spot.binders + step_in g (Some x.begins.head.result) x.spot.wanted + r.weight) (frame ctx left more end ∷ fs) rs total short x.begins.after in
    joined_told g ctx left a more w end fs r rs total x one
    (told g fuel ctx left more (w + x.spot.binders + step_in g (Some x.begins.head.result) x.spot.wanted + r.weight) end fs one.more total (fewer fuel (args_rows g x.spot.ctx one.args x.begins.head.args) one.more rs one.spelled short) one.after)

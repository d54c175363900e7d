-- The rows of a part that fits its place are read to their end, and those of a whole term decide the check.
use Rattle.std.proofs.Common.{◌≡◌, ℕ, zero, suc, ◌+◌, ◌*◌, ◌≤◌, ◌==◌, Bool, true, false, ◌&&◌, nat_lt, nat_le, List, [], ◌∷◌, ◌++◌, length, slice_get, Option, Some, None, refl, ap, ◌∙◌, arith, append_assoc}
use Rattle.std.specs.Prelude.{if◌then◌else◌}
use Rattle.std.proofs.lemmas.Bool.{and_parts, and_from, false≢true, eq-eqb, le-leb}
use Rattle.terms.specs.Expr.{Expr, var, head, Args, no_args, plain, lam}
use Rattle.terms.specs.Typing.{most_rows, type_in, fits, some_below, is_below, joined, args_wanted, result_if}
use Rattle.terms.specs.Weights.{weight_in, args_weight, step_in, variable_weight, binders_weight, decl_weight}
use Rattle.terms.specs.Place.{shallow, args_shallow}
use Rattle.terms.specs.Reading.{and_then}
use Rattle.terms.specs.declared.parts.Parts.{Parts}
use Rattle.terms.specs.declared.parts.Decl.{Decl}
use Rattle.terms.specs.declared.parts.Arg.{Arg}
use Rattle.terms.specs.declared.parts.Arg.TheVariants.{Plain, Fun}
use Rattle.terms.proofs.Halves.{symbol-even, symbol-odd}
use Rattle.checker.specs.declared.row.Row.{Row}
use Rattle.checker.specs.Rows.{row_if, rows_of, args_rows}
use Rattle.checker.specs.Frames.{Frame, Spot, Head, spot_of, variable_head, declared_head, head_by, head_of, closed, may_stand, entered, begun_by, begun, row_read, read_rows}
use Rattle.checker.proofs.RowParts.{resume, frame, after_walk, open_on}

-- the rows of the part at this place, and those after it
abbrev begun_rows : Parts → ℕ → Spot → List Frame → List Row → Option ℕ
begun_rows g w p fs [] = None
begun_rows g w p fs (r ∷ rs) = and_then (begun g w p r fs) (λ s. read_rows g s.sum s.frames rs)

next_rows : (g : Parts) (ctx : List (List ℕ)) (left : ℕ) (a : Arg) (more : List Arg) (p : Spot) (w end : ℕ) (fs : List Frame) (rows : List Row) → spot_of g ctx left a ≡ Some p
    → read_rows g w (frame ctx left (a ∷ more) end ∷ fs) rows ≡ begun_rows g w p (frame ctx left more end ∷ fs) rows
unfolding read_rows row_read
next_rows g ctx left a more p w end fs [] is = refl
next_rows g ctx left a more p w end fs (r ∷ rs) is = rw is refl

enters : (g : Parts) (w : ℕ) (p : Spot) (h : Head) (r : Row) (fs : List Frame) (rs : List Row) → head_of g p.ctx r.code ≡ Some h → h.result ≡ r.result → is_below g h.result p.wanted ≡ true
    → w + p.binders + step_in g (Some h.result) p.wanted + h.weight ≤ g.limit
    → and_then (begun g w p r fs) (λ s. read_rows g s.sum s.frames rs) ≡ resume g (w + p.binders + step_in g (Some h.result) p.wanted + h.weight) (frame p.ctx p.left h.args (w + p.binders + step_in g (Some h.result) p.wanted + r.weight) ∷ fs) rs
unfolding begun entered may_stand
enters g w p h r fs rs is same below low =
    let own = w + p.binders + step_in g (Some h.result) p.wanted + h.weight in
    let may : may_stand g w p h r ≡ true = and_from (h.result == r.result && is_below g h.result p.wanted) (nat_le own g.limit) (and_from (h.result == r.result) (is_below g h.result p.wanted) (eq-eqb h.result r.result same) below) (le-leb own g.limit low) in
    ap (λ o. and_then (begun_by g w p r fs o) (λ s. read_rows g s.sum s.frames rs)) is
    ∙ ap (λ b. and_then (if b then entered g w p h r fs else None) (λ s. read_rows g s.sum s.frames rs)) may
    ∙ after_walk g own (closed own (frame p.ctx p.left h.args (w + p.binders + step_in g (Some h.result) p.wanted + r.weight) ∷ fs)) rs

pub ends : (g : Parts) (ctx : List (List ℕ)) (left w end : ℕ) (fs : List Frame) (rs : List Row) → w ≡ end → resume g w (frame ctx left [] end ∷ fs) rs ≡ resume g w fs rs
unfolding closed
ends g ctx left w end fs rs same = ap (λ b. and_then (if b then closed w fs else None) (λ gs. read_rows g w gs rs)) (eq-eqb w end same)

-- a variable with its type
variable_read : (g : Parts) (n : ℕ) (o : Option ℕ) (p : Spot) (w : ℕ) (fs : List Frame) (rs : List Row) → slice_get (joined p.ctx) n ≡ o → some_below g o p.wanted ≡ true
    → w + p.binders + (variable_weight g + step_in g o p.wanted) ≤ g.limit
    → begun_rows g w p fs (row_if (2 * n) o (variable_weight g) ++ rs) ≡ resume g (w + p.binders + (variable_weight g + step_in g o p.wanted)) fs rs
unfolding head_of
variable_read g n None p w fs rs at below low = absurd (false≢true below)
variable_read g n (Some t) p w fs rs at below low =
    let own = w + p.binders + step_in g (Some t) p.wanted + variable_weight g in
    let sum : own ≡ w + p.binders + (variable_weight g + step_in g (Some t) p.wanted) = omega arith in
    let within : own ≤ g.limit = omega (arith, low) in
    let is : head_of g p.ctx (2 * n) ≡ Some (record { result = t; weight = variable_weight g; args = [] }) = ap (head_by g p.ctx) (symbol-even n) ∙ ap (variable_head g) at in
    enters g w p (record { result = t; weight = variable_weight g; args = [] }) (record { code = 2 * n; result = t; weight = variable_weight g }) fs rs is refl below within
    ∙ ends g p.ctx p.left own own fs rs refl
    ∙ ap (λ v. resume g v fs rs) sum

sum_in : (w b s o a l : ℕ) → w + b + (o + a + s) ≤ l → w + b + s + o ≤ l
sum_in w b s o a l h = omega (arith, h)

sum_args : (w b s o a l : ℕ) → w + b + (o + a + s) ≤ l → w + b + s + o + a ≤ l
sum_args w b s o a l h = omega (arith, h)

sum_end : (w b s o a : ℕ) → w + b + s + o + a ≡ w + b + s + (o + a)
sum_end w b s o a = omega arith

sum_out : (w b s o a : ℕ) → w + b + s + o + a ≡ w + b + (o + a + s)
sum_out w b s o a = omega arith

-- a declaration over arguments that fit
declared_read : (g : Parts) (n : ℕ) (d : Decl) (xs : Args) (p : Spot) (w : ℕ) (fs : List Frame) (rs : List Row) → slice_get g.decls n ≡ Some d → is_below g d.result p.wanted ≡ true
    → ((v end : ℕ) → v + args_weight g p.ctx xs d.args ≤ g.limit → resume g v (frame p.ctx p.left d.args end ∷ fs) (args_rows g p.ctx xs d.args ++ rs) ≡ resume g (v + args_weight g p.ctx xs d.args) (frame p.ctx p.left [] end ∷ fs) rs)
    → w + p.binders + (d.weight + args_weight g p.ctx xs d.args + step_in g (Some d.result) p.wanted) ≤ g.limit
    → begun_rows g w p fs (record { code = 2 * n + 1; result = d.result; weight = d.weight + args_weight g p.ctx xs d.args } ∷ (args_rows g p.ctx xs d.args ++ rs))
    ≡ resume g (w + p.binders + (d.weight + args_weight g p.ctx xs d.args + step_in g (Some d.result) p.wanted)) fs rs
unfolding head_of
declared_read g n d xs p w fs rs at below args low =
    let s = step_in g (Some d.result) p.wanted in
    let a = args_weight g p.ctx xs d.args in
    let own = w + p.binders + s + d.weight in
    let end = w + p.binders + s + (d.weight + a) in
    let is : head_of g p.ctx (2 * n + 1) ≡ Some (record { result = d.result; weight = d.weight; args = d.args }) = ap (head_by g p.ctx) (symbol-odd n) ∙ ap declared_head at in
    enters g w p (record { result = d.result; weight = d.weight; args = d.args }) (record { code = 2 * n + 1; result = d.result; weight = d.weight + a }) fs (args_rows g p.ctx xs d.args ++ rs) is refl below (sum_in w p.binders s d.weight a g.limit low)
    ∙ args own end (sum_args w p.binders s d.weight a g.limit low)
    ∙ ends g p.ctx p.left (own + a) end fs rs (sum_end w p.binders s d.weight a)
    ∙ ap (λ v. resume g v fs rs) (sum_out w p.binders s d.weight a)

first_in : (w a m l : ℕ) → w + (a + m) ≤ l → w + 0 + a ≤ l
first_in w a m l h = omega (arith, h)

plain_in : (w a s m l : ℕ) → w + (a + s + m) ≤ l → w + 0 + (a + s) ≤ l
plain_in w a s m l h = omega (arith, h)

plain_rest : (w a s m l : ℕ) → w + (a + s + m) ≤ l → w + 0 + (a + s) + m ≤ l
plain_rest w a s m l h = omega (arith, h)

plain_out : (w a s m : ℕ) → w + 0 + (a + s) + m ≡ w + (a + s + m)
plain_out w a s m = omega arith

lam_in : (w a b s m l : ℕ) → w + (a + b + s + m) ≤ l → w + b + (a + s) ≤ l
lam_in w a b s m l h = omega (arith, h)

lam_rest : (w a b s m l : ℕ) → w + (a + b + s + m) ≤ l → w + b + (a + s) + m ≤ l
lam_rest w a b s m l h = omega (arith, h)

lam_out : (w a b s m : ℕ) → w + b + (a + s) + m ≡ w + (a + b + s + m)
lam_out w a b s m = omega arith

lambda_spot : (g : Parts) (ctx : List (List ℕ)) (left : ℕ) (ps : List ℕ) (r : ℕ) → nat_lt (length ctx) most_rows ≡ true → spot_of g ctx (suc left) (Fun ps r) ≡ Some (record { ctx = ctx ++ ps ∷ []; left = left; wanted = r; binders = binders_weight g (length ps) })
unfolding spot_of
lambda_spot g ctx left ps r few = rw few refl

plain_spot : (g : Parts) (ctx : List (List ℕ)) (left b : ℕ) → spot_of g ctx left (Plain b) ≡ Some (record { ctx = ctx; left = left; wanted = b; binders = 0 })
unfolding spot_of
plain_spot g ctx left b = refl

no_sum : (w : ℕ) → w ≡ w + 0
no_sum w = omega arith

mutual
  unfolding type_in weight_in fits args_weight shallow args_shallow rows_of args_rows

  pub part_read : (g : Parts) (e : Expr) (p : Spot) (w : ℕ) (fs : List Frame) (rs : List Row) → some_below g (type_in g p.ctx e) p.wanted ≡ true → shallow p.left e ≡ true
      → w + p.binders + (weight_in g p.ctx e + step_in g (type_in g p.ctx e) p.wanted) ≤ g.limit
      → begun_rows g w p fs (rows_of g p.ctx e ++ rs) ≡ resume g (w + p.binders + (weight_in g p.ctx e + step_in g (type_in g p.ctx e) p.wanted)) fs rs
  part_read g (var n) p w fs rs below deep low = variable_read g n (slice_get (joined p.ctx) n) p w fs rs refl below low
  part_read g (head n xs) p w fs rs below deep low = by_head g n xs p w fs rs (λ wanted v end fit within. args_read g xs p.ctx p.left wanted v end fs rs fit deep within) (slice_get g.decls n) refl below deep low
    where
      by_head : (g : Parts) (n : ℕ) (xs : Args) (p : Spot) (w : ℕ) (fs : List Frame) (rs : List Row)
          → ((wanted : List Arg) (v end : ℕ) → fits g p.ctx xs wanted ≡ true → v + args_weight g p.ctx xs wanted ≤ g.limit → resume g v (frame p.ctx p.left wanted end ∷ fs) (args_rows g p.ctx xs wanted ++ rs) ≡ resume g (v + args_weight g p.ctx xs wanted) (frame p.ctx p.left [] end ∷ fs) rs)
          → (o : Option Decl) → slice_get g.decls n ≡ o → some_below g (result_if o (fits g p.ctx xs (args_wanted o))) p.wanted ≡ true → args_shallow p.left xs ≡ true
          → w + p.binders + (decl_weight o + args_weight g p.ctx xs (args_wanted o) + step_in g (result_if o (fits g p.ctx xs (args_wanted o))) p.wanted) ≤ g.limit
          → begun_rows g w p fs ((row_if (2 * n + 1) (result_if o (fits g p.ctx xs (args_wanted o))) (decl_weight o + args_weight g p.ctx xs (args_wanted o)) ++ args_rows g p.ctx xs (args_wanted o)) ++ rs)
          ≡ resume g (w + p.binders + (decl_weight o + args_weight g p.ctx xs (args_wanted o) + step_in g (result_if o (fits g p.ctx xs (args_wanted o))) p.wanted)) fs rs
      by_head g n xs p w fs rs args None at below deep low = absurd (false≢true below)
      by_head g n xs p w fs rs args (Some d) at below deep low = by_fit (fits g p.ctx xs d.args) refl below low
        where
          by_fit : (b : Bool) → fits g p.ctx xs d.args ≡ b → some_below g (result_if (Some d) b) p.wanted ≡ true → w + p.binders + (d.weight + args_weight g p.ctx xs d.args + step_in g (result_if (Some d) b) p.wanted) ≤ g.limit
              → begun_rows g w p fs ((row_if (2 * n + 1) (result_if (Some d) b) (d.weight + args_weight g p.ctx xs d.args) ++ args_rows g p.ctx xs d.args) ++ rs) ≡ resume g (w + p.binders + (d.weight + args_weight g p.ctx xs d.args + step_in g (result_if (Some d) b) p.wanted)) fs rs
          by_fit false fit below' low' = absurd (false≢true below')
          by_fit true fit below' low' = declared_read g n d xs p w fs rs at below' (λ v end within. args d.args v end fit within) low'

  pub args_read : (g : Parts) (xs : Args) (ctx : List (List ℕ)) (left : ℕ) (wanted : List Arg) (w end : ℕ) (fs : List Frame) (rs : List Row) → fits g ctx xs wanted ≡ true → args_shallow left xs ≡ true
      → w + args_weight g ctx xs wanted ≤ g.limit
      → resume g w (frame ctx left wanted end ∷ fs) (args_rows g ctx xs wanted ++ rs) ≡ resume g (w + args_weight g ctx xs wanted) (frame ctx left [] end ∷ fs) rs
  args_read g no_args ctx left [] w end fs rs fit flat low = ap (λ v. resume g v (frame ctx left [] end ∷ fs) rs) (no_sum w)
  args_read g no_args ctx left (Plain b ∷ more) w end fs rs fit flat low = absurd (false≢true fit)
  args_read g no_args ctx left (Fun ps r ∷ more) w end fs rs fit flat low = absurd (false≢true fit)
  args_read g (plain e rest) ctx left [] w end fs rs fit flat low = absurd (false≢true fit)
  args_read g (plain e rest) ctx left (Fun ps r ∷ more) w end fs rs fit flat low = absurd (false≢true fit)
  args_read g (lam e rest) ctx left [] w end fs rs fit flat low = absurd (false≢true fit)
  args_read g (lam e rest) ctx left (Plain b ∷ more) w end fs rs fit flat low = absurd (false≢true fit)
  args_read g (lam e rest) ctx zero (Fun ps r ∷ more) w end fs rs fit flat low = absurd (false≢true flat)
  args_read g (plain e rest) ctx left (Plain b ∷ more) w end fs rs fit flat low =
      let f = and_parts (some_below g (type_in g ctx e) b) (fits g ctx rest more) fit in
      let d = and_parts (shallow left e) (args_shallow left rest) flat in
      let p : Spot = record { ctx = ctx; left = left; wanted = b; binders = 0 } in
      let a = weight_in g ctx e in
      let s = step_in g (type_in g ctx e) b in
      let m = args_weight g ctx rest more in
      open_on g ctx left (Plain b) more w end fs ((rows_of g ctx e ++ args_rows g ctx rest more) ++ rs)
      ∙ next_rows g ctx left (Plain b) more p w end fs ((rows_of g ctx e ++ args_rows g ctx rest more) ++ rs) (plain_spot g ctx left b)
      ∙ ap (λ t. begun_rows g w p (frame ctx left more end ∷ fs) t) (append_assoc (rows_of g ctx e) (args_rows g ctx rest more) rs)
      ∙ part_read g e p w (frame ctx left more end ∷ fs) (args_rows g ctx rest more ++ rs) f.0 d.0 (plain_in w a s m g.limit low)
      ∙ args_read g rest ctx left more (w + 0 + (a + s)) end fs rs f.1 d.1 (plain_rest w a s m g.limit low)
      ∙ ap (λ v. resume g v (frame ctx left [] end ∷ fs) rs) (plain_out w a s m)
  args_read g (lam e rest) ctx (suc left) (Fun ps r ∷ more) w end fs rs fit flat low =
      let inner = ctx ++ ps ∷ [] in
      let h = and_parts (nat_lt (length ctx) 3 && some_below g (type_in g inner e) r) (fits g ctx rest more) fit in
      let f = and_parts (nat_lt (length ctx) 3) (some_below g (type_in g inner e) r) h.0 in
      let d = and_parts (shallow left e) (args_shallow (suc left) rest) flat in
      let p : Spot = record { ctx = inner; left = left; wanted = r; binders = binders_weight g (length ps) } in
      let a = weight_in g inner e in
      let s = step_in g (type_in g inner e) r in
      let m = args_weight g ctx rest more in
      open_on g ctx (suc left) (Fun ps r) more w end fs ((rows_of g inner e ++ args_rows g ctx rest more) ++ rs)
      ∙ next_rows g ctx (suc left) (Fun ps r) more p w end fs ((rows_of g inner e ++ args_rows g ctx rest more) ++ rs) (lambda_spot g ctx left ps r f.0)
      ∙ ap (λ t. begun_rows g w p (frame ctx (suc left) more end ∷ fs) t) (append_assoc (rows_of g inner e) (args_rows g ctx rest more) rs)
      ∙ part_read g e p w (frame ctx (suc left) more end ∷ fs) (args_rows g ctx rest more ++ rs) f.1 d.0 (lam_in w a (binders_weight g (length ps)) s m g.limit low)
      ∙ args_read g rest ctx (suc left) more (w + binders_weight g (length ps) + (a + s)) end fs rs h.1 d.1 (lam_rest w a (binders_weight g (length ps)) s m g.limit low)
      ∙ ap (λ v. resume g v (frame ctx (suc left) [] end ∷ fs) rs) (lam_out w a (binders_weight g (length ps)) s m)

-- The code of a term that fits a place is read to its end.
use Rattle.std.proofs.Common.{◌≡◌, ℕ, zero, suc, ◌+◌, Bool, true, false, ◌&&◌, nat_lt, List, [], ◌∷◌, ◌++◌, length, slice_get, Option, Some, None, refl, ap, ◌∙◌, arith, append_assoc}
use Rattle.std.proofs.lemmas.Bool.{and_parts, and_from, false≢true}
use Rattle.terms.specs.Expr.{Expr, var, head, Args, no_args, plain, lam}
use Rattle.terms.specs.Typing.{type_in, fits, some_below, is_below, result_if, args_wanted, joined}
use Rattle.terms.specs.Weights.{variable_weight, sum_of_equal, binders_weight, weight_in, args_weight, step_in}
use Rattle.terms.specs.declared.parts.Parts.{Parts}
use Rattle.terms.specs.declared.parts.Decl.{Decl}
use Rattle.terms.specs.declared.parts.Arg.{Arg}
use Rattle.terms.specs.declared.parts.Arg.TheVariants.{Plain, Fun}
use Rattle.terms.specs.Code.{prefix_code, args_code}
use Rattle.terms.specs.Place.{Place, fits_place, weigh, shallow, args_shallow}
use Rattle.terms.specs.Reading.{has_room, places, binders, variable_at, declared_at, turn, and_then, read}
use Rattle.terms.proofs.Halves.{symbol-even, symbol-odd}
use Rattle.terms.proofs.Weighing.{binders_weight-more}

-- where the arguments fit, there is room for them
has_room-fits : (g : Parts) (ctx : List (List ℕ)) (left : ℕ) (xs : Args) (wanted : List Arg) → fits g ctx xs wanted ≡ true → args_shallow left xs ≡ true → has_room left wanted ≡ true
unfolding fits args_shallow has_room
has_room-fits g ctx left no_args [] f s = refl
has_room-fits g ctx left no_args (Plain b ∷ more) f s = absurd (false≢true f)
has_room-fits g ctx left no_args (Fun ps r ∷ more) f s = absurd (false≢true f)
has_room-fits g ctx left (plain e xs) [] f s = absurd (false≢true f)
has_room-fits g ctx left (plain e xs) (Fun ps r ∷ more) f s = absurd (false≢true f)
has_room-fits g ctx left (plain e xs) (Plain b ∷ more) f s = has_room-fits g ctx left xs more (and_parts (some_below g (type_in g ctx e) b) (fits g ctx xs more) f).1 (and_parts (shallow left e) (args_shallow left xs) s).1
has_room-fits g ctx left (lam e xs) [] f s = absurd (false≢true f)
has_room-fits g ctx left (lam e xs) (Plain b ∷ more) f s = absurd (false≢true f)
has_room-fits g ctx zero (lam e xs) (Fun ps r ∷ more) f s = absurd (false≢true s)
has_room-fits g ctx (suc l) (lam e xs) (Fun ps r ∷ more) f s =
    has_room-fits g ctx (suc l) xs more (and_parts (nat_lt (length ctx) 3 && some_below g (type_in g (ctx ++ ps ∷ []) e) r) (fits g ctx xs more) f).1 (and_parts (shallow l e) (args_shallow (suc l) xs) s).1

read_variable : (g : Parts) (p : Place) (o : Option ℕ) (w : ℕ) (rest : List Place) (more : List ℕ) → some_below g o p.wanted ≡ true
    → and_then (variable_at g p o) (λ t. read g (w + t.weight) (t.open_places ++ rest) more) ≡ read g (w + (variable_weight g + step_in g o p.wanted)) rest more
read_variable g p None w rest more h = absurd (false≢true h)
read_variable g p (Some t) w rest more h = rw h refl

-- a turn of a declaration that fits
read_declared : (g : Parts) (p : Place) (d : Decl) (w : ℕ) (rest : List Place) (more : List ℕ) → is_below g d.result p.wanted ≡ true → has_room p.left d.args ≡ true
    → and_then (declared_at g p (Some d)) (λ t. read g (w + t.weight) (t.open_places ++ rest) more) ≡ read g (w + (d.weight + binders_weight g (binders d.args) + step_in g (Some d.result) p.wanted)) (places p.ctx p.left d.args ++ rest) more
read_declared g p d w rest more below room = rw (below, room) refl

-- what a head needs
pub record HeadFits (g : Parts) (p : Place) (xs : Args) (o : Option Decl) : Type 0 where
  pub decl : Decl
  pub is : o ≡ Some decl
  pub below : is_below g decl.result p.wanted ≡ true
  pub fit : fits g p.ctx xs decl.args ≡ true
  pub flat : args_shallow p.left xs ≡ true

pub head_fits : (g : Parts) (p : Place) (xs : Args) (o : Option Decl) → some_below g (result_if o (fits g p.ctx xs (args_wanted o))) p.wanted && args_shallow p.left xs ≡ true → HeadFits g p xs o
head_fits g p xs None h = absurd (false≢true h)
head_fits g p xs (Some d) h = go (fits g p.ctx xs d.args) refl h
  where
    go : (b : Bool) → fits g p.ctx xs d.args ≡ b → some_below g (result_if (Some d) b) p.wanted && args_shallow p.left xs ≡ true → HeadFits g p xs (Some d)
    go true is h' =
        let parts = and_parts (is_below g d.result p.wanted) (args_shallow p.left xs) h' in
        record { decl = d; is = refl; below = parts.0; fit = is; flat = parts.1 }
    go false is h' = absurd (false≢true h')

mutual
  unfolding read turn fits_place weigh type_in weight_in fits args_weight shallow args_shallow binders places sum_of_equal

  pub read-term : (g : Parts) (p : Place) (e : Expr) (w : ℕ) (rest : List Place) (more : List ℕ) → fits_place g p e ≡ true → read g w (p ∷ rest) (prefix_code e ++ more) ≡ read g (w + weigh g p e) rest more
  read-term g p (var n) w rest more h = rw (symbol-even n) (read_variable g p (slice_get (joined p.ctx) n) w rest more (and_parts (some_below g (slice_get (joined p.ctx) n) p.wanted) true h).0)
  read-term g p (head d xs) w rest more h =
      let f : HeadFits g p xs (slice_get g.decls d) = head_fits g p xs (slice_get g.decls d) h in
      let w0 = w + (f.decl.weight + step_in g (Some f.decl.result) p.wanted) in
      let sum : w + (f.decl.weight + binders_weight g (binders f.decl.args) + step_in g (Some f.decl.result) p.wanted) ≡ w0 + binders_weight g (binders f.decl.args) = omega arith in
      let sum2 : w0 + args_weight g p.ctx xs f.decl.args ≡ w + (f.decl.weight + args_weight g p.ctx xs f.decl.args + step_in g (Some f.decl.result) p.wanted) = omega arith in
      rw (symbol-odd d, f.is, f.fit)
      (read_declared g p f.decl w rest (args_code xs ++ more) f.below (has_room-fits g p.ctx p.left xs f.decl.args f.fit f.flat)
      ∙ ap (λ v. read g v (places p.ctx p.left f.decl.args ++ rest) (args_code xs ++ more)) sum
      ∙ read-args g p.ctx p.left xs f.decl.args w0 rest more f.fit f.flat
      ∙ ap (λ v. read g v rest more) sum2)

  pub read-args : (g : Parts) (ctx : List (List ℕ)) (left : ℕ) (xs : Args) (wanted : List Arg) (w : ℕ) (rest : List Place) (more : List ℕ) → fits g ctx xs wanted ≡ true → args_shallow left xs ≡ true
      → read g (w + binders_weight g (binders wanted)) (places ctx left wanted ++ rest) (args_code xs ++ more) ≡ read g (w + args_weight g ctx xs wanted) rest more
  read-args g ctx left no_args [] w rest more f s = refl
  read-args g ctx left no_args (Plain b ∷ ws) w rest more f s = absurd (false≢true f)
  read-args g ctx left no_args (Fun ps r ∷ ws) w rest more f s = absurd (false≢true f)
  read-args g ctx left (plain e xs) [] w rest more f s = absurd (false≢true f)
  read-args g ctx left (plain e xs) (Fun ps r ∷ ws) w rest more f s = absurd (false≢true f)
  read-args g ctx left (plain e xs) (Plain b ∷ ws) w rest more f s =
      let p : Place = record { ctx = ctx; left = left; wanted = b } in
      let fs = and_parts (some_below g (type_in g ctx e) b) (fits g ctx xs ws) f in
      let ss = and_parts (shallow left e) (args_shallow left xs) s in
      let sum : w + binders_weight g (binders ws) + weigh g p e ≡ w + weigh g p e + binders_weight g (binders ws) = omega arith in
      let sum2 : w + weigh g p e + args_weight g ctx xs ws ≡ w + (weight_in g ctx e + step_in g (type_in g ctx e) b + args_weight g ctx xs ws) = omega arith in
      ap (λ c. read g (w + binders_weight g (binders ws)) (p ∷ (places ctx left ws ++ rest)) c) (append_assoc (prefix_code e) (args_code xs) more)
      ∙ read-term g p e (w + binders_weight g (binders ws)) (places ctx left ws ++ rest) (args_code xs ++ more) (and_from (some_below g (type_in g ctx e) b) (shallow left e) fs.0 ss.0)
      ∙ ap (λ v. read g v (places ctx left ws ++ rest) (args_code xs ++ more)) sum
      ∙ read-args g ctx left xs ws (w + weigh g p e) rest more fs.1 ss.1
      ∙ ap (λ v. read g v rest more) sum2
  read-args g ctx left (lam e xs) [] w rest more f s = absurd (false≢true f)
  read-args g ctx left (lam e xs) (Plain b ∷ ws) w rest more f s = absurd (false≢true f)
  read-args g ctx zero (lam e xs) (Fun ps r ∷ ws) w rest more f s = absurd (false≢true s)
  read-args g ctx (suc l) (lam e xs) (Fun ps r ∷ ws) w rest more f s =
      let inner = ctx ++ ps ∷ [] in
      let p : Place = record { ctx = inner; left = l; wanted = r } in
      let fs = and_parts (nat_lt (length ctx) 3 && some_below g (type_in g inner e) r) (fits g ctx xs ws) f in
      let f0 = and_parts (nat_lt (length ctx) 3) (some_below g (type_in g inner e) r) fs.0 in
      let ss = and_parts (shallow l e) (args_shallow (suc l) xs) s in
      let sum : w + binders_weight g (length ps + binders ws) + weigh g p e ≡ w + binders_weight g (length ps) + weigh g p e + binders_weight g (binders ws) = omega (arith, binders_weight-more g (length ps) (binders ws)) in
      let sum2 : w + binders_weight g (length ps) + weigh g p e + args_weight g ctx xs ws ≡ w + (weight_in g inner e + binders_weight g (length ps) + step_in g (type_in g inner e) r + args_weight g ctx xs ws) = omega arith in
      ap (λ c. read g (w + binders_weight g (length ps + binders ws)) (p ∷ (places ctx (suc l) ws ++ rest)) c) (append_assoc (prefix_code e) (args_code xs) more)
      ∙ read-term g p e (w + binders_weight g (length ps + binders ws)) (places ctx (suc l) ws ++ rest) (args_code xs ++ more) (and_from (some_below g (type_in g inner e) r) (shallow l e) f0.1 ss.0)
      ∙ ap (λ v. read g v (places ctx (suc l) ws ++ rest) (args_code xs ++ more)) sum
      ∙ read-args g ctx (suc l) xs ws (w + binders_weight g (length ps) + weigh g p e) rest more fs.1 ss.1
      ∙ ap (λ v. read g v rest more) sum2

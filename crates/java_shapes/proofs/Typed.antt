-- What is known of well typed terms: their declarations, and the size of their contexts.
use Rattle.std.proofs.Common.{◌≡◌, ◌≢◌, refl, ℕ, zero, suc, ◌*◌, ◌<◌, ◌≤◌, ◌^◌, ◌&&◌, Bool, true, false, nat_lt, List, [], ◌∷◌, ◌++◌, length, slice_get, Option, Some, None, arith, length-append}
use Rattle.std.proofs.lemmas.Bool.{and_parts, false≢true, ltb-true}
use Rattle.terms.specs.Expr.{Expr, var, head, Args, no_args, plain, lam}
use Rattle.terms.specs.Typing.{type_in, fits, joined, some_below, result_if, args_wanted, most_rows}
use Rattle.terms.specs.Faults.{is_well_formed, IsValid}
use Rattle.terms.specs.Apart.{Declares}
use Rattle.terms.specs.Text.{parameters}
use Rattle.terms.specs.declared.parts.Parts.{Parts}
use Rattle.terms.specs.declared.parts.Decl.{Decl}
use Rattle.terms.specs.declared.parts.Arg.{Arg}
use Rattle.terms.specs.declared.parts.Arg.TheVariants.{Plain, Fun}
use Rattle.terms.proofs.Valid.{valid-decl}
use Rattle.java_shapes.specs.Readable.{AreShortRows, AreShort, IsContext}

pub some_none : {X : Type 0} (x : X) → Some x ≡ None → ⊥
some_none x e = cc

pub fitted : (d : Option Decl) (b : Bool) → result_if d b ≢ None → b ≡ true
fitted None b h = absurd (h refl)
fitted (Some d) true h = refl
fitted (Some d) false h = absurd (h refl)

pub below_typed : (g : Parts) (t : Option ℕ) (b : ℕ) → some_below g t b ≡ true → t ≢ None
below_typed g None b h = absurd (false≢true h)
below_typed g (Some a) b h = some_none a

-- a typed head: its declaration, and its arguments fit
pub record Opened (g : Parts) (ctx : List (List ℕ)) (i : ℕ) (xs : Args) : Type 0 where
  pub decl : Decl
  pub declared : Declares g i decl
  pub fit : fits g ctx xs decl.args ≡ true

opened_by : (g : Parts) (ctx : List (List ℕ)) (i : ℕ) (xs : Args) (d : Option Decl) → slice_get g.decls i ≡ d → result_if d (fits g ctx xs (args_wanted d)) ≢ None → Opened g ctx i xs
opened_by g ctx i xs None e h = absurd (h refl)
opened_by g ctx i xs (Some d) e h = record { decl = d; declared = e; fit = fitted (Some d) (fits g ctx xs d.args) h }

pub opened : (g : Parts) (ctx : List (List ℕ)) (i : ℕ) (xs : Args) → type_in g ctx (head i xs) ≢ None → Opened g ctx i xs
unfolding type_in
opened g ctx i xs h = opened_by g ctx i xs (slice_get g.decls i) refl h

pub typed_is : (g : Parts) (ctx : List (List ℕ)) (i : ℕ) (xs : Args) (o : Opened g ctx i xs) → type_in g ctx (head i xs) ≡ Some o.decl.result
unfolding type_in
typed_is g ctx i xs o = rw (o.declared, o.fit) refl

pub formed : (g : Parts) → IsValid g → (i : ℕ) (d : Decl) → Declares g i d → is_well_formed d.form d.args ≡ true
formed g valid i d is = (valid-decl g valid i d is).formed

-- the parts of arguments that fit
pub plain_fits : (g : Parts) (ctx : List (List ℕ)) (e : Expr) (rest : Args) (b : ℕ) (more : List Arg) → fits g ctx (plain e rest) (Plain b ∷ more) ≡ true → (some_below g (type_in g ctx e) b ≡ true) × (fits g ctx rest more ≡ true)
unfolding fits
plain_fits g ctx e rest b more h = and_parts (some_below g (type_in g ctx e) b) (fits g ctx rest more) h

pub record LamFits (g : Parts) (ctx : List (List ℕ)) (e : Expr) (rest : Args) (ps : List ℕ) (r : ℕ) (more : List Arg) : Type 0 where
  pub room : length ctx < most_rows
  pub body : some_below g (type_in g (ctx ++ ps ∷ []) e) r ≡ true
  pub others : fits g ctx rest more ≡ true

pub lam_fits : (g : Parts) (ctx : List (List ℕ)) (e : Expr) (rest : Args) (ps : List ℕ) (r : ℕ) (more : List Arg) → fits g ctx (lam e rest) (Fun ps r ∷ more) ≡ true → LamFits g ctx e rest ps r more
unfolding fits
lam_fits g ctx e rest ps r more h =
    let a = and_parts (nat_lt (length ctx) most_rows && some_below g (type_in g (ctx ++ ps ∷ []) e) r) (fits g ctx rest more) h in
    let b = and_parts (nat_lt (length ctx) most_rows) (some_below g (type_in g (ctx ++ ps ∷ []) e) r) a.0 in
    record { room = ltb-true (length ctx) most_rows b.0; body = b.1; others = a.1 }

pub no_fit-plain_none : (g : Parts) (ctx : List (List ℕ)) (e : Expr) (rest : Args) → fits g ctx (plain e rest) [] ≡ true → ⊥
unfolding fits
no_fit-plain_none g ctx e rest h = false≢true h

pub no_fit-lam_none : (g : Parts) (ctx : List (List ℕ)) (e : Expr) (rest : Args) → fits g ctx (lam e rest) [] ≡ true → ⊥
unfolding fits
no_fit-lam_none g ctx e rest h = false≢true h

pub no_fit-none_some : (g : Parts) (ctx : List (List ℕ)) (w : Arg) (more : List Arg) → fits g ctx no_args (w ∷ more) ≡ true → ⊥
unfolding fits
no_fit-none_some g ctx (Plain b) more h = false≢true h
no_fit-none_some g ctx (Fun ps r) more h = false≢true h

pub no_fit-plain_fun : (g : Parts) (ctx : List (List ℕ)) (e : Expr) (rest : Args) (ps : List ℕ) (r : ℕ) (more : List Arg) → fits g ctx (plain e rest) (Fun ps r ∷ more) ≡ true → ⊥
unfolding fits
no_fit-plain_fun g ctx e rest ps r more h = false≢true h

pub no_fit-lam_plain : (g : Parts) (ctx : List (List ℕ)) (e : Expr) (rest : Args) (b : ℕ) (more : List Arg) → fits g ctx (lam e rest) (Plain b ∷ more) ≡ true → ⊥
unfolding fits
no_fit-lam_plain g ctx e rest b more h = false≢true h

-- the size of contexts
joined_le : (ctx : List (List ℕ)) → AreShortRows ctx → length (joined ctx) ≤ length ctx * 2 ^ 64
unfolding joined
joined_le [] h = omega arith
joined_le (row ∷ more) h =
    let one = h.0 in
    let rest = joined_le more h.1 in
    let sum = length-append row (joined more) in
    omega (arith, one, rest, sum)

pub few_variables : (ctx : List (List ℕ)) → IsContext ctx → length (joined ctx) ≤ 3 * 2 ^ 64
few_variables ctx c = let few = c.few in let all = joined_le ctx c.short in omega (arith, few, all)

short_more : (ctx : List (List ℕ)) (ps : List ℕ) → AreShortRows ctx → length ps < 2 ^ 64 → AreShortRows (ctx ++ ps ∷ [])
short_more [] ps h k = (k, tt)
short_more (row ∷ more) ps h k = (h.0, short_more more ps h.1 k)

pub context_more : (ctx : List (List ℕ)) (ps : List ℕ) → IsContext ctx → length ctx < most_rows → length ps < 2 ^ 64 → IsContext (ctx ++ ps ∷ [])
context_more ctx ps c room k = record { few = let sum = length-append ctx (ps ∷ []) in omega (arith, sum, room); short = short_more ctx ps c.short k }

pub few_parameters : (ws : List Arg) → AreShort ws → parameters ws < 2 ^ 64
few_parameters [] h = omega arith
few_parameters (Plain b ∷ more) h = omega arith
few_parameters (Fun ps r ∷ more) h = h.0

below_length : (xs : List ℕ) (n : ℕ) → slice_get xs n ≢ None → n < length xs
below_length [] n h = absurd (h refl)
below_length (x ∷ xs) zero h = omega arith
below_length (x ∷ xs) (suc n) h = let k = below_length xs n h in omega (arith, k)

-- a typed variable has a small number
pub few_typed : (g : Parts) (ctx : List (List ℕ)) (n : ℕ) → IsContext ctx → type_in g ctx (var n) ≢ None → n < 10 ^ 64
unfolding type_in
few_typed g ctx n c h = let a = few_variables ctx c in let b = below_length (joined ctx) n h in omega (arith, a, b)

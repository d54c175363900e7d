-- The rows of a part, by its head and its arguments.
use Rattle.std.proofs.Common.{◌≡◌, ℕ, ◌+◌, ◌*◌, ◌<◌, ◌≤◌, ◌^◌, Bool, true, false, ◌&&◌, nat_lt, nat_le, List, [], ◌∷◌, ◌++◌, length, get_or, drop, slice_get, Option, Some, None, refl, sym, ap, subst, ◌∙◌, arith, append_assoc, append-nil, length-append}
use Rattle.std.proofs.Common.{inl, inr}
use Rattle.std.proofs.lemmas.Bool.{and_parts, false≢true, cases_lt, leb-true, ltb-true}
use Rattle.std.proofs.lemmas.List.{drop_more, drop_all}
use Rattle.std.proofs.lemmas.Option.{slice_get_within}
use Rattle.std.proofs.Math.Seq.{set-append_seam}
use Rattle.std.proofs.Math.ListN.{set}
use Rattle.terms.specs.Expr.{Expr, var, head, Args, no_args, plain, lam}
use Rattle.terms.specs.View.{expr, arg, args_view}
use Rattle.terms.specs.Typing.{most_rows, joined, type_in, fits, some_below, result_if, args_wanted}
use Rattle.terms.specs.Weights.{weight_in, args_weight, step_in, variable_weight, binders_weight, decl_weight}
use Rattle.terms.specs.Place.{shallow, fits_place, weigh, goal_place, IsInhabitant, total_of}
use Rattle.terms.specs.declared.parts.Arg.{Arg}
use Rattle.terms.specs.declared.parts.Arg.TheVariants.{Plain, Fun}
use Rattle.terms.specs.declared.parts.Decl.{Decl}
use Rattle.terms.specs.declared.parts.Parts.{Parts}
use Rattle.terms.specs.declared.term.Term.{Term}
use Rattle.terms.specs.declared.term.TermArg.{TermArg}
use Rattle.terms.specs.declared.term.Term as code_term
use Rattle.terms.specs.declared.term.TermArg as code
use Rattle.terms.proofs.Views.{expr-Head, arg-Plain, arg-Lam}
use Rattle.terms.specs.Faults.{IsValid}
use Rattle.terms.proofs.Weighing.{binders_weight-most}
use Rattle.checker.specs.declared.row.Row.{Row}
use Rattle.checker.specs.Rows.{IsItem, rows_of, args_rows}
use Rattle.checker.proofs.TypeSets.{joined_more}
use Rattle.certificates.specs.Readable.{IsReadable, AreReadable, IsRated}

-- a variable
pub variable-row : (g : Parts) (ctx : List (List ℕ)) (n t w : ℕ) → slice_get (joined ctx) n ≡ Some t → w ≡ variable_weight g → record { code = 2 * n; result = t; weight = w } ∷ [] ≡ rows_of g ctx (var n)
unfolding rows_of type_in weight_in
variable-row g ctx n t w at is = let row : ℕ → List Row = λ x. record { code = 2 * n; result = t; weight = x } ∷ [] in ap row is ∙ rw at refl

pub variable-rated : (g : Parts) (ctx : List (List ℕ)) (n t w c : ℕ) → slice_get (joined ctx) n ≡ Some t → w ≡ variable_weight g → IsRated g ctx (var n) (record { code = c; result = t; weight = w })
unfolding type_in weight_in
variable-rated g ctx n t w c at is = record { typed = at; weighs = is }

pub variable-small : (g : Parts) (ctx : List (List ℕ)) (n : ℕ) → IsReadable g ctx (var n) → n < 2 ^ 31
unfolding type_in
variable-small g ctx n r = let l : n < length (joined ctx) = slice_get_within (joined ctx) n r.result r.typed in omega (arith, l, r.light)

pub variable-there : (g : Parts) (ctx : List (List ℕ)) (n : ℕ) → IsReadable g ctx (var n) → slice_get (joined ctx) n ≡ None → ⊥
unfolding type_in
variable-there g ctx n r none = absurd (some_none (slice_get (joined ctx) n) r.result r.typed none)
  where
    some_none : (o : Option ℕ) (t : ℕ) → o ≡ Some t → o ≡ None → ⊥
    some_none o t e f = absurd cc

-- a declaration
fits_if : (b : Bool) (t r : ℕ) (d : Decl) → result_if (Some d) b ≡ Some r → b ≡ true
fits_if true t r d e = refl
fits_if false t r d e = absurd cc

pub head-there : (g : Parts) (ctx : List (List ℕ)) (d : ℕ) (xs : Args) → IsReadable g ctx (head d xs) → slice_get g.decls d ≡ None → ⊥
unfolding type_in
head-there g ctx d xs r none = let t : result_if None (fits g ctx xs []) ≡ Some r.result = subst (λ o. result_if o (fits g ctx xs (args_wanted o)) ≡ Some r.result) none r.typed in absurd cc

pub head-args : (g : Parts) (ctx : List (List ℕ)) (d : ℕ) (xs : Args) (decl : Decl) → slice_get g.decls d ≡ Some decl → IsReadable g ctx (head d xs) → AreReadable g ctx xs decl.args
unfolding type_in weight_in
head-args g ctx d xs decl at r =
    let light : length (joined ctx) + (decl.weight + args_weight g ctx xs decl.args) < 2 ^ 31 = subst (λ o. length (joined ctx) + (decl_weight o + args_weight g ctx xs (args_wanted o)) < 2 ^ 31) at r.light in
    record {
      fit = fits_if (fits g ctx xs decl.args) r.result r.result decl (subst (λ o. result_if o (fits g ctx xs (args_wanted o)) ≡ Some r.result) at r.typed);
      light = omega (arith, light);
    }

pub head-small : (g : Parts) (ctx : List (List ℕ)) (d : ℕ) (xs : Args) (decl : Decl) → slice_get g.decls d ≡ Some decl → IsReadable g ctx (head d xs) → decl.weight + args_weight g ctx xs decl.args < 2 ^ 31
unfolding weight_in
head-small g ctx d xs decl at r =
    let light : length (joined ctx) + (decl.weight + args_weight g ctx xs decl.args) < 2 ^ 31 = subst (λ o. length (joined ctx) + (decl_weight o + args_weight g ctx xs (args_wanted o)) < 2 ^ 31) at r.light in
    omega (arith, light)

pub head-rated : (g : Parts) (ctx : List (List ℕ)) (d : ℕ) (xs : Args) (decl : Decl) (row : Row) → slice_get g.decls d ≡ Some decl → AreReadable g ctx xs decl.args → row.result ≡ decl.result → row.weight ≡ decl.weight + args_weight g ctx xs decl.args → IsRated g ctx (head d xs) row
unfolding type_in weight_in
head-rated g ctx d xs decl row at r result weight = record {
  typed = rw (at, r.fit, result) refl;
  weighs = rw at weight;
}

pub head-rows : (g : Parts) (ctx : List (List ℕ)) (d : ℕ) (xs : Args) (decl : Decl) → slice_get g.decls d ≡ Some decl → AreReadable g ctx xs decl.args → rows_of g ctx (head d xs) ≡ record { code = 2 * d + 1; result = decl.result; weight = decl.weight + args_weight g ctx xs decl.args } ∷ args_rows g ctx xs decl.args
unfolding rows_of type_in weight_in
head-rows g ctx d xs decl at r = rw (at, r.fit) refl

-- the row of a head is told behind those of its arguments
pub told : (old : List Row) (a b : Row) (ys : List Row) → set ((old ++ a ∷ []) ++ ys) (length old) b ≡ old ++ b ∷ ys
told old a b ys = ap (λ l. set l (length old) b) (append_assoc old (a ∷ []) ys) ∙ set-append_seam old a ys b

pub head-final : (g : Parts) (ctx : List (List ℕ)) (d : ℕ) (xs : Args) (decl : Decl) (old pushed all final : List Row) (place more : ℕ) (a : Row) (ws : List Arg) → slice_get g.decls d ≡ Some decl → AreReadable g ctx xs decl.args → ws ≡ decl.args → more ≡ args_weight g ctx xs ws
    → pushed ≡ old ++ a ∷ [] → all ≡ pushed ++ args_rows g ctx xs ws → place ≡ length old → final ≡ set all place (record { code = 2 * d + 1; result = decl.result; weight = decl.weight + more }) → final ≡ old ++ rows_of g ctx (head d xs)
head-final g ctx d xs decl old pushed all final place more a ws at r wanted weight first then where_ last =
    let b : ℕ → Row = λ w. record { code = 2 * d + 1; result = decl.result; weight = decl.weight + w } in
    let ys = args_rows g ctx xs decl.args in
    let whole : all ≡ (old ++ a ∷ []) ++ ys = then ∙ ap (λ l. l ++ args_rows g ctx xs ws) first ∙ ap (λ w. (old ++ a ∷ []) ++ args_rows g ctx xs w) wanted in
    let w : more ≡ args_weight g ctx xs decl.args = weight ∙ ap (args_weight g ctx xs) wanted in
    last
    ∙ ap (λ l. set l place (b more)) whole
    ∙ ap (λ p. set ((old ++ a ∷ []) ++ ys) p (b more)) where_
    ∙ told old a (b more) ys
    ∙ ap (λ m. old ++ b m ∷ ys) w
    ∙ ap (λ l. old ++ l) (sym (head-rows g ctx d xs decl at r))

-- one argument before others
pub record AreSplit (g : Parts) (ctx : List (List ℕ)) (one all rest : Args) (a : Arg) (more : List Arg) : Type 0 where
  pub first : AreReadable g ctx one (a ∷ [])
  pub others : AreReadable g ctx rest more
  pub weight : args_weight g ctx all (a ∷ more) ≡ args_weight g ctx one (a ∷ []) + args_weight g ctx rest more
  pub rows : args_rows g ctx all (a ∷ more) ≡ args_rows g ctx one (a ∷ []) ++ args_rows g ctx rest more

split_plain : (g : Parts) (ctx : List (List ℕ)) (e : Expr) (rest : Args) (b : ℕ) (more : List Arg) → AreReadable g ctx (plain e rest) (Plain b ∷ more) → AreSplit g ctx (plain e no_args) (plain e rest) rest (Plain b) more
unfolding fits args_weight args_rows
split_plain g ctx e rest b more r =
    let fit = and_parts (some_below g (type_in g ctx e) b) (fits g ctx rest more) r.fit in
    let light = r.light in
    record {
      first = record { fit = rw fit.0 refl; light = omega (arith, light) };
      others = record { fit = fit.1; light = omega (arith, light) };
      weight = omega arith;
      rows = ap (λ t. t ++ args_rows g ctx rest more) (sym (append-nil (rows_of g ctx e)));
    }

split_lam : (g : Parts) (ctx : List (List ℕ)) (e : Expr) (rest : Args) (ps : List ℕ) (b : ℕ) (more : List Arg) → AreReadable g ctx (lam e rest) (Fun ps b ∷ more) → AreSplit g ctx (lam e no_args) (lam e rest) rest (Fun ps b) more
unfolding fits args_weight args_rows
split_lam g ctx e rest ps b more r =
    let fit = and_parts (nat_lt (length ctx) most_rows && some_below g (type_in g (ctx ++ ps ∷ []) e) b) (fits g ctx rest more) r.fit in
    let light = r.light in
    record {
      first = record { fit = rw fit.0 refl; light = omega (arith, light) };
      others = record { fit = fit.1; light = omega (arith, light) };
      weight = omega arith;
      rows = ap (λ t. t ++ args_rows g ctx rest more) (sym (append-nil (rows_of g (ctx ++ ps ∷ []) e)));
    }

-- an argument of the code
abbrev Splits : Parts → List (List ℕ) → Args → Arg → List Arg → Args → Args → Type 0
Splits g ctx rest a more one all = AreReadable g ctx all (a ∷ more) → AreSplit g ctx one all rest a more

split_arg : (g : Parts) (ctx : List (List ℕ)) (x : TermArg) (rest : Args) (a : Arg) (more : List Arg) → Splits g ctx rest a more (arg x no_args) (arg x rest)
unfolding fits
split_arg g ctx (code.Plain t) rest (Plain b) more = rw (arg-Plain t no_args, arg-Plain t rest) (split_plain g ctx (expr t) rest b more)
split_arg g ctx (code.Plain t) rest (Fun ps b) more = rw (arg-Plain t rest) (λ r. absurd (false≢true r.fit))
split_arg g ctx (code.Lam t) rest (Plain b) more = rw (arg-Lam t rest) (λ r. absurd (false≢true r.fit))
split_arg g ctx (code.Lam t) rest (Fun ps b) more = rw (arg-Lam t no_args, arg-Lam t rest) (split_lam g ctx (expr t) rest ps b more)

none_wanted : (g : Parts) (ctx : List (List ℕ)) (x : TermArg) (rest : Args) → fits g ctx (arg x rest) [] ≡ true → ⊥
unfolding fits
none_wanted g ctx (code.Plain t) rest = rw (arg-Plain t rest) (λ f. false≢true f)
none_wanted g ctx (code.Lam t) rest = rw (arg-Lam t rest) (λ f. false≢true f)

view_at : (xs : List TermArg) (i : ℕ) (x : TermArg) → i < length xs → x ≡ get_or xs i x → args_view (drop i xs) ≡ arg x (args_view (drop (i + 1) xs))
view_at xs i x l e = rw (drop_more xs i x l, ← e) refl

-- the arguments from a place on fit as many wanted ones
pub wanted-there : (g : Parts) (ctx : List (List ℕ)) (xs : List TermArg) (wanted : List Arg) (i : ℕ) (x : TermArg) → i < length xs → x ≡ get_or xs i x → AreReadable g ctx (args_view (drop i xs)) (drop i wanted) → i < length wanted
wanted-there g ctx xs wanted i x l e r = elim (cases_lt i (length wanted)) [
  | inl low ↦ low
  | inr past ↦ absurd (none_wanted g ctx x (args_view (drop (i + 1) xs)) (subst (λ ws. fits g ctx (arg x (args_view (drop (i + 1) xs))) ws ≡ true) (drop_all i wanted past) (subst (λ v. fits g ctx v (drop i wanted) ≡ true) (view_at xs i x l e) r.fit)))
]

-- the argument at a place, and those behind it
pub split-at : (g : Parts) (ctx : List (List ℕ)) (xs : List TermArg) (wanted : List Arg) (i : ℕ) (x : TermArg) (a : Arg) → i < length xs → x ≡ get_or xs i x → i < length wanted → a ≡ get_or wanted i a → AreReadable g ctx (args_view (drop i xs)) (drop i wanted)
    → AreSplit g ctx (args_view (x ∷ [])) (args_view (drop i xs)) (args_view (drop (i + 1) xs)) a (drop (i + 1) wanted)
split-at g ctx xs wanted i x a l e l' e' r =
    let view = view_at xs i x l e in
    let more : drop i wanted ≡ a ∷ drop (i + 1) wanted = drop_more wanted i a l' ∙ ap (λ z. z ∷ drop (i + 1) wanted) (sym e') in
    let r' : AreReadable g ctx (args_view (drop i xs)) (a ∷ drop (i + 1) wanted) = subst (λ ws. AreReadable g ctx (args_view (drop i xs)) ws) more r in
    let P : Args → Type 0 = λ v. AreReadable g ctx v (a ∷ drop (i + 1) wanted) → AreSplit g ctx (args_view (x ∷ [])) v (args_view (drop (i + 1) xs)) a (drop (i + 1) wanted) in
    subst P (sym view) (split_arg g ctx x (args_view (drop (i + 1) xs)) a (drop (i + 1) wanted)) r'

-- the weight and the rows of the arguments from a place on, the one there apart
pub weight-at : (g : Parts) (ctx : List (List ℕ)) (xs : List TermArg) (wanted : List Arg) (i : ℕ) (x : TermArg) (a : Arg) → i < length wanted → a ≡ get_or wanted i a → AreSplit g ctx (args_view (x ∷ [])) (args_view (drop i xs)) (args_view (drop (i + 1) xs)) a (drop (i + 1) wanted)
    → args_weight g ctx (args_view (drop i xs)) (drop i wanted) ≡ args_weight g ctx (args_view (x ∷ [])) (a ∷ []) + args_weight g ctx (args_view (drop (i + 1) xs)) (drop (i + 1) wanted)
weight-at g ctx xs wanted i x a l e s = ap (args_weight g ctx (args_view (drop i xs))) (drop_more wanted i a l ∙ ap (λ z. z ∷ drop (i + 1) wanted) (sym e)) ∙ s.weight

pub rows-at : (g : Parts) (ctx : List (List ℕ)) (xs : List TermArg) (wanted : List Arg) (i : ℕ) (x : TermArg) (a : Arg) → i < length wanted → a ≡ get_or wanted i a → AreSplit g ctx (args_view (x ∷ [])) (args_view (drop i xs)) (args_view (drop (i + 1) xs)) a (drop (i + 1) wanted)
    → args_rows g ctx (args_view (drop i xs)) (drop i wanted) ≡ args_rows g ctx (args_view (x ∷ [])) (a ∷ []) ++ args_rows g ctx (args_view (drop (i + 1) xs)) (drop (i + 1) wanted)
rows-at g ctx xs wanted i x a l e s = ap (args_rows g ctx (args_view (drop i xs))) (drop_more wanted i a l ∙ ap (λ z. z ∷ drop (i + 1) wanted) (sym e)) ∙ s.rows

-- behind the last argument there is neither weight nor row
pub weight-end : (g : Parts) (ctx : List (List ℕ)) (xs : List TermArg) (wanted : List Arg) (i : ℕ) → length xs < i + 1 → args_weight g ctx (args_view (drop i xs)) (drop i wanted) ≡ 0
unfolding args_weight
weight-end g ctx xs wanted i l = ap (λ us. args_weight g ctx (args_view us) (drop i wanted)) (drop_all i xs (omega (arith, l)))

pub rows-end : (g : Parts) (ctx : List (List ℕ)) (xs : List TermArg) (wanted : List Arg) (i : ℕ) → length xs < i + 1 → args_rows g ctx (args_view (drop i xs)) (drop i wanted) ≡ []
unfolding args_rows
rows-end g ctx xs wanted i l = ap (λ us. args_rows g ctx (args_view us) (drop i wanted)) (drop_all i xs (omega (arith, l)))

-- a plain argument
typed_below : (g : Parts) (o : Option ℕ) (b : ℕ) → some_below g o b ≡ true → (t : ℕ) × (o ≡ Some t)
typed_below g None b h = absurd (false≢true h)
typed_below g (Some t) b h = (t, refl)

pub plain-part : (g : Parts) (ctx : List (List ℕ)) (e : Expr) (a : Arg) (b : ℕ) → a ≡ Plain b → AreReadable g ctx (plain e no_args) (a ∷ []) → IsReadable g ctx e
unfolding fits args_weight
plain-part g ctx e a b is r =
    let r' : AreReadable g ctx (plain e no_args) (Plain b ∷ []) = subst (λ z. AreReadable g ctx (plain e no_args) (z ∷ [])) is r in
    let light = r'.light in
    let typed = typed_below g (type_in g ctx e) b (and_parts (some_below g (type_in g ctx e) b) true r'.fit).0 in
    record { result = typed.0; typed = typed.1; light = omega (arith, light) }

pub plain-weight : (g : Parts) (ctx : List (List ℕ)) (e : Expr) (a : Arg) (b : ℕ) (row : Row) (s : ℕ) → a ≡ Plain b → IsRated g ctx e row → s ≡ step_in g (Some row.result) b → row.weight + s ≡ args_weight g ctx (plain e no_args) (a ∷ [])
unfolding args_weight
plain-weight g ctx e a b row s is r step =
    let typed : step_in g (type_in g ctx e) b ≡ s = ap (λ o. step_in g o b) r.typed ∙ sym step in
    let weighs = r.weighs in
    let here : row.weight + s ≡ args_weight g ctx (plain e no_args) (Plain b ∷ []) = omega (arith, typed, weighs) in
    here ∙ ap (λ z. args_weight g ctx (plain e no_args) (z ∷ [])) (sym is)

pub plain-rows : (g : Parts) (ctx : List (List ℕ)) (e : Expr) (a : Arg) (b : ℕ) → a ≡ Plain b → rows_of g ctx e ≡ args_rows g ctx (plain e no_args) (a ∷ [])
unfolding args_rows
plain-rows g ctx e a b is = sym (append-nil (rows_of g ctx e)) ∙ ap (λ z. args_rows g ctx (plain e no_args) (z ∷ [])) (sym is)

pub small : (g : Parts) (ctx : List (List ℕ)) (xs : Args) (wanted : List Arg) (w : ℕ) → AreReadable g ctx xs wanted → w ≡ args_weight g ctx xs wanted → w < 2 ^ 31
small g ctx xs wanted w r e = let light = r.light in omega (arith, light, e)

pub plain-apart : (g : Parts) (ctx : List (List ℕ)) (e : Expr) (a : Arg) (ps : List ℕ) (b : ℕ) → a ≡ Fun ps b → AreReadable g ctx (plain e no_args) (a ∷ []) → ⊥
unfolding fits
plain-apart g ctx e a ps b is r = false≢true (subst (λ z. fits g ctx (plain e no_args) (z ∷ []) ≡ true) is r.fit)

-- a term of the code over its arguments
pub head-part : (g : Parts) (ctx : List (List ℕ)) (t : Term) (d : ℕ) (xs ws : List TermArg) → t ≡ code_term.Head d xs → ws ≡ xs → IsReadable g ctx (expr t) → IsReadable g ctx (head d (args_view ws))
head-part g ctx t d xs ws is same r =
    let r' : IsReadable g ctx (head d (args_view xs)) = subst (λ e. IsReadable g ctx e) (ap expr is ∙ expr-Head d xs) r in
    subst (λ l. IsReadable g ctx (head d (args_view l))) (sym same) r'

-- a lambda
pub lam-part : (g : Parts) → IsValid g → (ctx : List (List ℕ)) (e : Expr) (a : Arg) (ps : List ℕ) (b : ℕ) → a ≡ Fun ps b → AreReadable g ctx (lam e no_args) (a ∷ []) → IsReadable g (ctx ++ ps ∷ []) e
unfolding fits args_weight
lam-part g valid ctx e a ps b is r =
    let r' : AreReadable g ctx (lam e no_args) (Fun ps b ∷ []) = subst (λ z. AreReadable g ctx (lam e no_args) (z ∷ [])) is r in
    let light = r'.light in
    let inner = ctx ++ ps ∷ [] in
    let both = and_parts (nat_lt (length ctx) most_rows && some_below g (type_in g inner e) b) true r'.fit in
    let typed = typed_below g (type_in g inner e) b (and_parts (nat_lt (length ctx) most_rows) (some_below g (type_in g inner e) b) both.0).1 in
    let long : length (joined inner) ≡ length (joined ctx) + length ps = ap length (joined_more ctx ps) ∙ length-append (joined ctx) ps in
    record { result = typed.0; typed = typed.1; light = omega (arith, light, long, binders_weight-most g valid (length ps)) }

pub lam-room : (g : Parts) (ctx : List (List ℕ)) (e : Expr) (a : Arg) (ps : List ℕ) (b : ℕ) → a ≡ Fun ps b → AreReadable g ctx (lam e no_args) (a ∷ []) → length ctx < 3
unfolding fits
lam-room g ctx e a ps b is r =
    let r' : AreReadable g ctx (lam e no_args) (Fun ps b ∷ []) = subst (λ z. AreReadable g ctx (lam e no_args) (z ∷ [])) is r in
    let inner = ctx ++ ps ∷ [] in
    let both = and_parts (nat_lt (length ctx) most_rows && some_below g (type_in g inner e) b) true r'.fit in
    ltb-true (length ctx) 3 (and_parts (nat_lt (length ctx) most_rows) (some_below g (type_in g inner e) b) both.0).0

pub lam-weight : (g : Parts) (ctx : List (List ℕ)) (e : Expr) (a : Arg) (ps : List ℕ) (b : ℕ) (row : Row) (n s : ℕ) → a ≡ Fun ps b → IsRated g (ctx ++ ps ∷ []) e row → n ≡ binders_weight g (length ps) → s ≡ step_in g (Some row.result) b → row.weight + n + s ≡ args_weight g ctx (lam e no_args) (a ∷ [])
unfolding args_weight
lam-weight g ctx e a ps b row n s is r many step =
    let typed : step_in g (type_in g (ctx ++ ps ∷ []) e) b ≡ s = ap (λ o. step_in g o b) r.typed ∙ sym step in
    let weighs = r.weighs in
    let here : row.weight + n + s ≡ args_weight g ctx (lam e no_args) (Fun ps b ∷ []) = omega (arith, typed, weighs, many) in
    here ∙ ap (λ z. args_weight g ctx (lam e no_args) (z ∷ [])) (sym is)

pub lam-rows : (g : Parts) (ctx : List (List ℕ)) (e : Expr) (a : Arg) (ps : List ℕ) (b : ℕ) → a ≡ Fun ps b → rows_of g (ctx ++ ps ∷ []) e ≡ args_rows g ctx (lam e no_args) (a ∷ [])
unfolding args_rows
lam-rows g ctx e a ps b is = sym (append-nil (rows_of g (ctx ++ ps ∷ []) e)) ∙ ap (λ z. args_rows g ctx (lam e no_args) (z ∷ [])) (sym is)

pub lam-binders : (g : Parts) (ctx : List (List ℕ)) (e : Expr) (a : Arg) (ps : List ℕ) (b : ℕ) → a ≡ Fun ps b → AreReadable g ctx (lam e no_args) (a ∷ []) → binders_weight g (length ps) < 2 ^ 31
unfolding args_weight
lam-binders g ctx e a ps b is r =
    let r' : AreReadable g ctx (lam e no_args) (Fun ps b ∷ []) = subst (λ z. AreReadable g ctx (lam e no_args) (z ∷ [])) is r in
    let light = r'.light in
    omega (arith, light)

pub lam-apart : (g : Parts) (ctx : List (List ℕ)) (e : Expr) (a : Arg) (b : ℕ) → a ≡ Plain b → AreReadable g ctx (lam e no_args) (a ∷ []) → ⊥
unfolding fits
lam-apart g ctx e a b is r = false≢true (subst (λ z. fits g ctx (lam e no_args) (z ∷ []) ≡ true) is r.fit)

-- an argument of the code, by its form
pub arg-plain : (x : TermArg) (t : Term) → x ≡ code.Plain t → args_view (x ∷ []) ≡ plain (expr t) no_args
arg-plain x t is = ap (λ y. args_view (y ∷ [])) is ∙ arg-Plain t no_args

pub arg-lam : (x : TermArg) (t : Term) → x ≡ code.Lam t → args_view (x ∷ []) ≡ lam (expr t) no_args
arg-lam x t is = ap (λ y. args_view (y ∷ [])) is ∙ arg-Lam t no_args

-- an inhabitant can be read from its first row on
pub whole-readable : (g : Parts) (e : Expr) → g.limit < 2 ^ 31 → IsInhabitant g e → IsReadable g [] e
unfolding fits_place weigh joined
whole-readable g e low h =
    let place = and_parts (fits_place g (goal_place g) e) (nat_le (total_of g e) g.limit) h in
    let fit = and_parts (some_below g (type_in g [] e) g.goal) (shallow g.depth e) place.0 in
    let typed = typed_below g (type_in g [] e) g.goal fit.0 in
    let light : total_of g e ≤ g.limit = leb-true (total_of g e) g.limit place.1 in
    record { result = typed.0; typed = typed.1; light = no_row (weight_in g [] e) (step_in g (type_in g [] e) g.goal) g.limit light low }
  where
    no_row : (w s l : ℕ) → w + s ≤ l → l < 2 ^ 31 → length (joined []) + w < 2 ^ 31
    no_row w s l h low = omega (arith, h, low)

pub item-spelled : (g : Parts) (e : Expr) (list : List Row) → IsInhabitant g e → list ≡ rows_of g [] e → IsItem g list (total_of g e)
item-spelled g e list h is = record { term = e; inhabits = h; spelled = is; weighs = refl }

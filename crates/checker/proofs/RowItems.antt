-- Rows that are read to their end are those of an inhabitant, and the rows of an inhabitant are read so.
use Rattle.std.proofs.Common.{◌≡◌, ℕ, ◌+◌, ◌*◌, ◌≤◌, ◌<◌, Bool, true, false, ◌&&◌, nat_le, nat_lt, List, [], ◌∷◌, ◌++◌, length, slice_get, map, Option, Some, None, refl, sym, ap, subst, ◌∙◌, arith, append-nil}
use Rattle.std.proofs.lemmas.Bool.{and_parts, and_from, false≢true, le-leb, leb-true}
use Rattle.std.proofs.lemmas.List.{map-append}
use Rattle.terms.specs.Expr.{Expr, var, head, Args, no_args, plain, lam}
use Rattle.terms.specs.Typing.{type_in, fits, some_below, result_if, args_wanted}
use Rattle.terms.specs.Weights.{weight_in, args_weight, step_in}
use Rattle.terms.specs.Place.{shallow, args_shallow, fits_place, weigh, goal_place, total_of, IsInhabitant}
use Rattle.terms.specs.Code.{prefix_code, args_code}
use Rattle.terms.specs.declared.parts.Parts.{Parts}
use Rattle.terms.specs.declared.parts.Decl.{Decl}
use Rattle.terms.specs.declared.parts.Arg.{Arg}
use Rattle.terms.specs.declared.parts.Arg.TheVariants.{Plain, Fun}
use Rattle.terms.proofs.Codes.{one_term, below_some}
use Rattle.checker.specs.declared.row.Row.{Row}
use Rattle.checker.specs.Rows.{row_if, rows_of, args_rows, IsItem}
use Rattle.checker.specs.Frames.{closed, row_read, read_rows, goal_frame}
use Rattle.checker.proofs.RowParts.{resume, open_on, no_more, Told, told}
use Rattle.checker.proofs.RowsRead.{ends, args_read}

-- the total that the first row tells
abbrev pub first_total : Parts → Row → ℕ
first_total g r = r.weight + step_in g (Some r.result) g.goal

-- the one argument of the goal's place
record One (g : Parts) (b : ℕ) (xs : Args) : Type 0 where
  term : Expr
  is : xs ≡ plain term no_args
  below : some_below g (type_in g [] term) b ≡ true

one_arg : (g : Parts) (b : ℕ) (xs : Args) → fits g [] xs (Plain b ∷ []) ≡ true → One g b xs
unfolding fits
one_arg g b no_args h = absurd (false≢true h)
one_arg g b (lam e rest) h = absurd (false≢true h)
one_arg g b (plain e rest) h =
    let f = and_parts (some_below g (type_in g [] e) b) (fits g [] rest []) h in
    record { term = e; is = ap (plain e) (no_more g [] rest f.1); below = f.0 }

all_ended : (g : Parts) (w v : ℕ) (more : List Row) → resume g w [] more ≡ Some v → (more ≡ []) × (w ≡ v)
unfolding closed read_rows row_read
all_ended g w v [] h = (refl, cc)
all_ended g w v (r ∷ rs) h = absurd cc

same_sum : (t w a s : ℕ) → t ≡ 0 + (a + s + 0) → t ≡ w → w ≡ a + s
same_sum t w a s p q = omega (arith, p, q)

low_total : (t w l : ℕ) → t ≡ w → t ≤ l → w ≤ l
low_total t w l p q = omega (arith, p, q)

is_item : (g : Parts) (rows : List Row) (total w : ℕ) (e : Expr) (more : List Row) → some_below g (type_in g [] e) g.goal ≡ true → args_shallow g.depth (plain e no_args) ≡ true → more ≡ []
    → rows ≡ args_rows g [] (plain e no_args) (Plain g.goal ∷ []) ++ more → total ≡ 0 + args_weight g [] (plain e no_args) (Plain g.goal ∷ []) → total ≡ w → total ≤ g.limit → IsItem g rows w
unfolding args_shallow args_rows args_weight fits_place weigh
is_item g rows total w e more below flat none spelled weight same low =
    let deep = and_parts (shallow g.depth e) true flat in
    let weighs : w ≡ total_of g e = same_sum total w (weight_in g [] e) (step_in g (type_in g [] e) g.goal) weight same in
    let within : total_of g e ≤ g.limit = subst (λ n. n ≤ g.limit) weighs (low_total total w g.limit same low) in
    record {
      term = e;
      inhabits = and_from (fits_place g (goal_place g) e) (nat_le (total_of g e) g.limit) (and_from (some_below g (type_in g [] e) g.goal) (shallow g.depth e) below deep.0) (le-leb (total_of g e) g.limit within);
      spelled = spelled ∙ ap (λ m. (rows_of g [] e ++ []) ++ m) none ∙ append-nil (rows_of g [] e ++ []) ∙ append-nil (rows_of g [] e);
      weighs = weighs;
    }

pub item-found : (g : Parts) (rows : List Row) (r : Row) (w : ℕ) → read_rows g 0 (goal_frame g (first_total g r) ∷ []) rows ≡ Some w → first_total g r ≤ g.limit → IsItem g rows w
item-found g rows r w h low =
    let t : Told g [] g.depth (Plain g.goal ∷ []) 0 (first_total g r) [] rows w = told g (length rows) [] g.depth (Plain g.goal ∷ []) 0 (first_total g r) [] rows w (omega arith) (open_on g [] g.depth (Plain g.goal) [] 0 (first_total g r) [] rows ∙ h) in
    let o : One g g.goal t.args = one_arg g g.goal t.args t.fit in
    let end = all_ended g (first_total g r) w t.more t.after in
    is_item g rows (first_total g r) w o.term t.more o.below (subst (λ xs. args_shallow g.depth xs ≡ true) o.is t.flat) end.0
    (t.spelled ∙ ap (λ xs. args_rows g [] xs (Plain g.goal ∷ []) ++ t.more) o.is) (t.weight ∙ ap (λ xs. 0 + args_weight g [] xs (Plain g.goal ∷ [])) o.is) end.1 low

-- the first row of a part that has a type
record First (g : Parts) (ctx : List (List ℕ)) (e : Expr) (t : ℕ) : Type 0 where
  code : ℕ
  more : List Row
  is : rows_of g ctx e ≡ record { code = code; result = t; weight = weight_in g ctx e } ∷ more

first_row : (g : Parts) (ctx : List (List ℕ)) (e : Expr) (t : ℕ) → type_in g ctx e ≡ Some t → First g ctx e t
unfolding rows_of
first_row g ctx (var n) t is = record { code = 2 * n; more = []; is = ap (λ o. row_if (2 * n) o (weight_in g ctx (var n))) is }
first_row g ctx (head d xs) t is = record { code = 2 * d + 1; more = args_rows g ctx xs (args_wanted (slice_get g.decls d)); is = ap (λ o. row_if (2 * d + 1) o (weight_in g ctx (head d xs)) ++ args_rows g ctx xs (args_wanted (slice_get g.decls d))) is }

record Typed (o : Option ℕ) : Type 0 where
  type : ℕ
  is : o ≡ Some type

typed : (g : Parts) (o : Option ℕ) (b : ℕ) → some_below g o b ≡ true → Typed o
typed g None b h = absurd (false≢true h)
typed g (Some t) b h = record { type = t; is = refl }

head_of_rows : (x r : Row) (rows more : List Row) → rows ≡ x ∷ more → slice_get rows 0 ≡ Some r → x ≡ r
head_of_rows x r rows more e h = let s : Some x ≡ Some r = sym (ap (λ xs. slice_get xs 0) e) ∙ h in cc

record Inhabits (g : Parts) (e : Expr) : Type 0 where
  below : some_below g (type_in g [] e) g.goal ≡ true
  deep : shallow g.depth e ≡ true
  low : total_of g e ≤ g.limit

inhabits : (g : Parts) (e : Expr) → IsInhabitant g e → Inhabits g e
unfolding fits_place
inhabits g e is =
    let a = and_parts (fits_place g (goal_place g) e) (nat_le (total_of g e) g.limit) is in
    let b = and_parts (some_below g (type_in g [] e) g.goal) (shallow g.depth e) a.0 in
    record { below = b.0; deep = b.1; low = leb-true (total_of g e) g.limit a.1 }

first_weighs : (g : Parts) (rows : List Row) (r : Row) (e : Expr) → IsInhabitant g e → rows ≡ rows_of g [] e → slice_get rows 0 ≡ Some r → total_of g e ≡ first_total g r
unfolding weigh
first_weighs g rows r e is spelled first =
    let t : Typed (type_in g [] e) = typed g (type_in g [] e) g.goal (inhabits g e is).below in
    let f : First g [] e t.type = first_row g [] e t.type t.is in
    let same = head_of_rows (record { code = f.code; result = t.type; weight = weight_in g [] e }) r rows f.more (spelled ∙ f.is) first in
    ap (λ o. weight_in g [] e + step_in g o g.goal) t.is ∙ ap (first_total g) same

reads : (g : Parts) (e : Expr) (total : ℕ) → IsInhabitant g e → total_of g e ≡ total → read_rows g 0 (goal_frame g total ∷ []) (rows_of g [] e) ≡ Some total
unfolding fits args_shallow args_weight args_rows weigh closed read_rows
reads g e total is same =
    let i : Inhabits g e = inhabits g e is in
    let fit : fits g [] (plain e no_args) (Plain g.goal ∷ []) ≡ true = and_from (some_below g (type_in g [] e) g.goal) true i.below refl in
    let flat : args_shallow g.depth (plain e no_args) ≡ true = and_from (shallow g.depth e) true i.deep refl in
    let weight : args_weight g [] (plain e no_args) (Plain g.goal ∷ []) ≡ total = (let z : total_of g e + 0 ≡ total_of g e = omega arith in z) ∙ same in
    let low : 0 + args_weight g [] (plain e no_args) (Plain g.goal ∷ []) ≤ g.limit = omega (arith, weight, same, i.low) in
    let sum : 0 + args_weight g [] (plain e no_args) (Plain g.goal ∷ []) ≡ total = omega (arith, weight) in
    sym (ap (λ xs. read_rows g 0 (goal_frame g total ∷ []) xs) (append-nil (rows_of g [] e ++ []) ∙ append-nil (rows_of g [] e)))
    ∙ sym (open_on g [] g.depth (Plain g.goal) [] 0 total [] ((rows_of g [] e ++ []) ++ []))
    ∙ args_read g (plain e no_args) [] g.depth (Plain g.goal ∷ []) 0 total [] [] fit flat low
    ∙ ends g [] g.depth (0 + args_weight g [] (plain e no_args) (Plain g.goal ∷ [])) total [] [] sum
    ∙ ap (λ n. Some n) sum

pub item-none : (g : Parts) (rows : List Row) (w : ℕ) → slice_get rows 0 ≡ None → IsItem g rows w → ⊥
item-none g rows w none item =
    let t : Typed (type_in g [] item.term) = typed g (type_in g [] item.term) g.goal (inhabits g item.term item.inhabits).below in
    let f : First g [] item.term t.type = first_row g [] item.term t.type t.is in
    let s : slice_get rows 0 ≡ Some (record { code = f.code; result = t.type; weight = weight_in g [] item.term }) = ap (λ xs. slice_get xs 0) (item.spelled ∙ f.is) in
    cc

pub item-heavy : (g : Parts) (rows : List Row) (r : Row) (w : ℕ) → slice_get rows 0 ≡ Some r → g.limit < first_total g r → IsItem g rows w → ⊥
item-heavy g rows r w first heavy item =
    let e = first_weighs g rows r item.term item.inhabits item.spelled first in
    let low : total_of g item.term ≤ g.limit = (inhabits g item.term item.inhabits).low in
    omega (arith, subst (λ n. n ≤ g.limit) e low, heavy)

pub item-lost : (g : Parts) (rows : List Row) (r : Row) (w : ℕ) → slice_get rows 0 ≡ Some r → read_rows g 0 (goal_frame g (first_total g r) ∷ []) rows ≡ None → IsItem g rows w → ⊥
item-lost g rows r w first lost item =
    let e = first_weighs g rows r item.term item.inhabits item.spelled first in
    let found : read_rows g 0 (goal_frame g (first_total g r) ∷ []) rows ≡ Some (first_total g r) = ap (read_rows g 0 (goal_frame g (first_total g r) ∷ [])) item.spelled ∙ reads g item.term (first_total g r) item.inhabits e in
    cc

-- the codes of the rows are the prefix code
mutual
  unfolding type_in fits rows_of args_rows

  codes : (g : Parts) (ctx : List (List ℕ)) (e : Expr) (t : ℕ) → type_in g ctx e ≡ Some t → map (λ (r : Row). r.code) (rows_of g ctx e) ≡ prefix_code e
  codes g ctx (var n) t is = ap (λ o. map (λ (r : Row). r.code) (row_if (2 * n) o (weight_in g ctx (var n)))) is
  codes g ctx (head d xs) t is = by_head (slice_get g.decls d) is (λ wanted fit. args_codes g ctx xs wanted fit)
    where
      by_head : (o : Option Decl) → result_if o (fits g ctx xs (args_wanted o)) ≡ Some t → ((wanted : List Arg) → fits g ctx xs wanted ≡ true → map (λ (r : Row). r.code) (args_rows g ctx xs wanted) ≡ args_code xs)
          → map (λ (r : Row). r.code) (row_if (2 * d + 1) (result_if o (fits g ctx xs (args_wanted o))) (weight_in g ctx (head d xs)) ++ args_rows g ctx xs (args_wanted o)) ≡ (2 * d + 1) ∷ args_code xs
      by_head None h args = absurd cc
      by_head (Some k) h args = by_fit (fits g ctx xs k.args) refl h
        where
          by_fit : (b : Bool) → fits g ctx xs k.args ≡ b → result_if (Some k) b ≡ Some t → map (λ (r : Row). r.code) (row_if (2 * d + 1) (result_if (Some k) b) (weight_in g ctx (head d xs)) ++ args_rows g ctx xs k.args) ≡ (2 * d + 1) ∷ args_code xs
          by_fit false fit h' = absurd cc
          by_fit true fit h' = ap (λ cs. (2 * d + 1) ∷ cs) (args k.args fit)

  args_codes : (g : Parts) (ctx : List (List ℕ)) (xs : Args) (wanted : List Arg) → fits g ctx xs wanted ≡ true → map (λ (r : Row). r.code) (args_rows g ctx xs wanted) ≡ args_code xs
  args_codes g ctx no_args [] fit = refl
  args_codes g ctx no_args (Plain b ∷ more) fit = absurd (false≢true fit)
  args_codes g ctx no_args (Fun ps r ∷ more) fit = absurd (false≢true fit)
  args_codes g ctx (plain e rest) [] fit = absurd (false≢true fit)
  args_codes g ctx (plain e rest) (Fun ps r ∷ more) fit = absurd (false≢true fit)
  args_codes g ctx (lam e rest) [] fit = absurd (false≢true fit)
  args_codes g ctx (lam e rest) (Plain b ∷ more) fit = absurd (false≢true fit)
  args_codes g ctx (plain e rest) (Plain b ∷ more) fit =
      let f = and_parts (some_below g (type_in g ctx e) b) (fits g ctx rest more) fit in
      let t : Typed (type_in g ctx e) = typed g (type_in g ctx e) b f.0 in
      map-append (λ (r : Row). r.code) (rows_of g ctx e) (args_rows g ctx rest more) ∙ ap (λ cs. cs ++ map (λ (r : Row). r.code) (args_rows g ctx rest more)) (codes g ctx e t.type t.is) ∙ ap (λ cs. prefix_code e ++ cs) (args_codes g ctx rest more f.1)
  args_codes g ctx (lam e rest) (Fun ps r ∷ more) fit =
      let inner = ctx ++ ps ∷ [] in
      let h = and_parts (nat_lt (length ctx) 3 && some_below g (type_in g inner e) r) (fits g ctx rest more) fit in
      let f = and_parts (nat_lt (length ctx) 3) (some_below g (type_in g inner e) r) h.0 in
      let t : Typed (type_in g inner e) = typed g (type_in g inner e) r f.1 in
      map-append (λ (r : Row). r.code) (rows_of g inner e) (args_rows g ctx rest more) ∙ ap (λ cs. cs ++ map (λ (r : Row). r.code) (args_rows g ctx rest more)) (codes g inner e t.type t.is) ∙ ap (λ cs. prefix_code e ++ cs) (args_codes g ctx rest more h.1)

pub codes_of : (g : Parts) (e : Expr) → IsInhabitant g e → map (λ (r : Row). r.code) (rows_of g [] e) ≡ prefix_code e
codes_of g e is = let t : Typed (type_in g [] e) = typed g (type_in g [] e) g.goal (inhabits g e is).below in codes g [] e t.type t.is

pub one_item : (g : Parts) (e f : Expr) → IsInhabitant g e → IsInhabitant g f → rows_of g [] e ≡ rows_of g [] f → e ≡ f
one_item g e f ie if' same =
    let code : prefix_code e ++ [] ≡ prefix_code f ++ [] = ap (λ cs. cs ++ []) (sym (codes_of g e ie) ∙ ap (map (λ (r : Row). r.code)) same ∙ codes_of g f if') in
    (one_term g [] e f [] [] (below_some g (type_in g [] e) g.goal (inhabits g e ie).below) (below_some g (type_in g [] f) g.goal (inhabits g f if').below) code).0

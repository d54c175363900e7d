-- Tables with one weight more.
use Rattle.std.proofs.Common.{◌≡◌, ◌⊎◌, inl, inr, ℕ, zero, suc, ◌+◌, ◌<◌, ◌≤◌, Bool, true, false, ◌&&◌, ◌==◌, nat_le, nat_lt, cond, List, [], ◌∷◌, ◌++◌, length, slice_get, Option, None, Some, refl, sym, ap, subst, ◌∙◌, arith}
use Rattle.std.specs.List.{list_all}
use Rattle.std.proofs.lemmas.Bool.{cases_lt, cases_eq, and_parts, ltb-true, le-leb, lt-leb, le-ltb, lt-ltb, eq-eqb, ne_eqb}
use Rattle.std.proofs.lemmas.List.{length_push}
use Rattle.std.proofs.lemmas.Option.{slice_get_within}
use Rattle.terms.specs.Expr.{Expr}
use Rattle.terms.specs.Typing.{most_rows, type_in, some_below, joined}
use Rattle.terms.specs.Weights.{binders_weight, step_in, weight_in}
use Rattle.terms.specs.Count.{expr_eq, once_if, count}
use Rattle.terms.specs.Place.{shallow, goal_place, fits_place, weigh}
use Rattle.terms.specs.Listing.{level_of}
use Rattle.terms.specs.Faults.{is_arg_known}
use Rattle.terms.specs.declared.term.Term.{Term}
use Rattle.terms.specs.declared.parts.Arg.{Arg}
use Rattle.terms.specs.declared.parts.Arg.TheVariants.{Plain, Fun}
use Rattle.terms.specs.declared.parts.Decl.{Decl}
use Rattle.terms.specs.declared.parts.Parts.{Parts}
use Rattle.plain_listing.specs.Generate.{Table, Inner, bound, candidates, made}
use Rattle.plain_listing.specs.Tables.{for_type, in_context, at, number_of, number_under, by_number, under, stands, IsRight, AreRight, IsColumn, IsRow}
use Rattle.plain_listing.specs.Contexts.{IsAmong, IsMet, AreContexts}
use Rattle.plain_listing.proofs.Counting.{suits, stands-suits, suits_under, and_no, AreServed, IsServed, count-bound, count-made}
use Rattle.plain_listing.proofs.Numbers.{if_yes, if_no, length-extended}
use Rattle.plain_listing.proofs.Ranges.{Ranges}
use Rattle.plain_listing.proofs.Finding.{HasNumber, number-there, among-number}

no_bodies : (k n : ℕ) (e : Expr) → count (expr_eq e) (cond (nat_le n k) [] []) ≡ 0
no_bodies k n e = go (nat_le n k)
  where
    go : (b : Bool) → count (expr_eq e) (cond b [] []) ≡ 0
    go true = refl
    go false = refl

-- where no lambda may stand there are no bodies
none_under : (g : Parts) (cs : List (List (List ℕ))) (rows : List (List (List (List Term)))) (depth : ℕ) (ctx : List (List ℕ)) (here : Table) (ps : List ℕ) (r k : ℕ) (e : Expr) → depth ≤ length ctx → count (expr_eq e) (candidates g here (under cs rows depth ctx) (Fun ps r) k) ≡ 0
none_under g cs rows depth ctx here ps r k e full =
    let P : Option ℕ → Type 0 = λ o. count (expr_eq e) (bound (λ j. by_number o rows j r) (binders_weight g (length ps)) k) ≡ 0 in
    subst P (sym (if_no (nat_lt (length ctx) depth) (number_of cs (ctx ++ ps ∷ [])) None (le-ltb (length ctx) depth full))) (no_bodies k (binders_weight g (length ps)) e)

-- the number of a body's context, where a lambda may stand
number-open : (cs : List (List (List ℕ))) (depth : ℕ) (ctx : List (List ℕ)) (ps : List ℕ) → length ctx < depth → number_under cs depth ctx ps ≡ number_of cs (ctx ++ ps ∷ [])
number-open cs depth ctx ps low = if_yes (nat_lt (length ctx) depth) (number_of cs (ctx ++ ps ∷ [])) None (lt-ltb (length ctx) depth low)

-- a lambda that may stand, by its context's number
numbered_under : (g : Parts) (depth : ℕ) (cs : List (List (List ℕ))) (rows : List (List (List (List Term)))) (here : Table) (limit left : ℕ) (ctx : List (List ℕ)) → AreRight g depth cs rows limit → length ctx + suc left ≡ depth → (ps : List ℕ) (r k : ℕ) (e : Expr) → r < length g.types → k < limit → HasNumber 0 cs (ctx ++ ps ∷ [])
    → count (expr_eq e) (candidates g here (under cs rows depth ctx) (Fun ps r) k) ≡ once_if (suits_under g ctx (suc left) ps r k e)
numbered_under g depth cs rows here limit left ctx right room ps r k e known l has =
    let inner = ctx ++ ps ∷ [] in
    let s = number-there 0 cs inner has.number has.is in
    let at_place : slice_get cs has.number ≡ Some inner = ap (slice_get cs) (omega (arith, s.counted)) ∙ s.there in
    let deep : length inner + left ≡ depth = (let long = length-extended ctx ps in omega (arith, long, room)) in
    let number : number_under cs depth ctx ps ≡ Some has.number = number-open cs depth ctx ps (omega (arith, room)) ∙ has.is in
    let P : Option ℕ → Type 0 = λ o. count (expr_eq e) (bound (λ j. by_number o rows j r) (binders_weight g (length ps)) k) ≡ once_if (suits_under g ctx (suc left) ps r k e) in
    subst P (sym number) (count-bound g inner left (binders_weight g (length ps)) r k (λ j. at rows has.number j r) e (λ j m. right has.number left inner at_place deep j r (omega arith) known e ∙ ap once_if (stands-suits g inner left j r e)))

-- a lambda whose binders alone pass the limit
long_under : (g : Parts) (here : Table) (u : Inner) (ctx : List (List ℕ)) (left : ℕ) (ps : List ℕ) (r k : ℕ) (e : Expr) → k < binders_weight g (length ps) → count (expr_eq e) (candidates g here u (Fun ps r) k) ≡ once_if (suits_under g ctx (suc left) ps r k e)
long_under g here u ctx left ps r k e l =
    let inner = ctx ++ ps ∷ [] in
    let fits = some_below g (type_in g inner e) r && shallow left e in
    let weighs = weight_in g inner e + binders_weight g (length ps) + step_in g (type_in g inner e) r in
    rw (lt-leb (binders_weight g (length ps)) k l, ne_eqb weighs k (λ q. omega arith)) (go fits)
  where
    go : (b : Bool) → 0 ≡ once_if (b && false)
    go true = refl
    go false = refl

-- the arguments in a context
serve : (g : Parts) (depth : ℕ) (cs : List (List (List ℕ))) (rows : List (List (List (List Term)))) (limit n left : ℕ) (ctx : List (List ℕ)) → slice_get cs n ≡ Some ctx → length ctx + left ≡ depth → limit ≤ g.limit → AreRight g depth cs rows limit → (wanted : List Arg) → list_all (is_arg_known (length g.types)) wanted ≡ true
    → ((i : ℕ) (a : Arg) → slice_get wanted i ≡ Some a → 0 < left → IsMet g cs ctx a) → AreServed g ctx left (at rows n) (under cs rows depth ctx) limit wanted
serve g depth cs rows limit n left ctx is room within right [] known met = tt
serve g depth cs rows limit n left ctx is room within right (Plain b ∷ more) known met =
    let both = and_parts (is_arg_known (length g.types) (Plain b)) (list_all (is_arg_known (length g.types)) more) known in
    ((λ k l e. right n left ctx is room k b l (ltb-true b (length g.types) both.0) e ∙ ap once_if (stands-suits g ctx left k b e)), serve g depth cs rows limit n left ctx is room within right more both.1 (λ i a at. met (suc i) a at))
serve g depth cs rows limit n zero ctx is room within right (Fun ps r ∷ more) known met =
    let both = and_parts (is_arg_known (length g.types) (Fun ps r)) (list_all (is_arg_known (length g.types)) more) known in
    ((λ k l e. none_under g cs rows depth ctx (at rows n) ps r k e (omega (arith, room))), serve g depth cs rows limit n zero ctx is room within right more both.1 (λ i a at. met (suc i) a at))
serve g depth cs rows limit n (suc left) ctx is room within right (Fun ps r ∷ more) known met =
    let both = and_parts (is_arg_known (length g.types) (Fun ps r)) (list_all (is_arg_known (length g.types)) more) known in
    let body = and_parts (list_all (λ p. nat_lt p (length g.types)) ps) (nat_lt r (length g.types)) both.0 in
    let here : IsAmong cs (ctx ++ ps ∷ []) ⊎ (g.limit < binders_weight g (length ps)) = met 0 (Fun ps r) refl (omega arith) in (
      (λ k l e. elim here [
        | inl among ↦ numbered_under g depth cs rows (at rows n) limit left ctx right room ps r k e (ltb-true r (length g.types) body.1) l (among-number cs (ctx ++ ps ∷ []) among)
        | inr long ↦ long_under g (at rows n) (under cs rows depth ctx) ctx left ps r k e (omega (arith, long, l, within))
      ]),
      serve g depth cs rows limit n (suc left) ctx is room within right more both.1 (λ i a at. met (suc i) a at),
    )

slice_get_before : {X : Type 0} (xs ys : List X) (k : ℕ) → k < length xs → slice_get (xs ++ ys) k ≡ slice_get xs k
slice_get_before [] ys k l = absurd (omega arith)
slice_get_before (x ∷ xs) ys zero l = refl
slice_get_before (x ∷ xs) ys (suc k) l = slice_get_before xs ys k (omega arith)

slice_get_last : {X : Type 0} (xs : List X) (x : X) → slice_get (xs ++ x ∷ []) (length xs) ≡ Some x
slice_get_last [] x = refl
slice_get_last (y ∷ ys) x = slice_get_last ys x

-- one context's table, with one weight more
right-more : (g : Parts) (ctx : List (List ℕ)) (left c : ℕ) (u : Inner) (rows : List (List (List (List Term)))) (row : List (List (List Term))) → length ctx + left ≤ 3 → IsRight g ctx left (at rows c) (length rows)
    → ((n : ℕ) (d : Decl) → slice_get g.decls n ≡ Some d → IsServed g ctx left (at rows c) u (length rows) d)
    → ((b : ℕ) → b < length g.types → for_type (slice_get row c) b ≡ made g (joined ctx) (at rows c) u (length rows) b)
    → IsRight g ctx left (at (rows ++ row ∷ []) c) (length (rows ++ row ∷ []))
right-more g ctx left c u rows row room right served each k b lk lb e = elim (cases_lt k (length rows)) [
  | inl before ↦ ap (λ (o : Option (List (List (List Term)))). count (expr_eq e) (in_context o c b)) (slice_get_before rows (row ∷ []) k before) ∙ right k b before lb e
  | inr last ↦
      let is_last : k ≡ length rows = omega (arith, length_push rows row) in
      ap (λ (o : Option (List (List (List Term)))). count (expr_eq e) (in_context o c b)) (ap (slice_get (rows ++ row ∷ [])) is_last ∙ slice_get_last rows row)
      ∙ ap (count (expr_eq e)) (each b lb)
      ∙ count-made g ctx left (at rows c) u (length rows) b room served e
      ∙ sym (ap (λ (w : ℕ). once_if (suits g ctx left w b e)) is_last)
      ∙ sym (ap once_if (stands-suits g ctx left k b e))
]

-- the declarations in a context
served : (g : Parts) (depth : ℕ) (cs : List (List (List ℕ))) (rows : List (List (List (List Term)))) → Ranges g → AreContexts g depth cs → length rows ≤ g.limit → AreRight g depth cs rows (length rows) → (n left : ℕ) (ctx : List (List ℕ)) → slice_get cs n ≡ Some ctx → length ctx + left ≡ depth
    → (m : ℕ) (d : Decl) → slice_get g.decls m ≡ Some d → IsServed g ctx left (at rows n) (under cs rows depth ctx) (length rows) d
served g depth cs rows known contexts within right n left ctx is room m d at_d = record {
  places = serve g depth cs rows (length rows) n left ctx is room within right d.args (known.decls m d at_d).args (λ i a at_a some.
      contexts.closed n ctx (slice_get_within cs n ctx is) is (omega (arith, room, some)) m d (slice_get_within g.decls m d at_d) at_d i a (slice_get_within d.args i a at_a) at_a);
  heavy = (known.decls m d at_d).heavy;
}

-- all tables, with one weight more
pub grown : (g : Parts) (depth : ℕ) (cs : List (List (List ℕ))) (rows : List (List (List (List Term)))) (row : List (List (List Term))) → depth ≤ most_rows → Ranges g → AreContexts g depth cs → length rows ≤ g.limit → AreRight g depth cs rows (length rows) → IsRow g depth cs rows row (length cs) → AreRight g depth cs (rows ++ row ∷ []) (length (rows ++ row ∷ []))
grown g depth cs rows row low known contexts within right made_row n left ctx is room =
    right-more g ctx left n (under cs rows depth ctx) rows row (omega (arith, room, low)) (right n left ctx is room) (served g depth cs rows known contexts within right n left ctx is room) (λ b l. made_row.each n ctx (slice_get_within cs n ctx is) is b l)

-- without any weight all is right
pub right_none : (g : Parts) (depth : ℕ) (cs : List (List (List ℕ))) → AreRight g depth cs [] 0
right_none g depth cs n left ctx is room k b l m e = absurd (omega arith)

-- no context yet
pub row_none : (g : Parts) (depth : ℕ) (cs : List (List (List ℕ))) (rows : List (List (List (List Term)))) → IsRow g depth cs rows [] 0
row_none g depth cs rows = record { long = refl; each = λ m ctx l is b k. absurd (omega arith) }

-- one context's column, and those of the contexts before
pub row_more : (g : Parts) (depth : ℕ) (cs : List (List (List ℕ))) (rows : List (List (List (List Term)))) (row : List (List (List Term))) (n : ℕ) (ctx : List (List ℕ)) (column : List (List Term)) → slice_get cs n ≡ Some ctx → IsRow g depth cs rows row n → IsColumn g depth cs rows column n ctx → IsRow g depth cs rows (row ++ column ∷ []) (n + 1)
row_more g depth cs rows row n ctx column is so_far each = record {
  long = length_push row column ∙ ap (λ (k : ℕ). k + 1) so_far.long;
  each = λ m other l there b k. elim (cases_lt m n) [
    | inl before ↦ ap (λ (o : Option (List (List Term))). for_type o b) (slice_get_before row (column ∷ []) m (omega (arith, so_far.long))) ∙ so_far.each m other before there b k
    | inr last ↦
        let m_is : m ≡ n = omega arith in
        let place : m ≡ length row = omega (arith, so_far.long) in
        let same : Some ctx ≡ Some other = sym is ∙ ap (slice_get cs) (sym m_is) ∙ there in
        let other_is : ctx ≡ other = cc in
        ap (λ (o : Option (List (List Term))). for_type o b) (ap (slice_get (row ++ column ∷ [])) place ∙ slice_get_last row column)
        ∙ each b k ∙ ap (λ (x : List (List ℕ)). made g (joined x) (at rows n) (under cs rows depth x) (length rows) b) other_is
        ∙ ap (λ (j : ℕ). made g (joined other) (at rows j) (under cs rows depth other) (length rows) b) (sym m_is)
  ];
}

-- what stands at the goal's place with this weight is a level's term
level_is : (t : Bool) (w total limit : ℕ) → w ≤ limit → (t && (total == w)) ≡ ((t && nat_le total limit) && (total == w))
level_is false w total limit l = refl
level_is true w total limit l = elim (cases_eq total w) [
  | inl e ↦ rw (eq-eqb total w e, le-leb total limit (omega arith)) refl
  | inr n ↦ rw (ne_eqb total w n) (sym (and_no (nat_le total limit)))
]

pub level-stands : (g : Parts) (w : ℕ) (e : Expr) → w ≤ g.limit → stands g (goal_place g) w e ≡ level_of g w e
level-stands g w e l = level_is (fits_place g (goal_place g) e) w (weigh g (goal_place g) e) g.limit l

-- the terms for the goal in a new row are the level
pub level_made : (g : Parts) (cs : List (List (List ℕ))) (rows : List (List (List (List Term)))) (row : List (List (List Term))) → Ranges g → AreContexts g g.depth cs → length rows ≤ g.limit → AreRight g g.depth cs rows (length rows) → IsRow g g.depth cs rows row (length cs) → (e : Expr)
    → count (expr_eq e) (for_type (slice_get row 0) g.goal) ≡ once_if (level_of g (length rows) e)
level_made g cs rows row known contexts within right made_row e =
    let some : 0 < length cs = slice_get_within cs 0 [] contexts.first in
    let room : 0 + g.depth ≡ g.depth = omega arith in
    ap (count (expr_eq e)) (made_row.each 0 [] some contexts.first g.goal known.goal)
    ∙ count-made g [] g.depth (at rows 0) (under cs rows g.depth []) (length rows) g.goal (omega (arith, known.depth)) (served g g.depth cs rows known contexts within right 0 g.depth [] contexts.first room) e
    ∙ sym (ap once_if (stands-suits g [] g.depth (length rows) g.goal e))
    ∙ ap once_if (level-stands g (length rows) e within)

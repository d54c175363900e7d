-- All terms up to a size, and that a term is no larger than it weighs.
use Rattle.std.proofs.Common.{◌≡◌, ◌⊎◌, ◌≤◌, ◌<◌, ℕ, zero, suc, ◌+◌, ◌&&◌, Bool, true, false, List, [], ◌∷◌, ◌++◌, length, map, slice_get, Option, Some, None, refl, sym, ap, subst, inl, inr, ⊎_elim, arith}
use Rattle.std.specs.Prelude.{nat_lt, nat_le}
use Rattle.std.proofs.lemmas.Bool.{false≢true, and_parts, leb-true}
use Rattle.std.proofs.lemmas.Option.{slice_get_within}
use Rattle.terms.specs.Expr.{Expr, var, head, Args, no_args, plain, lam}
use Rattle.terms.specs.declared.parts.Parts.{Parts}
use Rattle.terms.specs.declared.parts.Decl.{Decl}
use Rattle.terms.specs.declared.parts.Arg.{Arg}
use Rattle.terms.specs.declared.parts.Arg.TheVariants.{Plain, Fun}
use Rattle.terms.specs.Typing.{joined, some_below, result_if, args_wanted, type_in, fits}
use Rattle.terms.specs.Weights.{binders_weight, step_in, decl_weight, weight_in, args_weight}
use Rattle.terms.specs.Place.{shallow, fits_place, weigh, goal_place, total_of, IsInhabitant}
use Rattle.terms.specs.Faults.{IsValid}
use Rattle.terms.proofs.Valid.{valid-heavy}
use Rattle.terms.proofs.Weighing.{variable-weighs}

abbrev pub In : {X : Type 0} → X → List X → Type 0
In x [] = ⊥
In x (y ∷ ys) = (y ≡ x) ⊎ In x ys

in_front : {X : Type 0} (x : X) (xs ys : List X) → In x xs → In x (xs ++ ys)
in_front x [] ys h = absurd h
in_front x (z ∷ xs) ys (inl e) = inl e
in_front x (z ∷ xs) ys (inr h) = inr (in_front x xs ys h)

in_back : {X : Type 0} (x : X) (xs ys : List X) → In x ys → In x (xs ++ ys)
in_back x [] ys h = h
in_back x (z ∷ xs) ys h = inr (in_back x xs ys h)

in_map : {X Y : Type 0} (f : X → Y) (x : X) (xs : List X) → In x xs → In (f x) (map f xs)
in_map f x [] h = absurd h
in_map f x (z ∷ xs) (inl e) = inl (ap f e)
in_map f x (z ∷ xs) (inr h) = inr (in_map f x xs h)

abbrev pub join : {X Y : Type 0} → (X → List Y) → List X → List Y
join f [] = []
join f (x ∷ xs) = f x ++ join f xs

in_join : {X Y : Type 0} (f : X → List Y) (x : X) (xs : List X) (y : Y) → In x xs → In y (f x) → In y (join f xs)
in_join f x [] y h k = absurd h
in_join f x (z ∷ xs) y (inl e) k = in_front y (f z) (join f xs) (subst (λ w. In y (f w)) (sym e) k)
in_join f x (z ∷ xs) y (inr h) k = in_back y (f z) (join f xs) (in_join f x xs y h k)

abbrev pub below : ℕ → List ℕ
below zero = []
below (suc n) = n ∷ below n

in_below : (n i : ℕ) → i < n → In i (below n)
in_below zero i l = absurd (omega (arith, l))
in_below (suc n) i l = ⊎_elim (λ e. inl e) (λ h. inr (in_below n i h)) (last_or n i l)
  where
    last_or : (n i : ℕ) → i < suc n → (n ≡ i) ⊎ (i < n)
    last_or zero zero l = inl refl
    last_or zero (suc i) l = absurd (omega (arith, l))
    last_or (suc n) zero l = inr (omega arith)
    last_or (suc n) (suc i) l = ⊎_elim (λ e. inl (ap suc e)) (λ h. inr (omega (arith, h))) (last_or n i (omega (arith, l)))

abbrev pub args_in : (List (List ℕ) → List Expr) → List (List ℕ) → List Arg → List Args
args_in made ctx [] = no_args ∷ []
args_in made ctx (Plain b ∷ more) = join (λ e. map (plain e) (args_in made ctx more)) (made ctx)
args_in made ctx (Fun ps r ∷ more) = join (λ e. map (lam e) (args_in made ctx more)) (made (ctx ++ ps ∷ []))

-- all terms of this size at most, and some more
abbrev pub exprs : Parts → ℕ → List (List ℕ) → List Expr
exprs g zero ctx = []
exprs g (suc n) ctx = map var (below (length (joined ctx))) ++ join (λ i. map (head i) (args_in (exprs g n) ctx (args_wanted (slice_get g.decls i)))) (below (length g.decls))

abbrev mutual
  pub size : Expr → ℕ
  size (var n) = 1
  size (head d xs) = suc (args_size xs)

  pub args_size : Args → ℕ
  args_size no_args = 0
  args_size (plain e rest) = size e + args_size rest
  args_size (lam e rest) = size e + args_size rest

some_type : (g : Parts) (o : Option ℕ) (b : ℕ) → some_below g o b ≡ true → (t : ℕ) × (o ≡ Some t)
some_type g None b e = absurd (false≢true e)
some_type g (Some t) b e = (t, refl)

has_decl : (o : Option Decl) (f : Bool) (t : ℕ) → result_if o f ≡ Some t → (d : Decl) × (o ≡ Some d) × (f ≡ true)
has_decl None f t e = absurd cc
has_decl (Some d) false t e = absurd cc
has_decl (Some d) true t e = (d, refl, refl)

size_one : (e : Expr) → 1 ≤ size e
size_one (var n) = omega arith
size_one (head d xs) = omega arith

left_size : (a b n : ℕ) → a + b ≤ n → a ≤ n
left_size a b n l = omega (arith, l)

right_size : (a b n : ℕ) → a + b ≤ n → b ≤ n
right_size a b n l = omega (arith, l)

mutual
  unfolding type_in fits

  found : (g : Parts) (e : Expr) (n : ℕ) (ctx : List (List ℕ)) (t : ℕ) → type_in g ctx e ≡ Some t → size e ≤ n → In e (exprs g n ctx)
  found g (var k) zero ctx t typed l = absurd (omega (arith, l))
  found g (head i xs) zero ctx t typed l = absurd (omega (arith, l))
  found g (var k) (suc n) ctx t typed l = in_front (var k) (map var (below (length (joined ctx)))) _ (in_map var k (below (length (joined ctx))) (in_below (length (joined ctx)) k (slice_get_within (joined ctx) k t typed)))
  found g (head i xs) (suc n) ctx t typed l =
      let d = has_decl (slice_get g.decls i) (fits g ctx xs (args_wanted (slice_get g.decls i))) t typed in
      in_back (head i xs) (map var (below (length (joined ctx)))) (join (λ j. map (head j) (args_in (exprs g n) ctx (args_wanted (slice_get g.decls j)))) (below (length g.decls)))
      (in_join (λ j. map (head j) (args_in (exprs g n) ctx (args_wanted (slice_get g.decls j)))) i (below (length g.decls)) (head i xs) (in_below (length g.decls) i (slice_get_within g.decls i d.0 d.1))
      (in_map (head i) xs (args_in (exprs g n) ctx (args_wanted (slice_get g.decls i))) (args_found g xs n ctx (args_wanted (slice_get g.decls i)) d.2 (omega (arith, l)))))

  args_found : (g : Parts) (xs : Args) (n : ℕ) (ctx : List (List ℕ)) (wanted : List Arg) → fits g ctx xs wanted ≡ true → args_size xs ≤ n → In xs (args_in (exprs g n) ctx wanted)
  args_found g no_args n ctx [] fit l = inl refl
  args_found g no_args n ctx (Plain b ∷ more) fit l = absurd (false≢true fit)
  args_found g no_args n ctx (Fun ps r ∷ more) fit l = absurd (false≢true fit)
  args_found g (plain e rest) n ctx [] fit l = absurd (false≢true fit)
  args_found g (plain e rest) n ctx (Fun ps r ∷ more) fit l = absurd (false≢true fit)
  args_found g (lam e rest) n ctx [] fit l = absurd (false≢true fit)
  args_found g (lam e rest) n ctx (Plain b ∷ more) fit l = absurd (false≢true fit)
  args_found g (plain e rest) n ctx (Plain b ∷ more) fit l =
      let f = and_parts (some_below g (type_in g ctx e) b) (fits g ctx rest more) fit in
      let t = some_type g (type_in g ctx e) b f.0 in
      in_join (λ x. map (plain x) (args_in (exprs g n) ctx more)) e (exprs g n ctx) (plain e rest) (found g e n ctx t.0 t.1 (left_size (size e) (args_size rest) n l))
      (in_map (plain e) rest (args_in (exprs g n) ctx more) (args_found g rest n ctx more f.1 (right_size (size e) (args_size rest) n l)))
  args_found g (lam e rest) n ctx (Fun ps r ∷ more) fit l =
      let h = and_parts (nat_lt (length ctx) 3 && some_below g (type_in g (ctx ++ ps ∷ []) e) r) (fits g ctx rest more) fit in
      let f = and_parts (nat_lt (length ctx) 3) (some_below g (type_in g (ctx ++ ps ∷ []) e) r) h.0 in
      let t = some_type g (type_in g (ctx ++ ps ∷ []) e) r f.1 in
      in_join (λ x. map (lam x) (args_in (exprs g n) ctx more)) e (exprs g n (ctx ++ ps ∷ [])) (lam e rest) (found g e n (ctx ++ ps ∷ []) t.0 t.1 (left_size (size e) (args_size rest) n l))
      (in_map (lam e) rest (args_in (exprs g n) ctx more) (args_found g rest n ctx more h.1 (right_size (size e) (args_size rest) n l)))

head_size : (o : Option Decl) (d : Decl) (a w : ℕ) → o ≡ Some d → 1 ≤ d.weight → a ≤ w → suc a ≤ decl_weight o + w
head_size o d a w e one l = subst (λ x. suc a ≤ decl_weight x + w) (sym e) (omega (arith, one, l))

plain_size : (a b w s v : ℕ) → a ≤ w → b ≤ v → a + b ≤ w + s + v
plain_size a b w s v p q = omega (arith, p, q)

lam_size : (a b w n s v : ℕ) → a ≤ w → b ≤ v → a + b ≤ w + n + s + v
lam_size a b w n s v p q = omega (arith, p, q)

mutual
  unfolding type_in fits weight_in args_weight

  light : (g : Parts) → IsValid g → (e : Expr) (ctx : List (List ℕ)) (t : ℕ) → type_in g ctx e ≡ Some t → size e ≤ weight_in g ctx e
  light g valid (var k) ctx t typed = variable-weighs g valid
  light g valid (head i xs) ctx t typed =
      let d = has_decl (slice_get g.decls i) (fits g ctx xs (args_wanted (slice_get g.decls i))) t typed in
      head_size (slice_get g.decls i) d.0 (args_size xs) (args_weight g ctx xs (args_wanted (slice_get g.decls i))) d.1 (valid-heavy g valid i d.0 d.1) (args_light g valid xs ctx (args_wanted (slice_get g.decls i)) d.2)

  args_light : (g : Parts) → IsValid g → (xs : Args) (ctx : List (List ℕ)) (wanted : List Arg) → fits g ctx xs wanted ≡ true → args_size xs ≤ args_weight g ctx xs wanted
  args_light g valid no_args ctx [] fit = omega arith
  args_light g valid no_args ctx (Plain b ∷ more) fit = absurd (false≢true fit)
  args_light g valid no_args ctx (Fun ps r ∷ more) fit = absurd (false≢true fit)
  args_light g valid (plain e rest) ctx [] fit = absurd (false≢true fit)
  args_light g valid (plain e rest) ctx (Fun ps r ∷ more) fit = absurd (false≢true fit)
  args_light g valid (lam e rest) ctx [] fit = absurd (false≢true fit)
  args_light g valid (lam e rest) ctx (Plain b ∷ more) fit = absurd (false≢true fit)
  args_light g valid (plain e rest) ctx (Plain b ∷ more) fit =
      let f = and_parts (some_below g (type_in g ctx e) b) (fits g ctx rest more) fit in
      let t = some_type g (type_in g ctx e) b f.0 in
      plain_size (size e) (args_size rest) (weight_in g ctx e) (step_in g (type_in g ctx e) b) (args_weight g ctx rest more) (light g valid e ctx t.0 t.1) (args_light g valid rest ctx more f.1)
  args_light g valid (lam e rest) ctx (Fun ps r ∷ more) fit =
      let h = and_parts (nat_lt (length ctx) 3 && some_below g (type_in g (ctx ++ ps ∷ []) e) r) (fits g ctx rest more) fit in
      let f = and_parts (nat_lt (length ctx) 3) (some_below g (type_in g (ctx ++ ps ∷ []) e) r) h.0 in
      let t = some_type g (type_in g (ctx ++ ps ∷ []) e) r f.1 in
      lam_size (size e) (args_size rest) (weight_in g (ctx ++ ps ∷ []) e) (binders_weight g (length ps)) (step_in g (type_in g (ctx ++ ps ∷ []) e) r) (args_weight g ctx rest more) (light g valid e (ctx ++ ps ∷ []) t.0 t.1) (args_light g valid rest ctx more h.1)

pub inhabitants : (g : Parts) → IsValid g → (e : Expr) → IsInhabitant g e → In e (exprs g g.limit [])
unfolding fits_place weigh
inhabitants g valid e is =
    let in_limit = and_parts (fits_place g (goal_place g) e) (nat_le (total_of g e) g.limit) is in
    let fit = and_parts (some_below g (type_in g [] e) g.goal) (shallow g.depth e) in_limit.0 in
    let t = some_type g (type_in g [] e) g.goal fit.0 in
    let small : size e ≤ weight_in g [] e = light g valid e [] t.0 t.1 in
    let low : weight_in g [] e + step_in g (type_in g [] e) g.goal ≤ g.limit = leb-true (total_of g e) g.limit in_limit.1 in
    found g e g.limit [] t.0 t.1 (omega (arith, small, low))

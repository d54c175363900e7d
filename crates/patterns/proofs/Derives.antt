-- A type is derivable from the types of a context just where some term fits there.
use Rattle.std.proofs.Common.{◌≡◌, ℕ, zero, suc, ◌+◌, ◌≤◌, true, ◌&&◌, nat_lt, List, [], ◌∷◌, ◌++◌, length, slice_get, Option, Some, None, refl, ap, subst, ◌∙◌, arith, length-append}
use Rattle.std.proofs.lemmas.Bool.{and_parts, and_from, false≢true, lt-ltb}
use Rattle.terms.specs.Expr.{Expr, var, head, Args, no_args, plain, lam}
use Rattle.terms.specs.Typing.{type_in, fits, some_below, is_below, joined}
use Rattle.terms.specs.declared.parts.Parts.{Parts}
use Rattle.terms.specs.declared.parts.Arg.{Arg}
use Rattle.terms.specs.declared.parts.Arg.TheVariants.{Plain, Fun}
use Rattle.terms.specs.Place.{fits_place, shallow, args_shallow}
use Rattle.terms.proofs.Readings.{HeadFits, head_fits}
use Rattle.succinct.specs.Sets.{has, joined_with, types_bound}
use Rattle.patterns.specs.Derivable.{IsDerivable, in_set, by_pair, by_decl, AreDerivable, none, value, lambda}
use Rattle.patterns.proofs.Contexts.{set_of-more, has_context, at_context}

-- the pairs are transitive
abbrev pub IsTransitive : Parts → Type 0
IsTransitive g = (a b c : ℕ) → is_below g a b ≡ true → is_below g b c ≡ true → is_below g a c ≡ true

abbrev pub IsReflexive : Parts → Type 0
IsReflexive g = (a : ℕ) → is_below g a a ≡ true

some_type : (g : Parts) (o : Option ℕ) (b : ℕ) → some_below g o b ≡ true → (a : ℕ) × (o ≡ Some a) × (is_below g a b ≡ true)
some_type g None b h = absurd (false≢true h)
some_type g (Some a) b h = (a, refl, h)

mutual
  unfolding fits_place type_in fits shallow args_shallow

  pub term-derives : (g : Parts) (ctx : List (List ℕ)) (left b : ℕ) (e : Expr) → fits_place g (record { ctx = ctx; left = left; wanted = b }) e ≡ true → IsDerivable g (types_bound ctx) left b
  term-derives g ctx left b (var n) h =
      let t = some_type g (slice_get (joined ctx) n) b (and_parts (some_below g (slice_get (joined ctx) n) b) true h).0 in
      by_pair (types_bound ctx) left t.0 b t.2 (in_set (types_bound ctx) left t.0 (has_context ctx n t.0 t.1))
  term-derives g ctx left b (head d xs) h =
      let f : HeadFits g (record { ctx = ctx; left = left; wanted = b }) xs (slice_get g.decls d) = head_fits g (record { ctx = ctx; left = left; wanted = b }) xs (slice_get g.decls d) h in
      by_pair (types_bound ctx) left f.decl.result b f.below (by_decl (types_bound ctx) left d f.decl f.is (args-derive g ctx left xs f.decl.args f.fit f.flat))

  pub args-derive : (g : Parts) (ctx : List (List ℕ)) (left : ℕ) (xs : Args) (wanted : List Arg) → fits g ctx xs wanted ≡ true → args_shallow left xs ≡ true → AreDerivable g (types_bound ctx) left wanted
  args-derive g ctx left no_args [] f s = none (types_bound ctx) left
  args-derive g ctx left no_args (Plain b ∷ ws) f s = absurd (false≢true f)
  args-derive g ctx left no_args (Fun ps r ∷ ws) f s = absurd (false≢true f)
  args-derive g ctx left (plain e xs) [] f s = absurd (false≢true f)
  args-derive g ctx left (plain e xs) (Fun ps r ∷ ws) f s = absurd (false≢true f)
  args-derive g ctx left (plain e xs) (Plain b ∷ ws) f s =
      let fs = and_parts (some_below g (type_in g ctx e) b) (fits g ctx xs ws) f in
      let ss = and_parts (shallow left e) (args_shallow left xs) s in
      value (types_bound ctx) left b ws (term-derives g ctx left b e (and_from (some_below g (type_in g ctx e) b) (shallow left e) fs.0 ss.0)) (args-derive g ctx left xs ws fs.1 ss.1)
  args-derive g ctx left (lam e xs) [] f s = absurd (false≢true f)
  args-derive g ctx left (lam e xs) (Plain b ∷ ws) f s = absurd (false≢true f)
  args-derive g ctx zero (lam e xs) (Fun ps r ∷ ws) f s = absurd (false≢true s)
  args-derive g ctx (suc l) (lam e xs) (Fun ps r ∷ ws) f s =
      let inner = ctx ++ ps ∷ [] in
      let fs = and_parts (nat_lt (length ctx) 3 && some_below g (type_in g inner e) r) (fits g ctx xs ws) f in
      let f0 = and_parts (nat_lt (length ctx) 3) (some_below g (type_in g inner e) r) fs.0 in
      let ss = and_parts (shallow l e) (args_shallow (suc l) xs) s in
      let P : List ℕ → Type 0 = λ set. IsDerivable g set l r in
      lambda (types_bound ctx) l ps r ws (subst P (set_of-more ctx ps) (term-derives g inner l r e (and_from (some_below g (type_in g inner e) r) (shallow l e) f0.1 ss.0))) (args-derive g ctx (suc l) xs ws fs.1 ss.1)

-- a term, and arguments
pub record SomeTerm (g : Parts) (ctx : List (List ℕ)) (left b : ℕ) : Type 0 where
  pub term : Expr
  pub type : ℕ
  pub typed : type_in g ctx term ≡ Some type
  pub below : is_below g type b ≡ true
  pub flat : shallow left term ≡ true

pub record SomeArgs (g : Parts) (ctx : List (List ℕ)) (left : ℕ) (wanted : List Arg) : Type 0 where
  pub args : Args
  pub fit : fits g ctx args wanted ≡ true
  pub flat : args_shallow left args ≡ true

mutual
  unfolding type_in fits shallow args_shallow

  pub derives-term : (g : Parts) → IsTransitive g → IsReflexive g → (set : List ℕ) (left b : ℕ) → IsDerivable g set left b → (ctx : List (List ℕ)) → types_bound ctx ≡ set → length ctx + left ≤ 3 → SomeTerm g ctx left b
  derives-term g tr re set left b (in_set set' left' b' h) ctx is room =
      let n = at_context ctx b' (ap (has b') is ∙ h) in
      record { term = var n.0; type = b'; typed = n.1; below = re b'; flat = refl }
  derives-term g tr re set left b (by_pair set' left' a b' below d) ctx is room =
      let t : SomeTerm g ctx left' a = derives-term g tr re set' left' a d ctx is room in
      record { term = t.term; type = t.type; typed = t.typed; below = tr t.type a b' t.below below; flat = t.flat }
  derives-term g tr re set left b (by_decl set' left' n d found all) ctx is room =
      let a : SomeArgs g ctx left' d.args = derives-args g tr re set' left' d.args all ctx is room in
      record { term = head n a.args; type = d.result; typed = rw (found, a.fit) refl; below = re d.result; flat = a.flat }

  pub derives-args : (g : Parts) → IsTransitive g → IsReflexive g → (set : List ℕ) (left : ℕ) (wanted : List Arg) → AreDerivable g set left wanted → (ctx : List (List ℕ)) → types_bound ctx ≡ set → length ctx + left ≤ 3 → SomeArgs g ctx left wanted
  derives-args g tr re set left wanted (none set' left') ctx is room = record { args = no_args; fit = refl; flat = refl }
  derives-args g tr re set left wanted (value set' left' b more d all) ctx is room =
      let t : SomeTerm g ctx left' b = derives-term g tr re set' left' b d ctx is room in
      let a : SomeArgs g ctx left' more = derives-args g tr re set' left' more all ctx is room in
      record {
        args = plain t.term a.args;
        fit = and_from (some_below g (type_in g ctx t.term) b) (fits g ctx a.args more) (ap (λ o. some_below g o b) t.typed ∙ t.below) a.fit;
        flat = and_from (shallow left' t.term) (args_shallow left' a.args) t.flat a.flat;
      }
  derives-args g tr re set left wanted (lambda set' left' ps r more d all) ctx is room =
      let inner = ctx ++ ps ∷ [] in
      let t : SomeTerm g inner left' r = derives-term g tr re (joined_with set' ps) left' r d inner (set_of-more ctx ps ∙ ap (λ s. joined_with s ps) is) (omega (arith, length-append ctx (ps ∷ []))) in
      let a : SomeArgs g ctx (suc left') more = derives-args g tr re set' (suc left') more all ctx is room in
      record {
        args = lam t.term a.args;
        fit = and_from (nat_lt (length ctx) 3 && some_below g (type_in g inner t.term) r) (fits g ctx a.args more) (and_from (nat_lt (length ctx) 3) (some_below g (type_in g inner t.term) r) (lt-ltb (length ctx) 3 (omega arith)) (ap (λ o. some_below g o r) t.typed ∙ t.below)) a.fit;
        flat = and_from (shallow left' t.term) (args_shallow (suc left') a.args) t.flat a.flat;
      }

-- What is found of arguments, one after the other, and of rows, entry by entry.
use Rattle.std.proofs.Common.{◌≡◌, ◌∙◌, ap, ap₂, sym, refl, arith, ℕ, zero, suc, ◌+◌, ◌<◌, ◌≤◌, Bool, true, false, List, [], ◌∷◌, ◌++◌, length, map, drop, get_or, slice_get, append_assoc, append-nil, if◌then◌else◌}
use Rattle.std.proofs.lemmas.List.{drop_all, drop_more}
use Rattle.terms.specs.Expr.{Expr, Args, no_args, plain, lam}
use Rattle.terms.specs.declared.parts.Arg.{Arg}
use Rattle.terms.specs.declared.parts.Parts.{Parts}
use Rattle.java_resolve.specs.declared.tree.Tree.TheOpen.{TreeArg-F}
use Rattle.java_resolve.specs.declared.tree.Tree.TheFolds.{fold_out-TreeArg}
use Rattle.java_resolve.specs.declared.tree.TreeArg.{TreeArg}
use Rattle.java_resolve.specs.declared.found.Entry.{Entry}
use Rattle.java_resolve.specs.declared.found.Place.{Place}
use Rattle.java_resolve.specs.declared.heads.Kind.{Kind}
use Rattle.java_resolve.specs.Found.{Found, none, one, two, is_none, is_two, join, both, args_with, next, Row, Spot, pick, found_at, all_in, head_in, headed_in}
use Rattle.java_resolve.specs.Trees.{tree_step, tree_arg_step, tree_arg_view, tree_args_view, entry_view, place_view}
use Rattle.java_resolve.proofs.Algebra.{join_assoc, join_right, pick_append}

-- arguments behind others
abbrev pub append : Args → Args → Args
append no_args ys = ys
append (plain e xs) ys = plain e (append xs ys)
append (lam e xs) ys = lam e (append xs ys)

abbrev pub cat : Found Args → Found Args → Found Args
cat none y = none
cat (one xs) none = none
cat (one xs) (one ys) = one (append xs ys)
cat (one xs) two = two
cat two none = none
cat two (one ys) = two
cat two two = two

with_append : (xs : Args) (e : Expr) (ys : Args) → append (args_with xs e) ys ≡ append xs (plain e ys)
with_append no_args e ys = refl
with_append (plain a xs) e ys = ap (plain a) (with_append xs e ys)
with_append (lam a xs) e ys = ap (lam a) (with_append xs e ys)

append_none : (xs : Args) → append xs no_args ≡ xs
append_none no_args = refl
append_none (plain a xs) = ap (plain a) (append_none xs)
append_none (lam a xs) = ap (lam a) (append_none xs)

pub cat_next : (f : Found Args) (x : Found Expr) (r : Found Args) → cat (next f x) r ≡ cat f (both plain x r)
cat_next none x r = refl
cat_next (one xs) none r = refl
cat_next (one xs) (one e) none = refl
cat_next (one xs) (one e) (one ys) = ap one (with_append xs e ys)
cat_next (one xs) (one e) two = refl
cat_next (one xs) two none = refl
cat_next (one xs) two (one ys) = refl
cat_next (one xs) two two = refl
cat_next two none r = refl
cat_next two (one e) none = refl
cat_next two (one e) (one ys) = refl
cat_next two (one e) two = refl
cat_next two two none = refl
cat_next two two (one ys) = refl
cat_next two two two = refl

pub cat_none : (f : Found Args) → cat f (one no_args) ≡ f
cat_none none = refl
cat_none (one xs) = ap one (append_none xs)
cat_none two = refl

pub cat_first : (f : Found Args) (xs : Args) (y : Found Args) → f ≡ one xs → xs ≡ no_args → cat f y ≡ y
cat_first f xs y e n = ap (λ z. cat z y) (e ∙ ap one n) ∙ none_first y
  where
    none_first : (y : Found Args) → cat (one no_args) y ≡ y
    none_first none = refl
    none_first (one ys) = refl
    none_first two = refl

pub cat_nothing : (f y : Found Args) → is_none f ≡ true → f ≡ cat f y
cat_nothing none y e = refl
cat_nothing (one xs) y e = absurd cc
cat_nothing two y e = absurd cc

-- one more tree at the end
first_by : (f : Args → Args) (z : TreeArg-F Expr (Args → Args)) → f ≡ tree_arg_step z → (all rest : Args) (e : Expr) → all ≡ args_with rest e → f all ≡ args_with (f rest) e
first_by f (TreeArg-F.Plain r) q all rest e h = ap (λ k. k all) q ∙ ap (plain r.value) h ∙ sym (ap (λ k. args_with (k rest) e) q)
first_by f (TreeArg-F.Lam r) q all rest e h = ap (λ k. k all) q ∙ ap (lam r.value) h ∙ sym (ap (λ k. args_with (k rest) e) q)

first_with : (x : TreeArg) (all rest : Args) (e : Expr) → all ≡ args_with rest e → tree_arg_view x all ≡ args_with (tree_arg_view x rest) e
first_with x all rest e h = first_by (tree_arg_view x) _ (fold_out-TreeArg Expr (Args → Args) tree_step tree_arg_step x) all rest e h

pub trees_with : (xs : List TreeArg) (t : TreeArg) (e : Expr) → tree_arg_view t ≡ plain e → tree_args_view (xs ++ t ∷ []) ≡ args_with (tree_args_view xs) e
trees_with [] t e h = ap (λ f. f no_args) h
trees_with (x ∷ xs) t e h = first_with x (tree_args_view (xs ++ t ∷ [])) (tree_args_view xs) e (trees_with xs t e h)

-- a loop over places
pub all_step : (g : Parts) (c : Bool) (ps : List Place) (bs : List Arg) (i : ℕ) (p : Place) (b : Arg) → i < length ps → i < length bs → p ≡ get_or ps i p → b ≡ get_or bs i b → all_in g c (map place_view (drop i ps)) (drop i bs) ≡ both plain (found_at g c (place_view p) b) (all_in g c (map place_view (drop (i + 1) ps)) (drop (i + 1) bs))
unfolding all_in
all_step g c ps bs i p b l m e f =
    ap₂ (λ x y. all_in g c (map place_view x) y) (drop_more ps i p l ∙ ap (λ z. z ∷ drop (i + 1) ps) (sym e)) (drop_more bs i b m ∙ ap (λ z. z ∷ drop (i + 1) bs) (sym f))

pub all_end : (g : Parts) (c : Bool) (ps : List Place) (bs : List Arg) (i : ℕ) → length ps ≤ i → length bs ≤ i → all_in g c (map place_view (drop i ps)) (drop i bs) ≡ one no_args
unfolding all_in
all_end g c ps bs i l m = ap₂ (λ x y. all_in g c (map place_view x) y) (drop_all i ps l) (drop_all i bs m)

pub all_long : (g : Parts) (c : Bool) (ps : List Spot) (bs : List Arg) → (length ps ≡ length bs → ⊥) → none ≡ all_in g c ps bs
unfolding all_in
all_long g c [] [] n = absurd (n refl)
all_long g c [] (b ∷ bs) n = refl
all_long g c (p ∷ ps) [] n = refl
all_long g c (p ∷ ps) (b ∷ bs) n = sym (both_none (found_at g c p b)) ∙ ap (both plain (found_at g c p b)) (all_long g c ps bs (λ e. n (ap suc e)))
  where
    both_none : (x : Found Expr) → both plain x none ≡ none
    both_none none = refl
    both_none (one a) = refl
    both_none two = refl

-- a loop over entries
pub entries_step : (p : ℕ → Bool) (xs : List Entry) (i : ℕ) (x : Entry) → i < length xs → x ≡ get_or xs i x → pick p (map entry_view (drop i xs)) ≡ join (pick p (entry_view x ∷ [])) (pick p (map entry_view (drop (i + 1) xs)))
entries_step p xs i x l e = ap (λ y. pick p (map entry_view y)) (drop_more xs i x l ∙ ap (λ z. z ∷ drop (i + 1) xs) (sym e)) ∙ pick_append p (entry_view x ∷ []) (map entry_view (drop (i + 1) xs))

pub entries_end : (p : ℕ → Bool) (xs : List Entry) (i : ℕ) → length xs ≤ i → pick p (map entry_view (drop i xs)) ≡ none
unfolding pick
entries_end p xs i l = ap (λ y. pick p (map entry_view y)) (drop_all i xs l)

-- a loop over declarations
pub heads_step : (g : Parts) (k : Kind) (ns : List ℕ) (ps : List Spot) (i n : ℕ) → i < length ns → n ≡ get_or ns i n → headed_in g k (drop i ns) ps ≡ head_in g k (slice_get g.decls n) n ps ++ headed_in g k (drop (i + 1) ns) ps
unfolding headed_in
heads_step g k ns ps i n l e = ap (λ y. headed_in g k y ps) (drop_more ns i n l ∙ ap (λ z. z ∷ drop (i + 1) ns) (sym e))

pub heads_end : (g : Parts) (k : Kind) (ns : List ℕ) (ps : List Spot) (i : ℕ) → length ns ≤ i → headed_in g k (drop i ns) ps ≡ []
unfolding headed_in
heads_end g k ns ps i l = ap (λ y. headed_in g k y ps) (drop_all i ns l)

-- entries, one after the other
pub entry_out : (p : ℕ → Bool) (x : ℕ × Found Expr) (f : Found Expr) → p x.0 ≡ false → f ≡ join f (pick p (x ∷ []))
unfolding pick
entry_out p x f e = sym (ap (λ b. join f (join (if b then x.1 else none) none)) e ∙ join_right f)

pub entry_joined : (p : ℕ → Bool) (x : ℕ × Found Expr) (f g : Found Expr) → p x.0 ≡ true → g ≡ join f x.1 → g ≡ join f (pick p (x ∷ []))
unfolding pick
entry_joined p x f g e h = h ∙ sym (ap (λ b. join f (join (if b then x.1 else none) none)) e ∙ ap (join f) (join_right x.1))

pub pick_step : (p : ℕ → Bool) (xs : List Entry) (i : ℕ) (x : Entry) (f g : Found Expr) → i < length xs → x ≡ get_or xs i x → g ≡ join f (pick p (entry_view x ∷ [])) → join f (pick p (map entry_view (drop i xs))) ≡ pick p (map entry_view xs) → join g (pick p (map entry_view (drop (i + 1) xs))) ≡ pick p (map entry_view xs)
pick_step p xs i x f g l e h k =
    ap (λ z. join z (pick p (map entry_view (drop (i + 1) xs)))) h
    ∙ join_assoc f (pick p (entry_view x ∷ [])) (pick p (map entry_view (drop (i + 1) xs)))
    ∙ sym (ap (join f) (entries_step p xs i x l e)) ∙ k

pub two_joined : (f r : Found Expr) → is_two f ≡ true → f ≡ join f r
two_joined none r e = absurd cc
two_joined (one a) r e = absurd cc
two_joined two r e = refl

pub pick_end : (p : ℕ → Bool) (xs : List Entry) (i : ℕ) (f : Found Expr) → length xs ≤ i → join f (pick p (map entry_view (drop i xs))) ≡ pick p (map entry_view xs) → f ≡ pick p (map entry_view xs)
pick_end p xs i f l k = sym (join_right f) ∙ sym (ap (join f) (entries_end p xs i l)) ∙ k

-- places, one after the other
length_mapped : (ps : List Place) → length (map place_view ps) ≡ length ps
length_mapped [] = refl
length_mapped (p ∷ ps) = ap suc (length_mapped ps)

pub places_long : (g : Parts) (c : Bool) (ps : List Place) (bs : List Arg) → (length ps ≡ length bs → ⊥) → none ≡ all_in g c (map place_view ps) bs
places_long g c ps bs n = all_long g c (map place_view ps) bs (λ e. n (sym (length_mapped ps) ∙ e))

pub gather_step : (g : Parts) (c : Bool) (ps : List Place) (bs : List Arg) (i : ℕ) (p : Place) (b : Arg) (f h : Found Args) (x : Found Expr) → i < length ps → length ps ≡ length bs → p ≡ get_or ps i p → b ≡ get_or bs i b → x ≡ found_at g c (place_view p) b → h ≡ next f x → cat f (all_in g c (map place_view (drop i ps)) (drop i bs)) ≡ all_in g c (map place_view ps) bs → cat h (all_in g c (map place_view (drop (i + 1) ps)) (drop (i + 1) bs)) ≡ all_in g c (map place_view ps) bs
gather_step g c ps bs i p b f h x l long e q y n k =
    let rest = all_in g c (map place_view (drop (i + 1) ps)) (drop (i + 1) bs) in
    ap (λ z. cat z rest) n ∙ cat_next f x rest
    ∙ ap (λ z. cat f (both plain z rest)) y
    ∙ sym (ap (cat f) (all_step g c ps bs i p b l (omega (arith, l, long)) e q)) ∙ k

pub gather_end : (g : Parts) (c : Bool) (ps : List Place) (bs : List Arg) (i : ℕ) (f : Found Args) → length ps ≤ i → length ps ≡ length bs → cat f (all_in g c (map place_view (drop i ps)) (drop i bs)) ≡ all_in g c (map place_view ps) bs → f ≡ all_in g c (map place_view ps) bs
gather_end g c ps bs i f l long k = sym (cat_none f) ∙ sym (ap (cat f) (all_end g c ps bs i l (omega (arith, l, long)))) ∙ k

-- declarations, one after the other
pub headed_step : (g : Parts) (k : Kind) (ns : List ℕ) (ps : List Spot) (i n : ℕ) (old new all : Row) → i < length ns → n ≡ get_or ns i n → new ≡ old ++ head_in g k (slice_get g.decls n) n ps → old ++ headed_in g k (drop i ns) ps ≡ all → new ++ headed_in g k (drop (i + 1) ns) ps ≡ all
headed_step g k ns ps i n old new all l e h q =
    ap (λ z. z ++ headed_in g k (drop (i + 1) ns) ps) h
    ∙ append_assoc old (head_in g k (slice_get g.decls n) n ps) (headed_in g k (drop (i + 1) ns) ps)
    ∙ sym (ap (λ z. old ++ z) (heads_step g k ns ps i n l e)) ∙ q

pub headed_end : (g : Parts) (k : Kind) (ns : List ℕ) (ps : List Spot) (i : ℕ) (old all : Row) → length ns ≤ i → old ++ headed_in g k (drop i ns) ps ≡ all → old ≡ all
headed_end g k ns ps i old all l q = sym (append-nil old) ∙ sym (ap (λ z. old ++ z) (heads_end g k ns ps i l)) ∙ q

get_default : (ns : List ℕ) (i a b : ℕ) → i < length ns → get_or ns i a ≡ get_or ns i b
get_default [] i a b l = absurd (omega arith)
get_default (n ∷ ns) zero a b l = refl
get_default (n ∷ ns) (suc i) a b l = get_default ns i a b (omega arith)

pub numbers_step : (g : Parts) (k : Kind) (ns : List ℕ) (ps : List Spot) (i : ℕ) (old new all : Row) → i < length ns → new ≡ old ++ head_in g k (slice_get g.decls (get_or ns i 0)) (get_or ns i 0) ps → old ++ headed_in g k (drop i ns) ps ≡ all → new ++ headed_in g k (drop (i + 1) ns) ps ≡ all
numbers_step g k ns ps i old new all l h q = headed_step g k ns ps i (get_or ns i 0) old new all l (get_default ns i 0 (get_or ns i 0) l) h q

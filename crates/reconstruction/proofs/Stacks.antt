-- The stack of terms, and the arguments that are taken from it.
use Rattle.std.proofs.Common.{reverse, ◌≡◌, ℕ, zero, suc, ◌+◌, ◌<◌, ◌≤◌, List, [], ◌∷◌, ◌++◌, length, get_or, drop, take, map, All, refl, sym, ap, subst, ◌∙◌, arith, length-append}
use Rattle.std.proofs.Math.Seq.{drop-cons}
use Rattle.std.proofs.lemmas.List.{take_more}
use Rattle.std.proofs.lemmas.List.Elements.{All-head, All-tail}
use Rattle.std.proofs.lemmas.Grind.{reverse_onto}
use Rattle.terms.specs.Expr.{Expr, Args, no_args}
use Rattle.terms.specs.View.{expr, arg, args_view}
use Rattle.terms.specs.declared.parts.Arg.{Arg}
use Rattle.terms.specs.declared.parts.Parts.{Parts}
use Rattle.terms.specs.declared.term.Term.{Term}
use Rattle.terms.specs.declared.term.TermArg.{TermArg}
use Rattle.reconstruction.specs.Tabled.{front_of}
use Rattle.terms.specs.Typing.{placed}
use Rattle.partial_terms.specs.Built.{stacked, onto, args_with, left_over, IsEnded, IsTermOf, AreTermsOf}
use Rattle.reconstruction.specs.declared.item.Arena.{Arena}

-- what is pushed comes first
pub stacked-push : (ts : List Term) (t : Term) → stacked (ts ++ t ∷ []) ≡ expr t ∷ stacked ts
stacked-push [] t = refl
stacked-push (x ∷ ts) t = ap (λ l. l ++ expr x ∷ []) (stacked-push ts t)

pub length-stacked : (ts : List Term) → length (stacked ts) ≡ length ts
length-stacked [] = refl
length-stacked (t ∷ ts) = omega (arith, length-stacked ts, length-append (stacked ts) (expr t ∷ []))

onto-push : (xs : List TermArg) (x : TermArg) (rest : Args) → onto (xs ++ x ∷ []) rest ≡ onto xs (arg x rest)
onto-push [] x rest = refl
onto-push (y ∷ xs) x rest = ap (arg y) (onto-push xs x rest)

onto-none : (xs : List TermArg) → onto xs no_args ≡ args_view xs
onto-none [] = refl
onto-none (x ∷ xs) = ap (arg x) (onto-none xs)

-- how far the arguments have been taken
pub record AreTaken (wanted : List Arg) (i : ℕ) (args : List TermArg) (before now : List Term) : Type 0 where
  pub args_so_far : args_with wanted (stacked before) ≡ onto args (args_with (drop i wanted) (stacked now))
  pub rest_so_far : left_over wanted (stacked before) ≡ left_over (drop i wanted) (stacked now)
  pub enough : length wanted ≤ i + length now

pub none_taken : (wanted : List Arg) (args : List TermArg) (before : List Term) → args ≡ [] → length wanted ≤ length before → AreTaken wanted 0 args before before
none_taken wanted args before none l = record {
  args_so_far = ap (λ xs. onto xs (args_with wanted (stacked before))) (sym none);
  rest_so_far = refl;
  enough = omega arith;
}

-- one more
pub more_taken : (wanted : List Arg) (i : ℕ) (args new : List TermArg) (made : TermArg) (wish d : Arg) (before now left : List Term) (t : Term) → AreTaken wanted i args before now → i < length wanted → wish ≡ get_or wanted i d
    → now ≡ left ++ t ∷ [] → ((rest : Args) → arg made rest ≡ placed wish (expr t) rest) → new ≡ args ++ made ∷ [] → AreTaken wanted (i + 1) new before left
more_taken wanted i args new made wish d before now left t h low is popped put push =
    let cut : drop i wanted ≡ get_or wanted i d ∷ drop (suc i) wanted = drop-cons wanted i d low in
    let next : suc i ≡ i + 1 = omega arith in
    let cut_here : drop i wanted ≡ wish ∷ drop (i + 1) wanted = cut ∙ ap (λ a. a ∷ drop (suc i) wanted) (sym is) ∙ ap (λ k. wish ∷ drop k wanted) next in
    let top : stacked now ≡ expr t ∷ stacked left = ap stacked popped ∙ stacked-push left t in
    let one = ap (λ (l : List Term). length l) popped ∙ length-append left (t ∷ []) in
    let enough = h.enough in
    record {
      args_so_far = h.args_so_far ∙ ap (λ w. onto args (args_with w (stacked now))) cut_here ∙ ap (λ es. onto args (args_with (wish ∷ drop (i + 1) wanted) es)) top
          ∙ ap (onto args) (sym (put (args_with (drop (i + 1) wanted) (stacked left)))) ∙ sym (onto-push args made (args_with (drop (i + 1) wanted) (stacked left)))
          ∙ ap (λ xs. onto xs (args_with (drop (i + 1) wanted) (stacked left))) (sym push);
      rest_so_far = h.rest_so_far ∙ ap (λ w. left_over w (stacked now)) cut_here ∙ ap (left_over (wish ∷ drop (i + 1) wanted)) top;
      enough = omega (arith, one, enough);
    }

drop-end : (wanted : List Arg) (i : ℕ) → length wanted ≤ i → drop i wanted ≡ []
drop-end [] zero l = refl
drop-end [] (suc i) l = refl
drop-end (a ∷ wanted) zero l = absurd (omega arith)
drop-end (a ∷ wanted) (suc i) l = drop-end wanted i (omega arith)

-- all of them
pub all_args : (wanted : List Arg) (i : ℕ) (args : List TermArg) (before now : List Term) → AreTaken wanted i args before now → length wanted ≤ i → args_view args ≡ args_with wanted (stacked before)
all_args wanted i args before now h l = sym (h.args_so_far ∙ ap (λ w. onto args (args_with w (stacked now))) (drop-end wanted i l) ∙ onto-none args)

pub all_rest : (wanted : List Arg) (i : ℕ) (args : List TermArg) (before now : List Term) → AreTaken wanted i args before now → length wanted ≤ i → stacked now ≡ left_over wanted (stacked before)
all_rest wanted i args before now h l = sym (h.rest_so_far ∙ ap (λ w. left_over w (stacked now)) (drop-end wanted i l))

-- the last number of a front
pub front-last : (a : Arena) (i n r : ℕ) → get_or a.fronts i [] ≡ n ∷ get_or a.fronts r [] → front_of a i ≡ front_of a r ++ n ∷ []
front-last a i n r h = ap reverse h ∙ reverse_onto (get_or a.fronts r []) n []

pub front-none : (a : Arena) (i : ℕ) → get_or a.fronts i [] ≡ [] → front_of a i ≡ []
front-none a i h = ap reverse h

-- one front of several
pub ended_at : (g : Parts) (a : Arena) (found : List ℕ) (k d : ℕ) → k < length found → All (IsEnded g) (map (front_of a) found) → IsEnded g (front_of a (get_or found k d))
ended_at g a [] k d l h = absurd (omega arith)
ended_at g a (x ∷ found) zero d l h = All-head (IsEnded g) (front_of a x) (map (front_of a) found) h
ended_at g a (x ∷ found) (suc k) d l h = ended_at g a found k d (omega arith) (All-tail (IsEnded g) (front_of a x) (map (front_of a) found) h)

terms-push : (g : Parts) (fs : List (List ℕ)) (xs : List Expr) (f : List ℕ) (x : Expr) → AreTermsOf g fs xs → IsTermOf g f x → AreTermsOf g (fs ++ f ∷ []) (xs ++ x ∷ [])
terms-push g [] [] f x h t = (t, tt)
terms-push g [] (y ∷ xs) f x h t = absurd h
terms-push g (e ∷ fs) [] f x h t = absurd h
terms-push g (e ∷ fs) (y ∷ xs) f x h t = (h.0, terms-push g fs xs f x h.1 t)

map-push : {X Y : Type 0} (f : X → Y) (xs : List X) (x : X) → map f (xs ++ x ∷ []) ≡ map f xs ++ f x ∷ []
map-push f [] x = refl
map-push f (y ∷ xs) x = ap (λ l. f y ∷ l) (map-push f xs x)

-- one term more
pub more_terms : (g : Parts) (a : Arena) (found : List ℕ) (i d : ℕ) (old new : List Term) (t : Term) → i < length found → AreTermsOf g (map (front_of a) (take i found)) (map expr old) → IsTermOf g (front_of a (get_or found i d)) (expr t) → new ≡ old ++ t ∷ [] → AreTermsOf g (map (front_of a) (take (i + 1) found)) (map expr new)
more_terms g a found i d old new t low h made push =
    let fs : map (front_of a) (take (i + 1) found) ≡ map (front_of a) (take i found) ++ front_of a (get_or found i d) ∷ [] = ap (map (front_of a)) (take_more found i d low) ∙ map-push (front_of a) (take i found) (get_or found i d) in
    let xs : map expr new ≡ map expr old ++ expr t ∷ [] = ap (map expr) push ∙ map-push expr old t in
    let P : List (List ℕ) → Type 0 = λ l. AreTermsOf g l (map expr new) in
    let Q : List Expr → Type 0 = λ l. AreTermsOf g (map (front_of a) (take i found) ++ front_of a (get_or found i d) ∷ []) l in
    subst P (sym fs) (subst Q (sym xs) (terms-push g (map (front_of a) (take i found)) (map expr old) (front_of a (get_or found i d)) (expr t) h made))

-- The lines that stand once, after all others.
use Rattle.std.proofs.Common.{◌≡◌, ◌∙◌, sym, ap, subst, ℕ, suc, zero, ◌+◌, List, [], ◌∷◌, ◌++◌, length, map, arith, refl, Bool, true, false, ◌&&◌, Option, Some, None, append_assoc, append-nil, length-append}
use Rattle.std.specs.Prelude.{is_some, option_map, unwrap_or}
use Rattle.std.specs.List.{flat_map, find}
use Rattle.std.proofs.lemmas.Grind.{flat_map-append}
use Rattle.sheets.specs.Words.{has, is_number, number}
use Rattle.sheets.specs.SheetLines.{Line, type_line, sub_line, decl_line, goal_line, number_line, binder_line, DeclWords}
use Rattle.sheets.specs.Sheets.{Seen, cause, cause_after, told, types_of, goals_of, binders_of, numbers_of, numbers_from, number_at, type_in, goal_in, binder_in, seen_in, once_cause, number_cause, type_cause, is_same, told_number, value_of}
use Rattle.sheets.specs.declared.kind.NumberWord.{NumberWord}
use Rattle.sheets.specs.declared.kind.NumberWord.TheVariants.{Limit, Depth, Bound, Binding, Step}
use Rattle.sheets.specs.declared.number_lines.NumberLine.{NumberLine}
use Rattle.sheets.proofs.Fine.{IsFine, fine-next, fine-last}

-- lines of which none stands once
pub record IsQuiet (l : Line) : Type 0 where
  pub goal : goal_in l ≡ []
  pub binder : binder_in l ≡ []
  pub number : (n : ℕ) → number_at n l ≡ []

abbrev pub AreQuiet : List Line → Type 0
AreQuiet [] = Unit {0}
AreQuiet (l ∷ ls) = IsQuiet l × AreQuiet ls

pub quiet-map : {X : Type 0} (f : X → Line) → ((x : X) → IsQuiet (f x)) → (xs : List X) → AreQuiet (map f xs)
quiet-map f q [] = tt
quiet-map f q (x ∷ xs) = (q x, quiet-map f q xs)

pub quiet-append : (xs ys : List Line) → AreQuiet xs → AreQuiet ys → AreQuiet (xs ++ ys)
quiet-append [] ys q r = r
quiet-append (x ∷ xs) ys q r = (q.0, quiet-append xs ys q.1 r)

pub goals-quiet : (ls more : List Line) → AreQuiet ls → goals_of (ls ++ more) ≡ goals_of more
goals-quiet [] more q = refl
goals-quiet (l ∷ ls) more q = rw (q.0.goal) (goals-quiet ls more q.1)

pub binders-quiet : (ls more : List Line) → AreQuiet ls → binders_of (ls ++ more) ≡ binders_of more
binders-quiet [] more q = refl
binders-quiet (l ∷ ls) more q = rw (q.0.binder) (binders-quiet ls more q.1)

numbers-quiet-from : (n : ℕ) (ls more : List Line) → AreQuiet ls → numbers_from n (ls ++ more) ≡ numbers_from (n + length ls) more
unfolding numbers_from
numbers-quiet-from n [] more q = ap (λ k. numbers_from k more) (omega arith)
numbers-quiet-from n (l ∷ ls) more q =
    ap (λ x. x ++ numbers_from (n + 1) (ls ++ more)) (q.0.number n) ∙ numbers-quiet-from (n + 1) ls more q.1 ∙ ap (λ k. numbers_from k more) (omega arith)

pub numbers-quiet : (ls more : List Line) → AreQuiet ls → numbers_of (ls ++ more) ≡ numbers_from (2 + length ls) more
numbers-quiet ls more q = numbers-quiet-from 2 ls more q

-- the cause at a line after quiet ones and these
abbrev seen-after : List Line → List Line → Seen
seen-after b x = record { goal = told (goals_of x); numbers = numbers_from (2 + length b) x; binder = told (binders_of x) }

seen-is-after : (b x : List Line) → AreQuiet b → seen_in (b ++ x) ≡ seen-after b x
seen-is-after b x q = rw (goals-quiet b x q, numbers-quiet b x q, binders-quiet b x q) refl

types-after : (ts : List (List ℕ)) (b x : List Line) → types_of b ≡ ts → types_of x ≡ [] → types_of (b ++ x) ≡ ts
types-after ts b x is none = flat_map-append type_in b x ∙ ap (λ y. types_of b ++ y) none ∙ append-nil (types_of b) ∙ is

last-next : (ts : List (List ℕ)) (b x : List Line) (l : Line) (ls : List Line) → types_of b ≡ ts → AreQuiet b → types_of x ≡ [] → cause ts (seen-after b x) l ≡ None → IsFine (b ++ (x ++ l ∷ [])) ls → IsFine (b ++ x) (l ∷ ls)
last-next ts b x l ls is q none e h =
    let at : cause_after (b ++ x) l ≡ None = ap (λ y. cause y (seen_in (b ++ x)) l) (types-after ts b x is none) ∙ ap (λ s. cause ts s l) (seen-is-after b x q) ∙ e in
    fine-next (b ++ x) l ls at (subst (λ y. IsFine y ls) (sym (append_assoc b x (l ∷ []))) h)

goal-fine : (ts : List (List ℕ)) (ns : List NumberLine) (p : Bool) (t : List ℕ) → has ts t ≡ true → cause ts (record { goal = false; numbers = ns; binder = p }) (goal_line t) ≡ None
unfolding cause type_cause once_cause
goal-fine ts ns p t h = rw (h) refl

number-fine : (ts : List (List ℕ)) (ns : List NumberLine) (g p : Bool) (w : NumberWord) (t : List ℕ) → is_number t ≡ true → told_number w ns ≡ None → cause ts (record { goal = g; numbers = ns; binder = p }) (number_line w t) ≡ None
unfolding cause number_cause once_cause
number-fine ts ns g p w t h e = rw (h, e) refl

binder-fine : (ts : List (List ℕ)) (ns : List NumberLine) (g : Bool) (t : List ℕ) → cause ts (record { goal = g; numbers = ns; binder = false }) (binder_line t) ≡ None
unfolding cause once_cause
binder-fine ts ns g t = refl

-- the last lines of a sheet
abbrev pub last-of : List ℕ → List ℕ → List ℕ → List ℕ → List ℕ → List ℕ → List ℕ → List Line
last-of t a b p c d e = goal_line t ∷ number_line Limit a ∷ number_line Depth b ∷ binder_line p ∷ number_line Bound c ∷ number_line Binding d ∷ number_line Step e ∷ []

pub last-fine : (ts : List (List ℕ)) (q : List Line) (t a b p c d e : List ℕ) → types_of q ≡ ts → AreQuiet q → has ts t ≡ true → is_number a ≡ true → is_number b ≡ true → is_number c ≡ true → is_number d ≡ true → is_number e ≡ true → IsFine (q ++ []) (last-of t a b p c d e)
unfolding numbers_from is_same
last-fine ts q t a b p c d e is quiet ht ha hb hc hd he =
    last-next ts q [] (goal_line t) _ is quiet refl (goal-fine ts [] false t ht)
    (last-next ts q (goal_line t ∷ []) (number_line Limit a) _ is quiet refl (number-fine ts (numbers_from (2 + length q) (goal_line t ∷ [])) true false Limit a ha refl)
    (last-next ts q (goal_line t ∷ number_line Limit a ∷ []) (number_line Depth b) _ is quiet refl (number-fine ts (numbers_from (2 + length q) (goal_line t ∷ number_line Limit a ∷ [])) true false Depth b hb refl)
    (last-next ts q (goal_line t ∷ number_line Limit a ∷ number_line Depth b ∷ []) (binder_line p) _ is quiet refl (binder-fine ts (numbers_from (2 + length q) (goal_line t ∷ number_line Limit a ∷ number_line Depth b ∷ [])) true p)
    (last-next ts q (goal_line t ∷ number_line Limit a ∷ number_line Depth b ∷ binder_line p ∷ []) (number_line Bound c) _ is quiet refl (number-fine ts (numbers_from (2 + length q) (goal_line t ∷ number_line Limit a ∷ number_line Depth b ∷ binder_line p ∷ [])) true true Bound c hc refl)
    (last-next ts q (goal_line t ∷ number_line Limit a ∷ number_line Depth b ∷ binder_line p ∷ number_line Bound c ∷ []) (number_line Binding d) _ is quiet refl (number-fine ts (numbers_from (2 + length q) (goal_line t ∷ number_line Limit a ∷ number_line Depth b ∷ binder_line p ∷ number_line Bound c ∷ [])) true true Binding d hd refl)
    (last-next ts q (goal_line t ∷ number_line Limit a ∷ number_line Depth b ∷ binder_line p ∷ number_line Bound c ∷ number_line Binding d ∷ []) (number_line Step e) _ is quiet refl (number-fine ts (numbers_from (2 + length q) (goal_line t ∷ number_line Limit a ∷ number_line Depth b ∷ binder_line p ∷ number_line Bound c ∷ number_line Binding d ∷ [])) true true Step e he refl)
    (fine-last (q ++ last-of t a b p c d e) (ap told (goals-quiet q (last-of t a b p c d e) quiet)))))))))

-- what the numbers of these lines are
pub limit-last : (n : ℕ) (t a b p c d e : List ℕ) → value_of Limit (numbers_from n (last-of t a b p c d e)) ≡ number a
unfolding numbers_from is_same
limit-last n t a b p c d e = refl

pub depth-last : (n : ℕ) (t a b p c d e : List ℕ) → value_of Depth (numbers_from n (last-of t a b p c d e)) ≡ number b
unfolding numbers_from is_same
depth-last n t a b p c d e = refl

pub bound-last : (n : ℕ) (t a b p c d e : List ℕ) → value_of Bound (numbers_from n (last-of t a b p c d e)) ≡ number c
unfolding numbers_from is_same
bound-last n t a b p c d e = refl

pub binding-last : (n : ℕ) (t a b p c d e : List ℕ) → value_of Binding (numbers_from n (last-of t a b p c d e)) ≡ number d
unfolding numbers_from is_same
binding-last n t a b p c d e = refl

pub step-last : (n : ℕ) (t a b p c d e : List ℕ) → value_of Step (numbers_from n (last-of t a b p c d e)) ≡ number e
unfolding numbers_from is_same
step-last n t a b p c d e = refl

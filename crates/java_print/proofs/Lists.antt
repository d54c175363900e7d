-- Texts of a list, written one after the other.
use Rattle.std.proofs.Common.{◌≡◌, ◌≢◌, ◌⊎◌, inl, inr, ℕ, zero, suc, ◌+◌, ◌<◌, ◌≤◌, ◌-◌, ◌&&◌, ap, sym, subst, ◌∙◌, get_or, drop, arith, List, [], ◌∷◌, refl, Bool, true, false, ◌++◌, length, map, append_assoc, append-nil, not, ◌||◌, if◌then◌else◌, is_some, Option, Some, None}
use Rattle.std.proofs.lemmas.Bool.{and_parts, false≢true}
use Rattle.std.proofs.lemmas.List.{drop_more, drop_all}
use Rattle.std.specs.List.{range_with_len}
use Rattle.terms.specs.Expr.{Args, no_args}
use Rattle.terms.specs.View.{expr, arg, args_view}
use Rattle.terms.specs.Typing.{fits}
use Rattle.terms.specs.Text.{printed, Printed, listed, argument_text, method_text, field_text, lambda_text, call_text, receiver_text, bracketed, is_bare_this, has_cast, with_cast}
use Rattle.terms.proofs.Views.{arg-Plain, arg-Lam}
use Rattle.java_print.proofs.Equations.{at_place-Plain, at_place-Lam, suits_place-Plain-Fun, suits_place-Lam-Plain}
use Rattle.terms.proofs.Typings.{fits-first, fits-apart}
use Rattle.terms.specs.declared.parts.Parts.{Parts}
use Rattle.terms.specs.declared.parts.Arg.{Arg}
use Rattle.terms.specs.declared.parts.Arg.TheVariants.{Plain, Fun}
use Rattle.terms.specs.declared.term.TermArg.{TermArg}
use Rattle.terms.specs.declared.term.TermArg as code
use Rattle.java_print.specs.Pieces.{at_place, suits_place, separator, rest_text, argument_texts, first_text, owner_text, is_first_bare, is_first_bracketed}

-- the next text of a list and the rest
pub rest-more : (first : Bool) (t : List ℕ) (ts : List (List ℕ)) → rest_text first (t ∷ ts) ≡ separator first ++ (t ++ rest_text false ts)
unfolding rest_text listed
rest-more first t [] = ap (λ u. separator first ++ u) (sym (append-nil t))
rest-more first t (u ∷ ts) = ap (λ v. separator first ++ v) (append_assoc t (44 ∷ 32 ∷ []) (listed (u ∷ ts)))

pub rest-first : (ts : List (List ℕ)) → rest_text true ts ≡ listed ts
unfolding rest_text listed
rest-first [] = refl
rest-first (t ∷ ts) = refl

pub rest-none : (first : Bool) → rest_text first [] ≡ []
unfolding rest_text
rest-none first = refl

-- the first argument that fits, and the others
pub printed-first : (g : Parts) (ctx : List (List ℕ)) (c : Bool) (a : TermArg) (rest : Args) (w : Arg) (more : List Arg) → suits_place g ctx a w ≡ true → printed g ctx c (arg a rest) (w ∷ more) ≡ at_place g ctx c a w ++ printed g ctx c rest more
unfolding printed at_place suits_place fits
printed-first g ctx c (code.Plain t) rest (Plain b) more h = rw (arg-Plain t rest, arg-Plain t no_args) refl
printed-first g ctx c (code.Plain t) rest (Fun ps r) more h = absurd (false≢true (ap (λ x. fits g ctx x (Fun ps r ∷ [])) (sym (arg-Plain t no_args)) ∙ h))
printed-first g ctx c (code.Lam t) rest (Plain b) more h = absurd (false≢true (ap (λ x. fits g ctx x (Plain b ∷ [])) (sym (arg-Lam t no_args)) ∙ h))
printed-first g ctx c (code.Lam t) rest (Fun ps r) more h = rw (arg-Lam t rest, arg-Lam t no_args) refl

-- one that fits is one
pub one_at_place : (g : Parts) (ctx : List (List ℕ)) (c : Bool) (a : TermArg) (w : Arg) (ps : List Printed) → suits_place g ctx a w ≡ true → map argument_text (at_place g ctx c a w ++ ps) ≡ first_text (at_place g ctx c a w) ∷ map argument_text ps
unfolding printed at_place suits_place fits
one_at_place g ctx c (code.Plain t) (Plain b) ps h = rw (arg-Plain t no_args) refl
one_at_place g ctx c (code.Plain t) (Fun qs r) ps h = absurd (false≢true (ap (λ x. fits g ctx x (Fun qs r ∷ [])) (sym (arg-Plain t no_args)) ∙ h))
one_at_place g ctx c (code.Lam t) (Plain b) ps h = absurd (false≢true (ap (λ x. fits g ctx x (Plain b ∷ [])) (sym (arg-Lam t no_args)) ∙ h))
one_at_place g ctx c (code.Lam t) (Fun qs r) ps h = rw (arg-Lam t no_args) refl

-- the arguments from the i-th on fit: so does the i-th, and the others do
pub fits-at : (g : Parts) (ctx : List (List ℕ)) (xs : List TermArg) (ws : List Arg) (i : ℕ) (x : TermArg) (w : Arg) → i < length xs → i < length ws → x ≡ get_or xs i x → w ≡ get_or ws i w → fits g ctx (args_view (drop i xs)) (drop i ws) ≡ true
    → (suits_place g ctx x w ≡ true) × (fits g ctx (args_view (drop (i + 1) xs)) (drop (i + 1) ws) ≡ true)
unfolding suits_place
fits-at g ctx xs ws i x w hx hw is_x is_w h =
    let split : fits g ctx (args_view (drop i xs)) (drop i ws) ≡ fits g ctx (arg x no_args) (w ∷ []) && fits g ctx (args_view (drop (i + 1) xs)) (drop (i + 1) ws)
    = rw (drop_more xs i x hx, drop_more ws i w hw, ← is_x, ← is_w) (fits-first g ctx x (args_view (drop (i + 1) xs)) w (drop (i + 1) ws)) in
    and_parts _ _ (sym split ∙ h)

pub texts-at : (g : Parts) (ctx : List (List ℕ)) (c : Bool) (xs : List TermArg) (ws : List Arg) (i : ℕ) (x : TermArg) (w : Arg) → i < length xs → i < length ws → x ≡ get_or xs i x → w ≡ get_or ws i w → suits_place g ctx x w ≡ true
    → argument_texts g ctx c (drop i xs) (drop i ws) ≡ first_text (at_place g ctx c x w) ∷ argument_texts g ctx c (drop (i + 1) xs) (drop (i + 1) ws)
texts-at g ctx c xs ws i x w hx hw is_x is_w h =
    rw (drop_more xs i x hx, drop_more ws i w hw, ← is_x, ← is_w)
    (ap (map argument_text) (printed-first g ctx c x (args_view (drop (i + 1) xs)) w (drop (i + 1) ws) h)
    ∙ one_at_place g ctx c x w (printed g ctx c (args_view (drop (i + 1) xs)) (drop (i + 1) ws)) h)

pub texts-end : (g : Parts) (ctx : List (List ℕ)) (c : Bool) (xs : List TermArg) (ws : List Arg) (i : ℕ) → length xs ≤ i → length ws ≤ i → argument_texts g ctx c (drop i xs) (drop i ws) ≡ []
unfolding printed
texts-end g ctx c xs ws i hx hw = ap (λ us. argument_texts g ctx c us (drop i ws)) (drop_all i xs hx) ∙ ap (argument_texts g ctx c []) (drop_all i ws hw)

-- as many arguments as places, where they fit
pub fits-long : (g : Parts) (ctx : List (List ℕ)) (xs : List TermArg) (ws : List Arg) → fits g ctx (args_view xs) ws ≡ true → length xs ≡ length ws
fits-long g ctx xs ws h = grind (arith, fits-apart)

-- a piece before the pieces that were written after it
pub before : (old mid new a b : List ℕ) → new ≡ mid ++ b → mid ≡ old ++ a → new ≡ old ++ (a ++ b)
before old mid new a b e h = e ∙ ap (λ o. o ++ b) h ∙ append_assoc old a b

-- two pieces were written, and the rest is to come
pub written : (old mid new a b rest : List ℕ) → mid ≡ old ++ a → new ≡ mid ++ b → new ++ rest ≡ old ++ (a ++ (b ++ rest))
written old mid new a b rest h e = ap (λ o. o ++ rest) (before old mid new a b e h) ∙ append_assoc old (a ++ b) rest ∙ ap (λ t. old ++ t) (append_assoc a b rest)

-- an argument that fits its place is printed as one
pub one_printed : (g : Parts) (ctx : List (List ℕ)) (c : Bool) (a : TermArg) (w : Arg) → suits_place g ctx a w ≡ true → (p : Printed) × (at_place g ctx c a w ≡ p ∷ [])
one_printed g ctx c (code.Plain t) (Plain b) h = (_, at_place-Plain g ctx c t b)
one_printed g ctx c (code.Plain t) (Fun ps r) h = absurd (false≢true (sym (suits_place-Plain-Fun g ctx t ps r) ∙ h))
one_printed g ctx c (code.Lam t) (Plain b) h = absurd (false≢true (sym (suits_place-Lam-Plain g ctx t b) ∙ h))
one_printed g ctx c (code.Lam t) (Fun ps r) h = (_, at_place-Lam g ctx c t ps r)

-- the first of some arguments that fit, and the others
pub record IsSplit (g : Parts) (ctx : List (List ℕ)) (c : Bool) (xs : List TermArg) (ws : List Arg) (x : TermArg) (w : Arg) : Type 0 where
  pub fits_first : suits_place g ctx x w ≡ true
  pub first : Printed
  pub at : at_place g ctx c x w ≡ first ∷ []
  pub all : printed g ctx c (args_view xs) ws ≡ first ∷ printed g ctx c (args_view (drop 1 xs)) (drop 1 ws)

pub split_first : (g : Parts) (ctx : List (List ℕ)) (c : Bool) (xs : List TermArg) (ws : List Arg) (x : TermArg) (w : Arg) → 0 < length xs → 0 < length ws → x ≡ get_or xs 0 x → w ≡ get_or ws 0 w → fits g ctx (args_view xs) ws ≡ true → IsSplit g ctx c xs ws x w
split_first g ctx c xs ws x w hx hw is_x is_w h =
    let both = fits-at g ctx xs ws 0 x w hx hw is_x is_w h in
    let one = one_printed g ctx c x w both.0 in
    let whole : printed g ctx c (args_view xs) ws ≡ at_place g ctx c x w ++ printed g ctx c (args_view (drop 1 xs)) (drop 1 ws)
    = rw (drop_more xs 0 x hx, drop_more ws 0 w hw, ← is_x, ← is_w) (printed-first g ctx c x (args_view (drop 1 xs)) w (drop 1 ws) both.0) in
    record { fits_first = both.0; first = one.0; at = one.1; all = whole ∙ ap (λ ps. ps ++ printed g ctx c (args_view (drop 1 xs)) (drop 1 ws)) one.1 }

-- nothing is printed of no arguments
pub printed-none : (g : Parts) (ctx : List (List ℕ)) (c : Bool) (xs : List TermArg) (ws : List Arg) → xs ≡ [] → printed g ctx c (args_view xs) ws ≡ []
unfolding printed
printed-none g ctx c xs ws e = ap (λ us. printed g ctx c (args_view us) ws) e

bare_kept : (b : Bool) (t : List ℕ) → (if b && not false then [] else t) ≡ (if b then [] else t)
bare_kept true t = refl
bare_kept false t = refl

-- a method is its receiver, its name and its arguments; a field is its receiver and its name
pub method_pieces : (s : List ℕ) (p : Printed) (ps : List Printed) → method_text s (p ∷ ps) ≡ owner_text false (p ∷ ps) ++ (s ++ call_text ps)
method_pieces s p ps =
    append_assoc (if is_bare_this p then [] else receiver_text p ++ 46 ∷ []) s (call_text ps)
    ∙ ap (λ t. t ++ (s ++ call_text ps)) (sym (bare_kept (is_bare_this p) (receiver_text p ++ 46 ∷ [])))

pub field_pieces : (s : List ℕ) (hidden : Bool) (p : Printed) (ps : List Printed) → field_text s hidden (p ∷ ps) ≡ owner_text hidden (p ∷ ps) ++ s
field_pieces s hidden p ps = refl

-- a lambda's pieces
pub lambda_pieces : (s names : List ℕ) (p : Printed) (ps : List Printed) → lambda_text s names (p ∷ ps) ≡ 40 ∷ [] ++ (s ++ (41 ∷ 32 ∷ 40 ∷ [] ++ (names ++ (41 ∷ 32 ∷ 45 ∷ 62 ∷ 32 ∷ [] ++ argument_text p))))
lambda_pieces s names p ps =
    let tail = 32 ∷ 45 ∷ 62 ∷ 32 ∷ argument_text p in
    let middle = 32 ∷ 40 ∷ (names ++ 41 ∷ []) in
    ap (λ t. 40 ∷ t) (append_assoc (s ++ 41 ∷ []) middle tail ∙ append_assoc s (41 ∷ []) (middle ++ tail)
    ∙ ap (λ t. s ++ 41 ∷ 32 ∷ 40 ∷ t) (append_assoc names (41 ∷ []) tail))

-- a receiver's pieces
pub owner_left_out : (keeps : Bool) (p : Printed) (ps : List Printed) → is_bare_this p && not keeps ≡ true → owner_text keeps (p ∷ ps) ≡ []
owner_left_out keeps p ps h = rw h refl

pub owner_bracketed : (keeps : Bool) (p : Printed) (ps : List Printed) → is_bare_this p && not keeps ≡ false → has_cast p || p.lambda ≡ true → owner_text keeps (p ∷ ps) ≡ 40 ∷ [] ++ (argument_text p ++ 41 ∷ 46 ∷ [])
owner_bracketed keeps p ps h e = rw (h, e) (append_assoc (40 ∷ argument_text p) (41 ∷ []) (46 ∷ []))

uncast : (c : Option (List ℕ)) (t : List ℕ) (l : Bool) → is_some c || l ≡ false → with_cast c t ≡ t
uncast None t l e = refl
uncast (Some c) t l e = absurd (false≢true (sym e))

pub owner_open : (keeps : Bool) (p : Printed) (ps : List Printed) → is_bare_this p && not keeps ≡ false → has_cast p || p.lambda ≡ false → owner_text keeps (p ∷ ps) ≡ argument_text p ++ 46 ∷ []
owner_open keeps p ps h e = rw (h, e) (ap (λ t. t ++ 46 ∷ []) (sym (uncast p.cast p.text p.lambda e)))

-- where there are arguments, the first and the others
pub some_length : {X : Type 0} (xs : List X) → xs ≢ [] → 0 < length xs
some_length [] h = absurd (h refl)
some_length (x ∷ xs) h = omega arith

pub some_split : (g : Parts) (ctx : List (List ℕ)) (c : Bool) (xs : List TermArg) (ws : List Arg) → 0 < length xs → fits g ctx (args_view xs) ws ≡ true
    → (p : Printed) × (printed g ctx c (args_view xs) ws ≡ p ∷ printed g ctx c (args_view (drop 1 xs)) (drop 1 ws)) × (fits g ctx (args_view (drop 1 xs)) (drop 1 ws) ≡ true)
some_split g ctx c [] ws l h = absurd (omega arith)
some_split g ctx c (x ∷ xs) [] l h = absurd (omega (arith, fits-long g ctx (x ∷ xs) [] h))
some_split g ctx c (x ∷ xs) (w ∷ ws) l h =
    let s = split_first g ctx c (x ∷ xs) (w ∷ ws) x w (omega arith) (omega arith) refl refl h in
    (s.first, s.all, (fits-at g ctx (x ∷ xs) (w ∷ ws) 0 x w (omega arith) (omega arith) refl refl h).1)

-- the same where the argument is printed as one
pub owner_open_at : (keeps : Bool) (ps : List Printed) (p : Printed) → ps ≡ p ∷ [] → is_first_bare ps && not keeps ≡ false → is_first_bracketed ps ≡ false → owner_text keeps ps ≡ first_text ps ++ 46 ∷ []
owner_open_at keeps ps p e = subst (λ qs. is_first_bare qs && not keeps ≡ false → is_first_bracketed qs ≡ false → owner_text keeps qs ≡ first_text qs ++ 46 ∷ []) (sym e) (owner_open keeps p [])

pub owner_bracketed_at : (keeps : Bool) (ps : List Printed) (p : Printed) → ps ≡ p ∷ [] → is_first_bare ps && not keeps ≡ false → is_first_bracketed ps ≡ true → owner_text keeps ps ≡ 40 ∷ [] ++ (first_text ps ++ 41 ∷ 46 ∷ [])
owner_bracketed_at keeps ps p e = subst (λ qs. is_first_bare qs && not keeps ≡ false → is_first_bracketed qs ≡ true → owner_text keeps qs ≡ 40 ∷ [] ++ (first_text qs ++ 41 ∷ 46 ∷ [])) (sym e) (owner_bracketed keeps p [])

pub owner_left_out_at : (keeps : Bool) (ps : List Printed) (p : Printed) → ps ≡ p ∷ [] → is_first_bare ps && not keeps ≡ true → owner_text keeps ps ≡ []
owner_left_out_at keeps ps p e = subst (λ qs. is_first_bare qs && not keeps ≡ true → owner_text keeps qs ≡ []) (sym e) (owner_left_out keeps p [])

-- no length, no list
pub empty_list : {X : Type 0} (xs : List X) → length xs ≡ 0 → xs ≡ []
empty_list [] h = refl
empty_list (x ∷ xs) h = absurd (omega (arith, h))

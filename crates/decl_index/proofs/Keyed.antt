-- Counts as classes without parts, so that what is known of sorted classes holds of counts.
use Rattle.std.proofs.Common.{◌≡◌, ℕ, Bool, true, false, cond, List, [], ◌∷◌, map, Option, Some, None, Less, refl, sym, ap, ◌∙◌}
use Rattle.std.specs.Prelude.{bytes_eq, option_map}
use Rattle.std.specs.List.{AllByRecursion}
use Rattle.std.specs.Option.{option_or}
use Rattle.known_classes.specs.declared.summary.ClassSummary.{ClassSummary}
use Rattle.known_classes.specs.Known.{class_named}
use Rattle.decl_index.specs.History.{Name, order, Rises, CountsRise, count_at, counted, decided, put}
use Rattle.decl_index.specs.Places.{told_or}
use Rattle.decl_index.proofs.Names.{same-true}
use Rattle.decl_index.proofs.State.{one_list}

abbrev pub as_class : Name × ℕ → ClassSummary
as_class p = record { name = p.0; flags = p.1; nesting = None; supers = []; fields = []; methods = [] }

abbrev pub flags_of : ClassSummary → ℕ
flags_of c = c.flags

abbrev pub pair_of : ClassSummary → Name × ℕ
pair_of c = (c.name, c.flags)

above-of : (n : Name) (ps : List (Name × ℕ)) → AllByRecursion (λ q. order n q.0 ≡ Less) ps → AllByRecursion (λ d. order n d.name ≡ Less) (map as_class ps)
above-of n [] h = h
above-of n (p ∷ ps) h = (h.0, above-of n ps h.1)

rises-of : (ps : List (Name × ℕ)) → CountsRise ps → Rises (map as_class ps)
unfolding CountsRise Rises
rises-of [] h = h
rises-of (p ∷ ps) h = (above-of p.0 ps h.0, rises-of ps h.1)

above-back : (n : Name) (cs : List ClassSummary) → AllByRecursion (λ d. order n d.name ≡ Less) cs → AllByRecursion (λ q. order n q.0 ≡ Less) (map pair_of cs)
above-back n [] h = h
above-back n (c ∷ cs) h = (h.0, above-back n cs h.1)

pub rises-back : (cs : List ClassSummary) → Rises cs → CountsRise (map pair_of cs)
unfolding CountsRise Rises
rises-back [] h = h
rises-back (c ∷ cs) h = (above-back c.name cs h.0, rises-back cs h.1)

pairs-back : (ps : List (Name × ℕ)) → map pair_of (map as_class ps) ≡ ps
pairs-back [] = refl
pairs-back (p ∷ ps) = ap (λ qs. p ∷ qs) (pairs-back ps)

abbrev keyed : Name → ℕ → ClassSummary
keyed n k = as_class (n, k)

named-by : (b : Bool) (p : Name × ℕ) (n : Name) (x : Option ClassSummary) (y : Option ℕ) → bytes_eq n p.0 ≡ b → x ≡ option_map (keyed n) y → cond b (Some (as_class p)) x ≡ option_map (keyed n) (cond b (Some p.1) y)
named-by true p n x y e h = ap (λ m. Some (as_class (m, p.1))) (same-true p.0 n e)
named-by false p n x y e h = h

named-of : (ps : List (Name × ℕ)) (n : Name) → class_named (map as_class ps) n ≡ option_map (keyed n) (count_at ps n)
unfolding class_named count_at
named-of [] n = refl
named-of (p ∷ ps) n = named-by (bytes_eq n p.0) p n (class_named (map as_class ps) n) (count_at ps n) refl (named-of ps n)

at-by : (b : Bool) (c : ClassSummary) (x : Option ℕ) (y : Option ClassSummary) → x ≡ option_map flags_of y → cond b (Some c.flags) x ≡ option_map flags_of (cond b (Some c) y)
at-by true c x y h = refl
at-by false c x y h = h

pub at-back : (cs : List ClassSummary) (n : Name) → count_at (map pair_of cs) n ≡ option_map flags_of (class_named cs n)
unfolding class_named count_at
at-back [] n = refl
at-back (c ∷ cs) n = at-by (bytes_eq n c.name) c (count_at (map pair_of cs) n) (class_named cs n) (at-back cs n)

-- Counts in rising order with the same count at each key are one list.
pub one_counts : (ps qs : List (Name × ℕ)) → CountsRise ps → CountsRise qs → ((n : Name) → count_at ps n ≡ count_at qs n) → ps ≡ qs
one_counts ps qs r s h =
    let one : map as_class ps ≡ map as_class qs = one_list (map as_class ps) (map as_class qs) (rises-of ps r) (rises-of qs s) (λ n. named-of ps n ∙ ap (option_map (keyed n)) (h n) ∙ sym (named-of qs n)) in
    sym (pairs-back ps) ∙ ap (map pair_of) one ∙ pairs-back qs

-- What puts of such classes say of a name is the count of it.
says-by : (b : Bool) (n : Name) (p : Name × ℕ) (x : Option (Option ClassSummary)) (y : Option ℕ) → option_map (option_map flags_of) x ≡ option_map Some y → option_map (option_map flags_of) (option_or x (cond b (Some (Some (as_class p))) None)) ≡ option_map Some (option_or y (cond b (Some p.1) None))
says-by b n p (Some x) (Some y) h = h
says-by b n p (Some x) None h = absurd cc
says-by b n p None (Some y) h = absurd cc
says-by true n p None None h = refl
says-by false n p None None h = refl

says : (ps : List (Name × ℕ)) (n : Name) → option_map (option_map flags_of) (decided n (map put (map as_class ps))) ≡ option_map Some (counted n ps)
unfolding decided counted
says [] n = refl
says (p ∷ ps) n = says-by (bytes_eq n p.0) n p (decided n (map put (map as_class ps))) (counted n ps) (says ps n)

told-by : (x : Option (Option ClassSummary)) (y : Option ℕ) → option_map (option_map flags_of) x ≡ option_map Some y → option_map flags_of (told_or x None) ≡ y
told-by None None h = refl
told-by None (Some y) h = absurd cc
told-by (Some None) None h = absurd cc
told-by (Some None) (Some y) h = absurd cc
told-by (Some (Some c)) None h = absurd cc
told-by (Some (Some c)) (Some y) h = cc

pub told-counts : (ps : List (Name × ℕ)) (n : Name) → option_map flags_of (told_or (decided n (map put (map as_class ps))) None) ≡ counted n ps
told-counts ps n = told-by (decided n (map put (map as_class ps))) (counted n ps) (says ps n)

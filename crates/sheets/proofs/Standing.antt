-- A sheet, one line further.
use Rattle.std.proofs.Common.{◌≡◌, ◌∙◌, sym, ap, ℕ, ◌+◌, List, [], ◌∷◌, ◌++◌, map, length, arith, refl, Bool, true, false, if◌then◌else◌, ◌&&◌, Option, None, append_assoc, append-nil}
use Rattle.std.specs.Prelude.{option_map, is_some}
use Rattle.std.specs.List.{flat_map, list_all}
use Rattle.std.proofs.lemmas.List.{flat_map_more}
use Rattle.sheets.specs.Words.{has, index_of, is_number, number}
use Rattle.sheets.specs.SheetLines.{Line, blank, other, type_line, sub_line, decl_line, goal_line, number_line, binder_line, DeclWords}
use Rattle.sheets.specs.Sheets.{types_of, goals_of, binders_of, numbers_of, numbers_from, number_at, told_number, type_in, goal_in, binder_in, pair_in, decl_in, decl_of, wanted, has_all, first, told, Seen, seen_in, cause, cause_after, number_cause, type_cause, once_cause, places_where, is_sub, is_decl}
use Rattle.sheets.specs.Standing.{Stands, added, seen_by}
use Rattle.sheets.specs.declared.sheet.Sheet.{Sheet}
use Rattle.sheets.proofs.Indices.{index-more}
use Rattle.terms.specs.declared.parts.Arg.TheVariants.{Plain}

-- what it tells that there is no cause
number-none : (b : Bool) (later : Option ℕ) → number_cause b later ≡ None → later ≡ None
unfolding number_cause
number-none true later e = e
number-none false later e = absurd cc

type-none : (b : Bool) (later : Option ℕ) → type_cause b later ≡ None → (b ≡ true) × (later ≡ None)
unfolding type_cause
type-none true later e = (refl, e)
type-none false later e = absurd cc

once-none : (n : ℕ) (b : Bool) → once_cause n b ≡ None → b ≡ false
unfolding once_cause
once-none n true e = absurd cc
once-none n false e = refl

both : (a b : Bool) → (a && b) ≡ true → (a ≡ true) × (b ≡ true)
both true true e = (refl, refl)
both true false e = absurd cc
both false b e = absurd cc

none_told : (xs : List (List ℕ)) → told xs ≡ false → xs ≡ []
none_told [] e = refl
none_told (x ∷ xs) e = absurd cc

-- names that are declared keep their numbers
indices-more : (ts more ws : List (List ℕ)) → list_all (has ts) ws ≡ true → map (index_of (ts ++ more)) ws ≡ map (index_of ts) ws
indices-more ts more [] h = refl
indices-more ts more (w ∷ ws) h =
    let k = both (has ts w) (list_all (has ts) ws) h in
    rw (index-more ts more w k.0, indices-more ts more ws k.1) refl

plain-more : (ts more ws : List (List ℕ)) → list_all (has ts) ws ≡ true → map (λ w. Plain (index_of (ts ++ more) w)) ws ≡ map (λ w. Plain (index_of ts w)) ws
plain-more ts more [] h = refl
plain-more ts more (w ∷ ws) h =
    let k = both (has ts w) (list_all (has ts) ws) h in
    rw (index-more ts more w k.0, plain-more ts more ws k.1) refl

wanted-more : (ts more args body : List (List ℕ)) → list_all (has ts) args ≡ true → list_all (has ts) body ≡ true → wanted (ts ++ more) args body ≡ wanted ts args body
wanted-more ts more args [] h k = plain-more ts more args h
wanted-more ts more args (b ∷ bs) h k = rw (indices-more ts more args h, index-more ts more b (both (has ts b) (list_all (has ts) bs) k).0) refl

decl_of-more : (ts more : List (List ℕ)) (d : DeclWords) → has_all ts d ≡ true → decl_of (ts ++ more) d ≡ decl_of ts d
decl_of-more ts more d h =
    let k = both (has ts d.result) (list_all (has ts) d.args && list_all (has ts) d.body) h in
    let j = both (list_all (has ts) d.args) (list_all (has ts) d.body) k.1 in
    rw (index-more ts more d.result k.0, wanted-more ts more d.args d.body j.0 j.1) refl

more_of : {X : Type 0} (g : Line → List X) (ls : List Line) (l : Line) → flat_map g (ls ++ l ∷ []) ≡ flat_map g ls ++ g l
more_of g ls l = sym (flat_map_more g [] ls l)

-- what one line adds
added-types : (n : ℕ) (s : Sheet) (l : Line) → (added n s l).names ≡ s.names ++ type_in l
unfolding added
added-types n s blank = sym (append-nil s.names)
added-types n s other = sym (append-nil s.names)
added-types n s (type_line t) = refl
added-types n s (sub_line a b) = sym (append-nil s.names)
added-types n s (decl_line d) = sym (append-nil s.names)
added-types n s (goal_line t) = sym (append-nil s.names)
added-types n s (number_line w t) = sym (append-nil s.names)
added-types n s (binder_line t) = sym (append-nil s.names)

added-pairs : (n : ℕ) (s : Sheet) (l : Line) → (added n s l).pairs ≡ s.pairs ++ pair_in s.names l
unfolding added
added-pairs n s blank = sym (append-nil s.pairs)
added-pairs n s other = sym (append-nil s.pairs)
added-pairs n s (type_line t) = sym (append-nil s.pairs)
added-pairs n s (sub_line a b) = refl
added-pairs n s (decl_line d) = sym (append-nil s.pairs)
added-pairs n s (goal_line t) = sym (append-nil s.pairs)
added-pairs n s (number_line w t) = sym (append-nil s.pairs)
added-pairs n s (binder_line t) = sym (append-nil s.pairs)

added-decls : (n : ℕ) (s : Sheet) (l : Line) → (added n s l).decls ≡ s.decls ++ decl_in s.names l
unfolding added
added-decls n s blank = sym (append-nil s.decls)
added-decls n s other = sym (append-nil s.decls)
added-decls n s (type_line t) = sym (append-nil s.decls)
added-decls n s (sub_line a b) = sym (append-nil s.decls)
added-decls n s (decl_line d) = refl
added-decls n s (goal_line t) = sym (append-nil s.decls)
added-decls n s (number_line w t) = sym (append-nil s.decls)
added-decls n s (binder_line t) = sym (append-nil s.decls)

added-pair_lines : (n : ℕ) (s : Sheet) (l : Line) → (added n s l).pair_lines ≡ s.pair_lines ++ places_where is_sub n (l ∷ [])
unfolding added places_where is_sub
added-pair_lines n s blank = sym (append-nil s.pair_lines)
added-pair_lines n s other = sym (append-nil s.pair_lines)
added-pair_lines n s (type_line t) = sym (append-nil s.pair_lines)
added-pair_lines n s (sub_line a b) = refl
added-pair_lines n s (decl_line d) = sym (append-nil s.pair_lines)
added-pair_lines n s (goal_line t) = sym (append-nil s.pair_lines)
added-pair_lines n s (number_line w t) = sym (append-nil s.pair_lines)
added-pair_lines n s (binder_line t) = sym (append-nil s.pair_lines)

added-decl_lines : (n : ℕ) (s : Sheet) (l : Line) → (added n s l).decl_lines ≡ s.decl_lines ++ places_where is_decl n (l ∷ [])
unfolding added places_where is_decl
added-decl_lines n s blank = sym (append-nil s.decl_lines)
added-decl_lines n s other = sym (append-nil s.decl_lines)
added-decl_lines n s (type_line t) = sym (append-nil s.decl_lines)
added-decl_lines n s (sub_line a b) = sym (append-nil s.decl_lines)
added-decl_lines n s (decl_line d) = refl
added-decl_lines n s (goal_line t) = sym (append-nil s.decl_lines)
added-decl_lines n s (number_line w t) = sym (append-nil s.decl_lines)
added-decl_lines n s (binder_line t) = sym (append-nil s.decl_lines)

added-numbers : (n : ℕ) (s : Sheet) (l : Line) → (added n s l).numbers ≡ s.numbers ++ number_at n l
unfolding added
added-numbers n s blank = sym (append-nil s.numbers)
added-numbers n s other = sym (append-nil s.numbers)
added-numbers n s (type_line t) = sym (append-nil s.numbers)
added-numbers n s (sub_line a b) = sym (append-nil s.numbers)
added-numbers n s (decl_line d) = sym (append-nil s.numbers)
added-numbers n s (goal_line t) = sym (append-nil s.numbers)
added-numbers n s (number_line w t) = refl
added-numbers n s (binder_line t) = sym (append-nil s.numbers)

pair-more : (ts more : List (List ℕ)) (seen : Seen) (l : Line) → cause ts seen l ≡ None → pair_in (ts ++ more) l ≡ pair_in ts l
unfolding cause
pair-more ts more seen blank e = refl
pair-more ts more seen other e = refl
pair-more ts more seen (type_line t) e = refl
pair-more ts more seen (sub_line a b) e =
    let k = both (has ts a) (has ts b) (type-none (has ts a && has ts b) None e).0 in
    rw (index-more ts more a k.0, index-more ts more b k.1) refl
pair-more ts more seen (decl_line d) e = refl
pair-more ts more seen (goal_line t) e = refl
pair-more ts more seen (number_line w t) e = refl
pair-more ts more seen (binder_line t) e = refl

decl-more : (ts more : List (List ℕ)) (seen : Seen) (l : Line) → cause ts seen l ≡ None → decl_in (ts ++ more) l ≡ decl_in ts l
unfolding cause
decl-more ts more seen blank e = refl
decl-more ts more seen other e = refl
decl-more ts more seen (type_line t) e = refl
decl-more ts more seen (sub_line a b) e = refl
decl-more ts more seen (decl_line d) e =
    let k = type-none (has_all ts d) None (number-none (is_number d.weight) (type_cause (has_all ts d) None) e) in
    ap (λ x. x ∷ []) (decl_of-more ts more d k.0)
decl-more ts more seen (goal_line t) e = refl
decl-more ts more seen (number_line w t) e = refl
decl-more ts more seen (binder_line t) e = refl

goal-more : (n : ℕ) (s : Sheet) (ts more gs : List (List ℕ)) (seen : Seen) (l : Line) → s.names ≡ ts → seen.goal ≡ told gs → cause ts seen l ≡ None → s.goal ≡ option_map (index_of (ts ++ more)) (first gs) → (added n s l).goal ≡ option_map (index_of (ts ++ more)) (first (gs ++ goal_in l))
unfolding cause added
goal-more n s ts more gs seen blank is said e g = rw (append-nil gs) g
goal-more n s ts more gs seen other is said e g = rw (append-nil gs) g
goal-more n s ts more gs seen (type_line t) is said e g = rw (append-nil gs) g
goal-more n s ts more gs seen (sub_line a b) is said e g = rw (append-nil gs) g
goal-more n s ts more gs seen (decl_line d) is said e g = rw (append-nil gs) g
goal-more n s ts more gs seen (goal_line t) is said e g =
    let k = type-none (has ts t) (once_cause 7 seen.goal) e in
    rw (none_told gs (sym said ∙ once-none 7 seen.goal k.1), is, index-more ts more t k.0) refl
goal-more n s ts more gs seen (number_line w t) is said e g = rw (append-nil gs) g
goal-more n s ts more gs seen (binder_line t) is said e g = rw (append-nil gs) g

binder-more : (n : ℕ) (s : Sheet) (ts gs : List (List ℕ)) (seen : Seen) (l : Line) → seen.binder ≡ told gs → cause ts seen l ≡ None → s.binder ≡ first gs → (added n s l).binder ≡ first (gs ++ binder_in l)
unfolding cause added
binder-more n s ts gs seen blank said e g = rw (append-nil gs) g
binder-more n s ts gs seen other said e g = rw (append-nil gs) g
binder-more n s ts gs seen (type_line t) said e g = rw (append-nil gs) g
binder-more n s ts gs seen (sub_line a b) said e g = rw (append-nil gs) g
binder-more n s ts gs seen (decl_line d) said e g = rw (append-nil gs) g
binder-more n s ts gs seen (goal_line t) said e g = rw (append-nil gs) g
binder-more n s ts gs seen (number_line w t) said e g = rw (append-nil gs) g
binder-more n s ts gs seen (binder_line t) said e g = rw (none_told gs (sym said ∙ once-none 7 seen.binder e)) refl

-- line numbers, one line further
step : (b : Bool) (n : ℕ) (xs ys : List ℕ) → (if b then n ∷ (xs ++ ys) else xs ++ ys) ≡ (if b then n ∷ xs else xs) ++ ys
step true n xs ys = refl
step false n xs ys = refl

places-more : (p : Line → Bool) (n : ℕ) (ls : List Line) (l : Line) → places_where p n (ls ++ l ∷ []) ≡ places_where p n ls ++ places_where p (n + length ls) (l ∷ [])
unfolding places_where
places-more p n [] l = ap (λ k. if p l then k ∷ [] else []) (omega arith)
places-more p n (x ∷ ls) l =
    let later = places-more p (n + 1) ls l ∙ ap (λ k. places_where p (n + 1) ls ++ places_where p k (l ∷ [])) (omega arith) in
    rw (later) (step (p x) n (places_where p (n + 1) ls) (places_where p (n + length (x ∷ ls)) (l ∷ [])))

numbers-more : (n : ℕ) (ls : List Line) (l : Line) → numbers_from n (ls ++ l ∷ []) ≡ numbers_from n ls ++ number_at (n + length ls) l
unfolding numbers_from
numbers-more n [] l = append-nil (number_at n l) ∙ ap (λ k. number_at k l) (omega arith)
numbers-more n (x ∷ ls) l =
    let later = numbers-more (n + 1) ls l ∙ ap (λ k. numbers_from (n + 1) ls ++ number_at k l) (omega arith) in
    ap (λ y. number_at n x ++ y) later ∙ sym (append_assoc (number_at n x) (numbers_from (n + 1) ls) (number_at (n + length (x ∷ ls)) l))

-- which lines were seen
some_first : {X : Type 0} (f : List ℕ → X) (gs : List (List ℕ)) → is_some (option_map f (first gs)) ≡ told gs
some_first f [] = refl
some_first f (g ∷ gs) = refl

some_text : (gs : List (List ℕ)) → is_some (first gs) ≡ told gs
some_text [] = refl
some_text (g ∷ gs) = refl

pub seen-is : (s : Sheet) (ls : List Line) → Stands s ls → seen_by s ≡ seen_in ls
seen-is s ls st =
    let goal_is = ap is_some (st.goal []) ∙ some_first (index_of (types_of ls ++ [])) (goals_of ls) in
    let binder_is = ap is_some st.binder ∙ some_text (binders_of ls) in
    rw (goal_is, st.numbers, binder_is) refl

pub cause-is : (s : Sheet) (ls : List Line) (l : Line) → Stands s ls → cause s.names (seen_by s) l ≡ cause_after ls l
cause-is s ls l st = rw (st.types, seen-is s ls st) refl

pub stands-more : (n : ℕ) (s : Sheet) (ls : List Line) (l : Line) → n ≡ 2 + length ls → Stands s ls → cause_after ls l ≡ None → Stands (added n s l) (ls ++ l ∷ [])
stands-more n s ls l at st e =
    let ts = types_of ls in
    let seen = seen_in ls in
    let types_are : types_of (ls ++ l ∷ []) ≡ ts ++ type_in l = more_of type_in ls l in
    let wider : (more : List (List ℕ)) → types_of (ls ++ l ∷ []) ++ more ≡ ts ++ (type_in l ++ more) = λ more. ap (λ x. x ++ more) types_are ∙ append_assoc ts (type_in l) more in
    record {
      types = added-types n s l ∙ ap (λ x. x ++ type_in l) st.types ∙ sym types_are;
      pairs = λ more.
          added-pairs n s l
          ∙ ap (λ x. s.pairs ++ pair_in x l) st.types
          ∙ ap (λ x. s.pairs ++ x) (sym (pair-more ts (type_in l ++ more) seen l e))
          ∙ ap (λ x. x ++ pair_in (ts ++ (type_in l ++ more)) l) (st.pairs (type_in l ++ more))
          ∙ sym (more_of (pair_in (ts ++ (type_in l ++ more))) ls l)
          ∙ ap (λ x. flat_map (pair_in x) (ls ++ l ∷ [])) (sym (wider more));
      decls = λ more.
          added-decls n s l
          ∙ ap (λ x. s.decls ++ decl_in x l) st.types
          ∙ ap (λ x. s.decls ++ x) (sym (decl-more ts (type_in l ++ more) seen l e))
          ∙ ap (λ x. x ++ decl_in (ts ++ (type_in l ++ more)) l) (st.decls (type_in l ++ more))
          ∙ sym (more_of (decl_in (ts ++ (type_in l ++ more))) ls l)
          ∙ ap (λ x. flat_map (decl_in x) (ls ++ l ∷ [])) (sym (wider more));
      goal = λ more.
          goal-more n s ts (type_in l ++ more) (goals_of ls) seen l st.types refl e (st.goal (type_in l ++ more))
          ∙ ap (λ x. option_map (index_of (ts ++ (type_in l ++ more))) (first x)) (sym (more_of goal_in ls l))
          ∙ ap (λ x. option_map (index_of x) (first (goals_of (ls ++ l ∷ [])))) (sym (wider more));
      numbers = added-numbers n s l ∙ ap (λ x. x ++ number_at n l) st.numbers ∙ ap (λ k. numbers_of ls ++ number_at k l) at ∙ sym (numbers-more 2 ls l);
      binder = binder-more n s ts (binders_of ls) seen l refl e st.binder ∙ ap first (sym (more_of binder_in ls l));
      pair_lines = added-pair_lines n s l ∙ ap (λ x. x ++ places_where is_sub n (l ∷ [])) st.pair_lines ∙ ap (λ k. places_where is_sub 2 ls ++ places_where is_sub k (l ∷ [])) at ∙ sym (places-more is_sub 2 ls l);
      decl_lines = added-decl_lines n s l ∙ ap (λ x. x ++ places_where is_decl n (l ∷ [])) st.decl_lines ∙ ap (λ k. places_where is_decl 2 ls ++ places_where is_decl k (l ∷ [])) at ∙ sym (places-more is_decl 2 ls l);
    }

-- The lines of a sheet, one further.
use Rattle.std.proofs.Common.{◌≡◌, ◌≢◌, ◌∙◌, sym, ap, subst, ℕ, suc, ◌+◌, ◌^◌, ◌<◌, ◌≤◌, List, [], ◌∷◌, ◌++◌, map, length, take, drop, arith, refl, true, false, get_or, Option, Some, None, Result, Ok, Err, length-append, append-nil}
use Rattle.std.specs.Prelude.{MatchResult, IfOk, is_some, option_map}
use Rattle.std.specs.List.{flat_map}
use Rattle.std.proofs.lemmas.List.{drop_more, drop_all, take_more, take_all, map-append, length-take-le}
use Rattle.sheets.specs.Words.{word, index_of}
use Rattle.sheets.specs.SheetLines.{Line, blank, other, type_line, sub_line, decl_line, goal_line, number_line, binder_line, line_of}
use Rattle.sheets.specs.Sheets.{Fault, types_of, goals_of, type_in, pair_in, decl_in, first, told, cause, cause_after, first_fault, or_later, no_goal, places_where, numbers_from}
use Rattle.sheets.specs.Standing.{Stands, added, seen_by, parts_by, Refuses, RefusesAt}
use Rattle.sheets.specs.Standing.{fault_by, places_by}
use Rattle.sheets.specs.Sheets.{parts_of, body_of, text_fault, parts_fault, sheet_fault, fault_or, env_fault_at, IsSheet}
use Rattle.std.specs.Str.Lines.{lines}
use Rattle.std.specs.Prelude.{option_and_then}
use Rattle.terms.specs.declared.parts.Parts.{Parts}
use Rattle.terms.specs.declared.fault.EnvFault.{EnvFault}
use Rattle.terms.specs.declared.fault.EnvFault.TheVariants.{TypeRange, PairRange, PairTwice, Weight, Limit, NotTransitive, Depth, Step}
use Rattle.terms.specs.declared.fault.EnvFault.TheVariants as env
use Rattle.terms.specs.Faults.{HasLengths, IsValid, first_env_fault}
use Rattle.sheets.specs.declared.sheet.Sheet.{Sheet}
use Rattle.sheets.specs.declared.places.Places.{Places}
use Rattle.sheets.specs.declared.kind.Version.{Version}
use Rattle.sheets.specs.declared.reading.SheetFault.{SheetFault}
use Rattle.sheets.specs.declared.reading.SheetFault.TheVariants.{At, OutOfMemory}
use Rattle.sheets.proofs.Walks.{word-get}
use Rattle.sheets.proofs.Standing.{cause-is, stands-more}
use Rattle.sheets.proofs.Writable.{sheet-writable}
use Rattle.sheets.specs.Writing.{IsWritable}

-- the lines before and from the i-th
abbrev pub before : Version → List (List ℕ) → ℕ → List Line
before v xs i = map (line_of v) (take i xs)

abbrev pub from : Version → List (List ℕ) → ℕ → List Line
from v xs i = map (line_of v) (drop i xs)

pub map-length : (v : Version) (xs : List (List ℕ)) → length (map (line_of v) xs) ≡ length xs
map-length v [] = refl
map-length v (x ∷ xs) = ap suc (map-length v xs)

before-length : (v : Version) (xs : List (List ℕ)) (i : ℕ) → i ≤ length xs → length (before v xs i) ≡ i
before-length v xs i l = map-length v (take i xs) ∙ length-take-le i xs l

before-more : (v : Version) (xs : List (List ℕ)) (i : ℕ) → i < length xs → before v xs (i + 1) ≡ before v xs i ++ line_of v (word xs i) ∷ []
before-more v xs i l = ap (map (line_of v)) (take_more xs i [] l) ∙ map-append (line_of v) (take i xs) (get_or xs i [] ∷ []) ∙ ap (λ w. before v xs i ++ line_of v w ∷ []) (sym (word-get xs i))

from-more : (v : Version) (xs : List (List ℕ)) (i : ℕ) → i < length xs → from v xs i ≡ line_of v (word xs i) ∷ from v xs (i + 1)
from-more v xs i l = ap (map (line_of v)) (drop_more xs i [] l) ∙ ap (λ w. line_of v w ∷ from v xs (i + 1)) (sym (word-get xs i))

pub fault-step : (v : Version) (xs : List (List ℕ)) (i n : ℕ) → i < length xs → cause_after (before v xs i) (line_of v (word xs i)) ≡ None → first_fault n (before v xs i) (from v xs i) ≡ first_fault (n + 1) (before v xs (i + 1)) (from v xs (i + 1))
unfolding first_fault or_later
fault-step v xs i n l e = rw (from-more v xs i l, before-more v xs i l, e) refl

pub fault-stop : (v : Version) (xs : List (List ℕ)) (i n c : ℕ) → i < length xs → cause_after (before v xs i) (line_of v (word xs i)) ≡ Some c → first_fault n (before v xs i) (from v xs i) ≡ Some (record { line = n; cause = c })
unfolding first_fault or_later
fault-stop v xs i n c l e = rw (from-more v xs i l, e) refl

pub fault-end : (v : Version) (xs : List (List ℕ)) (i n : ℕ) → length xs ≤ i → first_fault n (before v xs i) (from v xs i) ≡ no_goal (told (goals_of (map (line_of v) xs))) n
unfolding first_fault
fault-end v xs i n l = rw (drop_all i xs l, take_all i xs l) refl

-- a line adds at most one of anything
type-short : (l : Line) → length (type_in l) ≤ 1
type-short blank = omega arith
type-short other = omega arith
type-short (type_line t) = omega arith
type-short (sub_line a b) = omega arith
type-short (decl_line d) = omega arith
type-short (goal_line t) = omega arith
type-short (number_line w t) = omega arith
type-short (binder_line t) = omega arith

pair-short : (ts : List (List ℕ)) (l : Line) → length (pair_in ts l) ≤ 1
pair-short ts blank = omega arith
pair-short ts other = omega arith
pair-short ts (type_line t) = omega arith
pair-short ts (sub_line a b) = omega arith
pair-short ts (decl_line d) = omega arith
pair-short ts (goal_line t) = omega arith
pair-short ts (number_line w t) = omega arith
pair-short ts (binder_line t) = omega arith

decl-short : (ts : List (List ℕ)) (l : Line) → length (decl_in ts l) ≤ 1
decl-short ts blank = omega arith
decl-short ts other = omega arith
decl-short ts (type_line t) = omega arith
decl-short ts (sub_line a b) = omega arith
decl-short ts (decl_line d) = omega arith
decl-short ts (goal_line t) = omega arith
decl-short ts (number_line w t) = omega arith
decl-short ts (binder_line t) = omega arith

short-of : {X : Type 0} (g : Line → List X) → ((l : Line) → length (g l) ≤ 1) → (ls : List Line) → length (flat_map g ls) ≤ length ls
short-of g one [] = omega arith
short-of g one (l ∷ ls) = omega (arith, length-append (g l) (flat_map g ls), one l, short-of g one ls)

types-short : (ls : List Line) → length (types_of ls) ≤ length ls
types-short ls = short-of type_in type-short ls

pub room : (v : Version) (s : Sheet) (xs : List (List ℕ)) (i : ℕ) → i ≤ length xs → length xs ≤ 16777217 → Stands s (before v xs i) → length s.names < 2 ^ 32
room v s xs i l m st = omega (arith, ap length st.types, types-short (before v xs i), before-length v xs i l, l, m)

pub stands-next : (v : Version) (s new : Sheet) (xs : List (List ℕ)) (i n : ℕ) (line : List ℕ) → i < length xs → n ≡ i + 2 → line ≡ word xs i → Stands s (before v xs i) → cause s.names (seen_by s) (line_of v line) ≡ None → new ≡ added n s (line_of v line) → Stands new (before v xs (i + 1))
stands-next v s new xs i n line l at is st none e =
    let ls = before v xs i in
    let this = line_of v (word xs i) in
    let after : cause_after ls this ≡ None = sym (cause-is s ls this st) ∙ ap (λ w. cause s.names (seen_by s) (line_of v w)) (sym is) ∙ none in
    let more = stands-more n s ls this (omega (arith, at, before-length v xs i (omega (arith, l)))) st after in
    let P : List Line → Type 0 = λ x. Stands (added n s this) x in
    let Q : Sheet → Type 0 = λ x. Stands x (before v xs (i + 1)) in
    subst Q (sym (e ∙ ap (λ w. added n s (line_of v w)) is)) (subst P (sym (before-more v xs i l)) more)

pub fault-next : (v : Version) (s : Sheet) (xs : List (List ℕ)) (i : ℕ) (line : List ℕ) → i < length xs → line ≡ word xs i → Stands s (before v xs i) → cause s.names (seen_by s) (line_of v line) ≡ None → first_fault 2 [] (map (line_of v) xs) ≡ first_fault (i + 2) (before v xs i) (from v xs i) → first_fault 2 [] (map (line_of v) xs) ≡ first_fault (i + 1 + 2) (before v xs (i + 1)) (from v xs (i + 1))
fault-next v s xs i line l is st none fault =
    let this = line_of v (word xs i) in
    let after : cause_after (before v xs i) this ≡ None = sym (cause-is s (before v xs i) this st) ∙ ap (λ w. cause s.names (seen_by s) (line_of v w)) (sym is) ∙ none in
    fault ∙ fault-step v xs i (i + 2) l after ∙ ap (λ n. first_fault n (before v xs (i + 1)) (from v xs (i + 1))) (omega arith)

pub refused : (v : Version) (s : Sheet) (xs : List (List ℕ)) (i n : ℕ) (line : List ℕ) (e : SheetFault) → i < length xs → n ≡ i + 2 → line ≡ word xs i → Stands s (before v xs i) → first_fault 2 [] (map (line_of v) xs) ≡ first_fault (i + 2) (before v xs i) (from v xs i) → RefusesAt n (cause s.names (seen_by s) (line_of v line)) e → Refuses (first_fault 2 [] (map (line_of v) xs)) e
refused v s xs i n line (At m c) l at is st fault h =
    let this = line_of v (word xs i) in
    let after : cause_after (before v xs i) this ≡ Some c = sym (cause-is s (before v xs i) this st) ∙ ap (λ w. cause s.names (seen_by s) (line_of v w)) (sym is) ∙ h.1 in
    fault ∙ fault-stop v xs i (i + 2) c l after ∙ ap (λ k. Some (record { line = k; cause = c })) (sym (h.0 ∙ at))
refused v s xs i n line OutOfMemory l at is st fault h = tt

-- no line is left
pub stands-all : (v : Version) (s : Sheet) (xs : List (List ℕ)) (i : ℕ) → length xs ≤ i → Stands s (before v xs i) → Stands s (map (line_of v) xs)
stands-all v s xs i l st =
    let P : List (List ℕ) → Type 0 = λ x. Stands s (map (line_of v) x) in
    subst P (take_all i xs l) st

goal-told : (f : List ℕ → ℕ) (gs : List (List ℕ)) → is_some (option_map f (first gs)) ≡ told gs
goal-told f [] = refl
goal-told f (g ∷ gs) = refl

-- whether there is a goal
pub some-goal : (s : Sheet) (ls : List Line) → Stands s ls → is_some s.goal ≡ told (goals_of ls)
some-goal s ls st = ap is_some (st.goal []) ∙ goal-told (index_of (types_of ls ++ [])) (goals_of ls)

pub with-goal : (s : Sheet) (ls : List Line) (n : ℕ) (r : Result Sheet SheetFault) → Stands s ls → first_fault 2 [] ls ≡ no_goal (told (goals_of ls)) n → MatchResult r (λ same. (same ≡ s) × (is_some s.goal ≡ true)) (λ fault. (is_some s.goal ≡ false) × (fault ≡ At n 8)) → MatchResult r (λ sheet. Stands sheet ls × (first_fault 2 [] ls ≡ None)) (λ fault. Refuses (first_fault 2 [] ls) fault)
unfolding no_goal
with-goal s ls n (Ok same) st fault h =
    let P : Sheet → Type 0 = λ x. Stands x ls in
    let some : told (goals_of ls) ≡ true = sym (some-goal s ls st) ∙ h.1 in
    (subst P (sym h.0) st, fault ∙ ap (λ b. no_goal b n) some)
with-goal s ls n (Err e) st fault h =
    let none : told (goals_of ls) ≡ false = sym (some-goal s ls st) ∙ h.0 in
    let Q : SheetFault → Type 0 = λ x. Refuses (first_fault 2 [] ls) x in
    subst Q (sym h.1) (fault ∙ ap (λ b. no_goal b n) none)

-- no line was read
pub stands-none : (s : Sheet) → s ≡ record { names = []; pairs = []; decls = []; goal = None; numbers = []; binder = None; pair_lines = []; decl_lines = [] } → Stands s []
unfolding places_where numbers_from
stands-none s e =
    let P : Sheet → Type 0 = λ x. Stands x [] in
    subst P (sym e) (record {
      types = refl;
      pairs = λ more. refl;
      decls = λ more. refl;
      goal = λ more. refl;
      numbers = refl;
      binder = refl;
      pair_lines = refl;
      decl_lines = refl;
    })

-- the parts that a sheet holds are those that its lines say
pub parts-is : (s : Sheet) (ls : List Line) → Stands s ls → parts_by s ≡ parts_of ls
parts-is s ls st =
    let nil : types_of ls ++ [] ≡ types_of ls = append-nil (types_of ls) in
    let pairs : s.pairs ≡ flat_map (pair_in (types_of ls)) ls = st.pairs [] ∙ ap (λ ts. flat_map (pair_in ts) ls) nil in
    let decls : s.decls ≡ flat_map (decl_in (types_of ls)) ls = st.decls [] ∙ ap (λ ts. flat_map (decl_in ts) ls) nil in
    let goal : s.goal ≡ option_map (index_of (types_of ls)) (first (goals_of ls)) = st.goal [] ∙ ap (λ ts. option_map (index_of ts) (first (goals_of ls))) nil in
    rw (st.types, pairs, decls, goal, st.numbers, st.binder) refl

-- and their lists are short
pub has-lengths : (s : Sheet) (ls : List Line) → Stands s ls → length ls ≤ 16777217 → HasLengths (parts_by s)
has-lengths s ls st l =
    let ts = types_of ls ++ [] in
    let pairs : length s.pairs ≤ length ls = omega (arith, ap length (st.pairs []), short-of (pair_in ts) (pair-short ts) ls) in
    let decls : length s.decls ≤ length ls = omega (arith, ap length (st.decls []), short-of (decl_in ts) (decl-short ts) ls) in
    record {
      types = omega (arith, ap length st.types, types-short ls, l);
      pairs = omega (arith, pairs, l);
      decls = omega (arith, decls, l);
      together = omega (arith, pairs, decls, l);
    }

-- the kept lines give the same fault of the environment
fault-is : (s : Sheet) (ls : List Line) (after : ℕ) (f : EnvFault) → Stands s ls → after ≡ length ls + 2 → fault_by (places_by s after) f ≡ env_fault_at ls f
unfolding fault_by env_fault_at
fault-is s ls after (TypeRange i) st at = rw (st.decl_lines) refl
fault-is s ls after (PairRange i) st at = rw (st.pair_lines) refl
fault-is s ls after (PairTwice i) st at = rw (st.pair_lines) refl
fault-is s ls after (Weight i) st at = rw (st.decl_lines) refl
fault-is s ls after (Limit n) st at = rw (st.numbers) refl
fault-is s ls after (NotTransitive a b c) st at = rw (at) refl
fault-is s ls after (Depth n) st at = rw (st.numbers) refl
fault-is s ls after (env.Form i) st at = rw (st.decl_lines) refl
fault-is s ls after (Step i) st at = rw (st.numbers) refl
fault-is s ls after env.OutOfMemory st at = refl

found-is : (s : Sheet) (ls : List Line) (after : ℕ) (f : Option EnvFault) → Stands s ls → after ≡ length ls + 2 → option_and_then (fault_by (places_by s after)) f ≡ option_and_then (env_fault_at ls) f
found-is s ls after None st at = refl
found-is s ls after (Some f) st at = fault-is s ls after f st at

known : (p : Places) (found : Option EnvFault) (f : EnvFault) (r : SheetFault) → found ≡ Some f → Refuses (fault_by p f) r → Refuses (option_and_then (fault_by p) found) r
known p found f r e h =
    let P : Option EnvFault → Type 0 = λ x. Refuses (option_and_then (fault_by p) x) r in
    subst P (sym e) h

-- a fault of the environment that `checked` found
pub refused-env : (p : Places) (found : Option EnvFault) (f : EnvFault) (r : SheetFault) → (f ≢ env.OutOfMemory → found ≡ Some f) → Refuses (fault_by p f) r → Refuses (option_and_then (fault_by p) found) r
unfolding fault_by
refused-env p found (TypeRange i) r told h = known p found (TypeRange i) r (told (λ e. cc)) h
refused-env p found (PairRange i) r told h = known p found (PairRange i) r (told (λ e. cc)) h
refused-env p found (PairTwice i) r told h = known p found (PairTwice i) r (told (λ e. cc)) h
refused-env p found (Weight i) r told h = known p found (Weight i) r (told (λ e. cc)) h
refused-env p found (Limit n) r told h = known p found (Limit n) r (told (λ e. cc)) h
refused-env p found (NotTransitive a b d) r told h = known p found (NotTransitive a b d) r (told (λ e. cc)) h
refused-env p found (Depth n) r told h = known p found (Depth n) r (told (λ e. cc)) h
refused-env p found (env.Form i) r told h = known p found (env.Form i) r (told (λ e. cc)) h
refused-env p found (Step i) r told h = known p found (Step i) r (told (λ e. cc)) h
refused-env p found env.OutOfMemory (At n c) told h = absurd cc
refused-env p found env.OutOfMemory OutOfMemory told h = tt

-- a fault of the text is one of the sheet
pub refused-first : (bs : List ℕ) (e : SheetFault) → Refuses (text_fault bs) e → Refuses (sheet_fault bs) e
unfolding sheet_fault fault_or
refused-first bs (At n c) h = rw (h) refl
refused-first bs OutOfMemory h = tt

pub sheet_is : (bs : List ℕ) → text_fault bs ≡ None → sheet_fault bs ≡ parts_fault (body_of (lines bs))
unfolding sheet_fault fault_or
sheet_is bs none = rw (none) refl

-- what is wrong with the parts that were read is wrong with the sheet
pub refused-last : (s : Sheet) (bs : List ℕ) (after : ℕ) (e : SheetFault) → Stands s (body_of (lines bs)) → text_fault bs ≡ None → after ≡ length (body_of (lines bs)) + 2 → Refuses (option_and_then (fault_by (places_by s after)) (first_env_fault (parts_by s))) e → Refuses (sheet_fault bs) e
unfolding parts_fault
refused-last s bs after e st none at h =
    let ls = body_of (lines bs) in
    let is : option_and_then (fault_by (places_by s after)) (first_env_fault (parts_by s)) ≡ sheet_fault bs =
    found-is s ls after (first_env_fault (parts_by s)) st at ∙ ap (λ g. option_and_then (env_fault_at ls) (first_env_fault g)) (parts-is s ls st) ∙ sym (sheet_is bs none) in
    let P : Option Fault → Type 0 = λ f. Refuses f e in
    subst P is h

-- parts that are an environment are the sheet's
pub sheet-read : (s : Sheet) (bs : List ℕ) (g : Parts) → Stands s (body_of (lines bs)) → text_fault bs ≡ None → g ≡ parts_by s → IsValid (parts_by s) → IsSheet bs g
unfolding parts_fault
sheet-read s bs g st none is valid =
    let ls = body_of (lines bs) in
    let fine : first_env_fault (parts_of ls) ≡ None = ap first_env_fault (sym (parts-is s ls st)) ∙ valid in
    record {
      faultless = sheet_is bs none ∙ ap (option_and_then (env_fault_at ls)) fine;
      says = is ∙ parts-is s ls st;
    }

-- the result, in both cases
pub sheet-result : (s : Sheet) (bs : List ℕ) (after : ℕ) (r : Result Parts SheetFault) → Stands s (body_of (lines bs)) → text_fault bs ≡ None → after ≡ length (body_of (lines bs)) + 2 → MatchResult r (λ g. (g ≡ parts_by s) × IsValid (parts_by s)) (λ e. Refuses (option_and_then (fault_by (places_by s after)) (first_env_fault (parts_by s))) e) → MatchResult r (λ g. IsSheet bs g) (λ e. Refuses (sheet_fault bs) e)
sheet-result s bs after (Ok g) st none at h = sheet-read s bs g st none h.0 h.1
sheet-result s bs after (Err e) st none at h = refused-last s bs after e st none at h

-- the result is an environment
pub valid-result : (s : Sheet) (after : ℕ) (r : Result Parts SheetFault) → MatchResult r (λ g. (g ≡ parts_by s) × IsValid (parts_by s)) (λ e. Refuses (option_and_then (fault_by (places_by s after)) (first_env_fault (parts_by s))) e) → IfOk r IsValid
valid-result s after (Ok g) h = subst IsValid (sym h.0) h.1
valid-result s after (Err e) h = tt

-- and can be written
pub writable-result : (s : Sheet) (bs : List ℕ) (after : ℕ) (r : Result Parts SheetFault) → Stands s (body_of (lines bs)) → text_fault bs ≡ None → after ≡ length (body_of (lines bs)) + 2 → MatchResult r (λ g. (g ≡ parts_by s) × IsValid (parts_by s)) (λ e. Refuses (option_and_then (fault_by (places_by s after)) (first_env_fault (parts_by s))) e) → IfOk r IsWritable
writable-result s bs after (Ok g) st none at h = sheet-writable bs g (sheet-read s bs g st none h.0 h.1)
writable-result s bs after (Err e) st none at h = tt

-- What is read of type variables and of parameters in brackets is what the grammar says of them.
use Rattle.std.proofs.Common.{◌≡◌, ◌≢◌, ◌<◌, ◌∙◌, ap, sym, subst, ℕ, suc, true, List, [], ◌∷◌, ◌++◌, length, take, drop, map, refl, arith, codes, append_assoc, Some, None}
use Rattle.std.proofs.lemmas.List.{take-append-drop}
use Rattle.std.proofs.Math.Seq.{drop-append_seam}
use Rattle.std.specs.List.{flat_map}
use Rattle.java_units.specs.declared.entries.Entry.{Entry}
use Rattle.java_units.specs.declared.entries.Entry.TheVariants as entry
use Rattle.java_units.specs.declared.types.TypeVar.{TypeVar}
use Rattle.java_units.specs.declared.types.Param.{Param}
use Rattle.java_units.specs.Signs.{Sign, is}
use Rattle.java_units.specs.Forms.{starts, entry_len, next_len, entries, bounds_len, param_len, params_len, var_len, vars_len}
use Rattle.java_units.specs.Values.{first_text, type_text, bound_of, var_of, vars_of, param_of, kept, params_of}
use Rattle.java_units.specs.Grammar.{IsSign, sign, IsBoth, both, IsOptional, absent, present, IsList, last, followed, identifier, IsType, IsParam, IsParams, IsVar, IsVars}
use Rattle.java_units.specs.Longest.{NamesAreIdentifiers}
use Rattle.java_units.specs.Trees.{spelled_type, spelled_param, each_spelled, first_type, spelled_bound, spelled_var, spelled_vars, all_params, spelled_params, VarsAreRead, ParamListsAreRead}
use Rattle.java_units.proofs.Walks.{pick, starts-none, starts-more}
use Rattle.java_units.proofs.Groups.{differ}
use Rattle.java_units.proofs.TypeGrammar.{type_just}
use Rattle.java_units.proofs.ListGrammar.{ReadsTail, Stops, list_part, names_behind, tail_none, tail_some, suc_of}
use Rattle.java_units.proofs.TypeReading.{type_read, no_more_dims}
use Rattle.java_units.proofs.ParamGrammar.{first_named, param_some}
use Rattle.java_units.proofs.ParamReading.{param_read}
use Rattle.java_units.proofs.ParamLists as lists
use Rattle.java_units.proofs.ParamLists.{NoDim, param_stops, no_entries, no_param, params_least, params_some}
use Rattle.java_units.proofs.VarGrammar.{VarEnds, no_bounds, and_ends, optional_bounds, var_stops, var_some, comma_ends, close_ends, vars_least, no_comma}

-- the places at which the forms of a list begin

reads_next : (e : Entry) → ReadsTail (codes ",") (entry_len e) (next_len e)
unfolding next_len
reads_next e ss = refl

entries_some : (e : Entry) (ss : List Sign) (m : ℕ) → entry_len e ss ≡ suc m → entries e ss ≡ ss ∷ map (drop 1) (starts (next_len e) 0 (drop (suc m) ss))
unfolding entries
entries_some e ss m h =
    pick (entry_len e ss) m [] (ss ∷ map (drop 1) (starts (next_len e) 0 (drop (entry_len e ss) ss))) (sym h)
    ∙ ap (λ k. ss ∷ map (drop 1) (starts (next_len e) 0 (drop k ss))) h

entries_last : (e : Entry) (ss rest : List Sign) (n : ℕ) → entry_len e (ss ++ rest) ≡ length ss → length ss ≡ suc n → next_len e rest ≡ 0 → entries e (ss ++ rest) ≡ (ss ++ rest) ∷ []
entries_last e ss rest n a b z =
    let past : drop (suc n) (ss ++ rest) ≡ rest = ap (λ k. drop k (ss ++ rest)) (sym b) ∙ drop-append_seam ss rest in
    entries_some e (ss ++ rest) n (a ∙ b)
    ∙ (ap (λ xs. (ss ++ rest) ∷ map (drop 1) (starts (next_len e) 0 xs)) past ∙ ap (λ xs. (ss ++ rest) ∷ map (drop 1) xs) (starts-none (next_len e) rest z))

entries_on : (e : Entry) (first : List Sign) (s : Sign) (zs : List Sign) (n m : ℕ) → entry_len e (first ++ (s ∷ zs)) ≡ length first → length first ≡ suc n → is (codes ",") s ≡ true → entry_len e zs ≡ suc m → entries e (first ++ (s ∷ zs)) ≡ (first ++ (s ∷ zs)) ∷ entries e zs
entries_on e first s zs n m a b c h =
    let all = first ++ (s ∷ zs) in
    let past : drop (suc n) all ≡ s ∷ zs = ap (λ k. drop k all) (sym b) ∙ drop-append_seam first (s ∷ zs) in
    let size = tail_some (codes ",") (entry_len e) (next_len e) (reads_next e) s zs m c h in
    let some : suc (suc m) ≢ 0 = omega arith in
    let there : 0 < length (s ∷ zs) = omega arith in
    let on = starts-more (next_len e) (s ∷ zs) (suc (suc m)) (sym size) some there in
    entries_some e all n (a ∙ b)
    ∙ (ap (λ xs. all ∷ map (drop 1) (starts (next_len e) 0 xs)) past
    ∙ (ap (λ xs. all ∷ map (drop 1) xs) on ∙ ap (λ xs. all ∷ xs) (sym (entries_some e zs m h))))

module _ (e : Entry) (Form Ends : List Sign → Type 0) (V : Type 0) (read : List Sign → V) (value : (ss : List Sign) → Form ss → V) (stops : Stops Form (entry_len e) Ends) (some : (ss : List Sign) → Form ss → 0 < length ss) (comma : (s : Sign) (zs : List Sign) → is (codes ",") s ≡ true → Ends (s ∷ zs)) (reads : (ss : List Sign) (f : Form ss) (tail : List Sign) → NamesAreIdentifiers (ss ++ tail) → Ends tail → read (ss ++ tail) ≡ value ss f) where
  list_read : (ss : List Sign) (l : IsList (codes ",") Form ss) (rest : List Sign) → NamesAreIdentifiers (ss ++ rest) → Ends rest → next_len e rest ≡ 0 → map read (entries e (ss ++ rest)) ≡ each_spelled (codes ",") Form V value ss l
  list_read _ (last ss f) rest g h z =
      let there = suc_of (length ss) (some ss f) in
      ap (map read) (entries_last e ss rest there.0 (stops ss f rest g h) there.1 z) ∙ ap (λ v. v ∷ []) (reads ss f rest g h)
  list_read _ (followed first s others f d l) rest g h z =
      let same = append_assoc first (s ∷ others) rest in
      let zs = others ++ rest in
      let k = subst NamesAreIdentifiers same g in
      let behind = names_behind (s ∷ []) zs (names_behind first (s ∷ zs) k) in
      let there = suc_of (length first) (some first f) in
      let next = suc_of (entry_len e zs) (list_part (codes ",") Form Ends (entry_len e) stops some comma others l rest behind h) in
      let on = entries_on e first s zs there.0 next.0 (stops first f (s ∷ zs) k (comma s zs d)) there.1 d next.1 in
      ap (λ xs. map read (entries e xs)) same
      ∙ (ap (map read) on
      ∙ (ap (λ v. v ∷ map read (entries e zs)) (reads first f (s ∷ zs) k (comma s zs d))
      ∙ ap (λ vs. value first f ∷ vs) (list_read others l rest behind h z)))

-- type variables

types_first : (types : List Sign) (t : IsList (codes "&") IsType types) (tail : List Sign) → NamesAreIdentifiers (types ++ tail) → VarEnds tail → type_text 0 (types ++ tail) ≡ first_type types t
types_first _ (last ss t) tail f h = type_read 0 ss t tail f (type_just ss t tail f h.kind) ∙ no_more_dims (spelled_type ss t)
types_first _ (followed first s others t d l) tail f h =
    let same = append_assoc first (s ∷ others) tail in
    let rest = s ∷ (others ++ tail) in
    let g = subst NamesAreIdentifiers same f in
    ap (type_text 0) same ∙ (type_read 0 first t rest g (type_just first t rest g (and_ends s (others ++ tail) d)) ∙ no_more_dims (spelled_type first t))

no_bound : (ss : List Sign) → bounds_len ss ≡ 0 → bound_of ss ≡ None
unfolding bound_of
no_bound ss e = rw (e) refl

some_bound : (ss : List Sign) (n : ℕ) → bounds_len ss ≡ suc n → bound_of ss ≡ Some (type_text 0 (drop 1 ss))
unfolding bound_of
some_bound ss n e = pick (bounds_len ss) n None (Some (type_text 0 (drop 1 ss))) (sym e)

bound_read : (ss : List Sign) (b : IsOptional (IsBoth (IsSign (codes "extends")) (IsList (codes "&") IsType)) ss) (tail : List Sign) → NamesAreIdentifiers (ss ++ tail) → VarEnds tail → bound_of (ss ++ tail) ≡ spelled_bound ss b
bound_read _ absent tail f h = no_bound tail (no_bounds tail h.no_extends)
bound_read _ (present _ (both _ types (sign s e) t)) tail f h =
    let size = optional_bounds (s ∷ types) (present (s ∷ types) (both (s ∷ []) types (sign s e) t)) tail f h in
    some_bound (s ∷ (types ++ tail)) (length types) size ∙ ap Some (types_first types t tail (names_behind (s ∷ []) (types ++ tail) f) h)

var_read : (ss : List Sign) (v : IsVar ss) (tail : List Sign) → NamesAreIdentifiers (ss ++ tail) → VarEnds tail → var_of (ss ++ tail) ≡ spelled_var ss v
unfolding var_of first_text
var_read _ (both _ bounds (identifier s e) b) tail f h =
    ap {B = TypeVar} (λ x. record { name = s.text; bound = x }) (bound_read bounds b tail (names_behind (s ∷ []) (bounds ++ tail) f) h)

vars_some_read : (ss : List Sign) (n : ℕ) → vars_len ss ≡ suc n → vars_of ss ≡ map var_of (entries entry.Var (drop 1 ss))
unfolding vars_of
vars_some_read ss n e = pick (vars_len ss) n [] (map var_of (entries entry.Var (drop 1 ss))) (sym e)

vars_read : (ss : List Sign) (v : IsVars ss) (tail : List Sign) → NamesAreIdentifiers (ss ++ tail) → vars_of (ss ++ tail) ≡ spelled_vars ss v
vars_read _ (both _ _ (sign s e) (both vars _ v (sign t g))) tail f =
    let all = s ∷ ((vars ++ (t ∷ [])) ++ tail) in
    let some : 0 < vars_len all = omega (arith, vars_least (s ∷ (vars ++ (t ∷ []))) (both (s ∷ []) (vars ++ (t ∷ [])) (sign s e) (both vars (t ∷ []) v (sign t g))) tail f) in
    let there = suc_of (vars_len all) some in
    let same = append_assoc vars (t ∷ []) tail in
    let behind = subst NamesAreIdentifiers same (names_behind (s ∷ []) ((vars ++ (t ∷ [])) ++ tail) f) in
    vars_some_read all there.0 there.1
    ∙ (ap (λ xs. map var_of (entries entry.Var xs)) same
    ∙ list_read entry.Var IsVar VarEnds TypeVar var_of spelled_var var_stops var_some comma_ends var_read vars v (t ∷ tail) behind (close_ends t tail g) (tail_none (codes ",") var_len (next_len entry.Var) (reads_next entry.Var) (t ∷ tail) (no_comma t tail g)))

pub vars_are_read : VarsAreRead
vars_are_read ss f v =
    let n = vars_len ss in
    let whole = take-append-drop n ss in
    ap vars_of (sym whole) ∙ vars_read (take n ss) v (drop n ss) (subst NamesAreIdentifiers (sym whole) f)

-- parameters

one_param : (ss : List Sign) (p : IsParam ss) (tail : List Sign) → NamesAreIdentifiers (ss ++ tail) → NoDim tail → param_of (ss ++ tail) ≡ spelled_param ss p
one_param ss p tail f h = param_read ss p tail f (param_stops ss p tail f h)

no_list : (e : Entry) (ss : List Sign) → entry_len e ss ≡ 0 → entries e ss ≡ []
unfolding entries
no_list e ss h = rw (h) refl

all_read : (ss : List Sign) (p : IsOptional (IsList (codes ",") IsParam) ss) (s : Sign) (tail : List Sign) → is (codes ")") s ≡ true → NamesAreIdentifiers (ss ++ (s ∷ tail)) → map param_of (entries entry.Param (ss ++ (s ∷ tail))) ≡ all_params ss p
all_read _ absent s tail e f = ap (map param_of) (no_list entry.Param (s ∷ tail) (no_param s tail (first_named s tail f) e))
all_read _ (present ss l) s tail e f =
    list_read entry.Param IsParam NoDim Param param_of spelled_param param_stops param_some lists.comma_ends one_param ss l (s ∷ tail) f (lists.close_ends s tail e)
    (tail_none (codes ",") param_len (next_len entry.Param) (reads_next entry.Param) (s ∷ tail) (lists.other_word (codes ",") s tail (differ 44 41 (λ e. absurd (omega arith))) e))

kept_map : (xs : List (List Sign)) → flat_map (λ x. kept (param_of x)) xs ≡ flat_map kept (map param_of xs)
kept_map [] = refl
kept_map (x ∷ xs) = ap (λ ys. kept (param_of x) ++ ys) (kept_map xs)

params_read : (ss : List Sign) (p : IsParams ss) (tail : List Sign) → NamesAreIdentifiers (ss ++ tail) → params_of (ss ++ tail) ≡ spelled_params ss p
unfolding params_of
params_read _ (both _ _ (sign s e) (both params _ p (sign t g))) tail f =
    let same = append_assoc params (t ∷ []) tail in
    let behind = subst NamesAreIdentifiers same (names_behind (s ∷ []) ((params ++ (t ∷ [])) ++ tail) f) in
    ap (λ xs. flat_map (λ x. kept (param_of x)) (entries entry.Param xs)) same
    ∙ (kept_map (entries entry.Param (params ++ (t ∷ tail))) ∙ ap (flat_map kept) (all_read params p t tail g behind))

pub param_lists_are_read : ParamListsAreRead
param_lists_are_read ss f p =
    let n = params_len ss in
    let whole = take-append-drop n ss in
    ap params_of (sym whole) ∙ params_read (take n ss) p (drop n ss) (subst NamesAreIdentifiers (sym whole) f)

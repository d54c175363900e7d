-- Numbers of tokens don't decide what forms stand at the front.
use Rattle.std.proofs.Common.{◌≡◌, ◌∙◌, ap, ℕ, zero, suc, ◌+◌, ◌-◌, Bool, true, false, ◌==◌, if◌then◌else◌, List, [], ◌∷◌, length, drop, take, map, refl}
use Rattle.java_units.specs.declared.entries.Entry.{Entry}
use Rattle.java_units.specs.declared.entries.Entry.TheVariants as entry
use Rattle.java_units.specs.Signs.{Sign, is}
use Rattle.java_units.specs.SameSigns.{unnumbered}
use Rattle.java_units.specs.Forms.{begins, begins_name, begins_any, starts, total, span, name_tail, name_len, closing, matched, rounds, angles, type_tail, base_len, dim_len, type_len, annotation_len, non_sealed_len, modifier_len, lead_len, bound_len, bounds_len, var_len, final_len, dots_len, ahead_len, wide_len, param_name_len, param_len, deeper, stops, up_to, ends_name, declared_len, goes_on, rest_len, field_len, entry_len, next_len, entries_len, entries, vars_len, params_len, clause_len}

abbrev pub bare_of : List Sign → List Sign
bare_of ss = map unnumbered ss

abbrev pub bares_of : List (List Sign) → List (List Sign)
bares_of xs = map bare_of xs

pub drop-u : (n : ℕ) (ss : List Sign) → drop n (bare_of ss) ≡ bare_of (drop n ss)
drop-u zero ss = refl
drop-u (suc n) [] = refl
drop-u (suc n) (s ∷ ss) = drop-u n ss

pub take-u : (n : ℕ) (ss : List Sign) → take n (bare_of ss) ≡ bare_of (take n ss)
take-u zero ss = refl
take-u (suc n) [] = refl
take-u (suc n) (s ∷ ss) = ap (λ r. unnumbered s ∷ r) (take-u n ss)

pub length-u : (ss : List Sign) → length (bare_of ss) ≡ length ss
length-u [] = refl
length-u (s ∷ ss) = ap suc (length-u ss)

pub begins-u : (w : List ℕ) (ss : List Sign) → begins w (bare_of ss) ≡ begins w ss
unfolding begins is unnumbered
begins-u w [] = refl
begins-u w (s ∷ ss) = refl

pub begins_name-u : (ss : List Sign) → begins_name (bare_of ss) ≡ begins_name ss
unfolding begins_name unnumbered
begins_name-u [] = refl
begins_name-u (s ∷ ss) = refl

pub begins_any-u : (ws : List (List ℕ)) (ss : List Sign) → begins_any ws (bare_of ss) ≡ begins_any ws ss
unfolding begins_any unnumbered
begins_any-u ws [] = refl
begins_any-u ws (s ∷ ss) = refl

-- forms one after the other
pub if_bares : (b : Bool) (xs : List (List Sign)) → (if b then [] else bares_of xs) ≡ bares_of (if b then [] else xs)
if_bares true xs = refl
if_bares false xs = refl

pub starts-u : (f : List Sign → ℕ) → ((x : List Sign) → f (bare_of x) ≡ f x) → (k : ℕ) (ss : List Sign) → starts f k (bare_of ss) ≡ bares_of (starts f k ss)
unfolding starts
starts-u f h zero [] = refl
starts-u f h (suc k) [] = refl
starts-u f h (suc k) (s ∷ ss) = starts-u f h k ss
starts-u f h zero (s ∷ ss) =
    ap (λ n. if n == 0 then [] else bare_of (s ∷ ss) ∷ starts f (n - 1) (bare_of ss)) (h (s ∷ ss))
    ∙ (ap (λ r. if f (s ∷ ss) == 0 then [] else bare_of (s ∷ ss) ∷ r) (starts-u f h (f (s ∷ ss) - 1) ss)
    ∙ if_bares (f (s ∷ ss) == 0) ((s ∷ ss) ∷ starts f (f (s ∷ ss) - 1) ss))

total-u : (f : List Sign → ℕ) → ((x : List Sign) → f (bare_of x) ≡ f x) → (xs : List (List Sign)) → total f (bares_of xs) ≡ total f xs
unfolding total
total-u f h [] = refl
total-u f h (x ∷ xs) = ap (λ n. n + total f (bares_of xs)) (h x) ∙ ap (λ n. f x + n) (total-u f h xs)

pub span-u : (f : List Sign → ℕ) → ((x : List Sign) → f (bare_of x) ≡ f x) → (ss : List Sign) → span f (bare_of ss) ≡ span f ss
unfolding span
span-u f h ss = ap (total f) (starts-u f h 0 ss) ∙ total-u f h (starts f 0 ss)

ruleset forms_1 = (drop-u, take-u, length-u, begins-u, begins_name-u, begins_any-u)

pub name_tail-u : (ss : List Sign) → name_tail (bare_of ss) ≡ name_tail ss
unfolding name_tail
name_tail-u ss = simp forms_1

pub name_tails-u : (ss : List Sign) → span name_tail (bare_of ss) ≡ span name_tail ss
name_tails-u ss = span-u name_tail name_tail-u ss

ruleset forms_2 = (drop-u, take-u, length-u, begins-u, begins_name-u, begins_any-u, name_tail-u, name_tails-u)

pub name_len-u : (ss : List Sign) → name_len (bare_of ss) ≡ name_len ss
unfolding name_len
name_len-u ss = simp forms_2

pub closing-u : (l r : List ℕ) (d : ℕ) (ss : List Sign) → closing l r d (bare_of ss) ≡ closing l r d ss
unfolding closing is unnumbered
closing-u l r d [] = refl
closing-u l r d (s ∷ ss) = rw (closing-u l r (d - 1) ss, closing-u l r (suc d) ss, closing-u l r d ss) refl

ruleset forms_3 = (drop-u, take-u, length-u, begins-u, begins_name-u, begins_any-u, name_tail-u, name_tails-u, name_len-u, closing-u)

pub matched-u : (l : List ℕ) (r : List ℕ) (ss : List Sign) → matched l r (bare_of ss) ≡ matched l r ss
unfolding matched
matched-u l r ss = simp forms_3

ruleset forms_4 = (drop-u, take-u, length-u, begins-u, begins_name-u, begins_any-u, name_tail-u, name_tails-u, name_len-u, closing-u, matched-u)

pub rounds-u : (ss : List Sign) → rounds (bare_of ss) ≡ rounds ss
unfolding rounds
rounds-u ss = simp forms_4

pub angles-u : (ss : List Sign) → angles (bare_of ss) ≡ angles ss
unfolding angles
angles-u ss = simp forms_4

ruleset forms_5 = (drop-u, take-u, length-u, begins-u, begins_name-u, begins_any-u, name_tail-u, name_tails-u, name_len-u, closing-u, matched-u, rounds-u, angles-u)

pub type_tail-u : (ss : List Sign) → type_tail (bare_of ss) ≡ type_tail ss
unfolding type_tail
type_tail-u ss = simp forms_5

pub type_tails-u : (ss : List Sign) → span type_tail (bare_of ss) ≡ span type_tail ss
type_tails-u ss = span-u type_tail type_tail-u ss

ruleset forms_6 = (drop-u, take-u, length-u, begins-u, begins_name-u, begins_any-u, name_tail-u, name_tails-u, name_len-u, closing-u, matched-u, rounds-u, angles-u, type_tail-u, type_tails-u)

pub base_len-u : (ss : List Sign) → base_len (bare_of ss) ≡ base_len ss
unfolding base_len
base_len-u ss = simp forms_6

pub dim_len-u : (ss : List Sign) → dim_len (bare_of ss) ≡ dim_len ss
unfolding dim_len
dim_len-u ss = simp forms_6

pub dims-u : (ss : List Sign) → span dim_len (bare_of ss) ≡ span dim_len ss
dims-u ss = span-u dim_len dim_len-u ss

ruleset forms_7 = (drop-u, take-u, length-u, begins-u, begins_name-u, begins_any-u, name_tail-u, name_tails-u, name_len-u, closing-u, matched-u, rounds-u, angles-u, type_tail-u, type_tails-u, base_len-u, dim_len-u, dims-u)

pub type_len-u : (ss : List Sign) → type_len (bare_of ss) ≡ type_len ss
unfolding type_len
type_len-u ss = simp forms_7

pub annotation_len-u : (ss : List Sign) → annotation_len (bare_of ss) ≡ annotation_len ss
unfolding annotation_len
annotation_len-u ss = simp forms_7

pub annotations-u : (ss : List Sign) → span annotation_len (bare_of ss) ≡ span annotation_len ss
annotations-u ss = span-u annotation_len annotation_len-u ss

pub non_sealed_len-u : (ss : List Sign) → non_sealed_len (bare_of ss) ≡ non_sealed_len ss
unfolding non_sealed_len
non_sealed_len-u ss = simp forms_7

ruleset forms_8 = (drop-u, take-u, length-u, begins-u, begins_name-u, begins_any-u, name_tail-u, name_tails-u, name_len-u, closing-u, matched-u, rounds-u, angles-u, type_tail-u, type_tails-u, base_len-u, dim_len-u, dims-u, type_len-u, annotation_len-u, annotations-u, non_sealed_len-u)

pub modifier_len-u : (ss : List Sign) → modifier_len (bare_of ss) ≡ modifier_len ss
unfolding modifier_len
modifier_len-u ss = simp forms_8

ruleset forms_9 = (drop-u, take-u, length-u, begins-u, begins_name-u, begins_any-u, name_tail-u, name_tails-u, name_len-u, closing-u, matched-u, rounds-u, angles-u, type_tail-u, type_tails-u, base_len-u, dim_len-u, dims-u, type_len-u, annotation_len-u, annotations-u, non_sealed_len-u, modifier_len-u)

pub lead_len-u : (ss : List Sign) → lead_len (bare_of ss) ≡ lead_len ss
unfolding lead_len
lead_len-u ss = simp forms_9

pub leads-u : (ss : List Sign) → span lead_len (bare_of ss) ≡ span lead_len ss
leads-u ss = span-u lead_len lead_len-u ss

pub bound_len-u : (ss : List Sign) → bound_len (bare_of ss) ≡ bound_len ss
unfolding bound_len
bound_len-u ss = simp forms_9

pub bounds-u : (ss : List Sign) → span bound_len (bare_of ss) ≡ span bound_len ss
bounds-u ss = span-u bound_len bound_len-u ss

ruleset forms_10 = (drop-u, take-u, length-u, begins-u, begins_name-u, begins_any-u, name_tail-u, name_tails-u, name_len-u, closing-u, matched-u, rounds-u, angles-u, type_tail-u, type_tails-u, base_len-u, dim_len-u, dims-u, type_len-u, annotation_len-u, annotations-u, non_sealed_len-u, modifier_len-u, lead_len-u, leads-u, bound_len-u, bounds-u)

pub bounds_len-u : (ss : List Sign) → bounds_len (bare_of ss) ≡ bounds_len ss
unfolding bounds_len
bounds_len-u ss = simp forms_10

ruleset forms_11 = (drop-u, take-u, length-u, begins-u, begins_name-u, begins_any-u, name_tail-u, name_tails-u, name_len-u, closing-u, matched-u, rounds-u, angles-u, type_tail-u, type_tails-u, base_len-u, dim_len-u, dims-u, type_len-u, annotation_len-u, annotations-u, non_sealed_len-u, modifier_len-u, lead_len-u, leads-u, bound_len-u, bounds-u, bounds_len-u)

pub var_len-u : (ss : List Sign) → var_len (bare_of ss) ≡ var_len ss
unfolding var_len
var_len-u ss = simp forms_11

pub final_len-u : (ss : List Sign) → final_len (bare_of ss) ≡ final_len ss
unfolding final_len
final_len-u ss = simp forms_11

pub dots_len-u : (ss : List Sign) → dots_len (bare_of ss) ≡ dots_len ss
unfolding dots_len
dots_len-u ss = simp forms_11

ruleset forms_12 = (drop-u, take-u, length-u, begins-u, begins_name-u, begins_any-u, name_tail-u, name_tails-u, name_len-u, closing-u, matched-u, rounds-u, angles-u, type_tail-u, type_tails-u, base_len-u, dim_len-u, dims-u, type_len-u, annotation_len-u, annotations-u, non_sealed_len-u, modifier_len-u, lead_len-u, leads-u, bound_len-u, bounds-u, bounds_len-u, var_len-u, final_len-u, dots_len-u)

pub ahead_len-u : (ss : List Sign) → ahead_len (bare_of ss) ≡ ahead_len ss
unfolding ahead_len
ahead_len-u ss = simp forms_12

pub wide_len-u : (ss : List Sign) → wide_len (bare_of ss) ≡ wide_len ss
unfolding wide_len
wide_len-u ss = simp forms_12

pub param_name_len-u : (ss : List Sign) → param_name_len (bare_of ss) ≡ param_name_len ss
unfolding param_name_len
param_name_len-u ss = simp forms_12

ruleset forms_13 = (drop-u, take-u, length-u, begins-u, begins_name-u, begins_any-u, name_tail-u, name_tails-u, name_len-u, closing-u, matched-u, rounds-u, angles-u, type_tail-u, type_tails-u, base_len-u, dim_len-u, dims-u, type_len-u, annotation_len-u, annotations-u, non_sealed_len-u, modifier_len-u, lead_len-u, leads-u, bound_len-u, bounds-u, bounds_len-u, var_len-u, final_len-u, dots_len-u, ahead_len-u, wide_len-u, param_name_len-u)

pub param_len-u : (ss : List Sign) → param_len (bare_of ss) ≡ param_len ss
unfolding param_len
param_len-u ss = simp forms_13

pub up_to-u : (w : List ℕ) (d : ℕ) (ss : List Sign) → up_to w d (bare_of ss) ≡ up_to w d ss
unfolding up_to stops deeper is unnumbered
up_to-u w d [] = refl
up_to-u w d (s ∷ ss) = rw (up_to-u w (deeper d s) ss) refl

pub ends_name-u : (ss : List Sign) → ends_name (bare_of ss) ≡ ends_name ss
unfolding ends_name is unnumbered
ends_name-u [] = refl
ends_name-u (s ∷ ss) = refl

ruleset forms_14 = (drop-u, take-u, length-u, begins-u, begins_name-u, begins_any-u, name_tail-u, name_tails-u, name_len-u, closing-u, matched-u, rounds-u, angles-u, type_tail-u, type_tails-u, base_len-u, dim_len-u, dims-u, type_len-u, annotation_len-u, annotations-u, non_sealed_len-u, modifier_len-u, lead_len-u, leads-u, bound_len-u, bounds-u, bounds_len-u, var_len-u, final_len-u, dots_len-u, ahead_len-u, wide_len-u, param_name_len-u, param_len-u, up_to-u, ends_name-u)

pub declared_len-u : (ss : List Sign) → declared_len (bare_of ss) ≡ declared_len ss
unfolding declared_len
declared_len-u ss = simp forms_14

ruleset forms_15 = (drop-u, take-u, length-u, begins-u, begins_name-u, begins_any-u, name_tail-u, name_tails-u, name_len-u, closing-u, matched-u, rounds-u, angles-u, type_tail-u, type_tails-u, base_len-u, dim_len-u, dims-u, type_len-u, annotation_len-u, annotations-u, non_sealed_len-u, modifier_len-u, lead_len-u, leads-u, bound_len-u, bounds-u, bounds_len-u, var_len-u, final_len-u, dots_len-u, ahead_len-u, wide_len-u, param_name_len-u, param_len-u, up_to-u, ends_name-u, declared_len-u)

pub goes_on-u : (ss : List Sign) → goes_on (bare_of ss) ≡ goes_on ss
unfolding goes_on
goes_on-u ss = simp forms_15

pub rest_len-u : (d : ℕ) (ss : List Sign) → rest_len d (bare_of ss) ≡ rest_len d ss
unfolding rest_len deeper is unnumbered
rest_len-u d [] = refl
rest_len-u d (s ∷ ss) = rw (goes_on-u (s ∷ ss), rest_len-u (deeper d s) ss) refl

ruleset forms_16 = (drop-u, take-u, length-u, begins-u, begins_name-u, begins_any-u, name_tail-u, name_tails-u, name_len-u, closing-u, matched-u, rounds-u, angles-u, type_tail-u, type_tails-u, base_len-u, dim_len-u, dims-u, type_len-u, annotation_len-u, annotations-u, non_sealed_len-u, modifier_len-u, lead_len-u, leads-u, bound_len-u, bounds-u, bounds_len-u, var_len-u, final_len-u, dots_len-u, ahead_len-u, wide_len-u, param_name_len-u, param_len-u, up_to-u, ends_name-u, declared_len-u, goes_on-u, rest_len-u)

pub field_len-u : (ss : List Sign) → field_len (bare_of ss) ≡ field_len ss
unfolding field_len
field_len-u ss = simp forms_16

ruleset forms_17 = (drop-u, take-u, length-u, begins-u, begins_name-u, begins_any-u, name_tail-u, name_tails-u, name_len-u, closing-u, matched-u, rounds-u, angles-u, type_tail-u, type_tails-u, base_len-u, dim_len-u, dims-u, type_len-u, annotation_len-u, annotations-u, non_sealed_len-u, modifier_len-u, lead_len-u, leads-u, bound_len-u, bounds-u, bounds_len-u, var_len-u, final_len-u, dots_len-u, ahead_len-u, wide_len-u, param_name_len-u, param_len-u, up_to-u, ends_name-u, declared_len-u, goes_on-u, rest_len-u, field_len-u)

pub entry_len-u : (e : Entry) (ss : List Sign) → entry_len e (bare_of ss) ≡ entry_len e ss
entry_len-u entry.Type ss = type_len-u ss
entry_len-u entry.Var ss = var_len-u ss
entry_len-u entry.Param ss = param_len-u ss
entry_len-u entry.Field ss = field_len-u ss

ruleset forms_18 = (drop-u, take-u, length-u, begins-u, begins_name-u, begins_any-u, name_tail-u, name_tails-u, name_len-u, closing-u, matched-u, rounds-u, angles-u, type_tail-u, type_tails-u, base_len-u, dim_len-u, dims-u, type_len-u, annotation_len-u, annotations-u, non_sealed_len-u, modifier_len-u, lead_len-u, leads-u, bound_len-u, bounds-u, bounds_len-u, var_len-u, final_len-u, dots_len-u, ahead_len-u, wide_len-u, param_name_len-u, param_len-u, up_to-u, ends_name-u, declared_len-u, goes_on-u, rest_len-u, field_len-u, entry_len-u)

pub next_len-u : (e : Entry) (ss : List Sign) → next_len e (bare_of ss) ≡ next_len e ss
unfolding next_len
next_len-u e ss = simp forms_18

pub nexts-u : (e : Entry) (ss : List Sign) → span (next_len e) (bare_of ss) ≡ span (next_len e) ss
nexts-u e ss = span-u (next_len e) (next_len-u e) ss

ruleset forms_19 = (drop-u, take-u, length-u, begins-u, begins_name-u, begins_any-u, name_tail-u, name_tails-u, name_len-u, closing-u, matched-u, rounds-u, angles-u, type_tail-u, type_tails-u, base_len-u, dim_len-u, dims-u, type_len-u, annotation_len-u, annotations-u, non_sealed_len-u, modifier_len-u, lead_len-u, leads-u, bound_len-u, bounds-u, bounds_len-u, var_len-u, final_len-u, dots_len-u, ahead_len-u, wide_len-u, param_name_len-u, param_len-u, up_to-u, ends_name-u, declared_len-u, goes_on-u, rest_len-u, field_len-u, entry_len-u, next_len-u, nexts-u)

pub entries_len-u : (e : Entry) (ss : List Sign) → entries_len e (bare_of ss) ≡ entries_len e ss
unfolding entries_len
entries_len-u e ss = simp forms_19

drops-u : (xs : List (List Sign)) → map (drop 1) (bares_of xs) ≡ bares_of (map (drop 1) xs)
drops-u [] = refl
drops-u (x ∷ xs) = ap (λ y. y ∷ map (drop 1) (bares_of xs)) (drop-u 1 x) ∙ ap (λ r. bare_of (drop 1 x) ∷ r) (drops-u xs)

pub entries-u : (e : Entry) (ss : List Sign) → entries e (bare_of ss) ≡ bares_of (entries e ss)
unfolding entries
entries-u e ss =
    ap (λ n. if n == 0 then [] else bare_of ss ∷ map (drop 1) (starts (next_len e) 0 (drop n (bare_of ss)))) (entry_len-u e ss)
    ∙ (ap (λ r. if entry_len e ss == 0 then [] else bare_of ss ∷ map (drop 1) (starts (next_len e) 0 r)) (drop-u (entry_len e ss) ss)
    ∙ (ap (λ r. if entry_len e ss == 0 then [] else bare_of ss ∷ map (drop 1) r) (starts-u (next_len e) (next_len-u e) 0 (drop (entry_len e ss) ss))
    ∙ (ap (λ r. if entry_len e ss == 0 then [] else bare_of ss ∷ r) (drops-u (starts (next_len e) 0 (drop (entry_len e ss) ss)))
    ∙ if_bares (entry_len e ss == 0) (ss ∷ map (drop 1) (starts (next_len e) 0 (drop (entry_len e ss) ss))))))

ruleset forms_20 = (drop-u, take-u, length-u, begins-u, begins_name-u, begins_any-u, name_tail-u, name_tails-u, name_len-u, closing-u, matched-u, rounds-u, angles-u, type_tail-u, type_tails-u, base_len-u, dim_len-u, dims-u, type_len-u, annotation_len-u, annotations-u, non_sealed_len-u, modifier_len-u, lead_len-u, leads-u, bound_len-u, bounds-u, bounds_len-u, var_len-u, final_len-u, dots_len-u, ahead_len-u, wide_len-u, param_name_len-u, param_len-u, up_to-u, ends_name-u, declared_len-u, goes_on-u, rest_len-u, field_len-u, entry_len-u, next_len-u, nexts-u, entries_len-u, entries-u)

pub vars_len-u : (ss : List Sign) → vars_len (bare_of ss) ≡ vars_len ss
unfolding vars_len
vars_len-u ss = simp forms_20

pub params_len-u : (ss : List Sign) → params_len (bare_of ss) ≡ params_len ss
unfolding params_len
params_len-u ss = simp forms_20

pub clause_len-u : (ss : List Sign) → clause_len (bare_of ss) ≡ clause_len ss
unfolding clause_len
clause_len-u ss = simp forms_20

pub clauses-u : (ss : List Sign) → span clause_len (bare_of ss) ≡ span clause_len ss
clauses-u ss = span-u clause_len clause_len-u ss

pub ruleset plain_forms = (drop-u, take-u, length-u, begins-u, begins_name-u, begins_any-u, name_tail-u, name_tails-u, name_len-u, closing-u, matched-u, rounds-u, angles-u, type_tail-u, type_tails-u, base_len-u, dim_len-u, dims-u, type_len-u, annotation_len-u, annotations-u, non_sealed_len-u, modifier_len-u, lead_len-u, leads-u, bound_len-u, bounds-u, bounds_len-u, var_len-u, final_len-u, dots_len-u, ahead_len-u, wide_len-u, param_name_len-u, param_len-u, up_to-u, ends_name-u, declared_len-u, goes_on-u, rest_len-u, field_len-u, entry_len-u, next_len-u, nexts-u, entries_len-u, entries-u, vars_len-u, params_len-u, clause_len-u, clauses-u)

-- Maps from keys to counts.
use Rattle.std.proofs.Common.{◌≡◌, ℕ, ◌+◌, ◌<◌, ◌≤◌, Bool, true, false, cond, List, [], ◌∷◌, ◌++◌, length, map, get_or, take, arith, Option, Some, None, Less, refl, sym, ap, subst, ◌∙◌, bytes_eq}
use Rattle.std.specs.Prelude.{String, string_bytes, string_cmp, unwrap_or}
use Rattle.std.specs.List.{AllZip}
use Rattle.std.specs.BTreeMap.{BTreeMap, UpdatesBy, is_at, get_by_text}
use Rattle.std.specs.Map.{lookup}
use Rattle.std.specs.Cmp.Lexicographic.{slice_cmp}
use Rattle.std.specs.Ordering.{nat_cmp, is_eq}
use Rattle.std.proofs.lemmas.Cmp.{nat_list_eq_equiv}
use Rattle.std.proofs.lemmas.List.{take_more, take_all}
use Rattle.std.proofs.lemmas.Map.Text.{btree_map_updates_text, is_eq-slice_cmp}
use Rattle.decl_index.specs.History.{Name, order, Rises, IsState, counted, use_of, count_at, CountsRise, class_in, decided, weights_set}
use Rattle.known_classes.specs.declared.summary.ClassSummary.{ClassSummary}
use Rattle.known_classes.specs.Known.{class_named}
use Rattle.decl_index.specs.Places.{count_pairs}
use Rattle.decl_index.specs.declared.weights.Weights.{Weights}
use Rattle.decl_index.specs.Weighing.{usual}
use Rattle.std.specs.List.{AllByRecursion}
use Rattle.std.specs.List.Sorted.{IsStrictlySortedBy}
use Rattle.std.specs.Map.{keys_of}
use Rattle.std.specs.Option.{option_or}
use Rattle.decl_index.proofs.State.{counted-append}

-- A map's pairs have its counts.
abbrev at_key : {Y : Type 0} → Name → String Y → Bool
at_key key k = is_at (λ t. slice_cmp nat_cmp key (string_bytes t)) k

pair_use : (a b : Bool) (n r : ℕ) (p : Option ℕ) → a ≡ b → r ≡ unwrap_or p 0 → cond b n r ≡ unwrap_or (cond a (Some n) p) 0
pair_use true true n r p e h = refl
pair_use true false n r p e h = absurd cc
pair_use false true n r p e h = absurd cc
pair_use false false n r p e h = h

pairs_use : {Y : Type 0} (es : List (String Y × ℕ)) (key : Name) → use_of (map (λ e. (string_bytes e.0, e.1)) es) key ≡ unwrap_or (lookup (is_at (λ k. slice_cmp nat_cmp key (string_bytes k))) es) 0
unfolding use_of
pairs_use [] key = refl
pairs_use (e ∷ es) key = pair_use (is_eq (slice_cmp nat_cmp key (string_bytes e.0))) (bytes_eq key (string_bytes e.0)) e.1 (use_of (map (λ p. (string_bytes p.0, p.1)) es) key) (lookup (is_at (λ k. slice_cmp nat_cmp key (string_bytes k))) es) (is_eq-slice_cmp key (string_bytes e.0)) (pairs_use es key)

pub pairs-use : {Y : Type 0} (m : BTreeMap (String Y) ℕ) (key : Name) → use_of (count_pairs m) key ≡ unwrap_or (get_by_text m key) 0
pairs-use m key = pairs_use m.entries key

pair_at : (a b : Bool) (n : ℕ) (r p : Option ℕ) → a ≡ b → r ≡ p → cond b (Some n) r ≡ cond a (Some n) p
pair_at true true n r p e h = refl
pair_at true false n r p e h = absurd cc
pair_at false true n r p e h = absurd cc
pair_at false false n r p e h = h

pairs_at : {Y : Type 0} (es : List (String Y × ℕ)) (key : Name) → count_at (map (λ e. (string_bytes e.0, e.1)) es) key ≡ lookup (is_at (λ k. slice_cmp nat_cmp key (string_bytes k))) es
unfolding count_at
pairs_at [] key = refl
pairs_at (e ∷ es) key = pair_at (is_eq (slice_cmp nat_cmp key (string_bytes e.0))) (bytes_eq key (string_bytes e.0)) e.1 (count_at (map (λ p. (string_bytes p.0, p.1)) es) key) (lookup (is_at (λ k. slice_cmp nat_cmp key (string_bytes k))) es) (is_eq-slice_cmp key (string_bytes e.0)) (pairs_at es key)

pub pairs-at : {Y : Type 0} (m : BTreeMap (String Y) ℕ) (key : Name) → count_at (count_pairs m) key ≡ get_by_text m key
pairs-at m key = pairs_at m.entries key

-- They rise by key.
above_from : {Y : Type 0} (k : String Y) (es : List (String Y × ℕ)) → AllByRecursion {X = String Y} (λ j. string_cmp k j ≡ Less) (keys_of es) → AllByRecursion {X = Name × ℕ} (λ q. order (string_bytes k) q.0 ≡ Less) (map (λ e. (string_bytes e.0, e.1)) es)
unfolding order
above_from k [] h = h
above_from k (e ∷ es) h = (h.0, above_from k es h.1)

rise_from : {Y : Type 0} (es : List (String Y × ℕ)) → IsStrictlySortedBy string_cmp (keys_of es) → CountsRise (map (λ e. (string_bytes e.0, e.1)) es)
unfolding CountsRise IsStrictlySortedBy
rise_from [] h = h
rise_from (e ∷ es) h = (above_from e.0 es h.0, rise_from es h.1)

pub pairs-rise : {Y : Type 0} (m : BTreeMap (String Y) ℕ) → IsStrictlySortedBy string_cmp (keys_of m.entries) → CountsRise (count_pairs m)
pairs-rise m h = rise_from m.entries h

-- A copy of a map has its counts.
abbrev pub IsCopied : {Y : Type 0} → String Y × ℕ → String Y × ℕ → Type 0
IsCopied p q = (string_bytes q.0 ≡ string_bytes p.0) × (q.1 ≡ p.1)

copied : {Y : Type 0} (es fs : List (String Y × ℕ)) → AllZip IsCopied es fs → (key : Name) → lookup (is_at (λ k. slice_cmp nat_cmp key (string_bytes k))) fs ≡ lookup (is_at (λ k. slice_cmp nat_cmp key (string_bytes k))) es
copied [] [] h key = refl
copied [] (f ∷ fs) h key = absurd h
copied (e ∷ es) [] h key = absurd h
copied (e ∷ es) (f ∷ fs) h key =
    ap (λ t. cond (is_eq (slice_cmp nat_cmp key t)) (Some f.1) (lookup (is_at (λ k. slice_cmp nat_cmp key (string_bytes k))) fs)) h.0.0
    ∙ ap (λ n. cond (is_eq (slice_cmp nat_cmp key (string_bytes e.0))) (Some n) (lookup (is_at (λ k. slice_cmp nat_cmp key (string_bytes k))) fs)) h.0.1
    ∙ ap (cond (is_eq (slice_cmp nat_cmp key (string_bytes e.0))) (Some e.1)) (copied es fs h.1 key)

pub copied-get : {Y : Type 0} (m n : BTreeMap (String Y) ℕ) → AllZip IsCopied m.entries n.entries → (key : Name) → get_by_text n key ≡ get_by_text m key
copied-get m n h key = copied m.entries n.entries h key

-- One count more.
none_before : (b : Bool) (n : ℕ) (old p : Option ℕ) → cond b (Some n) (option_or p old) ≡ option_or (option_or (cond b (Some n) None) p) old
none_before true n old p = refl
none_before false n old p = refl

counted-one : (key : Name) (p : Name × ℕ) (xs : List (Name × ℕ)) → counted key (xs ++ p ∷ []) ≡ option_or (cond (bytes_eq key p.0) (Some p.1) None) (counted key xs)
unfolding counted
counted-one key p xs = counted-append key xs (p ∷ [])

pub set-next : {Y : Type 0} (m n : BTreeMap (String Y) ℕ) (bs : Name) (k : ℕ) (p : Name × ℕ) (xs : List (Name × ℕ)) (i : ℕ) (first : Name → Option ℕ) → UpdatesBy string_cmp (λ t. slice_cmp nat_cmp bs (string_bytes t)) m n (Some k) → bs ≡ p.0 → k ≡ p.1 → i < length xs → p ≡ get_or xs i p
    → ((key : Name) → get_by_text m key ≡ option_or (counted key (take i xs)) (first key)) → (key : Name) → get_by_text n key ≡ option_or (counted key (take (i + 1) xs)) (first key)
set-next m n bs k p xs i first h e ek l at old key =
    let more : take (i + 1) xs ≡ take i xs ++ p ∷ [] = take_more xs i p l ∙ ap (λ q. take i xs ++ q ∷ []) (sym at) in
    btree_map_updates_text bs m n (Some k) h key
    ∙ ap (λ b. cond b (Some k) (get_by_text m key)) (nat_list_eq_equiv.symm bs key ∙ ap (bytes_eq key) e)
    ∙ ap (λ j. cond (bytes_eq key p.0) (Some j) (get_by_text m key)) ek
    ∙ ap (cond (bytes_eq key p.0) (Some p.1)) (old key)
    ∙ none_before (bytes_eq key p.0) p.1 (first key) (counted key (take i xs))
    ∙ ap (λ c. option_or c (first key)) (sym (counted-one key p (take i xs)))
    ∙ ap (λ ps. option_or (counted key ps) (first key)) (sym more)

pub set-none : {Y : Type 0} (m : BTreeMap (String Y) ℕ) (key : Name) → get_by_text m key ≡ option_or (counted key []) (get_by_text m key)
unfolding counted
set-none m key = refl

pub set-all : {Y : Type 0} (m : BTreeMap (String Y) ℕ) (xs : List (Name × ℕ)) (i : ℕ) (first : Name → Option ℕ) → length xs ≤ i → ((key : Name) → get_by_text m key ≡ option_or (counted key (take i xs)) (first key)) → (key : Name) → get_by_text m key ≡ option_or (counted key xs) (first key)
set-all m xs i first l h key = h key ∙ ap (λ ps. option_or (counted key ps) (first key)) (take_all i xs l)

-- No change.
pub empty-state : {A Y : Type 0} (f : A → ClassSummary) (xs : List A) (m : BTreeMap (String Y) ℕ) (w : Weights) → xs ≡ [] → m.entries ≡ [] → w ≡ usual → IsState [] (record { classes = map f xs; counts = count_pairs m; weights = w; number = 0 })
unfolding Rises class_named decided count_at CountsRise counted weights_set
empty-state {A} {Y} f xs m w e n u = record {
  classes = record {
    rises = subst (λ ys. Rises (map f ys)) (sym e) tt;
    named = λ k. subst (λ ys. class_named (map f ys) k ≡ class_in [] k) (sym e) refl;
  };
  counts = record {
    rises = subst (λ (ps : List (String Y × ℕ)). CountsRise (map (λ p. (string_bytes p.0, p.1)) ps)) (sym n) tt;
    keyed = λ key. subst (λ (ps : List (String Y × ℕ)). count_at (map (λ p. (string_bytes p.0, p.1)) ps) key ≡ None) (sym n) refl;
  };
  weights = u;
  number = refl;
}

pub counted-at : {Y : Type 0} (m n : BTreeMap (String Y) ℕ) (more : List (Name × ℕ)) → ((key : Name) → get_by_text n key ≡ option_or (counted key more) (get_by_text m key)) → (key : Name) → count_at (count_pairs n) key ≡ option_or (counted key more) (count_at (count_pairs m) key)
counted-at m n more h key = pairs-at n key ∙ h key ∙ ap (option_or (counted key more)) (sym (pairs-at m key))

pub with-none : {Y : Type 0} (m n : BTreeMap (String Y) ℕ) (more : List (Name × ℕ)) → more ≡ [] → n ≡ m → (key : Name) → get_by_text n key ≡ option_or (counted key more) (get_by_text m key)
unfolding counted
with-none m n more e s key = ap (λ k. get_by_text k key) s ∙ ap (λ ps. option_or (counted key ps) (get_by_text m key)) (sym e)

pub no-length : {A : Type 0} (xs : List A) → length xs ≡ 0 → xs ≡ []
no-length [] e = refl
no-length (x ∷ xs) e = absurd (omega (arith, e))

-- The steps of the search keep its invariant, and at the end of a level its terms are there, each once.
use Rattle.std.proofs.Common.{◌≡◌, ◌≢◌, inl, inr, ℕ, ◌+◌, ◌<◌, ◌≤◌, Bool, true, false, ◌&&◌, ◌==◌, List, [], ◌∷◌, ◌++◌, map, Option, Some, None, All, refl, sym, ap, ◌∙◌, arith, append-nil}
use Rattle.std.proofs.lemmas.Bool.{and_parts, false≢true, eq-eqb, ne_eqb, cases_eq, cases_lt, le-leb, lt-leb, leb-true}
use Rattle.std.proofs.lemmas.List.Elements.{All-head, All-tail, All-append, All-push, All-map, All-weaker, All-from_recursion}
use Rattle.std.proofs.lemmas.List.Sorted.{All-permutation, IsPermutation-map}
use Rattle.std.specs.List.Sorted.{IsPermutation}
use Rattle.terms.specs.Expr.{Expr}
use Rattle.terms.specs.Typing.{type_in, some_below}
use Rattle.terms.specs.declared.parts.Parts.{Parts}
use Rattle.terms.specs.Place.{shallow, Place, fits_place, weigh}
use Rattle.terms.specs.Code.{prefix_code}
use Rattle.terms.proofs.Standing.{expr_eq-refl, expr_eq-true, count-permutation}
use Rattle.terms.specs.Count.{once_if, count, expr_eq, total}
use Rattle.terms.specs.Reading.{Reading, and_then, read}
use Rattle.partial_terms.specs.Leasts.{AreLeast, key}
use Rattle.partial_terms.specs.Fronts.{begins, reading, IsItem, key_within, IsGrowth}
use Rattle.partial_terms.specs.Search.{Queue, times_completed, fronts, key_of, children, IsSearch}
use Rattle.terms.proofs.Standing.{count-append}
use Rattle.terms.proofs.Forests.{whole}
use Rattle.partial_terms.proofs.Keys.{read-end}
use Rattle.terms.proofs.Codes.{one_term}
use Rattle.partial_terms.proofs.Division.{Rest, rest_of, begins-append, read-append, divides, key-below, code-whole}

some_same : (a b : Reading) → Some a ≡ Some b → a ≡ b
some_same a b h = cc

-- a popped item whose front is whole goes to the level
pub taken : (g : Parts) (limit : ℕ) (least : Place → ℕ) (root : Place) (from : ℕ) (queue rest : Queue) (level : List (List ℕ)) (f : List ℕ) (r : Reading)
    → IsSearch g limit least root from queue level → IsPermutation queue ((from, f) ∷ rest) → reading g root f ≡ Some r → r.open_places ≡ [] → IsSearch g limit least root from rest (level ++ f ∷ [])
taken g limit least root from queue rest level f r s same is closed =
    let items = All-permutation (λ (q : ℕ × List ℕ). IsItem g limit least root q.0 q.1) queue ((from, f) ∷ rest) same s.items in
    let item : IsItem g limit least root from f = All-head (λ (q : ℕ × List ℕ). IsItem g limit least root q.0 q.1) (from, f) rest items in
    let at : item.at ≡ r = some_same item.at r (sym item.is ∙ is) in
    let k : from ≡ r.weight + total least r.open_places = item.keyed ∙ ap (key least) at in
    let none : total least r.open_places ≡ 0 = ap (total least) closed in
    let w : r.weight ≡ from = omega (arith, k, none) in
    let end : r ≡ record { weight = from; open_places = [] } = whole_is r w closed in
    record {
      items = All-tail (λ (q : ℕ × List ℕ). IsItem g limit least root q.0 q.1) (from, f) rest items;
      ended = All-push (λ x. reading g root x ≡ whole from) level f s.ended (is ∙ ap (λ x. Some x) end);
      divided = λ e fit l. omega (arith, s.divided e fit l, count-permutation (λ x. begins x (prefix_code e)) (fronts queue) (fronts ((from, f) ∷ rest)) (IsPermutation-map (λ i. i.1) queue ((from, f) ∷ rest) same), count-append (λ x. begins x (prefix_code e)) level (f ∷ []));
    }
  where
    whole_is : (q : Reading) → q.weight ≡ from → q.open_places ≡ [] → q ≡ record { weight = from; open_places = [] }
    whole_is q a b = ap (λ w. record { weight = w; open_places = q.open_places }) a ∙ ap (λ o. record { weight = from; open_places = o }) b

item_of : (g : Parts) (limit : ℕ) (least : Place → ℕ) (root : Place) (f : List ℕ) (o : Option Reading) → reading g root f ≡ o → key_within limit least o ≡ true → IsItem g limit least root (key_of least o) f
item_of g limit least root f None is h = absurd (false≢true h)
item_of g limit least root f (Some r) is h = record { at = r; is = is; keyed = refl; within = leb-true (key least r) limit h }

pub fronts-children : (g : Parts) (least : Place → ℕ) (root : Place) (f : List ℕ) (ns : List ℕ) → fronts (children g least root f ns) ≡ map (λ n. f ++ n ∷ []) ns
fronts-children g least root f [] = refl
fronts-children g least root f (n ∷ ns) = ap (λ l. (f ++ n ∷ []) ∷ l) (fronts-children g least root f ns)

pub fronts-append : (a b : Queue) → fronts (a ++ b) ≡ fronts a ++ fronts b
fronts-append [] b = refl
fronts-append (x ∷ a) b = ap (λ l. x.1 ∷ l) (fronts-append a b)

-- a popped item whose front isn't whole makes room for the fronts that grow from it
pub grown : (g : Parts) (limit : ℕ) (Kept : Place → Type 0) (least : Place → ℕ) (root : Place) → AreLeast g limit Kept least → Kept root → (from : ℕ) (queue rest new : Queue) (level : List (List ℕ)) (k : ℕ) (f : List ℕ) (r : Reading) (ns : List ℕ)
    → IsSearch g limit least root from queue level → IsPermutation queue ((k, f) ∷ rest) → reading g root f ≡ Some r → r.open_places ≢ []
    → IsGrowth g limit least root f ns → All (λ n. key_within limit least (reading g root (f ++ n ∷ [])) ≡ true) ns → IsPermutation (children g least root f ns ++ rest) new
    → IsSearch g limit least root from new level
grown g limit Kept least root solved kept from queue rest new level k f r ns s same is some grows good next =
    let P : ℕ × List ℕ → Type 0 = λ q. IsItem g limit least root q.0 q.1 in
    let items = All-tail P (k, f) rest (All-permutation P queue ((k, f) ∷ rest) same s.items) in
    let young = All-map P (λ n. (key_of least (reading g root (f ++ n ∷ [])), f ++ n ∷ [])) ns (All-weaker (λ n. key_within limit least (reading g root (f ++ n ∷ [])) ≡ true) _ (λ n h. item_of g limit least root (f ++ n ∷ []) (reading g root (f ++ n ∷ [])) refl h) ns good) in
    record {
      items = All-permutation P (children g least root f ns ++ rest) new next (All-append P (children g least root f ns) rest young items);
      ended = s.ended;
      divided = λ e fit l.
          let old : times_completed e (fronts ((k, f) ∷ rest)) ≡ times_completed e (fronts queue) = count-permutation (λ x. begins x (prefix_code e)) (fronts queue) (fronts ((k, f) ∷ rest)) (IsPermutation-map (λ i. i.1) queue ((k, f) ∷ rest) same) in
          let now : times_completed e (fronts new) ≡ times_completed e (fronts (children g least root f ns ++ rest)) = count-permutation (λ x. begins x (prefix_code e)) (fronts (children g least root f ns ++ rest)) (fronts new) (IsPermutation-map (λ i. i.1) (children g least root f ns ++ rest) new next) in
          let split : times_completed e (fronts (children g least root f ns ++ rest)) ≡ times_completed e (fronts (children g least root f ns)) + times_completed e (fronts rest) = ap (times_completed e) (fronts-append (children g least root f ns) rest) ∙ count-append (λ x. begins x (prefix_code e)) (fronts (children g least root f ns)) (fronts rest) in
          let parts : times_completed e (fronts (children g least root f ns)) ≡ once_if (begins f (prefix_code e)) = ap (times_completed e) (fronts-children g least root f ns) ∙ divides g limit Kept least root solved kept f r is some ns grows e fit l in
          omega (arith, s.divided e fit l, old, now, split, parts);
    }

typed : (g : Parts) (p : Place) (e : Expr) → fits_place g p e ≡ true → type_in g p.ctx e ≢ None
unfolding fits_place
typed g p e h = go (type_in g p.ctx e) (and_parts (some_below g (type_in g p.ctx e) p.wanted) (shallow p.left e) h).0
  where
    go : (o : Option ℕ) → some_below g o p.wanted ≡ true → o ≢ None
    go None q = absurd (false≢true q)
    go (Some a) q = λ x. some_none a x
      where
        some_none : (b : ℕ) → Some b ≡ None → ⊥
        some_none b y = cc

-- a prefix_code that begins another is that other
pub eq-begins : (g : Parts) (root : Place) (e x : Expr) → fits_place g root e ≡ true → fits_place g root x ≡ true → expr_eq e x ≡ begins (prefix_code x) (prefix_code e)
eq-begins g root e x fe fx = go (begins (prefix_code x) (prefix_code e)) refl
  where
    go : (b : Bool) → begins (prefix_code x) (prefix_code e) ≡ b → expr_eq e x ≡ b
    go true h =
        let r : Rest (prefix_code x) (prefix_code e) = rest_of (prefix_code x) (prefix_code e) h in
        let both = one_term g root.ctx e x [] r.more (typed g root e fe) (typed g root x fx) (append-nil (prefix_code e) ∙ r.is) in
        ap (expr_eq e) (sym both.0) ∙ expr_eq-refl e
    go false h = apart (expr_eq e x) refl
      where
        apart : (c : Bool) → expr_eq e x ≡ c → c ≡ false
        apart false q = refl
        apart true q =
            let e_x : e ≡ x = expr_eq-true e x q in
            let starts : begins (prefix_code x) (prefix_code e) ≡ true = ap (λ y. begins (prefix_code x) (prefix_code y)) e_x ∙ ap (begins (prefix_code x)) (sym (append-nil (prefix_code x))) ∙ begins-append (prefix_code x) [] in
            sym starts ∙ h

-- the terms of fronts
abbrev pub AreTerms : Parts → Place → ℕ → List (List ℕ) → List Expr → Type 0
AreTerms g root w [] [] = Unit {0}
AreTerms g root w (f ∷ fs) (x ∷ xs) = (f ≡ prefix_code x) × (fits_place g root x ≡ true) × (weigh g root x ≡ w) × AreTerms g root w fs xs
AreTerms g root w _ _ = ⊥

count_fit : (g : Parts) (root : Place) (w : ℕ) (fs : List (List ℕ)) (xs : List Expr) → AreTerms g root w fs xs → (e : Expr) → fits_place g root e ≡ true → count (expr_eq e) xs ≡ times_completed e fs
count_fit g root w [] [] t e fit = refl
count_fit g root w [] (x ∷ xs) t e fit = absurd t
count_fit g root w (f ∷ fs) [] t e fit = absurd t
count_fit g root w (f ∷ fs) (x ∷ xs) t e fit = rw (eq-begins g root e x fit t.1, t.0, count_fit g root w fs xs t.3 e fit) refl

count_apart : (g : Parts) (root : Place) (w : ℕ) (fs : List (List ℕ)) (xs : List Expr) → AreTerms g root w fs xs → (e : Expr) → (fits_place g root e ≡ true → weigh g root e ≡ w → ⊥) → count (expr_eq e) xs ≡ 0
count_apart g root w [] [] t e no_fit = refl
count_apart g root w [] (x ∷ xs) t e no_fit = absurd t
count_apart g root w (f ∷ fs) [] t e no_fit = absurd t
count_apart g root w (f ∷ fs) (x ∷ xs) t e no_fit = go (expr_eq e x) refl (count_apart g root w fs xs t.3 e no_fit)
  where
    go : (b : Bool) → expr_eq e x ≡ b → count (expr_eq e) xs ≡ 0 → once_if b + count (expr_eq e) xs ≡ 0
    go false q h = omega (arith, h)
    go true q h =
        let e_x : e ≡ x = expr_eq-true e x q in
        absurd (no_fit (ap (fits_place g root) e_x ∙ t.1) (ap (weigh g root) e_x ∙ t.2))

-- where all that is left has a greater key, nothing that is left may become a term of this weight
pub none_held : (g : Parts) (limit : ℕ) (Kept : Place → Type 0) (least : Place → ℕ) (root : Place) → AreLeast g limit Kept least → Kept root → (queue : Queue) (from : ℕ) → All (λ q. IsItem g limit least root q.0 q.1) queue → All (λ q. from < q.0) queue
    → (e : Expr) → fits_place g root e ≡ true → weigh g root e ≤ limit → weigh g root e ≤ from → times_completed e (fronts queue) ≡ 0
none_held g limit Kept least root s kept [] from items above e fit l m = refl
none_held g limit Kept least root s kept (q ∷ queue) from items above e fit l m =
    go (begins q.1 (prefix_code e)) refl (none_held g limit Kept least root s kept queue from (All-tail (λ (x : ℕ × List ℕ). IsItem g limit least root x.0 x.1) q queue items) (All-tail (λ (x : ℕ × List ℕ). from < x.0) q queue above) e fit l m)
  where
    go : (b : Bool) → begins q.1 (prefix_code e) ≡ b → times_completed e (fronts queue) ≡ 0 → once_if b + times_completed e (fronts queue) ≡ 0
    go false h rest = omega (arith, rest)
    go true h rest =
        let item : IsItem g limit least root q.0 q.1 = All-head (λ (x : ℕ × List ℕ). IsItem g limit least root x.0 x.1) q queue items in
        let r : Rest q.1 (prefix_code e) = rest_of q.1 (prefix_code e) h in
        let low : key least item.at ≤ weigh g root e = key-below g limit Kept least root s kept q.1 r.more item.at (weigh g root e) item.is (ap (reading g root) (sym r.is) ∙ code-whole g root e fit) l in
        let high : from < q.0 = All-head (λ (x : ℕ × List ℕ). from < x.0) q queue above in
        absurd (omega (arith, item.keyed, low, high, m))

-- the level has each term of its weight once, and nothing else
pub level_exact : (g : Parts) (limit : ℕ) (Kept : Place → Type 0) (least : Place → ℕ) (root : Place) → AreLeast g limit Kept least → Kept root → (from : ℕ) (queue : Queue) (level : List (List ℕ)) (terms : List Expr) → from ≤ limit
    → IsSearch g limit least root from queue level → All (λ q. from < q.0) queue → AreTerms g root from level terms
    → (e : Expr) → count (expr_eq e) terms ≡ once_if (fits_place g root e && (weigh g root e == from))
level_exact g limit Kept least root solved kept from queue level terms l s above t e = go (fits_place g root e) refl
  where
    go : (b : Bool) → fits_place g root e ≡ b → count (expr_eq e) terms ≡ once_if (b && (weigh g root e == from))
    go false h = count_apart g root from level terms t e (λ f w. false≢true (sym h ∙ f))
    go true h = elim (cases_eq (weigh g root e) from) [
      | inl is ↦
          let none : times_completed e (fronts queue) ≡ 0 = none_held g limit Kept least root solved kept queue from s.items above e h (omega (arith, is)) (omega (arith, is)) in
          let one : times_completed e (fronts queue) + times_completed e level ≡ 1 = s.divided e h (omega (arith, is)) ∙ ap once_if (le-leb from (weigh g root e) (omega (arith, is))) in
          let here : times_completed e level ≡ 1 = omega (arith, none, one) in
          rw (eq-eqb (weigh g root e) from is) (count_fit g root from level terms t e h ∙ here)
      | inr apart ↦ rw (ne_eqb (weigh g root e) from apart) (count_apart g root from level terms t e (λ f w. apart w))
    ]

-- a term of another weight completes nothing of the level
level_apart : (g : Parts) (root : Place) (from : ℕ) (level : List (List ℕ)) → All (λ f. reading g root f ≡ whole from) level → (e : Expr) → fits_place g root e ≡ true → weigh g root e ≢ from → times_completed e level ≡ 0
unfolding reading
level_apart g root from [] ended e fit apart = refl
level_apart g root from (f ∷ level) ended e fit apart = go (begins f (prefix_code e)) refl (level_apart g root from level (All-tail (λ (x : List ℕ). reading g root x ≡ whole from) f level ended) e fit apart)
  where
    go : (b : Bool) → begins f (prefix_code e) ≡ b → times_completed e level ≡ 0 → once_if b + times_completed e level ≡ 0
    go false h rest = omega (arith, rest)
    go true h rest =
        let r : Rest f (prefix_code e) = rest_of f (prefix_code e) h in
        let here : reading g root f ≡ whole from = All-head (λ (x : List ℕ). reading g root x ≡ whole from) f level ended in
        let last : read g from [] r.more ≡ whole (weigh g root e) = ap (λ o. and_then o (λ q. read g q.weight q.open_places r.more)) (sym here) ∙ sym (read-append g 0 (root ∷ []) f r.more) ∙ ap (reading g root) (sym r.is) ∙ code-whole g root e fit in
        absurd (apart (sym (read-end g from (weigh g root e) r.more last).1))

-- and the search goes on above it
pub next_search : (g : Parts) (limit : ℕ) (Kept : Place → Type 0) (least : Place → ℕ) (root : Place) → AreLeast g limit Kept least → Kept root → (from : ℕ) (queue : Queue) (level : List (List ℕ))
    → IsSearch g limit least root from queue level → All (λ q. from < q.0) queue → IsSearch g limit least root (from + 1) queue []
next_search g limit Kept least root solved kept from queue level s above = record {
  items = s.items;
  ended = All-from_recursion (λ (f : List ℕ). reading g root f ≡ whole (from + 1)) [] tt;
  divided = λ e fit l. elim (cases_lt from (weigh g root e)) [
    | inl more ↦
        let apart : times_completed e level ≡ 0 = level_apart g root from level s.ended e fit (λ w. absurd (omega (arith, w, more))) in
        omega (arith, s.divided e fit l, apart, ap once_if (le-leb from (weigh g root e) (omega arith)), ap once_if (le-leb (from + 1) (weigh g root e) (omega arith)))
    | inr less ↦
        let none : times_completed e (fronts queue) ≡ 0 = none_held g limit Kept least root solved kept queue from s.items above e fit l less in
        omega (arith, none, ap once_if (lt-leb (from + 1) (weigh g root e) (omega arith)))
  ];
}

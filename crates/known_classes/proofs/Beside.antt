-- A merge whose extra classes leave the names of the base's classes as they are.
use Rattle.std.proofs.Common.{◌≡◌, ◌∙◌, ap, sym, subst, refl, arith, ℕ, zero, suc, ◌+◌, ◌-◌, ◌<◌, ◌≤◌, Bool, true, false, cond, List, [], ◌∷◌, length, map, drop, slice_get, bytes_eq, Option, Some, None, IfSome, inl, inr}
use Rattle.std.specs.Prelude.{◌&&◌, ◌||◌, is_some, unwrap_or, option_map}
use Rattle.std.specs.Option.{option_or}
use Rattle.std.specs.Ordering.{nat_cmp, is_lt}
use Rattle.std.specs.Cmp.Lexicographic.{slice_cmp}
use Rattle.std.proofs.lemmas.List.{length-map}
use Rattle.std.proofs.lemmas.Option.{slice_get_within}
use Rattle.known_classes.specs.declared.summary.ClassSummary.{ClassSummary}
use Rattle.known_classes.specs.Known.{class_named, class_by_canonical, canonical, nesting_at, outer_in, simple_in, lesser, HasEachOnce, IsPlaceOf}
use Rattle.known_classes.specs.Nested.{same_text, is_nested, nested_class, surrounds, class_at, IsLesserOf}
use Rattle.known_classes.specs.Merging.{last_named, replaced, added, merged, KeepNames}
use Rattle.known_classes.specs.Least.{IsLeast, IsLeastOf}
use Rattle.known_classes.specs.Alike.{IsNestedSet, StandsAlike}
use Rattle.known_classes.specs.NameTables.{Extends, IsBehind, IsClosedBelow}
use Rattle.known_classes.proofs.Merging.{two, itself, equal, class-name, class-there, last-none, last-cons, last-name, replaced-name, not-some, merged-is, merged-named, merged-base, merged-length, split_at, added-new}
use Rattle.known_classes.proofs.MergedPlaces.{there}
use Rattle.known_classes.proofs.NumberTables.{some-there}
use Rattle.known_classes.proofs.Ways.{no-true, same-truth}
use Rattle.known_classes.proofs.Sets.{set-names, outside}
use Rattle.known_classes.proofs.TextPlaces.{named_at, named-place}
use Rattle.known_classes.proofs.Leasts.{NotLess, not-by, less-by, through, is-least, called-by, nested-by, called-least, nested-least}
use Rattle.known_classes.proofs.Orders.{order, less_back}

-- a class that surrounds another
surrounds-cons : (c : ClassSummary) (cs : List ClassSummary) (name : List ℕ) → surrounds (c ∷ cs) name ≡ (same_text (outer_in c.nesting) name || surrounds cs name)
unfolding surrounds
surrounds-cons c cs name = refl

surrounds-nil : (name : List ℕ) → surrounds [] name ≡ false
unfolding surrounds
surrounds-nil name = refl

or-true : (a : Bool) → (a || true) ≡ true
or-true true = refl
or-true false = refl

pub surrounds_at : (cs : List ClassSummary) (j : ℕ) (c : ClassSummary) (n : List ℕ) → slice_get cs j ≡ Some c → outer_in c.nesting ≡ Some n → surrounds cs n ≡ true
surrounds_at [] j c n g o = absurd cc
surrounds_at (d ∷ cs) zero c n g o =
    let q : d ≡ c = cc in
    surrounds-cons d cs n ∙ ap (λ (b : Bool). b || surrounds cs n) (ap (λ (x : ClassSummary). same_text (outer_in x.nesting) n) q ∙ ap (λ x. same_text x n) o ∙ itself n)
surrounds_at (d ∷ cs) (suc j) c n g o = surrounds-cons d cs n ∙ ap (λ (b : Bool). same_text (outer_in d.nesting) n || b) (surrounds_at cs j c n g o) ∙ or-true (same_text (outer_in d.nesting) n)

text-is : (o : Option (List ℕ)) (n : List ℕ) → same_text o n ≡ true → o ≡ Some n
text-is None n e = absurd (no-true e)
text-is (Some x) n e = ap Some (sym (equal n x e))

pub surrounds_of : (cs : List ClassSummary) (n : List ℕ) → surrounds cs n ≡ true → (j : ℕ) × (c : ClassSummary) × (slice_get cs j ≡ Some c) × (outer_in c.nesting ≡ Some n)
surrounds_of [] n e = absurd (no-true (sym (surrounds-nil n) ∙ e))
surrounds_of (c ∷ cs) n e = elim (two (same_text (outer_in c.nesting) n)) [
  | inl t ↦ (zero, c, refl, text-is (outer_in c.nesting) n t)
  | inr f ↦ let r = surrounds_of cs n (sym (surrounds-cons c cs n ∙ ap (λ (b : Bool). b || surrounds cs n) f) ∙ e) in (suc r.0, r.1, r.2, r.3)
]

-- the last extra class of a name stands among the extra ones
last-place-by : (b : Bool) (o : Option ClassSummary) (c d : ClassSummary) (cs : List ClassSummary) → option_or o (cond b (Some c) None) ≡ Some d → (o ≡ Some d → (j : ℕ) × (slice_get cs j ≡ Some d)) → (j : ℕ) × (slice_get (c ∷ cs) j ≡ Some d)
last-place-by true None c d cs e f = (zero, e)
last-place-by false None c d cs e f = absurd cc
last-place-by b (Some x) c d cs e f = let r = f e in (suc r.0, r.1)

last-place : (cs : List ClassSummary) (n : List ℕ) (d : ClassSummary) → last_named cs n ≡ Some d → (j : ℕ) × (slice_get cs j ≡ Some d)
last-place [] n d e = absurd (let q : None ≡ Some d = sym (last-none n) ∙ e in cc)
last-place (c ∷ cs) n d e = last-place-by (bytes_eq n c.name) (last_named cs n) c d cs (sym (last-cons c cs n) ∙ e) (last-place cs n d)

-- a replaced class stands where it stood
IsAlike : ClassSummary → ClassSummary → Type 0
IsAlike b c = (outer_in c.nesting ≡ outer_in b.nesting) × (simple_in c.nesting ≡ simple_in b.nesting)

alike-by : (base extra : List ClassSummary) → HasEachOnce base → KeepNames base extra → (j : ℕ) (b : ClassSummary) → slice_get base j ≡ Some b → (o : Option ClassSummary) → last_named extra b.name ≡ o → IsAlike b (unwrap_or o b)
unfolding IsAlike
alike-by base extra once k j b g None e = (refl, refl)
alike-by base extra once k j b g (Some c) e =
    let p = last-place extra b.name c e in
    let n : c.name ≡ b.name = last-name extra b.name c e in
    (k p.0 c p.1).old b (ap (class_named base) n ∙ named_at base j b once g)

replaced-alike : (base extra : List ClassSummary) → HasEachOnce base → KeepNames base extra → (j : ℕ) (b : ClassSummary) → slice_get base j ≡ Some b → IsAlike b (replaced extra b)
replaced-alike base extra once k j b g = alike-by base extra once k j b g (last_named extra b.name) refl

-- no base class is nested in an added one
added-apart : (base extra : List ClassSummary) → KeepNames base extra → (o : List ℕ) → is_some (class_named (added base extra) o) ≡ true → (class_named base o ≡ None) × (surrounds base o ≡ false)
added-apart base extra k o t =
    let d = some-there (class_named (added base extra) o) t in
    let p = named-place (added base extra) o d.0 d.1 in
    let n : d.0.name ≡ o = class-name (added base extra) o d.0 d.1 in
    let a = added-new base extra p.0 d.0 p.1 in
    let x = some-there (class_named extra o) (subst (λ z. is_some (class_named extra z) ≡ true) n a.1) in
    let q = named-place extra o x.0 x.1 in
    let m : x.0.name ≡ o = class-name extra o x.0 x.1 in
    let new : class_named base o ≡ None = subst (λ z. class_named base z ≡ None) n a.0 in
    (new, subst (λ z. surrounds base z ≡ false) m ((k q.0 x.0 q.1).new (ap (class_named base) m ∙ new)))

-- the names of the base stay
is-added : List ClassSummary → List ClassSummary → List ℕ → Bool
is-added base extra n = is_some (class_named (added base extra) n)

stands-by : (base extra : List ClassSummary) → HasEachOnce base → KeepNames base extra → (n : List ℕ) (o : Option ClassSummary) → class_named base n ≡ o → class_named (merged base extra) n ≡ option_or (option_map (replaced extra) o) None → StandsAlike base (merged base extra) n
unfolding IsAlike
stands-by base extra once k n None e m = record {
  outer = ap (λ c. outer_in (nesting_at c)) (m ∙ sym e);
  simple = ap (λ c. simple_in (nesting_at c)) (m ∙ sym e);
}
stands-by base extra once k n (Some b) e m =
    let p = named-place base n b e in
    let a = replaced-alike base extra once k p.0 b p.1 in
    record {
      outer = ap (λ c. outer_in (nesting_at c)) m ∙ a.0 ∙ sym (ap (λ c. outer_in (nesting_at c)) e);
      simple = ap (λ c. simple_in (nesting_at c)) m ∙ a.1 ∙ sym (ap (λ c. simple_in (nesting_at c)) e);
    }

outer-known : (o : Option ClassSummary) (x : List ℕ) → outer_in (nesting_at o) ≡ Some x → (d : ClassSummary) × (o ≡ Some d) × (outer_in d.nesting ≡ Some x)
outer-known None x e = absurd cc
outer-known (Some d) x e = (d, refl, e)

nested-set : (base extra : List ClassSummary) → HasEachOnce base → KeepNames base extra → IsNestedSet base (merged base extra) (is-added base extra)
unfolding is-added
nested-set base extra once k = record {
  same = λ n t. stands-by base extra once k n (class_named base n) refl (merged-named base extra n ∙ ap (λ o. option_or (option_map (replaced extra) (class_named base n)) o) (not-some (class_named (added base extra) n) t));
  closed = λ n o e t.
      let c = outer-known (class_named base n) o e in
      let p = named-place base n c.0 c.1 in
      let a = added-apart base extra k o t in
      absurd (no-true (sym a.1 ∙ surrounds_at base p.0 c.0 o p.1 c.2));
}

not-added : (base extra : List ClassSummary) → KeepNames base extra → (n : List ℕ) (b : ClassSummary) → class_named base n ≡ Some b → is-added base extra n ≡ false
unfolding is-added
not-added base extra k n b e = outside (is_some (class_named (added base extra) n)) (λ t. let a = added-apart base extra k n t in let q : None ≡ Some b = sym a.0 ∙ e in cc)

pub extends : (base extra : List ClassSummary) → HasEachOnce base → KeepNames base extra → Extends base (merged base extra)
unfolding IsAlike
extends base extra once k = record {
  within = let l = merged-length base extra in omega (arith, l);
  prefix = λ j b g.
      let a = replaced-alike base extra once k j b g in
      let n = replaced-name extra b in (
        replaced extra b,
        merged-base base extra j b g,
        n,
        a.0,
        a.1,
        ap (canonical (merged base extra)) n ∙ set-names base (merged base extra) (is-added base extra) b.name (nested-set base extra once k) (not-added base extra k b.name b (named_at base j b once g)),
      );
  closed = λ j q c d l g o by.
      let b = there base j l in
      let a = replaced-alike base extra once k j b.0 b.1 in
      let same : replaced extra b.0 ≡ c = (let e : Some (replaced extra b.0) ≡ Some c = sym (merged-base base extra j b.0 b.1) ∙ g in cc) in
      let out : outer_in b.0.nesting ≡ Some d.name = sym a.0 ∙ ap (λ (x : ClassSummary). outer_in x.nesting) same ∙ o in
      elim (split_at (map (replaced extra) base) (added base extra) q d (sym (ap (λ (r : List ClassSummary). slice_get r q) (merged-is base extra)) ∙ by)) [
        | inl f ↦ let w = slice_get_within (map (replaced extra) base) q d f in let m = length-map base (replaced extra) in omega (arith, w, m)
        | inr h ↦
            let t : is_some (class_named (added base extra) d.name) ≡ true = class-there (added base extra) h.0 d h.1.0 in
            let x = added-apart base extra k d.name t in
            absurd (no-true (sym x.1 ∙ surrounds_at base j b.0 d.name b.1 out))
      ];
}

pub behind_base : (base known : List ClassSummary) (n : ℕ) → n ≡ length base → Extends base known → IsBehind base known n
behind_base base known n e h = record {
  within = omega (arith, e, h.within);
  named = λ j c l g.
      let b = there base j (omega (arith, l, e)) in
      let f = h.prefix j b.0 b.1 in
      let same : f.0 ≡ c = (let r : Some f.0 ≡ Some c = sym f.1 ∙ g in cc) in
      (b.0, b.1, sym (ap (λ (x : ClassSummary). canonical known x.name) (sym same) ∙ f.5));
  closed = subst (IsClosedBelow known) (sym e) h.closed;
}

pub behind_none : (base known : List ClassSummary) → IsBehind base known 0
behind_none base known = record {
  within = omega arith;
  named = λ j c l g. absurd (omega (arith, l));
  closed = λ j q c d l g o by. absurd (omega (arith, l));
}

-- the least of the classes of the base and of those behind it
get-drop : {A : Type 0} (n k : ℕ) (xs : List A) → slice_get (drop n xs) k ≡ slice_get xs (n + k)
get-drop zero k xs = ap (slice_get xs) (let z : k ≡ 0 + k = omega arith in z)
get-drop (suc n) k [] = refl
get-drop (suc n) k (x ∷ xs) = get-drop n k xs ∙ ap (slice_get (x ∷ xs)) (let z : suc (n + k) ≡ suc n + k = omega arith in z)

less-or : (i n : ℕ) → (b : Bool) × (b ≡ true → i < n) × (b ≡ false → n ≤ i)
less-or i zero = (false, (λ e. absurd (no-true e)), λ e. omega arith)
less-or zero (suc n) = (true, (λ e. omega arith), λ e. absurd (no-true (sym e)))
less-or (suc i) (suc n) = let r = less-or i n in (r.0, (λ e. let l = r.1 e in omega (arith, l)), λ e. let l = r.2 e in omega (arith, l))

IsPrefix : (ClassSummary → Bool) → (ClassSummary → Bool) → List ClassSummary → List ClassSummary → Type 0
IsPrefix s t base known = (j : ℕ) (b : ClassSummary) → slice_get base j ≡ Some b → (c : ClassSummary) × (slice_get known j ≡ Some c) × (c.name ≡ b.name) × (t c ≡ s b)

-- what stands in the whole stands in the base or behind it
where-is : (s t : ClassSummary → Bool) (base known : List ClassSummary) → IsPrefix s t base known → (P : ClassSummary → Type 0) → ((j : ℕ) (b c : ClassSummary) → slice_get base j ≡ Some b → c.name ≡ b.name → t c ≡ s b → P c) → ((k : ℕ) (d : ClassSummary) → slice_get (drop (length base) known) k ≡ Some d → P d) → (j : ℕ) (d : ClassSummary) → slice_get known j ≡ Some d → P d
unfolding IsPrefix
where-is s t base known f P low high j d g =
    let r = less-or j (length base) in
    elim (two r.0) [
      | inl y ↦
          let b = there base j (r.1 y) in
          let c = f j b.0 b.1 in
          let same : c.0 ≡ d = (let e : Some c.0 ≡ Some d = sym c.1 ∙ g in cc) in
          subst P same (low j b.0 c.0 b.1 c.2 c.3)
      | inr n ↦
          let l = r.2 n in
          let at : length base + (j - length base) ≡ j = omega (arith, l) in
          high (j - length base) d (get-drop (length base) (j - length base) known ∙ ap (slice_get known) at ∙ g)
    ]

Low : (ClassSummary → Bool) → List ClassSummary → List ℕ → Type 0
Low t cs n = (j : ℕ) (d : ClassSummary) → slice_get cs j ≡ Some d → t d ≡ true → NotLess d.name n

low-none : (t : ClassSummary → Bool) (cs : List ClassSummary) (n : List ℕ) → IsLeast t cs None → Low t cs n
unfolding Low
low-none t cs n h j d g e = absurd (no-true (sym (h j d g) ∙ e))

low-some : (t : ClassSummary → Bool) (cs : List ClassSummary) (c : ClassSummary) → IsLeastOf t cs c → Low t cs c.name
unfolding Low NotLess
low-some t cs c h j d g e = h.least j d g e

low-on : (t : ClassSummary → Bool) (cs : List ClassSummary) (n m : List ℕ) → NotLess n m → Low t cs n → Low t cs m
unfolding Low
low-on t cs n m l h j d g e = through m n d.name l (h j d g e)

all-low : (s t : ClassSummary → Bool) (base known : List ClassSummary) → IsPrefix s t base known → (n : List ℕ) → Low s base n → Low t (drop (length base) known) n → Low t known n
unfolding Low
all-low s t base known f n low high = where-is s t base known f (λ d. t d ≡ true → NotLess d.name n)
    (λ j b c g e h p. subst (λ x. NotLess x n) (sym e) (low j b g (sym h ∙ p)))
    high

least-is : (t : ClassSummary → Bool) (cs : List ClassSummary) (j : ℕ) (c : ClassSummary) → slice_get cs j ≡ Some c → t c ≡ true → Low t cs c.name → IsLeastOf t cs c
unfolding Low NotLess
least-is t cs j c g e h = record { place = j; there = g; passes = e; least = h }

-- by the places
IsJoined : (ClassSummary → Bool) → List ClassSummary → Option ℕ → Type 0
IsJoined t known r = IsLeast t known (class_at known r) × IfSome r (λ i. i < length known)

joined-one : (t : ClassSummary → Bool) (known : List ClassSummary) (j : ℕ) (c : ClassSummary) → slice_get known j ≡ Some c → t c ≡ true → Low t known c.name → IsJoined t known (Some j)
unfolding IsJoined
joined-one t known j c g e h = (subst (IsLeast t known) (sym g) (least-is t known j c g e h), slice_get_within known j c g)

joined-two : (b : Bool) (s t : ClassSummary → Bool) (base known : List ClassSummary) → IsPrefix s t base known → (a x c : ClassSummary) (r : ℕ) → slice_get known r ≡ Some (cond b c a) → is_lt (slice_cmp nat_cmp c.name a.name) ≡ b → IsLeastOf t (drop (length base) known) a → IsLeastOf s base x → c.name ≡ x.name → t c ≡ s x → IsJoined t known (Some r)
unfolding NotLess order
joined-two true s t base known f a x c r g e h k n p =
    let low : Low s base c.name = subst (Low s base) (sym n) (low-some s base x k) in
    let l : NotLess a.name c.name = not-by (slice_cmp nat_cmp a.name c.name) (λ o. less_back c.name a.name (less-by (slice_cmp nat_cmp c.name a.name) e) o) in
    joined-one t known r c g (p ∙ k.passes) (all-low s t base known f c.name low (low-on t (drop (length base) known) a.name c.name l (low-some t (drop (length base) known) a h)))
joined-two false s t base known f a x c r g e h k n p =
    let low : Low s base c.name = subst (Low s base) (sym n) (low-some s base x k) in
    joined-one t known r a g h.passes (all-low s t base known f a.name (low-on s base c.name a.name e low) (low-some t (drop (length base) known) a h))

joined : (s t : ClassSummary → Bool) (base known : List ClassSummary) → IsPrefix s t base known → (a b : Option ClassSummary) (p q r : Option ℕ) → IsPlaceOf known a p → IsLeast t (drop (length base) known) a → IsPlaceOf base b q → IsLeast s base b → IsLesserOf known p q r → IsJoined t known r
unfolding IsJoined IsPrefix
joined s t base known f a b None None r ha la hb lb e =
    let none : IsLeast t known None = where-is s t base known f (λ d. t d ≡ false) (λ j x c g n h. h ∙ (subst (IsLeast s base) hb lb) j x g) (subst (IsLeast t (drop (length base) known)) ha la) in
    subst (IsJoined t known) (sym e) (none, tt)
joined s t base known f a b None (Some j) r ha la hb lb e =
    let x = there base j hb.0 in
    let least : IsLeastOf s base x.0 = subst (IsLeast s base) (hb.1 ∙ x.1) lb in
    let c = f j x.0 x.1 in
    let low : Low s base c.0.name = subst (Low s base) (sym c.2) (low-some s base x.0 least) in
    subst (IsJoined t known) (sym e) (joined-one t known j c.0 c.1 (c.3 ∙ least.passes) (all-low s t base known f c.0.name low (low-none t (drop (length base) known) c.0.name (subst (IsLeast t (drop (length base) known)) ha la))))
joined s t base known f a b (Some i) None r ha la hb lb e =
    let y = there known i ha.0 in
    let least : IsLeastOf t (drop (length base) known) y.0 = subst (IsLeast t (drop (length base) known)) (ha.1 ∙ y.1) la in
    let g : slice_get known e.0 ≡ Some y.0 = e.3 y.0 y.1 in
    subst (IsJoined t known) (sym e.1) (joined-one t known e.0 y.0 g least.passes (all-low s t base known f y.0.name (low-none s base y.0.name (subst (IsLeast s base) hb lb)) (low-some t (drop (length base) known) y.0 least)))
joined s t base known f a b (Some i) (Some j) r ha la hb lb e =
    let y = there known i ha.0 in
    let least : IsLeastOf t (drop (length base) known) y.0 = subst (IsLeast t (drop (length base) known)) (ha.1 ∙ y.1) la in
    let x = there base j hb.0 in
    let below : IsLeastOf s base x.0 = subst (IsLeast s base) (hb.1 ∙ x.1) lb in
    let c = f j x.0 x.1 in
    let g : slice_get known e.0 ≡ Some (lesser y.0 (Some c.0)) = e.3 y.0 y.1 ∙ ap (λ (o : Option ClassSummary). Some (lesser y.0 o)) c.1 in
    subst (IsJoined t known) (sym e.1) (joined-two (is_lt (slice_cmp nat_cmp c.0.name y.0.name)) s t base known f y.0 x.0 c.0 e.0 g refl least below c.2 c.3)

place-of : (known : List ClassSummary) (x : Option ClassSummary) (r : Option ℕ) → x ≡ class_at known r → IfSome r (λ i. i < length known) → IsPlaceOf known x r
place-of known x None e h = e
place-of known x (Some i) e h = (h, e)

pub joined_canonical : (base known : List ClassSummary) (from : ℕ) (name : List ℕ) (own other r : Option ℕ) → from ≡ length base → Extends base known → HasEachOnce known → IsPlaceOf known (class_by_canonical known (drop from known) name) own → IsPlaceOf base (class_by_canonical base base name) other → IsLesserOf known own other r → IsPlaceOf known (class_by_canonical known known name) r
unfolding IsJoined IsPrefix
joined_canonical base known from name own other r e h once p q l =
    let s : ClassSummary → Bool = λ c. bytes_eq name (canonical base c.name) in
    let t : ClassSummary → Bool = λ c. bytes_eq name (canonical known c.name) in
    let f : IsPrefix s t base known = λ j b g. let c = h.prefix j b g in (c.0, c.1, c.2, ap (bytes_eq name) c.5) in
    let high : IsLeast t (drop (length base) known) (class_by_canonical known (drop (length base) known) name) = subst (IsLeast t (drop (length base) known)) (sym (called-by known (drop (length base) known) name)) (is-least t (drop (length base) known)) in
    let low : IsLeast s base (class_by_canonical base base name) = subst (IsLeast s base) (sym (called-by base base name)) (is-least s base) in
    let j = joined s t base known f _ _ own other r (subst (λ n. IsPlaceOf known (class_by_canonical known (drop n known) name) own) e p) high q low l in
    place-of known (class_by_canonical known known name) r (sym (called-least known known name (class_at known r) once j.0)) j.1

nested-alike : (outer name : List ℕ) (b c : ClassSummary) → outer_in c.nesting ≡ outer_in b.nesting → simple_in c.nesting ≡ simple_in b.nesting → is_nested outer name c.nesting ≡ is_nested outer name b.nesting
nested-alike outer name b c e f = ap (λ o. same_text o outer && same_text (simple_in c.nesting) name) e ∙ ap (λ o. same_text (outer_in b.nesting) outer && same_text o name) f

pub joined_nested : (base known : List ClassSummary) (from : ℕ) (outer name : List ℕ) (own other r : Option ℕ) → from ≡ length base → Extends base known → HasEachOnce known → IsPlaceOf known (nested_class outer name (drop from known)) own → IsPlaceOf base (nested_class outer name base) other → IsLesserOf known own other r → IsPlaceOf known (nested_class outer name known) r
unfolding IsJoined IsPrefix
joined_nested base known from outer name own other r e h once p q l =
    let t : ClassSummary → Bool = λ c. is_nested outer name c.nesting in
    let f : IsPrefix t t base known = λ j b g. let c = h.prefix j b g in (c.0, c.1, c.2, nested-alike outer name b c.0 c.3 c.4) in
    let high : IsLeast t (drop (length base) known) (nested_class outer name (drop (length base) known)) = subst (IsLeast t (drop (length base) known)) (sym (nested-by outer name (drop (length base) known))) (is-least t (drop (length base) known)) in
    let low : IsLeast t base (nested_class outer name base) = subst (IsLeast t base) (sym (nested-by outer name base)) (is-least t base) in
    let j = joined t t base known f _ _ own other r (subst (λ n. IsPlaceOf known (nested_class outer name (drop n known)) own) e p) high q low l in
    place-of known (nested_class outer name known) r (sym (nested-least outer name known (class_at known r) once j.0)) j.1

pub behind_surrounds : (known : List ClassSummary) (from : ℕ) (n : List ℕ) → surrounds (drop from known) n ≡ true → surrounds known n ≡ true
behind_surrounds known from n e = let r = surrounds_of (drop from known) n e in surrounds_at known (from + r.0) r.1 n (sym (get-drop from r.0 known) ∙ r.2) r.3

pub joined_surrounds : (base known : List ClassSummary) (from : ℕ) (n : List ℕ) → from ≡ length base → Extends base known → surrounds (drop from known) n ≡ false → surrounds base n ≡ surrounds known n
unfolding IsPrefix
joined_surrounds base known from n e h f = same-truth (surrounds base n) (surrounds known n)
    (λ t. let r = surrounds_of base n t in let c = h.prefix r.0 r.1 r.2 in surrounds_at known r.0 c.0 n c.1 (c.3 ∙ r.3))
    (λ t.
    let r = surrounds_of known n t in
    let o = less-or r.0 (length base) in
    elim (two o.0) [
      | inl y ↦
          let b = there base r.0 (o.1 y) in
          let c = h.prefix r.0 b.0 b.1 in
          let same : c.0 ≡ r.1 = (let q : Some c.0 ≡ Some r.1 = sym c.1 ∙ r.2 in cc) in
          surrounds_at base r.0 b.0 n b.1 (sym c.3 ∙ ap (λ (x : ClassSummary). outer_in x.nesting) same ∙ r.3)
      | inr z ↦
          let l = o.2 z in
          let at : from + (r.0 - from) ≡ r.0 = omega (arith, l, e) in
          absurd (no-true (sym f ∙ surrounds_at (drop from known) (r.0 - from) r.1 n (get-drop from (r.0 - from) known ∙ ap (slice_get known) at ∙ r.2) r.3))
    ])

-- the canonical name of a class of the base
pub base_name : (base known : List ClassSummary) (place : ℕ) (text : List ℕ) → Extends base known → place < length base → ((b : ClassSummary) → slice_get base place ≡ Some b → text ≡ canonical base b.name) → (c : ClassSummary) → slice_get known place ≡ Some c → text ≡ canonical known c.name
base_name base known place text h l f c g =
    let b = there base place l in
    let x = h.prefix place b.0 b.1 in
    let same : x.0 ≡ c = (let q : Some x.0 ≡ Some c = sym x.1 ∙ g in cc) in
    f b.0 b.1 ∙ sym x.5 ∙ ap (λ (y : ClassSummary). canonical known y.name) same

-- The items after more numbers.
use Rattle.std.proofs.Common.{reverse, ◌≡◌, ℕ, ◌+◌, cond, Bool, true, false, List, [], ◌∷◌, ◌++◌, Some, refl, sym, ap, subst, ◌∙◌, arith, append_assoc}
use Rattle.std.proofs.lemmas.List.Elements.{All-cons, All-head, All-tail, All-weaker}
use Rattle.std.specs.List.Sorted.{IsPermutation}
use Rattle.std.proofs.lemmas.List.Sorted.{All-permutation, IsPermutation-map, IsPermutation-trans, IsPermutation-append_left, IsPermutation-append_right, IsPermutation-append_comm, IsPermutation-refl}
use Rattle.terms.specs.Count.{total}
use Rattle.terms.specs.Place.{Place, goal_place}
use Rattle.terms.specs.declared.parts.Parts.{Parts}
use Rattle.partial_terms.specs.Fronts.{reading}
use Rattle.partial_terms.specs.Search.{key_of, children}
use Rattle.reconstruction.specs.Tabled.{places_of, least_of, AreNumbered, front_of, stack_of, IsHeld, AreHeld, IsParent, AreGrown, child, may, PushesIf, Pushes, seen, picked, Grew}
use Rattle.reconstruction.specs.declared.item.Item.{Item}
use Rattle.reconstruction.specs.declared.item.Arena.{Arena}
use Rattle.reconstruction.specs.declared.item.Parent.{Parent}
use Rattle.reconstruction.specs.declared.tables.Tables.{Tables}
use Rattle.partial_terms.proofs.Chaining.{grown-refl, grown-trans}

pub all-grown-refl : (a : Arena) → AreGrown a a
all-grown-refl a = record { fronts = grown-refl a.fronts; stacks = grown-refl a.stacks }

pub all-grown-trans : (a b c : Arena) → AreGrown a b → AreGrown b c → AreGrown a c
all-grown-trans a b c h k = record { fronts = grown-trans a.fronts b.fronts c.fronts h.fronts k.fronts; stacks = grown-trans a.stacks b.stacks c.stacks h.stacks k.stacks }

-- items that were kept stay
pub held-grown : (t : Tables) (a b : Arena) → AreGrown a b → (k : ℕ) (i : Item) → IsHeld t a k i → IsHeld t b k i
held-grown t a b s k i h =
    let front : front_of a i.front ≡ front_of b i.front = ap reverse (sym (s.fronts.same i.front h.front_in)) in
    let stack : stack_of a i.stack ≡ stack_of b i.stack = sym (s.stacks.same i.stack h.stack_in) in
    let f_in = h.front_in in
    let s_in = h.stack_in in
    let f_long = s.fronts.longer in
    let s_long = s.stacks.longer in
    record {
      front_in = omega (arith, f_in, f_long);
      stack_in = omega (arith, s_in, s_long);
      numbered = subst (AreNumbered t) stack h.numbered;
      weight = h.weight;
      is = ap (reading t.env (goal_place t.env)) (sym front) ∙ h.is ∙ ap (λ ps. Some (record { weight = h.weight; open_places = places_of t ps })) stack;
      keyed = h.keyed ∙ ap (λ ps. h.weight + total (least_of t) (places_of t ps)) stack;
      within = h.within;
    }

pub are-held-grown : (t : Tables) (a b : Arena) → AreGrown a b → (items : List (ℕ × Item)) → AreHeld t a items → AreHeld t b items
are-held-grown t a b s items all = All-weaker (λ (q : ℕ × Item). IsHeld t a q.0 q.1) (λ (q : ℕ × Item). IsHeld t b q.0 q.1) (λ q h. held-grown t a b s q.0 q.1 h) items all

-- a parent's front stays
pub front-same : (t : Tables) (a b : Arena) (p : Parent) → AreGrown a b → IsParent t a p → front_of b p.front ≡ front_of a p.front
front-same t a b p s h = ap reverse (s.fronts.same p.front h.front_in)

pub seen-grown : (t : Tables) (a b : Arena) → AreGrown a b → (items : List (ℕ × Item)) → AreHeld t a items → seen b items ≡ seen a items
seen-grown t a b s [] all = refl
seen-grown t a b s (q ∷ items) all =
    let P : ℕ × Item → Type 0 = λ x. IsHeld t a x.0 x.1 in
    let here : IsHeld t a q.0 q.1 = All-head P q items all in
    ap (λ c. (q.0, reverse c) ∷ seen b items) (s.fronts.same q.1.front here.front_in) ∙ ap (λ l. (q.0, front_of a q.1.front) ∷ l) (seen-grown t a b s items (All-tail P q items all))

pub children-append : (g : Parts) (least : Place → ℕ) (r : Place) (f : List ℕ) (a b : List ℕ) → children g least r f (a ++ b) ≡ children g least r f a ++ children g least r f b
children-append g least r f [] b = refl
children-append g least r f (n ∷ a) b = ap (λ l. (key_of least (reading g r (f ++ n ∷ [])), f ++ n ∷ []) ∷ l) (children-append g least r f a b)

pub picked-append : (ok : ℕ → Bool) (a b : List ℕ) → picked ok (a ++ b) ≡ picked ok a ++ picked ok b
unfolding picked
picked-append ok [] b = refl
picked-append ok (n ∷ a) b = go (ok n) (picked-append ok a b)
  where
    go : (c : Bool) → picked ok (a ++ b) ≡ picked ok a ++ picked ok b → cond c (n ∷ picked ok (a ++ b)) (picked ok (a ++ b)) ≡ cond c (n ∷ picked ok a) (picked ok a) ++ picked ok b
    go true h = ap (λ l. n ∷ l) h
    go false h = h

pub picked-one : (ok : ℕ → Bool) (n : ℕ) → picked ok (n ∷ []) ≡ cond (ok n) (n ∷ []) []
unfolding picked
picked-one ok n = refl

pub picked-none : (ok : ℕ → Bool) → picked ok [] ≡ []
unfolding picked
picked-none ok = refl

pub grew-none : (t : Tables) (a : Arena) (f : List ℕ) (items : List (ℕ × Item)) → AreHeld t a items → Grew t a a f [] items items
grew-none t a f items all = record {
  grown = all-grown-refl a;
  all = all;
  moved = subst (λ ns. IsPermutation (children t.env (least_of t) (goal_place t.env) f ns ++ seen a items) (seen a items)) (sym (picked-none (may t f))) (IsPermutation-refl (seen a items));
}

-- what one number adds
pub grew-one : (t : Tables) (a b : Arena) (f : List ℕ) (n : ℕ) (old new : List (ℕ × Item)) → AreGrown a b → AreHeld t a old → Pushes t b f n old new → Grew t a b f (n ∷ []) old new
grew-one t a b f n old new s all push = go (may t f n) refl push
  where
    at : (c : Bool) → may t f n ≡ c → AreHeld t b new → IsPermutation (children t.env (least_of t) (goal_place t.env) f (cond c (n ∷ []) []) ++ seen a old) (seen b new) → Grew t a b f (n ∷ []) old new
    at c is held p = record {
      grown = s;
      all = held;
      moved = subst (λ ns. IsPermutation (children t.env (least_of t) (goal_place t.env) f ns ++ seen a old) (seen b new)) (sym (picked-one (may t f) n ∙ ap (λ x. cond x (n ∷ []) []) is)) p;
    }

    go : (c : Bool) → may t f n ≡ c → PushesIf c t b f n old new → Grew t a b f (n ∷ []) old new
    go false is same =
        let held : AreHeld t b new = subst (AreHeld t b) (sym same) (are-held-grown t a b s old all) in
        let shown : seen a old ≡ seen b new = sym (seen-grown t a b s old all) ∙ ap (seen b) (sym same) in
        at false is held (subst (λ l. IsPermutation (seen a old) l) shown (IsPermutation-refl (seen a old)))
    go true is p =
        let P : ℕ × Item → Type 0 = λ q. IsHeld t b q.0 q.1 in
        let i : Item = p.0 in
        let k = key_of (least_of t) (child t f n) in
        let x : ℕ × List ℕ = (k, f ++ n ∷ []) in
        let held : AreHeld t b new = All-permutation P ((k, i) ∷ old) new p.1 (All-cons P (k, i) old p.2 (are-held-grown t a b s old all)) in
        let shown : seen b ((k, i) ∷ old) ≡ x ∷ seen a old = ap (λ y. (k, y) ∷ seen b old) p.3 ∙ ap (λ l. x ∷ l) (seen-grown t a b s old all) in
        at true is held (subst (λ l. IsPermutation l (seen b new)) shown (IsPermutation-map (λ (q : ℕ × Item). (q.0, front_of b q.1.front)) ((k, i) ∷ old) new p.1))

-- one step after the other
pub grew-then : (t : Tables) (a b c : Arena) (f : List ℕ) (ns ms : List ℕ) (old mid new : List (ℕ × Item)) → Grew t a b f ns old mid → Grew t b c f ms mid new → Grew t a c f (ns ++ ms) old new
grew-then t a b c f ns ms old mid new h k =
    let grows : List ℕ → List (ℕ × List ℕ) = λ l. children t.env (least_of t) (goal_place t.env) f (picked (may t f) l) in
    let both : grows (ns ++ ms) ≡ grows ns ++ grows ms = ap (children t.env (least_of t) (goal_place t.env) f) (picked-append (may t f) ns ms) ∙ children-append t.env (least_of t) (goal_place t.env) f (picked (may t f) ns) (picked (may t f) ms) in
    let turned : IsPermutation ((grows ns ++ grows ms) ++ seen a old) ((grows ms ++ grows ns) ++ seen a old) = IsPermutation-append_left (seen a old) (grows ns ++ grows ms) (grows ms ++ grows ns) (IsPermutation-append_comm (grows ns) (grows ms)) in
    let inner : IsPermutation (grows ms ++ (grows ns ++ seen a old)) (grows ms ++ seen b mid) = IsPermutation-append_right (grows ms) (grows ns ++ seen a old) (seen b mid) h.moved in
    let one : IsPermutation ((grows ns ++ grows ms) ++ seen a old) (grows ms ++ seen b mid) = IsPermutation-trans _ _ _ (subst (λ l. IsPermutation ((grows ns ++ grows ms) ++ seen a old) l) (append_assoc (grows ms) (grows ns) (seen a old)) turned) inner in
    record {
      grown = all-grown-trans a b c h.grown k.grown;
      all = k.all;
      moved = subst (λ l. IsPermutation (l ++ seen a old) (seen c new)) (sym both) (IsPermutation-trans _ _ _ one k.moved);
    }

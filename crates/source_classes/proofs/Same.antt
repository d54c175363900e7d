-- Lists with the same items, and classes that have one class under each name.
use Rattle.std.proofs.Common.{◌≡◌, ◌∙◌, ap, sym, refl, ℕ, zero, suc, ◌+◌, Bool, true, false, cond, List, [], ◌∷◌, length, slice_get, Option, Some, None, inl, inr, bytes_eq, flat_map}
use Rattle.std.specs.Prelude.{is_some}
use Rattle.std.specs.Option.{option_or}
use Rattle.std.specs.List.{Contains}
use Rattle.std.specs.List.Sorted.{IsPermutation}
use Rattle.std.proofs.lemmas.List.Sorted.{Contains-permutation, IsPermutation-sym}
use Rattle.std.proofs.lemmas.Option.{slice_get_read, slice_get_within, get_or_from_slice_get}
use Rattle.known_classes.specs.declared.summary.ClassSummary.{ClassSummary}
use Rattle.known_classes.specs.Known.{class_named, HasEachOnce}
use Rattle.known_classes.specs.Merging.{last_named}
use Rattle.known_classes.proofs.Merging.{last-none, last-cons, last-name, last-some, class-there, split_at, get-prefix, get-behind}

-- the item stands in the list
abbrev pub Has : {A : Type 0} → List A → A → Type 0
Has xs x = (k : ℕ) × (slice_get xs k ≡ Some x)

-- both lists have the same items
pub record HaveSame {A : Type 0} (xs ys : List A) : Type 0 where
  pub to : (x : A) → Has xs x → Has ys x
  pub from : (x : A) → Has ys x → Has xs x

contained : {A : Type 0} (xs : List A) (x : A) → Has xs x → Contains xs x
contained xs x h = (h.0, slice_get_within xs h.0 x h.1, get_or_from_slice_get xs h.0 x x h.1)

held : {A : Type 0} (xs : List A) (x : A) → Contains xs x → Has xs x
held xs x c = (c.0, slice_get_read xs (length xs) c.0 x refl c.1 (sym c.2))

pub same_items : {A : Type 0} (xs ys : List A) → IsPermutation xs ys → HaveSame xs ys
same_items xs ys p = record {
  to = λ x h. held ys x (Contains-permutation xs ys x p (contained xs x h));
  from = λ x h. held xs x (Contains-permutation ys xs x (IsPermutation-sym xs ys p) (contained ys x h));
}

-- an item of what the items give
flat-in : {A B : Type 0} (f : A → List B) (xs : List A) (y : B) → Has (flat_map f xs) y → (x : A) × (Has xs x × Has (f x) y)
flat-in f [] y h = absurd cc
flat-in f (x ∷ xs) y h = elim (split_at (f x) (flat_map f xs) h.0 y h.1) [
  | inl e ↦ (x, ((0, refl), (h.0, e)))
  | inr p ↦ let q = flat-in f xs y (p.0, p.1.0) in (q.0, ((suc q.1.0.0, q.1.0.1), q.1.1))
]

flat-of : {A B : Type 0} (f : A → List B) (xs : List A) (k : ℕ) (x : A) (y : B) → slice_get xs k ≡ Some x → Has (f x) y → Has (flat_map f xs) y
flat-of f [] k x y e h = absurd cc
flat-of f (z ∷ zs) zero x y e h =
    let q : z ≡ x = cc in
    let e : slice_get (f z) h.0 ≡ Some y = ap (λ w. slice_get (f w) h.0) q ∙ h.1 in
    (h.0, get-prefix (f z) (flat_map f zs) h.0 y e)
flat-of f (z ∷ zs) (suc k) x y e h =
    let p = flat-of f zs k x y e h in
    (length (f z) + p.0, get-behind (f z) (flat_map f zs) p.0 ∙ p.1)

pub flat_same : {A B : Type 0} (f : A → List B) (xs ys : List A) → HaveSame xs ys → HaveSame (flat_map f xs) (flat_map f ys)
flat_same f xs ys h = record {
  to = λ y p. let q = flat-in f xs y p in let r = h.to q.0 q.1.0 in flat-of f ys r.0 q.0 y r.1 q.1.1;
  from = λ y p. let q = flat-in f ys y p in let r = h.from q.0 q.1.0 in flat-of f xs r.0 q.0 y r.1 q.1.1;
}

-- classes of one name are one class
pub record AreAgreed (cs : List ClassSummary) : Type 0 where
  pub one : (c d : ClassSummary) → Has cs c → Has cs d → c.name ≡ d.name → c ≡ d

pub agreed_once : (cs : List ClassSummary) → HasEachOnce cs → AreAgreed cs
agreed_once cs h = record {
  one = λ c d p q n.
      let k : p.0 ≡ q.0 = h.once p.0 q.0 c d p.1 q.1 n in
      let e : Some c ≡ Some d = sym p.1 ∙ ap (slice_get cs) k ∙ q.1 in
      cc;
}

last-by : (o : Option ClassSummary) (b : Bool) (x c : ClassSummary) (xs : List ClassSummary) → ((d : ClassSummary) → o ≡ Some d → Has xs d) → option_or o (cond b (Some x) None) ≡ Some c → Has (x ∷ xs) c
last-by (Some d) b x c xs f e = let q : d ≡ c = cc in let p = f d refl in (suc p.0, p.1 ∙ ap Some q)
last-by None true x c xs f e = (0, e)
last-by None false x c xs f e = absurd cc

-- the last class of a name is one of them
last-has : (cs : List ClassSummary) (n : List ℕ) (c : ClassSummary) → last_named cs n ≡ Some c → Has cs c
last-has [] n c e = let z : last_named [] n ≡ None = last-none n in absurd cc
last-has (x ∷ xs) n c e = last-by (last_named xs n) (bytes_eq n x.name) x c xs (λ d f. last-has xs n d f) (sym (last-cons x xs n) ∙ e)

-- a class is the last one of its name, or another is
last-there : (cs : List ClassSummary) (c : ClassSummary) (n : List ℕ) → Has cs c → c.name ≡ n → is_some (last_named cs n) ≡ true
last-there cs c n h e = last-some cs n ∙ (ap (λ m. is_some (class_named cs m)) (sym e) ∙ class-there cs h.0 c h.1)

last-same-by : (xs ys : List ClassSummary) (n : List ℕ) (o p : Option ClassSummary) → HaveSame xs ys → AreAgreed xs → last_named xs n ≡ o → last_named ys n ≡ p → p ≡ o
last-same-by xs ys n None None h a e f = refl
last-same-by xs ys n None (Some d) h a e f =
    let t : is_some (last_named xs n) ≡ true = last-there xs d n (h.from d (last-has ys n d f)) (last-name ys n d f) in
    let z : is_some (last_named xs n) ≡ false = ap is_some e in
    absurd cc
last-same-by xs ys n (Some c) None h a e f =
    let t : is_some (last_named ys n) ≡ true = last-there ys c n (h.to c (last-has xs n c e)) (last-name xs n c e) in
    let z : is_some (last_named ys n) ≡ false = ap is_some f in
    absurd cc
last-same-by xs ys n (Some c) (Some d) h a e f =
    ap Some (a.one d c (h.from d (last-has ys n d f)) (last-has xs n c e) (last-name ys n d f ∙ sym (last-name xs n c e)))

-- the last class of a name goes by the classes alone, where those of one name are one
pub last_same : (xs ys : List ClassSummary) (n : List ℕ) → HaveSame xs ys → AreAgreed xs → last_named ys n ≡ last_named xs n
last_same xs ys n h a = last-same-by xs ys n (last_named xs n) (last_named ys n) h a refl refl

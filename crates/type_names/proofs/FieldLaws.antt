-- A descriptor that is read has the text, and the text is read again.
use Rattle.std.proofs.Common.{◌≡◌, ℕ, zero, suc, ◌+◌, Bool, true, false, ◌&&◌, cond, eqb, List, [], ◌∷◌, ◌++◌, replicate, Option, Some, None, Result, Ok, Err, refl, sym, ap, subst, ◌∙◌, append_assoc, arith, inl, inr, ◌⊎◌}
use Rattle.std.proofs.lemmas.Bool.{eqb-true}
use Rattle.std.proofs.lemmas.List.{append-nil}
use Rattle.std.specs.Prelude.{IfOk, IfSome}
use Rattle.type_names.specs.declared.kinds.Base.{Base}
use Rattle.type_names.specs.declared.kinds.Base.TheVariants.{Byte, Char, Double, Float, Int, Long, Short, Boolean, Class}
use Rattle.type_names.specs.declared.kinds.Erased.{Erased}
use Rattle.type_names.specs.Names.{part_step, goes_on, is_internal}
use Rattle.type_names.specs.Descriptors.{base, IsBase, field, IsField}
use Rattle.type_names.specs.Reading.{letter, with_first, until, named, lettered, base_at, with_dims, field_at, ended}

chosen : {A : Type 0} (b : Bool) (x y z : A) → cond b x y ≡ z → ((b ≡ true) × (x ≡ z)) ⊎ ((b ≡ false) × (y ≡ z))
chosen true x y z e = inl (refl, e)
chosen false x y z e = inr (refl, e)

first_ok : (c : ℕ) (r : Option (List ℕ × List ℕ)) (y : List ℕ × List ℕ) → with_first c r ≡ Some y → (x : List ℕ × List ℕ) × (r ≡ Some x) × ((c ∷ x.0, x.1) ≡ y)
first_ok c None y e = absurd cc
first_ok c (Some x) y e = (x, refl, cc)

abbrev some : {A : Type 0} → A → Option A
some x = Some x

pub some_is : {A : Type 0} (x y : A) → some x ≡ some y → x ≡ y
some_is x y e = cc

until_takes : (bytes : List ℕ) (y : List ℕ × List ℕ) → until bytes ≡ Some y → bytes ≡ y.0 ++ (59 ∷ y.1)
unfolding until
until_takes [] y e = absurd cc
until_takes (c ∷ cs) y e =
    elim (chosen (eqb c 59) _ _ (Some y) e) [
      | inl h ↦ subst (λ (z : List ℕ × List ℕ). c ∷ cs ≡ z.0 ++ (59 ∷ z.1)) (some_is ([], cs) y h.1) (ap (λ (k : ℕ). k ∷ cs) (eqb-true _ _ h.0))
      | inr h ↦ let a = first_ok c (until cs) y h.1 in subst (λ (z : List ℕ × List ℕ). c ∷ cs ≡ z.0 ++ (59 ∷ z.1)) a.2 (ap (λ (t : List ℕ). c ∷ t) (until_takes cs a.0 a.1))
    ]

-- an internal name has no ';'
and_right : (a b : Bool) → (a && b) ≡ true → b ≡ true
and_right true b e = e
and_right false b e = absurd cc

and_left : (a b : Bool) → (a && b) ≡ true → a ≡ true
and_left true b e = refl
and_left false b e = absurd cc

not_semi : (start : Bool) (c : ℕ) (next : Bool) → part_step start c ≡ Some next → eqb c 59 ≡ false
not_semi start c next e = decided (eqb c 59) (λ t. let is : c ≡ 59 = eqb-true _ _ t in none_some next (subst (λ (k : ℕ). part_step start k ≡ Some next) is e))
  where
    none_some : (b : Bool) → None ≡ Some b → ⊥
    none_some b e = cc

    decided : (b : Bool) → (b ≡ true → ⊥) → b ≡ false
    decided true h = absurd (h refl)
    decided false h = refl

goes_ok : (o : Option Bool) (rest : Bool → Bool) → goes_on o rest ≡ true → (next : Bool) × (o ≡ Some next) × (rest next ≡ true)
goes_ok None rest e = absurd cc
goes_ok (Some next) rest e = (next, refl, e)

no_semi : (start : Bool) (c : ℕ) (cs : List ℕ) → is_internal start (c ∷ cs) ≡ true → (eqb c 59 ≡ false) × ((next : Bool) × (is_internal next cs ≡ true))
unfolding is_internal
no_semi start c cs e =
    let g = goes_ok (part_step start c) (λ next. is_internal next cs) e in
    (not_semi start c g.0 g.1, (g.0, g.2))

until_again : (start : Bool) (name rest : List ℕ) → is_internal start name ≡ true → until (name ++ (59 ∷ rest)) ≡ Some (name, rest)
unfolding until
until_again start [] rest ok = refl
until_again start (c ∷ cs) rest ok =
    let n = no_semi start c cs ok in
    rw (n.0, until_again n.1.0 cs rest n.1.1) refl

lettered_ok : (o : Option Base) (rest : List ℕ) (x : Base × List ℕ) → lettered o rest ≡ Some x → (o ≡ Some x.0) × (rest ≡ x.1)
lettered_ok None rest x e = absurd cc
lettered_ok (Some b) rest x e = let p = some_is (b, rest) x e in (ap (λ (z : Base × List ℕ). Some z.0) p, ap (λ (z : Base × List ℕ). z.1) p)

pick : (c k : ℕ) (v b : Base) (more : Option Base) → base v ≡ k ∷ [] → IsBase v → cond (eqb c k) (Some v) more ≡ Some b → ((base b ≡ c ∷ []) × IsBase b) ⊎ (more ≡ Some b)
pick c k v b more text ok e =
    elim (chosen (eqb c k) _ _ (Some b) e) [
      | inl h ↦ inl (subst (λ (z : Base). (base z ≡ c ∷ []) × IsBase z) (some_is v b h.1) (text ∙ ap (λ (n : ℕ). n ∷ []) (sym (eqb-true _ _ h.0)), ok))
      | inr h ↦ inr h.1
    ]

letter_takes : (c : ℕ) (b : Base) → letter c ≡ Some b → (base b ≡ c ∷ []) × IsBase b
letter_takes c b e =
    elim (pick c 66 Byte b _ refl tt e) [
      | inl h ↦ h
      | inr e1 ↦
          elim (pick c 67 Char b _ refl tt e1) [
            | inl h ↦ h
            | inr e2 ↦
                elim (pick c 68 Double b _ refl tt e2) [
                  | inl h ↦ h
                  | inr e3 ↦
                      elim (pick c 70 Float b _ refl tt e3) [
                        | inl h ↦ h
                        | inr e4 ↦
                            elim (pick c 73 Int b _ refl tt e4) [
                              | inl h ↦ h
                              | inr e5 ↦
                                  elim (pick c 74 Long b _ refl tt e5) [
                                    | inl h ↦ h
                                    | inr e6 ↦
                                        elim (pick c 83 Short b _ refl tt e6) [
                                          | inl h ↦ h
                                          | inr e7 ↦
                                              elim (pick c 90 Boolean b _ refl tt e7) [ inl h ↦ h | inr e8 ↦ absurd cc ]
                                        ]
                                  ]
                            ]
                      ]
                ]
          ]
    ]

named_ok : (r : Option (List ℕ × List ℕ)) (x : Base × List ℕ) → named r ≡ Some x → (y : List ℕ × List ℕ) × (r ≡ Some y) × (is_internal true y.0 ≡ true) × ((Class y.0, y.1) ≡ x)
named_ok None x e = absurd cc
named_ok (Some y) x e = tested (is_internal true y.0) refl e
  where
    tested : (b : Bool) → is_internal true y.0 ≡ b → cond b (Some (Class y.0, y.1)) None ≡ Some x → (z : List ℕ × List ℕ) × (Some y ≡ Some z) × (is_internal true z.0 ≡ true) × ((Class z.0, z.1) ≡ x)
    tested true is t = (y, refl, is, some_is _ x t)
    tested false is t = absurd cc

base_takes : (bytes : List ℕ) (x : Base × List ℕ) → base_at bytes ≡ Some x → (bytes ≡ base x.0 ++ x.1) × IsBase x.0
unfolding base_at
base_takes [] x e = absurd cc
base_takes (c ∷ rest) x e =
    elim (chosen (eqb c 76) _ _ (Some x) e) [
      | inl h ↦
          let n = named_ok (until rest) x h.1 in
          let whole : c ∷ rest ≡ (76 ∷ (n.0.0 ++ 59 ∷ [])) ++ n.0.1 = ap (λ (k : ℕ). k ∷ rest) (eqb-true _ _ h.0) ∙ ap (λ (t : List ℕ). 76 ∷ t) (until_takes rest n.0 n.1 ∙ sym (append_assoc n.0.0 (59 ∷ []) n.0.1)) in
          subst (λ (z : Base × List ℕ). (c ∷ rest ≡ base z.0 ++ z.1) × IsBase z.0) n.3 (whole, n.2)
      | inr h ↦
          let l = lettered_ok (letter c) rest x h.1 in
          let t = letter_takes c x.0 l.0 in
          (rw (t.0, ← l.1) refl, t.1)
    ]

base_again : (n : ℕ) (b : Base) (rest : List ℕ) → IsBase b → field_at n (base b ++ rest) ≡ Some (record { dims = n; base = b }, rest)
unfolding field_at base_at
base_again n Byte rest ok = refl
base_again n Char rest ok = refl
base_again n Double rest ok = refl
base_again n Float rest ok = refl
base_again n Int rest ok = refl
base_again n Long rest ok = refl
base_again n Short rest ok = refl
base_again n Boolean rest ok = refl
base_again n (Class name) rest ok =
    let found : until ((name ++ 59 ∷ []) ++ rest) ≡ Some (name, rest) = ap until (append_assoc name (59 ∷ []) rest) ∙ until_again true name rest ok in
    rw (found, ok) refl

dims_ok : (n : ℕ) (r : Option (Base × List ℕ)) (x : Erased × List ℕ) → with_dims n r ≡ Some x → (y : Base × List ℕ) × (r ≡ Some y) × ((record { dims = n; base = y.0 }, y.1) ≡ x)
dims_ok n None x e = absurd cc
dims_ok n (Some y) x e = (y, refl, some_is (record { dims = n; base = y.0 }, y.1) x e)

pub record Begins (n : ℕ) (bytes : List ℕ) (x : Erased × List ℕ) : Type 0 where
  pub more : ℕ
  pub dims : x.0.dims ≡ n + more
  pub parts : bytes ≡ replicate more 91 ++ (base x.0.base ++ x.1)
  pub is : IsField x.0

pub field_takes : (n : ℕ) (bytes : List ℕ) (x : Erased × List ℕ) → field_at n bytes ≡ Some x → Begins n bytes x
unfolding field_at
field_takes n [] x e = absurd cc
field_takes n (c ∷ rest) x e =
    elim (chosen (eqb c 91) _ _ (Some x) e) [
      | inl h ↦
          let b = field_takes (suc n) rest x h.1 in
          record { more = suc b.more; dims = omega (arith, b.dims); parts = ap (λ (k : ℕ). k ∷ rest) (eqb-true _ _ h.0) ∙ ap (λ (t : List ℕ). 91 ∷ t) b.parts; is = b.is }
      | inr h ↦
          let d = dims_ok n (base_at (c ∷ rest)) x h.1 in
          let t = base_takes (c ∷ rest) d.0 d.1 in
          subst (λ (z : Erased × List ℕ). Begins n (c ∷ rest) z) d.2 (record { more = 0; dims = omega arith; parts = t.0; is = t.1 })
    ]

pub field_again : (n k m : ℕ) (b : Base) (rest : List ℕ) → m ≡ n + k → IsBase b → field_at n (replicate k 91 ++ (base b ++ rest)) ≡ Some (record { dims = m; base = b }, rest)
unfolding field_at
field_again n zero m b rest e ok = let same : m ≡ n = omega (arith, e) in rw same (base_again n b rest ok)
field_again n (suc k) m b rest e ok = field_again (suc n) k m b rest (omega (arith, e)) ok

ended_ok : {A : Type 0} (r : Option (A × List ℕ)) (x : A) → ended r ≡ Some x → r ≡ Some (x, [])
ended_ok None x e = absurd cc
ended_ok {A = A} (Some (y, [])) x e = ap (λ (z : A). Some (z, [])) (some_is y x e)
ended_ok (Some (y, c ∷ cs)) x e = absurd cc

-- the whole text
pub found : (text : List ℕ) (k : Erased) → ended (field_at 0 text) ≡ Some k → IsField k × (text ≡ field k)
found text k e =
    let t = field_takes 0 text (k, []) (ended_ok _ k e) in
    let dims : t.more ≡ k.dims = omega (arith, t.dims) in
    (t.is, t.parts ∙ ap (λ (x : List ℕ). replicate t.more 91 ++ x) (append-nil (base k.base)) ∙ ap (λ (n : ℕ). replicate n 91 ++ base k.base) dims)

pub only : (k : Erased) → IsField k → ended (field_at 0 (field k)) ≡ Some k
only k ok =
    let whole : field_at 0 (field k) ≡ Some (k, []) = ap (λ (t : List ℕ). field_at 0 (replicate k.dims 91 ++ t)) (sym (append-nil (base k.base))) ∙ field_again 0 k.dims k.dims k.base [] (omega arith) ok in
    rw whole refl

pub is_found : {E : Type 0} (text : List ℕ) (r : Result (Option Erased) E) → IfOk r (λ o. o ≡ ended (field_at 0 text)) → IfOk r (λ o. IfSome o (λ k. IsField k × (text ≡ field k)))
is_found text (Ok None) e = tt
is_found text (Ok (Some k)) e = found text k (sym e)
is_found text (Err a) e = tt

pub is_only : {E : Type 0} (text : List ℕ) (r : Result (Option Erased) E) (k : Erased) → IsField k → text ≡ field k → IfOk r (λ o. o ≡ ended (field_at 0 text)) → IfOk r (λ o. o ≡ Some k)
is_only text (Ok o) k ok same e = e ∙ ap (λ (t : List ℕ). ended (field_at 0 t)) same ∙ only k ok
is_only text (Err a) k ok same e = tt

pub read_back : {E : Type 0} (kind : Erased) (r : Result (List ℕ) E) → IfOk r (λ t. t ≡ field kind) → IsField kind → IfOk r (λ t. ended (field_at 0 t) ≡ Some kind)
read_back kind (Ok t) e fits = ap (λ (x : List ℕ). ended (field_at 0 x)) e ∙ only kind fits
read_back kind (Err a) e fits = tt

pub only_one : {E : Type 0} (kind : Erased) (r : Result (List ℕ) E) (text : List ℕ) → IfOk r (λ t. t ≡ field kind) → ended (field_at 0 text) ≡ Some kind → IfOk r (λ t. t ≡ text)
only_one kind (Ok t) text e read = e ∙ sym (found text kind read).1
only_one kind (Err a) text e read = tt

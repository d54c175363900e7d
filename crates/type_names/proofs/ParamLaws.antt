-- Parameters up to a ')'.
use Rattle.std.proofs.Common.{◌≡◌, ℕ, ◌<◌, Bool, true, false, cond, eqb, List, [], ◌∷◌, ◌++◌, length, replicate, Some, None, refl, sym, ap, ◌∙◌, append_assoc, arith}
use Rattle.std.specs.List.{flat_map, AllByRecursion}
use Rattle.std.proofs.lemmas.Bool.{eqb-true}
use Rattle.std.proofs.lemmas.List.{append-nil, length-append}
use Rattle.std.proofs.lemmas.List.Concat.{flat_map-cons}
use Rattle.type_names.specs.declared.kinds.Base.{Base}
use Rattle.type_names.specs.declared.kinds.Base.TheVariants.{Byte, Char, Double, Float, Int, Long, Short, Boolean, Class}
use Rattle.type_names.specs.declared.kinds.Erased.{Erased}
use Rattle.type_names.specs.Descriptors.{base, field, IsField}
use Rattle.type_names.specs.Reading.{base_at, field_at, past, up_to}
use Rattle.type_names.proofs.FieldLaws.{some_is, field_takes, field_again}

-- the fields so far, and the rest
pub record Reads (bytes : List ℕ) (fields : List Erased) (rest : List ℕ) : Type 0 where
  pub fits : AllByRecursion IsField fields
  pub sound : bytes ≡ flat_map field fields ++ rest
  pub complete : (ks : List Erased) (tail : List ℕ) → AllByRecursion IsField ks → bytes ≡ flat_map field ks ++ (41 ∷ tail) → (ms : List Erased) × (ks ≡ fields ++ ms) × AllByRecursion IsField ms × (rest ≡ flat_map field ms ++ (41 ∷ tail))

pub field_one : (k : Erased) (tail : List ℕ) → IsField k → field_at 0 (field k ++ tail) ≡ Some (k, tail)
field_one k tail ok = ap (field_at 0) (append_assoc (replicate k.dims 91) (base k.base) tail) ∙ field_again 0 k.dims k.dims k.base tail (omega arith) ok

no_field : (tail : List ℕ) (x : Erased × List ℕ) → field_at 0 (41 ∷ tail) ≡ Some x → ⊥
unfolding field_at base_at
no_field tail x e = cc

all_snoc : (ks : List Erased) (k : Erased) → AllByRecursion IsField ks → IsField k → AllByRecursion IsField (ks ++ (k ∷ []))
all_snoc [] k all ok = (ok, tt)
all_snoc (x ∷ xs) k all ok = (all.0, all_snoc xs k all.1 ok)

flat_snoc : (ks : List Erased) (k : Erased) (rest : List ℕ) → flat_map field (ks ++ (k ∷ [])) ++ rest ≡ flat_map field ks ++ (field k ++ rest)
flat_snoc [] k rest = ap (λ (t : List ℕ). t ++ rest) (flat_map-cons field k [] ∙ append-nil (field k))
flat_snoc (x ∷ xs) k rest = ap (λ (t : List ℕ). t ++ rest) (flat_map-cons field x (xs ++ (k ∷ []))) ∙ append_assoc (field x) (flat_map field (xs ++ (k ∷ []))) rest ∙ ap (λ (t : List ℕ). field x ++ t) (flat_snoc xs k rest) ∙ sym (append_assoc (field x) (flat_map field xs) (field k ++ rest)) ∙ ap (λ (t : List ℕ). t ++ (field k ++ rest)) (sym (flat_map-cons field x xs))

pub taken : (rest : List ℕ) (k : Erased) (next : List ℕ) → field_at 0 rest ≡ Some (k, next) → (rest ≡ field k ++ next) × IsField k
taken rest k next e =
    let t = field_takes 0 rest (k, next) e in
    let dims : t.more ≡ k.dims = omega (arith, t.dims) in
    (t.parts ∙ ap (λ (n : ℕ). replicate n 91 ++ (base k.base ++ next)) dims ∙ sym (append_assoc (replicate k.dims 91) (base k.base) next), t.is)

split : (rest : List ℕ) (k : Erased) (next : List ℕ) (ms : List Erased) (tail : List ℕ) → field_at 0 rest ≡ Some (k, next) → AllByRecursion IsField ms → rest ≡ flat_map field ms ++ (41 ∷ tail)
    → (os : List Erased) × (ms ≡ k ∷ os) × AllByRecursion IsField os × (next ≡ flat_map field os ++ (41 ∷ tail))
split rest k next [] tail e all is = absurd (no_field tail (k, next) (ap (field_at 0) (sym is) ∙ e))
split rest k next (m ∷ ms) tail e all is =
    let regrouped : rest ≡ field m ++ (flat_map field ms ++ (41 ∷ tail)) = is ∙ ap (λ (t : List ℕ). t ++ (41 ∷ tail)) (flat_map-cons field m ms) ∙ append_assoc (field m) (flat_map field ms) (41 ∷ tail) in
    let same = some_is (m, flat_map field ms ++ (41 ∷ tail)) (k, next) (sym (field_one m (flat_map field ms ++ (41 ∷ tail)) all.0) ∙ ap (field_at 0) (sym regrouped) ∙ e) in
    (ms, ap (λ (p : Erased × List ℕ). p.0 ∷ ms) same, all.1, sym (ap (λ (p : Erased × List ℕ). p.1) same))

pub more : (bytes : List ℕ) (fields : List Erased) (rest : List ℕ) (k : Erased) (next : List ℕ) → field_at 0 rest ≡ Some (k, next) → Reads bytes fields rest → Reads bytes (fields ++ (k ∷ [])) next
more bytes fields rest k next e r =
    let t = taken rest k next e in
    record {
      fits = all_snoc fields k r.fits t.1;
      sound = r.sound ∙ ap (λ (x : List ℕ). flat_map field fields ++ x) t.0 ∙ sym (flat_snoc fields k next);
      complete = λ ks tail all is.
          let a = r.complete ks tail all is in
          let s = split rest k next a.0 tail e a.2 a.3 in
          (s.0, a.1 ∙ ap (λ (x : List Erased). fields ++ x) s.1 ∙ sym (append_assoc fields (k ∷ []) s.0), s.2, s.3);
    }

pub shorter : (rest : List ℕ) (k : Erased) (next : List ℕ) → field_at 0 rest ≡ Some (k, next) → length next < length rest
shorter rest k next e =
    let t = taken rest k next e in
    omega (arith, ap length t.0, length-append (field k) next, length-append (replicate k.dims 91) (base k.base), filled k.base)
  where
    filled : (b : Base) → 0 < length (base b)
    filled Byte = omega arith
    filled Char = omega arith
    filled Double = omega arith
    filled Float = omega arith
    filled Int = omega arith
    filled Long = omega arith
    filled Short = omega arith
    filled Boolean = omega arith
    filled (Class name) = omega arith

closed_is : (rest after : List ℕ) → past 41 rest ≡ Some after → rest ≡ 41 ∷ after
closed_is [] after e = absurd cc
closed_is (c ∷ cs) after e = go (eqb c 41) refl e
  where
    go : (b : Bool) → eqb c 41 ≡ b → cond b (Some cs) None ≡ Some after → c ∷ cs ≡ 41 ∷ after
    go true is t = ap (λ (k : ℕ). k ∷ cs) (eqb-true _ _ is) ∙ ap (λ (x : List ℕ). 41 ∷ x) (some_is cs after t)
    go false is t = absurd cc

-- what ends the parameters, where they end
last : (rest after : List ℕ) (ms : List Erased) (tail : List ℕ) → rest ≡ 41 ∷ after → AllByRecursion IsField ms → rest ≡ flat_map field ms ++ (41 ∷ tail) → (ms ≡ []) × (after ≡ tail)
last rest after [] tail is all e = (refl, let both : 41 ∷ after ≡ 41 ∷ tail = sym is ∙ e in cc)
last rest after (m ∷ ms) tail is all e =
    let regrouped : rest ≡ field m ++ (flat_map field ms ++ (41 ∷ tail)) = e ∙ ap (λ (t : List ℕ). t ++ (41 ∷ tail)) (flat_map-cons field m ms) ∙ append_assoc (field m) (flat_map field ms) (41 ∷ tail) in
    absurd (no_field after (m, flat_map field ms ++ (41 ∷ tail)) (ap (field_at 0) (sym is ∙ regrouped) ∙ field_one m (flat_map field ms ++ (41 ∷ tail)) all.0))

pub end_found : (bytes : List ℕ) (fields : List Erased) (rest after : List ℕ) → past 41 rest ≡ Some after → Reads bytes fields rest → AllByRecursion IsField fields × (bytes ≡ flat_map field fields ++ (41 ∷ after))
end_found bytes fields rest after e r = (r.fits, r.sound ∙ ap (λ (t : List ℕ). flat_map field fields ++ t) (closed_is rest after e))

pub end_only : (bytes : List ℕ) (fields : List Erased) (rest after : List ℕ) → past 41 rest ≡ Some after → Reads bytes fields rest → (ks : List Erased) (tail : List ℕ) → AllByRecursion IsField ks → bytes ≡ flat_map field ks ++ (41 ∷ tail) → Some (up_to fields after) ≡ Some (up_to ks tail)
end_only bytes fields rest after e r ks tail all is =
    let a = r.complete ks tail all is in
    let l = last rest after a.0 tail (closed_is rest after e) a.2 a.3 in
    let same : ks ≡ fields = a.1 ∙ ap (λ (x : List Erased). fields ++ x) l.0 ∙ append-nil fields in
    rw (same, l.1) refl

pub refused : (bytes : List ℕ) (fields : List Erased) (rest : List ℕ) → past 41 rest ≡ None → field_at 0 rest ≡ None → Reads bytes fields rest → (ks : List Erased) (tail : List ℕ) → AllByRecursion IsField ks → bytes ≡ flat_map field ks ++ (41 ∷ tail) → ⊥
refused bytes fields rest open_ stop r ks tail all is = let a = r.complete ks tail all is in go a.0 a.2 a.3
  where
    none_some : {A : Type 0} (x : A) → None ≡ Some x → ⊥
    none_some x e = cc

    go : (ms : List Erased) → AllByRecursion IsField ms → rest ≡ flat_map field ms ++ (41 ∷ tail) → ⊥
    go [] ok e = none_some tail (sym open_ ∙ ap (past 41) e)
    go (m ∷ ms) ok e = none_some (m, flat_map field ms ++ (41 ∷ tail)) (sym stop ∙ ap (field_at 0) (e ∙ ap (λ (t : List ℕ). t ++ (41 ∷ tail)) (flat_map-cons field m ms) ∙ append_assoc (field m) (flat_map field ms) (41 ∷ tail)) ∙ field_one m (flat_map field ms ++ (41 ∷ tail)) ok.0)

-- The pool's set of needs, seen as the list of its entries.
use Rattle.std.proofs.Common.{◌≡◌, ℕ, ◌<◌, zero, suc, get_or, arith, Result, Ok, Err, Bool, true, false, cond, ◌||◌, List, [], ◌∷◌, ◌++◌, map, length, refl, sym, ap, ◌∙◌, position}
use Rattle.std.specs.List.{list_any, position_or_len}
use Rattle.std.specs.Prelude.{IsErrAnd, IfErr}
use Rattle.std.proofs.lemmas.List.{map-append, length-map}
use Rattle.workload.specs.declared.needs.Need.{Need}
use Rattle.workload.specs.declared.needs.Need.TheVariants.{Class, Text}
use Rattle.workload.specs.contracts.needs.NeedPartialEq as derived
use Rattle.workload.specs.Needs.{same, add}
use Rattle.workload.specs.Views.{need_seen}
use Rattle.workload.specs.Writing.{is_long_text}
use Rattle.workload.specs.declared.fault.WriteFault.{WriteFault}
use Rattle.workload.specs.declared.fault.WriteFault.TheVariants.{TooBig}

abbrev pub equal : Need → Need → Bool
equal = (derived.TheImpl.eq-value).it

equal_is : (x y : Need) → equal x y ≡ same (need_seen x) (need_seen y)
equal_is (Class a) (Class b) = refl
equal_is (Class a) (Text b) = refl
equal_is (Text a) (Class b) = refl
equal_is (Text a) (Text b) = refl

any_is : (k : Need) (ks : List Need) → list_any (equal k) ks ≡ list_any (same (need_seen k)) (map need_seen ks)
any_is k [] = refl
any_is k (x ∷ ks) = rw (equal_is k x, any_is k ks) refl

added : (b : Bool) (k : Need) (ks : List Need) → map need_seen (cond b ks (ks ++ k ∷ [])) ≡ cond b (map need_seen ks) (map need_seen ks ++ need_seen k ∷ [])
added true k ks = refl
added false k ks = map-append need_seen ks (k ∷ [])

pub add_is : (k : Need) (ks : List Need) → map need_seen (cond (list_any (equal k) ks) ks (ks ++ k ∷ [])) ≡ add (map need_seen ks) (need_seen k)
add_is k ks = added (list_any (equal k) ks) k ks ∙ ap (λ (b : Bool). cond b (map need_seen ks) (map need_seen ks ++ need_seen k ∷ [])) (any_is k ks)

length_is : (k : Need) (ks : List Need) → position_or_len (equal k) ks ≡ position_or_len (same (need_seen k)) (map need_seen ks)
length_is k [] = refl
length_is k (x ∷ ks) = rw (equal_is k x, length_is k ks) refl

pub position_is : (k : Need) (ks : List Need) → position (equal k) ks ≡ position (same (need_seen k)) (map need_seen ks)
position_is k ks = rw (length_is k ks, sym (length-map ks need_seen)) refl

-- ---- a text that is too long
pub any_at : (xs : List Need) (i : ℕ) (d : Need) → i < length xs → is_long_text (need_seen (get_or xs i d)) ≡ true → list_any is_long_text (map need_seen xs) ≡ true
any_at [] i d lt e = absurd (omega (arith, lt))
any_at (x ∷ xs) zero d lt e = either (is_long_text (need_seen x)) _ e
  where
    either : (a b : Bool) → a ≡ true → (a || b) ≡ true
    either true b e = refl
    either false b e = absurd cc
any_at (x ∷ xs) (suc i) d lt e = later (is_long_text (need_seen x)) _ (any_at xs i d (omega arith) e)
  where
    later : (a b : Bool) → b ≡ true → (a || b) ≡ true
    later true b e = refl
    later false b e = e

pub fault_is : {A : Type 0} (r : Result A WriteFault) (e : WriteFault) (P : Type 0) → IsErrAnd r (λ x. x ≡ e) → (e ≡ TooBig → P) → IfErr r (λ x. x ≡ TooBig → P)
fault_is (Ok x) e P h f = tt
fault_is (Err x) e P h f = λ is. f (sym h ∙ is)

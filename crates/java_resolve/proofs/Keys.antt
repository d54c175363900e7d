-- The declarations that have a word.
use Rattle.std.proofs.Common.{◌≡◌, ◌∙◌, ap, subst, refl, arith, ℕ, zero, suc, ◌+◌, ◌≤◌, Bool, true, false, List, [], ◌∷◌, slice_get, Some, inl, inr, cond, bytes_eq, rules}
use Rattle.std.proofs.lemmas.Bool.{false≢true}
use Rattle.terms.specs.declared.parts.Decl.{Decl}
use Rattle.java_resolve.specs.Index.{with_key}
use Rattle.java_resolve.specs.Keys.{key}
use Rattle.java_resolve.specs.Reading.{IsAmong, AreRising}

pub bytes_self : (a : List ℕ) → bytes_eq a a ≡ true
bytes_self a = search rules

pub bytes_is : (a b : List ℕ) → bytes_eq a b ≡ true → a ≡ b
bytes_is a b e = search rules

rising_weaker : (i j : ℕ) (ns : List ℕ) → i ≤ j → AreRising j ns → AreRising i ns
rising_weaker i j [] l r = tt
rising_weaker i j (n ∷ ns) l r = (omega (arith, l, r.0), r.1)

rising_by : (i : ℕ) (b : Bool) (ns : List ℕ) → AreRising (suc i) ns → AreRising i (cond b (i ∷ ns) ns)
rising_by i true ns r = (omega arith, r)
rising_by i false ns r = rising_weaker i (suc i) ns (omega arith) r

pub keys_rise : (i : ℕ) (t : List ℕ) (ds : List Decl) → AreRising i (with_key i t ds)
unfolding with_key
keys_rise i t [] = tt
keys_rise i t (d ∷ ds) = rising_by i (bytes_eq (key d.form) t) (with_key (suc i) t ds) (keys_rise (suc i) t ds)

some_is : (c d : Decl) → Some c ≡ Some d → c ≡ d
some_is c d e = cc

among_cond : (b : Bool) (i n : ℕ) (ns : List ℕ) → IsAmong ns n → IsAmong (cond b (i ∷ ns) ns) n
among_cond true i n ns a = inr a
among_cond false i n ns a = a

among_here : (b : Bool) (i n : ℕ) (ns : List ℕ) → b ≡ true → i ≡ n → IsAmong (cond b (i ∷ ns) ns) n
among_here true i n ns e q = inl q
among_here false i n ns e q = absurd (false≢true e)

pub among_keys : (i : ℕ) (t : List ℕ) (ds : List Decl) (m n : ℕ) (d : Decl) → i + m ≡ n → slice_get ds m ≡ Some d → key d.form ≡ t → IsAmong (with_key i t ds) n
unfolding with_key
among_keys i t [] m n d s h e = absurd cc
among_keys i t (c ∷ ds) zero n d s h e = among_here (bytes_eq (key c.form) t) i n (with_key (suc i) t ds) (subst (λ x. bytes_eq (key c.form) x ≡ true) (ap (λ x. key x.form) (some_is c d h) ∙ e) (bytes_self (key c.form))) (omega (arith, s))
among_keys i t (c ∷ ds) (suc m) n d s h e = among_cond (bytes_eq (key c.form) t) i n (with_key (suc i) t ds) (among_keys (suc i) t ds m n d (omega (arith, s)) h e)

-- the declaration of a number that the word has
pub record Keyed (i : ℕ) (t : List ℕ) (ds : List Decl) (n : ℕ) : Type 0 where
  pub place : ℕ
  pub decl : Decl
  pub sum : i + place ≡ n
  pub declared : slice_get ds place ≡ Some decl
  pub key_is : key decl.form ≡ t

keyed_by : (i : ℕ) (t : List ℕ) (c : Decl) (ds : List Decl) (n : ℕ) (b : Bool) → bytes_eq (key c.form) t ≡ b → ((IsAmong (with_key (suc i) t ds) n) → Keyed (suc i) t ds n) → IsAmong (cond b (i ∷ with_key (suc i) t ds) (with_key (suc i) t ds)) n → Keyed i t (c ∷ ds) n
keyed_by i t c ds n false e rest a = let k = rest a in record { place = suc k.place; decl = k.decl; sum = let s = k.sum in omega (arith, s); declared = k.declared; key_is = k.key_is }
keyed_by i t c ds n true e rest (inl q) = record { place = zero; decl = c; sum = omega (arith, q); declared = refl; key_is = bytes_is (key c.form) t e }
keyed_by i t c ds n true e rest (inr a) = let k = rest a in record { place = suc k.place; decl = k.decl; sum = let s = k.sum in omega (arith, s); declared = k.declared; key_is = k.key_is }

pub keyed : (i : ℕ) (t : List ℕ) (ds : List Decl) (n : ℕ) → IsAmong (with_key i t ds) n → Keyed i t ds n
unfolding with_key
keyed i t [] n a = absurd a
keyed i t (c ∷ ds) n a = keyed_by i t c ds n (bytes_eq (key c.form) t) refl (keyed (suc i) t ds n) a

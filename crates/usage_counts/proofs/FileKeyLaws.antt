-- What is answered for a class file whose pool and codes are known.
use Rattle.std.proofs.Common.{Ok, ◌≡◌, ◌≢◌, ℕ, List, inl, inr, sym, ap, ◌∙◌, subst}
use Rattle.class_pool.specs.Spelling.{Head, IsPoolOf}
use Rattle.class_pool.specs.Reading.{Gives}
use Rattle.code_walk.specs.declared.fault.WalkFault.{WalkFault}
use Rattle.code_walk.specs.declared.fault.WalkCause.TheVariants.{OutOfMemory}
use Rattle.code_walk.specs.Faults.{no_memory}
use Rattle.code_walk.specs.Code.{AreCodes, IsCodeFault}
use Rattle.usage_counts.specs.Counts.{Key}
use Rattle.usage_counts.specs.Files.{UsesOfCodes, IsFaultOfCodes, AreUses, IsFaultInCode, IsUseFault, OneWalk}
use Rattle.usage_counts.proofs.UseLaws.{one-uses, not-both, one-fault, is-memory, of-bytes}

pub same-pool : (x y : Head) → Gives (λ (p : Head). p) (Ok y) (Ok x) → x ≡ y
same-pool x y e = cc

-- The one pool of the file and the ranges of its code.
pub record IsKnown (bytes : List ℕ) (pool : Head) (ranges : List (ℕ × ℕ)) : Type 0 where
  pub is_pool : IsPoolOf bytes pool
  pub one_pool : (other : Head) → IsPoolOf bytes other → other ≡ pool
  pub codes : AreCodes bytes ranges
  pub one_codes : (others : List (ℕ × ℕ)) → AreCodes bytes others → ranges ≡ others
  pub no_fault : (fault : WalkFault) → IsCodeFault bytes fault → ⊥

pub known : (bytes : List ℕ) (pool : Head) (ranges items : List (ℕ × ℕ)) → ranges ≡ items → IsPoolOf bytes pool → ((other : Head) → IsPoolOf bytes other → other ≡ pool) → AreCodes bytes items → ((others : List (ℕ × ℕ)) → AreCodes bytes others → items ≡ others) → ((fault : WalkFault) → IsCodeFault bytes fault → ⊥) → IsKnown bytes pool ranges
known bytes pool ranges items e is one codes only none = record {
  is_pool = is;
  one_pool = one;
  codes = subst (λ (rs : List (ℕ × ℕ)). AreCodes bytes rs) (sym e) codes;
  one_codes = λ others a. e ∙ only others a;
  no_fault = none;
}

module _ (walk : OneWalk) (bytes : List ℕ) (pool : Head) (ranges : List (ℕ × ℕ)) (k : IsKnown bytes pool ranges) where
  pub found : (keys : List Key) → UsesOfCodes pool.entries bytes ranges keys → AreUses bytes keys
  found keys u = record { head = pool; is_pool = k.is_pool; ranges = ranges; codes = k.codes; uses = u }

  uses_of : (keys : List Key) → AreUses bytes keys → UsesOfCodes pool.entries bytes ranges keys
  uses_of keys u = subst (λ (rs : List (ℕ × ℕ)). UsesOfCodes pool.entries bytes rs keys) (sym (k.one_codes u.ranges u.codes)) (subst (λ (h : Head). UsesOfCodes h.entries bytes u.ranges keys) (k.one_pool u.head u.is_pool) u.uses)

  fault_in : (fault : WalkFault) → IsFaultInCode bytes fault → IsFaultOfCodes pool.entries bytes ranges fault
  fault_in fault f = subst (λ (rs : List (ℕ × ℕ)). IsFaultOfCodes pool.entries bytes rs fault) (sym (k.one_codes f.ranges f.codes)) (subst (λ (h : Head). IsFaultOfCodes h.entries bytes f.ranges fault) (k.one_pool f.head f.is_pool) f.first)

  fault_of : (fault : WalkFault) → IsUseFault bytes fault → IsFaultOfCodes pool.entries bytes ranges fault
  fault_of fault (inl f) = absurd (k.no_fault fault f)
  fault_of fault (inr f) = fault_in fault f

  pub fault-found : (fault : WalkFault) → IsFaultOfCodes pool.entries bytes ranges fault → IsUseFault bytes fault
  fault-found fault f = inr (record { head = pool; is_pool = k.is_pool; ranges = ranges; codes = k.codes; first = f })

  pub ok-only : (mine keys : List Key) → UsesOfCodes pool.entries bytes ranges mine → AreUses bytes keys → mine ≡ keys
  ok-only mine keys m u = one-uses walk pool.entries bytes ranges mine keys m (uses_of keys u)

  pub ok-refused : (mine : List Key) (fault : WalkFault) → UsesOfCodes pool.entries bytes ranges mine → IsUseFault bytes fault → ⊥
  ok-refused mine fault m f = not-both walk pool.entries bytes ranges mine fault m (fault_of fault f)

  pub err-only : (mine : WalkFault) (keys : List Key) → (mine.cause ≢ OutOfMemory → IsFaultOfCodes pool.entries bytes ranges mine) → (mine.cause ≡ OutOfMemory → mine.at ≡ 0) → AreUses bytes keys → mine ≡ no_memory
  err-only mine keys f z u = is-memory mine (λ n. not-both walk pool.entries bytes ranges keys mine (uses_of keys u) (f n)) z

  pub err-refused : (mine fault : WalkFault) → (mine.cause ≢ OutOfMemory → IsFaultOfCodes pool.entries bytes ranges mine) → (mine.cause ≡ OutOfMemory → mine.at ≡ 0) → IsUseFault bytes fault → mine ≢ no_memory → mine ≡ fault
  err-refused mine fault f z g n = one-fault walk pool.entries bytes ranges mine fault (f (of-bytes mine z n)) (fault_of fault g)

-- Where the codes are refused.
pub codes-refused : (bytes : List ℕ) (mine fault : WalkFault) → ((other : WalkFault) → IsCodeFault bytes other → mine ≢ no_memory → mine ≡ other) → ((ranges : List (ℕ × ℕ)) → AreCodes bytes ranges → mine ≡ no_memory) → IsUseFault bytes fault → mine ≢ no_memory → mine ≡ fault
codes-refused bytes mine fault refused only (inl f) n = refused fault f n
codes-refused bytes mine fault refused only (inr f) n = absurd (n (only f.ranges f.codes))

-- Where memory ran out.
pub no-cause : (mine : WalkFault) → mine ≡ no_memory → mine.cause ≢ OutOfMemory → ⊥
no-cause mine e n = n (ap (λ (f : WalkFault). f.cause) e)

pub no-place : (mine : WalkFault) → mine ≡ no_memory → mine.at ≡ 0
no-place mine e = ap (λ (f : WalkFault). f.at) e

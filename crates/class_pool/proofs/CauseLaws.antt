-- Which causes the faults of a header and a pool have, and the place of want of memory.
use Rattle.std.proofs.Common.{◌≡◌, ◌≢◌, ℕ, zero, suc, ◌-◌, ◌&&◌, Bool, true, false, cond, eqb, leb, ltb, List, [], ◌∷◌, length, take, drop, Option, Some, None, Result, Ok, Err, refl, sym, ap, subst, ◌∙◌}
use Rattle.std.specs.Prelude.{IfErr}
use Rattle.std.proofs.lemmas.Bool.{eqb-true}
use Rattle.byteorder.specs.Endian.{big_number}
use Rattle.class_pool.specs.declared.fault.ClassFault.{ClassFault}
use Rattle.class_pool.specs.declared.fault.ClassCause.{ClassCause}
use Rattle.class_pool.specs.declared.fault.ClassCause.TheVariants.{Magic, Version, OutOfMemory}
use Rattle.class_pool.specs.Causes.{IsPoolCause}
use Rattle.class_pool.specs.Spelling.{tag_size, is_wide, takes_two, Head, magic}
use Rattle.class_pool.specs.Reading.{◌>>=◌, Gives, no_memory, cut, bad_tag, need, number_at, block_at, text_at, fixed_at, entry_at, entries_at, header_at, head_at, head_read}

-- ---- the faults of a reading, by its steps
module _ (P : ClassFault → Type 0) where
  pub bind_causes : {A B : Type 0} (r : Result A ClassFault) (f : A → Result B ClassFault) → IfErr r P → ((x : A) → IfErr (f x) P) → IfErr (r >>= f) P
  bind_causes (Ok x) f first then = then x
  bind_causes (Err d) f first then = first

  pub test_causes : {A : Type 0} (b : Bool) (r s : Result A ClassFault) → IfErr r P → IfErr s P → IfErr (cond b r s) P
  test_causes true r s h k = h
  test_causes false r s h k = k

  pub need_causes : (b : Bool) (d : ClassFault) → P d → IfErr (need b d) P
  need_causes true d h = tt
  need_causes false d h = h

  pub number_causes : (total n : ℕ) (bytes : List ℕ) → P (cut total) → IfErr (number_at total n bytes) P
  number_causes total n bytes h = test_causes (ltb (length bytes) n) (Err (cut total)) (Ok (big_number n bytes, drop n bytes)) h tt

  pub block_causes : (total n : ℕ) (bytes : List ℕ) → P (cut total) → IfErr (block_at total n bytes) P
  block_causes total n bytes h = test_causes (ltb (length bytes) n) (Err (cut total)) (Ok (take n bytes, drop n bytes)) h tt

-- ---- the header and the pool
abbrev pub OfPool : ClassFault → Type 0
OfPool d = IsPoolCause d.cause

text_causes : (total : ℕ) (bytes : List ℕ) → IfErr (text_at total bytes) OfPool
unfolding text_at
text_causes total bytes = bind_causes OfPool (number_at total 2 bytes) _ (number_causes OfPool total 2 bytes tt) (λ len. block_causes OfPool total len.0 len.1 tt)

fixed_causes : (total left tag : ℕ) (size : Option ℕ) (rest : List ℕ) → IfErr (fixed_at total left tag size rest) OfPool
unfolding fixed_at
fixed_causes total left tag None rest = tt
fixed_causes total left tag (Some size) rest =
    test_causes OfPool (is_wide tag && eqb left 0) (Err (bad_tag total (tag ∷ rest))) _ tt (bind_causes OfPool (block_at total size rest) _ (block_causes OfPool total size rest tt) (λ body. tt))

entry_causes : (total left : ℕ) (bytes : List ℕ) → IfErr (entry_at total left bytes) OfPool
unfolding entry_at
entry_causes total left [] = tt
entry_causes total left (tag ∷ rest) =
    test_causes OfPool (eqb tag 1) _ _ (bind_causes OfPool (text_at total rest) _ (text_causes total rest) (λ text. tt)) (fixed_causes total left tag (tag_size tag) rest)

entries_causes : (total : ℕ) (skip : Bool) (left : ℕ) (bytes : List ℕ) → IfErr (entries_at total skip left bytes) OfPool
unfolding entries_at
entries_causes total true zero bytes = tt
entries_causes total false zero bytes = tt
entries_causes total true (suc left) bytes = entries_causes total false left bytes
entries_causes total false (suc left) bytes =
    bind_causes OfPool (entry_at total left bytes) _ (entry_causes total left bytes) (λ e. bind_causes OfPool (entries_at total (takes_two e.0) left e.1) _ (entries_causes total (takes_two e.0) left e.1) (λ es. tt))

header_causes : (total : ℕ) (bytes : List ℕ) → IfErr (header_at total bytes) OfPool
unfolding header_at
header_causes total bytes =
    bind_causes OfPool (number_at total 4 bytes) _ (number_causes OfPool total 4 bytes tt) (λ sign.
    bind_causes OfPool (need (eqb sign.0 magic) (record { at = 0; cause = Magic })) _ (need_causes OfPool (eqb sign.0 magic) _ tt) (λ right.
    bind_causes OfPool (number_at total 2 sign.1) _ (number_causes OfPool total 2 sign.1 tt) (λ minor.
    bind_causes OfPool (number_at total 2 minor.1) _ (number_causes OfPool total 2 minor.1 tt) (λ major.
    bind_causes OfPool (need (leb 45 major.0) (record { at = 6; cause = Version })) _ (need_causes OfPool (leb 45 major.0) _ tt) (λ new.
    bind_causes OfPool (number_at total 2 major.1) _ (number_causes OfPool total 2 major.1 tt) (λ count. tt))))))

pub head_causes : (total : ℕ) (bytes : List ℕ) → IfErr (head_at total bytes) OfPool
unfolding head_at
head_causes total bytes =
    bind_causes OfPool (header_at total bytes) _ (header_causes total bytes) (λ f.
    bind_causes OfPool (entries_at total false (f.0.count - 1) f.1) _ (entries_causes total false (f.0.count - 1) f.1) (λ es. tt))

read_causes : (r : Result (Head × List ℕ) ClassFault) → IfErr r OfPool → IfErr (head_read r) OfPool
read_causes (Ok x) h = tt
read_causes (Err d) h = h

-- ---- want of memory
pub pool_wants_none : (cause : ClassCause) → IsPoolCause cause → cause ≢ OutOfMemory
pool_wants_none cause is want = subst IsPoolCause want is

pub no_place : {X Y : Type 0} (view : X → Y) (r : Result X ClassFault) (read : Result Y ClassFault) → Gives view r read → IfErr read (λ d. d.cause ≢ OutOfMemory) → IfErr r (λ d. d.cause ≡ OutOfMemory → d.at ≡ 0)
no_place view (Ok x) read given none = tt
no_place {Y = Y} view (Err d) read given none = λ want. go want (eqb d.at 0) refl
  where
    go : d.cause ≡ OutOfMemory → (b : Bool) → eqb d.at 0 ≡ b → d.at ≡ 0
    go want true is = eqb-true _ _ is
    go want false is =
        let other : d ≢ no_memory = λ e. true_false (sym (ap (λ (f : ClassFault). eqb f.at 0) e) ∙ is) in
        absurd (subst (λ (x : Result Y ClassFault). IfErr x (λ f. f.cause ≢ OutOfMemory)) (given other) none want)
      where
        true_false : true ≡ false → ⊥
        true_false e = cc

pool_none : (r : Result Head ClassFault) → IfErr r OfPool → IfErr r (λ d. d.cause ≢ OutOfMemory)
pool_none (Ok x) h = tt
pool_none (Err d) h = pool_wants_none d.cause h

pub is_pool_cause : {P : Type 0} (view : P → Head) (total : ℕ) (bytes : List ℕ) (r : Result P ClassFault) → Gives view r (head_read (head_at total bytes)) → IfErr r (λ d. d.cause ≢ OutOfMemory → IsPoolCause d.cause)
is_pool_cause view total bytes (Ok p) given = tt
is_pool_cause view total bytes (Err d) given = λ some. subst (λ (x : Result Head ClassFault). IfErr x OfPool) (given (λ e. some (ap (λ (f : ClassFault). f.cause) e))) (read_causes (head_at total bytes) (head_causes total bytes))

pub pool_no_place : {P : Type 0} (view : P → Head) (total : ℕ) (bytes : List ℕ) (r : Result P ClassFault) → Gives view r (head_read (head_at total bytes)) → IfErr r (λ d. d.cause ≡ OutOfMemory → d.at ≡ 0)
pool_no_place view total bytes r given = no_place view r (head_read (head_at total bytes)) given (pool_none (head_read (head_at total bytes)) (read_causes (head_at total bytes) (head_causes total bytes)))

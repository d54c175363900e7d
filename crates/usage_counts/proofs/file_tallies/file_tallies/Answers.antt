use Rattle.std.proofs.Common.{rules, inl, sym, subst, ◌≡◌, ◌≢◌, List, ℕ}
use Rattle.std.proofs.lemmas.Result.{err_from_is_err_and}
use Rattle.code_walk.specs.declared.fault.WalkCause.TheVariants.{OutOfMemory}
use Rattle.code_walk.specs.Code.{AreCodes}
use Rattle.usage_counts.specs.Counts.{Key}
use Rattle.usage_counts.specs.Tallies.{AreTold}
use Rattle.usage_counts.proofs.RangeLaws.{codes-within}
use Rattle.usage_counts.proofs.FileKeyLaws.{known, found, fault-found, ok-only, ok-refused, err-only, err-refused, codes-refused, no-cause, no-place}
use Rattle.usage_counts.proofs.file_tallies.file_tallies.Goals as goal

pub tallies_of-requires-clause-within : goal.tallies_of-requires-clause-within
tallies_of-requires-clause-within c =
    let e : c.deref.result.now ≡ c.in_ok-ranges.ranges.items = search rules in
    codes-within c.args.bytes.now c.deref.result.now (subst (λ (rs : List (ℕ × ℕ)). AreCodes c.args.bytes.now rs) (sym e) c.in_ok-ranges.ensures.found)

pub returns-in_err-ranges-clause-first : goal.returns-in_err-ranges-clause-first
returns-in_err-ranges-clause-first c =
    let p = err_from_is_err_and c.from_residual.result c.from_residual.ensures.1 in
    let fault = c.in_err-ranges.field-0.0 in
    rw (p.1, p.2) (λ (h : fault.cause ≢ OutOfMemory). inl (c.in_err-ranges.ensures.first h))

pub returns-in_err-ranges-clause-only : goal.returns-in_err-ranges-clause-only
returns-in_err-ranges-clause-only c =
    let p = err_from_is_err_and c.from_residual.result c.from_residual.ensures.1 in
    rw (p.1, p.2) (λ keys u. c.in_err-ranges.ensures.only u.ranges u.codes)

pub returns-in_err-ranges-clause-refused : goal.returns-in_err-ranges-clause-refused
returns-in_err-ranges-clause-refused c =
    let p = err_from_is_err_and c.from_residual.result c.from_residual.ensures.1 in
    rw (p.1, p.2) (λ fault f. codes-refused c.args.bytes.now c.in_err-ranges.field-0.0 fault c.in_err-ranges.ensures.refused c.in_err-ranges.ensures.only f)

pub returns-in_err-pool-clause-first : goal.returns-in_err-pool-clause-first
returns-in_err-pool-clause-first c =
    let p = err_from_is_err_and c.from_residual-in_err-pool.result c.from_residual-in_err-pool.ensures.1 in
    let fault = c.in_err-pool.field-0.0 in
    rw (p.1, p.2) (λ (h : fault.cause ≢ OutOfMemory). absurd (no-cause fault c.in_err-pool.ensures.memory h))

pub returns-in_err-pool-clause-only : goal.returns-in_err-pool-clause-only
returns-in_err-pool-clause-only c =
    let p = err_from_is_err_and c.from_residual-in_err-pool.result c.from_residual-in_err-pool.ensures.1 in
    rw (p.1, p.2) (λ keys u. c.in_err-pool.ensures.memory)

pub returns-in_err-pool-clause-refused : goal.returns-in_err-pool-clause-refused
returns-in_err-pool-clause-refused c =
    let p = err_from_is_err_and c.from_residual-in_err-pool.result c.from_residual-in_err-pool.ensures.1 in
    rw (p.1, p.2) (λ fault f n. absurd (n c.in_err-pool.ensures.memory))

pub returns-in_err-pool-clause-memory : goal.returns-in_err-pool-clause-memory
returns-in_err-pool-clause-memory c =
    let p = err_from_is_err_and c.from_residual-in_err-pool.result c.from_residual-in_err-pool.ensures.1 in
    rw (p.1, p.2) (λ e. no-place c.in_err-pool.field-0.0 c.in_err-pool.ensures.memory)

pub returns-in-Ok-clause-found : goal.returns-in-Ok-clause-found
returns-in-Ok-clause-found c =
    let e : c.deref.result.now ≡ c.in_ok-ranges.ranges.items = search rules in
    let bytes = c.args.bytes.now in let pool = c.in_ok-pool.pool in
    let k = known bytes pool c.deref.result.now c.in_ok-ranges.ranges.items e c.in_ok-pool.ensures.found c.in_ok-pool.ensures.only c.in_ok-ranges.ensures.found c.in_ok-ranges.ensures.only c.in_ok-ranges.ensures.refused in
    let f = c.in-Ok.ensures.found in (f.0, found c.one_walk.ensures bytes pool c.deref.result.now k f.0 f.1, f.2)

pub returns-in-Ok-clause-only : goal.returns-in-Ok-clause-only
returns-in-Ok-clause-only c =
    let e : c.deref.result.now ≡ c.in_ok-ranges.ranges.items = search rules in
    let bytes = c.args.bytes.now in let pool = c.in_ok-pool.pool in
    let k = known bytes pool c.deref.result.now c.in_ok-ranges.ranges.items e c.in_ok-pool.ensures.found c.in_ok-pool.ensures.only c.in_ok-ranges.ensures.found c.in_ok-ranges.ensures.only c.in_ok-ranges.ensures.refused in
    λ keys u. let f = c.in-Ok.ensures.found in subst (λ (ks : List Key). AreTold c.in-Ok.tallies.items ks) (ok-only c.one_walk.ensures bytes pool c.deref.result.now k f.0 keys f.1 u) f.2

pub returns-in-Ok-clause-refused : goal.returns-in-Ok-clause-refused
returns-in-Ok-clause-refused c =
    let e : c.deref.result.now ≡ c.in_ok-ranges.ranges.items = search rules in
    let bytes = c.args.bytes.now in let pool = c.in_ok-pool.pool in
    let k = known bytes pool c.deref.result.now c.in_ok-ranges.ranges.items e c.in_ok-pool.ensures.found c.in_ok-pool.ensures.only c.in_ok-ranges.ensures.found c.in_ok-ranges.ensures.only c.in_ok-ranges.ensures.refused in
    λ fault f. ok-refused c.one_walk.ensures bytes pool c.deref.result.now k c.in-Ok.ensures.found.0 fault c.in-Ok.ensures.found.1 f

pub returns-clause-only : goal.returns-clause-only
returns-clause-only c =
    let e : c.deref.result.now ≡ c.in_ok-ranges.ranges.items = search rules in
    let bytes = c.args.bytes.now in let pool = c.in_ok-pool.pool in
    let k = known bytes pool c.deref.result.now c.in_ok-ranges.ranges.items e c.in_ok-pool.ensures.found c.in_ok-pool.ensures.only c.in_ok-ranges.ensures.found c.in_ok-ranges.ensures.only c.in_ok-ranges.ensures.refused in
    λ keys u. err-only c.one_walk.ensures bytes pool c.deref.result.now k c.in-Err.fault keys c.in-Err.ensures.first c.in-Err.ensures.memory u

pub returns-clause-first : goal.returns-clause-first
returns-clause-first c =
    let e : c.deref.result.now ≡ c.in_ok-ranges.ranges.items = search rules in
    let bytes = c.args.bytes.now in let pool = c.in_ok-pool.pool in
    let k = known bytes pool c.deref.result.now c.in_ok-ranges.ranges.items e c.in_ok-pool.ensures.found c.in_ok-pool.ensures.only c.in_ok-ranges.ensures.found c.in_ok-ranges.ensures.only c.in_ok-ranges.ensures.refused in
    λ h. fault-found c.one_walk.ensures bytes pool c.deref.result.now k c.in-Err.fault (c.in-Err.ensures.first h)

pub returns-clause-refused : goal.returns-clause-refused
returns-clause-refused c =
    let e : c.deref.result.now ≡ c.in_ok-ranges.ranges.items = search rules in
    let bytes = c.args.bytes.now in let pool = c.in_ok-pool.pool in
    let k = known bytes pool c.deref.result.now c.in_ok-ranges.ranges.items e c.in_ok-pool.ensures.found c.in_ok-pool.ensures.only c.in_ok-ranges.ensures.found c.in_ok-ranges.ensures.only c.in_ok-ranges.ensures.refused in
    λ fault f n. err-refused c.one_walk.ensures bytes pool c.deref.result.now k c.in-Err.fault fault c.in-Err.ensures.first c.in-Err.ensures.memory f n

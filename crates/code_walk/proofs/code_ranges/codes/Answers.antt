use Rattle.std.proofs.Common.{ℕ, List, Vec, Global, Ok, Err, arith}
use Rattle.code_walk.proofs.CodesLaws.{read_of, ok_found, ok_only, ok_refused, err_first, err_only, err_refused, err_memory}
use Rattle.code_walk.proofs.code_ranges.codes.Goals as goal

abbrev seen : Vec (ℕ × ℕ) Global → List (ℕ × ℕ)
seen v = v.items

pub returns-in-Ok-clause-found : goal.returns-in-Ok-clause-found
returns-in-Ok-clause-found c =
    let bytes = c.args.bytes.now in
    ok_found seen bytes c.in-Ok.ranges (λ i. omega (arith, c.type_inv.bytes i)) c.requires.layout (read_of seen bytes (Ok c.in-Ok.ranges) c.in-Ok.ensures)

pub returns-in-Ok-clause-only : goal.returns-in-Ok-clause-only
returns-in-Ok-clause-only c =
    let bytes = c.args.bytes.now in
    λ ranges codes. ok_only seen bytes c.in-Ok.ranges ranges codes (read_of seen bytes (Ok c.in-Ok.ranges) c.in-Ok.ensures)

pub returns-in-Ok-clause-refused : goal.returns-in-Ok-clause-refused
returns-in-Ok-clause-refused c =
    let bytes = c.args.bytes.now in
    λ fault f. ok_refused seen bytes c.in-Ok.ranges fault (λ i. omega (arith, c.type_inv.bytes i)) f (read_of seen bytes (Ok c.in-Ok.ranges) c.in-Ok.ensures)

pub returns-in-Err-clause-only : goal.returns-in-Err-clause-only
returns-in-Err-clause-only c =
    let bytes = c.args.bytes.now in
    λ ranges codes. rw c.told.ensures (err_only seen bytes c.in-Err.fault ranges codes (read_of seen bytes (Err c.in-Err.fault) c.in-Err.ensures))

pub returns-in-Err-clause-first : goal.returns-in-Err-clause-first
returns-in-Err-clause-first c =
    let bytes = c.args.bytes.now in
    rw c.told.ensures (err_first seen bytes c.in-Err.fault (λ i. omega (arith, c.type_inv.bytes i)) c.requires.layout (read_of seen bytes (Err c.in-Err.fault) c.in-Err.ensures))

pub returns-in-Err-clause-refused : goal.returns-in-Err-clause-refused
returns-in-Err-clause-refused c =
    let bytes = c.args.bytes.now in
    rw c.told.ensures (λ fault f. err_refused seen bytes c.in-Err.fault fault (λ i. omega (arith, c.type_inv.bytes i)) f (read_of seen bytes (Err c.in-Err.fault) c.in-Err.ensures))

pub returns-in-Err-clause-memory : goal.returns-in-Err-clause-memory
returns-in-Err-clause-memory c =
    let bytes = c.args.bytes.now in
    rw c.told.ensures (err_memory seen bytes c.in-Err.fault (λ i. omega (arith, c.type_inv.bytes i)) c.requires.layout (read_of seen bytes (Err c.in-Err.fault) c.in-Err.ensures))

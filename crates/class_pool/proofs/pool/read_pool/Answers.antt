use Rattle.std.proofs.Common.{arith}
use Rattle.class_pool.proofs.Heads.{is_found, is_only}
use Rattle.class_pool.proofs.FaultLaws.{header_fault, entry_fault}
use Rattle.class_pool.proofs.CauseLaws.{is_pool_cause, pool_no_place}
use Rattle.class_pool.proofs.pool.read_pool.Goals as goal

pub returns-clause-found : goal.returns-clause-found
returns-clause-found c = is_found _ _ _ (λ i. omega (arith, c.type_inv.bytes i)) c.pool_of.ensures

pub returns-clause-only : goal.returns-clause-only
returns-clause-only c = λ pool is. is_only _ _ _ pool is c.pool_of.ensures

pub returns-clause-header_fault : goal.returns-clause-header_fault
returns-clause-header_fault c = λ fault is. header_fault _ _ _ fault is c.pool_of.ensures

pub returns-clause-entry_fault : goal.returns-clause-entry_fault
returns-clause-entry_fault c = λ header rest is parts. entry_fault _ _ _ header rest (λ i. omega (arith, c.type_inv.bytes i)) c.pool_of.ensures is parts

pub returns-clause-causes : goal.returns-clause-causes
returns-clause-causes c = is_pool_cause _ _ _ _ c.pool_of.ensures

pub returns-clause-memory : goal.returns-clause-memory
returns-clause-memory c = pool_no_place _ _ _ _ c.pool_of.ensures

use Rattle.code_walk.proofs.AnswerLaws.{only, first, refused, memory}
use Rattle.code_walk.proofs.walk.instructions.Goals as goal

pub returns-clause-only : goal.returns-clause-only
returns-clause-only c = only (λ v. v.items) _ _ c.walk.result c.walk.ensures.found c.walk.ensures.first

pub returns-clause-first : goal.returns-clause-first
returns-clause-first c = first (λ v. v.items) _ _ c.walk.result c.walk.ensures.first

pub returns-clause-refused : goal.returns-clause-refused
returns-clause-refused c = refused (λ v. v.items) _ _ c.walk.result c.walk.ensures.found c.walk.ensures.first

pub returns-clause-memory : goal.returns-clause-memory
returns-clause-memory c = memory (λ v. v.items) _ _ c.walk.result c.walk.ensures.first

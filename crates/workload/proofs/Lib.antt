mod DistinctLaws
mod FileLaws
mod Drawing
mod PlanLaws
mod PoolLaws
mod RowLaws
mod UnitLaws
mod WholeLaws

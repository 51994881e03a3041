-- A store in memory, and what a call makes of it.
use Rattle.std.specs.Prelude.{ℕ, Option, List, Contains}
use Rattle.stateful_base.specs.Causes.{risen}
use Rattle.stateful_sync_plan.specs.declared.store.PlanCall.{PlanCall}
use Rattle.stateful_sync_plan.specs.declared.store.PlanCall.TheVariants.{Load, Put}

-- its value, the calls that are to fail, the numbers of the next calls, and how many calls have
-- failed
pub record StoredPlan : Type 0 where
  pub value : Option (List ℕ)
  pub failing : List (PlanCall × ℕ)
  pub loads : ℕ
  pub puts : ℕ
  pub faults : ℕ

-- the number of the next call of this kind
abbrev pub number_of : StoredPlan → PlanCall → ℕ
number_of store Load = store.loads
number_of store Put = store.puts

-- the next call of this kind is to fail
abbrev pub IsListed : StoredPlan → PlanCall → Type 0
IsListed store call = Contains store.failing (call, number_of store call)

-- the store with a call of this kind more
abbrev pub numbered : StoredPlan → PlanCall → StoredPlan
numbered store Load = record store { loads = risen store.loads }
numbered store Put = record store { puts = risen store.puts }

-- the store with a fault more
abbrev pub failed : StoredPlan → StoredPlan
failed store = record store { faults = risen store.faults }

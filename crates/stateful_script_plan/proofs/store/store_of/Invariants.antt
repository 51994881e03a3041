use Rattle.std.proofs.Common.{◌∷◌, take}
use Rattle.std.specs.Ordering.{nat_cmp}
use Rattle.std.specs.BTreeMap.{get}
use Rattle.stateful_script_plan.specs.Events.{planned_at}
use Rattle.stateful_script_plan.specs.Store.{Keeps, finalized}
use Rattle.stateful_script_plan.proofs.store.store_of.Given as goal

abbrev pub invariant-loop-event : goal.invariant-loop-event
invariant-loop-event l = Keeps (get nat_cmp l.store.blocks) ((planned_at l.planned 0).block ∷ finalized l.planned (take l.event-index l.script))

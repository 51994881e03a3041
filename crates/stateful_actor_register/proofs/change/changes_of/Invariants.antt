use Rattle.std.proofs.Common.{◌≡◌, ◌∷◌, map, take}
use Rattle.stateful_actor_register.specs.Change.{change_by_event, change_by_mark}
use Rattle.stateful_actor_register.proofs.change.changes_of.Given as goal

-- the changes so far
abbrev pub invariant-loop-mark : goal.invariant-loop-mark
invariant-loop-mark g l = l.changes.items ≡ change_by_event l.event ∷ map change_by_mark (take l.mark-index l.marks)

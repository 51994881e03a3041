use Rattle.std.proofs.Common.{◌≡◌, drop}
use Rattle.stateful_db_any.specs.Staged.{slot_writes, with_writes}
use Rattle.stateful_db_any.proofs.staged.put_slots.Given as goal

-- the slots that are left lead to the same batch
abbrev pub invariant-loop-i : goal.invariant-loop-i
invariant-loop-i g l =
    let cmp = g.K.Ord.cmp in
    with_writes cmp l.batch (slot_writes (drop l.i l.keys) (drop l.i l.slots)) ≡ with_writes cmp l.initial.batch (slot_writes l.keys l.slots)

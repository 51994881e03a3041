use Rattle.std.proofs.Common.{◌≡◌, drop}
use Rattle.stateful_db_any.specs.Staged.{with_writes}
use Rattle.stateful_db_any.proofs.staged.put_each.Given as goal

-- the writes that are left lead to the same batch
abbrev pub invariant-loop-key : goal.invariant-loop-key
invariant-loop-key g l =
    let cmp = g.K.Ord.cmp in
    with_writes cmp l.batch (drop l.key-index l.writes) ≡ with_writes cmp l.initial.batch l.writes

use Rattle.stateful_base.proofs.Formats.{write_rest}
use Rattle.stateful_sync_plan.proofs.States.{floor_case}
use Rattle.stateful_sync_plan.proofs.state.SyncState.write.Goals as goal

pub returns-in_ok-write_u8-in-InProgress : goal.returns-in_ok-write_u8-in-InProgress
returns-in_ok-write_u8-in-InProgress g c =
    rw c.in-InProgress.is
    (write_rest _ _ _ _ (floor_case g.S.Scheme.certificates g.met.S.Scheme.lawful) c.in-InProgress.finalization _ _ _ _ c.in_ok-write_u8-in-InProgress.ensures.appended c.write.ensures)

use Rattle.std.proofs.Common.{ℕ, ◌<◌, ◌^◌, length}
use Rattle.stateful_exec_pause.specs.Pausing.{IsAwaited}
use Rattle.stateful_exec_tables.specs.declared.tables.LiveRun.{LiveRun}
use Rattle.stateful_exec_tables.proofs.Pauses.{Counts}
use Rattle.stateful_exec_tables.proofs.state.Tables.awaited.Given as goal

abbrev pub invariant-loop-run : goal.invariant-loop-run
invariant-loop-run g l = record {
  counts : Counts (λ (e : ℕ × LiveRun g.row.B.Denot g.row.R.Denot). IsAwaited g.B.Block.header l.self.pause e.1.block) l.self.runs l.run-iterator l.count;
  small : length l.self.runs < 2 ^ 63;
}

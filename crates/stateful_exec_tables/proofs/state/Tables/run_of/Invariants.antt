use Rattle.std.proofs.Common.{◌≡◌}
use Rattle.stateful_exec_tables.proofs.Entries.{Searches}
use Rattle.stateful_exec_tables.proofs.state.Tables.run_of.Given as goal

abbrev pub invariant-loop-job : goal.invariant-loop-job
invariant-loop-job g l = Searches l.self.runs (λ run. run.block.digest ≡ l.digest) l.job-iterator

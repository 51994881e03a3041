use Rattle.std.proofs.Common.{sym}
use Rattle.stateful_exec_tables.specs.Stepping.{needs, gone}
use Rattle.stateful_exec_tables.proofs.state.Tables.needs.Goals as goal

pub returns-in_default : goal.returns-in_default
returns-in_default g c = gone (sym c.in_default.ensures)

pub returns : goal.returns
returns g c = needs (sym c.in-Some.ensures) (rw c.as_slice-acquired.ensures at c.in_ok-found.ensures)

use Rattle.stateful_exec_tables.specs.Stepping.{sets_out, not_free}
use Rattle.stateful_exec_tables.proofs.state.Tables.set_out.Goals as goal

pub returns-in_default-clause-ok : goal.returns-in_default-clause-ok
returns-in_default-clause-ok g c = not_free c.in_default.ensures.none c.in_default.ensures.same

pub returns-clause-ok : goal.returns-clause-ok
returns-clause-ok g c = sets_out c.in-Some.ensures.free (rw c.in-Some.ensures.rest at c.in_ok-park.ensures.ok)

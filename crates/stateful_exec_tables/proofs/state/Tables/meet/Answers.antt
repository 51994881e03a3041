use Rattle.std.proofs.Common.{refl}
use Rattle.stateful_exec_walk.proofs.Walking.{refused}
use Rattle.stateful_exec_tables.proofs.state.Tables.meet.Goals as goal

pub returns-then-not-goes_on : goal.returns-then-not-goes_on
returns-then-not-goes_on g c = ((c.in-Some.block.now, c.in-Some.ensures.next, refused _ _ c.goes_on.ensures c.if-not-goes_on.true), refl)

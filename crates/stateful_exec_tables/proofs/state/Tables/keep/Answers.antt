use Rattle.stateful_exec_walk.proofs.Walking.{refused}
use Rattle.stateful_exec_tables.proofs.Keeping.{stays, changed, not_later, orphaned, more}
use Rattle.stateful_exec_tables.proofs.state.Tables.keep.Goals as goal
use Rattle.stateful_exec_tables.proofs.state.Tables.keep.Goals.{then-not-is_later_than-via-then-not-is_later_than, then-not-is_later_than-via-else-not-is_later_than+then-not-knows}

pub returns-then-is-clause-takes : goal.returns-then-is-clause-takes
returns-then-is-clause-takes g c =
    let found = c.in-Some.ensures.found in
    stays g.B.Block.header _ _ _ _ c.of-step.result c.of-step.ensures c.in-Some.entry.now c.step_in-before.result found.0 c.step_in-before.ensures (c.is.ensures.0 c.if-is.true)

pub returns-in-Some-clause-fault : goal.returns-in-Some-clause-fault
returns-in-Some-clause-fault g c =
    let found = c.in-Some.ensures.found in
    changed g.B.Block.header c.args.self.now.anchor _ c.args.batch _ c.of-step.result c.of-step.ensures c.in-Some.entry.now c.step_in-before.result found.0 found.1 c.step_in-before.ensures (refused _ _ c.is.ensures c.if-is.false)

pub returns-then-not-is_later_than-clause-takes : goal.returns-then-not-is_later_than-clause-takes
returns-then-not-is_later_than-clause-takes g c = elim c.then-not-is_later_than.branch [
  | then-not-is_later_than-via-then-not-is_later_than w ↦ not_later g.B.Block.header _ _ _ _ c.of-step.result c.of-step.ensures c.in_default.ensures.absent (refused _ _ c.is_later_than.ensures w.if-not-is_later_than.true)
  | then-not-is_later_than-via-else-not-is_later_than+then-not-knows w ↦ orphaned g.B.Block.header _ _ _ _ c.of-step.result c.of-step.ensures c.in_default.ensures.absent (refused _ _ w.knows.ensures w.if-not-knows.true)
]

pub returns-clause-takes : goal.returns-clause-takes
returns-clause-takes g c =
    more g.B.Block.header _ _ _ _ c.of-step.result c.of-step.ensures _ c.in_default.ensures.absent (c.is_later_than.ensures.0 c.if-not-is_later_than.false) (c.knows.ensures.0 c.if-not-knows.false) c.in_ok-insert.ensures.ok

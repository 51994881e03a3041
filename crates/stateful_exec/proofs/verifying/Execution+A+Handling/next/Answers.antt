use Rattle.stateful_exec.proofs.verifying.Execution+A+Handling.next.Goals as goal

pub returns-clause-next : goal.returns-clause-next
returns-clause-next g c = rw (← c.self.view_is) c.next_step.ensures.next

pub returns-clause-none : goal.returns-clause-none
returns-clause-none g c = rw (← c.self.view_is) c.next_step.ensures.none

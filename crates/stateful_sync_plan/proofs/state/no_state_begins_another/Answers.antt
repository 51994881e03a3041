use Rattle.stateful_sync_plan.proofs.States.{state_tags}
use Rattle.stateful_sync_plan.proofs.Wholes.{one_worth}
use Rattle.stateful_sync_plan.proofs.state.no_state_begins_another.Goals as goal

pub returns-clause-states : goal.returns-clause-states
returns-clause-states g c = (state_tags g.S.Scheme.certificates g.met.S.Scheme.lawful).law

pub returns-clause-worth : goal.returns-clause-worth
returns-clause-worth g c = one_worth _ (state_tags g.S.Scheme.certificates g.met.S.Scheme.lawful).law

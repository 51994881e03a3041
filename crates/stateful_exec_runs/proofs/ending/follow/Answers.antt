use Rattle.stateful_exec_model.specs.Ending.Follows.{goes_on}
use Rattle.stateful_exec_runs.proofs.ending.follow.Goals as goal

pub returns-in_ok-advance-in-GoesOn-clause-ok : goal.returns-in_ok-advance-in-GoesOn-clause-ok
returns-in_ok-advance-in-GoesOn-clause-ok g c =
    let fate = c.in-GoesOn.ensures in
    goes_on fate.0 fate.1 fate.2 fate.3 c.in_ok-advance-in-GoesOn.ensures.ok

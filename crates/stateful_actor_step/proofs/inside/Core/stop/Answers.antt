use Rattle.stateful_actor_step.proofs.inside.Core.stop.Goals as goal

pub returns-clause-cleared : goal.returns-clause-cleared
returns-clause-cleared g c =
    let D = g.A.Databases.DatabaseSet in
    λ d k. c.clear.ensures.cleared (D.members d) (D.next d) k

use Rattle.stateful_scripts.proofs.counter.machine.run.Goals as goal

-- a new machine is new beside any databases
pub drive-driven-requires-clause-new : goal.drive-driven-requires-clause-new
drive-driven-requires-clause-new g c =
    let D = g.A.Databases.DatabaseSet in
    c.in-Ok.ensures.new (D.members c.args.databases) (D.next c.args.databases)

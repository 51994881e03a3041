use Rattle.std.proofs.Common.{◌<◌, arith}
use Rattle.stateful_pass_sets.specs.Seeking.{seeking}
use Rattle.stateful_pass_sets.proofs.Singles.{made}
use Rattle.stateful_pass_sets.proofs.held.HeldStateSyncSet.finish.Goals as goal

pub returns-in-Ok-clause-ok : goal.returns-in-Ok-clause-ok
returns-in-Ok-clause-ok g c =
    let numbered : 0 < g.D.ManagedDb.next c.in-Ok.database = omega (arith, g.met.D.ManagedDb.numbered (g.D.StateSyncDb.medium_of c.args.passes), c.in-Ok.ensures.ok.next) in
    let fetched = g.D.StateSyncDb.fetched c.args.passes in
    made g.D.ManagedDb.target_of g.D.SyncTarget.Targeted.targeted g.D.ManagedDb.begun g.D.ManagedDb.initial (g.D.StateSyncDb.made fetched) (λ i. seeking fetched) (g.D.ManagedDb.next c.in-Ok.database) (g.D.ManagedDb.standing c.in-Ok.database) numbered c.in-Ok.ensures.ok.standing (λ i. c.in-Ok.ensures.ok.target)

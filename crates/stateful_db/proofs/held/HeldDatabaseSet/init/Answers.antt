use Rattle.std.proofs.Common.{◌<◌, arith}
use Rattle.stateful_db.proofs.Openings.{opening}
use Rattle.stateful_db.proofs.held.HeldDatabaseSet.init.Goals as goal

pub returns-in-Ok-clause-opening : goal.returns-in-Ok-clause-opening
returns-in-Ok-clause-opening g c = λ shut t is.
    let numbered : 0 < g.D.ManagedDb.next c.in-Ok.database = omega (arith, g.met.D.ManagedDb.numbered c.match-replace.medium, c.in-Ok.ensures.ok_next) in
    opening _ _ _ _ _ c.args.expected t (g.D.ManagedDb.disk c.match-replace.medium) _ numbered is c.in-Ok.ensures.ok

use Rattle.stateful_db.proofs.Chains.{not_missing}
use Rattle.stateful_db.specs.Disk.{point}
use Rattle.stateful_db.proofs.held.HeldDatabaseSet.seal.Goals as goal

pub returns-in-Here-clause-stale : goal.returns-in-Here-clause-stale
returns-in-Here-clause-stale g c = λ refused p chain here shown among.
    let missing = rw (g.met.D.ManagedDb.same_point c.in-Here.database) at (c.merkleize.ensures.stale chain shown).0 refused in
    not_missing (point (g.D.ManagedDb.standing c.in-Here.database)) p chain (rw c.in-Here.is at here) among missing

use Rattle.std.proofs.Common.{◌<◌, suc, refl, arith}
use Rattle.stateful_db.specs.Member.{here}
use Rattle.stateful_db.specs.Single.{single}
use Rattle.stateful_pass_sets.specs.Seeking.{seeking}
use Rattle.stateful_pass_sets.proofs.Pairs.{both_made, each_led}
use Rattle.stateful_pass_sets.proofs.Singles.{made}
use Rattle.stateful_pass_sets.proofs.pair.Tuple2HeldStateSyncSetTuple2.finish.Goals as goal

pub finish-requires-2 : goal.finish-requires-2
finish-requires-2 g c = λ i within. c.requires (suc i) (omega arith)

pub returns-in-Ok-finish-clause-ok : goal.returns-in-Ok-finish-clause-ok
returns-in-Ok-finish-clause-ok g c =
    let db = g.A.ManagedDb in
    let first = single db.target_of g.A.SyncTarget.Targeted.targeted db.begun db.initial in
    let fetched = g.A.StateSyncDb.fetched c.args.passes.0 in
    let made_first = g.A.StateSyncDb.made fetched in
    let database = c.in-Ok.database in
    let others = c.in-Ok-finish.others in
    let numbered : 0 < db.next database = omega (arith, g.met.A.ManagedDb.numbered (g.A.StateSyncDb.medium_of c.args.passes.0), c.in-Ok.ensures.ok.next) in
    both_made first g.S.DatabaseSet.kind (made_first, g.S.StateSyncSet.made c.args.passes.1) (λ i. seeking fetched) (g.S.StateSyncSet.syncs c.args.passes.1) (db.next database, g.S.DatabaseSet.next others) (here (db.standing database), g.S.DatabaseSet.members others) refl
    (made db.target_of g.A.SyncTarget.Targeted.targeted db.begun db.initial made_first (λ i. seeking fetched) (db.next database) (db.standing database) numbered c.in-Ok.ensures.ok.standing (λ i. c.in-Ok.ensures.ok.target))
    c.in-Ok-finish.ensures.ok

pub returns-in-Ok-finish-clause-leads : goal.returns-in-Ok-finish-clause-leads
returns-in-Ok-finish-clause-leads g c =
    each_led g.S.DatabaseSet.kind.count c.in-Ok.ensures.leads c.in-Ok-finish.ensures.leads

use Rattle.stateful_pass_sets.proofs.Stepping.{same_told, moves, calls_sync, faults}
use Rattle.stateful_pass_sets.proofs.held.HeldStateSyncSet.progress.Goals as goal

pub returns-clause-asks : goal.returns-clause-asks
returns-clause-asks g c =
    let d = g.D.StateSyncDb in
    rw (c.numbered.ensures, same_told g.D.SyncTarget.Targeted.targeted (d.fetched c.args.passes.now).target c.progress.result)
    c.progress.ensures.asks

pub returns-clause-moves : goal.returns-clause-moves
returns-clause-moves g c =
    let d = g.D.StateSyncDb in
    let m = d.medium_of c.args.passes.now in
    let n = d.medium_of c.progress.new.pass in
    rw c.numbered.ensures
    (moves d.linked d.alone g.R.SyncSource.serves g.D.SyncTarget.Targeted.targeted (g.D.ManagedDb.calls_of m) (g.D.ManagedDb.calls_of n) (g.D.Medium.Faulty.count m) (g.D.Medium.Faulty.count n) (d.fetched c.args.passes.now) c.args.sources.now c.progress.result (d.fetched c.progress.new.pass) c.progress.new.source
    c.progress.ensures.asks c.progress.ensures.reaches c.progress.ensures.keeps.kind)

pub returns-clause-calls : goal.returns-clause-calls
returns-clause-calls g c =
    let d = g.D.StateSyncDb in
    let m = d.medium_of c.args.passes.now in
    let n = d.medium_of c.progress.new.pass in
    rw c.numbered.ensures
    (calls_sync g.D.SyncTarget.Targeted.targeted (g.D.ManagedDb.calls_of m) (g.D.ManagedDb.calls_of n) (g.D.Medium.Faulty.count m) (g.D.Medium.Faulty.count n) (d.fetched c.args.passes.now) c.args.sources.now c.progress.result (d.fetched c.progress.new.pass) c.progress.new.source
    c.progress.ensures.asks)

pub returns-clause-err : goal.returns-clause-err
returns-clause-err g c =
    rw c.numbered.ensures
    (faults g.D.SyncTarget.Targeted.targeted c.args._index _ _ _ _ c.progress.result c.requires.within c.progress.ensures.causes)

use Rattle.std.proofs.Common.{rules, Err, ap}
use Rattle.stateful_loop_model.proofs.BarrierCalls.{none_awaiting}
use Rattle.stateful_loop_model.proofs.Handing.{err_holds}
use Rattle.stateful_loop_model.proofs.Leaving.{preserves_flushing}
use Rattle.stateful_loop_finals.proofs.barrier.flushed.Goals as goal

pub returns-in_default-clause-fault : goal.returns-in_default-clause-fault
returns-in_default-clause-fault g c = none_awaiting c.args.number c.args.index c.args.processing.now.barriers (search rules)

pub returns-in_err-flush-clause-left : goal.returns-in_err-flush-clause-left
returns-in_err-flush-clause-left g c =
    let d = g.A.Databases.DatabaseSet.kind in
    let old = g.A.Databases.DatabaseSet.members c.args.databases.now in
    let new = g.A.Databases.DatabaseSet.members c.flush.new.self in
    let e = c.in_err-flush.field-0.0 in
    let failed = c.in_err-flush.ensures in
    err_holds c.from_residual.result record {
      states = failed.err;
      preserves = λ few. preserves_flushing d g.met.A.Databases.DatabaseSet.laws old new e c.args.index c.in-Some.token.place
          (λ is. failed.lost (ap Err is)) (λ is. failed.exhausted (ap Err is)) (λ n k is. (failed.fault n k (ap Err is)).4)
          (λ is. failed.memory (ap Err is));
    }

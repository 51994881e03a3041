use Rattle.std.proofs.Common.{rules, Err, ap}
use Rattle.stateful_loop_model.specs.Causes.{FaultsBarrier}
use Rattle.stateful_loop_model.specs.Errors.{error_of_set}
use Rattle.stateful_loop_model.proofs.Handing.{converted, err_holds}
use Rattle.stateful_loop_model.proofs.Leaving.{preserves_finalizing}
use Rattle.stateful_loop_model.proofs.BarrierCalls.{fault_finalizing}
use Rattle.stateful_loop_finals.proofs.barrier.begin_barrier.Goals as goal

pub returns-in_err-barrier-clause-fault : goal.returns-in_err-barrier-clause-fault
returns-in_err-barrier-clause-fault g c =
    let d = g.A.Databases.DatabaseSet.kind in
    let before = g.A.Databases.DatabaseSet.counted c.args.databases.now in
    let now = g.A.Databases.DatabaseSet.counted c.finalize.new.self in
    let new = g.A.Databases.DatabaseSet.members c.finalize.new.self in
    let e = c.in_err-barrier.field-0.0 in
    let failed = c.in_err-barrier.ensures in
    converted (FaultsBarrier d before now new c.args.processing.now.next_barrier) c.from_residual.result (error_of_set e) c.from_residual.ensures.1
    (fault_finalizing d before now new e c.args.processing.now.next_barrier (search rules) (λ is. failed.lost (ap Err is)) (λ is. failed.exhausted (ap Err is)) (λ n k is bound. let f = failed.fault n k (ap Err is) bound in (f.0, f.1, f.2, f.3)))

pub returns-in_err-barrier-clause-left : goal.returns-in_err-barrier-clause-left
returns-in_err-barrier-clause-left g c =
    let d = g.A.Databases.DatabaseSet.kind in
    let old = g.A.Databases.DatabaseSet.members c.args.databases.now in
    let new = g.A.Databases.DatabaseSet.members c.finalize.new.self in
    let e = c.in_err-barrier.field-0.0 in
    let failed = c.in_err-barrier.ensures in
    err_holds c.from_residual.result record {
      states = failed.err;
      preserves = λ few. preserves_finalizing d g.met.A.Databases.DatabaseSet.laws old new e (λ is. failed.lost (ap Err is))
          (λ is. failed.exhausted (ap Err is)) (λ n k is. (failed.fault n k (ap Err is) few).4) (λ is. failed.memory (ap Err is));
    }

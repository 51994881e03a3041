use Rattle.std.proofs.Common.{◌≡◌, suc, ap, sym, ◌∙◌, arith, Err}
use Rattle.std.proofs.lemmas.Result.{err_from_is_err_and}
use Rattle.stateful_db.specs.declared.database.DbCall.TheVariants.{Prune}
use Rattle.stateful_db.specs.declared.set.SetError.TheVariants.{DatabaseFault}
use Rattle.stateful_db.proofs.Pairs.{each_goes, each_passes, goes_same, each_later, same_count, same_error, fault_behind, memory_behind}
use Rattle.stateful_db.proofs.pair.Tuple2HeldDatabaseSet.prune.Goals as goal

pub returns-in_err-prune-clause-later : goal.returns-in_err-prune-clause-later
returns-in_err-prune-clause-later g c = each_later (c.in_err-prune.ensures.later 0) (same_count _)

pub returns-in-Ok-clause-later : goal.returns-in-Ok-clause-later
returns-in-Ok-clause-later g c = each_later (c.in_ok-prune.ensures.later 0) c.in-Ok.ensures.later

pub returns-in-Err-clause-later : goal.returns-in-Err-clause-later
returns-in-Err-clause-later g c = each_later (c.in_ok-prune.ensures.later 0) c.in-Err.ensures.later

pub returns-in-Err-clause-fault : goal.returns-in-Err-clause-fault
returns-in-Err-clause-fault g c = λ n k is few.
    let b = fault_behind c.in-Err.error n k (sym c.behind.ensures ∙ same_error is) in
    let f = c.in-Err.ensures.fault b.0 k (ap Err b.1) (omega arith) in
    let number : n ≡ suc b.0 = omega (arith, b.2, f.1) in
    rw number (f.0, omega (arith, f.1), f.2, f.3, (c.in_ok-prune.ensures.ok, f.4))

pub returns-in-Err-clause-memory : goal.returns-in-Err-clause-memory
returns-in-Err-clause-memory g c = λ is.
    let same = memory_behind c.in-Err.error (sym c.behind.ensures ∙ same_error is) in
    let f = c.in-Err.ensures.memory (ap Err same) in
    (suc f.0, omega (arith, f.1), (c.in_ok-prune.ensures.ok, f.2))

pub returns-in_err-prune-clause-called : goal.returns-in_err-prune-clause-called
returns-in_err-prune-clause-called g c = each_goes Prune _ _ _ _ (c.in_err-prune.ensures.called 0) (goes_same Prune _)

pub returns-in_err-prune-clause-fails : goal.returns-in_err-prune-clause-fails
returns-in_err-prune-clause-fails g c = λ n k is few.
    let p = err_from_is_err_and c.from_residual.result c.from_residual.ensures.1 in
    let same : c.in_err-prune.field-0.0 ≡ DatabaseFault n k = cc in
    let f = c.in_err-prune.ensures.fault n k (ap Err same) (omega arith) in
    let number : n ≡ 0 = omega (arith, f.1) in
    rw number (c.in_err-prune.ensures.fails n k (ap Err same) (omega arith))

pub returns-in-Ok-clause-called : goal.returns-in-Ok-clause-called
returns-in-Ok-clause-called g c = each_goes Prune _ _ _ _ (c.in_ok-prune.ensures.called 0) c.in-Ok.ensures.called

pub returns-in-Ok-clause-passes : goal.returns-in-Ok-clause-passes
returns-in-Ok-clause-passes g c = each_passes Prune _ _ _ _ _ (c.in_ok-prune.ensures.passes 0 (omega arith)) c.in-Ok.ensures.passes

pub returns-in-Err-clause-called : goal.returns-in-Err-clause-called
returns-in-Err-clause-called g c = each_goes Prune _ _ _ _ (c.in_ok-prune.ensures.called 0) c.in-Err.ensures.called

pub returns-in-Err-clause-fails : goal.returns-in-Err-clause-fails
returns-in-Err-clause-fails g c = λ n k is few.
    let b = fault_behind c.in-Err.error n k (sym c.behind.ensures ∙ same_error is) in
    let f = c.in-Err.ensures.fault b.0 k (ap Err b.1) (omega arith) in
    let number : n ≡ suc b.0 = omega (arith, b.2, f.1) in
    rw number (c.in-Err.ensures.fails b.0 k (ap Err b.1) (omega arith))

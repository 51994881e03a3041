use Rattle.std.proofs.Common.{◌≡◌, suc, ap, sym, refl, ◌∙◌, arith, Err}
use Rattle.stateful_db.specs.declared.database.DbCall.TheVariants.{Flush}
use Rattle.stateful_db.proofs.Pairs.{each_goes, goes_same, each_later, same_count, same_error, fault_behind}
use Rattle.stateful_db.proofs.pair.Tuple2HeldDatabaseSet.flush.Goals as goal

pub returns-then-index-eq0-clause-later : goal.returns-then-index-eq0-clause-later
returns-then-index-eq0-clause-later g c = each_later (c.flush.ensures.later 0) (same_count _)

pub returns-in-Err-clause-fault : goal.returns-in-Err-clause-fault
returns-in-Err-clause-fault g c = λ n k is.
    let b = fault_behind c.in-Err.error n k (sym c.behind.ensures ∙ same_error is) in
    let f = c.in-Err.ensures.fault b.0 k (ap Err b.1) in
    let number : n ≡ suc b.0 = omega (arith, b.2, f.1) in
    rw number (f.0, omega (arith, f.1), f.2, f.3, (refl, f.4))

pub returns-then-index-eq0-clause-called : goal.returns-then-index-eq0-clause-called
returns-then-index-eq0-clause-called g c = each_goes Flush _ _ _ _ (c.flush.ensures.called 0) (goes_same Flush _)

pub returns-in-Err-clause-fails : goal.returns-in-Err-clause-fails
returns-in-Err-clause-fails g c = λ n k is.
    let b = fault_behind c.in-Err.error n k (sym c.behind.ensures ∙ same_error is) in
    let f = c.in-Err.ensures.fault b.0 k (ap Err b.1) in
    let number : n ≡ suc b.0 = omega (arith, b.2, f.1) in
    rw number (c.in-Err.ensures.fails b.0 k (ap Err b.1))
